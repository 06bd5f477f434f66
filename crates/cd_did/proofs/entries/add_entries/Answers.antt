use Rattle.std.proofs.Common.{length, refl, sym, ap, ◌∙◌, arith}
use Rattle.std.proofs.lemmas.Option.{slice_get_read}
use Rattle.std.specs.Prelude.{slice_get}
use Rattle.cd_grammar.specs.File.{File}
use Rattle.cd_did.proofs.MadeLemmas.{one_made, all_made}
use Rattle.cd_did.proofs.SortLemmas.{refuses_too}
use Rattle.cd_did.proofs.entries.add_entries.Goals as goal

pub returns-in-Err-clause-refused : goal.returns-in-Err-clause-refused
returns-in-Err-clause-refused c =
    let types = c.deref-written-items.ensures.value ∙ ap (λ (f : File). f.types) (c.file.view_is ∙ c.file-file.ensures) in
    let at = ap (λ ts. slice_get ts c.loop-written.written-index) (sym types) ∙ slice_get_read c.deref-written-items.result.now (length c.deref-written-items.result.now) c.loop-written.written-index c.written-item.result refl c.loop-written-test.true c.written-item.is in
    refuses_too c.in-Err.e _ _ (λ never all. never (all c.loop-written.written-index c.written-item.result at)) c.in-Err.ensures.refused

pub loop-written-preserved : goal.loop-written-preserved
loop-written-preserved c =
    let types = c.deref-written-items.ensures.value ∙ ap (λ (f : File). f.types) (c.file.view_is ∙ c.file-file.ensures) in
    let at = ap (λ ts. slice_get ts c.loop-written.written-index) (sym types) ∙ slice_get_read c.deref-written-items.result.now (length c.deref-written-items.result.now) c.loop-written.written-index c.written-item.result refl c.loop-written-test.true c.written-item.is in
    rw c.in_ok-push-in-Ok.ensures.items (one_made c.args.ended.now.names.now c.args.ended.now.ends.now c.loop-written.written-index c.loop-written.made.items c.written-item.result c.in-Ok.entry c.loop-written.invariant at c.in-Ok.ensures.ok)

pub returns-clause-ok : goal.returns-clause-ok
returns-clause-ok c =
    let types = ap length (c.deref-written-items.ensures.value ∙ ap (λ (f : File). f.types) (c.file.view_is ∙ c.file-file.ensures)) in
    all_made c.args.ended.now.names.now c.args.ended.now.ends.now c.loop-written.written-index c.loop-written.made.items c.loop-written.invariant (omega (arith, types, c.loop-written-test.false)) (omega (arith, types, c.loop-written.auto.written-index-end))
