use Rattle.std.proofs.Common.{◌≡◌, refl, sym, ◌∙◌, inl, inr, map, string_bytes, arith}
use Rattle.ic_outside.specs.Faults.{next_count}
use Rattle.ct_words.specs.Options.{options_of}
use Rattle.ct_host.proofs.Ends.{ends_well, is_over, rose, was_told}
use Rattle.ct_host.proofs.top.canister_test.Goals as goal

pub returns-clause-ended : goal.returns-clause-ended
returns-clause-ended g c = λ options is.
    let run = c.run_words-ended.ensures in
    rw c.conclude.ensures.out (ends_well (g.D.Disk.gives c.args.disk.now) options _ _ _ _ c.run_words-ended.result c.conclude.result (run.ended options is)
    (λ told e. run.told told options e is) c.conclude.ensures.status)

pub returns-clause-silent : goal.returns-clause-silent
returns-clause-silent g c = λ why is.
    let run = c.run_words-ended.ensures in
    let over = is_over (g.D.Disk.gives c.args.disk.now) (options_of (map string_bytes c.args.words.now)) _ _ c.run_words-ended.result (λ none. (run.refused none).1) run.ended in
    let found = was_told _ _ c.run_words-ended.result c.conclude.result why over c.conclude.ensures.status is in
    rw (c.conclude.ensures.out, run.silent found.0 found.1) refl

pub returns-clause-write : goal.returns-clause-write
returns-clause-write g c = λ is.
    let run = c.run_words-ended.ensures in
    let over = is_over (g.D.Disk.gives c.args.disk.now) (options_of (map string_bytes c.args.words.now)) _ _ c.run_words-ended.result (λ none. (run.refused none).1) run.ended in
    elim (rose _ _ c.run_words-ended.result c.conclude.result (g.K.Sink.faults c.args.outputs.now.out) over c.conclude.ensures.status is) [
      | inl broke ↦ inl (let e : g.K.Sink.faults c.conclude.new.self.out ≡ next_count (g.K.Sink.faults c.args.outputs.now.out) = rw c.conclude.ensures.out (run.counted ∙ broke) in omega (arith, e))
      | inr (told, e, more) ↦ inr (let m : g.E.Sink.faults c.conclude.new.self.err ≡ next_count (g.E.Sink.faults c.args.outputs.now.err) = rw (sym (run.silent told e)) more in omega (arith, m))
    ]
