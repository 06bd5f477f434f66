use Rattle.std.proofs.Common.{◌≡◌, ◌∙◌, ◌+◌, ap, sym, rules, true, false, drop}
use Rattle.std.specs.Prelude.{◌&&◌}
use Rattle.std.specs.List.{slice_index_or}
use Rattle.std.proofs.lemmas.List.{drop_all}
use Rattle.ic_script.specs.Words.{may_follow}
use Rattle.ic_script.proofs.Passes.{follows, next, well_formed}
use Rattle.ic_script.proofs.words.is_well_formed.Goals as goal

pub loop-byte-init : goal.loop-byte-init
loop-byte-init c = well_formed c.args.line.now

pub returns-then-not-may_follow : goal.returns-then-not-may_follow
returns-then-not-may_follow c =
    let i = c.loop-byte.byte-index in
    let line = c.args.line.now in
    let byte = slice_index_or line i 0 in
    let no : may_follow c.loop-byte.last byte ≡ false = search rules in
    sym (ap (λ may. may && follows byte (drop (i + 1) line)) no) ∙ (sym (next line i c.loop-byte.last 0 c.loop-byte-test.true) ∙ c.loop-byte.invariant)

pub loop-byte-preserved : goal.loop-byte-preserved
loop-byte-preserved c =
    let i = c.loop-byte.byte-index in
    let line = c.args.line.now in
    let byte = slice_index_or line i 0 in
    let yes : may_follow c.loop-byte.last byte ≡ true = search rules in
    sym (ap (λ may. may && follows byte (drop (i + 1) line)) yes) ∙ (sym (next line i c.loop-byte.last 0 c.loop-byte-test.true) ∙ c.loop-byte.invariant)

pub returns : goal.returns
unfolding follows
returns c =
    let i = c.loop-byte.byte-index in
    let line = c.args.line.now in
    sym (ap (follows c.loop-byte.last) (drop_all i line c.loop-byte-test.false)) ∙ c.loop-byte.invariant
