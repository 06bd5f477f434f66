use Rattle.std.proofs.Common.{◌≡◌, ◌∙◌, ◌≤◌, ap, ap₂, sym, arith, length, false, inl, inr}
use Rattle.std.specs.List.{slice_index_or}
use Rattle.std.specs.Ordering.{is_lt, nat_cmp}
use Rattle.std.specs.Cmp.Lexicographic.{slice_cmp}
use Rattle.std.proofs.lemmas.Bool.{cases_lt}
use Rattle.std.proofs.lemmas.List.{get_or_default}
use Rattle.ic_tree.proofs.Order.{put_here, put_last}
use Rattle.ic_tree.proofs.fields.place.Goals as goal

pub loop-at-init : goal.loop-at-init
loop-at-init c = λ k d lt. absurd (omega arith)

pub returns-then-is_lt-clause-place : goal.returns-then-is_lt-clause-place
returns-then-is_lt-clause-place c =
    let pair : c.as_slice.result.now ≡ c.args.pair.now = c.as_slice.ensures.value ∙ c.pair.view_is in
    let other : c.as_slice-in-loop-at.result.now ≡ slice_index_or c.args.pairs.now c.loop-at.at c.index-pairs-at.result =
    c.as_slice-in-loop-at.ensures.value ∙ (c.other.view_is ∙ c.index-pairs-at.is) in
    put_here c.args.pair.now c.args.pairs.now c.loop-at.at c.index-pairs-at.result c.loop-at-test.true c.loop-at.invariant
    (sym (c.is_lt.ensures ∙ ap is_lt (c.cmp.ensures ∙ ap₂ (slice_cmp nat_cmp) pair other)) ∙ c.if-is_lt.true)

pub loop-at-preserved : goal.loop-at-preserved
loop-at-preserved c = λ k d lt.
    let pair : c.as_slice.result.now ≡ c.args.pair.now = c.as_slice.ensures.value ∙ c.pair.view_is in
    let other : c.as_slice-in-loop-at.result.now ≡ slice_index_or c.args.pairs.now c.loop-at.at c.index-pairs-at.result =
    c.as_slice-in-loop-at.ensures.value ∙ (c.other.view_is ∙ c.index-pairs-at.is) in
    let here : is_lt (slice_cmp nat_cmp c.args.pair.now (slice_index_or c.args.pairs.now c.loop-at.at c.index-pairs-at.result)) ≡ false =
    sym (c.is_lt.ensures ∙ ap is_lt (c.cmp.ensures ∙ ap₂ (slice_cmp nat_cmp) pair other)) ∙ c.if-is_lt.false in
    elim (cases_lt k c.loop-at.at) [
      | inl under ↦ c.loop-at.invariant k d under
      | inr over ↦
          let same : k ≡ c.loop-at.at = omega arith in
          let default : slice_index_or c.args.pairs.now c.loop-at.at d ≡ slice_index_or c.args.pairs.now c.loop-at.at c.index-pairs-at.result =
          get_or_default c.args.pairs.now c.loop-at.at d c.index-pairs-at.result c.loop-at-test.true in
          rw (same, default) here
    ]

pub returns-clause-place : goal.returns-clause-place
returns-clause-place c =
    let end : length c.args.pairs.now ≤ c.loop-at.at = c.loop-at-test.false in
    put_last c.args.pair.now c.args.pairs.now (λ k d lt. c.loop-at.invariant k d (omega arith))
