-- What a run leaves of its source.
use Rattle.std.proofs.Common.{◌≡◌, ℕ, IsTrue, Bool, sym, subst, ◌∙◌, inl, inr}
use Rattle.std.specs.Prelude.{◌⊎◌}

-- no fault was counted, the end was given where it was seen, and what cannot fail still cannot
pub record Reading {S : Type 0} (faults : S → ℕ) (ended : S → Bool) (cannot_fail : S → Type 0) (start now : S) (seen : Bool) : Type 0 where
  pub counted : faults now ≡ faults start
  pub gave_end : IsTrue seen → IsTrue (ended now)
  pub sure : cannot_fail start → cannot_fail now

-- after a call more
pub Reading-more : {S : Type 0} (faults : S → ℕ) (ended : S → Bool) (cannot_fail : S → Type 0) (start now next : S) (seen seen_next : Bool)
    → Reading faults ended cannot_fail start now seen → faults next ≡ faults now → (IsTrue seen → next ≡ now) → (IsTrue seen_next → IsTrue seen ⊎ IsTrue (ended next))
    → (cannot_fail now → cannot_fail next) → Reading faults ended cannot_fail start next seen_next
Reading-more faults ended cannot_fail start now next seen seen_next so_far counted over gave_end sure = record {
  counted = counted ∙ so_far.counted;
  gave_end = λ e. elim (gave_end e) [ inl was ↦ let P = λ (s : _). IsTrue (ended s) in subst P (sym (over was)) (so_far.gave_end was) | inr is ↦ is ];
  sure = λ c. sure (so_far.sure c);
}
