-- The tags of messages of one way are equal.
use Rattle.std.proofs.Common.{◌≡◌, ℕ, false, refl, ap₂, inl, inr}
use Rattle.std.proofs.lemmas.Bool.{cases_Bool}
use Rattle.ic_behaviour.specs.declared.call.Message.{Message}
use Rattle.ic_behaviour.specs.State.{at, callee_of}
use Rattle.ic_behaviour.specs.Steps.{sender_of, same_way}
use Rattle.ic_behaviour.proofs.Weights.{at-is}
use Rattle.ic_held.specs.Holding.{way_tag}

abbrev tag : Message → ℕ
tag m = way_tag (sender_of m) (callee_of m)

pub other-way : (m x : Message) → (tag m ≡ tag x → ⊥) → false ≡ same_way m x
other-way m x differ = elim (cases_Bool (at (sender_of m) (sender_of x))) [
  | inl from ↦ elim (cases_Bool (at (callee_of m) (callee_of x))) [
    | inl to ↦ absurd (differ (ap₂ way_tag (at-is (sender_of m) (sender_of x) from) (at-is (callee_of m) (callee_of x) to)))
    | inr past ↦ rw (from, past) refl
  ]
  | inr apart ↦ rw apart refl
]
