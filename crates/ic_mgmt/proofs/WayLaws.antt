-- The ways of messages, as a set has them.
use Rattle.std.proofs.Common.{◌≡◌, ℕ, Bool, true, false, ◌&&◌, ◌||◌, cond, List, [], ◌∷◌, ◌++◌, refl, sym, ap, ◌∙◌}
use Rattle.std.specs.List.{list_any}
use Rattle.std.specs.BTreeMap.{is_at}
use Rattle.std.specs.BTreeSet.{BTreeSet, contains, Updates}
use Rattle.std.specs.declared.cmp.Ordering.{Ordering}
use Rattle.std.specs.declared.cmp.Ordering.TheVariants.{Less, Equal, Greater}
use Rattle.std.specs.Ordering.{nat_cmp, ordering_then, is_eq}
use Rattle.std.specs.Cmp.Lexicographic.{slice_cmp}
use Rattle.std.proofs.lemmas.List.Folds.{list_any-append}
use Rattle.ic_behaviour.specs.declared.call.Message.{Message}
use Rattle.ic_behaviour.specs.State.{at, callee_of}
use Rattle.ic_behaviour.proofs.Weights.{laws}
use Rattle.ic_behaviour.specs.Steps.{sender_of}
use Rattle.ic_mgmt.specs.Ways.{way_cmp, is_way, HasWays}

both-equal : (o p : Ordering) → is_eq (ordering_then o p) ≡ (is_eq o && is_eq p)
both-equal Less p = refl
both-equal Equal p = refl
both-equal Greater p = refl

at-way : (key way : List ℕ × List ℕ) → is_at (way_cmp key) way ≡ (at way.0 key.0 && at way.1 key.1)
at-way key way =
    both-equal (slice_cmp nat_cmp key.0 way.0) (slice_cmp nat_cmp key.1 way.1)
    ∙ ap (λ b. b && at key.1 way.1) (laws.symm key.0 way.0) ∙ ap (λ b. at way.0 key.0 && b) (laws.symm key.1 way.1)

or-cond : (a b : Bool) → cond a true b ≡ (b || (a || false))
or-cond true true = refl
or-cond true false = refl
or-cond false true = refl
or-cond false false = refl

-- one more stays
pub ways-push : (ways next : BTreeSet (List ℕ × List ℕ)) (kept : List Message) (m : Message) (sender callee : List ℕ) → sender ≡ sender_of m → callee ≡ callee_of m
    → HasWays ways kept → Updates way_cmp ways next (sender, callee) true → HasWays next (kept ++ m ∷ [])
ways-push ways next kept m sender callee is_sender is_callee has updates =
    λ way. updates.0 way
    ∙ ap (λ b. cond b true (contains way_cmp ways way)) (at-way (sender, callee) way ∙ ap (λ k. at way.0 k && at way.1 callee) is_sender ∙ ap (λ k. at way.0 (sender_of m) && at way.1 k) is_callee)
    ∙ ap (cond (is_way way m) true) (has way)
    ∙ or-cond (is_way way m) (list_any (is_way way) kept)
    ∙ sym (list_any-append (is_way way) kept (m ∷ []))
