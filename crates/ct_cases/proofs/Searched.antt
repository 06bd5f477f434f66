-- What a search finds: cases that are met breadth first, and others depth first.
use Rattle.std.proofs.Common.{◌≡◌, ℕ, Bool, true, false, List, [], ◌∷◌, ◌++◌, map, sym, ap, ◌∙◌, subst}
use Rattle.std.specs.Prelude.{All}
use Rattle.std.specs.Bool.{OnTrue, OnFalse}
use Rattle.std.specs.List.{AllByRecursion}
use Rattle.std.proofs.lemmas.List.{append-nil, map-append}
use Rattle.std.proofs.lemmas.List.Elements.{All-append}
use Rattle.ic_behaviour.specs.declared.charge.Charge.{Charge}
use Rattle.ic_keep.specs.Kept.{Tables as Keeper}
use Rattle.ct_search.specs.declared.case.Case.{Case as Met}
use Rattle.ct_search.specs.Visits.{IsVisit, IsComplete, IsMore, AreMet, Tells}
use Rattle.ct_search.specs.Search.{Stays, seen, all_seen, AreHeld}
use Rattle.ct_search.proofs.Keeping.{stays_further, all_seen_stay, held_stay, starts_stay}
use Rattle.ct_worlds.specs.declared.worlds.NamedWorld.{NamedWorld}
use Rattle.ct_worlds.specs.Worlds.{Named, worlds, IsKeptNamed, named_at}
use Rattle.ct_cases.specs.declared.case.Tables.{Tables}
use Rattle.ct_cases.specs.Cases.{Grows}

-- the tables grow as what is kept does
pub grows_kept : (a b : Tables) → Stays IsKeptNamed named_at a.keeper b.keeper → b.meanings ≡ a.meanings → Grows a b
grows_kept a b stays same = record {
  kept = λ k is.
      let named : NamedWorld = record { names = 0; kept = k } in
      let there = stays named is in
      (there.0, ap (λ (x : Named). x.1) there.1);
  meanings = ([], same ∙ sym (append-nil a.meanings));
}

-- twice
pub grows_both : (a b : Tables) (mid : Keeper) → Stays IsKeptNamed named_at a.keeper mid → Stays IsKeptNamed named_at mid b.keeper → b.meanings ≡ a.meanings → Grows a b
grows_both a b mid first then same = grows_kept a b (stays_further IsKeptNamed named_at a.keeper mid b.keeper first then) same

on_true : (P : Type 0) (b : Bool) → b ≡ true → OnTrue b P → P
on_true P b is on = subst (λ (x : Bool). OnTrue x P) is on

on_false : (P : Type 0) (b : Bool) → b ≡ false → OnFalse b P → P
on_false P b is on = subst (λ (x : Bool). OnFalse x P) is on

-- what a search tells, by the charge of the setting
module _ (charge other : Charge) (same : charge ≡ other) (starts : List Named) (most : ℕ) (cases : List (Met Named)) where
  pub met_by : AreMet (worlds charge.limit charge.price) starts cases → AreMet (worlds other.limit other.price) starts cases
  met_by met = subst (λ (c : Charge). AreMet (worlds c.limit c.price) starts cases) same met

  module _ (all : Bool) (tells : Tells (worlds charge.limit charge.price) starts most cases all) where
    -- all of them
    pub complete_by : all ≡ true → IsComplete (worlds other.limit other.price) starts cases
    complete_by is =
        subst (λ (c : Charge). IsComplete (worlds c.limit c.price) starts cases) same
        (on_true (IsComplete (worlds charge.limit charge.price) starts cases) all is tells.complete)

    -- or some of more
    pub more_by : all ≡ false → IsMore (worlds other.limit other.price) starts most
    more_by is =
        subst (λ (c : Charge). IsMore (worlds c.limit c.price) starts most) same
        (on_false (IsMore (worlds charge.limit charge.price) starts most) all is tells.more)

-- the same starts again, which are still kept
pub kept_again : (old new : Keeper) → Stays IsKeptNamed named_at old new → (starts again : List NamedWorld) → again ≡ starts → AllByRecursion (IsKeptNamed old) starts → AllByRecursion (IsKeptNamed new) again
kept_again old new stays starts again same kept = subst (AllByRecursion (IsKeptNamed new)) (sym same) (still starts kept)
  where
    still : (ks : List NamedWorld) → AllByRecursion (IsKeptNamed old) ks → AllByRecursion (IsKeptNamed new) ks
    still [] held = tt
    still (k ∷ ks) held = ((stays k held.0).0, still ks held.1)

-- with those that are met depth first
all_append : {X : Type 0} (P : X → Type 0) (xs ys : List X) → AllByRecursion P xs → AllByRecursion P ys → AllByRecursion P (xs ++ ys)
all_append P [] ys all more = more
all_append P (x ∷ xs) ys all more = (all.0, all_append P xs ys all.1 more)

module _ (old mid new : Keeper) (first : Stays IsKeptNamed named_at old mid) (then : Stays IsKeptNamed named_at mid new) (cases others : List (Met NamedWorld)) where
  pub both_held : AreHeld IsKeptNamed mid cases → AreHeld IsKeptNamed new others → AreHeld IsKeptNamed new (cases ++ others)
  both_held held more = all_append (λ (m : Met NamedWorld). IsKeptNamed new m.kept) cases others (held_stay IsKeptNamed named_at mid new then cases held) more

  pub both_sound : (charge : Charge) (starts again : List NamedWorld) → again ≡ starts → AllByRecursion (IsKeptNamed old) starts → AreHeld IsKeptNamed mid cases
      → All (IsVisit (worlds charge.limit charge.price) (map (named_at old) starts)) (all_seen named_at mid cases)
      → All (IsVisit (worlds charge.limit charge.price) (map (named_at mid) again)) (all_seen named_at new others)
      → All (IsVisit (worlds charge.limit charge.price) (map (named_at old) starts)) (all_seen named_at new (cases ++ others))
  both_sound charge starts again same kept held sound more =
      let V = IsVisit (worlds charge.limit charge.price) (map (named_at old) starts) in
      let begun : map (named_at mid) again ≡ map (named_at old) starts = ap (map (named_at mid)) same ∙ starts_stay IsKeptNamed named_at old mid first starts kept in
      let there : All V (all_seen named_at new others) = subst (λ (l : List Named). All (IsVisit (worlds charge.limit charge.price) l) (all_seen named_at new others)) begun more in
      let here : All V (all_seen named_at new cases) = subst (All V) (sym (all_seen_stay IsKeptNamed named_at mid new then cases held)) sound in
      subst (All V) (sym (map-append (seen named_at new) cases others)) (All-append V (all_seen named_at new cases) (all_seen named_at new others) here there)
