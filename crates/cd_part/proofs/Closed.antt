-- What is met from some types: each of them, and the parts of each entry that is met.
use Rattle.std.proofs.Common.{◌≡◌, ℕ, ◌+◌, ◌≤◌, ◌==◌, Bool, true, false, List, [], ◌∷◌, ◌++◌, length, Option, Some, None, refl, sym, ap, ◌∙◌, subst, inl, inr, length-append, arith}
use Rattle.std.specs.Prelude.{slice_get, is_some}
use Rattle.std.specs.List.{list_all}
use Rattle.std.proofs.lemmas.Bool.{eqb-true}
use Rattle.std.proofs.lemmas.List.Folds.{list_all-append}
use Rattle.ic_base.proofs.Steps.{some_is}
use Rattle.cd_types.specs.declared.entry.TyRef.{TyRef}
use Rattle.cd_types.specs.declared.entry.TyRef.TheVariants.{Prim, Index}
use Rattle.cd_types.specs.declared.entry.Entry.{Entry}
use Rattle.cd_types.specs.References.{references}
use Rattle.cd_types.proofs.FaultLemmas.{both_true}
use Rattle.cd_part.specs.Places.{place_of}
use Rattle.cd_part.specs.Meets.{Meets, done, primitive, again, first, unmet}
use Rattle.cd_part.proofs.Placing.{either, place_own, place_other, place_kept}
use Rattle.cd_part.proofs.Unmet.{unmet_less, unmet_all}

-- the type is primitive, or its entry was met
abbrev pub is_met : List ℕ → TyRef → Bool
is_met met (Prim p) = true
is_met met (Index entry) = is_some (place_of met entry)

pub some_there : {A : Type 0} (o : Option A) → is_some o ≡ true → (x : A) × (o ≡ Some x)
some_there None e = absurd cc
some_there (Some x) e = (x, refl)

pub none_there : {A : Type 0} (o : Option A) → is_some o ≡ false → o ≡ None
none_there None e = refl
none_there (Some x) e = absurd cc

module _ (table : List Entry) where
  -- what has a place keeps it
  pub kept : {types : List TyRef} {before after : List ℕ} → Meets table types before after → (entry place : ℕ) → place_of before entry ≡ Some place → place_of after entry ≡ Some place
  kept done entry place is = is
  kept (primitive m) entry place is = kept m entry place is
  kept (again p e m) entry place is = kept m entry place is
  kept (first {number = n} {before = b} x none at m) entry place is = kept m entry place (place_kept b n entry place is)

  -- each type that is to be met is met
  pub all_met : {types : List TyRef} {before after : List ℕ} → Meets table types before after → list_all (is_met after) types ≡ true
  all_met done = refl
  all_met (primitive m) = all_met m
  all_met (again {entry = n} p e m) = rw (kept m n p e) (all_met m)
  all_met (first {number = n} {types = ts} {before = b} {after = a} x none at m) =
      let own : place_of a n ≡ Some (length b) = kept m n (length b) (place_own b n none) in
      let parts = both_true (list_all (is_met a) (references x)) (list_all (is_met a) ts) (sym (list_all-append (is_met a) (references x) ts) ∙ all_met m) in
      rw own parts.1

  -- and so is each part of an entry that is met
  pub parts_met : {types : List TyRef} {before after : List ℕ} → Meets table types before after → (number : ℕ) (entry : Entry) → slice_get table number ≡ Some entry → place_of before number ≡ None
      → is_some (place_of after number) ≡ true → list_all (is_met after) (references entry) ≡ true
  parts_met (done {met = m}) number entry there none met = let no : is_some (place_of m number) ≡ false = ap is_some none in absurd cc
  parts_met (primitive m) number entry there none met = parts_met m number entry there none met
  parts_met (again p e m) number entry there none met = parts_met m number entry there none met
  parts_met (first {number = n} {types = ts} {before = b} {after = a} x new at m) number entry there none met = elim (either (n == number)) [
    | inl same ↦
        let one : n ≡ number = eqb-true n number same in
        let is : x ≡ entry = some_is {A = Entry} x entry (sym at ∙ ap (slice_get table) one ∙ there) in
        let parts = both_true (list_all (is_met a) (references x)) (list_all (is_met a) ts) (sym (list_all-append (is_met a) (references x) ts) ∙ all_met m) in
        ap (λ (y : Entry). list_all (is_met a) (references y)) (sym is) ∙ parts.0
    | inr apart ↦ parts_met m number entry there (place_other b n number apart ∙ none) met
  ]

  -- each entry that is met is one of the table
  pub all_there : {types : List TyRef} {before after : List ℕ} → Meets table types before after → list_all (λ number. is_some (slice_get table number)) before ≡ true
      → list_all (λ number. is_some (slice_get table number)) after ≡ true
  all_there done all = all
  all_there (primitive m) all = all_there m all
  all_there (again p e m) all = all_there m all
  all_there (first {number = n} {before = b} x none at m) all = all_there m (rw (list_all-append (λ number. is_some (slice_get table number)) b (n ∷ []), all, at) refl)

  count : {types : List TyRef} {before after : List ℕ} → Meets table types before after
      → length after + unmet (λ e. 1) after 0 table ≡ length before + unmet (λ e. 1) before 0 table
  count done = refl
  count (primitive m) = count m
  count (again p e m) = count m
  count (first {number = n} {before = b} x none at m) = omega (arith, count m, length-append b (n ∷ []), unmet_less (λ e. 1) b n 0 table n x at (omega arith) none)

  -- at most all entries are met
  pub few_met : {types : List TyRef} {met : List ℕ} → Meets table types [] met → length met ≤ length table
  few_met m = omega (arith, count m, unmet_all 0 table)

  -- the order of meeting is one
  pub one_order : {types : List TyRef} {before a b : List ℕ} → Meets table types before a → Meets table types before b → a ≡ b
  one_order done done = refl
  one_order (primitive m) (primitive n) = one_order m n
  one_order (again p e m) (again q f n) = one_order m n
  one_order (again p e m) (first x none at n) = absurd cc
  one_order (first x none at m) (again q f n) = absurd cc
  one_order (first {number = n} {types = ts} {before = c} x none at m) (first {after = b} y none' at' o) =
      let same : y ≡ x = some_is {A = Entry} y x (sym at' ∙ at) in
      one_order m (subst (λ (z : Entry). Meets table (references z ++ ts) (c ++ n ∷ []) b) same o)
