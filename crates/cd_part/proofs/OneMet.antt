-- Entries are met one after the other.
use Rattle.std.proofs.Common.{◌≡◌, ℕ, ◌+◌, true, List, [], ◌∷◌, ◌++◌, length, Some, None, refl, subst, length-append, arith}
use Rattle.std.specs.Prelude.{IsTrue, slice_get}
use Rattle.std.specs.List.{list_all}
use Rattle.std.proofs.lemmas.List.Folds.{list_all-append}
use Rattle.cd_types.specs.declared.entry.TyRef.{TyRef}
use Rattle.cd_types.specs.declared.entry.TyRef.TheVariants.{Index}
use Rattle.cd_types.specs.declared.entry.Entry.{Entry}
use Rattle.cd_types.specs.IsInside.{is_inside}
use Rattle.cd_types.specs.IsTable.{is_table}
use Rattle.cd_types.specs.References.{references}
use Rattle.cd_types.proofs.EntryLemmas.{entry_formed}
use Rattle.cd_part.specs.Places.{place_of}
use Rattle.cd_part.specs.Meets.{Meets, first, part_count, unmet}
use Rattle.cd_part.proofs.Unmet.{unmet_less}

module _ (table : List Entry) (number : ℕ) (entry : Entry) (there : slice_get table number ≡ Some entry) where
  -- an entry that was not met is met, and then its parts are to be met
  pub entry_meets : (met met' : List ℕ) (types types' : List TyRef) → place_of met number ≡ None → met' ≡ met ++ number ∷ [] → types' ≡ references entry ++ types
      → (after : List ℕ) → Meets table types' met' after → Meets table (Index number ∷ types) met after
  entry_meets met met' types types' none is parts after more =
      first entry none there (subst (λ (m : List ℕ). Meets table (references entry ++ types) m after) is (subst (λ (ts : List TyRef). Meets table ts met' after) parts more))

  -- what is to be met does not grow by more than what was not met shrinks
  pub entry_fewer : (met met' : List ℕ) (types types' : List TyRef) → place_of met number ≡ None → met' ≡ met ++ number ∷ [] → types' ≡ references entry ++ types
      → length types' + unmet part_count met' 0 table ≡ length types + unmet part_count met 0 table
  entry_fewer met met' types types' none is parts =
      let less = unmet_less part_count met number 0 table number entry there (omega arith) none in
      rw (is, parts, length-append (references entry) types) (omega (arith, less))

  -- and is inside the table
  pub entry_inside : IsTrue (is_table table) → (types types' : List TyRef) → types' ≡ references entry ++ types
      → list_all (is_inside (length table)) types ≡ true → list_all (is_inside (length table)) types' ≡ true
  entry_inside formed types types' parts all =
      let own : list_all (is_inside (length table)) (references entry) ≡ true = (entry_formed table number entry formed there).0 in
      rw (parts, list_all-append (is_inside (length table)) (references entry) types, own, all) refl
