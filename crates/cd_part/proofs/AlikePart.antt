-- The types of a table that were met, and those of the part, are made alike.
use Rattle.std.proofs.Common.{◌≡◌, ℕ, true, List, [], ◌∷◌, map, Option, Some, refl, sym, ap, ◌∙◌, subst}
use Rattle.std.specs.Prelude.{slice_get, is_some}
use Rattle.std.specs.List.{list_all}
use Rattle.std.specs.Option.{option_map}
use Rattle.std.proofs.lemmas.List.Folds.{list_all-append}
use Rattle.cd_types.specs.declared.entry.TyRef.{TyRef}
use Rattle.cd_types.specs.declared.entry.TyRef.TheVariants.{Prim, Index}
use Rattle.cd_types.specs.declared.entry.Entry.{Entry}
use Rattle.cd_types.specs.declared.entry.Entry.TheVariants.{Opt, Seq, Rec, Var, Func, Service}
use Rattle.cd_types.specs.References.{references}
use Rattle.cd_types.specs.Shape.{Shape, compound, shape, entry_shape}
use Rattle.cd_types.proofs.FaultLemmas.{both_true}
use Rattle.cd_types.proofs.EntryLemmas.{test_at}
use Rattle.cd_part.specs.Places.{place_of, placed, renamed, renamed_under, renamed_entry}
use Rattle.cd_part.specs.Meets.{Meets}
use Rattle.cd_part.specs.IsPart.{entries_at}
use Rattle.cd_part.proofs.Closed.{is_met, some_there, parts_met, all_there}
use Rattle.cd_part.proofs.PartTable.{place_at, entry_of}
use Rattle.cd_part.proofs.Alike.{AlikeTypes, AlikeUnder, AlikeEntry, Alike}

-- the type was met, and the other is the same by places
abbrev pub IsNamed : List ℕ → TyRef → TyRef → Type 0
IsNamed met a b = (is_met met a ≡ true) × (b ≡ renamed met a)

module _ (met : List ℕ) where
  pub types_named : (types : List TyRef) → list_all (is_met met) types ≡ true → AlikeTypes (IsNamed met) types (map (renamed met) types)
  types_named [] all = refl
  types_named (t ∷ types) all =
      let parts = both_true (is_met met t) (list_all (is_met met) types) all in
      (renamed met t, map (renamed met) types, refl, (parts.0, refl), types_named types parts.1)

  under_named : {K : Type 0} (rows : List (K × TyRef)) → list_all (is_met met) (map (λ row. row.1) rows) ≡ true → AlikeUnder (IsNamed met) rows (renamed_under met rows)
  under_named [] all = refl
  under_named (row ∷ rows) all =
      let parts = both_true (is_met met row.1) (list_all (is_met met) (map (λ row. row.1) rows)) all in
      (renamed met row.1, renamed_under met rows, refl, (parts.0, refl), under_named rows parts.1)

  entry_named : (entry : Entry) → list_all (is_met met) (references entry) ≡ true → AlikeEntry (IsNamed met) entry (compound (renamed_entry met entry))
  entry_named (Opt a) all = (renamed met a, refl, ((both_true (is_met met a) true all).0, refl))
  entry_named (Seq a) all = (renamed met a, refl, ((both_true (is_met met a) true all).0, refl))
  entry_named (Rec fields) all = (renamed_under met fields, refl, under_named fields all)
  entry_named (Var cases) all = (renamed_under met cases, refl, under_named cases all)
  entry_named (Func args results notes) all =
      let parts = both_true (list_all (is_met met) args) (list_all (is_met met) results) (sym (list_all-append (is_met met) args results) ∙ all) in
      (map (renamed met) args, map (renamed met) results, refl, types_named args parts.0, types_named results parts.1)
  entry_named (Service methods) all = (renamed_under met methods, refl, under_named methods all)

module _ (table : List Entry) (types : List TyRef) (met : List ℕ) (entries : List Entry) (meets : Meets table types [] met) (are : entries_at table met ≡ map (λ entry. Some entry) entries) where
  -- an entry that was met is one of the table
  pub met_there : (number : ℕ) → is_some (place_of met number) ≡ true → (entry : Entry) × (slice_get table number ≡ Some entry)
  met_there number placed =
      let at = some_there (place_of met number) placed in
      some_there (slice_get table number) (test_at (λ k. is_some (slice_get table k)) met at.0 number (all_there table meets refl) (place_at met number at.0 at.1))

  -- what they stand for is alike
  pub named_alike : (a b : TyRef) → IsNamed met a b → Alike (IsNamed met) (shape table a) (shape entries b)
  named_alike (Prim p) b (placed, e) = ap (shape entries) e
  named_alike (Index number) b (is, e) =
      let R = IsNamed met in
      let at = some_there (place_of met number) is in
      let x = met_there number is in
      let upper : shape entries b ≡ compound (renamed_entry met x.0) =
      ap (shape entries) e ∙ ap (λ (o : Option ℕ). shape entries (placed (Index number) o)) at.1 ∙ ap entry_shape (entry_of table met entries are number at.0 at.1)
      ∙ ap (λ (o : Option Entry). entry_shape (option_map (renamed_entry met) o)) x.1 in
      subst (λ (s : Shape). Alike R (entry_shape (slice_get table number)) s) (sym upper)
      (subst (λ (o : Option Entry). Alike R (entry_shape o) (compound (renamed_entry met x.0))) (sym x.1) (entry_named met x.0 (parts_met table meets number x.0 x.1 refl is)))
