-- The entries of a part, and that they are a table.
use Rattle.std.proofs.Common.{◌≡◌, ℕ, suc, ◌<◌, ◌≤◌, ◌==◌, Bool, true, false, cond, List, [], ◌∷◌, length, map, Option, Some, None, refl, sym, ap, ◌∙◌, inl, inr, le-leb, arith}
use Rattle.std.specs.Prelude.{◌&&◌, IsTrue, slice_get, is_some, nat_le}
use Rattle.std.specs.List.{list_all}
use Rattle.std.specs.Option.{option_map}
use Rattle.std.proofs.lemmas.Bool.{lt-ltb, eqb-true, eq-eqb}
use Rattle.std.proofs.lemmas.List.{length-map, map-append}
use Rattle.std.proofs.lemmas.Option.{slice_get-map, slice_get_within}
use Rattle.ic_base.proofs.Steps.{some_is}
use Rattle.cd_types.specs.declared.entry.TyRef.{TyRef}
use Rattle.cd_types.specs.declared.entry.TyRef.TheVariants.{Prim, Index}
use Rattle.cd_types.specs.declared.entry.Entry.{Entry}
use Rattle.cd_types.specs.declared.entry.Entry.TheVariants.{Opt, Seq, Rec, Var, Func, Service}
use Rattle.cd_types.specs.IsInside.{is_inside}
use Rattle.cd_types.specs.References.{references}
use Rattle.cd_types.specs.IsOrdered.{is_ordered, ids_rise_from, names_rise}
use Rattle.cd_types.specs.IsTable.{names_inside, is_func, is_func_at, has_funcs, is_well_formed, is_table}
use Rattle.cd_types.proofs.FaultLemmas.{both_true}
use Rattle.cd_types.proofs.EntryLemmas.{test_at, table_small}
use Rattle.cd_part.specs.Places.{place_of, placed, renamed, renamed_under, renamed_entry}
use Rattle.cd_part.specs.Meets.{Meets}
use Rattle.cd_part.specs.IsPart.{entries_at}
use Rattle.cd_part.proofs.Placing.{either}
use Rattle.cd_part.proofs.Closed.{is_met, some_there, all_met, parts_met, few_met}

-- ---- lists

later_place : (found : Option ℕ) (place : ℕ) → Some place ≡ option_map suc found → (p : ℕ) × (found ≡ Some p) × (place ≡ suc p)
later_place None place e = absurd cc
later_place (Some p) place e = (p, refl, some_is {A = ℕ} place (suc p) e)

-- where an entry has its place, it stands
pub place_at : (met : List ℕ) (number place : ℕ) → place_of met number ≡ Some place → slice_get met place ≡ Some number
place_at [] number place is = absurd cc
place_at (m ∷ met) number place is = elim (either (m == number)) [
  | inl same ↦
      let here : place ≡ 0 = some_is {A = ℕ} place 0 (sym is ∙ rw same refl) in
      rw (here, eqb-true m number same) refl
  | inr apart ↦
      let k = later_place (place_of met number) place (sym (rw apart at is)) in
      rw k.2 (place_at met number k.0 k.1)
]

-- the elements of a list that is mapped to values
value_at : {A B : Type 0} (f : A → Option B) (xs : List A) (ys : List B) (i : ℕ) (x : A) → map f xs ≡ map (λ y. Some y) ys → slice_get xs i ≡ Some x → slice_get ys i ≡ f x
value_at {A} {B} f xs ys i x e at =
    inner (slice_get ys i) (sym (slice_get-map (λ (y : B). Some y) ys i) ∙ ap (λ (zs : List (Option B)). slice_get zs i) (sym e) ∙ slice_get-map f xs i ∙ ap (option_map f) at)
  where
    inner : (o : Option B) → option_map (λ y. Some y) o ≡ Some (f x) → o ≡ f x
    inner None e = absurd cc
    inner (Some y) e = some_is {A = Option B} (Some y) (f x) e

values_count : {A B : Type 0} (f : A → Option B) (xs : List A) (ys : List B) → map f xs ≡ map (λ y. Some y) ys → length xs ≡ length ys
values_count {A} {B} f xs ys e = sym (length-map xs f) ∙ ap length e ∙ length-map ys (λ (y : B). Some y)

-- each number of a list has a place in it
each_later : (first : ℕ) (met numbers : List ℕ) → list_all (λ n. is_some (place_of met n)) numbers ≡ true → list_all (λ n. is_some (place_of (first ∷ met) n)) numbers ≡ true
each_later first met [] all = refl
each_later first met (n ∷ numbers) all =
    let parts = both_true (is_some (place_of met n)) (list_all (λ n. is_some (place_of met n)) numbers) all in
    rw (either_way (first == n) (place_of met n) parts.0) (each_later first met numbers parts.1)
  where
    either_way : (b : Bool) (o : Option ℕ) → is_some o ≡ true → is_some (cond b (Some 0) (option_map suc o)) ≡ true
    either_way true o e = refl
    either_way false None e = absurd cc
    either_way false (Some p) e = refl

each_placed : (met : List ℕ) → list_all (λ n. is_some (place_of met n)) met ≡ true
each_placed [] = refl
each_placed (first ∷ met) =
    let same : (first == first) ≡ true = eq-eqb first first refl in
    rw same (each_later first met met (each_placed met))

-- ---- entries with references by places

labels_stay : {K : Type 0} (met : List ℕ) (rows : List (K × TyRef)) → map (λ row. row.0) (renamed_under met rows) ≡ map (λ row. row.0) rows
labels_stay met [] = refl
labels_stay met (row ∷ rows) = ap (λ rest. row.0 ∷ rest) (labels_stay met rows)

types_under : {K : Type 0} (met : List ℕ) (rows : List (K × TyRef)) → map (λ row. row.1) (renamed_under met rows) ≡ map (renamed met) (map (λ row. row.1) rows)
types_under met [] = refl
types_under met (row ∷ rows) = ap (λ rest. renamed met row.1 ∷ rest) (types_under met rows)

references_renamed : (met : List ℕ) (entry : Entry) → references (renamed_entry met entry) ≡ map (renamed met) (references entry)
references_renamed met (Opt type) = refl
references_renamed met (Seq type) = refl
references_renamed met (Rec fields) = types_under met fields
references_renamed met (Var cases) = types_under met cases
references_renamed met (Func args results notes) = sym (map-append (renamed met) args results)
references_renamed met (Service methods) = types_under met methods

ordered_renamed : (met : List ℕ) (entry : Entry) → is_ordered (renamed_entry met entry) ≡ is_ordered entry
ordered_renamed met (Opt type) = refl
ordered_renamed met (Seq type) = refl
ordered_renamed met (Rec fields) = ap (ids_rise_from 0) (labels_stay met fields)
ordered_renamed met (Var cases) = ap (ids_rise_from 0) (labels_stay met cases)
ordered_renamed met (Func args results notes) = refl
ordered_renamed met (Service methods) = ap names_rise (labels_stay met methods)

func_renamed : (met : List ℕ) (found : Option Entry) → is_func (option_map (renamed_entry met) found) ≡ is_func found
func_renamed met None = refl
func_renamed met (Some (Opt type)) = refl
func_renamed met (Some (Seq type)) = refl
func_renamed met (Some (Rec fields)) = refl
func_renamed met (Some (Var cases)) = refl
func_renamed met (Some (Func args results notes)) = refl
func_renamed met (Some (Service methods)) = refl

-- ---- the entries of a part

module _ (table : List Entry) (met : List ℕ) (entries : List Entry) (are : entries_at table met ≡ map (λ entry. Some entry) entries) where
  -- where an entry was met stands what it was, by places
  pub entry_of : (number place : ℕ) → place_of met number ≡ Some place → slice_get entries place ≡ option_map (renamed_entry met) (slice_get table number)
  entry_of number place is = value_at (λ n. option_map (renamed_entry met) (slice_get table n)) met entries place number are (place_at met number place is)

  pub count_is : length met ≡ length entries
  count_is = values_count (λ n. option_map (renamed_entry met) (slice_get table n)) met entries are

  inside_renamed : (type : TyRef) → is_met met type ≡ true → is_inside (length entries) (renamed met type) ≡ true
  inside_renamed (Prim p) e = refl
  inside_renamed (Index number) e =
      let at = some_there (place_of met number) e in
      let below : at.0 < length entries = omega (arith, slice_get_within met at.0 number (place_at met number at.0 at.1), count_is) in
      rw at.1 (lt-ltb at.0 (length entries) below)

  -- types that were met are inside
  pub all_inside : (types : List TyRef) → list_all (is_met met) types ≡ true → list_all (is_inside (length entries)) (map (renamed met) types) ≡ true
  all_inside [] all = refl
  all_inside (type ∷ types) all =
      let parts = both_true (is_met met type) (list_all (is_met met) types) all in
      rw (inside_renamed type parts.0) (all_inside types parts.1)

  func_at : (type : TyRef) → is_met met type ≡ true → is_func_at entries (renamed met type) ≡ is_func_at table type
  func_at (Prim p) e = refl
  func_at (Index number) e =
      let at = some_there (place_of met number) e in
      rw at.1 (ap is_func (entry_of number at.0 at.1) ∙ func_renamed met (slice_get table number))

  funcs_at : (methods : List (List ℕ × TyRef)) → list_all (is_met met) (map (λ m. m.1) methods) ≡ true → list_all (λ m. is_func_at table m.1) methods ≡ true
      → list_all (λ m. is_func_at entries m.1) (renamed_under met methods) ≡ true
  funcs_at [] all funcs = refl
  funcs_at (m ∷ methods) all funcs =
      let parts = both_true (is_met met m.1) (list_all (is_met met) (map (λ m. m.1) methods)) all in
      let tests = both_true (is_func_at table m.1) (list_all (λ m. is_func_at table m.1) methods) funcs in
      let here : is_func_at entries (renamed met m.1) ≡ true = func_at m.1 parts.0 ∙ tests.0 in
      rw here (funcs_at methods parts.1 tests.1)

  has_funcs_renamed : (entry : Entry) → list_all (is_met met) (references entry) ≡ true → has_funcs table entry ≡ true → has_funcs entries (renamed_entry met entry) ≡ true
  has_funcs_renamed (Opt type) all funcs = refl
  has_funcs_renamed (Seq type) all funcs = refl
  has_funcs_renamed (Rec fields) all funcs = refl
  has_funcs_renamed (Var cases) all funcs = refl
  has_funcs_renamed (Func args results notes) all funcs = refl
  has_funcs_renamed (Service methods) all funcs = funcs_at methods all funcs

  formed_renamed : (entry : Entry) → is_well_formed table entry ≡ true → list_all (is_met met) (references entry) ≡ true → is_well_formed entries (renamed_entry met entry) ≡ true
  formed_renamed entry formed all =
      let tests = both_true (names_inside (length table) entry && is_ordered entry) (has_funcs table entry) formed in
      let ordered = both_true (names_inside (length table) entry) (is_ordered entry) tests.0 in
      let names : names_inside (length entries) (renamed_entry met entry) ≡ true = ap (list_all (is_inside (length entries))) (references_renamed met entry) ∙ all_inside (references entry) all in
      rw (names, ordered_renamed met entry ∙ ordered.1, has_funcs_renamed entry all tests.1) refl

  module _ (types : List TyRef) (meets : Meets table types [] met) where
    -- the types are inside the part
    pub types_inside : list_all (is_inside (length entries)) (map (renamed met) types) ≡ true
    types_inside = all_inside types (all_met table meets)

    module _ (formed : IsTrue (is_table table)) where
      each_formed : list_all (is_well_formed table) table ≡ true
      each_formed = (both_true (nat_le (length table) 10000) (list_all (is_well_formed table) table) formed).1

      one_formed : (number : ℕ) (entry : Entry) (found : Option Entry) → slice_get table number ≡ found → is_some (place_of met number) ≡ true → option_map (renamed_entry met) found ≡ Some entry
          → is_well_formed entries entry ≡ true
      one_formed number entry None at placed e = absurd cc
      one_formed number entry (Some x) at placed e =
          let here : renamed_entry met x ≡ entry = some_is {A = Entry} (renamed_entry met x) entry e in
          ap (is_well_formed entries) (sym here)
          ∙ formed_renamed x (test_at (is_well_formed table) table number x each_formed at) (parts_met table meets number x at refl placed)

      all_formed : (numbers : List ℕ) (made : List Entry) → map (λ n. option_map (renamed_entry met) (slice_get table n)) numbers ≡ map (λ entry. Some entry) made
          → list_all (λ n. is_some (place_of met n)) numbers ≡ true → list_all (is_well_formed entries) made ≡ true
      all_formed numbers [] e all = refl
      all_formed [] (x ∷ made) e all = absurd cc
      all_formed (n ∷ numbers) (x ∷ made) e all =
          let here : option_map (renamed_entry met) (slice_get table n) ≡ Some x = cc in
          let more : map (λ n. option_map (renamed_entry met) (slice_get table n)) numbers ≡ map (λ entry. Some entry) made = cc in
          let parts = both_true (is_some (place_of met n)) (list_all (λ n. is_some (place_of met n)) numbers) all in
          rw (one_formed n x (slice_get table n) refl parts.0 here) (all_formed numbers made more parts.1)

      -- the entries are a table
      pub part_formed : IsTrue (is_table entries)
      part_formed =
          let few : length entries ≤ 10000 = omega (arith, sym count_is, few_met table meets, table_small table formed) in
          rw (le-leb (length entries) 10000 few) (all_formed met entries are (each_placed met))
