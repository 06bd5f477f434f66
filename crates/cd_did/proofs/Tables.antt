-- The entries that are made of a file are a type table.
use Rattle.std.proofs.Common.{◌≡◌, ℕ, suc, ◌≤◌, ◌<◌, ◌^◌, Bool, true, false, List, [], ◌∷◌, ◌++◌, length, map, Option, Some, None, refl, sym, subst, ◌∙◌, arith}
use Rattle.std.proofs.lemmas.Bool.{le-leb}
use Rattle.std.proofs.lemmas.Option.{slice_get_within}
use Rattle.std.proofs.lemmas.List.Folds.{list_all-append}
use Rattle.std.proofs.lemmas.List.Sums.{AllPass-from_list_all, list_all-from_AllPass}
use Rattle.std.proofs.lemmas.List.Sorted.{All-permutation}
use Rattle.std.specs.Prelude.{◌&&◌, nat_lt, nat_le, slice_get}
use Rattle.std.specs.List.{list_all}
use Rattle.std.specs.List.Sorted.{IsPermutation}
use Rattle.ic_base.proofs.Steps.{some_is}
use Rattle.cd_types.specs.declared.entry.TyRef.{TyRef}
use Rattle.cd_types.specs.declared.entry.Entry.{Entry}
use Rattle.cd_types.specs.IsInside.{is_inside}
use Rattle.cd_types.specs.IsOrdered.{is_ordered}
use Rattle.cd_types.specs.IsTable.{names_inside, is_func as is_func_entry, is_func_at, has_funcs, is_well_formed, is_table}
use Rattle.cd_types.proofs.EntryLemmas.{test_at}
use Rattle.cd_types.proofs.FaultLemmas.{both_true}
use Rattle.cd_grammar.specs.declared.written.Part.{Part}
use Rattle.cd_grammar.specs.declared.written.Part.TheVariants.{Prim, Float, Name, Place}
use Rattle.cd_grammar.specs.declared.written.Written.{Written}
use Rattle.cd_grammar.specs.declared.written.Written.TheVariants.{Opt, Seq, Rec, Var, Func, Service}
use Rattle.cd_grammar.specs.File.{File}
use Rattle.cd_did.specs.Faults.{is_bound, is_no_float, is_func, is_name, type_at_place}
use Rattle.cd_grammar.specs.Fits.{parts_of}
use Rattle.cd_did.specs.Targets.{found_at, place_ref, ref_of, target}
use Rattle.cd_did.specs.Sorted.{row}
use Rattle.cd_did.specs.Entries.{is_method, EntryOf, EntriesOf}
use Rattle.cd_grammar.specs.Fits.{part_fits, notes_fit, written_fits, Fit}
use Rattle.cd_did.proofs.Stands.{Known, Fine, is_fine, found_stands, found_fine, type_there}

-- a test of each that is there
all_there : {A : Type 0} (test : A → Bool) (xs : List A) → ((i : ℕ) (x : A) → slice_get xs i ≡ Some x → test x ≡ true) → list_all test xs ≡ true
all_there test [] law = refl
all_there test (x ∷ xs) law = rw (law 0 x refl, all_there test xs (λ i y at. law (suc i) y at)) refl

all_moved : {A : Type 0} (test : A → Bool) (xs ys : List A) → IsPermutation xs ys → list_all test xs ≡ true → list_all test ys ≡ true
all_moved test xs ys moved e = list_all-from_AllPass test ys (All-permutation (λ x. test x ≡ true) xs ys moved (AllPass-from_list_all test xs e))

pub all_mapped : {A B : Type 0} (test : B → Bool) (f : A → B) (xs : List A) → list_all (λ x. test (f x)) xs ≡ true → list_all test (map f xs) ≡ true
all_mapped test f [] e = refl
all_mapped test f (x ∷ xs) e = let h = both_true (test (f x)) (list_all (λ y. test (f y)) xs) e in rw (h.0, all_mapped test f xs h.1) refl

all_unmapped : {A B : Type 0} (test : B → Bool) (f : A → B) (xs : List A) → list_all test (map f xs) ≡ true → list_all (λ x. test (f x)) xs ≡ true
all_unmapped test f [] e = refl
all_unmapped test f (x ∷ xs) e = let h = both_true (test (f x)) (list_all test (map f xs)) e in rw (h.0, all_unmapped test f xs h.1) refl

pub all_wider : {A : Type 0} (test wider : A → Bool) (xs : List A) → ((x : A) → test x ≡ true → wider x ≡ true) → list_all test xs ≡ true → list_all wider xs ≡ true
all_wider test wider [] law e = refl
all_wider test wider (x ∷ xs) law e = let h = both_true (test x) (list_all test xs) e in rw (law x h.0, all_wider test wider xs law h.1) refl

-- what is known of a file and its entries
pub record Whole (file : File) (ends : List ℕ) (made : List Entry) : Type 0 where
  pub known : Known file.definitions ends
  pub fine : Fine file
  pub fit : Fit file.types
  pub of : EntriesOf file ends made
  pub few : length file.types ≤ 10000

found_inside : (n : ℕ) (found : Part) → n ≤ 10000 → is_name found ≡ false → (is_no_float found && part_fits n found) ≡ true → is_inside n (ref_of found) ≡ true
found_inside n (Prim p) few none e = refl
found_inside n Float few none e = absurd cc
found_inside n (Name name) few none e = absurd cc
found_inside n (Place place) few none e =
    let below : nat_lt place n ≡ true = e in
    let small : nat_lt place (2 ^ 32) ≡ true = grind (arith, below, few) in
    rw small below

pub target_within : (file : File) (ends : List ℕ) → Known file.definitions ends → Fine file → length file.types ≤ 10000 → (part : Part) → is_fine file part ≡ true → is_inside (length file.types) (target file.definitions ends part) ≡ true
target_within file ends known fine few part e =
    let h = both_true (is_bound file.definitions part) (is_no_float part && part_fits (length file.types) part) e in
    let b = found_stands file.definitions ends known part h.0 in
    let f = found_fine file ends fine part b e in
    let g = both_true (is_bound file.definitions (found_at file.definitions ends part)) (is_no_float (found_at file.definitions ends part) && part_fits (length file.types) (found_at file.definitions ends part)) f in
    found_inside (length file.types) (found_at file.definitions ends part) few b.stands.0 g.1

target_inside : (file : File) (ends : List ℕ) (made : List Entry) → Whole file ends made → (part : Part) → is_fine file part ≡ true → is_inside (length made) (target file.definitions ends part) ≡ true
target_inside file ends made whole part e =
    let size = whole.of in
    subst (λ n. is_inside n (target file.definitions ends part) ≡ true) (sym size.0) (target_within file ends whole.known whole.fine whole.few part e)

parts_inside : (file : File) (ends : List ℕ) (made : List Entry) → Whole file ends made → (parts : List Part) → list_all (is_fine file) parts ≡ true → list_all (is_inside (length made)) (map (target file.definitions ends) parts) ≡ true
parts_inside file ends made whole parts e = all_mapped (is_inside (length made)) (target file.definitions ends) parts (all_wider (is_fine file) (λ p. is_inside (length made) (target file.definitions ends p)) parts (target_inside file ends made whole) e)

rows_inside : {L : Type 0} (file : File) (ends : List ℕ) (made : List Entry) → Whole file ends made → (fields : List (L × Part)) (rows : List (L × TyRef)) → list_all (is_fine file) (map (λ f. f.1) fields) ≡ true → IsPermutation (map (row file.definitions ends) fields) rows
    → list_all (is_inside (length made)) (map (λ r. r.1) rows) ≡ true
rows_inside {L} file ends made whole fields rows e moved =
    let each = all_wider (λ (f : L × Part). is_fine file f.1) (λ (f : L × Part). is_inside (length made) (target file.definitions ends f.1)) fields (λ f. target_inside file ends made whole f.1) (all_unmapped (is_fine file) (λ (f : L × Part). f.1) fields e) in
    let written = all_mapped (λ (r : L × TyRef). is_inside (length made) r.1) (row file.definitions ends) fields each in
    all_mapped (is_inside (length made)) (λ (r : L × TyRef). r.1) rows (all_moved (λ (r : L × TyRef). is_inside (length made) r.1) (map (row file.definitions ends) fields) rows moved written)

func_entry : (file : File) (ends : List ℕ) (w : Written) (entry : Entry) → is_func (Some w) ≡ true → EntryOf file ends w entry → is_func_entry (Some entry) ≡ true
func_entry file ends (Opt part) entry e of = absurd cc
func_entry file ends (Seq part) entry e of = absurd cc
func_entry file ends (Rec fields) entry e of = absurd cc
func_entry file ends (Var cases) entry e of = absurd cc
func_entry file ends (Func args results notes) entry e of = rw of refl
func_entry file ends (Service methods) entry e of = absurd cc

place_func : (file : File) (ends : List ℕ) (made : List Entry) → EntriesOf file ends made → length file.types ≤ 10000 → (found : Part) → is_func (type_at_place file.types found) ≡ true → is_func_at made (ref_of found) ≡ true
place_func file ends made of few (Prim p) e = absurd cc
place_func file ends made of few Float e = absurd cc
place_func file ends made of few (Name name) e = absurd cc
place_func file ends made of few (Place place) e = at_place (slice_get file.types place) refl e
  where
    at_place : (o : Option Written) → slice_get file.types place ≡ o → is_func o ≡ true → is_func_at made (place_ref place) ≡ true
    at_place None at f = absurd cc
    at_place (Some w) at f =
        let entry = of.1 place w at in
        let below = slice_get_within file.types place w at in
        let small : nat_lt place (2 ^ 32) ≡ true = grind (arith, below, few) in
        rw (small, entry.1) (func_entry file ends w entry.0 f entry.2)

methods_funcs : (file : File) (ends : List ℕ) (made : List Entry) → Whole file ends made → (methods : List (List ℕ × Part)) (rows : List (List ℕ × TyRef)) → list_all (λ m. is_method file ends m.1) methods ≡ true → IsPermutation (map (row file.definitions ends) methods) rows
    → list_all (λ m. is_func_at made m.1) rows ≡ true
methods_funcs file ends made whole methods rows e moved =
    let each = all_wider (λ (m : List ℕ × Part). is_method file ends m.1) (λ (m : List ℕ × Part). is_func_at made (target file.definitions ends m.1)) methods (λ m. place_func file ends made whole.of whole.few (found_at file.definitions ends m.1)) e in
    all_moved (λ (r : List ℕ × TyRef). is_func_at made r.1) (map (row file.definitions ends) methods) rows moved (all_mapped (λ (r : List ℕ × TyRef). is_func_at made r.1) (row file.definitions ends) methods each)

both : (a b : Bool) → a ≡ true → b ≡ true → (a && b) ≡ true
both a b p q = rw (p, q) refl

entry_formed : (file : File) (ends : List ℕ) (made : List Entry) → Whole file ends made → (w : Written) (entry : Entry) → list_all (is_fine file) (parts_of w) ≡ true → notes_fit w ≡ true → EntryOf file ends w entry
    → (names_inside (length made) entry ≡ true) × (is_ordered entry ≡ true) × (has_funcs made entry ≡ true)
entry_formed file ends made whole (Opt part) entry e notes of = let h = both_true (is_fine file part) true e in rw of (rw (target_inside file ends made whole part h.0) refl, refl, refl)
entry_formed file ends made whole (Seq part) entry e notes of = let h = both_true (is_fine file part) true e in rw of (rw (target_inside file ends made whole part h.0) refl, refl, refl)
entry_formed file ends made whole (Rec fields) entry e notes of = let sorted = of.2 in rw of.1 (rows_inside file ends made whole fields of.0 e sorted.0, sorted.1, refl)
entry_formed file ends made whole (Var cases) entry e notes of = let sorted = of.2 in rw of.1 (rows_inside file ends made whole cases of.0 e sorted.0, sorted.1, refl)
entry_formed file ends made whole (Func args results list) entry e notes of =
    let h = both_true (list_all (is_fine file) args) (list_all (is_fine file) results) (sym (list_all-append (is_fine file) args results) ∙ e) in
    let inside : list_all (is_inside (length made)) (map (target file.definitions ends) args ++ map (target file.definitions ends) results) ≡ true =
    list_all-append (is_inside (length made)) (map (target file.definitions ends) args) (map (target file.definitions ends) results)
    ∙ both (list_all (is_inside (length made)) (map (target file.definitions ends) args)) (list_all (is_inside (length made)) (map (target file.definitions ends) results)) (parts_inside file ends made whole args h.0) (parts_inside file ends made whole results h.1) in
    rw of (inside, notes, refl)
entry_formed file ends made whole (Service methods) entry e notes of =
    let sorted = of.2 in
    rw of.1 (rows_inside file ends made whole methods of.0 e sorted.0, sorted.1, methods_funcs file ends made whole methods of.0 of.3 sorted.0)

pub made_table : (file : File) (ends : List ℕ) (made : List Entry) → Whole file ends made → is_table made ≡ true
made_table file ends made whole =
    let size = whole.of in
    let few : nat_le (length made) 10000 ≡ true = le-leb (length made) 10000 (subst (λ n. n ≤ 10000) (sym size.0) whole.few) in
    both (nat_le (length made) 10000) (list_all (is_well_formed made) made) few (all_there (is_well_formed made) made (λ i entry at.
    let below : i < length file.types = subst (λ n. i < n) size.0 (slice_get_within made i entry at) in
    let w = type_there file.types i below in
    let own = size.1 i w.0 w.1 in
    let same : own.0 ≡ entry = some_is {A = Entry} own.0 entry (sym own.1 ∙ at) in
    let of : EntryOf file ends w.0 entry = subst (λ (x : Entry). EntryOf file ends w.0 x) same own.2 in
    let parts = test_at (λ written. list_all (is_fine file) (parts_of written)) file.types i w.0 whole.fine.types w.1 in
    let notes = both_true (list_all (part_fits (length file.types)) (parts_of w.0)) (notes_fit w.0) (test_at (written_fits (length file.types)) file.types i w.0 whole.fit w.1) in
    let f = entry_formed file ends made whole w.0 entry parts notes.1 of in
    both (names_inside (length made) entry && is_ordered entry) (has_funcs made entry) (both (names_inside (length made) entry) (is_ordered entry) f.0 f.1) f.2))
