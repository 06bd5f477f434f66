-- The entries that are made of a file's types, where its definitions lead to these ends.
use Rattle.std.specs.Prelude.{◌≡◌, ℕ, Bool, true, List, length, map, Some, slice_get}
use Rattle.std.specs.List.{list_all}
use Rattle.std.specs.List.Sorted.{IsPermutation}
use Rattle.cd_types.specs.declared.entry.TyRef.{TyRef}
use Rattle.cd_types.specs.declared.entry.Entry.{Entry}
use Rattle.cd_types.specs.declared.entry.Entry.TheVariants as entries
use Rattle.cd_types.specs.IsOrdered.{names_rise}
use Rattle.cd_grammar.specs.declared.written.Part.{Part}
use Rattle.cd_grammar.specs.declared.written.Written.{Written}
use Rattle.cd_grammar.specs.declared.written.Written.TheVariants.{Opt, Seq, Rec, Var, Func, Service}
use Rattle.cd_grammar.specs.File.{File}
use Rattle.cd_did.specs.Faults.{is_func, type_at_place}
use Rattle.cd_did.specs.Targets.{found_at, target}
use Rattle.cd_did.specs.Sorted.{row, AreSorted}

-- the same rows, with names that rise
abbrev pub AreNamed : List (List ℕ × TyRef) → List (List ℕ × TyRef) → Type 0
AreNamed rows sorted = IsPermutation rows sorted × (names_rise (map (λ m. m.0) sorted) ≡ true)

-- the part is a function
abbrev pub is_method : File → List ℕ → Part → Bool
is_method file ends part = is_func (type_at_place file.types (found_at file.definitions ends part))

-- the entry that is made of a type
abbrev pub EntryOf : File → List ℕ → Written → Entry → Type 0
EntryOf file ends (Opt part) entry = entry ≡ entries.Opt (target file.definitions ends part)
EntryOf file ends (Seq part) entry = entry ≡ entries.Seq (target file.definitions ends part)
EntryOf file ends (Rec fields) entry = (rows : List (ℕ × TyRef)) × (entry ≡ entries.Rec rows) × AreSorted (map (row file.definitions ends) fields) rows
EntryOf file ends (Var cases) entry = (rows : List (ℕ × TyRef)) × (entry ≡ entries.Var rows) × AreSorted (map (row file.definitions ends) cases) rows
EntryOf file ends (Func args results notes) entry = entry ≡ entries.Func (map (target file.definitions ends) args) (map (target file.definitions ends) results) notes
EntryOf file ends (Service methods) entry = (rows : List (List ℕ × TyRef)) × (entry ≡ entries.Service rows) × AreNamed (map (row file.definitions ends) methods) rows
    × (list_all (λ m. is_method file ends m.1) methods ≡ true)

-- the entries that are made of all types
abbrev pub EntriesOf : File → List ℕ → List Entry → Type 0
EntriesOf file ends made = (length made ≡ length file.types) × ((i : ℕ) (w : Written) → slice_get file.types i ≡ Some w → (entry : Entry) × (slice_get made i ≡ Some entry) × EntryOf file ends w entry)
