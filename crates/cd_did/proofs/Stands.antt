-- The references that stand for the types of a file.
use Rattle.std.proofs.Common.{◌≡◌, ℕ, zero, suc, ◌+◌, ◌≤◌, ◌<◌, ◌^◌, Bool, true, false, List, [], ◌∷◌, length, map, Option, Some, None, refl, sym, ap, subst, ◌∙◌, inl, inr, ◌⊎◌, arith}
use Rattle.std.proofs.lemmas.List.Folds.{list_all-append}
use Rattle.std.specs.Prelude.{◌&&◌, nat_lt, slice_get}
use Rattle.std.specs.List.{list_all}
use Rattle.std.specs.List.Sorted.{IsPermutation}
use Rattle.ic_base.specs.Reader.{◌>>=◌}
use Rattle.ic_base.proofs.Steps.{bind_some, some_is}
use Rattle.cd_types.specs.declared.entry.TyRef.{TyRef}
use Rattle.cd_types.specs.declared.entry.Entry.{Entry}
use Rattle.cd_types.specs.declared.entry.Entry.TheVariants as entries
use Rattle.cd_types.specs.Shape.{Shape, compound, entry_shape, shape}
use Rattle.cd_types.proofs.EntryLemmas.{test_at}
use Rattle.cd_types.proofs.FaultLemmas.{both_true}
use Rattle.cd_grammar.specs.declared.written.Part.{Part}
use Rattle.cd_grammar.specs.declared.written.Part.TheVariants.{Prim, Float, Name, Place}
use Rattle.cd_grammar.specs.declared.written.Written.{Written}
use Rattle.cd_grammar.specs.declared.written.Written.TheVariants.{Opt, Seq, Rec, Var, Func, Service}
use Rattle.cd_grammar.specs.File.{File}
use Rattle.cd_did.specs.Faults.{Definitions, is_no_float, is_bound, is_name, replaced, replaced_times, StandsBehind, type_at_place, Is}
use Rattle.cd_grammar.specs.Fits.{parts_of}
use Rattle.cd_did.specs.Rings.{Apart, AllBound, HasEnds, is_named_at, least_from, place_from}
use Rattle.cd_did.specs.Targets.{found_at, place_ref, ref_of, target}
use Rattle.cd_did.specs.Sorted.{row}
use Rattle.cd_did.specs.Entries.{EntryOf, EntriesOf}
use Rattle.cd_did.specs.Denotes.{PartsStand, LabelledStand, TypeStands, PartStands, Denotes}
use Rattle.cd_did.proofs.RingLemmas.{found}
use Rattle.cd_did.proofs.Ends.{settled}
use Rattle.cd_grammar.specs.Fits.{part_fits}

abbrev Row : Type 0
Row = List ℕ × Part

-- what is known where no definition leads back
pub record Known (defs : Definitions) (ends : List ℕ) : Type 0 where
  pub apart : Apart defs
  pub bound : AllBound defs
  pub has : HasEnds defs ends
  pub none : least_from (is_named_at defs) None ends ≡ None

-- what was found after a part: itself, or the type of a definition
pub record Behind (defs : Definitions) (ends : List ℕ) (part : Part) : Type 0 where
  pub stands : StandsBehind defs part (found_at defs ends part)
  pub from : (found_at defs ends part ≡ part) ⊎ ((i : ℕ) × (d : List ℕ × Part) × (slice_get defs i ≡ Some d) × (found_at defs ends part ≡ d.1))

pub found_stands : (defs : Definitions) (ends : List ℕ) → Known defs ends → (part : Part) → is_bound defs part ≡ true → Behind defs ends part
found_stands defs ends known (Prim p) bound = record { stands = (refl, 0, refl); from = inl refl }
found_stands defs ends known Float bound = record { stands = (refl, 0, refl); from = inl refl }
found_stands defs ends known (Place place) bound = record { stands = (refl, 0, refl); from = inl refl }
found_stands defs ends known (Name name) bound =
    let f = found defs 0 name bound in
    let n : 0 + f.step ≡ f.step = omega arith in
    let place : place_from defs 0 name ≡ Some f.step = f.place ∙ ap (λ (k : ℕ). Some k) n in
    let s = settled defs known.apart known.bound ends known.has known.none f.step f.row f.there in
    let is : found_at defs ends (Name name) ≡ s.row.1 = rw (place, s.at, s.there) refl in
    let behind = s.behind in
    record {
      stands = (ap is_name is ∙ behind.0, suc behind.1, ap (λ (p : Option Part). p >>= replaced_times defs behind.1) f.defined ∙ behind.2 ∙ ap (λ (p : Part). Some p) (sym is));
      from = inr (s.end, s.row, s.there, is);
    }

no_more : (defs : Definitions) (part : Part) → is_name part ≡ false → replaced defs part ≡ None
no_more defs (Prim p) e = refl
no_more defs Float e = refl
no_more defs (Name name) e = absurd cc
no_more defs (Place place) e = refl

-- one part comes after another
pub one_behind : (defs : Definitions) (a b : ℕ) (part p q : Part) → is_name p ≡ false → is_name q ≡ false → replaced_times defs a part ≡ Some p → replaced_times defs b part ≡ Some q → p ≡ q
one_behind defs zero zero part p q np nq e f = some_is {A = Part} p q (sym e ∙ f)
one_behind defs zero (suc b) part p q np nq e f =
    let same : part ≡ p = some_is {A = Part} part p e in
    let nothing : replaced defs part ≡ None = no_more defs part (ap is_name same ∙ np) in
    let g : None ≡ Some q = sym (ap (λ (x : Option Part). x >>= replaced_times defs b) nothing) ∙ f in
    absurd cc
one_behind defs (suc a) zero part p q np nq e f =
    let same : part ≡ q = some_is {A = Part} part q f in
    let nothing : replaced defs part ≡ None = no_more defs part (ap is_name same ∙ nq) in
    let g : None ≡ Some p = sym (ap (λ (x : Option Part). x >>= replaced_times defs a) nothing) ∙ e in
    absurd cc
one_behind defs (suc a) (suc b) part p q np nq e f =
    let x = bind_some (replaced defs part) (replaced_times defs a) p e in
    let y = bind_some (replaced defs part) (replaced_times defs b) q f in
    let same : x.0 ≡ y.0 = some_is {A = Part} x.0 y.0 (sym x.1 ∙ y.1) in
    one_behind defs a b x.0 p q np nq x.2 (ap (replaced_times defs b) same ∙ y.2)

-- a test of what comes after a part is one of what was found
pub is_decided : (test : Option Written → Bool) (file : File) (ends : List ℕ) → Known file.definitions ends → (part : Part) → is_bound file.definitions part ≡ true → Is test file part → test (type_at_place file.types (found_at file.definitions ends part)) ≡ true
is_decided test file ends known part bound is =
    let b = found_stands file.definitions ends known part bound in
    let same : is.0 ≡ found_at file.definitions ends part = one_behind file.definitions is.1.1 b.stands.1 part is.0 (found_at file.definitions ends part) is.1.0 b.stands.0 is.1.2 b.stands.2 in
    subst (λ (p : Part). test (type_at_place file.types p) ≡ true) same is.2

pub decided_is : (test : Option Written → Bool) (file : File) (ends : List ℕ) → Known file.definitions ends → (part : Part) → is_bound file.definitions part ≡ true → test (type_at_place file.types (found_at file.definitions ends part)) ≡ true → Is test file part
decided_is test file ends known part bound e = (found_at file.definitions ends part, (found_stands file.definitions ends known part bound).stands, e)

-- ---- what a part stands for

-- a part that has a definition, is no float and names a type of the file
abbrev pub is_fine : File → Part → Bool
is_fine file part = is_bound file.definitions part && (is_no_float part && part_fits (length file.types) part)

pub record Fine (file : File) : Type 0 where
  pub types : list_all (λ written. list_all (is_fine file) (parts_of written)) file.types ≡ true
  pub definitions : list_all (λ (d : List ℕ × Part). is_fine file d.1) file.definitions ≡ true

pub found_fine : (file : File) (ends : List ℕ) → Fine file → (part : Part) → Behind file.definitions ends part → is_fine file part ≡ true → is_fine file (found_at file.definitions ends part) ≡ true
found_fine file ends fine part b e = elim b.from [
  | inl same ↦ subst (λ p. is_fine file p ≡ true) (sym same) e
  | inr d ↦ subst (λ p. is_fine file p ≡ true) (sym d.3) (test_at (λ (x : List ℕ × Part). is_fine file x.1) file.definitions d.0 d.1 fine.definitions d.2)
]

pub type_there : (types : List Written) (i : ℕ) → i < length types → (w : Written) × (slice_get types i ≡ Some w)
type_there [] i below = absurd (omega (arith, below))
type_there (w ∷ types) zero below = (w, refl)
type_there (w ∷ types) (suc i) below = type_there types i (omega (arith, below))

abbrev Stand : ℕ → File → List ℕ → List Entry → Type 0
Stand n file ends made = (part : Part) → is_fine file part ≡ true → Denotes n file made part (target file.definitions ends part)

parts_stand : (n : ℕ) (file : File) (ends : List ℕ) (made : List Entry) → Stand n file ends made → (parts : List Part) → list_all (is_fine file) parts ≡ true → PartsStand (Denotes n file made) parts (map (target file.definitions ends) parts)
parts_stand n file ends made law [] e = refl
parts_stand n file ends made law (part ∷ parts) e =
    let h = both_true (is_fine file part) (list_all (is_fine file) parts) e in
    (target file.definitions ends part, map (target file.definitions ends) parts, refl, law part h.0, parts_stand n file ends made law parts h.1)

labelled_stand : {L : Type 0} (n : ℕ) (file : File) (ends : List ℕ) (made : List Entry) → Stand n file ends made → (parts : List (L × Part)) → list_all (is_fine file) (map (λ f. f.1) parts) ≡ true → LabelledStand (Denotes n file made) parts (map (row file.definitions ends) parts)
labelled_stand n file ends made law [] e = refl
labelled_stand n file ends made law (part ∷ parts) e =
    let h = both_true (is_fine file part.1) (list_all (is_fine file) (map (λ f. f.1) parts)) e in
    (target file.definitions ends part.1, map (row file.definitions ends) parts, refl, law part.1 h.0, labelled_stand n file ends made law parts h.1)

-- the entry of a type, its rows in any order
abbrev pub IsLike : File → List ℕ → Written → Entry → Type 0
IsLike file ends (Opt part) entry = entry ≡ entries.Opt (target file.definitions ends part)
IsLike file ends (Seq part) entry = entry ≡ entries.Seq (target file.definitions ends part)
IsLike file ends (Rec fields) entry = (rows : List (ℕ × TyRef)) × (entry ≡ entries.Rec rows) × IsPermutation (map (row file.definitions ends) fields) rows
IsLike file ends (Var cases) entry = (rows : List (ℕ × TyRef)) × (entry ≡ entries.Var rows) × IsPermutation (map (row file.definitions ends) cases) rows
IsLike file ends (Func args results notes) entry = entry ≡ entries.Func (map (target file.definitions ends) args) (map (target file.definitions ends) results) notes
IsLike file ends (Service methods) entry = (rows : List (List ℕ × TyRef)) × (entry ≡ entries.Service rows) × IsPermutation (map (row file.definitions ends) methods) rows

-- such entries of all types
abbrev pub AreLike : File → List ℕ → List Entry → Type 0
AreLike file ends made = (i : ℕ) (w : Written) → slice_get file.types i ≡ Some w → (entry : Entry) × (slice_get made i ≡ Some entry) × IsLike file ends w entry

entry_like : (file : File) (ends : List ℕ) (w : Written) (entry : Entry) → EntryOf file ends w entry → IsLike file ends w entry
entry_like file ends (Opt part) entry of = of
entry_like file ends (Seq part) entry of = of
entry_like file ends (Rec fields) entry of = (of.0, of.1, of.2.0)
entry_like file ends (Var cases) entry of = (of.0, of.1, of.2.0)
entry_like file ends (Func args results notes) entry of = of
entry_like file ends (Service methods) entry of = (of.0, of.1, of.2.0)

pub all_like : (file : File) (ends : List ℕ) (made : List Entry) → EntriesOf file ends made → AreLike file ends made
all_like file ends made of i w at = let entry = of.1 i w at in (entry.0, entry.1, entry_like file ends w entry.0 entry.2)

type_stands : (n : ℕ) (file : File) (ends : List ℕ) (made : List Entry) → Stand n file ends made → (w : Written) (entry : Entry) → list_all (is_fine file) (parts_of w) ≡ true → IsLike file ends w entry → TypeStands (Denotes n file made) (Some w) (compound entry)
type_stands n file ends made law (Opt part) entry e of = let h = both_true (is_fine file part) true e in (target file.definitions ends part, ap compound of, law part h.0)
type_stands n file ends made law (Seq part) entry e of = let h = both_true (is_fine file part) true e in (target file.definitions ends part, ap compound of, law part h.0)
type_stands n file ends made law (Rec fields) entry e of = (of.0, ap compound of.1, (map (row file.definitions ends) fields, labelled_stand n file ends made law fields e, of.2))
type_stands n file ends made law (Var cases) entry e of = (of.0, ap compound of.1, (map (row file.definitions ends) cases, labelled_stand n file ends made law cases e, of.2))
type_stands n file ends made law (Func args results notes) entry e of =
    let h = both_true (list_all (is_fine file) args) (list_all (is_fine file) results) (sym (list_all-append (is_fine file) args results) ∙ e) in
    (map (target file.definitions ends) args, map (target file.definitions ends) results, ap compound of, parts_stand n file ends made law args h.0, parts_stand n file ends made law results h.1)
type_stands n file ends made law (Service methods) entry e of = (of.0, ap compound of.1, (map (row file.definitions ends) methods, labelled_stand n file ends made law methods e, of.2))

part_stands : (n : ℕ) (file : File) (ends : List ℕ) (made : List Entry) → Stand n file ends made → Fine file → AreLike file ends made → length file.types ≤ 10000 → (found : Part) → is_name found ≡ false → is_fine file found ≡ true
    → PartStands (Denotes n file made) file.types found (shape made (ref_of found))
part_stands n file ends made law fine of few (Prim p) none e = refl
part_stands n file ends made law fine of few Float none e = absurd cc
part_stands n file ends made law fine of few (Name name) none e = absurd cc
part_stands n file ends made law fine of few (Place place) none e =
    let below : place < length file.types = grind (arith, e) in
    let small : nat_lt place (2 ^ 32) ≡ true = grind (arith, below, few) in
    let w = type_there file.types place below in
    let entry = of place w.0 w.1 in
    let shape_is : shape made (place_ref place) ≡ compound entry.0 = rw small (ap entry_shape entry.1) in
    subst (λ (s : Shape). TypeStands (Denotes n file made) (slice_get file.types place) s) (sym shape_is)
    (subst (λ (o : Option Written). TypeStands (Denotes n file made) o (compound entry.0)) (sym w.1)
    (type_stands n file ends made law w.0 entry.0 (test_at (λ written. list_all (is_fine file) (parts_of written)) file.types place w.0 fine.types w.1) entry.2))

pub all_stand : (n : ℕ) (file : File) (ends : List ℕ) (made : List Entry) → Known file.definitions ends → Fine file → AreLike file ends made → length file.types ≤ 10000 → (part : Part) → is_fine file part ≡ true → Denotes n file made part (target file.definitions ends part)
all_stand zero file ends made known fine of few part e = tt
all_stand (suc n) file ends made known fine of few part e =
    let h = both_true (is_bound file.definitions part) (is_no_float part && part_fits (length file.types) part) e in
    let b = found_stands file.definitions ends known part h.0 in
    (found_at file.definitions ends part, b.stands, part_stands n file ends made (all_stand n file ends made known fine of few) fine of few (found_at file.definitions ends part) b.stands.0 (found_fine file ends fine part b e))
