-- What the marks of pairs of entries say. No standard has these.
use Rattle.std.specs.Prelude.{◌≡◌, ◌⊎◌, ℕ, ◌+◌, ◌*◌, Bool, true, false, List, ◌++◌, length, slice_index_or, Some}
use Rattle.std.specs.List.{AllByRecursion, Contains, count_by}
use Rattle.cd_types.specs.declared.entry.Entry.{Entry}
use Rattle.cd_sub.specs.declared.search.Mark.{Mark}
use Rattle.cd_sub.specs.declared.search.Mark.TheVariants.{Unknown, Holds, Fails}
use Rattle.cd_sub.specs.Pairs.{parts_at, PlaceSub}

-- the mark at a place
abbrev pub mark_at : List Mark → ℕ → Mark
mark_at marks place = slice_index_or marks place Unknown

abbrev pub is_unknown : Mark → Bool
is_unknown Unknown = true
is_unknown Holds = false
is_unknown Fails = false

abbrev pub is_failed : Mark → Bool
is_failed Unknown = false
is_failed Holds = false
is_failed Fails = true

-- each mark is right, but that what is marked `Holds` may also be among `met`, still to be shown
pub record IsRightBut (met : List ℕ) (first second : List Entry) (marks : List Mark) : Type 0 where
  pub holds : (place : ℕ) → mark_at marks place ≡ Holds → Contains met place ⊎ PlaceSub first second place
  pub fails : (place : ℕ) → mark_at marks place ≡ Fails → PlaceSub first second place → ⊥

-- each mark is right
pub record IsRight (first second : List Entry) (marks : List Mark) : Type 0 where
  pub holds : (place : ℕ) → mark_at marks place ≡ Holds → PlaceSub first second place
  pub fails : (place : ℕ) → mark_at marks place ≡ Fails → PlaceSub first second place → ⊥

-- there are no marks yet, or one for each pair of entries and side, and each is right
pub record Knows (first second : List Entry) (marks : List Mark) : Type 0 where
  pub room : (length marks ≡ 0) ⊎ (length marks ≡ 2 * (length first * length second))
  pub right : IsRight first second marks

-- some of the parts that were unknown are now marked `Holds` and come after what was met before
pub record Notes (old new : List Mark) (before after parts : List ℕ) : Type 0 where
  pub kept : (place : ℕ) → mark_at old place ≡ Holds → mark_at new place ≡ Holds
  pub fails : (place : ℕ) → mark_at new place ≡ Fails → mark_at old place ≡ Fails
  pub holds : (place : ℕ) → mark_at new place ≡ Holds → Contains after place ⊎ (mark_at old place ≡ Holds)
  pub added : (more : List ℕ) × (after ≡ before ++ more) × AllByRecursion (Contains parts) more
  pub fewer : count_by is_unknown new + length after ≡ count_by is_unknown old + length before

-- each part is marked `Holds`, or one was marked `Fails`
abbrev pub Noted : Bool → List Mark → List Mark → List ℕ → Type 0
Noted true old new parts = AllByRecursion (λ part. mark_at new part ≡ Holds) parts
Noted false old new parts = (part : ℕ) × Contains parts part × (mark_at old part ≡ Fails)

-- the parts of a pair are noted, each marked `Holds`, or the pair does not hold
abbrev pub Tried : Bool → List Entry → List Entry → List Mark → List Mark → List ℕ → List ℕ → ℕ → Type 0
Tried true first second old new before after place =
    (parts : List ℕ) × (parts_at first second place ≡ Some parts) × Notes old new before after parts × Noted true old new parts
Tried false first second old new before after place = PlaceSub first second place → ⊥

-- a new mark that is right, whatever else is still to be shown
abbrev pub Settled : Mark → List Entry → List Entry → ℕ → Type 0
Settled Unknown first second place = Unit {0}
Settled Holds first second place = ⊥
Settled Fails first second place = PlaceSub first second place → ⊥

-- every mark is right and those met first hold, or those met first do not all hold
abbrev pub Searched : Bool → List Entry → List Entry → List Mark → List ℕ → Type 0
Searched true first second new start = IsRight first second new × AllByRecursion (PlaceSub first second) start
Searched false first second new start = AllByRecursion (PlaceSub first second) start → ⊥
