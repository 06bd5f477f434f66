-- Definitions that lead to one another, by their places.
use Rattle.std.specs.Prelude.{◌≡◌, ℕ, zero, suc, ◌≤◌, ◌<◌, Bool, true, false, bytes_eq, nat_lt, if◌then◌else◌, List, [], ◌∷◌, ◌++◌, length, Option, Some, None, slice_get}
use Rattle.cd_grammar.specs.declared.written.Part.{Part}
use Rattle.cd_grammar.specs.declared.written.Part.TheVariants.{Name}
use Rattle.cd_did.specs.Faults.{Definitions, is_name, is_bound}

-- no two definitions have one name
abbrev pub Apart : Definitions → Type 0
Apart defs = (i j : ℕ) (d e : List ℕ × Part) → slice_get defs i ≡ Some d → slice_get defs j ≡ Some e → d.0 ≡ e.0 → i ≡ j

-- each name that a definition is is defined
abbrev pub AllBound : Definitions → Type 0
AllBound defs = (i : ℕ) (d : List ℕ × Part) → slice_get defs i ≡ Some d → is_bound defs d.1 ≡ true

-- the place of the first definition with the name; the first of these is at this place
abbrev pub place_from : Definitions → ℕ → List ℕ → Option ℕ
place_from [] place name = None
place_from (d ∷ definitions) place name = if bytes_eq d.0 name then Some place else place_from definitions (suc place) name

abbrev pub or_here : ℕ → Option ℕ → ℕ
or_here here None = here
or_here here (Some place) = place

-- the place that a definition leads to: its own, where it is no name that is defined
abbrev pub leads_to : Definitions → ℕ → Part → ℕ
leads_to definitions here (Name name) = or_here here (place_from definitions 0 name)
leads_to definitions here _ = here

abbrev pub next_from : Definitions → ℕ → Option (List ℕ × Part) → ℕ
next_from definitions here None = here
next_from definitions here (Some d) = leads_to definitions here d.1

abbrev pub next_place : Definitions → ℕ → ℕ
next_place definitions place = next_from definitions place (slice_get definitions place)

-- the place that one comes to by a number of steps
abbrev pub after_steps : Definitions → ℕ → ℕ → ℕ
after_steps definitions zero place = place
after_steps definitions (suc k) place = after_steps definitions k (next_place definitions place)

-- for each definition the place that one comes to by a number of steps
abbrev pub AreJumps : Definitions → ℕ → List ℕ → Type 0
AreJumps definitions k jumps = (length jumps ≡ length definitions) × ((i : ℕ) → i < length definitions → slice_get jumps i ≡ Some (after_steps definitions k i))

-- the same by at least as many steps as there are definitions
abbrev pub HasEnds : Definitions → List ℕ → Type 0
HasEnds definitions ends = (k : ℕ) × (length definitions ≤ k) × AreJumps definitions k ends

-- the next places of a number of definitions
abbrev pub firsts : Definitions → ℕ → List ℕ
firsts definitions zero = []
firsts definitions (suc n) = firsts definitions n ++ next_place definitions n ∷ []

abbrev pub or_zero : Option ℕ → ℕ
or_zero None = 0
or_zero (Some place) = place

-- the place that one comes to by a jump
abbrev pub jump_from : List ℕ → ℕ → ℕ
jump_from jumps place = or_zero (slice_get jumps place)

-- the definition that was looked up is a name
abbrev pub is_named : Option (List ℕ × Part) → Bool
is_named None = false
is_named (Some d) = is_name d.1

abbrev pub is_named_at : Definitions → ℕ → Bool
is_named_at definitions place = is_named (slice_get definitions place)

abbrev pub smaller : Option ℕ → ℕ → ℕ
smaller None place = place
smaller (Some other) place = if nat_lt place other then place else other

abbrev pub with_place : (ℕ → Bool) → Option ℕ → ℕ → Option ℕ
with_place test least place = if test place then Some (smaller least place) else least

-- the least place that passes, of one that is known and of these
abbrev pub least_from : (ℕ → Bool) → Option ℕ → List ℕ → Option ℕ
least_from test least [] = least
least_from test least (place ∷ places) = least_from test (with_place test least place) places
