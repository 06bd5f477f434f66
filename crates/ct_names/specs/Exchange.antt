-- The exchange of names for what they stand for, on tokens.
use Rattle.std.specs.Prelude.{ℕ, Bool, true, false, ◌&&◌, ◌||◌, if◌then◌else◌, List, [], ◌∷◌, ◌++◌, drop, map, Option, Some, None, slice_get, codes}
use Rattle.cd_tokens.specs.Token.{Token, run, quoted, mark, arrow}
use Rattle.cd_tokens.specs.Front.{is_word, starts}
use Rattle.cd_tokens.specs.Placed.{placed_view, placed_views}
use Rattle.cd_tokens.specs.declared.placed.PlacedToken.{PlacedToken}
use Rattle.ct_names.specs.declared.role.Before.{Before}
use Rattle.ct_names.specs.declared.role.Before.TheVariants.{Value}
use Rattle.ct_names.specs.declared.role.Role.{Role}
use Rattle.ct_names.specs.declared.role.Role.TheVariants.{Used, Bound, Other}
use Rattle.ct_names.specs.Roles.{after, role}

-- what each name stands for
abbrev pub Meanings : Type 0
Meanings = List ℕ → List Token

-- the text of a principal
abbrev pub principal_tokens : List ℕ → List Token
principal_tokens written = run (codes "principal") ∷ quoted written ∷ []

abbrev pub is_string : List Token → Bool
is_string (quoted s ∷ []) = true
is_string _ = false

-- the tokens are a principal or a service
abbrev pub is_principal : List Token → Bool
is_principal tokens = (starts (is_word (codes "principal")) tokens || starts (is_word (codes "service")) tokens) && is_string (drop 1 tokens)

-- what is written for a name; `alone`: a principal or a service without its first word
abbrev pub written : Bool → List Token → List Token
written alone tokens = if alone && is_principal tokens then drop 1 tokens else tokens

-- the name that a token is
abbrev pub name_in : Token → List ℕ
name_in (run r) = r
name_in (quoted s) = []
name_in (mark m) = []
name_in arrow = []

-- what is read in place of a token: of a name what it stands for, and after `service` and `func` a principal as a string alone
abbrev pub replacement : Role → List Token → Token → List Token
replacement (Used alone) meaning t = written alone meaning
replacement Bound meaning t = t ∷ []
replacement Other meaning t = t ∷ []

-- the same, where it may not be known what the name stands for
abbrev pub read_for : Role → Option (List Token) → Token → List Token
read_for (Used alone) None t = t ∷ []
read_for (Used alone) (Some meaning) t = written alone meaning
read_for Bound found t = t ∷ []
read_for Other found t = t ∷ []

-- how many names a token uses
abbrev pub count : Role → ℕ
count (Used alone) = 1
count Bound = 0
count Other = 0

-- the same by what the names stand for in the order of their uses; a use after the last of these is left
abbrev pub exchanged_by_from : List (List Token) → Before → List Token → List Token
exchanged_by_from meanings before [] = []
exchanged_by_from meanings before (t ∷ rest) =
    let is = role before t rest in
    read_for is (slice_get meanings 0) t ++ exchanged_by_from (drop (count is) meanings) (after before t rest) rest

abbrev pub exchanged_by : List (List Token) → List Token → List Token
exchanged_by meanings tokens = exchanged_by_from meanings Value tokens

-- the same by what each name stands for
abbrev pub exchanged_from : Meanings → Before → List Token → List Token
exchanged_from meaning before [] = []
exchanged_from meaning before (t ∷ rest) = replacement (role before t rest) (meaning (name_in t)) t ++ exchanged_from meaning (after before t rest) rest

-- what is read in place of the tokens
abbrev pub exchanged : Meanings → List Token → List Token
exchanged meaning tokens = exchanged_from meaning Value tokens

abbrev pub used_name : Role → Token → List (List ℕ)
used_name (Used alone) t = name_in t ∷ []
used_name Bound t = []
used_name Other t = []

abbrev pub places : List PlacedToken → List ℕ
places tokens = map (λ placed. placed.place) tokens

-- the place, as often as there are tokens
abbrev pub all_at : ℕ → List Token → List ℕ
all_at place tokens = map (λ t. place) tokens

-- the places of the tokens that they are read in place of, by the meanings in the order of the uses
abbrev pub places_by_from : List (List Token) → Before → List PlacedToken → List ℕ
places_by_from meanings before [] = []
places_by_from meanings before (placed ∷ rest) =
    let t = placed_view placed in
    let ts = placed_views rest in
    let is = role before t ts in
    all_at placed.place (read_for is (slice_get meanings 0) t) ++ places_by_from (drop (count is) meanings) (after before t ts) rest

abbrev pub exchanged_places_by : List (List Token) → List PlacedToken → List ℕ
exchanged_places_by meanings tokens = places_by_from meanings Value tokens

-- the same by what each name stands for
abbrev pub places_from : Meanings → Before → List PlacedToken → List ℕ
places_from meaning before [] = []
places_from meaning before (placed ∷ rest) =
    let t = placed_view placed in
    let ts = placed_views rest in
    all_at placed.place (replacement (role before t ts) (meaning (name_in t)) t) ++ places_from meaning (after before t ts) rest

abbrev pub exchanged_places : Meanings → List PlacedToken → List ℕ
exchanged_places meaning tokens = places_from meaning Value tokens

abbrev pub used_from : Before → List Token → List (List ℕ)
used_from before [] = []
used_from before (t ∷ rest) = used_name (role before t rest) t ++ used_from (after before t rest) rest

-- the names that are used, in order
abbrev pub used_names : List Token → List (List ℕ)
used_names tokens = used_from Value tokens
