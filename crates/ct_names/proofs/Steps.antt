-- One token more, where names are exchanged for what they stand for.
use Rattle.std.proofs.Common.{◌≡◌, ℕ, zero, suc, ◌+◌, ◌<◌, ◌≤◌, List, [], ◌∷◌, ◌++◌, map, drop, length, get_or, Option, Some, None, refl, sym, ap, subst, ◌∙◌, arith, append_assoc, drop-cons}
use Rattle.std.specs.Prelude.{slice_get}
use Rattle.std.specs.Option.{unwrap_or}
use Rattle.std.proofs.lemmas.List.{drop-drop, drop_all, append-nil}
use Rattle.cd_tokens.specs.Token.{Token, arrow}
use Rattle.cd_tokens.specs.Placed.{placed_view, placed_views}
use Rattle.cd_tokens.specs.declared.placed.PlacedToken.{PlacedToken}
use Rattle.ct_names.specs.declared.role.Before.{Before}
use Rattle.ct_names.specs.declared.role.Before.TheVariants.{Value}
use Rattle.ct_names.specs.declared.role.Role.{Role}
use Rattle.ct_names.specs.declared.role.Role.TheVariants.{Used, Bound, Other}
use Rattle.ct_names.specs.Roles.{role, after}
use Rattle.ct_names.specs.Exchange.{Meanings, used_from, used_name, used_names, name_in, replacement, read_for, count, all_at, exchanged_by_from, exchanged_by, exchanged_from, exchanged, places_by_from, exchanged_places_by, places_from, exchanged_places}

none_there : (found : Option (List Token)) → ((d : List Token) → unwrap_or found d ≡ d) → found ≡ None
none_there None at = refl
none_there (Some y) at = let same : [] ≡ arrow ∷ [] = sym (at []) ∙ at (arrow ∷ []) in absurd cc

-- what is at a place of a list
found_at : (found : Option (List Token)) (lists : List (List Token)) (k : ℕ) → ((d : List Token) → unwrap_or found d ≡ get_or lists k d) → found ≡ slice_get (drop k lists) 0
found_at found [] zero at = none_there found at
found_at found [] (suc k) at = none_there found at
found_at None (m ∷ lists) zero at = let same : [] ≡ arrow ∷ [] = at [] ∙ sym (at (arrow ∷ [])) in absurd cc
found_at (Some y) (m ∷ lists) zero at = ap Some (at [])
found_at found (m ∷ lists) (suc k) at = found_at found lists k at

-- a token, and the tokens that follow
pub token_there : (tokens : List PlacedToken) (index : ℕ) (placed : PlacedToken) (rest : List PlacedToken) → index < length tokens → placed ≡ get_or tokens index placed → rest ≡ drop (index + 1) tokens → drop index tokens ≡ placed ∷ rest
token_there tokens index placed rest within at after_it = let one : index + 1 ≡ suc index = omega arith in drop-cons tokens index placed within ∙ rw (after_it, one, sym at) refl

-- one part more is read
moved : {A : Type 0} (read more new front rest whole : List A) → more ≡ read ++ new → new ≡ front → read ++ (front ++ rest) ≡ whole → more ++ rest ≡ whole
moved read more new front rest whole e same done = rw (e, same) (append_assoc read front rest ∙ done)

module _ (tokens : List PlacedToken) (index : ℕ) (placed : PlacedToken) (rest : List PlacedToken) (meanings : List (List Token)) (used : ℕ) (before : Before) (found : Option (List Token)) where
  abbrev t : Token
  t = placed_view placed

  abbrev ts : List Token
  ts = placed_views rest

  abbrev is : Role
  is = role before t ts

  abbrev front : List Token
  front = read_for is (slice_get (drop used meanings) 0) t

  -- what is read in place of one token more
  pub one_more : (read more whole : List Token) → drop index tokens ≡ placed ∷ rest → ((d : List Token) → unwrap_or found d ≡ get_or meanings used d) → more ≡ read ++ read_for is found t
      → read ++ exchanged_by_from (drop used meanings) before (placed_views (drop index tokens)) ≡ whole → more ++ exchanged_by_from (drop (used + count is) meanings) (after before t ts) ts ≡ whole
  one_more read more whole split at pushed so_far =
      moved read more (read_for is found t) front (exchanged_by_from (drop (used + count is) meanings) (after before t ts) ts) whole pushed (ap (λ (f : Option (List Token)). read_for is f t) (found_at found meanings used at))
      (subst (λ (ms : List (List Token)). read ++ (front ++ exchanged_by_from ms (after before t ts) ts) ≡ whole) (drop-drop (count is) used meanings)
      (subst (λ (us : List PlacedToken). read ++ exchanged_by_from (drop used meanings) before (placed_views us) ≡ whole) split so_far))

  -- the places of one token more
  pub one_place : (read more whole : List ℕ) → drop index tokens ≡ placed ∷ rest → ((d : List Token) → unwrap_or found d ≡ get_or meanings used d) → more ≡ read ++ all_at placed.place (read_for is found t)
      → read ++ places_by_from (drop used meanings) before (drop index tokens) ≡ whole → more ++ places_by_from (drop (used + count is) meanings) (after before t ts) rest ≡ whole
  one_place read more whole split at pushed so_far =
      moved read more (all_at placed.place (read_for is found t)) (all_at placed.place front) (places_by_from (drop (used + count is) meanings) (after before t ts) rest) whole pushed
      (ap (λ (f : Option (List Token)). all_at placed.place (read_for is f t)) (found_at found meanings used at))
      (subst (λ (ms : List (List Token)). read ++ (all_at placed.place front ++ places_by_from ms (after before t ts) rest) ≡ whole) (drop-drop (count is) used meanings)
      (subst (λ (us : List PlacedToken). read ++ places_by_from (drop used meanings) before us ≡ whole) split so_far))

-- as many names are used as there are tokens at most
pub at_most_one : (used index more : ℕ) (is : Role) → more ≡ count is → used ≤ index → used + more ≤ index + 1
at_most_one used index more (Used alone) e few = rw e (omega (arith, few))
at_most_one used index more Bound e few = rw e (omega (arith, few))
at_most_one used index more Other e few = rw e (omega (arith, few))

-- ---- by what each name stands for

module _ (meaning : Meanings) where
  one_exchanged : (is : Role) (t : Token) (names : List (List ℕ)) (next : Before) (rest : List Token) → exchanged_by_from (map meaning names) next rest ≡ exchanged_from meaning next rest
      → let ms = map meaning (used_name is t ++ names) in read_for is (slice_get ms 0) t ++ exchanged_by_from (drop (count is) ms) next rest ≡ replacement is (meaning (name_in t)) t ++ exchanged_from meaning next rest
  one_exchanged (Used alone) t names next rest e = rw e refl
  one_exchanged Bound t names next rest e = rw e refl
  one_exchanged Other t names next rest e = rw e refl

  by_function : (before : Before) (tokens : List Token) → exchanged_by_from (map meaning (used_from before tokens)) before tokens ≡ exchanged_from meaning before tokens
  by_function before [] = refl
  by_function before (t ∷ rest) = one_exchanged (role before t rest) t (used_from (after before t rest) rest) (after before t rest) rest (by_function (after before t rest) rest)

  one_placed : (is : Role) (placed : PlacedToken) (names : List (List ℕ)) (next : Before) (rest : List PlacedToken) → places_by_from (map meaning names) next rest ≡ places_from meaning next rest
      → let t = placed_view placed in let ms = map meaning (used_name is t ++ names) in
      all_at placed.place (read_for is (slice_get ms 0) t) ++ places_by_from (drop (count is) ms) next rest ≡ all_at placed.place (replacement is (meaning (name_in t)) t) ++ places_from meaning next rest
  one_placed (Used alone) placed names next rest e = rw e refl
  one_placed Bound placed names next rest e = rw e refl
  one_placed Other placed names next rest e = rw e refl

  places_by_function : (before : Before) (tokens : List PlacedToken) → places_by_from (map meaning (used_from before (placed_views tokens))) before tokens ≡ places_from meaning before tokens
  places_by_function before [] = refl
  places_by_function before (placed ∷ rest) =
      let t = placed_view placed in
      let ts = placed_views rest in
      one_placed (role before t ts) placed (used_from (after before t ts) ts) (after before t ts) rest (places_by_function (after before t ts) rest)

  module _ (tokens : List PlacedToken) (index used : ℕ) (meanings : List (List Token)) (before : Before) (past : length tokens ≤ index) (same : meanings ≡ map meaning (used_names (placed_views tokens))) where
    -- all tokens are read
    pub all_read : (read : List Token) → read ++ exchanged_by_from (drop used meanings) before (placed_views (drop index tokens)) ≡ exchanged_by meanings (placed_views tokens) → read ≡ exchanged meaning (placed_views tokens)
    all_read read done =
        let ended : read ++ [] ≡ exchanged_by meanings (placed_views tokens) = subst (λ (us : List PlacedToken). read ++ exchanged_by_from (drop used meanings) before (placed_views us) ≡ exchanged_by meanings (placed_views tokens)) (drop_all index tokens past) done in
        sym (append-nil read) ∙ ended ∙ ap (λ (ms : List (List Token)). exchanged_by ms (placed_views tokens)) same ∙ by_function Value (placed_views tokens)

    pub all_placed : (read : List ℕ) → read ++ places_by_from (drop used meanings) before (drop index tokens) ≡ exchanged_places_by meanings tokens → read ≡ exchanged_places meaning tokens
    all_placed read done =
        let ended : read ++ [] ≡ exchanged_places_by meanings tokens = subst (λ (us : List PlacedToken). read ++ places_by_from (drop used meanings) before us ≡ exchanged_places_by meanings tokens) (drop_all index tokens past) done in
        sym (append-nil read) ∙ ended ∙ ap (λ (ms : List (List Token)). exchanged_places_by ms tokens) same ∙ places_by_function Value tokens
