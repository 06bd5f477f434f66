-- The names among tokens, as loops go over them.
use Rattle.std.proofs.Common.{◌≡◌, ℕ, zero, suc, ◌+◌, ◌<◌, ◌≤◌, List, [], ◌∷◌, ◌++◌, length, drop, get_or, map, Option, Some, None, refl, sym, ap, ◌∙◌, append_assoc, arith}
use Rattle.std.proofs.lemmas.List.{append-nil, length-map}
use Rattle.ic_base.specs.Reader.{◌>>=◌}
use Rattle.cd_tokens.specs.Token.{Token}
use Rattle.cd_tokens.specs.Placed.{placed_view, placed_views}
use Rattle.cd_tokens.specs.declared.placed.PlacedToken.{PlacedToken}
use Rattle.ct_names.specs.declared.role.Role.{Role}
use Rattle.ct_names.specs.declared.role.Role.TheVariants.{Other}
use Rattle.ct_names.specs.Roles.{role, after, roles_from, roles_of}
use Rattle.ct_names.specs.Exchange.{Meanings, used_name, used_from, used_names}
use Rattle.ct_check.specs.declared.cause.CheckError.{CheckError}
use Rattle.ct_check.specs.declared.cause.CheckError.TheVariants.{NoMemory, Faulty}
use Rattle.ct_check.specs.declared.naming.Lets.{Lets}
use Rattle.ct_check.specs.State.{State}
use Rattle.ct_check.specs.Answer.{Fails}
use Rattle.ct_check.specs.Naming.{slot_list, name_token, names_from}
use Rattle.ct_check.proofs.Loops.{with_front, Still, there, past}

-- ---- the role of a token

-- as many roles as tokens
as_many : {B : Type 0} (is : B → Token → List Token → Role) (next : B → Token → List Token → B) (roles : B → List Token → List Role) → ((b : B) → roles b [] ≡ []) → ((b : B) (t : Token) (rest : List Token) → roles b (t ∷ rest) ≡ is b t rest ∷ roles (next b t rest) rest)
    → (b : B) (tokens : List Token) → length (roles b tokens) ≡ length tokens
as_many is next roles none more b [] = ap (λ (rs : List Role). length rs) (none b)
as_many is next roles none more b (t ∷ rest) = ap (λ (rs : List Role). length rs) (more b t rest) ∙ ap (λ (n : ℕ). suc n) (as_many is next roles none more (next b t rest) rest)

roles_length : (tokens : List Token) → length (roles_of tokens) ≡ length tokens
roles_length tokens = as_many role after roles_from (λ b. refl) (λ b t rest. refl) _ tokens

any : {A : Type 0} (xs : List A) (i : ℕ) (x y : A) → i < length xs → get_or xs i x ≡ get_or xs i y
any [] i x y within = absurd (omega (arith, within))
any (z ∷ xs) zero x y within = refl
any (z ∷ xs) (suc i) x y within = any xs i x y (omega (arith, within))

-- as many roles as tokens, and a token among these
abbrev pub AreRoles : List Role → List PlacedToken → Type 0
AreRoles roles tokens = roles ≡ roles_of (placed_views tokens)

role_there : (roles : List Role) (tokens : List PlacedToken) (i : ℕ) (r : Role) → AreRoles roles tokens → i < length tokens → r ≡ get_or roles i Other → drop i roles ≡ r ∷ drop (i + 1) roles
role_there roles tokens i r are within is =
    let same : length roles ≡ length tokens = rw are (roles_length (placed_views tokens) ∙ length-map tokens placed_view) in
    let less : i < length roles = omega (arith, same, within) in
    there roles i r less (is ∙ any roles i Other r less)

-- ---- the slots of names

first : (lets : Lets) (state next : State) (r : Role) (roles : List Role) (t : Token) (tokens : List Token) (slot : Option ℕ) → name_token lets state r t ≡ Some (slot, next)
    → names_from lets state (r ∷ roles) (t ∷ tokens) ≡ with_front (slot_list slot) (names_from lets next roles tokens)
first lets state next r roles t tokens slot e = rw e (shape (names_from lets next roles tokens))
  where
    shape : (rest : Option (List ℕ × State)) → (rest >>= λ more. Some (slot_list slot ++ more.0, more.1)) ≡ with_front (slot_list slot) rest
    shape None = refl
    shape (Some more) = refl

regrouped : (front slots : List ℕ) (checked : Option (List ℕ × State)) → with_front front (with_front slots checked) ≡ with_front (front ++ slots) checked
regrouped front slots (Some c) = ap (λ (xs : List ℕ). Some (xs, c.1)) (sym (append_assoc front slots c.0))
regrouped front slots None = refl

none_left : (lets : Lets) (state : State) (roles : List Role) → names_from lets state roles [] ≡ Some ([], state)
none_left lets state [] = refl
none_left lets state (r ∷ roles) = refl

pub names_more : (lets : Lets) (front new : List ℕ) (state next : State) (roles : List Role) (tokens : List PlacedToken) (i : ℕ) (placed : PlacedToken) (r : Role) (slot : Option ℕ) (total : Option (List ℕ × State))
    → AreRoles roles tokens → i < length tokens → placed ≡ get_or tokens i placed → r ≡ get_or roles i Other → name_token lets state r (placed_view placed) ≡ Some (slot, next) → new ≡ front ++ slot_list slot
    → Still front (names_from lets state (drop i roles) (placed_views (drop i tokens))) total → Still new (names_from lets next (drop (i + 1) roles) (placed_views (drop (i + 1) tokens))) total
names_more lets front new state next roles tokens i placed r slot total are within at is e news so_far =
    let rest = placed_views (drop (i + 1) tokens) in
    let here : Still front (names_from lets state (r ∷ drop (i + 1) roles) (placed_view placed ∷ rest)) total = rw (role_there roles tokens i r are within is, there tokens i placed within at) at so_far in
    rw news (sym (regrouped front (slot_list slot) (names_from lets next (drop (i + 1) roles) rest)) ∙ sym (ap (with_front front) (first lets state next r (drop (i + 1) roles) (placed_view placed) rest slot e)) ∙ here)

pub names_fault : (error : CheckError) (lets : Lets) (front : List ℕ) (state : State) (roles : List Role) (tokens : List PlacedToken) (i : ℕ) (placed : PlacedToken) (r : Role) (total : Option (List ℕ × State))
    → AreRoles roles tokens → i < length tokens → placed ≡ get_or tokens i placed → r ≡ get_or roles i Other → Fails error (name_token lets state r (placed_view placed))
    → Still front (names_from lets state (drop i roles) (placed_views (drop i tokens))) total → Fails error total
names_fault NoMemory lets front state roles tokens i placed r total are within at is fails so_far = tt
names_fault (Faulty fault) lets front state roles tokens i placed r total are within at is fails so_far =
    let rest = placed_views (drop (i + 1) tokens) in
    let here : Still front (names_from lets state (r ∷ drop (i + 1) roles) (placed_view placed ∷ rest)) total = rw (role_there roles tokens i r are within is, there tokens i placed within at) at so_far in
    let e : names_from lets state (r ∷ drop (i + 1) roles) (placed_view placed ∷ rest) ≡ None = rw fails refl in
    sym here ∙ ap (with_front front) e

pub names_end : (lets : Lets) (front : List ℕ) (state : State) (roles : List Role) (tokens : List PlacedToken) (i : ℕ) (total : Option (List ℕ × State)) → length tokens ≤ i
    → Still front (names_from lets state (drop i roles) (placed_views (drop i tokens))) total → total ≡ Some (front, state)
names_end lets front state roles tokens i total all so_far =
    let done : with_front front (Some ([], state)) ≡ total = rw (past tokens i all, none_left lets state (drop i roles)) at so_far in
    sym done ∙ ap (λ (xs : List ℕ). Some (xs, state)) (append-nil front)

-- ---- what is read in place of names

-- the names that tokens of these roles use
abbrev pub used_by : List Role → List Token → List (List ℕ)
used_by [] tokens = []
used_by (r ∷ roles) [] = []
used_by (r ∷ roles) (t ∷ tokens) = used_name r t ++ used_by roles tokens

all_used : {B : Type 0} (is : B → Token → List Token → Role) (next : B → Token → List Token → B) (roles : B → List Token → List Role) (used : B → List Token → List (List ℕ)) → ((b : B) → roles b [] ≡ []) → ((b : B) → used b [] ≡ [])
    → ((b : B) (t : Token) (rest : List Token) → roles b (t ∷ rest) ≡ is b t rest ∷ roles (next b t rest) rest) → ((b : B) (t : Token) (rest : List Token) → used b (t ∷ rest) ≡ used_name (is b t rest) t ++ used (next b t rest) rest)
    → (b : B) (tokens : List Token) → used_by (roles b tokens) tokens ≡ used b tokens
all_used is next roles used none_is none more_are more b [] = rw (none_is b, none b) refl
all_used is next roles used none_is none more_are more b (t ∷ rest) =
    rw (more_are b t rest, more b t rest) (ap (λ (names : List (List ℕ)). used_name (is b t rest) t ++ names) (all_used is next roles used none_is none more_are more (next b t rest) rest))

used_are : (tokens : List Token) → used_by (roles_of tokens) tokens ≡ used_names tokens
used_are tokens = all_used role after roles_from used_from (λ b. refl) (λ b. refl) (λ b t rest. refl) (λ b t rest. refl) _ tokens

none_used : (roles : List Role) → used_by roles [] ≡ []
none_used [] = refl
none_used (r ∷ roles) = refl

both : (meaning : Meanings) (names more : List (List ℕ)) → map meaning (names ++ more) ≡ map meaning names ++ map meaning more
both meaning [] more = refl
both meaning (name ∷ names) more = ap (λ (ms : List (List Token)). meaning name ∷ ms) (both meaning names more)

pub meanings_start : (meaning : Meanings) (roles : List Role) (tokens : List PlacedToken) → AreRoles roles tokens → map meaning (used_by roles (placed_views tokens)) ≡ map meaning (used_names (placed_views tokens))
meanings_start meaning roles tokens are = rw are (ap (map meaning) (used_are (placed_views tokens)))

pub meanings_end : (meaning : Meanings) (read total : List (List Token)) (roles : List Role) (tokens : List PlacedToken) (i : ℕ) → length tokens ≤ i → read ++ map meaning (used_by (drop i roles) (placed_views (drop i tokens))) ≡ total → read ≡ total
meanings_end meaning read total roles tokens i all so_far =
    let done : read ++ [] ≡ total = rw (past tokens i all, none_used (drop i roles)) at so_far in
    sym (append-nil read) ∙ done
