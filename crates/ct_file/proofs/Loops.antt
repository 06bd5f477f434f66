-- Reading parts one after the other, as a loop does.
use Rattle.std.proofs.Common.{◌≡◌, ℕ, ◌<◌, Bool, true, false, List, [], ◌∷◌, ◌++◌, length, Option, Some, None, refl, sym, ap, subst, ◌∙◌, append_assoc, arith}
use Rattle.std.specs.Prelude.{◌&&◌, ◌==◌}
use Rattle.std.proofs.lemmas.List.{append-nil, length-map}
use Rattle.ic_base.specs.Reader.{◌>>=◌}
use Rattle.ic_base.proofs.Steps.{bind_some, some_is}
use Rattle.cd_tokens.specs.Token.{Token}
use Rattle.cd_tokens.specs.Front.{is_mark, starts}
use Rattle.cd_tokens.specs.Placed.{placed_view, placed_views}
use Rattle.cd_tokens.specs.declared.placed.PlacedToken.{PlacedToken}
use Rattle.ct_file.specs.Codes.{closing_code}
use Rattle.ct_file.specs.declared.cause.ParseError.{ParseError}
use Rattle.ct_file.specs.declared.cause.ParseError.TheVariants.{NoMemory, BadString, Expected}
use Rattle.ct_file.specs.Fits.{none_open, closers_after}
use Rattle.ct_file.specs.Gives.{Fails}
use Rattle.ct_file.specs.Read.{Reads, many_at, with_front, token_inside, with_token, inside_at}
use Rattle.ct_file.proofs.Exact.{Shrinks, one_more, no_more, no_part}

-- parts that were read, and those that still are
abbrev pub Still : {A : Type 0} → List A → Option (List A × List Token) → Option (List A × List Token) → Type 0
Still front read total = with_front front read ≡ total

pub at_start : {A : Type 0} (read : Option (List A × List Token)) → Still [] read read
at_start (Some z) = refl
at_start None = refl

regrouped : {A : Type 0} (front : List A) (x : A) (read : Option (List A × List Token)) → with_front front (with_front (x ∷ []) read) ≡ with_front (front ++ x ∷ []) read
regrouped {A} front x (Some z) = ap (λ (xs : List A). Some (xs, z.1)) (sym (append_assoc front (x ∷ []) z.0))
regrouped front x None = refl

pub at_end : {A : Type 0} (ends : List Token → Bool) (read : Reads A) (front : List A) (tokens : List Token) (total : Option (List A × List Token)) → ends tokens ≡ true → Still front (many_at ends read tokens) total → total ≡ Some (front, tokens)
at_end {A} ends read front tokens total end so_far =
    sym so_far ∙ ap (with_front front) (no_more ends read tokens end) ∙ ap (λ (xs : List A). Some (xs, tokens)) (append-nil front)

pub at_fault : {A : Type 0} (parse_error : ParseError) (ends : List Token → Bool) (read : Reads A) (front : List A) (tokens : List Token) (total : Option (List A × List Token)) → ends tokens ≡ false → Fails parse_error (read tokens) → Still front (many_at ends read tokens) total → Fails parse_error total
at_fault NoMemory ends read front tokens total goes none so_far = tt
at_fault BadString ends read front tokens total goes none so_far = sym so_far ∙ ap (with_front front) (no_part ends read tokens goes none)
at_fault (Expected wanted) ends read front tokens total goes none so_far = sym so_far ∙ ap (with_front front) (no_part ends read tokens goes none)

pub goes_on : {A : Type 0} (ends : List Token → Bool) (read : Reads A) → Shrinks read → (front : List A) (tokens : List Token) (total : Option (List A × List Token)) (x : A) (rest : List Token) → ends tokens ≡ false → read tokens ≡ Some (x, rest)
    → Still front (many_at ends read tokens) total → Still (front ++ x ∷ []) (many_at ends read rest) total
goes_on ends read less front tokens total x rest goes e so_far =
    sym (regrouped front x (many_at ends read rest)) ∙ sym (ap (with_front front) (one_more ends read less tokens x rest goes e)) ∙ so_far

-- fewer tokens are left
pub fewer : {A : Type 0} (read : Reads A) → Shrinks read → (x : A) (rest tokens : List PlacedToken) → read (placed_views tokens) ≡ Some (x, placed_views rest) → length rest < length tokens
fewer read less x rest tokens e =
    let l = less (placed_views tokens) (x, placed_views rest) e in
    omega (arith, l, length-map rest placed_view, length-map tokens placed_view)

-- ---- the tokens of arguments

pub none_open_is : (closers : List ℕ) → (length closers == 0) ≡ none_open closers
none_open_is [] = refl
none_open_is (k ∷ closers) = grind arith

pub inside_end : (closers : List ℕ) (front tokens : List Token) (total : Option (List Token × List Token)) → (none_open closers && starts (is_mark closing_code) tokens) ≡ true → Still front (inside_at closers tokens) total → total ≡ Some (front, tokens)
unfolding inside_at
inside_end [] front [] total end so_far = absurd cc
inside_end (k ∷ closers) front [] total end so_far = absurd cc
inside_end closers front (t ∷ rest) total end so_far =
    let s : with_front front (inside_at closers (t ∷ rest)) ≡ Some (front, t ∷ rest) = rw end (ap (λ (ts : List Token). Some (ts, t ∷ rest)) (append-nil front)) in
    sym so_far ∙ s

not_closed : (t : Token) (rest : List Token) (found : Option (List ℕ)) → ◌>>=◌ {B = Token × List ℕ × List Token} found (λ more. Some (t, more, rest)) ≡ None → (found >>= λ more. with_token t (inside_at more rest)) ≡ None
not_closed t rest None e = refl
not_closed t rest (Some more) e = absurd cc

inside_none : (closers : List ℕ) (tokens : List Token) → (none_open closers && starts (is_mark closing_code) tokens) ≡ false → token_inside closers tokens ≡ None → inside_at closers tokens ≡ None
unfolding inside_at
inside_none closers [] goes none = refl
inside_none closers (t ∷ rest) goes none = rw goes (not_closed t rest (closers_after closers t) none)

pub inside_fault : (parse_error : ParseError) (closers : List ℕ) (front tokens : List Token) (total : Option (List Token × List Token)) → (none_open closers && starts (is_mark closing_code) tokens) ≡ false → Fails parse_error (token_inside closers tokens) → Still front (inside_at closers tokens) total → Fails parse_error total
inside_fault NoMemory closers front tokens total goes none so_far = tt
inside_fault BadString closers front tokens total goes none so_far = sym so_far ∙ ap (with_front front) (inside_none closers tokens goes none)
inside_fault (Expected wanted) closers front tokens total goes none so_far = sym so_far ∙ ap (with_front front) (inside_none closers tokens goes none)

inside_step : (closers more : List ℕ) (t : Token) (rest : List Token) → (none_open closers && is_mark closing_code t) ≡ false → closers_after closers t ≡ Some more → inside_at closers (t ∷ rest) ≡ with_token t (inside_at more rest)
unfolding inside_at
inside_step closers more t rest goes e = rw (goes, e) refl

pub inside_on : (closers : List ℕ) (front tokens : List Token) (total : Option (List Token × List Token)) (t : Token) (more : List ℕ) (rest : List Token) → (none_open closers && starts (is_mark closing_code) tokens) ≡ false → token_inside closers tokens ≡ Some (t, more, rest)
    → Still front (inside_at closers tokens) total → Still (front ++ t ∷ []) (inside_at more rest) total
unfolding inside_at
inside_on closers front [] total t more rest goes e so_far = absurd cc
inside_on closers front (u ∷ tokens) total t more rest goes e so_far =
    let a = bind_some (closers_after closers u) (λ next. Some (u, next, tokens)) (t, more, rest) e in
    let same : (u, a.0, tokens) ≡ (t, more, rest) = some_is {A = Token × List ℕ × List Token} (u, a.0, tokens) (t, more, rest) a.2 in
    let S : Token × List ℕ × List Token → Type 0 = λ x. Still (front ++ x.0 ∷ []) (inside_at x.1 x.2) total in
    let s = inside_step closers a.0 u tokens goes a.1 in
    subst S same (sym (regrouped front u (inside_at a.0 tokens)) ∙ sym (ap (with_front front) s) ∙ so_far)
