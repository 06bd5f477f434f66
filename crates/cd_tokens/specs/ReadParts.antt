-- Parts with a separator between, as functions that read tokens.
use Rattle.std.specs.Prelude.{ℕ, zero, suc, List, [], ◌∷◌, drop, Option, Some, None, if◌then◌else◌}
use Rattle.ic_base.specs.Reader.{◌>>=◌}
use Rattle.cd_tokens.specs.Token.{Token}
use Rattle.cd_tokens.specs.Front.{is_mark, starts}

-- what reads something from the front of the tokens, with a state
abbrev pub Reading : Type 0 → Type 0 → Type 0
Reading S A = S → List Token → Option (A × S × List Token)

-- what f makes of what is read
abbrev pub then_make : {S A B : Type 0} → (A → B) → Option (A × S × List Token) → Option (B × S × List Token)
then_make f read = read >>= λ x. Some (f x.0, x.1, x.2)

-- after a part: the end, or a separator and more parts
abbrev pub after_part : {S A : Type 0} → ℕ → ℕ → (A → Reading S (List A)) → A × S × List Token → Option (List A × S × List Token)
after_part separator end more x =
    if starts (is_mark end) x.2 then Some (x.0 ∷ [], x.1, drop 1 x.2)
    else if starts (is_mark separator) x.2 then then_make (λ xs. x.0 ∷ xs) (more x.0 x.1 (drop 1 x.2)) else None

-- parts up to a closing mark, fewer than `fuel`; `step` makes of a part what the next is read by
unfoldable pub parts_at : {S A : Type 0} → ℕ → ℕ → (ℕ → Reading S A) → (A → ℕ) → ℕ → ℕ → Reading S (List A)
parts_at separator end read step zero next state tokens = None
parts_at separator end read step (suc fuel) next state tokens =
    if starts (is_mark end) tokens then Some ([], state, drop 1 tokens)
    else (read next state tokens >>= after_part separator end (λ x. parts_at separator end read step fuel (step x)))
