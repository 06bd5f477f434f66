-- Reading definitions one after the other, as a loop does.
use Rattle.std.proofs.Common.{◌≡◌, ℕ, suc, ◌-◌, ◌+◌, ◌≤◌, ◌<◌, true, false, List, [], ◌∷◌, ◌++◌, drop, Option, Some, None, refl, sym, ap, ◌∙◌, append_assoc, arith}
use Rattle.std.proofs.lemmas.List.{append-nil}
use Rattle.ic_base.specs.declared.read_error.ReadError.{ReadError}
use Rattle.ic_base.specs.declared.read_error.ReadError.TheVariants.{NoMemory, Refused}
use Rattle.ic_base.specs.Gives.{Fails}
use Rattle.ic_base.specs.Reader.{◌>>=◌}
use Rattle.cd_tokens.specs.Token.{Token}
use Rattle.cd_grammar.specs.declared.written.Part.{Part}
use Rattle.cd_grammar.specs.declared.written.Written.{Written}
use Rattle.cd_grammar.specs.Grammar.{no_place}
use Rattle.cd_grammar.specs.Read.{is_mark, starts, then_make, put_behind, is_word, is_type, are_none, definition_at, definitions_at}
use Rattle.cd_grammar.proofs.Loops.{by_part, no_part}

abbrev Definition : Type 0
Definition = List ℕ × Part

abbrev Reading : Type 0
Reading = Option (List Definition × List Written × List Token)

-- definitions that were read, and those that still are
abbrev pub StillDefined : List (List ℕ × Part) → ℕ → List Written → List Token → Option (List (List ℕ × Part) × List Written × List Token) → Type 0
StillDefined front fuel types tokens total = then_make (λ ds. front ++ ds) (definitions_at fuel types tokens) ≡ total

regrouped : (front : List Definition) (d : Definition) (read : Reading) → then_make (λ ds. front ++ ds) (then_make (λ ds. d ∷ ds) read) ≡ then_make (λ ds. (front ++ d ∷ []) ++ ds) read
regrouped front d (Some x) = ap (λ (ys : List Definition). Some (ys, x.1, x.2)) (sym (append_assoc front (d ∷ []) x.0))
regrouped front d None = refl

-- no definition follows
pub none_follows : (front : List (List ℕ × Part)) (most i : ℕ) (types : List Written) (tokens : List Token) (total : Option (List (List ℕ × Part) × List Written × List Token))
    → i < most → starts (is_word is_type) tokens ≡ false → StillDefined front (most - i) types tokens total → total ≡ Some (front, types, tokens)
unfolding definitions_at
none_follows front most i types tokens total below none so_far =
    let more : most - i ≡ suc (most - (i + 1)) = omega arith in
    let s : then_make (λ ds. front ++ ds) (definitions_at (most - i) types tokens) ≡ Some (front, types, tokens) = rw (more, none) (ap (λ (ds : List Definition). Some (ds, types, tokens)) (append-nil front)) in
    sym so_far ∙ s

-- what a definition was put after
abbrev pub Defined : Type 0
Defined = List (List ℕ × Part) × ℕ × List Written × List Token

pub no_definition : (e : ReadError) (front : List (List ℕ × Part)) (most i : ℕ) (types : List Written) (tokens : List Token) (total : Option (List (List ℕ × Part) × List Written × List Token))
    → i < most → starts (is_word is_type) tokens ≡ true → Fails e (definition_at types (drop 1 tokens) >>= put_behind no_place front) → StillDefined front (most - i) types tokens total → Fails e total
unfolding definitions_at
no_definition NoMemory front most i types tokens total below found none so_far = tt
no_definition Refused front most i types tokens total below found none so_far =
    let more : most - i ≡ suc (most - (i + 1)) = omega arith in
    let s : then_make (λ ds. front ++ ds) (definitions_at (most - i) types tokens) ≡ None = rw (more, found, no_part (definition_at types (drop 1 tokens)) no_place front none) refl in
    sym so_far ∙ s

-- the last definition, without a semicolon
pub last_definition : (front : List (List ℕ × Part)) (most i : ℕ) (types : List Written) (tokens : List Token) (total : Option (List (List ℕ × Part) × List Written × List Token)) (y : Defined)
    → i < most → starts (is_word is_type) tokens ≡ true → (definition_at types (drop 1 tokens) >>= put_behind no_place front) ≡ Some y → are_none y.3 ≡ true → StillDefined front (most - i) types tokens total
    → total ≡ Some (y.0, y.2, y.3)
unfolding definitions_at
last_definition front most i types tokens total y below found one none so_far =
    let more : most - i ≡ suc (most - (i + 1)) = omega arith in
    by_part (definition_at types (drop 1 tokens)) no_place front (λ (y : Defined). are_none y.3 ≡ true → total ≡ Some (y.0, y.2, y.3))
    (λ x is ends.
    let s : then_make (λ ds. front ++ ds) (definitions_at (most - i) types tokens) ≡ Some (front ++ x.0 ∷ [], x.1, x.2) = rw (more, found, is, ends) refl in
    sym so_far ∙ s) y one none

pub no_semicolon : (front : List (List ℕ × Part)) (most i : ℕ) (types : List Written) (tokens : List Token) (total : Option (List (List ℕ × Part) × List Written × List Token)) (y : Defined)
    → i < most → starts (is_word is_type) tokens ≡ true → (definition_at types (drop 1 tokens) >>= put_behind no_place front) ≡ Some y → are_none y.3 ≡ false → starts (is_mark 59) y.3 ≡ false → StillDefined front (most - i) types tokens total → total ≡ None
unfolding definitions_at
no_semicolon front most i types tokens total y below found one some stuck so_far =
    let more : most - i ≡ suc (most - (i + 1)) = omega arith in
    by_part (definition_at types (drop 1 tokens)) no_place front (λ (y : Defined). are_none y.3 ≡ false → starts (is_mark 59) y.3 ≡ false → total ≡ None)
    (λ x is goes stays.
    let s : then_make (λ ds. front ++ ds) (definitions_at (most - i) types tokens) ≡ None = rw (more, found, is, goes, stays) refl in
    sym so_far ∙ s) y one some stuck

pub one_definition : (front : List (List ℕ × Part)) (most i : ℕ) (types : List Written) (tokens : List Token) (total : Option (List (List ℕ × Part) × List Written × List Token)) (y : Defined)
    → i < most → starts (is_word is_type) tokens ≡ true → (definition_at types (drop 1 tokens) >>= put_behind no_place front) ≡ Some y → are_none y.3 ≡ false → starts (is_mark 59) y.3 ≡ true → StillDefined front (most - i) types tokens total
    → StillDefined y.0 (most - (i + 1)) y.2 (drop 1 y.3) total
unfolding definitions_at
one_definition front most i types tokens total y below found one some again so_far =
    let more : most - i ≡ suc (most - (i + 1)) = omega arith in
    by_part (definition_at types (drop 1 tokens)) no_place front (λ (y : Defined). are_none y.3 ≡ false → starts (is_mark 59) y.3 ≡ true → StillDefined y.0 (most - (i + 1)) y.2 (drop 1 y.3) total)
    (λ x is goes parts.
    let s : then_make (λ ds. front ++ ds) (definitions_at (most - i) types tokens) ≡ then_make (λ ds. (front ++ x.0 ∷ []) ++ ds) (definitions_at (most - (i + 1)) x.1 (drop 1 x.2)) =
    rw (more, found, is, goes, parts) (regrouped front x.0 (definitions_at (most - (i + 1)) x.1 (drop 1 x.2))) in
    sym s ∙ so_far) y one some again

pub no_fuel : (front : List (List ℕ × Part)) (most i : ℕ) (types : List Written) (tokens : List Token) (total : Option (List (List ℕ × Part) × List Written × List Token)) → most ≤ i → StillDefined front (most - i) types tokens total → total ≡ None
unfolding definitions_at
no_fuel front most i types tokens total past so_far =
    let zero_is : most - i ≡ 0 = omega arith in
    let s : then_make (λ ds. front ++ ds) (definitions_at (most - i) types tokens) ≡ None = rw zero_is refl in
    sym so_far ∙ s
