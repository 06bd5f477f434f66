-- Reading parts one after the other, as a loop does that keeps them with the place of the next; and words and annotations.
use Rattle.std.proofs.Common.{◌≡◌, ℕ, zero, suc, ◌-◌, ◌+◌, ◌≤◌, ◌<◌, true, false, List, [], ◌∷◌, ◌++◌, drop, Option, Some, None, refl, sym, ap, subst, ◌∙◌, append_assoc, arith}
use Rattle.std.proofs.lemmas.List.{append-nil}
use Rattle.ic_base.specs.declared.read_error.ReadError.{ReadError}
use Rattle.ic_base.specs.declared.read_error.ReadError.TheVariants.{NoMemory, Refused}
use Rattle.ic_base.specs.Gives.{Fails}
use Rattle.ic_base.specs.Reader.{◌>>=◌}
use Rattle.ic_base.proofs.Steps.{bind_some, some_is}
use Rattle.cd_tokens.specs.Token.{Token}
use Rattle.cd_tokens.proofs.Loops as loops
use Rattle.cd_tokens.proofs.Loops.{Still}
use Rattle.cd_grammar.specs.declared.word.Word.{Word}
use Rattle.cd_grammar.specs.declared.written.Written.{Written}
use Rattle.cd_grammar.specs.Read.{Reading, is_mark, starts, put_behind, token_note, first_note, notes_at, first_word, named_at, after_word_at, type_at, method_type_at}

-- what a part was put after tells of the part
pub by_part : {S A : Type 0} (read : Option (A × S × List Token)) (step : A → ℕ) (front : List A) (P : List A × ℕ × S × List Token → Type 0) → ((x : A × S × List Token) → read ≡ Some x → P (front ++ x.0 ∷ [], step x.0, x.1, x.2))
    → (y : List A × ℕ × S × List Token) → (read >>= put_behind step front) ≡ Some y → P y
by_part {S} {A} read step front P law y e =
    let a = bind_some read (put_behind step front) y e in
    subst P (some_is {A = List A × ℕ × S × List Token} (front ++ a.0.0 ∷ [], step a.0.0, a.0.1, a.0.2) y a.2) (law a.0 a.1)

pub no_part : {S A : Type 0} (read : Option (A × S × List Token)) (step : A → ℕ) (front : List A) → (read >>= put_behind step front) ≡ None → read ≡ None
no_part None step front e = refl
no_part (Some x) step front e = absurd cc

-- what reads a part refuses where nothing is put after those before
fails_part : {S A : Type 0} (e : ReadError) (read : Option (A × S × List Token)) (step : A → ℕ) (front : List A) → Fails e (read >>= put_behind step front) → Fails e read
fails_part NoMemory read step front none = tt
fails_part Refused read step front none = no_part read step front none

-- there is no part
pub no_part_there : {S A : Type 0} (e : ReadError) (separator end : ℕ) (read : ℕ → Reading S A) (step : A → ℕ) (front : List A) (most i next : ℕ) (state : S) (tokens : List Token) (total : Option (List A × S × List Token))
    → i < most → starts (is_mark end) tokens ≡ false → Fails e (read next state tokens >>= put_behind step front) → Still separator end read step front (most - i) next state tokens total → Fails e total
no_part_there e separator end read step front most i next state tokens total below on none so_far =
    loops.no_part_there e separator end read step front most i next state tokens total below on (fails_part e (read next state tokens) step front none) so_far

-- the last part
pub last_part : {S A : Type 0} (separator end : ℕ) (read : ℕ → Reading S A) (step : A → ℕ) (front : List A) (most i next : ℕ) (state : S) (tokens : List Token) (total : Option (List A × S × List Token)) (y : List A × ℕ × S × List Token)
    → i < most → starts (is_mark end) tokens ≡ false → (read next state tokens >>= put_behind step front) ≡ Some y → starts (is_mark end) y.3 ≡ true → Still separator end read step front (most - i) next state tokens total
    → total ≡ Some (y.0, y.2, drop 1 y.3)
last_part {S} {A} separator end read step front most i next state tokens total y below on one ended so_far =
    by_part (read next state tokens) step front (λ (y : List A × ℕ × S × List Token). starts (is_mark end) y.3 ≡ true → total ≡ Some (y.0, y.2, drop 1 y.3))
    (λ x is ends. loops.last_part separator end read step front most i next state tokens total x.0 x.1 x.2 below on is ends so_far) y one ended

-- neither an end nor a separator
pub no_separator : {S A : Type 0} (separator end : ℕ) (read : ℕ → Reading S A) (step : A → ℕ) (front : List A) (most i next : ℕ) (state : S) (tokens : List Token) (total : Option (List A × S × List Token)) (y : List A × ℕ × S × List Token)
    → i < most → starts (is_mark end) tokens ≡ false → (read next state tokens >>= put_behind step front) ≡ Some y → starts (is_mark end) y.3 ≡ false → starts (is_mark separator) y.3 ≡ false → Still separator end read step front (most - i) next state tokens total
    → total ≡ None
no_separator {S} {A} separator end read step front most i next state tokens total y below on one other stuck so_far =
    by_part (read next state tokens) step front (λ (y : List A × ℕ × S × List Token). starts (is_mark end) y.3 ≡ false → starts (is_mark separator) y.3 ≡ false → total ≡ None)
    (λ x is goes stays. loops.no_separator separator end read step front most i next state tokens total x.0 x.1 x.2 below on is goes stays so_far) y one other stuck

-- one more part
pub part_read : {S A : Type 0} (separator end : ℕ) (read : ℕ → Reading S A) (step : A → ℕ) (front : List A) (most i next : ℕ) (state : S) (tokens : List Token) (total : Option (List A × S × List Token)) (y : List A × ℕ × S × List Token)
    → i < most → starts (is_mark end) tokens ≡ false → (read next state tokens >>= put_behind step front) ≡ Some y → starts (is_mark end) y.3 ≡ false → starts (is_mark separator) y.3 ≡ true → Still separator end read step front (most - i) next state tokens total
    → Still separator end read step y.0 (most - (i + 1)) y.1 y.2 (drop 1 y.3) total
part_read {S} {A} separator end read step front most i next state tokens total y below on one other again so_far =
    by_part (read next state tokens) step front (λ (y : List A × ℕ × S × List Token). starts (is_mark end) y.3 ≡ false → starts (is_mark separator) y.3 ≡ true → Still separator end read step y.0 (most - (i + 1)) y.1 y.2 (drop 1 y.3) total)
    (λ x is goes parts. loops.part_read separator end read step front most i next state tokens total x.0 x.1 x.2 below on is goes parts so_far) y one other again

-- ---- a type by its first word

pub type_value : (depth : ℕ) (types : List Written) (tokens rest : List Token) (w : Word) → 0 < depth → first_word tokens ≡ Some w → rest ≡ drop 1 tokens
    → type_at depth types tokens ≡ after_word_at (type_at (depth - 1)) (method_type_at (depth - 1)) w types rest
unfolding type_at
type_value zero types tokens rest w deep is e = absurd (omega (arith, deep))
type_value (suc depth) types [] rest w deep is e = absurd cc
type_value (suc depth) types (t ∷ more) rest w deep is e =
    let n : suc depth - 1 ≡ depth = omega arith in
    rw (is, e, n) refl

pub type_named : (depth : ℕ) (types : List Written) (tokens : List Token) → 0 < depth → first_word tokens ≡ None → type_at depth types tokens ≡ named_at types tokens
unfolding type_at
type_named zero types tokens deep is = absurd (omega (arith, deep))
type_named (suc depth) types [] deep is = refl
type_named (suc depth) types (t ∷ more) deep is = rw is refl

-- ---- annotations

-- annotations that were read, and those that still are
abbrev pub NotesStill : List ℕ → List Token → List Token → Type 0
NotesStill notes rest all = notes_at all ≡ (notes ++ (notes_at rest).0, (notes_at rest).1)

first_is : (t : Token) (rest : List Token) (note : ℕ) → token_note t ≡ Some note → notes_at (t ∷ rest) ≡ (note ∷ (notes_at rest).0, (notes_at rest).1)
unfolding notes_at
first_is t rest note e = rw e refl

pub one_note : (notes : List ℕ) (rest all : List Token) (note : ℕ) → first_note rest ≡ Some note → NotesStill notes rest all → NotesStill (notes ++ note ∷ []) (drop 1 rest) all
one_note notes [] all note e so_far = absurd cc
one_note notes (t ∷ rest) all note e so_far =
    so_far ∙ ap (λ (x : List ℕ × List Token). (notes ++ x.0, x.1)) (first_is t rest note e) ∙ ap (λ (ns : List ℕ). (ns, (notes_at rest).1)) (sym (append_assoc notes (note ∷ []) (notes_at rest).0))

none_is : (t : Token) (rest : List Token) → token_note t ≡ None → notes_at (t ∷ rest) ≡ ([], t ∷ rest)
unfolding notes_at
none_is t rest e = rw e refl

no_notes : (rest : List Token) → first_note rest ≡ None → notes_at rest ≡ ([], rest)
unfolding notes_at
no_notes [] e = refl
no_notes (t ∷ rest) e = none_is t rest e

pub all_notes : (notes : List ℕ) (rest all : List Token) → first_note rest ≡ None → NotesStill notes rest all → notes_at all ≡ (notes, rest)
all_notes notes rest all e so_far = so_far ∙ ap (λ (x : List ℕ × List Token). (notes ++ x.0, x.1)) (no_notes rest e) ∙ ap (λ (ns : List ℕ). (ns, rest)) (append-nil notes)
