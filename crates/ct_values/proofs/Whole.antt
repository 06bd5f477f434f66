-- Values that tokens say, one at each type, are spelled by them.
use Rattle.std.proofs.Common.{◌≡◌, ℕ, suc, ◌+◌, ◌-◌, ◌≤◌, true, List, [], ◌∷◌, ◌++◌, length, map, Option, Some, refl, sym, ap, subst, ◌∙◌, append_assoc, inl, inr, arith, false}
use Rattle.std.specs.Prelude.{slice_get, IsTrue}
use Rattle.std.proofs.lemmas.List.{append-nil, nil_from_length}
use Rattle.ic_base.specs.Reader.{◌>>=◌}
use Rattle.ic_base.proofs.Steps.{some_is}
use Rattle.cd_types.specs.declared.entry.TyRef.{TyRef}
use Rattle.cd_types.specs.declared.entry.Entry.{Entry}
use Rattle.cd_types.specs.IsTable.{is_table}
use Rattle.cd_codec.specs.Content.{Content}
use Rattle.cd_codec.specs.Measure.{number, number_each}
use Rattle.std.proofs.lemmas.Bool.{false≢true}
use Rattle.cd_tokens.specs.Token.{Token, mark}
use Rattle.cd_tokens.specs.Front.{is_mark}
use Rattle.cd_text.specs.Said.{Annotated, Says, SaysParts}
use Rattle.cd_text.specs.Whole.{SaysArgument}
use Rattle.cd_text.specs.ReadSaid.{value_at as their_value}
use Rattle.cd_text.proofs.Again.{calm, annotated_again, value_again}
use Rattle.cd_text.proofs.Arguments.{good_table}
use Rattle.ct_values.specs.declared.reader.Admitted.{Admitted}
use Rattle.ct_values.specs.Steps.{Step, Reading}
use Rattle.ct_values.specs.Spelled.{annotated_at, value_at, arguments_at, spelled}
use Rattle.ct_values.specs.SayValues.{SayValues, AreMetBy}
use Rattle.ct_values.proofs.Meant.{AreMet, nothing_met, both_met, all_met}
use Rattle.ct_values.proofs.Ties.{Tied, annotated_tied}
use Rattle.ct_values.proofs.Values.{values_tied}

no_token : (one : Token) (front more : List Token) → [] ≡ front ++ one ∷ more → ⊥
no_token one [] more e = absurd cc
no_token one (f ∷ front) more e = absurd cc

-- a last token that both lists end with
same_front : (xs ys : List Token) (t : Token) → xs ++ t ∷ [] ≡ ys ++ t ∷ [] → xs ≡ ys
same_front [] [] t e = refl
same_front [] (y ∷ ys) t e = let f : [] ≡ ys ++ t ∷ [] = cc in absurd (no_token t ys [] f)
same_front (x ∷ xs) [] t e = let f : xs ++ t ∷ [] ≡ [] = cc in absurd (no_token t xs [] (sym f))
same_front (x ∷ xs) (y ∷ ys) t e =
    let first : x ≡ y = cc in
    let rest : xs ++ t ∷ [] ≡ ys ++ t ∷ [] = cc in
    rw (first, same_front xs ys t rest) refl

-- what is after one token, without another that is last
record After (one last : Token) (tokens front more : List Token) : Type 0 where
  rest : List Token
  whole : tokens ≡ front ++ one ∷ rest
  ends : more ≡ rest ++ last ∷ []

after : (one last : Token) → (last ≡ one → ⊥) → (tokens front more : List Token) → tokens ++ last ∷ [] ≡ front ++ one ∷ more → After one last tokens front more
after one last apart [] [] more e = let f : last ≡ one = cc in absurd (apart f)
after one last apart [] (f ∷ front) more e = let g : [] ≡ front ++ one ∷ more = cc in absurd (no_token one front more g)
after one last apart (t ∷ tokens) [] more e =
    let first : t ≡ one = cc in
    let rest : tokens ++ last ∷ [] ≡ more = cc in
    record { rest = tokens; whole = rw first refl; ends = sym rest }
after one last apart (t ∷ tokens) (f ∷ front) more e =
    let first : t ≡ f = cc in
    let rest : tokens ++ last ∷ [] ≡ front ++ one ∷ more = cc in
    let a = after one last apart tokens front more rest in
    let whole : t ∷ tokens ≡ f ∷ (front ++ one ∷ a.rest) = rw (first, sym a.whole) refl in
    record { rest = a.rest; whole = whole; ends = a.ends }

no_comma : mark 41 ≡ mark 44 → ⊥
no_comma e = false≢true (sym (ap (is_mark 41) e))

-- the types from a place on
abbrev From : List TyRef → ℕ → List TyRef → Type 0
From types place rest = (j : ℕ) → slice_get types (place + j) ≡ slice_get rest j

-- what is read of all arguments that are left
record All (admitted : Admitted) (table : List Entry) (types : List TyRef) (left : ℕ) (tokens : List Token) (values : List Content) (less : ℕ) : Type 0 where
  steps : List Step
  reads : (before : List Step) → arguments_at (value_at admitted table 128) types (before, left, tokens) ≡ Some (before ++ steps, less, [])
  met : AreMet steps values

-- an argument is read, whatever follows that is no colon and no equals sign
one_argument : (admitted : Admitted) (table : List Entry) → admitted.names ≡ false → IsTrue (is_table table) → (type : TyRef) (v : Content) (front rest : List Token) (left : ℕ) → Annotated type (Says table 128 type v) front → calm rest ≡ true
    → Tied (annotated_at type (value_at admitted table 128 type)) (number v + left) (front ++ rest) (v ∷ []) left rest
one_argument admitted table only formed type v front rest left is free =
    let said = annotated_again type (Says table 128 type) number (their_value table 128 type) (value_again table (good_table table formed) 128 type) v front rest left is free in
    annotated_tied (λ v. v) type (their_value table 128 type) (value_at admitted table 128 type) (values_tied admitted table 128 only formed type) (number v + left) (front ++ rest) v left rest said

last_argument : (admitted : Admitted) (table : List Entry) (t : TyRef) (ts : List TyRef) (x : ℕ × Content) (front tokens : List Token) (less : ℕ) → ts ≡ [] → tokens ≡ front
    → Tied (annotated_at t (value_at admitted table 128 t)) (number x.1 + less) (front ++ []) (x.1 ∷ []) less [] → All admitted table (t ∷ ts) (number_each (x.1 ∷ []) + less) tokens (x.1 ∷ []) less
last_argument admitted table t ts x front tokens less none whole one =
    let count : number_each (x.1 ∷ []) + less ≡ number x.1 + less = omega arith in
    record {
      steps = one.steps;
      reads = λ before.
          let same : (before, number_each (x.1 ∷ []) + less, tokens) ≡ (before, number x.1 + less, front ++ []) = rw (count, whole, append-nil front) refl in
          let first = ap (annotated_at t (value_at admitted table 128 t)) same ∙ one.reads before in
          rw (none, first) refl;
      met = one.met;
    }

next_argument : (admitted : Admitted) (table : List Entry) (t : TyRef) (ts : List TyRef) (x : ℕ × Content) (vs : List Content) (front tokens rest : List Token) (less : ℕ) → tokens ≡ front ++ mark 44 ∷ rest
    → Tied (annotated_at t (value_at admitted table 128 t)) (number x.1 + (number_each vs + less)) (front ++ mark 44 ∷ rest) (x.1 ∷ []) (number_each vs + less) (mark 44 ∷ rest) → All admitted table ts (number_each vs + less) rest vs less
    → All admitted table (t ∷ ts) (number_each (x.1 ∷ vs) + less) tokens (x.1 ∷ vs) less
next_argument admitted table t ts x vs front tokens rest less whole one next =
    let count : number_each (x.1 ∷ vs) + less ≡ number x.1 + (number_each vs + less) = omega arith in
    record {
      steps = one.steps ++ next.steps;
      reads = λ before.
          let same : (before, number_each (x.1 ∷ vs) + less, tokens) ≡ (before, number x.1 + (number_each vs + less), front ++ mark 44 ∷ rest) = rw (count, whole) refl in
          let first = ap (annotated_at t (value_at admitted table 128 t)) same ∙ one.reads before in
          rw (first, next.reads (before ++ one.steps), append_assoc before one.steps next.steps) refl;
      met = both_met one.steps next.steps (x.1 ∷ []) vs one.met next.met;
    }

arguments_tied : (admitted : Admitted) (table : List Entry) (types : List TyRef) → admitted.names ≡ false → IsTrue (is_table table) → (arguments : List (ℕ × Content)) (place : ℕ) (ts : List TyRef) (tokens : List Token) (less : ℕ) → From types place ts
    → length arguments ≡ length ts → SaysParts (mark 44) (mark 41) (SaysArgument table types) (λ x. suc x.0) place arguments (tokens ++ mark 41 ∷ [])
    → All admitted table ts (number_each (map (λ x. x.1) arguments) + less) tokens (map (λ x. x.1) arguments) less
arguments_tied admitted table types only formed [] place [] tokens less from all said =
    let none : tokens ≡ [] = same_front tokens [] (mark 41) said in
    let all_left : 0 + less ≡ less = omega arith in
    record { steps = []; reads = λ before. rw (none, append-nil before, all_left) refl; met = nothing_met }
arguments_tied admitted table types only formed [] place (t ∷ ts) tokens less from all said = absurd (omega (arith, all))
arguments_tied admitted table types only formed (x ∷ arguments) place [] tokens less from all said = absurd (omega (arith, all))
arguments_tied admitted table types only formed (x ∷ arguments) place (t ∷ ts) tokens less from all said =
    let front = said.0 in
    let argument = said.3 in
    let here : slice_get types place ≡ Some t = subst (λ (k : ℕ). slice_get types k ≡ Some t) (omega arith) (from 0) in
    let type : argument.1 ≡ t = some_is {A = TyRef} argument.1 t (sym argument.2 ∙ here) in
    let is : Annotated t (Says table 128 t x.1) front = subst (λ (u : TyRef). Annotated u (Says table 128 u x.1) front) type argument.3 in
    let rest_from : From types (suc place) ts = λ j. subst (λ (k : ℕ). slice_get types k ≡ slice_get ts j) (omega arith) (from (suc j)) in
    elim said.4 [
      | inl last ↦
          let whole : tokens ≡ front = same_front tokens front (mark 41) (said.2 ∙ ap (λ (r : List Token). front ++ r) last.1) in
          let none : ts ≡ [] = nil_from_length ts (omega (arith, all, ap length last.0)) in
          subst (λ (xs : List (ℕ × Content)). All admitted table (t ∷ ts) (number_each (map (λ y. y.1) (x ∷ xs)) + less) tokens (map (λ y. y.1) (x ∷ xs)) less) (sym last.0)
          (last_argument admitted table t ts x front tokens less none whole (one_argument admitted table only formed t x.1 front [] less is refl))
      | inr more ↦
          let a = after (mark 44) (mark 41) no_comma tokens front more.0 (said.2 ∙ ap (λ (r : List Token). front ++ r) more.1) in
          let left = number_each (map (λ y. y.1) arguments) + less in
          let one = one_argument admitted table only formed t x.1 front (mark 44 ∷ a.rest) left is refl in
          let others : SaysParts (mark 44) (mark 41) (SaysArgument table types) (λ y. suc y.0) (suc place) arguments (a.rest ++ mark 41 ∷ []) =
          subst (λ (k : ℕ). SaysParts (mark 44) (mark 41) (SaysArgument table types) (λ y. suc y.0) (suc k) arguments (a.rest ++ mark 41 ∷ [])) argument.0
          (subst (λ (r : List Token). SaysParts (mark 44) (mark 41) (SaysArgument table types) (λ y. suc y.0) (suc x.0) arguments r) a.ends more.2) in
          let next = arguments_tied admitted table types only formed arguments (suc place) ts a.rest less rest_from (omega (arith, all)) others in
          next_argument admitted table t ts x (map (λ y. y.1) arguments) front tokens a.rest less a.whole one next
    ]

whole_of : (admitted : Admitted) (table : List Entry) (types : List TyRef) (values : List Content) (tokens : List Token) → number_each values ≤ 1000000
    → All admitted table types (number_each values + (1000000 - number_each values)) tokens values (1000000 - number_each values) → (steps : List Step) × (spelled admitted table types tokens ≡ Some steps) × AreMetBy values steps
unfolding spelled
whole_of admitted table types values tokens few all =
    let start : 1000000 ≡ number_each values + (1000000 - number_each values) = omega (arith, few) in
    let same : ([], 1000000, tokens) ≡ ([], number_each values + (1000000 - number_each values), tokens) = ap (λ (n : ℕ). ([], n, tokens)) start in
    let reads : arguments_at (value_at admitted table 128) types ([], 1000000, tokens) ≡ Some (all.steps, 1000000 - number_each values, []) = ap (arguments_at (value_at admitted table 128) types) same ∙ all.reads [] in
    (all.steps, ap (λ (x : Option Reading). x >>= λ c. Some c.0) reads, λ pattern e. all_met all.steps values pattern all.met e)

pub spelled_tied : (admitted : Admitted) (table : List Entry) (types : List TyRef) (values : List Content) (tokens : List Token) → admitted.names ≡ false → IsTrue (is_table table) → SayValues table types values tokens
    → (steps : List Step) × (spelled admitted table types tokens ≡ Some steps) × AreMetBy values steps
spelled_tied admitted table types values tokens only formed s =
    let said = map (λ x. x.1) s.arguments in
    let all = arguments_tied admitted table types only formed s.arguments 0 types tokens (1000000 - number_each said) (λ j. ap (slice_get types) (omega arith)) s.all s.said in
    whole_of admitted table types values tokens s.many (subst (λ (vs : List Content). All admitted table types (number_each vs + (1000000 - number_each vs)) tokens vs (1000000 - number_each vs)) s.are all)
