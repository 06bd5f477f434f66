-- The text of a list of values is read exactly.
use Rattle.std.proofs.Common.{◌≡◌, ℕ, suc, ◌+◌, ◌≤◌, ◌<◌, ◌-◌, Bool, true, false, List, [], ◌∷◌, ◌++◌, length, drop, map, Option, Some, None, refl, sym, ap, subst, ◌∙◌, inl, inr, arith}
use Rattle.std.specs.Prelude.{◌==◌, ◌&&◌, slice_get, Result, Ok, Err, IfOk, IsTrue}
use Rattle.std.specs.Str.{is_utf8}
use Rattle.ic_base.specs.declared.read_error.ReadError.{ReadError}
use Rattle.ic_base.specs.declared.read_error.ReadError.TheVariants.{NoMemory, Refused}
use Rattle.ic_base.specs.Gives.{Fails, Gives}
use Rattle.cd_types.specs.IsTable.{is_table}
use Rattle.cd_types.specs.Shape.{entry_shape}
use Rattle.cd_types.proofs.EntryLemmas.{entry_ordered}
use Rattle.cd_types.specs.declared.entry.TyRef.TheVariants.{Prim, Index}
use Rattle.cd_types.specs.declared.entry.Entry.TheVariants.{Opt, Seq, Rec, Var, Func, Service}
use Rattle.cd_codec.specs.declared.value.Value.{Value}
use Rattle.cd_codec.specs.View.{view, views}
use Rattle.cd_tokens.specs.Lexed.{IsTokens, Agrees}
use Rattle.cd_tokens.specs.ReadTokens.{tokens_of}
use Rattle.cd_tokens.proofs.Streams.{one_list, tokens_take, tokens_again}
use Rattle.std.proofs.lemmas.List.{append-nil, length-append, length-map, map_push}
use Rattle.ic_base.specs.Reader.{◌>>=◌}
use Rattle.ic_base.proofs.Steps.{bind_some, some_is}
use Rattle.cd_types.specs.declared.entry.TyRef.{TyRef}
use Rattle.cd_types.specs.declared.entry.Entry.{Entry}
use Rattle.cd_codec.specs.Content.{Content}
use Rattle.cd_codec.specs.Measure.{number, number_each}
use Rattle.cd_tokens.specs.Token.{Token, mark}
use Rattle.cd_text.specs.Said.{Says}
use Rattle.cd_text.specs.ReadText.{values_of}
use Rattle.cd_text.specs.Whole.{SaysArgument, Said, SaysArguments}
use Rattle.cd_text.specs.Placed.{placed}
use Rattle.cd_plain.specs.ReadPlain.{is_mark, starts}
use Rattle.cd_text.specs.ReadSaid.{then_make, annotated_at, after_field, parts_at, value_at, argument_at, all_said, arguments_at}
use Rattle.cd_tokens.proofs.Fronts.{true_or_false}
use Rattle.cd_tokens.proofs.Starts.{is_equal, started}
use Rattle.cd_text.proofs.Parts.{Consumes, Sound, Complete, sum_of, parts_take, parts_again}
use Rattle.cd_text.proofs.Values.{both, Good, IsGood, fields_distinct, number_field, annotated_takes, value_takes}
use Rattle.cd_text.proofs.Again.{calm, fewer, annotated_again, value_again, annotated_open}

argument_takes : (table : List Entry) → Good table → (types : List TyRef) (place : ℕ) → Sound (SaysArgument table types place) number_field (argument_at table types place)
unfolding number_field
argument_takes table good types place n tokens z e =
    let a = bind_some (slice_get types place) (λ type. then_make (λ v. (place, v)) (annotated_at type (value_at table 128 type) n tokens)) z e in
    let b = bind_some (annotated_at a.0 (value_at table 128 a.0) n tokens) (λ x. Some ((place, x.0), x.1, x.2)) z a.2 in
    let s = annotated_takes a.0 (Says table 128 a.0) number (value_at table 128 a.0) (value_takes table good 128 a.0) n tokens b.0 b.1 in
    subst (Consumes (SaysArgument table types place) number_field n tokens) (some_is {A = (ℕ × Content) × ℕ × List Token} ((place, b.0.0), b.0.1, b.0.2) z b.2)
    (record { front = s.front; parts = s.parts; said = (refl, a.0, a.1, s.said); left = s.left })

argument_again : (table : List Entry) → Good table → (types : List TyRef) (place : ℕ) → Complete calm (SaysArgument table types place) number_field (argument_at table types place)
unfolding number_field
argument_again table good types place x front rest left is free =
    rw (is.2, annotated_again is.1 (Says table 128 is.1) number (value_at table 128 is.1) (value_again table good 128 is.1) x.1 front rest left is.3 free) (ap (λ k. Some ((k, x.1), left, rest)) (sym is.0))

argument_open : (table : List Entry) (types : List TyRef) (place : ℕ) (x : ℕ × Content) (front rest : List Token) → SaysArgument table types place x front → starts (is_mark 41) (front ++ rest) ≡ false
argument_open table types place x front rest is = (annotated_open table 128 is.1 x.1 front rest is.3).0

argument_some : (table : List Entry) (types : List TyRef) (place : ℕ) (x : ℕ × Content) (front : List Token) → SaysArgument table types place x front → 0 < length front
argument_some table types place x front is = (annotated_open table 128 is.1 x.1 front [] is.3).1

number_of_all : (arguments : List (ℕ × Content)) → number_each (map (λ x. x.1) arguments) ≡ sum_of number_field arguments
unfolding number_field
number_of_all [] = refl
number_of_all (x ∷ arguments) = ap (λ k. number x.1 + k) (number_of_all arguments)

-- what the tokens of a text say
all_takes : (types : List TyRef) (x : List (ℕ × Content) × ℕ × List Token) (values : List Content) → all_said types x ≡ Some values → (x.2 ≡ []) × (length x.0 ≡ length types) × (map (λ y. y.1) x.0 ≡ values)
all_takes types (arguments, left, []) values e = elim (true_or_false (length arguments == length types)) [
  | inl same ↦ (refl, is_equal (length arguments) (length types) same, some_is {A = List Content} (map (λ y. y.1) arguments) values (rw same at e))
  | inr other ↦ let f : None ≡ Some values = rw other at e in absurd cc
]
all_takes types (arguments, left, t ∷ rest) values e = absurd cc

pub arguments_take : (table : List Entry) → Good table → (types : List TyRef) (tokens : List Token) (values : List Content) → arguments_at table types tokens ≡ Some values → SaysArguments table types values tokens
unfolding arguments_at
arguments_take table good types tokens values e = elim (true_or_false (starts (is_mark 40) tokens)) [
  | inr never ↦ let f : None ≡ Some values = rw never at e in absurd cc
  | inl found ↦
      let f : (parts_at 44 41 (argument_at table types) after_field (length tokens) 0 1000000 (drop 1 tokens) >>= all_said types) ≡ Some values = rw found at e in
      let a = bind_some (parts_at 44 41 (argument_at table types) after_field (length tokens) 0 1000000 (drop 1 tokens)) (all_said types) values f in
      let s = parts_take 44 41 (SaysArgument table types) (λ x. suc x.0) number_field (argument_at table types) (argument_takes table good types) (length tokens) 0 1000000 (drop 1 tokens) a.0 a.1 in
      let t = all_takes types a.0 values a.2 in
      let few = s.left in
      let count = number_of_all a.0.0 in
      record {
        inner = s.front;
        arguments = a.0.0;
        whole = started 40 tokens found ∙ ap (λ (ts : List Token). mark 40 ∷ ts) (s.parts ∙ ap (λ ts. s.front ++ ts) t.0 ∙ append-nil s.front);
        said = s.said;
        all = t.1;
        are = t.2;
        many = subst (λ vs. number_each vs ≤ 1000000) t.2 (omega (arith, few, count));
      }
]

same_length : (n : ℕ) → (n == n) ≡ true
same_length n = grind arith

pub arguments_again : (table : List Entry) → Good table → (types : List TyRef) (values : List Content) (tokens : List Token) → SaysArguments table types values tokens → arguments_at table types tokens ≡ Some values
unfolding arguments_at
arguments_again table good types values tokens s =
    let count : sum_of number_field s.arguments ≡ number_each values = sym (number_of_all s.arguments) ∙ ap number_each s.are in
    let left = 1000000 - number_each values in
    let n : 1000000 ≡ sum_of number_field s.arguments + left = let m = s.many in omega (arith, count, m) in
    let enough : length s.arguments < length (mark 40 ∷ s.inner) =
    let f = fewer (mark 44) (mark 41) (SaysArgument table types) (λ x. suc x.0) (argument_some table types) s.arguments 0 s.inner s.said in omega (arith, f) in
    let read_is : parts_at 44 41 (argument_at table types) after_field (length (mark 40 ∷ s.inner)) 0 1000000 s.inner ≡ Some (s.arguments, left, []) =
    ap (λ k. parts_at 44 41 (argument_at table types) after_field (length (mark 40 ∷ s.inner)) 0 k s.inner) n
    ∙ ap (λ ts. parts_at 44 41 (argument_at table types) after_field (length (mark 40 ∷ s.inner)) 0 (sum_of number_field s.arguments + left) ts) (sym (append-nil s.inner))
    ∙ parts_again 44 41 (SaysArgument table types) (λ x. suc x.0) number_field (argument_at table types) calm (argument_again table good types) (argument_open table types) (λ ts. refl) (λ ts. refl) refl
    s.arguments (length (mark 40 ∷ s.inner)) 0 left s.inner [] s.said enough in
    rw (s.whole, read_is, s.all, same_length (length types)) (ap (λ vs. Some vs) s.are)

-- ---- values with their places

pub placed_push : (place : ℕ) (vs : List Content) (v : Content) → placed place (vs ++ v ∷ []) ≡ placed place vs ++ (place + length vs, v) ∷ []
placed_push place [] v = let n : place + 0 ≡ place = omega arith in rw n refl
placed_push place (u ∷ vs) v =
    let n : suc place + length vs ≡ place + suc (length vs) = omega arith in
    ap (λ (ps : List (ℕ × Content)). (place, u) ∷ ps) (placed_push (suc place) vs v ∙ ap (λ k. placed (suc place) vs ++ (k, v) ∷ []) n)

pub placed_values : (place : ℕ) (vs : List Content) → map (λ x. x.1) (placed place vs) ≡ vs
placed_values place [] = refl
placed_values place (v ∷ vs) = ap (λ (us : List Content). v ∷ us) (placed_values (suc place) vs)

pub placed_count : (place : ℕ) (vs : List Content) → length (placed place vs) ≡ length vs
placed_count place [] = refl
placed_count place (v ∷ vs) = ap suc (placed_count (suc place) vs)

-- ---- the loop of the code

pub placed_more : (items : List Value) (v : Value) (new : List Value) → new ≡ items ++ v ∷ [] → placed 0 (views new) ≡ placed 0 (views items) ++ (length items, view v) ∷ []
placed_more items v new e =
    let n : 0 + length (views items) ≡ length items = let m = length-map items view in omega (arith, m) in
    ap (λ xs. placed 0 (views xs)) e ∙ ap (placed 0) (map_push view items v) ∙ placed_push 0 (views items) (view v) ∙ ap (λ k. placed 0 (views items) ++ (k, view v) ∷ []) n

pub length_more : (items : List Value) (v : Value) (new : List Value) → new ≡ items ++ v ∷ [] → length new ≡ suc (length items)
length_more items v new e = let n = ap length e in let m = length-append items (v ∷ []) in omega (arith, n, m)

-- a value is read at its place
pub at_count : (table : List Entry) (types : List TyRef) (place count unread : ℕ) (tokens : List Token) (v : Content) (left : ℕ) (rest : List Token) → place ≡ count → argument_at table types place unread tokens ≡ Some ((place, v), left, rest)
    → argument_at table types count unread tokens ≡ Some ((count, v), left, rest)
at_count table types place count unread tokens v left rest same e = subst (λ k. argument_at table types k unread tokens ≡ Some ((k, v), left, rest)) same e

pub fails_at : (e : ReadError) (table : List Entry) (types : List TyRef) (place count unread : ℕ) (tokens : List Token) → place ≡ count → Fails e (argument_at table types place unread tokens) → Fails e (argument_at table types count unread tokens)
fails_at e table types place count unread tokens same none = subst (λ k. Fails e (argument_at table types k unread tokens)) same none

-- ---- all values

no_token : (tokens : List Token) (count : ℕ) → length tokens ≡ count → (count == 0) ≡ true → tokens ≡ []
no_token [] count e none = refl
no_token (t ∷ tokens) count e none = let z : count ≡ 0 = is_equal count 0 none in absurd (omega (arith, e, z))

pub all_there : (table : List Entry) (types : List TyRef) (tokens rest : List Token) (vs : List Content) (left count values : ℕ) → starts (is_mark 40) tokens ≡ true → parts_at 44 41 (argument_at table types) after_field (length tokens) 0 1000000 (drop 1 tokens) ≡ Some (placed 0 vs, left, rest)
    → length rest ≡ count → length vs ≡ values → (count == 0 && values == length types) ≡ true → arguments_at table types tokens ≡ Some vs
unfolding arguments_at
all_there table types tokens rest vs left count values paren e n m all =
    let h = both (count == 0) (values == length types) all in
    let none : rest ≡ [] = no_token rest count n h.0 in
    let same : length (placed 0 vs) ≡ length types = placed_count 0 vs ∙ m ∙ is_equal values (length types) h.1 in
    rw (paren, e, none, same, same_length (length types)) (ap (λ us. Some us) (placed_values 0 vs))

not_all : (types : List TyRef) (vs : List Content) (left count values : ℕ) (rest : List Token) → length rest ≡ count → length vs ≡ values → (count == 0 && values == length types) ≡ false → all_said types (placed 0 vs, left, rest) ≡ None
not_all types vs left count values (t ∷ rest) n m bad = refl
not_all types vs left count values [] n m bad =
    let z : count ≡ 0 = sym n in
    let k : length (placed 0 vs) ≡ values = placed_count 0 vs ∙ m in
    let other : (values == length types) ≡ false = rw z at bad in
    rw (k, other) refl

pub not_there : (table : List Entry) (types : List TyRef) (tokens rest : List Token) (vs : List Content) (left count values : ℕ) → starts (is_mark 40) tokens ≡ true → parts_at 44 41 (argument_at table types) after_field (length tokens) 0 1000000 (drop 1 tokens) ≡ Some (placed 0 vs, left, rest)
    → length rest ≡ count → length vs ≡ values → (count == 0 && values == length types) ≡ false → arguments_at table types tokens ≡ None
unfolding arguments_at
not_there table types tokens rest vs left count values paren e n m bad = rw (paren, e) (not_all types vs left count values rest n m bad)

pub no_arguments : (e : ReadError) (table : List Entry) (types : List TyRef) (tokens : List Token) → starts (is_mark 40) tokens ≡ true → Fails e (parts_at 44 41 (argument_at table types) after_field (length tokens) 0 1000000 (drop 1 tokens)) → Fails e (arguments_at table types tokens)
unfolding arguments_at
no_arguments NoMemory table types tokens paren none = tt
no_arguments Refused table types tokens paren none = rw (paren, none) refl

pub no_paren : (table : List Entry) (types : List TyRef) (tokens : List Token) → starts (is_mark 40) tokens ≡ false → arguments_at table types tokens ≡ None
unfolding arguments_at
no_paren table types tokens other = rw other refl

-- ---- the text

good_shape : (table : List Entry) (i : ℕ) (entry : Option Entry) → IsTrue (is_table table) → slice_get table i ≡ entry → IsGood (entry_shape entry)
good_shape table i None is e = tt
good_shape table i (Some (Opt type)) is e = tt
good_shape table i (Some (Seq type)) is e = tt
good_shape table i (Some (Rec fields)) is e = fields_distinct fields 0 (entry_ordered table i (Rec fields) is e)
good_shape table i (Some (Var cases)) is e = tt
good_shape table i (Some (Func args results notes)) is e = tt
good_shape table i (Some (Service methods)) is e = tt

pub good_table : (table : List Entry) → IsTrue (is_table table) → Good table
good_table table is (Prim p) = tt
good_table table is (Index i) = good_shape table i (slice_get table i) is refl

spoken_said : (table : List Entry) (types : List TyRef) (values : List Content) (tokens : List Token) (text : List ℕ) → is_utf8 text ≡ true → IsTokens false tokens text → SaysArguments table types values tokens → Said table types values text
spoken_said table types values tokens text utf8 lexed s = record {
  tokens = s.inner;
  arguments = s.arguments;
  utf8 = utf8;
  lexed = subst (λ ts. IsTokens false ts text) s.whole lexed;
  said = s.said;
  all = s.all;
  are = s.are;
  many = s.many;
}

pub said_spoken : (table : List Entry) (types : List TyRef) (values : List Content) (text : List ℕ) (s : Said table types values text) → SaysArguments table types values (mark 40 ∷ s.tokens)
said_spoken table types values text s = record { inner = s.tokens; arguments = s.arguments; whole = refl; said = s.said; all = s.all; are = s.are; many = s.many }

-- what is read is said
pub text_found : (table : List Entry) (types : List TyRef) (values : List Content) (tokens : List Token) (text : List ℕ) → IsTrue (is_table table) → is_utf8 text ≡ true → IsTokens false tokens text → arguments_at table types tokens ≡ Some values → Said table types values text
text_found table types values tokens text is utf8 lexed e = spoken_said table types values tokens text utf8 lexed (arguments_take table (good_table table is) types tokens values e)

-- what is said is read
pub text_read : (table : List Entry) (types : List TyRef) (values : List Content) (tokens : List Token) (text : List ℕ) → IsTrue (is_table table) → Said table types values text → IsTokens false tokens text → arguments_at table types tokens ≡ Some values
text_read table types values tokens text is s lexed =
    let same : tokens ≡ mark 40 ∷ s.tokens = one_list false tokens (mark 40 ∷ s.tokens) text lexed s.lexed in
    rw same (arguments_again table (good_table table is) types values (mark 40 ∷ s.tokens) (said_spoken table types values text s))

-- a text says at most one list of values
pub one_said : (table : List Entry) (types : List TyRef) (values others : List Content) (text : List ℕ) → IsTrue (is_table table) → Said table types values text → Said table types others text → values ≡ others
one_said table types values others text is s t =
    some_is {A = List Content} values others (sym (text_read table types values (mark 40 ∷ s.tokens) text is s s.lexed) ∙ text_read table types others (mark 40 ∷ s.tokens) text is t s.lexed)

-- ---- the values as a function

pub values_take : (table : List Entry) (types : List TyRef) (values : List Content) (text : List ℕ) → IsTrue (is_table table) → values_of table types text ≡ Some values → Said table types values text
unfolding values_of
values_take table types values text is e = elim (true_or_false (is_utf8 text)) [
  | inr bad ↦ let f : None ≡ Some values = rw bad at e in absurd cc
  | inl utf8 ↦
      let f : (tokens_of false text >>= arguments_at table types) ≡ Some values = rw utf8 at e in
      let a = bind_some (tokens_of false text) (arguments_at table types) values f in
      text_found table types values a.0 text is utf8 (tokens_take false text a.0 a.1) a.2
]

pub values_again : (table : List Entry) (types : List TyRef) (values : List Content) (text : List ℕ) → IsTrue (is_table table) → Said table types values text → values_of table types text ≡ Some values
unfolding values_of
values_again table types values text is s =
    rw (s.utf8, tokens_again false text (mark 40 ∷ s.tokens) s.lexed) (text_read table types values (mark 40 ∷ s.tokens) text is s s.lexed)

pub values_none : (table : List Entry) (types : List TyRef) (text : List ℕ) → IsTrue (is_table table) → ((values : List Content) → Said table types values text → ⊥) → values_of table types text ≡ None
values_none table types text is none = go (values_of table types text) refl
  where
    go : (read : Option (List Content)) → values_of table types text ≡ read → read ≡ None
    go None e = refl
    go (Some values) e = absurd (none values (values_take table types values text is e))

none_some : {A : Type 0} (x : A) (read : Option A) → read ≡ None → read ≡ Some x → ⊥
none_some x read e f = cc

-- what the code answers agrees with what is said
pub agrees_with : {A : Type 0} (view_of : A → List Content) (table : List Entry) (types : List TyRef) (tokens : List Token) (text : List ℕ) (r : Result A ReadError) → IsTrue (is_table table) → IsTokens false tokens text → Gives view_of r (arguments_at table types tokens)
    → (values : List Content) → Said table types values text → Agrees view_of r values
agrees_with view_of table types tokens text (Ok x) is lexed gives values s = some_is {A = List Content} (view_of x) values (sym gives ∙ text_read table types values tokens text is s lexed)
agrees_with view_of table types tokens text (Err NoMemory) is lexed gives values s = tt
agrees_with view_of table types tokens text (Err Refused) is lexed gives values s = none_some values (arguments_at table types tokens) gives (text_read table types values tokens text is s lexed)

pub found_with : {A : Type 0} (view_of : A → List Content) (table : List Entry) (types : List TyRef) (tokens : List Token) (text : List ℕ) (r : Result A ReadError) → IsTrue (is_table table) → is_utf8 text ≡ true → IsTokens false tokens text → Gives view_of r (arguments_at table types tokens)
    → IfOk r (λ x. Said table types (view_of x) text)
found_with view_of table types tokens text (Ok x) is utf8 lexed gives = text_found table types (view_of x) tokens text is utf8 lexed gives
found_with view_of table types tokens text (Err e) is utf8 lexed gives = tt

-- the same of tokens
pub tokens_found : {A : Type 0} (view_of : A → List Content) (table : List Entry) (types : List TyRef) (tokens : List Token) (r : Result A ReadError) → IsTrue (is_table table) → Gives view_of r (arguments_at table types tokens)
    → IfOk r (λ x. SaysArguments table types (view_of x) tokens)
tokens_found view_of table types tokens (Ok x) is gives = arguments_take table (good_table table is) types tokens (view_of x) gives
tokens_found view_of table types tokens (Err e) is gives = tt

pub tokens_agree : {A : Type 0} (view_of : A → List Content) (table : List Entry) (types : List TyRef) (tokens : List Token) (r : Result A ReadError) → IsTrue (is_table table) → Gives view_of r (arguments_at table types tokens)
    → (values : List Content) → SaysArguments table types values tokens → Agrees view_of r values
tokens_agree view_of table types tokens (Ok x) is gives values s = some_is {A = List Content} (view_of x) values (sym gives ∙ arguments_again table (good_table table is) types values tokens s)
tokens_agree view_of table types tokens (Err NoMemory) is gives values s = tt
tokens_agree view_of table types tokens (Err Refused) is gives values s = none_some values (arguments_at table types tokens) gives (arguments_again table (good_table table is) types values tokens s)

pub no_tokens : {A B : Type 0} (view_of : A → List Content) (see : B → List Token) (table : List Entry) (types : List TyRef) (text : List ℕ) (e : ReadError) → ((tokens : List Token) → IsTokens false tokens text → Agrees see (Err e) tokens) → (values : List Content) → Said table types values text → Agrees view_of (Err e) values
no_tokens view_of see table types text NoMemory law values s = tt
no_tokens view_of see table types text Refused law values s = law (mark 40 ∷ s.tokens) s.lexed

-- ---- as the code counts

pub fails_here : (e : ReadError) (table : List Entry) (types : List TyRef) (tokens inner : List Token) (most : ℕ) → starts (is_mark 40) tokens ≡ true → most ≡ length tokens → inner ≡ drop 1 tokens → Fails e (parts_at 44 41 (argument_at table types) after_field most 0 1000000 inner)
    → Fails e (arguments_at table types tokens)
fails_here e table types tokens inner most paren m i none =
    no_arguments e table types tokens paren (subst (λ k. Fails e (parts_at 44 41 (argument_at table types) after_field k 0 1000000 (drop 1 tokens))) m (subst (λ ts. Fails e (parts_at 44 41 (argument_at table types) after_field most 0 1000000 ts)) i none))

as_counted : (table : List Entry) (types : List TyRef) (tokens inner : List Token) (most : ℕ) (x : List (ℕ × Content) × ℕ × List Token) → most ≡ length tokens → inner ≡ drop 1 tokens → parts_at 44 41 (argument_at table types) after_field most 0 1000000 inner ≡ Some x
    → parts_at 44 41 (argument_at table types) after_field (length tokens) 0 1000000 (drop 1 tokens) ≡ Some x
as_counted table types tokens inner most x m i e =
    ap (λ k. parts_at 44 41 (argument_at table types) after_field k 0 1000000 (drop 1 tokens)) (sym m) ∙ ap (λ ts. parts_at 44 41 (argument_at table types) after_field most 0 1000000 ts) (sym i) ∙ e

pub answers_all : (table : List Entry) (types : List TyRef) (tokens inner rest : List Token) (vs : List Content) (left most count values : ℕ) (whole : Bool) → starts (is_mark 40) tokens ≡ true → most ≡ length tokens → inner ≡ drop 1 tokens
    → parts_at 44 41 (argument_at table types) after_field most 0 1000000 inner ≡ Some (placed 0 vs, left, rest) → length rest ≡ count → length vs ≡ values → whole ≡ (count == 0 && values == length types) → whole ≡ true → arguments_at table types tokens ≡ Some vs
answers_all table types tokens inner rest vs left most count values whole paren m i e n k is holds =
    all_there table types tokens rest vs left count values paren (as_counted table types tokens inner most (placed 0 vs, left, rest) m i e) n k (sym is ∙ holds)

pub answers_none : (table : List Entry) (types : List TyRef) (tokens inner rest : List Token) (vs : List Content) (left most count values : ℕ) (whole : Bool) → starts (is_mark 40) tokens ≡ true → most ≡ length tokens → inner ≡ drop 1 tokens
    → parts_at 44 41 (argument_at table types) after_field most 0 1000000 inner ≡ Some (placed 0 vs, left, rest) → length rest ≡ count → length vs ≡ values → whole ≡ (count == 0 && values == length types) → whole ≡ false → arguments_at table types tokens ≡ None
answers_none table types tokens inner rest vs left most count values whole paren m i e n k is bad =
    not_there table types tokens rest vs left count values paren (as_counted table types tokens inner most (placed 0 vs, left, rest) m i e) n k (sym is ∙ bad)
