-- What is read of an interface file is written there.
use Rattle.std.proofs.Common.{◌≡◌, ℕ, zero, suc, Bool, true, false, List, [], ◌∷◌, ◌++◌, length, drop, Option, Some, None, refl, sym, ap, subst, ◌∙◌, append_assoc, inl, inr, ◌⊎◌}
use Rattle.std.specs.Prelude.{if◌then◌else◌}
use Rattle.ic_base.specs.Reader.{◌>>=◌}
use Rattle.ic_base.proofs.Steps.{bind_some, some_is}
use Rattle.cd_types.specs.declared.primitive.Primitive.TheVariants as primitives
use Rattle.cd_tokens.specs.Token.{Token, mark, arrow}
use Rattle.cd_tokens.specs.ReadLabel.{name_of, label_of}
use Rattle.cd_tokens.proofs.Labels.{label_takes, name_takes}
use Rattle.cd_grammar.specs.declared.word.Word.{Word}
use Rattle.cd_grammar.specs.declared.word.Word.TheVariants as words
use Rattle.cd_grammar.specs.declared.written.Part.{Part}
use Rattle.cd_grammar.specs.declared.written.Part.TheVariants.{Prim, Float, Name, Place}
use Rattle.cd_grammar.specs.declared.written.Written.{Written}
use Rattle.cd_grammar.specs.declared.written.Written.TheVariants.{Opt, Seq, Rec, Var, Func, Service}
use Rattle.cd_grammar.specs.Grammar.{Writing, Writes, WritesLabelled, WritesField, WritesCase, after_field, no_place, WritesArgument, WritesTuple, WritesNotes, WritesFunction, WritesMethod, WritesName, WritesService, WritesFields, WritesInner, WritesBehind, WritesType, WritesMethodType}
use Rattle.cd_grammar.specs.Read.{Reads, is_mark, is_arrow, starts, then_make, enclosed_at, added, token_word, free_name, named_at, labelled_at, field_at, case_at, is_argument_name, argument_at, tuple_at, token_note, with_note, notes_at, noted, results_at, function_at, method_at, service_at, fields_at, inner_at, after_word_at, worded_at, type_at, method_type_at}
use Rattle.cd_tokens.proofs.Fronts.{true_or_false}
use Rattle.cd_tokens.proofs.Starts.{started}
use Rattle.cd_grammar.proofs.Words.{arrow_started, token_takes, free_takes, argument_name_takes, note_takes}
use Rattle.cd_tokens.proofs.Parts.{Takes, Sound}
use Rattle.cd_grammar.proofs.PartLemmas.{enclosed_takes}

-- the value of which something was made
pub made_of : {S A B : Type 0} (f : A → B) (read : Option (A × S × List Token)) (z : B × S × List Token) → then_make f read ≡ Some z → (a : A × S × List Token) × (read ≡ Some a) × ((f a.0, a.1, a.2) ≡ z)
made_of {S} {A} {B} f read z e =
    let a = bind_some read (λ x. Some (f x.0, x.1, x.2)) z e in
    (a.0, a.1, some_is {A = B × S × List Token} (f a.0.0, a.0.1, a.0.2) z a.2)

-- which way was chosen
pub chosen : {A : Type 0} (test : Bool) (x y z : A) → (if test then x else y) ≡ z → ((test ≡ true) × (x ≡ z)) ⊎ ((test ≡ false) × (y ≡ z))
chosen true x y z e = inl (refl, e)
chosen false x y z e = inr (refl, e)

pub first_way : {A : Type 0} (test : Bool) (x y z : A) → test ≡ true → x ≡ z → (if test then x else y) ≡ z
first_way true x y z is e = e
first_way false x y z is e = absurd cc

pub second_way : {A : Type 0} (test : Bool) (x y z : A) → test ≡ false → y ≡ z → (if test then x else y) ≡ z
second_way true x y z is e = absurd cc
second_way false x y z is e = e

-- what is written in one way is written in a wider one
pub widened : {S A : Type 0} (P Q : Writing S A) (state : S) (tokens : List Token) (z : A × S × List Token) → ((front : List Token) → P state z.0 z.1 front → Q state z.0 z.1 front) → Takes P state tokens z → Takes Q state tokens z
widened P Q state tokens z wider s = record { front = s.front; parts = s.parts; written = wider s.front s.written }

pub named_takes : Sound WritesName named_at
named_takes state [] z e = absurd cc
named_takes state (t ∷ rest) z e =
    let a = bind_some (free_name t) (λ name. Some (Name name, state, rest)) z e in
    let f = free_takes t a.0 a.1 in
    subst (Takes WritesName state (t ∷ rest)) (some_is {A = Part × List Written × List Token} (Name a.0, state, rest) z a.2)
    (record { front = t ∷ []; parts = refl; written = (a.0, refl, ap (λ (x : Token). x ∷ []) f.0, f.1, refl) })

labelled_takes : (P : Writes Part) (read : Reads Part) → Sound P read → (state : List Written) (t : Token) (rest : List Token) (z : (ℕ × Part) × List Written × List Token)
    → starts (is_mark 58) rest ≡ true → labelled_at read t state (drop 1 rest) ≡ Some z → Takes (WritesLabelled P) state (t ∷ rest) z
labelled_takes P read law state t rest z colon e =
    let a = bind_some (label_of t) (λ id. then_make (λ part. (id, part)) (read state (drop 1 rest))) z e in
    let b = made_of (λ part. (a.0, part)) (read state (drop 1 rest)) z a.2 in
    let s = law state (drop 1 rest) b.0 b.1 in
    subst (Takes (WritesLabelled P) state (t ∷ rest)) b.2
    (record {
      front = t ∷ mark 58 ∷ s.front;
      parts = ap (λ (ts : List Token). t ∷ ts) (started 58 rest colon ∙ ap (λ (ts : List Token). mark 58 ∷ ts) s.parts);
      written = (t, s.front, refl, label_takes t a.0 a.1, s.written);
    })

field_takes : (P : Writes Part) (read : Reads Part) → Sound P read → (next : ℕ) → Sound (WritesField P next) (field_at read next)
field_takes P read law next state [] z e = absurd cc
field_takes P read law next state (t ∷ rest) z e = elim (true_or_false (starts (is_mark 58) rest)) [
  | inl colon ↦
      let f : labelled_at read t state (drop 1 rest) ≡ Some z = rw colon at e in
      widened (WritesLabelled P) (WritesField P next) state (t ∷ rest) z (λ front w. inl w) (labelled_takes P read law state t rest z colon f)
  | inr alone ↦
      let f : then_make (λ part. (next, part)) (read state (t ∷ rest)) ≡ Some z = rw alone at e in
      let a = made_of (λ part. (next, part)) (read state (t ∷ rest)) z f in
      let s = law state (t ∷ rest) a.0 a.1 in
      subst (Takes (WritesField P next) state (t ∷ rest)) a.2 (record { front = s.front; parts = s.parts; written = inr (refl, s.written) })
]

case_takes : (P : Writes Part) (read : Reads Part) → Sound P read → (next : ℕ) → Sound (WritesCase P next) (case_at read next)
case_takes P read law next state [] z e = absurd cc
case_takes P read law next state (t ∷ rest) z e = elim (true_or_false (starts (is_mark 58) rest)) [
  | inl colon ↦
      let f : labelled_at read t state (drop 1 rest) ≡ Some z = rw colon at e in
      widened (WritesLabelled P) (WritesCase P next) state (t ∷ rest) z (λ front w. inl w) (labelled_takes P read law state t rest z colon f)
  | inr alone ↦
      let f : (label_of t >>= λ id. Some ((id, Prim primitives.Null), state, rest)) ≡ Some z = rw alone at e in
      let a = bind_some (label_of t) (λ id. Some ((id, Prim primitives.Null), state, rest)) z f in
      subst (Takes (WritesCase P next) state (t ∷ rest)) (some_is {A = (ℕ × Part) × List Written × List Token} ((a.0, Prim primitives.Null), state, rest) z a.2)
      (record { front = t ∷ []; parts = refl; written = inr (t, refl, label_takes t a.0 a.1, refl, refl) })
]

argument_takes : (P : Writes Part) (read : Reads Part) → Sound P read → (next : ℕ) → Sound (WritesArgument P next) (argument_at read next)
argument_takes P read law next state [] z e = absurd cc
argument_takes P read law next state (t ∷ rest) z e = elim (true_or_false (starts (is_mark 58) rest)) [
  | inl colon ↦
      let f : (if is_argument_name t then read state (drop 1 rest) else None) ≡ Some z = rw colon at e in
      elim (chosen (is_argument_name t) (read state (drop 1 rest)) None (Some z) f) [
        | inl named ↦
            let s = law state (drop 1 rest) z named.1 in
            record {
              front = t ∷ mark 58 ∷ s.front;
              parts = ap (λ (ts : List Token). t ∷ ts) (started 58 rest colon ∙ ap (λ (ts : List Token). mark 58 ∷ ts) s.parts);
              written = inr (t, s.front, refl, argument_name_takes t named.0, s.written);
            }
        | inr never ↦ let g : None ≡ Some z = never.1 in absurd cc
      ]
  | inr alone ↦
      let f : read state (t ∷ rest) ≡ Some z = rw alone at e in
      widened P (WritesArgument P next) state (t ∷ rest) z (λ front w. inl w) (law state (t ∷ rest) z f)
]

pub tuple_takes : (P : Writes Part) (read : Reads Part) → Sound P read → Sound (WritesTuple P) (tuple_at read)
tuple_takes P read law state tokens z e =
    let s = enclosed_takes 40 44 41 (WritesArgument P) no_place (argument_at read) (argument_takes P read law) state tokens z e in
    record { front = mark 40 ∷ s.0; parts = s.1; written = (s.0, refl, s.2) }

one_note : (t : Token) (rest : List Token) (found : Option ℕ) → token_note t ≡ found → ((front : List Token) × (rest ≡ front ++ (notes_at rest).1) × WritesNotes (notes_at rest).0 front)
    → (front : List Token) × (t ∷ rest ≡ front ++ (with_note found (t ∷ rest) (notes_at rest)).1) × WritesNotes (with_note found (t ∷ rest) (notes_at rest)).0 front
one_note t rest None e more = ([], refl, refl)
one_note t rest (Some note) e more =
    let w = note_takes t note e in
    (t ∷ more.0, ap (λ (ts : List Token). t ∷ ts) more.1, (w.0, more.0, ap (λ (x : Token). x ∷ more.0) w.1, w.2, more.2))

pub notes_take : (tokens : List Token) → (front : List Token) × (tokens ≡ front ++ (notes_at tokens).1) × WritesNotes (notes_at tokens).0 front
unfolding notes_at
notes_take [] = ([], refl, refl)
notes_take (t ∷ rest) = one_note t rest (token_note t) refl (notes_take rest)

regrouped : (front middle notes rest : List Token) → front ++ (arrow ∷ (middle ++ (notes ++ rest))) ≡ (front ++ (arrow ∷ (middle ++ notes))) ++ rest
regrouped front middle notes rest = ap (λ (ts : List Token). front ++ (arrow ∷ ts)) (sym (append_assoc middle notes rest)) ∙ sym (append_assoc front (arrow ∷ (middle ++ notes)) rest)

pub function_takes : (P : Writes Part) (read : Reads Part) → Sound P read → Sound (WritesFunction P) (function_at read)
function_takes P read law state tokens z e =
    let a = bind_some (tuple_at read state tokens) (results_at read) z e in
    let s = tuple_takes P read law state tokens a.0 a.1 in
    elim (true_or_false (starts is_arrow a.0.2)) [
      | inl found ↦
          let f : (tuple_at read a.0.1 (drop 1 a.0.2) >>= noted a.0.0) ≡ Some z = rw found at a.2 in
          let b = bind_some (tuple_at read a.0.1 (drop 1 a.0.2)) (noted a.0.0) z f in
          let r = tuple_takes P read law a.0.1 (drop 1 a.0.2) b.0 b.1 in
          let n = notes_take b.0.2 in
          subst (Takes (WritesFunction P) state tokens) (some_is {A = Part × List Written × List Token} (Place (length b.0.1), b.0.1 ++ Func a.0.0 b.0.0 (notes_at b.0.2).0 ∷ [], (notes_at b.0.2).1) z b.2)
          (record {
            front = s.front ++ (arrow ∷ (r.front ++ n.0));
            parts = s.parts ∙ ap (λ ts. s.front ++ ts) (arrow_started a.0.2 found ∙ ap (λ (ts : List Token). arrow ∷ ts) (r.parts ∙ ap (λ ts. r.front ++ ts) n.1)) ∙ regrouped s.front r.front n.0 (notes_at b.0.2).1;
            written = record {
              args = a.0.0;
              results = b.0.0;
              notes = (notes_at b.0.2).0;
              between = a.0.1;
              behind = b.0.1;
              front = s.front;
              middle = r.front;
              rest = n.0;
              whole = refl;
              has_args = s.written;
              has_results = r.written;
              has_notes = n.2;
              is = (refl, refl);
            };
          })
      | inr never ↦ let f : None ≡ Some z = rw never at a.2 in absurd cc
    ]

method_takes : (M : Writes Part) (read : Reads Part) → Sound M read → (next : ℕ) → Sound (WritesMethod M next) (method_at read next)
method_takes M read law next state [] z e = absurd cc
method_takes M read law next state (t ∷ rest) z e = elim (true_or_false (starts (is_mark 58) rest)) [
  | inl colon ↦
      let f : (name_of t >>= λ name. then_make (λ part. (name, part)) (read state (drop 1 rest))) ≡ Some z = rw colon at e in
      let a = bind_some (name_of t) (λ name. then_make (λ part. (name, part)) (read state (drop 1 rest))) z f in
      let b = made_of (λ part. (a.0, part)) (read state (drop 1 rest)) z a.2 in
      let s = law state (drop 1 rest) b.0 b.1 in
      subst (Takes (WritesMethod M next) state (t ∷ rest)) b.2
      (record {
        front = t ∷ mark 58 ∷ s.front;
        parts = ap (λ (ts : List Token). t ∷ ts) (started 58 rest colon ∙ ap (λ (ts : List Token). mark 58 ∷ ts) s.parts);
        written = (t, s.front, refl, name_takes a.0 t a.1, s.written);
      })
  | inr never ↦ let f : None ≡ Some z = rw never at e in absurd cc
]

pub service_takes : (M : Writes Part) (read : Reads Part) → Sound M read → Sound (WritesService M) (service_at read)
service_takes M read law state tokens z e =
    let a = bind_some (enclosed_at 123 59 125 (method_at read) no_place state tokens) (added (λ methods. Service methods)) z e in
    let s = enclosed_takes 123 59 125 (WritesMethod M) no_place (method_at read) (method_takes M read law) state tokens a.0 a.1 in
    subst (Takes (WritesService M) state tokens) (some_is {A = Part × List Written × List Token} (Place (length a.0.1), a.0.1 ++ Service a.0.0 ∷ [], a.0.2) z a.2)
    (record { front = mark 123 ∷ s.0; parts = s.1; written = (a.0.0, a.0.1, s.0, refl, s.2, (refl, refl)) })

fields_take : (P : ℕ → Writes (ℕ × Part)) (read : ℕ → Reads (ℕ × Part)) (step : ℕ × Part → ℕ) (made : List (ℕ × Part) → Written) → ((next : ℕ) → Sound (P next) (read next)) → Sound (WritesFields P step made) (fields_at read step made)
fields_take P read step made law state tokens z e =
    let a = bind_some (enclosed_at 123 59 125 read step state tokens) (added made) z e in
    let s = enclosed_takes 123 59 125 P step read law state tokens a.0 a.1 in
    subst (Takes (WritesFields P step made) state tokens) (some_is {A = Part × List Written × List Token} (Place (length a.0.1), a.0.1 ++ made a.0.0 ∷ [], a.0.2) z a.2)
    (record { front = mark 123 ∷ s.0; parts = s.1; written = (a.0.0, a.0.1, s.0, refl, s.2, (refl, refl)) })

inner_takes : (P : Writes Part) (read : Reads Part) (made : Part → Written) → Sound P read → Sound (WritesInner P made) (inner_at read made)
inner_takes P read made law state tokens z e =
    let a = bind_some (read state tokens) (added made) z e in
    let s = law state tokens a.0 a.1 in
    subst (Takes (WritesInner P made) state tokens) (some_is {A = Part × List Written × List Token} (Place (length a.0.1), a.0.1 ++ made a.0.0 ∷ [], a.0.2) z a.2)
    (record { front = s.front; parts = s.parts; written = (a.0.0, a.0.1, s.written, (refl, refl)) })

-- a word that is a type without parts
alone_takes : (P M : Writes Part) (w : Word) (part : Part) (state : List Written) (tokens : List Token) (z : Part × List Written × List Token) → WritesBehind P M w state part state [] → (Some (part, state, tokens)) ≡ Some z → Takes (WritesBehind P M w) state tokens z
alone_takes P M w part state tokens z written e =
    subst (Takes (WritesBehind P M w) state tokens) (some_is {A = Part × List Written × List Token} (part, state, tokens) z e) (record { front = []; parts = refl; written = written })

behind_takes : (P M : Writes Part) (read method : Reads Part) → Sound P read → Sound M method → (w : Word) → Sound (WritesBehind P M w) (after_word_at read method w)
unfolding after_word_at
behind_takes P M read method law laws (words.Prim p) state tokens z e = alone_takes P M (words.Prim p) (Prim p) state tokens z (refl, refl, refl) e
behind_takes P M read method law laws words.Float32 state tokens z e = alone_takes P M words.Float32 Float state tokens z (refl, refl, refl) e
behind_takes P M read method law laws words.Float64 state tokens z e = alone_takes P M words.Float64 Float state tokens z (refl, refl, refl) e
behind_takes P M read method law laws words.Blob state tokens z e =
    subst (Takes (WritesBehind P M words.Blob) state tokens) (some_is {A = Part × List Written × List Token} (Place (length state), state ++ Seq (Prim primitives.Nat8) ∷ [], tokens) z e)
    (record { front = []; parts = refl; written = (refl, (refl, refl)) })
behind_takes P M read method law laws words.Opt state tokens z e = widened (WritesInner P (λ t. Opt t)) (WritesBehind P M words.Opt) state tokens z (λ front w. w) (inner_takes P read (λ t. Opt t) law state tokens z e)
behind_takes P M read method law laws words.Seq state tokens z e = widened (WritesInner P (λ t. Seq t)) (WritesBehind P M words.Seq) state tokens z (λ front w. w) (inner_takes P read (λ t. Seq t) law state tokens z e)
behind_takes P M read method law laws words.Rec state tokens z e = widened (WritesFields (WritesField P) after_field (λ fs. Rec fs)) (WritesBehind P M words.Rec) state tokens z (λ front w. w) (fields_take (WritesField P) (field_at read) after_field (λ fs. Rec fs) (field_takes P read law) state tokens z e)
behind_takes P M read method law laws words.Var state tokens z e = widened (WritesFields (WritesCase P) no_place (λ fs. Var fs)) (WritesBehind P M words.Var) state tokens z (λ front w. w) (fields_take (WritesCase P) (case_at read) no_place (λ fs. Var fs) (case_takes P read law) state tokens z e)
behind_takes P M read method law laws words.Func state tokens z e = widened (WritesFunction P) (WritesBehind P M words.Func) state tokens z (λ front w. w) (function_takes P read law state tokens z e)
behind_takes P M read method law laws words.Service state tokens z e = widened (WritesService M) (WritesBehind P M words.Service) state tokens z (λ front w. w) (service_takes M method laws state tokens z e)
behind_takes P M read method law laws words.Definition state tokens z e = absurd cc
behind_takes P M read method law laws words.Query state tokens z e = absurd cc
behind_takes P M read method law laws words.Oneway state tokens z e = absurd cc
behind_takes P M read method law laws words.CompositeQuery state tokens z e = absurd cc

worded_takes : (depth : ℕ) (state : List Written) (t : Token) (rest : List Token) (z : Part × List Written × List Token) (found : Option Word) → token_word t ≡ found → Sound (WritesType depth) (type_at depth) → Sound (WritesMethodType depth) (method_type_at depth)
    → worded_at (type_at depth) (method_type_at depth) found t state rest ≡ Some z → Takes (WritesType (suc depth)) state (t ∷ rest) z
worded_takes depth state t rest z None is law laws e = widened WritesName (WritesType (suc depth)) state (t ∷ rest) z (λ front w. inl w) (named_takes state (t ∷ rest) z e)
worded_takes depth state t rest z (Some w) is law laws e =
    let s = behind_takes (WritesType depth) (WritesMethodType depth) (type_at depth) (method_type_at depth) law laws w state rest z e in
    record {
      front = t ∷ s.front;
      parts = ap (λ (ts : List Token). t ∷ ts) s.parts;
      written = inr (w, s.front, ap (λ (x : Token). x ∷ s.front) (token_takes t w is), s.written);
    }

mutual
  unfolding type_at method_type_at

  pub type_takes : (depth : ℕ) → Sound (WritesType depth) (type_at depth)
  type_takes zero state tokens z e = absurd cc
  type_takes (suc depth) state [] z e = absurd cc
  type_takes (suc depth) state (t ∷ rest) z e = worded_takes depth state t rest z (token_word t) refl (type_takes depth) (method_type_takes depth) e

  pub method_type_takes : (depth : ℕ) → Sound (WritesMethodType depth) (method_type_at depth)
  method_type_takes zero state tokens z e = absurd cc
  method_type_takes (suc depth) state tokens z e = elim (chosen (starts (is_mark 40) tokens) (function_at (type_at depth) state tokens) (named_at state tokens) (Some z) e) [
    | inl function ↦ widened (WritesFunction (WritesType depth)) (WritesMethodType (suc depth)) state tokens z (λ front w. inr w) (function_takes (WritesType depth) (type_at depth) (type_takes depth) state tokens z function.1)
    | inr name ↦ widened WritesName (WritesMethodType (suc depth)) state tokens z (λ front w. inl w) (named_takes state tokens z name.1)
  ]
