-- What is written of an interface file is read there.
use Rattle.std.proofs.Common.{◌≡◌, ℕ, zero, suc, Bool, true, false, List, [], ◌∷◌, ◌++◌, Option, Some, None, refl, sym, ap, ◌∙◌, append_assoc, inl, inr}
use Rattle.std.specs.Prelude.{◌&&◌, not}
use Rattle.cd_tokens.specs.Token.{Token, run, quoted, mark, arrow}
use Rattle.cd_tokens.specs.Label.{IsLabel, IsNameOf}
use Rattle.cd_tokens.proofs.Labels.{label_again, name_again}
use Rattle.cd_grammar.specs.declared.word.Word.{Word}
use Rattle.cd_grammar.specs.declared.word.Word.TheVariants as words
use Rattle.cd_grammar.specs.declared.written.Part.{Part}
use Rattle.cd_grammar.specs.declared.written.Part.TheVariants.{Prim}
use Rattle.cd_grammar.specs.declared.written.Written.{Written}
use Rattle.cd_grammar.specs.declared.written.Written.TheVariants.{Opt, Seq, Rec, Var}
use Rattle.cd_grammar.specs.Words.{spelling}
use Rattle.cd_grammar.specs.Grammar.{Writes, WritesField, WritesCase, after_field, no_place, WritesArgument, WritesTuple, WritesNotes, WritesFunction, WritesMethod, WritesName, WritesService, WritesFields, WritesInner, WritesBehind, WritesType, WritesMethodType}
use Rattle.cd_grammar.specs.Read.{Reads, is_mark, starts, named_at, labelled_at, field_at, case_at, argument_at, tuple_at, first_note, notes_at, function_at, method_at, service_at, fields_at, inner_at, after_word_at, type_at, method_type_at}
use Rattle.cd_grammar.proofs.Words.{word_again, free_again, argument_name_again, argument_no_mark, name_no_word, note_again}
use Rattle.cd_tokens.proofs.Parts.{Complete}
use Rattle.cd_grammar.proofs.PartLemmas.{enclosed_again}
use Rattle.cd_grammar.proofs.Takes.{first_way, second_way}

-- after a type: no colon and no annotation
abbrev pub is_none : Option ℕ → Bool
is_none None = true
is_none (Some n) = false

abbrev pub is_free : List Token → Bool
is_free rest = not (starts (is_mark 58) rest) && is_none (first_note rest)

not_true : (a : Bool) → not a ≡ true → a ≡ false
not_true true e = absurd cc
not_true false e = refl

both : (a b : Bool) → (a && b) ≡ true → (a ≡ true) × (b ≡ true)
both true b e = (refl, e)
both false b e = absurd cc

none_is : (o : Option ℕ) → is_none o ≡ true → o ≡ None
none_is None e = refl
none_is (Some n) e = absurd cc

pub no_colon : (rest : List Token) → is_free rest ≡ true → starts (is_mark 58) rest ≡ false
no_colon rest e = not_true (starts (is_mark 58) rest) (both (not (starts (is_mark 58) rest)) (is_none (first_note rest)) e).0

pub no_note : (rest : List Token) → is_free rest ≡ true → first_note rest ≡ None
no_note rest e = none_is (first_note rest) (both (not (starts (is_mark 58) rest)) (is_none (first_note rest)) e).1

-- ---- how a type begins

-- it begins with a word or a name, after which no colon follows
pub record Begins (front rest : List Token) : Type 0 where
  pub first : List ℕ
  pub more : List Token
  pub is : front ++ rest ≡ run first ∷ more
  pub second : starts (is_mark 58) more ≡ false

name_begins : (before : List Written) (part : Part) (after : List Written) (front rest : List Token) → WritesName before part after front → is_free rest ≡ true → Begins front rest
name_begins before part after front rest w free = record { first = w.0; more = rest; is = ap (λ (ts : List Token). ts ++ rest) w.2; second = no_colon rest free }

-- the first token of a type is a word or a name
first_run : (depth : ℕ) (before : List Written) (part : Part) (after : List Written) (front : List Token) → WritesType depth before part after front → (r : List ℕ) × (more : List Token) × (front ≡ run r ∷ more)
first_run zero before part after front w = absurd w
first_run (suc depth) before part after front w = elim w [
  | inl name ↦ (name.0, [], name.2)
  | inr worded ↦ (spelling worded.0, worded.1, worded.2)
]

-- after the word of a type no colon follows
behind_second : (depth : ℕ) (w : Word) (before : List Written) (part : Part) (after : List Written) (front rest : List Token) → WritesBehind (WritesType depth) (WritesMethodType depth) w before part after front → is_free rest ≡ true → starts (is_mark 58) (front ++ rest) ≡ false
behind_second depth (words.Prim p) before part after front rest w free = rw w.2 (no_colon rest free)
behind_second depth words.Float32 before part after front rest w free = rw w.2 (no_colon rest free)
behind_second depth words.Float64 before part after front rest w free = rw w.2 (no_colon rest free)
behind_second depth words.Blob before part after front rest w free = rw w.0 (no_colon rest free)
behind_second depth words.Opt before part after front rest w free = let f = first_run depth before w.0 w.1 front w.2 in rw f.2 refl
behind_second depth words.Seq before part after front rest w free = let f = first_run depth before w.0 w.1 front w.2 in rw f.2 refl
behind_second depth words.Rec before part after front rest w free = rw w.3 refl
behind_second depth words.Var before part after front rest w free = rw w.3 refl
behind_second depth words.Func before part after front rest w free =
    let args = w.has_args in
    rw (w.whole, args.1) refl
behind_second depth words.Service before part after front rest w free = rw w.3 refl
behind_second depth words.Definition before part after front rest w free = absurd w
behind_second depth words.Query before part after front rest w free = absurd w
behind_second depth words.Oneway before part after front rest w free = absurd w
behind_second depth words.CompositeQuery before part after front rest w free = absurd w

pub type_begins : (depth : ℕ) (before : List Written) (part : Part) (after : List Written) (front rest : List Token) → WritesType depth before part after front → is_free rest ≡ true → Begins front rest
type_begins zero before part after front rest w free = absurd w
type_begins (suc depth) before part after front rest w free = elim w [
  | inl name ↦ name_begins before part after front rest name free
  | inr worded ↦ record {
    first = spelling worded.0;
    more = worded.1 ++ rest;
    is = ap (λ (ts : List Token). ts ++ rest) worded.2;
    second = behind_second depth worded.0 before part after worded.1 rest worded.3 free;
  }
]

-- how a type begins, as the lists of parts need it
abbrev pub BeginsAll : Writes Part → Type 0
BeginsAll P = (before : List Written) (part : Part) (after : List Written) (front rest : List Token) → P before part after front → is_free rest ≡ true → Begins front rest

-- the first token of a part
abbrev pub Starts : {A : Type 0} → Writes A → Type 0
Starts {A} P = (before : List Written) (x : A) (after : List Written) (front : List Token) → P before x after front → (t : Token) × (more : List Token) × (front ≡ t ∷ more) × (is_mark 125 t ≡ false) × (is_mark 41 t ≡ false)

-- ---- names and labels

pub named_again : Complete is_free WritesName named_at
named_again before part after front rest w free = rw (w.2, free_again w.0 w.3, w.1, w.4) refl

-- a mark is no label and no name
label_no_mark : (id : ℕ) (t : Token) (k : ℕ) → IsLabel id t → is_mark k t ≡ false
label_no_mark id (run r) k l = refl
label_no_mark id (quoted s) k l = refl
label_no_mark id (mark m) k l = elim l [ inl number ↦ absurd number | inr name ↦ absurd name.1 ]
label_no_mark id arrow k l = refl

name_no_mark : (name : List ℕ) (t : Token) (k : ℕ) → IsNameOf name t → is_mark k t ≡ false
name_no_mark name (run r) k l = refl
name_no_mark name (quoted s) k l = refl
name_no_mark name (mark m) k l = absurd l
name_no_mark name arrow k l = refl

labelled_again : (P : Writes Part) (read : Reads Part) → Complete is_free P read → (before : List Written) (field : ℕ × Part) (after : List Written) (t : Token) (inner rest : List Token)
    → IsLabel field.0 t → P before field.1 after inner → is_free rest ≡ true → labelled_at read t before (inner ++ rest) ≡ Some (field, after, rest)
labelled_again P read law before field after t inner rest label w free = rw (label_again t field.0 label, law before field.1 after inner rest w free) refl

alone_field : (read : Reads Part) (next : ℕ) (before : List Written) (part : Part) (after : List Written) (tokens more rest : List Token) (r : List ℕ) → tokens ≡ run r ∷ more → starts (is_mark 58) more ≡ false → read before tokens ≡ Some (part, after, rest)
    → field_at read next before tokens ≡ Some ((next, part), after, rest)
alone_field read next before part after tokens more rest r is second e =
    let f : read before (run r ∷ more) ≡ Some (part, after, rest) = ap (read before) (sym is) ∙ e in
    rw (is, second, f) refl

field_again : (P : Writes Part) (read : Reads Part) → BeginsAll P → Complete is_free P read → (next : ℕ) → Complete is_free (WritesField P next) (field_at read next)
field_again P read begins law next before field after front rest w free = elim w [
  | inl l ↦ rw l.2 (labelled_again P read law before field after l.0 l.1 rest l.3 l.4 free)
  | inr alone ↦
      let b = begins before field.1 after front rest alone.1 free in
      alone_field read next before field.1 after (front ++ rest) b.more rest b.first b.is b.second (law before field.1 after front rest alone.1 free) ∙ ap (λ id. Some ((id, field.1), after, rest)) (sym alone.0)
]

case_again : (P : Writes Part) (read : Reads Part) → Complete is_free P read → (next : ℕ) → Complete is_free (WritesCase P next) (case_at read next)
case_again P read law next before field after front rest w free = elim w [
  | inl l ↦ rw l.2 (labelled_again P read law before field after l.0 l.1 rest l.3 l.4 free)
  | inr alone ↦ rw (alone.1, no_colon rest free, label_again alone.0 field.0 alone.2, alone.4) (ap (λ part. Some ((field.0, part), before, rest)) (sym alone.3))
]

alone_argument : (read : Reads Part) (next : ℕ) (before : List Written) (part : Part) (after : List Written) (tokens more rest : List Token) (r : List ℕ) → tokens ≡ run r ∷ more → starts (is_mark 58) more ≡ false → read before tokens ≡ Some (part, after, rest)
    → argument_at read next before tokens ≡ Some (part, after, rest)
alone_argument read next before part after tokens more rest r is second e =
    let f : read before (run r ∷ more) ≡ Some (part, after, rest) = ap (read before) (sym is) ∙ e in
    rw (is, second) f

argument_again : (P : Writes Part) (read : Reads Part) → BeginsAll P → Complete is_free P read → (next : ℕ) → Complete is_free (WritesArgument P next) (argument_at read next)
argument_again P read begins law next before part after front rest w free = elim w [
  | inl alone ↦
      let b = begins before part after front rest alone free in
      alone_argument read next before part after (front ++ rest) b.more rest b.first b.is b.second (law before part after front rest alone free)
  | inr n ↦ rw (n.2, argument_name_again n.0 n.3) (law before part after n.1 rest n.4 free)
]

method_again : (M : Writes Part) (read : Reads Part) → Complete is_free M read → (next : ℕ) → Complete is_free (WritesMethod M next) (method_at read next)
method_again M read law next before method after front rest w free = rw (w.2, name_again method.0 w.0 w.3, law before method.1 after w.1 rest w.4 free) refl

-- ---- lists of parts do not begin with their end

run_no_end : (front rest more : List Token) (r : List ℕ) (k : ℕ) → front ≡ run r ∷ more → starts (is_mark k) (front ++ rest) ≡ false
run_no_end front rest more r k e = rw e refl

field_on : (depth next : ℕ) (before : List Written) (field : ℕ × Part) (after : List Written) (front rest : List Token) → WritesField (WritesType depth) next before field after front → starts (is_mark 125) (front ++ rest) ≡ false
field_on depth next before field after front rest w = elim w [
  | inl l ↦ rw l.2 (label_no_mark field.0 l.0 125 l.3)
  | inr alone ↦ let f = first_run depth before field.1 after front alone.1 in run_no_end front rest f.1 f.0 125 f.2
]

case_on : (P : Writes Part) (next : ℕ) (before : List Written) (field : ℕ × Part) (after : List Written) (front rest : List Token) → WritesCase P next before field after front → starts (is_mark 125) (front ++ rest) ≡ false
case_on P next before field after front rest w = elim w [
  | inl l ↦ rw l.2 (label_no_mark field.0 l.0 125 l.3)
  | inr alone ↦ rw alone.1 (label_no_mark field.0 alone.0 125 alone.2)
]

argument_on : (depth next : ℕ) (before : List Written) (part : Part) (after : List Written) (front rest : List Token) → WritesArgument (WritesType depth) next before part after front → starts (is_mark 41) (front ++ rest) ≡ false
argument_on depth next before part after front rest w = elim w [
  | inl alone ↦ let f = first_run depth before part after front alone in run_no_end front rest f.1 f.0 41 f.2
  | inr n ↦ rw n.2 (argument_no_mark n.0 41 n.3)
]

method_on : (M : Writes Part) (next : ℕ) (before : List Written) (method : List ℕ × Part) (after : List Written) (front rest : List Token) → WritesMethod M next before method after front → starts (is_mark 125) (front ++ rest) ≡ false
method_on M next before method after front rest w = rw w.2 (name_no_mark method.0 w.0 125 w.3)

-- ---- types

pub tuple_again : (depth : ℕ) → Complete is_free (WritesType depth) (type_at depth) → (before : List Written) (parts : List Part) (after : List Written) (front rest : List Token) → WritesTuple (WritesType depth) before parts after front
    → tuple_at (type_at depth) before (front ++ rest) ≡ Some (parts, after, rest)
tuple_again depth law before parts after front rest w =
    ap (λ (ts : List Token). tuple_at (type_at depth) before (ts ++ rest)) w.1
    ∙ enclosed_again 40 44 41 (WritesArgument (WritesType depth)) no_place (argument_at (type_at depth)) is_free (argument_again (WritesType depth) (type_at depth) (type_begins depth) law) (argument_on depth) (λ rest. refl) (λ rest. refl) refl parts before after w.0 rest w.2

pub notes_again : (notes : List ℕ) (front rest : List Token) → WritesNotes notes front → first_note rest ≡ None → notes_at (front ++ rest) ≡ (notes, rest)
unfolding notes_at
notes_again [] front [] w free = rw w refl
notes_again [] front (t ∷ rest) w free = rw (w, free) refl
notes_again (note ∷ notes) front rest w free =
    ap (λ (ts : List Token). notes_at (ts ++ rest)) w.2 ∙ rw (note_again w.0 note w.3, notes_again notes w.1 rest w.4 free) refl

pub function_again : (depth : ℕ) → Complete is_free (WritesType depth) (type_at depth) → Complete is_free (WritesFunction (WritesType depth)) (function_at (type_at depth))
function_again depth law before part after tokens rest w free =
    let whole : tokens ++ rest ≡ w.front ++ (arrow ∷ (w.middle ++ (w.rest ++ rest))) =
    ap (λ (ts : List Token). ts ++ rest) w.whole ∙ append_assoc w.front (arrow ∷ (w.middle ++ w.rest)) rest ∙ ap (λ (ts : List Token). w.front ++ (arrow ∷ ts)) (append_assoc w.middle w.rest rest) in
    ap (function_at (type_at depth) before) whole
    ∙ rw (tuple_again depth law before w.args w.between w.front (arrow ∷ (w.middle ++ (w.rest ++ rest))) w.has_args, tuple_again depth law w.between w.results w.behind w.middle (w.rest ++ rest) w.has_results, notes_again w.notes w.rest rest w.has_notes (no_note rest free), w.is.0, w.is.1) refl

pub service_again : (M : Writes Part) (read : Reads Part) → Complete is_free M read → (before : List Written) (part : Part) (after : List Written) (front rest : List Token) → WritesService M before part after front → service_at read before (front ++ rest) ≡ Some (part, after, rest)
service_again M read law before part after front rest w =
    let e = enclosed_again 123 59 125 (WritesMethod M) no_place (method_at read) is_free (method_again M read law) (method_on M) (λ rest. refl) (λ rest. refl) refl w.0 before w.1 w.2 rest w.4 in
    ap (λ (ts : List Token). service_at read before (ts ++ rest)) w.3 ∙ rw (e, w.5.0, w.5.1) refl

fields_again : (P : ℕ → Writes (ℕ × Part)) (read : ℕ → Reads (ℕ × Part)) (step : ℕ × Part → ℕ) (made : List (ℕ × Part) → Written) → ((next : ℕ) → Complete is_free (P next) (read next))
    → ((next : ℕ) (before : List Written) (x : ℕ × Part) (after : List Written) (front rest : List Token) → P next before x after front → starts (is_mark 125) (front ++ rest) ≡ false) → Complete is_free (WritesFields P step made) (fields_at read step made)
fields_again P read step made law on before part after front rest w free =
    let e = enclosed_again 123 59 125 P step read is_free law on (λ rest. refl) (λ rest. refl) refl w.0 before w.1 w.2 rest w.4 in
    ap (λ (ts : List Token). fields_at read step made before (ts ++ rest)) w.3 ∙ rw (e, w.5.0, w.5.1) refl

inner_again : (P : Writes Part) (read : Reads Part) (made : Part → Written) → Complete is_free P read → Complete is_free (WritesInner P made) (inner_at read made)
inner_again P read made law before part after front rest w free = rw (law before w.0 w.1 front rest w.2 free, w.3.0, w.3.1) refl

behind_again : (depth : ℕ) → Complete is_free (WritesType depth) (type_at depth) → Complete is_free (WritesMethodType depth) (method_type_at depth) → (w : Word) → Complete is_free (WritesBehind (WritesType depth) (WritesMethodType depth) w) (after_word_at (type_at depth) (method_type_at depth) w)
unfolding after_word_at
behind_again depth law laws (words.Prim p) before part after front rest w free = rw (w.0, w.1, w.2) refl
behind_again depth law laws words.Float32 before part after front rest w free = rw (w.0, w.1, w.2) refl
behind_again depth law laws words.Float64 before part after front rest w free = rw (w.0, w.1, w.2) refl
behind_again depth law laws words.Blob before part after front rest w free = rw (w.0, w.1.0, w.1.1) refl
behind_again depth law laws words.Opt before part after front rest w free = inner_again (WritesType depth) (type_at depth) (λ t. Opt t) law before part after front rest w free
behind_again depth law laws words.Seq before part after front rest w free = inner_again (WritesType depth) (type_at depth) (λ t. Seq t) law before part after front rest w free
behind_again depth law laws words.Rec before part after front rest w free =
    fields_again (WritesField (WritesType depth)) (field_at (type_at depth)) after_field (λ fs. Rec fs) (field_again (WritesType depth) (type_at depth) (type_begins depth) law) (field_on depth) before part after front rest w free
behind_again depth law laws words.Var before part after front rest w free =
    fields_again (WritesCase (WritesType depth)) (case_at (type_at depth)) no_place (λ fs. Var fs) (case_again (WritesType depth) (type_at depth) law) (case_on (WritesType depth)) before part after front rest w free
behind_again depth law laws words.Func before part after front rest w free = function_again depth law before part after front rest w free
behind_again depth law laws words.Service before part after front rest w free = service_again (WritesMethodType depth) (method_type_at depth) laws before part after front rest w
behind_again depth law laws words.Definition before part after front rest w free = absurd w
behind_again depth law laws words.Query before part after front rest w free = absurd w
behind_again depth law laws words.Oneway before part after front rest w free = absurd w
behind_again depth law laws words.CompositeQuery before part after front rest w free = absurd w

mutual
  unfolding type_at method_type_at

  pub type_again : (depth : ℕ) → Complete is_free (WritesType depth) (type_at depth)
  type_again zero before part after front rest w free = absurd w
  type_again (suc depth) before part after front rest w free = elim w [
    | inl name ↦
        ap (λ (ts : List Token). type_at (suc depth) before (ts ++ rest)) name.2
        ∙ rw (name_no_word name.0 name.3, free_again name.0 name.3, name.1, name.4) refl
    | inr worded ↦
        ap (λ (ts : List Token). type_at (suc depth) before (ts ++ rest)) worded.2
        ∙ rw (word_again worded.0) (behind_again depth (type_again depth) (method_type_again depth) worded.0 before part after worded.1 rest worded.3 free)
  ]

  pub method_type_again : (depth : ℕ) → Complete is_free (WritesMethodType depth) (method_type_at depth)
  method_type_again zero before part after front rest w free = absurd w
  method_type_again (suc depth) before part after front rest w free = elim w [
    | inl name ↦
        let other : starts (is_mark 40) (front ++ rest) ≡ false = rw name.2 refl in
        second_way (starts (is_mark 40) (front ++ rest)) (function_at (type_at depth) before (front ++ rest)) (named_at before (front ++ rest)) (Some (part, after, rest)) other (named_again before part after front rest name free)
    | inr function ↦
        let begins : starts (is_mark 40) (front ++ rest) ≡ true = let args = function.has_args in rw (function.whole, args.1) refl in
        first_way (starts (is_mark 40) (front ++ rest)) (function_at (type_at depth) before (front ++ rest)) (named_at before (front ++ rest)) (Some (part, after, rest)) begins (function_again depth (type_again depth) before part after front rest function free)
  ]
