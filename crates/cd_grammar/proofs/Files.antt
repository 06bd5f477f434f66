-- Interface files are read exactly.
use Rattle.std.proofs.Common.{◌≡◌, ℕ, zero, suc, ◌+◌, ◌≤◌, ◌<◌, Bool, true, false, List, [], ◌∷◌, ◌++◌, length, drop, Option, Some, None, Ok, Err, Result, refl, sym, ap, subst, ◌∙◌, append_assoc, length-append, inl, inr, ◌⊎◌, arith}
use Rattle.std.specs.Prelude.{IfOk, if◌then◌else◌}
use Rattle.std.specs.Str.{is_utf8}
use Rattle.ic_base.specs.declared.read_error.ReadError.{ReadError}
use Rattle.ic_base.specs.declared.read_error.ReadError.TheVariants.{NoMemory, Refused}
use Rattle.ic_base.specs.Gives.{Gives}
use Rattle.ic_base.specs.Reader.{◌>>=◌}
use Rattle.ic_base.proofs.Steps.{bind_some, some_is}
use Rattle.cd_tokens.specs.Token.{Token, mark, arrow}
use Rattle.cd_tokens.specs.Lexed.{IsTokens, Agrees}
use Rattle.cd_tokens.proofs.Streams.{one_list}
use Rattle.cd_grammar.specs.declared.word.Word.{Word}
use Rattle.cd_grammar.specs.declared.word.Word.TheVariants as words
use Rattle.cd_grammar.specs.declared.written.Part.{Part}
use Rattle.cd_grammar.specs.declared.written.Written.{Written}
use Rattle.cd_grammar.specs.declared.written.Main.{Main}
use Rattle.cd_grammar.specs.File.{File}
use Rattle.cd_grammar.specs.Words.{word}
use Rattle.cd_grammar.specs.Grammar.{Writes, WritesName, WritesService, WritesType, WritesMethodType, IsEnd, IsServiceName, WritesInstalled, WritesMain, WritesDefinition, WritesRest, WritesFile, IsFile}
use Rattle.cd_grammar.specs.Read.{is_mark, is_arrow, starts, then_make, token_word, free_name, tuple_at, named_at, service_at, type_at, method_type_at, definition_at, is_type, is_service, passes, is_word, are_none, behind_definition, definitions_at, is_any_word, past_colon, past_name, past_arrow, installed_at, served_at, is_end, main_of, main_at, rest_at, with_rest, file_at}
use Rattle.cd_tokens.proofs.Fronts.{true_or_false}
use Rattle.cd_tokens.proofs.Starts.{started}
use Rattle.cd_grammar.proofs.Words.{arrow_started, token_takes, free_takes, any_word_takes, word_again, free_again}
use Rattle.cd_tokens.proofs.Parts.{Takes}
use Rattle.cd_grammar.proofs.Takes.{made_of, chosen, first_way, second_way, named_takes, tuple_takes, service_takes, type_takes, method_type_takes}
use Rattle.cd_grammar.proofs.Again.{is_free, named_again, tuple_again, service_again, type_again, method_type_again}

-- ---- what is read is written

type_is : (w : Word) → is_type w ≡ true → w ≡ words.Definition
type_is (words.Prim p) e = absurd cc
type_is words.Float32 e = absurd cc
type_is words.Float64 e = absurd cc
type_is words.Blob e = absurd cc
type_is words.Opt e = absurd cc
type_is words.Seq e = absurd cc
type_is words.Rec e = absurd cc
type_is words.Var e = absurd cc
type_is words.Func e = absurd cc
type_is words.Service e = absurd cc
type_is words.Definition e = refl
type_is words.Query e = absurd cc
type_is words.Oneway e = absurd cc
type_is words.CompositeQuery e = absurd cc

service_is : (w : Word) → is_service w ≡ true → w ≡ words.Service
service_is (words.Prim p) e = absurd cc
service_is words.Float32 e = absurd cc
service_is words.Float64 e = absurd cc
service_is words.Blob e = absurd cc
service_is words.Opt e = absurd cc
service_is words.Seq e = absurd cc
service_is words.Rec e = absurd cc
service_is words.Var e = absurd cc
service_is words.Func e = absurd cc
service_is words.Service e = refl
service_is words.Definition e = absurd cc
service_is words.Query e = absurd cc
service_is words.Oneway e = absurd cc
service_is words.CompositeQuery e = absurd cc

passing : (test : Word → Bool) (found : Option Word) → passes test found ≡ true → (w : Word) × (found ≡ Some w) × (test w ≡ true)
passing test None e = absurd cc
passing test (Some w) e = (w, refl, e)

word_is : (test : Word → Bool) (t : Token) → is_word test t ≡ true → (w : Word) × (t ≡ word w) × (test w ≡ true)
word_is test t e = let p = passing test (token_word t) e in (p.0, token_takes t p.0 p.1, p.2)

type_started : (tokens : List Token) → starts (is_word is_type) tokens ≡ true → tokens ≡ word words.Definition ∷ drop 1 tokens
type_started [] e = absurd cc
type_started (t ∷ rest) e = let w = word_is is_type t e in ap (λ (x : Token). x ∷ rest) (w.1 ∙ ap word (type_is w.0 w.2))

none_are : (tokens : List Token) → are_none tokens ≡ true → tokens ≡ []
none_are [] e = refl
none_are (t ∷ rest) e = absurd cc

end_is : (tokens : List Token) → is_end tokens ≡ true → IsEnd tokens
end_is [] e = inl refl
end_is (t ∷ []) e = inr (started 59 (t ∷ []) e)
end_is (t ∷ u ∷ rest) e = absurd cc

definition_takes : (types : List Written) (tokens : List Token) (z : (List ℕ × Part) × List Written × List Token) → definition_at types tokens ≡ Some z
    → (front : List Token) × (word words.Definition ∷ tokens ≡ front ++ z.2) × WritesDefinition types z.0 z.1 front
definition_takes types [] z e = absurd cc
definition_takes types (t ∷ rest) z e =
    let a = bind_some (free_name t) (λ name. if starts (is_mark 61) rest then then_make (λ part. (name, part)) (type_at 128 types (drop 1 rest)) else None) z e in
    let n = free_takes t a.0 a.1 in
    elim (chosen (starts (is_mark 61) rest) (then_make (λ part. (a.0, part)) (type_at 128 types (drop 1 rest))) None (Some z) a.2) [
      | inl found ↦
          let b = made_of (λ part. (a.0, part)) (type_at 128 types (drop 1 rest)) z found.1 in
          let s = type_takes 128 types (drop 1 rest) b.0 b.1 in
          subst (λ (y : (List ℕ × Part) × List Written × List Token). (front : List Token) × (word words.Definition ∷ t ∷ rest ≡ front ++ y.2) × WritesDefinition types y.0 y.1 front) b.2 (
            word words.Definition ∷ t ∷ mark 61 ∷ s.front,
            ap (λ (ts : List Token). word words.Definition ∷ t ∷ ts) (started 61 rest found.0 ∙ ap (λ (ts : List Token). mark 61 ∷ ts) s.parts),
            (s.front, ap (λ (x : Token). word words.Definition ∷ x ∷ mark 61 ∷ s.front) n.0, n.1, s.written),
          )
      | inr never ↦ let f : None ≡ Some z = never.1 in absurd cc
    ]

name_part : (tokens rest : List Token) → past_name tokens ≡ Some rest → (name : List Token) × (tokens ≡ name ++ (mark 58 ∷ rest)) × IsServiceName name
name_part [] rest e = absurd cc
name_part (t ∷ more) rest e = elim (true_or_false (is_mark 58 t)) [
  | inl colon ↦
      let f : Some more ≡ Some rest = rw colon at e in
      ([], started 58 (t ∷ more) colon ∙ ap (λ (ts : List Token). mark 58 ∷ ts) (some_is {A = List Token} more rest f), inl refl)
  | inr named ↦
      let f : (if is_any_word t then past_colon more else None) ≡ Some rest = rw named at e in
      elim (chosen (is_any_word t) (past_colon more) None (Some rest) f) [
        | inl word ↦
            let n = any_word_takes t word.0 in
            elim (chosen (starts (is_mark 58) more) (Some (drop 1 more)) None (Some rest) word.1) [
              | inl colon ↦
                  (t ∷ [], ap (λ (ts : List Token). t ∷ ts) (started 58 more colon.0 ∙ ap (λ (ts : List Token). mark 58 ∷ ts) (some_is {A = List Token} (drop 1 more) rest colon.1)), inr (n.0, ap (λ (x : Token). x ∷ []) n.1, n.2))
              | inr never ↦ let g : None ≡ Some rest = never.1 in absurd cc
            ]
        | inr never ↦ let g : None ≡ Some rest = never.1 in absurd cc
      ]
]

installed_takes : (types : List Written) (tokens : List Token) (z : List Part × List Written × List Token) → installed_at types tokens ≡ Some z → Takes WritesInstalled types tokens z
installed_takes types tokens z e = elim (chosen (starts (is_mark 40) tokens) (tuple_at (type_at 128) types tokens >>= past_arrow) (Some ([], types, tokens)) (Some z) e) [
  | inl paren ↦
      let a = bind_some (tuple_at (type_at 128) types tokens) past_arrow z paren.1 in
      let s = tuple_takes (WritesType 128) (type_at 128) (type_takes 128) types tokens a.0 a.1 in
      elim (true_or_false (starts is_arrow a.0.2)) [
        | inl found ↦
            let g : Some (a.0.0, a.0.1, drop 1 a.0.2) ≡ Some z = rw found at a.2 in
            subst (Takes WritesInstalled types tokens) (some_is {A = List Part × List Written × List Token} (a.0.0, a.0.1, drop 1 a.0.2) z g)
            (record {
              front = s.front ++ arrow ∷ [];
              parts = s.parts ∙ ap (λ ts. s.front ++ ts) (arrow_started a.0.2 found) ∙ sym (append_assoc s.front (arrow ∷ []) (drop 1 a.0.2));
              written = inr (s.front, refl, s.written);
            })
        | inr never ↦ let g : None ≡ Some z = rw never at a.2 in absurd cc
      ]
  | inr none ↦
      subst (Takes WritesInstalled types tokens) (some_is {A = List Part × List Written × List Token} ([], types, tokens) z none.1) (record { front = []; parts = refl; written = inl (refl, refl, refl) })
]

-- the service: methods or a name
abbrev Served : Writes Part
Served before part after tokens = WritesName before part after tokens ⊎ WritesService (WritesMethodType 128) before part after tokens

served_takes : (types : List Written) (tokens : List Token) (z : Part × List Written × List Token) → served_at types tokens ≡ Some z → Takes Served types tokens z
served_takes types tokens z e = elim (chosen (starts (is_mark 123) tokens) (service_at (method_type_at 128) types tokens) (named_at types tokens) (Some z) e) [
  | inl brace ↦
      let s = service_takes (WritesMethodType 128) (method_type_at 128) (method_type_takes 128) types tokens z brace.1 in
      record { front = s.front; parts = s.parts; written = inr s.written }
  | inr name ↦
      let s = named_takes types tokens z name.1 in
      record { front = s.front; parts = s.parts; written = inl s.written }
]

ended_takes : (tuple : List Part) (x : Part × List Written × List Token) (z : Main × List Written) → main_of tuple x ≡ Some z → (is_end x.2 ≡ true) × ((record { tuple = tuple; service = x.0 }, x.1) ≡ z)
ended_takes tuple x z e = elim (true_or_false (is_end x.2)) [
  | inl ended ↦ let f : Some (record { tuple = tuple; service = x.0 }, x.1) ≡ Some z = rw ended at e in (ended, some_is {A = Main × List Written} (record { tuple = tuple; service = x.0 }, x.1) z f)
  | inr never ↦ let f : None ≡ Some z = rw never at e in absurd cc
]

main_takes : (types : List Written) (tokens : List Token) (z : Main × List Written) → main_at types tokens ≡ Some z → WritesMain types z.0 z.1 (word words.Service ∷ tokens)
main_takes types tokens z e =
    let a = bind_some (past_name tokens) (λ rest. installed_at types rest >>= λ installed. served_at installed.1 installed.2 >>= λ served. main_of installed.0 served) z e in
    let b = bind_some (installed_at types a.0) (λ installed. served_at installed.1 installed.2 >>= λ served. main_of installed.0 served) z a.2 in
    let c = bind_some (served_at b.0.1 b.0.2) (λ served. main_of b.0.0 served) z b.2 in
    let n = name_part tokens a.0 a.1 in
    let i = installed_takes types a.0 b.0 b.1 in
    let s = served_takes b.0.1 b.0.2 c.0 c.1 in
    let d = ended_takes b.0.0 c.0 z c.2 in
    subst (λ (y : Main × List Written). WritesMain types y.0 y.1 (word words.Service ∷ tokens)) d.1
    (record {
      between = b.0.1;
      name = n.0;
      tuple = i.front;
      type = s.front;
      end = c.0.2;
      whole = ap (λ (ts : List Token). word words.Service ∷ ts) (n.1 ∙ ap (λ (ts : List Token). n.0 ++ (mark 58 ∷ ts)) (i.parts ∙ ap (λ (ts : List Token). i.front ++ ts) s.parts));
      named = n.2;
      installed = i.written;
      is = s.written;
      ended = end_is c.0.2 d.0;
    })

rest_takes : (types : List Written) (tokens : List Token) (z : Option Main × List Written) → rest_at types tokens ≡ Some z → WritesRest types z.0 z.1 tokens
rest_takes types [] z e = subst (λ (y : Option Main × List Written). WritesRest types y.0 y.1 []) (some_is {A = Option Main × List Written} (None, types) z e) (refl, refl)
rest_takes types (t ∷ rest) z e = elim (true_or_false (is_word is_service t)) [
  | inl found ↦
      let f : (main_at types rest >>= λ x. Some (Some x.0, x.1)) ≡ Some z = rw found at e in
      let a = bind_some (main_at types rest) (λ x. Some (Some x.0, x.1)) z f in
      let w = word_is is_service t found in
      let is : t ≡ word words.Service = w.1 ∙ ap word (service_is w.0 w.2) in
      subst (λ (y : Option Main × List Written). WritesRest types y.0 y.1 (t ∷ rest)) (some_is {A = Option Main × List Written} (Some a.0.0, a.0.1) z a.2)
      (subst (λ (x : Token). WritesMain types a.0.0 a.0.1 (x ∷ rest)) (sym is) (main_takes types rest a.0 a.1))
  | inr never ↦ let f : None ≡ Some z = rw never at e in absurd cc
]

-- the definitions, where what comes after them is read
abbrev Leads : List Written → List Token → List (List ℕ × Part) × List Written × List Token → Type 0
Leads types tokens z = (y : Option Main × List Written) → rest_at z.1 z.2 ≡ Some y → WritesFile z.0 types y.0 y.1 tokens

definitions_take : (fuel : ℕ) (types : List Written) (tokens : List Token) (z : List (List ℕ × Part) × List Written × List Token) → definitions_at fuel types tokens ≡ Some z → Leads types tokens z
unfolding definitions_at
definitions_take zero types tokens z e = absurd cc
definitions_take (suc fuel) types tokens z e = elim (true_or_false (starts (is_word is_type) tokens)) [
  | inl found ↦
      let f : (definition_at types (drop 1 tokens) >>= behind_definition (definitions_at fuel)) ≡ Some z = rw found at e in
      let a = bind_some (definition_at types (drop 1 tokens)) (behind_definition (definitions_at fuel)) z f in
      let d = definition_takes types (drop 1 tokens) a.0 a.1 in
      let whole : tokens ≡ d.0 ++ a.0.2 = type_started tokens found ∙ d.1 in
      elim (true_or_false (are_none a.0.2)) [
        | inl none ↦
            let g : Some (a.0.0 ∷ [], a.0.1, a.0.2) ≡ Some z = rw none at a.2 in
            let empty : a.0.2 ≡ [] = none_are a.0.2 none in
            subst (Leads types tokens) (some_is {A = List (List ℕ × Part) × List Written × List Token} (a.0.0 ∷ [], a.0.1, a.0.2) z g)
            (λ y r.
            let at_end : rest_at a.0.1 [] ≡ Some y = subst (λ (ts : List Token). rest_at a.0.1 ts ≡ Some y) empty r in
            let same : (None, a.0.1) ≡ y = some_is {A = Option Main × List Written} (None, a.0.1) y at_end in
            (a.0.1, d.0, a.0.2, whole, d.2, inl (refl, sym (ap (λ (x : Option Main × List Written). x.0) same), sym (ap (λ (x : Option Main × List Written). x.1) same), empty)))
        | inr some ↦ elim (true_or_false (starts (is_mark 59) a.0.2)) [
          | inl again ↦
              let g : then_make (λ ds. a.0.0 ∷ ds) (definitions_at fuel a.0.1 (drop 1 a.0.2)) ≡ Some z = rw (some, again) at a.2 in
              let b = made_of (λ ds. a.0.0 ∷ ds) (definitions_at fuel a.0.1 (drop 1 a.0.2)) z g in
              subst (Leads types tokens) b.2
              (λ y r. (a.0.1, d.0, a.0.2, whole, d.2, inr (drop 1 a.0.2, started 59 a.0.2 again, definitions_take fuel a.0.1 (drop 1 a.0.2) b.0 b.1 y r)))
          | inr stuck ↦ let g : None ≡ Some z = rw (some, stuck) at a.2 in absurd cc
        ]
      ]
  | inr none ↦
      let f : Some ([], types, tokens) ≡ Some z = rw none at e in
      subst (Leads types tokens) (some_is {A = List (List ℕ × Part) × List Written × List Token} ([], types, tokens) z f) (λ y r. rest_takes types tokens y r)
]

pub file_takes : (tokens : List Token) (file : File) → file_at tokens ≡ Some file → WritesFile file.definitions [] file.main file.types tokens
unfolding file_at
file_takes tokens file e =
    let a = bind_some (definitions_at (length tokens + 1) [] tokens) with_rest file e in
    let b = bind_some (rest_at a.0.1 a.0.2) (λ y. Some (record { types = y.1; definitions = a.0.0; main = y.0 })) file a.2 in
    subst (λ (f : File). WritesFile f.definitions [] f.main f.types tokens) (some_is {A = File} (record { types = b.0.1; definitions = a.0.0; main = b.0.0 }) file b.2)
    (definitions_take (length tokens + 1) [] tokens a.0 a.1 b.0 b.1)

-- ---- what is written is read

end_again : (tokens : List Token) → IsEnd tokens → (is_end tokens ≡ true) × (is_free tokens ≡ true)
end_again tokens w = elim w [ inl none ↦ rw none (refl, refl) | inr one ↦ rw one (refl, refl) ]

name_again : (name rest : List Token) → IsServiceName name → past_name (name ++ (mark 58 ∷ rest)) ≡ Some rest
name_again name rest w = elim w [ inl none ↦ rw none refl | inr n ↦ rw (n.1, n.2) refl ]

-- the service begins with a brace or a name
no_paren : (before : List Written) (part : Part) (after : List Written) (front rest : List Token) → Served before part after front → starts (is_mark 40) (front ++ rest) ≡ false
no_paren before part after front rest w = elim w [ inl name ↦ rw name.2 refl | inr methods ↦ rw methods.3 refl ]

installed_again : (before : List Written) (parts : List Part) (after : List Written) (front rest : List Token) → WritesInstalled before parts after front → starts (is_mark 40) rest ≡ false → installed_at before (front ++ rest) ≡ Some (parts, after, rest)
installed_again before parts after front rest w other = elim w [
  | inl none ↦
      let w : installed_at before rest ≡ Some ([], before, rest) = second_way (starts (is_mark 40) rest) (tuple_at (type_at 128) before rest >>= past_arrow) (Some ([], before, rest)) (Some ([], before, rest)) other refl in
      ap (λ (ts : List Token). installed_at before (ts ++ rest)) none.2 ∙ w ∙ rw (none.0, none.1) refl
  | inr t ↦
      let whole : front ++ rest ≡ t.0 ++ (arrow ∷ rest) = ap (λ (ts : List Token). ts ++ rest) t.1 ∙ append_assoc t.0 (arrow ∷ []) rest in
      let read = tuple_again 128 (type_again 128) before parts after t.0 (arrow ∷ rest) t.2 in
      let paren : starts (is_mark 40) (t.0 ++ (arrow ∷ rest)) ≡ true = let inner = t.2 in rw inner.1 refl in
      let arrowed : (tuple_at (type_at 128) before (t.0 ++ (arrow ∷ rest)) >>= past_arrow) ≡ Some (parts, after, rest) = rw read refl in
      ap (installed_at before) whole
      ∙ first_way (starts (is_mark 40) (t.0 ++ (arrow ∷ rest))) (tuple_at (type_at 128) before (t.0 ++ (arrow ∷ rest)) >>= past_arrow) (Some ([], before, t.0 ++ (arrow ∷ rest))) (Some (parts, after, rest)) paren arrowed
]

served_again : (before : List Written) (part : Part) (after : List Written) (front rest : List Token) → Served before part after front → is_free rest ≡ true → served_at before (front ++ rest) ≡ Some (part, after, rest)
served_again before part after front rest w free = elim w [
  | inl name ↦
      let other : starts (is_mark 123) (front ++ rest) ≡ false = rw name.2 refl in
      second_way (starts (is_mark 123) (front ++ rest)) (service_at (method_type_at 128) before (front ++ rest)) (named_at before (front ++ rest)) (Some (part, after, rest)) other (named_again before part after front rest name free)
  | inr methods ↦
      let brace : starts (is_mark 123) (front ++ rest) ≡ true = rw methods.3 refl in
      first_way (starts (is_mark 123) (front ++ rest)) (service_at (method_type_at 128) before (front ++ rest)) (named_at before (front ++ rest)) (Some (part, after, rest)) brace (service_again (WritesMethodType 128) (method_type_at 128) (method_type_again 128) before part after front rest methods)
]

main_again : (before : List Written) (main : Main) (after : List Written) (tokens : List Token) → WritesMain before main after tokens → rest_at before tokens ≡ Some (Some main, after)
main_again before main after tokens w =
    let e = end_again w.end w.ended in
    let name = name_again w.name (w.tuple ++ (w.type ++ w.end)) w.named in
    let installed = installed_again before main.tuple w.between w.tuple (w.type ++ w.end) w.installed (no_paren w.between main.service after w.type w.end w.is) in
    let served = served_again w.between main.service after w.type w.end w.is e.1 in
    ap (rest_at before) w.whole ∙ rw (word_again words.Service, name, installed, served, e.0) refl

rest_again : (before : List Written) (main : Option Main) (after : List Written) (tokens : List Token) → WritesRest before main after tokens → (rest_at before tokens ≡ Some (main, after)) × (starts (is_word is_type) tokens ≡ false)
rest_again before None after tokens w = (rw (w.0, w.1) refl, rw w.0 refl)
rest_again before (Some main) after tokens w = (main_again before main after tokens w, rw (w.whole, word_again words.Service) refl)

definition_again : (before : List Written) (d : List ℕ × Part) (after : List Written) (front rest : List Token) → WritesDefinition before d after front → is_free rest ≡ true
    → (starts (is_word is_type) (front ++ rest) ≡ true) × (definition_at before (drop 1 (front ++ rest)) ≡ Some (d, after, rest))
definition_again before d after front rest w free = (
  rw (w.1, word_again words.Definition) refl,
  rw (w.1, free_again d.0 w.2, type_again 128 before d.1 after w.0 rest w.3 free) refl,
)

one_definition : (fuel : ℕ) (before : List Written) (tokens : List Token) (x : (List ℕ × Part) × List Written × List Token) → starts (is_word is_type) tokens ≡ true → definition_at before (drop 1 tokens) ≡ Some x
    → definitions_at (suc fuel) before tokens ≡ behind_definition (definitions_at fuel) x
unfolding definitions_at
one_definition fuel before tokens x is e = rw (is, e) refl

more_made : (d : List ℕ × Part) (read : Option (List (List ℕ × Part) × List Written × List Token)) (ds : List (List ℕ × Part)) (main : Option Main) (after : List Written) → (read >>= with_rest) ≡ Some (record { types = after; definitions = ds; main = main })
    → (then_make (λ more. d ∷ more) read >>= with_rest) ≡ Some (record { types = after; definitions = d ∷ ds; main = main })
more_made d None ds main after e = absurd cc
more_made d (Some x) ds main after e =
    let a = bind_some (rest_at x.1 x.2) (λ y. Some (record { types = y.1; definitions = x.0; main = y.0 })) (record { types = after; definitions = ds; main = main }) e in
    let same = some_is {A = File} (record { types = a.0.1; definitions = x.0; main = a.0.0 }) (record { types = after; definitions = ds; main = main }) a.2 in
    rw a.1 (ap (λ (f : File). Some (record { types = f.types; definitions = d ∷ f.definitions; main = f.main })) same)

definitions_again : (ds : List (List ℕ × Part)) (fuel : ℕ) (before : List Written) (main : Option Main) (after : List Written) (tokens : List Token) → WritesFile ds before main after tokens → length ds < fuel
    → (definitions_at fuel before tokens >>= with_rest) ≡ Some (record { types = after; definitions = ds; main = main })
unfolding definitions_at
definitions_again ds zero before main after tokens w enough = absurd (omega (arith, enough))
definitions_again [] (suc fuel) before main after tokens w enough = let r = rest_again before main after tokens w in rw (r.1, r.0) refl
definitions_again (d ∷ ds) (suc fuel) before main after tokens w enough = elim w.5 [
  | inl last ↦
      let r = definition_again before d w.0 w.1 w.2 w.4 (rw last.3 refl) in
      ap (λ (ts : List Token). definitions_at (suc fuel) before ts >>= with_rest) w.3
      ∙ ap (λ read. read >>= with_rest) (one_definition fuel before (w.1 ++ w.2) (d, w.0, w.2) r.0 r.1)
      ∙ rw (last.3, last.0, last.1, last.2) refl
  | inr more ↦
      let r = definition_again before d w.0 w.1 w.2 w.4 (rw more.1 refl) in
      ap (λ (ts : List Token). definitions_at (suc fuel) before ts >>= with_rest) w.3
      ∙ ap (λ read. read >>= with_rest) (one_definition fuel before (w.1 ++ w.2) (d, w.0, w.2) r.0 r.1)
      ∙ rw more.1 (more_made d (definitions_at fuel w.0 more.0) ds main after (definitions_again ds fuel w.0 main after more.0 more.2 (omega (arith, enough))))
]

-- each definition has tokens
pub few_definitions : (ds : List (List ℕ × Part)) (before : List Written) (main : Option Main) (after : List Written) (tokens : List Token) → WritesFile ds before main after tokens → length ds ≤ length tokens
few_definitions [] before main after tokens w = omega arith
few_definitions (d ∷ ds) before main after tokens w =
    let whole : length tokens ≡ length w.1 + length w.2 = ap length w.3 ∙ length-append w.1 w.2 in
    let definition = w.4 in
    let front : length w.1 ≡ suc (suc (suc (length definition.0))) = ap length definition.1 in
    elim w.5 [
      | inl last ↦ let none : length ds ≡ 0 = ap length last.0 in omega (arith, whole, front, none)
      | inr more ↦
          let one : length w.2 ≡ suc (length more.0) = ap length more.1 in
          let rest = few_definitions ds w.0 main after more.0 more.2 in
          omega (arith, whole, one, rest)
    ]

pub file_again : (file : File) (tokens : List Token) → WritesFile file.definitions [] file.main file.types tokens → file_at tokens ≡ Some file
unfolding file_at
file_again file tokens w =
    let few = few_definitions file.definitions [] file.main file.types tokens w in
    definitions_again file.definitions (length tokens + 1) [] file.main file.types tokens w (omega (arith, few))

-- ---- files of texts

pub text_found : (tokens : List Token) (text : List ℕ) (r : Result File ReadError) → is_utf8 text ≡ true → IsTokens true tokens text → Gives (λ f. f) r (file_at tokens) → IfOk r (λ f. IsFile f text)
text_found tokens text (Ok file) utf8 lexed e = record { tokens = tokens; utf8 = utf8; lexed = lexed; written = file_takes tokens file e }
text_found tokens text (Err e) utf8 lexed gives = tt

refused : (file : File) (read : Option File) → read ≡ None → read ≡ Some file → ⊥
refused file None e f = absurd cc
refused file (Some g) e f = absurd cc

agreeing : (r : Result File ReadError) (file : File) (read : Option File) → Gives (λ f. f) r read → read ≡ Some file → Agrees (λ f. f) r file
agreeing (Ok x) file read gives e = some_is {A = File} x file (sym gives ∙ e)
agreeing (Err NoMemory) file read gives e = tt
agreeing (Err Refused) file read gives e = refused file read gives e

pub text_agrees : (tokens : List Token) (text : List ℕ) (r : Result File ReadError) → IsTokens true tokens text → Gives (λ f. f) r (file_at tokens) → (file : File) → IsFile file text → Agrees (λ f. f) r file
text_agrees tokens text r lexed gives file f =
    let same : f.tokens ≡ tokens = one_list true f.tokens tokens text f.lexed lexed in
    let read : file_at tokens ≡ Some file = subst (λ ts. file_at ts ≡ Some file) same (file_again file f.tokens f.written) in
    agreeing r file (file_at tokens) gives read

pub no_tokens : {B : Type 0} (see : B → List Token) (text : List ℕ) (e : ReadError) → ((tokens : List Token) → IsTokens true tokens text → Agrees see (Err e) tokens) → (file : File) → IsFile file text → Agrees {A = File} (λ f. f) (Err e) file
no_tokens see text NoMemory law file f = tt
no_tokens see text Refused law file f = law f.tokens f.lexed

-- a text is one file at most
pub one_file : (file other : File) (text : List ℕ) → IsFile file text → IsFile other text → file ≡ other
one_file file other text a b = sym (text_agrees b.tokens text (Ok other) b.lexed (file_again other b.tokens b.written) file a)
