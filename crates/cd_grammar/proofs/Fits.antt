-- Each place that a file names is one of its types, and its annotations are ones.
use Rattle.std.proofs.Common.{◌≡◌, ℕ, zero, suc, ◌+◌, ◌≤◌, Bool, true, List, [], ◌∷◌, ◌++◌, length, map, Option, Some, None, refl, sym, ap, subst, ◌∙◌, length-append, inl, inr, arith}
use Rattle.std.proofs.lemmas.List.Folds.{list_all-append}
use Rattle.std.specs.Prelude.{◌&&◌, nat_lt}
use Rattle.std.specs.List.{list_all}
use Rattle.cd_types.specs.IsOrdered.{is_note}
use Rattle.cd_types.proofs.FaultLemmas.{both_true}
use Rattle.cd_tokens.specs.Token.{Token, mark}
use Rattle.cd_grammar.specs.declared.word.Word.{Word}
use Rattle.cd_grammar.specs.declared.word.Word.TheVariants as words
use Rattle.cd_grammar.specs.declared.written.Part.{Part}
use Rattle.cd_grammar.specs.declared.written.Part.TheVariants.{Prim, Float, Name, Place}
use Rattle.cd_grammar.specs.declared.written.Written.{Written}
use Rattle.cd_grammar.specs.declared.written.Written.TheVariants.{Opt, Seq, Rec, Var, Func, Service}
use Rattle.cd_grammar.specs.declared.written.Main.{Main}
use Rattle.cd_grammar.specs.File.{File}
use Rattle.cd_grammar.specs.Fits.{parts_of, all_in_main, part_fits, notes_fit, written_fits, Fit, FitsFile}
use Rattle.cd_grammar.specs.Words.{note_of}
use Rattle.cd_grammar.specs.Grammar.{Writes, WritesParts, Adds, WritesLabelled, WritesField, WritesCase, WritesArgument, WritesTuple, WritesNotes, WritesFunction, WritesMethod, WritesName, WritesService, WritesFields, WritesBehind, WritesType, WritesMethodType, WritesInstalled, WritesMain, WritesRest, WritesFile, IsFile}

both : (a b : Bool) → a ≡ true → b ≡ true → (a && b) ≡ true
both a b p q = rw (p, q) refl

-- ---- more types

part_longer : (n m : ℕ) (part : Part) → n ≤ m → part_fits n part ≡ true → part_fits m part ≡ true
part_longer n m (Prim p) le e = refl
part_longer n m Float le e = refl
part_longer n m (Name name) le e = refl
part_longer n m (Place place) le e = grind (arith, le, e)

parts_longer : (n m : ℕ) (parts : List Part) → n ≤ m → list_all (part_fits n) parts ≡ true → list_all (part_fits m) parts ≡ true
parts_longer n m [] le e = refl
parts_longer n m (part ∷ parts) le e =
    let h = both_true (part_fits n part) (list_all (part_fits n) parts) e in
    both (part_fits m part) (list_all (part_fits m) parts) (part_longer n m part le h.0) (parts_longer n m parts le h.1)

types_longer : (n m : ℕ) (types : List Written) → n ≤ m → list_all (written_fits n) types ≡ true → list_all (written_fits m) types ≡ true
types_longer n m [] le e = refl
types_longer n m (w ∷ types) le e =
    let h = both_true (written_fits n w) (list_all (written_fits n) types) e in
    let k = both_true (list_all (part_fits n) (parts_of w)) (notes_fit w) h.0 in
    both (written_fits m w) (list_all (written_fits m) types) (both (list_all (part_fits m) (parts_of w)) (notes_fit w) (parts_longer n m (parts_of w) le k.0) k.1) (types_longer n m types le h.1)

parts_append : (n : ℕ) (xs ys : List Part) → list_all (part_fits n) xs ≡ true → list_all (part_fits n) ys ≡ true → list_all (part_fits n) (xs ++ ys) ≡ true
parts_append n xs ys p q = list_all-append (part_fits n) xs ys ∙ both (list_all (part_fits n) xs) (list_all (part_fits n) ys) p q

-- ---- what is written keeps it

-- after something whose parts are these
pub record Kept {A : Type 0} (parts : A → List Part) (before : List Written) (x : A) (after : List Written) : Type 0 where
  pub fit : Fit after
  pub longer : length before ≤ length after
  pub each : list_all (part_fits (length after)) (parts x) ≡ true

abbrev pub Keeps : {A : Type 0} → (A → List Part) → Writes A → Type 0
Keeps {A} parts P = (before : List Written) (x : A) (after : List Written) (tokens : List Token) → P before x after tokens → Fit before → Kept parts before x after

abbrev one : Part → List Part
one part = part ∷ []

abbrev second : {L : Type 0} → L × Part → List Part
second x = x.1 ∷ []

abbrev each : {A : Type 0} → (A → List Part) → List A → List Part
each parts [] = []
each parts (x ∷ xs) = parts x ++ each parts xs

each_one : (xs : List Part) → each one xs ≡ xs
each_one [] = refl
each_one (x ∷ xs) = ap (λ (ys : List Part). x ∷ ys) (each_one xs)

each_second : {L : Type 0} (xs : List (L × Part)) → each second xs ≡ map (λ x. x.1) xs
each_second [] = refl
each_second (x ∷ xs) = ap (λ (ys : List Part). x.1 ∷ ys) (each_second xs)

-- one more type
adds : (before between : List Written) (w : Written) (part : Part) (after : List Written) → Fit between → length before ≤ length between → list_all (part_fits (length between)) (parts_of w) ≡ true → notes_fit w ≡ true → Adds between w part after → Kept one before part after
adds before between w part after fit longer parts notes added =
    let size : length after ≡ length between + 1 = ap length added.1 ∙ length-append between (w ∷ []) in
    let more : length between ≤ length after = omega (arith, size) in
    let own : list_all (part_fits (length after)) (parts_of w) ≡ true = parts_longer (length between) (length after) (parts_of w) more parts in
    let old : list_all (written_fits (length after)) between ≡ true = types_longer (length between) (length after) between more fit in
    let new : list_all (written_fits (length after)) (w ∷ []) ≡ true = rw (own, notes) refl in
    let whole : list_all (written_fits (length after)) (between ++ w ∷ []) ≡ true =
    list_all-append (written_fits (length after)) between (w ∷ []) ∙ both (list_all (written_fits (length after)) between) (list_all (written_fits (length after)) (w ∷ [])) old new in
    let below : nat_lt (length between) (length after) ≡ true = grind (arith, size) in
    record {
      fit = subst (λ ts. list_all (written_fits (length after)) ts ≡ true) (sym added.1) whole;
      longer = omega (arith, longer, more);
      each = subst (λ (p : Part). list_all (part_fits (length after)) (p ∷ []) ≡ true) (sym added.0) (rw below refl);
    }

-- nothing more is written
same : {A : Type 0} (parts : A → List Part) (before : List Written) (x : A) (after : List Written) → after ≡ before → Fit before → list_all (part_fits (length before)) (parts x) ≡ true → Kept parts before x after
same parts before x after is fit e = subst (λ ts. Kept parts before x ts) (sym is) (record { fit = fit; longer = omega arith; each = e })

parts_keep : {A : Type 0} (parts : A → List Part) (separator end : Token) (P : ℕ → Writes A) (step : A → ℕ) → ((next : ℕ) → Keeps parts (P next)) → (next : ℕ) → (before : List Written) (xs : List A) (after : List Written) (tokens : List Token)
    → WritesParts separator end P step next before xs after tokens → Fit before → Kept (each parts) before xs after
parts_keep parts separator end P step law next before [] after tokens w fit = same (each parts) before [] after w.0 fit refl
parts_keep parts separator end P step law next before (x ∷ xs) after tokens w fit =
    let k = law next before x w.0 w.1 w.4 fit in
    elim w.5 [
      | inl last ↦
          let own : list_all (part_fits (length w.0)) (parts x ++ each parts xs) ≡ true = parts_append (length w.0) (parts x) (each parts xs) k.each (rw last.0 refl) in
          subst (λ ts. Kept (each parts) before (x ∷ xs) ts) (sym last.1) (record { fit = k.fit; longer = k.longer; each = own })
      | inr more ↦
          let rest = parts_keep parts separator end P step law (step x) w.0 xs after more.0 more.2 k.fit in
          record {
            fit = rest.fit;
            longer = omega (arith, k.longer, rest.longer);
            each = parts_append (length after) (parts x) (each parts xs) (parts_longer (length w.0) (length after) (parts x) rest.longer k.each) rest.each;
          }
    ]

name_keeps : Keeps one WritesName
name_keeps before part after tokens w fit = same one before part after w.4 fit (rw w.1 refl)

labelled_keeps : (P : Writes Part) → Keeps one P → Keeps second (WritesLabelled P)
labelled_keeps P law before field after tokens w fit = let k = law before field.1 after w.1 w.4 fit in record { fit = k.fit; longer = k.longer; each = k.each }

field_keeps : (P : Writes Part) → Keeps one P → (next : ℕ) → Keeps second (WritesField P next)
field_keeps P law next before field after tokens w fit = elim w [
  | inl l ↦ labelled_keeps P law before field after tokens l fit
  | inr alone ↦ let k = law before field.1 after tokens alone.1 fit in record { fit = k.fit; longer = k.longer; each = k.each }
]

case_keeps : (P : Writes Part) → Keeps one P → (next : ℕ) → Keeps second (WritesCase P next)
case_keeps P law next before field after tokens w fit = elim w [
  | inl l ↦ labelled_keeps P law before field after tokens l fit
  | inr alone ↦ same second before field after alone.4 fit (rw alone.3 refl)
]

argument_keeps : (P : Writes Part) → Keeps one P → (next : ℕ) → Keeps one (WritesArgument P next)
argument_keeps P law next before part after tokens w fit = elim w [
  | inl alone ↦ law before part after tokens alone fit
  | inr n ↦ law before part after n.1 n.4 fit
]

method_keeps : (M : Writes Part) → Keeps one M → (next : ℕ) → Keeps second (WritesMethod M next)
method_keeps M law next before method after tokens w fit = let k = law before method.1 after w.1 w.4 fit in record { fit = k.fit; longer = k.longer; each = k.each }

-- the parts of a tuple
abbrev all_of : List Part → List Part
all_of parts = parts

tuple_keeps : (P : Writes Part) → Keeps one P → Keeps all_of (WritesTuple P)
tuple_keeps P law before parts after tokens w fit =
    let k = parts_keep one (mark 44) (mark 41) (WritesArgument P) (λ x. 0) (argument_keeps P law) 0 before parts after w.0 w.2 fit in
    record { fit = k.fit; longer = k.longer; each = subst (λ ps. list_all (part_fits (length after)) ps ≡ true) (each_one parts) k.each }

note_fits : (w : Word) (note : ℕ) → note_of w ≡ Some note → is_note note ≡ true
note_fits (words.Prim p) note e = absurd cc
note_fits words.Float32 note e = absurd cc
note_fits words.Float64 note e = absurd cc
note_fits words.Blob note e = absurd cc
note_fits words.Opt note e = absurd cc
note_fits words.Seq note e = absurd cc
note_fits words.Rec note e = absurd cc
note_fits words.Var note e = absurd cc
note_fits words.Func note e = absurd cc
note_fits words.Service note e = absurd cc
note_fits words.Definition note e = absurd cc
note_fits words.Query note e = let s : 1 ≡ note = cc in subst (λ n. is_note n ≡ true) s refl
note_fits words.Oneway note e = let s : 2 ≡ note = cc in subst (λ n. is_note n ≡ true) s refl
note_fits words.CompositeQuery note e = let s : 3 ≡ note = cc in subst (λ n. is_note n ≡ true) s refl

all_notes : (notes : List ℕ) (tokens : List Token) → WritesNotes notes tokens → list_all is_note notes ≡ true
all_notes [] tokens w = refl
all_notes (note ∷ notes) tokens w = both (is_note note) (list_all is_note notes) (note_fits w.0 note w.3) (all_notes notes w.1 w.4)

function_keeps : (P : Writes Part) → Keeps one P → Keeps one (WritesFunction P)
function_keeps P law before part after tokens w fit =
    let args = tuple_keeps P law before w.args w.between w.front w.has_args fit in
    let results = tuple_keeps P law w.between w.results w.behind w.middle w.has_results args.fit in
    adds before w.behind (Func w.args w.results w.notes) part after results.fit (omega (arith, args.longer, results.longer))
    (parts_append (length w.behind) w.args w.results (parts_longer (length w.between) (length w.behind) w.args results.longer args.each) results.each) (all_notes w.notes w.rest w.has_notes) w.is

fields_keep : (P : ℕ → Writes (ℕ × Part)) (step : ℕ × Part → ℕ) (made : List (ℕ × Part) → Written) → ((next : ℕ) → Keeps second (P next)) → ((fs : List (ℕ × Part)) → (parts_of (made fs) ≡ map (λ f. f.1) fs) × (notes_fit (made fs) ≡ true)) → Keeps one (WritesFields P step made)
fields_keep P step made law shape before part after tokens w fit =
    let k = parts_keep second (mark 59) (mark 125) P step law 0 before w.0 w.1 w.2 w.4 fit in
    let s = shape w.0 in
    adds before w.1 (made w.0) part after k.fit k.longer (subst (λ ps. list_all (part_fits (length w.1)) ps ≡ true) (each_second w.0 ∙ sym s.0) k.each) s.1 w.5

service_keeps : (M : Writes Part) → Keeps one M → Keeps one (WritesService M)
service_keeps M law before part after tokens w fit =
    let k = parts_keep second (mark 59) (mark 125) (WritesMethod M) (λ x. 0) (method_keeps M law) 0 before w.0 w.1 w.2 w.4 fit in
    adds before w.1 (Service w.0) part after k.fit k.longer (subst (λ ps. list_all (part_fits (length w.1)) ps ≡ true) (each_second w.0) k.each) refl w.5

behind_keeps : (P M : Writes Part) → Keeps one P → Keeps one M → (w : Word) → Keeps one (WritesBehind P M w)
behind_keeps P M law laws (words.Prim p) before part after tokens w fit = same one before part after w.1 fit (rw w.0 refl)
behind_keeps P M law laws words.Float32 before part after tokens w fit = same one before part after w.1 fit (rw w.0 refl)
behind_keeps P M law laws words.Float64 before part after tokens w fit = same one before part after w.1 fit (rw w.0 refl)
behind_keeps P M law laws words.Blob before part after tokens w fit = adds before before _ part after fit (omega arith) refl refl w.1
behind_keeps P M law laws words.Opt before part after tokens w fit = let k = law before w.0 w.1 tokens w.2 fit in adds before w.1 (Opt w.0) part after k.fit k.longer k.each refl w.3
behind_keeps P M law laws words.Seq before part after tokens w fit = let k = law before w.0 w.1 tokens w.2 fit in adds before w.1 (Seq w.0) part after k.fit k.longer k.each refl w.3
behind_keeps P M law laws words.Rec before part after tokens w fit = fields_keep (WritesField P) (λ f. suc f.0) (λ fs. Rec fs) (field_keeps P law) (λ fs. (refl, refl)) before part after tokens w fit
behind_keeps P M law laws words.Var before part after tokens w fit = fields_keep (WritesCase P) (λ f. 0) (λ fs. Var fs) (case_keeps P law) (λ fs. (refl, refl)) before part after tokens w fit
behind_keeps P M law laws words.Func before part after tokens w fit = function_keeps P law before part after tokens w fit
behind_keeps P M law laws words.Service before part after tokens w fit = service_keeps M laws before part after tokens w fit
behind_keeps P M law laws words.Definition before part after tokens w fit = absurd w
behind_keeps P M law laws words.Query before part after tokens w fit = absurd w
behind_keeps P M law laws words.Oneway before part after tokens w fit = absurd w
behind_keeps P M law laws words.CompositeQuery before part after tokens w fit = absurd w

mutual
  pub type_keeps : (depth : ℕ) → Keeps one (WritesType depth)
  type_keeps zero before part after tokens w fit = absurd w
  type_keeps (suc depth) before part after tokens w fit = elim w [
    | inl name ↦ name_keeps before part after tokens name fit
    | inr worded ↦ behind_keeps (WritesType depth) (WritesMethodType depth) (type_keeps depth) (method_type_keeps depth) worded.0 before part after worded.1 worded.3 fit
  ]

  pub method_type_keeps : (depth : ℕ) → Keeps one (WritesMethodType depth)
  method_type_keeps zero before part after tokens w fit = absurd w
  method_type_keeps (suc depth) before part after tokens w fit = elim w [
    | inl name ↦ name_keeps before part after tokens name fit
    | inr function ↦ function_keeps (WritesType depth) (type_keeps depth) before part after tokens function fit
  ]

-- ---- files

installed_keeps : Keeps all_of WritesInstalled
installed_keeps before parts after tokens w fit = elim w [
  | inl none ↦ same all_of before parts after none.1 fit (rw none.0 refl)
  | inr t ↦ tuple_keeps (WritesType 128) (type_keeps 128) before parts after t.0 t.2 fit
]

-- all of a file from here on
record FileFits (ds : List (List ℕ × Part)) (before : List Written) (main : Option Main) (after : List Written) : Type 0 where
  pub fit : Fit after
  pub longer : length before ≤ length after
  pub definitions : list_all (part_fits (length after)) (map (λ d. d.1) ds) ≡ true
  pub main_fits : all_in_main (part_fits (length after)) main ≡ true

main_keeps : (before : List Written) (main : Main) (after : List Written) (tokens : List Token) → WritesMain before main after tokens → Fit before → FileFits [] before (Some main) after
main_keeps before main after tokens w fit =
    let tuple = installed_keeps before main.tuple w.between w.tuple w.installed fit in
    let service : Kept one w.between main.service after = elim w.is [
      | inl name ↦ name_keeps w.between main.service after w.type name tuple.fit
      | inr methods ↦ service_keeps (WritesMethodType 128) (method_type_keeps 128) w.between main.service after w.type methods tuple.fit
    ] in
    let alone = both_true (part_fits (length after) main.service) true service.each in
    record {
      fit = service.fit;
      longer = omega (arith, tuple.longer, service.longer);
      definitions = refl;
      main_fits = both (list_all (part_fits (length after)) main.tuple) (part_fits (length after) main.service) (parts_longer (length w.between) (length after) main.tuple service.longer tuple.each) alone.0;
    }

rest_keeps : (before : List Written) (main : Option Main) (after : List Written) (tokens : List Token) → WritesRest before main after tokens → Fit before → FileFits [] before main after
rest_keeps before None after tokens w fit = subst (λ ts. FileFits [] before None ts) (sym w.1) (record { fit = fit; longer = omega arith; definitions = refl; main_fits = refl })
rest_keeps before (Some main) after tokens w fit = main_keeps before main after tokens w fit

file_keeps : (ds : List (List ℕ × Part)) (before : List Written) (main : Option Main) (after : List Written) (tokens : List Token) → WritesFile ds before main after tokens → Fit before → FileFits ds before main after
file_keeps [] before main after tokens w fit = rest_keeps before main after tokens w fit
file_keeps (d ∷ ds) before main after tokens w fit =
    let definition = w.4 in
    let k = type_keeps 128 before d.1 w.0 definition.0 definition.3 fit in
    elim w.5 [
      | inl last ↦
          let own : list_all (part_fits (length w.0)) (map (λ x. x.1) (d ∷ ds)) ≡ true = parts_append (length w.0) (one d.1) (map (λ x. x.1) ds) k.each (rw last.0 refl) in
          subst (λ ts. FileFits (d ∷ ds) before main ts) (sym last.2) (record { fit = k.fit; longer = k.longer; definitions = own; main_fits = rw last.1 refl })
      | inr more ↦
          let rest = file_keeps ds w.0 main after more.0 more.2 k.fit in
          record {
            fit = rest.fit;
            longer = omega (arith, k.longer, rest.longer);
            definitions = parts_append (length after) (one d.1) (map (λ x. x.1) ds) (parts_longer (length w.0) (length after) (one d.1) rest.longer k.each) rest.definitions;
            main_fits = rest.main_fits;
          }
    ]

-- a file that is written fits
pub file_fits : (file : File) (text : List ℕ) → IsFile file text → FitsFile file
file_fits file text is =
    let k = file_keeps file.definitions [] file.main file.types is.tokens is.written refl in
    record { types = k.fit; definitions = k.definitions; main = k.main_fits }
