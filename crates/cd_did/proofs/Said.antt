-- What is answered of a text is what the text says.
use Rattle.std.proofs.Common.{◌≡◌, ℕ, suc, Bool, true, false, List, [], ◌∷◌, length, map, Option, Some, None, Result, Ok, Err, refl, sym, ap, subst, ◌∙◌, inl, inr, arith}
use Rattle.std.specs.Prelude.{nat_lt, slice_get, option_map, IfOk}
use Rattle.std.specs.List.{list_all}
use Rattle.std.specs.Str.{is_utf8}
use Rattle.std.specs.Cmp.Lexicographic.{slice_cmp}
use Rattle.std.specs.Ordering.{nat_cmp}
use Rattle.std.proofs.lemmas.List.Folds.{list_all-append}
use Rattle.std.proofs.lemmas.List.FromFn.{length-map-range_with_len, get_or-map-range_with_len}
use Rattle.std.proofs.lemmas.Option.{slice_get-get_or}
use Rattle.ic_base.specs.Reader.{◌>>=◌}
use Rattle.ic_base.proofs.Steps.{bind_some, some_is}
use Rattle.cd_types.specs.declared.entry.TyRef.{TyRef}
use Rattle.cd_types.specs.declared.entry.Entry.{Entry}
use Rattle.cd_types.specs.declared.entry.Entry.TheVariants as entries
use Rattle.cd_types.proofs.FaultLemmas.{both_true}
use Rattle.cd_tokens.specs.ReadTokens.{tokens_of}
use Rattle.cd_tokens.proofs.Streams.{tokens_take, tokens_again}
use Rattle.cd_grammar.specs.declared.written.Part.{Part}
use Rattle.cd_grammar.specs.declared.written.Written.{Written}
use Rattle.cd_grammar.specs.declared.written.Written.TheVariants.{Opt, Seq, Rec, Var, Func, Service}
use Rattle.cd_grammar.specs.declared.written.Main.{Main}
use Rattle.cd_grammar.specs.File.{File}
use Rattle.cd_grammar.specs.Fits.{parts_of, all_in_main}
use Rattle.cd_grammar.specs.Grammar.{IsFile}
use Rattle.cd_grammar.specs.Read.{file_at}
use Rattle.cd_grammar.proofs.Files.{file_takes, file_again}
use Rattle.cd_tokens.proofs.Fronts.{true_or_false}
use Rattle.cd_did.specs.declared.fault.DidFault.{DidFault}
use Rattle.cd_did.specs.declared.fault.DidFault.TheVariants.{NotInterface, Float, Repeated, Unbound, Vacuous, Shape, TooMany, NoMemory}
use Rattle.cd_did.specs.declared.fault.Interface.{Interface}
use Rattle.cd_did.specs.Answers.{HasAll, HasTypes, Answers}
use Rattle.cd_did.specs.Denotes.{tuple_of}
use Rattle.cd_did.specs.Faults.{Definitions, is_bound, IsVacuous}
use Rattle.cd_did.specs.Rings.{AreJumps, HasEnds, after_steps, is_named_at, least_from}
use Rattle.cd_did.specs.Targets.{found_at, ref_of, target}
use Rattle.cd_did.specs.Sorted.{row}
use Rattle.cd_did.specs.Entries.{EntryOf, EntriesOf}
use Rattle.cd_did.specs.Interfaces.{HasEnded, service_at, init_at, IsTabled}
use Rattle.cd_did.specs.InterfaceOf.{file_in, ends_of, in_order, entry_of, interface_of, are_formed, fault_of, unless, interface_at, interface_in, IsAnswer}
use Rattle.cd_did.proofs.ApartLemmas.{apart, all_bound}
use Rattle.cd_did.proofs.Ends.{vacuous_found, none_vacuous}
use Rattle.cd_did.proofs.Stands.{Known, found_stands, one_behind}
use Rattle.cd_did.proofs.Interfaces.{known, parts_of_all, bound_at}
use Rattle.cd_did.proofs.RowOrder.{sorted_is, named_is}
use Rattle.cd_did.proofs.Decided.{shaped_is, is_shaped}

-- ---- ends

ends_jump : (defs : Definitions) → AreJumps defs (length defs) (ends_of defs)
ends_jump defs = (
  length-map-range_with_len (after_steps defs (length defs)) 0 (length defs),
  λ i below.
      let many = length-map-range_with_len (after_steps defs (length defs)) 0 (length defs) in
      slice_get-get_or (ends_of defs) i 0 (omega (arith, many, below))
      ∙ ap (λ (n : ℕ). Some n) (get_or-map-range_with_len (after_steps defs (length defs)) 0 (length defs) i i 0 below (omega arith)),
)

pub has_ends : (defs : Definitions) → HasEnds defs (ends_of defs)
has_ends defs = (length defs, omega arith, ends_jump defs)

no_ring : (file : File) → HasTypes file → least_from (is_named_at file.definitions) None (ends_of file.definitions) ≡ None
no_ring file has = by (least_from (is_named_at file.definitions) None (ends_of file.definitions)) refl
  where
    by : (found : Option ℕ) → least_from (is_named_at file.definitions) None (ends_of file.definitions) ≡ found → found ≡ None
    by None e = refl
    by (Some p) e = absurd (has.1 p (vacuous_found file.definitions (apart file.definitions has.0.0.1) (all_bound file has.0.1) (ends_of file.definitions) (has_ends file.definitions) p e))

pub ended : (file : File) → HasTypes file → HasEnded file (ends_of file.definitions)
ended file has = (has, has_ends file.definitions, no_ring file has)

-- the first definition that leads back is one
one_vacuous : (defs : Definitions) (p q : ℕ) → IsVacuous defs p → IsVacuous defs q → p ≡ q
one_vacuous defs p q first second = elim (true_or_false (nat_lt p q)) [
  | inl less ↦ absurd (second.3 p first.0 (grind (arith, less)) first.1 first.2)
  | inr more ↦ elim (true_or_false (nat_lt q p)) [
    | inl less ↦ absurd (first.3 q second.0 (grind (arith, less)) second.1 second.2)
    | inr same ↦ grind (arith, more, same)
  ]
]

ring_is : (file : File) (p : ℕ) → HasAll file → IsVacuous file.definitions p → least_from (is_named_at file.definitions) None (ends_of file.definitions) ≡ Some p
ring_is file p has is = by (least_from (is_named_at file.definitions) None (ends_of file.definitions)) refl
  where
    by : (found : Option ℕ) → least_from (is_named_at file.definitions) None (ends_of file.definitions) ≡ found → found ≡ Some p
    by None e = absurd (none_vacuous file.definitions (apart file.definitions has.0.1) (all_bound file has.1) (ends_of file.definitions) (has_ends file.definitions) e p is)
    by (Some q) e =
        let found = vacuous_found file.definitions (apart file.definitions has.0.1) (all_bound file has.1) (ends_of file.definitions) (has_ends file.definitions) q e in
        ap (λ (n : ℕ). Some n) (one_vacuous file.definitions q p found is)

-- ---- whatever ends, parts stand for the same references

module _ (file : File) (a b : List ℕ) (one : Known file.definitions a) (other : Known file.definitions b) where
  target_is : (part : Part) → is_bound file.definitions part ≡ true → target file.definitions a part ≡ target file.definitions b part
  target_is part bound =
      let x = found_stands file.definitions a one part bound in
      let y = found_stands file.definitions b other part bound in
      ap ref_of (one_behind file.definitions x.stands.1 y.stands.1 part (found_at file.definitions a part) (found_at file.definitions b part) x.stands.0 y.stands.0 x.stands.2 y.stands.2)

  targets_are : (parts : List Part) → list_all (is_bound file.definitions) parts ≡ true → map (target file.definitions a) parts ≡ map (target file.definitions b) parts
  targets_are [] bound = refl
  targets_are (part ∷ parts) bound =
      let both = both_true (is_bound file.definitions part) (list_all (is_bound file.definitions) parts) bound in
      rw (target_is part both.0, targets_are parts both.1) refl

  rows_are : {L : Type 0} (fields : List (L × Part)) → list_all (is_bound file.definitions) (map (λ (f : L × Part). f.1) fields) ≡ true → map (row file.definitions a) fields ≡ map (row file.definitions b) fields
  rows_are [] bound = refl
  rows_are {L} (f ∷ fields) bound =
      let both = both_true (is_bound file.definitions f.1) (list_all (is_bound file.definitions) (map (λ (f : L × Part). f.1) fields)) bound in
      let first : row file.definitions a f ≡ row file.definitions b f = ap (λ (r : TyRef). (f.0, r)) (target_is f.1 both.0) in
      rw (first, rows_are fields both.1) refl

  entry_is : (w : Written) (entry : Entry) → list_all (is_bound file.definitions) (parts_of w) ≡ true → EntryOf file a w entry → entry ≡ entry_of file.definitions b w
  entry_is (Opt part) entry bound of = of ∙ ap (λ (r : TyRef). entries.Opt r) (target_is part (both_true (is_bound file.definitions part) true bound).0)
  entry_is (Seq part) entry bound of = of ∙ ap (λ (r : TyRef). entries.Seq r) (target_is part (both_true (is_bound file.definitions part) true bound).0)
  entry_is (Rec fields) entry bound of =
      of.1 ∙ ap (λ (rows : List (ℕ × TyRef)). entries.Rec rows) (sorted_is (map (row file.definitions a) fields) of.0 of.2 ∙ ap (in_order nat_cmp) (rows_are fields bound))
  entry_is (Var cases) entry bound of =
      of.1 ∙ ap (λ (rows : List (ℕ × TyRef)). entries.Var rows) (sorted_is (map (row file.definitions a) cases) of.0 of.2 ∙ ap (in_order nat_cmp) (rows_are cases bound))
  entry_is (Func args results notes) entry bound of =
      let both = both_true (list_all (is_bound file.definitions) args) (list_all (is_bound file.definitions) results) (sym (list_all-append (is_bound file.definitions) args results) ∙ bound) in
      of ∙ ap (λ (rs : List TyRef). entries.Func rs (map (target file.definitions a) results) notes) (targets_are args both.0)
      ∙ ap (λ (rs : List TyRef). entries.Func (map (target file.definitions b) args) rs notes) (targets_are results both.1)
  entry_is (Service methods) entry bound of =
      of.1 ∙ ap (λ (rows : List (List ℕ × TyRef)). entries.Service rows) (named_is (map (row file.definitions a) methods) of.0 of.2 ∙ ap (in_order (slice_cmp nat_cmp)) (rows_are methods bound))

-- entries that are each what a function gives
all_are : {A B : Type 0} (f : A → B) (xs : List A) (ys : List B) → length ys ≡ length xs → ((i : ℕ) (x : A) → slice_get xs i ≡ Some x → slice_get ys i ≡ Some (f x)) → ys ≡ map f xs
all_are f [] [] many each = refl
all_are f [] (y ∷ ys) many each = absurd (omega (arith, many))
all_are f (x ∷ xs) [] many each = absurd (omega (arith, many))
all_are {A} {B} f (x ∷ xs) (y ∷ ys) many each =
    let first : y ≡ f x = some_is {A = B} y (f x) (each 0 x refl) in
    rw (first, all_are f xs ys (omega (arith, many)) (λ i z at. each (suc i) z at)) refl

table_is : (file : File) (ends : List ℕ) (made : List Entry) → HasEnded file ends → EntriesOf file ends made → made ≡ map (entry_of file.definitions (ends_of file.definitions)) file.types
table_is file ends made has of =
    let one = known file ends has in
    let other = known file (ends_of file.definitions) (ended file has.0) in
    all_are (entry_of file.definitions (ends_of file.definitions)) file.types made of.0 (λ i w at.
    let found = of.1 i w at in
    found.1 ∙ ap (λ (e : Entry). Some e) (entry_is file ends (ends_of file.definitions) one other w found.0 (bound_at file has.0 i w at) found.2))

service_is : (file : File) (ends : List ℕ) (main : Option Main) → HasEnded file ends → all_in_main (is_bound file.definitions) main ≡ true
    → option_map (λ (m : Main). target file.definitions ends m.service) main ≡ option_map (λ (m : Main). target file.definitions (ends_of file.definitions) m.service) main
service_is file ends None has bound = refl
service_is file ends (Some main) has bound =
    ap (λ (r : TyRef). Some r) (target_is file ends (ends_of file.definitions) (known file ends has) (known file (ends_of file.definitions) (ended file has.0)) main.service
    (both_true (list_all (is_bound file.definitions) main.tuple) (is_bound file.definitions main.service) bound).1)

init_is : (file : File) (ends : List ℕ) (main : Option Main) → HasEnded file ends → all_in_main (is_bound file.definitions) main ≡ true → map (target file.definitions ends) (tuple_of main) ≡ map (target file.definitions (ends_of file.definitions)) (tuple_of main)
init_is file ends None has bound = refl
init_is file ends (Some main) has bound =
    targets_are file ends (ends_of file.definitions) (known file ends has) (known file (ends_of file.definitions) (ended file has.0)) main.tuple
    (both_true (list_all (is_bound file.definitions) main.tuple) (is_bound file.definitions main.service) bound).0

abbrev made_of : List Entry → Option TyRef → List TyRef → Interface
made_of table service init = record { table = table; service = service; init = init }

-- the interface that is made is the file's
pub interface_is : (file : File) (ends : List ℕ) (made : List Entry) (result : Result Interface DidFault) → HasEnded file ends → EntriesOf file ends made → IsTabled file ends made result → IfOk result (λ interface. interface ≡ interface_of file)
interface_is file ends made (Ok interface) has of tabled =
    let bound = (parts_of_all (is_bound file.definitions) file has.0.0.1).2 in
    let own = ends_of file.definitions in
    tabled.0
    ∙ ap (λ (t : List Entry). made_of t (service_at file ends) (init_at file ends)) (table_is file ends made has of)
    ∙ ap (λ (s : Option TyRef). made_of (map (entry_of file.definitions own) file.types) s (init_at file ends)) (service_is file ends file.main has bound)
    ∙ ap (made_of (map (entry_of file.definitions own) file.types) (service_at file own)) (init_is file ends file.main has bound)
interface_is file ends made (Err fault) has of tabled = tt

-- ---- what is answered of a file is what it says

formed_false : (file : File) → HasTypes file → (b : Bool) → are_formed file (ends_of file.definitions) ≡ b → (b ≡ true → ⊥) → are_formed file (ends_of file.definitions) ≡ false
formed_false file has true e never = absurd (never refl)
formed_false file has false e never = e

pub answer_is : (file : File) (result : Result Interface DidFault) → Answers file result → IfOk result (λ interface. interface ≡ interface_of file) → IsAnswer result (unless (fault_of file) (interface_of file))
unfolding fault_of
answer_is file (Ok interface) has made =
    let types = has.0.0 in
    let few : nat_lt 10000 (length file.types) ≡ false = grind (arith, has.1) in
    let formed = is_shaped file (ends_of file.definitions) (ended file types) has.0.1 in
    rw (types.0.0.0, types.0.0.1, types.0.1, no_ring file types, formed, few) (ap (λ (i : Interface). Ok i) (sym made))
answer_is file (Err NotInterface) has made = absurd has
answer_is file (Err Float) has made = rw has refl
answer_is file (Err (Repeated place)) has made = rw (has.0, has.1) refl
answer_is file (Err Unbound) has made = rw (has.0.0, has.0.1, has.1) refl
answer_is file (Err (Vacuous place)) has made = rw (has.0.0.0, has.0.0.1, has.0.1, ring_is file place has.0 has.1) refl
answer_is file (Err Shape) has made =
    let types = has.0 in
    let unformed = formed_false file types (are_formed file (ends_of file.definitions)) refl (λ e. has.1 (shaped_is file (ends_of file.definitions) (ended file types) e)) in
    rw (types.0.0.0, types.0.0.1, types.0.1, no_ring file types, unformed) refl
answer_is file (Err TooMany) has made =
    let types = has.0.0 in
    let many : nat_lt 10000 (length file.types) ≡ true = grind (arith, has.1) in
    let formed = is_shaped file (ends_of file.definitions) (ended file types) has.0.1 in
    rw (types.0.0.0, types.0.0.1, types.0.1, no_ring file types, formed, many) refl
answer_is file (Err NoMemory) has made = tt

-- ---- the file of a text

pub file_found : (text : List ℕ) (file : File) → file_in text ≡ Some file → IsFile file text
unfolding file_in
file_found text file e = elim (true_or_false (is_utf8 text)) [
  | inr bad ↦ let f : None ≡ Some file = rw bad at e in absurd cc
  | inl utf8 ↦
      let f : (tokens_of true text >>= file_at) ≡ Some file = rw utf8 at e in
      let read = bind_some (tokens_of true text) file_at file f in
      record { tokens = read.0; utf8 = utf8; lexed = tokens_take true text read.0 read.1; written = file_takes read.0 file read.2 }
]

pub file_is : (text : List ℕ) (file : File) → IsFile file text → file_in text ≡ Some file
unfolding file_in
file_is text file is = rw (is.utf8, tokens_again true text is.tokens is.lexed) (file_again file is.tokens is.written)

no_file : (text : List ℕ) → ((file : File) → IsFile file text → ⊥) → file_in text ≡ None
no_file text never = by (file_in text) refl
  where
    by : (found : Option File) → file_in text ≡ found → found ≡ None
    by None e = refl
    by (Some file) e = absurd (never file (file_found text file e))

pub text_is : (text : List ℕ) (file : File) (result : Result Interface DidFault) → IsFile file text → Answers file result → IfOk result (λ interface. interface ≡ interface_of file) → IsAnswer result (interface_in text)
unfolding interface_in
text_is text file result is has made = subst (λ (f : Option File). IsAnswer result (interface_at f)) (sym (file_is text file is)) (answer_is file result has made)

pub text_is_none : (text : List ℕ) → ((file : File) → IsFile file text → ⊥) → interface_in text ≡ Err NotInterface
unfolding interface_in
text_is_none text never = ap interface_at (no_file text never)
