-- What is answered of a file that has ends.
use Rattle.std.proofs.Common.{◌≡◌, ℕ, zero, suc, ◌≤◌, ◌<◌, ◌^◌, Bool, true, false, List, [], ◌∷◌, length, map, Option, Some, None, Result, Ok, Err, refl, sym, subst, ◌∙◌, inl, inr, arith}
use Rattle.std.specs.Prelude.{◌&&◌, nat_lt, nat_le, slice_get, IsTrue, IfOk, IfSome, option_map}
use Rattle.std.specs.List.{list_all, AllByRecursion}
use Rattle.cd_types.specs.declared.entry.TyRef.{TyRef}
use Rattle.cd_types.specs.declared.entry.TyRef.TheVariants as refs
use Rattle.cd_types.specs.declared.entry.Entry.{Entry}
use Rattle.cd_types.specs.IsInside.{is_inside}
use Rattle.cd_types.specs.IsTable.{is_table}
use Rattle.cd_types.proofs.FaultLemmas.{both_true}
use Rattle.cd_types.proofs.EntryLemmas.{test_at}
use Rattle.ic_base.proofs.Steps.{some_is}
use Rattle.cd_grammar.specs.declared.written.Part.{Part}
use Rattle.cd_grammar.specs.declared.written.Part.TheVariants.{Place}
use Rattle.cd_grammar.specs.declared.written.Written.{Written}
use Rattle.cd_grammar.specs.declared.written.Written.TheVariants.{Opt, Seq, Rec, Var, Func, Service}
use Rattle.cd_grammar.specs.declared.written.Main.{Main}
use Rattle.cd_grammar.specs.File.{File}
use Rattle.cd_did.specs.declared.fault.DidFault.{DidFault}
use Rattle.cd_did.specs.declared.fault.DidFault.TheVariants.{NotInterface, Float, Repeated, Unbound, Vacuous, Shape, TooMany, NoMemory}
use Rattle.cd_did.specs.declared.fault.Interface.{Interface}
use Rattle.cd_did.specs.Faults.{all_parts, is_no_float, is_bound, is_func, is_service, Is, IsShaped, IsMainShaped, AreShaped}
use Rattle.cd_grammar.specs.Fits.{parts_of, all_in_main}
use Rattle.cd_did.specs.Answers.{HasTypes, Answers}
use Rattle.cd_did.specs.Targets.{place_ref, target}
use Rattle.cd_did.specs.Entries.{is_method, EntriesOf}
use Rattle.cd_did.specs.Formed.{IsFormed, AllFormed, is_served}
use Rattle.cd_grammar.specs.Fits.{part_fits, notes_fit, written_fits, FitsFile}
use Rattle.cd_did.specs.Denotes.{Denotes, StandsFor, MainStands, FileStands}
use Rattle.cd_did.specs.Interfaces.{HasEnded, service_at, IsTabled, IsWithin}
use Rattle.cd_tokens.proofs.Fronts.{true_or_false}
use Rattle.cd_did.proofs.ApartLemmas.{apart, all_bound}
use Rattle.cd_did.proofs.Stands.{Known, Fine, is_fine, is_decided, decided_is, AreLike, all_like, all_stand}
use Rattle.cd_did.proofs.Tables.{Whole, made_table, target_within, all_wider}

abbrev Row : Type 0
Row = List ℕ × Part

pub known : (file : File) (ends : List ℕ) → HasEnded file ends → Known file.definitions ends
known file ends has = record { apart = apart file.definitions has.0.0.0.1; bound = all_bound file has.0.0.1; has = has.1; none = has.2 }

-- ---- three tests are one

three : (file : File) (parts : List Part) → list_all (is_bound file.definitions) parts ≡ true → list_all is_no_float parts ≡ true → list_all (part_fits (length file.types)) parts ≡ true → list_all (is_fine file) parts ≡ true
three file [] a b c = refl
three file (p ∷ parts) a b c =
    let x = both_true (is_bound file.definitions p) (list_all (is_bound file.definitions) parts) a in
    let y = both_true (is_no_float p) (list_all is_no_float parts) b in
    let z = both_true (part_fits (length file.types) p) (list_all (part_fits (length file.types)) parts) c in
    rw (x.0, y.0, z.0, three file parts x.1 y.1 z.1) refl

types_fine : (file : File) (types : List Written) → list_all (λ w. list_all (is_bound file.definitions) (parts_of w)) types ≡ true → list_all (λ w. list_all is_no_float (parts_of w)) types ≡ true
    → list_all (λ w. list_all (part_fits (length file.types)) (parts_of w)) types ≡ true → list_all (λ w. list_all (is_fine file) (parts_of w)) types ≡ true
types_fine file [] a b c = refl
types_fine file (w ∷ types) a b c =
    let x = both_true (list_all (is_bound file.definitions) (parts_of w)) (list_all (λ w. list_all (is_bound file.definitions) (parts_of w)) types) a in
    let y = both_true (list_all is_no_float (parts_of w)) (list_all (λ w. list_all is_no_float (parts_of w)) types) b in
    let z = both_true (list_all (part_fits (length file.types)) (parts_of w)) (list_all (λ w. list_all (part_fits (length file.types)) (parts_of w)) types) c in
    rw (three file (parts_of w) x.0 y.0 z.0, types_fine file types x.1 y.1 z.1) refl

definitions_fine : (file : File) (defs : List Row) → list_all (λ d. is_bound file.definitions d.1) defs ≡ true → list_all (λ d. is_no_float d.1) defs ≡ true → list_all (part_fits (length file.types)) (map (λ d. d.1) defs) ≡ true → list_all (λ d. is_fine file d.1) defs ≡ true
definitions_fine file [] a b c = refl
definitions_fine file (d ∷ defs) a b c =
    let x = both_true (is_bound file.definitions d.1) (list_all (λ d. is_bound file.definitions d.1) defs) a in
    let y = both_true (is_no_float d.1) (list_all (λ (d : Row). is_no_float d.1) defs) b in
    let z = both_true (part_fits (length file.types) d.1) (list_all (part_fits (length file.types)) (map (λ (d : Row). d.1) defs)) c in
    rw (x.0, y.0, z.0, definitions_fine file defs x.1 y.1 z.1) refl

-- the tests of all parts of a file
pub parts_of_all : (test : Part → Bool) (file : File) → all_parts test file ≡ true → (list_all (λ w. list_all test (parts_of w)) file.types ≡ true) × (list_all (λ d. test d.1) file.definitions ≡ true) × (all_in_main test file.main ≡ true)
parts_of_all test file e =
    let x = both_true (list_all (λ w. list_all test (parts_of w)) file.types) (list_all (λ (d : Row). test d.1) file.definitions && all_in_main test file.main) e in
    let y = both_true (list_all (λ (d : Row). test d.1) file.definitions) (all_in_main test file.main) x.1 in
    (x.0, y.0, y.1)

-- ---- what is known of a file without a fault up to here

main_fine : (file : File) (main : Option Main) → all_in_main (is_bound file.definitions) main ≡ true → all_in_main is_no_float main ≡ true → all_in_main (part_fits (length file.types)) main ≡ true → all_in_main (is_fine file) main ≡ true
main_fine file None a b c = refl
main_fine file (Some main) a b c =
    let x = both_true (list_all (is_bound file.definitions) main.tuple) (is_bound file.definitions main.service) a in
    let y = both_true (list_all is_no_float main.tuple) (is_no_float main.service) b in
    let z = both_true (list_all (part_fits (length file.types)) main.tuple) (part_fits (length file.types) main.service) c in
    rw (three file main.tuple x.0 y.0 z.0, x.1, y.1, z.1) refl

types_fit : (n : ℕ) (types : List Written) → list_all (written_fits n) types ≡ true → list_all (λ w. list_all (part_fits n) (parts_of w)) types ≡ true
types_fit n types e = all_wider (written_fits n) (λ w. list_all (part_fits n) (parts_of w)) types (λ w fits. (both_true (list_all (part_fits n) (parts_of w)) (notes_fit w) fits).0) e

-- the parts of the file are fine, those of its service too
pub fine : (file : File) → HasTypes file → FitsFile file → Fine file × (all_in_main (is_fine file) file.main ≡ true)
fine file has fits =
    let bound = parts_of_all (is_bound file.definitions) file has.0.1 in
    let floats = parts_of_all is_no_float file has.0.0.0 in (
      record {
        types = types_fine file file.types bound.0 floats.0 (types_fit (length file.types) file.types fits.types);
        definitions = definitions_fine file file.definitions bound.1 floats.1 fits.definitions;
      },
      main_fine file file.main bound.2 floats.2 fits.main,
    )

whole : (file : File) (ends : List ℕ) (made : List Entry) → HasEnded file ends → FitsFile file → EntriesOf file ends made → length file.types ≤ 10000 → Whole file ends made
whole file ends made has fits of few = record { known = known file ends has; fine = (fine file has.0 fits).0; fit = fits.types; of = of; few = few }

-- ---- shapes

there_each : {A : Type 0} (P : A → Type 0) (xs : List A) → ((i : ℕ) (x : A) → slice_get xs i ≡ Some x → P x) → AllByRecursion P xs
there_each P [] each = tt
there_each P (x ∷ xs) each = (each 0 x refl, there_each P xs (λ i y at. each (suc i) y at))

each_there : {A : Type 0} (P : A → Type 0) (xs : List A) → AllByRecursion P xs → (i : ℕ) (x : A) → slice_get xs i ≡ Some x → P x
each_there P [] all i x at = absurd cc
each_there {A} P (x ∷ xs) all zero y at = subst P (some_is {A = A} x y at) all.0
each_there P (x ∷ xs) all (suc i) y at = each_there P xs all.1 i y at

methods_are : (file : File) (ends : List ℕ) → Known file.definitions ends → (methods : List (List ℕ × Part)) → list_all (is_bound file.definitions) (map (λ m. m.1) methods) ≡ true → list_all (λ m. is_method file ends m.1) methods ≡ true
    → AllByRecursion (λ m. Is is_func file m.1) methods
methods_are file ends known [] bound e = tt
methods_are file ends known (m ∷ methods) bound e =
    let b = both_true (is_bound file.definitions m.1) (list_all (is_bound file.definitions) (map (λ (x : Row). x.1) methods)) bound in
    let h = both_true (is_method file ends m.1) (list_all (λ (x : Row). is_method file ends x.1) methods) e in
    (decided_is is_func file ends known m.1 b.0 h.0, methods_are file ends known methods b.1 h.1)

are_methods : (file : File) (ends : List ℕ) → Known file.definitions ends → (methods : List (List ℕ × Part)) → list_all (is_bound file.definitions) (map (λ m. m.1) methods) ≡ true → AllByRecursion (λ m. Is is_func file m.1) methods
    → list_all (λ m. is_method file ends m.1) methods ≡ true
are_methods file ends known [] bound all = refl
are_methods file ends known (m ∷ methods) bound all =
    let b = both_true (is_bound file.definitions m.1) (list_all (is_bound file.definitions) (map (λ (x : Row). x.1) methods)) bound in
    rw (is_decided is_func file ends known m.1 b.0 all.0, are_methods file ends known methods b.1 all.1) refl

one_shaped : (file : File) (ends : List ℕ) → Known file.definitions ends → (w : Written) → list_all (is_bound file.definitions) (parts_of w) ≡ true → IsFormed file ends w → IsShaped file w
one_shaped file ends known (Opt part) bound formed = tt
one_shaped file ends known (Seq part) bound formed = tt
one_shaped file ends known (Rec fields) bound formed = formed
one_shaped file ends known (Var cases) bound formed = formed
one_shaped file ends known (Func args results notes) bound formed = tt
one_shaped file ends known (Service methods) bound formed = (formed.0, methods_are file ends known methods bound formed.1)

one_formed : (file : File) (ends : List ℕ) → Known file.definitions ends → (w : Written) → list_all (is_bound file.definitions) (parts_of w) ≡ true → IsShaped file w → IsFormed file ends w
one_formed file ends known (Opt part) bound shaped = tt
one_formed file ends known (Seq part) bound shaped = tt
one_formed file ends known (Rec fields) bound shaped = shaped
one_formed file ends known (Var cases) bound shaped = shaped
one_formed file ends known (Func args results notes) bound shaped = tt
one_formed file ends known (Service methods) bound shaped = (shaped.0, are_methods file ends known methods bound shaped.1)

pub bound_at : (file : File) → HasTypes file → (i : ℕ) (w : Written) → slice_get file.types i ≡ Some w → list_all (is_bound file.definitions) (parts_of w) ≡ true
bound_at file has i w at = test_at (λ x. list_all (is_bound file.definitions) (parts_of x)) file.types i w (parts_of_all (is_bound file.definitions) file has.0.1).0 at

pub all_formed : (file : File) (ends : List ℕ) → HasEnded file ends → AreShaped file → AllFormed file ends
all_formed file ends has shaped i w at = one_formed file ends (known file ends has) w (bound_at file has.0 i w at) (each_there (IsShaped file) file.types shaped.0 i w at)

main_bound : (file : File) (main : Main) → all_in_main (is_bound file.definitions) (Some main) ≡ true → is_bound file.definitions main.service ≡ true
main_bound file main e = (both_true (list_all (is_bound file.definitions) main.tuple) (is_bound file.definitions main.service) e).1

served_main : (file : File) (ends : List ℕ) → Known file.definitions ends → (main : Option Main) → all_in_main (is_bound file.definitions) main ≡ true → IsMainShaped file main → is_served file ends main ≡ true
served_main file ends known None bound shaped = refl
served_main file ends known (Some main) bound shaped = is_decided is_service file ends known main.service (main_bound file main bound) shaped

main_served : (file : File) (ends : List ℕ) → Known file.definitions ends → (main : Option Main) → all_in_main (is_bound file.definitions) main ≡ true → is_served file ends main ≡ true → IsMainShaped file main
main_served file ends known None bound e = tt
main_served file ends known (Some main) bound e = decided_is is_service file ends known main.service (main_bound file main bound) e

pub all_served : (file : File) (ends : List ℕ) → HasEnded file ends → AreShaped file → is_served file ends file.main ≡ true
all_served file ends has shaped = served_main file ends (known file ends has) file.main (parts_of_all (is_bound file.definitions) file has.0.0.1).2 shaped.1

pub all_shaped : (file : File) (ends : List ℕ) → HasEnded file ends → AllFormed file ends → is_served file ends file.main ≡ true → AreShaped file
all_shaped file ends has formed served = (
  there_each (IsShaped file) file.types (λ i w at. one_shaped file ends (known file ends has) w (bound_at file has.0 i w at) (formed i w at)),
  main_served file ends (known file ends has) file.main (parts_of_all (is_bound file.definitions) file has.0.0.1).2 served,
)

-- ---- the interface

place_stands : (file : File) (ends : List ℕ) (made : List Entry) → HasEnded file ends → FitsFile file → AreLike file ends made → length file.types ≤ 10000 → (place : ℕ) → place < length file.types → StandsFor file made (Place place) (refs.Index place)
place_stands file ends made has fits of few place below n =
    let small : nat_lt place (2 ^ 32) ≡ true = grind (arith, below, few) in
    let own : nat_lt place (length file.types) ≡ true = grind (arith, below) in
    let is : place_ref place ≡ refs.Index place = rw small refl in
    subst (λ (r : TyRef). Denotes n file made (Place place) r) is (all_stand n file ends made (known file ends has) (fine file has.0 fits).0 of few (Place place) (rw own refl))

main_stands : (file : File) (ends : List ℕ) (made : List Entry) → HasEnded file ends → FitsFile file → AreLike file ends made → length file.types ≤ 10000 → (main : Option Main) → all_in_main (is_fine file) main ≡ true
    → MainStands file made main (option_map (λ (m : Main). target file.definitions ends m.service) main)
main_stands file ends made has fits of few None e = tt
main_stands file ends made has fits of few (Some main) e = λ n.
    all_stand n file ends made (known file ends has) (fine file has.0 fits).0 of few main.service (both_true (list_all (is_fine file) main.tuple) (is_fine file main.service) e).1

main_within : (file : File) (ends : List ℕ) → HasEnded file ends → FitsFile file → length file.types ≤ 10000 → (main : Option Main) → all_in_main (is_fine file) main ≡ true
    → IfSome (option_map (λ (m : Main). target file.definitions ends m.service) main) (λ r. IsTrue (is_inside (length file.types) r))
main_within file ends has fits few None e = tt
main_within file ends has fits few (Some main) e =
    target_within file ends (known file ends has) (fine file has.0 fits).0 few main.service (both_true (list_all (is_fine file) main.tuple) (is_fine file main.service) e).1

-- what is made of a file stands for it
pub made_stands : (file : File) (ends : List ℕ) (made : List Entry) → HasEnded file ends → FitsFile file → length made ≡ length file.types → AreLike file ends made → length file.types ≤ 10000
    → FileStands file made (service_at file ends) × IfSome (service_at file ends) (λ r. IsTrue (is_inside (length made) r))
made_stands file ends made has fits size like few =
    let main_fine = (fine file has.0 fits).1 in (
      record { types = place_stands file ends made has fits like few; main = main_stands file ends made has fits like few file.main main_fine },
      subst (λ (n : ℕ). IfSome (service_at file ends) (λ r. IsTrue (is_inside n r))) (sym size) (main_within file ends has fits few file.main main_fine),
    )

-- a table's entries are few
few_made : (file : File) (ends : List ℕ) (made : List Entry) → EntriesOf file ends made → is_table made ≡ true → length file.types ≤ 10000
few_made file ends made of e =
    let few = (both_true (nat_le (length made) 10000) _ e).0 in
    let size = of.0 in
    grind (arith, few, size)

pub answered : (file : File) (ends : List ℕ) (made : List Entry) (result : Result Interface DidFault) → HasEnded file ends → FitsFile file → EntriesOf file ends made × AllFormed file ends → is_served file ends file.main ≡ true
    → IsTabled file ends made result → Answers file result × IfOk result IsWithin
answered file ends made (Ok interface) has fits of served tabled =
    let few = few_made file ends made of.0 tabled.1 in
    let m = made_stands file ends made has fits of.0.0 (all_like file ends made of.0) few in
    subst (λ (i : Interface). Answers file (Ok i) × IsWithin i) (sym tabled.0) (((has.0, all_shaped file ends has of.1 served), few, m.0), m.1)
answered file ends made (Err TooMany) has fits of served tabled =
    let many : 10000 < length file.types = elim (true_or_false (nat_lt 10000 (length file.types))) [
      | inl more ↦ grind (arith, more)
      | inr few ↦
          let table : is_table made ≡ true = made_table file ends made (whole file ends made has fits of.0 (grind (arith, few))) in
          let f : true ≡ false = sym table ∙ tabled in
          absurd cc
    ] in
    (((has.0, all_shaped file ends has of.1 served), many), tt)
answered file ends made (Err NoMemory) has fits of served tabled = (tt, tt)
answered file ends made (Err NotInterface) has fits of served tabled = absurd tabled
answered file ends made (Err Float) has fits of served tabled = absurd tabled
answered file ends made (Err (Repeated place)) has fits of served tabled = absurd tabled
answered file ends made (Err Unbound) has fits of served tabled = absurd tabled
answered file ends made (Err (Vacuous place)) has fits of served tabled = absurd tabled
answered file ends made (Err Shape) has fits of served tabled = absurd tabled
