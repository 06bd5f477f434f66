-- what holds of the places found before, and of each pair inside the tables, holds of all that is found
use Rattle.std.proofs.Common.{◌≡◌, ℕ, ◌<◌, Bool, true, false, not, ◌&&◌, cond, List, [], ◌∷◌, ◌++◌, Option, Some, None, Ordering, length, refl, subst, nat_lt}
use Rattle.std.proofs.lemmas.Bool.{ltb-true}
use Rattle.std.specs.List.{AllByRecursion}
use Rattle.std.specs.Ordering.{nat_cmp}
use Rattle.std.specs.Str.{bytes_eq}
use Rattle.std.specs.Cmp.Lexicographic.{slice_cmp}
use Rattle.cd_types.specs.declared.entry.TyRef.{TyRef}
use Rattle.cd_types.specs.declared.entry.TyRef.TheVariants.{Prim, Index}
use Rattle.cd_types.specs.declared.entry.Entry.{Entry}
use Rattle.cd_types.specs.declared.entry.Entry.TheVariants.{Opt, Seq, Rec, Var, Func, Service}
use Rattle.cd_types.specs.Shape.{shape}
use Rattle.cd_sub.specs.MayMiss.{may_miss}
use Rattle.cd_sub.specs.TypeUnder.{type_under}
use Rattle.cd_sub.specs.Parts.{place_of, verdict, part_at, field_part, case_part, method_part, labelled_parts, sequence_parts, vec_parts, record_parts, variant_parts, func_parts, service_parts, compound_parts, entry_parts}
use Rattle.cd_types.proofs.FaultLemmas.{both_true}
use Rattle.cd_sub.proofs.RuleLemmas.{some_same, then_some, verdict_some, chosen}

-- each pair of entries of the two tables
abbrev pub EachPair : (ℕ → Type 0) → List Entry → List Entry → Bool → Type 0
EachPair P lower upper turned = (i j : ℕ) → i < length lower → j < length upper → P (place_of lower upper turned i j)

pub all_push : (P : ℕ → Type 0) (xs : List ℕ) (x : ℕ) → AllByRecursion P xs → P x → AllByRecursion P (xs ++ x ∷ [])
all_push P [] x all holds = (holds, tt)
all_push P (y ∷ xs) x all holds = (all.0, all_push P xs x all.1 holds)

pub all_front : (P : ℕ → Type 0) (xs : List ℕ) (x : ℕ) → AllByRecursion P (xs ++ x ∷ []) → AllByRecursion P xs × P x
all_front P [] x all = (tt, all.0)
all_front P (y ∷ xs) x all = let rest = all_front P xs x all.1 in ((all.0, rest.0), rest.1)

keep_verdict : (P : ℕ → Type 0) (fits : Bool) (found out : List ℕ) → verdict fits found ≡ Some out → AllByRecursion P found → AllByRecursion P out
keep_verdict P fits found out e all = subst (AllByRecursion P) (verdict_some fits found out e).1 all

keep_test : (P : ℕ → Type 0) (inside fits : Bool) (place : ℕ) (found out : List ℕ) → cond inside (Some (found ++ place ∷ [])) (verdict fits found) ≡ Some out
    → (inside ≡ true → P place) → AllByRecursion P found → AllByRecursion P out
keep_test P true fits place found out e holds all = subst (AllByRecursion P) (some_same _ _ e) (all_push P found place all (holds refl))
keep_test P false fits place found out e holds all = keep_verdict P fits found out e all

pub keep_part : (P : ℕ → Type 0) (lower upper : List Entry) (turned : Bool) → EachPair P lower upper turned
    → (a b : TyRef) (found out : List ℕ) → part_at lower upper turned a b found ≡ Some out → AllByRecursion P found → AllByRecursion P out
keep_part P lower upper turned each (Index i) (Index j) found out e all =
    keep_test P (nat_lt i (length lower) && nat_lt j (length upper)) _ (place_of lower upper turned i j) found out e
    (λ inside. let parts = both_true (nat_lt i (length lower)) _ inside in each i j (ltb-true i (length lower) parts.0) (ltb-true j (length upper) parts.1)) all
keep_part P lower upper turned each (Index i) (Prim q) found out e all = keep_verdict P _ found out e all
keep_part P lower upper turned each (Prim p) b found out e all = keep_verdict P _ found out e all

keep_field : (P : ℕ → Type 0) (lower upper : List Entry) (turned : Bool) → EachPair P lower upper turned
    → (present : Option TyRef) (expected : TyRef) (found out : List ℕ) → field_part lower upper turned present expected found ≡ Some out → AllByRecursion P found → AllByRecursion P out
keep_field P lower upper turned each None expected found out e all = keep_verdict P (may_miss (shape upper expected)) found out e all
keep_field P lower upper turned each (Some type) expected found out e all = keep_part P lower upper turned each type expected found out e all

keep_case : (P : ℕ → Type 0) (lower upper : List Entry) (turned : Bool) → EachPair P lower upper turned
    → (expected : Option TyRef) (type : TyRef) (found out : List ℕ) → case_part lower upper turned expected type found ≡ Some out → AllByRecursion P found → AllByRecursion P out
keep_case P lower upper turned each None type found out e all = cc
keep_case P lower upper turned each (Some expected) type found out e all = keep_part P lower upper turned each type expected found out e all

keep_method : (P : ℕ → Type 0) (lower upper : List Entry) (turned : Bool) → EachPair P lower upper turned
    → (present : Option TyRef) (expected : TyRef) (found out : List ℕ) → method_part lower upper turned present expected found ≡ Some out → AllByRecursion P found → AllByRecursion P out
keep_method P lower upper turned each None expected found out e all = cc
keep_method P lower upper turned each (Some type) expected found out e all = keep_part P lower upper turned each type expected found out e all

keep_labelled : {K : Type 0} (P : ℕ → Type 0) (cmp : K → K → Ordering) (part : Option TyRef → TyRef → List ℕ → Option (List ℕ)) (others : List (K × TyRef))
    → ((o : Option TyRef) (t : TyRef) (found out : List ℕ) → part o t found ≡ Some out → AllByRecursion P found → AllByRecursion P out)
    → (fields : List (K × TyRef)) (found out : List ℕ) → labelled_parts cmp part others fields found ≡ Some out → AllByRecursion P found → AllByRecursion P out
keep_labelled P cmp part others step [] found out e all = subst (AllByRecursion P) (some_same found out e) all
keep_labelled P cmp part others step (field ∷ fields) found out e all =
    let mid = then_some (λ found. labelled_parts cmp part others fields found) (part (type_under cmp field.0 others) field.1 found) out e in
    keep_labelled P cmp part others step fields mid.0 out mid.2 (step _ field.1 found mid.0 mid.1 all)

keep_sequence : (P : ℕ → Type 0) (lower upper : List Entry) (turned : Bool) → EachPair P lower upper turned
    → (types expected : List TyRef) (found out : List ℕ) → sequence_parts lower upper turned types expected found ≡ Some out → AllByRecursion P found → AllByRecursion P out
keep_sequence P lower upper turned each types [] found out e all = subst (AllByRecursion P) (some_same found out e) all
keep_sequence P lower upper turned each [] (t ∷ ts) found out e all =
    let mid = then_some (λ found. sequence_parts lower upper turned [] ts found) (verdict (may_miss (shape upper t)) found) out e in
    keep_sequence P lower upper turned each [] ts mid.0 out mid.2 (keep_verdict P _ found mid.0 mid.1 all)
keep_sequence P lower upper turned each (s ∷ ss) (t ∷ ts) found out e all =
    let mid = then_some (λ found. sequence_parts lower upper turned ss ts found) (part_at lower upper turned s t found) out e in
    keep_sequence P lower upper turned each ss ts mid.0 out mid.2 (keep_part P lower upper turned each s t found mid.0 mid.1 all)

-- the kinds of entries
keep_vec : (P : ℕ → Type 0) (lower upper : List Entry) (turned : Bool) → EachPair P lower upper turned
    → (a : TyRef) (y : Entry) (out : List ℕ) → vec_parts lower upper turned a y ≡ Some out → AllByRecursion P out
keep_vec P lower upper turned each a (Seq b) out e = keep_part P lower upper turned each a b [] out e tt
keep_vec P lower upper turned each a _ out e = cc

keep_record : (P : ℕ → Type 0) (lower upper : List Entry) (turned : Bool) → EachPair P lower upper turned
    → (fs : List (ℕ × TyRef)) (y : Entry) (out : List ℕ) → record_parts lower upper turned fs y ≡ Some out → AllByRecursion P out
keep_record P lower upper turned each fs (Rec gs) out e =
    keep_labelled P nat_cmp (field_part lower upper turned) fs (keep_field P lower upper turned each) gs [] out e tt
keep_record P lower upper turned each fs _ out e = cc

keep_variant : (P : ℕ → Type 0) (lower upper : List Entry) (turned : Bool) → EachPair P lower upper turned
    → (fs : List (ℕ × TyRef)) (y : Entry) (out : List ℕ) → variant_parts lower upper turned fs y ≡ Some out → AllByRecursion P out
keep_variant P lower upper turned each fs (Var gs) out e =
    keep_labelled P nat_cmp (case_part lower upper turned) gs (keep_case P lower upper turned each) fs [] out e tt
keep_variant P lower upper turned each fs _ out e = cc

keep_func : (P : ℕ → Type 0) (lower upper : List Entry) (turned : Bool) → EachPair P lower upper turned → EachPair P upper lower (not turned)
    → (args results : List TyRef) (notes : List ℕ) (y : Entry) (out : List ℕ) → func_parts lower upper turned args results notes y ≡ Some out → AllByRecursion P out
keep_func P lower upper turned each back args results notes (Func args' results' notes') out e =
    let test = chosen (bytes_eq notes notes') _ out e in
    let mid = then_some (λ found. sequence_parts lower upper turned results results' found) (sequence_parts upper lower (not turned) args' args []) out test.1 in
    keep_sequence P lower upper turned each results results' mid.0 out mid.2 (keep_sequence P upper lower (not turned) back args' args [] mid.0 mid.1 tt)
keep_func P lower upper turned each back args results notes _ out e = cc

keep_service : (P : ℕ → Type 0) (lower upper : List Entry) (turned : Bool) → EachPair P lower upper turned
    → (ms : List (List ℕ × TyRef)) (y : Entry) (out : List ℕ) → service_parts lower upper turned ms y ≡ Some out → AllByRecursion P out
keep_service P lower upper turned each ms (Service ns) out e =
    keep_labelled P (slice_cmp nat_cmp) (method_part lower upper turned) ms (keep_method P lower upper turned each) ns [] out e tt
keep_service P lower upper turned each ms _ out e = cc

keep_compound : (P : ℕ → Type 0) (lower upper : List Entry) (turned : Bool) → EachPair P lower upper turned → EachPair P upper lower (not turned)
    → (x y : Entry) (out : List ℕ) → compound_parts lower upper turned x y ≡ Some out → AllByRecursion P out
keep_compound P lower upper turned each back (Opt a) y out e = cc
keep_compound P lower upper turned each back (Seq a) y out e = keep_vec P lower upper turned each a y out e
keep_compound P lower upper turned each back (Rec fs) y out e = keep_record P lower upper turned each fs y out e
keep_compound P lower upper turned each back (Var fs) y out e = keep_variant P lower upper turned each fs y out e
keep_compound P lower upper turned each back (Func args results notes) y out e = keep_func P lower upper turned each back args results notes y out e
keep_compound P lower upper turned each back (Service ms) y out e = keep_service P lower upper turned each ms y out e

pub keep_entry : (P : ℕ → Type 0) (lower upper : List Entry) (turned : Bool) → EachPair P lower upper turned → EachPair P upper lower (not turned)
    → (x y : Entry) (out : List ℕ) → entry_parts lower upper turned x y ≡ Some out → AllByRecursion P out
keep_entry P lower upper turned each back x (Opt type) out e = subst (AllByRecursion P) (some_same [] out e) tt
keep_entry P lower upper turned each back x (Seq b) out e = keep_compound P lower upper turned each back x (Seq b) out e
keep_entry P lower upper turned each back x (Rec gs) out e = keep_compound P lower upper turned each back x (Rec gs) out e
keep_entry P lower upper turned each back x (Var gs) out e = keep_compound P lower upper turned each back x (Var gs) out e
keep_entry P lower upper turned each back x (Func args results notes) out e = keep_compound P lower upper turned each back x (Func args results notes) out e
keep_entry P lower upper turned each back x (Service ns) out e = keep_compound P lower upper turned each back x (Service ns) out e
