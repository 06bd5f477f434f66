-- the rules of two entries are the parts that they leave to show
use Rattle.std.proofs.Common.{◌≡◌, inl, inr, ℕ, Bool, true, false, not, cond, List, [], ◌∷◌, Option, Some, None, Ordering, ◌==◌, refl, sym, ◌∙◌, ap, subst}
use Rattle.std.proofs.lemmas.Bool.{eqb-true}
use Rattle.std.proofs.lemmas.Cmp.{nat_list_eq_equiv}
use Rattle.std.specs.List.{AllByRecursion}
use Rattle.std.specs.Option.{option_and_then}
use Rattle.std.specs.Ordering.{nat_cmp}
use Rattle.std.specs.Str.{bytes_eq}
use Rattle.std.specs.Cmp.Lexicographic.{slice_cmp}
use Rattle.cd_types.specs.declared.entry.TyRef.{TyRef}
use Rattle.cd_types.specs.declared.entry.Entry.{Entry}
use Rattle.cd_types.specs.declared.entry.Entry.TheVariants.{Opt, Seq, Rec, Var, Func, Service}
use Rattle.cd_types.proofs.FaultLemmas.{both_true}
use Rattle.cd_types.specs.Shape.{Shape, primitive, compound, shape}
use Rattle.cd_sub.specs.MayMiss.{may_miss}
use Rattle.cd_sub.specs.TypeUnder.{type_under}
use Rattle.cd_sub.specs.Rule.{Rule, same, nat_int, reserved, empty, opt, vec, record_of, variant_of, func, service, HasField, HasCase, HasMethod, Sequence}
use Rattle.cd_sub.specs.Parts.{verdict, part_at, field_part, case_part, method_part, labelled_parts, sequence_parts, vec_parts, record_parts, variant_parts, func_parts, service_parts, compound_parts, entry_parts}
use Rattle.cd_types.specs.declared.primitive.Primitive.{Primitive}

-- equal lists of bytes
bytes_same : (xs ys : List ℕ) → bytes_eq xs ys ≡ true → xs ≡ ys
bytes_same [] [] e = refl
bytes_same [] (y ∷ ys) e = cc
bytes_same (x ∷ xs) [] e = cc
bytes_same (x ∷ xs) (y ∷ ys) e =
    let parts = both_true (x == y) (bytes_eq xs ys) e in
    let first = eqb-true x y parts.0 in let rest = bytes_same xs ys parts.1 in cc

bytes_itself : (xs : List ℕ) → bytes_eq xs xs ≡ true
bytes_itself xs = nat_list_eq_equiv.refl xs

-- of the parts found, those before were, and the two types are so related
abbrev pub Up : (ℕ → Type 0) → List Entry → List Entry → Bool → (TyRef → TyRef → Type 0) → Type 0
Up P lower upper turned R =
    (a b : TyRef) (found out : List ℕ) → part_at lower upper turned a b found ≡ Some out → AllByRecursion P out → R a b × AllByRecursion P found

-- what is found from here on, with all of it shown
abbrev pub Found : (ℕ → Type 0) → Option (List ℕ) → Type 0
Found P parts = (out : List ℕ) × (parts ≡ Some out) × AllByRecursion P out

-- two types that are so related leave parts that are shown
abbrev pub Down : (ℕ → Type 0) → List Entry → List Entry → Bool → (TyRef → TyRef → Type 0) → Type 0
Down P lower upper turned R =
    (a b : TyRef) (found : List ℕ) → R a b → AllByRecursion P found → Found P (part_at lower upper turned a b found)

-- a value that comes of two steps
pub then_some : {A B : Type 0} (f : A → Option B) (o : Option A) (y : B) → option_and_then f o ≡ Some y → (x : A) × (o ≡ Some x) × (f x ≡ Some y)
then_some f None y e = cc
then_some f (Some x) y e = (x, refl, e)

pub verdict_some : (fits : Bool) (found out : List ℕ) → verdict fits found ≡ Some out → (fits ≡ true) × (found ≡ out)
verdict_some true found out e = (refl, let k : found ≡ out = cc in k)
verdict_some false found out e = cc

pub verdict_true : (P : ℕ → Type 0) (fits : Bool) (found : List ℕ) → fits ≡ true → AllByRecursion P found → Found P (verdict fits found)
verdict_true P fits found e all = (found, ap (λ b. verdict b found) e, all)

pub some_same : {A : Type 0} (x y : A) → Some x ≡ Some y → x ≡ y
some_same x y e = cc

-- each labelled type leaves its parts
labelled_up : {K : Type 0} (P : ℕ → Type 0) (cmp : K → K → Ordering) (part : Option TyRef → TyRef → List ℕ → Option (List ℕ)) (others : List (K × TyRef)) (Has : K × TyRef → Type 0)
    → ((field : K × TyRef) (found out : List ℕ) → part (type_under cmp field.0 others) field.1 found ≡ Some out → AllByRecursion P out → Has field × AllByRecursion P found)
    → (fields : List (K × TyRef)) (found out : List ℕ) → labelled_parts cmp part others fields found ≡ Some out → AllByRecursion P out
    → AllByRecursion Has fields × AllByRecursion P found
labelled_up P cmp part others Has step [] found out e all = (tt, subst (AllByRecursion P) (sym (some_same found out e)) all)
labelled_up P cmp part others Has step (field ∷ fields) found out e all =
    let mid = then_some (λ found. labelled_parts cmp part others fields found) (part (type_under cmp field.0 others) field.1 found) out e in
    let rest = labelled_up P cmp part others Has step fields mid.0 out mid.2 all in
    let first = step field found mid.0 mid.1 rest.1 in
    ((first.0, rest.0), first.1)

labelled_down : {K : Type 0} (P : ℕ → Type 0) (cmp : K → K → Ordering) (part : Option TyRef → TyRef → List ℕ → Option (List ℕ)) (others : List (K × TyRef)) (Has : K × TyRef → Type 0)
    → ((field : K × TyRef) (found : List ℕ) → Has field → AllByRecursion P found → Found P (part (type_under cmp field.0 others) field.1 found))
    → (fields : List (K × TyRef)) (found : List ℕ) → AllByRecursion Has fields → AllByRecursion P found
    → Found P (labelled_parts cmp part others fields found)
labelled_down P cmp part others Has step [] found has all = (found, refl, all)
labelled_down P cmp part others Has step (field ∷ fields) found has all =
    let first = step field found has.0 all in
    let rest = labelled_down P cmp part others Has step fields first.0 has.1 first.2 in
    (rest.0, ap (option_and_then (λ found. labelled_parts cmp part others fields found)) first.1 ∙ rest.1, rest.2)

-- an expected field
field_up : (P : ℕ → Type 0) (lower upper : List Entry) (turned : Bool) (R : TyRef → TyRef → Type 0) → Up P lower upper turned R
    → (fs : List (ℕ × TyRef)) (expected : ℕ × TyRef) (present : Option TyRef) (found out : List ℕ) → type_under nat_cmp expected.0 fs ≡ present
    → field_part lower upper turned present expected.1 found ≡ Some out → AllByRecursion P out → HasField R upper fs expected × AllByRecursion P found
field_up P lower upper turned R up fs expected None found out is e all =
    let v = verdict_some (may_miss (shape upper expected.1)) found out e in
    (inr (is, v.0), subst (AllByRecursion P) (sym v.1) all)
field_up P lower upper turned R up fs expected (Some type) found out is e all =
    let part = up type expected.1 found out e all in (inl (type, is, part.0), part.1)

field_down : (P : ℕ → Type 0) (lower upper : List Entry) (turned : Bool) (R : TyRef → TyRef → Type 0) → Down P lower upper turned R
    → (fs : List (ℕ × TyRef)) (expected : ℕ × TyRef) (found : List ℕ) → HasField R upper fs expected → AllByRecursion P found
    → Found P (field_part lower upper turned (type_under nat_cmp expected.0 fs) expected.1 found)
field_down P lower upper turned R down fs expected found (inl has) all =
    subst (λ o. Found P (field_part lower upper turned o expected.1 found)) (sym has.1) (down has.0 expected.1 found has.2 all)
field_down P lower upper turned R down fs expected found (inr misses) all =
    subst (λ o. Found P (field_part lower upper turned o expected.1 found)) (sym misses.0) (verdict_true P _ found misses.1 all)

-- a case
case_up : (P : ℕ → Type 0) (lower upper : List Entry) (turned : Bool) (R : TyRef → TyRef → Type 0) → Up P lower upper turned R
    → (gs : List (ℕ × TyRef)) (case : ℕ × TyRef) (expected : Option TyRef) (found out : List ℕ) → type_under nat_cmp case.0 gs ≡ expected
    → case_part lower upper turned expected case.1 found ≡ Some out → AllByRecursion P out → HasCase R gs case × AllByRecursion P found
case_up P lower upper turned R up gs case None found out is e all = cc
case_up P lower upper turned R up gs case (Some type) found out is e all =
    let part = up case.1 type found out e all in ((type, is, part.0), part.1)

case_down : (P : ℕ → Type 0) (lower upper : List Entry) (turned : Bool) (R : TyRef → TyRef → Type 0) → Down P lower upper turned R
    → (gs : List (ℕ × TyRef)) (case : ℕ × TyRef) (found : List ℕ) → HasCase R gs case → AllByRecursion P found
    → Found P (case_part lower upper turned (type_under nat_cmp case.0 gs) case.1 found)
case_down P lower upper turned R down gs case found has all =
    subst (λ o. Found P (case_part lower upper turned o case.1 found)) (sym has.1) (down case.1 has.0 found has.2 all)

-- an expected method
method_up : (P : ℕ → Type 0) (lower upper : List Entry) (turned : Bool) (R : TyRef → TyRef → Type 0) → Up P lower upper turned R
    → (ms : List (List ℕ × TyRef)) (expected : List ℕ × TyRef) (present : Option TyRef) (found out : List ℕ) → type_under (slice_cmp nat_cmp) expected.0 ms ≡ present
    → method_part lower upper turned present expected.1 found ≡ Some out → AllByRecursion P out → HasMethod R ms expected × AllByRecursion P found
method_up P lower upper turned R up ms expected None found out is e all = cc
method_up P lower upper turned R up ms expected (Some type) found out is e all =
    let part = up type expected.1 found out e all in ((type, is, part.0), part.1)

method_down : (P : ℕ → Type 0) (lower upper : List Entry) (turned : Bool) (R : TyRef → TyRef → Type 0) → Down P lower upper turned R
    → (ms : List (List ℕ × TyRef)) (expected : List ℕ × TyRef) (found : List ℕ) → HasMethod R ms expected → AllByRecursion P found
    → Found P (method_part lower upper turned (type_under (slice_cmp nat_cmp) expected.0 ms) expected.1 found)
method_down P lower upper turned R down ms expected found has all =
    subst (λ o. Found P (method_part lower upper turned o expected.1 found)) (sym has.1) (down has.0 expected.1 found has.2 all)

-- a sequence
sequence_up : (P : ℕ → Type 0) (lower upper : List Entry) (turned : Bool) (R : TyRef → TyRef → Type 0) → Up P lower upper turned R
    → (types expected : List TyRef) (found out : List ℕ) → sequence_parts lower upper turned types expected found ≡ Some out → AllByRecursion P out
    → Sequence R upper types expected × AllByRecursion P found
sequence_up P lower upper turned R up types [] found out e all = (tt, subst (AllByRecursion P) (sym (some_same found out e)) all)
sequence_up P lower upper turned R up [] (t ∷ ts) found out e all =
    let mid = then_some (λ found. sequence_parts lower upper turned [] ts found) (verdict (may_miss (shape upper t)) found) out e in
    let rest = sequence_up P lower upper turned R up [] ts mid.0 out mid.2 all in
    let v = verdict_some (may_miss (shape upper t)) found mid.0 mid.1 in
    ((v.0, rest.0), subst (AllByRecursion P) (sym v.1) rest.1)
sequence_up P lower upper turned R up (s ∷ ss) (t ∷ ts) found out e all =
    let mid = then_some (λ found. sequence_parts lower upper turned ss ts found) (part_at lower upper turned s t found) out e in
    let rest = sequence_up P lower upper turned R up ss ts mid.0 out mid.2 all in
    let first = up s t found mid.0 mid.1 rest.1 in
    ((first.0, rest.0), first.1)

sequence_down : (P : ℕ → Type 0) (lower upper : List Entry) (turned : Bool) (R : TyRef → TyRef → Type 0) → Down P lower upper turned R
    → (types expected : List TyRef) (found : List ℕ) → Sequence R upper types expected → AllByRecursion P found
    → Found P (sequence_parts lower upper turned types expected found)
sequence_down P lower upper turned R down types [] found has all = (found, refl, all)
sequence_down P lower upper turned R down [] (t ∷ ts) found has all =
    let rest = sequence_down P lower upper turned R down [] ts found has.1 all in
    (rest.0, ap (λ b. option_and_then (λ found. sequence_parts lower upper turned [] ts found) (verdict b found)) has.0 ∙ rest.1, rest.2)
sequence_down P lower upper turned R down (s ∷ ss) (t ∷ ts) found has all =
    let first = down s t found has.0 all in
    let rest = sequence_down P lower upper turned R down ss ts first.0 has.1 first.2 in
    (rest.0, ap (option_and_then (λ found. sequence_parts lower upper turned ss ts found)) first.1 ∙ rest.1, rest.2)

-- the kinds of entries
vec_up : (P : ℕ → Type 0) (lower upper : List Entry) (turned : Bool) (R Back : TyRef → TyRef → Type 0) → Up P lower upper turned R
    → (a : TyRef) (y : Entry) (out : List ℕ) → vec_parts lower upper turned a y ≡ Some out → AllByRecursion P out → Rule R Back lower upper (compound (Seq a)) (compound y)
vec_up P lower upper turned R Back up a (Seq b) out e all = vec a b refl refl (up a b [] out e all).0
vec_up P lower upper turned R Back up a _ out e all = cc

record_up : (P : ℕ → Type 0) (lower upper : List Entry) (turned : Bool) (R Back : TyRef → TyRef → Type 0) → Up P lower upper turned R
    → (fs : List (ℕ × TyRef)) (y : Entry) (out : List ℕ) → record_parts lower upper turned fs y ≡ Some out → AllByRecursion P out → Rule R Back lower upper (compound (Rec fs)) (compound y)
record_up P lower upper turned R Back up fs (Rec gs) out e all =
    record_of fs gs refl refl (labelled_up P nat_cmp (field_part lower upper turned) fs (HasField R upper fs) (λ g found out e all. field_up P lower upper turned R up fs g _ found out refl e all) gs [] out e all).0
record_up P lower upper turned R Back up fs _ out e all = cc

variant_up : (P : ℕ → Type 0) (lower upper : List Entry) (turned : Bool) (R Back : TyRef → TyRef → Type 0) → Up P lower upper turned R
    → (fs : List (ℕ × TyRef)) (y : Entry) (out : List ℕ) → variant_parts lower upper turned fs y ≡ Some out → AllByRecursion P out → Rule R Back lower upper (compound (Var fs)) (compound y)
variant_up P lower upper turned R Back up fs (Var gs) out e all =
    variant_of fs gs refl refl (labelled_up P nat_cmp (case_part lower upper turned) gs (HasCase R gs) (λ f found out e all. case_up P lower upper turned R up gs f _ found out refl e all) fs [] out e all).0
variant_up P lower upper turned R Back up fs _ out e all = cc

service_up : (P : ℕ → Type 0) (lower upper : List Entry) (turned : Bool) (R Back : TyRef → TyRef → Type 0) → Up P lower upper turned R
    → (ms : List (List ℕ × TyRef)) (y : Entry) (out : List ℕ) → service_parts lower upper turned ms y ≡ Some out → AllByRecursion P out → Rule R Back lower upper (compound (Service ms)) (compound y)
service_up P lower upper turned R Back up ms (Service ns) out e all =
    service ms ns refl refl (labelled_up P (slice_cmp nat_cmp) (method_part lower upper turned) ms (HasMethod R ms) (λ n found out e all. method_up P lower upper turned R up ms n _ found out refl e all) ns [] out e all).0
service_up P lower upper turned R Back up ms _ out e all = cc

-- a choice that gives a value
pub chosen : {A : Type 0} (b : Bool) (o : Option A) (y : A) → cond b o None ≡ Some y → (b ≡ true) × (o ≡ Some y)
chosen true o y e = (refl, e)
chosen false o y e = cc

func_up : (P : ℕ → Type 0) (lower upper : List Entry) (turned : Bool) (R Back : TyRef → TyRef → Type 0) → Up P lower upper turned R → Up P upper lower (not turned) Back
    → (args results : List TyRef) (notes : List ℕ) (y : Entry) (out : List ℕ) → func_parts lower upper turned args results notes y ≡ Some out → AllByRecursion P out
    → Rule R Back lower upper (compound (Func args results notes)) (compound y)
func_up P lower upper turned R Back up back args results notes (Func args' results' notes') out e all =
    let both_true = chosen (bytes_eq notes notes') _ out e in
    let notes_same : notes ≡ notes' = bytes_same notes notes' both_true.0 in
    let mid = then_some (λ found. sequence_parts lower upper turned results results' found) (sequence_parts upper lower (not turned) args' args []) out both_true.1 in
    let rest = sequence_up P lower upper turned R up results results' mid.0 out mid.2 all in
    let first = sequence_up P upper lower (not turned) Back back args' args [] mid.0 mid.1 rest.1 in
    func args args' results results' notes refl (ap (λ n. compound (Func args' results' n)) (sym notes_same)) first.0 rest.0
func_up P lower upper turned R Back up back args results notes _ out e all = cc

compound_up : (P : ℕ → Type 0) (lower upper : List Entry) (turned : Bool) (R Back : TyRef → TyRef → Type 0) → Up P lower upper turned R → Up P upper lower (not turned) Back
    → (x y : Entry) (out : List ℕ) → compound_parts lower upper turned x y ≡ Some out → AllByRecursion P out → Rule R Back lower upper (compound x) (compound y)
compound_up P lower upper turned R Back up back (Opt a) y out e all = cc
compound_up P lower upper turned R Back up back (Seq a) y out e all = vec_up P lower upper turned R Back up a y out e all
compound_up P lower upper turned R Back up back (Rec fs) y out e all = record_up P lower upper turned R Back up fs y out e all
compound_up P lower upper turned R Back up back (Var fs) y out e all = variant_up P lower upper turned R Back up fs y out e all
compound_up P lower upper turned R Back up back (Func args results notes) y out e all = func_up P lower upper turned R Back up back args results notes y out e all
compound_up P lower upper turned R Back up back (Service ms) y out e all = service_up P lower upper turned R Back up ms y out e all

-- entries whose parts are shown are below one another by a rule
pub entry_up : (P : ℕ → Type 0) (lower upper : List Entry) (turned : Bool) (R Back : TyRef → TyRef → Type 0) → Up P lower upper turned R → Up P upper lower (not turned) Back
    → (x y : Entry) (out : List ℕ) → entry_parts lower upper turned x y ≡ Some out → AllByRecursion P out → Rule R Back lower upper (compound x) (compound y)
entry_up P lower upper turned R Back up back x (Opt type) out e all = opt type refl
entry_up P lower upper turned R Back up back x (Seq b) out e all = compound_up P lower upper turned R Back up back x (Seq b) out e all
entry_up P lower upper turned R Back up back x (Rec gs) out e all = compound_up P lower upper turned R Back up back x (Rec gs) out e all
entry_up P lower upper turned R Back up back x (Var gs) out e all = compound_up P lower upper turned R Back up back x (Var gs) out e all
entry_up P lower upper turned R Back up back x (Func args results notes) out e all = compound_up P lower upper turned R Back up back x (Func args results notes) out e all
entry_up P lower upper turned R Back up back x (Service ns) out e all = compound_up P lower upper turned R Back up back x (Service ns) out e all

same_entry : (x y : Entry) → compound x ≡ compound y → x ≡ y
same_entry x y e = cc

not_primitive : {G : Type 0} (x : Entry) (s : Shape) (p : Primitive) → s ≡ compound x → s ≡ primitive p → G
not_primitive x s p e f = absurd (let k : compound x ≡ primitive p = sym e ∙ f in cc)

-- entries that are below one another by a rule leave parts that are shown
entry_along : (P : ℕ → Type 0) (lower upper : List Entry) (turned : Bool) (x x' y y' : Entry) → compound x ≡ compound x' → compound y ≡ compound y'
    → Found P (entry_parts lower upper turned x' y') → Found P (entry_parts lower upper turned x y)
entry_along P lower upper turned x x' y y' e f all =
    subst (λ o. Found P o) (ap (λ x. entry_parts lower upper turned x y') (sym (same_entry x x' e)) ∙ ap (entry_parts lower upper turned x) (sym (same_entry y y' f))) all

func_down : (P : ℕ → Type 0) (lower upper : List Entry) (turned : Bool) (R Back : TyRef → TyRef → Type 0) → Down P lower upper turned R → Down P upper lower (not turned) Back
    → (args args' results results' : List TyRef) (notes : List ℕ) → Sequence Back lower args' args → Sequence R upper results results'
    → Found P (entry_parts lower upper turned (Func args results notes) (Func args' results' notes))
func_down P lower upper turned R Back down back args args' results results' notes has has' =
    let first = sequence_down P upper lower (not turned) Back back args' args [] has tt in
    let rest = sequence_down P lower upper turned R down results results' first.0 has' first.2 in
    let parts = option_and_then (λ found. sequence_parts lower upper turned results results' found) (sequence_parts upper lower (not turned) args' args []) in
    (rest.0, ap (λ b. cond b parts None) (bytes_itself notes) ∙ ap (option_and_then (λ found. sequence_parts lower upper turned results results' found)) first.1 ∙ rest.1, rest.2)

pub entry_down : (P : ℕ → Type 0) (lower upper : List Entry) (turned : Bool) (R Back : TyRef → TyRef → Type 0) → Down P lower upper turned R → Down P upper lower (not turned) Back
    → (x y : Entry) (s t : Shape) → s ≡ compound x → t ≡ compound y → Rule R Back lower upper s t → Found P (entry_parts lower upper turned x y)
entry_down P lower upper turned R Back down back x y s t is is' (same p e f) = not_primitive x s p is e
entry_down P lower upper turned R Back down back x y s t is is' (nat_int e f) = not_primitive x s _ is e
entry_down P lower upper turned R Back down back x y s t is is' (reserved f) = not_primitive y t _ is' f
entry_down P lower upper turned R Back down back x y s t is is' (empty e) = not_primitive x s _ is e
entry_down P lower upper turned R Back down back x y s t is is' (opt type f) =
    entry_along P lower upper turned x x y (Opt type) refl (sym is' ∙ f) ([], refl, tt)
entry_down P lower upper turned R Back down back x y s t is is' (vec a b e f r) =
    entry_along P lower upper turned x (Seq a) y (Seq b) (sym is ∙ e) (sym is' ∙ f) (down a b [] r tt)
entry_down P lower upper turned R Back down back x y s t is is' (record_of fs gs e f has) =
    entry_along P lower upper turned x (Rec fs) y (Rec gs) (sym is ∙ e) (sym is' ∙ f)
    (labelled_down P nat_cmp (field_part lower upper turned) fs (HasField R upper fs) (field_down P lower upper turned R down fs) gs [] has tt)
entry_down P lower upper turned R Back down back x y s t is is' (variant_of fs gs e f has) =
    entry_along P lower upper turned x (Var fs) y (Var gs) (sym is ∙ e) (sym is' ∙ f)
    (labelled_down P nat_cmp (case_part lower upper turned) gs (HasCase R gs) (case_down P lower upper turned R down gs) fs [] has tt)
entry_down P lower upper turned R Back down back x y s t is is' (func args args' results results' notes e f has has') =
    entry_along P lower upper turned x (Func args results notes) y (Func args' results' notes) (sym is ∙ e) (sym is' ∙ f)
    (func_down P lower upper turned R Back down back args args' results results' notes has has')
entry_down P lower upper turned R Back down back x y s t is is' (service ms ns e f has) =
    entry_along P lower upper turned x (Service ms) y (Service ns) (sym is ∙ e) (sym is' ∙ f)
    (labelled_down P (slice_cmp nat_cmp) (method_part lower upper turned) ms (HasMethod R ms) (method_down P lower upper turned R down ms) ns [] has tt)
