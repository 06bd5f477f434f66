-- What a valid module has: types with one result at most, and a function for each index.
use Rattle.std.proofs.Common.{◌≡◌, ℕ, zero, suc, ◌+◌, ◌-◌, ◌<◌, ◌≤◌, Bool, true, cond, ◌&&◌, List, [], ◌∷◌, ◌++◌, length, map, Option, Some, None, refl, sym, ap, subst, ◌∙◌, arith}
use Rattle.std.proofs.lemmas.Bool.{leb-true, ltb-true}
use Rattle.std.proofs.lemmas.List.{length-map}
use Rattle.std.proofs.lemmas.Option.{slice_get-map}
use Rattle.std.proofs.lemmas.List.Sums.{sum_by-cons}
use Rattle.std.specs.Prelude.{slice_get, reverse, nat_le, nat_lt, option_map, option_and_then, filter_map, zip, count_by, codes, bytes_eq}
use Rattle.std.specs.Option.{option_to_list}
use Rattle.std.specs.List.{AllZip, list_all, cons_option}
use Rattle.ic_base.specs.Reader.{◌>>=◌}
use Rattle.ic_base.proofs.Steps.{bind_some, passed}
use Rattle.wm_tree.specs.declared.types.ValType.{ValType}
use Rattle.wm_tree.specs.declared.types.FuncType.{FuncType}
use Rattle.wm_tree.specs.declared.parts.ImportKind.{ImportKind}
use Rattle.wm_tree.specs.declared.parts.ImportKind.TheVariants as import
use Rattle.wm_tree.specs.declared.parts.Import.{Import}
use Rattle.wm_tree.specs.declared.parts.FuncCode.{FuncCode}
use Rattle.wm_tree.specs.declared.parts.Module.{Module}
use Rattle.wm_typing.specs.FlatCode.{FlatCode}
use Rattle.wm_typing.specs.Runs.{Body, types_of, IsSound}
use Rattle.wm_typing.proofs.Past.{both_true}
use Rattle.wm_valid.specs.declared.system_api.SystemCall.{SystemCall}
use Rattle.wm_valid.specs.declared.system_api.SystemCall.TheVariants as call
use Rattle.wm_valid.specs.SystemApi.{row_of, calls, call_named, number_of}
use Rattle.wm_valid.specs.Types.{same_type, same_types}
use Rattle.wm_valid.specs.Space.{imported_type, function_types, type_of}
use Rattle.wm_valid.specs.Imports.{has_signature, call_of}
use Rattle.wm_valid.specs.Bodies.{hosts_of, result_of, context_with}
use Rattle.wm_valid.specs.Passes.{Passes}
use Rattle.wm_valid.specs.IsValid.{Validated, Calls, Suits, IsValid}
use Rattle.wm_valid.proofs.Steps.{filter_map_found}
use Rattle.wm_valid.proofs.EveryCheck.{passes_of_checked}
use Rattle.wm_store.specs.Fits.{function_count, is_function}
use Rattle.wm_semantics.specs.Functions.{of_host, of_module, function_at, function_of}
use Rattle.wm_semantics.proofs.Operands.{same_type_is}

-- ---- checks that passed

list_all_at : {A : Type 0} (p : A → Bool) (xs : List A) (n : ℕ) (x : A) → list_all p xs ≡ true → slice_get xs n ≡ Some x → p x ≡ true
list_all_at p [] n x all e = absurd cc
list_all_at p (y ∷ ys) zero x all e =
    let same : y ≡ x = cc in
    ap p (sym same) ∙ (both_true (p y) (list_all p ys) all).0
list_all_at p (y ∷ ys) (suc n) x all e = list_all_at p ys n x (both_true (p y) (list_all p ys) all).1 e

-- at most one result
few_results : (ts : List ValType) → nat_le (length ts) 1 ≡ true → reverse ts ≡ types_of (slice_get ts 0)
few_results [] e = refl
few_results (t ∷ []) e = refl
few_results (t ∷ u ∷ ts) e =
    let long : suc (suc (length ts)) ≤ 1 = leb-true (suc (suc (length ts))) 1 e in
    absurd (omega arith)

-- a type of the module has one result at most
pub results_are : (m : Module) (n : ℕ) (t : FuncType) → Passes m → slice_get m.types n ≡ Some t → reverse t.results ≡ types_of (result_of (Some t))
results_are m n t r e = few_results t.results (list_all_at (λ (u : FuncType). nat_le (length u.results) 1) m.types n t r.types e)

-- ---- calls of the System API

-- a call's number is its place
pub numbered : (c : SystemCall) → slice_get calls (number_of c) ≡ Some c
numbered call.MsgArgDataSize = refl
numbered _ = refl

pub same_types_are : (ts us : List ValType) → same_types ts us ≡ true → ts ≡ us
same_types_are [] [] e = refl
same_types_are [] (u ∷ us) e = absurd cc
same_types_are (t ∷ ts) [] e = absurd cc
same_types_are (t ∷ ts) (u ∷ us) e =
    let both = both_true (same_type t u) (same_types ts us) e in
    let first = same_type_is t u both.0 in
    let others = same_types_are ts us both.1 in
    cc

result_first : (ts : List ValType) (o : Option ValType) → ts ≡ option_to_list o → slice_get ts 0 ≡ o
result_first ts None e = ap (λ (us : List ValType). slice_get us 0) e
result_first ts (Some t) e = ap (λ (us : List ValType). slice_get us 0) e

pub record Signed (t : FuncType) (c : SystemCall) : Type 0 where
  pub params : t.params ≡ (row_of c).params
  pub result : result_of (Some t) ≡ (row_of c).result

signed : (t : FuncType) (c : SystemCall) → has_signature t (row_of c) ≡ true → Signed t c
signed t c e =
    let both = both_true (same_types t.params (row_of c).params) (same_types t.results (option_to_list (row_of c).result)) e in
    record {
      params = same_types_are t.params (row_of c).params both.0;
      result = result_first t.results (row_of c).result (same_types_are t.results (option_to_list (row_of c).result) both.1);
    }

-- the type of an import that is a call
record Imported (types : List FuncType) (i : Import) (c : SystemCall) : Type 0 where
  index : ℕ
  type : FuncType
  index_is : imported_type i ≡ Some index
  type_is : slice_get types index ≡ Some type
  signed : Signed type c

imported : (types : List FuncType) (i : Import) (c : SystemCall) → call_of types i ≡ Some c → Imported types i c
imported types i c e =
    let a = bind_some (imported_type i) _ c e in
    let b = bind_some (slice_get types a.0) _ c a.2 in
    let d = bind_some (call_named i.name) _ c b.2 in
    let p = passed (bytes_eq i.module (codes "ic0") && has_signature b.0 (row_of d.0)) d.0 c d.2 in
    let both = both_true (bytes_eq i.module (codes "ic0")) (has_signature b.0 (row_of d.0)) p.0 in
    record { index = a.0; type = b.0; index_is = a.1; type_is = b.1; signed = subst (λ (x : SystemCall). Signed b.0 x) p.1 (signed b.0 d.0 both.1) }

-- ---- functions by index

-- a place among the imports, with its call, or one among what comes after them
data Which (types : List FuncType) (indices : List ℕ) (more : List ℕ) (system : List SystemCall) (f : ℕ) : Type 0 where
  an_import : (c : SystemCall) (index : ℕ) (t : FuncType) → slice_get system f ≡ Some c → slice_get (indices ++ more) f ≡ Some index
      → slice_get types index ≡ Some t → Signed t c → Which types indices more system f
  a_definition : slice_get system f ≡ None → slice_get (indices ++ more) f ≡ slice_get more (f - length system) → length system ≤ f → Which types indices more system f

further : (types : List FuncType) (indices more : List ℕ) (system : List SystemCall) (k : ℕ) (c : SystemCall) (f : ℕ)
    → Which types indices more system f → Which types (k ∷ indices) more (c ∷ system) (suc f)
further types indices more system k c f (an_import d index t e1 e2 e3 s) = an_import d index t e1 e2 e3 s
further types indices more system k c f (a_definition e1 e2 le) =
    let less : f - length system ≡ suc f - suc (length system) = omega arith in
    a_definition e1 (e2 ∙ ap (slice_get more) less) (omega arith)

parts : {X : Type 0} (x y : X) (xs ys : List X) → ◌≡◌ {A = List X} (x ∷ xs) (y ∷ ys) → (x ≡ y) × (xs ≡ ys)
parts x y xs ys e = (cc, cc)

which : (types : List FuncType) (imports : List Import) (more : List ℕ) (system : List SystemCall) (f : ℕ) → Calls types imports system
    → Which types (filter_map imported_type imports) more system f
which types [] more [] f e = a_definition refl (let same : f ≡ f - 0 = omega arith in ap (slice_get more) same) (omega arith)
which types [] more (c ∷ cs) f e = absurd cc
which types (i ∷ is) more [] f e = absurd cc
which types (i ∷ is) more (c ∷ cs) zero e =
    let p = parts (call_of types i) (Some c) (map (call_of types) is) (map (λ x. Some x) cs) e in
    let h = imported types i c p.0 in
    let all : filter_map imported_type (i ∷ is) ≡ h.index ∷ filter_map imported_type is = ap (λ (o : Option ℕ). cons_option o (filter_map imported_type is)) h.index_is in
    subst (λ (ks : List ℕ). Which types ks more (c ∷ cs) zero) (sym all) (an_import c h.index h.type refl refl h.type_is h.signed)
which types (i ∷ is) more (c ∷ cs) (suc f) e =
    let p = parts (call_of types i) (Some c) (map (call_of types) is) (map (λ x. Some x) cs) e in
    let h = imported types i c p.0 in
    let all : filter_map imported_type (i ∷ is) ≡ h.index ∷ filter_map imported_type is = ap (λ (o : Option ℕ). cons_option o (filter_map imported_type is)) h.index_is in
    subst (λ (ks : List ℕ). Which types ks more (c ∷ cs) (suc f)) (sym all)
    (further types (filter_map imported_type is) more cs h.index c f (which types is more cs f p.1))

-- ---- the functions that a module defines

record Paired {A B : Type 0} (R : A × B → FlatCode → Type 0) (ys : List B) (flats : List FlatCode) (x : A) (n : ℕ) : Type 0 where
  second : B
  second_is : slice_get ys n ≡ Some second
  flat : FlatCode
  flat_is : slice_get flats n ≡ Some flat
  related : R (x, second) flat

paired : {A B : Type 0} (R : A × B → FlatCode → Type 0) (xs : List A) (ys : List B) (flats : List FlatCode) (x : A) (n : ℕ)
    → length xs ≡ length ys → AllZip R (zip xs ys) flats → slice_get xs n ≡ Some x → Paired R ys flats x n
paired R [] ys flats x n long all e = absurd cc
paired R (y ∷ xs) [] flats x n long all e = absurd (omega arith)
paired R (y ∷ xs) (z ∷ zs) [] x n long all e = absurd all
paired R (y ∷ xs) (z ∷ zs) (f ∷ flats) x zero long all e =
    let same : y ≡ x = cc in
    record { second = z; second_is = refl; flat = f; flat_is = refl; related = subst (λ (k : _). R (k, z) f) same all.0 }
paired R (y ∷ xs) (z ∷ zs) (f ∷ flats) x (suc n) long all e =
    let p = paired R xs zs flats x n (omega arith) all.1 e in
    record { second = p.second; second_is = p.second_is; flat = p.flat; flat_is = p.flat_is; related = p.related }

-- a body of the module, typed in its context, with what a machine runs by
abbrev pub body_of : Module → FuncType → FuncCode → FlatCode → Body
body_of m t code flat = record { context = context_with m (Some t) code.locals; words = code.body; code = flat }

-- the function of an index, and where a machine finds it
pub data Reached (v : Validated) (f : ℕ) (t : FuncType) : Type 0 where
  hosted : (c : SystemCall) → function_at v.module f ≡ Some (of_host t (number_of c)) → slice_get (hosts_of v.module) f ≡ Some (number_of c)
      → Signed t c → Reached v f t
  defined : (code : FuncCode) (flat : FlatCode) → function_at v.module f ≡ Some (of_module t code) → slice_get (hosts_of v.module) f ≡ None
      → slice_get v.codes (f - length (hosts_of v.module)) ≡ Some flat → IsSound (body_of v.module t code flat) → Reached v f t

pub hosts_are : (v : Validated) → IsValid v → hosts_of v.module ≡ map number_of v.calls
hosts_are v valid = ap (map number_of) (sym (filter_map_found (call_of v.module.types) v.module.imports v.calls valid.calls))

record Typed (m : Module) (f : ℕ) (t : FuncType) : Type 0 where
  index : ℕ
  index_is : slice_get (function_types m) f ≡ Some index
  type_is : slice_get m.types index ≡ Some t

typed : (m : Module) (f : ℕ) (t : FuncType) → type_of m f ≡ Some t → Typed m f t
typed m f t e = by_cases (slice_get (function_types m) f) refl e
  where
    by_cases : (o : Option ℕ) → slice_get (function_types m) f ≡ o → option_and_then (λ k. slice_get m.types k) o ≡ Some t → Typed m f t
    by_cases (Some k) is e = record { index = k; index_is = is; type_is = e }
    by_cases None is e = absurd cc

-- the function itself, where its type, its number and its code are known
looked_up : (m : Module) (f : ℕ) (t : FuncType) (h : Option ℕ) (c : Option FuncCode) → type_of m f ≡ Some t → slice_get (hosts_of m) f ≡ h
    → slice_get m.codes (f - length (hosts_of m)) ≡ c → function_at m f ≡ function_of t h c
looked_up m f t h c e1 e2 e3 =
    ap (λ (o : Option FuncType). o >>= λ u. function_of u (slice_get (hosts_of m) f) (slice_get m.codes (f - length (hosts_of m)))) e1
    ∙ ap (λ (o : Option ℕ). function_of t o (slice_get m.codes (f - length (hosts_of m)))) e2
    ∙ ap (function_of t h) e3

module _ (v : Validated) (valid : IsValid v) (f : ℕ) (t : FuncType) (is : type_of v.module f ≡ Some t) where
  reached_which : (u : Typed v.module f t) → Which v.module.types (filter_map imported_type v.module.imports) v.module.functions v.calls f → Reached v f t
  reached_which u (an_import c index t' e1 e2 e3 s) =
      let same : index ≡ u.index = cc (e2, u.index_is) in
      let type : t' ≡ t = cc (e3, u.type_is, same) in
      let number : slice_get (hosts_of v.module) f ≡ Some (number_of c) = ap (λ (hs : List ℕ). slice_get hs f) (hosts_are v valid) ∙ slice_get-map number_of v.calls f ∙ ap (option_map number_of) e1 in
      hosted c (looked_up v.module f t (Some (number_of c)) _ is number refl) number (subst (λ (w : FuncType). Signed w c) type s)
  reached_which u (a_definition e1 e2 le) =
      let long : length (hosts_of v.module) ≡ length v.calls = ap length (hosts_are v valid) ∙ length-map v.calls number_of in
      let none : slice_get (hosts_of v.module) f ≡ None = ap (λ (hs : List ℕ). slice_get hs f) (hosts_are v valid) ∙ slice_get-map number_of v.calls f ∙ ap (option_map number_of) e1 in
      let index : slice_get v.module.functions (f - length v.calls) ≡ Some u.index = sym e2 ∙ u.index_is in
      let p = paired (Suits v.module) v.module.functions v.module.codes v.codes u.index (f - length v.calls) valid.grammar.counts valid.codes index in
      let code : slice_get v.module.codes (f - length (hosts_of v.module)) ≡ Some p.second = ap (λ (n : ℕ). slice_get v.module.codes (f - n)) long ∙ p.second_is in
      let flat : slice_get v.codes (f - length (hosts_of v.module)) ≡ Some p.flat = ap (λ (n : ℕ). slice_get v.codes (f - n)) long ∙ p.flat_is in
      defined p.second p.flat (looked_up v.module f t None (Some p.second) is none code) none flat
      (subst (λ (o : Option FuncType). IsSound (record { context = context_with v.module o p.second.locals; words = p.second.body; code = p.flat })) u.type_is p.related)

  pub reached : Reached v f t
  reached = reached_which (typed v.module f t is) (which v.module.types v.module.imports v.module.functions v.calls f valid.calls)

-- ---- a table's entries are functions

counted : (types : List FuncType) (imports : List Import) (system : List SystemCall) → Calls types imports system → count_by (λ i. is_function i.kind) imports ≡ length system
counted types [] [] e = refl
counted types [] (c ∷ cs) e = absurd cc
counted types (i ∷ is) [] e = absurd cc
counted types (i ∷ is) (c ∷ cs) e =
    let p = parts (call_of types i) (Some c) (map (call_of types) is) (map (λ x. Some x) cs) e in
    let h = imported types i c p.0 in
    let here : is_function i.kind ≡ true = function_kind_is i.kind h.index h.index_is in
    let others = counted types is cs p.1 in
    sum_by-cons (λ (j : Import). cond (is_function j.kind) 1 0) i is ∙ ap (λ (b : Bool). cond b 1 0 + count_by (λ j. is_function j.kind) is) here ∙ omega arith
  where
    function_kind_is : (k : ImportKind) (n : ℕ) → imported_type (record { «module» = []; name = []; kind = k }) ≡ Some n → is_function k ≡ true
    function_kind_is (import.Function t) n e = refl
    function_kind_is (import.Table l) n e = absurd cc
    function_kind_is (import.Memory l) n e = absurd cc
    function_kind_is (import.Global g) n e = absurd cc

got : {A : Type 0} (xs : List A) (n : ℕ) → n < length xs → (x : A) × (slice_get xs n ≡ Some x)
got [] n lt = absurd (omega arith)
got (x ∷ xs) zero lt = (x, refl)
got (x ∷ xs) (suc n) lt = got xs n (omega arith)

pub typed_at : (v : Validated) (f : ℕ) → IsValid v → f < function_count v.module → (t : FuncType) × (type_of v.module f ≡ Some t)
typed_at v f valid lt = by_which (which v.module.types v.module.imports v.module.functions v.calls f valid.calls)
  where
    by_which : Which v.module.types (filter_map imported_type v.module.imports) v.module.functions v.calls f → (t : FuncType) × (type_of v.module f ≡ Some t)
    by_which (an_import c index t e1 e2 e3 s) = (t, ap (option_and_then (λ k. slice_get v.module.types k)) e2 ∙ e3)
    by_which (a_definition e1 e2 le) =
        let many = counted v.module.types v.module.imports v.calls valid.calls in
        let within : f - length v.calls < length v.module.functions = omega arith in
        let k = got v.module.functions (f - length v.calls) within in
        let small : nat_lt k.0 (length v.module.types) ≡ true = list_all_at (λ (n : ℕ). nat_lt n (length v.module.types)) v.module.functions (f - length v.calls) k.0 (passes_of_checked v.module valid.passes).functions k.1 in
        let t = got v.module.types k.0 (ltb-true k.0 (length v.module.types) small) in
        (t.0, ap (option_and_then (λ k. slice_get v.module.types k)) (e2 ∙ k.1) ∙ t.1)
