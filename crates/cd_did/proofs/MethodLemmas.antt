-- The methods of a service, found by their names.
use Rattle.std.proofs.Common.{◌≡◌, ℕ, zero, suc, ◌<◌, Bool, true, List, [], ◌∷◌, ◌++◌, length, Option, Some, None, refl, sym, ap, ◌∙◌, inl, inr, arith, Bor}
use Rattle.std.specs.Prelude.{bytes_eq, IsTrue, IfSome, MatchOption, slice_get, slice_index_or}
use Rattle.std.specs.List.{list_all, Contains}
use Rattle.std.specs.Option.{option_copied}
use Rattle.std.proofs.lemmas.List.Folds.{list_all-append}
use Rattle.std.proofs.lemmas.Slice.Eq.{bytes_eq-Decides}
use Rattle.ic_base.specs.Reader.{◌>>=◌}
use Rattle.ic_base.proofs.Steps.{some_is}
use Rattle.cd_types.specs.declared.entry.TyRef.{TyRef}
use Rattle.cd_types.specs.declared.entry.TyRef.TheVariants.{Prim, Index}
use Rattle.cd_types.specs.declared.entry.Entry.{Entry}
use Rattle.cd_types.specs.declared.entry.Entry.TheVariants.{Opt, Seq, Rec, Var, Func, Service}
use Rattle.cd_types.specs.IsTable.{is_func, is_func_at, is_well_formed, is_table}
use Rattle.cd_types.specs.Shape.{compound, entry_shape, shape}
use Rattle.cd_types.proofs.EntryLemmas.{test_at}
use Rattle.cd_types.proofs.FaultLemmas.{both_true}
use Rattle.cd_tokens.proofs.Fronts.{true_or_false}
use Rattle.cd_did.specs.declared.fault.Interface.{Interface}
use Rattle.cd_did.specs.Methods.{Function, IsMethod, entry_at, methods_of, function_of, methods_at, function_at, type_named}

abbrev Row : Type 0
Row = List ℕ × TyRef

-- ---- entries

same_entry : (o : Option Entry) (e : Entry) → entry_shape o ≡ compound e → o ≡ Some e
same_entry None e is = absurd cc
same_entry (Some x) e is = cc

pub entry_of_shape : (table : List Entry) (r : TyRef) (e : Entry) → shape table r ≡ compound e → entry_at table r ≡ Some e
entry_of_shape table (Prim p) e is = absurd cc
entry_of_shape table (Index i) e is = same_entry (slice_get table i) e is

shape_of_entry : (table : List Entry) (r : TyRef) (e : Entry) → entry_at table r ≡ Some e → shape table r ≡ compound e
shape_of_entry table (Prim p) e is = absurd cc
shape_of_entry table (Index i) e is = ap entry_shape is

pub well_formed_at : (table : List Entry) (i : ℕ) (e : Entry) → IsTrue (is_table table) → Some e ≡ slice_get table i → is_well_formed table e ≡ true
well_formed_at table i e formed is = test_at (is_well_formed table) table i e (both_true _ (list_all (is_well_formed table) table) formed).1 (sym is)

pub entry_well : (table : List Entry) (i : ℕ) (o : Option (Bor Entry)) → option_copied o ≡ slice_get table i → IsTrue (is_table table) → IfSome o (λ e. is_well_formed table e.now ≡ true)
entry_well table i None is formed = tt
entry_well table i (Some e) is formed = well_formed_at table i e.now formed is

some_methods : (e : Entry) (methods : List (List ℕ × TyRef)) → methods_of e ≡ Some methods → e ≡ Service methods
some_methods (Opt r) methods is = absurd cc
some_methods (Seq r) methods is = absurd cc
some_methods (Rec fields) methods is = absurd cc
some_methods (Var cases) methods is = absurd cc
some_methods (Func args results notes) methods is = absurd cc
some_methods (Service ms) methods is = ap (λ (x : List Row). Service x) (some_is {A = List Row} ms methods is)

some_function : (e : Entry) (f : Function) → function_of e ≡ Some f → e ≡ Func f.args f.results f.notes
some_function (Opt r) f is = absurd cc
some_function (Seq r) f is = absurd cc
some_function (Rec fields) f is = absurd cc
some_function (Var cases) f is = absurd cc
some_function (Func args results notes) f is =
    let same : ◌≡◌ {A = Function} (record { args = args; results = results; notes = notes }) f = some_is {A = Function} (record { args = args; results = results; notes = notes }) f is in
    ap (λ (x : Function). Func x.args x.results x.notes) same
some_function (Service ms) f is = absurd cc

methods_are : (table : List Entry) (r : TyRef) (methods : List (List ℕ × TyRef)) → methods_at table r ≡ Some methods → shape table r ≡ compound (Service methods)
methods_are table r methods is = by (entry_at table r) refl
  where
    by : (o : Option Entry) → entry_at table r ≡ o → shape table r ≡ compound (Service methods)
    by None e = let f : None ≡ Some methods = sym (ap (λ (x : Option Entry). x >>= methods_of) e) ∙ is in absurd cc
    by (Some x) e =
        let f : methods_of x ≡ Some methods = sym (ap (λ (y : Option Entry). y >>= methods_of) e) ∙ is in
        shape_of_entry table r x e ∙ ap compound (some_methods x methods f)

function_is : (table : List Entry) (r : TyRef) (f : Function) → function_at table r ≡ Some f → shape table r ≡ compound (Func f.args f.results f.notes)
function_is table r f is = by (entry_at table r) refl
  where
    by : (o : Option Entry) → entry_at table r ≡ o → shape table r ≡ compound (Func f.args f.results f.notes)
    by None e = let g : None ≡ Some f = sym (ap (λ (x : Option Entry). x >>= function_of) e) ∙ is in absurd cc
    by (Some x) e =
        let g : function_of x ≡ Some f = sym (ap (λ (y : Option Entry). y >>= function_of) e) ∙ is in
        shape_of_entry table r x e ∙ ap compound (some_function x f g)

-- what is a function has one
func_found : (o : Option Entry) → is_func o ≡ true → (o >>= function_of) ≡ None → ⊥
func_found None e none = absurd cc
func_found (Some (Opt r)) e none = absurd cc
func_found (Some (Seq r)) e none = absurd cc
func_found (Some (Rec fields)) e none = absurd cc
func_found (Some (Var cases)) e none = absurd cc
func_found (Some (Func args results notes)) e none = absurd cc
func_found (Some (Service ms)) e none = absurd cc

func_at_found : (table : List Entry) (r : TyRef) → is_func_at table r ≡ true → function_at table r ≡ None → ⊥
func_at_found table (Prim p) e none = absurd cc
func_at_found table (Index i) e none = func_found (slice_get table i) e none

-- ---- types of both lists

module _ (test : TyRef → Bool) where
  both_pass : (f : Function) → list_all test (f.args ++ f.results) ≡ true → (list_all test f.args ≡ true) × (list_all test f.results ≡ true)
  both_pass f all = both_true (list_all test f.args) (list_all test f.results) (sym (list_all-append test f.args f.results) ∙ all)

  pub args_pass : (found : Option Function) → IfSome found (λ f. list_all test (f.args ++ f.results) ≡ true) → IfSome found (λ f. list_all test f.args ≡ true)
  args_pass None all = tt
  args_pass (Some f) all = (both_pass f all).0

  pub results_pass : (found : Option Function) → IfSome found (λ f. list_all test (f.args ++ f.results) ≡ true) → IfSome found (λ f. list_all test f.results ≡ true)
  results_pass None all = tt
  results_pass (Some f) all = (both_pass f all).1

-- ---- names

named_among : (methods : List (List ℕ × TyRef)) (name : List ℕ) (type : TyRef) → type_named methods name ≡ Some type → Contains methods (name, type)
named_among [] name type e = absurd cc
named_among (m ∷ methods) name type e = elim (true_or_false (bytes_eq m.0 name)) [
  | inl same ↦
      let one : m.1 ≡ type = some_is {A = TyRef} m.1 type (rw same at e) in
      let other : m.0 ≡ name = (bytes_eq-Decides m.0 name).0 same in
      (0, omega arith, λ i. (other i, one i))
  | inr apart ↦
      let f : type_named methods name ≡ Some type = rw apart at e in
      let more = named_among methods name type f in
      (suc more.0, omega (arith, more.1), more.2)
]

named_there : (methods : List (List ℕ × TyRef)) (name : List ℕ) (type : TyRef) (k : ℕ) → k < length methods → slice_index_or methods k (name, type) ≡ (name, type) → type_named methods name ≡ None → ⊥
named_there [] name type k below at e = absurd (omega (arith, below))
named_there (m ∷ methods) name type zero below at e =
    let same : bytes_eq m.0 name ≡ true = (bytes_eq-Decides m.0 name).1 (ap (λ (x : Row). x.0) at) in
    let f : Some m.1 ≡ None = rw same at e in
    absurd cc
named_there (m ∷ methods) name type (suc k) below at e = elim (true_or_false (bytes_eq m.0 name)) [
  | inl same ↦ let f : Some m.1 ≡ None = rw same at e in absurd cc
  | inr apart ↦ let f : type_named methods name ≡ None = rw apart at e in named_there methods name type k (omega (arith, below)) at f
]

named_passes : (test : TyRef → Bool) (methods : List (List ℕ × TyRef)) (name : List ℕ) (type : TyRef) → list_all (λ m. test m.1) methods ≡ true → type_named methods name ≡ Some type → test type ≡ true
named_passes test [] name type all e = absurd cc
named_passes test (m ∷ methods) name type all e =
    let both = both_true (test m.1) (list_all (λ (x : Row). test x.1) methods) all in
    elim (true_or_false (bytes_eq m.0 name)) [
      | inl same ↦ let one : m.1 ≡ type = some_is {A = TyRef} m.1 type (rw same at e) in ap test (sym one) ∙ both.0
      | inr apart ↦ let f : type_named methods name ≡ Some type = rw apart at e in named_passes test methods name type both.1 f
    ]

-- ---- methods

module _ (interface : Interface) (name : List ℕ) where
  pub no_service : interface.service ≡ None → (f : Function) → IsMethod interface name f → ⊥
  no_service none f is = let g : None ≡ Some is.service = sym none ∙ is.served in absurd cc

  pub no_methods : (service : TyRef) → interface.service ≡ Some service → methods_at interface.table service ≡ None → (f : Function) → IsMethod interface name f → ⊥
  no_methods service served none f is =
      let same : is.service ≡ service = some_is {A = TyRef} is.service service (sym is.served ∙ served) in
      let there : methods_at interface.table service ≡ Some is.methods =
      ap (methods_at interface.table) (sym same) ∙ ap (λ (x : Option Entry). x >>= methods_of) (entry_of_shape interface.table is.service (Service is.methods) is.has_methods) in
      let g : None ≡ Some is.methods = sym none ∙ there in
      absurd cc

  pub not_named : (service : TyRef) (methods : List (List ℕ × TyRef)) → interface.service ≡ Some service → methods_at interface.table service ≡ Some methods → type_named methods name ≡ None → (f : Function) → IsMethod interface name f → ⊥
  not_named service methods served there none f is =
      let same : is.service ≡ service = some_is {A = TyRef} is.service service (sym is.served ∙ served) in
      let own : methods_at interface.table service ≡ Some is.methods =
      ap (methods_at interface.table) (sym same) ∙ ap (λ (x : Option Entry). x >>= methods_of) (entry_of_shape interface.table is.service (Service is.methods) is.has_methods) in
      let one : is.methods ≡ methods = some_is {A = List Row} is.methods methods (sym own ∙ there) in
      named_there is.methods name is.type is.among.0 is.among.1 is.among.2 (ap (λ (ms : List Row). type_named ms name) one ∙ none)

  pub method_is : (service : TyRef) (methods : List (List ℕ × TyRef)) (type : TyRef) (found : Option Function) → interface.service ≡ Some service → methods_at interface.table service ≡ Some methods → list_all (λ m. is_func_at interface.table m.1) methods ≡ true
      → type_named methods name ≡ Some type → found ≡ function_at interface.table type → MatchOption found ((f : Function) → IsMethod interface name f → ⊥) (IsMethod interface name)
  method_is service methods type None served there all named is = λ f one. func_at_found interface.table type (named_passes (is_func_at interface.table) methods name type all named) (sym is)
  method_is service methods type (Some f) served there all named is =
      record {
        service = service;
        methods = methods;
        type = type;
        served = served;
        has_methods = methods_are interface.table service methods there;
        among = named_among methods name type named;
        is = function_is interface.table type f (sym is);
      }
