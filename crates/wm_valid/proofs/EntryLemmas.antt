-- In a valid module an entry point is exported exactly where its name is, and is a function () -> ().
use Rattle.std.proofs.Common.{◌≡◌, ℕ, ◌+◌, Bool, true, false, cond, List, [], ◌∷◌, take, Option, Some, None, refl, ap, subst, ◌∙◌}
use Rattle.std.specs.Prelude.{◌&&◌, ◌||◌, not, nat_eq, bytes_eq, codes, find, IfSome}
use Rattle.std.specs.List.{starts_with}
use Rattle.std.proofs.lemmas.Slice.Eq.{bytes_eq-Decides}
use Rattle.wm_tree.specs.declared.parts.ExportKind.{ExportKind}
use Rattle.wm_tree.specs.declared.parts.ExportKind.TheVariants as export
use Rattle.wm_tree.specs.declared.parts.Export.{Export}
use Rattle.wm_tree.specs.declared.parts.Module.{Module}
use Rattle.wm_valid.specs.declared.entry.EntryName.{EntryName}
use Rattle.wm_valid.specs.declared.entry.EntryName.TheVariants.{Init, PreUpgrade, PostUpgrade, Inspect, Update, Query}
use Rattle.wm_valid.specs.Space.{type_of}
use Rattle.wm_valid.specs.Indices.{is_procedure}
use Rattle.wm_valid.specs.Checked.{checked}
use Rattle.wm_valid.proofs.EveryCheck.{passes_of_checked}
use Rattle.wm_valid.specs.Entries.{name_of, is_entry_name, is_entry_kind, is_misnamed, is_wrong, is_bad_export, least_bad, exports_name, exported_function, entry_of}

-- ---- names of entry points

pub begins : (kind : EntryName) (method : List ℕ) → starts_with nat_eq (name_of kind method) (codes "canister_") ≡ true
begins Init method = refl
begins PreUpgrade method = refl
begins PostUpgrade method = refl
begins Inspect method = refl
begins Update method = refl
begins Query method = refl

is_name : (kind : EntryName) (method : List ℕ) → is_entry_name (name_of kind method) ≡ true
is_name Init method = refl
is_name PreUpgrade method = refl
is_name PostUpgrade method = refl
is_name Inspect method = refl
is_name Update method = refl
is_name Query method = refl

-- ---- the export that is found

or_false : (a b : Bool) → (a || b) ≡ false → (a ≡ false) × (b ≡ false)
or_false true b e = absurd cc
or_false false b e = (refl, e)

misnamed_false : (starts name kind : Bool) → (starts && not (name && kind)) ≡ false → starts ≡ true → name ≡ true → kind ≡ true
misnamed_false true true true e s n = refl
misnamed_false true true false e s n = absurd cc
misnamed_false true false kind e s n = absurd cc
misnamed_false false name kind e s n = absurd cc

function_kind : (m : Module) (kind : ExportKind) → is_entry_kind m kind ≡ true → exported_function kind ≡ None → ⊥
function_kind m (export.Function i) e none = cc
function_kind m (export.Table i) e none = cc
function_kind m (export.Memory i) e none = cc
function_kind m (export.Global i) e none = cc

good_place : (bad : Bool) (place : ℕ) (more : Option ℕ) → cond bad (Some place) more ≡ None → (bad ≡ false) × (more ≡ None)
good_place true place more e = absurd cc
good_place false place more e = (refl, e)

-- the export has the name, and is not wrong, or none has it
data Found (m : Module) (name : List ℕ) (found : Option Export) (has : Bool) : Type 0 where
  there : (e : Export) → found ≡ Some e → has ≡ true → e.name ≡ name → is_wrong m e ≡ false → Found m name found has
  nowhere : found ≡ None → has ≡ false → Found m name found has

at_first : (m : Module) (name : List ℕ) (e : Export) (test : Bool) (found : Option Export) (has : Bool) → bytes_eq e.name name ≡ test → is_wrong m e ≡ false → Found m name found has → Found m name (cond test (Some e) found) (test || has)
at_first m name e true found has same right rest = there e refl refl ((bytes_eq-Decides e.name name).0 same) right
at_first m name e false found has same right rest = rest

found_in : (m : Module) (name : List ℕ) (place : ℕ) (exports : List Export) → least_bad m place exports ≡ None → Found m name (find (λ e. bytes_eq e.name name) exports) (exports_name exports name)
found_in m name place [] e = nowhere refl refl
found_in m name place (x ∷ exports) e =
    let parts = good_place (is_bad_export m place x) place (least_bad m (place + 1) exports) e in
    let right = (or_false (exports_name (take place m.exports) x.name) (is_wrong m x) parts.0).1 in
    at_first m name x (bytes_eq x.name name) _ _ refl right (found_in m name (place + 1) exports parts.1)

entry_kind : (m : Module) (kind : EntryName) (method : List ℕ) (e : Export) → e.name ≡ name_of kind method → is_wrong m e ≡ false → is_entry_kind m e.kind ≡ true
entry_kind m kind method e same right =
    let named = (or_false (is_misnamed m e) _ right).0 in
    let starts : starts_with nat_eq e.name (codes "canister_") ≡ true = ap (λ n. starts_with nat_eq n (codes "canister_")) same ∙ begins kind method in
    let name : is_entry_name e.name ≡ true = ap is_entry_name same ∙ is_name kind method in
    misnamed_false _ _ _ named starts name

procedure_of : (m : Module) (kind : ExportKind) (f : ℕ) → exported_function kind ≡ Some f → is_entry_kind m kind ≡ true → is_procedure (type_of m f) ≡ true
procedure_of m (export.Function i) f e is = let same : i ≡ f = cc in subst (λ (x : ℕ). is_procedure (type_of m x) ≡ true) same is
procedure_of m (export.Table i) f e is = absurd cc
procedure_of m (export.Memory i) f e is = absurd cc
procedure_of m (export.Global i) f e is = absurd cc

module _ (m : Module) (kind : EntryName) (method : List ℕ) where
  none_of_found : Found m (name_of kind method) (find (λ e. bytes_eq e.name (name_of kind method)) m.exports) (exports_name m.exports (name_of kind method)) → entry_of m kind method ≡ None → exports_name m.exports (name_of kind method) ≡ false
  none_of_found (nowhere found has) e = has
  none_of_found (there x found has same right) e =
      absurd (function_kind m x.kind (entry_kind m kind method x same right) (rw found at e))

  found_of_none : Found m (name_of kind method) (find (λ e. bytes_eq e.name (name_of kind method)) m.exports) (exports_name m.exports (name_of kind method)) → exports_name m.exports (name_of kind method) ≡ false → entry_of m kind method ≡ None
  found_of_none (nowhere found has) e = rw found refl
  found_of_none (there x found has same right) e = absurd cc

  pub no_entry : least_bad m 0 m.exports ≡ None → entry_of m kind method ≡ None → exports_name m.exports (name_of kind method) ≡ false
  no_entry passes e = none_of_found (found_in m (name_of kind method) 0 m.exports passes) e

  pub no_name : least_bad m 0 m.exports ≡ None → exports_name m.exports (name_of kind method) ≡ false → entry_of m kind method ≡ None
  no_name passes e = found_of_none (found_in m (name_of kind method) 0 m.exports passes) e

  procedure_found : Found m (name_of kind method) (find (λ e. bytes_eq e.name (name_of kind method)) m.exports) (exports_name m.exports (name_of kind method)) → (f : ℕ) → entry_of m kind method ≡ Some f → is_procedure (type_of m f) ≡ true
  procedure_found (nowhere found has) f e = let none : ◌≡◌ {A = Option ℕ} None (Some f) = rw found at e in absurd cc
  procedure_found (there x found has same right) f e =
      procedure_of m x.kind f (rw found at e) (entry_kind m kind method x same right)

  pub entry_is_procedure : (f : ℕ) → checked m ≡ None → entry_of m kind method ≡ Some f → is_procedure (type_of m f) ≡ true
  entry_is_procedure f passes e = procedure_found (found_in m (name_of kind method) 0 m.exports (passes_of_checked m passes).entries) f e

  pub entry_procedure : (o : Option ℕ) → checked m ≡ None → entry_of m kind method ≡ o → IfSome o (λ f. is_procedure (type_of m f) ≡ true)
  entry_procedure (Some f) passes e = entry_is_procedure f passes e
  entry_procedure None passes e = tt
