-- The items of the sections are read exactly.
use Rattle.std.proofs.Common.{◌≡◌, ℕ, ◌^◌, Bool, true, List, ◌∷◌, refl, sym, subst}
use Rattle.std.specs.List.{sum_by}
use Rattle.std.proofs.lemmas.Bool.{ltb-true, lt-ltb}
use Rattle.ic_base.specs.Reader.{map_at}
use Rattle.ic_base.specs.Spelling.{Spelling}
use Rattle.ic_base.specs.Exact.{Exact}
use Rattle.ic_base.proofs.Exact.{reworded, map_exact, filter_exact, sized_exact}
use Rattle.wm_tree.specs.declared.types.Limits.{Limits}
use Rattle.wm_tree.specs.declared.types.GlobalType.{GlobalType}
use Rattle.wm_tree.specs.declared.parts.ImportKind.{ImportKind}
use Rattle.wm_tree.specs.declared.parts.ImportKind.TheVariants as import
use Rattle.wm_tree.specs.declared.parts.ExportKind.{ExportKind}
use Rattle.wm_tree.specs.declared.parts.ExportKind.TheVariants as export
use Rattle.wm_decode.specs.Values.{SpellsU32, SpellsPair, SpellsList, SpellsBytes, SpellsName, lookup}
use Rattle.wm_decode.specs.Types.{SpellsValType, SpellsLimits, SpellsTableType, SpellsGlobalType}
use Rattle.wm_decode.specs.Instructions.{SpellsExpr}
use Rattle.wm_decode.specs.Parts.{SpellsImportKind, SpellsImport, SpellsGlobal, SpellsExportKind, SpellsExport, SpellsElement, SpellsRun, SpellsFunc, SpellsCode, SpellsSegment}
use Rattle.wm_decode.specs.Readers.{u32_at, pair_at, list_at, vec_bytes_at, name_at, val_type_at, limits_at, table_type_at, global_type_at, expr_at, ImportForm, by_type_index, by_table_type, by_memory_type, by_global_type, import_forms, imported_at, import_kind_at, import_at, global_at, export_kinds, export_kind_at, export_at, element_at, run_at, few_locals, func_at, code_at, segment_at}
use Rattle.wm_decode.proofs.ExactValues.{u32_exact, pair_exact, list_exact, carried, Chosen, chosen_exact, found_in, vec_bytes_exact, name_exact}
use Rattle.wm_decode.proofs.ExactTypes.{val_type_exact, limits_exact, table_type_exact, global_type_exact}
use Rattle.wm_decode.proofs.ExactExprs.{expr_exact}

-- ---- imports

abbrev Imported : Bool → ImportForm → Spelling ImportKind
Imported float by_type_index k bytes = (x : ℕ) × (import.Function x ≡ k) × SpellsU32 x bytes
Imported float by_table_type k bytes = (l : Limits) × (import.Table l ≡ k) × SpellsTableType l bytes
Imported float by_memory_type k bytes = (l : Limits) × (import.Memory l ≡ k) × SpellsLimits l bytes
Imported float by_global_type k bytes = (g : GlobalType) × (import.Global g ≡ k) × SpellsGlobalType float g bytes

imported_exact : (float : Bool) (f : ImportForm) → Exact (Imported float f) (imported_at float f)
imported_exact float by_type_index = map_exact SpellsU32 u32_at import.Function u32_exact
imported_exact float by_table_type = map_exact SpellsTableType table_type_at import.Table table_type_exact
imported_exact float by_memory_type = map_exact SpellsLimits limits_at import.Memory limits_exact
imported_exact float by_global_type = map_exact (SpellsGlobalType float) (global_type_at float) import.Global (global_type_exact float)

import_chosen : (float : Bool) (k : ImportKind) (bytes : List ℕ) → SpellsImportKind float k bytes → Chosen (λ b. lookup b import_forms) (Imported float) k bytes
import_chosen float (import.Function x) bytes p =
    record { byte = 0x00; row = by_type_index; found = refl; spelled = record { rest = p.rest; whole = p.whole; behind = (x, refl, p.behind) } }
import_chosen float (import.Table l) bytes p =
    record { byte = 0x01; row = by_table_type; found = refl; spelled = record { rest = p.rest; whole = p.whole; behind = (l, refl, p.behind) } }
import_chosen float (import.Memory l) bytes p =
    record { byte = 0x02; row = by_memory_type; found = refl; spelled = record { rest = p.rest; whole = p.whole; behind = (l, refl, p.behind) } }
import_chosen float (import.Global g) bytes p =
    record { byte = 0x03; row = by_global_type; found = refl; spelled = record { rest = p.rest; whole = p.whole; behind = (g, refl, p.behind) } }

chosen_import : (float : Bool) (k : ImportKind) (bytes : List ℕ) → Chosen (λ b. lookup b import_forms) (Imported float) k bytes → SpellsImportKind float k bytes
chosen_import float k bytes p =
    subst (SpellsImportKind float k) (sym p.spelled.whole)
    (found_in (λ b f. (rest : List ℕ) → Imported float f k rest → SpellsImportKind float k (b ∷ rest)) import_forms (
      λ rest q. subst (λ (j : ImportKind). SpellsImportKind float j (0x00 ∷ rest)) q.1 (record { rest = rest; whole = refl; behind = q.2 }),
      (
        λ rest q. subst (λ (j : ImportKind). SpellsImportKind float j (0x01 ∷ rest)) q.1 (record { rest = rest; whole = refl; behind = q.2 }),
        (
          λ rest q. subst (λ (j : ImportKind). SpellsImportKind float j (0x02 ∷ rest)) q.1 (record { rest = rest; whole = refl; behind = q.2 }),
          (λ rest q. subst (λ (j : ImportKind). SpellsImportKind float j (0x03 ∷ rest)) q.1 (record { rest = rest; whole = refl; behind = q.2 }), tt),
        ),
      ),
    )
    p.byte p.row p.found p.spelled.rest p.spelled.behind)

import_kind_exact : (float : Bool) → Exact (SpellsImportKind float) (import_kind_at float)
unfolding import_kind_at
import_kind_exact float =
    reworded (Chosen (λ b. lookup b import_forms) (Imported float)) (SpellsImportKind float) (import_kind_at float) (import_chosen float) (chosen_import float)
    (chosen_exact (λ b. lookup b import_forms) (Imported float) (imported_at float) (imported_exact float))

pub import_exact : (float : Bool) → Exact (SpellsImport float) (import_at float)
unfolding import_at
import_exact float =
    carried (SpellsPair SpellsName (SpellsPair SpellsName (SpellsImportKind float))) (pair_at name_at (pair_at name_at (import_kind_at float)))
    (λ p. record { «module» = p.0; name = p.1.0; kind = p.1.1 }) (λ i. (i.«module», (i.name, i.kind))) (λ _. refl) (λ _. refl)
    (pair_exact SpellsName (SpellsPair SpellsName (SpellsImportKind float)) name_at (pair_at name_at (import_kind_at float)) name_exact
    (pair_exact SpellsName (SpellsImportKind float) name_at (import_kind_at float) name_exact (import_kind_exact float)))

-- ---- exports

abbrev Exported : (ℕ → ExportKind) → Spelling ExportKind
Exported make k bytes = (x : ℕ) × (make x ≡ k) × SpellsU32 x bytes

export_chosen : (k : ExportKind) (bytes : List ℕ) → SpellsExportKind k bytes → Chosen (λ b. lookup b export_kinds) Exported k bytes
export_chosen (export.Function x) bytes p =
    record { byte = 0x00; row = export.Function; found = refl; spelled = record { rest = p.rest; whole = p.whole; behind = (x, refl, p.behind) } }
export_chosen (export.Table x) bytes p =
    record { byte = 0x01; row = export.Table; found = refl; spelled = record { rest = p.rest; whole = p.whole; behind = (x, refl, p.behind) } }
export_chosen (export.Memory x) bytes p =
    record { byte = 0x02; row = export.Memory; found = refl; spelled = record { rest = p.rest; whole = p.whole; behind = (x, refl, p.behind) } }
export_chosen (export.Global x) bytes p =
    record { byte = 0x03; row = export.Global; found = refl; spelled = record { rest = p.rest; whole = p.whole; behind = (x, refl, p.behind) } }

chosen_export : (k : ExportKind) (bytes : List ℕ) → Chosen (λ b. lookup b export_kinds) Exported k bytes → SpellsExportKind k bytes
chosen_export k bytes p =
    let q = p.spelled.behind in
    subst (SpellsExportKind k) (sym p.spelled.whole) (subst (λ (j : ExportKind). SpellsExportKind j (p.byte ∷ p.spelled.rest)) q.1
    (found_in (λ b make. (x : ℕ) (rest : List ℕ) → SpellsU32 x rest → SpellsExportKind (make x) (b ∷ rest)) export_kinds (
      λ x rest s. record { rest = rest; whole = refl; behind = s },
      (
        λ x rest s. record { rest = rest; whole = refl; behind = s },
        (
          λ x rest s. record { rest = rest; whole = refl; behind = s },
          (λ x rest s. record { rest = rest; whole = refl; behind = s }, tt),
        ),
      ),
    )
    p.byte p.row p.found q.0 p.spelled.rest q.2))

export_kind_exact : Exact SpellsExportKind export_kind_at
unfolding export_kind_at
export_kind_exact =
    reworded (Chosen (λ b. lookup b export_kinds) Exported) SpellsExportKind export_kind_at export_chosen chosen_export
    (chosen_exact (λ b. lookup b export_kinds) Exported (λ make. map_at make u32_at) (λ make. map_exact SpellsU32 u32_at make u32_exact))

pub export_exact : Exact SpellsExport export_at
unfolding export_at
export_exact =
    carried (SpellsPair SpellsName SpellsExportKind) (pair_at name_at export_kind_at)
    (λ p. record { name = p.0; kind = p.1 }) (λ e. (e.name, e.kind)) (λ _. refl) (λ _. refl)
    (pair_exact SpellsName SpellsExportKind name_at export_kind_at name_exact export_kind_exact)

-- ---- globals, segments, codes

pub global_exact : (float : Bool) → Exact (SpellsGlobal float) (global_at float)
unfolding global_at
global_exact float =
    carried (SpellsPair (SpellsGlobalType float) (SpellsExpr float)) (pair_at (global_type_at float) (expr_at float))
    (λ p. record { kind = p.0; init = p.1 }) (λ g. (g.kind, g.init)) (λ _. refl) (λ _. refl)
    (pair_exact (SpellsGlobalType float) (SpellsExpr float) (global_type_at float) (expr_at float) (global_type_exact float) (expr_exact float))

pub element_exact : (float : Bool) → Exact (SpellsElement float) (element_at float)
unfolding element_at
element_exact float =
    carried (SpellsPair SpellsU32 (SpellsPair (SpellsExpr float) (SpellsList SpellsU32))) (pair_at u32_at (pair_at (expr_at float) (list_at u32_at)))
    (λ p. record { table = p.0; offset = p.1.0; functions = p.1.1 }) (λ e. (e.table, (e.offset, e.functions))) (λ _. refl) (λ _. refl)
    (pair_exact SpellsU32 (SpellsPair (SpellsExpr float) (SpellsList SpellsU32)) u32_at (pair_at (expr_at float) (list_at u32_at)) u32_exact
    (pair_exact (SpellsExpr float) (SpellsList SpellsU32) (expr_at float) (list_at u32_at) (expr_exact float) (list_exact SpellsU32 u32_at u32_exact)))

pub segment_exact : (float : Bool) → Exact (SpellsSegment float) (segment_at float)
unfolding segment_at
segment_exact float =
    carried (SpellsPair SpellsU32 (SpellsPair (SpellsExpr float) SpellsBytes)) (pair_at u32_at (pair_at (expr_at float) vec_bytes_at))
    (λ p. record { memory = p.0; offset = p.1.0; bytes = p.1.1 }) (λ s. (s.memory, (s.offset, s.bytes))) (λ _. refl) (λ _. refl)
    (pair_exact SpellsU32 (SpellsPair (SpellsExpr float) SpellsBytes) u32_at (pair_at (expr_at float) vec_bytes_at) u32_exact
    (pair_exact (SpellsExpr float) SpellsBytes (expr_at float) vec_bytes_at (expr_exact float) vec_bytes_exact))

run_exact : (float : Bool) → Exact (SpellsRun float) (run_at float)
unfolding run_at
run_exact float =
    carried (SpellsPair SpellsU32 (SpellsValType float)) (pair_at u32_at (val_type_at float))
    (λ p. record { count = p.0; kind = p.1 }) (λ r. (r.count, r.kind)) (λ _. refl) (λ _. refl)
    (pair_exact SpellsU32 (SpellsValType float) u32_at (val_type_at float) u32_exact (val_type_exact float))

func_exact : (float : Bool) → Exact (SpellsFunc float) (func_at float)
unfolding func_at
func_exact float =
    reworded (λ c bytes. (few_locals c ≡ true) × SpellsPair (SpellsList (SpellsRun float)) (SpellsExpr float) (c.locals, c.body) bytes) (SpellsFunc float) (func_at float)
    (λ c bytes p. (lt-ltb (sum_by (λ r. r.count) c.locals) (2 ^ 32) p.few, p.spelled))
    (λ c bytes p. record { few = ltb-true (sum_by (λ r. r.count) c.locals) (2 ^ 32) p.0; spelled = p.1 })
    (filter_exact (λ c. SpellsPair (SpellsList (SpellsRun float)) (SpellsExpr float) (c.locals, c.body))
    (map_at (λ p. record { locals = p.0; body = p.1 }) (pair_at (list_at (run_at float)) (expr_at float))) few_locals
    (carried (SpellsPair (SpellsList (SpellsRun float)) (SpellsExpr float)) (pair_at (list_at (run_at float)) (expr_at float))
    (λ p. record { locals = p.0; body = p.1 }) (λ c. (c.locals, c.body)) (λ _. refl) (λ _. refl)
    (pair_exact (SpellsList (SpellsRun float)) (SpellsExpr float) (list_at (run_at float)) (expr_at float)
    (list_exact (SpellsRun float) (run_at float) (run_exact float)) (expr_exact float))))

pub code_exact : (float : Bool) → Exact (SpellsCode float) (code_at float)
unfolding code_at
code_exact float = sized_exact SpellsU32 (SpellsFunc float) u32_at (func_at float) u32_exact (func_exact float)
