-- No check fails exactly where each passes.
use Rattle.std.proofs.Common.{◌≡◌, ℕ, Bool, true, false, List, [], ◌∷◌, Option, Some, None, refl}
use Rattle.std.specs.Prelude.{option_map}
use Rattle.std.specs.Option.{option_or}
use Rattle.wm_tree.specs.declared.parts.Module.{Module}
use Rattle.wm_valid.specs.declared.invalid.Invalid.TheVariants as fault
use Rattle.wm_valid.specs.Imports.{least_other, import_fault}
use Rattle.wm_valid.specs.Indices.{first_failing, types_in_range, functions_in_range, tables_in_range, memories_in_range, globals_in_range, exports_in_range, starts_procedure, elements_in_range, segments_in_range, index_fault}
use Rattle.wm_valid.specs.Sizes.{tables_fit, memories_fit, frames_fit, size_fault}
use Rattle.wm_valid.specs.Entries.{least_bad, entry_fault}
use Rattle.wm_valid.specs.Bodies.{least_deep, least_untyped, nesting_fault, typing_fault}
use Rattle.wm_valid.specs.Checked.{checked}
use Rattle.wm_valid.specs.Passes.{Passes}

pub or_none : {A : Type 0} (a b : Option A) → option_or a b ≡ None → (a ≡ None) × (b ≡ None)
or_none None b e = (refl, e)
or_none (Some x) b e = absurd cc

pub map_none : {A B : Type 0} (f : A → B) (a : Option A) → option_map f a ≡ None → a ≡ None
map_none f None e = refl
map_none f (Some x) e = absurd cc

passes_first : (s : ℕ) (passes : Bool) (rest : List (ℕ × Bool)) → first_failing ((s, passes) ∷ rest) ≡ None → (passes ≡ true) × (first_failing rest ≡ None)
passes_first s true rest e = (refl, e)
passes_first s false rest e = absurd cc

module _ (m : Module) where
  abbrev indices8 : List (ℕ × Bool)
  indices8 = (11, segments_in_range m) ∷ []

  abbrev indices7 : List (ℕ × Bool)
  indices7 = (9, elements_in_range m) ∷ indices8

  abbrev indices6 : List (ℕ × Bool)
  indices6 = (8, starts_procedure m m.start) ∷ indices7

  abbrev indices5 : List (ℕ × Bool)
  indices5 = (7, exports_in_range m) ∷ indices6

  abbrev indices4 : List (ℕ × Bool)
  indices4 = (6, globals_in_range m) ∷ indices5

  abbrev indices3 : List (ℕ × Bool)
  indices3 = (5, memories_in_range m) ∷ indices4

  abbrev indices2 : List (ℕ × Bool)
  indices2 = (4, tables_in_range m) ∷ indices3

  abbrev indices1 : List (ℕ × Bool)
  indices1 = (3, functions_in_range m) ∷ indices2

  abbrev indices0 : List (ℕ × Bool)
  indices0 = (1, types_in_range m) ∷ indices1

  abbrev sizes2 : List (ℕ × Bool)
  sizes2 = (10, frames_fit m) ∷ []

  abbrev sizes1 : List (ℕ × Bool)
  sizes1 = (5, memories_fit m) ∷ sizes2

  abbrev sizes0 : List (ℕ × Bool)
  sizes0 = (4, tables_fit m) ∷ sizes1

  -- the checks of indices and limits
  index_checks : index_fault m ≡ None → first_failing indices0 ≡ None
  index_checks e = map_none (λ s. fault.Index s) (first_failing indices0) e

  size_checks : size_fault m ≡ None → first_failing sizes0 ≡ None
  size_checks e = map_none (λ s. fault.Size s) (first_failing sizes0) e

  pub passes_of_checked : checked m ≡ None → Passes m
  passes_of_checked e =
      let e1 = or_none (import_fault m) _ e in
      let e2 = or_none (index_fault m) _ e1.1 in
      let e3 = or_none (size_fault m) _ e2.1 in
      let e4 = or_none (entry_fault m) _ e3.1 in
      let e5 = or_none (nesting_fault m) (typing_fault m) e4.1 in
      let i0 = passes_first 1 (types_in_range m) indices1 (index_checks e2.0) in
      let i1 = passes_first 3 (functions_in_range m) indices2 (i0.1) in
      let i2 = passes_first 4 (tables_in_range m) indices3 (i1.1) in
      let i3 = passes_first 5 (memories_in_range m) indices4 (i2.1) in
      let i4 = passes_first 6 (globals_in_range m) indices5 (i3.1) in
      let i5 = passes_first 7 (exports_in_range m) indices6 (i4.1) in
      let i6 = passes_first 8 (starts_procedure m m.start) indices7 (i5.1) in
      let i7 = passes_first 9 (elements_in_range m) indices8 (i6.1) in
      let i8 = passes_first 11 (segments_in_range m) [] (i7.1) in
      let s0 = passes_first 4 (tables_fit m) sizes1 (size_checks e3.0) in
      let s1 = passes_first 5 (memories_fit m) sizes2 (s0.1) in
      let s2 = passes_first 10 (frames_fit m) [] (s1.1) in
      record {
        imports = map_none (λ n. fault.Import n) (least_other m.types m.imports) e1.0;
        types = i0.0;
        functions = i1.0;
        tables = i2.0;
        memories = i3.0;
        globals = i4.0;
        exports = i5.0;
        start = i6.0;
        elements = i7.0;
        segments = i8.0;
        table_sizes = s0.0;
        memory_sizes = s1.0;
        frame_sizes = s2.0;
        entries = map_none (λ n. fault.Entry n) (least_bad m 0 m.exports) e4.0;
        nesting = map_none (λ n. fault.Nesting n) (least_deep m) e5.0;
        typing = map_none (λ n. fault.Untyped n) (least_untyped m) e5.1;
      }

  pub checked_of_passes : Passes m → checked m ≡ None
  checked_of_passes p =
      rw (p.imports, p.types, p.functions, p.tables, p.memories, p.globals, p.exports, p.start, p.elements, p.segments, p.table_sizes, p.memory_sizes, p.frame_sizes, p.entries, p.nesting, p.typing) refl
