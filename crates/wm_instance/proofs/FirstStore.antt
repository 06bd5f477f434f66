-- The store of a valid module fits the module.
use Rattle.std.proofs.Common.{◌≡◌, ℕ, ◌+◌, ◌<◌, ◌≤◌, true, cond, List, [], ◌∷◌, length, map, replicate, Option, Some, None, refl, sym, ap, subst, ◌∙◌, arith}
use Rattle.std.specs.Prelude.{All, IfSome, nat_le, nat_lt, count_by, filter_map}
use Rattle.std.specs.List.{list_all, cons_option}
use Rattle.std.proofs.lemmas.Bool.{leb-true, ltb-true}
use Rattle.std.proofs.lemmas.List.{length-append, length-replicate}
use Rattle.std.proofs.lemmas.List.Sums.{AllPass-from_list_all, sum_by-cons}
use Rattle.std.proofs.lemmas.List.Elements.{All-weaker, All-map, All-replicate}
use Rattle.wm_numeric.proofs.Ranges.{unsigned_below}
use Rattle.wm_tree.specs.declared.types.ValType.{ValType}
use Rattle.wm_tree.specs.declared.types.ValType.TheVariants.{I32, I64}
use Rattle.wm_tree.specs.declared.types.Limits.{Limits}
use Rattle.wm_tree.specs.declared.instr.Instr.{Instr}
use Rattle.wm_tree.specs.declared.instr.Instr.TheVariants as op
use Rattle.wm_tree.specs.declared.parts.ImportKind.{ImportKind}
use Rattle.wm_tree.specs.declared.parts.ImportKind.TheVariants as import
use Rattle.wm_tree.specs.declared.parts.Import.{Import}
use Rattle.wm_tree.specs.declared.parts.Element.{Element}
use Rattle.wm_tree.specs.declared.parts.GlobalDef.{GlobalDef}
use Rattle.wm_tree.specs.declared.parts.Module.{Module}
use Rattle.wm_typing.proofs.Past.{both_true}
use Rattle.wm_valid.specs.Space.{function_kind, imported_type, function_types}
use Rattle.wm_valid.specs.Indices.{all_within, limits_within, maximum_within, is_type, constant_type, is_constant, all_below, element_in_range}
use Rattle.wm_valid.specs.Passes.{Passes}
use Rattle.wm_store.specs.Values.{limit_of, AreValues}
use Rattle.wm_store.specs.Lists.{page_limit, pages_of}
use Rattle.wm_store.specs.Fits.{is_function, function_count, minimum_of, maximum_of, Fits}
use Rattle.wm_semantics.specs.Instance.{constant_of, laid, with_elements, elements_fit, segments_fit, table_size, memory_size, first_store}
use Rattle.wm_instance.proofs.Laid.{All-laid, length-with_elements, length-with_segments}

-- ---- memory

-- a declared maximum is not below the minimum
minimum_below : (range : ℕ) (limits : List Limits) → all_within range limits ≡ true → IfSome (maximum_of limits) (λ most. minimum_of limits ≤ most)
minimum_below range [] e = tt
minimum_below range (l ∷ limits) e = below l.max (both_true (nat_le l.min range) (maximum_within range l.min l.max) (both_true (limits_within range l) (all_within range limits) e).0).1
  where
    below : (max : Option ℕ) → maximum_within range l.min max ≡ true → IfSome max (λ most. l.min ≤ most)
    below None e = tt
    below (Some most) e = leb-true l.min most (both_true (nat_le most range) (nat_le l.min most) e).1

declared_above : (m : Module) → Passes m → IfSome (maximum_of m.memories) (λ most. minimum_of m.memories ≤ most)
declared_above m p = minimum_below 65536 m.memories (both_true (nat_le (length m.memories) 1) (all_within 65536 m.memories) p.memories).1

few_pages : (limits : List Limits) → list_all (λ l. nat_le l.min 256) limits ≡ true → minimum_of limits ≤ 256
few_pages [] e = omega arith
few_pages (l ∷ limits) e = leb-true l.min 256 (both_true (nat_le l.min 256) (list_all (λ k. nat_le k.min 256) limits) e).0

within_limit : (least : ℕ) (max : Option ℕ) → least ≤ 256 → IfSome max (λ most. least ≤ most) → least ≤ page_limit max
within_limit least None few below = few
within_limit least (Some most) few below = omega arith

pub pages_within : (m : Module) → Passes m → minimum_of m.memories ≤ page_limit (maximum_of m.memories)
pages_within m p = within_limit (minimum_of m.memories) (maximum_of m.memories) (few_pages m.memories p.memory_sizes) (declared_above m p)

-- ---- globals

constant_below : (t : ValType) (i : Instr) → is_type t (constant_type i) ≡ true → constant_of (i ∷ []) < limit_of t
constant_below I32 (op.I32Const z) e = unsigned_below 32 z
constant_below I64 (op.I64Const z) e = unsigned_below 64 z
constant_below I32 (op.I64Const z) e = absurd cc
constant_below I64 (op.I32Const z) e = absurd cc
constant_below t _ e = absurd cc

global_below : (t : ValType) (words : List Instr) → is_constant t words ≡ true → constant_of words < limit_of t
global_below t [] e = absurd cc
global_below t (i ∷ []) e = constant_below t i e
global_below t (i ∷ j ∷ words) e = absurd cc

are_values : (globals : List GlobalDef) → list_all (λ g. is_constant g.kind.kind g.init) globals ≡ true → AreValues (map (λ g. g.kind.kind) globals) (map (λ g. constant_of g.init) globals)
are_values [] e = tt
are_values (g ∷ globals) e =
    let both = both_true (is_constant g.kind.kind g.init) (list_all (λ h. is_constant h.kind.kind h.init) globals) e in
    (global_below g.kind.kind g.init both.0, are_values globals both.1)

-- ---- table

kind_counts : (kind : ImportKind) (indices : List ℕ) → length (cons_option (function_kind kind) indices) ≡ cond (is_function kind) 1 0 + length indices
kind_counts (import.Function t) indices = omega arith
kind_counts (import.Table l) indices = omega arith
kind_counts (import.Memory l) indices = omega arith
kind_counts (import.Global g) indices = omega arith

count_functions : (imports : List Import) → length (filter_map imported_type imports) ≡ count_by (λ i. is_function i.kind) imports
count_functions [] = refl
count_functions (i ∷ imports) =
    kind_counts i.kind (filter_map imported_type imports) ∙ ap (λ (n : ℕ). cond (is_function i.kind) 1 0 + n) (count_functions imports)
    ∙ sym (sum_by-cons (λ (j : Import). cond (is_function j.kind) 1 0) i imports)

abbrev IsEntry : ℕ → Option ℕ → Type 0
IsEntry count entry = IfSome entry (λ f. f < count)

are_entries : (tables count : ℕ) (elements : List Element) (table : List (Option ℕ)) → list_all (element_in_range tables count) elements ≡ true → All (IsEntry count) table → All (IsEntry count) (with_elements elements table)
are_entries tables count [] table e all = all
are_entries tables count (x ∷ elements) table e all =
    let both = both_true (element_in_range tables count x) (list_all (element_in_range tables count) elements) e in
    let below = (both_true _ (all_below count x.functions) both.0).1 in
    let functions = All-map (IsEntry count) (λ (f : ℕ). Some f) x.functions (All-weaker (λ (f : ℕ). nat_lt f count ≡ true) (λ (f : ℕ). f < count) (λ f. ltb-true f count) x.functions (AllPass-from_list_all (λ (f : ℕ). nat_lt f count) x.functions below)) in
    are_entries tables count elements (laid (constant_of x.offset) (map (λ (f : ℕ). Some f) x.functions) table) both.1
    (All-laid (IsEntry count) (constant_of x.offset) (map (λ (f : ℕ). Some f) x.functions) table functions all)

-- ---- the whole store

pub first_store_fits : (m : Module) → Passes m → elements_fit (table_size m) m.elements ≡ true → segments_fit (memory_size m) m.segments ≡ true → Fits m (first_store m)
first_store_fits m p elements segments =
    let long = length-with_segments (memory_size m) m.segments (replicate (memory_size m) 0) segments (length-replicate (memory_size m) 0) in
    let pages : pages_of (first_store m).memory ≡ minimum_of m.memories = omega arith in
    let few = few_pages m.memories p.memory_sizes in
    let none = All-replicate (IsEntry (length (function_types m))) (table_size m) None tt in
    let count : length (function_types m) ≡ function_count m = length-append (filter_map imported_type m.imports) m.functions ∙ ap (λ (n : ℕ). n + length m.functions) (count_functions m.imports) in
    record {
      table = length-with_elements (table_size m) m.elements (replicate (table_size m) None) elements (length-replicate (table_size m) None);
      entries = subst (λ (n : ℕ). All (IsEntry n) (first_store m).table) count (are_entries (length m.tables) (length (function_types m)) m.elements (replicate (table_size m) None) p.elements none);
      globals = are_values m.globals p.globals;
      maximum = refl;
      whole = omega arith;
      least = omega arith;
      declared = subst (λ (n : ℕ). IfSome (maximum_of m.memories) (λ most. n ≤ most)) (sym pages) (declared_above m p);
      most = omega arith;
    }
