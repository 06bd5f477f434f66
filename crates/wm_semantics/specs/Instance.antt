-- The store of a module that begins to run (WebAssembly Core 1.0, 4.5.4).
use Rattle.std.specs.Prelude.{ℕ, ◌+◌, ◌*◌, Bool, ◌&&◌, nat_le, List, [], ◌∷◌, ◌++◌, length, map, take, drop, replicate, Option, Some, None, cond}
use Rattle.std.specs.List.{list_all}
use Rattle.wm_tree.specs.declared.instr.Instr.{Instr}
use Rattle.wm_tree.specs.declared.instr.Instr.TheVariants as op
use Rattle.wm_tree.specs.declared.parts.Element.{Element}
use Rattle.wm_tree.specs.declared.parts.Segment.{Segment}
use Rattle.wm_tree.specs.declared.parts.Module.{Module}
use Rattle.wm_numeric.specs.Integers.{unsigned}
use Rattle.wm_store.specs.Lists.{Lists}
use Rattle.wm_store.specs.Fits.{minimum_of, maximum_of}

-- the value of a constant expression, of which there is one instruction
abbrev pub constant_of : List Instr → ℕ
constant_of (op.I32Const z ∷ []) = unsigned 32 z
constant_of (op.I64Const z ∷ []) = unsigned 64 z
constant_of _ = 0

-- the list with some elements in place of those from that place on
abbrev pub laid : {A : Type 0} → ℕ → List A → List A → List A
laid at ys xs = take at xs ++ (ys ++ drop (at + length ys) xs)

-- ---- segments: each is written over the ones before it

abbrev pub with_elements : List Element → List (Option ℕ) → List (Option ℕ)
with_elements [] table = table
with_elements (e ∷ elements) table = with_elements elements (laid (constant_of e.offset) (map (λ f. Some f) e.functions) table)

abbrev pub with_segments : List Segment → List ℕ → List ℕ
with_segments [] memory = memory
with_segments (s ∷ segments) memory = with_segments segments (laid (constant_of s.offset) s.bytes memory)

-- no segment passes the end of the table or of the memory; an empty one may be at the end
abbrev pub elements_fit : ℕ → List Element → Bool
elements_fit size elements = list_all (λ e. nat_le (constant_of e.offset + length e.functions) size) elements

abbrev pub segments_fit : ℕ → List Segment → Bool
segments_fit size segments = list_all (λ s. nat_le (constant_of s.offset + length s.bytes) size) segments

-- ---- the store

abbrev pub table_size : Module → ℕ
table_size m = minimum_of m.tables

abbrev pub memory_size : Module → ℕ
memory_size m = 65536 * minimum_of m.memories

abbrev pub first_store : Module → Lists
first_store m = record {
  memory = with_segments m.segments (replicate (memory_size m) 0);
  maximum = maximum_of m.memories;
  globals = map (λ g. constant_of g.init) m.globals;
  table = with_elements m.elements (replicate (table_size m) None);
  stable = [];
}

-- the store, or none where a segment is out of bounds: all are looked at before any is written
abbrev pub instance : Module → Option Lists
instance m = cond (elements_fit (table_size m) m.elements && segments_fit (memory_size m) m.segments) (Some (first_store m)) None
