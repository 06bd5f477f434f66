-- Instructions and expressions are read exactly.
use Rattle.std.proofs.Common.{◌≡◌, ℕ, Bool, true, false, List, [], ◌∷◌, ◌++◌, length, replicate, suc, zero, Option, Some, None, nat_eq, refl, sym, ap, subst, ◌∙◌, inl, inr}
use Rattle.std.specs.List.{AllByRecursion}
use Rattle.std.proofs.lemmas.Bool.{eqb-true}
use Rattle.ic_base.specs.Reader.{Reader, byte_at, bytes_at, both_at, filter_map_at}
use Rattle.ic_base.specs.Spelling.{Spelling, SpellsBoth}
use Rattle.ic_base.specs.Exact.{Exact}
use Rattle.ic_base.proofs.Steps.{bind_some}
use Rattle.ic_base.proofs.Exact.{exact_of, taken, reworded, byte_exact, bytes_exact, empty_exact, both_exact, map_exact, filter_exact, filter_map_exact}
use Rattle.ic_leb.specs.declared.width.Width.TheVariants.{Wasm32, Wasm64}
use Rattle.ic_leb.specs.Spells.{SpellsSigned}
use Rattle.ic_leb.specs.Reading.{signed_reader}
use Rattle.wm_tree.specs.declared.types.MemArg.{MemArg}
use Rattle.wm_tree.specs.declared.instr.Instr.{Instr}
use Rattle.wm_tree.specs.declared.instr.Instr.TheVariants as op
use Rattle.wm_tree.specs.Row.{Operands, none, block, index, labels, type_index, memory, reserved, prefixed, number32, number64, row_of}
use Rattle.wm_decode.specs.declared.floats.FloatOperands.{FloatOperands}
use Rattle.wm_decode.specs.declared.floats.FloatOperands.TheVariants as floating
use Rattle.wm_decode.specs.Values.{SpellsU32, SpellsPair, SpellsList, After, lookup}
use Rattle.wm_decode.specs.Types.{SpellsBlockType}
use Rattle.wm_decode.specs.Instructions.{SpellsZero, SpellsZeros, SpellsTable, SpellsMemArg, SpellsOperands, float_operands, SpellsFloatOperands, SpellsWord}
use Rattle.wm_decode.specs.Forms.{Form, plain, by_block, by_index, by_labels, by_type, by_memory, by_reserved, by_prefix, by_32, by_64, plain_rows, memory_rows, other_rows, row_form, operand_form, or_else, in_some}
use Rattle.wm_decode.specs.Readers.{u32_at, pair_at, list_at, block_type_at, zero_at, zeros_at, table_at, mem_arg_at, instr_at, float_at, floats, behind_at, word_at}
use Rattle.ic_leb.proofs.Readers.{signed_exact}
use Rattle.wm_decode.proofs.ExactValues.{u32_exact, pair_exact, list_exact, carried, found_in, first_byte}
use Rattle.wm_decode.proofs.ExactTypes.{block_type_exact}

pub zero_exact : Exact SpellsZero zero_at
unfolding zero_at
zero_exact =
    reworded (λ n bytes. (nat_eq n 0 ≡ true) × (bytes ≡ n ∷ [])) SpellsZero zero_at
    (λ n bytes p. rw p.0 (refl, p.1))
    (λ n bytes p. let n_is : n ≡ 0 = eqb-true n 0 p.0 in (n_is, p.1 ∙ ap (λ (b : ℕ). b ∷ []) n_is))
    (filter_exact (λ b bytes. bytes ≡ b ∷ []) byte_at (λ b. nat_eq b 0) byte_exact)

zeros_exact : (n : ℕ) → Exact (λ k bytes. (k ≡ n) × SpellsZeros k bytes) (zeros_at n)
zeros_exact zero =
    reworded (λ k bytes. (0 ≡ k) × (bytes ≡ [])) (λ k bytes. (k ≡ 0) × SpellsZeros k bytes) (zeros_at 0)
    (λ k bytes p. (sym p.0, p.1 ∙ ap (λ (m : ℕ). replicate m 0x00) p.0))
    (λ k bytes p. (sym p.0, p.1 ∙ ap (λ (m : ℕ). replicate m 0x00) p.0))
    (empty_exact 0)
zeros_exact (suc n) =
    let Before : Spelling ℕ = λ k bytes. (k ≡ n) × SpellsZeros k bytes in
    reworded (λ k bytes. (p : ℕ × ℕ) × (suc p.1 ≡ k) × SpellsPair SpellsZero Before p bytes) (λ k bytes. (k ≡ suc n) × SpellsZeros k bytes) (zeros_at (suc n))
    (λ k bytes p. (
      (0, n),
      sym p.0,
      record { front = 0x00 ∷ []; rest = replicate n 0x00; whole = p.1 ∙ ap (λ (m : ℕ). replicate m 0x00) p.0; first = (refl, refl); second = (refl, refl) },
    ))
    (λ k bytes p. (
      sym p.1 ∙ ap suc p.2.second.0,
      p.2.whole ∙ ap (λ (f : List ℕ). f ++ p.2.rest) p.2.first.1 ∙ ap (λ (r : List ℕ). 0x00 ∷ r) p.2.second.1 ∙ ap (λ (m : ℕ). replicate m 0x00) p.1,
    ))
    (map_exact (SpellsPair SpellsZero Before) (pair_at zero_at (zeros_at n)) (λ p. suc p.1) (pair_exact SpellsZero Before zero_at (zeros_at n) zero_exact (zeros_exact n)))

table_exact : Exact SpellsTable table_at
unfolding table_at
table_exact =
    reworded (λ n bytes. (nat_eq n 0 ≡ true) × SpellsU32 n bytes) SpellsTable table_at
    (λ n bytes p. (rw p.0 refl, p.1))
    (λ n bytes p. (eqb-true n 0 p.0, p.1))
    (filter_exact SpellsU32 u32_at (λ n. nat_eq n 0) u32_exact)

pub mem_arg_exact : Exact SpellsMemArg mem_arg_at
unfolding mem_arg_at
mem_arg_exact =
    carried (SpellsPair SpellsU32 SpellsU32) (pair_at u32_at u32_at) (λ p. record { align = p.0; offset = p.1 }) (λ m. (m.align, m.offset))
    (λ _. refl) (λ _. refl) (pair_exact SpellsU32 SpellsU32 u32_at u32_at u32_exact u32_exact)

-- ---- forms

-- a number that has a row, and the bytes 00 after it
abbrev SpellsRow : List (ℕ × (ℕ × Instr)) → Spelling (ℕ × Instr)
SpellsRow rows row bytes = (n : ℕ) × (lookup n rows ≡ Some row) × SpellsU32 n bytes

abbrev ZerosOf : ℕ × Instr → Spelling ℕ
ZerosOf row n bytes = (n ≡ row.0) × SpellsZeros n bytes

-- the bytes after the opcode spell the instruction, by its form
abbrev pub Formed : Bool → Form → Spelling Instr
Formed float (plain j) i bytes = (j ≡ i) × (bytes ≡ [])
Formed float (by_block f) i bytes = (t : _) × (f t ≡ i) × SpellsBlockType float t bytes
Formed float (by_index f) i bytes = (n : ℕ) × (f n ≡ i) × SpellsU32 n bytes
Formed float (by_labels f) i bytes = (p : List ℕ × ℕ) × (f p.0 p.1 ≡ i) × SpellsPair (SpellsList SpellsU32) SpellsU32 p bytes
Formed float (by_type f) i bytes = (p : ℕ × ℕ) × (f p.0 ≡ i) × SpellsPair SpellsU32 SpellsTable p bytes
Formed float (by_memory f) i bytes = (m : MemArg) × (f m ≡ i) × SpellsMemArg m bytes
Formed float (by_reserved j) i bytes = (n : ℕ) × (j ≡ i) × SpellsZero n bytes
Formed float (by_prefix rows) i bytes = (p : (ℕ × Instr) × ℕ) × (p.0.1 ≡ i) × SpellsBoth (SpellsRow rows) ZerosOf p bytes
Formed float (by_32 f) i bytes = (z : _) × (f z ≡ i) × SpellsSigned Wasm32 z bytes
Formed float (by_64 f) i bytes = (z : _) × (f z ≡ i) × SpellsSigned Wasm64 z bytes

pub formed_exact : (float : Bool) (f : Form) → Exact (Formed float f) (instr_at float f)
formed_exact float (plain i) = empty_exact i
formed_exact float (by_block f) = map_exact (SpellsBlockType float) (block_type_at float) f (block_type_exact float)
formed_exact float (by_index f) = map_exact SpellsU32 u32_at f u32_exact
formed_exact float (by_labels f) =
    map_exact (SpellsPair (SpellsList SpellsU32) SpellsU32) (pair_at (list_at u32_at) u32_at) (λ p. f p.0 p.1)
    (pair_exact (SpellsList SpellsU32) SpellsU32 (list_at u32_at) u32_at (list_exact SpellsU32 u32_at u32_exact) u32_exact)
formed_exact float (by_type f) =
    map_exact (SpellsPair SpellsU32 SpellsTable) (pair_at u32_at table_at) (λ p. f p.0) (pair_exact SpellsU32 SpellsTable u32_at table_at u32_exact table_exact)
formed_exact float (by_memory f) = map_exact SpellsMemArg mem_arg_at f mem_arg_exact
formed_exact float (by_reserved i) = map_exact SpellsZero zero_at (λ _. i) zero_exact
formed_exact float (by_prefix rows) =
    let read_row : Reader (ℕ × Instr) = filter_map_at (λ n. lookup n rows) u32_at in
    map_exact (SpellsBoth (SpellsRow rows) ZerosOf) (both_at read_row (λ row. zeros_at row.0)) (λ p. p.0.1)
    (both_exact (SpellsRow rows) ZerosOf read_row (λ row. zeros_at row.0)
    (filter_map_exact SpellsU32 u32_at (λ n. lookup n rows) u32_exact) (λ row. zeros_exact row.0))
formed_exact float (by_32 f) = map_exact (SpellsSigned Wasm32) (signed_reader Wasm32) f (signed_exact Wasm32)
formed_exact float (by_64 f) = map_exact (SpellsSigned Wasm64) (signed_reader Wasm64) f (signed_exact Wasm64)

-- ---- the two tables agree

-- the form makes the instruction of these operands
abbrev Makes : Form → Operands → Instr → Type 0
Makes (plain j) none i = j ≡ i
Makes (by_block f) (block t) i = f t ≡ i
Makes (by_index f) (index n) i = f n ≡ i
Makes (by_labels f) (labels ls l) i = f ls l ≡ i
Makes (by_type f) (type_index n) i = f n ≡ i
Makes (by_memory f) (memory m) i = f m ≡ i
Makes (by_reserved j) reserved i = j ≡ i
Makes (by_prefix rows) (prefixed n zeros) i = lookup n rows ≡ Some (zeros, i)
Makes (by_32 f) (number32 z) i = f z ≡ i
Makes (by_64 f) (number64 z) i = f z ≡ i
Makes _ _ i = ⊥

-- every instruction has its row among the forms
listed : (i : Instr) → (f : Form) × (row_form (row_of i).opcode ≡ Some f) × Makes f (row_of i).operands i
listed op.Nop = (_, refl, refl)
listed _ = (_, refl, refl)

-- and no row is that of a float instruction
no_float : (i : Instr) → float_operands (row_of i).opcode ≡ None
no_float op.Nop = refl
no_float _ = refl

formed_of : (float : Bool) (f : Form) (ops : Operands) (i : Instr) (bytes : List ℕ) → Makes f ops i → SpellsOperands float ops bytes → Formed float f i bytes
formed_of float (plain j) none i bytes m s = (m, s)
formed_of float (by_block f) (block t) i bytes m s = (t, m, s)
formed_of float (by_index f) (index n) i bytes m s = (n, m, s)
formed_of float (by_labels f) (labels ls l) i bytes m s = ((ls, l), m, s)
formed_of float (by_type f) (type_index n) i bytes m s = ((n, 0), m, s)
formed_of float (by_memory f) (memory x) i bytes m s = (x, m, s)
formed_of float (by_reserved j) reserved i bytes m s = (0, m, s)
formed_of float (by_prefix rows) (prefixed n zeros) i bytes m s =
    (((zeros, i), zeros), refl, record { front = s.front; rest = s.rest; whole = s.whole; first = (n, m, s.first); second = (refl, s.second) })
formed_of float (by_32 f) (number32 z) i bytes m s = (z, m, s)
formed_of float (by_64 f) (number64 z) i bytes m s = (z, m, s)
formed_of float _ _ i bytes m s = absurd m

-- a row after the prefix is that of its instruction
abbrev PrefixFits : ℕ → ℕ → ℕ × Instr → Type 0
PrefixFits o n row = ((row_of row.1).opcode ≡ o) × ((row_of row.1).operands ≡ prefixed n row.0)

-- a row of the forms is the row of the instruction that is made
abbrev RowFits : ℕ → Form → Type 0
RowFits o (plain i) = ((row_of i).opcode ≡ o) × ((row_of i).operands ≡ none)
RowFits o (by_block f) = (t : _) → ((row_of (f t)).opcode ≡ o) × ((row_of (f t)).operands ≡ block t)
RowFits o (by_index f) = (n : ℕ) → ((row_of (f n)).opcode ≡ o) × ((row_of (f n)).operands ≡ index n)
RowFits o (by_labels f) = (ls : List ℕ) (l : ℕ) → ((row_of (f ls l)).opcode ≡ o) × ((row_of (f ls l)).operands ≡ labels ls l)
RowFits o (by_type f) = (n : ℕ) → ((row_of (f n)).opcode ≡ o) × ((row_of (f n)).operands ≡ type_index n)
RowFits o (by_memory f) = (m : MemArg) → ((row_of (f m)).opcode ≡ o) × ((row_of (f m)).operands ≡ memory m)
RowFits o (by_reserved i) = ((row_of i).opcode ≡ o) × ((row_of i).operands ≡ reserved)
RowFits o (by_prefix rows) = AllByRecursion (λ r. PrefixFits o r.0 r.1) rows
RowFits o (by_32 f) = (z : _) → ((row_of (f z)).opcode ≡ o) × ((row_of (f z)).operands ≡ number32 z)
RowFits o (by_64 f) = (z : _) → ((row_of (f z)).opcode ≡ o) × ((row_of (f z)).operands ≡ number64 z)

plain_fit : AllByRecursion (λ r. RowFits r.0 (plain r.1)) plain_rows
plain_fit = search (refl, tt)

memory_fit : AllByRecursion (λ r. RowFits r.0 (by_memory r.1)) memory_rows
memory_fit = search (refl, tt)

other_fit : AllByRecursion (λ r. RowFits r.0 r.1) other_rows
other_fit = search (refl, tt)

-- what is found is in one of the three tables
row_fits : (o : ℕ) (f : Form) → row_form o ≡ Some f → RowFits o f
row_fits o f e =
    elim (lookup o plain_rows) as (λ p. lookup o plain_rows ≡ p → or_else (in_some plain p) (operand_form o) ≡ Some f → RowFits o f) [
      | Some i ↦ λ here same. let f_is : plain i ≡ f = cc in subst (RowFits o) f_is (found_in (λ n j. RowFits n (plain j)) plain_rows plain_fit o i here)
      | None ↦ λ _ rest.
          elim (lookup o other_rows) as (λ p. lookup o other_rows ≡ p → or_else p (in_some by_memory (lookup o memory_rows)) ≡ Some f → RowFits o f) [
            | Some g ↦ λ here same. let f_is : g ≡ f = cc in subst (RowFits o) f_is (found_in RowFits other_rows other_fit o g here)
            | None ↦ λ _ last.
                elim (lookup o memory_rows) as (λ p. lookup o memory_rows ≡ p → in_some by_memory p ≡ Some f → RowFits o f) [
                  | Some g ↦ λ here same. let f_is : by_memory g ≡ f = cc in subst (RowFits o) f_is (found_in (λ n h. RowFits n (by_memory h)) memory_rows memory_fit o g here)
                  | None ↦ λ _ none. absurd cc
                ] refl last
          ] refl rest
    ] refl e

-- what the form spells is what the instruction's row does
word_of : (float : Bool) (o : ℕ) (f : Form) (i : Instr) (bytes : List ℕ) → RowFits o f → Formed float f i bytes
    → ((row_of i).opcode ≡ o) × SpellsOperands float (row_of i).operands bytes
word_of float o (plain j) i bytes fit p = rw (sym p.0) (fit.0, rw fit.1 p.1)
word_of float o (by_block f) i bytes fit p = rw (sym p.1) ((fit p.0).0, rw ((fit p.0).1) p.2)
word_of float o (by_index f) i bytes fit p = rw (sym p.1) ((fit p.0).0, rw ((fit p.0).1) p.2)
word_of float o (by_labels f) i bytes fit p = rw (sym p.1) ((fit p.0.0 p.0.1).0, rw ((fit p.0.0 p.0.1).1) p.2)
word_of float o (by_type f) i bytes fit p = rw (sym p.1) ((fit p.0.0).0, rw ((fit p.0.0).1) (zero_second p.0.0 p.0.1 bytes p.2))
  where
    zero_second : (n z : ℕ) (bytes : List ℕ) → SpellsPair SpellsU32 SpellsTable (n, z) bytes → SpellsPair SpellsU32 SpellsTable (n, 0) bytes
    zero_second n z bytes q = subst (λ (k : ℕ). SpellsPair SpellsU32 SpellsTable (n, k) bytes) q.second.0 q
word_of float o (by_memory f) i bytes fit p = rw (sym p.1) ((fit p.0).0, rw ((fit p.0).1) p.2)
word_of float o (by_reserved j) i bytes fit p = rw (sym p.1) (fit.0, rw fit.1 (refl, p.2.1))
word_of float o (by_prefix rows) i bytes fit p =
    let s = p.2 in
    let found = found_in (PrefixFits o) rows fit s.first.0 p.0.0 s.first.1 in
    let zeros : SpellsZeros p.0.0.0 s.rest = s.second.1 ∙ ap (λ (m : ℕ). replicate m 0x00) s.second.0 in
    rw (sym p.1) (found.0, rw found.1 (record { front = s.front; rest = s.rest; whole = s.whole; first = s.first.2; second = zeros }))
word_of float o (by_32 f) i bytes fit p = rw (sym p.1) ((fit p.0).0, rw ((fit p.0).1) p.2)
word_of float o (by_64 f) i bytes fit p = rw (sym p.1) ((fit p.0).0, rw ((fit p.0).1) p.2)

-- ---- float instructions

floated_exact : (k : FloatOperands) → Exact (λ i bytes. (i ≡ op.Unreachable) × SpellsFloatOperands k bytes) (float_at k)
floated_exact floating.Nothing =
    reworded (λ i bytes. (op.Unreachable ≡ i) × (bytes ≡ [])) (λ i bytes. (i ≡ op.Unreachable) × (bytes ≡ [])) (float_at floating.Nothing)
    (λ i bytes p. (sym p.0, p.1)) (λ i bytes p. (sym p.0, p.1)) (empty_exact op.Unreachable)
floated_exact floating.Address =
    reworded (λ i bytes. (m : MemArg) × (op.Unreachable ≡ i) × SpellsMemArg m bytes) (λ i bytes. (i ≡ op.Unreachable) × SpellsFloatOperands floating.Address bytes)
    (float_at floating.Address) (λ i bytes p. (p.1.0, sym p.0, p.1.1)) (λ i bytes p. (sym p.1, (p.0, p.2)))
    (map_exact SpellsMemArg mem_arg_at (λ _. op.Unreachable) mem_arg_exact)
floated_exact (floating.Constant n) =
    reworded (λ i bytes. (xs : List ℕ) × (op.Unreachable ≡ i) × ((length xs ≡ n) × (bytes ≡ xs))) (λ i bytes. (i ≡ op.Unreachable) × (length bytes ≡ n))
    (float_at (floating.Constant n)) (λ i bytes p. (bytes, sym p.0, (p.1, refl))) (λ i bytes p. (sym p.1, ap length p.2.1 ∙ p.2.0))
    (map_exact (λ xs bytes. (length xs ≡ n) × (bytes ≡ xs)) (bytes_at n) (λ _. op.Unreachable) (bytes_exact n))

-- ---- words

-- what is read after an opcode
abbrev Behind : Bool → Option FloatOperands → Option Form → Spelling Instr
Behind float (Some k) form i bytes = (i ≡ op.Unreachable) × SpellsFloatOperands k bytes
Behind float None (Some form) i bytes = Formed float form i bytes
Behind float None None i bytes = ⊥

behind_exact : (float : Bool) (k : Option FloatOperands) (f : Option Form) → Exact (Behind float k f) (behind_at float k f)
behind_exact float (Some k) form = floated_exact k
behind_exact float None (Some form) = formed_exact float form
behind_exact float None None = exact_of (λ i bytes. ⊥) (λ bytes. None) (λ x front rest p. absurd p) (λ bytes x e. absurd cc)

floats_none : (float : Bool) (o : ℕ) → float_operands o ≡ None → floats float o ≡ None
floats_none false o e = refl
floats_none true o e = e

-- a word by its opcode and what is after it
word_behind : (float : Bool) (i : Instr) (bytes : List ℕ) → SpellsWord float i bytes → (o : ℕ) × After o (Behind float (floats float o) (row_form o) i) bytes
word_behind float i bytes (inl row) =
    let found = listed i in (
      (row_of i).opcode,
      record {
        rest = row.rest;
        whole = row.whole;
        behind = rw (floats_none float (row_of i).opcode (no_float i), found.1) (formed_of float found.0 (row_of i).operands i row.rest found.2 row.behind);
      },
    )
word_behind float i bytes (inr p) =
    let s = p.1 in (
      s.opcode,
      record {
        rest = s.spelled.rest;
        whole = s.spelled.whole;
        behind = rw (p.0, s.found) (s.stands, s.spelled.behind);
      },
    )

after_word : (float : Bool) (o : ℕ) (k : Option FloatOperands) (f : Option Form) (i : Instr) (rest : List ℕ) → floats float o ≡ k → row_form o ≡ f
    → Behind float k f i rest → SpellsWord float i (o ∷ rest)
after_word true o (Some k) f i rest e g p =
    inr (refl, record { stands = p.0; opcode = o; operands = k; found = e; spelled = record { rest = rest; whole = refl; behind = p.1 } })
after_word false o (Some k) f i rest e g p = absurd cc
after_word float o None (Some f) i rest e g p =
    let w = word_of float o f i rest (row_fits o f g) p in
    inl (record { rest = rest; whole = ap (λ (b : ℕ). b ∷ rest) (sym w.0); behind = w.1 })
after_word float o None None i rest e g p = absurd p

pub word_exact : (float : Bool) → Exact (SpellsWord float) (word_at float)
unfolding word_at
word_exact float = exact_of (SpellsWord float) (word_at float)
    (λ i front rest p.
    let w = word_behind float i front p in
    rw w.1.whole ((behind_exact float (floats float w.0) (row_form w.0)).again i w.1.rest rest w.1.behind))
    (λ bytes z e.
    let a = bind_some (byte_at bytes) (λ o. behind_at float (floats float o.0) (row_form o.0) o.1) z e in
    let t = taken (Behind float (floats float a.0.0) (row_form a.0.0)) (behind_at float (floats float a.0.0) (row_form a.0.0))
    (behind_exact float (floats float a.0.0) (row_form a.0.0)) a.0.1 z a.2 in
    record {
      front = a.0.0 ∷ t.front;
      parts = first_byte bytes a.0 a.1 ∙ ap (λ (r : List ℕ). a.0.0 ∷ r) t.parts;
      spelled = after_word float a.0.0 (floats float a.0.0) (row_form a.0.0) z.0 t.front refl refl t.spelled;
    })
