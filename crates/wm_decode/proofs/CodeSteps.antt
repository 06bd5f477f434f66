-- Steps of the code that are not word for word those of the readers.
use Rattle.std.proofs.Common.{◌≡◌, ℕ, Bool, List, Option, Some, None, true, false, refl}
use Rattle.std.specs.Str.{IsUtf8, is_utf8}
use Rattle.std.proofs.lemmas.Str.{is_utf8-from_IsUtf8, IsUtf8-from_is_utf8}
use Rattle.ic_base.specs.Reader.{◌>>=◌}
use Rattle.wm_tree.specs.declared.types.MemArg.{MemArg}
use Rattle.wm_tree.specs.declared.instr.Instr.{Instr}
use Rattle.wm_decode.specs.Values.{lookup}
use Rattle.wm_decode.specs.Forms.{by_memory, memory_rows, other_rows, in_some, operand_form}
use Rattle.wm_decode.specs.Readers.{vec_bytes_at, name_at, mem_arg_at, memory_at, behind_at}

-- nothing is read after a value
none_after : {A B : Type 0} (read : Option A) → ◌≡◌ {A = Option B} None (read >>= λ _. None)
none_after (Some x) = refl
none_after None = refl

-- an opcode outside the other table is that of a load or store, or none
pub memory_same : (float : Bool) (o : ℕ) (bytes : List ℕ) → lookup o other_rows ≡ None → behind_at float None (operand_form o) bytes ≡ memory_at o bytes
memory_same float o bytes other = rw other (by_rows float (lookup o memory_rows) bytes)
  where
    by_rows : (float : Bool) (row : Option (MemArg → Instr)) (bytes : List ℕ)
        → behind_at float None (in_some by_memory row) bytes ≡ (mem_arg_at bytes >>= λ m. in_some (λ make. (make m.0, m.1)) row)
    by_rows float (Some make) bytes = refl
    by_rows float None bytes = none_after (mem_arg_at bytes)

-- a name is text
pub text_again : (bytes items rest text : List ℕ) → vec_bytes_at bytes ≡ Some (items, rest) → text ≡ items → IsUtf8 items → name_at bytes ≡ Some (text, rest)
unfolding name_at
text_again bytes items rest text e same utf8 = rw (e, is_utf8-from_IsUtf8 items utf8, same) refl

pub text_none : (bytes items rest : List ℕ) → vec_bytes_at bytes ≡ Some (items, rest) → (IsUtf8 items → ⊥) → name_at bytes ≡ None
unfolding name_at
text_none bytes items rest e none =
    let not_utf8 : is_utf8 items ≡ false =
    elim (is_utf8 items) as (λ t. is_utf8 items ≡ t → t ≡ false) [ true ↦ λ h. absurd (none (IsUtf8-from_is_utf8 items h)) | false ↦ λ _. refl ] refl in
    rw (e, not_utf8) refl
