-- What a well formed table says of its values.
use Rattle.std.proofs.Common.{◌≡◌, ℕ, zero, suc, List, Some, ◌<◌, ◌-◌, refl, arith}
use Rattle.std.specs.Prelude.{slice_get}
use Rattle.cd_types.specs.declared.entry.TyRef.{TyRef}
use Rattle.cd_types.specs.declared.entry.TyRef.TheVariants.{Index}
use Rattle.cd_types.specs.declared.entry.Entry.{Entry}
use Rattle.cd_codec.specs.ReadValue.{entry_at, value_at}

-- a value of an index is one of its entry
pub entry_value : (table : List Entry) (depth left i : ℕ) (type : TyRef) (entry : Entry) (bytes : List ℕ) → 0 < depth → 0 < left → type ≡ Index i → slice_get table i ≡ Some entry
    → value_at table depth type left bytes ≡ entry_at (value_at table (depth - 1)) entry (left - 1) bytes
unfolding value_at
entry_value table zero left i type entry bytes deep more is at = absurd (omega arith)
entry_value table (suc depth) zero i type entry bytes deep more is at = absurd (omega arith)
entry_value table (suc depth) (suc left) i type entry bytes deep more is at =
    let d : suc depth - 1 ≡ depth = omega arith in
    let l : suc left - 1 ≡ left = omega arith in
    rw (d, l, is, at) refl
