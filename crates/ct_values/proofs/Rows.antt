-- The definition at known tokens, by computing.
use Rattle.std.proofs.Common.{◌≡◌, [], ◌∷◌, true, false, Some, None, refl}
use Rattle.std.specs.Prelude.{codes}
use Rattle.cd_types.specs.declared.primitive.Primitive.TheVariants as primitives
use Rattle.cd_types.specs.declared.entry.TyRef.TheVariants.{Prim, Index}
use Rattle.cd_types.specs.declared.entry.Entry.TheVariants.{Opt, Seq, Rec}
use Rattle.cd_codec.specs.Content.{nat, plain, none}
use Rattle.cd_tokens.specs.Token.{run, mark}
use Rattle.cd_tokens.specs.ReadNumeral.{digits_from, numeral_of, natural_of}
use Rattle.cd_tokens.specs.ReadLabel.{label_of}
use Rattle.cd_plain.specs.ReadPlain.{primitive_at, natural_at}
use Rattle.ct_values.specs.declared.reader.Admitted.{Admitted}
use Rattle.ct_values.specs.Steps.{anything, named, exactly, sequence, some_fields}
use Rattle.ct_values.specs.Spelled.{parts_at, fields_said_at, missing_from, entry_at, value_at, spelled}

patterns : Admitted
patterns = record { patterns = true; names = false }

-- vec { _; 5 }
a_hole_in_a_vec : spelled patterns (Seq (Prim primitives.Nat) ∷ []) (Index 0 ∷ []) (run (codes "vec") ∷ mark 123 ∷ run (codes "_") ∷ mark 59 ∷ run (codes "5") ∷ mark 125 ∷ [])
    ≡ Some (sequence 2 ∷ anything ∷ exactly (plain (nat 5)) ∷ [])
unfolding patterns spelled value_at entry_at parts_at primitive_at natural_at natural_of numeral_of digits_from
a_hole_in_a_vec = refl

-- _ : nat
no_type_after_a_hole : spelled patterns [] (Prim primitives.Nat ∷ []) (run (codes "_") ∷ mark 58 ∷ run (codes "nat") ∷ []) ≡ None
unfolding patterns spelled value_at
no_type_after_a_hole = refl

-- record { 1 = let n; .. }
others_are_any : spelled patterns (Rec ((0, Prim primitives.Text) ∷ (1, Prim primitives.Nat) ∷ []) ∷ []) (Index 0 ∷ [])
    (run (codes "record") ∷ mark 123 ∷ run (codes "1") ∷ mark 61 ∷ run (codes "let") ∷ run (codes "n") ∷ mark 59 ∷ mark 46 ∷ mark 46 ∷ mark 125 ∷ [])
    ≡ Some (some_fields (1 ∷ []) ∷ named (codes "n") (Prim primitives.Nat) ∷ [])
unfolding patterns spelled value_at entry_at fields_said_at label_of natural_of numeral_of digits_from
others_are_any = refl

-- record {}, where a field may be missing
one_missing : spelled patterns (Rec ((7, Index 1) ∷ []) ∷ Opt (Prim primitives.Nat) ∷ []) (Index 0 ∷ []) (run (codes "record") ∷ mark 123 ∷ mark 125 ∷ []) ≡ Some (some_fields (0 ∷ []) ∷ exactly none ∷ [])
unfolding patterns spelled value_at entry_at fields_said_at missing_from
one_missing = refl
