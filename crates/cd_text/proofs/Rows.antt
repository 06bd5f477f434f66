-- The definitions at known texts, by computing.
use Rattle.std.proofs.Common.{◌≡◌, [], ◌∷◌, true, Some, refl}
use Rattle.std.specs.Prelude.{codes}
use Rattle.cd_types.specs.declared.primitive.Primitive.TheVariants as primitives
use Rattle.cd_types.specs.declared.entry.TyRef.TheVariants.{Prim, Index}
use Rattle.cd_types.specs.declared.entry.Entry.TheVariants.{Seq, Rec}
use Rattle.cd_codec.specs.Content.{bool, nat, plain, blob, record_of, no_part, part}
use Rattle.cd_tokens.specs.Token.{run, mark}
use Rattle.cd_tokens.specs.ReadNumeral.{digits_from, numeral_of, natural_of}
use Rattle.cd_tokens.specs.ReadLabel.{label_of}
use Rattle.cd_plain.specs.Printed.{printed, value_text}
use Rattle.cd_tokens.specs.ReadParts.{parts_at}
use Rattle.cd_text.specs.ReadSaid.{arguments_at, value_at, entry_at, made}
use Rattle.cd_plain.specs.ReadPlain.{primitive_at, natural_at, bool_at}
use Rattle.cd_text.specs.Words.{name_of}

-- (blob "\00\61")
blob_printed : printed (Seq (Prim primitives.Nat8) ∷ []) (Index 0 ∷ []) (blob (0 ∷ 97 ∷ []) ∷ [])
    ≡ 40 ∷ 98 ∷ 108 ∷ 111 ∷ 98 ∷ 32 ∷ 34 ∷ 92 ∷ 48 ∷ 48 ∷ 92 ∷ 54 ∷ 49 ∷ 34 ∷ 41 ∷ []
unfolding value_text
blob_printed = refl

-- (42 : nat, true,)
two_read : arguments_at [] (Prim primitives.Nat ∷ Prim primitives.Bool ∷ [])
    (mark 40 ∷ run (codes "42") ∷ mark 58 ∷ run (codes "nat") ∷ mark 44 ∷ run (codes "true") ∷ mark 44 ∷ mark 41 ∷ [])
    ≡ Some (plain (nat 42) ∷ plain (bool true) ∷ [])
unfolding arguments_at value_at parts_at primitive_at natural_at bool_at name_of digits_from numeral_of natural_of
two_read = refl

-- (record { id = 1_000 }), and 23515 is the id of id
record_read : arguments_at (Rec ((23515, Prim primitives.Nat) ∷ []) ∷ []) (Index 0 ∷ [])
    (mark 40 ∷ run (codes "record") ∷ mark 123 ∷ run (codes "id") ∷ mark 61 ∷ run (codes "1_000") ∷ mark 125 ∷ mark 41 ∷ [])
    ≡ Some (record_of (part 23515 (plain (nat 1000)) no_part) ∷ [])
unfolding arguments_at value_at parts_at entry_at made primitive_at natural_at digits_from numeral_of natural_of label_of
record_read = refl
