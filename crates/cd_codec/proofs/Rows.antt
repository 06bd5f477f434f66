-- The definitions at known messages, by computing.
use Rattle.std.proofs.Common.{◌≡◌, [], ◌∷◌, refl}
use Rattle.cd_types.specs.declared.primitive.Primitive.TheVariants as primitives
use Rattle.cd_types.specs.declared.entry.TyRef.TheVariants.{Prim, Index}
use Rattle.cd_types.specs.declared.entry.Entry.TheVariants.{Opt, Seq, Rec}
use Rattle.cd_codec.specs.Content.{nat, plain, none, some, record_of, no_part, part}
use Rattle.cd_codec.specs.Message.{message_spelling}
use Rattle.ic_leb.specs.Spelling.{seven_bits_each, unsigned_spelling, signed_spelling}
use Rattle.cd_codec.specs.Spelling.{plain_spelling, spelling}

-- 42 at nat
nat_42 : message_spelling [] (Prim primitives.Nat ∷ []) (plain (nat 42) ∷ []) ≡ 0x44 ∷ 0x49 ∷ 0x44 ∷ 0x4c ∷ 0x00 ∷ 0x01 ∷ 0x7d ∷ 0x2a ∷ []
unfolding seven_bits_each unsigned_spelling signed_spelling plain_spelling spelling
nat_42 = refl

-- no argument, and a type that nothing names
nothing : message_spelling (Seq (Prim primitives.Principal) ∷ []) [] [] ≡ 0x44 ∷ 0x49 ∷ 0x44 ∷ 0x4c ∷ 0x01 ∷ 0x6d ∷ 0x68 ∷ 0x00 ∷ []
unfolding seven_bits_each unsigned_spelling signed_spelling
nothing = refl

-- a list of two cells: opt record { nat; 0 }
cells : message_spelling (Opt (Index 1) ∷ Rec ((0, Prim primitives.Nat) ∷ (1, Index 0) ∷ []) ∷ []) (Index 0 ∷ [])
    (some (record_of (part 0 (plain (nat 5)) (part 1 none no_part))) ∷ [])
    ≡ 0x44 ∷ 0x49 ∷ 0x44 ∷ 0x4c ∷ 0x02 ∷ 0x6e ∷ 0x01 ∷ 0x6c ∷ 0x02 ∷ 0x00 ∷ 0x7d ∷ 0x01 ∷ 0x00 ∷ 0x01 ∷ 0x00 ∷ 0x01 ∷ 0x05 ∷ 0x00 ∷ []
unfolding seven_bits_each unsigned_spelling signed_spelling plain_spelling spelling
cells = refl
