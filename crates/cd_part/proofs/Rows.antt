-- The definitions at known tables, by computing.
use Rattle.std.proofs.Common.{[], ◌∷◌, refl}
use Rattle.cd_types.specs.declared.primitive.Primitive.TheVariants.{Nat, Text}
use Rattle.cd_types.specs.declared.entry.TyRef.TheVariants.{Prim, Index}
use Rattle.cd_types.specs.declared.entry.Entry.TheVariants.{Opt, Seq, Rec, Func}
use Rattle.cd_part.specs.Meets.{done, primitive, again, first}
use Rattle.cd_part.specs.IsPart.{IsPart}

-- of five entries `record { 0 : 4; 1 : 2 }` at 3 needs itself, 4 and 2
three_of_five : IsPart
    (Opt (Index 0) ∷ Seq (Index 0) ∷ Opt (Prim Text) ∷ Rec ((0, Index 4) ∷ (1, Index 2) ∷ []) ∷ Seq (Index 2) ∷ [])
    (Index 3 ∷ Prim Nat ∷ Index 2 ∷ [])
    (Rec ((0, Index 1) ∷ (1, Index 2) ∷ []) ∷ Seq (Index 2) ∷ Opt (Prim Text) ∷ [], Index 0 ∷ Prim Nat ∷ Index 2 ∷ [])
three_of_five = record {
  met = 3 ∷ 4 ∷ 2 ∷ [];
  order = first _ refl refl (first _ refl refl (first _ refl refl (primitive (again 2 refl (primitive (again 2 refl done))))));
  entries = refl;
  references = refl;
}

-- a list of naturals, which is its own tail: `opt record { 0 : nat; 1 : list }`
a_list : IsPart
    (Opt (Prim Nat) ∷ Rec ((0, Prim Nat) ∷ (1, Index 2) ∷ []) ∷ Opt (Index 1) ∷ [])
    (Index 2 ∷ [])
    (Opt (Index 1) ∷ Rec ((0, Prim Nat) ∷ (1, Index 0) ∷ []) ∷ [], Index 0 ∷ [])
a_list = record {
  met = 2 ∷ 1 ∷ [];
  order = first _ refl refl (first _ refl refl (primitive (again 0 refl done)));
  entries = refl;
  references = refl;
}

-- a function: its arguments, then its results; its annotations stay
a_function : IsPart
    (Opt (Prim Text) ∷ Func (Index 2 ∷ []) (Index 0 ∷ []) (1 ∷ []) ∷ Seq (Prim Nat) ∷ [])
    (Index 1 ∷ [])
    (Func (Index 1 ∷ []) (Index 2 ∷ []) (1 ∷ []) ∷ Seq (Prim Nat) ∷ Opt (Prim Text) ∷ [], Index 0 ∷ [])
a_function = record {
  met = 1 ∷ 2 ∷ 0 ∷ [];
  order = first _ refl refl (first _ refl refl (primitive (first _ refl refl (primitive done))));
  entries = refl;
  references = refl;
}

-- an entry that is met twice is there once, and one that is met from no type is not there
met_twice : IsPart (Opt (Prim Nat) ∷ Seq (Prim Nat) ∷ []) (Index 1 ∷ Index 1 ∷ []) (Seq (Prim Nat) ∷ [], Index 0 ∷ Index 0 ∷ [])
met_twice = record { met = 1 ∷ []; order = first _ refl refl (primitive (again 0 refl done)); entries = refl; references = refl }
