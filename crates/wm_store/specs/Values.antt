-- Values as numbers (WebAssembly Core 1.0, 4.2.1): an integer is the number of its bits.
use Rattle.std.specs.Prelude.{ℕ, ◌<◌, ◌^◌, List, [], ◌∷◌}
use Rattle.wm_tree.specs.declared.types.ValType.{ValType}
use Rattle.wm_tree.specs.declared.types.ValType.TheVariants.{I32, I64}

-- a value of the type is a number below this
abbrev pub limit_of : ValType → ℕ
limit_of I32 = 2 ^ 32
limit_of I64 = 2 ^ 64

-- a value of each type, in order
abbrev pub AreValues : List ValType → List ℕ → Type 0
AreValues [] [] = Unit {0}
AreValues [] (v ∷ vs) = ⊥
AreValues (t ∷ ts) [] = ⊥
AreValues (t ∷ ts) (v ∷ vs) = (v < limit_of t) × AreValues ts vs
