-- The sequence whose words a flat list is.
use Rattle.std.specs.Prelude.{List, [], ◌∷◌, Option}
use Rattle.wm_tree.specs.declared.types.ValType.{ValType}
use Rattle.wm_tree.specs.declared.class.Class.{Class}
use Rattle.wm_tree.specs.declared.class.Class.TheVariants.{Opens, Turns, Closes, Fixed, Memory, Access, Special}
use Rattle.wm_tree.specs.declared.class.Shape.{Shape}
use Rattle.wm_tree.specs.declared.class.Shape.TheVariants as shape
use Rattle.wm_tree.specs.declared.instr.Instr.{Instr}
use Rattle.wm_tree.specs.Row.{row_of}
use Rattle.wm_tree.specs.Seq.{Seq, Empty, Plain, BlockOf, LoopOf, IfOf, IfElseOf}

-- what comes after an `end` or an `else` that no word before it opens
pub data Behind : Type 0 where
  by_end : Seq → Behind
  by_else : Seq → Behind

-- the sequence up to the first such word, and what comes after each of them
pub record Parts : Type 0 where
  pub first : Seq
  pub others : List Behind

abbrev pub parts : Seq → List Behind → Parts
parts first others = record { first = first; others = others }

-- a block around the first part, its rest the part after; nothing where no `end` closes it
abbrev pub closed : Shape → Option ValType → Seq → List Behind → Parts
closed shape.Block t body (by_end rest ∷ others) = parts (BlockOf t body rest) others
closed shape.Loop t body (by_end rest ∷ others) = parts (LoopOf t body rest) others
closed shape.If t body (by_end rest ∷ others) = parts (IfOf t body rest) others
closed shape.If t body (by_else other ∷ (by_end rest ∷ others)) =
    parts (IfElseOf t body other rest) others
closed shape t body others = parts Empty []

-- one word before the parts
abbrev pub before : Instr → Class → Parts → Parts
before i (Opens shape t) p = closed shape t p.first p.others
before i Turns p = parts Empty (by_else p.first ∷ p.others)
before i Closes p = parts Empty (by_end p.first ∷ p.others)
before i (Fixed signature) p = parts (Plain i p.first) p.others
before i (Memory signature) p = parts (Plain i p.first) p.others
before i (Access signature arg natural) p = parts (Plain i p.first) p.others
before i Special p = parts (Plain i p.first) p.others

-- the parts of a list of words
abbrev pub parts_of : List Instr → Parts
parts_of [] = parts Empty []
parts_of (i ∷ words) = before i (row_of i).class (parts_of words)

-- the sequence of a list of words
abbrev pub tree_of : List Instr → Seq
tree_of words = (parts_of words).first
