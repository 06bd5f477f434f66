-- How deep blocks nest (WebAssembly Core 1.0, 2.4.5, control instructions). The standard sets no bound.
use Rattle.std.specs.Prelude.{ℕ, suc, max}
use Rattle.wm_tree.specs.Seq.{Seq, Empty, Plain, BlockOf, LoopOf, IfOf, IfElseOf}

-- the largest number of blocks that are open at a place
abbrev pub nesting : Seq → ℕ
nesting Empty = 0
nesting (Plain i rest) = nesting rest
nesting (BlockOf t body rest) = max (suc (nesting body)) (nesting rest)
nesting (LoopOf t body rest) = max (suc (nesting body)) (nesting rest)
nesting (IfOf t body rest) = max (suc (nesting body)) (nesting rest)
nesting (IfElseOf t body other rest) = max (suc (max (nesting body) (nesting other))) (nesting rest)
