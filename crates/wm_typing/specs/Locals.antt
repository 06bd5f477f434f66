-- The locals of a function, which are written in runs of one type each (WebAssembly Core 1.0, 5.5.13).
use Rattle.std.specs.Prelude.{ℕ, ◌+◌, List, [], ◌∷◌, flat_map, replicate}
use Rattle.wm_tree.specs.declared.types.ValType.{ValType}
use Rattle.wm_tree.specs.declared.parts.Run.{Run}

-- the types of the locals
abbrev pub locals_of : List Run → List ValType
locals_of runs = flat_map (λ r. replicate r.count r.kind) runs

-- how many locals there are up to the end of each run, that many before the first
abbrev pub ends_of : ℕ → List Run → List ℕ
ends_of n [] = []
ends_of n (r ∷ runs) = (n + r.count) ∷ ends_of (n + r.count) runs
