use Rattle.std.proofs.Common.{◌≡◌, take}
use Rattle.std.specs.Prelude.{filter_map}
use Rattle.wm_valid.specs.Space.{imported_type}
use Rattle.wm_valid.proofs.space.function_types.Given as goal

-- the imported functions so far
abbrev pub invariant-loop-import : goal.invariant-loop-import
invariant-loop-import l = l.types.items ≡ filter_map imported_type (take l.import-index l.import-items)
