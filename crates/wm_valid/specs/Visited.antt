-- What the check of bodies knows once it has visited the functions before a number; no standard
-- has this.
use Rattle.std.specs.Prelude.{◌≡◌, ℕ, List, take, drop, Option, None}
use Rattle.std.specs.List.{AllZip, position_from}
use Rattle.std.specs.Option.{option_or}
use Rattle.wm_tree.specs.declared.parts.Module.{Module}
use Rattle.wm_typing.specs.FlatCode.{FlatCode}
use Rattle.wm_valid.specs.Bodies.{definitions, is_deep, is_untyped, least_deep, least_untyped}
use Rattle.wm_valid.specs.IsValid.{Suits}

-- the least function without a typing is kept; where there is none, each code suits its function
pub record Visited (m : Module) (number : ℕ) (untyped : Option ℕ) (codes : List FlatCode) : Type 0 where
  pub shallow : position_from is_deep number (drop number (definitions m)) ≡ least_deep m
  pub typed :
      option_or untyped (position_from (is_untyped m) number (drop number (definitions m)))
      ≡ least_untyped m
  pub suits : untyped ≡ None → AllZip (Suits m) (take number (definitions m)) codes
