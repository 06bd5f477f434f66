use Rattle.std.proofs.Common.{◌≡◌, ◌≤◌, List, ◌∷◌, length, sym, ap, ◌∙◌, arith}
use Rattle.wm_typing.specs.declared.operand.Operand.{Operand}
use Rattle.wm_typing.specs.Checks.{levels_of}
use Rattle.wm_typing.proofs.Stacks.{pop_is}
use Rattle.wm_typing.proofs.checker.Checker.pop.Goals as goal

pub returns-in-Some : goal.returns-in-Some
returns-in-Some c =
    let all : c.self.inside.operands ≡ c.in-Some.operand ∷ c.pop.new.self = c.in-Some.ensures in
    let more : length c.self.inside.operands ≡ length (c.in-Some.operand ∷ c.pop.new.self) = ap length all in
    let low : c.self.inside.frame.height ≤ length c.pop.new.self = omega arith in
    pop_is c.in-Some.operand c.pop.new.self c.self.inside.frame c.self.inside.outer c.args.self.now
    (ap (λ (xs : List Operand). levels_of xs c.self.inside.frame c.self.inside.outer) (sym all) ∙ c.self.view_is) low
