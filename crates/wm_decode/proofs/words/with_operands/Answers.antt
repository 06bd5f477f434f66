use Rattle.std.proofs.Common.{◌≡◌, rules, tests, sym, subst, None}
use Rattle.ic_base.specs.Gives.{Gives}
use Rattle.wm_decode.specs.Values.{lookup}
use Rattle.wm_decode.specs.Forms.{other_rows}
use Rattle.wm_decode.proofs.CodeSteps.{memory_same}
use Rattle.wm_decode.proofs.words.with_operands.Goals as goal

pub returns-in_default : goal.returns-in_default
returns-in_default c =
    let other : lookup c.args.opcode other_rows ≡ None = search (tests, rules) in
    subst (Gives (λ x. (x.0, x.1.now)) c.accessed.result) (sym (memory_same c.args.profile.float c.args.opcode c.args.bytes.now other)) c.accessed.ensures
