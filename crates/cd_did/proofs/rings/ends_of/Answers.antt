use Rattle.std.proofs.Common.{◌≡◌, ℕ, List, ◌*◌, map, refl, sym, ap, subst, ◌∙◌, arith}
use Rattle.cd_did.specs.Rings.{AreJumps, jump_from}
use Rattle.cd_did.proofs.Ends.{firsts_jump, twice_jump}
use Rattle.cd_did.proofs.rings.ends_of.Goals as goal

pub loop-steps-init : goal.loop-steps-init
loop-steps-init c = (omega arith, subst (λ (js : List ℕ). AreJumps c.args.names.now.definitions 1 js) (sym c.in_ok-jumps.ensures) (firsts_jump c.args.names.now.definitions))

pub loop-steps-preserved : goal.loop-steps-preserved
loop-steps-preserved c =
    let is : c.in_ok-jumps-2.jumps.items ≡ map (jump_from c.loop-steps.jumps.items) c.loop-steps.jumps.items = c.in_ok-jumps-2.ensures ∙ ap (λ (js : List ℕ). map (jump_from js) js) c.deref.ensures.value in
    let twice = twice_jump c.args.names.now.definitions c.requires.apart c.requires.bound c.loop-steps.steps (c.loop-steps.steps * 2) c.loop-steps.jumps.items refl c.loop-steps.invariant.1 in
    (omega (arith, c.loop-steps.invariant.0), subst (λ (js : List ℕ). AreJumps c.args.names.now.definitions (c.loop-steps.steps * 2) js) (sym is) twice)
