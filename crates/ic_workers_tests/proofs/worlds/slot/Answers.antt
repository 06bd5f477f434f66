use Rattle.std.proofs.Common.{◌≡◌, None, refl, sym, subst, arith}
use Rattle.std.proofs.lemmas.Option.{IfSome_then}
use Rattle.std.specs.Prelude.{find}
use Rattle.ic_behaviour.specs.State.{id_of}
use Rattle.ic_behaviour.specs.Executing.{is_own}
use Rattle.ic_behaviour.specs.declared.call.Origin.TheVariants.{Ingress}
use Rattle.ic_rounds.specs.Slots.{IsReady}
use Rattle.ic_workers_tests.proofs.worlds.slot.Goals as goal

pub returns : goal.returns
returns c =
    IfSome_then c.slot_of.result c.slot_of.ensures (λ slot is. subst IsReady (sym is) (record {
      keeps = c.in_ok-canister.ensures.keeps;
      expected = subst (λ xs. find (is_own (id_of (Ingress c.args.number))) xs ≡ None) (sym c.in_ok-canister.ensures.contexts) refl;
      cycles = (let k = c.in_ok-canister.ensures.keeps.cycles in omega (arith, k));
    }))
