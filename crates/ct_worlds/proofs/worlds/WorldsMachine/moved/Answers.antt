use Rattle.std.proofs.Common.{◌≡◌, false, sym, ap, ◌∙◌, subst}
use Rattle.std.proofs.lemmas.Bool.{not-true}
use Rattle.ic_mgmt_laws.specs.Managed.{managed_rules}
use Rattle.ic_keep.specs.Kept.{Tables}
use Rattle.ic_keep.specs.IsKept.{Grows, HasCodes, codes_in}
use Rattle.ic_schedule.specs.Delivery.{is_managed}
use Rattle.ct_worlds.proofs.Moves.{has_codes, stays_named}
use Rattle.ct_worlds.proofs.worlds.WorldsMachine.moved.Goals as goal

pub keep-requires : goal.keep-requires
keep-requires c = record {
  codes = λ same_codes.
      let world = c.in_ok-world.world in
      let other : is_managed world c.args.place ≡ false = sym c.is_managed-same_codes.ensures ∙ not-true _ same_codes in
      subst (λ (t : Tables). HasCodes t c.args.kept.now.kept c.in_ok-after.after) (sym c.make.ensures.same)
      (has_codes c.args.keeper.now c.args.kept.now.kept c.in_ok-after.after c.requires.held
      (ap codes_in c.in_ok-after.ensures
      ∙ c.deliveries_keep_codes.ensures (managed_rules c.args.self.now.charge.limit c.args.self.now.charge.price) world c.args.place other
      ∙ ap codes_in c.in_ok-world.ensures.world));
}

pub returns-in_err-keep-clause-stays : goal.returns-in_err-keep-clause-stays
returns-in_err-keep-clause-stays c = stays_named c.args.keeper.now c.keep.new.self (subst (λ (t : Tables). Grows t c.keep.new.self) c.make.ensures.same c.keep.ensures.grows)

pub returns-clause-stays : goal.returns-clause-stays
returns-clause-stays c = stays_named c.args.keeper.now c.keep.new.self (subst (λ (t : Tables). Grows t c.keep.new.self) c.make.ensures.same c.keep.ensures.grows)
