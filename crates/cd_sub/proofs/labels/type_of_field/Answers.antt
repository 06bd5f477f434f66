use Rattle.std.proofs.Common.{sym, ◌∙◌, arith, refl}
use Rattle.std.proofs.lemmas.Cmp.{nat_cmp_total, tied_itself}
use Rattle.std.specs.Cmp.{nat_cmp_is}
use Rattle.std.specs.declared.cmp.Ordering.TheVariants.{Greater}
use Rattle.cd_sub.proofs.LabelLemmas.{absent}
use Rattle.cd_sub.proofs.labels.type_of_field.Goals as goal

pub returns-then-label-id-2-clause-found : goal.returns-then-label-id-2-clause-found
returns-then-label-id-2-clause-found c =
    let greater = sym (nat_cmp_is _ c.args.id Greater c.if-label-id-2.true) in
    sym (absent nat_cmp_total c.args.fields.now c.loop-at.at _ c.args.id (omega arith) c.requires.rising greater)
    ∙ c.loop-at.invariant.same c.args.id (rw (tied_itself nat_cmp_total c.args.id) refl)
