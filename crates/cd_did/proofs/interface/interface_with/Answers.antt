use Rattle.std.proofs.Common.{◌≡◌, true, false, sym, subst, ◌∙◌}
use Rattle.ic_base.specs.declared.read_error.ReadError.{ReadError}
use Rattle.cd_did.specs.Formed.{AllFormed}
use Rattle.cd_did.specs.Sorted.{Refuses}
use Rattle.cd_did.proofs.Interfaces.{all_formed, all_served, answered}
use Rattle.cd_did.proofs.Said.{interface_is}
use Rattle.cd_did.proofs.interface.interface_with.Goals as goal

pub returns-then-not-is_served : goal.returns-then-not-is_served
returns-then-not-is_served c = (
  (
    c.requires.ended.0,
    λ shaped.
        let f : true ≡ false = sym (all_served c.args.ended.now.names.now c.args.ended.now.ends.now c.requires.ended shaped) ∙ sym c.is_served.ensures ∙ c.if-not-is_served.true in
        absurd cc,
  ),
  tt,
  tt,
)

pub returns-in-Ok : goal.returns-in-Ok
returns-in-Ok c =
    let own = answered c.args.ended.now.names.now c.args.ended.now.ends.now c.in-Ok.entries.items c.tabled.result c.requires.ended c.requires.fits c.in-Ok.ensures.ok (sym c.is_served.ensures ∙ c.if-not-is_served.false) c.tabled.ensures in
    (own.0, interface_is c.args.ended.now.names.now c.args.ended.now.ends.now c.in-Ok.entries.items c.tabled.result c.requires.ended c.in-Ok.ensures.ok.0 c.tabled.ensures, own.1)

pub returns-in-Err-Refused : goal.returns-in-Err-Refused
returns-in-Err-Refused c =
    let never = subst (λ (e : ReadError). Refuses e (AllFormed c.args.ended.now.names.now c.args.ended.now.ends.now → ⊥)) c.in-Err-Refused.field-0-is c.in-Err-Refused.ensures.refused in
    ((c.requires.ended.0, λ shaped. never (all_formed c.args.ended.now.names.now c.args.ended.now.ends.now c.requires.ended shaped)), tt, tt)
