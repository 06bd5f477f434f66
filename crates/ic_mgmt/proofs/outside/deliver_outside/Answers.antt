use Rattle.std.proofs.Common.{◌≡◌, false, is_some, IfOk, sym, ◌∙◌, subst}
use Rattle.std.specs.Map.{lookup}
use Rattle.ic_behaviour.specs.declared.call.Message.{Message}
use Rattle.ic_behaviour.specs.State.{at, callee_of}
use Rattle.ic_mgmt.proofs.Handles.{Handled, taken_out, managed_ok, sent_delivers, answer_delivers}
use Rattle.ic_mgmt.proofs.outside.deliver_outside.Goals as goal

pub carry_out-requires : goal.carry_out-requires
carry_out-requires c = record { taken = taken_out c.requires.next.0 c.args.message c.args.parts _ c.in-Call.callee c.in-Call.is c.requires.next.1 }

pub returns-then-is_management : goal.returns-then-is_management
returns-then-is_management c =
    let absent = subst (λ (m : Message). is_some (lookup (at (callee_of m)) c.args.parts.canisters.entries) ≡ false) c.in-Call.is c.requires.absent in
    subst (λ (m : Message). IfOk c.carry_out.result (Handled c.args.limit m c.args.parts)) (sym c.in-Call.is)
    (managed_ok c.args.limit c.in-Call.origin c.in-Call.sender c.in-Call.callee c.in-Call.method c.in-Call.arg c.in-Call.cycles c.args.parts absent
    c.carry_out.result (sym c.is_management.ensures ∙ c.if-is_management.true) c.carry_out.ensures.state c.carry_out.ensures.counts c.carry_out.ensures.keeps)

pub returns-in-Call : goal.returns-in-Call
returns-in-Call c =
    let absent = subst (λ (m : Message). is_some (lookup (at (callee_of m)) c.args.parts.canisters.entries) ≡ false) c.in-Call.is c.requires.absent in
    subst (λ (m : Message). Handled c.args.limit m c.args.parts c.send_back.new.parts) (sym c.in-Call.is)
    (λ kept todo is. sent_delivers c.args.limit kept c.in-Call.origin c.in-Call.sender c.in-Call.callee c.in-Call.method c.in-Call.arg c.in-Call.cycles todo c.args.parts is absent
    c.send_back.new.parts (sym c.is_management.ensures ∙ c.if-is_management.false) c.in_ok-send_back-in-Call.ensures.back)

pub returns : goal.returns
returns c =
    let absent = subst (λ (m : Message). is_some (lookup (at (callee_of m)) c.args.parts.canisters.entries) ≡ false) c.in-Answer.is c.requires.absent in
    subst (λ (m : Message). Handled c.args.limit m c.args.parts c.args.parts) (sym c.in-Answer.is)
    (λ kept todo is. answer_delivers c.args.limit kept c.in-Answer.origin c.in-Answer.sender c.in-Answer.response c.in-Answer.refund todo c.args.parts c.args.parts is absent)
