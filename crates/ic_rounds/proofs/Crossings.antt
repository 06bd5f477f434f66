-- A worker may cross to another thread.
use denote.Param.Send.{IsSend, plain_send, struct_send, recorded_send, view_send, sendable}
use denote.Struct.Declared as declared
use Rattle.std.proofs.Crossing.{crosses}
use Rattle.ic_tickets.specs.contracts.rule.Pass as pass
use Rattle.ic_tickets.proofs.rule.Pass.TheSendSync as pass_sends
use Rattle.ic_rounds.specs.contracts.slot.Slot as slot
use Rattle.ic_rounds.proofs.slot.Slot.TheSendSync as slot_sends
use Rattle.ic_rounds.specs.contracts.handled_slot.HandledSlot as handled
use Rattle.ic_rounds.proofs.handled_slot.HandledSlot.TheSendSync as handled_sends
use Rattle.ic_rounds.proofs.permit.Permit.TheSendSync as permit_sends
use Rattle.ic_rounds.specs.contracts.outbox_entry.OutboxEntry as entry
use Rattle.ic_rounds.specs.contracts.outbox_entry.OutboxEntry.TheInside as inside
use Rattle.ic_rounds.specs.contracts.worker.Worker as worker

handled_send : IsSend handled.the_row
handled_send = handled_sends.the_send

entry_send : IsSend entry.the_row
entry_send =
    view_send inside.the_row _ _ _ _
    (recorded_send (inside.the_field).row _ _ (inside.the_type).to_one
    (struct_send (declared.shape inside.the_type) (
      permit_sends.the_field_send,
      (
        search (handled_send, crosses, sendable) depth 60 fits 20000,
        (
          search (crosses, sendable) depth 60 fits 20000,
          (search (crosses, sendable) depth 60 fits 20000, tt),
        ),
      ),
    )))

pass_send : IsSend (pass.the_field slot.the_row).row
pass_send = pass_sends.the_field_send slot.the_row slot_sends.the_send

worker_fields : IsSend (worker.the_field).row
worker_fields = struct_send (declared.shape worker.the_type) (plain_send _ _ _ _ _, (pass_send, (search (entry_send, crosses, sendable) depth 60 fits 20000, tt)))

pub worker_send : IsSend worker.the_row
worker_send = recorded_send (worker.the_field).row _ _ (worker.the_type).to_one worker_fields
