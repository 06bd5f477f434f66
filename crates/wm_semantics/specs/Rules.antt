-- A relation for hosts that promise of their answers what each host must, and no more.
use Rattle.std.specs.Prelude.{◌≡◌, Some, slice_get}
use Rattle.wm_valid.specs.declared.system_api.SystemCall.{SystemCall}
use Rattle.wm_valid.specs.SystemApi.{row_of, calls}
use Rattle.wm_store.specs.Values.{AreValues}
use Rattle.wm_semantics.specs.Hosts.{Answers, Kept, Lawful}

-- a call that is there, with arguments that it takes, is answered by the rules
abbrev pub by_the_rules : {H : Type 0} → Answers H
by_the_rules h import args s limit used answer h' t used' =
    (call : SystemCall) → slice_get calls import ≡ Some call → AreValues (row_of call).params args
    → Kept (row_of call).result s limit used answer t used'

pub are_lawful : {H : Type 0} → Lawful (by_the_rules {H = H})
are_lawful h import call args s limit used answer h' t used' there values keeps = keeps call there values
