-- Small bodies, run by the definitions.
use Rattle.std.proofs.Common.{◌≡◌, ℕ, pos, negsuc, ◌+◌, List, [], ◌∷◌, Option, Some, None, refl}
use Rattle.std.specs.Prelude.{replicate, cond, nat_lt, length, take, option_map}
use Rattle.wm_tree.specs.declared.instr.Instr.{Instr}
use Rattle.wm_tree.specs.declared.instr.Instr.TheVariants as i
use Rattle.wm_tree.specs.declared.parts.ImportKind.TheVariants as import
use Rattle.wm_tree.specs.declared.parts.Module.{Module}
use Rattle.wm_valid.specs.declared.system_api.SystemCall.TheVariants as api
use Rattle.wm_valid.specs.SystemApi.{row_of}
use Rattle.wm_pages.specs.Over.{over}
use Rattle.wm_store.specs.Lists.{Lists}
use Rattle.wm_semantics.specs.declared.trap.Trap.TheVariants as trap
use Rattle.wm_semantics.specs.declared.target.Target.{Target}
use Rattle.wm_semantics.specs.declared.target.Target.TheVariants.{Function, Element}
use Rattle.wm_semantics.specs.declared.target.Ended.{Ended}
use Rattle.wm_semantics.specs.declared.target.Ended.TheVariants.{Returned, Trapped}
use Rattle.wm_semantics.specs.declared.host.HostAnswer.TheVariants.{Nothing, Trap}
use Rattle.wm_semantics.specs.Steps.{Outcome}
use Rattle.wm_semantics.specs.Fuel.{HostOf, invoked}

-- a host that charges 1 for a call, and counts the calls that are paid
abbrev counting : HostOf ℕ
counting h call args s limit used =
    cond (nat_lt limit (used + 1))
    (record { answer = Trap trap.Limit; host = h; store = s; used = used })
    (record { answer = Nothing; host = h + 1; store = s; used = used + 1 })

-- `accept_message` as function 0, then a function () -> () with the body, which is in the table, beside nothing and function 0
abbrev small : List Instr → Module
small body = record {
  types = record { params = []; results = [] } ∷ [];
  imports = record { «module» = 105 ∷ 99 ∷ 48 ∷ []; name = (row_of api.AcceptMessage).name; kind = import.Function 0 } ∷ [];
  functions = 0 ∷ [];
  tables = record { min = 3; max = None } ∷ [];
  memories = record { min = 1; max = Some 3 } ∷ [];
  globals = [];
  exports = [];
  start = None;
  elements = [];
  codes = record { locals = []; body = body } ∷ [];
  segments = [];
}

abbrev store : List ℕ → Lists
store memory = record { memory = memory; maximum = Some 3; globals = []; table = Some 1 ∷ None ∷ Some 0 ∷ []; stable = [] }

abbrev run : List Instr → ℕ → Target → Option (Outcome ℕ)
run body limit target = invoked counting (small body) limit 0 (store []) 0 target

abbrev ends : Ended → ℕ → ℕ → Option (Outcome ℕ)
ends ended calls used = Some (record { ended = ended; host = calls; store = store []; used = used })

constant : run (i.I32Const (pos 1) ∷ i.Drop ∷ []) 2 (Function 1) ≡ ends Returned 0 2
constant = refl

one_too_few : run (i.I32Const (pos 1) ∷ i.Drop ∷ []) 1 (Function 1) ≡ ends (Trapped trap.Limit) 0 1
one_too_few = refl

for_ever : run (i.Loop None ∷ i.Br 0 ∷ i.End ∷ []) 100 (Function 1) ≡ ends (Trapped trap.Limit) 0 100
for_ever = refl

by_itself : run (i.Call 1 ∷ []) 1000 (Function 1) ≡ ends (Trapped trap.Depth) 0 512
by_itself = refl

divides : Instr → ℕ → Option (Outcome ℕ)
divides division limit = run (i.I32Const (negsuc 2147483647) ∷ i.I32Const (negsuc 0) ∷ division ∷ i.Drop ∷ []) limit (Function 1)

overflow : divides i.I32DivS 100 ≡ ends (Trapped trap.Overflow) 0 3
unfolding divides
overflow = refl

remainder : divides i.I32RemS 100 ≡ ends Returned 0 4
unfolding divides
remainder = refl

by_zero : run (i.I32Const (pos 1) ∷ i.I32Const (pos 0) ∷ i.I32DivU ∷ i.Drop ∷ []) 100 (Function 1) ≡ ends (Trapped trap.DivideByZero) 0 3
by_zero = refl

-- the charge comes before the trap
limit_first : run (i.I32Const (pos 1) ∷ i.I32Const (pos 0) ∷ i.I32DivU ∷ i.Drop ∷ []) 2 (Function 1) ≡ ends (Trapped trap.Limit) 0 2
limit_first = refl

grows_too_far : run (i.I32Const (pos 2) ∷ i.MemoryGrow ∷ i.Drop ∷ []) 3 (Function 1) ≡ ends (Trapped trap.Limit) 0 1
grows_too_far = refl

refused_growth : run (i.I32Const (pos 4) ∷ i.MemoryGrow ∷ i.Drop ∷ []) 100 (Function 1) ≡ ends Returned 0 3
refused_growth = refl

past_the_end : run (i.I32Const (pos 1) ∷ i.I32Load (record { align = 2; offset = 0 }) ∷ i.Drop ∷ []) 100 (Function 1) ≡ ends (Trapped trap.MemoryBounds) 0 2
past_the_end = refl

-- an import's two charges: of the call, and of the host
an_import : run (i.Call 0 ∷ []) 2 (Function 1) ≡ ends Returned 1 2
an_import = refl

import_as_target : run [] 2 (Function 0) ≡ ends Returned 1 2
import_as_target = refl

paid_by_half : run [] 1 (Function 0) ≡ ends (Trapped trap.Limit) 0 1
paid_by_half = refl

no_charge_left : run [] 0 (Function 0) ≡ ends (Trapped trap.Limit) 0 0
no_charge_left = refl

nothing_charged : run [] 0 (Function 1) ≡ ends Returned 0 0
nothing_charged = refl

-- the table's traps use nothing
behind_the_table : run [] 0 (Element 3 0) ≡ ends (Trapped trap.TableBounds) 0 0
behind_the_table = refl

empty_entry : run [] 0 (Element 1 0) ≡ ends (Trapped trap.Uninitialised) 0 0
empty_entry = refl

other_type : run [] 0 (Element 0 0) ≡ ends (Trapped trap.Signature) 0 0
other_type = refl

-- from one page to three
pages_after : List Instr → Option (ℕ × ℕ)
pages_after body = option_map (λ o. (length o.store.memory, o.used)) (invoked counting (small body) 100 0 (store (replicate 65536 0)) 0 (Function 1))

grows : pages_after (i.I32Const (pos 2) ∷ i.MemoryGrow ∷ i.Drop ∷ i.I32Const (pos 1) ∷ i.MemoryGrow ∷ i.Drop ∷ []) ≡ Some (196608, 8)
unfolding pages_after
grows = refl

-- ---- through the table, at the frames' limit, and out of two blocks

indirect : ℕ → ℕ → Option (Outcome ℕ)
indirect place limit = run (i.I32Const (pos place) ∷ i.CallIndirect 0 ∷ []) limit (Function 1)

an_import_indirect : indirect 2 3 ≡ ends Returned 1 3
unfolding indirect
an_import_indirect = refl

no_place : indirect 3 3 ≡ ends (Trapped trap.TableBounds) 0 2
unfolding indirect
no_place = refl

no_function : indirect 1 3 ≡ ends (Trapped trap.Uninitialised) 0 2
unfolding indirect
no_function = refl

-- with 512 frames the host can still be called
import_at_the_limit : run (i.Call 0 ∷ i.Call 1 ∷ []) 2000 (Function 1) ≡ ends (Trapped trap.Depth) 512 1536
import_at_the_limit = refl

chooses : ℕ → Option (Outcome ℕ)
chooses n = run (i.Block None ∷ i.Block None ∷ i.I32Const (pos n) ∷ i.BrTable (0 ∷ []) 1 ∷ i.End ∷ i.Nop ∷ i.End ∷ []) 100 (Function 1)

default_arm : chooses 5 ≡ ends Returned 0 4
unfolding chooses
default_arm = refl

first_arm : chooses 0 ≡ ends Returned 0 5
unfolding chooses
first_arm = refl

own_label : run (i.Br 0 ∷ []) 100 (Function 1) ≡ ends Returned 0 1
own_label = refl

-- traps unless the number chosen of 1 and 2 is that
selects : ℕ → ℕ → Option (Outcome ℕ)
selects test wanted =
    run (i.I32Const (pos 1) ∷ i.I32Const (pos 2) ∷ i.I32Const (pos test) ∷ i.Select ∷ i.I32Const (pos wanted) ∷ i.I32Ne ∷ i.If None ∷ i.Unreachable ∷ i.End ∷ []) 100 (Function 1)

second_where_zero : selects 0 2 ≡ ends Returned 0 7
unfolding selects
second_where_zero = refl

first_elsewhere : selects 3 1 ≡ ends Returned 0 7
unfolding selects
first_elsewhere = refl

other_one : selects 3 2 ≡ ends (Trapped trap.Unreachable) 0 8
unfolding selects
other_one = refl

-- a word that passes the end of a page by a byte
reads_at : ℕ → Option (Ended × ℕ)
reads_at address =
    option_map (λ o. (o.ended, o.used))
    (invoked counting (small (i.I32Const (pos address) ∷ i.I32Load (record { align = 2; offset = 0 }) ∷ i.Drop ∷ [])) 100 0 (store (replicate 65536 0)) 0 (Function 1))

reads_past : reads_at 65533 ≡ Some (Trapped trap.MemoryBounds, 2)
unfolding reads_at
reads_past = refl

reads_last : reads_at 65532 ≡ Some (Returned, 3)
unfolding reads_at
reads_last = refl

-- ---- sign extension, copy and fill

-- the first bytes of memory after a run on those bytes, how it ends and what it uses
bytes_after : List ℕ → List Instr → ℕ → Option (List ℕ × Ended × ℕ)
bytes_after memory body limit =
    option_map (λ o. (take 8 o.store.memory, o.ended, o.used)) (invoked counting (small body) limit 0 (store memory) 0 (Function 1))

extended : bytes_after (replicate 8 0) (i.I32Const (pos 0) ∷ i.I32Const (pos 128) ∷ i.I32Extend8S ∷ i.I32Store (record { align = 2; offset = 0 }) ∷ []) 4
    ≡ Some (0x80 ∷ 0xFF ∷ 0xFF ∷ 0xFF ∷ 0 ∷ 0 ∷ 0 ∷ 0 ∷ [], Returned, 4)
unfolding bytes_after over
extended = refl

filled_and_copied :
    bytes_after (replicate 8 0) (i.I32Const (pos 0) ∷ i.I32Const (pos 171) ∷ i.I32Const (pos 4) ∷ i.MemoryFill ∷ i.I32Const (pos 2) ∷ i.I32Const (pos 0) ∷ i.I32Const (pos 4) ∷ i.MemoryCopy ∷ []) 16
    ≡ Some (171 ∷ 171 ∷ 171 ∷ 171 ∷ 171 ∷ 171 ∷ 0 ∷ 0 ∷ [], Returned, 16)
unfolding bytes_after over
filled_and_copied = refl

overlapping : bytes_after (1 ∷ 2 ∷ 3 ∷ 4 ∷ []) (i.I32Const (pos 1) ∷ i.I32Const (pos 0) ∷ i.I32Const (pos 3) ∷ i.MemoryCopy ∷ []) 7
    ≡ Some (1 ∷ 1 ∷ 2 ∷ 3 ∷ [], Returned, 7)
unfolding bytes_after over
overlapping = refl

-- a fill at that place, of that many bytes, in a page
fills : ℕ → ℕ → ℕ → Option (Ended × ℕ)
fills at size limit =
    option_map (λ o. (o.ended, o.used))
    (invoked counting (small (i.I32Const (pos at) ∷ i.I32Const (pos 7) ∷ i.I32Const (pos size) ∷ i.MemoryFill ∷ [])) limit 0 (store (replicate 65536 0)) 0 (Function 1))

nothing_past_the_end : fills 65537 0 100 ≡ Some (Trapped trap.MemoryBounds, 4)
unfolding fills
nothing_past_the_end = refl

nothing_at_the_end : fills 65536 0 100 ≡ Some (Returned, 4)
unfolding fills
nothing_at_the_end = refl

fills_past_the_end : fills 65535 2 100 ≡ Some (Trapped trap.MemoryBounds, 6)
unfolding fills
fills_past_the_end = refl

-- the size is charged before the end is looked at
fill_not_paid : fills 65535 2 5 ≡ Some (Trapped trap.Limit, 3)
unfolding fills
fill_not_paid = refl
