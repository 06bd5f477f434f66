-- What a store's fields are seen as.
use Rattle.std.specs.Prelude.{◌≡◌, ◌+◌, ◌<◌, ◌^◌, false, [], length, All, Some, None, IfSome, if◌then◌else◌}
use Rattle.wm_store.specs.declared.store.Store.TheInside.{Inside}
use Rattle.wm_store.specs.Lists.{Lists}
use Rattle.wm_store.specs.Held.{Held}

abbrev pub lists_now : Inside → Lists
lists_now s = record { memory = s.memory.bytes; maximum = s.maximum; globals = s.globals.items; table = s.table.items; stable = s.stable.bytes }

abbrev pub lists_before : Inside → Lists
lists_before s = record { memory = s.memory.before; maximum = s.maximum; globals = s.first.items; table = s.table.items; stable = s.stable.before }

abbrev pub held : Inside → Held
held s = record {
  lists = lists_now s;
  begun = if s.begun then Some (lists_before s) else None;
  saved = s.memory.saved + s.stable.saved;
}

-- between messages nothing is saved; no call changes the table
pub record IsSound (s : Inside) : Type 0 where
  pub room : length s.first.items ≡ length s.globals.items
  pub memory_before : s.begun ≡ false → s.memory.before ≡ []
  pub memory_saved : s.begun ≡ false → s.memory.saved ≡ 0
  pub stable_before : s.begun ≡ false → s.stable.before ≡ []
  pub stable_saved : s.begun ≡ false → s.stable.saved ≡ 0
  pub entries : All (λ e. IfSome e (λ f. f < 2 ^ 32)) s.table.items
