-- What is kept of what canisters say (IC Interface Specification, "Debugging aids": `debug_print` has no effect that code can see).
use Rattle.std.specs.Prelude.{ℕ, ◌+◌, ◌-◌, ◌^◌, List, [], ◌∷◌, ◌++◌, length, take, drop, nat_lt, min, if◌then◌else◌}
use Rattle.ic_heard.specs.declared.heard.Said.{Said}

-- what contracts see of a `Heard`
pub record Speech : Type 0 where
  -- the last texts
  pub texts : List Said
  -- how many came before these
  pub earlier : ℕ

abbrev pub silence : Speech
silence = record { texts = []; earlier = 0 }

-- the front of a text, and how much came after it
abbrev pub kept : List ℕ → Said
kept text = record { text = take 4096 text; more = length text - 4096 }

-- the first text goes where there are a hundred
abbrev pub with_room : Speech → Speech
with_room heard =
    if nat_lt (length heard.texts) 100 then heard
    else record { texts = drop 1 heard.texts; earlier = min (heard.earlier + 1) (2 ^ 64 - 1) }

-- what was heard, after one more text
abbrev pub hears : List ℕ → Speech → Speech
hears text heard = let room = with_room heard in record room { texts = room.texts ++ (kept text ∷ []) }
