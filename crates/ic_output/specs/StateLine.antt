-- The line that shows a state.
use Rattle.std.specs.Prelude.{ℕ, List, [], codes, decimal, length, map, Option, Some, None}
use Rattle.hex.specs.Hex.{encode_lower}
use Rattle.sha2.specs.Sha256.{sha256}
use Rattle.serde_json.specs.Data.{Data, array, member, no_members, number, object, string, unsigned}
use Rattle.serde_json.specs.View.{items_of}
use Rattle.serde_json.specs.Written.{compact_text}
use Rattle.ic_principal.specs.Text.{text_of}
use Rattle.wm_store.specs.Lists.{pages_of}
use Rattle.ic_behaviour.specs.declared.phase.Phase.{Phase}
use Rattle.ic_behaviour.specs.declared.phase.Phase.TheVariants.{Running, Stopping, Stopped}
use Rattle.ic_behaviour.specs.State.{Canister, Code, State}
use Rattle.ic_behaviour.specs.Items.{held}

-- ---- parts

abbrev pub list_of : {A : Type 0} → (A → Data) → List A → Data
list_of data_of xs = array (items_of (map data_of xs))

-- numbers that may be too large for a number of JSON are texts
abbrev pub decimal_data : ℕ → Data
decimal_data n = string (decimal n)

abbrev pub count_data : ℕ → Data
count_data n = number (unsigned n)

abbrev pub principal_data : List ℕ → Data
principal_data p = string (text_of p)

-- two lower digits for each byte
abbrev pub hex_data : List ℕ → Data
hex_data bytes = string (encode_lower bytes)

-- ---- canisters

-- the hash of the module, if there is one
abbrev pub module_hash : Option Code → List ℕ
module_hash None = []
module_hash (Some code) = code.hash

abbrev pub status_text : Phase → List ℕ
status_text Running = codes "running"
status_text (Stopping waiters) = codes "stopping"
status_text Stopped = codes "stopped"

unfoldable pub canister_data : List ℕ × Canister → Data
canister_data (id, c) = object
    (member (codes "balance") (decimal_data c.balance)
    (member (codes "certified") (hex_data c.certified)
    (member (codes "contexts") (count_data (length c.contexts))
    (member (codes "controllers") (list_of principal_data c.controllers)
    (member (codes "globals") (list_of decimal_data c.store.globals)
    (member (codes "id") (principal_data id)
    (member (codes "memory") (count_data (pages_of c.store.memory))
    (member (codes "memory_hash") (hex_data (sha256 c.store.memory))
    (member (codes "module") (hex_data (module_hash c.code))
    (member (codes "stable") (count_data (pages_of c.store.stable))
    (member (codes "stable_hash") (hex_data (sha256 c.store.stable))
    (member (codes "status") (string (status_text c.phase))
    no_members))))))))))))

-- ---- the state

unfoldable pub state_data : State → Data
state_data s = object
    (member (codes "burned") (decimal_data s.burned)
    (member (codes "canisters") (list_of canister_data s.canisters)
    (member (codes "created") (decimal_data s.created)
    (member (codes "held") (decimal_data (held s))
    (member (codes "messages") (count_data (length s.messages))
    (member (codes "time") (decimal_data s.time)
    no_members))))))

-- the line, without its end: compact JSON, each object's keys in the order of their bytes
unfoldable pub state_text : State → List ℕ
state_text s = compact_text (state_data s)
