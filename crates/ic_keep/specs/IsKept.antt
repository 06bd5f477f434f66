-- What tables and kept states keep. No standard has this.
use Rattle.std.specs.Prelude.{◌≡◌, ℕ, ◌<◌, ◌≤◌, ◌%◌, List, [], ◌∷◌, map, Option, None, IfSome, length}
use Rattle.std.specs.List.{AllByRecursion}
use Rattle.wm_store.specs.Lists.{pages_of, page_limit}
use Rattle.ic_behaviour.specs.State.{Code, State}
use Rattle.ic_behaviour.specs.Counted.{counted, dropped}
use Rattle.ic_behaviour.specs.Sound.{Sound}
use Rattle.ic_state.specs.declared.canister.Code.{Code as StoredCode}
use Rattle.ic_state.specs.declared.canister.Canister.{Canister as StoredCanister}
use Rattle.ic_state.specs.Seen.{code_of, seen}
use Rattle.ic_state.specs.IsCanister.{IsCanister}
use Rattle.ic_exact.specs.Ranges.{AreNumbers, AreDistinct, Extends, bytes_of}
use Rattle.ic_keep.specs.declared.parts.KeptCanister.{KeptCanister}
use Rattle.ic_keep.specs.Kept.{Tables, KeptState, code_at, declared_maximum, canister_at, state_at}

-- no two codes are equal
abbrev pub AreCodes : List StoredCode → Type 0
AreCodes [] = Unit {0}
AreCodes (c ∷ cs) = AllByRecursion (λ (d : StoredCode). ¬ (code_of c ≡ code_of d)) cs × AreCodes cs

-- what is in the tables is there once
pub record AreTables (t : Tables) : Type 0 where
  pub ranges : AreDistinct t.ranges
  pub codes : AreCodes t.codes

-- what was in the tables is there
pub record Grows (old new : Tables) : Type 0 where
  pub ranges : Extends old.ranges new.ranges
  pub codes : Extends old.codes new.codes

-- whole pages of 65,536 bytes, at most `most` of them
pub record ArePages (most : ℕ) (bytes : List ℕ) : Type 0 where
  pub whole : length bytes % 65536 ≡ 0
  pub few : pages_of bytes ≤ most

-- each number is one of the tables, and the memories are pages, at most as many as they may be
pub record IsStored (t : Tables) (c : KeptCanister) : Type 0 where
  pub memory : AreNumbers t.ranges c.store.memory
  pub stable : AreNumbers t.ranges c.store.stable
  pub code : IfSome c.code (λ n. n < length t.codes)
  pub pages : ArePages (page_limit (declared_maximum (code_at t.codes c.code))) (bytes_of t.ranges c.store.memory)
  pub stable_pages : ArePages 256 (bytes_of t.ranges c.store.stable)

-- whatever canister it stands for keeps what canisters keep
abbrev pub IsCanisterAt : Tables → KeptCanister → Type 0
IsCanisterAt t c = (w : StoredCanister) → seen w ≡ canister_at t c → w.store.begun ≡ None → IsCanister w

-- the numbers of open calls are those of the state
abbrev pub HasCountsAt : Tables → State → KeptCanister → Type 0
HasCountsAt t s c = counted s c.id (dropped (canister_at t c)) ≡ canister_at t c

-- it stands for a state that a world may have
pub record IsKept (t : Tables) (k : KeptState) : Type 0 where
  pub stored : AllByRecursion (IsStored t) k.canisters
  pub sound : Sound (state_at t k)
  pub counts : AllByRecursion (HasCountsAt t (state_at t k)) k.canisters
  pub canisters : AllByRecursion (IsCanisterAt t) k.canisters

-- the codes of the canisters, in the order of their ids
abbrev pub codes_in : State → List (Option Code)
codes_in s = map (λ e. e.1.code) s.canisters

-- the canisters of the state have the codes of those that are kept
pub record HasCodes (t : Tables) (k : KeptState) (s : State) : Type 0 where
  pub stored : AllByRecursion (IsStored t) k.canisters
  pub same : map (λ (c : KeptCanister). code_at t.codes c.code) k.canisters ≡ codes_in s

-- the store of the one can be turned into that of the other by writing
pub record HasShape (c d : KeptCanister) : Type 0 where
  pub code : c.code ≡ d.code
  pub table : c.store.table ≡ d.store.table
  pub globals : length c.store.globals ≡ length d.store.globals
  pub few : length d.store.globals ≤ 65535
  pub memory : length c.store.memory ≡ length d.store.memory
  pub stable : length c.store.stable ≡ length d.store.stable
