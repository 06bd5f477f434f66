-- What a whole run keeps, since each answer of the host and each reduction keeps it; no standard has this.
use Rattle.std.specs.Prelude.{◌≡◌, ℕ, ◌≤◌, List, length}
use Rattle.wm_store.specs.Lists.{Lists}
use Rattle.wm_semantics.specs.declared.host.HostAnswer.{HostAnswer}
use Rattle.wm_semantics.specs.Hosts.{Answers, IsAsked}

-- a relation of host, store and what is used, before and after
abbrev pub Change : Type 0 → Type 1
Change H = H → Lists → ℕ → H → Lists → ℕ → Type 0

-- what a reduction leaves as it is: it writes into memory and globals and lets memory grow, no more
pub record StoreStays (s t : Lists) : Type 0 where
  pub memory : length s.memory ≤ length t.memory
  pub maximum : t.maximum ≡ s.maximum
  pub globals : length t.globals ≡ length s.globals
  pub table : t.table ≡ s.table
  pub stable : t.stable ≡ s.stable

-- the relation holds where nothing happens, of one change after another, of what a reduction and its
-- charge change, and of what an answer changes
pub record IsKept {H : Type 0} (answers : Answers H) (limit : ℕ) (Kept : Change H) : Type 0 where
  pub same : (h : H) (s : Lists) (used : ℕ) → Kept h s used h s used
  pub joined : (h h' h'' : H) (s s' s'' : Lists) (used used' used'' : ℕ) → Kept h s used h' s' used' → Kept h' s' used' h'' s'' used'' → Kept h s used h'' s'' used''
  pub reduced : (h : H) (s t : Lists) (used used' : ℕ) → StoreStays s t → used ≤ used' → (used ≤ limit → used' ≤ limit) → Kept h s used h t used'
  pub told : (h : H) (import : ℕ) (args : List ℕ) (s : Lists) (used : ℕ) (reply : HostAnswer) (h' : H) (t : Lists) (used' : ℕ)
      → IsAsked import args → answers h import args s limit used reply h' t used' → Kept h s used h' t used'

-- the same, with each answer of the relation, also to a call that is not there
pub record IsAlwaysKept {H : Type 0} (answers : Answers H) (limit : ℕ) (Kept : Change H) : Type 0 where
  pub same : (h : H) (s : Lists) (used : ℕ) → Kept h s used h s used
  pub joined : (h h' h'' : H) (s s' s'' : Lists) (used used' used'' : ℕ) → Kept h s used h' s' used' → Kept h' s' used' h'' s'' used'' → Kept h s used h'' s'' used''
  pub reduced : (h : H) (s t : Lists) (used used' : ℕ) → StoreStays s t → used ≤ used' → (used ≤ limit → used' ≤ limit) → Kept h s used h t used'
  pub told : (h : H) (import : ℕ) (args : List ℕ) (s : Lists) (used : ℕ) (reply : HostAnswer) (h' : H) (t : Lists) (used' : ℕ)
      → answers h import args s limit used reply h' t used' → Kept h s used h' t used'

-- ---- facts of a host

-- the host's relation, where a fact of the host holds
abbrev pub within : {H : Type 0} → (H → Type 0) → Answers H → Answers H
within Fact answers h import args s limit used reply h' t used' = Fact h × answers h import args s limit used reply h' t used'

-- each answer keeps the fact
abbrev pub KeepsFact : {H : Type 0} → (H → Type 0) → Answers H → Type 0
KeepsFact {H} Fact answers =
    (h : H) (import : ℕ) (args : List ℕ) (s : Lists) (limit used : ℕ) (reply : HostAnswer) (h' : H) (t : Lists) (used' : ℕ)
    → Fact h → answers h import args s limit used reply h' t used' → Fact h'
