-- The first messages to canisters, taken out in one pass. No standard has this.
use Rattle.std.specs.Prelude.{◌≡◌, ℕ, ◌&&◌, Bool, true, cond, not, is_some, List, [], ◌∷◌, ◌++◌}
use Rattle.std.specs.Map.{lookup}
use Rattle.std.specs.BTreeMap.{insert_entry}
use Rattle.std.specs.Ordering.{nat_cmp}
use Rattle.std.specs.Cmp.Lexicographic.{slice_cmp}
use Rattle.ic_behaviour.specs.declared.call.Message.{Message}
use Rattle.ic_behaviour.specs.State.{at, callee_of}

-- the first message to each canister that has one, and the other messages
pub record Taking : Type 0 where
  pub firsts : List (List ℕ × Message)
  pub left : List Message

abbrev pub none_taken : Taking
none_taken = record { firsts = []; left = [] }

abbrev pub is_key : {X : Type 0} → List (List ℕ × X) → List ℕ → Bool
is_key es key = is_some (lookup (at key) es)

-- whether a message to this callee is the first to a canister
abbrev pub is_first : (List ℕ → Bool) → Taking → (callee : List ℕ) → Bool
is_first is_canister w callee = is_canister callee && not (is_key w.firsts callee)

abbrev pub take_out : Taking → (callee : List ℕ) → Message → Taking
take_out w callee m = record w { firsts = insert_entry (slice_cmp nat_cmp) w.firsts callee m }

abbrev pub leave : Taking → Message → Taking
leave w m = record w { left = w.left ++ m ∷ [] }

-- a message is met
abbrev pub sort_out : (List ℕ → Bool) → Taking → Message → Taking
sort_out is_canister w m = cond (is_first is_canister w (callee_of m)) (take_out w (callee_of m) m) (leave w m)

-- others are left as they are
abbrev pub with_left : Taking → List Message → Taking
with_left w ms = record w { left = w.left ++ ms }

-- the first messages are to canisters
abbrev pub AreTheirs : (List ℕ → Bool) → Taking → Type 0
AreTheirs is_canister w = (key : List ℕ) → is_key w.firsts key ≡ true → is_canister key ≡ true

-- each canister has its first message
abbrev pub HasAll : (List ℕ → Bool) → Taking → Type 0
HasAll is_canister w = (key : List ℕ) → is_canister key ≡ true → is_key w.firsts key ≡ true
