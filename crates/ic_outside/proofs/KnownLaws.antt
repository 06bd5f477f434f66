-- Laws of the bytes and the room that a stream tells.
use Rattle.std.proofs.Common.{◌≡◌, ℕ, ◌+◌, List, [], ◌++◌, Option, Some, None, IfSome, refl, sym, ap, append_assoc, append-nil, arith}
use Rattle.std.specs.Prelude.{unwrap_or}
use Rattle.std.specs.Io.KnownBytes.{prepend_known, append_known}
use Rattle.ic_outside.specs.Writing.{room_before}

-- two fronts of what is left, one after the other
pub prepend_known-append : (first second : List ℕ) (known : Option (List ℕ))
    → prepend_known (first ++ second) known ≡ prepend_known first (prepend_known second known)
prepend_known-append first second None = refl
prepend_known-append first second (Some bytes) = ap Some (append_assoc first second bytes)

-- what is appended in two steps
pub append_known-append : (known : Option (List ℕ)) (first second : List ℕ)
    → append_known known (first ++ second) ≡ append_known (append_known known first) second
append_known-append None first second = refl
append_known-append (Some bytes) first second = ap Some (sym (append_assoc bytes first second))

pub append_known-nil : (known : Option (List ℕ)) → append_known known [] ≡ known
append_known-nil None = refl
append_known-nil (Some bytes) = ap Some (append-nil bytes)

-- nothing was taken off a room
pub room_before-none : (room : Option ℕ) → room ≡ room_before 0 room
room_before-none None = refl
room_before-none (Some room) = ap Some (omega arith)

-- what was taken off a room in two steps
pub room_before-more : (first second : ℕ) (room : Option ℕ) → room_before first (room_before second room) ≡ room_before (first + second) room
room_before-more first second None = refl
room_before-more first second (Some room) = ap Some (omega arith)

-- where the room before is told, so is the room after, and so much is left of it
pub room_before-told : (P : ℕ → Type 0) (n : ℕ) (before after : Option ℕ) → before ≡ room_before n after
    → IfSome before (λ room. IfSome after (λ left. room ≡ left + n → P room)) → IfSome before P
room_before-told P n None after is h = tt
room_before-told P n (Some room) None is h = cc
room_before-told P n (Some room) (Some left) is h = h (ap (λ o. unwrap_or o 0) is)
