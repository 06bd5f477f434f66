-- Canisters with different numbers have different names.
use Rattle.std.proofs.Common.{◌≡◌, ℕ, ◌^◌, ◌<◌, [], ◌∷◌, sym, ap, ◌∙◌}
use Rattle.std.specs.Int.{to_be_bytes, from_be_bytes, w64}
use Rattle.std.proofs.lemmas.List.{append_cancel_right}
use Rattle.std.proofs.lemmas.Nat.{from_be_bytes-to_be_bytes_8}
use Rattle.ic_principal.specs.CanisterId.{canister_id_of}

pub same_counter : (a b : ℕ) → a < 2 ^ 64 → b < 2 ^ 64 → canister_id_of a ≡ canister_id_of b → a ≡ b
unfolding canister_id_of
same_counter a b h g e =
    sym (from_be_bytes-to_be_bytes_8 a h)
    ∙ ap (from_be_bytes w64) (append_cancel_right (to_be_bytes w64 a) (to_be_bytes w64 b) (1 ∷ 1 ∷ []) e)
    ∙ from_be_bytes-to_be_bytes_8 b g
