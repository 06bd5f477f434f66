-- Names of canisters.
use Rattle.std.specs.Prelude.{ℕ, List, [], ◌∷◌, ◌++◌}
use Rattle.std.specs.Int.{to_be_bytes, w64}

-- the principal of the canister with this number: eight bytes, the highest first, and 01 01
unfoldable pub canister_id_of : ℕ → List ℕ
canister_id_of counter = to_be_bytes w64 counter ++ 1 ∷ 1 ∷ []
