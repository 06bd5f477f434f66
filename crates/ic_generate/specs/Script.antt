-- The script that a number stands for.
use Rattle.std.specs.Prelude.{ℕ, zero, suc, ◌+◌, ◌*◌, ◌/◌, ◌%◌, ◌^◌, ◌==◌, List, [], ◌∷◌, ◌++◌, codes, length, if◌then◌else◌}
use Rattle.hex.specs.Hex.{encode_lower}
use Rattle.ic_leb.specs.Spelling.{unsigned_spelling}
use Rattle.ic_principal.specs.CanisterId.{canister_id_of}
use Rattle.ic_principal.specs.Text.{text_of}
use Rattle.ic_script.specs.HexWord.{hex_word}
use Rattle.wm_tree.specs.Relay.{relay}
use Rattle.wm_encode.specs.Whole.{whole}

-- what ends a line
abbrev pub newline : List ℕ
newline = 10 ∷ []

-- as many rounds as the options allow
unfoldable pub drain_line : List ℕ
drain_line = codes "drain" ++ newline

-- ---- eight canisters

-- each gets 10 ^ 12 cycles
unfoldable pub create_line : List ℕ
create_line =
    codes "call 2vxsx-fae aaaaa-aa provisional_create_canister_with_cycles 4449444c026e7d6c01d8a38ca80d0001010180a094a58d1d" ++ newline

-- that many of them
unfoldable pub create_lines : ℕ → List ℕ
create_lines zero = []
create_lines (suc count) = create_lines count ++ create_line

-- ---- their code

-- The values of an argument of install_code, in the order of their fields' ids: no bytes as the argument, the module, the
-- mode install, and a principal of ten bytes.
abbrev pub install_values : List ℕ → ℕ → List ℕ
install_values code counter =
    0 ∷ (unsigned_spelling (length code) ++ code) ++ (0 ∷ 1 ∷ 10 ∷ []) ++ canister_id_of counter

-- after the Candid header of that argument
unfoldable pub install_line : List ℕ → ℕ → List ℕ
install_line code counter =
    codes "call 2vxsx-fae aaaaa-aa install_code 4449444c036d7b6b019baaebec087f6c04d6fca70200a79fc97e00e3a683c30401b3c4b1f204680102"
    ++ (encode_lower (install_values code counter) ++ newline)

-- for the first canisters
unfoldable pub install_lines : List ℕ → ℕ → List ℕ
install_lines code zero = []
install_lines code (suc count) = install_lines code count ++ install_line code count

-- ---- calls

-- a linear congruential generator of 31 bits
abbrev pub next_number : ℕ → ℕ
next_number x = (x * 1103515245 + 12345) % 2147483648

-- the canister at a place of the route
abbrev pub counter_at : (y place : ℕ) → ℕ
counter_at y place = (y / (32 * 8 ^ place)) % 8

-- the ids of the first canisters of the route, one after another
unfoldable pub route : (y places : ℕ) → List ℕ
route y zero = []
route y (suc places) = route y places ++ canister_id_of (counter_at y places)

-- a call to a canister, with a route of at most three more
unfoldable pub call_line : ℕ → List ℕ
call_line y =
    codes "call 2vxsx-fae " ++ (text_of (canister_id_of (y % 8)) ++ (codes " relay " ++ (hex_word (route y ((y / 8) % 4)) ++ newline)))

-- two rounds after each fiftieth call
unfoldable pub run_line : ℕ → List ℕ
run_line calls = if calls % 50 == 0 then codes "run 2" ++ newline else []

-- that many calls more, after this many, from this number on
unfoldable pub call_lines : (left calls x : ℕ) → List ℕ
call_lines zero calls x = []
call_lines (suc left) calls x =
    (call_line (next_number x / 256) ++ run_line (calls + 1)) ++ call_lines left (calls + 1) (next_number x)

-- ---- the script

unfoldable pub script : ℕ → List ℕ
script n =
    create_lines 8 ++ drain_line
    ++ install_lines (whole relay) 8 ++ drain_line
    ++ call_lines n 0 n ++ drain_line
