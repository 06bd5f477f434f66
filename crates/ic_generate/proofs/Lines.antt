-- One more line.
use Rattle.std.proofs.Common.{◌≡◌, ◌∙◌, ap, arith, ℕ, suc, ◌+◌, ◌-◌, ◌/◌, ◌<◌, List, ◌++◌}
use Rattle.std.proofs.lemmas.List.{append_assoc}
use Rattle.ic_principal.specs.CanisterId.{canister_id_of}
use Rattle.ic_generate.specs.Script.{call_line, call_lines, counter_at, create_line, create_lines, install_line, install_lines, next_number, route, run_line}

pub create_more : (text : List ℕ) (count : ℕ) → (text ++ create_lines count) ++ create_line ≡ text ++ create_lines (count + 1)
unfolding create_lines
create_more text count =
    let one : suc count ≡ count + 1 = omega arith in
    append_assoc text (create_lines count) create_line ∙ ap (λ n. text ++ create_lines n) one

pub install_more : (text code : List ℕ) (count : ℕ)
    → (text ++ install_lines code count) ++ install_line code count ≡ text ++ install_lines code (count + 1)
unfolding install_lines
install_more text code count =
    let one : suc count ≡ count + 1 = omega arith in
    append_assoc text (install_lines code count) (install_line code count) ∙ ap (λ n. text ++ install_lines code n) one

pub route_more : (y place : ℕ) → route y place ++ canister_id_of (counter_at y place) ≡ route y (place + 1)
unfolding route
route_more y place = let one : suc place ≡ place + 1 = omega arith in ap (route y) one

pub call_more : (n calls x : ℕ) → calls < n
    → call_lines (n - calls) calls x ≡ (call_line (next_number x / 256) ++ run_line (calls + 1)) ++ call_lines (n - (calls + 1)) (calls + 1) (next_number x)
unfolding call_lines
call_more n calls x lt =
    let more : n - calls ≡ suc (n - (calls + 1)) = omega arith in
    ap (λ left. call_lines left calls x) more

-- a call and what follows it come before the calls that are left
pub moved : (text call run left : List ℕ) → ((text ++ call) ++ run) ++ left ≡ text ++ ((call ++ run) ++ left)
moved text call run left = ap (λ l. l ++ left) (append_assoc text call run) ∙ append_assoc text (call ++ run) left
