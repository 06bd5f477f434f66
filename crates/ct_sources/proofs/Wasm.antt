-- Which bytes are a module, by what decoding and validation answer.
use Rattle.std.proofs.Common.{◌≡◌, ℕ, ◌≤◌, Bool, true, false, List, length, None, ap, ◌∙◌}
use Rattle.std.specs.Prelude.{◌↔◌, Result, Ok, Err, IfOk}
use Rattle.wm_tree.specs.declared.parts.Module.{Module}
use Rattle.wm_decode.specs.Answer.{IsPlain}
use Rattle.wm_decode.specs.Mod.{Mod}
use Rattle.wm_valid.specs.Checked.{checked}
use Rattle.ct_sources.specs.IsSourceOf.{IsWasm}

pub decoded : (bytes : List ℕ) (m : Module) (said : Bool) → length bytes ≤ 2000000 → IsPlain bytes → Mod false m bytes → ((other : Module) → IsPlain bytes → Mod false other bytes → m ≡ other)
    → ((said ≡ true) ↔ (checked m ≡ None)) → ((said ≡ true) ↔ IsWasm bytes)
decoded bytes m said few plain is only valid = (
  λ e. record { «module» = m; few = few; plain = plain; is = is; valid = valid.0 e },
  λ w. valid.1 (ap checked (only w.«module» w.plain w.is) ∙ w.valid),
)

-- the same of what is answered, if anything is
pub decoded_if : {A E : Type 0} (answer : Result A E) (is_wasm : A → Bool) (bytes : List ℕ) (m : Module) → length bytes ≤ 2000000 → IsPlain bytes → Mod false m bytes → ((other : Module) → IsPlain bytes → Mod false other bytes → m ≡ other)
    → IfOk answer (λ said. (is_wasm said ≡ true) ↔ (checked m ≡ None)) → IfOk answer (λ said. (is_wasm said ≡ true) ↔ IsWasm bytes)
decoded_if (Ok said) is_wasm bytes m few plain is only valid = decoded bytes m (is_wasm said) few plain is only valid
decoded_if (Err e) is_wasm bytes m few plain is only valid = tt
