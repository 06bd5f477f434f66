use Rattle.std.proofs.Common.{◌≡◌, Bool, true, false, refl, sym}
use Rattle.std.specs.Str.{is_utf8, IsUtf8}
use Rattle.std.proofs.lemmas.Str.{is_utf8-from_IsUtf8, IsUtf8-from_is_utf8}
use Rattle.cd_grammar.proofs.file.is_utf8.Goals as goal

-- a test of what does not hold
not_passed : (test : Bool) (P : Type 0) → (test ≡ true → P) → (P → ⊥) → false ≡ test
not_passed true P holds not = absurd (not (holds refl))
not_passed false P holds not = refl

pub returns-in-Ok : goal.returns-in-Ok
returns-in-Ok c = sym (is_utf8-from_IsUtf8 c.args.text.now c.in-Ok.ensures.cases.1)

pub returns-in-Err : goal.returns-in-Err
returns-in-Err c = not_passed (is_utf8 c.args.text.now) (IsUtf8 c.args.text.now) (IsUtf8-from_is_utf8 c.args.text.now) c.in-Err.ensures.cases.0
