use Rattle.std.proofs.Common.{◌≡◌, List, ℕ, true, subst, ◌∙◌}
use Rattle.std.specs.Str.{is_utf8}
use Rattle.std.proofs.lemmas.Str.{is_utf8-from_IsUtf8}
use Rattle.cd_did.proofs.named.text_of.Goals as goal

pub returns-clause-utf8 : goal.returns-clause-utf8
returns-clause-utf8 c = subst (λ (s : List ℕ). is_utf8 s ≡ true) (c.as_str-text.ensures.value ∙ c.name.view_is) (is_utf8-from_IsUtf8 _ c.as_str-text.utf8)
