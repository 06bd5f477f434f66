-- What is answered of tokens, beside what they spell.
use Rattle.std.proofs.Common.{◌≡◌, false, List, Option, Some, None, refl, ap, ◌∙◌}
use Rattle.std.specs.Prelude.{is_some}
use Rattle.cd_tokens.specs.Token.{Token}

no_pattern : {A : Type 0} (found : Option A) → ((x : A) → found ≡ Some x → ⊥) → false ≡ is_some found
no_pattern None none = refl
no_pattern (Some x) none = absurd (none x refl)

pub none_spelled : {A : Type 0} (found : List Token → Option A) (read tokens : List Token) → read ≡ tokens → ((x : A) → found read ≡ Some x → ⊥) → false ≡ is_some (found tokens)
none_spelled {A} found read tokens same none = no_pattern (found read) none ∙ ap (λ (ts : List Token). is_some (found ts)) same
