-- When what came meets an outcome, and what names are bound then.
use Rattle.std.specs.Prelude.{◌≡◌, ◌⊎◌, ◌++◌, ℕ, true, false, List, [], ◌∷◌, map, Option, Some, None, IfSome}
use Rattle.cd_codec.specs.Content.{Content}
use Rattle.cd_coerce.specs.Decodes.{Decodes}
use Rattle.cd_tokens.specs.Token.{Token}
use Rattle.ct_patterns.specs.Views.{Bound}
use Rattle.ct_patterns.specs.Meets as patterns
use Rattle.ct_values.specs.Steps.{step_views}
use Rattle.ct_values.specs.Spelled.{spelled}
use Rattle.ct_patterns.specs.declared.step.Step.{Step}
use Rattle.ct_check.specs.Filling.{Filling}
use Rattle.ct_check.specs.declared.checked.CheckedOutcome.{CheckedOutcome}
use Rattle.ct_check.specs.declared.checked.CheckedOutcome.TheVariants as outcomes
use Rattle.ct_outcomes.specs.declared.named.Named.{Named}
use Rattle.ct_outcomes.specs.declared.came.Came.{Came}
use Rattle.ct_outcomes.specs.declared.came.Came.TheVariants.{Replied, Rejected, Refused}
use Rattle.ct_outcomes.specs.Types.{Types}
use Rattle.ct_outcomes.specs.Standings.{IsFilledIn, named_of}
use Rattle.ct_outcomes.specs.Arguments.{IsNeeded}

-- the bytes can be read at the types, as these values
abbrev pub Reads : Types → List ℕ → List Content → Type 0
Reads types bytes values = (part : Types) × IsNeeded types part × Decodes part bytes values

-- the values meet the pattern that the tokens say at the types, and these names are bound
pub record MeetsSaid (types : Types) (tokens : List Token) (values : List Content) (bound : List Named) : Type 0 where
  pub steps : List Step
  pub bindings : List Bound
  pub said : spelled (record { patterns = true; names = false }) types.0 types.1 tokens ≡ Some (step_views steps)
  pub meets : patterns.Meets steps values bindings
  pub binds : bound ≡ map (named_of types) bindings

-- the same of what is filled in, with what the names stand for in their place
abbrev pub MeetsFilled : Types → List Named → Filling → List Content → List Named → Type 0
MeetsFilled types names filling values bound = (tokens : List Token) × IsFilledIn names filling tokens × MeetsSaid types tokens values bound

-- a text has the other as a part
abbrev pub HasPart : List ℕ → List ℕ → Type 0
HasPart text part = (front : List ℕ) × (back : List ℕ) × (text ≡ front ++ (part ++ back))

-- a reject has the code and the part of its text, where they are given
abbrev pub IsRejectedSo : Option ℕ → Option (List ℕ) → ℕ → List ℕ → Type 0
IsRejectedSo wanted part code text = IfSome wanted (λ k. k ≡ code) × IfSome part (HasPart text)

-- what came meets an outcome, and these names are bound
abbrev pub Meets : Types → List Named → CheckedOutcome → Came → List Named → Type 0
Meets types names (outcomes.Replies None) (Replied bytes) bound = (bound ≡ []) × ((values : List Content) × Reads types bytes values)
Meets types names (outcomes.Replies (Some filling)) (Replied bytes) bound = (values : List Content) × Reads types bytes values × MeetsFilled types names filling values bound
Meets types names (outcomes.Rejects wanted part) (Rejected code text) bound = (bound ≡ []) × IsRejectedSo wanted part code text
Meets types names outcomes.Refused Refused bound = bound ≡ []
Meets types names outcome came bound = ⊥

-- without outcomes any reply is expected
abbrev pub wanted : List CheckedOutcome → List CheckedOutcome
wanted [] = outcomes.Replies None ∷ []
wanted expected = expected

-- what came meets the first of the outcomes, or it does not and meets one of the others
abbrev pub MeetsFirst : Types → List Named → List CheckedOutcome → Came → List Named → Type 0
MeetsFirst types names [] came bound = ⊥
MeetsFirst types names (outcome ∷ others) came bound =
    Meets types names outcome came bound ⊎ (((any : List Named) → Meets types names outcome came any → ⊥) × MeetsFirst types names others came bound)

-- what came meets one of the outcomes that are expected; the first that is met binds the names
abbrev pub MeetsOne : Types → List Named → List CheckedOutcome → Came → List Named → Type 0
MeetsOne types names expected came bound = MeetsFirst types names (wanted expected) came bound
