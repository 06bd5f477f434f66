-- What calls answer, and what came as it is compared with outcomes.
use Rattle.std.specs.Prelude.{◌≡◌, ℕ, List, [], Result, Option, Some, None, IfOk}
use Rattle.std.specs.Option.{MatchOption}
use Rattle.ic_principal.specs.Text.{text_of}
use Rattle.cd_codec.specs.Answers.{contents}
use Rattle.cd_codec.specs.Content.{Content, plain, principal, service}
use Rattle.ct_check.specs.declared.checked.CheckedOutcome.{CheckedOutcome}
use Rattle.ct_outcomes.specs.declared.standing.Standing.{Standing}
use Rattle.ct_outcomes.specs.declared.standing.Standing.TheVariants.{Principal, Service, Value}
use Rattle.ct_outcomes.specs.declared.named.Named.{Named}
use Rattle.ct_outcomes.specs.declared.came.Came.{Came}
use Rattle.ct_outcomes.specs.declared.came.Came.TheVariants as coming
use Rattle.ct_outcomes.specs.declared.meeting.Answer.{Answer}
use Rattle.ct_outcomes.specs.declared.meeting.Answer.TheVariants.{Values, Rejected, Refused, Other}
use Rattle.ct_outcomes.specs.Types.{Types}
use Rattle.ct_outcomes.specs.Standings.{standing_at}
use Rattle.ct_outcomes.specs.Meets.{Reads, Meets}

-- P holds of what is found, and of nothing where nothing is found; unless memory ran out
abbrev pub Finds : {A B E : Type 0} → (A → B) → (B → Type 0) → Result (Option A) E → Type 0
Finds {A} {B} see P result = IfOk result (λ found. MatchOption found ((x : B) → P x → ⊥) (λ a. P (see a)))

-- a principal or a service, which is kept as itself
abbrev pub reference_in : Content → Option Standing
reference_in (plain (principal id)) = Some (Principal id)
reference_in (plain (service id)) = Some (Service id)
reference_in _ = None

-- the text of a principal or of a service
abbrev pub written_in : Option Standing → List ℕ
written_in None = []
written_in (Some (Principal id)) = text_of id
written_in (Some (Service id)) = text_of id
written_in (Some (Value text)) = []

abbrev pub written_at : List Named → ℕ → List ℕ
written_at names slot = written_in (standing_at names slot)

-- what came is this, as far as outcomes are about it
abbrev pub IsAnswer : Types → Came → Answer → Type 0
IsAnswer types came (Values values) = (bytes : List ℕ) × (came ≡ coming.Replied bytes) × Reads types bytes (contents values)
IsAnswer types came (Rejected code text) = came ≡ coming.Rejected code text.now
IsAnswer types came Refused = came ≡ coming.Refused
IsAnswer types came Other = (names : List Named) (outcome : CheckedOutcome) (bound : List Named) → Meets types names outcome came bound → ⊥
