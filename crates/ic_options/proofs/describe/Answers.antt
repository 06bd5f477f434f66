use Rattle.std.proofs.Common.{◌≡◌, ◌∙◌, ap₂, codes, rules}
use Rattle.std.proofs.lemmas.Result.{IfOk-weaker}
use Rattle.clap.specs.Words.{app_of, with_rule}
use Rattle.clap.specs.Simple.{new_app}
use Rattle.ic_options.specs.Command.{workers_rule, limit_rule, rounds_rule, generate_rule}
use Rattle.ic_options.proofs.describe.Goals as goal

pub returns : goal.returns
returns c =
    let first = c.in_ok-arg.ensures in
    let second = c.in_ok-arg-2.ensures in
    let third = c.in_ok-arg-3.ensures in
    let fourth = c.in_ok-arg-4.ensures in
    let one : app_of c.in_ok-arg.field-0 ≡ with_rule (new_app (codes "replica")) workers_rule =
    first.shape c.number_or-workers.ensures.local ∙ ap₂ with_rule c.new.ensures.app c.number_or-workers.ensures.rule in
    let two : app_of c.in_ok-arg-2.field-0 ≡ with_rule (with_rule (new_app (codes "replica")) workers_rule) limit_rule =
    second.shape c.number_or-limit.ensures.local ∙ ap₂ with_rule one c.number_or-limit.ensures.rule in
    let three : app_of c.in_ok-arg-3.field-0 ≡ with_rule (with_rule (with_rule (new_app (codes "replica")) workers_rule) limit_rule) rounds_rule =
    third.shape c.number_or-rounds.ensures.local ∙ ap₂ with_rule two c.number_or-rounds.ensures.rule in
    let four : app_of c.in_ok-arg-4.field-0 ≡ with_rule (with_rule (with_rule (with_rule (new_app (codes "replica")) workers_rule) limit_rule) rounds_rule) generate_rule =
    fourth.shape c.number-generate.ensures.local ∙ ap₂ with_rule three c.number-generate.ensures.rule in
    record {
      app = IfOk-weaker c.arg-5.result _ _ (λ made h. h.shape c.number_or-price.ensures.local ∙ ap₂ with_rule four c.number_or-price.ensures.rule) c.arg-5.ensures;
      plain = IfOk-weaker c.arg-5.result _ _ (λ made h. h.groups ∙ (fourth.groups ∙ (third.groups ∙ (second.groups ∙ (first.groups ∙ c.new.ensures.empty.1))))) c.arg-5.ensures;
      local = IfOk-weaker c.arg-5.result _ _ (λ made h. search rules) c.arg-5.ensures;
    }
