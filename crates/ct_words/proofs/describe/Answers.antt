use Rattle.std.proofs.Common.{◌≡◌, ◌∙◌, ap₂, Bool, false, codes}
use Rattle.std.specs.Prelude.{◌||◌}
use Rattle.std.proofs.lemmas.Result.{IfOk-weaker}
use Rattle.clap.specs.Words.{app_of, with_rule}
use Rattle.clap.specs.Simple.{App, new_app}
use Rattle.ic_options.specs.Command.{limit_rule, price_rule}
use Rattle.ct_words.specs.Command.{flag_rule, states_rule, text_rule}
use Rattle.ct_words.proofs.describe.Goals as goal

abbrev limited : App
limited = with_rule (new_app (codes "canister_test")) limit_rule

abbrev priced : App
priced = with_rule limited price_rule

abbrev counted : App
counted = with_rule priced states_rule

abbrev chosen : App
chosen = with_rule counted (text_rule (codes "only"))

abbrev scripted : App
scripted = with_rule chosen (text_rule (codes "script"))

abbrev drawn : App
drawn = with_rule scripted (text_rule (codes "picture"))

-- no argument of a command is global, if none was and the new one is not
no_global : {new old added : Bool} → new ≡ (old || added) → old ≡ false → added ≡ false → new ≡ false
no_global is none local = is ∙ (λ i. none i || local i)

pub returns : goal.returns
returns c =
    let first = c.in_ok-arg.ensures in
    let second = c.in_ok-arg-2.ensures in
    let third = c.in_ok-arg-3.ensures in
    let fourth = c.in_ok-arg-4.ensures in
    let fifth = c.in_ok-arg-5.ensures in
    let sixth = c.in_ok-arg-6.ensures in
    let seventh = c.in_ok-arg-7.ensures in
    let one : app_of c.in_ok-arg.field-0 ≡ limited = first.shape c.number_or-limit.ensures.local ∙ ap₂ with_rule c.new.ensures.app c.number_or-limit.ensures.rule in
    let two : app_of c.in_ok-arg-2.field-0 ≡ priced = second.shape c.number_or-price.ensures.local ∙ ap₂ with_rule one c.number_or-price.ensures.rule in
    let three : app_of c.in_ok-arg-3.field-0 ≡ counted = third.shape c.number_or-states.ensures.local ∙ ap₂ with_rule two c.number_or-states.ensures.rule in
    let four : app_of c.in_ok-arg-4.field-0 ≡ chosen = fourth.shape c.text_option-only.ensures.local ∙ ap₂ with_rule three c.text_option-only.ensures.rule in
    let five : app_of c.in_ok-arg-5.field-0 ≡ scripted = fifth.shape c.text_option-script.ensures.local ∙ ap₂ with_rule four c.text_option-script.ensures.rule in
    let six : app_of c.in_ok-arg-6.field-0 ≡ drawn = sixth.shape c.text_option-picture.ensures.local ∙ ap₂ with_rule five c.text_option-picture.ensures.rule in
    let seven : app_of c.in_ok-arg-7.field-0 ≡ with_rule drawn (flag_rule (codes "trace")) = seventh.shape c.flag-trace.ensures.local ∙ ap₂ with_rule six c.flag-trace.ensures.rule in
    record {
      app = IfOk-weaker c.arg-8.result _ _ (λ made h. h.shape c.files-files.ensures.local ∙ ap₂ with_rule seven c.files-files.ensures.rule) c.arg-8.ensures;
      plain = IfOk-weaker c.arg-8.result _ _ (λ made h. h.groups ∙ (seventh.groups ∙ (sixth.groups ∙ (fifth.groups ∙ (fourth.groups ∙ (third.groups ∙ (second.groups ∙ (first.groups ∙ c.new.ensures.empty.1)))))))) c.arg-8.ensures;
      local = IfOk-weaker c.arg-8.result _ _ (λ made h. no_global h.globals
          (no_global seventh.globals (no_global sixth.globals (no_global fifth.globals (no_global fourth.globals (no_global third.globals (no_global second.globals
          (no_global first.globals c.new.ensures.local c.number_or-limit.ensures.local) c.number_or-price.ensures.local) c.number_or-states.ensures.local) c.text_option-only.ensures.local)
          c.text_option-script.ensures.local) c.text_option-picture.ensures.local) c.flag-trace.ensures.local) c.files-files.ensures.local) c.arg-8.ensures;
    }
