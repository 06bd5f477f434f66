-- The host to which somebody listens, by that of the System API.
use Rattle.std.proofs.Common.{◌≡◌, ℕ, ◌≤◌, List, Option, Some, None, option_map, slice_get, refl, sym, ap, ◌∙◌}
use Rattle.ic_heard.specs.Hears.{Speech}
use Rattle.wm_valid.specs.SystemApi.{calls}
use Rattle.wm_store.specs.Lists.{Lists}
use Rattle.wm_semantics.specs.declared.host.HostAnswer.{HostAnswer}
use Rattle.wm_semantics.specs.declared.target.Target.{Target}
use Rattle.wm_semantics.specs.declared.target.Ended.{Ended}
use Rattle.wm_semantics.specs.declared.target.Ended.TheVariants.{Returned, Trapped}
use Rattle.wm_semantics.specs.Steps.{Outcome}
use Rattle.wm_semantics.specs.Fuel.{Reply, IsFunctional, AgreesWith, Rises, invoked}
use Rattle.wm_semantics.specs.Through.{IsSeenAs, outcome_through}
use Rattle.wm_semantics.specs.Entry.{entered_by, entered_or, entry}
use Rattle.wm_semantics.proofs.Through.{invoked_through}
use Rattle.ic_behaviour.specs.declared.execution.EntryKind.{EntryKind}
use Rattle.ic_behaviour.specs.declared.execution.View.{View}
use Rattle.ic_behaviour.specs.State.{Code}
use Rattle.ic_behaviour.specs.Entry.{outcome_of}
use Rattle.ic_behaviour.specs.Installing.{enters_after}
use Rattle.ic_api.specs.Running.{Running, api_reply}
use Rattle.ic_api.specs.System.{system_api}
use Rattle.ic_api.specs.Hearing.{Listening, Hears, with_heard, hearing_reply, listening, hearing_api}

-- ---- the function

-- a reply with what was heard in the place of what comes of it
abbrev reply_with : HostAnswer → Running → Lists → ℕ → Speech → Reply Listening
reply_with a h t used heard = record { answer = a; host = record { run = h; heard = heard }; store = t; used = used }

pub agrees : AgreesWith hearing_reply Hears
unfolding hearing_reply
agrees h import args s limit used a h' t used' hears =
    ap (with_heard h.heard (slice_get calls import) args) hears.meets.replies
    ∙ ap (reply_with a h'.run t used') (sym hears.heard)

pub is_functional : IsFunctional Hears
is_functional h import args s limit used a a' h' h'' t t' used' used'' p q =
    sym (agrees h import args s limit used a h' t used' p) ∙ agrees h import args s limit used a' h'' t' used'' q

pub rises : Rises api_reply → Rises hearing_reply
unfolding hearing_reply
rises plain h import args s limit used = plain h.run import args s limit used

-- ---- what is heard changes nothing

abbrev run_of : Listening → Running
run_of h = h.run

is_seen : IsSeenAs run_of hearing_reply api_reply
unfolding hearing_reply
is_seen h import args s limit used = refl

ends_so : (before : Speech) (ended : Ended) (h : Listening) (t : Lists) (used : ℕ)
    → outcome_of (hearing_api before) (entered_by ended h t used) ≡ outcome_of system_api (entered_by ended (run_of h) t used)
ends_so before Returned h t used = refl
ends_so before (Trapped cause) h t used = refl

comes_so : (before : Speech) (spent : ℕ) (o : Option (Outcome Listening))
    → outcome_of (hearing_api before) (entered_or spent o) ≡ outcome_of system_api (entered_or spent (option_map (outcome_through run_of) o))
comes_so before spent None = refl
comes_so before spent (Some o) = ends_so before o.ended o.host o.store o.used

pub changes_nothing : (before : Speech) (code : Code) (s : Lists) (target : Target) (kind : EntryKind) (view : View) (limit spent : ℕ)
    → enters_after (hearing_api before) code s target kind view limit spent ≡ enters_after system_api code s target kind view limit spent
unfolding enters_after entry
changes_nothing before code s target kind view limit spent =
    comes_so before spent (invoked hearing_reply code.«module» limit (listening before kind view) s spent target)
    ∙ ap (λ o. outcome_of system_api (entered_or spent o))
    (sym (invoked_through run_of hearing_reply api_reply is_seen code.«module» limit (listening before kind view) s spent target))
