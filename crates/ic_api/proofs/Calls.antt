-- What was run is what the host replies.
use Rattle.std.proofs.Common.{◌≡◌, ℕ, ◌*◌, ◌≤◌, List, length, Option, Some, slice_get, refl, sym, subst, ap, arith}
use Rattle.wm_valid.specs.declared.system_api.SystemCall.{SystemCall}
use Rattle.wm_valid.specs.SystemApi.{calls}
use Rattle.wm_store.specs.Lists.{Lists, HoldsBytes}
use Rattle.wm_semantics.specs.declared.host.HostAnswer.{HostAnswer}
use Rattle.wm_semantics.specs.Hosts.{HasPages}
use Rattle.wm_semantics.specs.Fuel.{Reply}
use Rattle.ic_behaviour.specs.declared.execution.EntryKind.{EntryKind}
use Rattle.ic_api.specs.declared.execution.Execution.{Execution}
use Rattle.ic_api.specs.Did.{Did}
use Rattle.ic_api.specs.Steps.{Now}
use Rattle.ic_api.specs.IsRecord.{IsRecord}
use Rattle.ic_api.specs.Running.{Running, Paid, api, reply_of, asked, api_reply, Meets}
use Rattle.ic_api.specs.Kept.{RecordKept}
use Rattle.ic_api.specs.Laws.Hosts.{api_kept}

pub pages_from : (n : ℕ) (xs : List ℕ) → 65536 * n ≡ length xs → n ≤ 256 → HasPages 256 xs
pages_from n xs whole few = record { whole = omega (arith, whole); within = omega (arith, whole, few) }

is_record_after : (old new : Execution) → IsRecord old → RecordKept old new → IsRecord new
is_record_after old new facts kept = record {
  cycles = omega (arith, facts.cycles, kept.cycles facts.once);
  outstanding = kept.few facts.outstanding;
  numbers = kept.numbers facts.numbers;
  once = kept.once facts.once;
  time = omega (arith, facts.time, ap (λ v. v.time) kept.view);
  phase = omega (arith, facts.phase, ap (λ v. v.phase_number) kept.view);
  code = omega (arith, facts.code, ap (λ v. v.reject_code) kept.view);
}

replied : (k : EntryKind) (paid : Paid) (a : HostAnswer) (es : Execution) (t : Lists) (used : ℕ)
    → a ≡ paid.step.answer → es ≡ paid.step.after.es → t ≡ paid.step.after.lists → used ≡ paid.used
    → reply_of k paid ≡ record { answer = a; host = record { kind = k; es = es }; store = t; used = used }
replied k paid a es t used p q r s = rw (p, q, r, s) refl

module _ (k : EntryKind) (c : SystemCall) (args : List ℕ) (limit used : ℕ) (es : Execution) (s : Lists) (a : HostAnswer) (es' : Execution) (t : Lists) where
  pub record_stays : IsRecord es → Did a (record { es = es'; lists = t }) (api k c args limit used (record { es = es; lists = s })).step → IsRecord es'
  record_stays facts did =
      let kept = (api_kept k c args limit used (record { es = es; lists = s })).es in
      is_record_after es es' facts (subst (RecordKept es) (sym (ap (λ (n : Now). n.es) did.after)) kept)

  pub met : (import used' : ℕ) → slice_get calls import ≡ Some c
      → Did a (record { es = es'; lists = t }) (api k c args limit used (record { es = es; lists = s })).step
      → used' ≡ (api k c args limit used (record { es = es; lists = s })).used
      → IsRecord es → HasPages 256 s.stable → HoldsBytes t
      → Meets (record { kind = k; es = es }) import args s limit used a (record { kind = k; es = es' }) t used'
  unfolding api_reply
  met import used' is did spent facts pages bytes =
      let h : Running = record { kind = k; es = es } in
      let r : Reply Running = record { answer = a; host = record { kind = k; es = es' }; store = t; used = used' } in
      let e : asked h (Some c) args s limit used ≡ r =
      replied k (api k c args limit used (record { es = es; lists = s })) a es' t used' did.answers (ap (λ (n : Now). n.es) did.after) (ap (λ (n : Now). n.lists) did.after) spent in
      record {
        replies = subst (λ (o : Option SystemCall). asked h o args s limit used ≡ r) (sym is) e;
        is_record = facts;
        pages = pages;
        bytes = bytes;
      }
