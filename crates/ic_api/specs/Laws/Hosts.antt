-- The laws of the host: it keeps the rules of hosts (`lawful`, which `Host` cites), and what each answer keeps a run keeps (`is_kept`, which
-- `Keeps` cites).
use Rattle.std.specs.Prelude.{◌≡◌, ℕ, ◌+◌, ◌≤◌, List, Option, Some, None, nat_le, slice_get, refl}
use Rattle.std.proofs.Common.{subst, ap, arith, ◌∙◌}
use Rattle.std.proofs.lemmas.Bool.{cond_both, leb-true}
use Rattle.wm_tree.specs.declared.types.ValType.{ValType}
use Rattle.wm_valid.specs.declared.system_api.SystemCall.{SystemCall}
use Rattle.wm_valid.specs.SystemApi.{row_of, calls}
use Rattle.wm_store.specs.Values.{AreValues}
use Rattle.wm_store.specs.Lists.{Lists, HoldsBytes, page_limit}
use Rattle.wm_semantics.specs.declared.trap.Trap.TheVariants as trap
use Rattle.wm_semantics.specs.declared.host.HostAnswer.{HostAnswer}
use Rattle.wm_semantics.specs.Hosts.{IsAnswer, HasPages, StoreKept, Lawful}
use Rattle.wm_semantics.specs.Keeps.{Change, IsKept}
use Rattle.wm_semantics.specs.Fuel.{Reply, answers_of}
use Rattle.ic_behaviour.specs.declared.execution.EntryKind.{EntryKind}
use Rattle.ic_api.specs.declared.execution.Execution.{Execution}
use Rattle.ic_api.specs.Steps.{Step, Now, fails, traps}
use Rattle.ic_api.specs.Kinds.{has, kinds_of, may_call}
use Rattle.ic_api.specs.Meaning.{meaning}
use Rattle.ic_api.specs.IsRecord.{IsRecord}
use Rattle.ic_api.specs.Running.{Running, Paid, cost, permitted, api, reply_of, asked, api_reply, Meets}
use Rattle.ic_api.specs.Kept.{RecordKept, Quiet, RunKept}
use Rattle.ic_api.specs.Laws.Records.{same, as_it_is, trap_for}
use Rattle.ic_api.specs.Laws.Lists.{ListsKept, same_lists, same_pages}
use Rattle.ic_api.specs.Laws.Rows.{is_calling_not, row_kept}

-- ---- signatures, sizes and charges

pub record IsLawful (result : Option ValType) (s : Lists) (limit used : ℕ) (r : Reply Running) : Type 0 where
  pub is_answer : IsAnswer result r.answer
  pub lists : ListsKept s r.store
  pub rises : used ≤ r.used
  pub within : used ≤ limit → r.used ≤ limit

permitted_for : (k : EntryKind) (c : SystemCall) (args : List ℕ) (now : Now) → IsRecord now.es → HasPages 256 now.lists.stable → AreValues (row_of c).params args
    → IsAnswer (row_of c).result (permitted k c args now).answer
permitted_for k c args now facts pages values =
    cond_both (has (kinds_of c) k) (meaning k c args now) (fails now) (λ step. IsAnswer (row_of c).result step.answer)
    (λ e. (row_kept k c args now).is_answer facts pages values) (λ e. trap_for (row_of c).result trap.Api)

permitted_lists : (k : EntryKind) (c : SystemCall) (args : List ℕ) (now : Now) → ListsKept now.lists (permitted k c args now).after.lists
permitted_lists k c args now =
    cond_both (has (kinds_of c) k) (meaning k c args now) (fails now) (λ step. ListsKept now.lists step.after.lists)
    (λ e. (row_kept k c args now).lists) (λ e. same_lists now.lists)

api_lawful : (k : EntryKind) (c : SystemCall) (args : List ℕ) (limit used : ℕ) (now : Now) → IsRecord now.es → HasPages 256 now.lists.stable → AreValues (row_of c).params args
    → IsLawful (row_of c).result now.lists limit used (reply_of k (api k c args limit used now))
api_lawful k c args limit used now facts pages values =
    cond_both {A = Paid} (nat_le (used + cost c args now.lists) limit)
    (record { step = permitted k c args now; used = used + cost c args now.lists })
    (record { step = traps trap.Limit now; used = used })
    (λ paid. IsLawful (row_of c).result now.lists limit used (reply_of k paid))
    (λ e. record {
      is_answer = permitted_for k c args now facts pages values;
      lists = permitted_lists k c args now;
      rises = omega arith;
      within = λ le. leb-true (used + cost c args now.lists) limit e;
    })
    (λ e. record {
      is_answer = trap_for (row_of c).result trap.Limit;
      lists = same_lists now.lists;
      rises = omega arith;
      within = λ le. le;
    })

store_kept : (s t : Lists) → ListsKept s t → HoldsBytes t → StoreKept s t
store_kept s t kept bytes = record {
  globals = kept.globals;
  table = kept.table;
  maximum = kept.maximum;
  memory = omega (arith, kept.memory);
  stable = kept.stable;
  memory_pages = λ h. same_pages (page_limit s.maximum) s.memory t.memory kept.memory h;
  stable_pages = kept.stable_pages;
  bytes = λ h. bytes;
}

pub lawful : Lawful Meets
unfolding api_reply
lawful h import call args s limit used a h' t used' is values meets =
    let r : Reply Running = record { answer = a; host = h'; store = t; used = used' } in
    let e : asked h (Some call) args s limit used ≡ r = subst (λ (o : Option SystemCall). asked h o args s limit used ≡ r) is meets.replies in
    let kept : IsLawful (row_of call).result s limit used r =
    subst (IsLawful (row_of call).result s limit used) e (api_lawful h.kind call args limit used (record { es = h.es; lists = s }) meets.is_record meets.pages values) in
    record {
      is_answer = kept.is_answer;
      store = store_kept s t kept.lists meets.bytes;
      rises = kept.rises;
      within = kept.within;
    }

-- ---- what a run keeps

pub unchanged : (h : Running) → RunKept h h
unchanged h = record { kind = refl; es = same h.es; quiet = λ e. as_it_is h.es }

joined_es : (a b c : Execution) → RecordKept a b → RecordKept b c → RecordKept a c
joined_es a b c p q = record {
  cycles = λ once. q.cycles (p.once once) ∙ p.cycles once;
  once = λ once. q.once (p.once once);
  gift = omega (arith, p.gift, q.gift);
  late = λ e. let x = p.late e in let y = q.late x.0 in (y.0, y.1 ∙ x.1);
  spent = λ s. q.spent (p.spent s);
  few = λ h. q.few (p.few h);
  numbers = λ h. q.numbers (p.numbers h);
  view = q.view ∙ p.view;
}

joined_quiet : (a b c : Execution) → Quiet a b → Quiet b c → Quiet a c
joined_quiet a b c p q = record { balance = q.balance ∙ p.balance; begun = q.begun ∙ p.begun; performed = q.performed ∙ p.performed }

pub joined : (a b c : Running) → RunKept a b → RunKept b c → RunKept a c
joined a b c p q = record {
  kind = q.kind ∙ p.kind;
  es = joined_es a.es b.es c.es p.es q.es;
  quiet = λ e. joined_quiet a.es b.es c.es (p.quiet e) (q.quiet (ap may_call p.kind ∙ e));
}

-- a step of an execution of that kind
abbrev pub RunStepKept : EntryKind → Now → Step Now → Type 0
RunStepKept k now step = RunKept (record { kind = k; es = now.es }) (record { kind = k; es = step.after.es })

permitted_kept : (k : EntryKind) (c : SystemCall) (args : List ℕ) (now : Now) → RunStepKept k now (permitted k c args now)
permitted_kept k c args now =
    cond_both (has (kinds_of c) k) (meaning k c args now) (fails now) (RunStepKept k now)
    (λ may. let row = row_kept k c args now in record { kind = refl; es = row.kept; quiet = λ quiet. row.quiet (is_calling_not (kinds_of c) k may quiet) })
    (λ e. unchanged (record { kind = k; es = now.es }))

pub api_kept : (k : EntryKind) (c : SystemCall) (args : List ℕ) (limit used : ℕ) (now : Now) → RunStepKept k now (api k c args limit used now).step
api_kept k c args limit used now =
    cond_both {A = Paid} (nat_le (used + cost c args now.lists) limit)
    (record { step = permitted k c args now; used = used + cost c args now.lists })
    (record { step = traps trap.Limit now; used = used })
    (λ paid. RunStepKept k now paid.step) (λ e. permitted_kept k c args now) (λ e. unchanged (record { kind = k; es = now.es }))

asked_kept : (h : Running) (o : Option SystemCall) (args : List ℕ) (s : Lists) (limit used : ℕ) → RunKept h (asked h o args s limit used).host
asked_kept h None args s limit used = unchanged h
asked_kept h (Some c) args s limit used = api_kept h.kind c args limit used (record { es = h.es; lists = s })

-- each reply of the host, also to what is no call
pub reply_kept : (h : Running) (import : ℕ) (args : List ℕ) (s : Lists) (limit used : ℕ) → RunKept h (api_reply h import args s limit used).host
unfolding api_reply
reply_kept h import args s limit used = asked_kept h (slice_get calls import) args s limit used

-- each answer of the host keeps what its reply keeps: what a run of any module asks of its host
pub answer_kept : (h : Running) (import : ℕ) (args : List ℕ) (s : Lists) (limit used : ℕ) (a : HostAnswer) (h' : Running) (t : Lists) (used' : ℕ)
    → answers_of api_reply h import args s limit used a h' t used' → RunKept h h'
answer_kept h import args s limit used a h' t used' said = subst (RunKept h) (ap (λ (r : Reply Running). r.host) said) (reply_kept h import args s limit used)

abbrev pub run_kept : Change Running
run_kept h s used h' t used' = RunKept h h'

pub is_kept : (limit : ℕ) → IsKept Meets limit run_kept
is_kept limit = record {
  same = λ h s used. unchanged h;
  joined = λ h h' h'' s s' s'' used used' used'' p q. joined h h' h'' p q;
  reduced = λ h s t used used' stays up within. unchanged h;
  told = λ h import args s used a h' t used' is meets. answer_kept h import args s limit used a h' t used' meets.replies;
}
