-- A host that traps at each call, with any trap.
use Rattle.std.specs.Prelude.{◌≡◌, ℕ, Option, Some, None}
use Rattle.std.proofs.Common.{sym, subst, arith}
use Rattle.wm_tree.specs.declared.types.ValType.{ValType}
use Rattle.wm_valid.specs.SystemApi.{row_of}
use Rattle.wm_store.specs.Lists.{Lists}
use Rattle.wm_semantics.specs.declared.trap.Trap.{Trap}
use Rattle.wm_semantics.specs.declared.host.HostAnswer.{HostAnswer}
use Rattle.wm_semantics.specs.declared.host.HostAnswer.TheVariants as answer
use Rattle.wm_semantics.specs.Hosts.{Answers, IsAnswer, StoreKept, Lawful}
use Rattle.wm_run_tests.specs.SameStore.{same_store}

pub record Refuses (s : Lists) (used : ℕ) (reply : HostAnswer) (t : Lists) (used' : ℕ) : Type 0 where
  pub trap : Trap
  pub reply_is : reply ≡ answer.Trap trap
  pub store : t ≡ s
  pub used_is : used' ≡ used

abbrev pub refuses : {H : Type 0} → Answers H
refuses h import args s limit used reply h' t used' = Refuses s used reply t used'

trap_suits : (result : Option ValType) (trap : Trap) → IsAnswer result (answer.Trap trap)
trap_suits None trap = tt
trap_suits (Some t) trap = tt

pub refuses_lawful : {H : Type 0} → Lawful (refuses {H = H})
refuses_lawful {H} h import call args s limit used reply h' t used' there values r = record {
  is_answer = subst (λ (a : HostAnswer). IsAnswer (row_of call).result a) (sym r.reply_is) (trap_suits (row_of call).result r.trap);
  store = subst (λ (u : Lists). StoreKept s u) (sym r.store) (same_store s);
  rises = omega (arith, r.used_is);
  within = λ le. omega (arith, r.used_is);
}
