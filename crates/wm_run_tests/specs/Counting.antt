-- A host that charges 1 for each call, and then gives 7 where the call has a result.
use Rattle.std.specs.Prelude.{◌≡◌, ℕ, Bool, true, false, ◌+◌, ◌≤◌, Option, Some, None, nat_le, slice_get, if◌then◌else◌, refl}
use Rattle.std.proofs.Common.{sym, subst, ap, arith, lit<}
use Rattle.wm_tree.specs.declared.types.ValType.{ValType}
use Rattle.wm_tree.specs.declared.types.ValType.TheVariants.{I32, I64}
use Rattle.wm_valid.specs.declared.system_api.SystemCall.{SystemCall}
use Rattle.wm_valid.specs.SystemApi.{row_of, calls}
use Rattle.wm_store.specs.Lists.{Lists}
use Rattle.wm_semantics.specs.declared.trap.Trap.TheVariants as trap
use Rattle.wm_semantics.specs.declared.host.HostAnswer.{HostAnswer}
use Rattle.wm_semantics.specs.declared.host.HostAnswer.TheVariants as answer
use Rattle.wm_semantics.specs.Hosts.{Answers, IsAnswer, StoreKept, Lawful}
use Rattle.wm_run_tests.specs.SameStore.{same_store}

abbrev pub result_in : Option SystemCall → Option ValType
result_in None = None
result_in (Some call) = (row_of call).result

-- the type of the result of the call of that number, if there is such a call and it has one
unfoldable pub result_at : ℕ → Option ValType
result_at import = result_in (slice_get calls import)

-- by whether the charge passes, and by the result's type
abbrev pub reply_of : Bool → Option ValType → HostAnswer
reply_of false result = answer.Trap trap.Limit
reply_of true None = answer.Nothing
reply_of true (Some t) = answer.Number 7

pub record Counts (import : ℕ) (s : Lists) (limit used : ℕ) (reply : HostAnswer) (t : Lists) (used' : ℕ) : Type 0 where
  pub reply_is : reply ≡ reply_of (nat_le (used + 1) limit) (result_at import)
  pub store : t ≡ s
  pub used_is : used' ≡ (if nat_le (used + 1) limit then used + 1 else used)

abbrev pub counts : {H : Type 0} → Answers H
counts h import args s limit used reply h' t used' = Counts import s limit used reply t used'

reply_suits : (paid : Bool) (result : Option ValType) → IsAnswer result (reply_of paid result)
reply_suits false None = tt
reply_suits false (Some t) = tt
reply_suits true None = tt
reply_suits true (Some I32) = lit< tt
reply_suits true (Some I64) = lit< tt

charge_rises : (paid : Bool) (used : ℕ) → used ≤ (if paid then used + 1 else used)
charge_rises true used = omega arith
charge_rises false used = omega arith

charge_within : (paid : Bool) (limit used : ℕ) → nat_le (used + 1) limit ≡ paid → used ≤ limit → (if paid then used + 1 else used) ≤ limit
charge_within true limit used passes within = grind arith
charge_within false limit used passes within = within

pub result_of_call : (import : ℕ) (call : SystemCall) → slice_get calls import ≡ Some call → result_at import ≡ (row_of call).result
unfolding result_at
result_of_call import call there = ap result_in there

pub counts_lawful : {H : Type 0} → Lawful (counts {H = H})
counts_lawful {H} h import call args s limit used reply h' t used' there values r = record {
  is_answer =
      subst (λ (a : HostAnswer). IsAnswer (row_of call).result a) (sym r.reply_is)
      (subst (λ (o : Option ValType). IsAnswer o (reply_of (nat_le (used + 1) limit) (result_at import))) (result_of_call import call there)
      (reply_suits (nat_le (used + 1) limit) (result_at import)));
  store = subst (λ (u : Lists). StoreKept s u) (sym r.store) (same_store s);
  rises = subst (λ (n : ℕ). used ≤ n) (sym r.used_is) (charge_rises (nat_le (used + 1) limit) used);
  within = λ le. subst (λ (n : ℕ). n ≤ limit) (sym r.used_is) (charge_within (nat_le (used + 1) limit) limit used refl le);
}
