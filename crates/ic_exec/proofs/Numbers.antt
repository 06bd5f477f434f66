-- The numbers of calls that go out.
use Rattle.std.proofs.Common.{◌≡◌, ℕ, ◌+◌, ◌<◌, ◌^◌, List, [], ◌∷◌, ◌++◌, length, refl, sym, ap, ap₂, ◌∙◌, arith, length-append, append_assoc, append-nil}
use Rattle.ic_behaviour.specs.declared.call.CallId.{CallId}
use Rattle.ic_behaviour.specs.declared.call.Origin.TheVariants as origin
use Rattle.ic_behaviour.specs.declared.call.Message.{Message}
use Rattle.ic_behaviour.specs.declared.call.Message.TheVariants.{Call}
use Rattle.ic_behaviour.specs.declared.execution.OutCall.{OutCall}
use Rattle.ic_behaviour.specs.Executing.{numbered}

abbrev pub with_number : List ℕ → CallId → ℕ → OutCall → Message
with_number key own n c = Call (origin.Canister key n own c.callback) key c.callee c.method c.arg c.cycles

pub numbered-push : (key : List ℕ) (own : CallId) (n : ℕ) (cs : List OutCall) (c : OutCall) → numbered key own n (cs ++ c ∷ []) ≡ numbered key own n cs ++ with_number key own (n + length cs) c ∷ []
numbered-push key own n [] c = ap (λ m. with_number key own m c ∷ []) (omega arith)
numbered-push key own n (d ∷ cs) c =
    ap (λ l. with_number key own n d ∷ l) (numbered-push key own (n + 1) cs c ∙ ap (λ m. numbered key own (n + 1) cs ++ with_number key own m c ∷ []) (omega arith))

-- the messages of those that were gone through
pub record IsNumbered (key : List ℕ) (own : CallId) (next : ℕ) (messages : List Message) (number : ℕ) (done rest all : List OutCall) : Type 0 where
  pub messages_so_far : messages ≡ numbered key own next done
  pub number_so_far : number ≡ next + length done
  pub whole : all ≡ done ++ rest

module _ (key : List ℕ) (own : CallId) (next : ℕ) (messages : List Message) (number : ℕ) (done rest all : List OutCall) (so_far : IsNumbered key own next messages number done rest all) where
  -- there is a number for the call, and one after it
  pub next_fits : (c : OutCall) (rest' : List OutCall) → rest ≡ c ∷ rest' → next + length all < 2 ^ 64 → number + 1 < 2 ^ 64
  next_fits c rest' e few = omega (arith, so_far.number_so_far, ap length (so_far.whole ∙ ap (λ l. done ++ l) e), length-append done (c ∷ rest'))

  pub next_numbered : (c : OutCall) (rest' : List OutCall) (messages' : List Message) (m : Message) → rest ≡ c ∷ rest' → messages' ≡ messages ++ m ∷ [] → m ≡ with_number key own number c
      → IsNumbered key own next messages' (number + 1) (done ++ c ∷ []) rest' all
  next_numbered c rest' messages' m e pushed is = record {
    messages_so_far =
        pushed ∙ ap₂ (λ l n. l ++ n ∷ []) so_far.messages_so_far (is ∙ ap (λ n. with_number key own n c) so_far.number_so_far) ∙ sym (numbered-push key own next done c);
    number_so_far = omega (arith, so_far.number_so_far, length-append done (c ∷ []));
    whole = so_far.whole ∙ ap (λ l. done ++ l) e ∙ sym (append_assoc done (c ∷ []) rest');
  }

  pub all_numbered : length rest ≡ 0 → messages ≡ numbered key own next all
  all_numbered e = so_far.messages_so_far ∙ ap (numbered key own next) (sym (so_far.whole ∙ ap (λ l. done ++ l) (none rest e) ∙ append-nil done)) where
    none : (l : List OutCall) → length l ≡ 0 → l ≡ []
    none [] e = refl
    none (c ∷ l) e = absurd (omega (arith, e))
