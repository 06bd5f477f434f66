-- Moves that are submitted, and the first that cannot be.
use Rattle.std.proofs.Common.{◌≡◌, ℕ, suc, ◌+◌, ◌<◌, true, false, List, [], ◌∷◌, ◌++◌, length, take, drop, get_or, Option, None, refl, sym, subst, inl, inr, arith}
use Rattle.std.specs.Prelude.{Result, Ok, Err, IfOk}
use Rattle.std.proofs.lemmas.List.{length-take-le}
use Rattle.ic_behaviour.specs.State.{State}
use Rattle.ic_script.specs.declared.Ask.{Ask}
use Rattle.ct_check.specs.Moving.{Moving}
use Rattle.ct_outcomes.specs.declared.named.Named.{Named}
use Rattle.ct_outcomes.specs.declared.came.Came.{Came}
use Rattle.ct_asked.specs.declared.asked.Asked.TheVariants.{Call, Nothing}
use Rattle.ct_asked.specs.Asked.{IsAsked}
use Rattle.ct_run.specs.Statements.{Setting}
use Rattle.ct_cases.specs.declared.submitting.Sent.{Sent}
use Rattle.ct_cases.specs.declared.submitting.Sent.TheVariants.{As, Not}
use Rattle.ct_cases.specs.Interleaves.{is_query, IsCallSubmitted, IsCallUnsent, IsSubmitted, AreSubmitted, IsUnsent}
use Rattle.ct_cases.specs.Holding.{IsStuck}
use Rattle.ct_cases.specs.Answers.{IsCallSent, IsSent}
use Rattle.ct_cases.proofs.Asking.{chosen_true, chosen_false}
use Rattle.ct_cases.proofs.Lists.{cut_at, take_one}
use Rattle.ct_cases.proofs.Moves.{submitted_more}

module _ (setting : Setting) (names : List Named) (s : State) where
  pub query_sent : (moving : Moving) → is_query moving.action ≡ true → IsSent setting names s moving s (As None)
  query_sent moving query = chosen_true (is_query moving.action) (◌≡◌ {A = Option ℕ} None None × (s ≡ s)) (IsCallSubmitted setting names s moving None s) query (refl, refl)

  call_sent_as : (moving : Moving) (ask : Ask) (t : State) (sent : Sent) → is_query moving.action ≡ false → IsAsked setting.files names moving (Call ask)
      → IsCallSent setting.charge s ask t sent → IsSent setting names s moving t sent
  call_sent_as moving ask t (As number) query asked is =
      chosen_false (is_query moving.action) ((number ≡ None) × (t ≡ s)) (IsCallSubmitted setting names s moving number t) query
      (record { ask = ask; asked = asked; few = is.0; submitted = is.1 })
  call_sent_as moving ask t (Not came) query asked is =
      (chosen_false (is_query moving.action) ⊥ (IsCallUnsent setting names s moving came) query (inr (ask, asked, is.0, is.1)), is.2)

  pub call_sent : {E : Type 0} (moving : Moving) (ask : Ask) (r : Result (State × Sent) E) → is_query moving.action ≡ false → IsAsked setting.files names moving (Call ask)
      → IfOk r (λ sent. IsCallSent setting.charge s ask sent.0 sent.1) → IfOk r (λ sent. IsSent setting names s moving sent.0 sent.1)
  call_sent moving ask (Ok sent) query asked is = call_sent_as moving ask sent.0 sent.1 query asked is
  call_sent moving ask (Err e) query asked is = tt

  pub not_sent : (moving : Moving) (came : Came) → is_query moving.action ≡ false → IsAsked setting.files names moving (Nothing came) → IsSent setting names s moving s (Not came)
  not_sent moving came query asked = (chosen_false (is_query moving.action) ⊥ (IsCallUnsent setting names s moving came) query (inl asked), refl)

  -- the move at a place is submitted, or is stuck
  module _ (moves : List Moving) (numbers : List (Option ℕ)) (i : ℕ) (d : Moving) (t u : State) (within : i < length moves) (so_far : AreSubmitted setting names s (take i moves) numbers t) where
    pub sent_more : (number : Option ℕ) → IsSubmitted setting names t (get_or moves i d) number u → AreSubmitted setting names s (take (i + 1) moves) (numbers ++ number ∷ []) u
    sent_more number is =
        subst (λ (ms : List Moving). AreSubmitted setting names s ms (numbers ++ number ∷ []) u) (sym (take_one moves i d within))
        (submitted_more setting names s t u (take i moves) numbers (get_or moves i d) number so_far is)

    pub stuck_there : (came : Came) → IsUnsent setting names t (get_or moves i d) came → (stuck : IsStuck setting names s moves came) × (length stuck.before ≡ i)
    stuck_there came unsent = (
      record {
        before = take i moves;
        moving = get_or moves i d;
        after = drop (suc i) moves;
        numbers = numbers;
        state = t;
        parts = cut_at moves i d within;
        submitted = so_far;
        unsent = unsent;
      },
      length-take-le i moves (omega (arith, within)),
    )
