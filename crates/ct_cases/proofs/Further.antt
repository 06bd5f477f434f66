-- Cases that go on, one after another.
use Rattle.std.proofs.Common.{◌≡◌, ℕ, zero, suc, List, [], ◌∷◌, ◌++◌, length, Option, Some, refl, sym, ap, ◌∙◌, subst, append_assoc}
use Rattle.std.specs.Prelude.{slice_get}
use Rattle.ic_behaviour.specs.State.{State}
use Rattle.ct_check.specs.Moving.{Moving}
use Rattle.ct_check.specs.declared.checked.CheckedKind.{CheckedKind}
use Rattle.ct_outcomes.specs.declared.came.Came.{Came}
use Rattle.ct_outcomes.specs.declared.named.Named.{Named}
use Rattle.ct_run.specs.Statements.{Setting}
use Rattle.ct_cases.specs.declared.case.Tables.{Tables}
use Rattle.ct_cases.specs.Meanings.{Meaning}
use Rattle.ct_cases.specs.Reached.{Reached, IsBegun}
use Rattle.ct_cases.specs.Interleaves.{AreSubmitted}
use Rattle.ct_cases.specs.Holding.{IsStuck, IsRefuted}
use Rattle.ct_cases.specs.Cases.{Grows, IsAfter, AreAfter, AreBegun}
use Rattle.ct_cases.proofs.Stays.{known_stays, meaning_stays}

module _ (setting : Setting) where
  pub after_push : (statement : CheckedKind) (cs ds : List Reached) (c d : Reached) → AreAfter setting statement cs ds → IsAfter setting statement c d
      → AreAfter setting statement (cs ++ c ∷ []) (ds ++ d ∷ [])
  after_push statement [] [] c d after is = (is, tt)
  after_push statement (x ∷ cs) (y ∷ ds) c d after is = (after.0, after_push statement cs ds c d after.1 is)
  after_push statement [] (y ∷ ds) c d after is = absurd after
  after_push statement (x ∷ cs) [] c d after is = absurd after

  pub begun_push : (moves : List Moving) (meanings : List Meaning) (cs : List Reached) (starts : List (ℕ × State)) (c : Reached) (start : ℕ × State)
      → AreBegun setting moves meanings cs starts → IsBegun setting moves meanings c start → AreBegun setting moves meanings (cs ++ c ∷ []) (starts ++ start ∷ [])
  begun_push moves meanings [] [] c start begun is = (is, tt)
  begun_push moves meanings (x ∷ cs) (s ∷ starts) c start begun is = (begun.0, begun_push moves meanings cs starts c start begun.1 is)
  begun_push moves meanings [] (s ∷ starts) c start begun is = absurd begun
  begun_push moves meanings (x ∷ cs) [] c start begun is = absurd begun

  -- starts stay, while there are more meanings
  module _ (old new : Tables) (grows : Grows old new) (moves : List Moving) where
    begun_stays : (c : Reached) (start : ℕ × State) → IsBegun setting moves old.meanings c start → IsBegun setting moves new.meanings c start
    begun_stays c start is =
        let same = sym (meaning_stays old new grows start.0 is.known) in
        record {
          known = known_stays old new grows start.0 is.known;
          names = subst (λ (m : Meaning). m.0 ≡ c.names) same is.names;
          submitted = subst (λ (m : Meaning). AreSubmitted setting c.names c.state moves m.1 start.1) same is.submitted;
        }

    pub all_begun_stay : (cs : List Reached) (starts : List (ℕ × State)) → AreBegun setting moves old.meanings cs starts → AreBegun setting moves new.meanings cs starts
    all_begun_stay [] [] begun = tt
    all_begun_stay (c ∷ cs) (s ∷ starts) begun = (begun_stays c s begun.0, all_begun_stay cs starts begun.1)
    all_begun_stay [] (s ∷ starts) begun = absurd begun
    all_begun_stay (c ∷ cs) [] begun = absurd begun

  -- what cannot be submitted of the first moves cannot be of all
  pub stuck_of_more : (names : List Named) (s : State) (moves more : List Moving) (came : Came) → (stuck : IsStuck setting names s moves came) → (all : IsStuck setting names s (moves ++ more) came) × (length all.before ≡ length stuck.before)
  stuck_of_more names s moves more came stuck = (
    record {
      before = stuck.before;
      moving = stuck.moving;
      after = stuck.after ++ more;
      numbers = stuck.numbers;
      state = stuck.state;
      parts = ap (λ (l : List Moving). l ++ more) stuck.parts ∙ append_assoc stuck.before (stuck.moving ∷ stuck.after) more;
      submitted = stuck.submitted;
      unsent = stuck.unsent;
    },
    refl,
  )

get_longer : {X : Type 0} (xs more : List X) (i : ℕ) (x : X) → slice_get xs i ≡ Some x → slice_get (xs ++ more) i ≡ Some x
get_longer [] more zero x is = cc
get_longer [] more (suc i) x is = cc
get_longer (y ∷ xs) more zero x is = is
get_longer (y ∷ xs) more (suc i) x is = get_longer xs more i x is

-- nor is what is not met of the first moves
pub refuted_of_more : (setting : Setting) (names : List Named) (t : State) (moves more : List Moving) (numbers : List (Option ℕ)) (came : Came)
    → (is : IsRefuted setting names t moves numbers came) → (all : IsRefuted setting names t (moves ++ more) numbers came) × (all.place ≡ is.place)
refuted_of_more setting names t moves more numbers came is = (
  record {
    place = is.place;
    moving = is.moving;
    number = is.number;
    move = get_longer moves more is.place is.moving is.move;
    accepted = is.accepted;
    unmet = is.unmet;
  },
  refl,
)
