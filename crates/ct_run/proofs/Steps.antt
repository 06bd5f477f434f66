-- What a statement does, by its kind.
use Rattle.std.proofs.Common.{◌≡◌, ℕ, List, [], ◌∷◌, ◌++◌, map, Option, Some, None, refl, sym, ap, ◌∙◌, subst, append_assoc, append-nil, inl, inr}
use Rattle.ic_behaviour.specs.State.{State}
use Rattle.ct_check.specs.Moving.{Moving}
use Rattle.ct_check.specs.declared.checked.CheckedCreation.{CheckedCreation}
use Rattle.ct_check.specs.declared.checked.CheckedKind.{CheckedKind}
use Rattle.ct_check.specs.declared.checked.CheckedKind.TheVariants as kinds
use Rattle.ct_check.specs.declared.checked.CheckedOrigin.TheVariants as origins
use Rattle.ct_check.specs.declared.checked.CheckedUser.{CheckedUser}
use Rattle.ct_scope.specs.declared.bound.InterfaceId.{InterfaceId}
use Rattle.ct_outcomes.specs.declared.named.Named.{Named}
use Rattle.ct_outcomes.specs.declared.came.Came.{Came}
use Rattle.ct_outcomes.specs.declared.came.Came.TheVariants.{NotValues}
use Rattle.ct_asked.specs.declared.asked.Asked.{Asked}
use Rattle.ct_asked.specs.Requests.{Code}
use Rattle.ct_asked.specs.Asked.{types_of, IsAsked, IsCreation}
use Rattle.ct_run.specs.Called.{doing, after_acts}
use Rattle.ct_run.specs.Created.{making}
use Rattle.ct_run.specs.Statements.{Setting, MeetsAt, reply_types, expected_of, principal_named, user_named, time_set, unmade, Judges, IsThere, IsMadeBy, Binds}
use Rattle.ct_run.specs.Runs.{Steps}

module _ (setting : Setting) (s : State) (names : List Named) where
  pub move_steps : (moving : Moving) (asked : Asked) (end : State) (came : Came) (next : List Named) (told : Option Came) → IsAsked setting.files names moving asked
      → end ≡ after_acts setting.charge s (doing setting.charge s asked).acts → came ≡ (doing setting.charge s asked).came
      → Judges (reply_types setting.files moving.action) names (expected_of moving.action) came next told → Steps setting s names (kinds.Move moving) end next told
  move_steps moving asked end came next None is at told (bound, meets, binds) =
      let M = λ (c : Came). MeetsAt (reply_types setting.files moving.action) names (expected_of moving.action) c bound in
      ((doing setting.charge s asked).acts, bound, (asked, is, subst M told meets, refl), at, binds)
  move_steps moving asked end came next (Some instead) is at told (never, same, nothing) =
      let M = λ (bound : List Named) (c : Came). MeetsAt (reply_types setting.files moving.action) names (expected_of moving.action) c bound in
      ((asked, is, λ bound meets. never bound (subst (M bound) (sym told) meets), same ∙ told), nothing)

  module _ (by : ℕ) (creation : CheckedCreation) where
    pub none_made : ((maker : List ℕ × Code) → IsCreation setting.files names by creation maker → ⊥) → IsMadeBy setting s names by creation s None NotValues
    none_made none = (unmade, inr (none, refl), refl, refl, refl)

    pub one_made : (maker : List ℕ × Code) (end : State) (canister : Option (List ℕ)) (came : Came) → IsCreation setting.files names by creation maker
        → (end ≡ after_acts setting.charge s (making setting.charge s maker creation.cycles).acts)
        → (canister ≡ (making setting.charge s maker creation.cycles).canister) → (came ≡ (making setting.charge s maker creation.cycles).came)
        → IsMadeBy setting s names by creation end canister came
    one_made maker end canister came is at named told = (making setting.charge s maker creation.cycles, inl (maker, is, refl), at, named, told)

    pub creation_steps : (name : List ℕ) (end : State) (canister : Option (List ℕ)) (came : Came) (next : List Named) (told : Option Came)
        → IsMadeBy setting s names by creation end canister came → Binds setting.files names name creation canister came next told
        → Steps setting s names (kinds.Canister by name (origins.Made creation)) end next told
    creation_steps name end canister came next None (m, is, at, named, answer) (id, bound, there, meets, binds) =
        let M = λ (c : Came). MeetsAt (types_of setting.files creation.interface []) names creation.expected c bound in
        (m.acts, bound ++ principal_named name id ∷ [], (m, id, bound, is, (sym named ∙ there, subst M answer meets), refl, refl), at, binds)
    creation_steps name end canister came next (Some told) (m, is, at, named, answer) (never, same, nothing) =
        let M = λ (bound : List Named) (c : Came). MeetsAt (types_of setting.files creation.interface []) names creation.expected c bound in
        ((m, is, λ id bound so. never id bound (named ∙ so.0) (subst (M bound) (sym answer) so.1), same ∙ answer), nothing)

    -- a canister that was made is bound after what its outcome binds
    pub bound_after : (name : List ℕ) (canister : Option (List ℕ)) (id : List ℕ) (came : Came) (mid next : List Named) → canister ≡ Some id
        → Judges (types_of setting.files creation.interface []) names creation.expected came mid None → next ≡ mid ++ principal_named name id ∷ []
        → Binds setting.files names name creation canister came next None
    bound_after name canister id came mid next there (bound, meets, binds) last =
        (id, bound, there, meets, last ∙ ap (λ (ns : List Named). ns ++ principal_named name id ∷ []) binds ∙ append_assoc names bound (principal_named name id ∷ []))

    pub bound_none : (name : List ℕ) (canister : Option (List ℕ)) (came : Came) → canister ≡ None → Binds setting.files names name creation canister came names (Some came)
    bound_none name canister came none = (λ id bound there meets. absurd cc, refl, refl)

    pub bound_unmet : (name : List ℕ) (canister : Option (List ℕ)) (came told : Came) (next : List Named)
        → Judges (types_of setting.files creation.interface []) names creation.expected came next (Some told) → Binds setting.files names name creation canister came next (Some told)
    bound_unmet name canister came told next (never, same, nothing) = (λ id bound there meets. never bound meets, same, nothing)

  -- a canister that is there
  pub there_steps : (by : ℕ) (name : List ℕ) (slot : ℕ) (interface : InterfaceId) (next : List Named) (told : Option Came) → IsThere names name slot next told
      → Steps setting s names (kinds.Canister by name (origins.Named slot interface)) s next told
  there_steps by name slot interface next None (id, at, binds) = ([], principal_named name id ∷ [], (refl, (id, at, refl)), refl, binds)
  there_steps by name slot interface next (Some told) (none, is, nothing) = ((none, is), nothing)

  -- users are bound, time is set, a canister is named
  pub users_steps : (kind : CheckedKind) (users : List CheckedUser) (next : List Named) → kind ≡ kinds.Users users → next ≡ names ++ map user_named users
      → Steps setting s names kind s next None
  users_steps kind users next is binds = rw is ([], map user_named users, (refl, refl), refl, binds)

  pub time_steps : (kind : CheckedKind) (time : ℕ) (end : State) → kind ≡ kinds.Time time → end ≡ after_acts setting.charge s (time_set s time)
      → Steps setting s names kind end names None
  time_steps kind time end is at = rw is (time_set s time, [], (refl, refl), at, sym (append-nil names))

  pub principal_steps : (kind : CheckedKind) (by : ℕ) (name id : List ℕ) (interface : InterfaceId) (next : List Named)
      → kind ≡ kinds.Canister by name (origins.Principal id interface) → next ≡ names ++ principal_named name id ∷ [] → Steps setting s names kind s next None
  principal_steps kind by name id interface next is binds = rw is ([], principal_named name id ∷ [], (refl, refl), refl, binds)
