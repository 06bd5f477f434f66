-- What is found in steps: each step gives one thing at most, so where the last finds nothing there is nothing.
use Rattle.std.proofs.Common.{◌≡◌, ◌↔◌, ◌≤◌, ◌<◌, ◌+◌, ℕ, true, false, List, [], ◌∷◌, ◌++◌, length, map, take, drop, get_or, Option, Some, None, refl, sym, ap, subst, ◌∙◌, inl, inr, arith}
use Rattle.std.specs.Prelude.{Result, Ok, Err, IfOk, IfSome, ◌==◌, option_map, is_some}
use Rattle.std.specs.Result.{result_ok}
use Rattle.std.specs.Option.{MatchOption}
use Rattle.std.specs.Global.{Vec}
use Rattle.std.proofs.lemmas.Bool.{eqb-true}
use Rattle.std.proofs.lemmas.List.{take_more, take-append-drop, drop_more, drop_all}
use Rattle.ic_base.proofs.Steps.{some_is}
use Rattle.cd_codec.specs.Answers.{contents}
use Rattle.cd_codec.specs.Content.{Content}
use Rattle.cd_codec.specs.declared.value.Values.{Values}
use Rattle.cd_coerce.specs.declared.fault.DidlFault.{DidlFault}
use Rattle.cd_coerce.specs.Decoded.{decoded}
use Rattle.cd_text.specs.Whole.{SaysArguments}
use Rattle.cd_tokens.specs.Token.{Token}
use Rattle.ct_patterns.specs.Views.{Bound}
use Rattle.ct_patterns.specs.Meets as patterns
use Rattle.ct_patterns.specs.declared.step.Step.{Step}
use Rattle.ct_values.specs.Spelled.{spelled}
use Rattle.ct_values.specs.Steps.{Step as Sought, step_views}
use Rattle.ct_check.specs.declared.checked.CheckedOutcome.{CheckedOutcome}
use Rattle.ct_check.specs.declared.checked.CheckedOutcome.TheVariants as outcomes
use Rattle.ct_outcomes.specs.declared.named.Named.{Named}
use Rattle.ct_outcomes.specs.declared.came.Came.{Came}
use Rattle.ct_outcomes.specs.declared.came.Came.TheVariants as coming
use Rattle.ct_outcomes.specs.Types.{Types}
use Rattle.ct_outcomes.specs.Standings.{IsReadAt, AreReadAt, named_of}
use Rattle.ct_outcomes.specs.Arguments.{IsNeeded, IsMessageOf, in_parentheses}
use Rattle.ct_outcomes.specs.Meets.{Reads, MeetsSaid, Meets, MeetsFirst, MeetsOne, wanted}
use Rattle.ct_outcomes.specs.Answers.{Finds}
use Rattle.ct_outcomes.proofs.Patterns.{met_alike}
use Rattle.ct_outcomes.proofs.Once.{OneAnswer, decoded_at, said_at}

-- what follows from the one thing that was found before
pub through : {A B E T : Type 0} (see : A → B) (F : T → Type 0) (P : T → B → Type 0) (t : T) (r : Result (Option A) E) → ((u v : T) → F u → F v → u ≡ v) → F t → Finds see (P t) r → Finds see (λ b. (u : T) × F u × P u b) r
through see F P t (Ok (Some a)) one is p = (t, is, p)
through see F P t (Ok None) one is none = λ b q. none b (subst (λ u. P u b) (one q.0 t q.1 is) q.2)
through see F P t (Err e) one is p = tt

pub is_found : {A B E : Type 0} (see : A → B) (P : B → Type 0) (r : Result (Option A) E) → Finds see P r → IfOk r (λ found. IfSome found (λ a. P (see a)))
is_found see P (Ok (Some a)) p = p
is_found see P (Ok None) p = tt
is_found see P (Err e) p = tt

pub is_only : {A B E : Type 0} (see : A → B) (P : B → Type 0) (r : Result (Option A) E) → Finds see P r → IfOk r (λ found. found ≡ None → (b : B) → P b → ⊥)
is_only see P (Ok (Some a)) p = λ e. absurd cc
is_only see P (Ok None) p = λ e. p
is_only see P (Err e) p = tt

-- ---- messages

pub not_said : (types part : Types) (tokens : List Token) → IsNeeded types part → ((values : List Content) → SaysArguments part.0 part.1 values (in_parentheses tokens) → ⊥) → (bytes : List ℕ) → IsMessageOf types tokens bytes → ⊥
not_said types part tokens needed none bytes is = none is.values (said_at types part tokens bytes needed is).0

ok_some : (values : List Content) (r : Result (List Content) DidlFault) → Some values ≡ result_ok r → r ≡ Ok values
ok_some values (Ok others) e = ap (λ (vs : List Content). Ok vs) (sym (some_is {A = List Content} values others e))
ok_some values (Err fault) e = absurd cc

not_ok : (values : List Content) (r : Result (List Content) DidlFault) → None ≡ result_ok r → r ≡ Ok values → ⊥
not_ok values (Ok others) e f = absurd cc
not_ok values (Err fault) e f = absurd cc

-- what is decoded at the part is what is read at the types
pub read_with : {E : Type 0} (types part : Types) (bytes : List ℕ) (r : Result (Option Values) E) → IsNeeded types part → OneAnswer → IfOk r (λ found. option_map contents found ≡ result_ok (decoded part bytes)) → Finds contents (Reads types bytes) r
read_with types part bytes (Ok (Some v)) needed law e = (part, needed, (law part bytes (contents v)).0 (ok_some (contents v) (decoded part bytes) e))
read_with types part bytes (Ok None) needed law e = λ values is. not_ok values (decoded part bytes) e ((law part bytes values).1 (decoded_at types part bytes values needed is))
read_with types part bytes (Err x) needed law e = tt

-- ---- names in slots

pub one_more_read : (names : List Named) (slots : List ℕ) (meanings : List (List Token)) (slot : ℕ) (tokens : List Token) → AreReadAt names slots meanings → IsReadAt names slot tokens → AreReadAt names (slots ++ slot ∷ []) (meanings ++ tokens ∷ [])
one_more_read names [] meanings slot tokens are is = (tokens, [], ap (λ (ms : List (List Token)). ms ++ tokens ∷ []) are, is, refl)
one_more_read names (s ∷ slots) meanings slot tokens are is =
    (are.0, are.1 ++ tokens ∷ [], ap (λ (ms : List (List Token)). ms ++ tokens ∷ []) are.2, are.3, one_more_read names slots are.1 slot tokens are.4 is)

pub one_unread : (names : List Named) (slots rest : List ℕ) (slot : ℕ) → ((tokens : List Token) → IsReadAt names slot tokens → ⊥) → (meanings : List (List Token)) → AreReadAt names (slots ++ slot ∷ rest) meanings → ⊥
one_unread names [] rest slot none meanings are = none are.0 are.3
one_unread names (s ∷ slots) rest slot none meanings are = one_unread names slots rest slot none are.1 are.4

pub read_more : (names : List Named) (slots : List ℕ) (meanings : List (List Token)) (i : ℕ) (tokens : List Token) → i < length slots → AreReadAt names (take i slots) meanings → IsReadAt names (get_or slots i 0) tokens
    → AreReadAt names (take (i + 1) slots) (meanings ++ tokens ∷ [])
read_more names slots meanings i tokens below are is =
    subst (λ (ss : List ℕ). AreReadAt names ss (meanings ++ tokens ∷ [])) (sym (take_more slots i 0 below)) (one_more_read names (take i slots) meanings (get_or slots i 0) tokens are is)

pub read_none : (names : List Named) (slots : List ℕ) (i : ℕ) → i < length slots → ((tokens : List Token) → IsReadAt names (get_or slots i 0) tokens → ⊥) → (meanings : List (List Token)) → AreReadAt names slots meanings → ⊥
read_none names slots i below none meanings are =
    let whole = sym (take-append-drop i slots) ∙ ap (λ (ss : List ℕ). take i slots ++ ss) (drop_more slots i 0 below) in
    one_unread names (take i slots) (drop (i + 1) slots) (get_or slots i 0) none meanings (subst (λ (ss : List ℕ). AreReadAt names ss meanings) whole are)

-- ---- patterns

pub met_by : {E : Type 0} (types : Types) (tokens : List Token) (values : List Content) (steps : List Step) (r : Result (Option (Vec Named)) E) → spelled (record { patterns = true; names = false }) types.0 types.1 tokens ≡ Some (step_views steps)
    → Finds (λ (b : Vec Named). b.items) (λ bound. (bindings : List Bound) × patterns.Meets steps values bindings × (bound ≡ map (named_of types) bindings)) r → Finds (λ (b : Vec Named). b.items) (MeetsSaid types tokens values) r
met_by types tokens values steps (Ok (Some b)) said is = record { steps = steps; bindings = is.0; said = said; meets = is.1; binds = is.2 }
met_by types tokens values steps (Ok None) said none = λ bound is.
    let same = some_is {A = List Sought} (step_views is.steps) (step_views steps) (sym is.said ∙ said) in
    none bound (is.bindings, met_alike is.steps steps values is.bindings same is.meets, is.binds)
met_by types tokens values steps (Err e) said is = tt

-- ---- outcomes

-- a reply that cannot be read meets no outcome
pub unread : (types : Types) (bytes : List ℕ) → ((values : List Content) → Reads types bytes values → ⊥) → (names : List Named) (outcome : CheckedOutcome) (bound : List Named) → Meets types names outcome (coming.Replied bytes) bound → ⊥
unread types bytes none names (outcomes.Replies None) bound is = none is.1.0 is.1.1
unread types bytes none names (outcomes.Replies (Some filling)) bound is = none is.0 is.1
unread types bytes none names (outcomes.Rejects code part) bound is = is
unread types bytes none names outcomes.Refused bound is = is

-- ---- the first of several

-- what is left of the outcomes is met exactly where all are
abbrev pub LeftToMeet : Types → List Named → List CheckedOutcome → List CheckedOutcome → Came → Type 0
LeftToMeet types names left all came = (bound : List Named) → MeetsFirst types names left came bound ↔ MeetsFirst types names all came bound

one_left : (types : Types) (names : List Named) (all : List CheckedOutcome) (i : ℕ) (outcome : CheckedOutcome) (came : Came) → i < length all → outcome ≡ get_or all i outcome → LeftToMeet types names (drop i all) all came → LeftToMeet types names (outcome ∷ drop (i + 1) all) all came
one_left types names all i outcome came below at left =
    let split : drop i all ≡ outcome ∷ drop (i + 1) all = drop_more all i outcome below ∙ ap (λ (o : CheckedOutcome). o ∷ drop (i + 1) all) (sym at) in
    subst (λ (os : List CheckedOutcome). LeftToMeet types names os all came) split left

pub first_there : (types : Types) (names : List Named) (all : List CheckedOutcome) (i : ℕ) (outcome : CheckedOutcome) (came : Came) (r : Option (Vec Named)) → i < length all → outcome ≡ get_or all i outcome → LeftToMeet types names (drop i all) all came
    → is_some r ≡ true → MatchOption r ((x : List Named) → Meets types names outcome came x → ⊥) (λ b. Meets types names outcome came b.items) → MatchOption r ((x : List Named) → MeetsFirst types names all came x → ⊥) (λ b. MeetsFirst types names all came b.items)
first_there types names all i outcome came None below at left some met = absurd cc
first_there types names all i outcome came (Some b) below at left some met = (one_left types names all i outcome came below at left b.items).0 (inl met)

pub first_not : (types : Types) (names : List Named) (all : List CheckedOutcome) (i : ℕ) (outcome : CheckedOutcome) (came : Came) (r : Option (Vec Named)) → i < length all → outcome ≡ get_or all i outcome → LeftToMeet types names (drop i all) all came
    → is_some r ≡ false → MatchOption r ((x : List Named) → Meets types names outcome came x → ⊥) (λ b. Meets types names outcome came b.items) → LeftToMeet types names (drop (i + 1) all) all came
first_not types names all i outcome came (Some b) below at left lacks met = absurd cc
first_not types names all i outcome came None below at left lacks none = λ bound.
    let here = one_left types names all i outcome came below at left bound in (
      λ m. here.0 (inr (none, m)),
      λ m. elim (here.1 m) [
        | inl is ↦ absurd (none bound is)
        | inr others ↦ others.1
      ],
    )

pub none_left : (types : Types) (names : List Named) (all : List CheckedOutcome) (i : ℕ) (came : Came) → length all ≤ i → LeftToMeet types names (drop i all) all came → (bound : List Named) → MeetsFirst types names all came bound → ⊥
none_left types names all i came past left bound m = subst (λ (os : List CheckedOutcome). MeetsFirst types names os came bound) (drop_all i all past) ((left bound).1 m)

-- the outcomes that are expected
empty_wanted : (expected : List CheckedOutcome) → (length expected == 0) ≡ true → wanted expected ≡ outcomes.Replies None ∷ []
empty_wanted [] e = refl
empty_wanted (outcome ∷ others) e = let n = eqb-true (length (outcome ∷ others)) 0 e in absurd (omega (arith, n))

all_wanted : (expected : List CheckedOutcome) → (length expected == 0) ≡ false → wanted expected ≡ expected
all_wanted [] e = absurd cc
all_wanted (outcome ∷ others) e = refl

pub first_of_none : {E : Type 0} (types : Types) (names : List Named) (expected : List CheckedOutcome) (came : Came) (r : Result (Option (Vec Named)) E) → (length expected == 0) ≡ true
    → Finds (λ (b : Vec Named). b.items) (MeetsFirst types names (outcomes.Replies None ∷ []) came) r → Finds (λ (b : Vec Named). b.items) (MeetsOne types names expected came) r
first_of_none types names expected came r none found = subst (λ (os : List CheckedOutcome). Finds (λ (b : Vec Named). b.items) (MeetsFirst types names os came) r) (sym (empty_wanted expected none)) found

pub first_of_all : {E : Type 0} (types : Types) (names : List Named) (expected : List CheckedOutcome) (came : Came) (r : Result (Option (Vec Named)) E) → (length expected == 0) ≡ false
    → Finds (λ (b : Vec Named). b.items) (MeetsFirst types names expected came) r → Finds (λ (b : Vec Named). b.items) (MeetsOne types names expected came) r
first_of_all types names expected came r some found = subst (λ (os : List CheckedOutcome). Finds (λ (b : Vec Named). b.items) (MeetsFirst types names os came) r) (sym (all_wanted expected some)) found
