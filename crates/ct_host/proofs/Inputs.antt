-- Inputs one after another, as loops take them, and one step after another.
use Rattle.std.proofs.Common.{◌≡◌, ◌⊎◌, ℕ, List, [], ◌∷◌, ◌++◌, Option, Some, None, refl, sym, ap, ◌∙◌, subst, inl, inr, append_assoc}
use Rattle.std.proofs.lemmas.List.{append-nil}
use Rattle.ct_file.specs.Fits.{IsFile}
use Rattle.ct_sources.specs.Files.{Files}
use Rattle.ct_host.specs.declared.looking.Loaded.{Loaded}
use Rattle.ct_host.specs.declared.stop.Why.{Why}
use Rattle.ct_host.specs.Looking.{Gives, SourcedFile, Suite, UpToFault, Adds, AreSuites, AreNamedIn, DoesNotHold, IsChecked, IsLoaded, IsNoFile, IsParsed, IsSourced, IsSuite, IsUnreadable, Spoils, first_of}

-- what is left gives the rest
abbrev pub Still : {A B W : Type 0} → (A → B → Type 0) → (A → W → Type 0) → List A → List B → List A → Type 0
Still {A} {B} {W} Is Fails all items rest = (more : List B) (fault : Option W) → UpToFault Is Fails rest more fault → UpToFault Is Fails all (items ++ more) fault

pub goes_on : {A B W : Type 0} (Is : A → B → Type 0) (Fails : A → W → Type 0) (all : List A) (items : List B) (rest : List A) (x : A) (xs : List A) (y : B)
    → rest ≡ x ∷ xs → Is x y → Still Is Fails all items rest → Still Is Fails all (items ++ y ∷ []) xs
goes_on {A} {B} {W} Is Fails all items rest x xs y split is still more fault left =
    let step : UpToFault Is Fails rest (y ∷ more) fault = subst (λ (r : List A). UpToFault Is Fails r (y ∷ more) fault) (sym split) (inl (y, more, is, refl, left)) in
    subst (λ (ys : List B). UpToFault Is Fails all ys fault) (sym (append_assoc items (y ∷ []) more)) (still (y ∷ more) fault step)

ended : {A B W : Type 0} (Is : A → B → Type 0) (Fails : A → W → Type 0) (all : List A) (items : List B) (rest : List A) (fault : Option W)
    → UpToFault Is Fails rest [] fault → Still Is Fails all items rest → UpToFault Is Fails all items fault
ended {A} {B} Is Fails all items rest fault left still = subst (λ (ys : List B). UpToFault Is Fails all ys fault) (append-nil items) (still [] fault left)

pub at_fault : {A B W : Type 0} (Is : A → B → Type 0) (Fails : A → W → Type 0) (all : List A) (items : List B) (rest : List A) (x : A) (xs : List A) (why : W)
    → rest ≡ x ∷ xs → Fails x why → Still Is Fails all items rest → UpToFault Is Fails all items (Some why)
at_fault {A} {B} {W} Is Fails all items rest x xs why split fails still =
    ended Is Fails all items rest (Some why) (subst (λ (r : List A). UpToFault {A = A} {B = B} Is Fails r [] (Some why)) (sym split) (inr (why, fails, refl, refl))) still

pub at_end : {A B W : Type 0} (Is : A → B → Type 0) (Fails : A → W → Type 0) (all : List A) (items : List B) (rest : List A)
    → rest ≡ [] → Still Is Fails all items rest → UpToFault Is Fails all items None
at_end {A} {B} {W} Is Fails all items rest none still =
    ended Is Fails all items rest None (subst (λ (r : List A). UpToFault {A = A} {B = B} {W = W} Is Fails r [] None) (sym none) (refl, refl)) still

-- two steps, of which the second takes what the first gave
abbrev pub Through : {A B C : Type 0} → (A → B → Type 0) → (B → C → Type 0) → A → C → Type 0
Through {A} {B} Is Are a c = (b : B) × Is a b × Are b c

abbrev pub FailsThrough : {A B : Type 0} → (A → Why → Type 0) → (A → B → Type 0) → (B → Why → Type 0) → A → Why → Type 0
FailsThrough {A} {B} Fails Is Fail a why = Fails a why ⊎ ((b : B) × Is a b × Fail b why)

both : {A B C : Type 0} (Is : A → B → Type 0) (Fails : A → Why → Type 0) (Are : B → C → Type 0) (Fail : B → Why → Type 0)
    (inputs : List A) (bs : List B) (cs : List C) (first second : Option Why) → UpToFault Is Fails inputs bs first → UpToFault Are Fail bs cs second
    → UpToFault (Through Is Are) (FailsThrough Fails Is Fail) inputs cs (first_of second first)
both {A} {B} {C} Is Fails Are Fail [] bs cs first second (none, ends) more =
    let last = subst (λ (items : List B). UpToFault Are Fail items cs second) none more in
    (last.0, rw (last.1, ends) refl)
both {A} {B} {C} Is Fails Are Fail (a ∷ inputs) bs cs first second (inl (b, rest, is, split, left)) more =
    next (subst (λ (items : List B). UpToFault Are Fail items cs second) split more) (λ (items : List C) (later : UpToFault Are Fail rest items second). both Is Fails Are Fail inputs rest items first second left later)
  where
    next : UpToFault Are Fail (b ∷ rest) cs second → ((items : List C) → UpToFault Are Fail rest items second → UpToFault (Through Is Are) (FailsThrough Fails Is Fail) inputs items (first_of second first))
        → UpToFault (Through Is Are) (FailsThrough Fails Is Fail) (a ∷ inputs) cs (first_of second first)
    next (inl (c, items, are, splits, later)) go_on = inl (c, items, (b, is, are), splits, go_on items later)
    next (inr (why, fails, none, stops)) go_on = inr (why, inr (b, is, fails), none, rw stops refl)
both {A} {B} {C} Is Fails Are Fail (a ∷ inputs) bs cs first second (inr (why, fails, none, stops)) more =
    let last = subst (λ (items : List B). UpToFault Are Fail items cs second) none more in
    inr (why, inl fails, last.0, rw (last.1, stops) refl)

weaker : {A B W : Type 0} (Is Are : A → B → Type 0) (Fails Fail : A → W → Type 0) → ((a : A) (b : B) → Is a b → Are a b) → ((a : A) (why : W) → Fails a why → Fail a why)
    → (inputs : List A) (bs : List B) (fault : Option W) → UpToFault Is Fails inputs bs fault → UpToFault Are Fail inputs bs fault
weaker Is Are Fails Fail to from [] bs fault ends = ends
weaker Is Are Fails Fail to from (a ∷ inputs) bs fault (inl (b, rest, is, split, left)) = inl (b, rest, to a b is, split, weaker Is Are Fails Fail to from inputs rest fault left)
weaker Is Are Fails Fail to from (a ∷ inputs) bs fault (inr (why, fails, none, stops)) = inr (why, from a why fails, none, stops)

module _ (gives : Gives) where
  name_through : (name : List ℕ) (sourced : SourcedFile) → Through (IsLoaded gives) (IsParsed gives) name sourced → sourced.name ≡ name
  name_through name sourced (loaded, (called, given), (named, text, is, sources)) = named ∙ called

  is_sourced : (name : List ℕ) (sourced : SourcedFile) → Through (IsLoaded gives) (IsParsed gives) name sourced → IsSourced gives sourced
  is_sourced name sourced (loaded, (called, given), (named, text, is, sources)) = record {
    given = subst (λ (n : List ℕ). gives n (Some sourced.text)) (sym (named ∙ called)) (subst (λ (t : List ℕ). gives name (Some t)) (sym text) given);
    is = subst (λ (t : List ℕ). IsFile sourced.file t) (sym text) is;
    named = subst (λ (n : List ℕ). AreNamedIn gives n sourced.file sourced.sources) (sym named) sources;
  }

  is_suite : (name : List ℕ) (suite : Suite) → Through (Through (IsLoaded gives) (IsParsed gives)) IsChecked name suite → IsSuite gives name suite
  is_suite name suite (sourced, through, (same, holds)) = record {
    name_is = ap (λ (s : SourcedFile). s.name) same ∙ name_through name sourced through;
    is = subst (λ (s : SourcedFile). IsSourced gives s) (sym same) (is_sourced name sourced through);
    holds = holds;
  }

  spoils : (name : List ℕ) (why : Why)
      → FailsThrough (FailsThrough (IsUnreadable gives) (IsLoaded gives) IsNoFile) (Through (IsLoaded gives) (IsParsed gives)) DoesNotHold name why → Spoils gives name why
  spoils name why (inl (inl unreadable)) = inl unreadable
  spoils name why (inl (inr (loaded, (called, given), (faulty, no_file)))) = inr (inl (loaded.bytes, faulty, given, no_file))
  spoils name why (inr (sourced, through, (taken, none))) = inr (inr (sourced, taken, name_through name sourced through, is_sourced name sourced through, none))

  pub are_suites : (names : List (List ℕ)) (loaded : List Loaded) (sourced : List SourcedFile) (suites : List Suite) (unread unparsed unsound : Option Why)
      → UpToFault (IsLoaded gives) (IsUnreadable gives) names loaded unread → UpToFault (IsParsed gives) IsNoFile loaded sourced unparsed
      → UpToFault IsChecked DoesNotHold sourced suites unsound → AreSuites gives names suites (first_of unsound (first_of unparsed unread))
  are_suites names loaded sourced suites unread unparsed unsound loads parses checks =
      let two = both (IsLoaded gives) (IsUnreadable gives) (IsParsed gives) IsNoFile names loaded sourced unread unparsed loads parses in
      let three = both (Through (IsLoaded gives) (IsParsed gives)) (FailsThrough (IsUnreadable gives) (IsLoaded gives) IsNoFile) IsChecked DoesNotHold names sourced suites (first_of unparsed unread) unsound two checks in
      weaker (Through (Through (IsLoaded gives) (IsParsed gives)) IsChecked) (IsSuite gives)
      (FailsThrough (FailsThrough (IsUnreadable gives) (IsLoaded gives) IsNoFile) (Through (IsLoaded gives) (IsParsed gives)) DoesNotHold) (Spoils gives)
      is_suite spoils names suites (first_of unsound (first_of unparsed unread)) three

  -- the same of equal lists, and of faults as they were found
  pub looked : (names first : List (List ℕ)) (loaded second : List Loaded) (sourced third : List SourcedFile) (suites : List Suite) (unread unparsed unsound inner fault : Option Why)
      → first ≡ names → second ≡ loaded → third ≡ sourced → inner ≡ first_of unparsed unread → fault ≡ first_of unsound inner
      → UpToFault (IsLoaded gives) (IsUnreadable gives) first loaded unread → UpToFault (IsParsed gives) IsNoFile second sourced unparsed
      → UpToFault IsChecked DoesNotHold third suites unsound → AreSuites gives names suites fault
  looked names first loaded second sourced third suites unread unparsed unsound inner fault firsts seconds thirds inners faults loads parses checks =
      subst (λ (f : Option Why). AreSuites gives names suites f) (sym (faults ∙ ap (first_of unsound) inners))
      (are_suites names loaded sourced suites unread unparsed unsound
      (subst (λ (i : List (List ℕ)). UpToFault (IsLoaded gives) (IsUnreadable gives) i loaded unread) firsts loads)
      (subst (λ (i : List Loaded). UpToFault (IsParsed gives) IsNoFile i sourced unparsed) seconds parses)
      (subst (λ (i : List SourcedFile). UpToFault IsChecked DoesNotHold i suites unsound) thirds checks))

-- files are added to others: what is left makes them all
abbrev pub StillAdds : Gives → (from : List ℕ) → (start : Files) → (names : List (List ℕ)) → Files → List (List ℕ) → Type 0
StillAdds gives from start names files rest = (all : Files) → Adds gives from files rest all → Adds gives from start names all
