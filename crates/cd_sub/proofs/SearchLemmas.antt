-- the search for a pair that fails
use Rattle.std.proofs.Common.{◌≡◌, ◌↔◌, inl, inr, ⊎_elim, ℕ, zero, suc, ◌+◌, ◌-◌, ◌*◌, ◌<◌, ◌≤◌, Bool, true, false, cond, ◌||◌, List, [], ◌∷◌, ◌++◌, Some, None, Result, Ok, Err, OnOk, IfOk, length, get_or, set, take, refl, sym, ◌∙◌, ap, subst, arith}
use Rattle.std.proofs.lemmas.Bool.{cases_eq}
use Rattle.std.proofs.lemmas.List.{append_assoc, get_or-set_same, get_or-set_other, length-append, length_push, take_more, take-append-le}
use Rattle.std.proofs.lemmas.List.Sums.{sum_by-set}
use Rattle.std.proofs.lemmas.List.Elements.{All-contains, All-from_recursion, Contains-append_left, Contains-append_right, Contains-push, Contains-get_or}
use Rattle.std.specs.List.{AllByRecursion, Contains, count_by, list_any}
use Rattle.cd_types.specs.declared.entry.Entry.{Entry}
use Rattle.cd_sub.specs.declared.search.Mark.{Mark}
use Rattle.cd_sub.specs.declared.search.Mark.TheVariants.{Unknown, Holds, Fails}
use Rattle.cd_sub.specs.Parts.{verdict}
use Rattle.cd_sub.specs.Pairs.{parts_at, PlaceSub, PlaceSubAt, is_straight}
use Rattle.cd_sub.specs.Marks.{mark_at, is_unknown, is_failed, IsRight, IsRightBut, Notes, Noted, Searched, Tried}
use Rattle.cd_sub.proofs.OrderLemmas.{all_map}
use Rattle.cd_sub.proofs.RuleLemmas.{Found, some_same}
use Rattle.cd_sub.proofs.KeepLemmas.{all_push}
use Rattle.cd_sub.proofs.PlaceLemmas.{place_up, place_down, place_inside, none_at_zero}

pub all_in : (P : ℕ → Type 0) (xs : List ℕ) (x : ℕ) → AllByRecursion P xs → Contains xs x → P x
all_in P xs x all there = All-contains P xs x (All-from_recursion P xs all) there

pub all_append : (P : ℕ → Type 0) (xs ys : List ℕ) → AllByRecursion P xs → AllByRecursion P ys → AllByRecursion P (xs ++ ys)
all_append P [] ys all all' = all'
all_append P (x ∷ xs) ys all all' = (all.0, all_append P xs ys all.1 all')

pub each_there : (xs : List ℕ) → AllByRecursion (Contains xs) xs
each_there [] = tt
each_there (x ∷ xs) = (
  Contains-append_left (x ∷ []) xs x (Contains-push [] x),
  all_map _ _ (λ place there. Contains-append_right (x ∷ []) xs place there) xs (each_there xs),
)

holds_fails : {G : Type 0} → Holds ≡ Fails → G
holds_fails e = cc

-- a mark that is written, and the others
written : (marks : List Mark) (place : ℕ) (mark : Mark) → place < length marks → mark_at (set marks place mark) place ≡ mark
written marks place mark inside = get_or-set_same marks place mark Unknown inside

kept : (marks : List Mark) (place other : ℕ) (mark : Mark) → (other ≡ place → ⊥) → mark_at (set marks place mark) other ≡ mark_at marks other
kept marks place other mark differ = get_or-set_other marks place other mark Unknown differ

-- one more part is noted
pub notes_more : (old marks : List Mark) (before met parts : List ℕ) (part : ℕ) → Notes old marks before met parts → Contains parts part
    → mark_at marks part ≡ Unknown → part < length marks → Notes old (set marks part Holds) before (met ++ part ∷ []) parts
notes_more old marks before met parts part notes there unknown inside =
    record {
      kept = λ place holds. ⊎_elim (λ same. ap (mark_at (set marks part Holds)) same ∙ written marks part Holds inside) (λ differ. kept marks part place Holds differ ∙ notes.kept place holds) (cases_eq place part);
      fails = λ place fails.
          ⊎_elim (λ same. holds_fails (sym (ap (mark_at (set marks part Holds)) same ∙ written marks part Holds inside) ∙ fails))
          (λ differ. notes.fails place (sym (kept marks part place Holds differ) ∙ fails)) (cases_eq place part);
      holds = λ place holds.
          ⊎_elim (λ same. inl (subst (Contains (met ++ part ∷ [])) (sym same) (Contains-push met part)))
          (λ differ. ⊎_elim (λ there. inl (Contains-append_left met (part ∷ []) place there)) (λ before. inr before) (notes.holds place (sym (kept marks part place Holds differ) ∙ holds)))
          (cases_eq place part);
      added = (notes.added.0 ++ part ∷ [], ap (λ xs. xs ++ part ∷ []) notes.added.1 ∙ append_assoc before notes.added.0 (part ∷ []), all_push (Contains parts) notes.added.0 part notes.added.2 there);
      fewer =
          let counts = sum_by-set (λ mark. cond (is_unknown mark) 1 0) marks part Holds Unknown inside in
          let one : cond (is_unknown (mark_at marks part)) 1 0 ≡ 1 = ap {B = ℕ} (λ mark. cond (is_unknown mark) 1 0) unknown in
          omega (arith, notes.fewer, counts, one, length_push met part);
    }

-- what is noted keeps the marks right
pub right_noted : (first second : List Entry) (old new : List Mark) (before after parts : List ℕ) → IsRightBut before first second old → Notes old new before after parts
    → IsRightBut after first second new
right_noted first second old new before after parts right notes =
    record {
      holds = λ place holds.
          ⊎_elim (λ there. inl there)
          (λ held. ⊎_elim (λ there. inl (subst (λ xs. Contains xs place) (sym notes.added.1) (Contains-append_left before notes.added.0 place there))) (λ sub. inr sub) (right.holds place held))
          (notes.holds place holds);
      fails = λ place fails. right.fails place (notes.fails place fails);
    }

-- what is met is inside
pub inside_noted : (P : ℕ → Type 0) (old new : List Mark) (before after parts : List ℕ) → Notes old new before after parts → AllByRecursion P before → AllByRecursion P parts → AllByRecursion P after
inside_noted P old new before after parts notes all all' =
    subst (AllByRecursion P) (sym notes.added.1) (all_append P before notes.added.0 all (all_map _ _ (λ place there. all_in P parts place all' there) notes.added.0 notes.added.2))

-- the steps of noting: a part that is marked already, and one that is not
pub noted_held : (old marks marks' : List Mark) (before met met' parts : List ℕ) (i : ℕ) → marks' ≡ marks → met' ≡ met → i < length parts → mark_at marks (get_or parts i 0) ≡ Holds
    → Notes old marks before met parts → Noted true old marks (take i parts) → Notes old marks' before met' parts × Noted true old marks' (take (i + 1) parts)
noted_held old marks marks' before met met' parts i is met_is inside held notes noted = (
  subst (λ m. Notes old m before met' parts) (sym is) (subst (λ xs. Notes old marks before xs parts) (sym met_is) notes),
  subst (λ m. Noted true old m (take (i + 1) parts)) (sym is)
      (subst (Noted true old marks) (sym (take_more parts i 0 inside)) (all_push (λ part. mark_at marks part ≡ Holds) (take i parts) (get_or parts i 0) noted held)),
)

pub noted_new : (old marks marks' : List Mark) (before met met' parts : List ℕ) (i : ℕ) → marks' ≡ set marks (get_or parts i 0) Holds → met' ≡ met ++ get_or parts i 0 ∷ []
    → i < length parts → mark_at marks (get_or parts i 0) ≡ Unknown → get_or parts i 0 < length marks
    → Notes old marks before met parts → Noted true old marks (take i parts) → Notes old marks' before met' parts × Noted true old marks' (take (i + 1) parts)
noted_new old marks marks' before met met' parts i is met_is inside unknown there notes noted =
    let part = get_or parts i 0 in
    let more = notes_more old marks before met parts part notes (Contains-get_or parts i 0 inside) unknown there in
    let still : Noted true old (set marks part Holds) (take i parts) =
    all_map _ _ (λ place held. ⊎_elim (λ same. ap (mark_at (set marks part Holds)) same ∙ written marks part Holds there) (λ differ. kept marks part place Holds differ ∙ held) (cases_eq place part)) (take i parts) noted in (
      subst (λ m. Notes old m before met' parts) (sym is) (subst (λ xs. Notes old (set marks part Holds) before xs parts) (sym met_is) more),
      subst (λ m. Noted true old m (take (i + 1) parts)) (sym is)
          (subst (Noted true old (set marks part Holds)) (sym (take_more parts i 0 inside)) (all_push (λ p. mark_at (set marks part Holds) p ≡ Holds) (take i parts) part still (written marks part Holds there))),
    )

pub at_index : (P : ℕ → Type 0) (xs : List ℕ) (i : ℕ) → i < length xs → AllByRecursion P xs → P (get_or xs i 0)
at_index P xs i inside all = all_in P xs (get_or xs i 0) all (Contains-get_or xs i 0 inside)

-- what follows of two clauses on an answer
pub on_ok : {E : Type 0} (N : Type 0) (P Q : Bool → Type 0) (r : Result Bool E) → OnOk r N → IfOk r P → ((b : Bool) → N → P b → Q b) → IfOk r Q
on_ok N P Q (Ok b) n p f = f b n p
on_ok N P Q (Err e) n p f = tt

-- the pair at a place rests on pairs that are all marked as holding
abbrev pub Shown : List Entry → List Entry → List Mark → ℕ → Type 0
Shown first second marks place = Found (λ part. mark_at marks part ≡ Holds) (parts_at first second place)

-- once each pair met is shown, what is marked as holding holds
closed : (first second : List Entry) (marks : List Mark) (met : List ℕ) → IsRightBut met first second marks → AllByRecursion (Shown first second marks) met
    → (n place : ℕ) → mark_at marks place ≡ Holds → PlaceSubAt n first second place
closed first second marks met right shown zero place holds = none_at_zero first second (is_straight first second place) place
closed first second marks met right shown (suc n) place holds =
    ⊎_elim
    (λ there.
    let found = all_in (Shown first second marks) met place shown there in
    place_up n first second place found.0 found.1 (all_map _ _ (λ part held. closed first second marks met right shown n part held) found.0 found.2))
    (λ sub. sub (suc n))
    (right.holds place holds)

pub all_right : (first second : List Entry) (marks : List Mark) (met : List ℕ) → IsRightBut met first second marks → AllByRecursion (Shown first second marks) met
    → IsRight first second marks
all_right first second marks met right shown =
    record { holds = λ place holds n. closed first second marks met right shown n place holds; fails = right.fails }

-- and so does each pair met
shown_holds : (first second : List Entry) (marks : List Mark) (place : ℕ) → IsRight first second marks → Shown first second marks place → (n : ℕ) → PlaceSubAt n first second place
shown_holds first second marks place right shown zero = none_at_zero first second (is_straight first second place) place
shown_holds first second marks place right shown (suc n) =
    place_up n first second place shown.0 shown.1 (all_map _ _ (λ part held. right.holds part held n) shown.0 shown.2)

pub searched_yes : (first second : List Entry) (marks : List Mark) (start met : List ℕ) → AllByRecursion (Contains met) start → IsRightBut met first second marks
    → AllByRecursion (Shown first second marks) met → Searched true first second marks start
searched_yes first second marks start met there right shown =
    let all = all_right first second marks met right shown in
    let holds = all_map _ _ (λ place found. shown_holds first second marks place all found) met shown in
    (all, all_map _ _ (λ place met_first. all_in (PlaceSub first second) met place holds met_first) start there)

-- the parts of a pair that holds, as the code found them
parts_hold : (first second : List Entry) (place : ℕ) (parts : List ℕ) (fits : Bool) → place < 2 * (length first * length second) → verdict fits parts ≡ parts_at first second place
    → PlaceSub first second place → (fits ≡ true) × AllByRecursion (PlaceSub first second) parts
parts_hold first second place parts true inside is holds =
    let found = place_down first second place inside holds in
    (refl, subst (AllByRecursion (PlaceSub first second)) (some_same _ _ (sym found.1 ∙ sym is)) found.2)
parts_hold first second place parts false inside is holds =
    let found = place_down first second place inside holds in
    absurd (let k : None ≡ Some found.0 = is ∙ found.1 in cc)

-- no rule fits
pub no_rule : (first second : List Entry) (place : ℕ) (parts : List ℕ) → place < 2 * (length first * length second) → verdict false parts ≡ parts_at first second place
    → PlaceSub first second place → ⊥
no_rule first second place parts inside is holds = let e = (parts_hold first second place parts false inside is holds).0 in cc

-- a part fails
pub part_fails : (first second : List Entry) (marks : List Mark) (place part : ℕ) (parts : List ℕ) (fits : Bool)
    → ((other : ℕ) → mark_at marks other ≡ Fails → PlaceSub first second other → ⊥) → place < 2 * (length first * length second)
    → verdict fits parts ≡ parts_at first second place → Contains parts part → mark_at marks part ≡ Fails → PlaceSub first second place → ⊥
part_fails first second marks place part parts fits right inside is there fails holds =
    right part fails (all_in (PlaceSub first second) parts part (parts_hold first second place parts fits inside is holds).1 there)

-- what is needed for the pairs met first is needed for their parts
pub needed_noted : (first second : List Entry) (old new : List Mark) (before after parts : List ℕ) (place : ℕ) (fits : Bool) → Notes old new before after parts → place < 2 * (length first * length second)
    → verdict fits parts ≡ parts_at first second place → Contains before place → AllByRecursion (PlaceSub first second) before → AllByRecursion (PlaceSub first second) after
needed_noted first second old new before after parts place fits notes inside is there all =
    inside_noted (PlaceSub first second) old new before after parts notes all
    (parts_hold first second place parts fits inside is (all_in (PlaceSub first second) before place all there)).1

pub then_ok : {A E : Type 0} (N M : Type 0) (r : Result A E) → OnOk r N → (N → M) → OnOk r M
then_ok N M (Ok x) n f = f n
then_ok N M (Err e) n f = tt

-- the parts of a pair are places of marks
pub parts_in : (first second : List Entry) (size place : ℕ) (parts : List ℕ) → size ≡ 2 * (length first * length second) → parts_at first second place ≡ Some parts
    → AllByRecursion (λ part. part < size) parts
parts_in first second size place parts room is = all_map _ _ (λ part below. subst (λ n. part < n) (sym room) below) parts (place_inside first second place parts is)

-- what noting the parts of a pair says of it
pub tried_of : (first second : List Entry) (old new : List Mark) (before after parts : List ℕ) (place : ℕ) → IsRightBut before first second old → place < 2 * (length first * length second)
    → parts_at first second place ≡ Some parts → (shown : Bool) → Notes old new before after parts → Noted shown old new parts → Tried shown first second old new before after place
tried_of first second old new before after parts place right inside is true notes noted = (parts, is, notes, noted)
tried_of first second old new before after parts place right inside is false notes noted =
    λ holds. part_fails first second old place noted.0 parts true right.fails inside (sym is) noted.1 noted.2 holds

-- one more pair is shown
pub shown_more : (first second : List Entry) (old new : List Mark) (before after parts : List ℕ) (next : ℕ) → next < length before → Notes old new before after parts
    → verdict true parts ≡ parts_at first second (get_or before next 0) → Noted true old new parts
    → AllByRecursion (Shown first second old) (take next before) → AllByRecursion (Shown first second new) (take (next + 1) after)
shown_more first second old new before after parts next inside notes is noted shown =
    let taken : take (next + 1) after ≡ take next before ++ get_or before next 0 ∷ [] =
    ap (take (next + 1)) notes.added.1 ∙ take-append-le (next + 1) before notes.added.0 (omega arith) ∙ take_more before next 0 inside in
    let still = all_map (Shown first second old) (Shown first second new) (λ place found. (found.0, found.1, all_map _ _ notes.kept found.0 found.2)) (take next before) shown in
    subst (AllByRecursion (Shown first second new)) (sym taken) (all_push (Shown first second new) (take next before) (get_or before next 0) still (parts, sym is, noted))

-- one more pair met is shown: where the search then stands
pub record Step (first second : List Entry) (new : List Mark) (start after : List ℕ) (next : ℕ) (old : List Mark) (before : List ℕ) : Type 0 where
  pub reached : next + 1 ≤ length after
  pub shown : AllByRecursion (Shown first second new) (take (next + 1) after)
  pub needed : AllByRecursion (PlaceSub first second) start → AllByRecursion (PlaceSub first second) after
  pub there : AllByRecursion (Contains after) start
  pub smaller : count_by is_unknown new + (length after - (next + 1)) < count_by is_unknown old + (length before - next)

pub search_step : (first second : List Entry) (old new : List Mark) (start before after : List ℕ) (next place : ℕ) → next < length before → place ≡ get_or before next 0 → place < 2 * (length first * length second)
    → (answer : Bool) → answer ≡ true → Tried answer first second old new before after place
    → AllByRecursion (Shown first second old) (take next before)
    → (AllByRecursion (PlaceSub first second) start → AllByRecursion (PlaceSub first second) before)
    → AllByRecursion (Contains before) start
    → Step first second new start after next old before
search_step first second old new start before after next place inside is within answer it_is tried' shown needed there =
    let tried = subst (λ b. Tried b first second old new before after place) it_is tried' in
    let parts = tried.0 in
    let notes = tried.2 in
    let longer : length after ≡ length before + length notes.added.0 = ap length notes.added.1 ∙ length-append before notes.added.0 in
    record {
      reached = omega arith;
      shown = shown_more first second old new before after parts next inside notes (subst (λ q. verdict true parts ≡ parts_at first second q) is (sym tried.1)) tried.3 shown;
      needed = λ all.
          needed_noted first second old new before after parts place true notes within (sym tried.1) (subst (Contains before) (sym is) (Contains-get_or before next 0 inside)) (needed all);
      there = all_map _ _ (λ place met_first. subst (λ xs. Contains xs place) (sym notes.added.1) (Contains-append_left before notes.added.0 place met_first)) start there;
      smaller = omega (arith, notes.fewer);
    }

-- a part that has failed
failed_is : (mark : Mark) → is_failed mark ≡ true → mark ≡ Fails
failed_is Unknown e = cc
failed_is Holds e = cc
failed_is Fails e = refl

pub some_failed : (marks : List Mark) (parts : List ℕ) → list_any (λ part. is_failed (mark_at marks part)) parts ≡ true → (part : ℕ) × Contains parts part × (mark_at marks part ≡ Fails)
some_failed marks [] e = cc
some_failed marks (part ∷ parts) e = one_failed (is_failed (mark_at marks part)) refl e (λ e. some_failed marks parts e)
  where
    one_failed : (b : Bool) → is_failed (mark_at marks part) ≡ b → (b || list_any (λ part. is_failed (mark_at marks part)) parts) ≡ true
        → (list_any (λ part. is_failed (mark_at marks part)) parts ≡ true → (q : ℕ) × Contains parts q × (mark_at marks q ≡ Fails))
        → (q : ℕ) × Contains (part ∷ parts) q × (mark_at marks q ≡ Fails)
    one_failed true e f rest = (part, Contains-append_left (part ∷ []) parts part (Contains-push [] part), failed_is _ e)
    one_failed false e f rest = (let more = rest f in (more.0, Contains-append_right (part ∷ []) parts more.0 more.1, more.2))

-- an answer that means one fact means another that is the same
pub answer_of : {E : Type 0} (P Q : Type 0) (r : Result Bool E) → (P → Q) → (Q → P) → IfOk r (λ b. (b ≡ true) ↔ P) → IfOk r (λ b. (b ≡ true) ↔ Q)
answer_of P Q (Ok b) to from is = (λ yes. to (is.0 yes), λ holds. is.1 (from holds))
answer_of P Q (Err e) to from is = tt
