-- Places with and without messages, and the messages under their numbers.
use Rattle.std.proofs.Common.{◌≡◌, ℕ, zero, suc, ◌<◌, ◌≤◌, ◌+◌, ◌-◌, ◌⊎◌, inl, inr, true, false, List, [], ◌∷◌, ◌++◌, length, Some, None, refl, sym, ap, ◌∙◌, subst, arith, slice_set}
use Rattle.std.specs.Prelude.{Option, Bool, not, slice_index_or}
use Rattle.std.specs.Option.{is_some, option_to_list}
use Rattle.std.specs.declared.cmp.Ordering.TheVariants.{Less, Greater}
use Rattle.std.specs.Ordering.{is_eq}
use Rattle.std.specs.Cmp.{nat_cmp_is}
use Rattle.std.specs.List.{AllByRecursion}
use Rattle.std.specs.Map.{lookup, remove_entry, keys_of, values_of}
use Rattle.std.proofs.lemmas.Bool.{false≢true}
use Rattle.ic_behaviour.specs.declared.call.Message.{Message}
use Rattle.ic_queues.specs.Lines.{is_number}
use Rattle.ic_queues.specs.Shelved.{Shelved, entries_from, starts_empty, starts_full, trim, IsShelf, messages_of, message_at, emptied}
use Rattle.ic_queues.proofs.Numbers.{number-self}

above : (n k : ℕ) → k < n → is_number n k ≡ false
above n k less = ap is_eq (sym (nat_cmp_is n k Greater less))

under : (n k : ℕ) → n < k → is_number n k ≡ false
under n k less = ap is_eq (sym (nat_cmp_is n k Less less))

-- numbers before the first place have no message
none_below : (m n : ℕ) (ps : List (Option Message)) → m < n → lookup (is_number m) (entries_from n ps) ≡ None
none_below m n [] less = refl
none_below m n (None ∷ ps) less = none_below m (suc n) ps (omega (arith, less))
none_below m n (Some x ∷ ps) less = let no = under m n less in rw no (none_below m (suc n) ps (omega (arith, less)))

kept_below : (m n : ℕ) (ps : List (Option Message)) → m < n → remove_entry (is_number m) (entries_from n ps) ≡ entries_from n ps
kept_below m n [] less = refl
kept_below m n (None ∷ ps) less = kept_below m (suc n) ps (omega (arith, less))
kept_below m n (Some x ∷ ps) less = let no = under m n less in rw no (ap (λ l. (n, x) ∷ l) (kept_below m (suc n) ps (omega (arith, less))))

pub before-first : (m n : ℕ) (ps : List (Option Message)) → m < n
    → (lookup (is_number m) (entries_from n ps) ≡ None) × (remove_entry (is_number m) (entries_from n ps) ≡ entries_from n ps)
before-first m n ps less = (none_below m n ps less, kept_below m n ps less)

first-number : (n : ℕ) → is_number (n + 0) n ≡ true
first-number n = subst (λ (m : ℕ). is_number m n ≡ true) (omega arith) (number-self n)

-- the message of a place leaves
pub found-at : (k n : ℕ) (ps : List (Option Message)) → lookup (is_number (n + k)) (entries_from n ps) ≡ message_at k ps
found-at k n [] = refl
found-at zero n (None ∷ ps) = none_below (n + 0) (suc n) ps (omega arith)
found-at zero n (Some x ∷ ps) = let yes = first-number n in rw yes refl
found-at (suc k) n (None ∷ ps) = subst (λ (m : ℕ). lookup (is_number m) (entries_from (suc n) ps) ≡ message_at k ps) (omega arith) (found-at k (suc n) ps)
found-at (suc k) n (Some x ∷ ps) =
    let no = above (n + suc k) n (omega arith) in
    rw no (subst (λ (m : ℕ). lookup (is_number m) (entries_from (suc n) ps) ≡ message_at k ps) (omega arith) (found-at k (suc n) ps))

pub left-at : (k n : ℕ) (ps : List (Option Message)) → remove_entry (is_number (n + k)) (entries_from n ps) ≡ entries_from n (emptied k ps)
left-at k n [] = refl
left-at zero n (None ∷ ps) = kept_below (n + 0) (suc n) ps (omega arith)
left-at zero n (Some x ∷ ps) = let yes = first-number n in rw yes refl
left-at (suc k) n (None ∷ ps) = subst (λ (m : ℕ). remove_entry (is_number m) (entries_from (suc n) ps) ≡ entries_from (suc n) (emptied k ps)) (omega arith) (left-at k (suc n) ps)
left-at (suc k) n (Some x ∷ ps) =
    let no = above (n + suc k) n (omega arith) in
    rw no (ap (λ l. (n, x) ∷ l) (subst (λ (m : ℕ). remove_entry (is_number m) (entries_from (suc n) ps) ≡ entries_from (suc n) (emptied k ps)) (omega arith) (left-at k (suc n) ps)))

pub emptied-length : (k : ℕ) (ps : List (Option Message)) → length (emptied k ps) ≡ length ps
emptied-length k [] = refl
emptied-length zero (p ∷ ps) = refl
emptied-length (suc k) (p ∷ ps) = ap suc (emptied-length k ps)

-- a place is emptied by its index
pub emptied-is : (k : ℕ) (ps : List (Option Message)) → k < length ps → slice_set ps k None ≡ emptied k ps
emptied-is k [] inside = absurd (omega (arith, inside))
emptied-is zero (p ∷ ps) inside = refl
emptied-is (suc k) (p ∷ ps) inside = ap (λ l. p ∷ l) (emptied-is k ps (omega (arith, inside)))

pub message-is : (k : ℕ) (ps : List (Option Message)) (p : Option Message) → k < length ps → p ≡ slice_index_or ps k p → p ≡ message_at k ps
message-is k [] p inside is = absurd (omega (arith, inside))
message-is zero (q ∷ ps) p inside is = is
message-is (suc k) (q ∷ ps) p inside is = message-is k ps p (omega (arith, inside)) is

pub nothing-beyond : (k : ℕ) (ps : List (Option Message)) → length ps < k + 1 → (emptied k ps ≡ ps) × (message_at k ps ≡ None)
nothing-beyond k [] beyond = (refl, refl)
nothing-beyond zero (p ∷ ps) beyond = absurd (omega (arith, beyond))
nothing-beyond (suc k) (p ∷ ps) beyond = let rest = nothing-beyond k ps (omega (arith, beyond)) in (ap (λ l. p ∷ l) rest.0, rest.1)

-- ---- the last place, and the first

pub message-last : (n : ℕ) (ps : List (Option Message)) (x : Message) → entries_from n (ps ++ Some x ∷ []) ≡ entries_from n ps ++ (n + length ps, x) ∷ []
message-last n [] x = ap (λ (k : ℕ). (k, x) ∷ []) (omega arith)
message-last n (None ∷ ps) x = message-last (suc n) ps x ∙ ap (λ (k : ℕ). entries_from (suc n) ps ++ (k, x) ∷ []) (omega arith)
message-last n (Some y ∷ ps) x = ap (λ l. (n, y) ∷ l) (message-last (suc n) ps x ∙ ap (λ (k : ℕ). entries_from (suc n) ps ++ (k, x) ∷ []) (omega arith))

pub messages-last : (ps : List (Option Message)) (p : Option Message) → messages_of (ps ++ p ∷ []) ≡ messages_of ps ++ option_to_list p
messages-last [] None = refl
messages-last [] (Some x) = refl
messages-last (None ∷ ps) p = messages-last ps p
messages-last (Some y ∷ ps) p = ap (λ l. y ∷ l) (messages-last ps p)

pub values-are : (n : ℕ) (ps : List (Option Message)) → messages_of ps ≡ values_of (entries_from n ps)
values-are n [] = refl
values-are n (None ∷ ps) = values-are (suc n) ps
values-are n (Some y ∷ ps) = ap (λ l. y ∷ l) (values-are (suc n) ps)

pub still-trimmed : (ps : List (Option Message)) (x : Message) → starts_empty ps ≡ false → starts_empty (ps ++ Some x ∷ []) ≡ false
still-trimmed [] x full = refl
still-trimmed (None ∷ ps) x full = full
still-trimmed (Some y ∷ ps) x full = refl

pub front-is : (ps : List (Option Message)) (p : Option Message) (b : Bool) → 0 < length ps → p ≡ slice_index_or ps 0 p → is_some p ≡ not b → b ≡ starts_empty ps
front-is [] p b inside is e = absurd (omega (arith, inside))
front-is (None ∷ ps) p true inside is e = refl
front-is (None ∷ ps) p false inside is e = absurd (false≢true (sym (ap is_some is) ∙ e))
front-is (Some x ∷ ps) p true inside is e = absurd (false≢true (sym e ∙ ap is_some is))
front-is (Some x ∷ ps) p false inside is e = refl

pub no-front : (ps : List (Option Message)) (n : ℕ) → n ≡ length ps → (0 < n → false ≡ true) → false ≡ starts_empty ps
no-front [] n e none = refl
no-front (p ∷ ps) n e none = absurd (false≢true (none (omega (arith, e))))

length-last : (ps : List (Option Message)) (p : Option Message) → length (ps ++ p ∷ []) ≡ length ps + 1
length-last [] p = refl
length-last (q ∷ ps) p = omega (arith, length-last ps p)

-- ---- places that are not empty, at the front

pub filled-length : (n : ℕ) (ps : List (Option Message)) → starts_full n ps ≡ true → n ≤ length ps
filled-length zero ps full = omega arith
filled-length (suc n) [] full = absurd (false≢true full)
filled-length (suc n) (None ∷ ps) full = absurd (false≢true full)
filled-length (suc n) (Some m ∷ ps) full = omega (arith, filled-length n ps full)

fewer-filled : (k n : ℕ) (ps : List (Option Message)) → k ≤ n → starts_full n ps ≡ true → starts_full k ps ≡ true
fewer-filled zero n ps less full = refl
fewer-filled (suc k) zero ps less full = absurd (omega (arith, less))
fewer-filled (suc k) (suc n) [] less full = full
fewer-filled (suc k) (suc n) (None ∷ ps) less full = full
fewer-filled (suc k) (suc n) (Some m ∷ ps) less full = fewer-filled k n ps (omega (arith, less)) full

filled-last : (n : ℕ) (ps : List (Option Message)) (x : Message) → starts_full n ps ≡ true → (n ≡ length ps → starts_full (suc n) (ps ++ Some x ∷ []) ≡ true) × (starts_full n (ps ++ Some x ∷ []) ≡ true)
filled-last zero [] x full = ((λ same. refl), refl)
filled-last zero (p ∷ ps) x full = ((λ same. absurd (omega (arith, same))), refl)
filled-last (suc n) [] x full = absurd (false≢true full)
filled-last (suc n) (None ∷ ps) x full = absurd (false≢true full)
filled-last (suc n) (Some m ∷ ps) x full = let rest = filled-last n ps x full in ((λ same. rest.0 (omega (arith, same))), rest.1)

-- a place after them is emptied
filled-emptied : (n k : ℕ) (ps : List (Option Message)) → n ≤ k → starts_full n ps ≡ true → starts_full n (emptied k ps) ≡ true
filled-emptied zero k ps upto full = refl
filled-emptied (suc n) zero ps upto full = absurd (omega (arith, upto))
filled-emptied (suc n) (suc k) [] upto full = full
filled-emptied (suc n) (suc k) (None ∷ ps) upto full = full
filled-emptied (suc n) (suc k) (Some m ∷ ps) upto full = filled-emptied n k ps (omega (arith, upto)) full

filled-trim : (n : ℕ) (ps : List (Option Message)) → starts_full n ps ≡ true → starts_full n (trim ps) ≡ true
filled-trim zero ps full = refl
filled-trim (suc n) [] full = full
filled-trim (suc n) (None ∷ ps) full = absurd (false≢true full)
filled-trim (suc n) (Some m ∷ ps) full = full

filled-more : (n more : ℕ) (ps : List (Option Message)) (x : Message) → starts_full n ps ≡ true → ((n ≡ length ps) × (more ≡ n + 1)) ⊎ (more ≡ n) → starts_full more (ps ++ Some x ∷ []) ≡ true
filled-more n more ps x full (inl all) = subst (λ (k : ℕ). starts_full k (ps ++ Some x ∷ []) ≡ true) (let next : suc n ≡ more = omega (arith, all.1) in next) ((filled-last n ps x full).0 all.0)
filled-more n more ps x full (inr same) = subst (λ (k : ℕ). starts_full k (ps ++ Some x ∷ []) ≡ true) (sym same) (filled-last n ps x full).1

-- the first place is emptied, and leaves with the empty ones after it
filled-first : (n : ℕ) (ps : List (Option Message)) → starts_full n ps ≡ true → starts_full (n - 1) (trim (emptied 0 ps)) ≡ true
filled-first zero ps full = refl
filled-first (suc n) [] full = absurd (false≢true full)
filled-first (suc n) (None ∷ ps) full = absurd (false≢true full)
filled-first (suc n) (Some m ∷ ps) full = subst (λ (k : ℕ). starts_full k (trim ps) ≡ true) (let one_less : n ≡ suc n - 1 = omega arith in one_less) (filled-trim n ps full)

filled-without : (n left k : ℕ) (ps : List (Option Message)) → starts_full n ps ≡ true → (k ≡ 0 → left ≡ n - 1) → (0 < k → (left ≤ n) × (left ≤ k)) → starts_full left (trim (emptied k ps)) ≡ true
filled-without n left zero ps full first later = subst (λ (l : ℕ). starts_full l (trim (emptied 0 ps)) ≡ true) (sym (first refl)) (filled-first n ps full)
filled-without n left (suc k) ps full first later =
    let upto = later (omega arith) in
    filled-trim left (emptied (suc k) ps) (filled-emptied left (suc k) ps upto.1 (fewer-filled left n ps upto.0 full))

-- ---- how many messages there are

pub counted-without : (k n : ℕ) (ps : List (Option Message)) → length (entries_from n (emptied k ps)) + length (option_to_list (message_at k ps)) ≡ length (entries_from n ps)
counted-without k n [] = refl
counted-without zero n (None ∷ ps) = omega arith
counted-without zero n (Some m ∷ ps) = omega arith
counted-without (suc k) n (None ∷ ps) = counted-without k (suc n) ps
counted-without (suc k) n (Some m ∷ ps) = omega (arith, counted-without k (suc n) ps)

counted-last : {X : Type 0} (xs : List X) (x : X) → length (xs ++ x ∷ []) ≡ length xs + 1
counted-last [] x = refl
counted-last (y ∷ xs) x = omega (arith, counted-last xs x)

pub few_messages : (n : ℕ) (ps : List (Option Message)) → length (entries_from n ps) ≤ length ps
few_messages n [] = omega arith
few_messages n (None ∷ ps) = omega (arith, few_messages (suc n) ps)
few_messages n (Some m ∷ ps) = omega (arith, few_messages (suc n) ps)

-- no number is below the first
pub from_first : (first n : ℕ) (ps : List (Option Message)) → first ≤ n → AllByRecursion (λ k. first ≤ k) (keys_of (entries_from n ps))
from_first first n [] upto = tt
from_first first n (None ∷ ps) upto = from_first first (suc n) ps (omega (arith, upto))
from_first first n (Some m ∷ ps) upto = (upto, from_first first (suc n) ps (omega (arith, upto)))

-- ---- shelves

pub record Pushed (first next count after more filled : ℕ) (ps qs : List (Option Message)) (x : Message) : Type 0 where
  pub shelf : IsShelf first qs after more filled
  pub view : ◌≡◌ {A = Shelved} (record { entries = entries_from first qs; next = after }) (record { entries = entries_from first ps ++ (next, x) ∷ []; next = next + 1 })

pub pushed : (first next count full after more filled : ℕ) (ps qs : List (Option Message)) (x : Message) → IsShelf first ps next count full → qs ≡ ps ++ Some x ∷ [] → after ≡ next + 1 → more ≡ count + 1
    → ((full ≡ length ps) × (filled ≡ full + 1)) ⊎ (filled ≡ full) → Pushed first next count after more filled ps qs x
pushed first next count full after more filled ps qs x is e1 e2 e3 e4 =
    let entries : entries_from first qs ≡ entries_from first ps ++ (next, x) ∷ [] =
    ap (entries_from first) e1 ∙ message-last first ps x ∙ ap (λ (k : ℕ). entries_from first ps ++ (k, x) ∷ []) is.numbers in
    record {
      shelf = record {
        numbers = omega (arith, is.numbers, ap length e1, length-last ps (Some x), e2);
        trimmed = ap starts_empty e1 ∙ still-trimmed ps x is.trimmed;
        counted = omega (arith, ap length entries, counted-last (entries_from first ps) (next, x), is.counted, e3);
        filled = ap (starts_full filled) e1 ∙ filled-more full filled ps x is.filled e4;
      };
      view = λ i. record { entries = entries i; next = e2 i };
    }

pub record Taken (first next n : ℕ) (ps : List (Option Message)) (m : Option Message) (first' : ℕ) (ps' : List (Option Message)) (count' full' : ℕ) : Type 0 where
  pub shelf : IsShelf first' ps' next count' full'
  pub message : m ≡ lookup (is_number n) (entries_from first ps)
  pub entries : entries_from first' ps' ≡ remove_entry (is_number n) (entries_from first ps)

pub taken : (first next n k count full : ℕ) (ps qs : List (Option Message)) (m : Option Message) (first' : ℕ) (ps' : List (Option Message)) (count' full' : ℕ)
    → IsShelf first ps next count full → first + k ≡ n → qs ≡ emptied k ps → m ≡ message_at k ps
    → entries_from first' ps' ≡ entries_from first qs → first' + length ps' ≡ first + length qs → starts_empty ps' ≡ false → ps' ≡ trim qs
    → count' + length (option_to_list m) ≡ count → (k ≡ 0 → full' ≡ full - 1) → (0 < k → (full' ≤ full) × (full' ≤ k))
    → Taken first next n ps m first' ps' count' full'
taken first next n k count full ps qs m first' ps' count' full' is place e1 e2 e3 e4 trimmed e5 e6 at_first later =
    let entries = e3 ∙ ap (entries_from first) e1 in
    record {
      shelf = record {
        numbers = omega (arith, is.numbers, e4, ap length e1, emptied-length k ps);
        trimmed = trimmed;
        counted = omega (arith, ap length entries, counted-without k first ps, ap (λ o. length (option_to_list o)) e2, is.counted, e6);
        filled = ap (starts_full full') (e5 ∙ ap trim e1) ∙ filled-without full full' k ps is.filled at_first later;
      };
      message = e2 ∙ sym (found-at k first ps) ∙ ap (λ (j : ℕ). lookup (is_number j) (entries_from first ps)) place;
      entries = entries ∙ sym (left-at k first ps) ∙ ap (λ (j : ℕ). remove_entry (is_number j) (entries_from first ps)) place;
    }

-- the message that leaves is one of them
pub one-of : (k first count : ℕ) (ps : List (Option Message)) (m : Option Message) → length (entries_from first ps) ≡ count → m ≡ message_at k ps → length (option_to_list m) ≤ count
one-of k first count ps m counted is = omega (arith, counted, counted-without k first ps, ap (λ o. length (option_to_list o)) is)
