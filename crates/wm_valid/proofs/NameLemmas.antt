-- Names after a prefix, and sets of names.
use Rattle.std.proofs.Common.{◌≡◌, ℕ, ◌+◌, ◌<◌, get_or, Bool, true, false, cond, List, [], ◌∷◌, ◌++◌, length, take, drop, Some, None, refl, sym, ap, ◌∙◌, arith}
use Rattle.std.specs.Prelude.{◌&&◌, ◌||◌, nat_eq, bytes_eq}
use Rattle.std.specs.Borrow.{Bor}
use Rattle.std.specs.List.{starts_with, list_any}
use Rattle.std.specs.Cmp.Lexicographic.{slice_cmp}
use Rattle.std.specs.Ordering.{nat_cmp, is_eq, match_ordering}
use Rattle.std.specs.declared.cmp.Ordering.{Ordering}
use Rattle.std.specs.declared.cmp.Ordering.TheVariants.{Less, Equal, Greater}
use Rattle.std.specs.BTreeMap.{is_at}
use Rattle.std.specs.BTreeSet.{BTreeSet, insert_key}
use Rattle.std.proofs.lemmas.Map.Text.{is_eq-slice_cmp}
use Rattle.std.proofs.lemmas.Slice.Eq.{bytes_eq-Decides}
use Rattle.std.proofs.lemmas.Bool.Decides.{nat_tests}
use Rattle.std.proofs.lemmas.List.Folds.{list_any_more}
use Rattle.std.proofs.lemmas.List.{at_drop_more}
use Rattle.wm_tree.specs.declared.parts.Export.{Export}
use Rattle.wm_tree.specs.declared.parts.Module.{Module}
use Rattle.wm_valid.specs.Entries.{strip_prefix, exports_name, is_wrong, is_bad_export, least_bad}
use Rattle.wm_valid.specs.Seen.{has_name, HasAlso, HasNames}

-- ---- names after a prefix

eq_comm : (x y : ℕ) → nat_eq x y ≡ nat_eq y x
eq_comm x y = grind (arith, nat_tests)

pub bytes_eq_comm : (xs ys : List ℕ) → bytes_eq xs ys ≡ bytes_eq ys xs
bytes_eq_comm [] [] = refl
bytes_eq_comm [] (y ∷ ys) = refl
bytes_eq_comm (x ∷ xs) [] = refl
bytes_eq_comm (x ∷ xs) (y ∷ ys) = rw (eq_comm x y, bytes_eq_comm xs ys) refl

and_assoc : (a b d : Bool) → (a && (b && d)) ≡ ((a && b) && d)
and_assoc true b d = refl
and_assoc false b d = refl

pub bytes_eq-append : (name p q : List ℕ) → bytes_eq name (p ++ q) ≡ (starts_with nat_eq name p && bytes_eq (drop (length p) name) q)
bytes_eq-append [] [] q = refl
bytes_eq-append (y ∷ name) [] q = refl
bytes_eq-append [] (x ∷ p) q = refl
bytes_eq-append (y ∷ name) (x ∷ p) q = rw (bytes_eq-append name p q, eq_comm y x) (and_assoc (nat_eq x y) (starts_with nat_eq name p) (bytes_eq (drop (length p) name) q))

behind_some : (starts : Bool) (rest found : List ℕ) → cond starts (Some rest) None ≡ Some found → (starts ≡ true) × (rest ≡ found)
behind_some true rest found e = (refl, cc)
behind_some false rest found e = absurd cc

behind_none : (starts : Bool) (rest : List ℕ) → cond starts (Some rest) None ≡ None → starts ≡ false
behind_none true rest e = absurd cc
behind_none false rest e = refl

pub eq_of_stripped : (prefix method name rest : List ℕ) → strip_prefix prefix name ≡ Some rest → bytes_eq rest method ≡ bytes_eq name (prefix ++ method)
eq_of_stripped prefix method name rest e =
    let parts = behind_some (starts_with nat_eq name prefix) (drop (length prefix) name) rest e in
    let starts = parts.0 in
    let same = parts.1 in
    rw (bytes_eq-append name prefix method, starts, same) refl

pub eq_of_none : (prefix method name : List ℕ) → strip_prefix prefix name ≡ None → false ≡ bytes_eq name (prefix ++ method)
eq_of_none prefix method name e =
    let starts = behind_none (starts_with nat_eq name prefix) (drop (length prefix) name) e in
    rw (bytes_eq-append name prefix method, starts) refl

-- ---- sets of names

-- whether a name is among the keys of a set
abbrev pub among : List ℕ → List (Bor (List ℕ)) → Bool
among name keys = list_any (is_at (λ k. slice_cmp nat_cmp name k.now)) keys

or_comm : (a b d : Bool) → (a || (b || d)) ≡ (b || (a || d))
or_comm true true d = refl
or_comm true false d = refl
or_comm false true d = refl
or_comm false false d = refl

or_same : (a b : Bool) → (a || b) ≡ (a || (a || b))
or_same true b = refl
or_same false b = refl

pub same_name : (x y : List ℕ) → slice_cmp nat_cmp x y ≡ Equal → x ≡ y
same_name x y e = (bytes_eq-Decides x y).0 (sym (is_eq-slice_cmp x y) ∙ ap is_eq e)

step : (name : List ℕ) (k x : Bor (List ℕ)) (xs more : List (Bor (List ℕ))) (o : Ordering) → slice_cmp nat_cmp k.now x.now ≡ o
    → among name more ≡ (bytes_eq k.now name || among name xs)
    → among name (match_ordering o (k ∷ x ∷ xs) (x ∷ xs) (x ∷ more)) ≡ (bytes_eq k.now name || among name (x ∷ xs))
step name k x xs more Less e next = rw (is_eq-slice_cmp name k.now, bytes_eq_comm name k.now) refl
step name k x xs more Equal e next =
    let same = same_name k.now x.now e in
    rw (is_eq-slice_cmp name x.now, bytes_eq_comm name x.now, same) (or_same (bytes_eq x.now name) (among name xs))
step name k x xs more Greater e next = rw next (or_comm (is_eq (slice_cmp nat_cmp name x.now)) (bytes_eq k.now name) (among name xs))

pub among-insert_key : (name : List ℕ) (keys : List (Bor (List ℕ))) (k : Bor (List ℕ)) → among name (insert_key (λ x y. slice_cmp nat_cmp x.now y.now) keys k) ≡ (bytes_eq k.now name || among name keys)
among-insert_key name [] k = rw (is_eq-slice_cmp name k.now, bytes_eq_comm name k.now) refl
among-insert_key name (x ∷ xs) k = step name k x xs _ (slice_cmp nat_cmp k.now x.now) refl (among-insert_key name xs k)

swap : (a b : Bool) → (a || b) ≡ (b || a)
swap true true = refl
swap true false = refl
swap false true = refl
swap false false = refl

-- the set with the name of one more export
pub names_more : (set new : BTreeSet (Bor (List ℕ))) (exports : List Export) (n : ℕ) (e : Export) → n < length exports → e ≡ get_or exports n e → HasNames set (take n exports) → HasAlso set new (bytes_eq e.name) → HasNames new (take (n + 1) exports)
names_more set new exports n e lt is so_far added = λ name.
    let here : bytes_eq e.name name ≡ bytes_eq (get_or exports n e).name name = ap (λ (x : Export). bytes_eq x.name name) is in
    added name
    ∙ rw (here, so_far name) (swap (bytes_eq (get_or exports n e).name name) (exports_name (take n exports) name))
    ∙ sym (list_any_more (λ x. bytes_eq x.name name) exports n e lt)

-- ---- the least export that is no good

-- an export is no good where its name was seen, or it is wrong by its own name
pub is_bad : (m : Module) (exports : List Export) (n : ℕ) (e : Export) (seen : BTreeSet (Bor (List ℕ))) → exports ≡ m.exports → HasNames seen (take n exports)
    → (has_name seen e.name || is_wrong m e) ≡ is_bad_export m n e
is_bad m exports n e seen same so_far =
    let before : has_name seen e.name ≡ exports_name (take n m.exports) e.name = so_far e.name ∙ ap (λ xs. exports_name (take n xs) e.name) same in
    rw before refl

pub least_bad_more : (m : Module) (exports : List Export) (n : ℕ) (e : Export) → n < length exports → e ≡ get_or exports n e → is_bad_export m n e ≡ false → least_bad m n (drop n exports) ≡ least_bad m (n + 1) (drop (n + 1) exports)
least_bad_more m exports n e lt is bad =
    let here : is_bad_export m n (get_or exports n e) ≡ false = ap (is_bad_export m n) (sym is) ∙ bad in
    at_drop_more (least_bad m n) exports n e lt ∙ rw here refl

pub least_bad_here : (m : Module) (exports : List Export) (n : ℕ) (e : Export) → n < length exports → e ≡ get_or exports n e → is_bad_export m n e ≡ true → least_bad m n (drop n exports) ≡ Some n
least_bad_here m exports n e lt is bad =
    let here : is_bad_export m n (get_or exports n e) ≡ true = ap (is_bad_export m n) (sym is) ∙ bad in
    at_drop_more (least_bad m n) exports n e lt ∙ rw here refl
