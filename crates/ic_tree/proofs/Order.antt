-- Lists in rising order.
use Rattle.std.proofs.Common.{◌≡◌, ap, refl, arith, ℕ, zero, suc, ◌<◌, List, [], ◌∷◌, ◌++◌, length, true, false, map}
use Rattle.std.specs.List.{insert, slice_index_or}
use Rattle.std.specs.BTreeMap.{insert_entry}
use Rattle.std.specs.Ordering.{is_lt, match_ordering, nat_cmp}
use Rattle.std.specs.declared.cmp.Ordering.{Ordering}
use Rattle.std.specs.declared.cmp.Ordering.TheVariants.{Less, Equal, Greater}
use Rattle.std.specs.Cmp.Lexicographic.{slice_cmp}
use Rattle.ic_tree.specs.RequestId.{put_in_order, put_all}

-- none of the first n is above x
abbrev pub NoneAbove : List ℕ → List (List ℕ) → ℕ → Type 0
NoneAbove x xs n = (k : ℕ) (d : List ℕ) → k < n → is_lt (slice_cmp nat_cmp x (slice_index_or xs k d)) ≡ false

pub put_here : (x : List ℕ) (xs : List (List ℕ)) (n : ℕ) (d : List ℕ) → n < length xs → NoneAbove x xs n
    → is_lt (slice_cmp nat_cmp x (slice_index_or xs n d)) ≡ true → insert xs n x ≡ put_in_order x xs
unfolding put_in_order
put_here x [] n d lt none above = absurd (omega arith)
put_here x (y ∷ ys) zero d lt none above = rw above refl
put_here x (y ∷ ys) (suc n) d lt none above =
    rw (none zero d (omega arith)) (ap (λ l. y ∷ l) (put_here x ys n d (omega arith) (λ k e less. none (suc k) e (omega arith)) above))

pub put_last : (x : List ℕ) (xs : List (List ℕ)) → NoneAbove x xs (length xs) → insert xs (length xs) x ≡ put_in_order x xs
unfolding put_in_order
put_last x [] none = refl
put_last x (y ∷ ys) none = rw (none zero x (omega arith)) (ap (λ l. y ∷ l) (put_last x ys (λ k e less. none (suc k) e (omega arith))))

pub put_more : (sorted xs : List (List ℕ)) (x : List ℕ) → put_all sorted (xs ++ x ∷ []) ≡ put_in_order x (put_all sorted xs)
unfolding put_all
put_more sorted [] x = refl
put_more sorted (y ∷ ys) x = put_more (put_in_order y sorted) ys x

-- what is kept of the values changes nothing of the order
pub map_entries : {V W : Type 0} (cmp : List ℕ → List ℕ → Ordering) (f : V → W) (es : List (List ℕ × V)) (k : List ℕ) (v : V)
    → map (λ (e : List ℕ × V). (e.0, f e.1)) (insert_entry cmp es k v) ≡ insert_entry cmp (map (λ (e : List ℕ × V). (e.0, f e.1)) es) k (f v)
map_entries cmp f [] k v = refl
map_entries {V = V} cmp f (e ∷ es) k v = go (map_entries cmp f es k v) (cmp k e.0)
  where
    go : map (λ (e : List ℕ × V). (e.0, f e.1)) (insert_entry cmp es k v) ≡ insert_entry cmp (map (λ (e : List ℕ × V). (e.0, f e.1)) es) k (f v)
        → (o : Ordering) → map (λ (e : List ℕ × V). (e.0, f e.1)) (match_ordering o ((k, v) ∷ e ∷ es) ((e.0, v) ∷ es) (e ∷ insert_entry cmp es k v))
        ≡ match_ordering o ((k, f v) ∷ (e.0, f e.1) ∷ map (λ (e : List ℕ × V). (e.0, f e.1)) es) ((e.0, f v) ∷ map (λ (e : List ℕ × V). (e.0, f e.1)) es)
        ((e.0, f e.1) ∷ insert_entry cmp (map (λ (e : List ℕ × V). (e.0, f e.1)) es) k (f v))
    go same Less = refl
    go same Equal = refl
    go same Greater = ap (λ l. (e.0, f e.1) ∷ l) same
