-- The order of labels, and paths among paths.
use Rattle.std.proofs.Common.{◌≡◌, ◌∙◌, ap, refl, ℕ, Bool, true, false, ◌||◌, ◌&&◌, List, [], ◌∷◌, Ordering, Less, Equal, Greater, if◌then◌else◌, zero, suc, ◌<◌, length, get_or, arith, inl, inr}
use Rattle.std.specs.Prelude.{◌⊎◌}
use Rattle.std.specs.List.{All, list_any}
use Rattle.std.specs.Ordering.{is_eq, is_lt, ordering_reverse}
use Rattle.std.specs.Str.{bytes_eq}
use Rattle.std.proofs.lemmas.Cmp.{nat_list_cmp_total, nat_list_eq_equiv}
use Rattle.std.proofs.lemmas.Map.Text.{is_eq-slice_cmp}
use Rattle.std.proofs.lemmas.Slice.Eq.{bytes_eq-Decides}
use Rattle.ic_witness.specs.Nodes.{Label, Path, precedes}
use Rattle.ic_witness.specs.Prune.{is_nil, rests}

-- ---- tests

pub or_right : (a : Bool) {b : Bool} → b ≡ true → (a || b) ≡ true
or_right true e = refl
or_right false e = e

pub neither : (a b : Bool) → (a || b) ≡ false → (a ≡ false) × (b ≡ false)
neither true b e = absurd cc
neither false b e = (refl, e)

pub both_hold : (a b : Bool) → (a && b) ≡ true → (a ≡ true) × (b ≡ true)
both_hold true b e = (refl, e)
both_hold false b e = absurd cc

-- ---- the order of labels

less : (o : Ordering) → is_lt o ≡ true → o ≡ Less
less Less e = refl
less Equal e = absurd cc
less Greater e = absurd cc

greater : (o : Ordering) → is_lt o ≡ false → is_eq o ≡ false → o ≡ Greater
greater Less e f = absurd cc
greater Equal e f = absurd cc
greater Greater e f = refl

pub same_label : (a b : Label) → bytes_eq a b ≡ true → a ≡ b
same_label a b = (bytes_eq-Decides a b).0

pub is_itself : (a : Label) → bytes_eq a a ≡ true
is_itself a = nat_list_eq_equiv.refl a

pub eq_back : (a b : Label) → bytes_eq a b ≡ bytes_eq b a
eq_back a b = nat_list_eq_equiv.symm a b

pub precedes_through : (a b c : Label) → precedes a b ≡ true → precedes b c ≡ true → precedes a c ≡ true
precedes_through a b c p q = ap is_lt (nat_list_cmp_total.trans a b c (less _ p) (less _ q))

pub not_back : (a b : Label) → precedes a b ≡ true → precedes b a ≡ false
not_back a b p = ap is_lt (nat_list_cmp_total.antisymm b a ∙ ap ordering_reverse (less _ p))

-- of two labels one comes first
pub one_side : (a b : Label) → precedes a b ≡ false → bytes_eq a b ≡ false → precedes b a ≡ true
one_side a b p q = ap is_lt (nat_list_cmp_total.antisymm b a ∙ ap ordering_reverse (greater _ p (is_eq-slice_cmp a b ∙ q)))

-- ---- paths among paths

pub data Among : Path → List Path → Type 0 where
  first : {path : Path} {paths : List Path} → Among path (path ∷ paths)
  later : {path other : Path} {paths : List Path} → Among path paths → Among path (other ∷ paths)

pub among_any : (test : Path → Bool) {path : Path} {paths : List Path} → Among path paths → test path ≡ true → list_any test paths ≡ true
among_any test first e = rw e refl
among_any test (later {other = other} a) e = or_right (test other) (among_any test a e)

pub among_some : {path : Path} {paths : List Path} → Among path paths → is_nil paths ≡ false
among_some first = refl
among_some (later a) = refl

among_split : {path other : Path} {paths : List Path} → Among path (other ∷ paths) → (path ≡ other) ⊎ Among path paths
among_split first = inl refl
among_split (later a) = inr a

-- the rest of a path that begins with the label is among the rests
pub among_rests : (label : Label) (rest : Path) (paths : List Path) → Among (label ∷ rest) paths → Among rest (rests label paths)
unfolding rests
among_rests label rest [] a = elim a [ ]
among_rests label rest ([] ∷ paths) (later a) = among_rests label rest paths a
among_rests label rest ((head ∷ tail) ∷ paths) a = go (among_rests label rest paths) (among_split a)
  where
    put : (b : Bool) → Among rest (rests label paths) → Among rest (if b then tail ∷ rests label paths else rests label paths)
    put true c = later c
    put false c = c

    go : (Among (label ∷ rest) paths → Among rest (rests label paths)) → ((label ∷ rest) ≡ (head ∷ tail)) ⊎ Among (label ∷ rest) paths
        → Among rest (if bytes_eq head label then tail ∷ rests label paths else rests label paths)
    go below (inl e) =
        let heads : head ≡ label = cc in
        let tails : tail ≡ rest = cc in
        rw (heads, is_itself label, tails) first
    go below (inr b) = put (bytes_eq head label) (below b)

among_at : (paths : List Path) (k : ℕ) (d : Path) → k < length paths → Among (get_or paths k d) paths
among_at [] k d lt = absurd (omega arith)
among_at (path ∷ paths) zero d lt = first
among_at (path ∷ paths) (suc k) d lt = later (among_at paths k d (omega arith))

-- what holds of each path among the paths
pub of_all : (P : Path → Type 0) (paths : List Path) → ((path : Path) → Among path paths → P path) → All P paths
of_all P paths f = λ k d lt. f (get_or paths k d) (among_at paths k d lt)
