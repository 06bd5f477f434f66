-- A search tree, seen as names with values.
use Rattle.std.proofs.Common.{◌≡◌, ℕ, List, [], ◌∷◌, refl}
use Rattle.std.specs.Prelude.{Vec}
use Rattle.std.specs.BTreeMap.{insert_entry, is_at}
use Rattle.std.specs.Map.{lookup}
use Rattle.std.specs.Cmp.Lexicographic.{slice_cmp}
use Rattle.std.specs.Ordering.{nat_cmp}
use Rattle.std.specs.declared.alloc.Global.{Global}
use Rattle.std.specs.declared.cmp.Ordering.{Ordering}
use Rattle.std.specs.declared.cmp.Ordering.TheVariants.{Less, Equal, Greater}
use Rattle.ct_scope.specs.Names.{pairs, found, put}

abbrev by_bytes : Vec ℕ Global → Vec ℕ Global → Ordering
by_bytes x y = slice_cmp nat_cmp x.items y.items

-- what is found in the tree
pub is_found : {V : Type 0} (entries : List (Vec ℕ Global × V)) (name : List ℕ) → lookup (is_at (λ (k : Vec ℕ Global). slice_cmp nat_cmp name k.items)) entries ≡ found (pairs entries) name
is_found [] name = refl
is_found (e ∷ entries) name = rw (is_found entries name) refl

-- what is put into it
pub is_put : {V : Type 0} (entries : List (Vec ℕ Global × V)) (key : Vec ℕ Global) (value : V) → pairs (insert_entry by_bytes entries key value) ≡ put (pairs entries) key.items value
is_put [] key value = refl
is_put {V} (e ∷ entries) key value = at (slice_cmp nat_cmp key.items e.0.items) refl (is_put entries key value)
  where
    at : (o : Ordering) → slice_cmp nat_cmp key.items e.0.items ≡ o → pairs (insert_entry by_bytes entries key value) ≡ put (pairs entries) key.items value
        → pairs (insert_entry by_bytes (e ∷ entries) key value) ≡ put (pairs (e ∷ entries)) key.items value
    at Less is more = rw is refl
    at Equal is more = rw is refl
    at Greater is more = rw (is, more) refl
