-- A value without parts is what its kind and its contents say.
use Rattle.std.proofs.Common.{◌≡◌, ℕ, Bool, true, false, refl, sym, ◌∙◌, arith}
use Rattle.std.specs.Prelude.{◌==◌, ◌&&◌, bytes_eq, if◌then◌else◌}
use Rattle.std.specs.Ordering.{int_eq}
use Rattle.std.proofs.lemmas.Bool.Decides.{Decides-int_eq}
use Rattle.std.proofs.lemmas.Slice.Eq.{bytes_eq-Decides}
use Rattle.cd_codec.specs.Content.{Content, Plain, null, bool, nat, int, nat8, nat16, nat32, nat64, int8, int16, int32, int64, text, reserved, func, service, principal, plain, blob, none, some, list, record_of, variant}
use Rattle.ct_patterns.specs.declared.layer.Leaf.{Leaf}
use Rattle.ct_patterns.specs.Meets.{is_leaf}
use Rattle.ct_patterns.specs.Met.{Layer, leaf, opt, items, fields, case, natural_leaf, bytes_leaf, leaf_of, same_leaf, same_layer, layer}

-- the value that a leaf is of
back : Leaf → Content
back l =
    if l.kind == 0 then plain null else if l.kind == 1 then plain (bool (l.natural == 1)) else if l.kind == 2 then plain (nat l.natural) else if l.kind == 3 then plain (nat8 l.natural)
    else if l.kind == 4 then plain (nat16 l.natural) else if l.kind == 5 then plain (nat32 l.natural) else if l.kind == 6 then plain (nat64 l.natural) else if l.kind == 7 then plain (int l.integer)
    else if l.kind == 8 then plain (int8 l.integer) else if l.kind == 9 then plain (int16 l.integer) else if l.kind == 10 then plain (int32 l.integer) else if l.kind == 11 then plain (int64 l.integer)
    else if l.kind == 12 then plain (text l.bytes) else if l.kind == 13 then plain reserved else if l.kind == 14 then plain (func l.bytes l.method) else if l.kind == 15 then plain (service l.bytes)
    else if l.kind == 16 then plain (principal l.bytes) else if l.kind == 17 then blob l.bytes else none

plain_back : (p : Plain) → back (leaf_of p) ≡ plain p
unfolding back
plain_back null = refl
plain_back (bool true) = refl
plain_back (bool false) = refl
plain_back (nat n) = refl
plain_back (int z) = refl
plain_back (nat8 n) = refl
plain_back (nat16 n) = refl
plain_back (nat32 n) = refl
plain_back (nat64 n) = refl
plain_back (int8 z) = refl
plain_back (int16 z) = refl
plain_back (int32 z) = refl
plain_back (int64 z) = refl
plain_back (text s) = refl
plain_back reserved = refl
plain_back (func p m) = refl
plain_back (service p) = refl
plain_back (principal p) = refl

pub no_blob : (p : Plain) → ((leaf_of p).kind == 17) ≡ false
no_blob null = refl
no_blob (bool b) = refl
no_blob (nat n) = refl
no_blob (int z) = refl
no_blob (nat8 n) = refl
no_blob (nat16 n) = refl
no_blob (nat32 n) = refl
no_blob (nat64 n) = refl
no_blob (int8 z) = refl
no_blob (int16 z) = refl
no_blob (int32 z) = refl
no_blob (int64 z) = refl
no_blob (text s) = refl
no_blob reserved = refl
no_blob (func p m) = refl
no_blob (service p) = refl
no_blob (principal p) = refl

leaf_back : (v : Content) (l : Leaf) → layer v ≡ leaf l → (is_leaf v ≡ true) × (back l ≡ v)
unfolding back
leaf_back (plain p) l e = let h : leaf_of p ≡ l = cc in (refl, rw (sym h) (plain_back p))
leaf_back (blob s) l e = let h : bytes_leaf 17 s ≡ l = cc in (refl, rw (sym h) refl)
leaf_back none l e = let h : natural_leaf 18 0 ≡ l = cc in (refl, rw (sym h) refl)
leaf_back (some v) l e = absurd cc
leaf_back (list vs) l e = absurd cc
leaf_back (record_of ps) l e = absurd cc
leaf_back (variant i v) l e = absurd cc

five : (p q r s t : Bool) → (p && q && r && s && t) ≡ true → (p ≡ true) × (q ≡ true) × (r ≡ true) × (s ≡ true) × (t ≡ true)
five true true true true true e = (refl, refl, refl, refl, refl)
five false q r s t e = absurd cc
five true false r s t e = absurd cc
five true true false s t e = absurd cc
five true true true false t e = absurd cc
five true true true true false e = absurd cc

all_five : (p q r s t : Bool) → p ≡ true → q ≡ true → r ≡ true → s ≡ true → t ≡ true → (p && q && r && s && t) ≡ true
all_five p q r s t a b c d e = rw (a, b, c, d, e) refl

pub same_number : (a b : ℕ) → (a == b) ≡ true → a ≡ b
same_number a b e = grind (arith, e)

pub same_as_itself : (n : ℕ) → (n == n) ≡ true
same_as_itself n = grind arith

back_is : (a b : Leaf) → same_leaf a b ≡ true → back a ≡ back b
unfolding back
back_is a b e =
    let h = five (a.kind == b.kind) (a.natural == b.natural) (int_eq a.integer b.integer) (bytes_eq a.bytes b.bytes) (bytes_eq a.method b.method) e in
    let k = same_number a.kind b.kind h.0 in
    let n = same_number a.natural b.natural h.1 in
    let z = (Decides-int_eq a.integer b.integer).0 h.2 in
    let s = (bytes_eq-Decides a.bytes b.bytes).0 h.3 in
    let m = (bytes_eq-Decides a.method b.method).0 h.4 in
    rw (k, n, z, s, m) refl

leaf_same : (a : Leaf) → same_leaf a a ≡ true
leaf_same a =
    all_five (a.kind == a.kind) (a.natural == a.natural) (int_eq a.integer a.integer) (bytes_eq a.bytes a.bytes) (bytes_eq a.method a.method) (same_as_itself a.kind) (same_as_itself a.natural)
    ((Decides-int_eq a.integer a.integer).1 refl) ((bytes_eq-Decides a.bytes a.bytes).1 refl) ((bytes_eq-Decides a.method a.method).1 refl)

-- where both have no parts they are the same
layers_are : (one two : Layer) → same_layer one two ≡ true → (a b : Leaf) × (one ≡ leaf a) × (two ≡ leaf b) × (same_leaf a b ≡ true)
layers_are (leaf a) (leaf b) e = (a, b, refl, refl, e)
layers_are (leaf a) (opt v) e = absurd cc
layers_are (leaf a) (items vs) e = absurd cc
layers_are (leaf a) (fields fs) e = absurd cc
layers_are (leaf a) (case i v) e = absurd cc
layers_are (opt u) two e = absurd cc
layers_are (items us) two e = absurd cc
layers_are (fields gs) two e = absurd cc
layers_are (case i u) two e = absurd cc

pub same_whole : (u v : Content) → same_layer (layer u) (layer v) ≡ true → (is_leaf v ≡ true) × (u ≡ v)
same_whole u v e =
    let h = layers_are (layer u) (layer v) e in
    let a = leaf_back u h.0 h.2 in
    let b = leaf_back v h.1 h.3 in
    (b.0, sym a.1 ∙ back_is h.0 h.1 h.4 ∙ b.1)

pub whole_same : (v : Content) → is_leaf v ≡ true → same_layer (layer v) (layer v) ≡ true
whole_same (plain p) e = leaf_same (leaf_of p)
whole_same (blob s) e = leaf_same (bytes_leaf 17 s)
whole_same none e = refl
whole_same (some v) e = absurd cc
whole_same (list vs) e = absurd cc
whole_same (record_of ps) e = absurd cc
whole_same (variant i v) e = absurd cc
