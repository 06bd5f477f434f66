-- Trees are read exactly.
use Rattle.std.proofs.Common.{◌≡◌, ℕ, zero, suc, ◌≤◌, Bool, true, false, ◌&&◌, List, [], ◌∷◌, ◌++◌, length, Option, Some, None, refl, sym, ap, subst, ◌∙◌, arith, if◌then◌else◌, inl, inr, length-append}
use Rattle.std.specs.Prelude.{◌==◌, ◌⊎◌}
use Rattle.std.proofs.lemmas.Bool.{and_parts, eqb-true, eq-eqb}
use Rattle.std.proofs.lemmas.List.{append-nil, nil_from_length}
use Rattle.ic_base.specs.Reader.{Reader, byte_at, both_at, empty_at, filter_at, filter_map_at, map_at}
use Rattle.ic_base.specs.Spelling.{Spelling, SpellsBoth}
use Rattle.ic_base.specs.Exact.{Exact}
use Rattle.ic_base.proofs.Steps.{some_is}
use Rattle.ic_base.proofs.Exact.{both_exact, byte_exact, empty_exact, exact_of, filter_exact, filter_map_exact, map_exact, reworded, whole_again, whole_takes, one_spelling}
use Rattle.ic_tree.specs.HashTree.{HashTree, empty, fork, labeled, leaf, pruned}
use Rattle.ic_witness.specs.Cbor.{Fits, IsCbor, IsText, tagged, bare, cbor, depth, string}
use Rattle.ic_witness.specs.ReadCbor.{is_hash, kind_at, kind_of, node_at, string_at, text_at, then_at, tree_at, untagged}
use Rattle.ic_witness.specs.declared.reading.Kind.{Kind}
use Rattle.ic_witness.specs.declared.reading.Kind.TheVariants as kinds
use Rattle.ic_witness.proofs.Numbers.{IsString, SpellsThen, string_exact, then_exact}

-- ---- the two bytes with which a node begins

abbrev marks : Kind → List ℕ
marks kinds.Empty = 129 ∷ 0 ∷ []
marks kinds.Fork = 131 ∷ 1 ∷ []
marks kinds.Labeled = 131 ∷ 2 ∷ []
marks kinds.Leaf = 130 ∷ 3 ∷ []
marks kinds.Pruned = 130 ∷ 4 ∷ []

abbrev IsMarked : Spelling Kind
IsMarked kind bytes = bytes ≡ marks kind

-- a kind that both tests found
found : (a b m n : ℕ) (kind other : Kind) → ((a == m) && (b == n)) ≡ true → marks kind ≡ m ∷ n ∷ [] → (k : Option Kind) → k ≡ Some kind → k ≡ Some other → marks other ≡ a ∷ b ∷ []
found a b m n kind other t is k e f =
    let p = and_parts (a == m) (b == n) t in
    let q : a ≡ m = eqb-true a m p.0 in
    let r : b ≡ n = eqb-true b n p.1 in
    let same : kind ≡ other = cc in
    rw (q, r, ← same) is

kind_is : (a b : ℕ) (kind : Kind) → kind_of (a, b) ≡ Some kind → marks kind ≡ a ∷ b ∷ []
kind_is a b kind e = go ((a == 129) && (b == 0)) refl ((a == 131) && (b == 1)) refl ((a == 131) && (b == 2)) refl ((a == 130) && (b == 3)) refl ((a == 130) && (b == 4)) refl e
  where
    go : (p : Bool) → ((a == 129) && (b == 0)) ≡ p → (q : Bool) → ((a == 131) && (b == 1)) ≡ q → (r : Bool) → ((a == 131) && (b == 2)) ≡ r
        → (s : Bool) → ((a == 130) && (b == 3)) ≡ s → (t : Bool) → ((a == 130) && (b == 4)) ≡ t
        → (if p then Some kinds.Empty else (if q then Some kinds.Fork else (if r then Some kinds.Labeled else (if s then Some kinds.Leaf else (if t then Some kinds.Pruned else None))))) ≡ Some kind
        → marks kind ≡ a ∷ b ∷ []
    go true x q y r z s v t w f = found a b 129 0 kinds.Empty kind x refl (Some kinds.Empty) refl f
    go false x true y r z s v t w f = found a b 131 1 kinds.Fork kind y refl (Some kinds.Fork) refl f
    go false x false y true z s v t w f = found a b 131 2 kinds.Labeled kind z refl (Some kinds.Labeled) refl f
    go false x false y false z true v t w f = found a b 130 3 kinds.Leaf kind v refl (Some kinds.Leaf) refl f
    go false x false y false z false v true w f = found a b 130 4 kinds.Pruned kind w refl (Some kinds.Pruned) refl f
    go false x false y false z false v false w f = absurd cc

abbrev IsByte : Spelling ℕ
IsByte b bytes = bytes ≡ b ∷ []

abbrev TwoBytes : Spelling (ℕ × ℕ)
TwoBytes = SpellsBoth IsByte (λ _. IsByte)

has_marks : (kind : Kind) (bytes : List ℕ) → bytes ≡ marks kind → (x : ℕ × ℕ) × (kind_of x ≡ Some kind) × TwoBytes x bytes
has_marks kinds.Empty bytes e = ((129, 0), refl, record { front = 129 ∷ []; rest = 0 ∷ []; whole = e; first = refl; second = refl })
has_marks kinds.Fork bytes e = ((131, 1), refl, record { front = 131 ∷ []; rest = 1 ∷ []; whole = e; first = refl; second = refl })
has_marks kinds.Labeled bytes e = ((131, 2), refl, record { front = 131 ∷ []; rest = 2 ∷ []; whole = e; first = refl; second = refl })
has_marks kinds.Leaf bytes e = ((130, 3), refl, record { front = 130 ∷ []; rest = 3 ∷ []; whole = e; first = refl; second = refl })
has_marks kinds.Pruned bytes e = ((130, 4), refl, record { front = 130 ∷ []; rest = 4 ∷ []; whole = e; first = refl; second = refl })

kind_exact : Exact IsMarked kind_at
unfolding kind_at
kind_exact =
    reworded (λ k bytes. (x : ℕ × ℕ) × (kind_of x ≡ Some k) × TwoBytes x bytes) IsMarked (filter_map_at kind_of (both_at byte_at (λ _. byte_at)))
    has_marks
    (λ k bytes p. p.2.whole ∙ rw (p.2.first, p.2.second) (sym (kind_is p.0.0 p.0.1 k p.1)))
    (filter_map_exact TwoBytes (both_at byte_at (λ _. byte_at)) kind_of (both_exact IsByte (λ _. IsByte) byte_at (λ _. byte_at) byte_exact (λ _. byte_exact)))

-- ---- nodes

-- the two bytes and these are the tree, which nests at most so deep
abbrev IsNode : ℕ → Kind → Spelling HashTree
IsNode most kind tree bytes = IsCbor most tree (marks kind ++ bytes)

node_exact : (most : ℕ) (read : Reader HashTree) → Exact (IsCbor most) read → (kind : Kind) → Exact (IsNode (suc most) kind) (node_at read kind)
unfolding node_at cbor depth Fits
node_exact most read exact kinds.Empty =
    reworded (λ t bs. (empty ≡ t) × (bs ≡ [])) (IsNode (suc most) kinds.Empty) (empty_at empty)
    (λ t bs q. to_empty t bs q)
    (λ t bs p. rw (← p.0, p.1) (record { deep = omega arith; fits = tt; spelled = refl }))
    (empty_exact empty)
  where
    to_empty : (t : HashTree) (bs : List ℕ) → IsNode (suc most) kinds.Empty t bs → (empty ≡ t) × (bs ≡ [])
    to_empty empty bs q = (refl, let e = q.spelled in cc)
    to_empty (fork left right) bs q = absurd (let e = q.spelled in cc)
    to_empty (labeled label part) bs q = absurd (let e = q.spelled in cc)
    to_empty (leaf bytes) bs q = absurd (let e = q.spelled in cc)
    to_empty (pruned hash) bs q = absurd (let e = q.spelled in cc)
node_exact most read exact kinds.Fork =
    reworded (λ t bs. (x : HashTree × HashTree) × (fork x.0 x.1 ≡ t) × SpellsBoth (IsCbor most) (λ _. IsCbor most) x bs) (IsNode (suc most) kinds.Fork)
    (map_at (λ p. fork p.0 p.1) (both_at read (λ _. read)))
    to_fork
    (λ t bs p. rw (← p.1) (record {
      deep = omega (arith, p.2.first.deep, p.2.second.deep);
      fits = (p.2.first.fits, p.2.second.fits);
      spelled = rw (p.2.whole, p.2.first.spelled, p.2.second.spelled) refl;
    }))
    (map_exact (SpellsBoth (IsCbor most) (λ _. IsCbor most)) (both_at read (λ _. read)) (λ p. fork p.0 p.1) (both_exact (IsCbor most) (λ _. IsCbor most) read (λ _. read) exact (λ _. exact)))
  where
    to_fork : (t : HashTree) (bs : List ℕ) → IsNode (suc most) kinds.Fork t bs → (x : HashTree × HashTree) × (fork x.0 x.1 ≡ t) × SpellsBoth (IsCbor most) (λ _. IsCbor most) x bs
    to_fork (fork left right) bs q = (
      (left, right),
      refl,
      record {
        front = cbor left;
        rest = cbor right;
        whole = let e = q.spelled in cc;
        first = record { deep = omega (arith, q.deep); fits = q.fits.0; spelled = refl };
        second = record { deep = omega (arith, q.deep); fits = q.fits.1; spelled = refl };
      },
    )
    to_fork empty bs q = absurd (let e = q.spelled in cc)
    to_fork (labeled label part) bs q = absurd (let e = q.spelled in cc)
    to_fork (leaf bytes) bs q = absurd (let e = q.spelled in cc)
    to_fork (pruned hash) bs q = absurd (let e = q.spelled in cc)
node_exact most read exact kinds.Labeled =
    reworded (λ t bs. (x : List ℕ × HashTree) × (labeled x.0 x.1 ≡ t) × SpellsBoth IsString (λ _. IsCbor most) x bs) (IsNode (suc most) kinds.Labeled)
    (map_at (λ p. labeled p.0 p.1) (both_at string_at (λ _. read)))
    to_labeled
    (λ t bs p. rw (← p.1) (record {
      deep = omega (arith, p.2.second.deep);
      fits = (p.2.first.0, p.2.second.fits);
      spelled = rw (p.2.whole, p.2.first.1, p.2.second.spelled) refl;
    }))
    (map_exact (SpellsBoth IsString (λ _. IsCbor most)) (both_at string_at (λ _. read)) (λ p. labeled p.0 p.1) (both_exact IsString (λ _. IsCbor most) string_at (λ _. read) string_exact (λ _. exact)))
  where
    to_labeled : (t : HashTree) (bs : List ℕ) → IsNode (suc most) kinds.Labeled t bs → (x : List ℕ × HashTree) × (labeled x.0 x.1 ≡ t) × SpellsBoth IsString (λ _. IsCbor most) x bs
    to_labeled (labeled label part) bs q = (
      (label, part),
      refl,
      record {
        front = string label;
        rest = cbor part;
        whole = let e = q.spelled in cc;
        first = (q.fits.0, refl);
        second = record { deep = omega (arith, q.deep); fits = q.fits.1; spelled = refl };
      },
    )
    to_labeled empty bs q = absurd (let e = q.spelled in cc)
    to_labeled (fork left right) bs q = absurd (let e = q.spelled in cc)
    to_labeled (leaf bytes) bs q = absurd (let e = q.spelled in cc)
    to_labeled (pruned hash) bs q = absurd (let e = q.spelled in cc)
node_exact most read exact kinds.Leaf =
    reworded (λ t bs. (x : List ℕ) × (leaf x ≡ t) × IsString x bs) (IsNode (suc most) kinds.Leaf) (map_at leaf string_at)
    to_leaf
    (λ t bs p. rw (← p.1) (record { deep = omega arith; fits = p.2.0; spelled = rw p.2.1 refl }))
    (map_exact IsString string_at leaf string_exact)
  where
    to_leaf : (t : HashTree) (bs : List ℕ) → IsNode (suc most) kinds.Leaf t bs → (x : List ℕ) × (leaf x ≡ t) × IsString x bs
    to_leaf (leaf bytes) bs q = (bytes, refl, (q.fits, let e = q.spelled in cc))
    to_leaf empty bs q = absurd (let e = q.spelled in cc)
    to_leaf (fork left right) bs q = absurd (let e = q.spelled in cc)
    to_leaf (labeled label part) bs q = absurd (let e = q.spelled in cc)
    to_leaf (pruned hash) bs q = absurd (let e = q.spelled in cc)
node_exact most read exact kinds.Pruned =
    reworded (λ t bs. (x : List ℕ) × (pruned x ≡ t) × ((is_hash x ≡ true) × IsString x bs)) (IsNode (suc most) kinds.Pruned) (map_at pruned (filter_at is_hash string_at))
    to_pruned
    (λ t bs p. rw (← p.1) (record { deep = omega arith; fits = eqb-true (length p.0) 32 p.2.0; spelled = rw p.2.1.1 refl }))
    (map_exact (λ x bs. (is_hash x ≡ true) × IsString x bs) (filter_at is_hash string_at) pruned (filter_exact IsString string_at is_hash string_exact))
  where
    to_pruned : (t : HashTree) (bs : List ℕ) → IsNode (suc most) kinds.Pruned t bs → (x : List ℕ) × (pruned x ≡ t) × ((is_hash x ≡ true) × IsString x bs)
    to_pruned (pruned hash) bs q = (hash, refl, (eq-eqb (length hash) 32 q.fits, (omega (arith, q.fits), let e = q.spelled in cc)))
    to_pruned empty bs q = absurd (let e = q.spelled in cc)
    to_pruned (fork left right) bs q = absurd (let e = q.spelled in cc)
    to_pruned (labeled label part) bs q = absurd (let e = q.spelled in cc)
    to_pruned (leaf bytes) bs q = absurd (let e = q.spelled in cc)

-- ---- trees

-- each tree begins with the two bytes of a kind
marked : (tree : HashTree) → (kind : Kind) × (rest : List ℕ) × (cbor tree ≡ marks kind ++ rest)
unfolding cbor
marked empty = (kinds.Empty, [], refl)
marked (fork left right) = (kinds.Fork, cbor left ++ cbor right, refl)
marked (labeled label part) = (kinds.Labeled, string label ++ cbor part, refl)
marked (leaf bytes) = (kinds.Leaf, string bytes, refl)
marked (pruned hash) = (kinds.Pruned, string hash, refl)

pub some_depth : (tree : HashTree) → 1 ≤ depth tree
unfolding depth
some_depth empty = omega arith
some_depth (fork left right) = omega arith
some_depth (labeled label part) = omega arith
some_depth (leaf bytes) = omega arith
some_depth (pruned hash) = omega arith

-- a tree that nests at most so deep is read, and nothing else
pub tree_exact : (most : ℕ) → Exact (IsCbor most) (tree_at most)
unfolding tree_at
tree_exact zero = exact_of (IsCbor 0) (tree_at 0) (λ t front rest p. absurd (omega (arith, some_depth t, p.deep))) (λ bytes z e. absurd cc)
tree_exact (suc most) =
    reworded (SpellsThen IsMarked (IsNode (suc most))) (IsCbor (suc most)) (then_at kind_at (node_at (tree_at most)))
    (λ t bs q. let m = marked t in
    record { value = m.0; front = marks m.0; rest = m.1; whole = q.spelled ∙ m.2; first = refl; second = record { deep = q.deep; fits = q.fits; spelled = sym m.2 } })
    (λ t bs p. record { deep = p.second.deep; fits = p.second.fits; spelled = p.whole ∙ ap (λ (front : List ℕ). front ++ p.rest) p.first ∙ p.second.spelled })
    (then_exact IsMarked (IsNode (suc most)) kind_at (node_at (tree_at most)) kind_exact (node_exact most (tree_at most) (tree_exact most)))

-- ---- texts

untagged_other : (a b : ℕ) (rest : List ℕ) → (a == 217) ≡ false → untagged (a ∷ b ∷ rest) ≡ a ∷ b ∷ rest
untagged_other a b [] n = refl
untagged_other a b (c ∷ rest) n = rw n refl

-- no tree begins as the tag does
not_tagged : (tree : HashTree) (bytes : List ℕ) → bytes ≡ cbor tree → untagged bytes ≡ bytes
not_tagged tree bytes e =
    let m = marked tree in
    rw (e, m.2) (go m.0 m.1)
  where
    go : (kind : Kind) (rest : List ℕ) → untagged (marks kind ++ rest) ≡ marks kind ++ rest
    go kinds.Empty rest = untagged_other 129 0 rest refl
    go kinds.Fork rest = untagged_other 131 1 rest refl
    go kinds.Labeled rest = untagged_other 131 2 rest refl
    go kinds.Leaf rest = untagged_other 130 3 rest refl
    go kinds.Pruned rest = untagged_other 130 4 rest refl

-- what all of a text is, is read
pub text_again : (tree : HashTree) (bytes : List ℕ) → IsText tree bytes → text_at bytes ≡ Some tree
unfolding text_at
text_again tree bytes (tagged {bytes = rest} c) = whole_again (IsCbor 128) (tree_at 128) (tree_exact 128) tree rest c
text_again tree bytes (bare c) = rw (not_tagged tree bytes c.spelled) (whole_again (IsCbor 128) (tree_at 128) (tree_exact 128) tree bytes c)

-- a text with the tag in front, or without
either_way : (bytes : List ℕ) → (untagged bytes ≡ bytes) ⊎ (bytes ≡ 217 ∷ 217 ∷ 247 ∷ untagged bytes)
either_way [] = inl refl
either_way (a ∷ []) = inl refl
either_way (a ∷ b ∷ []) = inl refl
either_way (a ∷ b ∷ c ∷ rest) = go ((a == 217) && ((b == 217) && (c == 247))) refl
  where
    go : (x : Bool) → ((a == 217) && ((b == 217) && (c == 247))) ≡ x
        → ((if x then rest else a ∷ b ∷ c ∷ rest) ≡ a ∷ b ∷ c ∷ rest) ⊎ (a ∷ b ∷ c ∷ rest ≡ 217 ∷ 217 ∷ 247 ∷ (if x then rest else a ∷ b ∷ c ∷ rest))
    go true e =
        let p = and_parts (a == 217) ((b == 217) && (c == 247)) e in
        let q = and_parts (b == 217) (c == 247) p.1 in
        inr (rw (eqb-true a 217 p.0, eqb-true b 217 q.0, eqb-true c 247 q.1) refl)
    go false e = inl refl

-- and what is read is a text
pub text_found : (tree : HashTree) (bytes : List ℕ) → text_at bytes ≡ Some tree → IsText tree bytes
unfolding text_at
text_found tree bytes e = go (either_way bytes)
  where
    c : IsCbor 128 tree (untagged bytes)
    c = whole_takes (IsCbor 128) (tree_at 128) (tree_exact 128) tree (untagged bytes) e

    go : (untagged bytes ≡ bytes) ⊎ (bytes ≡ 217 ∷ 217 ∷ 247 ∷ untagged bytes) → IsText tree bytes
    go (inl same) = bare (subst (IsCbor 128 tree) same c)
    go (inr front) = subst (IsText tree) (sym front) (tagged c)

pub not_none : {read : Option HashTree} (tree : HashTree) → read ≡ None → read ≡ Some tree → ⊥
not_none tree none some = cc

-- what is written is a text
pub written_text : (tree : HashTree) (bytes : List ℕ) → depth tree ≤ 128 → Fits tree → bytes ≡ 217 ∷ 217 ∷ 247 ∷ cbor tree → IsText tree bytes
written_text tree bytes deep fits e = subst (IsText tree) (sym e) (tagged (record { deep = deep; fits = fits; spelled = refl }))

-- no bytes are two trees
pub one_text : (tree other : HashTree) (bytes : List ℕ) → IsText tree bytes → IsText other bytes → tree ≡ other
one_text tree other bytes is are = some_is {A = HashTree} tree other (sym (text_again tree bytes is) ∙ text_again other bytes are)

-- ---- no text begins another

abbrev begins_as_tag : List ℕ → Bool
begins_as_tag (b ∷ bytes) = b == 217
begins_as_tag [] = false

tree_begins : (tree : HashTree) (bytes rest : List ℕ) → bytes ≡ cbor tree → begins_as_tag (bytes ++ rest) ≡ false
tree_begins tree bytes rest e =
    let m = marked tree in
    rw (e, m.2) (go m.0 m.1)
  where
    go : (kind : Kind) (more : List ℕ) → begins_as_tag ((marks kind ++ more) ++ rest) ≡ false
    go kinds.Empty more = refl
    go kinds.Fork more = refl
    go kinds.Labeled more = refl
    go kinds.Leaf more = refl
    go kinds.Pruned more = refl

nothing_more : (tree other : HashTree) (front rest whole : List ℕ) → IsCbor 128 tree front → IsCbor 128 other whole → front ++ rest ≡ whole → rest ≡ []
nothing_more tree other front rest whole is are e =
    let same = (one_spelling (IsCbor 128) (tree_at 128) (tree_exact 128) tree other front rest whole [] is are (e ∙ sym (append-nil whole))).1 in
    nil_from_length rest (omega (arith, ap length e, ap length same, length-append front rest))

-- what is put after a text makes it no text
pub no_longer_text : (tree other : HashTree) (front rest whole : List ℕ) → IsText tree front → IsText other whole → front ++ rest ≡ whole → rest ≡ []
no_longer_text tree other front rest whole (tagged {bytes = a} is) (tagged {bytes = b} are) e =
    let tail : a ++ rest ≡ b = cc in
    nothing_more tree other a rest b is are tail
no_longer_text tree other front rest whole (tagged {bytes = a} is) (bare are) e =
    absurd (let no : begins_as_tag whole ≡ false = ap begins_as_tag (sym (append-nil whole)) ∙ tree_begins other whole [] are.spelled in
    let yes : begins_as_tag whole ≡ true = ap begins_as_tag (sym e) in cc)
no_longer_text tree other front rest whole (bare is) (tagged {bytes = b} are) e =
    absurd (let no : begins_as_tag (front ++ rest) ≡ false = tree_begins tree front rest is.spelled in
    let yes : begins_as_tag (front ++ rest) ≡ true = ap begins_as_tag e in cc)
no_longer_text tree other front rest whole (bare is) (bare are) e = nothing_more tree other front rest whole is are e
