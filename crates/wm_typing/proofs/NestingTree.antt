-- Counting the blocks that are open finds how deep they nest.
use Rattle.std.proofs.Common.{◌≡◌, ℕ, suc, ◌+◌, ◌-◌, ◌<◌, ◌≤◌, Bool, true, false, cond, List, [], ◌∷◌, ◌++◌, length, drop, get_or, refl, sym, ap, ◌∙◌, append_assoc, append-nil, arith}
use Rattle.std.specs.Prelude.{nat_eq, max, Option}
use Rattle.std.proofs.lemmas.List.{drop_more}
use Rattle.wm_tree.proofs.Trees.{tree_of-flatten}
use Rattle.wm_tree.specs.TreeOf.{tree_of}
use Rattle.wm_tree.specs.declared.types.ValType.{ValType}
use Rattle.wm_tree.specs.declared.class.Shape.{Shape}
use Rattle.wm_tree.specs.declared.class.Class.{Class}
use Rattle.wm_tree.specs.declared.class.Class.TheVariants.{Opens, Turns, Closes, Fixed, Memory, Access, Special}
use Rattle.wm_tree.specs.declared.instr.Instr.{Instr}
use Rattle.wm_tree.specs.declared.instr.Instr.TheVariants as op
use Rattle.wm_tree.specs.Row.{row_of}
use Rattle.wm_tree.specs.Seq.{Seq, Empty, Plain, BlockOf, LoopOf, IfOf, IfElseOf, flatten, IsProper, IsFlat, is_structural}
use Rattle.wm_typing.specs.Nesting.{nesting}
use Rattle.std.proofs.lemmas.Bool.Decides.{nat_tests}

-- where that many blocks are open before a word, whether no block opens too many, and then on
abbrev pub goes_within : ℕ → ℕ → Class → (ℕ → Bool) → Bool
goes_within most now (Opens s t) rest = cond (nat_eq now most) false (rest (now + 1))
goes_within most now Closes rest = rest (now - 1)
goes_within most now _ rest = rest now

abbrev pub within : ℕ → ℕ → List Instr → Bool
within most now [] = true
within most now (i ∷ words) = goes_within most now (row_of i).class (λ n. within most n words)

plain_within : (most now : ℕ) (c : Class) (rest : ℕ → Bool) → is_structural c ≡ false → goes_within most now c rest ≡ rest now
plain_within most now (Opens s t) rest e = cc
plain_within most now Turns rest e = cc
plain_within most now Closes rest e = cc
plain_within most now (Fixed s) rest e = refl
plain_within most now (Memory s) rest e = refl
plain_within most now (Access s arg natural) rest e = refl
plain_within most now Special rest e = refl

-- one more block may open, and then the rest holds
opens_to : (now most : ℕ) (b : Bool) → now ≤ most → cond (nat_eq now most) false b ≡ true → (suc now ≤ most) × (b ≡ true)
opens_to now most b low e = grind (arith, nat_tests)

opens_from : (now most : ℕ) (b : Bool) → suc now ≤ most → b ≡ true → cond (nat_eq now most) false b ≡ true
opens_from now most b low e = grind (arith, nat_tests)

back : (f : ℕ → Bool) (now : ℕ) → f (now + 1 - 1) ≡ f now
back f now = let e : now + 1 - 1 ≡ now = omega arith in rw e refl

-- the blocks of a body, and those after it
nested : (now most inner rest : ℕ) → now + 1 + inner ≤ most → now + rest ≤ most → now + max (suc inner) rest ≤ most
nested now most inner rest deep wide = omega arith

inside : (now most inner rest : ℕ) → now + max (suc inner) rest ≤ most → (suc now ≤ most) × (now + 1 + inner ≤ most) × (now + rest ≤ most)
inside now most inner rest deep = (omega arith, omega arith, omega arith)

-- where counting finds no block too many, the sequence nests so deep at most
pub deep_to : (t : Seq) (more : List Instr) (most now : ℕ) → IsProper t → now ≤ most → within most now (flatten t ++ more) ≡ true
    → (now + nesting t ≤ most) × (within most now more ≡ true)
deep_to Empty more most now h low e = (omega arith, e)
deep_to (Plain i rest) more most now h low e =
    deep_to rest more most now h.1 low (sym (plain_within most now (row_of i).class (λ n. within most n (flatten rest ++ more)) h.0) ∙ e)
deep_to (BlockOf t body rest) more most now h low e =
    let a = opens_to now most (within most (now + 1) (flatten body ++ (op.End ∷ (flatten rest ++ more)))) low (rw (append_assoc (flatten body) (op.End ∷ flatten rest) more) at e) in
    let b = deep_to body (op.End ∷ (flatten rest ++ more)) most (now + 1) h.0 (omega (arith, a.0)) a.1 in
    let c = deep_to rest more most now h.1 low (sym (back (λ n. within most n (flatten rest ++ more)) now) ∙ b.1) in
    (nested now most (nesting body) (nesting rest) b.0 c.0, c.1)
deep_to (LoopOf t body rest) more most now h low e =
    let a = opens_to now most (within most (now + 1) (flatten body ++ (op.End ∷ (flatten rest ++ more)))) low (rw (append_assoc (flatten body) (op.End ∷ flatten rest) more) at e) in
    let b = deep_to body (op.End ∷ (flatten rest ++ more)) most (now + 1) h.0 (omega (arith, a.0)) a.1 in
    let c = deep_to rest more most now h.1 low (sym (back (λ n. within most n (flatten rest ++ more)) now) ∙ b.1) in
    (nested now most (nesting body) (nesting rest) b.0 c.0, c.1)
deep_to (IfOf t body rest) more most now h low e =
    let a = opens_to now most (within most (now + 1) (flatten body ++ (op.End ∷ (flatten rest ++ more)))) low (rw (append_assoc (flatten body) (op.End ∷ flatten rest) more) at e) in
    let b = deep_to body (op.End ∷ (flatten rest ++ more)) most (now + 1) h.0 (omega (arith, a.0)) a.1 in
    let c = deep_to rest more most now h.1 low (sym (back (λ n. within most n (flatten rest ++ more)) now) ∙ b.1) in
    (nested now most (nesting body) (nesting rest) b.0 c.0, c.1)
deep_to (IfElseOf t body other rest) more most now h low e =
    let words : List Instr = flatten other ++ (op.End ∷ (flatten rest ++ more)) in
    let a = opens_to now most (within most (now + 1) (flatten body ++ (op.Else ∷ words))) low (rw (append_assoc (flatten body) (op.Else ∷ (flatten other ++ (op.End ∷ flatten rest))) more, append_assoc (flatten other) (op.End ∷ flatten rest) more) at e) in
    let b = deep_to body (op.Else ∷ words) most (now + 1) h.0 (omega (arith, a.0)) a.1 in
    let d = deep_to other (op.End ∷ (flatten rest ++ more)) most (now + 1) h.1 (omega (arith, a.0)) b.1 in
    let c = deep_to rest more most now h.2 low (sym (back (λ n. within most n (flatten rest ++ more)) now) ∙ d.1) in
    (nested now most (max (nesting body) (nesting other)) (nesting rest) (omega (arith, b.0, d.0)) c.0, c.1)

-- and where the sequence nests no deeper, counting finds no block too many
pub deep_from : (t : Seq) (more : List Instr) (most now : ℕ) → IsProper t → now + nesting t ≤ most → within most now more ≡ true → within most now (flatten t ++ more) ≡ true
deep_from Empty more most now h deep e = e
deep_from (Plain i rest) more most now h deep e =
    plain_within most now (row_of i).class (λ n. within most n (flatten rest ++ more)) h.0 ∙ deep_from rest more most now h.1 deep e
deep_from (BlockOf t body rest) more most now h deep e =
    let a = inside now most (nesting body) (nesting rest) deep in
    let c = deep_from rest more most now h.1 a.2 e in
    let b = deep_from body (op.End ∷ (flatten rest ++ more)) most (now + 1) h.0 a.1 (back (λ n. within most n (flatten rest ++ more)) now ∙ c) in
    rw (append_assoc (flatten body) (op.End ∷ flatten rest) more) (opens_from now most (within most (now + 1) (flatten body ++ (op.End ∷ (flatten rest ++ more)))) a.0 b)
deep_from (LoopOf t body rest) more most now h deep e =
    let a = inside now most (nesting body) (nesting rest) deep in
    let c = deep_from rest more most now h.1 a.2 e in
    let b = deep_from body (op.End ∷ (flatten rest ++ more)) most (now + 1) h.0 a.1 (back (λ n. within most n (flatten rest ++ more)) now ∙ c) in
    rw (append_assoc (flatten body) (op.End ∷ flatten rest) more) (opens_from now most (within most (now + 1) (flatten body ++ (op.End ∷ (flatten rest ++ more)))) a.0 b)
deep_from (IfOf t body rest) more most now h deep e =
    let a = inside now most (nesting body) (nesting rest) deep in
    let c = deep_from rest more most now h.1 a.2 e in
    let b = deep_from body (op.End ∷ (flatten rest ++ more)) most (now + 1) h.0 a.1 (back (λ n. within most n (flatten rest ++ more)) now ∙ c) in
    rw (append_assoc (flatten body) (op.End ∷ flatten rest) more) (opens_from now most (within most (now + 1) (flatten body ++ (op.End ∷ (flatten rest ++ more)))) a.0 b)
deep_from (IfElseOf t body other rest) more most now h deep e =
    let words : List Instr = flatten other ++ (op.End ∷ (flatten rest ++ more)) in
    let a = inside now most (max (nesting body) (nesting other)) (nesting rest) deep in
    let c = deep_from rest more most now h.2 a.2 e in
    let d = deep_from other (op.End ∷ (flatten rest ++ more)) most (now + 1) h.1 (omega (arith, a.1)) (back (λ n. within most n (flatten rest ++ more)) now ∙ c) in
    let b = deep_from body (op.Else ∷ words) most (now + 1) h.0 (omega (arith, a.1)) d in
    rw (append_assoc (flatten body) (op.Else ∷ (flatten other ++ (op.End ∷ flatten rest))) more, append_assoc (flatten other) (op.End ∷ flatten rest) more)
    (opens_from now most (within most (now + 1) (flatten body ++ (op.Else ∷ words))) a.0 b)

-- ---- a body

-- a block that would be one too many
pub too_deep : (words : List Instr) (most now place : ℕ) (i : Instr) (s : Shape) (t : Option ValType) → place < length words → i ≡ get_or words place i
    → Opens s t ≡ (row_of i).class → now ≡ most → within most now (drop place words) ≡ false
too_deep words most now place i s t low here class full =
    let cut : drop place words ≡ i ∷ drop (place + 1) words = drop_more words place i low ∙ ap (λ (w : Instr). w ∷ drop (place + 1) words) (sym here) in
    let same : nat_eq now most ≡ true = grind (arith, nat_tests) in
    ap (within most now) cut ∙ ap (λ (c : Class). goes_within most now c (λ n. within most n (drop (place + 1) words))) (sym class) ∙ (rw same refl)

pub nests_to : (words : List Instr) (most : ℕ) → IsFlat words → within most 0 words ≡ true → nesting (tree_of words) ≤ most
nests_to words most h e =
    let same : tree_of words ≡ h.tree = ap tree_of h.whole ∙ tree_of-flatten h.tree h.proper in
    let all : within most 0 (flatten h.tree ++ []) ≡ true = ap (within most 0) (append-nil (flatten h.tree) ∙ sym h.whole) ∙ e in
    let deep : 0 + nesting h.tree ≤ most = (deep_to h.tree [] most 0 h.proper (omega arith) all).0 in
    let is : nesting (tree_of words) ≡ nesting h.tree = ap nesting same in
    omega (arith, deep, is)

pub nests_from : (words : List Instr) (most : ℕ) → IsFlat words → within most 0 words ≡ false → nesting (tree_of words) ≤ most → ⊥
nests_from words most h e low =
    let same : nesting (tree_of words) ≡ nesting h.tree = ap nesting (ap tree_of h.whole ∙ tree_of-flatten h.tree h.proper) in
    let deep : 0 + nesting h.tree ≤ most = omega (arith, low, same) in
    let all : within most 0 words ≡ true = ap (within most 0) (h.whole ∙ sym (append-nil (flatten h.tree))) ∙ deep_from h.tree [] most 0 h.proper deep refl in
    cc
