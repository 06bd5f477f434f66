-- A sequence is found again from its words.
use Rattle.std.proofs.Common.{◌≡◌, ◌+◌, ℕ, suc, false, List, [], ◌∷◌, ◌++◌, length, refl, ap, sym, ◌∙◌, append_assoc, append-nil, arith, length-append}
use Rattle.wm_tree.specs.declared.class.Class.{Class}
use Rattle.wm_tree.specs.declared.class.Class.TheVariants.{Opens, Turns, Closes, Fixed, Memory, Access, Special}
use Rattle.wm_tree.specs.declared.instr.Instr.{Instr}
use Rattle.wm_tree.specs.declared.instr.Instr.TheVariants as op
use Rattle.wm_tree.specs.Row.{row_of}
use Rattle.wm_tree.specs.Seq.{Seq, Empty, Plain, BlockOf, LoopOf, IfOf, IfElseOf, flatten, IsProper, is_structural, join, past}
use Rattle.wm_tree.specs.TreeOf.{Parts, parts, parts_of, tree_of, before}

-- an empty sequence at the end changes nothing
pub joined : (t : Seq) → join t Empty ≡ t
joined Empty = refl
joined (Plain i rest) = ap (Plain i) (joined rest)
joined (BlockOf t body rest) = ap (BlockOf t body) (joined rest)
joined (LoopOf t body rest) = ap (LoopOf t body) (joined rest)
joined (IfOf t body rest) = ap (IfOf t body) (joined rest)
joined (IfElseOf t body other rest) = ap (IfElseOf t body other) (joined rest)

-- a plain word goes before the first part
plain_before : (i : Instr) (c : Class) (p : Parts) → is_structural c ≡ false → before i c p ≡ parts (Plain i p.first) p.others
plain_before i (Opens shape t) p e = cc
plain_before i Turns p e = cc
plain_before i Closes p e = cc
plain_before i (Fixed signature) p e = refl
plain_before i (Memory signature) p e = refl
plain_before i (Access signature arg natural) p e = refl
plain_before i Special p e = refl

-- the words of a proper sequence go before the first part
pub parts_of-flatten : (t : Seq) (more : List Instr) → IsProper t
    → parts_of (flatten t ++ more) ≡ parts (join t (parts_of more).first) (parts_of more).others
parts_of-flatten Empty more h = refl
parts_of-flatten (Plain i rest) more h =
    plain_before i (row_of i).class (parts_of (flatten rest ++ more)) h.0
    ∙ ap (λ p. parts (Plain i p.first) p.others) (parts_of-flatten rest more h.1)
parts_of-flatten (BlockOf t body rest) more h =
    rw (append_assoc (flatten body) (op.End ∷ flatten rest) more, parts_of-flatten body (op.End ∷ (flatten rest ++ more)) h.0, joined body, parts_of-flatten rest more h.1)
parts_of-flatten (LoopOf t body rest) more h =
    rw (append_assoc (flatten body) (op.End ∷ flatten rest) more, parts_of-flatten body (op.End ∷ (flatten rest ++ more)) h.0, joined body, parts_of-flatten rest more h.1)
parts_of-flatten (IfOf t body rest) more h =
    rw (append_assoc (flatten body) (op.End ∷ flatten rest) more, parts_of-flatten body (op.End ∷ (flatten rest ++ more)) h.0, joined body, parts_of-flatten rest more h.1)
parts_of-flatten (IfElseOf t body other rest) more h =
    rw (
      append_assoc (flatten body) (op.Else ∷ (flatten other ++ (op.End ∷ flatten rest))) more,
      parts_of-flatten body (op.Else ∷ ((flatten other ++ (op.End ∷ flatten rest)) ++ more)) h.0,
      joined body,
      append_assoc (flatten other) (op.End ∷ flatten rest) more,
      parts_of-flatten other (op.End ∷ (flatten rest ++ more)) h.1,
      joined other,
      parts_of-flatten rest more h.2,
    )

-- the tree of a sequence's words is the sequence
pub tree_of-flatten : (t : Seq) → IsProper t → tree_of (flatten t) ≡ t
tree_of-flatten t h = ap tree_of (sym (append-nil (flatten t))) ∙ ap (λ p. p.first) (parts_of-flatten t [] h) ∙ joined t

-- the place after a sequence is as many places on as it has words
pub past_is : (t : Seq) (p : ℕ) → past t p ≡ length (flatten t) + p
past_is Empty p = omega arith
past_is (Plain i rest) p = past_is rest (suc p) ∙ omega arith
past_is (BlockOf t body rest) p =
    omega (arith, past_is rest (suc (past body (suc p))), past_is body (suc p), length-append (flatten body) (op.End ∷ flatten rest))
past_is (LoopOf t body rest) p =
    omega (arith, past_is rest (suc (past body (suc p))), past_is body (suc p), length-append (flatten body) (op.End ∷ flatten rest))
past_is (IfOf t body rest) p =
    omega (arith, past_is rest (suc (past body (suc p))), past_is body (suc p), length-append (flatten body) (op.End ∷ flatten rest))
past_is (IfElseOf t body other rest) p =
    omega (
      arith,
      past_is rest (suc (past other (suc (past body (suc p))))),
      past_is other (suc (past body (suc p))),
      past_is body (suc p),
      length-append (flatten body) (op.Else ∷ (flatten other ++ (op.End ∷ flatten rest))),
      length-append (flatten other) (op.End ∷ flatten rest),
    )
