-- Words that are those of their tree.
use Rattle.std.proofs.Common.{◌≡◌, Bool, true, false, ◌&&◌, List, refl}
use Rattle.std.specs.Prelude.{not}
use Rattle.wm_tree.specs.declared.instr.Instr.{Instr}
use Rattle.wm_tree.specs.Row.{row_of}
use Rattle.wm_tree.specs.Seq.{Seq, Empty, Plain, BlockOf, LoopOf, IfOf, IfElseOf, flatten, IsProper, IsFlat, is_structural}
use Rattle.wm_tree.specs.TreeOf.{tree_of}

abbrev pub is_proper : Seq → Bool
is_proper Empty = true
is_proper (Plain i rest) = not (is_structural (row_of i).class) && is_proper rest
is_proper (BlockOf t body rest) = is_proper body && is_proper rest
is_proper (LoopOf t body rest) = is_proper body && is_proper rest
is_proper (IfOf t body rest) = is_proper body && is_proper rest
is_proper (IfElseOf t body other rest) = is_proper body && (is_proper other && is_proper rest)

both : (a b : Bool) → (a && b) ≡ true → (a ≡ true) × (b ≡ true)
both true b e = (refl, e)
both false b e = absurd cc

negated : (b : Bool) → not b ≡ true → b ≡ false
negated true e = absurd cc
negated false e = refl

proper_of : (t : Seq) → is_proper t ≡ true → IsProper t
proper_of Empty e = tt
proper_of (Plain i rest) e = let x = both (not (is_structural (row_of i).class)) (is_proper rest) e in (negated (is_structural (row_of i).class) x.0, proper_of rest x.1)
proper_of (BlockOf t body rest) e = let x = both (is_proper body) (is_proper rest) e in (proper_of body x.0, proper_of rest x.1)
proper_of (LoopOf t body rest) e = let x = both (is_proper body) (is_proper rest) e in (proper_of body x.0, proper_of rest x.1)
proper_of (IfOf t body rest) e = let x = both (is_proper body) (is_proper rest) e in (proper_of body x.0, proper_of rest x.1)
proper_of (IfElseOf t body other rest) e =
    let x = both (is_proper body) (is_proper other && is_proper rest) e in
    let y = both (is_proper other) (is_proper rest) x.1 in
    (proper_of body x.0, proper_of other y.0, proper_of rest y.1)

pub flat_of : (words : List Instr) → words ≡ flatten (tree_of words) → is_proper (tree_of words) ≡ true → IsFlat words
flat_of words whole proper = record { tree = tree_of words; proper = proper_of (tree_of words) proper; whole = whole }
