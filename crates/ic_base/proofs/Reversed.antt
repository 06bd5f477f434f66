-- A list from its end.
use Rattle.std.proofs.Common.{◌≡◌, ℕ, ◌-◌, List, ◌++◌, length, take, drop, sym, ap, ◌∙◌}
use Rattle.std.specs.Prelude.{reverse}
use Rattle.std.proofs.lemmas.List.{reverse-append, length-reverse, take-append-drop, length-drop, drop_at}

-- what lies before a place is, from the end, what lies after as many as come after it
pub reverse-take : {A : Type 0} (n : ℕ) (xs : List A) → reverse (take n xs) ≡ drop (length (reverse xs) - n) (reverse xs)
reverse-take n xs =
    let parts : reverse xs ≡ reverse (drop n xs) ++ reverse (take n xs) = ap reverse (sym (take-append-drop n xs)) ∙ reverse-append (take n xs) (drop n xs) in
    let after : length (reverse (drop n xs)) ≡ length (reverse xs) - n = simp (length-reverse, length-drop) in
    sym (ap (drop (length (reverse xs) - n)) parts ∙ drop_at (reverse (drop n xs)) (reverse (take n xs)) (length (reverse xs) - n) after)
