-- What holds of a list holds of its parts, and the other way round.
use Rattle.std.proofs.Common.{List, [], ◌∷◌, ◌++◌}
use Rattle.std.specs.List.{AllByRecursion, AllZip}

pub each-part : {X : Type 0} (P : X → Type 0) (xs ys : List X) → AllByRecursion P (xs ++ ys) → AllByRecursion P xs × AllByRecursion P ys
each-part P [] ys all = (tt, all)
each-part P (x ∷ xs) ys all = let rest = each-part P xs ys all.1 in ((all.0, rest.0), rest.1)

pub zip-parts : {X Y : Type 0} (R : X → Y → Type 0) (xs ys : List X) (us vs : List Y) → AllZip R xs us → AllZip R ys vs → AllZip R (xs ++ ys) (us ++ vs)
zip-parts R [] ys [] vs front back = back
zip-parts R [] ys (u ∷ us) vs front back = absurd front
zip-parts R (x ∷ xs) ys [] vs front back = absurd front
zip-parts R (x ∷ xs) ys (u ∷ us) vs front back = (front.0, zip-parts R xs ys us vs front.1 back)
