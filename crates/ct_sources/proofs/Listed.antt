-- Names that texts say, one part of a file after the other.
use Rattle.std.proofs.Common.{◌≡◌, ℕ, suc, ◌+◌, ◌<◌, List, [], ◌∷◌, ◌++◌, length, get_or, drop, refl, sym, ap, ◌∙◌, drop-cons, arith}
use Rattle.std.specs.Prelude.{flat_map}
use Rattle.cd_tokens.specs.ReadLabel.{text_of}
use Rattle.ct_sources.specs.Named.{Listing, with_text, with_texts}

pub both : (listing : Listing) (first more : List (List ℕ)) → with_texts listing (first ++ more) ≡ with_texts (with_texts listing first) more
both listing [] more = refl
both listing (written ∷ first) more = both (with_text listing (text_of written)) first more

-- one part more, in a loop
pub goes_on : {A : Type 0} (files : A → List (List ℕ)) (listing next total : Listing) (rest : List A) (x : A) (xs : List A) → rest ≡ x ∷ xs → next ≡ with_texts listing (files x)
    → with_texts listing (flat_map files rest) ≡ total → with_texts next (flat_map files xs) ≡ total
goes_on {A} files listing next total rest x xs split is so_far =
    ap (λ (l : Listing). with_texts l (flat_map files xs)) is
    ∙ sym (both listing (files x) (flat_map files xs))
    ∙ sym (ap (λ (ys : List A). with_texts listing (flat_map files ys)) split)
    ∙ so_far

-- an item, and those after it
pub there : {A : Type 0} (xs : List A) (i : ℕ) (x : A) → i < length xs → x ≡ get_or xs i x → drop i xs ≡ x ∷ drop (i + 1) xs
there xs i x within at = let one : i + 1 ≡ suc i = omega arith in drop-cons xs i x within ∙ rw (one, sym at) refl
