-- Which token comes first.
use Rattle.std.proofs.Common.{◌≡◌, ℕ, true, List, [], ◌∷◌, ◌++◌, drop, sym, ap, ◌∙◌, append_assoc, arith}
use Rattle.std.specs.Prelude.{◌==◌}
use Rattle.cd_tokens.specs.Token.{Token, run, quoted, mark, arrow}
use Rattle.cd_tokens.specs.Front.{is_mark, starts}

pub is_equal : (a b : ℕ) → (a == b) ≡ true → a ≡ b
is_equal a b e = grind arith

pub same_mark : (k : ℕ) → (k == k) ≡ true
same_mark k = grind arith

mark_is : (k : ℕ) (t : Token) → is_mark k t ≡ true → t ≡ mark k
mark_is k (run r) e = absurd cc
mark_is k (quoted s) e = absurd cc
mark_is k (mark m) e = ap mark (is_equal m k e)
mark_is k arrow e = absurd cc

pub started : (k : ℕ) (tokens : List Token) → starts (is_mark k) tokens ≡ true → tokens ≡ mark k ∷ drop 1 tokens
started k [] e = absurd cc
started k (t ∷ rest) e = ap (λ (x : Token). x ∷ rest) (mark_is k t e)

-- tokens whose rest begins so
pub with_tail : (front middle tail tokens rest : List Token) → tokens ≡ front ++ rest → rest ≡ middle ++ tail → tokens ≡ (front ++ middle) ++ tail
with_tail front middle tail tokens rest e f = e ∙ ap (λ ts. front ++ ts) f ∙ sym (append_assoc front middle tail)
