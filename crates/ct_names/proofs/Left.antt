-- Names that stand for themselves are left.
use Rattle.std.proofs.Common.{◌≡◌, ℕ, Bool, true, false, List, [], ◌∷◌, refl, inl, inr}
use Rattle.std.specs.Prelude.{codes, ◌&&◌, ◌||◌}
use Rattle.cd_tokens.specs.Token.{Token, run, quoted, mark, arrow}
use Rattle.cd_tokens.specs.Front.{is_word}
use Rattle.cd_tokens.proofs.Fronts.{true_or_false}
use Rattle.ct_names.specs.Words.{is_free_name}
use Rattle.ct_names.specs.declared.role.Before.{Before}
use Rattle.ct_names.specs.declared.role.Before.TheVariants.{Value, Variant, Case, Member, Let, Reference}
use Rattle.ct_names.specs.Roles.{may_begin, after, role, word_role, is_reference}
use Rattle.ct_names.specs.Exchange.{name_in, written, replacement, exchanged_from}

both_false : (b : Bool) → (b && false) ≡ false
both_false true = refl
both_false false = refl

alone : (is_alone : Bool) (name : List ℕ) → written is_alone (run name ∷ []) ≡ run name ∷ []
alone false name = refl
alone true name = rw (both_false (is_word (codes "principal") (run name) || is_word (codes "service") (run name))) refl

word_left : (before : Before) (t : Token) (rest : List Token) → replacement (word_role before t rest) (run (name_in t) ∷ []) t ≡ t ∷ []
word_left before (run r) rest = elim (true_or_false (may_begin before rest && is_free_name r)) [
  | inl used ↦ rw used (alone (is_reference before) r)
  | inr other ↦ rw other refl
]
word_left before (quoted s) rest = refl
word_left before (mark m) rest = refl
word_left before arrow rest = refl

one_left : (before : Before) (t : Token) (rest : List Token) → replacement (role before t rest) (run (name_in t) ∷ []) t ≡ t ∷ []
one_left Value t rest = word_left Value t rest
one_left Variant t rest = word_left Variant t rest
one_left Case t rest = word_left Case t rest
one_left Member t rest = word_left Member t rest
one_left Let t rest = refl
one_left Reference t rest = word_left Reference t rest

pub left : (before : Before) (tokens : List Token) → exchanged_from (λ name. run name ∷ []) before tokens ≡ tokens
left before [] = refl
left before (t ∷ rest) = rw (one_left before t rest, left (after before t rest) rest) refl
