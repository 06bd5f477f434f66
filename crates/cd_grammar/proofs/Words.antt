-- Words and names of interface files are read exactly.
use Rattle.std.proofs.Common.{◌≡◌, ℕ, Bool, true, false, List, [], ◌∷◌, drop, Option, Some, None, refl, ap, subst, inl, inr, ◌⊎◌, arith}
use Rattle.std.specs.Prelude.{◌==◌, bytes_eq, find, is_some}
use Rattle.std.proofs.lemmas.Slice.Eq.{bytes_eq-Decides}
use Rattle.ic_base.proofs.Steps.{bind_some, some_is}
use Rattle.cd_types.specs.declared.primitive.Primitive.TheVariants as primitives
use Rattle.cd_tokens.specs.Token.{Token, run, quoted, mark, arrow}
use Rattle.cd_tokens.specs.Label.{is_name}
use Rattle.cd_tokens.specs.ReadString.{unescaped_of}
use Rattle.cd_tokens.specs.Unescaped.{Unescaped}
use Rattle.cd_tokens.proofs.Strings.{unescaped_again, unescaped_takes}
use Rattle.cd_tokens.proofs.Fronts.{true_or_false}
use Rattle.cd_tokens.proofs.Starts.{is_equal}
use Rattle.cd_grammar.specs.declared.word.Word.{Word}
use Rattle.cd_grammar.specs.declared.word.Word.TheVariants.{Prim, Float32, Float64, Blob, Opt, Seq, Rec, Var, Func, Service, Definition, Query, Oneway, CompositeQuery}
use Rattle.cd_grammar.specs.Words.{spelling, words, word_of, word, IsFreeName, note_of}
use Rattle.cd_grammar.specs.Grammar.{IsArgumentName}
use Rattle.cd_grammar.specs.Read.{is_mark, is_arrow, starts, token_word, unless_word, free_name, is_argument_name, is_any_word, token_note}

arrow_is : (t : Token) → is_arrow t ≡ true → t ≡ arrow
arrow_is (run r) e = absurd cc
arrow_is (quoted s) e = absurd cc
arrow_is (mark m) e = absurd cc
arrow_is arrow e = refl

pub arrow_started : (tokens : List Token) → starts is_arrow tokens ≡ true → tokens ≡ arrow ∷ drop 1 tokens
arrow_started [] e = absurd cc
arrow_started (t ∷ rest) e = ap (λ (x : Token). x ∷ rest) (arrow_is t e)

-- each word is found by its spelling
pub word_again : (w : Word) → word_of (spelling w) ≡ Some w
unfolding word_of spelling
word_again (Prim primitives.Null) = refl
word_again (Prim primitives.Bool) = refl
word_again (Prim primitives.Nat) = refl
word_again (Prim primitives.Int) = refl
word_again (Prim primitives.Nat8) = refl
word_again (Prim primitives.Nat16) = refl
word_again (Prim primitives.Nat32) = refl
word_again (Prim primitives.Nat64) = refl
word_again (Prim primitives.Int8) = refl
word_again (Prim primitives.Int16) = refl
word_again (Prim primitives.Int32) = refl
word_again (Prim primitives.Int64) = refl
word_again (Prim primitives.Text) = refl
word_again (Prim primitives.Reserved) = refl
word_again (Prim primitives.Empty) = refl
word_again (Prim primitives.Principal) = refl
word_again Float32 = refl
word_again Float64 = refl
word_again Blob = refl
word_again Opt = refl
word_again Seq = refl
word_again Rec = refl
word_again Var = refl
word_again Func = refl
word_again Service = refl
word_again Definition = refl
word_again Query = refl
word_again Oneway = refl
word_again CompositeQuery = refl

-- what is found passes the test
pub found_passes : {A : Type 0} (test : A → Bool) (xs : List A) (x : A) → find test xs ≡ Some x → test x ≡ true
found_passes test [] x e = absurd cc
found_passes {A} test (y ∷ ys) x e = elim (true_or_false (test y)) [
  | inl holds ↦ let f : Some y ≡ Some x = rw holds at e in subst (λ z. test z ≡ true) (some_is {A = A} y x f) holds
  | inr fails ↦ let f : find test ys ≡ Some x = rw fails at e in found_passes test ys x f
]

-- and so is only it
pub word_takes : (bytes : List ℕ) (w : Word) → word_of bytes ≡ Some w → bytes ≡ spelling w
unfolding word_of
word_takes bytes w e = (bytes_eq-Decides bytes (spelling w)).0 (found_passes (λ v. bytes_eq bytes (spelling v)) words w e)

pub token_takes : (t : Token) (w : Word) → token_word t ≡ Some w → t ≡ word w
token_takes (run r) w e = ap run (word_takes r w e)
token_takes (quoted s) w e = absurd cc
token_takes (mark m) w e = absurd cc
token_takes arrow w e = absurd cc

unless_takes : (r name : List ℕ) (found : Option Word) → unless_word r found ≡ Some name → (r ≡ name) × (found ≡ None)
unless_takes r name None e = (some_is {A = List ℕ} r name e, refl)
unless_takes r name (Some w) e = absurd cc

string_says : (s : List ℕ) (found : Option (List ℕ)) → unescaped_of s ≡ found → is_some found ≡ true → (said : List ℕ) × Unescaped said s
string_says s None is e = absurd cc
string_says s (Some said) is e = (said, unescaped_takes said s is)

pub free_takes : (t : Token) (name : List ℕ) → free_name t ≡ Some name → (t ≡ run name) × IsFreeName name
free_takes (run r) name e = elim (true_or_false (is_name r)) [
  | inl holds ↦
      let f : unless_word r (word_of r) ≡ Some name = rw holds at e in
      let u = unless_takes r name (word_of r) f in
      (ap run u.0, (subst (λ n. is_name n ≡ true) u.0 holds, subst (λ n. word_of n ≡ None) u.0 u.1))
  | inr fails ↦ let f : None ≡ Some name = rw fails at e in absurd cc
]
free_takes (quoted s) name e = absurd cc
free_takes (mark m) name e = absurd cc
free_takes arrow name e = absurd cc

pub free_again : (name : List ℕ) → IsFreeName name → free_name (run name) ≡ Some name
free_again name free = rw (free.0, free.1) refl

-- what has no meaning
pub argument_name_takes : (t : Token) → is_argument_name t ≡ true → IsArgumentName t
argument_name_takes (run r) e = e
argument_name_takes (quoted s) e = string_says s (unescaped_of s) refl e
argument_name_takes (mark m) e = absurd cc
argument_name_takes arrow e = absurd cc

pub argument_name_again : (t : Token) → IsArgumentName t → is_argument_name t ≡ true
argument_name_again (run r) name = name
argument_name_again (quoted s) says = rw (unescaped_again says.0 s says.1) refl
argument_name_again (mark m) none = absurd none
argument_name_again arrow none = absurd none

pub argument_no_mark : (t : Token) (k : ℕ) → IsArgumentName t → is_mark k t ≡ false
argument_no_mark (run r) k name = refl
argument_no_mark (quoted s) k says = refl
argument_no_mark (mark m) k none = absurd none
argument_no_mark arrow k none = absurd none

pub any_word_takes : (t : Token) → is_any_word t ≡ true → (r : List ℕ) × (t ≡ run r) × (is_name r ≡ true)
any_word_takes (run r) e = (r, refl, e)
any_word_takes (quoted s) e = absurd cc
any_word_takes (mark m) e = absurd cc
any_word_takes arrow e = absurd cc

-- a free name is no annotation
pub name_no_word : (name : List ℕ) → IsFreeName name → token_word (run name) ≡ None
name_no_word name free = free.1

pub note_again : (w : Word) (note : ℕ) → note_of w ≡ Some note → token_note (word w) ≡ Some note
note_again w note e = rw (word_again w) e

pub note_takes : (t : Token) (note : ℕ) → token_note t ≡ Some note → (w : Word) × (t ≡ word w) × (note_of w ≡ Some note)
note_takes t note e =
    let a = bind_some (token_word t) note_of note e in
    (a.0, token_takes t a.0 a.1, a.2)
