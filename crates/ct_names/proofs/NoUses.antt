-- Where a word is no use of a name.
use Rattle.std.proofs.Common.{◌≡◌, ℕ, Bool, true, false, List, ◌∷◌, refl}
use Rattle.std.specs.Prelude.{codes, ◌&&◌, not}
use Rattle.cd_tokens.specs.Token.{Token, run, quoted, mark, arrow}
use Rattle.cd_tokens.specs.Label.{is_name}
use Rattle.cd_tokens.specs.Marks.{dot, colon, equals, open_brace}
use Rattle.ct_names.specs.Words.{is_candid_word}
use Rattle.ct_names.specs.declared.role.Before.{Before}
use Rattle.ct_names.specs.declared.role.Before.TheVariants.{Value, Variant, Case, Member, Let, Reference}
use Rattle.ct_names.specs.Roles.{admits_value, may_begin, role, after, word_role}
use Rattle.ct_names.specs.Exchange.{count}

none_before : (b : Before) → (admits_value b && false) ≡ false
none_before Value = refl
none_before Variant = refl
none_before Case = refl
none_before Member = refl
none_before Let = refl
none_before Reference = refl

-- a token with which no value may begin
no_word : (b : Before) (t : Token) (rest : List Token) → may_begin b rest ≡ false → count (word_role b t rest) ≡ 0
no_word b (run r) rest none = rw none refl
no_word b (quoted s) rest none = refl
no_word b (mark m) rest none = refl
no_word b arrow rest none = refl

no_role : (b : Before) (t : Token) (rest : List Token) → may_begin b rest ≡ false → count (role b t rest) ≡ 0
no_role Value t rest none = no_word Value t rest none
no_role Variant t rest none = no_word Variant t rest none
no_role Case t rest none = no_word Case t rest none
no_role Member t rest none = no_word Member t rest none
no_role Let t rest none = refl
no_role Reference t rest none = no_word Reference t rest none

pub no_label : (b : Before) (t : Token) (rest : List Token) → count (role b t (equals ∷ rest)) ≡ 0
no_label b t rest = no_role b t (equals ∷ rest) (none_before b)

pub no_member : (t : Token) (rest : List Token) → count (role Member t rest) ≡ 0
no_member t rest = no_role Member t rest refl

pub no_method : (b : Before) (t : Token) (rest : List Token) → count (role (after b dot (t ∷ rest)) t rest) ≡ 0
no_method Value t rest = no_member t rest
no_method Variant t rest = no_member t rest
no_method Case t rest = no_member t rest
no_method Member t rest = no_member t rest
no_method Let t rest = no_member t rest
no_method Reference t rest = no_member t rest

pub no_type : (b : Before) (t : Token) (rest : List Token) → count (role (after b colon (t ∷ rest)) t rest) ≡ 0
no_type Value t rest = no_member t rest
no_type Variant t rest = no_member t rest
no_type Case t rest = no_member t rest
no_type Member t rest = no_member t rest
no_type Let t rest = no_member t rest
no_type Reference t rest = no_member t rest

pub no_case : (b : Before) (t : Token) (rest : List Token) → may_begin b (open_brace ∷ t ∷ rest) ≡ true → count (role (after (after b (run (codes "variant")) (open_brace ∷ t ∷ rest)) open_brace (t ∷ rest)) t rest) ≡ 0
no_case b t rest begins = rw begins (no_role Case t rest refl)

free : (a b : Bool) (word : List ℕ) → b ≡ true → (a && (is_name word && not b)) ≡ false
free true b word e = rw e (none (is_name word))
  where
    none : (c : Bool) → (c && false) ≡ false
    none true = refl
    none false = refl
free false b word e = refl

no_candid_word : (b : Before) (word : List ℕ) (rest : List Token) → is_candid_word word ≡ true → count (word_role b (run word) rest) ≡ 0
no_candid_word b word rest candid = rw (free (may_begin b rest) (is_candid_word word) word candid) refl

pub no_candid : (b : Before) (word : List ℕ) (rest : List Token) → is_candid_word word ≡ true → count (role b (run word) rest) ≡ 0
no_candid Value word rest candid = no_candid_word Value word rest candid
no_candid Variant word rest candid = no_candid_word Variant word rest candid
no_candid Case word rest candid = no_candid_word Case word rest candid
no_candid Member word rest candid = no_candid_word Member word rest candid
no_candid Let word rest candid = refl
no_candid Reference word rest candid = no_candid_word Reference word rest candid
