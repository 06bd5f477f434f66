-- What the tokens of arguments are to names: a word is a use of a name where a value may be.
use Rattle.std.specs.Prelude.{ℕ, Bool, true, false, ◌==◌, ◌&&◌, ◌||◌, not, bytes_eq, if◌then◌else◌, List, [], ◌∷◌, codes}
use Rattle.cd_tokens.specs.Token.{Token, run, quoted, mark, arrow}
use Rattle.cd_tokens.specs.Front.{is_mark, starts}
use Rattle.ct_names.specs.Words.{is_free_name}
use Rattle.ct_names.specs.declared.role.Before.{Before}
use Rattle.ct_names.specs.declared.role.Before.TheVariants.{Value, Variant, Case, Member, Let, Reference}
use Rattle.ct_names.specs.declared.role.Role.{Role}
use Rattle.ct_names.specs.declared.role.Role.TheVariants.{Used, Bound, Other}

-- a value may follow: no case, no method, no type, and no name that is bound
abbrev pub admits_value : Before → Bool
admits_value Value = true
admits_value Variant = true
admits_value Reference = true
admits_value Case = false
admits_value Member = false
admits_value Let = false

-- a value may begin with the token between what is before it and the rest: it is no label, which `=` (61) follows
abbrev pub may_begin : Before → List Token → Bool
may_begin before rest = admits_value before && not (starts (is_mark 61) rest)

-- what a word that may begin a value is to the token after it
abbrev pub after_word : List ℕ → Before
after_word word =
    if bytes_eq word (codes "variant") then Variant else if bytes_eq word (codes "let") then Let
    else if bytes_eq word (codes "service") then Reference else if bytes_eq word (codes "func") then Reference else Value

-- what a mark is to the token after it: `{` (123) after `variant`, a dot (46) or a colon (58)
abbrev pub after_mark : Before → ℕ → Before
after_mark before m = if is_variant before && m == 123 then Case else if m == 46 || m == 58 then Member else Value
  where
    is_variant : Before → Bool
    is_variant Variant = true
    is_variant _ = false

-- what a token is to the one after it
abbrev pub after : Before → Token → List Token → Before
after before (run r) rest = if may_begin before rest then after_word r else Value
after before (quoted s) rest = Value
after before (mark m) rest = after_mark before m
after before arrow rest = Value

abbrev pub is_reference : Before → Bool
is_reference Reference = true
is_reference _ = false

-- the role of a token that is not after `let`
abbrev pub word_role : Before → Token → List Token → Role
word_role before (run r) rest = if may_begin before rest && is_free_name r then Used (is_reference before) else Other
word_role before (quoted s) rest = Other
word_role before (mark m) rest = Other
word_role before arrow rest = Other

-- the role of a token between what is before it and the rest
abbrev pub role : Before → Token → List Token → Role
role Let t rest = Bound
role before t rest = word_role before t rest

-- the role of each token
abbrev pub roles_from : Before → List Token → List Role
roles_from before [] = []
roles_from before (t ∷ rest) = role before t rest ∷ roles_from (after before t rest) rest

abbrev pub roles_of : List Token → List Role
roles_of tokens = roles_from Value tokens
