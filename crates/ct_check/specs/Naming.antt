-- The names among tokens: those that are used are seen, and those that `let` binds may be bound.
use Rattle.std.specs.Prelude.{ℕ, if◌then◌else◌, List, [], ◌∷◌, ◌++◌, Option, Some, None, codes}
use Rattle.ic_base.specs.Reader.{◌>>=◌}
use Rattle.cd_tokens.specs.Token.{Token, run, quoted, mark, arrow}
use Rattle.cd_tokens.specs.Label.{is_name}
use Rattle.ct_names.specs.declared.role.Role.{Role}
use Rattle.ct_names.specs.declared.role.Role.TheVariants.{Used, Bound, Other}
use Rattle.ct_names.specs.Roles.{roles_of}
use Rattle.ct_names.specs.Exchange.{name_in, principal_tokens}
use Rattle.ct_scope.specs.Scope.{seen_at}
use Rattle.ct_scope.specs.declared.bound.Bound.{Bound as BoundTo}
use Rattle.ct_scope.specs.declared.bound.Kind.{Kind}
use Rattle.ct_scope.specs.declared.bound.Kind.TheVariants.{User, Canister, Value}
use Rattle.ct_check.specs.declared.naming.Lets.{Lets}
use Rattle.ct_check.specs.declared.naming.Lets.TheVariants.{Bind, Refused, Unknown}
use Rattle.ct_check.specs.State.{State, binding}
use Rattle.ct_check.specs.Rows.{used, may_bind}

-- the name that a token is, if it is one
abbrev pub word_in : Token → Option (List ℕ)
word_in (run r) = if is_name r then Some r else None
word_in (quoted s) = None
word_in (mark m) = None
word_in arrow = None

-- no name can be bound here: there are outcomes beside, or it is a query in an interleave
abbrev pub let_name : Lets → State → List ℕ → Option (Option ℕ × State)
let_name Bind state name = Some (None, binding state name Value)
let_name Refused state name = None
let_name Unknown state name = None

-- expected a name; 'X' is a word of Candid; name 'X' bound twice. In arguments `let` is no value, and nothing is asked of the token after it
abbrev pub let_token : Lets → State → Token → Option (Option ℕ × State)
let_token Unknown state t = Some (None, state)
let_token Bind state t = word_in t >>= λ name. if may_bind state name then let_name Bind state name else None
let_token Refused state t = word_in t >>= λ name. if may_bind state name then let_name Refused state name else None

-- the slot of the name that a token uses, if it uses one
abbrev pub name_token : Lets → State → Role → Token → Option (Option ℕ × State)
name_token lets state (Used alone) t = used state (name_in t) >>= λ slot. Some (Some slot, state)
name_token lets state Bound t = let_token lets state t
name_token lets state Other t = Some (None, state)

abbrev pub slot_list : Option ℕ → List ℕ
slot_list None = []
slot_list (Some slot) = slot ∷ []

-- the slots of the names that tokens of these roles use, and what is known after them
abbrev pub names_from : Lets → State → List Role → List Token → Option (List ℕ × State)
names_from lets state [] tokens = Some ([], state)
names_from lets state (role ∷ roles) [] = Some ([], state)
names_from lets state (role ∷ roles) (t ∷ tokens) = do
  one ← name_token lets state role t
  more ← names_from lets one.1 roles tokens
  Some (slot_list one.0 ++ more.0, more.1)

unfoldable pub names : Lets → State → List Token → Option (List ℕ × State)
names lets state tokens = names_from lets state (roles_of tokens) tokens

-- what is read before a run in place of a name: any principal for a user or a canister, and the name itself where it is not known what it stands for
abbrev pub kind_meaning : List ℕ → Kind → List Token
kind_meaning name User = principal_tokens (codes "aaaaa-aa")
kind_meaning name (Canister interface) = principal_tokens (codes "aaaaa-aa")
kind_meaning name Value = run name ∷ []

abbrev pub bound_meaning : List ℕ → Option BoundTo → List Token
bound_meaning name None = run name ∷ []
bound_meaning name (Some bound) = kind_meaning name bound.kind

abbrev pub meaning_in : State → List ℕ → List Token
meaning_in state name = bound_meaning name (seen_at state.scope name)
