-- What the names of a test stand for, and what is read in their place.
use Rattle.std.specs.Prelude.{◌≡◌, ℕ, Bool, false, List, [], ◌∷◌, slice_get, Option, Some, None, option_map, codes}
use Rattle.std.specs.List.{find}
use Rattle.std.specs.Str.{bytes_eq}
use Rattle.ic_principal.specs.Text.{text_of}
use Rattle.cd_types.specs.declared.entry.TyRef.{TyRef}
use Rattle.cd_types.specs.declared.entry.Entry.{Entry}
use Rattle.cd_codec.specs.Content.{Content, plain, principal, service}
use Rattle.cd_plain.specs.Printed.{value_text}
use Rattle.cd_tokens.specs.Token.{Token, run, quoted}
use Rattle.cd_tokens.specs.Lexed.{IsTokens}
use Rattle.ct_names.specs.Exchange.{principal_tokens, exchanged_by}
use Rattle.ct_patterns.specs.Views.{Bound}
use Rattle.ct_check.specs.Filling.{Filling}
use Rattle.ct_outcomes.specs.Types.{Types}
use Rattle.ct_outcomes.specs.declared.standing.Standing.{Standing}
use Rattle.ct_outcomes.specs.declared.standing.Standing.TheVariants.{Principal, Service, Value}
use Rattle.ct_outcomes.specs.declared.named.Named.{Named}

-- ---- what a name stands for

-- what a name stands for that is bound to a value of a type: any value but a principal or a service is kept by its plain text
abbrev pub standing_of : List Entry → TyRef → Content → Standing
standing_of table type (plain (principal id)) = Principal id
standing_of table type (plain (service id)) = Service id
standing_of table type value = Value (value_text None table type value)

abbrev pub named_of : Types → Bound → Named
named_of types bound = record { name = bound.0; standing = standing_of types.0 bound.1 bound.2 }

-- the principal of a user, a canister, or a value that is a principal or a service
abbrev pub principal_of : Standing → Option (List ℕ)
principal_of (Principal id) = Some id
principal_of (Service id) = Some id
principal_of (Value text) = None

-- what the name stands for is `principal` and the text of this one
abbrev pub stands_for : List ℕ → Standing → Bool
stands_for id (Principal other) = bytes_eq other id
stands_for id (Service other) = false
stands_for id (Value text) = false

-- the first name that stands for the principal
abbrev pub name_of : List Named → List ℕ → Option (List ℕ)
name_of names id = option_map (λ named. named.name) (find (λ named. stands_for id named.standing) names)

abbrev pub standing_at : List Named → ℕ → Option Standing
standing_at names slot = option_map (λ named. named.standing) (slice_get names slot)

-- ---- what is read in its place

abbrev pub service_tokens : List ℕ → List Token
service_tokens text = run (codes "service") ∷ quoted text ∷ []

-- the tokens that are read in place of a name that stands for this
abbrev pub IsReadFor : Standing → List Token → Type 0
IsReadFor (Principal id) tokens = tokens ≡ principal_tokens (text_of id)
IsReadFor (Service id) tokens = tokens ≡ service_tokens (text_of id)
IsReadFor (Value text) tokens = IsTokens false tokens text

-- the same of the name in a slot
abbrev pub IsReadAt : List Named → ℕ → List Token → Type 0
IsReadAt names slot tokens = (standing : Standing) × (standing_at names slot ≡ Some standing) × IsReadFor standing tokens

-- the same of the names in slots
abbrev pub AreReadAt : List Named → List ℕ → List (List Token) → Type 0
AreReadAt names [] meanings = meanings ≡ []
AreReadAt names (slot ∷ slots) meanings =
    (tokens : List Token) × (rest : List (List Token)) × (meanings ≡ tokens ∷ rest) × IsReadAt names slot tokens × AreReadAt names slots rest

-- the tokens are those that are filled in, with what the names stand for in their place
abbrev pub IsFilledIn : List Named → Filling → List Token → Type 0
IsFilledIn names filling tokens = (meanings : List (List Token)) × AreReadAt names filling.names meanings × (tokens ≡ exchanged_by meanings filling.tokens)
