-- When values meet a pattern of a test file, and what is bound then.
use Rattle.std.specs.Prelude.{◌≡◌, ℕ, Bool, true, false, ◌⊎◌, List, [], ◌∷◌, ◌++◌, length, map, Option, Some, slice_get, option_map}
use Rattle.ic_base.specs.Reader.{◌>>=◌}
use Rattle.cd_codec.specs.Content.{Content, plain, blob, none, some, list, record_of, variant, contents_of, parts_of}
use Rattle.cd_codec.specs.View.{view}
use Rattle.ct_patterns.specs.declared.step.Step.{Step}
use Rattle.ct_patterns.specs.declared.step.Step.TheVariants.{Any, Bound, Is, Opt, Seq, Rec, Var}
use Rattle.ct_patterns.specs.Views.{byte, Bound as Binding}

-- the value has no parts
abbrev pub is_leaf : Content → Bool
is_leaf (plain p) = true
is_leaf (blob bytes) = true
is_leaf none = true
is_leaf (some v) = false
is_leaf (list vs) = false
is_leaf (record_of ps) = false
is_leaf (variant i v) = false

-- the values of the fields at these places
abbrev pub fields_at : List ℕ → List (ℕ × Content) → Option (List Content)
fields_at [] fields = Some []
fields_at (place ∷ places) fields = slice_get fields place >>= λ field. option_map (λ parts. field.1 ∷ parts) (fields_at places fields)

-- the value meets the step, and these of its parts are next
abbrev pub MeetsStep : Step → Content → List Content → Type 0
MeetsStep Any v parts = parts ≡ []
MeetsStep (Bound name type) v parts = parts ≡ []
MeetsStep (Is u) v parts = (is_leaf v ≡ true) × (view u ≡ v) × (parts ≡ [])
MeetsStep Opt v parts = (part : Content) × (v ≡ some part) × (parts ≡ part ∷ [])
MeetsStep (Seq count) v parts = ((v ≡ list (contents_of parts)) ⊎ ((bytes : List ℕ) × (v ≡ blob bytes) × (parts ≡ map byte bytes))) × (length parts ≡ count)
MeetsStep (Rec places) v parts = (fields : List (ℕ × Content)) × (v ≡ record_of (parts_of fields)) × (fields_at places.items.items fields ≡ Some parts)
MeetsStep (Var place) v parts = (part : Content) × (v ≡ variant place part) × (parts ≡ part ∷ [])

-- what the step binds to the value
abbrev pub bound : Step → Content → List Binding
bound (Bound name type) v = (name, type, v) ∷ []
bound _ v = []

-- a first value that meets the step; its parts and the values after it are as Rest says
pub record MeetsFirst (step : Step) (Rest : List Content → List Binding → Type 0) (values : List Content) (bindings : List Binding) : Type 0 where
  pub value : Content
  pub others : List Content
  pub parts : List Content
  pub more : List Binding
  pub whole : values ≡ value ∷ others
  pub meets : MeetsStep step value parts
  pub binds : bindings ≡ bound step value ++ more
  pub follows : Rest (parts ++ others) more

-- the values meet the pattern, and it binds this
abbrev pub Meets : List Step → List Content → List Binding → Type 0
Meets [] values bindings = (values ≡ []) × (bindings ≡ [])
Meets (step ∷ steps) values bindings = MeetsFirst step (Meets steps) values bindings
