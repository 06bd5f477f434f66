-- When values meet a pattern, as a function.
use Rattle.std.specs.Prelude.{ℕ, ℤ, pos, Bool, true, false, ◌==◌, ◌&&◌, bytes_eq, if◌then◌else◌, List, [], ◌∷◌, ◌++◌, length, map, Option, Some, None, option_map}
use Rattle.std.specs.Ordering.{int_eq}
use Rattle.ic_base.specs.Reader.{◌>>=◌}
use Rattle.cd_codec.specs.Content.{Content, Plain, null, bool, nat, int, nat8, nat16, nat32, nat64, int8, int16, int32, int64, text, reserved, func, service, principal, plain, blob, none, some, list, record_of, variant, Contents, no_content, content, Parts, no_part, part}
use Rattle.cd_codec.specs.View.{view, views, views_of_fields}
use Rattle.ct_patterns.specs.declared.layer.Leaf.{Leaf}
use Rattle.ct_patterns.specs.declared.layer.Layer.{Layer as HeldLayer}
use Rattle.ct_patterns.specs.declared.layer.Layer.TheVariants as held
use Rattle.ct_patterns.specs.declared.step.Step.{Step}
use Rattle.ct_patterns.specs.declared.step.Step.TheVariants.{Any, Bound, Is, Opt, Seq, Rec, Var}
use Rattle.ct_patterns.specs.Views.{byte, Bound as Binding}
use Rattle.ct_patterns.specs.Meets.{fields_at, bound}

abbrev pub natural_leaf : ℕ → ℕ → Leaf
natural_leaf k n = record { kind = k; natural = n; integer = pos 0; bytes = []; method = [] }

abbrev pub integer_leaf : ℕ → ℤ → Leaf
integer_leaf k z = record { kind = k; natural = 0; integer = z; bytes = []; method = [] }

abbrev pub method_leaf : ℕ → List ℕ → List ℕ → Leaf
method_leaf k s m = record { kind = k; natural = 0; integer = pos 0; bytes = s; method = m }

abbrev pub bytes_leaf : ℕ → List ℕ → Leaf
bytes_leaf k s = method_leaf k s []

abbrev pub same_leaf : Leaf → Leaf → Bool
same_leaf a b = a.kind == b.kind && a.natural == b.natural && int_eq a.integer b.integer && bytes_eq a.bytes b.bytes && bytes_eq a.method b.method

-- a value without parts, by its kind
abbrev pub leaf_of : Plain → Leaf
leaf_of null = natural_leaf 0 0
leaf_of (bool b) = natural_leaf 1 (if b then 1 else 0)
leaf_of (nat n) = natural_leaf 2 n
leaf_of (nat8 n) = natural_leaf 3 n
leaf_of (nat16 n) = natural_leaf 4 n
leaf_of (nat32 n) = natural_leaf 5 n
leaf_of (nat64 n) = natural_leaf 6 n
leaf_of (int z) = integer_leaf 7 z
leaf_of (int8 z) = integer_leaf 8 z
leaf_of (int16 z) = integer_leaf 9 z
leaf_of (int32 z) = integer_leaf 10 z
leaf_of (int64 z) = integer_leaf 11 z
leaf_of (text s) = bytes_leaf 12 s
leaf_of reserved = natural_leaf 13 0
leaf_of (func p m) = method_leaf 14 p m
leaf_of (service p) = bytes_leaf 15 p
leaf_of (principal p) = bytes_leaf 16 p

-- a value, apart from what its parts are
pub data Layer : Type 0 where
  leaf : Leaf → Layer
  opt : Content → Layer
  items : List Content → Layer
  fields : List (ℕ × Content) → Layer
  case : ℕ → Content → Layer

abbrev pub values_of : Contents → List Content
values_of no_content = []
values_of (content v vs) = v ∷ values_of vs

abbrev pub fields_of : Parts → List (ℕ × Content)
fields_of no_part = []
fields_of (part id v ps) = (id, v) ∷ fields_of ps

abbrev pub layer : Content → Layer
layer (plain p) = leaf (leaf_of p)
layer (blob bytes) = leaf (bytes_leaf 17 bytes)
layer none = leaf (natural_leaf 18 0)
layer (some v) = opt v
layer (list vs) = items (values_of vs)
layer (record_of ps) = fields (fields_of ps)
layer (variant i v) = case i v

abbrev pub layer_view : HeldLayer → Layer
layer_view (held.Leaf l) = leaf l
layer_view (held.Opt v) = opt (view v.now)
layer_view (held.Seq vs) = items (views vs.now)
layer_view (held.Rec fs) = fields (views_of_fields fs.now)
layer_view (held.Var i v) = case i (view v.now)

-- both have no parts, and are the same
abbrev pub same_layer : Layer → Layer → Bool
same_layer (leaf a) (leaf b) = same_leaf a b
same_layer _ _ = false

-- as many parts as there are to be
abbrev pub counted : ℕ → List Content → Option (List Content)
counted count parts = if length parts == count then Some parts else None

abbrev pub opened_opt : Layer → Option (List Content)
opened_opt (opt v) = Some (v ∷ [])
opened_opt _ = None

abbrev pub opened_seq : ℕ → Layer → Option (List Content)
opened_seq count (leaf l) = if l.kind == 17 then counted count (map byte l.bytes) else None
opened_seq count (items vs) = counted count vs
opened_seq count _ = None

abbrev pub opened_rec : List ℕ → Layer → Option (List Content)
opened_rec places (fields fs) = fields_at places fs
opened_rec places _ = None

abbrev pub opened_var : ℕ → Layer → Option (List Content)
opened_var place (case i v) = if i == place then Some (v ∷ []) else None
opened_var place _ = None

-- the parts that are next, where the value meets the step
abbrev pub opened : Step → Content → Option (List Content)
opened Any v = Some []
opened (Bound name type) v = Some []
opened (Is u) v = if same_layer (layer (view u)) (layer v) then Some [] else None
opened Opt v = opened_opt (layer v)
opened (Seq count) v = opened_seq count (layer v)
opened (Rec places) v = opened_rec places.items.items (layer v)
opened (Var place) v = opened_var place (layer v)

-- the values that are next after a step, where it is met
abbrev pub after_step : Bool → List Content → Option (List Content)
after_step true values = Some values
after_step false values = None

-- what is bound, where the values meet the pattern
abbrev pub met : List Step → List Content → Option (List Binding)
met [] [] = Some []
met [] (v ∷ values) = None
met (step ∷ steps) [] = None
met (step ∷ steps) (v ∷ values) = opened step v >>= λ parts. option_map (λ bindings. bound step v ++ bindings) (met steps (parts ++ values))
