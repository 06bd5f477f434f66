-- The content of a value, layer by layer.
use Rattle.std.proofs.Common.{rules, ◌≡◌, ℕ, List, Some, None, Bool, [], ◌∷◌, ◌++◌, ap, ◌∙◌}
use Rattle.std.specs.Prelude.{ℤ}
use Rattle.std.proofs.lemmas.List.{map_push}
use Rattle.std.specs.Global.{Vec, Global}
use Rattle.std.specs.Prelude.{Box}
use Rattle.cd_codec.specs.declared.value.Value.{Value, the_lemmas}
use Rattle.cd_codec.specs.declared.value.Values.{Values, Values-F, roll-Values, out-roll-Values}
use Rattle.cd_codec.specs.Answers.{contents}
use Rattle.cd_codec.specs.declared.value.FieldValues.{FieldValues, roll-FieldValues, fold-FieldValues, fold-roll-FieldValues}
use Rattle.cd_codec.specs.declared.value.Value.TheVariants as values
use Rattle.cd_codec.specs.Content.{Content, null, bool, nat, int, nat8, nat16, nat32, nat64, int8, int16, int32, int64, text, reserved, func, service, principal, plain, blob, none, some, list, record_of, variant, Parts, Contents, contents_of, parts_of}
use Rattle.cd_codec.specs.View.{value_step, fields_step, values_step, view, views, views_of_fields}

pub view-Null : view values.Null ≡ plain null
unfolding view
view-Null = search (rules, the_lemmas)

pub view-Reserved : view values.Reserved ≡ plain reserved
unfolding view
view-Reserved = search (rules, the_lemmas)

pub view-Bool : (b : Bool) → view (values.Bool b) ≡ plain (bool b)
unfolding view
view-Bool b = search (rules, the_lemmas)

pub view-Nat : (n : ℕ) → view (values.Nat n) ≡ plain (nat n)
unfolding view
view-Nat n = search (rules, the_lemmas)

pub view-Int : (z : ℤ) → view (values.Int z) ≡ plain (int z)
unfolding view
view-Int z = search (rules, the_lemmas)

pub view-Nat8 : (n : ℕ) → view (values.Nat8 n) ≡ plain (nat8 n)
unfolding view
view-Nat8 n = search (rules, the_lemmas)

pub view-Nat16 : (n : ℕ) → view (values.Nat16 n) ≡ plain (nat16 n)
unfolding view
view-Nat16 n = search (rules, the_lemmas)

pub view-Nat32 : (n : ℕ) → view (values.Nat32 n) ≡ plain (nat32 n)
unfolding view
view-Nat32 n = search (rules, the_lemmas)

pub view-Nat64 : (n : ℕ) → view (values.Nat64 n) ≡ plain (nat64 n)
unfolding view
view-Nat64 n = search (rules, the_lemmas)

pub view-Int8 : (z : ℤ) → view (values.Int8 z) ≡ plain (int8 z)
unfolding view
view-Int8 z = search (rules, the_lemmas)

pub view-Int16 : (z : ℤ) → view (values.Int16 z) ≡ plain (int16 z)
unfolding view
view-Int16 z = search (rules, the_lemmas)

pub view-Int32 : (z : ℤ) → view (values.Int32 z) ≡ plain (int32 z)
unfolding view
view-Int32 z = search (rules, the_lemmas)

pub view-Int64 : (z : ℤ) → view (values.Int64 z) ≡ plain (int64 z)
unfolding view
view-Int64 z = search (rules, the_lemmas)

pub view-Text : (s : List ℕ) → view (values.Text s) ≡ plain (text s)
unfolding view
view-Text s = search (rules, the_lemmas)

pub view-Service : (p : List ℕ) → view (values.Service p) ≡ plain (service p)
unfolding view
view-Service p = search (rules, the_lemmas)

pub view-Principal : (p : List ℕ) → view (values.Principal p) ≡ plain (principal p)
unfolding view
view-Principal p = search (rules, the_lemmas)

pub view-Func : (p m : List ℕ) → view (values.Func p m) ≡ plain (func p m)
unfolding view
view-Func p m = search (rules, the_lemmas)

pub view-Blob : (s : List ℕ) → view (values.Blob s) ≡ blob s
unfolding view
view-Blob s = search (rules, the_lemmas)

pub view-None : view (values.Opt None) ≡ none
unfolding view
view-None = search (rules, the_lemmas)

pub view-Some : (v : Box Value Global) → view (values.Opt (Some v)) ≡ some (view v.value)
unfolding view
view-Some v = search (rules, the_lemmas)

pub view-Var : (i : ℕ) (v : Box Value Global) → view (values.Var i v) ≡ variant i (view v.value)
unfolding view
view-Var i v = search (rules, the_lemmas)

pub view-Seq : (v : Vec Value) → view (values.Seq (roll-Values record { items = v })) ≡ list (contents_of (views v.items))
unfolding view
view-Seq v = search (rules, the_lemmas)

-- the content of a record, as a fold of its fields
view-fields : (fields : FieldValues) → view (values.Rec fields) ≡ record_of (fold-FieldValues Content Parts Contents value_step fields_step values_step fields)
unfolding view
view-fields fields = search (rules, the_lemmas)

pub view-Rec : (v : Vec (ℕ × Value)) → view (values.Rec (roll-FieldValues record { items = v })) ≡ record_of (parts_of (views_of_fields v.items))
unfolding view
view-Rec v = view-fields (roll-FieldValues record { items = v }) ∙ ap record_of (fold-roll-FieldValues Content Parts Contents value_step fields_step values_step (record { items = v }))

-- the content of each kind of value
pub ruleset layers = (view-Null, view-Reserved, view-Bool, view-Nat, view-Int, view-Nat8, view-Nat16, view-Nat32, view-Nat64, view-Int8, view-Int16, view-Int32, view-Int64, view-Text, view-Service, view-Principal, view-Func, view-Blob, view-None, view-Some, view-Var, view-Seq, view-Rec)

-- one more field
pub part_push : (parts more : List (ℕ × Value)) (id : ℕ) (v : Value) → more ≡ parts ++ (id, v) ∷ [] → views_of_fields more ≡ views_of_fields parts ++ (id, view v) ∷ []
part_push parts more id v e = rw e (map_push (λ (f : ℕ × Value). (f.0, view f.1)) parts (id, v))

-- the contents of a list that was made
pub contents_made : (v : Vec Value) → contents (roll-Values record { items = v }) ≡ views v.items
contents_made v = ap (λ (layer : Values-F Value FieldValues Values). views layer.items.items) (out-roll-Values record { items = v })
