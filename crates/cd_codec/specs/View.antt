-- The content of a value of the program (Candid specification, "Values").
use Rattle.std.specs.Prelude.{ℕ, List, map, Some, None}
use Rattle.cd_codec.specs.declared.value.Value.{Value}
use Rattle.cd_codec.specs.declared.value.Value.TheFolds.{fold-Value}
use Rattle.cd_codec.specs.declared.value.Value.TheOpen.{Value-F, FieldValues-F, Values-F}
use Rattle.cd_codec.specs.Content.{Content, null, bool, nat, int, nat8, nat16, nat32, nat64, int8, int16, int32, int64, text, reserved, func, service, principal, plain, blob, none, some, list, record_of, variant, Contents, Parts, contents_of, parts_of}

-- one layer of a value
abbrev pub value_step : Value-F Content Parts Contents → Content
value_step Value-F.Null = plain null
value_step (Value-F.Bool b) = plain (bool b)
value_step (Value-F.Nat n) = plain (nat n)
value_step (Value-F.Int z) = plain (int z)
value_step (Value-F.Nat8 n) = plain (nat8 n)
value_step (Value-F.Nat16 n) = plain (nat16 n)
value_step (Value-F.Nat32 n) = plain (nat32 n)
value_step (Value-F.Nat64 n) = plain (nat64 n)
value_step (Value-F.Int8 z) = plain (int8 z)
value_step (Value-F.Int16 z) = plain (int16 z)
value_step (Value-F.Int32 z) = plain (int32 z)
value_step (Value-F.Int64 z) = plain (int64 z)
value_step (Value-F.Text s) = plain (text s)
value_step Value-F.Reserved = plain reserved
value_step (Value-F.Opt None) = none
value_step (Value-F.Opt (Some v)) = some v.value
value_step (Value-F.Blob bytes) = blob bytes
value_step (Value-F.Seq vs) = list vs
value_step (Value-F.Rec ps) = record_of ps
value_step (Value-F.Var i v) = variant i v.value
value_step (Value-F.Func s m) = plain (func s m)
value_step (Value-F.Service p) = plain (service p)
value_step (Value-F.Principal p) = plain (principal p)

abbrev pub fields_step : FieldValues-F Content Parts Contents → Parts
fields_step fields = parts_of fields.items.items

abbrev pub values_step : Values-F Content Parts Contents → Contents
values_step values = contents_of values.items.items

-- the content of a value
unfoldable pub view : Value → Content
view = fold-Value Content Parts Contents value_step fields_step values_step

-- the contents of a list of values
abbrev pub views : List Value → List Content
views values = map view values

-- the contents of a record's fields
abbrev pub views_of_fields : List (ℕ × Value) → List (ℕ × Content)
views_of_fields fields = map (λ f. (f.0, view f.1)) fields
