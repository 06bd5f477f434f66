-- The grammar of headers as functions that read (Candid specification, "Binary Format", B, T and I): they read what IsHeader spells.
use Rattle.std.specs.Prelude.{ℕ, ◌^◌, Bool, List, length, take, drop, Option, Some, None, nat_lt, nat_le, if◌then◌else◌}
use Rattle.std.specs.Str.{bytes_eq}
use Rattle.ic_base.specs.Reader.{Reader, ◌>>=◌, both_at, map_at, filter_at, filter_map_at, vec_at}
use Rattle.ic_leb.specs.declared.width.Width.TheVariants.{Candid}
use Rattle.ic_leb.specs.Reading.{unsigned_reader, signed_reader}
use Rattle.cd_types.specs.declared.entry.TyRef.{TyRef}
use Rattle.cd_types.specs.declared.entry.Entry.{Entry}
use Rattle.cd_types.specs.declared.entry.Entry.TheVariants as entries
use Rattle.cd_types.specs.IsTable.{is_table}
use Rattle.cd_codec.specs.declared.codes.Kind.{Kind}
use Rattle.cd_codec.specs.declared.codes.Kind.TheVariants as kinds
use Rattle.cd_codec.specs.Codes.{reference_named, kind_named}
use Rattle.cd_codec.specs.IsHeader.{magic, are_inside}
use Rattle.cd_codec.specs.ReadPlain.{counted_at, text_at}

-- what follows `DIDL`
unfoldable pub magic_at : List ℕ → Option (List ℕ)
magic_at bytes = if bytes_eq (take 4 bytes) magic then Some (drop 4 bytes) else None

unfoldable pub reference_at : Bool → Reader TyRef
reference_at floats = filter_map_at (reference_named floats) (signed_reader Candid)

unfoldable pub types_at : Bool → Reader (List TyRef)
types_at floats = vec_at (unsigned_reader Candid) (reference_at floats)

unfoldable pub id_at : Reader ℕ
id_at = filter_at (λ n. nat_lt n (2 ^ 32)) (unsigned_reader Candid)

unfoldable pub typed_field_at : Bool → Reader (ℕ × TyRef)
typed_field_at floats = both_at id_at (λ _. reference_at floats)

unfoldable pub fields_at : Bool → Reader (List (ℕ × TyRef))
fields_at floats = vec_at (unsigned_reader Candid) (typed_field_at floats)

unfoldable pub method_at : Bool → Reader (List ℕ × TyRef)
method_at floats = both_at text_at (λ _. reference_at floats)

unfoldable pub methods_at : Bool → Reader (List (List ℕ × TyRef))
methods_at floats = vec_at (unsigned_reader Candid) (method_at floats)

unfoldable pub signature_at : Bool → Reader ((List TyRef × List TyRef) × List ℕ)
signature_at floats = both_at (both_at (types_at floats) (λ _. types_at floats)) (λ _. counted_at)

-- what follows the number of an entry's kind
unfoldable pub body_at : Bool → Kind → Reader Entry
body_at floats kinds.Opt = map_at (λ type. entries.Opt type) (reference_at floats)
body_at floats kinds.Seq = map_at (λ type. entries.Seq type) (reference_at floats)
body_at floats kinds.Rec = map_at (λ fields. entries.Rec fields) (fields_at floats)
body_at floats kinds.Var = map_at (λ cases. entries.Var cases) (fields_at floats)
body_at floats kinds.Func = map_at (λ f. entries.Func f.0.0 f.0.1 f.1) (signature_at floats)
body_at floats kinds.Service = map_at (λ methods. entries.Service methods) (methods_at floats)

unfoldable pub kind_at : Reader Kind
kind_at = filter_map_at kind_named (signed_reader Candid)

-- an entry of the type table
unfoldable pub row_at : Bool → Reader Entry
row_at floats bytes = do
  kind ← kind_at bytes
  body_at floats kind.0 kind.1

-- a count of at most 10,000
unfoldable pub few_at : Reader ℕ
few_at = filter_at (λ n. nat_le n 10000) (unsigned_reader Candid)

unfoldable pub table_at : Bool → Reader (List Entry)
table_at floats = filter_at is_table (vec_at few_at (row_at floats))

unfoldable pub arguments_at : Bool → ℕ → Reader (List TyRef)
arguments_at floats count = filter_at (are_inside count) (vec_at few_at (reference_at floats))

-- the table, the types of the arguments, and what follows
unfoldable pub header_at : Bool → Reader (List Entry × List TyRef)
header_at floats bytes = do
  rest ← magic_at bytes
  table ← table_at floats rest
  types ← arguments_at floats (length table.0) table.1
  Some ((table.0, types.0), types.1)
