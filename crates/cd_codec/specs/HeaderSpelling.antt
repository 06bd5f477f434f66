-- How a header is written: each number in its shortest spelling (Candid specification, "Binary Format", B, T and I).
use Rattle.std.specs.Prelude.{ℕ, List, ◌++◌, length, negsuc}
use Rattle.std.specs.List.{flat_map}
use Rattle.ic_leb.specs.Spelling.{unsigned_spelling, signed_spelling}
use Rattle.cd_types.specs.declared.entry.TyRef.{TyRef}
use Rattle.cd_types.specs.declared.entry.Entry.{Entry}
use Rattle.cd_types.specs.declared.entry.Entry.TheVariants.{Opt, Seq, Rec, Var, Func, Service}
use Rattle.cd_codec.specs.declared.codes.Kind.{Kind}
use Rattle.cd_codec.specs.Codes.{reference_number, kind_code, kind_of}
use Rattle.cd_codec.specs.IsHeader.{magic}
use Rattle.cd_codec.specs.Spelling.{counted}

-- a list: the number of its items, and each of them
abbrev pub list_spelling : {A : Type 0} → (A → List ℕ) → List A → List ℕ
list_spelling f items = unsigned_spelling (length items) ++ flat_map f items

-- a reference to a type
abbrev pub reference_spelling : TyRef → List ℕ
reference_spelling type = signed_spelling (reference_number type)

-- a field: its id and its type
abbrev pub field_spelling : ℕ × TyRef → List ℕ
field_spelling field = unsigned_spelling field.0 ++ reference_spelling field.1

-- a method: its name and its type
abbrev pub method_spelling : List ℕ × TyRef → List ℕ
method_spelling method = counted method.0 ++ reference_spelling method.1

-- the number of an entry's kind
abbrev pub kind_spelling : Kind → List ℕ
kind_spelling kind = signed_spelling (negsuc (kind_code kind))

-- what follows that number
abbrev pub body_spelling : Entry → List ℕ
body_spelling (Opt type) = reference_spelling type
body_spelling (Seq type) = reference_spelling type
body_spelling (Rec fields) = list_spelling field_spelling fields
body_spelling (Var cases) = list_spelling field_spelling cases
body_spelling (Func args results notes) = list_spelling reference_spelling args ++ (list_spelling reference_spelling results ++ counted notes)
body_spelling (Service methods) = list_spelling method_spelling methods

-- an entry of the type table
abbrev pub entry_spelling : Entry → List ℕ
entry_spelling entry = kind_spelling (kind_of entry) ++ body_spelling entry

-- `DIDL`, the type table, and the types of the arguments
abbrev pub header_spelling : List Entry → List TyRef → List ℕ
header_spelling table types = magic ++ (list_spelling entry_spelling table ++ list_spelling reference_spelling types)
