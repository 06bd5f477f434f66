-- What a call that reads a message answers (Candid specification, "Binary Format", B).
use Rattle.std.specs.Prelude.{◌≡◌, ℕ, Bool, List, ◌++◌, Option, Some, None, Result, Ok, Err}
use Rattle.cd_types.specs.declared.entry.TyRef.{TyRef}
use Rattle.cd_types.specs.declared.entry.Entry.{Entry}
use Rattle.cd_codec.specs.declared.header.Header.{Header}
use Rattle.cd_codec.specs.declared.fault.HeaderFault.{HeaderFault}
use Rattle.cd_codec.specs.declared.fault.HeaderFault.TheVariants as faults
use Rattle.cd_codec.specs.declared.value.Values.{Values, out-Values}
use Rattle.cd_codec.specs.declared.fault.ValueFault.{ValueFault}
use Rattle.cd_codec.specs.declared.fault.ValueFault.TheVariants.{BadValue, NoMemory}
use Rattle.cd_codec.specs.Content.{Content}
use Rattle.cd_codec.specs.IsHeader.{IsHeader}
use Rattle.cd_codec.specs.View.{views}

-- the contents of a list of values
abbrev pub contents : Values → List Content
contents values = views (out-Values values).items.items

-- the answer is these values, unless memory ran out
abbrev pub ReadsValues : Result Values ValueFault → List Content → Type 0
ReadsValues (Ok values) expected = contents values ≡ expected
ReadsValues (Err BadValue) expected = ⊥
ReadsValues (Err NoMemory) expected = Unit {0}

-- the bytes begin with a header
abbrev pub BeginsWithHeader : Bool → List ℕ → Type 0
BeginsWithHeader floats bytes = (table : List Entry) × (types : List TyRef) × (front rest : List ℕ) × (bytes ≡ front ++ rest) × IsHeader floats table types front

-- the answer is this header, unless memory ran out
abbrev pub ReadsHeader : Result Header HeaderFault → List Entry → List TyRef → ℕ → Type 0
ReadsHeader (Ok header) table types length = (header.table ≡ table) × (header.types ≡ types) × (header.length ≡ length)
ReadsHeader (Err faults.NotHeader) table types length = ⊥
ReadsHeader (Err faults.Float) table types length = ⊥
ReadsHeader (Err faults.NoMemory) table types length = Unit {0}

-- the fault of bytes at whose front no header without floats is read: what is read with floats tells it
abbrev pub IsFault : HeaderFault → Option ((List Entry × List TyRef) × List ℕ) → Type 0
IsFault faults.NotHeader read = read ≡ None
IsFault faults.Float read = (x : (List Entry × List TyRef) × List ℕ) × (read ≡ Some x)
IsFault faults.NoMemory read = Unit {0}
