-- Candid specification, "Parameters and Results" and "Coercion", as a function, which `decode` ties
-- to `Decodes` and `HasFault`: the arguments of a message at expected types, or its fault
use Rattle.std.specs.Prelude.{◌≡◌, ◌≤◌, ℕ, suc, length, drop, Bool, true, false, List, [], ◌∷◌, Option, Some, None, is_some, Result, Ok, Err, slice_get, if◌then◌else◌}
use Rattle.ic_base.specs.Reader.{◌>>=◌}
use Rattle.cd_types.specs.declared.entry.TyRef.{TyRef}
use Rattle.cd_types.specs.declared.entry.Entry.{Entry}
use Rattle.cd_types.specs.Shape.{shape}
use Rattle.cd_sub.specs.MayMiss.{may_miss}
use Rattle.cd_codec.specs.declared.header.Header.{Header}
use Rattle.cd_codec.specs.declared.value.Values.{Values}
use Rattle.cd_codec.specs.Content.{Content}
use Rattle.cd_codec.specs.ReadHeader.{header_at}
use Rattle.cd_codec.specs.ReadValue.{values_at}
use Rattle.cd_codec.specs.Answers.{contents}
use Rattle.cd_coerce.specs.declared.fault.DidlFault.{DidlFault}
use Rattle.cd_coerce.specs.declared.fault.DidlFault.TheVariants.{NotHeader, Float, NotSubtype, BadValue, NoMemory}
use Rattle.cd_coerce.specs.Missing.{missing}
use Rattle.cd_coerce.specs.Read.{Setting, coerced}
use Rattle.cd_coerce.specs.Step.{setting}

-- whether an argument has a subtype, or is missing and may be
abbrev pub fits : Setting → Option TyRef → TyRef → Bool
fits c None u = may_miss (shape c.expected u)
fits c (Some t) u = c.below t u

-- the least expected argument that does not fit; the first is at this place
abbrev pub unfit_from : Setting → ℕ → List TyRef → List TyRef → Option ℕ
unfit_from c place types [] = None
unfit_from c place types (u ∷ us) = if fits c (slice_get types place) u then unfit_from c (suc place) types us else Some place

-- an argument, read
abbrev pub argument_at : Setting → Option TyRef → Option Content → TyRef → Option Content
argument_at c None v u = missing (shape c.expected u)
argument_at c (Some t) None u = None
argument_at c (Some t) (Some v) u = coerced c v t u

-- the arguments, read; the first is at this place
abbrev pub arguments_from : Setting → ℕ → List TyRef → List Content → List TyRef → Option (List Content)
arguments_from c place types values [] = Some []
arguments_from c place types values (u ∷ us) = argument_at c (slice_get types place) (slice_get values place) u >>= λ r. arguments_from c (suc place) types values us >>= λ rs. Some (r ∷ rs)

-- what is read, or the fault that no value is
abbrev pub or_bad : Option (List Content) → Result (List Content) DidlFault
or_bad None = Err BadValue
or_bad (Some rs) = Ok rs

-- the values of a message whose arguments fit, read
unfoldable pub values_read : Setting → List TyRef → List TyRef → List ℕ → Result (List Content) DidlFault
values_read c types expected bytes = or_bad (values_at c.wire types bytes >>= λ values. arguments_from c 0 types values expected)

-- the arguments, if all fit
abbrev pub if_fit : Option ℕ → Result (List Content) DidlFault → Result (List Content) DidlFault
if_fit None read = read
if_fit (Some place) read = Err (NotSubtype place)

-- what follows a header, read
unfoldable pub message_read : Setting → List TyRef → List TyRef → List ℕ → Result (List Content) DidlFault
message_read c types expected bytes = if_fit (unfit_from c 0 types expected) (values_read c types expected bytes)

-- the fault of bytes without a header, or what follows the header, read
abbrev pub header_read : List Entry × List TyRef → List ℕ → Option ((List Entry × List TyRef) × List ℕ) → Result (List Content) DidlFault
header_read expected bytes None = Err (if is_some (header_at true bytes) then Float else NotHeader)
header_read expected bytes (Some x) = message_read (setting x.0.0 expected.0) x.0.1 expected.1 x.1

-- the arguments, or the fault
unfoldable pub decoded : List Entry × List TyRef → List ℕ → Result (List Content) DidlFault
decoded expected bytes = header_read expected bytes (header_at false bytes)

-- the fault is that of the bytes, or memory ran out
abbrev pub FailsWith : DidlFault → Result (List Content) DidlFault → Type 0
FailsWith NoMemory read = Unit {0}
FailsWith NotHeader read = read ≡ Err NotHeader
FailsWith Float read = read ≡ Err Float
FailsWith (NotSubtype argument) read = read ≡ Err (NotSubtype argument)
FailsWith BadValue read = read ≡ Err BadValue

-- the answer is the header, or the fault of bytes that begin with none
abbrev pub IsHeaderAnswer : Result Header DidlFault → List ℕ → Type 0
IsHeaderAnswer (Ok header) bytes = (header.length ≤ length bytes) × (header_at false bytes ≡ Some ((header.table, header.types), drop header.length bytes))
IsHeaderAnswer (Err fault) bytes = (expected : List Entry × List TyRef) → FailsWith fault (decoded expected bytes)

-- the answer is what is decoded, unless memory ran out
abbrev pub IsAnswer : Result Values DidlFault → Result (List Content) DidlFault → Type 0
IsAnswer (Ok values) read = read ≡ Ok (contents values)
IsAnswer (Err fault) read = FailsWith fault read
