-- A byte that a name is bound to is kept by its plain text.
use Rattle.std.proofs.Common.{◌≡◌, ℕ, List, refl}
use Rattle.std.specs.Fmt.{decimal}
use Rattle.cd_types.specs.declared.entry.TyRef.{TyRef}
use Rattle.cd_types.specs.declared.entry.Entry.{Entry}
use Rattle.cd_plain.specs.Printed.{value_text, plain_text}
use Rattle.ct_patterns.specs.Views.{byte}
use Rattle.ct_outcomes.specs.declared.standing.Standing.TheVariants.{Value}
use Rattle.ct_outcomes.specs.Standings.{standing_of}

pub byte_kept : (table : List Entry) (type : TyRef) (b : ℕ) → Value (decimal b) ≡ standing_of table type (byte b)
unfolding value_text plain_text
byte_kept table type b = refl
