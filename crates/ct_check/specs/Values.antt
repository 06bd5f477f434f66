-- Arguments and outcomes as values of their types.
use Rattle.std.specs.Prelude.{Bool, true, false, List, Option, Some, None, is_some}
use Rattle.cd_types.specs.declared.entry.Entry.{Entry}
use Rattle.cd_types.specs.declared.entry.TyRef.{TyRef}
use Rattle.cd_tokens.specs.Token.{Token}
use Rattle.cd_did.specs.declared.fault.Interface.{Interface}
use Rattle.ct_names.specs.Exchange.{exchanged}
use Rattle.ct_scope.specs.declared.bound.InterfaceId.{InterfaceId}
use Rattle.ct_sources.specs.Files.{interface_of}
use Rattle.ct_values.specs.Spelled.{spelled}
use Rattle.ct_check.specs.State.{State}
use Rattle.ct_check.specs.Naming.{meaning_in}

-- types of an interface
pub record TypesOf : Type 0 where
  pub interface : InterfaceId
  pub types : List TyRef

-- tokens say values of the types, where a name that is left is any value; `patterns`: or what may be written in place of values
abbrev pub are_spelled : Bool → List Entry → List TyRef → List Token → Bool
are_spelled patterns table types tokens = is_some (spelled (record { patterns = patterns; names = true }) table types tokens)

abbrev pub spelled_in : Bool → List TyRef → List Token → Option Interface → Bool
spelled_in patterns types tokens None = false
spelled_in patterns types tokens (Some interface) = are_spelled patterns interface.table types tokens

-- not a value of its type: with what names stand for, as far as it is known before a run
abbrev pub are_values : Bool → State → TypesOf → List Token → Bool
are_values patterns state at tokens = spelled_in patterns at.types (exchanged (meaning_in state) tokens) (interface_of state.sources at.interface)
