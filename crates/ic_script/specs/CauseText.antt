-- The names of the causes.
use Rattle.std.specs.Prelude.{ℕ, List, codes}
use Rattle.ic_script.specs.declared.line_cause.LineCause.{LineCause}
use Rattle.ic_script.specs.declared.line_cause.LineCause.TheVariants.{Form, Principal, Hex, Number, Size, Back, Calls, LineTooLong, ScriptTooLong}

-- the name of a cause
unfoldable pub cause_text : LineCause → List ℕ
cause_text Form = codes "Form"
cause_text Principal = codes "Principal"
cause_text Hex = codes "Hex"
cause_text Number = codes "Number"
cause_text Size = codes "Size"
cause_text Back = codes "Back"
cause_text Calls = codes "Calls"
cause_text LineTooLong = codes "LineTooLong"
cause_text ScriptTooLong = codes "ScriptTooLong"
