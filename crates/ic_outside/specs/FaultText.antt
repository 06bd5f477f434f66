-- What is printed of a fault of a reader of lines.
use Rattle.std.specs.Prelude.{ℕ, ◌++◌, List, codes, decimal}
use Rattle.ic_outside.specs.declared.error.LineFault.{LineFault}
use Rattle.ic_outside.specs.declared.error.LineFault.TheVariants.{ReadFault, LineTooLong, ScriptTooLong, NoMemory}

-- the text of a fault
unfoldable pub fault_text : LineFault → List ℕ
fault_text ReadFault = codes "the source failed"
fault_text (LineTooLong line) = codes "line " ++ decimal line ++ codes " is too long"
fault_text (ScriptTooLong line) = codes "the script is too long at line " ++ decimal line
fault_text NoMemory = codes "out of memory"
