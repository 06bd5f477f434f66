-- What is answered of a file, in each way that it is told.
use Rattle.std.specs.Prelude.{◌≡◌, Result, IfOk}
use Rattle.cd_did.specs.declared.fault.DidFault.{DidFault}
use Rattle.cd_did.specs.declared.fault.Interface.{Interface}
use Rattle.cd_grammar.specs.File.{File}
use Rattle.cd_did.specs.Answers.{Answers}
use Rattle.cd_did.specs.Interfaces.{IsWithin}
use Rattle.cd_did.specs.InterfaceOf.{interface_of}

abbrev pub Judges : File → Result Interface DidFault → Type 0
Judges file result = Answers file result × IfOk result (λ interface. interface ≡ interface_of file) × IfOk result IsWithin
