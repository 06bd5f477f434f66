-- What is answered of a file by the faults up to `Vacuous`.
use Rattle.std.specs.Prelude.{◌≡◌, ℕ, false, [], Some, None, Result, Ok, Err, Vec}
use Rattle.std.specs.declared.alloc.Global.{Global}
use Rattle.cd_did.specs.declared.fault.DidFault.{DidFault}
use Rattle.cd_did.specs.declared.fault.DidFault.TheVariants.{NotInterface, Float, Repeated, Unbound, Vacuous, Shape, TooMany, NoMemory}
use Rattle.cd_grammar.specs.File.{File}
use Rattle.cd_did.specs.Faults.{all_parts, is_no_float, is_bound, repeated, IsVacuous}
use Rattle.cd_did.specs.Answers.{HasNoFloat, HasOneEach, HasAll, HasTypes}
use Rattle.cd_did.specs.Rings.{HasEnds, is_named_at, least_from}

-- each fault where its reason holds and none before it; else the ends of the definitions, none of which leads back
abbrev pub Settles : File → Result (Vec ℕ Global) DidFault → Type 0
Settles file (Ok ends) = HasTypes file × HasEnds file.definitions ends.items × (least_from (is_named_at file.definitions) None ends.items ≡ None)
Settles file (Err Float) = all_parts is_no_float file ≡ false
Settles file (Err (Repeated place)) = HasNoFloat file × (repeated [] 0 file.definitions ≡ Some place)
Settles file (Err Unbound) = HasOneEach file × (all_parts (is_bound file.definitions) file ≡ false)
Settles file (Err (Vacuous place)) = HasAll file × IsVacuous file.definitions place
Settles file (Err NoMemory) = Unit {0}
Settles file (Err NotInterface) = ⊥
Settles file (Err Shape) = ⊥
Settles file (Err TooMany) = ⊥
