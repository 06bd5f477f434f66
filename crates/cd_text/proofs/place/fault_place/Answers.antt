use Rattle.std.proofs.Common.{◌≡◌, Err, refl, subst}
use Rattle.cd_text.specs.declared.fault.TextFault.TheVariants.{NotText}
use Rattle.cd_text.specs.ReadsText.{ReadsText}
use Rattle.cd_text.proofs.place.fault_place.Goals.{in-Ok, in-Err-NoMemory, in-Err-NotText+in-Ok-end_of_walk, in-Err-NotText+in-Err}
use Rattle.cd_text.proofs.place.fault_place.Goals as goal

pub returns-clause-said : goal.returns-clause-said
returns-clause-said c = λ values said. elim c.match-read.branch [
  | in-Ok w ↦ rw w.result-is refl
  | in-Err-NoMemory w ↦ rw w.result-is tt
  | in-Err-NotText+in-Ok-end_of_walk w ↦
      let is : c.read.result ≡ Err NotText = cc in absurd (subst (λ r. ReadsText r values) is (c.read.ensures.only values said))
  | in-Err-NotText+in-Err w ↦ rw w.result-is tt
]
