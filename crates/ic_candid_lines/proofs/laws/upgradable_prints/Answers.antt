use Rattle.std.proofs.Common.{◌≡◌, Bool, true, false, refl, ap}
use Rattle.cd_did.specs.declared.fault.Interface.{Interface}
use Rattle.cd_did.specs.Interfaces.{Upgrades}
use Rattle.cd_did.specs.InterfaceOf.{interface_in}
use Rattle.ic_candid_lines.specs.Upgrading.{served, upgrades, verdict_text, upgrade_text}
use Rattle.ic_candid_lines.proofs.FilesSay.{file_says}
use Rattle.ic_candid_lines.proofs.Verdicts.{Decides, upgrades_is}
use Rattle.ic_candid_lines.proofs.laws.upgradable_prints.Goals as goal

pub returns-clause-file : goal.returns-clause-file
returns-clause-file c = λ file text is.
    let says = c.texts_say.ensures in
    file_says file (interface_in text) (says.file file text is) (says.within text) (says.never text)

pub returns-clause-no_file : goal.returns-clause-no_file
returns-clause-no_file c = λ text never. ap served (c.texts_say.ensures.none text never)

pub returns-clause-yes : goal.returns-clause-yes
unfolding upgrade_text
returns-clause-yes c = λ from to old new one other up.
    rw (one, other) (ap verdict_text ((upgrades_is c.decided.ensures old new).1 up))

refused : Decides → (old new : Interface) → (Upgrades old new → ⊥) → (b : Bool) → upgrades old new ≡ b → b ≡ false
refused law old new never true e = absurd (never ((upgrades_is law old new).0 e))
refused law old new never false e = refl

pub returns-clause-no : goal.returns-clause-no
unfolding upgrade_text
returns-clause-no c = λ from to old new one other never.
    rw (one, other) (ap verdict_text (refused c.decided.ensures old new never (upgrades old new) refl))

pub returns-clause-bad_old : goal.returns-clause-bad_old
unfolding upgrade_text
returns-clause-bad_old c = λ from to lack one. rw one refl

pub returns-clause-bad_new : goal.returns-clause-bad_new
unfolding upgrade_text
returns-clause-bad_new c = λ from to old lack one other. rw (one, other) refl
