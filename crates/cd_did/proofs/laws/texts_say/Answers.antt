use Rattle.cd_did.proofs.Said.{text_is_none}
use Rattle.cd_did.proofs.Installed.{text_installed, text_init_within}
use Rattle.cd_did.proofs.Told.{text_told, some_told}
use Rattle.cd_did.proofs.laws.texts_say.Goals as goal

pub returns-clause-file : goal.returns-clause-file
returns-clause-file c = λ file text is. (text_told file text is).0

pub returns-clause-none : goal.returns-clause-none
returns-clause-none c = text_is_none

pub returns-clause-within : goal.returns-clause-within
returns-clause-within c = λ text. (some_told text).0

pub returns-clause-never : goal.returns-clause-never
returns-clause-never c = λ text. (some_told text).1

pub returns-clause-installed : goal.returns-clause-installed
returns-clause-installed c = text_installed

pub returns-clause-inside : goal.returns-clause-inside
returns-clause-inside c = text_init_within
