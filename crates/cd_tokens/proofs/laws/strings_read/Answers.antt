use Rattle.cd_tokens.proofs.Strings.{unescaped_again, unescaped_takes}
use Rattle.cd_tokens.proofs.Labels.{text_again, text_takes, name_again, name_takes, label_again, label_takes}
use Rattle.cd_tokens.proofs.laws.strings_read.Goals as goal

pub returns-clause-bytes : goal.returns-clause-bytes
returns-clause-bytes c = λ said written. (unescaped_takes said written, unescaped_again said written)

pub returns-clause-text : goal.returns-clause-text
returns-clause-text c = λ text written. (text_takes text written, text_again text written)

pub returns-clause-name : goal.returns-clause-name
returns-clause-name c = λ name token. (name_takes name token, name_again name token)

pub returns-clause-label : goal.returns-clause-label
returns-clause-label c = λ id token. (label_takes token id, label_again token id)
