use Rattle.cd_sub.specs.Sub.{Sub}
use Rattle.cd_coerce.proofs.Typed.{typed}
use Rattle.cd_coerce.proofs.TableLemmas.{few_cases}
use Rattle.cd_coerce.proofs.laws.has_the_type.Goals as goal

pub returns : goal.returns
returns c = λ lower upper t u v r bytes formed all wire h. typed (λ a b. Sub lower a upper b) lower upper (few_cases upper formed) r v t u bytes h wire all
