use Rattle.std.proofs.Common.{Err, subst}
use Rattle.ic_base.specs.declared.read_error.ReadError.{ReadError}
use Rattle.cd_tokens.specs.Lexed.{Agrees}
use Rattle.cd_grammar.specs.File.{File}
use Rattle.std.specs.Prelude.{IfOk}
use Rattle.cd_did.specs.Answers.{Answers}
use Rattle.cd_did.specs.Denotes.{InitStands}
use Rattle.cd_did.proofs.Installed.{init_stands, init_within}
use Rattle.cd_did.proofs.Said.{text_is, text_is_none}
use Rattle.cd_did.proofs.interface.read_interface.Goals as goal

pub returns-in-Ok-clause-answers : goal.returns-in-Ok-clause-answers
returns-in-Ok-clause-answers c = λ file is. subst (λ (f : File). Answers f c.interface_of.result) (c.in-Ok.ensures.only file is) c.interface_of.ensures.0

pub returns-in-Err-Refused-clause-answers : goal.returns-in-Err-Refused-clause-answers
returns-in-Err-Refused-clause-answers c = λ file is. subst (λ (e : ReadError). Agrees {A = File} (λ f. f) (Err e) file) c.in-Err-Refused.field-0-is (c.in-Err-Refused.ensures.only file is)

pub returns-in-Ok-clause-said : goal.returns-in-Ok-clause-said
returns-in-Ok-clause-said c =
    text_is c.args.text.now c.in-Ok.file c.interface_of.result c.in-Ok.ensures.found c.interface_of.ensures.0 c.interface_of.ensures.1

pub returns-in-Err-Refused-clause-said : goal.returns-in-Err-Refused-clause-said
returns-in-Err-Refused-clause-said c =
    text_is_none c.args.text.now (λ file is. subst (λ (e : ReadError). Agrees {A = File} (λ f. f) (Err e) file) c.in-Err-Refused.field-0-is (c.in-Err-Refused.ensures.only file is))

pub returns-in-Ok-clause-installed : goal.returns-in-Ok-clause-installed
returns-in-Ok-clause-installed c = λ file is.
    subst (λ (f : File). IfOk c.interface_of.result (λ interface. InitStands f interface.table interface.init)) (c.in-Ok.ensures.only file is)
    (init_stands c.in-Ok.file c.interface_of.result c.in-Ok.ensures.fits c.interface_of.ensures.0 c.interface_of.ensures.1)

pub returns-in-Ok-clause-inside : goal.returns-in-Ok-clause-inside
returns-in-Ok-clause-inside c = init_within c.in-Ok.file c.interface_of.result c.in-Ok.ensures.fits c.interface_of.ensures.0 c.interface_of.ensures.1
