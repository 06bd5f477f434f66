use Rattle.std.proofs.Common.{List, ℕ, subst, ◌∙◌}
use Rattle.std.specs.Prelude.{IfOk}
use Rattle.cd_types.specs.declared.entry.Entry.{Entry}
use Rattle.cd_grammar.specs.declared.written.Part.{Part}
use Rattle.cd_grammar.specs.declared.written.Written.TheVariants.{Service}
use Rattle.cd_did.specs.Entries.{EntryOf}
use Rattle.cd_did.specs.Formed.{IsFormed}
use Rattle.cd_did.proofs.SortLemmas.{no_refusal}
use Rattle.cd_did.proofs.entries.entry_of.Goals as goal

pub returns-in-Service-clause-ok : goal.returns-in-Service-clause-ok
returns-in-Service-clause-ok c =
    rw c.in-Service.is (subst (λ (ms : List (List ℕ × Part)). IfOk c.methods_of.result (λ (entry : Entry). EntryOf c.args.ended.now.names.now c.args.ended.now.ends.now (Service ms) entry × IsFormed c.args.ended.now.names.now c.args.ended.now.ends.now (Service ms))) (c.deref-in-Service.ensures.value ∙ c.methods.view_is) c.methods_of.ensures.ok)

pub returns-in-Func-clause-refused : goal.returns-in-Func-clause-refused
returns-in-Func-clause-refused c = no_refusal c.func_of.result _ c.func_of.ensures.refused
