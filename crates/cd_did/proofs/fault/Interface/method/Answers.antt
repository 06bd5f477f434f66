use Rattle.std.proofs.Common.{sym}
use Rattle.std.specs.Prelude.{length}
use Rattle.cd_types.specs.IsInside.{is_inside}
use Rattle.cd_did.proofs.MethodLemmas.{not_named, method_is, args_pass, results_pass}
use Rattle.cd_did.proofs.fault.Interface.method.Goals as goal

pub returns-in-None-type_named-clause-method : goal.returns-in-None-type_named-clause-method
returns-in-None-type_named-clause-method c =
    not_named c.args.self.now c.args.name.now c.in-Some.service c.in-Some-methods_at.methods.now c.in-Some.is (sym c.in-Some-methods_at.ensures.value) (sym c.in-None-type_named.ensures)

pub returns-in-Some-type_named-clause-method : goal.returns-in-Some-type_named-clause-method
returns-in-Some-type_named-clause-method c =
    method_is c.args.self.now c.args.name.now c.in-Some.service c.in-Some-methods_at.methods.now c.in-Some-type_named.ty c.function_at.result c.in-Some.is (sym c.in-Some-methods_at.ensures.value)
    c.in-Some-methods_at.ensures.functions (sym c.in-Some-type_named.ensures) c.function_at.ensures.value

pub returns-in-Some-type_named-clause-args : goal.returns-in-Some-type_named-clause-args
returns-in-Some-type_named-clause-args c = args_pass (is_inside (length c.args.self.now.table)) c.function_at.result c.function_at.ensures.within

pub returns-in-Some-type_named-clause-results : goal.returns-in-Some-type_named-clause-results
returns-in-Some-type_named-clause-results c = results_pass (is_inside (length c.args.self.now.table)) c.function_at.result c.function_at.ensures.within
