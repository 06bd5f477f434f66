use Rattle.std.proofs.Common.{◌≡◌, ℕ, ◌-◌, Option, length, ap, ◌∙◌, sym, arith}
use Rattle.std.specs.Prelude.{option_map}
use Rattle.wm_tree.specs.declared.parts.Module.{Module}
use Rattle.wm_valid.specs.SystemApi.{number_of}
use Rattle.wm_valid.specs.Bodies.{hosts_of}
use Rattle.wm_run.specs.declared.activation.Callee.TheVariants.{Own, Host}
use Rattle.wm_run.specs.Callees.{callee_of}
use Rattle.wm_run.proofs.ByTable.{host_at, hosts_many, past_imports}
use Rattle.wm_run.proofs.indirect.callee.Goals as goal

pub overflow_sub-result : goal.overflow_sub-result
overflow_sub-result c =
    let many : c.imports_of-imports.result ≡ length c.args.valid.now.module.imports = c.imports_of-imports.ensures ∙ ap (λ (m : Module). length m.imports) c.module.ensures.same in
    omega (arith, many, past_imports c.args.valid.now c.args.function c.module.ensures.valid (sym c.in-None.ensures))

pub returns-in-Some : goal.returns-in-Some
returns-in-Some c =
    let v = c.args.valid.now in
    let f = c.args.function in
    let own = f - length (hosts_of v.module) in
    ap (λ (n : ℕ). Host n) c.number.ensures.number
    ∙ sym (ap (λ (o : Option ℕ). callee_of o own) (host_at v f c.module.ensures.valid ∙ ap (option_map number_of) (sym c.in-Some.ensures)))

pub returns-in-None : goal.returns-in-None
returns-in-None c =
    let v = c.args.valid.now in
    let f = c.args.function in
    let own = f - length (hosts_of v.module) in
    ap (λ (n : ℕ). Own (f - n)) (c.imports_of-imports.ensures ∙ ap (λ (m : Module). length m.imports) c.module.ensures.same ∙ sym (hosts_many v c.module.ensures.valid))
    ∙ sym (ap (λ (o : Option ℕ). callee_of o own) (host_at v f c.module.ensures.valid ∙ ap (option_map number_of) (sym c.in-None.ensures)))
