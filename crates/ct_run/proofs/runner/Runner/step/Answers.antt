use Rattle.std.proofs.Common.{◌≡◌, ◌++◌, List, [], ◌∷◌, ℕ, map, ap, ◌∙◌}
use Rattle.ct_check.specs.declared.checked.CheckedKind.TheVariants as kinds
use Rattle.ct_check.specs.declared.checked.CheckedOrigin.{CheckedOrigin}
use Rattle.ct_check.specs.declared.checked.CheckedUser.{CheckedUser}
use Rattle.ct_run.specs.Statements.{principal_named, user_named}
use Rattle.ct_run.proofs.Steps.{users_steps, time_steps, principal_steps}
use Rattle.ct_run.proofs.runner.Runner.step.Goals as goal

pub returns-in_ok-bind_users-in-Users : goal.returns-in_ok-bind_users-in-Users
returns-in_ok-bind_users-in-Users g c =
    let same : c.deref.result.now ≡ c.in-Users.users = c.deref.ensures.value ∙ c.users.view_is in
    let binds = c.in_ok-bind_users-in-Users.ensures ∙ ap (λ (users : List CheckedUser). c.args.names.now ++ map user_named users) same in
    users_steps c.args.self.now c.args.world c.args.names.now c.args.kind.now c.in-Users.users c.bind_users.new.names c.in-Users.is binds

pub returns-in_ok-time-in-Time : goal.returns-in_ok-time-in-Time
returns-in_ok-time-in-Time g c =
    time_steps c.args.self.now c.args.world c.args.names.now c.args.kind.now c.in-Time.time c.set_time.result c.in-Time.is (c.set_time.ensures c.args.self.now.charge)

pub returns-in_ok-bind-in-Principal : goal.returns-in_ok-bind-in-Principal
returns-in_ok-bind-in-Principal g c =
    let is = c.in-Canister.is ∙ ap (λ (origin : CheckedOrigin). kinds.Canister c.in-Canister.by c.in-Canister.name origin) c.in-Principal.is in
    let binds = c.in_ok-bind-in-Principal.ensures ∙ ap (λ (name : List ℕ). c.args.names.now ++ principal_named name c.in-Principal.id ∷ []) c.name.view_is in
    principal_steps c.args.self.now c.args.world c.args.names.now c.args.kind.now c.in-Canister.by c.in-Canister.name c.in-Principal.id c.in-Principal.interface c.bind.new.self is binds
