use Rattle.std.proofs.Common.{sym, ◌∙◌, ap}
use Rattle.std.specs.Prelude.{not}
use Rattle.std.proofs.lemmas.Result.{err_from_is_err_and}
use Rattle.cd_tokens.specs.Front.{is_mark}
use Rattle.cd_tokens.specs.Placed.{placed_views}
use Rattle.ct_file.specs.Codes.{comma_code}
use Rattle.ct_file.specs.Read.{starts_not, next_user_at}
use Rattle.ct_file.proofs.Exact.{shrinks}
use Rattle.ct_file.proofs.Rules.{next_users}
use Rattle.ct_file.proofs.Loops.{at_end, at_fault, goes_on, fewer}
use Rattle.ct_file.proofs.reader.Reader.users.Goals as goal

pub returns-in_err-next_user : goal.returns-in_err-next_user
returns-in_err-next_user c =
    let p = err_from_is_err_and c.from_residual-in_err-next_user.result c.from_residual-in_err-next_user.ensures.1 in
    rw (p.1, p.2) (at_fault c.in_err-next_user.field-0.0 (starts_not (is_mark comma_code)) next_user_at c.loop-items.items.items (placed_views c.loop-items.self.rest.now) _ (ap not (sym c.starts_mark.ensures ∙ c.loop-items-test.true)) c.in_err-next_user.ensures c.loop-items.invariant)

pub loop-items-smaller : goal.loop-items-smaller
loop-items-smaller c = fewer next_user_at (shrinks next_users) _ c.next_user.new.self.rest.now c.loop-items.self.rest.now c.in_ok-next_user.ensures

pub loop-items-preserved : goal.loop-items-preserved
loop-items-preserved c = rw c.in_ok-push-2.ensures.items (goes_on (starts_not (is_mark comma_code)) next_user_at (shrinks next_users) c.loop-items.items.items (placed_views c.loop-items.self.rest.now) _ _ _ (ap not (sym c.starts_mark.ensures ∙ c.loop-items-test.true)) c.in_ok-next_user.ensures c.loop-items.invariant)

pub returns : goal.returns
returns c = at_end (starts_not (is_mark comma_code)) next_user_at c.loop-items.items.items (placed_views c.loop-items.self.rest.now) _ (ap not (sym c.starts_mark.ensures ∙ c.loop-items-test.false)) c.loop-items.invariant
