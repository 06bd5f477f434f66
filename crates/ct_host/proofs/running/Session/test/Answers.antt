use Rattle.std.proofs.Common.{refl}
use Rattle.ct_host.proofs.Tests.{has_ended, parts}
use Rattle.ct_host.proofs.running.Session.test.Goals as goal

pub told-requires-after_bounds : goal.told-requires-after_bounds
told-requires-after_bounds g c κs within =
    has_ended c.args.self.now.limits c.args.chosen.now _ _ _ c.tester-tester.ensures.setting c.tester-tester.ensures.most
    (parts _ _ _ c.args.chosen.now c.suite.view_is c.chosen.view_is refl) c.in_ok-ended.ended
    c.in_ok-ended.ensures.passed c.in_ok-ended.ensures.failed c.in_ok-ended.ensures.undecided
