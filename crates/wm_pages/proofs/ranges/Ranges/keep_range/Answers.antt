use Rattle.std.proofs.Common.{◌≡◌, ℕ, ◌+◌, ◌-◌, ◌*◌, arith, rules, refl, ap, ◌∙◌, take, drop}
use Rattle.wm_pages.proofs.Back.{covers_push, covers_more}
use Rattle.wm_pages.proofs.Steps.{before_same, before_saved, saves}
use Rattle.wm_pages.proofs.ranges.Ranges.keep_range.Goals as goal

pub returns-in_err-copy-clause-before : goal.returns-in_err-copy-clause-before
returns-in_err-copy-clause-before c = before_same _ _ _ refl refl

pub returns-in_err-push-clause-before : goal.returns-in_err-push-clause-before
returns-in_err-push-clause-before c = before_same _ _ _ refl (search rules)

pub returns-clause-sound : goal.returns-clause-sound
returns-clause-sound c = saves c.args.self.now _ (record { range = c.args.range; bytes = c.in_ok-copy.copy }) _ c.requires.sound refl (search rules) (search rules) c.requires.older c.requires.unmarked (search rules)

pub returns-clause-before : goal.returns-clause-before
returns-clause-before c =
    let size : 4096 * c.args.range + 4096 - 4096 * c.args.range ≡ 4096 = omega arith in
    before_saved c.args.self.now _ (record { range = c.args.range; bytes = c.in_ok-copy.copy }) _ refl (search rules) (omega arith)
    (c.in_ok-copy.ensures ∙ ap (λ (n : ℕ). take n (drop (4096 * c.args.range) c.args.bytes.now)) size)

pub returns-clause-covered : goal.returns-clause-covered
returns-clause-covered c = rw c.in_ok-push.ensures.items (covers_push c.args.self.now.kept.items (record { range = c.args.range; bytes = c.in_ok-copy.copy }))

pub returns-clause-stays : goal.returns-clause-stays
returns-clause-stays c = rw c.in_ok-push.ensures.items (covers_more c.args.self.now.kept.items (record { range = c.args.range; bytes = c.in_ok-copy.copy }))
