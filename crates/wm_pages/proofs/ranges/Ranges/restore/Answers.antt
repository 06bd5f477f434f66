use Rattle.std.proofs.Common.{ℕ, List, ◌*◌, length, append-nil, arith, rules, refl, sym, ◌∙◌, ap}
use Rattle.wm_pages.specs.Over.{over}
use Rattle.wm_pages.proofs.Steps.{restores, before_same, before_popped, last_saved}
use Rattle.wm_pages.proofs.ranges.Ranges.restore.Goals as goal

pub overflow_mul-kept : goal.overflow_mul-kept
overflow_mul-kept c =
    let sound = c.loop-kept.invariant.sound in
    let last = last_saved c.loop-kept.self _ c.in-Some.kept sound.saved c.in-Some.ensures.items in
    omega (arith, last.1, sound.older, sound.few)

pub paste-requires : goal.paste-requires
paste-requires c =
    let sound = c.loop-kept.invariant.sound in
    let last = last_saved c.loop-kept.self _ c.in-Some.kept sound.saved c.in-Some.ensures.items in
    omega (arith, last.0, last.1, sound.older, ap length c.as_slice.ensures.value)

pub index_mut-requires : goal.index_mut-requires
index_mut-requires c =
    let last = last_saved c.loop-kept.self _ c.in-Some.kept c.loop-kept.invariant.sound.saved c.in-Some.ensures.items in
    omega (arith, last.2, c.loop-kept.self.marks.ok.0)

pub loop-kept-preserved : goal.loop-kept-preserved
loop-kept-preserved c =
    let old = c.loop-kept.self in
    let k = c.in-Some.kept in
    let over_is = c.paste.ensures ∙ ap (λ (bytes : List ℕ). over (4096 * k.range) bytes c.loop-kept.bytes) c.as_slice.ensures.value in
    record {
      sound = rw over_is (restores old _ k c.loop-kept.bytes c.loop-kept.invariant.sound refl c.in-Some.ensures.items (search rules));
      start = c.loop-kept.invariant.start;
      before = rw over_is (before_popped old _ k c.loop-kept.bytes refl c.in-Some.ensures.items ∙ c.loop-kept.invariant.before);
    }

pub returns-clause-before : goal.returns-clause-before
returns-clause-before c = before_same c.loop-kept.self _ c.loop-kept.bytes refl (sym (c.in_default.ensures.items ∙ append-nil _)) ∙ c.loop-kept.invariant.before
