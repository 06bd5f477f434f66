use Rattle.std.proofs.Common.{arith, rules, refl}
use Rattle.wm_pages.proofs.Steps.{pops, last_saved}
use Rattle.wm_pages.proofs.ranges.Ranges.forget.Goals as goal

pub index_mut-requires : goal.index_mut-requires
index_mut-requires c =
    let last = last_saved c.loop-kept.self _ c.in-Some.kept c.loop-kept.invariant.saved c.in-Some.ensures.items in
    omega (arith, last.2, c.loop-kept.self.marks.ok.0)

pub loop-kept-preserved : goal.loop-kept-preserved
loop-kept-preserved c = record {
  saved = pops c.loop-kept.self _ c.in-Some.kept c.loop-kept.invariant.saved refl c.in-Some.ensures.items (search rules);
  start = search rules;
  marks = search rules;
}
