use Rattle.std.proofs.Common.{◌<◌, length, sym, subst, arith}
use Rattle.std.proofs.lemmas.List.{get_or_read, take_all}
use Rattle.std.proofs.lemmas.List.Sorted.{length_permutation}
use Rattle.std.specs.List.{AllByRecursion}
use Rattle.cd_sub.specs.Pairs.{PlaceSub}
use Rattle.cd_sub.specs.Marks.{Tried}
use Rattle.cd_sub.proofs.ArrangeLemmas.{all_moved, arranged_step, right_moved}
use Rattle.cd_sub.proofs.SearchLemmas.{Shown, at_index, each_there, searched_yes}
use Rattle.cd_sub.proofs.search.search.Goals as goal

pub loop-next-init : goal.loop-next-init
loop-next-init c =
    record { reached = omega arith; inside = c.requires.inside; right = c.requires.right; shown = tt; needed = λ all. all; there = each_there c.args.met.now.items }

pub index-requires : goal.index-requires
index-requires c =
    let met = c.loop-next.met in
    let now = c.arrange-arranged.new.met in
    omega (arith, met.ok.0, now.ok.0, length_permutation met.items now.items c.arrange-arranged.ensures.same)

pub show-requires-clause-place : goal.show-requires-clause-place
show-requires-clause-place c =
    let met = c.loop-next.met in
    let now = c.arrange-arranged.new.met in
    let same = c.arrange-arranged.ensures.same in
    let reach : c.loop-next.next < length now.items = omega (arith, met.ok.0, length_permutation met.items now.items same) in
    let read = get_or_read now.items c.loop-next.next c.index.result.now reach c.index.ensures 0 in
    let inside = all_moved (λ place. place < length c.loop-next.marks) met.items now.items same c.loop-next.invariant.inside in
    subst (λ place. place < length c.loop-next.marks) (sym read) (at_index (λ place. place < length c.loop-next.marks) now.items c.loop-next.next reach inside)

pub show-requires-clause-inside : goal.show-requires-clause-inside
show-requires-clause-inside c =
    all_moved (λ place. place < length c.loop-next.marks) c.loop-next.met.items c.arrange-arranged.new.met.items c.arrange-arranged.ensures.same c.loop-next.invariant.inside

pub show-requires-clause-right : goal.show-requires-clause-right
show-requires-clause-right c =
    right_moved c.args.first.now c.args.second.now c.loop-next.marks c.loop-next.met.items c.arrange-arranged.new.met.items c.arrange-arranged.ensures.same c.loop-next.invariant.right

pub returns-then-not-branch-clause-inside : goal.returns-then-not-branch-clause-inside
returns-then-not-branch-clause-inside c = subst (λ size. AllByRecursion (λ place. place < size) c.show.new.met.items) c.loop-next.auto.marks c.in_ok-show.ensures.inside

pub returns-then-not-branch-clause-searched : goal.returns-then-not-branch-clause-searched
returns-then-not-branch-clause-searched c = λ all.
    let first = c.args.first.now in
    let second = c.args.second.now in
    let met = c.loop-next.met in
    let now = c.arrange-arranged.new.met in
    let same = c.arrange-arranged.ensures.same in
    let reach : c.loop-next.next < length now.items = omega (arith, met.ok.0, length_permutation met.items now.items same) in
    let read = get_or_read now.items c.loop-next.next c.index.result.now reach c.index.ensures 0 in
    let holds = at_index (PlaceSub first second) now.items c.loop-next.next reach (all_moved (PlaceSub first second) met.items now.items same (c.loop-next.invariant.needed all)) in
    subst (λ shown. Tried shown first second c.loop-next.marks c.show.new.marks now.items c.show.new.met.items c.index.result.now) c.if-not-branch.true c.in_ok-show.ensures.tried
    (subst (PlaceSub first second) (sym read) holds)

pub loop-next-preserved : goal.loop-next-preserved
loop-next-preserved c =
    let met = c.loop-next.met in
    let now = c.arrange-arranged.new.met in
    let same = c.arrange-arranged.ensures.same in
    let so_far = c.loop-next.invariant in
    let reach : c.loop-next.next < length met.items = omega (arith, met.ok.0) in
    let longer = length_permutation met.items now.items same in
    let read = get_or_read now.items c.loop-next.next c.index.result.now (omega (arith, longer)) c.index.ensures 0 in
    let below = subst (λ place. place < length c.loop-next.marks) (sym read) (at_index (λ place. place < length c.loop-next.marks) now.items c.loop-next.next (omega (arith, longer)) (all_moved (λ place. place < length c.loop-next.marks) met.items now.items same so_far.inside)) in
    let step =
    arranged_step c.args.first.now c.args.second.now c.loop-next.marks c.show.new.marks c.args.met.now.items met.items now.items c.show.new.met.items c.loop-next.next c.index.result.now
    same c.arrange-arranged.ensures.shown reach read (omega (arith, c.requires.room)) c.in_ok-show.field-0 c.if-not-branch.false c.in_ok-show.ensures.tried so_far.shown so_far.needed so_far.there in
    record {
      reached = step.reached;
      inside = subst (λ size. AllByRecursion (λ place. place < size) c.show.new.met.items) (sym c.show.auto.marks) c.in_ok-show.ensures.inside;
      right = c.in_ok-show.ensures.right;
      shown = step.shown;
      needed = step.needed;
      there = step.there;
    }

pub loop-next-smaller : goal.loop-next-smaller
loop-next-smaller c =
    let met = c.loop-next.met in
    let now = c.arrange-arranged.new.met in
    let same = c.arrange-arranged.ensures.same in
    let so_far = c.loop-next.invariant in
    let reach : c.loop-next.next < length met.items = omega (arith, met.ok.0) in
    let longer = length_permutation met.items now.items same in
    let read = get_or_read now.items c.loop-next.next c.index.result.now (omega (arith, longer)) c.index.ensures 0 in
    let below = subst (λ place. place < length c.loop-next.marks) (sym read) (at_index (λ place. place < length c.loop-next.marks) now.items c.loop-next.next (omega (arith, longer)) (all_moved (λ place. place < length c.loop-next.marks) met.items now.items same so_far.inside)) in
    let step =
    arranged_step c.args.first.now c.args.second.now c.loop-next.marks c.show.new.marks c.args.met.now.items met.items now.items c.show.new.met.items c.loop-next.next c.index.result.now
    same c.arrange-arranged.ensures.shown reach read (omega (arith, c.requires.room)) c.in_ok-show.field-0 c.if-not-branch.false c.in_ok-show.ensures.tried so_far.shown so_far.needed so_far.there in
    omega (arith, step.smaller, longer)

pub returns-clause-inside : goal.returns-clause-inside
returns-clause-inside c = subst (λ size. AllByRecursion (λ place. place < size) c.loop-next.met.items) c.loop-next.auto.marks c.loop-next.invariant.inside

pub returns-clause-searched : goal.returns-clause-searched
returns-clause-searched c =
    let met = c.loop-next.met in
    let all = take_all c.loop-next.next met.items (omega (arith, met.ok.0)) in
    searched_yes c.args.first.now c.args.second.now c.loop-next.marks c.args.met.now.items met.items c.loop-next.invariant.there c.loop-next.invariant.right
    (subst (AllByRecursion (Shown c.args.first.now c.args.second.now c.loop-next.marks)) all c.loop-next.invariant.shown)
