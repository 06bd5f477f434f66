use Rattle.std.proofs.Common.{◌≡◌, ℕ, List, [], ◌∙◌, sym, subst, rules}
use Rattle.std.specs.Ordering.{nat_cmp}
use Rattle.std.specs.Cmp.Lexicographic.{slice_cmp}
use Rattle.std.specs.BTreeMap.{insert_entry}
use Rattle.std.proofs.lemmas.List.{map-id}
use Rattle.std.proofs.lemmas.Iterator.Adapters.{YieldsList-from_vec}
use Rattle.std.proofs.lemmas.Iterator.Consumers.{YieldsList-end}
use Rattle.ic_queues.proofs.Starts.{Rises}
use Rattle.ic_queues.proofs.Moves.{Moved, MovedEnds, moved-start, moved-turn, moved-ends}
use Rattle.ic_queues.proofs.moving.moved.Goals as goal

pub loop-key-init : goal.loop-key-init
loop-key-init c = λ rises.
    let none : c.new-waiting.result.entries ≡ [] = search rules in
    subst (λ (ws : List (List ℕ × List ℕ)). Moved c.args.lists.messages.entries c.args.lists.waiting.entries c.args.lists.outside ws []) (sym none)
    (moved-start c.args.lists.messages.entries c.args.lists.waiting.entries c.args.lists.outside c.args.lists.messages.next c.requires.queued)

pub loop-key-preserved-in_ok-insert : goal.loop-key-preserved-in_ok-insert
loop-key-preserved-in_ok-insert c = λ rises.
    let made : c.insert.new.self.entries ≡ insert_entry (slice_cmp nat_cmp) c.loop-key.waiting.entries c.in-Some.key c.in_ok-line.line = search rules in
    moved-turn c.args.lists.messages.entries c.loop-key.before.entries c.loop-key.outside c.loop-key.waiting.entries c.loop-key.yielded c.in-Some.key c.in_ok-line.line
    c.line_of.new.before.entries c.line_of.new.outside c.insert.new.self.entries c.requires.queued.ordered rises c.loop-key.invariant
    c.in_ok-line.ensures.line c.in_ok-line.ensures.before c.in_ok-line.ensures.outside made

pub loop-key-preserved : goal.loop-key-preserved
loop-key-preserved c = λ rises.
    let made : c.insert.new.self.entries ≡ insert_entry (slice_cmp nat_cmp) c.loop-key.waiting.entries c.in-Some.key c.in_ok-line.line = search rules in
    moved-turn c.args.lists.messages.entries c.loop-key.before.entries c.loop-key.outside c.loop-key.waiting.entries c.loop-key.yielded c.in-Some.key c.in_ok-line.line
    c.line_of.new.before.entries c.line_of.new.outside c.insert.new.self.entries c.requires.queued.ordered rises c.loop-key.invariant
    c.in_ok-line.ensures.line c.in_ok-line.ensures.before c.in_ok-line.ensures.outside made

ends : (c : goal.In_ok-outside) → MovedEnds c.args.lists.messages.entries c.loop-key.waiting.entries c.in_ok-outside.outside c.args.lists.messages.next c.args.canisters.items
ends c =
    let gives = c.into_iter-key-iterator.ensures.into_iter_gives in
    let road = YieldsList-from_vec {s = c.into_iter-key-iterator.result} c.args.canisters.items gives.0 (gives.1 ∙ c.args.canisters.ok.0) in
    let all : c.loop-key.yielded ≡ c.args.canisters.items = sym (map-id c.loop-key.yielded) ∙ (YieldsList-end road c.loop-key.yielded c.loop-key.key-iterator c.loop-key.yielded_by c.next.result c.next.new.self c.in-None.is c.next.ensures.steps).0 in
    let l = c.args.lists in
    subst (λ ks. MovedEnds l.messages.entries c.loop-key.waiting.entries c.in_ok-outside.outside l.messages.next ks) all
    (moved-ends l.messages.entries l.waiting.entries l.outside l.messages.next c.requires.queued c.loop-key.before.entries c.loop-key.outside c.loop-key.waiting.entries c.loop-key.yielded c.in_ok-outside.outside
    (subst Rises (sym all) c.requires.rising) c.loop-key.invariant c.in_ok-outside.ensures)

pub returns-clause-keeps : goal.returns-clause-keeps
returns-clause-keeps c = (ends c).queued

pub returns-clause-canisters : goal.returns-clause-canisters
returns-clause-canisters c = (ends c).keys_are
