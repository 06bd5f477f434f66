use Rattle.std.proofs.Common.{◌≡◌, ◌≤◌, [], length, sym, ap, ◌∙◌, subst, arith, drop_of_length-le}
use Rattle.std.specs.List.{fold}
use Rattle.ic_rounds.specs.Taking.{Taking, sort_out, with_left, is_key, AreTheirs}
use Rattle.ic_rounds.proofs.Gathers.{theirs_more, all_left, none_left}
use Rattle.ic_rounds.proofs.taken.Taken.gather.Goals as goal

pub has_all-requires : goal.has_all-requires
has_all-requires c =
    let is = is_key c.args.canisters.now.entries in
    record { theirs = subst (AreTheirs is) (sym c.in_ok-taken.ensures) (theirs_more is c.loop-message.taken c.in-Some.message c.loop-message.invariant.theirs) }

pub loop-message-preserved : goal.loop-message-preserved
loop-message-preserved c =
    let is = is_key c.args.canisters.now.entries in
    record {
      same = c.loop-message.invariant.same ∙ ap (fold (sort_out is) c.loop-message.taken) c.in-Some.ensures.items ∙ ap (λ (w : Taking). fold (sort_out is) w c.pop_front.new.self.items) (sym c.in_ok-taken.ensures);
      theirs = subst (AreTheirs is) (sym c.in_ok-taken.ensures) (theirs_more is c.loop-message.taken c.in-Some.message c.loop-message.invariant.theirs);
    }

pub returns-then-has_all : goal.returns-then-has_all
returns-then-has_all c =
    let is = is_key c.args.canisters.now.entries in
    c.loop-message.invariant.same ∙ ap (fold (sort_out is) c.loop-message.taken) c.in-Some.ensures.items ∙ ap (λ (w : Taking). fold (sort_out is) w c.pop_front.new.self.items) (sym c.in_ok-taken.ensures)
    ∙ all_left is c.in_ok-taken.taken c.pop_front.new.self.items (c.has_all.ensures c.if-has_all.true)

pub returns : goal.returns
returns c =
    let is = is_key c.args.canisters.now.entries in
    let few : length c.loop-message.messages.items ≤ 0 = omega (arith, c.in_default.ensures.cases.0, c.loop-message.messages.ok.0) in
    let none : c.loop-message.messages.items ≡ [] = drop_of_length-le c.loop-message.messages.items few in
    c.loop-message.invariant.same ∙ ap (fold (sort_out is) c.loop-message.taken) none ∙ none_left c.loop-message.taken
    ∙ ap (with_left c.loop-message.taken) (sym none ∙ c.in_default.ensures.items)
