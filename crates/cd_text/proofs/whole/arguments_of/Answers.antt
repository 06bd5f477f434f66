use Rattle.std.proofs.Common.{◌≡◌, length, sym, ◌∙◌, arith}
use Rattle.std.proofs.lemmas.Result.{err_from_is_err_and}
use Rattle.cd_codec.specs.View.{view, views}
use Rattle.cd_tokens.specs.View.{token_views}
use Rattle.cd_text.specs.Placed.{placed}
use Rattle.cd_text.specs.ReadSaid.{argument_at, after_field}
use Rattle.cd_tokens.proofs.Loops.{at_end, no_part_there, last_part, no_separator, part_read, no_fuel}
use Rattle.cd_text.proofs.Arguments.{placed_more, length_more, at_count, fails_at}
use Rattle.cd_text.proofs.whole.arguments_of.Goals as goal

pub returns-then-starts_mark : goal.returns-then-starts_mark
returns-then-starts_mark c =
    rw c.rest_of.ensures (at_end 44 41 (argument_at c.args.table.now c.args.types.now) after_field (placed 0 (views c.loop.values.items)) c.args.most c.loop.counter (length c.loop.values.items) c.loop.unread (token_views c.loop.rest.now) _ c.loop-test.true (sym c.starts_mark.ensures ∙ c.if-starts_mark.true) c.loop.invariant)

pub returns-in_err-value : goal.returns-in_err-value
returns-in_err-value c =
    let n : c.len.result ≡ length c.loop.values.items = omega (arith, c.len.ensures, c.loop.values.ok.0) in
    let p = err_from_is_err_and c.from_residual.result c.from_residual.ensures.1 in
    rw (p.1, p.2) (no_part_there c.in_err-value.field-0.0 44 41 (argument_at c.args.table.now c.args.types.now) after_field (placed 0 (views c.loop.values.items)) c.args.most c.loop.counter (length c.loop.values.items) c.loop.unread (token_views c.loop.rest.now) _ c.loop-test.true (sym c.starts_mark.ensures ∙ c.if-starts_mark.false) (fails_at c.in_err-value.field-0.0 c.args.table.now c.args.types.now c.len.result (length c.loop.values.items) c.loop.unread (token_views c.loop.rest.now) n c.in_err-value.ensures) c.loop.invariant)

pub returns-then-starts_mark-2 : goal.returns-then-starts_mark-2
returns-then-starts_mark-2 c =
    let n : c.len.result ≡ length c.loop.values.items = omega (arith, c.len.ensures, c.loop.values.ok.0) in
    let one = at_count c.args.table.now c.args.types.now c.len.result (length c.loop.values.items) c.loop.unread (token_views c.loop.rest.now) (view c.in_ok-value.value) c.in_ok-value.left (token_views c.in_ok-value.after.now) n c.in_ok-value.ensures in
    let more = placed_more c.loop.values.items c.in_ok-value.value c.push.new.self.items c.in_ok-push.ensures.items in
    rw (c.rest_of-then-starts_mark-2.ensures, more) (last_part 44 41 (argument_at c.args.table.now c.args.types.now) after_field (placed 0 (views c.loop.values.items)) c.args.most c.loop.counter (length c.loop.values.items) c.loop.unread (token_views c.loop.rest.now) _ (length c.loop.values.items, view c.in_ok-value.value) c.in_ok-value.left (token_views c.in_ok-value.after.now) c.loop-test.true (sym c.starts_mark.ensures ∙ c.if-starts_mark.false) one (sym c.starts_mark-in-loop.ensures ∙ c.if-starts_mark-2.true) c.loop.invariant)

pub returns-then-not-starts_mark : goal.returns-then-not-starts_mark
returns-then-not-starts_mark c =
    let n : c.len.result ≡ length c.loop.values.items = omega (arith, c.len.ensures, c.loop.values.ok.0) in
    let one = at_count c.args.table.now c.args.types.now c.len.result (length c.loop.values.items) c.loop.unread (token_views c.loop.rest.now) (view c.in_ok-value.value) c.in_ok-value.left (token_views c.in_ok-value.after.now) n c.in_ok-value.ensures in
    no_separator 44 41 (argument_at c.args.table.now c.args.types.now) after_field (placed 0 (views c.loop.values.items)) c.args.most c.loop.counter (length c.loop.values.items) c.loop.unread (token_views c.loop.rest.now) _ (length c.loop.values.items, view c.in_ok-value.value) c.in_ok-value.left (token_views c.in_ok-value.after.now) c.loop-test.true (sym c.starts_mark.ensures ∙ c.if-starts_mark.false) one (sym c.starts_mark-in-loop.ensures ∙ c.if-starts_mark-2.false) (sym c.starts_mark-in-loop-2.ensures ∙ c.if-not-starts_mark.true) c.loop.invariant

pub loop-preserved : goal.loop-preserved
loop-preserved c =
    let n : c.len.result ≡ length c.loop.values.items = omega (arith, c.len.ensures, c.loop.values.ok.0) in
    let one = at_count c.args.table.now c.args.types.now c.len.result (length c.loop.values.items) c.loop.unread (token_views c.loop.rest.now) (view c.in_ok-value.value) c.in_ok-value.left (token_views c.in_ok-value.after.now) n c.in_ok-value.ensures in
    let more = placed_more c.loop.values.items c.in_ok-value.value c.push.new.self.items c.in_ok-push.ensures.items in
    let longer = length_more c.loop.values.items c.in_ok-value.value c.push.new.self.items c.in_ok-push.ensures.items in
    rw (c.rest_of-rest.ensures, more, longer) (part_read 44 41 (argument_at c.args.table.now c.args.types.now) after_field (placed 0 (views c.loop.values.items)) c.args.most c.loop.counter (length c.loop.values.items) c.loop.unread (token_views c.loop.rest.now) _ (length c.loop.values.items, view c.in_ok-value.value) c.in_ok-value.left (token_views c.in_ok-value.after.now) c.loop-test.true (sym c.starts_mark.ensures ∙ c.if-starts_mark.false) one (sym c.starts_mark-in-loop.ensures ∙ c.if-starts_mark-2.false) (sym c.starts_mark-in-loop-2.ensures ∙ c.if-not-starts_mark.false) c.loop.invariant)

pub returns : goal.returns
returns c = no_fuel 44 41 (argument_at c.args.table.now c.args.types.now) after_field (placed 0 (views c.loop.values.items)) c.args.most c.loop.counter (length c.loop.values.items) c.loop.unread (token_views c.loop.rest.now) _ c.loop-test.false c.loop.invariant
