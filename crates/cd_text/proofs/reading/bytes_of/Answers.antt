use Rattle.std.proofs.Common.{◌≡◌, ◌++◌, ◌∷◌, [], sym, ◌∙◌}
use Rattle.std.proofs.lemmas.Result.{err_from_is_err_and}
use Rattle.cd_tokens.proofs.Streams.{found_is, none_fails}
use Rattle.cd_tokens.specs.View.{token_views}
use Rattle.cd_text.specs.ReadSaid.{item_at, no_place_of, byte_at}
use Rattle.cd_tokens.proofs.Loops.{at_end, no_part_there, last_part, no_separator, part_read, no_fuel}
use Rattle.cd_text.proofs.reading.bytes_of.Goals as goal

pub returns-then-starts_mark : goal.returns-then-starts_mark
returns-then-starts_mark c =
    rw c.rest_of.ensures (at_end 59 125 (item_at c.args.item (byte_at c.args.item c.args.depth)) no_place_of (c.loop.bytes.items) c.args.most c.loop.counter 0 c.loop.unread (token_views c.loop.rest.now) _ c.loop-test.true (sym c.starts_mark.ensures ∙ c.if-starts_mark.true) c.loop.invariant)

pub returns-in_err-byte : goal.returns-in_err-byte
returns-in_err-byte c =
    let p = err_from_is_err_and c.from_residual.result c.from_residual.ensures.1 in
    rw (p.1, p.2) (no_part_there c.in_err-byte.field-0.0 59 125 (item_at c.args.item (byte_at c.args.item c.args.depth)) no_place_of (c.loop.bytes.items) c.args.most c.loop.counter 0 c.loop.unread (token_views c.loop.rest.now) _ c.loop-test.true (sym c.starts_mark.ensures ∙ c.if-starts_mark.false) (none_fails c.in_err-byte.field-0.0 (λ x. (x.0, x.1, token_views x.2.now)) _ _ c.annotated_byte.ensures c.in_err-byte.ensures.ok_part) c.loop.invariant)

pub returns-then-starts_mark-2 : goal.returns-then-starts_mark-2
returns-then-starts_mark-2 c =
    let more : c.push.new.self.items ≡ c.loop.bytes.items ++ c.in_ok-byte.byte ∷ [] = c.in_ok-push.ensures.items in
    rw (c.rest_of-then-starts_mark-2.ensures, more) (last_part 59 125 (item_at c.args.item (byte_at c.args.item c.args.depth)) no_place_of (c.loop.bytes.items) c.args.most c.loop.counter 0 c.loop.unread (token_views c.loop.rest.now) _ (c.in_ok-byte.byte) c.in_ok-byte.left (token_views c.in_ok-byte.after.now) c.loop-test.true (sym c.starts_mark.ensures ∙ c.if-starts_mark.false) (found_is (λ x. (x.0, x.1, token_views x.2.now)) _ _ _ c.annotated_byte.ensures c.in_ok-byte.ensures.ok_part) (sym c.starts_mark-in-loop.ensures ∙ c.if-starts_mark-2.true) c.loop.invariant)

pub returns-then-not-starts_mark : goal.returns-then-not-starts_mark
returns-then-not-starts_mark c =
    no_separator 59 125 (item_at c.args.item (byte_at c.args.item c.args.depth)) no_place_of (c.loop.bytes.items) c.args.most c.loop.counter 0 c.loop.unread (token_views c.loop.rest.now) _ (c.in_ok-byte.byte) c.in_ok-byte.left (token_views c.in_ok-byte.after.now) c.loop-test.true (sym c.starts_mark.ensures ∙ c.if-starts_mark.false) (found_is (λ x. (x.0, x.1, token_views x.2.now)) _ _ _ c.annotated_byte.ensures c.in_ok-byte.ensures.ok_part) (sym c.starts_mark-in-loop.ensures ∙ c.if-starts_mark-2.false) (sym c.starts_mark-in-loop-2.ensures ∙ c.if-not-starts_mark.true) c.loop.invariant

pub loop-preserved : goal.loop-preserved
loop-preserved c =
    let more : c.push.new.self.items ≡ c.loop.bytes.items ++ c.in_ok-byte.byte ∷ [] = c.in_ok-push.ensures.items in
    rw (c.rest_of-rest.ensures, more) (part_read 59 125 (item_at c.args.item (byte_at c.args.item c.args.depth)) no_place_of (c.loop.bytes.items) c.args.most c.loop.counter 0 c.loop.unread (token_views c.loop.rest.now) _ (c.in_ok-byte.byte) c.in_ok-byte.left (token_views c.in_ok-byte.after.now) c.loop-test.true (sym c.starts_mark.ensures ∙ c.if-starts_mark.false) (found_is (λ x. (x.0, x.1, token_views x.2.now)) _ _ _ c.annotated_byte.ensures c.in_ok-byte.ensures.ok_part) (sym c.starts_mark-in-loop.ensures ∙ c.if-starts_mark-2.false) (sym c.starts_mark-in-loop-2.ensures ∙ c.if-not-starts_mark.false) c.loop.invariant)

pub returns : goal.returns
returns c = no_fuel 59 125 (item_at c.args.item (byte_at c.args.item c.args.depth)) no_place_of (c.loop.bytes.items) c.args.most c.loop.counter 0 c.loop.unread (token_views c.loop.rest.now) _ c.loop-test.false c.loop.invariant
