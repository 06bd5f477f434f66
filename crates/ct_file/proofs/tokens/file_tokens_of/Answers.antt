use Rattle.std.proofs.Common.{ap, ◌∙◌}
use Rattle.std.specs.List.{prefix_len}
use Rattle.cd_tokens.specs.Placed.{placed_views, is_within}
use Rattle.ct_file.specs.Fits.{is_proper}
use Rattle.ct_file.proofs.WholeTokens.{take_passes, whole_tokens, all_whole}
use Rattle.ct_file.proofs.tokens.file_tokens_of.Goals as goal

pub returns-clause-found : goal.returns-clause-found
returns-clause-found c = λ none.
    let h = c.fault_after-fault.ensures.none.0 none in
    let whole = c.whole_len-len.ensures.all h.2 ∙ ap (λ ts. prefix_len is_proper (placed_views ts)) c.deref.ensures.value in
    rw c.truncate.ensures.items (whole_tokens c.whole_len-len.result c.in_ok-placed.placed.items.items c.args.text.now (c.invalid_at-invalid.ensures.value.0 h.2) (c.in_ok-placed.ensures.found h.1) h.0 whole)

pub returns-clause-only : goal.returns-clause-only
returns-clause-only c = λ tokens are.
    let valid = c.invalid_at-invalid.ensures.value.1 are.utf8 in
    let whole = c.whole_len-len.ensures.all valid ∙ ap (λ ts. prefix_len is_proper (placed_views ts)) c.deref.ensures.value in
    let no_stop = c.in_ok-placed.ensures.only tokens are.lexed in
    c.fault_after-fault.ensures.none.1 (all_whole c.whole_len-len.result c.in_ok-placed.placed.items.items tokens c.args.text.now (c.in_ok-placed.ensures.found no_stop) are whole, no_stop, valid)

pub returns-clause-places : goal.returns-clause-places
returns-clause-places c = rw c.truncate.ensures.items (take_passes (is_within c.args.text.now) c.whole_len-len.result c.in_ok-placed.placed.items.items c.in_ok-placed.ensures.places)
