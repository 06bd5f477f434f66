use Rattle.std.proofs.Common.{◌≡◌, ◌++◌, ◌∷◌, [], sym, ◌∙◌}
use Rattle.std.proofs.lemmas.List.{map_push}
use Rattle.std.proofs.lemmas.Result.{err_from_is_err_and}
use Rattle.cd_tokens.specs.Placed.{placed_view, placed_views}
use Rattle.ct_file.proofs.Loops.{inside_end, inside_fault, inside_on}
use Rattle.ct_file.proofs.reader.Reader.tokens_inside.Goals as goal

pub returns-in_err-token_inside : goal.returns-in_err-token_inside
returns-in_err-token_inside c =
    let p = err_from_is_err_and c.from_residual.result c.from_residual.ensures.1 in
    rw (p.1, p.2) (inside_fault c.in_err-token_inside.field-0.0 c.loop-items.closers (placed_views c.loop-items.items.items) (placed_views c.loop-items.self.rest.now) _ (sym c.ends_arguments.ensures ∙ c.loop-items-test.true) c.in_err-token_inside.ensures c.loop-items.invariant)

pub loop-items-preserved : goal.loop-items-preserved
loop-items-preserved c =
    let more : placed_views c.push.new.self.items ≡ placed_views c.loop-items.items.items ++ placed_view c.in_ok-token_inside.field-0 ∷ [] = rw c.in_ok-push.ensures.items (map_push placed_view c.loop-items.items.items _) in
    rw more (inside_on c.loop-items.closers (placed_views c.loop-items.items.items) (placed_views c.loop-items.self.rest.now) _ _ _ _ (sym c.ends_arguments.ensures ∙ c.loop-items-test.true) c.in_ok-token_inside.ensures c.loop-items.invariant)

pub returns : goal.returns
returns c = inside_end c.loop-items.closers (placed_views c.loop-items.items.items) (placed_views c.loop-items.self.rest.now) _ (sym c.ends_arguments.ensures ∙ c.loop-items-test.false) c.loop-items.invariant
