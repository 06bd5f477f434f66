use Rattle.std.proofs.Common.{◌++◌, length, drop, replicate, ap, ◌∙◌}
use Rattle.std.proofs.lemmas.List.{drop-replicate}
use Rattle.ic_principal.proofs.principal.padded.Goals as goal

pub returns : goal.returns
returns c =
    let kept = length c.args.bytes.now in
    ap (λ l. l ++ drop kept (replicate 29 0)) c.copy_from_slice.ensures.after ∙ ap (λ l. c.args.bytes.now ++ l) (drop-replicate kept 29 0)
