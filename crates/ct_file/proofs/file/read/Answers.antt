use Rattle.std.proofs.Common.{sym, subst}
use Rattle.cd_tokens.specs.Placed.{placed_views}
use Rattle.ct_file.specs.Fits.{AreTokens}
use Rattle.ct_file.specs.Grammar.{file_tokens}
use Rattle.ct_file.proofs.Files.{file_found, file_only, no_file}
use Rattle.ct_file.proofs.file.read.Goals as goal

pub returns-in-None-clause-found : goal.returns-in-None-clause-found
returns-in-None-clause-found c =
    let are = subst (λ ts. AreTokens (placed_views ts) c.args.text.now) (sym c.deref.ensures.value) (c.in_ok-tokens.ensures.found c.in-None.is) in
    file_found (placed_views c.deref.result.now) c.args.text.now c.in-Ok.file _ are c.in-Ok.ensures

pub returns-in-None-clause-only : goal.returns-in-None-clause-only
returns-in-None-clause-only c =
    let are = subst (λ ts. AreTokens (placed_views ts) c.args.text.now) (sym c.deref.ensures.value) (c.in_ok-tokens.ensures.found c.in-None.is) in
    file_only (placed_views c.deref.result.now) c.args.text.now c.in-Ok.file _ are c.in-Ok.ensures

pub returns-clause-only : goal.returns-clause-only
returns-clause-only c =
    no_file c.in-Err.parse_error (placed_views c.deref.result.now) c.args.text.now c.error_of.result c.error_of.ensures.memory.0 c.in-Err.ensures (λ file is.
    subst (λ ts. AreTokens (placed_views ts) c.args.text.now) (sym c.deref.ensures.value) (c.in_ok-tokens.ensures.found (c.in_ok-tokens.ensures.only (file_tokens file) is.are)))
