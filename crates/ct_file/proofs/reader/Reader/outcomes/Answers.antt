use Rattle.std.proofs.Common.{sym, ◌∙◌, ap}
use Rattle.std.specs.Prelude.{not}
use Rattle.std.proofs.lemmas.Result.{err_from_is_err_and}
use Rattle.cd_tokens.specs.Placed.{placed_views}
use Rattle.ct_file.specs.declared.keyword.Keyword.TheVariants as words
use Rattle.ct_file.specs.Words.{is_word}
use Rattle.ct_file.specs.Read.{starts_not, alternative_at}
use Rattle.ct_file.proofs.Exact.{shrinks}
use Rattle.ct_file.proofs.Rules.{alternatives}
use Rattle.ct_file.proofs.Loops.{at_end, at_fault, goes_on, fewer}
use Rattle.ct_file.proofs.reader.Reader.outcomes.Goals as goal

pub returns-in_err-alternative : goal.returns-in_err-alternative
returns-in_err-alternative c =
    let p = err_from_is_err_and c.from_residual-in_err-alternative.result c.from_residual-in_err-alternative.ensures.1 in
    rw (p.1, p.2) (at_fault c.in_err-alternative.field-0.0 (starts_not (is_word words.Or)) alternative_at c.loop-items.items.items (placed_views c.loop-items.self.rest.now) _ (ap not (sym c.starts_word.ensures ∙ c.loop-items-test.true)) c.in_err-alternative.ensures c.loop-items.invariant)

pub loop-items-smaller : goal.loop-items-smaller
loop-items-smaller c = fewer alternative_at (shrinks alternatives) _ c.alternative.new.self.rest.now c.loop-items.self.rest.now c.in_ok-alternative.ensures

pub loop-items-preserved : goal.loop-items-preserved
loop-items-preserved c = rw c.in_ok-push-2.ensures.items (goes_on (starts_not (is_word words.Or)) alternative_at (shrinks alternatives) c.loop-items.items.items (placed_views c.loop-items.self.rest.now) _ _ _ (ap not (sym c.starts_word.ensures ∙ c.loop-items-test.true)) c.in_ok-alternative.ensures c.loop-items.invariant)

pub returns : goal.returns
returns c = at_end (starts_not (is_word words.Or)) alternative_at c.loop-items.items.items (placed_views c.loop-items.self.rest.now) _ (ap not (sym c.starts_word.ensures ∙ c.loop-items-test.false)) c.loop-items.invariant
