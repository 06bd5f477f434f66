use Rattle.std.proofs.Common.{lit<, Some, None, sym, ◌∙◌}
use Rattle.std.specs.Prelude.{◌==◌}
use Rattle.std.proofs.lemmas.Bool.{false_from_ne_true, eqb-true}
use Rattle.std.proofs.lemmas.List.{get_or_default}
use Rattle.std.proofs.lemmas.List.Splits.{slice_split_first, slice_split_none}
use Rattle.std.proofs.lemmas.Str.Pattern.{split_once_first, split_parts}
use Rattle.ic_script.specs.Words.{words_of}
use Rattle.ic_script.proofs.words.first_word.Goals as goal

pub returns-in-Some : goal.returns-in-Some
unfolding words_of
returns-in-Some c =
    let first = split_once_first 32 c.args.text.now (Some (c.in-Some.word, c.in-Some.rest)) c.in-Some.ensures.cases (lit< tt) in
    let cut = slice_split_first (λ byte. byte == 32) c.args.text.now 0 first.0 in
    cc

pub returns-in-None : goal.returns-in-None
unfolding words_of
returns-in-None c =
    let no_space = split_parts 32 c.args.text.now None c.in-None.ensures.cases (lit< tt) in
    slice_split_none (λ byte. byte == 32) c.args.text.now
    (λ i d h. false_from_ne_true _ (λ is. no_space i h (sym (get_or_default c.args.text.now i d 0 h) ∙ eqb-true _ _ is)))
