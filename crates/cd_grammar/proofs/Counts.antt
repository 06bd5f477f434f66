-- What holds of a file that is read: its places fit, and it has no more definitions than its text has bytes.
use Rattle.std.proofs.Common.{◌≡◌, ℕ, ◌+◌, ◌≤◌, Bool, true, List, [], ◌∷◌, ◌++◌, length, ap, ◌∙◌, length-append, arith, Result, Ok, Err}
use Rattle.std.specs.Prelude.{IfOk}
use Rattle.ic_base.specs.declared.read_error.ReadError.{ReadError}
use Rattle.cd_tokens.specs.Token.{Token}
use Rattle.cd_tokens.specs.Lexed.{IsTokens}
use Rattle.cd_tokens.proofs.Firsts.{some_byte}
use Rattle.cd_grammar.specs.File.{File}
use Rattle.cd_grammar.specs.Grammar.{IsFile}
use Rattle.cd_grammar.specs.Fits.{FitsFile}
use Rattle.cd_grammar.proofs.Fits.{file_fits}
use Rattle.cd_grammar.proofs.Files.{few_definitions}

tokens_few : (comments : Bool) (tokens : List Token) (text : List ℕ) → IsTokens comments tokens text → length tokens ≤ length text
tokens_few comments [] text is = omega arith
tokens_few comments (t ∷ tokens) text next =
    let more = tokens_few comments tokens next.rest next.follows in
    let one = some_byte t next.front next.is_token in
    let size : length text ≡ length next.gap + (length next.front + length next.rest) = ap length next.whole ∙ length-append next.gap (next.front ++ next.rest) ∙ ap (λ n. length next.gap + n) (length-append next.front next.rest) in
    omega (arith, more, one, size)

few_in_text : (file : File) (text : List ℕ) → IsFile file text → length file.definitions ≤ length text
few_in_text file text is =
    let a = few_definitions file.definitions [] file.main file.types is.tokens is.written in
    let b = tokens_few true is.tokens text is.lexed in
    omega (arith, a, b)

pub all_fit : (r : Result File ReadError) (text : List ℕ) → IfOk r (λ f. IsFile f text) → IfOk r FitsFile
all_fit (Ok file) text is = file_fits file text is
all_fit (Err e) text is = tt

pub all_few : (r : Result File ReadError) (text : List ℕ) → IfOk r (λ f. IsFile f text) → IfOk r (λ f. length f.definitions ≤ length text)
all_few (Ok file) text is = few_in_text file text is
all_few (Err e) text is = tt
