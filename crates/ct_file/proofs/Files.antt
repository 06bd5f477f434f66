-- The file that a text is.
use Rattle.std.proofs.Common.{◌≡◌, ℕ, true, List, [], ◌∷◌, ◌++◌, Option, Some, None, refl, sym, ap, subst, ◌∙◌}
use Rattle.std.specs.Prelude.{Err}
use Rattle.std.proofs.lemmas.List.{append-nil}
use Rattle.ic_base.proofs.Steps.{some_is}
use Rattle.cd_tokens.specs.Token.{Token}
use Rattle.cd_tokens.proofs.Streams.{one_list}
use Rattle.ct_file.specs.declared.tree.File.{File}
use Rattle.ct_file.specs.declared.cause.FileError.{FileError}
use Rattle.ct_file.specs.declared.cause.FileError.TheVariants as errors
use Rattle.ct_file.specs.declared.cause.ParseError.{ParseError}
use Rattle.ct_file.specs.declared.cause.ParseError.TheVariants.{NoMemory, BadString, Expected}
use Rattle.ct_file.specs.Answer.{Answers}
use Rattle.ct_file.specs.Fits.{AreTokens, IsFile}
use Rattle.ct_file.specs.Gives.{Fails}
use Rattle.ct_file.specs.Grammar.{file_tokens}
use Rattle.ct_file.specs.Read.{are_none, file_at}
use Rattle.ct_file.proofs.Whole.{file_exact, file_ends}

no_rest : (tokens : List Token) → are_none tokens ≡ true → tokens ≡ []
no_rest [] e = refl
no_rest (t ∷ tokens) e = absurd cc

all_tokens : (tokens : List Token) (file : File) (rest : List Token) → file_at tokens ≡ Some (file, rest) → tokens ≡ file_tokens file
all_tokens tokens file rest e = (file_exact.takes tokens (file, rest) e).0 ∙ ap (λ ts. file_tokens file ++ ts) (no_rest rest (file_ends tokens (file, rest) e)) ∙ append-nil (file_tokens file)

pub file_found : (tokens : List Token) (text : List ℕ) (file : File) (rest : List Token) → AreTokens tokens text → file_at tokens ≡ Some (file, rest) → IsFile file text
file_found tokens text file rest are e = record { are = subst (λ ts. AreTokens ts text) (all_tokens tokens file rest e) are; fits = (file_exact.takes tokens (file, rest) e).1 }

pub file_again : (tokens : List Token) (text : List ℕ) (file : File) → AreTokens tokens text → IsFile file text → file_at tokens ≡ Some (file, [])
file_again tokens text file are is =
    let same : tokens ≡ file_tokens file = one_list true tokens (file_tokens file) text are.lexed is.are.lexed in
    ap file_at (same ∙ sym (append-nil (file_tokens file))) ∙ file_exact.again file [] is.fits refl

pub file_only : (tokens : List Token) (text : List ℕ) (file : File) (rest : List Token) → AreTokens tokens text → file_at tokens ≡ Some (file, rest) → (other : File) → IsFile other text → file ≡ other
file_only tokens text file rest are e other is = ap (λ (z : File × List Token). z.0) (some_is {A = File × List Token} (file, rest) (other, []) (sym e ∙ file_again tokens text other are is))

-- and one whose tokens are no file is none
none_some : {A : Type 0} (x : A) (read : Option A) → read ≡ None → read ≡ Some x → ⊥
none_some x read e f = cc

pub no_file : (parse_error : ParseError) (tokens : List Token) (text : List ℕ) (error : FileError) → (parse_error ≡ NoMemory → error ≡ errors.NoMemory) → Fails parse_error (file_at tokens) → ((file : File) → IsFile file text → AreTokens tokens text)
    → (file : File) → IsFile file text → Answers (Err error) file
no_file NoMemory tokens text error memory fails are file is = rw (memory refl) tt
no_file BadString tokens text error memory fails are file is = absurd (none_some (file, []) (file_at tokens) fails (file_again tokens text file (are file is) is))
no_file (Expected wanted) tokens text error memory fails are file is = absurd (none_some (file, []) (file_at tokens) fails (file_again tokens text file (are file is) is))

pub one_file : (file other : File) (text : List ℕ) → IsFile file text → IsFile other text → file ≡ other
one_file file other text is are =
    let read : file_at (file_tokens file) ≡ Some (file, []) = file_again (file_tokens file) text file is.are is in
    file_only (file_tokens file) text file [] is.are read other are
