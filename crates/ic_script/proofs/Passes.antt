-- Lines that one pass over their bytes finds well formed.
use Rattle.std.proofs.Common.{◌≡◌, ◌∙◌, refl, sym, ap, arith, ℕ, suc, Bool, true, false, List, [], ◌∷◌, length, drop, ◌<◌, ◌+◌, cond}
use Rattle.std.specs.Prelude.{◌==◌, ◌&&◌, not}
use Rattle.std.specs.List.{list_all, onto_first, slice_index_or}
use Rattle.std.proofs.Math.Dec.{eqb-suc-zero}
use Rattle.std.proofs.Math.Seq.{drop-cons}
use Rattle.ic_script.specs.Words.{is_printable, is_well_formed, is_word, may_follow, words_of}

-- each byte may follow the one before it, of which the first is given, and the last one is no space
unfoldable pub follows : ℕ → List ℕ → Bool
follows last [] = not (last == 32)
follows last (byte ∷ bytes) = may_follow last byte && follows byte bytes

-- whether the words after a byte are words: after a space the first too
abbrev words_after : Bool → List (List ℕ) → Bool
words_after space [] = true
words_after space (word ∷ words) = not (space && length word == 0) && list_all is_word words

swap : (p q n r : Bool) → (p && q) && (n && r) ≡ (p && n) && (q && r)
swap false q n r = refl
swap true false false r = refl
swap true false true r = refl
swap true true n r = refl

one_more : (byte : ℕ) (last space : Bool) (words : List (List ℕ)) (p all rest : Bool) → all && words_after space words ≡ rest
    → (p && all) && words_after last (cond space ([] ∷ words) (onto_first byte words)) ≡ (p && not (space && last)) && rest
one_more byte true true [] p all rest h = swap p all false true ∙ ap (λ r. (p && false) && r) h
one_more byte false true [] p all rest h = swap p all true true ∙ ap (λ r. (p && true) && r) h
one_more byte true false [] p all rest h = swap p all true true ∙ ap (λ r. (p && true) && r) h
one_more byte false false [] p all rest h = swap p all true true ∙ ap (λ r. (p && true) && r) h
one_more byte true true (w ∷ ws) p all rest h = swap p all false (words_after true (w ∷ ws)) ∙ ap (λ r. (p && false) && r) h
one_more byte false true (w ∷ ws) p all rest h = swap p all true (words_after true (w ∷ ws)) ∙ ap (λ r. (p && true) && r) h
one_more byte true false (w ∷ ws) p all rest h =
    ap (λ empty. (p && all) && (not empty && list_all is_word ws)) (eqb-suc-zero (length w))
    ∙ (swap p all true (words_after false (w ∷ ws)) ∙ ap (λ r. (p && true) && r) h)
one_more byte false false (w ∷ ws) p all rest h = swap p all true (words_after false (w ∷ ws)) ∙ ap (λ r. (p && true) && r) h

at_end : (space : Bool) → not (space && true) && true ≡ not space
at_end true = refl
at_end false = refl

passes : (last : ℕ) (bytes : List ℕ) → list_all is_printable bytes && words_after (last == 32) (words_of bytes) ≡ follows last bytes
unfolding follows words_of
passes last [] = at_end (last == 32)
passes last (byte ∷ bytes) =
    one_more byte (last == 32) (byte == 32) (words_of bytes) (is_printable byte) (list_all is_printable bytes) (follows byte bytes) (passes byte bytes)

after_space : (words : List (List ℕ)) → list_all is_word words ≡ words_after true words
after_space [] = refl
after_space (w ∷ ws) = refl

pub well_formed : (line : List ℕ) → follows 32 line ≡ is_well_formed line
unfolding is_well_formed
well_formed line = sym (ap (λ words. list_all is_printable line && words) (after_space (words_of line)) ∙ passes 32 line)

-- the next byte of a line
pub next : (line : List ℕ) (at last d : ℕ) → at < length line
    → follows last (drop at line) ≡ may_follow last (slice_index_or line at d) && follows (slice_index_or line at d) (drop (at + 1) line)
unfolding follows
next line at last d lt =
    let more : suc at ≡ at + 1 = omega arith in
    ap (follows last) (drop-cons line at d lt ∙ ap (λ n. slice_index_or line at d ∷ drop n line) more)
