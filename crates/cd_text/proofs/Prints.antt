-- Tokens one after the other as they are printed.
use Rattle.std.proofs.Common.{◌≡◌, ℕ, ◌<◌, true, false, List, [], ◌∷◌, ◌++◌, codes, refl, sym, ap, subst, ◌∙◌, append_assoc, inl, inr, arith}
use Rattle.std.specs.List.{list_all}
use Rattle.std.specs.Str.{IsUtf8}
use Rattle.std.proofs.lemmas.List.{append-nil}
use Rattle.std.proofs.lemmas.Str.{IsUtf8-append, IsUtf8-nil, IsUtf8-from_ascii}
use Rattle.cd_tokens.specs.Bytes.{is_mark, is_word_byte, goes_on}
use Rattle.cd_tokens.specs.Gap.{IsGap, blank}
use Rattle.cd_tokens.specs.Lexed.{IsTokens}
use Rattle.cd_tokens.specs.Token.{Token, run, quoted, mark, begins_run, is_run, is_closed}
use Rattle.cd_tokens.proofs.Labels.{words_are_ascii}
use Rattle.cd_tokens.proofs.Streams.{gap_before}
use Rattle.cd_plain.specs.Printed.{joined, braced}
use Rattle.cd_text.specs.Said.{Saying, SaysParts, InBraces}
use Rattle.cd_text.proofs.Escapes.{ascii_before}
use Rattle.cd_text.proofs.Values.{both}

-- the bytes are UTF-8, and the tokens are in them, also where a text without a word byte in front follows
pub record Prints (tokens : List Token) (bytes : List ℕ) : Type 0 where
  pub lexed : (more : List Token) (rest : List ℕ) → goes_on rest ≡ false → IsTokens false more rest → IsTokens false (tokens ++ more) (bytes ++ rest)
  pub utf8 : IsUtf8 bytes

-- no word goes on with these bytes
abbrev pub IsApart : List ℕ → Type 0
IsApart bytes = (rest : List ℕ) → goes_on rest ≡ false → goes_on (bytes ++ rest) ≡ false

pub no_tokens : Prints [] []
no_tokens = record { lexed = λ more rest apart is. is; utf8 = IsUtf8-nil }

mark_ascii : (m : ℕ) → is_mark m ≡ true → m < 128
mark_ascii m h = grind (arith, h)

pub mark_before : (m : ℕ) (tokens : List Token) (bytes : List ℕ) → is_mark m ≡ true → Prints tokens bytes → Prints (mark m ∷ tokens) (m ∷ bytes)
mark_before m tokens bytes is p = record {
  lexed = λ more rest apart lexed. record { gap = []; front = m ∷ []; rest = bytes ++ rest; whole = refl; is_gap = ([], refl); is_token = (is, refl); ended = tt; follows = p.lexed more rest apart lexed };
  utf8 = ascii_before m bytes (mark_ascii m is) p.utf8;
}

one_blank : IsGap false (32 ∷ [])
one_blank = (blank 32 ∷ [], (32 ∷ [], [], refl, (refl, refl), refl))

pub blank_before : (tokens : List Token) (bytes : List ℕ) → Prints tokens bytes → Prints tokens (32 ∷ bytes)
blank_before tokens bytes p = record {
  lexed = λ more rest apart lexed. gap_before false (tokens ++ more) (32 ∷ (bytes ++ rest)) (32 ∷ []) (bytes ++ rest) refl one_blank (p.lexed more rest apart lexed);
  utf8 = ascii_before 32 bytes (omega arith) p.utf8;
}

run_ascii : (b : ℕ) (bytes : List ℕ) → begins_run b bytes ≡ true → b < 128
run_ascii b bytes h = grind (arith, h)

run_utf8 : (r : List ℕ) → is_run r ≡ true → IsUtf8 r
run_utf8 [] is = absurd cc
run_utf8 (b ∷ bytes) is =
    let h = both (begins_run b bytes) (list_all is_word_byte bytes) is in ascii_before b bytes (run_ascii b bytes h.0) (IsUtf8-from_ascii bytes (words_are_ascii bytes h.1))

pub run_before : (r : List ℕ) (tokens : List Token) (bytes : List ℕ) → is_run r ≡ true → IsApart bytes → Prints tokens bytes → Prints (run r ∷ tokens) (r ++ bytes)
run_before r tokens bytes is apart p = record {
  lexed = λ more rest ends lexed. record { gap = []; front = r; rest = bytes ++ rest; whole = append_assoc r bytes rest; is_gap = ([], refl); is_token = (is, refl); ended = apart rest ends; follows = p.lexed more rest ends lexed };
  utf8 = IsUtf8-append r bytes (run_utf8 r is) p.utf8;
}

pub run_alone : (r : List ℕ) → is_run r ≡ true → Prints (run r ∷ []) r
run_alone r is = subst (Prints (run r ∷ [])) (append-nil r) (run_before r [] [] is (λ rest ends. ends) no_tokens)

pub string_before : (s : List ℕ) (tokens : List Token) (bytes : List ℕ) → is_closed false s ≡ true → IsUtf8 s → Prints tokens bytes → Prints (quoted s ∷ tokens) (34 ∷ (s ++ (34 ∷ bytes)))
string_before s tokens bytes closed is p = record {
  lexed = λ more rest ends lexed. record {
    gap = [];
    front = 34 ∷ (s ++ 34 ∷ []);
    rest = bytes ++ rest;
    whole = ap (λ (xs : List ℕ). 34 ∷ xs) (append_assoc s (34 ∷ bytes) rest ∙ sym (append_assoc s (34 ∷ []) (bytes ++ rest)));
    is_gap = ([], refl);
    is_token = (closed, refl);
    ended = tt;
    follows = p.lexed more rest ends lexed;
  };
  utf8 = ascii_before 34 (s ++ (34 ∷ bytes)) (omega arith) (IsUtf8-append s (34 ∷ bytes) is (ascii_before 34 bytes (omega arith) p.utf8));
}

pub both_print : (front back : List Token) (first second : List ℕ) → IsApart second → Prints front first → Prints back second → Prints (front ++ back) (first ++ second)
both_print front back first second apart p q = record {
  lexed = λ more rest ends lexed.
      subst (IsTokens false ((front ++ back) ++ more)) (sym (append_assoc first second rest))
      (subst (λ ts. IsTokens false ts (first ++ (second ++ rest))) (sym (append_assoc front back more)) (p.lexed (back ++ more) (second ++ rest) (apart rest ends) (q.lexed more rest ends lexed)));
  utf8 = IsUtf8-append first second p.utf8 q.utf8;
}

-- the bytes print tokens that say it
pub record IsWritten (P : List Token → Type 0) (bytes : List ℕ) : Type 0 where
  pub tokens : List Token
  pub prints : Prints tokens bytes
  pub says : P tokens

-- ---- parts with a separator between

-- a text for each part
abbrev pub AreWritten : {A : Type 0} → (ℕ → Saying A) → (A → ℕ) → ℕ → List A → List (List ℕ) → Type 0
AreWritten P step next [] texts = texts ≡ []
AreWritten P step next (x ∷ xs) texts = (text : List ℕ) × (more : List (List ℕ)) × (texts ≡ text ∷ more) × IsWritten (P next x) text × AreWritten P step (step x) xs more

pub parts_written : {A : Type 0} (separator end : ℕ) (tail : List ℕ) (P : ℕ → Saying A) (step : A → ℕ) → is_mark separator ≡ true → is_word_byte separator ≡ false → Prints (mark end ∷ []) tail → IsApart tail
    → (xs : List A) (x : A) (next : ℕ) (text : List ℕ) (texts : List (List ℕ)) → IsWritten (P next x) text → AreWritten P step (step x) xs texts
    → IsWritten (λ tokens. SaysParts (mark separator) (mark end) P step next (x ∷ xs) tokens) (joined (separator ∷ 32 ∷ []) (text ∷ texts) ++ tail)
parts_written separator end tail P step is apart ends ends_apart [] x next text texts w others = record {
  tokens = w.tokens ++ mark end ∷ [];
  prints = subst (λ bytes. Prints (w.tokens ++ mark end ∷ []) (bytes ++ tail)) (sym (ap (λ ts. joined (separator ∷ 32 ∷ []) (text ∷ ts)) others ∙ append-nil text)) (both_print w.tokens (mark end ∷ []) text tail ends_apart w.prints ends);
  says = (w.tokens, mark end ∷ [], refl, w.says, inl (refl, refl));
}
parts_written separator end tail P step is apart ends ends_apart (y ∷ xs) x next text texts w others =
    let r = parts_written separator end tail P step is apart ends ends_apart xs y (step x) others.0 others.1 others.3 others.4 in
    let behind : Prints (mark separator ∷ r.tokens) (separator ∷ 32 ∷ (joined (separator ∷ 32 ∷ []) (others.0 ∷ others.1) ++ tail)) = mark_before separator r.tokens _ is (blank_before r.tokens _ r.prints) in
    let bytes_are : text ++ (separator ∷ 32 ∷ (joined (separator ∷ 32 ∷ []) (others.0 ∷ others.1) ++ tail)) ≡ joined (separator ∷ 32 ∷ []) (text ∷ texts) ++ tail =
    sym (append_assoc text (separator ∷ 32 ∷ joined (separator ∷ 32 ∷ []) (others.0 ∷ others.1)) tail) ∙ ap (λ ts. joined (separator ∷ 32 ∷ []) (text ∷ ts) ++ tail) (sym others.2) in
    record {
      tokens = w.tokens ++ mark separator ∷ r.tokens;
      prints = subst (Prints (w.tokens ++ mark separator ∷ r.tokens)) bytes_are (both_print w.tokens (mark separator ∷ r.tokens) text _ (λ rest end_apart. apart) w.prints behind);
      says = (w.tokens, mark separator ∷ r.tokens, refl, w.says, inr (r.tokens, refl, r.says));
    }

brace_ends : Prints (mark 125 ∷ []) (32 ∷ 125 ∷ [])
brace_ends = blank_before (mark 125 ∷ []) (125 ∷ []) (mark_before 125 [] [] refl no_tokens)

pub braces_written : {A : Type 0} (word : List ℕ) (P : ℕ → Saying A) (step : A → ℕ) → is_run word ≡ true → (xs : List A) (texts : List (List ℕ)) → AreWritten P step 0 xs texts → IsWritten (InBraces word P step xs) (word ++ (32 ∷ braced texts))
braces_written word P step is [] texts none = record {
  tokens = run word ∷ mark 123 ∷ mark 125 ∷ [];
  prints = subst (λ ts. Prints (run word ∷ mark 123 ∷ mark 125 ∷ []) (word ++ (32 ∷ braced ts))) (sym none)
      (run_before word (mark 123 ∷ mark 125 ∷ []) (32 ∷ codes "{}") is (λ rest ends. refl) (blank_before (mark 123 ∷ mark 125 ∷ []) (codes "{}") (mark_before 123 (mark 125 ∷ []) (125 ∷ []) refl (mark_before 125 [] [] refl no_tokens))));
  says = (mark 125 ∷ [], refl, refl);
}
braces_written word P step is (x ∷ xs) texts are =
    let r = parts_written 59 125 (32 ∷ 125 ∷ []) P step refl refl brace_ends (λ rest ends. refl) xs x 0 are.0 are.1 are.3 are.4 in
    record {
      tokens = run word ∷ mark 123 ∷ r.tokens;
      prints = subst (λ ts. Prints (run word ∷ mark 123 ∷ r.tokens) (word ++ (32 ∷ braced ts))) (sym are.2)
          (run_before word (mark 123 ∷ r.tokens) (32 ∷ braced (are.0 ∷ are.1)) is (λ rest ends. refl) (blank_before (mark 123 ∷ r.tokens) (braced (are.0 ∷ are.1)) (mark_before 123 r.tokens _ refl (blank_before r.tokens _ r.prints))));
      says = (r.tokens, refl, r.says);
    }
