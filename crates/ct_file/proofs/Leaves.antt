-- Names, texts, numbers, methods and arguments are read exactly.
use Rattle.std.proofs.Common.{◌≡◌, ℕ, ◌≤◌, Bool, true, false, List, [], ◌∷◌, ◌++◌, drop, Option, Some, None, refl, sym, ap, subst, ◌∙◌, inl, inr, arith}
use Rattle.std.specs.Prelude.{◌-◌, ◌==◌, ◌&&◌, not, nat_le, nat_lt}
use Rattle.std.specs.Char.{digit_value}
use Rattle.std.specs.List.{list_all}
use Rattle.cd_tokens.specs.Bytes.{is_digit, is_word_byte}
use Rattle.ic_base.specs.Reader.{◌>>=◌}
use Rattle.ic_base.proofs.Steps.{bind_some, some_is, passed}
use Rattle.cd_tokens.specs.Token.{Token, run, quoted, mark, arrow}
use Rattle.cd_tokens.specs.Label.{is_name}
use Rattle.cd_tokens.specs.Numeral.{digit_of, AreDigits, IsNumeral}
use Rattle.cd_tokens.specs.ReadLabel.{text_of}
use Rattle.cd_tokens.specs.ReadNumeral.{numeral_of}
use Rattle.cd_tokens.proofs.Fronts.{both, true_or_false}
use Rattle.cd_tokens.proofs.Starts.{started}
use Rattle.cd_tokens.proofs.Labels.{text_again, text_takes}
use Rattle.cd_tokens.proofs.Numerals.{numeral_again, numeral_takes}
use Rattle.ct_file.specs.Codes.{opening_code, closing_code}
use Rattle.ct_file.specs.Number.{WrittenNumber}
use Rattle.ct_file.specs.declared.tree.Method.{Method}
use Rattle.ct_file.specs.declared.tree.Method.TheVariants as methods
use Rattle.cd_tokens.specs.Marks.{closing}
use Rattle.cd_tokens.specs.Front.{is_mark, starts}
use Rattle.ct_file.specs.Grammar.{text_token, number_token, method_token, arguments_tokens}
use Rattle.ct_file.specs.Fits.{IsName, SaysText, IsNumber, FitsMethod, AreArguments, none_open, are_balanced, closers_after, passes}
use Rattle.ct_file.specs.Read.{token_name, text_written, token_text, token_number, token_method, in_range, name_at, text_at, number_at, method_at, with_token, inside_at, arguments_at}
use Rattle.ct_file.proofs.Exact.{Taken, Exact, anything, is_the_mark, chosen, first_exact, after_exact, before_exact}

-- ---- names

name_is : (t : Token) (n : List ℕ) → token_name t ≡ Some n → (t ≡ run n) × IsName n
name_is (run r) n e = let p = passed (is_name r) r n e in (ap run p.1, subst (λ m. is_name m ≡ true) p.1 p.0)
name_is (quoted s) n e = absurd cc
name_is (mark m) n e = absurd cc
name_is arrow n e = absurd cc

pub name_exact : Exact (λ n. run n ∷ []) IsName anything name_at
name_exact = first_exact token_name run IsName name_is (λ n is. rw is refl)

-- ---- texts

text_is : (s written : List ℕ) → text_written s ≡ Some written → (s ≡ written) × SaysText written
text_is s written e =
    let a = bind_some (text_of s) (λ text. Some s) written e in
    let same = some_is {A = List ℕ} s written a.2 in
    (same, subst SaysText same (a.0, text_takes a.0 s a.1))

text_token_is : (t : Token) (written : List ℕ) → token_text t ≡ Some written → (t ≡ quoted written) × SaysText written
text_token_is (run r) written e = absurd cc
text_token_is (quoted s) written e = let p = text_is s written e in (ap quoted p.0, p.1)
text_token_is (mark m) written e = absurd cc
text_token_is arrow written e = absurd cc

text_says : (s : List ℕ) → SaysText s → text_written s ≡ Some s
text_says s says = rw (text_again says.0 s says.1) refl

pub text_exact : Exact text_token SaysText anything text_at
text_exact = first_exact token_text quoted SaysText text_token_is text_says

-- ---- numbers

range_is : (least most : ℕ) (found : Option ℕ) (n : ℕ) → in_range least most found ≡ Some n → (found ≡ Some n) × (least ≤ n) × (n ≤ most)
range_is least most None n e = absurd cc
range_is least most (Some m) n e =
    let p = passed (nat_le least m && nat_le m most) m n e in
    let h = both (nat_le least m) (nat_le m most) p.0 in
    let low : least ≤ m = grind (arith, h.0) in
    let high : m ≤ most = grind (arith, h.1) in
    (ap (λ (k : ℕ). Some k) p.1, subst (λ k. least ≤ k) p.1 low, subst (λ k. k ≤ most) p.1 high)

in_the_range : (least most n : ℕ) → least ≤ n → n ≤ most → in_range least most (Some n) ≡ Some n
in_the_range least most n low high =
    let l : nat_le least n ≡ true = grind (arith, low) in
    let h : nat_le n most ≡ true = grind (arith, high) in
    rw (l, h) refl

number_is : (least most : ℕ) (t : Token) (number : WrittenNumber) → token_number least most t ≡ Some number → (t ≡ run number.written) × IsNumber least most number
number_is least most (run r) number e =
    let a = bind_some (in_range least most (numeral_of r)) (λ n. Some (record { written = r; value = n })) number e in
    let p = range_is least most (numeral_of r) a.0 a.1 in
    let N : WrittenNumber → Type 0 = λ m. (run r ≡ run m.written) × IsNumber least most m in
    subst N (some_is {A = WrittenNumber} (record { written = r; value = a.0 }) number a.2) (refl, record { says = numeral_takes a.0 r p.0; least_is = p.1; most_is = p.2 })
number_is least most (quoted s) number e = absurd cc
number_is least most (mark m) number e = absurd cc
number_is least most arrow number e = absurd cc

number_again : (least most : ℕ) (number : WrittenNumber) → IsNumber least most number → token_number least most (run number.written) ≡ Some number
number_again least most number is = rw (numeral_again number.value number.written is.says, in_the_range least most number.value is.least_is is.most_is) refl

pub number_exact : (least most : ℕ) → Exact number_token (IsNumber least most) anything (number_at least most)
number_exact least most = first_exact (token_number least most) (λ number. run number.written) (IsNumber least most) (number_is least most) (number_again least most)

-- a digit is one of 0 to 9
small_value : (b : ℕ) → nat_lt (digit_value b) 10 ≡ true → is_digit b ≡ true
small_value b e = elim (true_or_false (nat_lt b 48)) [
  | inl below ↦ let f : false ≡ true = rw below at e in absurd cc
  | inr least ↦ elim (true_or_false (nat_lt b 58)) [
    | inl most ↦ let l : nat_le 48 b ≡ true = grind (arith, least) in let h : nat_le b 57 ≡ true = grind (arith, most) in rw (l, h) refl
    | inr above ↦ elim (true_or_false (nat_lt b 65)) [
      | inl none ↦ let f : false ≡ true = rw (least, above, none) at e in absurd cc
      | inr capital ↦ elim (true_or_false (nat_lt b 91)) [
        | inl letter ↦ let f : nat_lt (b - 55) 10 ≡ true = rw (least, above, capital, letter) at e in absurd (grind (arith, f, capital))
        | inr other ↦ elim (true_or_false (nat_lt b 97)) [
          | inl none ↦ let f : false ≡ true = rw (least, above, capital, other, none) at e in absurd cc
          | inr small ↦ elim (true_or_false (nat_lt b 123)) [
            | inl letter ↦ let f : nat_lt (b - 87) 10 ≡ true = rw (least, above, capital, other, small, letter) at e in absurd (grind (arith, f, small))
            | inr none ↦ let f : false ≡ true = rw (least, above, capital, other, small, none) at e in absurd cc
          ]
        ]
      ]
    ]
  ]
]

digit_is : (b d : ℕ) → digit_of 10 b ≡ Some d → is_digit b ≡ true
digit_is b d e = small_value b (passed (nat_lt (digit_value b) 10) (digit_value b) d e).0

never : (word digit others : Bool) → digit ≡ true → (word && not digit && others) ≡ false
never true true others e = refl
never false true others e = refl
never word false others e = absurd cc

digit_first : (b d : ℕ) (bytes : List ℕ) → digit_of 10 b ≡ Some d → is_name (b ∷ bytes) ≡ false
digit_first b d bytes e = never (is_word_byte b) (is_digit b) (list_all is_word_byte bytes) (digit_is b d e)

digits_no_name : (ds bytes : List ℕ) → AreDigits 10 ds bytes → is_name bytes ≡ false
digits_no_name [] bytes are = absurd are
digits_no_name (d ∷ []) bytes are = rw are.1 (digit_first are.0 d [] are.2)
digits_no_name (d ∷ e ∷ ds) bytes are = elim are.3 [
  | inl plain ↦ rw plain (digit_first are.0 d are.1 are.2)
  | inr under ↦ rw under (digit_first are.0 d (95 ∷ are.1) are.2)
]

-- a number is no name
pub numeral_no_name : (n : ℕ) (bytes : List ℕ) → IsNumeral n bytes → is_name bytes ≡ false
numeral_no_name n bytes is = elim is [
  | inl h ↦ digits_no_name h.0 bytes h.1
  | inr h ↦ rw h.2 refl
]

-- ---- methods

method_is : (t : Token) (m : Method) → token_method t ≡ Some m → (t ≡ method_token m) × FitsMethod m
method_is (run r) m e =
    let p = passed (is_name r) (methods.Word r) m e in
    let M : Method → Type 0 = λ n. (run r ≡ method_token n) × FitsMethod n in
    subst M p.1 (refl, p.0)
method_is (quoted s) m e =
    let a = bind_some (text_written s) (λ written. Some (methods.Text written)) m e in
    let t = text_is s a.0 a.1 in
    let M : Method → Type 0 = λ n. (quoted s ≡ method_token n) × FitsMethod n in
    subst M (some_is {A = Method} (methods.Text a.0) m a.2) (ap quoted t.0, t.1)
method_is (mark k) m e = absurd cc
method_is arrow m e = absurd cc

method_again : (m : Method) → FitsMethod m → token_method (method_token m) ≡ Some m
method_again (methods.Word name) fits = rw fits refl
method_again (methods.Text written) fits = rw (text_again fits.0 written fits.1) refl

pub method_exact : Exact (λ m. method_token m ∷ []) FitsMethod anything method_at
method_exact = first_exact token_method method_token FitsMethod method_is method_again

-- ---- arguments

none_open_balanced : (closers : List ℕ) → none_open closers ≡ true → are_balanced [] closers ≡ true
unfolding are_balanced
none_open_balanced closers is = is

with_is : (t : Token) (closers more : List ℕ) (tokens : List Token) → closers_after closers t ≡ Some more → are_balanced tokens more ≡ true → are_balanced (t ∷ tokens) closers ≡ true
unfolding are_balanced
with_is t closers more tokens e closed = rw e closed

inside_takes : (tokens : List Token) (closers : List ℕ) (z : List Token × List Token) → inside_at closers tokens ≡ Some z → Taken (λ ts. ts) (λ ts. are_balanced ts closers ≡ true) tokens z
unfolding inside_at
inside_takes [] closers z e = absurd cc
inside_takes (t ∷ rest) closers z e = elim (chosen (none_open closers && is_mark closing_code t) (Some ([], t ∷ rest)) (closers_after closers t >>= λ more. with_token t (inside_at more rest)) (Some z) e) [
  | inl h ↦ subst (Taken (λ ts. ts) (λ ts. are_balanced ts closers ≡ true) (t ∷ rest)) (some_is {A = List Token × List Token} ([], t ∷ rest) z h.1) (refl, none_open_balanced closers (both (none_open closers) (is_mark closing_code t) h.0).0)
  | inr h ↦
      let a = bind_some (closers_after closers t) (λ more. with_token t (inside_at more rest)) z h.1 in
      let b = bind_some (inside_at a.0 rest) (λ x. Some (t ∷ x.0, x.1)) z a.2 in
      let l = inside_takes rest a.0 b.0 b.1 in
      subst (Taken (λ ts. ts) (λ ts. are_balanced ts closers ≡ true) (t ∷ rest)) (some_is {A = List Token × List Token} (t ∷ b.0.0, b.0.1) z b.2)
      (ap (λ (ts : List Token). t ∷ ts) l.0, with_is t closers a.0 b.0.0 a.1 l.1)
]

-- where a token goes on, the arguments are not at their end
not_ended : (t : Token) (closers more : List ℕ) → closers_after closers t ≡ Some more → (none_open closers && is_mark closing_code t) ≡ false
not_ended (run r) [] more e = refl
not_ended (quoted s) [] more e = refl
not_ended (mark m) [] more e = elim (true_or_false (m == closing_code)) [
  | inl is ↦ let same : m ≡ closing_code = grind (arith, is) in let f : closers_after [] (mark closing_code) ≡ Some more = subst (λ k. closers_after [] (mark k) ≡ Some more) same e in absurd cc
  | inr other ↦ other
]
not_ended arrow [] more e = refl
not_ended t (k ∷ closers) more e = refl

one_inside : (t : Token) (closers : List ℕ) (tokens : List Token) (found : Option (List ℕ)) → closers_after closers t ≡ found → passes (are_balanced tokens) found ≡ true → (more : List ℕ) × (closers_after closers t ≡ Some more) × (are_balanced tokens more ≡ true)
one_inside t closers tokens None e p = absurd cc
one_inside t closers tokens (Some more) e p = (more, e, p)

inside_again : (tokens : List Token) (closers : List ℕ) (rest : List Token) → are_balanced tokens closers ≡ true → inside_at closers (tokens ++ closing ∷ rest) ≡ Some (tokens, closing ∷ rest)
unfolding inside_at are_balanced
inside_again [] closers rest closed = rw closed refl
inside_again (t ∷ tokens) closers rest closed =
    let a = one_inside t closers tokens (closers_after closers t) refl closed in
    rw (not_ended t closers a.0 a.1, a.1, inside_again tokens a.0 rest a.2) refl

inside_exact : Exact (λ ts. ts) AreArguments (starts (is_mark closing_code)) (inside_at [])
inside_exact = record {
  takes = λ tokens z e. inside_takes tokens [] z e;
  again = λ tokens rest fits end. let s = started closing_code rest end in
      ap (λ ts. inside_at [] (tokens ++ ts)) s ∙ inside_again tokens [] (drop 1 rest) fits ∙ ap (λ (ts : List Token). Some (tokens, ts)) (sym s);
}

pub arguments_exact : Exact arguments_tokens AreArguments anything arguments_at
unfolding arguments_at
arguments_exact = after_exact (is_the_mark opening_code) (before_exact (is_the_mark closing_code) inside_exact (λ rest. refl))
