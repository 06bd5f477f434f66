-- The tokens of a text are those of a test file where all of them are whole.
use Rattle.std.proofs.Common.{◌≡◌, ℕ, zero, suc, ◌+◌, ◌≤◌, Bool, true, List, [], ◌∷◌, length, take, refl, sym, ap, subst, ◌∙◌, inl, inr, arith}
use Rattle.std.specs.List.{list_all, prefix_len}
use Rattle.std.specs.Str.{is_utf8}
use Rattle.std.proofs.lemmas.List.{append-nil, length-map, take_all}
use Rattle.cd_tokens.specs.Lexed.{IsTokens}
use Rattle.cd_tokens.specs.Placed.{placed_view, placed_views}
use Rattle.cd_tokens.specs.Token.{Token}
use Rattle.cd_tokens.specs.declared.placed.PlacedToken.{PlacedToken}
use Rattle.cd_tokens.proofs.Fronts.{both, reaches, true_or_false}
use Rattle.cd_tokens.proofs.Streams.{one_list}
use Rattle.ct_file.specs.Fits.{AreTokens, is_proper}

-- all pass where as many as there are pass, from the first on
all_pass : {A : Type 0} (p : A → Bool) (xs : List A) → length xs ≤ prefix_len p xs → list_all p xs ≡ true
all_pass p [] enough = refl
all_pass p (x ∷ xs) enough = elim (true_or_false (p x)) [
  | inl holds ↦ let more : length (x ∷ xs) ≤ 1 + prefix_len p xs = rw holds at enough in rw holds (all_pass p xs (omega (arith, more)))
  | inr fails ↦ let none : length (x ∷ xs) ≤ 0 = rw fails at enough in absurd (omega (arith, none))
]

pub take_passes : {A : Type 0} (p : A → Bool) (n : ℕ) (xs : List A) → list_all p xs ≡ true → list_all p (take n xs) ≡ true
take_passes p zero xs all = refl
take_passes p (suc n) [] all = refl
take_passes p (suc n) (x ∷ xs) all = let h = both (p x) (list_all p xs) all in rw h.0 (take_passes p n xs h.1)

-- where all are whole they are the tokens of a test file
pub whole_tokens : (len : ℕ) (items : List PlacedToken) (text : List ℕ) → is_utf8 text ≡ true → IsTokens true (placed_views items) text → length items ≤ len → len ≡ prefix_len is_proper (placed_views items) → AreTokens (placed_views (take len items)) text
whole_tokens len items text utf8 lexed few same = rw (take_all len items few) (record {
  utf8 = utf8;
  lexed = lexed;
  proper = all_pass is_proper (placed_views items) (omega (arith, few, same, length-map items placed_view));
})

-- and those of a test file are all whole
pub all_whole : (len : ℕ) (items : List PlacedToken) (tokens : List Token) (text : List ℕ) → IsTokens true (placed_views items) text → AreTokens tokens text → len ≡ prefix_len is_proper (placed_views items) → length items ≤ len
all_whole len items tokens text lexed are same =
    let proper = subst (λ ts. list_all is_proper ts ≡ true) (one_list true tokens (placed_views items) text are.lexed lexed) are.proper in
    let reached = ap (prefix_len is_proper) (sym (append-nil (placed_views items))) ∙ reaches is_proper (placed_views items) [] proper refl in
    omega (arith, reached, same, length-map items placed_view)
