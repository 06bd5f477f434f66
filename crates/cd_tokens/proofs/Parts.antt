-- Lists of parts are read exactly.
use Rattle.std.proofs.Common.{◌≡◌, ℕ, zero, suc, ◌<◌, Bool, true, false, List, [], ◌∷◌, ◌++◌, length, drop, Some, None, refl, ap, subst, ◌∙◌, append_assoc, inl, inr, arith}
use Rattle.std.specs.Prelude.{◌==◌}
use Rattle.ic_base.specs.Reader.{◌>>=◌}
use Rattle.ic_base.proofs.Steps.{bind_some, some_is}
use Rattle.cd_tokens.specs.Token.{Token, mark}
use Rattle.cd_tokens.specs.Front.{is_mark, starts}
use Rattle.cd_tokens.specs.WritesParts.{Writing, WritesParts}
use Rattle.cd_tokens.specs.ReadParts.{Reading, then_make, after_part, parts_at}
use Rattle.cd_tokens.proofs.Fronts.{true_or_false}
use Rattle.cd_tokens.proofs.Starts.{same_mark, started, with_tail}

-- what is read is written by a front of the tokens
pub record Takes {S A : Type 0} (P : Writing S A) (state : S) (tokens : List Token) (z : A × S × List Token) : Type 0 where
  pub front : List Token
  pub parts : tokens ≡ front ++ z.2
  pub written : P state z.0 z.1 front

abbrev pub Sound : {S A : Type 0} → Writing S A → Reading S A → Type 0
Sound {S} {A} P read = (state : S) (tokens : List Token) (z : A × S × List Token) → read state tokens ≡ Some z → Takes P state tokens z

-- what is written is read, where what follows is free
abbrev pub Complete : {S A : Type 0} → (List Token → Bool) → Writing S A → Reading S A → Type 0
Complete {S} {A} free P read = (before : S) (x : A) (after : S) (front rest : List Token) → P before x after front → free rest ≡ true → read before (front ++ rest) ≡ Some (x, after, rest)

pub parts_take : {S A : Type 0} (separator end : ℕ) (P : ℕ → Writing S A) (step : A → ℕ) (read : ℕ → Reading S A) → ((next : ℕ) → Sound (P next) (read next))
    → (fuel next : ℕ) (state : S) (tokens : List Token) (z : List A × S × List Token) → parts_at separator end read step fuel next state tokens ≡ Some z → Takes (WritesParts (mark separator) (mark end) P step next) state tokens z
unfolding parts_at
parts_take separator end P step read law zero next state tokens z e = absurd cc
parts_take {S} {A} separator end P step read law (suc fuel) next state tokens z e =
    elim (true_or_false (starts (is_mark end) tokens)) [
      | inl ended ↦ subst (Takes (WritesParts (mark separator) (mark end) P step next) state tokens) (some_is {A = List A × S × List Token} ([], state, drop 1 tokens) z (rw ended at e))
          (record { front = mark end ∷ []; parts = started end tokens ended; written = (refl, refl) })
      | inr on ↦
          let f : (read next state tokens >>= after_part separator end (λ x. parts_at separator end read step fuel (step x))) ≡ Some z = rw on at e in
          let a = bind_some (read next state tokens) (after_part separator end (λ x. parts_at separator end read step fuel (step x))) z f in
          let s = law next state tokens a.0 a.1 in
          elim (true_or_false (starts (is_mark end) a.0.2)) [
            | inl ended ↦ subst (Takes (WritesParts (mark separator) (mark end) P step next) state tokens) (some_is {A = List A × S × List Token} (a.0.0 ∷ [], a.0.1, drop 1 a.0.2) z (rw ended at a.2))
                (record {
                  front = s.front ++ mark end ∷ [];
                  parts = with_tail s.front (mark end ∷ []) (drop 1 a.0.2) tokens a.0.2 s.parts (started end a.0.2 ended);
                  written = (a.0.1, s.front, mark end ∷ [], refl, s.written, inl (refl, refl, refl));
                })
            | inr more ↦ elim (true_or_false (starts (is_mark separator) a.0.2)) [
              | inl again ↦
                  let g : then_make (λ xs. a.0.0 ∷ xs) (parts_at separator end read step fuel (step a.0.0) a.0.1 (drop 1 a.0.2)) ≡ Some z = rw (more, again) at a.2 in
                  let b = bind_some (parts_at separator end read step fuel (step a.0.0) a.0.1 (drop 1 a.0.2)) (λ x. Some (a.0.0 ∷ x.0, x.1, x.2)) z g in
                  let t = parts_take separator end P step read law fuel (step a.0.0) a.0.1 (drop 1 a.0.2) b.0 b.1 in
                  subst (Takes (WritesParts (mark separator) (mark end) P step next) state tokens) (some_is {A = List A × S × List Token} (a.0.0 ∷ b.0.0, b.0.1, b.0.2) z b.2)
                  (record {
                    front = s.front ++ mark separator ∷ t.front;
                    parts = with_tail s.front (mark separator ∷ t.front) b.0.2 tokens a.0.2 s.parts (started separator a.0.2 again ∙ ap (λ (ts : List Token). mark separator ∷ ts) t.parts);
                    written = (a.0.1, s.front, mark separator ∷ t.front, refl, s.written, inr (t.front, refl, t.written));
                  })
              | inr stuck ↦ let g : None ≡ Some z = rw (more, stuck) at a.2 in absurd cc
            ]
          ]
    ]

one_step : {S A : Type 0} (separator end : ℕ) (step : A → ℕ) (read : ℕ → Reading S A) (fuel next : ℕ) (state : S) (tokens : List Token) (y : A × S × List Token) → starts (is_mark end) tokens ≡ false → read next state tokens ≡ Some y
    → parts_at separator end read step (suc fuel) next state tokens ≡ after_part separator end (λ x. parts_at separator end read step fuel (step x)) y
unfolding parts_at
one_step separator end step read fuel next state tokens y on e = rw (on, e) refl

-- what is written is read again
pub parts_again : {S A : Type 0} (separator end : ℕ) (P : ℕ → Writing S A) (step : A → ℕ) (read : ℕ → Reading S A) (free : List Token → Bool)
    → ((next : ℕ) → Complete free (P next) (read next)) → ((next : ℕ) (before : S) (x : A) (after : S) (front rest : List Token) → P next before x after front → starts (is_mark end) (front ++ rest) ≡ false)
    → ((rest : List Token) → free (mark separator ∷ rest) ≡ true) → ((rest : List Token) → free (mark end ∷ rest) ≡ true) → (separator == end) ≡ false
    → (xs : List A) (fuel next : ℕ) (before after : S) (front rest : List Token) → WritesParts (mark separator) (mark end) P step next before xs after front → length xs < fuel
    → parts_at separator end read step fuel next before (front ++ rest) ≡ Some (xs, after, rest)
unfolding parts_at
parts_again separator end P step read free law on at_separator at_end differ xs zero next before after front rest written enough = absurd (omega (arith, enough))
parts_again separator end P step read free law on at_separator at_end differ [] (suc fuel) next before after front rest written enough =
    rw (written.1, written.0, same_mark end) refl
parts_again {S} {A} separator end P step read free law on at_separator at_end differ (x ∷ xs) (suc fuel) next before after front rest w enough =
    let whole : front ++ rest ≡ w.1 ++ (w.2 ++ rest) = ap (λ (ts : List Token). ts ++ rest) w.3 ∙ append_assoc w.1 w.2 rest in
    elim w.5 [
      | inl last ↦
          let read_is = law next before x w.0 w.1 (w.2 ++ rest) w.4 (rw last.2 (at_end rest)) in
          ap (parts_at separator end read step (suc fuel) next before) whole
          ∙ one_step separator end step read fuel next before (w.1 ++ (w.2 ++ rest)) (x, w.0, w.2 ++ rest) (on next before x w.0 w.1 (w.2 ++ rest) w.4) read_is
          ∙ rw (last.2, last.0, last.1, same_mark end) refl
      | inr more ↦
          let read_is = law next before x w.0 w.1 (w.2 ++ rest) w.4 (rw more.1 (at_separator (more.0 ++ rest))) in
          ap (parts_at separator end read step (suc fuel) next before) whole
          ∙ one_step separator end step read fuel next before (w.1 ++ (w.2 ++ rest)) (x, w.0, w.2 ++ rest) (on next before x w.0 w.1 (w.2 ++ rest) w.4) read_is
          ∙ rw (more.1, differ, same_mark separator) (ap (then_make (λ ys. x ∷ ys)) (parts_again separator end P step read free law on at_separator at_end differ xs fuel (step x) w.0 after more.0 rest more.2 (omega (arith, enough))))
    ]
