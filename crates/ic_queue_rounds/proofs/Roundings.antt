-- Rounds made one after another.
use Rattle.std.proofs.Common.{◌≡◌, ◌<◌, ◌+◌, ◌-◌, ℕ, suc, zero, [], ◌∷◌, length, refl, sym, ap, ◌∙◌, subst, arith, ne_eqb, eq-eqb, length-append}
use Rattle.std.specs.List.{concat}
use Rattle.ic_behaviour.specs.State.{State}
use Rattle.ic_behaviour.specs.Steps.{Rules, along}
use Rattle.ic_behaviour.specs.Round.{first_phase, second_phase, round, rounds}
use Rattle.ic_behaviour.proofs.RunLaws.{along-append}

-- a round is its two phases
pub round_is : (rules : Rules) (s mid end : State) → mid ≡ along rules s (first_phase rules s) → end ≡ along rules mid (second_phase rules mid) → end ≡ along rules s (round rules s)
unfolding round
round_is rules s mid end first second =
    second ∙ ap (λ (t : State). along rules t (second_phase rules t)) first ∙ sym (along-append rules s (first_phase rules s) (second_phase rules (along rules s (first_phase rules s))))

pub round_handled : (rules : Rules) (s mid : State) (first second : ℕ) → mid ≡ along rules s (first_phase rules s) → first ≡ length (first_phase rules s) → second ≡ length (second_phase rules mid)
    → first + second ≡ length (round rules s)
unfolding round
round_handled rules s mid first second is is_first is_second =
    omega (arith, is_first, is_second, ap (λ (t : State). length (second_phase rules t)) is, length-append (first_phase rules s) (second_phase rules (along rules s (first_phase rules s))))

-- this many rounds of some were made
pub record Rounding (rules : Rules) (count made : ℕ) (start now : State) : Type 0 where
  pub state : along rules start (concat (rounds rules count start)) ≡ along rules now (concat (rounds rules (count - made) now))
  pub many : length (rounds rules count start) ≡ made + length (rounds rules (count - made) now)

pub Rounding-start : (rules : Rules) (count : ℕ) (start : State) → Rounding rules count 0 start start
Rounding-start rules count start =
    let all : count - 0 ≡ count = omega arith in
    record {
      state = ap (λ n. along rules start (concat (rounds rules n start))) (sym all);
      many = omega (arith, ap (λ n. length (rounds rules n start)) all);
    }

rounds_none : (rules : Rules) (n : ℕ) (s : State) → length s.messages ≡ 0 → rounds rules n s ≡ []
unfolding rounds
rounds_none rules zero s none = refl
rounds_none rules (suc n) s none = let is = eq-eqb (length s.messages) 0 none in rw is refl

rounds_suc : (rules : Rules) (n : ℕ) (s : State) → (length s.messages ≡ 0 → ⊥) → rounds rules (suc n) s ≡ round rules s ∷ rounds rules n (along rules s (round rules s))
unfolding rounds
rounds_suc rules n s some = let is = ne_eqb (length s.messages) 0 some in rw is refl

module _ (rules : Rules) (count made : ℕ) (start now : State) (so_far : Rounding rules count made start now) where
  -- one more round
  pub Rounding-more : made < count → (length now.messages ≡ 0 → ⊥) → (next : State) → next ≡ along rules now (round rules now) → Rounding rules count (made + 1) start next
  Rounding-more less some next is =
      let left : count - made ≡ suc (count - (made + 1)) = omega arith in
      let this : rounds rules (count - made) now ≡ round rules now ∷ rounds rules (count - (made + 1)) (along rules now (round rules now)) =
      ap (λ n. rounds rules n now) left ∙ rounds_suc rules (count - (made + 1)) now some in
      subst (λ (t : State). Rounding rules count (made + 1) start t) (sym is) (record {
        state = so_far.state ∙ ap (λ r. along rules now (concat r)) this ∙ along-append rules now (round rules now) _;
        many = omega (arith, so_far.many, ap length this);
      })

  -- no message is left, or all rounds were made
  pub Rounding-none : length now.messages ≡ 0 → (now ≡ along rules start (concat (rounds rules count start))) × (made ≡ length (rounds rules count start))
  Rounding-none none =
      let over = rounds_none rules (count - made) now none in
      (sym (so_far.state ∙ ap (λ r. along rules now (concat r)) over), omega (arith, so_far.many, ap length over))

  pub Rounding-all : made ≡ count → (now ≡ along rules start (concat (rounds rules count start))) × (count ≡ length (rounds rules count start))
  unfolding rounds
  Rounding-all all =
      let over : rounds rules (count - made) now ≡ [] = (let zero_left : count - made ≡ 0 = omega arith in rw zero_left refl) in
      (sym (so_far.state ∙ ap (λ r. along rules now (concat r)) over), omega (arith, so_far.many, ap length over))
