-- The first definition that leads back to itself.
use Rattle.std.proofs.Common.{◌≡◌, ℕ, zero, suc, ◌+◌, ◌*◌, ◌≤◌, ◌<◌, Bool, true, false, List, [], ◌∷◌, ◌++◌, length, map, Option, Some, None, refl, sym, ap, subst, ◌∙◌, length-append, inl, inr, ◌⊎◌, arith}
use Rattle.std.proofs.lemmas.List.{length-map}
use Rattle.std.proofs.lemmas.Option.{slice_get-map, slice_get_within}
use Rattle.std.specs.Prelude.{nat_lt, slice_get, option_map}
use Rattle.ic_base.proofs.Steps.{some_is}
use Rattle.cd_grammar.specs.declared.written.Part.{Part}
use Rattle.cd_did.specs.Faults.{Definitions, IsVacuous, LeadsBack, is_name, StandsBehind}
use Rattle.cd_did.specs.Rings.{Apart, AllBound, next_place, after_steps, AreJumps, HasEnds, firsts, or_zero, jump_from, is_named, is_named_at, smaller, least_from}
use Rattle.cd_tokens.proofs.Fronts.{true_or_false}
use Rattle.cd_did.proofs.RingLemmas.{comes, back_is_ring, ring_leads_back, after_sum, reached, ends_on_ring}

abbrev Row : Type 0
Row = List ℕ × Part

-- ---- jumps

pub get_front : {A : Type 0} (xs ys : List A) (i : ℕ) (x : A) → slice_get xs i ≡ Some x → slice_get (xs ++ ys) i ≡ Some x
get_front [] ys i x e = absurd cc
get_front (y ∷ xs) ys zero x e = e
get_front (y ∷ xs) ys (suc i) x e = get_front xs ys i x e

pub get_last : {A : Type 0} (xs : List A) (x : A) → slice_get (xs ++ x ∷ []) (length xs) ≡ Some x
get_last [] x = refl
get_last (y ∷ xs) x = get_last xs x

firsts_length : (defs : Definitions) (n : ℕ) → length (firsts defs n) ≡ n
firsts_length defs zero = refl
firsts_length defs (suc n) = let more = firsts_length defs n in let whole = length-append (firsts defs n) (next_place defs n ∷ []) in omega (arith, more, whole)

pub smaller_or_same : (i n : ℕ) → i < suc n → (i < n) ⊎ (i ≡ n)
smaller_or_same i n e = elim (true_or_false (nat_lt i n)) [ inl less ↦ inl (grind (arith, less)) | inr more ↦ inr (grind (arith, more, e)) ]

firsts_get : (defs : Definitions) (n i : ℕ) → i < n → slice_get (firsts defs n) i ≡ Some (next_place defs i)
firsts_get defs zero i below = absurd (omega (arith, below))
firsts_get defs (suc n) i below = elim (smaller_or_same i n below) [
  | inl less ↦ get_front (firsts defs n) (next_place defs n ∷ []) i (next_place defs i) (firsts_get defs n i less)
  | inr same ↦ subst (λ j. slice_get (firsts defs n ++ next_place defs n ∷ []) j ≡ Some (next_place defs i)) (firsts_length defs n ∙ sym same) (get_last (firsts defs n) (next_place defs n) ∙ ap (λ j. Some (next_place defs j)) (sym same))
]

pub firsts_jump : (defs : Definitions) → AreJumps defs 1 (firsts defs (length defs))
firsts_jump defs = (firsts_length defs (length defs), λ i below. firsts_get defs (length defs) i below)

there_is : (defs : Definitions) (i : ℕ) → i < length defs → (d : Row) × (slice_get defs i ≡ Some d)
there_is [] i below = absurd (omega (arith, below))
there_is (d ∷ defs) zero below = (d, refl)
there_is (d ∷ defs) (suc i) below = there_is defs i (omega (arith, below))

pub inside : (defs : Definitions) → Apart defs → AllBound defs → (k i : ℕ) → i < length defs → after_steps defs k i < length defs
inside defs apart bound k i below =
    let d = there_is defs i below in
    let c = comes defs apart bound k i d.0 d.1 in
    slice_get_within defs (after_steps defs k i) c.row c.there

pub twice_jump : (defs : Definitions) → Apart defs → AllBound defs → (k m : ℕ) (jumps : List ℕ) → m ≡ k * 2 → AreJumps defs k jumps → AreJumps defs m (map (jump_from jumps) jumps)
twice_jump defs apart bound k m jumps twice are = (
  length-map jumps (jump_from jumps) ∙ are.0,
  λ i below.
      let first : slice_get jumps i ≡ Some (after_steps defs k i) = are.1 i below in
      let second : slice_get jumps (after_steps defs k i) ≡ Some (after_steps defs k (after_steps defs k i)) = are.1 (after_steps defs k i) (inside defs apart bound k i below) in
      let n : k + k ≡ m = omega (arith, twice) in
      slice_get-map (jump_from jumps) jumps i ∙ ap (option_map (jump_from jumps)) first ∙ ap (λ x. Some (or_zero x)) second ∙ ap (λ x. Some x) (sym (after_sum defs k k i) ∙ ap (λ x. after_steps defs x i) n),
)

-- ---- the least of some places

pub record Least (test : ℕ → Bool) (known : Option ℕ) (xs : List ℕ) (p : ℕ) : Type 0 where
  pub from : (known ≡ Some p) ⊎ ((i : ℕ) × (slice_get xs i ≡ Some p) × (test p ≡ true))
  pub known_above : (a : ℕ) → known ≡ Some a → p ≤ a
  pub all_above : (i q : ℕ) → slice_get xs i ≡ Some q → test q ≡ true → p ≤ q

smaller_is : (known : Option ℕ) (x : ℕ) → ((known ≡ Some (smaller known x)) ⊎ (smaller known x ≡ x)) × (smaller known x ≤ x) × ((a : ℕ) → known ≡ Some a → smaller known x ≤ a)
smaller_is None x = (inr refl, omega arith, λ a e. absurd cc)
smaller_is (Some y) x = elim (true_or_false (nat_lt x y)) [
  | inl less ↦
      let s : smaller (Some y) x ≡ x = rw less refl in
      let l : x < y = grind (arith, less) in
      (inr s, omega (arith, s), λ a e. let same : y ≡ a = some_is {A = ℕ} y a e in omega (arith, s, l, same))
  | inr more ↦
      let s : smaller (Some y) x ≡ y = rw more refl in
      let l : y ≤ x = grind (arith, more) in
      (inl (ap (λ z. Some z) (sym s)), omega (arith, s, l), λ a e. let same : y ≡ a = some_is {A = ℕ} y a e in omega (arith, s, same))
]

above : (test : ℕ → Bool) (xs : List ℕ) (x p : ℕ) → p ≤ x → ((i q : ℕ) → slice_get xs i ≡ Some q → test q ≡ true → p ≤ q) → (i q : ℕ) → slice_get (x ∷ xs) i ≡ Some q → test q ≡ true → p ≤ q
above test xs x p below more zero q at passed = let same : x ≡ q = some_is {A = ℕ} x q at in omega (arith, below, same)
above test xs x p below more (suc i) q at passed = more i q at passed

above_other : (test : ℕ → Bool) (xs : List ℕ) (x p : ℕ) → test x ≡ false → ((i q : ℕ) → slice_get xs i ≡ Some q → test q ≡ true → p ≤ q) → (i q : ℕ) → slice_get (x ∷ xs) i ≡ Some q → test q ≡ true → p ≤ q
above_other test xs x p fails more zero q at passed =
    let same : x ≡ q = some_is {A = ℕ} x q at in
    let g : false ≡ true = sym fails ∙ ap test same ∙ passed in
    absurd cc
above_other test xs x p fails more (suc i) q at passed = more i q at passed

none_at : (test : ℕ → Bool) (xs : List ℕ) (x : ℕ) → test x ≡ false → ((i q : ℕ) → slice_get xs i ≡ Some q → test q ≡ false) → (i q : ℕ) → slice_get (x ∷ xs) i ≡ Some q → test q ≡ false
none_at test xs x fails more zero q at = let same : x ≡ q = some_is {A = ℕ} x q at in subst (λ z. test z ≡ false) same fails
none_at test xs x fails more (suc i) q at = more i q at

pub least_is : (test : ℕ → Bool) (known : Option ℕ) (xs : List ℕ) (p : ℕ) → least_from test known xs ≡ Some p → Least test known xs p
least_is test known [] p e = record { from = inl e; known_above = λ a k. let same : p ≡ a = some_is {A = ℕ} p a (sym e ∙ k) in omega (arith, same); all_above = λ i q at passed. absurd cc }
least_is test known (x ∷ xs) p e = elim (true_or_false (test x)) [
  | inl holds ↦
      let f : least_from test (Some (smaller known x)) xs ≡ Some p = rw holds at e in
      let more = least_is test (Some (smaller known x)) xs p f in
      let s = smaller_is known x in
      let below : p ≤ smaller known x = more.known_above (smaller known x) refl in
      record {
        from = elim more.from [
          | inl here ↦
              let same : smaller known x ≡ p = some_is {A = ℕ} (smaller known x) p here in
              elim s.0 [
                | inl k ↦ inl (k ∙ ap (λ z. Some z) same)
                | inr k ↦ let px : x ≡ p = sym k ∙ same in inr (0, ap (λ z. Some z) px, subst (λ z. test z ≡ true) px holds)
              ]
          | inr later ↦ inr (suc later.0, later.1, later.2)
        ];
        known_above = λ a k. let l = s.2 a k in omega (arith, below, l);
        all_above = above test xs x p (omega (arith, below, s.1)) more.all_above;
      }
  | inr fails ↦
      let f : least_from test known xs ≡ Some p = rw fails at e in
      let more = least_is test known xs p f in
      record {
        from = elim more.from [ inl here ↦ inl here | inr later ↦ inr (suc later.0, later.1, later.2) ];
        known_above = more.known_above;
        all_above = above_other test xs x p fails more.all_above;
      }
]

pub no_least : (test : ℕ → Bool) (known : Option ℕ) (xs : List ℕ) → least_from test known xs ≡ None → (known ≡ None) × ((i q : ℕ) → slice_get xs i ≡ Some q → test q ≡ false)
no_least test known [] e = (e, λ i q at. absurd cc)
no_least test known (x ∷ xs) e = elim (true_or_false (test x)) [
  | inl holds ↦
      let f : least_from test (Some (smaller known x)) xs ≡ None = rw holds at e in
      let more = no_least test (Some (smaller known x)) xs f in
      let g : Some (smaller known x) ≡ None = more.0 in
      absurd cc
  | inr fails ↦
      let f : least_from test known xs ≡ None = rw fails at e in
      let more = no_least test known xs f in
      (more.0, none_at test xs x fails more.1)
]

-- ---- the first definition that leads back

named_there : (defs : Definitions) (place : ℕ) (d : Row) → slice_get defs place ≡ Some d → is_named_at defs place ≡ is_name d.1
named_there defs place d there = ap is_named there

-- a definition that leads back is an end
back_is_end : (defs : Definitions) → Apart defs → AllBound defs → (ends : List ℕ) → HasEnds defs ends → (i : ℕ) (d : Row) → slice_get defs i ≡ Some d → LeadsBack defs d.0 → ((r : ℕ) × (slice_get ends r ≡ Some i)) × (is_named_at defs i ≡ true)
back_is_end defs apart bound ends has i d there back =
    let b = back_is_ring defs apart bound i d there back in
    let r = after_steps defs (has.0 * b.0.0) i in
    let at = has.2 in
    let here = at.1 (after_steps defs (has.0 * b.0.0) i) (inside defs apart bound (has.0 * b.0.0) i (slice_get_within defs i d there)) in
    ((after_steps defs (has.0 * b.0.0) i, here ∙ ap (λ x. Some x) (reached defs b.0.0 i has.0 b.0.1)), named_there defs i d there ∙ b.1)

pub vacuous_found : (defs : Definitions) → Apart defs → AllBound defs → (ends : List ℕ) → HasEnds defs ends → (p : ℕ) → least_from (is_named_at defs) None ends ≡ Some p → IsVacuous defs p
vacuous_found defs apart bound ends has p e =
    let least = least_is (is_named_at defs) None ends p e in
    elim least.from [
      | inl nothing ↦ let g : None ≡ Some p = nothing in absurd cc
      | inr from ↦
          let are = has.2 in
          let small : from.0 < length defs = let n = are.0 in let m = slice_get_within ends from.0 p from.1 in omega (arith, n, m) in
          let is : after_steps defs has.0 from.0 ≡ p = some_is {A = ℕ} (after_steps defs has.0 from.0) p (sym (are.1 from.0 small) ∙ from.1) in
          let below : p < length defs = subst (λ x. x < length defs) is (inside defs apart bound has.0 from.0 small) in
          let d = there_is defs p below in
          let named : is_name d.0.1 ≡ true = sym (named_there defs p d.0 d.1) ∙ from.2 in
          let ring = ends_on_ring defs has.0 from.0 (λ a. inside defs apart bound a from.0 small) has.1 in
          let here : after_steps defs (suc ring.0) p ≡ p = subst (λ x. after_steps defs (suc ring.0) x ≡ x) is ring.1 in (
            d.0,
            d.1,
            ring_leads_back defs apart bound p ring.0 d.0 d.1 named here,
            λ i f less there back.
                let end = back_is_end defs apart bound ends has i f there back in
                let above = least.all_above end.0.0 i end.0.1 end.1 in
                omega (arith, less, above),
          )
    ]

pub vacuous_inside : (defs : Definitions) → Apart defs → AllBound defs → (ends : List ℕ) → HasEnds defs ends → (p : ℕ) → least_from (is_named_at defs) None ends ≡ Some p → p < length defs
vacuous_inside defs apart bound ends has p e = let v = vacuous_found defs apart bound ends has p e in slice_get_within defs p v.0 v.1

pub none_vacuous : (defs : Definitions) → Apart defs → AllBound defs → (ends : List ℕ) → HasEnds defs ends → least_from (is_named_at defs) None ends ≡ None → (p : ℕ) → IsVacuous defs p → ⊥
none_vacuous defs apart bound ends has e p vacuous =
    let end = back_is_end defs apart bound ends has p vacuous.0 vacuous.1 vacuous.2 in
    let none = (no_least (is_named_at defs) None ends e).1 end.0.0 p end.0.1 in
    let g : true ≡ false = sym end.1 ∙ none in
    absurd cc

-- what comes after a definition, where none leads back
pub record Settled (defs : Definitions) (ends : List ℕ) (i : ℕ) (d : List ℕ × Part) : Type 0 where
  pub end : ℕ
  pub row : List ℕ × Part
  pub at : slice_get ends i ≡ Some end
  pub there : slice_get defs end ≡ Some row
  pub behind : StandsBehind defs d.1 row.1

pub settled : (defs : Definitions) → Apart defs → AllBound defs → (ends : List ℕ) → HasEnds defs ends → least_from (is_named_at defs) None ends ≡ None → (i : ℕ) (d : List ℕ × Part) → slice_get defs i ≡ Some d → Settled defs ends i d
settled defs apart bound ends has e i d there =
    let are = has.2 in
    let at = are.1 i (slice_get_within defs i d there) in
    let c = comes defs apart bound has.0 i d there in
    let none = (no_least (is_named_at defs) None ends e).1 i (after_steps defs has.0 i) at in
    record {
      end = after_steps defs has.0 i;
      row = c.row;
      at = at;
      there = c.there;
      behind = (sym (named_there defs (after_steps defs has.0 i) c.row c.there) ∙ none, c.times, c.replaced_is);
    }
