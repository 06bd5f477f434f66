-- Definitions that lead back to themselves.
use Rattle.std.proofs.Common.{◌≡◌, ℕ, zero, suc, ◌+◌, ◌*◌, ◌-◌, ◌≤◌, ◌<◌, true, false, List, [], ◌∷◌, length, Option, Some, None, refl, sym, ap, subst, ◌∙◌, inl, inr, ◌⊎◌, arith}
use Rattle.std.specs.Prelude.{nat_eq, bytes_eq, slice_get}
use Rattle.std.specs.List.{IsDistinct, AllByRecursion, list_any}
use Rattle.std.proofs.lemmas.Slice.Eq.{bytes_eq-Decides}
use Rattle.std.proofs.lemmas.Map.Steps.{length-le_from_distinct_below}
use Rattle.ic_base.specs.Reader.{◌>>=◌}
use Rattle.ic_base.proofs.Steps.{some_is}
use Rattle.cd_grammar.specs.declared.written.Part.{Part}
use Rattle.cd_grammar.specs.declared.written.Part.TheVariants.{Prim, Float, Name, Place}
use Rattle.cd_did.specs.Faults.{Definitions, definition_of, is_defined, is_bound, name_in, next_name, follow, LeadsBack, is_name, replaced, replaced_times}
use Rattle.cd_did.specs.Rings.{Apart, AllBound, place_from, next_place, after_steps}
use Rattle.cd_tokens.proofs.Fronts.{true_or_false}

abbrev Row : Type 0
Row = List ℕ × Part

-- a definition that was found by its name
pub record Found (defs : Definitions) (start : ℕ) (name : List ℕ) : Type 0 where
  pub step : ℕ
  pub row : List ℕ × Part
  pub place : place_from defs start name ≡ Some (start + step)
  pub there : slice_get defs step ≡ Some row
  pub named : row.0 ≡ name
  pub defined : definition_of defs name ≡ Some row.1

pub found : (defs : Definitions) (start : ℕ) (name : List ℕ) → is_defined defs name ≡ true → Found defs start name
found [] start name e = absurd cc
found (d ∷ defs) start name e = elim (true_or_false (bytes_eq d.0 name)) [
  | inl same ↦
      let n : start + 0 ≡ start = omega arith in
      record { step = 0; row = d; place = rw (same, n) refl; there = refl; named = (bytes_eq-Decides d.0 name).0 same; defined = rw same refl }
  | inr other ↦
      let f : is_defined defs name ≡ true = rw other at e in
      let more = found defs (suc start) name f in
      let n : start + suc more.step ≡ suc start + more.step = omega arith in
      record { step = suc more.step; row = more.row; place = rw (other, n) more.place; there = more.there; named = more.named; defined = rw other more.defined }
]

-- each definition is defined
self_defined : (defs : Definitions) (i : ℕ) (d : Row) → slice_get defs i ≡ Some d → is_defined defs d.0 ≡ true
self_defined [] i d e = absurd cc
self_defined (x ∷ defs) zero d e =
    let same : x ≡ d = some_is {A = Row} x d e in
    let eq : bytes_eq x.0 d.0 ≡ true = (bytes_eq-Decides x.0 d.0).1 (ap (λ (y : Row). y.0) same) in
    rw eq refl
self_defined (x ∷ defs) (suc i) d e = elim (true_or_false (bytes_eq x.0 d.0)) [
  | inl same ↦ rw same refl
  | inr other ↦ rw other (self_defined defs i d e)
]

-- what its name is defined as is its type
own_definition : (defs : Definitions) → Apart defs → (i : ℕ) (d : Row) → slice_get defs i ≡ Some d → definition_of defs d.0 ≡ Some d.1
own_definition defs apart i d there =
    let f = found defs 0 d.0 (self_defined defs i d there) in
    let same : f.step ≡ i = apart f.step i f.row d f.there there f.named in
    let row : f.row ≡ d = some_is {A = Row} f.row d (sym f.there ∙ ap (slice_get defs) same ∙ there) in
    f.defined ∙ ap (λ (y : Row). Some y.1) row

no_name : (part : Part) → is_name part ≡ false → name_in part ≡ None
no_name (Prim p) e = refl
no_name Float e = refl
no_name (Name name) e = absurd cc
no_name (Place place) e = refl

-- a step from a definition: it is no name, and one stays; or one comes to the definition of its name
pub data Step (defs : Definitions) (i : ℕ) (d : List ℕ × Part) : Type 0 where
  stays : is_name d.1 ≡ false → next_place defs i ≡ i → Step defs i d
  goes : (j : ℕ) (e : List ℕ × Part) → is_name d.1 ≡ true → next_place defs i ≡ j → slice_get defs j ≡ Some e → next_name defs d.0 ≡ Some e.0 → replaced defs d.1 ≡ Some e.1 → Step defs i d

step_of : (defs : Definitions) → Apart defs → (i : ℕ) (name : List ℕ) (part : Part) → slice_get defs i ≡ Some (name, part) → is_bound defs part ≡ true → Step defs i (name, part)
step_of defs apart i name (Prim p) there bound = stays refl (rw there refl)
step_of defs apart i name Float there bound = stays refl (rw there refl)
step_of defs apart i name (Place place) there bound = stays refl (rw there refl)
step_of defs apart i name (Name other) there bound =
    let f = found defs 0 other bound in
    let n : 0 + f.step ≡ f.step = omega arith in
    let place : place_from defs 0 other ≡ Some f.step = f.place ∙ ap (λ (k : ℕ). Some k) n in
    let next : next_place defs i ≡ f.step = rw (there, place) refl in
    let own = own_definition defs apart i (name, Name other) there in
    let named : next_name defs name ≡ Some f.row.0 = rw own (ap (λ (n : List ℕ). Some n) (sym f.named)) in
    goes f.step f.row refl next f.there named f.defined

pub step : (defs : Definitions) → Apart defs → AllBound defs → (i : ℕ) (d : List ℕ × Part) → slice_get defs i ≡ Some d → Step defs i d
step defs apart bound i d there = step_of defs apart i d.0 d.1 there (bound i d there)

stuck : (defs : Definitions) (i : ℕ) (k : ℕ) → next_place defs i ≡ i → after_steps defs k i ≡ i
stuck defs i zero e = refl
stuck defs i (suc k) e = ap (after_steps defs k) e ∙ stuck defs i k e

-- what one comes to by a number of steps
pub record Comes (defs : Definitions) (k i : ℕ) (d : List ℕ × Part) : Type 0 where
  pub row : List ℕ × Part
  pub there : slice_get defs (after_steps defs k i) ≡ Some row
  pub followed : (follow defs k d.0 ≡ Some row.0) ⊎ (is_name row.1 ≡ false)
  pub times : ℕ
  pub replaced_is : replaced_times defs times d.1 ≡ Some row.1

pub comes : (defs : Definitions) → Apart defs → AllBound defs → (k i : ℕ) (d : List ℕ × Part) → slice_get defs i ≡ Some d → Comes defs k i d
comes defs apart bound zero i d there = record { row = d; there = there; followed = inl refl; times = 0; replaced_is = refl }
comes defs apart bound (suc k) i d there = elim (step defs apart bound i d there) [
  | stays none next ↦
      let same : after_steps defs (suc k) i ≡ i = stuck defs i (suc k) next in
      record { row = d; there = ap (slice_get defs) same ∙ there; followed = inr none; times = 0; replaced_is = refl }
  | goes j e is next at named replaced ↦
      let more = comes defs apart bound k j e at in
      record {
        row = more.row;
        there = ap (λ place. slice_get defs (after_steps defs k place)) next ∙ more.there;
        followed = elim more.followed [ inl f ↦ inl (ap (λ (n : Option (List ℕ)). n >>= follow defs k) named ∙ f) | inr f ↦ inr f ];
        times = suc more.times;
        replaced_is = ap (λ (p : Option Part). p >>= replaced_times defs more.times) replaced ∙ more.replaced_is;
      }
]

-- what one comes to through names alone
follow_is : (defs : Definitions) → Apart defs → AllBound defs → (k i : ℕ) (d : Row) (name : List ℕ) → slice_get defs i ≡ Some d → follow defs k d.0 ≡ Some name → (e : Row) × (slice_get defs (after_steps defs k i) ≡ Some e) × (e.0 ≡ name)
follow_is defs apart bound zero i d name there f = (d, there, some_is {A = List ℕ} d.0 name f)
follow_is defs apart bound (suc k) i d name there f = elim (step defs apart bound i d there) [
  | stays none next ↦
      let own = own_definition defs apart i d there in
      let nothing : next_name defs d.0 ≡ None = rw own (no_name d.1 none) in
      let g : None ≡ Some name = sym (ap (λ (n : Option (List ℕ)). n >>= follow defs k) nothing) ∙ f in
      absurd cc
  | goes j e is next at named replaced ↦
      let g : follow defs k e.0 ≡ Some name = sym (ap (λ (n : Option (List ℕ)). n >>= follow defs k) named) ∙ f in
      let more = follow_is defs apart bound k j e name at g in
      (more.0, ap (λ place. slice_get defs (after_steps defs k place)) next ∙ more.1, more.2)
]

-- a definition that leads back is on a ring, and is a name
pub back_is_ring : (defs : Definitions) → Apart defs → AllBound defs → (i : ℕ) (d : List ℕ × Part) → slice_get defs i ≡ Some d → LeadsBack defs d.0 → ((p : ℕ) × (after_steps defs (suc p) i ≡ i)) × (is_name d.1 ≡ true)
back_is_ring defs apart bound i d there back =
    let f = follow_is defs apart bound (suc back.0) i d d.0 there back.1 in (
      (back.0, apart (after_steps defs (suc back.0) i) i f.0 d f.1 there f.2),
      elim (step defs apart bound i d there) [
        | stays none next ↦
            let own = own_definition defs apart i d there in
            let nothing : next_name defs d.0 ≡ None = rw own (no_name d.1 none) in
            let g : None ≡ Some d.0 = sym (ap (λ (n : Option (List ℕ)). n >>= follow defs back.0) nothing) ∙ back.1 in
            absurd cc
        | goes j e is next at named replaced ↦ is
      ],
    )

pub ring_leads_back : (defs : Definitions) → Apart defs → AllBound defs → (i p : ℕ) (d : List ℕ × Part) → slice_get defs i ≡ Some d → is_name d.1 ≡ true → after_steps defs (suc p) i ≡ i → LeadsBack defs d.0
ring_leads_back defs apart bound i p d there is ring =
    let c = comes defs apart bound (suc p) i d there in
    let same : c.row ≡ d = some_is {A = Row} c.row d (sym c.there ∙ ap (slice_get defs) ring ∙ there) in
    elim c.followed [
      | inl f ↦ (p, f ∙ ap (λ (y : Row). Some y.0) same)
      | inr none ↦ let g : true ≡ false = sym is ∙ ap (λ (y : Row). is_name y.1) (sym same) ∙ none in absurd cc
    ]

-- ---- steps

pub after_sum : (defs : Definitions) (a b i : ℕ) → after_steps defs (a + b) i ≡ after_steps defs b (after_steps defs a i)
after_sum defs zero b i = let n : 0 + b ≡ b = omega arith in ap (λ k. after_steps defs k i) n
after_sum defs (suc a) b i = let n : suc a + b ≡ suc (a + b) = omega arith in ap (λ k. after_steps defs k i) n ∙ after_sum defs a b (next_place defs i)

around : (defs : Definitions) (p i m : ℕ) → after_steps defs (suc p) i ≡ i → after_steps defs (m * suc p) i ≡ i
around defs p i zero ring = let n : 0 * suc p ≡ 0 = omega arith in ap (λ k. after_steps defs k i) n
around defs p i (suc m) ring =
    let n : suc m * suc p ≡ suc p + m * suc p = grind arith in
    ap (λ k. after_steps defs k i) n ∙ after_sum defs (suc p) (m * suc p) i ∙ ap (after_steps defs (m * suc p)) ring ∙ around defs p i m ring

-- a place on a ring is come to by a number of steps
pub reached : (defs : Definitions) (p i k : ℕ) → after_steps defs (suc p) i ≡ i → after_steps defs k (after_steps defs (k * p) i) ≡ i
reached defs p i k ring =
    let n : k * p + k ≡ k * suc p = grind arith in
    sym (after_sum defs (k * p) k i) ∙ ap (λ m. after_steps defs m i) n ∙ around defs p i k ring

-- the places on the way
abbrev trail : Definitions → ℕ → ℕ → List ℕ
trail defs zero i = []
trail defs (suc m) i = i ∷ trail defs m (next_place defs i)

trail_length : (defs : Definitions) (m i : ℕ) → length (trail defs m i) ≡ m
trail_length defs zero i = refl
trail_length defs (suc m) i = ap suc (trail_length defs m (next_place defs i))

on_trail : (defs : Definitions) (m i q : ℕ) → list_any (nat_eq q) (trail defs m i) ≡ true → (a : ℕ) × (a < m) × (after_steps defs a i ≡ q)
on_trail defs zero i q e = absurd cc
on_trail defs (suc m) i q e = elim (true_or_false (nat_eq q i)) [
  | inl same ↦ let s : q ≡ i = grind (arith, same) in (0, omega arith, sym s)
  | inr other ↦
      let f : list_any (nat_eq q) (trail defs m (next_place defs i)) ≡ true = rw other at e in
      let more = on_trail defs m (next_place defs i) q f in
      (suc more.0, omega (arith, more.1), more.2)
]

-- none is equal
all_other : (q : ℕ) (xs : List ℕ) → list_any (nat_eq q) xs ≡ false → AllByRecursion (λ y. nat_eq q y ≡ false) xs
all_other q [] e = tt
all_other q (x ∷ xs) e = elim (true_or_false (nat_eq q x)) [
  | inl same ↦ let f : true ≡ false = rw same at e in absurd cc
  | inr other ↦ let f : list_any (nat_eq q) xs ≡ false = rw other at e in (other, all_other q xs f)
]

-- all places on the way differ, or one comes twice to one of them
distinct_or_ring : (defs : Definitions) (m i : ℕ) → IsDistinct nat_eq (trail defs m i) ⊎ ((a : ℕ) × (p : ℕ) × (a < m) × (after_steps defs (suc p) (after_steps defs a i) ≡ after_steps defs a i))
unfolding IsDistinct
distinct_or_ring defs zero i = inl tt
distinct_or_ring defs (suc m) i = elim (distinct_or_ring defs m (next_place defs i)) [
  | inr ring ↦ inr (suc ring.0, ring.1, omega (arith, ring.2), ring.3)
  | inl distinct ↦ elim (true_or_false (list_any (nat_eq i) (trail defs m (next_place defs i)))) [
    | inl again ↦
        let t = on_trail defs m (next_place defs i) i again in
        inr (0, t.0, omega arith, t.2)
    | inr never ↦ inl (all_other i (trail defs m (next_place defs i)) never, distinct)
  ]
]

-- after as many steps as there are definitions one is on a ring
pub ends_on_ring : (defs : Definitions) (k i : ℕ) → ((a : ℕ) → after_steps defs a i < length defs) → length defs ≤ k → (p : ℕ) × (after_steps defs (suc p) (after_steps defs k i) ≡ after_steps defs k i)
ends_on_ring defs k i inside long = elim (distinct_or_ring defs (suc (length defs)) i) [
  | inl distinct ↦
      let few = length-le_from_distinct_below (trail defs (suc (length defs)) i) (length defs) distinct (λ q on. let t = on_trail defs (suc (length defs)) i q on in subst (λ x. x < length defs) t.2 (inside t.0)) in
      let long : length (trail defs (suc (length defs)) i) ≡ suc (length defs) = trail_length defs (suc (length defs)) i in
      absurd (omega (arith, few, long))
  | inr ring ↦
      let a = ring.0 in
      let b = k - ring.0 in
      let n : ring.0 + (k - ring.0) ≡ k = omega (arith, ring.2, long) in
      let m : (k - ring.0) + suc ring.1 ≡ suc ring.1 + (k - ring.0) = omega arith in
      let at : after_steps defs k i ≡ after_steps defs (k - ring.0) (after_steps defs ring.0 i) = ap (λ x. after_steps defs x i) (sym n) ∙ after_sum defs ring.0 (k - ring.0) i in (
        ring.1,
        ap (after_steps defs (suc ring.1)) at
            ∙ sym (after_sum defs (k - ring.0) (suc ring.1) (after_steps defs ring.0 i))
            ∙ ap (λ x. after_steps defs x (after_steps defs ring.0 i)) m
            ∙ after_sum defs (suc ring.1) (k - ring.0) (after_steps defs ring.0 i)
            ∙ ap (after_steps defs (k - ring.0)) ring.3
            ∙ sym at,
      )
]
