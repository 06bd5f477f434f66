-- Types of two tables that are made alike.
use Rattle.std.proofs.Common.{◌≡◌, ℕ, zero, suc, List, [], ◌∷◌, Some, refl, sym, ap, ◌∙◌, subst}
use Rattle.std.specs.Prelude.{slice_get}
use Rattle.ic_base.proofs.Steps.{some_is}
use Rattle.cd_types.specs.declared.entry.TyRef.{TyRef}
use Rattle.cd_types.specs.declared.entry.TyRef.TheVariants.{Prim}
use Rattle.cd_types.specs.declared.entry.Entry.{Entry}
use Rattle.cd_types.specs.declared.entry.Entry.TheVariants.{Opt, Seq, Rec, Var, Func, Service}
use Rattle.cd_types.specs.Shape.{Shape, primitive, compound, dangling}

-- the types of one list are related to those of the other, one by one
abbrev pub AlikeTypes : (TyRef → TyRef → Type 0) → List TyRef → List TyRef → Type 0
AlikeTypes R [] us = us ≡ []
AlikeTypes R (t ∷ ts) us = (u : TyRef) × (more : List TyRef) × (us ≡ u ∷ more) × R t u × AlikeTypes R ts more

-- the same under equal labels
abbrev pub AlikeUnder : {K : Type 0} → (TyRef → TyRef → Type 0) → List (K × TyRef) → List (K × TyRef) → Type 0
AlikeUnder R [] gs = gs ≡ []
AlikeUnder {K} R (f ∷ fs) gs = (u : TyRef) × (more : List (K × TyRef)) × (gs ≡ (f.0, u) ∷ more) × R f.1 u × AlikeUnder R fs more

-- the shape is of an entry with related types
abbrev pub AlikeEntry : (TyRef → TyRef → Type 0) → Entry → Shape → Type 0
AlikeEntry R (Opt a) s = (b : TyRef) × (s ≡ compound (Opt b)) × R a b
AlikeEntry R (Seq a) s = (b : TyRef) × (s ≡ compound (Seq b)) × R a b
AlikeEntry R (Rec fs) s = (gs : List (ℕ × TyRef)) × (s ≡ compound (Rec gs)) × AlikeUnder R fs gs
AlikeEntry R (Var fs) s = (gs : List (ℕ × TyRef)) × (s ≡ compound (Var gs)) × AlikeUnder R fs gs
AlikeEntry R (Func args results notes) s = (args' results' : List TyRef) × (s ≡ compound (Func args' results' notes)) × AlikeTypes R args args' × AlikeTypes R results results'
AlikeEntry R (Service ms) s = (ns : List (List ℕ × TyRef)) × (s ≡ compound (Service ns)) × AlikeUnder R ms ns

abbrev pub Alike : (TyRef → TyRef → Type 0) → Shape → Shape → Type 0
Alike R (primitive p) s = s ≡ primitive p
Alike R (compound entry) s = AlikeEntry R entry s
Alike R dangling s = ⊥

abbrev pub Turned : (TyRef → TyRef → Type 0) → TyRef → TyRef → Type 0
Turned R u t = R t u

module _ (R : TyRef → TyRef → Type 0) where
  pub types_turned : (ts us : List TyRef) → AlikeTypes R ts us → AlikeTypes (Turned R) us ts
  types_turned [] us e = subst (λ (us : List TyRef). AlikeTypes (Turned R) us []) (sym e) refl
  types_turned (t ∷ ts) us (u, more, e, r, rest) = subst (λ (us : List TyRef). AlikeTypes (Turned R) us (t ∷ ts)) (sym e) (t, ts, refl, r, types_turned ts more rest)

  pub under_turned : {K : Type 0} (fs gs : List (K × TyRef)) → AlikeUnder R fs gs → AlikeUnder (Turned R) gs fs
  under_turned {K} [] gs e = subst (λ (gs : List (K × TyRef)). AlikeUnder (Turned R) gs []) (sym e) refl
  under_turned {K} (f ∷ fs) gs (u, more, e, r, rest) = subst (λ (gs : List (K × TyRef)). AlikeUnder (Turned R) gs (f ∷ fs)) (sym e) (f.1, fs, refl, r, under_turned fs more rest)

  -- what is made alike is so the other way round
  pub turned : (s s' : Shape) → Alike R s s' → Alike (Turned R) s' s
  turned (primitive p) s' e = subst (λ (x : Shape). Alike (Turned R) x (primitive p)) (sym e) refl
  turned (compound (Opt a)) s' (b, e, r) = subst (λ (x : Shape). Alike (Turned R) x (compound (Opt a))) (sym e) (a, refl, r)
  turned (compound (Seq a)) s' (b, e, r) = subst (λ (x : Shape). Alike (Turned R) x (compound (Seq a))) (sym e) (a, refl, r)
  turned (compound (Rec fs)) s' (gs, e, r) = subst (λ (x : Shape). Alike (Turned R) x (compound (Rec fs))) (sym e) (fs, refl, under_turned fs gs r)
  turned (compound (Var fs)) s' (gs, e, r) = subst (λ (x : Shape). Alike (Turned R) x (compound (Var fs))) (sym e) (fs, refl, under_turned fs gs r)
  turned (compound (Func args results notes)) s' (args', results', e, r, r') =
      subst (λ (x : Shape). Alike (Turned R) x (compound (Func args results notes))) (sym e) (args, results, refl, types_turned args args' r, types_turned results results' r')
  turned (compound (Service ms)) s' (ns, e, r) = subst (λ (x : Shape). Alike (Turned R) x (compound (Service ms))) (sym e) (ms, refl, under_turned ms ns r)
  turned dangling s' e = absurd e

  -- what is at a place of one list is at that of the other
  pub under_at : (fs gs : List (ℕ × TyRef)) (i : ℕ) (f : ℕ × TyRef) → AlikeUnder R fs gs → slice_get fs i ≡ Some f → (u : TyRef) × (slice_get gs i ≡ Some (f.0, u)) × R f.1 u
  under_at [] gs i f alike at = absurd cc
  under_at (g ∷ fs) gs zero f (u, more, e, r, rest) at =
      let one : g ≡ f = some_is {A = ℕ × TyRef} g f at in
      (u, ap (λ (gs : List (ℕ × TyRef)). slice_get gs 0) e ∙ ap (λ (g : ℕ × TyRef). Some (g.0, u)) one, subst (λ (g : ℕ × TyRef). R g.1 u) one r)
  under_at (g ∷ fs) gs (suc i) f (u, more, e, r, rest) at =
      let next = under_at fs more i f rest at in
      (next.0, ap (λ (gs : List (ℕ × TyRef)). slice_get gs (suc i)) e ∙ next.1, next.2)
