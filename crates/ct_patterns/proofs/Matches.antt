-- Values meet a pattern exactly where the function gives what is bound.
use Rattle.std.proofs.Common.{◌≡◌, List, [], ◌∷◌, ◌++◌, Option, Some, None, refl, sym, ◌∙◌}
use Rattle.std.specs.Prelude.{option_map, Result, Ok, Err, IfOk, IfSome}
use Rattle.ic_base.proofs.Steps.{some_is, bind_some}
use Rattle.cd_codec.specs.Content.{Content}
use Rattle.ct_patterns.specs.declared.step.Step.{Step}
use Rattle.ct_patterns.specs.Views.{Bound}
use Rattle.ct_patterns.specs.Meets.{Meets, bound}
use Rattle.ct_patterns.specs.Met.{opened, met}
use Rattle.ct_patterns.proofs.Opened.{opened_meets, meets_opened}

mapped : {A B : Type 0} (f : A → B) (found : Option A) (y : B) → option_map f found ≡ Some y → (x : A) × (found ≡ Some x) × (f x ≡ y)
mapped f None y e = absurd cc
mapped f (Some x) y e = (x, refl, some_is _ _ e)

pub met_meets : (pattern : List Step) (values : List Content) (bindings : List Bound) → met pattern values ≡ Some bindings → Meets pattern values bindings
met_meets [] [] bindings e = (refl, sym (some_is _ _ e))
met_meets [] (v ∷ values) bindings e = absurd cc
met_meets (step ∷ steps) [] bindings e = absurd cc
met_meets (step ∷ steps) (v ∷ values) bindings e =
    let h = bind_some (opened step v) (λ (parts : List Content). option_map (λ (bs : List Bound). bound step v ++ bs) (met steps (parts ++ values))) bindings e in
    let g = mapped (λ (bs : List Bound). bound step v ++ bs) (met steps (h.0 ++ values)) bindings h.2 in
    record { value = v; others = values; parts = h.0; more = g.0; whole = refl; meets = opened_meets step v h.0 h.1; binds = sym g.2; follows = met_meets steps (h.0 ++ values) g.0 g.1 }

pub meets_met : (pattern : List Step) (values : List Content) (bindings : List Bound) → Meets pattern values bindings → met pattern values ≡ Some bindings
meets_met [] values bindings m = rw (m.0, m.1) refl
meets_met (step ∷ steps) values bindings m = rw (m.whole, meets_opened step m.value m.parts m.meets, meets_met steps (m.parts ++ m.others) m.more m.follows, m.binds) refl

pub one : (pattern : List Step) (values : List Content) (bindings others : List Bound) → Meets pattern values bindings → Meets pattern values others → bindings ≡ others
one pattern values bindings others m n = some_is _ _ (sym (meets_met pattern values bindings m) ∙ meets_met pattern values others n)

pub found_meets : {A E : Type 0} (view : A → List Bound) (result : Result (Option A) E) (pattern : List Step) (values : List Content) → IfOk result (λ found. option_map view found ≡ met pattern values)
    → IfOk result (λ found. IfSome found (λ b. Meets pattern values (view b)))
found_meets view (Ok (Some b)) pattern values e = met_meets pattern values (view b) (sym e)
found_meets view (Ok None) pattern values e = tt
found_meets view (Err x) pattern values e = tt

pub only_meets : {A E : Type 0} (view : A → List Bound) (result : Result (Option A) E) (pattern : List Step) (values : List Content) (bindings : List Bound) → IfOk result (λ found. option_map view found ≡ met pattern values)
    → Meets pattern values bindings → IfOk result (λ found. option_map view found ≡ Some bindings)
only_meets view (Ok found) pattern values bindings e m = e ∙ meets_met pattern values bindings m
only_meets view (Err x) pattern values bindings e m = tt
