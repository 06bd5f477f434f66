-- What a pattern says, and not how it is kept, decides which values meet it.
use Rattle.std.proofs.Common.{◌≡◌, ℕ, List, [], ◌∷◌, ◌++◌, map, Some, refl, sym, ap, subst, ◌∙◌}
use Rattle.ic_base.proofs.Steps.{some_is}
use Rattle.cd_types.specs.declared.entry.TyRef.{TyRef}
use Rattle.cd_codec.specs.Content.{Content}
use Rattle.cd_codec.specs.View.{view}
use Rattle.cd_tokens.specs.Token.{Token}
use Rattle.ct_patterns.specs.declared.step.Step.{Step}
use Rattle.ct_patterns.specs.declared.step.Step.TheVariants.{Any, Bound, Is, Opt, Seq, Rec, Var}
use Rattle.ct_patterns.specs.Views.{Bound as Binding}
use Rattle.ct_patterns.specs.Meets.{MeetsStep, Meets, bound, fields_at}
use Rattle.ct_patterns.proofs.Matches.{one}
use Rattle.ct_values.specs.Steps.{Step as Sought, step_view, step_views}
use Rattle.ct_outcomes.specs.declared.named.Named.{Named}
use Rattle.ct_outcomes.specs.Types.{Types}
use Rattle.ct_outcomes.specs.Standings.{named_of}
use Rattle.ct_outcomes.specs.Meets.{MeetsSaid}

step_met : (s t : Step) (v : Content) (parts : List Content) → step_view s ≡ step_view t → MeetsStep s v parts → MeetsStep t v parts
step_met Any Any v parts e m = m
step_met (Bound n k) (Bound o l) v parts e m = m
step_met (Is u) (Is w) v parts e m = let same : view u ≡ view w = cc in (m.0, sym same ∙ m.1, m.2)
step_met Opt Opt v parts e m = m
step_met (Seq c) (Seq d) v parts e m = let same : c ≡ d = cc in subst (λ n. MeetsStep (Seq n) v parts) same m
step_met (Rec p) (Rec q) v parts e m = let same : p.items.items ≡ q.items.items = cc in (m.0, m.1, subst (λ ps. fields_at ps m.0 ≡ Some parts) same m.2)
step_met (Var i) (Var j) v parts e m = let same : i ≡ j = cc in subst (λ n. MeetsStep (Var n) v parts) same m
step_met _ _ v parts e m = absurd cc

step_bound : (s t : Step) (v : Content) → step_view s ≡ step_view t → bound s v ≡ bound t v
step_bound (Bound n k) (Bound o l) v e =
    let name : n ≡ o = cc in
    let type : k ≡ l = cc in
    ap (λ (x : List ℕ). (x, k, v) ∷ []) name ∙ ap (λ (y : TyRef). (o, y, v) ∷ []) type
step_bound (Bound n k) _ v e = absurd cc
step_bound _ (Bound o l) v e = absurd cc
step_bound _ _ v e = refl

-- steps that say the same are met alike
pub met_alike : (steps others : List Step) (values : List Content) (bindings : List Binding) → step_views steps ≡ step_views others → Meets steps values bindings → Meets others values bindings
met_alike [] [] values bindings e m = m
met_alike [] (t ∷ others) values bindings e m = absurd cc
met_alike (s ∷ steps) [] values bindings e m = absurd cc
met_alike (s ∷ steps) (t ∷ others) values bindings e m =
    let here : step_view s ≡ step_view t = cc in
    let more : step_views steps ≡ step_views others = cc in
    record {
      value = m.value;
      others = m.others;
      parts = m.parts;
      more = m.more;
      whole = m.whole;
      meets = step_met s t m.value m.parts here m.meets;
      binds = m.binds ∙ ap (λ b. b ++ m.more) (step_bound s t m.value here);
      follows = met_alike steps others (m.parts ++ m.others) m.more more m.follows;
    }

-- what tokens say binds one thing at most
pub one_said : (types : Types) (tokens : List Token) (values : List Content) (bound other : List Named) → MeetsSaid types tokens values bound → MeetsSaid types tokens values other → bound ≡ other
one_said types tokens values bound other is are =
    let same = some_is {A = List Sought} (step_views is.steps) (step_views are.steps) (sym is.said ∙ are.said) in
    let met = met_alike is.steps are.steps values is.bindings same is.meets in
    is.binds ∙ ap (map (named_of types)) (one are.steps values is.bindings are.bindings met are.meets) ∙ sym are.binds
