-- Steps that values meet, and that bind nothing.
use Rattle.std.proofs.Common.{◌≡◌, ℕ, true, List, [], ◌∷◌, ◌++◌, length, map, Some, refl, sym, ap, subst, append_assoc}
use Rattle.std.specs.Prelude.{◌⊎◌}
use Rattle.std.proofs.lemmas.List.{append-nil}
use Rattle.cd_codec.specs.Content.{Content, blob, some, list, record_of, variant, contents_of, parts_of}
use Rattle.ct_patterns.specs.declared.step.Step.{Step as Held}
use Rattle.ct_patterns.specs.declared.step.Step.TheVariants as held
use Rattle.ct_patterns.specs.Views.{byte, Bound}
use Rattle.ct_patterns.specs.Meets.{is_leaf, fields_at, MeetsStep, bound, Meets}
use Rattle.ct_values.specs.Steps.{Step, anything, named, exactly, optional, sequence, some_fields, one_case, step_view, step_views}

-- the value meets the step, which binds nothing, and these of its parts are next
abbrev pub Opens : Step → Content → List Content → Type 0
Opens anything v parts = parts ≡ []
Opens (named name type) v parts = ⊥
Opens (exactly u) v parts = (is_leaf v ≡ true) × (u ≡ v) × (parts ≡ [])
Opens optional v parts = (part : Content) × (v ≡ some part) × (parts ≡ part ∷ [])
Opens (sequence count) v parts = ((v ≡ list (contents_of parts)) ⊎ ((bytes : List ℕ) × (v ≡ blob bytes) × (parts ≡ map byte bytes))) × (length parts ≡ count)
Opens (some_fields places) v parts = (fields : List (ℕ × Content)) × (v ≡ record_of (parts_of fields)) × (fields_at places fields ≡ Some parts)
Opens (one_case place) v parts = (part : Content) × (v ≡ variant place part) × (parts ≡ part ∷ [])

opens_meets : (h : Held) (v : Content) (parts : List Content) → Opens (step_view h) v parts → MeetsStep h v parts × (bound h v ≡ [])
opens_meets held.Any v parts o = (o, refl)
opens_meets (held.Bound name type) v parts o = absurd o
opens_meets (held.Is u) v parts o = (o, refl)
opens_meets held.Opt v parts o = (o, refl)
opens_meets (held.Seq count) v parts o = (o, refl)
opens_meets (held.Rec places) v parts o = (o, refl)
opens_meets (held.Var place) v parts o = (o, refl)

-- the values meet the steps, which bind nothing, whatever steps and values follow
abbrev pub AreMet : List Step → List Content → Type 0
AreMet steps values = (pattern more : List Held) (others : List Content) (bindings : List Bound) → step_views pattern ≡ steps → Meets more others bindings → Meets (pattern ++ more) (values ++ others) bindings

pub nothing_met : AreMet [] []
nothing_met [] more others bindings e m = m
nothing_met (h ∷ pattern) more others bindings e m = absurd cc

pub one_met : (s : Step) (v : Content) (parts : List Content) (steps : List Step) → Opens s v parts → AreMet steps parts → AreMet (s ∷ steps) (v ∷ [])
one_met s v parts steps opens met [] more others bindings e m = absurd cc
one_met s v parts steps opens met (h ∷ pattern) more others bindings e m =
    let first : step_view h ≡ s = cc in
    let rest : step_views pattern ≡ steps = cc in
    let o = opens_meets h v parts (subst (λ (t : Step). Opens t v parts) (sym first) opens) in
    let none : bindings ≡ bound h v ++ bindings = rw o.1 refl in
    record { value = v; others = others; parts = parts; more = bindings; whole = refl; meets = o.0; binds = none; follows = met pattern more others bindings rest m }

-- the steps of two lists
record Split (pattern : List Held) (one two : List Step) : Type 0 where
  front : List Held
  back : List Held
  whole : pattern ≡ front ++ back
  are_one : step_views front ≡ one
  are_two : step_views back ≡ two

split : (pattern : List Held) (one two : List Step) → step_views pattern ≡ one ++ two → Split pattern one two
split pattern [] two e = record { front = []; back = pattern; whole = refl; are_one = refl; are_two = e }
split [] (s ∷ one) two e = absurd cc
split (h ∷ pattern) (s ∷ one) two e =
    let first : step_view h ≡ s = cc in
    let rest : step_views pattern ≡ one ++ two = cc in
    let r = split pattern one two rest in
    let both : step_view h ∷ step_views r.front ≡ s ∷ one = rw (first, r.are_one) refl in
    record { front = h ∷ r.front; back = r.back; whole = ap (λ (hs : List Held). h ∷ hs) r.whole; are_one = both; are_two = r.are_two }

pub both_met : (one two : List Step) (us vs : List Content) → AreMet one us → AreMet two vs → AreMet (one ++ two) (us ++ vs)
both_met one two us vs met_one met_two pattern more others bindings e m =
    let s = split pattern one two e in
    let second = met_two s.back more others bindings s.are_two m in
    let first = met_one s.front (s.back ++ more) (vs ++ others) bindings s.are_one second in
    rw (s.whole, append_assoc s.front s.back more, append_assoc us vs others) first

-- a value without parts
pub leaf_met : (v : Content) → is_leaf v ≡ true → AreMet (exactly v ∷ []) (v ∷ [])
leaf_met v leaf = one_met (exactly v) v [] [] (leaf, refl, refl) nothing_met

-- the values meet the whole pattern
pub all_met : (steps : List Step) (values : List Content) (pattern : List Held) → AreMet steps values → step_views pattern ≡ steps → Meets pattern values []
all_met steps values pattern met e =
    let m : Meets (pattern ++ []) (values ++ []) [] = met pattern [] [] [] e (refl, refl) in
    rw (append-nil pattern, append-nil values) at m
