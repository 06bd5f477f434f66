-- what is settled without the parts of a value
use Rattle.std.proofs.Common.{◌≡◌, Bool, true, false, List, Option, Some, None, refl, sym, ◌∙◌, ap, subst}
use Rattle.std.specs.Prelude.{Result}
use Rattle.ic_base.specs.Gives.{Gives}
use Rattle.ic_base.specs.declared.read_error.ReadError.{ReadError}
use Rattle.cd_types.specs.declared.entry.Entry.{Entry}
use Rattle.cd_codec.specs.declared.value.Value.{Value}
use Rattle.cd_codec.specs.View.{view}
use Rattle.cd_coerce.specs.declared.step.Step.{Step}
use Rattle.cd_coerce.specs.declared.step.Step.TheVariants.{Inner as InnerStep, Parts as PartsStep}
use Rattle.cd_types.specs.declared.entry.TyRef.{TyRef}
use Rattle.cd_types.specs.Shape.{shape}
use Rattle.cd_codec.specs.Content.{Content, plain, blob, none, some, list, record_of, variant}
use Rattle.cd_coerce.specs.Read.{Setting, AtTypes, plain_at, some_if, plain_coercion, coercions, coerced}
use Rattle.cd_coerce.specs.Step.{setting, answer_of_plain, plain_part, inner_at, parts_at, lifted, coerced_by}
use Rattle.cd_coerce.proofs.Only.{plain_own}

-- what is read without parts, if the value has none
abbrev pub or_parts : Option (Option Content) → Option Content → Option Content
or_parts None parts = None
or_parts (Some None) parts = parts
or_parts (Some (Some r)) parts = Some r

answer_of_plain_back : (o parts : Option Content) → o ≡ or_parts (answer_of_plain o) parts
answer_of_plain_back None parts = refl
answer_of_plain_back (Some r) parts = refl

pub own_is : (c : Setting) (v : Content) (t u : TyRef) → (coercions c v).own t u ≡ or_parts (plain_part v (shape c.expected u)) (parts_at c v t u)
own_is c (plain p) t u = ap (λ (read : AtTypes). read t u) (plain_own c _ (plain_coercion c p)) ∙ answer_of_plain_back (plain_at p (shape c.expected u)) None
own_is c (blob s) t u = refl
own_is c none t u = refl
own_is c (some v) t u = refl
own_is c (list vs) t u = refl
own_is c (record_of ps) t u = refl
own_is c (variant i v) t u = refl

-- the tables of the message and of the expected types
abbrev pub Tables : Type 0
Tables = List Entry × List Entry

abbrev pub in_tables : Tables → Setting
in_tables tables = setting tables.0 tables.1

-- a value that is settled by a step, whose part is read or refused: `before` are the tables at the
-- start, `limited` and `settled` those after the two first steps
pub settled_so : (before limited settled : Tables) (v : Content) (t u : TyRef) (step : Step) (result : Result Value ReadError) → limited ≡ before → settled ≡ limited
    → coerced (in_tables limited) v t u ≡ coerced_by (in_tables limited) v t step → Gives view result (coerced_by (in_tables settled) v t step) → Gives view result (coerced (in_tables before) v t u)
settled_so before limited settled v t u step result same same' settles reads =
    let read : Gives view result (coerced_by (in_tables limited) v t step) = subst (λ (s : Tables). Gives view result (coerced_by (in_tables s) v t step)) same' reads in
    subst (λ (s : Tables). Gives view result (coerced (in_tables s) v t u)) same (subst (Gives view result) (sym settles) read)

-- a value that is settled by a step, and has no reading there
pub settled_none : (before limited settled : Tables) (v : Content) (t u : TyRef) (step : Step) → limited ≡ before → settled ≡ limited
    → coerced (in_tables limited) v t u ≡ coerced_by (in_tables limited) v t step → coerced_by (in_tables settled) v t step ≡ None → coerced (in_tables before) v t u ≡ None
settled_none before limited settled v t u step same same' settles refused =
    ap (λ (s : Tables). coerced (in_tables s) v t u) (sym same) ∙ settles ∙ ap (λ (s : Tables). coerced_by (in_tables s) v t step) (sym same') ∙ refused

-- what is lifted is none where nothing is read
lifts_none : (lift : Bool) → lifted lift None ≡ None
lifts_none true = refl
lifts_none false = refl

-- a step that asks for parts, of a value that has none
pub coerced_by_none : (c : Setting) (v : Content) (t w : TyRef) (lift : Bool) (step : Step) → step ≡ PartsStep w lift → parts_at c v t w ≡ None → coerced_by c v t step ≡ None
coerced_by_none c v t w lift step is no_parts = ap (coerced_by c v t) is ∙ ap (lifted lift) no_parts ∙ lifts_none lift

pub coerced_by_empty : (c : Setting) (v : Content) (t x w : TyRef) (step : Step) → step ≡ InnerStep x w → inner_at c v x w ≡ None → coerced_by c v t step ≡ None
coerced_by_empty c v t x w step is no_inner = ap (coerced_by c v t) is ∙ ap (some_if true) no_inner

-- a value whose parts are read
pub parts_read : (c : Setting) (v whole : Content) (t w : TyRef) (lift : Bool) (step : Step) (read result : Result Value ReadError) → step ≡ PartsStep w lift → v ≡ whole
    → Gives view read (parts_at c whole t w) → ((content : Option Content) → Gives view read content → Gives view result (lifted lift content)) → Gives view result (coerced_by c v t step)
parts_read c v whole t w lift step read result is v_is reads lifts =
    let parts : Gives view read (parts_at c v t w) = subst (λ (x : Content). Gives view read (parts_at c x t w)) (sym v_is) reads in
    subst (λ (p : Step). Gives view result (coerced_by c v t p)) (sym is) (lifts (parts_at c v t w) parts)

-- some of a value, which is read
pub inner_read_so : (c : Setting) (v y : Content) (t x w : TyRef) (step : Step) (read result : Result Value ReadError) → step ≡ InnerStep x w → v ≡ some y
    → Gives view read (coerced c y x w) → ((content : Option Content) → Gives view read content → Gives view result (lifted true content)) → Gives view result (coerced_by c v t step)
inner_read_so c v y t x w step read result is v_is reads lifts =
    let inner : Gives view read (inner_at c v x w) = subst (λ (z : Content). Gives view read (inner_at c z x w)) (sym v_is) reads in
    subst (λ (p : Step). Gives view result (coerced_by c v t p)) (sym is) (lifts (inner_at c v x w) inner)
