-- How many values are made.
use Rattle.std.proofs.Common.{◌≡◌, ℕ, ◌+◌, Bool, true, false, List, [], ◌∷◌, ◌++◌, Option, Some, None, refl, sym, ap, ◌∙◌, arith}
use Rattle.std.specs.Prelude.{if◌then◌else◌}
use Rattle.std.proofs.lemmas.List.{map_push}
use Rattle.ic_base.proofs.Steps.{some_is}
use Rattle.cd_types.specs.declared.primitive.Primitive.TheVariants.{Null, Reserved}
use Rattle.cd_types.specs.declared.entry.Entry.TheVariants.{Opt}
use Rattle.cd_types.specs.Shape.{Shape, primitive, compound}
use Rattle.cd_codec.specs.Content.{Content, Plain, nat, plain, blob, none, some, list, record_of, variant, contents_of, parts_of}
use Rattle.cd_codec.specs.Measure.{number, number_all, number_parts, number_each}
use Rattle.cd_coerce.specs.Missing.{missing}
use Rattle.cd_coerce.specs.Read.{has_shape, if_holds, as_int}
use Rattle.cd_coerce.specs.Step.{plain_part, answer_of_plain, seconds}

-- one value more
pub number_push : (vs : List Content) (v : Content) → number_each (vs ++ v ∷ []) ≡ number_each vs + number v
number_push [] v = omega arith
number_push (w ∷ vs) v = let more = number_push vs v in omega (arith, more)

-- one field more
pub number_field : (ps more : List (ℕ × Content)) (id : ℕ) (v : Content) → more ≡ ps ++ (id, v) ∷ [] → number_each (seconds more) ≡ number_each (seconds ps) + number v
number_field ps more id v e =
    ap (λ (qs : List (ℕ × Content)). number_each (seconds qs)) e ∙ ap number_each (map_push (λ (q : ℕ × Content). q.1) ps (id, v)) ∙ number_push (seconds ps) v

-- the items of a list
pub number_items : (vs : List Content) → number_all (contents_of vs) ≡ number_each vs
number_items [] = refl
number_items (v ∷ vs) = ap (λ n. number v + n) (number_items vs)

-- the fields of a record
pub number_fields : (ps : List (ℕ × Content)) → number_parts (parts_of ps) ≡ number_each (seconds ps)
number_fields [] = refl
number_fields (p ∷ ps) = ap (λ n. number p.1 + n) (number_fields ps)

-- what stands for a missing value is one
pub missing_one : (s : Shape) (r : Content) → missing s ≡ Some r → number r ≡ 1
missing_one (primitive Null) r e = sym (ap number (some_is _ r e))
missing_one (primitive Reserved) r e = sym (ap number (some_is _ r e))
missing_one (compound (Opt type)) r e = sym (ap number (some_is _ r e))
missing_one _ r e = absurd cc

-- and what a value without parts is read as
held_one : (b : Bool) (p : Plain) (r : Content) → if_holds b (plain p) ≡ Some r → number r ≡ 1
held_one true p r e = sym (ap number (some_is (plain p) r e))
held_one false p r e = absurd cc

int_one : (p : Plain) (s : Shape) (r : Content) → as_int p s ≡ Some r → number r ≡ 1
int_one (nat n) s r e = held_one _ _ r e
int_one _ s r e = absurd cc

own_one : (b : Bool) (p : Plain) (s : Shape) (r : Content) → (if b then Some (plain p) else as_int p s) ≡ Some r → number r ≡ 1
own_one true p s r e = sym (ap number (some_is (plain p) r e))
own_one false p s r e = int_one p s r e

answered : (o : Option Content) (r : Content) → answer_of_plain o ≡ Some (Some r) → o ≡ Some r
answered None r e = absurd cc
answered (Some v) r e = some_is {A = Option Content} (Some v) (Some r) e

none_some : (r : Content) → None ≡ Some r → ⊥
none_some r e = absurd cc

pub plain_one : (v : Content) (s : Shape) (r : Content) → plain_part v s ≡ Some (Some r) → number r ≡ 1
plain_one (plain p) s r e = own_one (has_shape p s) p s r (answered _ r e)
plain_one (blob bytes) s r e = absurd (none_some r (some_is {A = Option Content} None (Some r) e))
plain_one none s r e = absurd (none_some r (some_is {A = Option Content} None (Some r) e))
plain_one (some v) s r e = absurd (none_some r (some_is {A = Option Content} None (Some r) e))
plain_one (list vs) s r e = absurd (none_some r (some_is {A = Option Content} None (Some r) e))
plain_one (record_of ps) s r e = absurd (none_some r (some_is {A = Option Content} None (Some r) e))
plain_one (variant i v) s r e = absurd (none_some r (some_is {A = Option Content} None (Some r) e))
