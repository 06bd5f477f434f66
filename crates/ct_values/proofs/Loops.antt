-- Reading parts one after the other, as a loop does.
use Rattle.std.proofs.Common.{◌≡◌, ℕ, zero, suc, ◌-◌, ◌+◌, ◌≤◌, ◌<◌, Bool, true, false, List, [], ◌∷◌, drop, length, get_or, Option, Some, None, refl, sym, ◌∙◌, arith, add-one, drop-cons}
use Rattle.std.specs.Prelude.{if◌then◌else◌}
use Rattle.std.proofs.lemmas.List.{drop_all}
use Rattle.ic_base.specs.declared.read_error.ReadError.{ReadError}
use Rattle.ic_base.specs.declared.read_error.ReadError.TheVariants.{NoMemory, Refused}
use Rattle.ic_base.specs.Gives.{Fails}
use Rattle.cd_types.specs.declared.entry.TyRef.{TyRef}
use Rattle.cd_types.specs.declared.entry.Entry.{Entry}
use Rattle.cd_tokens.specs.Front.{is_mark, starts}
use Rattle.ct_values.specs.declared.reader.Admitted.{Admitted}
use Rattle.ct_values.specs.Steps.{Reading, Giving, Said}
use Rattle.ct_values.specs.Spelled.{separator_at, parts_at, starts_others, others_at, field_at, fields_said_at, if_missing, missing_from, annotated_at, comma_at, is_end, arguments_at}

-- where a part fails, so does the whole
pub fails_with : {A B : Type 0} (e : ReadError) (part : Option A) (whole : Option B) → Fails e part → (part ≡ None → whole ≡ None) → Fails e whole
fails_with NoMemory part whole fails so = tt
fails_with Refused part whole fails so = so fails

-- ---- parts in braces

pub at_end : (read : Giving Bool) (most count : ℕ) (c : Reading) (total : Option (ℕ × Reading)) → starts (is_mark 125) c.2 ≡ true → parts_at read most count c ≡ total → total ≡ Some (count, c)
unfolding parts_at
at_end read zero count c total ended so_far = sym so_far ∙ rw ended refl
at_end read (suc most) count c total ended so_far = sym so_far ∙ rw ended refl

pub too_many : (read : Giving Bool) (most count : ℕ) (c : Reading) (total : Option (ℕ × Reading)) → starts (is_mark 125) c.2 ≡ false → most ≤ count → parts_at read (most - count) count c ≡ total → total ≡ None
unfolding parts_at
too_many read most count c total on all so_far =
    let none : most - count ≡ 0 = omega arith in
    sym so_far ∙ rw (none, on) refl

pub no_part : (e : ReadError) (read : Giving Bool) (most count : ℕ) (c : Reading) (total : Option (ℕ × Reading)) → count < most → starts (is_mark 125) c.2 ≡ false → Fails e (read c) → parts_at read (most - count) count c ≡ total → Fails e total
unfolding parts_at
no_part e read most count c total below on none so_far =
    let more : most - count ≡ suc (most - (count + 1)) = omega arith in
    fails_with e (read c) total none (λ stuck. sym so_far ∙ rw (more, on, stuck) refl)

pub no_separator : (e : ReadError) (read : Giving Bool) (most count : ℕ) (c : Reading) (total : Option (ℕ × Reading)) (b : Bool) (d : Reading)
    → count < most → starts (is_mark 125) c.2 ≡ false → read c ≡ Some (b, d) → Fails e (separator_at d) → parts_at read (most - count) count c ≡ total → Fails e total
unfolding parts_at
no_separator e read most count c total b d below on one none so_far =
    let more : most - count ≡ suc (most - (count + 1)) = omega arith in
    fails_with e (separator_at d) total none (λ stuck. sym so_far ∙ rw (more, on, one, stuck) refl)

pub one_more : (read : Giving Bool) (most count : ℕ) (c : Reading) (total : Option (ℕ × Reading)) (b : Bool) (d f : Reading)
    → count < most → starts (is_mark 125) c.2 ≡ false → read c ≡ Some (b, d) → separator_at d ≡ Some f → parts_at read (most - count) count c ≡ total → parts_at read (most - (count + 1)) (count + 1) f ≡ total
unfolding parts_at
one_more read most count c total b d f below on one separated so_far =
    let more : most - count ≡ suc (most - (count + 1)) = omega arith in
    let next : count + 1 ≡ suc count = omega arith in
    let s : parts_at read (most - count) count c ≡ parts_at read (most - (count + 1)) (count + 1) f = rw (more, on, one, separated, next) refl in
    sym s ∙ so_far

-- ---- the fields of a record

abbrev Fields : Type 0
Fields = Option ((Bool × Said) × Reading)

pub fields_end : (admitted : Admitted) (read : TyRef → Giving Bool) (fields : List (ℕ × TyRef)) (most : ℕ) (said : Said) (c : Reading) (total : Fields)
    → starts (is_mark 125) c.2 ≡ true → fields_said_at admitted read fields most said c ≡ total → total ≡ Some ((false, said), c)
unfolding fields_said_at
fields_end admitted read fields zero said c total ended so_far = sym so_far ∙ rw ended refl
fields_end admitted read fields (suc most) said c total ended so_far = sym so_far ∙ rw ended refl

pub no_others : (e : ReadError) (admitted : Admitted) (read : TyRef → Giving Bool) (fields : List (ℕ × TyRef)) (most : ℕ) (said : Said) (c : Reading) (total : Fields)
    → starts (is_mark 125) c.2 ≡ false → starts_others admitted c.2 ≡ true → Fails e (others_at c) → fields_said_at admitted read fields most said c ≡ total → Fails e total
unfolding fields_said_at
no_others e admitted read fields zero said c total on dots none so_far = fails_with e (others_at c) total none (λ stuck. sym so_far ∙ rw (on, dots, stuck) refl)
no_others e admitted read fields (suc most) said c total on dots none so_far = fails_with e (others_at c) total none (λ stuck. sym so_far ∙ rw (on, dots, stuck) refl)

pub others_there : (admitted : Admitted) (read : TyRef → Giving Bool) (fields : List (ℕ × TyRef)) (most : ℕ) (said : Said) (c d : Reading) (total : Fields)
    → starts (is_mark 125) c.2 ≡ false → starts_others admitted c.2 ≡ true → others_at c ≡ Some d → fields_said_at admitted read fields most said c ≡ total → total ≡ Some ((true, said), d)
unfolding fields_said_at
others_there admitted read fields zero said c d total on dots are so_far = sym so_far ∙ rw (on, dots, are) refl
others_there admitted read fields (suc most) said c d total on dots are so_far = sym so_far ∙ rw (on, dots, are) refl

pub too_many_fields : (admitted : Admitted) (read : TyRef → Giving Bool) (fields : List (ℕ × TyRef)) (most count : ℕ) (said : Said) (c : Reading) (total : Fields)
    → starts (is_mark 125) c.2 ≡ false → starts_others admitted c.2 ≡ false → most ≤ count → fields_said_at admitted read fields (most - count) said c ≡ total → total ≡ None
unfolding fields_said_at
too_many_fields admitted read fields most count said c total on closed all so_far =
    let none : most - count ≡ 0 = omega arith in
    sym so_far ∙ rw (none, on, closed) refl

pub no_field : (e : ReadError) (admitted : Admitted) (read : TyRef → Giving Bool) (fields : List (ℕ × TyRef)) (most count : ℕ) (said : Said) (c : Reading) (total : Fields)
    → count < most → starts (is_mark 125) c.2 ≡ false → starts_others admitted c.2 ≡ false → Fails e (field_at read fields said c) → fields_said_at admitted read fields (most - count) said c ≡ total → Fails e total
unfolding fields_said_at
no_field e admitted read fields most count said c total below on closed none so_far =
    let more : most - count ≡ suc (most - (count + 1)) = omega arith in
    fails_with e (field_at read fields said c) total none (λ stuck. sym so_far ∙ rw (more, on, closed, stuck) refl)

pub no_field_separator : (e : ReadError) (admitted : Admitted) (read : TyRef → Giving Bool) (fields : List (ℕ × TyRef)) (most count : ℕ) (said after : Said) (c d : Reading) (total : Fields)
    → count < most → starts (is_mark 125) c.2 ≡ false → starts_others admitted c.2 ≡ false → field_at read fields said c ≡ Some (after, d) → Fails e (separator_at d) → fields_said_at admitted read fields (most - count) said c ≡ total → Fails e total
unfolding fields_said_at
no_field_separator e admitted read fields most count said after c d total below on closed one none so_far =
    let more : most - count ≡ suc (most - (count + 1)) = omega arith in
    fails_with e (separator_at d) total none (λ stuck. sym so_far ∙ rw (more, on, closed, one, stuck) refl)

pub one_more_field : (admitted : Admitted) (read : TyRef → Giving Bool) (fields : List (ℕ × TyRef)) (most count : ℕ) (said after : Said) (c d f : Reading) (total : Fields)
    → count < most → starts (is_mark 125) c.2 ≡ false → starts_others admitted c.2 ≡ false → field_at read fields said c ≡ Some (after, d) → separator_at d ≡ Some f → fields_said_at admitted read fields (most - count) said c ≡ total
    → fields_said_at admitted read fields (most - (count + 1)) after f ≡ total
unfolding fields_said_at
one_more_field admitted read fields most count said after c d f total below on closed one separated so_far =
    let more : most - count ≡ suc (most - (count + 1)) = omega arith in
    let s : fields_said_at admitted read fields (most - count) said c ≡ fields_said_at admitted read fields (most - (count + 1)) after f = rw (more, on, closed, one, separated) refl in
    sym s ∙ so_far

-- ---- fields that are missing

-- a field of the list, and what is done with it
field_there : (fields : List (ℕ × TyRef)) (i : ℕ) (d : ℕ × TyRef) → i < length fields → drop i fields ≡ get_or fields i d ∷ drop (i + 1) fields
field_there fields i d below = rw (add-one, drop-cons fields i d) refl

pub not_filled : (e : ReadError) (depth : ℕ) (table : List Entry) (fields : List (ℕ × TyRef)) (i : ℕ) (d : ℕ × TyRef) (said : Said) (c : Reading) (total : Option (Said × Reading))
    → i < length fields → Fails e (if_missing depth table i (get_or fields i d).1 said c) → missing_from depth table i (drop i fields) said c ≡ total → Fails e total
unfolding missing_from
not_filled e depth table fields i d said c total below none so_far =
    fails_with e (if_missing depth table i (get_or fields i d).1 said c) total none (λ stuck. sym so_far ∙ rw (field_there fields i d below, stuck) refl)

pub one_filled : (depth : ℕ) (table : List Entry) (fields : List (ℕ × TyRef)) (i : ℕ) (d : ℕ × TyRef) (said after : Said) (c f : Reading) (total : Option (Said × Reading))
    → i < length fields → if_missing depth table i (get_or fields i d).1 said c ≡ Some (after, f) → missing_from depth table i (drop i fields) said c ≡ total → missing_from depth table (i + 1) (drop (i + 1) fields) after f ≡ total
unfolding missing_from
one_filled depth table fields i d said after c f total below filled so_far =
    let s : missing_from depth table i (drop i fields) said c ≡ missing_from depth table (i + 1) (drop (i + 1) fields) after f = rw (field_there fields i d below, filled, add-one) refl in
    sym s ∙ so_far

pub all_there : (depth : ℕ) (table : List Entry) (fields : List (ℕ × TyRef)) (i : ℕ) (said : Said) (c : Reading) (total : Option (Said × Reading)) → length fields ≤ i → missing_from depth table i (drop i fields) said c ≡ total → total ≡ Some (said, c)
unfolding missing_from
all_there depth table fields i said c total past so_far =
    let none : drop i fields ≡ [] = drop_all i fields past in
    sym so_far ∙ rw none refl

-- ---- arguments

argument_there : (types : List TyRef) (i : ℕ) (d : TyRef) → i < length types → drop i types ≡ get_or types i d ∷ drop (i + 1) types
argument_there types i d below = rw (add-one, drop-cons types i d) refl

pub no_argument : (e : ReadError) (read : TyRef → Giving Bool) (types : List TyRef) (i : ℕ) (d : TyRef) (c : Reading) (total : Option Reading)
    → i < length types → Fails e (annotated_at (get_or types i d) (read (get_or types i d)) c) → arguments_at read (drop i types) c ≡ total → Fails e total
no_argument e read types i d c total below none so_far =
    fails_with e (annotated_at (get_or types i d) (read (get_or types i d)) c) total none (λ stuck. sym so_far ∙ rw (argument_there types i d below, stuck) refl)

pub no_comma : (e : ReadError) (read : TyRef → Giving Bool) (types : List TyRef) (i : ℕ) (d : TyRef) (c : Reading) (b : Bool) (f : Reading) (total : Option Reading)
    → i < length types → annotated_at (get_or types i d) (read (get_or types i d)) c ≡ Some (b, f) → Fails e (comma_at f) → arguments_at read (drop i types) c ≡ total → Fails e total
no_comma e read types i d c b f total below one none so_far = fails_with e (comma_at f) total none (λ stuck. sym so_far ∙ rw (argument_there types i d below, one, stuck) refl)

pub one_argument : (read : TyRef → Giving Bool) (types : List TyRef) (i : ℕ) (d : TyRef) (c : Reading) (b : Bool) (f g : Reading) (total : Option Reading)
    → i < length types → annotated_at (get_or types i d) (read (get_or types i d)) c ≡ Some (b, f) → comma_at f ≡ Some g → arguments_at read (drop i types) c ≡ total → arguments_at read (drop (i + 1) types) g ≡ total
one_argument read types i d c b f g total below one comma so_far =
    let s : arguments_at read (drop i types) c ≡ arguments_at read (drop (i + 1) types) g = rw (argument_there types i d below, one, comma) refl in
    sym s ∙ so_far

pub no_more : (read : TyRef → Giving Bool) (types : List TyRef) (i : ℕ) (c : Reading) (total : Option Reading) (b : Bool) → length types ≤ i → is_end c.2 ≡ b → arguments_at read (drop i types) c ≡ total → total ≡ (if b then Some c else None)
no_more read types i c total b past ended so_far =
    let none : drop i types ≡ [] = drop_all i types past in
    sym so_far ∙ rw (none, ended) refl
