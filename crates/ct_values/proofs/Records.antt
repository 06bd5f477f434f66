-- A record that tokens say is spelled by them.
use Rattle.std.proofs.Common.{◌≡◌, ℕ, zero, suc, ◌+◌, ◌-◌, ◌<◌, ◌≤◌, Bool, true, false, List, [], ◌∷◌, ◌++◌, length, drop, map, Option, Some, None, refl, sym, ap, subst, ◌∙◌, append_assoc, inl, inr, arith}
use Rattle.std.specs.Prelude.{◌&&◌, ◌||◌, ◌==◌, ◌^◌, ◌⊎◌, not, codes, set, slice_get, option_map, nat_le, nat_lt}
use Rattle.std.proofs.lemmas.Bool.{leb-true}
use Rattle.std.specs.Bool.{nat_eq}
use Rattle.std.specs.Option.{option_or}
use Rattle.std.proofs.lemmas.List.{append-nil}
use Rattle.std.proofs.lemmas.List.Folds.{list_any-append}
use Rattle.ic_base.specs.Reader.{◌>>=◌}
use Rattle.ic_base.proofs.Steps.{bind_some, some_is}
use Rattle.cd_types.specs.declared.primitive.Primitive.TheVariants as primitives
use Rattle.cd_types.specs.declared.primitive.Primitive.TheVariants.{Null}
use Rattle.cd_types.specs.declared.entry.TyRef.{TyRef}
use Rattle.cd_types.specs.declared.entry.TyRef.TheVariants.{Prim}
use Rattle.cd_types.specs.declared.entry.Entry.{Entry}
use Rattle.cd_types.specs.declared.entry.Entry.TheVariants.{Opt, Seq, Rec, Var, Func, Service}
use Rattle.cd_types.specs.IsOrdered.{ids_rise_from}
use Rattle.cd_types.specs.Shape.{Shape, primitive, compound, dangling, shape}
use Rattle.cd_codec.specs.Content.{Content, plain, null, reserved, none, record_of, parts_of}
use Rattle.cd_codec.specs.Missing.{missing}
use Rattle.cd_tokens.specs.Token.{Token}
use Rattle.cd_tokens.specs.ReadLabel.{label_of}
use Rattle.cd_tokens.specs.ReadParts.{then_make, after_part, parts_at as their_parts}
use Rattle.cd_tokens.proofs.Fronts.{true_or_false}
use Rattle.cd_plain.specs.ReadPlain.{is_word, is_mark, starts, Budgeted}
use Rattle.cd_text.specs.Said.{type_of, place_of, value_of, is_absent, left_out, filled}
use Rattle.cd_text.specs.ReadSaid.{annotated_at as their_annotated, typed_at, field_at as their_field, after_field, lack, absent, fits, is_field, made, in_braces, record_at as their_record}
use Rattle.cd_text.proofs.Values.{both}
use Rattle.cd_text.proofs.Finds.{id_there}
use Rattle.ct_patterns.specs.Meets.{is_leaf, fields_at}
use Rattle.ct_values.specs.declared.reader.Admitted.{Admitted}
use Rattle.ct_values.specs.Steps.{Step, exactly, some_fields, Reading, Giving, Said}
use Rattle.ct_values.specs.Spelled.{separator_at, annotated_at, is_said, starts_others, field_at, fields_said_at, missing_from, record_at}
use Rattle.ct_values.proofs.Starts.{NoDots, and_false, no_dot}
use Rattle.ct_values.proofs.Meant.{AreMet, nothing_met, one_met, both_met, leaf_met}
use Rattle.ct_values.proofs.Ties.{Tied, Read, Ties, spends, put_there, braces_are, annotated_tied}

abbrev place_at : Option ℕ → ℕ
place_at None = 0
place_at (Some k) = k

-- the place of the field with an id
abbrev where_is : List (ℕ × TyRef) → ℕ → ℕ
where_is fields id = place_at (place_of fields id)

-- the places of the fields that are said
abbrev places_of : List (ℕ × TyRef) → List (ℕ × Content) → List ℕ
places_of fields said = map (λ x. where_is fields x.0) said

-- ---- one field

-- a value at the type of the field with an id
record Typed (fields : List (ℕ × TyRef)) (ours : TyRef → Giving Bool) (id left : ℕ) (tokens : List Token) (x : ℕ × Content) (less : ℕ) (rest : List Token) : Type 0 where
  type : TyRef
  is : id ≡ x.0
  has : type_of fields x.0 ≡ Some type
  tied : Tied (annotated_at type (ours type)) left tokens (x.1 ∷ []) less rest

typed_tied : (fields : List (ℕ × TyRef)) (theirs : TyRef → Budgeted Content) (ours : TyRef → Giving Bool) → ((type : TyRef) → Ties (λ v. v) (theirs type) (ours type))
    → (id left : ℕ) (tokens : List Token) (x : ℕ × Content) (less : ℕ) (rest : List Token) → typed_at theirs fields id left tokens ≡ Some (x, less, rest) → Typed fields ours id left tokens x less rest
typed_tied fields theirs ours law id left tokens x less rest e =
    let c = bind_some (type_of fields id) (λ (type : TyRef). then_make (λ v. (id, v)) (their_annotated type (theirs type) left tokens)) (x, less, rest) e in
    let d = bind_some (their_annotated c.0 (theirs c.0) left tokens) (λ (z : Content × ℕ × List Token). Some ((id, z.0), z.1, z.2)) (x, less, rest) c.2 in
    let z : Content × ℕ × List Token = d.0 in
    let same : ((id, z.0), z.1, z.2) ≡ (x, less, rest) = some_is {A = (ℕ × Content) × ℕ × List Token} ((id, z.0), z.1, z.2) (x, less, rest) d.2 in
    subst (λ (w : (ℕ × Content) × ℕ × List Token). Typed fields ours id left tokens w.0 w.1 w.2) same
    record { type = c.0; is = refl; has = c.1; tied = annotated_tied (λ v. v) c.0 (theirs c.0) (ours c.0) (law c.0) left tokens z.0 z.1 z.2 d.1 }

record OneField (fields : List (ℕ × TyRef)) (ours : TyRef → Giving Bool) (next : ℕ) (places : List ℕ) (left : ℕ) (tokens : List Token) (x : ℕ × Content) (less : ℕ) (rest : List Token) (place : ℕ) : Type 0 where
  steps : List Step
  reads : (before : List Step) → field_at ours fields (places, next) (before, left, tokens) ≡ Some ((places ++ place ∷ [], suc x.0), (before ++ steps, less, rest))
  met : AreMet steps (x.1 ∷ [])

labelled : (fields : List (ℕ × TyRef)) (ours : TyRef → Giving Bool) (next : ℕ) (places : List ℕ) (left : ℕ) (t : Token) (after : List Token) (x : ℕ × Content) (less : ℕ) (rest : List Token) (place id : ℕ) → starts (is_mark 61) after ≡ true → label_of t ≡ Some id
    → Typed fields ours id left (drop 1 after) x less rest → place_of fields x.0 ≡ Some place → is_said place places ≡ false → OneField fields ours next places left (t ∷ after) x less rest place
labelled fields ours next places left t after x less rest place id equals label ty at fresh =
    let known : label_of t ≡ Some x.0 = label ∙ ap (λ (n : ℕ). Some n) ty.is in
    record { steps = ty.tied.steps; reads = λ before. rw (equals, known, at, ty.has, fresh, ty.tied.reads before) refl; met = ty.tied.met }

unlabelled : (fields : List (ℕ × TyRef)) (ours : TyRef → Giving Bool) (next : ℕ) (places : List ℕ) (left : ℕ) (t : Token) (after : List Token) (x : ℕ × Content) (less : ℕ) (rest : List Token) (place : ℕ) → starts (is_mark 61) after ≡ false
    → Typed fields ours next left (t ∷ after) x less rest → place_of fields x.0 ≡ Some place → is_said place places ≡ false → OneField fields ours next places left (t ∷ after) x less rest place
unlabelled fields ours next places left t after x less rest place other ty at fresh =
    let n = ty.is in
    record { steps = ty.tied.steps; reads = λ before. rw (other, n, at, ty.has, fresh, ty.tied.reads before) refl; met = ty.tied.met }

field_tied : (fields : List (ℕ × TyRef)) (theirs : TyRef → Budgeted Content) (ours : TyRef → Giving Bool) → ((type : TyRef) → Ties (λ v. v) (theirs type) (ours type))
    → (next : ℕ) (places : List ℕ) (left : ℕ) (tokens : List Token) (x : ℕ × Content) (less : ℕ) (rest : List Token) (place : ℕ) → their_field theirs fields next left tokens ≡ Some (x, less, rest)
    → place_of fields x.0 ≡ Some place → is_said place places ≡ false → OneField fields ours next places left tokens x less rest place
field_tied fields theirs ours law next places left [] x less rest place e at fresh = absurd cc
field_tied fields theirs ours law next places left (t ∷ after) x less rest place e at fresh = elim (true_or_false (starts (is_mark 61) after)) [
  | inl equals ↦
      let b = bind_some (label_of t) (λ (id : ℕ). typed_at theirs fields id left (drop 1 after)) (x, less, rest) (rw equals at e) in
      labelled fields ours next places left t after x less rest place b.0 equals b.1 (typed_tied fields theirs ours law b.0 left (drop 1 after) x less rest b.2) at fresh
  | inr other ↦ unlabelled fields ours next places left t after x less rest place other (typed_tied fields theirs ours law next left (t ∷ after) x less rest (rw other at e)) at fresh
]

-- ---- the fields in braces

-- each field that is said is one of the type, and was not said before
abbrev Fresh : List (ℕ × TyRef) → List ℕ → List (ℕ × Content) → Type 0
Fresh fields places [] = Unit {0}
Fresh fields places (x ∷ said) = (place_of fields x.0 ≡ Some (where_is fields x.0)) × (is_said (where_is fields x.0) places ≡ false) × Fresh fields (places ++ where_is fields x.0 ∷ []) said

record FieldsRead (admitted : Admitted) (fields : List (ℕ × TyRef)) (ours : TyRef → Giving Bool) (most next : ℕ) (places : List ℕ) (left : ℕ) (tokens : List Token) (said : List (ℕ × Content)) (less : ℕ) (rest : List Token) : Type 0 where
  steps : List Step
  stop : List Token
  last : ℕ
  reads : (before : List Step) → fields_said_at admitted ours fields most (places, next) (before, left, tokens) ≡ Some ((false, (places ++ places_of fields said, last)), (before ++ steps, less, stop))
  ended : starts (is_mark 125) stop ≡ true
  after : drop 1 stop ≡ rest
  met : AreMet steps (map (λ x. x.1) said)

fields_stop : (admitted : Admitted) (fields : List (ℕ × TyRef)) (ours : TyRef → Giving Bool) (most : ℕ) (said : Said) (c : Reading) → starts (is_mark 125) c.2 ≡ true → fields_said_at admitted ours fields most said c ≡ Some ((false, said), c)
unfolding fields_said_at
fields_stop admitted fields ours zero said c ended = rw ended refl
fields_stop admitted fields ours (suc most) said c ended = rw ended refl

quiet_there : (admitted : Admitted) (tokens : List Token) → starts (is_mark 46) tokens ≡ false → starts_others admitted tokens ≡ false
quiet_there admitted tokens no_dot_there = rw no_dot_there (and_false admitted.patterns)

more_fields : (admitted : Admitted) (fields : List (ℕ × TyRef)) (ours : TyRef → Giving Bool) (most : ℕ) (said after : Said) (c d f : Reading) → starts_others admitted c.2 ≡ false → starts (is_mark 125) c.2 ≡ false
    → field_at ours fields said c ≡ Some (after, d) → separator_at d ≡ Some f → fields_said_at admitted ours fields (suc most) said c ≡ fields_said_at admitted ours fields most after f
unfolding fields_said_at
more_fields admitted fields ours most said after c d f closed on one separated = rw (on, closed, one, separated) refl

no_fields : (admitted : Admitted) (fields : List (ℕ × TyRef)) (ours : TyRef → Giving Bool) (most next : ℕ) (places : List ℕ) (left : ℕ) (tokens : List Token) → starts (is_mark 125) tokens ≡ true
    → FieldsRead admitted fields ours most next places left tokens [] left (drop 1 tokens)
no_fields admitted fields ours most next places left tokens ended = record {
  steps = [];
  stop = tokens;
  last = next;
  reads = λ before. rw (append-nil places, append-nil before) (fields_stop admitted fields ours most (places, next) (before, left, tokens) ended);
  ended = ended;
  after = refl;
  met = nothing_met;
}

last_field : (admitted : Admitted) (fields : List (ℕ × TyRef)) (ours : TyRef → Giving Bool) (most next : ℕ) (places : List ℕ) (left : ℕ) (tokens : List Token) (x : ℕ × Content) (less : ℕ) (rest : List Token) → starts_others admitted tokens ≡ false
    → starts (is_mark 125) tokens ≡ false → OneField fields ours next places left tokens x less rest (where_is fields x.0) → starts (is_mark 125) rest ≡ true → FieldsRead admitted fields ours (suc most) next places left tokens (x ∷ []) less (drop 1 rest)
last_field admitted fields ours most next places left tokens x less rest closed on one ended = record {
  steps = one.steps;
  stop = rest;
  last = suc x.0;
  reads = λ before.
      let said : Said = (places ++ where_is fields x.0 ∷ [], suc x.0) in
      let d : Reading = (before ++ one.steps, less, rest) in
      let stays : separator_at d ≡ Some d = rw ended refl in
      more_fields admitted fields ours most (places, next) said (before, left, tokens) d d closed on (one.reads before) stays ∙ fields_stop admitted fields ours most said d ended;
  ended = ended;
  after = refl;
  met = one.met;
}

one_more : (admitted : Admitted) (fields : List (ℕ × TyRef)) (ours : TyRef → Giving Bool) (most next : ℕ) (places : List ℕ) (left : ℕ) (tokens : List Token) (x : ℕ × Content) (said : List (ℕ × Content)) (middle : ℕ) (after : List Token) (less : ℕ) (rest : List Token)
    → starts_others admitted tokens ≡ false → starts (is_mark 125) tokens ≡ false → OneField fields ours next places left tokens x middle after (where_is fields x.0) → starts (is_mark 125) after ≡ false → starts (is_mark 59) after ≡ true
    → FieldsRead admitted fields ours most (suc x.0) (places ++ where_is fields x.0 ∷ []) middle (drop 1 after) said less rest → FieldsRead admitted fields ours (suc most) next places left tokens (x ∷ said) less rest
one_more admitted fields ours most next places left tokens x said middle after less rest closed on one other semicolon more = record {
  steps = one.steps ++ more.steps;
  stop = more.stop;
  last = more.last;
  reads = λ before.
      let first : Said = (places ++ where_is fields x.0 ∷ [], suc x.0) in
      let d : Reading = (before ++ one.steps, middle, after) in
      let f : Reading = (before ++ one.steps, middle, drop 1 after) in
      let passes : separator_at d ≡ Some f = rw (other, semicolon) refl in
      rw (sym (append_assoc before one.steps more.steps), sym (append_assoc places (where_is fields x.0 ∷ []) (places_of fields said)))
      (more_fields admitted fields ours most (places, next) first (before, left, tokens) d f closed on (one.reads before) passes ∙ more.reads (before ++ one.steps));
  ended = more.ended;
  after = more.after;
  met = both_met one.steps more.steps (x.1 ∷ []) (map (λ y. y.1) said) one.met more.met;
}

no_some : {A : Type 0} (x : A) → None ≡ Some x → ⊥
no_some x e = cc

not_parted : (y : (ℕ × Content) × ℕ × List Token) (more : ℕ × Content → ℕ → List Token → Option (List (ℕ × Content) × ℕ × List Token)) (x : List (ℕ × Content) × ℕ × List Token) → starts (is_mark 125) y.2 ≡ false → starts (is_mark 59) y.2 ≡ false
    → after_part 59 125 more y ≡ Some x → None ≡ Some x
not_parted y more x other stuck e = rw (other, stuck) at e

fields_tied : (admitted : Admitted) (fields : List (ℕ × TyRef)) (theirs : TyRef → Budgeted Content) (ours : TyRef → Giving Bool) → NoDots theirs → ((type : TyRef) → Ties (λ v. v) (theirs type) (ours type))
    → (most next : ℕ) (places : List ℕ) (left : ℕ) (tokens : List Token) (said : List (ℕ × Content)) (less : ℕ) (rest : List Token) → their_parts 59 125 (their_field theirs fields) after_field most next left tokens ≡ Some (said, less, rest)
    → Fresh fields places said → FieldsRead admitted fields ours most next places left tokens said less rest
unfolding their_parts
fields_tied admitted fields theirs ours dots law zero next places left tokens said less rest e fresh = absurd cc
fields_tied admitted fields theirs ours dots law (suc most) next places left tokens said less rest e fresh = elim (true_or_false (starts (is_mark 125) tokens)) [
  | inl ended ↦
      let same : ([], left, drop 1 tokens) ≡ (said, less, rest) = some_is {A = List (ℕ × Content) × ℕ × List Token} ([], left, drop 1 tokens) (said, less, rest) (rw ended at e) in
      subst (λ (z : List (ℕ × Content) × ℕ × List Token). FieldsRead admitted fields ours (suc most) next places left tokens z.0 z.1 z.2) same (no_fields admitted fields ours (suc most) next places left tokens ended)
  | inr on ↦
      let b = bind_some (their_field theirs fields next left tokens) (after_part 59 125 (λ (x : ℕ × Content). their_parts 59 125 (their_field theirs fields) after_field most (suc x.0))) (said, less, rest) (rw on at e) in
      let y : (ℕ × Content) × ℕ × List Token = b.0 in
      let closed = quiet_there admitted tokens (no_dot theirs dots fields next left tokens y b.1) in
      elim (true_or_false (starts (is_mark 125) y.2)) [
        | inl ended ↦
            let same : (y.0 ∷ [], y.1, drop 1 y.2) ≡ (said, less, rest) = some_is {A = List (ℕ × Content) × ℕ × List Token} (y.0 ∷ [], y.1, drop 1 y.2) (said, less, rest) (rw ended at b.2) in
            let new = subst (λ (xs : List (ℕ × Content)). Fresh fields places xs) (sym (ap (λ (z : List (ℕ × Content) × ℕ × List Token). z.0) same)) fresh in
            let one = field_tied fields theirs ours law next places left tokens y.0 y.1 y.2 (where_is fields y.0.0) b.1 new.0 new.1 in
            subst (λ (z : List (ℕ × Content) × ℕ × List Token). FieldsRead admitted fields ours (suc most) next places left tokens z.0 z.1 z.2) same (last_field admitted fields ours most next places left tokens y.0 y.1 y.2 closed on one ended)
        | inr other ↦ elim (true_or_false (starts (is_mark 59) y.2)) [
          | inl semicolon ↦
              let c = bind_some (their_parts 59 125 (their_field theirs fields) after_field most (suc y.0.0) y.1 (drop 1 y.2)) (λ (z : List (ℕ × Content) × ℕ × List Token). Some (y.0 ∷ z.0, z.1, z.2)) (said, less, rest) (rw (other, semicolon) at b.2) in
              let z : List (ℕ × Content) × ℕ × List Token = c.0 in
              let same : (y.0 ∷ z.0, z.1, z.2) ≡ (said, less, rest) = some_is {A = List (ℕ × Content) × ℕ × List Token} (y.0 ∷ z.0, z.1, z.2) (said, less, rest) c.2 in
              let new = subst (λ (xs : List (ℕ × Content)). Fresh fields places xs) (sym (ap (λ (w : List (ℕ × Content) × ℕ × List Token). w.0) same)) fresh in
              let one = field_tied fields theirs ours law next places left tokens y.0 y.1 y.2 (where_is fields y.0.0) b.1 new.0 new.1 in
              let more = fields_tied admitted fields theirs ours dots law most (suc y.0.0) (places ++ where_is fields y.0.0 ∷ []) y.1 (drop 1 y.2) z.0 z.1 z.2 c.1 new.2 in
              subst (λ (w : List (ℕ × Content) × ℕ × List Token). FieldsRead admitted fields ours (suc most) next places left tokens w.0 w.1 w.2) same (one_more admitted fields ours most next places left tokens y.0 z.0 y.1 y.2 z.1 z.2 closed on one other semicolon more)
          | inr stuck ↦ absurd (no_some (said, less, rest) (not_parted y (λ (x : ℕ × Content). their_parts 59 125 (their_field theirs fields) after_field most (suc x.0)) (said, less, rest) other stuck b.2))
        ]
      ]
]

-- ---- none is said twice

is_placed : (p : Option ℕ) → is_field p ≡ true → p ≡ Some (place_at p)
is_placed None e = absurd cc
is_placed (Some k) e = refl

-- fields at one place have one id
one_id : (fields : List (ℕ × TyRef)) (a b k : ℕ) → place_of fields a ≡ Some k → place_of fields b ≡ Some k → a ≡ b
one_id fields a b k e f = sym (id_there fields a k (0, Prim Null) e) ∙ id_there fields b k (0, Prim Null) f

or_false : (b : Bool) → (b || false) ≡ b
or_false true = refl
or_false false = refl

said_after : (place k : ℕ) (places : List ℕ) → is_said place (places ++ k ∷ []) ≡ (is_said place places || nat_eq k place)
said_after place k places = list_any-append (λ (other : ℕ). nat_eq other place) places (k ∷ []) ∙ rw (or_false (nat_eq k place)) refl

not_false : (b : Bool) → not b ≡ true → b ≡ false
not_false true e = absurd cc
not_false false e = refl

-- none of the fields that are said is among the places
abbrev Away : List (ℕ × TyRef) → List ℕ → List (ℕ × Content) → Type 0
Away fields places [] = Unit {0}
Away fields places (x ∷ said) = (is_said (where_is fields x.0) places ≡ false) × Away fields places said

-- `fits`, part by part
record Fits (fields : List (ℕ × TyRef)) (x : ℕ × Content) (said : List (ℕ × Content)) : Type 0 where
  others : fits fields said ≡ true
  placed : place_of fields x.0 ≡ Some (where_is fields x.0)
  once : is_absent x.0 said ≡ true

fits_parts : (fields : List (ℕ × TyRef)) (x : ℕ × Content) (said : List (ℕ × Content)) → fits fields (x ∷ said) ≡ true → Fits fields x said
fits_parts fields x said e =
    let h = both (fits fields said && is_field (place_of fields x.0)) (is_absent x.0 said) e in
    let g = both (fits fields said) (is_field (place_of fields x.0)) h.0 in
    record { others = g.0; placed = is_placed (place_of fields x.0) g.1; once = h.1 }

away_after : (fields : List (ℕ × TyRef)) (places : List ℕ) (x : ℕ × Content) (said : List (ℕ × Content)) → place_of fields x.0 ≡ Some (where_is fields x.0) → fits fields said ≡ true → is_absent x.0 said ≡ true → Away fields places said
    → Away fields (places ++ where_is fields x.0 ∷ []) said
away_after fields places x [] at fit once away = tt
away_after fields places x (y ∷ said) at fit once away =
    let p = fits_parts fields y said fit in
    let h = both (not (x.0 == y.0)) (is_absent x.0 said) once in
    let other : (x.0 == y.0) ≡ false = not_false (x.0 == y.0) h.0 in
    let apart : nat_eq (where_is fields x.0) (where_is fields y.0) ≡ false = elim (true_or_false (nat_eq (where_is fields x.0) (where_is fields y.0))) [
      | inl same ↦
          let k : where_is fields x.0 ≡ where_is fields y.0 = grind (arith, same) in
          let ids : x.0 ≡ y.0 = one_id fields x.0 y.0 (where_is fields y.0) (at ∙ ap (λ (n : ℕ). Some n) k) p.placed in
          let again : (y.0 == y.0) ≡ false = rw ids at other in
          absurd (grind (arith, again))
      | inr different ↦ different
    ] in
    (said_after (where_is fields y.0) (where_is fields x.0) places ∙ rw (away.0, apart) refl, away_after fields places x said at p.others h.1 away.1)

fresh_said : (fields : List (ℕ × TyRef)) (places : List ℕ) (said : List (ℕ × Content)) → fits fields said ≡ true → Away fields places said → Fresh fields places said
fresh_said fields places [] fit away = tt
fresh_said fields places (x ∷ said) fit away =
    let p = fits_parts fields x said fit in
    (p.placed, away.0, fresh_said fields (places ++ where_is fields x.0 ∷ []) said p.others (away_after fields places x said p.placed p.others p.once away.1))

away_first : (fields : List (ℕ × TyRef)) (said : List (ℕ × Content)) → Away fields [] said
away_first fields [] = tt
away_first fields (x ∷ said) = (refl, away_first fields said)

-- ---- what is said is there

-- each has its value among those that are said
abbrev Known : List (ℕ × Content) → List (ℕ × Content) → Type 0
Known all [] = Unit {0}
Known all (x ∷ said) = (value_of all x.0 ≡ Some x.1) × Known all said

known_more : (x : ℕ × Content) (all said : List (ℕ × Content)) → is_absent x.0 said ≡ true → Known all said → Known (x ∷ all) said
known_more x all [] once known = tt
known_more x all (y ∷ said) once known =
    let h = both (not (x.0 == y.0)) (is_absent x.0 said) once in
    let other : (x.0 == y.0) ≡ false = not_false (x.0 == y.0) h.0 in
    let turned : (y.0 == x.0) ≡ false = grind (arith, other) in
    (rw turned known.0, known_more x all said h.1 known.1)

known_all : (fields : List (ℕ × TyRef)) (said : List (ℕ × Content)) → fits fields said ≡ true → Known said said
known_all fields [] fit = tt
known_all fields (x ∷ said) fit =
    let p = fits_parts fields x said fit in
    let same : (x.0 == x.0) ≡ true = grind arith in
    (rw same refl, known_more x said said p.once (known_all fields said p.others))

head_value : (all : List (ℕ × Content)) (other : Option Content) (f id : ℕ) (u v : Content) → f ≡ id → value_of all id ≡ Some v → option_or (value_of all f) other ≡ Some u → u ≡ v
head_value all other f id u v ids has e =
    let h : value_of all f ≡ Some v = ap (value_of all) ids ∙ has in
    let g : option_or (value_of all f) other ≡ Some v = rw h refl in
    some_is {A = Content} u v (sym e ∙ g)

at_head : (f id : ℕ) (u v : Content) (qs : List (ℕ × Content)) (k : ℕ) → 0 ≡ k → f ≡ id → u ≡ v → slice_get ((f, u) ∷ qs) k ≡ Some (id, v)
at_head f id u v qs k first ids value = rw (sym first, ids, value) refl

further : (q : ℕ × Content) (qs : List (ℕ × Content)) (j k : ℕ) (x : ℕ × Content) → suc j ≡ k → slice_get qs j ≡ Some x → slice_get (q ∷ qs) k ≡ Some x
further q qs j k x next e = rw (sym next) e

filled_there : (depth : ℕ) (table : List Entry) (all : List (ℕ × Content)) (fields : List (ℕ × TyRef)) (ps : List (ℕ × Content)) (id k : ℕ) (v : Content) → filled depth table all fields ≡ Some ps → place_of fields id ≡ Some k → value_of all id ≡ Some v
    → slice_get ps k ≡ Some (id, v)
filled_there depth table all [] ps id k v e at has = absurd cc
filled_there depth table all (field ∷ fields) ps id k v e at has =
    let a = bind_some (option_or (value_of all field.0) (left_out depth (shape table field.1))) (λ (u : Content). filled depth table all fields >>= λ us. Some ((field.0, u) ∷ us)) ps e in
    let b = bind_some (filled depth table all fields) (λ (us : List (ℕ × Content)). Some ((field.0, a.0) ∷ us)) ps a.2 in
    let same : (field.0, a.0) ∷ b.0 ≡ ps = some_is {A = List (ℕ × Content)} ((field.0, a.0) ∷ b.0) ps b.2 in
    subst (λ (qs : List (ℕ × Content)). slice_get qs k ≡ Some (id, v)) same
    (elim (true_or_false (field.0 == id)) [
      | inl there ↦
          let first : 0 ≡ k = some_is {A = ℕ} 0 k (rw there at at) in
          let ids : field.0 ≡ id = grind (arith, there) in
          at_head field.0 id a.0 v b.0 k first ids (head_value all (left_out depth (shape table field.1)) field.0 id a.0 v ids has a.1)
      | inr other ↦
          let g : (place_of fields id >>= λ j. Some (suc j)) ≡ Some k = rw other at at in
          let j = bind_some (place_of fields id) (λ (j : ℕ). Some (suc j)) k g in
          let next : suc j.0 ≡ k = some_is {A = ℕ} (suc j.0) k j.2 in
          further (field.0, a.0) b.0 j.0 k (id, v) next (filled_there depth table all fields b.0 id j.0 v b.1 j.1 has)
    ])

found_said : (depth : ℕ) (table : List Entry) (fields : List (ℕ × TyRef)) (all said ps : List (ℕ × Content)) → filled depth table all fields ≡ Some ps → fits fields said ≡ true → Known all said → fields_at (places_of fields said) ps ≡ Some (map (λ x. x.1) said)
found_said depth table fields all [] ps e fit known = refl
found_said depth table fields all (x ∷ said) ps e fit known =
    let p = fits_parts fields x said fit in
    let there = filled_there depth table all fields ps x.0 (where_is fields x.0) x.1 e p.placed known.0 in
    rw (there, found_said depth table fields all said ps e p.others known.1) refl

found_more : (k : ℕ) (places : List ℕ) (ps : List (ℕ × Content)) (field : ℕ × Content) (vs : List Content) → slice_get ps k ≡ Some field → fields_at places ps ≡ Some vs → fields_at (k ∷ places) ps ≡ Some (field.1 ∷ vs)
found_more k places ps field vs at e = rw (at, e) refl

found_both : (some more : List ℕ) (ps : List (ℕ × Content)) (us vs : List Content) → fields_at some ps ≡ Some us → fields_at more ps ≡ Some vs → fields_at (some ++ more) ps ≡ Some (us ++ vs)
found_both [] more ps us vs e f = let same : [] ≡ us = some_is {A = List Content} [] us e in rw (sym same) f
found_both (k ∷ some) more ps us vs e f =
    let a = bind_some (slice_get ps k) (λ (field : ℕ × Content). option_map (λ parts. field.1 ∷ parts) (fields_at some ps)) us e in
    let b = mapped (λ (parts : List Content). a.0.1 ∷ parts) (fields_at some ps) us a.2 in
    subst (λ (ws : List Content). fields_at ((k ∷ some) ++ more) ps ≡ Some (ws ++ vs)) b.2 (found_more k (some ++ more) ps a.0 (b.0 ++ vs) a.1 (found_both some more ps b.0 vs b.1 f))
  where
    mapped : {A B : Type 0} (f : A → B) (found : Option A) (y : B) → option_map f found ≡ Some y → (x : A) × (found ≡ Some x) × (f x ≡ y)
    mapped f None y e = absurd cc
    mapped f (Some x) y e = (x, refl, some_is _ _ e)

-- ---- fields that are not said

abbrev is_value : Option Content → Bool
is_value None = false
is_value (Some v) = true

some_or_none : (o : Option Content) → ((v : Content) × (o ≡ Some v)) ⊎ (o ≡ None)
some_or_none None = inr refl
some_or_none (Some v) = inl (v, refl)

-- whether each field, from a place on, is said
abbrev Flags : List (ℕ × Content) → List ℕ → ℕ → List (ℕ × TyRef) → Type 0
Flags all places i [] = Unit {0}
Flags all places i (field ∷ fields) = (is_said i places ≡ is_value (value_of all field.0)) × Flags all places (suc i) fields

flags_after : (all : List (ℕ × Content)) (places : List ℕ) (k i : ℕ) (fields : List (ℕ × TyRef)) → k < i → Flags all places i fields → Flags all (places ++ k ∷ []) i fields
flags_after all places k i [] below flags = tt
flags_after all places k i (field ∷ fields) below flags =
    let apart : nat_eq k i ≡ false = grind (arith, below) in
    let same : (is_said i places || nat_eq k i) ≡ is_said i places = rw apart (or_false (is_said i places)) in
    (said_after i k places ∙ same ∙ flags.0, flags_after all places k (suc i) fields (omega (arith, below)) flags.1)

missing_leaf : (s : Shape) (v : Content) → missing s ≡ Some v → is_leaf v ≡ true
missing_leaf (primitive primitives.Null) v e = let same : plain null ≡ v = some_is {A = Content} (plain null) v e in rw (sym same) refl
missing_leaf (primitive primitives.Bool) v e = absurd cc
missing_leaf (primitive primitives.Nat) v e = absurd cc
missing_leaf (primitive primitives.Int) v e = absurd cc
missing_leaf (primitive primitives.Nat8) v e = absurd cc
missing_leaf (primitive primitives.Nat16) v e = absurd cc
missing_leaf (primitive primitives.Nat32) v e = absurd cc
missing_leaf (primitive primitives.Nat64) v e = absurd cc
missing_leaf (primitive primitives.Int8) v e = absurd cc
missing_leaf (primitive primitives.Int16) v e = absurd cc
missing_leaf (primitive primitives.Int32) v e = absurd cc
missing_leaf (primitive primitives.Int64) v e = absurd cc
missing_leaf (primitive primitives.Text) v e = absurd cc
missing_leaf (primitive primitives.Reserved) v e = let same : plain reserved ≡ v = some_is {A = Content} (plain reserved) v e in rw (sym same) refl
missing_leaf (primitive primitives.Empty) v e = absurd cc
missing_leaf (primitive primitives.Principal) v e = absurd cc
missing_leaf (compound (Opt type)) v e = let same : none ≡ v = some_is {A = Content} none v e in rw (sym same) refl
missing_leaf (compound (Seq type)) v e = absurd cc
missing_leaf (compound (Rec fields)) v e = absurd cc
missing_leaf (compound (Var cases)) v e = absurd cc
missing_leaf (compound (Func args results notes)) v e = absurd cc
missing_leaf (compound (Service methods)) v e = absurd cc
missing_leaf dangling v e = absurd cc

left_out_leaf : (depth : ℕ) (s : Shape) (v : Content) → left_out depth s ≡ Some v → is_leaf v ≡ true
left_out_leaf zero s v e = absurd cc
left_out_leaf (suc depth) s v e = missing_leaf s v e

record Missing (depth : ℕ) (table : List Entry) (i : ℕ) (fields : List (ℕ × TyRef)) (places : List ℕ) (next left : ℕ) (tokens : List Token) (ps : List (ℕ × Content)) (less : ℕ) : Type 0 where
  new : List ℕ
  steps : List Step
  values : List Content
  reads : (before : List Step) → missing_from depth table i fields (places, next) (before, left, tokens) ≡ Some ((places ++ new, next), (before ++ steps, less, tokens))
  met : AreMet steps values
  found : fields_at new ps ≡ Some values

left_value : (said other : Option Content) (v : Content) → said ≡ None → option_or said other ≡ Some v → other ≡ Some v
left_value said other v missing e = rw missing at e

no_missing : (depth : ℕ) (table : List Entry) (i : ℕ) (field : ℕ × TyRef) (fields : List (ℕ × TyRef)) (places : List ℕ) (next left : ℕ) (tokens : List Token) (ps : List (ℕ × Content)) (less : ℕ) → is_said i places ≡ true
    → Missing depth table (suc i) fields places next left tokens ps less → Missing depth table i (field ∷ fields) places next left tokens ps less
unfolding missing_from
no_missing depth table i field fields places next left tokens ps less known more =
    record { new = more.new; steps = more.steps; values = more.values; reads = λ before. rw known (more.reads before); met = more.met; found = more.found }

one_missing : (depth : ℕ) (table : List Entry) (i : ℕ) (field : ℕ × TyRef) (fields : List (ℕ × TyRef)) (places : List ℕ) (next left middle : ℕ) (tokens : List Token) (ps : List (ℕ × Content)) (less : ℕ) (v : Content) → is_said i places ≡ false
    → left_out depth (shape table field.1) ≡ Some v → left ≡ suc middle → slice_get ps i ≡ Some (field.0, v) → Missing depth table (suc i) fields (places ++ i ∷ []) next middle tokens ps less → Missing depth table i (field ∷ fields) places next left tokens ps less
unfolding missing_from
one_missing depth table i field fields places next left middle tokens ps less v unknown gone count here more = record {
  new = i ∷ more.new;
  steps = exactly v ∷ more.steps;
  values = v ∷ more.values;
  reads = λ before.
      rw (unknown, gone, count, spends before middle tokens, more.reads (before ++ exactly v ∷ []), append_assoc places (i ∷ []) more.new, append_assoc before (exactly v ∷ []) more.steps) refl;
  met = both_met (exactly v ∷ []) more.steps (v ∷ []) more.values (leaf_met v (left_out_leaf depth (shape table field.1) v gone)) more.met;
  found = rw (here, more.found) refl;
}

missing_tied : (depth : ℕ) (table : List Entry) (all ps : List (ℕ × Content)) (next : ℕ) (tokens : List Token) (less : ℕ) (fields : List (ℕ × TyRef)) (i : ℕ) (places : List ℕ) (left : ℕ) (qs : List (ℕ × Content))
    → filled depth table all fields ≡ Some qs → Flags all places i fields → left ≡ absent all fields + less → ((j : ℕ) → slice_get ps (i + j) ≡ slice_get qs j) → Missing depth table i fields places next left tokens ps less
unfolding missing_from
missing_tied depth table all ps next tokens less [] i places left qs e flags count there =
    let n : left ≡ less = omega (arith, count) in
    record { new = []; steps = []; values = []; reads = λ before. rw (append-nil places, append-nil before, n) refl; met = nothing_met; found = refl }
missing_tied depth table all ps next tokens less (field ∷ fields) i places left qs e flags count there =
    let a = bind_some (option_or (value_of all field.0) (left_out depth (shape table field.1))) (λ (u : Content). filled depth table all fields >>= λ us. Some ((field.0, u) ∷ us)) qs e in
    let b = bind_some (filled depth table all fields) (λ (us : List (ℕ × Content)). Some ((field.0, a.0) ∷ us)) qs a.2 in
    let same : (field.0, a.0) ∷ b.0 ≡ qs = some_is {A = List (ℕ × Content)} ((field.0, a.0) ∷ b.0) qs b.2 in
    let first : slice_get qs 0 ≡ Some (field.0, a.0) = ap (λ (zs : List (ℕ × Content)). slice_get zs 0) (sym same) in
    let here : slice_get ps i ≡ Some (field.0, a.0) = subst (λ (k : ℕ). slice_get ps k ≡ Some (field.0, a.0)) (omega arith) (there 0 ∙ first) in
    let later : (j : ℕ) → slice_get ps (suc i + j) ≡ slice_get b.0 j = λ j.
    let rest : slice_get qs (suc j) ≡ slice_get b.0 j = ap (λ (zs : List (ℕ × Content)). slice_get zs (suc j)) (sym same) in
    subst (λ (k : ℕ). slice_get ps k ≡ slice_get b.0 j) (omega arith) (there (suc j) ∙ rest) in
    elim (some_or_none (value_of all field.0)) [
      | inl s ↦
          let none_lacks : lack (value_of all field.0) ≡ 0 = ap lack s.1 in
          let known : is_said i places ≡ true = flags.0 ∙ ap is_value s.1 in
          let n : left ≡ absent all fields + less = omega (arith, count, none_lacks) in
          no_missing depth table i field fields places next left tokens ps less known (missing_tied depth table all ps next tokens less fields (suc i) places left b.0 b.1 flags.1 n later)
      | inr missing ↦
          let one_lacks : lack (value_of all field.0) ≡ 1 = ap lack missing in
          let unknown : is_said i places ≡ false = flags.0 ∙ ap is_value missing in
          let gone = left_value (value_of all field.0) (left_out depth (shape table field.1)) a.0 missing a.1 in
          let n : left ≡ suc (absent all fields + less) = omega (arith, count, one_lacks) in
          one_missing depth table i field fields places next left (absent all fields + less) tokens ps less a.0 unknown gone n here
          (missing_tied depth table all ps next tokens less fields (suc i) (places ++ i ∷ []) (absent all fields + less) b.0 b.1 (flags_after all places i (suc i) fields (omega arith) flags.1) refl later)
    ]

-- ---- which fields are said

flag_is : (fields : List (ℕ × TyRef)) (all : List (ℕ × Content)) (i id : ℕ) → place_of fields id ≡ Some i → fits fields all ≡ true → is_said i (places_of fields all) ≡ is_value (value_of all id)
flag_is fields [] i id at fit = refl
flag_is fields (x ∷ all) i id at fit =
    let p = fits_parts fields x all fit in
    elim (true_or_false (id == x.0)) [
      | inl same ↦
          let ids : id ≡ x.0 = grind (arith, same) in
          let k : i ≡ where_is fields x.0 = some_is {A = ℕ} i (where_is fields x.0) (sym at ∙ ap (place_of fields) ids ∙ p.placed) in
          let here : nat_eq (where_is fields x.0) i ≡ true = grind (arith, k) in
          rw (here, same) refl
      | inr other ↦
          let apart : nat_eq (where_is fields x.0) i ≡ false = elim (true_or_false (nat_eq (where_is fields x.0) i)) [
            | inl at_one ↦
                let k : where_is fields x.0 ≡ i = grind (arith, at_one) in
                let ids : id ≡ x.0 = one_id fields id x.0 i at (p.placed ∙ ap (λ (n : ℕ). Some n) k) in
                let again : (x.0 == x.0) ≡ false = rw ids at other in
                absurd (grind (arith, again))
            | inr different ↦ different
          ] in
          rw (apart, other) (flag_is fields all i id at p.others)
    ]

abbrev Rise : ℕ → List (ℕ × TyRef) → Type 0
Rise least fields = ids_rise_from least (map (λ f. f.0) fields) ≡ true

-- each field is at its place, from one on
abbrev Numbered : List (ℕ × TyRef) → ℕ → List (ℕ × TyRef) → Type 0
Numbered all i [] = Unit {0}
Numbered all i (field ∷ fields) = (place_of all field.0 ≡ Some i) × Numbered all (suc i) fields

rise_parts : (f : ℕ × TyRef) (fields : List (ℕ × TyRef)) (least : ℕ) → Rise least (f ∷ fields) → (least ≤ f.0) × Rise (suc f.0) fields
rise_parts f fields least rise =
    let h = both (nat_le least f.0 && nat_lt f.0 (2 ^ 32)) (ids_rise_from (suc f.0) (map (λ g. g.0) fields)) rise in
    (leb-true _ _ (both (nat_le least f.0) (nat_lt f.0 (2 ^ 32)) h.0).0, h.1)

shifted : (f : ℕ × TyRef) (all fields : List (ℕ × TyRef)) (i least : ℕ) → f.0 < least → Rise least fields → Numbered all i fields → Numbered (f ∷ all) (suc i) fields
shifted f all [] i least below rise numbered = tt
shifted f all (g ∷ fields) i least below rise numbered =
    let parts = rise_parts g fields least rise in
    let other : (f.0 == g.0) ≡ false = grind (arith, below, parts.0) in
    (rw (other, numbered.0) refl, shifted f all fields (suc i) (suc g.0) (omega (arith, below, parts.0)) parts.1 numbered.1)

numbered_all : (fields : List (ℕ × TyRef)) (least : ℕ) → Rise least fields → Numbered fields 0 fields
numbered_all [] least rise = tt
numbered_all (f ∷ fields) least rise =
    let parts = rise_parts f fields least rise in
    let same : (f.0 == f.0) ≡ true = grind arith in
    (rw same refl, shifted f fields fields 0 (suc f.0) (omega arith) parts.1 (numbered_all fields (suc f.0) parts.1))

flags_are : (all : List (ℕ × TyRef)) (said : List (ℕ × Content)) (i : ℕ) (fields : List (ℕ × TyRef)) → fits all said ≡ true → Numbered all i fields → Flags said (places_of all said) i fields
flags_are all said i [] fit numbered = tt
flags_are all said i (field ∷ fields) fit numbered = (flag_is all said i field.0 numbered.0 fit, flags_are all said (suc i) fields fit numbered.1)

-- ---- records

-- what is made of the fields that are said
record Made (depth : ℕ) (table : List Entry) (fields : List (ℕ × TyRef)) (said : List (ℕ × Content)) (left : ℕ) (v : Content) (less : ℕ) : Type 0 where
  parts : List (ℕ × Content)
  fit : fits fields said ≡ true
  are : filled depth table said fields ≡ Some parts
  enough : left ≡ absent said fields + less
  is : v ≡ record_of (parts_of parts)

made_of : (depth : ℕ) (table : List Entry) (fields : List (ℕ × TyRef)) (said : List (ℕ × Content)) (left : ℕ) (v : Content) (less : ℕ) → made depth table fields said left ≡ Some (v, less) → Made depth table fields said left v less
unfolding made
made_of depth table fields said left v less e = elim (true_or_false (fits fields said && nat_le (absent said fields) left)) [
  | inl both_hold ↦
      let two = both (fits fields said) (nat_le (absent said fields) left) both_hold in
      let enough : absent said fields ≤ left = leb-true _ _ two.1 in
      let b = bind_some (filled depth table said fields) (λ (ps : List (ℕ × Content)). Some (record_of (parts_of ps), left - absent said fields)) (v, less) (rw both_hold at e) in
      let same : (record_of (parts_of b.0), left - absent said fields) ≡ (v, less) = some_is {A = Content × ℕ} (record_of (parts_of b.0), left - absent said fields) (v, less) b.2 in
      let rest : left - absent said fields ≡ less = ap (λ (z : Content × ℕ). z.1) same in
      record { parts = b.0; fit = two.0; are = b.1; enough = omega (arith, enough, rest); is = sym (ap (λ (z : Content × ℕ). z.0) same) }
  | inr not_both ↦ let none : None ≡ Some (v, less) = rw not_both at e in absurd cc
]

record_of_fields : (admitted : Admitted) (depth : ℕ) (table : List Entry) (ours : TyRef → Giving Bool) (fields : List (ℕ × TyRef)) (left : ℕ) (tokens : List Token) (said : List (ℕ × Content)) (middle : ℕ) (v : Content) (less : ℕ) (rest : List Token)
    → Rise 0 fields → starts (is_word (codes "record")) tokens ≡ true → starts (is_mark 123) (drop 1 tokens) ≡ true → FieldsRead admitted fields ours (length tokens) 0 [] left (drop 1 (drop 1 tokens)) said middle rest
    → Made depth table fields said middle v less → Read (record_at admitted depth table ours fields) left tokens (v ∷ []) less rest
record_of_fields admitted depth table ours fields left tokens said middle v less rest rise word brace fs m =
    let flags = flags_are fields said 0 fields m.fit (numbered_all fields 0 rise) in
    let ms = missing_tied depth table said m.parts fs.last fs.stop less fields 0 (places_of fields said) middle m.parts m.are flags m.enough (λ j. ap (slice_get m.parts) (omega arith)) in
    let known = found_said depth table fields said said m.parts m.are m.fit (known_all fields said m.fit) in
    let found = found_both (places_of fields said) ms.new m.parts (map (λ x. x.1) said) ms.values known ms.found in
    record {
      steps = some_fields (places_of fields said ++ ms.new) ∷ (fs.steps ++ ms.steps);
      reads = λ before.
          let all : set (((before ++ some_fields [] ∷ []) ++ fs.steps) ++ ms.steps) (length before) (some_fields (places_of fields said ++ ms.new)) ≡ before ++ some_fields (places_of fields said ++ ms.new) ∷ (fs.steps ++ ms.steps) =
          rw (append_assoc (before ++ some_fields [] ∷ []) fs.steps ms.steps) (put_there before (fs.steps ++ ms.steps) (some_fields []) (some_fields (places_of fields said ++ ms.new))) in
          rw (word, brace, fs.reads (before ++ some_fields [] ∷ []), ms.reads ((before ++ some_fields [] ∷ []) ++ fs.steps), fs.ended, fs.after, all) refl;
      met = rw m.is (one_met (some_fields (places_of fields said ++ ms.new)) (record_of (parts_of m.parts)) (map (λ x. x.1) said ++ ms.values) (fs.steps ++ ms.steps) (m.parts, refl, found) (both_met fs.steps ms.steps (map (λ x. x.1) said) ms.values fs.met ms.met));
    }

pub record_tied : (admitted : Admitted) (depth : ℕ) (table : List Entry) (theirs : TyRef → Budgeted Content) (ours : TyRef → Giving Bool) → NoDots theirs → ((type : TyRef) → Ties (λ v. v) (theirs type) (ours type))
    → (fields : List (ℕ × TyRef)) → Rise 0 fields → (left : ℕ) (tokens : List Token) (v : Content) (less : ℕ) (rest : List Token) → their_record theirs depth table fields left tokens ≡ Some (v, less, rest)
    → Read (record_at admitted depth table ours fields) left tokens (v ∷ []) less rest
record_tied admitted depth table theirs ours dots law fields rise left tokens v less rest e =
    let a = bind_some (in_braces (codes "record") (their_field theirs fields) after_field left tokens) (λ (x : List (ℕ × Content) × ℕ × List Token). made depth table fields x.0 x.1 >>= λ y. Some (y.0, y.1, x.2)) (v, less, rest) e in
    let x : List (ℕ × Content) × ℕ × List Token = a.0 in
    let b = bind_some (made depth table fields x.0 x.1) (λ (y : Content × ℕ). Some (y.0, y.1, x.2)) (v, less, rest) a.2 in
    let y : Content × ℕ = b.0 in
    let same : (y.0, y.1, x.2) ≡ (v, less, rest) = some_is {A = Content × ℕ × List Token} (y.0, y.1, x.2) (v, less, rest) b.2 in
    let m = made_of depth table fields x.0 x.1 y.0 y.1 b.1 in
    subst (λ (z : Content × ℕ × List Token). Read (record_at admitted depth table ours fields) left tokens (z.0 ∷ []) z.1 z.2) same
    (let c = braces_are (codes "record") (their_field theirs fields) after_field left tokens x a.1 in
    let fs = fields_tied admitted fields theirs ours dots law (length tokens) 0 [] left (drop 1 (drop 1 tokens)) x.0 x.1 x.2 c.2 (fresh_said fields [] x.0 m.fit (away_first fields x.0)) in
    record_of_fields admitted depth table ours fields left tokens x.0 x.1 y.0 y.1 x.2 rise c.0 c.1 fs m)
