-- A record's values in the order of its fields.
use Rattle.std.proofs.Common.{◌≡◌, ℕ, zero, suc, ◌+◌, ◌≤◌, ◌<◌, Bool, true, false, List, [], ◌∷◌, ◌++◌, length, take, drop, map, Option, Some, None, refl, sym, ap, subst, ◌∙◌, append_assoc, inl, inr, arith, add-one}
use Rattle.std.specs.Prelude.{◌&&◌, ◌==◌, set, get_or, nat_le, ◌-◌, reverse}
use Rattle.std.specs.Option.{option_or}
use Rattle.std.proofs.Math.ListN.{drop_of_length-le}
use Rattle.std.proofs.Math.Seq.{drop-cons}
use Rattle.cd_types.specs.declared.entry.Entry.{Entry}
use Rattle.cd_types.specs.Shape.{shape}
use Rattle.std.proofs.lemmas.List.{append-nil, length-append, map_push, reverse-append}
use Rattle.std.specs.Prelude.{Err}
use Rattle.ic_base.specs.declared.read_error.ReadError.{ReadError}
use Rattle.ic_base.specs.declared.read_error.ReadError.TheVariants.{NoMemory, Refused}
use Rattle.ic_base.specs.Gives.{Fails, Gives}
use Rattle.ic_base.specs.Reader.{◌>>=◌}
use Rattle.ic_base.proofs.Steps.{bind_some, some_is}
use Rattle.cd_types.specs.declared.entry.TyRef.{TyRef}
use Rattle.std.specs.Option.{is_some}
use Rattle.std.proofs.lemmas.List.{get_or-map}
use Rattle.cd_codec.specs.declared.value.Value.{Value}
use Rattle.cd_codec.specs.Content.{Content, record_of, parts_of}
use Rattle.cd_types.specs.IsOrdered.{ids_rise_from}
use Rattle.cd_codec.specs.View.{view, views_of_fields}
use Rattle.cd_text.specs.Said.{type_of, value_of, is_absent, place_of, left_out, filled}
use Rattle.cd_text.specs.ReadSaid.{slot_view, is_field, fits, slots_at, filled_slots, absent, made}
use Rattle.cd_tokens.proofs.Fronts.{true_or_false}
use Rattle.cd_tokens.proofs.Starts.{is_equal}
use Rattle.cd_text.proofs.Values.{both, not_said, are_fields, fields_distinct, absent_count}

abbrev pub empty_slots : List (ℕ × TyRef) → List (Option Content)
empty_slots fields = map (λ f. None) fields

abbrev pub seen_slots : List (ℕ × Content) → List (ℕ × TyRef) → List (Option Content)
seen_slots done fields = map (λ f. value_of done f.0) fields

-- what is still to be placed, and what is in its place
pub record Filling (fields : List (ℕ × TyRef)) (said : List (ℕ × Content)) (slots : List (Option Content)) (all : List (ℕ × Content)) : Type 0 where
  pub done : List (ℕ × Content)
  pub parts : all ≡ said ++ done
  pub placed : slots ≡ seen_slots done fields
  pub fit : fits fields done ≡ true

-- nothing is placed yet
pub at_first : (fields : List (ℕ × TyRef)) (said : List (ℕ × Content)) (slots : List (Option Content)) → slots ≡ empty_slots fields → Filling fields said slots said
at_first fields said slots e = record { done = []; parts = sym (append-nil said); placed = e; fit = refl }

-- all is placed
pub at_last : (fields : List (ℕ × TyRef)) (slots : List (Option Content)) (all : List (ℕ × Content)) → Filling fields [] slots all → slots_at fields all ≡ Some slots
at_last fields slots all f = rw (f.parts, f.fit, f.placed) refl

-- what does not fit does not fit within more
fits_end : (fields : List (ℕ × TyRef)) (front back : List (ℕ × Content)) → fits fields (front ++ back) ≡ true → fits fields back ≡ true
fits_end fields [] back h = h
fits_end fields (x ∷ front) back h = fits_end fields front back (both (fits fields (front ++ back)) (is_field (place_of fields x.0)) (both (fits fields (front ++ back) && is_field (place_of fields x.0)) (is_absent x.0 (front ++ back)) h).0).0

not_fit : (fields : List (ℕ × TyRef)) (front back : List (ℕ × Content)) → fits fields back ≡ false → fits fields (front ++ back) ≡ false
not_fit fields front back h = elim (true_or_false (fits fields (front ++ back))) [
  | inl holds ↦ let e = fits_end fields front back holds in absurd cc
  | inr fails ↦ fails
]

-- no field has the id
pub no_place : (fields : List (ℕ × TyRef)) (said more : List (ℕ × Content)) (x : ℕ × Content) (slots : List (Option Content)) (all : List (ℕ × Content)) → more ≡ said ++ x ∷ [] → place_of fields x.0 ≡ None → Filling fields more slots all → slots_at fields all ≡ None
no_place fields said more x slots all e none f =
    let whole : all ≡ said ++ (x ∷ f.done) = f.parts ∙ ap (λ (xs : List (ℕ × Content)). xs ++ f.done) e ∙ append_assoc said (x ∷ []) f.done in
    let bad : fits fields (x ∷ f.done) ≡ false = rw (f.fit, none) refl in
    rw (whole, not_fit fields said (x ∷ f.done) bad) refl

-- the slot at a field's place
slot_is : (fields : List (ℕ × TyRef)) (done : List (ℕ × Content)) (id k : ℕ) (d : Option Content) → place_of fields id ≡ Some k → get_or (seen_slots done fields) k d ≡ value_of done id
slot_is [] done id k d e = absurd cc
slot_is (f ∷ fields) done id k d e = elim (true_or_false (f.0 == id)) [
  | inl same ↦
      let at : Some 0 ≡ Some k = rw same at e in
      let zero_is : 0 ≡ k = some_is {A = ℕ} 0 k at in
      rw (sym zero_is) (ap (value_of done) (is_equal f.0 id same))
  | inr other ↦
      let g : (place_of fields id >>= λ j. Some (suc j)) ≡ Some k = rw other at e in
      let j = bind_some (place_of fields id) (λ j. Some (suc j)) k g in
      let suc_is : suc j.0 ≡ k = some_is {A = ℕ} (suc j.0) k j.2 in
      rw (sym suc_is) (slot_is fields done id j.0 d j.1)
]

absent_of : (id : ℕ) (said : List (ℕ × Content)) → value_of said id ≡ None → is_absent id said ≡ true
absent_of id [] e = refl
absent_of id (x ∷ said) e = elim (true_or_false (id == x.0)) [
  | inl same ↦ let g : Some x.1 ≡ None = rw same at e in absurd cc
  | inr other ↦ let g : value_of said id ≡ None = rw other at e in rw (other, absent_of id said g) refl
]

known : (v : Content) (found : Option Content) → found ≡ Some v → found ≡ None → ⊥
known v found e f = cc

-- the slot is taken: the field is said twice
pub taken_twice : (fields : List (ℕ × TyRef)) (said more : List (ℕ × Content)) (x : ℕ × Content) (k : ℕ) (d : Option Content) (v : Content) (slots : List (Option Content)) (all : List (ℕ × Content)) → more ≡ said ++ x ∷ [] → place_of fields x.0 ≡ Some k → get_or slots k d ≡ Some v
    → Filling fields more slots all → slots_at fields all ≡ None
taken_twice fields said more x k d v slots all e place there f =
    let whole : all ≡ said ++ (x ∷ f.done) = f.parts ∙ ap (λ (xs : List (ℕ × Content)). xs ++ f.done) e ∙ append_assoc said (x ∷ []) f.done in
    let value : value_of f.done x.0 ≡ Some v = sym (slot_is fields f.done x.0 k d place) ∙ ap (λ (xs : List (Option Content)). get_or xs k d) (sym f.placed) ∙ there in
    let bad : fits fields (x ∷ f.done) ≡ false = rw (f.fit, place) (elim (true_or_false (is_absent x.0 f.done)) [
      | inl free ↦ let n = not_said x.0 f.done free in absurd (known v (value_of f.done x.0) value n)
      | inr twice ↦ twice
    ]) in
    rw (whole, not_fit fields said (x ∷ f.done) bad) refl

-- one more value is in its place
no_type : (fields : List (ℕ × TyRef)) (done : List (ℕ × Content)) (x : ℕ × Content) → type_of fields x.0 ≡ None → seen_slots (x ∷ done) fields ≡ seen_slots done fields
no_type [] done x e = refl
no_type (f ∷ fields) done x e = elim (true_or_false (f.0 == x.0)) [
  | inl same ↦ let g : Some f.1 ≡ None = rw same at e in absurd cc
  | inr other ↦ let g : type_of fields x.0 ≡ None = rw other at e in rw (other, no_type fields done x g) refl
]

set_one : (fields : List (ℕ × TyRef)) (done : List (ℕ × Content)) (x : ℕ × Content) (k : ℕ) → are_fields fields → place_of fields x.0 ≡ Some k → seen_slots (x ∷ done) fields ≡ set (seen_slots done fields) k (Some x.1)
set_one [] done x k are e = absurd cc
set_one (f ∷ fields) done x k are e = elim (true_or_false (f.0 == x.0)) [
  | inl same ↦
      let at : Some 0 ≡ Some k = rw same at e in
      let zero_is : 0 ≡ k = some_is {A = ℕ} 0 k at in
      let id : f.0 ≡ x.0 = is_equal f.0 x.0 same in
      let rest = no_type fields done x (subst (λ j. type_of fields j ≡ None) id are.0) in
      rw (sym zero_is, same, rest) refl
  | inr other ↦
      let g : (place_of fields x.0 >>= λ j. Some (suc j)) ≡ Some k = rw other at e in
      let j = bind_some (place_of fields x.0) (λ j. Some (suc j)) k g in
      let suc_is : suc j.0 ≡ k = some_is {A = ℕ} (suc j.0) k j.2 in
      rw (sym suc_is, other, set_one fields done x j.0 are.1 j.1) refl
]

pub one_placed : (fields : List (ℕ × TyRef)) (said more : List (ℕ × Content)) (x : ℕ × Content) (k : ℕ) (d : Option Content) (slots new : List (Option Content)) (all : List (ℕ × Content)) → are_fields fields → more ≡ said ++ x ∷ [] → place_of fields x.0 ≡ Some k
    → get_or slots k d ≡ None → new ≡ set slots k (Some x.1) → Filling fields more slots all → Filling fields said new all
one_placed fields said more x k d slots new all are e place free now f = record {
  done = x ∷ f.done;
  parts = f.parts ∙ ap (λ (xs : List (ℕ × Content)). xs ++ f.done) e ∙ append_assoc said (x ∷ []) f.done;
  placed = now ∙ ap (λ (xs : List (Option Content)). set xs k (Some x.1)) f.placed ∙ sym (set_one fields f.done x k are place);
  fit =
      let value : value_of f.done x.0 ≡ None = sym (slot_is fields f.done x.0 k d place) ∙ ap (λ (xs : List (Option Content)). get_or xs k d) (sym f.placed) ∙ free in
      rw (f.fit, place, absent_of x.0 f.done value) refl;
}

empties : (fields : List (ℕ × TyRef)) (i : ℕ) → i < length fields → empty_slots (take i fields) ++ None ∷ [] ≡ empty_slots (take (i + 1) fields)
empties [] i below = absurd (omega (arith, below))
empties (f ∷ fields) zero below = refl
empties (f ∷ fields) (suc i) below =
    let k : suc i + 1 ≡ suc (i + 1) = omega arith in
    rw k (ap (λ (xs : List (Option Content)). None ∷ xs) (empties fields i (omega (arith, below))))

-- one more empty slot
pub one_empty : (fields : List (ℕ × TyRef)) (i : ℕ) (slots new : List (Option Content)) → i < length fields → slots ≡ empty_slots (take i fields) → new ≡ slots ++ None ∷ [] → new ≡ empty_slots (take (i + 1) fields)
one_empty fields i slots new below e now = now ∙ ap (λ (xs : List (Option Content)). xs ++ None ∷ []) e ∙ empties fields i below

some_of : {A : Type 0} (o : Option A) → is_some o ≡ true → (v : A) × (o ≡ Some v)
some_of None h = absurd cc
some_of (Some v) h = (v, refl)

pub taken_there : (fields : List (ℕ × TyRef)) (said more : List (ℕ × Content)) (x : ℕ × Content) (k : ℕ) (slots : List (Option Content)) (all : List (ℕ × Content)) → more ≡ said ++ x ∷ [] → place_of fields x.0 ≡ Some k → is_some (get_or slots k None) ≡ true
    → Filling fields more slots all → slots_at fields all ≡ None
taken_there fields said more x k slots all e place there f = let v = some_of (get_or slots k None) there in taken_twice fields said more x k None v.0 slots all e place v.1 f

no_some : (o : Option Value) → is_some o ≡ false → slot_view o ≡ None
no_some None h = refl
no_some (Some v) h = absurd cc

pub free_slot : (slots : List (Option Value)) (k : ℕ) (d : Option Value) → k < length slots → d ≡ get_or slots k d → is_some d ≡ false → get_or (map slot_view slots) k None ≡ None
free_slot slots k d below is free = get_or-map slot_view slots k d None below ∙ ap slot_view (sym is) ∙ no_some d free

-- ---- from slots to fields

-- what is left of the slots, and the fields of those taken, the last first
pub record Emptying (depth : ℕ) (table : List Entry) (fields : List (ℕ × TyRef)) (slots all : List (Option Content)) (parts : List (ℕ × Content)) : Type 0 where
  pub rest : List (Option Content)
  pub whole : all ≡ slots ++ rest
  pub few : length slots ≤ length fields
  pub made_so_far : filled_slots depth table (drop (length slots) fields) rest ≡ Some (reverse parts)

pub all_full : (depth : ℕ) (table : List Entry) (fields : List (ℕ × TyRef)) (slots : List (Option Content)) → length slots ≡ length fields → Emptying depth table fields slots slots []
all_full depth table fields slots same = record {
  rest = [];
  whole = sym (append-nil slots);
  few = omega (arith, same);
  made_so_far = let none : drop (length slots) fields ≡ [] = drop_of_length-le fields (omega (arith, same)) in rw none refl;
}

-- the field at the place of the last slot
last_field : (fields : List (ℕ × TyRef)) (front slots : List (Option Content)) (s : Option Content) (d : ℕ × TyRef) → slots ≡ front ++ s ∷ [] → length slots ≤ length fields
    → (drop (length front) fields ≡ get_or fields (length front) d ∷ drop (length slots) fields) × (length front < length fields)
last_field fields front slots s d e few =
    let n : length slots ≡ length front + 1 = ap length e ∙ length-append front (s ∷ []) in
    let inside : length front < length fields = omega (arith, n, few) in
    (rw (n, add-one) (drop-cons fields (length front) d inside), inside)

pub one_taken : (depth : ℕ) (table : List Entry) (fields : List (ℕ × TyRef)) (front slots all : List (Option Content)) (s : Option Content) (d field : ℕ × TyRef) (v : Content) (parts more : List (ℕ × Content)) → slots ≡ front ++ s ∷ [] → field ≡ get_or fields (length front) d
    → option_or s (left_out depth (shape table field.1)) ≡ Some v → more ≡ parts ++ (field.0, v) ∷ [] → Emptying depth table fields slots all parts → Emptying depth table fields front all more
one_taken depth table fields front slots all s d field v parts more e at known now h =
    let l = last_field fields front slots s d e h.few in
    let f : drop (length front) fields ≡ field ∷ drop (length slots) fields = l.0 ∙ ap (λ (x : ℕ × TyRef). x ∷ drop (length slots) fields) (sym at) in
    record {
      rest = s ∷ h.rest;
      whole = h.whole ∙ ap (λ (xs : List (Option Content)). xs ++ h.rest) e ∙ append_assoc front (s ∷ []) h.rest;
      few = let k = l.1 in omega (arith, k);
      made_so_far = rw (f, known, h.made_so_far, now) (ap (λ (xs : List (ℕ × Content)). Some xs) (sym (reverse-append parts ((field.0, v) ∷ []))));
    }

nothing_then : {A B : Type 0} (read : Option A) (f : A → Option B) → ((v : A) → f v ≡ None) → (read >>= f) ≡ None
nothing_then None f none = refl
nothing_then (Some v) f none = none v

suffix_none : (depth : ℕ) (table : List Entry) (front : List (Option Content)) (fields : List (ℕ × TyRef)) (back : List (Option Content)) → length front ≤ length fields → filled_slots depth table (drop (length front) fields) back ≡ None → filled_slots depth table fields (front ++ back) ≡ None
suffix_none depth table [] fields back few none = none
suffix_none depth table (s ∷ front) [] back few none = absurd (omega (arith, few))
suffix_none depth table (s ∷ front) (f ∷ fields) back few none =
    nothing_then (option_or s (left_out depth (shape table f.1))) (λ v. filled_slots depth table fields (front ++ back) >>= λ vs. Some ((f.0, v) ∷ vs)) (λ v. rw (suffix_none depth table front fields back (omega (arith, few)) none) refl)

pub none_taken : (depth : ℕ) (table : List Entry) (fields : List (ℕ × TyRef)) (front slots all : List (Option Content)) (s : Option Content) (d field : ℕ × TyRef) (parts : List (ℕ × Content)) → slots ≡ front ++ s ∷ [] → field ≡ get_or fields (length front) d
    → option_or s (left_out depth (shape table field.1)) ≡ None → Emptying depth table fields slots all parts → filled_slots depth table fields all ≡ None
none_taken depth table fields front slots all s d field parts e at none h =
    let l = last_field fields front slots s d e h.few in
    let f : drop (length front) fields ≡ field ∷ drop (length slots) fields = l.0 ∙ ap (λ (x : ℕ × TyRef). x ∷ drop (length slots) fields) (sym at) in
    let whole : all ≡ front ++ s ∷ h.rest = h.whole ∙ ap (λ (xs : List (Option Content)). xs ++ h.rest) e ∙ append_assoc front (s ∷ []) h.rest in
    rw whole (suffix_none depth table front fields (s ∷ h.rest) (let k = l.1 in omega (arith, k)) (rw (f, none) refl))

pub all_taken : (depth : ℕ) (table : List Entry) (fields : List (ℕ × TyRef)) (slots all : List (Option Content)) (parts : List (ℕ × Content)) → slots ≡ [] → Emptying depth table fields slots all parts → filled_slots depth table fields all ≡ Some (reverse parts)
all_taken depth table fields slots all parts none h =
    let whole : all ≡ h.rest = h.whole ∙ ap (λ (xs : List (Option Content)). xs ++ h.rest) none in
    let so_far : filled_slots depth table (drop 0 fields) h.rest ≡ Some (reverse parts) = subst (λ (xs : List (Option Content)). filled_slots depth table (drop (length xs) fields) h.rest ≡ Some (reverse parts)) none h.made_so_far in
    rw whole so_far

-- ---- the record

pub filled_is : (depth : ℕ) (table : List Entry) (said : List (ℕ × Content)) (fields : List (ℕ × TyRef)) → filled_slots depth table fields (map (λ f. value_of said f.0) fields) ≡ filled depth table said fields
filled_is depth table said [] = refl
filled_is depth table said (f ∷ fields) = rw (filled_is depth table said fields) refl

-- where there is no room, nothing is made
pub no_room : (depth : ℕ) (table : List Entry) (fields : List (ℕ × TyRef)) (said : List (ℕ × Content)) (left : ℕ) → ids_rise_from 0 (map (λ f. f.0) fields) ≡ true → (nat_le (length said) (length fields) && nat_le (length fields - length said) left) ≡ false → made depth table fields said left ≡ None
unfolding made
no_room depth table fields said left rise none = elim (true_or_false (fits fields said)) [
  | inr bad ↦ rw bad refl
  | inl good ↦
      let n = absent_count fields (fields_distinct fields 0 rise) said good in
      let h : nat_le (length said) (length fields) ≡ true = grind (arith, n) in
      let k : length fields - length said ≡ absent said fields = omega (arith, n) in
      let few : nat_le (absent said fields) left ≡ false = subst (λ j. nat_le j left ≡ false) k (rw h at none) in
      rw (good, few) refl
]

-- all fit, and fields are left out
pub record_is : (depth : ℕ) (table : List Entry) (fields : List (ℕ × TyRef)) (said : List (ℕ × Content)) (slots : List (Option Content)) (left less : ℕ) → ids_rise_from 0 (map (λ f. f.0) fields) ≡ true → (nat_le (length said) (length fields) && nat_le (length fields - length said) left) ≡ true
    → slots_at fields said ≡ Some slots → less ≡ left - (length fields - length said) → made depth table fields said left ≡ (filled_slots depth table fields slots >>= λ ps. Some (record_of (parts_of ps), less))
unfolding made
record_is depth table fields said slots left less rise room fit now = elim (true_or_false (fits fields said)) [
  | inr bad ↦ let f : None ≡ Some slots = rw bad at fit in absurd cc
  | inl good ↦
      let n = absent_count fields (fields_distinct fields 0 rise) said good in
      let h = both (nat_le (length said) (length fields)) (nat_le (length fields - length said) left) room in
      let k : length fields - length said ≡ absent said fields = omega (arith, n) in
      let few : nat_le (absent said fields) left ≡ true = subst (λ j. nat_le j left ≡ true) k h.1 in
      let is : slots ≡ map (λ f. value_of said f.0) fields = sym (some_is {A = List (Option Content)} (map (λ f. value_of said f.0) fields) slots (rw good at fit)) in
      rw (good, few, now, k, is, filled_is depth table said fields) refl
]

pub taken_next : (depth : ℕ) (table : List Entry) (fields : List (ℕ × TyRef)) (front slots all : List (Option Content)) (s : Option Content) (k : ℕ) (d : ℕ × TyRef) (v : Content) (parts more : List (ℕ × Content)) → slots ≡ front ++ s ∷ [] → k ≡ length front
    → option_or s (left_out depth (shape table (get_or fields k d).1)) ≡ Some v → more ≡ parts ++ ((get_or fields k d).0, v) ∷ [] → Emptying depth table fields slots all parts → Emptying depth table fields front all more
taken_next depth table fields front slots all s k d v parts more e at known now h = one_taken depth table fields front slots all s d (get_or fields k d) v parts more e (ap (λ i. get_or fields i d) at) known now h

pub none_next : {C : Type 0} (view_of : C → List (ℕ × Content)) (error : ReadError) (depth : ℕ) (table : List Entry) (fields : List (ℕ × TyRef)) (front slots all : List (Option Content)) (s : Option Content) (k : ℕ) (d : ℕ × TyRef) (parts : List (ℕ × Content)) → slots ≡ front ++ s ∷ [] → k ≡ length front
    → Fails error (option_or s (left_out depth (shape table (get_or fields k d).1))) → Emptying depth table fields slots all parts → Gives view_of (Err error) (filled_slots depth table fields all)
none_next view_of NoMemory depth table fields front slots all s k d parts e at none h = tt
none_next view_of Refused depth table fields front slots all s k d parts e at none h = none_taken depth table fields front slots all s d (get_or fields k d) parts e (ap (λ i. get_or fields i d) at) none h

views_reverse : (parts : List (ℕ × Value)) → views_of_fields (reverse parts) ≡ reverse (views_of_fields parts)
views_reverse [] = refl
views_reverse (p ∷ parts) =
    ap views_of_fields (reverse-append (p ∷ []) parts) ∙ map_push (λ (f : ℕ × Value). (f.0, view f.1)) (reverse parts) p ∙ ap (λ (xs : List (ℕ × Content)). xs ++ (p.0, view p.1) ∷ []) (views_reverse parts) ∙ sym (reverse-append ((p.0, view p.1) ∷ []) (views_of_fields parts))

pub parts_end : (depth : ℕ) (table : List Entry) (fields : List (ℕ × TyRef)) (slots : List (Option Value)) (all : List (Option Content)) (parts new : List (ℕ × Value)) → slots ≡ [] → new ≡ reverse parts → Emptying depth table fields (map slot_view slots) all (views_of_fields parts)
    → filled_slots depth table fields all ≡ Some (views_of_fields new)
parts_end depth table fields slots all parts new none now h =
    all_taken depth table fields (map slot_view slots) all (views_of_fields parts) (ap (map slot_view) none) h ∙ ap (λ (xs : List (ℕ × Content)). Some xs) (sym (ap views_of_fields now ∙ views_reverse parts))

-- as the code counts
pub no_room_for : (depth : ℕ) (table : List Entry) (fields : List (ℕ × TyRef)) (said : List (ℕ × Content)) (count left : ℕ) (room : Bool) → ids_rise_from 0 (map (λ f. f.0) fields) ≡ true → count ≡ length said → room ≡ (nat_le count (length fields) && nat_le (length fields - count) left) → room ≡ false
    → made depth table fields said left ≡ None
no_room_for depth table fields said count left room rise many is none = no_room depth table fields said left rise (subst (λ k. (nat_le k (length fields) && nat_le (length fields - k) left) ≡ false) many (sym is ∙ none))

pub made_is : (depth : ℕ) (table : List Entry) (fields : List (ℕ × TyRef)) (said : List (ℕ × Content)) (slots : List (Option Content)) (count again left : ℕ) (room : Bool) → ids_rise_from 0 (map (λ f. f.0) fields) ≡ true → count ≡ length said → again ≡ length said
    → room ≡ (nat_le count (length fields) && nat_le (length fields - count) left) → room ≡ true → slots_at fields said ≡ Some slots
    → made depth table fields said left ≡ (filled_slots depth table fields slots >>= λ ps. Some (record_of (parts_of ps), left - (length fields - again)))
made_is depth table fields said slots count again left room rise many same is fine fit =
    record_is depth table fields said slots left (left - (length fields - again)) rise (subst (λ k. (nat_le k (length fields) && nat_le (length fields - k) left) ≡ true) many (sym is ∙ fine)) fit (ap (λ k. left - (length fields - k)) same)

pub no_parts : {A B C : Type 0} (view_of : C → B) (e : ReadError) (total : Option B) (read : Option A) (f : A → Option B) → total ≡ (read >>= f) → Fails e read → Gives view_of (Err e) total
no_parts view_of NoMemory total read f is none = tt
no_parts view_of Refused total read f is none = is ∙ ap (λ r. r >>= f) none
