-- Sets of ids and maps of names, by what they answer.
use Rattle.std.proofs.Common.{◌≡◌, ◌||◌, ℕ, zero, suc, ◌+◌, ◌<◌, ◌≤◌, Bool, true, false, cond, List, [], ◌∷◌, length, get_or, drop, Option, Some, None, refl, sym, ap, ◌∙◌, inl, inr, arith}
use Rattle.std.specs.Prelude.{◌==◌, if◌then◌else◌, is_some, slice_get}
use Rattle.std.proofs.lemmas.List.{at_drop_more}
use Rattle.std.specs.Map.{lookup}
use Rattle.std.specs.Option.{option_or}
use Rattle.std.specs.Str.{is_utf8}
use Rattle.std.specs.BTreeMap.{BTreeMap, UpdatesBy, is_at, get}
use Rattle.std.specs.BTreeSet.{BTreeSet, contains}
use Rattle.std.specs.BTreeSet as set
use Rattle.std.specs.Ordering.{nat_cmp, is_eq}
use Rattle.std.proofs.lemmas.Bool.Decides.{nat_tests}
use Rattle.ic_base.proofs.Steps.{some_is}
use Rattle.cd_types.specs.FieldId.{field_id_of}
use Rattle.cd_types.specs.declared.entry.TyRef.{TyRef}
use Rattle.cd_types.specs.declared.entry.Entry.{Entry}
use Rattle.cd_tokens.specs.Token.{Token}
use Rattle.cd_tokens.specs.ReadLabel.{name_of}
use Rattle.cd_tokens.proofs.Fronts.{true_or_false}
use Rattle.cd_names.specs.Names.{IdNames, name_for, HaveIds, AreTexts, is_among, has_id, is_used, names_in, first_with, named}

same_test : (a b : ℕ) → is_eq (nat_cmp a b) ≡ (a == b)
same_test a b = grind (arith, nat_tests)

-- ---- sets

pub one_more : (old new : BTreeSet ℕ) (key : ℕ) → set.UpdatesBy nat_cmp (nat_cmp key) old new true → (id : ℕ) → contains nat_cmp new id ≡ (contains nat_cmp old id || key == id)
one_more old new key updates id = updates.0 id ∙ ap (λ (b : Bool). cond b true (contains nat_cmp old id)) (same_test key id) ∙ either (key == id) (contains nat_cmp old id)
  where
    either : (b c : Bool) → cond b true c ≡ (c || b)
    either true true = refl
    either true false = refl
    either false true = refl
    either false false = refl

pub or_more : (a b c : Bool) → ((a || b) || c) ≡ (a || (b || c))
or_more true b c = refl
or_more false b c = refl

pub or_none : (a : Bool) → (a || false) ≡ a
or_none true = refl
or_none false = refl

-- ---- names

pub lookup_is : (id : ℕ) (names : IdNames) → lookup (is_at (nat_cmp id)) names ≡ name_for names id
lookup_is id [] = refl
lookup_is id (n ∷ names) =
    ap (λ (b : Bool). cond b (Some n.1) (lookup (is_at (nat_cmp id)) names)) (same_test id n.0) ∙ ap (cond (id == n.0) (Some n.1)) (lookup_is id names)

put : (old new : BTreeMap ℕ (List ℕ)) (key : ℕ) (name : List ℕ) → UpdatesBy nat_cmp (nat_cmp key) old new (Some name) → (id : ℕ) → name_for new.entries id ≡ cond (key == id) (Some name) (name_for old.entries id)
put old new key name updates id =
    sym (lookup_is id new.entries) ∙ updates.0 id ∙ ap (λ (b : Bool). cond b (Some name) (get nat_cmp old id)) (same_test key id) ∙ ap (cond (key == id) (Some name)) (lookup_is id old.entries)

pub nothing_more : (found : Option (List ℕ)) → option_or found None ≡ found
nothing_more None = refl
nothing_more (Some name) = refl

-- a name is added where its id has none
pub added : (old new : BTreeMap ℕ (List ℕ)) (key : ℕ) (name : List ℕ) → key ≡ field_id_of name → UpdatesBy nat_cmp (nat_cmp key) old new (Some name) → name_for old.entries key ≡ None
    → (id : ℕ) → name_for new.entries id ≡ option_or (name_for old.entries id) (if field_id_of name == id then Some name else None)
added old new key name is updates none id = elim (true_or_false (key == id)) [
  | inl same ↦
      let one : key ≡ id = grind (arith, same) in
      let other : (field_id_of name == id) ≡ true = ap (λ (k : ℕ). k == id) (sym is) ∙ same in
      let gone : name_for old.entries id ≡ None = ap (name_for old.entries) (sym one) ∙ none in
      put old new key name updates id ∙ rw (same, gone, other) refl
  | inr apart ↦
      let other : (field_id_of name == id) ≡ false = ap (λ (k : ℕ). k == id) (sym is) ∙ apart in
      put old new key name updates id ∙ rw (apart, other) (sym (nothing_more (name_for old.entries id)))
]

-- and each name has the id that it is for
pub have_ids : (old new : BTreeMap ℕ (List ℕ)) (key : ℕ) (name : List ℕ) → key ≡ field_id_of name → UpdatesBy nat_cmp (nat_cmp key) old new (Some name) → HaveIds old.entries → HaveIds new.entries
have_ids old new key name is updates have id other e = elim (true_or_false (key == id)) [
  | inl same ↦
      let one : key ≡ id = grind (arith, same) in
      let here : name ≡ other = some_is {A = List ℕ} name other (sym (put old new key name updates id ∙ rw same refl) ∙ e) in
      ap field_id_of (sym here) ∙ sym is ∙ one
  | inr apart ↦ have id other (sym (put old new key name updates id ∙ rw apart refl) ∙ e)
]

-- and each name is UTF-8
pub are_texts : (old new : BTreeMap ℕ (List ℕ)) (key : ℕ) (name : List ℕ) → is_utf8 name ≡ true → UpdatesBy nat_cmp (nat_cmp key) old new (Some name) → AreTexts old.entries → AreTexts new.entries
are_texts old new key name is updates are id other e = elim (true_or_false (key == id)) [
  | inl same ↦ ap is_utf8 (sym (some_is {A = List ℕ} name other (sym (put old new key name updates id ∙ rw same refl) ∙ e))) ∙ is
  | inr apart ↦ are id other (sym (put old new key name updates id ∙ rw apart refl) ∙ e)
]

-- a name that is there has its id
pub own : (names : IdNames) (id : ℕ) (name other : List ℕ) → HaveIds names → other ≡ name → Some name ≡ name_for names id → field_id_of other ≡ id
own names id name other have same is = ap field_id_of same ∙ have id name (sym is)

-- ---- tokens

module _ (wanted : ℕ → Bool) where
  pub no_name : (t : Token) → name_of t ≡ None → (id : ℕ) → named wanted (t ∷ []) id ≡ None
  no_name t none id = elim (true_or_false (wanted id)) [ inl on ↦ rw (on, none) refl | inr off ↦ rw off refl ]

  pub unwanted : (t : Token) (name : List ℕ) → name_of t ≡ Some name → wanted (field_id_of name) ≡ false → (id : ℕ) → named wanted (t ∷ []) id ≡ None
  unwanted t name is never id = elim (true_or_false (field_id_of name == id)) [
    | inl same ↦
        let one : field_id_of name ≡ id = grind (arith, same) in
        let off : wanted id ≡ false = ap wanted (sym one) ∙ never in
        rw off refl
    | inr apart ↦ elim (true_or_false (wanted id)) [ inl on ↦ rw (on, is, apart) refl | inr off ↦ rw off refl ]
  ]

  pub one_wanted : (t : Token) (name : List ℕ) → name_of t ≡ Some name → wanted (field_id_of name) ≡ true → (id : ℕ) → named wanted (t ∷ []) id ≡ (if field_id_of name == id then Some name else None)
  one_wanted t name is wants id = elim (true_or_false (field_id_of name == id)) [
    | inl same ↦
        let one : field_id_of name ≡ id = grind (arith, same) in
        let on : wanted id ≡ true = ap wanted (sym one) ∙ wants in
        rw (on, is, same) refl
    | inr apart ↦ elim (true_or_false (wanted id)) [ inl on ↦ rw (on, is, apart) refl | inr off ↦ rw (off, apart) refl ]
  ]

  -- the first of a token and of others
  behind : (id : ℕ) (name : Option (List ℕ)) (t : Token) (tokens : List Token) → name_of t ≡ name → first_with id (names_in (t ∷ tokens)) ≡ option_or (first_with id (names_in (t ∷ []))) (first_with id (names_in tokens))
  behind id None t tokens is = rw is refl
  behind id (Some name) t tokens is = elim (true_or_false (field_id_of name == id)) [ inl same ↦ rw (is, same) refl | inr apart ↦ rw (is, apart) refl ]

  first_of : (t : Token) (tokens : List Token) (id : ℕ) → named wanted (t ∷ tokens) id ≡ option_or (named wanted (t ∷ []) id) (named wanted tokens id)
  first_of t tokens id = elim (true_or_false (wanted id)) [ inl on ↦ rw on (behind id (name_of t) t tokens refl) | inr off ↦ rw off refl ]

  or_later : (a b c : Option (List ℕ)) → option_or (option_or a b) c ≡ option_or a (option_or b c)
  or_later None b c = refl
  or_later (Some x) b c = refl

  -- one token more
  pub token_more : (old new : IdNames) (t : Token) (tokens : List Token) → ((id : ℕ) → name_for new id ≡ option_or (name_for old id) (named wanted (t ∷ []) id))
      → (id : ℕ) → option_or (name_for new id) (named wanted tokens id) ≡ option_or (name_for old id) (named wanted (t ∷ tokens) id)
  token_more old new t tokens gains id =
      ap (λ (x : Option (List ℕ)). option_or x (named wanted tokens id)) (gains id) ∙ or_later (name_for old id) (named wanted (t ∷ []) id) (named wanted tokens id) ∙ ap (option_or (name_for old id)) (sym (first_of t tokens id))

-- what is wanted alike has the same names
pub named_alike : (wanted other : ℕ → Bool) (tokens : List Token) → ((id : ℕ) → wanted id ≡ other id) → (id : ℕ) → named wanted tokens id ≡ named other tokens id
named_alike wanted other tokens alike id = ap (λ (b : Bool). if b then first_with id (names_in tokens) else None) (alike id)

-- ---- what a walk through a table has found

none_is : (found : Option (List ℕ)) → is_some found ≡ false → found ≡ None
none_is None e = refl
none_is (Some name) e = absurd cc

pub absent : (names : IdNames) (key : ℕ) → is_some (lookup (is_at (nat_cmp key)) names) ≡ false → name_for names key ≡ None
absent names key e = none_is (name_for names key) (ap is_some (sym (lookup_is key names)) ∙ e)

pub field_more : (fields : List (ℕ × TyRef)) (i : ℕ) (d : ℕ × TyRef) (id : ℕ) (old new whole : Bool) → i < length fields → new ≡ (old || ((get_or fields i d).0 == id)) → (old || is_among (drop i fields) id) ≡ whole → (new || is_among (drop (i + 1) fields) id) ≡ whole
field_more fields i d id old new whole below gains so_far =
    ap (λ (b : Bool). b || is_among (drop (i + 1) fields) id) gains ∙ or_more old ((get_or fields i d).0 == id) (is_among (drop (i + 1) fields) id)
    ∙ ap (λ (b : Bool). old || b) (sym (at_drop_more (λ (fs : List (ℕ × TyRef)). is_among fs id) fields i d below)) ∙ so_far

entry_there : (table : List Entry) (i : ℕ) (entry : Entry) → slice_get table i ≡ Some entry → drop i table ≡ entry ∷ drop (suc i) table
entry_there [] i entry at = absurd cc
entry_there (e ∷ table) zero entry at = ap (λ (x : Entry). x ∷ table) (some_is {A = Entry} e entry at)
entry_there (e ∷ table) (suc i) entry at = entry_there table i entry at

pub entry_more : (table : List Entry) (i : ℕ) (entry : Entry) (id : ℕ) (old new whole : Bool) → slice_get table i ≡ Some entry → new ≡ (old || has_id id entry) → (old || is_used (drop i table) id) ≡ whole → (new || is_used (drop (i + 1) table) id) ≡ whole
entry_more table i entry id old new whole at gains so_far =
    let next : i + 1 ≡ suc i = omega arith in
    ap (λ (b : Bool). b || is_used (drop (i + 1) table) id) gains ∙ or_more old (has_id id entry) (is_used (drop (i + 1) table) id)
    ∙ ap (λ (k : ℕ). old || (has_id id entry || is_used (drop k table) id)) next
    ∙ ap (λ (es : List Entry). old || is_used es id) (sym (entry_there table i entry at)) ∙ so_far

pub past_end : (table : List Entry) (i : ℕ) → slice_get table i ≡ None → length table ≤ i
past_end [] i e = omega arith
past_end (x ∷ table) zero e = absurd cc
past_end (x ∷ table) (suc i) e = let more = past_end table i e in omega (arith, more)
