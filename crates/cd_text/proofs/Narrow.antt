-- Values of entries, and cases by their ids.
use Rattle.std.proofs.Common.{◌≡◌, ℕ, ◌<◌, true, false, List, [], ◌∷◌, Option, Some, None, refl, sym, inl, inr, arith}
use Rattle.std.specs.Prelude.{slice_get, zero, suc, ◌-◌, ◌==◌, get_or}
use Rattle.ic_base.specs.Reader.{◌>>=◌}
use Rattle.ic_base.proofs.Steps.{bind_some, some_is}
use Rattle.cd_tokens.specs.Token.{Token}
use Rattle.cd_plain.specs.ReadPlain.{is_mark, starts, Budgeted}
use Rattle.cd_types.specs.declared.entry.TyRef.TheVariants.{Index}
use Rattle.cd_types.specs.declared.entry.Entry.{Entry}
use Rattle.cd_types.specs.Shape.{shape, entry_shape}
use Rattle.ic_base.specs.declared.read_error.ReadError.{ReadError}
use Rattle.ic_base.specs.declared.read_error.ReadError.TheVariants.{NoMemory, Refused}
use Rattle.ic_base.specs.Gives.{Fails}
use Rattle.cd_types.specs.declared.entry.TyRef.{TyRef}
use Rattle.cd_codec.specs.Content.{Content, variant}
use Rattle.cd_text.specs.Said.{type_of, place_of}
use Rattle.cd_text.specs.ReadSaid.{null_at, case_at, variant_ended, chosen_at, entry_at, value_at}
use Rattle.cd_tokens.proofs.Fronts.{true_or_false}

no_entry : (entry : Option Entry) (depth left : ℕ) (tokens : List Token) → null_at depth (entry_shape entry) left tokens ≡ None
no_entry entry zero left tokens = refl
no_entry None (suc depth) left tokens = refl
no_entry (Some entry) (suc depth) left tokens = refl

-- an entry is no null
pub no_null : (table : List Entry) (i depth left : ℕ) (tokens : List Token) → null_at depth (shape table (Index i)) left tokens ≡ None
no_null table i depth left tokens = no_entry (slice_get table i) depth left tokens

-- ---- values of entries

pub entry_value : (table : List Entry) (depth left i : ℕ) (type : TyRef) (entry : Entry) (tokens : List Token) → 0 < depth → 0 < left → type ≡ Index i → slice_get table i ≡ Some entry → starts (is_mark 40) tokens ≡ false
    → value_at table depth type left tokens ≡ entry_at (depth - 1) table (value_at table (depth - 1)) entry (left - 1) tokens
unfolding value_at
entry_value table zero left i type entry tokens deep some is at other = absurd (omega (arith, deep))
entry_value table (suc depth) zero i type entry tokens deep some is at other = absurd (omega (arith, some))
entry_value table (suc depth) (suc left) i type entry tokens deep some is at other =
    let n : suc depth - 1 ≡ depth = omega arith in
    let m : suc left - 1 ≡ left = omega arith in
    rw (is, at, other, n, m) refl

-- ---- the end of a variant

pub not_ended : (e : ReadError) (read : TyRef → Budgeted Content) (depth : ℕ) (table : List Entry) (cases : List (ℕ × TyRef)) (id place : ℕ) (type : TyRef) (left : ℕ) (tokens : List Token) (v : Content) (less : ℕ) (rest : List Token)
    → place_of cases id ≡ Some place → type_of cases id ≡ Some type → case_at read depth table type left tokens ≡ Some (v, less, rest) → Fails e (variant_ended (v, less, rest)) → Fails e (chosen_at read depth table cases id left tokens)
not_ended NoMemory read depth table cases id place type left tokens v less rest at known said none = tt
not_ended Refused read depth table cases id place type left tokens v less rest at known said none = rw (at, known, said, none) refl

pub has_ended : (read : TyRef → Budgeted Content) (depth : ℕ) (table : List Entry) (cases : List (ℕ × TyRef)) (id place : ℕ) (type : TyRef) (left : ℕ) (tokens : List Token) (v : Content) (less : ℕ) (rest after_it : List Token)
    → place_of cases id ≡ Some place → type_of cases id ≡ Some type → case_at read depth table type left tokens ≡ Some (v, less, rest) → variant_ended (v, less, rest) ≡ Some (v, less, after_it) → chosen_at read depth table cases id left tokens ≡ Some (variant place v, less, after_it)
has_ended read depth table cases id place type left tokens v less rest after_it at known said ended = rw (at, known, said, ended) refl

-- ---- a case by its id

pub typed_there : (cases : List (ℕ × TyRef)) (id k : ℕ) (d : ℕ × TyRef) → place_of cases id ≡ Some k → type_of cases id ≡ Some (get_or cases k d).1
typed_there [] id k d e = absurd cc
typed_there (c ∷ cases) id k d e = elim (true_or_false (c.0 == id)) [
  | inl same ↦ let zero_is : 0 ≡ k = some_is {A = ℕ} 0 k (rw same at e) in rw (sym zero_is, same) refl
  | inr other ↦
      let g : (place_of cases id >>= λ j. Some (suc j)) ≡ Some k = rw other at e in
      let j = bind_some (place_of cases id) (λ j. Some (suc j)) k g in
      let suc_is : suc j.0 ≡ k = some_is {A = ℕ} (suc j.0) k j.2 in
      rw (sym suc_is, other) (typed_there cases id j.0 d j.1)
]
