-- The values of requests have their types.
use Rattle.std.proofs.Common.{◌≡◌, ℕ, ◌<◌, ◌≤◌, ◌^◌, true, false, List, [], ◌∷◌, ◌++◌, length, Option, Some, None, refl, arith}
use Rattle.std.specs.Prelude.{slice_get, IfSome}
use Rattle.ic_leb.specs.declared.width.Width.TheVariants.{Candid}
use Rattle.ic_leb.specs.Spelling.{unsigned_spelling}
use Rattle.ic_leb.proofs.Shortest.{unsigned_spelled}
use Rattle.cd_types.specs.declared.primitive.Primitive.TheVariants as P
use Rattle.cd_types.specs.declared.entry.TyRef.{TyRef}
use Rattle.cd_types.specs.declared.entry.TyRef.TheVariants.{Prim, Index}
use Rattle.cd_types.specs.declared.entry.Entry.{Entry}
use Rattle.cd_types.specs.declared.entry.Entry.TheVariants.{Opt, Seq, Rec, Var}
use Rattle.cd_types.specs.Shape.{compound, shape}
use Rattle.cd_codec.specs.Content.{Content, null, bool, nat, principal, plain, blob, none, some, record_of, variant, Parts, no_part, part}
use Rattle.cd_codec.specs.AreValues.{HasTypes}
use Rattle.cd_codec.specs.Wire.{is_nat8}
use Rattle.cd_codec.specs.Basic.{SpellsCounted}
use Rattle.ic_behaviour.specs.declared.install.Mode.{Mode}
use Rattle.ic_behaviour.specs.declared.install.Mode.TheVariants.{Install, Reinstall, Upgrade}
use Rattle.ic_mgmt_requests.specs.declared.ids.TheConstants.{ARG, REINSTALL, WASM_MODULE, MODE, CANISTER_ID, SKIP_PRE_UPGRADE, UPGRADE, SETTINGS, INSTALL, AMOUNT}
use Rattle.ic_mgmt_candid.specs.Types.{canister_type}
use Rattle.ic_mgmt_candid.specs.Replies.{canister_value}
use Rattle.ic_mgmt_candid.proofs.Typed.{Has, HasParts}
use Rattle.ic_mgmt_requests.specs.Requests.{creation_type, installation_type, amount_value, creation_value, skipping, mode_value, installation_value}

counted : (s : List ℕ) → length s < 2 ^ 128 → SpellsCounted s (unsigned_spelling (length s) ++ s)
counted s few = record { count = unsigned_spelling (length s); whole = refl; counted = unsigned_spelled Candid (length s) few }

module _ (table : List Entry) where
  some_typed : (t u : TyRef) (v : Content) → shape table t ≡ compound (Opt u) → Has table u v → Has table t (some v)
  some_typed t u v e h = (1 ∷ h.0, (u, e, h.0, refl, h.1))

  blob_typed : (t u : TyRef) (s : List ℕ) → shape table t ≡ compound (Seq u) → is_nat8 u ≡ true → length s < 2 ^ 64 → Has table t (blob s)
  blob_typed t u s e byte few = (unsigned_spelling (length s) ++ s, (u, e, byte, counted s (omega (arith, few))))

  case_typed : (t : TyRef) (cases : List (ℕ × TyRef)) (case : ℕ × TyRef) (i : ℕ) (v : Content)
      → shape table t ≡ compound (Var cases) → slice_get cases i ≡ Some case → i < 2 ^ 128 → Has table case.1 v → Has table t (variant i v)
  case_typed t cases case i v e at few h = (unsigned_spelling i ++ h.0, (cases, e, case, at, unsigned_spelling i, h.0, refl, unsigned_spelled Candid i few, h.1))

  principal_typed : (id : List ℕ) → length id ≤ 29 → Has table (Prim P.Principal) (plain (principal id))
  principal_typed id short =
      (1 ∷ (unsigned_spelling (length id) ++ id), (refl, (unsigned_spelling (length id) ++ id, refl, (short, counted id (omega (arith, short))))))

  nothing_typed : HasParts table [] no_part
  nothing_typed = ([], (refl, refl))

  field_typed : (field : ℕ × TyRef) (more : List (ℕ × TyRef)) (v : Content) (ps : Parts) → Has table field.1 v → HasParts table more ps → HasParts table (field ∷ more) (part field.0 v ps)
  field_typed field more v ps first others = (first.0 ++ others.0, (field, more, refl, refl, first.0, others.0, refl, first.1, others.1))

  record_typed : (t : TyRef) (fields : List (ℕ × TyRef)) (ps : Parts) → shape table t ≡ compound (Rec fields) → HasParts table fields ps → Has table t (record_of ps)
  record_typed t fields ps e h = (h.0, (fields, e, h.1))

  one_typed : (t : TyRef) (v : Content) → Has table t v → HasTypes table (t ∷ []) (v ∷ [])
  one_typed t v h = (h.0 ++ [], (t, [], refl, h.0, [], refl, h.1, (refl, refl)))

-- ---- a canister that is made

amount_typed : (cycles : Option ℕ) → IfSome cycles (λ n. n < 2 ^ 128) → Has creation_type.0 (Index 5) (amount_value cycles)
unfolding creation_type
amount_typed None fits = (0 ∷ [], (Prim P.Nat, refl, refl))
amount_typed (Some n) fits = some_typed creation_type.0 (Index 5) (Prim P.Nat) (plain (nat n)) refl (unsigned_spelling n, (refl, unsigned_spelled Candid n fits))

pub creation_typed : (cycles : Option ℕ) → IfSome cycles (λ n. n < 2 ^ 128) → HasTypes creation_type.0 creation_type.1 (creation_value cycles ∷ [])
unfolding creation_type
creation_typed cycles fits =
    let table = creation_type.0 in
    let amount = field_typed table (AMOUNT, Index 5) [] (amount_value cycles) no_part (amount_typed cycles fits) (nothing_typed table) in
    let settings = field_typed table (SETTINGS, Index 1) ((AMOUNT, Index 5) ∷ []) none (part AMOUNT (amount_value cycles) no_part) (0 ∷ [], (Index 2, refl, refl)) amount in
    one_typed table (Index 0) (creation_value cycles)
    (record_typed table (Index 0) ((SETTINGS, Index 1) ∷ (AMOUNT, Index 5) ∷ []) (part SETTINGS none (part AMOUNT (amount_value cycles) no_part)) refl settings)

-- ---- a module that is installed

abbrev modes : List (ℕ × TyRef)
modes = (REINSTALL, Prim P.Null) ∷ (UPGRADE, Index 4) ∷ (INSTALL, Prim P.Null) ∷ []

skips_typed : Has installation_type.0 (Index 5) skipping
unfolding installation_type
skips_typed =
    let table = installation_type.0 in
    let set = some_typed table (Index 6) (Prim P.Bool) (plain (bool true)) refl (1 ∷ [], (refl, refl)) in
    record_typed table (Index 5) ((SKIP_PRE_UPGRADE, Index 6) ∷ []) (part SKIP_PRE_UPGRADE (some (plain (bool true))) no_part) refl
    (field_typed table (SKIP_PRE_UPGRADE, Index 6) [] (some (plain (bool true))) no_part set (nothing_typed table))

mode_typed : (mode : Mode) → Has installation_type.0 (Index 3) (mode_value mode)
unfolding installation_type
mode_typed Reinstall = case_typed installation_type.0 (Index 3) modes (REINSTALL, Prim P.Null) 0 (plain null) refl refl (omega arith) ([], (refl, refl))
mode_typed (Upgrade false) = case_typed installation_type.0 (Index 3) modes (UPGRADE, Index 4) 1 none refl refl (omega arith) (0 ∷ [], (Index 5, refl, refl))
mode_typed (Upgrade true) =
    case_typed installation_type.0 (Index 3) modes (UPGRADE, Index 4) 1 (some skipping) refl refl (omega arith) (some_typed installation_type.0 (Index 4) (Index 5) skipping refl skips_typed)
mode_typed Install = case_typed installation_type.0 (Index 3) modes (INSTALL, Prim P.Null) 2 (plain null) refl refl (omega arith) ([], (refl, refl))

pub installation_typed : (mode : Mode) (canister wasm arg : List ℕ) → length canister ≤ 29 → length wasm < 2 ^ 64 → length arg < 2 ^ 64
    → HasTypes installation_type.0 installation_type.1 (installation_value mode canister wasm arg ∷ [])
unfolding installation_type
installation_typed mode canister wasm arg short few small =
    let table = installation_type.0 in
    let a : ℕ × TyRef = (ARG, Index 1) in
    let w : ℕ × TyRef = (WASM_MODULE, Index 2) in
    let m : ℕ × TyRef = (MODE, Index 3) in
    let c : ℕ × TyRef = (CANISTER_ID, Prim P.Principal) in
    let id = plain (principal canister) in
    let last = field_typed table c [] id no_part (principal_typed table canister short) (nothing_typed table) in
    let two = field_typed table m (c ∷ []) (mode_value mode) (part CANISTER_ID id no_part) (mode_typed mode) last in
    let three = field_typed table w (m ∷ c ∷ []) (blob wasm) (part MODE (mode_value mode) (part CANISTER_ID id no_part)) (blob_typed table (Index 2) (Prim P.Nat8) wasm refl refl few) two in
    let four = field_typed table a (w ∷ m ∷ c ∷ []) (blob arg) (part WASM_MODULE (blob wasm) (part MODE (mode_value mode) (part CANISTER_ID id no_part))) (blob_typed table (Index 1) (Prim P.Nat8) arg refl refl small) three in
    one_typed table (Index 0) (installation_value mode canister wasm arg)
    (record_typed table (Index 0) (a ∷ w ∷ m ∷ c ∷ []) (part ARG (blob arg) (part WASM_MODULE (blob wasm) (part MODE (mode_value mode) (part CANISTER_ID id no_part)))) refl four)

-- ---- a canister that a reply names

pub canister_typed : (id : List ℕ) → length id ≤ 29 → HasTypes canister_type.0 canister_type.1 (canister_value id ∷ [])
unfolding canister_type
canister_typed id short =
    let table = canister_type.0 in
    let field : ℕ × TyRef = (CANISTER_ID, Prim P.Principal) in
    one_typed table (Index 0) (canister_value id)
    (record_typed table (Index 0) (field ∷ []) (part CANISTER_ID (plain (principal id)) no_part) refl
    (field_typed table field [] (plain (principal id)) no_part (principal_typed table id short) (nothing_typed table)))
