-- The values of replies have their types.
use Rattle.std.proofs.Common.{◌≡◌, ℕ, zero, suc, ◌<◌, ◌≤◌, ◌^◌, true, false, List, [], ◌∷◌, ◌++◌, length, map, Option, Some, None, refl, sym, ap, ◌∙◌, subst, arith}
use Rattle.std.specs.Prelude.{slice_get, All}
use Rattle.std.proofs.lemmas.List.Elements.{All-head, All-tail, All-nil, All-push}
use Rattle.ic_leb.specs.declared.width.Width.TheVariants.{Candid}
use Rattle.ic_leb.specs.Spelling.{unsigned_spelling}
use Rattle.ic_leb.proofs.Shortest.{unsigned_spelled}
use Rattle.cd_types.specs.declared.primitive.Primitive.TheVariants as P
use Rattle.cd_types.specs.declared.entry.TyRef.{TyRef}
use Rattle.cd_types.specs.declared.entry.TyRef.TheVariants.{Prim, Index}
use Rattle.cd_types.specs.declared.entry.Entry.{Entry}
use Rattle.cd_types.specs.declared.entry.Entry.TheVariants.{Opt, Seq, Rec, Var}
use Rattle.cd_types.specs.Shape.{Shape, primitive, compound, shape}
use Rattle.cd_codec.specs.Content.{Content, null, plain, principal, nat, blob, none, some, list, record_of, variant, Contents, contents_of, count_of, Parts, no_part, part, parts_of}
use Rattle.cd_codec.specs.AreValues.{HasTypes}
use Rattle.cd_codec.specs.Wire.{is_nat8, WireAll}
use Rattle.cd_codec.specs.Basic.{SpellsCounted}
use Rattle.ic_behaviour.specs.declared.phase.Phase.{Phase}
use Rattle.ic_behaviour.specs.declared.phase.Phase.TheVariants.{Running, Stopping, Stopped}
use Rattle.ic_mgmt_candid.specs.declared.ids.TheConstants.{CANISTER_ID, CONTROLLERS, CYCLES, MEMORY_SIZE, MODULE_HASH, SETTINGS, STATUS, STOPPED, STOPPING, RUNNING}
use Rattle.ic_mgmt_candid.specs.Types.{canister_type, status_type}
use Rattle.ic_mgmt_candid.specs.Replies.{canister_value, principal_value, settings_value, hash_value, phase_case, status_value}
use Rattle.ic_mgmt_candid.proofs.Typed.{Has, HasParts}

-- ---- a value of each form

counted : (s : List ℕ) → length s < 2 ^ 128 → SpellsCounted s (unsigned_spelling (length s) ++ s)
counted s few = record { count = unsigned_spelling (length s); whole = refl; counted = unsigned_spelled Candid (length s) few }

principal_told : (table : List Entry) (t : TyRef) (id : List ℕ) → shape table t ≡ primitive P.Principal → length id ≤ 29 → Has table t (plain (principal id))
principal_told table t id e few = (1 ∷ (unsigned_spelling (length id) ++ id), (e, (unsigned_spelling (length id) ++ id, refl, (few, counted id (omega (arith, few))))))

null_told : (table : List Entry) (t : TyRef) → shape table t ≡ primitive P.Null → Has table t (plain null)
null_told table t e = ([], (e, refl))

nat_told : (table : List Entry) (t : TyRef) (n : ℕ) → shape table t ≡ primitive P.Nat → n < 2 ^ 128 → Has table t (plain (nat n))
nat_told table t n e fits = (unsigned_spelling n, (e, unsigned_spelled Candid n fits))

blob_told : (table : List Entry) (t u : TyRef) (s : List ℕ) → shape table t ≡ compound (Seq u) → is_nat8 u ≡ true → length s < 2 ^ 128 → Has table t (blob s)
blob_told table t u s e byte few = (unsigned_spelling (length s) ++ s, (u, e, byte, counted s few))

none_told : (table : List Entry) (t u : TyRef) → shape table t ≡ compound (Opt u) → Has table t none
none_told table t u e = (0 ∷ [], (u, e, refl))

some_told : (table : List Entry) (t u : TyRef) (v : Content) → shape table t ≡ compound (Opt u) → Has table u v → Has table t (some v)
some_told table t u v e h = (1 ∷ h.0, (u, e, h.0, refl, h.1))

variant_told : (table : List Entry) (t : TyRef) (cases : List (ℕ × TyRef)) (case : ℕ × TyRef) (i : ℕ) (v : Content)
    → shape table t ≡ compound (Var cases) → slice_get cases i ≡ Some case → i < 2 ^ 128 → Has table case.1 v → Has table t (variant i v)
variant_told table t cases case i v e at few h = (unsigned_spelling i ++ h.0, (cases, e, case, at, unsigned_spelling i, h.0, refl, unsigned_spelled Candid i few, h.1))

no_part_told : (table : List Entry) → HasParts table [] no_part
no_part_told table = ([], (refl, refl))

part_told : (table : List Entry) (field : ℕ × TyRef) (more : List (ℕ × TyRef)) (v : Content) (ps : Parts) → Has table field.1 v → HasParts table more ps → HasParts table (field ∷ more) (part field.0 v ps)
part_told table field more v ps first others = (first.0 ++ others.0, (field, more, refl, refl, first.0, others.0, refl, first.1, others.1))

record_told : (table : List Entry) (t : TyRef) (fields : List (ℕ × TyRef)) (ps : Parts) → shape table t ≡ compound (Rec fields) → HasParts table fields ps → Has table t (record_of ps)
record_told table t fields ps e h = (h.0, (fields, e, h.1))

one_told : (table : List Entry) (t : TyRef) (v : Content) → Has table t v → HasTypes table (t ∷ []) (v ∷ [])
one_told table t v h = (h.0 ++ [], (t, [], refl, h.0, [], refl, h.1, (refl, refl)))

-- ---- principals in a list

abbrev pub AreShort : List (List ℕ) → Type 0
AreShort ids = All (λ (id : List ℕ). length id ≤ 29) ids

count_told : (ids : List (List ℕ)) → count_of (contents_of (map principal_value ids)) ≡ length ids
count_told [] = refl
count_told (id ∷ ids) = ap suc (count_told ids)

all_told : (table : List Entry) (u : TyRef) (ids : List (List ℕ)) → shape table u ≡ primitive P.Principal → AreShort ids → (bytes : List ℕ) × WireAll table u (contents_of (map principal_value ids)) bytes
all_told table u [] e short = ([], refl)
all_told table u (id ∷ ids) e short =
    let first = principal_told table u id e (All-head (λ (id : List ℕ). length id ≤ 29) id ids short) in
    let others = all_told table u ids e (All-tail (λ (id : List ℕ). length id ≤ 29) id ids short) in
    (first.0 ++ others.0, (first.0, others.0, refl, first.1, others.1))

list_told : (table : List Entry) (t u : TyRef) (ids : List (List ℕ)) → shape table t ≡ compound (Seq u) → is_nat8 u ≡ false → shape table u ≡ primitive P.Principal
    → length ids < 2 ^ 128 → AreShort ids → Has table t (list (contents_of (map principal_value ids)))
list_told table t u ids e other item few short =
    let all = all_told table u ids item short in
    let vs = contents_of (map principal_value ids) in
    let fits : count_of vs < 2 ^ 128 = subst (λ (n : ℕ). n < 2 ^ 128) (sym (count_told ids)) few in
    (unsigned_spelling (count_of vs) ++ all.0, (u, e, other, unsigned_spelling (count_of vs), all.0, refl, unsigned_spelled Candid (count_of vs) fits, all.1))

-- ---- the replies

pub canister_told : (id : List ℕ) → length id ≤ 29 → HasTypes canister_type.0 canister_type.1 (canister_value id ∷ [])
unfolding canister_type
canister_told id few =
    one_told canister_type.0 (Index 0) (canister_value id) (record_told canister_type.0 (Index 0) ((CANISTER_ID, Prim P.Principal) ∷ []) (part CANISTER_ID (plain (principal id)) no_part) refl
    (part_told canister_type.0 (CANISTER_ID, Prim P.Principal) [] (plain (principal id)) no_part (principal_told canister_type.0 (Prim P.Principal) id refl few) (no_part_told canister_type.0)))

settings_told : (controllers : List (List ℕ)) → length controllers < 2 ^ 128 → AreShort controllers → Has status_type.0 (Index 1) (settings_value controllers)
unfolding status_type
settings_told controllers few short =
    record_told status_type.0 (Index 1) ((CONTROLLERS, Index 0) ∷ []) (part CONTROLLERS (list (contents_of (map principal_value controllers))) no_part) refl
    (part_told status_type.0 (CONTROLLERS, Index 0) [] (list (contents_of (map principal_value controllers))) no_part
    (list_told status_type.0 (Index 0) (Prim P.Principal) controllers refl refl refl few short) (no_part_told status_type.0))

hash_told : (hash : Option (List ℕ)) → ((h : List ℕ) → hash ≡ Some h → length h < 2 ^ 128) → Has status_type.0 (Index 3) (hash_value hash)
unfolding status_type
hash_told None few = none_told status_type.0 (Index 3) (Index 2) refl
hash_told (Some h) few = some_told status_type.0 (Index 3) (Index 2) (blob h) refl (blob_told status_type.0 (Index 2) (Prim P.Nat8) h refl refl (few h refl))

abbrev phases : List (ℕ × TyRef)
phases = (STOPPED, Prim P.Null) ∷ (STOPPING, Prim P.Null) ∷ (RUNNING, Prim P.Null) ∷ []

case_told : (i : ℕ) (case : ℕ × TyRef) → slice_get phases i ≡ Some case → case.1 ≡ Prim P.Null → i < 2 ^ 128 → Has status_type.0 (Index 4) (variant i (plain null))
unfolding status_type
case_told i case at is few = variant_told status_type.0 (Index 4) phases case i (plain null) refl at few (subst (λ (t : TyRef). Has status_type.0 t (plain null)) (sym is) (null_told status_type.0 (Prim P.Null) refl))

phase_told : (phase : Phase) → Has status_type.0 (Index 4) (variant (phase_case phase) (plain null))
phase_told Stopped = case_told 0 (STOPPED, Prim P.Null) refl refl (omega arith)
phase_told (Stopping waiters) = case_told 1 (STOPPING, Prim P.Null) refl refl (omega arith)
phase_told Running = case_told 2 (RUNNING, Prim P.Null) refl refl (omega arith)

-- a message of one record with five fields
five_told : (table : List Entry) (t : TyRef) (a b c d e : ℕ × TyRef) (u v w x y : Content) → shape table t ≡ compound (Rec (a ∷ b ∷ c ∷ d ∷ e ∷ []))
    → Has table a.1 u → Has table b.1 v → Has table c.1 w → Has table d.1 x → Has table e.1 y
    → HasTypes table (t ∷ []) (record_of (part a.0 u (part b.0 v (part c.0 w (part d.0 x (part e.0 y no_part))))) ∷ [])
five_told table t a b c d e u v w x y is first second third fourth fifth =
    let last = part_told table e [] y no_part fifth (no_part_told table) in
    let two = part_told table d (e ∷ []) x (part e.0 y no_part) fourth last in
    let three = part_told table c (d ∷ e ∷ []) w (part d.0 x (part e.0 y no_part)) third two in
    let four = part_told table b (c ∷ d ∷ e ∷ []) v (part c.0 w (part d.0 x (part e.0 y no_part))) second three in
    let five = part_told table a (b ∷ c ∷ d ∷ e ∷ []) u (part b.0 v (part c.0 w (part d.0 x (part e.0 y no_part)))) first four in
    one_told table t (record_of (part a.0 u (part b.0 v (part c.0 w (part d.0 x (part e.0 y no_part))))))
    (record_told table t (a ∷ b ∷ c ∷ d ∷ e ∷ []) (part a.0 u (part b.0 v (part c.0 w (part d.0 x (part e.0 y no_part))))) is five)

pub status_told : (phase : Phase) (controllers : List (List ℕ)) (hash : Option (List ℕ)) (memory cycles : ℕ)
    → length controllers < 2 ^ 128 → AreShort controllers → ((h : List ℕ) → hash ≡ Some h → length h < 2 ^ 128) → memory < 2 ^ 128 → cycles < 2 ^ 128
    → HasTypes status_type.0 status_type.1 (status_value phase controllers hash memory cycles ∷ [])
unfolding status_type
status_told phase controllers hash memory cycles few short small fits_memory fits_cycles =
    five_told status_type.0 (Index 5) (STATUS, Index 4) (MEMORY_SIZE, Prim P.Nat) (CYCLES, Prim P.Nat) (SETTINGS, Index 1) (MODULE_HASH, Index 3)
    (variant (phase_case phase) (plain null)) (plain (nat memory)) (plain (nat cycles)) (settings_value controllers) (hash_value hash) refl
    (phase_told phase) (nat_told status_type.0 (Prim P.Nat) memory refl fits_memory) (nat_told status_type.0 (Prim P.Nat) cycles refl fits_cycles)
    (settings_told controllers few short) (hash_told hash small)

pub typed_by : (table table' : List Entry) (types types' : List TyRef) (vs vs' : List Content) → table ≡ table' → types ≡ types' → vs ≡ vs' → HasTypes table' types' vs' → HasTypes table types vs
typed_by table table' types types' vs vs' e f g h = rw e (rw f (rw g h))
