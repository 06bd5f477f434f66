-- Values of the types of arguments give what the methods demand.
use Rattle.std.proofs.Common.{◌≡◌, ◌⊎◌, inl, inr, ℕ, zero, suc, Bool, true, false, List, [], ◌∷◌, Option, Some, None, IsTrue, refl, sym, ◌∙◌, ap, subst, arith}
use Rattle.std.specs.Prelude.{slice_get, option_map, Result, Ok, Err}
use Rattle.std.specs.Result.{result_ok}
use Rattle.ic_base.specs.Reader.{◌>>=◌}
use Rattle.cd_types.specs.declared.primitive.Primitive.TheVariants as P
use Rattle.cd_types.specs.declared.entry.TyRef.{TyRef}
use Rattle.cd_types.specs.declared.entry.TyRef.TheVariants.{Prim, Index}
use Rattle.cd_types.specs.declared.entry.Entry.{Entry}
use Rattle.cd_types.specs.declared.entry.Entry.TheVariants.{Opt, Seq, Rec}
use Rattle.cd_types.specs.Shape.{primitive, compound, shape}
use Rattle.cd_types.specs.IsTable.{is_table}
use Rattle.cd_codec.specs.Content.{Content, none, some, record_of, variant, Parts, no_part, part}
use Rattle.cd_codec.specs.AreValues.{HasTypes}
use Rattle.cd_codec.specs.Wire.{is_nat8}
use Rattle.cd_coerce.specs.declared.fault.DidlFault.{DidlFault}
use Rattle.cd_coerce.specs.Decoded.{decoded}
use Rattle.ic_behaviour.specs.declared.install.Mode.{Mode}
use Rattle.ic_behaviour.specs.declared.install.Mode.TheVariants as mode
use Rattle.ic_mgmt_candid.specs.declared.method.Method.{Method}
use Rattle.ic_mgmt_candid.specs.declared.method.Method.TheVariants as method
use Rattle.ic_mgmt_candid.specs.declared.demand.Demand.{Demand}
use Rattle.ic_mgmt_candid.specs.declared.demand.Demand.TheVariants as demand
use Rattle.ic_mgmt_candid.specs.declared.demand.InstallCode.{InstallCode}
use Rattle.ic_mgmt_candid.specs.declared.ids.TheConstants.{ARG, AMOUNT, CANISTER_ID, CONTROLLERS, MODE, SETTINGS, SKIP_PRE_UPGRADE, WASM_MODULE, REINSTALL, UPGRADE, INSTALL}
use Rattle.ic_mgmt_candid.specs.Types.{Types, canister_type, create_type, provisional_create_type, top_up_type, update_type, install_type}
use Rattle.ic_mgmt_candid.specs.Picks.{only_field, only_two, one_field, two_fields, four_fields, as_principal, as_nat, as_bytes, as_bool}
use Rattle.ic_mgmt_candid.specs.Demands.{canister_id, optional_amount, principals, controllers_of, optional_settings, flag, skips, mode_at, mode_in, create, provisional_create, top_up, update, install, type_of, picked, argument, demand_of}
use Rattle.ic_mgmt_candid.proofs.Typed.{Has, HasParts, IsOpt, is_bool, is_nat, is_principal, is_opt, is_blob, are_principals, is_record, is_variant, first_part, no_more, only_value}

-- there is a value
abbrev pub Given : {A : Type 0} → Option A → Type 0
Given {A} o = (x : A) × (o ≡ Some x)

mapped : {A B : Type 0} → (f : A → B) → (o : Option A) → Given o → Given (option_map f o)
mapped f o (x, e) = (f x, ap (option_map f) e)

-- the one field of a record, its two and its four
one : (table : List Entry) (t : TyRef) (field : ℕ × TyRef) (v : Content) → shape table t ≡ compound (Rec (field ∷ [])) → Has table t v → (w : Content) × (one_field v ≡ Some w) × Has table field.1 w
one table t field v e h =
    let r = is_record table t (field ∷ []) v e h in
    let p = first_part table field [] r.0 r.2 in
    let all : v ≡ record_of (part field.0 p.0 no_part) = r.1 ∙ ap record_of (p.2 ∙ ap (part field.0 p.0) (no_more table p.1 p.4)) in
    (p.0, ap one_field all, p.3)

two : (table : List Entry) (t : TyRef) (a b : ℕ × TyRef) (v : Content) → shape table t ≡ compound (Rec (a ∷ b ∷ [])) → Has table t v
    → (w x : Content) × (two_fields v ≡ Some (w, x)) × Has table a.1 w × Has table b.1 x
two table t a b v e h =
    let r = is_record table t (a ∷ b ∷ []) v e h in
    let p = first_part table a (b ∷ []) r.0 r.2 in
    let q = first_part table b [] p.1 p.4 in
    let all : v ≡ record_of (part a.0 p.0 (part b.0 q.0 no_part)) =
    r.1 ∙ ap record_of (p.2 ∙ ap (part a.0 p.0) (q.2 ∙ ap (part b.0 q.0) (no_more table q.1 q.4))) in
    (p.0, q.0, ap two_fields all, p.3, q.3)

four : (table : List Entry) (t : TyRef) (a b c d : ℕ × TyRef) (v : Content) → shape table t ≡ compound (Rec (a ∷ b ∷ c ∷ d ∷ [])) → Has table t v
    → (w x y z : Content) × (four_fields v ≡ Some (w, x, y, z)) × Has table a.1 w × Has table b.1 x × Has table c.1 y × Has table d.1 z
four table t a b c d v e h =
    let r = is_record table t (a ∷ b ∷ c ∷ d ∷ []) v e h in
    let p = first_part table a (b ∷ c ∷ d ∷ []) r.0 r.2 in
    let q = first_part table b (c ∷ d ∷ []) p.1 p.4 in
    let s = first_part table c (d ∷ []) q.1 q.4 in
    let u = first_part table d [] s.1 s.4 in
    let all : v ≡ record_of (part a.0 p.0 (part b.0 q.0 (part c.0 s.0 (part d.0 u.0 no_part)))) =
    r.1 ∙ ap record_of (p.2 ∙ ap (part a.0 p.0) (q.2 ∙ ap (part b.0 q.0) (s.2 ∙ ap (part c.0 s.0) (u.2 ∙ ap (part d.0 u.0) (no_more table u.1 u.4))))) in
    (p.0, q.0, s.0, u.0, ap four_fields all, p.3, q.3, s.3, u.3)

-- the fields of the one value of a message
only_is : (values : List Content) (v w : Content) → values ≡ v ∷ [] → one_field v ≡ Some w → only_field values ≡ Some w
only_is values v w e f = ap only_field e ∙ f

two_are : (values : List Content) (v : Content) (w : Content × Content) → values ≡ v ∷ [] → two_fields v ≡ Some w → only_two values ≡ Some w
two_are values v w e f = ap only_two e ∙ f

-- ---- arguments that name a canister

canister_given : (values : List Content) → HasTypes canister_type.0 canister_type.1 values → Given (canister_id values)
unfolding canister_type
canister_given values (bytes, w) =
    let v = only_value canister_type.0 (Index 0) values bytes w in
    let field = one canister_type.0 (Index 0) (CANISTER_ID, Prim P.Principal) v.0 refl v.2 in
    let id = is_principal canister_type.0 (Prim P.Principal) field.0 refl field.2 in
    (id.0, ap canister_id v.1 ∙ ap (λ (o : Option Content). o >>= as_principal) field.1 ∙ id.1)

-- ---- settings and amounts

amount_given : (table : List Entry) (v : Content) → IsOpt table (Prim P.Nat) v → Given (optional_amount v)
amount_given table v (inl e) = (None, ap optional_amount e)
amount_given table v (inr (w, e, h)) = let n = is_nat table (Prim P.Nat) w refl h in (Some n.0, ap optional_amount e ∙ ap (option_map Some) n.1)

controllers_in_given : (table : List Entry) (ids : TyRef) (settings v : Content) → shape table ids ≡ compound (Seq (Prim P.Principal)) → one_field settings ≡ Some v → IsOpt table ids v → Given (controllers_of settings)
controllers_in_given table ids settings v e f (inl none') = (None, rw f (rw none' refl))
controllers_in_given table ids settings v e f (inr (w, some', h)) =
    let read = are_principals table ids (Prim P.Principal) w e refl refl h in
    (Some read.0, rw f (rw some' (ap (option_map Some) read.1)))

controllers_given : (table : List Entry) (settings optional ids : TyRef) (v : Content)
    → shape table settings ≡ compound (Rec ((CONTROLLERS, optional) ∷ [])) → shape table optional ≡ compound (Opt ids) → shape table ids ≡ compound (Seq (Prim P.Principal))
    → Has table settings v → Given (controllers_of v)
controllers_given table settings optional ids v is_settings is_optional are_ids h =
    let field = one table settings (CONTROLLERS, optional) v is_settings h in
    controllers_in_given table ids v field.0 are_ids field.1 (is_opt table optional ids field.0 is_optional field.2)

settings_given : (table : List Entry) (settings optional ids : TyRef) (v : Content)
    → shape table settings ≡ compound (Rec ((CONTROLLERS, optional) ∷ [])) → shape table optional ≡ compound (Opt ids) → shape table ids ≡ compound (Seq (Prim P.Principal))
    → IsOpt table settings v → Given (optional_settings v)
settings_given table settings optional ids v is_settings is_optional are_ids (inl e) = (None, ap optional_settings e)
settings_given table settings optional ids v is_settings is_optional are_ids (inr (w, e, h)) =
    let read = controllers_given table settings optional ids w is_settings is_optional are_ids h in
    (read.0, ap optional_settings e ∙ read.1)

created : (values : List Content) (settings : Content) (controllers : Option (List (List ℕ))) → only_field values ≡ Some settings → optional_settings settings ≡ Some controllers → create values ≡ Some (demand.CreateCanister controllers)
created values settings controllers e f = rw e (rw f refl)

create_given : (values : List Content) → HasTypes create_type.0 create_type.1 values → Given (create values)
unfolding create_type
create_given values (bytes, w) =
    let v = only_value create_type.0 (Index 4) values bytes w in
    let field = one create_type.0 (Index 4) (SETTINGS, Index 3) v.0 refl v.2 in
    let read = settings_given create_type.0 (Index 2) (Index 1) (Index 0) field.0 refl refl refl (is_opt create_type.0 (Index 3) (Index 2) field.0 refl field.2) in
    (demand.CreateCanister read.0, created values field.0 read.0 (only_is values v.0 field.0 v.1 field.1) read.1)

created_with : (values : List Content) (settings amount : Content) (controllers : Option (List (List ℕ))) (cycles : Option ℕ) → only_two values ≡ Some (settings, amount)
    → optional_amount amount ≡ Some cycles → optional_settings settings ≡ Some controllers → provisional_create values ≡ Some (demand.ProvisionalCreateCanisterWithCycles cycles controllers)
created_with values settings amount controllers cycles e f g = rw e (rw f (rw g refl))

provisional_create_given : (values : List Content) → HasTypes provisional_create_type.0 provisional_create_type.1 values → Given (provisional_create values)
unfolding provisional_create_type
provisional_create_given values (bytes, w) =
    let v = only_value provisional_create_type.0 (Index 5) values bytes w in
    let fields = two provisional_create_type.0 (Index 5) (SETTINGS, Index 3) (AMOUNT, Index 4) v.0 refl v.2 in
    let read = settings_given provisional_create_type.0 (Index 2) (Index 1) (Index 0) fields.0 refl refl refl (is_opt provisional_create_type.0 (Index 3) (Index 2) fields.0 refl fields.3) in
    let amount = amount_given provisional_create_type.0 fields.1 (is_opt provisional_create_type.0 (Index 4) (Prim P.Nat) fields.1 refl fields.4) in
    (demand.ProvisionalCreateCanisterWithCycles amount.0 read.0, created_with values fields.0 fields.1 read.0 amount.0 (two_are values v.0 (fields.0, fields.1) v.1 fields.2) amount.1 read.1)

topped_up : (values : List Content) (id amount : Content) (canister_id : List ℕ) (cycles : ℕ) → only_two values ≡ Some (id, amount)
    → as_principal id ≡ Some canister_id → as_nat amount ≡ Some cycles → top_up values ≡ Some (demand.ProvisionalTopUpCanister canister_id cycles)
topped_up values id amount canister_id cycles e f g = rw e (rw f (rw g refl))

top_up_given : (values : List Content) → HasTypes top_up_type.0 top_up_type.1 values → Given (top_up values)
unfolding top_up_type
top_up_given values (bytes, w) =
    let v = only_value top_up_type.0 (Index 0) values bytes w in
    let fields = two top_up_type.0 (Index 0) (CANISTER_ID, Prim P.Principal) (AMOUNT, Prim P.Nat) v.0 refl v.2 in
    let id = is_principal top_up_type.0 (Prim P.Principal) fields.0 refl fields.3 in
    let amount = is_nat top_up_type.0 (Prim P.Nat) fields.1 refl fields.4 in
    (demand.ProvisionalTopUpCanister id.0 amount.0, topped_up values fields.0 fields.1 id.0 amount.0 (two_are values v.0 (fields.0, fields.1) v.1 fields.2) id.1 amount.1)

updated : (values : List Content) (id settings : Content) (canister_id : List ℕ) (controllers : Option (List (List ℕ))) → only_two values ≡ Some (id, settings)
    → as_principal id ≡ Some canister_id → controllers_of settings ≡ Some controllers → update values ≡ Some (demand.UpdateSettings canister_id controllers)
updated values id settings canister_id controllers e f g = rw e (rw f (rw g refl))

update_given : (values : List Content) → HasTypes update_type.0 update_type.1 values → Given (update values)
unfolding update_type
update_given values (bytes, w) =
    let v = only_value update_type.0 (Index 3) values bytes w in
    let fields = two update_type.0 (Index 3) (CANISTER_ID, Prim P.Principal) (SETTINGS, Index 2) v.0 refl v.2 in
    let id = is_principal update_type.0 (Prim P.Principal) fields.0 refl fields.3 in
    let read = controllers_given update_type.0 (Index 2) (Index 1) (Index 0) fields.1 refl refl refl fields.4 in
    (demand.UpdateSettings id.0 read.0, updated values fields.0 fields.1 id.0 read.0 (two_are values v.0 (fields.0, fields.1) v.1 fields.2) id.1 read.1)

-- ---- install_code

flag_given : (v : Content) → IsOpt install_type.0 (Prim P.Bool) v → Given (flag v)
flag_given v (inl e) = (false, ap flag e)
flag_given v (inr (w, e, h)) = let b = is_bool install_type.0 (Prim P.Bool) w refl h in (b.0, ap flag e ∙ b.1)

skips_given : (v : Content) → IsOpt install_type.0 (Index 1) v → Given (skips v)
unfolding install_type
skips_given v (inl e) = (false, ap skips e)
skips_given v (inr (w, e, h)) =
    let field = one install_type.0 (Index 1) (SKIP_PRE_UPGRADE, Index 0) w refl h in
    let b = flag_given field.0 (is_opt install_type.0 (Index 0) (Prim P.Bool) field.0 refl field.2) in
    (b.0, ap skips e ∙ ap (λ (o : Option Content). o >>= flag) field.1 ∙ b.1)

-- the cases of the mode
abbrev cases : List (ℕ × TyRef)
cases = (REINSTALL, Prim P.Null) ∷ (UPGRADE, Index 2) ∷ (INSTALL, Prim P.Null) ∷ []

mode_at_given : (i : ℕ) (w : Content) (case : ℕ × TyRef) → slice_get cases i ≡ Some case → Has install_type.0 case.1 w → Given (mode_at i w)
unfolding install_type
mode_at_given zero w case at h = (mode.Reinstall, refl)
mode_at_given (suc zero) w case at h =
    let k : Some (UPGRADE, Index 2) ≡ Some case = at in
    let same : case ≡ (UPGRADE, Index 2) = cc in
    let upgrade = subst (λ (c : ℕ × TyRef). Has install_type.0 c.1 w) same h in
    let s = skips_given w (is_opt install_type.0 (Index 2) (Index 1) w refl upgrade) in
    (mode.Upgrade s.0, ap (option_map mode.Upgrade) s.1)
mode_at_given (suc (suc zero)) w case at h = (mode.Install, refl)
mode_at_given (suc (suc (suc n))) w case at h = absurd (let k : None ≡ Some case = at in cc)

mode_given : (v : Content) → Has install_type.0 (Index 3) v → Given (mode_in v)
unfolding install_type
mode_given v h =
    let x = is_variant install_type.0 (Index 3) cases v refl h in
    let m = mode_at_given x.0 x.1 x.3 x.4 x.5 in
    (m.0, ap mode_in x.2 ∙ m.1)

-- once its fields are read
made : (arg module' mode id : Content) (a m : List ℕ) (o : Mode) (i : List ℕ) (values : List Content) (v : Content) → values ≡ v ∷ [] → four_fields v ≡ Some (arg, module', mode, id)
    → as_bytes arg ≡ Some a → as_bytes module' ≡ Some m → mode_in mode ≡ Some o → as_principal id ≡ Some i
    → install values ≡ Some (record { mode = o; canister_id = i; wasm_module = m; arg = a })
made arg module' mode id a m o i values v e f ea em eo ei = rw e (rw f (rw ea (rw em (rw eo (rw ei refl)))))

install_given : (values : List Content) → HasTypes install_type.0 install_type.1 values → Given (install values)
unfolding install_type
install_given values (bytes, w) =
    let v = only_value install_type.0 (Index 5) values bytes w in
    let f = four install_type.0 (Index 5) (ARG, Index 4) (WASM_MODULE, Index 4) (MODE, Index 3) (CANISTER_ID, Prim P.Principal) v.0 refl v.2 in
    let arg = is_blob install_type.0 (Index 4) (Prim P.Nat8) f.0 refl refl f.5 in
    let bytes = is_blob install_type.0 (Index 4) (Prim P.Nat8) f.1 refl refl f.6 in
    let mode = mode_given f.2 f.7 in
    let id = is_principal install_type.0 (Prim P.Principal) f.3 refl f.8 in (
      record { mode = mode.0; canister_id = id.0; wasm_module = bytes.0; arg = arg.0 },
      made f.0 f.1 f.2 f.3 arg.0 bytes.0 mode.0 id.0 values v.0 v.1 f.4 arg.1 bytes.1 mode.1 id.1,
    )

-- ---- methods

pub picked_given : (m : Method) (values : List Content) → HasTypes (type_of m).0 (type_of m).1 values → Given (picked m values)
picked_given method.CreateCanister values h = create_given values h
picked_given method.ProvisionalCreateCanisterWithCycles values h = provisional_create_given values h
picked_given method.ProvisionalTopUpCanister values h = top_up_given values h
picked_given method.DepositCycles values h = mapped demand.DepositCycles (canister_id values) (canister_given values h)
picked_given method.UpdateSettings values h = update_given values h
picked_given method.InstallCode values h = mapped demand.InstallCode (install values) (install_given values h)
picked_given method.UninstallCode values h = mapped demand.UninstallCode (canister_id values) (canister_given values h)
picked_given method.StartCanister values h = mapped demand.StartCanister (canister_id values) (canister_given values h)
picked_given method.StopCanister values h = mapped demand.StopCanister (canister_id values) (canister_given values h)
picked_given method.DeleteCanister values h = mapped demand.DeleteCanister (canister_id values) (canister_given values h)
picked_given method.CanisterStatus values h = mapped demand.CanisterStatus (canister_id values) (canister_given values h)

pub is_table_of : (m : Method) → IsTrue (is_table (type_of m).0)
unfolding canister_type create_type provisional_create_type top_up_type update_type install_type
is_table_of method.CreateCanister = refl
is_table_of method.ProvisionalCreateCanisterWithCycles = refl
is_table_of method.ProvisionalTopUpCanister = refl
is_table_of method.DepositCycles = refl
is_table_of method.UpdateSettings = refl
is_table_of method.InstallCode = refl
is_table_of method.UninstallCode = refl
is_table_of method.StartCanister = refl
is_table_of method.StopCanister = refl
is_table_of method.DeleteCanister = refl
is_table_of method.CanisterStatus = refl

-- what an argument demands, where it decodes
pub given_from : (m : Method) (bytes : List ℕ) (values : List Content) → HasTypes (type_of m).0 (type_of m).1 values → decoded (type_of m) bytes ≡ Ok values
    → (d : Demand) × (picked m values ≡ Some d) × (demand_of m bytes ≡ Some d)
unfolding demand_of
given_from m bytes values typed e =
    let g = picked_given m values typed in
    (g.0, g.1, ap (λ (r : Result (List Content) DidlFault). result_ok r >>= picked m) e ∙ g.1)

-- nothing, where it does not
none_at : (m : Method) (r : Result (List Content) DidlFault) → ((values : List Content) → r ≡ Ok values → ⊥) → (result_ok r >>= picked m) ≡ None
none_at m (Ok values) h = absurd (h values refl)
none_at m (Err fault) h = refl

pub none_from : (m : Method) (bytes : List ℕ) → ((values : List Content) → decoded (type_of m) bytes ≡ Ok values → ⊥) → demand_of m bytes ≡ None
unfolding demand_of
none_from m bytes h = none_at m (decoded (type_of m) bytes) h
