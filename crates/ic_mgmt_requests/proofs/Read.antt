-- What a request says is what the management canister reads in it.
use Rattle.std.proofs.Common.{◌≡◌, ℕ, zero, suc, ◌<◌, ◌≤◌, ◌^◌, true, false, List, [], ◌∷◌, length, Option, Some, None, refl, ap, ◌∙◌, subst, inl, inr, arith}
use Rattle.std.specs.Prelude.{◌↔◌, slice_get, IfSome, IsTrue, Ok}
use Rattle.std.specs.Result.{result_ok}
use Rattle.std.specs.List.{flat_map}
use Rattle.std.proofs.lemmas.Bool.{ltb-true}
use Rattle.ic_base.specs.Reader.{◌>>=◌}
use Rattle.ic_base.proofs.Steps.{some_is}
use Rattle.ic_leb.specs.Spelling.{unsigned_spelling, signed_spelling, seven_bits_each}
use Rattle.cd_types.specs.declared.primitive.Primitive.TheVariants as P
use Rattle.cd_types.specs.declared.entry.TyRef.{TyRef}
use Rattle.cd_types.specs.declared.entry.TyRef.TheVariants.{Prim, Index}
use Rattle.cd_types.specs.declared.entry.Entry.{Entry}
use Rattle.cd_types.specs.IsTable.{is_table}
use Rattle.cd_sub.specs.Below.{below}
use Rattle.cd_sub.specs.Sub.{Sub}
use Rattle.cd_codec.specs.Content.{Content, null, bool, nat, principal, plain, blob, none, some, Parts, no_part, part}
use Rattle.cd_codec.specs.IsHeader.{are_inside}
use Rattle.cd_codec.specs.AreValues.{HasTypes}
use Rattle.cd_codec.specs.Measure.{nesting_each, number_each}
use Rattle.cd_codec.specs.Spelling.{spelling}
use Rattle.cd_codec.specs.HeaderSpelling.{header_spelling}
use Rattle.cd_codec.specs.Message.{message_spelling}
use Rattle.cd_codec.proofs.HeaderSpelled.{Few, header_spelled}
use Rattle.cd_codec.proofs.ValueSpelled.{each_spelled}
use Rattle.cd_coerce.specs.Coerce.{IsReadAs}
use Rattle.cd_coerce.specs.Decodes.{IsArgument, Decodes}
use Rattle.cd_coerce.specs.Decoded.{decoded}
use Rattle.ic_behaviour.specs.declared.install.Mode.{Mode}
use Rattle.ic_behaviour.specs.declared.install.Mode.TheVariants.{Install, Reinstall, Upgrade}
use Rattle.ic_mgmt_candid.specs.declared.method.Method.{Method}
use Rattle.ic_mgmt_candid.specs.declared.method.Method.TheVariants as methods
use Rattle.ic_mgmt_candid.specs.declared.demand.Demand.{Demand}
use Rattle.ic_mgmt_candid.specs.declared.demand.Demand.TheVariants as demands
use Rattle.ic_mgmt_candid.specs.Types.{Types, canister_type, provisional_create_type, install_type}
use Rattle.ic_mgmt_candid.specs.Demands.{type_of, picked, argument, canister_id, demand_of}
use Rattle.ic_mgmt_candid.specs.Replies.{canister_value, canister_reply}
use Rattle.ic_mgmt_requests.specs.declared.ids.TheConstants.{ARG, REINSTALL, WASM_MODULE, MODE, CANISTER_ID, SKIP_PRE_UPGRADE, UPGRADE, SETTINGS, INSTALL, AMOUNT}
use Rattle.ic_mgmt_requests.specs.Requests.{creation_type, creation_argument, installation_type, installation_argument, amount_value, creation_value, skipping, mode_value, installation_value, canister_named}
use Rattle.ic_mgmt_requests.proofs.Typed.{creation_typed, installation_typed, canister_typed}

-- a test decides subtyping, and a function gives what bytes decode to: laws of crates below
abbrev pub Decided : Type 0
Decided = (first second : List Entry) (a b : TyRef) → IsTrue (below first a second b) ↔ Sub first a second b

abbrev pub OneAnswer : Type 0
OneAnswer = (expected : Types) (bytes : List ℕ) (values : List Content) → (decoded expected bytes ≡ Ok values) ↔ Decodes expected bytes values

-- ---- a message of one argument

record IsReadAt (wire : List Entry) (t : TyRef) (expected : List Entry) (u : TyRef) (value : Content) : Type 0 where
  below : Sub wire t expected u
  read : IsReadAs wire expected t value u value

record IsWritten (wire : List Entry) (t : TyRef) (value : Content) : Type 0 where
  well_formed : is_table wire ≡ true
  inside : are_inside (length wire) (t ∷ []) ≡ true
  few : Few (header_spelling wire (t ∷ []))
  typed : HasTypes wire (t ∷ []) (value ∷ [])
  deep : nesting_each (value ∷ []) ≤ 128
  many : number_each (value ∷ []) ≤ 1000000

module _ (wire : List Entry) (t : TyRef) (expected : List Entry) (u : TyRef) (value : Content) where
  the_argument : IsReadAt wire t expected u value → (i : ℕ) (v : TyRef) (r : Content) → slice_get (u ∷ []) i ≡ Some v → slice_get (value ∷ []) i ≡ Some r
      → IsArgument wire expected (slice_get (t ∷ []) i) (slice_get (value ∷ []) i) v r
  the_argument is zero v r e f =
      subst (λ (x : TyRef). Sub wire t expected x × IsReadAs wire expected t value x r) (some_is u v e)
      (subst (λ (y : Content). Sub wire t expected u × IsReadAs wire expected t value u y) (some_is value r f) (is.below, is.read))
  the_argument is (suc i) v r e f = absurd cc

  one_decoded : IsWritten wire t value → IsReadAt wire t expected u value → Decodes (expected, u ∷ []) (message_spelling wire (t ∷ []) (value ∷ [])) (value ∷ [])
  one_decoded written is = record {
    headed = record {
      table = wire;
      types = t ∷ [];
      front = header_spelling wire (t ∷ []);
      rest = flat_map spelling (value ∷ []);
      whole = refl;
      header = header_spelled wire (t ∷ []) written.well_formed (omega arith) written.inside written.few;
    };
    values = value ∷ [];
    spelled = record { spelled = each_spelled (value ∷ []) wire (t ∷ []) written.typed.0 written.typed.1; deep = written.deep; many = written.many };
    many = refl;
    each = the_argument is;
  }

-- what bytes decode to is read, and what is picked from it is demanded
is_read : OneAnswer → (expected : Types) (bytes : List ℕ) (values : List Content) → Decodes expected bytes values → argument expected bytes ≡ Some values
is_read one expected bytes values decodes = ap result_ok ((one expected bytes values).1 decodes)

demanded : OneAnswer → (method : Method) (bytes : List ℕ) (values : List Content) (demand : Demand) → Decodes (type_of method) bytes values → picked method values ≡ Some demand → demand_of method bytes ≡ Some demand
unfolding demand_of
demanded one method bytes values demand decodes is = ap (λ (found : Option (List Content)). found >>= picked method) (is_read one (type_of method) bytes values decodes) ∙ is

-- ---- a canister that is made

creation_few : Few (header_spelling creation_type.0 creation_type.1)
unfolding creation_type unsigned_spelling signed_spelling seven_bits_each
creation_few = ltb-true _ _ refl

module _ (decided : Decided) where
  amount_read : (cycles : Option ℕ) → IsReadAs creation_type.0 provisional_create_type.0 (Index 5) (amount_value cycles) (Index 4) (amount_value cycles)
  unfolding creation_type provisional_create_type below
  amount_read None = (Prim P.Nat, refl, inr (inr (inl refl)))
  amount_read (Some n) =
      (Prim P.Nat, refl, inl (Prim P.Nat, plain (nat n), refl, refl, (decided creation_type.0 provisional_create_type.0 (Prim P.Nat) (Prim P.Nat)).0 refl, inr (inl (refl, refl))))

  creation_read : (cycles : Option ℕ) → IsReadAt creation_type.0 (Index 0) provisional_create_type.0 (Index 5) (creation_value cycles)
  unfolding creation_type provisional_create_type below
  creation_read cycles =
      let fields : Parts = part SETTINGS none (part AMOUNT (amount_value cycles) no_part) in
      let none_read : IsReadAs creation_type.0 provisional_create_type.0 (Index 1) none (Index 3) none = (Index 2, refl, inr (inr (inl refl))) in
      record {
        below = (decided creation_type.0 provisional_create_type.0 (Index 0) (Index 5)).0 refl;
        read = (
          (SETTINGS, Index 1) ∷ (AMOUNT, Index 5) ∷ [],
          (SETTINGS, Index 3) ∷ (AMOUNT, Index 4) ∷ [],
          refl,
          refl,
          fields,
          refl,
          (
            Index 3,
            (AMOUNT, Index 4) ∷ [],
            refl,
            inl ((Index 1, none), refl, none_read),
            (Index 4, [], refl, inl ((Index 5, amount_value cycles), refl, amount_read cycles), refl),
          ),
        );
      }

pub creation_demanded : Decided → OneAnswer → (cycles : Option ℕ) → IfSome cycles (λ n. n < 2 ^ 128)
    → demand_of methods.ProvisionalCreateCanisterWithCycles (creation_argument cycles) ≡ Some (demands.ProvisionalCreateCanisterWithCycles cycles None)
unfolding creation_type creation_argument provisional_create_type
creation_demanded decided one cycles fits =
    demanded one methods.ProvisionalCreateCanisterWithCycles (creation_argument cycles) (creation_value cycles ∷ []) (demands.ProvisionalCreateCanisterWithCycles cycles None)
    (one_decoded creation_type.0 (Index 0) provisional_create_type.0 (Index 5) (creation_value cycles) (written cycles fits) (creation_read decided cycles)) (picks cycles)
  where
    written : (cycles : Option ℕ) → IfSome cycles (λ n. n < 2 ^ 128) → IsWritten creation_type.0 (Index 0) (creation_value cycles)
    written None fits = record { well_formed = refl; inside = refl; few = creation_few; typed = creation_typed None fits; deep = omega arith; many = omega arith }
    written (Some n) fits = record { well_formed = refl; inside = refl; few = creation_few; typed = creation_typed (Some n) fits; deep = omega arith; many = omega arith }

    picks : (cycles : Option ℕ) → picked methods.ProvisionalCreateCanisterWithCycles (creation_value cycles ∷ []) ≡ Some (demands.ProvisionalCreateCanisterWithCycles cycles None)
    picks None = refl
    picks (Some n) = refl

-- ---- a module that is installed

installation_few : Few (header_spelling installation_type.0 installation_type.1)
unfolding installation_type unsigned_spelling signed_spelling seven_bits_each
installation_few = ltb-true _ _ refl

abbrev wire_modes : List (ℕ × TyRef)
wire_modes = (REINSTALL, Prim P.Null) ∷ (UPGRADE, Index 4) ∷ (INSTALL, Prim P.Null) ∷ []

abbrev read_modes : List (ℕ × TyRef)
read_modes = (REINSTALL, Prim P.Null) ∷ (UPGRADE, Index 2) ∷ (INSTALL, Prim P.Null) ∷ []

module _ (decided : Decided) where
  skips_read : IsReadAs installation_type.0 install_type.0 (Index 5) skipping (Index 1) skipping
  unfolding installation_type install_type below
  skips_read =
      let set : IsReadAs installation_type.0 install_type.0 (Index 6) (some (plain (bool true))) (Index 0) (some (plain (bool true))) =
      (Prim P.Bool, refl, inl (Prim P.Bool, plain (bool true), refl, refl, (decided installation_type.0 install_type.0 (Prim P.Bool) (Prim P.Bool)).0 refl, inr (inl (refl, refl)))) in (
        (SKIP_PRE_UPGRADE, Index 6) ∷ [],
        (SKIP_PRE_UPGRADE, Index 0) ∷ [],
        refl,
        refl,
        part SKIP_PRE_UPGRADE (some (plain (bool true))) no_part,
        refl,
        (Index 0, [], refl, inl ((Index 6, some (plain (bool true))), refl, set), refl),
      )

  mode_read : (mode : Mode) → IsReadAs installation_type.0 install_type.0 (Index 3) (mode_value mode) (Index 3) (mode_value mode)
  unfolding installation_type install_type below
  mode_read Reinstall = (wire_modes, read_modes, refl, refl, 0, plain null, refl, (REINSTALL, Prim P.Null), refl, Prim P.Null, refl, inr (inl (refl, refl)))
  mode_read (Upgrade false) = (wire_modes, read_modes, refl, refl, 1, none, refl, (UPGRADE, Index 4), refl, Index 2, refl, (Index 1, refl, inr (inr (inl refl))))
  mode_read (Upgrade true) =
      let skipped : IsReadAs installation_type.0 install_type.0 (Index 4) (some skipping) (Index 2) (some skipping) =
      (Index 1, refl, inl (Index 5, skipping, refl, refl, (decided installation_type.0 install_type.0 (Index 5) (Index 1)).0 refl, skips_read)) in
      (wire_modes, read_modes, refl, refl, 1, some skipping, refl, (UPGRADE, Index 4), refl, Index 2, refl, skipped)
  mode_read Install = (wire_modes, read_modes, refl, refl, 2, plain null, refl, (INSTALL, Prim P.Null), refl, Prim P.Null, refl, inr (inl (refl, refl)))

  installation_read : (mode : Mode) (canister wasm arg : List ℕ) → IsReadAt installation_type.0 (Index 0) install_type.0 (Index 5) (installation_value mode canister wasm arg)
  unfolding installation_type install_type below
  installation_read mode canister wasm arg =
      let id : Content = plain (principal canister) in
      let fields : Parts = part ARG (blob arg) (part WASM_MODULE (blob wasm) (part MODE (mode_value mode) (part CANISTER_ID id no_part))) in
      let id_read : IsReadAs installation_type.0 install_type.0 (Prim P.Principal) id (Prim P.Principal) id = inr (inl (refl, refl)) in
      record {
        below = (decided installation_type.0 install_type.0 (Index 0) (Index 5)).0 refl;
        read = (
          (ARG, Index 1) ∷ (WASM_MODULE, Index 2) ∷ (MODE, Index 3) ∷ (CANISTER_ID, Prim P.Principal) ∷ [],
          (ARG, Index 4) ∷ (WASM_MODULE, Index 4) ∷ (MODE, Index 3) ∷ (CANISTER_ID, Prim P.Principal) ∷ [],
          refl,
          refl,
          fields,
          refl,
          (
            Index 4,
            (WASM_MODULE, Index 4) ∷ (MODE, Index 3) ∷ (CANISTER_ID, Prim P.Principal) ∷ [],
            refl,
            inl ((Index 1, blob arg), refl, (Prim P.Nat8, Prim P.Nat8, refl, refl, refl, inl refl)),
            (
              Index 4,
              (MODE, Index 3) ∷ (CANISTER_ID, Prim P.Principal) ∷ [],
              refl,
              inl ((Index 2, blob wasm), refl, (Prim P.Nat8, Prim P.Nat8, refl, refl, refl, inl refl)),
              (
                Index 3,
                (CANISTER_ID, Prim P.Principal) ∷ [],
                refl,
                inl ((Index 3, mode_value mode), refl, mode_read mode),
                (Prim P.Principal, [], refl, inl ((Prim P.Principal, id), refl, id_read), refl),
              ),
            ),
          ),
        );
      }

pub installation_demanded : Decided → OneAnswer → (mode : Mode) (canister wasm arg : List ℕ) → length canister ≤ 29 → length wasm < 2 ^ 64 → length arg < 2 ^ 64
    → demand_of methods.InstallCode (installation_argument mode canister wasm arg)
    ≡ Some (demands.InstallCode (record { mode = mode; canister_id = canister; wasm_module = wasm; arg = arg }))
unfolding installation_type installation_argument install_type
installation_demanded decided one mode canister wasm arg short few small =
    demanded one methods.InstallCode (installation_argument mode canister wasm arg) (installation_value mode canister wasm arg ∷ [])
    (demands.InstallCode (record { mode = mode; canister_id = canister; wasm_module = wasm; arg = arg }))
    (one_decoded installation_type.0 (Index 0) install_type.0 (Index 5) (installation_value mode canister wasm arg) (written mode) (installation_read decided mode canister wasm arg)) (picks mode)
  where
    written : (mode : Mode) → IsWritten installation_type.0 (Index 0) (installation_value mode canister wasm arg)
    written mode = record {
      well_formed = refl;
      inside = refl;
      few = installation_few;
      typed = installation_typed mode canister wasm arg short few small;
      deep = deep mode;
      many = many mode;
    }
      where
        deep : (mode : Mode) → nesting_each (installation_value mode canister wasm arg ∷ []) ≤ 128
        deep Reinstall = omega arith
        deep (Upgrade false) = omega arith
        deep (Upgrade true) = omega arith
        deep Install = omega arith

        many : (mode : Mode) → number_each (installation_value mode canister wasm arg ∷ []) ≤ 1000000
        many Reinstall = omega arith
        many (Upgrade false) = omega arith
        many (Upgrade true) = omega arith
        many Install = omega arith

    picks : (mode : Mode) → picked methods.InstallCode (installation_value mode canister wasm arg ∷ []) ≡ Some (demands.InstallCode (record { mode = mode; canister_id = canister; wasm_module = wasm; arg = arg }))
    picks Reinstall = refl
    picks (Upgrade false) = refl
    picks (Upgrade true) = refl
    picks Install = refl

-- ---- the reply that names a canister

reply_few : Few (header_spelling canister_type.0 canister_type.1)
unfolding canister_type unsigned_spelling signed_spelling seven_bits_each
reply_few = ltb-true _ _ refl

canister_read : Decided → (id : List ℕ) → IsReadAt canister_type.0 (Index 0) canister_type.0 (Index 0) (canister_value id)
unfolding canister_type below
canister_read decided id = record {
  below = (decided canister_type.0 canister_type.0 (Index 0) (Index 0)).0 refl;
  read = (
    (CANISTER_ID, Prim P.Principal) ∷ [],
    (CANISTER_ID, Prim P.Principal) ∷ [],
    refl,
    refl,
    part CANISTER_ID (plain (principal id)) no_part,
    refl,
    (Prim P.Principal, [], refl, inl ((Prim P.Principal, plain (principal id)), refl, inr (inl (refl, refl))), refl),
  );
}

pub reply_named : Decided → OneAnswer → (id : List ℕ) → length id ≤ 29 → canister_named (canister_reply id) ≡ Some id
unfolding canister_type canister_named canister_reply
reply_named decided one id short =
    ap (λ (found : Option (List Content)). found >>= canister_id)
    (is_read one canister_type (canister_reply id) (canister_value id ∷ []) (one_decoded canister_type.0 (Index 0) canister_type.0 (Index 0) (canister_value id) written (canister_read decided id)))
  where
    written : IsWritten canister_type.0 (Index 0) (canister_value id)
    written = record { well_formed = refl; inside = refl; few = reply_few; typed = canister_typed id short; deep = omega arith; many = omega arith }
