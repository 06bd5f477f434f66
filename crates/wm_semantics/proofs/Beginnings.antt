-- Where the run of a target begins, all is sound.
use Rattle.std.proofs.Common.{◌≡◌, ℕ, ◌+◌, ◌≤◌, true, List, [], ◌∷◌, ◌++◌, length, Option, Some, None, refl, sym, ap, subst, ◌∙◌, append-nil, arith}
use Rattle.std.proofs.lemmas.Bool.{leb-true}
use Rattle.std.specs.Prelude.{slice_get, reverse, nat_le, option_and_then}
use Rattle.ic_base.specs.Reader.{◌>>=◌}
use Rattle.wm_tree.specs.declared.types.ValType.{ValType}
use Rattle.wm_tree.specs.declared.types.ValType.TheVariants.{I32}
use Rattle.wm_tree.specs.declared.types.FuncType.{FuncType}
use Rattle.wm_tree.specs.declared.instr.Instr.TheVariants as op
use Rattle.wm_tree.specs.declared.parts.Module.{Module}
use Rattle.wm_typing.specs.Context as typing
use Rattle.wm_typing.specs.Runs.{Body, frame_of}
use Rattle.wm_typing.proofs.Past.{both_true}
use Rattle.wm_valid.specs.Space.{type_of, function_types}
use Rattle.wm_valid.specs.Indices.{is_procedure}
use Rattle.wm_valid.specs.Bodies.{context_with}
use Rattle.wm_valid.specs.IsValid.{Validated, IsValid}
use Rattle.wm_store.specs.Lists.{Lists}
use Rattle.wm_semantics.specs.declared.target.Target.{Target}
use Rattle.wm_semantics.specs.declared.target.Target.TheVariants as target
use Rattle.wm_semantics.specs.Hosts.{Answers, Lawful}
use Rattle.wm_semantics.specs.Values.{Value, value}
use Rattle.wm_semantics.specs.Functions.{function_at, Found, look_up, callback_type}
use Rattle.wm_semantics.specs.Configs.{Config, Goes, Traps, activation}
use Rattle.wm_semantics.specs.Steps.{Outcome, After, Further, Over, alone}
use Rattle.wm_semantics.specs.Begin.{calling, entered, entered_at, begins, From, Invokes, IsTarget, InvokesOn}
use Rattle.wm_semantics.specs.Sound.{AreOf, spot, SoundAt, StoreWell}
use Rattle.wm_semantics.proofs.Modules.{Reached, hosted, defined, reached, body_of}
use Rattle.wm_semantics.proofs.Moves.{GoesWell, sound_with, well_as}
use Rattle.wm_semantics.proofs.Calls.{first_frame}
use Rattle.wm_semantics.proofs.Table.{Looked, finds, refuses, looked}
use Rattle.wm_semantics.proofs.NeverStuck.{AfterWell, made_well, never_stuck, ends_well}
use Rattle.wm_semantics.specs.Steps.{by_itself}

-- ---- a call of the host with no activation around it

abbrev room_of : FuncType → ℕ
room_of t = length (reverse t.params)

-- a body of no function, which is one call
abbrev pub call_body : Module → ℕ → FuncType → Body
call_body m f t = record {
  context = context_with m None [];
  words = op.Call f ∷ [];
  code = record { ops = []; constants = []; entries = []; arms = []; frame = frame_of (context_with m None []) (room_of t) };
}

type_out : (m : Module) (f : ℕ) (t : FuncType) → type_of m f ≡ Some t → typing.type_of (context_with m None []) f ≡ Some t
type_out m f t e = same (slice_get (function_types m) f) (λ k. slice_get m.types k) ∙ e
  where
    same : {A B : Type 0} (o : Option A) (g : A → Option B) → (o >>= g) ≡ option_and_then g o
    same (Some x) g = refl
    same None g = refl

pub calling_sound : (m : Module) (f : ℕ) (t : FuncType) (args : List Value) → type_of m f ≡ Some t → AreOf (reverse t.params) args → t.results ≡ []
    → SoundAt m (calling f args) (spot (call_body m f t) 0) [] []
calling_sound m f t args e are none =
    let b : Body = call_body m f t in
    let nothing : reverse t.results ++ [] ≡ [] = ap (λ (ts : List ValType). reverse ts ++ []) none in
    record {
      frame = record {
        is_in = record { type = None; locals = []; context_is = refl };
        result_is = refl;
        locals_are = tt;
        labels = [];
        out = [];
        base = 0;
        types = reverse t.params;
        values_are = are;
        runs = (
          omega arith,
          refl,
          (t, type_out m f t e, ([], sym (append-nil (reverse t.params)), (subst (λ (ts : List ValType). 0 + length ts ≤ room_of t) (sym nothing) (omega arith), nothing))),
        );
        labels_are = (refl, refl, refl);
      };
      waiting = tt;
    }

-- ---- a target

module _ (v : Validated) (valid : IsValid v) (s : Lists) (well : StoreWell v.module s) where
  -- a function that gives nothing, on arguments of its types
  entered_well : (f : ℕ) (t : FuncType) (args : List Value) → type_of v.module f ≡ Some t → AreOf t.params args → AreOf (reverse t.params) args → t.results ≡ []
      → GoesWell v.module (entered s f args (function_at v.module f))
  entered_well f t args e are reversed none = by_function (reached v valid f t e)
    where
      by_function : Reached v f t → GoesWell v.module (entered s f args (function_at v.module f))
      by_function (hosted sc is h signed) =
          well_as v.module _ (Goes s (calling f args)) (ap (entered s f args) is)
          (well, sound_with v.module (calling f args) (spot (call_body v.module f t) 0) [] [] (calling_sound v.module f t args e reversed none))
      by_function (defined code flat is h g sound) =
          let c : Config = record { frame = activation t code args; callers = [] } in
          let at : SoundAt v.module c (spot (body_of v.module t code flat) 0) [] [] = record { frame = first_frame v.module t code flat args sound are; waiting = tt } in
          well_as v.module _ (Goes s c) (ap (entered s f args) is) (well, sound_with v.module c (spot (body_of v.module t code flat) 0) [] [] at)

  none_of : {A : Type 0} (xs : List A) → nat_le (length xs) 0 ≡ true → xs ≡ []
  none_of [] e = refl
  none_of (x ∷ xs) e =
      let le = leb-true (length (x ∷ xs)) 0 e in
      absurd (omega arith)

  record Procedure (f : ℕ) : Type 0 where
    type : FuncType
    is : type_of v.module f ≡ Some type
    params : type.params ≡ []
    results : type.results ≡ []

  procedure : (f : ℕ) → is_procedure (type_of v.module f) ≡ true → Procedure f
  procedure f e = of_type (type_of v.module f) refl e
    where
      of_type : (o : Option FuncType) → type_of v.module f ≡ o → is_procedure o ≡ true → Procedure f
      of_type None is e = absurd cc
      of_type (Some t) is e =
          let both = both_true (nat_le (length t.params) 0) (nat_le (length t.results) 0) e in
          record { type = t; is = is; params = none_of t.params both.0; results = none_of t.results both.1 }

  pub begins_well : (to : Target) → IsTarget v.module to → GoesWell v.module (begins v.module s to)
  begins_well (target.Function f) is =
      let p = procedure f is in
      entered_well f p.type [] p.is (subst (λ (ts : List ValType). AreOf ts []) (sym p.params) tt) (subst (λ (ts : List ValType). AreOf (reverse ts) []) (sym p.params) tt) p.results
  begins_well (target.Element i env) is = by_look_up (look_up v.module s.table callback_type i) (looked v valid s callback_type i well.fits)
    where
      by_look_up : (o : Found) → Looked v.module callback_type o → GoesWell v.module (entered_at v.module s env o)
      by_look_up o (finds f e type) =
          well_as v.module _ (entered s f (value I32 env ∷ []) (function_at v.module f)) (ap (entered_at v.module s env) e)
          (entered_well f callback_type (value I32 env ∷ []) type ((refl, is), tt) ((refl, is), tt) refl)
      by_look_up o (refuses t e) = well_as v.module _ (Traps t) (ap (entered_at v.module s env) e) tt

  module _ {H : Type 0} (answers : Answers H) (lawful : Lawful answers) (limit : ℕ) (h : H) (used : ℕ) (to : Target) (is : IsTarget v.module to) where
    first_well : (a : After H) → alone h s used (begins v.module s to) ≡ Some a → AfterWell v a
    first_well a e = made_well v answers limit h s used (begins v.module s to) a lawful well (begins_well to is) (by_itself e)

    pub invokes_on : InvokesOn answers v.module limit h s used to
    invokes_on = record {
      begins_on = λ e. subst (GoesWell v.module) e (begins_well to is);
      runs_on = λ t e. never_stuck v valid answers lawful limit t (first_well (Further t) e);
    }

    from_well : (a : After H) (o : Outcome H) → AfterWell v a → From answers v.module limit a o → StoreWell v.module o.store
    from_well (Further t) o sound from = ends_well v valid answers lawful limit from sound
    from_well (Over p) o here same = subst (λ (q : Outcome H). StoreWell v.module q.store) (sym same) here

    pub invoked_well : (o : Outcome H) → Invokes answers v.module limit h s used to o → StoreWell v.module o.store
    invoked_well o i = from_well i.first o (first_well i.first i.begins_so) i.from
