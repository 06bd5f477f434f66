-- Where the run of a target begins (WebAssembly Core 1.0, 4.5.5), and what it ends in.
use Rattle.std.specs.Prelude.{◌≡◌, ℕ, ◌<◌, ◌^◌, true, List, [], ◌∷◌, Option, Some, None}
use Rattle.wm_tree.specs.declared.types.ValType.TheVariants.{I32}
use Rattle.wm_tree.specs.declared.instr.Instr.TheVariants as op
use Rattle.wm_tree.specs.declared.parts.Module.{Module}
use Rattle.wm_tree.specs.Seq.{Empty, Plain}
use Rattle.wm_valid.specs.Space.{type_of}
use Rattle.wm_valid.specs.Indices.{is_procedure}
use Rattle.wm_store.specs.Lists.{Lists}
use Rattle.wm_semantics.specs.declared.target.Target.{Target}
use Rattle.wm_semantics.specs.declared.target.Target.TheVariants as target
use Rattle.wm_semantics.specs.Hosts.{Answers}
use Rattle.wm_semantics.specs.Values.{Value, value}
use Rattle.wm_semantics.specs.Functions.{Function, of_host, of_module, function_at, Found, found, refused, missing, look_up, callback_type}
use Rattle.wm_semantics.specs.Configs.{Config, Next, Goes, Traps, Stuck, activation}
use Rattle.wm_semantics.specs.Steps.{State, Outcome, After, Further, Over, alone, Reaches, NeverStuck}

-- a call on the arguments, in a frame of no function: it costs what a call costs
abbrev pub calling : ℕ → List Value → Config
calling f args = record {
  frame = record { result = None; locals = []; labels = []; values = args; rest = Plain (op.Call f) Empty };
  callers = [];
}

-- a function of the module is entered without a charge, and one of the host is called
abbrev pub entered : Lists → ℕ → List Value → Option Function → Next
entered s f args None = Stuck
entered s f args (Some (of_module t code)) = Goes s (record { frame = activation t code args; callers = [] })
entered s f args (Some (of_host t number)) = Goes s (calling f args)

abbrev pub entered_at : Module → Lists → ℕ → Found → Next
entered_at m s env (found f) = entered s f (value I32 env ∷ []) (function_at m f)
entered_at m s env (refused t) = Traps t
entered_at m s env missing = Stuck

-- the table is looked up without a charge too
abbrev pub begins : Module → Lists → Target → Next
begins m s (target.Function f) = entered s f [] (function_at m f)
begins m s (target.Element i env) = entered_at m s env (look_up m s.table callback_type i)

abbrev pub From : {H : Type 0} → Answers H → Module → ℕ → After H → Outcome H → Type 0
From answers m limit (Further s) o = Reaches answers m limit s o
From answers m limit (Over p) o = o ≡ p

-- The outcome of a target, with that host and store, and so much used of the limit. A stuck state has
-- none; that no state is stuck is a law beside it.
pub record Invokes {H : Type 0} (answers : Answers H) (m : Module) (limit : ℕ) (h : H) (s : Lists) (used : ℕ) (target : Target) (o : Outcome H) : Type 0 where
  pub first : After H
  pub begins_so : alone h s used (begins m s target) ≡ Some first
  pub from : From answers m limit first o

-- a function that is invoked by its index takes and gives nothing
abbrev pub IsTarget : Module → Target → Type 0
IsTarget m (target.Function f) = is_procedure (type_of m f) ≡ true
IsTarget m (target.Element i env) = env < 2 ^ 32

-- no state that the target leads to is stuck
pub record InvokesOn {H : Type 0} (answers : Answers H) (m : Module) (limit : ℕ) (h : H) (s : Lists) (used : ℕ) (target : Target) : Type 0 where
  pub begins_on : ¬ (begins m s target ≡ Stuck)
  pub runs_on : (t : State H) → alone h s used (begins m s target) ≡ Some (Further t) → NeverStuck answers m limit t
