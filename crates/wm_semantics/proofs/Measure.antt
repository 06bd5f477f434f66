-- The measure falls at each step, where what a host uses does not fall.
use Rattle.std.proofs.Common.{◌≡◌, ℕ, zero, suc, pred, ◌+◌, ◌-◌, ◌*◌, ◌≤◌, ◌<◌, Bool, true, false, List, [], ◌∷◌, length, map, reverse, Option, Some, None, refl, subst, arith}
use Rattle.std.specs.Prelude.{cond, ◌==◌, nat_lt, nat_le, slice_get, sum_by}
use Rattle.std.proofs.lemmas.Bool.{ltb-false}
use Rattle.std.proofs.lemmas.List.Sums.{sum_by-cons}
use Rattle.wm_tree.specs.declared.types.ValType.{ValType}
use Rattle.wm_tree.specs.declared.types.ValType.TheVariants.{I32}
use Rattle.wm_tree.specs.declared.instr.Instr.{Instr}
use Rattle.wm_tree.specs.declared.instr.Instr.TheVariants as op
use Rattle.wm_tree.specs.declared.parts.Module.{Module}
use Rattle.wm_tree.specs.Seq.{Seq, Empty, Plain, BlockOf, LoopOf, IfOf, IfElseOf}
use Rattle.wm_typing.specs.Runs.{types_of, chosen}
use Rattle.wm_valid.specs.Types.{same_type}
use Rattle.wm_store.specs.Lists.{Lists}
use Rattle.wm_store.specs.Meaning.{Meaning, Ran, gives, fails, jams, meaning_of}
use Rattle.wm_semantics.specs.declared.host.HostAnswer.{HostAnswer}
use Rattle.wm_semantics.specs.declared.host.HostAnswer.TheVariants as answer
use Rattle.wm_semantics.specs.declared.trap.Trap.TheVariants as trap
use Rattle.wm_semantics.specs.Values.{Value, numbers, pops}
use Rattle.wm_semantics.specs.Functions.{Function, of_host, of_module, function_type, function_at, Found, found, refused, missing, look_up}
use Rattle.wm_semantics.specs.Configs.{Label, Frame, Config, Next, Goes, Asks, Ends, Traps, Stuck}
use Rattle.wm_semantics.specs.Charges.{cost_of, cost}
use Rattle.wm_semantics.specs.Reduce as r
use Rattle.wm_semantics.specs.Steps.{State, After, Further, Over, answered, due, paid}
use Rattle.wm_semantics.specs.Fuel.{Reply, HostOf, Rises, made, step_of, size_of, measure}

-- the frames and labels of a configuration
abbrev pub size : Config → ℕ
size c = suc (length c.frame.labels) + sum_by size_of c.callers

-- a configuration that a reduction leads to has that size at most
abbrev AtMost : ℕ → Next → Type 0
AtMost k (Goes s c) = size c ≤ k
AtMost k (Asks import args result c) = size c ≤ k
AtMost k Ends = Unit {0}
AtMost k (Traps t) = Unit {0}
AtMost k Stuck = Unit {0}

-- ---- on numbers

after_leaving : (limit used paid before k used' now : ℕ) → before ≡ suc k → now ≤ k → used + paid ≤ used' → 3 * (limit - used') + now < 3 * (limit - used) + before
after_leaving limit used paid before k used' now is small rises = omega arith

after_entering : (limit used paid before used' now : ℕ) → 1 ≤ paid → used + paid ≤ limit → now ≤ 2 + before → used + paid ≤ used'
    → 3 * (limit - used') + now < 3 * (limit - used) + before
after_entering limit used paid before used' now one within small rises = omega arith

growth_one : (fits : Bool) (n : ℕ) → 1 ≤ cond fits (1 + n) 1
growth_one true n = omega arith
growth_one false n = omega arith

-- ---- each part of a reduction

or_stuck_most : {A : Type 0} (k : ℕ) (o : Option A) (next : A → Next) → ((x : A) → AtMost k (next x)) → AtMost k (r.or_stuck o next)
or_stuck_most k None next each = tt
or_stuck_most k (Some x) next each = each x

cond_most : (k : ℕ) (b : Bool) (n n' : Next) → AtMost k n → AtMost k n' → AtMost k (cond b n n')
cond_most k true n n' most most' = most
cond_most k false n n' most most' = most'

with_number_most : (k : ℕ) (values : List Value) (next : ℕ → List Value → Next) → ((n : ℕ) (left : List Value) → AtMost k (next n left)) → AtMost k (r.with_number values next)
with_number_most k [] next each = tt
with_number_most k (v ∷ values) next each = cond_most k (same_type I32 v.kind) (next v.number values) Stuck (each v.number values) tt

leave_most : (k : ℕ) (s : Lists) (top : List Value) (callers : List Frame) → sum_by size_of callers ≤ k → AtMost k (r.leave s top callers)
leave_most k s top [] room = tt
leave_most k s top (f ∷ callers) room = omega (arith, sum_by-cons size_of f callers)

leave_whole_most : (k : ℕ) (s : Lists) (top below : List Value) (callers : List Frame) → sum_by size_of callers ≤ k → AtMost k (r.leave_whole s top below callers)
leave_whole_most k s top [] callers room = leave_most k s top callers room
leave_whole_most k s top (v ∷ below) callers room = tt

-- an end leaves a label or a frame
finish_most : (k : ℕ) (s : Lists) (c : Config) (labels : List Label) (values : List Value) → suc (length labels) + sum_by size_of c.callers ≤ suc k → AtMost k (r.finish s c labels values)
finish_most k s c (l ∷ labels) values room = omega arith
finish_most k s c [] values room = or_stuck_most k (pops (types_of c.frame.result) values) _ (λ p. leave_whole_most k s p.top p.below c.callers (omega arith))

-- an instruction enters a frame and a label at most
module _ (m : Module) (s : Lists) (c : Config) (k : ℕ) (room : 2 + size c ≤ k) where
  after_row_most : (rest : Seq) (types : List ValType) (below : List Value) (ran : Ran) → AtMost k (r.after_row c rest types below ran)
  after_row_most rest types below (gives ns t) = omega arith
  after_row_most rest types below (fails f) = tt
  after_row_most rest types below jams = tt

  drop_most : (values : List Value) (rest : Seq) → AtMost k (r.drop s c values rest)
  drop_most [] rest = tt
  drop_most (v ∷ values) rest = omega arith

  select_most : (n : ℕ) (values : List Value) (rest : Seq) → AtMost k (r.select s c n values rest)
  select_most n (y ∷ x ∷ values) rest = omega arith
  select_most n (y ∷ []) rest = tt
  select_most n [] rest = tt

  local_becomes_most : (x : ℕ) (v : Value) (values : List Value) (rest : Seq) → AtMost k (r.local_becomes s c x v values rest)
  local_becomes_most x v values rest = or_stuck_most k (slice_get c.frame.locals x) _ (λ old. omega arith)

  local_set_most : (x : ℕ) (values : List Value) (rest : Seq) → AtMost k (r.local_set s c x values rest)
  local_set_most x [] rest = tt
  local_set_most x (v ∷ values) rest = local_becomes_most x v values rest

  local_tee_most : (x : ℕ) (values : List Value) (rest : Seq) → AtMost k (r.local_tee s c x values rest)
  local_tee_most x [] rest = tt
  local_tee_most x (v ∷ values) rest = local_becomes_most x v (v ∷ values) rest

  grew_most : (values : List Value) (rest : Seq) (memory : Option (List ℕ)) → AtMost k (r.grew s c values rest memory)
  grew_most values rest None = omega arith
  grew_most values rest (Some memory) = omega arith

  enter_most : (result : Option ValType) (again body : Seq) (values : List Value) (rest : Seq) → AtMost k (r.enter s c result again body values rest)
  enter_most result again body values rest = omega arith

  branch_most : (labels : List Label) (n : ℕ) (values : List Value) → length labels ≤ length c.frame.labels → AtMost k (r.branch s c labels n values)
  branch_most [] n values inner = tt
  branch_most (l ∷ labels) zero values inner = or_stuck_most k (pops (types_of l.result) values) _ (λ p. omega arith)
  branch_most (l ∷ labels) (suc n) values inner = branch_most labels n values (omega arith)

  branch_if_most : (l n : ℕ) (values : List Value) (rest : Seq) → AtMost k (r.branch_if s c l n values rest)
  branch_if_most l n values rest =
      cond_most k (n == 0) _ (r.branch s c c.frame.labels l values) (omega arith) (branch_most c.frame.labels l values (omega arith))

  return_most : (values : List Value) → AtMost k (r.return s c values)
  return_most values = or_stuck_most k (pops (types_of c.frame.result) values) _ (λ p. leave_most k s p.top c.callers (omega arith))

  invoke_most : (below : List Value) (rest : Seq) (f : Function) (top : List Value) → AtMost k (r.invoke s (record c { frame = record c.frame { values = below; rest = rest } }) f top)
  invoke_most below rest (of_host t number) top = omega arith
  invoke_most below rest (of_module t code) top = cond_most k (nat_le 512 (suc (length c.callers))) _ _ tt (omega (arith, sum_by-cons size_of (record c.frame { values = below; rest = rest }) c.callers))

  call_most : (f : ℕ) (values : List Value) (rest : Seq) → AtMost k (r.call m s c f values rest)
  call_most f values rest =
      or_stuck_most k (function_at m f) _ (λ g. or_stuck_most k (pops (reverse (function_type g).params) values) _ (λ p. invoke_most p.below rest g p.top))

  call_found_most : (values : List Value) (rest : Seq) (f : Found) → AtMost k (r.call_found m s c values rest f)
  call_found_most values rest (found f) = call_most f values rest
  call_found_most values rest (refused t) = tt
  call_found_most values rest missing = tt

  control_most : (i : Instr) (values : List Value) (rest : Seq) → AtMost k (r.control m s c i values rest)
  control_most op.Unreachable values rest = tt
  control_most (op.Br l) values rest = branch_most c.frame.labels l values (omega arith)
  control_most (op.BrIf l) values rest = with_number_most k values _ (λ n left. branch_if_most l n left rest)
  control_most (op.BrTable ls other) values rest = with_number_most k values _ (λ n left. branch_most c.frame.labels (chosen ls other n) left (omega arith))
  control_most op.Return values rest = return_most values
  control_most (op.Call f) values rest = call_most f values rest
  control_most (op.CallIndirect t) values rest =
      with_number_most k values _ (λ i left. or_stuck_most k (slice_get m.types t) _ (λ expected. call_found_most left rest (look_up m s.table expected i)))
  control_most op.Drop values rest = drop_most values rest
  control_most op.Select values rest = with_number_most k values _ (λ n left. select_most n left rest)
  control_most (op.LocalGet x) values rest = or_stuck_most k (slice_get c.frame.locals x) _ (λ v. omega arith)
  control_most (op.LocalSet x) values rest = local_set_most x values rest
  control_most (op.LocalTee x) values rest = local_tee_most x values rest
  control_most op.MemoryGrow values rest = with_number_most k values _ (λ n left. grew_most left rest _)
  control_most _ values rest = tt

  plain_most : (i : Instr) (rest : Seq) (row : Option Meaning) → AtMost k (r.plain m s c i rest row)
  plain_most i rest (Some row) = or_stuck_most k (pops row.takes c.frame.values) _ (λ p. after_row_most rest row.gives p.below (row.run (numbers p.top) s))
  plain_most i rest None = control_most i c.frame.values rest

-- ---- a reduction and what it costs

-- an end is free, and the size falls; an instruction costs 1 at least, and the size rises by 2 at most
data Bounds (paid before : ℕ) (n : Next) : Type 0 where
  is_free : (k : ℕ) → before ≡ suc k → AtMost k n → Bounds paid before n
  is_paid : 1 ≤ paid → AtMost (2 + before) n → Bounds paid before n

one_at_least : (s : Lists) (values : List Value) (i : Instr) → 1 ≤ cost_of s values i
one_at_least s [] op.MemoryGrow = omega arith
one_at_least s (v ∷ values) op.MemoryGrow = growth_one _ v.number
one_at_least s [] op.MemoryCopy = omega arith
one_at_least s (v ∷ values) op.MemoryCopy = omega arith
one_at_least s [] op.MemoryFill = omega arith
one_at_least s (v ∷ values) op.MemoryFill = omega arith
one_at_least s values _ = omega arith

reduce_bounds : (m : Module) (s : Lists) (c : Config) (rest : Seq) → Bounds (cost s c.frame.values rest) (size c) (r.reduce m s c rest)
reduce_bounds m s c Empty = is_free (pred (size c)) (omega arith) (finish_most (pred (size c)) s c c.frame.labels c.frame.values (omega arith))
reduce_bounds m s c (Plain i rest) =
    is_paid (one_at_least s c.frame.values i) (plain_most m s c (2 + size c) (omega arith) i rest (meaning_of (map (λ g. g.kind) m.globals) i))
reduce_bounds m s c (BlockOf t body rest) = is_paid (omega arith) (omega arith)
reduce_bounds m s c (LoopOf t body rest) = is_paid (omega arith) (omega arith)
reduce_bounds m s c (IfOf t body rest) =
    is_paid (omega arith) (with_number_most (2 + size c) c.frame.values _ (λ n left. cond_most (2 + size c) (n == 0) _ _ (omega arith) (omega arith)))
reduce_bounds m s c (IfElseOf t body other rest) =
    is_paid (omega arith) (with_number_most (2 + size c) c.frame.values _ (λ n left. cond_most (2 + size c) (n == 0) _ _ (omega arith) (omega arith)))

-- ---- one step

-- where the run goes on, its measure is below that number
abbrev Below : {H : Type 0} → ℕ → ℕ → Option (After H) → Type 0
Below limit bound None = Unit {0}
Below limit bound (Some (Further t)) = 3 * (limit - t.used) + size t.config < bound
Below limit bound (Some (Over o)) = Unit {0}

-- so it is after any configuration of that size at most, where as much is used at least
abbrev Suffices : ℕ → ℕ → ℕ → ℕ → Type 0
Suffices limit bound k used = (now used' : ℕ) → now ≤ k → used ≤ used' → 3 * (limit - used') + now < bound

answered_below : {H : Type 0} (limit bound : ℕ) (c : Config) (result : Option ValType) (reply : HostAnswer) (h : H) (s : Lists) (used : ℕ)
    → 3 * (limit - used) + size c < bound → Below limit bound (answered h s used c result reply)
answered_below limit bound c None answer.Nothing h s used small = small
answered_below limit bound c None (answer.Number n) h s used small = tt
answered_below limit bound c (Some t) answer.Nothing h s used small = tt
answered_below limit bound c (Some t) (answer.Number n) h s used small = small
answered_below limit bound c None (answer.Trap t) h s used small = tt
answered_below limit bound c (Some v) (answer.Trap t) h s used small = tt

module _ {H : Type 0} (reply : HostOf H) (rises : Rises reply) where
  made_below : (limit bound k : ℕ) (h : H) (s : Lists) (used : ℕ) (n : Next) → AtMost k n → Suffices limit bound k used → Below limit bound (made reply limit h s used n)
  made_below limit bound k h s used (Goes t c) small enough = enough (size c) used small (omega arith)
  made_below limit bound k h s used (Asks import args result c) small enough =
      let told : Reply H = reply h import args s limit used in
      answered_below limit bound c result told.answer told.host told.store told.used (enough (size c) told.used small (rises h import args s limit used))
  made_below limit bound k h s used Ends small enough = tt
  made_below limit bound k h s used (Traps t) small enough = tt
  made_below limit bound k h s used Stuck small enough = tt

  -- a paid reduction
  bounds_below : (limit paid before used : ℕ) (h : H) (s : Lists) (n : Next) → Bounds paid before n → used + paid ≤ limit
      → Below limit (3 * (limit - used) + before) (made reply limit h s (used + paid) n)
  bounds_below limit paid before used h s n (is_free k is small) within =
      made_below limit _ k h s (used + paid) n small (λ now used' le rises. after_leaving limit used paid before k used' now is le rises)
  bounds_below limit paid before used h s n (is_paid one small) within =
      made_below limit _ (2 + before) h s (used + paid) n small (λ now used' le rises. after_entering limit used paid before used' now one within le rises)

  -- by whether the charge passes the limit
  charged_below : (m : Module) (limit : ℕ) (s : State H) (passes : Bool) → nat_lt limit (due s) ≡ passes
      → Below limit (3 * (limit - s.used) + size s.config)
      (made reply limit s.host s.store (cond passes s.used (due s)) (cond passes (Traps trap.Limit) (r.reduce m s.store s.config s.config.frame.rest)))
  charged_below m limit s true test = tt
  charged_below m limit s false test =
      bounds_below limit (cost s.store s.config.frame.values s.config.frame.rest) (size s.config) s.used s.host s.store (r.reduce m s.store s.config s.config.frame.rest)
      (reduce_bounds m s.store s.config s.config.frame.rest) (ltb-false limit (due s) test)

  pub measure_falls : (m : Module) (limit : ℕ) (s t : State H) → step_of reply m limit s ≡ Some (Further t) → measure limit t < measure limit s
  measure_falls m limit s t leads =
      let now = subst (Below limit (3 * (limit - s.used) + size s.config)) leads (charged_below m limit s (nat_lt limit (due s)) refl) in
      omega (arith, sum_by-cons size_of t.config.frame t.config.callers, sum_by-cons size_of s.config.frame s.config.callers)
