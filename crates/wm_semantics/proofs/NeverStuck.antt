-- A run of a valid module never gets stuck, with any host that keeps the rules, and its store fits
-- the module to the end.
use Rattle.std.proofs.Common.{◌≡◌, ℕ, ◌%◌, ◌<◌, ◌≤◌, Bool, true, false, cond, List, [], ◌∷◌, length, Option, Some, None, refl, sym, ap, subst, ◌∙◌, arith}
use Rattle.std.specs.Prelude.{nat_lt, is_some}
use Rattle.std.specs.List.{All}
use Rattle.std.specs.Option.{IfSome}
use Rattle.wm_tree.specs.declared.types.ValType.{ValType}
use Rattle.wm_tree.specs.declared.parts.Module.{Module}
use Rattle.wm_typing.specs.Runs.{types_of}
use Rattle.wm_valid.specs.SystemApi.{row_of}
use Rattle.wm_valid.specs.IsValid.{Validated, IsValid}
use Rattle.wm_store.specs.Lists.{Lists, pages_of, page_limit}
use Rattle.wm_store.specs.Values.{limit_of, AreValues}
use Rattle.wm_store.specs.Fits.{function_count, global_value_types}
use Rattle.wm_semantics.specs.declared.trap.Trap.TheVariants as trap
use Rattle.wm_semantics.specs.declared.host.HostAnswer.{HostAnswer}
use Rattle.wm_semantics.specs.declared.host.HostAnswer.TheVariants as answer
use Rattle.wm_semantics.specs.Hosts.{Answers, IsAnswer, HasPages, StoreKept, Kept, Lawful}
use Rattle.wm_semantics.specs.Values.{value}
use Rattle.wm_semantics.specs.Configs.{Config, Next, Goes, Asks, Ends, Traps, Stuck, given}
use Rattle.wm_semantics.specs.Reduce.{reduce}
use Rattle.wm_semantics.specs.Steps.{State, Outcome, After, Further, Over, state, alone, answered, Made, by_itself, by_host, due, paid, charged, Step, Reaches, goes, over, Path, here, more, GoesOn, NeverStuck}
use Rattle.wm_semantics.specs.Sound.{IsSoundWith, StoreWell}
use Rattle.wm_semantics.proofs.Moves.{GoesWell}
use Rattle.wm_semantics.proofs.Blocks.{resumed}
use Rattle.wm_semantics.proofs.Progress.{reduces_well}

-- ---- the store after an answer

has_pages : (o : Option ℕ) (memory : List ℕ) → length memory % 65536 ≡ 0 → IfSome o (λ most. pages_of memory ≤ most) → pages_of memory ≤ 256 → HasPages (page_limit o) memory
has_pages None memory whole declared most = record { whole = whole; within = most }
has_pages (Some n) memory whole declared most = record { whole = whole; within = omega arith }

declared_by : (o : Option ℕ) (memory : List ℕ) → HasPages (page_limit o) memory → IfSome o (λ most. pages_of memory ≤ most) × (pages_of memory ≤ 256)
declared_by None memory h = (tt, h.within)
declared_by (Some n) memory h = (omega (arith, h.within), omega (arith, h.within))

pub kept_well : (m : Module) (s t : Lists) → StoreKept s t → StoreWell m s → StoreWell m t
kept_well m s t k well =
    let pages = k.memory_pages (has_pages s.maximum s.memory well.fits.whole well.fits.declared well.fits.most) in
    let both = declared_by s.maximum t.memory pages in
    record {
      fits = record {
        table = ap length k.table ∙ well.fits.table;
        entries = subst (λ (es : List (Option ℕ)). All (λ e. IfSome e (λ f. f < function_count m)) es) (sym k.table) well.fits.entries;
        globals = subst (λ (gs : List ℕ). AreValues (global_value_types m) gs) (sym k.globals) well.fits.globals;
        maximum = k.maximum ∙ well.fits.maximum;
        whole = pages.whole;
        least = omega (arith, well.fits.least, k.memory);
        declared = subst (λ (o : Option ℕ). IfSome o (λ most. pages_of t.memory ≤ most)) (sym k.maximum) both.0;
        most = both.1;
      };
      bytes = k.bytes well.bytes;
    }

-- ---- one step

pub record SoundState {H : Type 0} (v : Validated) (s : State H) : Type 0 where
  pub well : StoreWell v.module s.store
  pub sound : IsSoundWith v.module [] s.config

abbrev pub AfterWell : {H : Type 0} → Validated → After H → Type 0
AfterWell v (Further s) = SoundState v s
AfterWell v (Over o) = StoreWell v.module o.store

pub charged_well : {H : Type 0} (v : Validated) (limit : ℕ) (s : State H) → IsValid v → SoundState v s → GoesWell v.module (charged v.module limit s)
charged_well v limit s valid sound = paid_or_not (nat_lt limit (due s))
  where
    paid_or_not : (test : Bool) → GoesWell v.module (cond test (Traps trap.Limit) (reduce v.module s.store s.config s.config.frame.rest))
    paid_or_not true = tt
    paid_or_not false = reduces_well v s.store s.config sound.sound.here sound.sound.spots valid sound.well sound.sound.at

-- what the host's answer is put on
told_sound : (m : Module) (t : ValType) (n : ℕ) (c : Config) → n < limit_of t → IsSoundWith m (t ∷ []) c → IsSoundWith m [] (given (value t n ∷ []) c)
told_sound m t n c small i = record {
  here = i.here;
  spots = i.spots;
  at = record { frame = resumed m c.frame i.here (Some t) (value t n ∷ []) i.at.frame ((refl, small), tt); waiting = i.at.waiting };
}

some_same : {A : Type 0} (x y : A) → ◌≡◌ {A = Option A} (Some x) (Some y) → x ≡ y
some_same x y e = cc

answered_well : {H : Type 0} (v : Validated) (h : H) (s : Lists) (used : ℕ) (c : Config) (result : Option ValType) (reply : HostAnswer) (a : After H)
    → IsAnswer result reply → StoreWell v.module s → IsSoundWith v.module (types_of result) c → answered h s used c result reply ≡ Some a → AfterWell v a
answered_well v h s used c None answer.Nothing a is well sound e =
    let same : Further (state h s used c) ≡ a = cc in
    subst (AfterWell v) same (record { well = well; sound = sound })
answered_well v h s used c None (answer.Number n) a is well sound e = absurd is
answered_well v h s used c (Some t) answer.Nothing a is well sound e = absurd is
answered_well v h s used c (Some t) (answer.Number n) a is well sound e =
    let same : Further (state h s used (given (value t n ∷ []) c)) ≡ a = cc in
    subst (AfterWell v) same (record { well = well; sound = told_sound v.module t n c is sound })
answered_well v h s used c None (answer.Trap t) a is well sound e = subst (AfterWell v) (some_same _ a e) well
answered_well v h s used c (Some k) (answer.Trap t) a is well sound e = subst (AfterWell v) (some_same _ a e) well

alone_well : {H : Type 0} (v : Validated) (h : H) (s : Lists) (used : ℕ) (n : Next) (a : After H) → StoreWell v.module s → GoesWell v.module n → alone h s used n ≡ Some a → AfterWell v a
alone_well v h s used (Goes t c) a well g e = subst (AfterWell v) (some_same _ a e) (record { well = g.0; sound = g.1 })
alone_well v h s used (Asks import args result c) a well g e = absurd cc
alone_well v h s used Ends a well g e = subst (AfterWell v) (some_same _ a e) well
alone_well v h s used (Traps t) a well g e = subst (AfterWell v) (some_same _ a e) well
alone_well v h s used Stuck a well g e = absurd g

-- what an answer keeps, at a call that goes well
module _ {H : Type 0} (v : Validated) (answers : Answers H) (lawful : Lawful answers) (limit : ℕ) (h : H) (s : Lists) (used : ℕ) (well : StoreWell v.module s)
    (import : ℕ) (args : List ℕ) (result : Option ValType) (c : Config) (g : GoesWell v.module (Asks import args result c))
    (reply : HostAnswer) (h' : H) (t : Lists) (used' : ℕ) (said : answers h import args s limit used reply h' t used') where
  kept : Kept (row_of g.0).result s limit used reply t used'
  kept = lawful h import g.0 args s limit used reply h' t used' g.1 g.2 said

  is_answer : IsAnswer result reply
  is_answer = subst (λ (o : Option ValType). IsAnswer o reply) (sym g.3) kept.is_answer

  pub told_well : (a : After H) → answered h' t used' c result reply ≡ Some a → AfterWell v a
  told_well a e = answered_well v h' t used' c result reply a is_answer (kept_well v.module s t kept.store well) g.4 e

  leads_on : (o : Option ValType) (r : HostAnswer) → IsAnswer o r → is_some (answered h' t used' c o r) ≡ true
  leads_on None answer.Nothing is = refl
  leads_on None (answer.Number n) is = absurd is
  leads_on (Some k) answer.Nothing is = absurd is
  leads_on (Some k) (answer.Number n) is = refl
  leads_on None (answer.Trap r) is = refl
  leads_on (Some k) (answer.Trap r) is = refl

  pub told_on : is_some (answered h' t used' c result reply) ≡ true
  told_on = leads_on result reply is_answer

pub made_well : {H : Type 0} (v : Validated) (answers : Answers H) (limit : ℕ) (h : H) (s : Lists) (used : ℕ) (n : Next) (a : After H)
    → Lawful answers → StoreWell v.module s → GoesWell v.module n → Made answers limit h s used n a → AfterWell v a
made_well v answers limit h s used n a lawful well g (by_itself e) = alone_well v h s used n a well g e
made_well v answers limit h s used n a lawful well g (by_host import args result c reply h' t used' e said led) =
    told_well v answers lawful limit h s used well import args result c (subst (GoesWell v.module) e g) reply h' t used' said a led

pub goes_on : {H : Type 0} (v : Validated) (answers : Answers H) (limit : ℕ) (h : H) (s : Lists) (used : ℕ) (n : Next)
    → Lawful answers → StoreWell v.module s → GoesWell v.module n → GoesOn answers limit h s used n
goes_on v answers limit h s used n lawful well g = record {
  never = λ e. subst (GoesWell v.module) e g;
  asked = λ import args result c e. let w = subst (GoesWell v.module) e g in (w.0, w.1, w.2);
  told = λ import args result c reply h' t used' e said.
      told_on v answers lawful limit h s used well import args result c (subst (GoesWell v.module) e g) reply h' t used' said;
}

-- ---- runs

module _ {H : Type 0} (v : Validated) (valid : IsValid v) (answers : Answers H) (lawful : Lawful answers) (limit : ℕ) where
  pub stepped : (s : State H) (a : After H) → SoundState v s → Step answers v.module limit s a → AfterWell v a
  stepped s a sound step = made_well v answers limit s.host s.store (paid limit s) (charged v.module limit s) a lawful sound.well (charged_well v limit s valid sound) step

  path_sound : {s t : State H} → Path answers v.module limit s t → SoundState v s → SoundState v t
  path_sound here sound = sound
  path_sound {s} (more u step path) sound = path_sound path (stepped s (Further u) sound step)

  pub never_stuck : (s : State H) → SoundState v s → NeverStuck answers v.module limit s
  never_stuck s sound t path =
      let there = path_sound path sound in
      goes_on v answers limit t.host t.store (paid limit t) (charged v.module limit t) lawful there.well (charged_well v limit t valid there)

  pub ends_well : {s : State H} {o : Outcome H} → Reaches answers v.module limit s o → SoundState v s → StoreWell v.module o.store
  ends_well {s} (goes u step rest) sound = ends_well rest (stepped s (Further u) sound step)
  ends_well {s} {o} (over step) sound = stepped s (Over o) sound step
