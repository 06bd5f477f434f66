-- From what holds of its items to a sound state.
use Rattle.std.proofs.Common.{◌≡◌, ℕ, zero, suc, ◌+◌, ◌-◌, ◌<◌, ◌≤◌, ◌^◌, Bool, true, List, [], ◌∷◌, length, refl, sym, subst, arith, inl, inr, fold}
use Rattle.std.specs.List.{AllByRecursion}
use Rattle.std.specs.List.Sorted.{IsStrictlySortedBy}
use Rattle.std.specs.Map.{keys_of}
use Rattle.std.specs.Ordering.{nat_cmp}
use Rattle.std.specs.Cmp.Lexicographic.{slice_cmp}
use Rattle.ic_behaviour.specs.declared.call.Origin.TheVariants as origin
use Rattle.ic_run_laws.proofs.Holds.{Holds}
use Rattle.ic_behaviour.specs.Deliver.{fill, filled, filled_by}
use Rattle.ic_behaviour.specs.Items.{Given, awaited, calls_of, is_context, items}
use Rattle.ic_behaviour.specs.State.{Canister, State}
use Rattle.ic_behaviour.specs.Tallied.{IsEntry, Tallied}
use Rattle.ic_behaviour.specs.Totals.{total}
use Rattle.ic_behaviour.specs.declared.call.Answered.{Answered}
use Rattle.ic_behaviour.specs.declared.call.CallId.{CallId}
use Rattle.ic_behaviour.specs.declared.call.Origin.{Origin}
use Rattle.ic_behaviour.specs.declared.call.Response.{Response}
use Rattle.ic_behaviour.specs.declared.request.Request.{Request}

abbrev pub balances : State → ℕ
balances s = total (λ (e : List ℕ × Canister). e.1.balance) s.canisters

pub sound_holds : (s : State) (key : List ℕ) (off : List ℕ → CallId → Bool) → Tallied s → Holds s key off (λ id. 0) (Given s) (items s) s.requests (balances s + s.burned)
sound_holds s key off sound = record {
  one_place = sound.one_place;
  many = refl;
  asked = sound.asked;
  made = sound.given;
  names = sound.names;
  ids = sound.ids;
  begun = sound.begun;
  arrives = sound.arrives;
  awaits = λ k id some. inl (sound.awaits k id some);
  flags = sound.flags;
  rank = sound.ranked.0;
  ranked = sound.ranked.1;
  free = sound.free;
  conserved = omega (arith, sound.conserved);
  placed = λ id is. omega arith;
  others = λ k id differs. refl;
  others_few = λ k differs. refl;
}

each-fill : (n k : ℕ) (response : Response) (rs : List Request) → AllByRecursion (λ (r : Request). r.time ≤ n) rs → AllByRecursion (λ (r : Request). r.time ≤ n) (fill k response rs)
each-fill n k response [] all = tt
each-fill n zero response (r ∷ rs) all = all
each-fill n (suc k) response (r ∷ rs) all = (all.0, each-fill n k response rs all.1)

pub each-filled_by : (n : ℕ) (o : Origin) (response : Response) (rs : List Request) → AllByRecursion (λ (r : Request). r.time ≤ n) rs → AllByRecursion (λ (r : Request). r.time ≤ n) (filled_by o response rs)
each-filled_by n (origin.Ingress k) response rs all = each-fill n k response rs all
each-filled_by n (origin.Canister caller m context callback) response rs all = all

pub each-filled : (n : ℕ) (answers : List Answered) (rs : List Request) → AllByRecursion (λ (r : Request). r.time ≤ n) rs → AllByRecursion (λ (r : Request). r.time ≤ n) (fold filled rs answers)
each-filled n [] rs all = all
each-filled n (a ∷ answers) rs all = each-filled n answers (filled rs a) (each-filled_by n a.origin a.response rs all)

-- the rest of what a sound state says: its canisters, and its sizes
pub record Frame (s t : State) : Type 0 where
  pub rises : IsStrictlySortedBy (slice_cmp nat_cmp) (keys_of t.canisters)
  pub entries : AllByRecursion (IsEntry t.next_canister) t.canisters
  pub few : AllByRecursion (λ (e : List ℕ × Canister). total (calls_of e.0) (items t) ≤ 500) t.canisters
  pub created : t.created ≡ s.created
  pub canisters : length t.canisters ≡ length s.canisters
  pub time : t.time ≡ s.time
  pub times : AllByRecursion (λ (r : Request). r.time ≤ t.time) t.requests

pub sound_of : (s t : State) (key : List ℕ) (off : List ℕ → CallId → Bool) (less : CallId → ℕ) → Tallied s → Holds s key off less (Given t) (items t) t.requests (balances t + t.burned)
    → ((k : List ℕ) (id : CallId) → off k id ≡ true → 0 < total (is_context k id) (items t) → 0 < total (awaited k id) (items t))
    → Frame s t → Tallied t
sound_of s t key off less sound h shut f = record {
  one_place = h.one_place;
  asked = h.asked;
  given = h.made;
  names = h.names;
  ids = h.ids;
  begun = h.begun;
  arrives = h.arrives;
  rises = f.rises;
  entries = f.entries;
  awaits = λ k id some. elim (h.awaits k id some) [
    | inl calls ↦ calls
    | inr is ↦ shut k id is some
  ];
  flags = h.flags;
  ranked = (h.rank, h.ranked);
  free = h.free;
  few = f.few;
  conserved = omega (arith, h.conserved, f.created);
  created = subst (λ n. n ≤ 2 ^ 127 - 1) (sym f.created) sound.created;
  canisters = omega (arith, f.canisters, sound.canisters);
  requests = subst (λ n. n ≤ 2 ^ 20) (sym h.many) sound.requests;
  time = omega (arith, f.time, sound.time);
  times = f.times;
}
