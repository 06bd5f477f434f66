-- What the management canister keeps holds along a chain of moves, and each move keeps it whose items hold together.
use Rattle.std.proofs.Common.{◌≡◌, ℕ, ◌+◌, ◌-◌, ◌≤◌, ◌^◌, Bool, false, List, map, refl, sym, ◌∙◌, arith, true≢false}
use Rattle.std.specs.List.{AllByRecursion, flat_map}
use Rattle.ic_behaviour.specs.declared.call.CallId.{CallId}
use Rattle.ic_behaviour.specs.declared.call.CallId.TheVariants as call_id
use Rattle.ic_behaviour.specs.declared.call.Message.{Message}
use Rattle.ic_behaviour.specs.declared.request.Request.{Request}
use Rattle.ic_behaviour.specs.Totals.{total}
use Rattle.ic_behaviour.specs.State.{Canister, State}
use Rattle.ic_behaviour.specs.Items.{Item, items, items_at, item_of, bears, mentions, awaited, is_context, begins, calls_of, cycles_in, Given}
use Rattle.ic_behaviour.specs.Tallied.{Tallied, wrong_id, wrong_flags, lost_answer, ingress_cycles, misranked}
use Rattle.ic_behaviour.specs.Sound.{Sound}
use Rattle.ic_behaviour.proofs.Weights.{each-map, total-append}
use Rattle.ic_behaviour.proofs.Ties.{sound as sound_from}
use Rattle.ic_run_laws.proofs.Holds.{Holds, given_anew}
use Rattle.ic_run_laws.proofs.Ends.{Frame, sound_of}
use Rattle.ic_run_laws.specs.Advances.{Advances}
use Rattle.ic_mgmt_laws.specs.KeepsCalls.{KeepsCalls}
use Rattle.ic_mgmt_laws.proofs.Changed.{Restands}

pub stays : (s : State) → Sound s → KeepsCalls s s
stays s sound = record { sound = sound; given = λ id g. g; placed = λ id g. refl; counts = λ key id. refl }

pub along : (s t u : State) → KeepsCalls s t → KeepsCalls t u → KeepsCalls s u
along s t u f g = record {
  sound = g.sound;
  given = λ id h. g.given id (f.given id h);
  placed = λ id h. g.placed id (f.given id h) ∙ f.placed id h;
  counts = λ key id. g.counts key id ∙ f.counts key id;
}

-- a step of the management canister, as a run asks it
pub advances : (s t : State) (key : List ℕ) → KeepsCalls s t → Advances s t key (λ id. 0)
advances s t key k = record { sound = k.sound; given = k.given; placed = λ id g. omega (arith, k.placed id g); others = λ other id differs. k.counts other id }

abbrev pub never : List ℕ → CallId → Bool
never key id = false

abbrev pub none : CallId → ℕ
none id = 0

-- the state with other canisters, messages and requests
abbrev pub with : State → List (List ℕ × Canister) → List Message → List Request → State
with s es ms rs = record s { canisters = es; messages = ms; requests = rs }

module _ (s : State) (sound : Tallied s) (es : List (List ℕ × Canister)) (ms : List Message) (rs : List Request) (stands : Restands s es) where
  abbrev t : State
  t = with s es ms rs

  -- where all hold, and each call stays with who made it
  pub arrives : (key : List ℕ) → Holds s key never none (Given s) (items t) rs (total (λ (e : List ℕ × Canister). e.1.balance) es + s.burned)
      → ((other : List ℕ) (id : CallId) → total (awaited other id) (items t) ≡ total (awaited other id) (items s))
      → ((other : List ℕ) → total (calls_of other) (items t) ≡ total (calls_of other) (items s))
      → AllByRecursion (λ (r : Request). r.time ≤ s.time) rs → KeepsCalls s t
  arrives key h counts calls times = record {
    sound = sound_from t (sound_of s t key never none sound (given_anew s key never none given_end h) (λ k id is some. absurd (true≢false (sym is))) frame);
    given = given_end;
    placed = λ id g. omega (arith, h.placed id g);
    counts = counts;
  } where
    given_end : (id : CallId) → Given s id → Given t id
    given_end (call_id.Ingress k) g = omega (arith, g, h.many)
    given_end (call_id.Canister caller n) g = (stands.next caller n g.0, g.1)

    frame : Frame s t
    frame = record {
      rises = stands.rises;
      entries = stands.entries;
      few = each-map (λ (e : List ℕ × Canister). total (calls_of e.0) (items s) ≤ 500) (λ (e : List ℕ × Canister). total (calls_of e.0) (items t) ≤ 500) (λ e few. omega (arith, few, calls e.0)) es
          (stands.keys (λ key. total (calls_of key) (items s) ≤ 500) sound.few);
      created = refl;
      canisters = stands.many;
      time = refl;
      times = times;
    }

-- the items stay, and cycles are created in a balance
module _ (s : State) (sound : Tallied s) (es : List (List ℕ × Canister)) (more : ℕ) (stands : Restands s es)
    (same : (w : Item → ℕ) → total w (flat_map items_at es) ≡ total w (flat_map items_at s.canisters))
    (money : total (λ (e : List ℕ × Canister). e.1.balance) es ≡ total (λ (e : List ℕ × Canister). e.1.balance) s.canisters + more) (few : s.created + more ≤ 2 ^ 127 - 1) where
  abbrev u : State
  u = record s { canisters = es; created = s.created + more }

  all_same : (w : Item → ℕ) → total w (items u) ≡ total w (items s)
  all_same w = omega (arith, total-append w (map item_of s.messages) (flat_map items_at es), total-append w (map item_of s.messages) (flat_map items_at s.canisters), same w)

  still_given : (id : CallId) → Given s id → Given u id
  still_given (call_id.Ingress k) g = g
  still_given (call_id.Canister caller n) g = (stands.next caller n g.0, g.1)

  steady_tallied : Tallied u
  steady_tallied = record {
    one_place = λ id. omega (arith, sound.one_place id, all_same (bears id));
    asked = λ k k_in. omega (arith, sound.asked k k_in, all_same (bears (call_id.Ingress k)));
    given = λ id some. still_given id (sound.given id (omega (arith, some, all_same (mentions id))));
    names = λ k id some. (let old = sound.names k id (omega (arith, some, all_same (awaited k id))) in omega (arith, old, all_same (is_context k id)));
    ids = omega (arith, sound.ids, all_same wrong_id);
    begun = λ id. omega (arith, sound.begun id, all_same (begins id));
    arrives = omega (arith, sound.arrives, all_same lost_answer);
    rises = stands.rises;
    entries = stands.entries;
    awaits = λ k id some. (let old = sound.awaits k id (omega (arith, some, all_same (is_context k id))) in omega (arith, old, all_same (awaited k id)));
    flags = omega (arith, sound.flags, all_same wrong_flags);
    ranked = (sound.ranked.0, omega (arith, sound.ranked.1, all_same (misranked sound.ranked.0)));
    free = omega (arith, sound.free, all_same ingress_cycles);
    few = each-map (λ (e : List ℕ × Canister). total (calls_of e.0) (items s) ≤ 500) (λ (e : List ℕ × Canister). total (calls_of e.0) (items u) ≤ 500) (λ e h. omega (arith, h, all_same (calls_of e.0))) es
        (stands.keys (λ key. total (calls_of key) (items s) ≤ 500) sound.few);
    conserved = omega (arith, sound.conserved, all_same cycles_in, money);
    created = few;
    canisters = omega (arith, sound.canisters, stands.many);
    requests = sound.requests;
    time = sound.time;
    times = sound.times;
  }

  pub steady : KeepsCalls s u
  steady = record { sound = sound_from u steady_tallied; given = still_given; placed = λ id g. omega (arith, all_same (bears id)); counts = λ key id. all_same (awaited key id) }
