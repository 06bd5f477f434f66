-- First messages that are handled where their canisters stand.
use Rattle.std.proofs.Common.{◌≡◌, ℕ, ◌+◌, false, List, [], ◌∷◌, map, Some, refl, sym, ap, ◌∙◌, subst, inl, inr, arith}
use Rattle.std.specs.List.{AllByRecursion, IsDistinct, fold}
use Rattle.std.specs.Ordering.{nat_cmp, eq_by_cmp}
use Rattle.std.specs.Cmp.Lexicographic.{slice_cmp}
use Rattle.std.specs.Map.{lookup, keys_of, set_value}
use Rattle.std.proofs.lemmas.Bool.{cases_Bool, cond-false}
use Rattle.std.proofs.lemmas.Map.{lookup-set_value}
use Rattle.std.proofs.lemmas.Map.Keys.{IsDistinct-tail, IsDistinct-head}
use Rattle.ic_behaviour.specs.declared.call.Message.{Message}
use Rattle.ic_behaviour.specs.declared.env.Env.{Env}
use Rattle.ic_behaviour.specs.State.{at}
use Rattle.ic_behaviour.proofs.Weights.{laws}
use Rattle.ic_state.specs.declared.canister.Canister.{Canister}
use Rattle.ic_state.specs.declared.world.Parts.{Parts}
use Rattle.ic_state.specs.Seen.{seen}
use Rattle.ic_state.specs.IsCanister.{IsCanister}
use Rattle.ic_exec.specs.Executed.{done_of}
use Rattle.ic_deliver.specs.Giving.{CanTake}
use Rattle.ic_deliver.specs.Delivered.{HasHandled}
use Rattle.ic_rounds.specs.declared.slot.Slot.{Slot}
use Rattle.ic_rounds.specs.Dealing.{AreFirsts, slots_of}
use Rattle.ic_rounds.specs.Slots.{Stored, seen_entry, stored_of, slot_of, ran, after_slot, put_in, after_slot_in_place, AreReady, AreCanisters}
use Rattle.ic_rounds.specs.InPlace.{slot_at, IsNext, HasGone}
use Rattle.ic_rounds.proofs.Deals.{pairs_of, IsTheirs}
use Rattle.ic_rounds.proofs.Dealings.{pairs, theirs}

-- ---- the map of canisters

seen-set : (key : List ℕ) (es : List (List ℕ × Canister)) (c : Canister) → map seen_entry (set_value (at key) es c) ≡ set_value (at key) (map seen_entry es) (seen c)
seen-set key [] c = refl
seen-set key (e ∷ es) c = elim (cases_Bool (at key e.0)) [ inl here ↦ rw here refl | inr there ↦ rw there (ap (λ l. seen_entry e ∷ l) (seen-set key es c)) ]

each-set : (key : List ℕ) (es : List (List ℕ × Canister)) (c : Canister) → IsCanister c → AllByRecursion (λ (e : List ℕ × Canister). IsCanister e.1) es → AllByRecursion (λ (e : List ℕ × Canister). IsCanister e.1) (set_value (at key) es c)
each-set key [] c keeps all = tt
each-set key (e ∷ es) c keeps all = elim (cases_Bool (at key e.0)) [ inl here ↦ rw here (keeps, all.1) | inr there ↦ rw there (all.0, each-set key es c keeps all.1) ]

-- ---- one message

module _ (env : Env) (before after : Parts) (key : List ℕ) (m : Message) (next : IsNext env before key m) where
  pub takes : (c : Canister) → lookup (at key) before.canisters.entries ≡ Some c → CanTake env before.burned c m
  takes c found =
      let both : Some next.canister ≡ Some c = sym next.there ∙ found in
      let same : next.canister ≡ c = cc in
      subst (λ (x : Canister). CanTake env before.burned x m) same (record { handles = next.ready; room = next.room })

  module _ (went : HasHandled env key next.canister m before after) where
    stored : stored_of after ≡ after_slot_in_place env (stored_of before) (slot_of (slot_at key next.canister m))
    stored =
        let there : map seen_entry after.canisters.entries ≡ set_value (at key) (map seen_entry before.canisters.entries) (seen went.after) =
        ap (map seen_entry) went.entries ∙ seen-set key before.canisters.entries went.after in
        ap stored_of went.sent ∙ (λ i. record (put_in (stored_of before) key (done_of went.after went.done)) { canisters = there i }) ∙ ap (put_in (stored_of before) key) went.handled

    pub gone : HasGone env before key m after
    gone = record {
      canister = next.canister;
      there = next.there;
      stored = stored;
      others = λ k apart. ap (lookup (at k)) went.entries
          ∙ lookup-set_value laws (at key) (λ x y e. laws.congr key x y e) k went.after before.canisters.entries (rw next.there refl) ∙ cond-false _ _ _ apart;
    }

    pub gone_keep : AreCanisters before → AreCanisters after
    gone_keep keep = subst (AllByRecursion (λ (e : List ℕ × Canister). IsCanister e.1)) (sym went.entries) (each-set key before.canisters.entries went.after went.keeps keep)

-- ---- one after another

-- some first messages are still to be handled, and lead to this end
pub record AreLeft (env : Env) (end : Stored) (p : Parts) (firsts : List (List ℕ × Message)) : Type 0 where
  pub slots : List Slot
  pub pairs : pairs_of slots ≡ firsts
  pub theirs : AllByRecursion (IsTheirs p.canisters.entries) slots
  pub distinct : IsDistinct (eq_by_cmp (slice_cmp nat_cmp)) (keys_of firsts)
  pub ready : AreReady env (stored_of p) slots
  pub keep : AreCanisters p
  pub ends : fold (after_slot_in_place env) (stored_of p) (map slot_of slots) ≡ end

-- whether they are ready rests on what was burned alone
pub ready_too : (env : Env) (v w : Stored) (slots : List Slot) → w.burned ≡ v.burned → AreReady env v slots → AreReady env w slots
ready_too env v w [] same ready = tt
ready_too env v w (slot ∷ slots) same ready = (
  ready.0,
  omega (arith, ready.1, same),
  ready_too env (after_slot env v (slot_of slot)) (after_slot env w (slot_of slot)) slots (ap (λ n. n + (ran env (slot_of slot)).burned) same) ready.2,
)

pub begin : (env : Env) (p : Parts) (firsts : List (List ℕ × Message)) → AreFirsts p.canisters.entries firsts → AreReady env (stored_of p) (slots_of p.canisters.entries firsts) → AreCanisters p
    → AreLeft env (fold (after_slot_in_place env) (stored_of p) (map slot_of (slots_of p.canisters.entries firsts))) p firsts
begin env p firsts are ready keep = record {
  slots = slots_of p.canisters.entries firsts;
  pairs = pairs p.canisters.entries firsts are;
  theirs = theirs p.canisters.entries firsts are;
  distinct = are.distinct;
  ready = ready;
  keep = keep;
  ends = refl;
}

pub next : (env : Env) (end : Stored) (p : Parts) (f : List ℕ × Message) (firsts : List (List ℕ × Message)) → AreLeft env end p (f ∷ firsts) → IsNext env p f.0 f.1
next env end p f firsts l = by l.slots l.pairs l.theirs l.ready where
  by : (slots : List Slot) → pairs_of slots ≡ f ∷ firsts → AllByRecursion (IsTheirs p.canisters.entries) slots → AreReady env (stored_of p) slots → IsNext env p f.0 f.1
  by [] pairs theirs ready = cc
  by (slot ∷ slots) pairs theirs ready =
      let first : (slot.key, slot.message) ≡ f = cc in
      let its : IsNext env p slot.key slot.message = record { canister = slot.canister; there = theirs.0; ready = ready.0; room = ready.1 } in
      subst (λ (e : List ℕ × Message). IsNext env p e.0 e.1) first its

stay : (p q : Parts) (key : List ℕ) (slots : List Slot) → ((k : List ℕ) → at key k ≡ false → lookup (at k) q.canisters.entries ≡ lookup (at k) p.canisters.entries)
    → AllByRecursion (λ y. at key y ≡ false) (keys_of (pairs_of slots)) → AllByRecursion (IsTheirs p.canisters.entries) slots → AllByRecursion (IsTheirs q.canisters.entries) slots
stay p q key [] same apart all = tt
stay p q key (slot ∷ slots) same apart all = (same slot.key apart.0 ∙ all.0, stay p q key slots same apart.1 all.1)

pub more : (env : Env) (end : Stored) (p q : Parts) (f : List ℕ × Message) (firsts : List (List ℕ × Message)) → AreLeft env end p (f ∷ firsts) → HasGone env p f.0 f.1 q → AreCanisters q → AreLeft env end q firsts
more env end p q f firsts l went keep = by l.slots l.pairs l.theirs l.ready l.ends where
  by : (slots : List Slot) → pairs_of slots ≡ f ∷ firsts → AllByRecursion (IsTheirs p.canisters.entries) slots → AreReady env (stored_of p) slots
      → fold (after_slot_in_place env) (stored_of p) (map slot_of slots) ≡ end → AreLeft env end q firsts
  by [] pairs theirs ready ends = cc
  by (slot ∷ slots) pairs theirs ready ends =
      let first : (slot.key, slot.message) ≡ f = cc in
      let rest : pairs_of slots ≡ firsts = cc in
      let its : HasGone env p slot.key slot.message q = subst (λ (e : List ℕ × Message). HasGone env p e.0 e.1 q) (sym first) went in
      let same : Some its.canister ≡ Some slot.canister = sym its.there ∙ theirs.0 in
      let canister : its.canister ≡ slot.canister = cc in
      let stored : stored_of q ≡ after_slot_in_place env (stored_of p) (slot_of slot) = its.stored ∙ ap (λ (c : Canister). after_slot_in_place env (stored_of p) (slot_of (slot_at slot.key c slot.message))) canister in
      let apart = IsDistinct-head _ f.0 (keys_of firsts) l.distinct in
      record {
        slots = slots;
        pairs = rest;
        theirs = stay p q slot.key slots its.others
            (subst (λ (k : List ℕ). AllByRecursion (λ y. at k y ≡ false) (keys_of (pairs_of slots))) (sym (ap (λ (e : List ℕ × Message). e.0) first))
            (subst (λ (fs : List (List ℕ × Message)). AllByRecursion (λ y. at f.0 y ≡ false) (keys_of fs)) (sym rest) apart)) theirs.1;
        distinct = IsDistinct-tail _ f.0 (keys_of firsts) l.distinct;
        ready = subst (λ (w : Stored). AreReady env w slots) (sym stored) (ready_too env (after_slot env (stored_of p) (slot_of slot)) (after_slot_in_place env (stored_of p) (slot_of slot)) slots refl ready.2);
        keep = keep;
        ends = ap (λ (w : Stored). fold (after_slot_in_place env) w (map slot_of slots)) stored ∙ ends;
      }
