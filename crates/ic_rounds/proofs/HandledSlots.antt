-- Slots that are handled one after another.
use Rattle.std.proofs.Common.{◌≡◌, ℕ, ◌+◌, ◌-◌, ◌<◌, ◌≤◌, ◌^◌, List, [], ◌∷◌, ◌++◌, map, length, take, refl, sym, ap, ◌∙◌, subst, arith, not-suc-le-zero}
use Rattle.std.specs.Prelude.{get_or}
use Rattle.std.specs.List.{fold, AllByRecursion, AllZip}
use Rattle.std.specs.BTreeMap.{BTreeMap, insert_entry}
use Rattle.std.specs.declared.cmp.Ordering.{Ordering}
use Rattle.std.specs.declared.cmp.Ordering.TheVariants.{Less, Equal, Greater}
use Rattle.std.specs.Ordering.{nat_cmp, match_ordering}
use Rattle.std.specs.Cmp.Lexicographic.{slice_cmp}
use Rattle.std.proofs.lemmas.List.Sums.{fold-append}
use Rattle.ic_behaviour.specs.declared.env.Env.{Env}
use Rattle.ic_behaviour.specs.Closing.{Handled}
use Rattle.ic_state.specs.declared.canister.Canister.{Canister as StoredCanister}
use Rattle.ic_state.specs.declared.world.Parts.{Parts}
use Rattle.ic_state.specs.Seen.{seen}
use Rattle.ic_state.specs.IsCanister.{IsCanister}
use Rattle.ic_deliver.specs.Delivered.{with_sent}
use Rattle.ic_rounds.specs.declared.slot.Slot.{Slot as StoredSlot}
use Rattle.ic_rounds.specs.declared.handled_slot.HandledSlot.{HandledSlot}
use Rattle.ic_rounds.specs.HandledSlots.{IsHandled, put_handled, insert_all, AreHandled}
use Rattle.ic_rounds.specs.Slots.{Stored, seen_entry, stored_of, slot_of, put, after_slot, IsReady, AreReady, AreCanisters}

-- ---- the map of canisters

seen-insert : (es : List (List ℕ × StoredCanister)) (k : List ℕ) (c : StoredCanister)
    → map seen_entry (insert_entry (slice_cmp nat_cmp) es k c) ≡ insert_entry (slice_cmp nat_cmp) (map seen_entry es) k (seen c)
seen-insert [] k c = refl
seen-insert (e ∷ es) k c = by (slice_cmp nat_cmp k e.0) (seen-insert es k c) where
  by : (o : Ordering) → map seen_entry (insert_entry (slice_cmp nat_cmp) es k c) ≡ insert_entry (slice_cmp nat_cmp) (map seen_entry es) k (seen c)
      → map seen_entry (match_ordering o ((k, c) ∷ e ∷ es) ((e.0, c) ∷ es) (e ∷ insert_entry (slice_cmp nat_cmp) es k c))
      ≡ match_ordering o ((k, seen c) ∷ seen_entry e ∷ map seen_entry es) ((e.0, seen c) ∷ map seen_entry es) (seen_entry e ∷ insert_entry (slice_cmp nat_cmp) (map seen_entry es) k (seen c))
  by Less more = refl
  by Equal more = refl
  by Greater more = ap (λ l. seen_entry e ∷ l) more

each-insert : (P : StoredCanister → Type 0) (es : List (List ℕ × StoredCanister)) (k : List ℕ) (c : StoredCanister) → P c
    → AllByRecursion (λ (e : List ℕ × StoredCanister). P e.1) es → AllByRecursion (λ (e : List ℕ × StoredCanister). P e.1) (insert_entry (slice_cmp nat_cmp) es k c)
each-insert P [] k c here all = (here, tt)
each-insert P (e ∷ es) k c here all = by (slice_cmp nat_cmp k e.0) (each-insert P es k c here all.1) where
  by : (o : Ordering) → AllByRecursion (λ (e : List ℕ × StoredCanister). P e.1) (insert_entry (slice_cmp nat_cmp) es k c)
      → AllByRecursion (λ (e : List ℕ × StoredCanister). P e.1) (match_ordering o ((k, c) ∷ e ∷ es) ((e.0, c) ∷ es) (e ∷ insert_entry (slice_cmp nat_cmp) es k c))
  by Less more = (here, all)
  by Equal more = (here, all.1)
  by Greater more = (all.0, more)

-- ---- one slot

module _ (before after : Parts) (x : HandledSlot) (m : BTreeMap (List ℕ) StoredCanister) (back : m.entries ≡ insert_entry (slice_cmp nat_cmp) before.canisters.entries x.key x.canister)
    (sent : after ≡ with_sent x.key x.done (record before { canisters = m })) where
  pub put-is : stored_of after ≡ put_handled (stored_of before) x
  put-is =
      let canisters : map seen_entry m.entries ≡ insert_entry (slice_cmp nat_cmp) (map seen_entry before.canisters.entries) x.key (seen x.canister) =
      ap (map seen_entry) back ∙ seen-insert before.canisters.entries x.key x.canister in
      ap stored_of sent ∙ (λ i. record (put_handled (stored_of before) x) { canisters = canisters i })

  pub keep-is : IsCanister x.canister → AreCanisters before → AreCanisters after
  keep-is keeps all =
      subst AreCanisters (sym sent)
      (subst (AllByRecursion (λ (e : List ℕ × StoredCanister). IsCanister e.1)) (sym back) (each-insert IsCanister before.canisters.entries x.key x.canister keeps all))

-- ---- the map is made at the end

-- handled slots were put, their canisters are aside
pub record Aside (w : Stored) (handled : List HandledSlot) (p : Parts) (pairs : List (List ℕ × StoredCanister)) : Type 0 where
  pub others : stored_of p ≡ record (fold put_handled w handled) { canisters = [] }
  pub canisters : map seen_entry (insert_all pairs) ≡ (fold put_handled w handled).canisters
  pub keep : AllByRecursion (λ (e : List ℕ × StoredCanister). IsCanister e.1) (insert_all pairs)

pub Aside-more : (w : Stored) (handled : List HandledSlot) (p after : Parts) (pairs : List (List ℕ × StoredCanister)) (x : HandledSlot) → Aside w handled p pairs → IsCanister x.canister
    → after ≡ with_sent x.key x.done p → Aside w (handled ++ x ∷ []) after (pairs ++ (x.key, x.canister) ∷ [])
Aside-more w handled p after pairs x so_far keeps after_is =
    let put_more = sym (fold-append put_handled w handled (x ∷ [])) in
    let insert_more = fold-append (λ (es : List (List ℕ × StoredCanister)) (e : List ℕ × StoredCanister). insert_entry (slice_cmp nat_cmp) es e.0 e.1) [] pairs ((x.key, x.canister) ∷ []) in
    record {
      others = ap stored_of after_is ∙ ap (λ (v : Stored). record (put_handled v x) { canisters = v.canisters }) so_far.others ∙ ap (λ (v : Stored). record v { canisters = [] }) put_more;
      canisters = ap (map seen_entry) insert_more ∙ seen-insert (insert_all pairs) x.key x.canister
          ∙ ap (λ l. insert_entry (slice_cmp nat_cmp) l x.key (seen x.canister)) so_far.canisters ∙ ap (λ (v : Stored). v.canisters) put_more;
      keep = subst (AllByRecursion (λ (e : List ℕ × StoredCanister). IsCanister e.1)) (sym insert_more) (each-insert IsCanister (insert_all pairs) x.key x.canister keeps so_far.keep);
    }

-- ---- slots in their order

pub all-ready : (env : Env) (w : Stored) (slots : List StoredSlot) → AreReady env w slots → AllByRecursion IsReady slots
all-ready env w [] ready = tt
all-ready env w (slot ∷ slots) ready = (ready.0, all-ready env (after_slot env w (slot_of slot)) slots ready.2)

-- what came of a slot is put as the slot's message says
put-same : (env : Env) (w : Stored) (slot : StoredSlot) (x : HandledSlot) → IsHandled env slot x → put_handled w x ≡ after_slot env w (slot_of slot)
put-same env w slot x is =
    let key = is.key in
    let done = is.done in
    λ i. put w (key i) (done i)

pub are_handled : (env : Env) (w : Stored) (slots : List StoredSlot) (all : List HandledSlot) → AreReady env w slots → AllZip (IsHandled env) slots all → AreHandled w all
are_handled env w [] [] ready zip = tt
are_handled env w [] (y ∷ all) ready zip = absurd zip
are_handled env w (slot ∷ slots) [] ready zip = absurd zip
are_handled env w (slot ∷ slots) (y ∷ all) ready zip =
    (zip.0.keeps, omega (arith, ready.1, ap (λ (h : Handled). h.burned) zip.0.done), subst (λ (v : Stored). AreHandled v all) (sym (put-same env w slot y zip.0)) (are_handled env (after_slot env w (slot_of slot)) slots all ready.2 zip.1))

pub handled_fits : (w : Stored) (all front : List HandledSlot) (x : HandledSlot) → AreHandled w all → length front < length all → x ≡ get_or all (length front) x → front ≡ take (length front) all
    → IsCanister x.canister × ((fold put_handled w front).burned + x.done.burned ≤ 2 ^ 127 - 1)
handled_fits w [] front x handled inside is so_far = absurd (not-suc-le-zero inside)
handled_fits w (y ∷ all) [] x handled inside is so_far = subst (λ (z : HandledSlot). IsCanister z.canister × (w.burned + z.done.burned ≤ 2 ^ 127 - 1)) (sym is) (handled.0, handled.1)
handled_fits w (y ∷ all) (z ∷ front) x handled inside is so_far =
    let first : z ≡ y = cc in
    let rest : front ≡ take (length front) all = cc in
    let more = handled_fits (put_handled w y) all front x handled.2 (omega (arith, inside)) is rest in
    subst (λ (v : HandledSlot). IsCanister x.canister × ((fold put_handled (put_handled w v) front).burned + x.done.burned ≤ 2 ^ 127 - 1)) (sym first) more

pub handled_all : (env : Env) (w : Stored) (slots : List StoredSlot) (all : List HandledSlot) → AllZip (IsHandled env) slots all → fold put_handled w all ≡ fold (after_slot env) w (map slot_of slots)
handled_all env w [] [] zip = refl
handled_all env w [] (y ∷ all) zip = absurd zip
handled_all env w (slot ∷ slots) [] zip = absurd zip
handled_all env w (slot ∷ slots) (y ∷ all) zip =
    ap (λ (v : Stored). fold put_handled v all) (put-same env w slot y zip.0) ∙ handled_all env (after_slot env w (slot_of slot)) slots all zip.1
