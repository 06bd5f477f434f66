-- One worker draws slots, one after another.
use Rattle.std.proofs.Common.{◌≡◌, ℕ, suc, ◌+◌, ◌-◌, ◌<◌, ◌≤◌, List, [], ◌∷◌, ◌++◌, length, refl, sym, ap, ◌∙◌, subst, arith, length-append}
use Rattle.std.specs.Prelude.{All}
use Rattle.std.specs.List.{AllByRecursion}
use Rattle.std.proofs.lemmas.List.{map-append}
use Rattle.ic_behaviour.specs.declared.env.Env.{Env}
use Rattle.ic_tickets.specs.declared.rule.Pass.{Pass}
use Rattle.ic_tickets.specs.declared.rule.Tickets.{Tickets}
use Rattle.ic_tickets.specs.Tickets.{items_of, numbers_of, IsOpen, IsOf, Draws}
use Rattle.ic_rounds.specs.declared.slot.Slot.{Slot}
use Rattle.ic_rounds.specs.declared.worker.Worker.{Worker}
use Rattle.ic_rounds.specs.Slots.{IsReady}
use Rattle.ic_rounds.specs.HandledSlots.{Entry, entry}
use Rattle.ic_rounds.specs.Workers.{entry_numbers, IsAt, IsBy, AreNumbered}
use Rattle.ic_rounds.proofs.Elements.{each-at, each-snoc}

-- the number after the last one
abbrev pub after_last : List ℕ → ℕ
after_last [] = 0
after_last (x ∷ []) = x + 1
after_last (x ∷ y ∷ ys) = after_last (y ∷ ys)

after-snoc : (xs : List ℕ) (k : ℕ) → after_last (xs ++ k ∷ []) ≡ k + 1
after-snoc [] k = refl
after-snoc (x ∷ []) k = refl
after-snoc (x ∷ y ∷ ys) k = after-snoc (y ∷ ys) k

after-below : (xs : List ℕ) (k : ℕ) → All (λ x. x < k) xs → after_last xs ≤ k
after-below [] k all = omega arith
after-below (x ∷ []) k all = let first : x < k = all 0 0 (omega arith) in omega (arith, first)
after-below (x ∷ y ∷ ys) k all = after-below (y ∷ ys) k (λ i d inside. all (suc i) d (omega (arith, inside)))

pub numbered-snoc : (n : ℕ) (ws : List Worker) (w : Worker) → AreNumbered n ws → w.number ≡ n + length ws → AreNumbered n (ws ++ w ∷ [])
numbered-snoc n [] w all is = (omega (arith, is), tt)
numbered-snoc n (x ∷ ws) w all is = (all.0, numbered-snoc (n + 1) ws w all.1 (omega (arith, is)))

-- how far a worker is
pub record Works (t : Tickets Slot) (env : Env) (worker : ℕ) (pass : Pass Slot) (entries : List Entry) : Type 0 where
  pub own : IsOf t pass
  pub is_open : IsOpen pass
  pub numbers : entry_numbers entries ≡ numbers_of pass
  pub entries_are : AllByRecursion (IsAt (items_of t) env) entries
  pub by : AllByRecursion (IsBy worker) entries
  pub few : length entries ≤ after_last (numbers_of pass)
  pub within : after_last (numbers_of pass) ≤ length (items_of t)

module _ (t : Tickets Slot) (env : Env) where
  module _ (worker : ℕ) (pass new : Pass Slot) (entries : List Entry) (so_far : Works t env worker pass entries) (k : ℕ) (item : Slot) (draws : Draws (items_of t) pass k item new) where
    below : after_last (numbers_of pass) ≤ k
    below = after-below (numbers_of pass) k draws.rises

    -- there is room for one more
    pub Works-room : length entries < length (items_of t)
    Works-room = omega (arith, so_far.few, below, draws.below)

    pub Works-falls : length (items_of t) - after_last (numbers_of new) < length (items_of t) - after_last (numbers_of pass)
    Works-falls = omega (arith, below, draws.below, ap after_last draws.numbers, after-snoc (numbers_of pass) k)

    pub Works-ready : AllByRecursion IsReady (items_of t) → IsReady item
    Works-ready all = each-at IsReady (items_of t) k item all draws.is_item

    pub Works-more : IsOf t new → (after : List Entry) → after ≡ entries ++ entry worker k item env ∷ [] → Works t env worker new after
    Works-more own after same =
        let e = entry worker k item env in
        subst (Works t env worker new) (sym same) (record {
          own = own;
          is_open = draws.is_open;
          numbers = map-append (λ (f : Entry). f.number) entries (e ∷ []) ∙ ap (λ l. l ++ k ∷ []) so_far.numbers ∙ sym draws.numbers;
          entries_are = each-snoc (IsAt (items_of t) env) entries e so_far.entries_are (draws.is_item, refl);
          by = each-snoc (IsBy worker) entries e so_far.by refl;
          few = omega (arith, length-append entries (e ∷ []), so_far.few, below, ap after_last draws.numbers, after-snoc (numbers_of pass) k);
          within = omega (arith, draws.below, ap after_last draws.numbers, after-snoc (numbers_of pass) k);
        })
