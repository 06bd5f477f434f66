-- What a clause sees of tickets and of a pass. No standard has this.
use Rattle.std.specs.Prelude.{◌≡◌, ℕ, ◌<◌, List, [], ◌∷◌, ◌++◌, length, slice_get, Some, All}
use Rattle.ic_tickets.specs.Rule.{total, times}
use Rattle.ic_tickets.specs.declared.rule.Tickets.{Tickets}
use Rattle.ic_tickets.specs.declared.rule.Pass.{Pass}

module _ {T : Type 0} where
  -- the items of the table, and how many passes it has
  abbrev pub items_of : Tickets T → List T
  items_of t = t.table.shared.key.items.value.items

  abbrev pub workers_of : Tickets T → ℕ
  workers_of t = t.table.shared.key.workers

  -- the numbers that a pass drew, in order
  abbrev pub numbers_of : Pass T → List ℕ
  numbers_of p = p.seat.me.0.numbers

  -- whether a draw found no item
  abbrev pub HasEnded : Pass T → Type 0
  HasEnded p = 0 < p.seat.me.0.ends

  abbrev pub IsOpen : Pass T → Type 0
  IsOpen p = p.seat.me.0.ends ≡ 0

  -- the pass is one of this table
  abbrev pub IsOf : Tickets T → Pass T → Type 0
  IsOf t p = (p.seat.table_id ≡ t.table.shared.table_id) × (p.seat.me.0.items ≡ items_of t)

  abbrev pub IsFresh : Pass T → Type 0
  IsFresh p = (numbers_of p ≡ []) × IsOpen p

  -- k joins the numbers of the pass, and its item is drawn
  pub record Draws (items : List T) (old : Pass T) (k : ℕ) (item : T) (new : Pass T) : Type 0 where
    pub below : k < length items
    pub rises : All (λ x. x < k) (numbers_of old)
    pub numbers : numbers_of new ≡ numbers_of old ++ k ∷ []
    pub is_open : IsOpen new
    pub is_item : slice_get items k ≡ Some item

  -- how often x is in the numbers of the passes
  abbrev pub times_drawn : ℕ → List (Pass T) → ℕ
  times_drawn x passes = total (λ (p : Pass T). times x (numbers_of p)) passes

  -- how many of the passes have ended
  abbrev pub ends_of : List (Pass T) → ℕ
  ends_of passes = total (λ (p : Pass T). p.seat.me.0.ends) passes
