-- The rule of the tickets, between any two steps. No standard has this.
use Rattle.std.specs.Prelude.{◌≡◌, ℕ, ◌+◌, ◌-◌, ◌<◌, ◌≤◌, cond, ltb, ◌==◌, List, [], ◌∷◌, ◌++◌, length, slice_index, Option, Some, All}
use mathlib.Core.Option.{some}
use lib.ListN.{get_elem?}
use Rattle.atomic_table.specs.Seated.{TableId}
use Rattle.atomic_table.specs.Table.{State, Me, Step, rest}
use Rattle.ic_tickets.specs.declared.view.View.{View}

-- f of each, added up
abbrev pub total : {A : Type 0} → (A → ℕ) → List A → ℕ
total f [] = 0
total f (x ∷ xs) = f x + total f xs

-- how often x is in the list
abbrev pub times : ℕ → List ℕ → ℕ
times x ys = total (λ y. cond (y == x) 1 0) ys

-- 1 below n, and 0 from there on
abbrev pub once_below : ℕ → ℕ → ℕ
once_below x n = cond (ltb x n) 1 0

module _ {T : Type 0} where
  abbrev pub view_of : List T → List ℕ → ℕ → ℕ → View T
  view_of items numbers share ends = record { items = items; numbers = numbers; share = share; ends = ends }

  -- nothing is drawn yet
  abbrev pub newcomer : List T → ℕ → View T
  newcomer items share = view_of items [] share 0

  abbrev pub spent_view : View T
  spent_view = view_of [] [] 0 0

  -- a pass gives up a part of its share, and a new pass has it
  abbrev pub split_left : View T → View T
  split_left v = record v { share = v.share - 1 }

  abbrev pub split_right : View T → View T
  split_right v = newcomer v.items 1

  abbrev pub joined : View T → View T → View T
  joined v w = view_of v.items (v.numbers ++ w.numbers) (v.share + w.share) (v.ends + w.ends)

  -- ---- what holds of each view, and of all

  pub record IsView (items : List T) (v : View T) : Type 0 where
    pub same : 0 < v.share → v.items ≡ items
    pub spent : v.share ≡ 0 → (v.numbers ≡ []) × (v.ends ≡ 0)
    pub bound : v.ends ≤ v.share

  -- The word is the sum of the lengths of all lists and of all ends. The numbers below `out` are drawn,
  -- each is in one list once, and the others' items are at home.
  pub record Kept (items : List T) (workers : ℕ) (s : State (Option T) (View T)) : Type 0 where
    pub small : (workers ≤ 64) × (length items ≤ 64)
    pub one_word : length s.words ≡ 1
    pub shares : total (λ (v : View T). v.share) s.views ≡ workers
    pub each_view : (id : ℕ) (v : View T) → get_elem? s.views id ≡ some v → IsView items v
    pub out : ℕ
    pub within : out ≤ length items
    pub once : (x : ℕ) → total (λ (v : View T). times x v.numbers) s.views ≡ once_below x out
    pub lists : total (λ (v : View T). length v.numbers) s.views ≡ out
    pub word : slice_index s.words 0 ≡ out + total (λ (v : View T). v.ends) s.views
    pub full : 0 < total (λ (v : View T). v.ends) s.views → out ≡ length items
    pub at_home : (k : ℕ) (x : T) → out ≤ k → get_elem? items k ≡ some x → get_elem? s.homes k ≡ some (some (Some x))

  -- ---- what a step tells its pass

  -- the number joins the list, and its item is in hand
  pub record Gained (v : View T) (held : List (ℕ × Option T)) (n : ℕ) (after : Me (Option T) (View T)) : Type 0 where
    pub item : T
    pub is_item : get_elem? v.items n ≡ some item
    pub rises : All (λ k. k < n) v.numbers
    pub seat : after ≡ (record v { numbers = v.numbers ++ n ∷ [] }, (n, Some item) ∷ rest held)

  abbrev pub drew : Step (Option T) → Me (Option T) (View T) → ℕ → Me (Option T) (View T) → Type 0
  drew s m n after = (n < length m.0.items → Gained m.0 m.1 n after) × (length m.0.items ≤ n → after ≡ (record m.0 { ends = m.0.ends + 1 }, rest m.1))

  abbrev pub laid : Step (Option T) → Me (Option T) (View T) → ℕ → Me (Option T) (View T) → Type 0
  laid s m n after = after ≡ (m.0, rest m.1)

  -- what a pass still holds is the place of a number that it drew
  abbrev pub IsDrawn : Me (Option T) (View T) → Type 0
  IsDrawn m = (k : ℕ) (y : Option T) (r : List (ℕ × Option T)) → m.1 ≡ (k, y) ∷ r → 0 < times k m.0.numbers

  -- a pass that was handed out
  abbrev pub IsSeated : Me (Option T) (View T) → Type 0
  IsSeated m = (m.0.share ≡ 1) × (rest m.1 ≡ []) × IsDrawn m

  abbrev pub IsSized : TableId → List T → ℕ → Type 0
  IsSized z items workers = (z.words ≡ 1) × (z.slots ≡ length items) × (length items ≤ 64) × (0 < workers) × (workers ≤ 64)
