-- A number that was drawn, and its item.
use Rattle.std.proofs.Common.{◌≡◌, ℕ, ◌<◌, cond, eqb, List, [], ◌∷◌, ◌++◌, length, Option, Some, None, sym, ap, ◌∙◌, subst, arith, eq-eqb}
use Rattle.std.specs.Prelude.{All}
use mathlib.Core.Option.{some}
use lib.ListN.{get_elem?}
use Rattle.atomic_table.specs.Table.{Me, rest}
use Rattle.ic_tickets.specs.declared.rule.Pass.{Pass}
use Rattle.ic_tickets.specs.declared.view.View.{View}
use Rattle.ic_tickets.specs.Rule.{Gained, IsSeated, IsDrawn}
use Rattle.ic_tickets.specs.Tickets.{Draws}
use Rattle.ic_tickets.proofs.Lists.{total-append, get-some}

module _ {T : Type 0} (m : Me (Option T) (View T)) (n : ℕ) (after : Me (Option T) (View T)) (gained : Gained m.0 m.1 n after) where
  abbrev M : Type 0
  M = Me (Option T) (View T)

  held : after.1 ≡ (n, Some gained.item) ∷ rest m.1
  held = ap (λ (x : M). x.1) gained.seat

  -- the item is in hand
  pub in-hand : (x : Option T) × (after.1 ≡ (n, x) ∷ rest after.1)
  in-hand = (Some gained.item, held ∙ ap (λ r. (n, Some gained.item) ∷ r) (sym (ap rest held)))

  -- it is taken, and its place is empty
  module _ (end : M) (is : end ≡ (after.0, (n, None) ∷ rest after.1)) where
    emptied : end ≡ (record m.0 { numbers = m.0.numbers ++ n ∷ [] }, (n, None) ∷ rest m.1)
    emptied = let seat = gained.seat in is ∙ (λ i. ((seat i).0, (n, None) ∷ rest (seat i).1))

    drawn : IsDrawn (record m.0 { numbers = m.0.numbers ++ n ∷ [] }, (n, None) ∷ rest m.1)
    drawn k y r e =
        let pair : (n, None) ≡ (k, y) = cc in
        let same : n ≡ k = ap (λ (x : ℕ × Option T). x.0) pair in
        let once : cond (eqb n k) 1 0 ≡ 1 = ap {B = ℕ} (λ b. cond b 1 0) (eq-eqb n k same) in
        omega (arith, total-append (λ (x : ℕ). cond (eqb x k) 1 0) m.0.numbers (n ∷ []), once)

    pub seated-again : IsSeated m → IsSeated end
    seated-again seated = subst IsSeated (sym emptied) (seated.0, seated.1, drawn)

    pub draws-is : (items : List T) (old new : Pass T) (item : T) (out : Option T) → old.seat.me ≡ m → new.seat.me ≡ end → m.0.items ≡ items → n < length items → m.0.ends ≡ 0
        → after.1 ≡ (n, out) ∷ rest after.1 → out ≡ Some item → Draws items old n item new
    draws-is items old new item out old_is new_is of less is_open hand is_out =
        let here : (n, Some gained.item) ∷ rest m.1 ≡ (n, out) ∷ rest after.1 = sym held ∙ hand in
        let pair : (n, Some gained.item) ≡ (n, out) = cc in
        let got : Some gained.item ≡ Some item = ap (λ (x : ℕ × Option T). x.1) pair ∙ is_out in
        let item_is : gained.item ≡ item = cc in
        record {
          below = less;
          rises = subst (λ (x : M). All (λ k. k < n) x.0.numbers) (sym old_is) gained.rises;
          numbers = ap (λ (x : M). x.0.numbers) (new_is ∙ emptied) ∙ ap (λ (x : M). x.0.numbers ++ n ∷ []) (sym old_is);
          is_open = ap (λ (x : M). x.0.ends) (new_is ∙ emptied) ∙ is_open;
          is_item = get-some items n item (ap (λ l. get_elem? l n) (sym of) ∙ gained.is_item ∙ ap some item_is);
        }
