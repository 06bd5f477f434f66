-- Passes taken back, one after another.
use Rattle.std.proofs.Common.{◌≡◌, ℕ, ◌+◌, ◌<◌, ◌≤◌, List, [], ◌∷◌, ◌++◌, length, Option, sym, ap, ◌∙◌, subst, arith, length-append}
use Rattle.std.specs.Prelude.{cond, eqb}
use Rattle.std.specs.List.{AllByRecursion}
use Rattle.atomic_table.specs.Seated.{TableId}
use Rattle.atomic_table.specs.Table.{Me}
use Rattle.ic_tickets.specs.declared.rule.Pass.{Pass}
use Rattle.ic_tickets.specs.declared.rule.Tickets.{Tickets}
use Rattle.ic_tickets.specs.declared.view.View.{View}
use Rattle.ic_tickets.specs.Rule.{times, once_below, joined}
use Rattle.ic_tickets.specs.Tickets.{items_of, workers_of, numbers_of, IsOf, times_drawn, ends_of}
use Rattle.ic_tickets.proofs.Lists.{total-append, each-split}

module _ {T : Type 0} where
  -- of all passes the others are still to be taken back
  pub record Closes (t : Tickets T) (all others : List (Pass T)) (z : TableId) (me : Me (Option T) (View T)) : Type 0 where
    pub here : z ≡ t.table.shared.table_id
    pub items : me.0.items ≡ items_of t
    pub share : me.0.share + length others ≡ workers_of t
    pub has : 0 < me.0.share
    pub own : AllByRecursion (IsOf t) others
    pub numbers : (x : ℕ) → times x me.0.numbers + times_drawn x others ≡ times_drawn x all
    pub ends : me.0.ends + ends_of others ≡ ends_of all

  pub Closes-first : (t : Tickets T) (all others : List (Pass T)) (p : Pass T) → AllByRecursion (IsOf t) all → length all ≡ workers_of t → all ≡ others ++ p ∷ []
      → Closes t all others p.seat.table_id p.seat.me
  Closes-first t all others p own many is =
      let apart = each-split (IsOf t) others p (subst (AllByRecursion (IsOf t)) is own) in
      record {
        here = apart.1.0;
        items = apart.1.1;
        share = omega (arith, ap length is, length-append others (p ∷ []), many, p.seated.0);
        has = omega (arith, p.seated.0);
        own = apart.0;
        numbers = λ x. omega (arith, ap (times_drawn x) is, total-append (λ (q : Pass T). times x (numbers_of q)) others (p ∷ []));
        ends = omega (arith, ap ends_of is, total-append (λ (q : Pass T). q.seat.me.0.ends) others (p ∷ []));
      }

  pub Closes-own : (t : Tickets T) (all others fewer : List (Pass T)) (z : TableId) (me : Me (Option T) (View T)) (p : Pass T) → Closes t all others z me → others ≡ fewer ++ p ∷ [] → IsOf t p
  Closes-own t all others fewer z me p so_far is = (each-split (IsOf t) fewer p (subst (AllByRecursion (IsOf t)) is so_far.own)).1

  pub Closes-more : (t : Tickets T) (all others fewer : List (Pass T)) (z next : TableId) (me after : Me (Option T) (View T)) (p : Pass T) → Closes t all others z me → others ≡ fewer ++ p ∷ []
      → next ≡ z → after ≡ (joined me.0 p.seat.me.0, me.1) → Closes t all fewer next after
  Closes-more t all others fewer z next me after p so_far is stays same =
      let apart = each-split (IsOf t) fewer p (subst (AllByRecursion (IsOf t)) is so_far.own) in
      subst (Closes t all fewer next) (sym same) (record {
        here = stays ∙ so_far.here;
        items = so_far.items;
        share = omega (arith, so_far.share, ap length is, length-append fewer (p ∷ []), p.seated.0);
        has = omega (arith, so_far.has);
        own = apart.0;
        numbers = λ x. omega (
          arith,
          so_far.numbers x,
          ap (times_drawn x) is,
          total-append (λ (q : Pass T). times x (numbers_of q)) fewer (p ∷ []),
          total-append (λ (y : ℕ). cond (eqb y x) 1 0) me.0.numbers p.seat.me.0.numbers,
        );
        ends = omega (arith, so_far.ends, ap ends_of is, total-append (λ (q : Pass T). q.seat.me.0.ends) fewer (p ∷ []));
      })

  -- all are taken back
  pub Closes-last : (t : Tickets T) (all : List (Pass T)) (z : TableId) (me : Me (Option T) (View T)) (others : List (Pass T)) → Closes t all others z me → length others ≡ 0
      → ((x : ℕ) → times x me.0.numbers ≤ 1) → (0 < me.0.ends → (x : ℕ) → times x me.0.numbers ≡ once_below x (length (items_of t)))
      → ((x : ℕ) → times_drawn x all ≤ 1) × (0 < ends_of all → (x : ℕ) → times_drawn x all ≡ once_below x (length (items_of t)))
  Closes-last t all z me [] so_far none once whole =
      ((λ x. omega (arith, so_far.numbers x, once x)), λ ended x. omega (arith, so_far.numbers x, whole (omega (arith, so_far.ends, ended)) x))
  Closes-last t all z me (p ∷ others) so_far none once whole = absurd (omega (arith, none))
