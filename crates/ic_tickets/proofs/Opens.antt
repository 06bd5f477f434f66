-- Passes handed out, one after another.
use Rattle.std.proofs.Common.{◌≡◌, ℕ, ◌+◌, ◌-◌, ◌<◌, ◌≤◌, List, [], ◌∷◌, ◌++◌, length, Option, sym, ap, ◌∙◌, subst, arith, length-append}
use Rattle.std.specs.List.{AllByRecursion}
use Rattle.atomic_table.specs.Seated.{TableId}
use Rattle.atomic_table.specs.Table.{Me, Splits}
use Rattle.ic_tickets.specs.declared.rule.Pass.{Pass}
use Rattle.ic_tickets.specs.declared.rule.Tickets.{Tickets}
use Rattle.ic_tickets.specs.declared.view.View.{View}
use Rattle.ic_tickets.specs.Rule.{newcomer, split_left, split_right, Kept}
use Rattle.ic_tickets.specs.Tickets.{items_of, IsOf, IsFresh}
use Rattle.ic_tickets.proofs.Lists.{each-snoc}
use Rattle.ic_tickets.proofs.Steps.{cuts}

module _ {T : Type 0} (z : TableId) (items : List T) (workers : ℕ) where
  abbrev M : Type 0
  M = Me (Option T) (View T)

  -- a pass that was handed out
  abbrev pub IsNew : Pass T → Type 0
  IsNew p = (p.seat.table_id ≡ z) × (p.seat.me.0 ≡ newcomer items 1)

  -- `made` passes are there, with the one that is kept
  pub record Opens (made : ℕ) (passes : List (Pass T)) (own : TableId) (me : M) : Type 0 where
    pub here : own ≡ z
    pub kept : me ≡ (newcomer items (workers + 1 - made), [])
    pub many : length passes + 1 ≡ made
    pub new : AllByRecursion IsNew passes

  pub Opens-first : (passes : List (Pass T)) (own : TableId) (me : M) → passes ≡ [] → own ≡ z → me ≡ (newcomer items workers, []) → Opens 1 passes own me
  Opens-first passes own me none here kept = record {
    here = here;
    kept = let same : workers ≡ workers + 1 - 1 = omega arith in kept ∙ ap (λ n. (newcomer items n, [])) same;
    many = omega (arith, ap (λ (l : List (Pass T)). length l) none);
    new = subst (AllByRecursion IsNew) (sym none) tt;
  }

  module _ (made : ℕ) (passes : List (Pass T)) (own : TableId) (me : M) (so_far : Opens made passes own me) where
    pub Opens-cuts : made < workers → (id : ℕ) → Splits (Kept items workers) id me.0 (split_left me.0) (split_right me.0)
    Opens-cuts less id = subst (λ (v : View T). Splits (Kept items workers) id v (split_left v) (split_right v)) (sym (ap (λ (m : M). m.0) so_far.kept)) (cuts items workers id (workers + 1 - made) (omega (arith, less)))

    pub Opens-more : made < workers → (next : TableId) (after : M) → next ≡ own → after ≡ (split_left me.0, me.1) → (p : Pass T) → p.seat.table_id ≡ own → p.seat.me ≡ (split_right me.0, [])
        → Opens (made + 1) (passes ++ p ∷ []) next after
    Opens-more less next after stays is p there new =
        let same : workers + 1 - made - 1 ≡ workers + 1 - (made + 1) = omega (arith, less) in
        record {
          here = stays ∙ so_far.here;
          kept = is ∙ ap (λ (m : M). (split_left m.0, m.1)) so_far.kept ∙ ap (λ n. (newcomer items n, [])) same;
          many = omega (arith, length-append passes (p ∷ []), so_far.many);
          new = each-snoc IsNew passes p so_far.new (there ∙ so_far.here, ap (λ (m : M). m.0) new ∙ ap (λ (m : M). split_right m.0) so_far.kept);
        }

    pub Opens-all : workers ≤ made → 0 < workers → made ≤ workers → (p : Pass T) → p.seat.table_id ≡ own → p.seat.me ≡ me → AllByRecursion IsNew (passes ++ p ∷ [])
    Opens-all more some less p there same =
        let one : workers + 1 - made ≡ 1 = omega (arith, more, less) in
        each-snoc IsNew passes p so_far.new (there ∙ so_far.here, ap (λ (m : M). m.0) same ∙ ap (λ (m : M). m.0) so_far.kept ∙ ap (newcomer items) one)

  pub fresh : (t : Tickets T) → t.table.shared.table_id ≡ z → items_of t ≡ items → (passes : List (Pass T)) → AllByRecursion IsNew passes → AllByRecursion (λ (p : Pass T). IsOf t p × IsFresh p) passes
  fresh t here same [] all = tt
  fresh t here same (p ∷ passes) all =
      let new = all.0.1 in
      (((all.0.0 ∙ sym here, ap (λ (v : View T). v.items) new ∙ sym same), (ap (λ (v : View T). v.numbers) new, ap (λ (v : View T). v.ends) new)), fresh t here same passes all.1)
