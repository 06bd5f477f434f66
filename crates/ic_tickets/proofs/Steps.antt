-- Each kind of step keeps the rule.
use Rattle.std.proofs.Common.{◌≡◌, ◌≢◌, ℕ, ◌+◌, ◌%◌, ◌^◌, ◌<◌, ◌≤◌, List, [], ◌∷◌, ◌++◌, map, length, get_or, Option, Some, refl, sym, ap, ◌∙◌, subst, inl, inr, ⊎_elim, arith}
use Rattle.std.specs.Prelude.{cond, eqb, slice_index, slice_set, All}
use Rattle.std.proofs.lemmas.List.{length-set, get_or-set_same, length-append}
use Rattle.std.proofs.lemmas.Bool.{cases_lt}
use Rattle.std.proofs.Math.Nat.{mod-eq_of_lt}
use mathlib.Core.Option.{some, none}
use lib.ListN.{get_elem?}
use Rattle.atomic_table.specs.Table.{State, Me, Step, Act, Valid, stepped, carried_after, put_back, takes, gives, chain, opening, Allows, Splits, Joins, Final, Seen}
use Rattle.atomic_table.proofs.Lists.{at_set, at_snoc, at_map, set_else}
use Rattle.ic_tickets.specs.declared.view.View.{View}
use Rattle.ic_tickets.specs.Rule.{total, times, once_below, newcomer, spent_view, split_left, split_right, joined, IsView, Kept, drew, laid, IsSeated}
use Rattle.ic_tickets.proofs.Lists.{get-within, total-append, total-set, total-at, total-below, total-alone, once-more, once-small, once-below, once-none, times-in}

module _ {T : Type 0} (items : List T) (workers : ℕ) where
  abbrev V : Type 0
  V = View T

  abbrev S : Type 0
  S = State (Option T) V

  abbrev share : V → ℕ
  share v = v.share

  abbrev ends : V → ℕ
  ends v = v.ends

  abbrev many : V → ℕ
  many v = length v.numbers

  abbrev often : ℕ → V → ℕ
  often x v = times x v.numbers

  -- nothing is drawn yet
  pub begins : (0 < workers) × (workers ≤ 64) → length items ≤ 64 → Kept items workers (opening (0 ∷ []) (map Some items) (newcomer items workers))
  begins workers_fit few = record {
    small = (workers_fit.1, few);
    one_word = refl;
    shares = omega arith;
    each_view = one;
    out = 0;
    within = omega arith;
    once = λ x. sym (once-none x);
    lists = refl;
    word = refl;
    full = λ h. absurd (omega (arith, h));
    at_home = λ k x above is. at_map some (map Some items) k (Some x) (at_map Some items k x is);
  } where
    one : (id : ℕ) (v : V) → get_elem? (newcomer items workers ∷ []) id ≡ some v → IsView items v
    one id v e = elim (at_snoc [] (newcomer items workers) v id e) [
      | inl here ↦ absurd cc
      | inr is ↦ subst (IsView items) is (record { same = λ h. refl; spent = λ h. absurd (omega (arith, h, workers_fit.0)); bound = omega arith })
    ]

  module _ (s : S) (k : Kept items workers s) where
    few-ends : total ends s.views ≤ 64
    few-ends = omega (arith, total-below ends share s.views (λ i v e. (k.each_view i v e).bound), k.shares, k.small.0)

    -- the pass id has another view, and the others have theirs
    module _ (id : ℕ) (v w : V) (at : get_elem? s.views id ≡ some v) where
      changes : IsView items w → w.share ≡ v.share → (out : ℕ) → out ≤ length items
          → ((x : ℕ) → once_below x k.out + often x w ≡ once_below x out + often x v)
          → k.out + many w ≡ out + many v
          → (m : ℕ)
          → ((e : ℕ) → e + v.ends ≡ total ends s.views + w.ends → (m ≡ out + e) × (0 < e → out ≡ length items))
          → (homes : List (mathlib.Core.Option.Option (Option T)))
          → ((n : ℕ) (x : T) → out ≤ n → get_elem? items n ≡ some x → get_elem? homes n ≡ some (some (Some x)))
          → Kept items workers (record { words = slice_set s.words 0 m; homes = homes; views = slice_set s.views id w })
      changes is_view same out within once lists m word homes at_home =
          let end = word (total ends (slice_set s.views id w)) (total-set ends s.views id v w at) in
          record {
            small = k.small;
            one_word = length-set s.words 0 m ∙ k.one_word;
            shares = omega (arith, total-set share s.views id v w at, same, k.shares);
            each_view = λ j u e. ⊎_elim (λ h. subst (IsView items) h.1 is_view) (λ h. k.each_view j u h.1) (at_set s.views id j w u e);
            out = out;
            within = within;
            once = λ x. omega (arith, total-set (often x) s.views id v w at, k.once x, once x);
            lists = omega (arith, total-set many s.views id v w at, k.lists, lists);
            word = get_or-set_same s.words 0 m 0 (omega (arith, k.one_word)) ∙ end.0;
            full = end.1;
            at_home = at_home;
          }

    module _ (id : ℕ) (me : Me (Option T) V) (at : get_elem? s.views id ≡ some me.0) (of : me.0.items ≡ items) (seated : IsSeated me) where
      abbrev n : ℕ
      n = slice_index s.words 0

      -- the place that the pass still holds is that of a drawn number
      still : (i : ℕ) (x : T) → k.out ≤ i → get_elem? items i ≡ some x → get_elem? (put_back s.homes me.1) i ≡ some (some (Some x))
      still i x above is = put me.1 refl where
        put : (held : List (ℕ × Option T)) → me.1 ≡ held → get_elem? (put_back s.homes held) i ≡ some (some (Some x))
        put [] same = k.at_home i x above is
        put (h ∷ r) same =
            let drawn = once-below h.0 k.out (omega (arith, seated.2 h.0 h.1 r same, total-at (often h.0) s.views id me.0 at, k.once h.0)) in
            set_else s.homes h.0 i (some h.1) (λ e. omega (arith, e, drawn, above)) ∙ k.at_home i x above is

      below-count : n < length items → (k.out ≡ n) × (total ends s.views ≡ 0)
      below-count less = elim (cases_lt 0 (total ends s.views)) [
        | inl ended ↦ absurd (omega (arith, k.full ended, k.word, less))
        | inr open_all ↦ (omega (arith, k.word, open_all), omega (arith, open_all))
      ]

      past-count : length items ≤ n → k.out ≡ length items
      past-count more = elim (cases_lt 0 (total ends s.views)) [
        | inl ended ↦ k.full ended
        | inr open_all ↦ omega (arith, k.word, open_all, k.within, more)
      ]

      next : (n + 1) % 2 ^ 64 ≡ n + 1
      next = mod-eq_of_lt (omega (arith, k.word, few-ends, k.within, k.small.1))

      abbrev Told : (ℕ → ℕ) → (ℕ → Me (Option T) V → Type 0) → Type 0
      Told f then = (w : V) × (a : Act (Option T)) × Valid s.homes me.1 a
          × Kept items workers (stepped s 0 (f n) id me.1 w a) × then n (w, carried_after me.1 a)

      module _ (st : Step (Option T)) (is_open : me.0.ends ≡ 0) where
        gains : n < length items → Told (λ i. (i + 1) % 2 ^ 64) (drew st me)
        gains less =
            let c = below-count less in
            let item = get-within items n less in
            let x : T = item.0 in
            let w : V = record me.0 { numbers = me.0.numbers ++ n ∷ [] } in
            let is_view = k.each_view id me.0 at in
            let homes = slice_set (put_back s.homes me.1) n none in
            let kept = changes id me.0 w at
            (record { same = is_view.same; spent = λ h. absurd (omega (arith, h, seated.0)); bound = is_view.bound })
            refl (n + 1) (omega (arith, less))
            (λ i. omega (arith, total-append (λ y. cond (eqb y i) 1 0) me.0.numbers (n ∷ []), once-more i n, ap (once_below i) c.0))
            (omega (arith, length-append me.0.numbers (n ∷ []), c.0))
            (n + 1) (λ e h. (omega (arith, h, c.1), λ ended. absurd (omega (arith, h, c.1, ended))))
            homes
            (λ i y above is. set_else (put_back s.homes me.1) n i none (λ e. omega (arith, e, above)) ∙ still i y (omega (arith, above, c.0)) is) in (
              w,
              chain gives (takes n (Some x)),
              (tt, still n x (omega (arith, c.0)) item.1),
              subst (λ m. Kept items workers (record { words = slice_set s.words 0 m; homes = homes; views = slice_set s.views id w })) (sym next) kept,
              (
                (λ within. record {
                  item = x;
                  is_item = ap (λ l. get_elem? l n) of ∙ item.1;
                  rises = rises c.0;
                  seat = refl;
                }),
                λ past. absurd (omega (arith, past, less, ap length of)),
              ),
            ) where
              rises : k.out ≡ n → All (λ i. i < n) me.0.numbers
              rises is i d lt =
                  let y = get_or me.0.numbers i d in
                  let below = once-below y k.out (omega (arith, times-in me.0.numbers i d lt, total-at (often y) s.views id me.0 at, k.once y)) in
                  omega (arith, below, is)

        stops : length items ≤ n → Told (λ i. (i + 1) % 2 ^ 64) (drew st me)
        stops more =
            let all = past-count more in
            let w : V = record me.0 { ends = me.0.ends + 1 } in
            let is_view = k.each_view id me.0 at in
            let kept = changes id me.0 w at
            (record { same = is_view.same; spent = λ h. absurd (omega (arith, h, seated.0)); bound = omega (arith, is_open, seated.0) })
            refl k.out k.within (λ i. refl) refl (n + 1) (λ e h. (omega (arith, h, k.word), λ ended. all))
            (put_back s.homes me.1) still in (
              w,
              gives,
              tt,
              subst (λ m. Kept items workers (record { words = slice_set s.words 0 m; homes = put_back s.homes me.1; views = slice_set s.views id w })) (sym next) kept,
              ((λ within. absurd (omega (arith, within, more, ap length of))), λ past. refl),
            )

      lays : (st : Step (Option T)) → Told (λ i. i) (laid st me)
      lays st = (
        me.0,
        gives,
        tt,
        changes id me.0 me.0 at (k.each_view id me.0 at) refl k.out k.within (λ i. refl) refl n
            (λ e h. let same : e ≡ total ends s.views = omega (arith, h) in (omega (arith, same, k.word), λ ended. k.full (omega (arith, same, ended))))
            (put_back s.homes me.1) still,
        refl,
      )

  pub draws : (slots id : ℕ) (me : Me (Option T) V) (st : Step (Option T)) → me.0.items ≡ items → IsSeated me → me.0.ends ≡ 0
      → Allows (Kept items workers) slots id me 0 (λ i. (i + 1) % 2 ^ 64) (drew st me)
  draws slots id me st of seated is_open s k long at fits = elim (cases_lt (slice_index s.words 0) (length items)) [
    | inl less ↦ gains s k id me at of seated st is_open less
    | inr more ↦ stops s k id me at of seated st is_open more
  ]

  pub lays-out : (slots id : ℕ) (me : Me (Option T) V) (st : Step (Option T)) → me.0.items ≡ items → IsSeated me
      → Allows (Kept items workers) slots id me 0 (λ i. i) (laid st me)
  lays-out slots id me st of seated s k long at fits = lays s k id me at of seated st

  pub cuts : (id many_left : ℕ) → 1 < many_left → Splits (Kept items workers) id (newcomer items many_left) (split_left (newcomer items many_left)) (split_right (newcomer items many_left))
  cuts id many_left above s k at =
      let v : V = newcomer items many_left in
      let w : V = split_left v in
      let u : V = split_right v in
      let f : (g : V → ℕ) → total g (slice_set s.views id w ++ u ∷ []) + g v ≡ total g s.views + g w + g u =
      λ g. omega (arith, total-append g (slice_set s.views id w) (u ∷ []), total-set g s.views id v w at) in
      record {
        small = k.small;
        one_word = k.one_word;
        shares = omega (arith, f share, k.shares, above);
        each_view = λ j y e. ⊎_elim
            (λ h. ⊎_elim
            (λ (t : (j ≡ id) × (w ≡ y)). subst (IsView items) t.1 (record { same = λ h. refl; spent = λ h. absurd (omega (arith, h, above)); bound = omega arith }))
            (λ (t : (j ≢ id) × (get_elem? s.views j ≡ some y)). k.each_view j y t.1)
            (at_set s.views id j w y h))
            (λ (h : u ≡ y). subst (IsView items) h (record { same = λ h. refl; spent = λ h. absurd (omega (arith, h)); bound = omega arith }))
            (at_snoc (slice_set s.views id w) u y j e);
        out = k.out;
        within = k.within;
        once = λ x. omega (arith, f (often x), k.once x);
        lists = omega (arith, f many, k.lists);
        word = omega (arith, f ends, k.word);
        full = λ h. k.full (omega (arith, f ends, h));
        at_home = k.at_home;
      }

  pub joins : (id other : ℕ) (v w : V) → 0 < v.share → v.items ≡ items → Joins (Kept items workers) id v other w (joined v w) spent_view
  joins id other v w positive of s k at apart there =
      let b : V = joined v w in
      let mid = slice_set s.views id b in
      let f : (g : V → ℕ) → total g (slice_set mid other spent_view) + g w + g v ≡ total g s.views + g b + g spent_view =
      λ g. omega (arith, total-set g mid other w spent_view there, total-set g s.views id v b at) in
      let is_v = k.each_view id v at in
      let is_w : IsView items w = elim (at_set s.views id other b w there) [
        | inl h ↦ absurd (apart h.0)
        | inr h ↦ k.each_view other w h.1
      ] in
      record {
        small = k.small;
        one_word = k.one_word;
        shares = omega (arith, f share, k.shares);
        each_view = λ j y e. ⊎_elim
            (λ (h : (j ≡ other) × (spent_view ≡ y)). subst (IsView items) h.1 (record { same = λ h. absurd (omega (arith, h)); spent = λ h. (refl, refl); bound = omega arith }))
            (λ (h : (j ≢ other) × (get_elem? mid j ≡ some y)). ⊎_elim
            (λ (t : (j ≡ id) × (b ≡ y)). subst (IsView items) t.1 (record { same = λ h. of; spent = λ h. absurd (omega (arith, h, positive)); bound = omega (arith, is_v.bound, is_w.bound) }))
            (λ (t : (j ≢ id) × (get_elem? s.views j ≡ some y)). k.each_view j y t.1)
            (at_set s.views id j b y h.1))
            (at_set mid other j spent_view y e);
        out = k.out;
        within = k.within;
        once = λ x. omega (arith, f (often x), total-append (λ y. cond (eqb y x) 1 0) v.numbers w.numbers, k.once x);
        lists = omega (arith, f many, length-append v.numbers w.numbers, k.lists);
        word = omega (arith, f ends, k.word);
        full = λ h. k.full (omega (arith, f ends, h));
        at_home = k.at_home;
      }

  -- who has all shares has all numbers and all ends
  pub last : {A B : Type 0} (id : ℕ) (v : V) (words : List ℕ) (slots : List (Option T)) → A × B × Final (Seen (Kept items workers) id v) words slots → v.share ≡ workers
      → ((x : ℕ) → times x v.numbers ≤ 1) × (0 < v.ends → (x : ℕ) → times x v.numbers ≡ once_below x (length items))
  last id v words slots end all =
      let s = end.2.0 in
      let k = end.2.1.0 in
      let at = end.2.1.1 in
      let whole : share v ≡ total share s.views = omega (arith, all, k.shares) in
      let numbers : (x : ℕ) → total (often x) s.views ≡ often x v = λ x. total-alone (often x) share s.views id v at (λ j w e none. ap (times x) ((k.each_view j w e).spent none).0) whole in
      let ended : total ends s.views ≡ ends v = total-alone ends share s.views id v at (λ j w e none. ((k.each_view j w e).spent none).1) whole in (
        (λ x. omega (arith, numbers x, k.once x, once-small x k.out)),
        λ has_ended x. sym (numbers x) ∙ k.once x ∙ ap (once_below x) (k.full (omega (arith, ended, has_ended))),
      )
