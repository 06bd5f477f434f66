-- The numbers that a canister stores of its calls, over the changes of its contexts.
use Rattle.std.proofs.Common.{◌≡◌, ℕ, ◌+◌, Bool, true, false, cond, List, [], ◌∷◌, map, refl, sym, ap, ap₂, ◌∙◌, subst, arith}
use Rattle.std.specs.List.{AllByRecursion, filter}
use Rattle.std.proofs.lemmas.Bool.Decides.{nat_tests}
use Rattle.ic_behaviour.specs.declared.context.Context.{Context}
use Rattle.ic_behaviour.specs.Totals.{total}
use Rattle.ic_behaviour.specs.State.{CallContext, State}
use Rattle.ic_behaviour.specs.Items.{outstanding}
use Rattle.ic_behaviour.specs.Counted.{CountedCanister, bare, with_count, counted, dropped}
use Rattle.ic_behaviour.specs.Closing.{is_open, closed}
use Rattle.ic_behaviour.proofs.Weights.{total-map}
use Rattle.ic_calls.proofs.Keeps.{total-kept}
use Rattle.ic_calls.specs.Changes.{deleted, emptied}

-- the canister stores the numbers of this state
abbrev pub IsTrueOf : State → List ℕ → CountedCanister → Type 0
IsTrueOf now id c = counted now id (dropped c) ≡ c

module _ (now : State) (id : List ℕ) where
  abbrev IsCounted : Context → Type 0
  IsCounted x = outstanding now id x.id ≡ x.outstanding

  abbrev awaited : List Context → ℕ
  awaited xs = total (λ (x : Context). x.outstanding) xs

  each_is : (xs : List Context) → map (with_count now id) (map bare xs) ≡ xs → AllByRecursion IsCounted xs
  each_is [] is = tt
  each_is (x ∷ xs) is =
      let first : with_count now id (bare x) ≡ x = cc in
      let rest : map (with_count now id) (map bare xs) ≡ xs = cc in
      (ap (λ (y : Context). y.outstanding) first, each_is xs rest)

  each_back : (xs : List Context) → AllByRecursion IsCounted xs → map (with_count now id) (map bare xs) ≡ xs
  each_back [] all = refl
  each_back (x ∷ xs) all = ap₂ (λ (y : Context) ys. y ∷ ys) (ap (λ n. record x { outstanding = n }) all.0) (each_back xs all.1)

  sum_is : (xs : List Context) → AllByRecursion IsCounted xs → total (λ (x : CallContext). outstanding now id x.id) (map bare xs) ≡ awaited xs
  sum_is [] all = refl
  sum_is (x ∷ xs) all = ap₂ (λ n m. n + m) all.0 (sum_is xs all.1)

  -- other contexts, whose numbers are those of the state and have the same sum
  changed : (c d : CountedCanister) → IsTrueOf now id c → (AllByRecursion IsCounted c.contexts → AllByRecursion IsCounted d.contexts) → awaited d.contexts ≡ awaited c.contexts → d.outstanding ≡ c.outstanding
      → IsTrueOf now id d
  changed c d is each same number =
      let was = each_is c.contexts (ap (λ (x : CountedCanister). x.contexts) is) in
      let here = each was in
      let sum : awaited c.contexts ≡ c.outstanding = sym (sum_is c.contexts was) ∙ ap (λ (x : CountedCanister). x.outstanding) is in
      ap₂ (λ xs n. record d { contexts = xs; outstanding = n }) (each_back d.contexts here) (sum_is d.contexts here ∙ same ∙ sum ∙ sym number)

  pub same_true : (c d : CountedCanister) → d.contexts ≡ c.contexts → d.outstanding ≡ c.outstanding → IsTrueOf now id c → IsTrueOf now id d
  same_true c d same number is = changed c d is (λ all. subst (AllByRecursion IsCounted) (sym same) all) (ap awaited same) number

  all_deleted : (xs : List Context) → AllByRecursion IsCounted xs → AllByRecursion IsCounted (map deleted xs)
  all_deleted [] all = tt
  all_deleted (x ∷ xs) all = (all.0, all_deleted xs all.1)

  pub emptied_true : (c : CountedCanister) → IsTrueOf now id c → IsTrueOf now id (emptied c)
  emptied_true c is = changed c (emptied c) is (all_deleted c.contexts) (total-map deleted (λ (x : Context). x.outstanding) c.contexts) refl

  all_open : (xs : List Context) → AllByRecursion IsCounted xs → AllByRecursion IsCounted (filter is_open xs)
  all_open [] all = tt
  all_open (x ∷ xs) all = by (is_open x) (all_open xs all.1) where
    by : (b : Bool) → AllByRecursion IsCounted (filter is_open xs) → AllByRecursion IsCounted (cond b (x ∷ filter is_open xs) (filter is_open xs))
    by true rest = (all.0, rest)
    by false rest = rest

  none_awaited : (x : Context) → is_open x ≡ false → x.outstanding ≡ 0
  none_awaited x is = grind (arith, nat_tests)

  pub closed_true : (c : CountedCanister) → IsTrueOf now id c → IsTrueOf now id (closed c)
  closed_true c is = changed c (closed c) is (all_open c.contexts) (total-kept (λ (x : Context). x.outstanding) is_open none_awaited c.contexts) refl
