use Rattle.std.proofs.Common.{◌≡◌, ◌==◌, ◌++◌, ℕ, cond, length, [], ◌∷◌, sym, subst, arith}
use Rattle.ct_search.specs.Index.{places_under, AreUnderKeys}
use Rattle.ct_search.proofs.Ranges.{under_more}
use Rattle.ct_search.proofs.index.Table.push.Goals as goal

pub returns-clause-indexed : goal.returns-clause-indexed
returns-clause-indexed g c =
    let old = c.args.self.now.index.places in
    let new = c.add.new.self.places in
    let cases = c.args.self.now.cases.items in
    let many : c.len.result ≡ length cases = omega (arith, c.len.ensures, c.args.self.now.cases.ok.0) in
    let added : (k : ℕ) → places_under new k ≡ cond (c.args.case.key == k) (places_under old k ++ length cases ∷ []) (places_under old k) =
    subst (λ n. (k : ℕ) → places_under new k ≡ cond (c.args.case.key == k) (places_under old k ++ n ∷ []) (places_under old k)) many c.in_ok-add.ensures in
    subst (AreUnderKeys new) (sym c.in_ok-push.ensures.items) (under_more old new cases c.args.case c.requires added)
