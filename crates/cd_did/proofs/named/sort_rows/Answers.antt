use Rattle.std.proofs.Common.{◌≡◌, ℕ, List, map, true, sym, ap, subst, ◌∙◌, rules}
use Rattle.std.specs.List.{list_all}
use Rattle.std.specs.Str.{is_utf8}
use Rattle.std.specs.Cmp.Lexicographic.{slice_cmp}
use Rattle.std.specs.Ordering.{is_lt, nat_cmp}
use Rattle.std.proofs.lemmas.Cmp.{nat_list_cmp_total}
use Rattle.std.proofs.lemmas.Fn.{always_returns_same}
use Rattle.std.proofs.lemmas.List.MinMax.{ranks_by}
use Rattle.cd_types.specs.declared.entry.TyRef.{TyRef}
use Rattle.cd_types.specs.IsOrdered.{names_rise}
use Rattle.cd_did.proofs.NameLemmas.{no_rise}
use Rattle.cd_did.proofs.named.sort_rows.Goals as goal

pub returns-else-names_rise-clause-refused : goal.returns-else-names_rise-clause-refused
returns-else-names_rise-clause-refused c =
    no_rise c.args.rows.now.items c.sort_by.new.self.items c.in_ok-sort_by.ensures.permutation
    (c.in_ok-sort_by.ensures.sorted (λ x y. is_lt (slice_cmp nat_cmp x.0 y.0)) (ranks_by nat_list_cmp_total (λ x. x.0)) (always_returns_same _ (λ a r. is_lt r ≡ is_lt (slice_cmp nat_cmp a.0.now.0 a.1.0.now.0)) _ (λ a r q k. search rules)))
    (subst (λ (rs : List (List ℕ × TyRef)). list_all is_utf8 (map (λ (r : List ℕ × TyRef). r.0) rs) ≡ true) c.deref.ensures.value c.names_rise.ensures.utf8)
    (ap (λ (rs : List (List ℕ × TyRef)). names_rise (map (λ (r : List ℕ × TyRef). r.0) rs)) (sym c.deref.ensures.value) ∙ sym c.names_rise.ensures.value ∙ c.if-names_rise.false)
