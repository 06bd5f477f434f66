use Rattle.std.proofs.Common.{ℕ, List, map, sym, ap, ◌∙◌, rules}
use Rattle.std.proofs.lemmas.List.Sorted.{IsNonDecreasingBy-from_sort_by_key}
use Rattle.cd_types.specs.declared.entry.TyRef.{TyRef}
use Rattle.cd_types.specs.IsOrdered.{ids_rise_from}
use Rattle.cd_did.proofs.SortLemmas.{no_rise}
use Rattle.cd_did.proofs.sorted.sort_rows.Goals as goal

pub returns-else-ids_rise-clause-refused : goal.returns-else-ids_rise-clause-refused
returns-else-ids_rise-clause-refused c =
    no_rise c.args.rows.now.items c.sort_by_key.new.self.items c.in_ok-sort_by_key.ensures.permutation (IsNonDecreasingBy-from_sort_by_key (λ r. r.0) _ c.in_ok-sort_by_key.ensures.sorted (λ a r q k. search rules)) c.requires
    (ap (λ (rs : List (ℕ × TyRef)). ids_rise_from 0 (map (λ (r : ℕ × TyRef). r.0) rs)) (sym c.deref.ensures.value) ∙ sym c.ids_rise.ensures ∙ c.if-ids_rise.false)
