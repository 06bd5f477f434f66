-- Worlds that count as one move alike.
use Rattle.std.proofs.Common.{ℕ, refl, sym, ◌∙◌}
use Rattle.ic_mgmt_laws.specs.Managed.{managed_rules}
use Rattle.ic_order.proofs.Matched.{matched}
use Rattle.ic_order.proofs.Managed.{respects}
use Rattle.ic_order.proofs.Places.{listed, only}
use Rattle.ic_order.proofs.Same.{reflexive, symmetric, transitive}
use Rattle.ic_keep.proofs.Keys.{one_key}
use Rattle.ct_search.specs.Meaning.{Lawful, May, Matches}
use Rattle.ct_worlds.specs.Worlds.{Named, SameNamed, worlds}

module _ (limit price : ℕ) where
  moves_match : (s t : Named) (place : ℕ) → SameNamed s t → May (worlds limit price) s place → Matches (worlds limit price) s t place
  moves_match s t place same may =
      let other = matched (managed_rules limit price) (respects _) s.1 t.1 place same.1 (only s.1 place may) in
      (other.other, listed t.1 other.other other.may, (same.0, other.after))

  pub worlds_lawful : Lawful (worlds limit price)
  worlds_lawful = record {
    reflexive = λ s. (refl, reflexive s.1);
    symmetric = λ s t same. (sym same.0, symmetric s.1 t.1 same.1);
    transitive = λ s t u same then. (same.0 ∙ then.0, transitive s.1 t.1 u.1 same.1 then.1);
    matched = moves_match;
    keyed = λ s t same. one_key s.1 t.1 same.1;
  }
