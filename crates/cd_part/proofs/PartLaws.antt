-- What holds of the part of a table that some types need.
use Rattle.std.proofs.Common.{◌≡◌, ℕ, true, List, [], ◌∷◌, length, map, Some, refl, sym, ap, ◌∙◌}
use Rattle.std.specs.Prelude.{IsTrue}
use Rattle.std.specs.List.{list_all}
use Rattle.std.proofs.lemmas.List.{length-map}
use Rattle.cd_types.specs.declared.entry.TyRef.{TyRef}
use Rattle.cd_types.specs.declared.entry.Entry.{Entry}
use Rattle.cd_types.specs.IsInside.{is_inside}
use Rattle.cd_types.specs.IsTable.{is_table}
use Rattle.cd_part.specs.Places.{renamed}
use Rattle.cd_part.specs.IsPart.{entries_at, IsPart}
use Rattle.cd_part.proofs.Closed.{one_order}
use Rattle.cd_part.proofs.PartTable.{types_inside, part_formed}

module _ (table : List Entry) (types : List TyRef) (part : List Entry × List TyRef) (is : IsPart table types part) where
  -- its types are inside its table
  pub part_inside : list_all (is_inside (length part.0)) part.1 ≡ true
  part_inside = rw is.references (types_inside table is.met part.0 is.entries types is.order)

  -- they are as many
  pub part_types : length part.1 ≡ length types
  part_types = ap length is.references ∙ length-map types (renamed is.met)

  pub part_table : IsTrue (is_table table) → IsTrue (is_table part.0)
  part_table formed = part_formed table is.met part.0 is.entries types is.order formed

same_entries : (a b : List Entry) → map (λ entry. Some entry) a ≡ map (λ entry. Some entry) b → a ≡ b
same_entries [] [] e = refl
same_entries [] (y ∷ b) e = absurd cc
same_entries (x ∷ a) [] e = absurd cc
same_entries (x ∷ a) (y ∷ b) e =
    let here : x ≡ y = cc in
    let more : map (λ entry. Some entry) a ≡ map (λ entry. Some entry) b = cc in
    let rest = same_entries a b more in
    cc

both : (p q : List Entry × List TyRef) → p.0 ≡ q.0 → p.1 ≡ q.1 → p ≡ q
both (a, x) (b, y) e f = cc

-- some types have one part of a table
pub one_part : (table : List Entry) (types : List TyRef) (p q : List Entry × List TyRef) → IsPart table types p → IsPart table types q → p ≡ q
one_part table types p q is other =
    let same = one_order table is.order other.order in
    both p q (same_entries p.0 q.0 (sym is.entries ∙ ap (entries_at table) same ∙ other.entries)) (is.references ∙ ap (λ (m : List ℕ). map (renamed m) types) same ∙ sym other.references)
