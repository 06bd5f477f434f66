-- Candid specification, "Subtyping": the greatest relation with the rules, as a test
use Rattle.std.specs.Prelude.{ℕ, zero, suc, ◌*◌, Bool, true, false, List, [], length, Option, Some, None}
use Rattle.std.specs.List.{list_all}
use Rattle.cd_types.specs.declared.entry.TyRef.{TyRef}
use Rattle.cd_types.specs.declared.entry.Entry.{Entry}
use Rattle.cd_sub.specs.Parts.{part_at}
use Rattle.cd_sub.specs.Pairs.{parts_at}

-- whether there are parts and each of them passes
abbrev pub all_pass : (ℕ → Bool) → Option (List ℕ) → Bool
all_pass test None = false
all_pass test (Some places) = list_all test places

-- whether the pair at a place holds, as far as this depth of parts shows
abbrev pub holds_at : ℕ → List Entry → List Entry → ℕ → Bool
holds_at zero first second place = true
holds_at (suc n) first second place = all_pass (holds_at n first second) (parts_at first second place)

-- Whether a of the first table is a subtype of b of the second. With each depth fewer pairs of
-- entries hold, or the same, and once they are the same they stay so. An entry of each table makes
-- two pairs, one each way round, so one depth more than there are pairs shows all.
unfoldable pub below : List Entry → TyRef → List Entry → TyRef → Bool
below first a second b =
    all_pass (holds_at (suc (2 * (length first * length second))) first second) (part_at first second false a b [])
