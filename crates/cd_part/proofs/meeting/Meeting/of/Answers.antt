use Rattle.std.proofs.Common.{ℕ, List, Option, ap, ◌∙◌, sym, length, arith}
use Rattle.std.specs.Prelude.{slice_get}
use Rattle.std.specs.Option.{option_flatten}
use Rattle.std.proofs.lemmas.List.{length-replicate}
use Rattle.cd_types.proofs.EntryLemmas.{table_small}
use Rattle.cd_part.specs.Places.{place_of}
use Rattle.cd_part.proofs.Placing.{no_places}
use Rattle.cd_part.proofs.Unmet.{unmet_all}
use Rattle.cd_part.proofs.meeting.Meeting.of.Goals as goal

pub invariant_of-result : goal.invariant_of-result
invariant_of-result c = (
  λ entry.
      ap (λ (places : List (Option ℕ)). option_flatten (slice_get places entry)) c.in_ok-places.ensures ∙ no_places c.len.result entry ∙ ap (λ (met : List ℕ). place_of met entry) (sym c.new.ensures.items),
  ap length c.in_ok-places.ensures ∙ length-replicate _ _ ∙ c.len.ensures.value,
  table_small c.args.table.now c.len.ensures.well_formed,
  rw c.new.ensures.items (omega (arith, unmet_all 0 c.args.table.now)),
)
