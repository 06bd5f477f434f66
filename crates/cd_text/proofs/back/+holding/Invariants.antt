use Rattle.std.proofs.Common.{take}
use Rattle.cd_codec.specs.Content.{contents_of, parts_of}
use Rattle.cd_codec.specs.View.{views, views_of_fields}
use Rattle.cd_text.specs.HoldsBytes.{HoldsBytesAll, HoldsBytesParts}
use Rattle.cd_text.proofs.back.+holding.Given as goal

abbrev pub invariant-hold_bytes-loop-value : goal.invariant-hold_bytes-loop-value
invariant-hold_bytes-loop-value l = HoldsBytesAll (contents_of (views (take l.value-index l.values)))

abbrev pub invariant-fields_hold_bytes-loop-value : goal.invariant-fields_hold_bytes-loop-value
invariant-fields_hold_bytes-loop-value l = HoldsBytesParts (parts_of (views_of_fields (take l.value-index l.fields)))
