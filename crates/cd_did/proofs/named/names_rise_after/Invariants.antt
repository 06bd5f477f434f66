use Rattle.std.proofs.Common.{◌≡◌, drop, map}
use Rattle.std.specs.Prelude.{◌&&◌}
use Rattle.std.specs.List.{list_all}
use Rattle.std.specs.Str.{is_utf8}
use Rattle.cd_types.specs.IsOrdered.{names_rise_after}
use Rattle.cd_did.proofs.named.names_rise_after.Given as goal

-- the whole rises exactly where it rises up to `last` and what is left rises after it
abbrev pub invariant-loop-name : goal.invariant-loop-name
invariant-loop-name l =
    ((l.rise && names_rise_after l.last (map (λ m. m.0) (drop l.name-index l.rows))) ≡ names_rise_after l.fn.last (map (λ m. m.0) l.rows))
    × (list_all is_utf8 (map (λ m. m.0) (drop l.name-index l.rows)) ≡ list_all is_utf8 (map (λ m. m.0) l.rows))
