use Rattle.std.proofs.Common.{◌≡◌, ℕ, List, true, None, sym, ap, ◌∙◌}
use Rattle.cd_did.specs.Faults.{Definitions, all_parts, is_no_float, is_bound}
use Rattle.cd_did.specs.Rings.{is_named_at, least_from}
use Rattle.cd_did.proofs.SettledLemmas.{settled_ok}
use Rattle.cd_did.proofs.settled.settled.Goals as goal

pub returns-in-None : goal.returns-in-None
returns-in-None c =
    let own = sym c.file-file.ensures in
    let floats : all_parts is_no_float c.args.names.now ≡ true = ap (all_parts is_no_float) own ∙ sym c.file_passes.ensures ∙ c.if-not-file_passes.false in
    let bound : all_parts (is_bound c.args.names.now.definitions) c.args.names.now ≡ true = ap (all_parts (is_bound c.args.names.now.definitions)) own ∙ sym c.file_passes-2.ensures ∙ c.if-not-file_passes-2.false in
    let none = ap (λ (ds : Definitions). least_from (is_named_at ds) None c.in-Ok.ends.items) (sym c.definitions.ensures) ∙ ap (λ (es : List ℕ). least_from (is_named_at c.definitions.result.now) None es) (sym c.deref.ensures.value) ∙ sym c.vacuous_of.ensures ∙ c.in-None.is in
    settled_ok c.args.names.now c.in-Ok.ends.items floats (sym c.repeated_of.ensures.value ∙ c.in_default.is) bound c.in-Ok.ensures none
