use Rattle.std.proofs.Common.{◌≡◌, ◌==◌, ℕ, Some, None, if◌then◌else◌, sym, ap, subst, ◌∙◌}
use Rattle.std.specs.Option.{option_or}
use Rattle.std.specs.Str.{IsUtf8}
use Rattle.std.proofs.lemmas.Str.{is_utf8-from_IsUtf8}
use Rattle.cd_types.specs.FieldId.{field_id_of}
use Rattle.cd_names.specs.Names.{IdNames, name_for}
use Rattle.cd_names.proofs.Found.{added, have_ids, are_texts, absent}
use Rattle.cd_names.proofs.names.FieldNames.add.Goals.{in-Some-1, in-None-1}
use Rattle.cd_names.proofs.names.FieldNames.add.Goals as goal

pub invariant_of-self-in_ok-insert-2 : goal.invariant_of-self-in_ok-insert-2
invariant_of-self-in_ok-insert-2 c =
    let same = c.as_str.ensures.value ∙ c.name.view_is in (
      have_ids c.self.inside.names c.insert.new.self c.field_id-id.result c.args.name (c.field_id-id.ensures ∙ ap field_id_of same) c.in_ok-insert.ensures.updates c.self.invariant.0,
      are_texts c.self.inside.names c.insert.new.self c.field_id-id.result c.args.name (is_utf8-from_IsUtf8 c.args.name (subst IsUtf8 same c.as_str.utf8)) c.in_ok-insert.ensures.updates c.self.invariant.1,
    )

pub returns-in_ok-insert : goal.returns-in_ok-insert
returns-in_ok-insert c =
    let gone = absent c.self.inside.names.entries c.field_id-id.result (sym c.contains_key.ensures ∙ c.if-not-contains_key.true) in
    let gains = added c.self.inside.names c.insert.new.self c.field_id-id.result c.args.name (c.field_id-id.ensures ∙ ap field_id_of (c.as_str.ensures.value ∙ c.name.view_is)) c.in_ok-insert.ensures.updates gone in
    let own : (id : ℕ) → name_for c.insert.new.self.entries id ≡ option_or (name_for c.args.self.now id) (if field_id_of c.args.name == id then Some c.args.name else None) =
    λ id. gains id ∙ ap (λ (ns : IdNames). option_or (name_for ns id) (if field_id_of c.args.name == id then Some c.args.name else None)) c.self.view_is in
    elim c.match-branch-2.branch [ in-Some-1 w ↦ λ id. rw w.self-is (own id) | in-None-1 w ↦ λ id. rw w.self-is (own id) ]
