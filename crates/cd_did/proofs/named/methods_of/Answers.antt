use Rattle.std.proofs.Common.{refl}
use Rattle.cd_did.proofs.SortLemmas.{refuses_too}
use Rattle.cd_did.proofs.NameLemmas.{made_names, no_names}
use Rattle.cd_did.proofs.named.methods_of.Goals as goal

pub returns-in-Ok-sort_rows-clause-ok : goal.returns-in-Ok-sort_rows-clause-ok
returns-in-Ok-sort_rows-clause-ok c =
    let made = c.in-Ok.ensures.ok in
    let own = made_names c.args.ended.now.names.now.definitions c.args.ended.now.ends.now c.args.methods.now c.add_rows.new.rows.items c.sort_rows.new.rows.items made.0 c.in-Ok-sort_rows.ensures.ok in
    ((c.sort_rows.new.rows.items, refl, own.0, made.1), (own.1, made.1))

pub returns-in-Err-sort_rows-clause-refused : goal.returns-in-Err-sort_rows-clause-refused
returns-in-Err-sort_rows-clause-refused c =
    let made = c.in-Ok.ensures.ok in
    refuses_too c.in-Err-sort_rows.e _ _ (λ never formed. no_names c.args.ended.now.names.now.definitions c.args.ended.now.ends.now c.args.methods.now c.add_rows.new.rows.items made.0 never formed.0) c.in-Err-sort_rows.ensures.refused
