use Rattle.cd_did.proofs.SortLemmas.{refuses_too, rows_fit, made_ids, no_ids, no_fit}
use Rattle.cd_did.proofs.sorted.fields_of.Goals as goal

pub sort_rows-requires : goal.sort_rows-requires
sort_rows-requires c = rows_fit c.args.ended.now.names.now.definitions c.args.ended.now.ends.now c.args.fields.now c.add_rows.new.rows.items c.in-Ok.ensures.ok

pub returns-in-Ok-sort_rows-clause-ok : goal.returns-in-Ok-sort_rows-clause-ok
returns-in-Ok-sort_rows-clause-ok c =
    let own = made_ids c.args.ended.now.names.now.definitions c.args.ended.now.ends.now c.args.fields.now c.add_rows.new.rows.items c.sort_rows.new.rows.items c.in-Ok.ensures.ok c.in-Ok-sort_rows.ensures.ok in
    ((c.sort_rows.new.rows.items, c.rows_made.ensures, own.0), own.1)

pub returns-in-Err-sort_rows-clause-refused : goal.returns-in-Err-sort_rows-clause-refused
returns-in-Err-sort_rows-clause-refused c =
    refuses_too c.in-Err-sort_rows.e _ _ (no_ids c.args.ended.now.names.now.definitions c.args.ended.now.ends.now c.args.fields.now c.add_rows.new.rows.items c.in-Ok.ensures.ok) c.in-Err-sort_rows.ensures.refused

pub returns-in-Err-clause-refused : goal.returns-in-Err-clause-refused
returns-in-Err-clause-refused c = refuses_too c.in-Err.e _ _ (no_fit c.args.fields.now) c.in-Err.ensures.refused
