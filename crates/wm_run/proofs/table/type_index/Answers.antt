use Rattle.std.proofs.Common.{◌∙◌, sym}
use Rattle.wm_run.proofs.Looking.{import_index, defined_index, past_end}
use Rattle.wm_run.proofs.table.type_index.Goals as goal

pub returns-in-Some : goal.returns-in-Some
returns-in-Some c =
    c.imported_type.ensures ∙ import_index c.requires.0 c.args.imports.now c.requires.1 c.args.functions.now c.args.function c.in-Some.import.now c.requires.2 (sym c.in-Some.ensures)

pub returns-in-None : goal.returns-in-None
returns-in-None c =
    c.index_at.ensures
    ∙ defined_index c.requires.0 c.args.imports.now c.requires.1 c.args.functions.now c.args.function c.requires.2 (past_end c.args.imports.now c.args.function (sym c.in-None.ensures))
