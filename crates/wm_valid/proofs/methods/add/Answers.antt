use Rattle.std.proofs.Common.{◌≡◌, ◌++◌, ◌∙◌, ap, sym, refl, Some, cond}
use Rattle.std.specs.Prelude.{bytes_eq}
use Rattle.wm_valid.specs.Methods.{found_in}
use Rattle.wm_valid.proofs.NameLemmas.{eq_of_none, eq_of_stripped}
use Rattle.wm_valid.proofs.MethodLemmas.{at_name, at_name-insert_entry}
use Rattle.wm_valid.proofs.methods.add.Goals as goal

pub returns-in_ok-insert : goal.returns-in_ok-insert
returns-in_ok-insert c = λ name.
    let same : bytes_eq c.in_ok-method.method.items name ≡ bytes_eq c.args.export.now.name (c.args.prefix.now ++ name) =
    ap (λ method. bytes_eq method name) c.in_ok-method.ensures.items
    ∙ eq_of_stripped c.args.prefix.now name c.name_bytes.result.now c.in-Some.method.now (sym c.in-Some.ensures)
    ∙ ap (λ whole. bytes_eq whole (c.args.prefix.now ++ name)) c.name_bytes.ensures in
    let whole = c.args.prefix.now ++ name in
    let value = c.exported_function.ensures in
    ap (at_name name) c.in_ok-insert.ensures.entries
    ∙ at_name-insert_entry name c.args.methods.now.entries c.in_ok-method.method c.exported_function.result
    ∙ ap (λ b. cond b (Some c.exported_function.result) (found_in c.args.methods.now name)) same
    ∙ ap (λ v. cond (bytes_eq c.args.export.now.name whole) (Some v) (found_in c.args.methods.now name)) value

pub returns-in_default : goal.returns-in_default
returns-in_default c = λ name. rw (← c.name_bytes.ensures, ← eq_of_none c.args.prefix.now name c.name_bytes.result.now (sym c.in_default.ensures)) refl
