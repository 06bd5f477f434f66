use Rattle.std.proofs.Common.{◌∙◌, ap, sym, refl, leb, rules}
use Rattle.std.specs.Prelude.{slice_get, option_map}
use Rattle.std.proofs.lemmas.List.Sorted.{IsPartitionPoint-from_clause, IsPartitionedBy-leb}
use Rattle.std.proofs.lemmas.Option.{slice_get_read, slice_get_past}
use Rattle.wm_tree.specs.declared.types.ValType.{ValType}
use Rattle.wm_tree.specs.declared.parts.Run.{Run}
use Rattle.wm_typing.proofs.LocalLemmas.{are_rising, found}
use Rattle.wm_typing.proofs.locals.Locals.get.Goals as goal

abbrev kind_of : Run → ValType
kind_of r = r.kind

pub returns-in-Some : goal.returns-in-Some
returns-in-Some c =
    let runs = c.self.inside.runs.now in
    let same = c.deref.ensures.value ∙ c.self.invariant.0 in
    let parted = IsPartitionedBy-leb (λ e. e) c.deref.result.now c.args.number (are_rising runs _ same) in
    let point = IsPartitionPoint-from_clause (λ e. leb e c.args.number) _ _ c.partition_point-run.ensures.partitioned parted (λ a r q k. search rules) in
    let here = c.in-Some.ensures.lookup in
    let read = slice_get_read runs _ c.partition_point-run.result c.in-Some.run'.now refl here.3.0 here.1 in
    ap (option_map kind_of) (sym read) ∙ sym (found runs _ c.args.number c.partition_point-run.result same point) ∙ ap (λ types. slice_get types c.args.number) c.self.view_is

pub returns-in-None : goal.returns-in-None
returns-in-None c =
    let runs = c.self.inside.runs.now in
    let same = c.deref.ensures.value ∙ c.self.invariant.0 in
    let parted = IsPartitionedBy-leb (λ e. e) c.deref.result.now c.args.number (are_rising runs _ same) in
    let point = IsPartitionPoint-from_clause (λ e. leb e c.args.number) _ _ c.partition_point-run.ensures.partitioned parted (λ a r q k. search rules) in
    let past = slice_get_past runs c.partition_point-run.result c.in-None.ensures.lookup.3 in
    ap (option_map kind_of) (sym past) ∙ sym (found runs _ c.args.number c.partition_point-run.result same point) ∙ ap (λ types. slice_get types c.args.number) c.self.view_is
