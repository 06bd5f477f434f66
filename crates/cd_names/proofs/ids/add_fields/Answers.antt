use Rattle.std.proofs.Common.{◌||◌, get_or, arith}
use Rattle.std.specs.BTreeSet.{contains}
use Rattle.std.specs.Ordering.{nat_cmp}
use Rattle.cd_types.specs.declared.entry.TyRef.TheVariants.{Prim}
use Rattle.cd_types.specs.declared.primitive.Primitive.TheVariants.{Null}
use Rattle.cd_names.specs.Names.{is_among}
use Rattle.cd_names.proofs.Found.{one_more, field_more}
use Rattle.cd_names.proofs.ids.add_fields.Goals as goal

pub loop-id-preserved : goal.loop-id-preserved
loop-id-preserved c = λ id.
    let fields = c.args.fields.now in
    let i = c.loop-id.id-index in
    let key = (get_or fields i (0, Prim Null)).0 in
    field_more fields i (0, Prim Null) id (contains nat_cmp c.loop-id.ids id) (contains nat_cmp c.insert.new.self id) (contains nat_cmp c.args.ids.now id || is_among fields id) (omega arith)
    (one_more c.loop-id.ids c.insert.new.self key c.in_ok-insert.ensures.updates id) (c.loop-id.invariant id)
