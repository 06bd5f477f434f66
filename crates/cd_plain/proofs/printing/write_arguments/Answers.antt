use Rattle.std.specs.Prelude.{option_map}
use Rattle.cd_plain.proofs.Pieces.{argument_seen, arguments_seen}
use Rattle.cd_plain.proofs.printing.write_arguments.Goals as goal

pub loop-place-preserved : goal.loop-place-preserved
loop-place-preserved c =
    argument_seen (option_map (λ n. n.now) c.args.names) c.args.table.now c.args.types.now c.args.values.now c.loop-place.place c.index-values-place.result c.nth_type.result c.before-in-loop-place.result.now c.args.out.now.items c.loop-place.out.items c.extend_from_slice.new.self.items c.write_value.new.out.items
    c.loop-place-test.true c.index-values-place.is c.nth_type.ensures c.before-in-loop-place.ensures c.loop-place.invariant c.in_ok-extend_from_slice.ensures.items c.in_ok-write_value.ensures

pub returns : goal.returns
returns c = arguments_seen (option_map (λ n. n.now) c.args.names) c.args.table.now c.args.types.now c.args.values.now c.loop-place.place c.args.out.now.items c.loop-place.out.items c.loop-place-test.false c.loop-place.invariant
