use Rattle.std.proofs.Common.{refl, arith}
use Rattle.std.proofs.lemmas.Option.{slice_get_past, slice_get_read}
use Rattle.ct_patterns.proofs.Fields.{no_field, one_field}
use Rattle.ct_patterns.proofs.opening.open_fields.Goals as goal

pub returns-in-None : goal.returns-in-None
returns-in-None c = no_field c.args.places.now c.loop-index.index c.args.fields.now _ c.loop-index-test.true c.loop-index.invariant.within (slice_get_past c.args.fields.now _ c.in-None.ensures.lookup.3)

pub loop-index-preserved : goal.loop-index-preserved
loop-index-preserved c = record {
  within = omega (arith, c.loop-index.invariant.within);
  added = one_field c.args.places.now c.loop-index.index c.args.fields.now c.in-Some.field.now _ c.loop-index.next.items c.push.new.self.items _ c.loop-index-test.true c.loop-index.invariant.within
      (slice_get_read c.args.fields.now _ _ c.in-Some.field.now refl c.in-Some.ensures.lookup.3.0 c.in-Some.ensures.lookup.1) refl c.in_ok-push-in-Some.ensures.items c.loop-index.invariant.added;
}
