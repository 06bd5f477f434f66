use Rattle.std.proofs.Common.{sym, ap, ◌∙◌}
use Rattle.cd_codec.specs.declared.value.Value.TheVariants as values
use Rattle.cd_codec.proofs.Written.{after_nothing, after_some, after_variant, after_values, after_fields}
use Rattle.cd_codec.proofs.writer.+writer.Goals as goal

pub write_value-returns-in-Null : goal.write_value-returns-in-Null
write_value-returns-in-Null t c = after_nothing c.args.out.now.items c.args.value.now c.in-Null.is

pub write_value-returns-in-Null-2 : goal.write_value-returns-in-Null-2
write_value-returns-in-Null-2 t c = after_nothing c.args.out.now.items c.args.value.now c.in-Null.is

pub write_value-returns-in_ok-write_values-in-Seq : goal.write_value-returns-in_ok-write_values-in-Seq
write_value-returns-in_ok-write_values-in-Seq t c =
    after_values c.args.out.now.items _ _ c.args.value.now c.in-Seq.values.items _ _ c.in-Seq.is c.deref-in-Seq.ensures.value (c.len.ensures ∙ sym c.deref-in-Seq.ensures.len) c.in_ok-write_u-in-Seq.ensures.written c.in_ok-write_values-in-Seq.ensures

pub write_value-returns-in_ok-write_fields-in-Rec : goal.write_value-returns-in_ok-write_fields-in-Rec
write_value-returns-in_ok-write_fields-in-Rec t c =
    after_fields c.args.out.now.items _ c.args.value.now c.in-Rec.fields.items _ c.in-Rec.is c.deref-in-Rec.ensures.value c.in_ok-write_fields-in-Rec.ensures

pub write_value-returns-in_ok-write_value-in-Var : goal.write_value-returns-in_ok-write_value-in-Var
write_value-returns-in_ok-write_value-in-Var t c =
    after_variant c.args.out.now.items _ _ c.args.value.now _ c.in-Var.position _ c.in-Var.part c.in-Var.is c.deref-in-Var.ensures c.from-in-Var.ensures c.in_ok-write_u-in-Var.ensures.written c.in_ok-write_value-in-Var.ensures

pub write_value-returns-in_ok-write_value-in-Some : goal.write_value-returns-in_ok-write_value-in-Some
write_value-returns-in_ok-write_value-in-Some t c =
    after_some c.args.out.now.items _ _ c.args.value.now _ c.in-Some.part (c.in-Opt.is ∙ ap values.Opt c.in-Some.is) c.deref.ensures c.in_ok-push-in-Some.ensures.items c.in_ok-write_value-in-Some.ensures
