use Rattle.vd_replies.proofs.Fields.{field_written}
use Rattle.vd_replies.proofs.printed.put_fields.Goals as goal

pub loop-field-preserved : goal.loop-field-preserved
loop-field-preserved c =
    field_written c.loop-field.into c.put_field.new.into c.args.into.now c.loop-field.field-index _ c.field-item.result c.args.fields.now c.loop-field-test.true c.loop-field.invariant
    c.field-item.is c.put_field.ensures
