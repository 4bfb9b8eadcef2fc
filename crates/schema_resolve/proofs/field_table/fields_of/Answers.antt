use Rattle.std.proofs.Common.{◌<◌, length, ap, arith, refl}
use Rattle.schema_resolve.proofs.CleanFiles.{item_at, in_list}
use Rattle.schema_resolve.proofs.FieldTables.{judged_more}
use Rattle.schema_resolve.proofs.field_table.fields_of.Goals as goal

pub loop-i-preserved : goal.loop-i-preserved
loop-i-preserved c =
    let fs = c.args.message.now.fields in
    let l : c.loop-i.i < length fs = omega (arith, ap length c.as_slice-decls.ensures) in
    let at = item_at c.as_slice-decls.result.now fs c.loop-i.i c.index-decls-i.result c.as_slice-decls.ensures l c.index-decls-i.is in
    judged_more c.args.scopes.now c.args.message.now.file c.args.place c.loop-i.i fs c.index-decls-i.result c.loop-i.fields.items _
    c.shape_field.result at c.shape_field.ensures c.in_ok-push.ensures.items c.loop-i.invariant

pub shape_field-requires-clause-stands : goal.shape_field-requires-clause-stands
shape_field-requires-clause-stands c =
    let fs = c.args.message.now.fields in
    let l : c.loop-i.i < length fs = omega (arith, ap length c.as_slice-decls.ensures) in
    let at = item_at c.as_slice-decls.result.now fs c.loop-i.i c.index-decls-i.result c.as_slice-decls.ensures l c.index-decls-i.is in
    record {
      message = c.args.message.now;
      at = c.requires.here;
      of_file = refl;
      field = in_list fs c.loop-i.i c.index-decls-i.result at;
    }
