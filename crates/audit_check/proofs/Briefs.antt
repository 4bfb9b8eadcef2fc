-- Notes and sends, as their lines have them.
use Rattle.audit_text.specs.HappeningRefs.{event_of_ref}
use Rattle.audit_text.specs.declared.short_line.HappeningRef.{HappeningRef}
use Rattle.audit_text.specs.declared.short_line.HappeningRef.TheVariants.{Charged, Drawn, Counted, Sent}
use Rattle.audit_rules.specs.CheckerState.{IsReadable}
use Rattle.mrpc_table.specs.declared.table.Table.{Table}

pub readable-brief : (T : Table) (b : HappeningRef) → IsReadable T (event_of_ref b)
readable-brief T (Charged seq name left) = tt
readable-brief T (Drawn seq name window ticket) = tt
readable-brief T (Counted seq name) = tt
readable-brief T (Sent seq bytes) = tt
