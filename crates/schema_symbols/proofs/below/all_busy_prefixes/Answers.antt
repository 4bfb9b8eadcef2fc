use Rattle.std.proofs.Common.{◌+◌, sym, subst}
use Rattle.schema_symbols.specs.Below.{AreBusy}
use Rattle.schema_symbols.proofs.BelowLemmas.{more_busy}
use Rattle.schema_symbols.proofs.below.all_busy_prefixes.Goals as goal

pub loop-file-preserved : goal.loop-file-preserved
loop-file-preserved c =
    subst (AreBusy c.args.places.now (c.loop-file.file + 1)) (sym c.in_ok-push.ensures.items)
    (more_busy c.loop-file.file c.loop-file.all.items c.in_ok-busy_prefixes.field-0 c.loop-file.invariant c.in_ok-busy_prefixes.ensures)
