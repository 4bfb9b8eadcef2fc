use Rattle.std.proofs.Common.{◌≡◌, length, arith}
use Rattle.std.proofs.lemmas.List.{length-map}
use Rattle.schema_validation.specs.Entries.{name_entry_of, entries_of, IsRedeclared}
use Rattle.schema_validation.proofs.Meetings.{meets_elements, meets_start}
use Rattle.schema_validation.proofs.EntryStarts.{meets_later}
use Rattle.schema_validation.proofs.names.note_later.Goals as goal

pub loop-i-init : goal.loop-i-init
loop-i-init c = meets_start _ _

pub loop-i-preserved : goal.loop-i-preserved
loop-i-preserved c =
    meets_later c.args.names.now c.args.starts.now c.requires c.loop-i.i _ c.is_redeclared-is_later.result _ _ _
    c.loop-i-test.true c.is_redeclared-is_later.ensures c.note_if.ensures c.loop-i.invariant

pub returns : goal.returns
returns c =
    let es = entries_of c.args.names.now in
    let e : c.loop-i.i ≡ length es =
    omega (arith, length-map c.args.names.now name_entry_of, c.loop-i-test.false, c.loop-i.auto.i-end) in
    meets_elements es (IsRedeclared es) c.loop-i.i _ _ e c.loop-i.invariant
