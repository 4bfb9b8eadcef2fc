use Rattle.std.proofs.Common.{arith}
use Rattle.std.proofs.lemmas.Option.{slice_get_within}
use Rattle.std.proofs.lemmas.Result.{err_from_is_err_and}
use Rattle.proto_set.specs.declared.import_fault.ImportReason.TheVariants.{Twice}
use Rattle.proto_set.proofs.Judging.{none_above_twice, first_unless, twice_parts}
use Rattle.proto_set.proofs.Linked.{keeps_none, keeps_more, keeps_all, all_lead}
use Rattle.proto_set.proofs.links.Graph.new.Goals as goal

pub loop-file-init : goal.loop-file-init
loop-file-init c = keeps_none c.args.members.now c.in_ok-links.links.items c.in_ok-links.ensures.items

pub loop-file-preserved : goal.loop-file-preserved
loop-file-preserved c =
    keeps_more c.args.members.now c.loop-file.file c.in_ok-here.here c.loop-file.links.items c.push.new.self.items
    c.loop-file.invariant c.in_ok-here.ensures.links c.in_ok-here.ensures.once c.in_ok-push.ensures.items

pub returns-clause-once : goal.returns-clause-once
returns-clause-once c = λ i n f.
    let p = twice_parts f in
    let l = slice_get_within c.args.members.now i p.import_at.member p.import_at.member_at in
    c.loop-file.invariant.once i (omega (arith, l)) n f

pub returns-in_err-here-clause-fault : goal.returns-in_err-here-clause-fault
returns-in_err-here-clause-fault c =
    let p = err_from_is_err_and c.from_residual-in_err-here.result c.from_residual-in_err-here.ensures.1 in
    let set = c.args.members.now in
    rw (p.1, p.2)
    (first_unless set Twice c.loop-file.file c.in_err-here.field-0.0 (none_above_twice set c.requires.known)
    c.loop-file.invariant.once c.in_err-here.ensures.fault)

pub returns-clause-led : goal.returns-clause-led
returns-clause-led c =
    let known = keeps_all c.args.members.now c.loop-file.file c.loop-file.links.items (omega arith) c.loop-file.invariant in
    all_lead known
