use Rattle.std.proofs.Common.{◌≡◌, ◌<◌, length, arith}
use Rattle.std.proofs.lemmas.Result.{err_from_is_err_and}
use Rattle.proto_set.specs.Named.{files_of}
use Rattle.schema_files.proofs.TextsRead.{read_none, read_more, read_all, earlier_read, unread_fault}
use Rattle.schema_files.proofs.Taken.{packed_here}
use Rattle.schema_files.proofs.reading.read_texts.Goals as goal

pub loop-i-init : goal.loop-i-init
loop-i-init c = read_none _ _ c.in_ok-members.ensures.items

pub loop-i-preserved : goal.loop-i-preserved
loop-i-preserved c =
    let files = c.args.files.now in
    let l : c.loop-i.i < length files = omega arith in
    read_more (files_of files) c.loop-i.i _ _ _ _ (packed_here files c.loop-i.i _ l) c.in_ok-member.ensures.read
    c.in_ok-push.ensures.items c.loop-i.invariant

pub returns-clause-read : goal.returns-clause-read
returns-clause-read c =
    let e : c.loop-i.i ≡ length c.args.files.now = omega arith in
    read_all c.args.files.now c.loop-i.i _ e c.loop-i.invariant

pub returns-in_err-member-clause-fault : goal.returns-in_err-member-clause-fault
returns-in_err-member-clause-fault c =
    let files = c.args.files.now in
    let l : c.loop-i.i < length files = omega arith in
    let p = err_from_is_err_and c.from_residual-in_err-member.result c.from_residual-in_err-member.ensures.1 in
    rw (p.1, p.2)
    (unread_fault (files_of files) c.loop-i.i _ c.in_err-member.field-0.0 (packed_here files c.loop-i.i _ l)
    (earlier_read (files_of files) c.loop-i.i _ c.loop-i.invariant) c.in_err-member.ensures.fault)
