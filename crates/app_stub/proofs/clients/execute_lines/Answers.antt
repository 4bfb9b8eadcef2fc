use Rattle.std.proofs.Common.{arith, ap, length, length-take, take}
use Rattle.std.proofs.lemmas.List.{length-map}
use Rattle.std.proofs.lemmas.List.Folds.{length-flat_map-take}
use Rattle.app_program.specs.declared.program.ProgramLine.TheVariants.{Store}
use Rattle.app_program.specs.Programs.{line_stores, program_stores}
use Rattle.app_stub.specs.Serving.{submission_of}
use Rattle.app_stub.proofs.Listing.{reclaims_few, reclaims_more, stores_more, submits_few, submits_further}
use Rattle.app_stub.proofs.clients.execute_lines.Goals as goal

pub execute_line-requires-clause-few_stores : goal.execute_line-requires-clause-few_stores
execute_line-requires-clause-few_stores g c κs within =
    let items = c.as_slice-line-items.result.now in
    omega (
      arith,
      ap length c.loop-line.invariant.4,
      length-flat_map-take line_stores items c.loop-line.line-index
          (Store 0 0) c.loop-line-test.true,
      ap (λ xs. length (program_stores xs)) c.as_slice-line-items.ensures,
    )

pub execute_line-requires-clause-few_calls : goal.execute_line-requires-clause-few_calls
execute_line-requires-clause-few_calls g c κs within =
    let front = take c.loop-line.line-index c.as_slice-line-items.result.now in
    omega (
      arith,
      length-map c.loop-line.outgoing.sender.sent submission_of,
      ap length c.loop-line.invariant.5,
      submits_few 0 front,
      length-take c.loop-line.line-index c.as_slice-line-items.result.now,
      ap length c.as_slice-line-items.ensures,
    )

pub execute_line-requires-clause-few_reclaims : goal.execute_line-requires-clause-few_reclaims
execute_line-requires-clause-few_reclaims g c κs within =
    let front = take c.loop-line.line-index c.as_slice-line-items.result.now in
    omega (arith, ap length c.loop-line.invariant.6, reclaims_few front, length-take c.loop-line.line-index c.as_slice-line-items.result.now, ap length c.as_slice-line-items.ensures)

pub loop-line-preserved : goal.loop-line-preserved
loop-line-preserved g c =
    let items = c.as_slice-line-items.result.now in
    let i = c.loop-line.line-index in
    let done = c.in_ok-execute_line.ensures in (
      (cc),
      (cc),
      (cc),
      (cc),
      (cc (done.stores, stores_more items i (Store 0 0) c.loop-line-test.true)),
      submits_further items i (Store 0 0) c.loop-line.writer.stores _ _ c.loop-line-test.true c.loop-line.invariant.4 c.loop-line.invariant.5 done.calls,
      (cc (done.reclaims, reclaims_more items i (Store 0 0) c.loop-line-test.true)),
    )
