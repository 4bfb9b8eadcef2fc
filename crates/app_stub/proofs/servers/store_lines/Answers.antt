use Rattle.std.proofs.Common.{arith, ap, length, length-append, take}
use Rattle.std.proofs.lemmas.List.Folds.{length-flat_map-take}
use Rattle.app_program.specs.declared.program.ProgramLine.TheVariants.{Store}
use Rattle.app_program.specs.Programs.{line_stores, program_stores}
use Rattle.app_stub.proofs.servers.store_lines.Goals as goal

pub store_line-requires-clause-few : goal.store_line-requires-clause-few
store_line-requires-clause-few c =
    let items = c.as_slice-line-items.result.now in
    omega (
      arith,
      ap length c.loop-line.invariant.1,
      length-append c.args.writer.now.stores (program_stores (take c.loop-line.line-index items)),
      length-flat_map-take line_stores items c.loop-line.line-index (Store 0 0) c.loop-line-test.true,
      ap (λ xs. length (program_stores xs)) c.as_slice-line-items.ensures,
    )
