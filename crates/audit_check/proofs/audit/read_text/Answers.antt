use Rattle.std.proofs.Common.{◌≡◌, [], arith, length, refl}
use Rattle.std.proofs.lemmas.List.{nil_from_length}
use Rattle.std.proofs.lemmas.Result.{err_from_is_err_and}
use Rattle.audit_check.proofs.TextLines.{few_lines, read_whole, tells_nothing}
use Rattle.audit_check.proofs.audit.read_text.Goals as goal

pub loop-rest-init : goal.loop-rest-init
loop-rest-init c = record {
  front = [];
  history = [];
  told = [];
  is_text = refl;
  tells = tells_nothing c.args.table.now c.args.declared.now;
  progress = c.in_ok-progress.ensures c.args.table.now;
}

pub take_first_line-requires-clause-few : goal.take_first_line-requires-clause-few
take_first_line-requires-clause-few c =
    omega (arith, few_lines c.args.table.now c.args.declared.now c.args.loads c.args.text.now c.loop-rest.rest.now c.loop-rest.progress c.loop-rest.invariant, c.requires.short)

pub take_first_line-requires-clause-familiar : goal.take_first_line-requires-clause-familiar
take_first_line-requires-clause-familiar c = let r = c.loop-rest.invariant in (c.args.loads, r.history, r.told, r.progress)

pub take_first_line-requires-clause-some : goal.take_first_line-requires-clause-some
take_first_line-requires-clause-some c = grind (arith, c.is_empty.ensures, c.loop-rest-test.true)

pub returns-in_err-others-clause-bad : goal.returns-in_err-others-clause-bad
returns-in_err-others-clause-bad c =
    let same = err_from_is_err_and c.from_residual-in_err-others.result c.from_residual-in_err-others.ensures.1 in
    rw (same.1, same.2) (c.in_err-others.ensures.takes c.args.loads c.args.text.now c.loop-rest.invariant)

pub loop-rest-preserved : goal.loop-rest-preserved
loop-rest-preserved c = c.in_ok-others.ensures.takes c.args.loads c.args.text.now c.loop-rest.invariant

pub end-requires-clause-familiar : goal.end-requires-clause-familiar
end-requires-clause-familiar c = let r = c.loop-rest.invariant in (c.args.table.now, (c.args.loads, r.history, r.told, r.progress))

pub end-requires-clause-few : goal.end-requires-clause-few
end-requires-clause-few c =
    omega (arith, few_lines c.args.table.now c.args.declared.now c.args.loads c.args.text.now c.loop-rest.rest.now c.loop-rest.progress c.loop-rest.invariant, c.requires.short)

pub returns-clause-checked : goal.returns-clause-checked
returns-clause-checked c =
    let r = c.loop-rest.invariant in
    let T = c.args.table.now in
    let long : length c.loop-rest.rest.now ≡ 0 = grind (arith, c.is_empty.ensures, c.loop-rest-test.false) in
    record {
      history = r.history;
      stands = r.told;
      tells = read_whole T c.args.declared.now c.args.loads c.args.text.now c.loop-rest.rest.now c.loop-rest.progress r (nil_from_length c.loop-rest.rest.now long);
      judged = c.in_ok-end.ensures T c.args.loads r.history r.told r.progress;
    }
