use Rattle.conn_core.specs.declared.answers.Ask.{Ask}
use Rattle.replay_run.proofs.Submitted.{IsFinished, submission-does, submission-keeps}
use Rattle.replay_run.proofs.submission.submit.Goals as goal

pub returns-clause-does : goal.returns-clause-does
returns-clause-does c =
    let ask : Ask = record { method = c.args.method; number = c.args.number; addr = c.args.addr; after = c.made.result } in
    let done : IsFinished c.submit_call.new.heap c.finish_submission.new.self = record {
      stores = c.finish_submission.ensures.stores;
      races = c.finish_submission.ensures.races;
      begun = c.finish_submission.ensures.begun;
      size = c.finish_submission.ensures.size;
      loads = c.finish_submission.ensures.loads;
    } in
    submission-does c.args.connection.now ask c.submit_call.new.calls c.submit_call.new.heap c.finish_submission.new.self c.in_ok-submit_call.ensures.same c.requires.rests c.made.ensures
    c.in_ok-submit_call.ensures.submits done

pub returns-clause-keeps : goal.returns-clause-keeps
returns-clause-keeps c =
    let ask : Ask = record { method = c.args.method; number = c.args.number; addr = c.args.addr; after = c.made.result } in
    let done : IsFinished c.submit_call.new.heap c.finish_submission.new.self = record {
      stores = c.finish_submission.ensures.stores;
      races = c.finish_submission.ensures.races;
      begun = c.finish_submission.ensures.begun;
      size = c.finish_submission.ensures.size;
      loads = c.finish_submission.ensures.loads;
    } in
    submission-keeps c.args.connection.now ask c.submit_call.new.calls c.submit_call.new.heap c.finish_submission.new.self c.in_ok-submit_call.ensures.same c.requires.rests c.in_ok-submit_call.ensures.submits done
