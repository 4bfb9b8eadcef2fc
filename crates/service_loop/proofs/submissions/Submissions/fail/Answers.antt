use Rattle.std.proofs.Common.{ap, sym, ◌∙◌, subst}
use Rattle.call_history.specs.Tickets.{tickets_of_trace}
use Rattle.conn_core.specs.Connections.{conn_trace, conn_state, conn_frames, judge_context}
use Rattle.service_loop.specs.Calls.{timestamps_at_calls, timestamps_in}
use Rattle.service_loop.specs.Serving.{IsServed}
use Rattle.service_loop.specs.declared.submissions.Submissions.{Submissions}
use Rattle.service_loop.proofs.Ending.{frames-failed, served-failed, tickets-failed}
use Rattle.service_loop.proofs.Views.{views-failed}
use Rattle.service_loop.proofs.submissions.Submissions.fail.Goals.{then-not-ended, else-not-ended}
use Rattle.service_loop.proofs.submissions.Submissions.fail.Goals as goal

pub returns-clause-served : goal.returns-clause-served
returns-clause-served c = elim c.if-not-ended.branch [
  | then-not-ended w ↦ served-failed c.args.self.now c.if-not-ended.self w.fail.new.self (record {
    is = w.self-is;
    step = w.fail.ensures.failed;
    same = w.fail.ensures.same;
    is_valid_state = c.is_connection-2.ensures.is_valid_state;
  }) c.requires.served
  | else-not-ended w ↦ subst IsServed (sym w.self-is) c.requires.served
]

pub returns-clause-frames : goal.returns-clause-frames
returns-clause-frames c = elim c.if-not-ended.branch [
  | then-not-ended w ↦ ap (λ (s : Submissions). conn_frames s.conn) w.self-is
      ∙ frames-failed c.args.self.now.conn w.fail.new.self w.fail.ensures.same w.fail.ensures.failed
  | else-not-ended w ↦ ap (λ (s : Submissions). conn_frames s.conn) w.self-is
]

pub returns-clause-tickets : goal.returns-clause-tickets
returns-clause-tickets c = elim c.if-not-ended.branch [
  | then-not-ended w ↦ λ tenant window.
      ap (λ (s : Submissions). tickets_of_trace tenant window (conn_trace s.conn)) w.self-is
      ∙ tickets-failed c.args.self.now.conn w.fail.new.self w.fail.ensures.failed tenant window
  | else-not-ended w ↦ λ tenant window. ap (λ (s : Submissions). tickets_of_trace tenant window (conn_trace s.conn)) w.self-is
]

pub returns-clause-moments : goal.returns-clause-moments
returns-clause-moments c = elim c.if-not-ended.branch [
  | then-not-ended w ↦ ap (λ (s : Submissions). timestamps_in (conn_trace s.conn)) w.self-is
      ∙ (views-failed (judge_context c.args.self.now.conn) (conn_state c.args.self.now.conn) (conn_state w.fail.new.self)
      w.fail.ensures.failed).moments
  | else-not-ended w ↦ ap (λ (s : Submissions). timestamps_in (conn_trace s.conn)) w.self-is
]

pub returns-clause-at_calls : goal.returns-clause-at_calls
returns-clause-at_calls c = elim c.if-not-ended.branch [
  | then-not-ended w ↦ ap (λ (s : Submissions). timestamps_at_calls (conn_trace s.conn)) w.self-is
      ∙ (views-failed (judge_context c.args.self.now.conn) (conn_state c.args.self.now.conn) (conn_state w.fail.new.self)
      w.fail.ensures.failed).at_calls
  | else-not-ended w ↦ ap (λ (s : Submissions). timestamps_at_calls (conn_trace s.conn)) w.self-is
]
