use Rattle.std.proofs.Common.{refl}
use Rattle.mem_fabric.proofs.Causes.{failed_cause, no_cause}
use Rattle.mem_fabric.proofs.pair_link.PairLinkLink.receive.Goals as goal

pub returns-then-receive_fails : goal.returns-then-receive_fails
returns-then-receive_fails g c =
    let calls = c.if-receive_fails.ensures in
    rw (calls.counted, ← c.self.view_is) (record {
      fails = (λ _. calls.fails.0 refl, λ _. refl);
      after_end = λ _ other. absurd (other refl);
      memory = λ e. cc (e);
      count = tt;
      appended = tt;
      kept = refl;
      ends = λ e. absurd (cc (e));
      same_ended = λ _. refl;
      idle = λ e. absurd (cc (e));
      end = λ e. absurd (cc (e));
      receives = refl;
      failures = λ _. refl;
      cause = failed_cause _ _ refl (calls.never_falls refl);
      same = refl;
    })

pub returns-then-self : goal.returns-then-self
returns-then-self g c =
    let calls = c.if-receive_fails.ensures in
    rw (calls.counted, ← c.self.view_is) (record {
      fails = (λ e. absurd (cc (e)), λ found. absurd (cc (calls.fails.1 found)));
      after_end = λ _ _. refl;
      memory = λ e. cc (e);
      count = tt;
      appended = tt;
      kept = refl;
      ends = λ _. c.if-self.true;
      same_ended = λ other. absurd (other refl);
      idle = λ e. absurd (cc (e));
      end = λ _. (c.self.invariant.2 c.if-self.true).knows;
      receives = refl;
      failures = λ e. absurd (cc (e));
      cause = no_cause _ _ (λ e. cc (e));
      same = refl;
    })

pub returns : goal.returns
returns g c =
    let calls = c.if-receive_fails.ensures in
    let read = c.read.ensures in
    rw (read.same, calls.counted, ← c.self.view_is) (record {
      fails = (λ e. absurd (read.answer.0 e), λ found. absurd (cc (calls.fails.1 found)));
      after_end = λ ended. absurd (cc (ended, c.if-self.false));
      memory = read.answer.1;
      count = read.count;
      appended = read.appended;
      kept = read.kept;
      ends = read.ends;
      same_ended = read.same_ended;
      idle = λ e. rw e at read.told;
      end = λ e. rw e at read.told;
      receives = refl;
      failures = λ e. absurd (read.answer.0 e);
      cause = no_cause _ _ read.answer.0;
      same = refl;
    })
