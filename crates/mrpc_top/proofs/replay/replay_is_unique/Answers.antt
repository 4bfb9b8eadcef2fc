use Rattle.mrpc_top.proofs.replay.replay_is_unique.Goals as goal

pub returns-clause-one : goal.returns-clause-one
returns-clause-one c text s end other spelled follows otherwise =
    c.replay_is_deterministic.ensures.whole s end other (c.replay_script_or_fault.ensures.sound text s spelled) follows otherwise

pub returns-clause-one_until : goal.returns-clause-one_until
returns-clause-one_until c text s tried instead end other spelled follows otherwise many =
    c.replay_is_deterministic.ensures.until s tried instead end other (c.replay_script_or_fault.ensures.sound text s spelled) follows otherwise many

pub returns-clause-legal : goal.returns-clause-legal
returns-clause-legal c text s end spelled follows =
    let sound = c.replay_script_or_fault.ensures.sound text s spelled in
    (c.replay_is_legal.ensures.legal s end sound follows, c.replay_is_legal.ensures.sound s end sound follows)

pub returns-clause-legal_until : goal.returns-clause-legal_until
returns-clause-legal_until c text s tried end spelled follows =
    let sound = c.replay_script_or_fault.ensures.sound text s spelled in (
      c.replay_is_legal.ensures.legal_until s tried end sound follows,
      c.replay_is_legal.ensures.sound_until s tried end sound follows,
    )

pub returns-clause-allowed : goal.returns-clause-allowed
returns-clause-allowed c text s tried end spelled follows =
    c.replay_is_legal.ensures.allowed s tried end (c.replay_script_or_fault.ensures.sound text s spelled) follows
