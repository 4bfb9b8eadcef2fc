use Rattle.audit_check.proofs.progress.TextProgress.end.Goals as goal

pub returns : goal.returns
returns c T limit h told p = c.end.ensures T limit h told p.stage p.happenings p.stands

pub end-requires-clause-known : goal.end-requires-clause-known
end-requires-clause-known c = let f = c.requires.familiar in (f.0, f.1.0, f.1.1, f.1.2, f.1.3.stage)
