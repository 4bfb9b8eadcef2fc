use Rattle.std.proofs.Common.{◌≡◌, List, ap, length, refl, sym, ◌∙◌, subst, reverse, true, false}
use Rattle.std.specs.Prelude.{All, ◌≤◌}
use Rattle.std.proofs.lemmas.List.Elements.{All-nil}
use Rattle.call_history.specs.Trace.{taken}
use Rattle.call_history.specs.declared.happening.Happening.{Happening}
use Rattle.service_loop.specs.Calls.{timestamps_at_calls, timestamps_in}
use Rattle.service_loop.proofs.Shares.{share-new}
use Rattle.service_loop.proofs.endpoint.Endpoint.new.Goals as goal

pub returns-clause-whole : goal.returns-clause-whole
returns-clause-whole g c = record {
  served = c.requires.served;
  known = c.requires.known;
  moments = subst (λ (past : List Happening). All (g.C.Clock.gives c.args.clock.now) (timestamps_in (reverse past)))
      (sym c.requires.nothing) (All-nil (g.C.Clock.gives c.args.clock.now));
  least = subst (λ (past : List Happening). All (λ ms. g.C.Clock.least c.args.clock.now ≤ ms)
      (timestamps_at_calls (reverse past))) (sym c.requires.nothing)
      (All-nil (λ ms. g.C.Clock.least c.args.clock.now ≤ ms));
  delivering = c.requires.delivering;
  ended = λ is. absurd (let wrong : true ≡ false = sym is ∙ c.requires.not_ended in cc);
  failed = λ is. absurd (c.requires.working is);
  finished = c.requires.finished;
  room = c.requires.room;
  most = c.requires.most;
}

pub returns-clause-has_share : goal.returns-clause-has_share
returns-clause-has_share g c =
    share-new 0 c.args.submissions.accepted c.args.share c.requires.share refl (c.requires.served.serving.count
    ∙ ap (λ (past : List Happening). length (taken (reverse past))) c.requires.nothing)
