use Rattle.std.proofs.Common.{subst, sym}
use Rattle.std.specs.Prelude.{IfSome}
use Rattle.audit_text.specs.Prefixes.{IsEventPrefix}
use Rattle.audit_text.specs.declared.event_words.LineKind.{LineKind}
use Rattle.audit_text.proofs.short_line.read_of_kind.Goals as goal

pub returns-in-Charged : goal.returns-in-Charged
returns-in-Charged c =
    subst (λ (kind : LineKind). IfSome c.charged.result (λ r. IsEventPrefix kind c.args.text.now r.0 r.1.now)) (sym c.in-Charged.is) c.charged.ensures

pub returns-in-Drawn : goal.returns-in-Drawn
returns-in-Drawn c =
    subst (λ (kind : LineKind). IfSome c.drawn.result (λ r. IsEventPrefix kind c.args.text.now r.0 r.1.now)) (sym c.in-Drawn.is) c.drawn.ensures

pub returns-in-Counted : goal.returns-in-Counted
returns-in-Counted c =
    subst (λ (kind : LineKind). IfSome c.counted.result (λ r. IsEventPrefix kind c.args.text.now r.0 r.1.now)) (sym c.in-Counted.is) c.counted.ensures

pub returns-in-Sent : goal.returns-in-Sent
returns-in-Sent c =
    subst (λ (kind : LineKind). IfSome c.sent.result (λ r. IsEventPrefix kind c.args.text.now r.0 r.1.now)) (sym c.in-Sent.is) c.sent.ensures
