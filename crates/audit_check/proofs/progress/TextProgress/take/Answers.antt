use Rattle.std.proofs.Common.{◌≡◌, ◌+◌, List, [], ◌∷◌, ◌++◌, arith, length, length-append, sym, subst}
use Rattle.std.proofs.lemmas.List.{nil_from_length}
use Rattle.audit_text.specs.declared.line.AuditLine.{AuditLine}
use Rattle.audit_check.specs.Checking.{StandsLine}
use Rattle.audit_check.specs.TextProgress.{IsProgressAfterLine}
use Rattle.audit_check.specs.Stages.{IsStage}
use Rattle.audit_check.proofs.progress.TextProgress.take.Goals as goal

pub returns-in_ok-apply_event-in-Happened : goal.returns-in_ok-apply_event-in-Happened
returns-in_ok-apply_event-in-Happened c limit h told p =
    let T = c.args.table.now in
    let next = c.in-Happened.next in
    let after = c.apply_event.new.self in
    let none : told ≡ [] = nil_from_length told (omega (arith, p.stands, c.if-self-gt0.false)) in
    let L : AuditLine → Type 0 = λ line. IsProgressAfterLine T limit h told line (record { happenings = c.args.self.now.happenings + 1; stands = c.args.self.now.stands; stage = after }) in
    let S : List StandsLine → Type 0 = λ told. IsStage T limit h told c.args.self.now.stage in
    let A : List StandsLine → Type 0 = λ told. IsStage T limit (h ++ next ∷ []) told after in
    let number : c.next_line-number.result ≡ length h + 1 = omega (arith, c.next_line-number.ensures, p.happenings, p.stands, c.if-self-gt0.false) in
    subst L (sym c.in-Happened.is) (
      none,
      record {
        happenings = omega (arith, p.happenings, length-append h (next ∷ []));
        stands = p.stands;
        stage = subst A (sym none) (c.in_ok-apply_event-in-Happened.ensures limit h (subst S none p.stage) number);
      },
    )

pub returns-in_ok-apply_pending_line-in-Stands : goal.returns-in_ok-apply_pending_line-in-Stands
returns-in_ok-apply_pending_line-in-Stands c limit h told p =
    let T = c.args.table.now in
    let s : StandsLine = record { conn = c.in-Stands.conn; seq = c.in-Stands.seq; position = c.in-Stands.position; name = c.in-Stands.name; holding = c.in-Stands.holding } in
    let L : AuditLine → Type 0 = λ line. IsProgressAfterLine T limit h told line (record { happenings = c.args.self.now.happenings; stands = c.args.self.now.stands + 1; stage = c.apply_pending_line.new.self }) in
    let number : c.next_line-number.result ≡ length h + length told + 1 = omega (arith, c.next_line-number.ensures, p.happenings, p.stands) in
    subst L (sym c.in-Stands.is) (record {
      happenings = p.happenings;
      stands = omega (arith, p.stands, length-append told (s ∷ []));
      stage = c.in_ok-apply_pending_line-in-Stands.ensures limit h told p.stage number;
    })

pub apply_pending_line-requires-clause-known : goal.apply_pending_line-requires-clause-known
apply_pending_line-requires-clause-known c =
    let f = c.requires.familiar in
    (f.0, f.1, f.2, f.3.stage, omega (arith, c.next_line-number.ensures, f.3.happenings, f.3.stands))
