use Rattle.std.proofs.Common.{◌≡◌, ◌+◌, List, [], ◌∷◌, ◌++◌, arith, length, length-append, sym, subst}
use Rattle.std.proofs.lemmas.List.{nil_from_length}
use Rattle.audit_text.specs.HappeningRefs.{connection_event_of_ref}
use Rattle.audit_check.specs.Checking.{StandsLine}
use Rattle.audit_check.specs.Stages.{IsStage}
use Rattle.audit_check.proofs.progress.TextProgress.take_call_event.Goals as goal

pub returns : goal.returns
returns c limit h told p =
    let T = c.args.table.now in
    let next = connection_event_of_ref c.args.next in
    let after = c.apply_call_event.new.self in
    let none : told ≡ [] = nil_from_length told (omega (arith, p.stands, c.if-self-gt0.false)) in
    let S : List StandsLine → Type 0 = λ told. IsStage T limit h told c.args.self.now.stage in
    let A : List StandsLine → Type 0 = λ told. IsStage T limit (h ++ next ∷ []) told after in
    let number : c.next_line-number.result ≡ length h + 1 = omega (arith, c.next_line-number.ensures, p.happenings, p.stands, c.if-self-gt0.false) in (
      none,
      record {
        happenings = omega (arith, p.happenings, length-append h (next ∷ []));
        stands = p.stands;
        stage = subst A (sym none) (c.in_ok-apply_call_event.ensures limit h (subst S none p.stage) number);
      },
    )
