use Rattle.std.proofs.Common.{◌<◌, arith, length, refl, subst, sym, ◌∙◌, ◌∷◌, ◌++◌, [], ap, IfNone, IfSome, IfOk}
use Rattle.std.proofs.Math.ListN.{length-set}
use Rattle.std.proofs.lemmas.Option.{slice_get_read}
use Rattle.call_history.specs.Legal.{trace_of}
use Rattle.call_history.specs.Rules.{CanFollow, JudgeContext}
use Rattle.call_history.specs.declared.happening.ConnectionEvent.{ConnectionEvent}
use Rattle.audit_text.specs.HappeningRefs.{event_of_ref, connection_event_of_ref}
use Rattle.audit_rules.specs.BrokenRules.{IsFirstBrokenRule}
use Rattle.audit_rules.specs.CheckerState.{IsReadable}
use Rattle.audit_check.specs.Checking.{context_on}
use Rattle.audit_check.specs.States.{KnowsAll}
use Rattle.audit_check.proofs.Briefs.{readable-brief}
use Rattle.audit_check.proofs.Known.{behind-short, in_place, known_by, near_more, none_map}
use Rattle.audit_check.proofs.connections.Checkers.check_ref.Goals as goal

pub check_ref-requires-clause-knowing : goal.check_ref-requires-clause-knowing
check_ref-requires-clause-knowing c =
    let T = c.args.table.now in
    let conn = c.args.next.conn in
    let near = c.args.self.now.near.items in
    let x = c.index_mut.result.now in
    let within : conn < length near = omega (arith, c.len.ensures, c.if-place-len.true) in
    let found = in_place near _ conn x (slice_get_read near (length near) conn x refl within c.index_mut.ensures.value) in
    let h = c.requires.known.0 in
    let known = known_by T c.args.self.now.limit conn (trace_of conn h) _ x found (c.requires.known.1.knows conn) in
    (trace_of conn h, known.0, omega (arith, behind-short conn h, c.requires.known.2))

pub returns-then-place-len-clause-knows : goal.returns-then-place-len-clause-knows
returns-then-place-len-clause-knows c h known =
    let T = c.args.table.now in
    let conn = c.args.next.conn in
    let limit = c.args.self.now.limit in
    let near = c.args.self.now.near.items in
    let x = c.index_mut.result.now in
    let within : conn < length near = omega (arith, c.len.ensures, c.if-place-len.true) in
    let found = in_place near _ conn x (slice_get_read near (length near) conn x refl within c.index_mut.ensures.value) in
    let here = known_by T limit conn (trace_of conn h) _ x found (known.knows conn) in
    none_map c.check_ref.result
    (λ k. record {
      knows = near_more T limit h (connection_event_of_ref c.args.next) near c.args.self.now.far c.check_ref.new.checker known.knows within k (c.check_ref.ensures.same T ∙ here.1);
      few = omega (arith, known.few, length-set near conn c.check_ref.new.checker);
    })
    (c.check_ref.ensures.knows (trace_of conn h) here.0)

pub returns-then-place-len-clause-breaks : goal.returns-then-place-len-clause-breaks
returns-then-place-len-clause-breaks c h known =
    let T = c.args.table.now in
    let conn = c.args.next.conn in
    let near = c.args.self.now.near.items in
    let x = c.index_mut.result.now in
    let within : conn < length near = omega (arith, c.len.ensures, c.if-place-len.true) in
    let found = in_place near _ conn x (slice_get_read near (length near) conn x refl within c.index_mut.ensures.value) in
    let here = known_by T c.args.self.now.limit conn (trace_of conn h) _ x found (known.knows conn) in
    let P : JudgeContext → Type 0 = λ u. IfSome c.check_ref.result (IsFirstBrokenRule u (trace_of conn h) (event_of_ref c.args.next.what)) in
    subst P here.1 (c.check_ref.ensures.breaks (trace_of conn h) here.0)

pub returns-then-place-len-clause-may : goal.returns-then-place-len-clause-may
returns-then-place-len-clause-may c h known =
    let T = c.args.table.now in
    let conn = c.args.next.conn in
    let near = c.args.self.now.near.items in
    let x = c.index_mut.result.now in
    let within : conn < length near = omega (arith, c.len.ensures, c.if-place-len.true) in
    let found = in_place near _ conn x (slice_get_read near (length near) conn x refl within c.index_mut.ensures.value) in
    let here = known_by T c.args.self.now.limit conn (trace_of conn h) _ x found (known.knows conn) in
    let P : JudgeContext → Type 0 = λ u. IfNone c.check_ref.result (CanFollow u (trace_of conn h) (event_of_ref c.args.next.what)) in
    subst P here.1 (c.check_ref.ensures.may (trace_of conn h) here.0)

pub check_far-requires-clause-readable : goal.check_far-requires-clause-readable
check_far-requires-clause-readable c =
    let P : ConnectionEvent → Type 0 = λ x. IsReadable c.args.table.now x.what in
    subst P (sym c.in_ok-next.ensures) (readable-brief c.args.table.now c.args.next.what)

pub check_far-requires-clause-far : goal.check_far-requires-clause-far
check_far-requires-clause-far c = omega (arith, c.len.ensures, c.if-place-len.false, ap (λ (x : ConnectionEvent). x.conn) c.in_ok-next.ensures)

pub returns-clause-may : goal.returns-clause-may
returns-clause-may c h known =
    let T = c.args.table.now in
    let limit = c.args.self.now.limit in
    let P : ConnectionEvent → Type 0 = λ x. IfOk c.check_far.result (λ r. IfNone r (CanFollow (context_on T limit x.conn) (trace_of x.conn h) x.what)) in
    subst P c.in_ok-next.ensures (c.check_far.ensures.may h known)

pub returns-clause-knows : goal.returns-clause-knows
returns-clause-knows c h known =
    let P : ConnectionEvent → Type 0 = λ x. IfOk c.check_far.result (λ r. IfNone r (KnowsAll c.args.table.now (h ++ x ∷ []) c.check_far.new.self)) in
    subst P c.in_ok-next.ensures (c.check_far.ensures.knows h known)

pub returns-clause-breaks : goal.returns-clause-breaks
returns-clause-breaks c h known =
    let T = c.args.table.now in
    let limit = c.args.self.now.limit in
    let P : ConnectionEvent → Type 0 = λ x. IfOk c.check_far.result (λ r. IfSome r (IsFirstBrokenRule (context_on T limit x.conn) (trace_of x.conn h) x.what)) in
    subst P c.in_ok-next.ensures (c.check_far.ensures.breaks h known)
