use Rattle.std.proofs.Common.{◌<◌, arith, length, refl, subst, ◌∙◌, IfSome}
use Rattle.std.proofs.Math.ListN.{length-set}
use Rattle.std.proofs.lemmas.Option.{slice_get_read}
use Rattle.call_history.specs.Legal.{trace_of}
use Rattle.call_history.specs.Rules.{JudgeContext}
use Rattle.audit_rules.specs.BrokenRules.{IsFirstBrokenRule}
use Rattle.audit_check.proofs.Known.{behind-short, in_place, known_by, near_more, none_map}
use Rattle.audit_check.proofs.connections.Checkers.check.Goals as goal

pub check-requires-clause-knowing : goal.check-requires-clause-knowing
check-requires-clause-knowing c =
    let T = c.args.table.now in
    let conn = c.args.next.conn in
    let near = c.args.self.now.near.items in
    let x = c.index_mut.result.now in
    let within : conn < length near = omega (arith, c.len.ensures, c.if-place-len.true) in
    let found = in_place near _ conn x (slice_get_read near (length near) conn x refl within c.index_mut.ensures.value) in
    let h = c.requires.known.0 in
    let known = known_by T c.args.self.now.limit conn (trace_of conn h) _ x found (c.requires.known.1.knows conn) in
    (trace_of conn h, known.0, omega (arith, behind-short conn h, c.requires.known.2))

pub returns-then-place-len-clause-knows : goal.returns-then-place-len-clause-knows
returns-then-place-len-clause-knows c h known =
    let T = c.args.table.now in
    let conn = c.args.next.conn in
    let limit = c.args.self.now.limit in
    let near = c.args.self.now.near.items in
    let x = c.index_mut.result.now in
    let within : conn < length near = omega (arith, c.len.ensures, c.if-place-len.true) in
    let found = in_place near _ conn x (slice_get_read near (length near) conn x refl within c.index_mut.ensures.value) in
    let here = known_by T limit conn (trace_of conn h) _ x found (known.knows conn) in
    none_map c.check.result
    (λ k. record {
      knows = near_more T limit h c.args.next near c.args.self.now.far c.check.new.self known.knows within k (c.check.ensures.same T ∙ here.1);
      few = omega (arith, known.few, length-set near conn c.check.new.self);
    })
    (c.check.ensures.knows (trace_of conn h) here.0)

pub returns-then-place-len-clause-breaks : goal.returns-then-place-len-clause-breaks
returns-then-place-len-clause-breaks c h known =
    let T = c.args.table.now in
    let conn = c.args.next.conn in
    let near = c.args.self.now.near.items in
    let x = c.index_mut.result.now in
    let within : conn < length near = omega (arith, c.len.ensures, c.if-place-len.true) in
    let found = in_place near _ conn x (slice_get_read near (length near) conn x refl within c.index_mut.ensures.value) in
    let here = known_by T c.args.self.now.limit conn (trace_of conn h) _ x found (known.knows conn) in
    let P : JudgeContext → Type 0 = λ u. IfSome c.check.result (IsFirstBrokenRule u (trace_of conn h) c.args.next.what) in
    subst P here.1 (c.check.ensures.breaks (trace_of conn h) here.0)
