use Rattle.std.proofs.Common.{refl, sym, subst, Option}
use Rattle.call_history.specs.Legal.{trace_of}
use Rattle.audit_check.specs.States.{IsListingOf, IsAllListed, stands_line_of}
use Rattle.audit_check.specs.declared.listing.ConnectionChecker.{ConnectionChecker}
use Rattle.audit_check.proofs.Rows.{held_of, positions_on, refused_at_end, row_next, row_told}
use Rattle.audit_check.proofs.listing.PendingListing.list_next.Goals.{then-turn-told-via-then-turn-told, then-turn-told-via-else-turn-told+then-not-check_stands}
use Rattle.audit_check.proofs.listing.PendingListing.list_next.Goals as goal

pub returns-in_err-turn-clause-not : goal.returns-in_err-turn-clause-not
returns-in_err-turn-clause-not c limit h before row =
    rw c.from_residual.ensures
    (refused_at_end c.args.table.now limit h before (stands_line_of c.args.told) c.at_next_unlisted-current.result.current c.at_next_unlisted-current.result.rest c.in_err-turn.was
    (c.at_next_unlisted-current.ensures.same c.args.table.now limit h before row))

pub returns-then-turn-told-clause-not : goal.returns-then-turn-told-clause-not
returns-then-turn-told-clause-not c limit h before row begin =
    let T = c.args.table.now in
    let s = stands_line_of c.args.told in
    let turn = c.in_ok-turn.turn in
    let rest = c.at_next_unlisted-current.result.rest in
    let R : Option ConnectionChecker → Type 0 = λ current. IsListingOf T limit h before current rest in
    let L : Option ConnectionChecker → Type 0 = λ current. IsAllListed h before current → ⊥ in
    let here = subst R c.in_ok-turn.was (c.at_next_unlisted-current.ensures.same T limit h before row) in
    let left = subst L c.in_ok-turn.was (c.at_next_unlisted-current.ensures.left T limit h before row) in
    elim c.then-turn-told.branch [
      | then-turn-told-via-then-turn-told w ↦
          w.if-turn-told.true (sym (row_next T limit h before s turn.conn turn.checker rest s.name (held_of s) refl refl here left begin).0)
      | then-turn-told-via-else-turn-told+then-not-check_stands w ↦
          let next = row_next T limit h before s turn.conn turn.checker rest w.as_slice.result.now w.held.result w.as_slice.ensures w.held.ensures here left begin in
          let yes = (w.check_stands.ensures.tells (trace_of turn.conn h) (positions_on turn.conn before) here.knows.0.knows).1 next.1 in
          let no = w.if-not-check_stands.true in cc
    ]

pub returns-clause-tells : goal.returns-clause-tells
returns-clause-tells c limit h before row =
    let T = c.args.table.now in
    let s = stands_line_of c.args.told in
    let turn = c.in_ok-turn.turn in
    let rest = c.at_next_unlisted-current.result.rest in
    let R : Option ConnectionChecker → Type 0 = λ current. IsListingOf T limit h before current rest in
    let here = subst R c.in_ok-turn.was (c.at_next_unlisted-current.ensures.same T limit h before row) in
    let past = trace_of turn.conn h in
    let positions = positions_on turn.conn before in
    let next = (c.check_stands.ensures.tells past positions here.knows.0.knows).0 c.if-not-check_stands.false in
    let told = c.check_stands.ensures.told past positions here.knows.0.knows c.if-not-check_stands.false in
    row_told T limit h before s turn.conn turn.checker c.check_stands.new.self rest c.as_slice.result.now c.held.result c.if-turn-told.false c.as_slice.ensures c.held.ensures here next told
    (c.check_stands.ensures.same T)

pub check_stands-requires-clause-known : goal.check_stands-requires-clause-known
check_stands-requires-clause-known c =
    let k = c.requires.known in
    let turn = c.in_ok-turn.turn in
    let R : Option ConnectionChecker → Type 0 = λ current. IsListingOf c.args.table.now k.0 k.1 k.2 current c.at_next_unlisted-current.result.rest in
    let here = subst R c.in_ok-turn.was (c.at_next_unlisted-current.ensures.same c.args.table.now k.0 k.1 k.2 k.3) in
    (trace_of turn.conn k.1, positions_on turn.conn k.2, here.knows.0.knows)
