use Rattle.std.proofs.Common.{ℕ, Option, IfNone, List, sym, subst, rules}
use Rattle.std.proofs.lemmas.Result.{err_from_is_err_and}
use Rattle.frame_transport.specs.FramesInPlace.{owned_frame}
use Rattle.script_view.specs.Playing.{IsNumberedAfter}
use Rattle.script_view.specs.Unplayable.{CallCounts, IsUnplayable, last_number, other_number}
use Rattle.script_view.specs.ReplayRanges.{call_counts_of}
use Rattle.script_view.proofs.Making.{on_fault, conn_is, is_made}
use Rattle.script_view.proofs.playing.put_call.Goals as goal

pub returns-in_default-clause-fault : goal.returns-in_default-clause-fault
returns-in_default-clause-fault c =
    let T = c.args.table.now in
    let before = call_counts_of c.args.calls.now in
    let f = owned_frame c.args.frame.now in
    let absent : (blanks : ℕ) → IsNumberedAfter f c.last-last.result blanks → ⊥ =
    subst (λ (o : Option ℕ). IfNone o ((blanks : ℕ) → IsNumberedAfter f c.last-last.result blanks → ⊥)) c.in_default.is c.blanks_before.ensures.none in
    let none : (blanks : ℕ) → IsNumberedAfter f (last_number before f) blanks → ⊥ =
    λ blanks is. absent blanks (subst (λ (l : ℕ). IsNumberedAfter f l blanks) (sym c.last-last.ensures) is) in
    on_fault _ (λ place word. (size : ℕ) → IsUnplayable T before size f place word) _
    (λ place word is size. other_number c.requires.of_frame.kind (conn_is f.conn c.is_conn.result c.is_conn.ensures (search rules)) none is.0 is.1) c.unplayable-in_default.ensures

pub returns-in_err-placed-clause-fault : goal.returns-in_err-placed-clause-fault
returns-in_err-placed-clause-fault c =
    let T = c.args.table.now in
    let before = call_counts_of c.args.calls.now in
    let f = owned_frame c.args.frame.now in
    let stops : (place : ℕ) (word : List ℕ) → ((made : CallCounts) (size : ℕ) → IsUnplayable T made size f place word) → (size : ℕ) → IsUnplayable T before size f place word =
    λ place word is size. is before size in
    let same = err_from_is_err_and c.from_residual.result c.from_residual.ensures.1 in
    rw (same.1, same.2) (on_fault _ _ _ stops c.in_err-placed.ensures.fault)

pub returns-clause-made : goal.returns-clause-made
returns-clause-made c =
    c.put_placed.ensures.made c.args.table.now
    (is_made c.args.table.now (call_counts_of c.args.calls.now) (owned_frame c.args.frame.now) c.args.tree.now c.args.message c.last-last.result c.in-Some.blanks
    c.blanks_before.result c.in_ok-placed.placed c.requires.of_frame (conn_is c.args.frame.now.conn c.is_conn.result c.is_conn.ensures (search rules))
    c.last-last.ensures c.in-Some.is c.blanks_before.ensures.some c.requires.message c.in_ok-placed.ensures.placed)

pub returns-clause-fault : goal.returns-clause-fault
returns-clause-fault c =
    c.put_placed.ensures.fault c.args.table.now
    (is_made c.args.table.now (call_counts_of c.args.calls.now) (owned_frame c.args.frame.now) c.args.tree.now c.args.message c.last-last.result c.in-Some.blanks
    c.blanks_before.result c.in_ok-placed.placed c.requires.of_frame (conn_is c.args.frame.now.conn c.is_conn.result c.is_conn.ensures (search rules))
    c.last-last.ensures c.in-Some.is c.blanks_before.ensures.some c.requires.message c.in_ok-placed.ensures.placed)
