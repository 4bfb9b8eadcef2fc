use Rattle.std.proofs.Common.{refl, sym, ap, subst, ◌∙◌, []}
use Rattle.policy_declarations.specs.Declarations.{no_declarations as nothing_declared}
use Rattle.replay_script.specs.Changes.{state_of_body, IsValidBody, IsAdded}
use Rattle.replay_script.specs.Texts.{IsStateAfterLine, starts, advances}
use Rattle.replay_script.specs.declared.change.Change.TheVariants as change
use Rattle.replay_script.proofs.Adding.{kept_fresh, can_make, next_of}
use Rattle.replay_script.proofs.read.read_lines.Goals as goal

pub changed-requires : goal.changed-requires
changed-requires c =
    can_make c.args.loads c.loop-alloc.declared c.loop-alloc.body c.loop-alloc.invariant.kept c.requires.some c.in-Ok-first_change.change.0 c.in-Ok-first_change.ensures.can

pub loop-alloc-preserved : goal.loop-alloc-preserved
loop-alloc-preserved c =
    let loads = c.args.loads in
    let T = c.args.table.now in
    let d = c.loop-alloc.declared in
    let b = c.loop-alloc.body in
    let made = c.in-Ok-first_change.ensures in
    let next = next_of loads d b c.loop-alloc.invariant.kept c.in-Ok-first_change.change.0 c.in-Ok-changed.declared c.changed.new.body made.can c.in-Ok-changed.ensures in
    record {
      reaches = advances (state_of_body d b) c.loop-alloc.rest.now c.loop-alloc.invariant.reaches
          (subst (λ p. IsStateAfterLine loads T (state_of_body d b) c.loop-alloc.rest.now p c.in-Ok-first_change.change.1.now) (sym next.seen_is) made.goes);
      kept = next.kept;
    }

pub add-requires : goal.add-requires
add-requires c =
    let made = c.in-Some.ensures c.args.table.now in
    can_make c.args.loads c.loop-alloc.declared c.loop-alloc.body c.loop-alloc.invariant.kept c.requires.some (change.Line c.in-Some.line) made.can

pub loop-alloc-smaller-in-Some : goal.loop-alloc-smaller-in-Some
loop-alloc-smaller-in-Some c = (c.in-Some.ensures c.args.table.now).shorter

pub loop-alloc-preserved-in-Some : goal.loop-alloc-preserved-in-Some
loop-alloc-preserved-in-Some c =
    let loads = c.args.loads in
    let T = c.args.table.now in
    let d = c.loop-alloc.declared in
    let b = c.loop-alloc.body in
    let made = c.in-Some.ensures T in
    let e = c.in-Ok-add.ensures in
    let added : IsAdded d c.in-Some.line b c.add.new.self = record { lines = e.lines; connections = e.connections; submissions = e.submissions; closed = e.closed } in
    let next = next_of loads d b c.loop-alloc.invariant.kept (change.Line c.in-Some.line) d c.add.new.self made.can (refl, added) in
    record {
      reaches = advances (state_of_body d b) c.loop-alloc.rest.now c.loop-alloc.invariant.reaches
          (subst (λ p. IsStateAfterLine loads T (state_of_body d b) c.loop-alloc.rest.now p c.in-Some.behind.now) (sym next.seen_is) made.goes);
      kept = next.kept;
    }

pub add-requires-in-Some-prefix_line : goal.add-requires-in-Some-prefix_line
add-requires-in-Some-prefix_line c =
    let made = c.in-Some-prefix_line.ensures c.args.table.now in
    can_make c.args.loads c.loop-alloc.declared c.loop-alloc.body c.loop-alloc.invariant.kept c.requires.some (change.Line c.in-Some-prefix_line.line) made.can

pub loop-alloc-smaller-in-Some-prefix_line : goal.loop-alloc-smaller-in-Some-prefix_line
loop-alloc-smaller-in-Some-prefix_line c = (c.in-Some-prefix_line.ensures c.args.table.now).shorter

pub loop-alloc-preserved-in-Some-prefix_line : goal.loop-alloc-preserved-in-Some-prefix_line
loop-alloc-preserved-in-Some-prefix_line c =
    let loads = c.args.loads in
    let T = c.args.table.now in
    let d = c.loop-alloc.declared in
    let b = c.loop-alloc.body in
    let made = c.in-Some-prefix_line.ensures T in
    let e = c.in-Ok-add-2.ensures in
    let added : IsAdded d c.in-Some-prefix_line.line b c.add-in-Some-prefix_line.new.self = record { lines = e.lines; connections = e.connections; submissions = e.submissions; closed = e.closed } in
    let next = next_of loads d b c.loop-alloc.invariant.kept (change.Line c.in-Some-prefix_line.line) d c.add-in-Some-prefix_line.new.self made.can (refl, added) in
    record {
      reaches = advances (state_of_body d b) c.loop-alloc.rest.now c.loop-alloc.invariant.reaches
          (subst (λ p. IsStateAfterLine loads T (state_of_body d b) c.loop-alloc.rest.now p c.in-Some-prefix_line.behind.now) (sym next.seen_is) made.goes);
      kept = next.kept;
    }

pub loop-alloc-init : goal.loop-alloc-init
loop-alloc-init c =
    let b = c.in-Ok.body in
    let f = c.in-Ok.ensures in
    record {
      reaches = starts
          (ap (λ d. record { declared = d; lines = b.lines; closed = b.closed }) c.new-declared.ensures
          ∙ ap (λ ls. record { declared = nothing_declared; lines = ls; closed = b.closed }) f.lines
          ∙ ap (λ x. record { declared = nothing_declared; lines = []; closed = x }) f.closed) refl;
      kept = subst (λ d. IsValidBody c.args.loads d b) (sym c.new-declared.ensures) (kept_fresh c.args.loads b f);
    }
