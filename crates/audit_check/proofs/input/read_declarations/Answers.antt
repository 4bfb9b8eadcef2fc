use Rattle.std.proofs.Common.{ℕ, List, [], ◌∷◌, ◌++◌, length, refl, sym, ap, ◌∙◌, subst, append_assoc, arith}
use Rattle.std.proofs.lemmas.Bool.{false≢true}
use Rattle.std.proofs.lemmas.List.{length-append}
use Rattle.std.proofs.lemmas.Slice.Eq.{bytes_eq-Decides}
use Rattle.policy_declarations.specs.Declarations.{Declared, no_declarations}
use Rattle.audit_check.specs.Inputs.{audit_word, HasDeclarations, no_item}
use Rattle.audit_check.specs.InputStops.{IsInputStopOf}
use Rattle.audit_check.proofs.InputReading.{stop_by}
use Rattle.audit_check.proofs.Runs.{reads_more}
use Rattle.audit_check.proofs.InputLines.{cut_text}
use Rattle.audit_check.proofs.input.read_declarations.Goals as goal

pub returns-then-is_audit : goal.returns-then-is_audit
returns-then-is_audit c =
    let line = c.in-Some.line.now in
    let behind = c.in-Some.behind.now in
    let same = (bytes_eq-Decides line audit_word).0 (sym c.is_audit.ensures ∙ c.if-is_audit.true) in
    record {
      reads = c.loop-line.invariant;
      rest_is = cut_text c.loop-line.rest.now line behind c.in-Some.ensures.parts ∙ append_assoc line (10 ∷ []) behind ∙ ap (λ (t : List ℕ). t ++ 10 ∷ behind) same;
    }

pub returns-in_default-of : goal.returns-in_default-of
returns-in_default-of c =
    let line = c.in-Some.line.now in
    let behind = c.in-Some.behind.now in
    let rest = c.loop-line.rest.now in
    subst (IsInputStopOf c.args.table.now c.args.text.now) (sym c.stopped.ensures)
    (record {
      declared = c.loop-line.declared;
      rest = rest;
      reads = c.loop-line.invariant;
      left_is = refl;
      stop = no_item line behind c.in-Some.ensures.parts
          (λ e. false≢true (sym c.if-is_audit.false ∙ c.is_audit.ensures ∙ (bytes_eq-Decides line audit_word).1 e))
          (sym c.of.ensures ∙ c.in_default-of.is) refl refl;
    })

pub loop-line-smaller : goal.loop-line-smaller
loop-line-smaller c =
    let more = c.in-Ok.more.now in
    let left = c.declaration_or_fault.ensures.left _ _ _ _ _ _ _ _ c.in-Ok.ensures.read in
    omega (arith, ap length left.1, length-append left.0 more, c.in-Some.ensures.long)

pub loop-line-preserved : goal.loop-line-preserved
loop-line-preserved c =
    let T = c.args.table.now in
    let text = c.args.text.now in
    subst (λ (d : Declared). HasDeclarations T no_declarations text d c.in-Ok.more.now) (sym c.in_ok-declared-in-Ok.ensures)
    (reads_more T no_declarations text c.loop-line.declared c.loop-line.rest.now c.in-Some.line.now c.in-Some.behind.now
    c.in-Ok.more.now c.in-Some-of.form c.in-Ok.item c.loop-line.invariant c.in-Some.ensures.parts
    (sym c.of.ensures ∙ c.in-Some-of.is) c.in-Ok.ensures.read)

pub returns-in-Err : goal.returns-in-Err
returns-in-Err c =
    let T = c.args.table.now in
    let text = c.args.text.now in
    subst (IsInputStopOf T text) (sym c.stopped_by.ensures)
    (stop_by T text c.loop-line.declared c.loop-line.rest.now c.in-Some.line.now c.in-Some.behind.now
    c.in-Some-of.form c.in-Err.fault c.loop-line.invariant c.in-Some.ensures.parts
    (sym c.of.ensures ∙ c.in-Some-of.is) c.in-Err.ensures.fault)
