use Rattle.std.proofs.Common.{rules, ◌≡◌, ◌≢◌, ◌+◌, ◌≤◌, ◌++◌, ◌∷◌, [], inl, All, length, append-nil, length-append, arith, subst, sym, ◌∙◌, ap}
use Rattle.std.proofs.lemmas.List.Elements.{All-push}
use Rattle.call_history.specs.Legal.{History}
use Rattle.audit_text.specs.Lines.{audit, audit_line}
use Rattle.audit_text.specs.Writable.{IsWritable}
use Rattle.audit_text.specs.Faults.{HasNoLine, IsFirstInvalidLine}
use Rattle.audit_text.specs.declared.reading.AuditFault.TheVariants.{Bad}
use Rattle.audit_text.proofs.Histories.{audit-more, no-history, nothing-left}
use Rattle.audit_text.proofs.reading.read_audit.Goals as goal

pub returns-in_default-clause-only : goal.returns-in_default-clause-only
returns-in_default-clause-only c =
    λ h all e.
    let T = c.args.table.now in
    let declared = c.args.declared.now in
    let rest = c.loop-rest.rest.now in
    let some : rest ≢ [] = search rules in
    let none : HasNoLine T declared rest = search rules in
    absurd (no-history c.history_of_text_is_unique.ensures.front T c.requires declared c.loop-rest.history h rest
    c.loop-rest.invariant.told all some none (sym c.loop-rest.invariant.text ∙ e))

pub loop-rest-preserved : goal.loop-rest-preserved
loop-rest-preserved c =
    let T = c.args.table.now in
    let declared = c.args.declared.now in
    let rest = c.loop-rest.rest.now in
    let history = c.loop-rest.history in
    let x = c.in-Some.happened in
    let behind = c.in-Some.behind.now in
    let told : (rest ≡ audit_line T x ++ behind) × IsWritable T declared x = search rules in
    let pushed : c.push.new.self ≡ history ++ x ∷ [] = c.in_ok-push.ensures.ok in
    let P : History → Type 0 = λ h. All (IsWritable T declared) h in
    let fewer : length behind + 1 ≤ length rest = search rules in
    record {
      text = audit-more T history x c.args.text.now rest behind c.loop-rest.invariant.text told.0 ∙ ap (λ h. audit T h ++ behind) (sym pushed);
      told = subst P (sym pushed) (All-push (IsWritable T declared) history x c.loop-rest.invariant.told told.1);
      room = omega (arith, ap length pushed, length-append history (x ∷ []), fewer, c.loop-rest.invariant.room);
    }

pub returns-clause-only : goal.returns-clause-only
returns-clause-only c =
    λ h all e.
    let zero : length c.loop-rest.rest.now ≡ 0 = search rules in
    let none : c.loop-rest.rest.now ≡ [] = nothing-left c.loop-rest.rest.now zero in
    let text : c.args.text.now ≡ audit c.args.table.now c.loop-rest.history =
    c.loop-rest.invariant.text ∙ ap (λ r. audit c.args.table.now c.loop-rest.history ++ r) none
    ∙ append-nil (audit c.args.table.now c.loop-rest.history) in
    c.history_of_text_is_unique.ensures.text c.args.table.now c.args.declared.now c.loop-rest.history h c.requires c.loop-rest.invariant.told all (sym text ∙ e)

pub returns-clause-only_bad : goal.returns-clause-only_bad
returns-clause-only_bad c =
    λ line is.
    let zero : length c.loop-rest.rest.now ≡ 0 = search rules in
    let none : c.loop-rest.rest.now ≡ [] = nothing-left c.loop-rest.rest.now zero in
    let text : c.args.text.now ≡ audit c.args.table.now c.loop-rest.history =
    c.loop-rest.invariant.text ∙ ap (λ r. audit c.args.table.now c.loop-rest.history ++ r) none
    ∙ append-nil (audit c.args.table.now c.loop-rest.history) in
    c.first_invalid_line_is_unique.ensures.not_both c.args.table.now c.args.declared.now c.args.text.now c.loop-rest.history line c.requires c.loop-rest.invariant.told text is

pub returns-in_default-clause-only_bad : goal.returns-in_default-clause-only_bad
returns-in_default-clause-only_bad c =
    λ line is.
    let T = c.args.table.now in
    let declared = c.args.declared.now in
    let rest = c.loop-rest.rest.now in
    let some : rest ≢ [] = search rules in
    let none : HasNoLine T declared rest = search rules in
    let count : c.len.result + 1 ≡ length c.loop-rest.history + 1 = search rules in
    let bad : IsFirstInvalidLine T declared c.args.text.now (c.len.result + 1) = record {
      before = c.loop-rest.history;
      rest = rest;
      told = c.loop-rest.invariant.told;
      text_is = c.loop-rest.invariant.text;
      number = count;
      not_empty = some;
      none_next = none;
    } in
    inl (ap Bad (c.first_invalid_line_is_unique.ensures.bad T declared c.args.text.now (c.len.result + 1) line c.requires bad is))
