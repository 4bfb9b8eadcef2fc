use Rattle.std.proofs.Common.{ℕ, ◌≡◌, ◌+◌, arith, length, subst, sym, Option, None, Some}
use Rattle.audit_text.specs.LineBytes.{IsWritableLine, bytes_of_line}
use Rattle.audit_check.specs.Checking.{IsFirstInvalidAuditLine}
use Rattle.audit_check.proofs.TextLines.{if_some_at, no_line, readable_line, taken_on}
use Rattle.audit_check.proofs.audit.take_line.Goals as goal

no_some : {A : Type 0} (o : Option A) (x : A) → o ≡ None → o ≡ Some x → ⊥
no_some None x none some = cc
no_some (Some y) x none some = cc

pub take-requires-clause-readable : goal.take-requires-clause-readable
take-requires-clause-readable c =
    let T = c.args.table.now in
    readable_line T c.args.declared.now c.in-Some.told c.requires.policies
    (if_some_at c.in_ok-told.field-0 c.in-Some.told (IsWritableLine T c.args.declared.now) c.in-Some.is c.in_ok-told.ensures.writable)

pub returns-in-Some : goal.returns-in-Some
returns-in-Some c limit text rest others r some first =
    let T = c.args.table.now in
    let declared = c.args.declared.now in
    let told = c.in-Some.told in
    let e = if_some_at c.in_ok-told.field-0 told (λ x. c.args.line.now ≡ bytes_of_line T x) c.in-Some.is c.in_ok-told.ensures.told in
    let in' = if_some_at c.in_ok-told.field-0 told (IsWritableLine T declared) c.in-Some.is c.in_ok-told.ensures.writable in
    taken_on c.line_splits_into_words.ensures.stands c.stands_line_determines_call.ensures.apart T declared limit text rest c.args.line.now others
    c.args.progress.now c.take.new.self told c.take.result r some first in' e (c.take.ensures limit r.history r.told r.progress)

pub returns-in-None : goal.returns-in-None
returns-in-None c limit text rest others r some first =
    let T = c.args.table.now in
    let counted : c.next_line.result ≡ length r.history + length r.told + 1 = omega (arith, c.next_line.ensures, r.progress.happenings, r.progress.stands) in
    let P : ℕ → Type 0 = IsFirstInvalidAuditLine T c.args.declared.now text in
    subst P (sym counted)
    (no_line c.line_splits_into_words.ensures.happening c.line_splits_into_words.ensures.stands T c.args.declared.now text r.front rest
    c.args.line.now others r.history r.told c.requires.valid r.is_text r.tells some first
    (λ x in' e. no_some c.in_ok-told.field-0 x c.in-None.is (c.in_ok-told.ensures.only x in' e)))
