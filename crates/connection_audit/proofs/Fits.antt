-- Each event of a connection can be written under its table.
use Rattle.std.proofs.Common.{◌≡◌, ℕ, zero, suc, List, [], ◌∷◌, ◌++◌, reverse, Some, subst}
use Rattle.std.proofs.lemmas.List.{reverse-append}
use Rattle.std.specs.Prelude.{slice_get}
use Rattle.std.specs.List.{AllByRecursion}
use Rattle.mrpc_table.specs.declared.table.Table.{Table}
use Rattle.call_history.specs.Trace.{Trace}
use Rattle.call_history.specs.Legal.{IsLegalPrefix}
use Rattle.call_history.specs.Rules.{IsValidCopy, JudgeContext}
use Rattle.call_history.specs.declared.happening.Happening.{Happening}
use Rattle.call_history.specs.declared.happening.Happening.TheVariants.{Away, Charged, Counted, Drawn, Moment, Op, Redacted, Refused, Sent, Took}
use Rattle.call_history.specs.declared.happening.AcceptedCall.{AcceptedCall}
use Rattle.call_history.specs.declared.happening.TookCopy.{TookCopy}
use Rattle.call_history.specs.declared.happening.TookCopy.TheVariants.{Copy, Malformed}
use Rattle.audit_text.specs.Lines.{IsCopyOfTable, IsEventOfTable}

taken-fits : (T : Table) (call : AcceptedCall) (copy : TookCopy) → IsValidCopy T call copy → IsCopyOfTable T call copy
taken-fits T call (Copy tree) taken = taken
taken-fits T call (Malformed reason place value) taken = tt

behind-fits : (u : JudgeContext) (past : Trace) → IsLegalPrefix u past → AllByRecursion (IsEventOfTable u.table) past
behind-fits u [] prefix = tt
behind-fits u (Took call ∷ past) prefix = (taken-fits u.table call call.copy prefix.1.numbered.copy, behind-fits u past prefix.0)
behind-fits u (Away method number addr ∷ past) prefix = (tt, behind-fits u past prefix.0)
behind-fits u (Op step ∷ past) prefix = (tt, behind-fits u past prefix.0)
behind-fits u (Moment ms ∷ past) prefix = (tt, behind-fits u past prefix.0)
behind-fits u (Charged seq name left ∷ past) prefix = (tt, behind-fits u past prefix.0)
behind-fits u (Drawn seq name window ticket ∷ past) prefix = (tt, behind-fits u past prefix.0)
behind-fits u (Counted seq name ∷ past) prefix = (tt, behind-fits u past prefix.0)
behind-fits u (Redacted seq name version ∷ past) prefix = (tt, behind-fits u past prefix.0)
behind-fits u (Sent seq bytes ∷ past) prefix = (tt, behind-fits u past prefix.0)
behind-fits u (Refused seq why ∷ past) prefix = (tt, behind-fits u past prefix.0)

module _ (P : Happening → Type 0) where
  all-back : (front back : List Happening) → AllByRecursion P (front ++ back) → AllByRecursion P front
  all-back [] back all = tt
  all-back (x ∷ front) back all = (all.0, all-back front back all.1)

  all-front : (front back : List Happening) → AllByRecursion P (front ++ back) → AllByRecursion P back
  all-front [] back all = all
  all-front (x ∷ front) back all = all-front front back all.1

  -- what holds for all elements of the reversed list holds for the element at an index
  pub reversed-at : (xs : List Happening) (place : ℕ) (x : Happening) → AllByRecursion P (reverse xs) → slice_get xs place ≡ Some x → P x
  reversed-at [] place x all at = cc
  reversed-at (y ∷ xs) zero x all at =
      let same : y ≡ x = cc in
      subst P same ((all-front (reverse xs) (y ∷ []) (subst (AllByRecursion P) (reverse-append (y ∷ []) xs) all)).0)
  reversed-at (y ∷ xs) (suc place) x all at = reversed-at xs place x (all-back (reverse xs) (y ∷ []) (subst (AllByRecursion P) (reverse-append (y ∷ []) xs) all)) at

pub happenings-fit : (u : JudgeContext) (xs : List Happening) → IsLegalPrefix u (reverse xs) → (place : ℕ) (x : Happening) → slice_get xs place ≡ Some x → IsEventOfTable u.table x
happenings-fit u xs prefix place x at = reversed-at (IsEventOfTable u.table) xs place x (behind-fits u (reverse xs) prefix) at
