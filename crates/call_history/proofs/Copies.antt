-- Pending calls have a copy and a form.
use Rattle.std.proofs.Common.{◌≡◌, ℕ, ◌+◌, ◌≤◌, ◌==◌, not, inl, inr, List, [], ◌∷◌, ◌++◌, length, refl, sym, ap, ◌∙◌, subst, arith, length-append}
use Rattle.std.specs.Prelude.{Contains, Option, Some, None, option_map}
use Rattle.std.proofs.lemmas.Bool.{cases_eq}
use Rattle.std.proofs.lemmas.List.Elements.{Contains-push_cases}
use Rattle.std.proofs.lemmas.List.Sums.{length-filter, count_by-le-length}
use Rattle.mrpc_table.specs.declared.table.Table.{Table}
use Rattle.mrpc_table.specs.Calls.{IsCallOf}
use Rattle.mrpc_table.specs.declared.call.Call.{Call}
use Rattle.policy_redact.specs.Redacting.{cleared_call}
use Rattle.policy_redact.specs.declared.redact.Clear.{Clear}
use Rattle.engine_core.specs.declared.policy.Policy.{Policy}
use Rattle.engine_core.specs.declared.policy.Policy.TheVariants.{Access, Rate, Quota, Count, Redact}
use Rattle.call_history.specs.Trace.{Trace, taken, is_pending, pending_calls, form, copied, with_tree, redacted, policy_in_trace}
use Rattle.call_history.specs.Legal.{IsLegalPrefix, HasNoCopy, HasMalformedObligation, HasForm}
use Rattle.call_history.specs.Rules.{JudgeContext, IsValidCopy, IsRefusedAtOnce, IsNoMalformedRefusal, IsMalformedRefusedAtOnce}
use Rattle.call_history.specs.declared.happening.Cause.TheVariants as cause
use Rattle.call_history.specs.declared.happening.Happening.{Happening}
use Rattle.call_history.specs.declared.happening.Happening.TheVariants.{Took, Redacted, Sent, Refused}
use Rattle.call_history.specs.declared.happening.AcceptedCall.{AcceptedCall}
use Rattle.call_history.specs.declared.happening.TookCopy.{TookCopy}
use Rattle.call_history.specs.declared.happening.TookCopy.TheVariants.{Copy, Malformed}
use Rattle.engine_core.specs.declared.call_row.TheConstants.{MAX_CALLS}
use Rattle.call_history.proofs.Accepting.{form-other, standing-malformed}
use Rattle.call_history.proofs.Further.{contains-cases}
use Rattle.call_history.proofs.GoingOn.{form-own, form-cleared}
use Rattle.call_history.proofs.Holding.{contains-kept}
use Rattle.call_history.proofs.Prefixes.{Numbered, numbered, refused-at-once}
use Rattle.call_history.proofs.Redacting.{form-others}
use Rattle.call_history.proofs.Standing.{standing-took, standing-sent, standing-refused, others_of}

-- a normal tree is still normal after a clear
abbrev pub StaysNormal : Type 0
StaysNormal = (T : Table) (clears : List Clear) (call : Call) → IsCallOf T call → IsCallOf T (cleared_call clears call)

-- ---- pending calls have a copy

refuses-none : (copy : TookCopy) (seq : ℕ) (x : Happening) → IsRefusedAtOnce copy seq x → IsNoMalformedRefusal x → HasNoCopy copy → ⊥
refuses-none (Copy tree) seq x is clean none = none
refuses-none (Malformed reason place value) seq x is clean none = subst IsNoMalformedRefusal is clean

not-awaits : (past : Trace) (x : Happening) → IsMalformedRefusedAtOnce past x → IsNoMalformedRefusal x → HasMalformedObligation past → ⊥
not-awaits (Took call ∷ past) x is clean awaits = refuses-none call.copy call.seq x is clean awaits
not-awaits past x is clean awaits = awaits

pub stands-copied : (u : JudgeContext) (past : Trace) (call : AcceptedCall) → IsLegalPrefix u past → (HasMalformedObligation past → ⊥) → Contains (pending_calls past) call → HasNoCopy call.copy → ⊥
stands-copied u [] call prefix settled has none = omega (arith, has.1)
stands-copied u (Took new ∷ past) call prefix settled has none =
    elim (Contains-push_cases (pending_calls past) new call
    (subst (λ (cs : List AcceptedCall). Contains cs call) (standing-took u past new prefix.0 prefix.1.numbered.number) has)) [
      | inl before ↦ stands-copied u past call prefix.0 (not-awaits past (Took new) prefix.1.malformed tt) before none
      | inr same ↦ settled (subst (λ (c : AcceptedCall). HasNoCopy c.copy) (sym same) none)
    ]
stands-copied u (Refused seq cause.Malformed ∷ Took new ∷ past) call prefix settled has none =
    let number : seq ≡ new.seq = refused-at-once new.copy new.seq seq prefix.1.malformed in
    let same : pending_calls (Refused seq cause.Malformed ∷ Took new ∷ past) ≡ pending_calls past =
    ap (λ n. pending_calls (Refused n cause.Malformed ∷ Took new ∷ past)) number ∙ standing-malformed u past new prefix.0.0 prefix.0.1.numbered.number in
    stands-copied u past call prefix.0.0 (not-awaits past (Took new) prefix.0.1.malformed tt) (subst (λ (cs : List AcceptedCall). Contains cs call) same has) none
stands-copied u (Refused seq cause.Malformed ∷ past) call prefix settled has none = absurd prefix.1.malformed
stands-copied u (Refused seq why ∷ past) call prefix settled has none =
    stands-copied u past call prefix.0 (not-awaits past (Refused seq why) prefix.1.malformed tt)
    (contains-kept (λ (other : AcceptedCall). not (seq == other.seq)) (pending_calls past) call (subst (λ (cs : List AcceptedCall). Contains cs call) (standing-refused past seq why) has)) none
stands-copied u (Sent seq bytes ∷ past) call prefix settled has none =
    stands-copied u past call prefix.0 (not-awaits past (Sent seq bytes) prefix.1.malformed tt)
    (contains-kept (λ (other : AcceptedCall). not (seq == other.seq)) (pending_calls past) call (subst (λ (cs : List AcceptedCall). Contains cs call) (standing-sent past seq bytes) has)) none
stands-copied u (x ∷ past) call prefix settled has none = stands-copied u past call prefix.0 (not-awaits past x prefix.1.malformed tt) has none

-- ---- calls with a copy have a form

numbered-few : (last : ℕ) (calls : List AcceptedCall) (call : AcceptedCall) → Numbered last calls → Contains calls call → call.seq ≤ last + length calls
numbered-few last [] call h has = absurd (omega (arith, has.1))
numbered-few last (first ∷ calls) call h has = elim (contains-cases first calls call has) [
  | inl same ↦ (let number : first.seq ≡ call.seq = ap (λ (c : AcceptedCall). c.seq) same in omega (arith, number, h.0))
  | inr rest ↦ omega (arith, numbered-few (last + 1) calls call h.1 rest)
]

pub taken-few : (u : JudgeContext) (past : Trace) (call : AcceptedCall) → IsLegalPrefix u past → Contains (taken past) call → call.seq ≤ length (taken past)
taken-few u past call prefix has = omega (arith, numbered-few 0 (taken past) call (numbered u past prefix) has)

-- a form as a trace has it
abbrev FormIs : JudgeContext → Option Call → AcceptedCall → Type 0
FormIs u f call = (now : Call) × (f ≡ Some now) × IsCallOf u.table now × (now.method ≡ call.method) × (now.number ≡ call.number)

has-form : (u : JudgeContext) (past : Trace) (call : AcceptedCall) → FormIs u (form u.conn call.seq past) call → HasForm u past call
has-form u past call is = record { now = is.0; is_form = is.1; of_table = is.2; method = is.3; number = is.4 }

copy-form : (u : JudgeContext) (call : AcceptedCall) (copy : TookCopy) → IsValidCopy u.table call copy → (HasNoCopy copy → ⊥) → FormIs u (copied u.conn call copy) call
copy-form u call (Copy tree) is has = (with_tree u.conn call tree, refl, record { method = is.0; tree = is.1 }, refl, refl)
copy-form u call (Malformed reason place value) is has = absurd (has tt)

cleared-form : StaysNormal → (u : JudgeContext) (call : AcceptedCall) (policy : Option Policy) (f : Option Call) → FormIs u f call → FormIs u (option_map (redacted policy) f) call
cleared-form normal u call policy None (now, is, of_table, method, number) = absurd cc
cleared-form normal u call None (Some x) (now, is, of_table, method, number) = (now, is, of_table, method, number)
cleared-form normal u call (Some (Access p)) (Some x) (now, is, of_table, method, number) = (now, is, of_table, method, number)
cleared-form normal u call (Some (Rate r)) (Some x) (now, is, of_table, method, number) = (now, is, of_table, method, number)
cleared-form normal u call (Some (Quota tenant per cap)) (Some x) (now, is, of_table, method, number) = (now, is, of_table, method, number)
cleared-form normal u call (Some Count) (Some x) (now, is, of_table, method, number) = (now, is, of_table, method, number)
cleared-form normal u call (Some (Redact clears)) (Some x) (now, is, of_table, method, number) =
    let same : x ≡ now = cc in
    (cleared_call clears now, ap (λ (c : Call). Some (cleared_call clears c)) same, normal u.table clears now of_table, method, number)

formed : StaysNormal → (u : JudgeContext) (past : Trace) (call : AcceptedCall) → IsLegalPrefix u past → Contains (taken past) call
    → (HasNoCopy call.copy → ⊥) → FormIs u (form u.conn call.seq past) call
formed normal u [] call prefix has copy = absurd (omega (arith, has.1))
formed normal u (Took new ∷ past) call prefix has copy = elim (Contains-push_cases (taken past) new call has) [
  | inl before ↦ (
      let next : new.seq ≡ length (taken past) + 1 = prefix.1.numbered.number in
      let few : call.seq ≤ length (taken past) = taken-few u past call prefix.0 before in
      subst (λ (f : Option Call). FormIs u f call) (sym (form-other u.conn call.seq past new (λ same. omega (arith, same, next, few)))) (formed normal u past call prefix.0 before copy)
      )
  | inr same ↦ subst (λ (c : AcceptedCall). FormIs u (form u.conn c.seq (Took new ∷ past)) c) same
      (subst (λ (f : Option Call). FormIs u f new) (sym (form-own u.conn new.seq past new refl))
      (copy-form u new new.copy prefix.1.numbered.copy (subst (λ (c : AcceptedCall). HasNoCopy c.copy
      → ⊥) (sym same) copy)))
]
formed normal u (Redacted seq name version ∷ past) call prefix has copy =
    let before : FormIs u (form u.conn call.seq past) call = formed normal u past call prefix.0 has copy in
    elim (cases_eq seq call.seq) [
      | inl same ↦ subst (λ (f : Option Call). FormIs u f call)
          (sym (ap (λ n. form u.conn call.seq (Redacted n name version ∷ past)) same ∙ form-cleared u.conn call.seq version name past))
          (cleared-form normal u call (policy_in_trace name past) (form u.conn call.seq past) before)
      | inr apart ↦ subst (λ (f : Option Call). FormIs u f call) (sym (form-others u.conn seq call.seq version name past apart)) before
    ]
formed normal u (x ∷ past) call prefix has copy = formed normal u past call prefix.0 has copy

pub stands-formed : StaysNormal → (u : JudgeContext) (past : Trace) (call : AcceptedCall) → IsLegalPrefix u past
    → (HasMalformedObligation past → ⊥) → Contains (pending_calls past) call → HasForm u past call
stands-formed normal u past call prefix settled has =
    has-form u past call (formed normal u past call prefix (contains-kept (is_pending past) (taken past) call has) (stands-copied u past call prefix settled has))

-- ---- at most `MAX_CALLS` calls are pending

fewer : (seq : ℕ) (calls : List AcceptedCall) → length (others_of seq calls) ≤ length calls
fewer seq calls = omega (arith, length-filter (λ (call : AcceptedCall). not (seq == call.seq)) calls, count_by-le-length (λ (call : AcceptedCall). not (seq == call.seq)) calls)

pub stands-few : (u : JudgeContext) (past : Trace) → IsLegalPrefix u past → length (pending_calls past) ≤ MAX_CALLS
stands-few u [] prefix = omega arith
stands-few u (Took call ∷ past) prefix =
    let more : length (pending_calls (Took call ∷ past)) ≡ length (pending_calls past ++ call ∷ []) = ap (length {A = AcceptedCall}) (standing-took u past call prefix.0 prefix.1.numbered.number) in
    omega (arith, more, length-append (pending_calls past) (call ∷ []), prefix.1.numbered.few)
stands-few u (Refused seq why ∷ past) prefix =
    let left : length (pending_calls (Refused seq why ∷ past)) ≡ length (others_of seq (pending_calls past)) = ap (length {A = AcceptedCall}) (standing-refused past seq why) in
    omega (arith, left, fewer seq (pending_calls past), stands-few u past prefix.0)
stands-few u (Sent seq bytes ∷ past) prefix =
    let left : length (pending_calls (Sent seq bytes ∷ past)) ≡ length (others_of seq (pending_calls past)) = ap (length {A = AcceptedCall}) (standing-sent past seq bytes) in
    omega (arith, left, fewer seq (pending_calls past), stands-few u past prefix.0)
stands-few u (x ∷ past) prefix = stands-few u past prefix.0
