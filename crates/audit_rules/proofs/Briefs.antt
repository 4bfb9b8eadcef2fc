-- The rules for every event, on a note or a send.
use Rattle.std.proofs.Common.{◌≡◌, ℕ, Option, Bool, true, false, not, List, [], ◌∷◌, ◌∙◌, slice_get, ap, refl, sym, subst, arith}
use Rattle.std.specs.Bool.{OnFalse, OnTrue}
use Rattle.std.specs.Prelude.{◌↔◌, IfNone, IfSome, IsTrue, Some}
use Rattle.mrpc_table.specs.declared.table.Table.{Table}
use Rattle.engine_core.specs.Chains.{Chain, Entry}
use Rattle.engine_core.specs.Engines.{EngineParts}
use Rattle.call_history.specs.Trace.{Trace, has_failed, policy_in_trace, pending_calls}
use Rattle.call_history.specs.Legal.{HasMalformedObligation, HasQuotaObligation, HasNoCopy}
use Rattle.call_history.specs.Rules.{IsEndedWithLink, IsNextAfterFailure, IsLinkRefusal, IsNoMalformedRefusal, IsNumbered, IsQuiet, IsRefusedAtOnce, CanFollow, IsRefusedIfPastCap, IsMalformedRefusedAtOnce, JudgeContext, cap_of}
use Rattle.call_history.specs.declared.happening.Cause.{Cause}
use Rattle.call_history.specs.declared.happening.Cause.TheVariants as cause
use Rattle.call_history.specs.declared.happening.Happening.{Happening}
use Rattle.call_history.specs.declared.happening.Happening.TheVariants.{Took, Away, Op, Moment, Charged, Drawn, Counted, Sent, Refused}
use Rattle.call_history.specs.declared.happening.AcceptedCall.{AcceptedCall}
use Rattle.call_history.specs.declared.happening.TookCopy.{TookCopy}
use Rattle.call_history.specs.declared.happening.TookCopy.TheVariants.{Copy, Malformed}
use Rattle.audit_rules.specs.BrokenRules.{IsFirstBrokenRule}
use Rattle.audit_rules.specs.CheckerState.{IsCheckerAfter, IsObligationAfter, IsOwnRuleKept, checker_context}
use Rattle.audit_rules.specs.EventKinds.{IsOfCall, first_broken_rule, is_nothing, is_malformed_due, own_rule}
use Rattle.audit_rules.specs.declared.checker.Checker.{Checker}
use Rattle.audit_rules.specs.declared.obligation.Obligation.{Obligation}
use Rattle.audit_rules.specs.declared.obligation.Obligation.TheVariants as lefts
use Rattle.audit_rules.specs.declared.rule.Rule.{Rule}
use Rattle.audit_rules.specs.declared.rule.Rule.TheVariants as rules
use Rattle.audit_rules.proofs.Firsts.{breaks-first, if-none-both, may-come}
use Rattle.audit_rules.proofs.Known.{unmap-at}
use Rattle.audit_rules.proofs.States.{at-once}
use Rattle.audit_rules.proofs.Stepping.{one-some}

-- ---- by the event alone

no-refusal : (what : Happening) → IsOfCall what → (seq : ℕ) (why : Cause) → what ≡ Refused seq why → ⊥
no-refusal what of seq why is = subst IsOfCall is of

numbered : (u : JudgeContext) (past : Trace) (what : Happening) → IsOfCall what → IsNumbered u past what
numbered u past (Charged seq name left) of = tt
numbered u past (Drawn seq name window ticket) of = tt
numbered u past (Counted seq name) of = tt
numbered u past (Sent seq bytes) of = tt
numbered u past (Took call) of = absurd of
numbered u past (Away method number addr) of = absurd of
numbered u past _ of = tt

other-malformed : (what : Happening) → IsOfCall what → IsNoMalformedRefusal what
other-malformed (Refused seq why) of = absurd of
other-malformed _ of = tt

copy-malformed : (copy : TookCopy) (seq : ℕ) (what : Happening) → IsOfCall what → (HasNoCopy copy → ⊥) → IsRefusedAtOnce copy seq what
copy-malformed (Malformed reason place value) seq what of none = absurd (none tt)
copy-malformed (Copy tree) seq (Refused call why) of none = absurd of
copy-malformed (Copy tree) seq _ of none = tt

link-refusal : (past : Trace) (what : Happening) → IsOfCall what → IsLinkRefusal past what
link-refusal past (Refused seq why) of = absurd of
link-refusal past _ of = tt

no-quiet : (what : Happening) → IsOfCall what → IsQuiet what → ⊥
no-quiet (Op step) of quiet = of
no-quiet (Moment ms) of quiet = of
no-quiet _ of quiet = quiet

not-standing : (calls : List AcceptedCall) (what : Happening) → IsOfCall what → IsNextAfterFailure calls what → ⊥
not-standing [] what of is = no-quiet what of is
not-standing (call ∷ calls) what of is = no-refusal what of call.seq cause.Transport is

-- ---- by the trace

behind-malformed : (past : Trace) (what : Happening) → IsOfCall what → (HasMalformedObligation past → ⊥) → IsMalformedRefusedAtOnce past what
behind-malformed [] what of none = other-malformed what of
behind-malformed (Took call ∷ past) what of none = copy-malformed call.copy call.seq what of none
behind-malformed (_ ∷ past) what of none = other-malformed what of

behind-drawn : (past : Trace) (what : Happening) → (HasQuotaObligation past → ⊥) → IsRefusedIfPastCap past what
behind-drawn [] what none = tt
behind-drawn (Drawn seq name window ticket ∷ past) what none = λ policy cap is_policy is_cap more.
    absurd (none (record { policy = policy; cap = cap; is_policy = is_policy; is_cap = is_cap; over = λ less. omega (arith, more, less) }))
behind-drawn (_ ∷ past) what none = tt

malformed : (past : Trace) (what : Happening) (left : Obligation) → IsOfCall what → IsObligationAfter past left → is_malformed_due left ≡ false → IsMalformedRefusedAtOnce past what
malformed past what lefts.Nothing of opened free = behind-malformed past what of opened.0
malformed past what (lefts.RefuseMalformed seq) of opened free = absurd cc
malformed past what (lefts.RefuseOverCap seq at ticket cap) of opened free = subst (λ (p : Trace). IsMalformedRefusedAtOnce p what) (sym opened.is_last) (other-malformed what of)

waits : (past : Trace) (what : Happening) (left : Obligation) → IsOfCall what → IsObligationAfter past left → is_malformed_due left ≡ true → IsMalformedRefusedAtOnce past what → ⊥
waits past what lefts.Nothing of opened is = absurd cc
waits past what (lefts.RefuseMalformed seq) of opened is = λ refuses.
    (let at : IsMalformedRefusedAtOnce (Took opened.call ∷ opened.earlier) what = subst (λ (p : Trace). IsMalformedRefusedAtOnce p what) opened.is_last refuses in
    no-refusal what of opened.call.seq cause.Malformed (at-once opened.call.copy opened.call.seq what opened.malformed at))
waits past what (lefts.RefuseOverCap seq at ticket cap) of opened is = absurd cc

drawn : (past : Trace) (what : Happening) (left : Obligation) → IsOfCall what → IsObligationAfter past left → is_malformed_due left ≡ false → IsTrue (is_nothing left) ↔ IsRefusedIfPastCap past what
drawn past what lefts.Nothing of opened free = (λ is. behind-drawn past what opened.1, λ refuses. refl)
drawn past what (lefts.RefuseMalformed seq) of opened free = absurd cc
drawn past what (lefts.RefuseOverCap seq at ticket cap) of opened free = (
  λ is. absurd cc,
  λ refuses.
      (let next : IsRefusedIfPastCap (Drawn seq opened.entry.name opened.window ticket ∷ opened.earlier) what = subst (λ (p : Trace). IsRefusedIfPastCap p what) opened.is_last refuses in
      absurd (no-refusal what of seq (cause.Quota opened.entry.name ticket cap) (next opened.policy cap opened.is_policy opened.is_cap opened.past_cap))),
)

-- a call whose ticket isn't below the cap is refused by the entry at the recorded position
pub over-refused : (T : Table) (past : Trace) (what : Happening) (c : Checker) (seq at ticket cap : ℕ) (result : Bool) → IsCheckerAfter T past c
    → c.left ≡ lefts.RefuseOverCap seq at ticket cap
    → IfSome (slice_get c.engines.items at) (λ e. IsTrue result ↔ (what ≡ Refused seq (cause.Quota e.entry.name ticket cap)))
    → IsTrue result ↔ IsRefusedIfPastCap past what
over-refused T past what c seq at ticket cap result knows is answers =
    let opened : IsObligationAfter past (lefts.RefuseOverCap seq at ticket cap) = subst (λ (l : Obligation). IsObligationAfter past l) is knows.left in
    let engine = unmap-at (λ (e : EngineParts). e.entry) c.engines.items at opened.entry
    (subst (λ (x : Chain). slice_get x.entries at ≡ Some opened.entry) (sym knows.row.ties.same_chain) opened.position) in
    let here : IsTrue result ↔ (what ≡ Refused seq (cause.Quota engine.0.entry.name ticket cap)) =
    subst (λ (o : Option EngineParts). IfSome o (λ e. IsTrue result ↔ (what ≡ Refused seq (cause.Quota e.entry.name ticket cap)))) engine.1 answers in
    let by : IsTrue result ↔ (what ≡ Refused seq (cause.Quota opened.entry.name ticket cap)) =
    subst (λ (e : Entry). IsTrue result ↔ (what ≡ Refused seq (cause.Quota e.name ticket cap))) engine.2 here in (
      λ true. subst (λ (p : Trace). IsRefusedIfPastCap p what) (sym opened.is_last)
          (λ policy other is_policy is_cap more.
          (let same : policy ≡ opened.policy = one-some (policy_in_trace opened.entry.name opened.earlier) policy opened.policy is_policy opened.is_policy in
          let equal : cap ≡ other = one-some (cap_of policy) cap other (ap cap_of same ∙ opened.is_cap) is_cap in
          subst (λ (k : ℕ). what ≡ Refused seq (cause.Quota opened.entry.name ticket k)) equal (by.0 true))),
      λ refuses. by.1 (subst (λ (p : Trace). IsRefusedIfPastCap p what) opened.is_last refuses opened.policy cap opened.is_policy opened.is_cap opened.past_cap),
    )

linked : (past : Trace) (what : Happening) (failed : Bool) → IsOfCall what → failed ≡ has_failed past → IsTrue (not failed) ↔ IsEndedWithLink past what
linked past what false of is = (
  λ same. (λ yes. absurd (let wrong : false ≡ true = is ∙ yes in cc), link-refusal past what of),
  λ ends. refl,
)
linked past what true of is = (λ same. absurd cc, λ ends. absurd (not-standing (pending_calls past) what of (ends.0 (sym is))))

-- ---- the result

module _ (T : Table) (past : Trace) (what : Happening) (c : Checker) (of : IsOfCall what) (knows : IsCheckerAfter T past c) where
  abbrev pub u : JudgeContext
  u = checker_context T c

  module _ (own : Rule) (kept settled link : Bool) (result : Option Rule) (is_own : own ≡ own_rule what) (free : is_malformed_due c.left ≡ false)
      (is_settled : settled ≡ is_nothing c.left) (is_linked : link ≡ not c.failed) (is : result ≡ first_broken_rule own kept settled link) where
    answer : result ≡ first_broken_rule (own_rule what) kept (is_nothing c.left) (not c.failed)
    answer =
        is ∙ ap (λ (r : Rule). first_broken_rule r kept settled link) is_own ∙ ap (λ (b : Bool). first_broken_rule (own_rule what) kept b link) is_settled
        ∙ ap (λ (b : Bool). first_broken_rule (own_rule what) kept (is_nothing c.left) b) is_linked

    comes : OnTrue kept (IsOwnRuleKept u past what (own_rule what)) → IfNone (first_broken_rule (own_rule what) kept (is_nothing c.left) (not c.failed)) (CanFollow u past what)
    comes owns =
        may-come u past what (numbered u past what of) (malformed past what c.left of knows.left free) kept (is_nothing c.left) (not c.failed)
        owns (drawn past what c.left of knows.left free) (linked past what c.failed of knows.failed)

    pub briefly-may : OnTrue kept (IsOwnRuleKept u past what (own_rule what)) → IfNone result (CanFollow u past what)
    briefly-may owns = subst (λ (r : Option Rule). IfNone r (CanFollow u past what)) (sym answer) (comes owns)

    pub briefly-breaks : OnTrue kept (IsOwnRuleKept u past what (own_rule what)) → OnFalse kept (IsOwnRuleKept u past what (own_rule what) → ⊥) → IfSome result (λ rule. IsFirstBrokenRule u past what rule)
    briefly-breaks owns fails =
        subst (λ (r : Option Rule). IfSome r (λ rule. IsFirstBrokenRule u past what rule)) (sym answer)
        (breaks-first u past what (numbered u past what of) (malformed past what c.left of knows.left free) kept (is_nothing c.left) (not c.failed)
        owns fails (drawn past what c.left of knows.left free) (linked past what c.failed of knows.failed))

    pub briefly-knows : (after : Checker) → OnTrue kept (IsOwnRuleKept u past what (own_rule what)) → (CanFollow u past what → OnTrue kept (IsCheckerAfter T (what ∷ past) after))
        → IfNone result (IsCheckerAfter T (what ∷ past) after)
    briefly-knows after owns next =
        subst (λ (r : Option Rule). IfNone r (IsCheckerAfter T (what ∷ past) after)) (sym answer)
        (if-none-both (CanFollow u past what) (IsCheckerAfter T (what ∷ past) after) (own_rule what) kept (is_nothing c.left) (not c.failed) next (comes owns))
