-- Which rule an event breaks first, by its own rule and the rules for every event.
use Rattle.std.proofs.Common.{◌≡◌, ◌≢◌, ℕ, ◌<◌, ◌≤◌, Bool, true, false, ◌∷◌, refl, sym, subst, arith}
use Rattle.std.specs.Bool.{OnFalse, OnTrue}
use Rattle.std.specs.Prelude.{◌↔◌, IfNone, IfSome, IsTrue}
use Rattle.call_history.specs.Trace.{Trace}
use Rattle.call_history.specs.Rules.{IsEndedWithLink, IsNumbered, IsChainPreserved, CanFollow, IsNotedAsDue, IsRefusedAsAnswered, IsRefusedIfPastCap, IsMalformedRefusedAtOnce, IsSentInOrder, JudgeContext}
use Rattle.call_history.specs.declared.happening.Cause.{Cause}
use Rattle.call_history.specs.declared.happening.Cause.TheVariants as cause
use Rattle.call_history.specs.declared.happening.Happening.{Happening}
use Rattle.call_history.specs.declared.happening.Happening.TheVariants.{Took, Away, Op, Moment, Charged, Drawn, Counted, Redacted, Sent, Refused}
use Rattle.audit_rules.specs.BrokenRules.{IsFirstBrokenRule, IsRuleKept, rule_rank}
use Rattle.audit_rules.specs.CheckerState.{HasNoMalformed, IsUnblocked, IsUnblockedCause, IsObligationAfter, IsOwnRuleKept}
use Rattle.audit_rules.specs.EventKinds.{broken_first, first_broken_rule, own_rule}
use Rattle.audit_rules.specs.declared.obligation.Obligation.{Obligation}
use Rattle.audit_rules.specs.declared.obligation.Obligation.TheVariants.{Nothing, RefuseOverCap, RefuseMalformed}
use Rattle.audit_rules.specs.declared.rule.Rule.{Rule}
use Rattle.audit_rules.specs.declared.rule.Rule.TheVariants.{A, B, C, D, E, F, G, Stands}
use Rattle.audit_rules.proofs.States.{at-once}

-- ---- an event's own rule and the others

own-chain : (u : JudgeContext) (past : Trace) (what : Happening) → (IsOwnRuleKept u past what (own_rule what)) → IsChainPreserved past what
own-chain u past (Took call) own = tt
own-chain u past (Away method number addr) own = tt
own-chain u past (Op step) own = own
own-chain u past (Moment ms) own = own
own-chain u past (Charged seq name left) own = tt
own-chain u past (Drawn seq name window ticket) own = tt
own-chain u past (Counted seq name) own = tt
own-chain u past (Redacted seq name version) own = tt
own-chain u past (Sent seq bytes) own = tt
own-chain u past (Refused seq why) own = tt

own-notes : (u : JudgeContext) (past : Trace) (what : Happening) → (IsOwnRuleKept u past what (own_rule what)) → IsNotedAsDue u past what
own-notes u past (Took call) own = tt
own-notes u past (Away method number addr) own = tt
own-notes u past (Op step) own = tt
own-notes u past (Moment ms) own = tt
own-notes u past (Charged seq name left) own = own
own-notes u past (Drawn seq name window ticket) own = own
own-notes u past (Counted seq name) own = own
own-notes u past (Redacted seq name version) own = own
own-notes u past (Sent seq bytes) own = tt
own-notes u past (Refused seq why) own = tt

own-sends : (u : JudgeContext) (past : Trace) (what : Happening) → (IsOwnRuleKept u past what (own_rule what)) → IsSentInOrder u past what
own-sends u past (Took call) own = tt
own-sends u past (Away method number addr) own = tt
own-sends u past (Op step) own = tt
own-sends u past (Moment ms) own = tt
own-sends u past (Charged seq name left) own = tt
own-sends u past (Drawn seq name window ticket) own = tt
own-sends u past (Counted seq name) own = tt
own-sends u past (Redacted seq name version) own = tt
own-sends u past (Sent seq bytes) own = own
own-sends u past (Refused seq why) own = tt

own-refuses : (u : JudgeContext) (past : Trace) (what : Happening) → (IsOwnRuleKept u past what (own_rule what)) → IsRefusedAsAnswered u past what
own-refuses u past (Took call) own = tt
own-refuses u past (Away method number addr) own = tt
own-refuses u past (Op step) own = tt
own-refuses u past (Moment ms) own = tt
own-refuses u past (Charged seq name left) own = tt
own-refuses u past (Drawn seq name window ticket) own = tt
own-refuses u past (Counted seq name) own = tt
own-refuses u past (Redacted seq name version) own = tt
own-refuses u past (Sent seq bytes) own = tt
own-refuses u past (Refused seq why) own = own

-- an event whose own rule is another
other-chain : (u : JudgeContext) (past : Trace) (what : Happening) → own_rule what ≢ C → IsChainPreserved past what
other-chain u past (Took call) other = tt
other-chain u past (Away method number addr) other = tt
other-chain u past (Op step) other = absurd (other refl)
other-chain u past (Moment ms) other = absurd (other refl)
other-chain u past (Charged seq name left) other = tt
other-chain u past (Drawn seq name window ticket) other = tt
other-chain u past (Counted seq name) other = tt
other-chain u past (Redacted seq name version) other = tt
other-chain u past (Sent seq bytes) other = tt
other-chain u past (Refused seq why) other = tt

other-notes : (u : JudgeContext) (past : Trace) (what : Happening) → own_rule what ≢ D → IsNotedAsDue u past what
other-notes u past (Took call) other = tt
other-notes u past (Away method number addr) other = tt
other-notes u past (Op step) other = tt
other-notes u past (Moment ms) other = tt
other-notes u past (Charged seq name left) other = absurd (other refl)
other-notes u past (Drawn seq name window ticket) other = absurd (other refl)
other-notes u past (Counted seq name) other = absurd (other refl)
other-notes u past (Redacted seq name version) other = absurd (other refl)
other-notes u past (Sent seq bytes) other = tt
other-notes u past (Refused seq why) other = tt

other-sends : (u : JudgeContext) (past : Trace) (what : Happening) → own_rule what ≢ E → IsSentInOrder u past what
other-sends u past (Took call) other = tt
other-sends u past (Away method number addr) other = tt
other-sends u past (Op step) other = tt
other-sends u past (Moment ms) other = tt
other-sends u past (Charged seq name left) other = tt
other-sends u past (Drawn seq name window ticket) other = tt
other-sends u past (Counted seq name) other = tt
other-sends u past (Redacted seq name version) other = tt
other-sends u past (Sent seq bytes) other = absurd (other refl)
other-sends u past (Refused seq why) other = tt

-- ---- the first rule

module _ (u : JudgeContext) (past : Trace) (what : Happening) where
  -- the rules before a rank are kept
  below : (n : ℕ) → n ≤ 6 → (0 < n → IsNumbered u past what) → (1 < n → IsMalformedRefusedAtOnce past what) → (2 < n → IsChainPreserved past what)
      → (3 < n → IsNotedAsDue u past what × IsRefusedIfPastCap past what) → (4 < n → IsSentInOrder u past what) → (5 < n → IsRefusedAsAnswered u past what)
      → (other : Rule) → rule_rank other < n → IsRuleKept u past what other
  below n few a b c d e f A less = a less
  below n few a b c d e f B less = b less
  below n few a b c d e f C less = c less
  below n few a b c d e f D less = d less
  below n few a b c d e f E less = e less
  below n few a b c d e f F less = f less
  below n few a b c d e f G less = absurd (omega arith)
  below n few a b c d e f Stands less = absurd (omega arith)

  pub breaks-numbers : (IsNumbered u past what → ⊥) → IsFirstBrokenRule u past what A
  breaks-numbers fails = record {
    broken = fails;
    earlier = below 0 (omega arith) (λ less. absurd (omega arith)) (λ less. absurd (omega arith))
        (λ less. absurd (omega arith)) (λ less. absurd (omega arith)) (λ less. absurd (omega arith))
        (λ less. absurd (omega arith));
  }

  pub breaks-malformed : IsNumbered u past what → (IsMalformedRefusedAtOnce past what → ⊥) → IsFirstBrokenRule u past what B
  breaks-malformed a fails = record {
    broken = fails;
    earlier = below 1 (omega arith) (λ less. a) (λ less. absurd (omega arith)) (λ less. absurd (omega arith))
        (λ less. absurd (omega arith)) (λ less. absurd (omega arith)) (λ less. absurd (omega arith));
  }

  module _ (a : IsNumbered u past what) (b : IsMalformedRefusedAtOnce past what) where
    breaks-chain : (IsChainPreserved past what → ⊥) → IsFirstBrokenRule u past what C
    breaks-chain fails = record {
      broken = fails;
      earlier = below 2 (omega arith) (λ less. a) (λ less. b) (λ less. absurd (omega arith))
          (λ less. absurd (omega arith)) (λ less. absurd (omega arith)) (λ less. absurd (omega arith));
    }

    breaks-notes : IsChainPreserved past what → (IsNotedAsDue u past what × IsRefusedIfPastCap past what → ⊥) → IsFirstBrokenRule u past what D
    breaks-notes c fails = record {
      broken = fails;
      earlier = below 3 (omega arith) (λ less. a) (λ less. b) (λ less. c) (λ less. absurd (omega arith)) (λ less. absurd (omega arith)) (λ less. absurd (omega arith));
    }

    breaks-sends : IsChainPreserved past what → IsNotedAsDue u past what → IsRefusedIfPastCap past what → (IsSentInOrder u past what → ⊥) → IsFirstBrokenRule u past what E
    breaks-sends c d drawn fails = record {
      broken = fails;
      earlier = below 4 (omega arith) (λ less. a) (λ less. b) (λ less. c) (λ less. (d, drawn)) (λ less. absurd (omega arith)) (λ less. absurd (omega arith));
    }

    breaks-refuses : IsChainPreserved past what → IsNotedAsDue u past what → IsRefusedIfPastCap past what
        → IsSentInOrder u past what → (IsRefusedAsAnswered u past what → ⊥) → IsFirstBrokenRule u past what F
    breaks-refuses c d drawn e fails = record {
      broken = fails;
      earlier = below 5 (omega arith) (λ less. a) (λ less. b) (λ less. c) (λ less. (d, drawn)) (λ less. e) (λ less. absurd (omega arith));
    }

    breaks-link : IsChainPreserved past what → IsNotedAsDue u past what → IsRefusedIfPastCap past what
        → IsSentInOrder u past what → IsRefusedAsAnswered u past what → (IsEndedWithLink past what → ⊥)
        → IsFirstBrokenRule u past what G
    breaks-link c d drawn e f fails = record {
      broken = fails;
      earlier = below 6 (omega arith) (λ less. a) (λ less. b) (λ less. c) (λ less. (d, drawn)) (λ less. e) (λ less. f);
    }

    -- its own rule is broken
    breaks-own : (own : Rule) → own ≡ own_rule what → (IsOwnRuleKept u past what own → ⊥) → (drawn : Bool)
        → (IsTrue drawn ↔ IsRefusedIfPastCap past what) → IsFirstBrokenRule u past what (broken_first own drawn)
    breaks-own A is fails drawn by = absurd (fails tt)
    breaks-own B is fails drawn by = absurd (fails tt)
    breaks-own C is fails drawn by = breaks-chain fails
    breaks-own D is fails true by = breaks-notes (other-chain u past what (λ other. cc)) (λ both. fails both.0)
    breaks-own D is fails false by = breaks-notes (other-chain u past what (λ other. cc)) (λ both. fails both.0)
    breaks-own E is fails true by = breaks-sends (other-chain u past what (λ other. cc)) (other-notes u past what (λ other. cc)) (by.0 refl) fails
    breaks-own E is fails false by = breaks-notes (other-chain u past what (λ other. cc)) (λ both. (let wrong : false ≡ true = by.1 both.1 in cc))
    breaks-own F is fails true by =
        breaks-refuses (other-chain u past what (λ other. cc)) (other-notes u past what (λ other. cc)) (by.0 refl)
        (other-sends u past what (λ other. cc)) fails
    breaks-own F is fails false by = breaks-notes (other-chain u past what (λ other. cc)) (λ both. (let wrong : false ≡ true = by.1 both.1 in cc))
    breaks-own G is fails drawn by = absurd (fails tt)
    breaks-own Stands is fails drawn by = absurd (fails tt)

    pub breaks-first : (kept drawn linked : Bool) → OnTrue kept (IsOwnRuleKept u past what (own_rule what)) → OnFalse kept (IsOwnRuleKept u past what (own_rule what) → ⊥)
        → (IsTrue drawn ↔ IsRefusedIfPastCap past what) → (IsTrue linked ↔ IsEndedWithLink past what)
        → IfSome (first_broken_rule (own_rule what) kept drawn linked) (λ rule. IsFirstBrokenRule u past what rule)
    breaks-first false drawn linked own fails by_drawn by_link = breaks-own (own_rule what) refl fails drawn by_drawn
    breaks-first true false linked own fails by_drawn by_link =
        breaks-notes (own-chain u past what own) (λ both. (let wrong : false ≡ true = by_drawn.1 both.1 in cc))
    breaks-first true true false own fails by_drawn by_link =
        breaks-link (own-chain u past what own) (own-notes u past what own) (by_drawn.0 refl)
        (own-sends u past what own) (own-refuses u past what own)
        (λ link. (let wrong : false ≡ true = by_link.1 link in cc))
    breaks-first true true true own fails by_drawn by_link = tt

    pub may-come : (kept drawn linked : Bool) → OnTrue kept (IsOwnRuleKept u past what (own_rule what))
        → (IsTrue drawn ↔ IsRefusedIfPastCap past what) → (IsTrue linked ↔ IsEndedWithLink past what) → IfNone (first_broken_rule (own_rule what) kept drawn linked) (CanFollow u past what)
    may-come false drawn linked own by_drawn by_link = tt
    may-come true false linked own by_drawn by_link = tt
    may-come true true false own by_drawn by_link = tt
    may-come true true true own by_drawn by_link = record {
      numbered = a;
      malformed = b;
      chain_kept = own-chain u past what own;
      notes_due = own-notes u past what own;
      drawn_refused = by_drawn.0 refl;
      in_order = own-sends u past what own;
      answered = own-refuses u past what own;
      link_end = by_link.0 refl;
    }

-- what follows if nothing is broken
pub if-none-both : (P Q : Type 0) (own : Rule) (kept drawn linked : Bool) → (P → OnTrue kept Q)
    → IfNone (first_broken_rule own kept drawn linked) P → IfNone (first_broken_rule own kept drawn linked) Q
if-none-both P Q own false drawn linked next is = tt
if-none-both P Q own true false linked next is = tt
if-none-both P Q own true true false next is = tt
if-none-both P Q own true true true next is = next is

-- ---- obligations

free-for : (why : Cause) (left : Obligation) → HasNoMalformed left → IsUnblockedCause why left
free-for cause.Malformed left free = tt
free-for (cause.Access name version rule) left free = free
free-for (cause.Rate name level cost) left free = free
free-for (cause.Quota name ticket cap) left free = free
free-for cause.Transport left free = free

free-anyway : (what : Happening) (left : Obligation) → HasNoMalformed left → IsUnblocked what left
free-anyway (Took call) left free = free
free-anyway (Away method number addr) left free = free
free-anyway (Op step) left free = free
free-anyway (Moment ms) left free = free
free-anyway (Charged seq name level) left free = free
free-anyway (Drawn seq name window ticket) left free = free
free-anyway (Counted seq name) left free = free
free-anyway (Redacted seq name version) left free = free
free-anyway (Sent seq bytes) left free = free
free-anyway (Refused seq why) left free = free-for why left free

pub free-before : (past : Trace) (what : Happening) (left : Obligation) → IsObligationAfter past left → IsMalformedRefusedAtOnce past what → IsUnblocked what left
free-before past what Nothing opened malformed = free-anyway what Nothing tt
free-before past what (RefuseMalformed seq) opened malformed =
    let at : IsMalformedRefusedAtOnce (Took opened.call ∷ opened.earlier) what = subst (λ (p : Trace). IsMalformedRefusedAtOnce p what) opened.is_last malformed in
    let is : what ≡ Refused opened.call.seq cause.Malformed = at-once opened.call.copy opened.call.seq what opened.malformed at in
    subst (λ (w : Happening). IsUnblocked w (RefuseMalformed seq)) (sym is) tt
free-before past what (RefuseOverCap seq at ticket cap) opened malformed = free-anyway what (RefuseOverCap seq at ticket cap) tt
