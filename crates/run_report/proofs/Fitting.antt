-- The lines of arrival traces can be written.
use Rattle.std.proofs.Common.{◌≡◌, ℕ, ◌<◌, ◌≤◌, ◌==◌, Bool, true, false, List, [], ◌∷◌, length, max, Option, Some}
use Rattle.std.proofs.Common.{None, All, inl, inr, refl, sym, ap, subst, arith, unwrap_or, option_map, option_copied}
use Rattle.std.proofs.Common.{position, if◌then◌else◌}
use Rattle.std.specs.List.{AllZip}
use Rattle.std.proofs.lemmas.List.Elements.{All-cons, All-head, All-nil, All-tail}
use Rattle.std.proofs.lemmas.List.Quantifiers.{position-Some}
use Rattle.std.proofs.lemmas.Bool.Decides.{eqb_tells}
use Rattle.std.proofs.lemmas.Option.{same_Some}
use Rattle.mrpc_table.specs.Calls.{message_of, call_kind_of}
use Rattle.mrpc_table.specs.Node.{Node}
use Rattle.mrpc_table.specs.Normal.{IsNormal}
use Rattle.mrpc_table.specs.declared.call.Call.{Call}
use Rattle.mrpc_table.specs.declared.call.CallKind.{CallKind}
use Rattle.mrpc_table.specs.declared.call.CallKind.TheVariants.{Reply, Request}
use Rattle.mrpc_table.specs.declared.table.Table.{Table}
use Rattle.frame_transport.specs.declared.format.Frame.{Frame}
use Rattle.policy_access.specs.Verdict.{AccessPolicy, matches, verdict}
use Rattle.policy_access.specs.declared.rule.Rule.{Rule}
use Rattle.receive_core.specs.Fates.{IsCall, IsFate, arrived, arrives, received_call, drops, has_no_method, is_denied, is_faulty, is_hello, is_too_large, message_of_frame}
use Rattle.receive_core.specs.ReceiverTraces.{Fated, HasItsFate, ReceiverTrace, was_dropped, was_placed}
use Rattle.receive_core.specs.declared.arrival.DropCause.{DropCause}
use Rattle.receive_core.specs.declared.arrival.DropCause.TheVariants.{Hello, NoMethod, Decode, Denied, Oversize}
use Rattle.message_delivery.specs.Arriving.{IsArrivalTrace, IsFateLine, policy_of_fate}
use Rattle.message_delivery.specs.declared.arrivals.ArrivalLine.{ArrivalLine}
use Rattle.message_delivery.specs.declared.arrivals.ArrivalLine.TheVariants.{Arrived, Dropped}
use Rattle.message_delivery.specs.declared.arrivals.Arrivals.{Arrivals}
use Rattle.run_report.specs.Lines.{IsWritableArrival, IsWritableDropCause, JudgingPolicy, message_of_arrival}

-- the policy that judges
abbrev pub policy_in : JudgingPolicy → Option AccessPolicy
policy_in judging = option_map (λ policy. policy.1) judging

-- ---- the deciding rule is one of the policy's, or denotes its default

within : (p : Rule → Bool) (rules : List Rule) (place : Option ℕ) → position p rules ≡ place
    → unwrap_or place (length rules) ≤ length rules
within p rules None is = omega arith
within p [] (Some i) is = absurd (let no : None ≡ Some i = is in cc)
within p (rule ∷ rules) (Some i) is =
    let less : i < length (rule ∷ rules) = (position-Some p (rule ∷ rules) i rule is).0 in omega (arith, less)

rule-within : (policy : AccessPolicy) (call : Call) → (verdict policy call).rule ≤ length policy.rules
rule-within policy call =
    within (λ rule. matches rule call) policy.rules (position (λ rule. matches rule call) policy.rules) refl

denied-fits : (judging : JudgingPolicy) (p : AccessPolicy) (call : Call) → policy_in judging ≡ Some p
    → IsWritableDropCause judging (Denied (verdict p call).rule)
denied-fits None p call is = absurd (let no : None ≡ Some p = is in cc)
denied-fits (Some policy) p call is =
    let same : policy.1 ≡ p = same_Some policy.1 p is in
    subst (λ (q : AccessPolicy). (verdict p call).rule ≤ length q.rules) (sym same) (rule-within p call)

-- ---- causes

oversize-fits : (judging : JudgingPolicy) (why : DropCause) (need words : ℕ) → drops why ≡ drops (Oversize need words)
    → IsWritableDropCause judging why
oversize-fits judging why need words is =
    let e : why ≡ Oversize need words = cc in subst (IsWritableDropCause judging) (sym e) tt

cause-fits : (T : Table) (judging : JudgingPolicy) (conn words : ℕ) (f : Frame) (why : DropCause)
    → IsFate T (policy_in judging) conn words f (drops why) → IsWritableDropCause judging why
cause-fits T judging conn words f why (is_hello kind is) =
    let e : why ≡ Hello = cc in subst (IsWritableDropCause judging) (sym e) tt
cause-fits T judging conn words f why (has_no_method kind method is) =
    let e : why ≡ NoMethod = cc in subst (IsWritableDropCause judging) (sym e) tt
cause-fits T judging conn words f why (is_faulty call reason place first is) =
    let e : why ≡ Decode reason place = cc in subst (IsWritableDropCause judging) (sym e) tt
cause-fits T judging conn words f why (is_denied call t means p under denied is) =
    let e : why ≡ Denied (verdict p (received_call conn f t)).rule = cc in
    subst (IsWritableDropCause judging) (sym e) (denied-fits judging p (received_call conn f t) under)
cause-fits T judging conn words f why (is_too_large call t means allows less is) =
    oversize-fits judging why _ words is
cause-fits T judging conn words f why (arrived call t means allows less is) = absurd cc

-- ---- messages

is-call : (T : Table) (policy : Option AccessPolicy) (conn words : ℕ) (f : Frame) (t : Node)
    → IsFate T policy conn words f (arrives t) → IsCall T f
is-call T policy conn words f t (is_hello kind is) = absurd cc
is-call T policy conn words f t (has_no_method kind method is) = absurd cc
is-call T policy conn words f t (is_faulty call reason place first is) = call
is-call T policy conn words f t (is_denied call t' means p under denied is) = call
is-call T policy conn words f t (is_too_large call t' means allows less is) = call
is-call T policy conn words f t (arrived call t' means allows less is) = call

reply-sort : (number : ℕ) → 0 < number → call_kind_of number ≡ Reply
reply-sort number positive = elim (eqb_tells number 0) [
  | inl zero ↦ absurd (let is : number ≡ 0 = zero.1 in omega (arith, positive, is))
  | inr other ↦ ap (λ (b : Bool). if b then Request else Reply) other.0
]

same-sort : (reply : Bool) (number : ℕ)
    → call_kind_of (if reply then max 1 number else 0) ≡ call_kind_of (if reply then 1 else 0)
same-sort true number = reply-sort (max 1 number) (omega arith)
same-sort false number = refl

same-message : (T : Table) (f : Frame) → message_of_frame T f ≡ message_of_arrival T f.kind f.method
same-message T f = ap (λ (s : CallKind). message_of T f.method s) (same-sort (f.kind == 2) f.number)

-- ---- lines

line-fits : (T : Table) (judging : JudgingPolicy) (conn words : ℕ) (x : Fated) (line : ArrivalLine)
    → HasItsFate T conn words x → policy_of_fate x ≡ policy_in judging → IsFateLine x line → IsWritableArrival T judging line
line-fits T judging conn words (was_dropped f policy why) (Dropped kind method number cause) fate under told =
    subst (IsWritableDropCause judging) (sym told.3)
    (cause-fits T judging conn words f why (subst (λ p. IsFate T p conn words f (drops why)) under fate))
line-fits T judging conn words (was_dropped f policy why) (Arrived kind method number tree) fate under told = absurd told
line-fits T judging conn words (was_placed f policy t block placed) (Dropped kind method number cause) fate under told =
    absurd told
line-fits T judging conn words (was_placed f policy t block placed) (Arrived kind method number tree) fate under told =
    let call : IsCall T f = is-call T policy conn words f t fate.fate in
    let normal : IsNormal T (message_of_arrival T f.kind f.method) t =
    subst (λ (m : ℕ). IsNormal T m t) (same-message T f) fate.normal in
    let normal' : IsNormal T (message_of_arrival T kind f.method) t =
    subst (λ (k : ℕ). IsNormal T (message_of_arrival T k f.method) t) told.0 normal in
    let normal'' : IsNormal T (message_of_arrival T kind method) t =
    subst (λ (m : ℕ). IsNormal T (message_of_arrival T kind m) t) told.1 normal' in (
      subst (λ (m : ℕ). m < length T.methods) told.1 call.method,
      subst (λ (n : Node). IsNormal T (message_of_arrival T kind method) n) (sym told.3) normal'',
    )

lines-fit : (T : Table) (judging : JudgingPolicy) (conn words : ℕ) (fates : List Fated) (lines : List ArrivalLine)
    → All (HasItsFate T conn words) fates → All (λ x. policy_of_fate x ≡ policy_in judging) fates
    → AllZip IsFateLine fates lines → All (IsWritableArrival T judging) lines
lines-fit T judging conn words [] [] each under told = All-nil (IsWritableArrival T judging)
lines-fit T judging conn words [] (line ∷ lines) each under told = absurd told
lines-fit T judging conn words (x ∷ fates) [] each under told = absurd told
lines-fit T judging conn words (x ∷ fates) (line ∷ lines) each under told =
    All-cons (IsWritableArrival T judging) line lines
    (line-fits T judging conn words x line (All-head (HasItsFate T conn words) x fates each)
    (All-head (λ x. policy_of_fate x ≡ policy_in judging) x fates under) told.0)
    (lines-fit T judging conn words fates lines (All-tail (HasItsFate T conn words) x fates each)
    (All-tail (λ x. policy_of_fate x ≡ policy_in judging) x fates under) told.1)

pub lived-fit : (life : ReceiverTrace) (a : Arrivals) (judging : JudgingPolicy) → IsArrivalTrace life a
    → policy_in judging ≡ option_copied a.policy → All (IsWritableArrival a.table.now judging) a.lines.items
lived-fit life a judging h same =
    lines-fit a.table.now judging a.inbound.conn a.inbound.heap.words life.fates a.lines.items h.lives.fates
    (subst (λ p. All (λ x. policy_of_fate x ≡ p) life.fates) (sym same) h.judged) h.told
