-- The answers of access and count entries, and the form of a call under them.
use Rattle.std.proofs.Common.{◌≡◌, ◌∙◌, ℕ, ◌+◌, ◌≤◌, true, false, cond, ◌&&◌, List, [], ◌∷◌, ◌++◌}
use Rattle.std.proofs.Common.{length, refl, sym, ap, subst, arith}
use Rattle.std.specs.Prelude.{All, Option, Some, IsSomeAnd}
use Rattle.std.specs.List.{list_all}
use Rattle.std.proofs.lemmas.Bool.{eq-eqb, ne_eqb}
use Rattle.std.proofs.lemmas.List.Elements.{All-nil, All-head, All-tail, All-push}
use Rattle.mrpc_table.specs.declared.call.Call.{Call}
use Rattle.engine_core.specs.Answers.{Answer, IsEntryAnswer, Past, pass, deny, hold, refuse, over, note, redact}
use Rattle.engine_core.specs.Answers.IsEntryAnswer.{allows, denies, was_charged, charges, holds, refuses, is_within, is_over, draws, was_counted, counts, is_clear, redacts}
use Rattle.engine_core.specs.Chains.{Entry}
use Rattle.engine_core.specs.declared.policy.Policy.{Policy}
use Rattle.call_history.specs.Trace.{Trace, chain, copied, form, level_in_trace, timestamp, noted, taken}
use Rattle.call_history.specs.Legal.{IsLegalPrefix}
use Rattle.call_history.specs.Rules.{JudgeContext, IsAllowedInTrace, IsRedactionDue}
use Rattle.call_history.specs.declared.happening.Happening.TheVariants.{Took, Op, Redacted}
use Rattle.call_history.specs.declared.happening.AcceptedCall.{AcceptedCall}
use Rattle.replay_laws.specs.SetFirst.{IsAccessOrCount, IsSetFirst, permits}
use Rattle.replay_laws.proofs.Lists.{at-middle, both-to, some-and}
use Rattle.replay_laws.proofs.Numbers.{few-numbers, numbered}

-- ---- answers

-- the answers of access and count entries
abbrev pub IsPlainAnswer : Answer → Type 0
IsPlainAnswer pass = Unit {0}
IsPlainAnswer (deny rule) = Unit {0}
IsPlainAnswer (hold left cost) = ⊥
IsPlainAnswer (refuse left cost) = ⊥
IsPlainAnswer (over ticket most) = ⊥
IsPlainAnswer (note n) = Unit {0}
IsPlainAnswer redact = ⊥

pub plain-answer : (policy : Policy) (left now : ℕ) (call : Call) (past : Past) (answer : Answer) → IsAccessOrCount policy
    → IsEntryAnswer policy left now call past answer → IsPlainAnswer answer
plain-answer policy left now call past answer plain (allows p is so e) = subst IsPlainAnswer (sym e) tt
plain-answer policy left now call past answer plain (denies p is never e) = subst IsPlainAnswer (sym e) tt
plain-answer policy left now call past answer plain (was_charged r is some e) = subst IsPlainAnswer (sym e) tt
plain-answer policy left now call past answer plain (charges r is none le e) = subst IsPlainAnswer (sym e) tt
plain-answer policy left now call past answer plain (holds r is none less mode e) = absurd (subst IsAccessOrCount is plain)
plain-answer policy left now call past answer plain (refuses r is none less mode e) = absurd (subst IsAccessOrCount is plain)
plain-answer policy left now call past answer plain (is_within tenant per most ticket is drew less e) = subst IsPlainAnswer (sym e) tt
plain-answer policy left now call past answer plain (is_over tenant per most ticket is drew le e) = absurd (subst IsAccessOrCount is plain)
plain-answer policy left now call past answer plain (draws tenant per most ticket is none e) = subst IsPlainAnswer (sym e) tt
plain-answer policy left now call past answer plain (was_counted is some e) = subst IsPlainAnswer (sym e) tt
plain-answer policy left now call past answer plain (counts is none e) = subst IsPlainAnswer (sym e) tt
plain-answer policy left now call past answer plain (is_clear clears is same e) = subst IsPlainAnswer (sym e) tt
plain-answer policy left now call past answer plain (redacts clears is other e) = absurd (subst IsAccessOrCount is plain)

-- an entry that lets a call pass permits it
passes : (policy : Policy) (left now : ℕ) (call : Call) (past : Past) → IsAccessOrCount policy
    → IsEntryAnswer policy left now call past pass → permits policy call ≡ true
passes policy left now call past plain (allows p is so e) = subst (λ (k : Policy). permits k call ≡ true) (sym is) so
passes policy left now call past plain (denies p is never e) = absurd cc
passes policy left now call past plain (was_charged r is some e) = absurd (subst IsAccessOrCount is plain)
passes policy left now call past plain (charges r is none le e) = absurd cc
passes policy left now call past plain (holds r is none less mode e) = absurd cc
passes policy left now call past plain (refuses r is none less mode e) = absurd cc
passes policy left now call past plain (is_within tenant per most ticket is drew less e) = absurd (subst IsAccessOrCount is plain)
passes policy left now call past plain (is_over tenant per most ticket is drew le e) = absurd cc
passes policy left now call past plain (draws tenant per most ticket is none e) = absurd cc
passes policy left now call past plain (was_counted is some e) = subst (λ (k : Policy). permits k call ≡ true) (sym is) refl
passes policy left now call past plain (counts is none e) = absurd cc
passes policy left now call past plain (is_clear clears is same e) = absurd (subst IsAccessOrCount is plain)
passes policy left now call past plain (redacts clears is other e) = absurd cc

-- an entry that denies a call doesn't permit it
pub not-permitted : (policy : Policy) (left now : ℕ) (call : Call) (past : Past) (rule : ℕ)
    → IsEntryAnswer policy left now call past (deny rule) → permits policy call ≡ false
not-permitted policy left now call past rule (allows p is so e) = absurd cc
not-permitted policy left now call past rule (denies p is never e) = subst (λ (k : Policy). permits k call ≡ false) (sym is) never
not-permitted policy left now call past rule (was_charged r is some e) = absurd cc
not-permitted policy left now call past rule (charges r is none le e) = absurd cc
not-permitted policy left now call past rule (holds r is none less mode e) = absurd cc
not-permitted policy left now call past rule (refuses r is none less mode e) = absurd cc
not-permitted policy left now call past rule (is_within tenant per most ticket is drew less e) = absurd cc
not-permitted policy left now call past rule (is_over tenant per most ticket is drew le e) = absurd cc
not-permitted policy left now call past rule (draws tenant per most ticket is none e) = absurd cc
not-permitted policy left now call past rule (was_counted is some e) = absurd cc
not-permitted policy left now call past rule (counts is none e) = absurd cc
not-permitted policy left now call past rule (is_clear clears is same e) = absurd cc
not-permitted policy left now call past rule (redacts clears is other e) = absurd cc

-- ---- all entries

abbrev pub ArePlain : List Entry → Type 0
ArePlain entries = All (λ e. IsAccessOrCount e.policy) entries

pub all-permit : (u : JudgeContext) (past : Trace) (seq : ℕ) (call : Call) (entries : List Entry)
    → form u.conn seq past ≡ Some call → ArePlain entries → All (IsAllowedInTrace u past seq) entries
    → list_all (λ e. permits e.policy call) entries ≡ true
all-permit u past seq call [] is plain lets = refl
all-permit u past seq call (e ∷ entries) is plain lets =
    let first : IsEntryAnswer e.policy (level_in_trace e.name past) (timestamp past) call (noted e.name seq past) pass =
    subst (λ (o : Option Call). IsSomeAnd o (λ c. IsEntryAnswer e.policy (level_in_trace e.name past) (timestamp past) c (noted e.name seq past) pass))
    is (All-head (IsAllowedInTrace u past seq) e entries lets) in
    let here : permits e.policy call ≡ true =
    passes e.policy (level_in_trace e.name past) (timestamp past) call (noted e.name seq past)
    (All-head (λ (x : Entry). IsAccessOrCount x.policy) e entries plain) first in
    ap (λ b. b && list_all (λ (x : Entry). permits x.policy call) entries) here
    ∙ all-permit u past seq call entries is (All-tail (λ (x : Entry). IsAccessOrCount x.policy) e entries plain)
    (All-tail (IsAllowedInTrace u past seq) e entries lets)

pub one-denies : (call : Call) (front back : List Entry) (e : Entry) → permits e.policy call ≡ false
    → list_all (λ x. permits x.policy call) (front ++ e ∷ back) ≡ false
one-denies call [] back e never = ap (λ b. b && list_all (λ (x : Entry). permits x.policy call) back) never
one-denies call (y ∷ front) back e never =
    elim (permits y.policy call) as (λ b. (b && list_all (λ (x : Entry). permits x.policy call) (front ++ e ∷ back)) ≡ false)
    [ true ↦ one-denies call front back e never | false ↦ refl ]

-- ---- forms

never-cleared : (u : JudgeContext) (past : Trace) (seq version : ℕ) (name : List ℕ) → ArePlain (chain past).entries
    → IsRedactionDue u past seq name version → ⊥
never-cleared u past seq version name plain cleared =
    let e = cleared.entry in
    let all = subst ArePlain cleared.at.entries plain in
    let here = some-and (form u.conn seq past) (λ c. IsEntryAnswer e.policy (level_in_trace e.name past) (timestamp past) c (noted e.name seq past) redact) cleared.gives in
    plain-answer e.policy (level_in_trace e.name past) (timestamp past) here.0 (noted e.name seq past) redact
    (at-middle (λ (x : Entry). IsAccessOrCount x.policy) cleared.at.front cleared.at.back e all) here.2

-- the form of a call is its copy
abbrev pub IsItsCopy : ℕ → Trace → AcceptedCall → Type 0
IsItsCopy conn past call = form conn call.seq past ≡ copied conn call call.copy

pub forms-are-copies : (u : JudgeContext) (past : Trace) → IsLegalPrefix u past → IsSetFirst past → ArePlain (chain past).entries
    → All (IsItsCopy u.conn past) (taken past)
forms-are-copies u [] prefix first plain = All-nil (IsItsCopy u.conn [])
forms-are-copies u (Took new ∷ past) prefix first plain =
    let next : new.seq ≡ length (taken past) + 1 = prefix.1.numbered.number in
    let few = few-numbers 0 (taken past) (numbered u past prefix.0) in
    let before = forms-are-copies u past prefix.0 first plain in
    let still : All (IsItsCopy u.conn (Took new ∷ past)) (taken past) =
    both-to (λ (c : AcceptedCall). c.seq ≤ 0 + length (taken past)) (IsItsCopy u.conn past) (IsItsCopy u.conn (Took new ∷ past))
    (λ c le is. ap (λ b. cond b (copied u.conn new new.copy) (form u.conn c.seq past)) (ne_eqb new.seq c.seq (λ same. omega (arith, same, next, le))) ∙ is)
    (taken past) few before in
    All-push (IsItsCopy u.conn (Took new ∷ past)) (taken past) new still
    (ap (λ b. cond b (copied u.conn new new.copy) (form u.conn new.seq past)) (eq-eqb new.seq new.seq refl))
forms-are-copies u (Op step ∷ past) prefix first plain =
    subst (λ (calls : List AcceptedCall). All (IsItsCopy u.conn (Op step ∷ past)) calls) (sym first) (All-nil (IsItsCopy u.conn (Op step ∷ past)))
forms-are-copies u (Redacted seq name version ∷ past) prefix first plain =
    absurd (never-cleared u past seq version name plain prefix.1.notes_due)
forms-are-copies u (x ∷ past) prefix first plain = forms-are-copies u past prefix.0 first plain
