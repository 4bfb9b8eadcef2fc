-- Histories after more events, for each connection.
use Rattle.std.proofs.Common.{◌≡◌, ◌≢◌, ℕ, ◌==◌, cond, if◌then◌else◌, List, [], ◌∷◌, ◌++◌, length, reverse, refl, sym, ap, ◌∙◌, subst, inl, inr}
use Rattle.std.specs.Prelude.{All, Some, None, option_map}
use Rattle.std.specs.List.{cons_option}
use Rattle.std.proofs.lemmas.Bool.{eq-eqb, ne_eqb, cases_eq}
use Rattle.std.proofs.lemmas.List.{reverse-append}
use Rattle.std.proofs.lemmas.List.Elements.{All-head, All-tail, All-weaker, filter_map-append}
use Rattle.mrpc_table.specs.declared.table.Table.{Table}
use Rattle.engine_core.specs.Answers.{nothing, charged, drawn, counted}
use Rattle.engine_core.specs.Policies.{initial_level}
use Rattle.engine_core.specs.declared.op.Op.TheVariants.{Attach, Upgrade}
use Rattle.engine_core.specs.declared.policy.Policy.{Policy}
use Rattle.call_history.specs.Trace.{Trace, policy_in_trace, level_in_trace, converted, noted, taken, pending_calls, form, copied, redacted}
use Rattle.call_history.specs.Legal.{History, events_of, trace_of, IsLegalPrefix, IsLegalTrace, IsLegal}
use Rattle.call_history.specs.Rules.{JudgeContext, CanFollow}
use Rattle.call_history.specs.declared.happening.ConnectionEvent.{ConnectionEvent}
use Rattle.call_history.specs.declared.happening.Happening.{Happening}
use Rattle.call_history.specs.declared.happening.Happening.TheVariants.{Took, Op, Charged, Drawn, Counted, Redacted, Sent}
use Rattle.call_history.specs.declared.happening.AcceptedCall.{AcceptedCall}
use Rattle.call_history.proofs.Failing.{without-first}
use Rattle.call_history.proofs.Looking.{equal-name, other-name, is-for}
use Rattle.call_history.proofs.Prefixes.{Rising, rising}
use Rattle.call_history.proofs.Standing.{standing-sent, others_of}

-- ---- the trace

pub behind-joined : (conn : ℕ) (h k : History) → trace_of conn (h ++ k) ≡ trace_of conn k ++ trace_of conn h
behind-joined conn h k =
    ap reverse (filter_map-append (λ (x : ConnectionEvent). if x.conn == conn then Some x.what else None) h k) ∙ reverse-append (events_of conn h) (events_of conn k)

pub behind-one : (conn : ℕ) (x : ConnectionEvent) → x.conn ≡ conn → trace_of conn (x ∷ []) ≡ x.what ∷ []
behind-one conn x own = ap (λ b. reverse (cons_option (cond b (Some x.what) None) [])) (eq-eqb x.conn conn own)

pub behind-own : (conn : ℕ) (h : History) (x : ConnectionEvent) → x.conn ≡ conn → trace_of conn (h ++ x ∷ []) ≡ x.what ∷ trace_of conn h
behind-own conn h x own = behind-joined conn h (x ∷ []) ∙ ap (λ (k : Trace). k ++ trace_of conn h) (behind-one conn x own)

on-none : (conn : ℕ) (k : History) → All (λ x. x.conn ≢ conn) k → events_of conn k ≡ []
on-none conn [] apart = refl
on-none conn (x ∷ k) apart =
    ap (λ b. cons_option (cond b (Some x.what) None) (events_of conn k)) (ne_eqb x.conn conn (All-head (λ (y : ConnectionEvent). y.conn ≢ conn) x k apart))
    ∙ on-none conn k (All-tail (λ (y : ConnectionEvent). y.conn ≢ conn) x k apart)

pub behind-apart : (conn : ℕ) (h k : History) → All (λ x. x.conn ≢ conn) k → trace_of conn (h ++ k) ≡ trace_of conn h
behind-apart conn h k apart = behind-joined conn h k ∙ ap (λ (happened : List Happening). reverse happened ++ trace_of conn h) (on-none conn k apart)

pub prefix-on : (u : JudgeContext) (h : History) (x : ConnectionEvent) → x.conn ≡ u.conn → IsLegalPrefix u (trace_of u.conn h)
    → CanFollow u (trace_of u.conn h) x.what → IsLegalPrefix u (trace_of u.conn (h ++ x ∷ []))
prefix-on u h x own prefix may = subst (IsLegalPrefix u) (sym (behind-own u.conn h x own)) (prefix, may)

pub prefix-before : (u : JudgeContext) (h : History) (x : ConnectionEvent) → x.conn ≡ u.conn
    → IsLegalPrefix u (trace_of u.conn (h ++ x ∷ [])) → IsLegalPrefix u (trace_of u.conn h) × CanFollow u (trace_of u.conn h) x.what
prefix-before u h x own prefix = let both : IsLegalPrefix u (x.what ∷ trace_of u.conn h) = subst (IsLegalPrefix u) (behind-own u.conn h x own) prefix in (both.0, both.1)

pub legal-apart : (u : JudgeContext) (h k : History) → All (λ x. x.conn ≢ u.conn) k → IsLegalTrace u (trace_of u.conn h) → IsLegalTrace u (trace_of u.conn (h ++ k))
legal-apart u h k apart legal = subst (IsLegalTrace u) (sym (behind-apart u.conn h k apart)) legal

-- events of one connection don't depend on the others
pub legal-where : (T : Table) (limit conn : ℕ) (h k : History) → IsLegal T limit h → All (λ x. x.conn ≡ conn) k
    → IsLegalTrace (record { conn = conn; table = T; limit = limit }) (trace_of conn (h ++ k)) → IsLegal T limit (h ++ k)
legal-where T limit conn h k legal own here other = elim (cases_eq other conn) [
  | inl same ↦ subst (λ n. IsLegalTrace (record { conn = n; table = T; limit = limit }) (trace_of n (h ++ k))) (sym same) here
  | inr apart ↦ legal-apart (record { conn = other; table = T; limit = limit }) h k
      (All-weaker (λ (x : ConnectionEvent). x.conn ≡ conn) (λ (x : ConnectionEvent). x.conn ≢ other) (λ x is same. apart (sym same ∙ is)) k own) (legal other)
]

-- ---- pending calls

pub standing-next : (u : JudgeContext) (past : Trace) (call : AcceptedCall) (others : List AcceptedCall) (bytes : ℕ) → IsLegalPrefix u past
    → pending_calls past ≡ call ∷ others → pending_calls (Sent call.seq bytes ∷ past) ≡ others
standing-next u past call others bytes prefix first =
    let rises : Rising 0 (length (taken past)) (call ∷ others) = subst (Rising 0 (length (taken past))) first (rising u past prefix) in
    standing-sent past call.seq bytes ∙ ap (others_of call.seq) first ∙ without-first (length (taken past)) call others rises

-- ---- forms

pub form-own : (conn seq : ℕ) (past : Trace) (call : AcceptedCall) → call.seq ≡ seq → form conn seq (Took call ∷ past) ≡ copied conn call call.copy
form-own conn seq past call own = ap (λ b. cond b (copied conn call call.copy) (form conn seq past)) (eq-eqb call.seq seq own)

pub form-cleared : (conn seq version : ℕ) (name : List ℕ) (past : Trace)
    → form conn seq (Redacted seq name version ∷ past) ≡ option_map (redacted (policy_in_trace name past))
    (form conn seq past)
form-cleared conn seq version name past =
    ap (λ b. cond b (option_map (redacted (policy_in_trace name past)) (form conn seq past)) (form conn seq past)) (eq-eqb seq seq refl)

-- ---- notes and levels

pub noted-charged : (past : Trace) (seq left : ℕ) (name : List ℕ) → noted name seq (Charged seq name left ∷ past) ≡ charged
noted-charged past seq left name = ap (λ b. cond b charged (noted name seq past)) (is-for seq seq name name refl refl)

pub noted-drawn : (past : Trace) (seq window ticket : ℕ) (name : List ℕ) → noted name seq (Drawn seq name window ticket ∷ past) ≡ drawn ticket
noted-drawn past seq window ticket name = ap (λ b. cond b (drawn ticket) (noted name seq past)) (is-for seq seq name name refl refl)

pub noted-counted : (past : Trace) (seq : ℕ) (name : List ℕ) → noted name seq (Counted seq name ∷ past) ≡ counted
noted-counted past seq name = ap (λ b. cond b counted (noted name seq past)) (is-for seq seq name name refl refl)

pub noted-attached : (past : Trace) (at seq : ℕ) (name label : List ℕ) (policy : Policy) → noted name seq (Op (Attach at name label policy) ∷ past) ≡ nothing
noted-attached past at seq name label policy = ap (λ b. cond b nothing (noted name seq past)) (equal-name name name refl)

pub level-charged : (past : Trace) (seq left : ℕ) (name : List ℕ) → level_in_trace name (Charged seq name left ∷ past) ≡ left
level-charged past seq left name = ap (λ b. cond b left (level_in_trace name past)) (equal-name name name refl)

pub level-attached : (past : Trace) (at : ℕ) (name label : List ℕ) (policy : Policy) → level_in_trace name (Op (Attach at name label policy) ∷ past) ≡ initial_level policy
level-attached past at name label policy = ap (λ b. cond b (initial_level policy) (level_in_trace name past)) (equal-name name name refl)

pub level-upgraded : (past : Trace) (name label : List ℕ) (policy : Policy)
    → level_in_trace name (Op (Upgrade name label policy) ∷ past) ≡ converted (policy_in_trace name past) policy (level_in_trace name past)
level-upgraded past name label policy = ap (λ b. cond b (converted (policy_in_trace name past) policy (level_in_trace name past)) (level_in_trace name past)) (equal-name name name refl)

pub noted-attached_other : (past : Trace) (at seq : ℕ) (name other label : List ℕ) (policy : Policy) → name ≢ other
    → noted other seq (Op (Attach at name label policy) ∷ past) ≡ noted other seq past
noted-attached_other past at seq name other label policy apart = ap (λ b. cond b nothing (noted other seq past)) (other-name name other apart)

pub level-attached_other : (past : Trace) (at : ℕ) (name other label : List ℕ) (policy : Policy) → name ≢ other
    → level_in_trace other (Op (Attach at name label policy) ∷ past) ≡ level_in_trace other past
level-attached_other past at name other label policy apart = ap (λ b. cond b (initial_level policy) (level_in_trace other past)) (other-name name other apart)

pub level-upgraded_other : (past : Trace) (name other label : List ℕ) (policy : Policy) → name ≢ other → level_in_trace other (Op (Upgrade name label policy) ∷ past) ≡ level_in_trace other past
level-upgraded_other past name other label policy apart = ap (λ b. cond b (converted (policy_in_trace other past) policy (level_in_trace other past)) (level_in_trace other past)) (other-name name other apart)

pub level-charged_other : (past : Trace) (seq left : ℕ) (name other : List ℕ) → name ≢ other → level_in_trace other (Charged seq name left ∷ past) ≡ level_in_trace other past
level-charged_other past seq left name other apart = ap (λ b. cond b left (level_in_trace other past)) (other-name name other apart)
