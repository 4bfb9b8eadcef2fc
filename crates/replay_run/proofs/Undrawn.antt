-- Quotas draw tickets for known tenants alone, and in their windows.
use Rattle.std.proofs.Common.{◌≡◌, ℕ, ◌/◌, ◌<◌, ◌≤◌, ◌==◌, ◌&&◌, ◌⊎◌, inl, inr, min, Bool, true, false, cond, List}
use Rattle.std.proofs.Common.{[], ◌∷◌, ◌++◌, refl, sym, ap, ◌∙◌, subst, append_assoc, arith}
use Rattle.std.specs.Prelude.{Option, Some, None, IsSomeAnd, find, option_map}
use Rattle.std.specs.List.{AllByRecursion}
use Rattle.std.specs.Option.{option_map_or}
use Rattle.std.proofs.Math.Nat.{min-le_right}
use Rattle.std.proofs.lemmas.Bool.{ne_eqb}
use Rattle.std.proofs.lemmas.List.Elements.{recursion_from_All}
use Rattle.mrpc_table.specs.declared.call.Call.{Call}
use Rattle.engine_core.specs.Answers.{Answer, IsEntryAnswer, Past, note, allows, denies, was_charged, charges, holds, refuses, is_within, is_over, draws, was_counted, counts, is_clear, redacts}
use Rattle.engine_core.specs.Chains.{Entry, is_named}
use Rattle.engine_core.specs.declared.outcome.Noted.TheVariants as notes
use Rattle.engine_core.specs.declared.policy.Policy.{Policy}
use Rattle.engine_core.specs.declared.policy.Policy.TheVariants.{Access, Rate, Quota, Count, Redact}
use Rattle.call_history.specs.Trace.{Trace, chain, form, level_in_trace, timestamp, noted, policy_in_trace}
use Rattle.call_history.specs.Legal.{History, IsLegalPrefix, trace_of}
use Rattle.call_history.specs.Rules.{IsNoteDue, JudgeContext}
use Rattle.call_history.specs.Tickets.{tickets_drawn_by, is_quota_of, tickets_of_trace}
use Rattle.call_history.specs.declared.happening.Happening.TheVariants.{Took, Away, Op, Moment, Charged, Drawn, Counted, Redacted, Sent, Refused}
use Rattle.replay_run.specs.Tickets.{tickets, tickets_after}
use Rattle.replay_run.proofs.GivenLaws.{HistoryLaws}
use Rattle.replay_run.proofs.Known.{AreKnown, chain-good}
use Rattle.replay_run.proofs.Ready.{IsGood, IsModest}

-- ---- windows

abbrev window_of : Answer → ℕ
window_of (note (notes.Drawn window ticket)) = window
window_of _ = 0

answer-early : (policy : Policy) (level_in_trace timestamp : ℕ) (call : Call) (past : Past) (window ticket : ℕ)
    → IsEntryAnswer policy level_in_trace timestamp call past (note (notes.Drawn window ticket)) → window < 1024
answer-early policy level_in_trace timestamp call past window ticket (allows p is verdict same) = let e : window ≡ 0 = ap window_of same in omega arith
answer-early policy level_in_trace timestamp call past window ticket (denies p is verdict same) = let e : window ≡ 0 = ap window_of same in omega arith
answer-early policy level_in_trace timestamp call past window ticket (was_charged r is was same) = let e : window ≡ 0 = ap window_of same in omega arith
answer-early policy level_in_trace timestamp call past window ticket (charges r is was enough same) = let e : window ≡ 0 = ap window_of same in omega arith
answer-early policy level_in_trace timestamp call past window ticket (holds r is was short mode same) = let e : window ≡ 0 = ap window_of same in omega arith
answer-early policy level_in_trace timestamp call past window ticket (refuses r is was short mode same) = let e : window ≡ 0 = ap window_of same in omega arith
answer-early policy level_in_trace timestamp call past window ticket (is_within tenant per cap t is was below same) = let e : window ≡ 0 = ap window_of same in omega arith
answer-early policy level_in_trace timestamp call past window ticket (is_over tenant per cap t is was from same) = let e : window ≡ 0 = ap window_of same in omega arith
answer-early policy level_in_trace timestamp call past window ticket (draws tenant per cap t is was same) =
    let e : window ≡ min (timestamp / per) 1023 = ap window_of same in
    let low : min (timestamp / per) 1023 ≤ 1023 = min-le_right (timestamp / per) 1023 in
    subst (λ n. n < 1024) (sym e) (omega arith)
answer-early policy level_in_trace timestamp call past window ticket (was_counted is was same) = let e : window ≡ 0 = ap window_of same in omega arith
answer-early policy level_in_trace timestamp call past window ticket (counts is was same) = let e : window ≡ 0 = ap window_of same in omega arith
answer-early policy level_in_trace timestamp call past window ticket (is_clear clears is same_tree same) = let e : window ≡ 0 = ap window_of same in omega arith
answer-early policy level_in_trace timestamp call past window ticket (redacts clears is other_tree same) = let e : window ≡ 0 = ap window_of same in omega arith

of-some : (X R : Type 0) (o : Option X) (P : X → Type 0) → ((x : X) → P x → R) → IsSomeAnd o P → R
of-some X R None P gives some = absurd some
of-some X R (Some x) P gives some = gives x some

drawn-early : (u : JudgeContext) (past : Trace) (seq : ℕ) (name : List ℕ) (window ticket : ℕ) → IsNoteDue u past seq name (notes.Drawn window ticket) → window < 1024
drawn-early u past seq name window ticket called =
    let e : Entry = called.meets.entry in
    of-some Call (window < 1024) (form u.conn seq past)
    (λ call. IsEntryAnswer e.policy (level_in_trace e.name past) (timestamp past) call (noted e.name seq past) (note (notes.Drawn window ticket)))
    (λ call answers. answer-early e.policy (level_in_trace e.name past) (timestamp past) call (noted e.name seq past) window ticket answers)
    called.meets.gives

-- ---- tenants

abbrev OfTenant : ℕ → Option Policy → Bool
OfTenant tenant policy = option_map_or (is_quota_of tenant) policy false

other-quota : (tenants tenant : ℕ) (policy : Policy) → tenants ≤ tenant → IsGood tenants policy → is_quota_of tenant policy ≡ false
other-quota tenants tenant (Access p) far good = refl
other-quota tenants tenant (Rate r) far good = refl
other-quota tenants tenant (Quota owner per cap) far good =
    let known : owner < tenants = good.1 in ne_eqb owner tenant (λ same. absurd (omega arith))
other-quota tenants tenant Count far good = refl
other-quota tenants tenant (Redact r) far good = refl

found-quota : (tenants tenant : ℕ) (b : Bool) (e : Entry) (rest : Option Entry) → tenants ≤ tenant → IsGood tenants e.policy
    → OfTenant tenant (option_map (λ e. e.policy) rest) ≡ false → OfTenant tenant (option_map (λ e. e.policy) (cond b (Some e) rest)) ≡ false
found-quota tenants tenant true e rest far good others = other-quota tenants tenant e.policy far good
found-quota tenants tenant false e rest far good others = others

none-found : (tenants tenant n : ℕ) (name : List ℕ) (entries : List Entry) → tenants ≤ tenant → AllByRecursion (IsModest tenants n) entries
    → OfTenant tenant (option_map (λ e. e.policy) (find (is_named name) entries)) ≡ false
none-found tenants tenant n name [] far good = refl
none-found tenants tenant n name (e ∷ entries) far good =
    found-quota tenants tenant (is_named name e) e (find (is_named name) entries) far good.0.good (none-found tenants tenant n name entries far good.1)

policy-other : (tenants tenant : ℕ) (name : List ℕ) (past : Trace) → tenants ≤ tenant → AreKnown tenants past → OfTenant tenant (policy_in_trace name past) ≡ false
policy-other tenants tenant name past far known =
    let good = chain-good tenants past known in
    none-found tenants tenant good.0 name (chain past).entries far (recursion_from_All (IsModest tenants good.0) (chain past).entries good.1.entries)

-- ---- the trace

none-by : (here own : Bool) (ticket : ℕ) → (here ≡ false) ⊎ (own ≡ false) → cond (here && own) (ticket ∷ []) [] ≡ []
none-by true true ticket either = absurd (elim (either) [ inl e ↦ (cc) | inr e ↦ (cc) ])
none-by true false ticket either = refl
none-by false true ticket either = refl
none-by false false ticket either = refl

-- the tenant isn't declared, or no window has the number
abbrev pub IsOutside : (tenants tenant window : ℕ) → Type 0
IsOutside tenants tenant window = (tenants ≤ tenant) ⊎ (1024 ≤ window)

drawn-none : (tenants tenant window : ℕ) → IsOutside tenants tenant window → (u : JudgeContext) (seq : ℕ) (name : List ℕ) (at ticket : ℕ) (past : Trace)
    → AreKnown tenants past → IsNoteDue u past seq name (notes.Drawn at ticket) → tickets_drawn_by tenant window (Drawn seq name at ticket) past ≡ []
drawn-none tenants tenant window (inl far) u seq name at ticket past known called =
    none-by (at == window) (OfTenant tenant (policy_in_trace name past)) ticket (inr (policy-other tenants tenant name past far known))
drawn-none tenants tenant window (inr late) u seq name at ticket past known called =
    let early : at < 1024 = drawn-early u past seq name at ticket called in
    none-by (at == window) (OfTenant tenant (policy_in_trace name past)) ticket (inl (ne_eqb at window (λ same. absurd (omega arith))))

pub none-behind : (tenants tenant window : ℕ) → IsOutside tenants tenant window → (u : JudgeContext) (past : Trace) → IsLegalPrefix u past → AreKnown tenants past
    → tickets_of_trace tenant window past ≡ []
none-behind tenants tenant window out u [] prefix known = refl
none-behind tenants tenant window out u (Took call ∷ past) prefix known = ap (λ ts. ts ++ []) (none-behind tenants tenant window out u past prefix.0 known.1)
none-behind tenants tenant window out u (Away method number addr ∷ past) prefix known = ap (λ ts. ts ++ []) (none-behind tenants tenant window out u past prefix.0 known.1)
none-behind tenants tenant window out u (Op step ∷ past) prefix known = ap (λ ts. ts ++ []) (none-behind tenants tenant window out u past prefix.0 known.1)
none-behind tenants tenant window out u (Moment ms ∷ past) prefix known = ap (λ ts. ts ++ []) (none-behind tenants tenant window out u past prefix.0 known.1)
none-behind tenants tenant window out u (Charged seq name left ∷ past) prefix known = ap (λ ts. ts ++ []) (none-behind tenants tenant window out u past prefix.0 known.1)
none-behind tenants tenant window out u (Drawn seq name at ticket ∷ past) prefix known =
    ap (λ ts. ts ++ tickets_drawn_by tenant window (Drawn seq name at ticket) past) (none-behind tenants tenant window out u past prefix.0 known.1)
    ∙ drawn-none tenants tenant window out u seq name at ticket past known.1 prefix.1.notes_due
none-behind tenants tenant window out u (Counted seq name ∷ past) prefix known = ap (λ ts. ts ++ []) (none-behind tenants tenant window out u past prefix.0 known.1)
none-behind tenants tenant window out u (Redacted seq name version ∷ past) prefix known = ap (λ ts. ts ++ []) (none-behind tenants tenant window out u past prefix.0 known.1)
none-behind tenants tenant window out u (Sent seq bytes ∷ past) prefix known = ap (λ ts. ts ++ []) (none-behind tenants tenant window out u past prefix.0 known.1)
none-behind tenants tenant window out u (Refused seq why ∷ past) prefix known = ap (λ ts. ts ++ []) (none-behind tenants tenant window out u past prefix.0 known.1)

-- ---- all connections

left-none : (xs ys : List ℕ) → xs ++ ys ≡ [] → xs ≡ []
left-none [] ys is = refl
left-none (x ∷ xs) ys is = absurd cc

right-none : (xs ys : List ℕ) → xs ++ ys ≡ [] → ys ≡ []
right-none [] ys is = is
right-none (x ∷ xs) ys is = absurd cc

module _ (laws : HistoryLaws) (tenant window : ℕ) where
  none-before : (later past : Trace) → tickets_of_trace tenant window (later ++ past) ≡ [] → tickets_of_trace tenant window past ≡ []
  none-before [] past none = none
  none-before (x ∷ later) past none =
      none-before later past (left-none (tickets_of_trace tenant window (later ++ past)) (tickets_drawn_by tenant window x (later ++ past)) none)

  none-after : (b h : History) → ((conn : ℕ) → tickets_of_trace tenant window (trace_of conn (b ++ h)) ≡ []) → tickets_after tenant window b h ≡ []
  none-after b [] none = refl
  none-after b (x ∷ h) none =
      let here : trace_of x.conn (b ++ x ∷ h) ≡ trace_of x.conn h ++ (x.what ∷ trace_of x.conn b) =
      ap (trace_of x.conn) (sym (append_assoc b (x ∷ []) h)) ∙ laws.joined x.conn (b ++ x ∷ []) h ∙ ap (λ p. trace_of x.conn h ++ p) (laws.one_more x.conn b x refl) in
      let so_far : tickets_of_trace tenant window (x.what ∷ trace_of x.conn b) ≡ [] =
      none-before (trace_of x.conn h) (x.what ∷ trace_of x.conn b) (ap (tickets_of_trace tenant window) (sym here) ∙ none x.conn) in
      ap (λ ts. ts ++ tickets_after tenant window (b ++ x ∷ []) h)
      (right-none (tickets_of_trace tenant window (trace_of x.conn b)) (tickets_drawn_by tenant window x.what (trace_of x.conn b)) so_far)
      ∙ none-after (b ++ x ∷ []) h (λ conn. ap (λ k. tickets_of_trace tenant window (trace_of conn k)) (append_assoc b (x ∷ []) h) ∙ none conn)

  pub none-told : (h : History) → ((conn : ℕ) → tickets_of_trace tenant window (trace_of conn h) ≡ []) → tickets tenant window h ≡ []
  none-told h none = none-after [] h none
