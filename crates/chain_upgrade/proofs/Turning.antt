-- The effect of a turn on a chain.
use Rattle.std.proofs.Common.{◌≡◌, ◌≢◌, ℕ, ◌<◌, ◌≤◌, zero, suc, true, List, [], ◌∷◌, length, map, get_or, slice_get}
use Rattle.std.proofs.Common.{All, Contains, Some, None, refl, ap, sym, ◌∙◌, arith}
use Rattle.std.proofs.lemmas.List.{length-set}
use Rattle.std.proofs.lemmas.List.Elements.{All-head, All-set, All-tail}
use Rattle.mrpc_table.specs.Valid.{AreDistinct}
use Rattle.mrpc_table.specs.declared.call.Call.{Call}
use Rattle.engine_core.specs.Chains.{Entry, attachments_of}
use Rattle.engine_core.specs.Engines.{EngineParts}
use Rattle.engine_core.specs.Marks.{HasMarksUpTo, IsAllowing, IsTrueFor, PendingCall, is_allowed, note_of, past_of, seqs_of}
use Rattle.engine_core.specs.Policies.{IsPolicy}
use Rattle.engine_core.specs.Turns.{IsTurnOutcome, form_after}
use Rattle.engine_core.specs.Working.{IsCallAfter, HasWorked}
use Rattle.engine_core.specs.declared.outcome.Outcome.{Outcome}
use Rattle.engine_core.specs.declared.outcome.Outcome.TheVariants.{Passed, Held, Refused, Redacted}
use Rattle.engine_core.specs.declared.policy.Policy.{Policy}
use Rattle.engine_core.specs.declared.policy.Policy.TheVariants.{Access, Rate, Quota, Count, Redact}
use Rattle.chain_upgrade.specs.Chains.{ArePendingOn}
use Rattle.chain_upgrade.proofs.Stands.{same-map}

pub All-at : {X : Type 0} (P : X → Type 0) (xs : List X) (p : ℕ) (x : X) → All P xs → slice_get xs p ≡ Some x → P x
All-at P [] p x all is = absurd cc
All-at P (z ∷ zs) zero x all is = let there : z ≡ x = cc in rw (sym there) (All-head P z zs all)
All-at P (z ∷ zs) (suc p) x all is = All-at P zs p x (All-tail P z zs all) is

-- ---- a turn keeps the number of its call

same-seq : (outcome : Outcome) (policy : Policy) (call : Call) → (form_after outcome policy call).seq ≡ call.seq
same-seq (Passed n) policy call = refl
same-seq (Held level cost) policy call = refl
same-seq (Refused n why) policy call = refl
same-seq Redacted (Access p) call = refl
same-seq Redacted (Rate r) call = refl
same-seq Redacted (Quota tenant per cap) call = refl
same-seq Redacted Count call = refl
same-seq Redacted (Redact clears) call = refl

pub number-kept : (policy : Policy) (outcome : Outcome) (before after : Call) → IsCallAfter policy outcome before after → after.seq ≡ before.seq
number-kept policy outcome before after leaves = ap (λ (call : Call). call.seq) leaves.form ∙ same-seq outcome policy before

-- ---- marks remain true

true-same : (e : Entry) (s t : PendingCall) → t.call ≡ s.call → note_of t.marks e.attach ≡ note_of s.marks e.attach → IsTrueFor e s → IsTrueFor e t
true-same e s t calls marks holds = record {
  silent = rw marks holds.silent;
  present = λ version allowed. holds.present version (rw marks at allowed);
  allowing = λ allowed. rw calls (holds.allowing (rw marks at allowed));
}

attached-at : (es : List EngineParts) (p : ℕ) (e : EngineParts) (attach : ℕ) → slice_get es p ≡ Some e → e.entry.attach ≡ attach
    → Contains (attachments_of (map (λ e. e.entry) es)) attach
attached-at [] p e attach is same = absurd cc
attached-at (x ∷ xs) zero e attach is same = let there : x ≡ e = cc in (0, omega arith, ap (λ (e : EngineParts). e.entry.attach) there ∙ same)
attached-at (x ∷ xs) (suc p) e attach is same = let rest = attached-at xs p e attach is same in (suc rest.0, omega (arith, rest.1), rest.2)

attached-within : (es : List EngineParts) (k : ℕ) (d : EngineParts) (attach : ℕ) → k < length es → (get_or es k d).entry.attach ≡ attach
    → Contains (attachments_of (map (λ e. e.entry) es)) attach
attached-within [] k d attach inside same = absurd (omega arith)
attached-within (x ∷ xs) zero d attach inside same = (0, omega arith, same)
attached-within (x ∷ xs) (suc k) d attach inside same = let rest = attached-within xs k d attach (omega arith) same in (suc rest.0, omega (arith, rest.1), rest.2)

-- an attachment is of one entry
distinct-at : (es : List EngineParts) (k p : ℕ) (d e : EngineParts) → AreDistinct (attachments_of (map (λ e. e.entry) es)) → k < length es
    → slice_get es p ≡ Some e → (get_or es k d).entry.attach ≡ e.entry.attach → (get_or es k d).entry ≡ e.entry
distinct-at [] k p d e apart inside is same = absurd (omega arith)
distinct-at (x ∷ xs) zero zero d e apart inside is same = let there : x ≡ e = cc in ap (λ (e : EngineParts). e.entry) there
distinct-at (x ∷ xs) zero (suc p) d e apart inside is same = absurd (apart.0 (attached-at xs p e x.entry.attach is (sym same)))
distinct-at (x ∷ xs) (suc k) zero d e apart inside is same =
    let there : x ≡ e = cc in
    let attach : x.entry.attach ≡ e.entry.attach = ap (λ (e : EngineParts). e.entry.attach) there in
    absurd (apart.0 (attached-within xs k d x.entry.attach (omega arith) (same ∙ sym attach)))
distinct-at (x ∷ xs) (suc k) (suc p) d e apart inside is same = distinct-at xs k p d e apart.1 (omega arith) is same

numbered-of : (es : List EngineParts) (n p : ℕ) (e : EngineParts) → All (λ attach. attach ≤ n) (attachments_of (map (λ e. e.entry) es)) → slice_get es p ≡ Some e
    → e.entry.attach ≤ n
numbered-of [] n p e all is = absurd cc
numbered-of (x ∷ xs) n zero e all is =
    let there : x ≡ e = cc in
    omega (arith, All-head (λ attach. attach ≤ n) x.entry.attach (attachments_of (map (λ e. e.entry) xs)) all, ap (λ (e : EngineParts). e.entry.attach) there)
numbered-of (x ∷ xs) n (suc p) e all is = numbered-of xs n p e (All-tail (λ attach. attach ≤ n) x.entry.attach (attachments_of (map (λ e. e.entry) xs)) all) is

-- of the call that was worked on
module _ (es : List EngineParts) (n p j moment : ℕ) (calls : List PendingCall) (outcome : Outcome) (es' : List EngineParts) (calls' : List PendingCall)
    (st : ArePendingOn es n calls) (w : HasWorked es calls p j moment outcome es' calls') where
  true-met : (k : ℕ) (d : EngineParts) → k < length es → IsTrueFor (get_or es k d).entry w.met
  true-met k d inside = true-same (get_or es k d).entry w.call w.met w.keeps.call (w.keeps.kept k d inside)
      (All-at (λ s. IsTrueFor (get_or es k d).entry s) calls j w.call (st.true_for k d inside) w.is_call)

  true-left : (k : ℕ) (d : EngineParts) → k < length es → IsTrueFor (get_or es k d).entry w.call'
  true-left k d inside = w.leaves_marks.stays_true (get_or es k d).entry
      (distinct-at es k p d w.engine st.chain.attachments inside w.is_engine) (true-met k d inside)

  marks-left : HasMarksUpTo n w.call'
  marks-left attach above =
      let own : w.engine.entry.attach ≤ n = numbered-of es n p w.engine st.chain.numbered w.is_engine in
      let other : attach ≢ w.engine.entry.attach = λ same. omega arith in
      let none : note_of w.met.marks attach ≡ None = w.keeps.none attach (All-at (λ s. HasMarksUpTo n s) calls j w.call st.marks w.is_call attach above) in
      w.leaves_marks.others_none attach other none

  same-entries : map (λ e. e.entry) es' ≡ map (λ e. e.entry) es
  same-entries = ap (λ (xs : List EngineParts). map (λ e. e.entry) xs) w.others ∙ same-map (λ (e : EngineParts). e.entry) es p w.engine w.engine' w.is_engine w.leaves_engine.entry

  pub same-numbers : seqs_of calls' ≡ seqs_of calls
  same-numbers = ap seqs_of w.other_calls ∙ same-map (λ (s : PendingCall). s.call.seq) calls j w.call w.call'
      w.is_call (number-kept w.engine.entry.policy outcome w.call.call w.call'.call w.leaves_call)

  policy-left : IsPolicy w.engine'.entry.policy
  policy-left = rw w.leaves_engine.entry (All-at (λ e. IsPolicy e.entry.policy) es p w.engine st.policies w.is_engine)

  true-all : (k : ℕ) (d : EngineParts) → k < length es → All (λ s. IsTrueFor (get_or es k d).entry s) calls'
  true-all k d inside = rw w.other_calls (All-set (λ s. IsTrueFor (get_or es k d).entry s) calls j w.call' (true-left k d inside) (st.true_for k d inside))

  true-own : All (λ s. IsTrueFor w.engine'.entry s) calls'
  true-own = rw w.leaves_engine.entry (All-at (λ e. All (λ s. IsTrueFor e.entry s) calls') es p w.engine true-all w.is_engine)

  pub stands-turn : ArePendingOn es' n calls'
  stands-turn = record {
    chain = rw same-entries st.chain;
    policies = rw w.others (All-set (λ e. IsPolicy e.entry.policy) es p w.engine' policy-left st.policies);
    few = let few = st.few in omega (arith, ap (λ (xs : List PendingCall). length xs) w.other_calls, length-set calls j w.call');
    ascend = rw same-numbers st.ascend;
    marks = rw w.other_calls (All-set (λ s. HasMarksUpTo n s) calls j w.call' marks-left st.marks);
    true_for = rw w.others (All-set (λ e. All (λ s. IsTrueFor e.entry s) calls') es p w.engine' true-own true-all);
  }

  met-past : past_of w.met.marks w.engine.entry.attach ≡ past_of w.call.marks w.engine.entry.attach
  met-past = let kept = All-at (λ e. note_of w.met.marks e.entry.attach ≡ note_of w.call.marks e.entry.attach) es p w.engine w.keeps.kept w.is_engine in rw kept refl

  allowed-met : is_allowed w.met.marks w.engine.entry.attach w.engine.entry.version ≡ true → IsAllowing w.engine.entry.policy w.met.call
  allowed-met = (All-at (λ e. IsTrueFor e.entry w.met) es p w.engine true-met w.is_engine).allowing

  pub comes-out : IsTurnOutcome w.engine.entry.policy w.engine.level moment w.call.call (past_of w.call.marks w.engine.entry.attach) outcome
  comes-out = rw (sym w.keeps.call, sym met-past) (w.turn.comes allowed-met)
