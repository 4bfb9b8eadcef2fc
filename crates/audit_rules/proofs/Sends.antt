-- The first pending call is sent.
use Rattle.std.proofs.Common.{◌≡◌, ℕ, ◌+◌, ◌≤◌, zero, suc, List, [], ◌∷◌, length, map, take, slice_get, refl, sym, ap, ◌∙◌, subst, arith}
use Rattle.std.specs.Prelude.{All, Some, None}
use Rattle.std.proofs.lemmas.List.Elements.{All-cons, All-head, All-nil, All-tail, All-take}
use Rattle.mrpc_table.specs.declared.call.Call.{Call}
use Rattle.frame_transport.specs.declared.format.TheConstants.{HEADER_LEN}
use Rattle.engine_core.specs.Engines.{EngineParts}
use Rattle.engine_core.specs.Marks.{PendingCall, seqs_of}
use Rattle.call_history.specs.Trace.{Trace, chain, form, pending_calls}
use Rattle.call_history.specs.Rules.{IsSentNext, IsAllowedInTrace, JudgeContext, payload}
use Rattle.call_history.specs.Ties.{AreTied, IsCallOfTrace}
use Rattle.call_history.specs.declared.happening.AcceptedCall.{AcceptedCall}
use Rattle.audit_rules.specs.Asking.{HasPassedFirst}
use Rattle.audit_rules.proofs.Asked.{All-at, map-at}

all-taken : {X : Type 0} (P : X → Type 0) (xs : List X) (m : ℕ) → length xs ≤ m → All P (take m xs) → All P xs
all-taken P [] m le all = All-nil P
all-taken P (x ∷ xs) zero le all = absurd (omega arith)
all-taken P (x ∷ xs) (suc m) le all = All-cons P x xs (All-head P x (take m xs) all) (all-taken P xs m (omega arith) (All-tail P x (take m xs) all))

pub none-first : (calls : List AcceptedCall) → slice_get (map (λ call. call.seq) calls) 0 ≡ None → calls ≡ []
none-first [] none = refl
none-first (call ∷ calls) none = absurd cc

record IsFirstOf (calls : List AcceptedCall) (seq : ℕ) : Type 0 where
  call : AcceptedCall
  others : List AcceptedCall
  is : calls ≡ call ∷ others
  number : call.seq ≡ seq

first-of : (calls : List AcceptedCall) (seq : ℕ) → slice_get (map (λ call. call.seq) calls) 0 ≡ Some seq → IsFirstOf calls seq
first-of [] seq is = absurd cc
first-of (call ∷ calls) seq is = record { call = call; others = calls; is = refl; number = cc }

module _ (u : JudgeContext) (past : Trace) (n seq bytes at : ℕ) (es : List EngineParts) (calls : List PendingCall) (ties : AreTied u.conn past es n calls)
    (stands : seqs_of calls ≡ map (λ call. call.seq) (pending_calls past)) (first : slice_get (seqs_of calls) 0 ≡ Some seq) (s : PendingCall) (there : slice_get calls 0 ≡ Some s) where
  number : s.call.seq ≡ seq
  number = let its = map-at (λ (s : PendingCall). s.call.seq) calls 0 s there in cc

  is-form : form u.conn seq past ≡ Some s.call
  is-form = subst (λ (k : ℕ). form u.conn k past ≡ Some s.call) number (All-at (IsCallOfTrace u.conn past es n) calls 0 s ties.calls_of_trace there).is_form

  pub sends : length (chain past).entries ≤ at → HasPassedFirst u past seq at → bytes ≡ HEADER_LEN + length (payload u.table s.call) → IsSentNext u past seq bytes
  sends all lets long =
      let its = first-of (pending_calls past) seq (subst (λ (ns : List ℕ). slice_get ns 0 ≡ Some seq) stands first) in
      record {
        call = its.call;
        others = its.others;
        first = its.is;
        number = its.number;
        allowed = all-taken (IsAllowedInTrace u past seq) (chain past).entries at all lets;
        sent = s.call;
        is_form = is-form;
        long = long;
      }

  pub frame-of : IsSentNext u past seq bytes → bytes ≡ HEADER_LEN + length (payload u.table s.call)
  frame-of sent =
      let both : Some sent.sent ≡ Some s.call = sym sent.is_form ∙ is-form in
      let same : sent.sent ≡ s.call = cc in
      sent.long ∙ ap (λ (call : Call). HEADER_LEN + length (payload u.table call)) same

pub passes-all : (u : JudgeContext) (past : Trace) (seq bytes at : ℕ) → IsSentNext u past seq bytes → HasPassedFirst u past seq at
passes-all u past seq bytes at sent = All-take (IsAllowedInTrace u past seq) at (chain past).entries sent.allowed
