-- A call is accepted.
use Rattle.std.proofs.Common.{◌≡◌, ℕ, ◌+◌, ◌<◌, ◌≤◌, ◌^◌, Bool, false, get_or, List, [], ◌∷◌, ◌++◌, length, reverse}
use Rattle.std.proofs.Common.{refl, ap, sym, ◌∙◌, subst, arith, length-append}
use Rattle.std.specs.Prelude.{All, Option, Some, None}
use Rattle.std.proofs.lemmas.List.{append_assoc}
use Rattle.std.proofs.lemmas.List.Elements.{All-push}
use Rattle.mrpc_table.specs.declared.call.Call.{Call}
use Rattle.engine_core.specs.Answers.{nothing}
use Rattle.engine_core.specs.Engines.{EngineParts}
use Rattle.engine_core.specs.Marks.{PendingCall, past_of}
use Rattle.chain_upgrade.specs.Chains.{ChainParts, IsChainState}
use Rattle.call_history.specs.Trace.{Trace, copied, form, timestamp, noted, taken}
use Rattle.call_history.specs.Transitions.{IsTransition, ConnState, IsValidState, accepted, accepts, takes}
use Rattle.call_history.specs.Rules.{MayTake}
use Rattle.call_history.specs.declared.happening.Cause.TheVariants as cause
use Rattle.call_history.specs.declared.happening.Happening.{Happening}
use Rattle.call_history.specs.declared.happening.Happening.TheVariants.{Took, Refused}
use Rattle.call_history.specs.declared.happening.AcceptedCall.{AcceptedCall}
use Rattle.call_history.specs.declared.happening.TookCopy.{TookCopy}
use Rattle.call_history.specs.declared.happening.TookCopy.TheVariants.{Copy, Malformed}
use Rattle.conn_core.specs.Connections.{Connection, IsConnection, conn_trace, conn_state, judge_context}
use Rattle.conn_core.specs.Invariant.{with_call, acceptance_events}
use Rattle.conn_core.specs.ConnectionSteps.{IsStep}
use Rattle.conn_core.proofs.Fitting.{EventsKeep, Fits, connected, fits-of}
use Rattle.conn_core.proofs.Numbers.{few-numbers, untold}
use Rattle.conn_core.proofs.Told.{behind-one, form-taken, form-taken_another}

-- ---- the trace

-- the trace after an acceptance
told-behind : AcceptedCall → Option Call → Trace → Trace
told-behind call None past = Refused call.seq cause.Malformed ∷ Took call ∷ past
told-behind call (Some form) past = Took call ∷ past

told-is : (call : AcceptedCall) (form : Option Call) (h : List Happening)
    → reverse (h ++ acceptance_events call form) ≡ told-behind call form (reverse h)
unfolding told-behind
told-is call None h =
    ap reverse (sym (append_assoc h (Took call ∷ []) (Refused call.seq cause.Malformed ∷ [])))
    ∙ behind-one (h ++ Took call ∷ []) (Refused call.seq cause.Malformed) ∙ ap
    (λ (past : Trace). Refused call.seq cause.Malformed ∷ past) (behind-one h (Took call))
told-is call (Some f) h = behind-one h (Took call)

-- the state after it
joined-course : (conn : ℕ) (call : AcceptedCall) (copy : TookCopy) (form : Option Call) (past : Trace) (chain : ChainParts)
    (ended : Bool) → call.copy ≡ copy → form ≡ copied conn call copy
    → record {
      past = told-behind call form past;
      row = (with_call form chain).row;
      ended = ended;
    } ≡ accepted call (record { past = past; row = chain.row; ended = ended })
unfolding told-behind
joined-course conn call (Copy tree) None past chain ended is same = absurd cc
joined-course conn call (Copy tree) (Some f) past chain ended is same =
    let number : f.seq ≡ call.seq = cc in
    rw (is, number) refl
joined-course conn call (Malformed reason place value) None past chain ended is same = rw is refl
joined-course conn call (Malformed reason place value) (Some f) past chain ended is same = absurd cc

-- ---- levels, marks and forms

taken-few : (call : AcceptedCall) (form : Option Call) (past : Trace)
    → length (taken (told-behind call form past)) ≡ length (taken past) + 1
unfolding told-behind
taken-few call None past = length-append (taken past) (call ∷ [])
taken-few call (Some f) past = length-append (taken past) (call ∷ [])

other-forms : (conn : ℕ) (past : Trace) (call : AcceptedCall) (calls : List PendingCall) (n : ℕ) → n < call.seq
    → All (λ s. s.call.seq ≤ n) calls
    → All (λ s. form conn s.call.seq past ≡ Some s.call) calls
    → All (λ s. form conn s.call.seq (Took call ∷ past) ≡ Some s.call) calls
other-forms conn past call calls n above few forms = λ k d within.
    let here = few k d within in
    form-taken_another conn _ past call (λ same. omega (arith, here, above, same)) ∙ forms k d within

fits-accepted : (conn : ℕ) (past : Trace) (chain : ChainParts) (call : AcceptedCall) (f : Option Call) (n : ℕ)
    → Fits conn past chain → f ≡ copied conn call call.copy
    → n < call.seq → All (λ s. s.call.seq ≤ n) chain.calls → ((name : List ℕ) → noted name call.seq past ≡ nothing)
    → ((form : Call) → f ≡ Some form → form.seq ≡ call.seq)
    → Fits conn (told-behind call f past) (with_call f chain)
unfolding told-behind
fits-accepted conn past chain call None n fits same above few untold number = record {
  same_chain = fits.same_chain;
  levels = fits.levels;
  moments = fits.moments;
  notes = fits.notes;
  forms = other-forms conn past call chain.calls n above few fits.forms;
}
fits-accepted conn past chain call (Some f) n fits same above few untold number =
    let own : f.seq ≡ call.seq = number f refl in
    let new : PendingCall = record { call = f; marks = [] } in record {
      same_chain = fits.same_chain;
      levels = fits.levels;
      moments = fits.moments;
      notes = All-push (λ (s : PendingCall). All (λ (e : EngineParts). past_of s.marks e.entry.attach
          ≡ noted e.entry.name s.call.seq past) chain.engines) chain.calls new fits.notes
          (λ k d within. sym (subst (λ (seq : ℕ). noted (get_or chain.engines k d).entry.name seq past
          ≡ nothing) (sym own) (untold (get_or chain.engines k d).entry.name)));
      forms = All-push (λ (s : PendingCall). form conn s.call.seq (Took call ∷ past) ≡ Some s.call) chain.calls new
          (other-forms conn past call chain.calls n above few fits.forms)
          (form-taken conn f.seq past call (sym own) ∙ sym same);
    }

-- the form has the call's number
pub form-number : (conn : ℕ) (call : AcceptedCall) (copy : TookCopy) (f : Call) → Some f ≡ copied conn call copy
    → f.seq ≡ call.seq
form-number conn call (Copy tree) f is = cc
form-number conn call (Malformed reason place value) f is = absurd cc

told-moment : (call : AcceptedCall) (form : Option Call) (past : Trace) → timestamp (told-behind call form past) ≡ timestamp past
unfolding told-behind
told-moment call None past = refl
told-moment call (Some f) past = refl

pub accepted-moment : (old new : Connection) (call : AcceptedCall) (f : Option Call)
    → new ≡ record old { chain = with_call f old.chain; happenings = old.happenings ++ acceptance_events call f }
    → timestamp (conn_trace new) ≡ timestamp (conn_trace old)
accepted-moment old new call f is =
    ap (λ (c : Connection). timestamp (conn_trace c)) is ∙ ap timestamp (told-is call f old.happenings) ∙ told-moment call f
    (conn_trace old)

-- ---- the transition

pub accepted-now : EventsKeep → (old new : Connection) (call : AcceptedCall) (f : Option Call) → IsConnection old
    → old.ended ≡ false
    → MayTake (judge_context old) (conn_trace old) call → f ≡ copied old.conn call call.copy
    → new ≡ record old { chain = with_call f old.chain; happenings = old.happenings ++ acceptance_events call f }
    → IsChainState new.chain → length (taken (conn_trace old)) + 1 < 2 ^ 32
    → IsStep old (accepts call) new × IsConnection new × (length (taken (conn_trace new)) ≡ length (taken (conn_trace old)) + 1)
accepted-now keeps old new call f h running may same is stands few =
    let past : Trace = told-behind call f (conn_trace old) in
    let behind-is : conn_trace new ≡ past = ap conn_trace is ∙ told-is call f old.happenings in
    let moved : record { past = past; row = (with_call f old.chain).row; ended = old.ended } ≡ accepted call (conn_state old) =
    joined-course old.conn call call.copy f (conn_trace old) old.chain old.ended refl same in
    let next : ConnState = record { past = past; row = (with_call f old.chain).row; ended = old.ended } in
    let comes : IsTransition (judge_context old) (conn_state old) (accepts call) next = takes call refl running may moved in
    let held : IsValidState (judge_context old) next = keeps (judge_context old) (conn_state old) next (accepts call) h.is_valid_state comes in
    let same-course : conn_state new ≡ next = ap (λ (c : Connection). record {
      past = conn_trace c;
      row = c.chain.row;
      ended = c.ended;
    }) is
    ∙ ap (λ (p : Trace). record {
      past = p;
      row = (with_call f old.chain).row;
      ended = old.ended;
    }) (told-is call f old.happenings) in
    let number : call.seq ≡ length (taken (conn_trace old)) + 1 = may.number in
    let above : length (taken (conn_trace old)) < call.seq = omega (arith, number) in
    let fits : Fits old.conn past (with_call f old.chain) =
    fits-accepted old.conn (conn_trace old) old.chain call f (length (taken (conn_trace old))) (fits-of old h) same above
    (few-numbers old h)
    (λ name. untold (judge_context old) (conn_trace old) name call.seq h.is_valid_state.legal.prefix above)
    (λ form is-form. form-number old.conn call call.copy form (sym is-form ∙ same)) in
    let count : length (taken past) ≡ length (taken (conn_trace old)) + 1 = taken-few call f (conn_trace old) in
    let fixed : Connection = record old {
      chain = with_call f old.chain;
      happenings = old.happenings ++ acceptance_events call f;
    } in
    let stands' : IsChainState fixed.chain = subst (λ (c : Connection). IsChainState c.chain) is stands in
    let whole : IsConnection fixed =
    connected fixed past (told-is call f old.happenings) held stands' fits (omega (arith, count, few)) in (
      subst (λ (c : ConnState). IsTransition (judge_context old) (conn_state old) (accepts call) c) (sym same-course) comes,
      subst IsConnection (sym is) whole,
      ap (λ (p : Trace). length (taken p)) behind-is ∙ count,
    )
