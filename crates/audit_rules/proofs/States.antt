-- What a checker knows after one more event: a timestamp, a rejected submission, or an event by which a call leaves.
use Rattle.std.proofs.Common.{◌≡◌, ℕ, ◌+◌, ◌≤◌, ◌==◌, Bool, not, List, [], ◌∷◌, length, map, remove, slice_get, refl, sym, ap, ◌∙◌, subst, arith}
use Rattle.std.specs.Prelude.{All, Some, filter, vec_capacity}
use Rattle.std.specs.List.{AllZip}
use Rattle.std.specs.VecDeque.{deque_capacity}
use Rattle.std.proofs.lemmas.List.{length-map}
use Rattle.mrpc_table.specs.Calls.{IsCallOf}
use Rattle.mrpc_table.specs.declared.table.Table.{Table}
use Rattle.engine_core.specs.Chains.{Entry}
use Rattle.engine_core.specs.Engines.{EngineParts, clocked}
use Rattle.engine_core.specs.Marks.{PendingCall, seqs_of}
use Rattle.call_history.specs.Trace.{Trace, has_failed, timestamp, pending_calls, taken}
use Rattle.call_history.specs.Rules.{IsRefusedAtOnce, CanFollow, IsRefusedIfPastCap, IsMalformedRefusedAtOnce, JudgeContext}
use Rattle.call_history.specs.Ties.{AreTied, AreTiedAfterTimestamp}
use Rattle.call_history.specs.declared.happening.Happening.{Happening}
use Rattle.call_history.specs.declared.happening.Happening.TheVariants.{Drawn, Moment, Refused, Sent, Took}
use Rattle.call_history.specs.declared.happening.Cause.{Cause}
use Rattle.call_history.specs.declared.happening.Cause.TheVariants as cause
use Rattle.call_history.specs.declared.happening.AcceptedCall.{AcceptedCall}
use Rattle.call_history.specs.declared.happening.TookCopy.{TookCopy}
use Rattle.call_history.specs.declared.happening.TookCopy.TheVariants.{Copy, Malformed}
use Rattle.call_history.specs.Legal.{HasNoCopy}
use Rattle.audit_rules.specs.Asking.{IsRising, HasPassedFirst}
use Rattle.audit_rules.specs.CheckerState.{HasNoMalformed, IsCheckerAfter, IsObligationAfter, checker_context}
use Rattle.audit_rules.specs.EventKinds.{IsNoLinkCause}
use Rattle.audit_rules.specs.declared.checker.Checker.{Checker}
use Rattle.audit_rules.specs.declared.obligation.Obligation.{Obligation}
use Rattle.audit_rules.specs.declared.obligation.Obligation.TheVariants.{Nothing, RefuseOverCap, RefuseMalformed}
use Rattle.audit_rules.proofs.Going.{IsApart, all-on, all-remove, apart-latest, apart-lets, entries-same-all, latest-same, others-leave, remove-map, rising-remove, zip-on, zip-remove}
use Rattle.audit_rules.proofs.Known.{known-rising, known-standing}

-- an event by which the call with a number leaves
pub record IsFate (past : Trace) (seq : ℕ) (what : Happening) : Type 0 where
  pub ties : (conn : ℕ) (es : List EngineParts) (n : ℕ) (calls : List PendingCall) → AreTied conn past es n calls → AreTied conn (what ∷ past) es n calls
  pub stands : pending_calls (what ∷ past) ≡ filter (λ call. not (seq == call.seq)) (pending_calls past)
  pub apart : IsApart past what
  pub same_moment : timestamp (what ∷ past) ≡ timestamp past
  pub same_taken : taken (what ∷ past) ≡ taken past
  pub settles : IsObligationAfter (what ∷ past) Nothing

module _ (T : Table) (past : Trace) (what : Happening) (c c' : Checker) (seq place : ℕ) (knows : IsCheckerAfter T past c) (free : HasNoMalformed c.left) (may : CanFollow (checker_context T c) past what)
    (fate : IsFate past seq what) (there : slice_get (seqs_of c.calls) place ≡ Some seq)
    (leave : (conn : ℕ) (p : Trace) (es : List EngineParts) (n : ℕ) (calls : List PendingCall) (i : ℕ) → AreTied conn p es n calls → AreTied conn p es n (remove calls i))
    (rest : c' ≡ record c { calls = c'.calls; reached = c'.reached; left = Nothing; failed = has_failed (what ∷ past) })
    (calls : c'.calls ≡ remove c.calls place) (reached : c'.reached.items ≡ remove c.reached.items place) (capacity : deque_capacity c'.reached ≡ deque_capacity c.reached) where
  gone : Checker
  gone = record c { calls = c'.calls; reached = c'.reached; left = Nothing; failed = has_failed (what ∷ past) }

  numbers-gone : seqs_of c'.calls ≡ remove (seqs_of c.calls) place
  numbers-gone = ap (λ (xs : List PendingCall). seqs_of xs) calls ∙ remove-map (λ (s : PendingCall). s.call.seq) c.calls place

  stands-gone : seqs_of c'.calls ≡ map (λ call. call.seq) (pending_calls (what ∷ past))
  stands-gone =
      let same = known-standing T past c knows free in
      let rising = subst (λ (ns : List ℕ). IsRising 0 c.taken ns) same (known-rising T past c knows free) in
      numbers-gone ∙ (ap (λ (ns : List ℕ). remove ns place) same
      ∙ (sym (others-leave 0 c.taken seq place (pending_calls past) rising (subst (λ (ns : List ℕ). slice_get ns place ≡ Some seq) same there))
      ∙ ap (λ (cs : List AcceptedCall). map (λ call. call.seq) cs) (sym fate.stands)))

  knows-gone : IsCheckerAfter T (what ∷ past) gone
  unfolding gone
  knows-gone = record {
    row = record {
      prefix = (knows.row.prefix, may);
      ties = subst (λ (cs : List PendingCall). AreTied c.conn (what ∷ past) c.engines.items c.attached cs) (sym calls)
          (leave c.conn (what ∷ past) c.engines.items c.attached c.calls place (fate.ties c.conn c.engines.items c.attached c.calls knows.row.ties));
      reaches = subst (λ (ns : List ℕ). AllZip (HasPassedFirst (checker_context T c) (what ∷ past)) ns c'.reached.items) (sym numbers-gone)
          (subst (λ (rs : List ℕ). AllZip (HasPassedFirst (checker_context T c) (what ∷ past)) (remove (seqs_of c.calls) place) rs) (sym reached)
          (zip-remove (HasPassedFirst (checker_context T c) (what ∷ past)) (seqs_of c.calls) c.reached.items place
          (zip-on (HasPassedFirst (checker_context T c) past) (HasPassedFirst (checker_context T c) (what ∷ past)) (seqs_of c.calls) c.reached.items (apart-lets (checker_context T c) past what fate.apart) knows.row.reaches)));
      shows = knows.row.shows ∙ sym fate.same_moment;
    };
    numbers = stands-gone;
    rising = subst (λ (ns : List ℕ). IsRising 0 c.taken ns) (sym numbers-gone) (rising-remove 0 c.taken (seqs_of c.calls) place (known-rising T past c knows free));
    taken = knows.taken ∙ ap (λ (cs : List AcceptedCall). length cs) (sym fate.same_taken);
    latest = apart-latest past what fate.apart c.engines.items c.latest.items knows.latest;
    failed = refl;
    left = fate.settles;
    of_table = subst (λ (cs : List PendingCall). All (λ s. IsCallOf T s.call) cs) (sym calls) (all-remove (λ (s : PendingCall). IsCallOf T s.call) c.calls place knows.of_table);
    attachments = omega (arith, knows.attachments);
    versions = all-on (λ (e : EngineParts). e.entry.version ≤ length past + 1) (λ (e : EngineParts). e.entry.version
        ≤ length (what ∷ past) + 1) c.engines.items (λ e le. omega (arith, le)) knows.versions;
    room = record {
      few_engines = knows.room.few_engines;
      engines = knows.room.engines;
      latest = knows.room.latest;
      calls = omega (arith, knows.room.calls, capacity);
    };
    untold = knows.untold;
  }

  pub knows-left : IsCheckerAfter T (what ∷ past) c'
  unfolding gone
  knows-left = subst (λ (d : Checker). IsCheckerAfter T (what ∷ past) d) (sym rest) knows-gone

-- ---- obligations

pub at-once : (copy : TookCopy) (seq : ℕ) (what : Happening) → HasNoCopy copy → IsRefusedAtOnce copy seq what → what ≡ Refused seq cause.Malformed
at-once (Copy tree) seq what none is = absurd none
at-once (Malformed reason place value) seq what none is = is

-- if a refusal is due, only a refusal can follow
pub not-left : (past : Trace) (what : Happening) (left : Obligation) → IsObligationAfter past left → IsMalformedRefusedAtOnce past what → IsRefusedIfPastCap past what
    → ((seq : ℕ) (why : Cause) → what ≡ Refused seq why → ⊥) → left ≡ Nothing
not-left past what Nothing opened malformed drawn other = refl
not-left past what (RefuseMalformed seq) opened malformed drawn other =
    let at : IsMalformedRefusedAtOnce (Took opened.call ∷ opened.earlier) what = subst (λ (p : Trace). IsMalformedRefusedAtOnce p what) opened.is_last malformed in
    absurd (other opened.call.seq cause.Malformed (at-once opened.call.copy opened.call.seq what opened.malformed at))
not-left past what (RefuseOverCap seq at ticket cap) opened malformed drawn other =
    let refuses : IsRefusedIfPastCap (Drawn seq opened.entry.name opened.window ticket ∷ opened.earlier) what = subst (λ (p : Trace). IsRefusedIfPastCap p what) opened.is_last drawn in
    absurd (other seq (cause.Quota opened.entry.name ticket cap) (refuses opened.policy cap opened.is_policy opened.is_cap opened.past_cap))

-- ---- a timestamp

shown-entries : (now : ℕ) (es : List EngineParts) → map (λ e. e.entry) (map (λ e. clocked now e) es) ≡ map (λ e. e.entry) es
shown-entries now [] = refl
shown-entries now (e ∷ es) = ap (λ (xs : List Entry). e.entry ∷ xs) (shown-entries now es)

pub moment-apart : (past : Trace) (now : ℕ) → IsApart past (Moment now)
moment-apart past now = record { chained = refl; notes = λ name seq. refl; calls = λ name. refl; forms = λ conn seq. refl }

module _ (T : Table) (past : Trace) (now : ℕ) (c c' : Checker) (knows : IsCheckerAfter T past c) (may : CanFollow (checker_context T c) past (Moment now)) (shows : AreTiedAfterTimestamp)
    (rest : c' ≡ record c { engines = c'.engines; moment = now }) (items : c'.engines.items ≡ map (λ e. clocked now e) c.engines.items)
    (capacity : vec_capacity c'.engines ≡ vec_capacity c.engines) where
  later : Checker
  later = record c { engines = c'.engines; moment = now }

  same-entries : map (λ e. e.entry) c'.engines.items ≡ map (λ e. e.entry) c.engines.items
  same-entries = ap (λ (es : List EngineParts). map (λ e. e.entry) es) items ∙ shown-entries now c.engines.items

  is-nothing : c.left ≡ Nothing
  is-nothing = not-left past (Moment now) c.left knows.left may.malformed may.drawn_refused (λ seq why is. cc)

  knows-later : IsCheckerAfter T (Moment now ∷ past) later
  unfolding later
  knows-later = record {
    row = record {
      prefix = (knows.row.prefix, may);
      ties = subst (λ (es : List EngineParts). AreTied c.conn (Moment now ∷ past) es c.attached c.calls) (sym items)
          (shows (checker_context T c) past c.engines.items c.attached c.calls now knows.row.prefix knows.row.ties may.chain_kept);
      reaches = zip-on (HasPassedFirst (checker_context T c) past) (HasPassedFirst (checker_context T c) (Moment now ∷ past))
          (seqs_of c.calls) c.reached.items (apart-lets (checker_context T c) past (Moment now) (moment-apart past now))
          knows.row.reaches;
      shows = refl;
    };
    numbers = knows.numbers;
    rising = knows.rising;
    taken = knows.taken;
    latest = apart-latest past (Moment now) (moment-apart past now) c'.engines.items c.latest.items
        (latest-same past c.engines.items c'.engines.items c.latest.items same-entries knows.latest);
    failed = knows.failed;
    left = subst (λ (l : Obligation). IsObligationAfter (Moment now ∷ past) l) (sym is-nothing) (λ none. none, λ none. none);
    of_table = knows.of_table;
    attachments = omega (arith, knows.attachments);
    versions = entries-same-all (λ (e : Entry). e.version ≤ length (Moment now ∷ past) + 1) c.engines.items c'.engines.items same-entries
        (all-on (λ (e : EngineParts). e.entry.version ≤ length past + 1) (λ (e : EngineParts). e.entry.version
        ≤ length (Moment now ∷ past) + 1) c.engines.items (λ e le. omega (arith, le)) knows.versions);
    room = record {
      few_engines = omega (
        arith,
        knows.room.few_engines,
        ap (λ (es : List Entry). length es) same-entries,
        length-map c'.engines.items (λ (e : EngineParts). e.entry),
        length-map c.engines.items (λ (e : EngineParts). e.entry),
      );
      engines = omega (arith, knows.room.engines, capacity);
      latest = knows.room.latest;
      calls = knows.room.calls;
    };
    untold = knows.untold;
  }

  pub knows-shown : IsCheckerAfter T (Moment now ∷ past) c'
  unfolding later
  knows-shown = subst (λ (d : Checker). IsCheckerAfter T (Moment now ∷ past) d) (sym rest) knows-later

-- ---- fates

pub sent-fate : ((conn : ℕ) (past : Trace) (es : List EngineParts) (n : ℕ) (calls : List PendingCall)
    (seq bytes : ℕ) → AreTied conn past es n calls → AreTied conn (Sent seq bytes ∷ past) es n calls)
    → ((past : Trace) (seq bytes : ℕ) → pending_calls (Sent seq bytes ∷ past) ≡ filter (λ call. not (seq == call.seq)) (pending_calls past))
    → (past : Trace) (seq bytes : ℕ) → IsFate past seq (Sent seq bytes)
sent-fate ties stands past seq bytes = record {
  ties = λ conn es n calls tied. ties conn past es n calls seq bytes tied;
  stands = stands past seq bytes;
  apart = record { chained = refl; notes = λ name seq. refl; calls = λ name. refl; forms = λ conn seq. refl };
  same_moment = refl;
  same_taken = refl;
  settles = (λ none. none, λ none. none);
}

pub refused-fate : ((conn : ℕ) (past : Trace) (es : List EngineParts) (n : ℕ) (calls : List PendingCall) (seq : ℕ)
    (why : Cause) → AreTied conn past es n calls → AreTied conn (Refused seq why ∷ past) es n calls)
    → ((past : Trace) (seq : ℕ) (why : Cause) → pending_calls (Refused seq why ∷ past) ≡ filter (λ call. not (seq == call.seq)) (pending_calls past))
    → (past : Trace) (seq : ℕ) (why : Cause) → IsFate past seq (Refused seq why)
refused-fate ties stands past seq why = record {
  ties = λ conn es n calls tied. ties conn past es n calls seq why tied;
  stands = stands past seq why;
  apart = record { chained = refl; notes = λ name seq. refl; calls = λ name. refl; forms = λ conn seq. refl };
  same_moment = refl;
  same_taken = refl;
  settles = (λ none. none, λ none. none);
}

same-failed : (past : Trace) (seq : ℕ) (why : Cause) → IsNoLinkCause why → has_failed (Refused seq why ∷ past) ≡ has_failed past
same-failed past seq cause.Malformed other = refl
same-failed past seq (cause.Access name version rule) other = refl
same-failed past seq (cause.Rate name level cost) other = refl
same-failed past seq (cause.Quota name ticket cap) other = refl
same-failed past seq cause.Transport other = absurd other

-- a refusal for another cause than the link
pub knows-refused : (T : Table) (past : Trace) (c c1 c' : Checker) (seq place : ℕ) (why : Cause) → checker_context T c1 ≡ checker_context T c → IsCheckerAfter T past c1 → HasNoMalformed c1.left
    → slice_get (seqs_of c1.calls) place ≡ Some seq → CanFollow (checker_context T c) past (Refused seq why) → IsNoLinkCause why → c'.failed ≡ c1.failed
    → ((T : Table) (past : Trace) (seq : ℕ) (why : Cause) → IsCheckerAfter T past c1 → HasNoMalformed c1.left → slice_get (seqs_of c1.calls) place ≡ Some seq
    → CanFollow (checker_context T c1) past (Refused seq why) → IsCheckerAfter T (Refused seq why ∷ past) (record c' { failed = has_failed (Refused seq why ∷ past) }))
    → IsCheckerAfter T (Refused seq why ∷ past) c'
knows-refused T past c c1 c' seq place why same knows free there may other failed law =
    let now : has_failed (Refused seq why ∷ past) ≡ c'.failed = same-failed past seq why other ∙ (sym knows.failed ∙ sym failed) in
    subst (λ (f : Bool). IsCheckerAfter T (Refused seq why ∷ past) (record c' { failed = f })) now
    (law T past seq why knows free there (subst (λ (u : JudgeContext). CanFollow u past (Refused seq why)) (sym same) may))
