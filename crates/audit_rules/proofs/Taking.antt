-- What a checker knows after a call is accepted, and after a malformed one is refused.
use Rattle.std.proofs.Common.{◌≡◌, ◌≢◌, ℕ, ◌+◌, ◌<◌, ◌≤◌, List, [], ◌∷◌, ◌++◌, length, map, remove, take, slice_get}
use Rattle.std.proofs.Common.{refl, sym, ap, ◌∙◌, subst, arith}
use Rattle.std.specs.Prelude.{All, Some}
use Rattle.std.specs.List.{AllZip}
use Rattle.std.specs.VecDeque.{deque_capacity}
use Rattle.std.proofs.lemmas.List.{length-append, map-append}
use Rattle.std.proofs.lemmas.List.Elements.{All-append, All-cons, All-nil}
use Rattle.mrpc_table.specs.Calls.{IsCallOf}
use Rattle.mrpc_table.specs.declared.table.Table.{Table}
use Rattle.engine_core.specs.Engines.{EngineParts}
use Rattle.engine_core.specs.Marks.{PendingCall, seqs_of}
use Rattle.call_history.specs.Trace.{Trace, chain, copied, form, pending_calls, taken}
use Rattle.call_history.specs.Legal.{HasMalformedObligation, HasNoCopy, IsLegalPrefix}
use Rattle.call_history.specs.Rules.{IsOldest, IsRefusedAtOnce, IsAllowedInTrace, CanFollow, IsMalformedRefusedAtOnce, JudgeContext}
use Rattle.call_history.specs.Ties.{AreTied, IsNumberApart, AreTiedAfterAcceptance}
use Rattle.call_history.specs.declared.happening.Cause.TheVariants as cause
use Rattle.call_history.specs.declared.happening.Happening.{Happening}
use Rattle.call_history.specs.declared.happening.Happening.TheVariants.{Refused, Took}
use Rattle.call_history.specs.declared.happening.AcceptedCall.{AcceptedCall}
use Rattle.call_history.specs.declared.happening.TookCopy.{TookCopy}
use Rattle.call_history.specs.declared.happening.TookCopy.TheVariants.{Copy, Malformed}
use Rattle.audit_rules.specs.Asking.{IsRising, HasPassedFirst}
use Rattle.audit_rules.specs.CheckerState.{HasNoMalformed, IsLatest, IsCheckerAfter, IsObligationAfter, checker_context, with_malformed}
use Rattle.audit_rules.specs.declared.checker.Checker.{Checker}
use Rattle.audit_rules.specs.declared.obligation.Obligation.{Obligation}
use Rattle.audit_rules.specs.declared.obligation.Obligation.TheVariants.{Nothing, RefuseOverCap, RefuseMalformed}
use Rattle.audit_rules.proofs.Going.{all-on, apart-latest, apart-lets, lets-on, others-leave, rising-push, rising-remove, zip-on}
use Rattle.audit_rules.proofs.Known.{free-numbers, known-rising, known-standing}
use Rattle.audit_rules.proofs.States.{IsFate, at-once, not-left}

-- ---- numbers

rising-under : (below top seq : ℕ) (calls : List PendingCall) → top < seq → IsRising below top (seqs_of calls) → IsNumberApart seq calls
rising-under below top seq [] less rising = All-nil (λ s. s.call.seq ≢ seq)
rising-under below top seq (s ∷ calls) less rising =
    All-cons (λ s. s.call.seq ≢ seq) s calls (λ same. omega (arith, rising.1, same))
    (rising-under s.call.seq top seq calls less rising.2)

zip-under : (R R' : ℕ → ℕ → Type 0) (below top : ℕ) (ns rs : List ℕ) → IsRising below top ns
    → ((n r : ℕ) → n ≤ top → R n r → R' n r) → AllZip R ns rs → AllZip R' ns rs
zip-under R R' below top [] [] rising on all = tt
zip-under R R' below top [] (r ∷ rs) rising on all = absurd all
zip-under R R' below top (n ∷ ns) [] rising on all = absurd all
zip-under R R' below top (n ∷ ns) (r ∷ rs) rising on all = (on n r rising.1 all.0, zip-under R R' n top ns rs rising.2 on all.1)

zip-push : {X Y : Type 0} (R : X → Y → Type 0) (xs : List X) (ys : List Y) (x : X) (y : Y) → AllZip R xs ys → R x y → AllZip R (xs ++ x ∷ []) (ys ++ y ∷ [])
zip-push R [] [] x y all own = (own, tt)
zip-push R [] (y' ∷ ys) x y all own = absurd all
zip-push R (x' ∷ xs) [] x y all own = absurd all
zip-push R (x' ∷ xs) (y' ∷ ys) x y all own = (all.0, zip-push R xs ys x y all.1 own)

remove-last : (ns : List ℕ) (n : ℕ) → remove (ns ++ n ∷ []) (length ns) ≡ ns
remove-last [] n = refl
remove-last (m ∷ ns) n = ap (λ (rest : List ℕ). m ∷ rest) (remove-last ns n)

last-there : (ns : List ℕ) (n : ℕ) → slice_get (ns ++ n ∷ []) (length ns) ≡ Some n
last-there [] n = refl
last-there (m ∷ ns) n = last-there ns n

-- ---- a call is accepted

abbrev pub TakesAnother : Type 0
TakesAnother = (conn seq : ℕ) (past : Trace) (call : AcceptedCall) → call.seq ≢ seq → form conn seq (Took call ∷ past) ≡ form conn seq past

abbrev pub StandsOn : Type 0
StandsOn = (u : JudgeContext) (past : Trace) (call : AcceptedCall) → IsLegalPrefix u past → call.seq ≡ length (taken past) + 1 → pending_calls (Took call ∷ past) ≡ pending_calls past ++ call ∷ []

abbrev pub TakesNone : Type 0
TakesNone = (conn : ℕ) (past : Trace) (es : List EngineParts) (n : ℕ) (calls : List PendingCall) (call : AcceptedCall) → AreTied conn past es n calls
    → IsNumberApart call.seq calls → AreTied conn (Took call ∷ past) es n calls

module _ (T : Table) (past : Trace) (call : AcceptedCall) (c : Checker) (knows : IsCheckerAfter T past c) (may : CanFollow (checker_context T c) past (Took call)) (forms : TakesAnother) (stands : StandsOn) where
  nothing : c.left ≡ Nothing
  nothing = not-left past (Took call) c.left knows.left may.malformed may.drawn_refused (λ seq why is. cc)

  free : HasNoMalformed c.left
  free = subst HasNoMalformed (sym nothing) tt

  next : call.seq ≡ c.taken + 1
  next = omega (arith, may.numbered.number, knows.taken)

  apart : IsNumberApart call.seq c.calls
  apart = rising-under 0 c.taken call.seq c.calls (omega (arith, next)) (known-rising T past c knows free)

  lets-later : AllZip (HasPassedFirst (checker_context T c) (Took call ∷ past)) (seqs_of c.calls) c.reached.items
  lets-later = zip-under (HasPassedFirst (checker_context T c) past) (HasPassedFirst (checker_context T c) (Took call ∷ past)) 0 c.taken (seqs_of c.calls) c.reached.items (known-rising T past c knows free)
      (λ n r le. all-on (IsAllowedInTrace (checker_context T c) past n) (IsAllowedInTrace (checker_context T c) (Took call ∷ past) n) (take r (chain past).entries)
      (λ e. lets-on (checker_context T c) past (Took call ∷ past) n e (forms c.conn n past call (λ same. omega (arith, next, le, same))) refl)) knows.row.reaches

  numbers-later : seqs_of c.calls ++ call.seq ∷ [] ≡ map (λ call. call.seq) (pending_calls (Took call ∷ past))
  numbers-later = ap (λ (ns : List ℕ). ns ++ call.seq ∷ []) (known-standing T past c knows free)
      ∙ (sym (map-append (λ (call : AcceptedCall). call.seq) (pending_calls past) (call ∷ []))
      ∙ ap (λ (cs : List AcceptedCall). map (λ call. call.seq) cs) (sym (stands (checker_context T c) past call knows.row.prefix may.numbered.number)))

  rising-later : IsRising 0 call.seq (seqs_of c.calls ++ call.seq ∷ [])
  rising-later = subst (λ (n : ℕ). IsRising 0 n (seqs_of c.calls ++ n ∷ [])) (sym next) (rising-push 0 c.taken (seqs_of c.calls) (omega arith) (known-rising T past c knows free))

  taken-later : call.seq ≡ length (taken (Took call ∷ past))
  taken-later = omega (arith, may.numbered.number, length-append (taken past) (call ∷ []))

  module _ (c' : Checker) (s : PendingCall) where
    took : Checker
    took = record c { calls = c'.calls; reached = c'.reached; taken = call.seq }

    pub knows-took : (law : AreTiedAfterAcceptance) → (HasNoCopy call.copy → ⊥) → c' ≡ record c { calls = c'.calls; reached = c'.reached; taken = call.seq } → c'.calls ≡ c.calls ++ s ∷ []
        → c'.reached.items ≡ c.reached.items ++ 0 ∷ [] → deque_capacity c'.reached ≡ deque_capacity c.reached
        → copied c.conn call call.copy ≡ Some s.call → s.marks ≡ [] → s.call.seq ≡ call.seq
        → IsCallOf T s.call → IsCheckerAfter T (Took call ∷ past) c'
    unfolding took
    knows-took law has rest calls reached capacity copy marks number of_table =
        let numbers : seqs_of c'.calls ≡ seqs_of c.calls ++ call.seq ∷ [] =
        ap (λ (cs : List PendingCall). seqs_of cs) calls
        ∙ (map-append (λ (s : PendingCall). s.call.seq) c.calls (s ∷ [])
        ∙ ap (λ (n : ℕ). seqs_of c.calls ++ n ∷ []) number) in
        let to : IsCheckerAfter T (Took call ∷ past) took = record {
          row = record {
            prefix = (knows.row.prefix, may);
            ties = subst (λ (cs : List PendingCall). AreTied c.conn (Took call ∷ past) c.engines.items c.attached cs) (sym calls)
                (law (checker_context T c) past c.engines.items c.attached c.calls call s knows.row.prefix knows.row.ties apart may.numbered.number copy marks);
            reaches = subst (λ (ns : List ℕ). AllZip (HasPassedFirst (checker_context T c) (Took call ∷ past)) ns c'.reached.items) (sym numbers)
                (subst (λ (rs : List ℕ). AllZip (HasPassedFirst (checker_context T c) (Took call ∷ past)) (seqs_of c.calls ++ call.seq ∷ []) rs) (sym reached)
                (zip-push (HasPassedFirst (checker_context T c) (Took call ∷ past)) (seqs_of c.calls) c.reached.items call.seq 0 lets-later (All-nil (IsAllowedInTrace (checker_context T c) (Took call ∷ past) call.seq))));
            shows = knows.row.shows;
          };
          numbers = free-numbers c.left (seqs_of c'.calls) free ∙ (numbers ∙ numbers-later);
          rising = subst (λ (ns : List ℕ). IsRising 0 call.seq ns) (sym (free-numbers c.left (seqs_of c'.calls) free ∙ numbers)) rising-later;
          taken = taken-later;
          latest = zip-on (IsLatest past) (IsLatest (Took call ∷ past)) c.engines.items c.latest.items (λ e n is. is) knows.latest;
          failed = knows.failed;
          left = subst (λ (l : Obligation). IsObligationAfter (Took call ∷ past) l) (sym nothing) (has, λ none. none);
          of_table = subst (λ (cs : List PendingCall). All (λ s. IsCallOf T s.call) cs) (sym calls)
              (All-append (λ (s : PendingCall). IsCallOf T s.call) c.calls (s ∷ []) knows.of_table
              (All-cons (λ (s : PendingCall). IsCallOf T s.call) s [] of_table
              (All-nil (λ (s : PendingCall). IsCallOf T s.call))));
          attachments = omega (arith, knows.attachments);
          versions = all-on (λ (e : EngineParts). e.entry.version ≤ length past + 1)
              (λ (e : EngineParts). e.entry.version ≤ length (Took call ∷ past) + 1) c.engines.items
              (λ e le. omega (arith, le)) knows.versions;
          room = record { few_engines = knows.room.few_engines; engines = knows.room.engines; latest = knows.room.latest; calls = omega (arith, knows.room.calls, capacity) };
          untold = knows.untold;
        } in
        subst (λ (d : Checker). IsCheckerAfter T (Took call ∷ past) d) (sym rest) to

  pub knows-waits : (law : TakesNone) → HasNoCopy call.copy → IsCheckerAfter T (Took call ∷ past) (record c { taken = call.seq; left = RefuseMalformed call.seq })
  knows-waits law none = record {
    row = record {
      prefix = (knows.row.prefix, may);
      ties = law c.conn past c.engines.items c.attached c.calls call knows.row.ties apart;
      reaches = lets-later;
      shows = knows.row.shows;
    };
    numbers = numbers-later;
    rising = rising-later;
    taken = taken-later;
    latest = zip-on (IsLatest past) (IsLatest (Took call ∷ past)) c.engines.items c.latest.items (λ e n is. is) knows.latest;
    failed = knows.failed;
    left = record { call = call; earlier = past; is_last = refl; malformed = none; number = refl };
    of_table = knows.of_table;
    attachments = omega (arith, knows.attachments);
    versions = all-on (λ (e : EngineParts). e.entry.version ≤ length past + 1) (λ (e : EngineParts). e.entry.version
        ≤ length (Took call ∷ past) + 1) c.engines.items (λ e le. omega (arith, le)) knows.versions;
    room = record { few_engines = knows.room.few_engines; engines = knows.room.engines; latest = knows.room.latest; calls = knows.room.calls };
    untold = knows.untold;
  }

-- ---- a malformed call is refused

copy-no : (copy : TookCopy) (seq n : ℕ) → (HasNoCopy copy → ⊥) → IsRefusedAtOnce copy seq (Refused n cause.Malformed) → ⊥
copy-no (Copy tree) seq n other is = is
copy-no (Malformed reason place value) seq n other is = other tt

no-malformed : (past : Trace) (seq : ℕ) → (HasMalformedObligation past → ⊥) → IsMalformedRefusedAtOnce past (Refused seq cause.Malformed) → ⊥
no-malformed [] seq other is = is
no-malformed (Took call ∷ past) seq other is = copy-no call.copy call.seq seq other is
no-malformed (_ ∷ past) seq other is = is

pub waits-malformed : (past : Trace) (left : Obligation) (seq : ℕ) → IsObligationAfter past left → IsMalformedRefusedAtOnce past (Refused seq cause.Malformed) → left ≡ RefuseMalformed seq
waits-malformed past Nothing seq opened is = absurd (no-malformed past seq opened.0 is)
waits-malformed past (RefuseMalformed s) seq opened is =
    let at : IsMalformedRefusedAtOnce (Took opened.call ∷ opened.earlier) (Refused seq cause.Malformed) = subst (λ (p : Trace). IsMalformedRefusedAtOnce p (Refused seq cause.Malformed)) opened.is_last is in
    let same : Refused seq cause.Malformed ≡ Refused opened.call.seq cause.Malformed = at-once opened.call.copy opened.call.seq (Refused seq cause.Malformed) opened.malformed at in
    let number : s ≡ seq = cc (opened.number, same) in
    ap (λ (n : ℕ). RefuseMalformed n) number
waits-malformed past (RefuseOverCap s at ticket cap) seq opened is =
    absurd (subst (λ (p : Trace). IsMalformedRefusedAtOnce p (Refused seq cause.Malformed)) opened.is_last is)

pub knows-malformed : (T : Table) (past : Trace) (seq : ℕ) (c : Checker) → IsCheckerAfter T past c
    → CanFollow (checker_context T c) past (Refused seq cause.Malformed) → IsFate past seq (Refused seq cause.Malformed)
    → IsCheckerAfter T (Refused seq cause.Malformed ∷ past) (record c { left = Nothing })
knows-malformed T past seq c knows may fate =
    let what : Happening = Refused seq cause.Malformed in
    let ns : List ℕ = seqs_of c.calls in
    let waiting : c.left ≡ RefuseMalformed seq = waits-malformed past c.left seq knows.left may.malformed in
    let same : ns ++ seq ∷ [] ≡ map (λ call. call.seq) (pending_calls past) = subst (λ (l : Obligation). with_malformed l ns ≡ map (λ call. call.seq) (pending_calls past)) waiting knows.numbers in
    let rising : IsRising 0 c.taken (ns ++ seq ∷ []) = subst (λ (l : Obligation). IsRising 0 c.taken (with_malformed l ns)) waiting knows.rising in
    record {
      row = record {
        prefix = (knows.row.prefix, may);
        ties = fate.ties c.conn c.engines.items c.attached c.calls knows.row.ties;
        reaches = zip-on (HasPassedFirst (checker_context T c) past) (HasPassedFirst (checker_context T c) (what ∷ past)) ns c.reached.items (apart-lets (checker_context T c) past what fate.apart) knows.row.reaches;
        shows = knows.row.shows;
      };
      numbers = sym (remove-last ns seq) ∙ (ap (λ (xs : List ℕ). remove xs (length ns)) same
          ∙ (sym (others-leave 0 c.taken seq (length ns) (pending_calls past) (subst (λ (xs : List ℕ). IsRising 0 c.taken xs) same rising)
          (subst (λ (xs : List ℕ). slice_get xs (length ns) ≡ Some seq) same (last-there ns seq)))
          ∙ ap (λ (cs : List AcceptedCall). map (λ call. call.seq) cs) (sym fate.stands)));
      rising = subst (λ (xs : List ℕ). IsRising 0 c.taken xs) (remove-last ns seq) (rising-remove 0 c.taken (ns ++ seq ∷ []) (length ns) rising);
      taken = knows.taken;
      latest = apart-latest past what fate.apart c.engines.items c.latest.items knows.latest;
      failed = knows.failed;
      left = (λ none. none, λ none. none);
      of_table = knows.of_table;
      attachments = omega (arith, knows.attachments);
      versions = all-on (λ (e : EngineParts). e.entry.version ≤ length past + 1) (λ (e : EngineParts). e.entry.version
          ≤ length (what ∷ past) + 1) c.engines.items (λ e le. omega (arith, le)) knows.versions;
      room = record { few_engines = knows.room.few_engines; engines = knows.room.engines; latest = knows.room.latest; calls = knows.room.calls };
      untold = knows.untold;
    }

-- ---- the link

pub first-stands : (calls : List AcceptedCall) (seq : ℕ) → IsOldest calls seq → slice_get (map (λ call. call.seq) calls) 0 ≡ Some seq
first-stands [] seq is = absurd is
first-stands (call ∷ calls) seq is = ap (λ (n : ℕ). Some n) is
