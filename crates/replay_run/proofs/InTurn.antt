-- If all quotas know their tickets, they drew them in turn; so a run ends as its script defines.
use Rattle.std.proofs.Common.{◌≡◌, ℕ, ◌-◌, ◌<◌, ◌≤◌, ◌^◌, ◌⊎◌, inl, inr, Bool, true, false, cond, nat_lt, List, []}
use Rattle.std.proofs.Common.{◌∷◌, ◌++◌, length, map, refl, sym, ap, ◌∙◌, subst, append-nil, length-append}
use Rattle.std.proofs.Common.{arith}
use Rattle.std.specs.Prelude.{Err, IfSome, Ok, OnErr, OnOk, Option, Result, Some, None}
use Rattle.std.specs.List.{range_with_len}
use Rattle.std.specs.Io.KnownBytes.{Appends}
use Rattle.std.proofs.lemmas.Bool.{cases_lt}
use Rattle.std.proofs.lemmas.Bool.Decides.{eqb_tells, nat_tests}
use Rattle.std.proofs.lemmas.List.Concat.{flat_map-append}
use Rattle.std.proofs.lemmas.List.FromFn.{length-range_with_len}
use Rattle.mrpc_base.specs.Quota.{Counters, drawn_in, tickets_of}
use Rattle.mrpc_base.specs.declared.tickets.TheConstants.{WINDOWS}
use Rattle.replay_script.specs.Lines.{IsScript}
use Rattle.replay_script.specs.declared.script.ScriptLine.{ScriptLine}
use Rattle.replay_script.specs.declared.script.Script.{Script}
use Rattle.call_history.specs.Legal.{History, trace_of}
use Rattle.audit_text.specs.Lines.{audit, audit_line}
use Rattle.replay_run.specs.Follows.{OpenConnection, ScriptState, start, event_on, script_context}
use Rattle.replay_run.specs.Kept.{HasRunSomeLines, HasBroken, HaveCounted, OnRan, IsPrefixWritten, drawn_of, open_connection_of}
use Rattle.replay_run.specs.Running.{IsBrokenRun, IsFullRun, IsStoppedRun, stops_behind}
use Rattle.replay_run.specs.PendingLines.{all_stands_lines}
use Rattle.replay_run.specs.Tickets.{AreConsecutive, tickets}
use Rattle.replay_run.specs.declared.connection.RunConnection.{RunConnection}
use Rattle.replay_run.specs.declared.replay_error.ReplayError.{ReplayError}
use Rattle.replay_run.specs.declared.replay_error.ReplayError.TheVariants.{Memory, Out, Wire}
use Rattle.replay_run.proofs.Bytes.{TellsBehind, appends-more, tells-behind}
use Rattle.replay_run.proofs.Followed.{front-stands, legal-of, until-stands}
use Rattle.replay_run.proofs.GivenLaws.{HistoryLaws}
use Rattle.replay_run.proofs.Known.{AllAreKnown, AreKnown, leads-known, until-known}
use Rattle.replay_run.proofs.Lines.{Lacks}
use Rattle.replay_run.proofs.Needs.{policies-good}
use Rattle.replay_run.proofs.Sound.{AreSound, Stands}
use Rattle.replay_run.proofs.Undrawn.{IsOutside, none-behind, none-told}

-- ---- tickets

of-told : (told : Bool) (drawn ts : List ℕ) → told ≡ true → IfSome (cond told (Some drawn) None) (λ now. now ≡ ts) → drawn ≡ ts
of-told true drawn ts is same = same
of-told false drawn ts is same = absurd cc

are-told : (n : ℕ) (ts : List ℕ) → n < 2 ^ 64 - 1 → IfSome (tickets_of n) (λ now. now ≡ ts) → range_with_len 0 n ≡ ts
unfolding tickets_of
are-told n ts below told =
    let test : nat_lt n (2 ^ 64 - 1) ≡ true = grind (arith, nat_tests) in
    of-told (nat_lt n (2 ^ 64 - 1)) (range_with_len 0 n) ts test told

abbrev IsInTurn : List ℕ → Type 0
IsInTurn ts = ts ≡ range_with_len 0 (length ts)

told-in-turn : (n : ℕ) (ts : List ℕ) → n < 2 ^ 64 - 1 → IfSome (tickets_of n) (λ now. now ≡ ts) → IsInTurn ts
told-in-turn n ts below told = subst IsInTurn (are-told n ts below told) (ap (range_with_len 0) (sym (length-range_with_len 0 n)))

none-in-turn : (ts : List ℕ) → ts ≡ [] → IsInTurn ts
none-in-turn ts none = subst IsInTurn (sym none) refl

-- ---- the end of a script

module _ (laws : HistoryLaws) (s : Script) (script : IsScript s) where
  abbrev tenants : ℕ
  tenants = length s.declared.tenants

  abbrev AreOfScript : List OpenConnection → Type 0
  AreOfScript os = AllAreKnown tenants s (policies-good s script) os

  known-or-lacks : (conn : ℕ) (h : History) (os : List OpenConnection) → AreSound laws s h os → AreOfScript os → AreKnown tenants (trace_of conn h) ⊎ Lacks conn (map (λ o. o.conn) os)
  known-or-lacks conn h [] each known = inr tt
  known-or-lacks conn h (o ∷ os) each known = elim (eqb_tells o.conn conn) [
    | inl is ↦ inl (subst (λ c. AreKnown tenants (trace_of c h)) is.1 (subst (AreKnown tenants) each.0.past known.0))
    | inr is ↦ elim (known-or-lacks conn h os each.1 known.1) [ inl all ↦ inl all | inr lacks ↦ inr (is.1, lacks) ]
  ]

  known-behind : (before : List ScriptLine) (st : ScriptState) → Stands laws s before st → AreOfScript st.opened → (conn : ℕ) → AreKnown tenants (trace_of conn st.history)
  known-behind before st stands known conn = elim (known-or-lacks conn st.history st.opened stands.each known) [
    | inl all ↦ all
    | inr lacks ↦ subst (AreKnown tenants) (sym (stands.quiet conn (subst (Lacks conn) stands.are lacks))) tt
  ]

  outside-none : (before : List ScriptLine) (st : ScriptState) → Stands laws s before st → AreOfScript st.opened → (tenant window : ℕ) → IsOutside tenants tenant window
      → tickets tenant window st.history ≡ []
  outside-none before st stands known tenant window out =
      none-told laws tenant window st.history (λ conn. none-behind tenants tenant window out (script_context s conn) (trace_of conn st.history)
      (legal-of laws s script before st stands conn).prefix (known-behind before st stands known conn))

  in-turn : (before : List ScriptLine) (st : ScriptState) (quotas : Counters) → Stands laws s before st → AreOfScript st.opened → quotas.tenants ≡ tenants → HaveCounted tenants quotas
      → ((tenant window : ℕ) → tenant < quotas.tenants → window < WINDOWS → IfSome (drawn_of quotas tenant window) (λ now. now ≡ tickets tenant window st.history))
      → AreConsecutive st.history
  in-turn before st quotas stands known same counted drawn tenant window = elim (cases_lt tenant tenants) [
    | inr far ↦ none-in-turn (tickets tenant window st.history) (outside-none before st stands known tenant window (inl far))
    | inl declared ↦ elim (cases_lt window 1024) [
      | inr late ↦ none-in-turn (tickets tenant window st.history) (outside-none before st stands known tenant window (inr late))
      | inl early ↦ told-in-turn (drawn_in quotas tenant window) (tickets tenant window st.history) (counted tenant declared window early)
          (drawn tenant window (subst (λ n. tenant < n) (sym same) declared) early)
    ]
  ]

  -- ---- what the run writes

  pub run-replays : (cs : List RunConnection) (quotas : Counters) (out out' last wire wire' : Option (List ℕ)) → HasRunSomeLines s s.lines cs quotas out out' wire wire' → HaveCounted tenants quotas
      → Appends out' last (all_stands_lines (map open_connection_of cs)) → IsFullRun s out last wire wire'
  run-replays cs quotas out out' last wire wire' a counted told =
      let stands : Stands laws s s.lines a.0 = front-stands laws s script s.lines [] a.0 (sym (append-nil s.lines)) a.1.leads in
      let known : AreOfScript a.0.opened = leads-known tenants s (policies-good s script) s.lines start a.0 a.1.leads tt in
      record {
        end = a.0;
        follows = record { leads = a.1.leads; in_turn = in-turn s.lines a.0 quotas stands known a.1.holds.tenants counted a.1.holds.drawn };
        told = appends-more out out' last (audit s.table a.0.history) (all_stands_lines a.0.opened) a.1.told
            (subst (λ os. Appends out' last (all_stands_lines os)) a.1.holds.opened told);
        handed = a.1.handed;
      }

  pub run-breaks : (cs : List RunConnection) (quotas : Counters) (out out' last wire wire' : Option (List ℕ)) → HasBroken s cs quotas out out' wire wire' → HaveCounted tenants quotas
      → Appends out' last (all_stands_lines (map open_connection_of cs)) → IsBrokenRun s out last wire wire'
  run-breaks cs quotas out out' last wire wire' b counted told =
      let stands : Stands laws s (b.until.lines ++ b.until.failing ∷ []) b.end = until-stands laws s script b.tried b.end b.until in
      let known : AreOfScript b.end.opened = until-known tenants s (policies-good s script) b.tried b.end b.until in
      record {
        end = b.end;
        tried = b.tried;
        follows = record { until = b.until; in_turn = in-turn (b.until.lines ++ b.until.failing ∷ []) b.end quotas stands known b.tenants counted b.drawn };
        told = appends-more out out' last (audit s.table b.end.history) (all_stands_lines b.end.opened) b.told
            (subst (λ os. Appends out' last (all_stands_lines os)) b.opened told);
        handed = record { many = b.many; fewer = b.few; handed = b.handed };
      }

-- after a send that failed, writing the pending calls can stop
pub broken-stops : (s : Script) (cs : List RunConnection) (quotas : Counters) (out out' last wire wire' : Option (List ℕ)) → HasBroken s cs quotas out out' wire wire'
    → IsPrefixWritten out' last (all_stands_lines (map open_connection_of cs)) → IsStoppedRun s out last wire wire'
broken-stops s cs quotas out out' last wire wire' b some =
    let before : ScriptState = b.until.before in
    let piece : History = map (event_on b.until.one.conn) b.until.goes.piece in
    let tells : TellsBehind out last (audit s.table b.end.history) (all_stands_lines b.end.opened) =
    tells-behind out out' last (audit s.table b.end.history) (all_stands_lines b.end.opened) b.told (subst (λ os. IsPrefixWritten out' last (all_stands_lines os)) b.opened some) in
    let long : length (audit s.table b.end.history) ≡ length (audit s.table before.history ++ audit s.table piece) =
    ap length (ap (audit s.table) b.until.goes.history ∙ flat_map-append (audit_line s.table) before.history piece) in
    let least : length (audit s.table b.end.history) ≤ tells.many = tells.least in
    stops_behind b.end b.tried b.until (record {
      many = tells.many;
      least = omega (arith, length-append (audit s.table before.history) (audit s.table piece), long, least);
      most = tells.most;
      told = tells.told;
    }) (record { many = b.many; fewer = b.few; handed = b.handed })

-- ---- the results of the lines

abbrev IsNoSending : Result (Unit {0}) ReplayError → Type 0
IsNoSending result = (result ≡ Err Memory) ⊎ (result ≡ Err Out)

pub of-stopped : (result : Result (Unit {0}) ReplayError) (Done Broken Stopped : Type 0) → OnRan result Done Broken Stopped Stopped → IsNoSending result → Stopped
of-stopped (Ok value) Done Broken Stopped ran either = absurd (elim (either) [ inl e ↦ (cc) | inr e ↦ (cc) ])
of-stopped (Err Wire) Done Broken Stopped ran either = absurd (elim (either) [ inl e ↦ (cc) | inr e ↦ (cc) ])
of-stopped (Err Memory) Done Broken Stopped ran either = ran
of-stopped (Err Out) Done Broken Stopped ran either = ran

-- the pending calls were written, and the quotas knew their tickets
pub of-done : (result : Result (Unit {0}) ReplayError) (Lines Counted Ends : Type 0) → OnOk result Lines → OnOk result Counted → (Lines → Counted → Ends) → OnOk result Ends
of-done (Ok value) Lines Counted Ends lines counted ends = ends lines counted
of-done (Err stop) Lines Counted Ends lines counted ends = tt

-- writing them stopped
pub of-untold : (result : Result (Unit {0}) ReplayError) (Told : Type 0) → OnErr result Told → IsNoSending result → Told
of-untold (Ok value) Told told either = absurd (elim (either) [ inl e ↦ (cc) | inr e ↦ (cc) ])
of-untold (Err stop) Told told either = told
