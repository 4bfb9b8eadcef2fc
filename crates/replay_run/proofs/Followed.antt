-- What follows from a script, in full or up to a send that fails, is legal, and its connections are consistent with it.
use Rattle.std.proofs.Common.{◌≡◌, ℕ, Bool, true, false, List, [], ◌∷◌, ◌++◌, ◌⊎◌, inl, inr, length, map, refl, sym, ap, ◌∙◌, subst}
use Rattle.std.specs.Prelude.{Some}
use Rattle.std.proofs.lemmas.Bool.Decides.{eqb_tells}
use Rattle.replay_script.specs.Lines.{AreAllowed, IsScript}
use Rattle.replay_script.specs.declared.script.ScriptLine.{ScriptLine}
use Rattle.replay_script.specs.declared.script.Script.{Script}
use Rattle.policy_declarations.specs.declared.declaration.NamedPolicy.{NamedPolicy}
use Rattle.call_history.specs.Trace.{chain}
use Rattle.call_history.specs.Transitions.{ConnState, IsValidState, IsReady, fails, is_sent, sends}
use Rattle.call_history.specs.Loads.{AreSpelled}
use Rattle.engine_core.specs.Moves.{first_at, without_call}
use Rattle.mrpc_table.specs.declared.call.Call.{Call}
use Rattle.call_history.specs.Legal.{History, IsLegal, IsLegalTrace, trace_of}
use Rattle.call_history.specs.Rules.{JudgeContext}
use Rattle.call_history.specs.declared.happening.Happening.TheVariants.{Sent}
use Rattle.replay_run.specs.Follows.{OpenConnection, ScriptState, start, script_context, Follows, IsRunToFailedSend, IsSendFailure, CanSendAt, by_send, by_drain, IsStateAfter}
use Rattle.replay_run.specs.Consistency.{IsAllowed}
use Rattle.replay_run.proofs.GivenLaws.{HistoryLaws}
use Rattle.replay_run.proofs.Lines.{openings, Lacks}
use Rattle.replay_run.proofs.Spelled.{event-spells}
use Rattle.replay_run.proofs.Sound.{IsNext, Stands, AreSound, start-stands, leads-stand, goes-stand, gets-next, one-course, one-spelled}

pub allowed-front : (loads : ℕ) (policies : List NamedPolicy) (before lines rest : List ScriptLine)
    → AreAllowed loads policies before (lines ++ rest) → AreAllowed loads policies before lines
allowed-front loads policies before [] rest allowed = tt
allowed-front loads policies before (l ∷ lines) rest allowed = (allowed.0, allowed-front loads policies (before ++ l ∷ []) lines rest allowed.1)

module _ (laws : HistoryLaws) (s : Script) (script : IsScript s) where
  pub front-stands : (lines rest : List ScriptLine) (end : ScriptState) → s.lines ≡ lines ++ rest → IsStateAfter s start lines end → Stands laws s lines end
  front-stands lines rest end order leads =
      leads-stand laws s [] lines start end
      (allowed-front s.loads s.declared.policies [] lines rest (subst (AreAllowed s.loads s.declared.policies []) order script.lines))
      (start-stands laws s) leads

  -- ---- a send that fails

  gets-opens-none : (l : ScriptLine) (old : OpenConnection) (c : ConnState) → CanSendAt s l old c → openings (l ∷ []) ≡ []
  gets-opens-none l old c (by_send is same) = ap (λ k. openings (k ∷ [])) is
  gets-opens-none l old c (by_drain is begins) = ap (λ k. openings (k ∷ [])) is

  fails-next : (l : ScriptLine) (old new : OpenConnection) (tried : Call) → IsValidState (script_context s old.conn) old.course
      → AreSpelled s.table old.words s.loads old.course.past old.loads → IsSendFailure s l old tried new → IsNext s old new
  fails-next l old new tried course spelled failing =
      let reached = gets-next laws s l old failing.at course spelled failing.gets in
      subst (IsNext s old) (sym failing.same) (record {
        conn = refl;
        course = laws.event (script_context s old.conn) failing.at new.course fails reached.course failing.refused;
        spelled = event-spells s.table old.words s.loads (script_context s old.conn) failing.at fails new.course old.loads (λ call e. cc) failing.refused reached.spelled;
        words = refl;
      })

  pub until-stands : (tried : Call) (end : ScriptState) (f : IsRunToFailedSend s tried end) → Stands laws s (f.lines ++ f.failing ∷ []) end
  until-stands tried end f =
      let before : Stands laws s f.lines f.before = front-stands f.lines (f.failing ∷ f.behind) f.before f.order f.leads in
      goes-stand laws s f.lines f.failing f.before end f.one f.other (gets-opens-none f.failing f.one f.fails.at f.fails.gets) before f.goes
      (fails-next f.failing f.one f.other tried (one-course laws s f.lines f.before end f.one f.other before f.goes)
      (one-spelled laws s f.lines f.before end f.one f.other before f.goes) f.fails)

  pub whole-stands : (end : ScriptState) → Follows s end → Stands laws s s.lines end
  whole-stands end f = leads-stand laws s [] s.lines start end script.lines (start-stands laws s) f.leads

  -- ---- what is known then

  legal-or-lacks : (conn : ℕ) (h : History) (os : List OpenConnection) → AreSound laws s h os → IsLegalTrace (script_context s conn) (trace_of conn h) ⊎ Lacks conn (map (λ o. o.conn) os)
  legal-or-lacks conn h [] each = inr tt
  legal-or-lacks conn h (o ∷ os) each = elim (eqb_tells o.conn conn) [
    | inl is ↦ inl (subst (λ c. IsLegalTrace (script_context s c) (trace_of c h)) is.1 (subst (IsLegalTrace (script_context s o.conn)) each.0.past each.0.course.legal))
    | inr is ↦ elim (legal-or-lacks conn h os each.1) [ inl legal ↦ inl legal | inr lacks ↦ inr (is.1, lacks) ]
  ]

  pub legal-of : (before : List ScriptLine) (st : ScriptState) → Stands laws s before st → IsLegal s.table s.loads st.history
  legal-of before st stands conn = elim (legal-or-lacks conn st.history st.opened stands.each) [
    | inl legal ↦ legal
    | inr lacks ↦ subst (IsLegalTrace (script_context s conn)) (sym (stands.quiet conn (subst (Lacks conn) stands.are lacks))) (laws.begins (script_context s conn)).legal
  ]

  -- a ready call would be sent, so every entry lets it pass
  running : (u : JudgeContext) (c : ConnState) (seq bytes : ℕ) (ended : Bool) → c.ended ≡ ended → IsValidState u c → IsReady u c seq bytes → c.ended ≡ false
  running u c seq bytes false is course ready = is
  running u c seq bytes true is course ready =
      let empty : c.row ≡ [] = course.none_left is in
      let end : ℕ = length (chain c.past).entries in
      let none : first_at end [] ≡ Some (seq, end) = ap (first_at end) (sym empty) ∙ ready.first in cc

  pub ready-allowed : (u : JudgeContext) (c : ConnState) (seq bytes : ℕ) → IsValidState u c → IsReady u c seq bytes → IsAllowed u c seq
  ready-allowed u c seq bytes course ready =
      let sent = laws.event u c (record c { past = Sent seq bytes ∷ c.past; row = without_call seq c.row }) (sends seq bytes) course
      (is_sent seq bytes refl (running u c seq bytes c.ended refl course ready) ready refl) in
      sent.legal.prefix.1.in_order.allowed

  pub tried-allowed : (tried : Call) (end : ScriptState) (f : IsRunToFailedSend s tried end) → IsAllowed (script_context s f.one.conn) f.fails.at f.fails.seq
  tried-allowed tried end f =
      let before : Stands laws s f.lines f.before = front-stands f.lines (f.failing ∷ f.behind) f.before f.order f.leads in
      let reached = gets-next laws s f.failing f.one f.fails.at
      (one-course laws s f.lines f.before end f.one f.other before f.goes)
      (one-spelled laws s f.lines f.before end f.one f.other before f.goes) f.fails.gets in
      ready-allowed (script_context s f.one.conn) f.fails.at f.fails.seq f.fails.bytes reached.course f.fails.ready
