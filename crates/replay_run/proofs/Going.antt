-- What is known after some lines of a script, with the heaps, the chains and the calls after them.
use Rattle.std.proofs.Common.{◌≡◌, ◌≢◌, ℕ, List, [], ◌∷◌, ◌++◌, refl, sym, ap, ◌∙◌, subst, append-nil, append_assoc, arith}
use Rattle.std.specs.Prelude.{None}
use Rattle.std.specs.List.{AllByRecursion}
use Rattle.replay_script.specs.Lines.{heap_of, conn_of, AreAllowed, IsAllowedAfter, IsScript}
use Rattle.replay_script.specs.declared.script.ScriptLine.{ScriptLine}
use Rattle.replay_script.specs.declared.script.ScriptLine.TheVariants as line
use Rattle.replay_script.specs.declared.script.Script.{Script}
use Rattle.replay_run.specs.Follows.{OpenConnection, ScriptState, start, new_connection, IsLineEffect, IsLineStep, IsScriptStep, opens, advances, IsStateAfter}
use Rattle.replay_run.proofs.Built.{AreBuilt, AreNew, IsBuilt, built-one, built-other, does-keeps, does-moves, heap-opened, new-more, opened-new}
use Rattle.replay_run.proofs.Followed.{allowed-front}
use Rattle.replay_run.proofs.GivenLaws.{HistoryLaws}
use Rattle.replay_run.proofs.Lines.{AreApart, lacks-unopened, unopened}
use Rattle.replay_run.proofs.Sound.{Stands, middle, numbers, start-stands, step-stands}

-- one more line
pub leads-more : (s : Script) (lines : List ScriptLine) (l : ScriptLine) (old mid new : ScriptState) → IsStateAfter s old lines mid → IsScriptStep s mid l new → IsStateAfter s old (lines ++ l ∷ []) new
leads-more s [] l old mid new same step = (new, subst (λ st. IsScriptStep s st l new) same step, refl)
leads-more s (k ∷ lines) l old mid new leads step = (leads.0, leads.1, leads-more s lines l leads.0 mid new leads.2 step)

module _ (laws : HistoryLaws) (s : Script) where
  pub record IsKnown (before : List ScriptLine) (st : ScriptState) : Type 0 where
    pub stands : Stands laws s before st
    pub built : AreBuilt s before st.opened
    pub new : AreNew s.declared.policies before

  built-behind : (before : List ScriptLine) (l : ScriptLine) (os : List OpenConnection)
      → AllByRecursion (λ n. n ≢ conn_of l) (numbers laws s os) → AreBuilt s before os
      → AreBuilt s (before ++ l ∷ []) os
  built-behind before l [] apart built = tt
  built-behind before l (o ∷ os) apart built = (built-other s before l o apart.0 built.0, built-behind before l os apart.1 built.1)

  built-on : (before : List ScriptLine) (l : ScriptLine) (front back : List OpenConnection) (one other : OpenConnection) → conn_of l ≡ one.conn → AreApart (numbers laws s (front ++ one ∷ back))
      → IsBuilt s (before ++ l ∷ []) other → AreBuilt s before (front ++ one ∷ back) → AreBuilt s (before ++ l ∷ []) (front ++ other ∷ back)
  built-on before l [] back one other on apart done built =
      (done, built-behind before l back (subst (λ n. AllByRecursion (λ m. m ≢ n) (numbers laws s back)) (sym on) apart.0) built.1)
  built-on before l (x ∷ front) back one other on apart done built = (
    built-other s before l x (λ same. middle laws s (λ n. n ≢ x.conn) front back one apart.0 (sym (same ∙ on))) built.0,
    built-on before l front back one other on apart.1 done built.1,
  )

  pub built-at : (before : List ScriptLine) (front back : List OpenConnection) (o : OpenConnection) → AreBuilt s before (front ++ o ∷ back) → IsBuilt s before o
  built-at before [] back o built = built.0
  built-at before (x ∷ front) back o built = built-at before front back o built.1

  built-more : (before : List ScriptLine) (l : ScriptLine) (os : List OpenConnection) (o : OpenConnection)
      → AllByRecursion (λ n. n ≢ conn_of l) (numbers laws s os) → AreBuilt s before os
      → IsBuilt s (before ++ l ∷ []) o
      → AreBuilt s (before ++ l ∷ []) (os ++ o ∷ [])
  built-more before l [] o apart built one = (one, tt)
  built-more before l (x ∷ os) o apart built one = (built-other s before l x apart.0 built.0, built-more before l os o apart.1 built.1 one)

  known-goes : (before : List ScriptLine) (l : ScriptLine) (old new : ScriptState) (one other : OpenConnection) → conn_of l ≡ one.conn → IsLineEffect s l one other → IsLineStep old one other new
      → IsKnown before old → AreBuilt s (before ++ l ∷ []) new.opened
  known-goes before l old new one other on does goes known =
      let kept = does-keeps s l one other does in
      let apart : AreApart (numbers laws s (goes.front ++ one ∷ goes.back)) =
      subst AreApart (sym (ap (numbers laws s) (sym goes.before) ∙ known.stands.are)) known.stands.apart in
      let built : AreBuilt s before (goes.front ++ one ∷ goes.back) = subst (AreBuilt s before) goes.before known.built in
      subst (AreBuilt s (before ++ l ∷ [])) (sym goes.after)
      (built-on before l goes.front goes.back one other on apart
      (built-one s before l one other on kept.0 kept.1 (does-moves s l one other does) (built-at before goes.front goes.back one built)) built)

  known-opens : (before : List ScriptLine) (old : ScriptState) (conn words : ℕ) → IsAllowedAfter s.loads s.declared.policies before (line.Conn conn words) → IsKnown before old
      → AreBuilt s (before ++ line.Conn conn words ∷ []) (old.opened ++ new_connection conn words ∷ [])
  known-opens before old conn words allows known =
      let l : ScriptLine = line.Conn conn words in
      let none : heap_of before conn ≡ None = unopened s.loads s.declared.policies before conn words _ refl allows in
      let lacks : AllByRecursion (λ n. n ≢ conn) (numbers laws s old.opened) =
      subst (AllByRecursion (λ n. n ≢ conn)) (sym known.stands.are) (lacks-unopened before conn none) in
      built-more before l old.opened (new_connection conn words) lacks known.built (record {
        heap = heap-opened before conn words none;
        chain_is = sym (opened-new s.declared.policies before conn words ∙ known.new conn none);
        few = omega arith;
      })

  pub step-known : (before : List ScriptLine) (l : ScriptLine) (old new : ScriptState) → IsAllowedAfter s.loads s.declared.policies before l
      → IsKnown before old → IsScriptStep s old l new → IsKnown (before ++ l ∷ []) new
  step-known before l old new allows known (opens conn words is makes) = record {
    stands = step-stands laws s before l old new allows known.stands (opens conn words is makes);
    built = subst (λ k. AreBuilt s (before ++ k ∷ []) new.opened) (sym is) (subst (λ (st : ScriptState). AreBuilt s (before ++ line.Conn conn words ∷ []) st.opened) (sym makes)
        (known-opens before old conn words (subst (IsAllowedAfter s.loads s.declared.policies before) is allows) known));
    new = new-more s.loads s.declared.policies before l allows known.new;
  }
  step-known before l old new allows known (advances one other on does goes) = record {
    stands = step-stands laws s before l old new allows known.stands (advances one other on does goes);
    built = known-goes before l old new one other on does goes known;
    new = new-more s.loads s.declared.policies before l allows known.new;
  }

  pub leads-known : (before lines : List ScriptLine) (old new : ScriptState) → AreAllowed s.loads s.declared.policies before lines
      → IsKnown before old → IsStateAfter s old lines new → IsKnown (before ++ lines) new
  leads-known before [] old new allowed known same = subst (λ ls. IsKnown ls new) (sym (append-nil before)) (subst (IsKnown before) (sym same) known)
  leads-known before (l ∷ lines) old new allowed known leads =
      subst (λ ls. IsKnown ls new) (append_assoc before (l ∷ []) lines)
      (leads-known (before ++ l ∷ []) lines leads.0 new allowed.1 (step-known before l old leads.0 allowed.0 known leads.1) leads.2)

  pub start-known : IsKnown [] start
  start-known = record { stands = start-stands laws s; built = tt; new = λ conn none. refl }

  pub front-known : (lines rest : List ScriptLine) (end : ScriptState) → IsScript s → s.lines ≡ lines ++ rest → IsStateAfter s start lines end → IsKnown lines end
  front-known lines rest end script order leads =
      leads-known [] lines start end
      (allowed-front s.loads s.declared.policies [] lines rest (subst (AreAllowed s.loads s.declared.policies []) order script.lines))
      start-known leads

  -- the line after them is legal there
  allowed-behind : (before lines : List ScriptLine) (l : ScriptLine) (rest : List ScriptLine)
      → AreAllowed s.loads s.declared.policies before (lines ++ l ∷ rest)
      → IsAllowedAfter s.loads s.declared.policies (before ++ lines) l
  allowed-behind before [] l rest allowed = subst (λ ls. IsAllowedAfter s.loads s.declared.policies ls l) (sym (append-nil before)) allowed.0
  allowed-behind before (k ∷ lines) l rest allowed =
      subst (λ ls. IsAllowedAfter s.loads s.declared.policies ls l) (append_assoc before (k ∷ []) lines) (allowed-behind (before ++ k ∷ []) lines l rest allowed.1)

  pub line-allowed : (lines : List ScriptLine) (l : ScriptLine) (rest : List ScriptLine) → IsScript s → s.lines ≡ lines ++ l ∷ rest → IsAllowedAfter s.loads s.declared.policies lines l
  line-allowed lines l rest script order = allowed-behind [] lines l rest (subst (AreAllowed s.loads s.declared.policies []) order script.lines)
