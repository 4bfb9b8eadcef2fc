-- A script leads to one state, in full and up to a send that fails after a given number of sends.
use Rattle.std.proofs.Common.{◌≡◌, ◌≢◌, ℕ, List, [], ◌∷◌, ◌++◌, map}
use Rattle.std.proofs.Common.{reverse, refl, sym, ap, ◌∙◌, subst, append_assoc, append-nil}
use Rattle.std.proofs.lemmas.List.{reverse-append, reverse-reverse}
use Rattle.std.specs.List.{AllByRecursion}
use Rattle.replay_script.specs.Lines.{AreAllowed, IsScript}
use Rattle.replay_script.specs.declared.script.ScriptLine.{ScriptLine}
use Rattle.replay_script.specs.declared.script.ScriptLine.TheVariants as line
use Rattle.replay_script.specs.declared.script.Script.{Script}
use Rattle.call_history.specs.Trace.{Trace}
use Rattle.call_history.specs.Legal.{History, trace_of}
use Rattle.call_history.specs.Tickets.{tickets_of_trace}
use Rattle.replay_run.specs.Consistency.{IsConsistentOn}
use Rattle.call_history.specs.declared.happening.Happening.{Happening}
use Rattle.replay_run.specs.Follows.{OpenConnection, ScriptState, start, new_connection, IsLineEffect, IsLineStep, IsScriptStep, opens, advances, event_on, IsStateAfter, Follows}
use Rattle.replay_run.specs.Tickets.{AreConsecutive, tickets}
use Rattle.replay_run.proofs.Counting.{CountsFrom, counts-front, counts-range}
use Rattle.replay_run.proofs.GivenLaws.{HistoryLaws}
use Rattle.replay_run.proofs.Lines.{AreApart}
use Rattle.replay_run.proofs.NextTicket.{IsInTurn}
use Rattle.replay_run.proofs.OneLaws.{OneLaws}
use Rattle.replay_run.proofs.OneLine.{does-alike, does-by}
use Rattle.replay_run.proofs.Pieces.{append-cancel, tickets-further, tickets-more}
use Rattle.replay_run.proofs.Sound.{Stands, behind-own, one-course, sound-at, start-stands, step-stands}

-- ---- lists

pub piece-alike : (past : Trace) (xs ys : List Happening) → reverse xs ++ past ≡ reverse ys ++ past → xs ≡ ys
piece-alike past xs ys is =
    let turned-x : reverse (reverse xs ++ past) ≡ reverse past ++ xs = reverse-append (reverse xs) past ∙ ap (λ zs. reverse past ++ zs) (reverse-reverse xs) in
    let turned-y : reverse (reverse ys ++ past) ≡ reverse past ++ ys = reverse-append (reverse ys) past ∙ ap (λ zs. reverse past ++ zs) (reverse-reverse ys) in
    append-cancel (reverse past) xs ys (sym turned-x ∙ ap reverse is ∙ turned-y)

abbrev pub conns : List OpenConnection → List ℕ
conns os = map (λ o. o.conn) os

among : (P : ℕ → Type 0) (front back : List OpenConnection) (o : OpenConnection) → AllByRecursion P (conns (front ++ o ∷ back)) → P o.conn
among P [] back o each = each.0
among P (x ∷ front) back o each = among P front back o each.1

-- connections with one number among others
pub record AreOne (a b : List OpenConnection) (c d : List OpenConnection) (x y : OpenConnection) : Type 0 where
  pub front : a ≡ b
  pub here : x ≡ y
  pub back : c ≡ d

pub one-place : (front other : List OpenConnection) (x y : OpenConnection) (back behind_it : List OpenConnection) → front ++ x ∷ back ≡ other ++ y ∷ behind_it → AreApart (conns (front ++ x ∷ back))
    → x.conn ≡ y.conn → AreOne front other back behind_it x y
one-place [] [] x y back behind_it is apart same = record { front = refl; here = cc; back = cc }
one-place [] (z ∷ other) x y back behind_it is apart same =
    let rest : back ≡ other ++ y ∷ behind_it = cc in
    absurd (among (λ n. n ≢ x.conn) other behind_it y (subst (λ os. AllByRecursion (λ n. n ≢ x.conn) (conns os)) rest apart.0) (sym same))
one-place (w ∷ front) [] x y back behind_it is apart same =
    let first : w ≡ y = cc in
    absurd (among (λ n. n ≢ w.conn) front back x apart.0 (same ∙ ap (λ (o : OpenConnection). o.conn) (sym first)))
one-place (w ∷ front) (z ∷ other) x y back behind_it is apart same =
    let first : w ≡ z = cc in
    let rest = one-place front other x y back behind_it (cc) apart.1 same in
    record { front = ap (λ ws. w ∷ ws) rest.front ∙ ap (λ v. v ∷ other) first; here = rest.here; back = rest.back }

-- ---- tickets

abbrev pub AreCounted : History → Type 0
AreCounted h = (tenant window : ℕ) → CountsFrom 0 (tickets tenant window h)

pub counted-in-turn : (h : History) → AreConsecutive h → AreCounted h
counted-in-turn h turn tenant window = counts-range 0 (tickets tenant window h) (turn tenant window)

-- ---- one step

-- what a step adds to the events
pub record Grows (old new : History) : Type 0 where
  pub more : History
  pub is : new ≡ old ++ more

-- a connection was opened
abbrev opened_by : ScriptState → (conn words : ℕ) → ScriptState
opened_by old conn words = record { opened = old.opened ++ new_connection conn words ∷ []; history = old.history }

module _ (laws : OneLaws) (s : Script) where
  abbrev h-laws : HistoryLaws
  h-laws = laws.history

  pub counted-before : (h k : History) → AreCounted (h ++ k) → AreCounted h
  counted-before h k counted tenant window =
      counts-front 0 (tickets tenant window h) _ (subst (CountsFrom 0) (tickets-further h-laws tenant window h k) (counted tenant window))

  step-grows : (old : ScriptState) (l : ScriptLine) (new : ScriptState) → IsScriptStep s old l new → Grows old.history new.history
  step-grows old l new (opens conn words is makes) = record { more = []; is = ap (λ (st : ScriptState). st.history) makes ∙ sym (append-nil old.history) }
  step-grows old l new (advances one other on does goes) = record { more = map (event_on one.conn) goes.piece; is = goes.history }

  pub leads-grow : (old : ScriptState) (lines : List ScriptLine) (new : ScriptState) → IsStateAfter s old lines new → Grows old.history new.history
  leads-grow old [] new same = record { more = []; is = ap (λ (st : ScriptState). st.history) same ∙ sym (append-nil old.history) }
  leads-grow old (l ∷ lines) new leads =
      let first = step-grows old l leads.0 leads.1 in
      let rest = leads-grow leads.0 lines new leads.2 in
      record { more = first.more ++ rest.more; is = rest.is ∙ ap (λ h. h ++ rest.more) first.is ∙ append_assoc old.history first.more rest.more }

  -- the events added on one connection have tickets in turn after those of all before
  pub goes-in-turn : (before : List ScriptLine) (old new : ScriptState) (one other : OpenConnection) → Stands h-laws s before old → IsLineStep old one other new → AreCounted new.history
      → IsInTurn (λ tenant window. tickets tenant window old.history) one.course.past other.course.past
  goes-in-turn before old new one other stands goes counted = record {
    counts = λ tenant window t.
        let here : one.course.past ≡ trace_of one.conn old.history =
        (sound-at h-laws s old.history goes.front goes.back one (subst (λ os. AllByRecursion (IsConsistentOn s old.history) os) goes.before stands.each)).past in
        let now : other.course.past ≡ trace_of one.conn (old.history ++ map (event_on one.conn) goes.piece) =
        goes.past ∙ ap (λ p. reverse goes.piece ++ p) here ∙ sym (behind-own h-laws s one.conn old.history goes.piece) in
        let more = tickets-more h-laws tenant window one.conn old.history goes.piece t.more
        (subst (λ p. tickets_of_trace tenant window p ≡ tickets_of_trace tenant window (trace_of one.conn old.history) ++ t.more) now
        (subst (λ p. tickets_of_trace tenant window other.course.past ≡ tickets_of_trace tenant window p ++ t.more) here t.is)) in
        subst (CountsFrom 0) (ap (tickets tenant window) goes.history ∙ more) (counted tenant window);
  }

  -- which connection advances
  pub goes-alike : (before : List ScriptLine) (old new last : ScriptState) (one other two another : OpenConnection) → Stands h-laws s before old → IsLineStep old one other new → IsLineStep old two another last
      → one.conn ≡ two.conn → one ≡ two
  goes-alike before old new last one other two another stands first second same =
      (one-place first.front second.front one two first.back second.back (sym first.before ∙ second.before)
      (subst AreApart (sym (ap conns (sym first.before) ∙ stands.are)) stands.apart) same).here

  goes-together : (before : List ScriptLine) (old new last : ScriptState) (one other another : OpenConnection)
      → Stands h-laws s before old → IsLineStep old one other new → IsLineStep old one another last → other ≡ another
      → new ≡ last
  goes-together before old new last one other another stands first second same =
      let place = one-place first.front second.front one one first.back second.back (sym first.before ∙ second.before)
      (subst AreApart (sym (ap conns (sym first.before) ∙ stands.are)) stands.apart) refl in
      let piece : first.piece ≡ second.piece =
      piece-alike one.course.past first.piece second.piece (sym first.past ∙ ap (λ (o : OpenConnection). o.course.past) same ∙ second.past) in
      let opened : new.opened ≡ last.opened = first.after ∙ ap (λ os. os ++ other ∷ first.back) place.front ∙ ap (λ (o : OpenConnection). second.front ++ o ∷ first.back) same
      ∙ ap (λ os. second.front ++ another ∷ os) place.back ∙ sym second.after in
      let history : new.history ≡ last.history = first.history ∙ ap (λ xs. old.history ++ map (event_on one.conn) xs) piece ∙ sym second.history in
      λ i. record { opened = opened i; history = history i }

  pub together : (before : List ScriptLine) (old new last : ScriptState) (one other two another : OpenConnection)
      → Stands h-laws s before old → IsLineStep old one other new → IsLineStep old two another last → one ≡ two
      → other ≡ another → new ≡ last
  together before old new last one other two another stands first second same ends =
      goes-together before old new last one other another stands first (subst (λ (o : OpenConnection). IsLineStep old o another last) (sym same) second) ends

  step-alike : (before : List ScriptLine) (l : ScriptLine) (old x y : ScriptState) → Stands h-laws s before old → IsScriptStep s old l x
      → IsScriptStep s old l y → AreCounted x.history → AreCounted y.history → x ≡ y
  step-alike before l old x y stands (opens conn words is makes) (opens other many is_too makes_too) counted counted_too =
      let same : line.Conn conn words ≡ line.Conn other many = sym is ∙ is_too in
      let number : conn ≡ other = cc in
      let words_same : words ≡ many = cc in
      makes ∙ ap (λ n. opened_by old n words) number ∙ ap (λ n. opened_by old other n) words_same ∙ sym makes_too
  step-alike before l old x y stands (opens conn words is makes) (advances one other on does goes) counted counted_too =
      absurd (does-by s (line.Conn conn words) one other (subst (λ k. IsLineEffect s k one other) is does))
  step-alike before l old x y stands (advances one other on does goes) (opens conn words is makes) counted counted_too =
      absurd (does-by s (line.Conn conn words) one other (subst (λ k. IsLineEffect s k one other) is does))
  step-alike before l old x y stands (advances one other on does goes) (advances two another on_too does_too goes_too) counted counted_too =
      let same : one ≡ two = goes-alike before old x y one other two another stands goes goes_too (sym on ∙ on_too) in
      let goes_so : IsLineStep old one another y = subst (λ (o : OpenConnection). IsLineStep old o another y) (sym same) goes_too in
      let ends : other ≡ another = does-alike laws s (λ tenant window. tickets tenant window old.history) one (one-course h-laws s before old x one other stands goes) l other another
      does (subst (λ (o : OpenConnection). IsLineEffect s l o another) (sym same) does_too)
      (goes-in-turn before old x one other stands goes counted) (goes-in-turn before old y one another stands goes_so counted_too) in
      goes-together before old x y one other another stands goes goes_so ends

  -- ---- all lines

  pub leads-alike : (before lines : List ScriptLine) (old x y : ScriptState) → AreAllowed s.loads s.declared.policies before lines
      → Stands h-laws s before old → IsStateAfter s old lines x → IsStateAfter s old lines y
      → AreCounted x.history → AreCounted y.history → x ≡ y
  leads-alike before [] old x y allowed stands first second counted counted_too = first ∙ sym second
  leads-alike before (l ∷ lines) old x y allowed stands first second counted counted_too =
      let rest = leads-grow first.0 lines x first.2 in
      let others = leads-grow second.0 lines y second.2 in
      let next : first.0 ≡ second.0 = step-alike before l old first.0 second.0 stands first.1 second.1
      (counted-before first.0.history rest.more (subst AreCounted rest.is counted)) (counted-before second.0.history others.more (subst AreCounted others.is counted_too)) in
      leads-alike (before ++ l ∷ []) lines first.0 x y allowed.1 (step-stands h-laws s before l old first.0 allowed.0 stands first.1) first.2
      (subst (λ (st : ScriptState). IsStateAfter s st lines y) (sym next) second.2) counted counted_too

  pub whole-alike : (x y : ScriptState) → IsScript s → Follows s x → Follows s y → x ≡ y
  whole-alike x y script first second =
      leads-alike [] s.lines start x y script.lines (start-stands h-laws s) first.leads second.leads (counted-in-turn x.history first.in_turn) (counted-in-turn y.history second.in_turn)
