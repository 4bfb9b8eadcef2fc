-- If the first call at a position is held, it stays held whatever entries at later positions do.
use Rattle.std.proofs.Common.{◌≡◌, ◌≢◌, ℕ, ◌+◌, ◌<◌, ◌≤◌, zero, suc, Bool, true, false, ◌==◌, cond, not, List, []}
use Rattle.std.proofs.Common.{◌∷◌, length, refl, sym, ap, ◌∙◌, subst, arith}
use Rattle.std.specs.Prelude.{Contains, Option, Some, slice_get}
use Rattle.std.proofs.lemmas.Bool.{ne_eqb, eqb-true}
use Rattle.mrpc_table.specs.Valid.{AreDistinct}
use Rattle.engine_core.specs.Answers.{Past}
use Rattle.engine_core.specs.Chains.{Entry, names_of}
use Rattle.engine_core.specs.Moves.{Row, first_at, advanced, without_call}
use Rattle.engine_core.specs.Turns.{IsTurnOutcome}
use Rattle.engine_core.specs.declared.outcome.Noted.{Noted}
use Rattle.engine_core.specs.declared.outcome.Noted.TheVariants as notes
use Rattle.engine_core.specs.declared.outcome.Outcome.{Outcome}
use Rattle.engine_core.specs.declared.outcome.Outcome.TheVariants.{Passed, Held, Refused, Redacted}
use Rattle.call_history.specs.Trace.{Trace, chain, taken, form, level_in_trace, timestamp, noted}
use Rattle.call_history.specs.Draining.{IsFinalOutcome}
use Rattle.call_history.specs.Transitions.{ConnState, IsEntryTurn, with_note, trace_after_turn}
use Rattle.call_history.specs.Rules.{JudgeContext}
use Rattle.call_history.specs.declared.happening.Happening.TheVariants.{Sent}
use Rattle.call_history.proofs.Chained.{cut, contains-in, named-there}
use Rattle.call_history.proofs.Further.{found}
use Rattle.call_history.proofs.GoingOn.{level-charged_other}
use Rattle.call_history.proofs.Holding.{Holds}
use Rattle.call_history.proofs.Noting.{charge-note, draw-note, count-note, noted-name}
use Rattle.call_history.proofs.Prefixes.{StaysChain, chained}
use Rattle.call_history.proofs.Rowed.{IsRow}

-- ---- a settled position

-- the entry at a position holds the call
pub record IsHeldAt (u : JudgeContext) (c : ConnState) (position seq : ℕ) : Type 0 where
  pub level : ℕ
  pub cost : ℕ
  pub entry : Entry
  pub turn : IsEntryTurn u c position seq (Held level cost) entry

-- the first call at a position, if there is one, is held there
pub record AtRest (u : JudgeContext) (c : ConnState) (position : ℕ) : Type 0 where
  pub held : (seq : ℕ) → first_at position c.row ≡ Some (seq, position) → IsHeldAt u c position seq

-- ---- a turn of an entry with another name doesn't affect an entry

pub record IsBeside (past new : Trace) (name : List ℕ) : Type 0 where
  pub entries : (chain new).entries ≡ (chain past).entries
  pub forms : (conn s : ℕ) → form conn s new ≡ form conn s past
  pub moments : timestamp new ≡ timestamp past
  pub levels : (other : List ℕ) → name ≢ other → level_in_trace other new ≡ level_in_trace other past
  pub notes : (other : List ℕ) (s : ℕ) → name ≢ other → noted other s new ≡ noted other s past

beside-none : (past : Trace) (name : List ℕ) → IsBeside past past name
beside-none past name = record { entries = refl; forms = λ conn s. refl; moments = refl; levels = λ other apart. refl; notes = λ other s apart. refl }

beside-note : (past : Trace) (name : List ℕ) (seq : ℕ) (n : Noted) → IsBeside past (with_note name seq n past) name
beside-note past name seq notes.Nothing = beside-none past name
beside-note past name seq (notes.Charged left) = record {
  entries = refl;
  forms = λ conn s. refl;
  moments = refl;
  levels = λ other. level-charged_other past seq left name other;
  notes = λ other s. noted-name past (with_note name seq (notes.Charged left) past) seq s name other (notes.Charged left) (charge-note past seq name left);
}
beside-note past name seq (notes.Drawn window ticket) = record {
  entries = refl;
  forms = λ conn s. refl;
  moments = refl;
  levels = λ other apart. refl;
  notes = λ other s. noted-name past (with_note name seq (notes.Drawn window ticket) past) seq s name other (notes.Drawn window ticket) (draw-note past seq name window ticket);
}
beside-note past name seq notes.Counted = record {
  entries = refl;
  forms = λ conn s. refl;
  moments = refl;
  levels = λ other apart. refl;
  notes = λ other s. noted-name past (with_note name seq notes.Counted past) seq s name other notes.Counted (count-note past seq name);
}

-- a turn that is final for its call
beside-turn : (c : ConnState) (seq : ℕ) (outcome : Outcome) (e : Entry) → IsFinalOutcome outcome → IsBeside c.past (trace_after_turn e seq outcome c).past e.name
beside-turn c seq (Passed n) e done = beside-note c.past e.name seq n
beside-turn c seq (Held left cost) e done = absurd done
beside-turn c seq (Refused n why) e done =
    let h = beside-note c.past e.name seq n in record { entries = h.entries; forms = h.forms; moments = h.moments; levels = h.levels; notes = h.notes }
beside-turn c seq Redacted e done = absurd done

-- ---- the same turn

-- what a turn of an entry with a call depends on
record IsSeenAlike (u : JudgeContext) (c d : ConnState) (position seq : ℕ) (name : List ℕ) : Type 0 where
  entries : (chain d.past).entries ≡ (chain c.past).entries
  row : first_at position d.row ≡ first_at position c.row
  forms : form u.conn seq d.past ≡ form u.conn seq c.past
  moments : timestamp d.past ≡ timestamp c.past
  levels : level_in_trace name d.past ≡ level_in_trace name c.past
  notes : noted name seq d.past ≡ noted name seq c.past

turn-again : (u : JudgeContext) (c d : ConnState) (position seq : ℕ) (outcome : Outcome) (e : Entry) → IsSeenAlike u c d position seq e.name → IsEntryTurn u c position seq outcome e
    → IsEntryTurn u d position seq outcome e
turn-again u c d position seq outcome e same turn = record {
  entry = ap (λ (es : List Entry). slice_get es position) same.entries ∙ turn.entry;
  first = same.row ∙ turn.first;
  call = turn.call;
  is_form = same.forms ∙ turn.is_form;
  comes = subst (λ (l : ℕ). IsTurnOutcome e.policy l (timestamp d.past) turn.call (noted e.name seq d.past) outcome) (sym same.levels)
      (subst (λ (m : ℕ). IsTurnOutcome e.policy (level_in_trace e.name c.past) m turn.call (noted e.name seq d.past) outcome) (sym same.moments)
      (subst (λ (p : Past). IsTurnOutcome e.policy (level_in_trace e.name c.past) (timestamp c.past) turn.call p outcome) (sym same.notes) turn.comes));
}

-- ---- names at two positions

contains-at : (es : List Entry) (place : ℕ) (e : Entry) → slice_get es place ≡ Some e → Contains es e
contains-at es place e at = let there = cut es place e at in contains-in es there.front there.back e there.entries

places-apart : (es : List Entry) (q p : ℕ) (d e : Entry) → AreDistinct (names_of es) → slice_get es q ≡ Some d → slice_get es p ≡ Some e → q < p → e.name ≢ d.name
places-apart [] q p d e apart at_d at_e less same = cc
places-apart (x ∷ es) zero zero d e apart at_d at_e less same = omega (arith, less)
places-apart (x ∷ es) zero (suc p) d e apart at_d at_e less same =
    let is : x ≡ d = cc in
    apart.0 (subst (λ (n : List ℕ). Contains (names_of es) n) (same ∙ ap (λ (y : Entry). y.name) (sym is)) (named-there es e (contains-at es p e at_e)))
places-apart (x ∷ es) (suc q) zero d e apart at_d at_e less same = omega (arith, less)
places-apart (x ∷ es) (suc q) (suc p) d e apart at_d at_e less same = places-apart es q p d e apart.1 at_d at_e (omega (arith, less)) same

-- ---- the first call at another position

-- the call is at a position, if it is in the row
abbrev StandsThere : (seq position : ℕ) → Row → Type 0
StandsThere seq position [] = Unit {0}
StandsThere seq position (x ∷ row) = (x.0 ≡ seq → x.1 ≡ position) × StandsThere seq position row

not-there : (u : JudgeContext) (past : Trace) (below top bound seq position : ℕ) (row : Row) → seq ≤ below → IsRow u past below top bound row → StandsThere seq position row
not-there u past below top bound seq position [] before h = tt
not-there u past below top bound seq position (x ∷ row) before h =
    (λ same. absurd (omega (arith, same, before, h.0.number)), not-there u past x.0 top x.1 seq position row (omega (arith, before, h.0.number)) h.1)

only-there : (u : JudgeContext) (past : Trace) (below top bound seq position : ℕ) (row : Row) → IsRow u past below top bound row → first_at position row ≡ Some (seq, position)
    → StandsThere seq position row
only-there u past below top bound seq position [] h is = tt
only-there u past below top bound seq position (x ∷ row) h is =
    let given : (b : Bool) → (x.1 == position) ≡ b → cond b (Some x) (first_at position row) ≡ Some (seq, position)
    → StandsThere seq position (x ∷ row) = λ b. elim b as (λ b. (x.1 == position) ≡ b
    → cond b (Some x) (first_at position row) ≡ Some (seq, position) → StandsThere seq position (x ∷ row)) [
      | true ↦ λ test first. here (eqb-true x.1 position test) (cc)
      | false ↦ λ test first. later (found u past x.0 top x.1 position row (seq, position) first h.1).placed.number (only-there u past x.0 top x.1 seq position row h.1 first)
    ] in
    given (x.1 == position) refl is
  where
    here : x.1 ≡ position → x ≡ (seq, position) → StandsThere seq position (x ∷ row)
    here at same =
        let number : x.0 ≡ seq = ap (λ (c : ℕ × ℕ). c.0) same in
        (λ own. at, not-there u past x.0 top x.1 seq position row (omega (arith, number)) h.1)

    later : x.0 < seq → StandsThere seq position row → StandsThere seq position (x ∷ row)
    later less rest = (λ same. absurd (omega (arith, same, less)), rest)

first-goes : (seq position q : ℕ) (row : Row) → StandsThere seq position row → position ≢ q → position + 1 ≢ q → first_at q (advanced seq row) ≡ first_at q row
first-goes seq position q [] there apart further = refl
first-goes seq position q (x ∷ row) there apart further =
    let rest : first_at q (advanced seq row) ≡ first_at q row = first-goes seq position q row there.1 apart further in
    let given : (b : Bool) → (x.0 == seq) ≡ b → first_at q ((x.0, cond b (x.1 + 1) x.1) ∷ advanced seq row)
    ≡ first_at q (x ∷ row) = λ b. elim b as (λ b. (x.0 == seq) ≡ b
    → first_at q ((x.0, cond b (x.1 + 1) x.1) ∷ advanced seq row) ≡ first_at q (x ∷ row)) [
      | true ↦ λ test.
          let at : x.1 ≡ position = there.0 (eqb-true x.0 seq test) in
          ap (λ b. cond b (Some (x.0, x.1 + 1)) (first_at q (advanced seq row))) (ne_eqb (x.1 + 1) q (λ same. further (omega (arith, same, at))))
          ∙ rest ∙ ap (λ b. cond b (Some x) (first_at q row)) (sym (ne_eqb x.1 q (λ same. apart (omega (arith, same, at)))))
      | false ↦ λ test. ap (λ (o : Option (ℕ × ℕ)). cond (x.1 == q) (Some x) o) rest
    ] in
    given (x.0 == seq) refl

first-without : (seq position q : ℕ) (row : Row) → StandsThere seq position row → position ≢ q → first_at q (without_call seq row) ≡ first_at q row
first-without seq position q [] there apart = refl
first-without seq position q (x ∷ row) there apart =
    let rest : first_at q (without_call seq row) ≡ first_at q row = first-without seq position q row there.1 apart in
    let given : (b : Bool) → (seq == x.0) ≡ b
    → first_at q (cond (not b) (x ∷ without_call seq row) (without_call seq row)) ≡ first_at q (x ∷ row) =
    λ b. elim b as (λ b. (seq == x.0) ≡ b
    → first_at q (cond (not b) (x ∷ without_call seq row) (without_call seq row)) ≡ first_at q (x ∷ row)) [
      | true ↦ λ test.
          let at : x.1 ≡ position = there.0 (sym (eqb-true seq x.0 test)) in
          rest ∙ ap (λ b. cond b (Some x) (first_at q row)) (sym (ne_eqb x.1 q (λ same. apart (omega (arith, same, at)))))
      | false ↦ λ test. ap (λ (o : Option (ℕ × ℕ)). cond (x.1 == q) (Some x) o) rest
    ] in
    given (seq == x.0) refl

first-turned : (u : JudgeContext) (c : ConnState) (position q seq : ℕ) (outcome : Outcome) (e : Entry) → Holds u c
    → first_at position c.row ≡ Some (seq, position) → q < position → IsFinalOutcome outcome
    → first_at q (trace_after_turn e seq outcome c).row ≡ first_at q c.row
first-turned u c position q seq (Passed n) e h first less done =
    first-goes seq position q c.row
    (only-there u c.past 0 (length (taken c.past)) (length (chain c.past).entries) seq position c.row h.row first)
    (λ same. omega (arith, same, less)) (λ same. omega (arith, same, less))
first-turned u c position q seq (Held left cost) e h first less done = absurd done
first-turned u c position q seq (Refused n why) e h first less done =
    first-without seq position q c.row (only-there u c.past 0 (length (taken c.past)) (length (chain c.past).entries) seq position c.row h.row first) (λ same. omega (arith, same, less))
first-turned u c position q seq Redacted e h first less done = absurd done

-- ---- it stays settled

-- after a turn at a later position that is final for its call
pub rests-on : (u : JudgeContext) (c : ConnState) (position q seq : ℕ) (outcome : Outcome) (e : Entry) → StaysChain → Holds u c
    → IsEntryTurn u c position seq outcome e → IsFinalOutcome outcome → q < position
    → AtRest u c q → AtRest u (trace_after_turn e seq outcome c) q
rests-on u c position q seq outcome e chains h turn done less rest = record { held = λ s first. still s (sym (same-first) ∙ first) }
  where
    same-first : first_at q (trace_after_turn e seq outcome c).row ≡ first_at q c.row
    same-first = first-turned u c position q seq outcome e h turn.first less done

    beside : IsBeside c.past (trace_after_turn e seq outcome c).past e.name
    beside = beside-turn c seq outcome e done

    still : (s : ℕ) → first_at q c.row ≡ Some (s, q) → IsHeldAt u (trace_after_turn e seq outcome c) q s
    still s first =
        let held : IsHeldAt u c q s = rest.held s first in
        let apart : e.name ≢ held.entry.name = places-apart (chain c.past).entries q position held.entry e (chained chains u c.past h.prefix).names held.turn.entry turn.entry less in
        record {
          level = held.level;
          cost = held.cost;
          entry = held.entry;
          turn = turn-again u c (trace_after_turn e seq outcome c) q s (Held held.level held.cost) held.entry (record {
            entries = beside.entries;
            row = same-first;
            forms = beside.forms u.conn s;
            moments = beside.moments;
            levels = beside.levels held.entry.name apart;
            notes = beside.notes held.entry.name s apart;
          }) held.turn;
        }

-- after a send
pub rests-sent : (u : JudgeContext) (c : ConnState) (position q seq bytes : ℕ) → Holds u c → first_at position c.row ≡ Some (seq, position) → q < position → AtRest u c q
    → AtRest u (record c { past = Sent seq bytes ∷ c.past; row = without_call seq c.row }) q
rests-sent u c position q seq bytes h first less rest = record { held = λ s first. still s (sym same-first ∙ first) }
  where
    same-first : first_at q (without_call seq c.row) ≡ first_at q c.row
    same-first = first-without seq position q c.row
        (only-there u c.past 0 (length (taken c.past)) (length (chain c.past).entries) seq position c.row h.row first)
        (λ same. omega (arith, same, less))

    still : (s : ℕ) → first_at q c.row ≡ Some (s, q) → IsHeldAt u (record c { past = Sent seq bytes ∷ c.past; row = without_call seq c.row }) q s
    still s first =
        let held : IsHeldAt u c q s = rest.held s first in
        record {
          level = held.level;
          cost = held.cost;
          entry = held.entry;
          turn = turn-again u c (record c { past = Sent seq bytes ∷ c.past; row = without_call seq c.row }) q s (Held held.level held.cost) held.entry
              (record { entries = refl; row = same-first; forms = refl; moments = refl; levels = refl; notes = refl }) held.turn;
        }
