-- A call that all earlier entries let pass was asked at its entry.
use Rattle.std.proofs.Common.{◌≡◌, ℕ, List, length, map, set, slice_get, sym, ap, ◌∙◌, subst, arith}
use Rattle.std.specs.Prelude.{Some}
use Rattle.std.specs.List.{AllZip, position}
use Rattle.std.proofs.lemmas.List.{length-map}
use Rattle.mrpc_table.specs.Valid.{AreDistinct}
use Rattle.engine_core.specs.Chains.{Chain, Entry, is_named, names_of}
use Rattle.engine_core.specs.Engines.{EngineParts}
use Rattle.engine_core.specs.Marks.{PendingCall, seqs_of}
use Rattle.engine_core.specs.Working.{HasWorked}
use Rattle.engine_core.specs.declared.outcome.Outcome.{Outcome}
use Rattle.call_history.specs.Trace.{Trace, chain, pending_calls}
use Rattle.call_history.specs.Rules.{IsAnswerInTrace, JudgeContext}
use Rattle.call_history.specs.Ties.{AreNumbersApart, AreTied, AreTiedAfterTurn, worked}
use Rattle.audit_rules.specs.Asking.{IsEntryOutcome, IsRowOfTrace, HasPassedFirst, answer_of}
use Rattle.audit_rules.proofs.Asked.{entries-same, map-at, numbers-same, turn-gives}
use Rattle.audit_rules.proofs.Entries.{found, is-at, set-there, there-split, zip-length, zip-set}
use Rattle.audit_rules.proofs.Numbers.{within}

pub asked-turn : (u : JudgeContext) (past : Trace) (n : ℕ) (es : List EngineParts) (calls : List PendingCall) (reached : List ℕ) (seq : ℕ) (name : List ℕ) (now place at : ℕ)
    (es1 : List EngineParts) (calls1 : List PendingCall) (outcome : Outcome) (es2 : List EngineParts) (calls2 : List PendingCall) → IsRowOfTrace u past es n calls reached now
    → AreDistinct (names_of (chain past).entries) → seqs_of calls ≡ map (λ call. call.seq) (pending_calls past) → slice_get (seqs_of calls) place ≡ Some seq
    → position (λ e. is_named name e.entry) es ≡ Some at → AreTied u.conn past es1 n calls1 → AreNumbersApart calls1 → seqs_of calls1 ≡ seqs_of calls
    → map (λ e. e.entry) es1 ≡ map (λ e. e.entry) es → HasPassedFirst u past seq at → HasWorked es1 calls1 at place now outcome es2 calls2 → AreTiedAfterTurn
    → IsEntryOutcome u past n seq name (record { place = place; at = at; outcome = outcome }) calls es2 calls2 (set reached place at)
asked-turn u past n es calls reached seq name now place at es1 calls1 outcome es2 calls2 row distinct stands there first ties1 apart1 numbers1 entries1 lets w law =
    let its = found name at es first in
    let entry_there : slice_get (chain past).entries at ≡ Some its.engine.entry =
    subst (λ (xs : List Entry). slice_get xs at ≡ Some its.engine.entry)
    (ap (λ (c : Chain). c.entries) row.ties.same_chain)
    (map-at (λ (e : EngineParts). e.entry) es at its.engine its.at) in
    let entry_turned : slice_get (map (λ (e : EngineParts). e.entry) es1) at ≡ Some w.engine.entry = map-at (λ (e : EngineParts). e.entry) es1 at w.engine w.is_engine in
    let entry_first : slice_get (map (λ (e : EngineParts). e.entry) es1) at ≡ Some its.engine.entry = rw entries1 (map-at (λ (e : EngineParts). e.entry) es at its.engine its.at) in
    let same : w.engine.entry ≡ its.engine.entry = cc (entry_turned, entry_first) in
    let there1 : slice_get (seqs_of calls1) place ≡ Some seq = rw numbers1 there in
    let its_number = map-at (λ (s : PendingCall). s.call.seq) calls1 place w.call w.is_call in
    let number : w.call.call.seq ≡ seq = cc in
    let numbers2 : seqs_of calls2 ≡ seqs_of calls = numbers-same es1 calls1 at place now outcome es2 calls2 w ∙ numbers1 in
    record {
      entry = its.engine.entry;
      is_entry = entry_there;
      place = there;
      is_at = is-at u past es n calls row.ties.same_chain distinct stands name seq place at its.engine there its.at its.named lets;
      gives = subst (λ (e : Entry). IsAnswerInTrace u past e seq (answer_of outcome)) same
          (turn-gives es1 calls1 at place now outcome es2 calls2 w u past n seq ties1 row.shows there1);
      ties = subst (λ (e : Entry). AreTied u.conn (worked e seq outcome past) es2 n calls2) same
          (subst (λ (s : ℕ). AreTied u.conn (worked w.engine.entry s outcome past) es2 n calls2) number
          (law u past es1 n calls1 at place now outcome es2 calls2 row.prefix ties1 apart1 w));
      reaches = subst (λ (ns : List ℕ). AllZip (HasPassedFirst u past) ns (set reached place at)) (sym numbers2)
          (zip-set (HasPassedFirst u past) (seqs_of calls) reached place seq at row.reaches there lets);
      within =
          (let same_many : map (λ (e : EngineParts). e.entry) es2 ≡ map (λ (e : EngineParts). e.entry) es = entries-same es1 calls1 at place now outcome es2 calls2 w ∙ entries1 in
          omega (arith, its.within, length-map es2 (λ (e : EngineParts). e.entry), length-map es (λ (e : EngineParts). e.entry), ap (λ (xs : List Entry). length xs) same_many));
      only = λ other at_other. sym (there-split u past es n calls row.ties.same_chain distinct stands name seq at other its.engine its.at its.named at_other).same;
      reached_it = set-there reached place at (omega (arith, zip-length (HasPassedFirst u past) (seqs_of calls) reached row.reaches, within (seqs_of calls) place seq there));
    }
