-- What a checker knows after an entry's note on a call, and after a clear.
use Rattle.std.proofs.Common.{◌≡◌, ◌≢◌, ◌⊎◌, inl, inr, ℕ, suc, ◌+◌, ◌<◌, ◌==◌, ◌&&◌, Bool, true, false, cond, List, ◌∷◌, map, set, take}
use Rattle.std.proofs.Common.{get_or, slice_get, refl, sym, ap, ◌∙◌, subst, arith}
use Rattle.std.specs.Prelude.{All, None, Some, vec_capacity}
use Rattle.std.specs.List.{AllZip}
use Rattle.std.specs.Str.{bytes_eq}
use Rattle.std.specs.VecDeque.{deque_capacity}
use Rattle.std.proofs.lemmas.Bool.{ne_eqb}
use Rattle.std.proofs.lemmas.List.Elements.{All-nil}
use Rattle.std.proofs.lemmas.Option.{get_or_from_slice_get}
use Rattle.mrpc_table.specs.Calls.{IsCallOf}
use Rattle.mrpc_table.specs.Valid.{AreDistinct}
use Rattle.mrpc_table.specs.declared.table.Table.{Table}
use Rattle.engine_core.specs.Answers.{Answer, Past, charged, counted, drawn, note, ticket_in}
use Rattle.engine_core.specs.Chains.{Chain, Entry, names_of}
use Rattle.engine_core.specs.Engines.{EngineParts}
use Rattle.engine_core.specs.Turns.{noted_in}
use Rattle.engine_core.specs.declared.outcome.Noted.{Noted}
use Rattle.engine_core.specs.declared.outcome.Noted.TheVariants as notes
use Rattle.engine_core.specs.declared.outcome.Outcome.{Outcome}
use Rattle.engine_core.specs.declared.outcome.Outcome.TheVariants as outcomes
use Rattle.engine_core.specs.declared.outcome.Why.{Why}
use Rattle.call_history.specs.Trace.{Trace, chain, form, has_failed, timestamp, noted, pending_calls, taken}
use Rattle.call_history.specs.Transitions.{with_note}
use Rattle.call_history.specs.Rules.{IsAnswerInTrace, IsAllowedInTrace, CanFollow, JudgeContext, cap_of}
use Rattle.call_history.specs.Ties.{AreTied, worked}
use Rattle.call_history.specs.declared.happening.Happening.{Happening}
use Rattle.call_history.specs.declared.happening.Happening.TheVariants.{Charged, Counted, Drawn, Redacted, Refused}
use Rattle.call_history.specs.declared.happening.Cause.{Cause}
use Rattle.engine_core.specs.Marks.{seqs_of}
use Rattle.audit_rules.specs.Asking.{IsEntryOutcome, IsRising, HasPassedFirst}
use Rattle.audit_rules.specs.CheckerState.{HasRoom, HasNoMalformed, IsLatest, IsCheckerAfter, IsObligationAfter, checker_context}
use Rattle.audit_rules.specs.declared.ask.EntryOutcome.{EntryOutcome}
use Rattle.audit_rules.specs.declared.checker.Checker.{Checker}
use Rattle.audit_rules.specs.declared.obligation.Obligation.{Obligation}
use Rattle.audit_rules.specs.declared.obligation.Obligation.TheVariants.{Nothing}
use Rattle.audit_rules.proofs.Asked.{lets-more}
use Rattle.audit_rules.proofs.Due.{noted-answer}
use Rattle.audit_rules.proofs.Entries.{set-there, zip-at, zip-set}
use Rattle.audit_rules.proofs.Going.{latest-same, lets-on, all-on, zip-except}
use Rattle.audit_rules.proofs.Known.{asked-reached, known-rising}
use Rattle.audit_rules.proofs.Passing.{IsBelow, lets-noted}
use Rattle.audit_rules.proofs.Worked.{IsNote, bytes-other, knows-worked, note-latest, note-reaches, note-worked, own-lets}

-- ---- the notes

and-false : (b : Bool) → (b && false) ≡ false
and-false true = refl
and-false false = refl

noted-another : (p rest : Past) (name other : List ℕ) (seq s : ℕ) → seq ≢ s → cond ((seq == s) && bytes_eq name other) p rest ≡ rest
noted-another p rest name other seq s apart = ap (λ (b : Bool). cond (b && bytes_eq name other) p rest) (ne_eqb seq s apart)

noted-elsewhere : (p rest : Past) (name other : List ℕ) (seq s : ℕ) → name ≢ other → cond ((seq == s) && bytes_eq name other) p rest ≡ rest
noted-elsewhere p rest name other seq s apart = ap (λ (b : Bool). cond ((seq == s) && b) p rest) (bytes-other name other apart)
    ∙ ap (λ (b : Bool). cond b p rest) (and-false (seq == s))

charged-note : (past : Trace) (name : List ℕ) (seq left : ℕ) → IsNote past name seq (Charged seq name left)
charged-note past name seq left = record {
  chained = refl;
  another = λ other s apart. noted-another charged (noted other s past) name other seq s apart;
  elsewhere = λ other s apart. noted-elsewhere charged (noted other s past) name other seq s apart;
  calls = λ other. refl;
  forms = λ conn s. refl;
  same_moment = refl;
  same_taken = refl;
  stands = refl;
  fails = refl;
}

drawn-note : (past : Trace) (name : List ℕ) (seq window ticket : ℕ) → IsNote past name seq (Drawn seq name window ticket)
drawn-note past name seq window ticket = record {
  chained = refl;
  another = λ other s apart. noted-another (drawn ticket) (noted other s past) name other seq s apart;
  elsewhere = λ other s apart. noted-elsewhere (drawn ticket) (noted other s past) name other seq s apart;
  calls = λ other. refl;
  forms = λ conn s. refl;
  same_moment = refl;
  same_taken = refl;
  stands = refl;
  fails = refl;
}

counted-note : (past : Trace) (name : List ℕ) (seq : ℕ) → IsNote past name seq (Counted seq name)
counted-note past name seq = record {
  chained = refl;
  another = λ other s apart. noted-another counted (noted other s past) name other seq s apart;
  elsewhere = λ other s apart. noted-elsewhere counted (noted other s past) name other seq s apart;
  calls = λ other. refl;
  forms = λ conn s. refl;
  same_moment = refl;
  same_taken = refl;
  stands = refl;
  fails = refl;
}

pub is-note : (past : Trace) (name : List ℕ) (seq : ℕ) (n : Noted) (what : Happening) → n ≢ notes.Nothing
    → with_note name seq n past ≡ what ∷ past → IsNote past name seq what
is-note past name seq notes.Nothing what some is = absurd (some refl)
is-note past name seq (notes.Charged left) what some is = let same : Charged seq name left ≡ what = cc in subst (IsNote past name seq) same (charged-note past name seq left)
is-note past name seq (notes.Drawn window ticket) what some is = let same : Drawn seq name window ticket ≡ what =
    cc in subst (IsNote past name seq) same (drawn-note past name seq window ticket)
is-note past name seq notes.Counted what some is = let same : Counted seq name ≡ what = cc in subst (IsNote past name seq) same (counted-note past name seq)

-- it is no refusal, and leaves no obligation unless it draws
pub note-settles : (past : Trace) (name : List ℕ) (seq : ℕ) (n : Noted) (what : Happening) → n ≢ notes.Nothing
    → ticket_in (note n) ≡ None → with_note name seq n past ≡ what ∷ past
    → IsObligationAfter (what ∷ past) Nothing
note-settles past name seq notes.Nothing what some none is = absurd (some refl)
note-settles past name seq (notes.Charged left) what some none is =
    let same : Charged seq name left ≡ what = cc in subst (λ (w : Happening). IsObligationAfter (w ∷ past) Nothing) same (λ none. none, λ none. none)
note-settles past name seq (notes.Drawn window ticket) what some none is = absurd cc
note-settles past name seq notes.Counted what some none is =
    let same : Counted seq name ≡ what = cc in subst (λ (w : Happening). IsObligationAfter (w ∷ past) Nothing) same (λ none. none, λ none. none)

pub note-other : (past : Trace) (name : List ℕ) (seq : ℕ) (n : Noted) (what : Happening) → n ≢ notes.Nothing → with_note name seq n past ≡ what ∷ past
    → (s : ℕ) (why : Cause) → what ≡ Refused s why → ⊥
note-other past name seq notes.Nothing what some is s why refused = some refl
note-other past name seq (notes.Charged left) what some is s why refused = cc
note-other past name seq (notes.Drawn window ticket) what some is s why refused = cc
note-other past name seq notes.Counted what some is s why refused = cc

-- an engine's note on a call, and how far the call is then known to pass
pub noted-on : (c c1 c2 : Checker) → c1 ≡ record c { latest = c1.latest } → c2 ≡ record c1 { reached = c2.reached }
    → c2 ≡ record c { latest = c2.latest; left = c2.left; reached = c2.reached }
noted-on c c1 c2 first then =
    let latest : c2.latest ≡ c1.latest = ap (λ (d : Checker). d.latest) then in
    let left : c2.left ≡ c.left = ap (λ (d : Checker). d.left) then ∙ ap (λ (d : Checker). d.left) first in
    then ∙ (ap (λ (d : Checker). record d { reached = c2.reached }) first
    ∙ (ap (λ v. record c { latest = v; reached = c2.reached }) (sym latest)
    ∙ ap (λ (l : Obligation). record c { latest = c2.latest; left = l; reached = c2.reached }) (sym left)))

pub settled-on : (c c1 c2 : Checker) → c1 ≡ record c { latest = c1.latest } → c2 ≡ record c1 { left = c2.left; reached = c2.reached }
    → c2 ≡ record c { latest = c2.latest; left = c2.left; reached = c2.reached }
settled-on c c1 c2 first then =
    let latest : c2.latest ≡ c1.latest = ap (λ (d : Checker). d.latest) then in
    then ∙ (ap (λ (d : Checker). record d { left = c2.left; reached = c2.reached }) first
    ∙ ap (λ v. record c { latest = v; left = c2.left; reached = c2.reached }) (sym latest))

-- ---- what is known after a turn

module _ (T : Table) (past : Trace) (c c1 : Checker) (seq : ℕ) (name : List ℕ) (a : EntryOutcome) (knows : IsCheckerAfter T past c) (free : HasNoMalformed c.left)
    (asked : IsEntryOutcome (checker_context T c) past c.attached seq name a c.calls c1.engines.items c1.calls c1.reached.items)
    (same : c1 ≡ record c { engines = c1.engines; calls = c1.calls; reached = c1.reached }) (room : HasRoom c1) (numbers : seqs_of c1.calls ≡ seqs_of c.calls)
    (entries : map (λ e. e.entry) c1.engines.items ≡ map (λ e. e.entry) c.engines.items) (of_table : All (λ s. IsCallOf T s.call) c1.calls)
    (distinct : AreDistinct (names_of (chain past).entries)) where
  -- the entries are the chain's
  chained : map (λ e. e.entry) c1.engines.items ≡ (chain past).entries
  chained = entries ∙ ap (λ (x : Chain). x.entries) knows.row.ties.same_chain

  same-latest : c1.latest ≡ c.latest
  same-latest = ap (λ (d : Checker). d.latest) same

  same-left : c1.left ≡ c.left
  same-left = ap (λ (d : Checker). d.left) same

  latest1 : AllZip (IsLatest past) c1.engines.items c1.latest.items
  latest1 = latest-same past c.engines.items c1.engines.items c1.latest.items entries (subst (λ v. AllZip (IsLatest past) c.engines.items v.items) (sym same-latest) knows.latest)

  rising1 : IsRising 0 c.taken (seqs_of c1.calls)
  rising1 = subst (λ (ns : List ℕ). IsRising 0 c.taken ns) (sym numbers) (known-rising T past c knows free)

  pub there1 : slice_get (seqs_of c1.calls) a.place ≡ Some seq
  there1 = subst (λ (ns : List ℕ). slice_get ns a.place ≡ Some seq) (sym numbers) asked.place

  lets1 : HasPassedFirst (checker_context T c) past seq a.at
  lets1 = subst (HasPassedFirst (checker_context T c) past seq) (get_or_from_slice_get c1.reached.items a.place a.at a.at asked.reached_it)
      (zip-at (HasPassedFirst (checker_context T c) past) (seqs_of c1.calls) c1.reached.items a.place seq a.at asked.reaches there1)

  -- nothing was noted or cleared
  pub knows-asked : (why : Why) → a.outcome ≡ outcomes.Refused notes.Nothing why → IsCheckerAfter T past c1
  knows-asked why is = knows-worked T past past c c1 knows free (subst HasNoMalformed (sym same-left) free)
      (same ∙ ap (λ (d : Checker). record c { engines = c1.engines; latest = d.latest; calls = c1.calls; reached = c1.reached; left = d.left }) (sym same))
      knows.row.prefix (subst (λ (o : Outcome). AreTied c.conn (worked asked.entry seq o past) c1.engines.items c.attached c1.calls) is asked.ties)
      asked.reaches refl numbers refl refl latest1 refl (subst (IsObligationAfter past) (sym same-left) knows.left) of_table (omega arith) entries room

  module _ (c' : Checker) (what : Happening) (may : CanFollow (checker_context T c) past what) where
    -- a note preserves the entries that the calls are known to pass
    pub reaches-noted : (n : Noted) → n ≢ notes.Nothing → with_note name seq n past ≡ what ∷ past
        → AllZip (HasPassedFirst (checker_context T c) (what ∷ past)) (seqs_of c1.calls) c1.reached.items
    reaches-noted n some is = note-reaches (checker_context T c) past name seq what (is-note past name seq n what some is) 0 c.taken a.place a.at asked.entry
        (seqs_of c1.calls) c1.reached.items rising1 distinct asked.is_entry asked.is_at.named there1 asked.reached_it lets1 asked.reaches

    -- and the entry lets the call pass
    pub reaches-passed : (n : Noted) → noted_in a.outcome ≡ n → n ≢ notes.Nothing → with_note name seq n past ≡ what ∷ past → IsBelow asked.entry.policy n
        → AllZip (HasPassedFirst (checker_context T c) (what ∷ past)) (seqs_of c1.calls) (set c1.reached.items a.place (a.at + 1))
    reaches-passed n noted some is below =
        let u : JudgeContext = checker_context T c in
        let to : IsNote past name seq what = is-note past name seq n what some is in
        let gives : IsAnswerInTrace u past asked.entry seq (note n) =
        subst (λ (answer : Answer). IsAnswerInTrace u past asked.entry seq answer) (noted-answer a.outcome n noted some) asked.gives in
        let own : IsAllowedInTrace u (what ∷ past) seq asked.entry =
        lets-noted u past seq n what asked.entry some (ap (λ (m : List ℕ). with_note m seq n past) asked.is_at.named ∙ is) (to.forms u.conn seq) gives below in
        let before : HasPassedFirst u (what ∷ past) seq a.at =
        own-lets u past name seq what to a.at asked.entry distinct asked.is_entry asked.is_at.named lets1 in
        let there : slice_get (chain (what ∷ past)).entries a.at ≡ Some asked.entry =
        subst (λ (x : Chain). slice_get x.entries a.at ≡ Some asked.entry) (sym to.chained) asked.is_entry in
        let further : HasPassedFirst u (what ∷ past) seq (a.at + 1) =
        let one_more : suc a.at ≡ a.at + 1 = omega arith in
        subst (λ (k : ℕ). HasPassedFirst u (what ∷ past) seq k) one_more
        (lets-more (IsAllowedInTrace u (what ∷ past) seq) (chain (what ∷ past)).entries a.at asked.entry there own before) in
        zip-set (HasPassedFirst u (what ∷ past)) (seqs_of c1.calls) c1.reached.items a.place seq (a.at + 1) (reaches-noted n some is) there1 further

    -- by the state after a ticket
    pub reaches-settled : (window ticket : ℕ) (engine : EngineParts) (reached' : List ℕ) → engine.entry ≡ asked.entry
        → noted_in a.outcome ≡ notes.Drawn window ticket → with_note name seq (notes.Drawn window ticket) past ≡ what ∷ past
        → (reached' ≡ c1.reached.items) ⊎ ((reached' ≡ set c1.reached.items a.place (a.at + 1))
        × ((cap : ℕ) → cap_of engine.entry.policy ≡ Some cap → ticket < cap))
        → AllZip (HasPassedFirst (checker_context T c) (what ∷ past)) (seqs_of c1.calls) reached'
    reaches-settled window ticket engine reached' same_entry noted is (inl same) =
        subst (λ (rs : List ℕ). AllZip (HasPassedFirst (checker_context T c) (what ∷ past)) (seqs_of c1.calls) rs) (sym same)
        (reaches-noted (notes.Drawn window ticket) (λ is. cc) is)
    reaches-settled window ticket engine reached' same_entry noted is (inr further) =
        let below : IsBelow asked.entry.policy (notes.Drawn window ticket) = λ w t cap told quota.
        (let same : ticket ≡ t = cc in
        rw (sym same) (further.1 cap (ap (λ (e : Entry). cap_of e.policy) same_entry ∙ quota))) in
        subst (λ (rs : List ℕ). AllZip (HasPassedFirst (checker_context T c) (what ∷ past)) (seqs_of c1.calls) rs) (sym further.0)
        (reaches-passed (notes.Drawn window ticket) noted (λ is. cc) is below)

    noted-to : Checker
    noted-to = record c1 { latest = c'.latest; left = c'.left; reached = c'.reached }

    -- something was noted
    pub knows-noted : (n : Noted) → c' ≡ record c1 { latest = c'.latest; left = c'.left; reached = c'.reached }
        → c'.latest.items ≡ set c1.latest.items a.at seq → vec_capacity c'.latest ≡ vec_capacity c1.latest → get_or c1.latest.items a.at 0 < seq
        → AllZip (HasPassedFirst (checker_context T c) (what ∷ past)) (seqs_of c1.calls) c'.reached.items → deque_capacity c'.reached ≡ deque_capacity c1.reached
        → noted_in a.outcome ≡ n → n ≢ notes.Nothing → with_note name seq n past ≡ what ∷ past → IsObligationAfter (what ∷ past) c'.left → HasNoMalformed c'.left
        → IsCheckerAfter T (what ∷ past) c'
    unfolding noted-to
    knows-noted n rest latest capacity less reaches places noted some is left free' =
        let to_note : IsNote past name seq what = is-note past name seq n what some is in
        let behind : worked asked.entry seq a.outcome past ≡ what ∷ past =
        note-worked asked.entry seq a.outcome past n noted some ∙ (ap (λ (m : List ℕ). with_note m seq n past) asked.is_at.named ∙ is) in
        let to : IsCheckerAfter T (what ∷ past) noted-to = knows-worked T past (what ∷ past) c noted-to knows free free'
        (ap (λ (d : Checker). record d { latest = c'.latest; left = c'.left; reached = c'.reached }) same)
        (knows.row.prefix, may) (subst (λ (p : Trace). AreTied c.conn p c1.engines.items c.attached c1.calls) behind asked.ties)
        reaches to_note.same_moment numbers to_note.stands to_note.same_taken
        (subst (λ (ls : List ℕ). AllZip (IsLatest (what ∷ past)) c1.engines.items ls) (sym latest)
        (note-latest (checker_context T c) past name seq what to_note c1.engines.items c1.latest.items a.at asked.entry (subst (λ (es : List Entry). AreDistinct (names_of es)) (sym chained) distinct)
        (subst (λ (es : List Entry). slice_get es a.at ≡ Some asked.entry) (sym chained) asked.is_entry) asked.is_at.named less latest1))
        to_note.fails left of_table (omega arith) entries
        (record {
          few_engines = room.few_engines;
          engines = room.engines;
          latest = omega (arith, room.latest, capacity);
          calls = omega (arith, room.calls, places);
        }) in
        subst (λ (d : Checker). IsCheckerAfter T (what ∷ past) d) (sym rest) to

    cleared-to : Checker
    cleared-to = record c1 { reached = c'.reached }

    -- fields were cleared, and the call starts again at the first entry
    pub knows-cleared : (version : ℕ) → ((conn seq s version : ℕ) (name : List ℕ) (past : Trace) → seq ≢ s
        → form conn s (Redacted seq name version ∷ past) ≡ form conn s past)
        → what ≡ Redacted seq name version → c' ≡ record c1 { reached = c'.reached } → c'.reached.items ≡ set c1.reached.items a.place 0
        → deque_capacity c'.reached ≡ deque_capacity c1.reached → a.outcome ≡ outcomes.Redacted → asked.entry.version ≡ version
        → IsObligationAfter (what ∷ past) c1.left → IsCheckerAfter T (what ∷ past) c'
    unfolding cleared-to
    knows-cleared version law is rest reached capacity redacted present left =
        let u : JudgeContext = checker_context T c in
        let behind : worked asked.entry seq a.outcome past ≡ what ∷ past =
        ap (λ (o : Outcome). worked asked.entry seq o past) redacted ∙ (ap (λ (m : List ℕ). Redacted seq m asked.entry.version ∷ past) asked.is_at.named
        ∙ (ap (λ (v : ℕ). Redacted seq name v ∷ past) present ∙ ap (λ (w : Happening). w ∷ past) (sym is))) in
        let zero : AllZip (HasPassedFirst u past) (seqs_of c1.calls) (set c1.reached.items a.place 0) =
        zip-set (HasPassedFirst u past) (seqs_of c1.calls) c1.reached.items a.place seq 0 asked.reaches there1 (All-nil (IsAllowedInTrace u past seq)) in
        let other : (s r : ℕ) → s ≢ seq → HasPassedFirst u past s r → HasPassedFirst u (Redacted seq name version ∷ past) s r = λ s r apart lets.
        all-on (IsAllowedInTrace u past s) (IsAllowedInTrace u (Redacted seq name version ∷ past) s) (take r (chain past).entries)
        (λ e one. lets-on u past (Redacted seq name version ∷ past) s e (law c.conn seq s version name past (λ equal. apart (sym equal))) refl one) lets in
        let again : AllZip (HasPassedFirst u (Redacted seq name version ∷ past)) (seqs_of c1.calls) (set c1.reached.items a.place 0) =
        zip-except (HasPassedFirst u past) (HasPassedFirst u (Redacted seq name version ∷ past)) 0 c.taken seq 0 a.place (seqs_of c1.calls) (set c1.reached.items a.place 0) rising1 there1
        (set-there c1.reached.items a.place 0
        (asked-reached T past c seq name a c1.engines.items c1.calls c1.reached.items asked))
        (All-nil (IsAllowedInTrace u (Redacted seq name version ∷ past) seq)) other zero in
        let to : IsCheckerAfter T (what ∷ past) cleared-to = knows-worked T past (what ∷ past) c cleared-to knows free (subst HasNoMalformed (sym same-left) free)
        (ap (λ (d : Checker). record d { reached = c'.reached }) same
        ∙ ap (λ (d : Checker). record c {
          engines = c1.engines;
          latest = d.latest;
          calls = c1.calls;
          reached = c'.reached;
          left = d.left;
        }) (sym same))
        (knows.row.prefix, may) (subst (λ (p : Trace). AreTied c.conn p c1.engines.items c.attached c1.calls) behind asked.ties)
        (subst (λ (w : Happening). AllZip (HasPassedFirst u (w ∷ past)) (seqs_of c1.calls) c'.reached.items) (sym is)
        (subst (λ (rs : List ℕ). AllZip (HasPassedFirst u (Redacted seq name version ∷ past)) (seqs_of c1.calls) rs) (sym reached) again))
        (ap (λ (w : Happening). timestamp (w ∷ past)) is) numbers (ap (λ (w : Happening). pending_calls (w ∷ past)) is) (ap (λ (w : Happening). taken (w ∷ past)) is)
        (subst (λ (w : Happening). AllZip (IsLatest (w ∷ past)) c1.engines.items c1.latest.items) (sym is) latest1)
        (ap (λ (w : Happening). has_failed (w ∷ past)) is) left of_table (omega arith) entries
        (record { few_engines = room.few_engines; engines = room.engines; latest = room.latest; calls = omega (arith, room.calls, capacity) }) in
        subst (λ (d : Checker). IsCheckerAfter T (what ∷ past) d) (sym rest) to
