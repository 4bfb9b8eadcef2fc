-- A text has a result or a first invalid line.
use Rattle.std.proofs.Common.{◌≡◌, ℕ, zero, suc, ◌+◌, ◌<◌, ◌≤◌, List, [], ◌∷◌, ◌++◌, Contains, length, arith, refl}
use Rattle.std.proofs.Common.{ap, sym, subst, ◌∙◌, inl, inr, append_assoc, length-append}
use Rattle.std.specs.List.{AllByRecursion}
use Rattle.std.proofs.lemmas.Bool.{cases_lt}
use Rattle.std.proofs.lemmas.Bool.Decides.{eqb_tells}
use Rattle.std.proofs.lemmas.List.{append-nil}
use Rattle.mrpc_table.specs.declared.table.Table.{Table}
use Rattle.call_history.specs.Trace.{Trace}
use Rattle.call_history.specs.Legal.{History, IsLegal, HasNoObligation, trace_of}
use Rattle.call_history.specs.Rules.{CanFollow, JudgeContext}
use Rattle.call_history.specs.declared.happening.Happening.{Happening}
use Rattle.policy_declarations.specs.Declarations.{Declared}
use Rattle.audit_text.specs.Lines.{audit_line, happening_words, stands_words}
use Rattle.audit_rules.specs.BrokenRules.{HasObligationOf, IsFirstBrokenRule, IsRuleKept, rule_rank}
use Rattle.audit_rules.specs.declared.rule.Rule.{Rule}
use Rattle.audit_rules.specs.declared.rule.Rule.TheVariants.{A, B, C, D, E, F, G, Stands}
use Rattle.audit_check.specs.Checking.{AreAllPending, AreLegalPrefixes, IsCheckOfText, IsFirstInvalidAuditLine, IsFirstObligation, IsCheckOfHistory}
use Rattle.audit_check.specs.Checking.{MayBeListed, StandsLine, IsAuditOf, broken, legal, bytes_of_stands, misplaced, missing}
use Rattle.audit_check.specs.Checking.{context_on, open_end}
use Rattle.audit_check.specs.States.{AreAscending, calls_on_all}
use Rattle.audit_check.specs.declared.checked.Checked.{Checked}
use Rattle.audit_check.specs.declared.checked.Checked.TheVariants.{Illegal, Legal}
use Rattle.audit_check.proofs.Calls.{all_standing, in_first, in_later, standing_numbered}
use Rattle.audit_check.proofs.Judging.{same_rule}
use Rattle.audit_check.proofs.Known.{behind-joined, behind-other}
use Rattle.audit_check.proofs.Stages.{legal_now, prefixes_more}
use Rattle.audit_check.proofs.TextLines.{line-long, tells_happening, tells_nothing, tells_standing}

-- ---- rules, one after another

abbrev Below : (Rule → Type 0) → ℕ → Type 0
Below P n = (rule : Rule) → rule_rank rule < n → P rule

no_rule : (P : Rule → Type 0) → Below P 0
no_rule P rule less = absurd (omega (arith, less))

below_more : (P : Rule → Type 0) (rule : Rule) → Below P (rule_rank rule) → P rule → Below P (rule_rank rule + 1)
below_more P rule below here other less = elim (cases_lt (rule_rank other) (rule_rank rule)) [
  | inl before ↦ below other before
  | inr trace_of ↦ subst P (same_rule rule other (omega (arith, less, trace_of))) here
]

-- ---- an event is legal, or it breaks a rule first

may_from : (u : JudgeContext) (past : Trace) (next : Happening) → Below (IsRuleKept u past next) 7 → CanFollow u past next
may_from u past next keeps = record {
  numbered = keeps A (omega arith);
  malformed = keeps B (omega arith);
  chain_kept = keeps C (omega arith);
  notes_due = (keeps D (omega arith)).0;
  drawn_refused = (keeps D (omega arith)).1;
  in_order = keeps E (omega arith);
  answered = keeps F (omega arith);
  link_end = keeps G (omega arith);
}

next_rule : (u : JudgeContext) (past : Trace) (next : Happening) (rule : Rule) → ((rule : Rule) → IsFirstBrokenRule u past next rule → ⊥)
    → Below (IsRuleKept u past next) (rule_rank rule) → (Below (IsRuleKept u past next) (rule_rank rule + 1) → ⊥) → ⊥
next_rule u past next rule none below on =
    none rule (record { broken = λ here. on (below_more (IsRuleKept u past next) rule below here); earlier = below })

may_or_breaks : (u : JudgeContext) (past : Trace) (next : Happening) → ((rule : Rule) → IsFirstBrokenRule u past next rule → ⊥) → (CanFollow u past next → ⊥) → ⊥
may_or_breaks u past next none no_may =
    next_rule u past next A none (no_rule (IsRuleKept u past next)) (λ a.
    next_rule u past next B none a (λ b.
    next_rule u past next C none b (λ c.
    next_rule u past next D none c (λ d.
    next_rule u past next E none d (λ e.
    next_rule u past next F none e (λ f.
    next_rule u past next G none f (λ g. no_may (may_from u past next g))))))))

-- ---- a first obligation, or none

abbrev NotOpen : History → Rule → Type 0
NotOpen h rule = (conn : ℕ) → HasObligationOf (trace_of conn h) rule → ⊥

not_open : (h : History) → ((rule : Rule) → IsFirstObligation h rule → ⊥) → (rule : Rule) → Below (NotOpen h) (rule_rank rule) → Below (NotOpen h) (rule_rank rule + 1)
not_open h none rule below =
    below_more (NotOpen h) rule below
    (λ conn awaited. none rule (record { conn = conn; awaited = awaited; earlier = λ other on less. below other less on }))

settled_from : (h : History) → ((rule : Rule) → IsFirstObligation h rule → ⊥) → (conn : ℕ) → HasNoObligation (trace_of conn h)
settled_from h none conn =
    let a = not_open h none A (no_rule (NotOpen h)) in
    let b = not_open h none B a in
    let c = not_open h none C b in
    let d = not_open h none D c in
    let e = not_open h none E d in
    let f = not_open h none F e in
    let g = not_open h none G f in
    record { malformed = b B (omega arith) conn; quota = d D (omega arith) conn; link = g G (omega arith) conn }

-- ---- all pending calls

-- this many numbers, from one on
rising : ℕ → ℕ → List ℕ
rising from zero = []
rising from (suc count) = from ∷ rising (from + 1) count

above : (n from count : ℕ) → n < from → AllByRecursion (λ m. n < m) (rising from count)
unfolding rising
above n from zero less = tt
above n from (suc count) less = (less, above n (from + 1) count (omega (arith, less)))

rises : (from count : ℕ) → AreAscending (rising from count)
unfolding rising
rises from zero = tt
rises from (suc count) = (above from (from + 1) count (omega arith), rises (from + 1) count)

in_rising : (from count n : ℕ) → from ≤ n → n < from + count → Contains (rising from count) n
unfolding rising
in_rising from zero n low high = absurd (omega (arith, low, high))
in_rising from (suc count) n low high = elim (eqb_tells from n) [
  | inl same ↦ let P : ℕ → Type 0 = λ k. Contains (from ∷ rising (from + 1) count) k in subst P same.1 (in_first from (rising (from + 1) count))
  | inr other ↦ in_later from n (rising (from + 1) count) (in_rising (from + 1) count n (omega (arith, low, other.1)) (omega (arith, high)))
]

-- a number above all connections of a history
most : History → ℕ
most [] = 0
most (x ∷ h) = x.conn + 1 + most h

nothing_there : (h : History) (conn : ℕ) → most h ≤ conn → trace_of conn h ≡ []
unfolding most
nothing_there [] conn high = refl
nothing_there (x ∷ h) conn high =
    behind-joined conn (x ∷ []) h ∙ ap (λ (past : Trace). past ++ trace_of conn (x ∷ [])) (nothing_there h conn (omega (arith, high)))
    ∙ behind-other conn [] x (λ same. omega (arith, high, same))

all_calls : (T : Table) (limit : ℕ) (h : History) → AreLegalPrefixes T limit h → AreAllPending h (calls_on_all h (rising 0 (most h)))
all_calls T limit h prefixes =
    all_standing h (rising 0 (most h)) (λ conn. standing_numbered (context_on T limit conn) (trace_of conn h) (prefixes conn)) (rises 0 (most h))
    (λ conn out. elim (cases_lt conn (most h)) [
      | inl low ↦ absurd (out (in_rising 0 (most h) conn (omega arith) (omega (arith, low))))
      | inr high ↦ nothing_there h conn high
    ])

none_told : (T : Table) (limit : ℕ) (h : History) → AreLegalPrefixes T limit h → MayBeListed T limit h []
none_told T limit h prefixes = record {
  calls = calls_on_all h (rising 0 (most h));
  all = all_calls T limit h prefixes;
  front = (calls_on_all h (rising 0 (most h)), refl);
  tell = λ conn. tt;
}

-- ---- the result

-- a history and the lines after it have no result
abbrev Unjudged : Table → ℕ → History → List StandsLine → Type 0
Unjudged T limit h told = (checked : Checked) → IsCheckOfHistory T limit h told checked → ⊥

history_on : (T : Table) (limit : ℕ) (h : History) (told : List StandsLine) → Unjudged T limit h told → (after before : History) → h ≡ before ++ after
    → AreLegalPrefixes T limit before → (AreLegalPrefixes T limit h → ⊥) → ⊥
history_on T limit h told none [] before e prefixes on =
    let P : History → Type 0 = AreLegalPrefixes T limit in on (subst P (sym (e ∙ append-nil before)) prefixes)
history_on T limit h told none (x ∷ after) before e prefixes on =
    may_or_breaks (context_on T limit x.conn) (trace_of x.conn before) x.what
    (λ rule breaks. none (Illegal (length before + 1) rule) (broken before after x rule e prefixes breaks refl))
    (λ may. history_on T limit h told none after (before ++ x ∷ []) (e ∙ sym (append_assoc before (x ∷ []) after)) (prefixes_more T limit before x prefixes may) on)

stands_on : (T : Table) (limit : ℕ) (h : History) (told : List StandsLine) → Unjudged T limit h told → IsLegal T limit h → (told ≡ [] → ⊥)
    → (back front : List StandsLine) → told ≡ front ++ back → MayBeListed T limit h front → ⊥
stands_on T limit h told none is some [] front e begin =
    let M : List StandsLine → Type 0 = MayBeListed T limit h in
    none (Illegal (length h + length told + 1) Stands)
    (missing is some (subst M (sym (e ∙ append-nil front)) begin) (λ whole. none (Legal (length h) (length told)) (legal is (inr whole) refl)) refl)
stands_on T limit h told none is some (s ∷ back) front e begin =
    none (Illegal (length h + length front + 1) Stands)
    (misplaced front back s is e begin (λ more. stands_on T limit h told none is some back (front ++ s ∷ []) (e ∙ sym (append_assoc front (s ∷ []) back)) more) refl)

judged_so : (T : Table) (limit : ℕ) (h : History) (told : List StandsLine) → Unjudged T limit h told → ⊥
judged_so T limit h told none =
    history_on T limit h told none h [] refl (λ conn. tt) (λ prefixes.
    let settled = settled_from h (λ rule first. none (Illegal (length h + 1) rule) (open_end rule prefixes first refl)) in
    let is = legal_now T limit h prefixes settled in
    stands_on T limit h told none is (λ untold. none (Legal (length h) (length told)) (legal is (inl untold) refl)) told [] refl (none_told T limit h prefixes))

-- ---- what is read

read_on : (T : Table) (declared : Declared) (text : List ℕ) → ((h : History) (told : List StandsLine) → IsAuditOf T declared text h told → ⊥)
    → ((line : ℕ) → IsFirstInvalidAuditLine T declared text line → ⊥) → (n : ℕ) (front rest : List ℕ) (h : History) (told : List StandsLine)
    → length rest < n → text ≡ front ++ rest → IsAuditOf T declared front h told → ⊥
read_on T declared text no_text no_bad zero front rest h told few e tells = omega (arith, few)
read_on T declared text no_text no_bad (suc n) front rest h told few e tells =
    no_bad (length h + length told + 1) (record {
      front = front;
      rest = rest;
      history = h;
      stands = told;
      is_text = e;
      before = tells;
      more = λ done.
          let P : List ℕ → Type 0 = λ text. IsAuditOf T declared text h told in
          no_text h told (subst P (sym (e ∙ ap (λ (l : List ℕ). front ++ l) done ∙ append-nil front)) tells);
      no_event = λ untold x writable begins.
          read_on T declared text no_text no_bad n (front ++ audit_line T x) begins.0 (h ++ x ∷ []) told
          (omega (arith, few, ap length begins.1, length-append (audit_line T x) begins.0, line-long (happening_words T x.conn x.what)))
          (e ∙ ap (λ (l : List ℕ). front ++ l) begins.1 ∙ sym (append_assoc front (audit_line T x) begins.0))
          (tells_happening T declared front (audit_line T x) h told x tells untold writable refl);
      no_pending = λ s in' begins.
          read_on T declared text no_text no_bad n (front ++ bytes_of_stands s) begins.0 h (told ++ s ∷ [])
          (omega (arith, few, ap length begins.1, length-append (bytes_of_stands s) begins.0, line-long (stands_words s.conn s.seq s.position s.name s.holding)))
          (e ∙ ap (λ (l : List ℕ). front ++ l) begins.1 ∙ sym (append_assoc front (bytes_of_stands s) begins.0))
          (tells_standing T declared front (bytes_of_stands s) h told s tells in' refl);
      counted = refl;
    })

pub never_neither : (T : Table) (declared : Declared) (limit : ℕ) (text : List ℕ) → ((checked : Checked) → IsCheckOfText T declared limit text checked → ⊥)
    → ((line : ℕ) → IsFirstInvalidAuditLine T declared text line → ⊥) → ⊥
never_neither T declared limit text no_checked no_bad =
    read_on T declared text
    (λ h told tells. judged_so T limit h told (λ checked is. no_checked checked (record { history = h; stands = told; tells = tells; judged = is })))
    no_bad (length text + 1) [] text [] [] (omega arith) refl (tells_nothing T declared)
