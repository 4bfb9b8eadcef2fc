-- A history and the lines after it have at most one result.
use Rattle.std.proofs.Common.{◌≡◌, ℕ, ◌+◌, ◌<◌, ◌==◌, ◌⊎◌, List, [], ◌∷◌, ◌++◌, cond, length, map, arith, refl, ap}
use Rattle.std.proofs.Common.{sym, subst, ◌∙◌, inl, inr, append_assoc, length-append}
use Rattle.std.proofs.lemmas.List.Elements.{filter-append}
use Rattle.std.proofs.lemmas.List.{map-append}
use Rattle.mrpc_table.specs.Valid.{IsValid}
use Rattle.mrpc_table.specs.declared.table.Table.{Table}
use Rattle.call_history.specs.Trace.{Trace}
use Rattle.call_history.specs.Legal.{History, IsLegal, IsLegalPrefix, trace_of}
use Rattle.call_history.specs.Rules.{CanFollow, JudgeContext}
use Rattle.call_history.specs.declared.happening.ConnectionEvent.{ConnectionEvent}
use Rattle.call_history.specs.declared.happening.Happening.{Happening}
use Rattle.policy_declarations.specs.Declarations.{Declared}
use Rattle.audit_rules.specs.BrokenRules.{IsFirstBrokenRule, IsRuleKept, rule_rank}
use Rattle.audit_rules.specs.declared.rule.Rule.{Rule}
use Rattle.audit_rules.specs.declared.rule.Rule.TheVariants.{A, B, C, D, E, F, G, Stands}
use Rattle.audit_check.specs.Checking.{AreLegalPrefixes, AreAllListed, IsCheckOfText, IsFirstObligation, IsCheckOfHistory, MayBeListed, StandsLine}
use Rattle.audit_check.specs.Checking.{AreNextPending, broken, call_name_of, legal, lines_on, misplaced, missing, context_on}
use Rattle.audit_check.specs.Checking.{open_end}
use Rattle.audit_check.specs.declared.checked.Checked.{Checked}
use Rattle.audit_check.specs.declared.checked.Checked.TheVariants.{Illegal}
use Rattle.audit_check.proofs.Known.{behind-joined, behind-more}
use Rattle.audit_check.proofs.Lines.{TextLaws, one_reading}
use Rattle.audit_check.proofs.Opens.{none_awaited}

keeps_all : (u : JudgeContext) (past : Trace) (next : Happening) → CanFollow u past next → (rule : Rule) → IsRuleKept u past next rule
keeps_all u past next may A = may.numbered
keeps_all u past next may B = may.malformed
keeps_all u past next may C = may.chain_kept
keeps_all u past next may D = (may.notes_due, may.drawn_refused)
keeps_all u past next may E = may.in_order
keeps_all u past next may F = may.answered
keeps_all u past next may G = may.link_end
keeps_all u past next may Stands = tt

-- rules of equal rank are equal
rule_at : ℕ → Rule
rule_at n = cond (n == 0) A (cond (n == 1) B (cond (n == 2) C (cond (n == 3) D (cond (n == 4) E (cond (n == 5) F (cond (n == 6) G Stands))))))

rule_back : (rule : Rule) → rule_at (rule_rank rule) ≡ rule
unfolding rule_at
rule_back A = refl
rule_back B = refl
rule_back C = refl
rule_back D = refl
rule_back E = refl
rule_back F = refl
rule_back G = refl
rule_back Stands = refl

pub same_rule : (rule other : Rule) → rule_rank rule ≡ rule_rank other → rule ≡ other
same_rule rule other e = sym (rule_back rule) ∙ ap rule_at e ∙ rule_back other

lower_first : (m n : ℕ) → (m < n → ⊥) → (n < m → ⊥) → m ≡ n
lower_first m n h k = omega (arith, h, k)

one_first : (u : JudgeContext) (past : Trace) (next : Happening) (rule other : Rule) → IsFirstBrokenRule u past next rule → IsFirstBrokenRule u past next other → rule ≡ other
one_first u past next rule other a b =
    same_rule rule other (lower_first (rule_rank rule) (rule_rank other) (λ lt. a.broken (b.earlier rule lt)) (λ lt. b.broken (a.earlier other lt)))

one_open : (h : History) (rule other : Rule) → IsFirstObligation h rule → IsFirstObligation h other → rule ≡ other
one_open h rule other a b =
    same_rule rule other (lower_first (rule_rank rule) (rule_rank other) (λ lt. b.earlier rule a.conn lt a.awaited) (λ lt. a.earlier other b.conn lt b.awaited))

-- ---- prefixes

may_in : (u : JudgeContext) (more : List Happening) (x : Happening) (past : Trace) → IsLegalPrefix u (more ++ x ∷ past) → CanFollow u past x
may_in u [] x past prefix = prefix.1
may_in u (y ∷ more) x past prefix = may_in u more x past prefix.0

prefix_breaks : (T : Table) (limit : ℕ) (before after : History) (x : ConnectionEvent) (rule : Rule) → AreLegalPrefixes T limit (before ++ x ∷ after)
    → IsFirstBrokenRule (context_on T limit x.conn) (trace_of x.conn before) x.what rule → ⊥
prefix_breaks T limit before after x rule prefixes breaks =
    let u = context_on T limit x.conn in
    let joined : trace_of x.conn (before ++ x ∷ after) ≡ trace_of x.conn after ++ x.what ∷ trace_of x.conn before =
    ap (trace_of x.conn) (sym (append_assoc before (x ∷ []) after)) ∙ behind-joined x.conn (before ++ x ∷ []) after
    ∙ ap (λ (l : Trace). trace_of x.conn after ++ l) (behind-more x.conn before x refl) in
    let P : Trace → Type 0 = IsLegalPrefix u in
    breaks.broken (keeps_all u (trace_of x.conn before) x.what (may_in u (trace_of x.conn after) x.what (trace_of x.conn before) (subst P joined (prefixes x.conn))) rule)

prefixes_of : (T : Table) (limit : ℕ) (h : History) → IsLegal T limit h → AreLegalPrefixes T limit h
prefixes_of T limit h is conn = (is conn).prefix

-- an event that breaks a rule is in no history whose prefixes are legal
broken_not : (T : Table) (limit : ℕ) (h before after : History) (x : ConnectionEvent) (rule : Rule) → h ≡ before ++ x ∷ after → AreLegalPrefixes T limit h
    → IsFirstBrokenRule (context_on T limit x.conn) (trace_of x.conn before) x.what rule → ⊥
broken_not T limit h before after x rule e prefixes breaks =
    let P : History → Type 0 = AreLegalPrefixes T limit in prefix_breaks T limit before after x rule (subst P e prefixes) breaks

open_not : (T : Table) (limit : ℕ) (h : History) (rule : Rule) → IsLegal T limit h → IsFirstObligation h rule → ⊥
open_not T limit h rule is first = none_awaited (trace_of first.conn h) (is first.conn).closed rule first.awaited

-- ---- indices in a list

pub split : {X : Type 0} (a b a' b' : List X) (x x' : X) → a ++ x ∷ b ≡ a' ++ x' ∷ b'
    → ((a ≡ a') × (x ≡ x')) ⊎ ((mid : List X) × (a' ≡ a ++ x ∷ mid)) ⊎ ((mid : List X) × (a ≡ a' ++ x' ∷ mid))
split [] b [] b' x x' e = inl (refl, cc)
split [] b (y ∷ a') b' x x' e = inr (inl (a', let same : x ≡ y = cc in (λ i. sym same i ∷ a')))
split (y ∷ a) b [] b' x x' e = inr (inr (a, let same : y ≡ x' = cc in (λ i. same i ∷ a)))
split (y ∷ a) b (z ∷ a') b' x x' e =
    let same : y ≡ z = cc in
    elim (split a b a' b' x x' (let rest : a ++ x ∷ b ≡ a' ++ x' ∷ b' = cc in rest)) [
      | inl here ↦ inl ((λ i. same i ∷ here.0 i), here.1)
      | inr (inl later) ↦ inr (inl (later.0, (λ i. sym same i ∷ later.1 i)))
      | inr (inr earlier) ↦ inr (inr (earlier.0, (λ i. same i ∷ earlier.1 i)))
    ]

one_broken : (T : Table) (limit : ℕ) (before after before' after' : History) (x x' : ConnectionEvent) (rule rule' : Rule) → before ++ x ∷ after ≡ before' ++ x' ∷ after'
    → AreLegalPrefixes T limit before → AreLegalPrefixes T limit before' → IsFirstBrokenRule (context_on T limit x.conn) (trace_of x.conn before) x.what rule
    → IsFirstBrokenRule (context_on T limit x'.conn) (trace_of x'.conn before') x'.what rule' → (length before ≡ length before') × (rule ≡ rule')
one_broken T limit before after before' after' x x' rule rule' e p p' b b' = elim (split before after before' after' x x' e) [
  | inl here ↦
      let P : History → Type 0 = λ before. IsFirstBrokenRule (context_on T limit x'.conn) (trace_of x'.conn before) x'.what rule' in
      let Q : ConnectionEvent → Type 0 = λ x. IsFirstBrokenRule (context_on T limit x.conn) (trace_of x.conn before) x.what rule' in
      (ap length here.0, one_first (context_on T limit x.conn) (trace_of x.conn before) x.what rule rule' b (subst Q (sym here.1) (subst P (sym here.0) b')))
  | inr (inl later) ↦ absurd (broken_not T limit before' before later.0 x rule later.1 p' b)
  | inr (inr earlier) ↦ absurd (broken_not T limit before before' earlier.0 x' rule' earlier.1 p b')
]

-- ---- lines that can be the first ones of the pending calls

tell_front : (u : JudgeContext) (past : Trace) (positions : List ℕ) (a b : List StandsLine) → AreNextPending u past positions (a ++ b) → AreNextPending u past positions a
tell_front u past positions [] b calls = tt
tell_front u past positions (s ∷ a) b calls = (calls.0, tell_front u past (positions ++ s.position ∷ []) a b calls.1)

begins_front : (T : Table) (limit : ℕ) (h : History) (a b : List StandsLine) → MayBeListed T limit h (a ++ b) → MayBeListed T limit h a
begins_front T limit h a b m = record {
  calls = m.calls;
  all = m.all;
  front = (map call_name_of b ++ m.front.0, m.front.1 ∙ ap (λ (l : List (ℕ × ℕ)). l ++ m.front.0) (map-append call_name_of a b) ∙ append_assoc (map call_name_of a) (map call_name_of b) m.front.0);
  tell = λ conn.
      let P : List StandsLine → Type 0 = AreNextPending (context_on T limit conn) (trace_of conn h) [] in
      tell_front (context_on T limit conn) (trace_of conn h) [] (lines_on conn a) (lines_on conn b) (subst P (filter-append (λ (s : StandsLine). s.conn == conn) a b) (m.tell conn));
}

misplaced_not : (T : Table) (limit : ℕ) (h : History) (told front back : List StandsLine) (s : StandsLine) → told ≡ front ++ s ∷ back
    → (MayBeListed T limit h (front ++ s ∷ []) → ⊥) → MayBeListed T limit h told → ⊥
misplaced_not T limit h told front back s e ends begin =
    let P : List StandsLine → Type 0 = MayBeListed T limit h in
    ends (begins_front T limit h (front ++ s ∷ []) back (subst P (e ∙ sym (append_assoc front (s ∷ []) back)) begin))

misplaced_whole : (T : Table) (limit : ℕ) (h : History) (told front back : List StandsLine) (s : StandsLine) → told ≡ front ++ s ∷ back
    → (MayBeListed T limit h (front ++ s ∷ []) → ⊥) → (told ≡ []) ⊎ AreAllListed T limit h told → ⊥
misplaced_whole T limit h told front back s e ends (inl none) = omega (arith, ap length e, ap length none, length-append front (s ∷ back))
misplaced_whole T limit h told front back s e ends (inr whole) = misplaced_not T limit h told front back s e ends whole.begin

missing_whole : (T : Table) (limit : ℕ) (h : History) (told : List StandsLine) → (told ≡ [] → ⊥)
    → (AreAllListed T limit h told → ⊥) → (told ≡ []) ⊎ AreAllListed T limit h told → ⊥
missing_whole T limit h told some not_whole (inl none) = some none
missing_whole T limit h told some not_whole (inr whole) = not_whole whole

one_misplaced : (T : Table) (limit : ℕ) (h : History) (front back front' back' : List StandsLine) (s s' : StandsLine) → front ++ s ∷ back ≡ front' ++ s' ∷ back'
    → MayBeListed T limit h front → MayBeListed T limit h front' → (MayBeListed T limit h (front ++ s ∷ []) → ⊥)
    → (MayBeListed T limit h (front' ++ s' ∷ []) → ⊥) → length front ≡ length front'
one_misplaced T limit h front back front' back' s s' e m m' n n' = elim (split front back front' back' s s' e) [
  | inl here ↦ ap length here.0
  | inr (inl later) ↦ absurd (misplaced_not T limit h front' front later.0 s later.1 n m')
  | inr (inr earlier) ↦ absurd (misplaced_not T limit h front front' earlier.0 s' earlier.1 n' m)
]

one_judged : (T : Table) (limit : ℕ) (h : History) (told : List StandsLine) (one other : Checked) → IsCheckOfHistory T limit h told one → IsCheckOfHistory T limit h told other → one ≡ other
one_judged T limit h told one other (legal l w e) (legal l' w' e') =
    e ∙ sym e'
one_judged T limit h told one other (legal l w e) (broken b' a' x' r' hh' p' br' e') =
    absurd (broken_not T limit h b' a' x' r' hh' (prefixes_of T limit h l) br')
one_judged T limit h told one other (legal l w e) (open_end r' p' f' e') =
    absurd (open_not T limit h r' l f')
one_judged T limit h told one other (legal l w e) (misplaced f' k' s' l' ls' bg' en' e') =
    absurd (misplaced_whole T limit h told f' k' s' ls' en' w)
one_judged T limit h told one other (legal l w e) (missing l' so' bg' nw' e') =
    absurd (missing_whole T limit h told so' nw' w)
one_judged T limit h told one other (broken b a x r hh p br e) (legal l' w' e') =
    absurd (broken_not T limit h b a x r hh (prefixes_of T limit h l') br)
one_judged T limit h told one other (broken b a x r hh p br e) (broken b' a' x' r' hh' p' br' e') =
    let same = one_broken T limit b a b' a' x x' r r' (sym hh ∙ hh') p p' br br' in e ∙ (λ i. Illegal (same.0 i + 1) (same.1 i)) ∙ sym e'
one_judged T limit h told one other (broken b a x r hh p br e) (open_end r' p' f' e') =
    absurd (broken_not T limit h b a x r hh p' br)
one_judged T limit h told one other (broken b a x r hh p br e) (misplaced f' k' s' l' ls' bg' en' e') =
    absurd (broken_not T limit h b a x r hh (prefixes_of T limit h l') br)
one_judged T limit h told one other (broken b a x r hh p br e) (missing l' so' bg' nw' e') =
    absurd (broken_not T limit h b a x r hh (prefixes_of T limit h l') br)
one_judged T limit h told one other (open_end r p f e) (legal l' w' e') =
    absurd (open_not T limit h r l' f)
one_judged T limit h told one other (open_end r p f e) (broken b' a' x' r' hh' p' br' e') =
    absurd (broken_not T limit h b' a' x' r' hh' p br')
one_judged T limit h told one other (open_end r p f e) (open_end r' p' f' e') =
    e ∙ ap (Illegal (length h + 1)) (one_open h r r' f f') ∙ sym e'
one_judged T limit h told one other (open_end r p f e) (misplaced f' k' s' l' ls' bg' en' e') =
    absurd (open_not T limit h r l' f)
one_judged T limit h told one other (open_end r p f e) (missing l' so' bg' nw' e') =
    absurd (open_not T limit h r l' f)
one_judged T limit h told one other (misplaced f k s l ls bg en e) (legal l' w' e') =
    absurd (misplaced_whole T limit h told f k s ls en w')
one_judged T limit h told one other (misplaced f k s l ls bg en e) (broken b' a' x' r' hh' p' br' e') =
    absurd (broken_not T limit h b' a' x' r' hh' (prefixes_of T limit h l) br')
one_judged T limit h told one other (misplaced f k s l ls bg en e) (open_end r' p' f' e') =
    absurd (open_not T limit h r' l f')
one_judged T limit h told one other (misplaced f k s l ls bg en e) (misplaced f' k' s' l' ls' bg' en' e') =
    let same = one_misplaced T limit h f k f' k' s s' (sym ls ∙ ls') bg bg' en en' in e ∙ ap (λ (n : ℕ). Illegal (length h + n + 1) Stands) same ∙ sym e'
one_judged T limit h told one other (misplaced f k s l ls bg en e) (missing l' so' bg' nw' e') =
    absurd (misplaced_not T limit h told f k s ls en bg')
one_judged T limit h told one other (missing l so bg nw e) (legal l' w' e') =
    absurd (missing_whole T limit h told so nw w')
one_judged T limit h told one other (missing l so bg nw e) (broken b' a' x' r' hh' p' br' e') =
    absurd (broken_not T limit h b' a' x' r' hh' (prefixes_of T limit h l) br')
one_judged T limit h told one other (missing l so bg nw e) (open_end r' p' f' e') =
    absurd (open_not T limit h r' l f')
one_judged T limit h told one other (missing l so bg nw e) (misplaced f' k' s' l' ls' bg' en' e') =
    absurd (misplaced_not T limit h told f' k' s' ls' en' bg)
one_judged T limit h told one other (missing l so bg nw e) (missing l' so' bg' nw' e') =
    e ∙ sym e'

pub one_answer : TextLaws → (T : Table) (declared : Declared) (limit : ℕ) (text : List ℕ) (one other : Checked)
    → IsValid T → IsCheckOfText T declared limit text one → IsCheckOfText T declared limit text other → one ≡ other
one_answer laws T declared limit text one other valid a b =
    let same = one_reading laws T declared text a.history b.history a.stands b.stands valid a.tells b.tells in
    let H : History → Type 0 = λ h. IsCheckOfHistory T limit h b.stands other in
    let S : List StandsLine → Type 0 = λ told. IsCheckOfHistory T limit a.history told other in
    one_judged T limit a.history a.stands one other a.judged (subst S (sym same.1) (subst H (sym same.0) b.judged))
