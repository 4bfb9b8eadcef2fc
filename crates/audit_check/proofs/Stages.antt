-- The judgement after one more line.
use Rattle.std.proofs.Common.{◌≡◌, ℕ, ◌+◌, ◌⊎◌, List, [], ◌∷◌, ◌++◌, Option, Some, None, IfNone, MatchResult, Result, Ok, Err, length, arith, ap}
use Rattle.std.proofs.Common.{sym, subst, ◌∙◌, inl, inr, append_assoc, length-append}
use Rattle.std.proofs.lemmas.Bool.Decides.{eqb_tells}
use Rattle.mrpc_table.specs.declared.table.Table.{Table}
use Rattle.call_history.specs.Trace.{Trace}
use Rattle.call_history.specs.Legal.{History, IsLegal, IsLegalPrefix, HasNoObligation, trace_of}
use Rattle.call_history.specs.Rules.{CanFollow}
use Rattle.call_history.specs.declared.happening.ConnectionEvent.{ConnectionEvent}
use Rattle.audit_check.specs.Checking.{AreLegalPrefixes, IsCheckOfHistory, StandsLine, broken as judged_broken, misplaced as judged_misplaced, context_on, open_end}
use Rattle.audit_check.specs.Stages.{HasBrokenRule, IsEventStage, IsIllegalAt, IsMisplaced, IsStage}
use Rattle.audit_check.specs.declared.checked.Checked.TheVariants.{Illegal}
use Rattle.audit_check.specs.declared.connections.Checkers.{Checkers}
use Rattle.audit_check.specs.declared.stage.Illegal.{Illegal as Place}
use Rattle.audit_check.specs.declared.stage.Stage.{Stage}
use Rattle.audit_check.specs.declared.stage.Stage.TheVariants.{Events}
use Rattle.audit_check.proofs.Known.{behind-more, behind-other}

pub if_none_at : {A : Type 0} (o : Option A) (P : Type 0) → o ≡ None → IfNone o P → P
if_none_at None P e p = p
if_none_at (Some x) P e p = absurd cc

-- legal prefixes, and one more event
pub prefixes_more : (T : Table) (limit : ℕ) (h : History) (next : ConnectionEvent) → AreLegalPrefixes T limit h
    → CanFollow (context_on T limit next.conn) (trace_of next.conn h) next.what → AreLegalPrefixes T limit (h ++ next ∷ [])
prefixes_more T limit h next prefixes may conn = elim (eqb_tells next.conn conn) [
  | inl same ↦
      let P : Trace → Type 0 = IsLegalPrefix (context_on T limit conn) in
      let M : ℕ → Type 0 = λ conn. CanFollow (context_on T limit conn) (trace_of conn h) next.what in
      subst P (sym (behind-more conn h next same.1)) (prefixes conn, subst M same.1 may)
  | inr other ↦
      let P : Trace → Type 0 = IsLegalPrefix (context_on T limit conn) in
      subst P (sym (behind-other conn h next other.1)) (prefixes conn)
]

pub stage_at : (T : Table) (limit : ℕ) (h : History) (told : List StandsLine) (stage : Stage) (c : Checkers)
    → stage ≡ Events c → IsStage T limit h told stage → IsEventStage T limit h told c
stage_at T limit h told stage c e is = let P : Stage → Type 0 = IsStage T limit h told in subst P e is

pub ok_at : {A B : Type 0} (r : Result A B) (P : A → Type 0) (Q : B → Type 0) (x : A) → r ≡ Ok x → MatchResult r P Q → P x
ok_at {A} {B} r P Q x e m = let M : Result A B → Type 0 = λ r. MatchResult r P Q in subst M e m

pub err_at : {A B : Type 0} (r : Result A B) (P : A → Type 0) (Q : B → Type 0) (x : B) → r ≡ Err x → MatchResult r P Q → Q x
err_at {A} {B} r P Q x e m = let M : Result A B → Type 0 = λ r. MatchResult r P Q in subst M e m

pub legal_now : (T : Table) (limit : ℕ) (h : History) → AreLegalPrefixes T limit h → ((conn : ℕ) → HasNoObligation (trace_of conn h)) → IsLegal T limit h
legal_now T limit h prefixes settled conn = record { prefix = prefixes conn; closed = settled conn }

some_more : (told : List StandsLine) (s : StandsLine) → told ++ s ∷ [] ≡ [] → ⊥
some_more told s e = omega (arith, ap length e, length-append told (s ∷ []))

pub some_lines : (told : List StandsLine) (s : StandsLine) → told ++ s ∷ [] ≡ [] → ⊥
some_lines = some_more

pub first_line_at : (h : History) (told : List StandsLine) (line : ℕ) → line ≡ length h + length told + 1 → told ≡ [] → line ≡ length h + 1
first_line_at h told line e none = omega (arith, e, ap length none)

misplaced_more : (T : Table) (limit : ℕ) (h : History) (told : List StandsLine) (s : StandsLine) (i : Place) → IsMisplaced T limit h told i → IsMisplaced T limit h (told ++ s ∷ []) i
misplaced_more T limit h told s i m = record {
  legal = m.legal;
  front = m.front;
  back = m.back ++ s ∷ [];
  next = m.next;
  lines = ap (λ (l : List StandsLine). l ++ s ∷ []) m.lines ∙ append_assoc m.front (m.next ∷ m.back) (s ∷ []);
  begin = m.begin;
  ends = m.ends;
  counted = m.counted;
  rule = m.rule;
}

-- what is illegal stays illegal after one more line
pub illegal_more : (T : Table) (limit : ℕ) (h : History) (told : List StandsLine) (s : StandsLine) (i : Place)
    → IsIllegalAt T limit h told i
    → HasBrokenRule T limit h i ⊎ ((told ++ s ∷ [] ≡ [] → ⊥) × IsIllegalAt T limit h (told ++ s ∷ []) i)
illegal_more T limit h told s i (inl broken) = inl broken
illegal_more T limit h told s i (inr (inl left)) = inr (some_more told s, inr (inl left))
illegal_more T limit h told s i (inr (inr m)) = inr (some_more told s, inr (inr (misplaced_more T limit h told s i m)))

-- what is illegal, as the result has it
pub illegal_judged : (T : Table) (limit : ℕ) (h : History) (told : List StandsLine) (i : Place) → IsIllegalAt T limit h told i → IsCheckOfHistory T limit h told (Illegal i.line i.rule)
illegal_judged T limit h told i (inl b) = judged_broken b.before b.after b.next i.rule b.history b.prefixes b.breaks (ap (λ (line : ℕ). Illegal line i.rule) b.counted)
illegal_judged T limit h told i (inr (inl o)) = open_end i.rule o.prefixes o.first (ap (λ (line : ℕ). Illegal line i.rule) o.counted)
illegal_judged T limit h told i (inr (inr m)) = judged_misplaced m.front m.back m.next m.legal m.lines m.begin m.ends (λ j. Illegal (m.counted j) (m.rule j))
