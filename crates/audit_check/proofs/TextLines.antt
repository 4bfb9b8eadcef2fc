-- A text that is read line by line.
use Rattle.std.proofs.Common.{◌≡◌, ◌≢◌, ℕ, ◌+◌, ◌<◌, ◌≤◌, ◌⊎◌, Bool, true, false, cond, List, [], ◌∷◌, ◌++◌, All}
use Rattle.std.proofs.Common.{Option, Some, None, IfSome, option_map, find, length, arith, refl, ap, sym, subst, ◌∙◌}
use Rattle.std.proofs.Common.{inl, inr, append_assoc, length-append, Result, Ok, Err}
use Rattle.std.specs.Prelude.{MatchResult}
use Rattle.std.specs.Str.{bytes_eq}
use Rattle.std.proofs.lemmas.Grind.{flat_map-append}
use Rattle.std.proofs.lemmas.List.{append-nil}
use Rattle.std.proofs.lemmas.List.Elements.{All-head, All-push, All-tail, All-nil}
use Rattle.mrpc_table.specs.Text.{line, spaced}
use Rattle.mrpc_table.specs.Valid.{IsValid}
use Rattle.mrpc_table.specs.declared.table.Table.{Table}
use Rattle.engine_core.specs.Policies.{IsPolicy}
use Rattle.engine_core.specs.declared.op.Op.TheVariants.{Attach, Detach, Upgrade}
use Rattle.engine_core.specs.declared.policy.Policy.{Policy}
use Rattle.call_history.specs.Legal.{History}
use Rattle.call_history.specs.declared.happening.ConnectionEvent.{ConnectionEvent as Next}
use Rattle.call_history.specs.declared.happening.Happening.{Happening}
use Rattle.call_history.specs.declared.happening.Happening.TheVariants.{Took, Away, Op, Moment, Charged, Drawn, Counted, Redacted, Sent, Refused}
use Rattle.call_history.specs.declared.happening.AcceptedCall.{AcceptedCall}
use Rattle.call_history.specs.declared.happening.TookCopy.{TookCopy}
use Rattle.call_history.specs.declared.happening.TookCopy.TheVariants.{Copy, Malformed}
use Rattle.policy_declarations.specs.Declarations.{Declared}
use Rattle.policy_declarations.specs.declared.declaration.NamedPolicy.{NamedPolicy}
use Rattle.audit_text.specs.Lines.{IsSplitInto, audit, audit_line, happening_words, stands_words, stands_line}
use Rattle.audit_text.specs.Writable.{CanBeWritten, IsWritablePendingCall, IsWritableCopy, IsWritable}
use Rattle.audit_text.specs.declared.holding.Holding.{Holding}
use Rattle.audit_text.specs.declared.reading.AuditFault.{AuditFault}
use Rattle.audit_text.specs.LineBytes.{IsWritableLine, bytes_of_line}
use Rattle.audit_text.specs.declared.line.AuditLine.{AuditLine}
use Rattle.audit_text.specs.declared.line.AuditLine.TheVariants.{Happened, Stands}
use Rattle.audit_rules.specs.CheckerState.{IsCopyBy, IsReadable}
use Rattle.audit_text.specs.Faults.{IfBad}
use Rattle.audit_check.specs.Checking.{IsFirstInvalidAuditLine, IsStandsLine, StandsLine, IsAuditOf, bytes_of_stands, bytes_of_all_stands}
use Rattle.audit_check.specs.TextProgress.{IsFaultOfLine, IsRead, IsReadableLine, IsProgressAfterLine}
use Rattle.audit_check.specs.declared.progress.TextProgress.{TextProgress}
use Rattle.audit_check.specs.States.{IsTerminatedLine, IsFirstLine}
use Rattle.audit_check.proofs.Cuts.{Lacks, cut_nowhere, cut_once}

-- ---- lines

abbrev pub HappeningsCut : Type 0
HappeningsCut = (T : Table) (declared : Declared) (x : Next) → IsValid T → IsWritable T declared x → IsSplitInto (happening_words T x.conn x.what)

abbrev pub StandsCut : Type 0
StandsCut = (conn seq position : ℕ) (name : List ℕ) (holding : Option Holding) → IsWritablePendingCall conn seq position name holding → IsSplitInto (stands_words conn seq position name holding)

pub happening_ends : HappeningsCut → (T : Table) (declared : Declared) (x : Next) → IsValid T → IsWritable T declared x → IsTerminatedLine (audit_line T x)
happening_ends cut T declared x valid h = (spaced (happening_words T x.conn x.what), refl, (cut T declared x valid h).one_line)

pub stands_ends : StandsCut → (s : StandsLine) → IsStandsLine s → IsTerminatedLine (bytes_of_stands s)
stands_ends cut s h = (spaced (stands_words s.conn s.seq s.position s.name s.holding), refl, (cut s.conn s.seq s.position s.name s.holding h).one_line)

pub lacks : (xs : List ℕ) → All (λ c. c ≢ 10) xs → Lacks 10 xs
lacks [] all = tt
lacks (x ∷ xs) all = (All-head (λ c. c ≢ 10) x xs all, lacks xs (All-tail (λ c. c ≢ 10) x xs all))

pub at_feed : (text front rest : List ℕ) (whole : List ℕ) → whole ≡ front ++ 10 ∷ [] → text ≡ whole ++ rest → text ≡ front ++ 10 ∷ rest
at_feed text front rest whole e joined = joined ∙ ap (λ (l : List ℕ). l ++ rest) e ∙ append_assoc front (10 ∷ []) rest

at_end : (text first rest other behind : List ℕ) → text ≡ first ++ rest
    → IsTerminatedLine first ⊎ (All (λ c. c ≢ 10) first × (rest ≡ [])) → IsTerminatedLine other → text ≡ other ++ behind
    → first ≡ other
at_end text first rest other behind joined (inl here) ends e =
    let one = at_feed text here.0 rest first here.1 joined in
    let two = at_feed text ends.0 behind other ends.1 e in
    let same = cut_once 10 here.0 ends.0 rest behind (lacks here.0 here.2) (lacks ends.0 ends.2) (sym one ∙ two) in
    here.1 ∙ ap (λ (l : List ℕ). l ++ 10 ∷ []) same.0 ∙ sym ends.1
at_end text first rest other behind joined (inr none) ends e =
    let all : text ≡ first = joined ∙ ap (λ (l : List ℕ). first ++ l) none.1 ∙ append-nil first in
    absurd (cut_nowhere 10 text ends.0 behind (subst (Lacks 10) (sym all) (lacks first none.0)) (at_feed text ends.0 behind other ends.1 e))

-- a line at the start of a text is its first line
front_line : (text first rest other behind : List ℕ) → IsFirstLine text first rest → IsTerminatedLine other → text ≡ other ++ behind → first ≡ other
front_line text first rest other behind is ends e = at_end text first rest other behind is.joined is.ends ends e

pub some_byte : (first : List ℕ) → IsTerminatedLine first → 0 < length first
some_byte first ends = omega (arith, ap length ends.1, length-append ends.0 (10 ∷ []))

-- ---- texts

pub line-long : (ws : List (List ℕ)) → 0 < length (line ws)
line-long ws = omega (arith, length-append (spaced ws) (10 ∷ []))

audit-long : (T : Table) (h : History) → length h ≤ length (audit T h)
audit-long T [] = omega arith
audit-long T (x ∷ h) = omega (arith, length-append (audit_line T x) (audit T h), line-long (happening_words T x.conn x.what), audit-long T h)

lines-long : (told : List StandsLine) → length told ≤ length (bytes_of_all_stands told)
lines-long [] = omega arith
lines-long (s ∷ told) = omega (arith, length-append (bytes_of_stands s) (bytes_of_all_stands told), line-long (stands_words s.conn s.seq s.position s.name s.holding), lines-long told)

pub tells_short : (T : Table) (declared : Declared) (front : List ℕ) (h : History) (told : List StandsLine) → IsAuditOf T declared front h told → length h + length told ≤ length front
tells_short T declared front h told t = omega (arith, ap length t.is_text, length-append (audit T h) (bytes_of_all_stands told), audit-long T h, lines-long told)

pub tells_nothing : (T : Table) (declared : Declared) → IsAuditOf T declared [] [] []
tells_nothing T declared = record { is_text = refl; writable = All-nil (IsWritable T declared); in_range = All-nil IsStandsLine }

-- one more event, if no line of a pending call came
pub tells_happening : (T : Table) (declared : Declared) (front first : List ℕ) (h : History) (told : List StandsLine) (x : Next)
    → IsAuditOf T declared front h told → told ≡ [] → IsWritable T declared x → first ≡ audit_line T x → IsAuditOf T declared (front ++ first) (h ++ x ∷ []) told
tells_happening T declared front first h told x t none writable e =
    let none_text : bytes_of_all_stands told ≡ [] = ap bytes_of_all_stands none in
    let whole : front ≡ audit T h = t.is_text ∙ ap (λ (l : List ℕ). audit T h ++ l) none_text ∙ append-nil (audit T h) in
    let more : audit T (h ++ x ∷ []) ≡ audit T h ++ (audit_line T x ++ []) = flat_map-append (audit_line T) h (x ∷ []) in
    record {
      is_text = ap (λ (l : List ℕ). l ++ first) whole ∙ ap (λ (l : List ℕ). audit T h ++ l) (e ∙ sym (append-nil (audit_line T x))) ∙ sym more
          ∙ sym (append-nil (audit T (h ++ x ∷ []))) ∙ ap (λ (l : List ℕ). audit T (h ++ x ∷ []) ++ l) (sym none_text);
      writable = All-push (IsWritable T declared) h x t.writable writable;
      in_range = t.in_range;
    }

pub tells_standing : (T : Table) (declared : Declared) (front first : List ℕ) (h : History) (told : List StandsLine) (s : StandsLine)
    → IsAuditOf T declared front h told → IsStandsLine s → first ≡ bytes_of_stands s → IsAuditOf T declared (front ++ first) h (told ++ s ∷ [])
tells_standing T declared front first h told s t in' e =
    let more : bytes_of_all_stands (told ++ s ∷ []) ≡ bytes_of_all_stands told ++ (bytes_of_stands s ++ []) = flat_map-append bytes_of_stands told (s ∷ []) in
    record {
      is_text = ap (λ (l : List ℕ). l ++ first) t.is_text ∙ append_assoc (audit T h) (bytes_of_all_stands told) first
          ∙ ap (λ (l : List ℕ). audit T h ++ (bytes_of_all_stands told ++ l)) (e ∙ sym (append-nil (bytes_of_stands s))) ∙ ap (λ (l : List ℕ). audit T h ++ l) (sym more);
      writable = t.writable;
      in_range = All-push IsStandsLine told s t.in_range in';
    }

-- ---- faults

some_text : (rest : List ℕ) → 0 < length rest → rest ≡ [] → ⊥
some_text rest some e = omega (arith, some, ap length e)

-- what follows is no line
pub no_line : HappeningsCut → StandsCut → (T : Table) (declared : Declared) (text front rest first others : List ℕ) (h : History) (told : List StandsLine) → IsValid T
    → text ≡ front ++ rest → IsAuditOf T declared front h told → 0 < length rest → IsFirstLine rest first others
    → ((x : AuditLine) → IsWritableLine T declared x → first ≡ bytes_of_line T x → ⊥) → IsFirstInvalidAuditLine T declared text (length h + length told + 1)
no_line happenings stands T declared text front rest first others h told valid is_text t some is none = record {
  front = front;
  rest = rest;
  history = h;
  stands = told;
  is_text = is_text;
  before = t;
  more = some_text rest some;
  no_event = λ untold x writable begins.
      none (Happened x) writable (front_line rest first others (audit_line T x) begins.0 is
      (happening_ends happenings T declared x valid writable) begins.1);
  no_pending = λ s in' begins. none (Stands s.conn s.seq s.position s.name s.holding) in' (front_line rest first others (bytes_of_stands s) begins.0 is (stands_ends stands s in') begins.1);
  counted = refl;
}

abbrev pub AreApart : Type 0
AreApart = (T : Table) (x : Next) (conn seq position : ℕ) (name : List ℕ) (holding : Option Holding) → stands_line conn seq position name holding ≢ audit_line T x

-- what follows is an event after a pending call
pub late_happening : StandsCut → AreApart → (T : Table) (declared : Declared) (text front rest first others : List ℕ) (h : History) (told : List StandsLine) (x : Next)
    → text ≡ front ++ rest → IsAuditOf T declared front h told → 0 < length rest → IsFirstLine rest first others
    → (told ≡ [] → ⊥) → first ≡ audit_line T x → IsFirstInvalidAuditLine T declared text (length h + length told + 1)
late_happening stands apart T declared text front rest first others h told x is_text t some is late e = record {
  front = front;
  rest = rest;
  history = h;
  stands = told;
  is_text = is_text;
  before = t;
  more = some_text rest some;
  no_event = λ untold y writable begins. late untold;
  no_pending = λ s in' begins. apart T x s.conn s.seq s.position s.name s.holding (sym (front_line rest first others (bytes_of_stands s) begins.0 is (stands_ends stands s in') begins.1) ∙ e);
  counted = refl;
}

-- ---- events that can be judged

abbrev named : List ℕ → List NamedPolicy → Option Policy
named label policies = option_map (λ p. p.policy) (find (λ p. bytes_eq p.name label) policies)

found_here : (label : List ℕ) (p : NamedPolicy) (policies : List NamedPolicy) (policy : Policy) (b : Bool) → All (λ p. IsPolicy p.policy) (p ∷ policies)
    → ((e : named label policies ≡ Some policy) → IsPolicy policy)
    → option_map (λ (p : NamedPolicy). p.policy) (cond b (Some p) (find (λ p. bytes_eq p.name label) policies))
    ≡ Some policy → IsPolicy policy
found_here label p policies policy true all later e = let same : p.policy ≡ policy = cc in subst IsPolicy same (All-head (λ p. IsPolicy p.policy) p policies all)
found_here label p policies policy false all later e = later e

copy_by : (T : Table) (call : AcceptedCall) (copy : TookCopy) → IsWritableCopy T call copy → IsCopyBy T call copy
copy_by T call (Copy tree) h = (h.method, h.normal)
copy_by T call (Malformed reason place value) h = tt

found_policy : (label : List ℕ) (policies : List NamedPolicy) (policy : Policy) → All (λ p. IsPolicy p.policy) policies → named label policies ≡ Some policy → IsPolicy policy
found_policy label [] policy all e = absurd cc
found_policy label (p ∷ policies) policy all e = found_here label p policies policy (bytes_eq p.name label) all
    (found_policy label policies policy (All-tail (λ p. IsPolicy p.policy) p policies all)) e

pub readable : (T : Table) (declared : Declared) (x : Happening) → All (λ p. IsPolicy p.policy) declared.policies → CanBeWritten T declared x → IsReadable T x
readable T declared (Took call) all h = copy_by T call call.copy h.copy
readable T declared (Away method number addr) all h = tt
readable T declared (Op (Attach at name label policy)) all h = found_policy label declared.policies policy all h.2.under
readable T declared (Op (Detach name)) all h = tt
readable T declared (Op (Upgrade name label policy)) all h = found_policy label declared.policies policy all h.1.under
readable T declared (Moment ms) all h = tt
readable T declared (Charged seq name left) all h = tt
readable T declared (Drawn seq name window ticket) all h = tt
readable T declared (Counted seq name) all h = tt
readable T declared (Redacted seq name version) all h = tt
readable T declared (Sent seq bytes) all h = tt
readable T declared (Refused seq why) all h = tt

pub readable_line : (T : Table) (declared : Declared) (x : AuditLine) → All (λ p. IsPolicy p.policy) declared.policies → IsWritableLine T declared x → IsReadableLine T x
readable_line T declared (Happened x) all h = readable T declared x.what all h.told
readable_line T declared (Stands conn seq position name holding) all h = tt

-- ---- in the form that the reader's loop needs

pub if_some_at : {A : Type 0} (o : Option A) (x : A) (P : A → Type 0) → o ≡ Some x → IfSome o P → P x
if_some_at None x P e h = absurd cc
if_some_at (Some y) x P e h = let same : y ≡ x = cc in subst P same h

-- a text of few bytes has few lines
pub few_lines : (T : Table) (declared : Declared) (limit : ℕ) (text rest : List ℕ) (p : TextProgress) → IsRead T declared limit text rest p → p.happenings + p.stands ≤ length text
few_lines T declared limit text rest p r =
    omega (arith, r.progress.happenings, r.progress.stands, tells_short T declared r.front r.history r.told r.tells, ap length r.is_text, length-append r.front rest)

pub fails_as : StandsCut → AreApart → (T : Table) (declared : Declared) (limit : ℕ) (text rest first others : List ℕ) (p : TextProgress) (x : AuditLine) (fault : AuditFault)
    → (r : IsRead T declared limit text rest p) → 0 < length rest → IsFirstLine rest first others → first ≡ bytes_of_line T x → IsFaultOfLine r.history r.told x fault
    → IfBad (IsFirstInvalidAuditLine T declared text) fault
fails_as cut apart T declared limit text rest first others p (Happened x) fault r some is e (inl late) =
    let F : AuditFault → Type 0 = IfBad (IsFirstInvalidAuditLine T declared text) in
    subst F (sym late.1) (late_happening cut apart T declared text r.front rest first others r.history r.told x r.is_text r.tells some is late.0 e)
fails_as cut apart T declared limit text rest first others p (Happened x) fault r some is e (inr memory) =
    let F : AuditFault → Type 0 = IfBad (IsFirstInvalidAuditLine T declared text) in subst F (sym memory) tt
fails_as cut apart T declared limit text rest first others p (Stands conn seq position name holding) fault r some is e memory =
    let F : AuditFault → Type 0 = IfBad (IsFirstInvalidAuditLine T declared text) in subst F (sym memory) tt

joined_more : (text front rest first others : List ℕ) → text ≡ front ++ rest → rest ≡ first ++ others → text ≡ (front ++ first) ++ others
joined_more text front rest first others e f = e ∙ ap (λ (l : List ℕ). front ++ l) f ∙ sym (append_assoc front first others)

pub read_more : (T : Table) (declared : Declared) (limit : ℕ) (text rest first others : List ℕ) (p p' : TextProgress) (x : AuditLine)
    → (r : IsRead T declared limit text rest p) → rest ≡ first ++ others → IsWritableLine T declared x → first ≡ bytes_of_line T x → IsProgressAfterLine T limit r.history r.told x p'
    → IsRead T declared limit text others p'
read_more T declared limit text rest first others p p' (Happened x) r joined in' e takes = record {
  front = r.front ++ first;
  history = r.history ++ x ∷ [];
  told = r.told;
  is_text = joined_more text r.front rest first others r.is_text joined;
  tells = tells_happening T declared r.front first r.history r.told x r.tells takes.0 in' e;
  progress = takes.1;
}
read_more T declared limit text rest first others p p' (Stands conn seq position name holding) r joined in' e takes =
    let s : StandsLine = record { conn = conn; seq = seq; position = position; name = name; holding = holding } in
    record {
      front = r.front ++ first;
      history = r.history;
      told = r.told ++ s ∷ [];
      is_text = joined_more text r.front rest first others r.is_text joined;
      tells = tells_standing T declared r.front first r.history r.told s r.tells in' e;
      progress = takes;
    }

pub read_whole : (T : Table) (declared : Declared) (limit : ℕ) (text rest : List ℕ) (p : TextProgress)
    → (r : IsRead T declared limit text rest p) → rest ≡ [] → IsAuditOf T declared text r.history r.told
read_whole T declared limit text rest p r none =
    let P : List ℕ → Type 0 = λ text. IsAuditOf T declared text r.history r.told in
    subst P (sym (r.is_text ∙ ap (λ (l : List ℕ). r.front ++ l) none ∙ append-nil r.front)) r.tells

-- a line was applied, or failed
pub taken_on : StandsCut → AreApart → (T : Table) (declared : Declared) (limit : ℕ) (text rest first others : List ℕ) (p p' : TextProgress) (x : AuditLine) (result : Result (Unit {0}) AuditFault)
    → (r : IsRead T declared limit text rest p) → 0 < length rest → IsFirstLine rest first others → IsWritableLine T declared x → first ≡ bytes_of_line T x
    → MatchResult result (λ _. IsProgressAfterLine T limit r.history r.told x p') (IsFaultOfLine r.history r.told x)
    → MatchResult result (λ _. IsRead T declared limit text others p') (IfBad (IsFirstInvalidAuditLine T declared text))
taken_on cut apart T declared limit text rest first others p p' x (Ok u) r some is in' e takes = read_more T declared limit text rest first others p p' x r is.joined in' e takes
taken_on cut apart T declared limit text rest first others p p' x (Err fault) r some is in' e fails = fails_as cut apart T declared limit text rest first others p x fault r some is e fails
