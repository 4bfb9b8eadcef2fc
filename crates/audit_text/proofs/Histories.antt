-- Texts line by line.
use Rattle.std.proofs.Common.{◌≡◌, ◌≢◌, ℕ, suc, ◌+◌, ◌<◌, ◌==◌, false, List, [], ◌∷◌, ◌++◌, length, take, drop, refl}
use Rattle.std.proofs.Common.{ap, sym, ◌∙◌, arith, All, Some, None, Option, subst, append_assoc, append-nil}
use Rattle.std.proofs.Common.{length-append}
use Rattle.std.specs.Prelude.{IfSome}
use Rattle.std.specs.List.{slice_split}
use Rattle.std.proofs.lemmas.Bool.{ne_eqb}
use Rattle.std.proofs.lemmas.Grind.{flat_map-append}
use Rattle.std.proofs.lemmas.List.Elements.{All-head, All-tail}
use Rattle.std.proofs.lemmas.List.Splits.{length-slice_split}
use Rattle.mrpc_table.specs.Text.{spaced}
use Rattle.mrpc_table.specs.Valid.{IsValid}
use Rattle.mrpc_table.specs.declared.table.Table.{Table}
use Rattle.call_history.specs.Legal.{History}
use Rattle.call_history.specs.declared.happening.ConnectionEvent.{ConnectionEvent}
use Rattle.policy_declarations.specs.Declarations.{Declared}
use Rattle.audit_text.specs.Lines.{audit, audit_line, happening_words}
use Rattle.audit_text.specs.Writable.{IsWritable}
use Rattle.audit_text.specs.Faults.{HasNoLine, IsFirstInvalidLine}
use Rattle.audit_text.specs.LineWords.{happening_in}
use Rattle.audit_text.specs.LineBytes.{IsWritableLine, bytes_of_line}
use Rattle.audit_text.specs.declared.line.AuditLine.{AuditLine}
use Rattle.audit_text.specs.declared.line.AuditLine.TheVariants as lines
use Rattle.audit_text.proofs.WholeLines.{CutHappening, OneHappening}
use Rattle.audit_text.proofs.WordsOfLines.{not-some}

-- ---- the first line

-- a text splits at its first line feed
pub feed-cut : (front behind : List ℕ) → All (λ c. c ≢ 10) front → slice_split (λ c. c == 10) (front ++ 10 ∷ behind) ≡ front ∷ slice_split (λ c. c == 10) behind
feed-cut [] behind none = refl
feed-cut (c ∷ front) behind none =
    let e : (c == 10) ≡ false = ne_eqb c 10 (All-head (λ c. c ≢ 10) c front none) in
    let again = feed-cut front behind (All-tail (λ c. c ≢ 10) c front none) in rw (e, again) refl

pub take-front : (front behind : List ℕ) → take (length front + 1) (front ++ 10 ∷ behind) ≡ front ++ 10 ∷ []
take-front [] behind = refl
take-front (c ∷ front) behind = let e : length (c ∷ front) + 1 ≡ suc (length front + 1) = omega arith in rw e (ap (λ l. c ∷ l) (take-front front behind))

pub drop-front : (front behind : List ℕ) → drop (length front + 1) (front ++ 10 ∷ behind) ≡ behind
drop-front [] behind = refl
drop-front (c ∷ front) behind = let e : length (c ∷ front) + 1 ≡ suc (length front + 1) = omega arith in rw e (drop-front front behind)

first-same : {X : Type 0} (x y : X) (xs ys : List X) → x ∷ xs ≡ y ∷ ys → (x ≡ y) × (xs ≡ ys)
first-same x y xs ys e = (cc, cc)

pub cut-end : (text front behind line : List ℕ) (lines : List (List ℕ))
    → slice_split (λ c. c == 10) text ≡ line ∷ lines → text ≡ front ++ 10 ∷ behind → All (λ c. c ≢ 10) front
    → length line + 1 ≡ length front + 1
cut-end text front behind line lines cut is none =
    let same = first-same line front lines (slice_split (λ c. c == 10) behind) (sym cut ∙ ap (slice_split (λ c. c == 10)) is ∙ feed-cut front behind none) in
    ap (λ l. length l + 1) same.0

pub uncut : (text front behind : List ℕ) → slice_split (λ c. c == 10) text ≡ text ∷ [] → text ≡ front ++ 10 ∷ behind → All (λ c. c ≢ 10) front → ⊥
uncut text front behind cut is none =
    let same = first-same text front [] (slice_split (λ c. c == 10) behind) (sym cut ∙ ap (slice_split (λ c. c == 10)) is ∙ feed-cut front behind none) in
    omega (arith, ap length same.1, length-slice_split (λ c. c == 10) behind)

-- ---- histories

line-long : (T : Table) (x : ConnectionEvent) → 0 < length (audit_line T x)
line-long T x = omega (arith, length-append (spaced (happening_words T x.conn x.what)) (10 ∷ []))

line-some : (T : Table) (x : ConnectionEvent) (rest : List ℕ) → audit_line T x ++ rest ≢ []
line-some T x rest e = omega (arith, ap length e, length-append (audit_line T x) rest, line-long T x)

-- a text whose remainder after some events is no event's line isn't the audit of a history
pub no-history : OneHappening → (T : Table) → IsValid T → (declared : Declared) (before h : History) (rest : List ℕ)
    → All (IsWritable T declared) before → All (IsWritable T declared) h → rest ≢ [] → HasNoLine T declared rest
    → audit T before ++ rest ≢ audit T h
no-history one T valid declared [] [] rest told all some none e = some e
no-history one T valid declared [] (x ∷ h) rest told all some none e = none x (audit T h) (All-head (IsWritable T declared) x h all) e
no-history one T valid declared (b ∷ before) [] rest told all some none e = line-some T b (audit T before ++ rest) (sym (append_assoc (audit_line T b) (audit T before) rest) ∙ e)
no-history one T valid declared (b ∷ before) (x ∷ h) rest told all some none e =
    let same = one T declared b x (audit T before ++ rest) (audit T h) valid
    (All-head (IsWritable T declared) b before told) (All-head (IsWritable T declared) x h all)
    (sym (append_assoc (audit_line T b) (audit T before) rest) ∙ e) in
    no-history one T valid declared before h rest (All-tail (IsWritable T declared) b before told) (All-tail (IsWritable T declared) x h all) some none same.1

-- if a text has such a remainder after some events and after others, the numbers of events are equal
one-end : OneHappening → (T : Table) → IsValid T → (declared : Declared) (before other : History) (rest left : List ℕ)
    → All (IsWritable T declared) before → All (IsWritable T declared) other → HasNoLine T declared rest
    → HasNoLine T declared left → audit T before ++ rest ≡ audit T other ++ left → length before ≡ length other
one-end one T valid declared [] [] rest left told told_too none none_too e = refl
one-end one T valid declared [] (x ∷ other) rest left told told_too none none_too e =
    absurd (none x (audit T other ++ left) (All-head (IsWritable T declared) x other told_too)
    (e ∙ append_assoc (audit_line T x) (audit T other) left))
one-end one T valid declared (b ∷ before) [] rest left told told_too none none_too e =
    absurd (none_too b (audit T before ++ rest) (All-head (IsWritable T declared) b before told)
    (sym e ∙ append_assoc (audit_line T b) (audit T before) rest))
one-end one T valid declared (b ∷ before) (x ∷ other) rest left told told_too none none_too e =
    let same = one T declared b x (audit T before ++ rest) (audit T other ++ left) valid
    (All-head (IsWritable T declared) b before told) (All-head (IsWritable T declared) x other told_too)
    (sym (append_assoc (audit_line T b) (audit T before) rest) ∙ e ∙ append_assoc (audit_line T x) (audit T other) left) in
    ap suc (one-end one T valid declared before other rest left (All-tail (IsWritable T declared) b before told)
    (All-tail (IsWritable T declared) x other told_too) none none_too same.1)

pub one-bad : OneHappening → (T : Table) → IsValid T → (declared : Declared) (text : List ℕ) (line other : ℕ)
    → IsFirstInvalidLine T declared text line → IsFirstInvalidLine T declared text other → line ≡ other
one-bad one T valid declared text line other a b =
    let long = one-end one T valid declared a.before b.before a.rest b.rest a.told b.told a.none_next b.none_next (sym a.text_is ∙ b.text_is) in
    a.number ∙ ap (λ n. n + 1) long ∙ sym b.number

pub not-both : OneHappening → (T : Table) → IsValid T → (declared : Declared) (text : List ℕ) (h : History) (line : ℕ)
    → All (IsWritable T declared) h → text ≡ audit T h → IsFirstInvalidLine T declared text line → ⊥
not-both one T valid declared text h line all is bad =
    no-history one T valid declared bad.before h bad.rest bad.told all bad.not_empty bad.none_next (sym bad.text_is ∙ is)

-- one more event
pub audit-more : (T : Table) (h : History) (x : ConnectionEvent) (text rest behind : List ℕ) → text ≡ audit T h ++ rest
    → rest ≡ audit_line T x ++ behind → text ≡ audit T (h ++ x ∷ []) ++ behind
audit-more T h x text rest behind is front =
    is ∙ ap (λ l. audit T h ++ l) front ∙ sym (append_assoc (audit T h) (audit_line T x) behind)
    ∙ ap (λ l. l ++ behind) (ap (λ l. audit T h ++ l) (sym (append-nil (audit_line T x))) ∙ sym (flat_map-append (audit_line T) h (x ∷ [])))

-- ---- the event at the start

pub front-none : CutHappening → (T : Table) → IsValid T → (declared : Declared) (text line : List ℕ)
    → ((front behind : List ℕ) → text ≡ front ++ 10 ∷ behind → All (λ c. c ≢ 10) front → line ≡ front ++ 10 ∷ [])
    → (r : Option AuditLine) → ((x : AuditLine) → IsWritableLine T declared x → line ≡ bytes_of_line T x → r ≡ Some x) → happening_in r ≡ None → HasNoLine T declared text
front-none cut T valid declared text line ends r only none x behind holds e =
    let words = happening_words T x.conn x.what in
    let first : line ≡ audit_line T x = ends (spaced words) behind (e ∙ append_assoc (spaced words) (10 ∷ []) behind) (cut T declared x valid holds).one_line in
    not-some x (sym (ap happening_in (only (lines.Happened x) holds first)) ∙ none)

pub front-some : (T : Table) (declared : Declared) (line : List ℕ) (r : Option AuditLine) (x : ConnectionEvent)
    → IfSome r (λ y. line ≡ bytes_of_line T y) → IfSome r (λ y. IsWritableLine T declared y) → happening_in r ≡ Some x
    → (line ≡ audit_line T x) × IsWritable T declared x
front-some T declared line None x told holds e = absurd cc
front-some T declared line (Some (lines.Happened y)) x told holds e =
    let same : y ≡ x = cc in let P : ConnectionEvent → Type 0 = λ z. (line ≡ audit_line T z) × IsWritable T declared z in subst P same (told, holds)
front-some T declared line (Some (lines.Stands conn seq position name holding)) x told holds e = absurd cc

pub nothing-left : (l : List ℕ) → length l ≡ 0 → l ≡ []
nothing-left [] e = refl
nothing-left (x ∷ l) e = absurd (omega (arith, e))
