-- The reported line numbers are those of lines of the audit, or of the one after its last.
use Rattle.std.proofs.Common.{◌≡◌, ◌∙◌, ℕ, ◌+◌, ◌<◌, ◌≤◌, List, [], ◌∷◌, ◌++◌, length, length-append, flat_map, ap, arith}
use Rattle.std.proofs.lemmas.List.Concat.{flat_map-cons}
use Rattle.mrpc_table.specs.Text.{spaced}
use Rattle.mrpc_table.specs.declared.table.Table.{Table}
use Rattle.policy_declarations.specs.Declarations.{Declared}
use Rattle.audit_text.specs.Lines.{audit, audit_line, happening_words, stands_words}
use Rattle.call_history.specs.Legal.{History}
use Rattle.audit_rules.specs.declared.rule.Rule.{Rule}
use Rattle.audit_check.specs.Checking.{StandsLine, IsAuditOf, IsCheckOfText, IsCheckOfHistory, IsFirstInvalidAuditLine, bytes_of_stands, bytes_of_all_stands}
use Rattle.audit_check.specs.Checking.IsCheckOfHistory.{legal, broken, open_end, misplaced, missing}
use Rattle.audit_check.specs.declared.checked.Checked.TheVariants.{Legal, Illegal}

-- each line has its line feed
flat_long : {A : Type 0} (f : A → List ℕ) → ((x : A) → 0 < length (f x)) → (xs : List A)
    → length xs ≤ length (flat_map f xs)
flat_long f some [] = omega arith
flat_long f some (x ∷ xs) =
    let whole = ap length (flat_map-cons f x xs) in
    let parts = length-append (f x) (flat_map f xs) in
    omega (arith, whole, parts, some x, flat_long f some xs)

some_line : (words : List (List ℕ)) → 0 < length (spaced words ++ 10 ∷ [])
some_line words = omega (arith, length-append (spaced words) (10 ∷ []))

lines_long : (T : Table) (d : Declared) (text : List ℕ) (h : History) (stands : List StandsLine)
    → IsAuditOf T d text h stands → length h + length stands ≤ length text
lines_long T d text h stands tells =
    let happenings = flat_long (audit_line T) (λ x. some_line (happening_words T x.conn x.what)) h in
    let calls = flat_long bytes_of_stands (λ s. some_line (stands_words s.conn s.seq s.position s.name s.holding)) stands in
    let whole = ap length tells.is_text in
    let parts = length-append (audit T h) (bytes_of_all_stands stands) in
    omega (arith, happenings, calls, whole, parts)

pub bad_near : (T : Table) (d : Declared) (text : List ℕ) (line : ℕ) → IsFirstInvalidAuditLine T d text line → line ≤ length text + 1
bad_near T d text line bad =
    let front = lines_long T d bad.front bad.history bad.stands bad.before in
    let whole = ap length bad.is_text ∙ length-append bad.front bad.rest in
    omega (arith, front, whole, bad.counted)

same_line : (line other : ℕ) (rule also : Rule) → Illegal line rule ≡ Illegal other also → line ≡ other
same_line line other rule also e = cc

never_legal : (line happenings calls : ℕ) (rule : Rule) → Illegal line rule ≡ Legal happenings calls → ⊥
never_legal line happenings calls rule e = absurd cc

judged_near : (T : Table) (limit : ℕ) (h : History) (stands : List StandsLine) (line : ℕ) (rule : Rule)
    → IsCheckOfHistory T limit h stands (Illegal line rule) → line ≤ length h + length stands + 1
judged_near T limit h stands line rule (legal whole told e) =
    absurd (never_legal line (length h) (length stands) rule e)
judged_near T limit h stands line rule (broken before after x first whole prefixes breaks e) =
    let at = same_line line (length before + 1) rule first e in
    let size = ap length whole ∙ length-append before (x ∷ after) in
    omega (arith, at, size)
judged_near T limit h stands line rule (open_end first prefixes left e) =
    omega (arith, same_line line (length h + 1) rule first e)
judged_near T limit h stands line rule (misplaced front back s whole is may cannot e) =
    let size = ap length is ∙ length-append front (s ∷ back) in
    let at = same_line _ _ _ _ e in
    omega (arith, at, size)
judged_near T limit h stands line rule (missing whole some may not e) =
    let at = same_line _ _ _ _ e in
    omega (arith, at)

pub illegal_near : (T : Table) (d : Declared) (limit : ℕ) (text : List ℕ) (line : ℕ) (rule : Rule)
    → IsCheckOfText T d limit text (Illegal line rule) → line ≤ length text + 1
illegal_near T d limit text line rule checked =
    let all = lines_long T d text checked.history checked.stands checked.tells in
    omega (arith, all, judged_near T limit checked.history checked.stands line rule checked.judged)
