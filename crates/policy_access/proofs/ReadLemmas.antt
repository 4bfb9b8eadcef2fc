-- The lines before an index, and one more.
use Rattle.std.proofs.Common.{◌≡◌, ℕ, zero, suc, ◌+◌, ◌-◌, ◌<◌, ◌≤◌, ◌||◌, Bool, true, false, List, [], ◌∷◌, ◌++◌}
use Rattle.std.proofs.Common.{length, get_or, take, Option, Some, None, Result, Ok, Err, refl, sym, ap, subst, ◌∙◌}
use Rattle.std.proofs.Common.{arith, inl, inr, length-append}
use Rattle.std.specs.Prelude.{slice_get, Contains, IsTrue}
use Rattle.std.proofs.lemmas.List.{append-nil, take_more, length-map, map_push, take_all}
use Rattle.std.proofs.lemmas.List.Elements.{All-nil, All-push, Contains-push_cases, filter_map-append}
use Rattle.std.proofs.lemmas.List.Folds.{list_any-append}
use Rattle.std.proofs.lemmas.Option.{slice_get_within, slice_get_read, get_or_from_slice_get}
use Rattle.std.proofs.lemmas.Bool.{cases_lt}
use Rattle.mrpc_table.specs.Valid.{AreDistinct}
use Rattle.mrpc_table.specs.declared.table.Table.{Table}
use Rattle.mrpc_table.specs.PolicyLines.{rule_reason_rank}
use Rattle.policy_access.specs.Faults.{is_rule_name, is_among, names_of_lines, has_default, name_in_line, is_default_text, IsAgainst, IsAgainstAt, at_line, no_default, after_default, IsFirstFault, IsFaultOf}
use Rattle.policy_access.specs.Lines.{access_line_of}
use Rattle.policy_access.specs.Reading.{names_of_rules, AreRead, IsDefaultAt}
use Rattle.policy_access.specs.LineContent.{judged_line, reason_after_default}
use Rattle.mrpc_table.specs.PolicyLines.{AreParsed}
use Rattle.policy_access.specs.Texts.{rule_of_line, IsTextOf}
use Rattle.policy_access.specs.Verdict.{AccessPolicy}
use Rattle.policy_access.specs.declared.line.PolicyLine.{PolicyLine}
use Rattle.policy_access.specs.declared.line.PolicyLine.TheVariants as forms
use Rattle.policy_access.specs.declared.rule.Rule.{Rule}
use Rattle.policy_access.specs.Names.{AreKnownNames}
use Rattle.policy_access.specs.declared.names.SeenNames.{SeenNames}
use Rattle.mrpc_table.specs.declared.policy_lines.RuleFault.{RuleFault}
use Rattle.mrpc_table.specs.declared.policy_lines.RuleFault.TheVariants as fault
use Rattle.mrpc_table.specs.declared.policy_lines.RuleReason.{RuleReason}
use Rattle.mrpc_table.specs.declared.policy_lines.RuleReason.TheVariants as reason
use Rattle.policy_access.specs.declared.read.LineContent.{LineContent}
use Rattle.policy_access.specs.declared.read.LineContent.TheVariants as said
use Rattle.policy_access.proofs.NameLemmas.{bytes_same}
use Rattle.policy_access.proofs.Judging.{refused_line, taken_line, default_line, only_behind, taken_says, names_of-said, has_default-said, said-push}

-- ---- names

or_true : (b c : Bool) → c ≡ true → (b || c) ≡ true
or_true true c e = refl
or_true false c e = e

either_true : (b c : Bool) → b ≡ true → (b || c) ≡ true
either_true b c e = rw e refl

among_at : (xs : List (List ℕ)) (k : ℕ) (x : List ℕ) → k < length xs → get_or xs k x ≡ x → is_among x xs ≡ true
among_at [] k x within at = absurd (omega arith)
among_at (y ∷ ys) zero x within at = either_true _ (is_among x ys) (bytes_same x y (sym at))
among_at (y ∷ ys) (suc k) x within at = or_true _ (is_among x ys) (among_at ys k x (omega arith) at)

absent : (xs : List (List ℕ)) (x : List ℕ) → is_among x xs ≡ false → Contains xs x → ⊥
absent xs x fresh c = let clash : true ≡ false = sym (among_at xs c.0 x c.1 c.2) ∙ fresh in absurd cc

Contains-nil : {X : Type 0} (x : X) → Contains [] x → ⊥
Contains-nil x c = omega (arith, c.1)

Contains-cons : {X : Type 0} (x : X) (xs : List X) (y : X) → Contains xs y → Contains (x ∷ xs) y
Contains-cons x xs y c = (suc c.0, omega (arith, c.1), c.2)

Contains-elsewhere : {X : Type 0} (xs : List X) (y x : X) → Contains (xs ++ y ∷ []) x → (Contains xs x → ⊥) → y ≡ x
Contains-elsewhere xs y x c h = elim (Contains-push_cases xs y x c) [ inl before ↦ absurd (h before) | inr same ↦ same ]

AreDistinct-push : {X : Type 0} (xs : List X) (y : X) → AreDistinct xs → (Contains xs y → ⊥) → AreDistinct (xs ++ y ∷ [])
AreDistinct-push [] y h new = (λ c. Contains-nil y c, tt)
AreDistinct-push (x ∷ xs) y h new =
    (λ c. new (0, omega arith, sym (Contains-elsewhere xs y x c h.0)), AreDistinct-push xs y h.1 (λ c. new (Contains-cons x xs y c)))

-- ---- the line at an index after lines that were read

same_line : (o : Option (List ℕ)) (a b : List ℕ) → o ≡ Some a → o ≡ Some b → a ≡ b
same_line o a b e d = cc

pub here-to : (T : Table) (lines : List (List ℕ)) (i : ℕ) (rules : List Rule) (line : List ℕ) (q : RuleReason) → AreRead T lines i rules → slice_get lines i ≡ Some line
    → IsAgainstAt T lines i q → IsAgainst T (names_of_rules rules) false line q
here-to T lines i rules line q read at (at_line other e a) =
    let same = same_line (slice_get lines i) other line e at in
    rw (← names_of-said T (take i lines) rules read.said, ← has_default-said T (take i lines) rules read.said, ← same) a
here-to T lines i rules line q read at (no_default e d w) = absurd (omega (arith, slice_get_within lines i line at, e))

pub here-from : (T : Table) (lines : List (List ℕ)) (i : ℕ) (rules : List Rule) (line : List ℕ) (q : RuleReason) → AreRead T lines i rules → slice_get lines i ≡ Some line
    → IsAgainst T (names_of_rules rules) false line q → IsAgainstAt T lines i q
here-from T lines i rules line q read at a =
    at_line line at (rw (names_of-said T (take i lines) rules read.said, has_default-said T (take i lines) rules read.said) a)

-- ---- one more line

below_or_at : (i : ℕ) (P : ℕ → Type 0) → ((j : ℕ) → j < i → P j) → P i → (j : ℕ) → j < i + 1 → P j
below_or_at i P below here j lt = elim (cases_lt j i) [ inl less ↦ below j less | inr more ↦ let same : i ≡ j = omega arith in subst P same here ]

take_next : (lines : List (List ℕ)) (i : ℕ) (line : List ℕ) → slice_get lines i ≡ Some line → take (i + 1) lines ≡ take i lines ++ line ∷ []
take_next lines i line at =
    take_more lines i line (slice_get_within lines i line at) ∙ ap (λ (l : List ℕ). take i lines ++ l ∷ []) (get_or_from_slice_get lines i line line at)

pub read-push : (T : Table) (lines : List (List ℕ)) (i : ℕ) (rules : List Rule) (line : List ℕ) (rule : Rule) → AreRead T lines i rules → slice_get lines i ≡ Some line
    → judged_line T (names_of_rules rules) (access_line_of line) ≡ Ok (said.Rule rule) → AreRead T lines (i + 1) (rules ++ rule ∷ [])
read-push T lines i rules line rule read at e =
    let taken = taken_line T (names_of_rules rules) line rule (access_line_of line) refl e in
    let next : take (i + 1) lines ≡ take i lines ++ line ∷ [] = take_next lines i line at in
    let name : taken.spelled.name ≡ rule.name = ap (λ (r : Rule). r.name) (sym taken.good.is) in
    let good_name : is_rule_name rule.name ≡ true = subst (λ (n : List ℕ). is_rule_name n ≡ true) name taken.good.name in
    let fresh : is_among rule.name (names_of_rules rules) ≡ false = subst (λ (n : List ℕ). is_among n (names_of_rules rules) ≡ false) name taken.good.fresh in
    record {
      within = omega (arith, slice_get_within lines i line at);
      count = omega (arith, length-append rules (rule ∷ []), read.count);
      few = omega (arith, taken.good.few, length-map rules (λ (r : Rule). r.name), read.count);
      said = subst (λ (ls : List (List ℕ)). AreParsed (rule_of_line T) ls (rules ++ rule ∷ [])) (sym next)
          (said-push T (take i lines) rules line rule read.said (taken_says T (names_of_rules rules) line rule taken));
      named = All-push (λ (r : Rule). IsTrue (is_rule_name r.name)) rules rule read.named good_name;
      distinct = subst (λ (ns : List (List ℕ)). AreDistinct ns) (sym (map_push (λ (r : Rule). r.name) rules rule))
          (AreDistinct-push (names_of_rules rules) rule.name read.distinct (absent (names_of_rules rules) rule.name fresh));
      clean = λ j q lt. below_or_at i (λ k. IsAgainstAt T lines k q → ⊥) (λ k less. read.clean k q less)
          (λ a. let only = only_behind T (names_of_rules rules) false line (said.Rule rule) q (access_line_of line) refl e
          (here-to T lines i rules line q read at a) in let clash : false ≡ true = only.0 in absurd cc) j lt;
    }

-- ---- the first fault, and the end

pub fault-here : (T : Table) (lines : List (List ℕ)) (i : ℕ) (rules : List Rule) (line : List ℕ) (q : RuleReason) → AreRead T lines i rules → slice_get lines i ≡ Some line
    → judged_line T (names_of_rules rules) (access_line_of line) ≡ Err q → IsFirstFault T lines (i + 1) q
fault-here T lines i rules line q read at e =
    let f = refused_line T (names_of_rules rules) line q (access_line_of line) refl e in
    let same : i ≡ i + 1 - 1 = omega arith in
    record {
      counted = omega arith;
      here = subst (λ (k : ℕ). IsAgainstAt T lines k q) same (here-from T lines i rules line q read at (f.against false));
      first_reason = λ p lt a. f.first false p lt (here-to T lines i rules line p read at (subst (λ (k : ℕ). IsAgainstAt T lines k p) (sym same) a));
      none_before = λ j p lt. read.clean j p (omega arith);
    }

-- names and default, right after the default's line
names-behind : (T : Table) (lines : List (List ℕ)) (i : ℕ) (rules : List Rule) (line : List ℕ) (allow : Bool) → AreRead T lines i rules → slice_get lines i ≡ Some line
    → access_line_of line ≡ Some (forms.Default allow) → names_of_lines (take (i + 1) lines) ≡ names_of_rules rules
names-behind T lines i rules line allow read at is =
    let unnamed : names_of_lines (line ∷ []) ≡ [] = rw is refl in
    rw (take_next lines i line at)
    (filter_map-append name_in_line (take i lines) (line ∷ []) ∙ ap (λ (ns : List (List ℕ)). names_of_lines (take i lines) ++ ns)
    unnamed ∙ append-nil (names_of_lines (take i lines)) ∙ names_of-said T (take i lines) rules read.said)

pub default-behind : (T : Table) (lines : List (List ℕ)) (i : ℕ) (line : List ℕ) (allow : Bool) → slice_get lines i ≡ Some line
    → access_line_of line ≡ Some (forms.Default allow) → has_default (take (i + 1) lines) ≡ true
default-behind T lines i line allow at is =
    let here : has_default (line ∷ []) ≡ true = rw is refl in
    rw (take_next lines i line at) (list_any-append is_default_text (take i lines) (line ∷ []) ∙ or_true (has_default (take i lines)) (has_default (line ∷ [])) here)

is_line : (T : Table) (names : List (List ℕ)) (s : LineContent) (l : Option PolicyLine) → judged_line T names l ≡ Ok s → (k : PolicyLine) × (l ≡ Some k)
is_line T names s None e = absurd cc
is_line T names s (Some k) e = (k, refl)

behind-first : (T : Table) (names : List (List ℕ)) (line : List ℕ) (r : Result LineContent RuleReason) → judged_line T names (access_line_of line) ≡ r
    → (IsAgainst T names true line (reason_after_default r)) × ((p : RuleReason) → rule_reason_rank p < rule_reason_rank (reason_after_default r) → IsAgainst T names true line p → ⊥)
behind-first T names line (Err q) e = let f = refused_line T names line q (access_line_of line) refl e in (f.against true, f.first true)
behind-first T names line (Ok s) e =
    let l = is_line T names s (access_line_of line) e in
    (after_default l.0 l.1 refl refl, λ p lt a. let only = only_behind T names true line s p (access_line_of line) refl e a in omega (arith, ap rule_reason_rank only.1))

pub fault-behind : (T : Table) (lines : List (List ℕ)) (i : ℕ) (rules : List Rule) (line next : List ℕ) (allow : Bool) → AreRead T lines i rules → slice_get lines i ≡ Some line
    → judged_line T (names_of_rules rules) (access_line_of line) ≡ Ok (said.Default allow) → slice_get lines (i + 1) ≡ Some next
    → IsFirstFault T lines (i + 2) (reason_after_default (judged_line T (names_of_rules rules) (access_line_of next)))
fault-behind T lines i rules line next allow read at e at_next =
    let is = default_line T (names_of_rules rules) line allow (access_line_of line) refl e in
    let names = names-behind T lines i rules line allow read at is in
    let ended = default-behind T lines i line allow at is in
    let q = reason_after_default (judged_line T (names_of_rules rules) (access_line_of next)) in
    let f = behind-first T (names_of_rules rules) next (judged_line T (names_of_rules rules) (access_line_of next)) refl in
    let same : i + 1 ≡ i + 2 - 1 = omega arith in
    record {
      counted = omega arith;
      here = subst (λ (k : ℕ). IsAgainstAt T lines k q) same (at_line next at_next (rw (names, ended) f.0));
      first_reason = λ p lt a. next_first p lt (subst (λ (k : ℕ). IsAgainstAt T lines k p) (sym same) a);
      none_before = λ j p lt. below_or_at i (λ k. IsAgainstAt T lines k p → ⊥) (λ k less. read.clean k p less)
          (λ a. let only = only_behind T (names_of_rules rules) false line (said.Default allow) p (access_line_of line) refl e
          (here-to T lines i rules line p read at a) in let clash : false ≡ true = only.0 in
          absurd cc) j (omega arith);
    }
  where
    next_first : (p : RuleReason) → rule_reason_rank p < rule_reason_rank (reason_after_default (judged_line T (names_of_rules rules) (access_line_of next))) → IsAgainstAt T lines (i + 1) p → ⊥
    next_first p lt (at_line other d a) =
        let is = default_line T (names_of_rules rules) line allow (access_line_of line) refl e in
        let f = behind-first T (names_of_rules rules) next (judged_line T (names_of_rules rules) (access_line_of next)) refl in
        let here = same_line (slice_get lines (i + 1)) other next d at_next in
        f.1 p lt (rw (← names-behind T lines i rules line allow read at is, ← default-behind T lines i line allow at is, ← here) a)
    next_first p lt (no_default d w o) = absurd (omega (arith, slice_get_within lines (i + 1) next at_next, d))

pub fault-end : (T : Table) (lines : List (List ℕ)) (rules : List Rule) → AreRead T lines (length lines) rules → IsFirstFault T lines (length lines + 1) reason.Default
fault-end T lines rules read =
    let same : length lines ≡ length lines + 1 - 1 = omega arith in
    let all : take (length lines) lines ≡ lines = take_all (length lines) lines (omega arith) in
    let none : has_default lines ≡ false = subst (λ (ls : List (List ℕ)). has_default ls ≡ false) all (has_default-said T (take (length lines) lines) rules read.said) in
    record {
      counted = omega arith;
      here = subst (λ (k : ℕ). IsAgainstAt T lines k reason.Default) same (no_default refl none refl);
      first_reason = λ p lt a. end_first p lt (subst (λ (k : ℕ). IsAgainstAt T lines k p) (sym same) a);
      none_before = λ j p lt. read.clean j p (omega arith);
    }
  where
    end_first : (p : RuleReason) → rule_reason_rank p < 5 → IsAgainstAt T lines (length lines) p → ⊥
    end_first p lt (at_line line e a) = omega (arith, slice_get_within lines (length lines) line e)
    end_first p lt (no_default e d w) = omega (arith, ap rule_reason_rank w)

pub text-end : (T : Table) (lines : List (List ℕ)) (i : ℕ) (rules : List Rule) (line : List ℕ) (allow : Bool) → AreRead T lines i rules → slice_get lines i ≡ Some line
    → judged_line T (names_of_rules rules) (access_line_of line) ≡ Ok (said.Default allow) → length lines ≤ i + 1 → IsTextOf T lines (record { rules = rules; allow = allow })
text-end T lines i rules line allow read at e last = record {
  rule_lines = take i lines;
  default_line = line;
  whole = sym (take_all (i + 1) lines last) ∙ take_next lines i line at;
  rules = read.said;
  default = default_line T (names_of_rules rules) line allow (access_line_of line) refl e;
  few = omega (arith, read.count, read.few);
  named = read.named;
  distinct = read.distinct;
}

-- no line was read yet
pub read-nothing : (T : Table) (lines : List (List ℕ)) → AreRead T lines 0 []
read-nothing T lines = record {
  within = omega arith;
  count = refl;
  few = omega arith;
  said = tt;
  named = All-nil (λ (r : Rule). IsTrue (is_rule_name r.name));
  distinct = tt;
  clean = λ j q lt a. omega arith;
}

abbrev policy_with : List Rule → Bool → AccessPolicy
policy_with rules allow = record { rules = rules; allow = allow }

pub text-at : (T : Table) (lines : List (List ℕ)) (i : ℕ) (rules : List Rule) (allow : Bool) (policy : AccessPolicy)
    → AreRead T lines i rules → IsDefaultAt T lines i rules allow → length lines ≤ i + 1
    → policy.rules ≡ rules → policy.allow ≡ allow → IsTextOf T lines policy
text-at T lines i rules allow policy read d last er ea =
    subst (λ (p : AccessPolicy). IsTextOf T lines p) (ap (λ (rs : List Rule). policy_with rs allow) (sym er) ∙ ap (λ (a : Bool). policy_with policy.rules a) (sym ea))
    (text-end T lines i rules d.0 allow read d.1 d.2 last)

pub fault-next : (T : Table) (lines : List (List ℕ)) (i : ℕ) (rules : List Rule) (allow : Bool) (next : List ℕ)
    (q : RuleReason) (e : RuleFault) → AreRead T lines i rules → IsDefaultAt T lines i rules allow
    → i + 1 < length lines → next ≡ get_or lines (i + 1) next
    → q ≡ reason_after_default (judged_line T (names_of_rules rules) (access_line_of next)) → e ≡ fault.At (i + 1 + 1) q
    → IsFaultOf T lines e
fault-next T lines i rules allow next q e read d within at is stands =
    let two : i + 2 ≡ i + 1 + 1 = omega arith in
    rw (stands, is) (subst (λ (n : ℕ). IsFirstFault T lines n (reason_after_default (judged_line T (names_of_rules rules) (access_line_of next)))) two
    (fault-behind T lines i rules d.0 next allow read d.1 d.2 (slice_get_read lines (length lines) (i + 1) next refl within at)))

pub fault-first : (T : Table) (lines : List (List ℕ)) (i : ℕ) (rules : List Rule) (line : List ℕ) (q : RuleReason)
    (e : RuleFault) → AreRead T lines i rules → i < length lines → line ≡ get_or lines i line
    → judged_line T (names_of_rules rules) (access_line_of line) ≡ Err q → e ≡ fault.At (i + 1) q → IsFaultOf T lines e
fault-first T lines i rules line q e read within at is stands =
    rw stands (fault-here T lines i rules line q read (slice_get_read lines (length lines) i line refl within at) is)

pub fault-last : (T : Table) (lines : List (List ℕ)) (rules : List Rule) (i : ℕ) (e : RuleFault)
    → AreRead T lines i rules → i ≡ length lines → e ≡ fault.At (length lines + 1) reason.Default
    → IsFaultOf T lines e
fault-last T lines rules i e read all stands = rw stands (fault-end T lines rules (subst (λ (k : ℕ). AreRead T lines k rules) all read))

pub default-at : (T : Table) (lines : List (List ℕ)) (i : ℕ) (rules : List Rule) (line : List ℕ) (allow : Bool) → i < length lines → line ≡ get_or lines i line
    → judged_line T (names_of_rules rules) (access_line_of line) ≡ Ok (said.Default allow) → IsDefaultAt T lines i rules allow
default-at T lines i rules line allow within at is = (line, slice_get_read lines (length lines) i line refl within at, is)

pub read-next : (T : Table) (lines : List (List ℕ)) (i : ℕ) (rules more : List Rule) (line : List ℕ) (rule : Rule)
    → AreRead T lines i rules → i < length lines → line ≡ get_or lines i line
    → judged_line T (names_of_rules rules) (access_line_of line) ≡ Ok (said.Rule rule) → more ≡ rules ++ rule ∷ [] → AreRead T lines (i + 1) more
read-next T lines i rules more line rule read within at is pushed =
    subst (λ (rs : List Rule). AreRead T lines (i + 1) rs) (sym pushed) (read-push T lines i rules line rule read (slice_get_read lines (length lines) i line refl within at) is)

pub names-next : (rules more : List Rule) (rule : Rule) (names : SeenNames) → more ≡ rules ++ rule ∷ []
    → AreKnownNames names (names_of_rules rules ++ rule.name ∷ []) → AreKnownNames names (names_of_rules more)
names-next rules more rule names pushed h = rw (pushed, map_push (λ (r : Rule). r.name) rules rule) h

abbrev pub says_so : LineContent → Result LineContent RuleReason
says_so s = Ok s
