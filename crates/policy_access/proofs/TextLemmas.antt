-- The text of a policy has no fault and is of one policy; lines have one first fault.
use Rattle.std.proofs.Common.{◌≡◌, ℕ, zero, suc, ◌+◌, ◌-◌, ◌<◌, ◌≤◌, ◌||◌, ◌==◌, ◌⊎◌, Bool, true, false, List, []}
use Rattle.std.proofs.Common.{◌∷◌, ◌++◌, length, take, drop, Option, Some, Result, Ok, Err, All, refl, sym, ap, subst}
use Rattle.std.proofs.Common.{◌∙◌, arith, inl, inr, length-append, add-one, append_assoc}
use Rattle.std.specs.Prelude.{slice_get, Contains, IsTrue, nat_le, if◌then◌else◌, IfOk, IfErr, MatchResult}
use Rattle.std.specs.Result.{result_map_both}
use Rattle.std.proofs.lemmas.List.{append-nil, length-map, map_push, take_all}
use Rattle.std.proofs.lemmas.List.Elements.{All-head, All-tail}
use Rattle.std.proofs.lemmas.Option.{slice_get_within}
use Rattle.std.proofs.lemmas.Bool.{cases_lt}
use Rattle.std.proofs.lemmas.Grind.{common_steps}
use Rattle.std.specs.Str.{bytes_eq}
use Rattle.mrpc_table.specs.Valid.{AreDistinct}
use Rattle.mrpc_table.specs.declared.table.Table.{Table}
use Rattle.mrpc_table.specs.PolicyLines.{rule_reason_rank}
use Rattle.policy_access.specs.Faults.{is_rule_name, is_among, has_default, IsAgainstAt, at_line, no_default, IsFirstFault, IsFaultOf}
use Rattle.policy_access.specs.Lines.{access_line_of}
use Rattle.policy_access.specs.Reading.{names_of_rules, AreRead}
use Rattle.policy_access.specs.Rules.{selector_in}
use Rattle.policy_access.specs.LineContent.{judged_line, judged_rule, reason_after_default}
use Rattle.mrpc_table.specs.PolicyLines.{AreParsed}
use Rattle.policy_access.specs.Texts.{rule_of_line, with_selector, IsTextOf}
use Rattle.policy_access.specs.Verdict.{AccessPolicy}
use Rattle.policy_access.specs.declared.line.PolicyLine.{PolicyLine}
use Rattle.policy_access.specs.declared.line.PolicyLine.TheVariants as forms
use Rattle.policy_access.specs.declared.line.RuleLine.{RuleLine}
use Rattle.policy_access.specs.declared.rule.CallSelector.{CallSelector}
use Rattle.policy_access.specs.declared.rule.Rule.{Rule}
use Rattle.policy_access.specs.declared.fault.SelectorReason.{SelectorReason}
use Rattle.mrpc_table.specs.declared.policy_lines.RuleFault.{RuleFault}
use Rattle.mrpc_table.specs.declared.policy_lines.RuleFault.TheVariants as fault
use Rattle.mrpc_table.specs.declared.policy_lines.RuleReason.{RuleReason}
use Rattle.mrpc_table.specs.declared.policy_lines.RuleReason.TheVariants as reason
use Rattle.policy_access.specs.declared.read.LineContent.{LineContent}
use Rattle.policy_access.specs.declared.read.LineContent.TheVariants as saids
use Rattle.policy_access.proofs.NameLemmas.{same_bytes}
use Rattle.policy_access.proofs.Judging.{says, said-same, length-said, only_behind}
use Rattle.policy_access.proofs.ReadLemmas.{here-to, read-push, read-nothing, default-behind, says_so, fault-here, fault-behind, fault-end, text-end}

-- ---- one first fault

reason_at : ℕ → RuleReason
reason_at n =
    if n == 0 then reason.Word else if n == 1 then reason.Number else if n == 2 then reason.Name
    else if n == 3 then reason.Known else if n == 4 then reason.Path else reason.Default

reason_at-order : (q : RuleReason) → reason_at (rule_reason_rank q) ≡ q
unfolding reason_at
reason_at-order reason.Word = refl
reason_at-order reason.Number = refl
reason_at-order reason.Name = refl
reason_at-order reason.Known = refl
reason_at-order reason.Path = refl
reason_at-order reason.Default = refl

same_order : (p q : RuleReason) → rule_reason_rank p ≡ rule_reason_rank q → p ≡ q
same_order p q e = sym (reason_at-order p) ∙ ap reason_at e ∙ reason_at-order q

not_before : (T : Table) (lines : List (List ℕ)) (m n : ℕ) (r q : RuleReason) → IsFirstFault T lines m r → IsFirstFault T lines n q → n ≤ m
not_before T lines m n r q f g =
    elim (cases_lt m n) [ inl less ↦ let lt : m - 1 + 1 < n = omega (arith, f.counted) in absurd (g.none_before (m - 1) r lt f.here) | inr more ↦ more ]

not_earlier : (T : Table) (lines : List (List ℕ)) (m : ℕ) (r q : RuleReason) → IsFirstFault T lines m r → IsFirstFault T lines m q → rule_reason_rank q ≤ rule_reason_rank r
not_earlier T lines m r q f g = elim (cases_lt (rule_reason_rank r) (rule_reason_rank q)) [ inl less ↦ absurd (g.first_reason r less f.here) | inr more ↦ more ]

pub one-fault : (T : Table) (lines : List (List ℕ)) (m n : ℕ) (r q : RuleReason) → IsFirstFault T lines m r → IsFirstFault T lines n q → (m ≡ n) × (r ≡ q)
one-fault T lines m n r q f g =
    let same : m ≡ n = omega (arith, not_before T lines m n r q f g, not_before T lines n m q r g f) in
    let h : IsFirstFault T lines m q = subst (λ (k : ℕ). IsFirstFault T lines k q) (sym same) g in
    (same, same_order r q (omega (arith, not_earlier T lines m r q f h, not_earlier T lines m q r h f)))

-- ---- one policy

snoc_same : {X : Type 0} (xs ys : List X) (x y : X) → xs ++ x ∷ [] ≡ ys ++ y ∷ [] → (xs ≡ ys) × (x ≡ y)
snoc_same [] [] x y e = (refl, cc)
snoc_same [] (b ∷ []) x y e = absurd cc
snoc_same [] (b ∷ c ∷ ys) x y e = absurd cc
snoc_same (a ∷ []) [] x y e = absurd cc
snoc_same (a ∷ c ∷ xs) [] x y e = absurd cc
snoc_same (a ∷ xs) (b ∷ ys) x y e =
    let head : a ≡ b = cc in
    let tail : xs ++ x ∷ [] ≡ ys ++ y ∷ [] = cc in
    let rest = snoc_same xs ys x y tail in
    (ap (λ z. z ∷ xs) head ∙ ap (λ zs. b ∷ zs) rest.0, rest.1)

same_default : (o : Option PolicyLine) (a b : Bool) → o ≡ Some (forms.Default a) → o ≡ Some (forms.Default b) → a ≡ b
same_default o a b e d = cc

abbrev policy_with : List Rule → Bool → AccessPolicy
policy_with rules allow = record { rules = rules; allow = allow }

pub one-policy : (T : Table) (lines : List (List ℕ)) (p q : AccessPolicy) → IsTextOf T lines p → IsTextOf T lines q → p ≡ q
one-policy T lines p q t u =
    let cut = snoc_same t.rule_lines u.rule_lines t.default_line u.default_line (sym t.whole ∙ u.whole) in
    let rules : p.rules ≡ q.rules = said-same T t.rule_lines p.rules q.rules t.rules (subst (λ (ls : List (List ℕ)). AreParsed (rule_of_line T) ls q.rules) (sym cut.0) u.rules) in
    let allow : p.allow ≡ q.allow = same_default (access_line_of t.default_line) p.allow q.allow t.default
    (subst (λ (l : List ℕ). access_line_of l ≡ Some (forms.Default q.allow)) (sym cut.1) u.default) in
    ap (λ (rs : List Rule). policy_with rs p.allow) rules ∙ ap (λ (a : Bool). policy_with q.rules a) allow

-- ---- a text has no fault

either_false : (b c : Bool) → b ≡ false → c ≡ false → (b || c) ≡ false
either_false true c e d = absurd cc
either_false false c e d = d

not_true : (b : Bool) → (b ≡ true → ⊥) → b ≡ false
not_true true h = absurd (h refl)
not_true false h = refl

in_the_middle : {X : Type 0} (xs ys : List X) (x : X) → Contains (xs ++ x ∷ ys) x
in_the_middle [] ys x = (0, omega arith, refl)
in_the_middle (a ∷ xs) ys x = let rest = in_the_middle xs ys x in (suc rest.0, omega (arith, rest.1), rest.2)

among-distinct : (xs ys : List (List ℕ)) (x : List ℕ) → AreDistinct (xs ++ x ∷ ys) → is_among x xs ≡ false
among-distinct [] ys x d = refl
among-distinct (a ∷ xs) ys x d =
    either_false (bytes_eq x a) (is_among x xs)
    (not_true (bytes_eq x a) (λ e. d.0 (subst (λ (z : List ℕ). Contains (xs ++ x ∷ ys) z) (same_bytes x a e) (in_the_middle xs ys x))))
    (among-distinct xs ys x d.1)

few_is : (n : ℕ) → n < 64 → nat_le 64 n ≡ false
few_is n lt = grind (arith, common_steps)

judged : (r : RuleLine) (many : Bool) (a : Result CallSelector SelectorReason) (about : CallSelector) (name known : Bool) → many ≡ false → a ≡ Ok about → name ≡ true → known ≡ false
    → result_map_both saids.Rule (λ (q : RuleReason). q) (judged_rule many a name known r) ≡ Ok (saids.Rule (with_selector r about))
judged r many a about name known em ea en ek = rw (em, ea, en, ek) refl

-- a line of a rule with a new name is accepted
pub said-ok : (T : Table) (names : List (List ℕ)) (line : List ℕ) (rule : Rule) → rule_of_line T line ≡ Some rule
    → length names < 64 → is_rule_name rule.name ≡ true → is_among rule.name names ≡ false
    → judged_line T names (access_line_of line) ≡ Ok (saids.Rule rule)
said-ok T names line rule e few good fresh =
    let s = says T line rule (access_line_of line) refl e in
    let name : rule.name ≡ s.0.name = ap (λ (x : Rule). x.name) s.4 in
    rw (s.2)
    (judged s.0 (nat_le 64 (length names)) (selector_in T s.0.about) s.1 (is_rule_name s.0.name) (is_among s.0.name names) (few_is (length names) few) s.3
    (subst (λ (n : List ℕ). is_rule_name n ≡ true) name good) (subst (λ (n : List ℕ). is_among n names ≡ false) name fresh)
    ∙ ap (λ (x : Rule). says_so (saids.Rule x)) (sym s.4))

at_drop : {X : Type 0} (xs : List X) (i : ℕ) (x : X) (ys : List X) → drop i xs ≡ x ∷ ys → slice_get xs i ≡ Some x
at_drop [] zero x ys e = absurd cc
at_drop [] (suc i) x ys e = absurd cc
at_drop (a ∷ xs) zero x ys e = cc
at_drop (a ∷ xs) (suc i) x ys e = at_drop xs i x ys e

next_drop : {X : Type 0} (xs : List X) (i : ℕ) (x : X) (ys : List X) → drop i xs ≡ x ∷ ys → drop (suc i) xs ≡ ys
next_drop [] zero x ys e = absurd cc
next_drop [] (suc i) x ys e = absurd cc
next_drop (a ∷ xs) zero x ys e = cc
next_drop (a ∷ xs) (suc i) x ys e = next_drop xs i x ys e

rest-read : (T : Table) (lines rest : List (List ℕ)) (last : List ℕ) (i : ℕ) (front rs : List Rule)
    → AreRead T lines i front → drop i lines ≡ rest ++ last ∷ [] → AreParsed (rule_of_line T) rest rs → i + length rs ≤ 64
    → All (λ (r : Rule). IsTrue (is_rule_name r.name)) rs → AreDistinct (names_of_rules front ++ names_of_rules rs) → AreRead T lines (i + length rest) (front ++ rs)
rest-read T lines [] last i front [] read here said few good fresh =
    let z : i ≡ i + 0 = omega arith in
    subst (λ (k : ℕ). AreRead T lines k (front ++ [])) z (subst (λ (rs : List Rule). AreRead T lines i rs) (sym (append-nil front)) read)
rest-read T lines [] last i front (r ∷ rs) read here said few good fresh = absurd said
rest-read T lines (line ∷ rest) last i front [] read here said few good fresh = absurd said
rest-read T lines (line ∷ rest) last i front (r ∷ rs) read here said few good fresh =
    let at = at_drop lines i line (rest ++ last ∷ []) here in
    let count : length (names_of_rules front) ≡ i = length-map front (λ (x : Rule). x.name) ∙ read.count in
    let small : length (names_of_rules front) < 64 = omega (arith, count) in
    let taken = said-ok T (names_of_rules front) line r said.0 small
    (All-head (λ (x : Rule). IsTrue (is_rule_name x.name)) r rs good)
    (among-distinct (names_of_rules front) (names_of_rules rs) r.name fresh) in
    let next = read-push T lines i front line r read at taken in
    let drop_next : drop (i + 1) lines ≡ rest ++ last ∷ [] = rw add-one (next_drop lines i line (rest ++ last ∷ []) here) in
    let names : names_of_rules (front ++ r ∷ []) ++ names_of_rules rs ≡ names_of_rules front ++ r.name ∷ names_of_rules rs =
    rw (map_push (λ (x : Rule). x.name) front r) (append_assoc (names_of_rules front) (r.name ∷ []) (names_of_rules rs)) in
    let all = rest-read T lines rest last (i + 1) (front ++ r ∷ []) rs next drop_next said.1 (omega arith)
    (All-tail (λ (x : Rule). IsTrue (is_rule_name x.name)) r rs good)
    (subst (λ (ns : List (List ℕ)). AreDistinct ns) (sym names) fresh) in
    let index : i + 1 + length rest ≡ i + suc (length rest) = omega arith in
    subst (λ (k : ℕ). AreRead T lines k (front ++ r ∷ rs)) index (subst (λ (xs : List Rule). AreRead T lines (i + 1 + length rest) xs) (append_assoc front (r ∷ []) rs) all)

at_last : {X : Type 0} (xs : List X) (x : X) → slice_get (xs ++ x ∷ []) (length xs) ≡ Some x
at_last [] x = refl
at_last (a ∷ xs) x = at_last xs x

default_ok : (T : Table) (names : List (List ℕ)) (l : Option PolicyLine) (allow : Bool) → l ≡ Some (forms.Default allow) → judged_line T names l ≡ Ok (saids.Default allow)
default_ok T names l allow e = rw e refl

-- lines that were read up to a default at their end have no fault
clean : (T : Table) (lines : List (List ℕ)) (n : ℕ) (rules : List Rule) (last : List ℕ) (allow : Bool)
    → AreRead T lines n rules → slice_get lines n ≡ Some last → length lines ≡ n + 1
    → access_line_of last ≡ Some (forms.Default allow) → (j : ℕ) (q : RuleReason) → IsAgainstAt T lines j q → ⊥
clean T lines n rules last allow read at long is j q a =
    elim (cases_lt j n) [
      | inl less ↦ read.clean j q less a
      | inr more ↦ elim (cases_lt n j) [
        | inl above ↦ beyond above a
        | inr below ↦ let same : j ≡ n = omega arith in
            at_default (subst (λ (k : ℕ). IsAgainstAt T lines k q) same a)
      ]
    ]
  where
    at_default : IsAgainstAt T lines n q → ⊥
    at_default b =
        let only = only_behind T (names_of_rules rules) false last (saids.Default allow) q (access_line_of last) refl
        (default_ok T (names_of_rules rules) (access_line_of last) allow is) (here-to T lines n rules last q read at b) in
        let clash : false ≡ true = only.0 in absurd cc

    beyond : n < j → IsAgainstAt T lines j q → ⊥
    beyond above (at_line line e b) = omega (arith, slice_get_within lines j line e, long, above)
    beyond above (no_default e d w) =
        let all : take (n + 1) lines ≡ lines = take_all (n + 1) lines (omega (arith, long)) in
        let ended : has_default lines ≡ true = subst (λ (ls : List (List ℕ)). has_default ls ≡ true) all (default-behind T lines n last allow at is) in
        let clash : true ≡ false = sym ended ∙ d in absurd cc

pub no-fault : (T : Table) (lines : List (List ℕ)) (policy : AccessPolicy) → IsTextOf T lines policy → (j : ℕ) (q : RuleReason) → IsAgainstAt T lines j q → ⊥
no-fault T lines policy t =
    let count = length-said T t.rule_lines policy.rules t.rules in
    let z : 0 + length t.rule_lines ≡ length t.rule_lines = omega arith in
    let read : AreRead T lines (length t.rule_lines) policy.rules =
    subst (λ (k : ℕ). AreRead T lines k policy.rules) z
    (rest-read T lines t.rule_lines t.default_line 0 [] policy.rules (read-nothing T lines) t.whole t.rules (omega (arith, t.few)) t.named t.distinct) in
    clean T lines (length t.rule_lines) policy.rules t.default_line policy.allow read
    (ap (λ (ls : List (List ℕ)). slice_get ls (length t.rule_lines)) t.whole ∙ at_last t.rule_lines t.default_line)
    (ap (λ (ls : List (List ℕ)). length ls) t.whole ∙ length-append t.rule_lines (t.default_line ∷ []))
    t.default

pub text-or-fault : (T : Table) (lines : List (List ℕ)) (policy : AccessPolicy) (line : ℕ) (q : RuleReason) → IsTextOf T lines policy → IsFirstFault T lines line q → ⊥
text-or-fault T lines policy line q t f = no-fault T lines policy t (line - 1) q f.here

-- ---- what the reader returns for a text

pub only-it : (T : Table) (lines : List (List ℕ)) (r : Result AccessPolicy RuleFault) (policy : AccessPolicy)
    → IfOk r (λ p. IsTextOf T lines p) → IfErr r (λ e. IsFaultOf T lines e) → IsTextOf T lines policy
    → MatchResult r (λ p. p ≡ policy) (λ e. e ≡ fault.Memory)
only-it T lines (Ok p) policy text _ t = one-policy T lines p policy text t
only-it T lines (Err (fault.At line q)) policy text f t = absurd (text-or-fault T lines policy line q t f)
only-it T lines (Err fault.Memory) policy text f t = refl

-- ---- a text or a fault

no_more : {X : Type 0} (xs : List X) (i : ℕ) → drop i xs ≡ [] → length xs ≤ i
no_more [] i e = omega arith
no_more (x ∷ xs) zero e = absurd cc
no_more (x ∷ xs) (suc i) e = omega (arith, no_more xs i e)

abbrev pub TextOrFault : Table → List (List ℕ) → Type 0
TextOrFault T lines = ((policy : AccessPolicy) × IsTextOf T lines policy) ⊎ ((line : ℕ) × (q : RuleReason) × IsFirstFault T lines line q)

rest-either : (T : Table) (lines rest : List (List ℕ)) (i : ℕ) (front : List Rule) → AreRead T lines i front → drop i lines ≡ rest → TextOrFault T lines
rest-either T lines [] i front read here =
    let all : i ≡ length lines = omega (arith, read.within, no_more lines i here) in
    inr (length lines + 1, reason.Default, fault-end T lines front (subst (λ (k : ℕ). AreRead T lines k front) all read))
rest-either T lines (line ∷ rest) i front read here =
    go (λ rule more. rest-either T lines rest (i + 1) (front ++ rule ∷ []) more (rw add-one (next_drop lines i line rest here))) (judged_line T (names_of_rules front) (access_line_of line)) refl
  where
    at : slice_get lines i ≡ Some line
    at = at_drop lines i line rest here

    behind : (allow : Bool) (more : List (List ℕ)) → rest ≡ more → judged_line T (names_of_rules front) (access_line_of line) ≡ Ok (saids.Default allow) → TextOrFault T lines
    behind allow [] none is = inl (policy_with front allow, text-end T lines i front line allow read at is (no_more lines (i + 1) (rw add-one (next_drop lines i line rest here) ∙ none)))
    behind allow (other ∷ more) some is =
        inr (
          i + 2,
          reason_after_default (judged_line T (names_of_rules front) (access_line_of other)),
          fault-behind T lines i front line other allow read at is (at_drop lines (i + 1) other more (rw add-one (next_drop lines i line rest here) ∙ some)),
        )

    go : ((rule : Rule) → AreRead T lines (i + 1) (front ++ rule ∷ []) → TextOrFault T lines)
        → (r : Result LineContent RuleReason) → judged_line T (names_of_rules front) (access_line_of line) ≡ r → TextOrFault T lines
    go on (Err q) is = inr (i + 1, q, fault-here T lines i front line q read at is)
    go on (Ok (saids.Default allow)) is = behind allow rest refl is
    go on (Ok (saids.Rule rule)) is = on rule (read-push T lines i front line rule read at is)

pub text-or-first-fault : (T : Table) (lines : List (List ℕ)) → TextOrFault T lines
text-or-first-fault T lines = rest-either T lines lines 0 [] (read-nothing T lines) refl
