-- The content of a line, and the reasons against it.
use Rattle.std.proofs.Common.{◌≡◌, ℕ, suc, ◌<◌, ◌≤◌, Bool, true, false, List, [], ◌∷◌, ◌++◌, length, Option, Some}
use Rattle.std.proofs.Common.{None, Result, Ok, Err, refl, sym, ap, subst, ◌∙◌, arith}
use Rattle.std.specs.Prelude.{nat_le, option_and_then, option_map}
use Rattle.std.specs.Result.{result_map_both, result_ok}
use Rattle.std.proofs.lemmas.Grind.{common_steps}
use Rattle.mrpc_table.specs.declared.table.Table.{Table}
use Rattle.mrpc_table.specs.PolicyLines.{rule_reason_rank}
use Rattle.policy_access.specs.Faults.{is_rule_name, is_among, rule_reason_of, names_of_lines, has_default, IsAgainstRule, one_too_many, part_at_fault, no_rule_name, known_name}
use Rattle.policy_access.specs.Faults.{IsAgainst, out_of_form, against_rule, after_default}
use Rattle.policy_access.specs.Lines.{access_line_of}
use Rattle.policy_access.specs.Reading.{names_of_rules}
use Rattle.policy_access.specs.Rules.{selector_in}
use Rattle.policy_access.specs.LineContent.{judged_rule, judged_line}
use Rattle.mrpc_table.specs.PolicyLines.{AreParsed}
use Rattle.policy_access.specs.Texts.{rule_of_line, rule_in_table, with_selector}
use Rattle.policy_access.specs.declared.line.PolicyLine.{PolicyLine}
use Rattle.policy_access.specs.declared.line.PolicyLine.TheVariants as lines
use Rattle.policy_access.specs.declared.line.RuleLine.{RuleLine}
use Rattle.policy_access.specs.declared.rule.CallSelector.{CallSelector}
use Rattle.policy_access.specs.declared.rule.Rule.{Rule}
use Rattle.policy_access.specs.declared.fault.SelectorReason.{SelectorReason}
use Rattle.policy_access.specs.declared.fault.SelectorReason.TheVariants as part
use Rattle.mrpc_table.specs.declared.policy_lines.RuleReason.{RuleReason}
use Rattle.mrpc_table.specs.declared.policy_lines.RuleReason.TheVariants as reason
use Rattle.policy_access.specs.declared.read.LineContent.{LineContent}
use Rattle.policy_access.specs.declared.read.LineContent.TheVariants as said

-- ---- properties of a rule that was judged

-- the properties of an accepted rule
pub record IsGood (T : Table) (names : List (List ℕ)) (r : RuleLine) (rule : Rule) : Type 0 where
  pub few : length names < 64
  pub about : CallSelector
  pub resolved : selector_in T r.about ≡ Ok about
  pub name : is_rule_name r.name ≡ true
  pub fresh : is_among r.name names ≡ false
  pub is : rule ≡ with_selector r about

less : (n : ℕ) → nat_le 64 n ≡ false → n < 64
less n e = grind (arith, common_steps)

more : (n : ℕ) → nat_le 64 n ≡ true → 64 ≤ n
more n e = grind (arith, common_steps)

good : (T : Table) (names : List (List ℕ)) (r : RuleLine) (rule : Rule) (many : Bool) (about : Result CallSelector SelectorReason) (good_name known : Bool)
    → nat_le 64 (length names) ≡ many → selector_in T r.about ≡ about → is_rule_name r.name ≡ good_name → is_among r.name names ≡ known
    → judged_rule many about good_name known r ≡ Ok rule → IsGood T names r rule
good T names r rule true about n k em ea en ek e = absurd cc
good T names r rule false (Err part.Word) n k em ea en ek e = absurd cc
good T names r rule false (Err part.Number) n k em ea en ek e = absurd cc
good T names r rule false (Err part.Path) false k em ea en ek e = absurd cc
good T names r rule false (Err part.Path) true true em ea en ek e = absurd cc
good T names r rule false (Err part.Path) true false em ea en ek e = absurd cc
good T names r rule false (Ok about) false k em ea en ek e = absurd cc
good T names r rule false (Ok about) true true em ea en ek e = absurd cc
good T names r rule false (Ok about) true false em ea en ek e = record { few = less (length names) em; about = about; resolved = ea; name = en; fresh = ek; is = cc }

-- the first reason against a rejected rule
pub record IsFirstOf (T : Table) (names : List (List ℕ)) (line : List ℕ) (q : RuleReason) : Type 0 where
  pub against : (ended : Bool) → IsAgainst T names ended line q
  pub first : (ended : Bool) (p : RuleReason) → rule_reason_rank p < rule_reason_rank q → IsAgainst T names ended line p → ⊥

-- ---- the possible reasons against the line of a rule

data Ways (T : Table) (names : List (List ℕ)) (ended : Bool) (r : RuleLine) (q : RuleReason) : Type 0 where
  by_rule : IsAgainstRule T names r q → Ways T names ended r q
  by_default : ended ≡ true → q ≡ reason.Default → Ways T names ended r q

same_rule : (l : Option PolicyLine) (r s : RuleLine) → l ≡ Some (lines.Rule r) → l ≡ Some (lines.Rule s) → s ≡ r
same_rule l r s a b = cc

ways : (T : Table) (names : List (List ℕ)) (ended : Bool) (line : List ℕ) (r : RuleLine) (q : RuleReason)
    → access_line_of line ≡ Some (lines.Rule r) → IsAgainst T names ended line q → Ways T names ended r q
ways T names ended line r q is (out_of_form e w) = let clash : Some (lines.Rule r) ≡ None = sym is ∙ e in absurd cc
ways T names ended line r q is (against_rule s e a) =
    let same = same_rule (access_line_of line) r s is e in by_rule (subst (λ (t : RuleLine). IsAgainstRule T names t q) same a)
ways T names ended line r q is (after_default l e a w) = by_default a w

at_least : (p q : RuleReason) → p ≡ q → rule_reason_rank p ≡ rule_reason_rank q
at_least p q e = ap rule_reason_rank e

none_earlier : (T : Table) (names : List (List ℕ)) (ended : Bool) (r : RuleLine) (q p : RuleReason) → length names < 64
    → ((s : SelectorReason) → selector_in T r.about ≡ Err s → rule_reason_rank q ≤ rule_reason_rank (rule_reason_of s))
    → (is_rule_name r.name ≡ false → rule_reason_rank q ≤ 2) → (is_among r.name names ≡ true → rule_reason_rank q ≤ 3)
    → rule_reason_rank q ≤ 5
    → rule_reason_rank p < rule_reason_rank q → Ways T names ended r p → ⊥
none_earlier T names ended r q p few part name known all lt (by_rule (one_too_many n w)) =
    let many : 64 ≤ length names = n in absurd (omega (arith, few, many))
none_earlier T names ended r q p few part name known all lt (by_rule (part_at_fault s a w)) = absurd (omega (arith, at_least p (rule_reason_of s) w, part s a))
none_earlier T names ended r q p few part name known all lt (by_rule (no_rule_name a w)) = absurd (omega (arith, at_least p reason.Name w, name a))
none_earlier T names ended r q p few part name known all lt (by_rule (known_name a w)) = absurd (omega (arith, at_least p reason.Known w, known a))
none_earlier T names ended r q p few part name known all lt (by_default a w) = absurd (omega (arith, at_least p reason.Default w))

same_part : (a : Result CallSelector SelectorReason) (s t : SelectorReason) → a ≡ Err s → a ≡ Err t → rule_reason_rank (rule_reason_of s) ≤ rule_reason_rank (rule_reason_of t)
same_part a s t e d = let same : s ≡ t = cc in omega (arith, ap (λ u. rule_reason_rank (rule_reason_of u)) same)

no_part : (a : Result CallSelector SelectorReason) (about : CallSelector) (s : SelectorReason) (n : ℕ) → a ≡ Ok about → a ≡ Err s → n ≤ rule_reason_rank (rule_reason_of s)
no_part a about s n e d = let clash : Ok about ≡ Err s = sym e ∙ d in absurd cc

differ : (b : Bool) (n : ℕ) (m : ℕ) → b ≡ true → b ≡ false → n ≤ m
differ b n m e d = let clash : true ≡ false = sym e ∙ d in absurd cc

refused : (T : Table) (names : List (List ℕ)) (line : List ℕ) (r : RuleLine) (q : RuleReason) (many : Bool) (about : Result CallSelector SelectorReason) (name known : Bool)
    → access_line_of line ≡ Some (lines.Rule r) → nat_le 64 (length names) ≡ many → selector_in T r.about ≡ about → is_rule_name r.name ≡ name → is_among r.name names ≡ known
    → judged_rule many about name known r ≡ Err q → IsFirstOf T names line q
refused T names line r q true about n k is em ea en ek e =
    let w : q ≡ reason.Word = cc in
    record {
      against = λ ended. against_rule r is (one_too_many (more (length names) em) w);
      first = λ ended p lt a. absurd (omega (arith, at_least q reason.Word w));
    }
refused T names line r q false (Err part.Word) n k is em ea en ek e =
    let w : q ≡ reason.Word = cc in record { against = λ ended. against_rule r is (part_at_fault part.Word ea w); first = λ ended p lt a. absurd (omega (arith, at_least q reason.Word w)) }
refused T names line r q false (Err part.Number) n k is em ea en ek e =
    let w : q ≡ reason.Number = cc in let o = at_least q reason.Number w in
    record {
      against = λ ended. against_rule r is (part_at_fault part.Number ea w);
      first = λ ended p lt a. none_earlier T names ended r q p (less (length names) em)
          (λ s d. omega (arith, o, same_part (selector_in T r.about) part.Number s ea d)) (λ h. omega (arith, o))
          (λ h. omega (arith, o)) (omega (arith, o)) lt (ways T names ended line r p is a);
    }
refused T names line r q false (Err part.Path) false k is em ea en ek e =
    let w : q ≡ reason.Name = cc in let o = at_least q reason.Name w in
    record {
      against = λ ended. against_rule r is (no_rule_name en w);
      first = λ ended p lt a. none_earlier T names ended r q p (less (length names) em)
          (λ s d. omega (arith, o, same_part (selector_in T r.about) part.Path s ea d)) (λ h. omega (arith, o))
          (λ h. omega (arith, o)) (omega (arith, o)) lt (ways T names ended line r p is a);
    }
refused T names line r q false (Err part.Path) true true is em ea en ek e =
    let w : q ≡ reason.Known = cc in let o = at_least q reason.Known w in
    record {
      against = λ ended. against_rule r is (known_name ek w);
      first = λ ended p lt a. none_earlier T names ended r q p (less (length names) em)
          (λ s d. omega (arith, o, same_part (selector_in T r.about) part.Path s ea d))
          (λ h. differ (is_rule_name r.name) (rule_reason_rank q) 2 en h) (λ h. omega (arith, o)) (omega (arith, o)) lt
          (ways T names ended line r p is a);
    }
refused T names line r q false (Err part.Path) true false is em ea en ek e =
    let w : q ≡ reason.Path = cc in let o = at_least q reason.Path w in
    record {
      against = λ ended. against_rule r is (part_at_fault part.Path ea w);
      first = λ ended p lt a. none_earlier T names ended r q p (less (length names) em)
          (λ s d. omega (arith, o, same_part (selector_in T r.about) part.Path s ea d))
          (λ h. differ (is_rule_name r.name) (rule_reason_rank q) 2 en h)
          (λ h. differ (is_among r.name names) (rule_reason_rank q) 3 h ek) (omega (arith, o)) lt
          (ways T names ended line r p is a);
    }
refused T names line r q false (Ok about) false k is em ea en ek e =
    let w : q ≡ reason.Name = cc in let o = at_least q reason.Name w in
    record {
      against = λ ended. against_rule r is (no_rule_name en w);
      first = λ ended p lt a. none_earlier T names ended r q p (less (length names) em)
          (λ s d. no_part (selector_in T r.about) about s (rule_reason_rank q) ea d) (λ h. omega (arith, o))
          (λ h. omega (arith, o)) (omega (arith, o)) lt (ways T names ended line r p is a);
    }
refused T names line r q false (Ok about) true true is em ea en ek e =
    let w : q ≡ reason.Known = cc in let o = at_least q reason.Known w in
    record {
      against = λ ended. against_rule r is (known_name ek w);
      first = λ ended p lt a. none_earlier T names ended r q p (less (length names) em)
          (λ s d. no_part (selector_in T r.about) about s (rule_reason_rank q) ea d)
          (λ h. differ (is_rule_name r.name) (rule_reason_rank q) 2 en h) (λ h. omega (arith, o)) (omega (arith, o)) lt
          (ways T names ended line r p is a);
    }
refused T names line r q false (Ok about) true false is em ea en ek e = absurd cc

-- ---- lines

-- the result of a rule, and of its line
rule_result : (x : Result Rule RuleReason) (q : RuleReason) → result_map_both said.Rule (λ p. p) x ≡ Err q → x ≡ Err q
rule_result (Ok rule) q e = absurd cc
rule_result (Err p) q e = cc

rule_value : (x : Result Rule RuleReason) (s : LineContent) → result_map_both said.Rule (λ (p : RuleReason). p) x ≡ Ok s → (rule : Rule) × (x ≡ Ok rule) × (s ≡ said.Rule rule)
rule_value (Ok rule) s e = (rule, refl, cc)
rule_value (Err p) s e = absurd cc

-- a rejected line has its first reason
pub refused_line : (T : Table) (names : List (List ℕ)) (line : List ℕ) (q : RuleReason) (l : Option PolicyLine)
    → access_line_of line ≡ l → judged_line T names l ≡ Err q → IsFirstOf T names line q
refused_line T names line q None is e =
    let w : q ≡ reason.Word = cc in record { against = λ ended. out_of_form is w; first = λ ended p lt a. absurd (omega (arith, at_least q reason.Word w)) }
refused_line T names line q (Some (lines.Default allow)) is e = absurd cc
refused_line T names line q (Some (lines.Rule r)) is e =
    refused T names line r q (nat_le 64 (length names)) (selector_in T r.about) (is_rule_name r.name) (is_among r.name names) is refl refl refl refl
    (rule_result (judged_rule (nat_le 64 (length names)) (selector_in T r.about) (is_rule_name r.name) (is_among r.name names) r) q e)

-- a line whose rule is accepted, after rules with these names
pub record TakesRule (T : Table) (names : List (List ℕ)) (line : List ℕ) (rule : Rule) : Type 0 where
  pub spelled : RuleLine
  pub is : access_line_of line ≡ Some (lines.Rule spelled)
  pub good : IsGood T names spelled rule

default_is : (x : Result LineContent RuleReason) (allow : Bool) (rule : Rule) → x ≡ Ok (said.Default allow) → x ≡ Ok (said.Rule rule) → ⊥
default_is x allow rule e d = let clash : said.Default allow ≡ said.Rule rule = cc in absurd cc

ok_same : (x : Result Rule RuleReason) (a b : Rule) → x ≡ Ok a → b ≡ a → x ≡ Ok b
ok_same x a b e same = cc

inner_rule : (a b : Rule) → said.Rule a ≡ said.Rule b → a ≡ b
inner_rule a b e = cc

pub taken_line : (T : Table) (names : List (List ℕ)) (line : List ℕ) (rule : Rule) (l : Option PolicyLine)
    → access_line_of line ≡ l → judged_line T names l ≡ Ok (said.Rule rule) → TakesRule T names line rule
taken_line T names line rule None is e = absurd cc
taken_line T names line rule (Some (lines.Default allow)) is e = absurd (default_is (Ok (said.Default allow)) allow rule refl e)
taken_line T names line rule (Some (lines.Rule r)) is e =
    let v = rule_value (judged_rule (nat_le 64 (length names)) (selector_in T r.about) (is_rule_name r.name) (is_among r.name names) r) (said.Rule rule) e in
    record {
      spelled = r;
      is = is;
      good = good T names r rule (nat_le 64 (length names)) (selector_in T r.about) (is_rule_name r.name)
          (is_among r.name names) refl refl refl refl
          (ok_same (judged_rule (nat_le 64 (length names)) (selector_in T r.about) (is_rule_name r.name)
          (is_among r.name names) r) v.0 rule v.1 (inner_rule rule v.0 v.2));
    }

pub default_line : (T : Table) (names : List (List ℕ)) (line : List ℕ) (allow : Bool) (l : Option PolicyLine)
    → access_line_of line ≡ l → judged_line T names l ≡ Ok (said.Default allow) → access_line_of line ≡ Some (lines.Default allow)
default_line T names line allow None is e = absurd cc
default_line T names line allow (Some (lines.Default a)) is e = let same : a ≡ allow = cc in is ∙ ap (λ b. Some (lines.Default b)) same
default_line T names line allow (Some (lines.Rule r)) is e =
    let v = rule_value (judged_rule (nat_le 64 (length names)) (selector_in T r.about) (is_rule_name r.name) (is_among r.name names) r) (said.Default allow) e in
    let clash : said.Default allow ≡ said.Rule v.0 = v.2 in absurd cc

-- the only reason against a valid line is an earlier default
good_only : (T : Table) (names : List (List ℕ)) (ended : Bool) (r : RuleLine) (rule : Rule) (q : RuleReason)
    → IsGood T names r rule → Ways T names ended r q → (ended ≡ true) × (q ≡ reason.Default)
good_only T names ended r rule q g (by_rule (one_too_many n w)) =
    let many : 64 ≤ length names = n in absurd (omega (arith, g.few, many))
good_only T names ended r rule q g (by_rule (part_at_fault p a w)) = let clash : Ok g.about ≡ Err p = sym g.resolved ∙ a in absurd cc
good_only T names ended r rule q g (by_rule (no_rule_name a w)) = let clash : true ≡ false = sym g.name ∙ a in absurd cc
good_only T names ended r rule q g (by_rule (known_name a w)) = let clash : true ≡ false = sym a ∙ g.fresh in absurd cc
good_only T names ended r rule q g (by_default a w) = (a, w)

default_only : (T : Table) (names : List (List ℕ)) (ended : Bool) (line : List ℕ) (allow : Bool) (q : RuleReason)
    → access_line_of line ≡ Some (lines.Default allow) → IsAgainst T names ended line q
    → (ended ≡ true) × (q ≡ reason.Default)
default_only T names ended line allow q is (out_of_form e w) = let clash : Some (lines.Default allow) ≡ None = sym is ∙ e in absurd cc
default_only T names ended line allow q is (against_rule r e a) = let clash : lines.Default allow ≡ lines.Rule r = cc in absurd cc
default_only T names ended line allow q is (after_default l e a w) = (a, w)

pub only_behind : (T : Table) (names : List (List ℕ)) (ended : Bool) (line : List ℕ) (s : LineContent) (q : RuleReason)
    (l : Option PolicyLine) → access_line_of line ≡ l → judged_line T names l ≡ Ok s → IsAgainst T names ended line q
    → (ended ≡ true) × (q ≡ reason.Default)
only_behind T names ended line s q None is e a = absurd cc
only_behind T names ended line s q (Some (lines.Default allow)) is e a = default_only T names ended line allow q is a
only_behind T names ended line s q (Some (lines.Rule r)) is e a =
    let v = rule_value (judged_rule (nat_le 64 (length names)) (selector_in T r.about) (is_rule_name r.name) (is_among r.name names) r) s e in
    good_only T names ended r v.0 q
    (good T names r v.0 (nat_le 64 (length names)) (selector_in T r.about) (is_rule_name r.name) (is_among r.name names) refl refl refl refl v.1)
    (ways T names ended line r q is a)

-- ---- lines of rules

-- the line is that of the rule
pub says : (T : Table) (line : List ℕ) (rule : Rule) (l : Option PolicyLine) → access_line_of line ≡ l → option_and_then (rule_in_table T) l ≡ Some rule
    → (r : RuleLine) × (about : CallSelector) × (access_line_of line ≡ Some (lines.Rule r)) × (selector_in T r.about ≡ Ok about) × (rule ≡ with_selector r about)
says T line rule None is e = absurd cc
says T line rule (Some (lines.Default allow)) is e = absurd cc
says T line rule (Some (lines.Rule r)) is e = resolved (selector_in T r.about) refl e
  where
    resolved : (x : Result CallSelector SelectorReason) → selector_in T r.about ≡ x → option_map (with_selector r) (result_ok x) ≡ Some rule
        → (s : RuleLine) × (about : CallSelector) × (access_line_of line ≡ Some (lines.Rule s)) × (selector_in T s.about ≡ Ok about) × (rule ≡ with_selector s about)
    resolved (Ok about) a d = (r, about, is, a, cc)
    resolved (Err p) a d = absurd cc

pub taken_says : (T : Table) (names : List (List ℕ)) (line : List ℕ) (rule : Rule) → TakesRule T names line rule → rule_of_line T line ≡ Some rule
taken_says T names line rule t = rw (t.is, t.good.resolved) (ap Some (sym t.good.is))

-- such lines have the names of their rules, and none of them is a default
pub names_of-said : (T : Table) (ls : List (List ℕ)) (rs : List Rule) → AreParsed (rule_of_line T) ls rs → names_of_lines ls ≡ names_of_rules rs
names_of-said T [] [] s = refl
names_of-said T [] (r ∷ rs) s = absurd s
names_of-said T (l ∷ ls) [] s = absurd s
names_of-said T (l ∷ ls) (r ∷ rs) s =
    let here = says T l r (access_line_of l) refl s.0 in
    let name : here.0.name ≡ r.name = ap (λ (x : Rule). x.name) (sym here.4) in
    rw (here.2) (ap (λ (n : List ℕ). n ∷ names_of_lines ls) name ∙ ap (λ (ns : List (List ℕ)). r.name ∷ ns) (names_of-said T ls rs s.1))

pub has_default-said : (T : Table) (ls : List (List ℕ)) (rs : List Rule) → AreParsed (rule_of_line T) ls rs → has_default ls ≡ false
has_default-said T [] [] s = refl
has_default-said T [] (r ∷ rs) s = absurd s
has_default-said T (l ∷ ls) [] s = absurd s
has_default-said T (l ∷ ls) (r ∷ rs) s = let here = says T l r (access_line_of l) refl s.0 in rw (here.2) (has_default-said T ls rs s.1)

pub length-said : (T : Table) (ls : List (List ℕ)) (rs : List Rule) → AreParsed (rule_of_line T) ls rs → length rs ≡ length ls
length-said T [] [] s = refl
length-said T [] (r ∷ rs) s = absurd s
length-said T (l ∷ ls) [] s = absurd s
length-said T (l ∷ ls) (r ∷ rs) s = ap (λ n. suc n) (length-said T ls rs s.1)

pub said-push : (T : Table) (ls : List (List ℕ)) (rs : List Rule) (l : List ℕ) (r : Rule)
    → AreParsed (rule_of_line T) ls rs → rule_of_line T l ≡ Some r → AreParsed (rule_of_line T) (ls ++ l ∷ []) (rs ++ r ∷ [])
said-push T [] [] l r s e = (e, tt)
said-push T [] (q ∷ rs) l r s e = absurd s
said-push T (k ∷ ls) [] l r s e = absurd s
said-push T (k ∷ ls) (q ∷ rs) l r s e = (s.0, said-push T ls rs l r s.1 e)

pub said-same : (T : Table) (ls : List (List ℕ)) (rs qs : List Rule) → AreParsed (rule_of_line T) ls rs → AreParsed (rule_of_line T) ls qs → rs ≡ qs
said-same T [] [] [] s t = refl
said-same T [] [] (q ∷ qs) s t = absurd t
said-same T [] (r ∷ rs) qs s t = absurd s
said-same T (l ∷ ls) [] qs s t = absurd s
said-same T (l ∷ ls) (r ∷ rs) [] s t = absurd t
said-same T (l ∷ ls) (r ∷ rs) (q ∷ qs) s t = let here : r ≡ q = one_value (rule_of_line T l) r q s.0 t.0 in
    ap (λ (x : Rule). x ∷ rs) here ∙ ap (λ (xs : List Rule). q ∷ xs) (said-same T ls rs qs s.1 t.1)
  where
    one_value : (o : Option Rule) (a b : Rule) → o ≡ Some a → o ≡ Some b → a ≡ b
    one_value o a b e d = cc

-- the result for a rule's line, by the parts that were judged
pub judged_by : (many : Bool) (about about' : Result CallSelector SelectorReason) (named named' known known' : Bool) (r : RuleLine) (said : Result Rule RuleReason)
    → said ≡ judged_rule false about named known r → many ≡ false → about ≡ about' → named ≡ named' → known ≡ known' → said ≡ judged_rule many about' named' known' r
judged_by many about about' named named' known known' r said e few a n k =
    e ∙ ap (λ (b : Bool). judged_rule b about named known r) (sym few) ∙ ap (λ (x : Result CallSelector SelectorReason). judged_rule many x named known r) a
    ∙ ap (λ (b : Bool). judged_rule many about' b known r) n ∙ ap (λ (b : Bool). judged_rule many about' named' b r) k
