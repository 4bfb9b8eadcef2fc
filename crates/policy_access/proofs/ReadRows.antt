-- Lines that were read by hand.
use Rattle.std.proofs.Common.{◌≡◌, ℕ, ◌^◌, true, false, Option, List, [], ◌∷◌, codes, Some, None, Ok, Err, refl, arith}
use Rattle.std.specs.Prelude.{IsTrue, option_and_then}
use Rattle.std.specs.Result.{result_err}
use Rattle.std.proofs.lemmas.List.Elements.{All-nil, All-cons}
use Rattle.mrpc_table.specs.declared.table.Kind.TheVariants.{Int32, Uint64, Bool as TheBool, Text}
use Rattle.mrpc_table.specs.declared.table.Label.TheVariants.{Plain}
use Rattle.mrpc_table.specs.declared.table.Table.{Table}
use Rattle.policy_access.specs.Faults.{is_rule_name, IsAgainstAt, at_line, no_default, against_rule, known_name}
use Rattle.mrpc_table.specs.PathWords.{path_of}
use Rattle.policy_access.specs.Lines.{access_line_of}
use Rattle.policy_access.specs.Texts.{rule_of_line, IsTextOf}
use Rattle.policy_access.specs.Rules.{selector_in}
use Rattle.policy_access.specs.Values.{operand_of, has_no_form}
use Rattle.policy_access.specs.declared.rule.Rule.{Rule}
use Rattle.policy_access.specs.declared.rule.Operand.TheVariants.{Number, Run}
use Rattle.policy_access.specs.declared.line.SelectorLine.TheVariants.{Every}
use Rattle.policy_access.specs.declared.line.PolicyLine.{PolicyLine}
use Rattle.policy_access.specs.declared.line.PolicyLine.TheVariants.{Rule as TheRule, Default}
use Rattle.policy_access.specs.declared.fault.SelectorReason.{SelectorReason}
use Rattle.policy_access.specs.declared.fault.SelectorReason.TheVariants as part
use Rattle.mrpc_table.specs.declared.policy_lines.RuleReason.TheVariants as reason
use Rattle.policy_access.proofs.Rows.{no150, acl, minus}

abbrev small : Table
small = record {
  messages = record { name = codes "M"; fields = record { number = 1; name = codes "a"; kind = Uint64; label = Plain } ∷ []; oneofs = [] } ∷ [];
  enums = [];
  methods = record { service = codes "S"; name = codes "Get"; input = 0; output = 0 } ∷ [];
}

abbrev rule_line : List ℕ
rule_line = codes "rule no150 deny method 0 where 1 eq 150"

abbrev default_line : List ℕ
default_line = codes "default allow"

a_line_says_its_rule : rule_of_line small rule_line ≡ Some no150
unfolding access_line_of
a_line_says_its_rule = refl

two_lines_are_the_text_of_a_policy : IsTextOf small (rule_line ∷ default_line ∷ []) acl
unfolding access_line_of
two_lines_are_the_text_of_a_policy = record {
  rule_lines = rule_line ∷ [];
  default_line = default_line;
  whole = refl;
  rules = (refl, tt);
  default = refl;
  few = omega arith;
  named = All-cons (λ (r : Rule). IsTrue (is_rule_name r.name)) no150 [] refl (All-nil (λ (r : Rule). IsTrue (is_rule_name r.name)));
  distinct = (λ c. omega (arith, c.1), tt);
}

a_name_stands_twice : IsAgainstAt small (codes "rule a deny" ∷ codes "rule a allow" ∷ default_line ∷ []) 1 reason.Known
unfolding access_line_of
a_name_stands_twice =
    at_line (codes "rule a allow") refl (against_rule (record { name = codes "a"; allow = true; about = Every }) refl (known_name refl refl))

no_default_stands : IsAgainstAt small (codes "rule a deny" ∷ []) 1 reason.Default
unfolding access_line_of
no_default_stands = no_default refl refl refl

an_empty_line_is_out_of_form : access_line_of [] ≡ None
unfolding access_line_of
an_empty_line_is_out_of_form = refl

where_needs_method : access_line_of (codes "rule a deny where 1 eq 1") ≡ None
unfolding access_line_of
where_needs_method = refl

present_has_no_value : access_line_of (codes "rule a deny method 0 where 1 present 1") ≡ None
unfolding access_line_of
present_has_no_value = refl

a_leading_zero_is_no_number : path_of (codes "1.02") ≡ None
a_leading_zero_is_no_number = refl

below_zero : operand_of Int32 (codes "-1") ≡ Ok (Number (minus 1))
below_zero = refl

zero_has_a_sign_or_none : operand_of Uint64 (codes "-0") ≡ Ok (Number 0)
zero_has_a_sign_or_none = refl

least_of_32_bits : operand_of Int32 (codes "-2147483648") ≡ Ok (Number (minus (2 ^ 31)))
least_of_32_bits = refl

below_the_least : operand_of Int32 (codes "-2147483649") ≡ Err part.Number
below_the_least = refl

no_bool : operand_of TheBool (codes "2") ≡ Err part.Number
no_bool = refl

a_text : operand_of Text (34 ∷ 97 ∷ 32 ∷ 34 ∷ []) ≡ Ok (Run (97 ∷ 32 ∷ []))
a_text = refl

the_empty_text : operand_of Text (34 ∷ 34 ∷ []) ≡ Ok (Run [])
the_empty_text = refl

a_quote_inside : operand_of Text (34 ∷ 97 ∷ 34 ∷ 98 ∷ 34 ∷ []) ≡ Err part.Word
a_quote_inside = refl

no_text : operand_of Text (codes "abc") ≡ Err part.Word
no_text = refl

-- ---- a value before an unknown method

number_has_a_form : has_no_form (codes "18446744073709551616") ≡ false
number_has_a_form = refl

text_has_a_form : has_no_form (34 ∷ 34 ∷ []) ≡ false
text_has_a_form = refl

half_a_byte_has_none : has_no_form (codes "x0") ≡ true
half_a_byte_has_none = refl

two_signs_have_none : has_no_form (codes "$$") ≡ true
two_signs_have_none = refl

abbrev reason_in : Table → PolicyLine → Option SelectorReason
reason_in T (TheRule r) = result_err (selector_in T r.about)
reason_in T (Default allow) = None

abbrev against : List ℕ → Option SelectorReason
against line = option_and_then (reason_in small) (access_line_of line)

no_form_before_a_large_index : against (codes "rule a deny method 65536 where 1 eq $$") ≡ Some part.Word
unfolding access_line_of
no_form_before_a_large_index = refl

no_form_before_a_missing_method : against (codes "rule a deny method 1 where 1 eq $$") ≡ Some part.Word
unfolding access_line_of
no_form_before_a_missing_method = refl

a_large_index_with_a_form : against (codes "rule a deny method 65536 where 1 eq 7") ≡ Some part.Number
unfolding access_line_of
a_large_index_with_a_form = refl

a_missing_method_with_a_form : against (codes "rule a deny method 1 where 9 eq 1") ≡ Some part.Path
unfolding access_line_of
a_missing_method_with_a_form = refl

-- if the path or the operation is at fault, the value isn't judged
a_path_at_fault : against (codes "rule a deny method 0 where 9 eq $$") ≡ Some part.Path
unfolding access_line_of
a_path_at_fault = refl

an_operation_at_fault : against (codes "rule a deny method 0 where 1 starts $$") ≡ Some part.Path
unfolding access_line_of
an_operation_at_fault = refl
