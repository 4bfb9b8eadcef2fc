-- Verdicts that were worked out by hand.
use Rattle.std.proofs.Common.{◌≡◌, ℕ, ◌-◌, ◌^◌, Bool, true, false, [], ◌∷◌, codes, Some, refl}
use Rattle.mrpc_table.specs.Node.{Node, no_fields, field, one, many, Item, number, run, node, no_items, item}
use Rattle.mrpc_table.specs.declared.table.Kind.{Kind}
use Rattle.mrpc_table.specs.declared.table.Kind.TheVariants.{Int32, Uint64, Choice, Bool as TheBool, Text, Octets, Message}
use Rattle.mrpc_table.specs.declared.table.Label.{Label}
use Rattle.mrpc_table.specs.declared.table.Label.TheVariants.{Plain, Optional, Member, Repeated}
use Rattle.policy_access.specs.Conditions.{is_met}
use Rattle.policy_access.specs.Verdict.{AccessPolicy, verdict, rule_name}
use Rattle.mrpc_table.specs.declared.call.Call.{Call}
use Rattle.mrpc_table.specs.declared.call.CallKind.TheVariants.{Request}
use Rattle.policy_access.specs.declared.verdict.Verdict.{Verdict}
use Rattle.policy_access.specs.declared.rule.Rule.{Rule}
use Rattle.policy_access.specs.declared.rule.CallSelector.TheVariants.{Every, Calls as OfCalls}
use Rattle.policy_access.specs.declared.rule.Operand.TheVariants.{Number, Run}
use Rattle.policy_access.specs.declared.rule.Condition.TheVariants.{Present, Compares}
use Rattle.policy_access.specs.declared.rule.Comparison.TheVariants.{Equal, NotEqual, Less, Greater, Starts}
use Rattle.mrpc_table.specs.declared.path.Path.{Path}

abbrev pub to : Kind → Label → Path
to k l = record { way = []; number = 1; kind = k; label = l }

abbrev through : ℕ → Kind → Label → Path
through n k l = record { way = n ∷ []; number = 1; kind = k; label = l }

-- a message whose field 1 has this value
abbrev with_1 : Item → Node
with_1 i = field 1 (one i) no_fields

abbrev pub minus : ℕ → ℕ
minus n = 2 ^ 64 - n

-- ---- verdicts

abbrev pub no150 : Rule
no150 = record {
  name = codes "no150";
  allow = false;
  about = OfCalls (record {
    method = 0;
    sort = Request;
    test = Some (record { path = to Uint64 Plain; condition = Compares Equal (Number 150) });
  });
}

abbrev pub acl : AccessPolicy
acl = record { rules = no150 ∷ []; allow = true }

abbrev request : Node → Call
request t = record { conn = 1; seq = 1; method = 0; number = 0; tree = t }

abbrev reply : Node → Call
reply t = record { conn = 1; seq = 1; method = 0; number = 9; tree = t }

abbrev says : Bool → ℕ → Verdict
says allow rule = record { allow = allow; rule = rule }

a_match_denies : verdict acl (request (with_1 (number 150))) ≡ says false 0
a_match_denies = refl

no_match_is_the_default : verdict acl (request (with_1 (number 7))) ≡ says true 1
no_match_is_the_default = refl

a_reply_is_no_request : verdict acl (reply (with_1 (number 150))) ≡ says true 1
a_reply_is_no_request = refl

another_method : verdict acl (record { conn = 1; seq = 1; method = 1; number = 0; tree = with_1 (number 150) }) ≡ says true 1
another_method = refl

name_of_a_rule : rule_name acl 0 ≡ codes "no150"
name_of_a_rule = refl

name_of_the_default : rule_name acl 1 ≡ codes "default"
name_of_the_default = refl

-- the first rule that matches decides
the_first_counts : verdict (record { rules = no150 ∷ record no150 { about = Every; allow = true } ∷ []; allow = false }) (request (with_1 (number 150))) ≡ says false 0
the_first_counts = refl

-- ---- tests of numbers

equal_default : is_met (to Uint64 Plain) (Compares Equal (Number 0)) no_fields ≡ true
equal_default = refl

unequal_default : is_met (to Uint64 Plain) (Compares NotEqual (Number 3)) no_fields ≡ true
unequal_default = refl

optional_unset : is_met (to Uint64 Optional) (Compares Equal (Number 0)) no_fields ≡ false
optional_unset = refl

no_value_is_not_unequal : is_met (to Uint64 Optional) (Compares NotEqual (Number 3)) no_fields ≡ false
no_value_is_not_unequal = refl

member_set_to_0 : is_met (to Uint64 (Member 0)) (Compares Equal (Number 0)) (with_1 (number 0)) ≡ true
member_set_to_0 = refl

signed_below : is_met (to Int32 Plain) (Compares Less (Number 0)) (with_1 (number (minus 1))) ≡ true
signed_below = refl

unsigned_not_below : is_met (to Uint64 Plain) (Compares Less (Number 0)) (with_1 (number (minus 1))) ≡ false
unsigned_not_below = refl

an_enum_is_signed : is_met (to (Choice 0) Plain) (Compares Greater (Number (minus 2))) (with_1 (number (minus 1))) ≡ true
an_enum_is_signed = refl

a_default_is_greater : is_met (to Int32 Plain) (Compares Greater (Number (minus 1))) no_fields ≡ true
a_default_is_greater = refl

false_is_below_true : is_met (to TheBool Plain) (Compares Less (Number 1)) no_fields ≡ true
false_is_below_true = refl

-- ---- tests of runs

begins : is_met (to Text Plain) (Compares Starts (Run (codes "ab"))) (with_1 (run (codes "abc"))) ≡ true
begins = refl

no_prefix_of_its_own_front : is_met (to Text Plain) (Compares Starts (Run (codes "abc"))) (with_1 (run (codes "ab"))) ≡ false
no_prefix_of_its_own_front = refl

all_begin_with_nothing : is_met (to Octets Plain) (Compares Starts (Run [])) no_fields ≡ true
all_begin_with_nothing = refl

equal_text : is_met (to Text Plain) (Compares Equal (Run (codes "a"))) (with_1 (run (codes "a"))) ≡ true
equal_text = refl

longer_text : is_met (to Text Plain) (Compares NotEqual (Run (codes "a"))) (with_1 (run (codes "ab"))) ≡ true
longer_text = refl

-- ---- presence, and ways

present : is_met (to (Message 0) Plain) Present (with_1 (node no_fields)) ≡ true
present = refl

a_default_is_absent : is_met (to Uint64 Plain) Present no_fields ≡ false
a_default_is_absent = refl

a_list_is_present : is_met (to Uint64 Repeated) Present (field 1 (many (item (number 3) no_items)) no_fields) ≡ true
a_list_is_present = refl

behind_a_message : is_met (through 2 Uint64 Plain) (Compares Equal (Number 5)) (field 2 (one (node (with_1 (number 5)))) no_fields) ≡ true
behind_a_message = refl

a_default_behind_a_message : is_met (through 2 Uint64 Plain) (Compares Equal (Number 0)) (field 2 (one (node no_fields)) no_fields) ≡ true
a_default_behind_a_message = refl

behind_no_message : is_met (through 2 Uint64 Plain) (Compares Equal (Number 0)) (with_1 (number 5)) ≡ false
behind_no_message = refl

unequal_behind_no_message : is_met (through 2 Uint64 Plain) (Compares NotEqual (Number 3)) no_fields ≡ false
unequal_behind_no_message = refl
