-- The calls that a rule selects in a table, or the reason against it (this project's own rule language).
use Rattle.std.specs.Prelude.{ℕ, nat_lt, Bool, true, false, not, ◌&&◌, if◌then◌else◌, List, length, Option, Some, None, option_and_then, Result, Ok, Err}
use Rattle.std.specs.Option.{option_map_or}
use Rattle.std.specs.Result.{result_map_both}
use Rattle.mrpc_table.specs.Calls.{message_of}
use Rattle.mrpc_table.specs.PolicyLines.{index_of}
use Rattle.mrpc_table.specs.Words.{has_one_value, is_run}
use Rattle.mrpc_table.specs.declared.call.CallKind.{CallKind}
use Rattle.mrpc_table.specs.declared.table.Table.{Table}
use Rattle.mrpc_table.specs.declared.table.Kind.{Kind}
use Rattle.mrpc_table.specs.declared.table.Kind.TheVariants.{Float, Double, Message}
use Rattle.policy_access.specs.Values.{operand_of, has_no_form}
use Rattle.policy_access.specs.declared.rule.Comparison.{Comparison}
use Rattle.policy_access.specs.declared.rule.Comparison.TheVariants.{Equal, NotEqual, Less, Greater, Starts}
use Rattle.policy_access.specs.declared.rule.Condition.{Condition}
use Rattle.policy_access.specs.declared.rule.Condition.TheVariants as conditions
use Rattle.mrpc_table.specs.PathFields.{path_in}
use Rattle.mrpc_table.specs.declared.path.Path.{Path}
use Rattle.policy_access.specs.declared.rule.Test.{Test}
use Rattle.policy_access.specs.declared.rule.Calls.{Calls}
use Rattle.policy_access.specs.declared.rule.CallSelector.{CallSelector}
use Rattle.policy_access.specs.declared.rule.CallSelector.TheVariants as abouts
use Rattle.policy_access.specs.declared.line.ConditionLine.{ConditionLine}
use Rattle.policy_access.specs.declared.line.ConditionLine.TheVariants.{Present, Compares}
use Rattle.policy_access.specs.declared.line.TestLine.{TestLine}
use Rattle.policy_access.specs.declared.line.CallsLine.{CallsLine}
use Rattle.policy_access.specs.declared.line.SelectorLine.{SelectorLine}
use Rattle.policy_access.specs.declared.line.SelectorLine.TheVariants as lines
use Rattle.policy_access.specs.declared.fault.SelectorReason.{SelectorReason}
use Rattle.policy_access.specs.declared.fault.SelectorReason.TheVariants as reason

-- ---- tests

-- the kinds whose values can be tested for equality: all but floats and messages
abbrev pub is_comparable : Kind → Bool
is_comparable Float = false
is_comparable Double = false
is_comparable (Message i) = false
is_comparable _ = true

-- whether a comparison fits a kind
abbrev pub fits_kind : Comparison → Kind → Bool
fits_kind Equal k = is_comparable k
fits_kind NotEqual k = is_comparable k
fits_kind Less k = is_comparable k && not (is_run k)
fits_kind Greater k = is_comparable k && not (is_run k)
fits_kind Starts k = is_run k

abbrev pub result_map : {A B : Type 0} → (A → B) → Result A SelectorReason → Result B SelectorReason
result_map f r = result_map_both f (λ q. q) r

-- the condition on the field at the end of a path; a comparison needs a field with one value
abbrev pub condition_in : Path → ConditionLine → Result Condition SelectorReason
condition_in p Present = Ok conditions.Present
condition_in p (Compares c value) =
    if has_one_value p.label && fits_kind c p.kind
    then result_map (conditions.Compares c) (operand_of p.kind value)
    else Err reason.Path

-- a test of a message; `Path` if the message doesn't have the field
abbrev pub test_of_path : ConditionLine → Option Path → Result Test SelectorReason
test_of_path c None = Err reason.Path
test_of_path c (Some p) = result_map (λ condition. record { path = p; condition = condition }) (condition_in p c)

abbrev pub test_in : Table → ℕ → TestLine → Result Test SelectorReason
test_in T msg t = test_of_path t.condition (path_in T msg t.path)

abbrev pub tests_in : Table → ℕ → Option TestLine → Result (Option Test) SelectorReason
tests_in T msg None = Ok None
tests_in T msg (Some t) = result_map Some (test_in T msg t)

-- ---- calls

-- the requests or the replies of a method, with an optional test
abbrev pub with_test : ℕ → CallKind → Option Test → Calls
with_test method sort test = record { method = method; sort = sort; test = test }

-- the value that a test compares with, if any
abbrev pub value_of_condition : ConditionLine → Option (List ℕ)
value_of_condition Present = None
value_of_condition (Compares c value) = Some value

abbrev pub value_of_test : Option TestLine → Option (List ℕ)
value_of_test t = option_and_then (λ test. value_of_condition test.condition) t

-- The reason against the calls of an unknown method. Paths of such a method can't be judged, so only the form of a
-- value is. If it has none, `Word` counts before the reason against the method.
abbrev pub of_unknown_method : SelectorReason → Option TestLine → SelectorReason
of_unknown_method q t = if option_map_or has_no_form (value_of_test t) false then reason.Word else q

-- the calls of a method; `Path` if the table doesn't have it
abbrev pub calls_of_method : Table → ℕ → CallKind → Option TestLine → Result Calls SelectorReason
calls_of_method T method sort t =
    if nat_lt method (length T.methods)
    then result_map (with_test method sort) (tests_in T (message_of T method sort) t)
    else Err (of_unknown_method reason.Path t)

-- `Number` if the index has more than 16 bits
abbrev pub calls_of_index : Table → CallKind → Option TestLine → Option ℕ → Result Calls SelectorReason
calls_of_index T sort t None = Err (of_unknown_method reason.Number t)
calls_of_index T sort t (Some method) = calls_of_method T method sort t

abbrev pub calls_in : Table → CallsLine → Result Calls SelectorReason
calls_in T c = calls_of_index T c.sort c.test (index_of c.index)

abbrev pub selector_in : Table → SelectorLine → Result CallSelector SelectorReason
selector_in T lines.Every = Ok abouts.Every
selector_in T (lines.Calls c) = result_map abouts.Calls (calls_in T c)
