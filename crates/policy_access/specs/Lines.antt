-- The content of a line of an access policy, by its form alone (this project's own format).
use Rattle.std.specs.Prelude.{ℕ, ◌==◌, Bool, true, false, ◌||◌, if◌then◌else◌, List, [], ◌∷◌, codes, length, Option, Some, None, option_map, option_and_then}
use Rattle.std.specs.List.{join_with_byte}
use Rattle.std.specs.Str.{bytes_eq}
use Rattle.mrpc_table.specs.Lines.{words_of}
use Rattle.mrpc_table.specs.declared.call.CallKind.{CallKind}
use Rattle.mrpc_table.specs.declared.call.CallKind.TheVariants.{Request, Reply}
use Rattle.mrpc_table.specs.declared.words.Decimal.{Decimal}
use Rattle.mrpc_table.specs.PathWords.{decimal_of, path_of}
use Rattle.mrpc_table.specs.declared.path.PathWord.{PathWord}
use Rattle.policy_access.specs.declared.rule.Comparison.{Comparison}
use Rattle.policy_access.specs.declared.rule.Comparison.TheVariants.{Equal, NotEqual, Less, Greater, Starts}
use Rattle.policy_access.specs.declared.line.PolicyLine.{PolicyLine}
use Rattle.policy_access.specs.declared.line.PolicyLine.TheVariants.{Rule, Default}
use Rattle.policy_access.specs.declared.line.RuleLine.{RuleLine}
use Rattle.policy_access.specs.declared.line.SelectorLine.{SelectorLine}
use Rattle.policy_access.specs.declared.line.SelectorLine.TheVariants.{Every, Calls}
use Rattle.policy_access.specs.declared.line.CallsLine.{CallsLine}
use Rattle.policy_access.specs.declared.line.TestLine.{TestLine}
use Rattle.policy_access.specs.declared.line.ConditionLine.{ConditionLine}
use Rattle.policy_access.specs.declared.line.ConditionLine.TheVariants.{Present, Compares}

-- `allow` or `deny`
abbrev pub allow_of : List ℕ → Option Bool
allow_of word =
    if bytes_eq word (codes "allow") then Some true
    else if bytes_eq word (codes "deny") then Some false
    else None

-- the word of a comparison
abbrev pub comparison_of : List ℕ → Option Comparison
comparison_of word =
    if bytes_eq word (codes "eq") then Some Equal
    else if bytes_eq word (codes "ne") then Some NotEqual
    else if bytes_eq word (codes "lt") then Some Less
    else if bytes_eq word (codes "gt") then Some Greater
    else if bytes_eq word (codes "starts") then Some Starts
    else None

-- a value is one word; if it starts with a quote, it is the remainder of the line
abbrev pub is_quoted : List ℕ → Bool
is_quoted [] = false
is_quoted (c ∷ cs) = c == 34

abbrev pub value_of : List (List ℕ) → Option (List ℕ)
value_of words =
    let value = join_with_byte 32 words in
    if is_quoted value || length words == 1 then Some value else None

-- `present`, or another OP and a value
abbrev pub condition_of : List ℕ → List (List ℕ) → Option ConditionLine
condition_of operation [] = if bytes_eq operation (codes "present") then Some Present else None
condition_of operation (word ∷ words) =
    option_and_then (λ c. option_map (Compares c) (value_of (word ∷ words))) (comparison_of operation)

abbrev pub condition_of_words : List (List ℕ) → Option ConditionLine
condition_of_words [] = None
condition_of_words (operation ∷ words) = condition_of operation words

-- a path, and the condition on the field at its end
abbrev pub with_condition : List (List ℕ) → PathWord → Option TestLine
with_condition words p = option_map (λ c. record { path = p; condition = c }) (condition_of_words words)

-- `where PATH OP [VALUE]`
abbrev pub test_line_of : List (List ℕ) → Option TestLine
test_line_of (first ∷ path ∷ words) =
    if bytes_eq first (codes "where")
    then option_and_then (with_condition words) (path_of path)
    else None
test_line_of _ = None

-- nothing, or a test
abbrev pub optional_test : List (List ℕ) → Option (Option TestLine)
optional_test [] = Some None
optional_test (word ∷ words) = option_map Some (test_line_of (word ∷ words))

abbrev pub calls_with : Decimal → CallKind → List (List ℕ) → Option CallsLine
calls_with index sort words = option_map (λ t. record { index = index; sort = sort; test = t }) (optional_test words)

-- after the index: an optional `reply`, then an optional test
abbrev pub calls_line_of : Decimal → List (List ℕ) → Option CallsLine
calls_line_of index [] = calls_with index Request []
calls_line_of index (word ∷ words) =
    if bytes_eq word (codes "reply") then calls_with index Reply words
    else calls_with index Request (word ∷ words)

-- nothing, or `method INDEX` and what follows it
abbrev pub selector_line_of : List (List ℕ) → Option SelectorLine
selector_line_of [] = Some Every
selector_line_of (first ∷ index ∷ words) =
    if bytes_eq first (codes "method")
    then option_and_then (λ n. option_map Calls (calls_line_of n words)) (decimal_of index)
    else None
selector_line_of _ = None

-- after the first word of a line
abbrev pub rule_line_of : List (List ℕ) → Option RuleLine
rule_line_of (name ∷ verb ∷ words) =
    option_and_then
    (λ a. option_map (λ about. record { name = name; allow = a; about = about }) (selector_line_of words))
    (allow_of verb)
rule_line_of _ = None

abbrev pub default_line_of : List (List ℕ) → Option Bool
default_line_of (verb ∷ []) = allow_of verb
default_line_of _ = None

abbrev pub access_line_of_words : List (List ℕ) → Option PolicyLine
access_line_of_words [] = None
access_line_of_words (first ∷ words) =
    if bytes_eq first (codes "rule") then option_map Rule (rule_line_of words)
    else if bytes_eq first (codes "default") then option_map Default (default_line_of words)
    else None

-- the parsed line; none if the line is malformed
unfoldable pub access_line_of : List ℕ → Option PolicyLine
access_line_of line = access_line_of_words (words_of line)
