-- When a tree meets the test of a rule (this project's own rule language).
use Rattle.std.specs.Prelude.{◌==◌, nat_lt, nat_eq, Bool, false, not, is_some}
use Rattle.std.specs.Option.{option_map_or}
use Rattle.std.specs.List.{starts_with}
use Rattle.std.specs.Str.{bytes_eq}
use Rattle.mrpc_table.specs.Node.{Node, Item, number, run}
use Rattle.mrpc_table.specs.Words.{rank}
use Rattle.mrpc_table.specs.declared.table.Kind.{Kind}
use Rattle.mrpc_table.specs.PathTrees.{content_at_path}
use Rattle.mrpc_table.specs.declared.path.Path.{Path}
use Rattle.policy_access.specs.Paths.{item_at_path}
use Rattle.policy_access.specs.declared.rule.Operand.{Operand}
use Rattle.policy_access.specs.declared.rule.Operand.TheVariants.{Number, Run}
use Rattle.policy_access.specs.declared.rule.Condition.{Condition}
use Rattle.policy_access.specs.declared.rule.Condition.TheVariants.{Present, Compares}
use Rattle.policy_access.specs.declared.rule.Comparison.{Comparison}
use Rattle.policy_access.specs.declared.rule.Comparison.TheVariants.{Equal, NotEqual, Less, Greater, Starts}
use Rattle.policy_access.specs.declared.rule.Test.{Test}

-- the value of a field equals that of the rule
abbrev pub is_equal : Operand → Item → Bool
is_equal (Number n) (number m) = m == n
is_equal (Run a) (run b) = bytes_eq b a
is_equal _ _ = false

-- it is a smaller, or a greater, number of the kind
abbrev pub is_less : Kind → Operand → Item → Bool
is_less k (Number n) (number m) = nat_lt (rank k m) (rank k n)
is_less k _ _ = false

abbrev pub is_greater : Kind → Operand → Item → Bool
is_greater k (Number n) (number m) = nat_lt (rank k n) (rank k m)
is_greater k _ _ = false

-- the bytes of the rule are a prefix of its bytes
abbrev pub has_prefix : Operand → Item → Bool
has_prefix (Run prefix) (run bytes) = starts_with nat_eq bytes prefix
has_prefix _ _ = false

-- the comparison of a value of a kind with that of the rule
abbrev pub compares : Comparison → Kind → Operand → Item → Bool
compares Equal k v i = is_equal v i
compares NotEqual k v i = not (is_equal v i)
compares Less k v i = is_less k v i
compares Greater k v i = is_greater k v i
compares Starts k v i = has_prefix v i

-- a tree meets a condition: it has the field, or it has a value that passes the comparison
abbrev pub is_met : Path → Condition → Node → Bool
is_met path Present t = is_some (content_at_path t path)
is_met path (Compares c v) t = option_map_or (compares c path.kind v) (item_at_path t path) false

abbrev pub meets : Node → Test → Bool
meets t test = is_met test.path test.condition t
