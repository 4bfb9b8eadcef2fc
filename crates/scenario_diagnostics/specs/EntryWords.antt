-- The words about a scenario's fault.
use Rattle.std.specs.Prelude.{ℕ, List, ◌++◌, codes}
use Rattle.std.specs.Fmt.{decimal}
use Rattle.scenario.specs.declared.fault.FaultyEntry.{FaultyEntry}
use Rattle.scenario.specs.declared.fault.FaultyEntry.TheVariants as entry

-- the key of the list that contains an entry
abbrev pub list_key : FaultyEntry → List ℕ
list_key entry.Top = codes ""
list_key (entry.Tenant n) = codes "tenant"
list_key (entry.Policy n) = codes "policy"
list_key (entry.App n) = codes "app"
list_key (entry.Link n) = codes "link"
list_key (entry.Operator n) = codes "operator"

abbrev pub numbered : List ℕ → ℕ → List ℕ
numbered word n = word ++ decimal n

-- the words for an entry, such as `app 2`
abbrev pub entry_words : FaultyEntry → List ℕ
entry_words entry.Top = codes "the scenario"
entry_words (entry.Tenant n) = numbered (codes "tenant ") n
entry_words (entry.Policy n) = numbered (codes "policy ") n
entry_words (entry.App n) = numbered (codes "app ") n
entry_words (entry.Link n) = numbered (codes "link ") n
entry_words (entry.Operator n) = numbered (codes "operator ") n
