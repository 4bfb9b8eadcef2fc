-- The code's own: the kept outline of chains.
use Rattle.std.specs.Prelude.{ℕ, ◌==◌, nat_lt, nat_le, Bool, true, false, ◌&&◌, not, if◌then◌else◌, List, length, Result, Ok, Err}
use Rattle.std.specs.List.{list_any, filter}
use Rattle.std.specs.Str.{bytes_eq}
use Rattle.engine_core.specs.declared.policy.Policy.{Policy}
use Rattle.engine_core.specs.declared.policy.Policy.TheVariants as policy
use Rattle.mrpc_table.specs.declared.words.Decimal.{Decimal}
use Rattle.mrpc_table.specs.declared.words.Decimal.TheVariants.{Small, Large}
use Rattle.script_grammar.specs.declared.fault.ScriptReason.{ScriptReason}
use Rattle.script_grammar.specs.declared.fault.ScriptReason.TheVariants.{NoSuch, Taken, At, ChainFull, OtherKind}
use Rattle.replay_script.specs.declared.chain.EntryKind.{EntryKind}
use Rattle.replay_script.specs.declared.chain.EntryKind.TheVariants as kind
use Rattle.replay_script.specs.declared.chain.EntryOutline.{EntryOutline}

abbrev pub entry_kind_of : Policy → EntryKind
entry_kind_of (policy.Access p) = kind.Access
entry_kind_of (policy.Rate r) = kind.Rate
entry_kind_of (policy.Quota tenant per cap) = kind.Quota tenant
entry_kind_of policy.Count = kind.Count
entry_kind_of (policy.Redact r) = kind.Redact

abbrev pub is_kind : EntryKind → EntryKind → Bool
is_kind kind.Access kind.Access = true
is_kind kind.Rate kind.Rate = true
is_kind (kind.Quota t) (kind.Quota u) = t == u
is_kind kind.Count kind.Count = true
is_kind kind.Redact kind.Redact = true
is_kind _ _ = false

abbrev pub is_link : List ℕ → EntryOutline → Bool
is_link name l = bytes_eq l.name name

abbrev pub is_other_link : List ℕ → EntryKind → EntryOutline → Bool
is_other_link name k l = bytes_eq l.name name && not (is_kind l.kind k)

abbrev pub has_entry : List ℕ → List EntryOutline → Bool
has_entry name links = list_any (is_link name) links

abbrev pub has_other_entry : List ℕ → EntryKind → List EntryOutline → Bool
has_other_entry name k links = list_any (is_other_link name k) links

abbrev pub without : List ℕ → List EntryOutline → List EntryOutline
without name links = filter (λ l. not (is_link name l)) links

abbrev pub attach_at : (count at : ℕ) → Result ℕ ScriptReason
attach_at count at = if nat_le at count then (if nat_le 8 count then Err ChainFull else Ok at) else Err At

abbrev pub attach_in : (count : ℕ) → Decimal → Result ℕ ScriptReason
attach_in count (Small at) = attach_at count at
attach_in count Large = Err At

abbrev pub attach_position : List EntryOutline → Decimal → List ℕ → Result ℕ ScriptReason
attach_position links at name = if has_entry name links then Err Taken else attach_in (length links) at

abbrev pub check_detach : List EntryOutline → List ℕ → Result (Unit {0}) ScriptReason
check_detach links name = if has_entry name links then Ok tt else Err NoSuch

abbrev pub check_upgrade : List EntryOutline → List ℕ → EntryKind → Result (Unit {0}) ScriptReason
check_upgrade links name k =
    if not (has_entry name links) then Err NoSuch
    else if has_other_entry name k links then Err OtherKind else Ok tt

abbrev pub engine_in : List EntryOutline → Decimal → Result ℕ ScriptReason
engine_in links (Small at) = if nat_lt at (length links) then Ok at else Err At
engine_in links Large = Err At
