-- The state of connections after the lines of a script, and which line is legal after them (this project's own).
use Rattle.std.specs.Prelude.{◌≡◌, ℕ, ◌+◌, ◌*◌, ◌<◌, ◌≤◌, ◌^◌, ◌==◌, Bool, true, false, List, [], ◌∷◌, ◌++◌, length, count_by, if◌then◌else◌, slice_get, Option, Some, None, option_map}
use Rattle.mrpc_table.specs.Names.{IsName}
use Rattle.mrpc_table.specs.Valid.{IsValid}
use Rattle.mrpc_table.specs.declared.limits.TheConstants.{MIN_HEAP, MAX_HEAP, MAX_LOADS}
use Rattle.engine_core.specs.Chains.{Chain, Refusal, no_such, taken, no_place, full, other_kind, IsRejection, changed}
use Rattle.engine_core.specs.declared.op.Op.{Op}
use Rattle.engine_core.specs.declared.op.Op.TheVariants as op
use Rattle.script_grammar.specs.declared.fault.ScriptReason.{ScriptReason}
use Rattle.script_grammar.specs.declared.fault.ScriptReason.TheVariants.{Known, Unknown, Place, NoSuch, Taken, At, ChainFull, OtherKind, Work}
use Rattle.policy_declarations.specs.Declarations.{AreValidDeclarations}
use Rattle.policy_declarations.specs.declared.declaration.NamedPolicy.{NamedPolicy}
use Rattle.replay_script.specs.declared.limits.TheConstants.{MAX_CONNECTIONS, MAX_WORK}
use Rattle.replay_script.specs.declared.script.ScriptLine.{ScriptLine}
use Rattle.replay_script.specs.declared.script.ScriptLine.TheVariants.{Conn, Store, Race, Submit, Attach, Detach, Upgrade, Moment, Turn, Send, Drain}
use Rattle.replay_script.specs.declared.script.Script.{Script}

-- ---- what a line names

-- its connection
abbrev pub conn_of : ScriptLine → ℕ
conn_of (Conn conn words) = conn
conn_of (Store conn place value) = conn
conn_of (Race conn load place value) = conn
conn_of (Submit conn method number addr) = conn
conn_of (Attach conn at name policy) = conn
conn_of (Detach conn name) = conn
conn_of (Upgrade conn name policy) = conn
conn_of (Moment conn ms) = conn
conn_of (Turn conn at) = conn
conn_of (Send conn) = conn
conn_of (Drain conn) = conn

-- it opens that connection, and doesn't use it
abbrev pub is_conn : ScriptLine → Bool
is_conn (Conn conn words) = true
is_conn _ = false

abbrev pub is_submit : ScriptLine → Bool
is_submit (Submit conn method number addr) = true
is_submit _ = false

-- the place of the heap at which it stores
abbrev pub store_place : ScriptLine → Option ℕ
store_place (Store conn place value) = Some place
store_place (Race conn load place value) = Some place
store_place _ = None

-- its operation; the line has the index of a declared policy
abbrev pub op_in : List NamedPolicy → ScriptLine → Option Op
op_in policies (Attach conn at name policy) =
    option_map (λ p. op.Attach at name p.name p.policy) (slice_get policies policy)
op_in policies (Detach conn name) = Some (op.Detach name)
op_in policies (Upgrade conn name policy) =
    option_map (λ p. op.Upgrade name p.name p.policy) (slice_get policies policy)
op_in policies _ = None

-- ---- the state of a connection after lines

-- the size of its heap, by the line that opens it; none if no line does
abbrev pub heap_of : List ScriptLine → ℕ → Option ℕ
heap_of [] conn = None
heap_of (Conn number words ∷ lines) conn = if number == conn then Some words else heap_of lines conn
heap_of (_ ∷ lines) conn = heap_of lines conn

abbrev pub new_chain : Chain
new_chain = record { entries = []; attached = 0 }

abbrev pub chain_after_op : Option Op → Chain → Chain
chain_after_op None chain = chain
chain_after_op (Some o) chain = changed o chain

-- its chain after lines, starting from this chain: each operator's line of the connection applies its operation
abbrev pub chain_after : List NamedPolicy → Chain → List ScriptLine → ℕ → Chain
chain_after policies chain [] conn = chain
chain_after policies chain (l ∷ lines) conn =
    chain_after policies (if conn_of l == conn then chain_after_op (op_in policies l) chain else chain) lines conn

abbrev pub chain_after_lines : List NamedPolicy → List ScriptLine → ℕ → Chain
chain_after_lines policies lines conn = chain_after policies new_chain lines conn

-- the number of calls that lines submit, on all connections
abbrev pub submissions : List ScriptLine → ℕ
submissions lines = count_by is_submit lines

-- ---- the reasons of a line

abbrev pub IsHeapPlace : (words place : ℕ) → Type 0
IsHeapPlace words place = (1 ≤ place) × (place < words)

-- the reason for which a chain rejects an operation
abbrev pub reason_of_refusal : Refusal → ScriptReason
reason_of_refusal (no_such name) = NoSuch
reason_of_refusal (taken name) = Taken
reason_of_refusal (no_place at) = At
reason_of_refusal (full entries) = ChainFull
reason_of_refusal (other_kind name) = OtherKind

-- a line after these has this reason; each call loads at most so many words
pub data HasReasonAfter (loads : ℕ) (policies : List NamedPolicy) (before : List ScriptLine) (l : ScriptLine)
    (reason : ScriptReason)
    : Type 0 where
  -- the connection that it opens is already open
  is_open : (words : ℕ) → is_conn l ≡ true → heap_of before (conn_of l) ≡ Some words → reason ≡ Known
      → HasReasonAfter loads policies before l reason
  -- the connection that it uses isn't open
  not_open : is_conn l ≡ false → heap_of before (conn_of l) ≡ None → reason ≡ Unknown
      → HasReasonAfter loads policies before l reason
  -- it stores outside the heap, or at place 0
  no_place_there : (place words : ℕ) → store_place l ≡ Some place → heap_of before (conn_of l) ≡ Some words
      → (IsHeapPlace words place → ⊥) → reason ≡ Place → HasReasonAfter loads policies before l reason
  -- loads are counted from 1
  no_load : (conn place value : ℕ) → l ≡ Race conn 0 place value → reason ≡ Place
      → HasReasonAfter loads policies before l reason
  -- the chain has no engine at the position
  no_engine : (conn at : ℕ) → l ≡ Turn conn at → length (chain_after_lines policies before conn).entries ≤ at
      → reason ≡ At
      → HasReasonAfter loads policies before l reason
  -- the chain rejects the operation
  is_refused : (o : Op) (refusal : Refusal) → op_in policies l ≡ Some o
      → IsRejection (chain_after_lines policies before (conn_of l)) o refusal → reason ≡ reason_of_refusal refusal
      → HasReasonAfter loads policies before l reason
  -- the calls could then load too many words
  too_much : is_submit l ≡ true → MAX_WORK < (submissions before + 1) * loads → reason ≡ Work
      → HasReasonAfter loads policies before l reason

-- ---- properties of each script

-- the numbers and names of a line are in their ranges, and a policy that it names is declared
abbrev pub IsValidLine : (policies : ℕ) → ScriptLine → Type 0
IsValidLine policies (Conn conn words) = (MIN_HEAP ≤ words) × (words ≤ MAX_HEAP)
IsValidLine policies (Store conn place value) = value < 2 ^ 64
IsValidLine policies (Race conn load place value) = (load < 2 ^ 64) × (value < 2 ^ 64)
IsValidLine policies (Submit conn method number addr) = (method < 2 ^ 16) × (number < 2 ^ 32) × (addr < 2 ^ 64)
IsValidLine policies (Attach conn at name policy) = IsName name × (policy < policies)
IsValidLine policies (Detach conn name) = IsName name
IsValidLine policies (Upgrade conn name policy) = IsName name × (policy < policies)
IsValidLine policies (Moment conn ms) = ms ≤ 2 ^ 53
IsValidLine policies (Turn conn at) = Unit {0}
IsValidLine policies (Send conn) = Unit {0}
IsValidLine policies (Drain conn) = Unit {0}

-- a line is legal after these
pub record IsAllowedAfter (loads : ℕ) (policies : List NamedPolicy) (before : List ScriptLine) (l : ScriptLine)
    : Type 0 where
  pub conn_from : 1 ≤ conn_of l
  pub conn_to : conn_of l ≤ MAX_CONNECTIONS
  pub ranges : IsValidLine (length policies) l
  pub free : (reason : ScriptReason) → HasReasonAfter loads policies before l reason → ⊥

-- each of the lines is legal after these and those before it
abbrev pub AreAllowed : (loads : ℕ) → List NamedPolicy → List ScriptLine → List ScriptLine → Type 0
AreAllowed loads policies before [] = Unit {0}
AreAllowed loads policies before (l ∷ lines) =
    IsAllowedAfter loads policies before l × AreAllowed loads policies (before ++ l ∷ []) lines

pub record IsScript (s : Script) : Type 0 where
  pub table : IsValid s.table
  pub loads_from : 1 ≤ s.loads
  pub loads_to : s.loads ≤ MAX_LOADS
  pub declared : AreValidDeclarations s.declared
  pub lines : AreAllowed s.loads s.declared.policies [] s.lines
