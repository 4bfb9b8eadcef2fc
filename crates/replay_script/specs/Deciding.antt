-- The code's own: the first reason of a line, by the kept state of its connection.
use Rattle.std.specs.Prelude.{ℕ, ◌+◌, ◌*◌, nat_lt, nat_le, Bool, ◌&&◌, not, if◌then◌else◌, List, length, Option, Some, None, Result, Ok, Err}
use Rattle.std.specs.List.{list_any}
use Rattle.engine_core.specs.Chains.{Entry, is_named}
use Rattle.engine_core.specs.Policies.{is_same_kind}
use Rattle.engine_core.specs.declared.op.Op.{Op}
use Rattle.engine_core.specs.declared.op.Op.TheVariants as op
use Rattle.engine_core.specs.declared.policy.Policy.{Policy}
use Rattle.policy_declarations.specs.Declarations.{Declared}
use Rattle.policy_declarations.specs.declared.declaration.NamedPolicy.{NamedPolicy}
use Rattle.script_grammar.specs.WordKinds.{Meaning}
use Rattle.script_grammar.specs.declared.form.LineForm.{LineForm}
use Rattle.script_grammar.specs.declared.fault.ScriptReason.{ScriptReason}
use Rattle.script_grammar.specs.declared.fault.ScriptReason.TheVariants.{Known, Unknown, Place, NoSuch, Taken, At, ChainFull, OtherKind, Work}
use Rattle.replay_script.specs.Lines.{conn_of, op_in, heap_of, chain_after_lines, submissions}
use Rattle.replay_script.specs.Words.{line_in}
use Rattle.replay_script.specs.declared.limits.TheConstants.{MAX_WORK}
use Rattle.replay_script.specs.declared.script.ScriptLine.{ScriptLine}
use Rattle.replay_script.specs.declared.script.ScriptLine.TheVariants.{Conn, Store, Race, Submit, Turn}

abbrev pub unless : Bool → ScriptReason → Option ScriptReason
unless right reason = if right then None else Some reason

abbrev pub is_place : (words place : ℕ) → Bool
is_place words place = nat_le 1 place && nat_lt place words

abbrev pub has_name : List ℕ → List Entry → Bool
has_name name entries = list_any (is_named name) entries

abbrev pub is_other : List ℕ → Policy → Entry → Bool
is_other name policy e = is_named name e && not (is_same_kind e.policy policy)

abbrev pub has_other : List ℕ → Policy → List Entry → Bool
has_other name policy entries = list_any (is_other name policy) entries

-- the reason of an operation
abbrev pub op_reason : Op → List Entry → Option ScriptReason
op_reason (op.Attach at name label policy) entries =
    if has_name name entries then Some Taken else if nat_lt (length entries) at then Some At
    else if nat_le 8 (length entries) then Some ChainFull else None
op_reason (op.Detach name) entries = unless (has_name name entries) NoSuch
op_reason (op.Upgrade name label policy) entries =
    if has_name name entries then unless (not (has_other name policy entries)) OtherKind else Some NoSuch

abbrev pub some_op_reason : Option Op → List Entry → Option ScriptReason
some_op_reason None entries = None
some_op_reason (Some o) entries = op_reason o entries

-- the reason of a line of an open connection with a heap of this many words
abbrev pub open_line_reason : (loads : ℕ) → List NamedPolicy → (words : ℕ) → List Entry → (submitted : ℕ) → ScriptLine
    → Option ScriptReason
open_line_reason loads policies words entries submitted (Store conn place value) = unless (is_place words place) Place
open_line_reason loads policies words entries submitted (Race conn load place value) =
    unless (nat_le 1 load && is_place words place) Place
open_line_reason loads policies words entries submitted (Submit conn method number addr) =
    unless (nat_le ((submitted + 1) * loads) MAX_WORK) Work
open_line_reason loads policies words entries submitted (Turn conn at) = unless (nat_lt at (length entries)) At
open_line_reason loads policies words entries submitted l = some_op_reason (op_in policies l) entries

abbrev pub known_line_reason : (loads : ℕ) → List NamedPolicy → (heap : Option ℕ) → List Entry → (submitted : ℕ)
    → ScriptLine
    → Option ScriptReason
known_line_reason loads policies None entries submitted (Conn conn words) = None
known_line_reason loads policies (Some other) entries submitted (Conn conn words) = Some Known
known_line_reason loads policies None entries submitted l = Some Unknown
known_line_reason loads policies (Some words) entries submitted l = open_line_reason loads policies words entries
    submitted l

-- the reason of a line after these
abbrev pub reason_after : (loads : ℕ) → List NamedPolicy → List ScriptLine → ScriptLine → Option ScriptReason
reason_after loads policies before l =
    known_line_reason loads policies (heap_of before (conn_of l))
    (chain_after_lines policies before (conn_of l)).entries
    (submissions before) l

abbrev pub decided_by : ScriptLine → Option ScriptReason → Result ScriptLine ScriptReason
decided_by l None = Ok l
decided_by l (Some reason) = Err reason

abbrev pub decided : (loads : ℕ) → List NamedPolicy → List ScriptLine → Option ScriptLine
    → Result ScriptLine ScriptReason
decided loads policies before None = Err Unknown
decided loads policies before (Some l) = decided_by l (reason_after loads policies before l)

-- the line that words mean after these lines, or its first reason
abbrev pub decide : (loads : ℕ) → Declared → List ScriptLine → LineForm → List Meaning → Result ScriptLine ScriptReason
decide loads d before f m = decided loads d.policies before (line_in d f m)
