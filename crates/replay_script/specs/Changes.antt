-- The code's own: how the kept state corresponds to the lines so far, and the state after a change.
use Rattle.std.specs.Prelude.{◌≡◌, ◌≢◌, Bool, Ok, Err, ℕ, ◌*◌, ◌<◌, ◌≤◌, false, true, List, Some, [], ◌∷◌, ◌++◌, length, map}
use Rattle.mrpc_table.specs.declared.table.Table.{Table}
use Rattle.engine_core.specs.Chains.{Entry}
use Rattle.policy_declarations.specs.Declarations.{Declared, with_declaration, IsNew}
use Rattle.policy_declarations.specs.DeclarationTexts.{HasDeclaration, HasFirstFaultAt}
use Rattle.policy_declarations.specs.declared.declaration.Declaration.{Declaration}
use Rattle.policy_declarations.specs.declared.declaration_form.DeclarationForm.{DeclarationForm}
use Rattle.policy_declarations.specs.declared.declaration.NamedPolicy.{NamedPolicy}
use Rattle.script_grammar.specs.Reasons.{IsFirstReason}
use Rattle.script_grammar.specs.WordKinds.{Meaning}
use Rattle.script_grammar.specs.declared.form.LineForm.{LineForm}
use Rattle.script_grammar.specs.declared.form.LineForm.TheVariants.{Close as CloseForm}
use Rattle.script_grammar.specs.declared.fault.ScriptFault.{ScriptFault}
use Rattle.script_grammar.specs.declared.fault.ScriptFault.TheVariants as fault
use Rattle.script_grammar.specs.declared.fault.ScriptReason.{ScriptReason}
use Rattle.script_grammar.specs.declared.fault.ScriptReason.TheVariants.{After}
use Rattle.replay_script.specs.Deciding.{decide}
use Rattle.replay_script.specs.Keeping.{words_kept, links_kept, CanAdd, connections_after, submissions_after}
use Rattle.replay_script.specs.EntryKinds.{entry_kind_of}
use Rattle.replay_script.specs.Lines.{heap_of, chain_after_lines, submissions, IsValidLine, IsAllowedAfter}
use Rattle.replay_script.specs.LineReasons.{StateBefore, HasLineReason}
use Rattle.replay_script.specs.Texts.{IsStateAfterLine, IsFirstFaultAt}
use Rattle.replay_script.specs.Words.{IsParsedAs, line_in}
use Rattle.replay_script.specs.declared.body.Body.{Body}
use Rattle.replay_script.specs.declared.body.LineError.{LineError}
use Rattle.replay_script.specs.declared.body.LineError.TheVariants as flaw
use Rattle.replay_script.specs.declared.chain.EntryOutline.{EntryOutline}
use Rattle.replay_script.specs.declared.change.Change.{Change}
use Rattle.replay_script.specs.declared.change.Change.TheVariants as change
use Rattle.replay_script.specs.declared.script.ScriptLine.{ScriptLine}

-- ---- the kept state

abbrev pub link_of : Entry → EntryOutline
link_of e = record { name = e.name; kind = entry_kind_of e.policy }

abbrev pub outline : List Entry → List EntryOutline
outline entries = map link_of entries

-- for a connection, the size of its heap and the outline of its chain are kept
pub record IsConnectionState (policies : List NamedPolicy) (b : Body) (conn : ℕ) : Type 0 where
  pub few : length (links_kept b conn) ≤ 8
  pub words : words_kept b conn ≡ heap_of b.lines conn
  pub links : links_kept b conn ≡ outline (chain_after_lines policies b.lines conn).entries

-- the lines name declared policies
abbrev pub AreValidLines : (policies : ℕ) → List ScriptLine → Type 0
AreValidLines policies [] = Unit {0}
AreValidLines policies (l ∷ lines) = IsValidLine policies l × AreValidLines policies lines

pub record IsValidBody (loads : ℕ) (d : Declared) (b : Body) : Type 0 where
  pub whole : length b.connections ≡ 16
  pub connections : (conn : ℕ) → 1 ≤ conn → conn ≤ 16 → IsConnectionState d.policies b conn
  pub submissions : b.submissions ≡ submissions b.lines
  pub work : b.submissions * loads ≤ 16777216
  pub lines : AreValidLines (length d.policies) b.lines

abbrev pub state_of_body : Declared → Body → StateBefore
state_of_body d b = record { declared = d; lines = b.lines; closed = b.closed }

-- ---- changes

-- words of a form mean this; `close` before them isn't checked
abbrev pub IsChangeOfWords : (loads : ℕ) → Declared → Body → LineForm → List Meaning → Change → Type 0
IsChangeOfWords loads d b f m (change.Line l) = (f ≢ CloseForm) × (decide loads d b.lines f m ≡ Ok l)
IsChangeOfWords loads d b f m change.Close = f ≡ CloseForm
IsChangeOfWords loads d b f m _ = ⊥

abbrev pub IsFlawOf : (loads : ℕ) → Declared → Body → LineForm → List Meaning → LineError → Type 0
IsFlawOf loads d b f m (flaw.Reason reason) = (f ≢ CloseForm) × (decide loads d b.lines f m ≡ Err reason)
IsFlawOf loads d b f m flaw.Memory = Unit {0}

-- a fault in the lines of a declaration; after `close` its first line has the fault
pub data IsDeclarationFaultAt (T : Table) (d : Declared) (closed : Bool) (f : DeclarationForm) (line behind : List ℕ)
    (at : ℕ)
    (reason : ScriptReason) : Type 0 where
  is_fault : (closed ≡ true → at ≤ 1) → HasFirstFaultAt T true d f line behind at reason
      → IsDeclarationFaultAt T d closed f line behind at reason
  is_block : (below : ℕ) (other : ScriptReason) → closed ≡ true → 1 < below
      → HasFirstFaultAt T true d f line behind below other → at ≡ 1 → reason ≡ After
      → IsDeclarationFaultAt T d closed f line behind at reason
  is_item : (i : Declaration) (rest : List ℕ) → closed ≡ true → HasDeclaration T true d f line behind i rest → at ≡ 1
      → reason ≡ After → IsDeclarationFaultAt T d closed f line behind at reason

abbrev pub IsDeclarationFault : Table → Declared → Bool → DeclarationForm → List ℕ → List ℕ → ScriptFault → Type 0
IsDeclarationFault T d closed f line behind (fault.At at reason) = IsDeclarationFaultAt T d closed f line behind at
    reason
IsDeclarationFault T d closed f line behind fault.Memory = Unit {0}

-- a line that starts no declaration means this
abbrev pub IsChangeOfLine : (loads : ℕ) → StateBefore → List ℕ → Change → Type 0
IsChangeOfLine loads b line (change.Line l) =
    (f : LineForm) × (meanings : List Meaning) × IsParsedAs f line meanings × (line_in b.declared f meanings ≡ Some l)
    × (b.closed ≡ false) × ((reason : ScriptReason) → HasLineReason loads b line reason → ⊥)
IsChangeOfLine loads b line change.Close = (meanings : List Meaning) × IsParsedAs CloseForm line meanings
    × (b.closed ≡ false)
IsChangeOfLine loads b line _ = ⊥

-- its first reason is this one; running out of memory claims nothing
abbrev pub IsLineFault : (loads : ℕ) → StateBefore → List ℕ → ScriptFault → Type 0
IsLineFault loads b line (fault.At at reason) = (at ≡ 1) × IsFirstReason (HasLineReason loads b line) reason
IsLineFault loads b line fault.Memory = Unit {0}

abbrev pub state_after : StateBefore → Change → StateBefore
state_after b change.Nothing = b
state_after b (change.Item i) = record { declared = with_declaration b.declared i; lines = b.lines; closed = b.closed }
state_after b (change.Line l) = record { declared = b.declared; lines = b.lines ++ l ∷ []; closed = b.closed }
state_after b change.Close = record { declared = b.declared; lines = b.lines; closed = true }

-- a change can be made
abbrev pub CanChange : (loads : ℕ) → StateBefore → Change → Type 0
CanChange loads b change.Nothing = Unit {0}
CanChange loads b (change.Item i) = IsNew b.declared i
CanChange loads b (change.Line l) = IsAllowedAfter loads b.declared.policies b.lines l
CanChange loads b change.Close = Unit {0}

pub record IsReadChange (loads : ℕ) (T : Table) (b : StateBefore) (text : List ℕ) (c : Change) (rest : List ℕ)
    : Type 0 where
  pub goes : IsStateAfterLine loads T b text (state_after b c) rest
  pub can : CanChange loads b c
  pub shorter : length rest < length text

abbrev pub IsFirstFaultOf : (loads : ℕ) → Table → StateBefore → List ℕ → ScriptFault → Type 0
IsFirstFaultOf loads T b text (fault.At at reason) = IsFirstFaultAt loads T b text at reason
IsFirstFaultOf loads T b text fault.Memory = Unit {0}

-- ---- the state after a change

pub record IsAdded (d : Declared) (l : ScriptLine) (b next : Body) : Type 0 where
  pub lines : next.lines ≡ b.lines ++ l ∷ []
  pub connections : next.connections ≡ connections_after d l b.connections
  pub submissions : next.submissions ≡ submissions_after l b.submissions
  pub closed : next.closed ≡ b.closed

pub record IsBodyClosed (b next : Body) : Type 0 where
  pub lines : next.lines ≡ b.lines
  pub connections : next.connections ≡ b.connections
  pub submissions : next.submissions ≡ b.submissions
  pub closed : next.closed ≡ true

abbrev pub CanApply : Declared → Body → Change → Type 0
CanApply d b (change.Item i) = IsNew d i
CanApply d b (change.Line l) = CanAdd b l
CanApply d b _ = Unit {0}

abbrev pub IsBodyAfter : Declared → Body → Change → Declared → Body → Type 0
IsBodyAfter d b change.Nothing d' b' = (d' ≡ d) × (b' ≡ b)
IsBodyAfter d b (change.Item i) d' b' = (d' ≡ with_declaration d i) × (b' ≡ b)
IsBodyAfter d b (change.Line l) d' b' = (d' ≡ d) × IsAdded d l b b'
IsBodyAfter d b change.Close d' b' = (d' ≡ d) × IsBodyClosed b b'

-- ---- the end

abbrev pub final_state : Declared → List ScriptLine → StateBefore
final_state d lines = record { declared = d; lines = lines; closed = true }
