-- The text of a script: which bytes are which script, and the first fault of any other text.
use Rattle.std.specs.Prelude.{◌≡◌, ◌≢◌, ℕ, ◌+◌, true, false, List, [], ◌∷◌, ◌++◌, codes, Contains, Some}
use Rattle.mrpc_table.specs.Lines.{words_of, line_count}
use Rattle.mrpc_table.specs.declared.table.Table.{Table}
use Rattle.policy_declarations.specs.Blocks.{is_skipped}
use Rattle.policy_declarations.specs.Declarations as declarations
use Rattle.policy_declarations.specs.Declarations.{with_declaration}
use Rattle.policy_declarations.specs.DeclarationTexts.{declaration_form_in, IsDeclarationHead, HasDeclaration, IsFaultAfterHead}
use Rattle.policy_declarations.specs.declared.declaration.Declaration.{Declaration}
use Rattle.policy_declarations.specs.declared.declaration_form.DeclarationForm.{DeclarationForm}
use Rattle.script_grammar.specs.Preambles.{IsPreamble, IsPreambleFault}
use Rattle.script_grammar.specs.Reasons.{IsFirstReason}
use Rattle.script_grammar.specs.WordKinds.{Meaning}
use Rattle.script_grammar.specs.declared.form.LineForm.{LineForm}
use Rattle.script_grammar.specs.declared.form.LineForm.TheVariants.{Close as CloseForm}
use Rattle.script_grammar.specs.declared.fault.ScriptFault.{ScriptFault}
use Rattle.script_grammar.specs.declared.fault.ScriptFault.TheVariants as fault
use Rattle.script_grammar.specs.declared.fault.ScriptReason.{ScriptReason}
use Rattle.script_grammar.specs.declared.fault.ScriptReason.TheVariants.{Word, Close}
use Rattle.replay_script.specs.LineReasons.{StateBefore, HasLineReason}
use Rattle.replay_script.specs.Words.{IsParsedAs, line_in}
use Rattle.replay_script.specs.declared.script.ScriptLine.{ScriptLine}
use Rattle.replay_script.specs.declared.script.Script.{Script}

abbrev pub script_header : List ℕ
script_header = codes "mrpc-replay 1\n"

-- the text is this line, a line feed, and then this remainder
pub record IsLineBefore (text line behind : List ℕ) : Type 0 where
  pub one_line : Contains line 10 → ⊥
  pub text_is : text ≡ line ++ 10 ∷ behind

-- ---- the meaning of lines, one after another

-- the state before the first line after the table
abbrev pub empty_state : StateBefore
empty_state = record { declared = declarations.no_declarations; lines = []; closed = false }

-- the first line of a text, with the lines of its block if it has one, has no fault; this is the state before the
-- remainder
pub data IsStateAfterLine (loads : ℕ) (T : Table) (b : StateBefore) (text : List ℕ) (next : StateBefore) (rest : List ℕ)
    : Type 0 where
  skips : (line : List ℕ) → IsLineBefore text line rest → is_skipped line ≡ true → next ≡ b
      → IsStateAfterLine loads T b text next rest
  declares : (line behind : List ℕ) (f : DeclarationForm) (i : Declaration) → IsLineBefore text line behind
      → b.closed ≡ false
      → declaration_form_in (words_of line) ≡ Some f → HasDeclaration T true b.declared f line behind i rest
      → next ≡ record { declared = with_declaration b.declared i; lines = b.lines; closed = false }
      → IsStateAfterLine loads T b text next rest
  acts : (line : List ℕ) (f : LineForm) (meanings : List Meaning) (l : ScriptLine) → IsLineBefore text line rest
      → IsParsedAs f line meanings → line_in b.declared f meanings ≡ Some l
      → ((reason : ScriptReason) → HasLineReason loads b line reason → ⊥)
      → next ≡ record { declared = b.declared; lines = b.lines ++ l ∷ []; closed = false }
      → IsStateAfterLine loads T b text next rest
  closes : (line : List ℕ) (meanings : List Meaning) → IsLineBefore text line rest → IsParsedAs CloseForm line meanings
      → b.closed ≡ false → next ≡ record { declared = b.declared; lines = b.lines; closed = true }
      → IsStateAfterLine loads T b text next rest

-- no line of the text before this remainder has a fault; this is the state before the remainder
pub data HasReached (loads : ℕ) (T : Table) (text : List ℕ) : StateBefore → List ℕ → Type 0 where
  starts : {b : StateBefore} {rest : List ℕ} → b ≡ empty_state → rest ≡ text → HasReached loads T text b rest
  advances : {b : StateBefore} {rest : List ℕ} (c : StateBefore) (left : List ℕ) → HasReached loads T text c left
      → IsStateAfterLine loads T c left b rest → HasReached loads T text b rest

-- the text, each byte of it, is the script's
pub record IsScriptText (text : List ℕ) (s : Script) : Type 0 where
  pub behind : List ℕ
  pub front : IsPreamble script_header text s.loads s.table behind
  pub reaches :
      HasReached s.loads s.table behind (record { declared = s.declared; lines = s.lines; closed = true }) []

-- ---- the fault of a text

-- after this state, this line of the text, counted from 1, is the first one with a fault, and this is its first reason
pub data IsFirstFaultAt (loads : ℕ) (T : Table) (b : StateBefore) (text : List ℕ) (at : ℕ) (reason : ScriptReason)
    : Type 0 where
  in_line : (line behind : List ℕ) → IsLineBefore text line behind → IsFirstReason (HasLineReason loads b line) reason
      → at ≡ 1
      → IsFirstFaultAt loads T b text at reason
  -- the line has no fault, but one of its block has
  in_block : (line behind : List ℕ) (f : DeclarationForm) (meanings : List Meaning) (below : ℕ)
      → IsLineBefore text line behind
      → b.closed ≡ false → declaration_form_in (words_of line) ≡ Some f → IsDeclarationHead b.declared f line meanings
      → IsFaultAfterHead T true f behind below reason → at ≡ 1 + below → IsFirstFaultAt loads T b text at reason
  -- the last line lacks its line feed
  no_feed : (Contains text 10 → ⊥) → text ≢ [] → at ≡ 1 → reason ≡ Word → IsFirstFaultAt loads T b text at reason
  no_close : text ≡ [] → b.closed ≡ false → at ≡ 1 → reason ≡ Close → IsFirstFaultAt loads T b text at reason

-- this line of the text is the first one with a fault, and this is its first reason
pub data IsScriptFault (text : List ℕ) (line : ℕ) (reason : ScriptReason) : Type 0 where
  in_preamble : IsPreambleFault script_header text line reason → IsScriptFault text line reason
  in_lines : (loads : ℕ) (T : Table) (behind front rest : List ℕ) (b : StateBefore) (at : ℕ)
      → IsPreamble script_header text loads T behind → HasReached loads T behind b rest
      → IsFirstFaultAt loads T b rest at reason
      → text ≡ front ++ rest → line ≡ line_count front + at → IsScriptFault text line reason

-- the text has this fault; running out of memory claims nothing
abbrev pub IsFaultOfScript : List ℕ → ScriptFault → Type 0
IsFaultOfScript text (fault.At line reason) = IsScriptFault text line reason
IsFaultOfScript text fault.Memory = Unit {0}
