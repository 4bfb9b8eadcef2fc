-- The input of `audit`: what its text means, or its first fault (this project's own).
use Rattle.std.specs.Prelude.{◌≡◌, ◌≢◌, ℕ, ◌+◌, false, List, [], ◌∷◌, ◌++◌, codes, Some, None}
use Rattle.mrpc_table.specs.Lines.{pieces_of, words_of, line_count}
use Rattle.mrpc_table.specs.declared.table.Table.{Table}
use Rattle.policy_declarations.specs.Declarations.{Declared, no_declarations, with_declaration}
use Rattle.policy_declarations.specs.DeclarationTexts.{declaration_form_in, HasDeclaration, HasFirstFaultAt}
use Rattle.policy_declarations.specs.declared.declaration.Declaration.{Declaration}
use Rattle.policy_declarations.specs.declared.declaration_form.DeclarationForm.{DeclarationForm}
use Rattle.script_grammar.specs.Preambles.{IsPreamble, IsPreambleFault, line_after}
use Rattle.script_grammar.specs.declared.fault.ScriptFault.{ScriptFault}
use Rattle.script_grammar.specs.declared.fault.ScriptFault.TheVariants as fault
use Rattle.script_grammar.specs.declared.fault.ScriptReason.{ScriptReason}
use Rattle.script_grammar.specs.declared.fault.ScriptReason.TheVariants.{Word, Close}

abbrev pub audit_header : List ℕ
audit_header = codes "mrpc-audit 1\n"

-- the line after the declarations
abbrev pub audit_word : List ℕ
audit_word = codes "audit"

-- the first line of the text, and the text after its line feed
abbrev pub IsLineSplit : (text line behind : List ℕ) → Type 0
IsLineSplit text line behind = pieces_of text ≡ line ∷ pieces_of behind

-- after these declarations, the text starts with this one, and this is the remainder
pub record IsNextDeclaration (T : Table) (d : Declared) (text : List ℕ) (i : Declaration) (more : List ℕ) : Type 0 where
  pub line : List ℕ
  pub behind : List ℕ
  pub form : DeclarationForm
  pub cut : IsLineSplit text line behind
  pub form_is : declaration_form_in (words_of line) ≡ Some form
  -- no line of its block is skipped
  pub declares : HasDeclaration T false d form line behind i more

-- the text starts with these declarations, one after another; all declarations are then these, and this is the
-- remainder
abbrev pub AreNextDeclarations : Table → Declared → (text : List ℕ) → List Declaration → Declared → (rest : List ℕ)
    → Type 0
AreNextDeclarations T d text [] e rest = (e ≡ d) × (rest ≡ text)
AreNextDeclarations T d text (i ∷ items) e rest = (more : List ℕ) × IsNextDeclaration T d text i more
    × AreNextDeclarations T (with_declaration d i) more items e rest

pub record HasDeclarations (T : Table) (d : Declared) (text : List ℕ) (e : Declared) (rest : List ℕ) : Type 0 where
  pub items : List Declaration
  pub lead : AreNextDeclarations T d text items e rest

-- the text is this input, whose line `audit` has this number, and whose audit is this remainder
pub record IsAuditInput (text : List ℕ) (loads : ℕ) (T : Table) (d : Declared) (rest : List ℕ) (line : ℕ) : Type 0 where
  pub behind : List ℕ
  pub before : List ℕ
  pub front : IsPreamble audit_header text loads T behind
  pub reads : HasDeclarations T no_declarations behind d (audit_word ++ 10 ∷ rest)
  pub text_is : text ≡ before ++ (audit_word ++ 10 ∷ rest)
  pub line_is : line ≡ line_after before

-- the remainder starts with no declaration and no line `audit`: this line has the fault, counted from 1 at the start of
-- the remainder
pub data IsFaultAfterDeclarations (T : Table) (d : Declared) (rest : List ℕ) (at : ℕ) (reason : ScriptReason)
    : Type 0 where
  in_item : (line behind : List ℕ) (f : DeclarationForm) → IsLineSplit rest line behind
      → declaration_form_in (words_of line) ≡ Some f → HasFirstFaultAt T false d f line behind at reason
      → IsFaultAfterDeclarations T d rest at reason
  -- a line of another form
  no_item : (line behind : List ℕ) → IsLineSplit rest line behind → line ≢ audit_word
      → declaration_form_in (words_of line) ≡ None → at ≡ 1 → reason ≡ Word
      → IsFaultAfterDeclarations T d rest at reason
  -- the last line lacks its line feed
  no_feed : rest ≢ [] → pieces_of rest ≡ rest ∷ [] → at ≡ 1 → reason ≡ Word
      → IsFaultAfterDeclarations T d rest at reason
  no_audit : rest ≡ [] → at ≡ 1 → reason ≡ Close → IsFaultAfterDeclarations T d rest at reason

-- this line of the text is the first one with a fault, and this is its first reason
pub data IsAuditInputFault (text : List ℕ) (line : ℕ) (reason : ScriptReason) : Type 0 where
  in_preamble : IsPreambleFault audit_header text line reason → IsAuditInputFault text line reason
  in_lines : (before behind rest : List ℕ) (loads at : ℕ) (T : Table) (d : Declared)
      → IsPreamble audit_header text loads T behind → HasDeclarations T no_declarations behind d rest
      → text ≡ before ++ rest
      → IsFaultAfterDeclarations T d rest at reason → line ≡ line_count before + at → IsAuditInputFault text line reason

-- the text has this fault; running out of memory claims nothing
abbrev pub IsFaultOfAuditInput : List ℕ → ScriptFault → Type 0
IsFaultOfAuditInput text (fault.At line reason) = IsAuditInputFault text line reason
IsFaultOfAuditInput text fault.Memory = Unit {0}
