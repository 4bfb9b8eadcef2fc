-- The code's own: the laws of words and of declarations.
use Rattle.std.specs.Prelude.{◌≡◌, ◌⊎◌, ℕ, ◌≤◌, Bool, List, ◌++◌}
use Rattle.mrpc_table.specs.declared.table.Table.{Table}
use Rattle.policy_declarations.specs.Declarations.{Declared, IsNew, AreValidDeclarations, with_declaration}
use Rattle.policy_declarations.specs.DeclarationTexts.{HasDeclaration, HasFirstFaultAt}
use Rattle.policy_declarations.specs.declared.declaration.Declaration.{Declaration}
use Rattle.policy_declarations.specs.declared.declaration_form.DeclarationForm.{DeclarationForm}
use Rattle.script_grammar.specs.Lines.{HaveMeanings}
use Rattle.script_grammar.specs.Lines as words
use Rattle.script_grammar.specs.Reasons.{script_reason_rank, IsFirstReason}
use Rattle.script_grammar.specs.WordKinds.{Meaning}
use Rattle.script_grammar.specs.declared.word_kind.WordKind.{WordKind}
use Rattle.script_grammar.specs.declared.fault.ScriptReason.{ScriptReason}

-- what is known of words and of declarations
pub record WordLaws : Type 0 where
  pub meanings_are_unique : (sorts : List WordKind) (ws : List (List ℕ)) (ms ns : List Meaning)
      → HaveMeanings sorts ws ms
      → HaveMeanings sorts ws ns → ms ≡ ns
  pub meanings_or_first_reason : (sorts : List WordKind) (ws : List (List ℕ))
      → ((ms : List Meaning) × HaveMeanings sorts ws ms)
      ⊎ ((r : ScriptReason) × IsFirstReason (words.HasReason sorts ws) r)
  pub meanings_or_reason : (sorts : List WordKind) (ws : List (List ℕ)) (ms : List Meaning) (r : ScriptReason)
      → HaveMeanings sorts ws ms → words.HasReason sorts ws r → ⊥
  pub order : (r q : ScriptReason) → script_reason_rank r ≤ script_reason_rank q
      → script_reason_rank q ≤ script_reason_rank r → r ≡ q
  pub one_item : (T : Table) (skips : Bool) (d : Declared) (f : DeclarationForm)
      (line text : List ℕ) (i j : Declaration) (x y : List ℕ)
      → HasDeclaration T skips d f line text i x → HasDeclaration T skips d f line text j y → (i ≡ j) × (x ≡ y)
  pub declaration_fault_is_unique : (T : Table) (skips : Bool) (d : Declared) (f : DeclarationForm)
      (line text : List ℕ) (m n : ℕ) (r q : ScriptReason)
      → HasFirstFaultAt T skips d f line text m r → HasFirstFaultAt T skips d f line text n q → (m ≡ n) × (r ≡ q)
  pub declaration_or_fault : (T : Table) (skips : Bool) (d : Declared) (f : DeclarationForm)
      (line text : List ℕ) (i : Declaration) (x : List ℕ) (n : ℕ) (r : ScriptReason)
      → HasDeclaration T skips d f line text i x → HasFirstFaultAt T skips d f line text n r → ⊥
  pub declaration_exists : (T : Table) (skips : Bool) (d : Declared) (f : DeclarationForm) (line text : List ℕ)
      → ((i : Declaration) × (x : List ℕ) × HasDeclaration T skips d f line text i x)
      ⊎ ((n : ℕ) × (r : ScriptReason) × HasFirstFaultAt T skips d f line text n r)
  pub declaration_remainder : (T : Table) (skips : Bool) (d : Declared) (f : DeclarationForm)
      (line text : List ℕ) (i : Declaration) (x : List ℕ)
      → HasDeclaration T skips d f line text i x → (passed : List ℕ) × (text ≡ passed ++ x)
  pub declaration_is_new : (T : Table) (skips : Bool) (d : Declared) (f : DeclarationForm) (line text : List ℕ)
      (i : Declaration) (x : List ℕ)
      → HasDeclaration T skips d f line text i x → IsNew d i
  pub declaration_is_valid : (T : Table) (skips : Bool) (d : Declared) (f : DeclarationForm)
      (line text : List ℕ) (i : Declaration) (x : List ℕ)
      → AreValidDeclarations d → HasDeclaration T skips d f line text i x → AreValidDeclarations (with_declaration d i)
