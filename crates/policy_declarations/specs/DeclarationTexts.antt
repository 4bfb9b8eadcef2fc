-- What the lines of a declaration mean, after earlier declarations, or their first fault (this project's own).
use Rattle.std.specs.Prelude.{◌≡◌, ℕ, ◌+◌, ◌≤◌, Bool, true, false, List, length, Contains, Option, Some, None, option_and_then, slice_get}
use Rattle.mrpc_table.specs.Lines.{words_of}
use Rattle.mrpc_table.specs.declared.table.Table.{Table}
use Rattle.policy_access.specs.Faults as access_faults
use Rattle.policy_access.specs.Texts as access_texts
use Rattle.policy_access.specs.Verdict.{AccessPolicy}
use Rattle.policy_redact.specs.Faults as redact_faults
use Rattle.policy_redact.specs.Texts as redact_texts
use Rattle.policy_redact.specs.declared.redact.Clear.{Clear}
use Rattle.engine_core.specs.declared.policy.Policy.{Policy as ThePolicy}
use Rattle.engine_core.specs.declared.policy.Policy.TheVariants as policy
use Rattle.script_grammar.specs.Forms.{word_kinds_of, form_in}
use Rattle.script_grammar.specs.Lines.{HaveMeanings, HasReason}
use Rattle.script_grammar.specs.Reasons.{IsFirstReason}
use Rattle.script_grammar.specs.WordKinds.{Meaning, name_at, number_at, keyword_at}
use Rattle.script_grammar.specs.declared.form.LineForm.{LineForm}
use Rattle.script_grammar.specs.declared.form.LineForm.TheVariants as form
use Rattle.policy_declarations.specs.declared.declaration_form.DeclarationForm.{DeclarationForm}
use Rattle.policy_declarations.specs.declared.declaration_form.DeclarationForm.TheVariants.{Tenant as OfTenant, Access, Rate, Quota, Count, Redact}
use Rattle.script_grammar.specs.declared.keyword.Keyword.{Keyword}
use Rattle.script_grammar.specs.declared.keyword.Keyword.TheVariants as keyword
use Rattle.script_grammar.specs.declared.fault.ScriptFault.{ScriptFault}
use Rattle.script_grammar.specs.declared.fault.ScriptFault.TheVariants as fault
use Rattle.script_grammar.specs.declared.fault.ScriptReason.{ScriptReason}
use Rattle.script_grammar.specs.declared.fault.ScriptReason.TheVariants.{Number, Known, Unknown}
use Rattle.policy_declarations.specs.Blocks.{IsBlock, kept_lines, IsFaultOfBlock}
use Rattle.policy_declarations.specs.Declarations.{Declared, tenant_names, policy_names, tenant_index}
use Rattle.policy_declarations.specs.declared.declaration.Tenant.{Tenant}
use Rattle.policy_declarations.specs.declared.declaration.Declaration.{Declaration}
use Rattle.policy_declarations.specs.declared.declaration.Declaration.TheVariants as item
use Rattle.policy_declarations.specs.declared.limits.TheConstants.{MAX_TENANTS}

-- the form of a declaration's first line
abbrev pub head_form : DeclarationForm → LineForm
head_form OfTenant = form.Tenant
head_form Access = form.Access
head_form Rate = form.Rate
head_form Quota = form.Quota
head_form Count = form.Count
head_form Redact = form.Redact

abbrev pub declaration_form : LineForm → Option DeclarationForm
declaration_form form.Tenant = Some OfTenant
declaration_form form.Access = Some Access
declaration_form form.Rate = Some Rate
declaration_form form.Quota = Some Quota
declaration_form form.Count = Some Count
declaration_form form.Redact = Some Redact
declaration_form _ = None

-- the form of the declaration that a line starts; none if it starts none
abbrev pub declaration_form_in : List (List ℕ) → Option DeclarationForm
declaration_form_in words = option_and_then declaration_form (form_in words)

abbrev pub is_tenant : DeclarationForm → Bool
is_tenant OfTenant = true
is_tenant _ = false

abbrev pub names_before : Declared → DeclarationForm → List (List ℕ)
names_before d OfTenant = tenant_names d
names_before d _ = policy_names d

-- ---- the first line

-- the first line of a declaration of this form has this reason
pub data HasHeadReason (d : Declared) (f : DeclarationForm) (words : List (List ℕ)) (reason : ScriptReason) : Type 0 where
  in_words : HasReason (word_kinds_of (head_form f)) words reason → HasHeadReason d f words reason
  too_many : is_tenant f ≡ true → MAX_TENANTS ≤ length d.tenants → reason ≡ Number → HasHeadReason d f words reason
  -- another tenant, or another policy, has the name
  is_name_taken : (other : List ℕ) → slice_get words 1 ≡ Some other → Contains (names_before d f) other → reason ≡ Known
      → HasHeadReason d f words reason
  -- the tenant of a quota isn't declared
  no_tenant : (other : List ℕ) → f ≡ Quota → slice_get words 3 ≡ Some other
      → (Contains (tenant_names d) other → ⊥) → reason ≡ Unknown → HasHeadReason d f words reason

-- the line has no fault, and its words have these values
pub record IsDeclarationHead (d : Declared) (f : DeclarationForm) (line : List ℕ) (meanings : List Meaning) : Type 0 where
  pub said : HaveMeanings (word_kinds_of (head_form f)) (words_of line) meanings
  pub free : (reason : ScriptReason) → HasHeadReason d f (words_of line) reason → ⊥

-- ---- declarations, by the values of their first lines; words are counted from 0

abbrev pub policy_with_name : List ℕ → ThePolicy → Declaration
policy_with_name label p = item.Policy (record { name = label; policy = p })

-- `tenant NAME PER`
abbrev pub tenant_of_words : List Meaning → Declaration
tenant_of_words meanings = item.Tenant (record { name = name_at meanings 1; per = number_at meanings 2 })

abbrev pub is_hold : Option Keyword → Bool
is_hold (Some keyword.Hold) = true
is_hold _ = false

-- `policy NAME rate N per P burst B hold`, or with `deny` at the end
abbrev pub rate_of_words : List Meaning → ThePolicy
rate_of_words meanings = policy.Rate (record {
  amount = number_at meanings 3;
  per = number_at meanings 5;
  burst = number_at meanings 7;
  hold = is_hold (keyword_at meanings 8);
})

-- `policy NAME quota TENANT cap C`: a quota has the index of its tenant, counted from 0, and the tenant's window
pub record IsQuotaOfWords (d : Declared) (meanings : List Meaning) (p : ThePolicy) : Type 0 where
  pub place : ℕ
  pub tenant : Tenant
  pub found : tenant_index d (name_at meanings 3) ≡ Some place
  pub there : slice_get d.tenants place ≡ Some tenant
  pub policy_is : p ≡ policy.Quota place tenant.per (number_at meanings 5)

-- the text starts with the block of this policy, and this is the remainder
pub record IsAccessIn (T : Table) (skips : Bool) (text : List ℕ) (p : AccessPolicy) (rest : List ℕ) : Type 0 where
  pub inner : List (List ℕ)
  pub block : IsBlock text inner rest
  pub text_of : access_texts.IsTextOf T (kept_lines skips inner) p

pub record IsRedactIn (T : Table) (skips : Bool) (text : List ℕ) (p : List Clear) (rest : List ℕ) : Type 0 where
  pub inner : List (List ℕ)
  pub block : IsBlock text inner rest
  pub text_of : redact_texts.IsTextOf T (kept_lines skips inner) p

-- a first line with these values and the text after it are this declaration, and this is the remainder
abbrev pub HasDeclarationByHead : Table → Bool → Declared → DeclarationForm → (meanings : List Meaning) → (text : List ℕ) → Declaration
    → (rest : List ℕ) → Type 0
HasDeclarationByHead T skips d OfTenant meanings text i rest = (i ≡ tenant_of_words meanings) × (rest ≡ text)
HasDeclarationByHead T skips d Rate meanings text i rest = (i ≡ policy_with_name (name_at meanings 1) (rate_of_words meanings)) × (rest ≡ text)
HasDeclarationByHead T skips d Quota meanings text i rest =
    (p : ThePolicy) × IsQuotaOfWords d meanings p × (i ≡ policy_with_name (name_at meanings 1) p) × (rest ≡ text)
HasDeclarationByHead T skips d Count meanings text i rest = (i ≡ policy_with_name (name_at meanings 1) policy.Count) × (rest ≡ text)
HasDeclarationByHead T skips d Access meanings text i rest =
    (p : AccessPolicy) × IsAccessIn T skips text p rest × (i ≡ policy_with_name (name_at meanings 1) (policy.Access p))
HasDeclarationByHead T skips d Redact meanings text i rest =
    (p : List Clear) × IsRedactIn T skips text p rest × (i ≡ policy_with_name (name_at meanings 1) (policy.Redact p))

-- a line of this form and the text after it start with this declaration, and this is the remainder
pub record HasDeclaration (T : Table) (skips : Bool) (d : Declared) (f : DeclarationForm) (line text : List ℕ) (i : Declaration)
    (rest : List ℕ) : Type 0 where
  pub meanings : List Meaning
  pub heads : IsDeclarationHead d f line meanings
  pub gives : HasDeclarationByHead T skips d f meanings text i rest

-- ---- faults

-- a line after the first one is the first with a fault; lines are counted from 1 after the first one
abbrev pub IsFaultAfterHead : Table → Bool → DeclarationForm → (text : List ℕ) → (line : ℕ) → ScriptReason → Type 0
IsFaultAfterHead T skips Access text line reason = IsFaultOfBlock (access_faults.IsFirstFault T) skips text line reason
IsFaultAfterHead T skips Redact text line reason = IsFaultOfBlock (redact_faults.IsFirstFault T) skips text line reason
IsFaultAfterHead T skips _ text line reason = ⊥

-- a line of this form and the lines after it have their first fault here, counted from 1, and this is its first reason
pub data HasFirstFaultAt (T : Table) (skips : Bool) (d : Declared) (f : DeclarationForm) (line text : List ℕ) (at : ℕ)
    (reason : ScriptReason) : Type 0 where
  in_head : IsFirstReason (HasHeadReason d f (words_of line)) reason → at ≡ 1 → HasFirstFaultAt T skips d f line text at reason
  in_block : (meanings : List Meaning) (behind : ℕ) → IsDeclarationHead d f line meanings → IsFaultAfterHead T skips f text behind reason
      → at ≡ 1 + behind → HasFirstFaultAt T skips d f line text at reason

-- the lines have this fault; running out of memory claims nothing
abbrev pub IsFaultOfDeclaration : (T : Table) (skips : Bool) (d : Declared) (f : DeclarationForm) (line text : List ℕ) → ScriptFault
    → Type 0
IsFaultOfDeclaration T skips d f line text (fault.At at reason) = HasFirstFaultAt T skips d f line text at reason
IsFaultOfDeclaration T skips d f line text fault.Memory = Unit {0}
