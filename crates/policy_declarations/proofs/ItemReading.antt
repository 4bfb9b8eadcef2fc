-- What is read of a declaration is what its lines declare, or their first fault.
use Rattle.std.proofs.Common.{◌≡◌, ℕ, ◌+◌, ◌<◌, ◌≤◌, Bool, true, false, cond, List, length, Option, Some, None, Result, Ok, Err, refl, sym, ap, subst, arith}
use Rattle.std.specs.Borrow.{Bor}
use Rattle.std.specs.Prelude.{nat_le, is_some, MatchResult}
use Rattle.std.proofs.lemmas.Bool.{leb-true}
use Rattle.mrpc_table.specs.Lines.{whole_lines}
use Rattle.mrpc_table.specs.declared.policy_lines.RuleFault.{RuleFault}
use Rattle.mrpc_table.specs.declared.policy_lines.RuleFault.TheVariants as rule
use Rattle.mrpc_table.specs.declared.policy_lines.RuleReason.{RuleReason}
use Rattle.script_grammar.specs.Reasons.{of_rule}
use Rattle.script_grammar.specs.declared.fault.ScriptFault.{ScriptFault}
use Rattle.script_grammar.specs.declared.fault.ScriptFault.TheVariants as script
use Rattle.script_grammar.specs.declared.fault.ScriptReason.{ScriptReason}
use Rattle.script_grammar.specs.declared.fault.ScriptReason.TheVariants.{Word}
use Rattle.mrpc_table.specs.declared.table.Table.{Table}
use Rattle.policy_access.specs.Faults as access
use Rattle.policy_access.specs.Verdict.{AccessPolicy}
use Rattle.policy_redact.specs.Faults as redact
use Rattle.policy_redact.specs.declared.redact.Clear.{Clear}
use Rattle.engine_core.specs.declared.policy.Policy.TheVariants as policy
use Rattle.script_grammar.specs.WordKinds.{Meaning, name_at}
use Rattle.policy_declarations.specs.Declarations.{Declared}
use Rattle.policy_declarations.specs.DeclarationTexts as items
use Rattle.policy_declarations.specs.DeclarationTexts.{policy_with_name, IsAccessIn, IsRedactIn, IsDeclarationHead, HasDeclaration, HasFirstFaultAt, IsFaultOfDeclaration}
use Rattle.policy_declarations.specs.declared.declaration.Declaration.{Declaration}
use Rattle.policy_declarations.specs.declared.declaration_form.DeclarationForm.{DeclarationForm}
use Rattle.policy_declarations.specs.declared.declaration_form.DeclarationForm.TheVariants.{Access, Redact}
use Rattle.policy_declarations.specs.Blocks.{IsOpen, kept_lines, line_number, IsFaultOfBlock, in_block, in_open, no_end}
use Rattle.policy_declarations.specs.Reading.{inner_lines, IsRemainder, declaration_fault, IsScriptFaultAfterHead}

past : (a b : ℕ) → nat_le a b ≡ false → b < a
past a b e = grind arith

module _ (First : List (List ℕ) → ℕ → RuleReason → Type 0) where
  -- the fault of the block after a declaration's first line
  abbrev pub IsBroken : Bool → List ℕ → ScriptFault → Type 0
  IsBroken skips text (script.At at reason) = (behind : ℕ) × IsFaultOfBlock First skips text behind reason × (at ≡ 1 + behind)
  IsBroken skips text script.Memory = Unit {0}

  abbrev pub IsFirstIn : List (List ℕ) → RuleFault → Type 0
  IsFirstIn lines (rule.At line why) = First lines line why
  IsFirstIn lines rule.Memory = Unit {0}

  module _ (one : (lines : List (List ℕ)) (m n : ℕ) (r q : RuleReason) → First lines m r → First lines n q → (m ≡ n) × (r ≡ q)) where
    open_broken : (skips : Bool) (text : List ℕ) (number : ℕ) (why : RuleReason) (b : Bool)
        → nat_le number (length (kept_lines skips (inner_lines text))) ≡ b → IsOpen text
        → inner_lines text ≡ whole_lines text
        → First (kept_lines skips (inner_lines text)) number why
        → IsBroken skips text (cond b (script.At (1 + line_number skips (inner_lines text) number) (of_rule why)) (script.At (length (inner_lines text) + 2) Word))
    open_broken skips text number why true e unended same first =
        let within = leb-true number (length (kept_lines skips (inner_lines text))) e in (
          line_number skips (inner_lines text) number,
          in_open number why unended (subst (λ (ls : List (List ℕ)). First (kept_lines skips ls) number why) same first)
              (subst (λ (ls : List (List ℕ)). number ≤ length (kept_lines skips ls)) same within) (ap (λ (ls : List (List ℕ)). line_number skips ls number) same) refl,
          refl,
        )
    open_broken skips text number why false e unended same first =
        let far = past number (length (kept_lines skips (inner_lines text))) e in
        let moved : First (kept_lines skips (whole_lines text)) number why = subst (λ (ls : List (List ℕ)). First (kept_lines skips ls) number why) same first in
        let long : length (kept_lines skips (whole_lines text)) < number = subst (λ (ls : List (List ℕ)). length (kept_lines skips ls) < number) same far in (
          length (whole_lines text) + 1,
          no_end unended (λ n q other within. (let equal = (one (kept_lines skips (whole_lines text)) number n why q moved other).0 in omega (arith, equal, within, long))) refl refl,
          (let count = ap length same in omega (arith, count)),
        )

    pub broken : (skips : Bool) (text : List ℕ) (rest : Option (Bor (List ℕ))) (f : RuleFault) → IsRemainder text rest → IsFirstIn (kept_lines skips (inner_lines text)) f
        → IsBroken skips text (declaration_fault skips (inner_lines text) (is_some rest) f)
    broken skips text rest rule.Memory left first = tt
    broken skips text (Some rest) (rule.At number why) left first = (line_number skips (inner_lines text) number, in_block (inner_lines text) rest.now number why left first refl refl, refl)
    broken skips text None (rule.At number why) left first = open_broken skips text number why (nat_le number (length (kept_lines skips (inner_lines text)))) refl left.0 left.1 first

  pub endless : (skips : Bool) (text : List ℕ) → IsRemainder text None → ((number : ℕ) (why : RuleReason) → First (kept_lines skips (inner_lines text)) number why → ⊥)
      → IsBroken skips text (script.At (length (whole_lines text) + 2) Word)
  endless skips text left none = (
    length (whole_lines text) + 1,
    no_end left.0 (λ n q other within. none n q (subst (λ (ls : List (List ℕ)). First (kept_lines skips ls) n q) (sym left.1) other)) refl refl,
    omega arith,
  )

-- ---- the two kinds of blocks

pub access_first : (T : Table) (lines : List (List ℕ)) (f : RuleFault) → access.IsFaultOf T lines f → IsFirstIn (access.IsFirstFault T) lines f
access_first T lines (rule.At line why) h = h
access_first T lines rule.Memory h = tt

pub access_fault : (T : Table) (skips : Bool) (text : List ℕ) (f : ScriptFault) → IsBroken (access.IsFirstFault T) skips text f → IsScriptFaultAfterHead T skips Access text f
access_fault T skips text (script.At at reason) h = h
access_fault T skips text script.Memory h = tt

pub redact_first : (T : Table) (lines : List (List ℕ)) (f : RuleFault) → redact.IsFaultOf T lines f → IsFirstIn (redact.IsFirstFault T) lines f
redact_first T lines (rule.At line why) h = h
redact_first T lines rule.Memory h = tt

pub redact_fault : (T : Table) (skips : Bool) (text : List ℕ) (f : ScriptFault) → IsBroken (redact.IsFirstFault T) skips text f → IsScriptFaultAfterHead T skips Redact text f
redact_fault T skips text (script.At at reason) h = h
redact_fault T skips text script.Memory h = tt

-- ---- declarations

abbrev Read : Type 0
Read = Result (Declaration × Bor (List ℕ)) ScriptFault

module _ (T : Table) (skips : Bool) (d : Declared) (line text : List ℕ) (ms : List Meaning) where
  block_fault : (f : DeclarationForm) (e : ScriptFault) → IsDeclarationHead d f line ms → IsScriptFaultAfterHead T skips f text e → IsFaultOfDeclaration T skips d f line text e
  block_fault f (script.At at reason) heads h = items.in_block ms h.0 heads h.1 h.2
  block_fault f script.Memory heads h = tt

  pub access_read : (r : Read) → IsDeclarationHead d Access line ms
      → MatchResult r (λ r. (p : AccessPolicy) × IsAccessIn T skips text p r.1.now × (r.0 ≡ policy_with_name (name_at ms 1) (policy.Access p))) (IsScriptFaultAfterHead T skips Access text)
      → MatchResult r (λ r. HasDeclaration T skips d Access line text r.0 r.1.now) (IsFaultOfDeclaration T skips d Access line text)
  access_read (Ok r) heads h = record { meanings = ms; heads = heads; gives = h }
  access_read (Err e) heads h = block_fault Access e heads h

  pub redact_read : (r : Read) → IsDeclarationHead d Redact line ms
      → MatchResult r (λ r. (p : List Clear) × IsRedactIn T skips text p r.1.now × (r.0 ≡ policy_with_name (name_at ms 1) (policy.Redact p))) (IsScriptFaultAfterHead T skips Redact text)
      → MatchResult r (λ r. HasDeclaration T skips d Redact line text r.0 r.1.now) (IsFaultOfDeclaration T skips d Redact line text)
  redact_read (Ok r) heads h = record { meanings = ms; heads = heads; gives = h }
  redact_read (Err e) heads h = block_fault Redact e heads h

pub only_one : (T : Table) (skips : Bool) (d : Declared) (f : DeclarationForm) (line text : List ℕ) (r : Read)
    → ((i j : Declaration) (x y : List ℕ) → HasDeclaration T skips d f line text i x → HasDeclaration T skips d f line text j y → (i ≡ j) × (x ≡ y))
    → ((i : Declaration) (x : List ℕ) (n : ℕ) (q : ScriptReason) → HasDeclaration T skips d f line text i x → HasFirstFaultAt T skips d f line text n q → ⊥)
    → MatchResult r (λ r. HasDeclaration T skips d f line text r.0 r.1.now) (IsFaultOfDeclaration T skips d f line text) → (i : Declaration) (rest : List ℕ) → HasDeclaration T skips d f line text i rest
    → MatchResult r (λ r. (r.0 ≡ i) × (r.1.now ≡ rest)) (λ e. e ≡ script.Memory)
only_one T skips d f line text (Ok r) one either h i rest other = one r.0 i r.1.now rest h other
only_one T skips d f line text (Err (script.At at reason)) one either h i rest other = absurd (either i rest at reason other h)
only_one T skips d f line text (Err script.Memory) one either h i rest other = refl
