-- What is read of an input is what its text means, or its first fault.
use Rattle.std.proofs.Common.{◌≡◌, false, ℕ, ◌+◌, ◌-◌, ◌≤◌, List, [], ◌∷◌, ◌++◌, length, take, ◌==◌, refl, ap, ◌∙◌, arith}
use Rattle.std.proofs.lemmas.List.{length-append, take_at}
use Rattle.std.proofs.lemmas.List.Sums.{count_by-le-length}
use Rattle.mrpc_table.specs.Lines.{line_count, words_of}
use Rattle.mrpc_table.specs.declared.table.Table.{Table}
use Rattle.policy_declarations.specs.Declarations.{Declared, no_declarations}
use Rattle.policy_declarations.specs.DeclarationTexts as items
use Rattle.policy_declarations.specs.DeclarationTexts.{declaration_form_in, HasFirstFaultAt}
use Rattle.policy_declarations.specs.declared.declaration_form.DeclarationForm.{DeclarationForm}
use Rattle.std.specs.Prelude.{Some}
use Rattle.script_grammar.specs.Preambles as fronts
use Rattle.script_grammar.specs.declared.fault.ScriptFault.{ScriptFault}
use Rattle.script_grammar.specs.declared.fault.ScriptFault.TheVariants as fault
use Rattle.script_grammar.specs.declared.fault.ScriptReason.{ScriptReason}
use Rattle.audit_check.specs.Inputs.{audit_header, IsLineSplit, HasDeclarations, IsFaultAfterDeclarations, in_item, no_item, no_feed, no_audit, IsFaultOfAuditInput, in_preamble}
use Rattle.audit_check.specs.InputStops.{IsInputStopOf, input_stop_of}
use Rattle.audit_check.proofs.InputLines.{cut_text}

-- the fault of a declaration ends the reading
pub stop_by : (T : Table) (text : List ℕ) (d : Declared) (rest line behind : List ℕ) (f : DeclarationForm) (e : ScriptFault)
    → HasDeclarations T no_declarations text d rest → IsLineSplit rest line behind → declaration_form_in (words_of line) ≡ Some f
    → items.IsFaultOfDeclaration T false d f line behind e → IsInputStopOf T text (input_stop_of (length rest) e)
stop_by T text d rest line behind f (fault.At at reason) reads cut form fails = record {
  declared = d;
  rest = rest;
  reads = reads;
  left_is = refl;
  stop = in_item line behind f cut form fails;
}
stop_by T text d rest line behind f fault.Memory reads cut form fails = tt

pub front_fault : (text : List ℕ) (e : ScriptFault) → fronts.IsFaultOfPreamble audit_header text e → IsFaultOfAuditInput text e
front_fault text (fault.At at reason) h = in_preamble h
front_fault text fault.Memory h = tt

-- the lines before the remainder
pub lines_before : (text front rest : List ℕ) (left n : ℕ) → text ≡ front ++ rest → left ≡ length rest
    → n ≡ line_count (take (length text - left) text) → n ≡ line_count front
lines_before text front rest left n is at count =
    let long : length front ≡ length text - left = omega (arith, ap length is, length-append front rest, at) in
    count ∙ ap (λ (t : List ℕ). line_count (take (length text - left) t)) is ∙ ap line_count (take_at front rest (length text - left) long)

-- a line with a fault is one of the remainder, or right after it
pub stop_place : (T : Table) (d : Declared) (rest : List ℕ) (at : ℕ) (r : ScriptReason)
    → ((f : DeclarationForm) (line text : List ℕ) (n : ℕ) (q : ScriptReason) → HasFirstFaultAt T false d f line text n q
    → n ≤ line_count text + 2)
    → IsFaultAfterDeclarations T d rest at r → at ≤ length rest + 2
stop_place T d rest at r place (in_item line behind f cut form fails) =
    let some = place f line behind at r fails in
    let few = count_by-le-length (λ c. c == 10) behind in
    let long = ap length (cut_text rest line behind cut) ∙ length-append (line ++ 10 ∷ []) behind in
    omega (arith, some, few, long)
stop_place T d rest at r place (no_item line behind cut other form e q) = omega (arith, e)
stop_place T d rest at r place (no_feed some last e q) = omega (arith, e)
stop_place T d rest at r place (no_audit empty e q) = omega (arith, e)
