-- What a line means is a change, and its fault is a stop.
use Rattle.std.proofs.Common.{◌≡◌, ◌≢◌, ℕ, ◌+◌, ◌<◌, ◌≤◌, Bool, true, false, List, [], ◌∷◌, ◌++◌, length, Some, None}
use Rattle.std.proofs.Common.{Result, Ok, Err, refl, sym, ap, subst, arith, inl, inr}
use Rattle.std.proofs.lemmas.Bool.{cases_Bool}
use Rattle.std.proofs.lemmas.List.{length-append}
use Rattle.mrpc_table.specs.Lines.{words_of}
use Rattle.mrpc_table.specs.declared.table.Table.{Table}
use Rattle.policy_declarations.specs.Blocks.{is_skipped}
use Rattle.policy_declarations.specs.Declarations.{Declared, with_declaration}
use Rattle.policy_declarations.specs.DeclarationTexts.{declaration_form, declaration_form_in, HasDeclaration, HasFirstFaultAt}
use Rattle.policy_declarations.specs.DeclarationTexts as items
use Rattle.policy_declarations.specs.declared.declaration.Declaration.{Declaration}
use Rattle.policy_declarations.specs.declared.declaration_form.DeclarationForm.{DeclarationForm}
use Rattle.script_grammar.specs.Forms.{form_in}
use Rattle.script_grammar.specs.Reasons.{IsFirstReason}
use Rattle.script_grammar.specs.WordKinds.{Meaning}
use Rattle.script_grammar.specs.declared.form.LineForm.{LineForm}
use Rattle.script_grammar.specs.declared.form.LineForm.TheVariants as form
use Rattle.script_grammar.specs.declared.fault.ScriptFault.{ScriptFault}
use Rattle.script_grammar.specs.declared.fault.ScriptFault.TheVariants as fault
use Rattle.script_grammar.specs.declared.fault.ScriptReason.{ScriptReason}
use Rattle.script_grammar.specs.declared.fault.ScriptReason.TheVariants as reason
use Rattle.replay_script.specs.Changes.{state_of_body, IsChangeOfWords, IsFlawOf, IsChangeOfLine, IsLineFault, IsDeclarationFaultAt, IsDeclarationFault, is_fault, is_block, is_item, IsReadChange, IsFirstFaultOf}
use Rattle.replay_script.specs.Deciding.{decide}
use Rattle.replay_script.specs.WordLaws.{WordLaws}
use Rattle.replay_script.specs.LineReasons.{StateBefore, HasLineReason}
use Rattle.replay_script.specs.Texts.{IsLineBefore, skips, declares, acts, closes, IsFirstFaultAt, in_line, in_block}
use Rattle.replay_script.specs.Words.{IsParsedAs}
use Rattle.replay_script.specs.declared.body.Body.{Body}
use Rattle.replay_script.specs.declared.body.LineError.TheVariants as flaw
use Rattle.replay_script.specs.declared.change.Change.{Change}
use Rattle.replay_script.specs.declared.change.Change.TheVariants as change
use Rattle.replay_script.specs.declared.script.ScriptLine.{ScriptLine}
use Rattle.replay_script.proofs.Bounds.{breaks_in}
use Rattle.replay_script.proofs.LineFaults as faults
use Rattle.replay_script.proofs.Soundness.{allows_said}
use Rattle.replay_script.proofs.TextLines.{shorter}

module _ (laws : WordLaws) (loads : ℕ) where
  -- ---- a line that starts no declaration

  verdict_at : (d : Declared) (b : Body) (f : LineForm) (m : List Meaning) (r : Result ScriptLine ScriptReason)
      → declaration_form f ≡ None → f ≢ form.Close → decide loads d b.lines f m ≡ r
      → faults.SaidVerdict laws loads (state_of_body d b) f m r
  verdict_at d b f m r item still e = subst (faults.SaidVerdict laws loads (state_of_body d b) f m) e (faults.said_verdict laws loads (state_of_body d b) f m item still)

  pub closed_change : (d : Declared) (b : Body) (line : List ℕ) (f : LineForm) (m : List Meaning) (ch : Change)
      → IsParsedAs f line m → declaration_form f ≡ None → b.closed ≡ true → IsChangeOfWords loads d b f m ch
      → IsFirstReason (HasLineReason loads (state_of_body d b) line) reason.After
  closed_change d b line f m (change.Line l) said item closed by = faults.closed_first laws loads (state_of_body d b) line f m said item (verdict_at d b f m (Ok l) item by.0 by.1).1 closed
  closed_change d b line f m change.Close said item closed by =
      faults.closed_first laws loads (state_of_body d b) line form.Close m (subst (λ (g : LineForm). IsParsedAs g line m) by said) refl (faults.close_core laws loads (state_of_body d b) m) closed
  closed_change d b line f m change.Nothing said item closed by = absurd by
  closed_change d b line f m (change.Item i) said item closed by = absurd by

  pub open_change : (d : Declared) (b : Body) (line : List ℕ) (f : LineForm) (m : List Meaning) (ch : Change)
      → IsParsedAs f line m → declaration_form f ≡ None → b.closed ≡ false → IsChangeOfWords loads d b f m ch
      → IsChangeOfLine loads (state_of_body d b) line ch
  open_change d b line f m (change.Line l) said item still by =
      let verdict = verdict_at d b f m (Ok l) item by.0 by.1 in
      (f, m, said, verdict.0, still, faults.open_free laws loads (state_of_body d b) line f m said item verdict.1 still)
  open_change d b line f m change.Close said item still by = (m, subst (λ (g : LineForm). IsParsedAs g line m) by said, still)
  open_change d b line f m change.Nothing said item still by = absurd by
  open_change d b line f m (change.Item i) said item still by = absurd by

  pub flawed : (d : Declared) (b : Body) (line : List ℕ) (f : LineForm) (m : List Meaning) (r : ScriptReason)
      → IsParsedAs f line m → declaration_form f ≡ None → IsFlawOf loads d b f m (flaw.Reason r)
      → IsFirstReason (HasLineReason loads (state_of_body d b) line) r
  flawed d b line f m r said item by = faults.core_first laws loads (state_of_body d b) line f m r said item (verdict_at d b f m (Err r) item by.0 by.1)

  module _ (T : Table) where
    -- ---- the first line of a text

    with_closed : (b : StateBefore) (d : Declared) (ls : List ScriptLine) (c : Bool) → b.closed ≡ c
        → ◌≡◌ {A = StateBefore} (record { declared = d; lines = ls; closed = b.closed })
        (record { declared = d; lines = ls; closed = c })
    with_closed b d ls c e = ap (λ (x : Bool). record { declared = d; lines = ls; closed = x }) e

    pub skipped_change : (b : StateBefore) (text line rest : List ℕ) → IsLineBefore text line rest → is_skipped line ≡ true → IsReadChange loads T b text change.Nothing rest
    skipped_change b text line rest before skipped = record { goes = skips line before skipped refl; can = tt; shorter = shorter text line rest before }

    pub said_change : (b : StateBefore) (text line rest : List ℕ) (ch : Change) → IsLineBefore text line rest → IsChangeOfLine loads b line ch → IsReadChange loads T b text ch rest
    said_change b text line rest (change.Line l) before (f, m, said, is, still, free) = record {
      goes = acts line f m l before said is free (with_closed b b.declared (b.lines ++ l ∷ []) false still);
      can = allows_said loads b line f m l said is free;
      shorter = shorter text line rest before;
    }
    said_change b text line rest change.Close before (m, said, still) = record { goes = closes line m before said still refl; can = tt; shorter = shorter text line rest before }
    said_change b text line rest change.Nothing before by = absurd by
    said_change b text line rest (change.Item i) before by = absurd by

    pub line_stop : (b : StateBefore) (text line rest : List ℕ) (e : ScriptFault) → IsLineBefore text line rest → IsLineFault loads b line e → IsFirstFaultOf loads T b text e
    line_stop b text line rest (fault.At at r) before h = in_line line rest before h.1 h.0
    line_stop b text line rest fault.Memory before h = tt

    pub formless_stop : (b : StateBefore) (text line rest : List ℕ) → IsLineBefore text line rest → is_skipped line ≡ false
        → form_in (words_of line) ≡ None → IsFirstFaultAt loads T b text 1 reason.Word
    formless_stop b text line rest before unskipped none = in_line line rest before (faults.formless_first laws loads b line unskipped none) refl

    pub item_change : (b : StateBefore) (text line behind rest : List ℕ) (g : DeclarationForm) (i : Declaration)
        → IsLineBefore text line behind → declaration_form_in (words_of line) ≡ Some g → b.closed ≡ false
        → HasDeclaration T true b.declared g line behind i rest
        → IsReadChange loads T b text (change.Item i) rest
    item_change b text line behind rest g i before is still d =
        let left = laws.declaration_remainder T true b.declared g line behind i rest d in
        record {
          goes = declares line behind g i before still is d (with_closed b (with_declaration b.declared i) b.lines false still);
          can = laws.declaration_is_new T true b.declared g line behind i rest d;
          shorter = (let less = shorter text line behind before in let long = ap (length {A = ℕ}) left.1 in let sum = length-append left.0 rest in omega (arith, less, long, sum));
        }

    closed_item : (b : StateBefore) (text line behind : List ℕ) (g : DeclarationForm) (at : ℕ) (r : ScriptReason)
        → IsLineBefore text line behind → declaration_form_in (words_of line) ≡ Some g → b.closed ≡ true
        → ((q : ScriptReason) → items.HasHeadReason b.declared g (words_of line) q → ⊥) → at ≡ 1 → r ≡ reason.After → IsFirstFaultAt loads T b text at r
    closed_item b text line behind g at r before is closed free e f =
        in_line line behind before
        (subst (IsFirstReason (HasLineReason loads b line)) (sym f) (faults.head_closed laws loads b line g is free closed)) e

    fault_stop : (b : StateBefore) (text line behind : List ℕ) (g : DeclarationForm) (at : ℕ) (r : ScriptReason)
        → IsLineBefore text line behind → declaration_form_in (words_of line) ≡ Some g → (b.closed ≡ true → at ≤ 1)
        → ((m : List Meaning) (below : ℕ) → at ≡ 1 + below → at ≤ 1 → items.IsFaultAfterHead T true g behind below r → ⊥)
        → HasFirstFaultAt T true b.declared g line behind at r → IsFirstFaultAt loads T b text at r
    fault_stop b text line behind g at r before is small deep (items.in_head first e) = in_line line behind before (faults.head_first laws loads b line g r is first) e
    fault_stop b text line behind g at r before is small deep (items.in_block m below heads breaks e) = elim (cases_Bool b.closed) [
      | inl closed ↦ absurd (deep m below e (small closed) breaks)
      | inr still ↦ in_block line behind g m below before still is heads breaks e
    ]

    no_depth : (behind : List ℕ) (g : DeclarationForm) (at : ℕ) (r : ScriptReason) (m : List Meaning) (below : ℕ)
        → at ≡ 1 + below → at ≤ 1 → items.IsFaultAfterHead T true g behind below r → ⊥
    no_depth behind g at r m below e small breaks = (let from = (breaks_in T true g behind below r breaks).from in omega (arith, e, small, from))

    block_heads : (d : Declared) (line behind : List ℕ) (g : DeclarationForm) (below : ℕ) (r : ScriptReason) → 1 < below
        → HasFirstFaultAt T true d g line behind below r → (q : ScriptReason) → items.HasHeadReason d g (words_of line) q → ⊥
    block_heads d line behind g below r more (items.in_head first e) = absurd (omega (arith, e, more))
    block_heads d line behind g below r more (items.in_block m k heads breaks e) = heads.free

    at_stop : (b : StateBefore) (text line behind : List ℕ) (g : DeclarationForm) (at : ℕ) (r : ScriptReason)
        → IsLineBefore text line behind → declaration_form_in (words_of line) ≡ Some g
        → IsDeclarationFaultAt T b.declared b.closed g line behind at r → IsFirstFaultAt loads T b text at r
    at_stop b text line behind g at r before is (is_fault small fails) = fault_stop b text line behind g at r before is small (no_depth behind g at r) fails
    at_stop b text line behind g at r before is (is_block below other closed more fails e f) =
        closed_item b text line behind g at r before is closed (block_heads b.declared line behind g below other more fails) e f
    at_stop b text line behind g at r before is (is_item i rest closed d e f) = closed_item b text line behind g at r before is closed d.heads.free e f

    pub item_stop : (b : StateBefore) (text line behind : List ℕ) (g : DeclarationForm) (e : ScriptFault)
        → IsLineBefore text line behind → declaration_form_in (words_of line) ≡ Some g
        → IsDeclarationFault T b.declared b.closed g line behind e → IsFirstFaultOf loads T b text e
    item_stop b text line behind g (fault.At at r) before is h = at_stop b text line behind g at r before is h
    item_stop b text line behind g fault.Memory before is h = tt
