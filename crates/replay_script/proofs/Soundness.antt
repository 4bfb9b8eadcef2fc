-- Properties of each script that a text is.
use Rattle.std.proofs.Common.{◌≡◌, ℕ, Bool, true, List, [], ◌∷◌, Some, sym, subst, arith}
use Rattle.std.proofs.lemmas.List.Elements.{All-nil}
use Rattle.mrpc_table.specs.declared.table.Table.{Table}
use Rattle.policy_declarations.specs.Declarations.{Declared, AreValidDeclarations, with_declaration}
use Rattle.policy_declarations.specs.DeclarationTexts.{HasDeclaration}
use Rattle.policy_declarations.specs.declared.declaration.Declaration.{Declaration}
use Rattle.policy_declarations.specs.declared.declaration.Declaration.TheVariants as item
use Rattle.policy_declarations.specs.declared.declaration_form.DeclarationForm.{DeclarationForm}
use Rattle.script_grammar.specs.Preambles.{IsHead, default_loads, limited, IsLimit}
use Rattle.script_grammar.specs.WordKinds.{Meaning}
use Rattle.script_grammar.specs.declared.form.LineForm.{LineForm}
use Rattle.script_grammar.specs.declared.fault.ScriptReason.{ScriptReason}
use Rattle.replay_script.specs.Lines.{IsAllowedAfter, AreAllowed, IsScript}
use Rattle.replay_script.specs.LineReasons.{StateBefore, HasLineReason, after_lines}
use Rattle.replay_script.specs.Texts.{empty_state, script_header, IsStateAfterLine, skips, declares, acts, closes, HasReached, starts, advances, IsScriptText}
use Rattle.replay_script.specs.Words.{IsParsedAs, line_in}
use Rattle.replay_script.specs.declared.script.ScriptLine.{ScriptLine}
use Rattle.replay_script.specs.declared.script.Script.{Script}
use Rattle.replay_script.proofs.Growing.{allowed_grown, allowed_more}
use Rattle.replay_script.proofs.Ranges.{line_ranges}

-- a line that words mean, and that has no reason, is legal there
pub allows_said : (loads : ℕ) (b : StateBefore) (text : List ℕ) (f : LineForm) (m : List Meaning) (l : ScriptLine) → IsParsedAs f text m
    → line_in b.declared f m ≡ Some l → ((q : ScriptReason) → HasLineReason loads b text q → ⊥)
    → IsAllowedAfter loads b.declared.policies b.lines l
allows_said loads b text f m l said is free =
    let ranged = line_ranges b.declared text f m l said is in
    record { conn_from = ranged.conn_from; conn_to = ranged.conn_to; ranges = ranged.ranges; free = λ q against. free q (after_lines f m l said is against) }

module _ (stays : (T : Table) (skips : Bool) (d : Declared) (f : DeclarationForm) (line text : List ℕ) (i : Declaration)
    (x : List ℕ) → AreValidDeclarations d → HasDeclaration T skips d f line text i x → AreValidDeclarations (with_declaration d i)) (loads : ℕ)
    (T : Table) where
  pub record IsSoundBefore (b : StateBefore) : Type 0 where
    pub declared : AreValidDeclarations b.declared
    pub lines : AreAllowed loads b.declared.policies [] b.lines

  grown : (d : Declared) (i : Declaration) (lines : List ScriptLine) → AreAllowed loads d.policies [] lines → AreAllowed loads (with_declaration d i).policies [] lines
  grown d (item.Tenant t) lines allowed = allowed
  grown d (item.Policy p) lines allowed = allowed_grown loads d.policies (p ∷ []) [] lines tt allowed

  goes_sound : (b : StateBefore) (text : List ℕ) (next : StateBefore) (rest : List ℕ) → IsStateAfterLine loads T b text next rest → IsSoundBefore b → IsSoundBefore next
  goes_sound b text next rest (skips line before skipped e) h = subst IsSoundBefore (sym e) h
  goes_sound b text next rest (declares line behind f i before still is d e) h =
      subst IsSoundBefore (sym e) (record { declared = stays T true b.declared f line behind i rest h.declared d; lines = grown b.declared i b.lines h.lines })
  goes_sound b text next rest (acts line f m l before said is free e) h =
      subst IsSoundBefore (sym e) (record { declared = h.declared; lines = allowed_more loads b.declared.policies [] b.lines l h.lines (allows_said loads b line f m l said is free) })
  goes_sound b text next rest (closes line m before said still e) h = subst IsSoundBefore (sym e) (record { declared = h.declared; lines = h.lines })

  sound_start : IsSoundBefore empty_state
  sound_start = record {
    declared = record {
      few = omega arith;
      tenants_distinct = tt;
      policies_distinct = tt;
      tenants_named = All-nil _;
      policies_named = All-nil _;
      windows = All-nil _;
      policies = All-nil _;
    };
    lines = tt;
  }

  pub reaches_sound : (text : List ℕ) (b : StateBefore) (rest : List ℕ) → HasReached loads T text b rest → IsSoundBefore b
  reaches_sound text b rest (starts e f) = subst IsSoundBefore (sym e) sound_start
  reaches_sound text b rest (advances c left r goes) = goes_sound c left b rest goes (reaches_sound text c left r)

pub head_limit : (first head : List ℕ) (loads : ℕ) → IsHead first head loads → IsLimit loads
head_limit first head loads (default_loads is e) = (omega (arith, e), omega (arith, e))
head_limit first head loads (limited word is number limit) = limit

pub sound_script : ((T : Table) (skips : Bool) (d : Declared) (f : DeclarationForm) (line text : List ℕ) (i : Declaration)
    (x : List ℕ) → AreValidDeclarations d → HasDeclaration T skips d f line text i x → AreValidDeclarations (with_declaration d i))
    → (text : List ℕ) (s : Script) → IsScriptText text s → IsScript s
sound_script stays text s h =
    let limit = head_limit script_header h.front.head s.loads h.front.is_head in
    let sound = reaches_sound stays s.loads s.table h.behind (record { declared = s.declared; lines = s.lines; closed = true }) [] h.reaches in
    record { table = h.front.valid; loads_from = limit.0; loads_to = limit.1; declared = sound.declared; lines = sound.lines }
