-- A text is exactly one input, or has exactly one first fault.
use Rattle.std.proofs.Common.{◌≡◌, ◌⊎◌, ℕ, ◌+◌, Bool, List, [], ◌∷◌, ◌++◌, codes, Result, Ok, Err, refl, sym, ap, ◌∙◌, subst, inl, inr, append_assoc, arith}
use Rattle.std.specs.Prelude.{MatchResult}
use Rattle.std.proofs.lemmas.List.{append_cancel_left, append_cancel_right}
use Rattle.std.proofs.lemmas.List.Elements.{All-nil}
use Rattle.mrpc_table.specs.Lines.{line_count}
use Rattle.mrpc_table.specs.Names.{IsName}
use Rattle.mrpc_table.specs.Text.{table_text}
use Rattle.mrpc_table.specs.Valid.{IsValid}
use Rattle.mrpc_table.specs.declared.table.Table.{Table}
use Rattle.policy_declarations.specs.Declarations.{Declared, no_declarations, with_declaration, AreValidDeclarations}
use Rattle.policy_declarations.specs.DeclarationTexts.{HasDeclaration}
use Rattle.policy_declarations.specs.declared.declaration.Declaration.{Declaration}
use Rattle.policy_declarations.specs.declared.declaration_form.DeclarationForm.{DeclarationForm}
use Rattle.script_grammar.specs.Preambles.{IsPreamble, IsPreambleFault, line_after}
use Rattle.script_grammar.specs.declared.fault.ScriptFault.{ScriptFault}
use Rattle.script_grammar.specs.declared.fault.ScriptFault.TheVariants as fault
use Rattle.script_grammar.specs.declared.fault.ScriptReason.{ScriptReason}
use Rattle.audit_check.specs.Inputs.{audit_header, audit_word, HasDeclarations, IsAuditInput, IsFaultAfterDeclarations, IsAuditInputFault, in_preamble, in_lines, IsFaultOfAuditInput}
use Rattle.audit_check.specs.declared.input.AuditInput.{AuditInput}
use Rattle.audit_check.proofs.Runs.{Laws, last_audit, one_run, one_stop, stop_or_audit, stop_is_last, some_run, reads_end, reads_sound}

pub record FrontLaws : Type 0 where
  pub front : (first text : List ℕ) (m n : ℕ) (T U : Table) (x y : List ℕ) → IsPreamble first text m T x → IsPreamble first text n U y → (m ≡ n) × (T ≡ U) × (x ≡ y)
  pub fault : (first text : List ℕ) (m n : ℕ) (r q : ScriptReason) → IsPreambleFault first text m r → IsPreambleFault first text n q → (m ≡ n) × (r ≡ q)
  pub not_both : (first text : List ℕ) (loads : ℕ) (T : Table) (x : List ℕ) (line : ℕ) (r : ScriptReason) → IsPreamble first text loads T x → IsPreambleFault first text line r → ⊥
  pub some : (first text : List ℕ) → ((loads : ℕ) × (T : Table) × (x : List ℕ) × IsPreamble first text loads T x)
      ⊎ ((line : ℕ) × (r : ScriptReason) × IsPreambleFault first text line r)

-- ---- no declarations are valid

pub nothing_sound : AreValidDeclarations no_declarations
nothing_sound = record {
  few = omega arith;
  tenants_distinct = tt;
  policies_distinct = tt;
  tenants_named = All-nil IsName;
  policies_named = All-nil IsName;
  windows = All-nil _;
  policies = All-nil _;
}

module _ (laws : Laws) where
  -- the text before the remainder
  pub before : (text : List ℕ) (loads : ℕ) (T : Table) (behind : List ℕ) (d : Declared) (rest : List ℕ)
      → IsPreamble audit_header text loads T behind → HasDeclarations T no_declarations behind d rest
      → (front : List ℕ) × (text ≡ front ++ rest)
  before text loads T behind d rest f reads =
      let end = reads_end laws T no_declarations behind d rest reads in
      let table : List ℕ = table_text T in
      let whole : text ≡ ((f.head ++ table) ++ codes "end\n") ++ behind =
      f.text_is ∙ sym (append_assoc f.head table (codes "end\n" ++ behind)) ∙ sym (append_assoc (f.head ++ table) (codes "end\n") behind) in (
        ((f.head ++ table) ++ codes "end\n") ++ end.0,
        whole ∙ ap (λ (t : List ℕ). ((f.head ++ table) ++ codes "end\n") ++ t) end.1
            ∙ sym (append_assoc ((f.head ++ table) ++ codes "end\n") end.0 rest),
      )

pub says : (text : List ℕ) (loads : ℕ) (T : Table) (behind : List ℕ) (d : Declared) (rest x front : List ℕ)
    → IsPreamble audit_header text loads T behind → HasDeclarations T no_declarations behind d rest → rest ≡ audit_word ++ 10 ∷ x
    → text ≡ front ++ rest → IsAuditInput text loads T d x (line_after front)
says text loads T behind d rest x front f reads is at = record {
  behind = behind;
  before = front;
  front = f;
  reads = subst (λ (t : List ℕ). HasDeclarations T no_declarations behind d t) is reads;
  text_is = at ∙ ap (λ (t : List ℕ). front ++ t) is;
  line_is = refl;
}

module _ (fronts : FrontLaws) (laws : Laws) where
  -- equal preambles have equal declarations after them
  moved_reads : (T U : Table) (x y : List ℕ) (e : Declared) (rest : List ℕ) → T ≡ U → x ≡ y → HasDeclarations U no_declarations y e rest → HasDeclarations T no_declarations x e rest
  moved_reads T U x y e rest s t r = subst (λ (z : List ℕ). HasDeclarations T no_declarations z e rest) (sym t) (subst (λ (V : Table). HasDeclarations V no_declarations y e rest) (sym s) r)

  same_audit : (x y : List ℕ) → audit_word ++ 10 ∷ x ≡ audit_word ++ 10 ∷ y → x ≡ y
  same_audit x y e = append_cancel_left (audit_word ++ 10 ∷ []) x y e

  pub one : (text : List ℕ) (m n : ℕ) (T U : Table) (d e : Declared) (x y : List ℕ) (k l : ℕ) → IsAuditInput text m T d x k
      → IsAuditInput text n U e y l → (m ≡ n) × (T ≡ U) × (d ≡ e) × (x ≡ y) × (k ≡ l)
  one text m n T U d e x y k l h g =
      let front = fronts.front audit_header text m n T U h.behind g.behind h.front g.front in
      let run = one_run laws T no_declarations h.behind d e (audit_word ++ 10 ∷ x) (audit_word ++ 10 ∷ y) h.reads
      (moved_reads T U h.behind g.behind e (audit_word ++ 10 ∷ y) front.1 front.2 g.reads) (last_audit T d x)
      (last_audit T e y) in
      let before : h.before ≡ g.before = append_cancel_right h.before g.before (audit_word ++ 10 ∷ y)
      (ap (λ (t : List ℕ). h.before ++ t) (sym run.1) ∙ sym h.text_is ∙ g.text_is) in
      (front.0, front.1, run.0, same_audit x y run.1, h.line_is ∙ ap line_after before ∙ sym g.line_is)

  same_place : (before other x y : List ℕ) (text : List ℕ) → text ≡ before ++ x → text ≡ other ++ y → x ≡ y → before ≡ other
  same_place before other x y text is at same = append_cancel_right before other y (ap (λ (t : List ℕ). before ++ t) (sym same) ∙ sym is ∙ at)

  pub one_fault : (text : List ℕ) (m n : ℕ) (r q : ScriptReason) → IsAuditInputFault text m r → IsAuditInputFault text n q → (m ≡ n) × (r ≡ q)
  one_fault text m n r q (in_preamble h) (in_preamble k) = fronts.fault audit_header text m n r q h k
  one_fault text m n r q (in_preamble h) (in_lines before behind rest loads at T d front reads is stop e) = absurd (fronts.not_both audit_header text loads T behind m r front h)
  one_fault text m n r q (in_lines before behind rest loads at T d front reads is stop e) (in_preamble k) = absurd (fronts.not_both audit_header text loads T behind n q front k)
  one_fault text m n r q (in_lines before behind rest loads at T d front reads is stop e) (in_lines other back left limit to U b head run text_is end g) =
      let same = fronts.front audit_header text loads limit T U behind back front head in
      let moved = moved_reads T U behind back b left same.1 same.2 run in
      let last : IsFaultAfterDeclarations T b left to q = subst (λ (V : Table). IsFaultAfterDeclarations V b left to q) (sym same.1) end in
      let both = one_run laws T no_declarations behind d b rest left reads moved (stop_is_last laws T d rest at r stop) (stop_is_last laws T b left to q last) in
      let stops = one_stop laws T d rest at to r q stop (subst (λ (z : List ℕ). IsFaultAfterDeclarations T d z to q) (sym both.1) (subst (λ (c : Declared). IsFaultAfterDeclarations T c left to q) (sym both.0) last)) in
      (e ∙ ap (λ (z : List ℕ). line_count z + at) (same_place before other rest left text is text_is both.1) ∙ ap (λ (z : ℕ). line_count other + z) stops.0 ∙ sym g, stops.1)

  pub not_both : (text : List ℕ) (loads : ℕ) (T : Table) (d : Declared) (x : List ℕ) (k line : ℕ) (r : ScriptReason) → IsAuditInput text loads T d x k → IsAuditInputFault text line r → ⊥
  not_both text loads T d x k line r h (in_preamble f) = fronts.not_both audit_header text loads T h.behind line r h.front f
  not_both text loads T d x k line r h (in_lines before behind rest limit at U b head run is stop e) =
      let same = fronts.front audit_header text loads limit T U h.behind behind h.front head in
      let last : IsFaultAfterDeclarations T b rest at r = subst (λ (V : Table). IsFaultAfterDeclarations V b rest at r) (sym same.1) stop in
      let both =
      one_run laws T no_declarations h.behind d b (audit_word ++ 10 ∷ x) rest h.reads
      (moved_reads T U h.behind behind b rest same.1 same.2 run) (last_audit T d x)
      (stop_is_last laws T b rest at r last) in
      stop_or_audit laws T d x at r (subst (λ (z : List ℕ). IsFaultAfterDeclarations T d z at r) (sym both.1) (subst (λ (c : Declared). IsFaultAfterDeclarations T c rest at r) (sym both.0) last))

  abbrev IsTold : List ℕ → Type 0
  IsTold text =
      ((loads : ℕ) × (T : Table) × (d : Declared) × (x : List ℕ) × (k : ℕ) × IsAuditInput text loads T d x k) ⊎ ((line : ℕ) × (r : ScriptReason) × IsAuditInputFault text line r)

  told_behind : (text : List ℕ) (loads : ℕ) (T : Table) (behind : List ℕ) → IsPreamble audit_header text loads T behind → IsTold text
  told_behind text loads T behind f =
      let run = some_run laws T no_declarations behind in
      let front = before laws text loads T behind run.declared run.rest f run.reads in
      elim run.end [
        | inl audit ↦ inl (loads, T, run.declared, audit.0, line_after front.0, says text loads T behind run.declared run.rest audit.0 front.0 f run.reads audit.1 front.1)
        | inr stop ↦ inr (line_count front.0 + stop.0, stop.1, in_lines front.0 behind run.rest loads stop.0 T run.declared f run.reads front.1 stop.2 refl)
      ]

  pub either : (text : List ℕ) → IsTold text
  either text = elim (fronts.some audit_header text) [
    | inl front ↦ told_behind text front.0 front.1 front.2 front.3
    | inr bad ↦ inr (bad.0, bad.1, in_preamble bad.2)
  ]

pub sound : ((T : Table) (skips : Bool) (d : Declared) (f : DeclarationForm) (line text : List ℕ) (i : Declaration) (x : List ℕ)
    → AreValidDeclarations d → HasDeclaration T skips d f line text i x → AreValidDeclarations (with_declaration d i))
    → (text : List ℕ) (loads : ℕ) (T : Table) (d : Declared) (x : List ℕ) (k : ℕ) → IsAuditInput text loads T d x k → IsValid T × AreValidDeclarations d
sound stays text loads T d x k h = (h.front.valid, reads_sound T (stays T) no_declarations h.behind d (audit_word ++ 10 ∷ x) nothing_sound h.reads)

-- the result determines the input or the fault
pub only_one : (text : List ℕ) (r : Result AuditInput ScriptFault)
    → ((t : List ℕ) (m n : ℕ) (T U : Table) (d e : Declared) (x y : List ℕ) (k l : ℕ) → IsAuditInput t m T d x k
    → IsAuditInput t n U e y l → (m ≡ n) × (T ≡ U) × (d ≡ e) × (x ≡ y) × (k ≡ l))
    → ((t : List ℕ) (loads : ℕ) (T : Table) (d : Declared) (x : List ℕ) (k line : ℕ) (q : ScriptReason) → IsAuditInput t loads T d x k → IsAuditInputFault t line q → ⊥)
    → MatchResult r (λ a. IsAuditInput text a.loads a.table a.declared a.text.now a.line) (IsFaultOfAuditInput text)
    → (loads : ℕ) (T : Table) (d : Declared) (rest : List ℕ) (line : ℕ) → IsAuditInput text loads T d rest line
    → MatchResult r (λ a. (a.loads ≡ loads) × (a.table ≡ T) × (a.declared ≡ d) × (a.text.now ≡ rest) × (a.line ≡ line)) (λ e. e ≡ fault.Memory)
only_one text (Ok a) same apart h loads T d rest line spelled = same text a.loads loads a.table T a.declared d a.text.now rest a.line line h spelled
only_one text (Err (fault.At at reason)) same apart h loads T d rest line spelled = absurd (apart text loads T d rest line at reason spelled h)
only_one text (Err fault.Memory) same apart h loads T d rest line spelled = refl
