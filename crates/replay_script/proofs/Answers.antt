-- What a result means of a text.
use Rattle.std.proofs.Common.{◌≡◌, ℕ, ◌+◌, ◌-◌, ◌≤◌, List, [], ◌++◌, codes, length, take, Result, Ok, Err, refl, sym, ap, ◌∙◌, append_assoc, arith}
use Rattle.std.specs.Prelude.{MatchResult}
use Rattle.std.proofs.lemmas.List.{length-append, take_at}
use Rattle.mrpc_table.specs.Lines.{line_count}
use Rattle.mrpc_table.specs.Text.{table_text}
use Rattle.mrpc_table.specs.declared.table.Table.{Table}
use Rattle.policy_declarations.specs.Declarations.{Declared}
use Rattle.script_grammar.specs.Preambles.{IsPreamble}
use Rattle.script_grammar.specs.Preambles as fronts
use Rattle.script_grammar.specs.declared.fault.ScriptFault.{ScriptFault}
use Rattle.script_grammar.specs.declared.fault.ScriptFault.TheVariants as fault
use Rattle.script_grammar.specs.declared.fault.ScriptReason.{ScriptReason}
use Rattle.replay_script.specs.Changes.{final_state}
use Rattle.replay_script.specs.Stopping.{IsStopped}
use Rattle.replay_script.specs.WordLaws.{WordLaws}
use Rattle.replay_script.specs.Texts.{script_header, HasReached, IsScriptText, IsScriptFault, in_preamble, in_lines, IsFaultOfScript}
use Rattle.replay_script.specs.declared.script.ScriptLine.{ScriptLine}
use Rattle.replay_script.specs.declared.script.Script.{Script}
use Rattle.replay_script.proofs.Bounds.{stops_among}
use Rattle.replay_script.proofs.OneScript.{reaches_behind}

pub only_one : (text : List ℕ) (r : Result Script ScriptFault)
    → ((t : List ℕ) (s u : Script) → IsScriptText t s → IsScriptText t u → s ≡ u)
    → ((t : List ℕ) (s : Script) (line : ℕ) (reason : ScriptReason) → IsScriptText t s → IsScriptFault t line reason → ⊥)
    → MatchResult r (IsScriptText text) (IsFaultOfScript text) → (s : Script) → IsScriptText text s → MatchResult r (λ t. t ≡ s) (λ e. e ≡ fault.Memory)
only_one text (Ok t) one either h s spells = one text t s h spells
only_one text (Err (fault.At line reason)) one either h s spells = absurd (either text s line reason spells h)
only_one text (Err fault.Memory) one either h s spells = refl

pub front_fault : (text : List ℕ) (e : ScriptFault) → fronts.IsFaultOfPreamble script_header text e → IsFaultOfScript text e
front_fault text (fault.At line reason) h = in_preamble h
front_fault text fault.Memory h = tt

front_behind : (text : List ℕ) (loads : ℕ) (T : Table) (behind : List ℕ) → IsPreamble script_header text loads T behind → (passed : List ℕ) × (text ≡ passed ++ behind)
front_behind text loads T behind f =
    let end : List ℕ = codes "end\n" in (
      f.head ++ (table_text T ++ end),
      f.text_is ∙ ap (λ (t : List ℕ). f.head ++ t) (sym (append_assoc (table_text T) end behind))
          ∙ sym (append_assoc f.head (table_text T ++ end) behind),
    )

module _ (laws : WordLaws) (text : List ℕ) (loads : ℕ) (T : Table) (behind : List ℕ) (front : IsPreamble script_header text loads T behind) where
  -- the text up to the remainder
  pub record IsCutAt (left : ℕ) (rest : List ℕ) : Type 0 where
    pub passed : List ℕ
    pub text_is : text ≡ passed ++ rest
    pub taken : take (length text - left) text ≡ passed
    pub small : length passed + length rest ≡ length text

  cut_at : (left at : ℕ) (r : ScriptReason) → (s : IsStopped loads T behind left at r) → IsCutAt left s.rest
  cut_at left at r s =
      let first = front_behind text loads T behind front in
      let more = reaches_behind laws loads T behind s.before s.rest s.reaches in
      let passed : List ℕ = first.0 ++ more.0 in
      let is : text ≡ passed ++ s.rest = first.1 ∙ ap (λ (t : List ℕ). first.0 ++ t) more.1 ∙ sym (append_assoc first.0 more.0 s.rest) in
      let sum = ap (length {A = ℕ}) is in
      let parts = length-append passed s.rest in
      let left_is = s.left_is in
      let long : length passed ≡ length text - left = omega (arith, sum, parts, left_is) in
      record { passed = passed; text_is = is; taken = ap (take (length text - left)) is ∙ take_at passed s.rest (length text - left) long; small = omega (arith, sum, parts) }

  pub left_within : (left at : ℕ) (r : ScriptReason) → IsStopped loads T behind left at r → left ≤ length text
  left_within left at r s = (let cut = cut_at left at r s in let small = cut.small in let is = s.left_is in omega (arith, small, is))

  pub line_within : (left at : ℕ) (r : ScriptReason) → IsStopped loads T behind left at r → at ≤ left + 2
  line_within left at r s = (let most = stops_among loads T s.before s.rest at r s.stops in let is = s.left_is in omega (arith, most, is))

  pub fault_is : (left at : ℕ) (r : ScriptReason) → IsStopped loads T behind left at r → IsScriptFault text (line_count (take (length text - left) text) + at) r
  fault_is left at r s =
      let cut = cut_at left at r s in
      in_lines loads T behind cut.passed s.rest s.before at front s.reaches s.stops cut.text_is (ap (λ (t : List ℕ). line_count t + at) cut.taken)

  pub spelled : (d : Declared) (lines : List ScriptLine) → HasReached loads T behind (final_state d lines) [] → IsScriptText text (record { loads = loads; table = T; declared = d; lines = lines })
  spelled d lines reaches = record { behind = behind; front = front; reaches = reaches }
