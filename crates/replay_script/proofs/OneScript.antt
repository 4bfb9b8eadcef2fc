-- A text is exactly one script, or has exactly one first fault.
use Rattle.std.proofs.Common.{◌≡◌, ◌⊎◌, ℕ, zero, suc, ◌+◌, ◌<◌, Bool, true, List, [], ◌∷◌, ◌++◌, codes, length, refl}
use Rattle.std.proofs.Common.{sym, ap, subst, ◌∙◌, append_assoc, arith, inl, inr, Result, Ok, Err}
use Rattle.std.specs.Prelude.{MatchResult}
use Rattle.std.proofs.lemmas.Bool.{false≢true}
use Rattle.std.proofs.lemmas.List.{append_cancel_right}
use Rattle.mrpc_table.specs.Lines.{line_count}
use Rattle.mrpc_table.specs.Text.{table_text}
use Rattle.mrpc_table.specs.declared.table.Table.{Table}
use Rattle.policy_declarations.specs.Declarations.{Declared}
use Rattle.script_grammar.specs.Preambles.{IsPreamble, IsPreambleFault}
use Rattle.script_grammar.specs.declared.fault.ScriptFault.{ScriptFault}
use Rattle.script_grammar.specs.declared.fault.ScriptFault.TheVariants as fault
use Rattle.script_grammar.specs.declared.fault.ScriptReason.{ScriptReason}
use Rattle.replay_script.specs.LineReasons.{StateBefore}
use Rattle.replay_script.specs.Texts.{IsLineBefore, script_header, empty_state, IsStateAfterLine, skips, declares, acts, closes, HasReached}
use Rattle.replay_script.specs.Texts.{starts, advances, IsScriptText, IsFirstFaultAt, in_line, in_block, no_feed, no_close, IsScriptFault}
use Rattle.replay_script.specs.Texts.{in_preamble, in_lines, IsFaultOfScript}
use Rattle.replay_script.specs.declared.script.ScriptLine.{ScriptLine}
use Rattle.replay_script.specs.declared.script.Script.{Script}
use Rattle.replay_script.proofs.Going as going
use Rattle.replay_script.proofs.Going.{next_goes, next_stops, next_ends}
use Rattle.replay_script.specs.WordLaws.{WordLaws}
use Rattle.replay_script.proofs.TextLines.{some_line}

pub record FrontLaws : Type 0 where
  pub front : (first text : List ℕ) (m n : ℕ) (T U : Table) (x y : List ℕ) → IsPreamble first text m T x → IsPreamble first text n U y → (m ≡ n) × (T ≡ U) × (x ≡ y)
  pub fault : (first text : List ℕ) (m n : ℕ) (r q : ScriptReason) → IsPreambleFault first text m r → IsPreambleFault first text n q → (m ≡ n) × (r ≡ q)
  pub either : (first text : List ℕ) (loads : ℕ) (T : Table) (behind : List ℕ) (line : ℕ) (r : ScriptReason)
      → IsPreamble first text loads T behind → IsPreambleFault first text line r → ⊥
  pub some : (first text : List ℕ)
      → ((loads : ℕ) × (T : Table) × (behind : List ℕ) × IsPreamble first text loads T behind)
      ⊎ ((line : ℕ) × (r : ScriptReason) × IsPreambleFault first text line r)

-- the script ends here
abbrev pub end_of : Declared → List ScriptLine → StateBefore
end_of d lines = record { declared = d; lines = lines; closed = true }

module _ (laws : WordLaws) (loads : ℕ) (T : Table) where
  -- ---- where reading leads

  data Onward : StateBefore → List ℕ → StateBefore → List ℕ → Type 0 where
    stays : {b : StateBefore} {x : List ℕ} {c : StateBefore} {y : List ℕ} → b ≡ c → x ≡ y → Onward b x c y
    further : {b : StateBefore} {x : List ℕ} {c : StateBefore} {y : List ℕ} (m : StateBefore) (k : List ℕ) → IsStateAfterLine loads T b x m k → Onward m k c y → Onward b x c y

  onward : (b : StateBefore) (x : List ℕ) (c : StateBefore) (y : List ℕ) (d : StateBefore) (z : List ℕ) → Onward b x c y → IsStateAfterLine loads T c y d z → Onward b x d z
  onward b x c y d z (stays e f) goes = further d z (subst (λ (p : StateBefore). IsStateAfterLine loads T p x d z) (sym e) (subst (λ (t : List ℕ). IsStateAfterLine loads T c t d z) (sym f) goes)) (stays refl refl)
  onward b x c y d z (further m k first on) goes = further m k first (onward m k c y d z on goes)

  from_start : (text : List ℕ) (b : StateBefore) (x : List ℕ) → HasReached loads T text b x → Onward empty_state text b x
  from_start text b x (starts e f) = stays (sym e) (sym f)
  from_start text b x (advances c left r goes) = onward empty_state text c left b x (from_start text c left r) goes

  abbrev IsEnd : StateBefore → List ℕ → Type 0
  IsEnd b x = (m : StateBefore) (k : List ℕ) → IsStateAfterLine loads T b x m k → ⊥

  leads_on : (b : StateBefore) (x : List ℕ) (m : StateBefore) (k : List ℕ) (c : StateBefore) (y : List ℕ) → IsStateAfterLine loads T b x m k → Onward b x c y → IsEnd c y → Onward m k c y
  leads_on b x m k c y goes (stays e f) end = absurd (end m k (subst (λ (p : StateBefore). IsStateAfterLine loads T p y m k) e (subst (λ (t : List ℕ). IsStateAfterLine loads T b t m k) f goes)))
  leads_on b x m k c y goes (further n l first on) end =
      let same = going.one_goes laws loads T b x n m l k first goes in
      subst (λ (p : StateBefore). Onward p k c y) same.0 (subst (λ (t : List ℕ). Onward n t c y) same.1 on)

  all_lead : (text : List ℕ) (b : StateBefore) (x : List ℕ) (c : StateBefore) (y : List ℕ) → HasReached loads T text b x → Onward empty_state text c y → IsEnd c y → Onward b x c y
  all_lead text b x c y (starts e f) on end = subst (λ (p : StateBefore). Onward p x c y) (sym e) (subst (λ (t : List ℕ). Onward empty_state t c y) (sym f) on)
  all_lead text b x c y (advances m left r goes) on end = leads_on m left b x c y goes (all_lead text m left c y r on end) end

  at_end : (b : StateBefore) (x : List ℕ) (c : StateBefore) (y : List ℕ) → IsEnd b x → Onward b x c y → (b ≡ c) × (x ≡ y)
  at_end b x c y end (stays e f) = (e, f)
  at_end b x c y end (further m k goes on) = absurd (end m k goes)

  pub one_end : (text : List ℕ) (b : StateBefore) (x : List ℕ) (c : StateBefore) (y : List ℕ) → HasReached loads T text b x
      → HasReached loads T text c y → IsEnd b x → IsEnd c y → (b ≡ c) × (x ≡ y)
  one_end text b x c y r s here there = at_end b x c y here (all_lead text b x c y r (from_start text c y s) there)

  pub ended : (b : StateBefore) → IsEnd b []
  ended b m k goes = let h = going.goes_free laws loads T b [] m k goes in some_line [] h.line h.behind refl h.before

  pub stopped : (b : StateBefore) (x : List ℕ) (at : ℕ) (r : ScriptReason) → IsFirstFaultAt loads T b x at r → IsEnd b x
  stopped b x at r stop m k goes = going.goes_or_stops laws loads T b x m k at r goes stop

  no_stop : (b : StateBefore) (x : List ℕ) (at : ℕ) (r : ScriptReason) → x ≡ [] → b.closed ≡ true → IsFirstFaultAt loads T b x at r → ⊥
  no_stop b x at r none closed (in_line line behind before first e) = some_line x line behind none before
  no_stop b x at r none closed (in_block line behind f m below before still is heads breaks e) = some_line x line behind none before
  no_stop b x at r none closed (no_feed one some e f) = some none
  no_stop b x at r none closed (no_close also still e f) = false≢true (sym still ∙ closed)

  pub ends_or_stops : (text : List ℕ) (d : Declared) (lines : List ScriptLine) (b : StateBefore) (x : List ℕ) (at : ℕ)
      (r : ScriptReason) → HasReached loads T text (end_of d lines) [] → HasReached loads T text b x
      → IsFirstFaultAt loads T b x at r → ⊥
  ends_or_stops text d lines b x at r whole reaches stop =
      let same = one_end text (end_of d lines) [] b x whole reaches (ended (end_of d lines)) (stopped b x at r stop) in
      no_stop b x at r (sym same.1) (ap (λ (p : StateBefore). p.closed) (sym same.0)) stop

  -- ---- the remainder is a suffix of the text

  abbrev pub IsBehind : List ℕ → List ℕ → Type 0
  IsBehind text rest = (passed : List ℕ) × (text ≡ passed ++ rest)

  behind_line : (text line behind : List ℕ) → IsLineBefore text line behind → IsBehind text behind
  behind_line text line behind h = (line ++ 10 ∷ [], h.text_is ∙ sym (append_assoc line (10 ∷ []) behind))

  behind_more : (text more rest : List ℕ) → IsBehind text more → IsBehind more rest → IsBehind text rest
  behind_more text more rest h k = (h.0 ++ k.0, h.1 ∙ ap (λ (t : List ℕ). h.0 ++ t) k.1 ∙ sym (append_assoc h.0 k.0 rest))

  goes_behind : (b : StateBefore) (text : List ℕ) (next : StateBefore) (rest : List ℕ) → IsStateAfterLine loads T b text next rest → IsBehind text rest
  goes_behind b text next rest (skips line before skipped e) = behind_line text line rest before
  goes_behind b text next rest (declares line behind f i before still is d e) =
      behind_more text behind rest (behind_line text line behind before) (laws.declaration_remainder T true b.declared f line behind i rest d)
  goes_behind b text next rest (acts line f m l before said is free e) = behind_line text line rest before
  goes_behind b text next rest (closes line m before said still e) = behind_line text line rest before

  pub reaches_behind : (text : List ℕ) (b : StateBefore) (rest : List ℕ) → HasReached loads T text b rest → IsBehind text rest
  reaches_behind text b rest (starts e f) = ([], sym f)
  reaches_behind text b rest (advances c left r goes) = behind_more text left rest (reaches_behind text c left r) (goes_behind c left b rest goes)

  -- ---- a result exists

  pub data Run (text : List ℕ) : Type 0 where
    ran : (d : Declared) (lines : List ScriptLine) → HasReached loads T text (end_of d lines) [] → Run text
    halted : (b : StateBefore) (rest : List ℕ) (at : ℕ) (r : ScriptReason) → HasReached loads T text b rest → IsFirstFaultAt loads T b rest at r → Run text

  closed_is : (b : StateBefore) → b.closed ≡ true → b ≡ end_of b.declared b.lines
  closed_is b closed = ap (λ (c : Bool). record { declared = b.declared; lines = b.lines; closed = c }) closed

  scan : (n : ℕ) (text : List ℕ) (b : StateBefore) (rest : List ℕ) → length rest < n → HasReached loads T text b rest → Run text
  scan zero text b rest short r = absurd (omega (arith, short))
  scan (suc n) text b rest short r = elim (going.next laws loads T b rest) [
    | next_goes next left step ↦ (let less = going.goes_shorter laws loads T b rest next left step in scan n text next left (omega (arith, short, less)) (advances b rest r step))
    | next_stops at reason h ↦ halted b rest at reason r h
    | next_ends none closed ↦ ran b.declared b.lines (subst (λ (p : StateBefore). HasReached loads T text p []) (closed_is b closed) (subst (λ (t : List ℕ). HasReached loads T text b t) none r))
  ]

  pub run : (text : List ℕ) → Run text
  run text = scan (length text + 1) text empty_state text (omega arith) (starts refl refl)

-- ---- the laws

module _ (laws : WordLaws) (fronts : FrontLaws) where
  same_end : (d e : Declared) (ls ms : List ScriptLine) → end_of d ls ≡ end_of e ms → (d ≡ e) × (ls ≡ ms)
  same_end d e ls ms h = (ap (λ (b : StateBefore). b.declared) h, ap (λ (b : StateBefore). b.lines) h)

  reaches_same : (loads other : ℕ) (T U : Table) (x y : List ℕ) (b : StateBefore) (rest : List ℕ)
      → (loads ≡ other) × (T ≡ U) × (x ≡ y) → HasReached loads T x b rest → HasReached other U y b rest
  reaches_same loads other T U x y b rest same r =
      subst (λ (n : ℕ). HasReached n U y b rest) same.0 (subst (λ (t : Table). HasReached loads t y b rest) same.1 (subst (λ (t : List ℕ). HasReached loads T t b rest) same.2 r))

  pub one_script : (text : List ℕ) (s t : Script) → IsScriptText text s → IsScriptText text t → s ≡ t
  one_script text s t h k =
      let same = fronts.front script_header text s.loads t.loads s.table t.table h.behind k.behind h.front k.front in
      let moved = reaches_same s.loads t.loads s.table t.table h.behind k.behind (end_of s.declared s.lines) [] same h.reaches in
      let end = one_end laws t.loads t.table k.behind (end_of s.declared s.lines) [] (end_of t.declared t.lines) []
      moved k.reaches (ended laws t.loads t.table (end_of s.declared s.lines))
      (ended laws t.loads t.table (end_of t.declared t.lines)) in
      let parts = same_end s.declared t.declared s.lines t.lines end.0 in
      ap (λ (n : ℕ). record { loads = n; table = s.table; declared = s.declared; lines = s.lines }) same.0
      ∙ ap (λ (x : Table). record { loads = t.loads; table = x; declared = s.declared; lines = s.lines }) same.1
      ∙ ap (λ (d : Declared). record { loads = t.loads; table = t.table; declared = d; lines = s.lines }) parts.0
      ∙ ap (λ (ls : List ScriptLine). record { loads = t.loads; table = t.table; declared = t.declared; lines = ls }) parts.1

  pub not_both : (text : List ℕ) (s : Script) (line : ℕ) (r : ScriptReason) → IsScriptText text s → IsScriptFault text line r → ⊥
  not_both text s line r h (in_preamble f) = fronts.either script_header text s.loads s.table h.behind line r h.front f
  not_both text s line r h (in_lines loads T behind front rest b at f reaches stop is e) =
      let same = fronts.front script_header text loads s.loads T s.table behind h.behind f h.front in
      let moved = reaches_same loads s.loads T s.table behind h.behind b rest same reaches in
      let stop_there = subst (λ (n : ℕ). IsFirstFaultAt n s.table b rest at r) same.0 (subst (λ (t : Table). IsFirstFaultAt loads t b rest at r) same.1 stop) in
      ends_or_stops laws s.loads s.table h.behind s.declared s.lines b rest at r h.reaches moved stop_there

  pub one_fault : (text : List ℕ) (m n : ℕ) (r q : ScriptReason) → IsScriptFault text m r → IsScriptFault text n q → (m ≡ n) × (r ≡ q)
  one_fault text m n r q (in_preamble f) (in_preamble g) = fronts.fault script_header text m n r q f g
  one_fault text m n r q (in_preamble f) (in_lines loads T behind front rest b at g reaches stop is e) = absurd (fronts.either script_header text loads T behind m r g f)
  one_fault text m n r q (in_lines loads T behind front rest b at g reaches stop is e) (in_preamble f) = absurd (fronts.either script_header text loads T behind n q g f)
  one_fault text m n r q (in_lines loads T behind front rest b at f reaches stop is e) (in_lines other U more top left c place g there halt at' h) =
      let same = fronts.front script_header text loads other T U behind more f g in
      let moved = reaches_same loads other T U behind more b rest same reaches in
      let stop_there = subst (λ (n : ℕ). IsFirstFaultAt n U b rest at r) same.0 (subst (λ (t : Table). IsFirstFaultAt loads t b rest at r) same.1 stop) in
      let end = one_end laws other U more b rest c left moved there (stopped laws other U b rest at r stop_there) (stopped laws other U c left place q halt) in
      let final = subst (λ (p : StateBefore). IsFirstFaultAt other U p left at r) end.0 (subst (λ (t : List ℕ). IsFirstFaultAt other U b t at r) end.1 stop_there) in
      let one = going.one_stop laws other U c left at place r q final halt in
      let fronts_are : front ≡ top = append_cancel_right front top left (ap (λ (t : List ℕ). front ++ t) (sym end.1) ∙ sym is ∙ at') in
      (e ∙ ap (λ (t : List ℕ). line_count t + at) fronts_are ∙ ap (λ (k : ℕ). line_count top + k) one.0 ∙ sym h, one.1)

  abbrev pub HasAnswer : List ℕ → Type 0
  HasAnswer text = ((s : Script) × IsScriptText text s) ⊎ ((line : ℕ) × (r : ScriptReason) × IsScriptFault text line r)

  -- the preamble of a text, and its remainder
  front_behind : (text : List ℕ) (loads : ℕ) (T : Table) (behind : List ℕ) → IsPreamble script_header text loads T behind → (passed : List ℕ) × (text ≡ passed ++ behind)
  front_behind text loads T behind f =
      let end : List ℕ = codes "end\n" in (
        f.head ++ (table_text T ++ end),
        f.text_is ∙ ap (λ (t : List ℕ). f.head ++ t) (sym (append_assoc (table_text T) end behind))
            ∙ sym (append_assoc f.head (table_text T ++ end) behind),
      )

  run_answer : (text : List ℕ) (loads : ℕ) (T : Table) (behind : List ℕ) → IsPreamble script_header text loads T behind → Run laws loads T behind → HasAnswer text
  run_answer text loads T behind f (ran d lines reaches) = inl (record { loads = loads; table = T; declared = d; lines = lines }, record { behind = behind; front = f; reaches = reaches })
  run_answer text loads T behind f (halted b rest at r reaches h) =
      let front = front_behind text loads T behind f in
      let passed = reaches_behind laws loads T behind b rest reaches in
      inr (
        line_count (front.0 ++ passed.0) + at,
        r,
        in_lines loads T behind (front.0 ++ passed.0) rest b at f reaches h
            (front.1 ∙ ap (λ (t : List ℕ). front.0 ++ t) passed.1 ∙ sym (append_assoc front.0 passed.0 rest)) refl,
      )

  pub some_answer : (text : List ℕ) → HasAnswer text
  some_answer text = elim (fronts.some script_header text) [
    | inl f ↦ run_answer text f.0 f.1 f.2 f.3 (run laws f.0 f.1 f.2)
    | inr bad ↦ inr (bad.0, bad.1, in_preamble bad.2)
  ]

  pub only_one : (text : List ℕ) (r : Result Script ScriptFault) → MatchResult r (IsScriptText text) (IsFaultOfScript text)
      → (s : Script) → IsScriptText text s → MatchResult r (λ t. t ≡ s) (λ e. e ≡ fault.Memory)
  only_one text (Ok t) h s spells = one_script text t s h spells
  only_one text (Err (fault.At line reason)) h s spells = absurd (not_both text s line reason spells h)
  only_one text (Err fault.Memory) h s spells = refl
