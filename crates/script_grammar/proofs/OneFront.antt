-- A text has exactly one preamble, or its preamble has exactly one first fault.
use Rattle.std.proofs.Common.{◌≡◌, ◌⊎◌, ℕ, ◌+◌, List, ◌++◌, codes, Result, Ok, Err, refl, sym, ap, subst, ◌∙◌, inl, inr}
use Rattle.std.specs.Prelude.{IfOk, IfErr, MatchResult}
use Rattle.std.proofs.lemmas.List.{append_cancel_left}
use Rattle.mrpc_table.specs.Lines.{line_count}
use Rattle.mrpc_table.specs.Text.{table_text}
use Rattle.mrpc_table.specs.Valid.{IsValid, HasUniqueTexts}
use Rattle.mrpc_table.specs.declared.table.Table.{Table as TheTable}
use Rattle.table_text.specs.Faults.{IsFirstTableFault}
use Rattle.table_text.specs.TableText.{HasTableAfter, IsEndless, IsTableAfter}
use Rattle.table_text.specs.declared.fault.TableReason.{TableReason}
use Rattle.script_grammar.specs.Reasons.{of_table}
use Rattle.script_grammar.specs.declared.fault.ScriptFault.{ScriptFault}
use Rattle.script_grammar.specs.declared.fault.ScriptFault.TheVariants as fault
use Rattle.script_grammar.specs.declared.fault.ScriptReason.{ScriptReason}
use Rattle.script_grammar.specs.declared.fault.ScriptReason.TheVariants.{Word}
use Rattle.script_grammar.specs.declared.preamble.Preamble.{Preamble}
use Rattle.script_grammar.specs.Preambles as fronts
use Rattle.script_grammar.specs.Preambles.{line_after, no_first_line, no_second_line, no_limit, no_third_line, in_table, no_end}
use Rattle.script_grammar.specs.Limits.{IsTableFault}
use Rattle.script_grammar.proofs.OneHead as one

-- what is known of tables and their texts
pub record TableLaws : Type 0 where
  pub one_text : HasUniqueTexts
  pub one_fault : (text : List ℕ) (m n : ℕ) (r q : TableReason) → IsFirstTableFault text m r → IsFirstTableFault text n q → (m ≡ n) × (r ≡ q)
  pub no_fault : (t : TheTable) (line : ℕ) (reason : TableReason) → IsValid t → IsFirstTableFault (table_text t) line reason → ⊥
  pub some_answer : (text : List ℕ) → ((t : TheTable) × IsValid t × (text ≡ table_text t)) ⊎ ((line : ℕ) × (reason : TableReason) × IsFirstTableFault text line reason)
  pub one_behind : (head text table rest other more : List ℕ) → HasTableAfter head text table rest → HasTableAfter head text other more → (other ≡ table) × (more ≡ rest)
  pub some_behind : (head body : List ℕ) → ((table : List ℕ) × (rest : List ℕ) × HasTableAfter head (head ++ body) table rest) ⊎ IsEndless head (head ++ body) body
  pub canonical : (head rest : List ℕ) (t : TheTable) → IsValid t → HasTableAfter head (head ++ (table_text t ++ (codes "end\n" ++ rest))) (table_text t) rest
  pub endless : (head : List ℕ) (t : TheTable) → IsValid t → IsEndless head (head ++ table_text t) (table_text t)

module _ (first_line : List ℕ) where
  abbrev IsHead : List ℕ → ℕ → Type 0
  IsHead head loads = fronts.IsHead first_line head loads

  abbrev HasHead : List ℕ → List ℕ → ℕ → List ℕ → Type 0
  HasHead text head loads behind = one.HasHead first_line text head loads behind

  abbrev HeadFault : List ℕ → ℕ → ScriptReason → Type 0
  HeadFault text line reason = one.HeadFault first_line text line reason

  abbrev IsFront : List ℕ → ℕ → TheTable → List ℕ → Type 0
  IsFront text loads T behind = fronts.IsPreamble first_line text loads T behind

  abbrev IsFrontFault : List ℕ → ℕ → ScriptReason → Type 0
  IsFrontFault text line reason = fronts.IsPreambleFault first_line text line reason

  -- the fault of a table's text is one of the preamble
  pub table_fault_of : (text head table : List ℕ) (loads : ℕ) (f : ScriptFault) → IsHead head loads
      → IsTableAfter head text table → IsTableFault head table f → fronts.IsFaultOfPreamble first_line text f
  table_fault_of text head table loads (fault.At line reason) is_head is (at, why, first, line_is, e) =
      in_table head table loads at why is_head is first line_is e
  table_fault_of text head table loads fault.Memory is_head is h = tt

  -- ---- the result by its stages

  pub data Answer : Type 0 where
    found : (loads : ℕ) → TheTable → (behind : List ℕ) → Answer
    faulty : (line : ℕ) → ScriptReason → Answer

  pub data Told (text : List ℕ) (a : Answer) : Type 0 where
    by_head : (line : ℕ) (reason : ScriptReason) → HeadFault text line reason → a ≡ faulty line reason → Told text a
    by_table : (head : List ℕ) (loads : ℕ) (behind table : List ℕ) (at : ℕ) (why : TableReason)
        → HasHead text head loads behind → IsTableAfter head text table → IsFirstTableFault table at why
        → a ≡ faulty (line_count head + at) (of_table why) → Told text a
    by_end : (head : List ℕ) (loads : ℕ) (behind : List ℕ) (T : TheTable) → HasHead text head loads behind → IsValid T
        → text ≡ head ++ table_text T → a ≡ faulty (line_after text) Word → Told text a
    by_front : (head : List ℕ) (loads : ℕ) (behind rest : List ℕ) (T : TheTable) → HasHead text head loads behind → IsValid T → HasTableAfter head text (table_text T) rest
        → a ≡ found loads T rest → Told text a

  -- a table's text ends at a line `end`, or no `end` follows, never both
  ended_or_endless : (head text table rest other : List ℕ) → HasTableAfter head text table rest → IsEndless head text other → ⊥
  ended_or_endless head text table rest other h k = k.endless table rest h

  one_table : (laws : TableLaws) (head text table other : List ℕ) → IsTableAfter head text table → IsTableAfter head text other → table ≡ other
  one_table laws head text table other (inl h) (inl k) = sym (laws.one_behind head text table h.0 other k.0 h.1 k.1).0
  one_table laws head text table other (inl h) (inr k) = absurd (ended_or_endless head text table h.0 other h.1 k)
  one_table laws head text table other (inr h) (inl k) = absurd (ended_or_endless head text other k.0 table k.1 h)
  one_table laws head text table other (inr h) (inr k) = append_cancel_left head table other (sym h.text_is ∙ k.text_is)

  -- the canonical text of a table that is the whole remainder
  whole_table : (laws : TableLaws) (head text : List ℕ) (T : TheTable) → IsValid T → text ≡ head ++ table_text T → IsTableAfter head text (table_text T)
  whole_table laws head text T valid is = inr (subst (λ (t : List ℕ). IsEndless head t (table_text T)) (sym is) (laws.endless head T valid))

  -- a text has at most one head
  moved : (text head : List ℕ) (loads : ℕ) (behind other : List ℕ) (limit : ℕ) (more : List ℕ) (P : List ℕ → Type 0)
      → HasHead text head loads behind → HasHead text other limit more → P head → P other
  moved text head loads behind other limit more P h k p = subst P (one.one_head first_line text head loads behind other limit more h k).head_is p

  faults_of_table : (laws : TableLaws) (head text table other : List ℕ) (m n : ℕ) (r q : TableReason)
      → IsTableAfter head text table → IsTableAfter head text other → IsFirstTableFault table m r
      → IsFirstTableFault other n q → (m ≡ n) × (r ≡ q)
  faults_of_table laws head text table other m n r q h k first second =
      laws.one_fault other m n r q (subst (λ (t : List ℕ). IsFirstTableFault t m r) (one_table laws head text table other h k) first) second

  no_table_fault : (laws : TableLaws) (head text table : List ℕ) (T : TheTable) (at : ℕ) (why : TableReason)
      → IsValid T → IsTableAfter head text (table_text T) → IsTableAfter head text table → IsFirstTableFault table at why
      → ⊥
  no_table_fault laws head text table T at why valid h k first =
      laws.no_fault T at why valid (subst (λ (t : List ℕ). IsFirstTableFault t at why) (one_table laws head text table (table_text T) k h) first)

  end_or_lines : (laws : TableLaws) (head text rest : List ℕ) (T U : TheTable) → IsValid T → text ≡ head ++ table_text T → HasTableAfter head text (table_text U) rest → ⊥
  end_or_lines laws head text rest T U valid is h = ended_or_endless head text (table_text U) rest (table_text T) h
      (subst (λ (t : List ℕ). IsEndless head t (table_text T)) (sym is) (laws.endless head T valid))

  pub one_told : (laws : TableLaws) (text : List ℕ) (a b : Answer) → Told text a → Told text b → a ≡ b
  one_told laws text a b (by_head m r h e) (by_head n q k f) = let one =
      one.one_head_fault first_line text m n r q h k in e ∙ ap (λ (l : ℕ). faulty l r) one.0 ∙ ap (faulty n) one.1
      ∙ sym f
  one_told laws text a b (by_head m r h e) (by_table head loads behind table at why k is first f) = absurd (one.head_or_fault first_line text head loads behind m r k h)
  one_told laws text a b (by_head m r h e) (by_end head loads behind T k valid is f) = absurd (one.head_or_fault first_line text head loads behind m r k h)
  one_told laws text a b (by_head m r h e) (by_front head loads behind rest T k valid is told) = absurd (one.head_or_fault first_line text head loads behind m r k h)
  one_told laws text a b (by_table head loads behind table at why k is first e) (by_head m r h f) = absurd (one.head_or_fault first_line text head loads behind m r k h)
  one_told laws text a b (by_table head loads behind table at why k is first e) (by_table other limit more second place reason h there fault f) =
      let same = one.one_head first_line text head loads behind other limit more k h in
      let one = faults_of_table laws other text table second at place why reason (subst (λ (t : List ℕ). IsTableAfter t text table) same.head_is is) there first fault in
      e ∙ ap (λ (t : List ℕ). faulty (line_count t + at) (of_table why)) same.head_is
      ∙ ap (λ (n : ℕ). faulty (line_count other + n) (of_table why)) one.0
      ∙ ap (λ (x : TableReason). faulty (line_count other + place) (of_table x)) one.1 ∙ sym f
  one_told laws text a b (by_table head loads behind table at why k is first e) (by_end other limit more T h valid at_end f) =
      absurd (no_table_fault laws other text table T at why valid (whole_table laws other text T valid at_end)
      (moved text head loads behind other limit more (λ (t : List ℕ). IsTableAfter t text table) k h is) first)
  one_told laws text a b (by_table head loads behind table at why k is first e) (by_front other limit more rest T h valid there told) =
      absurd (no_table_fault laws other text table T at why valid (inl (rest, there))
      (moved text head loads behind other limit more (λ (t : List ℕ). IsTableAfter t text table) k h is) first)
  one_told laws text a b (by_end head loads behind T k valid is e) (by_head m r h f) = absurd (one.head_or_fault first_line text head loads behind m r k h)
  one_told laws text a b (by_end head loads behind T k valid is e) (by_table other limit more table at why h there first f) =
      absurd (no_table_fault laws head text table T at why valid (whole_table laws head text T valid is)
      (moved text other limit more head loads behind (λ (t : List ℕ). IsTableAfter t text table) h k there)
      first)
  one_told laws text a b (by_end head loads behind T k valid is e) (by_end other limit more U h sound there f) = e ∙ sym f
  one_told laws text a b (by_end head loads behind T k valid is e) (by_front other limit more rest U h sound there told) =
      absurd (end_or_lines laws head text rest T U valid is (moved text other limit more head loads behind (λ (t : List ℕ). HasTableAfter t text (table_text U) rest) h k there))
  one_told laws text a b (by_front head loads behind rest T k valid is told) (by_head m r h f) = absurd (one.head_or_fault first_line text head loads behind m r k h)
  one_told laws text a b (by_front head loads behind rest T k valid is told) (by_table other limit more table at why h there first f) =
      absurd (no_table_fault laws head text table T at why valid (inl (rest, is))
      (moved text other limit more head loads behind (λ (t : List ℕ). IsTableAfter t text table) h k there)
      first)
  one_told laws text a b (by_front head loads behind rest T k valid is told) (by_end other limit more U h sound there f) =
      absurd (end_or_lines laws other text rest U T sound there (moved text head loads behind other limit more (λ (t : List ℕ). HasTableAfter t text (table_text T) rest) k h is))
  one_told laws text a b (by_front head loads behind rest T k valid is told) (by_front other limit more left U h sound there said) =
      let same = one.one_head first_line text head loads behind other limit more k h in
      let parts = laws.one_behind other text (table_text T) rest (table_text U) left (subst (λ (t : List ℕ). HasTableAfter t text (table_text T) rest) same.head_is is) there in
      let table : U ≡ T = laws.one_text U T sound valid parts.0 in
      told ∙ ap (λ (n : ℕ). found n T rest) same.loads_are ∙ ap (λ (X : TheTable). found limit X rest) (sym table) ∙ ap (found limit U) (sym parts.1) ∙ sym said

  -- ---- each preamble and each fault is the result

  canonical_in : (laws : TableLaws) (text head rest : List ℕ) (T : TheTable) → IsValid T
      → text ≡ head ++ (table_text T ++ (codes "end\n" ++ rest)) → HasTableAfter head text (table_text T) rest
  canonical_in laws text head rest T valid is = subst (λ (t : List ℕ). HasTableAfter head t (table_text T) rest) (sym is) (laws.canonical head rest T valid)

  front_told : (laws : TableLaws) (text : List ℕ) (loads : ℕ) (T : TheTable) (behind : List ℕ) → IsFront text loads T behind → Told text (found loads T behind)
  front_told laws text loads T behind h =
      by_front h.head loads (table_text T ++ (codes "end\n" ++ behind)) behind T (record {
        is_head = h.is_head;
        text_is = h.text_is;
      }) h.valid (canonical_in laws text h.head behind T h.valid h.text_is) refl

  table_told : (text head table : List ℕ) (loads at line : ℕ) (why : TableReason) (reason : ScriptReason)
      → IsHead head loads → IsTableAfter head text table → IsFirstTableFault table at why → line ≡ line_count head + at
      → reason ≡ of_table why
      → Told text (faulty line reason)
  table_told text head table loads at line why reason is_head (inl h) first e f =
      by_table head loads (table ++ (codes "end\n" ++ h.0)) table at why (record {
        is_head = is_head;
        text_is = h.1.text_is;
      }) (inl h) first (ap (faulty line) f ∙ ap (λ (n : ℕ). faulty n (of_table why)) e)
  table_told text head table loads at line why reason is_head (inr k) first e f =
      by_table head loads table table at why (record { is_head = is_head; text_is = k.text_is }) (inr k) first (ap (faulty line) f ∙ ap (λ (n : ℕ). faulty n (of_table why)) e)

  pub fault_told : (laws : TableLaws) (text : List ℕ) (line : ℕ) (reason : ScriptReason) → IsFrontFault text line reason → Told text (faulty line reason)
  fault_told laws text line reason (no_first_line none e f) = by_head line reason (one.no_first none e f) refl
  fault_told laws text line reason (no_second_line rest is other none e f) = by_head line reason (one.no_second rest is other none e f) refl
  fault_told laws text line reason (no_limit word more n is number out e f) = by_head line reason (one.no_range word more n is number out e f) refl
  fault_told laws text line reason (no_third_line word rest n is number range other e f) = by_head line reason (one.no_third word rest n is number range other e f) refl
  fault_told laws text line reason (in_table head table loads at why is_head is first e f) = table_told text head table loads at line why reason is_head is first e f
  fault_told laws text line reason (no_end head loads T is_head valid is e f) =
      by_end head loads (table_text T) T (record { is_head = is_head; text_is = is }) valid is (ap (faulty line) f ∙ ap (λ (n : ℕ). faulty n Word) e)

  -- ---- a result exists

  abbrev pub HasAnswer : List ℕ → Type 0
  HasAnswer text = ((loads : ℕ) × (T : TheTable) × (behind : List ℕ) × IsFront text loads T behind) ⊎ ((line : ℕ) × (reason : ScriptReason) × IsFrontFault text line reason)

  head_is_fault : (text : List ℕ) (line : ℕ) (reason : ScriptReason) → HeadFault text line reason → IsFrontFault text line reason
  head_is_fault text line reason (one.no_first none e f) = no_first_line none e f
  head_is_fault text line reason (one.no_second rest is other none e f) = no_second_line rest is other none e f
  head_is_fault text line reason (one.no_range word more n is number out e f) = no_limit word more n is number out e f
  head_is_fault text line reason (one.no_third word rest n is number range other e f) = no_third_line word rest n is number range other e f

  pub front_of : (text head rest : List ℕ) (loads : ℕ) (T : TheTable) → IsHead head loads → IsValid T → HasTableAfter head text (table_text T) rest → IsFront text loads T rest
  front_of text head rest loads T is_head valid h = record { head = head; is_head = is_head; valid = valid; text_is = h.text_is }

  some_table : (laws : TableLaws) (text head behind : List ℕ) (loads : ℕ) → IsHead head loads → text ≡ head ++ behind → HasAnswer text
  some_table laws text head behind loads is_head is = elim (laws.some_behind head behind) [
    | inl ended ↦
        let h : HasTableAfter head text ended.0 ended.1 = subst (λ (t : List ℕ). HasTableAfter head t ended.0 ended.1) (sym is) ended.2 in
        elim (laws.some_answer ended.0) [
          | inl table ↦ inl (loads, table.0, ended.1, front_of text head ended.1 loads table.0 is_head table.1 (subst (λ (t : List ℕ). HasTableAfter head text t ended.1) table.2 h))
          | inr bad ↦ inr (line_count head + bad.0, of_table bad.1, in_table head ended.0 loads bad.0 bad.1 is_head (inl (ended.1, h)) bad.2 refl refl)
        ]
    | inr endless ↦
        let h : IsEndless head text behind = subst (λ (t : List ℕ). IsEndless head t behind) (sym is) endless in
        elim (laws.some_answer behind) [
          | inl table ↦ inr (line_after text, Word, no_end head loads table.0 is_head table.1 (is ∙ ap (λ (t : List ℕ). head ++ t) table.2) refl refl)
          | inr bad ↦ inr (line_count head + bad.0, of_table bad.1, in_table head behind loads bad.0 bad.1 is_head (inr h) bad.2 refl refl)
        ]
  ]

  pub some_answer : (laws : TableLaws) (text : List ℕ) → HasAnswer text
  some_answer laws text = elim (one.some_head first_line text) [
    | inl head ↦ some_table laws text head.0 head.2 head.1 head.3.is_head head.3.text_is
    | inr bad ↦ inr (bad.0, bad.1, head_is_fault text bad.0 bad.1 bad.2)
  ]

  -- ---- the laws

  same_loads : (m n : ℕ) (T U : TheTable) (x y : List ℕ) → found m T x ≡ found n U y → m ≡ n
  same_loads m n T U x y e = cc

  same_table : (m n : ℕ) (T U : TheTable) (x y : List ℕ) → found m T x ≡ found n U y → T ≡ U
  same_table m n T U x y e = cc

  same_behind : (m n : ℕ) (T U : TheTable) (x y : List ℕ) → found m T x ≡ found n U y → x ≡ y
  same_behind m n T U x y e = cc

  same_line : (m n : ℕ) (r q : ScriptReason) → faulty m r ≡ faulty n q → m ≡ n
  same_line m n r q e = cc

  same_reason : (m n : ℕ) (r q : ScriptReason) → faulty m r ≡ faulty n q → r ≡ q
  same_reason m n r q e = cc

  not_both : (loads : ℕ) (T : TheTable) (x : List ℕ) (line : ℕ) (reason : ScriptReason) → found loads T x ≡ faulty line reason → ⊥
  not_both loads T x line reason e = cc

  pub one_front_each : (laws : TableLaws) (text : List ℕ) (m n : ℕ) (T U : TheTable) (x y : List ℕ)
      → IsFront text m T x → IsFront text n U y → (m ≡ n) × (T ≡ U) × (x ≡ y)
  one_front_each laws text m n T U x y h k =
      let e = one_told laws text (found m T x) (found n U y) (front_told laws text m T x h) (front_told laws text n U y k) in
      (same_loads m n T U x y e, same_table m n T U x y e, same_behind m n T U x y e)

  pub one_fault_each : (laws : TableLaws) (text : List ℕ) (m n : ℕ) (r q : ScriptReason) → IsFrontFault text m r → IsFrontFault text n q → (m ≡ n) × (r ≡ q)
  one_fault_each laws text m n r q h k =
      let e = one_told laws text (faulty m r) (faulty n q) (fault_told laws text m r h) (fault_told laws text n q k) in
      (same_line m n r q e, same_reason m n r q e)

  pub front_or_fault : (laws : TableLaws) (text : List ℕ) (loads : ℕ) (T : TheTable) (x : List ℕ) (line : ℕ)
      (reason : ScriptReason) → IsFront text loads T x → IsFrontFault text line reason → ⊥
  front_or_fault laws text loads T x line reason h k =
      not_both loads T x line reason (one_told laws text (found loads T x) (faulty line reason)
      (front_told laws text loads T x h) (fault_told laws text line reason k))

-- the result determines the preamble or the fault
pub only_one : (first text : List ℕ) (r : Result Preamble ScriptFault)
    → ((f t : List ℕ) (m n : ℕ) (T U : TheTable) (x y : List ℕ) → fronts.IsPreamble f t m T x → fronts.IsPreamble f t n U y → (m ≡ n) × (T ≡ U) × (x ≡ y))
    → ((f t : List ℕ) (n : ℕ) (T : TheTable) (x : List ℕ) (line : ℕ) (reason : ScriptReason) → fronts.IsPreamble f t n T x → fronts.IsPreambleFault f t line reason → ⊥)
    → IfOk r (λ f. fronts.IsPreamble first text f.loads f.table f.behind.now) → IfErr r (fronts.IsFaultOfPreamble first text)
    → (loads : ℕ) (T : TheTable) (behind : List ℕ) → fronts.IsPreamble first text loads T behind
    → MatchResult r (λ f. (f.loads ≡ loads) × (f.table ≡ T) × (f.behind.now ≡ behind)) (λ e. e ≡ fault.Memory)
only_one first text (Ok f) one either read bad loads T behind h = one first text f.loads loads f.table T f.behind.now behind read h
only_one first text (Err (fault.At line reason)) one either read bad loads T behind h = absurd (either first text loads T behind line reason h bad)
only_one first text (Err fault.Memory) one either read bad loads T behind h = refl
