-- What was read of a text so far.
use Rattle.std.proofs.Common.{◌≡◌, ℕ, suc, ◌+◌, ◌-◌, ◌<◌, ◌≤◌, ◌==◌, Bool, true, false, cond, List, [], ◌∷◌, ◌++◌}
use Rattle.std.proofs.Common.{length, take, drop, Option, None, Result, Ok, Err, refl, ap, sym, ◌∙◌, arith, zero-add}
use Rattle.std.proofs.Common.{length-drop, inl, inr}
use Rattle.std.specs.Prelude.{IfOk, OnOk}
use Rattle.std.specs.Option.{option_map_or}
use Rattle.std.proofs.lemmas.List.{take_all}
use Rattle.std.proofs.lemmas.Bool.{cases_lt, cases_eq, eq-eqb, ne_eqb}
use Rattle.mrpc_table.specs.Lines.{pieces_of, whole_lines, remainder_of}
use Rattle.mrpc_table.specs.declared.table.Table.{Table}
use Rattle.table_text.specs.Lines.{line_of}
use Rattle.table_text.specs.Faults.{bytes_of_lines}
use Rattle.table_text.specs.LineTests.{TypeNames, NamesBefore, IsFaultFound, types_of, names_in_lines, line_fault, end_fault, fault_at_line}
use Rattle.table_text.specs.Drafts.{names_before_line, with_parsed_line, table_draft_of, empty_draft, table_of_draft, table_in, IsFaultAtLine}
use Rattle.table_text.specs.Readers.{IsReaderState}
use Rattle.table_text.specs.Reach.{HasNoFaultBefore, IsSufficient}
use Rattle.table_text.specs.declared.reader.TableReader.{TableReader}
use Rattle.table_text.specs.declared.draft.TableDraft.{TableDraft}
use Rattle.table_text.specs.declared.fault.TableReason.{TableReason}
use Rattle.table_text.specs.declared.fault.TableFault.{TableFault}
use Rattle.table_text.specs.declared.fault.TableFault.TheVariants as fault
use Rattle.table_text.proofs.LineLemmas.{lines_first, rest_first, lines_end, rest_end, get_drop, take_drop, drop_drop, fold_push, get_end, bytes_push, before_draft, here_is}

-- the lines before a number were read, and none of them is at fault
pub record LinesSoFar (text rest : List ℕ) (number : ℕ) (r : TableReader) : Type 0 where
  pub types : TypeNames
  pub is_sufficient : IsSufficient types text
  pub kept : IsReaderState types r
  pub some : 0 < number
  pub lines : drop (number - 1) (whole_lines text) ≡ whole_lines rest
  pub within : number - 1 ≤ length (whole_lines text)
  pub tail : remainder_of rest ≡ remainder_of text
  pub bytes : bytes_of_lines (take (number - 1) (whole_lines text)) + length rest ≡ length text
  pub passed : number + length rest ≤ length text + 1
  pub draft : r.draft ≡ table_draft_of types (take (number - 1) (whole_lines text))
  pub clean : (i : ℕ) → i + 1 < number → fault_at_line text i ≡ None

pub lines_none : (text : List ℕ) (t : TypeNames) (r : TableReader) → IsSufficient t text → IsReaderState t r → r.draft ≡ empty_draft → LinesSoFar text text 1 r
lines_none text t r serves kept nothing = record {
  types = t;
  is_sufficient = serves;
  kept = kept;
  some = omega arith;
  lines = refl;
  within = omega arith;
  tail = refl;
  bytes = zero-add (length text);
  passed = omega arith;
  draft = nothing;
  clean = λ i lt. absurd (omega arith);
}

pub before_here : (text rest : List ℕ) (number : ℕ) (r : TableReader) → LinesSoFar text rest number r → names_in_lines (take (number - 1) (whole_lines text)) ≡ names_before_line r.draft
before_here text rest number r s = sym (ap names_before_line s.draft ∙ before_draft s.types (take (number - 1) (whole_lines text)))

pub line_here : (text rest line others : List ℕ) (number : ℕ) (r : TableReader) → pieces_of rest ≡ line ∷ pieces_of others
    → length line + 1 + length others ≡ length rest → (s : LinesSoFar text rest number r)
    → fault_at_line text (number - 1) ≡ line_fault s.types (names_before_line r.draft) (length text - length others) (line_of line)
line_here text rest line others number r e size s =
    let bytes : bytes_of_lines (take (number - 1) (whole_lines text)) + length line + 1 ≡ length text - length others = omega (arith, s.bytes, size) in
    let some = s.some in
    let here : drop (number - 1) (whole_lines text) ≡ line ∷ whole_lines others = s.lines ∙ lines_first rest line others e in
    let reached : HasNoFaultBefore text (number - 1) = λ j less. s.clean j (omega arith) in
    here_is (whole_lines text) (remainder_of text) (number - 1) line (whole_lines others) here
    ∙ ap (λ (n : ℕ). line_fault (types_of (whole_lines text)) (names_in_lines (take (number - 1) (whole_lines text))) n (line_of line)) bytes
    ∙ ap (λ (b : NamesBefore). line_fault (types_of (whole_lines text)) b (length text - length others) (line_of line)) (before_here text rest number r s)
    ∙ sym (s.is_sufficient.judges (number - 1) line (names_before_line r.draft) (length text - length others) reached (get_drop (whole_lines text) (number - 1) line (whole_lines others) here))

pub lines_step : (text rest line others : List ℕ) (number : ℕ) (r new : TableReader)
    → pieces_of rest ≡ line ∷ pieces_of others → length line + 1 + length others ≡ length rest
    → (s : LinesSoFar text rest number r)
    → line_fault s.types (names_before_line r.draft) (length text - length others) (line_of line) ≡ None → IsReaderState s.types new → new.draft ≡ with_parsed_line s.types r.draft (line_of line)
    → LinesSoFar text others (number + 1) new
lines_step text rest line others number r new e size s none kept draft =
    let ls = whole_lines text in
    let here : drop (number - 1) ls ≡ line ∷ whole_lines others = s.lines ∙ lines_first rest line others e in
    let some = s.some in
    let next : number + 1 - 1 ≡ suc (number - 1) = omega arith in
    let front : take (number + 1 - 1) ls ≡ take (number - 1) ls ++ line ∷ [] = ap (λ (n : ℕ). take n ls) next ∙ take_drop ls (number - 1) line (whole_lines others) here in
    let left : length ls - (number - 1) ≡ suc (length (whole_lines others)) = sym (length-drop (number - 1) ls) ∙ ap length here in
    record {
      types = s.types;
      is_sufficient = s.is_sufficient;
      kept = kept;
      some = omega arith;
      lines = ap (λ (n : ℕ). drop n ls) next ∙ drop_drop ls (number - 1) line (whole_lines others) here;
      within = omega arith;
      tail = sym (rest_first rest line others e) ∙ s.tail;
      bytes = omega (arith, ap bytes_of_lines front, bytes_push (take (number - 1) ls) line, s.bytes, size);
      passed = omega (arith, s.passed, size);
      draft = draft ∙ ap (λ (d : TableDraft). with_parsed_line s.types d (line_of line)) s.draft
          ∙ sym (ap (table_draft_of s.types) front ∙ fold_push (λ d l. with_parsed_line s.types d (line_of l)) empty_draft
          (take (number - 1) ls) line);
      clean = λ i lt. elim (cases_lt (i + 1) number) [
        | inl below ↦ s.clean i below
        | inr at ↦ let same : i ≡ number - 1 = omega arith in ap (fault_at_line text) same ∙ line_here text rest line others number r e size s ∙ none
      ];
    }

pub end_here : (text rest : List ℕ) (number : ℕ) (r : TableReader) → pieces_of rest ≡ rest ∷ []
    → LinesSoFar text rest number r → fault_at_line text (number - 1) ≡ end_fault (names_before_line r.draft) rest
end_here text rest number r e s =
    let ls = whole_lines text in
    let gone : length ls - (number - 1) ≡ 0 = sym (length-drop (number - 1) ls) ∙ ap length (s.lines ∙ lines_end rest e) in
    let within = s.within in
    let le : length ls ≤ number - 1 = omega arith in
    let all : (number - 1 == length ls) ≡ true = eq-eqb (number - 1) (length ls) (omega arith) in
    ap (λ (o : Option (List ℕ)). option_map_or (λ x. line_fault (types_of ls) (names_in_lines (take (number - 1) ls))
    (bytes_of_lines (take (number - 1 + 1) ls)) (line_of x)) o
    (cond (number - 1 == length ls) (end_fault (names_in_lines ls) (remainder_of text)) None)) (get_end ls (number - 1) le)
    ∙ ap (λ (b : Bool). cond b (end_fault (names_in_lines ls) (remainder_of text)) None) all
    ∙ ap (λ (b : NamesBefore). end_fault b (remainder_of text)) (sym (ap names_in_lines (take_all (number - 1) ls le)) ∙ before_here text rest number r s)
    ∙ ap (end_fault (names_before_line r.draft)) (sym s.tail ∙ rest_end rest e)

pub all_clean : (text rest : List ℕ) (number : ℕ) (r : TableReader) → pieces_of rest ≡ rest ∷ []
    → LinesSoFar text rest number r → end_fault (names_before_line r.draft) rest ≡ None → (i : ℕ) → fault_at_line text i ≡ None
all_clean text rest number r e s none i =
    let ls = whole_lines text in
    let gone : length ls - (number - 1) ≡ 0 = sym (length-drop (number - 1) ls) ∙ ap length (s.lines ∙ lines_end rest e) in
    let within = s.within in
    let some = s.some in
    elim (cases_lt (i + 1) number) [
      | inl below ↦ s.clean i below
      | inr above ↦ elim (cases_eq i (number - 1)) [
        | inl same ↦ ap (fault_at_line text) same ∙ end_here text rest number r e s ∙ none
        | inr other ↦
            let le : length ls ≤ i = omega arith in
            let past : (i == length ls) ≡ false = ne_eqb i (length ls) (λ h. other (omega arith)) in
            ap (λ (o : Option (List ℕ)). option_map_or
            (λ x. line_fault (types_of ls) (names_in_lines (take i ls)) (bytes_of_lines (take (i + 1) ls)) (line_of x)) o
            (cond (i == length ls) (end_fault (names_in_lines ls) (remainder_of text)) None)) (get_end ls i le)
            ∙ ap (λ (b : Bool). cond b (end_fault (names_in_lines ls) (remainder_of text)) None) past
      ]
    ]

pub blamed : (text rest : List ℕ) (number : ℕ) (r : TableReader) (e : TableFault) (stands : Option TableReason)
    → LinesSoFar text rest number r → fault_at_line text (number - 1) ≡ stands → IsFaultAtLine e number stands → IsFaultFound text e
blamed text rest number r (fault.At line reason) stands s here h =
    let is = h.0 in
    let some = s.some in
    record {
      counted = omega arith;
      here = ap (λ (n : ℕ). fault_at_line text (n - 1)) is ∙ here ∙ h.1;
      none_before = λ i lt. s.clean i (omega arith);
    }
blamed text rest number r fault.Memory stands s here h = tt

-- the table of a text without a fault
pub table_made : (text rest : List ℕ) (number : ℕ) (r : TableReader) (result : Result Table TableFault)
    → pieces_of rest ≡ rest ∷ [] → LinesSoFar text rest number r
    → OnOk result (end_fault (names_before_line r.draft) rest ≡ None)
    → IfOk result (λ t. t ≡ table_of_draft r.draft) → IfOk result (λ t. t ≡ table_in (whole_lines text))
table_made text rest number r (Ok t) e s none is =
    let ls = whole_lines text in
    let gone : length ls - (number - 1) ≡ 0 = sym (length-drop (number - 1) ls) ∙ ap length (s.lines ∙ lines_end rest e) in
    let within = s.within in
    let types : s.types ≡ types_of ls = s.is_sufficient.whole (all_clean text rest number r e s none) in
    let whole : take (number - 1) ls ≡ ls = take_all (number - 1) ls (omega arith) in
    is ∙ ap table_of_draft (s.draft ∙ ap (table_draft_of s.types) whole ∙ ap (λ (u : TypeNames). table_draft_of u ls) types)
table_made text rest number r (Err f) e s none is = tt
