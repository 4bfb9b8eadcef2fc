-- The first fault of a text.
use Rattle.std.proofs.Common.{◌≡◌, ℕ, ◌+◌, ◌-◌, ◌≤◌, ◌==◌, false, List, length, Option, Some, None, refl, sym, ap, ◌∙◌, arith, inl, inr}
use Rattle.std.specs.Prelude.{slice_get}
use Rattle.std.proofs.lemmas.Bool.{cases_lt, ne_eqb}
use Rattle.std.proofs.lemmas.List.{length-take}
use Rattle.std.proofs.lemmas.List.Splits.{length-slice_split}
use Rattle.std.proofs.lemmas.List.Sums.{count_by-le-length}
use Rattle.std.proofs.lemmas.Option.{same_Some, slice_get_past}
use Rattle.table_text.specs.LineTests.{IsFirstFaultFound, fault_at_line, fault_after_lines}
use Rattle.mrpc_table.specs.Lines.{pieces_of, whole_lines, remainder_of}
use Rattle.mrpc_table.specs.Text.{table_text}
use Rattle.mrpc_table.specs.Valid.{IsValid}
use Rattle.mrpc_table.specs.declared.table.Table.{Table}
use Rattle.table_text.specs.declared.fault.TableReason.{TableReason}
use Rattle.table_text.proofs.Complete.{complete}

none_some : (o : Option TableReason) (r : TableReason) → o ≡ Some r → o ≡ None → ⊥
none_some o r some none = absurd cc

pub one_first : (text : List ℕ) (m n : ℕ) (r q : TableReason) → IsFirstFaultFound text m r → IsFirstFaultFound text n q → (m ≡ n) × (r ≡ q)
one_first text m n r q h k =
    elim (cases_lt m n) [
      | inl before ↦ absurd (none_some (fault_at_line text (m - 1)) r h.here (k.none_before (m - 1) (omega arith)))
      | inr from ↦ elim (cases_lt n m) [
        | inl behind ↦ absurd (none_some (fault_at_line text (n - 1)) q k.here (h.none_before (n - 1) (omega arith)))
        | inr to ↦
            let same : m ≡ n = omega arith in
            (same, same_Some r q (sym h.here ∙ ap (λ (i : ℕ). fault_at_line text (i - 1)) same ∙ k.here))
      ]
    ]

pub none_first : (t : Table) (line : ℕ) (reason : TableReason) → IsValid t → IsFirstFaultFound (table_text t) line reason → ⊥
none_first t line reason valid h = none_some (fault_at_line (table_text t) (line - 1)) reason h.here ((complete t (table_text t) valid refl).0 (line - 1))

pub no_fault_past : (lines : List (List ℕ)) (rest : List ℕ) (i : ℕ) → length lines + 1 ≤ i → fault_after_lines lines rest i ≡ None
no_fault_past lines rest i past =
    let no_line : slice_get lines i ≡ None = slice_get_past lines i (omega arith) in
    let not_end : (i == length lines) ≡ false = ne_eqb i (length lines) (λ same. omega arith) in
    rw (no_line, not_end) refl

line_count : (text : List ℕ) → length (whole_lines text) ≤ length text
line_count text =
    let pieces = length-slice_split (λ c. c == 10) text in
    let few = count_by-le-length (λ c. c == 10) text in
    omega (arith, pieces, few, length-take (length (pieces_of text) - 1) (pieces_of text))

pub first_within : (text : List ℕ) (line : ℕ) (reason : TableReason) → IsFirstFaultFound text line reason → line ≤ length text + 1
first_within text line reason h =
    elim (cases_lt (length (whole_lines text)) (line - 1)) [
      | inl past ↦ absurd (none_some (fault_at_line text (line - 1)) reason h.here (no_fault_past (whole_lines text) (remainder_of text) (line - 1) (omega arith)))
      | inr within ↦ omega (arith, line_count text)
    ]
