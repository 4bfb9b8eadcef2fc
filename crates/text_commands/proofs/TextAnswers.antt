-- A text before a stream has one table, or one fault.
use Rattle.std.proofs.Common.{◌≡◌, ◌≢◌, ℕ, ◌+◌, List, ◌++◌, inl, inr, sym, ap, subst, ◌∙◌}
use Rattle.std.specs.Prelude.{codes}
use Rattle.std.proofs.lemmas.List.{append_cancel_left}
use Rattle.table_text.specs.Faults.{IsFirstTableFault}
use Rattle.table_text.specs.Reason.{table_reason_word}
use Rattle.mrpc_table.specs.Text.{table_text}
use Rattle.mrpc_table.specs.Valid.{IsValid}
use Rattle.mrpc_table.specs.declared.table.Table.{Table}
use Rattle.table_text.specs.TableText.{IsTableAfter}
use Rattle.text_commands.specs.Laws.{TextLaw}
use Rattle.text_commands.specs.DecodeInput.{IsInputOf, IsInputTextFault, IsFaultOfTable, decode_header, table_keyword, decode_preamble}
use Rattle.text_commands.specs.DecodeInput.IsInputTextFault.{no_first_line, no_second_line, in_table, no_end}

-- ---- the table's text

-- an input with a table's text starts with the first two lines
begun : (text table : List ℕ) → IsTableAfter decode_preamble text table → (more : List ℕ) × (text ≡ decode_preamble ++ more)
begun text table (inl has) = (table ++ (codes "end\n" ++ has.0), has.1.text_is)
begun text table (inr rest) = (table, rest.text_is)

not_begun : (text table : List ℕ) → ((rest : List ℕ) → text ≢ decode_header ++ rest) → IsTableAfter decode_preamble text table → ⊥
not_begun text table none is = let front = begun text table is in none (table_keyword ++ front.0) front.1

not_gone_on : (text rest table : List ℕ) → text ≡ decode_header ++ rest → ((more : List ℕ) → rest ≢ table_keyword ++ more) → IsTableAfter decode_preamble text table → ⊥
not_gone_on text rest table first none is =
    let front = begun text table is in
    none front.0 (append_cancel_left decode_header rest (table_keyword ++ front.0) (sym first ∙ front.1))

one_table_text : TextLaw → (text a b : List ℕ) → IsTableAfter decode_preamble text a → IsTableAfter decode_preamble text b → a ≡ b
one_table_text law text a b (inl h) (inl k) = (law.table_is_unique decode_preamble text b k.0 a h.0 k.1 h.1).0
one_table_text law text a b (inl h) (inr rest) = absurd (rest.endless a h.0 h.1)
one_table_text law text a b (inr rest) (inl k) = absurd (rest.endless b k.0 k.1)
one_table_text law text a b (inr rest) (inr other) = append_cancel_left decode_preamble a b (sym rest.text_is ∙ other.text_is)

-- a valid table's text has no fault
none_in_table : TextLaw → (text table : List ℕ) (T : Table) (line : ℕ) (word : List ℕ) → IsValid T
    → IsTableAfter decode_preamble text (table_text T) → IsTableAfter decode_preamble text table → IsFaultOfTable table line word → ⊥
none_in_table law text table T line word valid own is fault =
    law.canonical_has_no_fault T fault.at fault.reason valid (subst (λ (t : List ℕ). IsFirstTableFault t fault.at fault.reason) (one_table_text law text table (table_text T) is own) fault.first)

-- ---- the answers

-- a text has one table and one stream
pub one_holding : TextLaw → (text : List ℕ) (T U : Table) (stream other : List ℕ) → IsInputOf text T stream → IsInputOf text U other → (T ≡ U) × (stream ≡ other)
one_holding law text T U stream other h k =
    let same = law.table_is_unique decode_preamble text (table_text U) other (table_text T) stream k.parts h.parts in
    (law.texts_are_unique T U h.valid k.valid same.0, same.1)

-- and then it has no fault
pub no_text_fault : TextLaw → (text : List ℕ) (T : Table) (stream : List ℕ) (line : ℕ) (word : List ℕ) → IsInputOf text T stream → IsInputTextFault text line word → ⊥
no_text_fault law text T stream line word h (no_first_line none at is) = not_begun text (table_text T) none (inl (stream, h.parts))
no_text_fault law text T stream line word h (no_second_line rest first none at is) = not_gone_on text rest (table_text T) first none (inl (stream, h.parts))
no_text_fault law text T stream line word h (in_table table own fault) = none_in_table law text table T line word h.valid (inl (stream, h.parts)) own fault
no_text_fault law text T stream line word h (no_end U valid rest at is) = rest.endless (table_text T) stream h.parts

one_in_table : TextLaw → (a b : List ℕ) (m n : ℕ) (w v : List ℕ) → a ≡ b → IsFaultOfTable a m w → IsFaultOfTable b n v → (m ≡ n) × (w ≡ v)
one_in_table law a b m n w v same h k =
    let one = law.fault_is_unique b h.at k.at h.reason k.reason (subst (λ (t : List ℕ). IsFirstTableFault t h.at h.reason) same h.first) k.first in
    (h.line_is ∙ ap (λ (i : ℕ). i + 2) one.0 ∙ sym k.line_is, h.word_is ∙ ap table_reason_word one.1 ∙ sym k.word_is)

-- a text has at most one fault
pub one_text_fault : TextLaw → (text : List ℕ) (m n : ℕ) (w v : List ℕ) → IsInputTextFault text m w → IsInputTextFault text n v → (m ≡ n) × (w ≡ v)
one_text_fault law text m n w v (no_first_line none at is) (no_first_line none' at' is') = (at ∙ sym at', is ∙ sym is')
one_text_fault law text m n w v (no_first_line none at is) (no_second_line rest first none' at' is') = absurd (none rest first)
one_text_fault law text m n w v (no_first_line none at is) (in_table table own fault) = absurd (not_begun text table none own)
one_text_fault law text m n w v (no_first_line none at is) (no_end T valid rest at' is') = absurd (not_begun text (table_text T) none (inr rest))
one_text_fault law text m n w v (no_second_line rest first none at is) (no_first_line none' at' is') = absurd (none' rest first)
one_text_fault law text m n w v (no_second_line rest first none at is) (no_second_line rest' first' none' at' is') = (at ∙ sym at', is ∙ sym is')
one_text_fault law text m n w v (no_second_line rest first none at is) (in_table table own fault) = absurd (not_gone_on text rest table first none own)
one_text_fault law text m n w v (no_second_line rest first none at is) (no_end T valid more at' is') = absurd (not_gone_on text rest (table_text T) first none (inr more))
one_text_fault law text m n w v (in_table table own fault) (no_first_line none at is) = absurd (not_begun text table none own)
one_text_fault law text m n w v (in_table table own fault) (no_second_line rest first none at is) = absurd (not_gone_on text rest table first none own)
one_text_fault law text m n w v (in_table table own fault) (in_table other own' fault') = one_in_table law table other m n w v (one_table_text law text table other own own') fault fault'
one_text_fault law text m n w v (in_table table own fault) (no_end T valid rest at is) = absurd (none_in_table law text table T m w valid (inr rest) own fault)
one_text_fault law text m n w v (no_end T valid rest at is) (no_first_line none at' is') = absurd (not_begun text (table_text T) none (inr rest))
one_text_fault law text m n w v (no_end T valid rest at is) (no_second_line more first none at' is') = absurd (not_gone_on text more (table_text T) first none (inr rest))
one_text_fault law text m n w v (no_end T valid rest at is) (in_table table own fault) = absurd (none_in_table law text table T n v valid (inr rest) own fault)
one_text_fault law text m n w v (no_end T valid rest at is) (no_end U valid' rest' at' is') = (at ∙ sym at', is ∙ sym is')
