-- The canonical text of a table consists of whole lines, none of which is `end`; and a text is one, or has a first
-- fault.
use Rattle.std.proofs.Common.{◌≡◌, ◌≢◌, ◌⊎◌, ℕ, zero, suc, ◌+◌, ◌-◌, ◌<◌, ◌≤◌, ◌==◌, ◌||◌, not, Bool, true, false}
use Rattle.std.proofs.Common.{cond, List, [], ◌∷◌, ◌++◌, codes, length, get_or, Option, Some, None, refl, ap, sym}
use Rattle.std.proofs.Common.{subst, ◌∙◌, arith, inl, inr, eq-eqb}
use Rattle.std.specs.Prelude.{slice_get, All}
use Rattle.std.specs.List.{flat_map, AllByRecursion, join_with_byte}
use Rattle.std.proofs.lemmas.Bool.{cases_lt, ne_eqb, eqb-true}
use Rattle.std.proofs.lemmas.List.{append-nil, nil_from_length}
use Rattle.std.proofs.lemmas.List.Elements.{All-from_recursion, recursion_from_All, All-take}
use Rattle.std.proofs.lemmas.List.Splits.{join_with_byte-slice_split}
use Rattle.std.proofs.lemmas.Option.{slice_get-get_or, slice_get_past}
use Rattle.mrpc_table.specs.Lines.{pieces_of, whole_lines, remainder_of}
use Rattle.mrpc_table.specs.Text.{table_text}
use Rattle.mrpc_table.specs.Valid.{IsValid}
use Rattle.mrpc_table.specs.declared.table.Table.{Table}
use Rattle.table_text.specs.Lines.{line_of}
use Rattle.table_text.specs.LineTests.{IsFirstFaultFound, fault_at_line, end_fault, names_in_lines, is_empty, lacks_value}
use Rattle.table_text.specs.Drafts.{table_in}
use Rattle.table_text.specs.TableText.{HasTableAfter, IsEndless}
use Rattle.table_text.specs.declared.fault.TableReason.{TableReason}
use Rattle.table_text.specs.declared.fault.TableReason.TheVariants.{Syntax}
use Rattle.table_text.proofs.Accepts.{IsFaultless, accepted, text_lines}
use Rattle.table_text.proofs.Complete.{complete}
use Rattle.table_text.proofs.TableCuts.{fed, IsOneLine, one_line_each, ended_at, AreTableLines, cut_ends, cut_from, cut_to, cut_nowhere, Passed, ended_parts, none_is}

-- ---- the canonical text of a table

faulty_end : (text l : List ℕ) (k : ℕ) → slice_get (whole_lines text) k ≡ Some l → l ≡ codes "end" → fault_at_line text k ≡ Some Syntax
unfolding line_of
faulty_end text l k here e = rw (here, e) refl

no_end_line : (text : List ℕ) → IsFaultless text → All (λ l. l ≢ codes "end") (whole_lines text)
no_end_line text clean k d within same =
    none_is (fault_at_line text k) Syntax (clean k) (faulty_end text (get_or (whole_lines text) k d) k (slice_get-get_or (whole_lines text) k d within) same)

some_rest : (b : Bool) (l : Bool) (r : Option TableReason) → cond (not b || l) (Some Syntax) r ≡ None → b ≡ true
some_rest true l r e = refl
some_rest false l r e = absurd cc

nothing_is : (xs : List ℕ) → is_empty xs ≡ true → xs ≡ []
nothing_is xs e = nil_from_length xs (eqb-true (length xs) 0 e)

no_rest : (text : List ℕ) → IsFaultless text → remainder_of text ≡ []
no_rest text clean =
    let ls = whole_lines text in
    let past : slice_get ls (length ls) ≡ None = slice_get_past ls (length ls) (omega arith) in
    let at_end : (length ls == length ls) ≡ true = eq-eqb (length ls) (length ls) refl in
    let here : fault_at_line text (length ls) ≡ end_fault (names_in_lines ls) (remainder_of text) = rw (past, at_end) refl in
    nothing_is (remainder_of text) (some_rest (is_empty (remainder_of text)) (lacks_value (names_in_lines ls).open_part) _ (sym here ∙ clean (length ls)))

both : (ls : List (List ℕ)) → AllByRecursion IsOneLine ls → AllByRecursion (λ l. l ≢ codes "end") ls → AreTableLines ls
both [] one others = tt
both (l ∷ ls) one others = ((one.0, others.0), both ls one.1 others.1)

pub whole_table : (t : Table) → IsValid t → Passed (table_text t) []
whole_table t valid =
    let text = table_text t in
    let clean = (complete t text valid refl).0 in
    let ls = whole_lines text in
    let one : AllByRecursion IsOneLine ls =
    recursion_from_All IsOneLine ls (All-take IsOneLine (length (pieces_of text) - 1) (pieces_of text)
    (All-from_recursion IsOneLine (pieces_of text) (one_line_each text))) in
    record {
      lines = ls;
      good = both ls one (recursion_from_All (λ l. l ≢ codes "end") ls (no_end_line text clean));
      text_is = text_lines text ∙ ap (λ (r : List ℕ). flat_map fed ls ++ r) (no_rest text clean);
    }

pub canonical_behind : (head rest : List ℕ) (t : Table) → IsValid t → HasTableAfter head (head ++ (table_text t ++ (codes "end\n" ++ rest))) (table_text t) rest
canonical_behind head rest t valid =
    let p = whole_table t valid in
    let whole : table_text t ≡ flat_map fed p.lines = p.text_is ∙ append-nil (flat_map fed p.lines) in
    let body = table_text t ++ (codes "end\n" ++ rest) in
    cut_to head (head ++ body) body (table_text t) rest refl (record {
      lines = p.lines;
      good = p.good;
      table_is = whole;
      text_is = ap (λ (x : List ℕ). x ++ (codes "end\n" ++ rest)) whole;
    })

pub canonical_endless : (head : List ℕ) (t : Table) → IsValid t → IsEndless head (head ++ table_text t) (table_text t)
canonical_endless head t valid = record {
  text_is = refl;
  endless = λ other rest h. cut_nowhere (table_text t) [] other rest (whole_table t valid) refl (cut_from head (head ++ table_text t) (table_text t) other rest refl h);
}

-- ---- a line `end` follows, or none does

behind_by : (head body : List ℕ) (o : Option (List (List ℕ) × List (List ℕ))) → ended_at (pieces_of body) ≡ o
    → ((table : List ℕ) × (rest : List ℕ) × HasTableAfter head (head ++ body) table rest) ⊎ IsEndless head (head ++ body) body
behind_by head body (Some p) e =
    let parts = ended_parts (pieces_of body) p.0 p.1 e (one_line_each body) in
    inl (
      flat_map fed p.0,
      join_with_byte 10 p.1,
      cut_to head (head ++ body) body (flat_map fed p.0) (join_with_byte 10 p.1) refl (record {
        lines = p.0;
        good = parts.0;
        table_is = refl;
        text_is = sym (join_with_byte-slice_split 10 body) ∙ parts.1;
      }),
    )
behind_by head body None e = inr (record {
  text_is = refl;
  endless = λ other rest h.
      let c = cut_from head (head ++ body) body other rest refl h in
      none_is (ended_at (pieces_of body)) (c.lines, pieces_of rest) e (cut_ends body other rest c);
})

pub behind_or_endless : (head body : List ℕ) → ((table : List ℕ) × (rest : List ℕ) × HasTableAfter head (head ++ body) table rest) ⊎ IsEndless head (head ++ body) body
behind_or_endless head body = behind_by head body (ended_at (pieces_of body)) refl

-- ---- a table or a fault

here_by : (text : List ℕ) (n : ℕ) → ((i : ℕ) → i < n → fault_at_line text i ≡ None) → (o : Option TableReason) → fault_at_line text n ≡ o
    → ((i : ℕ) → i < suc n → fault_at_line text i ≡ None) ⊎ ((line : ℕ) × (reason : TableReason) × IsFirstFaultFound text line reason)
here_by text n none None e = inl (λ i below. elim (cases_lt i n) [
  | inl before ↦ none i before
  | inr from ↦ let same : n ≡ i = omega (arith, below, from) in subst (λ (k : ℕ). fault_at_line text k ≡ None) same e
])
here_by text n none (Some reason) e =
    let at : n + 1 - 1 ≡ n = omega arith in
    inr (
      n + 1,
      reason,
      record {
        counted = omega arith;
        here = ap (fault_at_line text) at ∙ e;
        none_before = λ i before. none i (omega (arith, before));
      },
    )

-- the first n lines have no fault, or there is a first one
search_up : (text : List ℕ) (n : ℕ) → ((i : ℕ) → i < n → fault_at_line text i ≡ None) ⊎ ((line : ℕ) × (reason : TableReason) × IsFirstFaultFound text line reason)
search_up text zero = inl (λ i below. absurd (omega (arith, below)))
search_up text (suc n) =
    elim (search_up text n) [
      | inr found ↦ inr found
      | inl none ↦ here_by text n none (fault_at_line text n) refl
    ]

past_end : (text : List ℕ) (i : ℕ) → length (whole_lines text) + 1 ≤ i → fault_at_line text i ≡ None
past_end text i past =
    let ls = whole_lines text in
    let no_line : slice_get ls i ≡ None = slice_get_past ls i (omega arith) in
    let not_end : (i == length ls) ≡ false = ne_eqb i (length ls) (λ same. omega arith) in
    rw (no_line, not_end) refl

pub table_or_first : (text : List ℕ) → ((t : Table) × IsValid t × (text ≡ table_text t)) ⊎ ((line : ℕ) × (reason : TableReason) × IsFirstFaultFound text line reason)
table_or_first text =
    let n = length (whole_lines text) + 1 in
    elim (search_up text n) [
      | inr found ↦ inr found
      | inl none ↦
          let clean : IsFaultless text = λ i. elim (cases_lt i n) [ inl before ↦ none i before | inr from ↦ past_end text i from ] in
          let is = accepted text clean in
          inl (table_in (whole_lines text), is.0, is.1)
    ]
