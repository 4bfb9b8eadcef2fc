-- The form of a line is what it is parsed to, with each number as far as the reader keeps it.
use Rattle.std.proofs.Common.{◌≡◌, ℕ, ℤ, pos, negsuc, ◌+◌, ◌-◌, ◌^◌, ◌<◌, ◌≤◌, ◌==◌, true, false, cond, List, [], ◌∷◌}
use Rattle.std.proofs.Common.{codes, Some, None, refl, ap, sym, ◌∙◌, arith, inl, inr, ◌⊎◌}
use Rattle.std.specs.Prelude.{option_map, option_and_then, nat_le, FitsSigned, if◌then◌else◌}
use Rattle.std.specs.Int.{w32}
use Rattle.std.specs.Str.{bytes_eq}
use Rattle.std.specs.Str.Parse.{digits_value}
use Rattle.std.proofs.lemmas.Int.{ints}
use Rattle.std.proofs.lemmas.Bool.{ne_eqb}
use Rattle.std.proofs.lemmas.Bool.Decides.{eqb_tells, leb_tells}
use Rattle.mrpc_table.specs.Lines.{words_of, is_decimal, number_of}
use Rattle.table_text.specs.Forms.{TableLineForm, enum, value, message, field, method, IsInteger, AreWordsOf, HasLineForm}
use Rattle.table_text.specs.LineTests.{is_enum_number}
use Rattle.table_text.specs.Lines.{in_32_bits, enum_number_of, negative, not_negative, name_of, full_name_of, kind_of}
use Rattle.table_text.specs.Lines.{label_of, enum_line_of, value_line_of, message_line_of, field_line_of, method_line_of, line_of_words}
use Rattle.table_text.specs.Lines.{line_of}
use Rattle.table_text.specs.declared.line.EnumNumber.{EnumNumber}
use Rattle.table_text.specs.declared.line.EnumNumber.TheVariants.{Low, Within, High}
use Rattle.table_text.specs.declared.line.TableLine.{TableLine}
use Rattle.table_text.specs.declared.line.TableLine.TheVariants.{Enum, Value, Message, Field, Method}
use Rattle.table_text.proofs.PlaceLemmas.{same_bytes}
use Rattle.table_text.proofs.ParseLemmas.{unsome, if_true, mapped, chained, decimal_form, first_digit, name_is, full_is, ltb_tells}
use Rattle.table_text.proofs.SpellLemmas.{chosen}

-- ---- forms as lines

abbrev pub kept_whole : ℤ → EnumNumber
kept_whole (pos n) = not_negative n
kept_whole (negsuc n) = if nat_le (n + 1) (2 ^ 31) then Within (negsuc n) else Low

abbrev pub kept : TableLineForm → TableLine
kept (enum name) = Enum name
kept (value number name) = Value (kept_whole number) name
kept (message name) = Message name
kept (field number label kind name) = Field (record { number = in_32_bits number; label = label; kind = kind; name = name })
kept (method index service name input output) = Method (record { index = in_32_bits index; service = service; name = name; input = input; output = output })

-- ---- numbers

whole_read : (w : List ℕ) (z : ℤ) → IsInteger w z → enum_number_of w ≡ Some (kept_whole z)
whole_read w (pos n) e =
    let h = if_true (is_decimal w) (digits_value 10 w) n e in
    let form = decimal_form w h.0 in
    first_digit w form.0 form.1 ∙ ap (option_map not_negative) e
whole_read w (negsuc n) h =
    let some : (n + 1 == 0) ≡ false = ne_eqb (n + 1) 0 (omega arith) in
    let back : n + 1 - 1 ≡ n = omega arith in
    ap enum_number_of h.1 ∙ ap (option_and_then negative) h.2 ∙ rw (some, back) refl

record WholeSaid (w : List ℕ) (z : EnumNumber) : Type 0 where
  number : ℤ
  word : IsInteger w number
  is : kept_whole number ≡ z

whole_said : (w : List ℕ) (z : EnumNumber) → enum_number_of w ≡ Some z → WholeSaid w z
whole_said [] z e = absurd cc
whole_said (c ∷ cs) z e =
    elim (eqb_tells c 45) [
      | inl minus ↦
          let given : option_and_then negative (number_of cs) ≡ Some z = rw minus.0 at e in
          let n = chained negative (number_of cs) z given in
          elim (eqb_tells n.0 0) [
            | inl zero_n ↦ let none : Some z ≡ None = sym n.2 ∙ rw zero_n.0 refl in absurd cc
            | inr some ↦
                let one : Some (cond (nat_le n.0 (2 ^ 31)) (Within (negsuc (n.0 - 1))) Low) ≡ Some z = rw some.0 at n.2 in
                let back : n.0 - 1 + 1 ≡ n.0 = omega (arith, some.1) in
                record {
                  number = negsuc (n.0 - 1);
                  word = (cs, ap (λ (x : ℕ). x ∷ cs) minus.1, n.1 ∙ ap Some (sym back));
                  is = ap (λ (m : ℕ). cond (nat_le m (2 ^ 31)) (Within (negsuc (n.0 - 1))) Low) back ∙ unsome one;
                }
          ]
      | inr digit ↦
          let given : option_map not_negative (number_of (c ∷ cs)) ≡ Some z = rw digit.0 at e in
          let n = mapped not_negative (number_of (c ∷ cs)) z given in
          record { number = pos n.0; word = n.1; is = n.2 }
    ]

pub kept_within : (z : ℤ) → is_enum_number (kept_whole z) ≡ true → (kept_whole z ≡ Within z) × FitsSigned w32 z
kept_within (pos n) e =
    elim (ltb_tells n (2 ^ 31)) [
      | inl lt ↦ (rw lt.0 refl, let below : n < 2 ^ 31 = lt.1 in omega (arith, ints))
      | inr ge ↦ let clash : is_enum_number High ≡ true = rw ge.0 at e in absurd cc
    ]
kept_within (negsuc n) e =
    elim (leb_tells (n + 1) (2 ^ 31)) [
      | inl le ↦ (rw le.0 refl, let up : n + 1 ≤ 2 ^ 31 = le.1 in omega (arith, ints))
      | inr gt ↦ let clash : is_enum_number Low ≡ true = rw gt.0 at e in absurd cc
    ]

pub fits_within : (z : ℤ) → FitsSigned w32 z → kept_whole z ≡ Within z
fits_within (pos n) fits =
    elim (ltb_tells n (2 ^ 31)) [
      | inl lt ↦ rw lt.0 refl
      | inr ge ↦ let up : 2 ^ 31 ≤ n = ge.1 in absurd (omega (arith, ints, fits))
    ]
fits_within (negsuc n) fits =
    elim (leb_tells (n + 1) (2 ^ 31)) [
      | inl le ↦ rw le.0 refl
      | inr gt ↦ let down : 2 ^ 31 < n + 1 = gt.1 in absurd (omega (arith, ints, fits))
    ]

pub in_32 : (n : ℕ) → ((in_32_bits n ≡ Some n) × (n < 2 ^ 32)) ⊎ ((in_32_bits n ≡ None) × (2 ^ 32 ≤ n))
in_32 n = elim (ltb_tells n (2 ^ 32)) [ inl lt ↦ inl (rw lt.0 refl, lt.1) | inr ge ↦ inr (rw ge.0 refl, ge.1) ]

-- ---- words

-- the words of a form are parsed to it
pub words_line : (ws : List (List ℕ)) (f : TableLineForm) → AreWordsOf f ws → line_of_words ws ≡ Some (kept f)
words_line ws (enum name) h = let form = h.1 in ap line_of_words h.0 ∙ rw form refl
words_line ws (value z name) h =
    let whole : enum_number_of h.0 ≡ Some (kept_whole z) = whole_read h.0 z h.2 in
    let form = h.3 in
    ap line_of_words h.1 ∙ rw (whole, form) refl
words_line ws (message name) h = let form = h.1 in ap line_of_words h.0 ∙ rw form refl
words_line ws (field n l k name) h =
    let number = h.4 in
    let label = h.5 in
    let kind = h.6 in
    let form = h.7 in
    ap line_of_words h.3 ∙ rw (number, label, kind, form) refl
words_line ws (method i s n a b) h =
    let index = h.2 in
    let service = h.3 in
    let name = h.4 in
    let input = h.5 in
    let output = h.6 in
    ap line_of_words h.1 ∙ rw (index, service, name, input, output) refl

pub says_line : (line : List ℕ) (f : TableLineForm) → HasLineForm line f → line_of line ≡ Some (kept f)
unfolding line_of
says_line line f h = words_line (words_of line) f h

-- what is parsed has a form
pub record LineSaid (ws : List (List ℕ)) (l : TableLine) : Type 0 where
  pub form : TableLineForm
  pub words : AreWordsOf form ws
  pub is : kept form ≡ l

enum_said : (w : List ℕ) (ws : List (List ℕ)) (l : TableLine) → w ≡ codes "enum" → enum_line_of ws ≡ Some l → LineSaid (w ∷ ws) l
enum_said w [] l first e = absurd cc
enum_said w (n ∷ []) l first e =
    let m = mapped Enum (full_name_of n) l e in
    let full = full_is n m.0 m.1 in
    record { form = enum m.0; words = (cc (first, full.0), full.1); is = m.2 }
enum_said w (n ∷ m ∷ ws) l first e = absurd cc

message_said : (w : List ℕ) (ws : List (List ℕ)) (l : TableLine) → w ≡ codes "message" → message_line_of ws ≡ Some l → LineSaid (w ∷ ws) l
message_said w [] l first e = absurd cc
message_said w (n ∷ []) l first e =
    let m = mapped Message (full_name_of n) l e in
    let full = full_is n m.0 m.1 in
    record { form = message m.0; words = (cc (first, full.0), full.1); is = m.2 }
message_said w (n ∷ m ∷ ws) l first e = absurd cc

value_said : (w : List ℕ) (ws : List (List ℕ)) (l : TableLine) → w ≡ codes "value" → value_line_of ws ≡ Some l → LineSaid (w ∷ ws) l
value_said w [] l first e = absurd cc
value_said w (d ∷ []) l first e = absurd cc
value_said w (d ∷ n ∷ []) l first e =
    let z = chained (λ z. option_map (λ n. Value z n) (name_of n)) (enum_number_of d) l e in
    let m = mapped (Value z.0) (name_of n) l z.2 in
    let name = name_is n m.0 m.1 in
    let x = whole_said d z.0 z.1 in
    record { form = value x.number m.0; words = (d, cc (first, name.0), x.word, name.1); is = ap (λ (y : EnumNumber). Value y m.0) x.is ∙ m.2 }
value_said w (d ∷ n ∷ x ∷ ws) l first e = absurd cc

field_said : (w : List ℕ) (ws : List (List ℕ)) (l : TableLine) → w ≡ codes "field" → field_line_of ws ≡ Some l → LineSaid (w ∷ ws) l
field_said w [] l first e = absurd cc
field_said w (d ∷ []) l first e = absurd cc
field_said w (d ∷ lw ∷ []) l first e = absurd cc
field_said w (d ∷ lw ∷ kw ∷ []) l first e = absurd cc
field_said w (d ∷ lw ∷ kw ∷ nw ∷ []) l first e =
    let n = chained (λ n.
    option_and_then (λ l.
    option_and_then (λ k.
    option_map (λ m. Field (record { number = in_32_bits n; label = l; kind = k; name = m })) (name_of nw))
    (kind_of kw)) (label_of lw)) (number_of d) l e in
    let label = chained
    (λ l. option_and_then
    (λ k. option_map (λ m. Field (record { number = in_32_bits n.0; label = l; kind = k; name = m }))
    (name_of nw)) (kind_of kw)) (label_of lw) l n.2 in
    let kind = chained (λ k. option_map (λ m. Field (record { number = in_32_bits n.0; label = label.0; kind = k; name = m })) (name_of nw)) (kind_of kw) l label.2 in
    let m = mapped (λ m. Field (record { number = in_32_bits n.0; label = label.0; kind = kind.0; name = m })) (name_of nw) l kind.2 in
    let name = name_is nw m.0 m.1 in
    record { form = field n.0 label.0 kind.0 m.0; words = (d, lw, kw, cc (first, name.0), n.1, label.1, kind.1, name.1); is = m.2 }
field_said w (d ∷ lw ∷ kw ∷ nw ∷ x ∷ ws) l first e = absurd cc

method_said : (w : List ℕ) (ws : List (List ℕ)) (l : TableLine) → w ≡ codes "method" → method_line_of ws ≡ Some l → LineSaid (w ∷ ws) l
method_said w [] l first e = absurd cc
method_said w (iw ∷ []) l first e = absurd cc
method_said w (iw ∷ sw ∷ []) l first e = absurd cc
method_said w (iw ∷ sw ∷ nw ∷ []) l first e = absurd cc
method_said w (iw ∷ sw ∷ nw ∷ aw ∷ []) l first e = absurd cc
method_said w (iw ∷ sw ∷ nw ∷ aw ∷ bw ∷ []) l first e =
    let i = chained (λ i.
    option_and_then (λ s.
    option_and_then (λ n.
    option_and_then (λ a.
    option_map (λ b. Method (record { index = in_32_bits i; service = s; name = n; input = a; output = b }))
    (full_name_of bw)) (full_name_of aw)) (name_of nw)) (full_name_of sw)) (number_of iw) l e in
    let s = chained (λ s.
    option_and_then (λ n.
    option_and_then (λ a.
    option_map (λ b. Method (record { index = in_32_bits i.0; service = s; name = n; input = a; output = b }))
    (full_name_of bw)) (full_name_of aw)) (name_of nw)) (full_name_of sw) l i.2 in
    let n = chained (λ n.
    option_and_then (λ a.
    option_map (λ b. Method (record { index = in_32_bits i.0; service = s.0; name = n; input = a; output = b }))
    (full_name_of bw)) (full_name_of aw)) (name_of nw) l s.2 in
    let a = chained (λ a. option_map (λ b. Method (record { index = in_32_bits i.0; service = s.0; name = n.0; input = a; output = b })) (full_name_of bw)) (full_name_of aw) l n.2 in
    let b = mapped (λ b. Method (record { index = in_32_bits i.0; service = s.0; name = n.0; input = a.0; output = b })) (full_name_of bw) l a.2 in
    let service = full_is sw s.0 s.1 in
    let name = name_is nw n.0 n.1 in
    let input = full_is aw a.0 a.1 in
    let output = full_is bw b.0 b.1 in
    record {
      form = method i.0 s.0 n.0 a.0 b.0;
      words = (iw, cc (first, service.0, name.0, input.0, output.0), i.1, service.1, name.1, input.1, output.1);
      is = b.2;
    }
method_said w (iw ∷ sw ∷ nw ∷ aw ∷ bw ∷ x ∷ ws) l first e = absurd cc

words_said : (ws : List (List ℕ)) (l : TableLine) → line_of_words ws ≡ Some l → LineSaid ws l
words_said [] l e = absurd cc
words_said (w ∷ ws) l e =
    let rest4 = cond (bytes_eq w (codes "method")) (method_line_of ws) None in
    let rest3 = cond (bytes_eq w (codes "field")) (field_line_of ws) rest4 in
    let rest2 = cond (bytes_eq w (codes "message")) (message_line_of ws) rest3 in
    let rest1 = cond (bytes_eq w (codes "value")) (value_line_of ws) rest2 in
    elim (chosen (bytes_eq w (codes "enum")) (enum_line_of ws) rest1 (Some l) e) [
      | inl h ↦ enum_said w ws l (same_bytes w (codes "enum") h.0) h.1
      | inr e1 ↦ elim (chosen (bytes_eq w (codes "value")) (value_line_of ws) rest2 (Some l) e1) [
        | inl h ↦ value_said w ws l (same_bytes w (codes "value") h.0) h.1
        | inr e2 ↦ elim (chosen (bytes_eq w (codes "message")) (message_line_of ws) rest3 (Some l) e2) [
          | inl h ↦ message_said w ws l (same_bytes w (codes "message") h.0) h.1
          | inr e3 ↦ elim (chosen (bytes_eq w (codes "field")) (field_line_of ws) rest4 (Some l) e3) [
            | inl h ↦ field_said w ws l (same_bytes w (codes "field") h.0) h.1
            | inr e4 ↦ elim (chosen (bytes_eq w (codes "method")) (method_line_of ws) None (Some l) e4) [
              | inl h ↦ method_said w ws l (same_bytes w (codes "method") h.0) h.1
              | inr e5 ↦ absurd cc
            ]
          ]
        ]
      ]
    ]

pub line_said : (line : List ℕ) (l : TableLine) → line_of line ≡ Some l → LineSaid (words_of line) l
unfolding line_of
line_said line l e = words_said (words_of line) l e
