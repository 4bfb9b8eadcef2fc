-- Lines and their words: a line that is parsed is spelled as `LineIs` defines, and a line of this spelling is parsed.
use Rattle.std.proofs.Common.{◌≡◌, ◌≢◌, ℕ, suc, ℤ, pos, negsuc, ◌^◌, ◌<◌, ◌≤◌, ◌==◌, ◌&&◌, Bool, true, false, cond}
use Rattle.std.proofs.Common.{List, [], ◌∷◌, ◌++◌, codes, Option, Some, None, refl, ap, sym, subst, ◌∙◌, arith, inl}
use Rattle.std.proofs.Common.{inr, ◌⊎◌}
use Rattle.std.specs.Prelude.{option_map, option_and_then, nat_lt, IsTrue, is_some}
use Rattle.std.specs.List.{slice_split, onto_first, list_all, find, AllByRecursion}
use Rattle.std.specs.Option.{option_or}
use Rattle.std.specs.Str.{bytes_eq}
use Rattle.std.specs.Char.{is_ascii_digit}
use Rattle.std.specs.Fmt.{decimal, signed_decimal}
use Rattle.std.specs.Prelude.{FitsSigned}
use Rattle.std.specs.Int.{w32}
use Rattle.std.proofs.lemmas.Int.{ints}
use Rattle.std.proofs.lemmas.Bool.{ltb-true, eq-eqb, eqb-true, ne_eqb, lt-ltb}
use Rattle.std.proofs.lemmas.List.Splits.{join_with_byte-slice_split}
use Rattle.std.proofs.lemmas.Grind.{common_steps}
use Rattle.mrpc_table.specs.Names.{is_name_start, is_name_byte, is_name_form, is_full_form, parts_of}
use Rattle.mrpc_table.specs.Lines.{words_of, number_of}
use Rattle.mrpc_table.specs.Scalars.{no_table, scalar_names, scalar_of}
use Rattle.table_text.specs.Lines.{in_32_bits, enum_number_of, name_of, full_name_of, without_prefix, kind_of, label_names}
use Rattle.table_text.specs.Lines.{label_of, enum_line_of, value_line_of, message_line_of, field_line_of, method_line_of, line_of_words}
use Rattle.table_text.specs.Lines.{line_of}
use Rattle.mrpc_table.specs.Text.{kind_text, spaced}
use Rattle.table_text.specs.LineTests.{is_enum_number}
use Rattle.mrpc_table.specs.declared.table.Kind.{Kind}
use Rattle.mrpc_table.specs.declared.table.Kind.TheVariants.{Int32, Int64, Uint32, Uint64, Sint32, Sint64}
use Rattle.mrpc_table.specs.declared.table.Kind.TheVariants.{Bool as TheBool, Fixed32, Fixed64, Sfixed32, Sfixed64}
use Rattle.mrpc_table.specs.declared.table.Kind.TheVariants.{Float, Double, Text, Octets, Message as OfMessage}
use Rattle.mrpc_table.specs.declared.table.Kind.TheVariants.{Choice}
use Rattle.mrpc_table.specs.declared.table.Table.{Table}
use Rattle.table_text.specs.declared.line.KindWord.{KindWord}
use Rattle.table_text.specs.declared.line.KindWord.TheVariants as kinds
use Rattle.table_text.specs.declared.line.LabelWord.{LabelWord}
use Rattle.table_text.specs.declared.line.LabelWord.TheVariants as labels
use Rattle.table_text.specs.declared.line.EnumNumber.{EnumNumber}
use Rattle.table_text.specs.declared.line.EnumNumber.TheVariants.{Low, Within, High}
use Rattle.table_text.specs.declared.line.TableLine.{TableLine}
use Rattle.table_text.specs.declared.line.TableLine.TheVariants.{Enum, Value, Message, Field, Method}
use Rattle.table_text.proofs.PlaceLemmas.{same_bytes}
use Rattle.table_text.proofs.TableFacts.{both, both_left, both_right}
use Rattle.table_text.proofs.ParseLemmas.{if_true, mapped, chained, either, number_is, number_of-decimal, WholeIs}
use Rattle.table_text.proofs.ParseLemmas.{whole_is, whole_of-text, ltb_tells, name_is, full_is, decimal_digits}
use Rattle.table_text.proofs.ParseLemmas.{behind_is, in_words}

-- ---- the meaning of a word

abbrev pub IsScalar : Kind → Type 0
IsScalar (OfMessage i) = ⊥
IsScalar (Choice i) = ⊥
IsScalar _ = Unit {0}

abbrev pub KindIs : List ℕ → KindWord → Type 0
KindIs w (kinds.Scalar k) = ((T : Table) → w ≡ kind_text T k) × IsScalar k
KindIs w (kinds.Message n) = (w ≡ codes "message:" ++ n) × IsTrue (is_full_form n)
KindIs w (kinds.Choice n) = (w ≡ codes "enum:" ++ n) × IsTrue (is_full_form n)

abbrev pub LabelIs : List ℕ → LabelWord → Type 0
LabelIs w labels.Plain = w ≡ codes "plain"
LabelIs w labels.Optional = w ≡ codes "optional"
LabelIs w labels.Repeated = w ≡ codes "repeated"
LabelIs w labels.Packed = w ≡ codes "packed"
LabelIs w (labels.Map k) = (v : List ℕ) × (w ≡ codes "map:" ++ v) × KindIs v k
LabelIs w (labels.Member n) = (w ≡ codes "oneof:" ++ n) × IsTrue (is_name_form n)

abbrev pub NumberIs : List ℕ → Option ℕ → Type 0
NumberIs w (Some n) = (w ≡ decimal n) × (n < 2 ^ 32)
NumberIs w None = ⊥

pub kind_is : (w : List ℕ) (k : KindWord) → kind_of w ≡ Some k → KindIs w k
kind_is w k e =
    elim (either (option_map kinds.Scalar (scalar_of w))
    (option_or (option_map kinds.Message (option_and_then full_name_of (without_prefix (codes "message:") w)))
    (option_map kinds.Choice (option_and_then full_name_of (without_prefix (codes "enum:") w)))) k e) [
      | inl scalar ↦
          let m = mapped kinds.Scalar (scalar_of w) k scalar in
          let all : AllByRecursion (λ (r : List ℕ × Kind). ((T : Table) → r.0 ≡ kind_text T r.1) × IsScalar r.1)
          scalar_names = (
            (λ T. refl, tt),
            (
              (λ T. refl, tt),
              (
                (λ T. refl, tt),
                (
                  (λ T. refl, tt),
                  (
                    (λ T. refl, tt),
                    (
                      (λ T. refl, tt),
                      (
                        (λ T. refl, tt),
                        (
                          (λ T. refl, tt),
                          (
                            (λ T. refl, tt),
                            (
                              (λ T. refl, tt),
                              (
                                (λ T. refl, tt),
                                ((λ T. refl, tt), ((λ T. refl, tt), ((λ T. refl, tt), ((λ T. refl, tt), tt)))),
                              ),
                            ),
                          ),
                        ),
                      ),
                    ),
                  ),
                ),
              ),
            ),
          ) in
          subst (KindIs w) m.2 (in_words w scalar_names m.0 m.1 (λ v j. ((T : Table) → v ≡ kind_text T j) × IsScalar j) all)
      | inr named ↦ elim
          (either (option_map kinds.Message (option_and_then full_name_of (without_prefix (codes "message:") w)))
          (option_map kinds.Choice (option_and_then full_name_of (without_prefix (codes "enum:") w))) k named.1) [
            | inl message ↦
                let m = mapped kinds.Message (option_and_then full_name_of (without_prefix (codes "message:") w)) k message in
                let n = chained full_name_of (without_prefix (codes "message:") w) m.0 m.1 in
                let full = full_is n.0 m.0 n.2 in
                subst (KindIs w) m.2 (behind_is (codes "message:") w n.0 n.1 ∙ ap (λ (t : List ℕ). codes "message:" ++ t) full.0, full.1)
            | inr other ↦
                let m = mapped kinds.Choice (option_and_then full_name_of (without_prefix (codes "enum:") w)) k other.1 in
                let n = chained full_name_of (without_prefix (codes "enum:") w) m.0 m.1 in
                let full = full_is n.0 m.0 n.2 in
                subst (KindIs w) m.2 (behind_is (codes "enum:") w n.0 n.1 ∙ ap (λ (t : List ℕ). codes "enum:" ++ t) full.0, full.1)
          ]
    ]

pub label_is : (w : List ℕ) (l : LabelWord) → label_of w ≡ Some l → LabelIs w l
label_is w l e =
    elim (either (option_map (λ e. e.1) (find (λ e. bytes_eq w e.0) label_names))
    (option_or (option_map labels.Map (option_and_then kind_of (without_prefix (codes "map:") w)))
    (option_map labels.Member (option_and_then name_of (without_prefix (codes "oneof:") w)))) l e) [
      | inl plain ↦ in_words w label_names l plain LabelIs (refl, (refl, (refl, (refl, tt))))
      | inr named ↦ elim (either (option_map labels.Map (option_and_then kind_of (without_prefix (codes "map:") w)))
          (option_map labels.Member (option_and_then name_of (without_prefix (codes "oneof:") w))) l named.1) [
            | inl map ↦
                let m = mapped labels.Map (option_and_then kind_of (without_prefix (codes "map:") w)) l map in
                let n = chained kind_of (without_prefix (codes "map:") w) m.0 m.1 in
                subst (LabelIs w) m.2 (n.0, behind_is (codes "map:") w n.0 n.1, kind_is n.0 m.0 n.2)
            | inr other ↦
                let m = mapped labels.Member (option_and_then name_of (without_prefix (codes "oneof:") w)) l other.1 in
                let n = chained name_of (without_prefix (codes "oneof:") w) m.0 m.1 in
                let name = name_is n.0 m.0 n.2 in
                subst (LabelIs w) m.2 (behind_is (codes "oneof:") w n.0 n.1 ∙ ap (λ (t : List ℕ). codes "oneof:" ++ t) name.0, name.1)
          ]
    ]

scalar_read : (k : Kind) → IsScalar k → kind_of (kind_text no_table k) ≡ Some (kinds.Scalar k)
scalar_read Int32 h = refl
scalar_read Int64 h = refl
scalar_read Uint32 h = refl
scalar_read Uint64 h = refl
scalar_read Sint32 h = refl
scalar_read Sint64 h = refl
scalar_read TheBool h = refl
scalar_read Fixed32 h = refl
scalar_read Fixed64 h = refl
scalar_read Sfixed32 h = refl
scalar_read Sfixed64 h = refl
scalar_read Float h = refl
scalar_read Double h = refl
scalar_read Text h = refl
scalar_read Octets h = refl
scalar_read (OfMessage i) h = absurd h
scalar_read (Choice i) h = absurd h

pub kind_read : (w : List ℕ) (k : KindWord) → KindIs w k → kind_of w ≡ Some k
kind_read w (kinds.Scalar k) h = ap kind_of (h.0 no_table) ∙ scalar_read k h.1
kind_read w (kinds.Message n) h = let form = h.1 in ap kind_of h.0 ∙ rw form refl
kind_read w (kinds.Choice n) h = let form = h.1 in ap kind_of h.0 ∙ rw form refl

pub label_read : (w : List ℕ) (l : LabelWord) → LabelIs w l → label_of w ≡ Some l
label_read w labels.Plain h = ap label_of h
label_read w labels.Optional h = ap label_of h
label_read w labels.Repeated h = ap label_of h
label_read w labels.Packed h = ap label_of h
label_read w (labels.Map k) h = let kind = kind_read h.0 k h.2 in ap label_of h.1 ∙ rw kind refl
label_read w (labels.Member n) h = let form = h.1 in ap label_of h.0 ∙ rw form refl

pub in_32_is : (w : List ℕ) (n m : ℕ) → number_of w ≡ Some n → in_32_bits n ≡ Some m → NumberIs w (Some m)
in_32_is w n m e f =
    let h = if_true (nat_lt n (2 ^ 32)) n m f in
    elim (ltb_tells n (2 ^ 32)) [
      | inl lt ↦ (number_is w n e (omega (arith, lt.1)) ∙ ap decimal h.1, omega (arith, lt.1, h.1))
      | inr ge ↦ let clash : true ≡ false = sym h.0 ∙ ge.0 in absurd cc
    ]

pub number_read : (w : List ℕ) (m : ℕ) → NumberIs w (Some m) → (number_of w ≡ Some m) × (in_32_bits m ≡ Some m)
number_read w m h =
    let lt : nat_lt m (2 ^ 32) ≡ true = lt-ltb m (2 ^ 32) h.1 in
    (ap number_of h.0 ∙ number_of-decimal m (omega (arith, h.1)), rw lt refl)

-- ---- the meaning of a line

-- a line of these words, in which each number is in its range
abbrev pub LineIs : List (List ℕ) → TableLine → Type 0
LineIs ws (Enum n) = (ws ≡ codes "enum" ∷ n ∷ []) × IsTrue (is_full_form n)
LineIs ws (Value z n) = (w : List ℕ) × (ws ≡ codes "value" ∷ w ∷ n ∷ []) × WholeIs w z × IsTrue (is_name_form n)
LineIs ws (Message n) = (ws ≡ codes "message" ∷ n ∷ []) × IsTrue (is_full_form n)
LineIs ws (Field f) = (n : List ℕ) × (l : List ℕ) × (k : List ℕ) × (ws ≡ codes "field" ∷ n ∷ l ∷ k ∷ f.name ∷ [])
    × NumberIs n f.number × LabelIs l f.label × KindIs k f.kind × IsTrue (is_name_form f.name)
LineIs ws (Method m) = (i : List ℕ) × (ws ≡ codes "method" ∷ i ∷ m.service ∷ m.name ∷ m.input ∷ m.output ∷ [])
    × NumberIs i m.index × IsTrue (is_full_form m.service) × IsTrue (is_name_form m.name)
    × IsTrue (is_full_form m.input) × IsTrue (is_full_form m.output)

abbrev pub InRange : TableLine → Type 0
InRange (Value z n) = is_enum_number z ≡ true
InRange (Field f) = is_some f.number ≡ true
InRange (Method m) = is_some m.index ≡ true
InRange _ = Unit {0}

enum_is : (ws : List (List ℕ)) (l : TableLine) → enum_line_of ws ≡ Some l → LineIs (codes "enum" ∷ ws) l
enum_is [] l e = absurd cc
enum_is (n ∷ []) l e =
    let m = mapped Enum (full_name_of n) l e in
    let full = full_is n m.0 m.1 in
    subst (LineIs (codes "enum" ∷ n ∷ [])) m.2 (ap (λ (t : List ℕ). codes "enum" ∷ t ∷ []) full.0, full.1)
enum_is (n ∷ m ∷ ws) l e = absurd cc

message_is : (ws : List (List ℕ)) (l : TableLine) → message_line_of ws ≡ Some l → LineIs (codes "message" ∷ ws) l
message_is [] l e = absurd cc
message_is (n ∷ []) l e =
    let m = mapped Message (full_name_of n) l e in
    let full = full_is n m.0 m.1 in
    subst (LineIs (codes "message" ∷ n ∷ [])) m.2 (ap (λ (t : List ℕ). codes "message" ∷ t ∷ []) full.0, full.1)
message_is (n ∷ m ∷ ws) l e = absurd cc

whole_within : (w : List ℕ) (z : EnumNumber) → enum_number_of w ≡ Some z → is_enum_number z ≡ true → WholeIs w z
whole_within w (Within z) e h = whole_is w z e
whole_within w Low e h = absurd cc
whole_within w High e h = absurd cc

value_is : (ws : List (List ℕ)) (l : TableLine) → value_line_of ws ≡ Some l → InRange l → LineIs (codes "value" ∷ ws) l
value_is [] l e range = absurd cc
value_is (w ∷ []) l e range = absurd cc
value_is (w ∷ n ∷ []) l e range =
    let z = chained (λ z. option_map (λ n. Value z n) (name_of n)) (enum_number_of w) l e in
    let m = mapped (Value z.0) (name_of n) l z.2 in
    let name = name_is n m.0 m.1 in
    let within : is_enum_number z.0 ≡ true = subst InRange (sym m.2) range in
    subst (LineIs (codes "value" ∷ w ∷ n ∷ [])) m.2 (w, ap (λ (t : List ℕ). codes "value" ∷ w ∷ t ∷ []) name.0, whole_within w z.0 z.1 within, name.1)
value_is (w ∷ n ∷ m ∷ ws) l e range = absurd cc

number_within : (w : List ℕ) (n : ℕ) (o : Option ℕ) → number_of w ≡ Some n → in_32_bits n ≡ o → is_some o ≡ true → NumberIs w o
number_within w n None e f h = absurd cc
number_within w n (Some m) e f h = in_32_is w n m e f

field_is : (ws : List (List ℕ)) (l : TableLine) → field_line_of ws ≡ Some l → InRange l → LineIs (codes "field" ∷ ws) l
field_is [] l e range = absurd cc
field_is (w ∷ []) l e range = absurd cc
field_is (w ∷ lw ∷ []) l e range = absurd cc
field_is (w ∷ lw ∷ kw ∷ []) l e range = absurd cc
field_is (w ∷ lw ∷ kw ∷ nw ∷ []) l e range =
    let n = chained (λ n.
    option_and_then (λ l.
    option_and_then (λ k.
    option_map (λ m. Field (record { number = in_32_bits n; label = l; kind = k; name = m })) (name_of nw))
    (kind_of kw)) (label_of lw)) (number_of w) l e in
    let label = chained
    (λ l. option_and_then
    (λ k. option_map (λ m. Field (record { number = in_32_bits n.0; label = l; kind = k; name = m }))
    (name_of nw)) (kind_of kw)) (label_of lw) l n.2 in
    let kind = chained (λ k. option_map (λ m. Field (record { number = in_32_bits n.0; label = label.0; kind = k; name = m })) (name_of nw)) (kind_of kw) l label.2 in
    let m = mapped (λ m. Field (record { number = in_32_bits n.0; label = label.0; kind = kind.0; name = m })) (name_of nw) l kind.2 in
    let name = name_is nw m.0 m.1 in
    let some : is_some (in_32_bits n.0) ≡ true = subst InRange (sym m.2) range in
    subst (LineIs (codes "field" ∷ w ∷ lw ∷ kw ∷ nw ∷ [])) m.2 (
      w,
      lw,
      kw,
      ap (λ (t : List ℕ). codes "field" ∷ w ∷ lw ∷ kw ∷ t ∷ []) name.0,
      number_within w n.0 (in_32_bits n.0) n.1 refl some,
      label_is lw label.0 label.1,
      kind_is kw kind.0 kind.1,
      name.1,
    )
field_is (w ∷ lw ∷ kw ∷ nw ∷ x ∷ ws) l e range = absurd cc

method_is : (ws : List (List ℕ)) (l : TableLine) → method_line_of ws ≡ Some l → InRange l → LineIs (codes "method" ∷ ws) l
method_is [] l e range = absurd cc
method_is (iw ∷ []) l e range = absurd cc
method_is (iw ∷ sw ∷ []) l e range = absurd cc
method_is (iw ∷ sw ∷ nw ∷ []) l e range = absurd cc
method_is (iw ∷ sw ∷ nw ∷ aw ∷ []) l e range = absurd cc
method_is (iw ∷ sw ∷ nw ∷ aw ∷ bw ∷ []) l e range =
    let i = chained (λ i.
    option_and_then (λ s.
    option_and_then (λ n.
    option_and_then (λ a.
    option_map (λ b. Method (record { index = in_32_bits i; service = s; name = n; input = a; output = b }))
    (full_name_of bw)) (full_name_of aw)) (name_of nw)) (full_name_of sw)) (number_of iw) l e in
    let s = chained (λ s.
    option_and_then (λ n.
    option_and_then (λ a.
    option_map (λ b. Method (record { index = in_32_bits i.0; service = s; name = n; input = a; output = b }))
    (full_name_of bw)) (full_name_of aw)) (name_of nw)) (full_name_of sw) l i.2 in
    let n = chained (λ n.
    option_and_then (λ a.
    option_map (λ b. Method (record { index = in_32_bits i.0; service = s.0; name = n; input = a; output = b }))
    (full_name_of bw)) (full_name_of aw)) (name_of nw) l s.2 in
    let a = chained (λ a. option_map (λ b. Method (record { index = in_32_bits i.0; service = s.0; name = n.0; input = a; output = b })) (full_name_of bw)) (full_name_of aw) l n.2 in
    let b = mapped (λ b. Method (record { index = in_32_bits i.0; service = s.0; name = n.0; input = a.0; output = b })) (full_name_of bw) l a.2 in
    let service = full_is sw s.0 s.1 in
    let name = name_is nw n.0 n.1 in
    let input = full_is aw a.0 a.1 in
    let output = full_is bw b.0 b.1 in
    let some : is_some (in_32_bits i.0) ≡ true = subst InRange (sym b.2) range in
    subst (LineIs (codes "method" ∷ iw ∷ sw ∷ nw ∷ aw ∷ bw ∷ [])) b.2 (
      iw,
      cc (service.0, name.0, input.0, output.0),
      number_within iw i.0 (in_32_bits i.0) i.1 refl some,
      service.1,
      name.1,
      input.1,
      output.1,
    )
method_is (iw ∷ sw ∷ nw ∷ aw ∷ bw ∷ x ∷ ws) l e range = absurd cc

first_is : (w : List ℕ) (text : List ℕ) (ws : List (List ℕ)) (l : TableLine) → bytes_eq w text ≡ true → LineIs (text ∷ ws) l → LineIs (w ∷ ws) l
first_is w text ws l e h = subst (λ (v : List ℕ). LineIs (v ∷ ws) l) (sym (same_bytes w text e)) h

pub chosen : {X : Type 0} (b : Bool) (x y z : X) → cond b x y ≡ z → ((b ≡ true) × (x ≡ z)) ⊎ (y ≡ z)
chosen true x y z e = inl (refl, e)
chosen false x y z e = inr e

words_are : (ws : List (List ℕ)) (l : TableLine) → line_of_words ws ≡ Some l → InRange l → LineIs ws l
words_are [] l e range = absurd cc
words_are (w ∷ ws) l e range =
    let rest4 = cond (bytes_eq w (codes "method")) (method_line_of ws) None in
    let rest3 = cond (bytes_eq w (codes "field")) (field_line_of ws) rest4 in
    let rest2 = cond (bytes_eq w (codes "message")) (message_line_of ws) rest3 in
    let rest1 = cond (bytes_eq w (codes "value")) (value_line_of ws) rest2 in
    elim (chosen (bytes_eq w (codes "enum")) (enum_line_of ws) rest1 (Some l) e) [
      | inl h ↦ first_is w (codes "enum") ws l h.0 (enum_is ws l h.1)
      | inr e1 ↦ elim (chosen (bytes_eq w (codes "value")) (value_line_of ws) rest2 (Some l) e1) [
        | inl h ↦ first_is w (codes "value") ws l h.0 (value_is ws l h.1 range)
        | inr e2 ↦ elim (chosen (bytes_eq w (codes "message")) (message_line_of ws) rest3 (Some l) e2) [
          | inl h ↦ first_is w (codes "message") ws l h.0 (message_is ws l h.1)
          | inr e3 ↦ elim (chosen (bytes_eq w (codes "field")) (field_line_of ws) rest4 (Some l) e3) [
            | inl h ↦ first_is w (codes "field") ws l h.0 (field_is ws l h.1 range)
            | inr e4 ↦ elim (chosen (bytes_eq w (codes "method")) (method_line_of ws) None (Some l) e4) [
              | inl h ↦ first_is w (codes "method") ws l h.0 (method_is ws l h.1 range)
              | inr e5 ↦ absurd cc
            ]
          ]
        ]
      ]
    ]

-- a line that is read has these words
pub line_is : (text : List ℕ) (l : TableLine) → line_of text ≡ Some l → InRange l → LineIs (words_of text) l
unfolding line_of
line_is text l e range = words_are (words_of text) l e range

pub text_is : (text : List ℕ) → text ≡ spaced (words_of text)
text_is text = sym (join_with_byte-slice_split 32 text)

number_any : (w : List ℕ) (o : Option ℕ) → NumberIs w o → (n : ℕ) × (number_of w ≡ Some n) × (in_32_bits n ≡ o)
number_any w (Some m) h = let r = number_read w m h in (m, r.0, r.1)
number_any w None h = absurd h

-- a line of these words is read
words_read : (ws : List (List ℕ)) (l : TableLine) → LineIs ws l → line_of_words ws ≡ Some l
words_read ws (Enum n) h = let form = h.1 in ap line_of_words h.0 ∙ rw form refl
words_read ws (Value (Within z) n) h =
    let form = h.3 in
    let whole : enum_number_of h.0 ≡ Some (Within z) = ap enum_number_of h.2.0 ∙ whole_of-text z h.2.1 in
    ap line_of_words h.1 ∙ rw (whole, form) refl
words_read ws (Value Low n) h = absurd h.2
words_read ws (Value High n) h = absurd h.2
words_read ws (Message n) h = let form = h.1 in ap line_of_words h.0 ∙ rw form refl
words_read ws (Field f) h =
    let number = number_any h.0 f.number h.4 in
    let label = label_read h.1 f.label h.5 in
    let kind = kind_read h.2 f.kind h.6 in
    let form = h.7 in
    ap line_of_words h.3 ∙ rw (number.1, label, kind, form) (ap (λ (o : Option ℕ). Some (Field (record { number = o; label = f.label; kind = f.kind; name = f.name }))) number.2)
words_read ws (Method m) h =
    let number = number_any h.0 m.index h.2 in
    let service = h.3 in
    let name = h.4 in
    let input = h.5 in
    let output = h.6 in
    ap line_of_words h.1 ∙ rw (number.1, service, name, input, output)
    (ap (λ (o : Option ℕ).
    Some (Method (record { index = o; service = m.service; name = m.name; input = m.input; output = m.output })))
    number.2)

-- ---- no word has a byte up to the space

abbrev pub dark : List ℕ → Bool
dark w = list_all (λ c. nat_lt 32 c) w

abbrev pub AllDark : List (List ℕ) → Type 0
AllDark ws = AllByRecursion (λ w. dark w ≡ true) ws

pub all-append : {X : Type 0} (p : X → Bool) (xs ys : List X) → list_all p xs ≡ true → list_all p ys ≡ true → list_all p (xs ++ ys) ≡ true
all-append p [] ys e f = f
all-append p (x ∷ xs) ys e f = both (p x) (list_all p (xs ++ ys)) (both_left (p x) (list_all p xs) e) (all-append p xs ys (both_right (p x) (list_all p xs) e) f)

weaker : {X : Type 0} (p q : X → Bool) (xs : List X) → ((x : X) → p x ≡ true → q x ≡ true) → list_all p xs ≡ true → list_all q xs ≡ true
weaker p q [] h e = refl
weaker p q (x ∷ xs) h e = both (q x) (list_all q xs) (h x (both_left (p x) (list_all p xs) e)) (weaker p q xs h (both_right (p x) (list_all p xs) e))

name_byte_dark : (c : ℕ) → is_name_byte c ≡ true → nat_lt 32 c ≡ true
name_byte_dark c e = grind (arith, common_steps)

start_is_byte : (c : ℕ) → is_name_start c ≡ true → is_name_byte c ≡ true
start_is_byte c e = rw e refl

name_bytes : (n : List ℕ) → is_name_form n ≡ true → list_all is_name_byte n ≡ true
name_bytes [] e = absurd cc
name_bytes (c ∷ cs) e =
    both (is_name_byte c) (list_all is_name_byte cs)
    (start_is_byte c (both_left (is_name_start c) (list_all is_name_byte cs) e))
    (both_right (is_name_start c) (list_all is_name_byte cs) e)

pub name_dark : (n : List ℕ) → IsTrue (is_name_form n) → dark n ≡ true
name_dark n form = weaker is_name_byte (λ c. nat_lt 32 c) n name_byte_dark (name_bytes n form)

onto_all : (p : ℕ → Bool) (c : ℕ) (ps : List (List ℕ)) → list_all (λ w. list_all p w) (onto_first c ps) ≡ true → (p c ≡ true) × (list_all (λ w. list_all p w) ps ≡ true)
onto_all p c [] e = (both_left (p c) true (both_left (p c && true) true e), refl)
onto_all p c (q ∷ ps) e =
    let first = both_left (p c && list_all p q) (list_all (λ w. list_all p w) ps) e in (
      both_left (p c) (list_all p q) first,
      both (list_all p q) (list_all (λ w. list_all p w) ps) (both_right (p c) (list_all p q) first)
          (both_right (p c && list_all p q) (list_all (λ w. list_all p w) ps) e),
    )

-- what holds of each byte of each part, and of a dot, holds of each byte
parts_all : (p : ℕ → Bool) (n : List ℕ) → p 46 ≡ true → list_all (λ w. list_all p w) (slice_split (λ c. c == 46) n) ≡ true → list_all p n ≡ true
parts_all p [] dot e = refl
parts_all p (c ∷ cs) dot e =
    elim (c == 46) as (λ (b : Bool). (c == 46) ≡ b
    → list_all (λ w. list_all p w)
    (cond b ([] ∷ slice_split (λ c. c == 46) cs) (onto_first c (slice_split (λ c. c == 46) cs))) ≡ true
    → list_all p (c ∷ cs) ≡ true) [
      | true ↦ λ is f. both (p c) (list_all p cs) (ap p (eqb-true c 46 is) ∙ dot) (parts_all p cs dot f)
      | false ↦ λ is f. let g = onto_all p c (slice_split (λ c. c == 46) cs) f in both (p c) (list_all p cs) g.0 (parts_all p cs dot g.1)
    ] refl e

pub full_dark : (n : List ℕ) → IsTrue (is_full_form n) → dark n ≡ true
full_dark n form = parts_all (λ c. nat_lt 32 c) n refl (weaker is_name_form (λ w. dark w) (parts_of n) name_dark form)

digit_dark : (c : ℕ) → is_ascii_digit c ≡ true → nat_lt 32 c ≡ true
digit_dark c e = grind (arith, common_steps)

decimal_dark : (n : ℕ) → n < 2 ^ 64 → dark (decimal n) ≡ true
decimal_dark n small = weaker is_ascii_digit (λ c. nat_lt 32 c) (decimal n) digit_dark (decimal_digits n small)

number_dark : (w : List ℕ) (o : Option ℕ) → NumberIs w o → dark w ≡ true
number_dark w (Some n) h = ap dark h.0 ∙ decimal_dark n (omega (arith, h.1))
number_dark w None h = absurd h

signed_dark : (z : ℤ) → FitsSigned w32 z → dark (signed_decimal z) ≡ true
signed_dark (pos n) fits = decimal_dark n (omega (arith, ints, fits))
signed_dark (negsuc n) fits = decimal_dark (suc n) (omega (arith, ints, fits))

whole_dark : (w : List ℕ) (z : EnumNumber) → WholeIs w z → dark w ≡ true
whole_dark w (Within z) h = ap dark h.0 ∙ signed_dark z h.1
whole_dark w Low h = absurd h
whole_dark w High h = absurd h

scalar_dark : (k : Kind) → IsScalar k → dark (kind_text no_table k) ≡ true
scalar_dark Int32 h = refl
scalar_dark Int64 h = refl
scalar_dark Uint32 h = refl
scalar_dark Uint64 h = refl
scalar_dark Sint32 h = refl
scalar_dark Sint64 h = refl
scalar_dark TheBool h = refl
scalar_dark Fixed32 h = refl
scalar_dark Fixed64 h = refl
scalar_dark Sfixed32 h = refl
scalar_dark Sfixed64 h = refl
scalar_dark Float h = refl
scalar_dark Double h = refl
scalar_dark Text h = refl
scalar_dark Octets h = refl
scalar_dark (OfMessage i) h = absurd h
scalar_dark (Choice i) h = absurd h

kind_dark : (w : List ℕ) (k : KindWord) → KindIs w k → dark w ≡ true
kind_dark w (kinds.Scalar k) h = ap dark (h.0 no_table) ∙ scalar_dark k h.1
kind_dark w (kinds.Message n) h = ap dark h.0 ∙ all-append (λ c. nat_lt 32 c) (codes "message:") n refl (full_dark n h.1)
kind_dark w (kinds.Choice n) h = ap dark h.0 ∙ all-append (λ c. nat_lt 32 c) (codes "enum:") n refl (full_dark n h.1)

label_dark : (w : List ℕ) (l : LabelWord) → LabelIs w l → dark w ≡ true
label_dark w labels.Plain h = ap dark h
label_dark w labels.Optional h = ap dark h
label_dark w labels.Repeated h = ap dark h
label_dark w labels.Packed h = ap dark h
label_dark w (labels.Map k) h = ap dark h.1 ∙ all-append (λ c. nat_lt 32 c) (codes "map:") h.0 refl (kind_dark h.0 k h.2)
label_dark w (labels.Member n) h = ap dark h.0 ∙ all-append (λ c. nat_lt 32 c) (codes "oneof:") n refl (name_dark n h.1)

pub words_dark : (ws : List (List ℕ)) (l : TableLine) → LineIs ws l → AllDark ws
words_dark ws (Enum n) h = subst AllDark (sym h.0) (refl, (full_dark n h.1, tt))
words_dark ws (Value z n) h = subst AllDark (sym h.1) (refl, (whole_dark h.0 z h.2, (name_dark n h.3, tt)))
words_dark ws (Message n) h = subst AllDark (sym h.0) (refl, (full_dark n h.1, tt))
words_dark ws (Field f) h = subst AllDark (sym h.3) (refl, (number_dark h.0 f.number h.4, (label_dark h.1 f.label h.5, (kind_dark h.2 f.kind h.6, (name_dark f.name h.7, tt)))))
words_dark ws (Method m) h =
    subst AllDark (sym h.1) (
      refl,
      (
        number_dark h.0 m.index h.2,
        (full_dark m.service h.3, (name_dark m.name h.4, (full_dark m.input h.5, (full_dark m.output h.6, tt)))),
      ),
    )

-- ---- words and lines, split and joined

pub split_dark : (sep : ℕ) (w rest : List ℕ) → sep ≤ 32 → dark w ≡ true → slice_split (λ c. c == sep) (w ++ sep ∷ rest) ≡ w ∷ slice_split (λ c. c == sep) rest
split_dark sep [] rest low e = let self : (sep == sep) ≡ true = eq-eqb sep sep refl in rw self refl
split_dark sep (c ∷ cs) rest low e =
    let above : 32 < c = ltb-true 32 c (both_left (nat_lt 32 c) (dark cs) e) in
    let other : (c == sep) ≡ false = ne_eqb c sep (omega arith) in
    let more = split_dark sep cs rest low (both_right (nat_lt 32 c) (dark cs) e) in
    rw (other, more) refl

pub split_last : (sep : ℕ) (w : List ℕ) → sep ≤ 32 → dark w ≡ true → slice_split (λ c. c == sep) w ≡ w ∷ []
split_last sep [] low e = refl
split_last sep (c ∷ cs) low e =
    let above : 32 < c = ltb-true 32 c (both_left (nat_lt 32 c) (dark cs) e) in
    let other : (c == sep) ≡ false = ne_eqb c sep (omega arith) in
    let more = split_last sep cs low (both_right (nat_lt 32 c) (dark cs) e) in
    rw (other, more) refl

pub spaced_words : (w : List ℕ) (ws : List (List ℕ)) → AllDark (w ∷ ws) → words_of (spaced (w ∷ ws)) ≡ w ∷ ws
spaced_words w [] h = split_last 32 w (omega arith) h.0
spaced_words w (v ∷ ws) h = split_dark 32 w (spaced (v ∷ ws)) (omega arith) h.0 ∙ ap (λ vs. w ∷ vs) (spaced_words v ws h.1)

pub words_of-spaced : (ws : List (List ℕ)) → ws ≢ [] → AllDark ws → words_of (spaced ws) ≡ ws
words_of-spaced [] some h = absurd (some refl)
words_of-spaced (w ∷ ws) some h = spaced_words w ws h

pub some_words : (ws : List (List ℕ)) (l : TableLine) → LineIs ws l → ws ≢ []
some_words ws (Enum n) h e = let clash = sym h.0 ∙ e in cc
some_words ws (Value z n) h e = let clash = sym h.1 ∙ e in cc
some_words ws (Message n) h e = let clash = sym h.0 ∙ e in cc
some_words ws (Field f) h e = let clash = sym h.3 ∙ e in cc
some_words ws (Method m) h e = let clash = sym h.1 ∙ e in cc

-- a line of this spelling is parsed
pub line_read : (ws : List (List ℕ)) (l : TableLine) → LineIs ws l → line_of (spaced ws) ≡ Some l
unfolding line_of
line_read ws l h = ap line_of_words (words_of-spaced ws (some_words ws l h) (words_dark ws l h)) ∙ words_read ws l h
