-- The text of a draft, one line after another.
use Rattle.std.proofs.Common.{◌≡◌, ℕ, zero, suc, ℤ, ◌+◌, ◌-◌, ◌^◌, min, ◌<◌, ◌≤◌, Bool, true, false, cond, List, []}
use Rattle.std.proofs.Common.{◌∷◌, ◌++◌, codes, length, Option, Some, None, refl, ap, sym, ◌∙◌, append_assoc, arith}
use Rattle.std.proofs.Common.{zero-add}
use Rattle.std.specs.Prelude.{slice_get, unwrap_or}
use Rattle.std.specs.List.{flat_map, enumerate_from, AllByRecursion}
use Rattle.std.specs.Fmt.{decimal, signed_decimal}
use Rattle.std.proofs.lemmas.List.{append-nil}
use Rattle.std.proofs.lemmas.List.Concat.{flat_map-append}
use Rattle.mrpc_table.specs.Text.{line, kind_text, label_text, value_line, enum_lines, field_line, message_lines, method_line}
use Rattle.table_text.specs.LineTests.{TypeNames, is_among, is_unknown_kind, is_unknown_label}
use Rattle.table_text.specs.NameIndex.{index_or_next, capped_index}
use Rattle.table_text.specs.Drafts.{resolved, labeled, new_oneof, joined_with, resolved_field, with_enum, with_message, with_field_line, with_part, table_of_draft, added_enum, added_message}
use Rattle.mrpc_table.specs.declared.table.Label.{Label}
use Rattle.mrpc_table.specs.declared.table.Label.TheVariants.{Plain, Optional, Repeated, Packed, Map, Member}
use Rattle.mrpc_table.specs.declared.table.Field.{Field as TheField}
use Rattle.mrpc_table.specs.declared.table.Message.{Message as TheMessage}
use Rattle.mrpc_table.specs.declared.table.Choices.{Choices}
use Rattle.mrpc_table.specs.declared.table.Method.{Method as TheMethod}
use Rattle.mrpc_table.specs.declared.table.Table.{Table}
use Rattle.table_text.specs.declared.line.KindWord.{KindWord}
use Rattle.table_text.specs.declared.line.KindWord.TheVariants as kinds
use Rattle.table_text.specs.declared.line.LabelWord.{LabelWord}
use Rattle.table_text.specs.declared.line.LabelWord.TheVariants as labels
use Rattle.table_text.specs.declared.line.FieldLine.{FieldLine}
use Rattle.table_text.specs.declared.draft.OpenPart.TheVariants as open_parts
use Rattle.table_text.specs.declared.draft.TableDraft.{TableDraft}
use Rattle.table_text.proofs.ListLemmas.{enumerate-push}
use Rattle.table_text.proofs.Clean.{names_table, place_known, place_new, message_named, enum_named, not_no}
use Rattle.table_text.proofs.SpellLemmas.{KindIs, LabelIs}

-- the text of a table with the names of another
abbrev pub text_by : Table → Table → List ℕ
text_by N T = flat_map enum_lines T.enums ++ flat_map (message_lines N) T.messages ++ flat_map (method_line N) (enumerate_from 0 T.methods)

pub flat_push : {X : Type 0} (f : X → List ℕ) (xs : List X) (x : X) → flat_map f (xs ++ x ∷ []) ≡ flat_map f xs ++ f x
flat_push f xs x = flat_map-append f xs (x ∷ []) ∙ ap (λ (ys : List ℕ). flat_map f xs ++ ys) (append-nil (f x))

-- the last part grows at its end
at_first : (E E' M K l : List ℕ) → M ≡ [] → K ≡ [] → E' ≡ E ++ l → (E' ++ M) ++ K ≡ ((E ++ M) ++ K) ++ l
at_first E E' M K l m k e = rw (m, k, e) (append-nil (E ++ l ++ []) ∙ append-nil (E ++ l) ∙ ap (λ (x : List ℕ). x ++ l) (sym (append-nil (E ++ []) ∙ append-nil E)))

at_second : (E M M' K l : List ℕ) → K ≡ [] → M' ≡ M ++ l → (E ++ M') ++ K ≡ ((E ++ M) ++ K) ++ l
at_second E M M' K l k m = rw (k, m) (append-nil (E ++ (M ++ l)) ∙ sym (append_assoc E M l) ∙ ap (λ (x : List ℕ). x ++ l) (sym (append-nil (E ++ M))))

at_third : (E M K K' l : List ℕ) → K' ≡ K ++ l → (E ++ M) ++ K' ≡ ((E ++ M) ++ K) ++ l
at_third E M K K' l k = rw k (sym (append_assoc (E ++ M) K l))

no_methods : (N : Table) (ms : List TheMethod) → ms ≡ [] → flat_map (method_line N) (enumerate_from 0 ms) ≡ []
no_methods N ms e = rw e refl

no_messages : (N : Table) (ms : List TheMessage) → ms ≡ [] → flat_map (message_lines N) ms ≡ []
no_messages N ms e = rw e refl

pub text_enum : (N : Table) (d : TableDraft) (n : List ℕ) → with_message d.open_part d.messages ≡ [] → d.methods ≡ []
    → text_by N (table_of_draft (added_enum d n)) ≡ text_by N (table_of_draft d) ++ line (codes "enum" ∷ n ∷ [])
text_enum N d n ms ks =
    let es = with_enum d.open_part d.enums in
    let last : enum_lines (record { name = n; values = [] }) ≡ line (codes "enum" ∷ n ∷ []) = append-nil (line (codes "enum" ∷ n ∷ [])) in
    at_first (flat_map enum_lines es) (flat_map enum_lines (es ++ (record { name = n; values = [] }) ∷ []))
    (flat_map (message_lines N) (with_message d.open_part d.messages))
    (flat_map (method_line N) (enumerate_from 0 d.methods)) (line (codes "enum" ∷ n ∷ []))
    (no_messages N (with_message d.open_part d.messages) ms) (no_methods N d.methods ks)
    (flat_push enum_lines es (record { name = n; values = [] })
    ∙ ap (λ (l : List ℕ). flat_map enum_lines es ++ l) last)

pub text_message : (N : Table) (d : TableDraft) (n : List ℕ) → d.methods ≡ [] → text_by N (table_of_draft (added_message d n)) ≡ text_by N (table_of_draft d) ++ line (codes "message" ∷ n ∷ [])
text_message N d n ks =
    let ms = with_message d.open_part d.messages in
    let m : TheMessage = (record { name = n; fields = []; oneofs = [] }) in
    let last : message_lines N m ≡ line (codes "message" ∷ n ∷ []) = append-nil (line (codes "message" ∷ n ∷ [])) in
    at_second (flat_map enum_lines (with_enum d.open_part d.enums)) (flat_map (message_lines N) ms)
    (flat_map (message_lines N) (ms ++ m ∷ [])) (flat_map (method_line N) (enumerate_from 0 d.methods))
    (line (codes "message" ∷ n ∷ []))
    (no_methods N d.methods ks) (flat_push (message_lines N) ms m ∙ ap (λ (l : List ℕ). flat_map (message_lines N) ms ++ l) last)

enum_more : (c : Choices) (v : ℤ × List ℕ) → enum_lines (record { name = c.name; values = c.values ++ v ∷ [] }) ≡ enum_lines c ++ value_line v
enum_more c v = ap (λ (x : List ℕ). line (codes "enum" ∷ c.name ∷ []) ++ x) (flat_push value_line c.values v)
    ∙ sym (append_assoc (line (codes "enum" ∷ c.name ∷ [])) (flat_map value_line c.values) (value_line v))

pub text_value : (N : Table) (d : TableDraft) (c : Choices) (z : ℤ) (n : List ℕ) → d.messages ≡ [] → d.methods ≡ []
    → text_by N (table_of_draft
    (with_part d (open_parts.Enum (record { name = c.name; values = c.values ++ (z, n) ∷ [] }))))
    ≡ text_by N (table_of_draft (with_part d (open_parts.Enum c))) ++ line (codes "value" ∷ signed_decimal z ∷ n ∷ [])
text_value N d c z n ms ks =
    let c' : Choices = (record { name = c.name; values = c.values ++ (z, n) ∷ [] }) in
    at_first (flat_map enum_lines (d.enums ++ c ∷ [])) (flat_map enum_lines (d.enums ++ c' ∷ []))
    (flat_map (message_lines N) d.messages) (flat_map (method_line N) (enumerate_from 0 d.methods))
    (value_line (z, n))
    (no_messages N d.messages ms) (no_methods N d.methods ks)
    (flat_push enum_lines d.enums c' ∙ ap (λ (l : List ℕ). flat_map enum_lines d.enums ++ l) (enum_more c (z, n))
    ∙ sym (append_assoc (flat_map enum_lines d.enums) (enum_lines c) (value_line (z, n)))
    ∙ ap (λ (x : List ℕ). x ++ value_line (z, n)) (sym (flat_push enum_lines d.enums c)))

pub text_method : (N : Table) (d : TableDraft) (m : TheMethod)
    → text_by N (table_of_draft (record {
      enums = with_enum d.open_part d.enums;
      messages = with_message d.open_part d.messages;
      methods = d.methods ++ m ∷ [];
      open_part = open_parts.Nothing;
    }))
    ≡ text_by N (table_of_draft d) ++ method_line N (length d.methods, m)
text_method N d m =
    at_third (flat_map enum_lines (with_enum d.open_part d.enums))
    (flat_map (message_lines N) (with_message d.open_part d.messages))
    (flat_map (method_line N) (enumerate_from 0 d.methods))
    (flat_map (method_line N) (enumerate_from 0 (d.methods ++ m ∷ []))) (method_line N (length d.methods, m))
    (ap (flat_map (method_line N)) (enumerate-push 0 d.methods m)
    ∙ flat_push (method_line N) (enumerate_from 0 d.methods) (0 + length d.methods, m)
    ∙ ap (λ (k : ℕ). flat_map (method_line N) (enumerate_from 0 d.methods) ++ method_line N (k, m))
    (zero-add (length d.methods)))

-- ---- fields: kinds by their indices, and oneofs that grow

abbrev pub LabelPlaced : ℕ → Label → Type 0
LabelPlaced n (Member o) = o < n
LabelPlaced n _ = Unit {0}

pub record IsSmall (t : TypeNames) : Type 0 where
  pub enums : length t.enums ≤ 65536
  pub messages : length t.messages ≤ 65536

pub kind_placed : (t : TypeNames) (w : List ℕ) (k : KindWord) → IsSmall t → KindIs w k → is_unknown_kind t k ≡ false → kind_text (names_table t) (resolved t k) ≡ w
kind_placed t w (kinds.Scalar k) small h known = sym (h.0 (names_table t))
kind_placed t w (kinds.Message n) small h known =
    let p = place_known n t.messages small.messages (not_no (is_among n t.messages) known) in
    ap (λ (x : List ℕ). codes "message:" ++ x) (message_named t (index_or_next n t.messages) n p.1) ∙ sym h.0
kind_placed t w (kinds.Choice n) small h known =
    let p = place_known n t.enums small.enums (not_no (is_among n t.enums) known) in
    ap (λ (x : List ℕ). codes "enum:" ++ x) (enum_named t (index_or_next n t.enums) n p.1) ∙ sym h.0

get_front : {X : Type 0} (xs ys : List X) (i : ℕ) → i < length xs → slice_get (xs ++ ys) i ≡ slice_get xs i
get_front [] ys i within = absurd (omega arith)
get_front (x ∷ xs) ys zero within = refl
get_front (x ∷ xs) ys (suc i) within = get_front xs ys i (omega arith)

pub get_last : {X : Type 0} (xs : List X) (x : X) → slice_get (xs ++ x ∷ []) (length xs) ≡ Some x
get_last [] x = refl
get_last (y ∷ ys) x = get_last ys x

label_kept : (N : Table) (oneofs more : List (List ℕ)) (l : Label) → LabelPlaced (length oneofs) l → label_text N (oneofs ++ more) l ≡ label_text N oneofs l
label_kept N oneofs more Plain h = refl
label_kept N oneofs more Optional h = refl
label_kept N oneofs more Repeated h = refl
label_kept N oneofs more Packed h = refl
label_kept N oneofs more (Map k) h = refl
label_kept N oneofs more (Member o) h = ap (λ (x : Option (List ℕ)). codes "oneof:" ++ unwrap_or x []) (get_front oneofs more o h)

fields_kept : (N : Table) (oneofs more : List (List ℕ)) (fs : List TheField)
    → AllByRecursion (λ f. LabelPlaced (length oneofs) f.label) fs
    → flat_map (field_line N (oneofs ++ more)) fs ≡ flat_map (field_line N oneofs) fs
fields_kept N oneofs more [] h = refl
fields_kept N oneofs more (f ∷ fs) h =
    let label = label_kept N oneofs more f.label h.0 in
    let rest = fields_kept N oneofs more fs h.1 in
    rw (label, rest) refl

pub member_new : (n : List ℕ) (oneofs : List (List ℕ)) → length oneofs ≤ 128 → is_among n oneofs ≡ false → index_or_next n oneofs ≡ length oneofs
member_new n oneofs few is =
    let small : min (length oneofs) (2 ^ 32 - 1) ≡ length oneofs = omega arith in
    ap (λ (o : Option ℕ). capped_index (unwrap_or o (length oneofs))) (place_new 0 n oneofs is) ∙ small

kept_by : (N : Table) (oneofs : List (List ℕ)) (new : Option (List ℕ)) (fs : List TheField)
    → AllByRecursion (λ f. LabelPlaced (length oneofs) f.label) fs
    → flat_map (field_line N (joined_with oneofs new)) fs ≡ flat_map (field_line N oneofs) fs
kept_by N oneofs None fs h = refl
kept_by N oneofs (Some n) fs h = fields_kept N oneofs (n ∷ []) fs h

pub label_placed : (t : TypeNames) (oneofs : List (List ℕ)) (w : List ℕ) (l : LabelWord) → IsSmall t → length oneofs ≤ 128 → LabelIs w l → is_unknown_label t l ≡ false
    → label_text (names_table t) (joined_with oneofs (new_oneof oneofs l)) (labeled t oneofs l) ≡ w
label_placed t oneofs w labels.Plain small few h known = sym h
label_placed t oneofs w labels.Optional small few h known = sym h
label_placed t oneofs w labels.Repeated small few h known = sym h
label_placed t oneofs w labels.Packed small few h known = sym h
label_placed t oneofs w (labels.Map k) small few h known = ap (λ (x : List ℕ). codes "map:" ++ x) (kind_placed t h.0 k small h.2 known) ∙ sym h.1
label_placed t oneofs w (labels.Member n) small few h known =
    elim (is_among n oneofs) as (λ (b : Bool). is_among n oneofs ≡ b → codes "oneof:" ++ unwrap_or (slice_get (joined_with oneofs (cond b None (Some n))) (index_or_next n oneofs)) [] ≡ w) [
      | true ↦ λ is.
          let p = place_known n oneofs (omega arith) is in
          ap (λ (x : Option (List ℕ)). codes "oneof:" ++ unwrap_or x []) p.1 ∙ sym h.0
      | false ↦ λ is.
          let at : index_or_next n oneofs ≡ length oneofs = member_new n oneofs few is in
          ap (λ (i : ℕ). codes "oneof:" ++ unwrap_or (slice_get (oneofs ++ n ∷ []) i) []) at
          ∙ ap (λ (x : Option (List ℕ)). codes "oneof:" ++ unwrap_or x []) (get_last oneofs n) ∙ sym h.0
    ] refl

message_more : (N : Table) (m : TheMessage) (f : TheField) (new : Option (List ℕ)) → AllByRecursion (λ f. LabelPlaced (length m.oneofs) f.label) m.fields
    → message_lines N (record { name = m.name; fields = m.fields ++ f ∷ []; oneofs = joined_with m.oneofs new }) ≡ message_lines N m ++ field_line N (joined_with m.oneofs new) f
message_more N m f new placed =
    let head = line (codes "message" ∷ m.name ∷ []) in
    ap (λ (x : List ℕ). head ++ x) (flat_push (field_line N (joined_with m.oneofs new)) m.fields f
    ∙ ap (λ (x : List ℕ). x ++ field_line N (joined_with m.oneofs new) f)
    (kept_by N m.oneofs new m.fields placed))
    ∙ sym (append_assoc head (flat_map (field_line N m.oneofs) m.fields) (field_line N (joined_with m.oneofs new) f))

pub text_field : (t : TypeNames) (d : TableDraft) (m : TheMessage) (n : ℕ) (f : FieldLine) (lw kw : List ℕ) → IsSmall t
    → d.methods ≡ [] → length m.oneofs ≤ 128 → AllByRecursion (λ f. LabelPlaced (length m.oneofs) f.label) m.fields
    → LabelIs lw f.label → KindIs kw f.kind → is_unknown_label t f.label ≡ false → is_unknown_kind t f.kind ≡ false
    → text_by (names_table t) (table_of_draft (with_part d (with_field_line t (open_parts.Message m) (Some n) f)))
    ≡ text_by (names_table t) (table_of_draft (with_part d (open_parts.Message m)))
    ++ line (codes "field" ∷ decimal n ∷ lw ∷ kw ∷ f.name ∷ [])
text_field t d m n f lw kw small ks few placed label kind known_label known_kind =
    let N = names_table t in
    let new = new_oneof m.oneofs f.label in
    let g = resolved_field t m.oneofs n f in
    let m' : TheMessage = (record { name = m.name; fields = m.fields ++ g ∷ []; oneofs = joined_with m.oneofs new }) in
    let text : field_line N (joined_with m.oneofs new) g ≡ line (codes "field" ∷ decimal n ∷ lw ∷ kw ∷ f.name ∷ []) =
    ap (λ (x : List ℕ). line (codes "field" ∷ decimal n ∷ x ∷ kind_text N (resolved t f.kind) ∷ f.name ∷ [])) (label_placed t m.oneofs lw f.label small few label known_label)
    ∙ ap (λ (x : List ℕ). line (codes "field" ∷ decimal n ∷ lw ∷ x ∷ f.name ∷ [])) (kind_placed t kw f.kind small kind known_kind) in
    at_second (flat_map enum_lines d.enums) (flat_map (message_lines N) (d.messages ++ m ∷ []))
    (flat_map (message_lines N) (d.messages ++ m' ∷ [])) (flat_map (method_line N) (enumerate_from 0 d.methods))
    (line (codes "field" ∷ decimal n ∷ lw ∷ kw ∷ f.name ∷ []))
    (no_methods N d.methods ks)
    (flat_push (message_lines N) d.messages m' ∙ ap (λ (l : List ℕ). flat_map (message_lines N) d.messages ++ l)
    (message_more N m g new placed ∙ ap (λ (l : List ℕ). message_lines N m ++ l) text)
    ∙ sym (append_assoc (flat_map (message_lines N) d.messages) (message_lines N m) (line (codes "field" ∷ decimal n ∷ lw ∷ kw ∷ f.name ∷ [])))
    ∙ ap (λ (x : List ℕ). x ++ line (codes "field" ∷ decimal n ∷ lw ∷ kw ∷ f.name ∷ [])) (sym (flat_push (message_lines N) d.messages m)))
