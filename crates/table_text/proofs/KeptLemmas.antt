-- The names beside a draft, after a line was added.
use Rattle.std.proofs.Common.{◌≡◌, ℕ, ℤ, List, [], ◌∷◌, ◌++◌, map, Option, Some, None, refl, ap, sym, subst, ◌∙◌}
use Rattle.std.proofs.lemmas.List.{append-nil}
use Rattle.table_text.specs.LineTests.{TypeNames, values, fields, names_after}
use Rattle.table_text.specs.LineTests as faults
use Rattle.table_text.specs.NameIndex.{AreNames}
use Rattle.table_text.specs.Drafts.{open_enum_name, open_message_name, open_part, enum_names, message_names, method_names}
use Rattle.table_text.specs.Drafts.{part_names, oneofs_of_open, names_before_line, with_part_closed, with_enum, with_message, with_value}
use Rattle.table_text.specs.Drafts.{with_field_line, with_part, joined_with, joined_parts, with_parts, new_oneof, resolved_field}
use Rattle.table_text.specs.Drafts.{resolved_method, with_line}
use Rattle.table_text.specs.Readers.{IsReaderState}
use Rattle.mrpc_table.specs.declared.table.Field.{Field as TheField}
use Rattle.mrpc_table.specs.declared.table.Message.{Message as TheMessage}
use Rattle.mrpc_table.specs.declared.table.Choices.{Choices}
use Rattle.mrpc_table.specs.declared.table.Method.{Method as TheMethod}
use Rattle.table_text.specs.declared.line.EnumNumber.{EnumNumber}
use Rattle.table_text.specs.declared.line.EnumNumber.TheVariants.{Low, Within, High}
use Rattle.table_text.specs.declared.line.FieldLine.{FieldLine}
use Rattle.table_text.specs.declared.line.TableLine.{TableLine}
use Rattle.table_text.specs.declared.line.TableLine.TheVariants.{Enum, Value, Message, Field, Method}
use Rattle.table_text.specs.declared.draft.OpenPart.{OpenPart}
use Rattle.table_text.specs.declared.draft.OpenPart.TheVariants as open_parts
use Rattle.table_text.specs.declared.draft.TableDraft.{TableDraft}
use Rattle.table_text.specs.declared.name_index.NameIndex.{NameIndex}
use Rattle.table_text.specs.declared.reader.TableReader.{TableReader}

pub map_push : {X Y : Type 0} (f : X → Y) (xs : List X) (x : X) → map f (xs ++ x ∷ []) ≡ map f xs ++ f x ∷ []
map_push f [] x = refl
map_push f (y ∷ ys) x = ap (λ zs. f y ∷ zs) (map_push f ys x)

pub closed_enums : (o : OpenPart) (es : List Choices) → map (λ e. e.name) (with_enum o es) ≡ map (λ e. e.name) es ++ open_enum_name o
closed_enums (open_parts.Enum c) es = map_push (λ e. e.name) es c
closed_enums (open_parts.Message m) es = sym (append-nil (map (λ e. e.name) es))
closed_enums open_parts.Nothing es = sym (append-nil (map (λ e. e.name) es))

pub closed_messages : (o : OpenPart) (ms : List TheMessage) → map (λ m. m.name) (with_message o ms) ≡ map (λ m. m.name) ms ++ open_message_name o
closed_messages (open_parts.Enum c) ms = sym (append-nil (map (λ m. m.name) ms))
closed_messages (open_parts.Message m) ms = map_push (λ m. m.name) ms m
closed_messages open_parts.Nothing ms = sym (append-nil (map (λ m. m.name) ms))

value_added : (d : TableDraft) (o : OpenPart) (z : EnumNumber) (name : List ℕ)
    → names_before_line (with_part (with_part d o) (with_value o z name)) ≡ record (names_before_line (with_part d o)) {
      open_part =
          faults.names_with_value (open_part o) z name;
    }
value_added d (open_parts.Enum c) (Within z) name = refl
value_added d (open_parts.Enum c) Low name = refl
value_added d (open_parts.Enum c) High name = refl
value_added d (open_parts.Message m) (Within z) name = refl
value_added d (open_parts.Message m) Low name = refl
value_added d (open_parts.Message m) High name = refl
value_added d open_parts.Nothing (Within z) name = refl
value_added d open_parts.Nothing Low name = refl
value_added d open_parts.Nothing High name = refl

abbrev pub numbered : TheField → ℕ × List ℕ
numbered f = (f.number, f.name)

field_added : (t : TypeNames) (d : TableDraft) (o : OpenPart) (n : Option ℕ) (f : FieldLine)
    → names_before_line (with_part (with_part d o) (with_field_line t o n f)) ≡ record (names_before_line (with_part d o)) {
      open_part =
          faults.names_with_field (open_part o) n f.name;
    }
field_added t d (open_parts.Message m) (Some n) f =
    ap (λ (fs : List (ℕ × List ℕ)). record (names_before_line (with_part d (open_parts.Message m))) { open_part = fields fs })
    (map_push numbered m.fields (resolved_field t m.oneofs n f))
field_added t d (open_parts.Message m) None f = refl
field_added t d (open_parts.Enum c) (Some n) f = refl
field_added t d (open_parts.Enum c) None f = refl
field_added t d open_parts.Nothing (Some n) f = refl
field_added t d open_parts.Nothing None f = refl

-- what a line adds to the names is what it adds to the draft
pub before_added : (t : TypeNames) (d : TableDraft) (l : TableLine) → names_before_line (with_line t d l) ≡ names_after (names_before_line d) l
before_added t d (Enum name) =
    let es = ap (λ (ns : List (List ℕ)). ns ++ name ∷ []) (closed_enums d.open_part d.enums) in
    let ms = append-nil (map (λ m. m.name) (with_message d.open_part d.messages)) ∙ closed_messages d.open_part d.messages in
    rw (es, ms) refl
before_added t d (Value z name) = value_added d d.open_part z name
before_added t d (Message name) =
    let ms = ap (λ (ns : List (List ℕ)). ns ++ name ∷ []) (closed_messages d.open_part d.messages) in
    let es = append-nil (map (λ c. c.name) (with_enum d.open_part d.enums)) ∙ closed_enums d.open_part d.enums in
    rw (es, ms) refl
before_added t d (Field f) = field_added t d d.open_part f.number f
before_added t d (Method m) =
    let es = append-nil (map (λ c. c.name) (with_enum d.open_part d.enums)) ∙ closed_enums d.open_part d.enums in
    let ms = append-nil (map (λ m. m.name) (with_message d.open_part d.messages)) ∙ closed_messages d.open_part d.messages in
    let ks = map_push (λ (m : TheMethod). m.service ++ 32 ∷ m.name) d.methods (resolved_method t m) in
    rw (es, ms, ks) refl

pub kept_enum : (t : TypeNames) (r : TableReader) (e : TableDraft) (name : List ℕ) (ps inner oneofs : NameIndex) → e ≡ with_part_closed r.draft
    → IsReaderState t r → AreNames ps (enum_names r.draft ++ name ∷ []) → AreNames inner [] → AreNames oneofs []
    → IsReaderState t (record {
      known_enums = r.known_enums;
      known_messages = r.known_messages;
      draft = record { enums = e.enums; messages = e.messages; methods = e.methods; open_part = open_parts.Enum (record { name = name; values = [] }) };
      enum_names = ps;
      message_names = r.message_names;
      method_names = r.method_names;
      inner_names = inner;
      oneofs = oneofs;
    })
kept_enum t r e name ps inner oneofs is h with_line none no_oneofs = record {
  enums = h.enums;
  messages = h.messages;
  enum_names = subst (λ ns. AreNames ps (ns ++ name ∷ [])) (sym (ap (λ (d : TableDraft). map (λ c. c.name) d.enums) is ∙ closed_enums r.draft.open_part r.draft.enums)) with_line;
  message_names = subst (AreNames r.message_names)
      (sym (append-nil (map (λ m. m.name) e.messages) ∙ ap (λ (d : TableDraft). map (λ m. m.name) d.messages) is
      ∙ closed_messages r.draft.open_part r.draft.messages)) h.message_names;
  method_names = subst (AreNames r.method_names) (sym (ap method_names is)) h.method_names;
  inner_names = none;
  oneofs = no_oneofs;
}

pub kept_message : (t : TypeNames) (r : TableReader) (e : TableDraft) (name : List ℕ) (ps inner oneofs : NameIndex)
    → e ≡ with_part_closed r.draft → IsReaderState t r → AreNames ps (message_names r.draft ++ name ∷ []) → AreNames inner []
    → AreNames oneofs []
    → IsReaderState t (record {
      known_enums = r.known_enums;
      known_messages = r.known_messages;
      draft = record { enums = e.enums; messages = e.messages; methods = e.methods; open_part = open_parts.Message (record { name = name; fields = []; oneofs = [] }) };
      enum_names = r.enum_names;
      message_names = ps;
      method_names = r.method_names;
      inner_names = inner;
      oneofs = oneofs;
    })
kept_message t r e name ps inner oneofs is h with_line none no_oneofs = record {
  enums = h.enums;
  messages = h.messages;
  enum_names = subst (AreNames r.enum_names)
      (sym (append-nil (map (λ c. c.name) e.enums) ∙ ap (λ (d : TableDraft). map (λ c. c.name) d.enums) is
      ∙ closed_enums r.draft.open_part r.draft.enums)) h.enum_names;
  message_names = subst (λ ns. AreNames ps (ns ++ name ∷ [])) (sym (ap (λ (d : TableDraft). map (λ m. m.name) d.messages) is ∙ closed_messages r.draft.open_part r.draft.messages)) with_line;
  method_names = subst (AreNames r.method_names) (sym (ap method_names is)) h.method_names;
  inner_names = none;
  oneofs = no_oneofs;
}

pub kept_method : (t : TypeNames) (r : TableReader) (e : TableDraft) (methods : List TheMethod) (m : TheMethod)
    (ps inner oneofs : NameIndex) → e ≡ with_part_closed r.draft → methods ≡ e.methods ++ m ∷ [] → IsReaderState t r
    → AreNames ps (method_names r.draft ++ (m.service ++ 32 ∷ m.name) ∷ []) → AreNames inner [] → AreNames oneofs []
    → IsReaderState t (record {
      known_enums = r.known_enums;
      known_messages = r.known_messages;
      draft = record { enums = e.enums; messages = e.messages; methods = methods; open_part = e.open_part };
      enum_names = r.enum_names;
      message_names = r.message_names;
      method_names = ps;
      inner_names = inner;
      oneofs = oneofs;
    })
kept_method t r e methods m ps inner oneofs is more h with_line none no_oneofs =
    let part : e.open_part ≡ open_parts.Nothing = ap (λ (d : TableDraft). d.open_part) is in
    let key : TheMethod → List ℕ = λ m. m.service ++ 32 ∷ m.name in
    record {
      enums = h.enums;
      messages = h.messages;
      enum_names = subst (AreNames r.enum_names)
          (sym (ap (λ (o : OpenPart). map (λ c. c.name) e.enums ++ open_enum_name o) part
          ∙ append-nil (map (λ c. c.name) e.enums) ∙ ap (λ (d : TableDraft). map (λ c. c.name) d.enums) is
          ∙ closed_enums r.draft.open_part r.draft.enums)) h.enum_names;
      message_names = subst (AreNames r.message_names)
          (sym (ap (λ (o : OpenPart). map (λ m. m.name) e.messages ++ open_message_name o) part
          ∙ append-nil (map (λ m. m.name) e.messages) ∙ ap (λ (d : TableDraft). map (λ m. m.name) d.messages) is
          ∙ closed_messages r.draft.open_part r.draft.messages)) h.message_names;
      method_names = subst (AreNames ps) (sym (ap (map key) more ∙ map_push key e.methods m ∙ ap (λ (d : TableDraft). map key d.methods ++ key m ∷ []) is)) with_line;
      inner_names = subst (λ (o : OpenPart). AreNames inner (part_names (open_part o))) (sym part) none;
      oneofs = subst (λ (o : OpenPart). AreNames oneofs (oneofs_of_open o)) (sym part) no_oneofs;
    }

pub kept_value : (t : TypeNames) (r : TableReader) (c : Choices) (z : ℤ) (name : List ℕ) (part : OpenPart) (ps : NameIndex)
    → r.draft.open_part ≡ open_parts.Enum c → IsReaderState t r → AreNames ps (map (λ v. v.1) c.values ++ name ∷ [])
    → part ≡ with_value r.draft.open_part (Within z) name
    → IsReaderState t (record {
      known_enums = r.known_enums;
      known_messages = r.known_messages;
      draft = record { enums = r.draft.enums; messages = r.draft.messages; methods = r.draft.methods; open_part = part };
      enum_names = r.enum_names;
      message_names = r.message_names;
      method_names = r.method_names;
      inner_names = ps;
      oneofs = r.oneofs;
    })
kept_value t r c z name part ps is h with_line made =
    let whole : part ≡ open_parts.Enum (record { name = c.name; values = c.values ++ (z, name) ∷ [] }) = made ∙ ap (λ (o : OpenPart). with_value o (Within z) name) is in
    rw whole (record {
      enums = h.enums;
      messages = h.messages;
      enum_names = subst (λ (o : OpenPart). AreNames r.enum_names (map (λ e. e.name) r.draft.enums ++ open_enum_name o)) is h.enum_names;
      message_names = subst (λ (o : OpenPart). AreNames r.message_names (map (λ m. m.name) r.draft.messages ++ open_message_name o)) is h.message_names;
      method_names = h.method_names;
      inner_names = subst (AreNames ps) (sym (map_push (λ v. v.1) c.values (z, name))) with_line;
      oneofs = subst (λ (o : OpenPart). AreNames r.oneofs (oneofs_of_open o)) is h.oneofs;
    })

-- a field and its oneof make what their line adds
pub parts_made : (t : TypeNames) (o : OpenPart) (m : TheMessage) (number : Option ℕ) (n : ℕ) (line : FieldLine) (f : TheField)
    (oneof : Option (List ℕ)) → o ≡ open_parts.Message m → number ≡ Some n
    → f ≡ resolved_field t (oneofs_of_open o) n line → oneof ≡ new_oneof (oneofs_of_open o) line.label → with_parts o f oneof ≡ with_field_line t o number line
parts_made t o m number n line f oneof is some made new = rw (made, new, is, some) refl

pub kept_field : (t : TypeNames) (r : TableReader) (m : TheMessage) (f : TheField) (oneof : Option (List ℕ)) (part : OpenPart)
    (ps places : NameIndex) → r.draft.open_part ≡ open_parts.Message m → IsReaderState t r
    → AreNames ps (map (λ (p : ℕ × List ℕ). p.1) (map numbered m.fields) ++ f.name ∷ [])
    → AreNames places (joined_with m.oneofs oneof) → part ≡ with_parts r.draft.open_part f oneof
    → IsReaderState t (record {
      known_enums = r.known_enums;
      known_messages = r.known_messages;
      draft = record { enums = r.draft.enums; messages = r.draft.messages; methods = r.draft.methods; open_part = part };
      enum_names = r.enum_names;
      message_names = r.message_names;
      method_names = r.method_names;
      inner_names = ps;
      oneofs = places;
    })
kept_field t r m f oneof part ps places is h with_line placed made =
    let whole : part ≡ open_parts.Message (joined_parts m f oneof) = made ∙ ap (λ (o : OpenPart). with_parts o f oneof) is in
    rw whole (record {
      enums = h.enums;
      messages = h.messages;
      enum_names = subst (λ (o : OpenPart). AreNames r.enum_names (map (λ e. e.name) r.draft.enums ++ open_enum_name o)) is h.enum_names;
      message_names = subst (λ (o : OpenPart). AreNames r.message_names (map (λ m. m.name) r.draft.messages ++ open_message_name o)) is h.message_names;
      method_names = h.method_names;
      inner_names = subst (AreNames ps)
          (sym (ap (map (λ (p : ℕ × List ℕ). p.1)) (map_push numbered m.fields f) ∙ map_push (λ (p : ℕ × List ℕ). p.1)
          (map numbered m.fields) (f.number, f.name))) with_line;
      oneofs = placed;
    })
