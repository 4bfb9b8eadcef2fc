-- A field, a oneof, a value or an rpc that is declared after all others keeps the order.
use Rattle.std.proofs.Common.{◌≡◌, ◌⊎◌, inl, inr, ℕ, suc, ◌<◌, ◌≤◌, List, [], ◌∷◌, ◌++◌, length, refl, ap, subst, sym, ◌∙◌, arith}
use Rattle.std.specs.Prelude.{Option, Some, slice_get}
use Rattle.proto_ast.specs.Order.{DeclIndex, field_decl, oneof_decl, value_decl, rpc_decl, DeclPart, its_name, part_rank}
use Rattle.proto_ast.specs.Order.{IsOfField, field_type, map_key, map_value, outer_key, field_name, field_number}
use Rattle.proto_ast.specs.Order.{IsOfValue, value_name, value_number, IsOfRpc, rpc_name, rpc_input, rpc_output}
use Rattle.proto_ast.specs.declared.file.Span.{Span}
use Rattle.proto_ast.specs.declared.file.MessageDecl.{MessageDecl}
use Rattle.proto_ast.specs.declared.file.EnumDecl.{EnumDecl}
use Rattle.proto_ast.specs.declared.file.File.{File}
use Rattle.proto_ast.specs.declared.file.Word.{Word}
use Rattle.proto_ast.specs.declared.file.FieldType.{FieldType}
use Rattle.proto_ast.specs.declared.file.FieldType.TheVariants.{Named, Map, NestedMap}
use Rattle.proto_ast.specs.declared.file.FieldDecl.{FieldDecl}
use Rattle.proto_ast.specs.declared.file.ValueDecl.{ValueDecl}
use Rattle.proto_ast.specs.declared.file.RpcDecl.{RpcDecl}
use Rattle.proto_ast.specs.declared.file.ServiceDecl.{ServiceDecl}
use Rattle.proto_schema.specs.Files.{edit_open, edit_last}
use Rattle.proto_schema.proofs.Places.{one_at, in_pushed, changed, kept, in_edited_open, in_edited_last}
use Rattle.proto_schema.proofs.Spans.{IsWithin, TypesWithin, RpcWithin}
use Rattle.proto_schema.proofs.KeptOrder.{Kept, kept_to, kept_adds, InMessages, InEnums, InServices, of_messages}
use Rattle.proto_schema.proofs.KeptOrder.{of_enums, of_services, in_messages, in_enums, in_services, precedes_itself}
use Rattle.proto_schema.proofs.KeptOrder.{IsName, adds_name, no_place, field_place, oneof_place, value_place}
use Rattle.proto_schema.proofs.KeptOrder.{rpc_place, field_precedes, oneof_precedes, value_precedes, rpc_precedes}
use Rattle.proto_schema.proofs.KeptOrder.{message_in, field_in, oneof_in, enum_in, value_in, service_in, rpc_in}
use Rattle.proto_schema.proofs.Declares.{through, IsEdited, edit_open_cases, edit_last_cases, enums_behind_edit, enums_behind_last}

-- ---- a new field

pub record FieldWithin (b g c : ℕ) (f : FieldDecl) : Type 0 where
  pub types : TypesWithin b g f.kind
  pub name : IsWithin g c f.name.span.start
  pub number : IsWithin g c f.number.span.start
  pub ordered : f.name.span.start < f.number.span.start

pub start_of : (s t : Span) → s ≡ t → s.start ≡ t.start
start_of s t e = ap (λ (s : Span). s.start) e

module _ (b g c : ℕ) (f : FieldDecl) (l : b ≤ g) (m : g ≤ c) (k : FieldWithin b g c f) where
  of_type : (w : Word) → f.kind ≡ Named w → IsWithin b g w.span.start
  of_type w e = subst (λ (t : FieldType). TypesWithin b g t) e k.types

  of_map : (key value : Word) → f.kind ≡ Map key value
      → IsWithin b g key.span.start × IsWithin b g value.span.start × (key.span.start < value.span.start)
  of_map key value e = subst (λ (t : FieldType). TypesWithin b g t) e k.types

  of_outer : (key : Word) → f.kind ≡ NestedMap key → IsWithin b g key.span.start
  of_outer key e = subst (λ (t : FieldType). TypesWithin b g t) e k.types

  -- the types come before the name
  type_before : (w : Word) (s : Span) → IsWithin b g w.span.start → s ≡ w.span → (b ≤ s.start) × (s.start < g)
  type_before w s i e = let q : s.start ≡ w.span.start = start_of s w.span e in (omega arith, omega arith)

  field_spans : (p : DeclPart) (s : Span) → IsOfField f s p → (b ≤ s.start) × (s.start < c)
  field_spans p s (field_type w e h) = let (x, y) = type_before w s (of_type w e) h in (x, omega arith)
  field_spans p s (map_key v w e h) = let (x, y) = type_before v s (of_map v w e).0 h in (x, omega arith)
  field_spans p s (map_value v w e h) = let (x, y) = type_before w s (of_map v w e).1 h in (x, omega arith)
  field_spans p s (outer_key v e h) = let (x, y) = type_before v s (of_outer v e) h in (x, omega arith)
  field_spans p s (field_name h) =
      let q : s.start ≡ f.name.span.start = start_of s f.name.span h in let n = k.name in (omega arith, omega arith)
  field_spans p s (field_number h) =
      let q : s.start ≡ f.number.span.start = start_of s f.number.span h in let n = k.number in (omega arith, omega arith)

  no_outer : (x y w : Word) → f.kind ≡ Map x y → f.kind ≡ NestedMap w → ⊥
  no_outer x y w e d = let q : Map x y ≡ NestedMap w = sym e ∙ d in cc

  not_named : (w x : Word) → f.kind ≡ Named w → f.kind ≡ NestedMap x → ⊥
  not_named w x e d = let q : Named w ≡ NestedMap x = sym e ∙ d in cc

  one_field : (p : DeclPart) (s t : Span) → IsOfField f s p → IsOfField f t p → s ≡ t
  one_field p s t (field_type w e h) (field_type v d u) =
      let q : Named w ≡ Named v = sym e ∙ d in let r : w ≡ v = (cc) in h ∙ (ap (λ (w : Word). w.span) r ∙ sym u)
  one_field p s t (map_key k w e h) (map_key i v d u) =
      let q : Map k w ≡ Map i v = sym e ∙ d in let r : k ≡ i = (cc) in h ∙ (ap (λ (w : Word). w.span) r ∙ sym u)
  one_field p s t (map_value k w e h) (map_value i v d u) =
      let q : Map k w ≡ Map i v = sym e ∙ d in let r : w ≡ v = (cc) in h ∙ (ap (λ (w : Word). w.span) r ∙ sym u)
  one_field p s t (outer_key v e h) (outer_key i d u) =
      let q : NestedMap v ≡ NestedMap i = sym e ∙ d in let r : v ≡ i = (cc) in h ∙ (ap (λ (w : Word). w.span) r ∙ sym u)
  one_field p s t (map_key v w e h) (outer_key i d u) = absurd (no_outer v w i e d)
  one_field p s t (outer_key i d u) (map_key v w e h) = absurd (no_outer v w i e d)
  one_field p s t (field_name h) (field_name u) = h ∙ sym u
  one_field p s t (field_number h) (field_number u) = h ∙ sym u

  no_map : (w x y : Word) → f.kind ≡ Named w → f.kind ≡ Map x y → ⊥
  no_map w x y e d = let q : Named w ≡ Map x y = sym e ∙ d in cc

  -- the name and the number come after the types
  before_name : (s t : Span) → (b ≤ s.start) × (s.start < g) → t ≡ f.name.span → s.start < t.start
  before_name s t (x, y) h = let q : t.start ≡ f.name.span.start = start_of t f.name.span h in let n = k.name in omega arith

  before_number : (s t : Span) → (b ≤ s.start) × (s.start < g) → t ≡ f.number.span → s.start < t.start
  before_number s t (x, y) h = let q : t.start ≡ f.number.span.start = start_of t f.number.span h in let n = k.number in omega arith

  field_parts : (p q : DeclPart) (s t : Span) → part_rank p < part_rank q → IsOfField f s p → IsOfField f t q → s.start < t.start
  field_parts p q s t r h (field_type w e u) = absurd (omega arith)
  field_parts p q s t r (field_type v d h) (map_key x y e u) = absurd (no_map v x y d e)
  field_parts p q s t r h (map_key x y e u) = absurd (omega arith)
  field_parts p q s t r (field_type v d h) (outer_key x e u) = absurd (not_named v x d e)
  field_parts p q s t r h (outer_key x e u) = absurd (omega arith)
  field_parts p q s t r (field_type v d h) (map_value x y e u) = absurd (no_map v x y d e)
  field_parts p q s t r (map_key v w d h) (map_value x y e u) =
      let i : Map v w ≡ Map x y = sym d ∙ e in
      let j : v ≡ x = (cc) in
      let n : x.span.start < y.span.start = (of_map x y e).2 in
      let a : s.start ≡ x.span.start = start_of s v.span h ∙ ap (λ (w : Word). w.span.start) j in
      let o : t.start ≡ y.span.start = start_of t y.span u in
      omega arith
  field_parts p q s t r (outer_key v d h) (map_value x y e u) = absurd (no_outer x y v e d)
  field_parts p q s t r h (map_value x y e u) = absurd (omega arith)
  field_parts p q s t r (field_type v d h) (field_name u) = before_name s t (type_before v s (of_type v d) h) u
  field_parts p q s t r (map_key v w d h) (field_name u) = before_name s t (type_before v s (of_map v w d).0 h) u
  field_parts p q s t r (map_value v w d h) (field_name u) = before_name s t (type_before w s (of_map v w d).1 h) u
  field_parts p q s t r (outer_key v d h) (field_name u) = before_name s t (type_before v s (of_outer v d) h) u
  field_parts p q s t r h (field_name u) = absurd (omega arith)
  field_parts p q s t r (field_type v d h) (field_number u) = before_number s t (type_before v s (of_type v d) h) u
  field_parts p q s t r (map_key v w d h) (field_number u) = before_number s t (type_before v s (of_map v w d).0 h) u
  field_parts p q s t r (map_value v w d h) (field_number u) = before_number s t (type_before w s (of_map v w d).1 h) u
  field_parts p q s t r (outer_key v d h) (field_number u) = before_number s t (type_before v s (of_outer v d) h) u
  field_parts p q s t r (field_name h) (field_number u) =
      let a : s.start ≡ f.name.span.start = start_of s f.name.span h in
      let o : t.start ≡ f.number.span.start = start_of t f.number.span u in
      let n = k.ordered in
      omega arith
  field_parts p q s t r (field_number h) (field_number u) = absurd (omega arith)

abbrev pub with_field : FieldDecl → MessageDecl → MessageDecl
with_field f m = record m { fields = m.fields ++ f ∷ [] }

pub in_new_field : (o : Option ℕ) (f : FieldDecl) (ms : List MessageDecl) (i : ℕ) (m : MessageDecl) → o ≡ Some i → slice_get ms i ≡ Some m
    → {s : Span} {x : DeclIndex} {p : DeclPart} → InMessages (edit_open o (with_field f) ms) s x p
    → InMessages ms s x p ⊎ ((x ≡ field_decl i (length m.fields)) × IsOfField f s p)
in_new_field o f ms i m oi mi (message_in k n e h) =
    elim (in_edited_open o (with_field f) ms k n e) [
      | changed y g l u ↦ inl (message_in k y g (h ∙ ap (λ (m : MessageDecl). m.name.span) u))
      | kept g l ↦ inl (message_in k n g h)
    ]
in_new_field o f ms i m oi mi {s = s} {p = p} (field_in k j n z e g h) =
    elim (in_edited_open o (with_field f) ms k n e) [
      | changed y d l u ↦ by y d l (in_pushed y.fields f j z (ap (λ (m : MessageDecl). slice_get m.fields j) (sym u) ∙ g))
      | kept d l ↦ inl (field_in k j n z d g h)
    ]
  where
    by : (y : MessageDecl) → slice_get ms k ≡ Some y → o ≡ Some k → (slice_get y.fields j ≡ Some z) ⊎ ((j ≡ length y.fields) × (z ≡ f))
        → InMessages ms s (field_decl k j) p ⊎ ((field_decl k j ≡ field_decl i (length m.fields)) × IsOfField f s p)
    by y d l (inl v) = inl (field_in k j y z d v h)
    by y d l (inr (a, v)) =
        let t : ◌≡◌ {A = Option ℕ} (Some k) (Some i) = sym l ∙ oi in
        let ki : k ≡ i = (cc) in
        let ym : y ≡ m = one_at ms i y m (subst (λ (k : ℕ). slice_get ms k ≡ Some y) ki d) mi in
        let jm : j ≡ length m.fields = a ∙ ap (λ (m : MessageDecl). length m.fields) ym in
        inr ((cc), subst (λ (z : FieldDecl). IsOfField z s p) v h)
in_new_field o f ms i m oi mi (oneof_in k j n z e g h) =
    elim (in_edited_open o (with_field f) ms k n e) [
      | changed y d l u ↦ inl (oneof_in k j y z d (ap (λ (m : MessageDecl). slice_get m.oneofs j) (sym u) ∙ g) h)
      | kept d l ↦ inl (oneof_in k j n z d g h)
    ]

pub kept_field : (F : File) (b g c : ℕ) (o : Option ℕ) (f : FieldDecl) → b ≤ g → g ≤ c → FieldWithin b g c f → Kept F b
    → Kept (record F { messages = edit_open o (with_field f) F.messages }) c
kept_field F b g c o f l m w k = by (edit_open_cases o (with_field f) F.messages)
  where
    G : File
    G = record F { messages = edit_open o (with_field f) F.messages }

    bc : b ≤ c
    bc = omega arith

    by : (edit_open o (with_field f) F.messages ≡ F.messages) ⊎ IsEdited F.messages (λ i. o ≡ Some i) → Kept G c
    by (inl e) = subst (λ (ms : List MessageDecl). Kept (record F { messages = ms }) c) (sym e) (kept_to F b c bc k)
    by (inr d) =
        kept_adds F G b c (field_decl d.place (length d.item.fields)) (IsOfField f) k bc
        (record {
          old = λ x p s h. elim (in_messages F (edit_open o (with_field f) F.messages) h) [
            | inl u ↦ inl u
            | inr u ↦ through (of_messages F) (in_new_field o f F.messages d.place d.item d.here d.is u)
          ];
          last = λ y p s q h. no_place F.messages (λ m. m.fields) d.place (length d.item.fields) d.item d.is (omega arith) (field_precedes q h);
          fresh = λ p s h. no_place F.messages (λ m. m.fields) d.place (length d.item.fields) d.item d.is (omega arith) (field_place h);
          alone = precedes_itself (field_decl d.place (length d.item.fields));
          behind = λ p s h. (field_spans b g c f l m w p s h).0;
          before = λ p s h. (field_spans b g c f l m w p s h).1;
          one = one_field b g c f l m w;
          parts = field_parts b g c f l m w;
        })
        (enums_behind_edit F o (with_field f) (λ m. refl) k.ordered.enum_after)

-- ---- a new oneof

abbrev pub with_oneof : Word → MessageDecl → MessageDecl
with_oneof w m = record m { oneofs = m.oneofs ++ w ∷ [] }

pub in_new_oneof : (o : Option ℕ) (w : Word) (ms : List MessageDecl) (i : ℕ) (m : MessageDecl) → o ≡ Some i → slice_get ms i ≡ Some m
    → {s : Span} {x : DeclIndex} {p : DeclPart} → InMessages (edit_open o (with_oneof w) ms) s x p
    → InMessages ms s x p ⊎ ((x ≡ oneof_decl i (length m.oneofs)) × IsName w.span s p)
in_new_oneof o w ms i m oi mi (message_in k n e h) =
    elim (in_edited_open o (with_oneof w) ms k n e) [
      | changed y g l u ↦ inl (message_in k y g (h ∙ ap (λ (m : MessageDecl). m.name.span) u))
      | kept g l ↦ inl (message_in k n g h)
    ]
in_new_oneof o w ms i m oi mi (field_in k j n z e g h) =
    elim (in_edited_open o (with_oneof w) ms k n e) [
      | changed y d l u ↦ inl (field_in k j y z d (ap (λ (m : MessageDecl). slice_get m.fields j) (sym u) ∙ g) h)
      | kept d l ↦ inl (field_in k j n z d g h)
    ]
in_new_oneof o w ms i m oi mi {s = s} (oneof_in k j n z e g h) =
    elim (in_edited_open o (with_oneof w) ms k n e) [
      | changed y d l u ↦ by y d l (in_pushed y.oneofs w j z (ap (λ (m : MessageDecl). slice_get m.oneofs j) (sym u) ∙ g))
      | kept d l ↦ inl (oneof_in k j n z d g h)
    ]
  where
    by : (y : MessageDecl) → slice_get ms k ≡ Some y → o ≡ Some k → (slice_get y.oneofs j ≡ Some z) ⊎ ((j ≡ length y.oneofs) × (z ≡ w))
        → InMessages ms s (oneof_decl k j) its_name ⊎ ((oneof_decl k j ≡ oneof_decl i (length m.oneofs)) × IsName w.span s its_name)
    by y d l (inl v) = inl (oneof_in k j y z d v h)
    by y d l (inr (a, v)) =
        let t : ◌≡◌ {A = Option ℕ} (Some k) (Some i) = sym l ∙ oi in
        let ki : k ≡ i = (cc) in
        let ym : y ≡ m = one_at ms i y m (subst (λ (k : ℕ). slice_get ms k ≡ Some y) ki d) mi in
        let jm : j ≡ length m.oneofs = a ∙ ap (λ (m : MessageDecl). length m.oneofs) ym in
        inr ((cc), (refl, h ∙ ap (λ (w : Word). w.span) v))

pub kept_oneof : (F : File) (b c : ℕ) (o : Option ℕ) (w : Word) → b ≤ c → IsWithin b c w.span.start → Kept F b
    → Kept (record F { messages = edit_open o (with_oneof w) F.messages }) c
kept_oneof F b c o w l i k = by (edit_open_cases o (with_oneof w) F.messages)
  where
    G : File
    G = record F { messages = edit_open o (with_oneof w) F.messages }

    by : (edit_open o (with_oneof w) F.messages ≡ F.messages) ⊎ IsEdited F.messages (λ i. o ≡ Some i) → Kept G c
    by (inl e) = subst (λ (ms : List MessageDecl). Kept (record F { messages = ms }) c) (sym e) (kept_to F b c l k)
    by (inr d) =
        kept_adds F G b c (oneof_decl d.place (length d.item.oneofs)) (IsName w.span) k l
        (adds_name w.span F G b c (oneof_decl d.place (length d.item.oneofs))
        (λ x p s h. elim (in_messages F (edit_open o (with_oneof w) F.messages) h) [
          | inl u ↦ inl u
          | inr u ↦ through (of_messages F) (in_new_oneof o w F.messages d.place d.item d.here d.is u)
        ])
        (λ y p s q h. no_place F.messages (λ m. m.oneofs) d.place (length d.item.oneofs) d.item d.is (omega arith) (oneof_precedes q h))
        (λ p s h. no_place F.messages (λ m. m.oneofs) d.place (length d.item.oneofs) d.item d.is (omega arith) (oneof_place h)) i)
        (enums_behind_edit F o (with_oneof w) (λ m. refl) k.ordered.enum_after)

-- ---- a new value

pub record ValueWithin (b c : ℕ) (v : ValueDecl) : Type 0 where
  pub name : IsWithin b c v.name.span.start
  pub number : IsWithin b c v.number.span.start
  pub ordered : v.name.span.start < v.number.span.start

module _ (b c : ℕ) (v : ValueDecl) (k : ValueWithin b c v) where
  value_spans : (p : DeclPart) (s : Span) → IsOfValue v s p → (b ≤ s.start) × (s.start < c)
  value_spans p s (value_name h) =
      let q : s.start ≡ v.name.span.start = start_of s v.name.span h in let n = k.name in (omega arith, omega arith)
  value_spans p s (value_number h) =
      let q : s.start ≡ v.number.span.start = start_of s v.number.span h in let n = k.number in (omega arith, omega arith)

  one_value : (p : DeclPart) (s t : Span) → IsOfValue v s p → IsOfValue v t p → s ≡ t
  one_value p s t (value_name h) (value_name u) = h ∙ sym u
  one_value p s t (value_number h) (value_number u) = h ∙ sym u

  value_parts : (p q : DeclPart) (s t : Span) → part_rank p < part_rank q → IsOfValue v s p → IsOfValue v t q → s.start < t.start
  value_parts p q s t r (value_name h) (value_name u) = absurd (omega arith)
  value_parts p q s t r (value_number h) (value_name u) = absurd (omega arith)
  value_parts p q s t r (value_name h) (value_number u) =
      let a : s.start ≡ v.name.span.start = start_of s v.name.span h in
      let o : t.start ≡ v.number.span.start = start_of t v.number.span u in
      let n = k.ordered in
      omega arith
  value_parts p q s t r (value_number h) (value_number u) = absurd (omega arith)

abbrev pub with_value : ValueDecl → EnumDecl → EnumDecl
with_value v e = record e { values = e.values ++ v ∷ [] }

pub in_new_value : (v : ValueDecl) (es : List EnumDecl) (i : ℕ) (e : EnumDecl) → suc i ≡ length es → slice_get es i ≡ Some e
    → {s : Span} {x : DeclIndex} {p : DeclPart} → InEnums (edit_last (with_value v) es) s x p
    → InEnums es s x p ⊎ ((x ≡ value_decl i (length e.values)) × IsOfValue v s p)
in_new_value v es i e oi ei (enum_in k n q h) =
    elim (in_edited_last (with_value v) es k n q) [
      | changed y g l u ↦ inl (enum_in k y g (h ∙ ap (λ (e : EnumDecl). e.name.span) u))
      | kept g l ↦ inl (enum_in k n g h)
    ]
in_new_value v es i e oi ei {s = s} {p = p} (value_in k j n z q g h) =
    elim (in_edited_last (with_value v) es k n q) [
      | changed y d l u ↦ by y d l (in_pushed y.values v j z (ap (λ (e : EnumDecl). slice_get e.values j) (sym u) ∙ g))
      | kept d l ↦ inl (value_in k j n z d g h)
    ]
  where
    by : (y : EnumDecl) → slice_get es k ≡ Some y → suc k ≡ length es → (slice_get y.values j ≡ Some z) ⊎ ((j ≡ length y.values) × (z ≡ v))
        → InEnums es s (value_decl k j) p ⊎ ((value_decl k j ≡ value_decl i (length e.values)) × IsOfValue v s p)
    by y d l (inl w) = inl (value_in k j y z d w h)
    by y d l (inr (a, w)) =
        let ki : k ≡ i = omega arith in
        let ym : y ≡ e = one_at es i y e (subst (λ (k : ℕ). slice_get es k ≡ Some y) ki d) ei in
        let jm : j ≡ length e.values = a ∙ ap (λ (e : EnumDecl). length e.values) ym in
        inr ((cc), subst (λ (z : ValueDecl). IsOfValue z s p) w h)

pub kept_value : (F : File) (b c : ℕ) (v : ValueDecl) → b ≤ c → ValueWithin b c v → Kept F b
    → Kept (record F { enums = edit_last (with_value v) F.enums }) c
kept_value F b c v l w k = by (edit_last_cases (with_value v) F.enums)
  where
    G : File
    G = record F { enums = edit_last (with_value v) F.enums }

    by : (edit_last (with_value v) F.enums ≡ F.enums) ⊎ IsEdited F.enums (λ i. suc i ≡ length F.enums) → Kept G c
    by (inl e) = subst (λ (es : List EnumDecl). Kept (record F { enums = es }) c) (sym e) (kept_to F b c l k)
    by (inr d) =
        kept_adds F G b c (value_decl d.place (length d.item.values)) (IsOfValue v) k l
        (record {
          old = λ x p s h. elim (in_enums F (edit_last (with_value v) F.enums) h) [
            | inl u ↦ inl u
            | inr u ↦ through (of_enums F) (in_new_value v F.enums d.place d.item d.here d.is u)
          ];
          last = λ y p s q h. no_place F.enums (λ e. e.values) d.place (length d.item.values) d.item d.is (omega arith) (value_precedes q h);
          fresh = λ p s h. no_place F.enums (λ e. e.values) d.place (length d.item.values) d.item d.is (omega arith) (value_place h);
          alone = precedes_itself (value_decl d.place (length d.item.values));
          behind = λ p s h. (value_spans b c v w p s h).0;
          before = λ p s h. (value_spans b c v w p s h).1;
          one = one_value b c v w;
          parts = value_parts b c v w;
        })
        (enums_behind_last F (with_value v) (λ e. refl) (λ e. refl) k.ordered.enum_after)

-- ---- a new rpc

module _ (b c : ℕ) (r : RpcDecl) (k : RpcWithin b c r) where
  rpc_spans : (p : DeclPart) (s : Span) → IsOfRpc r s p → (b ≤ s.start) × (s.start < c)
  rpc_spans p s (rpc_name h) =
      let q : s.start ≡ r.name.span.start = start_of s r.name.span h in let n = k.name.within in (omega arith, omega arith)
  rpc_spans p s (rpc_input h) =
      let q : s.start ≡ r.input.span.start = start_of s r.input.span h in let n = k.input.within in (omega arith, omega arith)
  rpc_spans p s (rpc_output h) =
      let q : s.start ≡ r.output.span.start = start_of s r.output.span h in let n = k.output.within in (omega arith, omega arith)

  one_rpc : (p : DeclPart) (s t : Span) → IsOfRpc r s p → IsOfRpc r t p → s ≡ t
  one_rpc p s t (rpc_name h) (rpc_name u) = h ∙ sym u
  one_rpc p s t (rpc_input h) (rpc_input u) = h ∙ sym u
  one_rpc p s t (rpc_output h) (rpc_output u) = h ∙ sym u

  rpc_parts : (p q : DeclPart) (s t : Span) → part_rank p < part_rank q → IsOfRpc r s p → IsOfRpc r t q → s.start < t.start
  rpc_parts p q s t l h (rpc_name u) = absurd (no_name p l h)
    where
      no_name : (p : DeclPart) → part_rank p < 3 → IsOfRpc r s p → ⊥
      no_name p l (rpc_name h) = omega arith
      no_name p l (rpc_input h) = omega arith
      no_name p l (rpc_output h) = omega arith
  rpc_parts p q s t l (rpc_name h) (rpc_input u) =
      let a : s.start ≡ r.name.span.start = start_of s r.name.span h in
      let o : t.start ≡ r.input.span.start = start_of t r.input.span u in
      let n = k.named in
      omega arith
  rpc_parts p q s t l (rpc_input h) (rpc_input u) = absurd (omega arith)
  rpc_parts p q s t l (rpc_output h) (rpc_input u) = absurd (omega arith)
  rpc_parts p q s t l (rpc_name h) (rpc_output u) =
      let a : s.start ≡ r.name.span.start = start_of s r.name.span h in
      let o : t.start ≡ r.output.span.start = start_of t r.output.span u in
      let n = k.named in
      let m = k.ordered in
      omega arith
  rpc_parts p q s t l (rpc_input h) (rpc_output u) =
      let a : s.start ≡ r.input.span.start = start_of s r.input.span h in
      let o : t.start ≡ r.output.span.start = start_of t r.output.span u in
      let n = k.ordered in
      omega arith
  rpc_parts p q s t l (rpc_output h) (rpc_output u) = absurd (omega arith)

abbrev pub with_rpc : RpcDecl → ServiceDecl → ServiceDecl
with_rpc r x = record x { rpcs = x.rpcs ++ r ∷ [] }

pub in_new_rpc : (r : RpcDecl) (ss : List ServiceDecl) (i : ℕ) (m : ServiceDecl) → suc i ≡ length ss → slice_get ss i ≡ Some m
    → {s : Span} {x : DeclIndex} {p : DeclPart} → InServices (edit_last (with_rpc r) ss) s x p
    → InServices ss s x p ⊎ ((x ≡ rpc_decl i (length m.rpcs)) × IsOfRpc r s p)
in_new_rpc r ss i m oi mi (service_in k n q h) =
    elim (in_edited_last (with_rpc r) ss k n q) [
      | changed y g l u ↦ inl (service_in k y g (h ∙ ap (λ (x : ServiceDecl). x.name.span) u))
      | kept g l ↦ inl (service_in k n g h)
    ]
in_new_rpc r ss i m oi mi {s = s} {p = p} (rpc_in k j n z q g h) =
    elim (in_edited_last (with_rpc r) ss k n q) [
      | changed y d l u ↦ by y d l (in_pushed y.rpcs r j z (ap (λ (x : ServiceDecl). slice_get x.rpcs j) (sym u) ∙ g))
      | kept d l ↦ inl (rpc_in k j n z d g h)
    ]
  where
    by : (y : ServiceDecl) → slice_get ss k ≡ Some y → suc k ≡ length ss → (slice_get y.rpcs j ≡ Some z) ⊎ ((j ≡ length y.rpcs) × (z ≡ r))
        → InServices ss s (rpc_decl k j) p ⊎ ((rpc_decl k j ≡ rpc_decl i (length m.rpcs)) × IsOfRpc r s p)
    by y d l (inl w) = inl (rpc_in k j y z d w h)
    by y d l (inr (a, w)) =
        let ki : k ≡ i = omega arith in
        let ym : y ≡ m = one_at ss i y m (subst (λ (k : ℕ). slice_get ss k ≡ Some y) ki d) mi in
        let jm : j ≡ length m.rpcs = a ∙ ap (λ (x : ServiceDecl). length x.rpcs) ym in
        inr ((cc), subst (λ (z : RpcDecl). IsOfRpc z s p) w h)

pub kept_rpc : (F : File) (b c : ℕ) (r : RpcDecl) → b ≤ c → RpcWithin b c r → Kept F b
    → Kept (record F { services = edit_last (with_rpc r) F.services }) c
kept_rpc F b c r l w k = by (edit_last_cases (with_rpc r) F.services)
  where
    G : File
    G = record F { services = edit_last (with_rpc r) F.services }

    by : (edit_last (with_rpc r) F.services ≡ F.services) ⊎ IsEdited F.services (λ i. suc i ≡ length F.services) → Kept G c
    by (inl e) = subst (λ (ss : List ServiceDecl). Kept (record F { services = ss }) c) (sym e) (kept_to F b c l k)
    by (inr d) =
        kept_adds F G b c (rpc_decl d.place (length d.item.rpcs)) (IsOfRpc r) k l
        (record {
          old = λ x p s h. elim (in_services F (edit_last (with_rpc r) F.services) h) [
            | inl u ↦ inl u
            | inr u ↦ through (of_services F) (in_new_rpc r F.services d.place d.item d.here d.is u)
          ];
          last = λ y p s q h. no_place F.services (λ x. x.rpcs) d.place (length d.item.rpcs) d.item d.is (omega arith) (rpc_precedes q h);
          fresh = λ p s h. no_place F.services (λ x. x.rpcs) d.place (length d.item.rpcs) d.item d.is (omega arith) (rpc_place h);
          alone = precedes_itself (rpc_decl d.place (length d.item.rpcs));
          behind = λ p s h. (rpc_spans b c r w p s h).0;
          before = λ p s h. (rpc_spans b c r w p s h).1;
          one = one_rpc b c r w;
          parts = rpc_parts b c r w;
        })
        k.ordered.enum_after
