-- Where each name and number of the joined files is in its own file.
use Rattle.std.proofs.Common.{◌≡◌, ℕ, ◌+◌, ◌<◌, ◌⊎◌, inl, inr, zero, suc, List, [], ◌∷◌, length, Option, Some, None}
use Rattle.std.proofs.Common.{option_map, slice_get, IfSome, refl, ap, sym, ◌∙◌, subst, arith}
use Rattle.std.proofs.lemmas.Option.{none-some, same_Some, slice_get_within}
use Rattle.proto_ast.specs.declared.file.Span.{Span}
use Rattle.proto_ast.specs.declared.file.Word.{Word}
use Rattle.proto_ast.specs.declared.file.FieldType.{FieldType}
use Rattle.proto_ast.specs.declared.file.FieldType.TheVariants.{Named, Map, NestedMap}
use Rattle.proto_ast.specs.declared.file.FieldDecl.{FieldDecl}
use Rattle.proto_ast.specs.declared.file.MessageDecl.{MessageDecl}
use Rattle.proto_ast.specs.declared.file.ValueDecl.{ValueDecl}
use Rattle.proto_ast.specs.declared.file.EnumDecl.{EnumDecl}
use Rattle.proto_ast.specs.declared.file.RpcDecl.{RpcDecl}
use Rattle.proto_ast.specs.declared.file.ServiceDecl.{ServiceDecl}
use Rattle.proto_ast.specs.declared.file.File.{File}
use Rattle.proto_ast.specs.declared.joined.Head.{Head}
use Rattle.proto_ast.specs.Order.{DeclPart as Piece, IsOfField, field_type, map_key, map_value, outer_key, field_name}
use Rattle.proto_ast.specs.Order.{field_number, IsOfValue, value_name, value_number, IsOfRpc, rpc_name, rpc_input}
use Rattle.proto_ast.specs.Order.{rpc_output, DeclIndex as Own, package_decl as own_package}
use Rattle.proto_ast.specs.Order.{message_decl as own_message, field_decl as own_field, oneof_decl as own_oneof}
use Rattle.proto_ast.specs.Order.{enum_decl as own_enum, value_decl as own_value, service_decl as own_service}
use Rattle.proto_ast.specs.Order.{rpc_decl as own_rpc, IsPartSpan as OwnStandsAt, package_name as own_package_at}
use Rattle.proto_ast.specs.Order.{import as own_import_at, message as own_message_at, field as own_field_at}
use Rattle.proto_ast.specs.Order.{oneof as own_oneof_at, enum as own_enum_at, value as own_value_at}
use Rattle.proto_ast.specs.Order.{service as own_service_at, rpc as own_rpc_at, IsAlwaysBefore as OwnPrecedes}
use Rattle.proto_ast.specs.Order.{messages as own_messages, enums as own_enums, services as own_services}
use Rattle.proto_ast.specs.Order.{fields as own_fields, oneofs as own_oneofs, values as own_values, rpcs as own_rpcs}
use Rattle.proto_ast.specs.Order.{in_message as own_in_message, oneof_in_message as own_oneof_in_message}
use Rattle.proto_ast.specs.Order.{in_enum as own_in_enum, in_service as own_in_service}
use Rattle.proto_ast.specs.Together.{DeclIndex, package_decl, message_decl, field_decl, oneof_decl, enum_decl}
use Rattle.proto_ast.specs.Together.{value_decl, service_decl, rpc_decl, IsPartSpan, package_name, message, field}
use Rattle.proto_ast.specs.Together.{oneof, enum, value, service, rpc, IsAlwaysBefore, messages, enums, services, fields}
use Rattle.proto_ast.specs.Together.{oneofs, values, rpcs, in_message, oneof_in_message, in_enum, in_service}
use Rattle.proto_set.specs.declared.linked_file.LinkedFile.{LinkedFile}
use Rattle.proto_set.specs.Joining.{before_first_file, heads_of, joined}
use Rattle.proto_set.specs.Shifted.{shift_span, shift_word, shift_type, shift_field, shift_value, shift_rpc, shift_message, shift_enum, shift_service, shift_head}
use Rattle.proto_ast.specs.Within.{IsSpanWithin, IsWordWithin, IsTypeWithin, IsFieldWithin, IsMessageWithin, IsValueWithin, IsEnumWithin, IsRpcWithin, IsServiceWithin, IsWithin}
use Rattle.proto_set.proofs.Finding.{start, one_start, start_order, start-one, before_at, size_of, messages_of, bytes_here, got_of_all, got_of_map, found}

abbrev pub enums_of : LinkedFile → ℕ
enums_of p = length p.file.enums

abbrev pub services_of : LinkedFile → ℕ
services_of p = length p.file.services

-- ---- a declaration of the file with an index, among those of all files

pub data Moved (ps : List LinkedFile) (j : ℕ) (p : LinkedFile) : Own → DeclIndex → Type 0 where
  of_package : (i : ℕ) → i ≡ j → Moved ps j p own_package (package_decl i)
  of_message : (a i : ℕ) → a < messages_of p → i ≡ start messages_of ps j + a → Moved ps j p (own_message a) (message_decl i)
  of_field : (a i c : ℕ) → a < messages_of p → i ≡ start messages_of ps j + a → Moved ps j p (own_field a c) (field_decl i c)
  of_oneof : (a i c : ℕ) → a < messages_of p → i ≡ start messages_of ps j + a → Moved ps j p (own_oneof a c) (oneof_decl i c)
  of_enum : (a i : ℕ) → a < enums_of p → i ≡ start enums_of ps j + a → Moved ps j p (own_enum a) (enum_decl i)
  of_value : (a i c : ℕ) → a < enums_of p → i ≡ start enums_of ps j + a → Moved ps j p (own_value a c) (value_decl i c)
  of_service : (a i : ℕ) → a < services_of p → i ≡ start services_of ps j + a → Moved ps j p (own_service a) (service_decl i)
  of_rpc : (a i c : ℕ) → a < services_of p → i ≡ start services_of ps j + a → Moved ps j p (own_rpc a c) (rpc_decl i c)

pub record Located (ps : List LinkedFile) (s : Span) (x : DeclIndex) (piece : Piece) : Type 0 where
  pub file : ℕ
  pub part : LinkedFile
  pub own : Own
  pub span : Span
  pub there : slice_get ps file ≡ Some part
  pub moved : Moved ps file part own x
  pub stands : OwnStandsAt part.file span own piece
  pub shifted : s ≡ shift_span (start size_of ps file) span

-- ---- parts of what was shifted

named_back : (n : ℕ) (t : FieldType) (w : Word) → shift_type n t ≡ Named w → (v : Word) × (t ≡ Named v) × (w ≡ shift_word n v)
named_back n (Named v) w e = (v, refl, cc)
named_back n (Map key item) w e = absurd (cc)
named_back n (NestedMap key) w e = absurd (cc)

map_back : (n : ℕ) (t : FieldType) (k v : Word) → shift_type n t ≡ Map k v
    → (key : Word) × (item : Word) × (t ≡ Map key item) × (k ≡ shift_word n key) × (v ≡ shift_word n item)
map_back n (Named w) k v e = absurd (cc)
map_back n (Map key item) k v e = (key, item, refl, cc, cc)
map_back n (NestedMap key) k v e = absurd (cc)

outer_back : (n : ℕ) (t : FieldType) (k : Word) → shift_type n t ≡ NestedMap k
    → (key : Word) × (t ≡ NestedMap key) × (k ≡ shift_word n key)
outer_back n (Named w) k e = absurd (cc)
outer_back n (Map key item) k e = absurd (cc)
outer_back n (NestedMap key) k e = (key, refl, cc)

-- a piece of what was shifted is a shifted piece
abbrev Back : (n : ℕ) (s : Span) → (Span → Type 0) → Type 0
Back n s P = (t : Span) × P t × (s ≡ shift_span n t)

field_back : (n : ℕ) (f : FieldDecl) (s : Span) (piece : Piece) → IsOfField (shift_field n f) s piece → Back n s (λ t. IsOfField f t piece)
field_back n f s piece (field_type w e h) =
    let b = named_back n f.kind w e in (b.0.span, field_type b.0 b.1 refl, h ∙ ap (λ (v : Word). v.span) b.2)
field_back n f s piece (map_key k v e h) =
    let b = map_back n f.kind k v e in (b.0.span, map_key b.0 b.1 b.2 refl, h ∙ ap (λ (w : Word). w.span) b.3)
field_back n f s piece (map_value k v e h) =
    let b = map_back n f.kind k v e in (b.1.span, map_value b.0 b.1 b.2 refl, h ∙ ap (λ (w : Word). w.span) b.4)
field_back n f s piece (outer_key k e h) =
    let b = outer_back n f.kind k e in (b.0.span, outer_key b.0 b.1 refl, h ∙ ap (λ (w : Word). w.span) b.2)
field_back n f s piece (field_name h) = (f.name.span, field_name refl, h)
field_back n f s piece (field_number h) = (f.number.span, field_number refl, h)

value_back : (n : ℕ) (v : ValueDecl) (s : Span) (piece : Piece) → IsOfValue (shift_value n v) s piece → Back n s (λ t. IsOfValue v t piece)
value_back n v s piece (value_name h) = (v.name.span, value_name refl, h)
value_back n v s piece (value_number h) = (v.number.span, value_number refl, h)

rpc_back : (n : ℕ) (r : RpcDecl) (s : Span) (piece : Piece) → IsOfRpc (shift_rpc n r) s piece → Back n s (λ t. IsOfRpc r t piece)
rpc_back n r s piece (rpc_name h) = (r.name.span, rpc_name refl, h)
rpc_back n r s piece (rpc_input h) = (r.input.span, rpc_input refl, h)
rpc_back n r s piece (rpc_output h) = (r.output.span, rpc_output refl, h)

package_back : (n : ℕ) (o : Option Word) (w : Word) → option_map (shift_word n) o ≡ Some w → (v : Word) × (o ≡ Some v) × (w ≡ shift_word n v)
package_back n None w e = absurd (none-some w e)
package_back n (Some v) w e = (v, refl, sym (same_Some (shift_word n v) w e))

pub head_item : {X : Type 0} (x y : X) (i : ℕ) → slice_get (x ∷ []) i ≡ Some y → (i ≡ 0) × (x ≡ y)
head_item x y zero e = (refl, same_Some x y e)
head_item x y (suc i) e = absurd (none-some y e)

-- ---- a span of the joined files

here : (ps : List LinkedFile) (j : ℕ) (s t : Span) → s ≡ shift_span (before_at before_first_file ps j).bytes t → s ≡ shift_span (start size_of ps j) t
here ps j s t e = e ∙ ap (λ n. shift_span n t) (bytes_here ps j)

pub located : (ps : List LinkedFile) (s : Span) (x : DeclIndex) (piece : Piece) → IsPartSpan (joined ps) s x piece → Located ps s x piece
located ps s x piece (package_name k h w e eh es) =
    let f = found shift_head heads_of before_first_file ps k h e in
    let one = head_item (record { «package» = f.part.file.package; sees = f.part.sees }) f.own f.place f.item in
    let n = (before_at before_first_file ps f.file).bytes in
    let b = package_back n f.part.file.package w
    (ap (λ (d : Head). option_map (shift_word n) d.package) one.1 ∙ sym (ap (λ (d : Head). d.package) f.is) ∙ eh) in
    record {
      file = f.file;
      part = f.part;
      own = own_package;
      span = b.0.span;
      there = f.there;
      moved = of_package k (omega (arith, f.stands, one.0, start-one ps f.file f.part f.there));
      stands = own_package_at b.0 b.1 refl;
      shifted = here ps f.file s b.0.span (es ∙ ap (λ (v : Word). v.span) b.2);
    }
located ps s x piece (message i m e es) =
    let f = found shift_message (λ p. p.file.messages) before_first_file ps i m e in
    record {
      file = f.file;
      part = f.part;
      own = own_message f.place;
      span = f.own.name.span;
      there = f.there;
      moved = of_message f.place i (slice_get_within f.part.file.messages f.place f.own f.item) f.stands;
      stands = own_message_at f.place f.own f.item refl;
      shifted = here ps f.file s f.own.name.span (es ∙ ap (λ (d : MessageDecl). d.name.span) f.is);
    }
located ps s x piece (field i c m d e ed es) =
    let f = found shift_message (λ p. p.file.messages) before_first_file ps i m e in
    let n = (before_at before_first_file ps f.file).bytes in
    let g = got_of_map (shift_field n) f.own.fields c d (ap (λ (l : MessageDecl). slice_get l.fields c) (sym f.is) ∙ ed) in
    let b = field_back n g.0 s piece (subst (λ (y : FieldDecl). IsOfField y s piece) g.2 es) in
    record {
      file = f.file;
      part = f.part;
      own = own_field f.place c;
      span = b.0;
      there = f.there;
      moved = of_field f.place i c (slice_get_within f.part.file.messages f.place f.own f.item) f.stands;
      stands = own_field_at f.place c f.own g.0 f.item g.1 b.1;
      shifted = here ps f.file s b.0 b.2;
    }
located ps s x piece (oneof i c m o e eo es) =
    let f = found shift_message (λ p. p.file.messages) before_first_file ps i m e in
    let n = (before_at before_first_file ps f.file).bytes in
    let g = got_of_map (shift_word n) f.own.oneofs c o (ap (λ (l : MessageDecl). slice_get l.oneofs c) (sym f.is) ∙ eo) in
    record {
      file = f.file;
      part = f.part;
      own = own_oneof f.place c;
      span = g.0.span;
      there = f.there;
      moved = of_oneof f.place i c (slice_get_within f.part.file.messages f.place f.own f.item) f.stands;
      stands = own_oneof_at f.place c f.own g.0 f.item g.1 refl;
      shifted = here ps f.file s g.0.span (es ∙ ap (λ (w : Word). w.span) g.2);
    }
located ps s x piece (enum i m e es) =
    let f = found shift_enum (λ p. p.file.enums) before_first_file ps i m e in
    record {
      file = f.file;
      part = f.part;
      own = own_enum f.place;
      span = f.own.name.span;
      there = f.there;
      moved = of_enum f.place i (slice_get_within f.part.file.enums f.place f.own f.item) f.stands;
      stands = own_enum_at f.place f.own f.item refl;
      shifted = here ps f.file s f.own.name.span (es ∙ ap (λ (d : EnumDecl). d.name.span) f.is);
    }
located ps s x piece (value i c m v e ev es) =
    let f = found shift_enum (λ p. p.file.enums) before_first_file ps i m e in
    let n = (before_at before_first_file ps f.file).bytes in
    let g = got_of_map (shift_value n) f.own.values c v (ap (λ (l : EnumDecl). slice_get l.values c) (sym f.is) ∙ ev) in
    let b = value_back n g.0 s piece (subst (λ (y : ValueDecl). IsOfValue y s piece) g.2 es) in
    record {
      file = f.file;
      part = f.part;
      own = own_value f.place c;
      span = b.0;
      there = f.there;
      moved = of_value f.place i c (slice_get_within f.part.file.enums f.place f.own f.item) f.stands;
      stands = own_value_at f.place c f.own g.0 f.item g.1 b.1;
      shifted = here ps f.file s b.0 b.2;
    }
located ps s x piece (service i m e es) =
    let f = found shift_service (λ p. p.file.services) before_first_file ps i m e in
    record {
      file = f.file;
      part = f.part;
      own = own_service f.place;
      span = f.own.name.span;
      there = f.there;
      moved = of_service f.place i (slice_get_within f.part.file.services f.place f.own f.item) f.stands;
      stands = own_service_at f.place f.own f.item refl;
      shifted = here ps f.file s f.own.name.span (es ∙ ap (λ (d : ServiceDecl). d.name.span) f.is);
    }
located ps s x piece (rpc i c m r e er es) =
    let f = found shift_service (λ p. p.file.services) before_first_file ps i m e in
    let n = (before_at before_first_file ps f.file).bytes in
    let g = got_of_map (shift_rpc n) f.own.rpcs c r (ap (λ (l : ServiceDecl). slice_get l.rpcs c) (sym f.is) ∙ er) in
    let b = rpc_back n g.0 s piece (subst (λ (y : RpcDecl). IsOfRpc y s piece) g.2 es) in
    record {
      file = f.file;
      part = f.part;
      own = own_rpc f.place c;
      span = b.0;
      there = f.there;
      moved = of_rpc f.place i c (slice_get_within f.part.file.services f.place f.own f.item) f.stands;
      stands = own_rpc_at f.place c f.own g.0 f.item g.1 b.1;
      shifted = here ps f.file s b.0 b.2;
    }

-- ---- its own span lies in its text

field_within : (size : ℕ) (f : FieldDecl) (s : Span) (piece : Piece) → IsFieldWithin size f → IsOfField f s piece → IsSpanWithin size s
field_within size f s piece w (field_type v e h) = subst (IsSpanWithin size) (sym h) (subst (IsTypeWithin size) e w.kind)
field_within size f s piece w (map_key k v e h) =
    let both : IsTypeWithin size (Map k v) = subst (IsTypeWithin size) e w.kind in subst (IsSpanWithin size) (sym h) both.0
field_within size f s piece w (map_value k v e h) =
    let both : IsTypeWithin size (Map k v) = subst (IsTypeWithin size) e w.kind in subst (IsSpanWithin size) (sym h) both.1
field_within size f s piece w (outer_key k e h) = subst (IsSpanWithin size) (sym h) (subst (IsTypeWithin size) e w.kind)
field_within size f s piece w (field_name h) = subst (IsSpanWithin size) (sym h) w.name
field_within size f s piece w (field_number h) = subst (IsSpanWithin size) (sym h) w.number

value_within : (size : ℕ) (v : ValueDecl) (s : Span) (piece : Piece) → IsValueWithin size v → IsOfValue v s piece → IsSpanWithin size s
value_within size v s piece w (value_name h) = subst (IsSpanWithin size) (sym h) w.name
value_within size v s piece w (value_number h) = subst (IsSpanWithin size) (sym h) w.number

rpc_within : (size : ℕ) (r : RpcDecl) (s : Span) (piece : Piece) → IsRpcWithin size r → IsOfRpc r s piece → IsSpanWithin size s
rpc_within size r s piece w (rpc_name h) = subst (IsSpanWithin size) (sym h) w.name
rpc_within size r s piece w (rpc_input h) = subst (IsSpanWithin size) (sym h) w.input
rpc_within size r s piece w (rpc_output h) = subst (IsSpanWithin size) (sym h) w.output

some_within : (size : ℕ) (o : Option Word) (w : Word) → IfSome o (IsWordWithin size) → o ≡ Some w → IsWordWithin size w
some_within size o w all e = let P : Option Word → Type 0 = λ v. IfSome v (IsWordWithin size) in subst P e all

pub stands_within : (ps : List LinkedFile) (j : ℕ) (p : LinkedFile) (size : ℕ) (F : File) (y : Own) (x : DeclIndex) (piece : Piece) (t : Span)
    → Moved ps j p y x → IsWithin size F → OwnStandsAt F t y piece → IsSpanWithin size t
stands_within ps j p size F y x piece t moved w (own_package_at v e h) =
    subst (IsSpanWithin size) (sym h) (some_within size F.package v w.package_name e)
stands_within ps j p size F y x piece t moved w (own_import_at i v e h) = elim moved [ ]
stands_within ps j p size F y x piece t moved w (own_message_at i m e h) =
    subst (IsSpanWithin size) (sym h) (got_of_all (IsMessageWithin size) F.messages i m w.messages e).name
stands_within ps j p size F y x piece t moved w (own_field_at i c m f e ef h) =
    field_within size f t piece
    (got_of_all (IsFieldWithin size) m.fields c f (got_of_all (IsMessageWithin size) F.messages i m w.messages e).fields ef) h
stands_within ps j p size F y x piece t moved w (own_oneof_at i c m o e eo h) =
    subst (IsSpanWithin size) (sym h)
    (got_of_all (IsWordWithin size) m.oneofs c o (got_of_all (IsMessageWithin size) F.messages i m w.messages e).oneofs eo)
stands_within ps j p size F y x piece t moved w (own_enum_at i m e h) =
    subst (IsSpanWithin size) (sym h) (got_of_all (IsEnumWithin size) F.enums i m w.enums e).name
stands_within ps j p size F y x piece t moved w (own_value_at i c m v e ev h) =
    value_within size v t piece
    (got_of_all (IsValueWithin size) m.values c v (got_of_all (IsEnumWithin size) F.enums i m w.enums e).values ev) h
stands_within ps j p size F y x piece t moved w (own_service_at i m e h) =
    subst (IsSpanWithin size) (sym h) (got_of_all (IsServiceWithin size) F.services i m w.services e).name
stands_within ps j p size F y x piece t moved w (own_rpc_at i c m r e er h) =
    rpc_within size r t piece
    (got_of_all (IsRpcWithin size) m.rpcs c r (got_of_all (IsServiceWithin size) F.services i m w.services e).rpcs er) h

-- ---- two declarations of the joined files

-- a joined declaration comes from one file and one declaration there
pub same_own : (ps : List LinkedFile) (j k : ℕ) (p q : LinkedFile) (y z : Own) (x : DeclIndex) → slice_get ps j ≡ Some p → slice_get ps k ≡ Some q
    → Moved ps j p y x → Moved ps k q z x → (j ≡ k) × (y ≡ z)
same_own ps j k p q y z x at_j at_k (of_package i e) (of_package _ f) = (sym e ∙ f, refl)
same_own ps j k p q y z x at_j at_k (of_message a i l e) (of_message b _ m f) =
    let s = one_start messages_of ps j k p q a b at_j at_k l m (sym e ∙ f) in (s.0, ap own_message s.1)
same_own ps j k p q y z x at_j at_k (of_field a i c l e) (of_field b _ _ m f) =
    let s = one_start messages_of ps j k p q a b at_j at_k l m (sym e ∙ f) in (s.0, ap (λ n. own_field n c) s.1)
same_own ps j k p q y z x at_j at_k (of_oneof a i c l e) (of_oneof b _ _ m f) =
    let s = one_start messages_of ps j k p q a b at_j at_k l m (sym e ∙ f) in (s.0, ap (λ n. own_oneof n c) s.1)
same_own ps j k p q y z x at_j at_k (of_enum a i l e) (of_enum b _ m f) =
    let s = one_start enums_of ps j k p q a b at_j at_k l m (sym e ∙ f) in (s.0, ap own_enum s.1)
same_own ps j k p q y z x at_j at_k (of_value a i c l e) (of_value b _ _ m f) =
    let s = one_start enums_of ps j k p q a b at_j at_k l m (sym e ∙ f) in (s.0, ap (λ n. own_value n c) s.1)
same_own ps j k p q y z x at_j at_k (of_service a i l e) (of_service b _ m f) =
    let s = one_start services_of ps j k p q a b at_j at_k l m (sym e ∙ f) in (s.0, ap own_service s.1)
same_own ps j k p q y z x at_j at_k (of_rpc a i c l e) (of_rpc b _ _ m f) =
    let s = one_start services_of ps j k p q a b at_j at_k l m (sym e ∙ f) in (s.0, ap (λ n. own_rpc n c) s.1)

-- a declaration of a file becomes one joined declaration
pub same_moved : (ps : List LinkedFile) (j : ℕ) (p : LinkedFile) (y : Own) (x w : DeclIndex) → Moved ps j p y x → Moved ps j p y w → x ≡ w
same_moved ps j p y x w (of_package i e) (of_package k f) = ap package_decl (e ∙ sym f)
same_moved ps j p y x w (of_message a i l e) (of_message _ k m f) = ap message_decl (e ∙ sym f)
same_moved ps j p y x w (of_field a i c l e) (of_field _ k _ m f) = ap (λ n. field_decl n c) (e ∙ sym f)
same_moved ps j p y x w (of_oneof a i c l e) (of_oneof _ k _ m f) = ap (λ n. oneof_decl n c) (e ∙ sym f)
same_moved ps j p y x w (of_enum a i l e) (of_enum _ k m f) = ap enum_decl (e ∙ sym f)
same_moved ps j p y x w (of_value a i c l e) (of_value _ k _ m f) = ap (λ n. value_decl n c) (e ∙ sym f)
same_moved ps j p y x w (of_service a i l e) (of_service _ k m f) = ap service_decl (e ∙ sym f)
same_moved ps j p y x w (of_rpc a i c l e) (of_rpc _ k _ m f) = ap (λ n. rpc_decl n c) (e ∙ sym f)

-- if one precedes another, it is of an earlier file, or precedes it in their common file
abbrev pub InOrder : (j k : ℕ) (y z : Own) → Type 0
InOrder j k y z = (j < k) ⊎ ((j ≡ k) × OwnPrecedes y z)

later : (f : LinkedFile → ℕ) (ps : List LinkedFile) (j k : ℕ) (p q : LinkedFile) (a b i h : ℕ) (y z : Own) → slice_get ps j ≡ Some p → slice_get ps k ≡ Some q
    → a < f p → b < f q → i ≡ start f ps j + a → h ≡ start f ps k + b → i < h → (a < b → OwnPrecedes y z) → InOrder j k y z
later f ps j k p q a b i h y z at_j at_k l m e g less then =
    elim (start_order f ps j k p q a b at_j at_k l m (omega arith)) [
      | inl o ↦ inl o
      | inr o ↦ inr (o.0, then o.1)
    ]

pub own_precedes : (ps : List LinkedFile) (j k : ℕ) (p q : LinkedFile) (y z : Own) (x w : DeclIndex) → slice_get ps j ≡ Some p → slice_get ps k ≡ Some q
    → IsAlwaysBefore x w → Moved ps j p y x → Moved ps k q z w → InOrder j k y z
own_precedes ps j k p q y z x w at_j at_k (messages _ _ less) (of_message a i l e) (of_message b h m f) =
    later messages_of ps j k p q a b i h (own_message a) (own_message b) at_j at_k l m e f less (own_messages a b)
own_precedes ps j k p q y z x w at_j at_k (enums _ _ less) (of_enum a i l e) (of_enum b h m f) =
    later enums_of ps j k p q a b i h (own_enum a) (own_enum b) at_j at_k l m e f less (own_enums a b)
own_precedes ps j k p q y z x w at_j at_k (services _ _ less) (of_service a i l e) (of_service b h m f) =
    later services_of ps j k p q a b i h (own_service a) (own_service b) at_j at_k l m e f less (own_services a b)
own_precedes ps j k p q y z x w at_j at_k (fields _ _ _ less) (of_field a i c l e) (of_field b _ d m f) =
    let s = one_start messages_of ps j k p q a b at_j at_k l m (sym e ∙ f) in
    inr (s.0, subst (λ n. OwnPrecedes (own_field a c) (own_field n d)) s.1 (own_fields a c d less))
own_precedes ps j k p q y z x w at_j at_k (oneofs _ _ _ less) (of_oneof a i c l e) (of_oneof b _ d m f) =
    let s = one_start messages_of ps j k p q a b at_j at_k l m (sym e ∙ f) in
    inr (s.0, subst (λ n. OwnPrecedes (own_oneof a c) (own_oneof n d)) s.1 (own_oneofs a c d less))
own_precedes ps j k p q y z x w at_j at_k (values _ _ _ less) (of_value a i c l e) (of_value b _ d m f) =
    let s = one_start enums_of ps j k p q a b at_j at_k l m (sym e ∙ f) in
    inr (s.0, subst (λ n. OwnPrecedes (own_value a c) (own_value n d)) s.1 (own_values a c d less))
own_precedes ps j k p q y z x w at_j at_k (rpcs _ _ _ less) (of_rpc a i c l e) (of_rpc b _ d m f) =
    let s = one_start services_of ps j k p q a b at_j at_k l m (sym e ∙ f) in
    inr (s.0, subst (λ n. OwnPrecedes (own_rpc a c) (own_rpc n d)) s.1 (own_rpcs a c d less))
own_precedes ps j k p q y z x w at_j at_k (in_message _ _) (of_message a i l e) (of_field b _ d m f) =
    let s = one_start messages_of ps j k p q a b at_j at_k l m (sym e ∙ f) in
    inr (s.0, subst (λ n. OwnPrecedes (own_message a) (own_field n d)) s.1 (own_in_message a d))
own_precedes ps j k p q y z x w at_j at_k (oneof_in_message _ _) (of_message a i l e) (of_oneof b _ d m f) =
    let s = one_start messages_of ps j k p q a b at_j at_k l m (sym e ∙ f) in
    inr (s.0, subst (λ n. OwnPrecedes (own_message a) (own_oneof n d)) s.1 (own_oneof_in_message a d))
own_precedes ps j k p q y z x w at_j at_k (in_enum _ _) (of_enum a i l e) (of_value b _ d m f) =
    let s = one_start enums_of ps j k p q a b at_j at_k l m (sym e ∙ f) in
    inr (s.0, subst (λ n. OwnPrecedes (own_enum a) (own_value n d)) s.1 (own_in_enum a d))
own_precedes ps j k p q y z x w at_j at_k (in_service _ _) (of_service a i l e) (of_rpc b _ d m f) =
    let s = one_start services_of ps j k p q a b at_j at_k l m (sym e ∙ f) in
    inr (s.0, subst (λ n. OwnPrecedes (own_service a) (own_rpc n d)) s.1 (own_in_service a d))
