-- The text of a table is made of lines of distinct declarations of the files.
use Rattle.std.proofs.Common.{◌≡◌, ℕ, suc, ◌+◌, ◌<◌, ◌≤◌, Bool, true, false, cond, List, [], ◌∷◌, ◌++◌, length}
use Rattle.std.proofs.Common.{get_or, map, take, Option, Some, None, refl, sym, ap, ◌∙◌, subst, arith, zero-add}
use Rattle.std.specs.Prelude.{Contains, All, slice_get, codes, ℤ, FitsSigned, ◌&&◌}
use Rattle.std.specs.Int.{w32}
use Rattle.std.specs.List.{flat_map, enumerate_from, AllByRecursion}
use Rattle.std.specs.Fmt.{decimal}
use Rattle.std.proofs.lemmas.Option.{same_Some, slice_get-get_or}
use Rattle.std.proofs.lemmas.List.Elements.{All-contains}
use Rattle.mrpc_table.specs.Scalars.{no_table}
use Rattle.mrpc_table.specs.Text.{line, value_line, enum_lines, field_line, message_lines, method_line, table_text, message_name, label_text, kind_text}
use Rattle.mrpc_table.specs.Valid.{AreDistinct, IsField, IsFieldNumber}
use Rattle.mrpc_table.specs.declared.limits.TheConstants.{MAX_TEXT}
use Rattle.mrpc_table.specs.declared.table.Label.{Label}
use Rattle.mrpc_table.specs.declared.table.Label.TheVariants as labels
use Rattle.mrpc_table.specs.declared.table.Field.{Field}
use Rattle.mrpc_table.specs.declared.table.Message.{Message}
use Rattle.mrpc_table.specs.declared.table.Choices.{Choices}
use Rattle.mrpc_table.specs.declared.table.Method.{Method}
use Rattle.mrpc_table.specs.declared.table.Table.{Table}
use Rattle.proto_ast.specs.Order
use Rattle.proto_ast.specs.Together.{DeclIndex, IsOrdered, enum_decl, field_decl, message_decl, rpc_decl, value_decl}
use Rattle.proto_ast.specs.declared.file.Span.{Span}
use Rattle.proto_ast.specs.declared.file.FieldLabel.{FieldLabel}
use Rattle.proto_ast.specs.declared.file.FieldLabel.TheVariants.{Plain, Optional, Repeated}
use Rattle.proto_ast.specs.declared.file.FieldDecl.{FieldDecl}
use Rattle.proto_ast.specs.declared.file.MessageDecl.{MessageDecl}
use Rattle.proto_ast.specs.declared.file.ValueDecl.{ValueDecl}
use Rattle.proto_ast.specs.declared.file.EnumDecl.{EnumDecl}
use Rattle.proto_ast.specs.declared.file.RpcDecl.{RpcDecl}
use Rattle.proto_ast.specs.declared.file.ServiceDecl.{ServiceDecl}
use Rattle.proto_ast.specs.Joined.{Joined, package_at}
use Rattle.proto_ast.specs.declared.joined.Enclosing.TheVariants as home
use Rattle.proto_ast.specs.Together
use Rattle.schema_symbols.specs.Scopes.{text_of, IsScope, of_message}
use Rattle.schema_validation.specs.Methods.{rpcs_of, service_rpcs}
use Rattle.schema_validation.specs.Correspondence.{AreCorrespondingInOrder, none, next}
use Rattle.schema_validation.specs.Types.{signed_value, isnt_false, single_label, label_in, HasShape, single, a_map}
use Rattle.schema_validation.specs.Lines
use Rattle.schema_validation.specs.Lines.{HasLine}
use Rattle.schema_resolve.specs.Tables.{IsFieldOf, IsValueOf}
use Rattle.schema_resolve.specs.Resolving.{HasNoViolation}
use Rattle.schema_resolve.specs.Placing.{IsOrder, HasTableNames}
use Rattle.schema_resolve.specs.InOrder.{IsEnumAt, IsMethodIn}
use Rattle.schema_resolve.specs.Joining.{IsMessageAt}
use Rattle.schema_resolve.specs.Making.{IsMadeTable}
use Rattle.schema_resolve.specs.declared.plan.TablePlan.{TablePlan}
use Rattle.schema_resolve.proofs.CleanFiles.{in_list, at_in, some_at}
use Rattle.schema_resolve.proofs.KindWords.{scalar_text}
use Rattle.schema_resolve.proofs.TextLines.{Entry, IsEntry, Differ, AllDiffer, text_in, entries_short, all_append, differ_append, text_append}
use Rattle.schema_resolve.proofs.Orders.{order_all, apart_distinct}
use Rattle.schema_resolve.proofs.TableParts.{has_names, RpcHere, rpc_here, same_rpc}

-- ---- parts of a text

record Part (F : Joined) (text : List ℕ) (P : DeclIndex → Type 0) : Type 0 where
  entries : List Entry
  are : AllByRecursion (IsEntry F) entries
  differ : AllDiffer entries
  text_is : text_in entries ≡ text
  owned : AllByRecursion (λ e. P e.decl) entries

all_weaker : (P Q : Entry → Type 0) (es : List Entry) → ((e : Entry) → P e → Q e) → AllByRecursion P es
    → AllByRecursion Q es
all_weaker P Q [] h a = tt
all_weaker P Q (e ∷ es) h a = (h e a.0, all_weaker P Q es h a.1)

no_part : (F : Joined) (P : DeclIndex → Type 0) → Part F [] P
no_part F P = record { entries = []; are = tt; differ = tt; text_is = refl; owned = tt }

cons_part : (F : Joined) (e : Entry) (text : List ℕ) (P Q : DeclIndex → Type 0) → IsEntry F e → Part F text P
    → ((d : DeclIndex) → P d → e.decl ≡ d → ⊥) → Q e.decl → ((d : DeclIndex) → P d → Q d)
    → Part F (e.line ++ text) Q
cons_part F e text P Q is p apart own more = record {
  entries = e ∷ p.entries;
  are = (is, p.are);
  differ = (all_weaker (λ x. P x.decl) (Differ e) p.entries (λ x h. apart x.decl h) p.owned, p.differ);
  text_is = ap (λ (t : List ℕ). e.line ++ t) p.text_is;
  owned = (own, all_weaker (λ x. P x.decl) (λ x. Q x.decl) p.entries (λ x h. more x.decl h) p.owned);
}

join_parts : (F : Joined) (a b : List ℕ) (P Q R : DeclIndex → Type 0) → Part F a P → Part F b Q
    → ((d f : DeclIndex) → P d → Q f → d ≡ f → ⊥) → ((d : DeclIndex) → P d → R d) → ((d : DeclIndex) → Q d → R d)
    → Part F (a ++ b) R
join_parts F a b P Q R p q apart l r = record {
  entries = p.entries ++ q.entries;
  are = all_append (IsEntry F) p.entries q.entries p.are q.are;
  differ = differ_append p.entries q.entries p.differ q.differ
      (all_weaker (λ x. P x.decl) (λ x. AllByRecursion (Differ x) q.entries) p.entries
      (λ x h. all_weaker (λ y. Q y.decl) (Differ x) q.entries (λ y k. apart x.decl y.decl h k) q.owned) p.owned);
  text_is = text_append p.entries q.entries ∙ ap (λ (t : List ℕ). t ++ text_in q.entries) p.text_is
      ∙ ap (λ (t : List ℕ). a ++ t) q.text_is;
  owned = all_append (λ x. R x.decl) p.entries q.entries
      (all_weaker (λ x. P x.decl) (λ x. R x.decl) p.entries (λ x h. l x.decl h) p.owned)
      (all_weaker (λ x. Q x.decl) (λ x. R x.decl) q.entries (λ x h. r x.decl h) q.owned);
}

-- ---- the values of an enum, the fields of a message

record Found (F : Joined) (D : ℕ → DeclIndex) {X : Type 0} (xs : List X) (name : X → List ℕ) (own n : List ℕ)
    : Type 0 where
  at : ℕ
  item : X
  here : slice_get xs at ≡ Some item
  named : name item ≡ n
  span : Span
  entry : IsEntry F (record { decl = D at; span = span; line = own })

record Owned (D : ℕ → DeclIndex) {X : Type 0} (xs : List X) (name : X → List ℕ) (names : List (List ℕ))
    (d : DeclIndex) : Type 0 where
  at : ℕ
  item : X
  is : d ≡ D at
  here : slice_get xs at ≡ Some item
  among : Contains names (name item)

items_part : (F : Joined) (D : ℕ → DeclIndex) {X W : Type 0} (xs : List X) (name : X → List ℕ) (wname wline : W → List ℕ)
    (ws : List W) → ((i j : ℕ) → D i ≡ D j → i ≡ j) → AreDistinct (map wname ws)
    → ((w : W) → Contains ws w → Found F D xs name (wline w) (wname w))
    → Part F (flat_map wline ws) (Owned D xs name (map wname ws))
items_part F D xs name wname wline [] one distinct found = no_part F (Owned D xs name [])
items_part F D {X} {W} xs name wname wline (w ∷ ws) one distinct found =
    let f = found w (0, omega arith, refl) in
    let rest = items_part F D xs name wname wline ws one distinct.1
    (λ v c. found v (suc c.0, omega (arith, c.1), c.2)) in
    cons_part F (record { decl = D f.at; span = f.span; line = wline w }) (flat_map wline ws)
    (Owned D xs name (map wname ws)) (Owned D xs name (wname w ∷ map wname ws)) f.entry rest
    (λ d o e.
    let s : f.at ≡ o.at = one f.at o.at (e ∙ o.is) in
    let t : f.item ≡ o.item = same_Some f.item o.item (sym f.here ∙ ap (slice_get xs) s ∙ o.here) in
    distinct.0 (subst (Contains (map wname ws)) (ap name (sym t) ∙ f.named) o.among))
    (record {
      at = f.at;
      item = f.item;
      is = refl;
      here = f.here;
      among = (0, omega arith, sym f.named);
    })
    (λ d o. record {
      at = o.at;
      item = o.item;
      is = o.is;
      here = o.here;
      among = (suc o.among.0, omega (arith, o.among.1), o.among.2);
    })

-- the class of the enum, message or service that encloses a declaration, and its index
abbrev class : DeclIndex → ℕ
class (enum_decl i) = 1
class (value_decl i j) = 1
class (message_decl i) = 2
class (field_decl i j) = 2
class _ = 3

abbrev place : DeclIndex → ℕ
place (enum_decl i) = i
place (value_decl i j) = i
place (message_decl i) = i
place (field_decl i j) = i
place _ = 0

abbrev IsAt : ℕ → ℕ → DeclIndex → Type 0
IsAt c i d = (class d ≡ c) × (place d ≡ i)

abbrev IsAtOne : ℕ → List ℕ → DeclIndex → Type 0
IsAtOne c is d = (class d ≡ c) × Contains is (place d)

-- ---- enums

value_entry : (F : Joined) (p : TablePlan) (i : ℕ) (e : EnumDecl) (v : ValueDecl) (j : ℕ) (w : ℤ × List ℕ)
    → slice_get F.enums i ≡ Some e → slice_get e.values j ≡ Some v → FitsSigned w32 w.0 → IsValueOf v w
    → IsEntry F (record { decl = value_decl i j; span = v.name.span; line = value_line w })
value_entry F p i e v j w at here fits is =
    let V : ℤ → List ℕ → Type 0 = λ x n. HasLine F v.name.span (value_line (x, n)) in
    let has : V (signed_value v.number) v.name.name =
    Lines.of_value e v (record { enum = in_list F.enums i e at; value = in_list e.values j v here })
    (subst (FitsSigned w32) is.0 fits) in
    record {
      has = subst (λ (n : List ℕ). V w.0 n) (sym is.1) (subst (λ (x : ℤ). V x v.name.name) (sym is.0) has);
      stands = Together.value i j e v at here (Order.value_name refl);
    }

same_value : (i j k : ℕ) → value_decl i j ≡ value_decl i k → j ≡ k
same_value i j k e = cc

not_enum_value : (i j k : ℕ) → enum_decl i ≡ value_decl j k → ⊥
not_enum_value i j k e = cc

enum_part : (F : Joined) (p : TablePlan) (i : ℕ) (c : Choices) → IsEnumAt F p i c → i < length F.enums
    → Part F (enum_lines c) (IsAt 1 i)
enum_part F p i c h l =
    let x = some_at F.enums i l in
    let e = x.0 in
    let is = h.is e x.1 in
    let own : List ℕ = line (codes "enum" ∷ c.name ∷ []) in
    let name : ValueDecl → List ℕ = λ v. v.name.name in
    let values = items_part F (value_decl i) e.values name (λ (w : ℤ × List ℕ). w.1) value_line c.values
    (same_value i) h.valid.names
    (λ w k.
    let v = is.values.alone w k in
    let here = at_in e.values v.0 v.1 in record {
      at = v.1.0;
      item = v.0;
      here = here;
      named = sym v.2.1;
      span = v.0.name.span;
      entry = value_entry F p i e v.0 v.1.0 w x.1 here
          (All-contains (λ (u : ℤ × List ℕ). FitsSigned w32 u.0) c.values w h.valid.numbers k) v.2;
    }) in
    cons_part F (record { decl = enum_decl i; span = e.name.span; line = own }) (flat_map value_line c.values)
    (Owned (value_decl i) e.values name (map (λ (w : ℤ × List ℕ). w.1) c.values)) (IsAt 1 i)
    (record {
      has = subst (λ (n : List ℕ). HasLine F e.name.span (line (codes "enum" ∷ n ∷ []))) (sym is.name)
          (Lines.of_enum e (in_list F.enums i e x.1) is.stands);
      stands = Together.enum i e x.1 refl;
    })
    values (λ d o s. not_enum_value i i o.at (s ∙ o.is)) (refl, refl)
    (λ d o. (ap class o.is, ap place o.is))

enums_part : (F : Joined) (p : TablePlan) (is : List ℕ) (cs : List Choices) → AreCorrespondingInOrder (IsEnumAt F p) is cs
    → AreDistinct is → All (λ i. i < length F.enums) is → Part F (flat_map enum_lines cs) (IsAtOne 1 is)
enums_part F p is cs none distinct within = no_part F (IsAtOne 1 [])
enums_part F p is cs (next {x = i} {y = c} {xs} {ys} r rest) distinct within =
    join_parts F (enum_lines c) (flat_map enum_lines ys) (IsAt 1 i) (IsAtOne 1 xs) (IsAtOne 1 (i ∷ xs))
    (enum_part F p i c r (within 0 0 (omega arith)))
    (enums_part F p xs ys rest distinct.1 (λ k d l. within (suc k) d (omega arith)))
    (λ d f a b s. distinct.0 (subst (Contains xs) (ap place (sym s) ∙ a.1) b.1))
    (λ d a. (a.0, (0, omega arith, sym a.1)))
    (λ d b. (b.0, (suc b.1.0, omega (arith, b.1.1), b.1.2)))

-- ---- messages

repeated_alike : (T : Table) (ns : List (List ℕ)) (b : Bool)
    → label_text T ns (cond b labels.Packed labels.Repeated) ≡ label_text no_table ns (cond b labels.Packed labels.Repeated)
repeated_alike T ns true = refl
repeated_alike T ns false = refl

single_alike : (T : Table) (ns : List (List ℕ)) (l : FieldLabel) (packed : Option Bool) (im pk : Bool)
    → label_text T ns (single_label l packed im pk) ≡ label_text no_table ns (single_label l packed im pk)
single_alike T ns Plain packed im pk = refl
single_alike T ns Optional packed true pk = refl
single_alike T ns Optional packed false pk = refl
single_alike T ns Repeated packed im pk = repeated_alike T ns (pk && isnt_false packed)

oneof_alike : (T : Table) (ns : List (List ℕ)) (o : Option ℕ) (l : Label) → label_text T ns l ≡ label_text no_table ns l
    → label_text T ns (label_in o l) ≡ label_text no_table ns (label_in o l)
oneof_alike T ns None l h = h
oneof_alike T ns (Some i) l h = refl

-- the text of a label doesn't depend on the table
pub form_alike : (T : Table) (ns : List (List ℕ)) (F : Joined) (file : ℕ) (scope : List (List ℕ)) (f : FieldDecl) (label : Label)
    (word : List ℕ) → HasShape F file scope f label word → label_text T ns label ≡ label_text no_table ns label
form_alike T ns F file scope f label word (single w text im pk is typ) =
    oneof_alike T ns f.oneof (single_label f.label f.packed im pk) (single_alike T ns f.label f.packed im pk)
form_alike T ns F file scope f label word (a_map key value k text im pk is plain alone_here s keyed typ) =
    ap (λ (t : List ℕ). codes "map:" ++ t) (scalar_text T k s.is_one)

field_entry : (F : Joined) (T : Table) (i : ℕ) (m : MessageDecl) (scope : List (List ℕ)) (t : Message) (f : FieldDecl)
    (g : Field) (j : ℕ) → slice_get F.messages i ≡ Some m → IsScope F (home.Message i) scope → slice_get m.fields j ≡ Some f
    → IsFieldOf T F scope m t f g → IsFieldNumber g.number
    → IsEntry F (record { decl = field_decl i j; span = f.name.span; line = field_line T t.oneofs g })
field_entry F T i m scope t f g j at up here is number =
    let ns : List (List ℕ) = map (λ o. o.name) m.oneofs in
    let label : label_text no_table ns is.label ≡ label_text T t.oneofs g.label =
    sym (is.same ∙ form_alike T ns F m.file scope f is.label is.word is.form) in
    let has : HasLine F f.name.span
    (line (codes "field" ∷ decimal g.number ∷ label_text no_table ns is.label ∷ is.word ∷ f.name.name ∷ [])) =
    Lines.of_field m f g.number
    (record { place = i; message = at; is_scope = up; field = in_list m.fields j f here })
    (sym is.number) number is.form in
    let has2 : HasLine F f.name.span
    (line (codes "field" ∷ decimal g.number ∷ label_text T t.oneofs g.label ∷ is.word ∷ f.name.name ∷ [])) =
    subst (λ (l : List ℕ). HasLine F f.name.span
    (line (codes "field" ∷ decimal g.number ∷ l ∷ is.word ∷ f.name.name ∷ []))) label has in
    let has3 : HasLine F f.name.span
    (line (codes "field" ∷ decimal g.number ∷ label_text T t.oneofs g.label ∷ kind_text T g.kind ∷ f.name.name ∷ [])) =
    subst (λ (w : List ℕ). HasLine F f.name.span
    (line (codes "field" ∷ decimal g.number ∷ label_text T t.oneofs g.label ∷ w ∷ f.name.name ∷ []))) (sym is.kind) has2 in
    record {
      has = subst (λ (n : List ℕ). HasLine F f.name.span
          (line (codes "field" ∷ decimal g.number ∷ label_text T t.oneofs g.label ∷ kind_text T g.kind ∷ n ∷ [])))
          (sym is.name) has3;
      stands = Together.field i j m f at here (Order.field_name refl);
    }

same_field : (i j k : ℕ) → field_decl i j ≡ field_decl i k → j ≡ k
same_field i j k e = cc

not_message_field : (i j k : ℕ) → message_decl i ≡ field_decl j k → ⊥
not_message_field i j k e = cc

message_part : (F : Joined) (p : TablePlan) (T : Table) (i : ℕ) (t : Message) → HasTableNames p T → IsMessageAt F p i t
    → i < length F.messages → Part F (message_lines T t) (IsAt 2 i)
message_part F p T i t has h l =
    let x = some_at F.messages i l in
    let m = x.0 in
    let is = h.is T has m x.1 in
    let valid = h.valid T has in
    let scope : List (List ℕ) = is.outer ++ m.name.name ∷ [] in
    let up : IsScope F (home.Message i) scope = of_message i m x.1 is.stands in
    let own : List ℕ = line (codes "message" ∷ t.name ∷ []) in
    let name : FieldDecl → List ℕ = λ f. f.name.name in
    let fields = items_part F (field_decl i) m.fields name (λ (g : Field). g.name) (field_line T t.oneofs) t.fields
    (same_field i) valid.names
    (λ g k.
    let f = is.fields.alone g k in
    let here = at_in m.fields f.0 f.1 in record {
      at = f.1.0;
      item = f.0;
      here = here;
      named = sym f.2.name;
      span = f.0.name.span;
      entry = field_entry F T i m scope t f.0 g f.1.0 x.1 up here f.2
          (All-contains (IsField T (length t.oneofs)) t.fields g valid.fields k).number;
    }) in
    cons_part F (record { decl = message_decl i; span = m.name.span; line = own }) (flat_map (field_line T t.oneofs) t.fields)
    (Owned (field_decl i) m.fields name (map (λ (g : Field). g.name) t.fields)) (IsAt 2 i)
    (record {
      has = subst (λ (n : List ℕ). HasLine F m.name.span (line (codes "message" ∷ n ∷ []))) (sym is.name)
          (Lines.of_message m (in_list F.messages i m x.1) is.stands);
      stands = Together.message i m x.1 refl;
    })
    fields (λ d o s. not_message_field i i o.at (s ∙ o.is)) (refl, refl)
    (λ d o. (ap class o.is, ap place o.is))

messages_part : (F : Joined) (p : TablePlan) (T : Table) (is : List ℕ) (ts : List Message) → HasTableNames p T
    → AreCorrespondingInOrder (IsMessageAt F p) is ts → AreDistinct is → All (λ i. i < length F.messages) is
    → Part F (flat_map (message_lines T) ts) (IsAtOne 2 is)
messages_part F p T is ts has none distinct within = no_part F (IsAtOne 2 [])
messages_part F p T is ts has (next {x = i} {y = t} {xs} {ys} r rest) distinct within =
    join_parts F (message_lines T t) (flat_map (message_lines T) ys) (IsAt 2 i) (IsAtOne 2 xs) (IsAtOne 2 (i ∷ xs))
    (message_part F p T i t has r (within 0 0 (omega arith)))
    (messages_part F p T xs ys has rest distinct.1 (λ k d l. within (suc k) d (omega arith)))
    (λ d f a b s. distinct.0 (subst (Contains xs) (ap place (sym s) ∙ a.1) b.1))
    (λ d a. (a.0, (0, omega arith, sym a.1)))
    (λ d b. (b.0, (suc b.1.0, omega (arith, b.1.1), b.1.2)))

-- ---- methods

record IsRpcFrom (F : Joined) (n : ℕ) (d : DeclIndex) : Type 0 where
  index : ℕ
  from : n ≤ index
  service : ServiceDecl
  rpc : RpcDecl
  here : RpcHere F.services index service rpc
  is : d ≡ rpc_decl here.service here.rpc

method_entry : (F : Joined) (T : Table) (n : ℕ) (s : ServiceDecl) (r : RpcDecl) (m : Method)
    (h : RpcHere F.services n s r) → slice_get (rpcs_of F) n ≡ Some (s, r) → IsMethodIn F T (s, r) m
    → IsEntry F (record { decl = rpc_decl h.service h.rpc; span = r.name.span; line = method_line T (n, m) })
method_entry F T n s r m h at is =
    let u = is.is in
    let W : ℕ → List ℕ → List ℕ → List ℕ → List ℕ → Type 0 = λ i a b c d.
    HasLine F r.name.span (line (codes "method" ∷ decimal i ∷ a ∷ b ∷ c ∷ d ∷ [])) in
    let svc : List ℕ = text_of (package_at F s.file ++ s.name.name ∷ []) in
    let has1 : W n svc r.name.name (text_of u.input) (text_of u.output) = Lines.of_method s r n at u.takes u.gives in
    let has2 : W n m.service r.name.name (text_of u.input) (text_of u.output) =
    subst (λ (a : List ℕ). W n a r.name.name (text_of u.input) (text_of u.output)) (sym u.service) has1 in
    let has3 : W n m.service m.name (text_of u.input) (text_of u.output) =
    subst (λ (b : List ℕ). W n m.service b (text_of u.input) (text_of u.output)) (sym u.name) has2 in
    let has4 : W n m.service m.name (message_name T m.input) (text_of u.output) =
    subst (λ (c : List ℕ). W n m.service m.name c (text_of u.output)) (sym u.input_place) has3 in
    record {
      has = subst (λ (d : List ℕ). W n m.service m.name (message_name T m.input) d) (sym u.output_place) has4;
      stands = Together.rpc h.service h.rpc s r h.its_service h.its_rpc (Order.rpc_name refl);
    }

one_place : (F : Joined) (m n : ℕ) (s t : ServiceDecl) (r u : RpcDecl) (a : RpcHere F.services m s r)
    (b : RpcHere F.services n t u) → rpc_decl a.service a.rpc ≡ rpc_decl b.service b.rpc → m ≡ n
one_place F m n s t r u a b e =
    let p = same_rpc a.service b.service a.rpc b.rpc e in
    a.is_place ∙ ap (λ (k : ℕ). length (flat_map service_rpcs (take k F.services)) + a.rpc) p.0
    ∙ ap (λ (k : ℕ). length (flat_map service_rpcs (take b.service F.services)) + k) p.1 ∙ sym b.is_place

methods_part : (F : Joined) (T : Table) (n : ℕ) (rs : List (ServiceDecl × RpcDecl)) (ms : List Method)
    → AreCorrespondingInOrder (IsMethodIn F T) rs ms
    → ((k i : ℕ) (q : ServiceDecl × RpcDecl) → i ≡ n + k → slice_get rs k ≡ Some q → slice_get (rpcs_of F) i ≡ Some q)
    → Part F (flat_map (method_line T) (enumerate_from n ms)) (IsRpcFrom F n)
methods_part F T n rs ms none known = no_part F (IsRpcFrom F n)
methods_part F T n rs ms (next {x = q} {y = m} {xs} {ys} r rest) known =
    let at : slice_get (rpcs_of F) n ≡ Some q = known 0 n q (omega arith) refl in
    let h = rpc_here F.services n q.0 q.1 at in
    let later = methods_part F T (n + 1) xs ys rest (λ k i u e g. known (suc k) i u (omega arith) g) in
    cons_part F (record { decl = rpc_decl h.service h.rpc; span = q.1.name.span; line = method_line T (n, m) })
    (flat_map (method_line T) (enumerate_from (n + 1) ys)) (IsRpcFrom F (n + 1)) (IsRpcFrom F n)
    (method_entry F T n q.0 q.1 m h at r) later
    (λ d o s.
    let e : n ≡ o.index = one_place F n o.index q.0 o.service q.1 o.rpc h o.here (s ∙ o.is) in
    let l : n + 1 ≤ o.index = o.from in
    omega arith)
    (record { index = n; from = omega arith; service = q.0; rpc = q.1; here = h; is = refl })
    (λ d o. record {
      index = o.index;
      from = (let l : n + 1 ≤ o.index = o.from in omega arith);
      service = o.service;
      rpc = o.rpc;
      here = o.here;
      is = o.is;
    })

-- ---- the text

order_distinct : (names : List (List ℕ)) (order : List ℕ) → IsOrder names order → AreDistinct order
order_distinct names order h =
    apart_distinct order
    (λ i j d a b e. (order_all names order h).once i j (get_or order i d) (slice_get-get_or order i d a)
    (slice_get-get_or order j d b ∙ ap Some (sym e)))

pub text_short : (F : Joined) (T : Table) → IsOrdered F → HasNoViolation F → IsMadeTable F T → length (table_text T) ≤ MAX_TEXT
text_short F T ordered clean made =
    let has = has_names F T made in
    let eo : List ℕ = made.plan.enums.order.items in
    let mo : List ℕ = made.plan.messages.order.items in
    let el : All (λ i. i < length F.enums) eo =
    subst (λ (n : ℕ). All (λ i. i < n) eo) made.is_plan.all_enums made.is_plan.enum_places.order.within in
    let ml : All (λ i. i < length F.messages) mo =
    subst (λ (n : ℕ). All (λ i. i < n) mo) made.is_plan.all_messages made.is_plan.message_places.order.within in
    let enums = enums_part F made.plan eo T.enums made.enums_are
    (order_distinct made.plan.enums.names.items eo made.is_plan.enum_places.order) el in
    let messages = messages_part F made.plan T mo T.messages has made.messages_are
    (order_distinct made.plan.messages.names.items mo made.is_plan.message_places.order) ml in
    let methods = methods_part F T 0 (rpcs_of F) T.methods (made.methods_are.each T has)
    (λ k i q e g. ap (slice_get (rpcs_of F)) (e ∙ zero-add k) ∙ g) in
    let types = join_parts F (flat_map enum_lines T.enums) (flat_map (message_lines T) T.messages) (IsAtOne 1 eo)
    (IsAtOne 2 mo) (λ d. class d ≤ 2) enums messages
    (λ d f a b s.
    let u : class d ≡ 1 = a.0 in
    let v : class f ≡ 2 = b.0 in
    let w : class d ≡ class f = ap class s in
    omega arith)
    (λ d a. let u : class d ≡ 1 = a.0 in omega arith) (λ d b. let v : class d ≡ 2 = b.0 in omega arith) in
    let whole = join_parts F (flat_map enum_lines T.enums ++ flat_map (message_lines T) T.messages)
    (flat_map (method_line T) (enumerate_from 0 T.methods)) (λ d. class d ≤ 2) (IsRpcFrom F 0) (λ d. Unit {0}) types
    methods
    (λ d f a o s.
    let w : class d ≡ class f = ap class s in
    let v : class f ≡ 3 = ap class o.is in
    let u : class d ≤ 2 = a in
    omega arith)
    (λ d a. tt) (λ d a. tt) in
    subst (λ (t : List ℕ). length t ≤ MAX_TEXT) whole.text_is
    (entries_short F whole.entries ordered clean whole.are whole.differ)
