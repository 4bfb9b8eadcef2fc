-- Each message of files without a violation has a message of a table.
use Rattle.std.proofs.Common.{◌≡◌, ◌⊎◌, inl, inr, ℕ, zero, suc, ◌<◌, ◌≤◌, ◌^◌, Bool, List, [], ◌∷◌, ◌++◌, length}
use Rattle.std.proofs.Common.{get_or, take, Option, Some, None, refl, sym, ap, ◌∙◌, subst, arith, add-one}
use Rattle.std.specs.Prelude.{Contains, slice_get}
use Rattle.std.specs.List.{remove}
use Rattle.std.specs.Vec.{with_item}
use Rattle.std.proofs.lemmas.Bool.{cases_lt}
use Rattle.std.proofs.lemmas.Option.{slice_get_within, same_Some}
use Rattle.std.proofs.lemmas.List.{map-id, take_all}
use Rattle.std.proofs.lemmas.List.Sorted.{IsPermutation-remove, length_permutation, Contains-permutation}
use Rattle.mrpc_table.specs.declared.limits.TheConstants.{MAX_FIELDS}
use Rattle.mrpc_table.specs.declared.table.Label.{Label}
use Rattle.mrpc_table.specs.declared.table.Label.TheVariants.{Member}
use Rattle.mrpc_table.specs.declared.table.Field.{Field}
use Rattle.mrpc_table.specs.declared.table.Message.{Message}
use Rattle.proto_ast.specs.Order.{IsIndexBelow}
use Rattle.proto_ast.specs.Together.{IsFormed, IsOrdered}
use Rattle.proto_ast.specs.declared.file.Word.{Word}
use Rattle.proto_ast.specs.declared.file.FieldDecl.{FieldDecl}
use Rattle.proto_ast.specs.declared.file.MessageDecl.{MessageDecl}
use Rattle.proto_ast.specs.Joined.{Joined}
use Rattle.proto_ast.specs.declared.file.Span.{Span}
use Rattle.schema_symbols.specs.Scopes
use Rattle.schema_symbols.specs.Scopes.{IsDeclarationOf, IsVisibleDeclaration, a_message, an_enum}
use Rattle.schema_symbols.specs.Numbers
use Rattle.schema_symbols.specs.Numbers.{IsSymbolAt, IsOfFile}
use Rattle.schema_symbols.specs.declared.symbol.Symbol.TheVariants as named
use Rattle.schema_validation.specs.Correspondence.{AreCorrespondingInOrder}
use Rattle.schema_validation.specs.Types.{HasType, scalar, message, enum, HasShape, single, a_map}
use Rattle.schema_validation.specs.Shapes.{IsWordOf, IsShape}
use Rattle.schema_validation.specs.declared.types.TypeOf.{TypeOf}
use Rattle.schema_validation.specs.declared.types.TypeOf.TheVariants.{Scalar, Named}
use Rattle.schema_validation.specs.declared.types.FieldShape.{FieldShape}
use Rattle.schema_resolve.specs.Resolving.{HasNoViolation}
use Rattle.schema_resolve.specs.Placing.{name_at_index, IsTablePlan}
use Rattle.schema_resolve.specs.ShapedFields.{IsShapedField, AreShapedInOrder, AreShapedFields}
use Rattle.schema_resolve.specs.Joining.{AreUnplaced, IsPlacedOneof, HasOneofs, HasPlace, met_before, next_one, IsLabelled, table_kind, AreFieldsMade, IsNextField, IsMessageAt}
use Rattle.schema_resolve.specs.declared.plan.TablePlan.{TablePlan}
use Rattle.schema_resolve.specs.declared.field_table.ShapedField.{ShapedField}
use Rattle.schema_resolve.specs.declared.oneof_table.Oneofs.{Oneofs}
use Rattle.schema_resolve.proofs.FullNames.{message_formed}
use Rattle.schema_resolve.proofs.CleanFiles.{in_list, at_in, some_at, one_scope, scope_at}
use Rattle.schema_resolve.proofs.FieldTables.{has_form, has_number, judged_of}
use Rattle.schema_resolve.proofs.OneofTables.{unplaced_none, unplaced_more, keeps_none, keeps_more}
use Rattle.schema_resolve.proofs.MessageTables.{in_order_back, in_order_map, made_none, made_more, judged_plain, judged_oneof, few_fields, message_at}
use Rattle.schema_resolve.proofs.NotRefuted.{IsNotRefuted, all_chosen}
use Rattle.schema_resolve.proofs.Sorting.{in_order, ascends_not_decreasing}
use Rattle.schema_resolve.proofs.PlanExists.{vec_of, ref_of}

-- ---- types and shapes

pub message_stands : {F : Joined} {file : ℕ} {full : List (List ℕ)} {span : Span} → IsDeclarationOf F file a_message full span
    → (i : ℕ) × IsSymbolAt F (named.Message i) full span × IsOfFile F (named.Message i) file
message_stands {F} (Scopes.message m c up) =
    let at = at_in F.messages m c in
    (c.0, Numbers.message c.0 m at up, Numbers.message_of c.0 m at)

enum_stands : {F : Joined} {file : ℕ} {full : List (List ℕ)} {span : Span} → IsDeclarationOf F file an_enum full span
    → (i : ℕ) × IsSymbolAt F (named.Enum i) full span
enum_stands {F} (Scopes.enum e c up) = (c.0, Numbers.enum c.0 e (at_in F.enums e c) up)

found_message : {F : Joined} {file : ℕ} {full : List (List ℕ)} → IsVisibleDeclaration F file a_message full
    → (i : ℕ) × (span : Span) × IsSymbolAt F (named.Message i) full span
found_message h = let s = message_stands h.declared in (s.0, h.span, s.1)

found_enum : {F : Joined} {file : ℕ} {full : List (List ℕ)} → IsVisibleDeclaration F file an_enum full
    → (i : ℕ) × (span : Span) × IsSymbolAt F (named.Enum i) full span
found_enum h = let s = enum_stands h.declared in (s.0, h.span, s.1)

-- the type with a word: a scalar, or a message or an enum by its index
type_kept : (F : Joined) (file : ℕ) (scope : List (List ℕ)) (w : Word) (word : List ℕ) (is_message packable : Bool)
    → HasType F file scope w word is_message packable → (type_of : TypeOf) × IsWordOf F type_of word
type_kept F file scope w word im pk (scalar k s) = (Scalar k, sym s.named)
type_kept F file scope w word im pk (message full plain names) =
    let s = found_message names.finds in
    (Named (named.Message s.0), (full, s.1, s.2, refl))
type_kept F file scope w word im pk (enum full plain names) =
    let s = found_enum names.finds in
    (Named (named.Enum s.0), (full, s.1, s.2, refl))

form_type : (F : Joined) (file : ℕ) (scope : List (List ℕ)) (f : FieldDecl) (label : Label) (word : List ℕ)
    → HasShape F file scope f label word → (type_of : TypeOf) × IsWordOf F type_of word
form_type F file scope f label word (single w text im pk is typ) = type_kept F file scope w text im pk typ
form_type F file scope f label word (a_map key value k text im pk is plain alone s keyed typ) =
    type_kept F file scope value text im pk typ

form_kept : (F : Joined) (file : ℕ) (scope : List (List ℕ)) (f : FieldDecl) (label : Label) (word : List ℕ)
    → HasShape F file scope f label word → (form : FieldShape) × IsShape F file scope f form
form_kept F file scope f label word has =
    let t = form_type F file scope f label word has in (
      record { label = label; oneof = None; type_of = t.0 },
      record { word = word; of_type = t.1; has = has },
    )

-- ---- fields

-- the field of a clean message, with its number and its shape
judged_exists : (F : Joined) (place : ℕ) (m : MessageDecl) (f : FieldDecl) → IsFormed F → HasNoViolation F
    → slice_get F.messages place ≡ Some m → Contains m.fields f
    → IsNotRefuted ((j : ShapedField) × IsShapedField F m.file place f j)
judged_exists F place m f formed clean at field never =
    let scope = scope_at formed place (slice_get_within F.messages place m at) in
    has_number F place m scope.0 f clean at scope.1 field
    (λ n. has_form F place m scope.0 f clean at scope.1 field
    (λ label word has.
    let form = form_kept F m.file scope.0 f label word has in
    never (
      record { number = n.0; form = form.0; decl = ref_of f },
      record {
        decl_is = refl;
        number_is = n.1;
        in_range = n.2;
        form_is = λ s up. subst (λ (t : List (List ℕ)). IsShape F m.file t f form.0) (one_scope scope.1 up) form.1;
      },
    )))

judged_in_order : (F : Joined) (file place : ℕ) (fs : List FieldDecl) (js : List ShapedField)
    → AreCorrespondingInOrder (IsShapedField F file place) fs js → AreShapedInOrder F file place fs js
judged_in_order F file place fs js all = record {
  decls = sym (in_order_map (IsShapedField F file place) (λ (f : FieldDecl). f) (λ (j : ShapedField). j.decl.now)
      (λ f j h. sym h.decl_is) all) ∙ map-id fs;
  each = λ j c.
      let f = in_order_back (IsShapedField F file place) all c.0 j (at_in js j c) in
      subst (λ (g : FieldDecl). IsShapedField F file place g j) (sym f.2.decl_is) f.2;
}

either_number : (j k : ShapedField) → (j.number ≤ k.number) ⊎ (k.number ≤ j.number)
either_number j k = elim (cases_lt j.number k.number) [
  | inl l ↦ inl (omega arith)
  | inr g ↦ inr g
]

judged_sorted : (F : Joined) (place : ℕ) (m : MessageDecl) (js : List ShapedField) → IsFormed F → IsOrdered F → HasNoViolation F
    → slice_get F.messages place ≡ Some m → AreCorrespondingInOrder (IsShapedField F m.file place) m.fields js
    → (sorted : List ShapedField) × AreShapedFields F place m sorted
judged_sorted F place m js formed ordered clean at all =
    let s = in_order (λ (j k : ShapedField). j.number ≤ k.number) either_number js in (
      s.list,
      judged_of F place m js s.list formed ordered clean at (judged_in_order F m.file place m.fields js all) s.moved
          (ascends_not_decreasing (λ (j : ShapedField). j.number) s.list s.ascends),
    )

-- ---- oneofs

in_rest : {X : Type 0} (x : X) (xs : List X) (y : X) (k : ℕ) → k < length (x ∷ xs) → get_or (x ∷ xs) k y ≡ y
    → (x ≡ y) ⊎ Contains xs y
in_rest x xs y zero l e = inl e
in_rest x xs y (suc k) l e = inr (k, omega arith, e)

-- a message has no more oneofs than fields
no_more_oneofs : (n : ℕ) (fs : List FieldDecl)
    → ((o : ℕ) → o < n → (f : FieldDecl) × Contains fs f × (f.oneof ≡ Some o)) → n ≤ length fs
no_more_oneofs zero fs h = omega arith
no_more_oneofs (suc n) fs h =
    let f = h n (omega arith) in
    let rest : List FieldDecl = remove fs f.1.0 in
    let moved = IsPermutation-remove fs f.1.0 f.0 f.1.1 (sym f.1.2) in
    let more : n ≤ length rest = no_more_oneofs n rest
    (λ o l.
    let g = h o (omega arith) in
    let c = Contains-permutation fs (f.0 ∷ rest) g.0 moved g.1 in
    elim (in_rest f.0 rest g.0 c.0 c.1 c.2) [
      | inl e ↦
          let same : n ≡ o = same_Some n o (sym f.2 ∙ ap (λ (x : FieldDecl). x.oneof) e ∙ g.2) in
          absurd (omega arith)
      | inr d ↦ (g.0, d, g.2)
    ]) in
    omega (arith, length_permutation fs (f.0 ∷ rest) moved)

few_oneofs : (F : Joined) (place : ℕ) (m : MessageDecl) → IsFormed F → HasNoViolation F → slice_get F.messages place ≡ Some m
    → length m.oneofs ≤ MAX_FIELDS
few_oneofs F place m formed clean at =
    omega (
      arith,
      few_fields F place m formed clean at,
      no_more_oneofs (length m.oneofs) m.fields (message_formed F place m formed at).filled,
    )

unplaced : (n : ℕ) → (places : List (Option ℕ)) × AreUnplaced n places
unplaced zero = ([], unplaced_none [] refl)
unplaced (suc n) =
    let rest = unplaced n in
    let more : List (Option ℕ) = rest.0 ++ None ∷ [] in
    (more, subst (λ (k : ℕ). AreUnplaced k more) (add-one n) (unplaced_more n rest.0 more refl rest.1))

no_oneofs : (words : List Word) → length words < 2 ^ 63 → (o : Oneofs) × HasOneofs words o × (o.names ≡ [])
no_oneofs words few =
    let none = unplaced (length words) in
    let o : Oneofs = record { names = []; places = vec_of none.0 (omega (arith, none.1.count_is)) } in
    (o, keeps_none words o refl none.1, refl)

-- the index of a oneof, and the oneofs including it
record OneofPlaced (words : List Word) (i : ℕ) (old : Oneofs) : Type 0 where
  new : Oneofs
  place : ℕ
  keeps : HasOneofs words new
  has_place : HasPlace old.names new.names place
  placed : IsPlacedOneof words new.names i place

oneof_placed_at : (words : List Word) (i : ℕ) (old : Oneofs) (met : Option ℕ) → HasOneofs words old
    → i < length words → slice_get old.places.items i ≡ Some met → OneofPlaced words i old
oneof_placed_at words i old (Some p) keeps l at =
    let is = keeps.placed i p at in record {
      new = old;
      place = p;
      keeps = keeps;
      has_place = met_before (slice_get_within old.names p is.word.name is.named) refl;
      placed = is;
    }
oneof_placed_at words i old None keeps l at =
    let w = some_at words i l in
    let new : Oneofs = record {
      names = old.names ++ w.0.name ∷ [];
      places = with_item old.places i (Some (length old.names));
    } in
    let k = keeps_more words old new i w.0 w.1 at refl refl keeps in record {
      new = new;
      place = length old.names;
      keeps = k.0;
      has_place = next_one w.0.name refl refl;
      placed = k.1;
    }

-- the label of a field, and the oneofs including its own
record LabelMade (words : List Word) (oneof : Option ℕ) (form : Label) (old : Oneofs) : Type 0 where
  new : Oneofs
  label : Label
  keeps : HasOneofs words new
  is : IsLabelled words oneof form old new label

label_made : (words : List Word) (oneof : Option ℕ) (form : Label) (old : Oneofs) → HasOneofs words old
    → IsIndexBelow (length words) oneof → LabelMade words oneof form old
label_made words None form old keeps below = record { new = old; label = form; keeps = keeps; is = (refl, refl) }
label_made words (Some i) form old keeps below =
    let at = some_at old.places.items i (omega (arith, keeps.count)) in
    let h = oneof_placed_at words i old at.0 keeps below at.1 in
    record { new = h.new; label = Member h.place; keeps = h.keeps; is = (h.place, refl, h.has_place, h.placed) }

-- the field of the table, and the oneofs including its own
record FieldMade (p : TablePlan) (words : List Word) (j : ShapedField) (old : Oneofs) : Type 0 where
  new : Oneofs
  field : Field
  is : IsNextField p words j old new field

field_made : (p : TablePlan) (words : List Word) (j : ShapedField) (old : Oneofs) → HasOneofs words old
    → IsIndexBelow (length words) j.decl.now.oneof → FieldMade p words j old
field_made p words j old keeps below =
    let h = label_made words j.decl.now.oneof j.form.label old keeps below in record {
      new = h.new;
      field = record {
        number = j.number;
        name = j.decl.now.name.name;
        kind = table_kind p j.form.type_of;
        label = h.label;
      };
      is = record { keeps = h.keeps; number_is = refl; name_is = refl; kind_is = refl; label_is = h.is };
    }

-- ---- the message

-- the first fields of a message, and the oneofs that they need
record FieldsMade (p : TablePlan) (words : List Word) (js : List ShapedField) (i : ℕ) : Type 0 where
  oneofs : Oneofs
  fields : List Field
  made : AreFieldsMade p words (take i js) oneofs fields
  few : length oneofs.names ≤ i

module _ (F : Joined) (p : TablePlan) (place : ℕ) (m : MessageDecl) (js : List ShapedField) (formed : IsFormed F)
    (clean : HasNoViolation F) (at : slice_get F.messages place ≡ Some m) (judged : AreShapedFields F place m js) where
  fields_made : (i : ℕ) → i ≤ length js → FieldsMade p m.oneofs js i
  fields_made zero l =
      let o = no_oneofs m.oneofs (omega (arith, few_oneofs F place m formed clean at)) in
      let h = made_none p m.oneofs o.0 [] o.1 o.2 refl in
      record { oneofs = o.0; fields = []; made = h.0; few = h.1 }
  fields_made (suc i) l =
      let rest = fields_made i (omega arith) in
      let j = some_at js i (omega arith) in
      let is = judged.each j.0 (in_list js i j.0 j.1) in
      let next = field_made p m.oneofs j.0 rest.oneofs rest.made.keeps
      (judged_oneof F place m j.0.decl.now formed at is.1) in
      let more : List Field = rest.fields ++ next.field ∷ [] in
      let h = made_more p m.oneofs js i j.0 rest.oneofs next.new next.field rest.fields more j.1
      (judged_plain F m.file place j.0 formed (slice_get_within F.messages place m at) is.0) next.is refl rest.made
      rest.few in
      record {
        oneofs = next.new;
        fields = more;
        made = subst (λ (k : ℕ). AreFieldsMade p m.oneofs (take k js) next.new more) (add-one i) h.0;
        few = omega (arith, h.1);
      }

message_of : (F : Joined) (p : TablePlan) (place : ℕ) (m : MessageDecl) (js : List ShapedField) → IsFormed F → IsOrdered F
    → HasNoViolation F → IsTablePlan F p → slice_get F.messages place ≡ Some m → AreShapedFields F place m js
    → (t : Message) × IsMessageAt F p place t
message_of F p place m js formed ordered clean plan at judged =
    let all = fields_made F p place m js formed clean at judged (length js) (omega arith) in
    let made : AreFieldsMade p m.oneofs js all.oneofs all.fields =
    subst (λ (l : List ShapedField). AreFieldsMade p m.oneofs l all.oneofs all.fields) (take_all (length js) js (omega arith))
    all.made in
    let name : List ℕ = name_at_index p.messages.names.items place in (
      record { name = name; fields = all.fields; oneofs = all.oneofs.names },
      message_at F p place m js all.oneofs all.fields name formed ordered clean plan at judged made refl,
    )

pub message_exists : (F : Joined) (p : TablePlan) (place : ℕ) → IsFormed F → IsOrdered F → HasNoViolation F → IsTablePlan F p
    → place < length F.messages → IsNotRefuted ((t : Message) × IsMessageAt F p place t)
message_exists F p place formed ordered clean plan l never =
    let m = some_at F.messages place l in
    all_chosen (IsShapedField F m.0.file place) m.0.fields (λ f c. judged_exists F place m.0 f formed clean m.1 c)
    (λ js.
    let sorted = judged_sorted F place m.0 js.0 formed ordered clean m.1 js.1 in
    never (message_of F p place m.0 sorted.0 formed ordered clean plan m.1 sorted.1))
