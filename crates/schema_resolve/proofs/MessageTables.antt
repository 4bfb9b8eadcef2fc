-- The messages of a table.
use Rattle.std.proofs.Common.{◌≡◌, ℕ, zero, suc, ◌+◌, ◌<◌, ◌≤◌, inl, inr, true, List, [], ◌∷◌, ◌++◌, length, get_or}
use Rattle.std.proofs.Common.{map, take, Option, Some, None, refl, sym, ap, ◌∙◌, subst, arith}
use Rattle.std.specs.Prelude.{Contains, slice_get, unwrap_or, codes, pos}
use Rattle.std.specs.Option.{option_map}
use Rattle.std.proofs.lemmas.Bool.{cases_lt}
use Rattle.std.proofs.lemmas.Option.{slice_get_within, get_or_from_slice_get, slice_get-get_or, same_Some, slice_get-map, none-some}
use Rattle.std.proofs.lemmas.List.{length-map, length-append, take_more}
use Rattle.std.proofs.lemmas.List.Elements.{All-contains}
use Rattle.mrpc_table.specs.Names.{is_short, IsName, IsFullName}
use Rattle.mrpc_table.specs.Text.{kind_text, label_text}
use Rattle.mrpc_table.specs.Valid.{IsAscendingBy, AreDistinct, IsFieldNumber, IsKnown, IsLabelFor, IsNextOneof, AreOneofsInOrder}
use Rattle.mrpc_table.specs.declared.limits.TheConstants.{MAX_FIELDS}
use Rattle.mrpc_table.specs.declared.table.Kind.{Kind}
use Rattle.mrpc_table.specs.declared.table.Label.{Label}
use Rattle.mrpc_table.specs.declared.table.Label.TheVariants.{Plain, Optional, Repeated, Packed, Map, Member}
use Rattle.mrpc_table.specs.declared.table.Field.{Field}
use Rattle.mrpc_table.specs.declared.table.Message.{Message}
use Rattle.mrpc_table.specs.declared.table.Table.{Table}
use Rattle.proto_ast.specs.Order.{HasName, IsFormedField, IsIndexBelow}
use Rattle.proto_ast.specs.Together.{IsFormed, IsOrdered, oneof_decl}
use Rattle.proto_ast.specs.declared.file.Word.{Word}
use Rattle.proto_ast.specs.declared.file.FieldDecl.{FieldDecl}
use Rattle.proto_ast.specs.declared.file.MessageDecl.{MessageDecl}
use Rattle.proto_ast.specs.Joined.{Joined, enclosing_of}
use Rattle.proto_ast.specs.declared.joined.Enclosing.TheVariants as home
use Rattle.proto_ast.specs.Together
use Rattle.schema_symbols.specs.Scopes
use Rattle.schema_symbols.specs.Scopes.{a_message, no_type, text_of, IsScope, of_message}
use Rattle.schema_validation.specs.Correspondence.{AreCorrespondingInOrder, none, next}
use Rattle.schema_validation.specs.Types.{single_label, label_in, HasShape, single, a_map}
use Rattle.schema_validation.specs.Members.{long_message, of_name, of_oneof, name_long, name_too_many}
use Rattle.schema_validation.specs.Violations
use Rattle.schema_validation.specs.declared.reason.ResolveReason.TheVariants.{Limit}
use Rattle.schema_resolve.specs.Tables.{IsFieldOf, IsMessageOf}
use Rattle.schema_resolve.specs.Resolving.{HasNoViolation}
use Rattle.schema_resolve.specs.Placing.{name_at_index, IsTablePlan, HasTableNames}
use Rattle.schema_resolve.specs.ShapedFields.{IsShapedField, AreShapedFields}
use Rattle.schema_resolve.specs.Joining.{IsInPlan, IsPlacedOneof, HasOneofs, HasPlace, met_before, next_one, IsLabelled, table_kind, IsLabelOf, IsMadeField, AreFieldsMade, IsNextField, IsMessageAt}
use Rattle.schema_resolve.specs.declared.plan.TablePlan.{TablePlan}
use Rattle.schema_resolve.specs.declared.field_table.ShapedField.{ShapedField}
use Rattle.schema_resolve.specs.declared.oneof_table.Oneofs.{Oneofs}
use Rattle.schema_resolve.proofs.FullNames.{scope_names, message_formed}
use Rattle.schema_resolve.proofs.Orders.{apart_distinct}
use Rattle.schema_resolve.proofs.CleanFiles.{scope_at, in_list, at_in, some_at, one_declaration, here_message, message_text}
use Rattle.schema_resolve.proofs.EnumTables.{short_from, true_from, type_valid, scope_short, short_more}
use Rattle.schema_resolve.proofs.MethodTables.{in_order_push}
use Rattle.schema_resolve.proofs.FieldTables.{field_names}
use Rattle.schema_resolve.proofs.OneofTables.{named_longer}
use Rattle.schema_resolve.proofs.KindWords.{IsNoMember, single_no_member, LabelParts, label_parts, in_plan, no_member_same, label_alike, kind_word}

-- ---- lists in order

pub in_order_weaker : {X Y : Type 0} (R S : X → Y → Type 0) {xs : List X} {ys : List Y} → ((x : X) (y : Y) → R x y → S x y)
    → AreCorrespondingInOrder R xs ys → AreCorrespondingInOrder S xs ys
in_order_weaker R S h none = none
in_order_weaker R S h (next {x} {y} r rest) = next (h x y r) (in_order_weaker R S h rest)

pub in_order_get : {X Y : Type 0} (R : X → Y → Type 0) {xs : List X} {ys : List Y} → AreCorrespondingInOrder R xs ys → (k : ℕ)
    (x : X) → slice_get xs k ≡ Some x → (y : Y) × (slice_get ys k ≡ Some y) × R x y
in_order_get R none k x e = absurd (none-some x e)
in_order_get R (next {x = a} {y} r rest) zero x e = (y, refl, subst (λ z. R z y) (same_Some a x e) r)
in_order_get R (next r rest) (suc k) x e = in_order_get R rest k x e

pub in_order_back : {X Y : Type 0} (R : X → Y → Type 0) {xs : List X} {ys : List Y} → AreCorrespondingInOrder R xs ys → (k : ℕ)
    (y : Y) → slice_get ys k ≡ Some y → (x : X) × (slice_get xs k ≡ Some x) × R x y
in_order_back R none k y e = absurd (none-some y e)
in_order_back R (next {x} {y = b} r rest) zero y e = (x, refl, subst (λ z. R x z) (same_Some b y e) r)
in_order_back R (next r rest) (suc k) y e = in_order_back R rest k y e

pub in_order_map : {X Y Z : Type 0} (R : X → Y → Type 0) (f : X → Z) (g : Y → Z) {xs : List X} {ys : List Y}
    → ((x : X) (y : Y) → R x y → f x ≡ g y) → AreCorrespondingInOrder R xs ys → map f xs ≡ map g ys
in_order_map R f g h none = refl
in_order_map R f g h (next {x} {y} {xs} {ys} r rest) =
    ap (λ z. z ∷ map f xs) (h x y r) ∙ ap (λ zs. g y ∷ zs) (in_order_map R f g h rest)

ascends_alike : {X Y : Type 0} (R : X → Y → Type 0) (f : X → ℕ) (g : Y → ℕ) {xs : List X} {ys : List Y}
    → ((x : X) (y : Y) → R x y → g y ≡ f x) → AreCorrespondingInOrder R xs ys → IsAscendingBy (λ a b. f a < f b) xs
    → IsAscendingBy (λ a b. g a < g b) ys
ascends_alike R f g h none a = tt
ascends_alike R f g h (next r none) a = tt
ascends_alike R f g h (next {x} {y} r (next {x = z} {y = w} s rest)) a = (
  (let p : g y ≡ f x = h x y r in let q : g w ≡ f z = h z w s in let l : f x < f z = a.0 in omega arith),
  ascends_alike R f g h (next s rest) a.1,
)

-- ---- fields, one after another

joins_plain : (met : ℕ) (l : Label) (same other : Type 0) → IsNoMember l → same → IsNextOneof met l same other
joins_plain met Plain same other h s = s
joins_plain met Optional same other h s = s
joins_plain met Repeated same other h s = s
joins_plain met Packed same other h s = s
joins_plain met (Map k) same other h s = s
joins_plain met (Member o) same other h s = absurd h

joins_both : (met : ℕ) (l : Label) (A B C D : Type 0) → IsNextOneof met l A B → (A → C) → (B → D) → IsNextOneof met l C D
joins_both met Plain A B C D j f g = f j
joins_both met Optional A B C D j f g = f j
joins_both met Repeated A B C D j f g = f j
joins_both met Packed A B C D j f g = f j
joins_both met (Map k) A B C D j f g = f j
joins_both met (Member o) A B C D (inl p) f g = inl (p.0, f p.1)
joins_both met (Member o) A B C D (inr p) f g = inr (p.0, g p.1)

follow_more : (gs : List Field) (met a b : ℕ) (g : Field) → AreOneofsInOrder met a gs
    → IsNextOneof a g.label (a ≡ b) (a + 1 ≡ b) → AreOneofsInOrder met b (gs ++ g ∷ [])
follow_more [] met a b g h j =
    subst (λ (n : ℕ). IsNextOneof n g.label (n ≡ b) (n + 1 ≡ b)) (sym h) j
follow_more (f ∷ gs) met a b g h j =
    joins_both met f.label (AreOneofsInOrder met a gs) (AreOneofsInOrder (met + 1) a gs) (AreOneofsInOrder met b (gs ++ g ∷ []))
    (AreOneofsInOrder (met + 1) b (gs ++ g ∷ [])) h (λ x. follow_more gs met a b g x j)
    (λ x. follow_more gs (met + 1) a b g x j)

data Grown (names more : List (List ℕ)) : Type 0 where
  unchanged : more ≡ names → Grown names more
  by_one : (name : List ℕ) → more ≡ names ++ name ∷ [] → Grown names more

record Step (words : List Word) (oneof : Option ℕ) (form : Label) (old new : Oneofs) (label : Label) : Type 0 where
  grown : Grown old.names new.names
  joins : IsNextOneof (length old.names) label (length old.names ≡ length new.names) (length old.names + 1 ≡ length new.names)
  label_is : IsLabelOf words new.names oneof form label
  few : length new.names ≤ length old.names + 1

step_placed : (words : List Word) (i : ℕ) (form : Label) (old new : Oneofs) (label : Label) (p : ℕ) → label ≡ Member p
    → HasPlace old.names new.names p → IsPlacedOneof words new.names i p → Step words (Some i) form old new label
step_placed words i form old new label p e (met_before l s) placed =
    let n : length old.names ≡ length new.names = sym (ap length s) in record {
      grown = unchanged s;
      joins = subst (λ (x : Label). IsNextOneof (length old.names) x (length old.names ≡ length new.names)
          (length old.names + 1 ≡ length new.names)) (sym e) (inl (l, n));
      label_is = (p, e, placed);
      few = omega arith;
    }
step_placed words i form old new label p e (next_one name l s) placed =
    let n : length old.names + 1 ≡ length new.names = sym (ap length s ∙ length-append old.names (name ∷ [])) in record {
      grown = by_one name s;
      joins = subst (λ (x : Label). IsNextOneof (length old.names) x (length old.names ≡ length new.names)
          (length old.names + 1 ≡ length new.names)) (sym e) (inr (l, n));
      label_is = (p, e, placed);
      few = omega arith;
    }

step_of : (words : List Word) (oneof : Option ℕ) (form : Label) (old new : Oneofs) (label : Label)
    → (oneof ≡ None → IsNoMember form) → IsLabelled words oneof form old new label
    → Step words oneof form old new label
step_of words None form old new label plain h =
    let n : length old.names ≡ length new.names = sym (ap length h.1) in record {
      grown = unchanged h.1;
      joins = subst (λ (x : Label). IsNextOneof (length old.names) x (length old.names ≡ length new.names)
          (length old.names + 1 ≡ length new.names)) (sym h.0)
          (joins_plain (length old.names) form (length old.names ≡ length new.names)
          (length old.names + 1 ≡ length new.names) (plain refl) n);
      label_is = h.0;
      few = omega arith;
    }
step_of words (Some i) form old new label plain h = step_placed words i form old new label h.0 h.1 h.2 h.3

label_longer : (words : List Word) (names : List (List ℕ)) (name : List ℕ) (oneof : Option ℕ) (form label : Label)
    → IsLabelOf words names oneof form label → IsLabelOf words (names ++ name ∷ []) oneof form label
label_longer words names name None form label h = h
label_longer words names name (Some i) form label h = (h.0, h.1, named_longer words names name i h.0 h.2)

made_grown : (plan : TablePlan) (words : List Word) (names more : List (List ℕ)) (js : List ShapedField) (gs : List Field)
    → Grown names more → AreCorrespondingInOrder (IsMadeField plan words names) js gs → AreCorrespondingInOrder (IsMadeField plan words more) js gs
made_grown plan words names more js gs (unchanged e) h =
    subst (λ (ns : List (List ℕ)). AreCorrespondingInOrder (IsMadeField plan words ns) js gs) (sym e) h
made_grown plan words names more js gs (by_one name e) h =
    subst (λ (ns : List (List ℕ)). AreCorrespondingInOrder (IsMadeField plan words ns) js gs) (sym e)
    (in_order_weaker (IsMadeField plan words names) (IsMadeField plan words (names ++ name ∷ []))
    (λ j g m. record {
      number_is = m.number_is;
      name_is = m.name_is;
      kind_is = m.kind_is;
      label_is = label_longer words names name j.decl.now.oneof j.form.label g.label m.label_is;
    }) h)

pub made_none : (plan : TablePlan) (words : List Word) (o : Oneofs) (gs : List Field) → HasOneofs words o → o.names ≡ []
    → gs ≡ [] → AreFieldsMade plan words [] o gs × (length o.names ≤ 0)
made_none plan words o gs keeps e f = (
  subst (AreFieldsMade plan words [] o) (sym f) (record { keeps = keeps; made = none; follow = sym (ap length e) }),
  omega (arith, ap length e),
)

pub made_more : (plan : TablePlan) (words : List Word) (js : List ShapedField) (i : ℕ) (j : ShapedField) (old new : Oneofs)
    (g : Field) (gs more : List Field) → slice_get js i ≡ Some j → (j.decl.now.oneof ≡ None → IsNoMember j.form.label)
    → IsNextField plan words j old new g → more ≡ gs ++ g ∷ [] → AreFieldsMade plan words (take i js) old gs
    → length old.names ≤ i → AreFieldsMade plan words (take (i + 1) js) new more × (length new.names ≤ i + 1)
made_more plan words js i j old new g gs more at plain is e h few =
    let step = step_of words j.decl.now.oneof j.form.label old new g.label plain is.label_is in
    let grown : take (i + 1) js ≡ take i js ++ j ∷ [] =
    take_more js i j (slice_get_within js i j at)
    ∙ ap (λ (x : ShapedField). take i js ++ x ∷ []) (get_or_from_slice_get js i j j at) in
    let made : IsMadeField plan words new.names j g = record {
      number_is = is.number_is;
      name_is = is.name_is;
      kind_is = is.kind_is;
      label_is = step.label_is;
    } in (
      subst (λ (l : List ShapedField). AreFieldsMade plan words l new more) (sym grown)
          (subst (AreFieldsMade plan words (take i js ++ j ∷ []) new) (sym e) (record {
            keeps = is.keeps;
            made = in_order_push (IsMadeField plan words new.names) j g
                (made_grown plan words old.names new.names (take i js) gs step.grown h.made) made;
            follow = follow_more gs 0 (length old.names) (length new.names) g h.follow step.joins;
          })),
      (let n : length new.names ≤ length old.names + 1 = step.few in omega arith),
    )

-- ---- fields with their numbers and shapes

no_member_label : (o : Option ℕ) (label : Label) → IsNoMember (label_in o label) → IsNoMember label
no_member_label None label h = h
no_member_label (Some i) label h = absurd h

-- the name of a oneof in the text of a label
member_text : (T : Table) (words : List Word) (names : List (List ℕ)) (i q : ℕ) → IsPlacedOneof words names i q
    → label_text T names (Member q) ≡ label_text T (map (λ o. o.name) words) (Member i)
member_text T words names i q h =
    let name : Word → List ℕ = λ o. o.name in
    let a : slice_get names q ≡ Some h.word.name = h.named in
    let b : slice_get (map name words) i ≡ Some h.word.name = slice_get-map name words i ∙ ap (option_map name) h.at in
    ap (λ (o : Option (List ℕ)). codes "oneof:" ++ unwrap_or o []) (a ∙ sym b)

record Labelled (T : Table) (words : List Word) (names : List (List ℕ)) (form label : Label) (k : Kind) : Type 0 where
  same : label_text T names label ≡ label_text T (map (λ o. o.name) words) form
  goes : IsLabelFor (length names) label k

labelled_at : (T : Table) (words : List Word) (names : List (List ℕ)) (oneof form_oneof : Option ℕ)
    (form label : Label) (k : Kind) → LabelParts T (length names) k oneof (label_in form_oneof form)
    → IsLabelOf words names oneof form label → Labelled T words names (label_in form_oneof form) label k
labelled_at T words names None form_oneof form label k parts is =
    let h = parts.none refl in
    let L : Label = label_in form_oneof form in
    let e : label ≡ L = is ∙ sym (no_member_same form_oneof form h.0) in record {
      same = ap (label_text T names) e ∙ label_alike T names (map (λ o. o.name) words) L h.0;
      goes = subst (λ (l : Label). IsLabelFor (length names) l k) (sym e) h.1;
    }
labelled_at T words names (Some i) form_oneof form label k parts is =
    let e : label_in form_oneof form ≡ Member i = parts.some i refl in record {
      same = ap (label_text T names) is.1 ∙ member_text T words names i is.0 is.2
          ∙ ap (label_text T (map (λ o. o.name) words)) (sym e);
      goes = subst (λ (l : Label). IsLabelFor (length names) l k) (sym is.1)
          (slice_get_within names is.0 is.2.word.name is.2.named);
    }

record FieldParts (F : Joined) (T : Table) (scope : List (List ℕ)) (m : MessageDecl) (t : Message) (f : FieldDecl)
    (g : Field) : Type 0 where
  of_field : IsFieldOf T F scope m t f g
  goes : IsLabelFor (length t.oneofs) g.label g.kind
  known : IsKnown T g.kind

field_of : (F : Joined) (p : TablePlan) (T : Table) (place : ℕ) (m : MessageDecl) (scope : List (List ℕ)) (j : ShapedField)
    (g : Field) (t : Message) → IsFormed F → IsTablePlan F p → HasTableNames p T → IsScope F (home.Message place) scope
    → IsShapedField F m.file place j.decl.now j → IsMadeField p m.oneofs t.oneofs j g → FieldParts F T scope m t j.decl.now g
field_of F p T place m scope j g t formed plan has up is made =
    let f = is.form_is scope up in
    let L : Label = label_in j.form.oneof j.form.label in
    let K : Kind = table_kind p j.form.type_of in
    let kw = kind_word F m.file p T scope j.decl.now L j.form.type_of f.word formed plan has f.of_type f.has in
    let parts = label_parts T (length t.oneofs) K F m.file scope j.decl.now L f.word f.has kw.0 in
    let l = labelled_at T m.oneofs t.oneofs j.decl.now.oneof j.form.oneof j.form.label g.label K parts made.label_is in
    let known : IsKnown T g.kind = subst (IsKnown T) (sym made.kind_is) kw.1 in record {
      of_field = record {
        name = made.name_is;
        number = ap pos made.number_is ∙ sym is.number_is;
        label = L;
        word = f.word;
        form = f.has;
        kind = ap (kind_text T) made.kind_is ∙ kw.0;
        known = known;
        same = l.same;
      };
      goes = subst (λ (k : Kind). IsLabelFor (length t.oneofs) g.label k) (sym made.kind_is) l.goes;
      known = known;
    }

-- ---- clean messages

plain_at : (o : Option ℕ) (l : Label) → IsNoMember l → o ≡ None → IsNoMember (label_in o l)
plain_at None l h e = h
plain_at (Some i) l h e = absurd (none-some i (sym e))

form_plain : (F : Joined) (file : ℕ) (scope : List (List ℕ)) (f : FieldDecl) (label : Label) (word : List ℕ)
    → HasShape F file scope f label word → f.oneof ≡ None → IsNoMember label
form_plain F file scope f label word (single w text im pk is typ) e =
    plain_at f.oneof (single_label f.label f.packed im pk) (single_no_member f.label f.packed im pk) e
form_plain F file scope f label word (a_map key value l text im pk is plain alone_here s keyed typ) e = tt

pub judged_plain : (F : Joined) (file place : ℕ) (j : ShapedField) → IsFormed F → place < length F.messages
    → IsShapedField F file place j.decl.now j → j.decl.now.oneof ≡ None → IsNoMember j.form.label
judged_plain F file place j formed l is e =
    let scope = scope_at formed place l in
    let f = is.form_is scope.0 scope.1 in
    no_member_label j.form.oneof j.form.label
    (form_plain F file scope.0 j.decl.now (label_in j.form.oneof j.form.label) f.word f.has e)

pub judged_known : (F : Joined) (p : TablePlan) (file place : ℕ) (j : ShapedField) → IsFormed F → IsTablePlan F p
    → place < length F.messages → IsShapedField F file place j.decl.now j → IsInPlan p j.form.type_of
judged_known F p file place j formed plan l is =
    let scope = scope_at formed place l in
    let f = is.form_is scope.0 scope.1 in
    in_plan F p j.form.type_of f.word plan f.of_type

pub judged_oneof : (F : Joined) (place : ℕ) (m : MessageDecl) (f : FieldDecl) → IsFormed F
    → slice_get F.messages place ≡ Some m → Contains m.fields f → IsIndexBelow (length m.oneofs) f.oneof
judged_oneof F place m f formed at c =
    (All-contains (IsFormedField (length m.oneofs)) m.fields f (message_formed F place m formed at).fields c).oneof

pub few_fields : (F : Joined) (place : ℕ) (m : MessageDecl) → IsFormed F → HasNoViolation F → slice_get F.messages place ≡ Some m
    → length m.fields ≤ MAX_FIELDS
few_fields F place m formed clean at = elim (cases_lt MAX_FIELDS (length m.fields)) [
  | inl more ↦
      let f = some_at m.fields MAX_FIELDS more in
      let scope = scope_at formed place (slice_get_within F.messages place m at) in
      absurd (clean Limit f.0.name.span (Violations.of_message place m at scope.1
      (of_name MAX_FIELDS f.0 f.1 (name_too_many (omega arith) (refl, refl)))))
  | inr few ↦ few
]

field_named : (F : Joined) (place : ℕ) (m : MessageDecl) (f : FieldDecl) → IsFormed F → HasNoViolation F
    → slice_get F.messages place ≡ Some m → Contains m.fields f → IsName f.name.name
field_named F place m f formed clean at c =
    let scope = scope_at formed place (slice_get_within F.messages place m at) in record {
      form = (All-contains (IsFormedField (length m.oneofs)) m.fields f (message_formed F place m formed at).fields c).name;
      short = short_from f.name.name
          (λ no. clean Limit f.name.span (Violations.of_message place m at scope.1
          (of_name c.0 f (at_in m.fields f c) (name_long (no, (refl, refl))))));
    }

oneof_named : (F : Joined) (place : ℕ) (m : MessageDecl) (k : ℕ) (w : Word) → IsFormed F → HasNoViolation F
    → slice_get F.messages place ≡ Some m → slice_get m.oneofs k ≡ Some w → IsName w.name
oneof_named F place m k w formed clean at here =
    let scope = scope_at formed place (slice_get_within F.messages place m at) in record {
      form = All-contains HasName m.oneofs w (message_formed F place m formed at).oneofs (in_list m.oneofs k w here);
      short = short_from w.name
          (λ no. clean Limit w.span (Violations.of_message place m at scope.1
          (of_oneof k w here (no, (refl, refl)))));
    }

same_oneof : (i j k : ℕ) → oneof_decl i j ≡ oneof_decl i k → j ≡ k
same_oneof i j k e = cc

-- oneofs with the same name are one
one_oneof : (F : Joined) (place : ℕ) (m : MessageDecl) (j k : ℕ) (x y : Word) → IsFormed F → IsOrdered F → HasNoViolation F
    → slice_get F.messages place ≡ Some m → slice_get m.oneofs j ≡ Some x → slice_get m.oneofs k ≡ Some y
    → x.name ≡ y.name → j ≡ k
one_oneof F place m j k x y formed ordered clean at xs ys same =
    let here = here_message F place formed (slice_get_within F.messages place m at) in
    let e : here.decl ≡ m = same_Some here.decl m (sym here.at ∙ at) in
    let up : IsScope F (enclosing_of m) here.outer = subst (λ (d : MessageDecl). IsScope F (enclosing_of d) here.outer) e here.up in
    let scope : IsScope F (home.Message place) (here.outer ++ m.name.name ∷ []) = of_message place m at up in
    let its : Contains F.messages m = in_list F.messages place m at in
    let a : Contains m.oneofs x = in_list m.oneofs j x xs in
    let b : Contains m.oneofs y = in_list m.oneofs k y ys in
    let words = (message_formed F place m formed at).oneofs in
    let full : Word → List (List ℕ) = λ w. here.outer ++ m.name.name ∷ w.name ∷ [] in
    same_oneof place j k
    (one_declaration F (oneof_decl place j) (oneof_decl place k) no_type no_type (full x) (full y) x.span y.span ordered
    clean (Scopes.oneof m x its a up) (Scopes.oneof m y its b up) (Together.oneof place j m x at xs refl)
    (Together.oneof place k m y at ys refl)
    (field_names here.outer m.name.name x.name (scope_names formed scope) (All-contains HasName m.oneofs x words a))
    (field_names here.outer m.name.name y.name (scope_names formed scope) (All-contains HasName m.oneofs y words b))
    (ap (λ (n : List ℕ). text_of (here.outer ++ m.name.name ∷ n ∷ [])) same))

record MetOneof (words : List Word) (o : Oneofs) (p : ℕ) : Type 0 where
  at : ℕ
  word : Word
  here : slice_get words at ≡ Some word
  placed : slice_get o.places.items at ≡ Some (Some p)
  named : slice_get o.names p ≡ Some word.name

met_oneof : (words : List Word) (o : Oneofs) (p : ℕ) → HasOneofs words o → p < length o.names → MetOneof words o p
met_oneof words o p keeps l =
    let i = keeps.met p l in
    let h = keeps.placed i.0 p i.1 in
    record { at = i.0; word = h.word; here = h.at; placed = i.1; named = h.named }

same_place : (p q : ℕ) → Some (Some p) ≡ Some (Some q) → p ≡ q
same_place p q e = cc

oneofs_distinct : (F : Joined) (place : ℕ) (m : MessageDecl) (o : Oneofs) → IsFormed F → IsOrdered F → HasNoViolation F
    → slice_get F.messages place ≡ Some m → HasOneofs m.oneofs o → AreDistinct o.names
oneofs_distinct F place m o formed ordered clean at keeps =
    apart_distinct o.names
    (λ p q d a b e.
    let x = met_oneof m.oneofs o p keeps a in
    let y = met_oneof m.oneofs o q keeps b in
    let names : x.word.name ≡ y.word.name =
    sym (get_or_from_slice_get o.names p x.word.name d x.named) ∙ e
    ∙ get_or_from_slice_get o.names q y.word.name d y.named in
    let s : x.at ≡ y.at = one_oneof F place m x.at y.at x.word y.word formed ordered clean at x.here y.here names in
    same_place p q (sym x.placed ∙ ap (slice_get o.places.items) s ∙ y.placed))

label_placed : (words : List Word) (names : List (List ℕ)) (oneof : Option ℕ) (form label : Label) (k : ℕ)
    → oneof ≡ Some k → IsLabelOf words names oneof form label → (q : ℕ) × IsPlacedOneof words names k q
label_placed words names None form label k e h = absurd (none-some k e)
label_placed words names (Some i) form label k e h =
    (h.0, subst (λ (n : ℕ). IsPlacedOneof words names n h.0) (same_Some i k e) h.2)

-- ---- the message

pub message_at : (F : Joined) (p : TablePlan) (place : ℕ) (m : MessageDecl) (js : List ShapedField) (o : Oneofs) (gs : List Field)
    (name : List ℕ) → IsFormed F → IsOrdered F → HasNoViolation F → IsTablePlan F p → slice_get F.messages place ≡ Some m
    → AreShapedFields F place m js → AreFieldsMade p m.oneofs js o gs → name ≡ name_at_index p.messages.names.items place
    → IsMessageAt F p place (record { name = name; fields = gs; oneofs = o.names })
message_at F p place m js o gs name formed ordered clean plan at judged made named =
    let t : Message = record { name = name; fields = gs; oneofs = o.names } in
    let here = here_message F place formed (slice_get_within F.messages place m at) in
    let same : here.decl ≡ m = same_Some here.decl m (sym here.at ∙ at) in
    let up : IsScope F (enclosing_of m) here.outer = subst (λ (d : MessageDecl). IsScope F (enclosing_of d) here.outer) same here.up in
    let scope : List (List ℕ) = here.outer ++ m.name.name ∷ [] in
    let its : IsScope F (home.Message place) scope = of_message place m at up in
    let text : name ≡ text_of (here.outer ++ here.decl.name.name ∷ []) =
    named ∙ message_text F p.messages.names.items place here plan.messages
    (omega (arith, plan.all_messages, slice_get_within F.messages place m at)) [] in
    let text2 : name ≡ text_of scope =
    text ∙ ap (λ (d : MessageDecl). text_of (here.outer ++ d.name.name ∷ [])) same in
    let short : is_short here.decl.name.name ≡ true = true_from (is_short here.decl.name.name)
    (λ no. clean Limit here.decl.name.span (Violations.of_message place here.decl here.at
    (of_message place here.decl here.at here.up) (long_message (no, (refl, refl))))) in
    let R : ShapedField → Field → Type 0 = IsMadeField p m.oneofs o.names in
    let back : (k : ℕ) (g : Field) → slice_get gs k ≡ Some g
    → (j : ShapedField) × (slice_get js k ≡ Some j) × IsMadeField p m.oneofs o.names j g =
    λ k g e. in_order_back R made.made k g e in
    let parts : (T : Table) → HasTableNames p T → (k : ℕ) (j : ShapedField) (g : Field) → slice_get js k ≡ Some j
    → IsMadeField p m.oneofs o.names j g → FieldParts F T scope m t j.decl.now g =
    λ T has k j g e h. field_of F p T place m scope j g t formed plan has its (judged.each j (in_list js k j e)).0 h in
    record {
      is = λ T has d there.
          let one : m ≡ d = same_Some m d (sym at ∙ there) in
          let of_m : IsMessageOf T F m t = record {
            outer = here.outer;
            stands = up;
            name = text2;
            fields = record {
              each = λ f c.
                  let j = judged.all f c in
                  let e : slice_get js j.1.0 ≡ Some j.0 = at_in js j.0 j.1 in
                  let g = in_order_get R made.made j.1.0 j.0 e in (
                    g.0,
                    in_list gs j.1.0 g.0 g.1,
                    subst (λ (x : FieldDecl). IsFieldOf T F scope m t x g.0) j.2
                        (parts T has j.1.0 j.0 g.0 e g.2).of_field,
                  );
              alone = λ g c.
                  let j = back c.0 g (at_in gs g c) in (
                    j.0.decl.now,
                    (judged.each j.0 (in_list js c.0 j.0 j.1)).1,
                    (parts T has c.0 j.0 g j.1 j.2).of_field,
                  );
            };
            oneofs = record {
              each = λ w c.
                  let f = (message_formed F place m formed at).filled c.0 c.1 in
                  let j = judged.all f.0 f.1 in
                  let e : slice_get js j.1.0 ≡ Some j.0 = at_in js j.0 j.1 in
                  let g = in_order_get R made.made j.1.0 j.0 e in
                  let oneof : j.0.decl.now.oneof ≡ Some c.0 = ap (λ (x : FieldDecl). x.oneof) j.2 ∙ f.2 in
                  let q = label_placed m.oneofs o.names j.0.decl.now.oneof j.0.form.label g.0.label c.0 oneof g.2.label_is in
                  let s : q.1.word ≡ w = same_Some q.1.word w (sym q.1.at ∙ at_in m.oneofs w c) in
                  (q.1.word.name, in_list o.names q.0 q.1.word.name q.1.named, ap (λ (x : Word). x.name) s);
              alone = λ n c.
                  let x = met_oneof m.oneofs o c.0 made.keeps c.1 in (
                    x.word,
                    in_list m.oneofs x.at x.word x.here,
                    same_Some n x.word.name (sym (at_in o.names n c) ∙ x.named),
                  );
            };
          } in
          subst (λ (x : MessageDecl). IsMessageOf T F x t) one of_m;
      valid = λ T has. record {
        name = subst IsFullName (sym text)
            (type_valid F a_message here.outer here.decl.name.name here.decl.name.span clean here.declares refl here.names
            (short_more here.outer here.decl.name.name (scope_short clean here.up) short));
        few = omega (
          arith,
          few_fields F place m formed clean at,
          judged.count,
          sym (length-map js (λ (j : ShapedField). j.number)) ∙ ap length (in_order_map R (λ (j : ShapedField). j.number)
              (λ (g : Field). g.number) (λ j g h. sym h.number_is) made.made) ∙ length-map gs (λ (g : Field). g.number),
        );
        fields = λ k d l.
            let g : Field = get_or gs k d in
            let e : slice_get gs k ≡ Some g = slice_get-get_or gs k d l in
            let j = back k g e in
            let is = judged.each j.0 (in_list js k j.0 j.1) in
            let q = parts T has k j.0 g j.1 j.2 in record {
              number = subst IsFieldNumber (sym j.2.number_is) is.0.in_range;
              name = subst IsName (sym j.2.name_is) (field_named F place m j.0.decl.now formed clean at is.1);
              label = q.goes;
              kind = q.known;
            };
        ascend = ascends_alike R (λ (j : ShapedField). j.number) (λ (g : Field). g.number) (λ j g h. h.number_is) made.made
            judged.ascend;
        names = subst (λ (ns : List (List ℕ)). AreDistinct ns)
            (in_order_map R (λ (j : ShapedField). j.decl.now.name.name) (λ (g : Field). g.name) (λ j g h. sym h.name_is) made.made)
            judged.distinct;
        oneofs = λ k d l.
            let x = met_oneof m.oneofs o k made.keeps l in
            subst IsName (sym (get_or_from_slice_get o.names k x.word.name d x.named))
            (oneof_named F place m x.at x.word formed clean at x.here);
        oneof_names = oneofs_distinct F place m o formed ordered clean at made.keeps;
        oneof_order = made.follow;
      };
      name = named;
    }
