-- The fields of clean files have shapes, and distinct numbers.
use Rattle.std.proofs.Common.{◌≡◌, ◌≢◌, ℕ, suc, ◌+◌, ◌<◌, ◌≤◌, inl, inr, Bool, true, false, List, [], ◌∷◌, ◌++◌}
use Rattle.std.proofs.Common.{length, get_or, map, take, Option, Some, None, refl, sym, ap, ◌∙◌, subst, arith}
use Rattle.std.specs.Prelude.{Contains, slice_get, pos, IsTrue}
use Rattle.mrpc_table.specs.Names.{is_name_form}
use Rattle.std.specs.Option.{option_map}
use Rattle.std.specs.List.Sorted.{IsPermutation, IsNonDecreasingBy}
use Rattle.std.proofs.lemmas.Bool.{false≢true, cases_Bool, cases_order}
use Rattle.std.proofs.lemmas.Option.{slice_get_within, get_or_from_slice_get, same_Some, slice_get-map}
use Rattle.std.proofs.lemmas.List.{get_or-map, length-map, append_assoc, map-append, take_more}
use Rattle.std.proofs.lemmas.List.Elements.{All-contains, Contains-push_cases}
use Rattle.std.proofs.lemmas.List.Sorted.{IsPermutation-map, IsPermutation-sym, length_permutation, Contains-permutation}
use Rattle.mrpc_table.specs.Words.{is_key, is_numeric}
use Rattle.mrpc_table.specs.declared.table.Kind.{Kind}
use Rattle.mrpc_table.specs.declared.table.Label.{Label}
use Rattle.proto_ast.specs.Order
use Rattle.proto_ast.specs.Order.{IsFormedField}
use Rattle.proto_ast.specs.Together.{IsFormed, IsOrdered, field_decl}
use Rattle.proto_ast.specs.declared.file.Span.{Span}
use Rattle.proto_ast.specs.declared.file.Word.{Word}
use Rattle.proto_ast.specs.declared.file.FieldLabel.{FieldLabel}
use Rattle.proto_ast.specs.declared.file.FieldLabel.TheVariants.{Plain, Optional, Repeated}
use Rattle.proto_ast.specs.declared.file.FieldType.{FieldType}
use Rattle.proto_ast.specs.declared.file.FieldType.TheVariants.{Named, Map, NestedMap}
use Rattle.proto_ast.specs.declared.file.FieldDecl.{FieldDecl}
use Rattle.proto_ast.specs.declared.file.MessageDecl.{MessageDecl}
use Rattle.proto_ast.specs.Joined.{Joined, enclosing_of}
use Rattle.proto_ast.specs.declared.joined.Enclosing.TheVariants as home
use Rattle.proto_ast.specs.Together
use Rattle.schema_symbols.specs.Scopes
use Rattle.schema_symbols.specs.Scopes.{DeclKind, a_message, an_enum, no_type, IsReferenceTo, IsVisibleDeclaration, text_of, IsScope, of_message}
use Rattle.schema_validation.specs.Types.{signed_value, IsScalar, IsNoScalar, HasType, scalar, message, enum, HasShape, single, a_map}
use Rattle.schema_symbols.specs.Lookups.{IsUnresolved}
use Rattle.schema_validation.specs.Members.{unknown_key, scalar_key, type_key, nested, labelled, in_oneof}
use Rattle.schema_validation.specs.Members.{IsTypeViolation, unknown_type, bad_key, unknown_value, misplaced}
use Rattle.schema_validation.specs.Members.{IsFieldNumberOf, of_type, of_number, number_out_of_range, number_met_before}
use Rattle.schema_validation.specs.Violations
use Rattle.schema_validation.specs.declared.reason.ResolveReason.{ResolveReason}
use Rattle.schema_validation.specs.declared.reason.ResolveReason.TheVariants.{UnknownName, NumberRange, DuplicateNumber, MapKey, MapPlace}
use Rattle.schema_resolve.specs.Resolving.{HasNoViolation}
use Rattle.schema_resolve.specs.ShapedFields.{IsShapedField, AreShapedInOrder, AreShapedFields}
use Rattle.schema_resolve.specs.declared.field_table.ShapedField.{ShapedField}
use Rattle.schema_resolve.proofs.FullNames.{AreNames, scope_names, names_more, message_formed}
use Rattle.schema_resolve.proofs.Orders.{AreApart, apart_distinct, apart_moved, ascends_from}
use Rattle.schema_resolve.proofs.CleanFiles.{in_list, at_in, some_at, one_declaration, here_message}
use Rattle.schema_resolve.proofs.EnumTables.{contains_map, map_contains, map_twice}

-- ---- shapes

found_type : {F : Joined} {file : ℕ} {full : List (List ℕ)} → IsVisibleDeclaration F file no_type full → ⊥
found_type h = absurd (false≢true h.names_type)

-- the names of a declaration inside a message
pub field_names : (outer : List (List ℕ)) (name inner : List ℕ) → AreNames (outer ++ name ∷ [])
    → IsTrue (is_name_form inner) → AreNames (outer ++ name ∷ inner ∷ [])
field_names outer name inner h n =
    subst (λ (l : List (List ℕ)). AreNames l) (append_assoc outer (name ∷ []) (inner ∷ []))
    (names_more (outer ++ name ∷ []) inner h n)

module _ (F : Joined) (i : ℕ) (m : MessageDecl) (scope : List (List ℕ)) (f : FieldDecl) (clean : HasNoViolation F)
    (at : slice_get F.messages i ≡ Some m) (up : IsScope F (home.Message i) scope) (field : Contains m.fields f) where
  well_typed : (q : ResolveReason) (s : Span) → IsTypeViolation F m.file scope f q s → ⊥
  well_typed q s o =
      clean q s (Violations.of_message i m at up (of_type field.0 f (at_in m.fields f field) o))

  -- names name types
  no_sort : (w : Word) (sort : DeclKind) (full : List (List ℕ)) → IsNoScalar w.name
      → ((word : List ℕ) (is_message packable : Bool) → HasType F m.file scope w word is_message packable → ⊥)
      → IsReferenceTo F m.file scope w.name sort full → ⊥
  no_sort w a_message full plain none names = none _ _ _ (message full plain names)
  no_sort w an_enum full plain none names = none _ _ _ (enum full plain names)
  no_sort w no_type full plain none names = found_type names.finds

  has_type : (w : Word)
      → ((word : List ℕ) (is_message packable : Bool) → HasType F m.file scope w word is_message packable → ⊥)
      → IsNoScalar w.name × IsUnresolved F m.file scope w.name
  has_type w none =
      let plain : IsNoScalar w.name = λ k s. none w.name false (is_numeric k) (scalar k s) in
      (plain, λ sort full names. no_sort w sort full plain none names)

  named_form : (w : Word) → f.kind ≡ Named w
      → ((label : Label) (word : List ℕ) → HasShape F m.file scope f label word → ⊥) → ⊥
  named_form w is none =
      let t = has_type w (λ word is_message packable h. none _ _ (single w word is_message packable is h)) in
      well_typed UnknownName w.span (unknown_type w is (record { no_scalar = t.0; unknown = t.1; is = (refl, refl) }))

  plain_at : (key value : Word) (label : FieldLabel) → f.kind ≡ Map key value → f.label ≡ label → (label ≡ Plain → ⊥) → ⊥
  plain_at key value label is e not =
      well_typed MapPlace f.name.span
      (misplaced (labelled key value is (λ (p : f.label ≡ Plain). not (sym e ∙ p))) (refl, refl))

  map_form : (key value : Word) → f.kind ≡ Map key value → f.label ≡ Plain → f.oneof ≡ None
      → ((label : Label) (word : List ℕ) → HasShape F m.file scope f label word → ⊥) → ⊥
  map_form key value is label oneof none =
      let key_scalar : (k : Kind) → IsScalar key.name k → is_key k ≡ true → ⊥ =
      λ k s keyed.
      let t = has_type value
      (λ word is_message packable h. none _ _ (a_map key value k word is_message packable is label oneof s keyed h)) in
      well_typed UnknownName value.span
      (unknown_value key value is (record { no_scalar = t.0; unknown = t.1; is = (refl, refl) })) in
      let no_key : IsNoScalar key.name =
      λ k s. elim (cases_Bool (is_key k)) [
        | inl t ↦ key_scalar k s t
        | inr t ↦ well_typed MapKey key.span (bad_key key value is (scalar_key k s t (refl, refl)))
      ] in
      let no_names : IsUnresolved F m.file scope key.name =
      λ sort full names. well_typed MapKey key.span (bad_key key value is (type_key sort full no_key names (refl, refl))) in
      well_typed UnknownName key.span
      (bad_key key value is (unknown_key (record { no_scalar = no_key; unknown = no_names; is = (refl, refl) })))

  map_label : (key value : Word) (label : FieldLabel) → f.kind ≡ Map key value → f.label ≡ label → f.label ≡ Plain
  map_label key value Plain is e = e
  map_label key value Optional is e = absurd (plain_at key value Optional is e (λ p. cc))
  map_label key value Repeated is e = absurd (plain_at key value Repeated is e (λ p. cc))

  map_oneof : (key value : Word) (oneof : Option ℕ) → f.kind ≡ Map key value → f.oneof ≡ oneof → f.oneof ≡ None
  map_oneof key value None is e = e
  map_oneof key value (Some o) is e =
      absurd (well_typed MapPlace f.name.span (misplaced (in_oneof key value o is e) (refl, refl)))

  form_at : (kind : FieldType) → f.kind ≡ kind
      → ((label : Label) (word : List ℕ) → HasShape F m.file scope f label word → ⊥) → ⊥
  form_at (Named w) is none = named_form w is none
  form_at (Map key value) is none =
      map_form key value is (map_label key value f.label is refl) (map_oneof key value f.oneof is refl) none
  form_at (NestedMap key) is none = well_typed MapPlace f.name.span (misplaced (nested key is) (refl, refl))

  pub has_form : ((label : Label) (word : List ℕ) → HasShape F m.file scope f label word → ⊥) → ⊥
  has_form none = form_at f.kind refl none

  pub has_number : (IsFieldNumberOf (signed_value f.number) → ⊥) → ⊥
  has_number none =
      clean NumberRange f.number.span (Violations.of_message i m at up
      (of_number field.0 (number_out_of_range f (at_in m.fields f field) none (refl, refl))))

-- ---- fields in the order of the text

pub judged_more : (F : Joined) (file place i : ℕ) (fs : List FieldDecl) (f : FieldDecl) (js more : List ShapedField) (j : ShapedField)
    → slice_get fs i ≡ Some f → IsShapedField F file place f j → more ≡ js ++ j ∷ [] → AreShapedInOrder F file place (take i fs) js
    → AreShapedInOrder F file place (take (i + 1) fs) more
judged_more F file place i fs f js more j at is e h =
    let decl : ShapedField → FieldDecl = λ x. x.decl.now in
    let grown : take (i + 1) fs ≡ take i fs ++ f ∷ [] =
    take_more fs i f (slice_get_within fs i f at)
    ∙ ap (λ (x : FieldDecl). take i fs ++ x ∷ []) (get_or_from_slice_get fs i f f at) in
    subst (λ (l : List FieldDecl). AreShapedInOrder F file place l more) (sym grown)
    (subst (AreShapedInOrder F file place (take i fs ++ f ∷ [])) (sym e) (record {
      decls = map-append decl js (j ∷ []) ∙ ap (λ (l : List FieldDecl). l ++ decl j ∷ []) h.decls
          ∙ ap (λ (x : FieldDecl). take i fs ++ x ∷ []) is.decl_is;
      each = λ x c. elim (Contains-push_cases js j x c) [
        | inl old ↦ h.each x old
        | inr new ↦
            subst (λ (y : ShapedField). IsShapedField F file place y.decl.now y) new
            (subst (λ (g : FieldDecl). IsShapedField F file place g j) (sym is.decl_is) is)
      ];
    }))

-- ---- fields by number

same_field : (i j k : ℕ) → field_decl i j ≡ field_decl i k → j ≡ k
same_field i j k e = cc

met_twice : (F : Joined) (place : ℕ) (m : MessageDecl) (scope : List (List ℕ)) (j k : ℕ) (f g : FieldDecl) → HasNoViolation F
    → slice_get F.messages place ≡ Some m → IsScope F (home.Message place) scope → slice_get m.fields j ≡ Some f
    → slice_get m.fields k ≡ Some g → signed_value f.number ≡ signed_value g.number → j < k → ⊥
met_twice F place m scope j k f g clean at up fs gs e l =
    clean DuplicateNumber g.number.span (Violations.of_message place m at up
    (of_number k (number_met_before g f j gs l fs e (refl, refl))))

judged_at : (F : Joined) (place : ℕ) (m : MessageDecl) (js : List ShapedField) (k : ℕ) → AreShapedInOrder F m.file place m.fields js
    → k < length js → (j : ShapedField) × (slice_get js k ≡ Some j) × IsShapedField F m.file place j.decl.now j
    × (slice_get m.fields k ≡ Some j.decl.now)
judged_at F place m js k h l =
    let decl : ShapedField → FieldDecl = λ x. x.decl.now in
    let j = some_at js k l in (
      j.0,
      j.1,
      h.each j.0 (in_list js k j.0 j.1),
      ap (λ (fs : List FieldDecl). slice_get fs k) (sym h.decls) ∙ slice_get-map decl js k ∙ ap (option_map decl) j.1,
    )

numbers_apart : (F : Joined) (place : ℕ) (m : MessageDecl) (js : List ShapedField) → IsFormed F → HasNoViolation F
    → slice_get F.messages place ≡ Some m → AreShapedInOrder F m.file place m.fields js
    → AreApart (map (λ (j : ShapedField). j.number) js)
numbers_apart F place m js formed clean at h i k d a b e =
    let number : ShapedField → ℕ = λ j. j.number in
    let here = here_message F place formed (slice_get_within F.messages place m at) in
    let up : IsScope F (home.Message place) (here.outer ++ here.decl.name.name ∷ []) = of_message place here.decl here.at here.up in
    let scope : List (List ℕ) = here.outer ++ here.decl.name.name ∷ [] in
    let x = judged_at F place m js i h (omega (arith, length-map js number)) in
    let y = judged_at F place m js k h (omega (arith, length-map js number)) in
    let xn : get_or (map number js) i d ≡ x.0.number =
    get_or-map number js i x.0 d (omega (arith, length-map js number))
    ∙ ap number (get_or_from_slice_get js i x.0 x.0 x.1) in
    let yn : get_or (map number js) k d ≡ y.0.number =
    get_or-map number js k y.0 d (omega (arith, length-map js number))
    ∙ ap number (get_or_from_slice_get js k y.0 y.0 y.1) in
    let same : signed_value x.0.decl.now.number ≡ signed_value y.0.decl.now.number =
    x.2.number_is ∙ ap pos (sym xn ∙ e ∙ yn) ∙ sym y.2.number_is in
    elim (cases_order i k) [
      | inl s ↦ s
      | inr s ↦ elim s [
        | inl l ↦ absurd (met_twice F place m scope i k x.0.decl.now y.0.decl.now clean at up x.3 y.3 same l)
        | inr l ↦ absurd (met_twice F place m scope k i y.0.decl.now x.0.decl.now clean at up y.3 x.3 (sym same) l)
      ]
    ]

names_apart : (F : Joined) (place : ℕ) (m : MessageDecl) → IsFormed F → IsOrdered F → HasNoViolation F
    → slice_get F.messages place ≡ Some m → AreApart (map (λ (f : FieldDecl). f.name.name) m.fields)
names_apart F place m formed ordered clean at j k d a b s =
    let name : FieldDecl → List ℕ = λ f. f.name.name in
    let here = here_message F place formed (slice_get_within F.messages place m at) in
    let same : here.decl ≡ m = same_Some here.decl m (sym here.at ∙ at) in
    let up : IsScope F (enclosing_of m) here.outer = subst (λ (x : MessageDecl). IsScope F (enclosing_of x) here.outer) same here.up in
    let scope : IsScope F (home.Message place) (here.outer ++ m.name.name ∷ []) = of_message place m at up in
    let its : Contains F.messages m = in_list F.messages place m at in
    let x = some_at m.fields j (omega (arith, length-map m.fields name)) in
    let y = some_at m.fields k (omega (arith, length-map m.fields name)) in
    let xs : Contains m.fields x.0 = in_list m.fields j x.0 x.1 in
    let ys : Contains m.fields y.0 = in_list m.fields k y.0 y.1 in
    let xn : get_or (map name m.fields) j d ≡ x.0.name.name =
    get_or-map name m.fields j x.0 d (omega (arith, length-map m.fields name))
    ∙ ap name (get_or_from_slice_get m.fields j x.0 x.0 x.1) in
    let yn : get_or (map name m.fields) k d ≡ y.0.name.name =
    get_or-map name m.fields k y.0 d (omega (arith, length-map m.fields name))
    ∙ ap name (get_or_from_slice_get m.fields k y.0 y.0 y.1) in
    let fs = (message_formed F place m formed at).fields in
    let full : FieldDecl → List (List ℕ) = λ f. here.outer ++ m.name.name ∷ f.name.name ∷ [] in
    same_field place j k
    (one_declaration F (field_decl place j) (field_decl place k) no_type no_type (full x.0) (full y.0) x.0.name.span
    y.0.name.span ordered clean (Scopes.field m x.0 its xs up) (Scopes.field m y.0 its ys up)
    (Together.field place j m x.0 at x.1 (Order.field_name refl)) (Together.field place k m y.0 at y.1 (Order.field_name refl))
    (field_names here.outer m.name.name x.0.name.name (scope_names formed scope)
    (All-contains (IsFormedField (length m.oneofs)) m.fields x.0 fs xs).name)
    (field_names here.outer m.name.name y.0.name.name (scope_names formed scope)
    (All-contains (IsFormedField (length m.oneofs)) m.fields y.0 fs ys).name)
    (ap (λ (n : List ℕ). text_of (here.outer ++ m.name.name ∷ n ∷ [])) (sym xn ∙ s ∙ yn)))

number_step : (sorted : List ShapedField) → AreApart (map (λ (j : ShapedField). j.number) sorted)
    → IsNonDecreasingBy (λ (j : ShapedField). j.number) sorted → (k : ℕ) (d : ShapedField) → suc k < length sorted
    → (get_or sorted k d).number < (get_or sorted (suc k) d).number
number_step sorted apart ascends k d l =
    let number : ShapedField → ℕ = λ j. j.number in
    let x : get_or (map number sorted) k 0 ≡ (get_or sorted k d).number = get_or-map number sorted k d 0 (omega arith) in
    let y : get_or (map number sorted) (suc k) 0 ≡ (get_or sorted (suc k) d).number =
    get_or-map number sorted (suc k) d 0 l in
    let below : (get_or sorted k d).number ≤ (get_or sorted (suc k) d).number = ascends k (suc k) d (omega arith) l in
    let differ : (get_or sorted k d).number ≢ (get_or sorted (suc k) d).number = λ e.
    let same : k ≡ suc k = apart k (suc k) 0 (omega (arith, length-map sorted number))
    (omega (arith, length-map sorted number)) (x ∙ e ∙ sym y) in
    omega arith in
    omega arith

pub judged_of : (F : Joined) (place : ℕ) (m : MessageDecl) (js sorted : List ShapedField) → IsFormed F → IsOrdered F
    → HasNoViolation F → slice_get F.messages place ≡ Some m → AreShapedInOrder F m.file place m.fields js → IsPermutation js sorted
    → IsNonDecreasingBy (λ (j : ShapedField). j.number) sorted → AreShapedFields F place m sorted
judged_of F place m js sorted formed ordered clean at h moved ascends =
    let decl : ShapedField → FieldDecl = λ j. j.decl.now in
    let number : ShapedField → ℕ = λ j. j.number in
    let name : FieldDecl → List ℕ = λ f. f.name.name in
    let decls : IsPermutation m.fields (map decl sorted) =
    subst (λ (fs : List FieldDecl). IsPermutation fs (map decl sorted)) h.decls (IsPermutation-map decl js sorted moved) in
    let apart : AreApart (map number sorted) =
    apart_moved (map number js) (map number sorted) (IsPermutation-map number js sorted moved)
    (numbers_apart F place m js formed clean at h) in
    let names : AreApart (map name (map decl sorted)) =
    apart_moved (map name m.fields) (map name (map decl sorted)) (IsPermutation-map name m.fields (map decl sorted) decls)
    (names_apart F place m formed ordered clean at) in
    record {
      count = sym (length-map sorted decl) ∙ length_permutation m.fields (map decl sorted) decls;
      each = λ j c. (
        h.each j (Contains-permutation sorted js j (IsPermutation-sym js sorted moved) c),
        Contains-permutation (map decl sorted) m.fields (decl j) (IsPermutation-sym m.fields (map decl sorted) decls)
            (contains_map decl sorted j c),
      );
      all = λ f c. map_contains decl sorted f (Contains-permutation m.fields (map decl sorted) f decls c);
      ascend = ascends_from (λ j k. j.number < k.number) sorted (λ k d l. number_step sorted apart ascends k d l);
      distinct = apart_distinct (map (λ (j : ShapedField). j.decl.now.name.name) sorted)
          (subst (λ (ns : List (List ℕ)). AreApart ns) (map_twice decl name sorted) names);
    }
