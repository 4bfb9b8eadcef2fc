-- The labels that are valid for each kind, and the words for kinds.
use Rattle.std.proofs.Common.{◌≡◌, ℕ, ◌<◌, Bool, true, false, cond, List, [], ◌∷◌, ◌++◌, length, get_or, Option, Some, None, refl, sym, ap, ◌∙◌, subst, arith}
use Rattle.std.specs.Prelude.{codes, slice_get, ◌&&◌, unwrap_or}
use Rattle.std.proofs.lemmas.Bool.{false≢true, true≢false, and_parts}
use Rattle.std.proofs.lemmas.Option.{same_Some, none-some, slice_get_within, get_or_from_slice_get}
use Rattle.std.proofs.lemmas.List.{append_cancel_left, length-append}
use Rattle.mrpc_table.specs.Scalars.{no_table, scalar_of}
use Rattle.mrpc_table.specs.Words.{is_numeric}
use Rattle.mrpc_table.specs.Text.{kind_text, label_text, message_name, enum_name}
use Rattle.mrpc_table.specs.Valid.{IsMessageKind, IsLabelFor, IsKnown}
use Rattle.mrpc_table.specs.declared.table.Kind.{Kind}
use Rattle.mrpc_table.specs.declared.table.Kind.TheVariants.{Int32, Int64, Uint32, Uint64, Sint32, Sint64}
use Rattle.mrpc_table.specs.declared.table.Kind.TheVariants.{Bool as TheBool, Fixed32, Fixed64, Sfixed32, Sfixed64}
use Rattle.mrpc_table.specs.declared.table.Kind.TheVariants.{Float, Double, Text, Octets, Message, Choice}
use Rattle.mrpc_table.specs.declared.table.Label.{Label}
use Rattle.mrpc_table.specs.declared.table.Label.TheVariants as labels
use Rattle.mrpc_table.specs.declared.table.Choices.{Choices}
use Rattle.mrpc_table.specs.declared.table.Table.{Table}
use Rattle.std.proofs.lemmas.List.Elements.{All-contains}
use Rattle.proto_ast.specs.Order.{IsFormedEnum}
use Rattle.proto_ast.specs.Together.{IsFormed}
use Rattle.proto_ast.specs.declared.file.Span.{Span}
use Rattle.proto_ast.specs.declared.file.Word.{Word}
use Rattle.proto_ast.specs.declared.file.FieldLabel.{FieldLabel}
use Rattle.proto_ast.specs.declared.file.FieldLabel.TheVariants.{Plain, Optional, Repeated}
use Rattle.proto_ast.specs.declared.file.FieldDecl.{FieldDecl}
use Rattle.proto_ast.specs.Joined.{Joined}
use Rattle.schema_symbols.specs.Scopes
use Rattle.schema_symbols.specs.Scopes.{DeclKind, is_type, IsDeclarationOf, IsVisibleDeclaration, text_of}
use Rattle.schema_symbols.specs.Numbers
use Rattle.schema_symbols.specs.Numbers.{IsSymbolAt}
use Rattle.schema_symbols.specs.declared.symbol.Symbol.TheVariants as named
use Rattle.schema_validation.specs.Types.{is_scalar, IsScalar, isnt_false, single_label, label_in, HasType, scalar, message, enum, HasShape, single, a_map}
use Rattle.schema_validation.specs.Shapes.{IsWordOf}
use Rattle.schema_validation.specs.declared.types.TypeOf.{TypeOf}
use Rattle.schema_validation.specs.declared.types.TypeOf.TheVariants.{Scalar, Named}
use Rattle.schema_resolve.specs.Placing.{IsTablePlan, HasTableNames}
use Rattle.schema_resolve.specs.Joining.{table_kind, IsInPlan}
use Rattle.schema_resolve.specs.declared.plan.TablePlan.{TablePlan}
use Rattle.schema_resolve.proofs.FullNames.{AreNames, scope_names, names_more, text_some, message_formed}
use Rattle.schema_resolve.proofs.CleanFiles.{at_in}
use Rattle.schema_resolve.proofs.MethodTables.{placed_at, name_read, message_named, message_standing, place_within}

-- ---- scalars

pub scalar_known : (k : Kind) → is_scalar k ≡ true → scalar_of (kind_text no_table k) ≡ Some k
scalar_known Int32 e = refl
scalar_known Int64 e = refl
scalar_known Uint32 e = refl
scalar_known Uint64 e = refl
scalar_known Sint32 e = refl
scalar_known Sint64 e = refl
scalar_known TheBool e = refl
scalar_known Fixed32 e = refl
scalar_known Fixed64 e = refl
scalar_known Sfixed32 e = refl
scalar_known Sfixed64 e = refl
scalar_known Float e = refl
scalar_known Double e = refl
scalar_known Text e = refl
scalar_known Octets e = refl
scalar_known (Message i) e = absurd (false≢true e)
scalar_known (Choice i) e = absurd (false≢true e)

pub scalar_text : (T : Table) (k : Kind) → is_scalar k ≡ true → kind_text T k ≡ kind_text no_table k
scalar_text T Int32 e = refl
scalar_text T Int64 e = refl
scalar_text T Uint32 e = refl
scalar_text T Uint64 e = refl
scalar_text T Sint32 e = refl
scalar_text T Sint64 e = refl
scalar_text T TheBool e = refl
scalar_text T Fixed32 e = refl
scalar_text T Fixed64 e = refl
scalar_text T Sfixed32 e = refl
scalar_text T Sfixed64 e = refl
scalar_text T Float e = refl
scalar_text T Double e = refl
scalar_text T Text e = refl
scalar_text T Octets e = refl
scalar_text T (Message i) e = absurd (false≢true e)
scalar_text T (Choice i) e = absurd (false≢true e)

scalar_kind : (T : Table) (k : Kind) → is_scalar k ≡ true → IsKnown T k
scalar_kind T Int32 e = tt
scalar_kind T Int64 e = tt
scalar_kind T Uint32 e = tt
scalar_kind T Uint64 e = tt
scalar_kind T Sint32 e = tt
scalar_kind T Sint64 e = tt
scalar_kind T TheBool e = tt
scalar_kind T Fixed32 e = tt
scalar_kind T Fixed64 e = tt
scalar_kind T Sfixed32 e = tt
scalar_kind T Sfixed64 e = tt
scalar_kind T Float e = tt
scalar_kind T Double e = tt
scalar_kind T Text e = tt
scalar_kind T Octets e = tt
scalar_kind T (Message i) e = absurd (false≢true e)
scalar_kind T (Choice i) e = absurd (false≢true e)

data Sorted (k : Kind) : Type 0 where
  a_scalar : is_scalar k ≡ true → Sorted k
  a_message_kind : (i : ℕ) → k ≡ Message i → Sorted k
  an_enum_kind : (i : ℕ) → k ≡ Choice i → Sorted k

sorted : (k : Kind) → Sorted k
sorted (Message i) = a_message_kind i refl
sorted (Choice i) = an_enum_kind i refl
sorted Int32 = a_scalar refl
sorted Int64 = a_scalar refl
sorted Uint32 = a_scalar refl
sorted Uint64 = a_scalar refl
sorted Sint32 = a_scalar refl
sorted Sint64 = a_scalar refl
sorted TheBool = a_scalar refl
sorted Fixed32 = a_scalar refl
sorted Fixed64 = a_scalar refl
sorted Sfixed32 = a_scalar refl
sorted Sfixed64 = a_scalar refl
sorted Float = a_scalar refl
sorted Double = a_scalar refl
sorted Text = a_scalar refl
sorted Octets = a_scalar refl

-- no scalar has the word of a message or an enum
not_message_word : (k : Kind) (name : List ℕ) → is_scalar k ≡ true → kind_text no_table k ≡ codes "message:" ++ name → ⊥
not_message_word k name s e =
    none-some k (subst (λ (w : List ℕ). scalar_of w ≡ Some k) e (scalar_known k s))

not_enum_word : (k : Kind) (name : List ℕ) → is_scalar k ≡ true → kind_text no_table k ≡ codes "enum:" ++ name → ⊥
not_enum_word k name s e =
    none-some k (subst (λ (w : List ℕ). scalar_of w ≡ Some k) e (scalar_known k s))

pub same_scalar : (k l : Kind) → is_scalar k ≡ true → is_scalar l ≡ true → kind_text no_table k ≡ kind_text no_table l → k ≡ l
same_scalar k l s t e = same_Some k l (sym (scalar_known k s) ∙ ap scalar_of e ∙ scalar_known l t)

message_not_enum : (a b : List ℕ) → codes "message:" ++ a ≡ codes "enum:" ++ b → ⊥
message_not_enum a b e = let h : ◌≡◌ {A = ℕ} 109 101 = cc in omega arith

-- ---- words

scalar_no_message : (k : Kind) → is_scalar k ≡ true → IsMessageKind k → ⊥
scalar_no_message Int32 e h = h
scalar_no_message Int64 e h = h
scalar_no_message Uint32 e h = h
scalar_no_message Uint64 e h = h
scalar_no_message Sint32 e h = h
scalar_no_message Sint64 e h = h
scalar_no_message TheBool e h = h
scalar_no_message Fixed32 e h = h
scalar_no_message Fixed64 e h = h
scalar_no_message Sfixed32 e h = h
scalar_no_message Sfixed64 e h = h
scalar_no_message Float e h = h
scalar_no_message Double e h = h
scalar_no_message Text e h = h
scalar_no_message Octets e h = h
scalar_no_message (Message i) e h = false≢true e
scalar_no_message (Choice i) e h = h

numeric_scalar : (T : Table) (k l : Kind) (name : List ℕ) → Sorted k → IsScalar name l → is_numeric l ≡ true
    → kind_text T k ≡ name → is_numeric k ≡ true
numeric_scalar T k l name (a_scalar t) s n e =
    let same : k ≡ l = same_scalar k l t s.is_one (sym (scalar_text T k t) ∙ e ∙ sym s.named) in
    ap is_numeric same ∙ n
numeric_scalar T k l name (a_message_kind i q) s n e =
    absurd (not_message_word l (message_name T i) s.is_one (s.named ∙ sym e ∙ ap (kind_text T) q))
numeric_scalar T k l name (an_enum_kind i q) s n e =
    absurd (not_enum_word l (enum_name T i) s.is_one (s.named ∙ sym e ∙ ap (kind_text T) q))

numeric_enum : (T : Table) (k : Kind) (text : List ℕ) → Sorted k → kind_text T k ≡ codes "enum:" ++ text
    → is_numeric k ≡ true
numeric_enum T k text (a_scalar t) e = absurd (not_enum_word k text t (sym (scalar_text T k t) ∙ e))
numeric_enum T k text (a_message_kind i q) e =
    absurd (message_not_enum (message_name T i) text (ap (kind_text T) (sym q) ∙ e))
numeric_enum T k text (an_enum_kind i q) e = ap is_numeric q

no_message_kind : (T : Table) (k : Kind) (F : Joined) (file : ℕ) (scope : List (List ℕ)) (w : Word) (word : List ℕ)
    (im pk : Bool) → Sorted k → HasType F file scope w word im pk → im ≡ false → kind_text T k ≡ word
    → IsMessageKind k → ⊥
no_message_kind T k F file scope w word im pk (a_scalar t) typ m e h = scalar_no_message k t h
no_message_kind T k F file scope w word im pk (an_enum_kind i q) typ m e h = subst IsMessageKind q h
no_message_kind T k F file scope w word im pk (a_message_kind i q) (scalar l s) m e h =
    not_message_word l (message_name T i) s.is_one (s.named ∙ sym e ∙ ap (kind_text T) q)
no_message_kind T k F file scope w word im pk (a_message_kind i q) (message full plain names) m e h = true≢false m
no_message_kind T k F file scope w word im pk (a_message_kind i q) (enum full plain names) m e h =
    message_not_enum (message_name T i) (text_of full) (ap (kind_text T) (sym q) ∙ e)

numeric : (T : Table) (k : Kind) (F : Joined) (file : ℕ) (scope : List (List ℕ)) (w : Word) (word : List ℕ)
    (im pk : Bool) → HasType F file scope w word im pk → pk ≡ true → kind_text T k ≡ word → is_numeric k ≡ true
numeric T k F file scope w word im pk (scalar l s) n e = numeric_scalar T k l w.name (sorted k) s n e
numeric T k F file scope w word im pk (message full plain names) n e = absurd (false≢true n)
numeric T k F file scope w word im pk (enum full plain names) n e = numeric_enum T k (text_of full) (sorted k) e

-- ---- labels

abbrev pub IsNoMember : Label → Type 0
IsNoMember (labels.Member o) = ⊥
IsNoMember _ = Unit {0}

repeated_no_member : (b : Bool) → IsNoMember (cond b labels.Packed labels.Repeated)
repeated_no_member true = tt
repeated_no_member false = tt

pub single_no_member : (l : FieldLabel) (packed : Option Bool) (im pk : Bool) → IsNoMember (single_label l packed im pk)
single_no_member Plain packed im pk = tt
single_no_member Optional packed true pk = tt
single_no_member Optional packed false pk = tt
single_no_member Repeated packed im pk = repeated_no_member (pk && isnt_false packed)

repeated_goes : (n : ℕ) (k : Kind) (b : Bool) → (b ≡ true → is_numeric k ≡ true)
    → IsLabelFor n (cond b labels.Packed labels.Repeated) k
repeated_goes n k true h = h refl
repeated_goes n k false h = tt

single_goes : (T : Table) (n : ℕ) (k : Kind) (F : Joined) (file : ℕ) (scope : List (List ℕ)) (w : Word) (word : List ℕ)
    (l : FieldLabel) (packed : Option Bool) (im pk : Bool) → HasType F file scope w word im pk → kind_text T k ≡ word
    → IsLabelFor n (single_label l packed im pk) k
single_goes T n k F file scope w word Plain packed im pk typ e = tt
single_goes T n k F file scope w word Optional packed true pk typ e = tt
single_goes T n k F file scope w word Optional packed false pk typ e =
    no_message_kind T k F file scope w word false pk (sorted k) typ refl e
single_goes T n k F file scope w word Repeated packed im pk typ e =
    repeated_goes n k (pk && isnt_false packed)
    (λ h. numeric T k F file scope w word im pk typ (and_parts pk (isnt_false packed) h).0 e)

-- the label of a shape is that of its oneof, or one that is valid for its kind
pub record LabelParts (T : Table) (n : ℕ) (k : Kind) (oneof : Option ℕ) (label : Label) : Type 0 where
  pub none : oneof ≡ None → IsNoMember label × IsLabelFor n label k
  pub some : (o : ℕ) → oneof ≡ Some o → label ≡ labels.Member o

parts_at : (T : Table) (n : ℕ) (k : Kind) (oneof : Option ℕ) (label : Label) → IsNoMember label → IsLabelFor n label k
    → LabelParts T n k oneof (label_in oneof label)
parts_at T n k None label h g = record { none = λ e. (h, g); some = λ o e. absurd (none-some o e) }
parts_at T n k (Some i) label h g = record {
  none = λ e. absurd (none-some i (sym e));
  some = λ o e. ap labels.Member (same_Some i o e);
}

pub label_parts : (T : Table) (n : ℕ) (k : Kind) (F : Joined) (file : ℕ) (scope : List (List ℕ)) (f : FieldDecl)
    (label : Label) (word : List ℕ) → HasShape F file scope f label word → kind_text T k ≡ word
    → LabelParts T n k f.oneof label
label_parts T n k F file scope f label word (single w text im pk is typ) e =
    parts_at T n k f.oneof (single_label f.label f.packed im pk) (single_no_member f.label f.packed im pk)
    (single_goes T n k F file scope w text f.label f.packed im pk typ e)
label_parts T n k F file scope f label word (a_map key value l text im pk is plain none s keyed typ) e = record {
  none = λ d. (tt, keyed);
  some = λ o d. absurd (none-some o (sym none ∙ d));
}

pub no_member_same : (o : Option ℕ) (label : Label) → IsNoMember (label_in o label) → label_in o label ≡ label
no_member_same None label h = refl
no_member_same (Some i) label h = absurd h

pub label_alike : (T : Table) (a b : List (List ℕ)) (label : Label) → IsNoMember label
    → label_text T a label ≡ label_text T b label
label_alike T a b labels.Plain h = refl
label_alike T a b labels.Optional h = refl
label_alike T a b labels.Repeated h = refl
label_alike T a b labels.Packed h = refl
label_alike T a b (labels.Map k) h = refl
label_alike T a b (labels.Member o) h = absurd h

-- ---- the word of a kind

text_some_at : (full : List (List ℕ)) → 0 < length full → AreNames full → text_of full ≡ [] → ⊥
text_some_at [] l h e = omega arith
text_some_at (x ∷ xs) l h e =
    let s = text_some x xs h in
    let f : s.0 ∷ s.1 ≡ [] = sym s.2 ∙ e in
    cc

declared_some : {F : Joined} {k : ℕ} {sort : DeclKind} {full : List (List ℕ)} {span : Span} → IsFormed F → IsDeclarationOf F k sort full span
    → is_type sort ≡ true → text_of full ≡ [] → ⊥
declared_some {F} formed (Scopes.message m {outer} c up) typ e =
    text_some_at (outer ++ m.name.name ∷ []) (omega (arith, length-append outer (m.name.name ∷ [])))
    (names_more outer m.name.name (scope_names formed up)
    (message_formed F c.0 m formed (at_in F.messages m c)).name) e
declared_some {F} formed (Scopes.enum m {outer} c up) typ e =
    text_some_at (outer ++ m.name.name ∷ []) (omega (arith, length-append outer (m.name.name ∷ [])))
    (names_more outer m.name.name (scope_names formed up)
    (All-contains IsFormedEnum F.enums m formed.enums c).name) e
declared_some formed (Scopes.service s c) typ e = false≢true typ
declared_some formed (Scopes.value x v c d up) typ e = false≢true typ
declared_some formed (Scopes.field m f c d up) typ e = false≢true typ
declared_some formed (Scopes.oneof m o c d up) typ e = false≢true typ

found_some : {F : Joined} {file : ℕ} {sort : DeclKind} {full : List (List ℕ)} → IsFormed F → IsVisibleDeclaration F file sort full
    → text_of full ≡ [] → ⊥
found_some formed h e = declared_some formed h.declared h.names_type e

scalar_word : (F : Joined) (file : ℕ) (scope : List (List ℕ)) (w : Word) (word : List ℕ) (im pk : Bool) (k : Kind) → IsFormed F
    → Sorted k → HasType F file scope w word im pk → word ≡ kind_text no_table k → is_scalar k ≡ true
scalar_word F file scope w word im pk k formed (a_scalar t) typ e = t
scalar_word F file scope w word im pk k formed (a_message_kind i q) (scalar l s) e =
    absurd (not_message_word l [] s.is_one (s.named ∙ e ∙ ap (kind_text no_table) q))
scalar_word F file scope w word im pk k formed (a_message_kind i q) (message full plain names) e =
    absurd (found_some formed names.finds
    (append_cancel_left (codes "message:") (text_of full) [] (e ∙ ap (kind_text no_table) q)))
scalar_word F file scope w word im pk k formed (a_message_kind i q) (enum full plain names) e =
    absurd (message_not_enum [] (text_of full) (sym (e ∙ ap (kind_text no_table) q)))
scalar_word F file scope w word im pk k formed (an_enum_kind i q) (scalar l s) e =
    absurd (not_enum_word l [] s.is_one (s.named ∙ e ∙ ap (kind_text no_table) q))
scalar_word F file scope w word im pk k formed (an_enum_kind i q) (message full plain names) e =
    absurd (message_not_enum (text_of full) [] (e ∙ ap (kind_text no_table) q))
scalar_word F file scope w word im pk k formed (an_enum_kind i q) (enum full plain names) e =
    absurd (found_some formed names.finds
    (append_cancel_left (codes "enum:") (text_of full) [] (e ∙ ap (kind_text no_table) q)))

scalar_form : (F : Joined) (file : ℕ) (scope : List (List ℕ)) (f : FieldDecl) (label : Label) (word : List ℕ) (k : Kind)
    → IsFormed F → HasShape F file scope f label word → word ≡ kind_text no_table k → is_scalar k ≡ true
scalar_form F file scope f label word k formed (single w text im pk is typ) e =
    scalar_word F file scope w text im pk k formed (sorted k) typ e
scalar_form F file scope f label word k formed (a_map key value l text im pk is plain none s keyed typ) e =
    scalar_word F file scope value text im pk k formed (sorted k) typ e

message_kind : (F : Joined) (p : TablePlan) (T : Table) (i : ℕ) (full : List (List ℕ)) (span : Span) → IsTablePlan F p
    → HasTableNames p T → IsSymbolAt F (named.Message i) full span
    → (kind_text T (table_kind p (Named (named.Message i))) ≡ codes "message:" ++ text_of full)
    × IsKnown T (table_kind p (Named (named.Message i)))
message_kind F p T i full span plan has stands =
    let s = message_standing stands in
    let at = placed_at p.messages.names.items p.messages i plan.message_places (omega (arith, plan.all_messages, s.1)) in
    let place : get_or p.messages.places.items i 0 ≡ at.0 = get_or_from_slice_get p.messages.places.items i at.0 0 at.1.back in
    let r = message_named F p T i at.0 full plan has s.1 s.0 at.1 in (
      ap (λ (j : ℕ). codes "message:" ++ message_name T j) place ∙ ap (λ (t : List ℕ). codes "message:" ++ t) r.0,
      subst (λ (j : ℕ). j < length T.messages) (sym place) r.1,
    )

enum_kind : (F : Joined) (p : TablePlan) (T : Table) (i : ℕ) (full : List (List ℕ)) (span : Span) → IsTablePlan F p
    → HasTableNames p T → IsSymbolAt F (named.Enum i) full span
    → (kind_text T (table_kind p (Named (named.Enum i))) ≡ codes "enum:" ++ text_of full)
    × IsKnown T (table_kind p (Named (named.Enum i)))
enum_kind F p T i full span plan has (Numbers.enum j x {outer} there up) =
    let l : i < length F.enums = slice_get_within F.enums i x there in
    let at = placed_at p.enums.names.items p.enums i plan.enum_places (omega (arith, plan.all_enums)) in
    let place : get_or p.enums.places.items i 0 ≡ at.0 = get_or_from_slice_get p.enums.places.items i at.0 0 at.1.back in
    let r = name_read (λ (c : Choices). c.name) T.enums p.enums i at.0 has.enums at.1 in
    let known : slice_get p.enums.names.items i ≡ Some (text_of (outer ++ x.name.name ∷ [])) =
    plan.enums.each i x outer (omega (arith, plan.all_enums)) there up in
    let text : enum_name T at.0 ≡ text_of (outer ++ x.name.name ∷ []) =
    ap (λ (o : Option (List ℕ)). unwrap_or o []) r.0
    ∙ get_or_from_slice_get p.enums.names.items i (text_of (outer ++ x.name.name ∷ [])) [] known in (
      ap (λ (k : ℕ). codes "enum:" ++ enum_name T k) place ∙ ap (λ (t : List ℕ). codes "enum:" ++ t) text,
      subst (λ (k : ℕ). k < length T.enums) (sym place) r.1,
    )

-- the kind of a shape in a table
pub kind_word : (F : Joined) (file : ℕ) (p : TablePlan) (T : Table) (scope : List (List ℕ)) (f : FieldDecl) (label : Label)
    (type_of : TypeOf) (word : List ℕ) → IsFormed F → IsTablePlan F p → HasTableNames p T → IsWordOf F type_of word
    → HasShape F file scope f label word → (kind_text T (table_kind p type_of) ≡ word) × IsKnown T (table_kind p type_of)
kind_word F file p T scope f label (Scalar k) word formed plan has is form =
    let t = scalar_form F file scope f label word k formed form is in
    (scalar_text T k t ∙ sym is, scalar_kind T k t)
kind_word F file p T scope f label (Named (named.Message i)) word formed plan has is form =
    let r = message_kind F p T i is.0 is.1 plan has is.2 in
    (r.0 ∙ sym is.3, r.1)
kind_word F file p T scope f label (Named (named.Enum i)) word formed plan has is form =
    let r = enum_kind F p T i is.0 is.1 plan has is.2 in
    (r.0 ∙ sym is.3, r.1)

enum_within : {F : Joined} {i : ℕ} {full : List (List ℕ)} {span : Span} → IsSymbolAt F (named.Enum i) full span
    → i < length F.enums
enum_within {F} (Numbers.enum j x there up) = slice_get_within F.enums j x there

pub in_plan : (F : Joined) (p : TablePlan) (type_of : TypeOf) (word : List ℕ) → IsTablePlan F p → IsWordOf F type_of word
    → IsInPlan p type_of
in_plan F p (Scalar k) word plan is = tt
in_plan F p (Named (named.Message i)) word plan is =
    place_within F p i plan (message_standing is.2).1
in_plan F p (Named (named.Enum i)) word plan is =
    omega (arith, plan.all_enums, plan.enum_places.order.count, plan.enum_places.places.count, enum_within is.2)
