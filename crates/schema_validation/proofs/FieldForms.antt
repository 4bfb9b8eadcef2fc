-- The shape of a field, by its types and its label.
use Rattle.std.proofs.Common.{◌≡◌, ◌≢◌, ℕ, Bool, true, false, List, ◌++◌, refl, sym, ap, subst}
use Rattle.std.specs.Prelude.{Option, Some, None, not, codes}
use Rattle.std.specs.Option.{is_some}
use denote.Enum.Bare.{sameb}
use Rattle.mrpc_table.specs.Words.{is_key}
use Rattle.mrpc_table.specs.declared.table.Kind.{Kind}
use Rattle.mrpc_table.specs.declared.table.Label.{Label}
use Rattle.mrpc_table.specs.declared.table.Label.TheVariants as labels
use Rattle.proto_ast.specs.contracts.file.FieldLabel.{the_type}
use Rattle.proto_ast.specs.declared.file.Word.{Word}
use Rattle.proto_ast.specs.declared.file.FieldLabel.{FieldLabel}
use Rattle.proto_ast.specs.declared.file.FieldLabel.TheVariants.{Plain, Optional, Repeated}
use Rattle.proto_ast.specs.declared.file.FieldType.TheVariants.{Named, Map}
use Rattle.proto_ast.specs.declared.file.FieldDecl.{FieldDecl}
use Rattle.proto_ast.specs.Joined.{Joined}
use Rattle.schema_symbols.specs.Scopes.{text_of}
use Rattle.schema_symbols.specs.declared.symbol.Symbol.TheVariants.{Message, Enum}
use Rattle.schema_validation.specs.Types
use Rattle.schema_validation.specs.Types.{IsScalar, IsNoScalar, HasType, HasShape, label_in, single_label}
use Rattle.schema_validation.specs.Members
use Rattle.schema_symbols.specs.Lookups.{IsUnresolved}
use Rattle.schema_validation.specs.Members.{IsMisplacedMap}
use Rattle.schema_validation.specs.Shapes.{IsType, IsWordOf, IsShape, is_message, is_packable}
use Rattle.schema_validation.specs.declared.types.TypeOf.{TypeOf}
use Rattle.schema_validation.specs.declared.types.TypeOf.TheVariants.{Scalar, Named as OfName}

-- ---- labels

pub is_plain : (l : FieldLabel) → not (sameb the_type l Plain) ≡ false → l ≡ Plain
is_plain Plain e = refl
is_plain Optional e = absurd cc
is_plain Repeated e = absurd cc

pub isnt_plain : (l : FieldLabel) → not (sameb the_type l Plain) ≡ true → l ≢ Plain
isnt_plain Plain e = absurd cc
isnt_plain Optional e = λ h. absurd cc
isnt_plain Repeated e = λ h. absurd cc

-- ---- misplaced maps

is_misplaced_at : (f : FieldDecl) (key value : Word) (oneof : Option ℕ) → f.kind ≡ Map key value → f.oneof ≡ oneof
    → is_some oneof ≡ true → IsMisplacedMap f
is_misplaced_at f key value None e h t = absurd cc
is_misplaced_at f key value (Some o) e h t = Members.in_oneof key value o e h

-- a map without a label is misplaced if it is in a oneof
pub misplaced_in_oneof : (f : FieldDecl) (key value : Word) → f.kind ≡ Map key value
    → is_some f.oneof ≡ true → IsMisplacedMap f
misplaced_in_oneof f key value e t = is_misplaced_at f key value f.oneof e refl t

pub in_some_oneof : (f : FieldDecl) (key value : Word) → f.kind ≡ Map key value → f.label ≡ Plain → IsMisplacedMap f
    → is_some f.oneof ≡ true
in_some_oneof f key value e p (Members.nested k n) = absurd cc
in_some_oneof f key value e p (Members.labelled a b k l) = absurd (l p)
in_some_oneof f key value e p (Members.in_oneof a b o k is) = ap (λ (x : Option ℕ). is_some x) is

label_at : (f : FieldDecl) (key value : Word) (l : FieldLabel) → f.kind ≡ Map key value → f.label ≡ l
    → (IsMisplacedMap f → ⊥) → l ≡ Plain
label_at f key value Plain e h none = refl
label_at f key value Optional e h none = absurd (none (Members.labelled key value e (λ p. absurd cc)))
label_at f key value Repeated e h none = absurd (none (Members.labelled key value e (λ p. absurd cc)))

map_label : (f : FieldDecl) (key value : Word) → f.kind ≡ Map key value → (IsMisplacedMap f → ⊥) → f.label ≡ Plain
map_label f key value e none = label_at f key value f.label e refl none

oneof_at : (f : FieldDecl) (key value : Word) (o : Option ℕ) → f.kind ≡ Map key value → f.oneof ≡ o
    → (IsMisplacedMap f → ⊥) → o ≡ None
oneof_at f key value None e h none = refl
oneof_at f key value (Some o) e h none = absurd (none (Members.in_oneof key value o e h))

map_oneof : (f : FieldDecl) (key value : Word) → f.kind ≡ Map key value → (IsMisplacedMap f → ⊥) → f.oneof ≡ None
map_oneof f key value e none = oneof_at f key value f.oneof e refl none

-- ---- types

-- a type has a word
pub record HasWord (F : Joined) (file : ℕ) (scope : List (List ℕ)) (w : Word) (t : TypeOf) : Type 0 where
  pub word : List ℕ
  pub of_type : IsWordOf F t word
  pub has : HasType F file scope w word (is_message t) (is_packable t)

pub has_word : (F : Joined) (file : ℕ) (scope : List (List ℕ)) (w : Word) (t : TypeOf) → IsType F file scope w.name t
    → HasWord F file scope w t
has_word F file scope w (Scalar k) is = record { word = w.name; of_type = sym is.named; has = Types.scalar k is }
has_word F file scope w (OfName (Message i)) is = record {
  word = codes "message:" ++ text_of is.1.0;
  of_type = (is.1.0, is.1.2.span, is.1.2.stands, refl);
  has = Types.message is.1.0 is.0 is.1.1;
}
has_word F file scope w (OfName (Enum i)) is = record {
  word = codes "enum:" ++ text_of is.1.0;
  of_type = (is.1.0, is.1.2.span, is.1.2.stands, refl);
  has = Types.enum is.1.0 is.0 is.1.1;
}

pub no_type : (F : Joined) (file : ℕ) (scope : List (List ℕ)) (w : Word) (word : List ℕ) (m p : Bool)
    → IsNoScalar w.name
    → IsUnresolved F file scope w.name → HasType F file scope w word m p → ⊥
no_type F file scope w word m p none unknown (Types.scalar k is) = none k is
no_type F file scope w word m p none unknown (Types.message full s names) = unknown _ full names
no_type F file scope w word m p none unknown (Types.enum full s names) = unknown _ full names

-- ---- shapes

module _ (F : Joined) (file : ℕ) (scope : List (List ℕ)) (f : FieldDecl) where
  pub no_single : (w : Word) → f.kind ≡ Named w → IsNoScalar w.name → IsUnresolved F file scope w.name
      → (label : Label) (word : List ℕ) → HasShape F file scope f label word → ⊥
  no_single w e none unknown label word (Types.single x other m p k has) =
      let same : x ≡ w = cc in
      no_type F file scope w other m p none unknown
      (subst (λ (y : Word). HasType F file scope y other m p) same has)
  no_single w e none unknown label word (Types.a_map a b k other m p kind plain out scalar key has) = absurd cc

  pub no_value : (key value : Word) → f.kind ≡ Map key value → IsNoScalar value.name
      → IsUnresolved F file scope value.name → (label : Label) (word : List ℕ) → HasShape F file scope f label word → ⊥
  no_value key value e none unknown label word (Types.single x other m p k has) = absurd cc
  no_value key value e none unknown label word (Types.a_map a b k other m p kind plain out scalar is_key has) =
      let same : b ≡ value = cc in
      no_type F file scope value other m p none unknown
      (subst (λ (y : Word). HasType F file scope y other m p) same has)

module _ (F : Joined) (file : ℕ) (scope : List (List ℕ)) (f : FieldDecl) where
  pub single_form : (w : Word) (t : TypeOf) (l : Label) → f.kind ≡ Named w → IsType F file scope w.name t
      → l ≡ single_label f.label f.packed (is_message t) (is_packable t)
      → IsShape F file scope f (record { label = l; oneof = f.oneof; type_of = t })
  single_form w t l e is same =
      let h = has_word F file scope w t is in
      record {
        word = h.word;
        of_type = h.of_type;
        has = subst (λ (x : Label). HasShape F file scope f (label_in f.oneof x) h.word) (sym same)
            (Types.single w h.word (is_message t) (is_packable t) e h.has);
      }

  pub map_form : (key value : Word) (k : Kind) (t : TypeOf) → f.kind ≡ Map key value → (IsMisplacedMap f → ⊥)
      → IsScalar key.name k → is_key k ≡ true → IsType F file scope value.name t
      → IsShape F file scope f (record { label = labels.Map k; oneof = None; type_of = t })
  map_form key value k t e placed scalar may is =
      let h = has_word F file scope value t is in
      record {
        word = h.word;
        of_type = h.of_type;
        has = Types.a_map key value k h.word (is_message t) (is_packable t) e (map_label f key value e placed)
            (map_oneof f key value e placed) scalar may h.has;
      }
