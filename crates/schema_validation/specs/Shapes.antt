-- Types and shapes of fields as the resolver stores them: a named type by its index.
use Rattle.std.specs.Prelude.{◌≡◌, ℕ, Bool, true, false, List, ◌++◌, codes}
use Rattle.mrpc_table.specs.Scalars.{no_table}
use Rattle.mrpc_table.specs.Words.{is_numeric, is_key}
use Rattle.mrpc_table.specs.Text.{kind_text}
use Rattle.proto_ast.specs.declared.file.Span.{Span}
use Rattle.proto_ast.specs.declared.file.FieldDecl.{FieldDecl}
use Rattle.proto_ast.specs.Joined.{Joined}
use Rattle.schema_symbols.specs.Scopes.{text_of, IsReferenceTo}
use Rattle.schema_symbols.specs.Numbers.{IsSymbolAt, decl_kind, IsFirstSymbol}
use Rattle.schema_symbols.specs.declared.symbol.Symbol.{Symbol}
use Rattle.schema_symbols.specs.declared.symbol.Symbol.TheVariants.{Message, Enum}
use Rattle.schema_validation.specs.Types.{IsScalar, IsNoScalar, label_in, HasShape}
use Rattle.schema_validation.specs.declared.types.TypeOf.{TypeOf}
use Rattle.schema_validation.specs.declared.types.TypeOf.TheVariants.{Scalar, Named as OfName}
use Rattle.schema_validation.specs.declared.types.FieldShape.{FieldShape}

-- the code's own: a name of a file means this type in a scope
abbrev pub IsType : Joined → ℕ → List (List ℕ) → List ℕ → TypeOf → Type 0
IsType F file scope name (Scalar k) = IsScalar name k
IsType F file scope name (OfName n) =
    IsNoScalar name × ((full : List (List ℕ)) × IsReferenceTo F file scope name (decl_kind n) full × IsFirstSymbol F file n full)

-- the code's own: the type is a message
abbrev pub is_message : TypeOf → Bool
is_message (OfName (Message i)) = true
is_message _ = false

-- the code's own: repeated values of the type may be packed
abbrev pub is_packable : TypeOf → Bool
is_packable (Scalar k) = is_numeric k
is_packable (OfName (Message i)) = false
is_packable (OfName (Enum i)) = true

-- the code's own: the type may be the key of a map
abbrev pub may_be_key : TypeOf → Bool
may_be_key (Scalar k) = is_key k
may_be_key (OfName n) = false

abbrev pub decl_kind_word : Symbol → List ℕ
decl_kind_word (Message i) = codes "message:"
decl_kind_word (Enum i) = codes "enum:"

-- the word for a type in a table's text
abbrev pub IsWordOf : Joined → TypeOf → List ℕ → Type 0
IsWordOf F (Scalar k) word = word ≡ kind_text no_table k
IsWordOf F (OfName n) word =
    (full : List (List ℕ)) × (span : Span) × IsSymbolAt F n full span × (word ≡ decl_kind_word n ++ text_of full)

-- a field of a file has this shape
pub record IsShape (F : Joined) (file : ℕ) (scope : List (List ℕ)) (f : FieldDecl) (form : FieldShape) : Type 0 where
  pub word : List ℕ
  pub of_type : IsWordOf F form.type_of word
  pub has : HasShape F file scope f (label_in form.oneof form.label) word
