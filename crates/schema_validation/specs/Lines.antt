-- The lines of names in a table's text, and the name that exceeds the text's limit (this project's own).
use Rattle.std.specs.Prelude.{◌≡◌, ℕ, pos, ◌<◌, ◌≤◌, List, [], ◌∷◌, ◌++◌, codes, length, map, Some, slice_get, All, Contains, FitsSigned}
use Rattle.std.specs.Int.{w32}
use Rattle.std.specs.List.{flat_map}
use Rattle.std.specs.Fmt.{decimal}
use Rattle.mrpc_table.specs.Scalars.{no_table}
use Rattle.mrpc_table.specs.Valid.{IsFieldNumber, IsAscendingBy}
use Rattle.mrpc_table.specs.Text.{label_text, line, value_line}
use Rattle.mrpc_table.specs.declared.limits.TheConstants.{MAX_TEXT}
use Rattle.mrpc_table.specs.declared.table.Label.{Label}
use Rattle.proto_ast.specs.declared.file.Span.{Span}
use Rattle.proto_ast.specs.declared.file.FieldDecl.{FieldDecl}
use Rattle.proto_ast.specs.declared.file.MessageDecl.{MessageDecl}
use Rattle.proto_ast.specs.declared.file.ValueDecl.{ValueDecl}
use Rattle.proto_ast.specs.declared.file.EnumDecl.{EnumDecl}
use Rattle.proto_ast.specs.declared.file.RpcDecl.{RpcDecl}
use Rattle.proto_ast.specs.declared.file.ServiceDecl.{ServiceDecl}
use Rattle.proto_ast.specs.Joined.{Joined, enclosing_of, enclosing_of_enum, package_at}
use Rattle.proto_ast.specs.declared.joined.Enclosing.TheVariants as home
use Rattle.schema_symbols.specs.Scopes.{a_message, text_of, IsScope, IsReferenceTo}
use Rattle.schema_validation.specs.Methods.{rpcs_of}
use Rattle.schema_validation.specs.Types.{signed_value, HasShape}

-- a field of a message, and the scope in which its types are looked up: the message itself
pub record HasField (F : Joined) (scope : List (List ℕ)) (m : MessageDecl) (f : FieldDecl) : Type 0 where
  pub place : ℕ
  pub message : slice_get F.messages place ≡ Some m
  pub is_scope : IsScope F (home.Message place) scope
  pub field : Contains m.fields f

pub record HasValue (F : Joined) (e : EnumDecl) (v : ValueDecl) : Type 0 where
  pub enum : Contains F.enums e
  pub value : Contains e.values v

-- the line of a name in a table's text; a name has one if its types are known and its number is in range
pub data HasLine (F : Joined) : Span → List ℕ → Type 0 where
  of_message : (m : MessageDecl) {outer : List (List ℕ)} → Contains F.messages m → IsScope F (enclosing_of m) outer
      → HasLine F m.name.span (line (codes "message" ∷ text_of (outer ++ m.name.name ∷ []) ∷ []))
  of_enum : (e : EnumDecl) {outer : List (List ℕ)} → Contains F.enums e → IsScope F (enclosing_of_enum e) outer
      → HasLine F e.name.span (line (codes "enum" ∷ text_of (outer ++ e.name.name ∷ []) ∷ []))
  of_value : (e : EnumDecl) (v : ValueDecl) → HasValue F e v → FitsSigned w32 (signed_value v.number)
      → HasLine F v.name.span (value_line (signed_value v.number, v.name.name))
  of_field : (m : MessageDecl) (f : FieldDecl) (n : ℕ) {scope : List (List ℕ)} {label : Label} {word : List ℕ}
      → HasField F scope m f → signed_value f.number ≡ pos n → IsFieldNumber n → HasShape F m.file scope f label word
      → HasLine F f.name.span (line
      (codes "field" ∷ decimal n ∷ label_text no_table (map (λ o. o.name) m.oneofs) label ∷ word ∷ f.name.name ∷ []))
  of_method : (s : ServiceDecl) (r : RpcDecl) (i : ℕ) {input output : List (List ℕ)}
      → slice_get (rpcs_of F) i ≡ Some (s, r)
      → IsReferenceTo F s.file (package_at F s.file) r.input.name a_message input
      → IsReferenceTo F s.file (package_at F s.file) r.output.name a_message output
      → HasLine F r.name.span (line
      (codes "method" ∷ decimal i ∷ text_of (package_at F s.file ++ s.name.name ∷ []) ∷ r.name.name ∷ text_of input
      ∷ text_of output ∷ []))

-- the lines in the order of the text, up to the line of this name, exceed the limit of a table's text
pub record IsPastTextLimit (F : Joined) (span : Span) : Type 0 where
  pub lines : List (Span × List ℕ)
  pub are : All (λ l. HasLine F l.0 l.1) lines
  pub ascend : IsAscendingBy (λ a b. a.0.start < b.0.start) lines
  pub own : List ℕ
  pub last : Contains lines (span, own)
  pub none_behind : All (λ l. l.0.start ≤ span.start) lines
  pub pass : MAX_TEXT < length (flat_map (λ (l : Span × List ℕ). l.1) lines)
