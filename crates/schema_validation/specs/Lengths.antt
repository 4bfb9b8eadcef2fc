-- The code's own: the lengths of full names and of the lines of a table's text, capped at the largest number of 64
-- bits. Also: the lines that were added before a declaration.
use Rattle.std.specs.Prelude.{◌≡◌, ◌⊎◌, ℕ, pos, ◌+◌, ◌<◌, ◌≢◌, List, [], ◌∷◌, ◌++◌, codes, length, map, take, sum_by, Option, Some, None, slice_get, Contains, FitsSigned}
use Rattle.std.proofs.Common.{suc, get_or}
use Rattle.std.specs.Int.{w32}
use Rattle.std.specs.List.{flat_map}
use Rattle.std.specs.Fmt.{decimal}
use Rattle.mrpc_table.specs.Capped.{capped}
use Rattle.mrpc_table.specs.Scalars.{no_table}
use Rattle.mrpc_table.specs.Valid.{IsFieldNumber}
use Rattle.mrpc_table.specs.Text.{kind_text, label_text, line, value_line}
use Rattle.mrpc_table.specs.declared.limits.TheConstants.{MAX_FULL_NAME, MAX_TEXT}
use Rattle.mrpc_table.specs.declared.table.Label.{Label}
use Rattle.proto_ast.specs.Together.{DeclIndex, message_decl, field_decl, enum_decl, value_decl, rpc_decl}
use Rattle.proto_ast.specs.declared.file.Span.{Span}
use Rattle.proto_ast.specs.declared.file.Word.{Word}
use Rattle.proto_ast.specs.declared.file.FieldDecl.{FieldDecl}
use Rattle.proto_ast.specs.declared.file.MessageDecl.{MessageDecl}
use Rattle.proto_ast.specs.declared.file.ValueDecl.{ValueDecl}
use Rattle.proto_ast.specs.declared.file.EnumDecl.{EnumDecl}
use Rattle.proto_ast.specs.declared.file.RpcDecl.{RpcDecl}
use Rattle.proto_ast.specs.declared.file.ServiceDecl.{ServiceDecl}
use Rattle.proto_ast.specs.Joined.{Joined, enclosing_of, enclosing_of_enum, package_parts, package_at}
use Rattle.proto_ast.specs.declared.joined.Enclosing.{Enclosing}
use Rattle.proto_ast.specs.declared.joined.Enclosing.TheVariants as home
use Rattle.schema_symbols.specs.Scopes.{a_message, text_of, IsScope, IsReferenceTo}
use Rattle.schema_symbols.specs.Numbers.{IsSymbolAt}
use Rattle.schema_symbols.specs.declared.symbol.Symbol.TheVariants.{Message, Enum}
use Rattle.schema_validation.specs.Methods.{service_rpcs}
use Rattle.schema_validation.specs.Types.{signed_value, HasShape}
use Rattle.schema_validation.specs.Members.{Is}
use Rattle.schema_validation.specs.declared.reason.ResolveReason.{ResolveReason}
use Rattle.schema_validation.specs.declared.reason.ResolveReason.TheVariants.{Limit}
use Rattle.schema_validation.specs.declared.types.TypeOf.{TypeOf}
use Rattle.schema_validation.specs.declared.types.TypeOf.TheVariants.{Scalar, Named as OfName}
use Rattle.schema_validation.specs.declared.lines.Lengths.{Lengths}

-- ---- full names

-- the length of a full name before its last part: its scope and a dot
abbrev pub prefix_length : List (List ℕ) → ℕ
prefix_length [] = 0
prefix_length (part ∷ parts) = length (text_of (part ∷ parts)) + 1

-- the lengths of the full names of the first messages and enums
pub record HasLengths (F : Joined) (messages enums : ℕ) (kept : Lengths) : Type 0 where
  pub fronts : kept.fronts.items ≡ map (λ h. capped (prefix_length (package_parts h.package))) F.heads
  pub all_messages : length kept.messages.items ≡ messages
  pub all_enums : length kept.enums.items ≡ enums
  pub of_message : (i : ℕ) (full : List (List ℕ)) (s : Span) → i < messages → IsSymbolAt F (Message i) full s
      → get_or kept.messages.items i 0 ≡ capped (length (text_of full))
  pub of_enum : (i : ℕ) (full : List (List ℕ)) (s : Span) → i < enums → IsSymbolAt F (Enum i) full s
      → get_or kept.enums.items i 0 ≡ capped (length (text_of full))

-- the lengths of all full names
abbrev pub AreLengths : Joined → Lengths → Type 0
AreLengths F kept = HasLengths F (length F.messages) (length F.enums) kept

abbrev pub kept_prefix : Lengths → Enclosing → ℕ
kept_prefix kept (home.File k) = get_or kept.fronts.items k 0
kept_prefix kept (home.Message i) = get_or kept.messages.items i 0 + 1

abbrev pub IsKeptHome : Lengths → Enclosing → Type 0
IsKeptHome kept (home.File k) = k < length kept.fronts.items
IsKeptHome kept (home.Message i) = i < length kept.messages.items

-- the length of the full name of a declaration inside a file or a message
abbrev pub full_length : Lengths → Enclosing → Word → ℕ
full_length kept parent w = capped (kept_prefix kept parent + length w.name)

-- ---- types

abbrev pub IsKeptType : Lengths → TypeOf → Type 0
IsKeptType kept (Scalar k) = Unit {0}
IsKeptType kept (OfName (Message i)) = i < length kept.messages.items
IsKeptType kept (OfName (Enum i)) = i < length kept.enums.items

-- the length of the word for a type in a table's text
abbrev pub type_length : Lengths → TypeOf → ℕ
type_length kept (Scalar k) = length (kind_text no_table k)
type_length kept (OfName (Message i)) = capped (get_or kept.messages.items i 0 + 8)
type_length kept (OfName (Enum i)) = capped (get_or kept.enums.items i 0 + 5)

-- ---- lines

-- the number of rpcs in the services before an index
abbrev pub rpcs_before : Joined → ℕ → ℕ
rpcs_before F i = length (flat_map service_rpcs (take i F.services))

-- the lines of names, by declaration
pub data IsNameLine (F : Joined) : DeclIndex → Span → List ℕ → Type 0 where
  of_message : (i : ℕ) (m : MessageDecl) {outer : List (List ℕ)} → slice_get F.messages i ≡ Some m
      → IsScope F (enclosing_of m) outer
      → IsNameLine F (message_decl i) m.name.span (line (codes "message" ∷ text_of (outer ++ m.name.name ∷ []) ∷ []))
  of_field : (i j : ℕ) (m : MessageDecl) (f : FieldDecl) (n : ℕ) {scope : List (List ℕ)} {label : Label}
      {word : List ℕ} → slice_get F.messages i ≡ Some m → slice_get m.fields j ≡ Some f
      → IsScope F (home.Message i) scope → signed_value f.number ≡ pos n → IsFieldNumber n
      → HasShape F m.file scope f label word → IsNameLine F (field_decl i j) f.name.span (line
      (codes "field" ∷ decimal n ∷ label_text no_table (map (λ o. o.name) m.oneofs) label ∷ word ∷ f.name.name ∷ []))
  of_enum : (i : ℕ) (e : EnumDecl) {outer : List (List ℕ)} → slice_get F.enums i ≡ Some e
      → IsScope F (enclosing_of_enum e) outer
      → IsNameLine F (enum_decl i) e.name.span (line (codes "enum" ∷ text_of (outer ++ e.name.name ∷ []) ∷ []))
  of_value : (i j : ℕ) (e : EnumDecl) (v : ValueDecl) → slice_get F.enums i ≡ Some e → slice_get e.values j ≡ Some v
      → FitsSigned w32 (signed_value v.number)
      → IsNameLine F (value_decl i j) v.name.span (value_line (signed_value v.number, v.name.name))
  of_method : (i j n : ℕ) (s : ServiceDecl) (r : RpcDecl) {input output : List (List ℕ)}
      → slice_get F.services i ≡ Some s → slice_get s.rpcs j ≡ Some r
      → n ≡ rpcs_before F i + j
      → IsReferenceTo F s.file (package_at F s.file) r.input.name a_message input
      → IsReferenceTo F s.file (package_at F s.file) r.output.name a_message output
      → IsNameLine F (rpc_decl i j) r.name.span (line
      (codes "method" ∷ decimal n ∷ text_of (package_at F s.file ++ s.name.name ∷ []) ∷ r.name.name ∷ text_of input
      ∷ text_of output ∷ []))

-- a name, with the length of its line
pub record IsMeasuredLine (F : Joined) (d : DeclIndex) (x : Span × ℕ) : Type 0 where
  pub text : List ℕ
  pub at : IsNameLine F d x.0 text
  pub is : x.1 ≡ capped (length text)

-- the length of the line of a declaration, if it has a line
abbrev pub IsLengthAt : Joined → DeclIndex → Span → Option ℕ → Type 0
IsLengthAt F d span None = (s : Span) (text : List ℕ) → IsNameLine F d s text → ⊥
IsLengthAt F d span (Some n) = IsMeasuredLine F d (span, n)

-- a name that has a line, with its length
abbrev pub line_entry : Span → Option ℕ → List (Span × ℕ)
line_entry span None = []
line_entry span (Some n) = (span, n) ∷ []

-- ---- the order in which lines are added

-- messages with their fields come before enums with their values, and these before methods
abbrev pub class_of : DeclIndex → ℕ
class_of (message_decl i) = 0
class_of (field_decl i j) = 0
class_of (enum_decl i) = 1
class_of (value_decl i j) = 1
class_of _ = 2

abbrev pub decl_index : DeclIndex → ℕ
decl_index (message_decl i) = i
decl_index (field_decl i j) = i
decl_index (enum_decl i) = i
decl_index (value_decl i j) = i
decl_index (rpc_decl i j) = i
decl_index _ = 0

abbrev pub part_of : DeclIndex → ℕ
part_of (field_decl i j) = suc j
part_of (value_decl i j) = suc j
part_of (rpc_decl i j) = j
part_of _ = 0

abbrev pub IsEarlierThan : ℕ → ℕ → ℕ → DeclIndex → Type 0
IsEarlierThan class place part d =
    (class_of d < class) ⊎ ((class_of d ≡ class) × ((decl_index d < place) ⊎ ((decl_index d ≡ place) × (part_of d < part))))

-- no two names start at the same offset
abbrev pub HaveDistinctSpans : List (Span × ℕ) → Type 0
HaveDistinctSpans [] = Unit {0}
HaveDistinctSpans (x ∷ xs) = ((y : Span × ℕ) → Contains xs y → x.0.start ≢ y.0.start) × HaveDistinctSpans xs

-- each declaration before this one that has a line is listed once with its length
pub record HasLinesBefore (F : Joined) (class place part : ℕ) (lines : List (Span × ℕ)) : Type 0 where
  pub sound : (x : Span × ℕ) → Contains lines x → (d : DeclIndex) × IsEarlierThan class place part d × IsMeasuredLine F d x
  pub whole : (d : DeclIndex) (s : Span) (text : List ℕ) → IsEarlierThan class place part d → IsNameLine F d s text
      → (x : Span × ℕ) × Contains lines x × IsMeasuredLine F d x
  pub once : HaveDistinctSpans lines

-- the lines of all declarations
abbrev pub HasAllLines : Joined → List (Span × ℕ) → Type 0
HasAllLines F lines = HasLinesBefore F 3 0 0 lines

-- the lines up to this one exceed the limit
abbrev pub IsPast : List (Span × ℕ) → ℕ → Span × ℕ → ResolveReason → Span → Type 0
IsPast lines i x q s = (MAX_TEXT < sum_by (λ (y : Span × ℕ). y.1) (take (i + 1) lines)) × Is Limit x.0 q s

-- a full name inside a file or a message is too long
abbrev pub IsLongName : Lengths → Enclosing → Word → ResolveReason → Span → Type 0
IsLongName kept parent w q s = (MAX_FULL_NAME < full_length kept parent w) × Is Limit w.span q s
