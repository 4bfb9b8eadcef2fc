-- Violations of declarations whose references name the same declarations.
use Rattle.std.proofs.Common.{ℕ, Bool, List}
use Rattle.std.specs.Prelude.{Contains}
use Rattle.mrpc_table.specs.declared.table.Label.{Label}
use Rattle.proto_ast.specs.declared.file.Span.{Span}
use Rattle.proto_ast.specs.declared.file.Word.{Word}
use Rattle.proto_ast.specs.declared.file.FieldDecl.{FieldDecl}
use Rattle.proto_ast.specs.declared.file.MessageDecl.{MessageDecl}
use Rattle.proto_ast.specs.declared.file.EnumDecl.{EnumDecl}
use Rattle.proto_ast.specs.declared.file.RpcDecl.{RpcDecl}
use Rattle.proto_ast.specs.Joined.{Joined}
use Rattle.schema_symbols.specs.Scopes
use Rattle.schema_symbols.specs.Scopes.{DeclKind, IsReferenceTo}
use Rattle.schema_validation.specs.Types
use Rattle.schema_validation.specs.Types.{HasType, HasShape}
use Rattle.schema_validation.specs.Members
use Rattle.schema_validation.specs.Members.{IsNoType, IsKeyViolation, IsTypeViolation, IsNumberViolation, IsValueViolation, IsMessageViolation, IsEnumViolation, IsMethodViolation}
use Rattle.schema_validation.specs.declared.reason.ResolveReason.{ResolveReason}
use Rattle.package_laws.specs.OnePackage.{IsFieldReference, its_type, its_key, its_value, its_outer_key, IsRpcReference, its_input, its_output}
use Rattle.package_laws.proofs.Alike.{message_with, enum_with}
use Rattle.package_laws.proofs.Lists.{in_list}

-- a reference names the same declaration in both
pub record NamesSame (J : Joined) (j : ℕ) (s : List (List ℕ)) (K : Joined) (k : ℕ) (t : List (List ℕ))
    (name : List ℕ) : Type 0 where
  pub into : (sort : DeclKind) (full : List (List ℕ)) → IsReferenceTo J j s name sort full → IsReferenceTo K k t name sort full
  pub back : (sort : DeclKind) (full : List (List ℕ)) → IsReferenceTo K k t name sort full → IsReferenceTo J j s name sort full

-- all references of a field, of a message's fields and of an rpc
pub record FieldSame (J : Joined) (j : ℕ) (s : List (List ℕ)) (K : Joined) (k : ℕ) (t : List (List ℕ))
    (f : FieldDecl) : Type 0 where
  pub names : (name : List ℕ) → IsFieldReference f name → NamesSame J j s K k t name

pub record MessageSame (J : Joined) (j : ℕ) (s : List (List ℕ)) (K : Joined) (k : ℕ) (t : List (List ℕ))
    (m : MessageDecl) : Type 0 where
  pub fields : (f : FieldDecl) → Contains m.fields f → FieldSame J j s K k t f

pub record RpcSame (J : Joined) (j : ℕ) (s : List (List ℕ)) (K : Joined) (k : ℕ) (t : List (List ℕ))
    (r : RpcDecl) : Type 0 where
  pub names : (name : List ℕ) → IsRpcReference r name → NamesSame J j s K k t name

-- ---- numbers

number_same : {k : ℕ} {m : MessageDecl} {i : ℕ} {q : ResolveReason} {at : Span} → IsNumberViolation m i q at
    → IsNumberViolation (message_with k m) i q at
number_same (Members.number_out_of_range f fat isnt is) = Members.number_out_of_range f fat isnt is
number_same (Members.number_met_before f g n fat l gat e is) = Members.number_met_before f g n fat l gat e is
number_same (Members.number_reserved f fat o is) = Members.number_reserved f fat o is

module _ {J : Joined} {j : ℕ} {s : List (List ℕ)} {K : Joined} {k : ℕ} {t : List (List ℕ)} where
  -- ---- types

  pub type_same : {w : Word} {word : List ℕ} {is_message packable : Bool} → NamesSame J j s K k t w.name
      → HasType J j s w word is_message packable → HasType K k t w word is_message packable
  type_same n (Types.scalar kind is) = Types.scalar kind is
  type_same n (Types.message full isnt names) = Types.message full isnt (n.into Scopes.a_message full names)
  type_same n (Types.enum full isnt names) = Types.enum full isnt (n.into Scopes.an_enum full names)

  pub form_same : {f : FieldDecl} {label : Label} {word : List ℕ} → FieldSame J j s K k t f → HasShape J j s f label word
      → HasShape K k t f label word
  form_same n (Types.single w word is_message packable is typ) =
      Types.single w word is_message packable is (type_same (n.names w.name (its_type w is)) typ)
  form_same n (Types.a_map key value kind word is_message packable is plain apart scalar fits typ) =
      Types.a_map key value kind word is_message packable is plain apart scalar fits
      (type_same (n.names value.name (its_value key value is)) typ)

  -- ---- violations

  no_type_same : {w : Word} {q : ResolveReason} {at : Span} → NamesSame J j s K k t w.name → IsNoType J j s w q at
      → IsNoType K k t w q at
  no_type_same n o = record {
    no_scalar = o.no_scalar;
    unknown = λ sort full names. o.unknown sort full (n.back sort full names);
    is = o.is;
  }

  key_same : {w : Word} {q : ResolveReason} {at : Span} → NamesSame J j s K k t w.name → IsKeyViolation J j s w q at
      → IsKeyViolation K k t w q at
  key_same n (Members.unknown_key o) = Members.unknown_key (no_type_same n o)
  key_same n (Members.scalar_key kind scalar isnt is) = Members.scalar_key kind scalar isnt is
  key_same n (Members.type_key sort full isnt names is) = Members.type_key sort full isnt (n.into sort full names) is

  type_offends_same : {f : FieldDecl} {q : ResolveReason} {at : Span} → FieldSame J j s K k t f
      → IsTypeViolation J j s f q at → IsTypeViolation K k t f q at
  type_offends_same n (Members.unknown_type w is o) =
      Members.unknown_type w is (no_type_same (n.names w.name (its_type w is)) o)
  type_offends_same n (Members.bad_key key value is o) =
      Members.bad_key key value is (key_same (n.names key.name (its_key key value is)) o)
  type_offends_same n (Members.bad_outer_key key is o) =
      Members.bad_outer_key key is (key_same (n.names key.name (its_outer_key key is)) o)
  type_offends_same n (Members.unknown_value key value is o) =
      Members.unknown_value key value is (no_type_same (n.names value.name (its_value key value is)) o)
  type_offends_same n (Members.misplaced o is) = Members.misplaced o is

  pub message_offends_same : {i : ℕ} {m : MessageDecl} {q : ResolveReason} {at : Span} → MessageSame J j s K k t m
      → IsMessageViolation J j s i m q at → IsMessageViolation K k t i (message_with k m) q at
  message_offends_same n (Members.too_many_messages l is) = Members.too_many_messages l is
  message_offends_same n (Members.long_message o) = Members.long_message o
  message_offends_same {m} n (Members.of_type i f fat o) =
      Members.of_type i f fat (type_offends_same (n.fields f (in_list m.fields i f fat)) o)
  message_offends_same n (Members.of_number i o) = Members.of_number i (number_same {k = k} o)
  message_offends_same n (Members.of_name i f fat o) = Members.of_name i f fat o
  message_offends_same n (Members.of_oneof i o oat l) = Members.of_oneof i o oat l

  pub method_offends_same : {i : ℕ} {r : RpcDecl} {q : ResolveReason} {at : Span} → RpcSame J j s K k t r
      → IsMethodViolation J j s i r q at → IsMethodViolation K k t i r q at
  method_offends_same n (Members.too_many_methods l is) = Members.too_many_methods l is
  method_offends_same n (Members.long_method o) = Members.long_method o
  method_offends_same {r} n (Members.no_input isnt is) =
      Members.no_input (λ full names. isnt full ((n.names r.input.name its_input).back Scopes.a_message full names)) is
  method_offends_same {r} n (Members.no_output isnt is) =
      Members.no_output
      (λ full names. isnt full ((n.names r.output.name its_output).back Scopes.a_message full names)) is

-- ---- violations of an enum

value_same : {k : ℕ} {e : EnumDecl} {i : ℕ} {q : ResolveReason} {at : Span} → IsValueViolation e i q at
    → IsValueViolation (enum_with k e) i q at
value_same (Members.value_out_of_range v vat isnt is) = Members.value_out_of_range v vat isnt is
value_same (Members.value_reserved v vat o is) = Members.value_reserved v vat o is
value_same (Members.first_not_zero v vat first isnt is) = Members.first_not_zero v vat first isnt is

pub enum_offends_same : {k n : ℕ} {e : EnumDecl} {q : ResolveReason} {at : Span} → IsEnumViolation n e q at
    → IsEnumViolation n (enum_with k e) q at
enum_offends_same (Members.too_many_enums l is) = Members.too_many_enums l is
enum_offends_same (Members.long_enum o) = Members.long_enum o
enum_offends_same {k} (Members.of_value i o) = Members.of_value i (value_same {k = k} o)
enum_offends_same (Members.of_value_name i v vat o) = Members.of_value_name i v vat o
