-- The code's own: the values of enums and the methods of services, as a table has them.
use Rattle.std.specs.Prelude.{◌≡◌, ℕ, ℤ, ◌<◌, List, length, map, slice_get, Some}
use Rattle.std.specs.Borrow.{Bor}
use Rattle.mrpc_table.specs.Valid.{IsAscendingBy, AreDistinct, IsValueBelow, IsEnum, IsMethod}
use Rattle.mrpc_table.specs.Text.{message_name}
use Rattle.mrpc_table.specs.declared.table.Choices.{Choices}
use Rattle.mrpc_table.specs.declared.table.Method.{Method}
use Rattle.mrpc_table.specs.declared.table.Table.{Table}
use Rattle.proto_ast.specs.declared.file.ValueDecl.{ValueDecl}
use Rattle.proto_ast.specs.declared.file.EnumDecl.{EnumDecl}
use Rattle.proto_ast.specs.declared.file.RpcDecl.{RpcDecl}
use Rattle.proto_ast.specs.declared.file.ServiceDecl.{ServiceDecl}
use Rattle.proto_ast.specs.Joined.{Joined, package_at}
use Rattle.schema_symbols.specs.Scopes.{IsReferenceTo, a_message, text_of}
use Rattle.schema_validation.specs.Types.{signed_value}
use Rattle.schema_validation.specs.Correspondence.{AreCorresponding, AreCorrespondingInOrder}
use Rattle.schema_resolve.specs.Tables.{IsValueOf, IsEnumOf, IsMethodOf}
use Rattle.schema_resolve.specs.Placing.{name_at_index, HasTableNames}
use Rattle.schema_resolve.specs.declared.plan.TablePlan.{TablePlan}

-- a value's number and name
abbrev pub decl_value_pair : ValueDecl → ℤ × List ℕ
decl_value_pair v = (signed_value v.number, v.name.name)

abbrev pub value_pair : ℤ × Bor (List ℕ) → ℤ × List ℕ
value_pair v = (v.0, v.1.now)

-- values by ascending number, then name
pub record AreValues (decls : List ValueDecl) (values : List (ℤ × List ℕ)) : Type 0 where
  pub count : length values ≡ length decls
  pub those : AreCorresponding IsValueOf decls values
  pub ascend : IsAscendingBy IsValueBelow values
  pub distinct : AreDistinct (map (λ v. v.1) values)

-- the enum with an index
pub record IsEnumAt (F : Joined) (p : TablePlan) (i : ℕ) (c : Choices) : Type 0 where
  pub is : (e : EnumDecl) → slice_get F.enums i ≡ Some e → IsEnumOf F e c
  pub valid : IsEnum c
  pub name : c.name ≡ name_at_index p.enums.names.items i

-- the type of a file's rpc names the message with this index in a table
pub record IsPlaceNamed (F : Joined) (file : ℕ) (T : Table) (name : List ℕ) (place : ℕ) : Type 0 where
  pub full : List (List ℕ)
  pub names : IsReferenceTo F file (package_at F file) name a_message full
  pub is : message_name T place ≡ text_of full
  pub within : place < length T.messages

-- a method of the files
pub record IsMethodIn (F : Joined) (T : Table) (p : ServiceDecl × RpcDecl) (t : Method) : Type 0 where
  pub is : IsMethodOf T F p t
  pub valid : IsMethod T t

-- methods in the order of the files, given the names of the messages
pub record AreMethods (F : Joined) (p : TablePlan) (done : List (ServiceDecl × RpcDecl)) (ms : List Method) : Type 0 where
  pub each : (T : Table) → HasTableNames p T → AreCorrespondingInOrder (IsMethodIn F T) done ms
