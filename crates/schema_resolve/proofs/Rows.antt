-- Two small files that are resolved together, and their table.
use Rattle.std.proofs.Common.{◌≡◌, ℕ, zero, suc, ◌+◌, ◌≤◌, inl, false, true, List, [], ◌∷◌, ◌++◌, length, Some, None}
use Rattle.std.proofs.Common.{refl, sym, ap, subst, arith, length-append, lit≤, lit<}
use Rattle.std.specs.Prelude.{codes, slice_get, Contains}
use Rattle.std.specs.Fmt.{digits}
use Rattle.std.proofs.lemmas.Option.{same_Some, none-some}
use Rattle.std.proofs.lemmas.List.Elements.{All-from_recursion}
use Rattle.mrpc_table.specs.Names.{IsName}
use Rattle.mrpc_table.specs.Scalars.{scalar_of}
use Rattle.mrpc_table.specs.Text.{table_text}
use Rattle.mrpc_table.specs.declared.limits.TheConstants.{MAX_TEXT}
use Rattle.mrpc_table.specs.Valid.{IsValid, IsMessage, IsMethod, IsField, IsEnum}
use Rattle.mrpc_table.specs.declared.words.Decimal.TheVariants.{Small}
use Rattle.mrpc_table.specs.declared.table.Kind.TheVariants as kinds
use Rattle.mrpc_table.specs.declared.table.Label.TheVariants as labels
use Rattle.mrpc_table.specs.declared.table.Field.{Field}
use Rattle.mrpc_table.specs.declared.table.Message.{Message}
use Rattle.mrpc_table.specs.declared.table.Method.{Method}
use Rattle.mrpc_table.specs.declared.table.Table.{Table}
use Rattle.proto_ast.specs.Joined.{Joined, CanSee, enclosing_of, package_at}
use Rattle.proto_ast.specs.declared.file.Span.{Span}
use Rattle.proto_ast.specs.declared.file.Word.{Word}
use Rattle.proto_ast.specs.declared.file.FieldLabel.TheVariants.{Plain}
use Rattle.proto_ast.specs.declared.file.FieldType.TheVariants.{Named}
use Rattle.proto_ast.specs.declared.file.FieldDecl.{FieldDecl}
use Rattle.proto_ast.specs.declared.file.MessageDecl.{MessageDecl}
use Rattle.proto_ast.specs.declared.file.RpcDecl.{RpcDecl}
use Rattle.proto_ast.specs.declared.file.ServiceDecl.{ServiceDecl}
use Rattle.proto_ast.specs.declared.joined.Head.{Head}
use Rattle.proto_ast.specs.declared.joined.Enclosing.TheVariants as home
use Rattle.schema_symbols.specs.Scopes
use Rattle.schema_symbols.specs.Scopes.{IsScope, of_file, DeclKind, a_message, is_type, IsDeclarationOf, IsVisibleName, a_type, a_package, here, outward, relative, IsReferenceTo}
use Rattle.schema_validation.specs.Types.{IsNoScalar, message, single}
use Rattle.schema_validation.specs.Correspondence.{AreCorresponding, AreCorrespondingInOrder, none, next}
use Rattle.schema_resolve.specs.Tables.{IsFieldOf, IsMessageOf, IsEnumOf, IsMethodOf, IsTableOf}
use Rattle.schema_resolve.proofs.CleanFiles.{in_list, at_in, scope_of_file}
use Rattle.schema_resolve.proofs.KindWords.{scalar_known}
use Rattle.schema_resolve.proofs.MessageTables.{in_order_get, in_order_back}

-- ---- the files

abbrev at : ℕ → Span
at n = record { start = n; end = n + 1; line = 1 }

abbrev word : List ℕ → ℕ → Word
word name n = record { name = name; span = at n }

-- package a; message A {}
abbrev head_a : Head
head_a = record { «package» = Some (word (codes "a") 8); sees = 0 ∷ [] }

abbrev decl_a : MessageDecl
decl_a = record {
  name = word (codes "A") 20;
  file = 0;
  parent = None;
  fields = [];
  oneofs = [];
  ranges = [];
  names = [];
}

-- package b; message B { a.A x = 1; } service S { rpc R (a.A) returns (B); }
abbrev head_b : Head
head_b = record { «package» = Some (word (codes "b") 108); sees = 1 ∷ 0 ∷ [] }

abbrev decl_x : FieldDecl
decl_x = record {
  name = word (codes "x") 126;
  number = record { negative = false; value = Small 1; span = at 130 };
  kind = Named (word (codes "a.A") 122);
  label = Plain;
  oneof = None;
  packed = None;
}

abbrev decl_b : MessageDecl
decl_b = record {
  name = word (codes "B") 119;
  file = 1;
  parent = None;
  fields = decl_x ∷ [];
  oneofs = [];
  ranges = [];
  names = [];
}

abbrev rpc_r : RpcDecl
rpc_r = record { name = word (codes "R") 150; input = word (codes "a.A") 153; output = word (codes "B") 167 }

abbrev service_s : ServiceDecl
service_s = record { name = word (codes "S") 142; file = 1; rpcs = rpc_r ∷ [] }

abbrev both : Joined
both = record {
  heads = head_a ∷ head_b ∷ [];
  messages = decl_a ∷ decl_b ∷ [];
  enums = [];
  services = service_s ∷ [];
}

-- ---- the table

abbrev message_a : Message
message_a = record { name = codes "a.A"; fields = []; oneofs = [] }

abbrev field_x : Field
field_x = record { number = 1; name = codes "x"; kind = kinds.Message 0; label = labels.Plain }

abbrev message_b : Message
message_b = record { name = codes "b.B"; fields = field_x ∷ []; oneofs = [] }

abbrev method_r : Method
method_r = record { service = codes "b.S"; name = codes "R"; input = 0; output = 1 }

abbrev table : Table
table = record { messages = message_a ∷ message_b ∷ []; enums = []; methods = method_r ∷ [] }

-- ---- the declarations

abbrev full_a : List (List ℕ)
full_a = codes "a" ∷ codes "A" ∷ []

abbrev full_b : List (List ℕ)
full_b = codes "b" ∷ codes "B" ∷ []

in_a : IsScope both (home.File 0) (codes "a" ∷ [])
in_a = of_file 0

in_b : IsScope both (home.File 1) (codes "b" ∷ [])
in_b = of_file 1

declares_a : IsDeclarationOf both 0 a_message full_a (at 20)
declares_a = Scopes.message decl_a (0, omega arith, refl) in_a

declares_b : IsDeclarationOf both 1 a_message full_b (at 119)
declares_b = Scopes.message decl_b (1, omega arith, refl) in_b

sees_a : CanSee both 1 0
sees_a = record { head = head_b; at = refl; among = (1, omega arith, refl) }

sees_b : CanSee both 1 1
sees_b = record { head = head_b; at = refl; among = (0, omega arith, refl) }

data IsOne (full : List (List ℕ)) (span : Span) : Type 0 where
  is_a : full ≡ full_a → span ≡ at 20 → IsOne full span
  is_b : full ≡ full_b → span ≡ at 119 → IsOne full span

message_one : (m : MessageDecl) (outer : List (List ℕ)) (i : ℕ) → slice_get both.messages i ≡ Some m
    → IsScope both (enclosing_of m) outer → IsOne (outer ++ m.name.name ∷ []) m.name.span
message_one m outer zero e up =
    let s : decl_a ≡ m = same_Some decl_a m e in
    let u : IsScope both (home.File 0) outer =
    subst (λ (x : MessageDecl). IsScope both (enclosing_of x) outer) (sym s) up in
    let o : outer ≡ codes "a" ∷ [] = scope_of_file u in
    subst (λ (x : MessageDecl). IsOne (outer ++ x.name.name ∷ []) x.name.span) s
    (is_a (ap (λ (p : List (List ℕ)). p ++ codes "A" ∷ []) o) refl)
message_one m outer (suc zero) e up =
    let s : decl_b ≡ m = same_Some decl_b m e in
    let u : IsScope both (home.File 1) outer =
    subst (λ (x : MessageDecl). IsScope both (enclosing_of x) outer) (sym s) up in
    let o : outer ≡ codes "b" ∷ [] = scope_of_file u in
    subst (λ (x : MessageDecl). IsOne (outer ++ x.name.name ∷ []) x.name.span) s
    (is_b (ap (λ (p : List (List ℕ)). p ++ codes "B" ∷ []) o) refl)
message_one m outer (suc (suc i)) e up = absurd (none-some m e)

declared_one : {k : ℕ} {sort : DeclKind} {full : List (List ℕ)} {span : Span} → IsDeclarationOf both k sort full span
    → is_type sort ≡ true → IsOne full span
declared_one (Scopes.message m {outer} c up) typ = message_one m outer c.0 (at_in both.messages m c) up
declared_one (Scopes.enum e c up) typ = absurd (none-some e (at_in both.enums e c))
declared_one (Scopes.service s c) typ = absurd cc
declared_one (Scopes.value e v c d up) typ = absurd cc
declared_one (Scopes.field m f c d up) typ = absurd cc
declared_one (Scopes.oneof m o c d up) typ = absurd cc

-- ---- the references

package_small : (k : ℕ) → length (package_at both k) ≤ 1
package_small zero = omega arith
package_small (suc zero) = omega arith
package_small (suc (suc k)) = omega arith

one_length : (full : List (List ℕ)) (span : Span) → IsOne full span → length full ≡ 2
one_length full span (is_a e s) = ap length e
one_length full span (is_b e s) = ap length e

-- no type and no package has a full name of three parts
no_third : {full : List (List ℕ)} → IsVisibleName both 1 full → length full ≡ 3 → ⊥
no_third {full} (a_type other sort span sees d typ) l =
    let n : length full ≡ 2 = one_length full span (declared_one d typ) in
    omega arith
no_third {full} (a_package other rest sees e) l =
    let n : length (package_at both other) ≡ length (full ++ rest) = ap length e in
    omega (arith, package_small other, length-append full rest)

not_ba : (span : Span) → IsOne (codes "b" ∷ codes "a" ∷ []) span → ⊥
not_ba span (is_a e s) = let h : ◌≡◌ {A = ℕ} 98 97 = cc in omega arith
not_ba span (is_b e s) = let h : ◌≡◌ {A = ℕ} 97 66 = cc in omega arith

no_ba : IsVisibleName both 1 (codes "b" ∷ codes "a" ∷ []) → ⊥
no_ba (a_type other sort span sees d typ) = not_ba span (declared_one d typ)
no_ba (a_package other rest sees e) =
    let n : length (package_at both other) ≡ length ((codes "b" ∷ codes "a" ∷ []) ++ rest) = ap length e in
    omega (arith, package_small other, length-append (codes "b" ∷ codes "a" ∷ []) rest)

first_a : (span : Span) → IsOne full_a span → 20 ≤ span.start
first_a span (is_a e s) = let n : span.start ≡ 20 = ap (λ (t : Span). t.start) s in omega arith
first_a span (is_b e s) = absurd (let h : ◌≡◌ {A = ℕ} 97 98 = cc in omega arith)

first_b : (span : Span) → IsOne full_b span → 119 ≤ span.start
first_b span (is_a e s) = absurd (let h : ◌≡◌ {A = ℕ} 98 97 = cc in omega arith)
first_b span (is_b e s) = let n : span.start ≡ 119 = ap (λ (t : Span). t.start) s in omega arith

package_a : IsVisibleName both 1 (codes "a" ∷ [])
package_a = a_package 0 [] sees_a refl

-- in the package `b`, and in its message, `a` is the other file's package
from_package : IsReferenceTo both 1 (codes "b" ∷ []) (codes "a.A") a_message full_a
from_package = record {
  means = relative (codes "a.A") (codes "a") {decisive = []} refl (λ e. cc)
      (outward (codes "b") {outer = []} refl no_ba (here package_a));
  finds = record {
    span = at 20;
    other = 0;
    seen = sees_a;
    declared = declares_a;
    names_type = refl;
    first = λ another sort t sees d typ. first_a t (declared_one d typ);
  };
}

from_message : IsReferenceTo both 1 full_b (codes "a.A") a_message full_a
from_message = record {
  means = relative (codes "a.A") (codes "a") {decisive = []} refl (λ e. cc)
      (outward (codes "B") {outer = codes "b" ∷ []} refl (λ t. no_third t refl)
      (outward (codes "b") {outer = []} refl no_ba (here package_a)));
  finds = from_package.finds;
}

-- `B` is the file's own
own_message : IsReferenceTo both 1 (codes "b" ∷ []) (codes "B") a_message full_b
own_message = record {
  means = relative (codes "B") (codes "B") {decisive = codes "b" ∷ []} refl (λ e. cc)
      (here (a_type 1 a_message (at 119) sees_b declares_b refl));
  finds = record {
    span = at 119;
    other = 1;
    seen = sees_b;
    declared = declares_b;
    names_type = refl;
    first = λ another sort t sees d typ. first_b t (declared_one d typ);
  };
}

-- ---- the table is that of the files

no_scalar : IsNoScalar (codes "a.A")
no_scalar k s =
    none-some k (subst (λ (w : List ℕ). scalar_of w ≡ Some k) s.named (scalar_known k s.is_one))

field_row : IsFieldOf table both full_b decl_b message_b decl_x field_x
field_row = record {
  name = refl;
  number = refl;
  label = labels.Plain;
  word = codes "message:a.A";
  form = single (word (codes "a.A") 122) (codes "message:a.A") true false refl (message full_a no_scalar from_message);
  kind = refl;
  known = omega arith;
  same = refl;
}

those : {X Y : Type 0} (R : X → Y → Type 0) (xs : List X) (ys : List Y) → AreCorrespondingInOrder R xs ys → AreCorresponding R xs ys
those R xs ys h = record {
  each = λ x c. let y = in_order_get R h c.0 x (at_in xs x c) in (y.0, in_list ys c.0 y.0 y.1, y.2);
  alone = λ y c. let x = in_order_back R h c.0 y (at_in ys y c) in (x.0, in_list xs c.0 x.0 x.1, x.2);
}

row_a : IsMessageOf table both decl_a message_a
row_a = record {
  outer = codes "a" ∷ [];
  stands = in_a;
  name = refl;
  fields = those (IsFieldOf table both full_a decl_a message_a) [] [] none;
  oneofs = those (λ o name. name ≡ o.name) [] [] none;
}

row_b : IsMessageOf table both decl_b message_b
row_b = record {
  outer = codes "b" ∷ [];
  stands = in_b;
  name = refl;
  fields = those (IsFieldOf table both full_b decl_b message_b) (decl_x ∷ []) (field_x ∷ []) (next field_row none);
  oneofs = those (λ o name. name ≡ o.name) [] [] none;
}

row_r : IsMethodOf table both (service_s, rpc_r) method_r
row_r = record {
  service = refl;
  name = refl;
  input = full_a;
  output = full_b;
  takes = from_package;
  gives = own_message;
  input_place = refl;
  output_place = refl;
}

not_in_one : (x y : List ℕ) (i : ℕ) → (y ≡ x → ⊥) → slice_get (y ∷ []) i ≡ Some x → ⊥
not_in_one x y zero differ e = differ (same_Some y x e)
not_in_one x y (suc i) differ e = none-some x e

names_differ : codes "b.B" ≡ codes "a.A" → ⊥
names_differ e = let h : ◌≡◌ {A = ℕ} 98 97 = cc in omega arith

none_in : {X : Type 0} (x : X) → Contains [] x → ⊥
none_in x c = none-some x (at_in [] x c)

valid_x : IsField table 0 field_x
valid_x = record {
  number = record { positive = omega arith; small = lit≤ tt; unreserved = inl (lit< tt) };
  name = record { form = refl; short = omega arith };
  label = tt;
  kind = omega arith;
}

valid_a : IsMessage table message_a
valid_a = record {
  name = record { form = refl; short = refl };
  few = omega arith;
  fields = All-from_recursion (IsField table 0) [] tt;
  ascend = tt;
  names = tt;
  oneofs = All-from_recursion IsName [] tt;
  oneof_names = tt;
  oneof_order = refl;
}

valid_b : IsMessage table message_b
valid_b = record {
  name = record { form = refl; short = refl };
  few = omega arith;
  fields = All-from_recursion (IsField table 0) (field_x ∷ []) (valid_x, tt);
  ascend = tt;
  names = (λ c. none_in (codes "x") c, tt);
  oneofs = All-from_recursion IsName [] tt;
  oneof_names = tt;
  oneof_order = refl;
}

valid_r : IsMethod table method_r
valid_r = record {
  service = record { form = refl; short = refl };
  name = record { form = refl; short = omega arith };
  input = omega arith;
  output = omega arith;
}

short_row : length (table_text table) ≤ MAX_TEXT
unfolding digits
short_row = lit≤ tt

valid_row : IsValid table
valid_row = record {
  few_messages = omega arith;
  few_enums = omega arith;
  few_methods = omega arith;
  enums = All-from_recursion IsEnum [] tt;
  enums_ascend = tt;
  messages = All-from_recursion (IsMessage table) (message_a ∷ message_b ∷ []) (valid_a, (valid_b, tt));
  messages_ascend = (refl, tt);
  types = (
    λ c. not_in_one (codes "a.A") (codes "b.B") c.0 names_differ (at_in (codes "b.B" ∷ []) (codes "a.A") c),
    (λ c. none_in (codes "b.B") c, tt),
  );
  methods = All-from_recursion (IsMethod table) (method_r ∷ []) (valid_r, tt);
  method_names = (λ c. none_in (codes "b.S", codes "R") c, tt);
  short = short_row;
}

-- the two files have this table
table_row : IsTableOf both table
table_row = record {
  valid = valid_row;
  messages = those (IsMessageOf table both) both.messages table.messages (next row_a (next row_b none));
  enums = those (IsEnumOf both) [] [] none;
  methods = next row_r none;
}
