-- Small files with a violation for each reason, alone and resolved together, and files without a violation.
use Rattle.std.proofs.Common.{◌≡◌, ℕ, zero, suc, ◌<◌, ◌≤◌, true, false, List, [], ◌∷◌, ◌++◌, length, codes, inr, refl}
use Rattle.std.proofs.Common.{sym, ap, ◌∙◌, subst, arith, length-append}
use Rattle.std.specs.Prelude.{Option, Some, None, Contains, slice_get, pos}
use Rattle.std.proofs.lemmas.Bool.{false≢true}
use Rattle.std.proofs.lemmas.Option.{same_Some, none-some}
use Rattle.mrpc_table.specs.Names.{is_short, is_short_full}
use Rattle.mrpc_table.specs.declared.words.Decimal.TheVariants.{Small}
use Rattle.mrpc_table.specs.declared.table.Kind.TheVariants.{Float as AFloat}
use Rattle.proto_ast.specs.declared.file.Span.{Span}
use Rattle.proto_ast.specs.declared.file.Word.{Word}
use Rattle.proto_ast.specs.declared.file.Number.{Number}
use Rattle.proto_ast.specs.declared.file.FieldLabel.TheVariants.{Plain}
use Rattle.proto_ast.specs.declared.file.FieldType.{FieldType}
use Rattle.proto_ast.specs.declared.file.FieldType.TheVariants.{Named, Map, NestedMap}
use Rattle.proto_ast.specs.declared.file.FieldDecl.{FieldDecl}
use Rattle.proto_ast.specs.declared.file.MessageDecl.{MessageDecl}
use Rattle.proto_ast.specs.declared.file.EnumDecl.{EnumDecl}
use Rattle.proto_ast.specs.declared.file.RpcDecl.{RpcDecl}
use Rattle.proto_ast.specs.declared.file.ServiceDecl.{ServiceDecl}
use Rattle.proto_ast.specs.declared.file.Import.{Import}
use Rattle.proto_ast.specs.declared.file.File.{File}
use Rattle.proto_ast.specs.declared.joined.Head.{Head}
use Rattle.proto_ast.specs.declared.joined.Enclosing.{Enclosing}
use Rattle.proto_ast.specs.declared.joined.Enclosing.TheVariants as home
use Rattle.proto_ast.specs.Joined.{Joined, alone, enclosing_of, package_at}
use Rattle.schema_symbols.specs.Scopes
use Rattle.schema_symbols.specs.Scopes.{text_of, IsScope, of_file, of_message as in_message, DeclKind, a_message, no_type, is_type, message, IsDeclarationOf, IsPackagePrefix, IsVisibleDeclaration}
use Rattle.schema_validation.specs.Members.{IsMessageViolation, of_type, of_number, of_name, number_out_of_range}
use Rattle.schema_validation.specs.Members.{number_met_before, name_reserved, first_not_zero, bad_key, bad_outer_key}
use Rattle.schema_validation.specs.Members.{scalar_key, misplaced, nested, long_message, no_input, of_value}
use Rattle.schema_validation.specs.Lines
use Rattle.schema_validation.specs.Lines.{HasLine, IsPastTextLimit}
use Rattle.schema_validation.specs.Violations
use Rattle.schema_validation.specs.Violations.{IsDuplicate, IsLongInFull, IsViolated, IsFileViolation, offends, IsNoLaterViolation, HasFirstFileViolation}
use Rattle.schema_validation.specs.declared.reason.ResolveReason.{ResolveReason}
use Rattle.schema_validation.specs.declared.reason.ResolveReason.TheVariants.{UnknownName, NumberRange, DuplicateNumber}
use Rattle.schema_validation.specs.declared.reason.ResolveReason.TheVariants.{DuplicateName, Reserved, FirstEnum}
use Rattle.schema_validation.specs.declared.reason.ResolveReason.TheVariants.{MapKey, MapPlace, Limit}
use Rattle.schema_validation.specs.declared.reason.ResolveReason.TheVariants.{Import as HasImport}
use Rattle.schema_validation.proofs.EntryLists.{contains_get}

-- ---- files

abbrev at : ℕ → Span
at n = record { start = n; end = n; line = 1 }

abbrev word : List ℕ → ℕ → Word
word name n = record { name = name; span = at n }

abbrev number : ℕ → ℕ → Number
number k n = record { negative = false; value = Small k; span = at n }

-- a field: its type, its name and the name's offset, its number and the number's offset
abbrev field : FieldType → List ℕ → ℕ → ℕ → ℕ → FieldDecl
field type name n k l =
    record { name = word name n; number = number k l; kind = type; label = Plain; oneof = None; packed = None }

-- a message whose name starts at offset 1
abbrev message_with : List ℕ → List FieldDecl → List Word → MessageDecl
message_with name fields names =
    record { name = word name 1; file = 0; parent = None; fields = fields; oneofs = []; ranges = []; names = names }

abbrev file_of : List MessageDecl → List EnumDecl → List ServiceDecl → List Import → File
file_of messages enums services imports =
    record { «package» = None; imports = imports; messages = messages; enums = enums; services = services }

abbrev of_one : MessageDecl → File
of_one m = file_of (m ∷ []) [] [] []

-- the violations of the only message of a file
in_one : (m : MessageDecl) (q : ResolveReason) (s : Span) → enclosing_of m ≡ home.File 0
    → IsMessageViolation (alone (of_one m)) m.file (m.name.name ∷ []) 0 m q s → IsFileViolation (of_one m) q s
in_one m q s e o =
    offends (Violations.of_message 0 m refl (in_message 0 m refl
    (subst (λ (p : Enclosing). IsScope (alone (of_one m)) p []) (sym e) (of_file 0))) o)

-- ---- one violation for each reason

nothing_in : {X : Type 0} (x : X) → Contains [] x → ⊥
nothing_in x c = let l : c.0 < 0 = c.1 in omega arith

no_message : (F : Joined) (file : ℕ) (full : List (List ℕ)) (span : Span) → F.messages ≡ []
    → IsDeclarationOf F file a_message full span → ⊥
no_message F file full span e (message m c s) = nothing_in m (subst (λ (ms : List MessageDecl). Contains ms m) e c)

finds_none : (F : Joined) (file : ℕ) (full : List (List ℕ)) → F.messages ≡ [] → IsVisibleDeclaration F file a_message full → ⊥
finds_none F file full e f = no_message F f.other full f.span e f.declared

-- service S { rpc R (X) returns (X); }
abbrev an_rpc : RpcDecl
an_rpc = record { name = word (codes "R") 2; input = word (codes "X") 3; output = word (codes "X") 4 }

abbrev a_service : ServiceDecl
a_service = record { name = word (codes "S") 1; file = 0; rpcs = an_rpc ∷ [] }

unknown_row : IsFileViolation (file_of [] [] (a_service ∷ []) []) UnknownName (at 3)
unknown_row =
    offends (Violations.of_method 0 a_service an_rpc refl (no_input (λ full names. finds_none _ _ full refl names.finds)
    (refl, refl)))

-- message M { int32 a = 0; }
abbrev zero_field : FieldDecl
zero_field = field (Named (word (codes "int32") 2)) (codes "a") 3 0 4

same_pos : (m n : ℕ) → pos m ≡ pos n → m ≡ n
same_pos m n e = cc

range_row : IsFileViolation (of_one (message_with (codes "M") (zero_field ∷ []) [])) NumberRange (at 4)
range_row =
    in_one _ NumberRange (at 4) refl
    (of_number 0 (number_out_of_range zero_field refl
    (λ x. let k : 0 ≡ x.0 = same_pos 0 x.0 x.1 in let l : 0 < x.0 = x.2.positive in omega arith) (refl, refl)))

-- message M { int32 a = 1; int32 b = 1; }
abbrev a_field : FieldDecl
a_field = field (Named (word (codes "int32") 2)) (codes "a") 3 1 4

abbrev b_field : FieldDecl
b_field = field (Named (word (codes "int32") 5)) (codes "b") 6 1 7

number_row : IsFileViolation (of_one (message_with (codes "M") (a_field ∷ b_field ∷ []) [])) DuplicateNumber (at 7)
number_row =
    in_one _ DuplicateNumber (at 7) refl
    (of_number 1 (number_met_before b_field a_field 0 refl (omega arith) refl refl (refl, refl)))

-- message A {} message A {}
abbrev first_a : MessageDecl
first_a = message_with (codes "A") [] []

abbrev second_a : MessageDecl
second_a =
    record { name = word (codes "A") 2; file = 0; parent = None; fields = []; oneofs = []; ranges = []; names = [] }

name_row : IsFileViolation (file_of (first_a ∷ second_a ∷ []) [] [] []) DuplicateName (at 2)
name_row =
    offends (Violations.twice (at 2)
    (Violations.declared 0 0 a_message a_message (codes "A" ∷ []) (at 1)
    (message first_a (0, omega arith, refl) (of_file 0))
    (message second_a (1, omega arith, refl) (of_file 0)) (omega arith)) (refl, refl))

-- message M { reserved "a"; int32 a = 1; }
reserved_row : IsFileViolation (of_one (message_with (codes "M") (a_field ∷ []) (word (codes "a") 2 ∷ []))) Reserved (at 3)
reserved_row =
    in_one _ Reserved (at 3) refl
    (of_name 0 a_field refl (name_reserved (word (codes "a") 2, (0, omega arith, refl), refl) (refl, refl)))

-- enum E { A = 1; }
abbrev from_one : EnumDecl
from_one = record {
  name = word (codes "E") 1;
  file = 0;
  parent = None;
  values = record { name = word (codes "A") 2; number = number 1 3 } ∷ [];
  ranges = [];
  names = [];
}

enum_row : IsFileViolation (file_of [] (from_one ∷ []) [] []) FirstEnum (at 3)
enum_row =
    offends (Violations.of_enum 0 from_one refl
    (of_value 0 (first_not_zero _ refl refl (λ e. let k : 1 ≡ 0 = same_pos 1 0 e in omega arith) (refl, refl))))

-- message M { map<float, int32> a = 1; }
abbrev float_map : FieldDecl
float_map = field (Map (word (codes "float") 1) (word (codes "int32") 2)) (codes "a") 3 1 4

key_row : IsFileViolation (of_one (message_with (codes "M") (float_map ∷ []) [])) MapKey (at 1)
key_row =
    in_one _ MapKey (at 1) refl
    (of_type 0 float_map refl
    (bad_key (word (codes "float") 1) (word (codes "int32") 2) refl
    (scalar_key AFloat (record { is_one = refl; named = refl }) refl (refl, refl))))

-- message M { map<int32, map<..>> a = 1; }
abbrev map_of_maps : FieldDecl
map_of_maps = field (NestedMap (word (codes "int32") 1)) (codes "a") 3 1 4

place_row : IsFileViolation (of_one (message_with (codes "M") (map_of_maps ∷ []) [])) MapPlace (at 3)
place_row = in_one _ MapPlace (at 3) refl (of_type 0 map_of_maps refl (misplaced (nested (word (codes "int32") 1) refl) (refl, refl)))

-- message M { map<float, map<..>> a = 1; }
abbrev float_map_of_maps : FieldDecl
float_map_of_maps = field (NestedMap (word (codes "float") 1)) (codes "a") 3 1 4

outer_key_row : IsFileViolation (of_one (message_with (codes "M") (float_map_of_maps ∷ []) [])) MapKey (at 1)
outer_key_row =
    in_one _ MapKey (at 1) refl
    (of_type 0 float_map_of_maps refl
    (bad_outer_key (word (codes "float") 1) refl
    (scalar_key AFloat (record { is_one = refl; named = refl }) refl (refl, refl))))

-- a message whose name has 65 bytes
abbrev long_name : List ℕ
long_name = codes "abcdefghijklmnopqrstuvwxyzabcdefghijklmnopqrstuvwxyzabcdefghijklm"

limit_row : IsFileViolation (of_one (message_with long_name [] [])) Limit (at 1)
limit_row = in_one _ Limit (at 1) refl (long_message (refl, (refl, refl)))

-- import "x";
abbrev an_import : Import
an_import = record { path = codes "x"; public = false; span = at 1 }

import_row : IsFileViolation (file_of [] [] [] (an_import ∷ [])) HasImport (at 1)
import_row = Violations.has_import an_import refl (refl, refl)

-- ---- files that are resolved together

abbrev head : Option Word → Head
head name = record { «package» = name; sees = 0 ∷ 1 ∷ [] }

abbrev two_files : Option Word → Option Word → List MessageDecl → List ServiceDecl → Joined
two_files p q messages services =
    record { heads = head p ∷ head q ∷ []; messages = messages; enums = []; services = services }

abbrev message_at : ℕ → List ℕ → ℕ → MessageDecl
message_at file name n = record {
  name = word name n;
  file = file;
  parent = None;
  fields = [];
  oneofs = [];
  ranges = [];
  names = [];
}

-- message A {} in one file, message A {} in the other: the later one is the violation
later_row : IsViolated (two_files None None (message_at 0 (codes "A") 1 ∷ message_at 1 (codes "A") 11 ∷ []) [])
    DuplicateName (at 11)
later_row =
    Violations.twice (at 11)
    (Violations.declared 0 1 a_message a_message (codes "A" ∷ []) (at 1) (message _ (0, omega arith, refl) (of_file 0))
    (message _ (1, omega arith, refl) (of_file 1)) (omega arith)) (refl, refl)

-- message A {} in both files, in packages with equal names: the later one is the violation
same_package_row : IsViolated (two_files (Some (word (codes "p") 0)) (Some (word (codes "p") 10))
    (message_at 0 (codes "A") 1 ∷ message_at 1 (codes "A") 11 ∷ []) []) DuplicateName (at 11)
same_package_row =
    Violations.twice (at 11)
    (Violations.declared 0 1 a_message a_message (codes "p" ∷ codes "A" ∷ []) (at 1)
    (message _ (0, omega arith, refl) (of_file 0)) (message _ (1, omega arith, refl) (of_file 1)) (omega arith))
    (refl, refl)

-- message p {} in a file without a package, the other file has package p
package_row : IsViolated (two_files None (Some (word (codes "p") 10)) (message_at 0 (codes "p") 1 ∷ []) []) DuplicateName
    (at 1)
package_row =
    Violations.twice (at 1)
    (Violations.a_package 0 a_message (codes "p" ∷ []) (message _ (0, omega arith, refl) (of_file 0)) refl
    (record { file = 1; rest = []; begins = refl })) (refl, refl)

-- message p {} in a file without a package, the other file has package p.q
front_row : IsViolated (two_files None (Some (word (codes "p.q") 10)) (message_at 0 (codes "p") 1 ∷ []) []) DuplicateName
    (at 1)
front_row =
    Violations.twice (at 1)
    (Violations.a_package 0 a_message (codes "p" ∷ []) (message _ (0, omega arith, refl) (of_file 0)) refl
    (record { file = 1; rest = codes "q" ∷ []; begins = refl })) (refl, refl)

-- service S { rpc R (X) returns (X); rpc R (X) returns (X); }: the later one is the violation
abbrev later_rpc : RpcDecl
later_rpc = record { name = word (codes "R") 5; input = word (codes "X") 6; output = word (codes "X") 7 }

abbrev two_of_one_name : ServiceDecl
two_of_one_name = record { name = word (codes "S") 1; file = 0; rpcs = an_rpc ∷ later_rpc ∷ [] }

rpc_row : IsFileViolation (file_of [] [] (two_of_one_name ∷ []) []) DuplicateName (at 5)
rpc_row =
    offends (Violations.twice (at 5)
    (Violations.two_rpcs two_of_one_name an_rpc later_rpc (0, omega arith, refl) (0, omega arith, refl)
    (1, omega arith, refl) refl (omega arith) refl) (refl, refl))

-- ---- a service may have the full name of a package

only_one : {X : Type 0} (x y : X) (i : ℕ) → slice_get (x ∷ []) i ≡ Some y → x ≡ y
only_one x y zero e = same_Some x y e
only_one x y (suc i) e = absurd (none-some y e)

in_one_of : {X : Type 0} (x y : X) → Contains (x ∷ []) y → x ≡ y
in_one_of x y c = let p = contains_get (x ∷ []) y c in only_one x y p.0 p.1

file_scope : {F : Joined} {k : ℕ} {s : List (List ℕ)} → IsScope F (home.File k) s → s ≡ package_at F k
file_scope (of_file k) = refl

-- package p; service S { rpc R (X) returns (X); } and package p.S; message R {}: neither is a duplicate
abbrev r_of_package_s : MessageDecl
r_of_package_s = message_at 1 (codes "R") 11

abbrev of_package_s : Joined
of_package_s =
    two_files (Some (word (codes "p") 0)) (Some (word (codes "p.S") 10)) (r_of_package_s ∷ []) (a_service ∷ [])

data IsOfThese (sort : DeclKind) (full : List (List ℕ)) (span : Span) : Type 0 where
  the_service : sort ≡ no_type → length full ≡ 2 → span.start ≡ 1 → IsOfThese sort full span
  the_message : length full ≡ 3 → span.start ≡ 11 → IsOfThese sort full span

service_here : (s : ServiceDecl) → a_service ≡ s
    → IsOfThese no_type (package_at of_package_s s.file ++ s.name.name ∷ []) s.name.span
service_here s e =
    subst (λ (x : ServiceDecl). IsOfThese no_type (package_at of_package_s x.file ++ x.name.name ∷ []) x.name.span) e
    (the_service refl refl refl)

message_here : (m : MessageDecl) (outer : List (List ℕ)) → r_of_package_s ≡ m → IsScope of_package_s (enclosing_of m) outer
    → IsOfThese a_message (outer ++ m.name.name ∷ []) m.name.span
message_here m outer e is =
    let scope : IsScope of_package_s (home.File 1) outer =
    subst (λ (x : MessageDecl). IsScope of_package_s (enclosing_of x) outer) (sym e) is in
    let full : length (outer ++ codes "R" ∷ []) ≡ 3 =
    ap (λ (o : List (List ℕ)). length (o ++ codes "R" ∷ [])) (file_scope scope) in
    subst (λ (x : MessageDecl). IsOfThese a_message (outer ++ x.name.name ∷ []) x.name.span) e (the_message full refl)

declared_these : {k : ℕ} {sort : DeclKind} {full : List (List ℕ)} {span : Span} → IsDeclarationOf of_package_s k sort full span
    → IsOfThese sort full span
declared_these (Scopes.message m {outer} c is) = message_here m outer (in_one_of r_of_package_s m c) is
declared_these (Scopes.enum e c is) = absurd (nothing_in e c)
declared_these (Scopes.service s c) = service_here s (in_one_of a_service s c)
declared_these (Scopes.value e v c d is) = absurd (nothing_in e c)
declared_these (Scopes.field m f c d is) =
    absurd (nothing_in f (subst (λ (x : MessageDecl). Contains x.fields f) (sym (in_one_of r_of_package_s m c)) d))
declared_these (Scopes.oneof m o c d is) =
    absurd (nothing_in o (subst (λ (x : MessageDecl). Contains x.oneofs o) (sym (in_one_of r_of_package_s m c)) d))

apart_here : {a b : DeclKind} {full : List (List ℕ)} {s t : Span} → IsOfThese a full s → IsOfThese b full t
    → s.start < t.start → ⊥
apart_here (the_service sort parts start) (the_service tort marts dart) l = omega arith
apart_here (the_service sort parts start) (the_message marts dart) l = omega arith
apart_here (the_message parts start) (the_service tort marts dart) l = omega arith
apart_here (the_message parts start) (the_message marts dart) l = omega arith

package_small : (k : ℕ) → length (package_at of_package_s k) ≤ 2
package_small zero = omega arith
package_small (suc zero) = omega arith
package_small (suc (suc k)) = omega arith

no_front : {sort : DeclKind} {full : List (List ℕ)} {span : Span} → IsOfThese sort full span → is_type sort ≡ true
    → IsPackagePrefix of_package_s full → ⊥
no_front (the_service sort parts start) typ front = false≢true (sym (ap is_type sort) ∙ typ)
no_front {full = full} (the_message parts start) typ front =
    let n : length (package_at of_package_s front.file) ≡ length (full ++ front.rest) = ap length front.begins in
    omega (arith, package_small front.file, length-append full front.rest)

one_rpc : (s : ServiceDecl) (r x : RpcDecl) → a_service ≡ s → Contains s.rpcs r → Contains s.rpcs x
    → r.name.span.start < x.name.span.start → ⊥
one_rpc s r x e c d l =
    let own : (y : RpcDecl) → Contains s.rpcs y → an_rpc ≡ y =
    λ y g. in_one_of an_rpc y (subst (λ (z : ServiceDecl). Contains z.rpcs y) (sym e) g) in
    let a : 2 ≡ r.name.span.start = ap (λ (y : RpcDecl). y.name.span.start) (own r c) in
    let b : 2 ≡ x.name.span.start = ap (λ (y : RpcDecl). y.name.span.start) (own x d) in
    omega arith

service_row : (s : Span) → IsDuplicate of_package_s s → ⊥
service_row s (Violations.declared j k a b full earlier d e l) = apart_here (declared_these d) (declared_these e) l
service_row s (Violations.a_package k sort full d t front) = no_front (declared_these d) t front
service_row s (Violations.two_rpcs x r u c d e name l is) = one_rpc x r u (in_one_of a_service x c) d e l

-- ---- complete results: a file whose only violation is an import

no_declaration : (imports : List Import) (file : ℕ) (sort : DeclKind) (full : List (List ℕ)) (s : Span)
    → IsDeclarationOf (alone (file_of [] [] [] imports)) file sort full s → ⊥
no_declaration imports file sort full s (Scopes.message m c is) = nothing_in m c
no_declaration imports file sort full s (Scopes.enum e c is) = nothing_in e c
no_declaration imports file sort full s (Scopes.service x c) = nothing_in x c
no_declaration imports file sort full s (Scopes.value e v c d is) = nothing_in e c
no_declaration imports file sort full s (Scopes.field m f c d is) = nothing_in m c
no_declaration imports file sort full s (Scopes.oneof m o c d is) = nothing_in m c

no_line : (imports : List Import) (s : Span) (line : List ℕ)
    → HasLine (alone (file_of [] [] [] imports)) s line → ⊥
no_line imports s line (Lines.of_message m c is) = nothing_in m c
no_line imports s line (Lines.of_enum e c is) = nothing_in e c
no_line imports s line (Lines.of_value e v h fits) = nothing_in e h.enum
no_line imports s line (Lines.of_field m f n h e k form) = none-some m h.message
no_line imports s line (Lines.of_method x r i at a b) = none-some (x, r) at

not_twice : (imports : List Import) (s : Span) → IsDuplicate (alone (file_of [] [] [] imports)) s → ⊥
not_twice imports s (Violations.declared j k a b full earlier d e l) = no_declaration imports k b full s e
not_twice imports s (Violations.a_package k sort full d t front) = no_declaration imports k sort full s d
not_twice imports s (Violations.two_rpcs x r u c d e name l is) = nothing_in x c

not_long : (imports : List Import) (s : Span) → IsLongInFull (alone (file_of [] [] [] imports)) s → ⊥
not_long imports s (Violations.a_type k sort full d t l) = no_declaration imports k sort full s d
not_long imports s (Violations.a_service x c l e) = nothing_in x c

nothing_passes : (imports : List Import) (s : Span) → IsPastTextLimit (alone (file_of [] [] [] imports)) s → ⊥
nothing_passes imports s p =
    let has = p.are p.last.0 (s, p.own) p.last.1 in
    no_line imports s p.own
    (subst (λ (l : Span × List ℕ). HasLine (alone (file_of [] [] [] imports)) l.0 l.1) p.last.2 has)

no_package : (imports : List Import) (k : ℕ) (h : Head) (w : Word)
    → slice_get (alone (file_of [] [] [] imports)).heads k ≡ Some h → h.package ≡ Some w → ⊥
no_package imports zero h w at e =
    none-some w (ap (λ (x : Head). x.package) (same_Some (record { «package» = None; sees = 0 ∷ [] }) h at) ∙ e)
no_package imports (suc k) h w at e = none-some h at

nothing_offends : (imports : List Import) (q : ResolveReason) (s : Span)
    → IsViolated (alone (file_of [] [] [] imports)) q s → ⊥
nothing_offends imports q s (Violations.of_message i m at is o) = none-some m at
nothing_offends imports q s (Violations.of_enum i e at o) = none-some e at
nothing_offends imports q s (Violations.of_service i x at o) = none-some x at
nothing_offends imports q s (Violations.of_method i x r at o) = none-some (x, r) at
nothing_offends imports q s (Violations.of_package k h w at e l is) = no_package imports k h w at e
nothing_offends imports q s (Violations.twice span t is) = not_twice imports span t
nothing_offends imports q s (Violations.long_in_full span t is) = not_long imports span t
nothing_offends imports q s (Violations.long_text span t is) = nothing_passes imports span t

import_comes : (r : ResolveReason) (t : Span) → IsFileViolation (file_of [] [] [] (an_import ∷ [])) r t
    → IsNoLaterViolation HasImport (at 1) r t
import_comes r t (offends o) = absurd (nothing_offends (an_import ∷ []) r t o)
import_comes r t (Violations.has_import x e is) =
    subst (λ (q : ResolveReason). IsNoLaterViolation HasImport (at 1) q t) (sym is.0)
    (subst (λ (s : Span). IsNoLaterViolation HasImport (at 1) HasImport s) (sym is.1)
    (subst (λ (y : Import). IsNoLaterViolation HasImport (at 1) HasImport y.span) (same_Some an_import x e)
    (inr (refl, omega arith))))

empty_clean : (q : ResolveReason) (s : Span) → IsFileViolation (file_of [] [] [] []) q s → ⊥
empty_clean q s (offends o) = nothing_offends [] q s o
empty_clean q s (Violations.has_import x e is) = none-some x e

-- import "x";
import_first : HasFirstFileViolation (file_of [] [] [] (an_import ∷ [])) HasImport (at 1)
import_first = record {
  offence = import_row;
  first = λ r t o. import_comes r t o;
}

-- ---- complete results: service p {} in a file without a package, the other file has package p

abbrev service_p : ServiceDecl
service_p = record { name = word (codes "p") 1; file = 0; rpcs = [] }

abbrev with_package_p : Joined
with_package_p = two_files None (Some (word (codes "p") 10)) [] (service_p ∷ [])

declared_p : {k : ℕ} {sort : DeclKind} {full : List (List ℕ)} {span : Span} → IsDeclarationOf with_package_p k sort full span
    → (sort ≡ no_type) × (span.start ≡ 1)
declared_p (Scopes.message m c is) = absurd (nothing_in m c)
declared_p (Scopes.enum e c is) = absurd (nothing_in e c)
declared_p (Scopes.service s c) =
    (refl, ap (λ (x : ServiceDecl). x.name.span.start) (sym (in_one_of service_p s c)))
declared_p (Scopes.value e v c d is) = absurd (nothing_in e c)
declared_p (Scopes.field m f c d is) = absurd (nothing_in m c)
declared_p (Scopes.oneof m o c d is) = absurd (nothing_in m c)

no_type_here : {k : ℕ} {sort : DeclKind} {full : List (List ℕ)} {span : Span} → IsDeclarationOf with_package_p k sort full span
    → is_type sort ≡ true → ⊥
no_type_here d typ = false≢true (sym (ap is_type (declared_p d).0) ∙ typ)

p_not_twice : (s : Span) → IsDuplicate with_package_p s → ⊥
p_not_twice s (Violations.declared j k a b full earlier d e l) = omega (arith, (declared_p d).1, (declared_p e).1, l)
p_not_twice s (Violations.a_package k sort full d typ front) = no_type_here d typ
p_not_twice s (Violations.two_rpcs x r u c d e name l is) =
    nothing_in r (subst (λ (y : ServiceDecl). Contains y.rpcs r) (sym (in_one_of service_p x c)) d)

p_not_long : (s : Span) → IsLongInFull with_package_p s → ⊥
p_not_long s (Violations.a_type k sort full d typ l) = no_type_here d typ
p_not_long s (Violations.a_service x c l e) =
    let k : 255 < 1 =
    subst (λ (y : ServiceDecl). 255 < length (text_of (package_at with_package_p y.file ++ y.name.name ∷ [])))
    (sym (in_one_of service_p x c)) l in
    omega arith

p_no_line : (s : Span) (line : List ℕ) → HasLine with_package_p s line → ⊥
p_no_line s line (Lines.of_message m c is) = nothing_in m c
p_no_line s line (Lines.of_enum e c is) = nothing_in e c
p_no_line s line (Lines.of_value e v h fits) = nothing_in e h.enum
p_no_line s line (Lines.of_field m f n h e k form) = none-some m h.message
p_no_line s line (Lines.of_method x r i at a b) = none-some (x, r) at

p_short_package : (k : ℕ) (h : Head) (w : Word) → slice_get with_package_p.heads k ≡ Some h → h.package ≡ Some w
    → is_short_full w.name ≡ true
p_short_package zero h w at e =
    absurd (none-some w (ap (λ (x : Head). x.package) (same_Some (head None) h at) ∙ e))
p_short_package (suc zero) h w at e =
    let name = word (codes "p") 10 in
    let same : Some name ≡ Some w = ap (λ (x : Head). x.package) (same_Some (head (Some name)) h at) ∙ e in
    ap (λ (x : Word). is_short_full x.name) (sym (same_Some name w same))
p_short_package (suc (suc k)) h w at e = absurd (none-some h at)

p_clean : (q : ResolveReason) (s : Span) → IsViolated with_package_p q s → ⊥
p_clean q s (Violations.of_message i m at is o) = none-some m at
p_clean q s (Violations.of_enum i e at o) = none-some e at
p_clean q s (Violations.of_service i x at o) =
    false≢true (sym o.0 ∙ ap (λ (y : ServiceDecl). is_short y.name.name) (sym (only_one service_p x i at)))
p_clean q s (Violations.of_method i x r at o) = none-some (x, r) at
p_clean q s (Violations.of_package k h w at e l is) = false≢true (sym l ∙ p_short_package k h w at e)
p_clean q s (Violations.twice span t is) = p_not_twice span t
p_clean q s (Violations.long_in_full span t is) = p_not_long span t
p_clean q s (Violations.long_text span p is) =
    p_no_line span p.own
    (subst (λ (l : Span × List ℕ). HasLine with_package_p l.0 l.1) p.last.2
    (p.are p.last.0 (span, p.own) p.last.1))
