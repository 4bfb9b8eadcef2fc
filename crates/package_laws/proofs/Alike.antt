-- Files with the same declarations, but in other files.
use Rattle.std.proofs.Common.{◌≡◌, ℕ, ◌<◌, ◌≤◌, inl, inr, List, [], ◌∷◌, ◌++◌, length, Option, Some, None, sym, ap, ◌∙◌, subst, arith}
use Rattle.std.specs.Prelude.{Contains, slice_get}
use Rattle.std.proofs.lemmas.Bool.{cases_lt}
use Rattle.proto_ast.specs.declared.file.Span.{Span}
use Rattle.proto_ast.specs.declared.file.Word.{Word}
use Rattle.proto_ast.specs.declared.file.MessageDecl.{MessageDecl}
use Rattle.proto_ast.specs.declared.file.EnumDecl.{EnumDecl}
use Rattle.proto_ast.specs.declared.file.RpcDecl.{RpcDecl}
use Rattle.proto_ast.specs.declared.file.ServiceDecl.{ServiceDecl}
use Rattle.proto_ast.specs.declared.joined.Head.{Head}
use Rattle.proto_ast.specs.declared.joined.Enclosing.{Enclosing}
use Rattle.proto_ast.specs.declared.joined.Enclosing.TheVariants as home
use Rattle.proto_ast.specs.Joined.{Joined, enclosing_in, package_at, package_in}
use Rattle.schema_symbols.specs.Scopes
use Rattle.mrpc_table.specs.declared.limits.TheConstants.{MAX_FULL_NAME}
use Rattle.schema_symbols.specs.Scopes.{text_of, IsScope, of_file, of_message, DeclKind, IsDeclarationOf, IsPackagePrefix}
use Rattle.schema_validation.specs.Methods.{rpcs_of}
use Rattle.schema_validation.specs.Violations
use Rattle.schema_validation.specs.Violations.{IsDuplicate, IsLongInFull}
use Rattle.package_laws.proofs.Lists.{in_list, at_in, none_at}

-- ---- the same declaration, in another file

abbrev pub message_with : ℕ → MessageDecl → MessageDecl
message_with k m = record m { file = k }

abbrev pub enum_with : ℕ → EnumDecl → EnumDecl
enum_with k e = record e { file = k }

abbrev pub service_with : ℕ → ServiceDecl → ServiceDecl
service_with k s = record s { file = k }

pub record HasMessage (J K : Joined) (i : ℕ) (m : MessageDecl) : Type 0 where
  pub file : ℕ
  pub own : m.file < length J.heads
  pub there : file < length K.heads
  pub at : slice_get K.messages i ≡ Some (message_with file m)

pub record HasEnum (J K : Joined) (i : ℕ) (e : EnumDecl) : Type 0 where
  pub file : ℕ
  pub own : e.file < length J.heads
  pub there : file < length K.heads
  pub at : slice_get K.enums i ≡ Some (enum_with file e)

pub record HasService (J K : Joined) (i : ℕ) (s : ServiceDecl) : Type 0 where
  pub file : ℕ
  pub own : s.file < length J.heads
  pub there : file < length K.heads
  pub at : slice_get K.services i ≡ Some (service_with file s)

pub record HasRpc (J K : Joined) (i : ℕ) (s : ServiceDecl) (r : RpcDecl) : Type 0 where
  pub file : ℕ
  pub own : s.file < length J.heads
  pub there : file < length K.heads
  pub at : slice_get (rpcs_of K) i ≡ Some (service_with file s, r)
  pub ours : Contains J.services s
  pub theirs : Contains K.services (service_with file s)
  pub its : Contains s.rpcs r

-- a package of the same name
pub record HasPackage (K : Joined) (w : Word) : Type 0 where
  pub file : ℕ
  pub head : Head
  pub word : Word
  pub at : slice_get K.heads file ≡ Some head
  pub is : head.package ≡ Some word
  pub same : word.name ≡ w.name

-- what the first files declare, the second ones declare, too
pub record AreAlike (J K : Joined) : Type 0 where
  pub some : 0 < length K.heads
  pub packages : (j k : ℕ) → j < length J.heads → k < length K.heads → package_at J j ≡ package_at K k
  pub words : (j : ℕ) (h : Head) (w : Word) → slice_get J.heads j ≡ Some h → h.package ≡ Some w → HasPackage K w
  pub messages : (i : ℕ) (m : MessageDecl) → slice_get J.messages i ≡ Some m → HasMessage J K i m
  pub enums : (i : ℕ) (e : EnumDecl) → slice_get J.enums i ≡ Some e → HasEnum J K i e
  pub services : (i : ℕ) (s : ServiceDecl) → slice_get J.services i ≡ Some s → HasService J K i s
  pub rpcs : (i : ℕ) (s : ServiceDecl) (r : RpcDecl) → slice_get (rpcs_of J) i ≡ Some (s, r) → HasRpc J K i s r
  pub rpc_count : length (rpcs_of K) ≡ length (rpcs_of J)

-- ---- scopes

pub data HomesAlike (J K : Joined) : Enclosing → Enclosing → Type 0 where
  files : (j k : ℕ) → j < length J.heads → k < length K.heads → HomesAlike J K (home.File j) (home.File k)
  message : (i : ℕ) → HomesAlike J K (home.Message i) (home.Message i)

pub homes_alike : {J K : Joined} (j k : ℕ) (p : Option ℕ) → j < length J.heads → k < length K.heads
    → HomesAlike J K (enclosing_in j p) (enclosing_in k p)
homes_alike j k None l n = files j k l n
homes_alike j k (Some i) l n = message i

pub scope_alike : {J K : Joined} {h g : Enclosing} {s : List (List ℕ)} → AreAlike J K → IsScope J h s → HomesAlike J K h g
    → IsScope K g s
scope_alike {J} {K} a (of_file j) (files j' k l n) =
    subst (λ (s : List (List ℕ)). IsScope K (home.File k) s) (sym (a.packages j k l n)) (of_file k)
scope_alike {J} {K} a (of_message i m at up) (message i') =
    let t = a.messages i m at in
    of_message i (message_with t.file m) t.at (scope_alike a up (homes_alike m.file t.file m.parent t.own t.there))

pub message_scope_alike : {J K : Joined} {i : ℕ} {s : List (List ℕ)} → AreAlike J K → IsScope J (home.Message i) s
    → IsScope K (home.Message i) s
message_scope_alike {i} a up = scope_alike a up (message i)

-- ---- declarations

pub declares_alike : {J K : Joined} {j : ℕ} {sort : DeclKind} {full : List (List ℕ)} {span : Span} → AreAlike J K
    → IsDeclarationOf J j sort full span → (k : ℕ) × IsDeclarationOf K k sort full span
declares_alike {J} {K} a (Scopes.message m c up) =
    let t = a.messages c.0 m (at_in J.messages m c) in
    let u = scope_alike a up (homes_alike m.file t.file m.parent t.own t.there) in
    let n = message_with t.file m in
    (t.file, Scopes.message n (in_list K.messages c.0 n t.at) u)
declares_alike {J} {K} a (Scopes.enum e c up) =
    let t = a.enums c.0 e (at_in J.enums e c) in
    let u = scope_alike a up (homes_alike e.file t.file e.parent t.own t.there) in
    let n = enum_with t.file e in
    (t.file, Scopes.enum n (in_list K.enums c.0 n t.at) u)
declares_alike {J} {K} {span} a (Scopes.service s c) =
    let t = a.services c.0 s (at_in J.services s c) in
    let n = service_with t.file s in (
      t.file,
      subst (λ (p : List (List ℕ)). IsDeclarationOf K t.file Scopes.no_type (p ++ s.name.name ∷ []) s.name.span)
          (sym (a.packages s.file t.file t.own t.there)) (Scopes.service n (in_list K.services c.0 n t.at)),
    )
declares_alike {J} {K} a (Scopes.value e v c d up) =
    let t = a.enums c.0 e (at_in J.enums e c) in
    let u = scope_alike a up (homes_alike e.file t.file e.parent t.own t.there) in
    let n = enum_with t.file e in
    (t.file, Scopes.value n v (in_list K.enums c.0 n t.at) d u)
declares_alike {J} {K} a (Scopes.field m f c d up) =
    let t = a.messages c.0 m (at_in J.messages m c) in
    let u = scope_alike a up (homes_alike m.file t.file m.parent t.own t.there) in
    let n = message_with t.file m in
    (t.file, Scopes.field n f (in_list K.messages c.0 n t.at) d u)
declares_alike {J} {K} a (Scopes.oneof m o c d up) =
    let t = a.messages c.0 m (at_in J.messages m c) in
    let u = scope_alike a up (homes_alike m.file t.file m.parent t.own t.there) in
    let n = message_with t.file m in
    (t.file, Scopes.oneof n o (in_list K.messages c.0 n t.at) d u)

-- a declaration is in a file that exists
pub declared_in : {J K : Joined} {j : ℕ} {sort : DeclKind} {full : List (List ℕ)} {span : Span} → AreAlike J K
    → IsDeclarationOf J j sort full span → j < length J.heads
declared_in {J} a (Scopes.message m c up) = (a.messages c.0 m (at_in J.messages m c)).own
declared_in {J} a (Scopes.enum e c up) = (a.enums c.0 e (at_in J.enums e c)).own
declared_in {J} a (Scopes.service s c) = (a.services c.0 s (at_in J.services s c)).own
declared_in {J} a (Scopes.value e v c d up) = (a.enums c.0 e (at_in J.enums e c)).own
declared_in {J} a (Scopes.field m f c d up) = (a.messages c.0 m (at_in J.messages m c)).own
declared_in {J} a (Scopes.oneof m o c d up) = (a.messages c.0 m (at_in J.messages m c)).own

-- ---- duplicate names, and long full names

no_package : (J : Joined) (k : ℕ) → length J.heads ≤ k → package_at J k ≡ []
no_package J k l = ap package_in (none_at J.heads k l)

pub front_alike : {J K : Joined} {full : List (List ℕ)} → AreAlike J K → IsPackagePrefix J full → IsPackagePrefix K full
front_alike {J} {K} {full} a front = elim (cases_lt front.file (length J.heads)) [
  | inl there ↦ record {
    file = 0;
    rest = front.rest;
    begins = sym (a.packages front.file 0 there a.some) ∙ front.begins;
  }
  | inr out ↦ record {
    file = length K.heads;
    rest = front.rest;
    begins = no_package K (length K.heads) (omega arith) ∙ sym (no_package J front.file (omega arith)) ∙ front.begins;
  }
]

pub twice_alike : {J K : Joined} {span : Span} → AreAlike J K → IsDuplicate J span → IsDuplicate K span
twice_alike a (Violations.declared j k x y full earlier d e l) =
    let u = declares_alike a d in
    let v = declares_alike a e in
    Violations.declared u.0 v.0 x y full earlier u.1 v.1 l
twice_alike a (Violations.a_package k sort full d typ front) =
    let u = declares_alike a d in
    Violations.a_package u.0 sort full u.1 typ (front_alike a front)
twice_alike {J} {K} a (Violations.two_rpcs s r x c d e same l is) =
    let t = a.services c.0 s (at_in J.services s c) in
    let n = service_with t.file s in
    Violations.two_rpcs n r x (in_list K.services c.0 n t.at) d e same l is

pub long_alike : {J K : Joined} {span : Span} → AreAlike J K → IsLongInFull J span → IsLongInFull K span
long_alike a (Violations.a_type k sort full d typ long) =
    let u = declares_alike a d in
    Violations.a_type u.0 sort full u.1 typ long
long_alike {J} {K} {span} a (Violations.a_service s c long is) =
    let t = a.services c.0 s (at_in J.services s c) in
    let n = service_with t.file s in
    Violations.a_service n (in_list K.services c.0 n t.at)
    (subst (λ (p : List (List ℕ)). MAX_FULL_NAME < length (text_of (p ++ s.name.name ∷ [])))
    (a.packages s.file t.file t.own t.there) long)
    is
