-- Two small files of one package, and the one file with all their declarations.
use Rattle.std.proofs.Common.{◌≡◌, ℕ, zero, suc, ◌+◌, ◌≤◌, ◌⊎◌, inl, inr, false, true, List, [], ◌∷◌, ◌++◌, Some}
use Rattle.std.proofs.Common.{None, refl, sym, ap, ◌∙◌, subst, arith}
use Rattle.std.specs.Prelude.{codes, slice_get, Contains}
use Rattle.std.specs.Option.{option_map}
use Rattle.std.proofs.lemmas.Option.{same_Some, none-some}
use Rattle.std.proofs.lemmas.List.Elements.{All-from_recursion}
use Rattle.mrpc_table.specs.Names.{parts_of}
use Rattle.mrpc_table.specs.declared.words.Decimal.TheVariants.{Small}
use Rattle.proto_ast.specs.Joined.{Joined, CanSee, alone, enclosing_of, package_at}
use Rattle.proto_ast.specs.declared.file.Span.{Span}
use Rattle.proto_ast.specs.declared.file.Word.{Word}
use Rattle.proto_ast.specs.declared.file.FieldLabel.TheVariants.{Plain}
use Rattle.proto_ast.specs.declared.file.FieldType.TheVariants.{Named}
use Rattle.proto_ast.specs.declared.file.FieldDecl.{FieldDecl}
use Rattle.proto_ast.specs.declared.file.MessageDecl.{MessageDecl}
use Rattle.proto_ast.specs.declared.file.RpcDecl.{RpcDecl}
use Rattle.proto_ast.specs.declared.file.ServiceDecl.{ServiceDecl}
use Rattle.proto_ast.specs.declared.file.File.{File}
use Rattle.proto_ast.specs.declared.joined.Head.{Head}
use Rattle.proto_ast.specs.declared.joined.Enclosing.TheVariants as home
use Rattle.schema_symbols.specs.Scopes
use Rattle.schema_symbols.specs.Scopes.{IsScope, DeclKind, is_type, IsDeclarationOf, IsMeaningOf, absolute, relative}
use Rattle.package_laws.specs.OnePackage.{IsOneFile, HasNoTypeNamedAsPart, IsFieldReference, its_type, its_key, its_value, its_outer_key, IsReferenceIn, of_field, of_rpc, CanSeeItsTypes, IsOnePackage}
use Rattle.package_laws.proofs.Lists.{at_in, last_same}
use Rattle.package_laws.proofs.Looking.{file_scope}

-- ---- the files

abbrev at : ℕ → Span
at n = record { start = n; end = n + 1; line = 1 }

abbrev word : List ℕ → ℕ → Word
word name n = record { name = name; span = at n }

abbrev field : List ℕ → ℕ → FieldDecl
field name n = record {
  name = word name (n + 2);
  number = record { negative = false; value = Small 1; span = at (n + 4) };
  kind = Named (word (codes "A") n);
  label = Plain;
  oneof = None;
  packed = None;
}

-- package p; message A { A x = 1; }
abbrev head_a : Head
head_a = record { «package» = Some (word (codes "p") 8); sees = 0 ∷ [] }

abbrev decl_a : ℕ → MessageDecl
decl_a file = record {
  name = word (codes "A") 20;
  file = file;
  parent = None;
  fields = field (codes "x") 24 ∷ [];
  oneofs = [];
  ranges = [];
  names = [];
}

-- package p; message B { A y = 1; } service S { rpc R (A) returns (B); }
abbrev head_b : Head
head_b = record { «package» = Some (word (codes "p") 108); sees = 1 ∷ 0 ∷ [] }

abbrev decl_b : ℕ → MessageDecl
decl_b file = record {
  name = word (codes "B") 119;
  file = file;
  parent = None;
  fields = field (codes "y") 122 ∷ [];
  oneofs = [];
  ranges = [];
  names = [];
}

abbrev rpc_r : RpcDecl
rpc_r = record { name = word (codes "R") 150; input = word (codes "A") 153; output = word (codes "B") 167 }

abbrev service_s : ℕ → ServiceDecl
service_s file = record { name = word (codes "S") 142; file = file; rpcs = rpc_r ∷ [] }

abbrev both : Joined
both = record {
  heads = head_a ∷ head_b ∷ [];
  messages = decl_a 0 ∷ decl_b 1 ∷ [];
  enums = [];
  services = service_s 1 ∷ [];
}

abbrev one : File
one = record {
  «package» = Some (word (codes "p") 0);
  imports = [];
  messages = decl_a 0 ∷ decl_b 0 ∷ [];
  enums = [];
  services = service_s 0 ∷ [];
}

abbrev name_of : Word → List ℕ
name_of w = w.name

is_one_file : IsOneFile both one
is_one_file = record {
  some = omega arith;
  one_package = All-from_recursion (λ (h : Head). option_map name_of h.package ≡ option_map name_of one.package)
      both.heads (refl, (refl, tt));
  no_imports = refl;
  messages = refl;
  enums = refl;
  services = refl;
}

-- ---- no type has the name of a part of the package

named_at : (i : ℕ) (name : List ℕ) → slice_get (codes "p" ∷ []) i ≡ Some name → codes "p" ≡ name
named_at zero name e = same_Some (codes "p") name e
named_at (suc i) name e = absurd (none-some name e)

package_one : (k : ℕ) (m : MessageDecl) → slice_get both.messages k ≡ Some m
    → (package_at both m.file ≡ codes "p" ∷ []) × ((m.name.name ≡ codes "A") ⊎ (m.name.name ≡ codes "B"))
package_one zero m e =
    let s : decl_a 0 ≡ m = same_Some (decl_a 0) m e in (
      ap (λ (x : MessageDecl). package_at both x.file) (sym s),
      inl (ap (λ (x : MessageDecl). x.name.name) (sym s)),
    )
package_one (suc zero) m e =
    let s : decl_b 1 ≡ m = same_Some (decl_b 1) m e in (
      ap (λ (x : MessageDecl). package_at both x.file) (sym s),
      inr (ap (λ (x : MessageDecl). x.name.name) (sym s)),
    )
package_one (suc (suc k)) m e = absurd (none-some m e)

not_p : (name : List ℕ) → (name ≡ codes "A") ⊎ (name ≡ codes "B") → codes "p" ≡ name → ⊥
not_p name (inl e) p = let h : ◌≡◌ {A = ℕ} 112 65 = cc in omega arith
not_p name (inr e) p = let h : ◌≡◌ {A = ℕ} 112 66 = cc in omega arith

no_type_is_a_part : HasNoTypeNamedAsPart both
no_type_is_a_part = record {
  messages = λ m c top part.
      let k = package_one c.0 m (at_in both.messages m c) in
      let inside : Contains (codes "p" ∷ []) m.name.name =
      subst (λ (p : List (List ℕ)). Contains p m.name.name) k.0 part in
      not_p m.name.name k.1 (named_at inside.0 m.name.name (at_in (codes "p" ∷ []) m.name.name inside));
  enums = λ e c top part. absurd (none-some e (at_in both.enums e c));
}

-- ---- the files see the types that they name

-- message A is in file 0, message B in file 1
data IsOne (file : ℕ) (full : List (List ℕ)) : Type 0 where
  is_a : file ≡ 0 → full ≡ codes "p" ∷ codes "A" ∷ [] → IsOne file full
  is_b : file ≡ 1 → full ≡ codes "p" ∷ codes "B" ∷ [] → IsOne file full

message_one : (m : MessageDecl) (outer : List (List ℕ)) (i : ℕ) → slice_get both.messages i ≡ Some m
    → IsScope both (enclosing_of m) outer → IsOne m.file (outer ++ m.name.name ∷ [])
message_one m outer zero e up =
    let s : decl_a 0 ≡ m = same_Some (decl_a 0) m e in
    let u : IsScope both (home.File 0) outer =
    subst (λ (x : MessageDecl). IsScope both (enclosing_of x) outer) (sym s) up in
    let o : outer ≡ codes "p" ∷ [] = file_scope u in
    subst (λ (x : MessageDecl). IsOne x.file (outer ++ x.name.name ∷ [])) s
    (is_a refl (ap (λ (p : List (List ℕ)). p ++ codes "A" ∷ []) o))
message_one m outer (suc zero) e up =
    let s : decl_b 1 ≡ m = same_Some (decl_b 1) m e in
    let u : IsScope both (home.File 1) outer =
    subst (λ (x : MessageDecl). IsScope both (enclosing_of x) outer) (sym s) up in
    let o : outer ≡ codes "p" ∷ [] = file_scope u in
    subst (λ (x : MessageDecl). IsOne x.file (outer ++ x.name.name ∷ [])) s
    (is_b refl (ap (λ (p : List (List ℕ)). p ++ codes "B" ∷ []) o))
message_one m outer (suc (suc i)) e up = absurd (none-some m e)

declared_one : {k : ℕ} {sort : DeclKind} {full : List (List ℕ)} {span : Span} → IsDeclarationOf both k sort full span
    → is_type sort ≡ true → IsOne k full
declared_one (Scopes.message m {outer} c up) typ = message_one m outer c.0 (at_in both.messages m c) up
declared_one (Scopes.enum e c up) typ = absurd (none-some e (at_in both.enums e c))
declared_one (Scopes.service s c) typ = absurd cc
declared_one (Scopes.value e v c d up) typ = absurd cc
declared_one (Scopes.field m f c d up) typ = absurd cc
declared_one (Scopes.oneof m o c d up) typ = absurd cc

sees_own : CanSee both 0 0
sees_own = record { head = head_a; at = refl; among = (0, omega arith, refl) }

sees_both : (other : ℕ) → other ≤ 1 → CanSee both 1 other
sees_both zero l = record { head = head_b; at = refl; among = (1, omega arith, refl) }
sees_both (suc zero) l = record { head = head_b; at = refl; among = (0, omega arith, refl) }
sees_both (suc (suc other)) l = absurd (omega arith)

one_small : {file : ℕ} {full : List (List ℕ)} → IsOne file full → file ≤ 1
one_small (is_a k e) = omega arith
one_small (is_b k e) = omega arith

-- a reference is in the second file, or names A
data IsReference (file : ℕ) (name : List ℕ) : Type 0 where
  of_b : file ≡ 1 → IsReference file name
  to_a : file ≡ 0 → name ≡ codes "A" → IsReference file name

named_same : (w v : Word) → Named w ≡ Named v → w ≡ v
named_same w v e = cc

field_name : {f : FieldDecl} {name : List ℕ} → f.kind ≡ Named (word (codes "A") 24) → IsFieldReference f name
    → name ≡ codes "A"
field_name is (its_type w e) = ap (λ (x : Word). x.name) (named_same w (word (codes "A") 24) (sym e ∙ is))
field_name is (its_key key value e) = absurd cc
field_name is (its_outer_key key e) = absurd cc
field_name is (its_value key value e) = absurd cc

field_a : (f : FieldDecl) (j : ℕ) → slice_get (decl_a 0).fields j ≡ Some f → f.kind ≡ Named (word (codes "A") 24)
field_a f zero e = ap (λ (x : FieldDecl). x.kind) (sym (same_Some (field (codes "x") 24) f e))
field_a f (suc j) e = absurd (none-some f e)

message_reference : (i : ℕ) (m : MessageDecl) (f : FieldDecl) (name : List ℕ) → slice_get both.messages i ≡ Some m
    → Contains m.fields f → IsFieldReference f name → IsReference m.file name
message_reference zero m f name e c r =
    let s : decl_a 0 ≡ m = same_Some (decl_a 0) m e in
    let d : Contains (decl_a 0).fields f = subst (λ (x : MessageDecl). Contains x.fields f) (sym s) c in
    to_a (ap (λ (x : MessageDecl). x.file) (sym s)) (field_name (field_a f d.0 (at_in (decl_a 0).fields f d)) r)
message_reference (suc zero) m f name e c r =
    let s : decl_b 1 ≡ m = same_Some (decl_b 1) m e in
    of_b (ap (λ (x : MessageDecl). x.file) (sym s))
message_reference (suc (suc i)) m f name e c r = absurd (none-some m e)

service_reference : (i : ℕ) (s : ServiceDecl) → slice_get both.services i ≡ Some s → s.file ≡ 1
service_reference zero s e = ap (λ (x : ServiceDecl). x.file) (sym (same_Some (service_s 1) s e))
service_reference (suc i) s e = absurd (none-some s e)

reference : {file : ℕ} {scope : List (List ℕ)} {name : List ℕ} → IsReferenceIn both file scope name → IsReference file name
reference {name} (of_field i m f e is up c r) =
    subst (λ (k : ℕ). IsReference k name) is (message_reference i m f name e c r)
reference (of_rpc s r c is d e n) = of_b (sym is ∙ service_reference c.0 s (at_in both.services s c))

-- a name with one part is the last part of its full name
means_last : {scope full : List (List ℕ)} {name : List ℕ} → name ≡ codes "A" → IsMeaningOf (alone one) 0 scope name full
    → (front : List (List ℕ)) × (full ≡ front ++ codes "A" ∷ [])
means_last is (absolute name) = absurd (let h : ◌≡◌ {A = ℕ} 46 65 = cc in omega arith)
means_last is (relative name first {others} {decisive} cuts apart decides) =
    let e : first ∷ others ≡ codes "A" ∷ [] = sym cuts ∙ ap parts_of is in
    (decisive, ap (λ (x : List (List ℕ)). decisive ++ x) e)

of_a : {file : ℕ} {full : List (List ℕ)} (front : List (List ℕ)) → IsOne file full → full ≡ front ++ codes "A" ∷ []
    → file ≡ 0
of_a front (is_a k e) last = k
of_a front (is_b k e) last =
    let cut = (last_same (codes "p" ∷ []) front (codes "B") (codes "A") (sym e ∙ last)).1 in
    absurd (let h : ◌≡◌ {A = ℕ} 66 65 = cc in omega arith)

sees_its_types : CanSeeItsTypes both one
sees_its_types = record {
  sees = λ file other scope full name sort own span refers names d typ.
      let k = declared_one d typ in
      elim (reference refers) [
        | of_b is ↦ subst (λ (n : ℕ). CanSee both n other) (sym is) (sees_both other (one_small k))
        | to_a is e ↦
            let l = means_last e names.means in
            let z : other ≡ 0 = of_a l.0 k l.1 in
            subst (λ (n : ℕ). CanSee both n other) (sym is) (subst (λ (n : ℕ). CanSee both 0 n) (sym z) sees_own)
      ];
}

pub is_one_package : IsOnePackage both one
is_one_package = record { file = is_one_file; apart = no_type_is_a_part; sees = sees_its_types }
