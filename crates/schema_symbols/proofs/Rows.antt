-- The definitions on small files: what references name there.
use Rattle.std.proofs.Common.{◌≡◌, ℕ, zero, suc, ◌+◌, ◌<◌, ◌≤◌, ◌⊎◌, ⊎_elim, inl, inr, false, List, [], ◌∷◌, ◌++◌}
use Rattle.std.proofs.Common.{length, get_or, Option, Some, None, refl, ap, sym, ◌∙◌, subst, arith}
use Rattle.std.specs.Prelude.{codes, Contains}
use Rattle.std.proofs.lemmas.Option.{same_Some}
use Rattle.mrpc_table.specs.declared.words.Decimal.TheVariants.{Small}
use Rattle.proto_ast.specs.Joined.{Joined, alone, CanSee, package_at, enclosing_of}
use Rattle.proto_ast.specs.declared.file.Span.{Span}
use Rattle.proto_ast.specs.declared.file.Word.{Word}
use Rattle.proto_ast.specs.declared.file.MessageDecl.{MessageDecl}
use Rattle.proto_ast.specs.declared.file.ValueDecl.{ValueDecl}
use Rattle.proto_ast.specs.declared.file.EnumDecl.{EnumDecl}
use Rattle.proto_ast.specs.declared.file.File.{File}
use Rattle.proto_ast.specs.declared.joined.Head.{Head}
use Rattle.proto_ast.specs.declared.joined.Enclosing.TheVariants as home
use Rattle.schema_symbols.specs.Scopes.{IsScope, of_file, of_message, a_message, an_enum, no_type, DeclKind, IsDeclarationOf}
use Rattle.schema_symbols.specs.Scopes.{message, enum, value, IsVisibleName, a_type, a_package, IsDecisiveScope, here, outward, IsMeaningOf}
use Rattle.schema_symbols.specs.Scopes.{absolute, relative, IsVisibleDeclaration}
use Rattle.schema_symbols.specs.Numbers.{IsSymbolAt, message as message_at, enum as enum_at, IsOfFile, message_of}
use Rattle.schema_symbols.specs.declared.symbol.Symbol.{Symbol}
use Rattle.schema_symbols.specs.declared.symbol.Symbol.TheVariants.{Message}
use Rattle.schema_symbols.proofs.ScopeLemmas.{scope_one}
use Rattle.schema_symbols.proofs.Meaning.{declared_stands}
use Rattle.schema_symbols.proofs.TypeLemmas.{of_one}

abbrev at : ℕ → Span
at n = record { start = n; end = n + 1; line = 1 }

abbrev word : List ℕ → ℕ → Word
word name n = record { name = name; span = at n }

abbrev bare : Word → ℕ → Option ℕ → MessageDecl
bare name file parent = record { name = name; file = file; parent = parent; fields = []; oneofs = []; ranges = []; names = [] }

-- ---- a file alone: package a.b; message M { message N { enum E { Z = 0; } } } message N {}

abbrev zero_value : ValueDecl
zero_value = record { name = word (codes "Z") 50; number = record { negative = false; value = Small 0; span = at 54 } }

abbrev choices : EnumDecl
choices = record { name = word (codes "E") 45; file = 0; parent = Some 1; values = zero_value ∷ []; ranges = []; names = [] }

abbrev nested_file : File
nested_file = record {
  «package» = Some (word (codes "a.b") 8);
  imports = [];
  messages = bare (word (codes "M") 20) 0 None ∷ bare (word (codes "N") 30) 0 (Some 0) ∷ bare (word (codes "N") 70) 0 None ∷ [];
  enums = choices ∷ [];
  services = [];
}

abbrev nested : Joined
nested = alone nested_file

abbrev full : List (List ℕ) → List (List ℕ)
full names = codes "a" ∷ codes "b" ∷ names

itself : CanSee nested 0 0
itself = record { head = record { «package» = Some (word (codes "a.b") 8); sees = 0 ∷ [] }; at = refl; among = (0, omega arith, refl) }

scope_m : IsScope nested (home.Message 0) (full (codes "M" ∷ []))
scope_m = of_message 0 (bare (word (codes "M") 20) 0 None) refl (of_file 0)

scope_n : IsScope nested (home.Message 1) (full (codes "M" ∷ codes "N" ∷ []))
scope_n = of_message 1 (bare (word (codes "N") 30) 0 (Some 0)) refl scope_m

inner : IsDeclarationOf nested 0 a_message (full (codes "M" ∷ codes "N" ∷ [])) (at 30)
inner = message (bare (word (codes "N") 30) 0 (Some 0)) (1, omega arith, refl) scope_m

-- the innermost scope that has the name decides: in `M`, `N` is `a.b.M.N`
inner_first : IsDecisiveScope nested 0 (codes "N") (full (codes "M" ∷ [])) (full (codes "M" ∷ []))
inner_first = here (a_type 0 a_message (at 30) itself inner refl)

-- a leading dot starts at the root
rooted : IsMeaningOf nested 0 (full (codes "M" ∷ [])) (codes ".a.b.N") (full (codes "N" ∷ []))
rooted = absolute (codes "a.b.N")

-- only the first part decides, and the others follow it
parts_follow : IsMeaningOf nested 0 (full (codes "M" ∷ [])) (codes "N.X.Y") (full (codes "M" ∷ codes "N" ∷ codes "X" ∷ codes "Y" ∷ []))
parts_follow = relative (codes "N.X.Y") (codes "N") refl (λ e. cc) inner_first

-- the parts of the package are scopes, too
package_part : IsVisibleName nested 0 (codes "a" ∷ [])
package_part = a_package 0 (codes "b" ∷ []) itself refl

-- the values of an enum are in the enclosing scope, here that of the message
beside : IsDeclarationOf nested 0 no_type (full (codes "M" ∷ codes "N" ∷ codes "Z" ∷ [])) (at 50)
beside = value choices zero_value (0, omega arith, refl) (0, omega arith, refl) scope_n

its_enum : IsDeclarationOf nested 0 an_enum (full (codes "M" ∷ codes "N" ∷ codes "E" ∷ [])) (at 45)
its_enum = enum choices (0, omega arith, refl) scope_n

-- ---- three files: package base; message Id {} / package app; message User {} / package app.base;
-- the first sees itself alone, the second all

abbrev id : MessageDecl
id = bare (word (codes "Id") 30) 0 None

abbrev user : MessageDecl
user = bare (word (codes "User") 130) 1 None

-- the second file sees these
abbrev files : List ℕ → Joined
files seen = record {
  heads = (record { «package» = Some (word (codes "base") 8); sees = 0 ∷ [] })
      ∷ (record { «package» = Some (word (codes "app") 108); sees = seen })
      ∷ (record { «package» = Some (word (codes "app.base") 208); sees = 2 ∷ [] }) ∷ [];
  messages = id ∷ user ∷ [];
  enums = [];
  services = [];
}

module _ (seen : List ℕ) where
  abbrev F : Joined
  F = files seen

  -- the types of the files
  abbrev Types : Symbol → List (List ℕ) → Type 0
  Types named name =
      ((named ≡ Message 0) × (name ≡ codes "base" ∷ codes "Id" ∷ [])) ⊎ ((named ≡ Message 1) × (name ≡ codes "app" ∷ codes "User" ∷ []))

  types : {named : Symbol} {name : List (List ℕ)} {span : Span} → IsSymbolAt F named name span → Types named name
  types (message_at zero m {outer} there up) =
      let same : m ≡ id = same_Some m id (sym there) in
      let e : outer ≡ codes "base" ∷ [] = scope_one (subst (λ (d : MessageDecl). IsScope F (enclosing_of d) outer) same up) (of_file 0) in
      inl (refl, ap (λ (d : MessageDecl). outer ++ d.name.name ∷ []) same ∙ ap (λ (o : List (List ℕ)). o ++ codes "Id" ∷ []) e)
  types (message_at (suc zero) m {outer} there up) =
      let same : m ≡ user = same_Some m user (sym there) in
      let e : outer ≡ codes "app" ∷ [] = scope_one (subst (λ (d : MessageDecl). IsScope F (enclosing_of d) outer) same up) (of_file 1) in
      inr (refl, ap (λ (d : MessageDecl). outer ++ d.name.name ∷ []) same ∙ ap (λ (o : List (List ℕ)). o ++ codes "User" ∷ []) e)
  types (message_at (suc (suc i)) m there up) = absurd cc
  types (enum_at i e there up) = absurd cc

abbrev two : Joined
two = files (1 ∷ 0 ∷ [])

sees_base : CanSee two 1 0
sees_base = record { head = record { «package» = Some (word (codes "app") 108); sees = 1 ∷ 0 ∷ [] }; at = refl; among = (1, omega arith, refl) }

at_two : (k other : ℕ) → k < 2 → get_or (1 ∷ 0 ∷ []) k other ≡ other → other ≤ 1
at_two zero other l e = omega arith
at_two (suc zero) other l e = omega arith
at_two (suc (suc k)) other l e = absurd (omega arith)

-- the second file doesn't see the third
app_sees : {other : ℕ} → CanSee two 1 other → other ≤ 1
app_sees {other} s =
    let h : Head = record { «package» = Some (word (codes "app") 108); sees = 1 ∷ 0 ∷ [] } in
    let c : Contains h.sees other = subst (λ (q : Head). Contains q.sees other) (same_Some s.head h (sym s.at)) s.among in
    at_two c.0 other c.1 c.2

at_one : (k other : ℕ) → k < 1 → get_or (0 ∷ []) k other ≡ other → other ≡ 0
at_one zero other l e = sym e
at_one (suc k) other l e = absurd (omega arith)

base_sees : {other : ℕ} → CanSee two 0 other → other ≡ 0
base_sees {other} s =
    let h : Head = record { «package» = Some (word (codes "base") 8); sees = 0 ∷ [] } in
    let c : Contains h.sees other = subst (λ (q : Head). Contains q.sees other) (same_Some s.head h (sym s.at)) s.among in
    at_one c.0 other c.1 c.2

-- neither `app.User` nor `app` has a name `base`
not_in_user : IsVisibleName two 1 (codes "app" ∷ codes "User" ∷ codes "base" ∷ []) → ⊥
not_in_user (a_type other sort span sees declares typ) =
    let t = declared_stands declares typ in
    ⊎_elim (λ e. omega (arith, ap length e.1)) (λ e. omega (arith, ap length e.1)) (types (1 ∷ 0 ∷ []) t.stands)
not_in_user (a_package zero rest sees e) = omega (arith, ap length e)
not_in_user (a_package (suc zero) rest sees e) = omega (arith, ap length e)
not_in_user (a_package (suc (suc zero)) rest sees e) = omega (arith, ap length e)
not_in_user (a_package (suc (suc (suc n))) rest sees e) = omega (arith, ap length e)

not_in_app : IsVisibleName two 1 (codes "app" ∷ codes "base" ∷ []) → ⊥
not_in_app (a_type other sort span sees declares typ) =
    let t = declared_stands declares typ in
    ⊎_elim
    (λ e. let n : 3 ≡ 4 = ap (λ (l : List (List ℕ)). length (get_or l 0 [])) e.1 in omega arith)
    (λ e. let n : 98 ≡ 85 = ap (λ (l : List (List ℕ)). get_or (get_or l 1 []) 0 0) e.1 in omega arith)
    (types (1 ∷ 0 ∷ []) t.stands)
not_in_app (a_package zero rest sees e) = omega (arith, ap length e)
not_in_app (a_package (suc zero) rest sees e) = omega (arith, ap length e)
not_in_app (a_package (suc (suc zero)) rest sees e) = omega (arith, app_sees sees)
not_in_app (a_package (suc (suc (suc n))) rest sees e) = omega (arith, ap length e)

-- so the root decides, which has the package `base`: a visible type is found through it
base_in_root : IsDecisiveScope two 1 (codes "base") (codes "app" ∷ codes "User" ∷ []) []
base_in_root = outward (codes "User") refl not_in_user (outward (codes "app") refl not_in_app (here (a_package 0 [] sees_base refl)))

base_id : IsMeaningOf two 1 (codes "app" ∷ codes "User" ∷ []) (codes "base.Id") (codes "base" ∷ codes "Id" ∷ [])
base_id = relative (codes "base.Id") (codes "base") refl (λ e. cc) base_in_root

id_there : IsVisibleName two 1 (codes "base" ∷ codes "Id" ∷ [])
id_there = a_type 0 a_message (at 30) sees_base (message id (0, omega arith, refl) (of_file 0)) refl

-- the first file doesn't see the second, so `app.User` doesn't exist for it
unseen : IsVisibleName two 0 (codes "app" ∷ codes "User" ∷ []) → ⊥
unseen (a_type other sort span sees declares typ) =
    let t = declared_stands declares typ in
    ⊎_elim
    (λ e. let n : 3 ≡ 4 = ap (λ (l : List (List ℕ)). length (get_or l 0 [])) e.1 in omega arith)
    (λ e.
    let of : IsOfFile two (Message 1) other = subst (λ (q : Symbol). IsOfFile two q other) e.0 t.of in
    let one : other ≡ 1 = of_one of (message_of 1 user refl) in
    omega (arith, base_sees sees))
    (types (1 ∷ 0 ∷ []) t.stands)
unseen (a_package other rest sees e) =
    let f : codes "base" ∷ [] ≡ codes "app" ∷ codes "User" ∷ rest = subst (λ (q : ℕ). package_at two q ≡ codes "app" ∷ codes "User" ∷ rest) (base_sees sees) e in
    omega (arith, ap length f)

-- if the second file sees the third, `app` has `base`, so `app` decides, and there is no `app.base.Id`
abbrev three : Joined
three = files (1 ∷ 0 ∷ 2 ∷ [])

sees_third : CanSee three 1 2
sees_third = record { head = record { «package» = Some (word (codes "app") 108); sees = 1 ∷ 0 ∷ 2 ∷ [] }; at = refl; among = (2, omega arith, refl) }

inner_base : IsMeaningOf three 1 (codes "app" ∷ []) (codes "base.Id") (codes "app" ∷ codes "base" ∷ codes "Id" ∷ [])
inner_base = relative (codes "base.Id") (codes "base") refl (λ e. cc) (here (a_package 2 [] sees_third refl))

leads_nowhere : (sort : DeclKind) → IsVisibleDeclaration three 1 sort (codes "app" ∷ codes "base" ∷ codes "Id" ∷ []) → ⊥
leads_nowhere sort x =
    let t = declared_stands x.declared x.names_type in
    ⊎_elim (λ e. omega (arith, ap length e.1)) (λ e. omega (arith, ap length e.1)) (types (1 ∷ 0 ∷ 2 ∷ []) t.stands)
