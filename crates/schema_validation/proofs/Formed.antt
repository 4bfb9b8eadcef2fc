-- The invariants of files that were read imply the preconditions of `schema_symbols`.
use Rattle.std.proofs.Common.{◌≡◌, ℕ, ◌<◌, List, length, refl, ap, subst, arith}
use Rattle.std.specs.Prelude.{Option, Some, None, slice_get, Contains}
use Rattle.std.proofs.lemmas.List.Elements.{All-contains}
use Rattle.std.proofs.lemmas.Option.{slice_get_within, get_or_from_slice_get}
use Rattle.proto_ast.specs.declared.file.Span.{Span}
use Rattle.proto_ast.specs.declared.file.MessageDecl.{MessageDecl}
use Rattle.proto_ast.specs.declared.file.EnumDecl.{EnumDecl}
use Rattle.proto_ast.specs.declared.file.ServiceDecl.{ServiceDecl}
use Rattle.proto_ast.specs.Joined.{Joined, enclosing_in, enclosing_of, enclosing_of_enum, package_at}
use Rattle.proto_ast.specs.Order.{IsIndexBelow, its_name}
use Rattle.proto_ast.specs.Together.{IsFormed, IsOrdered, message_decl, enum_decl}
use Rattle.proto_ast.specs.Together
use Rattle.schema_symbols.specs.Scopes.{a_message, an_enum, DeclKind, IsReferenceTo}
use Rattle.schema_symbols.specs.Numbers
use Rattle.schema_symbols.specs.Numbers.{AreWellNested, IsEnclosing, IsSymbolAt, HaveDistinctStarts, IsFirstSymbol}
use Rattle.schema_symbols.specs.Lookups.{IsLookupResult}
use Rattle.schema_symbols.specs.declared.symbol.Symbol.{Symbol}
use Rattle.schema_symbols.specs.declared.symbol.Symbol.TheVariants.{Message, Enum}
use Rattle.schema_validation.specs.Members.{IsNoMessage}

below : (n p : ℕ) (place : Option ℕ) → place ≡ Some p → IsIndexBelow n place → p < n
below n p place e h = subst (IsIndexBelow n) e h

pub stand_behind : (F : Joined) → IsFormed F → AreWellNested F
stand_behind F formed = record {
  messages = λ i p m at e. below i p m.parent e (formed.parents i m at);
  enums = λ x p c e.
      below (length F.messages) p x.parent e
      (All-contains (λ (y : EnumDecl). IsIndexBelow (length F.messages) y.parent) F.enums x formed.enum_parents c);
  message_files = formed.message_files;
  enum_files = formed.enum_files;
}

at_contains : {X : Type 0} (xs : List X) (i : ℕ) (x : X) → slice_get xs i ≡ Some x → Contains xs x
at_contains xs i x at = (i, slice_get_within xs i x at, get_or_from_slice_get xs i x x at)

-- the files of declarations exist
pub message_file : (F : Joined) → IsFormed F → (i : ℕ) (m : MessageDecl) → slice_get F.messages i ≡ Some m
    → m.file < length F.heads
message_file F formed i m at =
    All-contains (λ (y : MessageDecl). y.file < length F.heads) F.messages m formed.message_files
    (at_contains F.messages i m at)

pub enum_file : (F : Joined) → IsFormed F → (i : ℕ) (x : EnumDecl) → slice_get F.enums i ≡ Some x
    → x.file < length F.heads
enum_file F formed i x at =
    All-contains (λ (y : EnumDecl). y.file < length F.heads) F.enums x formed.enum_files (at_contains F.enums i x at)

pub service_file : (F : Joined) → IsFormed F → (i : ℕ) (x : ServiceDecl) → slice_get F.services i ≡ Some x
    → x.file < length F.heads
service_file F formed i x at =
    All-contains (λ (y : ServiceDecl). y.file < length F.heads) F.services x formed.service_files
    (at_contains F.services i x at)

place_at : (F : Joined) (file : ℕ) (parent : Option ℕ) → file < length F.heads
    → ((p : ℕ) → parent ≡ Some p → p < length F.messages) → IsEnclosing F (enclosing_in file parent)
place_at F file None here h = here
place_at F file (Some p) here h = h p refl

-- the file or message that encloses a message or an enum exists
pub message_place : (F : Joined) → AreWellNested F → (i : ℕ) (m : MessageDecl) → slice_get F.messages i ≡ Some m
    → IsEnclosing F (enclosing_of m)
message_place F behind i m at =
    place_at F m.file m.parent
    (All-contains (λ (y : MessageDecl). y.file < length F.heads) F.messages m behind.message_files
    (at_contains F.messages i m at))
    (λ p e.
    let l : p < i = behind.messages i p m at e in
    let w : i < length F.messages = slice_get_within F.messages i m at in
    omega arith)

pub enum_place : (F : Joined) → AreWellNested F → (i : ℕ) (x : EnumDecl) → slice_get F.enums i ≡ Some x
    → IsEnclosing F (enclosing_of_enum x)
enum_place F behind i x at =
    place_at F x.file x.parent
    (All-contains (λ (y : EnumDecl). y.file < length F.heads) F.enums x behind.enum_files (at_contains F.enums i x at))
    (λ p e. behind.enums x p (at_contains F.enums i x at) e)

one_message : (i j : ℕ) → message_decl i ≡ message_decl j → i ≡ j
one_message i j e = cc

one_enum : (i j : ℕ) → enum_decl i ≡ enum_decl j → i ≡ j
one_enum i j e = cc

apart_types : (F : Joined) → IsOrdered F → (a b : Symbol) (f g : List (List ℕ)) (s t : Span) → IsSymbolAt F a f s
    → IsSymbolAt F b g t
    → s.start ≡ t.start → a ≡ b
apart_types F order a b f g s t (Numbers.message i m at h) (Numbers.message j n bt k) e =
    ap Message (one_message i j (order.apart (message_decl i) (message_decl j) its_name its_name s t
    (Together.message i m at refl) (Together.message j n bt refl) e).0)
apart_types F order a b f g s t (Numbers.message i m at h) (Numbers.enum j n bt k) e =
    absurd (let d : message_decl i ≡ enum_decl j = (order.apart (message_decl i) (enum_decl j) its_name its_name s t
    (Together.message i m at refl) (Together.enum j n bt refl) e).0 in cc)
apart_types F order a b f g s t (Numbers.enum i m at h) (Numbers.message j n bt k) e =
    absurd (let d : enum_decl i ≡ message_decl j = (order.apart (enum_decl i) (message_decl j) its_name its_name s t
    (Together.enum i m at refl) (Together.message j n bt refl) e).0 in cc)
apart_types F order a b f g s t (Numbers.enum i m at h) (Numbers.enum j n bt k) e =
    ap Enum (one_enum i j (order.apart (enum_decl i) (enum_decl j) its_name its_name s t
    (Together.enum i m at refl) (Together.enum j n bt refl) e).0)

pub start_apart : (F : Joined) → IsOrdered F → HaveDistinctStarts F
start_apart F order = record { apart = apart_types F order }

-- what the result of a look-up means for an rpc's type
pub message_some : (F : Joined) (file : ℕ) (name : List ℕ) (o : Option Symbol) (i : ℕ) → o ≡ Some (Message i)
    → IsLookupResult F file (package_at F file) name o
    → (full : List (List ℕ)) × IsReferenceTo F file (package_at F file) name a_message full × IsFirstSymbol F file (Message i) full
message_some F file name o i e answer = subst (IsLookupResult F file (package_at F file) name) e answer

pub message_none : (F : Joined) (file : ℕ) (name : List ℕ) (o : Option Symbol) → o ≡ None
    → IsLookupResult F file (package_at F file) name o → IsNoMessage F file (package_at F file) name
message_none F file name o e answer = subst (IsLookupResult F file (package_at F file) name) e answer a_message

abbrev pub OneName : Joined → ℕ → List ℕ → Type 0
OneName F file name = (a b : DeclKind) (f g : List (List ℕ)) → IsReferenceTo F file (package_at F file) name a f
    → IsReferenceTo F file (package_at F file) name b g → a ≡ b

pub message_enum : (F : Joined) (file : ℕ) (name : List ℕ) (o : Option Symbol) (i : ℕ) → o ≡ Some (Enum i)
    → IsLookupResult F file (package_at F file) name o → OneName F file name → IsNoMessage F file (package_at F file) name
message_enum F file name o i e answer one full names =
    let found : (f : List (List ℕ)) × IsReferenceTo F file (package_at F file) name an_enum f × IsFirstSymbol F file (Enum i) f =
    subst (IsLookupResult F file (package_at F file) name) e answer in
    let same : a_message ≡ an_enum = one a_message an_enum full found.0 names found.1 in
    cc
