-- The declarations so far are in the order of the text, and one more declaration after them keeps the order.
use Rattle.std.proofs.Common.{◌≡◌, ◌⊎◌, inl, inr, ℕ, zero, suc, ◌<◌, ◌≤◌, List, length, refl, ap, subst, sym, ◌∙◌, arith}
use Rattle.std.specs.Prelude.{Some, slice_get}
use Rattle.std.proofs.lemmas.Bool.{cases_order}
use Rattle.std.proofs.lemmas.Option.{slice_get_within}
use Rattle.proto_ast.specs.Order.{DeclIndex, import_decl, message_decl, field_decl, oneof_decl, enum_decl}
use Rattle.proto_ast.specs.Order.{value_decl, service_decl, rpc_decl, DeclPart, its_type, its_key, its_value, its_name}
use Rattle.proto_ast.specs.Order.{its_number, its_input, its_output, part_rank, IsOfField, IsOfValue, IsOfRpc}
use Rattle.proto_ast.specs.Order.{IsPartSpan, IsAlwaysBefore, IsOrdered}
use Rattle.proto_ast.specs.Order
use Rattle.proto_ast.specs.declared.file.Span.{Span}
use Rattle.proto_ast.specs.declared.file.MessageDecl.{MessageDecl}
use Rattle.proto_ast.specs.declared.file.EnumDecl.{EnumDecl}
use Rattle.proto_ast.specs.declared.file.File.{File}
use Rattle.proto_ast.specs.declared.file.Word.{Word}
use Rattle.proto_ast.specs.declared.file.FieldDecl.{FieldDecl}
use Rattle.proto_ast.specs.declared.file.ValueDecl.{ValueDecl}
use Rattle.proto_ast.specs.declared.file.RpcDecl.{RpcDecl}
use Rattle.proto_ast.specs.declared.file.ServiceDecl.{ServiceDecl}
use Rattle.proto_schema.proofs.Places.{one_at}
use Rattle.proto_schema.proofs.Spans.{IsWithin}

-- ---- parts by their ranks

abbrev pub part_of : ℕ → DeclPart
part_of zero = its_type
part_of (suc zero) = its_key
part_of (suc (suc zero)) = its_value
part_of (suc (suc (suc zero))) = its_name
part_of (suc (suc (suc (suc zero)))) = its_number
part_of (suc (suc (suc (suc (suc zero))))) = its_input
part_of (suc (suc (suc (suc (suc (suc n)))))) = its_output

pub part_is : (p : DeclPart) → part_of (part_rank p) ≡ p
part_is its_type = refl
part_is its_key = refl
part_is its_value = refl
part_is its_name = refl
part_is its_number = refl
part_is its_input = refl
part_is its_output = refl

pub one_rank : (p q : DeclPart) → part_rank p ≡ part_rank q → p ≡ q
one_rank p q e = sym (part_is p) ∙ (ap part_of e ∙ part_is q)

-- ---- the declarations so far

-- all of them start before b
pub record Kept (F : File) (b : ℕ) : Type 0 where
  pub below : (x : DeclIndex) (p : DeclPart) (s : Span) → IsPartSpan F s x p → s.start < b
  pub ordered : IsOrdered F

pub kept_to : (F : File) (b c : ℕ) → b ≤ c → Kept F b → Kept F c
kept_to F b c l k = record { below = λ x p s h. (let q : s.start < b = k.below x p s h in omega arith); ordered = k.ordered }

-- G has, besides the parts of F, the parts R of the declaration X, all of them from b on and before c
pub record Adds (F G : File) (b c : ℕ) (X : DeclIndex) (R : Span → DeclPart → Type 0) : Type 0 where
  pub old : (x : DeclIndex) (p : DeclPart) (s : Span) → IsPartSpan G s x p → IsPartSpan F s x p ⊎ ((x ≡ X) × R s p)
  pub last : (y : DeclIndex) (p : DeclPart) (s : Span) → IsAlwaysBefore X y → IsPartSpan F s y p → ⊥
  pub fresh : (p : DeclPart) (s : Span) → IsPartSpan F s X p → ⊥
  pub alone : IsAlwaysBefore X X → ⊥
  pub behind : (p : DeclPart) (s : Span) → R s p → b ≤ s.start
  pub before : (p : DeclPart) (s : Span) → R s p → s.start < c
  pub one : (p : DeclPart) (s t : Span) → R s p → R t p → s ≡ t
  pub parts : (p q : DeclPart) (s t : Span) → part_rank p < part_rank q → R s p → R t q → s.start < t.start

abbrev pub EnumsBehind : File → Type 0
EnumsBehind G = (i j : ℕ) (m : MessageDecl) (e : EnumDecl) → slice_get G.messages i ≡ Some m
    → slice_get G.enums j ≡ Some e → e.parent ≡ Some i → m.name.span.start < e.name.span.start

module _ (F G : File) (b c : ℕ) (X : DeclIndex) (R : Span → DeclPart → Type 0) (k : Kept F b) (l : b ≤ c) (a : Adds F G b c X R) where
  adds_below : (x : DeclIndex) (p : DeclPart) (s : Span) → IsPartSpan G s x p → s.start < c
  adds_below x p s h =
      elim (a.old x p s h) [
        | inl g ↦ (let q : s.start < b = k.below x p s g in omega arith)
        | inr (e, r) ↦ a.before p s r
      ]

  new_apart : (p q : DeclPart) (s t : Span) → R s p → R t q → s.start ≡ t.start → (p ≡ q) × (s ≡ t)
  new_apart p q s t r u e = by (cases_order (part_rank p) (part_rank q))
    where
      by : (part_rank p ≡ part_rank q) ⊎ ((part_rank p < part_rank q) ⊎ (part_rank q < part_rank p)) → (p ≡ q) × (s ≡ t)
      by (inl g) = let h : p ≡ q = one_rank p q g in (h, a.one q s t (subst (λ (p : DeclPart). R s p) h r) u)
      by (inr (inl g)) = absurd (let h : s.start < t.start = a.parts p q s t g r u in omega arith)
      by (inr (inr g)) = absurd (let h : t.start < s.start = a.parts q p t s g u r in omega arith)

  adds_apart : (x y : DeclIndex) (p q : DeclPart) (s t : Span) → IsPartSpan G s x p → IsPartSpan G t y q → s.start ≡ t.start
      → (x ≡ y) × (p ≡ q) × (s ≡ t)
  adds_apart x y p q s t h g e = by (a.old x p s h) (a.old y q t g)
    where
      by : IsPartSpan F s x p ⊎ ((x ≡ X) × R s p) → IsPartSpan F t y q ⊎ ((y ≡ X) × R t q) → (x ≡ y) × (p ≡ q) × (s ≡ t)
      by (inl u) (inl v) = k.ordered.apart x y p q s t u v e
      by (inl u) (inr (d, v)) =
          absurd (let m : s.start < b = k.below x p s u in let n : b ≤ t.start = a.behind q t v in omega arith)
      by (inr (d, u)) (inl v) =
          absurd (let m : t.start < b = k.below y q t v in let n : b ≤ s.start = a.behind p s u in omega arith)
      by (inr (d, u)) (inr (f, v)) = let (m, n) = new_apart p q s t u v e in (d ∙ sym f, m, n)

  adds_ascend : (x y : DeclIndex) (p q : DeclPart) (s t : Span) → IsAlwaysBefore x y → IsPartSpan G s x p → IsPartSpan G t y q
      → s.start < t.start
  adds_ascend x y p q s t o h g = by (a.old x p s h) (a.old y q t g)
    where
      by : IsPartSpan F s x p ⊎ ((x ≡ X) × R s p) → IsPartSpan F t y q ⊎ ((y ≡ X) × R t q) → s.start < t.start
      by (inl u) (inl v) = k.ordered.ascend x y p q s t o u v
      by (inl u) (inr (d, v)) = let m : s.start < b = k.below x p s u in let n : b ≤ t.start = a.behind q t v in omega arith
      by (inr (d, u)) (inl v) = absurd (a.last y q t (subst (λ (x : DeclIndex). IsAlwaysBefore x y) d o) v)
      by (inr (d, u)) (inr (f, v)) =
          absurd (a.alone (subst (λ (x : DeclIndex). IsAlwaysBefore x X) d (subst (λ (y : DeclIndex). IsAlwaysBefore x y) f o)))

  adds_parts : (x : DeclIndex) (p q : DeclPart) (s t : Span) → part_rank p < part_rank q
      → IsPartSpan G s x p → IsPartSpan G t x q → s.start < t.start
  adds_parts x p q s t o h g = by (a.old x p s h) (a.old x q t g)
    where
      by : IsPartSpan F s x p ⊎ ((x ≡ X) × R s p) → IsPartSpan F t x q ⊎ ((x ≡ X) × R t q) → s.start < t.start
      by (inl u) (inl v) = k.ordered.parts x p q s t o u v
      by (inl u) (inr (d, v)) = absurd (a.fresh p s (subst (λ (x : DeclIndex). IsPartSpan F s x p) d u))
      by (inr (d, u)) (inl v) = absurd (a.fresh q t (subst (λ (x : DeclIndex). IsPartSpan F t x q) d v))
      by (inr (d, u)) (inr (f, v)) = a.parts p q s t o u v

pub kept_adds : (F G : File) (b c : ℕ) (X : DeclIndex) (R : Span → DeclPart → Type 0) → Kept F b → b ≤ c → Adds F G b c X R
    → EnumsBehind G → Kept G c
kept_adds F G b c X R k l a enums = record {
  below = adds_below F G b c X R k l a;
  ordered = record {
    apart = adds_apart F G b c X R k l a;
    ascend = adds_ascend F G b c X R k l a;
    parts = adds_parts F G b c X R k l a;
    enum_after = enums;
  };
}

-- ---- the names and numbers of messages, enums and services

pub data InMessages (ms : List MessageDecl) (s : Span) : DeclIndex → DeclPart → Type 0 where
  message_in : (i : ℕ) (m : MessageDecl) → slice_get ms i ≡ Some m → s ≡ m.name.span → InMessages ms s (message_decl i) its_name
  field_in : (i j : ℕ) (m : MessageDecl) (f : FieldDecl) {p : DeclPart} → slice_get ms i ≡ Some m → slice_get m.fields j ≡ Some f
      → IsOfField f s p → InMessages ms s (field_decl i j) p
  oneof_in : (i j : ℕ) (m : MessageDecl) (o : Word) → slice_get ms i ≡ Some m → slice_get m.oneofs j ≡ Some o → s ≡ o.span
      → InMessages ms s (oneof_decl i j) its_name

pub data InEnums (es : List EnumDecl) (s : Span) : DeclIndex → DeclPart → Type 0 where
  enum_in : (i : ℕ) (e : EnumDecl) → slice_get es i ≡ Some e → s ≡ e.name.span → InEnums es s (enum_decl i) its_name
  value_in : (i j : ℕ) (e : EnumDecl) (v : ValueDecl) {p : DeclPart} → slice_get es i ≡ Some e → slice_get e.values j ≡ Some v
      → IsOfValue v s p → InEnums es s (value_decl i j) p

pub data InServices (ss : List ServiceDecl) (s : Span) : DeclIndex → DeclPart → Type 0 where
  service_in : (i : ℕ) (x : ServiceDecl) → slice_get ss i ≡ Some x → s ≡ x.name.span → InServices ss s (service_decl i) its_name
  rpc_in : (i j : ℕ) (x : ServiceDecl) (r : RpcDecl) {p : DeclPart} → slice_get ss i ≡ Some x → slice_get x.rpcs j ≡ Some r
      → IsOfRpc r s p → InServices ss s (rpc_decl i j) p

pub of_messages : (F : File) {s : Span} {x : DeclIndex} {p : DeclPart} → InMessages F.messages s x p → IsPartSpan F s x p
of_messages F (message_in i m e h) = Order.message i m e h
of_messages F (field_in i j m f e g h) = Order.field i j m f e g h
of_messages F (oneof_in i j m o e g h) = Order.oneof i j m o e g h

pub of_enums : (F : File) {s : Span} {x : DeclIndex} {p : DeclPart} → InEnums F.enums s x p → IsPartSpan F s x p
of_enums F (enum_in i e q h) = Order.enum i e q h
of_enums F (value_in i j e v q g h) = Order.value i j e v q g h

pub of_services : (F : File) {s : Span} {x : DeclIndex} {p : DeclPart} → InServices F.services s x p → IsPartSpan F s x p
of_services F (service_in i x q h) = Order.service i x q h
of_services F (rpc_in i j x r q g h) = Order.rpc i j x r q g h

-- one of the lists is replaced
pub in_messages : (F : File) (ms : List MessageDecl) {s : Span} {x : DeclIndex} {p : DeclPart}
    → IsPartSpan (record F { messages = ms }) s x p → IsPartSpan F s x p ⊎ InMessages ms s x p
in_messages F ms (Order.package_name w e h) = inl (Order.package_name w e h)
in_messages F ms (Order.import i x e h) = inl (Order.import i x e h)
in_messages F ms (Order.message i m e h) = inr (message_in i m e h)
in_messages F ms (Order.field i j m f e g h) = inr (field_in i j m f e g h)
in_messages F ms (Order.oneof i j m o e g h) = inr (oneof_in i j m o e g h)
in_messages F ms (Order.enum i e q h) = inl (Order.enum i e q h)
in_messages F ms (Order.value i j e v q g h) = inl (Order.value i j e v q g h)
in_messages F ms (Order.service i x q h) = inl (Order.service i x q h)
in_messages F ms (Order.rpc i j x r q g h) = inl (Order.rpc i j x r q g h)

pub in_enums : (F : File) (es : List EnumDecl) {s : Span} {x : DeclIndex} {p : DeclPart}
    → IsPartSpan (record F { enums = es }) s x p → IsPartSpan F s x p ⊎ InEnums es s x p
in_enums F es (Order.package_name w e h) = inl (Order.package_name w e h)
in_enums F es (Order.import i x e h) = inl (Order.import i x e h)
in_enums F es (Order.message i m e h) = inl (Order.message i m e h)
in_enums F es (Order.field i j m f e g h) = inl (Order.field i j m f e g h)
in_enums F es (Order.oneof i j m o e g h) = inl (Order.oneof i j m o e g h)
in_enums F es (Order.enum i e q h) = inr (enum_in i e q h)
in_enums F es (Order.value i j e v q g h) = inr (value_in i j e v q g h)
in_enums F es (Order.service i x q h) = inl (Order.service i x q h)
in_enums F es (Order.rpc i j x r q g h) = inl (Order.rpc i j x r q g h)

pub in_services : (F : File) (ss : List ServiceDecl) {s : Span} {x : DeclIndex} {p : DeclPart}
    → IsPartSpan (record F { services = ss }) s x p → IsPartSpan F s x p ⊎ InServices ss s x p
in_services F ss (Order.package_name w e h) = inl (Order.package_name w e h)
in_services F ss (Order.import i x e h) = inl (Order.import i x e h)
in_services F ss (Order.message i m e h) = inl (Order.message i m e h)
in_services F ss (Order.field i j m f e g h) = inl (Order.field i j m f e g h)
in_services F ss (Order.oneof i j m o e g h) = inl (Order.oneof i j m o e g h)
in_services F ss (Order.enum i e q h) = inl (Order.enum i e q h)
in_services F ss (Order.value i j e v q g h) = inl (Order.value i j e v q g h)
in_services F ss (Order.service i x q h) = inr (service_in i x q h)
in_services F ss (Order.rpc i j x r q g h) = inr (rpc_in i j x r q g h)

-- ---- nothing precedes itself

pub precedes_other : {x y : DeclIndex} → IsAlwaysBefore x y → x ≡ y → ⊥
precedes_other (Order.imports i j l) e = let t : import_decl i ≡ import_decl j = e in let q : i ≡ j = (cc) in omega arith
precedes_other (Order.messages i j l) e = let t : message_decl i ≡ message_decl j = e in let q : i ≡ j = (cc) in omega arith
precedes_other (Order.enums i j l) e = let t : enum_decl i ≡ enum_decl j = e in let q : i ≡ j = (cc) in omega arith
precedes_other (Order.services i j l) e = let t : service_decl i ≡ service_decl j = e in let q : i ≡ j = (cc) in omega arith
precedes_other (Order.fields i j k l) e = let t : field_decl i j ≡ field_decl i k = e in let q : j ≡ k = (cc) in omega arith
precedes_other (Order.oneofs i j k l) e = let t : oneof_decl i j ≡ oneof_decl i k = e in let q : j ≡ k = (cc) in omega arith
precedes_other (Order.values i j k l) e = let t : value_decl i j ≡ value_decl i k = e in let q : j ≡ k = (cc) in omega arith
precedes_other (Order.rpcs i j k l) e = let t : rpc_decl i j ≡ rpc_decl i k = e in let q : j ≡ k = (cc) in omega arith
precedes_other (Order.in_message i j) e = let t : message_decl i ≡ field_decl i j = e in cc
precedes_other (Order.oneof_in_message i j) e = let t : message_decl i ≡ oneof_decl i j = e in cc
precedes_other (Order.in_enum i j) e = let t : enum_decl i ≡ value_decl i j = e in cc
precedes_other (Order.in_service i j) e = let t : service_decl i ≡ rpc_decl i j = e in cc

pub precedes_itself : (x : DeclIndex) → IsAlwaysBefore x x → ⊥
precedes_itself x o = precedes_other o refl

-- ---- one name

-- a declaration whose only part is a name
abbrev pub IsName : Span → Span → DeclPart → Type 0
IsName name s p = (p ≡ its_name) × (s ≡ name)

module _ (name : Span) where
  one_name : (p : DeclPart) (s t : Span) → IsName name s p → IsName name t p → s ≡ t
  one_name p s t (a, b) (c, d) = b ∙ sym d

  name_parts : (p q : DeclPart) (s t : Span) → part_rank p < part_rank q → IsName name s p → IsName name t q → s.start < t.start
  name_parts p q s t l (a, b) (c, d) =
      absurd (let u : part_rank p ≡ 3 = ap part_rank a in let v : part_rank q ≡ 3 = ap part_rank c in omega arith)

  name_behind : (b c : ℕ) → IsWithin b c name.start → (p : DeclPart) (s : Span) → IsName name s p → b ≤ s.start
  name_behind b c w p s (e, q) = subst (λ (s : Span). b ≤ s.start) (sym q) w.behind

  name_before : (b c : ℕ) → IsWithin b c name.start → (p : DeclPart) (s : Span) → IsName name s p → s.start < c
  name_before b c w p s (e, q) = subst (λ (s : Span). s.start < c) (sym q) w.before

  pub adds_name : (F G : File) (b c : ℕ) (X : DeclIndex)
      → ((x : DeclIndex) (p : DeclPart) (s : Span) → IsPartSpan G s x p → IsPartSpan F s x p ⊎ ((x ≡ X) × IsName name s p))
      → ((y : DeclIndex) (p : DeclPart) (s : Span) → IsAlwaysBefore X y → IsPartSpan F s y p → ⊥)
      → ((p : DeclPart) (s : Span) → IsPartSpan F s X p → ⊥) → IsWithin b c name.start → Adds F G b c X (IsName name)
  adds_name F G b c X old last fresh w = record {
    old = old;
    last = last;
    fresh = fresh;
    alone = precedes_itself X;
    behind = name_behind b c w;
    before = name_before b c w;
    one = one_name;
    parts = name_parts;
  }

-- ---- the declarations of a file

pub import_place : {F : File} {s : Span} {p : DeclPart} {n : ℕ} → IsPartSpan F s (import_decl n) p → n < length F.imports
import_place {F = F} (Order.import i x e h) = slice_get_within F.imports i x e

pub message_place : {F : File} {s : Span} {p : DeclPart} {n : ℕ} → IsPartSpan F s (message_decl n) p → n < length F.messages
message_place {F = F} (Order.message i m e h) = slice_get_within F.messages i m e

pub enum_place : {F : File} {s : Span} {p : DeclPart} {n : ℕ} → IsPartSpan F s (enum_decl n) p → n < length F.enums
enum_place {F = F} (Order.enum i e q h) = slice_get_within F.enums i e q

pub service_place : {F : File} {s : Span} {p : DeclPart} {n : ℕ} → IsPartSpan F s (service_decl n) p → n < length F.services
service_place {F = F} (Order.service i x q h) = slice_get_within F.services i x q

-- the i-th element of the first list has an n-th item
pub record HasPlace {X Y : Type 0} (xs : List X) (ys : X → List Y) (i n : ℕ) : Type 0 where
  pub item : X
  pub is : slice_get xs i ≡ Some item
  pub below : n < length (ys item)

pub has_place : {X Y : Type 0} (xs : List X) (ys : X → List Y) (i n : ℕ) (x : X) (y : Y) → slice_get xs i ≡ Some x
    → slice_get (ys x) n ≡ Some y → HasPlace xs ys i n
has_place xs ys i n x y e g = record { item = x; is = e; below = slice_get_within (ys x) n y g }

-- it has none if the list is shorter
pub no_place : {X Y : Type 0} (xs : List X) (ys : X → List Y) (i n : ℕ) (x : X) → slice_get xs i ≡ Some x → length (ys x) ≤ n
    → HasPlace xs ys i n → ⊥
no_place xs ys i n x e l h =
    let q : x ≡ h.item = one_at xs i x h.item e h.is in
    let b : n < length (ys h.item) = h.below in
    let r : length (ys x) ≡ length (ys h.item) = ap (λ x. length (ys x)) q in
    omega arith

pub field_place : {F : File} {s : Span} {p : DeclPart} {i n : ℕ} → IsPartSpan F s (field_decl i n) p
    → HasPlace F.messages (λ m. m.fields) i n
field_place {F = F} (Order.field i j m f e g h) = has_place F.messages (λ m. m.fields) i j m f e g

pub oneof_place : {F : File} {s : Span} {p : DeclPart} {i n : ℕ} → IsPartSpan F s (oneof_decl i n) p
    → HasPlace F.messages (λ m. m.oneofs) i n
oneof_place {F = F} (Order.oneof i j m o e g h) = has_place F.messages (λ m. m.oneofs) i j m o e g

pub value_place : {F : File} {s : Span} {p : DeclPart} {i n : ℕ} → IsPartSpan F s (value_decl i n) p
    → HasPlace F.enums (λ e. e.values) i n
value_place {F = F} (Order.value i j e v q g h) = has_place F.enums (λ e. e.values) i j e v q g

pub rpc_place : {F : File} {s : Span} {p : DeclPart} {i n : ℕ} → IsPartSpan F s (rpc_decl i n) p
    → HasPlace F.services (λ x. x.rpcs) i n
rpc_place {F = F} (Order.rpc i j x r q g h) = has_place F.services (λ x. x.rpcs) i j x r q g

-- if a declaration precedes one that a file has, its indices are within the lists of the file
pub import_precedes : {F : File} {s : Span} {p : DeclPart} {n : ℕ} {y : DeclIndex} → IsAlwaysBefore (import_decl n) y → IsPartSpan F s y p
    → n < length F.imports
import_precedes {F = F} (Order.imports i j l) h = let q : j < length F.imports = import_place h in omega arith

pub message_precedes : {F : File} {s : Span} {p : DeclPart} {n : ℕ} {y : DeclIndex} → IsAlwaysBefore (message_decl n) y → IsPartSpan F s y p
    → n < length F.messages
message_precedes {F = F} (Order.messages i j l) h = let q : j < length F.messages = message_place h in omega arith
message_precedes {F = F} (Order.in_message i j) h =
    let q : HasPlace F.messages (λ m. m.fields) i j = field_place h in slice_get_within F.messages i q.item q.is
message_precedes {F = F} (Order.oneof_in_message i j) h =
    let q : HasPlace F.messages (λ m. m.oneofs) i j = oneof_place h in slice_get_within F.messages i q.item q.is

pub enum_precedes : {F : File} {s : Span} {p : DeclPart} {n : ℕ} {y : DeclIndex} → IsAlwaysBefore (enum_decl n) y → IsPartSpan F s y p
    → n < length F.enums
enum_precedes {F = F} (Order.enums i j l) h = let q : j < length F.enums = enum_place h in omega arith
enum_precedes {F = F} (Order.in_enum i j) h =
    let q : HasPlace F.enums (λ e. e.values) i j = value_place h in slice_get_within F.enums i q.item q.is

pub service_precedes : {F : File} {s : Span} {p : DeclPart} {n : ℕ} {y : DeclIndex} → IsAlwaysBefore (service_decl n) y → IsPartSpan F s y p
    → n < length F.services
service_precedes {F = F} (Order.services i j l) h = let q : j < length F.services = service_place h in omega arith
service_precedes {F = F} (Order.in_service i j) h =
    let q : HasPlace F.services (λ x. x.rpcs) i j = rpc_place h in slice_get_within F.services i q.item q.is

pub place_before : {X Y : Type 0} {xs : List X} {ys : X → List Y} {i n k : ℕ} → n < k → HasPlace xs ys i k → HasPlace xs ys i n
place_before l h = record { item = h.item; is = h.is; below = (let b = h.below in omega (arith, h.below)) }

pub field_precedes : {F : File} {s : Span} {p : DeclPart} {i n : ℕ} {y : DeclIndex} → IsAlwaysBefore (field_decl i n) y → IsPartSpan F s y p
    → HasPlace F.messages (λ m. m.fields) i n
field_precedes (Order.fields i j k l) h = place_before l (field_place h)

pub oneof_precedes : {F : File} {s : Span} {p : DeclPart} {i n : ℕ} {y : DeclIndex} → IsAlwaysBefore (oneof_decl i n) y → IsPartSpan F s y p
    → HasPlace F.messages (λ m. m.oneofs) i n
oneof_precedes (Order.oneofs i j k l) h = place_before l (oneof_place h)

pub value_precedes : {F : File} {s : Span} {p : DeclPart} {i n : ℕ} {y : DeclIndex} → IsAlwaysBefore (value_decl i n) y → IsPartSpan F s y p
    → HasPlace F.enums (λ e. e.values) i n
value_precedes (Order.values i j k l) h = place_before l (value_place h)

pub rpc_precedes : {F : File} {s : Span} {p : DeclPart} {i n : ℕ} {y : DeclIndex} → IsAlwaysBefore (rpc_decl i n) y → IsPartSpan F s y p
    → HasPlace F.services (λ x. x.rpcs) i n
rpc_precedes (Order.rpcs i j k l) h = place_before l (rpc_place h)
