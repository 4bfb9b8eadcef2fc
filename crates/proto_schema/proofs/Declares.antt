-- A package, an import, a message, an enum or a service that is declared after all others keeps the order. So does a
-- change that declares nothing.
use Rattle.std.proofs.Common.{◌≡◌, ◌⊎◌, inl, inr, ℕ, zero, suc, ◌-◌, ◌<◌, ◌≤◌, List, [], ◌∷◌, ◌++◌, length, refl, ap, subst, sym, ◌∙◌, arith}
use Rattle.std.specs.Prelude.{Option, Some, None, slice_get}
use Rattle.std.proofs.lemmas.Bool.{cases_lt}
use Rattle.std.proofs.lemmas.Option.{slice_get_within}
use Rattle.proto_ast.specs.Order.{DeclIndex, package_decl, import_decl, message_decl, enum_decl, service_decl, DeclPart, its_name, IsPartSpan, IsAlwaysBefore}
use Rattle.proto_ast.specs.Order
use Rattle.proto_ast.specs.declared.file.Span.{Span}
use Rattle.proto_ast.specs.declared.file.MessageDecl.{MessageDecl}
use Rattle.proto_ast.specs.declared.file.EnumDecl.{EnumDecl}
use Rattle.proto_ast.specs.declared.file.File.{File}
use Rattle.proto_ast.specs.declared.file.Word.{Word}
use Rattle.proto_ast.specs.declared.file.Import.{Import}
use Rattle.proto_ast.specs.declared.file.FieldDecl.{FieldDecl}
use Rattle.proto_ast.specs.declared.file.ValueDecl.{ValueDecl}
use Rattle.proto_ast.specs.declared.file.ServiceDecl.{ServiceDecl}
use Rattle.proto_schema.specs.Files.{edit_at, edit_open, edit_last}
use Rattle.proto_ast.specs.Order.{IsIndexBelow}
use Rattle.proto_schema.proofs.Drafts.{edit_beyond}
use Rattle.proto_schema.proofs.Places.{nothing_at, in_pushed, changed, kept, in_edited_open, in_edited_last}
use Rattle.proto_schema.proofs.Spans.{IsWithin}
use Rattle.proto_schema.proofs.KeptOrder.{Kept, EnumsBehind, kept_adds, InMessages, InEnums, InServices, of_messages}
use Rattle.proto_schema.proofs.KeptOrder.{of_enums, of_services, in_messages, in_enums, in_services, IsName}
use Rattle.proto_schema.proofs.KeptOrder.{adds_name, import_place, message_place, enum_place, service_place}
use Rattle.proto_schema.proofs.KeptOrder.{import_precedes, message_precedes, enum_precedes, service_precedes}
use Rattle.proto_schema.proofs.KeptOrder.{message_in, field_in, oneof_in, enum_in, value_in, service_in, rpc_in}

-- ---- the package, and imports

pub package_old : (F : File) (w : Word) (x : DeclIndex) (p : DeclPart) (s : Span) → IsPartSpan (record F { «package» = Some w }) s x p
    → IsPartSpan F s x p ⊎ ((x ≡ package_decl) × IsName w.span s p)
package_old F w x p s (Order.package_name v e h) =
    let t : ◌≡◌ (Some w) (Some v) = e in let q : w ≡ v = (cc) in inr (refl, (refl, h ∙ ap (λ (w : Word). w.span) (sym q)))
package_old F w x p s (Order.import i y e h) = inl (Order.import i y e h)
package_old F w x p s (Order.message i m e h) = inl (Order.message i m e h)
package_old F w x p s (Order.field i j m f e g h) = inl (Order.field i j m f e g h)
package_old F w x p s (Order.oneof i j m o e g h) = inl (Order.oneof i j m o e g h)
package_old F w x p s (Order.enum i e q h) = inl (Order.enum i e q h)
package_old F w x p s (Order.value i j e v q g h) = inl (Order.value i j e v q g h)
package_old F w x p s (Order.service i y q h) = inl (Order.service i y q h)
package_old F w x p s (Order.rpc i j y r q g h) = inl (Order.rpc i j y r q g h)

pub package_first : {y : DeclIndex} → IsAlwaysBefore package_decl y → ⊥
package_first o = elim o [ ]

pub package_fresh : {F : File} {s : Span} {p : DeclPart} → F.package ≡ None → IsPartSpan F s package_decl p → ⊥
package_fresh n (Order.package_name w e h) = let t : ◌≡◌ None (Some w) = sym n ∙ e in cc

pub kept_package : (F : File) (b c : ℕ) (w : Word) → F.package ≡ None → b ≤ c → IsWithin b c w.span.start → Kept F b
    → Kept (record F { «package» = Some w }) c
kept_package F b c w n l i k =
    kept_adds F (record F { «package» = Some w }) b c package_decl (IsName w.span) k l
    (adds_name w.span F (record F { «package» = Some w }) b c package_decl (package_old F w) (λ y p s o h. package_first o) (λ p s h. package_fresh n h) i)
    k.ordered.enum_after

pub import_old : (F : File) (y : Import) (x : DeclIndex) (p : DeclPart) (s : Span) → IsPartSpan (record F { imports = F.imports ++ y ∷ [] }) s x p
    → IsPartSpan F s x p ⊎ ((x ≡ import_decl (length F.imports)) × IsName y.span s p)
import_old F y x p s (Order.package_name v e h) = inl (Order.package_name v e h)
import_old F y x p s (Order.import i z e h) =
    elim (in_pushed F.imports y i z e) [
      | inl q ↦ inl (Order.import i z q h)
      | inr (l, q) ↦ inr (ap import_decl l, (refl, h ∙ ap (λ (y : Import). y.span) q))
    ]
import_old F y x p s (Order.message i m e h) = inl (Order.message i m e h)
import_old F y x p s (Order.field i j m f e g h) = inl (Order.field i j m f e g h)
import_old F y x p s (Order.oneof i j m o e g h) = inl (Order.oneof i j m o e g h)
import_old F y x p s (Order.enum i e q h) = inl (Order.enum i e q h)
import_old F y x p s (Order.value i j e v q g h) = inl (Order.value i j e v q g h)
import_old F y x p s (Order.service i z q h) = inl (Order.service i z q h)
import_old F y x p s (Order.rpc i j z r q g h) = inl (Order.rpc i j z r q g h)

pub kept_import : (F : File) (b c : ℕ) (y : Import) → b ≤ c → IsWithin b c y.span.start → Kept F b
    → Kept (record F { imports = F.imports ++ y ∷ [] }) c
kept_import F b c y l i k =
    kept_adds F (record F { imports = F.imports ++ y ∷ [] }) b c (import_decl (length F.imports)) (IsName y.span) k l
    (adds_name y.span F (record F { imports = F.imports ++ y ∷ [] }) b c (import_decl (length F.imports)) (import_old F y)
    (λ z p s o h. absurd (let q : length F.imports < length F.imports = import_precedes o h in omega arith))
    (λ p s h. absurd (let q : length F.imports < length F.imports = import_place h in omega arith)) i)
    k.ordered.enum_after

-- ---- a new message, enum or service

abbrev pub new_message : Option ℕ → Word → MessageDecl
new_message parent w = record { name = w; file = 0; parent = parent; fields = []; oneofs = []; ranges = []; names = [] }

pub through : {A B C : Type 0} → (A → C) → A ⊎ B → C ⊎ B
through f (inl a) = inl (f a)
through f (inr b) = inr b

pub in_new_message : (ms : List MessageDecl) (parent : Option ℕ) (w : Word) {s : Span} {x : DeclIndex} {p : DeclPart}
    → InMessages (ms ++ new_message parent w ∷ []) s x p
    → InMessages ms s x p ⊎ ((x ≡ message_decl (length ms)) × IsName w.span s p)
in_new_message ms parent w (message_in i m e h) =
    elim (in_pushed ms (new_message parent w) i m e) [
      | inl q ↦ inl (message_in i m q h)
      | inr (l, q) ↦ inr (ap message_decl l, (refl, h ∙ ap (λ (m : MessageDecl). m.name.span) q))
    ]
in_new_message ms parent w (field_in i j m f e g h) =
    elim (in_pushed ms (new_message parent w) i m e) [
      | inl q ↦ inl (field_in i j m f q g h)
      | inr (l, q) ↦ absurd (nothing_at j f (ap (λ (m : MessageDecl). slice_get m.fields j) (sym q) ∙ g))
    ]
in_new_message ms parent w (oneof_in i j m o e g h) =
    elim (in_pushed ms (new_message parent w) i m e) [
      | inl q ↦ inl (oneof_in i j m o q g h)
      | inr (l, q) ↦ absurd (nothing_at j o (ap (λ (m : MessageDecl). slice_get m.oneofs j) (sym q) ∙ g))
    ]

pub kept_message : (F : File) (b c : ℕ) (parent : Option ℕ) (w : Word)
    → ((j : ℕ) (e : EnumDecl) → slice_get F.enums j ≡ Some e → IsIndexBelow (length F.messages) e.parent) → b ≤ c
    → IsWithin b c w.span.start → Kept F b → Kept (record F { messages = F.messages ++ new_message parent w ∷ [] }) c
kept_message F b c parent w parents l i k =
    kept_adds F G b c X (IsName w.span) k l
    (adds_name w.span F G b c X
    (λ x p s h. elim (in_messages F (F.messages ++ new_message parent w ∷ []) h) [ inl g ↦ inl g | inr g ↦ through (of_messages F) (in_new_message F.messages parent w g) ])
    (λ y p s o h. absurd (let q : length F.messages < length F.messages = message_precedes o h in omega arith))
    (λ p s h. absurd (let q : length F.messages < length F.messages = message_place h in omega arith)) i)
    behind
  where
    X : DeclIndex
    X = message_decl (length F.messages)

    G : File
    G = record F { messages = F.messages ++ new_message parent w ∷ [] }

    behind : EnumsBehind G
    behind n j m e q r t =
        elim (in_pushed F.messages (new_message parent w) n m q) [
          | inl u ↦ k.ordered.enum_after n j m e u r t
          | inr (v, u) ↦ absurd (let a : n < length F.messages = subst (λ (o : Option ℕ). IsIndexBelow (length F.messages) o) t (parents j e r) in omega arith)
        ]

abbrev pub new_enum : Option ℕ → Word → EnumDecl
new_enum parent w = record { name = w; file = 0; parent = parent; values = []; ranges = []; names = [] }

pub in_new_enum : (es : List EnumDecl) (parent : Option ℕ) (w : Word) {s : Span} {x : DeclIndex} {p : DeclPart}
    → InEnums (es ++ new_enum parent w ∷ []) s x p → InEnums es s x p ⊎ ((x ≡ enum_decl (length es)) × IsName w.span s p)
in_new_enum es parent w (enum_in i e q h) =
    elim (in_pushed es (new_enum parent w) i e q) [
      | inl u ↦ inl (enum_in i e u h)
      | inr (l, u) ↦ inr (ap enum_decl l, (refl, h ∙ ap (λ (e : EnumDecl). e.name.span) u))
    ]
in_new_enum es parent w (value_in i j e v q g h) =
    elim (in_pushed es (new_enum parent w) i e q) [
      | inl u ↦ inl (value_in i j e v u g h)
      | inr (l, u) ↦ absurd (nothing_at j v (ap (λ (e : EnumDecl). slice_get e.values j) (sym u) ∙ g))
    ]

pub kept_enum : (F : File) (b c : ℕ) (parent : Option ℕ) (w : Word) → b ≤ c → IsWithin b c w.span.start → Kept F b
    → Kept (record F { enums = F.enums ++ new_enum parent w ∷ [] }) c
kept_enum F b c parent w l i k =
    kept_adds F G b c X (IsName w.span) k l
    (adds_name w.span F G b c X
    (λ x p s h. elim (in_enums F (F.enums ++ new_enum parent w ∷ []) h) [ inl g ↦ inl g | inr g ↦ through (of_enums F) (in_new_enum F.enums parent w g) ])
    (λ y p s o h. absurd (let q : length F.enums < length F.enums = enum_precedes o h in omega arith))
    (λ p s h. absurd (let q : length F.enums < length F.enums = enum_place h in omega arith)) i)
    behind
  where
    X : DeclIndex
    X = enum_decl (length F.enums)

    G : File
    G = record F { enums = F.enums ++ new_enum parent w ∷ [] }

    behind : EnumsBehind G
    behind n j m e q r t =
        elim (in_pushed F.enums (new_enum parent w) j e r) [
          | inl u ↦ k.ordered.enum_after n j m e q u t
          | inr (v, u) ↦ (let a : m.name.span.start < b = k.below (message_decl n) its_name m.name.span (Order.message n m q refl) in
              let d : e.name.span.start ≡ w.span.start = ap (λ (e : EnumDecl). e.name.span.start) u in
              let f : b ≤ w.span.start = i.behind in omega arith)
        ]

abbrev pub new_service : Word → ServiceDecl
new_service w = record { name = w; file = 0; rpcs = [] }

pub in_new_service : (ss : List ServiceDecl) (w : Word) {s : Span} {x : DeclIndex} {p : DeclPart}
    → InServices (ss ++ new_service w ∷ []) s x p → InServices ss s x p ⊎ ((x ≡ service_decl (length ss)) × IsName w.span s p)
in_new_service ss w (service_in i y q h) =
    elim (in_pushed ss (new_service w) i y q) [
      | inl u ↦ inl (service_in i y u h)
      | inr (l, u) ↦ inr (ap service_decl l, (refl, h ∙ ap (λ (y : ServiceDecl). y.name.span) u))
    ]
in_new_service ss w (rpc_in i j y r q g h) =
    elim (in_pushed ss (new_service w) i y q) [
      | inl u ↦ inl (rpc_in i j y r u g h)
      | inr (l, u) ↦ absurd (nothing_at j r (ap (λ (y : ServiceDecl). slice_get y.rpcs j) (sym u) ∙ g))
    ]

pub kept_service : (F : File) (b c : ℕ) (w : Word) → b ≤ c → IsWithin b c w.span.start → Kept F b
    → Kept (record F { services = F.services ++ new_service w ∷ [] }) c
kept_service F b c w l i k =
    kept_adds F G b c X (IsName w.span) k l
    (adds_name w.span F G b c X
    (λ x p s h. elim (in_services F (F.services ++ new_service w ∷ []) h) [ inl g ↦ inl g | inr g ↦ through (of_services F) (in_new_service F.services w g) ])
    (λ y p s o h. absurd (let q : length F.services < length F.services = service_precedes o h in omega arith))
    (λ p s h. absurd (let q : length F.services < length F.services = service_place h in omega arith)) i)
    k.ordered.enum_after
  where
    X : DeclIndex
    X = service_decl (length F.services)

    G : File
    G = record F { services = F.services ++ new_service w ∷ [] }

-- ---- a change of a message, an enum or a service

-- no new declarations
pub kept_back : (F G : File) (b c : ℕ) → b ≤ c
    → ((x : DeclIndex) (p : DeclPart) (s : Span) → IsPartSpan G s x p → IsPartSpan F s x p) → EnumsBehind G → Kept F b → Kept G c
kept_back F G b c l back enums k = record {
  below = λ x p s h. (let q : s.start < b = k.below x p s (back x p s h) in omega arith);
  ordered = record {
    apart = λ x y p q s t h g e. k.ordered.apart x y p q s t (back x p s h) (back y q t g) e;
    ascend = λ x y p q s t o h g. k.ordered.ascend x y p q s t o (back x p s h) (back y q t g);
    parts = λ x p q s t o h g. k.ordered.parts x p q s t o (back x p s h) (back x q t g);
    enum_after = enums;
  };
}

-- a change of one element of a list changes nothing, or the element at an index
pub record IsEdited {X : Type 0} (xs : List X) (at : ℕ → Type 0) : Type 0 where
  pub place : ℕ
  pub item : X
  pub here : at place
  pub is : slice_get xs place ≡ Some item

pub some_at : {X : Type 0} (xs : List X) (i : ℕ) → i < length xs → (x : X) × (slice_get xs i ≡ Some x)
some_at [] i l = absurd (omega arith)
some_at (y ∷ ys) zero l = (y, refl)
some_at (y ∷ ys) (suc i) l = some_at ys i (omega arith)

pub edit_at_cases : {X : Type 0} (n : ℕ) (f : X → X) (xs : List X) → (edit_at n f xs ≡ xs) ⊎ ((x : X) × (slice_get xs n ≡ Some x))
edit_at_cases {X = X} n f xs = by (cases_lt n (length xs))
  where
    by : (n < length xs) ⊎ (length xs ≤ n) → (edit_at n f xs ≡ xs) ⊎ ((x : X) × (slice_get xs n ≡ Some x))
    by (inl l) = inr (some_at xs n l)
    by (inr l) = inl (edit_beyond n f xs l)

pub edit_open_cases : {X : Type 0} (o : Option ℕ) (f : X → X) (xs : List X) → (edit_open o f xs ≡ xs) ⊎ IsEdited xs (λ i. o ≡ Some i)
edit_open_cases None f xs = inl refl
edit_open_cases (Some n) f xs = elim (edit_at_cases n f xs) [ inl e ↦ inl e | inr (x, e) ↦ inr (record { place = n; item = x; here = refl; is = e }) ]

pub edit_last_cases : {X : Type 0} (f : X → X) (xs : List X) → (edit_last f xs ≡ xs) ⊎ IsEdited xs (λ i. suc i ≡ length xs)
edit_last_cases f xs = elim (edit_at_cases (length xs - 1) f xs) [
  | inl e ↦ inl e
  | inr (x, e) ↦ inr (record {
    place = length xs - 1;
    item = x;
    here = (let l : length xs - 1 < length xs = slice_get_within xs (length xs - 1) x e in omega arith);
    is = e;
  })
]

pub enums_behind_edit : (F : File) (o : Option ℕ) (f : MessageDecl → MessageDecl) → ((m : MessageDecl) → (f m).name ≡ m.name)
    → EnumsBehind F → EnumsBehind (record F { messages = edit_open o f F.messages })
enums_behind_edit F o f same k i j m e q r t =
    elim (in_edited_open o f F.messages i m q) [
      | changed y g l u ↦ (let a : y.name.span.start < e.name.span.start = k i j y e g r t in
          let d : m.name.span.start ≡ y.name.span.start = ap (λ (m : MessageDecl). m.name.span.start) u ∙ ap (λ (w : Word). w.span.start) (same y) in omega arith)
      | kept g l ↦ k i j m e g r t
    ]

pub enums_behind_last : (F : File) (f : EnumDecl → EnumDecl) → ((e : EnumDecl) → (f e).name ≡ e.name) → ((e : EnumDecl) → (f e).parent ≡ e.parent)
    → EnumsBehind F → EnumsBehind (record F { enums = edit_last f F.enums })
enums_behind_last F f name parent k i j m e q r t =
    elim (in_edited_last f F.enums j e r) [
      | changed y g l u ↦ (let a : m.name.span.start < y.name.span.start = k i j m y q g (sym (parent y) ∙ (ap (λ (e : EnumDecl). e.parent) (sym u) ∙ t)) in
          let d : e.name.span.start ≡ y.name.span.start = ap (λ (e : EnumDecl). e.name.span.start) u ∙ ap (λ (w : Word). w.span.start) (name y) in omega arith)
      | kept g l ↦ k i j m e q g t
    ]

-- what is unchanged in a message, an enum or a service
pub in_same_message : (o : Option ℕ) (f : MessageDecl → MessageDecl) (ms : List MessageDecl) → ((m : MessageDecl) → (f m).name ≡ m.name)
    → ((m : MessageDecl) → (f m).fields ≡ m.fields) → ((m : MessageDecl) → (f m).oneofs ≡ m.oneofs)
    → {s : Span} {x : DeclIndex} {p : DeclPart} → InMessages (edit_open o f ms) s x p → InMessages ms s x p
in_same_message o f ms a b c (message_in i m e h) =
    elim (in_edited_open o f ms i m e) [
      | changed y g l u ↦ message_in i y g (h ∙ (ap (λ (m : MessageDecl). m.name.span) u ∙ ap (λ (w : Word). w.span) (a y)))
      | kept g l ↦ message_in i m g h
    ]
in_same_message o f ms a b c (field_in i j m z e g h) =
    elim (in_edited_open o f ms i m e) [
      | changed y d l u ↦ field_in i j y z d (ap (λ (fs : List FieldDecl). slice_get fs j) (sym (b y)) ∙ (ap (λ (m : MessageDecl). slice_get m.fields j) (sym u) ∙ g)) h
      | kept d l ↦ field_in i j m z d g h
    ]
in_same_message o f ms a b c (oneof_in i j m z e g h) =
    elim (in_edited_open o f ms i m e) [
      | changed y d l u ↦ oneof_in i j y z d (ap (λ (os : List Word). slice_get os j) (sym (c y)) ∙ (ap (λ (m : MessageDecl). slice_get m.oneofs j) (sym u) ∙ g)) h
      | kept d l ↦ oneof_in i j m z d g h
    ]

pub kept_same_message : (F : File) (b c : ℕ) (o : Option ℕ) (f : MessageDecl → MessageDecl) → ((m : MessageDecl) → (f m).name ≡ m.name)
    → ((m : MessageDecl) → (f m).fields ≡ m.fields) → ((m : MessageDecl) → (f m).oneofs ≡ m.oneofs) → b ≤ c → Kept F b
    → Kept (record F { messages = edit_open o f F.messages }) c
kept_same_message F b c o f x y z l k =
    kept_back F (record F { messages = edit_open o f F.messages }) b c l
    (λ d p s h. elim (in_messages F (edit_open o f F.messages) h) [ inl g ↦ g | inr g ↦ of_messages F (in_same_message o f F.messages x y z g) ])
    (enums_behind_edit F o f x k.ordered.enum_after) k

pub in_same_enum : (f : EnumDecl → EnumDecl) (es : List EnumDecl) → ((e : EnumDecl) → (f e).name ≡ e.name)
    → ((e : EnumDecl) → (f e).values ≡ e.values)
    → {s : Span} {x : DeclIndex} {p : DeclPart} → InEnums (edit_last f es) s x p → InEnums es s x p
in_same_enum f es a b (enum_in i e q h) =
    elim (in_edited_last f es i e q) [
      | changed y g l u ↦ enum_in i y g (h ∙ (ap (λ (e : EnumDecl). e.name.span) u ∙ ap (λ (w : Word). w.span) (a y)))
      | kept g l ↦ enum_in i e g h
    ]
in_same_enum f es a b (value_in i j e v q g h) =
    elim (in_edited_last f es i e q) [
      | changed y d l u ↦ value_in i j y v d (ap (λ (vs : List ValueDecl). slice_get vs j) (sym (b y)) ∙ (ap (λ (e : EnumDecl). slice_get e.values j) (sym u) ∙ g)) h
      | kept d l ↦ value_in i j e v d g h
    ]

pub kept_same_enum : (F : File) (b c : ℕ) (f : EnumDecl → EnumDecl) → ((e : EnumDecl) → (f e).name ≡ e.name)
    → ((e : EnumDecl) → (f e).parent ≡ e.parent) → ((e : EnumDecl) → (f e).values ≡ e.values) → b ≤ c → Kept F b
    → Kept (record F { enums = edit_last f F.enums }) c
kept_same_enum F b c f x y z l k =
    kept_back F (record F { enums = edit_last f F.enums }) b c l
    (λ d p s h. elim (in_enums F (edit_last f F.enums) h) [ inl g ↦ g | inr g ↦ of_enums F (in_same_enum f F.enums x z g) ])
    (enums_behind_last F f x y k.ordered.enum_after) k
