-- A file that was read, as one that is resolved alone: each of its declarations is of the file with index 0, and the
-- invariants of `Order` imply those of `Together`.
use Rattle.std.proofs.Common.{◌≡◌, inl, inr, ℕ, zero, suc, ◌<◌, List, [], ◌∷◌, ◌++◌, refl, ap, subst, sym, ◌∙◌, arith}
use Rattle.std.specs.Prelude.{Option, Some, slice_get, Contains}
use Rattle.std.proofs.lemmas.Option.{slice_get-get_or}
use Rattle.proto_grammar.specs.Lexemes.{Lexeme}
use Rattle.proto_schema.specs.Files
use Rattle.proto_schema.specs.Files.{Draft, IsStatement, AreStatementsOf, AreFileTokens, IsBlockEnd, initial_draft, edit_open, edit_last, innermost_of}
use Rattle.proto_schema.specs.Faults.{IsProtoTextOf}
use Rattle.proto_ast.specs.Joined.{alone}
use Rattle.proto_ast.specs.Order
use Rattle.proto_ast.specs.Together
use Rattle.proto_ast.specs.Together.{DeclIndex, IsPartSpan, package_decl, message_decl, field_decl, oneof_decl, enum_decl, value_decl, service_decl, rpc_decl}
use Rattle.proto_ast.specs.declared.file.Span.{Span}
use Rattle.proto_ast.specs.declared.file.MessageDecl.{MessageDecl}
use Rattle.proto_ast.specs.declared.file.EnumDecl.{EnumDecl}
use Rattle.proto_ast.specs.declared.file.ServiceDecl.{ServiceDecl}
use Rattle.proto_ast.specs.declared.file.File.{File}
use Rattle.proto_ast.specs.declared.joined.Head.{Head}
use Rattle.proto_schema.proofs.Places.{nothing_at, all_by_place, contained, in_pushed, changed, kept, in_edited_open, in_edited_last}
use Rattle.proto_schema.proofs.Formed.{well_formed}
use Rattle.proto_schema.proofs.Ordered.{in_order}

-- ---- each declaration is of the file with index 0

record IsAtZero (F : File) : Type 0 where
  pub messages : (i : ℕ) (m : MessageDecl) → slice_get F.messages i ≡ Some m → m.file ≡ 0
  pub enums : (i : ℕ) (e : EnumDecl) → slice_get F.enums i ≡ Some e → e.file ≡ 0
  pub services : (i : ℕ) (s : ServiceDecl) → slice_get F.services i ≡ Some s → s.file ≡ 0

zero_message : (F : File) (m : MessageDecl) → m.file ≡ 0 → IsAtZero F → IsAtZero (record F { messages = F.messages ++ m ∷ [] })
zero_message F m z k = record {
  messages = λ i x h. elim (in_pushed F.messages m i x h) [
    | inl e ↦ k.messages i x e
    | inr (l, e) ↦ ap (λ (m : MessageDecl). m.file) e ∙ z
  ];
  enums = k.enums;
  services = k.services;
}

zero_enum : (F : File) (e : EnumDecl) → e.file ≡ 0 → IsAtZero F → IsAtZero (record F { enums = F.enums ++ e ∷ [] })
zero_enum F e z k = record {
  messages = k.messages;
  enums = λ i x h. elim (in_pushed F.enums e i x h) [
    | inl q ↦ k.enums i x q
    | inr (l, q) ↦ ap (λ (e : EnumDecl). e.file) q ∙ z
  ];
  services = k.services;
}

zero_service : (F : File) (s : ServiceDecl) → s.file ≡ 0 → IsAtZero F → IsAtZero (record F { services = F.services ++ s ∷ [] })
zero_service F s z k = record {
  messages = k.messages;
  enums = k.enums;
  services = λ i x h. elim (in_pushed F.services s i x h) [
    | inl q ↦ k.services i x q
    | inr (l, q) ↦ ap (λ (s : ServiceDecl). s.file) q ∙ z
  ];
}

-- a change that keeps the file of the message
zero_in_message : (F : File) (o : Option ℕ) (f : MessageDecl → MessageDecl) → ((m : MessageDecl) → (f m).file ≡ m.file) → IsAtZero F
    → IsAtZero (record F { messages = edit_open o f F.messages })
zero_in_message F o f same k = record {
  messages = λ i m h. elim (in_edited_open o f F.messages i m h) [
    | changed y g l u ↦ ap (λ (m : MessageDecl). m.file) u ∙ (same y ∙ k.messages i y g)
    | kept g l ↦ k.messages i m g
  ];
  enums = k.enums;
  services = k.services;
}

zero_in_enum : (F : File) (f : EnumDecl → EnumDecl) → ((e : EnumDecl) → (f e).file ≡ e.file) → IsAtZero F
    → IsAtZero (record F { enums = edit_last f F.enums })
zero_in_enum F f same k = record {
  messages = k.messages;
  enums = λ i e h. elim (in_edited_last f F.enums i e h) [
    | changed y g l u ↦ ap (λ (e : EnumDecl). e.file) u ∙ (same y ∙ k.enums i y g)
    | kept g l ↦ k.enums i e g
  ];
  services = k.services;
}

zero_in_service : (F : File) (f : ServiceDecl → ServiceDecl) → ((s : ServiceDecl) → (f s).file ≡ s.file) → IsAtZero F
    → IsAtZero (record F { services = edit_last f F.services })
zero_in_service F f same k = record {
  messages = k.messages;
  enums = k.enums;
  services = λ i s h. elim (in_edited_last f F.services i s h) [
    | changed y g l u ↦ ap (λ (s : ServiceDecl). s.file) u ∙ (same y ∙ k.services i y g)
    | kept g l ↦ k.services i s g
  ];
}

zero_close : (d : Draft) {other : Draft} → IsBlockEnd d other → IsAtZero d.file → IsAtZero other.file
zero_close d (Files.message_ends i is b e) k = k
zero_close d (Files.oneof_ends i b) k = k
zero_close d (Files.enum_ends b) k = k
zero_close d (Files.service_ends b) k = k
zero_close d (Files.rpc_ends b) k = k

zero_statement : (d : Draft) {all : List Lexeme} {other : Draft} → IsStatement d all other → IsAtZero d.file → IsAtZero other.file
zero_statement d (Files.package_name x z i n hx f hz a) k = record { messages = k.messages; enums = k.enums; services = k.services }
zero_statement d (Files.import x y z path i hx hy hz a) k = record { messages = k.messages; enums = k.enums; services = k.services }
zero_statement d (Files.public_import x p y z path i hx hp hy hz a) k = record { messages = k.messages; enums = k.enums; services = k.services }
zero_statement d (Files.option x z hx o hz a) k = k
zero_statement d (Files.empty x i hx a) k = k
zero_statement d (Files.message x y z name i hx hy hz a) k = zero_message d.file _ refl k
zero_statement d (Files.enum x y z name i hx hy hz a) k = zero_enum d.file _ refl k
zero_statement d (Files.service x y z name i hx hy hz a) k = zero_service d.file _ refl k
zero_statement d (Files.oneof x y z name i hx hy hz a) k = zero_in_message d.file (innermost_of d.messages) _ (λ m. refl) k
zero_statement d (Files.a_field i l t f a) k = zero_in_message d.file (innermost_of d.messages) _ (λ m. refl) k
zero_statement d (Files.member i filled q t f a) k = zero_in_message d.file (innermost_of d.messages) _ (λ m. refl) k
zero_statement d (Files.reserved_numbers x z i hx r hz a) k = zero_in_message d.file (innermost_of d.messages) _ (λ m. refl) k
zero_statement d (Files.reserved_names x z i hx r hz a) k = zero_in_message d.file (innermost_of d.messages) _ (λ m. refl) k
zero_statement d (Files.reserved_values x z filled q hx r hz a) k = zero_in_enum d.file _ (λ e. refl) k
zero_statement d (Files.reserved_value_names x z filled q hx r hz a) k = zero_in_enum d.file _ (λ e. refl) k
zero_statement d (Files.value x y z name filled q hx w hy n o hz a) k = zero_in_enum d.file _ (λ e. refl) k
zero_statement d (Files.rpc z q f hz a) k = zero_in_service d.file _ (λ s. refl) k
zero_statement d (Files.rpc_with_options z q f hz a) k = zero_in_service d.file _ (λ s. refl) k
zero_statement d (Files.close x hx a c) k = zero_close d c k

nothing_zero : IsAtZero initial_draft.file
nothing_zero = record {
  messages = λ i m e. absurd (nothing_at i m e);
  enums = λ i e q. absurd (nothing_at i e q);
  services = λ i s e. absurd (nothing_at i s e);
}

zero_so_far : {xs : List Lexeme} {d : Draft} → AreStatementsOf xs d → IsAtZero d.file
zero_so_far (Files.start x) = nothing_zero
zero_so_far (Files.another {c = c} x y a) = zero_statement c y (zero_so_far x)

zero_file : {xs : List Lexeme} {F : File} → AreFileTokens xs F → IsAtZero F
zero_file (Files.whole x s w m a) = zero_so_far s

at_zero : (text : List ℕ) (F : File) → IsProtoTextOf text F → IsAtZero F
at_zero text F h = zero_file h.reads

-- ---- indices and forms of names

-- the only element of a list with one element
one_place : {X : Type 0} (x y : X) (k : ℕ) → slice_get (x ∷ []) k ≡ Some y → k ≡ 0
one_place x y zero e = refl
one_place x y (suc k) e = absurd (nothing_at k y e)

one_item : {X : Type 0} (x y : X) (k : ℕ) → slice_get (x ∷ []) k ≡ Some y → x ≡ y
one_item x y zero e = let t : ◌≡◌ (Some x) (Some y) = e in cc
one_item x y (suc k) e = absurd (nothing_at k y e)

-- an element of a list, by its index
at_place : {X : Type 0} (xs : List X) (x : X) → Contains xs x → (i : ℕ) × (slice_get xs i ≡ Some x)
at_place xs x (i, l, e) = (i, slice_get-get_or xs i x l ∙ ap Some e)

abbrev head_of : File → Head
head_of F = record { «package» = F.package; sees = 0 ∷ [] }

formed_head : (F : File) → Order.IsFormed F → (k : ℕ) (h : Head) → k ≡ 0 → head_of F ≡ h → Together.IsFormedHead 1 k h
formed_head F f k h z e =
    subst (λ (h : Head). Together.IsFormedHead 1 k h) e
    (subst (λ (k : ℕ). Together.IsFormedHead 1 k (head_of F)) (sym z)
    (record {
      package_name = f.package_name;
      itself = contained (0 ∷ []) 0 0 refl;
      there = all_by_place (λ j. j < 1) (0 ∷ []) (λ i j q. let t : 0 ≡ j = one_item 0 j i q in omega arith);
    }))

formed_alone : (F : File) → IsAtZero F → Order.IsFormed F → Together.IsFormed (alone F)
formed_alone F z f = record {
  heads = λ k h e. formed_head F f k h (one_place (head_of F) h k e) (one_item (head_of F) h k e);
  messages = f.messages;
  enums = f.enums;
  services = f.services;
  parents = f.parents;
  enum_parents = f.enum_parents;
  message_files = all_by_place (λ m. m.file < 1) F.messages (λ i m e. let q : m.file ≡ 0 = z.messages i m e in omega arith);
  enum_files = all_by_place (λ e. e.file < 1) F.enums (λ i e h. let q : e.file ≡ 0 = z.enums i e h in omega arith);
  service_files = all_by_place (λ s. s.file < 1) F.services (λ i s e. let q : s.file ≡ 0 = z.services i s e in omega arith);
  nested = λ i m outer c p e. (let (j, h) = at_place F.messages m c in z.messages j m h) ∙ sym (z.messages i outer e);
  nested_enums = λ i c outer h p e. (let (j, q) = at_place F.enums c h in z.enums j c q) ∙ sym (z.messages i outer e);
}

-- ---- names and numbers

-- the declaration in a file by itself, and back
abbrev by_itself : DeclIndex → Order.DeclIndex
by_itself (package_decl k) = Order.package_decl
by_itself (message_decl i) = Order.message_decl i
by_itself (field_decl i j) = Order.field_decl i j
by_itself (oneof_decl i j) = Order.oneof_decl i j
by_itself (enum_decl i) = Order.enum_decl i
by_itself (value_decl i j) = Order.value_decl i j
by_itself (service_decl i) = Order.service_decl i
by_itself (rpc_decl i j) = Order.rpc_decl i j

abbrev back : Order.DeclIndex → DeclIndex
back Order.package_decl = package_decl 0
back (Order.import_decl i) = package_decl 0
back (Order.message_decl i) = message_decl i
back (Order.field_decl i j) = field_decl i j
back (Order.oneof_decl i j) = oneof_decl i j
back (Order.enum_decl i) = enum_decl i
back (Order.value_decl i j) = value_decl i j
back (Order.service_decl i) = service_decl i
back (Order.rpc_decl i j) = rpc_decl i j

package_at_zero : (F : File) {s : Span} {k : ℕ} {p : Order.DeclPart} → IsPartSpan (alone F) s (package_decl k) p → k ≡ 0
package_at_zero F (Together.package_name k h w e q u) = one_place (head_of F) h k e

there_and_back : (F : File) {s : Span} {p : Order.DeclPart} (x : DeclIndex) → IsPartSpan (alone F) s x p → back (by_itself x) ≡ x
there_and_back F (package_decl k) h = ap package_decl (sym (package_at_zero F h))
there_and_back F (message_decl i) h = refl
there_and_back F (field_decl i j) h = refl
there_and_back F (oneof_decl i j) h = refl
there_and_back F (enum_decl i) h = refl
there_and_back F (value_decl i j) h = refl
there_and_back F (service_decl i) h = refl
there_and_back F (rpc_decl i j) h = refl

stands : {F : File} {s : Span} {x : DeclIndex} {p : Order.DeclPart} → IsPartSpan (alone F) s x p → Order.IsPartSpan F s (by_itself x) p
stands {F = F} (Together.package_name k h w e q u) =
    Order.package_name w (ap (λ (h : Head). h.package) (one_item (head_of F) h k e) ∙ q) u
stands (Together.message i m e u) = Order.message i m e u
stands (Together.field i j m f e g h) = Order.field i j m f e g h
stands (Together.oneof i j m o e g u) = Order.oneof i j m o e g u
stands (Together.enum i e q u) = Order.enum i e q u
stands (Together.value i j e v q g h) = Order.value i j e v q g h
stands (Together.service i y q u) = Order.service i y q u
stands (Together.rpc i j y r q g h) = Order.rpc i j y r q g h

precedes : {x y : DeclIndex} → Together.IsAlwaysBefore x y → Order.IsAlwaysBefore (by_itself x) (by_itself y)
precedes (Together.messages i j l) = Order.messages i j l
precedes (Together.enums i j l) = Order.enums i j l
precedes (Together.services i j l) = Order.services i j l
precedes (Together.fields i j k l) = Order.fields i j k l
precedes (Together.oneofs i j k l) = Order.oneofs i j k l
precedes (Together.values i j k l) = Order.values i j k l
precedes (Together.rpcs i j k l) = Order.rpcs i j k l
precedes (Together.in_message i j) = Order.in_message i j
precedes (Together.oneof_in_message i j) = Order.oneof_in_message i j
precedes (Together.in_enum i j) = Order.in_enum i j
precedes (Together.in_service i j) = Order.in_service i j

-- each declaration is of the file with index 0
of_zero : (F : File) {k : ℕ} {x : DeclIndex} {s : Span} {p : Order.DeclPart} → IsAtZero F → Together.IsInFile (alone F) k x
    → IsPartSpan (alone F) s x p → k ≡ 0
of_zero F z Together.its_package h = package_at_zero F h
of_zero F z (Together.in_message_of i m e q) h = sym q ∙ z.messages i m e
of_zero F z (Together.in_field_of i j m e q) h = sym q ∙ z.messages i m e
of_zero F z (Together.in_oneof_of i j m e q) h = sym q ∙ z.messages i m e
of_zero F z (Together.in_enum_of i e h q) g = sym q ∙ z.enums i e h
of_zero F z (Together.in_value_of i j e h q) g = sym q ∙ z.enums i e h
of_zero F z (Together.in_service_of i s e q) h = sym q ∙ z.services i s e
of_zero F z (Together.in_rpc_of i j s e q) h = sym q ∙ z.services i s e

ordered_alone : (F : File) → IsAtZero F → Order.IsOrdered F → Together.IsOrdered (alone F)
ordered_alone F z o = record {
  apart = λ x y p q s t h g e.
      let (a, b, c) = o.apart (by_itself x) (by_itself y) p q s t (stands h) (stands g) e in
      (sym (there_and_back F x h) ∙ (ap back a ∙ there_and_back F y g), b, c);
  ascend = λ x y p q s t l h g. o.ascend (by_itself x) (by_itself y) p q s t (precedes l) (stands h) (stands g);
  parts = λ x p q s t l h g. o.parts (by_itself x) p q s t l (stands h) (stands g);
  enum_after = o.enum_after;
  files = λ j k x y p q s t l a b h g. absurd (let e : k ≡ 0 = of_zero F z b g in omega arith);
}

-- ---- texts

pub text_formed_alone : (text : List ℕ) (F : File) → IsProtoTextOf text F → Together.IsFormed (alone F)
text_formed_alone text F h = formed_alone F (at_zero text F h) (well_formed text F h)

pub text_ordered_alone : (text : List ℕ) (F : File) → IsProtoTextOf text F → Together.IsOrdered (alone F)
text_ordered_alone text F h = ordered_alone F (at_zero text F h) (in_order text F h)
