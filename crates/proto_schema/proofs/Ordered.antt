-- The declarations of the statements so far are in the order of the text: a statement adds at most one declaration,
-- after all earlier ones.
use Rattle.std.proofs.Common.{◌≡◌, ℕ, suc, ◌≤◌, Bool, true, false, List, [], ◌∷◌, ◌++◌, length, refl, ◌∙◌, arith}
use Rattle.std.specs.Prelude.{Option, Some, None}
use Rattle.proto_ast.specs.Order.{DeclIndex, DeclPart, IsPartSpan, IsOrdered}
use Rattle.proto_ast.specs.Order
use Rattle.proto_ast.specs.declared.file.Span.{Span}
use Rattle.proto_ast.specs.declared.file.File.{File}
use Rattle.proto_ast.specs.declared.file.Word.{Word}
use Rattle.proto_ast.specs.declared.file.Number.{Number}
use Rattle.proto_ast.specs.declared.file.FieldType.{FieldType}
use Rattle.std.proofs.lemmas.List.{append_assoc}
use Rattle.proto_grammar.specs.Lexemes.{Lexeme, make_word}
use Rattle.proto_grammar.specs.Grammar.{IsFieldType}
use Rattle.proto_schema.specs.Files
use Rattle.proto_schema.specs.Files.{Draft, IsStatement, AreStatementsOf, AreFileTokens, IsBlockEnd, IsFieldEnd, initial_draft, innermost_of, add_field, add_rpc, make_field}
use Rattle.proto_schema.specs.Faults.{IsProtoTextOf}
use Rattle.proto_ast.specs.Order.{HasFullName}
use Rattle.proto_ast.specs.declared.file.FieldLabel.{FieldLabel}
use Rattle.proto_ast.specs.declared.file.FieldLabel.TheVariants.{Plain}
use Rattle.proto_schema.proofs.Places.{nothing_at}
use Rattle.proto_schema.proofs.Along.{Along, along_ends, along_split, tokens_along}
use Rattle.proto_schema.proofs.Spans.{IsWithin, NameWithin, TypesWithin, EndWithin, along_same, first_within, widen, full_along, types_along, end_along, numbered_along, rpc_along}
use Rattle.proto_schema.proofs.Formed.{SoFar, formed_so_far}
use Rattle.proto_schema.proofs.KeptOrder.{Kept, kept_to}
use Rattle.proto_schema.proofs.Declares.{kept_package, kept_import, kept_message, kept_enum, kept_service, kept_same_message, kept_same_enum}
use Rattle.proto_schema.proofs.Members.{kept_field, kept_oneof, kept_value, kept_rpc}

-- ---- statements

pub kept_field_statement : (b e : ℕ) (d : Draft) {ts es : List Lexeme} {words : List (List ℕ)} {kind : FieldType} {name : Word} {number : Number}
    {packed : Option Bool} (label : FieldLabel) (oneof : Option ℕ) → IsFieldType words ts kind → IsFieldEnd es name number packed
    → Along b (ts ++ es) e → Kept d.file b → Kept (add_field d (make_field name number kind label oneof packed)).file e
kept_field_statement b e d {ts = ts} {es = es} {kind = kind} {name = name} {number = number} {packed = packed} label oneof t f h k =
    let (g, u, v) = along_split b ts es e h in
    let types : TypesWithin b g kind = (types_along b g t u).1 in
    let ends : EndWithin g e name number = end_along g e f v in
    let l : b ≤ g = along_ends b ts g u in
    let m : g ≤ e = along_ends g es e v in
    kept_field d.file b g e (innermost_of d.messages) (make_field name number kind label oneof packed) l m
    (record { types = types; name = ends.name.within; number = ends.number; ordered = ends.ordered }) k

-- a name after a first token
pub second_within : (b e : ℕ) (x y : Lexeme) (ys : List Lexeme) → Along b (x ∷ y ∷ ys) e → IsWithin b e y.span.start
second_within b e x y ys (l, p, r) =
    let q : IsWithin (suc x.span.start) e y.span.start = first_within (suc x.span.start) y ys e r in
    widen b (suc x.span.start) e e y.span.start (omega arith) (omega arith) q

pub kept_statement : (b e : ℕ) (d : Draft) {all : List Lexeme} {other : Draft} → IsStatement d all other → Along b all e → SoFar d
    → Kept d.file b → Kept other.file e
kept_statement b e d {all = all} (Files.package_name x z {ys = ys} {w = w} i n hx f hz a) h s k =
    by (along_same b e all (x ∷ ys ++ z ∷ []) a h)
  where
    by : Along b (x ∷ ys ++ z ∷ []) e → Kept (record d.file { «package» = Some w }) e
    by (l, p, r) =
        let (c, t, u) = along_split (suc x.span.start) ys (z ∷ []) e r in
        let q : NameWithin HasFullName (suc x.span.start) c w = full_along (suc x.span.start) c f t in
        let m : c ≤ e = along_ends c (z ∷ []) e u in
        kept_package d.file b e w n (along_ends b all e h) (widen b (suc x.span.start) c e w.span.start (omega arith) m q.within) k
kept_statement b e d {all = all} (Files.import x y z path i hx hy hz a) h s k =
    kept_import d.file b e (record { path = path; public = false; span = y.span }) (along_ends b all e h)
    (second_within b e x y (z ∷ []) (along_same b e all (x ∷ y ∷ z ∷ []) a h)) k
kept_statement b e d {all = all} (Files.public_import x p y z path i hx hp hy hz a) h s k =
    let (l, u, r) = along_same b e all (x ∷ p ∷ y ∷ z ∷ []) a h in
    let q : IsWithin (suc x.span.start) e y.span.start = second_within (suc x.span.start) e p y (z ∷ []) r in
    kept_import d.file b e (record { path = path; public = true; span = y.span }) (along_ends b all e h)
    (widen b (suc x.span.start) e e y.span.start (omega arith) (omega arith) q) k
kept_statement b e d {all = all} (Files.option x z hx o hz a) h s k = kept_to d.file b e (along_ends b all e h) k
kept_statement b e d {all = all} (Files.empty x i hx a) h s k = kept_to d.file b e (along_ends b all e h) k
kept_statement b e d {all = all} (Files.message x y z name i hx hy hz a) h s k =
    kept_message d.file b e (innermost_of d.messages) (make_word name y.span) (λ j c q. (s.enums j c q).parent) (along_ends b all e h)
    (second_within b e x y (z ∷ []) (along_same b e all (x ∷ y ∷ z ∷ []) a h)) k
kept_statement b e d {all = all} (Files.enum x y z name i hx hy hz a) h s k =
    kept_enum d.file b e (innermost_of d.messages) (make_word name y.span) (along_ends b all e h)
    (second_within b e x y (z ∷ []) (along_same b e all (x ∷ y ∷ z ∷ []) a h)) k
kept_statement b e d {all = all} (Files.service x y z name i hx hy hz a) h s k =
    kept_service d.file b e (make_word name y.span) (along_ends b all e h)
    (second_within b e x y (z ∷ []) (along_same b e all (x ∷ y ∷ z ∷ []) a h)) k
kept_statement b e d {all = all} (Files.oneof x y z name i hx hy hz a) h s k =
    kept_oneof d.file b e (innermost_of d.messages) (make_word name y.span) (along_ends b all e h)
    (second_within b e x y (z ∷ []) (along_same b e all (x ∷ y ∷ z ∷ []) a h)) k
kept_statement b e d {all = all} (Files.a_field {ls = ls} {ts = ts} {es = es} {label = label} i l t f a) h s k =
    let q : Along b (ls ++ (ts ++ es)) e = along_same b e all (ls ++ (ts ++ es)) (a ∙ append_assoc ls ts es) h in
    let (c, p, r) = along_split b ls (ts ++ es) e q in
    kept_field_statement c e d label None t f r (kept_to d.file b c (along_ends b ls c p) k)
kept_statement b e d {all = all} (Files.member i filled {ts = ts} {es = es} q t f a) h s k =
    kept_field_statement b e d Plain (Some i) t f (along_same b e all (ts ++ es) a h) k
kept_statement b e d {all = all} (Files.reserved_numbers x z {rs = rs} i hx r hz a) h s k =
    kept_same_message d.file b e (innermost_of d.messages) (λ m. record m { ranges = m.ranges ++ rs }) (λ m. refl) (λ m. refl) (λ m. refl) (along_ends b all e h) k
kept_statement b e d {all = all} (Files.reserved_names x z {ws = ws} i hx r hz a) h s k =
    kept_same_message d.file b e (innermost_of d.messages) (λ m. record m { names = m.names ++ ws }) (λ m. refl) (λ m. refl) (λ m. refl) (along_ends b all e h) k
kept_statement b e d {all = all} (Files.reserved_values x z filled {rs = rs} q hx r hz a) h s k =
    kept_same_enum d.file b e (λ c. record c { ranges = c.ranges ++ rs }) (λ c. refl) (λ c. refl) (λ c. refl) (along_ends b all e h) k
kept_statement b e d {all = all} (Files.reserved_value_names x z filled {ws = ws} q hx r hz a) h s k =
    kept_same_enum d.file b e (λ c. record c { names = c.names ++ ws }) (λ c. refl) (λ c. refl) (λ c. refl) (along_ends b all e h) k
kept_statement b e d {all = all} (Files.value x y z name filled {ns = ns} {os = os} {number = number} q hx w hy n o hz a) h s k =
    let ends : EndWithin b e (make_word name x.span) number = numbered_along b e x y name os (z ∷ []) hx n (along_same b e all (x ∷ y ∷ ns ++ os ++ z ∷ []) a h) in
    kept_value d.file b e (record { name = make_word name x.span; number = number }) (along_ends b all e h)
    (record { name = ends.name.within; number = ends.number; ordered = ends.ordered }) k
kept_statement b e d {all = all} (Files.rpc z {ys = ys} {r = r} q f hz a) h s k =
    let (c, p, u) = along_split b ys (z ∷ []) e (along_same b e all (ys ++ z ∷ []) a h) in
    kept_to (add_rpc d r).file c e (along_ends c (z ∷ []) e u) (kept_rpc d.file b c r (along_ends b ys c p) (rpc_along b c f p) k)
kept_statement b e d {all = all} (Files.rpc_with_options z {ys = ys} {r = r} q f hz a) h s k =
    let (c, p, u) = along_split b ys (z ∷ []) e (along_same b e all (ys ++ z ∷ []) a h) in
    kept_to (add_rpc d r).file c e (along_ends c (z ∷ []) e u) (kept_rpc d.file b c r (along_ends b ys c p) (rpc_along b c f p) k)
kept_statement b e d {all = all} (Files.close x hx a c) h s k = closes c (kept_to d.file b e (along_ends b all e h) k)
  where
    closes : {other : Draft} → IsBlockEnd d other → Kept d.file e → Kept other.file e
    closes (Files.message_ends i is p q) k = k
    closes (Files.oneof_ends i p) k = k
    closes (Files.enum_ends p) k = k
    closes (Files.service_ends p) k = k
    closes (Files.rpc_ends p) k = k

-- ---- texts

pub nothing_stands : {s : Span} {x : DeclIndex} {p : DeclPart} → IsPartSpan initial_draft.file s x p → ⊥
nothing_stands (Order.package_name w e h) = let t : ◌≡◌ None (Some w) = e in cc
nothing_stands (Order.import i y e h) = nothing_at i y e
nothing_stands (Order.message i m e h) = nothing_at i m e
nothing_stands (Order.field i j m f e g h) = nothing_at i m e
nothing_stands (Order.oneof i j m o e g h) = nothing_at i m e
nothing_stands (Order.enum i e q h) = nothing_at i e q
nothing_stands (Order.value i j e v q g h) = nothing_at i e q
nothing_stands (Order.service i y q h) = nothing_at i y q
nothing_stands (Order.rpc i j y r q g h) = nothing_at i y q

pub nothing_kept : (e : ℕ) → Kept initial_draft.file e
nothing_kept e = record {
  below = λ x p s h. absurd (nothing_stands h);
  ordered = record {
    apart = λ x y p q s t h g u. absurd (nothing_stands h);
    ascend = λ x y p q s t o h g. absurd (nothing_stands h);
    parts = λ x p q s t o h g. absurd (nothing_stands h);
    enum_after = λ i j m c q r t. absurd (nothing_at i m q);
  };
}

pub kept_so_far : (b e : ℕ) {xs : List Lexeme} {d : Draft} → AreStatementsOf xs d → Along b xs e → Kept d.file e
kept_so_far b e (Files.start x) h = nothing_kept e
kept_so_far b e {xs = all} (Files.another {xs = xs} {ys = ys} {c = d} x y a) h =
    let (c, p, q) = along_split b xs ys e (along_same b e all (xs ++ ys) a h) in
    kept_statement c e d y q (formed_so_far b c x p) (kept_so_far b c x p)

pub ordered_text : (b e : ℕ) {xs : List Lexeme} {F : File} → AreFileTokens xs F → Along b xs e → IsOrdered F
ordered_text b e {xs = all} (Files.whole x {xs = xs} {d = d} s w m a) h =
    let (c, p, q) = along_split b xs (x ∷ []) e (along_same b e all (xs ++ x ∷ []) a h) in (kept_so_far b c s p).ordered

pub in_order : (text : List ℕ) (F : File) → IsProtoTextOf text F → IsOrdered F
in_order text F h = ordered_text 0 (suc (length text)) h.reads (tokens_along text 0 h.of_text)
