-- Joined files are in order, and each offset lies in the text of its file.
use Rattle.std.proofs.Common.{◌≡◌, ℕ, suc, ◌+◌, ◌<◌, ◌≤◌, inl, inr, List, sum, take, Option, Some, None, slice_get, IfSome, refl, ap, sym, ◌∙◌, subst, arith}
use Rattle.std.proofs.lemmas.Bool.{cases_order}
use Rattle.std.proofs.lemmas.List.{take-take}
use Rattle.std.proofs.lemmas.List.Sums.{sum_by-take-le}
use Rattle.std.proofs.lemmas.Option.{none-some, same_Some, slice_get_within}
use Rattle.proto_ast.specs.declared.file.Span.{Span}
use Rattle.proto_ast.specs.declared.file.MessageDecl.{MessageDecl}
use Rattle.proto_ast.specs.declared.file.EnumDecl.{EnumDecl}
use Rattle.proto_ast.specs.declared.file.ServiceDecl.{ServiceDecl}
use Rattle.proto_ast.specs.Order.{DeclPart as Piece, part_rank, IsIndexBelow, DeclIndex as Own, IsPartSpan as OwnStandsAt}
use Rattle.proto_ast.specs.Together.{DeclIndex, IsPartSpan, IsAlwaysBefore, IsInFile, its_package, in_message_of}
use Rattle.proto_ast.specs.Together.{in_field_of, in_oneof_of, in_enum_of, in_value_of, in_service_of, in_rpc_of}
use Rattle.proto_ast.specs.Together.{IsOrdered}
use Rattle.proto_set.specs.declared.linked_file.LinkedFile.{LinkedFile}
use Rattle.proto_set.specs.declared.linked_file.FileBase.{FileBase}
use Rattle.proto_set.specs.Joining.{before_first_file, joined, IsInText}
use Rattle.proto_set.specs.Shifted.{shift_span, shift_parent, shift_message, shift_enum, shift_service}
use Rattle.proto_set.specs.WellPlaced.{AreWellPlaced}
use Rattle.proto_set.specs.Texts.{base_at, IsInTextOf}
use Rattle.proto_set.proofs.Finding.{start, start-suc, start-apart, one_start, before_at, size_of, messages_of}
use Rattle.proto_set.proofs.Finding.{before-files, before-messages, bytes_here, base_at-sizes, got_of_all, found}
use Rattle.proto_set.proofs.Finding.{one_part}
use Rattle.proto_set.proofs.Standing.{Moved, of_package, of_message, of_field, of_oneof, of_enum, of_value}
use Rattle.proto_set.proofs.Standing.{of_service, of_rpc, enums_of, services_of, Located, located, stands_within}
use Rattle.proto_set.proofs.Standing.{same_own, same_moved, own_precedes}

-- ---- the file that a declaration is of

pub message_file : (ps : List LinkedFile) (j : ℕ) (p : LinkedFile) (a i : ℕ) (m : MessageDecl) → slice_get ps j ≡ Some p → a < messages_of p
    → i ≡ start messages_of ps j + a → slice_get (joined ps).messages i ≡ Some m → j ≡ m.file
message_file ps j p a i m there l place e =
    let f = found shift_message (λ q. q.file.messages) before_first_file ps i m e in
    let s = one_start messages_of ps j f.file p f.part a f.place there f.there l
    (slice_get_within f.part.file.messages f.place f.own f.item) (sym place ∙ f.stands) in
    omega (arith, s.0, ap (λ (d : MessageDecl). d.file) f.is, before-files before_first_file ps f.file f.part f.there)

pub enum_file : (ps : List LinkedFile) (j : ℕ) (p : LinkedFile) (a i : ℕ) (m : EnumDecl) → slice_get ps j ≡ Some p → a < enums_of p
    → i ≡ start enums_of ps j + a → slice_get (joined ps).enums i ≡ Some m → j ≡ m.file
enum_file ps j p a i m there l place e =
    let f = found shift_enum (λ q. q.file.enums) before_first_file ps i m e in
    let s = one_start enums_of ps j f.file p f.part a f.place there f.there l
    (slice_get_within f.part.file.enums f.place f.own f.item) (sym place ∙ f.stands) in
    omega (arith, s.0, ap (λ (d : EnumDecl). d.file) f.is, before-files before_first_file ps f.file f.part f.there)

pub service_file : (ps : List LinkedFile) (j : ℕ) (p : LinkedFile) (a i : ℕ) (m : ServiceDecl) → slice_get ps j ≡ Some p → a < services_of p
    → i ≡ start services_of ps j + a → slice_get (joined ps).services i ≡ Some m → j ≡ m.file
service_file ps j p a i m there l place e =
    let f = found shift_service (λ q. q.file.services) before_first_file ps i m e in
    let s = one_start services_of ps j f.file p f.part a f.place there f.there l
    (slice_get_within f.part.file.services f.place f.own f.item) (sym place ∙ f.stands) in
    omega (arith, s.0, ap (λ (d : ServiceDecl). d.file) f.is, before-files before_first_file ps f.file f.part f.there)

pub in_file : (ps : List LinkedFile) (j k : ℕ) (p : LinkedFile) (y : Own) (x : DeclIndex) → slice_get ps j ≡ Some p → Moved ps j p y x
    → IsInFile (joined ps) k x → j ≡ k
in_file ps j k p y x there (of_package i e) its_package = sym e
in_file ps j k p y x there (of_message a i l e) (in_message_of _ m g h) = message_file ps j p a i m there l e g ∙ h
in_file ps j k p y x there (of_field a i c l e) (in_field_of _ _ m g h) = message_file ps j p a i m there l e g ∙ h
in_file ps j k p y x there (of_oneof a i c l e) (in_oneof_of _ _ m g h) = message_file ps j p a i m there l e g ∙ h
in_file ps j k p y x there (of_enum a i l e) (in_enum_of _ m g h) = enum_file ps j p a i m there l e g ∙ h
in_file ps j k p y x there (of_value a i c l e) (in_value_of _ _ m g h) = enum_file ps j p a i m there l e g ∙ h
in_file ps j k p y x there (of_service a i l e) (in_service_of _ m g h) = service_file ps j p a i m there l e g ∙ h
in_file ps j k p y x there (of_rpc a i c l e) (in_rpc_of _ _ m g h) = service_file ps j p a i m there l e g ∙ h

-- ---- offsets in texts

-- its own offset lies in its own text
own_start : (ps : List LinkedFile) (s : Span) (x : DeclIndex) (piece : Piece) → AreWellPlaced ps → (l : Located ps s x piece)
    → l.span.start < size_of l.part
own_start ps s x piece sound l =
    (stands_within ps l.file l.part l.part.size l.part.file l.own x piece l.span l.moved
    (sound.each l.file l.part l.there).within l.stands).start

starts_at : (ps : List LinkedFile) (s : Span) (x : DeclIndex) (piece : Piece) (l : Located ps s x piece)
    → s.start ≡ start size_of ps l.file + l.span.start
starts_at ps s x piece l = ap (λ (t : Span). t.start) l.shifted

-- a declaration of an earlier file starts before one of a later file
earlier : (ps : List LinkedFile) (s t : Span) (x w : DeclIndex) (u v : Piece) → AreWellPlaced ps → (l : Located ps s x u) (m : Located ps t w v)
    → l.file < m.file → s.start < t.start
earlier ps s t x w u v sound l m less =
    omega (
      arith,
      own_start ps s x u sound l,
      starts_at ps s x u l,
      starts_at ps t w v m,
      start-apart size_of ps l.file m.file l.part l.there less,
    )

-- two of one file start in their order there
of_one : (ps : List LinkedFile) (s t : Span) (x w : DeclIndex) (u v : Piece) (l : Located ps s x u) (m : Located ps t w v)
    → l.file ≡ m.file → l.span.start < m.span.start → s.start < t.start
of_one ps s t x w u v l m same less =
    omega (arith, starts_at ps s x u l, starts_at ps t w v m, ap (λ n. start size_of ps n) same)

-- both are of the same file
beside : (ps : List LinkedFile) (s t : Span) (x w : DeclIndex) (u v : Piece) (l : Located ps s x u) (m : Located ps t w v)
    → l.file ≡ m.file → OwnStandsAt l.part.file m.span m.own v
beside ps s t x w u v l m same =
    subst (λ (p : LinkedFile). OwnStandsAt p.file m.span m.own v) (sym (one_part ps l.file m.file l.part m.part l.there m.there same)) m.stands

moved_beside : (ps : List LinkedFile) (s t : Span) (x w : DeclIndex) (u v : Piece) (l : Located ps s x u) (m : Located ps t w v)
    → l.file ≡ m.file → l.own ≡ m.own → Moved ps l.file l.part l.own w
moved_beside ps s t x w u v l m same one =
    subst (λ n. Moved ps n l.part l.own w) (sym same)
    (subst (λ (p : LinkedFile). Moved ps m.file p l.own w) (sym (one_part ps l.file m.file l.part m.part l.there m.there same))
    (subst (λ (y : Own). Moved ps m.file m.part y w) (sym one) m.moved))

-- ---- the order of the joined files

apart : (ps : List LinkedFile) → AreWellPlaced ps → (x w : DeclIndex) (u v : Piece) (s t : Span) → IsPartSpan (joined ps) s x u
    → IsPartSpan (joined ps) t w v → s.start ≡ t.start → (x ≡ w) × (u ≡ v) × (s ≡ t)
apart ps sound x w u v s t at_s at_t same =
    let l = located ps s x u at_s in
    let m = located ps t w v at_t in
    let of = one_start size_of ps l.file m.file l.part m.part l.span.start m.span.start l.there m.there
    (own_start ps s x u sound l) (own_start ps t w v sound m) (sym (starts_at ps s x u l) ∙ same ∙ starts_at ps t w v m) in
    let own = (sound.each l.file l.part l.there).ordered.apart l.own m.own u v l.span m.span l.stands
    (beside ps s t x w u v l m of.0) of.1 in (
      same_moved ps l.file l.part l.own x w l.moved (moved_beside ps s t x w u v l m of.0 own.0),
      own.1,
      l.shifted ∙ ap (λ n. shift_span (start size_of ps n) l.span) of.0 ∙ ap (λ r. shift_span (start size_of ps m.file) r) own.2
          ∙ sym m.shifted,
    )

ascend : (ps : List LinkedFile) → AreWellPlaced ps → (x w : DeclIndex) (u v : Piece) (s t : Span) → IsAlwaysBefore x w → IsPartSpan (joined ps) s x u
    → IsPartSpan (joined ps) t w v → s.start < t.start
ascend ps sound x w u v s t before at_s at_t =
    let l = located ps s x u at_s in
    let m = located ps t w v at_t in
    elim (own_precedes ps l.file m.file l.part m.part l.own m.own x w l.there m.there before l.moved m.moved) [
      | inl less ↦ earlier ps s t x w u v sound l m less
      | inr one ↦ of_one ps s t x w u v l m one.0
          ((sound.each l.file l.part l.there).ordered.ascend l.own m.own u v l.span m.span one.1 l.stands (beside ps s t x w u v l m one.0))
    ]

parts : (ps : List LinkedFile) → AreWellPlaced ps → (x : DeclIndex) (u v : Piece) (s t : Span) → part_rank u < part_rank v → IsPartSpan (joined ps) s x u
    → IsPartSpan (joined ps) t x v → s.start < t.start
parts ps sound x u v s t ranks at_s at_t =
    let l = located ps s x u at_s in
    let m = located ps t x v at_t in
    let same = same_own ps l.file m.file l.part m.part l.own m.own x l.there m.there l.moved m.moved in
    of_one ps s t x x u v l m same.0
    ((sound.each l.file l.part l.there).ordered.parts l.own u v l.span m.span ranks l.stands
    (subst (λ (y : Own). OwnStandsAt l.part.file m.span y v) (sym same.1) (beside ps s t x x u v l m same.0)))

files : (ps : List LinkedFile) → AreWellPlaced ps → (j k : ℕ) (x w : DeclIndex) (u v : Piece) (s t : Span) → j < k → IsInFile (joined ps) j x
    → IsInFile (joined ps) k w → IsPartSpan (joined ps) s x u → IsPartSpan (joined ps) t w v → s.start < t.start
files ps sound j k x w u v s t less in_j in_k at_s at_t =
    let l = located ps s x u at_s in
    let m = located ps t w v at_t in
    earlier ps s t x w u v sound l m
    (omega (arith, in_file ps l.file j l.part l.own x l.there l.moved in_j, in_file ps m.file k m.part m.own w m.there m.moved in_k))

-- the index of a parent was shifted
pub parent_back : (b : FileBase) (o : Option ℕ) (i : ℕ) → shift_parent b o ≡ Some i → (c : ℕ) × (o ≡ Some c) × (i ≡ b.messages + c)
parent_back b None i e = absurd (none-some i e)
parent_back b (Some c) i e = (c, refl, sym (same_Some (b.messages + c) i e))

pub below_of : (n c : ℕ) (o : Option ℕ) → IsIndexBelow n o → o ≡ Some c → c < n
below_of n c o h e = let P : Option ℕ → Type 0 = λ v. IfSome v (λ i. i < n) in subst P e h

enum_behind : (ps : List LinkedFile) → AreWellPlaced ps → (i j : ℕ) (m : MessageDecl) (e : EnumDecl) → slice_get (joined ps).messages i ≡ Some m
    → slice_get (joined ps).enums j ≡ Some e → e.parent ≡ Some i → m.name.span.start < e.name.span.start
enum_behind ps sound i j m e at_m at_e of_m =
    let f = found shift_message (λ p. p.file.messages) before_first_file ps i m at_m in
    let g = found shift_enum (λ p. p.file.enums) before_first_file ps j e at_e in
    let own = sound.each g.file g.part g.there in
    let c = parent_back (before_at before_first_file ps g.file) g.own.parent i (sym (ap (λ (d : EnumDecl). d.parent) g.is) ∙ of_m) in
    let below : c.0 < messages_of g.part = below_of (messages_of g.part) c.0 g.own.parent
    (got_of_all (λ (d : EnumDecl). IsIndexBelow (messages_of g.part) d.parent) g.part.file.enums g.place g.own own.formed.enum_parents g.item) c.1 in
    let same = one_start messages_of ps f.file g.file f.part g.part f.place c.0 f.there g.there
    (slice_get_within f.part.file.messages f.place f.own f.item) below
    (sym f.stands ∙ c.2 ∙ ap (λ n. n + c.0) (omega (arith, before-messages before_first_file ps g.file))) in
    let in_g : slice_get g.part.file.messages c.0 ≡ Some f.own =
    ap (λ n. slice_get g.part.file.messages n) (sym same.1)
    ∙ ap (λ (p : LinkedFile). slice_get p.file.messages f.place) (sym (one_part ps f.file g.file f.part g.part f.there g.there same.0)) ∙ f.item in
    let less = own.ordered.enum_after c.0 g.place f.own g.own in_g g.item c.1 in
    omega (
      arith,
      less,
      ap (λ (d : MessageDecl). d.name.span.start) f.is,
      ap (λ (d : EnumDecl). d.name.span.start) g.is,
      bytes_here ps f.file,
      bytes_here ps g.file,
      ap (λ n. start size_of ps n) same.0,
    )

pub joined-ordered : (ps : List LinkedFile) → AreWellPlaced ps → IsOrdered (joined ps)
joined-ordered ps sound = record {
  apart = apart ps sound;
  ascend = ascend ps sound;
  parts = parts ps sound;
  enum_after = enum_behind ps sound;
  files = files ps sound;
}

-- ---- the text of an offset

next_base : (sizes : List ℕ) (i j : ℕ) → i ≤ j → base_at sizes i ≤ base_at sizes j
next_base sizes i j h = omega (arith, sum_by-take-le (λ n. n) (take j sizes) i, ap sum (take-take i j sizes h))

pub one_text : (sizes : List ℕ) (j k place : ℕ) → IsInTextOf sizes j place → IsInTextOf sizes k place → j ≡ k
one_text sizes j k place at_j at_k = elim (cases_order j k) [
  | inl e ↦ e
  | inr o ↦ elim o [
    | inl l ↦ absurd (omega (arith, at_j.below, at_k.from, next_base sizes (j + 1) k (omega arith)))
    | inr l ↦ absurd (omega (arith, at_k.below, at_j.from, next_base sizes (k + 1) j (omega arith)))
  ]
]

pub own_text : (ps : List LinkedFile) → AreWellPlaced ps → (k : ℕ) (x : DeclIndex) (piece : Piece) (s : Span) → IsInFile (joined ps) k x
    → IsPartSpan (joined ps) s x piece → IsInText ps k s.start
own_text ps sound k x piece s in_k at_s =
    let l = located ps s x piece at_s in
    let same = in_file ps l.file k l.part l.own x l.there l.moved in_k in
    let own = own_start ps s x piece sound l in
    let at = starts_at ps s x piece l in
    let first = base_at-sizes ps k in
    let next = base_at-sizes ps (k + 1) in
    let step = start-suc size_of ps l.file l.part l.there in
    let here = ap (λ n. start size_of ps n) same in
    let there : start size_of ps (suc l.file) ≡ start size_of ps (k + 1) = ap (λ n. start size_of ps n) (omega arith) in
    record { from = omega (arith, at, first, here); below = omega (arith, own, at, next, step, there) }
