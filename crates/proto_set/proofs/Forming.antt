-- Joined files are well-formed.
use Rattle.std.proofs.Common.{◌≡◌, ℕ, suc, ◌+◌, ◌<◌, ◌≤◌, List, [], ◌∷◌, length, get_or, map, All, Contains, Option}
use Rattle.std.proofs.Common.{Some, None, option_map, slice_get, IfSome, refl, ap, sym, ◌∙◌, subst, arith}
use Rattle.std.proofs.lemmas.Option.{slice_get_within}
use Rattle.std.proofs.lemmas.List.{length-map, get_or-map}
use Rattle.std.proofs.lemmas.List.Elements.{All-map}
use Rattle.proto_ast.specs.declared.file.Word.{Word}
use Rattle.proto_ast.specs.declared.file.FieldType.{FieldType}
use Rattle.proto_ast.specs.declared.file.FieldType.TheVariants.{Named, Map, NestedMap}
use Rattle.proto_ast.specs.declared.file.FieldDecl.{FieldDecl}
use Rattle.proto_ast.specs.declared.file.MessageDecl.{MessageDecl}
use Rattle.proto_ast.specs.declared.file.ValueDecl.{ValueDecl}
use Rattle.proto_ast.specs.declared.file.EnumDecl.{EnumDecl}
use Rattle.proto_ast.specs.declared.file.RpcDecl.{RpcDecl}
use Rattle.proto_ast.specs.declared.file.ServiceDecl.{ServiceDecl}
use Rattle.proto_ast.specs.declared.joined.Head.{Head}
use Rattle.proto_ast.specs.Order.{IsIndexBelow, HasName, HasFullName, HasTypeName, relative, absolute, HasTypeNames}
use Rattle.proto_ast.specs.Order.{IsFormedField, IsFormedMessage, IsFormedEnum, IsFormedRpc, IsFormedService}
use Rattle.proto_ast.specs.Together.{IsFormedHead, IsFormed}
use Rattle.proto_set.specs.declared.linked_file.LinkedFile.{LinkedFile}
use Rattle.proto_set.specs.declared.linked_file.FileBase.{FileBase}
use Rattle.proto_set.specs.Joining.{before_first_file, after_file, gathered, heads_of, joined}
use Rattle.proto_set.specs.Shifted.{shift_word, shift_type, shift_field, shift_value, shift_rpc, shift_parent, shift_message, shift_enum, shift_service, shift_head}
use Rattle.proto_set.specs.WellPlaced.{AreWellPlaced}
use Rattle.proto_set.proofs.Finding.{start-suc, start-le, start-one, one_start, before_at, messages_of, before-files}
use Rattle.proto_set.proofs.Finding.{before-messages, got_of_all, all_of_got, got_of_contains, found}
use Rattle.proto_set.proofs.Finding.{length-gathered}
use Rattle.proto_set.proofs.Standing.{head_item}
use Rattle.proto_set.proofs.Ordering.{parent_back, below_of}

-- ---- a shifted declaration is as well-formed as before

type_name : (n : ℕ) (w : Word) → HasTypeName w → HasTypeName (shift_word n w)
type_name n w (relative h) = relative h
type_name n w (absolute full e h) = absolute full e h

type_names : (n : ℕ) (t : FieldType) → HasTypeNames t → HasTypeNames (shift_type n t)
type_names n (Named w) h = type_name n w h
type_names n (Map key item) h = (type_name n key h.0, type_name n item h.1)
type_names n (NestedMap key) h = type_name n key h

formed_field : (n oneofs : ℕ) (f : FieldDecl) → IsFormedField oneofs f → IsFormedField oneofs (shift_field n f)
formed_field n oneofs f h = record { name = h.name; types = type_names n f.kind h.types; oneof = h.oneof }

contains_map : {X Y : Type 0} (f : X → Y) (xs : List X) (x : X) → Contains xs x → Contains (map f xs) (f x)
contains_map f xs x c =
    (c.0, omega (arith, c.1, length-map xs f), get_or-map f xs c.0 x (f x) c.1 ∙ ap f c.2)

words_named : (n : ℕ) (ws : List Word) → All HasName ws → All HasName (map (shift_word n) ws)
words_named n ws h = All-map HasName (shift_word n) ws h

formed_message : (b : FileBase) (m : MessageDecl) → IsFormedMessage m → IsFormedMessage (shift_message b m)
formed_message b m h =
    let long : length m.oneofs ≡ length (map (shift_word b.bytes) m.oneofs) = sym (length-map m.oneofs (shift_word b.bytes)) in
    record {
      name = h.name;
      fields = subst (λ n. All (IsFormedField n) (map (shift_field b.bytes) m.fields)) long
          (All-map (IsFormedField (length m.oneofs)) (shift_field b.bytes) m.fields
          (λ k d l. formed_field b.bytes (length m.oneofs) (get_or m.fields k d) (h.fields k d l)));
      oneofs = words_named b.bytes m.oneofs h.oneofs;
      filled = λ o l.
          let f = h.filled o (omega (arith, l, long)) in
          (shift_field b.bytes f.0, contains_map (shift_field b.bytes) m.fields f.0 f.1, f.2);
    }

formed_enum : (b : FileBase) (e : EnumDecl) → IsFormedEnum e → IsFormedEnum (shift_enum b e)
formed_enum b e h = record {
  name = h.name;
  values = All-map (λ (v : ValueDecl). HasName v.name) (shift_value b.bytes) e.values h.values;
  filled = omega (arith, h.filled, length-map e.values (shift_value b.bytes));
}

formed_rpc : (n : ℕ) (r : RpcDecl) → IsFormedRpc r → IsFormedRpc (shift_rpc n r)
formed_rpc n r h = record { name = h.name; input = type_name n r.input h.input; output = type_name n r.output h.output }

formed_service : (b : FileBase) (s : ServiceDecl) → IsFormedService s → IsFormedService (shift_service b s)
formed_service b s h = record {
  name = h.name;
  rpcs = All-map IsFormedRpc (shift_rpc b.bytes) s.rpcs (λ k d l. formed_rpc b.bytes (get_or s.rpcs k d) (h.rpcs k d l));
}

package_named : (n : ℕ) (o : Option Word) → IfSome o HasFullName → IfSome (option_map (shift_word n) o) HasFullName
package_named n None h = h
package_named n (Some w) h = h

-- ---- heads

length-heads : (b : FileBase) (ps : List LinkedFile) → length (gathered shift_head heads_of b ps) ≡ length ps
length-heads b [] = refl
length-heads b (p ∷ ps) = omega (arith, length-heads (after_file b p) ps)

formed_heads : (ps : List LinkedFile) → AreWellPlaced ps → (k : ℕ) (h : Head) → slice_get (joined ps).heads k ≡ Some h
    → IsFormedHead (length (joined ps).heads) k h
formed_heads ps sound k h e =
    let f = found shift_head heads_of before_first_file ps k h e in
    let one = head_item (record { «package» = f.part.file.package; sees = f.part.sees }) f.own f.place f.item in
    let own = sound.each f.file f.part f.there in
    let place : f.file ≡ k = omega (arith, f.stands, one.0, start-one ps f.file f.part f.there) in
    let n = (before_at before_first_file ps f.file).bytes in
    let moved : Head = record { «package» = option_map (shift_word n) f.part.file.package; sees = f.part.sees } in
    let is : h ≡ moved = f.is ∙ ap (λ (d : Head). shift_head (before_at before_first_file ps f.file) d) (sym one.1) in
    let long : length ps ≡ length (joined ps).heads = sym (length-heads before_first_file ps) in
    let formed : IsFormedHead (length ps) f.file moved = record {
      package_name = package_named n f.part.file.package own.formed.package_name;
      itself = own.itself;
      there = own.there;
    } in
    subst (λ (d : Head). IsFormedHead (length (joined ps).heads) k d) (sym is)
    (subst (λ i. IsFormedHead (length (joined ps).heads) i moved) place (subst (λ i. IsFormedHead i f.file moved) long formed))

-- ---- indices of messages

place_moved : (b : FileBase) (a : ℕ) (o : Option ℕ) → IsIndexBelow a o → IsIndexBelow (b.messages + a) (shift_parent b o)
place_moved b a None h = h
place_moved b a (Some c) h = omega arith

place_longer : (m n : ℕ) (o : Option ℕ) → m ≤ n → IsIndexBelow m o → IsIndexBelow n o
place_longer m n None l h = h
place_longer m n (Some c) l h = omega arith

formed_parents : (ps : List LinkedFile) → AreWellPlaced ps → (i : ℕ) (m : MessageDecl) → slice_get (joined ps).messages i ≡ Some m → IsIndexBelow i m.parent
formed_parents ps sound i m e =
    let f = found shift_message (λ p. p.file.messages) before_first_file ps i m e in
    let b = before_at before_first_file ps f.file in
    let own = (sound.each f.file f.part f.there).formed.parents f.place f.own f.item in
    subst (λ (d : MessageDecl). IsIndexBelow i d.parent) (sym f.is)
    (place_longer (b.messages + f.place) i (shift_parent b f.own.parent) (omega (arith, f.stands, before-messages before_first_file ps f.file))
    (place_moved b f.place f.own.parent own))

formed_enum_parents : (ps : List LinkedFile) → AreWellPlaced ps → All (λ (e : EnumDecl). IsIndexBelow (length (joined ps).messages) e.parent) (joined ps).enums
formed_enum_parents ps sound = all_of_got (λ (e : EnumDecl). IsIndexBelow (length (joined ps).messages) e.parent) (joined ps).enums (λ i e at.
    let f = found shift_enum (λ p. p.file.enums) before_first_file ps i e at in
    let b = before_at before_first_file ps f.file in
    let all = length (joined ps).messages in
    let own = got_of_all (λ (d : EnumDecl). IsIndexBelow (messages_of f.part) d.parent) f.part.file.enums f.place f.own
    (sound.each f.file f.part f.there).formed.enum_parents f.item in
    subst (λ (d : EnumDecl). IsIndexBelow all d.parent) (sym f.is)
    (place_longer (b.messages + messages_of f.part) all (shift_parent b f.own.parent)
    (omega (
      arith,
      before-messages before_first_file ps f.file,
      start-suc messages_of ps f.file f.part f.there,
      start-le messages_of ps (suc f.file) (length ps) (slice_get_within ps f.file f.part f.there),
      length-gathered shift_message (λ p. p.file.messages) before_first_file ps,
    ))
    (place_moved b (messages_of f.part) f.own.parent own)))

-- ---- files

message_there : (ps : List LinkedFile) → All (λ (m : MessageDecl). m.file < length (joined ps).heads) (joined ps).messages
message_there ps = all_of_got (λ (m : MessageDecl). m.file < length (joined ps).heads) (joined ps).messages (λ i m at.
    let f = found shift_message (λ p. p.file.messages) before_first_file ps i m at in
    omega (
      arith,
      ap (λ (d : MessageDecl). d.file) f.is,
      before-files before_first_file ps f.file f.part f.there,
      slice_get_within ps f.file f.part f.there,
      length-heads before_first_file ps,
    ))

enum_there : (ps : List LinkedFile) → All (λ (e : EnumDecl). e.file < length (joined ps).heads) (joined ps).enums
enum_there ps = all_of_got (λ (e : EnumDecl). e.file < length (joined ps).heads) (joined ps).enums (λ i e at.
    let f = found shift_enum (λ p. p.file.enums) before_first_file ps i e at in
    omega (
      arith,
      ap (λ (d : EnumDecl). d.file) f.is,
      before-files before_first_file ps f.file f.part f.there,
      slice_get_within ps f.file f.part f.there,
      length-heads before_first_file ps,
    ))

service_there : (ps : List LinkedFile) → All (λ (s : ServiceDecl). s.file < length (joined ps).heads) (joined ps).services
service_there ps = all_of_got (λ (s : ServiceDecl). s.file < length (joined ps).heads) (joined ps).services (λ i s at.
    let f = found shift_service (λ p. p.file.services) before_first_file ps i s at in
    omega (
      arith,
      ap (λ (d : ServiceDecl). d.file) f.is,
      before-files before_first_file ps f.file f.part f.there,
      slice_get_within ps f.file f.part f.there,
      length-heads before_first_file ps,
    ))

-- the message with an index that a message of a file has there is of that file
outer_file : (ps : List LinkedFile) (j : ℕ) (p : LinkedFile) (c i : ℕ) (outer : MessageDecl) → slice_get ps j ≡ Some p → c < messages_of p
    → i ≡ (before_at before_first_file ps j).messages + c → slice_get (joined ps).messages i ≡ Some outer → j ≡ outer.file
outer_file ps j p c i outer there below place at =
    let f = found shift_message (λ q. q.file.messages) before_first_file ps i outer at in
    let same = one_start messages_of ps j f.file p f.part c f.place there f.there below
    (slice_get_within f.part.file.messages f.place f.own f.item)
    (omega (arith, place, f.stands, before-messages before_first_file ps j)) in
    omega (arith, same.0, ap (λ (d : MessageDecl). d.file) f.is, before-files before_first_file ps f.file f.part f.there)

nested : (ps : List LinkedFile) → AreWellPlaced ps → (i : ℕ) (m outer : MessageDecl) → Contains (joined ps).messages m → m.parent ≡ Some i
    → slice_get (joined ps).messages i ≡ Some outer → m.file ≡ outer.file
nested ps sound i m outer among of at =
    let g = got_of_contains (joined ps).messages m among in
    let f = found shift_message (λ p. p.file.messages) before_first_file ps g.0 m g.1 in
    let c = parent_back (before_at before_first_file ps f.file) f.own.parent i (sym (ap (λ (d : MessageDecl). d.parent) f.is) ∙ of) in
    let above : c.0 < f.place = below_of f.place c.0 f.own.parent ((sound.each f.file f.part f.there).formed.parents f.place f.own f.item) c.1 in
    let below : c.0 < messages_of f.part = omega (arith, above, slice_get_within f.part.file.messages f.place f.own f.item) in
    omega (
      arith,
      outer_file ps f.file f.part c.0 i outer f.there below c.2 at,
      ap (λ (d : MessageDecl). d.file) f.is,
      before-files before_first_file ps f.file f.part f.there,
    )

nested_enums : (ps : List LinkedFile) → AreWellPlaced ps → (i : ℕ) (e : EnumDecl) (outer : MessageDecl) → Contains (joined ps).enums e → e.parent ≡ Some i
    → slice_get (joined ps).messages i ≡ Some outer → e.file ≡ outer.file
nested_enums ps sound i e outer among of at =
    let g = got_of_contains (joined ps).enums e among in
    let f = found shift_enum (λ p. p.file.enums) before_first_file ps g.0 e g.1 in
    let c = parent_back (before_at before_first_file ps f.file) f.own.parent i (sym (ap (λ (d : EnumDecl). d.parent) f.is) ∙ of) in
    let below : c.0 < messages_of f.part = below_of (messages_of f.part) c.0 f.own.parent
    (got_of_all (λ (d : EnumDecl). IsIndexBelow (messages_of f.part) d.parent) f.part.file.enums f.place f.own
    (sound.each f.file f.part f.there).formed.enum_parents f.item) c.1 in
    omega (
      arith,
      outer_file ps f.file f.part c.0 i outer f.there below c.2 at,
      ap (λ (d : EnumDecl). d.file) f.is,
      before-files before_first_file ps f.file f.part f.there,
    )

-- ---- all invariants

pub joined-formed : (ps : List LinkedFile) → AreWellPlaced ps → IsFormed (joined ps)
joined-formed ps sound = record {
  heads = formed_heads ps sound;
  messages = all_of_got IsFormedMessage (joined ps).messages (λ i m at.
      let f = found shift_message (λ p. p.file.messages) before_first_file ps i m at in
      let own = got_of_all IsFormedMessage f.part.file.messages f.place f.own (sound.each f.file f.part f.there).formed.messages f.item in
      subst IsFormedMessage (sym f.is) (formed_message (before_at before_first_file ps f.file) f.own own));
  enums = all_of_got IsFormedEnum (joined ps).enums (λ i e at.
      let f = found shift_enum (λ p. p.file.enums) before_first_file ps i e at in
      let own = got_of_all IsFormedEnum f.part.file.enums f.place f.own (sound.each f.file f.part f.there).formed.enums f.item in
      subst IsFormedEnum (sym f.is) (formed_enum (before_at before_first_file ps f.file) f.own own));
  services = all_of_got IsFormedService (joined ps).services (λ i s at.
      let f = found shift_service (λ p. p.file.services) before_first_file ps i s at in
      let own = got_of_all IsFormedService f.part.file.services f.place f.own (sound.each f.file f.part f.there).formed.services f.item in
      subst IsFormedService (sym f.is) (formed_service (before_at before_first_file ps f.file) f.own own));
  parents = formed_parents ps sound;
  enum_parents = formed_enum_parents ps sound;
  message_files = message_there ps;
  enum_files = enum_there ps;
  service_files = service_there ps;
  nested = nested ps sound;
  nested_enums = nested_enums ps sound;
}
