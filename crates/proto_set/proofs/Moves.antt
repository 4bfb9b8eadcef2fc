-- One more shifted item, and one more joined file.
use Rattle.std.proofs.Common.{◌≡◌, ℕ, ◌+◌, ◌^◌, ◌<◌, ◌≤◌, List, [], ◌∷◌, ◌++◌, length, take, drop, set, get_or, map}
use Rattle.std.proofs.Common.{sum, sum_by, All, IfSome, Option, Some, None, refl, ap, sym, ◌∙◌, subst, arith}
use Rattle.std.proofs.Common.{append-nil, append_assoc, get_or-drop, map-id}
use Rattle.std.proofs.lemmas.List.{take_more_set, map_more, drop-set-lt, drop-drop}
use Rattle.std.proofs.lemmas.List.Elements.{All-same, All-weaker}
use Rattle.std.proofs.lemmas.Option.{slice_get-get_or}
use Rattle.std.proofs.lemmas.List.Sums.{sum_by-cons, sum-map, sum_by_more_le}
use Rattle.proto_ast.specs.declared.file.Span.{Span}
use Rattle.proto_ast.specs.declared.file.Word.{Word}
use Rattle.proto_ast.specs.declared.file.Number.{Number}
use Rattle.proto_ast.specs.declared.file.FieldType.{FieldType}
use Rattle.proto_ast.specs.declared.file.FieldType.TheVariants.{Named, Map, NestedMap}
use Rattle.proto_ast.specs.declared.file.FieldDecl.{FieldDecl}
use Rattle.proto_ast.specs.declared.file.Range.{Range}
use Rattle.proto_ast.specs.declared.file.MessageDecl.{MessageDecl}
use Rattle.proto_ast.specs.declared.file.ValueDecl.{ValueDecl}
use Rattle.proto_ast.specs.declared.file.EnumDecl.{EnumDecl}
use Rattle.proto_ast.specs.declared.file.RpcDecl.{RpcDecl}
use Rattle.proto_ast.specs.declared.file.ServiceDecl.{ServiceDecl}
use Rattle.proto_ast.specs.Order.{IsIndexBelow}
use Rattle.proto_set.specs.declared.linked_file.LinkedFile.{LinkedFile}
use Rattle.proto_set.specs.declared.linked_file.FileBase.{FileBase}
use Rattle.proto_set.specs.Joining.{before_first_file, after_file, gathered, heads_of, joined, sizes_of}
use Rattle.proto_set.specs.Placing.{room_after, CanPlace, joined_with_file}
use Rattle.proto_set.specs.Shifted.{shift_message, shift_enum, shift_service, shift_head}
use Rattle.proto_set.specs.WellPlaced.{IsWellPlaced}
use Rattle.proto_ast.specs.Within.{IsSpanWithin, IsWordWithin, IsNumberWithin, IsRangeWithin, IsTypeWithin}
use Rattle.proto_ast.specs.Within.{IsFieldWithin, IsMessageWithin, IsValueWithin, IsEnumWithin, IsRpcWithin}
use Rattle.proto_ast.specs.Within.{IsServiceWithin}

-- ---- a list whose first items are shifted

pub same_at : {X : Type 0} (xs ys : List X) (i : ℕ) (d : X) → drop i xs ≡ drop i ys → get_or xs i d ≡ get_or ys i d
same_at xs ys i d e =
    let z : i + 0 ≡ i = omega arith in
    ap (λ n. get_or xs n d) (sym z) ∙ sym (get_or-drop i xs 0 d) ∙ ap (λ l. get_or l 0 d) e ∙ get_or-drop i ys 0 d
    ∙ ap (λ n. get_or ys n d) z

pub All-there : {X : Type 0} (P : X → Type 0) (items init xs : List X) (i : ℕ) (d : X) → drop i items ≡ drop i init → init ≡ xs
    → i < length init → All P xs → P (get_or items i d)
All-there P items init xs i d others same within all = subst P (sym (same_at items init i d others)) (All-same P init xs same all i d within)

pub moved_more : {X : Type 0} (f : X → X) (items init : List X) (i : ℕ) (x y : X) → i < length items → i < length init
    → take i items ≡ map f (take i init) → drop i items ≡ drop i init → y ≡ f (get_or items i x)
    → take (i + 1) (set items i y) ≡ map f (take (i + 1) init)
moved_more f items init i x y here there moved others is =
    take_more_set items i y here ∙ ap (λ l. l ++ y ∷ []) moved
    ∙ ap (λ z. map f (take i init) ++ z ∷ []) (is ∙ ap f (same_at items init i x others)) ∙ sym (map_more f init i x there)

pub others_more : {X : Type 0} (items init : List X) (i : ℕ) (y : X) → drop i items ≡ drop i init
    → drop (i + 1) (set items i y) ≡ drop (i + 1) init
others_more items init i y others =
    drop-set-lt (i + 1) items i y (omega arith) ∙ sym (drop-drop 1 i items) ∙ ap (λ l. drop 1 l) others ∙ drop-drop 1 i init

-- ---- one more file

-- what precedes the file after these files
abbrev pub past : FileBase → List LinkedFile → FileBase
past b [] = b
past b (p ∷ ps) = past (after_file b p) ps

pub past-push : (b : FileBase) (ps : List LinkedFile) (p : LinkedFile) → past b (ps ++ p ∷ []) ≡ after_file (past b ps) p
past-push b [] p = refl
past-push b (q ∷ ps) p = past-push (after_file b q) ps p

pub past-files : (b : FileBase) (ps : List LinkedFile) → (past b ps).files ≡ b.files + length ps
past-files b [] = omega arith
past-files b (p ∷ ps) = omega (arith, past-files (after_file b p) ps)

pub past-bytes : (b : FileBase) (ps : List LinkedFile) → (past b ps).bytes ≡ b.bytes + sum (sizes_of ps)
past-bytes b [] = omega arith
past-bytes b (p ∷ ps) = omega (arith, past-bytes (after_file b p) ps, sum_by-cons (λ x. x) p.size (sizes_of ps))

pub gathered-push : {X Y : Type 0} (shift : FileBase → X → Y) (declares : LinkedFile → List X) (b : FileBase) (ps : List LinkedFile) (p : LinkedFile)
    → gathered shift declares b (ps ++ p ∷ []) ≡ gathered shift declares b ps ++ map (shift (past b ps)) (declares p)
gathered-push shift declares b [] p = append-nil (map (shift b) (declares p))
gathered-push shift declares b (q ∷ ps) p =
    ap (λ l. map (shift b) (declares q) ++ l) (gathered-push shift declares (after_file b q) ps p)
    ∙ sym (append_assoc (map (shift b) (declares q)) (gathered shift declares (after_file b q) ps)
    (map (shift (past (after_file b q) ps)) (declares p)))

pub joined-push : (ps : List LinkedFile) (p : LinkedFile) → joined (ps ++ p ∷ []) ≡ joined_with_file (joined ps) (past before_first_file ps) p
joined-push ps p =
    let heads = gathered-push shift_head heads_of before_first_file ps p in
    let messages = gathered-push shift_message (λ q. q.file.messages) before_first_file ps p in
    let enums = gathered-push shift_enum (λ q. q.file.enums) before_first_file ps p in
    let services = gathered-push shift_service (λ q. q.file.services) before_first_file ps p in
    cc

-- ---- what lies in a text also lies in a longer one

module _ (size room : ℕ) (more : size ≤ room) where
  span_more : (s : Span) → IsSpanWithin size s → IsSpanWithin room s
  span_more s h = record { start = omega arith; end = omega arith }

  word_more : (w : Word) → IsWordWithin size w → IsWordWithin room w
  word_more w h = span_more w.span h

  number_more : (n : Number) → IsNumberWithin size n → IsNumberWithin room n
  number_more n h = span_more n.span h

  some_number_more : (n : Option Number) → IfSome n (IsNumberWithin size) → IfSome n (IsNumberWithin room)
  some_number_more None h = tt
  some_number_more (Some n) h = number_more n h

  some_word_more : (w : Option Word) → IfSome w (IsWordWithin size) → IfSome w (IsWordWithin room)
  some_word_more None h = tt
  some_word_more (Some w) h = word_more w h

  range_more : (r : Range) → IsRangeWithin size r → IsRangeWithin room r
  range_more r h = record { first = number_more r.first h.first; last = some_number_more r.last h.last }

  type_more : (t : FieldType) → IsTypeWithin size t → IsTypeWithin room t
  type_more (Named w) h = word_more w h
  type_more (Map key value) h = (word_more key h.0, word_more value h.1)
  type_more (NestedMap key) h = word_more key h

  field_more : (f : FieldDecl) → IsFieldWithin size f → IsFieldWithin room f
  field_more f h = record {
    name = word_more f.name h.name;
    number = number_more f.number h.number;
    kind = type_more f.kind h.kind;
  }

  words_more : (ws : List Word) → All (IsWordWithin size) ws → All (IsWordWithin room) ws
  words_more ws h = All-weaker (IsWordWithin size) (IsWordWithin room) word_more ws h

  ranges_more : (rs : List Range) → All (IsRangeWithin size) rs → All (IsRangeWithin room) rs
  ranges_more rs h = All-weaker (IsRangeWithin size) (IsRangeWithin room) range_more rs h

  message_more : (m : MessageDecl) → IsMessageWithin size m → IsMessageWithin room m
  message_more m h = record {
    name = word_more m.name h.name;
    fields = All-weaker (IsFieldWithin size) (IsFieldWithin room) field_more m.fields h.fields;
    oneofs = words_more m.oneofs h.oneofs;
    ranges = ranges_more m.ranges h.ranges;
    names = words_more m.names h.names;
  }

  value_more : (v : ValueDecl) → IsValueWithin size v → IsValueWithin room v
  value_more v h = record { name = word_more v.name h.name; number = number_more v.number h.number }

  enum_more : (e : EnumDecl) → IsEnumWithin size e → IsEnumWithin room e
  enum_more e h = record {
    name = word_more e.name h.name;
    values = All-weaker (IsValueWithin size) (IsValueWithin room) value_more e.values h.values;
    ranges = ranges_more e.ranges h.ranges;
    names = words_more e.names h.names;
  }

  rpc_more : (r : RpcDecl) → IsRpcWithin size r → IsRpcWithin room r
  rpc_more r h = record {
    name = word_more r.name h.name;
    input = word_more r.input h.input;
    output = word_more r.output h.output;
  }

  service_more : (s : ServiceDecl) → IsServiceWithin size s → IsServiceWithin room s
  service_more s h = record {
    name = word_more s.name h.name;
    rpcs = All-weaker (IsRpcWithin size) (IsRpcWithin room) rpc_more s.rpcs h.rpcs;
  }

-- ---- a valid file can follow others

place_fits : (n messages : ℕ) (place : Option ℕ) → messages + n < 2 ^ 64 → IsIndexBelow n place
    → IfSome place (λ i. messages + i < 2 ^ 64)
place_fits n messages None fits below = tt
place_fits n messages (Some i) fits below = omega arith

pub can_place : (b : FileBase) (files k : ℕ) (p : LinkedFile) → b.bytes + p.size < 2 ^ 64 → b.messages + length p.file.messages < 2 ^ 64
    → IsWellPlaced files k p → CanPlace b p
can_place b files k p bytes messages sound =
    let room : ℕ = room_after b.bytes in
    let more : p.size ≤ room = omega arith in
    record {
      package_name = some_word_more p.size room more p.file.package sound.within.package_name;
      messages = λ i d l. record {
        within = message_more p.size room more (get_or p.file.messages i d) (sound.within.messages i d l);
        parent = place_fits i b.messages (get_or p.file.messages i d).parent (omega arith)
            (sound.formed.parents i (get_or p.file.messages i d) (slice_get-get_or p.file.messages i d l));
      };
      enums = λ i d l. record {
        within = enum_more p.size room more (get_or p.file.enums i d) (sound.within.enums i d l);
        parent = place_fits (length p.file.messages) b.messages (get_or p.file.enums i d).parent messages
            (sound.formed.enum_parents i d l);
      };
      services = λ i d l. service_more p.size room more (get_or p.file.services i d) (sound.within.services i d l);
    }

-- ---- the current file

-- the texts so far and the current one are together no longer than all
pub sizes_fit : (ps ys : List LinkedFile) (p : LinkedFile) → map (λ y. y) ys ≡ take (length ys) ps → length ys < length ps
    → p ≡ get_or ps (length ys) p → sum (sizes_of ys) + p.size ≤ sum (sizes_of ps)
sizes_fit ps ys p front within at =
    let size : LinkedFile → ℕ = λ q. q.size in
    omega (
      arith,
      sum-map size ys,
      sum-map size ps,
      ap (λ l. sum_by size l) (sym (map-id ys) ∙ front),
      ap size at,
      sum_by_more_le size ps (length ys) p within,
    )
