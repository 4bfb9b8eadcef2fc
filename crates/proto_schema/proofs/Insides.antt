-- The declarations lie within the text. Each token but the last starts before the text's end and ends there at the
-- latest. Each name and number of the file starts where a token starts, and ends where one ends.
use Rattle.std.proofs.Common.{◌≡◌, ℕ, zero, suc, ◌<◌, ◌≤◌, Bool, true, false, List, [], ◌∷◌, ◌++◌, length, ap, subst, sym, ◌∙◌, arith}
use Rattle.std.specs.Prelude.{Option, Some, None, All}
use Rattle.std.proofs.lemmas.List.Elements.{All-nil, All-cons, All-head, All-tail, All-append, All-push}
use Rattle.proto_lexer.specs.Tokens
use Rattle.proto_lexer.specs.Tokens.{AreTokens}
use Rattle.proto_lexer.specs.declared.token.Token.{Token}
use Rattle.proto_ast.specs.Within.{IsSpanWithin, IsWordWithin, IsNumberWithin, IsRangeWithin, IsTypeWithin}
use Rattle.proto_ast.specs.Within.{IsFieldWithin, IsMessageWithin, IsValueWithin, IsEnumWithin, IsRpcWithin}
use Rattle.proto_ast.specs.Within.{IsServiceWithin, IsWithin}
use Rattle.proto_ast.specs.declared.file.Span.{Span}
use Rattle.proto_ast.specs.declared.file.Word.{Word}
use Rattle.proto_ast.specs.declared.file.Number.{Number}
use Rattle.proto_ast.specs.declared.file.Range.{Range}
use Rattle.proto_ast.specs.declared.file.Import.{Import}
use Rattle.proto_ast.specs.declared.file.FieldLabel.{FieldLabel}
use Rattle.proto_ast.specs.declared.file.FieldLabel.TheVariants.{Plain}
use Rattle.proto_ast.specs.declared.file.FieldType.{FieldType}
use Rattle.proto_ast.specs.declared.file.FieldDecl.{FieldDecl}
use Rattle.proto_ast.specs.declared.file.MessageDecl.{MessageDecl}
use Rattle.proto_ast.specs.declared.file.ValueDecl.{ValueDecl}
use Rattle.proto_ast.specs.declared.file.EnumDecl.{EnumDecl}
use Rattle.proto_ast.specs.declared.file.RpcDecl.{RpcDecl}
use Rattle.proto_ast.specs.declared.file.ServiceDecl.{ServiceDecl}
use Rattle.proto_ast.specs.declared.file.File.{File}
use Rattle.proto_grammar.specs.Lexemes.{Lexeme, lexeme, lexemes, span_to, make_word}
use Rattle.proto_grammar.specs.Grammar
use Rattle.proto_grammar.specs.Grammar.{IsDottedName, IsTypeName, IsMapKey, IsFieldType, IsRpcType, IsNumberToken, IsRange, AreRanges, AreNameStrings}
use Rattle.proto_schema.specs.Files
use Rattle.proto_schema.specs.Files.{Draft, IsStatement, AreStatementsOf, AreFileTokens, IsBlockEnd, IsFieldEnd, field_end, IsRpcHead, rpc_head, initial_draft, edit_at, edit_open, edit_last, innermost_of, add_field, make_field}
use Rattle.proto_schema.specs.Faults.{IsProtoTextOf}
use Rattle.proto_schema.proofs.Along.{token_goes}

-- ---- a list with one element changed

all_edited : {X : Type 0} (P : X → Type 0) (n : ℕ) (f : X → X) (xs : List X) → ((x : X) → P x → P (f x)) → All P xs
    → All P (edit_at n f xs)
all_edited P n f [] h a = All-nil P
all_edited P zero f (x ∷ xs) h a = All-cons P (f x) xs (h x (All-head P x xs a)) (All-tail P x xs a)
all_edited P (suc n) f (x ∷ xs) h a =
    All-cons P x (edit_at n f xs) (All-head P x xs a) (all_edited P n f xs h (All-tail P x xs a))

all_edited_at : {X : Type 0} (P : X → Type 0) (o : Option ℕ) (f : X → X) (xs : List X) → ((x : X) → P x → P (f x))
    → All P xs → All P (edit_open o f xs)
all_edited_at P None f xs h a = a
all_edited_at P (Some n) f xs h a = all_edited P n f xs h a

all_edited_last : {X : Type 0} (P : X → Type 0) (f : X → X) (xs : List X) → ((x : X) → P x → P (f x)) → All P xs
    → All P (edit_last f xs)
all_edited_last P f xs h a = all_edited P _ f xs h a

-- ---- tokens in a text of this many bytes, and the parts of statements

module _ (size : ℕ) where
  abbrev Inside : List Lexeme → Type 0
  Inside [] = Unit {0}
  Inside (x ∷ xs) = IsSpanWithin size x.span × Inside xs

  inside_split : (xs ys : List Lexeme) → Inside (xs ++ ys) → Inside xs × Inside ys
  inside_split [] ys h = (tt, h)
  inside_split (x ∷ xs) ys (a, h) = let (b, c) = inside_split xs ys h in ((a, b), c)

  inside_same : (xs ys : List Lexeme) → xs ≡ ys → Inside xs → Inside ys
  inside_same xs ys q h = subst (λ (l : List Lexeme). Inside l) q h

  to_within : (a b : Span) → IsSpanWithin size a → IsSpanWithin size b → IsSpanWithin size (span_to a b)
  to_within a b h k = record { start = h.start; end = k.end }

  full_inside : {ys : List Lexeme} {w : Word} → IsDottedName ys w → Inside ys → IsWordWithin size w
  full_inside (Grammar.one x name h) (a, k) = a
  full_inside (Grammar.more x y name zs w h d f) (a, (b, k)) = to_within x.span w.span a (full_inside f k)

  type_inside : {ys : List Lexeme} {w : Word} → IsTypeName ys w → Inside ys → IsWordWithin size w
  type_inside (Grammar.relative f) h = full_inside f h
  type_inside (Grammar.absolute x {w = w} m f) (a, k) = to_within x.span w.span a (full_inside f k)

  key_inside : {ks : List Lexeme} {k : Word} → IsMapKey ks k → Inside ks → IsWordWithin size k
  key_inside {ks = ks} (Grammar.map_key x y z {ys = ys} hx hy t g hz a) h =
      let (p, (q, r)) = inside_same ks (x ∷ y ∷ ys ++ z ∷ []) a h in
      let (u, v) = inside_split ys (z ∷ []) r in type_inside t u

  kind_inside : {words : List (List ℕ)} {ts : List Lexeme} {kind : FieldType} → IsFieldType words ts kind → Inside ts
      → IsTypeWithin size kind
  kind_inside (Grammar.named t g) h = type_inside t h
  kind_inside {ts = ts} (Grammar.a_map x {ks = ks} {ys = ys} m t g hx a) h =
      let (p, q) = inside_split (ks ++ ys) (x ∷ []) (inside_same ts (ks ++ ys ++ x ∷ []) a h) in
      let (u, v) = inside_split ks ys p in (key_inside m u, type_inside t v)
  kind_inside {ts = ts} (Grammar.map_of_maps x {ks = ks} {ys = ys} m n hx a) h =
      let (p, q) = inside_split (ks ++ ys) (x ∷ []) (inside_same ts (ks ++ ys ++ x ∷ []) a h) in
      let (u, v) = inside_split ks ys p in key_inside m u

  rpc_type_inside : {is : List Lexeme} {w : Word} → IsRpcType is w → Inside is → IsWordWithin size w
  rpc_type_inside (Grammar.stream_type x h) (a, k) = a
  rpc_type_inside (Grammar.other_type t g) k = type_inside t k

  number_inside : {signed : Bool} {ns : List Lexeme} {n : Number} → IsNumberToken signed ns n → Inside ns → IsNumberWithin size n
  number_inside (Grammar.whole x value h) (a, k) = a
  number_inside (Grammar.negative x y value s h g) (a, (b, k)) = to_within x.span y.span a b

  -- a name, a token, and a number with others after it
  numbered_inside : (x y : Lexeme) {signed : Bool} {ns : List Lexeme} {n : Number} (os zs : List Lexeme) → IsNumberToken signed ns n
      → Inside (x ∷ y ∷ ns ++ os ++ zs) → IsSpanWithin size x.span × IsNumberWithin size n
  numbered_inside x y {ns = ns} os zs f (a, (b, r)) =
      let (p, q) = inside_split (ns ++ os) zs r in
      let (u, v) = inside_split ns os p in (a, number_inside f u)

  end_inside : {es : List Lexeme} {name : Word} {number : Number} {packed : Option Bool} → IsFieldEnd es name number packed
      → Inside es → IsWordWithin size name × IsNumberWithin size number
  end_inside {es = es} (field_end x y z name {ns = ns} {os = os} hx hy n o hz a) h =
      numbered_inside x y os (z ∷ []) n (inside_same es (x ∷ y ∷ ns ++ os ++ z ∷ []) a h)

  rpc_inside : {ys : List Lexeme} {r : RpcDecl} → IsRpcHead ys r → Inside ys → IsRpcWithin size r
  rpc_inside {ys = ys} (rpc_head a n c d e f g name {is = is} {os = os} {input = input} {output = output} ha hn hc ti hd he hf to hg q) h =
      by (inside_same ys (a ∷ n ∷ c ∷ is ++ d ∷ e ∷ f ∷ os ++ g ∷ []) q h)
    where
      by : Inside (a ∷ n ∷ c ∷ is ++ d ∷ e ∷ f ∷ os ++ g ∷ [])
          → IsRpcWithin size (record { name = make_word name n.span; input = input; output = output })
      by (ka, (kn, (kc, r))) =
          let (s, t) = inside_split (is ++ d ∷ e ∷ f ∷ os) (g ∷ []) r in
          let (u, (kd, (ke, (kf, v)))) = inside_split is (d ∷ e ∷ f ∷ os) s in
          record { name = kn; input = rpc_type_inside ti u; output = rpc_type_inside to v }

  -- reserved numbers and names
  range_inside : {signed : Bool} {ys : List Lexeme} {r : Range} → IsRange signed ys r → Inside ys → IsRangeWithin size r
  range_inside (Grammar.single n) h = record { first = number_inside n h; last = number_inside n h }
  range_inside {ys = all} (Grammar.between x {ys = ys} {zs = zs} f hx g a) h =
      let (p, (q, r)) = inside_split ys (x ∷ zs) (inside_same all (ys ++ x ∷ zs) a h) in
      record { first = number_inside f p; last = number_inside g r }
  range_inside {ys = all} (Grammar.up_from x y {ys = ys} f hx hy a) h =
      let (p, q) = inside_split ys (x ∷ y ∷ []) (inside_same all (ys ++ x ∷ y ∷ []) a h) in
      record { first = number_inside f p; last = tt }

  ranges_inside : {signed : Bool} {ys : List Lexeme} {rs : List Range} → AreRanges signed ys rs → Inside ys
      → All (IsRangeWithin size) rs
  ranges_inside (Grammar.one_range {r = r} f) h =
      All-cons (IsRangeWithin size) r [] (range_inside f h) (All-nil (IsRangeWithin size))
  ranges_inside {ys = all} (Grammar.ranges x {ys = ys} {zs = zs} {r = r} {rs = rs} f hx g a) h =
      let (p, (q, k)) = inside_split ys (x ∷ zs) (inside_same all (ys ++ x ∷ zs) a h) in
      All-cons (IsRangeWithin size) r rs (range_inside f p) (ranges_inside g k)

  names_inside : {ys : List Lexeme} {ws : List Word} → AreNameStrings ys ws → Inside ys → All (IsWordWithin size) ws
  names_inside (Grammar.one_name x name h) (a, k) =
      All-cons (IsWordWithin size) (make_word name x.span) [] a (All-nil (IsWordWithin size))
  names_inside (Grammar.names x y name {ws = ws} h g f) (a, (b, k)) =
      All-cons (IsWordWithin size) (make_word name x.span) ws a (names_inside f k)

  -- ---- declarations

  within_package : (F : File) (w : Word) → IsWordWithin size w → IsWithin size F → IsWithin size (record F { «package» = Some w })
  within_package F w h k = record { package_name = h; messages = k.messages; enums = k.enums; services = k.services }

  within_import : (F : File) (i : Import) → IsWithin size F → IsWithin size (record F { imports = F.imports ++ i ∷ [] })
  within_import F i k = record { package_name = k.package_name; messages = k.messages; enums = k.enums; services = k.services }

  within_message : (F : File) (w : Word) (parent : Option ℕ) → IsWordWithin size w → IsWithin size F
      → IsWithin size (record F {
        messages = F.messages ++ record { name = w; file = 0; parent = parent; fields = []; oneofs = []; ranges = []; names = [] } ∷ [];
      })
  within_message F w parent h k = record {
    package_name = k.package_name;
    messages = All-push (IsMessageWithin size) F.messages opened k.messages (record {
      name = h;
      fields = All-nil (IsFieldWithin size);
      oneofs = All-nil (IsWordWithin size);
      ranges = All-nil (IsRangeWithin size);
      names = All-nil (IsWordWithin size);
    });
    enums = k.enums;
    services = k.services;
  }
    where
      opened : MessageDecl
      opened = record { name = w; file = 0; parent = parent; fields = []; oneofs = []; ranges = []; names = [] }

  within_enum : (F : File) (w : Word) (parent : Option ℕ) → IsWordWithin size w → IsWithin size F
      → IsWithin size (record F {
        enums = F.enums ++ record { name = w; file = 0; parent = parent; values = []; ranges = []; names = [] } ∷ [];
      })
  within_enum F w parent h k = record {
    package_name = k.package_name;
    messages = k.messages;
    enums = All-push (IsEnumWithin size) F.enums opened k.enums (record {
      name = h;
      values = All-nil (IsValueWithin size);
      ranges = All-nil (IsRangeWithin size);
      names = All-nil (IsWordWithin size);
    });
    services = k.services;
  }
    where
      opened : EnumDecl
      opened = record { name = w; file = 0; parent = parent; values = []; ranges = []; names = [] }

  within_service : (F : File) (w : Word) → IsWordWithin size w → IsWithin size F
      → IsWithin size (record F { services = F.services ++ record { name = w; file = 0; rpcs = [] } ∷ [] })
  within_service F w h k = record {
    package_name = k.package_name;
    messages = k.messages;
    enums = k.enums;
    services = All-push (IsServiceWithin size) F.services opened k.services (record { name = h; rpcs = All-nil (IsRpcWithin size) });
  }
    where
      opened : ServiceDecl
      opened = record { name = w; file = 0; rpcs = [] }

  -- a change that keeps a message within the text
  within_in_message : (F : File) (o : Option ℕ) (f : MessageDecl → MessageDecl)
      → ((m : MessageDecl) → IsMessageWithin size m → IsMessageWithin size (f m)) → IsWithin size F
      → IsWithin size (record F { messages = edit_open o f F.messages })
  within_in_message F o f same k = record {
    package_name = k.package_name;
    messages = all_edited_at (IsMessageWithin size) o f F.messages same k.messages;
    enums = k.enums;
    services = k.services;
  }

  within_in_enum : (F : File) (f : EnumDecl → EnumDecl) → ((e : EnumDecl) → IsEnumWithin size e → IsEnumWithin size (f e))
      → IsWithin size F → IsWithin size (record F { enums = edit_last f F.enums })
  within_in_enum F f same k = record {
    package_name = k.package_name;
    messages = k.messages;
    enums = all_edited_last (IsEnumWithin size) f F.enums same k.enums;
    services = k.services;
  }

  within_field : (F : File) (o : Option ℕ) (f : FieldDecl) → IsFieldWithin size f → IsWithin size F
      → IsWithin size (record F { messages = edit_open o (λ m. record m { fields = m.fields ++ f ∷ [] }) F.messages })
  within_field F o f h k = within_in_message F o (λ m. record m { fields = m.fields ++ f ∷ [] }) (λ m g. record {
    name = g.name;
    fields = All-push (IsFieldWithin size) m.fields f g.fields h;
    oneofs = g.oneofs;
    ranges = g.ranges;
    names = g.names;
  }) k

  within_oneof : (F : File) (o : Option ℕ) (w : Word) → IsWordWithin size w → IsWithin size F
      → IsWithin size (record F { messages = edit_open o (λ m. record m { oneofs = m.oneofs ++ w ∷ [] }) F.messages })
  within_oneof F o w h k = within_in_message F o (λ m. record m { oneofs = m.oneofs ++ w ∷ [] }) (λ m g. record {
    name = g.name;
    fields = g.fields;
    oneofs = All-push (IsWordWithin size) m.oneofs w g.oneofs h;
    ranges = g.ranges;
    names = g.names;
  }) k

  within_ranges : (F : File) (o : Option ℕ) (rs : List Range) → All (IsRangeWithin size) rs → IsWithin size F
      → IsWithin size (record F { messages = edit_open o (λ m. record m { ranges = m.ranges ++ rs }) F.messages })
  within_ranges F o rs h k = within_in_message F o (λ m. record m { ranges = m.ranges ++ rs }) (λ m g. record {
    name = g.name;
    fields = g.fields;
    oneofs = g.oneofs;
    ranges = All-append (IsRangeWithin size) m.ranges rs g.ranges h;
    names = g.names;
  }) k

  within_names : (F : File) (o : Option ℕ) (ws : List Word) → All (IsWordWithin size) ws → IsWithin size F
      → IsWithin size (record F { messages = edit_open o (λ m. record m { names = m.names ++ ws }) F.messages })
  within_names F o ws h k = within_in_message F o (λ m. record m { names = m.names ++ ws }) (λ m g. record {
    name = g.name;
    fields = g.fields;
    oneofs = g.oneofs;
    ranges = g.ranges;
    names = All-append (IsWordWithin size) m.names ws g.names h;
  }) k

  within_value : (F : File) (v : ValueDecl) → IsValueWithin size v → IsWithin size F
      → IsWithin size (record F { enums = edit_last (λ e. record e { values = e.values ++ v ∷ [] }) F.enums })
  within_value F v h k = within_in_enum F (λ e. record e { values = e.values ++ v ∷ [] }) (λ e g. record {
    name = g.name;
    values = All-push (IsValueWithin size) e.values v g.values h;
    ranges = g.ranges;
    names = g.names;
  }) k

  within_value_ranges : (F : File) (rs : List Range) → All (IsRangeWithin size) rs → IsWithin size F
      → IsWithin size (record F { enums = edit_last (λ e. record e { ranges = e.ranges ++ rs }) F.enums })
  within_value_ranges F rs h k = within_in_enum F (λ e. record e { ranges = e.ranges ++ rs }) (λ e g. record {
    name = g.name;
    values = g.values;
    ranges = All-append (IsRangeWithin size) e.ranges rs g.ranges h;
    names = g.names;
  }) k

  within_value_names : (F : File) (ws : List Word) → All (IsWordWithin size) ws → IsWithin size F
      → IsWithin size (record F { enums = edit_last (λ e. record e { names = e.names ++ ws }) F.enums })
  within_value_names F ws h k = within_in_enum F (λ e. record e { names = e.names ++ ws }) (λ e g. record {
    name = g.name;
    values = g.values;
    ranges = g.ranges;
    names = All-append (IsWordWithin size) e.names ws g.names h;
  }) k

  within_rpc : (F : File) (r : RpcDecl) → IsRpcWithin size r → IsWithin size F
      → IsWithin size (record F { services = edit_last (λ s. record s { rpcs = s.rpcs ++ r ∷ [] }) F.services })
  within_rpc F r h k = record {
    package_name = k.package_name;
    messages = k.messages;
    enums = k.enums;
    services = all_edited_last (IsServiceWithin size) (λ s. record s { rpcs = s.rpcs ++ r ∷ [] }) F.services (λ s g. record {
      name = g.name;
      rpcs = All-push (IsRpcWithin size) s.rpcs r g.rpcs h;
    }) k.services;
  }

  -- ---- statements

  within_close : (d : Draft) {other : Draft} → IsBlockEnd d other → IsWithin size d.file → IsWithin size other.file
  within_close d (Files.message_ends i is b e) k = k
  within_close d (Files.oneof_ends i b) k = k
  within_close d (Files.enum_ends b) k = k
  within_close d (Files.service_ends b) k = k
  within_close d (Files.rpc_ends b) k = k

  -- the second token, and the tokens between the first and the last
  second_inside : (all : List Lexeme) (x y : Lexeme) (ys : List Lexeme) → all ≡ x ∷ y ∷ ys → Inside all
      → IsSpanWithin size y.span
  second_inside all x y ys a h = let (p, (q, r)) = inside_same all (x ∷ y ∷ ys) a h in q

  middle_inside : (all : List Lexeme) (x z : Lexeme) (ys : List Lexeme) → all ≡ x ∷ ys ++ z ∷ [] → Inside all → Inside ys
  middle_inside all x z ys a h =
      let (p, r) = inside_same all (x ∷ ys ++ z ∷ []) a h in
      let (u, v) = inside_split ys (z ∷ []) r in u

  front_inside : (all ys : List Lexeme) (z : Lexeme) → all ≡ ys ++ z ∷ [] → Inside all → Inside ys
  front_inside all ys z a h = let (u, v) = inside_split ys (z ∷ []) (inside_same all (ys ++ z ∷ []) a h) in u

  within_field_statement : (d : Draft) {ts es : List Lexeme} {words : List (List ℕ)} {kind : FieldType} {name : Word} {number : Number}
      {packed : Option Bool} (label : FieldLabel) (oneof : Option ℕ) → IsFieldType words ts kind → IsFieldEnd es name number packed
      → Inside ts → Inside es → IsWithin size d.file → IsWithin size (add_field d (make_field name number kind label oneof packed)).file
  within_field_statement d {kind = kind} {name = name} {number = number} {packed = packed} label oneof t f h g k =
      let (a, b) = end_inside f g in
      within_field d.file (innermost_of d.messages) (make_field name number kind label oneof packed)
      (record { name = a; number = b; kind = kind_inside t h }) k

  within_statement : (d : Draft) {all : List Lexeme} {other : Draft} → IsStatement d all other → Inside all → IsWithin size d.file
      → IsWithin size other.file
  within_statement d {all = all} (Files.package_name x z {ys = ys} {w = w} i n hx f hz a) h k =
      within_package d.file w (full_inside f (middle_inside all x z ys a h)) k
  within_statement d (Files.import x y z path i hx hy hz a) h k =
      within_import d.file (record { path = path; public = false; span = y.span }) k
  within_statement d (Files.public_import x p y z path i hx hp hy hz a) h k =
      within_import d.file (record { path = path; public = true; span = y.span }) k
  within_statement d (Files.option x z hx o hz a) h k = k
  within_statement d (Files.empty x i hx a) h k = k
  within_statement d {all = all} (Files.message x y z name i hx hy hz a) h k =
      within_message d.file (make_word name y.span) (innermost_of d.messages) (second_inside all x y (z ∷ []) a h) k
  within_statement d {all = all} (Files.enum x y z name i hx hy hz a) h k =
      within_enum d.file (make_word name y.span) (innermost_of d.messages) (second_inside all x y (z ∷ []) a h) k
  within_statement d {all = all} (Files.service x y z name i hx hy hz a) h k =
      within_service d.file (make_word name y.span) (second_inside all x y (z ∷ []) a h) k
  within_statement d {all = all} (Files.oneof x y z name i hx hy hz a) h k =
      within_oneof d.file (innermost_of d.messages) (make_word name y.span) (second_inside all x y (z ∷ []) a h) k
  within_statement d {all = all} (Files.a_field {ls = ls} {ts = ts} {es = es} {label = label} i l t f a) h k =
      let (p, q) = inside_split (ls ++ ts) es (inside_same all (ls ++ ts ++ es) a h) in
      let (u, v) = inside_split ls ts p in within_field_statement d label None t f v q k
  within_statement d {all = all} (Files.member i filled {ts = ts} {es = es} b t f a) h k =
      let (p, q) = inside_split ts es (inside_same all (ts ++ es) a h) in
      within_field_statement d Plain (Some i) t f p q k
  within_statement d {all = all} (Files.reserved_numbers x z {ys = ys} {rs = rs} i hx r hz a) h k =
      within_ranges d.file (innermost_of d.messages) rs (ranges_inside r (middle_inside all x z ys a h)) k
  within_statement d {all = all} (Files.reserved_names x z {ys = ys} {ws = ws} i hx r hz a) h k =
      within_names d.file (innermost_of d.messages) ws (names_inside r (middle_inside all x z ys a h)) k
  within_statement d {all = all} (Files.reserved_values x z filled {ys = ys} {rs = rs} q hx r hz a) h k =
      within_value_ranges d.file rs (ranges_inside r (middle_inside all x z ys a h)) k
  within_statement d {all = all} (Files.reserved_value_names x z filled {ys = ys} {ws = ws} q hx r hz a) h k =
      within_value_names d.file ws (names_inside r (middle_inside all x z ys a h)) k
  within_statement d {all = all} (Files.value x y z name filled {ns = ns} {os = os} {number = number} q hx w hy n o hz a) h k =
      let (b, c) = numbered_inside x y os (z ∷ []) n (inside_same all (x ∷ y ∷ ns ++ os ++ z ∷ []) a h) in
      within_value d.file (record { name = make_word name x.span; number = number }) (record { name = b; number = c }) k
  within_statement d {all = all} (Files.rpc z {ys = ys} {r = r} q f hz a) h k =
      within_rpc d.file r (rpc_inside f (front_inside all ys z a h)) k
  within_statement d {all = all} (Files.rpc_with_options z {ys = ys} {r = r} q f hz a) h k =
      within_rpc d.file r (rpc_inside f (front_inside all ys z a h)) k
  within_statement d (Files.close x hx a c) h k = within_close d c k

  -- ---- texts

  nothing_within : IsWithin size initial_draft.file
  nothing_within = record {
    package_name = tt;
    messages = All-nil (IsMessageWithin size);
    enums = All-nil (IsEnumWithin size);
    services = All-nil (IsServiceWithin size);
  }

  within_so_far : {xs : List Lexeme} {d : Draft} → AreStatementsOf xs d → Inside xs → IsWithin size d.file
  within_so_far (Files.start x) h = nothing_within
  within_so_far {xs = all} (Files.another {xs = xs} {ys = ys} {c = c} x y a) h =
      let (p, q) = inside_split xs ys (inside_same all (xs ++ ys) a h) in within_statement c y q (within_so_far x p)

  -- all tokens but the last
  abbrev AreInside : List Lexeme → Type 0
  AreInside all = (xs : List Lexeme) (x : Lexeme) → all ≡ xs ++ x ∷ [] → Inside xs

  within_file : {all : List Lexeme} {F : File} → AreFileTokens all F → AreInside all → IsWithin size F
  within_file (Files.whole x {xs = xs} s w m a) h = within_so_far s (h xs x a)

not_nothing : (xs : List Lexeme) (x : Lexeme) → [] ≡ xs ++ x ∷ [] → ⊥
not_nothing [] x e = let t : ◌≡◌ {A = List Lexeme} [] (x ∷ []) = e in cc
not_nothing (y ∷ ys) x e = let t : ◌≡◌ {A = List Lexeme} [] (y ∷ ys ++ x ∷ []) = e in cc

tokens_inside : (text : List ℕ) (b : ℕ) {ts : List Token} → AreTokens text b ts → AreInside (length text) (lexemes text ts)
tokens_inside text b (Tokens.last t e n k) [] x q = tt
tokens_inside text b (Tokens.last t e n k) (y ∷ ys) x q =
    let r : lexeme text t ∷ [] ≡ y ∷ ys ++ x ∷ [] = ap (λ (us : List Token). lexemes text us) (sym e) ∙ q in
    absurd (not_nothing ys x (cc))
tokens_inside text b (Tokens.another t others e n k a) [] x q = tt
tokens_inside text b (Tokens.another t others e n k a) (y ∷ ys) x q =
    let r : lexeme text t ∷ lexemes text others ≡ y ∷ ys ++ x ∷ [] = ap (λ (us : List Token). lexemes text us) (sym e) ∙ q in
    let head : lexeme text t ≡ y = (cc) in
    let l : t.start < t.end = token_goes text t n.here k in
    let m : t.end ≤ length text = n.within in (
      subst (λ (y : Lexeme). IsSpanWithin (length text) y.span) head (record { start = omega arith; end = m }),
      tokens_inside text t.end a ys x (cc),
    )

pub text_within : (text : List ℕ) (F : File) → IsProtoTextOf text F → IsWithin (length text) F
text_within text F h = within_file (length text) h.reads (tokens_inside text 0 h.of_text)
