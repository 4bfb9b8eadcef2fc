-- The tokens that complete a field, by how much of it is read.
use Rattle.std.proofs.Common.{subst, ◌≡◌, ℕ, Bool, true, false, List, [], ◌∷◌, ◌++◌, codes, refl, ap, sym, ◌∙◌}
use Rattle.std.specs.Prelude.{Ok, Err, Result, Option, None}
use Rattle.std.specs.Str.{bytes_eq}
use Rattle.mrpc_table.specs.declared.words.Decimal.{Decimal}
use Rattle.proto_ast.specs.Dot.{dot}
use Rattle.proto_grammar.specs.Lexemes.{identifier, integer, Lexeme, semicolon, equals, less, span_to, make_word, make_number, IsWord, IsPunctuator, is_the_word}
use Rattle.proto_grammar.specs.Grammar.{relative, group_word, IsFieldType, named, IsNumberToken, whole, AreFieldOptions}
use Rattle.proto_schema.specs.Files.{make_field, IsFieldEnd, field_end}
use Rattle.proto_grammar.specs.Advancing.{wrong, is_punctuator, name_part, proto_fault_at, advance_full_name, advance_type_name, advance_field_type_name, is_map_start}
use Rattle.proto_grammar.specs.Advancing.{advance_map, advance_tail, advance_field, more_field, advance_named_field, field_head, of_type, of_map}
use Rattle.proto_grammar.specs.Advancing.{of_tail, finished_field}
use Rattle.proto_schema.proofs.Choices.{either_is, named_is, numbered_is, same_bytes, and_both}
use Rattle.proto_schema.proofs.NameLemmas.{mark_is}
use Rattle.proto_schema.proofs.NameRest.{ends, TypedRest, from_start, from_root, from_dot, from_part, from_top, no_group}
use Rattle.proto_schema.proofs.MapRest.{IsPart, not_map, MapRest, MapBack, map_back, kind_from}
use Rattle.proto_schema.proofs.TailRest.{TailRest, TailBack, tail_back, OptionsEnd, options_end}
use Rattle.proto_ast.specs.declared.file.Word.{Word}
use Rattle.proto_ast.specs.declared.file.Number.{Number}
use Rattle.proto_ast.specs.declared.file.FieldLabel.{FieldLabel}
use Rattle.proto_ast.specs.declared.file.FieldType.{FieldType}
use Rattle.proto_ast.specs.declared.file.FieldType.TheVariants as types
use Rattle.proto_ast.specs.declared.file.FieldDecl.{FieldDecl}
use Rattle.proto_grammar.specs.declared.fault.ProtoReason.TheVariants as reasons
use Rattle.proto_grammar.specs.declared.fault.ProtoFault.{ProtoFault}
use Rattle.proto_grammar.specs.declared.name.NameState.{NameState}
use Rattle.proto_grammar.specs.declared.name.NameState.TheVariants as names
use Rattle.proto_grammar.specs.declared.name.NameStep.{NameStep}
use Rattle.proto_grammar.specs.declared.name.NameStep.TheVariants as name_steps
use Rattle.proto_grammar.specs.declared.field.FieldHead.{FieldHead}
use Rattle.proto_grammar.specs.declared.field.MapState.{MapState}
use Rattle.proto_grammar.specs.declared.field.MapState.TheVariants as maps
use Rattle.proto_grammar.specs.declared.field.MapStep.{MapStep}
use Rattle.proto_grammar.specs.declared.field.MapStep.TheVariants as map_steps
use Rattle.proto_grammar.specs.declared.field.FieldState.{FieldState}
use Rattle.proto_grammar.specs.declared.field.FieldState.TheVariants as fields
use Rattle.proto_grammar.specs.declared.field.FieldStep.{FieldStep}
use Rattle.proto_grammar.specs.declared.field.FieldStep.TheVariants as steps
use Rattle.proto_grammar.specs.declared.tail.TailStep.{TailStep}
use Rattle.proto_grammar.specs.declared.tail.TailStep.TheVariants as tail_steps
use Rattle.proto_grammar.specs.declared.tail.TailState.{TailState}
use Rattle.proto_grammar.specs.declared.tail.TailState.TheVariants as tails

-- ---- the type

pub data KindFrom (s : NameState) (all : List Lexeme) : FieldType → Type 0 where
  named_from : {w : Word} → TypedRest s all w → KindFrom s all (types.Named w)
  map_here : (x : Lexeme) {ms : List Lexeme} {kind : FieldType} → IsPart s (codes "map") → IsPunctuator x less
      → MapRest (maps.Key names.Start) ms kind → all ≡ x ∷ ms → KindFrom s all kind

abbrev pub KindRest : NameState → List Lexeme → FieldType → Type 0
KindRest names.Start ys kind = IsFieldType group_word ys kind
KindRest (names.Rooted s) ys kind = KindFrom (names.Rooted s) ys kind
KindRest (names.Part v) ys kind = KindFrom (names.Part v) ys kind
KindRest (names.Dot v) ys kind = KindFrom (names.Dot v) ys kind

-- if nothing of the name is read, it has no completion yet
abbrev pub KindBack : NameState → Lexeme → Result NameStep ProtoFault → Type 0
KindBack s x (Ok (name_steps.More t)) = (ys : List Lexeme) (kind : FieldType) → KindRest t ys kind → KindRest s (x ∷ ys) kind
KindBack s x (Ok (name_steps.Whole w)) = (v : Word) × (s ≡ names.Part v) × (v ≡ w)
KindBack s x (Err e) = Unit {0}

later_kind : (s t : NameState) (x : Lexeme)
    → ((ys : List Lexeme) (w : Word) → TypedRest t ys w → TypedRest s (x ∷ ys) w) → (IsPart t (codes "map") → ⊥)
    → (ys : List Lexeme) (kind : FieldType) → KindFrom t ys kind → KindFrom s (x ∷ ys) kind
later_kind s t x b j ys kind (named_from {w = w} r) = named_from {w = w} (b ys w r)
later_kind s t x b j ys kind (map_here y p l m e) = absurd (j p)

top_kind : (x : Lexeme) → IsPunctuator x dot → is_the_word x.means (codes "group") ≡ false → (ys : List Lexeme) (kind : FieldType)
    → KindFrom (names.Rooted x.span) ys kind → IsFieldType group_word (x ∷ ys) kind
top_kind x d g ys kind (named_from {w = w} r) = named (from_top x d ys w r) (no_group x ys g)
top_kind x d g ys kind (map_here y p l m e) = absurd p

first_kind : (x : Lexeme) (n : List ℕ) → IsWord x n → is_the_word x.means (codes "group") ≡ false
    → (ys : List Lexeme) (kind : FieldType) → KindFrom (names.Part (make_word n x.span)) ys kind
    → IsFieldType group_word (x ∷ ys) kind
first_kind x n h g ys kind (named_from {w = w} r) = named (relative (from_start x n h ys w r)) (no_group x ys g)
first_kind x n h g ys kind (map_here y {ms = ms} {kind = k} p l m e) =
    subst (λ (zs : List Lexeme). IsFieldType group_word (x ∷ zs) kind) (sym e) (kind_from x y ms kind (h ∙ ap identifier (same_bytes n (codes "map") p)) l m)

kind_back : (s : NameState) (x : Lexeme) → KindBack s x (advance_field_type_name s x)
unfolding advance_full_name
kind_back names.Start x =
    either_is (KindBack names.Start x) (is_the_word x.means (codes "group")) (Err (proto_fault_at reasons.Group x.span)) (advance_type_name names.Start x) (λ e. tt)
    (λ e. either_is (KindBack names.Start x) (is_punctuator x.means dot) (Ok (name_steps.More (names.Rooted x.span))) (advance_full_name names.Start x)
    (λ d. top_kind x (mark_is x.means dot d) e)
    (λ d. named_is (KindBack names.Start x) x (λ n. name_part n x.span) (λ n h. first_kind x n h e) tt))
kind_back (names.Rooted s) x =
    named_is (KindBack (names.Rooted s) x) x (λ n. name_part (dot ∷ n) (span_to s x.span))
    (λ n h. later_kind (names.Rooted s) (names.Part (make_word (dot ∷ n) (span_to s x.span))) x (from_root s x n h) (not_map [] n)) tt
kind_back (names.Part v) x =
    either_is (KindBack (names.Part v) x) (is_punctuator x.means dot) (Ok (name_steps.More (names.Dot v))) (Ok (name_steps.Whole v))
    (λ e. later_kind (names.Part v) (names.Dot v) x (from_part v x (mark_is x.means dot e)) (λ p. p)) (λ e. (v, refl, refl))
kind_back (names.Dot v) x =
    named_is (KindBack (names.Dot v) x) x (λ n. name_part (v.name ++ dot ∷ n) (span_to v.span x.span))
    (λ n h. later_kind (names.Dot v) (names.Part (make_word (v.name ++ dot ∷ n) (span_to v.span x.span))) x (from_dot v x n h) (not_map v.name n)) tt

-- ---- the field

pub data FieldFrom (K : List Lexeme → FieldType → Type 0) (label : FieldLabel) (all : List Lexeme) (f : FieldDecl) : Type 0 where
  field_from : {ts es : List Lexeme} {kind : FieldType} {name : Word} {number : Number} {packed : Option Bool}
      → K ts kind → IsFieldEnd es name number packed → all ≡ ts ++ es → make_field name number kind label None packed ≡ f
      → FieldFrom K label all f

pub data TypedField (label : FieldLabel) (kind : FieldType) (all : List Lexeme) (f : FieldDecl) : Type 0 where
  typed_field : {name : Word} {number : Number} {packed : Option Bool} → IsFieldEnd all name number packed
      → make_field name number kind label None packed ≡ f → TypedField label kind all f

pub data NamedField (h : FieldHead) (all : List Lexeme) (f : FieldDecl) : Type 0 where
  named_field : (y z : Lexeme) {ns os : List Lexeme} {number : Number} {packed : Option Bool} → IsPunctuator y equals
      → IsNumberToken false ns number → AreFieldOptions os packed → IsPunctuator z semicolon → all ≡ y ∷ ns ++ os ++ z ∷ []
      → finished_field h number packed ≡ f → NamedField h all f

pub data NumberedField (h : FieldHead) (all : List Lexeme) (f : FieldDecl) : Type 0 where
  numbered_field : (z : Lexeme) {ns os : List Lexeme} {number : Number} {packed : Option Bool}
      → IsNumberToken false ns number → AreFieldOptions os packed → IsPunctuator z semicolon → all ≡ ns ++ os ++ z ∷ []
      → finished_field h number packed ≡ f → NumberedField h all f

abbrev pub FieldRest : FieldState → List Lexeme → FieldDecl → Type 0
FieldRest (fields.Type label s) ys f = FieldFrom (KindRest s) label ys f
FieldRest (fields.Map label s) ys f = FieldFrom (MapRest s) label ys f
FieldRest (fields.Typed label kind) ys f = TypedField label kind ys f
FieldRest (fields.Named h) ys f = NamedField h ys f
FieldRest (fields.Equals h) ys f = NumberedField h ys f
FieldRest (fields.Tail h n s) ys f = (packed : Option Bool) × TailRest s ys packed × (finished_field h n packed ≡ f)

abbrev pub FieldBack : FieldState → Lexeme → Result FieldStep ProtoFault → Type 0
FieldBack s x (Ok (steps.More t)) = (ys : List Lexeme) (f : FieldDecl) → FieldRest t ys f → FieldRest s (x ∷ ys) f
FieldBack s x (Ok (steps.Done f)) = FieldRest s (x ∷ []) f
FieldBack s x (Err e) = Unit {0}

-- the field's name, if its type is complete
named_behind : (label : FieldLabel) (kind : FieldType) (x : Lexeme) (n : List ℕ) → IsWord x n
    → (ys : List Lexeme) (f : FieldDecl) → NamedField (field_head label kind (make_word n x.span)) ys f
    → TypedField label kind (x ∷ ys) f
named_behind label kind x n h ys f (named_field y z {ns = ns} {os = os} {number = m} {packed = p} e a o s l q) =
    typed_field (field_end x y z n h e a o s (ap (λ (l : List Lexeme). x ∷ l) l)) q

of_type_back : (label : FieldLabel) (s : NameState) (x : Lexeme) (r : Result NameStep ProtoFault) → KindBack s x r
    → FieldBack (fields.Type label s) x (of_type label x r)
of_type_back label s x (Ok (name_steps.More t)) b = λ ys f k. by ys f k
  where
    by : (ys : List Lexeme) (f : FieldDecl) → FieldFrom (KindRest t) label ys f
        → FieldFrom (KindRest s) label (x ∷ ys) f
    by ys f (field_from {ts = ts} {kind = kind} k e a q) = field_from {ts = x ∷ ts} {kind = kind} (b ts kind k) e (ap (λ (l : List Lexeme). x ∷ l) a) q
of_type_back label s x (Ok (name_steps.Whole w)) (v, e, q) =
    either_is (FieldBack (fields.Type label s) x) (is_map_start w x) (more_field (fields.Map label (maps.Key names.Start))) (advance_named_field label (types.Named w) x)
    (λ m. λ ys f k. in_map m ys f k)
    (λ m. named_is (FieldBack (fields.Type label s) x) x
    (λ n. steps.More (fields.Named (field_head label (types.Named w) (make_word n x.span))))
    (λ n h. λ ys f k. in_name ys f (named_behind label (types.Named w) x n h ys f k)) tt)
  where
    in_map : is_map_start w x ≡ true → (ys : List Lexeme) (f : FieldDecl)
        → FieldFrom (MapRest (maps.Key names.Start)) label ys f → FieldFrom (KindRest s) label (x ∷ ys) f
    in_map m ys f (field_from {ts = ts} {kind = kind} k d a i) =
        let c : (is_punctuator x.means less ≡ true) × (bytes_eq w.name (codes "map") ≡ true) = and_both (is_punctuator x.means less) (bytes_eq w.name (codes "map")) m in
        let p : bytes_eq v.name (codes "map") ≡ true = subst (λ (u : Word). bytes_eq u.name (codes "map") ≡ true) (sym q) c.1 in
        let kf : KindFrom (names.Part v) (x ∷ ts) kind = map_here x p (mark_is x.means less c.0) k refl in
        field_from {ts = x ∷ ts} {kind = kind} (subst (λ (t : NameState). KindRest t (x ∷ ts) kind) (sym e) kf) d (ap (λ (l : List Lexeme). x ∷ l) a) i

    in_name : (ys : List Lexeme) (f : FieldDecl) → TypedField label (types.Named w) (x ∷ ys) f
        → FieldFrom (KindRest s) label (x ∷ ys) f
    in_name ys f (typed_field d i) =
        let kf : KindFrom (names.Part v) [] (types.Named w) = subst (λ (u : Word). KindFrom (names.Part v) [] (types.Named u)) q (named_from {w = v} ends) in
        field_from {ts = []} {kind = types.Named w} (subst (λ (t : NameState). KindRest t [] (types.Named w)) (sym e) kf) d refl i
of_type_back label s x (Err e) b = tt

of_map_back : (label : FieldLabel) (s : MapState) (x : Lexeme) (r : Result MapStep ProtoFault) → MapBack s x r
    → FieldBack (fields.Map label s) x (of_map label r)
of_map_back label s x (Ok (map_steps.More t)) b = λ ys f k. by ys f k
  where
    by : (ys : List Lexeme) (f : FieldDecl) → FieldFrom (MapRest t) label ys f → FieldFrom (MapRest s) label (x ∷ ys) f
    by ys f (field_from {ts = ts} {kind = kind} k e a q) = field_from {ts = x ∷ ts} {kind = kind} (b ts kind k) e (ap (λ (l : List Lexeme). x ∷ l) a) q
of_map_back label s x (Ok (map_steps.Done kind)) b = λ ys f k. by ys f k
  where
    by : (ys : List Lexeme) (f : FieldDecl) → TypedField label kind ys f → FieldFrom (MapRest s) label (x ∷ ys) f
    by ys f (typed_field d i) = field_from {ts = x ∷ []} {kind = kind} b d refl i
of_map_back label s x (Err e) b = tt

of_tail_back : (h : FieldHead) (n : Number) (s : TailState) (x : Lexeme) (r : Result TailStep ProtoFault) → TailBack s x r
    → FieldBack (fields.Tail h n s) x (of_tail h n r)
of_tail_back h n s x (Ok (tail_steps.More t)) b = λ ys f k. (k.0, b ys k.0 k.1, k.2)
of_tail_back h n s x (Ok (tail_steps.Done packed)) b = (packed, b, refl)
of_tail_back h n s x (Err e) b = tt

number_behind : (h : FieldHead) (x : Lexeme) (v : Decimal) → x.means ≡ integer v → (ys : List Lexeme) (f : FieldDecl)
    → (packed : Option Bool) × OptionsEnd ys packed × (finished_field h (make_number false v x.span) packed ≡ f)
    → NumberedField h (x ∷ ys) f
number_behind h x v e ys f (packed, options_end z o s a, q) = numbered_field z (whole x v e) o s (ap (λ (l : List Lexeme). x ∷ l) a) q

equals_behind : (h : FieldHead) (x : Lexeme) → IsPunctuator x equals → (ys : List Lexeme) (f : FieldDecl) → NumberedField h ys f
    → NamedField h (x ∷ ys) f
equals_behind h x e ys f (numbered_field z n o s a q) = named_field x z e n o s (ap (λ (l : List Lexeme). x ∷ l) a) q

pub field_back : (s : FieldState) (x : Lexeme) → FieldBack s x (advance_field s x)
unfolding advance_field
field_back (fields.Type label s) x = of_type_back label s x (advance_field_type_name s x) (kind_back s x)
field_back (fields.Map label s) x = of_map_back label s x (advance_map s x) (map_back s x)
field_back (fields.Typed label kind) x =
    named_is (FieldBack (fields.Typed label kind) x) x (λ n. steps.More (fields.Named (field_head label kind (make_word n x.span)))) (λ n h. named_behind label kind x n h) tt
field_back (fields.Named h) x =
    either_is (FieldBack (fields.Named h) x) (is_punctuator x.means equals) (more_field (fields.Equals h)) (wrong x) (λ e. equals_behind h x (mark_is x.means equals e)) (λ e. tt)
field_back (fields.Equals h) x =
    numbered_is (FieldBack (fields.Equals h) x) x (λ v. steps.More (fields.Tail h (make_number false v x.span) tails.Start)) (λ v e. number_behind h x v e) tt
field_back (fields.Tail h n s) x = of_tail_back h n s x (advance_tail s x) (tail_back s x)
