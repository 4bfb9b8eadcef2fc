-- A field is read, token by token.
use Rattle.std.proofs.Common.{subst, ◌≡◌, ℕ, suc, ◌+◌, ◌-◌, nat_le, Bool, true, false, List, [], ◌∷◌, ◌++◌, codes, refl, ap, ◌∙◌, arith, add-one}
use Rattle.std.specs.Prelude.{Ok, Result, Option, None}
use Rattle.std.proofs.lemmas.Bool.{lt-leb}
use Rattle.std.proofs.lemmas.List.{append_assoc}
use Rattle.mrpc_table.specs.declared.words.Decimal.{Decimal}
use Rattle.proto_ast.specs.Dot.{dot}
use Rattle.proto_grammar.specs.Lexemes.{integer, Lexeme, comma, equals, less, greater, span_to, make_word, make_number, rooted, IsWord, IsPunctuator, is_the_word}
use Rattle.proto_grammar.specs.Grammar.{IsDottedName, one, more, IsTypeName, relative, absolute, starts_with_word, group_word}
use Rattle.proto_grammar.specs.Grammar.{IsMapKey, map_key, IsNestedMap, innermost, around, IsFieldType, named, a_map}
use Rattle.proto_grammar.specs.Grammar.{map_of_maps, whole, negative}
use Rattle.proto_schema.specs.Files.{make_field, IsFieldEnd, field_end}
use Rattle.proto_grammar.specs.Advancing.{is_punctuator, by_number, name_part, advance_full_name, advance_field_type_name, after_key, advance_map, of_key}
use Rattle.proto_grammar.specs.Advancing.{of_inner_key, of_map_value, of_inner_value, advance_field, field_head, of_type, of_map}
use Rattle.proto_grammar.specs.Advancing.{of_tail, finished_field, advance_tail}
use Rattle.proto_schema.proofs.NameLemmas.{Walks, stay, go, walks_on, walks_in, word_no_mark, is_name}
use Rattle.proto_schema.proofs.NameRest.{behind_dot}
use Rattle.proto_schema.proofs.OptionReads.{TailGoes, tail_reads}
use Rattle.proto_schema.proofs.Takes.{Takes, last, next, walk_takes}
use Rattle.proto_ast.specs.declared.file.Span.{Span}
use Rattle.proto_ast.specs.declared.file.Word.{Word}
use Rattle.proto_ast.specs.declared.file.Number.{Number}
use Rattle.proto_ast.specs.declared.file.FieldLabel.{FieldLabel}
use Rattle.proto_ast.specs.declared.file.FieldType.{FieldType}
use Rattle.proto_ast.specs.declared.file.FieldType.TheVariants as types
use Rattle.proto_ast.specs.declared.file.FieldDecl.{FieldDecl}
use Rattle.proto_grammar.specs.declared.fault.ProtoFault.{ProtoFault}
use Rattle.proto_grammar.specs.declared.name.NameState.{NameState}
use Rattle.proto_grammar.specs.declared.name.NameState.TheVariants as names
use Rattle.proto_grammar.specs.declared.name.NameStep.{NameStep}
use Rattle.proto_grammar.specs.declared.name.NameStep.TheVariants as name_steps
use Rattle.proto_grammar.specs.declared.field.FieldHead.{FieldHead}
use Rattle.proto_grammar.specs.declared.field.MapState.{MapState}
use Rattle.proto_grammar.specs.declared.field.MapState.TheVariants as maps
use Rattle.proto_grammar.specs.declared.field.MapStep.TheVariants as map_steps
use Rattle.proto_grammar.specs.declared.field.FieldState.{FieldState}
use Rattle.proto_grammar.specs.declared.field.FieldState.TheVariants as fields
use Rattle.proto_grammar.specs.declared.field.FieldStep.TheVariants as steps
use Rattle.proto_grammar.specs.declared.tail.TailState.{TailState}
use Rattle.proto_grammar.specs.declared.tail.TailState.TheVariants as tails
use Rattle.proto_grammar.specs.declared.tail.TailStep.TheVariants as tail_steps

-- ---- a type's name

abbrev pub TypedGoes : NameState → Lexeme → NameState → Type 0
TypedGoes s x t = advance_field_type_name s x ≡ Ok (name_steps.More t)

pub first_goes : (x : Lexeme) (n : List ℕ) → IsWord x n → is_the_word x.means (codes "group") ≡ false
    → TypedGoes names.Start x (names.Part (make_word n x.span))
unfolding advance_full_name
first_goes x n h g = rw (g, word_no_mark x.means n dot h) (is_name x (λ n. name_part n x.span) n h)

pub root_goes : (x : Lexeme) → IsPunctuator x dot → TypedGoes names.Start x (names.Rooted x.span)
root_goes x h = rw h refl

pub dot_goes : (x : Lexeme) (w : Word) → IsPunctuator x dot → TypedGoes (names.Part w) x (names.Dot w)
unfolding advance_full_name
dot_goes x w h = rw h refl

pub part_goes : (x : Lexeme) (n : List ℕ) (w : Word) → IsWord x n
    → TypedGoes (names.Dot w) x (names.Part (make_word (w.name ++ dot ∷ n) (span_to w.span x.span)))
unfolding advance_full_name
part_goes x n w h = is_name x (λ n. name_part (w.name ++ dot ∷ n) (span_to w.span x.span)) n h

pub rooted_goes : (x : Lexeme) (n : List ℕ) (s : Span) → IsWord x n
    → TypedGoes (names.Rooted s) x (names.Part (make_word (dot ∷ n) (span_to s x.span)))
unfolding advance_full_name
rooted_goes x n s h = is_name x (λ n. name_part (dot ∷ n) (span_to s x.span)) n h

behind : {ys : List Lexeme} {w : Word} (v : Word) → IsDottedName ys w
    → Walks TypedGoes (names.Dot v) ys (names.Part (behind_dot v w))
behind v (one x n h) = go x [] refl (part_goes x n v h) (stay refl refl)
behind v (more x y n zs w h d f) =
    let u : Word = make_word (v.name ++ dot ∷ n) (span_to v.span x.span) in
    let same : ◌≡◌ {A = List ℕ} ((v.name ++ dot ∷ n) ++ dot ∷ w.name) (v.name ++ dot ∷ (n ++ dot ∷ w.name)) = append_assoc v.name (dot ∷ n) (dot ∷ w.name) in
    go x (y ∷ zs) refl (part_goes x n v h) (go y zs refl (dot_goes y u d)
    (subst (λ (b : List ℕ). Walks TypedGoes (names.Dot u) zs (names.Part (make_word b (span_to v.span w.span)))) same (behind u f)))

behind_root : {ys : List Lexeme} {w : Word} (s : Span) → IsDottedName ys w
    → Walks TypedGoes (names.Rooted s) ys (names.Part (rooted s w))
behind_root s (one x n h) = go x [] refl (rooted_goes x n s h) (stay refl refl)
behind_root s (more x y n zs w h d f) =
    let u : Word = make_word (dot ∷ n) (span_to s x.span) in
    go x (y ∷ zs) refl (rooted_goes x n s h) (go y zs refl (dot_goes y u d) (behind u f))

pub no_group : (x : Lexeme) (ys : List Lexeme) → starts_with_word group_word (x ∷ ys) ≡ false
    → is_the_word x.means (codes "group") ≡ false
no_group x ys h = by (is_the_word x.means (codes "group")) refl
  where
    by : (b : Bool) → is_the_word x.means (codes "group") ≡ b → is_the_word x.means (codes "group") ≡ false
    by false e = e
    by true e = absurd (let t : true ≡ false = rw e at h in cc)

pub typed_reads : {ys : List Lexeme} {w : Word} → IsTypeName ys w → starts_with_word group_word ys ≡ false
    → Walks TypedGoes names.Start ys (names.Part w)
typed_reads (relative (one x n h)) g = go x [] refl (first_goes x n h (no_group x [] g)) (stay refl refl)
typed_reads (relative (more x y n zs w h d f)) g =
    go x (y ∷ zs) refl (first_goes x n h (no_group x (y ∷ zs) g)) (go y zs refl (dot_goes y (make_word n x.span) d) (behind (make_word n x.span) f))
typed_reads (absolute x {ys = ys} h f) g = go x ys refl (root_goes x h) (behind_root x.span f)

pub typed_whole : (w : Word) (x : Lexeme) → is_punctuator x.means dot ≡ false
    → advance_field_type_name (names.Part w) x ≡ Ok (name_steps.Whole w)
unfolding advance_full_name
typed_whole w x h = rw h refl

-- ---- maps

abbrev pub MapGoes : MapState → Lexeme → MapState → Type 0
MapGoes s x t = advance_map s x ≡ Ok (map_steps.More t)

abbrev pub MapEnds : MapState → Lexeme → FieldType → Type 0
MapEnds s x kind = advance_map s x ≡ Ok (map_steps.Done kind)

pub in_key : (s t : NameState) (x : Lexeme) → TypedGoes s x t → MapGoes (maps.Key s) x (maps.Key t)
unfolding advance_map
in_key s t x h = ap (λ (r : Result NameStep ProtoFault). of_key (after_key x r)) h

pub in_inner_key : (k0 : Word) (d : ℕ) (s t : NameState) (x : Lexeme) → TypedGoes s x t
    → MapGoes (maps.InnerKey k0 d s) x (maps.InnerKey k0 d t)
unfolding advance_map
in_inner_key k0 d s t x h = ap (λ (r : Result NameStep ProtoFault). of_inner_key k0 d (after_key x r)) h

pub in_value : (k : Word) (s t : NameState) (x : Lexeme) → TypedGoes s x t → MapGoes (maps.Value k s) x (maps.Value k t)
unfolding advance_map
in_value k s t x h = ap (of_map_value k x) h

pub in_inner_value : (k0 : Word) (d : ℕ) (s t : NameState) (x : Lexeme) → TypedGoes s x t
    → MapGoes (maps.InnerValue k0 d s) x (maps.InnerValue k0 d t)
unfolding advance_map
in_inner_value k0 d s t x h = ap (of_inner_value k0 d x) h

pub key_comma : (k : Word) (x : Lexeme) → IsPunctuator x comma
    → MapGoes (maps.Key (names.Part k)) x (maps.Value k names.Start)
unfolding advance_map
key_comma k x h = ap (λ (r : Result NameStep ProtoFault). of_key (after_key x r)) (typed_whole k x (rw h refl)) ∙ rw h refl

pub inner_comma : (k0 : Word) (d : ℕ) (k : Word) (x : Lexeme) → IsPunctuator x comma
    → MapGoes (maps.InnerKey k0 d (names.Part k)) x (maps.InnerValue k0 d names.Start)
unfolding advance_map
inner_comma k0 d k x h = ap (λ (r : Result NameStep ProtoFault). of_inner_key k0 d (after_key x r)) (typed_whole k x (rw h refl)) ∙ rw h refl

pub value_ends : (k w : Word) (x : Lexeme) → IsPunctuator x greater → MapEnds (maps.Value k (names.Part w)) x (types.Map k w)
unfolding advance_map
value_ends k w x h = ap (of_map_value k x) (typed_whole w x (rw h refl)) ∙ rw h refl

pub inner_value_ends : (k0 : Word) (d : ℕ) (w : Word) (x : Lexeme) → IsPunctuator x greater
    → MapGoes (maps.InnerValue k0 d (names.Part w)) x (maps.Close k0 d)
unfolding advance_map
inner_value_ends k0 d w x h = ap (of_inner_value k0 d x) (typed_whole w x (rw h refl)) ∙ rw h refl

pub value_map : (k : Word) (s : Span) (x : Lexeme) → IsPunctuator x less
    → MapGoes (maps.Value k (names.Part (make_word (codes "map") s))) x (maps.InnerKey k 1 names.Start)
unfolding advance_map
value_map k s x h = ap (of_map_value k x) (typed_whole (make_word (codes "map") s) x (rw h refl)) ∙ rw h refl

pub inner_value_map : (k0 : Word) (d : ℕ) (s : Span) (x : Lexeme) → IsPunctuator x less
    → MapGoes (maps.InnerValue k0 d (names.Part (make_word (codes "map") s))) x (maps.InnerKey k0 (d + 1) names.Start)
unfolding advance_map
inner_value_map k0 d s x h = ap (of_inner_value k0 d x) (typed_whole (make_word (codes "map") s) x (rw h refl)) ∙ rw h refl

pub close_goes : (k0 : Word) (d : ℕ) (x : Lexeme) → IsPunctuator x greater → MapGoes (maps.Close k0 (suc (suc d))) x (maps.Close k0 (suc d))
unfolding advance_map
close_goes k0 d x h =
    let l : nat_le (suc (suc d)) 1 ≡ false = lt-leb (suc (suc d)) 1 (omega arith) in
    let e : suc (suc d) - 1 ≡ suc d = omega arith in
    rw h (rw (l, e) refl)

pub close_ends : (k0 : Word) (x : Lexeme) → IsPunctuator x greater → MapEnds (maps.Close k0 1) x (types.NestedMap k0)
unfolding advance_map
close_ends k0 x h = rw h refl

-- `map`, `<`, a key and a comma
pub inner_key_reads : (k0 : Word) (d : ℕ) {ks : List Lexeme} {k : Word} → IsMapKey ks k
    → Walks MapGoes (maps.InnerValue k0 d names.Start) ks (maps.InnerValue k0 (suc d) names.Start)
inner_key_reads k0 d (map_key x y z {ys = ys} {w = w} hx hy t g hz e) =
    rw e (go x (y ∷ ys ++ z ∷ []) refl (in_inner_value k0 d names.Start (names.Part (make_word (codes "map") x.span)) x (first_goes x (codes "map") hx (rw hx refl)))
    (go y (ys ++ z ∷ []) refl
    (subst (λ (n : ℕ). MapGoes (maps.InnerValue k0 d (names.Part (make_word (codes "map") x.span))) y
    (maps.InnerKey k0 n names.Start)) (add-one d) (inner_value_map k0 d x.span y hy))
    (walks_on MapGoes (walks_in TypedGoes MapGoes (λ s. maps.InnerKey k0 (suc d) s) (in_inner_key k0 (suc d))
    (typed_reads t g)) (go z [] refl (inner_comma k0 (suc d) w z hz) (stay refl refl)))))

pub outer_key_reads : (k0 : Word) {ks : List Lexeme} {k : Word} → IsMapKey ks k
    → Walks MapGoes (maps.Value k0 names.Start) ks (maps.InnerValue k0 1 names.Start)
outer_key_reads k0 (map_key x y z {ys = ys} {w = w} hx hy t g hz e) =
    rw e (go x (y ∷ ys ++ z ∷ []) refl (in_value k0 names.Start (names.Part (make_word (codes "map") x.span)) x (first_goes x (codes "map") hx (rw hx refl)))
    (go y (ys ++ z ∷ []) refl (value_map k0 x.span y hy)
    (walks_on MapGoes (walks_in TypedGoes MapGoes (λ s. maps.InnerKey k0 1 s) (in_inner_key k0 1) (typed_reads t g)) (go z [] refl (inner_comma k0 1 w z hz) (stay refl refl)))))

nested_reads : (k0 : Word) (d : ℕ) {ys : List Lexeme} → IsNestedMap ys
    → Walks MapGoes (maps.InnerValue k0 d names.Start) ys (maps.Close k0 (suc d))
nested_reads k0 d (innermost x {w = w} k t g h e) =
    rw e (walks_on MapGoes
    (walks_on MapGoes (inner_key_reads k0 d k) (walks_in TypedGoes MapGoes (λ s. maps.InnerValue k0 (suc d) s)
    (in_inner_value k0 (suc d)) (typed_reads t g)))
    (go x [] refl (inner_value_ends k0 (suc d) w x h) (stay refl refl)))
nested_reads k0 d (around x k n h e) =
    rw e (walks_on MapGoes (walks_on MapGoes (inner_key_reads k0 d k) (nested_reads k0 (suc d) n)) (go x [] refl (close_goes k0 d x h) (stay refl refl)))

outer_nested_reads : (k0 : Word) {ys : List Lexeme} → IsNestedMap ys
    → Walks MapGoes (maps.Value k0 names.Start) ys (maps.Close k0 1)
outer_nested_reads k0 (innermost x {w = w} k t g h e) =
    rw e (walks_on MapGoes
    (walks_on MapGoes (outer_key_reads k0 k) (walks_in TypedGoes MapGoes (λ s. maps.InnerValue k0 1 s)
    (in_inner_value k0 1) (typed_reads t g))) (go x [] refl (inner_value_ends k0 1 w x h) (stay refl refl)))
outer_nested_reads k0 (around x k n h e) =
    rw e (walks_on MapGoes (walks_on MapGoes (outer_key_reads k0 k) (nested_reads k0 1 n)) (go x [] refl (close_goes k0 0 x h) (stay refl refl)))

-- ---- fields

abbrev pub FieldGoes : FieldState → Lexeme → FieldState → Type 0
FieldGoes s x t = advance_field s x ≡ Ok (steps.More t)

abbrev pub FieldEnds : FieldState → Lexeme → FieldDecl → Type 0
FieldEnds s x f = advance_field s x ≡ Ok (steps.Done f)

pub in_type : (label : FieldLabel) (s t : NameState) (x : Lexeme) → TypedGoes s x t
    → FieldGoes (fields.Type label s) x (fields.Type label t)
unfolding advance_field
in_type label s t x h = ap (of_type label x) h

pub in_map : (label : FieldLabel) (s t : MapState) (x : Lexeme) → MapGoes s x t
    → FieldGoes (fields.Map label s) x (fields.Map label t)
unfolding advance_field
in_map label s t x h = ap (of_map label) h

pub map_ends : (label : FieldLabel) (s : MapState) (x : Lexeme) (kind : FieldType) → MapEnds s x kind
    → FieldGoes (fields.Map label s) x (fields.Typed label kind)
unfolding advance_field
map_ends label s x kind h = ap (of_map label) h

pub map_begins : (label : FieldLabel) (s : Span) (x : Lexeme) → IsPunctuator x less
    → FieldGoes (fields.Type label (names.Part (make_word (codes "map") s))) x (fields.Map label (maps.Key names.Start))
unfolding advance_field
map_begins label s x h = ap (of_type label x) (typed_whole (make_word (codes "map") s) x (rw h refl)) ∙ rw h refl

-- the type is complete, and the field's name comes next
abbrev pub TypeReady : FieldState → FieldLabel → FieldType → Type 0
TypeReady t label kind = (x : Lexeme) (n : List ℕ) → IsWord x n → FieldGoes t x (fields.Named (field_head label kind (make_word n x.span)))

pub name_ready : (label : FieldLabel) (w : Word) → TypeReady (fields.Type label (names.Part w)) label (types.Named w)
unfolding advance_field
name_ready label w x n h = ap (of_type label x) (typed_whole w x (rw h refl)) ∙ rw h refl

pub typed_ready : (label : FieldLabel) (kind : FieldType) → TypeReady (fields.Typed label kind) label kind
unfolding advance_field
typed_ready label kind x n h = is_name x (λ n. steps.More (fields.Named (field_head label kind (make_word n x.span)))) n h

-- `map`, `<`, a key and a comma
field_key_reads : (label : FieldLabel) {ks : List Lexeme} {k : Word} → IsMapKey ks k
    → Walks FieldGoes (fields.Type label names.Start) ks (fields.Map label (maps.Value k names.Start))
field_key_reads label (map_key x y z {ys = ys} {w = w} hx hy t g hz e) =
    rw e (go x (y ∷ ys ++ z ∷ []) refl (in_type label names.Start (names.Part (make_word (codes "map") x.span)) x (first_goes x (codes "map") hx (rw hx refl)))
    (go y (ys ++ z ∷ []) refl (map_begins label x.span y hy)
    (walks_in MapGoes FieldGoes (λ s. fields.Map label s) (in_map label)
    (walks_on MapGoes (walks_in TypedGoes MapGoes (λ s. maps.Key s) in_key (typed_reads t g)) (go z [] refl (key_comma w z hz) (stay refl refl))))))

abbrev pub TypeReads : FieldLabel → List Lexeme → FieldType → Type 0
TypeReads label ts kind = (t : FieldState) × Walks FieldGoes (fields.Type label names.Start) ts t × TypeReady t label kind

pub type_reads : (label : FieldLabel) {ts : List Lexeme} {kind : FieldType} → IsFieldType group_word ts kind
    → TypeReads label ts kind
type_reads label (named {w = w} t g) = (fields.Type label (names.Part w), walks_in TypedGoes FieldGoes (λ s. fields.Type label s) (in_type label) (typed_reads t g), name_ready label w)
type_reads label (a_map x {k = k} {w = w} m t g h e) = (
  fields.Typed label (types.Map k w),
  rw e (walks_on FieldGoes (walks_on FieldGoes (field_key_reads label m)
      (walks_in MapGoes FieldGoes (λ s. fields.Map label s) (in_map label) (walks_in TypedGoes MapGoes (λ s. maps.Value k s) (in_value k) (typed_reads t g))))
      (go x [] refl (map_ends label (maps.Value k (names.Part w)) x (types.Map k w) (value_ends k w x h)) (stay refl refl))),
  typed_ready label (types.Map k w),
)
type_reads label (map_of_maps x {k = k} m n h e) = (
  fields.Typed label (types.NestedMap k),
  rw e (walks_on FieldGoes (walks_on FieldGoes (field_key_reads label m)
      (walks_in MapGoes FieldGoes (λ s. fields.Map label s) (in_map label) (outer_nested_reads k n)))
      (go x [] refl (map_ends label (maps.Close k 1) x (types.NestedMap k) (close_ends k x h)) (stay refl refl))),
  typed_ready label (types.NestedMap k),
)

pub in_tail : (h : FieldHead) (n : Number) (s t : TailState) (x : Lexeme) → TailGoes s x t
    → FieldGoes (fields.Tail h n s) x (fields.Tail h n t)
unfolding advance_field
in_tail h n s t x e = ap (of_tail h n) e

pub tail_ends : (h : FieldHead) (n : Number) (s : TailState) (x : Lexeme) (packed : Option Bool)
    → advance_tail s x ≡ Ok (tail_steps.Done packed) → FieldEnds (fields.Tail h n s) x (finished_field h n packed)
unfolding advance_field
tail_ends h n s x packed e = ap (of_tail h n) e

equals_goes : (h : FieldHead) (x : Lexeme) → IsPunctuator x equals → FieldGoes (fields.Named h) x (fields.Equals h)
unfolding advance_field
equals_goes h x e = rw e refl

number_goes : (h : FieldHead) (x : Lexeme) (v : Decimal) → x.means ≡ integer v
    → FieldGoes (fields.Equals h) x (fields.Tail h (make_number false v x.span) tails.Start)
unfolding advance_field
number_goes h x v e = ap (by_number x (λ v. steps.More (fields.Tail h (make_number false v x.span) tails.Start))) e

abbrev pub FieldTakes : FieldState → List Lexeme → FieldDecl → Type 0
FieldTakes s ys f = Takes FieldGoes FieldEnds s ys f

-- a type, a name, a number, and options
pub field_takes :
    (label : FieldLabel) {ts es : List Lexeme} {kind : FieldType} {name : Word} {number : Number} {packed : Option
    Bool} → IsFieldType group_word ts kind → IsFieldEnd es name number packed
    → FieldTakes (fields.Type label names.Start) (ts ++ es) (make_field name number kind label None packed)
field_takes label {ts = ts} {kind = kind} k (field_end x y z n {os = os} {packed = packed} hx hy (whole u v hv) o hz e) =
    let r : TypeReads label ts kind = type_reads label k in
    let h : FieldHead = field_head label kind (make_word n x.span) in
    let m : Number = make_number false v u.span in
    let t : (t : TailState) × Walks TailGoes tails.Start os t × (advance_tail t z ≡ Ok (tail_steps.Done packed)) = tail_reads z o hz in
    rw e (walk_takes FieldGoes FieldEnds (x ∷ y ∷ u ∷ os ++ z ∷ []) r.1
    (next x (r.2 x n hx) (next y (equals_goes h y hy) (next u (number_goes h u v hv)
    (walk_takes FieldGoes FieldEnds (z ∷ []) (walks_in TailGoes FieldGoes (λ s. fields.Tail h m s) (in_tail h m) t.1) (last z (tail_ends h m t.0 z packed t.2)))))))
field_takes label k (field_end x y z n hx hy (negative u v d f hu hv) o hz e) = absurd (let c : false ≡ true = f in cc)
