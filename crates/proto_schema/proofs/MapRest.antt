-- The tokens that complete a map's type and a field's type, by how much of it is read.
use Rattle.std.proofs.Common.{subst, ◌≡◌, ℕ, suc, ◌+◌, ◌-◌, ◌<◌, ◌≤◌, nat_le, Bool, true, false, List, [], ◌∷◌, ◌++◌}
use Rattle.std.proofs.Common.{codes, refl, ap, sym, ◌∙◌, arith, add-one}
use Rattle.std.specs.Prelude.{Ok, Err, Result, Option, Some, None, if◌then◌else◌}
use Rattle.std.specs.Str.{bytes_eq}
use Rattle.std.proofs.lemmas.Bool.{leb-true, leb-false}
use Rattle.std.proofs.lemmas.List.{append_assoc}
use Rattle.proto_ast.specs.Dot.{dot}
use Rattle.proto_grammar.specs.Lexemes.{identifier, Lexeme, comma, less, greater, span_to, make_word, IsWord, IsPunctuator, is_the_word}
use Rattle.proto_grammar.specs.Grammar.{relative, group_word, map_key, IsNestedMap, innermost, around, IsFieldType, a_map, map_of_maps}
use Rattle.proto_grammar.specs.Advancing.{wrong, is_punctuator, name_part, proto_fault_at, advance_full_name, advance_type_name, advance_field_type_name, advance_map_key}
use Rattle.proto_grammar.specs.Advancing.{after_key, advance_map, more_map, of_key, of_inner_key, of_map_value, of_inner_value}
use Rattle.proto_grammar.specs.Advancing.{is_map_start, close_map}
use Rattle.proto_schema.proofs.Choices.{either_is, named_is, same_bytes, and_both, dotted_differs}
use Rattle.proto_schema.proofs.NameLemmas.{mark_is}
use Rattle.proto_schema.proofs.NameRest.{ends, TypedRest, NameBack, from_start, from_root, from_dot, from_part, from_top, typed_back, no_group}
use Rattle.proto_ast.specs.declared.file.Span.{Span}
use Rattle.proto_ast.specs.declared.file.Word.{Word}
use Rattle.proto_ast.specs.declared.file.FieldType.{FieldType}
use Rattle.proto_ast.specs.declared.file.FieldType.TheVariants as types
use Rattle.proto_grammar.specs.declared.fault.ProtoReason.TheVariants as reasons
use Rattle.proto_grammar.specs.declared.fault.ProtoFault.{ProtoFault}
use Rattle.proto_grammar.specs.declared.name.NameState.{NameState}
use Rattle.proto_grammar.specs.declared.name.NameState.TheVariants as names
use Rattle.proto_grammar.specs.declared.name.NameStep.{NameStep}
use Rattle.proto_grammar.specs.declared.name.NameStep.TheVariants as name_steps
use Rattle.proto_grammar.specs.declared.field.MapState.{MapState}
use Rattle.proto_grammar.specs.declared.field.MapState.TheVariants as maps
use Rattle.proto_grammar.specs.declared.field.MapStep.{MapStep}
use Rattle.proto_grammar.specs.declared.field.MapStep.TheVariants as steps

-- ---- a name of three letters is one token

abbrev pub IsPart : NameState → List ℕ → Type 0
IsPart (names.Part v) word = bytes_eq v.name word ≡ true
IsPart s word = ⊥

-- no word with a dot is `map`
pub not_map : (v n : List ℕ) → bytes_eq (v ++ dot ∷ n) (codes "map") ≡ true → ⊥
not_map v n h = dotted_differs v n (codes "map") refl h

-- ---- the value of a map: a name, or nested maps, and `>`

-- the tokens after `map <` in another map
abbrev pub Body : List Lexeme → Type 0
Body bs = (m l : Lexeme) → IsWord m (codes "map") → IsPunctuator l less → IsNestedMap (m ∷ l ∷ bs)

pub data ValueAt (s : NameState) (all : List Lexeme) : Option Word → Type 0 where
  plain : (z : Lexeme) (ys : List Lexeme) {w : Word} → TypedRest s ys w → IsPunctuator z greater → all ≡ ys ++ z ∷ []
      → ValueAt s all (Some w)
  nested : (z : Lexeme) {ys : List Lexeme} → s ≡ names.Start → IsNestedMap ys → IsPunctuator z greater → all ≡ ys ++ z ∷ []
      → ValueAt s all None
  map_from : (x z : Lexeme) (bs : List Lexeme) → IsPart s (codes "map") → IsPunctuator x less → Body bs → IsPunctuator z greater
      → all ≡ x ∷ bs ++ z ∷ [] → ValueAt s all None

abbrev pub ValueBack : NameState → Lexeme → Result NameStep ProtoFault → Type 0
ValueBack s x (Ok (name_steps.More t)) = (ys : List Lexeme) (r : Option Word) → ValueAt t ys r → ValueAt s (x ∷ ys) r
ValueBack s x (Ok (name_steps.Whole w)) = (TypedRest s [] w) × (s ≡ names.Part w)
ValueBack s x (Err e) = Unit {0}

-- after a token of a name other than its first there is no map
later_value : (s t : NameState) (x : Lexeme)
    → ((ys : List Lexeme) (w : Word) → TypedRest t ys w → TypedRest s (x ∷ ys) w) → (t ≡ names.Start → ⊥)
    → (IsPart t (codes "map") → ⊥)
    → (ys : List Lexeme) (r : Option Word) → ValueAt t ys r → ValueAt s (x ∷ ys) r
later_value s t x b i j ys r (plain z us {w = w} k g e) = plain z (x ∷ us) {w = w} (b us w k) g (ap (λ (l : List Lexeme). x ∷ l) e)
later_value s t x b i j ys r (nested z e m g a) = absurd (i e)
later_value s t x b i j ys r (map_from y z bs p l m g e) = absurd (j p)

first_value : (x : Lexeme) (n : List ℕ) → IsWord x n → is_the_word x.means (codes "group") ≡ false
    → (ys : List Lexeme) (r : Option Word) → ValueAt (names.Part (make_word n x.span)) ys r
    → ValueAt names.Start (x ∷ ys) r
first_value x n h g ys r (plain z us {w = w} k m e) = plain z (x ∷ us) {w = w} (relative (from_start x n h us w k), no_group x us g) m (ap (λ (l : List Lexeme). x ∷ l) e)
first_value x n h g ys r (nested z e m k a) = absurd (let t : names.Part (make_word n x.span) ≡ names.Start = e in cc)
first_value x n h g ys r (map_from y z bs p l b m e) =
    nested z refl (b x y (h ∙ ap identifier (same_bytes n (codes "map") p)) l) m (ap (λ (l : List Lexeme). x ∷ l) e)

part_not_start : (v : Word) → names.Part v ≡ names.Start → ⊥
part_not_start v e = (cc)

dot_not_start : (v : Word) → names.Dot v ≡ names.Start → ⊥
dot_not_start v e = (cc)

root_not_start : (s : Span) → names.Rooted s ≡ names.Start → ⊥
root_not_start s e = (cc)

pub typed_value : (s : NameState) (x : Lexeme) → ValueBack s x (advance_field_type_name s x)
unfolding advance_full_name
typed_value names.Start x =
    either_is (ValueBack names.Start x) (is_the_word x.means (codes "group")) (Err (proto_fault_at reasons.Group x.span)) (advance_type_name names.Start x) (λ e. tt)
    (λ e. either_is (ValueBack names.Start x) (is_punctuator x.means dot) (Ok (name_steps.More (names.Rooted x.span))) (advance_full_name names.Start x)
    (λ d. later_value names.Start (names.Rooted x.span) x (λ ys w k. (from_top x (mark_is x.means dot d) ys w k, no_group x ys e)) (root_not_start x.span) (λ p. p))
    (λ d. named_is (ValueBack names.Start x) x (λ n. name_part n x.span) (λ n h. first_value x n h e) tt))
typed_value (names.Rooted s) x =
    named_is (ValueBack (names.Rooted s) x) x (λ n. name_part (dot ∷ n) (span_to s x.span))
    (λ n h. later_value (names.Rooted s) (names.Part (make_word (dot ∷ n) (span_to s x.span))) x (from_root s x n h)
    (part_not_start (make_word (dot ∷ n) (span_to s x.span))) (not_map [] n)) tt
typed_value (names.Part v) x =
    either_is (ValueBack (names.Part v) x) (is_punctuator x.means dot) (Ok (name_steps.More (names.Dot v))) (Ok (name_steps.Whole v))
    (λ e. later_value (names.Part v) (names.Dot v) x (from_part v x (mark_is x.means dot e)) (dot_not_start v) (λ p. p)) (λ e. (ends, refl))
typed_value (names.Dot v) x =
    named_is (ValueBack (names.Dot v) x) x (λ n. name_part (v.name ++ dot ∷ n) (span_to v.span x.span))
    (λ n h. later_value (names.Dot v) (names.Part (make_word (v.name ++ dot ∷ n) (span_to v.span x.span))) x
    (from_dot v x n h) (part_not_start (make_word (v.name ++ dot ∷ n) (span_to v.span x.span))) (not_map v.name n))
    tt

-- ---- a map, from its key on

-- a key, a comma and a value
pub data KeyAt (s : NameState) (all : List Lexeme) (k : Word) (r : Option Word) : Type 0 where
  key_at : (z : Lexeme) (ks : List Lexeme) {vs : List Lexeme} → TypedRest s ks k → IsPunctuator z comma
      → ValueAt names.Start vs r → all ≡ ks ++ z ∷ vs → KeyAt s all k r

abbrev pub kind_of : Word → Option Word → FieldType
kind_of k (Some w) = types.Map k w
kind_of k None = types.NestedMap k

-- this many maps are closed
pub data Closings : ℕ → List Lexeme → Type 0 where
  none_left : Closings 0 []
  one_more : (x : Lexeme) {n : ℕ} {ys : List Lexeme} → IsPunctuator x greater → Closings n ys → Closings (suc n) (x ∷ ys)

pub data InnerAt (R : List Lexeme → Type 0) (k0 : Word) (d : ℕ) (all : List Lexeme) (kind : FieldType) : Type 0 where
  inner_at : {bs cs : List Lexeme} → R bs → Closings d cs → all ≡ bs ++ cs → types.NestedMap k0 ≡ kind
      → InnerAt R k0 d all kind

abbrev SomeKey : NameState → List Lexeme → Type 0
SomeKey s bs = (k : Word) × (r : Option Word) × KeyAt s bs k r

abbrev SomeValue : NameState → List Lexeme → Type 0
SomeValue s bs = (r : Option Word) × ValueAt s bs r

abbrev pub MapRest : MapState → List Lexeme → FieldType → Type 0
MapRest (maps.Key s) ys kind = (k : Word) × (r : Option Word) × KeyAt s ys k r × (kind_of k r ≡ kind)
MapRest (maps.Value k s) ys kind = (r : Option Word) × ValueAt s ys r × (kind_of k r ≡ kind)
MapRest (maps.InnerKey k0 d s) ys kind = 0 < d → InnerAt (SomeKey s) k0 d ys kind
MapRest (maps.InnerValue k0 d s) ys kind = 0 < d → InnerAt (SomeValue s) k0 d ys kind
MapRest (maps.Close k0 d) ys kind = 0 < d → (Closings d ys) × (types.NestedMap k0 ≡ kind)

abbrev pub MapBack : MapState → Lexeme → Result MapStep ProtoFault → Type 0
MapBack s x (Ok (steps.More t)) = (ys : List Lexeme) (kind : FieldType) → MapRest t ys kind → MapRest s (x ∷ ys) kind
MapBack s x (Ok (steps.Done kind)) = MapRest s (x ∷ []) kind
MapBack s x (Err e) = Unit {0}

-- `map <`, a key, a comma and a value are a map
pub body_of : (bs : List Lexeme) → SomeKey names.Start bs → Body bs
body_of bs (k, r, key_at z ks {vs = vs} t c v e) m l hm hl = by r v
  where
    by : (r : Option Word) → ValueAt names.Start vs r → IsNestedMap (m ∷ l ∷ bs)
    by r (plain x ys {w = w} u g a) =
        innermost x (map_key m l z hm hl t.0 t.1 c refl) u.0 u.1 g
        (ap (λ (q : List Lexeme). m ∷ l ∷ q)
        (e ∙ (ap (λ (q : List Lexeme). ks ++ z ∷ q) a
        ∙ (sym (append_assoc ks (z ∷ []) (ys ++ x ∷ [])) ∙ sym (append_assoc (ks ++ z ∷ []) ys (x ∷ []))))))
    by r (nested x {ys = ys} s n g a) =
        around x (map_key m l z hm hl t.0 t.1 c refl) n g
        (ap (λ (q : List Lexeme). m ∷ l ∷ q)
        (e ∙ (ap (λ (q : List Lexeme). ks ++ z ∷ q) a
        ∙ (sym (append_assoc ks (z ∷ []) (ys ++ x ∷ [])) ∙ sym (append_assoc (ks ++ z ∷ []) ys (x ∷ []))))))
    by r (map_from x y cs p h b g a) = absurd p

-- the same tokens, as the type of a field
pub kind_from : (m l : Lexeme) (bs : List Lexeme) (kind : FieldType) → IsWord m (codes "map") → IsPunctuator l less
    → MapRest (maps.Key names.Start) bs kind → IsFieldType group_word (m ∷ l ∷ bs) kind
kind_from m l bs kind hm hl (k, r, key_at z ks {vs = vs} t c v e, f) = by r v f
  where
    by : (r : Option Word) → ValueAt names.Start vs r → kind_of k r ≡ kind → IsFieldType group_word (m ∷ l ∷ bs) kind
    by r (plain x ys {w = w} u g a) f =
        subst (λ (kind : FieldType). IsFieldType group_word (m ∷ l ∷ bs) kind) f (a_map x (map_key m l z hm hl t.0 t.1 c refl) u.0 u.1 g
        (ap (λ (q : List Lexeme). m ∷ l ∷ q)
        (e ∙ (ap (λ (q : List Lexeme). ks ++ z ∷ q) a
        ∙ (sym (append_assoc ks (z ∷ []) (ys ++ x ∷ [])) ∙ sym (append_assoc (ks ++ z ∷ []) ys (x ∷ [])))))))
    by r (nested x {ys = ys} s n g a) f =
        subst (λ (kind : FieldType). IsFieldType group_word (m ∷ l ∷ bs) kind) f (map_of_maps x (map_key m l z hm hl t.0 t.1 c refl) n g
        (ap (λ (q : List Lexeme). m ∷ l ∷ q)
        (e ∙ (ap (λ (q : List Lexeme). ks ++ z ∷ q) a
        ∙ (sym (append_assoc ks (z ∷ []) (ys ++ x ∷ [])) ∙ sym (append_assoc (ks ++ z ∷ []) ys (x ∷ [])))))))
    by r (map_from x y cs p h b g a) f = absurd p

-- ---- keys

key_goes : (s t : NameState) (x : Lexeme) → ((ys : List Lexeme) (w : Word) → TypedRest t ys w → TypedRest s (x ∷ ys) w)
    → (ys : List Lexeme) (k : Word) (r : Option Word) → KeyAt t ys k r → KeyAt s (x ∷ ys) k r
key_goes s t x b ys k r (key_at z ks h c v e) = key_at z (x ∷ ks) (b ks k h) c v (ap (λ (l : List Lexeme). x ∷ l) e)

abbrev KeyBack : NameState → Lexeme → Result NameStep ProtoFault → Type 0
KeyBack s x (Ok (name_steps.More t)) = (ys : List Lexeme) (w : Word) → TypedRest t ys w → TypedRest s (x ∷ ys) w
KeyBack s x (Ok (name_steps.Whole w)) = (TypedRest s [] w) × IsPunctuator x comma
KeyBack s x (Err e) = Unit {0}

behind_key_back : (s : NameState) (x : Lexeme) (r : Result NameStep ProtoFault) → NameBack TypedRest s x r
    → KeyBack s x (after_key x r)
behind_key_back s x (Ok (name_steps.More t)) b = b
behind_key_back s x (Ok (name_steps.Whole w)) b = either_is (KeyBack s x) (is_punctuator x.means comma) (Ok (name_steps.Whole w)) (wrong x) (λ h. (b, mark_is x.means comma h)) (λ h. tt)
behind_key_back s x (Err e) b = tt

key_back : (s : NameState) (x : Lexeme) → KeyBack s x (advance_map_key s x)
key_back s x = behind_key_back s x (advance_field_type_name s x) (typed_back s x)

of_key_back : (s : NameState) (x : Lexeme) (r : Result NameStep ProtoFault) → KeyBack s x r
    → MapBack (maps.Key s) x (of_key r)
of_key_back s x (Ok (name_steps.More t)) b = λ ys kind q. (q.0, q.1, key_goes s t x b ys q.0 q.1 q.2, q.3)
of_key_back s x (Ok (name_steps.Whole w)) b = λ ys kind q. (w, q.0, key_at x [] b.0 b.1 q.1 refl, q.2)
of_key_back s x (Err e) b = tt

of_inner_key_back : (k0 : Word) (d : ℕ) (s : NameState) (x : Lexeme) (r : Result NameStep ProtoFault) → KeyBack s x r
    → MapBack (maps.InnerKey k0 d s) x (of_inner_key k0 d r)
of_inner_key_back k0 d s x (Ok (name_steps.More t)) b = λ ys kind f p. by ys kind (f p)
  where
    by : (ys : List Lexeme) (kind : FieldType) → InnerAt (SomeKey t) k0 d ys kind → InnerAt (SomeKey s) k0 d (x ∷ ys) kind
    by ys kind (inner_at {bs = bs} (k, r, a) c e q) = inner_at {bs = x ∷ bs} (k, r, key_goes s t x b bs k r a) c (ap (λ (l : List Lexeme). x ∷ l) e) q
of_inner_key_back k0 d s x (Ok (name_steps.Whole w)) b = λ ys kind f p. by ys kind (f p)
  where
    by : (ys : List Lexeme) (kind : FieldType) → InnerAt (SomeValue names.Start) k0 d ys kind
        → InnerAt (SomeKey s) k0 d (x ∷ ys) kind
    by ys kind (inner_at {bs = bs} (r, v) c e q) = inner_at {bs = x ∷ bs} (w, r, key_at x [] b.0 b.1 v refl) c (ap (λ (l : List Lexeme). x ∷ l) e) q
of_inner_key_back k0 d s x (Err e) b = tt

-- ---- values

-- the name is `map`, and the token is `<`
map_begins : (s : NameState) (w : Word) (x : Lexeme) → s ≡ names.Part w → is_map_start w x ≡ true
    → (IsPart s (codes "map")) × IsPunctuator x less
map_begins s w x e h =
    let b : (is_punctuator x.means less ≡ true) × (bytes_eq w.name (codes "map") ≡ true) = and_both (is_punctuator x.means less) (bytes_eq w.name (codes "map")) h in
    (subst (λ (t : NameState). IsPart t (codes "map")) (sym e) b.1, mark_is x.means less b.0)

of_value_back : (k : Word) (s : NameState) (x : Lexeme) (r : Result NameStep ProtoFault) → ValueBack s x r
    → MapBack (maps.Value k s) x (of_map_value k x r)
of_value_back k s x (Ok (name_steps.More t)) b = λ ys kind q. (q.0, b ys q.0 q.1, q.2)
of_value_back k s x (Ok (name_steps.Whole w)) b =
    either_is (MapBack (maps.Value k s) x) (is_punctuator x.means greater) (Ok (steps.Done (types.Map k w))) (if is_map_start w x then more_map (maps.InnerKey k 1 names.Start) else wrong x)
    (λ h. (Some w, plain x [] {w = w} b.0 (mark_is x.means greater h) refl, refl))
    (λ h. either_is (MapBack (maps.Value k s) x) (is_map_start w x) (more_map (maps.InnerKey k 1 names.Start)) (wrong x)
    (λ m. λ ys kind f. by (map_begins s w x b.1 m) ys kind (f (omega arith))) (λ m. tt))
  where
    by : (IsPart s (codes "map")) × IsPunctuator x less → (ys : List Lexeme) (kind : FieldType)
        → InnerAt (SomeKey names.Start) k 1 ys kind → (r : Option Word) × ValueAt s (x ∷ ys) r × (kind_of k r ≡ kind)
    by m ys kind (inner_at {bs = bs} a (one_more z g none_left) e q) = (None, map_from x z bs m.0 m.1 (body_of bs a) g (ap (λ (l : List Lexeme). x ∷ l) e), q)
of_value_back k s x (Err e) b = tt

of_inner_value_back : (k0 : Word) (d : ℕ) (s : NameState) (x : Lexeme) (r : Result NameStep ProtoFault) → ValueBack s x r
    → MapBack (maps.InnerValue k0 d s) x (of_inner_value k0 d x r)
of_inner_value_back k0 d s x (Ok (name_steps.More t)) b = λ ys kind f p. by ys kind (f p)
  where
    by : (ys : List Lexeme) (kind : FieldType) → InnerAt (SomeValue t) k0 d ys kind → InnerAt (SomeValue s) k0 d (x ∷ ys) kind
    by ys kind (inner_at {bs = bs} (r, v) c e q) = inner_at {bs = x ∷ bs} (r, b bs r v) c (ap (λ (l : List Lexeme). x ∷ l) e) q
of_inner_value_back k0 d s x (Ok (name_steps.Whole w)) b =
    either_is (MapBack (maps.InnerValue k0 d s) x) (is_punctuator x.means greater) (more_map (maps.Close k0 d))
    (if is_map_start w x then more_map (maps.InnerKey k0 (d + 1) names.Start) else wrong x)
    (λ h. λ ys kind f p. ends_here (mark_is x.means greater h) ys kind (f p))
    (λ h. either_is (MapBack (maps.InnerValue k0 d s) x) (is_map_start w x) (more_map (maps.InnerKey k0 (d + 1) names.Start)) (wrong x)
    (λ m. λ ys kind f p. goes_deeper (map_begins s w x b.1 m) ys kind (subst (λ (n : ℕ). InnerAt (SomeKey names.Start) k0 n ys kind) (add-one d) (f (omega arith)))) (λ m. tt))
  where
    ends_here : IsPunctuator x greater → (ys : List Lexeme) (kind : FieldType) → (Closings d ys) × (types.NestedMap k0 ≡ kind)
        → InnerAt (SomeValue s) k0 d (x ∷ ys) kind
    ends_here g ys kind (c, q) = inner_at {bs = x ∷ []} (Some w, plain x [] {w = w} b.0 g refl) c refl q

    goes_deeper : (IsPart s (codes "map")) × IsPunctuator x less → (ys : List Lexeme) (kind : FieldType)
        → InnerAt (SomeKey names.Start) k0 (suc d) ys kind → InnerAt (SomeValue s) k0 d (x ∷ ys) kind
    goes_deeper m ys kind (inner_at {bs = bs} a (one_more z {ys = cs} g c) e q) =
        inner_at {bs = x ∷ bs ++ z ∷ []} (None, map_from x z bs m.0 m.1 (body_of bs a) g refl) c (ap (λ (l : List Lexeme). x ∷ l) (e ∙ sym (append_assoc bs (z ∷ []) cs))) q
of_inner_value_back k0 d s x (Err e) b = tt

closed_back : (k0 : Word) (d : ℕ) (x : Lexeme) → IsPunctuator x greater → MapBack (maps.Close k0 d) x (Ok (close_map k0 d))
closed_back k0 d x g = by (nat_le d 1) refl
  where
    by : (b : Bool) → nat_le d 1 ≡ b
        → MapBack (maps.Close k0 d) x (Ok (if b then steps.Done (types.NestedMap k0) else steps.More (maps.Close k0 (d - 1))))
    by true h = λ p. let l : d ≤ 1 = leb-true d 1 h in let e : suc 0 ≡ d = omega arith in (subst (λ (n : ℕ). Closings n (x ∷ [])) e (one_more x g none_left), refl)
    by false h = λ ys kind f p.
        let l : 1 < d = leb-false d 1 h in
        let r : (Closings (d - 1) ys) × (types.NestedMap k0 ≡ kind) = f (omega arith) in
        let e : suc (d - 1) ≡ d = omega arith in
        (subst (λ (n : ℕ). Closings n (x ∷ ys)) e (one_more x g r.0), r.1)

pub map_back : (s : MapState) (x : Lexeme) → MapBack s x (advance_map s x)
unfolding advance_map
map_back (maps.Key s) x = of_key_back s x (advance_map_key s x) (key_back s x)
map_back (maps.InnerKey k0 d s) x = of_inner_key_back k0 d s x (advance_map_key s x) (key_back s x)
map_back (maps.Value k s) x = of_value_back k s x (advance_field_type_name s x) (typed_value s x)
map_back (maps.InnerValue k0 d s) x = of_inner_value_back k0 d s x (advance_field_type_name s x) (typed_value s x)
map_back (maps.Close k0 d) x = either_is (MapBack (maps.Close k0 d) x) (is_punctuator x.means greater) (Ok (close_map k0 d))
    (wrong x) (λ h. closed_back k0 d x (mark_is x.means greater h)) (λ h. tt)
