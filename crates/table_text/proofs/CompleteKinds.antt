-- The lines of enums, kinds and labels of a valid table are without a fault, and are parsed to them.
use Rattle.std.proofs.Common.{◌≡◌, ℕ, zero, suc, ℤ, pos, ◌+◌, ◌-◌, ◌^◌, ◌<◌, ◌≤◌, ◌||◌, not, Bool, true}
use Rattle.std.proofs.Common.{false, cond, List, [], ◌∷◌, ◌++◌, codes, length, map, get_or, Option, Some, None, refl}
use Rattle.std.proofs.Common.{ap, sym, subst, ◌∙◌, append_assoc, arith, inl, inr, length-append}
use Rattle.std.specs.Prelude.{slice_get, nat_le, nat_lt, IsTrue, FitsSigned}
use Rattle.std.specs.Int.{w32}
use Rattle.std.specs.List.{All, Contains, list_any}
use Rattle.std.specs.Str.{bytes_eq}
use Rattle.std.specs.Option.{option_map_or}
use Rattle.std.specs.Prelude.{option_map}
use Rattle.std.specs.Ordering.{int_eq}
use Rattle.std.proofs.lemmas.List.{append-nil}
use Rattle.mrpc_table.specs.Names.{is_short, is_short_full, IsName, IsFullName}
use Rattle.mrpc_table.specs.Words.{is_numeric, is_key}
use Rattle.mrpc_table.specs.Valid.{IsAscendingBy, AreDistinct, IsBelow, IsValueBelow, IsKnown, IsMessageKind, IsLabelFor, IsNextOneof, AreOneofsInOrder, IsEnum}
use Rattle.table_text.specs.Faults.{is_packable_word, is_key_kind}
use Rattle.table_text.specs.LineTests.{TypeNames, is_among}
use Rattle.table_text.specs.LineTests.{is_empty, is_value_below, is_below_last, last_of, lacks_value, lacks_zero}
use Rattle.table_text.specs.LineTests.{clashes, is_message_word}
use Rattle.table_text.specs.LineTests.{is_unknown_kind, is_unknown_label, is_map_key_label, is_short_kind}
use Rattle.table_text.specs.LineTests.{is_short_label}
use Rattle.table_text.specs.NameIndex.{index_or_next}
use Rattle.table_text.specs.Drafts.{open_part, enum_names, message_names, method_names, names_before_line, resolved, labeled}
use Rattle.table_text.specs.Drafts.{new_oneof, joined_with, with_enum, with_message}
use Rattle.table_text.specs.Drafts.{with_part, with_line, added_enum}
use Rattle.mrpc_table.specs.declared.table.Kind.{Kind}
use Rattle.mrpc_table.specs.declared.table.Kind.TheVariants.{Int32, Int64, Uint32, Uint64, Sint32, Sint64}
use Rattle.mrpc_table.specs.declared.table.Kind.TheVariants.{Bool as TheBool, Fixed32, Fixed64, Sfixed32, Sfixed64}
use Rattle.mrpc_table.specs.declared.table.Kind.TheVariants.{Float, Double, Text, Octets, Message as OfMessage}
use Rattle.mrpc_table.specs.declared.table.Kind.TheVariants.{Choice}
use Rattle.mrpc_table.specs.declared.table.Label.{Label}
use Rattle.mrpc_table.specs.declared.table.Label.TheVariants.{Plain, Optional, Repeated, Packed, Map, Member}
use Rattle.mrpc_table.specs.declared.table.Field.{Field as TheField}
use Rattle.mrpc_table.specs.declared.table.Message.{Message as TheMessage}
use Rattle.mrpc_table.specs.declared.table.Choices.{Choices}
use Rattle.mrpc_table.specs.declared.table.Method.{Method as TheMethod}
use Rattle.mrpc_table.specs.declared.table.Table.{Table}
use Rattle.table_text.specs.declared.line.KindWord.{KindWord}
use Rattle.table_text.specs.declared.line.KindWord.TheVariants as kinds
use Rattle.table_text.specs.declared.line.LabelWord.{LabelWord}
use Rattle.table_text.specs.declared.line.LabelWord.TheVariants as labels
use Rattle.table_text.specs.declared.line.EnumNumber.TheVariants.{Within}
use Rattle.table_text.specs.declared.line.TableLine.{TableLine}
use Rattle.table_text.specs.declared.line.TableLine.TheVariants.{Enum, Value}
use Rattle.table_text.specs.declared.draft.OpenPart.TheVariants as open_parts
use Rattle.table_text.specs.declared.draft.TableDraft.{TableDraft}
use Rattle.table_text.proofs.KeptLemmas.{closed_enums, closed_messages}
use Rattle.table_text.proofs.OrderLemmas.{contains_first, contains_among}
use Rattle.table_text.proofs.TableFacts.{key_known}
use Rattle.table_text.proofs.Clean.{IsClean, named_message, named_enum}
use Rattle.table_text.proofs.DraftText.{member_new}
use Rattle.table_text.proofs.SpellLemmas.{KindIs, LabelIs}
use Rattle.std.proofs.lemmas.List.{length-map}
use Rattle.std.specs.Prelude.{unwrap_or}
use Rattle.std.specs.List.{flat_map, enumerate_from}
use Rattle.std.specs.Fmt.{decimal, signed_decimal}
use Rattle.std.proofs.Common.{take, drop}
use Rattle.std.proofs.lemmas.List.Concat.{flat_map-append}
use Rattle.mrpc_table.specs.Text.{spaced, line, table_text, enum_lines, message_lines, message_name}
use Rattle.mrpc_table.specs.Valid.{IsValid}
use Rattle.table_text.specs.Lines.{line_of}
use Rattle.table_text.specs.LineTests.{line_fault}
use Rattle.table_text.specs.Drafts.{with_parsed_line}
use Rattle.table_text.proofs.OrderLemmas.{contains_nothing, contains_cases, or_true}
use Rattle.mrpc_table.specs.Text.{kind_text, label_text, enum_name}
use Rattle.std.proofs.lemmas.Option.{slice_get-map}
use Rattle.table_text.proofs.TableCuts.{fed}
use Rattle.table_text.proofs.Accepts.{key_in}
use Rattle.std.proofs.lemmas.List.{map-append}
use Rattle.std.proofs.lemmas.List.Elements.{All-contains, Contains-append_right}
use Rattle.std.proofs.lemmas.Bool.{le-ltb, lt-leb, le-leb, ne_eqb}
use Rattle.std.proofs.Common.{min}
use Rattle.std.proofs.lemmas.List.{length-take, take-append-drop}
use Rattle.std.proofs.lemmas.Option.{slice_get_within, get_or_from_slice_get, slice_get-get_or}
use Rattle.std.proofs.lemmas.List.Elements.{Contains-append_left}
use Rattle.table_text.specs.NameIndex.{index_from}
use Rattle.table_text.specs.NameIndex as places
use Rattle.table_text.proofs.PlaceLemmas.{same_bytes, bytes_same}
use Rattle.table_text.proofs.ParseLemmas.{unsome}
use Rattle.table_text.proofs.OrderLemmas.{false_or as false_from}
use Rattle.table_text.proofs.Clean.{clean_is, both_no, no_not}
use Rattle.table_text.proofs.OrderLemmas.{ascends_split, map_ascends, distinct_split, among_not, not_falls, not_value_below, int_self}
use Rattle.table_text.proofs.SpellLemmas.{line_read}

-- ---- the lines of a table

abbrev value_text : ℤ × List ℕ → List ℕ
value_text v = spaced (codes "value" ∷ signed_decimal v.0 ∷ v.1 ∷ [])

abbrev pub enum_texts : Choices → List (List ℕ)
enum_texts e = spaced (codes "enum" ∷ e.name ∷ []) ∷ map value_text e.values

abbrev pub field_text : Table → List (List ℕ) → TheField → List ℕ
field_text T oneofs f = spaced (codes "field" ∷ decimal f.number ∷ label_text T oneofs f.label ∷ kind_text T f.kind ∷ f.name ∷ [])

abbrev pub message_texts : Table → TheMessage → List (List ℕ)
message_texts T m = spaced (codes "message" ∷ m.name ∷ []) ∷ map (field_text T m.oneofs) m.fields

abbrev pub method_text : Table → ℕ × TheMethod → List ℕ
method_text T m = spaced (codes "method" ∷ decimal m.0 ∷ m.1.service ∷ m.1.name ∷ message_name T m.1.input ∷ message_name T m.1.output ∷ [])

abbrev pub table_lines : Table → List (List ℕ)
table_lines T = flat_map enum_texts T.enums ++ flat_map (message_texts T) T.messages ++ map (method_text T) (enumerate_from 0 T.methods)

flat_mapped : {X : Type 0} (f : X → List ℕ) (xs : List X) → flat_map fed (map f xs) ≡ flat_map (λ x. fed (f x)) xs
flat_mapped f [] = refl
flat_mapped f (x ∷ xs) = ap (λ (l : List ℕ). fed (f x) ++ l) (flat_mapped f xs)

flat_flat : {X : Type 0} (f : X → List (List ℕ)) (g : X → List ℕ) (xs : List X) → ((x : X) → flat_map fed (f x) ≡ g x) → flat_map fed (flat_map f xs) ≡ flat_map g xs
flat_flat f g [] same = refl
flat_flat f g (x ∷ xs) same = flat_map-append fed (f x) (flat_map f xs)
    ∙ ap (λ (l : List ℕ). l ++ flat_map fed (flat_map f xs)) (same x) ∙ ap (λ (l : List ℕ). g x ++ l)
    (flat_flat f g xs same)

pub lines_text : (T : Table) → flat_map fed (table_lines T) ≡ table_text T
lines_text T =
    let es = flat_flat enum_texts enum_lines T.enums (λ e. ap (λ (l : List ℕ). line (codes "enum" ∷ e.name ∷ []) ++ l) (flat_mapped value_text e.values)) in
    let ms = flat_flat (message_texts T) (message_lines T) T.messages
    (λ m. ap (λ (l : List ℕ). line (codes "message" ∷ m.name ∷ []) ++ l)
    (flat_mapped (field_text T m.oneofs) m.fields)) in
    let ks = flat_mapped (method_text T) (enumerate_from 0 T.methods) in
    flat_map-append fed (flat_map enum_texts T.enums ++ flat_map (message_texts T) T.messages) (map (method_text T) (enumerate_from 0 T.methods))
    ∙ ap (λ (l : List ℕ). l ++ flat_map fed (map (method_text T) (enumerate_from 0 T.methods))) (flat_map-append fed (flat_map enum_texts T.enums) (flat_map (message_texts T) T.messages))
    ∙ rw (es, ms, ks) refl

-- ---- a run of lines without a fault

abbrev pub bytes_from : ℕ → List (List ℕ) → ℕ
bytes_from b [] = b
bytes_from b (l ∷ ls) = bytes_from (b + length l + 1) ls

abbrev pub Runs : TypeNames → TableDraft → ℕ → List (List ℕ) → TableDraft → Type 0
Runs t d b [] e = d ≡ e
Runs t d b (l ∷ ls) e = (line_fault t (names_before_line d) (b + length l + 1) (line_of l) ≡ None) × Runs t (with_parsed_line t d (line_of l)) (b + length l + 1) ls e

pub bytes_append : (b : ℕ) (xs ys : List (List ℕ)) → bytes_from b (xs ++ ys) ≡ bytes_from (bytes_from b xs) ys
bytes_append b [] ys = refl
bytes_append b (x ∷ xs) ys = bytes_append (b + length x + 1) xs ys

pub bytes_rise : (b : ℕ) (xs : List (List ℕ)) → b ≤ bytes_from b xs
bytes_rise b [] = omega arith
bytes_rise b (x ∷ xs) = omega (arith, bytes_rise (b + length x + 1) xs)

pub runs_append : (t : TypeNames) (d e f : TableDraft) (b : ℕ) (xs ys : List (List ℕ)) → Runs t d b xs e → Runs t e (bytes_from b xs) ys f → Runs t d b (xs ++ ys) f
runs_append t d e f b [] ys r s = subst (λ (x : TableDraft). Runs t x b ys f) (sym r) s
runs_append t d e f b (x ∷ xs) ys r s = (r.0, runs_append t (with_parsed_line t d (line_of x)) e f (b + length x + 1) xs ys r.1 s)

-- one line that is read, without a fault
pub runs_line : (t : TypeNames) (d e : TableDraft) (b : ℕ) (text : List ℕ) (l : TableLine) (ls : List (List ℕ)) → line_of text ≡ Some l
    → IsClean t (names_before_line d) (b + length text + 1) l → Runs t (with_line t d l) (b + length text + 1) ls e
    → Runs t d b (text ∷ ls) e
runs_line t d e b text l ls is clean rest = (
  ap (line_fault t (names_before_line d) (b + length text + 1)) is ∙ clean_is t (names_before_line d) (b + length text + 1) l clean,
  subst (λ (x : TableDraft). Runs t x (b + length text + 1) ls e) (sym (ap (with_parsed_line t d) is)) rest,
)

pub no_more_bytes : (b : ℕ) → b ≤ 65536 → nat_lt 65536 b ≡ false
no_more_bytes b le = le-ltb 65536 b le

pub room_left : (n m : ℕ) → n < m → nat_le m n ≡ false
room_left n m lt = lt-leb m n lt

-- ---- values

value_stays : (vs : List (ℤ × List ℕ)) (w : ℤ × List ℕ)
    → ((last : ℤ × List ℕ) → last_of vs ≡ Some last → IsValueBelow last w)
    → option_map_or (is_value_below (Within w.0) w.1) (last_of vs) false ≡ false
value_stays vs w up = go (last_of vs) refl
  where
    go : (o : Option (ℤ × List ℕ)) → last_of vs ≡ o → option_map_or (is_value_below (Within w.0) w.1) (last_of vs) false ≡ false
    go None e = rw e refl
    go (Some last) e = rw e (not_value_below w.0 w.1 last (up last e))

values_run : (t : TypeNames) (d : TableDraft) (b : ℕ) (name : List ℕ) (vs ws : List (ℤ × List ℕ))
    → IsEnum (record { name = name; values = vs ++ ws }) → bytes_from b (map value_text ws) ≤ 65536
    → Runs t (with_part d (open_parts.Enum (record { name = name; values = vs }))) b (map value_text ws) (with_part d (open_parts.Enum (record { name = name; values = vs ++ ws })))
values_run t d b name vs [] ok few = ap (λ (xs : List (ℤ × List ℕ)). with_part d (open_parts.Enum (record { name = name; values = xs }))) (sym (append-nil vs))
values_run t d b name vs (w ∷ ws) ok few =
    let rejoin : (vs ++ w ∷ []) ++ ws ≡ vs ++ w ∷ ws = append_assoc vs (w ∷ []) ws in
    let next = subst (λ (xs : List (ℤ × List ℕ)). IsEnum (record { name = name; values = xs })) (sym rejoin) ok in
    let here = All-contains (λ (v : ℤ × List ℕ). FitsSigned w32 v.0) (vs ++ w ∷ ws) w ok.numbers (Contains-append_right vs (w ∷ ws) w (contains_first w ws)) in
    let named = All-contains (λ (v : ℤ × List ℕ). IsName v.1) (vs ++ w ∷ ws) w ok.each_name (Contains-append_right vs (w ∷ ws) w (contains_first w ws)) in
    let reads : line_of (value_text w) ≡ Some (Value (Within w.0) w.1) =
    line_read (codes "value" ∷ signed_decimal w.0 ∷ w.1 ∷ []) (Value (Within w.0) w.1) (
      signed_decimal w.0,
      refl,
      (refl, here),
      named.form,
    ) in
    let apart = subst AreDistinct (map-append (λ (v : ℤ × List ℕ). v.1) vs (w ∷ ws)) ok.names in
    let count : length (vs ++ w ∷ ws) ≡ length vs + suc (length ws) = length-append vs (w ∷ ws) in
    let le = bytes_rise (b + length (value_text w) + 1) (map value_text ws) in
    runs_line t (with_part d (open_parts.Enum (record { name = name; values = vs })))
    (with_part d (open_parts.Enum (record { name = name; values = vs ++ w ∷ ws }))) b (value_text w)
    (Value (Within w.0) w.1) (map value_text ws) reads
    (record {
      syntax = value_stays vs w (λ last e. ascends_split IsValueBelow vs w ws ok.ascend last e);
      number = refl;
      duplicate = among_not w.1 (map (λ v. v.1) vs) (distinct_split (map (λ v. v.1) vs) w.1 (map (λ v. v.1) ws) apart);
      unknown = refl;
      map_key = refl;
      limit = both_no (not (is_short w.1) || nat_le 1024 (length vs)) (nat_lt 65536 (b + length (value_text w) + 1))
          (both_no (not (is_short w.1)) (nat_le 1024 (length vs))
          (no_not (is_short w.1) (le-leb (length w.1) 64 named.short))
          (room_left (length vs) 1024 (omega (arith, ok.few, count))))
          (no_more_bytes (b + length (value_text w) + 1) (omega (arith, le, few)));
    })
    (subst (λ (xs : List (ℤ × List ℕ)). Runs t
    (with_part d (open_parts.Enum (record { name = name; values = vs ++ w ∷ [] })))
    (b + length (value_text w) + 1) (map value_text ws)
    (with_part d (open_parts.Enum (record { name = name; values = xs })))) rejoin
    (values_run t d (b + length (value_text w) + 1) name (vs ++ w ∷ []) ws next few))

-- ---- enums

-- the finished parts of a draft, once its open part is one of them
pub record Stand (d : TableDraft) (es : List Choices) (ms : List TheMessage) (ks : List TheMethod) : Type 0 where
  pub enums : with_enum d.open_part d.enums ≡ es
  pub messages : with_message d.open_part d.messages ≡ ms
  pub methods : d.methods ≡ ks
  pub value_in : lacks_value (open_part d.open_part) ≡ false
  pub zero_in : lacks_zero (open_part d.open_part) ≡ false

pub stand_enums : (d : TableDraft) (es : List Choices) (ms : List TheMessage) (ks : List TheMethod) → Stand d es ms ks → enum_names d ≡ map (λ e. e.name) es
stand_enums d es ms ks s = sym (closed_enums d.open_part d.enums) ∙ ap (map (λ (e : Choices). e.name)) s.enums

pub stand_messages : (d : TableDraft) (es : List Choices) (ms : List TheMessage) (ks : List TheMethod) → Stand d es ms ks → message_names d ≡ map (λ m. m.name) ms
stand_messages d es ms ks s = sym (closed_messages d.open_part d.messages) ∙ ap (map (λ (m : TheMessage). m.name)) s.messages

pub stand_methods : (d : TableDraft) (es : List Choices) (ms : List TheMessage) (ks : List TheMethod) → Stand d es ms ks → method_names d ≡ map key_in ks
stand_methods d es ms ks s = ap (map key_in) s.methods

contained_any : (vs : List (ℤ × List ℕ)) → Contains (map (λ v. v.0) vs) (pos 0) → list_any (λ v. int_eq v.0 (pos 0)) vs ≡ true
contained_any [] h = absurd (contains_nothing (pos 0) h)
contained_any (v ∷ vs) h =
    elim (contains_cases v.0 (pos 0) (map (λ v. v.0) vs) h) [
      | inl same ↦ let e : int_eq v.0 (pos 0) ≡ true = ap (λ (z : ℤ). int_eq z (pos 0)) same ∙ int_self (pos 0) in rw e refl
      | inr later ↦ let e = contained_any vs later in rw e (or_true (int_eq v.0 (pos 0)))
    ]

some_values : (vs : List (ℤ × List ℕ)) → Contains (map (λ v. v.0) vs) (pos 0) → is_empty vs ≡ false
some_values [] h = absurd (contains_nothing (pos 0) h)
some_values (v ∷ vs) h = ne_eqb (suc (length vs)) 0 (omega arith)

-- the names before an element of a list
pub front_names : {X : Type 0} (f : X → List ℕ) (all done : List X) (x : X) (rest : List X) → all ≡ done ++ x ∷ rest → map f all ≡ map f done ++ f x ∷ map f rest
front_names f all done x rest e = ap (map f) e ∙ map-append f done (x ∷ rest)

pub record EnumsRan (t : TypeNames) (T : Table) (d : TableDraft) (b : ℕ) (ls : List (List ℕ)) : Type 0 where
  pub end : TableDraft
  pub runs : Runs t d b ls end
  pub stand : Stand end T.enums [] []

enum_clean : (t : TypeNames) (T : Table) (d : TableDraft) (bytes : ℕ) (done : List Choices) (e : Choices) (rest : List Choices)
    → IsValid T → T.enums ≡ done ++ e ∷ rest → Stand d done [] [] → bytes ≤ 65536
    → IsClean t (names_before_line d) bytes (Enum e.name)
enum_clean t T d bytes done e rest valid split s few =
    let es = stand_enums d done [] [] s in
    let ms = stand_messages d done [] [] s in
    let ks = stand_methods d done [] [] s in
    let names = front_names (λ (c : Choices). c.name) T.enums done e rest split in
    let up = subst (IsAscendingBy IsBelow) names (map_ascends IsBelow (λ (c : Choices). c.name) T.enums valid.enums_ascend) in
    let apart : AreDistinct (map (λ c. c.name) done ++ e.name
    ∷ (map (λ c. c.name) rest ++ map (λ m. m.name) T.messages)) =
    subst AreDistinct (ap (λ (xs : List (List ℕ)). xs ++ map (λ m. m.name) T.messages) names
    ∙ append_assoc (map (λ c. c.name) done) (e.name ∷ map (λ c. c.name) rest) (map (λ m. m.name) T.messages))
    valid.types in
    let ok = All-contains IsEnum (done ++ e ∷ rest) e (subst (All IsEnum) split valid.enums) (Contains-append_right done (e ∷ rest) e (contains_first e rest)) in
    let count : length T.enums ≡ length done + suc (length rest) = ap length split ∙ length-append done (e ∷ rest) in
    let no_messages : not (is_empty (message_names d)) ≡ false = rw ms refl in
    let no_methods : not (is_empty (method_names d)) ≡ false = rw ks refl in
    let stays : is_below_last e.name (enum_names d) ≡ false =
    rw es (not_falls e.name (map (λ c. c.name) done)
    (λ m last. ascends_split IsBelow (map (λ c. c.name) done) e.name (map (λ c. c.name) rest) up m last)) in
    let new_enum : is_among e.name (enum_names d) ≡ false =
    rw es (among_not e.name (map (λ c. c.name) done)
    (distinct_split (map (λ c. c.name) done) e.name (map (λ c. c.name) rest ++ map (λ m. m.name) T.messages)
    apart)) in
    let new_message : is_among e.name (message_names d) ≡ false = rw ms refl in
    let length_is : length (enum_names d) ≡ length done = ap length es ∙ length-map done (λ (c : Choices). c.name) in
    record {
      syntax = both_no ((lacks_value (open_part d.open_part) || not (is_empty (message_names d))) || not (is_empty (method_names d))) (is_below_last e.name (enum_names d))
          (both_no (lacks_value (open_part d.open_part) || not (is_empty (message_names d)))
          (not (is_empty (method_names d)))
          (both_no (lacks_value (open_part d.open_part)) (not (is_empty (message_names d))) s.value_in
          no_messages) no_methods) stays;
      number = s.zero_in;
      duplicate = both_no (is_among e.name (enum_names d)) (is_among e.name (message_names d)) new_enum new_message;
      unknown = refl;
      map_key = refl;
      limit = both_no (not (is_short_full e.name) || nat_le 256 (length (enum_names d))) (nat_lt 65536 bytes)
          (both_no (not (is_short_full e.name)) (nat_le 256 (length (enum_names d)))
          (no_not (is_short_full e.name) ok.name.short)
          (room_left (length (enum_names d)) 256 (omega (arith, length_is, count, valid.few_enums))))
          (no_more_bytes bytes few);
    }

pub enums_run : (t : TypeNames) (T : Table) (d : TableDraft) (b : ℕ) (done rest : List Choices) → IsValid T
    → T.enums ≡ done ++ rest → Stand d done [] [] → bytes_from b (flat_map enum_texts rest) ≤ 65536
    → EnumsRan t T d b (flat_map enum_texts rest)
enums_run t T d b done [] valid split s few = record {
  end = d;
  runs = refl;
  stand = record { enums = s.enums ∙ sym (split ∙ append-nil done); messages = s.messages; methods = s.methods; value_in = s.value_in; zero_in = s.zero_in };
}
enums_run t T d b done (e ∷ rest) valid split s few =
    let head = spaced (codes "enum" ∷ e.name ∷ []) in
    let b1 = b + length head + 1 in
    let b2 = bytes_from b1 (map value_text e.values) in
    let bytes : bytes_from b (flat_map enum_texts (e ∷ rest)) ≡ bytes_from b2 (flat_map enum_texts rest) = bytes_append b (enum_texts e) (flat_map enum_texts rest) in
    let le2 : b2 ≤ 65536 = omega (arith, bytes, few, bytes_rise b2 (flat_map enum_texts rest)) in
    let le1 : b1 ≤ 65536 = omega (arith, le2, bytes_rise b1 (map value_text e.values)) in
    let ok = All-contains IsEnum (done ++ e ∷ rest) e (subst (All IsEnum) split valid.enums) (Contains-append_right done (e ∷ rest) e (contains_first e rest)) in
    let reads : line_of head ≡ Some (Enum e.name) = line_read (codes "enum" ∷ e.name ∷ []) (Enum e.name) (refl, ok.name.form) in
    let opened = added_enum d e.name in
    let whole = with_part opened (open_parts.Enum e) in
    let values = values_run t opened b1 e.name [] e.values ok le2 in
    let first = runs_line t d whole b head (Enum e.name) (map value_text e.values) reads (enum_clean t T d b1 done e rest valid split s le1) values in
    let split_next : T.enums ≡ (done ++ e ∷ []) ++ rest = split ∙ sym (append_assoc done (e ∷ []) rest) in
    let stand : Stand whole (done ++ e ∷ []) [] [] = record {
      enums = ap (λ (xs : List Choices). xs ++ e ∷ []) s.enums;
      messages = s.messages;
      methods = s.methods;
      value_in = some_values e.values ok.zero;
      zero_in = no_not (list_any (λ v. int_eq v.0 (pos 0)) e.values) (contained_any e.values ok.zero);
    } in
    let more = enums_run t T whole b2 (done ++ e ∷ []) rest valid split_next stand (omega (arith, bytes, few)) in
    record { end = more.end; runs = runs_append t d whole more.end b (enum_texts e) (flat_map enum_texts rest) first more.runs; stand = more.stand }

-- ---- kinds and labels in words

pub record TypesOf (t : TypeNames) (T : Table) : Type 0 where
  pub messages : t.messages ≡ map (λ m. m.name) T.messages
  pub enums : t.enums ≡ map (λ e. e.name) T.enums

place_at : (k : ℕ) (n : List ℕ) (ns : List (List ℕ)) (i : ℕ) → AreDistinct ns → slice_get ns i ≡ Some n → index_from k n ns ≡ Some (k + i)
place_at k n [] i d e = absurd cc
place_at k n (m ∷ ns) zero d e =
    let same : m ≡ n = unsome e in
    let hit : bytes_eq n m ≡ true = bytes_same n m (sym same) in
    let z : k ≡ k + 0 = omega arith in
    rw hit (ap Some z)
place_at k n (m ∷ ns) (suc i) d e =
    let within = slice_get_within ns i n e in
    let member : Contains ns n = (i, within, get_or_from_slice_get ns i n n e) in
    let miss : bytes_eq n m ≡ false = false_from (bytes_eq n m) (λ same. d.0 (subst (Contains ns) (same_bytes n m same) member)) in
    let z : k + 1 + i ≡ k + suc i = omega arith in
    rw miss (place_at (k + 1) n ns i d.1 e ∙ ap Some z)

place_is : (n : List ℕ) (ns : List (List ℕ)) (i : ℕ) → AreDistinct ns → length ns ≤ 65536 → slice_get ns i ≡ Some n → index_or_next n ns ≡ i
place_is n ns i d small e =
    let within = slice_get_within ns i n e in
    let z : min (0 + i) (2 ^ 32 - 1) ≡ i = omega arith in
    ap (λ (o : Option ℕ). places.capped_index (unwrap_or o (length ns))) (place_at 0 n ns i d e) ∙ z

abbrev pub kind_word : Table → Kind → KindWord
kind_word T (OfMessage i) = kinds.Message (message_name T i)
kind_word T (Choice i) = kinds.Choice (enum_name T i)
kind_word T Int32 = kinds.Scalar Int32
kind_word T Int64 = kinds.Scalar Int64
kind_word T Uint32 = kinds.Scalar Uint32
kind_word T Uint64 = kinds.Scalar Uint64
kind_word T Sint32 = kinds.Scalar Sint32
kind_word T Sint64 = kinds.Scalar Sint64
kind_word T TheBool = kinds.Scalar TheBool
kind_word T Fixed32 = kinds.Scalar Fixed32
kind_word T Fixed64 = kinds.Scalar Fixed64
kind_word T Sfixed32 = kinds.Scalar Sfixed32
kind_word T Sfixed64 = kinds.Scalar Sfixed64
kind_word T Float = kinds.Scalar Float
kind_word T Double = kinds.Scalar Double
kind_word T Text = kinds.Scalar Text
kind_word T Octets = kinds.Scalar Octets

pub record MessageAt (T : Table) (i : ℕ) : Type 0 where
  pub named : slice_get (map (λ m. m.name) T.messages) i ≡ Some (message_name T i)
  pub full : IsFullName (message_name T i)

pub record EnumAt (T : Table) (i : ℕ) : Type 0 where
  pub named : slice_get (map (λ e. e.name) T.enums) i ≡ Some (enum_name T i)
  pub full : IsFullName (enum_name T i)

pub message_at : (T : Table) (i : ℕ) → IsValid T → i < length T.messages → MessageAt T i
message_at T i valid within =
    let m = get_or T.messages i (named_message []) in
    let at = slice_get-get_or T.messages i (named_message []) within in
    let name : message_name T i ≡ m.name = ap (λ (o : Option TheMessage). unwrap_or (option_map (λ m. m.name) o) []) at in
    record {
      named = slice_get-map (λ (m : TheMessage). m.name) T.messages i ∙ ap (option_map (λ (m : TheMessage). m.name)) at ∙ ap Some (sym name);
      full = subst IsFullName (sym name) (valid.messages i (named_message []) within).name;
    }

enum_at : (T : Table) (i : ℕ) → IsValid T → i < length T.enums → EnumAt T i
enum_at T i valid within =
    let e = get_or T.enums i (named_enum []) in
    let at = slice_get-get_or T.enums i (named_enum []) within in
    let name : enum_name T i ≡ e.name = ap (λ (o : Option Choices). unwrap_or (option_map (λ m. m.name) o) []) at in
    record {
      named = slice_get-map (λ (e : Choices). e.name) T.enums i ∙ ap (option_map (λ (e : Choices). e.name)) at ∙ ap Some (sym name);
      full = subst IsFullName (sym name) (valid.enums i (named_enum []) within).name;
    }

pub kind_word_is : (T : Table) (k : Kind) → IsValid T → IsKnown T k → KindIs (kind_text T k) (kind_word T k)
kind_word_is T (OfMessage i) valid known = (refl, (message_at T i valid known).full.form)
kind_word_is T (Choice i) valid known = (refl, (enum_at T i valid known).full.form)
kind_word_is T Int32 valid known = (λ U. refl, tt)
kind_word_is T Int64 valid known = (λ U. refl, tt)
kind_word_is T Uint32 valid known = (λ U. refl, tt)
kind_word_is T Uint64 valid known = (λ U. refl, tt)
kind_word_is T Sint32 valid known = (λ U. refl, tt)
kind_word_is T Sint64 valid known = (λ U. refl, tt)
kind_word_is T TheBool valid known = (λ U. refl, tt)
kind_word_is T Fixed32 valid known = (λ U. refl, tt)
kind_word_is T Fixed64 valid known = (λ U. refl, tt)
kind_word_is T Sfixed32 valid known = (λ U. refl, tt)
kind_word_is T Sfixed64 valid known = (λ U. refl, tt)
kind_word_is T Float valid known = (λ U. refl, tt)
kind_word_is T Double valid known = (λ U. refl, tt)
kind_word_is T Text valid known = (λ U. refl, tt)
kind_word_is T Octets valid known = (λ U. refl, tt)

distinct_front : {X : Type 0} (xs ys : List X) → AreDistinct (xs ++ ys) → AreDistinct xs
distinct_front [] ys d = tt
distinct_front (x ∷ xs) ys d = (λ h. d.0 (Contains-append_left xs ys x h), distinct_front xs ys d.1)

distinct_back : {X : Type 0} (xs ys : List X) → AreDistinct (xs ++ ys) → AreDistinct ys
distinct_back [] ys d = d
distinct_back (x ∷ xs) ys d = distinct_back xs ys d.1

pub message_placed : (t : TypeNames) (T : Table) (i : ℕ) → IsValid T → TypesOf t T → i < length T.messages
    → (index_or_next (message_name T i) t.messages ≡ i) × (is_among (message_name T i) t.messages ≡ true)
message_placed t T i valid is within =
    let at = message_at T i valid within in
    let d : AreDistinct t.messages = subst AreDistinct (sym is.messages) (distinct_back (map (λ e. e.name) T.enums) (map (λ m. m.name) T.messages) valid.types) in
    let got : slice_get t.messages i ≡ Some (message_name T i) = ap (λ (ns : List (List ℕ)). slice_get ns i) is.messages ∙ at.named in
    let count : length t.messages ≡ length T.messages = ap length is.messages ∙ length-map T.messages (λ (m : TheMessage). m.name) in (
      place_is (message_name T i) t.messages i d (omega (arith, count, valid.few_messages)) got,
      contains_among (message_name T i) t.messages (i, slice_get_within t.messages i (message_name T i) got, get_or_from_slice_get t.messages i (message_name T i) (message_name T i) got),
    )

enum_placed : (t : TypeNames) (T : Table) (i : ℕ) → IsValid T → TypesOf t T → i < length T.enums → (index_or_next (enum_name T i) t.enums ≡ i) × (is_among (enum_name T i) t.enums ≡ true)
enum_placed t T i valid is within =
    let at = enum_at T i valid within in
    let d : AreDistinct t.enums = subst AreDistinct (sym is.enums) (distinct_front (map (λ e. e.name) T.enums) (map (λ m. m.name) T.messages) valid.types) in
    let got : slice_get t.enums i ≡ Some (enum_name T i) = ap (λ (ns : List (List ℕ)). slice_get ns i) is.enums ∙ at.named in
    let count : length t.enums ≡ length T.enums = ap length is.enums ∙ length-map T.enums (λ (e : Choices). e.name) in (
      place_is (enum_name T i) t.enums i d (omega (arith, count, valid.few_enums)) got,
      contains_among (enum_name T i) t.enums (i, slice_get_within t.enums i (enum_name T i) got, get_or_from_slice_get t.enums i (enum_name T i) (enum_name T i) got),
    )

pub record KindWordIs (t : TypeNames) (T : Table) (k : Kind) : Type 0 where
  pub resolves : resolved t (kind_word T k) ≡ k
  pub known : is_unknown_kind t (kind_word T k) ≡ false
  pub short : is_short_kind (kind_word T k) ≡ true
  pub message : (IsMessageKind k → ⊥) → is_message_word (kind_word T k) ≡ false
  pub numeric : IsTrue (is_numeric k) → is_packable_word (kind_word T k) ≡ true
  pub key : IsTrue (is_key k) → is_key_kind (kind_word T k) ≡ true

pub kind_word_of : (t : TypeNames) (T : Table) (k : Kind) → IsValid T → TypesOf t T → IsKnown T k → KindWordIs t T k
kind_word_of t T (OfMessage i) valid is known =
    let p = message_placed t T i valid is known in
    record {
      resolves = ap OfMessage p.0;
      known = no_not (is_among (message_name T i) t.messages) p.1;
      short = (message_at T i valid known).full.short;
      message = λ h. absurd (h tt);
      numeric = λ e. absurd cc;
      key = λ e. absurd cc;
    }
kind_word_of t T (Choice i) valid is known =
    let p = enum_placed t T i valid is known in
    record {
      resolves = ap Choice p.0;
      known = no_not (is_among (enum_name T i) t.enums) p.1;
      short = (enum_at T i valid known).full.short;
      message = λ h. refl;
      numeric = λ e. refl;
      key = λ e. absurd cc;
    }
kind_word_of t T Int32 valid is known = record { resolves = refl; known = refl; short = refl; message = λ h. refl; numeric = λ e. refl; key = λ e. refl }
kind_word_of t T Int64 valid is known = record { resolves = refl; known = refl; short = refl; message = λ h. refl; numeric = λ e. refl; key = λ e. refl }
kind_word_of t T Uint32 valid is known = record { resolves = refl; known = refl; short = refl; message = λ h. refl; numeric = λ e. refl; key = λ e. refl }
kind_word_of t T Uint64 valid is known = record { resolves = refl; known = refl; short = refl; message = λ h. refl; numeric = λ e. refl; key = λ e. refl }
kind_word_of t T Sint32 valid is known = record { resolves = refl; known = refl; short = refl; message = λ h. refl; numeric = λ e. refl; key = λ e. refl }
kind_word_of t T Sint64 valid is known = record { resolves = refl; known = refl; short = refl; message = λ h. refl; numeric = λ e. refl; key = λ e. refl }
kind_word_of t T TheBool valid is known = record { resolves = refl; known = refl; short = refl; message = λ h. refl; numeric = λ e. refl; key = λ e. refl }
kind_word_of t T Fixed32 valid is known = record { resolves = refl; known = refl; short = refl; message = λ h. refl; numeric = λ e. refl; key = λ e. refl }
kind_word_of t T Fixed64 valid is known = record { resolves = refl; known = refl; short = refl; message = λ h. refl; numeric = λ e. refl; key = λ e. refl }
kind_word_of t T Sfixed32 valid is known = record { resolves = refl; known = refl; short = refl; message = λ h. refl; numeric = λ e. refl; key = λ e. refl }
kind_word_of t T Sfixed64 valid is known = record { resolves = refl; known = refl; short = refl; message = λ h. refl; numeric = λ e. refl; key = λ e. refl }
kind_word_of t T Float valid is known = record { resolves = refl; known = refl; short = refl; message = λ h. refl; numeric = λ e. refl; key = λ e. absurd cc }
kind_word_of t T Double valid is known = record { resolves = refl; known = refl; short = refl; message = λ h. refl; numeric = λ e. refl; key = λ e. absurd cc }
kind_word_of t T Text valid is known = record { resolves = refl; known = refl; short = refl; message = λ h. refl; numeric = λ e. absurd cc; key = λ e. refl }
kind_word_of t T Octets valid is known = record { resolves = refl; known = refl; short = refl; message = λ h. refl; numeric = λ e. absurd cc; key = λ e. absurd cc }

abbrev pub label_word : Table → List (List ℕ) → Label → LabelWord
label_word T oneofs Plain = labels.Plain
label_word T oneofs Optional = labels.Optional
label_word T oneofs Repeated = labels.Repeated
label_word T oneofs Packed = labels.Packed
label_word T oneofs (Map k) = labels.Map (kind_word T k)
label_word T oneofs (Member o) = labels.Member (unwrap_or (slice_get oneofs o) [])

member_named : (oneofs : List (List ℕ)) (o : ℕ) → All IsName oneofs → o < length oneofs
    → (slice_get oneofs o ≡ Some (unwrap_or (slice_get oneofs o) [])) × IsName (unwrap_or (slice_get oneofs o) [])
member_named oneofs o names within =
    let at = slice_get-get_or oneofs o [] within in
    let is : unwrap_or (slice_get oneofs o) [] ≡ get_or oneofs o [] = ap (λ (x : Option (List ℕ)). unwrap_or x []) at in
    (at ∙ ap Some (sym is), subst IsName (sym is) (names o [] within))

pub follow_ge : (met all : ℕ) (fs : List TheField) → AreOneofsInOrder met all fs → met ≤ all
follow_ge met all [] h = omega (arith, h)
follow_ge met all (f ∷ fs) h = joined_ge met all f.label (AreOneofsInOrder met all fs) (AreOneofsInOrder (met + 1) all fs) (follow_ge met all fs) (follow_ge (met + 1) all fs) h
  where
    joined_ge : (met all : ℕ) (l : Label) (A B : Type 0) → (A → met ≤ all) → (B → met + 1 ≤ all) → IsNextOneof met l A B → met ≤ all
    joined_ge met all Plain A B f g h = f h
    joined_ge met all Optional A B f g h = f h
    joined_ge met all Repeated A B f g h = f h
    joined_ge met all Packed A B f g h = f h
    joined_ge met all (Map k) A B f g h = f h
    joined_ge met all (Member o) A B f g h = elim h [ inl old ↦ f old.1 | inr new ↦ omega (arith, g new.1) ]

get_take : {X : Type 0} (xs : List X) (n i : ℕ) → i < n → slice_get (take n xs) i ≡ slice_get xs i
get_take [] zero i lt = absurd (omega arith)
get_take [] (suc n) i lt = refl
get_take (x ∷ xs) zero i lt = absurd (omega arith)
get_take (x ∷ xs) (suc n) zero lt = refl
get_take (x ∷ xs) (suc n) (suc i) lt = get_take xs n i (omega arith)

cut_here : {X : Type 0} (xs : List X) (n : ℕ) (x : X) → slice_get xs n ≡ Some x → xs ≡ take n xs ++ x ∷ drop (suc n) xs
cut_here [] n x e = absurd cc
cut_here (y ∷ ys) zero x e = let same : y ≡ x = unsome e in ap (λ z. z ∷ ys) same
cut_here (y ∷ ys) (suc n) x e = ap (λ zs. y ∷ zs) (cut_here ys n x e)

take_next : {X : Type 0} (xs : List X) (n : ℕ) (x : X) → slice_get xs n ≡ Some x → take (n + 1) xs ≡ take n xs ++ x ∷ []
take_next xs n x e = let next : n + 1 ≡ suc n = omega arith in ap (λ (k : ℕ). take k xs) next ∙ go xs n x e
  where
    go : {X : Type 0} (xs : List X) (n : ℕ) (x : X) → slice_get xs n ≡ Some x → take (suc n) xs ≡ take n xs ++ x ∷ []
    go [] n x e = absurd cc
    go (y ∷ ys) zero x e = let same : y ≡ x = unsome e in ap (λ z. z ∷ []) same
    go (y ∷ ys) (suc n) x e = ap (λ zs. y ∷ zs) (go ys n x e)

-- the label of a field, read when the first oneofs are known
pub record LabelRuns (t : TypeNames) (T : Table) (oneofs : List (List ℕ)) (met : ℕ) (l : Label) (P : ℕ → Type 0) : Type 0 where
  pub next : ℕ
  pub spelled : LabelIs (label_text T oneofs l) (label_word T oneofs l)
  pub labels : labeled t (take met oneofs) (label_word T oneofs l) ≡ l
  pub joins : joined_with (take met oneofs) (new_oneof (take met oneofs) (label_word T oneofs l)) ≡ take next oneofs
  pub known : is_unknown_label t (label_word T oneofs l) ≡ false
  pub key : is_map_key_label (label_word T oneofs l) ≡ false
  pub short : is_short_label (label_word T oneofs l) ≡ true
  pub goes_on : P next

pub label_runs : (t : TypeNames) (T : Table) (oneofs : List (List ℕ)) (met : ℕ) (l : Label) (k : Kind) (P : ℕ → Type 0)
    → IsValid T → TypesOf t T → All IsName oneofs → AreDistinct oneofs → length oneofs ≤ 128 → met ≤ length oneofs
    → ((n : ℕ) → P n → n ≤ length oneofs)
    → IsLabelFor (length oneofs) l k → IsNextOneof met l (P met) (P (met + 1)) → LabelRuns t T oneofs met l P
label_runs t T oneofs met Plain k P valid is names d few le top goes h = record {
  next = met;
  spelled = refl;
  labels = refl;
  joins = refl;
  known = refl;
  key = refl;
  short = refl;
  goes_on = h;
}
label_runs t T oneofs met Optional k P valid is names d few le top goes h = record {
  next = met;
  spelled = refl;
  labels = refl;
  joins = refl;
  known = refl;
  key = refl;
  short = refl;
  goes_on = h;
}
label_runs t T oneofs met Repeated k P valid is names d few le top goes h = record {
  next = met;
  spelled = refl;
  labels = refl;
  joins = refl;
  known = refl;
  key = refl;
  short = refl;
  goes_on = h;
}
label_runs t T oneofs met Packed k P valid is names d few le top goes h = record {
  next = met;
  spelled = refl;
  labels = refl;
  joins = refl;
  known = refl;
  key = refl;
  short = refl;
  goes_on = h;
}
label_runs t T oneofs met (Map j) k P valid is names d few le top goes h =
    let known = key_known T j goes in
    let w = kind_word_of t T j valid is known in
    record {
      next = met;
      spelled = (kind_text T j, refl, kind_word_is T j valid known);
      labels = ap Map w.resolves;
      joins = refl;
      known = w.known;
      key = no_not (is_key_kind (kind_word T j)) (w.key goes);
      short = w.short;
      goes_on = h;
    }
label_runs t T oneofs met (Member o) k P valid is names d few le top goes h =
    let n = unwrap_or (slice_get oneofs o) [] in
    let at = member_named oneofs o names goes in
    let count : length (take met oneofs) ≡ met = omega (arith, length-take met oneofs) in
    let whole : take met oneofs ++ drop met oneofs ≡ oneofs = take-append-drop met oneofs in
    let front : AreDistinct (take met oneofs) = distinct_front (take met oneofs) (drop met oneofs) (subst AreDistinct (sym whole) d) in
    elim h [
      | inl old ↦
          let got : slice_get (take met oneofs) o ≡ Some n = get_take oneofs met o old.0 ∙ at.0 in
          let among : is_among n (take met oneofs) ≡ true =
          contains_among n (take met oneofs) (
            o,
            slice_get_within (take met oneofs) o n got,
            get_or_from_slice_get (take met oneofs) o n n got,
          ) in
          record {
            next = met;
            spelled = (refl, at.1.form);
            labels = ap Member (place_is n (take met oneofs) o front (omega (arith, count)) got);
            joins = ap (λ (b : Bool). joined_with (take met oneofs) (cond b None (Some n))) among;
            known = refl;
            key = refl;
            short = le-leb (length n) 64 at.1.short;
            goes_on = old.1;
          }
      | inr new ↦
          let got : slice_get oneofs met ≡ Some n = ap (slice_get oneofs) (sym new.0) ∙ at.0 in
          let apart = subst AreDistinct (cut_here oneofs met n got) d in
          let fresh : is_among n (take met oneofs) ≡ false = among_not n (take met oneofs) (distinct_split (take met oneofs) n (drop (suc met) oneofs) apart) in
          let placed : index_or_next n (take met oneofs) ≡ o = member_new n (take met oneofs) (omega (arith, count, few)) fresh ∙ count ∙ sym new.0 in
          record {
            next = met + 1;
            spelled = (refl, at.1.form);
            labels = ap Member placed;
            joins = ap (λ (b : Bool). joined_with (take met oneofs) (cond b None (Some n))) fresh ∙ sym (take_next oneofs met n got);
            known = refl;
            key = refl;
            short = le-leb (length n) 64 at.1.short;
            goes_on = new.1;
          }
    ]

pub no_clash : (t : TypeNames) (T : Table) (oneofs : List (List ℕ)) (n : ℕ) (l : Label) (k : Kind) → KindWordIs t T k
    → IsLabelFor n l k → clashes (label_word T oneofs l) (kind_word T k) ≡ false
no_clash t T oneofs n Plain k w h = refl
no_clash t T oneofs n Optional k w h = w.message h
no_clash t T oneofs n Repeated k w h = refl
no_clash t T oneofs n Packed k w h = no_not (is_packable_word (kind_word T k)) (w.numeric h)
no_clash t T oneofs n (Map j) k w h = refl
no_clash t T oneofs n (Member o) k w h = refl
