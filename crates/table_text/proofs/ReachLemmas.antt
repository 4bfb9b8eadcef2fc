-- The types that are kept for a text suffice for each of its lines that is reached.
use Rattle.std.proofs.Common.{◌≡◌, ℕ, zero, suc, ◌+◌, ◌-◌, ◌<◌, ◌≤◌, ◌==◌, ◌||◌, Bool, true, false, not, cond, List}
use Rattle.std.proofs.Common.{[], ◌∷◌, ◌++◌, codes, length, take, drop, Option, Some, None, refl, ap, sym, subst, ◌∙◌}
use Rattle.std.proofs.Common.{append_assoc, arith, inl, inr, length-append, length-drop}
use Rattle.std.specs.Prelude.{slice_get, option_and_then}
use Rattle.std.specs.List.{filter_map, cons_option, onto_first}
use Rattle.std.specs.Str.{bytes_eq}
use Rattle.std.proofs.Math.Seq.{take-append_seam}
use Rattle.std.proofs.lemmas.Bool.{false≢true, false_from_ne_true, cases_lt, ne_eqb}
use Rattle.std.proofs.lemmas.List.{append-nil, length-take-le, take_all}
use Rattle.std.proofs.lemmas.List.Elements.{filter_map-append}
use Rattle.std.proofs.lemmas.List.Folds.{list_any-append}
use Rattle.std.proofs.lemmas.List.Sums.{sum-map, sum_by-cons}
use Rattle.mrpc_table.specs.Lines.{pieces_of, whole_lines, remainder_of}
use Rattle.table_text.specs.Faults.{bytes_of_lines}
use Rattle.table_text.specs.LineTests.{TypeNames, NamesBefore, types_of, names_in_lines, line_fault, is_among, is_empty, has_syntax_fault}
use Rattle.table_text.specs.LineTests.{has_number_fault, has_duplicate, has_unknown_type, is_unknown_kind, is_unknown_label}
use Rattle.table_text.specs.LineTests.{has_map_key_fault, exceeds_limit}
use Rattle.table_text.specs.Lines.{without_prefix, line_of}
use Rattle.table_text.specs.NameIndex.{AreNames}
use Rattle.table_text.specs.Reach.{used_by_kind, used_by_label, used_by, used_by_line, used_in, used_with_prefix, types_near, AreLongParts, HasNoFaultBefore, IsSufficient}
use Rattle.table_text.specs.declared.fault.TableReason.TheVariants.{Syntax, Number, Duplicate, UnknownType, MapKey, Limit}
use Rattle.table_text.specs.declared.name_index.NameIndex.{NameIndex}
use Rattle.table_text.specs.declared.line.KindWord.{KindWord}
use Rattle.table_text.specs.declared.line.KindWord.TheVariants as kinds
use Rattle.table_text.specs.declared.line.LabelWord.{LabelWord}
use Rattle.table_text.specs.declared.line.LabelWord.TheVariants as labels
use Rattle.table_text.specs.declared.line.TableLine.{TableLine}
use Rattle.table_text.specs.declared.line.TableLine.TheVariants.{Enum, Value, Message, Field, Method}
use Rattle.table_text.proofs.Accepts.{few_bytes, some_line}
use Rattle.table_text.proofs.LineLemmas.{init_first, here_is, take_drop, bytes_push}
use Rattle.table_text.proofs.OrderLemmas.{or_true}
use Rattle.table_text.proofs.PlaceLemmas.{same_bytes, bytes_same}
use Rattle.table_text.proofs.TableCuts.{cut_is}
use Rattle.table_text.proofs.ListLemmas.{has_part}

-- ---- lines after lines

abbrev HasPart : List (List ℕ) → Type 0
HasPart ps = (part : List ℕ) × (parts : List (List ℕ)) × (ps ≡ part ∷ parts)

onto_append : (c : ℕ) (ps qs : List (List ℕ)) → HasPart ps → onto_first c (ps ++ qs) ≡ onto_first c ps ++ qs
onto_append c [] qs some = let clash : [] ≡ some.0 ∷ some.1 = some.2 in absurd cc
onto_append c (p ∷ ps) qs some = refl

pieces_append : (x y : List ℕ) → pieces_of (x ++ 10 ∷ y) ≡ pieces_of x ++ pieces_of y
pieces_append [] y = refl
pieces_append (c ∷ cs) y =
    elim (c == 10) as (λ (b : Bool). cond b ([] ∷ pieces_of (cs ++ 10 ∷ y)) (onto_first c (pieces_of (cs ++ 10 ∷ y)))
    ≡ cond b ([] ∷ pieces_of cs) (onto_first c (pieces_of cs)) ++ pieces_of y) [
      | true ↦ ap (λ (ps : List (List ℕ)). [] ∷ ps) (pieces_append cs y)
      | false ↦ ap (onto_first c) (pieces_append cs y) ∙ onto_append c (pieces_of cs) (pieces_of y) (has_part 10 cs)
    ]

init_append : (ps : List (List ℕ)) (q : List ℕ) (qs : List (List ℕ)) → take (length (ps ++ q ∷ qs) - 1) (ps ++ q ∷ qs) ≡ ps ++ take (length (q ∷ qs) - 1) (q ∷ qs)
init_append [] q qs = refl
init_append (p ∷ []) q qs = init_first p q qs
init_append (p ∷ r ∷ rs) q qs = init_first p r (rs ++ q ∷ qs) ∙ ap (λ (ps : List (List ℕ)). p ∷ ps) (init_append (r ∷ rs) q qs)

lines_append : (x y : List ℕ) → whole_lines (x ++ 10 ∷ y) ≡ pieces_of x ++ whole_lines y
lines_append x y =
    let part = has_part 10 y in
    ap (λ (ps : List (List ℕ)). take (length ps - 1) ps) (pieces_append x y)
    ∙ subst (λ (ps : List (List ℕ)). take (length (pieces_of x ++ ps) - 1) (pieces_of x ++ ps) ≡ pieces_of x
    ++ take (length ps - 1) ps) (sym part.2) (init_append (pieces_of x) part.0 part.1)

abbrev line_bytes : List ℕ → ℕ
line_bytes l = length l + 1

bytes_cons : (l : List ℕ) (ls : List (List ℕ)) → bytes_of_lines (l ∷ ls) ≡ length l + 1 + bytes_of_lines ls
bytes_cons l ls = sum-map line_bytes (l ∷ ls) ∙ sum_by-cons line_bytes l ls ∙ ap (λ (n : ℕ). length l + 1 + n) (sym (sum-map line_bytes ls))

bytes_onto : (c : ℕ) (ps : List (List ℕ)) → HasPart ps → bytes_of_lines (onto_first c ps) ≡ 1 + bytes_of_lines ps
bytes_onto c [] some = let clash : [] ≡ some.0 ∷ some.1 = some.2 in absurd cc
bytes_onto c (p ∷ ps) some = omega (arith, bytes_cons (c ∷ p) ps, bytes_cons p ps)

bytes_pieces : (x : List ℕ) → bytes_of_lines (pieces_of x) ≡ length x + 1
bytes_pieces [] = refl
bytes_pieces (c ∷ cs) =
    elim (c == 10) as (λ (b : Bool). bytes_of_lines (cond b ([] ∷ pieces_of cs) (onto_first c (pieces_of cs))) ≡ suc (length cs) + 1) [
      | true ↦ omega (arith, bytes_cons [] (pieces_of cs), bytes_pieces cs)
      | false ↦ omega (arith, bytes_onto c (pieces_of cs) (has_part 10 cs), bytes_pieces cs)
    ]

-- a text that is split at the first line feed after its first m bytes
pub cut_parts : (m : ℕ) (text line far : List ℕ) → m ≤ length text → pieces_of (take (length text - m) (drop m text)) ≡ line ∷ pieces_of far
    → (whole_lines text ≡ whole_lines (take (length text - length far) text) ++ whole_lines far) × (m < bytes_of_lines (whole_lines (take (length text - length far) text)))
cut_parts m text line far le e =
    let x = take m text ++ line in
    let fed = x ++ 10 ∷ [] in
    let behind_m : take (length text - m) (drop m text) ≡ drop m text = take_all (length text - m) (drop m text) (omega (arith, length-drop m text)) in
    let is : text ≡ x ++ 10 ∷ far = sym (parted m text) ∙ ap (λ (t : List ℕ). take m text ++ t)
    (sym behind_m ∙ (cut_is (take (length text - m) (drop m text)) line far e).text_is)
    ∙ sym (append_assoc (take m text) line (10 ∷ far)) in
    let fed_is : text ≡ fed ++ far = is ∙ sym (append_assoc x (10 ∷ []) far) in
    let count : length text - length far ≡ length fed = omega (arith, ap (length {A = ℕ}) fed_is, length-append fed far) in
    let near : take (length text - length far) text ≡ fed = ap (λ (n : ℕ). take n text) count ∙ ap (take (length fed)) fed_is ∙ take-append_seam fed far in
    let lines : whole_lines (take (length text - length far) text) ≡ pieces_of x = ap whole_lines near ∙ lines_append x [] ∙ append-nil (pieces_of x) in
    let size : length (take m text) ≡ m = length-take-le m text le in
    let bytes : bytes_of_lines (whole_lines (take (length text - length far) text)) ≡ length x + 1 = ap bytes_of_lines lines ∙ bytes_pieces x in (
      ap whole_lines is ∙ lines_append x far ∙ ap (λ (ps : List (List ℕ)). ps ++ whole_lines far) (sym lines),
      omega (arith, bytes, length-append (take m text) line, size),
    )
  where
    parted : (n : ℕ) (t : List ℕ) → take n t ++ drop n t ≡ t
    parted zero t = refl
    parted (suc n) [] = refl
    parted (suc n) (c ∷ cs) = ap (λ (t : List ℕ). c ∷ t) (parted n cs)

-- ---- names among names

in_first : (n : List ℕ) (xs ys : List (List ℕ)) → is_among n xs ≡ true → is_among n (xs ++ ys) ≡ true
in_first n xs ys h = list_any-append (λ other. bytes_eq n other) xs ys ∙ ap (λ (b : Bool). b || is_among n ys) h

in_second : (n : List ℕ) (xs ys : List (List ℕ)) → is_among n ys ≡ true → is_among n (xs ++ ys) ≡ true
in_second n xs ys h = list_any-append (λ other. bytes_eq n other) xs ys ∙ ap (λ (b : Bool). is_among n xs || b) h ∙ or_true (is_among n xs)

in_itself : (n : List ℕ) (ns : List (List ℕ)) → is_among n (n ∷ ns) ≡ true
in_itself n ns = ap (λ (b : Bool). b || is_among n ns) (bytes_same n n refl)

apart : (n m : List ℕ) (wanted : List (List ℕ)) → is_among m wanted ≡ false → is_among n wanted ≡ true → bytes_eq n m ≡ false
apart n m wanted out in_it = false_from_ne_true (bytes_eq n m) (λ e. false≢true (sym out ∙ ap (λ (x : List ℕ). is_among x wanted) (sym (same_bytes n m e)) ∙ in_it))

chosen : (n m : List ℕ) (wanted xs ys : List (List ℕ)) (b : Bool) → is_among m wanted ≡ b → is_among n wanted ≡ true → is_among n xs ≡ is_among n ys
    → is_among n (cons_option (cond b (Some m) None) xs) ≡ is_among n (m ∷ ys)
chosen n m wanted xs ys true is in_it same = ap (λ (b : Bool). bytes_eq n m || b) same
chosen n m wanted xs ys false is in_it same = same ∙ sym (ap (λ (b : Bool). b || is_among n ys) (apart n m wanted is in_it))

-- a wanted name is among the kept ones exactly if it is among all
kept_far : (n : List ℕ) (wanted : List (List ℕ)) (prefix : List ℕ) → is_among n wanted ≡ true → (far : List (List ℕ))
    → is_among n (filter_map (used_with_prefix wanted prefix) far) ≡ is_among n (filter_map (without_prefix prefix) far)
kept_far n wanted prefix in_it [] = refl
kept_far n wanted prefix in_it (l ∷ ls) = step (without_prefix prefix l) (kept_far n wanted prefix in_it ls)
  where
    step : (o : Option (List ℕ)) → is_among n (filter_map (used_with_prefix wanted prefix) ls)
        ≡ is_among n (filter_map (without_prefix prefix) ls)
        → is_among n (cons_option (option_and_then (λ m. cond (is_among m wanted) (Some m) None) o)
        (filter_map (used_with_prefix wanted prefix) ls)) ≡ is_among n (cons_option o (filter_map (without_prefix prefix) ls))
    step None same = same
    step (Some m) same = chosen n m wanted (filter_map (used_with_prefix wanted prefix) ls) (filter_map (without_prefix prefix) ls) (is_among m wanted) refl in_it same

names_agree : (n : List ℕ) (wanted : List (List ℕ)) (prefix : List ℕ) (near far : List (List ℕ)) → is_among n wanted ≡ true
    → is_among n (filter_map (without_prefix prefix) near ++ filter_map (used_with_prefix wanted prefix) far) ≡ is_among n (filter_map (without_prefix prefix) (near ++ far))
names_agree n wanted prefix near far in_it =
    let mine = filter_map (without_prefix prefix) near in
    list_any-append (λ other. bytes_eq n other) mine (filter_map (used_with_prefix wanted prefix) far)
    ∙ ap (λ (b : Bool). is_among n mine || b) (kept_far n wanted prefix in_it far)
    ∙ sym (list_any-append (λ other. bytes_eq n other) mine (filter_map (without_prefix prefix) far))
    ∙ sym (ap (is_among n) (filter_map-append (without_prefix prefix) near far))

-- no name is wanted, so none is kept
pub none_kept : (prefix : List ℕ) (far : List (List ℕ)) → filter_map (used_with_prefix [] prefix) far ≡ []
none_kept prefix [] = refl
none_kept prefix (l ∷ ls) = step (without_prefix prefix l) (none_kept prefix ls)
  where
    step : (o : Option (List ℕ)) → filter_map (used_with_prefix [] prefix) ls ≡ []
        → cons_option (option_and_then (λ m. cond (is_among m []) (Some m) None) o)
        (filter_map (used_with_prefix [] prefix) ls) ≡ []
    step None none = none
    step (Some m) none = none

pub nothing_kept : (prefix : List ℕ) (names : NameIndex) (start wanted far : List (List ℕ)) → true ≡ is_empty wanted
    → AreNames names start → AreNames names (start ++ filter_map (used_with_prefix wanted prefix) far)
nothing_kept prefix names start [] far e h = subst (AreNames names) (sym (ap (λ (xs : List (List ℕ)). start ++ xs) (none_kept prefix far) ∙ append-nil start)) h
nothing_kept prefix names start (w ∷ ws) far e h = absurd (false≢true (sym (e ∙ ne_eqb (suc (length ws)) 0 (λ none. absurd (omega arith)))))

-- ---- types that agree

abbrev AreUsed : List (List ℕ) → List (List ℕ) → Type 0
AreUsed names near = (n : List ℕ) → is_among n names ≡ true → is_among n (used_in near) ≡ true

kind_agrees : (near far : List (List ℕ)) (k : KindWord) → AreUsed (used_by_kind k) near → is_unknown_kind (types_near near far) k ≡ is_unknown_kind (types_of (near ++ far)) k
kind_agrees near far (kinds.Scalar k) used = refl
kind_agrees near far (kinds.Message n) used = ap not (names_agree n (used_in near) (codes "message ") near far (used n (in_itself n [])))
kind_agrees near far (kinds.Choice n) used = ap not (names_agree n (used_in near) (codes "enum ") near far (used n (in_itself n [])))

label_agrees : (near far : List (List ℕ)) (l : LabelWord) → AreUsed (used_by_label l) near → is_unknown_label (types_near near far) l ≡ is_unknown_label (types_of (near ++ far)) l
label_agrees near far labels.Plain used = refl
label_agrees near far labels.Optional used = refl
label_agrees near far labels.Repeated used = refl
label_agrees near far labels.Packed used = refl
label_agrees near far (labels.Map key) used = kind_agrees near far key used
label_agrees near far (labels.Member name) used = refl

line_agrees : (near far : List (List ℕ)) (l : TableLine) → AreUsed (used_by l) near → has_unknown_type (types_near near far) l ≡ has_unknown_type (types_of (near ++ far)) l
line_agrees near far (Enum name) used = refl
line_agrees near far (Value z name) used = refl
line_agrees near far (Message name) used = refl
line_agrees near far (Field f) used =
    let label = label_agrees near far f.label (λ n h. used n (in_first n (used_by_label f.label) (used_by_kind f.kind) h)) in
    let kind = kind_agrees near far f.kind (λ n h. used n (in_second n (used_by_label f.label) (used_by_kind f.kind) h)) in
    ap (λ (b : Bool). b || is_unknown_kind (types_near near far) f.kind) label ∙ ap (λ (b : Bool). is_unknown_label (types_of (near ++ far)) f.label || b) kind
line_agrees near far (Method m) used =
    let input = names_agree m.input (used_in near) (codes "message ") near far (used m.input (in_itself m.input (m.output ∷ []))) in
    let output = names_agree m.output (used_in near) (codes "message ") near far (used m.output (in_second m.output (m.input ∷ []) (m.output ∷ []) (in_itself m.output []))) in
    ap (λ (b : Bool). not b || not (is_among m.output (types_near near far).messages)) input ∙ ap (λ (b : Bool). not (is_among m.input (types_of (near ++ far)).messages) || not b) output

-- what a near line uses is among what the near lines use
used_at : (n : List ℕ) (near : List (List ℕ)) (i : ℕ) (line : List ℕ) → slice_get near i ≡ Some line
    → is_among n (used_by_line (line_of line)) ≡ true → is_among n (used_in near) ≡ true
used_at n [] zero line get h = absurd cc
used_at n [] (suc i) line get h = absurd cc
used_at n (l ∷ ls) zero line get h =
    let same : l ≡ line = cc in
    in_first n (used_by_line (line_of l)) (used_in ls) (ap (λ (x : List ℕ). is_among n (used_by_line (line_of x))) same ∙ h)
used_at n (l ∷ ls) (suc i) line get h = in_second n (used_by_line (line_of l)) (used_in ls) (used_at n ls i line get h)

fault_agrees : (t u : TypeNames) (b : NamesBefore) (bytes : ℕ) (o : Option TableLine)
    → ((l : TableLine) → o ≡ Some l → has_unknown_type t l ≡ has_unknown_type u l) → line_fault t b bytes o ≡ line_fault u b bytes o
fault_agrees t u b bytes None agrees = refl
fault_agrees t u b bytes (Some l) agrees =
    ap (λ (x : Bool). cond (has_syntax_fault b l) (Some Syntax)
    (cond (has_number_fault b l) (Some Number)
    (cond (has_duplicate b l) (Some Duplicate)
    (cond x (Some UnknownType)
    (cond (has_map_key_fault l) (Some MapKey) (cond (exceeds_limit b bytes l) (Some Limit) None)))))) (agrees l refl)

near_judges : (near far : List (List ℕ)) (i : ℕ) (line : List ℕ) (b : NamesBefore) (bytes : ℕ)
    → slice_get near i ≡ Some line → line_fault (types_near near far) b bytes (line_of line)
    ≡ line_fault (types_of (near ++ far)) b bytes (line_of line)
near_judges near far i line b bytes get =
    fault_agrees (types_near near far) (types_of (near ++ far)) b bytes (line_of line)
    (λ l is. line_agrees near far l (λ n h. used_at n near i line get (ap (λ (o : Option TableLine). is_among n (used_by_line o)) is ∙ h)))

-- ---- no line after the near ones is reached

few_to : (text : List ℕ) (k : ℕ) → k ≤ length (whole_lines text) → HasNoFaultBefore text k → bytes_of_lines (take k (whole_lines text)) ≤ 65536
few_to text zero within clean = omega arith
few_to text (suc k) within clean =
    let ls = whole_lines text in
    let at = some_line text k (omega arith) in
    let bytes = bytes_of_lines (take k ls) + length at.0 + 1 in
    let none = sym (here_is ls (remainder_of text) k at.0 at.1 at.2) ∙ clean k (omega arith) in
    let few : bytes ≤ 65536 = few_bytes (types_of ls) (names_in_lines (take k ls)) bytes (line_of at.0) none in
    omega (arith, few, ap bytes_of_lines (take_drop ls k at.0 at.1 at.2), bytes_push (take k ls) at.0)

past_near : (text near far : List ℕ) → AreLongParts text near far → (k : ℕ) → length (whole_lines near) ≤ k → HasNoFaultBefore text k → ⊥
past_near text near far long k le clean =
    let front : take (length (whole_lines near)) (whole_lines text) ≡ whole_lines near =
    ap (take (length (whole_lines near))) long.lines ∙ take-append_seam (whole_lines near) (whole_lines far) in
    let few = few_to text (length (whole_lines near))
    (omega (arith, ap (length {A = List ℕ}) long.lines, length-append (whole_lines near) (whole_lines far)))
    (λ j less. clean j (omega arith)) in
    let passes = long.passes in
    absurd (omega (arith, few, ap bytes_of_lines front, passes))

get_front : {X : Type 0} (xs ys : List X) (i : ℕ) (x : X) → i < length xs → slice_get (xs ++ ys) i ≡ Some x → slice_get xs i ≡ Some x
get_front [] ys i x less get = absurd (omega arith)
get_front (z ∷ zs) ys zero x less get = get
get_front (z ∷ zs) ys (suc i) x less get = get_front zs ys i x (omega arith) get

pub near_serves : (text near far : List ℕ) → AreLongParts text near far → IsSufficient (types_near (whole_lines near) (whole_lines far)) text
near_serves text near far long = record {
  judges = λ i line b bytes reached get. elim (cases_lt i (length (whole_lines near))) [
    | inl within ↦
        let mine = get_front (whole_lines near) (whole_lines far) i line within (ap (λ (ls : List (List ℕ)). slice_get ls i) (sym long.lines) ∙ get) in
        near_judges (whole_lines near) (whole_lines far) i line b bytes mine ∙ ap (λ (ls : List (List ℕ)). line_fault (types_of ls) b bytes (line_of line)) (sym long.lines)
    | inr past ↦ absurd (past_near text near far long i past reached)
  ];
  whole = λ clean. absurd (past_near text near far long (length (whole_lines near)) (omega arith) (λ j less. clean j));
}

pub all_serve : (text : List ℕ) → IsSufficient (types_of (whole_lines text)) text
all_serve text = record { judges = λ i line b bytes reached get. refl; whole = λ clean. refl }
