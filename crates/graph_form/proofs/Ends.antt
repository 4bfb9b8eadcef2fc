-- The outcome of loads that end at an invalid word, or at the limit: a malformed graph.
use Rattle.std.proofs.Common.{◌≡◌, ◌⊎◌, inl, inr, ⊎_elim, ℕ, zero, suc, ◌+◌, ◌-◌, ◌*◌, ◌/◌, ◌<◌, ◌≤◌, ◌^◌, Bool, true}
use Rattle.std.proofs.Common.{false, nat_le, cond, List, [], ◌∷◌, ◌++◌, length, take, refl, sym, ap, subst, ◌∙◌}
use Rattle.std.proofs.Common.{arith, length-append}
use Rattle.std.proofs.lemmas.List.{append_assoc, map-append}
use Rattle.std.proofs.lemmas.List.Elements.{All-nil, All-cons}
use Rattle.std.proofs.lemmas.Nat.{pow_pos}
use Rattle.std.proofs.lemmas.Bool.Decides.{nat_tests}
use Rattle.std.proofs.lemmas.Str.{IsUtf8-from_is_utf8, is_utf8-from_IsUtf8}
use Rattle.std.specs.Str.{IsUtf8, is_utf8}
use Rattle.mrpc_table.specs.Words.{IsWordForm}
use Rattle.mrpc_table.specs.declared.table.Kind.{Kind}
use Rattle.mrpc_table.specs.declared.table.Kind.TheVariants.{Int32, Int64, Uint32, Uint64, Sint32, Sint64}
use Rattle.mrpc_table.specs.declared.table.Kind.TheVariants.{Bool as TheBool, Fixed32, Fixed64, Sfixed32, Sfixed64}
use Rattle.mrpc_table.specs.declared.table.Kind.TheVariants.{Float, Double, Text, Octets, Message, Choice}
use Rattle.mrpc_table.specs.declared.table.Field.{Field}
use Rattle.mrpc_table.specs.declared.table.Table.{Table}
use Rattle.graph_form.specs.declared.reason.Reason.{Reason}
use Rattle.graph_form.specs.declared.reason.Reason.TheVariants.{Address, Presence, Case, Length, Utf8, Narrow, Depth, Loads, NoMethod}
use Rattle.graph_form.specs.Roles.{WordRole, value, presence, run_length, run_presence, run_address, run_word, link}
use Rattle.graph_form.specs.Roles.{count, elements_address, entry_count, entries_address, case_word, Expected, expected_after}
use Rattle.graph_form.specs.Roles.{word_bytes, element_words, size_words, node_words}
use Rattle.graph_form.specs.Placed.{Placed, nothing, first, word, IsSpanInHeap, IsValidWord, IsInvalid, IsPlaced}
use Rattle.graph_form.specs.Malformed.{Loaded, loaded_words, loads_of_words, AreValidWords, IsInvalidFirst, IsMalformed, offends, too_many}
use Rattle.graph_form.specs.Loading.{AreExpectedAfter}
use Rattle.graph_form.proofs.Joined.{placed-parts, loaded_words-join}

-- ---- for any expected words there is a placed tree: one of zeros

abbrev IsEither : Table → ℕ → WordRole → ℕ → Type 0
IsEither T H role v = IsValidWord T H role v ⊎ IsInvalid T H role v

fine-number : (T : Table) (H : ℕ) (k : Kind) (v : ℕ) → IsWordForm k v → IsValidWord T H (value k) v
fine-number T H k v form Narrow bad = bad form
fine-number T H k v form Address bad = bad
fine-number T H k v form Presence bad = bad
fine-number T H k v form Case bad = bad
fine-number T H k v form Length bad = bad
fine-number T H k v form Utf8 bad = bad
fine-number T H k v form Depth bad = bad
fine-number T H k v form Loads bad = bad
fine-number T H k v form NoMethod bad = bad

number-zero : (T : Table) (H : ℕ) (k : Kind) → IsEither T H (value k) 0
number-zero T H Text = inr (Narrow, λ h. h)
number-zero T H Octets = inr (Narrow, λ h. h)
number-zero T H (Message i) = inr (Narrow, λ h. h)
number-zero T H Int32 = inl (fine-number T H Int32 0 (inl (omega arith)))
number-zero T H Sint32 = inl (fine-number T H Sint32 0 (inl (omega arith)))
number-zero T H Sfixed32 = inl (fine-number T H Sfixed32 0 (inl (omega arith)))
number-zero T H (Choice i) = inl (fine-number T H (Choice i) 0 (inl (omega arith)))
number-zero T H Int64 = inl (fine-number T H Int64 0 (omega arith))
number-zero T H Sint64 = inl (fine-number T H Sint64 0 (omega arith))
number-zero T H Uint64 = inl (fine-number T H Uint64 0 (omega arith))
number-zero T H Fixed64 = inl (fine-number T H Fixed64 0 (omega arith))
number-zero T H Sfixed64 = inl (fine-number T H Sfixed64 0 (omega arith))
number-zero T H Double = inl (fine-number T H Double 0 (omega arith))
number-zero T H Uint32 = inl (fine-number T H Uint32 0 (omega arith))
number-zero T H Fixed32 = inl (fine-number T H Fixed32 0 (omega arith))
number-zero T H Float = inl (fine-number T H Float 0 (omega arith))
number-zero T H TheBool = inl (fine-number T H TheBool 0 (omega arith))

-- nothing lies at place 0
nowhere : (H words : ℕ) → IsSpanInHeap H 0 words → ⊥
nowhere H words h = let a = h.from_one in omega (arith, a)

-- a zero word of a run is valid, unless it ends a text that isn't UTF-8
run-fine : (T : Table) (H : ℕ) (k : Kind) (left : ℕ) (before : List ℕ)
    → (k ≡ Text → left ≤ 8 → IsUtf8 (before ++ take left (word_bytes 0))) → IsValidWord T H (run_word k left before) 0
run-fine T H k left before text Narrow bad = let a = pow_pos (8 * left) in let b = bad.1 in omega (arith, a, b)
run-fine T H Text left before text Utf8 bad = bad.1 (text refl bad.0)
run-fine T H k left before text Utf8 bad = bad
run-fine T H k left before text Address bad = bad
run-fine T H k left before text Presence bad = bad
run-fine T H k left before text Case bad = bad
run-fine T H k left before text Length bad = bad
run-fine T H k left before text Depth bad = bad
run-fine T H k left before text Loads bad = bad
run-fine T H k left before text NoMethod bad = bad

text-zero : (T : Table) (H left : ℕ) (before : List ℕ) (b : Bool) → is_utf8 (before ++ take left (word_bytes 0)) ≡ b
    → (left ≤ 8) ⊎ (8 < left) → IsEither T H (run_word Text left before) 0
text-zero T H left before true is s = inl (run-fine T H Text left before (λ t l. IsUtf8-from_is_utf8 (before ++ take left (word_bytes 0)) is))
text-zero T H left before false is (inl few) = inr (Utf8, (few, λ good. (let bad : true ≡ false = sym (is_utf8-from_IsUtf8 (before ++ take left (word_bytes 0)) good) ∙ is in cc)))
text-zero T H left before false is (inr more) = inl (run-fine T H Text left before (λ t l. absurd (omega (arith, more, l))))

-- a zero word, valid or not; it leads to nothing but the next word of a run
run-zero : (T : Table) (H : ℕ) (k : Kind) (left : ℕ) (before : List ℕ) → IsEither T H (run_word k left before) 0
run-zero T H Text left before = text-zero T H left before (is_utf8 (before ++ take left (word_bytes 0))) refl
    (elim (nat_le left 8) as (λ b. nat_le left 8 ≡ b
    → (left ≤ 8) ⊎ (8 < left)) [
      | true ↦ λ e. inl (grind (arith, nat_tests))
      | false ↦ λ e.
          inr (grind (arith, nat_tests))
    ] refl)
run-zero T H k left before = inl (run-fine T H k left before (λ e l. absurd (cc)))

-- a valid word of this role leads to nothing
abbrev HasNoneBehind : Table → WordRole → ℕ → Type 0
HasNoneBehind T role p = expected_after T role p 0 ≡ []

record Zeroed (T : Table) (H : ℕ) (role : WordRole) (p : ℕ) : Type 0 where
  content : Placed
  stands : (IsValidWord T H role 0 × IsPlaced T H (expected_after T role p 0) content) ⊎ (IsInvalid T H role 0 × (content ≡ nothing))

faulty-zero : (T : Table) (H : ℕ) (role : WordRole) (p : ℕ) → IsInvalid T H role 0 → Zeroed T H role p
faulty-zero T H role p f = record { content = nothing; stands = inr (f, refl) }

fine-alone : (T : Table) (H : ℕ) (role : WordRole) (p : ℕ) → HasNoneBehind T role p → IsValidWord T H role 0 → Zeroed T H role p
fine-alone T H role p none f = record { content = nothing; stands = inl (f, subst (λ es. IsPlaced T H es nothing) (sym none) tt) }

fine-presence : (T : Table) (H : ℕ) (k : Kind) → IsValidWord T H (presence k) 0
fine-presence T H k Presence bad = omega (arith, bad)
fine-presence T H k _ bad = bad

fine-length : (T : Table) (H : ℕ) (k : Kind) → 0 < H → IsValidWord T H (run_length k) 0
fine-length T H k some Length bad = omega (arith, bad, some)
fine-length T H k some _ bad = bad

fine-run_presence : (T : Table) (H : ℕ) (k : Kind) → 0 < H → IsValidWord T H (run_presence k) 0
fine-run_presence T H k some Length bad = omega (arith, bad, some)
fine-run_presence T H k some _ bad = bad

absent-link : (T : Table) (H m depth : ℕ) → IsValidWord T H (link m depth false) 0
absent-link T H m depth Address bad = ⊎_elim (λ no. no refl) (λ needed. (let wrong : false ≡ true = needed in cc)) bad.0
absent-link T H m depth Depth bad = bad.0 refl
absent-link T H m depth _ bad = bad

fine-count : (T : Table) (H : ℕ) (k : Kind) (depth : ℕ) → 0 < H → IsValidWord T H (count k depth) 0
fine-count T H k depth some Length bad = omega (arith, bad, some)
fine-count T H k depth some _ bad = bad

fine-entries : (T : Table) (H : ℕ) (key k : Kind) (depth : ℕ) → 0 < H → IsValidWord T H (entry_count key k depth) 0
fine-entries T H key k depth some Length bad = omega (arith, bad, some)
fine-entries T H key k depth some _ bad = bad

no_case : (T : Table) (H : ℕ) (fs : List Field) (oneof depth : ℕ) → IsValidWord T H (case_word fs oneof depth) 0
no_case T H fs oneof depth Case bad = bad.0 refl
no_case T H fs oneof depth _ bad = bad

abbrev NextOfRun : Kind → ℕ → List ℕ → ℕ → Bool → Expected
NextOfRun k left before p b = cond b [] ((run_word k (left - 8) (before ++ word_bytes 0), p + 1) ∷ [])

run-behind : (T : Table) (H : ℕ) (k : Kind) (left : ℕ) (before : List ℕ) (p : ℕ) (b : Bool)
    → Zeroed T H (run_word k (left - 8) (before ++ word_bytes 0)) (p + 1)
    → (content : Placed) × IsPlaced T H (NextOfRun k left before p b) content
run-behind T H k left before p true next = (nothing, tt)
run-behind T H k left before p false next = (first (word (p + 1) 0 next.content) nothing, (refl, pow_pos 64, next.stands, tt))

-- a run with `left` bytes in at most `steps` more words
zero-run : (T : Table) (H : ℕ) (k : Kind) (steps left : ℕ) (before : List ℕ) (p : ℕ) → left ≤ 8 * steps → Zeroed T H (run_word k left before) p
zero-run T H k zero left before p few =
    ⊎_elim
    (λ fine. record {
      content = nothing;
      stands = inl (
        fine,
        (let low : nat_le left 8 ≡ true = grind (arith, nat_tests) in
            subst (λ b. IsPlaced T H (NextOfRun k left before p b) nothing) (sym low) tt),
      );
    })
    (λ faulty. faulty-zero T H (run_word k left before) p faulty)
    (run-zero T H k left before)
zero-run T H k (suc steps) left before p few =
    let next = zero-run T H k steps (left - 8) (before ++ word_bytes 0) (p + 1) (omega (arith, few)) in
    let inner = run-behind T H k left before p (nat_le left 8) next in
    ⊎_elim
    (λ fine. record { content = inner.0; stands = inl (fine, inner.1) })
    (λ faulty. faulty-zero T H (run_word k left before) p faulty)
    (run-zero T H k left before)

zeroed : (T : Table) (H : ℕ) (role : WordRole) (p : ℕ) → 0 < H → Zeroed T H role p
zeroed T H (value k) p some = ⊎_elim (λ fine. fine-alone T H (value k) p refl fine) (λ faulty. faulty-zero T H (value k) p faulty) (number-zero T H k)
zeroed T H (presence k) p some = fine-alone T H (presence k) p refl (fine-presence T H k)
zeroed T H (run_length k) p some = fine-alone T H (run_length k) p refl (fine-length T H k some)
zeroed T H (run_presence k) p some = fine-alone T H (run_presence k) p refl (fine-run_presence T H k some)
zeroed T H (run_address k bytes) p some = faulty-zero T H (run_address k bytes) p (Address, nowhere H ((bytes + 7) / 8))
zeroed T H (run_word k left before) p some = zero-run T H k left left before p (omega arith)
zeroed T H (link m depth false) p some = fine-alone T H (link m depth false) p refl (absent-link T H m depth)
zeroed T H (link m depth true) p some = faulty-zero T H (link m depth true) p (Address, (inr refl, nowhere H (size_words T m)))
zeroed T H (count k depth) p some = fine-alone T H (count k depth) p refl (fine-count T H k depth some)
zeroed T H (elements_address k elements depth) p some = faulty-zero T H (elements_address k elements depth) p (Address, nowhere H (elements * element_words k))
zeroed T H (entry_count key k depth) p some = fine-alone T H (entry_count key k depth) p refl (fine-entries T H key k depth some)
zeroed T H (entries_address key k entries depth) p some = faulty-zero T H (entries_address key k entries depth) p (Address, nowhere H (4 * entries))
zeroed T H (case_word fs oneof depth) p some = fine-alone T H (case_word fs oneof depth) p refl (no_case T H fs oneof depth)

some-placed : (T : Table) (H : ℕ) (es : Expected) → 0 < H → (P : Placed) × IsPlaced T H es P
some-placed T H [] some = (nothing, tt)
some-placed T H (e ∷ es) some =
    let rest = some-placed T H es some in
    let here = zeroed T H e.0 e.1 some in
    (first (word e.1 0 here.content) rest.0, (refl, pow_pos 64, here.stands, rest.1))

-- ---- loads that lead to some words are the first words of a placed tree

record Begun (T : Table) (H : ℕ) (es next : Expected) (xs : List (ℕ × ℕ)) (Q : Placed) : Type 0 where
  placed : Placed
  is_placed : IsPlaced T H es placed
  before : List Loaded
  order : loaded_words T es placed ≡ before ++ loaded_words T next Q
  loads : xs ≡ loads_of_words before
  fine : AreValidWords T H before

begun : (T : Table) (H : ℕ) (es next : Expected) (xs : List (ℕ × ℕ)) (Q : Placed) → AreExpectedAfter T H es xs next → IsPlaced T H next Q → Begun T H es next xs Q
begun T H es next [] Q h q = record {
  placed = Q;
  is_placed = subst (λ z. IsPlaced T H z Q) (sym h) q;
  before = [];
  order = ap (λ z. loaded_words T z Q) h;
  loads = refl;
  fine = All-nil (λ (w : Loaded). IsValidWord T H w.role w.number);
}
begun T H [] next (x ∷ xs) Q h q = absurd h
begun T H (e ∷ es) next (x ∷ xs) Q h q =
    let inside = expected_after T e.0 x.0 x.1 in
    let rest = begun T H (inside ++ es) next xs Q h.3 q in
    let parts = placed-parts T H inside es rest.placed rest.is_placed in
    let w : Loaded = record { role = e.0; place = x.0; number = x.1 } in
    let order : loaded_words T inside parts.front ++ loaded_words T es parts.rest ≡ rest.before ++ loaded_words T next Q =
    sym (loaded_words-join T H inside es parts.front parts.rest parts.front_is) ∙ ap (loaded_words T (inside ++ es)) (sym parts.is) ∙ rest.order in
    record {
      placed = first (word x.0 x.1 parts.front) parts.rest;
      is_placed = (h.0, h.1, inl (h.2, parts.front_is), parts.rest_is);
      before = w ∷ rest.before;
      order = ap (λ ws. w ∷ ws) order;
      loads = ap (λ ys. x ∷ ys) rest.loads;
      fine = All-cons (λ (u : Loaded). IsValidWord T H u.role u.number) w rest.before h.2 rest.fine;
    }

none-behind : (T : Table) (es : Expected) → loaded_words T es nothing ≡ []
none-behind T [] = refl
none-behind T (e ∷ es) = refl

loads-last : (before : List Loaded) (w : Loaded) → loads_of_words (before ++ w ∷ []) ≡ loads_of_words before ++ (w.place, w.number) ∷ []
loads-last before w = map-append (λ (u : Loaded). (u.place, u.number)) before (w ∷ [])

-- the loads lead to an invalid word, and it is loaded
pub ends-at-offence : (T : Table) (H msg address limit : ℕ) (xs : List (ℕ × ℕ)) (e : WordRole × ℕ) (rest : Expected)
    (v : ℕ) (reason : Reason) → IsSpanInHeap H address (size_words T msg)
    → AreExpectedAfter T H (node_words T msg 1 address) xs (e ∷ rest) → length xs < limit → v < 2 ^ 64
    → IsInvalidFirst T H e.0 v reason → IsMalformed T H msg address limit (xs ++ (e.1, v) ∷ []) reason e.1 v
ends-at-offence T H msg address limit xs e rest v reason root leads within small bad =
    let some : 0 < H = let a = root.from_one in let b = root.to_end in omega (arith, a, b) in
    let left = some-placed T H rest some in
    let Q = first (word e.1 v nothing) left.0 in
    let w : Loaded = record { role = e.0; place = e.1; number = v } in
    let stands : IsPlaced T H (e ∷ rest) Q = (refl, small, inr ((reason, bad.offends), refl), left.1) in
    let b = begun T H (node_words T msg 1 address) (e ∷ rest) xs Q leads stands in
    let after = loaded_words T rest left.0 in
    let order : loaded_words T (node_words T msg 1 address) b.placed ≡ (b.before ++ w ∷ []) ++ after =
    b.order ∙ ap (λ ws. b.before ++ (w ∷ ws ++ after)) (none-behind T (expected_after T e.0 e.1 v)) ∙ sym (append_assoc b.before (w ∷ []) after) in
    offends b.before after w
    (record { root = root; placed = b.placed; words = b.is_placed; order = order })
    b.fine bad (let n = length-append xs ((e.1, v) ∷ []) in omega (arith, n, within))
    (ap (λ ys. ys ++ (e.1, v) ∷ []) b.loads ∙ sym (loads-last b.before w)) refl refl

-- the last of some loads, and the last of the loaded words
record EndsWith (before : List Loaded) (xs : List (ℕ × ℕ)) (x : ℕ × ℕ) : Type 0 where
  front : List Loaded
  last : Loaded
  is : before ≡ front ++ last ∷ []
  place : x.0 ≡ last.place
  number : x.1 ≡ last.number

ends-with : (before : List Loaded) (xs : List (ℕ × ℕ)) (x : ℕ × ℕ) → xs ++ x ∷ [] ≡ loads_of_words before → EndsWith before xs x
ends-with [] [] x h = absurd (cc)
ends-with [] (y ∷ xs) x h = absurd (cc)
ends-with (w ∷ []) [] x h =
    let e : x ≡ (w.place, w.number) = cc in
    record { front = []; last = w; is = refl; place = ap (λ z. z.0) e; number = ap (λ z. z.1) e }
ends-with (w ∷ u ∷ ws) [] x h = absurd (cc)
ends-with (w ∷ ws) (y ∷ xs) x h =
    let t : xs ++ x ∷ [] ≡ loads_of_words ws = cc in
    let rest = ends-with ws xs x t in
    record { front = w ∷ rest.front; last = rest.last; is = ap (λ z. w ∷ z) rest.is; place = rest.place; number = rest.number }

-- loads up to the limit lead to a word that is still expected
pub ends-at-limit : (T : Table) (H msg address limit : ℕ) (xs : List (ℕ × ℕ)) (x : ℕ × ℕ) (e : WordRole × ℕ)
    (rest : Expected) → IsSpanInHeap H address (size_words T msg)
    → AreExpectedAfter T H (node_words T msg 1 address) (xs ++ x ∷ []) (e ∷ rest) → length (xs ++ x ∷ []) ≡ limit
    → IsMalformed T H msg address limit (xs ++ x ∷ []) Loads x.0 x.1
ends-at-limit T H msg address limit xs x e rest root leads full =
    let some : 0 < H = let a = root.from_one in let b = root.to_end in omega (arith, a, b) in
    let left = some-placed T H rest some in
    let here = zeroed T H e.0 e.1 some in
    let Q = first (word e.1 0 here.content) left.0 in
    let next : Loaded = record { role = e.0; place = e.1; number = 0 } in
    let stands : IsPlaced T H (e ∷ rest) Q = (refl, pow_pos 64, here.stands, left.1) in
    let b = begun T H (node_words T msg 1 address) (e ∷ rest) (xs ++ x ∷ []) Q leads stands in
    let end = ends-with b.before xs x b.loads in
    let after = loaded_words T (expected_after T e.0 e.1 0) here.content ++ loaded_words T rest left.0 in
    too_many end.front after end.last next
    (record { root = root; placed = b.placed; words = b.is_placed; order = b.order ∙ ap (λ ws. ws ++ next ∷ after) end.is })
    (subst (AreValidWords T H) end.is b.fine) full
    (b.loads ∙ ap loads_of_words end.is) refl end.place end.number
