-- The values of records, rule by rule, and the contents that are read from them.
use Rattle.std.proofs.Common.{◌≡◌, ◌≢◌, ℕ, suc, ◌-◌, ◌+◌, ◌%◌, ◌≤◌, List, [], ◌∷◌, length, take, drop, Some, false}
use Rattle.std.proofs.Common.{true, refl, ap, sym, subst, ◌∙◌, arith, ⊎_elim}
use Rattle.std.specs.Prelude.{if◌then◌else◌, ◌==◌, ◌||◌, Bool, Option}
use Rattle.std.specs.List.{slice_range}
use Rattle.std.proofs.lemmas.Bool.Decides.{eqb_tells}
use Rattle.std.proofs.lemmas.List.{length-take-le, drop-take}
use Rattle.mrpc_table.specs.Node.{Node, no_fields, field, Content, one, many, number, run, node}
use Rattle.mrpc_table.specs.Normal.{fields_of, field_at}
use Rattle.mrpc_table.specs.Words.{is_numeric}
use Rattle.mrpc_table.specs.declared.table.Kind.{Kind}
use Rattle.mrpc_table.specs.declared.table.Kind.TheVariants.{Message as OfMessage}
use Rattle.mrpc_table.specs.declared.table.Label.{Label}
use Rattle.mrpc_table.specs.declared.table.Label.TheVariants.{Plain, Optional, Repeated, Packed, Map, Member}
use Rattle.mrpc_table.specs.declared.table.Field.{Field}
use Rattle.mrpc_table.specs.declared.table.Table.{Table}
use Rattle.wire_base.specs.Records.{IsRecordAt, AreRecordsFrom, IsWithin}
use Rattle.wire_base.specs.declared.records.Record.{Record}
use Rattle.wire_base.specs.declared.records.Payload.{Payload}
use Rattle.wire_base.specs.declared.records.Payload.TheVariants.{Len}
use Rattle.wire_decode.specs.Words.{word_form_of, payload_number, is_list, is_map, may_be_packed, AreElements}
use Rattle.wire_decode.specs.RawMessages.{IsRawMessage, read_end, read_other, read_known, IsContentUnder, holds_number, holds_piece}
use Rattle.wire_decode.specs.RawMessages.{holds_text, holds_octets, holds_message, holds_entry}
use Rattle.wire_decode.specs.Known.{is_message_kind, entry_fields}
use Rattle.wire_decode.specs.RawMessages.{numbers}
use Rattle.wire_decode.specs.Merged.{contents_of, is_overtaken, counted_records}
use Rattle.wire_decode.specs.Oneofs.{are_rivals}
use Rattle.wire_decode.specs.Meaning.{RecordValue, single, packed, delimited, has_rival, counted_values, values_with_number}
use Rattle.wire_decode.specs.Meaning.{values_but, MeansIn, HaveValues, no_more, skipped, known, HasValue, a_number}
use Rattle.wire_decode.specs.Meaning.{a_piece, a_text, some_octets, a_message, an_entry}
use Rattle.wire_decode.proofs.Payloads.{PayloadAt-span}
use Rattle.wire_decode.proofs.Unique.{packed-numeric}
use Rattle.wire_decode.proofs.Merging.{field-here, field-later}
use Rattle.wire_decode.proofs.Shifting.{elements-to, elements-back, reads-to, reads-back}
use Rattle.wire_decode.proofs.Taken.{contents_but, meaning}

-- ---- a value and a content

pub data Alike (T : Table) : ℕ → Label → Kind → RecordValue → Content → Type 0 where
  alike_number : {room : ℕ} {label : Label} {k : Kind} {v : RecordValue} {c : Content} (n : ℕ) → is_map label ≡ false
      → is_message_kind k ≡ false → v ≡ single n → c ≡ one (number n) → Alike T room label k v c
  alike_piece : {room : ℕ} {label : Label} {k : Kind} {v : RecordValue} {c : Content} (ns : List ℕ) → is_list label ≡ true
      → is_message_kind k ≡ false → v ≡ packed ns → c ≡ many (numbers ns) → Alike T room label k v c
  alike_run : {room : ℕ} {label : Label} {k : Kind} {v : RecordValue} {c : Content} (bytes : List ℕ) → is_map label ≡ false
      → is_message_kind k ≡ false → v ≡ delimited bytes → c ≡ one (run bytes) → Alike T room label k v c
  alike_message : {room : ℕ} {label : Label} {k : Kind} {v : RecordValue} {c : Content} (i inside : ℕ) (bytes : List ℕ)
      (t : Node) → is_map label ≡ false → k ≡ OfMessage i → room ≡ suc inside → v ≡ delimited bytes
      → IsRawMessage T inside (fields_of T i) bytes 0 t → c ≡ one (node t) → Alike T room label k v c
  alike_entry : {room : ℕ} {label : Label} {k : Kind} {v : RecordValue} {c : Content} (key : Kind) (bytes : List ℕ)
      (t : Node) → label ≡ Map key → v ≡ delimited bytes → IsRawMessage T room (entry_fields key k) bytes 0 t
      → c ≡ one (node t) → Alike T room label k v c

abbrev pub AllAlike : Table → ℕ → Label → Kind → List RecordValue → List Content → Type 0
AllAlike T room label k [] [] = Unit {0}
AllAlike T room label k [] (c ∷ cs) = ⊥
AllAlike T room label k (v ∷ vs) [] = ⊥
AllAlike T room label k (v ∷ vs) (c ∷ cs) = Alike T room label k v c × AllAlike T room label k vs cs

-- each value corresponds to the content at the same index
abbrev pub Match : Table → ℕ → List Field → List (ℕ × RecordValue) → Node → Type 0
Match T room fs [] no_fields = Unit {0}
Match T room fs [] (field n c t) = ⊥
Match T room fs (w ∷ ws) no_fields = ⊥
Match T room fs (w ∷ ws) (field n c t) = (w.0 ≡ n) × ((f : Field) × (field_at fs n ≡ Some f) × Alike T room f.label f.kind w.1 c) × Match T room fs ws t

some-same : (f g : Field) (o : Option Field) → o ≡ Some f → o ≡ Some g → f ≡ g
some-same f g o a b = (let e : Some f ≡ Some g = sym a ∙ b in cc)

-- whether a value counts
rival-same : (T : Table) (room : ℕ) (fs gs : List Field) (n : ℕ) (vs : List (ℕ × RecordValue)) (t : Node) → Match T room fs vs t → has_rival gs n vs ≡ is_overtaken gs n t
rival-same T room fs gs n [] no_fields h = refl
rival-same T room fs gs n [] (field m c t) h = absurd h
rival-same T room fs gs n (w ∷ ws) no_fields h = absurd h
rival-same T room fs gs n (w ∷ ws) (field m c t) h =
    ap (λ x. are_rivals gs n x || has_rival gs n ws) h.0 ∙ ap (λ b. are_rivals gs n m || b) (rival-same T room fs gs n ws t h.2)

eq-of : (m n : ℕ) → (m == n) ≡ true → m ≡ n
eq-of m n h = ⊎_elim (λ s. s.1) (λ s. absurd (let e : true ≡ false = sym h ∙ s.0 in cc)) (eqb_tells m n)

not-of : (m n : ℕ) → (m == n) ≡ false → m ≢ n
not-of m n h = ⊎_elim (λ s. absurd (let e : true ≡ false = sym s.0 ∙ h in cc)) (λ s. s.1) (eqb_tells m n)

counted-go : (T : Table) (room : ℕ) (fs : List Field) (w : ℕ × RecordValue) (ws : List (ℕ × RecordValue)) (m : ℕ) (c : Content) (t : Node) (a b : Bool) → a ≡ b
    → (w.0 ≡ m) → ((f : Field) × (field_at fs m ≡ Some f) × Alike T room f.label f.kind w.1 c) → Match T room fs ws t
    → Match T room fs (if a then ws else w ∷ ws) (if b then t else field m c t)
counted-go T room fs w ws m c t true true e n h more = more
counted-go T room fs w ws m c t true false e n h more = absurd (cc)
counted-go T room fs w ws m c t false true e n h more = absurd (cc)
counted-go T room fs w ws m c t false false e n h more = (n, h, more)

pub match-counted : (T : Table) (room : ℕ) (fs gs : List Field) (vs : List (ℕ × RecordValue)) (t : Node) → Match T room fs vs t → Match T room fs (counted_values gs vs) (counted_records gs t)
match-counted T room fs gs [] no_fields h = tt
match-counted T room fs gs [] (field m c t) h = absurd h
match-counted T room fs gs (w ∷ ws) no_fields h = absurd h
match-counted T room fs gs (w ∷ ws) (field m c t) h =
    counted-go T room fs w (counted_values gs ws) m c (counted_records gs t) (has_rival gs w.0 ws) (is_overtaken gs m t)
    (ap (λ x. has_rival gs x ws) h.0 ∙ rival-same T room fs gs m ws t h.2) h.0 h.1 (match-counted T room fs gs ws t h.2)

field-go : (T : Table) (room : ℕ) (label : Label) (k : Kind) (v : RecordValue) (vs : List RecordValue) (c : Content) (cs : List Content) (a b : Bool) → a ≡ b
    → (b ≡ true → Alike T room label k v c) → AllAlike T room label k vs cs → AllAlike T room label k (if a then v ∷ vs else vs) (if b then c ∷ cs else cs)
field-go T room label k v vs c cs true true e h more = (h refl, more)
field-go T room label k v vs c cs true false e h more = absurd (cc)
field-go T room label k v vs c cs false true e h more = absurd (cc)
field-go T room label k v vs c cs false false e h more = more

-- the values of one field
pub match-field : (T : Table) (room : ℕ) (fs : List Field) (n : ℕ) (f : Field) (vs : List (ℕ × RecordValue)) (t : Node)
    → field_at fs n ≡ Some f → Match T room fs vs t
    → AllAlike T room f.label f.kind (values_with_number n vs) (contents_of n t)
match-field T room fs n f [] no_fields at h = tt
match-field T room fs n f [] (field m c t) at h = absurd h
match-field T room fs n f (w ∷ ws) no_fields at h = absurd h
match-field T room fs n f (w ∷ ws) (field m c t) at h =
    let here : (m == n) ≡ true → Alike T room f.label f.kind w.1 c = λ test.
    let g = h.1 in
    let same : g.0 ≡ f = some-same g.0 f (field_at fs n) (subst (λ (x : ℕ). field_at fs x ≡ Some g.0) (eq-of m n test) g.1) at in
    subst (λ (x : Field). Alike T room x.label x.kind w.1 c) same g.2
    in
    field-go T room f.label f.kind w.1 (values_with_number n ws) c (contents_of n t) (w.0 == n) (m == n) (ap (λ x. x == n) h.0) here (match-field T room fs n f ws t at h.2)

but-go : (T : Table) (room : ℕ) (fs : List Field) (w : ℕ × RecordValue) (ws : List (ℕ × RecordValue)) (m : ℕ) (c : Content) (t : Node) (a b : Bool) → a ≡ b
    → (w.0 ≡ m) → (b ≡ false → (f : Field) × (field_at fs m ≡ Some f) × Alike T room f.label f.kind w.1 c) → Match T room fs ws t
    → Match T room fs (if a then ws else w ∷ ws) (if b then t else field m c t)
but-go T room fs w ws m c t true true e n h more = more
but-go T room fs w ws m c t true false e n h more = absurd (cc)
but-go T room fs w ws m c t false true e n h more = absurd (cc)
but-go T room fs w ws m c t false false e n h more = (n, h refl, more)

-- the values of the other fields
pub match-but : (T : Table) (room : ℕ) (f : Field) (fs : List Field) (vs : List (ℕ × RecordValue)) (t : Node)
    → Match T room (f ∷ fs) vs t → Match T room fs (values_but f.number vs) (contents_but f.number t)
match-but T room f fs [] no_fields h = tt
match-but T room f fs [] (field m c t) h = absurd h
match-but T room f fs (w ∷ ws) no_fields h = absurd h
match-but T room f fs (w ∷ ws) (field m c t) h =
    let found : (m == f.number) ≡ false → (g : Field) × (field_at fs m ≡ Some g) × Alike T room g.label g.kind w.1 c = λ test.
    let g = h.1 in
    (g.0, sym (field-later f fs m (λ e. not-of m f.number test (sym e))) ∙ g.1, g.2)
    in
    but-go T room fs w (values_but f.number ws) m c (contents_but f.number t) (w.0 == f.number) (m == f.number) (ap (λ x. x == f.number) h.0) h.0 found (match-but T room f fs ws t h.2)

-- ---- the relation between meaning and merging

pub record Agree (T : Table) (room : ℕ) (fs : List Field) : Type 0 where
  pub to : (bytes : List ℕ) (raw : Node) → IsRawMessage T room fs bytes 0 raw → MeansIn T room fs bytes (meaning T room fs raw)
  pub back : (bytes : List ℕ) (t : Node) → MeansIn T room fs bytes t → (raw : Node) × IsRawMessage T room fs bytes 0 raw × (t ≡ meaning T room fs raw)

-- nested messages, and entries
abbrev pub Inner : Table → ℕ → Type 0
Inner T room = (inside i : ℕ) → room ≡ suc inside → Agree T inside (fields_of T i)

abbrev pub Entries : Table → ℕ → Label → Kind → Type 0
Entries T room label k = (key : Kind) → label ≡ Map key → Agree T room (entry_fields key k)

abbrev pub AllEntries : Table → ℕ → List Field → Type 0
AllEntries T room [] = Unit {0}
AllEntries T room (f ∷ fs) = Entries T room f.label f.kind × AllEntries T room fs

entries-at : (T : Table) (room : ℕ) (fs : List Field) (n : ℕ) (f : Field) → AllEntries T room fs → field_at fs n ≡ Some f → Entries T room f.label f.kind
entries-at T room [] n f h at = absurd (cc)
entries-at T room (g ∷ gs) n f h at =
    ⊎_elim
    (λ s. let same : g ≡ f = some-same g f (field_at (g ∷ gs) n) (field-here g gs n s.1) at in subst (λ (x : Field). Entries T room x.label x.kind) same h.0)
    (λ s. entries-at T room gs n f h.1 (sym (field-later g gs n s.1) ∙ at))
    (eqb_tells g.number n)

-- ---- payloads

numeric-plain : (k : Kind) → is_numeric k ≡ true → is_message_kind k ≡ false
numeric-plain (OfMessage i) h = absurd (cc)
numeric-plain _ h = refl

packed-list : (label : Label) (k : Kind) → may_be_packed label k ≡ true → is_list label ≡ true
packed-list Repeated k h = refl
packed-list Packed k h = refl
packed-list Plain k h = absurd (cc)
packed-list Optional k h = absurd (cc)
packed-list (Map key) k h = absurd (cc)
packed-list (Member o) k h = absurd (cc)

cut-slice : (bytes : List ℕ) (s e : ℕ) → s ≤ e → drop s (take e bytes) ≡ slice_range bytes s e
cut-slice bytes s e h = ap (λ n. drop s (take n bytes)) (let x : e ≡ s + (e - s) = omega (arith, h) in x) ∙ drop-take s (e - s) bytes

cut-long : (bytes : List ℕ) (s e : ℕ) → IsWithin (length bytes) (Len s e) → s ≤ length (take e bytes)
cut-long bytes s e w = omega (arith, w.0, length-take-le e bytes w.1)

pub slice-elements : (k : Kind) (bytes : List ℕ) (s e : ℕ) (ns : List ℕ) → IsWithin (length bytes) (Len s e)
    → AreElements k (take e bytes) s ns → AreElements k (slice_range bytes s e) 0 ns
slice-elements k bytes s e ns w h =
    subst (λ (xs : List ℕ). AreElements k xs 0 ns) (cut-slice bytes s e w.0)
    (elements-back s (take e bytes) (cut-long bytes s e w) k 0 ns (subst (λ (x : ℕ). AreElements k (take e bytes) x ns) (let x : s ≡ s + 0 = omega arith in x) h))

pub whole-elements : (k : Kind) (bytes : List ℕ) (s e : ℕ) (ns : List ℕ) → IsWithin (length bytes) (Len s e)
    → AreElements k (slice_range bytes s e) 0 ns → AreElements k (take e bytes) s ns
whole-elements k bytes s e ns w h =
    subst (λ (x : ℕ). AreElements k (take e bytes) x ns) (let x : s + 0 ≡ s = omega arith in x)
    (elements-to s (take e bytes) (cut-long bytes s e w) k 0 ns (subst (λ (xs : List ℕ). AreElements k xs 0 ns) (sym (cut-slice bytes s e w.0)) h))

pub slice-reads : (T : Table) (room : ℕ) (fs : List Field) (bytes : List ℕ) (s e : ℕ) (t : Node)
    → IsWithin (length bytes) (Len s e) → IsRawMessage T room fs (take e bytes) s t
    → IsRawMessage T room fs (slice_range bytes s e) 0 t
slice-reads T room fs bytes s e t w h =
    subst (λ (xs : List ℕ). IsRawMessage T room fs xs 0 t) (cut-slice bytes s e w.0) (reads-back s (take e bytes) (cut-long bytes s e w) 0 (let x : s ≡ s + 0 = omega arith in x) h)

pub whole-reads : (T : Table) (room : ℕ) (fs : List Field) (bytes : List ℕ) (s e : ℕ) (t : Node)
    → IsWithin (length bytes) (Len s e) → IsRawMessage T room fs (slice_range bytes s e) 0 t
    → IsRawMessage T room fs (take e bytes) s t
whole-reads T room fs bytes s e t w h =
    subst (λ (x : ℕ). IsRawMessage T room fs (take e bytes) x t) (let x : s + 0 ≡ s = omega arith in x)
    (reads-to s (take e bytes) (slice_range bytes s e) (cut-long bytes s e w) (sym (cut-slice bytes s e w.0)) h)

pub value-of : (T : Table) (room : ℕ) (label : Label) (k : Kind) (bytes : List ℕ) (p : Payload) (c : Content) → Inner T room → Entries T room label k → IsWithin (length bytes) p
    → IsContentUnder T room label k bytes p c → (v : RecordValue) × HasValue T room label k bytes p v × Alike T room label k v c
value-of T room label k bytes p c inner entries w (holds_number no_map numeric typed is) =
    let n = word_form_of k (payload_number p) in
    (single n, a_number no_map numeric typed refl, alike_number n no_map (numeric-plain k numeric) refl is)
value-of T room label k bytes p c inner entries w (holds_piece s e ns packable at whole is) =
    let v = subst (IsWithin (length bytes)) at w in (
      packed ns,
      a_piece s e ns packable at (slice-elements k bytes s e ns v whole) refl,
      alike_piece ns (packed-list label k packable) (numeric-plain k (packed-numeric label k packable)) refl is,
    )
value-of T room label k bytes p c inner entries w (holds_text s e no_map kind at utf8 is) =
    let piece = slice_range bytes s e in
    (delimited piece, a_text s e no_map kind at utf8 refl, alike_run piece no_map (ap is_message_kind kind) refl is)
value-of T room label k bytes p c inner entries w (holds_octets s e no_map kind at is) =
    let piece = slice_range bytes s e in
    (delimited piece, some_octets s e no_map kind at refl, alike_run piece no_map (ap is_message_kind kind) refl is)
value-of T room label k bytes p c inner entries w (holds_message inside i s e t no_map kind at room_is reads is) =
    let piece = slice_range bytes s e in
    let r = slice-reads T inside (fields_of T i) bytes s e t (subst (IsWithin (length bytes)) at w) reads in (
      delimited piece,
      a_message i inside s e (meaning T inside (fields_of T i) t) no_map kind room_is at ((inner inside i room_is).to piece t r) refl,
      alike_message i inside piece t no_map kind room_is refl r is,
    )
value-of T room label k bytes p c inner entries w (holds_entry key s e t map at reads room_is is) =
    let piece = slice_range bytes s e in
    let r = slice-reads T room (entry_fields key k) bytes s e t (subst (IsWithin (length bytes)) at w) reads in (
      delimited piece,
      an_entry key s e (meaning T room (entry_fields key k) t) map at ((entries key map).to piece t r) room_is refl,
      alike_entry key piece t map refl r is,
    )

pub content-of : (T : Table) (room : ℕ) (label : Label) (k : Kind) (bytes : List ℕ) (p : Payload) (v : RecordValue) → Inner T room → Entries T room label k → IsWithin (length bytes) p
    → HasValue T room label k bytes p v → (c : Content) × IsContentUnder T room label k bytes p c × Alike T room label k v c
content-of T room label k bytes p v inner entries w (a_number no_map numeric typed is) =
    let n = word_form_of k (payload_number p) in
    (one (number n), holds_number no_map numeric typed refl, alike_number n no_map (numeric-plain k numeric) is refl)
content-of T room label k bytes p v inner entries w (a_piece s e ns packable at whole is) =
    let u = subst (IsWithin (length bytes)) at w in (
      many (numbers ns),
      holds_piece s e ns packable at (whole-elements k bytes s e ns u whole) refl,
      alike_piece ns (packed-list label k packable) (numeric-plain k (packed-numeric label k packable)) is refl,
    )
content-of T room label k bytes p v inner entries w (a_text s e no_map kind at utf8 is) =
    let piece = slice_range bytes s e in
    (one (run piece), holds_text s e no_map kind at utf8 refl, alike_run piece no_map (ap is_message_kind kind) is refl)
content-of T room label k bytes p v inner entries w (some_octets s e no_map kind at is) =
    let piece = slice_range bytes s e in
    (one (run piece), holds_octets s e no_map kind at refl, alike_run piece no_map (ap is_message_kind kind) is refl)
content-of T room label k bytes p v inner entries w (a_message i inside s e t no_map kind room_is at m is) =
    let piece = slice_range bytes s e in
    let b = (inner inside i room_is).back piece t m in
    let r = whole-reads T inside (fields_of T i) bytes s e b.0 (subst (IsWithin (length bytes)) at w) b.1 in
    (one (node b.0), holds_message inside i s e b.0 no_map kind at room_is r refl, alike_message i inside piece b.0 no_map kind room_is is b.1 refl)
content-of T room label k bytes p v inner entries w (an_entry key s e t map at m room_is is) =
    let piece = slice_range bytes s e in
    let b = (entries key map).back piece t m in
    let r = whole-reads T room (entry_fields key k) bytes s e b.0 (subst (IsWithin (length bytes)) at w) b.1 in
    (one (node b.0), holds_entry key s e b.0 map at r room_is refl, alike_entry key piece b.0 map is b.1 refl)

-- ---- records

pub values-of : (T : Table) (room : ℕ) (fs : List Field) → Inner T room → AllEntries T room fs → (bytes : List ℕ) (at : ℕ) (raw : Node) → IsRawMessage T room fs bytes at raw
    → (rs : List Record) × (vs : List (ℕ × RecordValue)) × AreRecordsFrom bytes at rs × HaveValues T room fs bytes rs vs × Match T room fs vs raw
values-of T room fs inner entries bytes at raw (read_end a is) = ([], [], a, no_more refl refl, subst (λ (x : Node). Match T room fs [] x) (sym is) tt)
values-of T room fs inner entries bytes at raw (read_other r here other g) =
    let h = values-of T room fs inner entries bytes r.next raw g in
    (r ∷ h.0, h.1, (here, h.2), skipped r h.0 refl other h.3, h.4)
values-of T room fs inner entries bytes at raw (read_known r f c rest here at_f holds is g) =
    let h = values-of T room fs inner entries bytes r.next rest g in
    let v = value-of T room f.label f.kind bytes r.payload c inner (entries-at T room fs r.number f entries at_f)
    (PayloadAt-span bytes here.start (here.tag % 8) r.payload r.next here.payload) holds in (
      r ∷ h.0,
      (r.number, v.0) ∷ h.1,
      (here, h.2),
      known r h.0 f v.0 h.1 refl at_f v.1 h.3 refl,
      subst (λ (x : Node). Match T room fs ((r.number, v.0) ∷ h.1) x) (sym is) (refl, (f, at_f, v.2), h.4),
    )

pub contents-of : (T : Table) (room : ℕ) (fs : List Field) → Inner T room → AllEntries T room fs
    → (bytes : List ℕ) (rs : List Record) (vs : List (ℕ × RecordValue)) → HaveValues T room fs bytes rs vs
    → (at : ℕ) → AreRecordsFrom bytes at rs → (raw : Node) × IsRawMessage T room fs bytes at raw × Match T room fs vs raw
contents-of T room fs inner entries bytes rs vs (no_more e is) at h =
    let ends : at ≡ length bytes = subst (λ (xs : List Record). AreRecordsFrom bytes at xs) e h in
    (no_fields, read_end ends refl, subst (λ (xs : List (ℕ × RecordValue)). Match T room fs xs no_fields) (sym is) tt)
contents-of T room fs inner entries bytes rs vs (skipped r rest e other g) at h =
    let k : IsRecordAt bytes at r × AreRecordsFrom bytes r.next rest = subst (λ (xs : List Record). AreRecordsFrom bytes at xs) e h in
    let m = contents-of T room fs inner entries bytes rest vs g r.next k.1 in
    (m.0, read_other r k.0 other m.1, m.2)
contents-of T room fs inner entries bytes rs vs (known r rest f v others e at_f has g is) at h =
    let k : IsRecordAt bytes at r × AreRecordsFrom bytes r.next rest = subst (λ (xs : List Record). AreRecordsFrom bytes at xs) e h in
    let here = k.0 in
    let c = content-of T room f.label f.kind bytes r.payload v inner (entries-at T room fs r.number f entries at_f)
    (PayloadAt-span bytes here.start (here.tag % 8) r.payload r.next here.payload) has in
    let m = contents-of T room fs inner entries bytes rest others g r.next k.1 in (
      field r.number c.0 m.0,
      read_known r f c.0 m.0 here at_f c.1 refl m.1,
      subst (λ (xs : List (ℕ × RecordValue)). Match T room fs xs (field r.number c.0 m.0)) (sym is) (refl, (f, at_f, c.2), m.2),
    )
