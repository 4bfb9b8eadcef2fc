-- Records in the order of the fields: what the records of a field add to the message of those before them.
use Rattle.std.proofs.Common.{◌≡◌, ◌≢◌, ℕ, ◌/◌, ◌<◌, ◌≤◌, ◌||◌, Bool, true, false, List, [], ◌∷◌, ◌++◌, length}
use Rattle.std.proofs.Common.{Option, Some, None, refl, ap, sym, subst, ◌∙◌, arith, append-nil, cond, ⊎_elim}
use Rattle.std.proofs.lemmas.Bool.Decides.{nat_tests, eqb_tells}
use Rattle.mrpc_table.specs.Node.{Node, no_fields, field, Content, push_field}
use Rattle.mrpc_table.specs.Normal.{field_at}
use Rattle.mrpc_table.specs.declared.table.Label.{Label}
use Rattle.mrpc_table.specs.declared.table.Label.TheVariants.{Member}
use Rattle.mrpc_table.specs.declared.table.Field.{Field}
use Rattle.mrpc_table.specs.declared.table.Table.{Table}
use Rattle.wire_base.specs.Records.{IsRecordAt, IsTagAt}
use Rattle.wire_base.specs.declared.records.Record.{Record}
use Rattle.mrpc_table.specs.Ascending.{AreFieldsAscending}
use Rattle.wire_decode.specs.NumberOrder.{AreNumbersAtMost}
use Rattle.wire_decode.specs.Merged.{contents_of, join_fields, field_content, with_fields, counted_records, merged, is_overtaken}
use Rattle.wire_decode.specs.Contents.{with_content}
use Rattle.wire_decode.specs.Oneofs.{oneof_of, oneof_at, are_rivals}
use Rattle.wire_decode.specs.Ordered.{AreRun, none_yet, one_more, HasEachField, IsFieldRead, may_follow, oneofs_with}
use Rattle.wire_decode.proofs.Adding.{contents-other, contents-pushed, contents-pushed_other, most-pushed}
use Rattle.wire_decode.proofs.Merging.{content-none, field-here, field-later}
use Rattle.wire_decode.proofs.Reading.{Read, read-start, read-more_known, read-done}

-- ---- contents of one number after others

abbrev pub push_all : Node → ℕ → List Content → Node
push_all t n [] = t
push_all t n (c ∷ cs) = push_all (push_field t n c) n cs

pub all-last : (t : Node) (n : ℕ) (cs : List Content) (c : Content) → push_all t n (cs ++ c ∷ []) ≡ push_field (push_all t n cs) n c
all-last t n [] c = refl
all-last t n (d ∷ ds) c = all-last (push_field t n d) n ds c

same-more : (xs : List Content) (c : Content) (cs : List Content) → (xs ++ c ∷ []) ++ cs ≡ xs ++ c ∷ cs
same-more [] c cs = refl
same-more (x ∷ xs) c cs = ap (λ ys. x ∷ ys) (same-more xs c cs)

all-here : (t : Node) (n : ℕ) (cs : List Content) → contents_of n (push_all t n cs) ≡ contents_of n t ++ cs
all-here t n [] = sym (append-nil (contents_of n t))
all-here t n (c ∷ cs) = all-here (push_field t n c) n cs ∙ ap (λ x. x ++ cs) (contents-pushed n c t) ∙ same-more (contents_of n t) c cs

all-other : (t : Node) (m n : ℕ) (cs : List Content) → m ≢ n → contents_of m (push_all t n cs) ≡ contents_of m t
all-other t m n [] h = refl
all-other t m n (c ∷ cs) h = all-other (push_field t n c) m n cs h ∙ contents-pushed_other m n c t h

pub all-most : (t : Node) (m n : ℕ) (cs : List Content) → n ≤ m → AreNumbersAtMost m t → AreNumbersAtMost m (push_all t n cs)
all-most t m n [] le h = h
all-most t m n (c ∷ cs) le h = all-most (push_field t n c) m n cs le (most-pushed m n c t le h)

-- ---- the fields of a message

most-none : (m n : ℕ) (t : Node) → n < m → AreNumbersAtMost n t → contents_of m t ≡ []
most-none m n no_fields less h = refl
most-none m n (field k c t) less h = contents-other m k c t (let a = h.0 in omega (arith, a, less)) ∙ most-none m n t less h.1

pub most-higher : (m n : ℕ) (t : Node) → n ≤ m → AreNumbersAtMost n t → AreNumbersAtMost m t
most-higher m n no_fields le h = tt
most-higher m n (field k c t) le h = (let a = h.0 in omega (arith, a, le), most-higher m n t le h.1)

abbrev AreAbove : ℕ → List Field → Type 0
AreAbove n [] = Unit {0}
AreAbove n (f ∷ fs) = (n < f.number) × AreAbove n fs

above-lower : (m n : ℕ) (fs : List Field) → m ≤ n → AreAbove n fs → AreAbove m fs
above-lower m n [] le h = tt
above-lower m n (f ∷ fs) le h = (let a = h.0 in omega (arith, a, le), above-lower m n fs le h.1)

first-above : (x : Field) (xs : List Field) → AreFieldsAscending (x ∷ xs) → AreAbove x.number xs
first-above x [] h = tt
first-above x (y ∷ ys) h = (h.0, above-lower x.number y.number ys (let a = h.0 in omega (arith, a)) (first-above y ys h.1))

tail-ascends : (x : Field) (xs : List Field) → AreFieldsAscending (x ∷ xs) → AreFieldsAscending xs
tail-ascends x [] h = tt
tail-ascends x (y ∷ ys) h = h.1

-- fields above all numbers have no content
fields-none : (inner : ℕ → Node → Node) (n : ℕ) (t : Node) (fs : List Field) → AreNumbersAtMost n t → AreAbove n fs → with_fields inner t fs ≡ no_fields
fields-none inner n t [] most h = refl
fields-none inner n t (f ∷ fs) most h =
    ap (λ cs. with_content f.number (field_content inner f.label f.kind cs) (with_fields inner t fs)) (most-none f.number n t h.0 most)
    ∙ ap (λ o. with_content f.number o (with_fields inner t fs)) (content-none inner f.label f.kind)
    ∙ fields-none inner n t fs most h.1

with-join : (m : ℕ) (o : Option Content) (t u : Node) → with_content m o (join_fields t u) ≡ join_fields (with_content m o t) u
with-join m None t u = refl
with-join m (Some c) t u = refl

some-same : (f g : Field) → Some f ≡ Some g → f ≡ g
some-same f g e = ap (λ o. elim o [ Some x ↦ x | None ↦ f ]) e

fields-here : (inner : ℕ → Node → Node) (g : Field) (gs : List Field) (t : Node) (last n : ℕ) (cs : List Content)
    (f : Field) → AreFieldsAscending (g ∷ gs) → field_at (g ∷ gs) n ≡ Some f → AreNumbersAtMost last t → last < n → g.number ≡ n
    → with_fields inner (push_all t n cs) (g ∷ gs) ≡ join_fields (with_fields inner t (g ∷ gs))
    (with_content n (field_content inner f.label f.kind cs) no_fields)
fields-here inner g gs t last n cs f a at most less e =
    let now = push_all t n cs in
    let above : AreAbove n gs = subst (λ k. AreAbove k gs) e (first-above g gs a) in
    let none : contents_of n t ≡ [] = most-none n last t less most in
    let all : AreNumbersAtMost n now = all-most t n n cs (omega arith) (most-higher n last t (omega (arith, less)) most) in
    let own : contents_of g.number now ≡ cs = ap (λ k. contents_of k now) e ∙ all-here t n cs ∙ ap (λ x. x ++ cs) none in
    let same : g ≡ f = some-same g f (sym (field-here g gs n e) ∙ at) in
    let before : with_fields inner t (g ∷ gs) ≡ no_fields = fields-none inner last t (g ∷ gs) most (omega (arith, e, less), above-lower last n gs (omega (arith, less)) above) in
    ap (λ x. with_content g.number (field_content inner g.label g.kind x) (with_fields inner now gs)) own
    ∙ ap (with_content g.number (field_content inner g.label g.kind cs)) (fields-none inner n now gs all above)
    ∙ ap (λ k. with_content k (field_content inner g.label g.kind cs) no_fields) e
    ∙ ap (λ (x : Field). with_content n (field_content inner x.label x.kind cs) no_fields) same
    ∙ sym (ap (λ u. join_fields u (with_content n (field_content inner f.label f.kind cs) no_fields)) before)

-- records of a field above all that were read add its content
pub fields-more : (inner : ℕ → Node → Node) (fs : List Field) (t : Node) (last n : ℕ) (cs : List Content) (f : Field)
    → AreFieldsAscending fs → field_at fs n ≡ Some f → AreNumbersAtMost last t → last < n
    → with_fields inner (push_all t n cs) fs ≡ join_fields (with_fields inner t fs)
    (with_content n (field_content inner f.label f.kind cs) no_fields)
fields-more inner [] t last n cs f a at most less = absurd (let bad : None ≡ Some f = at in cc)
fields-more inner (g ∷ gs) t last n cs f a at most less =
    ⊎_elim
    (λ s. fields-here inner g gs t last n cs f a at most less s.1)
    (λ s.
    let own = contents_of g.number t in
    let rest = fields-more inner gs t last n cs f (tail-ascends g gs a) (sym (field-later g gs n s.1) ∙ at) most less in
    ap (λ x. with_content g.number (field_content inner g.label g.kind x) (with_fields inner (push_all t n cs) gs)) (all-other t g.number n cs s.1)
    ∙ ap (with_content g.number (field_content inner g.label g.kind own)) rest
    ∙ with-join g.number (field_content inner g.label g.kind own) (with_fields inner t gs) (with_content n (field_content inner f.label f.kind cs) no_fields))
    (eqb_tells g.number n)

pub fields-start : (inner : ℕ → Node → Node) (fs : List Field) → with_fields inner no_fields fs ≡ no_fields
fields-start inner [] = refl
fields-start inner (f ∷ fs) = ap (λ o. with_content f.number o (with_fields inner no_fields fs)) (content-none inner f.label f.kind) ∙ fields-start inner fs

-- ---- oneofs: all records count if no rival follows one

abbrev Clear : List Field → Node → Type 0
Clear fs no_fields = Unit {0}
Clear fs (field n c t) = (is_overtaken fs n t ≡ false) × Clear fs t

clear-counts : (fs : List Field) (t : Node) → Clear fs t → counted_records fs t ≡ t
clear-counts fs no_fields h = refl
clear-counts fs (field n c t) h =
    ap (λ b. cond b (counted_records fs t) (field n c (counted_records fs t))) h.0 ∙ ap (field n c) (clear-counts fs t h.1)

-- no earlier number is a rival of n
abbrev NoRivals : List Field → ℕ → Node → Type 0
NoRivals fs n no_fields = Unit {0}
NoRivals fs n (field m c t) = (are_rivals fs m n ≡ false) × NoRivals fs n t

either-not : (a b : Bool) → a ≡ false → b ≡ false → (a || b) ≡ false
either-not true b e f = e
either-not false b e f = f

left-not : (a b : Bool) → (a || b) ≡ false → a ≡ false
left-not true b e = e
left-not false b e = refl

overtaken-pushed : (fs : List Field) (m n : ℕ) (c : Content) (t : Node) → is_overtaken fs m t ≡ false → are_rivals fs m n ≡ false → is_overtaken fs m (push_field t n c) ≡ false
overtaken-pushed fs m n c no_fields h r = either-not (are_rivals fs m n) false r refl
overtaken-pushed fs m n c (field k d t) h r =
    either-not (are_rivals fs m k) (is_overtaken fs m (push_field t n c)) (left-not (are_rivals fs m k) (is_overtaken fs m t) h)
    (overtaken-pushed fs m n c t (right-not (are_rivals fs m k) (is_overtaken fs m t) h) r)
  where
    right-not : (a b : Bool) → (a || b) ≡ false → b ≡ false
    right-not true b e = absurd (cc)
    right-not false b e = e

clear-pushed : (fs : List Field) (n : ℕ) (c : Content) (t : Node) → Clear fs t → NoRivals fs n t → Clear fs (push_field t n c)
clear-pushed fs n c no_fields h r = (refl, tt)
clear-pushed fs n c (field m d t) h r = (overtaken-pushed fs m n c t h.0 r.0, clear-pushed fs n c t h.1 r.1)

itself-not : (fs : List Field) (n : ℕ) → are_rivals fs n n ≡ false
itself-not fs n = grind (arith, nat_tests)

rivals-pushed : (fs : List Field) (n : ℕ) (c : Content) (t : Node) → NoRivals fs n t → NoRivals fs n (push_field t n c)
rivals-pushed fs n c no_fields r = (itself-not fs n, tt)
rivals-pushed fs n c (field m d t) r = (r.0, rivals-pushed fs n c t r.1)

clear-all : (fs : List Field) (n : ℕ) (cs : List Content) (t : Node) → Clear fs t → NoRivals fs n t → Clear fs (push_all t n cs)
clear-all fs n [] t h r = h
clear-all fs n (c ∷ cs) t h r = clear-all fs n cs (push_field t n c) (clear-pushed fs n c t h r) (rivals-pushed fs n c t r)

-- the oneofs with a member so far have indices below a number
abbrev OneofsBelow : List Field → ℕ → Node → Type 0
OneofsBelow fs k no_fields = Unit {0}
OneofsBelow fs k (field n c t) = ((o : ℕ) → oneof_at fs n ≡ Some o → o < k) × OneofsBelow fs k t

oneofs-higher : (fs : List Field) (j k : ℕ) (t : Node) → j ≤ k → OneofsBelow fs j t → OneofsBelow fs k t
oneofs-higher fs j k no_fields le h = tt
oneofs-higher fs j k (field n c t) le h = (λ o e. (let a = h.0 o e in omega (arith, a, le)), oneofs-higher fs j k t le h.1)

oneofs-pushed : (fs : List Field) (k n : ℕ) (c : Content) (t : Node) → ((o : ℕ) → oneof_at fs n ≡ Some o → o < k) → OneofsBelow fs k t → OneofsBelow fs k (push_field t n c)
oneofs-pushed fs k n c no_fields own h = (own, tt)
oneofs-pushed fs k n c (field m d t) own h = (h.0, oneofs-pushed fs k n c t own h.1)

oneofs-all : (fs : List Field) (k n : ℕ) (cs : List Content) (t : Node) → ((o : ℕ) → oneof_at fs n ≡ Some o → o < k) → OneofsBelow fs k t → OneofsBelow fs k (push_all t n cs)
oneofs-all fs k n [] t own h = h
oneofs-all fs k n (c ∷ cs) t own h = oneofs-all fs k n cs (push_field t n c) own (oneofs-pushed fs k n c t own h)

-- ---- the invariant of the reader

pub record SoFar (T : Table) (room : ℕ) (fs : List Field) (bytes : List ℕ) (start at last oneofs : ℕ) (t : Node) : Type 0 where
  pub raw : Node
  pub read : Read T room fs bytes start at raw
  pub most : AreNumbersAtMost last raw
  pub clear : Clear fs raw
  pub below : OneofsBelow fs oneofs raw
  pub same : t ≡ with_fields (merged T room) raw fs

pub sofar-first : (T : Table) (room : ℕ) (fs : List Field) (bytes : List ℕ) (start : ℕ) → SoFar T room fs bytes start start 0 0 no_fields
sofar-first T room fs bytes start = record {
  raw = no_fields;
  read = read-start T room fs bytes start;
  most = tt;
  clear = tt;
  below = tt;
  same = sym (fields-start (merged T room) fs);
}

pub sofar-last : (T : Table) (room : ℕ) (fs : List Field) (bytes : List ℕ) (start at last oneofs : ℕ) (t : Node)
    → at ≡ length bytes → SoFar T room fs bytes start at last oneofs t → HasEachField T room fs bytes start t
sofar-last T room fs bytes start at last oneofs t ends h = record {
  raw = h.raw;
  reads = read-done T room fs bytes start at h.raw ends h.read;
  same = h.same ∙ sym (ap (λ u. with_fields (merged T room) u fs) (clear-counts fs h.raw h.clear));
}

-- the records of a run are read, one by one
read-run : (T : Table) (room : ℕ) (fs : List Field) (bytes : List ℕ) (start from tag : ℕ) (t : Node) (f : Field)
    (cs : List Content) (at : ℕ) → field_at fs (tag / 8) ≡ Some f → Read T room fs bytes start from t
    → AreRun T room f.label f.kind bytes tag from cs at → Read T room fs bytes start at (push_all t (tag / 8) cs)
read-run T room fs bytes start from tag t f cs at known h (none_yet e w) =
    let P : List Content → Type 0 = λ x. Read T room fs bytes start at (push_all t (tag / 8) x) in
    subst P (sym e) (subst (λ x. Read T room fs bytes start x t) (sym w) h)
read-run T room fs bytes start from tag t f cs at known h (one_more before c p middle first run tagged stands holds e) =
    let r : Record = record { number = tag / 8; payload = p; next = at } in
    let here : IsRecordAt bytes middle r = record { tag = tag; start = first; tagged = tagged; number = refl; payload = stands } in
    let more = read-more_known T room fs bytes start middle (push_all t (tag / 8) before) r f c here known holds (read-run T room fs bytes start from tag t f before middle known h run) in
    let P : Node → Type 0 = λ u. Read T room fs bytes start at u in
    let Q : List Content → Type 0 = λ x. P (push_all t (tag / 8) x) in
    subst Q (sym e) (subst P (sym (all-last t (tag / 8) before c)) more)

oneof-found : (fs : List Field) (n : ℕ) (f : Field) → field_at fs n ≡ Some f → oneof_at fs n ≡ oneof_of f.label
oneof-found fs n f e = ap (λ x. elim x [ None ↦ None | Some y ↦ oneof_of y.label ]) e

not-rival : (fs : List Field) (m n : ℕ) (a : Option ℕ) (b : Option ℕ) → oneof_at fs m ≡ a → oneof_at fs n ≡ b
    → ((o p : ℕ) → a ≡ Some o → b ≡ Some p → o ≢ p) → are_rivals fs m n ≡ false
not-rival fs m n a b ea eb h = grind (arith, nat_tests)

may-above : (label : Label) (k p : ℕ) → may_follow label k ≡ true → oneof_of label ≡ Some p → k ≤ p
may-above (Member o) k p may e = grind (arith, nat_tests)
may-above _ k p may e = absurd (cc)

with-above : (label : Label) (k p : ℕ) → oneof_of label ≡ Some p → p < oneofs_with label k
with-above (Member o) k p e = grind (arith, nat_tests)
with-above _ k p e = absurd (cc)

with-higher : (label : Label) (k : ℕ) → may_follow label k ≡ true → k ≤ oneofs_with label k
with-higher (Member o) k may = grind (arith, nat_tests)
with-higher _ k may = omega arith

no-rivals : (fs : List Field) (n : ℕ) (f : Field) (oneofs : ℕ) (t : Node) → field_at fs n ≡ Some f
    → may_follow f.label oneofs ≡ true → OneofsBelow fs oneofs t → NoRivals fs n t
no-rivals fs n f oneofs no_fields known may h = tt
no-rivals fs n f oneofs (field m c t) known may h = (
  not-rival fs m n (oneof_at fs m) (oneof_of f.label) refl (oneof-found fs n f known)
      (λ o p at_m at_n same. (let low = h.0 o at_m in let high = may-above f.label oneofs p may at_n in omega (arith, low, high, same))),
  no-rivals fs n f oneofs t known may h.1,
)

-- the records of one field more
pub sofar-more : (T : Table) (room : ℕ) (fs : List Field) (bytes : List ℕ) (start at last oneofs : ℕ) (t new : Node)
    (f : Field) (tag behind next : ℕ) → AreFieldsAscending fs → SoFar T room fs bytes start at last oneofs t
    → field_at fs (tag / 8) ≡ Some f → last < tag / 8 → may_follow f.label oneofs ≡ true → IsTagAt bytes at tag behind
    → IsFieldRead T room f.label f.kind bytes tag behind next t new
    → SoFar T room fs bytes start next (tag / 8) (oneofs_with f.label oneofs) new
sofar-more T room fs bytes start at last oneofs t new f tag behind next a h known more may tagged read =
    let n = tag / 8 in
    let cs = read.contents in
    record {
      raw = push_all h.raw n cs;
      read = read-run T room fs bytes start at tag h.raw f cs next known h.read (read.run at tagged);
      most = all-most h.raw n n cs (omega arith) (most-higher n last h.raw (omega (arith, more)) h.most);
      clear = clear-all fs n cs h.raw h.clear (no-rivals fs n f oneofs h.raw known may h.below);
      below = oneofs-all fs (oneofs_with f.label oneofs) n cs h.raw
          (λ o e. with-above f.label oneofs o (sym (oneof-found fs n f known) ∙ e))
          (oneofs-higher fs oneofs (oneofs_with f.label oneofs) h.raw (with-higher f.label oneofs may) h.below);
      same = read.same
          ∙ ap (λ u. join_fields u (with_content n (field_content (merged T room) f.label f.kind cs) no_fields)) h.same
          ∙ sym (fields-more (merged T room) fs h.raw last n cs f a known h.most more);
    }
