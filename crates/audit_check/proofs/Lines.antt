-- A text has one history, and one list of lines after it, up to where it is read.
use Rattle.std.proofs.Common.{◌≡◌, ℕ, ◌+◌, ◌⊎◌, List, [], ◌∷◌, ◌++◌, All, Option, length, map, arith, refl, ap, sym}
use Rattle.std.proofs.Common.{◌∙◌, inl, inr, append_assoc, length-append}
use Rattle.std.specs.List.{AllByRecursion, flat_map}
use Rattle.std.proofs.lemmas.List.{append-nil}
use Rattle.std.proofs.lemmas.List.Elements.{All-head, All-tail}
use Rattle.mrpc_table.specs.Valid.{IsValid}
use Rattle.mrpc_table.specs.declared.table.Table.{Table}
use Rattle.call_history.specs.Legal.{History}
use Rattle.call_history.specs.declared.happening.ConnectionEvent.{ConnectionEvent as Next}
use Rattle.policy_declarations.specs.Declarations.{Declared}
use Rattle.audit_text.specs.Lines.{audit, audit_line, stands_line}
use Rattle.audit_text.specs.Writable.{IsWritablePendingCall, IsWritable}
use Rattle.audit_text.specs.declared.holding.Holding.{Holding}
use Rattle.audit_text.specs.LineBytes.{IsWritableLine, bytes_of_line}
use Rattle.audit_text.specs.declared.line.AuditLine.{AuditLine}
use Rattle.audit_text.specs.declared.line.AuditLine.TheVariants.{Happened, Stands}
use Rattle.audit_check.specs.Checking.{IsFirstInvalidAuditLine, IsStandsLine, StandsLine, IsAuditOf, bytes_of_stands, bytes_of_all_stands}
use Rattle.audit_check.specs.States.{IsTerminatedLine}
use Rattle.audit_check.proofs.Cuts.{cut_once}
use Rattle.audit_check.proofs.TextLines.{AreApart, HappeningsCut, StandsCut, at_feed, happening_ends, lacks, some_byte, stands_ends}

-- ---- the laws of texts

abbrev pub OneFront : Type 0
OneFront = (T : Table) (declared : Declared) (x y : Next) (a b : List ℕ) → IsValid T → IsWritable T declared x → IsWritable T declared y
    → audit_line T x ++ a ≡ audit_line T y ++ b → (x ≡ y) × (a ≡ b)

abbrev pub OneCall : Type 0
OneCall = (conn seq position conn' seq' position' : ℕ) (name name' : List ℕ) (holding holding' : Option Holding)
    → IsWritablePendingCall conn seq position name holding → IsWritablePendingCall conn' seq' position' name' holding'
    → stands_line conn seq position name holding ≡ stands_line conn' seq' position' name' holding'
    → (conn ≡ conn') × (seq ≡ seq') × (position ≡ position') × (name ≡ name') × (holding ≡ holding')

pub record TextLaws : Type 0 where
  pub happenings : HappeningsCut
  pub stands : StandsCut
  pub apart : AreApart
  pub front : OneFront
  pub one : OneCall

-- ---- one line

line_ends : TextLaws → (T : Table) (declared : Declared) (x : AuditLine) → IsValid T → IsWritableLine T declared x → IsTerminatedLine (bytes_of_line T x)
line_ends laws T declared (Happened x) valid h = happening_ends laws.happenings T declared x valid h
line_ends laws T declared (Stands conn seq position name holding) valid h =
    stands_ends laws.stands (record { conn = conn; seq = seq; position = position; name = name; holding = holding }) h

-- two lines at the start of a text have the same bytes
same_bytes : (first other a b : List ℕ) → IsTerminatedLine first → IsTerminatedLine other → first ++ a ≡ other ++ b → (first ≡ other) × (a ≡ b)
same_bytes first other a b ends ends' e =
    let same = cut_once 10 ends.0 ends'.0 a b (lacks ends.0 ends.2) (lacks ends'.0 ends'.2)
    (sym (at_feed (first ++ a) ends.0 a first ends.1 refl) ∙ at_feed (first ++ a) ends'.0 b other ends'.1 e) in
    (ends.1 ∙ ap (λ (l : List ℕ). l ++ 10 ∷ []) same.0 ∙ sym ends'.1, same.1)

same_line : TextLaws → (T : Table) (declared : Declared) (x y : AuditLine) (a b : List ℕ) → IsValid T → IsWritableLine T declared x → IsWritableLine T declared y
    → bytes_of_line T x ++ a ≡ bytes_of_line T y ++ b → (x ≡ y) × (a ≡ b)
same_line laws T declared (Happened x) (Happened y) a b valid h k e = let same = laws.front T declared x y a b valid h k e in (ap Happened same.0, same.1)
same_line laws T declared (Happened x) (Stands conn seq position name holding) a b valid h k e =
    let same = same_bytes (audit_line T x) (stands_line conn seq position name holding) a b
    (line_ends laws T declared (Happened x) valid h)
    (line_ends laws T declared (Stands conn seq position name holding) valid k) e in
    absurd (laws.apart T x conn seq position name holding (sym same.0))
same_line laws T declared (Stands conn seq position name holding) (Happened y) a b valid h k e =
    let same = same_bytes (stands_line conn seq position name holding) (audit_line T y) a b
    (line_ends laws T declared (Stands conn seq position name holding) valid h)
    (line_ends laws T declared (Happened y) valid k) e in
    absurd (laws.apart T y conn seq position name holding same.0)
same_line laws T declared (Stands conn seq position name holding) (Stands conn' seq' position' name' holding') a b valid h k e =
    let same = same_bytes (stands_line conn seq position name holding) (stands_line conn' seq' position' name' holding') a b
    (line_ends laws T declared (Stands conn seq position name holding) valid h) (line_ends laws T declared (Stands conn' seq' position' name' holding') valid k) e in
    let one = laws.one conn seq position conn' seq' position' name name' holding holding' h k same.0 in
    ((λ i. Stands (one.0 i) (one.1 i) (one.2 i) (one.3 i) (one.4 i)), same.1)

-- ---- lines

abbrev pub texts_of : Table → List AuditLine → List ℕ
texts_of T xs = flat_map (bytes_of_line T) xs

abbrev pub AreLines : Table → Declared → List AuditLine → Type 0
AreLines T declared xs = AllByRecursion (IsWritableLine T declared) xs

-- the first text continues to the second by these lines
pub record GoesOn (T : Table) (declared : Declared) (xs ys : List AuditLine) (a b : List ℕ) : Type 0 where
  pub more : List AuditLine
  pub lines : ys ≡ xs ++ more
  pub text : a ≡ texts_of T more ++ b
  pub are : AreLines T declared more

pub agree : TextLaws → (T : Table) (declared : Declared) (xs ys : List AuditLine) (a b : List ℕ) → IsValid T → AreLines T declared xs → AreLines T declared ys
    → texts_of T xs ++ a ≡ texts_of T ys ++ b → GoesOn T declared xs ys a b ⊎ GoesOn T declared ys xs b a
agree laws T declared [] ys a b valid h k e = inl (record { more = ys; lines = refl; text = e; are = k })
agree laws T declared (x ∷ xs) [] a b valid h k e = inr (record { more = x ∷ xs; lines = refl; text = sym e; are = h })
agree laws T declared (x ∷ xs) (y ∷ ys) a b valid h k e =
    let both = same_line laws T declared x y (texts_of T xs ++ a) (texts_of T ys ++ b) valid h.0 k.0
    (sym (append_assoc (bytes_of_line T x) (texts_of T xs) a) ∙ e ∙ append_assoc (bytes_of_line T y) (texts_of T ys) b) in
    elim (agree laws T declared xs ys a b valid h.1 k.1 both.1) [
      | inl on ↦ inl (record { more = on.more; lines = (λ i. sym both.0 i ∷ on.lines i); text = on.text; are = on.are })
      | inr on ↦ inr (record { more = on.more; lines = (λ i. both.0 i ∷ on.lines i); text = on.text; are = on.are })
    ]

-- ---- histories with lines after them

abbrev pub line_at : StandsLine → AuditLine
line_at s = Stands s.conn s.seq s.position s.name s.holding

abbrev pub all_lines : History → List StandsLine → List AuditLine
all_lines h told = map Happened h ++ map line_at told

stands_text : (T : Table) (told : List StandsLine) → texts_of T (map line_at told) ≡ bytes_of_all_stands told
stands_text T [] = refl
stands_text T (s ∷ told) = ap (λ (l : List ℕ). bytes_of_stands s ++ l) (stands_text T told)

pub whole_text : (T : Table) (h : History) (told : List StandsLine) → texts_of T (all_lines h told) ≡ audit T h ++ bytes_of_all_stands told
whole_text T [] told = stands_text T told
whole_text T (x ∷ h) told = ap (λ (l : List ℕ). audit_line T x ++ l) (whole_text T h told) ∙ sym (append_assoc (audit_line T x) (audit T h) (bytes_of_all_stands told))

stands_lines : (T : Table) (declared : Declared) (told : List StandsLine) → All IsStandsLine told → AreLines T declared (map line_at told)
stands_lines T declared [] all = tt
stands_lines T declared (s ∷ told) all = (All-head IsStandsLine s told all, stands_lines T declared told (All-tail IsStandsLine s told all))

pub whole_lines : (T : Table) (declared : Declared) (h : History) (told : List StandsLine)
    → All (IsWritable T declared) h → All IsStandsLine told → AreLines T declared (all_lines h told)
whole_lines T declared [] told all in' = stands_lines T declared told in'
whole_lines T declared (x ∷ h) told all in' = (All-head (IsWritable T declared) x h all, whole_lines T declared h told (All-tail (IsWritable T declared) x h all) in')

-- no event follows the line of a call
only_stands : (told ts : List StandsLine) (x : Next) (more : List AuditLine) → map line_at told ≡ map line_at ts ++ Happened x ∷ more → ⊥
only_stands [] [] x more e = cc
only_stands [] (t ∷ ts) x more e = cc
only_stands (s ∷ told) [] x more e = cc
only_stands (s ∷ told) (t ∷ ts) x more e = only_stands told ts x more (let rest : map line_at told ≡ map line_at ts ++ Happened x ∷ more = cc in rest)

pub none_late : (h h' : History) (told told' : List StandsLine) (x : Next) (more : List AuditLine) → all_lines h told ≡ all_lines h' told' ++ Happened x ∷ more → told' ≡ []
none_late h [] told [] x more e = refl
none_late [] [] told (t ∷ ts) x more e = absurd (only_stands told (t ∷ ts) x more e)
none_late (y ∷ h) [] told (t ∷ ts) x more e = absurd cc
none_late [] (y ∷ h') [] told' x more e = absurd cc
none_late [] (y ∷ h') (s ∷ told) told' x more e = absurd cc
none_late (z ∷ h) (y ∷ h') told told' x more e = none_late h h' told told' x more (let rest : all_lines h told ≡ all_lines h' told' ++ Happened x ∷ more = cc in rest)

same_stands : (told told' : List StandsLine) → map line_at told ≡ map line_at told' → told ≡ told'
same_stands [] [] e = refl
same_stands [] (t ∷ ts) e = absurd cc
same_stands (s ∷ told) [] e = absurd cc
same_stands (s ∷ told) (t ∷ ts) e =
    let first : line_at s ≡ line_at t = cc in
    let rest : map line_at told ≡ map line_at ts = cc in
    let conns : s.conn ≡ t.conn = cc in
    let seqs : s.seq ≡ t.seq = cc in
    let positions : s.position ≡ t.position = cc in
    let names : s.name ≡ t.name = cc in
    let holdings : s.holding ≡ t.holding = cc in
    let same : s ≡ t = (λ i. record { conn = conns i; seq = seqs i; position = positions i; name = names i; holding = holdings i }) in
    (λ i. same i ∷ same_stands told ts rest i)

pub same_lines : (h h' : History) (told told' : List StandsLine) → all_lines h told ≡ all_lines h' told' → (h ≡ h') × (told ≡ told')
same_lines [] [] told told' e = (refl, same_stands told told' e)
same_lines [] (y ∷ h') [] told' e = absurd cc
same_lines [] (y ∷ h') (s ∷ told) told' e = absurd cc
same_lines (x ∷ h) [] told [] e = absurd cc
same_lines (x ∷ h) [] told (t ∷ ts) e = absurd cc
same_lines (x ∷ h) (y ∷ h') told told' e =
    let first : x ≡ y = cc in
    let rest = same_lines h h' told told' (let rest : all_lines h told ≡ all_lines h' told' = cc in rest) in
    ((λ i. first i ∷ rest.0 i), rest.1)

-- ---- texts that are read to their end, and first faults

some_text : TextLaws → (T : Table) (declared : Declared) (x : AuditLine) (more : List AuditLine) (b : List ℕ)
    → IsValid T → IsWritableLine T declared x → [] ≡ texts_of T (x ∷ more) ++ b → ⊥
some_text laws T declared x more b valid h e =
    omega (
      arith,
      ap length e,
      length-append (bytes_of_line T x ++ texts_of T more) b,
      length-append (bytes_of_line T x) (texts_of T more),
      some_byte (bytes_of_line T x) (line_ends laws T declared x valid h),
    )

read_as : (T : Table) (declared : Declared) (front rest text : List ℕ) (h : History) (told : List StandsLine)
    → text ≡ front ++ rest → IsAuditOf T declared front h told → texts_of T (all_lines h told) ++ rest ≡ text
read_as T declared front rest text h told e t = ap (λ (l : List ℕ). l ++ rest) (whole_text T h told ∙ sym t.is_text) ∙ sym e

-- no line follows a fault
no_more : TextLaws → (T : Table) (declared : Declared) (text : List ℕ) (line : ℕ)
    → (bad : IsFirstInvalidAuditLine T declared text line) (h : History) (told : List StandsLine) (b : List ℕ) (x : AuditLine)
    (more : List AuditLine)
    → all_lines h told ≡ all_lines bad.history bad.stands ++ x ∷ more → IsWritableLine T declared x → bad.rest ≡ texts_of T (x ∷ more) ++ b → ⊥
no_more laws T declared text line bad h told b (Happened x) more e in' rest =
    bad.no_event (none_late h bad.history told bad.stands x more e) x in' (texts_of T more ++ b, rest ∙ append_assoc (audit_line T x) (texts_of T more) b)
no_more laws T declared text line bad h told b (Stands conn seq position name holding) more e in' rest =
    bad.no_pending (record { conn = conn; seq = seq; position = position; name = name; holding = holding }) in'
    (texts_of T more ++ b, rest ∙ append_assoc (stands_line conn seq position name holding) (texts_of T more) b)

both_end : TextLaws → (T : Table) (declared : Declared) (rest : List ℕ) (more : List AuditLine) → IsValid T
    → AreLines T declared more → (rest ≡ [] → ⊥) → [] ≡ texts_of T more ++ rest → ⊥
both_end laws T declared rest [] valid are some e = some (sym e)
both_end laws T declared rest (x ∷ more) valid are some e = some_text laws T declared x more rest valid are.0 e

both_on : TextLaws
    → (T : Table) (declared : Declared) (text : List ℕ) (line : ℕ) (bad : IsFirstInvalidAuditLine T declared text line)
    (h : History) (told : List StandsLine) (b : List ℕ) (more : List AuditLine) → IsValid T
    → AreLines T declared more → all_lines h told ≡ all_lines bad.history bad.stands ++ more → bad.rest ≡ texts_of T more ++ b → (more ≡ []) × (bad.rest ≡ b)
both_on laws T declared text line bad h told b [] valid are lines e = (refl, e)
both_on laws T declared text line bad h told b (x ∷ more) valid are lines e = absurd (no_more laws T declared text line bad h told b x more lines are.0 e)

pub not_both : TextLaws
    → (T : Table) (declared : Declared) (text : List ℕ) (line : ℕ) (h : History) (told : List StandsLine) → IsValid T
    → IsAuditOf T declared text h told → IsFirstInvalidAuditLine T declared text line → ⊥
not_both laws T declared text line h told valid t bad =
    let ours = whole_lines T declared h told t.writable t.in_range in
    let theirs = whole_lines T declared bad.history bad.stands bad.before.writable bad.before.in_range in
    let e = read_as T declared text [] text h told (sym (append-nil text)) t ∙ sym (read_as T declared bad.front bad.rest text bad.history bad.stands bad.is_text bad.before) in
    elim (agree laws T declared (all_lines h told) (all_lines bad.history bad.stands) [] bad.rest valid ours theirs e) [
      | inl on ↦ both_end laws T declared bad.rest on.more valid on.are bad.more on.text
      | inr on ↦ bad.more (both_on laws T declared text line bad h told [] on.more valid on.are on.lines on.text).1
    ]

counted_same : (h h' : History) (told told' : List StandsLine) (more : List AuditLine)
    → all_lines h told ≡ all_lines h' told' ++ more → more ≡ [] → length h + length told ≡ length h' + length told'
counted_same h h' told told' more e none =
    let same = same_lines h h' told told' (e ∙ ap (λ (l : List AuditLine). all_lines h' told' ++ l) none ∙ append-nil (all_lines h' told')) in
    omega (arith, ap length same.0, ap length same.1)

pub one_fault : TextLaws → (T : Table) (declared : Declared) (text : List ℕ) (line other : ℕ) → IsValid T
    → IsFirstInvalidAuditLine T declared text line → IsFirstInvalidAuditLine T declared text other → line ≡ other
one_fault laws T declared text line other valid a b =
    let ours = whole_lines T declared a.history a.stands a.before.writable a.before.in_range in
    let theirs = whole_lines T declared b.history b.stands b.before.writable b.before.in_range in
    let e = read_as T declared a.front a.rest text a.history a.stands a.is_text a.before ∙ sym (read_as T declared b.front b.rest text b.history b.stands b.is_text b.before) in
    elim (agree laws T declared (all_lines a.history a.stands) (all_lines b.history b.stands) a.rest b.rest valid ours theirs e) [
      | inl on ↦
          let none = both_on laws T declared text line a b.history b.stands b.rest on.more valid on.are on.lines on.text in
          omega (arith, a.counted, b.counted, counted_same b.history a.history b.stands a.stands on.more on.lines none.0)
      | inr on ↦
          let none = both_on laws T declared text other b a.history a.stands a.rest on.more valid on.are on.lines on.text in
          omega (arith, a.counted, b.counted, counted_same a.history b.history a.stands b.stands on.more on.lines none.0)
    ]

no_text : TextLaws → (T : Table) (declared : Declared) (more : List AuditLine) → IsValid T → AreLines T declared more → [] ≡ texts_of T more ++ [] → more ≡ []
no_text laws T declared [] valid are e = refl
no_text laws T declared (x ∷ more) valid are e = absurd (some_text laws T declared x more [] valid are.0 e)

pub one_reading : TextLaws
    → (T : Table) (declared : Declared) (text : List ℕ) (h h' : History) (told told' : List StandsLine) → IsValid T
    → IsAuditOf T declared text h told → IsAuditOf T declared text h' told' → (h ≡ h') × (told ≡ told')
one_reading laws T declared text h h' told told' valid t t' =
    let ours = whole_lines T declared h told t.writable t.in_range in
    let theirs = whole_lines T declared h' told' t'.writable t'.in_range in
    let e = read_as T declared text [] text h told (sym (append-nil text)) t ∙ sym (read_as T declared text [] text h' told' (sym (append-nil text)) t') in
    elim (agree laws T declared (all_lines h told) (all_lines h' told') [] [] valid ours theirs e) [
      | inl on ↦ same_lines h h' told told'
          (sym (on.lines ∙ ap (λ (l : List AuditLine). all_lines h told ++ l)
          (no_text laws T declared on.more valid on.are on.text) ∙ append-nil (all_lines h told)))
      | inr on ↦ same_lines h h' told told' (on.lines ∙ ap (λ (l : List AuditLine). all_lines h' told' ++ l)
          (no_text laws T declared on.more valid on.are on.text) ∙ append-nil (all_lines h' told'))
    ]
