-- Rows by ascending connection.
use Rattle.std.proofs.Common.{◌≡◌, ◌≢◌, ℕ, zero, suc, ◌+◌, ◌-◌, ◌<◌, ◌≤◌, ◌==◌, ◌&&◌, Bool, true, false, not, cond}
use Rattle.std.proofs.Common.{List, [], ◌∷◌, ◌++◌, length, get_or, take, drop, map, filter, refl, ap, sym, subst, ◌∙◌}
use Rattle.std.proofs.Common.{arith, ◌⊎◌, inl, inr, append-nil, append_assoc, length-drop, Result, Ok, Err, IfOk}
use Rattle.std.specs.List.{AllByRecursion}
use Rattle.std.specs.List.Sorted.{ties, IsNonDecreasingBy, IsStableByKey}
use Rattle.std.specs.Ordering.{nat_cmp, is_lt}
use Rattle.std.proofs.lemmas.Bool.{ne_eqb, eq-eqb}
use Rattle.std.proofs.lemmas.List.{length-take-le, map-append, get_or-drop}
use Rattle.std.proofs.lemmas.Bool.Decides.{nat_tests, eqb_tells, leb_tells}
use Rattle.view_top.specs.Lines.{LineEvent, ConnLineEvent}
use Rattle.view_top.specs.Rows.{TimelineRow, row_of, of_connection, AreRows}
use Rattle.view_top.specs.DrawingData.{line_event, line_events, conn_line_event, row}
use Rattle.view_top.specs.declared.part.TimelineRow.{TimelineRow as TheRow}
use Rattle.view_top.specs.declared.line.Event.{Event}
use Rattle.view_top.specs.declared.line.EventKind.TheVariants.{Sent}

-- ---- the events of one connection

abbrev whats : List ConnLineEvent → List LineEvent
whats hs = map (λ h. h.what) hs

of-append : (c : ℕ) (xs ys : List ConnLineEvent) → of_connection c (xs ++ ys) ≡ of_connection c xs ++ of_connection c ys
of-append c [] ys = refl
of-append c (x ∷ xs) ys =
    ap (λ (zs : List LineEvent). cond (x.conn == c) (x.what ∷ zs) zs) (of-append c xs ys)
    ∙ elim (x.conn == c) as (λ b. cond b (x.what ∷ (of_connection c xs ++ of_connection c ys))
    (of_connection c xs ++ of_connection c ys) ≡ cond b (x.what ∷ of_connection c xs) (of_connection c xs)
    ++ of_connection c ys) [ true ↦ refl | false ↦ refl ]

abbrev Only : ℕ → List ConnLineEvent → Type 0
Only c hs = AllByRecursion (λ h. h.conn ≡ c) hs

abbrev Above : ℕ → List ConnLineEvent → Type 0
Above c hs = AllByRecursion (λ h. c < h.conn) hs

of-own : (c : ℕ) (hs : List ConnLineEvent) → Only c hs → of_connection c hs ≡ whats hs
of-own c [] h = refl
of-own c (x ∷ xs) h =
    ap (λ b. cond b (x.what ∷ of_connection c xs) (of_connection c xs)) (eq-eqb x.conn c h.0) ∙ ap (λ (zs : List LineEvent). x.what ∷ zs) (of-own c xs h.1)

of-differs : (c d : ℕ) (hs : List ConnLineEvent) → c ≢ d → Only c hs → of_connection d hs ≡ []
of-differs c d [] ne h = refl
of-differs c d (x ∷ xs) ne h =
    ap (λ b. cond b (x.what ∷ of_connection d xs) (of_connection d xs)) (ne_eqb x.conn d (λ e. ne (sym h.0 ∙ e))) ∙ of-differs c d xs ne h.1

of-above : (c d : ℕ) (hs : List ConnLineEvent) → d ≤ c → Above c hs → of_connection d hs ≡ []
of-above c d [] le h = refl
of-above c d (x ∷ xs) le h =
    let lt = h.0 in
    let ne : x.conn ≢ d = λ e. omega (arith, lt, le, e) in
    ap (λ b. cond b (x.what ∷ of_connection d xs) (of_connection d xs)) (ne_eqb x.conn d ne) ∙ of-above c d xs le h.1

-- ---- rows

pub no_rows : AreRows [] []
no_rows = record { rise = tt; each = tt; others = λ c h. refl }

abbrev IsRow : List ConnLineEvent → TimelineRow → Type 0
IsRow hs r = (r ≡ row_of r.conn (of_connection r.conn hs)) × (0 < r.happenings)

lt_or_le : (a b : ℕ) → (a < b) ⊎ (b ≤ a)
lt_or_le a b = elim (leb_tells (suc a) b) [ inl lt ↦ inl lt.1 | inr ge ↦ inr (let h = ge.1 in omega (arith, h)) ]

-- a row is of a connection that has an event
row_above : (c : ℕ) (hs : List ConnLineEvent) (r : TimelineRow) → Above c hs → IsRow hs r → c < r.conn
row_above c hs r above is =
    elim (lt_or_le c r.conn) [
      | inl lt ↦ lt
      | inr le ↦ let none : r.happenings ≡ 0 = ap (λ (x : TimelineRow). x.happenings) is.0 ∙ ap length (of-above c r.conn hs le above) in let some = is.1 in absurd (omega (arith, none, some))
    ]

rows_above : (c : ℕ) (hs : List ConnLineEvent) (rs : List TimelineRow) → Above c hs → AllByRecursion (IsRow hs) rs → AllByRecursion (λ r. c < r.conn) rs
rows_above c hs [] above each = tt
rows_above c hs (r ∷ rs) above each = (row_above c hs r above each.0, rows_above c hs rs above each.1)

-- rows stay rows if the events of their connections stay the same
rows_stay : (xs ys : List ConnLineEvent) (c : ℕ) (rs : List TimelineRow)
    → ((d : ℕ) → c < d → of_connection d xs ≡ of_connection d ys) → AllByRecursion (λ r. c < r.conn) rs
    → AllByRecursion (IsRow xs) rs → AllByRecursion (IsRow ys) rs
rows_stay xs ys c [] same above each = tt
rows_stay xs ys c (r ∷ rs) same above each =
    ((each.0.0 ∙ ap (row_of r.conn) (same r.conn above.0), each.0.1), rows_stay xs ys c rs same above.1 each.1)

-- the row of a connection before those of greater ones
one_row : (c : ℕ) (own hs : List ConnLineEvent) (rs : List TimelineRow) (r : TimelineRow) → Only c own → Above c hs → 0 < length own
    → r ≡ row_of c (whats own) → AreRows hs rs → AreRows (own ++ hs) (r ∷ rs)
one_row c own hs rs r only above some is rows =
    let here : of_connection c (own ++ hs) ≡ whats own =
    of-append c own hs ∙ ap (λ (zs : List LineEvent). of_connection c own ++ zs) (of-above c c hs (omega arith) above) ∙ append-nil (of_connection c own) ∙ of-own c own only in
    let there : (d : ℕ) → c ≢ d → of_connection d (own ++ hs) ≡ of_connection d hs =
    λ d ne. of-append d own hs ∙ ap (λ (zs : List LineEvent). zs ++ of_connection d hs) (of-differs c d own ne only) in
    let conn : r.conn ≡ c = ap (λ (x : TimelineRow). x.conn) is in
    let long : r.happenings ≡ length own = ap (λ (x : TimelineRow). x.happenings) is ∙ length-whats own in
    let behind = rows_above c hs rs above rows.each in
    record {
      rise = (subst (λ k. AllByRecursion (λ s. k < s.conn) rs) (sym conn) behind, rows.rise);
      each = (
        (is ∙ ap (row_of c) (sym here) ∙ sym (ap (λ k. row_of k (of_connection k (own ++ hs))) conn), omega (arith, some, long)),
        rows_stay hs (own ++ hs) c rs (λ d lt. sym (there d (λ e. omega (arith, lt, e)))) behind rows.each,
      );
      others = λ d none. let ne : c ≢ d = λ e. none.0 (conn ∙ e) in there d ne ∙ rows.others d none.1;
    }
  where
    length-whats : (hs : List ConnLineEvent) → length (whats hs) ≡ length hs
    length-whats [] = refl
    length-whats (h ∷ hs) = ap (λ n. suc n) (length-whats hs)

-- the rows depend only on each connection's events, in order
pub same_rows : (xs ys : List ConnLineEvent) (rs : List TimelineRow) → ((c : ℕ) → of_connection c xs ≡ of_connection c ys) → AreRows xs rs → AreRows ys rs
same_rows xs ys rs same rows = record {
  rise = rows.rise;
  each = stay rs rows.each;
  others = λ c none. sym (same c) ∙ rows.others c none;
}
  where
    stay : (rs : List TimelineRow) → AllByRecursion (IsRow xs) rs → AllByRecursion (IsRow ys) rs
    stay [] each = tt
    stay (r ∷ rs) each = ((each.0.0 ∙ ap (row_of r.conn) (same r.conn), each.0.1), stay rs each.1)

-- ---- the code's types

take_none : (n : ℕ) → take {A = Event} n [] ≡ []
take_none zero = refl
take_none (suc n) = refl

drop_none : (n : ℕ) → drop {A = Event} n [] ≡ []
drop_none zero = refl
drop_none (suc n) = refl

only_own : (es : List Event) (c n : ℕ) → n ≤ length es → ((k : ℕ) (d : Event) → k < n → (get_or es k d).conn ≡ c) → Only c (map conn_line_event (take n es))
only_own [] c n within same = subst (λ (xs : List Event). Only c (map conn_line_event xs)) (sym (take_none n)) tt
only_own (e ∷ es) c zero within same = tt
only_own (e ∷ es) c (suc n) within same = (same 0 e (omega arith), only_own es c n (omega arith) (λ k d lt. same (suc k) d (omega arith)))

all_above : (es : List Event) (c n : ℕ) → ((k : ℕ) (d : Event) → n ≤ k → k < length es → c < (get_or es k d).conn) → Above c (map conn_line_event (drop n es))
all_above [] c n above = subst (λ (xs : List Event). Above c (map conn_line_event xs)) (sym (drop_none n)) tt
all_above (e ∷ es) c zero above = (above 0 e (omega arith) (omega arith), all_above es c zero (λ k d le lt. above (suc k) d (omega arith) (omega arith)))
all_above (e ∷ es) c (suc n) above = all_above es c n (λ k d le lt. above (suc k) d (omega arith) (omega arith))

-- ---- a stable sort

ties-same : (m n : ℕ) → m ≡ n → (not (is_lt (nat_cmp n m)) && not (is_lt (nat_cmp m n))) ≡ true
ties-same m n e = grind (arith, nat_tests)

ties-differ : (m n : ℕ) → m ≢ n → (not (is_lt (nat_cmp n m)) && not (is_lt (nat_cmp m n))) ≡ false
ties-differ m n e = grind (arith, nat_tests)

abbrev below : Event → Event → Bool
below x y = is_lt (nat_cmp x.conn y.conn)

abbrev some_event : ℕ → Event
some_event c = record { conn = c; what = Sent 0 }

of-ties : (c : ℕ) (es : List Event) → of_connection c (map conn_line_event es) ≡ line_events (filter (ties below (some_event c)) es)
of-ties c [] = refl
of-ties c (e ∷ es) =
    elim (eqb_tells e.conn c) [
      | inl same ↦ ap (λ b. cond b (line_event e.what ∷ of_connection c (map conn_line_event es))
          (of_connection c (map conn_line_event es))) same.0 ∙ ap (λ (zs : List LineEvent). line_event e.what ∷ zs) (of-ties c es)
          ∙ sym (ap (λ b. line_events (cond b (e ∷ filter (ties below (some_event c)) es) (filter (ties below (some_event c)) es))) (ties-same e.conn c same.1))
      | inr other ↦ ap (λ b. cond b (line_event e.what ∷ of_connection c (map conn_line_event es)) (of_connection c (map conn_line_event es))) other.0 ∙ of-ties c es
          ∙ sym (ap (λ b. line_events (cond b (e ∷ filter (ties below (some_event c)) es) (filter (ties below (some_event c)) es))) (ties-differ e.conn c other.1))
    ]

pub sorted_told : (xs ys : List Event) → IsStableByKey (λ e. e.conn) nat_cmp xs ys → (c : ℕ) → of_connection c (map conn_line_event ys) ≡ of_connection c (map conn_line_event xs)
sorted_told xs ys stable c = of-ties c ys ∙ ap line_events (stable (some_event c)) ∙ sym (of-ties c xs)

behind_both : (es : List Event) (m n : ℕ) → drop n (drop m es) ≡ drop (m + n) es
behind_both es zero n = let sum : n ≡ zero + n = omega arith in ap (λ k. drop k es) sum
behind_both [] (suc m) n = drop_none n ∙ sym (drop_none (suc m + n))
behind_both (e ∷ es) (suc m) n = let sum : suc (m + n) ≡ suc m + n = omega arith in behind_both es m n ∙ ap (λ k. drop k (e ∷ es)) sum

-- ---- one more row

-- the events of the first connection come first
front_only : (es : List Event) (c n : ℕ) → IsNonDecreasingBy (λ e. e.conn) es → n ≤ length es → 0 < length es → ((d : Event) → (get_or es 0 d).conn ≡ c)
    → ((k : ℕ) (d : Event) → k < n → (get_or es k d).conn ≡ c) → ((d : Event) → n < length es → (get_or es n d).conn ≢ c)
    → Above c (map conn_line_event (drop n es))
front_only es c n sorted within some first same other = all_above es c n above
  where
    above : (k : ℕ) (d : Event) → n ≤ k → k < length es → c < (get_or es k d).conn
    above k d le lt =
        let here : n < length es = omega (arith, le, lt) in
        let ne = other d here in
        let low = sorted 0 n d (omega arith) here in
        let up = sorted n k d le lt in
        let start = first d in
        let differs : (get_or es n d).conn ≢ c = ne in
        omega (arith, low, up, start, differs)

sorted_behind : (es : List Event) (n : ℕ) → IsNonDecreasingBy (λ e. e.conn) es → IsNonDecreasingBy (λ e. e.conn) (drop n es)
sorted_behind es zero sorted = sorted
sorted_behind [] (suc n) sorted = sorted
sorted_behind (e ∷ es) (suc n) sorted = sorted_behind es n (λ i j d le lt. sorted (suc i) (suc j) d (omega (arith, le)) (omega (arith, lt)))

map-parts : (es : List Event) (n : ℕ) → map conn_line_event es ≡ map conn_line_event (take n es) ++ map conn_line_event (drop n es)
map-parts es zero = refl
map-parts [] (suc n) = refl
map-parts (e ∷ es) (suc n) = ap (λ (hs : List ConnLineEvent). conn_line_event e ∷ hs) (map-parts es n)

whats-own : (es : List Event) → whats (map conn_line_event es) ≡ line_events es
whats-own [] = refl
whats-own (e ∷ es) = ap (λ (ws : List LineEvent). line_event e.what ∷ ws) (whats-own es)

length-own : (es : List Event) → length (map conn_line_event es) ≡ length es
length-own [] = refl
length-own (e ∷ es) = ap (λ n. suc n) (length-own es)

-- the row of a connection's events from an index on, before the rows of the later events
pub row_at : (es : List Event) (at end conn : ℕ) (r : TimelineRow) (more : List TimelineRow) → IsNonDecreasingBy (λ e. e.conn) es → at < end → end ≤ length es
    → ((d : Event) → (get_or es at d).conn ≡ conn) → ((k : ℕ) (d : Event) → at ≤ k → k < end → (get_or es k d).conn ≡ conn)
    → ((d : Event) → end < length es → (get_or es end d).conn ≢ conn) → r ≡ row_of conn (line_events (take (end - at) (drop at es)))
    → AreRows (map conn_line_event (drop end es)) more → AreRows (map conn_line_event (drop at es)) (r ∷ more)
row_at es at end conn r more sorted further within first same other is rows =
    let rest = drop at es in
    let n = end - at in
    let sum : at + n ≡ end = omega (arith, further) in
    let left : length rest ≡ length es - at = length-drop at es in
    let fits : n ≤ length rest = omega (arith, left, within) in
    let at_place : (k : ℕ) (d : Event) → get_or rest k d ≡ get_or es (at + k) d = λ k d. get_or-drop at es k d in
    let back : drop n rest ≡ drop end es = behind_both es at n ∙ ap (λ (m : ℕ). drop m es) sum in
    let rest_same : (k : ℕ) (d : Event) → k < n → (get_or rest k d).conn ≡ conn =
    λ k d lt. ap (λ (e : Event). e.conn) (at_place k d) ∙ same (at + k) d (omega arith)
    (omega (arith, lt, sum)) in
    let rest_other : (d : Event) → n < length rest → (get_or rest n d).conn ≢ conn =
    λ d lt e. other d (omega (arith, lt, left, sum)) (sym (ap (λ (m : ℕ). (get_or es m d).conn) sum) ∙ sym (ap (λ (x : Event). x.conn) (at_place n d)) ∙ e) in
    let rest_first : (d : Event) → (get_or rest 0 d).conn ≡ conn = λ d. rest_same 0 d (omega (arith, further)) in
    let long : 0 < length (map conn_line_event (take n rest)) = omega (arith, length-own (take n rest), length-take-le n rest fits, further) in
    subst (λ (hs : List ConnLineEvent). AreRows hs (r ∷ more)) (sym (map-parts rest n))
    (one_row conn (map conn_line_event (take n rest)) (map conn_line_event (drop n rest)) more r
    (only_own rest conn n fits rest_same)
    (front_only rest conn n (sorted_behind es at sorted) fits (omega (arith, left, further, within)) rest_first rest_same rest_other)
    long
    (is ∙ ap (row_of conn) (sym (whats-own (take n rest))))
    (subst (λ (xs : List Event). AreRows (map conn_line_event xs) more) (sym back) rows))

pub pushed_row : (rows new : List TheRow) (r : TheRow) (more : List TimelineRow) → new ≡ rows ++ r ∷ [] → map row rows ++ (row r ∷ more) ≡ map row new ++ more
pushed_row rows new r more is =
    sym (ap (λ (xs : List TheRow). map row xs ++ more) is ∙ ap (λ (xs : List TimelineRow). xs ++ more) (map-append row rows (r ∷ [])) ∙ append_assoc (map row rows) (row r ∷ []) more)

-- rows of the sorted events are rows of the events
pub sorted_rows : {A E : Type 0} (items : A → List TimelineRow) (r : Result A E) (xs ys : List ConnLineEvent) → ((c : ℕ) → of_connection c xs ≡ of_connection c ys)
    → IfOk r (λ a. AreRows xs (items a)) → IfOk r (λ a. AreRows ys (items a))
sorted_rows items (Ok a) xs ys same h = same_rows xs ys (items a) same h
sorted_rows items (Err e) xs ys same h = tt
