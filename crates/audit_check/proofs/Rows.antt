-- The pending calls, listed one after another.
use Rattle.std.proofs.Common.{◌≡◌, ◌≢◌, ℕ, zero, suc, ◌+◌, ◌<◌, ◌≤◌, ◌==◌, nat_lt, ◌↔◌, Bool, true, false, cond, List}
use Rattle.std.proofs.Common.{[], ◌∷◌, ◌++◌, All, Contains, length, map, drop, arith, refl, ap, sym, subst, ◌∙◌, inl}
use Rattle.std.proofs.Common.{inr, Option, Some, None, IsSome, IsTrue, is_some, is_none, not, if◌then◌else◌}
use Rattle.std.proofs.Common.{option_map, slice_get, append_assoc, length-append}
use Rattle.std.specs.BTreeMap.{BTreeMap, get, keys}
use Rattle.std.specs.List.{AllByRecursion}
use Rattle.std.specs.List.Sorted.{IsStrictlySortedBy}
use Rattle.std.specs.Ordering.{nat_cmp}
use Rattle.std.specs.declared.cmp.Ordering.TheVariants.{Less, Equal, Greater}
use Rattle.std.proofs.lemmas.Bool.{ne_eqb, eq-eqb, lt-ltb, ltb-true}
use Rattle.std.proofs.lemmas.Bool.Decides.{eqb_tells}
use Rattle.std.proofs.lemmas.Cmp.{nat_cmp_total}
use Rattle.std.proofs.lemmas.Map.Lookups.{exact_unsigned}
use Rattle.std.proofs.lemmas.Map.Views.{All-found, btree_map_contains_key_iff}
use Rattle.std.proofs.lemmas.List.{append-nil, drop_all, length-drop, length-map, map-append}
use Rattle.std.proofs.lemmas.Option.{slice_get_within}
use Rattle.std.proofs.Math.Seq.{drop-nil}
use Rattle.std.proofs.lemmas.List.Elements.{All-head, All-tail, All-weaker, filter-append}
use Rattle.mrpc_table.specs.declared.table.Table.{Table}
use Rattle.call_history.specs.Trace.{Trace, pending_calls}
use Rattle.call_history.specs.Legal.{History, HasNoObligation, trace_of}
use Rattle.call_history.specs.Rules.{JudgeContext}
use Rattle.call_history.specs.declared.happening.AcceptedCall.{AcceptedCall}
use Rattle.audit_rules.specs.CheckerState.{IsCheckerAfter, KnowsListed, checker_context}
use Rattle.audit_rules.specs.PendingLines.{IsNextPending}
use Rattle.audit_rules.specs.declared.checker.Checker.{Checker}
use Rattle.audit_check.specs.Checking.{AreAllPending, AreLegalPrefixes, AreAllListed, CallName, MayBeListed, StandsLine, AreNextPending, call_name_of, lines_on, context_on}
use Rattle.audit_check.specs.States.{IsListingOf, IsAllListed, KnowsCurrent, KnowsLines, KnowsOn, KnowsOthers, KnowsUnlisted, IsPopped, AreAscending, calls_on_all, calls_on, unlisted_connections, unlisted_calls, KnowsEach}
use Rattle.audit_check.specs.declared.listing.ConnectionChecker.{ConnectionChecker}
use Rattle.audit_check.proofs.Calls.{all_standing, one_standing, standing_numbered}

-- ---- lines of a connection

abbrev pub held_of : StandsLine → Option (ℕ × ℕ)
held_of s = option_map (λ held. (held.level, held.cost)) s.holding

abbrev pub positions_on : ℕ → List StandsLine → List ℕ
positions_on conn told = map (λ s. s.position) (lines_on conn told)

pub lines-more : (conn : ℕ) (told : List StandsLine) (s : StandsLine) → s.conn ≡ conn → lines_on conn (told ++ s ∷ []) ≡ lines_on conn told ++ s ∷ []
lines-more conn told s same =
    let is : (s.conn == conn) ≡ true = eq-eqb s.conn conn same in
    let one : lines_on conn (s ∷ []) ≡ s ∷ [] = rw is refl in
    filter-append (λ (s : StandsLine). s.conn == conn) told (s ∷ []) ∙ ap (λ l. lines_on conn told ++ l) one

pub lines-other : (conn : ℕ) (told : List StandsLine) (s : StandsLine) → s.conn ≢ conn → lines_on conn (told ++ s ∷ []) ≡ lines_on conn told
lines-other conn told s other =
    let isnt : (s.conn == conn) ≡ false = ne_eqb s.conn conn other in
    let none : lines_on conn (s ∷ []) ≡ [] = rw isnt refl in
    filter-append (λ (s : StandsLine). s.conn == conn) told (s ∷ []) ∙ ap (λ l. lines_on conn told ++ l) none ∙ append-nil (lines_on conn told)

-- lines that list calls, and one more
pub tell_more : (u : JudgeContext) (past : Trace) (before : List ℕ) (told : List StandsLine) (s : StandsLine) → AreNextPending u past before told
    → IsNextPending u past (before ++ map (λ s. s.position) told) s.seq s.position s.name (held_of s) → AreNextPending u past before (told ++ s ∷ [])
tell_more u past before [] s calls next =
    let P : List ℕ → Type 0 = λ before. IsNextPending u past before s.seq s.position s.name (held_of s) in (subst P (append-nil before) next, tt)
tell_more u past before (t ∷ told) s calls next =
    let P : List ℕ → Type 0 = λ before. IsNextPending u past before s.seq s.position s.name (held_of s) in
    (calls.0, tell_more u past (before ++ t.position ∷ []) told s calls.1 (subst P (sym (append_assoc before (t.position ∷ []) (map (λ s. s.position) told))) next))

pub tell_last : (u : JudgeContext) (past : Trace) (before : List ℕ) (told : List StandsLine) (s : StandsLine) → AreNextPending u past before (told ++ s ∷ [])
    → IsNextPending u past (before ++ map (λ s. s.position) told) s.seq s.position s.name (held_of s)
tell_last u past before [] s calls =
    let P : List ℕ → Type 0 = λ before. IsNextPending u past before s.seq s.position s.name (held_of s) in subst P (sym (append-nil before)) calls.0
tell_last u past before (t ∷ told) s calls =
    let P : List ℕ → Type 0 = λ before. IsNextPending u past before s.seq s.position s.name (held_of s) in
    subst P (append_assoc before (t.position ∷ []) (map (λ s. s.position) told)) (tell_last u past (before ++ t.position ∷ []) told s calls.1)

-- ---- the order of connections

first_of_two : (b c : Bool) → cond b Less (cond c Equal Greater) ≡ Less → b ≡ true
first_of_two true c e = refl
first_of_two false true e = absurd cc
first_of_two false false e = absurd cc

less_than : (a b : ℕ) → nat_cmp a b ≡ Less → a < b
less_than a b e = ltb-true a b (first_of_two (nat_lt a b) (a == b) e)

pub rise_above : (n : ℕ) (ns : List ℕ) → All (λ m. nat_cmp n m ≡ Less) ns → AllByRecursion (λ m. n < m) ns
rise_above n [] all = tt
rise_above n (m ∷ ns) all = (less_than n m (All-head (λ m. nat_cmp n m ≡ Less) m ns all), rise_above n ns (All-tail (λ m. nat_cmp n m ≡ Less) m ns all))

-- ---- one connection after another

abbrev pub NothingTold : Type 0
NothingTold = (T : Table) (past : Trace) (c : Checker) → HasNoObligation past → IsCheckerAfter T past c → KnowsListed T past [] c

conns-popped : (m : BTreeMap ℕ Checker) (current : Option ConnectionChecker) (rest : BTreeMap ℕ Checker) → IsPopped m current rest → unlisted_connections current rest ≡ keys m
conns-popped m None rest e = sym (ap (map (λ (e : ℕ × Checker). e.0)) e)
conns-popped m (Some turn) rest e = sym (ap (map (λ (e : ℕ × Checker). e.0)) e)

abbrev name_on : ℕ → AcceptedCall → CallName
name_on conn call = (conn, call.seq)

none_left : (h : History) (told : List StandsLine) (conn : ℕ)
    → length (lines_on conn told) ≡ length (pending_calls (trace_of conn h))
    → drop (length (lines_on conn told)) (calls_on h conn) ≡ []
none_left h told conn e = drop_all (length (lines_on conn told)) (calls_on h conn) (omega (arith, e, length-map (pending_calls (trace_of conn h)) (name_on conn)))

all_left : (h : History) (told : List StandsLine) (conn : ℕ) → lines_on conn told ≡ [] → drop (length (lines_on conn told)) (calls_on h conn) ≡ calls_on h conn
all_left h told conn e = ap (λ (l : List StandsLine). drop (length l) (calls_on h conn)) e

after_step : (T : Table) (limit : ℕ) (h : History) (told : List StandsLine) (turn : ConnectionChecker) (rest : BTreeMap ℕ Checker) (current' : Option ConnectionChecker) (rest' : BTreeMap ℕ Checker)
    → KnowsOthers T limit h told (Some turn) rest → IsAllListed h told (Some turn) → IsPopped rest current' rest'
    → (unlisted_calls h told (Some turn) rest ≡ unlisted_calls h told current' rest') × KnowsOthers T limit h told current' rest'
after_step T limit h told turn rest None rest' knows is popped =
    let none : keys rest ≡ [] = ap (map (λ (e : ℕ × Checker). e.0)) popped in
    (ap (λ (l : List CallName). l ++ calls_on_all h (keys rest)) (none_left h told turn.conn is) ∙ ap (calls_on_all h) none, tt)
after_step T limit h told turn rest (Some next) rest' knows is popped =
    let more : keys rest ≡ next.conn ∷ keys rest' = ap (map (λ (e : ℕ × Checker). e.0)) popped in
    let P : List (ℕ × Checker) → Type 0 = AllByRecursion (KnowsUnlisted T limit h told) in
    let untold = subst P popped knows.1 in (
      ap (λ (l : List CallName). l ++ calls_on_all h (keys rest)) (none_left h told turn.conn is) ∙ ap (calls_on_all h) more
          ∙ ap (λ (l : List CallName). l ++ calls_on_all h (keys rest')) (sym (all_left h told next.conn untold.0.1)),
      (untold.0.0, untold.1),
    )

-- a connection whose calls are all listed is done
pub row_step : (T : Table) (limit : ℕ) (h : History) (told : List StandsLine) (turn : ConnectionChecker) (rest : BTreeMap ℕ Checker) (current' : Option ConnectionChecker) (rest' : BTreeMap ℕ Checker)
    → IsListingOf T limit h told (Some turn) rest → IsAllListed h told (Some turn) → IsPopped rest current' rest' → IsListingOf T limit h told current' rest'
row_step T limit h told turn rest current' rest' row is popped =
    let conns : (row.done ++ turn.conn ∷ []) ++ unlisted_connections current' rest' ≡ row.done ++ turn.conn ∷ keys rest =
    append_assoc row.done (turn.conn ∷ []) (unlisted_connections current' rest') ∙ ap (λ (l : List ℕ). row.done ++ turn.conn ∷ l) (conns-popped rest current' rest' popped) in
    let RiseOf : List ℕ → Type 0 = AreAscending in
    let OthersOf : List ℕ → Type 0 = λ conns. (conn : ℕ) → (Contains conns conn → ⊥) → trace_of conn h ≡ [] in
    let after = after_step T limit h told turn rest current' rest' row.knows is popped in
    record {
      done = row.done ++ turn.conn ∷ [];
      rise = subst RiseOf (sym conns) row.rise;
      others = subst OthersOf (sym conns) row.others;
      calls = ap (calls_on_all h) conns ∙ row.calls ∙ ap (λ (l : List CallName). map call_name_of told ++ l) after.0;
      knows = after.1;
      tell = row.tell;
      prefixes = row.prefixes;
    }

-- ---- one more line

untold_apart : (T : Table) (limit : ℕ) (h : History) (told : List StandsLine) (s : StandsLine) (entries : List (ℕ × Checker))
    → AllByRecursion (λ m. s.conn < m) (map (λ e. e.0) entries) → AllByRecursion (KnowsUnlisted T limit h told) entries
    → AllByRecursion (KnowsUnlisted T limit h (told ++ s ∷ [])) entries
untold_apart T limit h told s [] above all = tt
untold_apart T limit h told s (e ∷ entries) above all =
    let apart : s.conn ≢ e.0 = λ same. omega (arith, same, above.0) in
    let P : List StandsLine → Type 0 = λ l. KnowsListed T (trace_of e.0 h) (map (λ s. s.position) l) e.1 in
    let Q : List StandsLine → Type 0 = λ l. length l ≤ length (pending_calls (trace_of e.0 h)) in
    let same = lines-other e.0 told s apart in (
      (record { knows = subst P (sym same) all.0.0.knows; judges = all.0.0.judges; fits = subst Q (sym same) all.0.0.fits }, same ∙ all.0.1),
      untold_apart T limit h told s entries above.1 all.1,
    )

rise_behind : (done : List ℕ) (n : ℕ) (ns : List ℕ) → AreAscending (done ++ n ∷ ns) → AllByRecursion (λ m. n < m) ns
rise_behind [] n ns rise = rise.0
rise_behind (d ∷ done) n ns rise = rise_behind done n ns rise.1

-- the suffix of a list from an index on starts with the element there
drop_from : {X Y : Type 0} (f : X → Y) (xs : List X) (n : ℕ) (x : X) → slice_get xs n ≡ Some x → drop n (map f xs) ≡ f x ∷ drop (n + 1) (map f xs)
drop_from f [] n x e = absurd (omega (arith, slice_get_within [] n x e))
drop_from f (y ∷ xs) zero x e = let same : y ≡ x = cc in ap (λ z. f z ∷ map f xs) same
drop_from f (y ∷ xs) (suc n) x e =
    let more : suc n + 1 ≡ suc (n + 1) = omega arith in
    drop_from f xs n x e ∙ ap (λ (k : ℕ). f x ∷ drop k (f y ∷ map f xs)) (sym more)

tell_also : (T : Table) (limit : ℕ) (h : History) (told : List StandsLine) (s : StandsLine)
    → IsNextPending (context_on T limit s.conn) (trace_of s.conn h) (positions_on s.conn told) s.seq s.position s.name (held_of s)
    → ((conn : ℕ) → AreNextPending (context_on T limit conn) (trace_of conn h) [] (lines_on conn told))
    → (conn : ℕ) → AreNextPending (context_on T limit conn) (trace_of conn h) [] (lines_on conn (told ++ s ∷ []))
tell_also T limit h told s next tell conn = elim (eqb_tells s.conn conn) [
  | inl same ↦
      let P : List StandsLine → Type 0 = AreNextPending (context_on T limit conn) (trace_of conn h) [] in
      let N : ℕ → Type 0 = λ conn. IsNextPending (context_on T limit conn) (trace_of conn h) (positions_on conn told) s.seq s.position s.name (held_of s) in
      subst P (sym (lines-more conn told s same.1)) (tell_more (context_on T limit conn) (trace_of conn h) [] (lines_on conn told) s (tell conn) (subst N same.1 next))
  | inr other ↦
      let P : List StandsLine → Type 0 = AreNextPending (context_on T limit conn) (trace_of conn h) [] in
      subst P (sym (lines-other conn told s other.1)) (tell conn)
]

abbrev pub Next : Table → ℕ → History → List StandsLine → StandsLine → Type 0
Next T limit h told s = IsNextPending (context_on T limit s.conn) (trace_of s.conn h) (positions_on s.conn told) s.seq s.position s.name (held_of s)

-- the call that a line lists is the first unlisted one
next_left : (T : Table) (limit : ℕ) (h : History) (told : List StandsLine) (s : StandsLine) → Next T limit h told s
    → drop (length (lines_on s.conn told)) (calls_on h s.conn) ≡ call_name_of s ∷ drop (length (lines_on s.conn told) + 1) (calls_on h s.conn)
next_left T limit h told s next =
    let long : length (positions_on s.conn told) ≡ length (lines_on s.conn told) = length-map (lines_on s.conn told) (λ (s : StandsLine). s.position) in
    let P : ℕ → Type 0 = λ n. slice_get (pending_calls (trace_of s.conn h)) n ≡ Some next.call in
    let name : AcceptedCall → CallName = λ call. (s.conn, call.seq) in
    let is : name next.call ≡ call_name_of s = λ i. (s.conn, next.number i) in
    drop_from name (pending_calls (trace_of s.conn h)) (length (lines_on s.conn told)) next.call (subst P long next.is_call)
    ∙ ap (λ (c : CallName). c ∷ drop (length (lines_on s.conn told) + 1) (calls_on h s.conn)) is

pub row_tell : (T : Table) (limit : ℕ) (h : History) (told : List StandsLine) (s : StandsLine) (c c' : Checker) (rest : BTreeMap ℕ Checker)
    → IsListingOf T limit h told (Some (record { conn = s.conn; checker = c })) rest → Next T limit h told s
    → KnowsListed T (trace_of s.conn h) (positions_on s.conn told ++ s.position ∷ []) c' → checker_context T c' ≡ context_on T limit s.conn
    → IsListingOf T limit h (told ++ s ∷ []) (Some (record { conn = s.conn; checker = c' })) rest
row_tell T limit h told s c c' rest row next knows judges =
    let more = lines-more s.conn told s refl in
    let K : List StandsLine → Type 0 = λ l. KnowsListed T (trace_of s.conn h) (map (λ s. s.position) l) c' in
    let M : List ℕ → Type 0 = λ l. KnowsListed T (trace_of s.conn h) l c' in
    let knows' = subst K (sym more) (subst M (sym (map-append (λ s. s.position) (lines_on s.conn told) (s ∷ []))) knows) in
    let first = next_left T limit h told s next in
    let long : length (lines_on s.conn (told ++ s ∷ [])) ≡ length (lines_on s.conn told) + 1 = ap length more ∙ length-append (lines_on s.conn told) (s ∷ []) in
    let fits : length (lines_on s.conn (told ++ s ∷ [])) ≤ length (pending_calls (trace_of s.conn h)) =
    omega (arith, long, ap length first, length-drop (length (lines_on s.conn told)) (calls_on h s.conn), length-map (pending_calls (trace_of s.conn h)) (name_on s.conn)) in
    let behind_it = drop (length (lines_on s.conn told) + 1) (calls_on h s.conn) in
    let rest_calls = calls_on_all h (keys rest) in
    let split : map call_name_of told ++ call_name_of s ∷ (behind_it ++ rest_calls) ≡ map call_name_of (told ++ s ∷ []) ++ (behind_it ++ rest_calls) =
    sym (append_assoc (map call_name_of told) (call_name_of s ∷ []) (behind_it ++ rest_calls))
    ∙ ap (λ (l : List CallName). l ++ (behind_it ++ rest_calls)) (sym (map-append call_name_of told (s ∷ []))) in
    let head : calls_on_all h (row.done ++ s.conn ∷ keys rest) ≡ map call_name_of told ++ call_name_of s ∷ (behind_it ++ rest_calls) =
    row.calls ∙ ap (λ (l : List CallName). map call_name_of told ++ (l ++ rest_calls)) first in
    record {
      done = row.done;
      rise = row.rise;
      others = row.others;
      calls = head ∙ split ∙ ap (λ (n : ℕ). map call_name_of (told ++ s ∷ []) ++ (drop n (calls_on h s.conn) ++ rest_calls)) (sym long);
      knows = (record { knows = knows'; judges = judges; fits = fits }, untold_apart T limit h told s rest.entries (rise_behind row.done s.conn (keys rest) row.rise) row.knows.1);
      tell = tell_also T limit h told s next row.tell;
      prefixes = row.prefixes;
    }

-- ---- what a row means

pub row_standing : (T : Table) (limit : ℕ) (h : History) (told : List StandsLine) (current : Option ConnectionChecker) (rest : BTreeMap ℕ Checker)
    → (row : IsListingOf T limit h told current rest) → AreAllPending h (calls_on_all h (row.done ++ unlisted_connections current rest))
row_standing T limit h told current rest row =
    all_standing h (row.done ++ unlisted_connections current rest) (λ conn. standing_numbered (context_on T limit conn) (trace_of conn h) (row.prefixes conn)) row.rise row.others

pub row_begins : (T : Table) (limit : ℕ) (h : History) (told : List StandsLine) (current : Option ConnectionChecker) (rest : BTreeMap ℕ Checker)
    → IsListingOf T limit h told current rest → MayBeListed T limit h told
row_begins T limit h told current rest row = record {
  calls = calls_on_all h (row.done ++ unlisted_connections current rest);
  all = row_standing T limit h told current rest row;
  front = (unlisted_calls h told current rest, row.calls);
  tell = row.tell;
}

-- without a connection no call is unlisted
pub whole_at_end : (T : Table) (limit : ℕ) (h : History) (told : List StandsLine) (rest : BTreeMap ℕ Checker)
    → IsListingOf T limit h told None rest → AreAllListed T limit h told
whole_at_end T limit h told rest row =
    let P : List CallName → Type 0 = AreAllPending h in
    record {
      begin = row_begins T limit h told None rest row;
      all = subst P (row.calls ∙ append-nil (map call_name_of told)) (row_standing T limit h told None rest row);
    }

same_left : {X : Type 0} (xs ys zs : List X) → xs ++ ys ≡ xs ++ zs → ys ≡ zs
same_left [] ys zs e = e
same_left (x ∷ xs) ys zs e = same_left xs ys zs (let t : xs ++ ys ≡ xs ++ zs = cc in t)

-- the unlisted calls, if lines can continue like this
pub left_is : (T : Table) (limit : ℕ) (h : History) (told more : List StandsLine) (current : Option ConnectionChecker) (rest : BTreeMap ℕ Checker)
    → IsListingOf T limit h told current rest → (begin : MayBeListed T limit h (told ++ more))
    → unlisted_calls h told current rest ≡ map call_name_of more ++ begin.front.0
left_is T limit h told more current rest row begin =
    let same = one_standing h (calls_on_all h (row.done ++ unlisted_connections current rest)) begin.calls (row_standing T limit h told current rest row) begin.all in
    same_left (map call_name_of told) (unlisted_calls h told current rest) (map call_name_of more ++ begin.front.0)
    (sym row.calls ∙ same ∙ begin.front.1 ∙ ap (λ (l : List CallName). l ++ begin.front.0)
    (map-append call_name_of told more) ∙ append_assoc (map call_name_of told) (map call_name_of more) begin.front.0)

dropped_conn : (conn : ℕ) (calls : List AcceptedCall) (k : ℕ) (d : CallName) (ds : List CallName) → drop k (map (λ call. (conn, call.seq)) calls) ≡ d ∷ ds → d.0 ≡ conn
dropped_conn conn [] k d ds e = let none : drop k [] ≡ [] = drop-nil k in absurd (let t : [] ≡ d ∷ ds = sym none ∙ e in cc)
dropped_conn conn (call ∷ calls) zero d ds e = let first : (conn, call.seq) ≡ d = cc in sym (ap (λ (c : CallName). c.0) first)
dropped_conn conn (call ∷ calls) (suc k) d ds e = dropped_conn conn calls k d ds e

first_here : (conn : ℕ) (xs ys others : List CallName) (c : CallName) → 0 < length xs → xs ++ ys ≡ c ∷ others
    → ((d : CallName) (ds : List CallName) → xs ≡ d ∷ ds → d.0 ≡ conn) → c.0 ≡ conn
first_here conn [] ys others c some e is = absurd (omega (arith, some))
first_here conn (x ∷ xs) ys others c some e is = let same : x ≡ c = cc in let P : CallName → Type 0 = λ c. c.0 ≡ conn in subst P same (is x xs refl)

some_left : (T : Table) (limit : ℕ) (h : History) (told : List StandsLine) (conn : ℕ) (checker : Checker) → KnowsLines T limit h told conn checker
    → (length (lines_on conn told) ≡ length (pending_calls (trace_of conn h)) → ⊥) → 0 < length (drop (length (lines_on conn told)) (calls_on h conn))
some_left T limit h told conn checker knows some = omega (
  arith,
  some,
  knows.fits,
  length-drop (length (lines_on conn told)) (calls_on h conn),
  length-map (pending_calls (trace_of conn h)) (name_on conn),
)

-- some call of the current connection is unlisted
left_here : (T : Table) (limit : ℕ) (h : History) (told : List StandsLine) (turn : ConnectionChecker) (rest : BTreeMap ℕ Checker)
    → IsListingOf T limit h told (Some turn) rest → (IsAllListed h told (Some turn) → ⊥) → (c : CallName) (others : List CallName)
    → unlisted_calls h told (Some turn) rest ≡ c ∷ others → c.0 ≡ turn.conn
left_here T limit h told turn rest row some c others e =
    first_here turn.conn (drop (length (lines_on turn.conn told)) (calls_on h turn.conn)) (calls_on_all h (keys rest)) others c
    (some_left T limit h told turn.conn turn.checker row.knows.0 some) e (dropped_conn turn.conn (pending_calls (trace_of turn.conn h)) (length (lines_on turn.conn told)))

-- a line that can follow is one of the current connection, and lists its next call
pub next_is : (T : Table) (limit : ℕ) (h : History) (told : List StandsLine) (s : StandsLine) (turn : ConnectionChecker) (rest : BTreeMap ℕ Checker)
    → IsListingOf T limit h told (Some turn) rest → (IsAllListed h told (Some turn) → ⊥) → MayBeListed T limit h (told ++ s ∷ []) → (s.conn ≡ turn.conn) × Next T limit h told s
next_is T limit h told s turn rest row some begin =
    let left = left_is T limit h told (s ∷ []) (Some turn) rest row begin in
    let here = left_here T limit h told turn rest row some (call_name_of s) begin.front.0 left in
    let P : List StandsLine → Type 0 = AreNextPending (context_on T limit s.conn) (trace_of s.conn h) [] in
    (here, tell_last (context_on T limit s.conn) (trace_of s.conn h) [] (lines_on s.conn told) s (subst P (lines-more s.conn told s refl) (begin.tell s.conn)))

pub none_is : (T : Table) (limit : ℕ) (h : History) (told : List StandsLine) (s : StandsLine) (rest : BTreeMap ℕ Checker)
    → IsListingOf T limit h told None rest → MayBeListed T limit h (told ++ s ∷ []) → ⊥
none_is T limit h told s rest row begin =
    let left : [] ≡ call_name_of s ∷ begin.front.0 = left_is T limit h told (s ∷ []) None rest row begin in cc

-- if a call of the current connection is unlisted, the lines don't list all
pub not_whole : (T : Table) (limit : ℕ) (h : History) (told : List StandsLine) (turn : ConnectionChecker) (rest : BTreeMap ℕ Checker)
    → IsListingOf T limit h told (Some turn) rest → (IsAllListed h told (Some turn) → ⊥) → AreAllListed T limit h told → ⊥
not_whole T limit h told turn rest row some whole =
    let same = one_standing h (calls_on_all h (row.done ++ unlisted_connections (Some turn) rest)) (map call_name_of told) (row_standing T limit h told (Some turn) rest row) whole.all in
    let long : length (map call_name_of told ++ unlisted_calls h told (Some turn) rest) ≡ length (map call_name_of told) = ap length (sym row.calls ∙ same) in
    omega (
      arith,
      long,
      length-append (map call_name_of told) (unlisted_calls h told (Some turn) rest),
      length-append (drop (length (lines_on turn.conn told)) (calls_on h turn.conn)) (calls_on_all h (keys rest)),
      some_left T limit h told turn.conn turn.checker row.knows.0 some,
    )

-- ---- the first connection

abbrev KnowsNothing : Table → ℕ → History → ℕ × Checker → Type 0
KnowsNothing T limit h e = KnowsOn T limit e.0 (trace_of e.0 h) (Some e.1)

untold_at_first : NothingTold → (T : Table) (limit : ℕ) (h : History) → ((conn : ℕ) → HasNoObligation (trace_of conn h))
    → (entries : List (ℕ × Checker)) → AllByRecursion (KnowsNothing T limit h) entries
    → AllByRecursion (KnowsUnlisted T limit h []) entries
untold_at_first told T limit h settled [] all = tt
untold_at_first told T limit h settled (e ∷ entries) all = (
  (record { knows = told T (trace_of e.0 h) e.1 (settled e.0) all.0.0; judges = all.0.1; fits = omega arith }, refl),
  untold_at_first told T limit h settled entries all.1,
)

to_recursion : {X : Type 0} (P : X → Type 0) (xs : List X) → All P xs → AllByRecursion P xs
to_recursion P [] all = tt
to_recursion P (x ∷ xs) all = (All-head P x xs all, to_recursion P xs (All-tail P x xs all))

less_by : (n : ℕ) (ns : List ℕ) → AllByRecursion (λ m. n < m) ns → AllByRecursion (λ m. nat_cmp n m ≡ Less) ns
less_by n [] all = tt
less_by n (m ∷ ns) all = (let is : nat_lt n m ≡ true = lt-ltb n m all.0 in rw is refl, less_by n ns all.1)

sorted_from_rise : (ns : List ℕ) → AreAscending ns → IsStrictlySortedBy nat_cmp ns
unfolding IsStrictlySortedBy
sorted_from_rise [] rise = tt
sorted_from_rise (n ∷ ns) rise = (less_by n ns rise.0, sorted_from_rise ns rise.1)

above_by : (n : ℕ) (ns : List ℕ) → AllByRecursion (λ m. nat_cmp n m ≡ Less) ns → AllByRecursion (λ m. n < m) ns
above_by n [] all = tt
above_by n (m ∷ ns) all = (less_than n m all.0, above_by n ns all.1)

pub rise_from_sorted : (ns : List ℕ) → IsStrictlySortedBy nat_cmp ns → AreAscending ns
unfolding IsStrictlySortedBy
rise_from_sorted [] up = tt
rise_from_sorted (n ∷ ns) up = (above_by n ns up.0, rise_from_sorted ns up.1)

found_each : (m : BTreeMap ℕ Checker) → AreAscending (keys m) → All (λ e. get nat_cmp m e.0 ≡ Some e.1) m.entries
found_each m rise = All-found nat_cmp_total m (sorted_from_rise (keys m) rise)

known_first : (T : Table) (limit : ℕ) (h : History) (m : BTreeMap ℕ Checker) → AreAscending (keys m) → KnowsEach T limit h m → AllByRecursion (KnowsNothing T limit h) m.entries
known_first T limit h m rise known =
    to_recursion (KnowsNothing T limit h) m.entries
    (All-weaker (λ e. get nat_cmp m e.0 ≡ Some e.1) (KnowsNothing T limit h)
    (λ e is. let P : Option Checker → Type 0 = KnowsOn T limit e.0 (trace_of e.0 h) in subst P is (known e.0)) m.entries (found_each m rise))

rest_first : (T : Table) (limit : ℕ) (h : History) (m : BTreeMap ℕ Checker) (current : Option ConnectionChecker) (rest : BTreeMap ℕ Checker) → IsPopped m current rest
    → AllByRecursion (KnowsUnlisted T limit h []) m.entries → KnowsOthers T limit h [] current rest
rest_first T limit h m None rest e all = tt
rest_first T limit h m (Some turn) rest e all =
    let P : List (ℕ × Checker) → Type 0 = AllByRecursion (KnowsUnlisted T limit h []) in
    let split = subst P e all in (split.0.0, split.1)

calls_first : (h : History) (current : Option ConnectionChecker) (rest : BTreeMap ℕ Checker) → calls_on_all h (unlisted_connections current rest) ≡ unlisted_calls h [] current rest
calls_first h None rest = refl
calls_first h (Some turn) rest = refl

not_behind : (T : Table) (limit conn : ℕ) (h : History) (m : BTreeMap ℕ Checker) (o : Option Checker)
    → get nat_cmp m conn ≡ o → KnowsOn T limit conn (trace_of conn h) o → (Contains (keys m) conn → ⊥)
    → trace_of conn h ≡ []
not_behind T limit conn h m None e known none = known
not_behind T limit conn h m (Some c) e known none =
    absurd (none ((btree_map_contains_key_iff nat_cmp_total exact_unsigned m conn).0 (subst IsSome (sym e) refl)))

pub row_first : NothingTold → (T : Table) (limit : ℕ) (h : History) → ((conn : ℕ) → HasNoObligation (trace_of conn h))
    → (m : BTreeMap ℕ Checker) (current : Option ConnectionChecker) (rest : BTreeMap ℕ Checker)
    → IsPopped m current rest → AreAscending (unlisted_connections current rest) → KnowsEach T limit h m → AreLegalPrefixes T limit h → IsListingOf T limit h [] current rest
row_first nothing T limit h settled m current rest popped rise known prefixes =
    let conns = conns-popped m current rest popped in
    let R : List ℕ → Type 0 = AreAscending in
    record {
      done = [];
      rise = rise;
      others = λ conn none. let O : List ℕ → Type 0 = λ l. Contains l conn → ⊥ in not_behind T limit conn h m (get nat_cmp m conn) refl (known conn) (subst O conns none);
      calls = calls_first h current rest;
      knows = rest_first T limit h m current rest popped (untold_at_first nothing T limit h settled m.entries (known_first T limit h m (subst R conns rise) known));
      tell = λ conn. tt;
      prefixes = prefixes;
    }

-- ---- in the form that the row's code needs

pub current_of : (T : Table) (limit : ℕ) (h : History) (told : List StandsLine) (current : Option ConnectionChecker)
    (rest : BTreeMap ℕ Checker) → KnowsOthers T limit h told current rest → KnowsCurrent T limit h told current
current_of T limit h told None rest knows = tt
current_of T limit h told (Some turn) rest knows = knows.0

pub step_on : (T : Table) (limit : ℕ) (h : History) (told : List StandsLine) (current : Option ConnectionChecker) (rest : BTreeMap ℕ Checker) (current' : Option ConnectionChecker) (rest' : BTreeMap ℕ Checker)
    → IsListingOf T limit h told current rest → IsAllListed h told current → IsPopped rest current' rest' → IsListingOf T limit h told current' rest'
step_on T limit h told None rest current' rest' row is popped = absurd is
step_on T limit h told (Some turn) rest current' rest' row is popped = row_step T limit h told turn rest current' rest' row is popped

pub shorter_on : (before after : ℕ) (current next : Option ConnectionChecker) → IsSome current → after + (if is_some next then 1 else 0) ≡ before
    → after + (if is_some next then 1 else 0) < before + (if is_some current then 1 else 0)
shorter_on before after None next some e = absurd cc
shorter_on before after (Some turn) next some e = omega (arith, e)

pub whole_iff : (T : Table) (limit : ℕ) (h : History) (told : List StandsLine) (current : Option ConnectionChecker) (rest : BTreeMap ℕ Checker)
    → IsListingOf T limit h told current rest → (IsAllListed h told current → ⊥) → IsTrue (is_none current) ↔ AreAllListed T limit h told
whole_iff T limit h told None rest row none = (λ _. whole_at_end T limit h told rest row, λ _. refl)
whole_iff T limit h told (Some turn) rest row none = (λ is. absurd cc, λ whole. absurd (not_whole T limit h told turn rest row none whole))

pub refused_at_end : (T : Table) (limit : ℕ) (h : History) (told : List StandsLine) (s : StandsLine) (current : Option ConnectionChecker) (rest : BTreeMap ℕ Checker)
    → current ≡ None → IsListingOf T limit h told current rest → MayBeListed T limit h (told ++ s ∷ []) → ⊥
refused_at_end T limit h told s None rest e row begin = none_is T limit h told s rest row begin
refused_at_end T limit h told s (Some turn) rest e row begin = absurd cc

abbrev pub TellsAs : Table → ℕ → History → List StandsLine → StandsLine → ℕ → Checker → List ℕ → Option (ℕ × ℕ) → Type 0
TellsAs T limit h told s conn c name held = IsNextPending (checker_context T c) (trace_of conn h) (positions_on conn told) s.seq s.position name held

next_as : (T : Table) (limit : ℕ) (h : History) (told : List StandsLine) (s : StandsLine) (conn : ℕ) (c : Checker) (name : List ℕ) (held : Option (ℕ × ℕ))
    → s.conn ≡ conn → name ≡ s.name → held ≡ held_of s → checker_context T c ≡ context_on T limit conn → TellsAs T limit h told s conn c name held → Next T limit h told s
next_as T limit h told s conn c name held e en eh judges next =
    let U : JudgeContext → Type 0 = λ u. IsNextPending u (trace_of conn h) (positions_on conn told) s.seq s.position name held in
    let N : List ℕ → Type 0 = λ name. IsNextPending (context_on T limit conn) (trace_of conn h) (positions_on conn told) s.seq s.position name held in
    let H : Option (ℕ × ℕ) → Type 0 = λ held. IsNextPending (context_on T limit conn) (trace_of conn h) (positions_on conn told) s.seq s.position s.name held in
    let C : ℕ → Type 0 = λ conn. IsNextPending (context_on T limit conn) (trace_of conn h) (positions_on conn told) s.seq s.position s.name (held_of s) in
    subst C (sym e) (subst H eh (subst N en (subst U judges next)))

as_next : (T : Table) (limit : ℕ) (h : History) (told : List StandsLine) (s : StandsLine) (conn : ℕ) (c : Checker) (name : List ℕ) (held : Option (ℕ × ℕ))
    → s.conn ≡ conn → name ≡ s.name → held ≡ held_of s → checker_context T c ≡ context_on T limit conn → Next T limit h told s → TellsAs T limit h told s conn c name held
as_next T limit h told s conn c name held e en eh judges next =
    let U : JudgeContext → Type 0 = λ u. IsNextPending u (trace_of conn h) (positions_on conn told) s.seq s.position name held in
    let N : List ℕ → Type 0 = λ name. IsNextPending (context_on T limit conn) (trace_of conn h) (positions_on conn told) s.seq s.position name held in
    let H : Option (ℕ × ℕ) → Type 0 = λ held. IsNextPending (context_on T limit conn) (trace_of conn h) (positions_on conn told) s.seq s.position s.name held in
    let C : ℕ → Type 0 = λ conn. IsNextPending (context_on T limit conn) (trace_of conn h) (positions_on conn told) s.seq s.position s.name (held_of s) in
    subst U (sym judges) (subst N (sym en) (subst H (sym eh) (subst C e next)))

-- the line lists the next call of the current connection
pub row_told : (T : Table) (limit : ℕ) (h : History) (told : List StandsLine) (s : StandsLine) (conn : ℕ)
    (c c' : Checker) (rest : BTreeMap ℕ Checker) (name : List ℕ) (held : Option (ℕ × ℕ))
    → conn ≡ s.conn → name ≡ s.name → held ≡ held_of s → IsListingOf T limit h told (Some (record { conn = conn; checker = c })) rest
    → TellsAs T limit h told s conn c name held → KnowsListed T (trace_of conn h) (positions_on conn told ++ s.position ∷ []) c' → checker_context T c' ≡ checker_context T c
    → IsListingOf T limit h (told ++ s ∷ []) (Some (record { conn = conn; checker = c' })) rest
row_told T limit h told s conn c c' rest name held e en eh row next knows same =
    let told_next = next_as T limit h told s conn c name held (sym e) en eh row.knows.0.judges next in
    let R : ℕ → Type 0 = λ conn. IsListingOf T limit h told (Some (record { conn = conn; checker = c })) rest in
    let K : ℕ → Type 0 = λ conn. KnowsListed T (trace_of conn h) (positions_on conn told ++ s.position ∷ []) c' in
    let J : ℕ → Type 0 = λ conn. checker_context T c' ≡ context_on T limit conn in
    let A : ℕ → Type 0 = λ conn. IsListingOf T limit h (told ++ s ∷ []) (Some (record { conn = conn; checker = c' })) rest in
    subst A (sym e) (row_tell T limit h told s c c' rest (subst R e row) told_next (subst K e knows) (subst J e (same ∙ row.knows.0.judges)))

-- a line that can follow lists the next call of the current connection
pub row_next : (T : Table) (limit : ℕ) (h : History) (told : List StandsLine) (s : StandsLine) (conn : ℕ)
    (c : Checker) (rest : BTreeMap ℕ Checker) (name : List ℕ) (held : Option (ℕ × ℕ))
    → name ≡ s.name → held ≡ held_of s → IsListingOf T limit h told (Some (record { conn = conn; checker = c })) rest
    → (IsAllListed h told (Some (record { conn = conn; checker = c })) → ⊥)
    → MayBeListed T limit h (told ++ s ∷ []) → (s.conn ≡ conn) × TellsAs T limit h told s conn c name held
row_next T limit h told s conn c rest name held en eh row some begin =
    let next = next_is T limit h told s (record { conn = conn; checker = c }) rest row some begin in
    (next.0, as_next T limit h told s conn c name held next.0 en eh row.knows.0.judges next.1)

pub none_by : (b : Bool) (o : Option ConnectionChecker) → not b ≡ is_some o → b ≡ is_none o
none_by true None e = refl
none_by true (Some turn) e = absurd cc
none_by false None e = absurd cc
none_by false (Some turn) e = refl
