-- What the checkers of connections know after one more event.
use Rattle.std.proofs.Common.{◌≡◌, ◌≢◌, ℕ, zero, suc, ◌<◌, ◌≤◌, length, set, slice_get, arith, ◌==◌, Bool, true, false, cond, List, [], ◌∷◌}
use Rattle.std.proofs.Common.{◌++◌, reverse, refl, ap, sym, subst, ◌∙◌, Option, Some, None, IfNone, inl, inr}
use Rattle.std.proofs.Common.{if◌then◌else◌}
use Rattle.std.specs.BTreeMap.{BTreeMap, Updates, get, is_at}
use Rattle.std.specs.List.{cons_option, filter_map}
use Rattle.std.specs.Map.{lookup}
use Rattle.std.specs.Ordering.{is_eq, nat_cmp}
use Rattle.std.specs.declared.cmp.Ordering.TheVariants.{Less, Greater}
use Rattle.std.proofs.lemmas.Bool.{ne_eqb, eq-eqb}
use Rattle.std.proofs.lemmas.Bool.Decides.{eqb_tells}
use Rattle.std.proofs.lemmas.List.{append-nil, length-reverse, reverse-append}
use Rattle.std.proofs.lemmas.List.Elements.{filter_map-append}
use Rattle.std.proofs.lemmas.Option.{slice_get_past}
use Rattle.mrpc_table.specs.declared.table.Table.{Table}
use Rattle.call_history.specs.Trace.{Trace}
use Rattle.call_history.specs.Legal.{History, trace_of, events_of}
use Rattle.call_history.specs.declared.happening.ConnectionEvent.{ConnectionEvent}
use Rattle.call_history.specs.declared.happening.Happening.{Happening}
use Rattle.audit_rules.specs.CheckerState.{IsCheckerAfter, checker_context}
use Rattle.audit_rules.specs.declared.checker.Checker.{Checker}
use Rattle.audit_check.specs.Checking.{context_on}
use Rattle.audit_check.specs.States.{KnowsAll, KnowsEach, KnowsOn, checker_in, checker_of}
use Rattle.audit_check.specs.declared.connections.Checkers.{Checkers}

-- ---- the trace

on-more : (conn : ℕ) (h : History) (x : ConnectionEvent) → events_of conn (h ++ x ∷ []) ≡ events_of conn h ++ events_of conn (x ∷ [])
on-more conn h x = filter_map-append (λ (x : ConnectionEvent). if x.conn == conn then Some x.what else None) h (x ∷ [])

on-same : (conn : ℕ) (x : ConnectionEvent) → x.conn ≡ conn → events_of conn (x ∷ []) ≡ x.what ∷ []
on-same conn x same = let is : (x.conn == conn) ≡ true = eq-eqb x.conn conn same in rw is refl

on-other : (conn : ℕ) (x : ConnectionEvent) → x.conn ≢ conn → events_of conn (x ∷ []) ≡ []
on-other conn x other = let isnt : (x.conn == conn) ≡ false = ne_eqb x.conn conn other in rw isnt refl

-- on the connection of the next event, that comes last
pub behind-more : (conn : ℕ) (h : History) (x : ConnectionEvent) → x.conn ≡ conn → trace_of conn (h ++ x ∷ []) ≡ x.what ∷ trace_of conn h
behind-more conn h x same =
    ap reverse (on-more conn h x) ∙ ap (λ (l : List Happening). reverse (events_of conn h ++ l)) (on-same conn x same) ∙ reverse-append (events_of conn h) (x.what ∷ [])

-- on another connection nothing changes
pub behind-other : (conn : ℕ) (h : History) (x : ConnectionEvent) → x.conn ≢ conn → trace_of conn (h ++ x ∷ []) ≡ trace_of conn h
behind-other conn h x other =
    ap reverse (on-more conn h x) ∙ ap (λ (l : List Happening). reverse (events_of conn h ++ l)) (on-other conn x other) ∙ ap reverse (append-nil (events_of conn h))

-- the trace of later events comes before the trace of earlier ones
pub behind-joined : (conn : ℕ) (h k : History) → trace_of conn (h ++ k) ≡ trace_of conn k ++ trace_of conn h
behind-joined conn h k =
    ap reverse (filter_map-append (λ (x : ConnectionEvent). if x.conn == conn then Some x.what else None) h k) ∙ reverse-append (events_of conn h) (events_of conn k)

-- ---- maps

neither : (b : Bool) → is_eq (cond b Less Greater) ≡ false
neither true = refl
neither false = refl

-- a key isn't found at another
pub apart_at : (a b : ℕ) → a ≢ b → is_eq (nat_cmp a b) ≡ false
apart_at a b other = let isnt : (a == b) ≡ false = ne_eqb a b other in rw isnt (neither _)

-- one more event on one connection; what is known of the others is unchanged
pub known_more : (T : Table) (limit : ℕ) (h : History) (next : ConnectionEvent) (before after : ℕ → Option Checker) (c : Checker)
    → ((conn : ℕ) → KnowsOn T limit conn (trace_of conn h) (before conn)) → after next.conn ≡ Some c
    → ((conn : ℕ) → next.conn ≢ conn → after conn ≡ before conn) → IsCheckerAfter T (next.what ∷ trace_of next.conn h) c
    → checker_context T c ≡ context_on T limit next.conn → (conn : ℕ) → KnowsOn T limit conn (trace_of conn (h ++ next ∷ [])) (after conn)
known_more T limit h next before after c known is others knows judges conn = elim (eqb_tells next.conn conn) [
  | inl same ↦
      let here : after conn ≡ Some c = subst (λ (q : ℕ). after q ≡ Some c) same.1 is in
      let past : trace_of conn (h ++ next ∷ []) ≡ next.what ∷ trace_of conn h = behind-more conn h next same.1 in
      let knows_it : IsCheckerAfter T (next.what ∷ trace_of conn h) c = subst (λ (q : ℕ). IsCheckerAfter T (next.what ∷ trace_of q h) c) same.1 knows in
      let judges_it : checker_context T c ≡ context_on T limit conn = subst (λ (q : ℕ). checker_context T c ≡ context_on T limit q) same.1 judges in
      subst (KnowsOn T limit conn (trace_of conn (h ++ next ∷ []))) (sym here)
      (subst (λ (past : Trace). KnowsOn T limit conn past (Some c)) (sym past) (knows_it, judges_it))
  | inr other ↦
      let there : after conn ≡ before conn = others conn other.1 in
      let past : trace_of conn (h ++ next ∷ []) ≡ trace_of conn h = behind-other conn h next other.1 in
      subst (KnowsOn T limit conn (trace_of conn (h ++ next ∷ []))) (sym there)
      (subst (λ (past : Trace). KnowsOn T limit conn past (before conn)) (sym past) (known conn))
]

-- ---- the slots of connections

set_same : (cs : List Checker) (at : ℕ) (c : Checker) → at < length cs → slice_get (set cs at c) at ≡ Some c
set_same [] at c within = absurd (omega (arith, within))
set_same (d ∷ cs) zero c within = refl
set_same (d ∷ cs) (suc at) c within = set_same cs at c (omega (arith, within))

set_other : (cs : List Checker) (at : ℕ) (c : Checker) (conn : ℕ) → at ≢ conn → slice_get (set cs at c) conn ≡ slice_get cs conn
set_other [] at c conn other = refl
set_other (d ∷ cs) zero c zero other = absurd (other refl)
set_other (d ∷ cs) zero c (suc conn) other = refl
set_other (d ∷ cs) (suc at) c zero other = refl
set_other (d ∷ cs) (suc at) c (suc conn) other = set_other cs at c conn (λ e. other (ap suc e))

-- in a slot
pub near_more : (T : Table) (limit : ℕ) (h : History) (next : ConnectionEvent) (near : List Checker) (far : BTreeMap ℕ Checker) (c : Checker)
    → ((conn : ℕ) → KnowsOn T limit conn (trace_of conn h) (checker_in (slice_get near conn) (get nat_cmp far conn))) → next.conn < length near
    → IsCheckerAfter T (next.what ∷ trace_of next.conn h) c → checker_context T c ≡ context_on T limit next.conn
    → (conn : ℕ) → KnowsOn T limit conn (trace_of conn (h ++ next ∷ [])) (checker_in (slice_get (set near next.conn c) conn) (get nat_cmp far conn))
near_more T limit h next near far c known within knows judges =
    known_more T limit h next (λ conn. checker_in (slice_get near conn) (get nat_cmp far conn))
    (λ conn. checker_in (slice_get (set near next.conn c) conn) (get nat_cmp far conn)) c known
    (ap (λ (o : Option Checker). checker_in o (get nat_cmp far next.conn)) (set_same near next.conn c within))
    (λ conn other. ap (λ (o : Option Checker). checker_in o (get nat_cmp far conn)) (set_other near next.conn c conn other)) knows judges

-- in the map
pub far_more : (T : Table) (limit : ℕ) (h : History) (next : ConnectionEvent) (near : List Checker) (m n : BTreeMap ℕ Checker) (c : Checker)
    → ((conn : ℕ) → KnowsOn T limit conn (trace_of conn h) (checker_in (slice_get near conn) (get nat_cmp m conn))) → length near ≤ next.conn
    → Updates nat_cmp m n next.conn (Some c) → IsCheckerAfter T (next.what ∷ trace_of next.conn h) c → checker_context T c ≡ context_on T limit next.conn
    → (conn : ℕ) → KnowsOn T limit conn (trace_of conn (h ++ next ∷ [])) (checker_in (slice_get near conn) (get nat_cmp n conn))
far_more T limit h next near m n c known far updates knows judges =
    known_more T limit h next (λ conn. checker_in (slice_get near conn) (get nat_cmp m conn))
    (λ conn. checker_in (slice_get near conn) (get nat_cmp n conn)) c known
    (ap (λ (o : Option Checker). checker_in o (get nat_cmp n next.conn)) (slice_get_past near next.conn far) ∙ updates.1)
    (λ conn other. ap (λ (o : Option Checker). checker_in (slice_get near conn) o) (updates.2 conn (apart_at next.conn conn other))) knows judges

-- the checker in a slot, and without a slot
pub in_place : (near : List Checker) (far : Option Checker) (conn : ℕ) (c : Checker) → slice_get near conn ≡ Some c → Some c ≡ checker_in (slice_get near conn) far
in_place near far conn c e = sym (ap (λ (o : Option Checker). checker_in o far) e)

pub in_map : (near : List Checker) (far : Option Checker) (conn : ℕ) → length near ≤ conn → checker_in (slice_get near conn) far ≡ far
in_map near far conn past = ap (λ (o : Option Checker). checker_in o far) (slice_get_past near conn past)

push_here : (cs : List Checker) (c : Checker) (at : ℕ) → length cs ≡ at → slice_get (cs ++ c ∷ []) at ≡ Some c
push_here [] c zero e = refl
push_here [] c (suc at) e = absurd (omega (arith, e))
push_here (d ∷ cs) c zero e = absurd (omega (arith, e))
push_here (d ∷ cs) c (suc at) e = push_here cs c at (omega (arith, e))

push_other : (cs : List Checker) (c : Checker) (at : ℕ) → length cs ≢ at → slice_get (cs ++ c ∷ []) at ≡ slice_get cs at
push_other [] c zero other = absurd (other (omega arith))
push_other [] c (suc at) other = refl
push_other (d ∷ cs) c zero other = refl
push_other (d ∷ cs) c (suc at) other = push_other cs c at (λ e. other (omega (arith, e)))

-- while the map is empty
no_far : (m : BTreeMap ℕ Checker) → m.entries ≡ [] → (conn : ℕ) → get nat_cmp m conn ≡ None
no_far m e conn = ap (λ (es : List (ℕ × Checker)). lookup (is_at (nat_cmp conn)) es) e

keeps : (o far : Option Checker) → far ≡ None → checker_in o far ≡ o
keeps None far e = e
keeps (Some c) far e = refl

pub all_open : (T : Table) (limit : ℕ) (near : List Checker) (m : BTreeMap ℕ Checker) → m.entries ≡ []
    → ((conn : ℕ) → KnowsOn T limit conn [] (slice_get near conn)) → (conn : ℕ) → KnowsOn T limit conn [] (checker_in (slice_get near conn) (get nat_cmp m conn))
all_open T limit near m e known conn = subst (KnowsOn T limit conn []) (sym (keeps (slice_get near conn) (get nat_cmp m conn) (no_far m e conn))) (known conn)

-- one more slot, on whose connection there is no event
pub open_more : (T : Table) (limit : ℕ) (near : List Checker) (c : Checker) → ((conn : ℕ) → KnowsOn T limit conn [] (slice_get near conn))
    → IsCheckerAfter T [] c → checker_context T c ≡ context_on T limit (length near) → (conn : ℕ) → KnowsOn T limit conn [] (slice_get (near ++ c ∷ []) conn)
open_more T limit near c known knows judges conn = elim (eqb_tells (length near) conn) [
  | inl same ↦
      subst (KnowsOn T limit conn []) (sym (push_here near c conn same.1)) (knows, subst (λ (q : ℕ). checker_context T c ≡ context_on T limit q) same.1 judges)
  | inr other ↦ subst (KnowsOn T limit conn []) (sym (push_other near c conn other.1)) (known conn)
]

-- the checker of the last slot moves to the map
pub moved : (near left : List Checker) (m n : BTreeMap ℕ Checker) (c : Checker) → near ≡ left ++ c ∷ [] → Updates nat_cmp m n (length left) (Some c)
    → (conn : ℕ) → checker_in (slice_get left conn) (get nat_cmp n conn) ≡ checker_in (slice_get near conn) (get nat_cmp m conn)
moved near left m n c e updates conn = elim (eqb_tells (length left) conn) [
  | inl same ↦
      let found : get nat_cmp n conn ≡ Some c = subst (λ (q : ℕ). get nat_cmp n q ≡ Some c) same.1 updates.1 in
      in_map left (get nat_cmp n conn) conn (omega (arith, same.1)) ∙ found
      ∙ in_place near (get nat_cmp m conn) conn c (ap (λ (cs : List Checker). slice_get cs conn) e ∙ push_here left c conn same.1)
  | inr other ↦
      ap (λ (o : Option Checker). checker_in (slice_get left conn) o) (updates.2 conn (apart_at (length left) conn other.1))
      ∙ ap (λ (o : Option Checker). checker_in o (get nat_cmp m conn)) (sym (ap (λ (cs : List Checker). slice_get cs conn) e ∙ push_other left c conn other.1))
]

pub each_known : (T : Table) (h : History) (c : Checkers) (m : BTreeMap ℕ Checker) → ((conn : ℕ) → get nat_cmp m conn ≡ checker_of c conn) → KnowsAll T h c → KnowsEach T c.limit h m
each_known T h c m same known conn = subst (KnowsOn T c.limit conn (trace_of conn h)) (sym (same conn)) (known.knows conn)

-- ---- one connection

one_more : {Y : Type 0} (o : Option Y) (ys : List Y) → length (cons_option o ys) ≤ suc (length ys)
one_more None ys = omega arith
one_more (Some y) ys = omega arith

filter_map-short : {X Y : Type 0} (f : X → Option Y) (xs : List X) → length (filter_map f xs) ≤ length xs
filter_map-short f [] = omega arith
filter_map-short f (x ∷ xs) = omega (arith, one_more (f x) (filter_map f xs), filter_map-short f xs)

pub none_map : {A : Type 0} {P Q : Type 0} (o : Option A) → (P → Q) → IfNone o P → IfNone o Q
none_map None f p = f p
none_map (Some x) f p = tt

pub carry : {A B : Type 0} (P : A → B → Type 0) {a a' : A} {b b' : B} → a ≡ a' → b ≡ b' → P a b → P a' b'
carry P {a = a} {b' = b'} e f p = subst (λ a. P a b') e (subst (P a) f p)

pub nothing_behind : (T : Table) (limit conn : ℕ) (past : Trace) (o : Option Checker) → o ≡ None → KnowsOn T limit conn past o → past ≡ []
nothing_behind T limit conn past None e k = k
nothing_behind T limit conn past (Some c) e k = absurd cc

pub known_by : (T : Table) (limit conn : ℕ) (past : Trace) (o : Option Checker) (c : Checker) → Some c ≡ o
    → KnowsOn T limit conn past o → IsCheckerAfter T past c × (checker_context T c ≡ context_on T limit conn)
known_by T limit conn past o c e k = let P : Option Checker → Type 0 = λ o. KnowsOn T limit conn past o in subst P (sym e) k

pub behind-short : (conn : ℕ) (h : History) → length (trace_of conn h) ≤ length h
behind-short conn h = omega (arith, length-reverse (events_of conn h), filter_map-short (λ (x : ConnectionEvent). if x.conn == conn then Some x.what else None) h)
