-- The kept state stays exact after one more line or declaration.
use Rattle.std.proofs.Common.{◌≡◌, ◌≢◌, ℕ, zero, suc, ◌+◌, ◌-◌, ◌*◌, ◌<◌, ◌≤◌, ◌==◌, Bool, true, false, not, List, []}
use Rattle.std.proofs.Common.{◌∷◌, ◌++◌, length, map, All, Option, Some, None, refl, sym, ap, subst, ◌∙◌, arith, inl}
use Rattle.std.proofs.Common.{inr, filter, set, take, drop, insert}
use Rattle.std.specs.Prelude.{nat_lt, nat_le, slice_get, unwrap_or, option_map, if◌then◌else◌}
use Rattle.std.proofs.lemmas.Bool.{cases_Bool, ltb-false, leb-true, leb-false, eqb-true, eqb-false, eq-eqb, false≢true, or_parts, cond-true, cond-false, cond_both}
use Rattle.std.proofs.lemmas.List.{length-map, length-set, map-append, length-append}
use Rattle.std.proofs.lemmas.List.{take-map, drop-map, length-take, length-drop}
use Rattle.std.proofs.lemmas.List.Sums.{sum_by_push}
use Rattle.std.proofs.Math.Nat.{mul-suc}
use Rattle.std.proofs.lemmas.Option.{get_or_from_slice_get, slice_get_within}
use Rattle.engine_core.specs.Chains.{Entry, Chain, is_named, new_entry, upgraded, changed}
use Rattle.engine_core.specs.Policies.{is_same_kind}
use Rattle.engine_core.specs.declared.op.Op.{Op}
use Rattle.engine_core.specs.declared.op.Op.TheVariants as op
use Rattle.engine_core.specs.declared.policy.Policy.{Policy}
use Rattle.engine_core.specs.declared.policy.Policy.TheVariants as policy
use Rattle.policy_declarations.specs.Declarations.{Declared, with_declaration}
use Rattle.policy_declarations.specs.Declarations as declarations
use Rattle.policy_declarations.specs.declared.declaration.Declaration.{Declaration}
use Rattle.policy_declarations.specs.declared.declaration.Declaration.TheVariants as item
use Rattle.policy_declarations.specs.declared.declaration.NamedPolicy.{NamedPolicy}
use Rattle.script_grammar.specs.declared.fault.ScriptReason.{ScriptReason}
use Rattle.replay_script.specs.Changes.{link_of, outline, AreValidLines, IsValidBody, state_of_body, CanChange, IsAdded, CanApply, IsBodyAfter, state_after}
use Rattle.replay_script.specs.declared.change.Change.{Change}
use Rattle.replay_script.specs.declared.change.Change.TheVariants as change
use Rattle.replay_script.specs.Deciding.{has_name, is_other, has_other, unless, op_reason, some_op_reason, known_line_reason, reason_after}
use Rattle.replay_script.specs.Keeping.{closed_connection, IsClosedConnection, connection_at, links_at, with_open, with_chain, links_kept, entry_kind_in, entry_kind_at, IsEmptyBody, CanAdd, connections_after, submissions_after}
use Rattle.replay_script.specs.EntryKinds.{entry_kind_of, is_link, without}
use Rattle.replay_script.specs.Lines.{conn_of, is_conn, is_submit, op_in, heap_of, new_chain, chain_after_op, chain_after_lines, submissions, IsAllowedAfter}
use Rattle.replay_script.specs.declared.body.Body.{Body}
use Rattle.replay_script.specs.declared.chain.EntryOutline.{EntryOutline}
use Rattle.replay_script.specs.declared.connections.ConnectionState.{ConnectionState}
use Rattle.replay_script.specs.declared.script.ScriptLine.{ScriptLine}
use Rattle.replay_script.specs.declared.script.ScriptLine.TheVariants as line
use Rattle.replay_script.proofs.Growing.{same_chain, all_more, lines_push, chain_push}
use Rattle.replay_script.proofs.LineVerdicts.{Verdict, line_verdict}

-- ---- chains

kind_same : (p q : Policy) → is_same_kind p q ≡ true → entry_kind_of p ≡ entry_kind_of q
kind_same (policy.Access a) (policy.Access b) e = refl
kind_same (policy.Access a) (policy.Rate b) e = absurd (false≢true e)
kind_same (policy.Access a) (policy.Quota u more most) e = absurd (false≢true e)
kind_same (policy.Access a) policy.Count e = absurd (false≢true e)
kind_same (policy.Access a) (policy.Redact b) e = absurd (false≢true e)
kind_same (policy.Rate a) (policy.Access b) e = absurd (false≢true e)
kind_same (policy.Rate a) (policy.Rate b) e = refl
kind_same (policy.Rate a) (policy.Quota u more most) e = absurd (false≢true e)
kind_same (policy.Rate a) policy.Count e = absurd (false≢true e)
kind_same (policy.Rate a) (policy.Redact b) e = absurd (false≢true e)
kind_same (policy.Quota t per cap) (policy.Access b) e = absurd (false≢true e)
kind_same (policy.Quota t per cap) (policy.Rate b) e = absurd (false≢true e)
kind_same (policy.Quota t per cap) (policy.Quota u more most) e = ap (λ n. entry_kind_of (policy.Quota n 0 0)) (eqb-true t u e)
kind_same (policy.Quota t per cap) policy.Count e = absurd (false≢true e)
kind_same (policy.Quota t per cap) (policy.Redact b) e = absurd (false≢true e)
kind_same policy.Count (policy.Access b) e = absurd (false≢true e)
kind_same policy.Count (policy.Rate b) e = absurd (false≢true e)
kind_same policy.Count (policy.Quota u more most) e = absurd (false≢true e)
kind_same policy.Count policy.Count e = refl
kind_same policy.Count (policy.Redact b) e = absurd (false≢true e)
kind_same (policy.Redact a) (policy.Access b) e = absurd (false≢true e)
kind_same (policy.Redact a) (policy.Rate b) e = absurd (false≢true e)
kind_same (policy.Redact a) (policy.Quota u more most) e = absurd (false≢true e)
kind_same (policy.Redact a) policy.Count e = absurd (false≢true e)
kind_same (policy.Redact a) (policy.Redact b) e = refl

outline_insert : (es : List Entry) (i : ℕ) (e : Entry) → outline (take i es ++ e ∷ drop i es) ≡ insert (outline es) i (link_of e)
outline_insert es i e = simp (map-append, take-map, drop-map)

outline_without : (name : List ℕ) (es : List Entry) → outline (filter (λ e. not (is_named name e)) es) ≡ without name (outline es)
outline_without name [] = refl
outline_without name (e ∷ es) = elim (cases_Bool (is_named name e)) [
  | inl is ↦ rw is (outline_without name es)
  | inr isnt ↦ rw isnt (ap (λ (ls : List EntryOutline). link_of e ∷ ls) (outline_without name es))
]

link_upgraded : (name : List ℕ) (p : Policy) (e : Entry) → is_other name p e ≡ false → link_of (if is_named name e then upgraded e p else e) ≡ link_of e
link_upgraded name p e isnt = elim (cases_Bool (is_named name e)) [
  | inl is ↦
      let same : is_same_kind e.policy p ≡ true = kind_is (is_same_kind e.policy p) (rw is at isnt) in
      rw is (ap (λ k. record { name = e.name; kind = k }) (sym (kind_same e.policy p same)))
  | inr other ↦ rw other refl
] where
  kind_is : (b : Bool) → not b ≡ false → b ≡ true
  kind_is true h = refl
  kind_is false h = sym h

outline_upgraded : (name : List ℕ) (p : Policy) (es : List Entry) → has_other name p es ≡ false → outline (map (λ e. if is_named name e then upgraded e p else e) es) ≡ outline es
outline_upgraded name p [] none = refl
outline_upgraded name p (e ∷ es) none =
    let parts = or_parts (is_other name p e) (has_other name p es) none in
    ap (λ (l : EntryOutline). l ∷ outline (map (λ e. if is_named name e then upgraded e p else e) es)) (link_upgraded name p e parts.0)
    ∙ ap (λ (ls : List EntryOutline). link_of e ∷ ls) (outline_upgraded name p es parts.1)

-- ---- lists of connections

set_same : (xs : List ConnectionState) (i : ℕ) (x : ConnectionState) → i < length xs → unwrap_or (slice_get (set xs i x) i) closed_connection ≡ x
set_same [] i x within = absurd (omega (arith, within))
set_same (y ∷ ys) zero x within = refl
set_same (y ∷ ys) (suc i) x within = set_same ys i x (omega (arith, within))

set_other : (xs : List ConnectionState) (i j : ℕ) (x : ConnectionState) → i ≢ j → unwrap_or (slice_get (set xs i x) j) closed_connection ≡ unwrap_or (slice_get xs j) closed_connection
set_other [] i j x other = refl
set_other (y ∷ ys) zero zero x other = absurd (other refl)
set_other (y ∷ ys) zero (suc j) x other = refl
set_other (y ∷ ys) (suc i) zero x other = refl
set_other (y ∷ ys) (suc i) (suc j) x other = set_other ys i j x (λ e. other (ap suc e))

pub at_same : (xs : List ConnectionState) (c : ℕ) (x : ConnectionState) → length xs ≡ 16 → 1 ≤ c → c ≤ 16 → connection_at (set xs (c - 1) x) c ≡ x
at_same xs c x long from to = set_same xs (c - 1) x (omega (arith, long, from, to))

pub at_other : (xs : List ConnectionState) (c other : ℕ) (x : ConnectionState) → 1 ≤ c → 1 ≤ other → c ≢ other → connection_at (set xs (c - 1) x) other ≡ connection_at xs other
at_other xs c other x from also apart = set_other xs (c - 1) (other - 1) x (λ e. apart (omega (arith, from, also, e)))

-- ---- heaps

pub heap_push : (lines : List ScriptLine) (l : ScriptLine) (c : ℕ) → is_conn l ≡ false → heap_of (lines ++ l ∷ []) c ≡ heap_of lines c
heap_push [] (line.Store k place value) c used = refl
heap_push [] (line.Race k load place value) c used = refl
heap_push [] (line.Submit k method number addr) c used = refl
heap_push [] (line.Attach k at name policy) c used = refl
heap_push [] (line.Detach k name) c used = refl
heap_push [] (line.Upgrade k name policy) c used = refl
heap_push [] (line.Moment k ms) c used = refl
heap_push [] (line.Turn k at) c used = refl
heap_push [] (line.Send k) c used = refl
heap_push [] (line.Drain k) c used = refl
heap_push [] (line.Conn n words) c used = absurd (false≢true (sym used))
heap_push (line.Conn n words ∷ lines) l c used = ap (λ (o : Option ℕ). if n == c then Some words else o) (heap_push lines l c used)
heap_push (line.Store k place value ∷ lines) l c used = heap_push lines l c used
heap_push (line.Race k load place value ∷ lines) l c used = heap_push lines l c used
heap_push (line.Submit k method number addr ∷ lines) l c used = heap_push lines l c used
heap_push (line.Attach k at name policy ∷ lines) l c used = heap_push lines l c used
heap_push (line.Detach k name ∷ lines) l c used = heap_push lines l c used
heap_push (line.Upgrade k name policy ∷ lines) l c used = heap_push lines l c used
heap_push (line.Moment k ms ∷ lines) l c used = heap_push lines l c used
heap_push (line.Turn k at ∷ lines) l c used = heap_push lines l c used
heap_push (line.Send k ∷ lines) l c used = heap_push lines l c used
heap_push (line.Drain k ∷ lines) l c used = heap_push lines l c used

pub heap_opened : (lines : List ScriptLine) (n words : ℕ) → heap_of lines n ≡ None → heap_of (lines ++ line.Conn n words ∷ []) n ≡ Some words
heap_opened [] n words none = ap (λ (b : Bool). if b then Some words else None) (eq-eqb n n refl)
heap_opened (line.Conn m w ∷ lines) n words none = elim (cases_Bool (m == n)) [
  | inl same ↦ (let bad : Some w ≡ None = rw same at none in absurd cc)
  | inr other ↦ rw other (heap_opened lines n words (rw other at none))
]
heap_opened (line.Store k place value ∷ lines) n words none = heap_opened lines n words none
heap_opened (line.Race k load place value ∷ lines) n words none = heap_opened lines n words none
heap_opened (line.Submit k method number addr ∷ lines) n words none = heap_opened lines n words none
heap_opened (line.Attach k at name policy ∷ lines) n words none = heap_opened lines n words none
heap_opened (line.Detach k name ∷ lines) n words none = heap_opened lines n words none
heap_opened (line.Upgrade k name policy ∷ lines) n words none = heap_opened lines n words none
heap_opened (line.Moment k ms ∷ lines) n words none = heap_opened lines n words none
heap_opened (line.Turn k at ∷ lines) n words none = heap_opened lines n words none
heap_opened (line.Send k ∷ lines) n words none = heap_opened lines n words none
heap_opened (line.Drain k ∷ lines) n words none = heap_opened lines n words none

pub heap_elsewhere : (lines : List ScriptLine) (n words c : ℕ) → (n == c) ≡ false → heap_of (lines ++ line.Conn n words ∷ []) c ≡ heap_of lines c
heap_elsewhere [] n words c other = ap (λ (b : Bool). if b then Some words else None) other
heap_elsewhere (line.Conn m w ∷ lines) n words c other = ap (λ (o : Option ℕ). if m == c then Some w else o) (heap_elsewhere lines n words c other)
heap_elsewhere (line.Store k place value ∷ lines) n words c other = heap_elsewhere lines n words c other
heap_elsewhere (line.Race k load place value ∷ lines) n words c other = heap_elsewhere lines n words c other
heap_elsewhere (line.Submit k method number addr ∷ lines) n words c other = heap_elsewhere lines n words c other
heap_elsewhere (line.Attach k at name policy ∷ lines) n words c other = heap_elsewhere lines n words c other
heap_elsewhere (line.Detach k name ∷ lines) n words c other = heap_elsewhere lines n words c other
heap_elsewhere (line.Upgrade k name policy ∷ lines) n words c other = heap_elsewhere lines n words c other
heap_elsewhere (line.Moment k ms ∷ lines) n words c other = heap_elsewhere lines n words c other
heap_elsewhere (line.Turn k at ∷ lines) n words c other = heap_elsewhere lines n words c other
heap_elsewhere (line.Send k ∷ lines) n words c other = heap_elsewhere lines n words c other
heap_elsewhere (line.Drain k ∷ lines) n words c other = heap_elsewhere lines n words c other

-- ---- preconditions of a legal line

module _ (loads : ℕ) (ps : List NamedPolicy) (before : List ScriptLine) where
  free_by : (l : ScriptLine) (x : Option ScriptReason) → IsAllowedAfter loads ps before l → Verdict loads ps before l x → x ≡ None
  free_by l None allowed verdict = refl
  free_by l (Some r) allowed verdict = absurd (allowed.free r verdict.stands)

  pub free : (l : ScriptLine) → IsAllowedAfter loads ps before l → reason_after loads ps before l ≡ None
  free l allowed = free_by l (reason_after loads ps before l) allowed (line_verdict loads ps before l)

  abbrev entries : ℕ → List Entry
  entries conn = (chain_after_lines ps before conn).entries

  closed_conn : (n words : ℕ) (heap : Option ℕ) (es : List Entry) (count : ℕ) → known_line_reason loads ps heap es count (line.Conn n words) ≡ None → heap ≡ None
  closed_conn n words None es count e = refl
  closed_conn n words (Some w) es count e = absurd cc

  pub conn_closed : (n words : ℕ) → IsAllowedAfter loads ps before (line.Conn n words) → heap_of before n ≡ None
  conn_closed n words allowed = closed_conn n words (heap_of before n) (entries n) (submissions before) (free (line.Conn n words) allowed)

  unless_none : (b : Bool) (r : ScriptReason) → unless b r ≡ None → b ≡ true
  unless_none true r e = refl
  unless_none false r e = absurd cc

  submit_by : (conn method number addr : ℕ) (heap : Option ℕ) (es : List Entry) (count : ℕ)
      → known_line_reason loads ps heap es count (line.Submit conn method number addr) ≡ None
      → (count + 1) * loads ≤ 16777216
  submit_by conn method number addr None es count e = absurd cc
  submit_by conn method number addr (Some w) es count e = leb-true ((count + 1) * loads) 16777216 (unless_none (nat_le ((count + 1) * loads) 16777216) _ e)

  pub submit_room : (conn method number addr : ℕ) → IsAllowedAfter loads ps before (line.Submit conn method number addr) → (submissions before + 1) * loads ≤ 16777216
  submit_room conn method number addr allowed =
      submit_by conn method number addr (heap_of before conn) (entries conn) (submissions before) (free (line.Submit conn method number addr) allowed)

  -- an operation
  op_by : (l : ScriptLine) (o : Op) (heap : Option ℕ) (count : ℕ) (es : List Entry)
      → known_line_reason loads ps heap es count l ≡ None
      → ((w : ℕ) → known_line_reason loads ps (Some w) es count l ≡ op_reason o es)
      → ((es : List Entry) → known_line_reason loads ps None es count l ≡ None → ⊥) → op_reason o es ≡ None
  op_by l o None count es e some none = absurd (none es e)
  op_by l o (Some w) count es e some none = sym (some w) ∙ e

  pub record CanAttach (es : List Entry) (at : ℕ) : Type 0 where
    pub place : at ≤ length es
    pub room : length es < 8

  attach_parts : (es : List Entry) (at : ℕ) (name label : List ℕ) (p : Policy) → op_reason (op.Attach at name label p) es ≡ None → CanAttach es at
  attach_parts es at name label p e = elim (cases_Bool (has_name name es)) [
    | inl has ↦ (let bad : Some _ ≡ None = rw has at e in absurd cc)
    | inr unnamed ↦ elim (cases_Bool (nat_lt (length es) at)) [
      | inl past ↦ (let bad : Some _ ≡ None = rw (unnamed, past) at e in absurd cc)
      | inr within ↦ elim (cases_Bool (nat_le 8 (length es))) [
        | inl many ↦ (let bad : Some _ ≡ None = rw (unnamed, within, many) at e in absurd cc)
        | inr few ↦ record { place = ltb-false (length es) at within; room = leb-false 8 (length es) few }
      ]
    ]
  ]

  other_parts : (es : List Entry) (name label : List ℕ) (p : Policy) → op_reason (op.Upgrade name label p) es ≡ None → has_other name p es ≡ false
  other_parts es name label p e = elim (cases_Bool (has_name name es)) [
    | inl has ↦ elim (cases_Bool (has_other name p es)) [
      | inl other ↦ (let bad : Some _ ≡ None = rw (has, other) at e in absurd cc)
      | inr none ↦ none
    ]
    | inr unnamed ↦ (let bad : Some _ ≡ None = rw unnamed at e in absurd cc)
  ]

-- ---- lengths

insert_long : (ls : List EntryOutline) (i : ℕ) (l : EntryOutline) → length (insert ls i l) ≤ length ls + 1
insert_long ls i l =
    (let sum = length-append (take i ls) (l ∷ drop i ls) in let front = length-take i ls in let back = length-drop i ls in omega (arith, sum, front, back))

filter_long : (name : List ℕ) (ls : List EntryOutline) → length (without name ls) ≤ length ls
filter_long name [] = omega arith
filter_long name (l ∷ ls) =
    let rest = filter_long name ls in
    cond_both (not (is_link name l)) (l ∷ without name ls) (without name ls) (λ (ks : List EntryOutline). length ks
    ≤ length (l ∷ ls)) (λ is. omega (arith, rest)) (λ isnt. omega (arith, rest))

add-zero : (n : ℕ) → n + 0 ≡ n
add-zero n = omega arith

le_times : (n m : ℕ) → 1 ≤ m → n ≤ n * m
le_times n (suc m) some = (let e = mul-suc n m in omega (arith, e))
le_times n zero some = absurd (omega (arith, some))

-- ---- no lines

fresh_at : (xs : List ConnectionState) (i : ℕ) → ((k : ℕ) (x : ConnectionState) → slice_get xs k ≡ Some x → x ≡ closed_connection) → unwrap_or (slice_get xs i) closed_connection ≡ closed_connection
fresh_at [] i each = refl
fresh_at (x ∷ xs) zero each = each 0 x refl
fresh_at (x ∷ xs) (suc i) each = fresh_at xs i (λ k y e. each (suc k) y e)

all_get : (xs : List ConnectionState) → All IsClosedConnection xs → (k : ℕ) (x : ConnectionState) → slice_get xs k ≡ Some x → x ≡ closed_connection
all_get xs all k x e = subst IsClosedConnection (get_or_from_slice_get xs k x closed_connection e) (all k closed_connection (slice_get_within xs k x e))

pub kept_fresh : (loads : ℕ) (b : Body) → IsEmptyBody b → IsValidBody loads declarations.no_declarations b
kept_fresh loads b f =
    let each : (conn : ℕ) → connection_at b.connections conn ≡ closed_connection = λ conn. fresh_at b.connections (conn - 1) (all_get b.connections f.connections) in
    record {
      whole = f.whole;
      connections = λ conn from to. record {
        few = (let none = ap (λ (c : ConnectionState). length c.links) (each conn) in omega (arith, none));
        words = ap (λ (c : ConnectionState). c.words) (each conn) ∙ sym (ap (λ (ls : List ScriptLine). heap_of ls conn) f.lines);
        links = ap (λ (c : ConnectionState). c.links) (each conn) ∙ sym (ap (λ (ls : List ScriptLine). outline (chain_after_lines [] ls conn).entries) f.lines);
      };
      submissions = f.submissions ∙ sym (ap submissions f.lines);
      work = rw (f.submissions) (omega arith);
      lines = subst (AreValidLines 0) (sym f.lines) tt;
    }

-- ---- one more declaration

pub kept_item : (loads : ℕ) (d : Declared) (b : Body) (i : Declaration) → IsValidBody loads d b → IsValidBody loads (with_declaration d i) b
kept_item loads d b (item.Tenant t) k = record { whole = k.whole; connections = k.connections; submissions = k.submissions; work = k.work; lines = k.lines }
kept_item loads d b (item.Policy p) k = record {
  whole = k.whole;
  connections = λ conn from to.
      let c = k.connections conn from to in
      record { few = c.few; words = c.words; links = c.links ∙ sym (ap (λ (x : Chain). outline x.entries) (same_chain d.policies (p ∷ []) b.lines conn k.lines)) };
  submissions = k.submissions;
  work = k.work;
  lines = all_more d.policies (p ∷ []) b.lines k.lines;
}

-- ---- one more line

module _ (loads : ℕ) (d : Declared) (b : Body) (k : IsValidBody loads d b) where
  abbrev policies : List NamedPolicy
  policies = d.policies

  abbrev chain_at : ℕ → Chain
  chain_at conn = chain_after_lines policies b.lines conn

  -- the chain after one more line
  abbrev chain_then : ScriptLine → ℕ → Chain
  chain_then l conn = chain_after_lines policies (b.lines ++ l ∷ []) conn

  same_then : (l : ScriptLine) (conn : ℕ) → (conn_of l == conn) ≡ false → chain_then l conn ≡ chain_at conn
  same_then l conn other = chain_push policies new_chain b.lines l conn ∙ cond-false (conn_of l == conn) (chain_after_op (op_in policies l) (chain_at conn)) (chain_at conn) other

  done_then : (l : ScriptLine) (conn : ℕ) → conn_of l ≡ conn → chain_then l conn ≡ chain_after_op (op_in policies l) (chain_at conn)
  done_then l conn same = chain_push policies new_chain b.lines l conn ∙ cond-true (conn_of l == conn)
      (chain_after_op (op_in policies l) (chain_at conn)) (chain_at conn) (eq-eqb (conn_of l) conn same)

  -- what is kept of a connection after a line
  pub record IsThen (l : ScriptLine) (connections : List ConnectionState) (conn : ℕ) : Type 0 where
    pub few : length (links_at connections conn) ≤ 8
    pub words : (connection_at connections conn).words ≡ heap_of (b.lines ++ l ∷ []) conn
    pub links : links_at connections conn ≡ outline (chain_then l conn).entries

  -- a line that leaves the connection unchanged
  untouched : (l : ScriptLine) (connections : List ConnectionState) (conn : ℕ) → 1 ≤ conn → conn ≤ 16 → connection_at connections conn ≡ connection_at b.connections conn
      → heap_of (b.lines ++ l ∷ []) conn ≡ heap_of b.lines conn → outline (chain_then l conn).entries ≡ outline (chain_at conn).entries → IsThen l connections conn
  untouched l connections conn from to same heap chain =
      let c = k.connections conn from to in
      record {
        few = (let at_most = c.few in let long = ap (λ (x : ConnectionState). length x.links) same in omega (arith, at_most, long));
        words = ap (λ (x : ConnectionState). x.words) same ∙ c.words ∙ sym heap;
        links = ap (λ (x : ConnectionState). x.links) same ∙ c.links ∙ sym chain;
      }

  -- a line without an operation leaves each chain unchanged
  no_step : (l : ScriptLine) (conn : ℕ) → op_in policies l ≡ None → chain_then l conn ≡ chain_at conn
  no_step l conn none = elim (cases_Bool (conn_of l == conn)) [
    | inl same ↦ done_then l conn (eqb-true (conn_of l) conn same) ∙ ap (λ (o : Option Op). chain_after_op o (chain_at conn)) none
    | inr other ↦ same_then l conn other
  ]

  plain_then : (l : ScriptLine) → is_conn l ≡ false → op_in policies l ≡ None → (conn : ℕ) → 1 ≤ conn → conn ≤ 16 → IsThen l b.connections conn
  plain_then l used none conn from to = untouched l b.connections conn from to refl (heap_push b.lines l conn used) (ap (λ (c : Chain). outline c.entries) (no_step l conn none))

  conn_then : (n words : ℕ) → 1 ≤ n → n ≤ 16 → heap_of b.lines n ≡ None → (conn : ℕ) → 1 ≤ conn → conn ≤ 16
      → IsThen (line.Conn n words) (with_open b.connections n words) conn
  conn_then n words from to none conn low high = elim (cases_Bool (n == conn)) [
    | inl same ↦ subst (IsThen (line.Conn n words) (with_open b.connections n words)) (eqb-true n conn same) here
    | inr other ↦ untouched (line.Conn n words) (with_open b.connections n words) conn low high
        (at_other b.connections n conn _ from low (eqb-false n conn other))
        (heap_elsewhere b.lines n words conn other)
        (ap (λ (c : Chain). outline c.entries) (no_step (line.Conn n words) conn refl))
  ] where
    here : IsThen (line.Conn n words) (with_open b.connections n words) n
    here =
        let c = k.connections n from to in
        let is = at_same b.connections n (record { words = Some words; links = links_at b.connections n }) k.whole from to in
        record {
          few = (let at_most = c.few in let long = ap (λ (x : ConnectionState). length x.links) is in omega (arith, at_most, long));
          words = ap (λ (x : ConnectionState). x.words) is ∙ sym (heap_opened b.lines n words none);
          links = ap (λ (x : ConnectionState). x.links) is ∙ c.links ∙ sym (ap (λ (c : Chain). outline c.entries) (no_step (line.Conn n words) n refl));
        }

  -- an operator's line that changes the chain of its connection
  relinked_then : (l : ScriptLine) (n : ℕ) (links : List EntryOutline) → is_conn l ≡ false → conn_of l ≡ n → 1 ≤ n → n ≤ 16
      → length links ≤ 8 → links ≡ outline (chain_after_op (op_in policies l) (chain_at n)).entries
      → (conn : ℕ) → 1 ≤ conn → conn ≤ 16 → IsThen l (with_chain b.connections n links) conn
  relinked_then l n links used of_n from to few is conn low high = elim (cases_Bool (n == conn)) [
    | inl same ↦ subst (IsThen l (with_chain b.connections n links)) (eqb-true n conn same) here
    | inr other ↦ untouched l (with_chain b.connections n links) conn low high (at_other b.connections n conn _ from low (eqb-false n conn other)) (heap_push b.lines l conn used)
        (ap (λ (c : Chain). outline c.entries) (same_then l conn (ap (λ (m : ℕ). m == conn) of_n ∙ other)))
  ] where
    here : IsThen l (with_chain b.connections n links) n
    here =
        let c = k.connections n from to in
        let at = at_same b.connections n (record { words = (connection_at b.connections n).words; links = links }) k.whole from to in
        record {
          few = (let long = ap (λ (x : ConnectionState). length x.links) at in omega (arith, few, long));
          words = ap (λ (x : ConnectionState). x.words) at ∙ c.words ∙ sym (heap_push b.lines l n used);
          links = ap (λ (x : ConnectionState). x.links) at ∙ is ∙ sym (ap (λ (c : Chain). outline c.entries) (done_then l n of_n));
        }

  -- ---- each line

  places : {X : Type 0} (xs : List X) (i : ℕ) → i < length xs → (x : X) × (slice_get xs i ≡ Some x)
  places [] i within = absurd (omega (arith, within))
  places (x ∷ xs) zero within = (x, refl)
  places (x ∷ xs) (suc i) within = places xs i (omega (arith, within))

  attach_free : (conn at place : ℕ) (name : List ℕ) → IsAllowedAfter loads policies b.lines (line.Attach conn at name place) → (q : NamedPolicy) → slice_get policies place ≡ Some q
      → op_reason (op.Attach at name q.name q.policy) (entries loads policies b.lines conn) ≡ None
  attach_free conn at place name allowed q there =
      let l : ScriptLine = line.Attach conn at name place in
      let es = entries loads policies b.lines conn in
      op_by loads policies b.lines l (op.Attach at name q.name q.policy) (heap_of b.lines conn) (submissions b.lines) es (free loads policies b.lines l allowed)
      (λ w. ap (λ (o : Option NamedPolicy). some_op_reason (option_map (λ r. op.Attach at name r.name r.policy) o) es) there)
      (λ fs e. (let bad : ◌≡◌ {A = Option ScriptReason} (Some _) None = e in cc))

  upgrade_free : (conn place : ℕ) (name : List ℕ) → IsAllowedAfter loads policies b.lines (line.Upgrade conn name place) → (q : NamedPolicy) → slice_get policies place ≡ Some q
      → op_reason (op.Upgrade name q.name q.policy) (entries loads policies b.lines conn) ≡ None
  upgrade_free conn place name allowed q there =
      let l : ScriptLine = line.Upgrade conn name place in
      let es = entries loads policies b.lines conn in
      op_by loads policies b.lines l (op.Upgrade name q.name q.policy) (heap_of b.lines conn) (submissions b.lines) es (free loads policies b.lines l allowed)
      (λ w. ap (λ (o : Option NamedPolicy). some_op_reason (option_map (λ r. op.Upgrade name r.name r.policy) o) es) there)
      (λ fs e. (let bad : ◌≡◌ {A = Option ScriptReason} (Some _) None = e in cc))

  pub can_attach : (conn at place : ℕ) (name : List ℕ)
      → IsAllowedAfter loads policies b.lines (line.Attach conn at name place)
      → CanAttach loads policies b.lines (entries loads policies b.lines conn) at
  can_attach conn at place name allowed =
      let q = places policies place allowed.ranges.1 in
      attach_parts loads policies b.lines (entries loads policies b.lines conn) at name q.0.name q.0.policy (attach_free conn at place name allowed q.0 q.1)

  kept_long : (conn : ℕ) → 1 ≤ conn → conn ≤ 16 → length (links_kept b conn) ≡ length (entries loads policies b.lines conn)
  kept_long conn from to = ap (length {A = EntryOutline}) (k.connections conn from to).links ∙ length-map (entries loads policies b.lines conn) link_of

  attach_then : (n at place : ℕ) (name : List ℕ) → IsAllowedAfter loads policies b.lines (line.Attach n at name place) → (conn : ℕ) → 1 ≤ conn → conn ≤ 16
      → IsThen (line.Attach n at name place) (connections_after d (line.Attach n at name place) b.connections) conn
  attach_then n at place name allowed conn low high =
      let q = places policies place allowed.ranges.1 in
      let es = entries loads policies b.lines n in
      let can = can_attach n at place name allowed in
      let c = k.connections n allowed.conn_from allowed.conn_to in
      let new : EntryOutline = record { name = name; kind = entry_kind_at d place } in
      let is_new : new ≡ link_of (new_entry name ((chain_at n).attached + 1) q.0.policy) = ap (λ (o : Option NamedPolicy). record { name = name; kind = entry_kind_in o }) q.1 in
      let inserted : insert (links_at b.connections n) at new ≡ outline (changed (op.Attach at name q.0.name q.0.policy) (chain_at n)).entries =
      ap (λ (ls : List EntryOutline). insert ls at new) c.links ∙ ap (insert (outline es) at) is_new ∙ sym (outline_insert es at (new_entry name ((chain_at n).attached + 1) q.0.policy)) in
      let stepped : outline (changed (op.Attach at name q.0.name q.0.policy) (chain_at n)).entries ≡ outline (chain_after_op (op_in policies (line.Attach n at name place)) (chain_at n)).entries =
      sym (ap (λ (o : Option NamedPolicy). outline (chain_after_op (option_map (λ r. op.Attach at name r.name r.policy) o) (chain_at n)).entries) q.1) in
      relinked_then (line.Attach n at name place) n (insert (links_at b.connections n) at new) refl refl allowed.conn_from allowed.conn_to
      (let room = can.room in let long = kept_long n allowed.conn_from allowed.conn_to in let more = insert_long (links_at b.connections n) at new in omega (arith, room, long, more))
      (inserted ∙ stepped) conn low high

  detach_then : (n : ℕ) (name : List ℕ) → 1 ≤ n → n ≤ 16 → (conn : ℕ) → 1 ≤ conn → conn ≤ 16
      → IsThen (line.Detach n name) (connections_after d (line.Detach n name) b.connections) conn
  detach_then n name from to conn low high =
      let c = k.connections n from to in
      relinked_then (line.Detach n name) n (without name (links_at b.connections n)) refl refl from to
      (let at_most = c.few in let less = filter_long name (links_at b.connections n) in omega (arith, at_most, less))
      (ap (without name) c.links ∙ sym (outline_without name (chain_at n).entries)) conn low high

  upgrade_then : (n place : ℕ) (name : List ℕ) → IsAllowedAfter loads policies b.lines (line.Upgrade n name place)
      → (conn : ℕ) → 1 ≤ conn → conn ≤ 16 → IsThen (line.Upgrade n name place) b.connections conn
  upgrade_then n place name allowed conn low high = elim (cases_Bool (n == conn)) [
    | inl same ↦ untouched (line.Upgrade n name place) b.connections conn low high refl (heap_push b.lines (line.Upgrade n name place) conn refl) (here (eqb-true n conn same))
    | inr other ↦ untouched (line.Upgrade n name place) b.connections conn low high refl
        (heap_push b.lines (line.Upgrade n name place) conn refl)
        (ap (λ (c : Chain). outline c.entries) (same_then (line.Upgrade n name place) conn other))
  ] where
    here : n ≡ conn → outline (chain_then (line.Upgrade n name place) conn).entries ≡ outline (chain_at conn).entries
    here same =
        let q = places policies place allowed.ranges.1 in
        let none = other_parts loads policies b.lines (entries loads policies b.lines n) name q.0.name q.0.policy (upgrade_free n place name allowed q.0 q.1) in
        ap (λ (c : Chain). outline c.entries) (done_then (line.Upgrade n name place) conn same)
        ∙ ap (λ (o : Option NamedPolicy). outline (chain_after_op (option_map (λ r. op.Upgrade name r.name r.policy) o) (chain_at conn)).entries) q.1
        ∙ outline_upgraded name q.0.policy (chain_at conn).entries (subst (λ (m : ℕ). has_other name q.0.policy (chain_at m).entries ≡ false) same none)

  line_then : (l : ScriptLine) → IsAllowedAfter loads policies b.lines l → (conn : ℕ) → 1 ≤ conn → conn ≤ 16 → IsThen l (connections_after d l b.connections) conn
  line_then (line.Conn n words) allowed = conn_then n words allowed.conn_from allowed.conn_to (conn_closed loads policies b.lines n words allowed)
  line_then (line.Store n place value) allowed = plain_then (line.Store n place value) refl refl
  line_then (line.Race n load place value) allowed = plain_then (line.Race n load place value) refl refl
  line_then (line.Submit n method number addr) allowed = plain_then (line.Submit n method number addr) refl refl
  line_then (line.Attach n at name place) allowed = attach_then n at place name allowed
  line_then (line.Detach n name) allowed = detach_then n name allowed.conn_from allowed.conn_to
  line_then (line.Upgrade n name place) allowed = upgrade_then n place name allowed
  line_then (line.Moment n ms) allowed = plain_then (line.Moment n ms) refl refl
  line_then (line.Turn n at) allowed = plain_then (line.Turn n at) refl refl
  line_then (line.Send n) allowed = plain_then (line.Send n) refl refl
  line_then (line.Drain n) allowed = plain_then (line.Drain n) refl refl

  whole_then : (l : ScriptLine) → length (connections_after d l b.connections) ≡ 16
  whole_then (line.Conn n words) = length-set b.connections (n - 1) _ ∙ k.whole
  whole_then (line.Attach n at name place) = length-set b.connections (n - 1) _ ∙ k.whole
  whole_then (line.Detach n name) = length-set b.connections (n - 1) _ ∙ k.whole
  whole_then (line.Store n place value) = k.whole
  whole_then (line.Race n load place value) = k.whole
  whole_then (line.Submit n method number addr) = k.whole
  whole_then (line.Upgrade n name place) = k.whole
  whole_then (line.Moment n ms) = k.whole
  whole_then (line.Turn n at) = k.whole
  whole_then (line.Send n) = k.whole
  whole_then (line.Drain n) = k.whole

  count_push : (ls : List ScriptLine) (l : ScriptLine) → submissions (ls ++ l ∷ []) ≡ submissions_after l (submissions ls)
  count_push ls (line.Conn n words) = sum_by_push (λ l. if is_submit l then 1 else 0) ls (line.Conn n words) ∙ add-zero (submissions ls)
  count_push ls (line.Store n place value) = sum_by_push (λ l. if is_submit l then 1 else 0) ls (line.Store n place value) ∙ add-zero (submissions ls)
  count_push ls (line.Race n load place value) = sum_by_push (λ l. if is_submit l then 1 else 0) ls (line.Race n load place value) ∙ add-zero (submissions ls)
  count_push ls (line.Submit n method number addr) = sum_by_push (λ l. if is_submit l then 1 else 0) ls (line.Submit n method number addr)
  count_push ls (line.Attach n at name place) = sum_by_push (λ l. if is_submit l then 1 else 0) ls (line.Attach n at name place) ∙ add-zero (submissions ls)
  count_push ls (line.Detach n name) = sum_by_push (λ l. if is_submit l then 1 else 0) ls (line.Detach n name) ∙ add-zero (submissions ls)
  count_push ls (line.Upgrade n name place) = sum_by_push (λ l. if is_submit l then 1 else 0) ls (line.Upgrade n name place) ∙ add-zero (submissions ls)
  count_push ls (line.Moment n ms) = sum_by_push (λ l. if is_submit l then 1 else 0) ls (line.Moment n ms) ∙ add-zero (submissions ls)
  count_push ls (line.Turn n at) = sum_by_push (λ l. if is_submit l then 1 else 0) ls (line.Turn n at) ∙ add-zero (submissions ls)
  count_push ls (line.Send n) = sum_by_push (λ l. if is_submit l then 1 else 0) ls (line.Send n) ∙ add-zero (submissions ls)
  count_push ls (line.Drain n) = sum_by_push (λ l. if is_submit l then 1 else 0) ls (line.Drain n) ∙ add-zero (submissions ls)

  work_then : (l : ScriptLine) → IsAllowedAfter loads policies b.lines l → submissions_after l b.submissions * loads ≤ 16777216
  work_then (line.Conn n words) allowed = k.work
  work_then (line.Store n place value) allowed = k.work
  work_then (line.Race n load place value) allowed = k.work
  work_then (line.Submit n method number addr) allowed = rw k.submissions (submit_room loads policies b.lines n method number addr allowed)
  work_then (line.Attach n at name place) allowed = k.work
  work_then (line.Detach n name) allowed = k.work
  work_then (line.Upgrade n name place) allowed = k.work
  work_then (line.Moment n ms) allowed = k.work
  work_then (line.Turn n at) allowed = k.work
  work_then (line.Send n) allowed = k.work
  work_then (line.Drain n) allowed = k.work

  pub kept_line : (l : ScriptLine) (next : Body) → IsAllowedAfter loads policies b.lines l → IsAdded d l b next → IsValidBody loads d next
  kept_line l next allowed added = record {
    whole = ap (length {A = ConnectionState}) added.connections ∙ whole_then l;
    connections = λ conn from to.
        let behind = line_then l allowed conn from to in
        let at : connection_at next.connections conn ≡ connection_at (connections_after d l b.connections) conn = ap (λ (xs : List ConnectionState). connection_at xs conn) added.connections in
        record {
          few = (let at_most = behind.few in let long = ap (λ (x : ConnectionState). length x.links) at in omega (arith, at_most, long));
          words = ap (λ (x : ConnectionState). x.words) at ∙ behind.words ∙ sym (ap (λ (ls : List ScriptLine). heap_of ls conn) added.lines);
          links = ap (λ (x : ConnectionState). x.links) at ∙ behind.links ∙ sym (ap (λ (ls : List ScriptLine). outline (chain_after_lines policies ls conn).entries) added.lines);
        };
    submissions = added.submissions ∙ ap (submissions_after l) k.submissions ∙ sym (count_push b.lines l) ∙ sym (ap submissions added.lines);
    work = subst (λ (n : ℕ). n * loads ≤ 16777216) (sym added.submissions) (work_then l allowed);
    lines = subst (AreValidLines (length policies)) (sym added.lines) (lines_push (length policies) b.lines l k.lines allowed.ranges);
  }

  pub few_calls : 1 ≤ loads → b.submissions ≤ 16777216
  few_calls some = (let work = k.work in let more = le_times b.submissions loads some in omega (arith, work, more))

  pub can_add : 1 ≤ loads → (l : ScriptLine) → IsAllowedAfter loads policies b.lines l → CanAdd b l
  can_add some l allowed = record {
    conn_from = allowed.conn_from;
    conn_to = allowed.conn_to;
    few = few_calls some;
    place = λ conn at policy name is.
        let moved : IsAllowedAfter loads policies b.lines (line.Attach conn at name policy) = subst (IsAllowedAfter loads policies b.lines) is allowed in
        let can = can_attach conn at policy name moved in
        let long = kept_long conn moved.conn_from moved.conn_to in
        let place = can.place in
        let room = can.room in
        (omega (arith, place, long), omega (arith, room, long));
  }

  pub can_make : 1 ≤ loads → (ch : Change) → CanChange loads (state_of_body d b) ch → CanApply d b ch
  can_make some change.Nothing can = tt
  can_make some (change.Item i) can = can
  can_make some (change.Line l) can = can_add some l can
  can_make some change.Close can = tt

  pub record IsNext (ch : Change) (d' : Declared) (b' : Body) : Type 0 where
    pub kept : IsValidBody loads d' b'
    pub seen_is : state_of_body d' b' ≡ state_after (state_of_body d b) ch

  both_same : (ch : Change) (d' : Declared) (b' : Body) (e : Declared) → d' ≡ e → b' ≡ b → IsNext ch e b → IsNext ch d' b'
  both_same ch d' b' e declared body h = subst (λ (x : Declared). IsNext ch x b') (sym declared) (subst (IsNext ch e) (sym body) h)

  pub next_of : (ch : Change) (d' : Declared) (b' : Body) → CanChange loads (state_of_body d b) ch → IsBodyAfter d b ch d' b' → IsNext ch d' b'
  next_of change.Nothing d' b' can (declared, body) = both_same change.Nothing d' b' d declared body (record { kept = k; seen_is = refl })
  next_of (change.Item i) d' b' can (declared, body) = both_same (change.Item i) d' b' (with_declaration d i) declared body (record { kept = kept_item loads d b i k; seen_is = refl })
  next_of (change.Line l) d' b' can (declared, added) =
      subst (λ (x : Declared). IsNext (change.Line l) x b') (sym declared) (record {
        kept = kept_line l b' can added;
        seen_is = ap (λ (ls : List ScriptLine). record { declared = d; lines = ls; closed = b'.closed }) added.lines
            ∙ ap (λ (c : Bool). record { declared = d; lines = b.lines ++ l ∷ []; closed = c }) added.closed;
      })
  next_of change.Close d' b' can (declared, closed) =
      subst (λ (x : Declared). IsNext change.Close x b') (sym declared) (record {
        kept = record {
          whole = ap (length {A = ConnectionState}) closed.connections ∙ k.whole;
          connections = λ conn from to.
              let c = k.connections conn from to in
              let at : connection_at b'.connections conn ≡ connection_at b.connections conn = ap (λ (xs : List ConnectionState). connection_at xs conn) closed.connections in
              record {
                few = (let at_most = c.few in let long = ap (λ (x : ConnectionState). length x.links) at in omega (arith, at_most, long));
                words = ap (λ (x : ConnectionState). x.words) at ∙ c.words ∙ sym (ap (λ (ls : List ScriptLine). heap_of ls conn) closed.lines);
                links = ap (λ (x : ConnectionState). x.links) at ∙ c.links ∙ sym (ap (λ (ls : List ScriptLine). outline (chain_after_lines policies ls conn).entries) closed.lines);
              };
          submissions = closed.submissions ∙ k.submissions ∙ sym (ap submissions closed.lines);
          work = subst (λ (n : ℕ). n * loads ≤ 16777216) (sym closed.submissions) k.work;
          lines = subst (AreValidLines (length policies)) (sym closed.lines) k.lines;
        };
        seen_is = ap (λ (ls : List ScriptLine). record { declared = d; lines = ls; closed = b'.closed }) closed.lines
            ∙ ap (λ (c : Bool). record { declared = d; lines = b.lines; closed = c }) closed.closed;
      })
