-- Something follows from each script, in full and up to each send that fails.
use Rattle.std.proofs.Common.{◌≡◌, ◌≢◌, ◌⊎◌, inl, inr, ℕ, ◌<◌, ◌≤◌, false, List, [], ◌∷◌, ◌++◌, length, map, refl}
use Rattle.std.proofs.Common.{sym, ap, ◌∙◌, subst, append_assoc, append-nil, arith}
use Rattle.std.specs.Prelude.{All, None}
use Rattle.std.specs.List.{AllByRecursion}
use Rattle.std.proofs.lemmas.Bool.{cases_eq, cases_lt}
use Rattle.std.proofs.lemmas.List.{map-append}
use Rattle.std.proofs.lemmas.List.Elements.{All-map, recursion_from_All}
use Rattle.mrpc_table.specs.declared.call.Call.{Call}
use Rattle.mrpc_table.specs.declared.table.Table.{Table}
use Rattle.engine_core.specs.Chains.{Chain, HasChanged, IsChain, Refusal, IsRejection, changed}
use Rattle.engine_core.specs.declared.call_row.TheConstants.{MAX_CALLS}
use Rattle.engine_core.specs.declared.op.Op.{Op}
use Rattle.script_grammar.specs.declared.fault.ScriptReason.TheVariants.{At, Unknown}
use Rattle.replay_script.specs.Lines.{IsAllowedAfter, AreAllowed, IsScript, chain_after_lines, conn_of, chain_after_op, heap_of, is_conn, is_refused, no_engine, not_open, op_in, reason_of_refusal}
use Rattle.replay_script.specs.declared.script.ScriptLine.{ScriptLine}
use Rattle.replay_script.specs.declared.script.ScriptLine.TheVariants as line
use Rattle.replay_script.specs.declared.script.Script.{Script}
use Rattle.call_history.specs.Trace.{Trace, chain, pending_calls}
use Rattle.call_history.specs.Frames.{frames}
use Rattle.call_history.specs.Legal.{History, IsLegal, trace_of}
use Rattle.call_history.specs.declared.happening.ConnectionEvent.{ConnectionEvent}
use Rattle.call_history.specs.declared.happening.Happening.{Happening}
use Rattle.replay_run.specs.Follows.{Follows, FollowsUntil, IsLineStep, IsStateAfter, OpenConnection, ScriptState, IsScriptStep, advances, new_connection, event_on, opens, start, script_context}
use Rattle.replay_run.specs.Consistency.{IsConsistentOn}
use Rattle.replay_run.specs.Tickets.{AreConsecutive}
use Rattle.replay_laws.proofs.Doing.{DoesOn, FailsOn, Given, IsOpen, does-line}
use Rattle.replay_laws.proofs.Found.{IsIn, in-unmap}
use Rattle.replay_laws.proofs.Growing.{no-fewer}
use Rattle.replay_laws.proofs.Lines.{chain-opened, chain-other, chain-own, heap-same, opens-none, opens-other}
use Rattle.replay_laws.proofs.Taking.{GraphLaws}
use Rattle.replay_laws.proofs.Turning.{Stands, TurnLaws}

-- the laws of the layers below
pub record Laws : Type 0 where
  pub turns : TurnLaws
  pub graphs : GraphLaws
  pub apart : (conn : ℕ) (h k : History) → All (λ x. x.conn ≢ conn) k → trace_of conn (h ++ k) ≡ trace_of conn h
  pub few : (T : Table) (limit conn : ℕ) (h : History) → IsLegal T limit h → length (pending_calls (trace_of conn h)) ≤ MAX_CALLS
  pub unless_refused : (before : Chain) (op : Op) → IsChain before → ((refusal : Refusal) → IsRejection before op refusal → ⊥)
      → HasChanged before op (changed op before)
  pub legal : (s : Script) (lines others : List ScriptLine) (st : ScriptState) → IsScript s → s.lines ≡ lines ++ others
      → IsStateAfter s start lines st → IsLegal s.table s.loads st.history
  pub sound : (s : Script) (lines others : List ScriptLine) (st : ScriptState) → IsScript s → s.lines ≡ lines ++ others
      → IsStateAfter s start lines st → All (IsConsistentOn s st.history) st.opened

-- something follows from the script up to a send that fails after `n` sends
pub record FailsAfter (s : Script) (n : ℕ) : Type 0 where
  pub tried : Call
  pub end : ScriptState
  pub follows : FollowsUntil s tried end
  pub count : length (frames s.table end.history) ≡ n

-- ---- lists

record Parts (o : OpenConnection) (os : List OpenConnection) : Type 0 where
  front : List OpenConnection
  back : List OpenConnection
  is : os ≡ front ++ o ∷ back

parts-of : (os : List OpenConnection) (o : OpenConnection) → IsIn o os → Parts o os
parts-of [] o there = absurd there
parts-of (x ∷ os) o (inl here) = record { front = []; back = os; is = ap (λ y. y ∷ os) (sym here) }
parts-of (x ∷ os) o (inr there) = let rest = parts-of os o there in record { front = x ∷ rest.front; back = rest.back; is = ap (λ ys. x ∷ ys) rest.is }

pub all-at : (P : OpenConnection → Type 0) (os : List OpenConnection) (o : OpenConnection) → AllByRecursion P os → IsIn o os → P o
all-at P [] o all there = absurd there
all-at P (x ∷ os) o all (inl here) = subst P (sym here) all.0
all-at P (x ∷ os) o all (inr there) = all-at P os o all.1 there

all-with : (P : OpenConnection → Type 0) (front back : List OpenConnection) (one other : OpenConnection) → P other → AllByRecursion P (front ++ one ∷ back) → AllByRecursion P (front ++ other ∷ back)
all-with P [] back one other holds all = (holds, all.1)
all-with P (x ∷ front) back one other holds all = (all.0, all-with P front back one other holds all.1)

all-more : (P : OpenConnection → Type 0) (os : List OpenConnection) (o : OpenConnection) → AllByRecursion P os → P o → AllByRecursion P (os ++ o ∷ [])
all-more P [] o all holds = (holds, tt)
all-more P (x ∷ os) o all holds = (all.0, all-more P os o all.1 holds)

in-front : (xs : List ℕ) (y x : ℕ) → IsIn x xs → IsIn x (xs ++ y ∷ [])
in-front [] y x there = absurd there
in-front (z ∷ xs) y x (inl here) = inl here
in-front (z ∷ xs) y x (inr there) = inr (in-front xs y x there)

in-last : (xs : List ℕ) (y : ℕ) → IsIn y (xs ++ y ∷ [])
in-last [] y = inl refl
in-last (z ∷ xs) y = inr (in-last xs y)

pub numbers : List OpenConnection → List ℕ
numbers os = map (λ o. o.conn) os

same-numbers : (front back : List OpenConnection) (one other : OpenConnection) → other.conn ≡ one.conn → numbers (front ++ other ∷ back) ≡ numbers (front ++ one ∷ back)
unfolding numbers
same-numbers [] back one other same = ap (λ n. n ∷ map (λ o. o.conn) back) same
same-numbers (x ∷ front) back one other same = ap (λ ns. x.conn ∷ ns) (same-numbers front back one other same)

numbers-push : (os : List OpenConnection) (o : OpenConnection) → numbers (os ++ o ∷ []) ≡ numbers os ++ o.conn ∷ []
unfolding numbers
numbers-push os o = map-append (λ (x : OpenConnection). x.conn) os (o ∷ [])

number-in : (os : List OpenConnection) (conn : ℕ) → IsIn conn (numbers os) → (o : OpenConnection) × IsIn o os × (conn ≡ o.conn)
unfolding numbers
number-in os conn there = in-unmap (λ (o : OpenConnection). o.conn) os conn there

pub leads-push : (s : Script) (old mid new : ScriptState) (lines : List ScriptLine) (l : ScriptLine) → IsStateAfter s old lines mid → IsScriptStep s mid l new → IsStateAfter s old (lines ++ l ∷ []) new
leads-push s old mid new [] l leads step = (new, subst (λ (st : ScriptState). IsScriptStep s st l new) leads step, refl)
leads-push s old mid new (x ∷ lines) l leads step = (leads.0, leads.1, leads-push s leads.0 mid new lines l leads.2 step)

all-of : {A : Type 0} (P : A → Type 0) → ((x : A) → P x) → (xs : List A) → All P xs
all-of P f xs k d lt = f _

of-others : (conn one : ℕ) (piece : List Happening) → one ≢ conn → All (λ x. x.conn ≢ conn) (map (event_on one) piece)
of-others conn one piece apart =
    All-map (λ (x : ConnectionEvent). x.conn ≢ conn) (event_on one) piece
    (all-of (λ (what : Happening). one ≢ conn) (λ what. apart) piece)

-- ---- what is known of the state after some lines

module _ (laws : Laws) (s : Script) (script : IsScript s) where
  pub record Known (lines : List ScriptLine) (st : ScriptState) : Type 0 where
    pub leads : IsStateAfter s start lines st
    pub opened : AllByRecursion IsOpen st.opened
    pub chains : (conn : ℕ) → chain (trace_of conn st.history) ≡ chain_after_lines s.declared.policies lines conn
    pub there : (conn : ℕ) → (heap_of lines conn ≡ None) ⊎ IsIn conn (numbers st.opened)
    pub in_turn : AreConsecutive st.history
    pub tries : (n : ℕ) → n < length (frames s.table st.history) → FailsAfter s n

  -- a state after some lines, with at least as many sends as an earlier one
  pub record Onward (lines : List ScriptLine) (st : ScriptState) : Type 0 where
    pub end : ScriptState
    pub known : Known lines end
    pub more : length (frames s.table st.history) ≤ length (frames s.table end.history)

  onward : (lines : List ScriptLine) (st end : ScriptState) → Known lines end → (k : History) → end.history ≡ st.history ++ k → Onward lines st
  onward lines st end known k is = record {
    end = end;
    known = known;
    more = subst (λ h. length (frames s.table st.history) ≤ length (frames s.table h)) (sym is) (no-fewer laws.turns.growth s.table st.history k);
  }

  pub known-start : Known [] start
  known-start = record {
    leads = refl;
    opened = tt;
    chains = λ conn. refl;
    there = λ conn. inl refl;
    in_turn = λ tenant window. refl;
    tries = λ n low. absurd (omega arith);
  }

  -- ---- a line that opens a connection

  opened-there : (lines : List ScriptLine) (st : ScriptState) (number words conn : ℕ) → Known lines st
      → (heap_of (lines ++ line.Conn number words ∷ []) conn ≡ None) ⊎ IsIn conn (numbers (st.opened ++ new_connection number words ∷ []))
  opened-there lines st number words conn known = elim (cases_eq number conn) [
    | inl same ↦ inr (subst (λ ns. IsIn conn ns) (sym (numbers-push st.opened (new_connection number words)))
        (subst (λ n. IsIn n (numbers st.opened ++ number ∷ [])) same (in-last (numbers st.opened) number)))
    | inr other ↦ elim (known.there conn) [
      | inl none ↦ inl (heap-same lines (line.Conn number words) conn (opens-other number words conn other) ∙ none)
      | inr there ↦ inr (subst (λ ns. IsIn conn ns) (sym (numbers-push st.opened (new_connection number words))) (in-front (numbers st.opened) number conn there))
    ]
  ]

  known-opened : (lines : List ScriptLine) (st : ScriptState) (number words : ℕ) → Known lines st → Onward (lines ++ line.Conn number words ∷ []) st
  known-opened lines st number words known =
      let next : ScriptState = record { opened = st.opened ++ new_connection number words ∷ []; history = st.history } in
      onward (lines ++ line.Conn number words ∷ []) st next (record {
        leads = leads-push s start st next lines (line.Conn number words) known.leads (opens number words refl refl);
        opened = all-more IsOpen st.opened (new_connection number words) known.opened (record { going = refl; stores = tt; races = tt });
        chains = λ conn. known.chains conn ∙ sym (chain-opened s.declared.policies lines number words conn);
        there = λ conn. opened-there lines st number words conn known;
        in_turn = known.in_turn;
        tries = known.tries;
      }) [] (sym (append-nil st.history))

  -- ---- a line on an open connection

  record OnOpen (lines others : List ScriptLine) (l : ScriptLine) (st : ScriptState) : Type 0 where
    order : s.lines ≡ lines ++ l ∷ others
    known : Known lines st
    one : OpenConnection
    at : Parts one st.opened
    on : conn_of l ≡ one.conn
    uses : is_conn l ≡ false
    does : DoesOn s l one st.history

  module _ (lines others : List ScriptLine) (l : ScriptLine) (st : ScriptState) (d : OnOpen lines others l st) where
    next : ScriptState
    next = record { opened = d.at.front ++ d.does.other ∷ d.at.back; history = d.does.history }

    next-goes : IsLineStep st d.one d.does.other next
    unfolding next
    next-goes = record {
      front = d.at.front;
      back = d.at.back;
      before = d.at.is;
      after = refl;
      piece = d.does.grows.piece;
      past = d.does.grows.past_is;
      history = d.does.grows.history_is;
    }

    next-chains : (conn : ℕ) → chain (trace_of d.one.conn st.history) ≡ chain d.one.course.past
        → chain (trace_of conn next.history) ≡ chain_after_lines s.declared.policies (lines ++ l ∷ []) conn
    unfolding next
    next-chains conn was = elim (cases_eq d.one.conn conn) [
      | inl same ↦
          ap (λ n. chain (trace_of n d.does.history)) (sym same) ∙ ap chain (sym d.does.grows.here.at) ∙ d.does.same_chain
          ∙ ap (chain_after_op (op_in s.declared.policies l)) (sym was ∙ d.known.chains d.one.conn ∙ ap (chain_after_lines s.declared.policies lines) same)
          ∙ sym (chain-own s.declared.policies lines l conn (d.on ∙ same))
      | inr apart ↦
          ap (λ h. chain (trace_of conn h)) d.does.grows.history_is
          ∙ ap chain (laws.apart conn st.history (map (event_on d.one.conn) d.does.grows.piece) (of-others conn d.one.conn d.does.grows.piece apart))
          ∙ d.known.chains conn
          ∙ sym (chain-other s.declared.policies lines l conn (λ is. apart (sym d.on ∙ is)))
    ]

    next-there : (conn : ℕ) → (heap_of (lines ++ l ∷ []) conn ≡ None) ⊎ IsIn conn (numbers next.opened)
    unfolding next
    next-there conn = elim (d.known.there conn) [
      | inl none ↦ inl (heap-same lines l conn (opens-none l conn d.uses) ∙ none)
      | inr there ↦ inr (subst (λ ns. IsIn conn ns) (sym (same-numbers d.at.front d.at.back d.one d.does.other d.does.conn))
          (subst (λ os. IsIn conn (numbers os)) d.at.is there))
    ]

    fails-after : (n : ℕ) → FailsOn s l d.one st.history n → FailsAfter s n
    fails-after n f =
        let end : ScriptState = record { opened = d.at.front ++ f.other ∷ d.at.back; history = f.history } in
        record {
          tried = f.tried;
          end = end;
          follows = record {
            until = record {
              lines = lines;
              failing = l;
              behind = others;
              order = d.order;
              before = st;
              leads = d.known.leads;
              one = d.one;
              other = f.other;
              on = d.on;
              fails = f.fails;
              goes = record {
                front = d.at.front;
                back = d.at.back;
                before = d.at.is;
                after = refl;
                piece = f.grows.piece;
                past = f.grows.past_is;
                history = f.grows.history_is;
              };
            };
            in_turn = f.grows.here.in_turn;
          };
          count = f.count;
        }

    next-tries : (n : ℕ) → n < length (frames s.table next.history) → FailsAfter s n
    unfolding next
    next-tries n low = elim (cases_lt n (length (frames s.table st.history))) [
      | inl earlier ↦ d.known.tries n earlier
      | inr from ↦ fails-after n (d.does.tries n from low)
    ]

    known-next : chain (trace_of d.one.conn st.history) ≡ chain d.one.course.past → Known (lines ++ l ∷ []) next
    unfolding next
    known-next was = record {
      leads = leads-push s start st next lines l d.known.leads (advances d.one d.does.other d.on d.does.does next-goes);
      opened = all-with IsOpen d.at.front d.at.back d.one d.does.other d.does.opened (subst (λ os. AllByRecursion IsOpen os) d.at.is d.known.opened);
      chains = λ conn. next-chains conn was;
      there = next-there;
      in_turn = d.does.grows.here.in_turn;
      tries = next-tries;
    }

    next-onward : chain (trace_of d.one.conn st.history) ≡ chain d.one.course.past → Onward (lines ++ l ∷ []) st
    unfolding next
    next-onward was = onward (lines ++ l ∷ []) st next (known-next was) (map (event_on d.one.conn) d.does.grows.piece) d.does.grows.history_is

  -- ---- any line

  -- its connection is open
  is-there : (lines : List ScriptLine) (l : ScriptLine) (st : ScriptState) → IsAllowedAfter s.loads s.declared.policies lines l → is_conn l ≡ false → Known lines st → IsIn (conn_of l) (numbers st.opened)
  is-there lines l st allows uses known = elim (known.there (conn_of l)) [
    | inl none ↦ absurd (allows.free Unknown (not_open uses none refl))
    | inr there ↦ there
  ]

  within : (conn at : ℕ) (lines : List ScriptLine) (l : ScriptLine) → IsAllowedAfter s.loads s.declared.policies lines l → l ≡ line.Turn conn at
      → at < length (chain_after_lines s.declared.policies lines conn).entries
  within conn at lines l allows is = elim (cases_lt at (length (chain_after_lines s.declared.policies lines conn).entries)) [
    | inl low ↦ low
    | inr far ↦ absurd (allows.free At (no_engine conn at is far refl))
  ]

  known-used : (lines others : List ScriptLine) (l : ScriptLine) (st : ScriptState) → s.lines ≡ lines ++ l ∷ others → IsAllowedAfter s.loads s.declared.policies lines l → is_conn l ≡ false
      → Known lines st → Onward (lines ++ l ∷ []) st
  known-used lines others l st order allows uses known =
      let policies = s.declared.policies in
      let found = number-in st.opened (conn_of l) (is-there lines l st allows uses known) in
      let one : OpenConnection = found.0 in
      let sound : IsConsistentOn s st.history one =
      all-at (IsConsistentOn s st.history) st.opened one (recursion_from_All (IsConsistentOn s st.history) st.opened (laws.sound s lines (l ∷ others) st script order known.leads)) found.1 in
      let opened : IsOpen one = all-at IsOpen st.opened one known.opened found.1 in
      let stands : Stands (script_context s one.conn) st.history one.course = record { course = sound.course; going = opened.going; here = record { at = sound.past; in_turn = known.in_turn } } in
      let chain_is : chain one.course.past ≡ chain_after_lines policies lines (conn_of l) =
      ap chain sound.past ∙ known.chains one.conn ∙ ap (chain_after_lines policies lines) (sym found.2) in
      let few : length (pending_calls one.course.past) ≤ MAX_CALLS =
      subst (λ (p : Trace). length (pending_calls p) ≤ MAX_CALLS) (sym sound.past)
      (laws.few s.table s.loads one.conn st.history (laws.legal s lines (l ∷ others) st script order known.leads))
      in
      let given : Given laws.turns laws.graphs s one st.history opened stands l = record {
        valid = script.table;
        least = script.loads_from;
        few = few;
        ranges = allows.ranges;
        on = found.2;
        uses = uses;
        step = λ o is. laws.unless_refused (chain one.course.past) o (laws.turns.is_chain (script_context s one.conn) one.course.past sound.course.legal.prefix)
            (λ refusal refuses. allows.free (reason_of_refusal refusal) (is_refused o refusal is (subst (λ c. IsRejection c o refusal) chain_is refuses) refl));
        engine = λ conn at is. subst (λ c. at < length c.entries)
            (ap (chain_after_lines policies lines) (sym (ap conn_of is)) ∙ sym chain_is) (within conn at lines l allows is);
      } in
      let d : OnOpen lines others l st = record {
        order = order;
        known = known;
        one = one;
        at = parts-of st.opened one found.1;
        on = found.2;
        uses = uses;
        does = does-line laws.turns laws.graphs s one st.history opened stands l given;
      } in
      next-onward lines others l st d (ap chain (sym sound.past))

  pub known-line : (lines others : List ScriptLine) (l : ScriptLine) (st : ScriptState) → s.lines ≡ lines ++ l ∷ others → IsAllowedAfter s.loads s.declared.policies lines l
      → Known lines st → Onward (lines ++ l ∷ []) st
  known-line lines others (line.Conn number words) st order allows known = known-opened lines st number words known
  known-line lines others (line.Store conn place value) st order allows known = known-used lines others (line.Store conn place value) st order allows refl known
  known-line lines others (line.Race conn load place value) st order allows known = known-used lines others (line.Race conn load place value) st order allows refl known
  known-line lines others (line.Submit conn method number addr) st order allows known = known-used lines others (line.Submit conn method number addr) st order allows refl known
  known-line lines others (line.Attach conn at name policy) st order allows known = known-used lines others (line.Attach conn at name policy) st order allows refl known
  known-line lines others (line.Detach conn name) st order allows known = known-used lines others (line.Detach conn name) st order allows refl known
  known-line lines others (line.Upgrade conn name policy) st order allows known = known-used lines others (line.Upgrade conn name policy) st order allows refl known
  known-line lines others (line.Moment conn ms) st order allows known = known-used lines others (line.Moment conn ms) st order allows refl known
  known-line lines others (line.Turn conn at) st order allows known = known-used lines others (line.Turn conn at) st order allows refl known
  known-line lines others (line.Send conn) st order allows known = known-used lines others (line.Send conn) st order allows refl known
  known-line lines others (line.Drain conn) st order allows known = known-used lines others (line.Drain conn) st order allows refl known

  -- after more lines
  pub known-through : (xs ys lines : List ScriptLine) (st : ScriptState) → s.lines ≡ lines ++ (xs ++ ys) → AreAllowed s.loads s.declared.policies lines (xs ++ ys)
      → Known lines st → Onward (lines ++ xs) st
  known-through [] ys lines st order allowed known =
      onward (lines ++ []) st st (subst (λ ls. Known ls st) (sym (append-nil lines)) known) [] (sym (append-nil st.history))
  known-through (l ∷ xs) ys lines st order allowed known =
      let first = known-line lines (xs ++ ys) l st order allowed.0 known in
      let rest = known-through xs ys (lines ++ l ∷ []) first.end (order ∙ sym (append_assoc lines (l ∷ []) (xs ++ ys))) allowed.1 first.known in
      let early : length (frames s.table st.history) ≤ length (frames s.table first.end.history) = first.more in
      let late : length (frames s.table first.end.history) ≤ length (frames s.table rest.end.history) = rest.more in
      record {
        end = rest.end;
        known = subst (λ ls. Known ls rest.end) (append_assoc lines (l ∷ []) xs) rest.known;
        more = omega arith;
      }

  -- ---- the full script

  pub record FollowsSomehow : Type 0 where
    pub end : ScriptState
    pub follows : Follows s end
    pub tries : (n : ℕ) → n < length (frames s.table end.history) → FailsAfter s n

  pub follows-somehow : FollowsSomehow
  follows-somehow =
      let whole : s.lines ≡ s.lines ++ [] = sym (append-nil s.lines) in
      let all = known-through s.lines [] [] start whole (subst (AreAllowed s.loads s.declared.policies []) whole script.lines) known-start in
      record { end = all.end; follows = record { leads = all.known.leads; in_turn = all.known.in_turn }; tries = all.known.tries }
