-- The first reason of a line, by the lines before it.
use Rattle.std.proofs.Common.{◌≡◌, ℕ, ◌+◌, ◌*◌, ◌<◌, ◌≤◌, Bool, true, false, ◌&&◌, ◌⊎◌, inl, inr, List, length}
use Rattle.std.proofs.Common.{Option, Some, None, refl, ap, sym, subst, ◌∙◌, arith}
use Rattle.std.specs.Prelude.{nat_lt, nat_le}
use Rattle.std.proofs.lemmas.Bool.{cond_both, ltb-true, ltb-false, leb-true, leb-false, and_parts, and_cases, false≢true, cases_lt}
use Rattle.std.proofs.lemmas.Option.{same_Some}
use Rattle.engine_core.specs.Chains.{Chain, Refusal, no_such, taken, no_place, full, other_kind, IsRejection}
use Rattle.engine_core.specs.Chains as chains
use Rattle.engine_core.specs.declared.op.Op.{Op}
use Rattle.policy_declarations.specs.declared.declaration.NamedPolicy.{NamedPolicy}
use Rattle.script_grammar.specs.Reasons.{script_reason_rank, IsFirstReason}
use Rattle.script_grammar.specs.declared.fault.ScriptReason.{ScriptReason}
use Rattle.script_grammar.specs.declared.fault.ScriptReason.TheVariants as reason
use Rattle.replay_script.specs.Deciding.{is_place, op_reason, some_op_reason, open_line_reason, known_line_reason, reason_after}
use Rattle.replay_script.specs.Lines.{conn_of, is_conn, is_submit, store_place, op_in, heap_of, chain_after_lines, submissions}
use Rattle.replay_script.specs.Lines.{IsHeapPlace, reason_of_refusal, HasReasonAfter, is_open, not_open, no_place_there, no_load}
use Rattle.replay_script.specs.Lines.{no_engine, is_refused, too_much}
use Rattle.replay_script.specs.declared.script.ScriptLine.{ScriptLine}
use Rattle.replay_script.specs.declared.script.ScriptLine.TheVariants as line
use Rattle.replay_script.proofs.Refusals.{OpVerdict, op_verdict}

-- ---- the possible reasons of a line of each form

abbrev pub IsMisplaced : (words : ℕ) → ScriptLine → Type 0
IsMisplaced words (line.Store conn place value) = IsHeapPlace words place → ⊥
IsMisplaced words (line.Race conn load place value) = (load ≡ 0) ⊎ (IsHeapPlace words place → ⊥)
IsMisplaced words _ = ⊥

abbrev pub IsPastEngines : (engines : ℕ) → ScriptLine → Type 0
IsPastEngines engines (line.Turn conn at) = engines ≤ at
IsPastEngines engines _ = ⊥

misplaced_by : (words place : ℕ) (l : ScriptLine) → store_place l ≡ Some place → (IsHeapPlace words place → ⊥) → IsMisplaced words l
misplaced_by words place (line.Store conn p value) e none = (let same : p ≡ place = same_Some p place e in subst (λ (x : ℕ). IsHeapPlace words x → ⊥) (sym same) none)
misplaced_by words place (line.Race conn load p value) e none = (let same : p ≡ place = same_Some p place e in inr (subst (λ (x : ℕ). IsHeapPlace words x → ⊥) (sym same) none))
misplaced_by words place (line.Conn conn w) e none = absurd cc
misplaced_by words place (line.Submit conn method number addr) e none = absurd cc
misplaced_by words place (line.Attach conn at name policy) e none = absurd cc
misplaced_by words place (line.Detach conn name) e none = absurd cc
misplaced_by words place (line.Upgrade conn name policy) e none = absurd cc
misplaced_by words place (line.Moment conn ms) e none = absurd cc
misplaced_by words place (line.Turn conn at) e none = absurd cc
misplaced_by words place (line.Send conn) e none = absurd cc
misplaced_by words place (line.Drain conn) e none = absurd cc

module _ (loads : ℕ) (policies : List NamedPolicy) (before : List ScriptLine) where
  abbrev heap : ScriptLine → Option ℕ
  heap l = heap_of before (conn_of l)

  abbrev chain : ScriptLine → Chain
  chain l = chain_after_lines policies before (conn_of l)

  -- the reason of a line that uses an open connection
  pub data Stands (words : ℕ) (l : ScriptLine) (q : ScriptReason) : Type 0 where
    misplaced : IsMisplaced words l → q ≡ reason.Place → Stands words l q
    past : IsPastEngines (length (chain l).entries) l → q ≡ reason.At → Stands words l q
    refused : (o : Op) (refusal : Refusal) → op_in policies l ≡ Some o → IsRejection (chain l) o refusal → q ≡ reason_of_refusal refusal → Stands words l q
    surplus : is_submit l ≡ true → 16777216 < (submissions before + 1) * loads → q ≡ reason.Work → Stands words l q

  pub stands : (words : ℕ) (l : ScriptLine) (q : ScriptReason) → is_conn l ≡ false → heap l ≡ Some words → HasReasonAfter loads policies before l q → Stands words l q
  stands words l q used there (is_open other opens is e) = absurd (false≢true (sym used ∙ opens))
  stands words l q used there (not_open uses none e) = absurd (let clash : None ≡ Some words = sym none ∙ there in cc)
  stands words l q used there (no_place_there place other at is none e) =
      let same : other ≡ words = same_Some other words (sym is ∙ there) in
      misplaced (misplaced_by words place l at (subst (λ (w : ℕ). IsHeapPlace w place → ⊥) same none)) e
  stands words l q used there (no_load conn place value is e) = misplaced (subst (IsMisplaced words) (sym is) (inl refl)) e
  stands words l q used there (no_engine conn at is few e) =
      past (subst (λ (k : ScriptLine). IsPastEngines (length (chain_after_lines policies before (conn_of k)).entries) k) (sym is) few) e
  stands words l q used there (is_refused o refusal is refuses e) = refused o refusal is refuses e
  stands words l q used there (too_much submits much e) = surplus submits much e

  -- ---- the verdict

  abbrev pub Verdict : ScriptLine → Option ScriptReason → Type 0
  Verdict l None = (q : ScriptReason) → HasReasonAfter loads policies before l q → ⊥
  Verdict l (Some r) = IsFirstReason (HasReasonAfter loads policies before l) r

  -- the conditions for each reason of a line
  pub record Parts (words : ℕ) (l : ScriptLine) (Places Pasts Works : Type 0) (Ops : Refusal → Type 0) : Type 0 where
    pub place : IsMisplaced words l → Places
    pub past : IsPastEngines (length (chain l).entries) l → Pasts
    pub op : (o : Op) (refusal : Refusal) → op_in policies l ≡ Some o → IsRejection (chain l) o refusal → Ops refusal
    pub work : is_submit l ≡ true → 16777216 < (submissions before + 1) * loads → Works

  free : (words : ℕ) (l : ScriptLine) → is_conn l ≡ false → heap l ≡ Some words → Parts words l ⊥ ⊥ ⊥ (λ r. ⊥) → Verdict l None
  free words l used there none q h = elim (stands words l q used there h) [
    | misplaced m e ↦ none.place m
    | past m e ↦ none.past m
    | refused o refusal is r e ↦ none.op o refusal is r
    | surplus m much e ↦ none.work m much
  ]

  order_same : (q r : ScriptReason) → q ≡ r → script_reason_rank r ≤ script_reason_rank q
  order_same q r e = (let same = ap script_reason_rank e in omega (arith, same))

  first_of : (words : ℕ) (l : ScriptLine) (r : ScriptReason) → is_conn l ≡ false → heap l ≡ Some words → HasReasonAfter loads policies before l r
      → Parts words l (r ≡ reason.Place) (r ≡ reason.At) (r ≡ reason.Work) (λ x. script_reason_rank r ≤ script_reason_rank (reason_of_refusal x)) → Verdict l (Some r)
  first_of words l r used there reason_after only = record {
    stands = reason_after;
    first = λ q h. elim (stands words l q used there h) [
      | misplaced m e ↦ order_same q r (e ∙ sym (only.place m))
      | past m e ↦ order_same q r (e ∙ sym (only.past m))
      | refused o refusal is s e ↦ (let from = only.op o refusal is s in let same = ap script_reason_rank e in omega (arith, from, same))
      | surplus m much e ↦ order_same q r (e ∙ sym (only.work m much))
    ];
  }

  no_op : (o : Op) (X : Type 0) → ◌≡◌ {A = Option Op} None (Some o) → X
  no_op o X e = absurd cc

  is_place-true : (words place : ℕ) → is_place words place ≡ true → IsHeapPlace words place
  is_place-true words place e = let parts = and_parts (nat_le 1 place) (nat_lt place words) e in (leb-true 1 place parts.0, ltb-true place words parts.1)

  is_place-false : (words place : ℕ) → is_place words place ≡ false → IsHeapPlace words place → ⊥
  is_place-false words place e is = elim (and_cases (nat_le 1 place) (nat_lt place words) e) [
    | inl f ↦ (let less = leb-false 1 place f in let from = is.0 in omega (arith, less, from))
    | inr f ↦ (let less = ltb-false place words f in let to = is.1 in omega (arith, less, to))
  ]

  abbrev Against : ℕ → ScriptLine → Option ScriptReason
  Against words l = open_line_reason loads policies words (chain l).entries (submissions before) l

  store_verdict : (words conn place value : ℕ) → heap (line.Store conn place value) ≡ Some words → Verdict (line.Store conn place value) (Against words (line.Store conn place value))
  store_verdict words conn place value there =
      let l : ScriptLine = line.Store conn place value in
      cond_both (is_place words place) None (Some reason.Place) (Verdict l)
      (λ is. free words l refl there (record {
        place = λ none. none (is_place-true words place is);
        past = λ none. none;
        op = λ o refusal none r. no_op o ⊥ none;
        work = λ none much. false≢true none;
      }))
      (λ isnt. first_of words l reason.Place refl there (no_place_there place words refl there (is_place-false words place isnt) refl)
      (record { place = λ m. refl; past = λ none. absurd none; op = λ o refusal none r. no_op o _ none; work = λ none much. absurd (false≢true none) }))

  race_against : (words conn load place value : ℕ) → heap (line.Race conn load place value) ≡ Some words
      → (nat_le 1 load ≡ false) ⊎ (is_place words place ≡ false)
      → HasReasonAfter loads policies before (line.Race conn load place value) reason.Place
  race_against words conn load place value there (inl none) =
      no_load conn place value (let less = leb-false 1 load none in let zero_is : load ≡ 0 = omega (arith, less) in ap (λ (n : ℕ). line.Race conn n place value) zero_is) refl
  race_against words conn load place value there (inr isnt) = no_place_there place words refl there (is_place-false words place isnt) refl

  race_right : (words load place : ℕ) → nat_le 1 load ≡ true → is_place words place ≡ true → (load ≡ 0) ⊎ (IsHeapPlace words place → ⊥) → ⊥
  race_right words load place some is (inl none) = (let from = leb-true 1 load some in omega (arith, from, none))
  race_right words load place some is (inr isnt) = isnt (is_place-true words place is)

  race_verdict : (words conn load place value : ℕ) → heap (line.Race conn load place value) ≡ Some words
      → Verdict (line.Race conn load place value) (Against words (line.Race conn load place value))
  race_verdict words conn load place value there =
      let l : ScriptLine = line.Race conn load place value in
      cond_both (nat_le 1 load && is_place words place) None (Some reason.Place) (Verdict l)
      (λ is. (let parts = and_parts (nat_le 1 load) (is_place words place) is in
      free words l refl there (record {
        place = λ m. race_right words load place parts.0 parts.1 m;
        past = λ none. none;
        op = λ o refusal none r. no_op o ⊥ none;
        work = λ none much. false≢true none;
      })))
      (λ isnt. first_of words l reason.Place refl there (race_against words conn load place value there (and_cases (nat_le 1 load) (is_place words place) isnt))
      (record { place = λ m. refl; past = λ none. absurd none; op = λ o refusal none r. no_op o _ none; work = λ none much. absurd (false≢true none) }))

  submit_verdict : (words conn method number addr : ℕ) → heap (line.Submit conn method number addr) ≡ Some words
      → Verdict (line.Submit conn method number addr) (Against words (line.Submit conn method number addr))
  submit_verdict words conn method number addr there =
      let l : ScriptLine = line.Submit conn method number addr in
      let total : ℕ = (submissions before + 1) * loads in
      cond_both (nat_le total 16777216) None (Some reason.Work) (Verdict l)
      (λ is. free words l refl there (record {
        place = λ none. none;
        past = λ none. none;
        op = λ o refusal none r. no_op o ⊥ none;
        work = λ m much. (let few = leb-true total 16777216 is in
            omega (arith, few, much));
      }))
      (λ isnt. first_of words l reason.Work refl there (too_much refl (leb-false total 16777216 isnt) refl)
      (record { place = λ none. absurd none; past = λ none. absurd none; op = λ o refusal none r. no_op o _ none; work = λ m much. refl }))

  turn_verdict : (words conn at : ℕ) → heap (line.Turn conn at) ≡ Some words → Verdict (line.Turn conn at) (Against words (line.Turn conn at))
  turn_verdict words conn at there =
      let l : ScriptLine = line.Turn conn at in
      let count : ℕ = length (chain l).entries in
      cond_both (nat_lt at count) None (Some reason.At) (Verdict l)
      (λ is. free words l refl there (record {
        place = λ none. none;
        past = λ few. (let less = ltb-true at count is in omega (arith, few, less));
        op = λ o refusal none r. no_op o ⊥ none;
        work = λ none much. false≢true none;
      }))
      (λ isnt. first_of words l reason.At refl there (no_engine conn at refl (ltb-false at count isnt) refl)
      (record { place = λ none. absurd none; past = λ m. refl; op = λ o refusal none r. no_op o _ none; work = λ none much. absurd (false≢true none) }))

  -- ---- operations

  reason_order : (x y : Refusal) → chains.refusal_rank x ≤ chains.refusal_rank y → script_reason_rank (reason_of_refusal x) ≤ script_reason_rank (reason_of_refusal y)
  reason_order x y h = (let one = by_order x in let other = by_order y in omega (arith, one, other, h)) where
    by_order : (z : Refusal) → script_reason_rank (reason_of_refusal z) ≡ 13 + chains.refusal_rank z
    by_order (no_such name) = refl
    by_order (taken name) = refl
    by_order (no_place at) = refl
    by_order (full entries) = refl
    by_order (other_kind name) = refl

  refused_first : (c : Chain) (o p : Op) (x y : Refusal) → o ≡ p → IsRejection c o x → IsRejection c p y → chains.refusal_rank x ≤ chains.refusal_rank y
  refused_first c o p x y same h k = elim (cases_lt (chains.refusal_rank y) (chains.refusal_rank x)) [
    | inl less ↦ absurd (h.first y less (subst (λ (q : Op). chains.IsReasonToReject c.entries q y) (sym same) k.against))
    | inr from ↦ from
  ]

  -- a line of which only the operation is checked
  pub record IsPlain (l : ScriptLine) : Type 0 where
    pub used : is_conn l ≡ false
    pub place : (words : ℕ) → IsMisplaced words l → ⊥
    pub past : (engines : ℕ) → IsPastEngines engines l → ⊥
    pub work : is_submit l ≡ true → ⊥

  op_line_verdict : (words : ℕ) (l : ScriptLine) (found : Option Op) → op_in policies l ≡ found → IsPlain l
      → heap l ≡ Some words → Verdict l (some_op_reason found (chain l).entries)
  op_line_verdict words l None is plain there =
      free words l plain.used there (record {
        place = λ m. plain.place words m;
        past = λ m. plain.past _ m;
        op = λ o refusal some r. no_op o ⊥ (sym is ∙ some);
        work = λ m much. plain.work m;
      })
  op_line_verdict words l (Some o) is plain there = by (op_reason o (chain l).entries) (op_verdict (chain l) o) where
    by : (x : Option ScriptReason) → OpVerdict (chain l) o x → Verdict l x
    by None none =
        free words l plain.used there (record {
          place = λ m. plain.place words m;
          past = λ m. plain.past _ m;
          op = λ p refusal some r. none refusal (subst (λ (q : Op). chains.IsReasonToReject (chain l).entries q refusal) (same_Some p o (sym some ∙ is)) r.against);
          work = λ m much. plain.work m;
        })
    by (Some r) (refusal, refuses, e) =
        first_of words l r plain.used there (is_refused o refusal is refuses e) (record {
          place = λ m. absurd (plain.place words m);
          past = λ m. absurd (plain.past _ m);
          op = λ p other some s.
              (let first = reason_order refusal other
              (refused_first (chain l) o p refusal other (same_Some o p (sym is ∙ some)) refuses s) in
              let same = ap script_reason_rank e in omega (arith, first, same));
          work = λ m much. absurd (plain.work m);
        })

  no_submit : ◌≡◌ {A = Bool} false true → ⊥
  no_submit e = false≢true e

  -- ---- all lines

  used_verdict : (words : ℕ) (l : ScriptLine) → is_conn l ≡ false → heap l ≡ Some words → Verdict l (Against words l)
  used_verdict words (line.Conn conn w) used there = absurd (false≢true (sym used))
  used_verdict words (line.Store conn place value) used there = store_verdict words conn place value there
  used_verdict words (line.Race conn load place value) used there = race_verdict words conn load place value there
  used_verdict words (line.Submit conn method number addr) used there = submit_verdict words conn method number addr there
  used_verdict words (line.Attach conn at name policy) used there =
      op_line_verdict words (line.Attach conn at name policy) (op_in policies (line.Attach conn at name policy)) refl
      (record { used = refl; place = λ w m. m; past = λ n m. m; work = λ m. no_submit m }) there
  used_verdict words (line.Detach conn name) used there =
      op_line_verdict words (line.Detach conn name) (op_in policies (line.Detach conn name)) refl
      (record { used = refl; place = λ w m. m; past = λ n m. m; work = λ m. no_submit m }) there
  used_verdict words (line.Upgrade conn name policy) used there =
      op_line_verdict words (line.Upgrade conn name policy) (op_in policies (line.Upgrade conn name policy)) refl
      (record { used = refl; place = λ w m. m; past = λ n m. m; work = λ m. no_submit m }) there
  used_verdict words (line.Moment conn ms) used there =
      op_line_verdict words (line.Moment conn ms) None refl (record {
        used = refl;
        place = λ w m. m;
        past = λ n m. m;
        work = λ m. no_submit m;
      }) there
  used_verdict words (line.Turn conn at) used there = turn_verdict words conn at there
  used_verdict words (line.Send conn) used there =
      op_line_verdict words (line.Send conn) None refl (record {
        used = refl;
        place = λ w m. m;
        past = λ n m. m;
        work = λ m. no_submit m;
      }) there
  used_verdict words (line.Drain conn) used there =
      op_line_verdict words (line.Drain conn) None refl (record {
        used = refl;
        place = λ w m. m;
        past = λ n m. m;
        work = λ m. no_submit m;
      }) there

  reason_late : (x : Refusal) → 14 ≤ script_reason_rank (reason_of_refusal x)
  reason_late (no_such name) = omega arith
  reason_late (taken name) = omega arith
  reason_late (no_place at) = omega arith
  reason_late (full entries) = omega arith
  reason_late (other_kind name) = omega arith

  unknown_verdict : (l : ScriptLine) → is_conn l ≡ false → heap l ≡ None → Verdict l (Some reason.Unknown)
  unknown_verdict l used none = record {
    stands = not_open used none refl;
    first = λ q h. elim h [
      | is_open words opens is e ↦ absurd (false≢true (sym used ∙ opens))
      | not_open u n e ↦ order_same q reason.Unknown e
      | no_place_there place words at is n e ↦ (let same = ap script_reason_rank e in omega (arith, same))
      | no_load conn place value is e ↦ (let same = ap script_reason_rank e in omega (arith, same))
      | no_engine conn at is few e ↦ (let same = ap script_reason_rank e in omega (arith, same))
      | is_refused o refusal is refuses e ↦ (let same = ap script_reason_rank e in let late = reason_late refusal in omega (arith, same, late))
      | too_much submits much e ↦ (let same = ap script_reason_rank e in omega (arith, same))
    ];
  }

  opens_verdict : (conn words : ℕ) (found : Option ℕ) → heap (line.Conn conn words) ≡ found
      → Verdict (line.Conn conn words) (known_line_reason loads policies found (chain (line.Conn conn words)).entries
      (submissions before) (line.Conn conn words))
  opens_verdict conn words None none = λ q h. elim h [
    | is_open other opens is e ↦ (let clash : None ≡ Some other = sym none ∙ is in absurd cc)
    | not_open u n e ↦ false≢true (sym u)
    | no_place_there place w at is n e ↦ (let clash : ◌≡◌ {A = Option ℕ} None (Some place) = at in absurd cc)
    | no_load c place value is e ↦ absurd cc
    | no_engine c at is few e ↦ absurd cc
    | is_refused o refusal is refuses e ↦ no_op o ⊥ is
    | too_much submits much e ↦ false≢true submits
  ]
  opens_verdict conn words (Some other) is = record {
    stands = is_open other refl is refl;
    first = λ q h. elim h [
      | is_open w opens there e ↦ order_same q reason.Known e
      | not_open u n e ↦ absurd (false≢true (sym u))
      | no_place_there place w at there n e ↦ (let clash : ◌≡◌ {A = Option ℕ} None (Some place) = at in absurd cc)
      | no_load c place value same e ↦ absurd cc
      | no_engine c at same few e ↦ absurd cc
      | is_refused o refusal same refuses e ↦ no_op o _ same
      | too_much submits much e ↦ absurd (false≢true submits)
    ];
  }

  known_or : (l : ScriptLine) (found : Option ℕ) → heap l ≡ found → is_conn l ≡ false → Verdict l (known_line_reason loads policies found (chain l).entries (submissions before) l)
  known_or (line.Conn conn words) found is used = absurd (false≢true (sym used))
  known_or (line.Store conn place value) None is used = unknown_verdict (line.Store conn place value) used is
  known_or (line.Store conn place value) (Some words) is used = used_verdict words (line.Store conn place value) used is
  known_or (line.Race conn load place value) None is used = unknown_verdict (line.Race conn load place value) used is
  known_or (line.Race conn load place value) (Some words) is used = used_verdict words (line.Race conn load place value) used is
  known_or (line.Submit conn method number addr) None is used = unknown_verdict (line.Submit conn method number addr) used is
  known_or (line.Submit conn method number addr) (Some words) is used = used_verdict words (line.Submit conn method number addr) used is
  known_or (line.Attach conn at name policy) None is used = unknown_verdict (line.Attach conn at name policy) used is
  known_or (line.Attach conn at name policy) (Some words) is used = used_verdict words (line.Attach conn at name policy) used is
  known_or (line.Detach conn name) None is used = unknown_verdict (line.Detach conn name) used is
  known_or (line.Detach conn name) (Some words) is used = used_verdict words (line.Detach conn name) used is
  known_or (line.Upgrade conn name policy) None is used = unknown_verdict (line.Upgrade conn name policy) used is
  known_or (line.Upgrade conn name policy) (Some words) is used = used_verdict words (line.Upgrade conn name policy) used is
  known_or (line.Moment conn ms) None is used = unknown_verdict (line.Moment conn ms) used is
  known_or (line.Moment conn ms) (Some words) is used = used_verdict words (line.Moment conn ms) used is
  known_or (line.Turn conn at) None is used = unknown_verdict (line.Turn conn at) used is
  known_or (line.Turn conn at) (Some words) is used = used_verdict words (line.Turn conn at) used is
  known_or (line.Send conn) None is used = unknown_verdict (line.Send conn) used is
  known_or (line.Send conn) (Some words) is used = used_verdict words (line.Send conn) used is
  known_or (line.Drain conn) None is used = unknown_verdict (line.Drain conn) used is
  known_or (line.Drain conn) (Some words) is used = used_verdict words (line.Drain conn) used is

  pub line_verdict : (l : ScriptLine) → Verdict l (reason_after loads policies before l)
  line_verdict (line.Conn conn words) = opens_verdict conn words (heap (line.Conn conn words)) refl
  line_verdict (line.Store conn place value) = known_or (line.Store conn place value) (heap (line.Store conn place value)) refl refl
  line_verdict (line.Race conn load place value) = known_or (line.Race conn load place value) (heap (line.Race conn load place value)) refl refl
  line_verdict (line.Submit conn method number addr) = known_or (line.Submit conn method number addr) (heap (line.Submit conn method number addr)) refl refl
  line_verdict (line.Attach conn at name policy) = known_or (line.Attach conn at name policy) (heap (line.Attach conn at name policy)) refl refl
  line_verdict (line.Detach conn name) = known_or (line.Detach conn name) (heap (line.Detach conn name)) refl refl
  line_verdict (line.Upgrade conn name policy) = known_or (line.Upgrade conn name policy) (heap (line.Upgrade conn name policy)) refl refl
  line_verdict (line.Moment conn ms) = known_or (line.Moment conn ms) (heap (line.Moment conn ms)) refl refl
  line_verdict (line.Turn conn at) = known_or (line.Turn conn at) (heap (line.Turn conn at)) refl refl
  line_verdict (line.Send conn) = known_or (line.Send conn) (heap (line.Send conn)) refl refl
  line_verdict (line.Drain conn) = known_or (line.Drain conn) (heap (line.Drain conn)) refl refl
