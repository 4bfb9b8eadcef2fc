-- The state of connections after lines doesn't depend on later declarations.
use Rattle.std.proofs.Common.{◌≡◌, ℕ, zero, suc, ◌<◌, ◌≤◌, ◌==◌, List, [], ◌∷◌, ◌++◌, length, Option, refl, sym, ap, subst, ◌∙◌, append_assoc, arith}
use Rattle.std.specs.Prelude.{slice_get, option_map, if◌then◌else◌}
use Rattle.std.proofs.lemmas.List.{append-nil, length-append}
use Rattle.engine_core.specs.Chains.{Chain, IsRejection}
use Rattle.engine_core.specs.declared.op.Op.{Op}
use Rattle.policy_declarations.specs.declared.declaration.NamedPolicy.{NamedPolicy}
use Rattle.script_grammar.specs.declared.fault.ScriptReason.{ScriptReason}
use Rattle.replay_script.specs.Changes.{AreValidLines}
use Rattle.replay_script.specs.Lines.{conn_of, op_in, chain_after_op, new_chain, chain_after, chain_after_lines, IsValidLine, HasReasonAfter}
use Rattle.replay_script.specs.Lines.{is_open, not_open, no_place_there, no_load, no_engine, is_refused, too_much}
use Rattle.replay_script.specs.Lines.{IsAllowedAfter, AreAllowed}
use Rattle.replay_script.specs.declared.script.ScriptLine.{ScriptLine}
use Rattle.replay_script.specs.declared.script.ScriptLine.TheVariants as line

get_front : {X : Type 0} (xs ys : List X) (k : ℕ) → k < length xs → slice_get (xs ++ ys) k ≡ slice_get xs k
get_front [] ys k within = absurd (omega (arith, within))
get_front (x ∷ xs) ys zero within = refl
get_front (x ∷ xs) ys (suc k) within = get_front xs ys k (omega (arith, within))

module _ (ps qs : List NamedPolicy) where
  abbrev count : ℕ
  count = length ps

  pub same_op : (l : ScriptLine) → IsValidLine count l → op_in (ps ++ qs) l ≡ op_in ps l
  same_op (line.Attach conn at name policy) ranges = ap (option_map _) (get_front ps qs policy ranges.1)
  same_op (line.Upgrade conn name policy) ranges = ap (option_map _) (get_front ps qs policy ranges.1)
  same_op (line.Conn conn words) ranges = refl
  same_op (line.Store conn place value) ranges = refl
  same_op (line.Race conn load place value) ranges = refl
  same_op (line.Submit conn method number addr) ranges = refl
  same_op (line.Detach conn name) ranges = refl
  same_op (line.Moment conn ms) ranges = refl
  same_op (line.Turn conn at) ranges = refl
  same_op (line.Send conn) ranges = refl
  same_op (line.Drain conn) ranges = refl

  same_behind : (chain : Chain) (lines : List ScriptLine) (conn : ℕ) → AreValidLines count lines → chain_after (ps ++ qs) chain lines conn ≡ chain_after ps chain lines conn
  same_behind chain [] conn ranges = refl
  same_behind chain (l ∷ lines) conn ranges =
      ap (λ (o : Option Op). chain_after (ps ++ qs) (if conn_of l == conn then chain_after_op o chain else chain) lines conn) (same_op l ranges.0)
      ∙ same_behind (if conn_of l == conn then chain_after_op (op_in ps l) chain else chain) lines conn ranges.1

  pub same_chain : (lines : List ScriptLine) (conn : ℕ) → AreValidLines count lines → chain_after_lines (ps ++ qs) lines conn ≡ chain_after_lines ps lines conn
  same_chain lines conn ranges = same_behind new_chain lines conn ranges

  pub same_against : (loads : ℕ) (before : List ScriptLine) (l : ScriptLine) (q : ScriptReason) → AreValidLines count before
      → IsValidLine count l → HasReasonAfter loads (ps ++ qs) before l q → HasReasonAfter loads ps before l q
  same_against loads before l q lines ranges (is_open words opens is e) = is_open words opens is e
  same_against loads before l q lines ranges (not_open used none e) = not_open used none e
  same_against loads before l q lines ranges (no_place_there place words at is none e) = no_place_there place words at is none e
  same_against loads before l q lines ranges (no_load conn place value is e) = no_load conn place value is e
  same_against loads before l q lines ranges (no_engine conn at is few e) = no_engine conn at is (subst (λ (c : Chain). length c.entries ≤ at) (same_chain before conn lines) few) e
  same_against loads before l q lines ranges (is_refused o refusal is refuses e) =
      is_refused o refusal (sym (same_op l ranges) ∙ is) (subst (λ (c : Chain). IsRejection c o refusal) (same_chain before (conn_of l) lines) refuses) e
  same_against loads before l q lines ranges (too_much submits much e) = too_much submits much e

  more_lines : (l : ScriptLine) → IsValidLine count l → IsValidLine (length (ps ++ qs)) l
  more_lines (line.Attach conn at name policy) ranges = (ranges.0, (let within = ranges.1 in let long = length-append ps qs in omega (arith, within, long)))
  more_lines (line.Upgrade conn name policy) ranges = (ranges.0, (let within = ranges.1 in let long = length-append ps qs in omega (arith, within, long)))
  more_lines (line.Conn conn words) ranges = ranges
  more_lines (line.Store conn place value) ranges = ranges
  more_lines (line.Race conn load place value) ranges = ranges
  more_lines (line.Submit conn method number addr) ranges = ranges
  more_lines (line.Detach conn name) ranges = ranges
  more_lines (line.Moment conn ms) ranges = ranges
  more_lines (line.Turn conn at) ranges = ranges
  more_lines (line.Send conn) ranges = ranges
  more_lines (line.Drain conn) ranges = ranges

  pub all_more : (lines : List ScriptLine) → AreValidLines count lines → AreValidLines (length (ps ++ qs)) lines
  all_more [] ranges = tt
  all_more (l ∷ lines) ranges = (more_lines l ranges.0, all_more lines ranges.1)

pub lines_push : (n : ℕ) (lines : List ScriptLine) (l : ScriptLine) → AreValidLines n lines → IsValidLine n l → AreValidLines n (lines ++ l ∷ [])
lines_push n [] l ranges more = (more, tt)
lines_push n (k ∷ ks) l ranges more = (ranges.0, lines_push n ks l ranges.1 more)

module _ (loads : ℕ) where
  pub lines_of : (ps : List NamedPolicy) (before lines : List ScriptLine) → AreAllowed loads ps before lines → AreValidLines (length ps) lines
  lines_of ps before [] allowed = tt
  lines_of ps before (l ∷ lines) allowed = (allowed.0.ranges, lines_of ps (before ++ l ∷ []) lines allowed.1)

  pub allowed_grown : (ps qs : List NamedPolicy) (before lines : List ScriptLine) → AreValidLines (length ps) before → AreAllowed loads ps before lines → AreAllowed loads (ps ++ qs) before lines
  allowed_grown ps qs before [] lines allowed = tt
  allowed_grown ps qs before (l ∷ ls) lines allowed = (
    record {
      conn_from = allowed.0.conn_from;
      conn_to = allowed.0.conn_to;
      ranges = more_lines ps qs l allowed.0.ranges;
      free = λ q against. allowed.0.free q (same_against ps qs loads before l q lines allowed.0.ranges against);
    },
    allowed_grown ps qs (before ++ l ∷ []) ls (lines_push (length ps) before l lines allowed.0.ranges) allowed.1,
  )

  pub allowed_more : (ps : List NamedPolicy) (before lines : List ScriptLine) (l : ScriptLine) → AreAllowed loads ps before lines
      → IsAllowedAfter loads ps (before ++ lines) l → AreAllowed loads ps before (lines ++ l ∷ [])
  allowed_more ps before [] l h allowed = (subst (λ (ls : List ScriptLine). IsAllowedAfter loads ps ls l) (append-nil before) allowed, tt)
  allowed_more ps before (k ∷ ls) l h allowed =
      (h.0, allowed_more ps (before ++ k ∷ []) ls l h.1 (subst (λ (ks : List ScriptLine). IsAllowedAfter loads ps ks l) (sym (append_assoc before (k ∷ []) ls)) allowed))

-- ---- one more line

pub chain_push : (ps : List NamedPolicy) (chain : Chain) (lines : List ScriptLine) (l : ScriptLine) (conn : ℕ)
    → chain_after ps chain (lines ++ l ∷ []) conn ≡ (if conn_of l == conn then chain_after_op (op_in ps l) (chain_after ps chain lines conn) else chain_after ps chain lines conn)
chain_push ps chain [] l conn = refl
chain_push ps chain (k ∷ ks) l conn = chain_push ps (if conn_of k == conn then chain_after_op (op_in ps k) chain else chain) ks l conn
