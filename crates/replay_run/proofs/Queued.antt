-- The pending calls, in the order of their lines.
use Rattle.std.proofs.Common.{◌≡◌, ◌≢◌, ℕ, zero, suc, ◌+◌, ◌-◌, ◌<◌, Bool, true, false, List, [], ◌∷◌, ◌++◌, length}
use Rattle.std.proofs.Common.{map, get_or, Option, Some, None, refl, sym, ap, ◌∙◌, subst, arith}
use Rattle.std.proofs.lemmas.Bool.{cond-true, cond-false, ne_eqb}
use Rattle.std.proofs.lemmas.List.{length-map}
use Rattle.std.proofs.lemmas.List.Quantifiers.{position-Some}
use Rattle.std.specs.Prelude.{◌==◌, find, option_map, position, slice_get, unwrap_or}
use Rattle.std.specs.Io.KnownBytes.{Appends}
use Rattle.std.specs.List.{AllByRecursion, flat_map, range_with_len}
use Rattle.engine_core.specs.Marks.{PendingCall, seqs_of}
use Rattle.engine_core.specs.Moves.{Row}
use Rattle.replay_run.specs.Follows.{OpenConnection}
use Rattle.replay_run.specs.Kept.{IsPrefixWritten, open_connection_of}
use Rattle.replay_run.specs.PendingLines.{stands_lines_at, stands_lines_on}
use Rattle.replay_run.specs.declared.connection.RunConnection.{RunConnection}
use Rattle.replay_run.proofs.Places.{lacks-number}
use Rattle.replay_run.proofs.Written.{TellsRest, rest-more, rest-some, some-in}

pub rows-long : (row : Row) (calls : List PendingCall) → map (λ call. call.0) row ≡ seqs_of calls → length row ≡ length calls
rows-long row calls same = sym (length-map row (λ (call : ℕ × ℕ). call.0)) ∙ ap length same ∙ length-map calls (λ (s : PendingCall). s.call.seq)

-- the first match is found
find-at : (p : OpenConnection → Bool) (cs : List RunConnection) (i : ℕ) (c : RunConnection) → slice_get cs i ≡ Some c → p (open_connection_of c) ≡ true
    → ((k : ℕ) → k < i → p (open_connection_of (get_or cs k c)) ≡ false) → find p (map open_connection_of cs) ≡ Some (open_connection_of c)
find-at p [] i c at passes others = cc
find-at p (d ∷ cs) zero c at passes others =
    let same : d ≡ c = cc in
    cond-true (p (open_connection_of d)) (Some (open_connection_of d)) (find p (map open_connection_of cs))
    (subst (λ (x : RunConnection). p (open_connection_of x) ≡ true) (sym same) passes)
    ∙ ap (λ (x : RunConnection). Some (open_connection_of x)) same
find-at p (d ∷ cs) (suc i) c at passes others =
    cond-false (p (open_connection_of d)) (Some (open_connection_of d)) (find p (map open_connection_of cs)) (others zero (omega arith))
    ∙ find-at p cs i c at passes (λ k low. others (suc k) (omega arith))

at-index : (cs : List RunConnection) (i : ℕ) (c : RunConnection) → i < length cs → c ≡ get_or cs i c → slice_get cs i ≡ Some c
at-index [] i c low is = absurd (omega arith)
at-index (d ∷ cs) zero c low is = ap (λ (x : RunConnection). Some x) (sym is)
at-index (d ∷ cs) (suc i) c low is = at-index cs i c (omega arith) is

found-there : (cs : List RunConnection) (conn place : ℕ) (c : RunConnection) → position (λ d. d.calls.conn == conn) cs ≡ Some place → c ≡ get_or cs place c
    → find (λ o. o.conn == conn) (map open_connection_of cs) ≡ Some (open_connection_of c)
found-there cs conn place c found is =
    let it = position-Some (λ (d : RunConnection). d.calls.conn == conn) cs place c found in
    find-at (λ o. o.conn == conn) cs place c (at-index cs place c it.0 is) (subst (λ (d : RunConnection). (d.calls.conn == conn) ≡ true) (sym is) it.1) it.2

lacks-find : (conn : ℕ) (cs : List RunConnection) → AllByRecursion (λ n. n ≢ conn) (map (λ c. c.calls.conn) cs) → find (λ o. o.conn == conn) (map open_connection_of cs) ≡ None
lacks-find conn [] lacks = refl
lacks-find conn (c ∷ cs) lacks =
    cond-false (c.calls.conn == conn) (Some (open_connection_of c)) (find (λ o. o.conn == conn) (map open_connection_of cs)) (ne_eqb c.calls.conn conn lacks.0) ∙ lacks-find conn cs lacks.1

-- numbers up to an end
pub range-step : (k end : ℕ) → k < end → range_with_len k (end - k) ≡ k ∷ range_with_len (k + 1) (end - (k + 1))
range-step k end low =
    let long : end - k ≡ suc (end - (k + 1)) = omega arith in
    ap (range_with_len k) long

module _ (cs : List RunConnection) where
  pub stands-found : (conn place : ℕ) (c : RunConnection) → position (λ d. d.calls.conn == conn) cs ≡ Some place → c ≡ get_or cs place c
      → stands_lines_at (map open_connection_of cs) conn ≡ stands_lines_on (open_connection_of c)
  stands-found conn place c found is = ap (λ (o : Option OpenConnection). unwrap_or (option_map stands_lines_on o) []) (found-there cs conn place c found is)

  pub stands-nowhere : (conn : ℕ) → position (λ d. d.calls.conn == conn) cs ≡ None → stands_lines_at (map open_connection_of cs) conn ≡ []
  stands-nowhere conn none = ap (λ (o : Option OpenConnection). unwrap_or (option_map stands_lines_on o) []) (lacks-find conn cs (lacks-number conn cs none))

  pub stands-one : (first out next : Option (List ℕ)) (conn : ℕ) (bytes all : List ℕ) → conn < 17
      → TellsRest first out (flat_map (stands_lines_at (map open_connection_of cs)) (range_with_len conn (17 - conn))) all → stands_lines_at (map open_connection_of cs) conn ≡ bytes → Appends out next bytes
      → TellsRest first next (flat_map (stands_lines_at (map open_connection_of cs)) (range_with_len (conn + 1) (17 - (conn + 1)))) all
  stands-one first out next conn bytes all low t is a =
      rest-more first out next (stands_lines_at (map open_connection_of cs) conn) (flat_map (stands_lines_at (map open_connection_of cs)) (range_with_len (conn + 1) (17 - (conn + 1)))) all
      (subst (λ ns. TellsRest first out (flat_map (stands_lines_at (map open_connection_of cs)) ns) all) (range-step conn 17 low) t) (subst (Appends out next) (sym is) a)

  pub stands-some : (first out next : Option (List ℕ)) (conn : ℕ) (bytes all : List ℕ) → conn < 17
      → TellsRest first out (flat_map (stands_lines_at (map open_connection_of cs)) (range_with_len conn (17 - conn))) all → stands_lines_at (map open_connection_of cs) conn ≡ bytes → IsPrefixWritten out next bytes
      → IsPrefixWritten first next all
  stands-some first out next conn bytes all low t is some =
      rest-some first out next (stands_lines_at (map open_connection_of cs) conn ++ flat_map (stands_lines_at (map open_connection_of cs)) (range_with_len (conn + 1) (17 - (conn + 1)))) all
      (subst (λ ns. TellsRest first out (flat_map (stands_lines_at (map open_connection_of cs)) ns) all) (range-step conn 17 low) t)
      (some-in out next (stands_lines_at (map open_connection_of cs) conn)
      (flat_map (stands_lines_at (map open_connection_of cs)) (range_with_len (conn + 1) (17 - (conn + 1))))
      (subst (IsPrefixWritten out next) (sym is) some))

pub open-there : (cs : List RunConnection) (conn place : ℕ) (c : RunConnection)
    → position (λ d. d.calls.conn == conn) cs ≡ Some place → c ≡ get_or cs place c → slice_get cs place ≡ Some c
open-there cs conn place c found is =
    let it = position-Some (λ (d : RunConnection). d.calls.conn == conn) cs place c found in
    at-index cs place c it.0 is
