-- The connection at an index of a run's connections, and its replacement.
use Rattle.std.proofs.Common.{◌≡◌, ◌≢◌, ℕ, suc, ◌+◌, ◌<◌, ◌≤◌, ◌==◌, Bool, true, false, cond, nat_lt, List, [], ◌∷◌}
use Rattle.std.proofs.Common.{◌++◌, length, map, take, drop, get_or, refl, sym, ap, ◌∙◌, arith, ⊎_elim}
use Rattle.std.specs.Prelude.{Option, Some, None, find, position, slice_get, slice_set}
use Rattle.std.specs.List.{AllByRecursion, position_or_len}
use Rattle.std.proofs.Math.Seq.{drop-cons}
use Rattle.std.proofs.lemmas.Bool.{cases_lt}
use Rattle.std.proofs.lemmas.Bool.Decides.{nat_tests}
use Rattle.std.proofs.lemmas.List.{map-append, take-append-drop, take-set, drop-set}
use Rattle.std.proofs.lemmas.List.Folds.{find_at}
use Rattle.std.proofs.lemmas.List.Quantifiers.{position-Some}
use Rattle.std.proofs.lemmas.Option.{same_Some, slice_get-get_or, slice_get_past}
use Rattle.replay_run.specs.Kept.{open_connection_of}
use Rattle.replay_run.specs.declared.connection.RunConnection.{RunConnection}

-- the connections before it and after it
pub record IsCut (cs : List RunConnection) (place : ℕ) (c : RunConnection) : Type 0 where
  pub within : place < length cs
  pub is : c ≡ get_or cs place c
  pub front : List RunConnection
  pub back : List RunConnection
  pub before : cs ≡ front ++ c ∷ back
  pub after : (d : RunConnection) → slice_set cs place d ≡ front ++ d ∷ back

cut-within : (cs : List RunConnection) (place : ℕ) (c : RunConnection) → slice_get cs place ≡ Some c → place < length cs → IsCut cs place c
cut-within cs place c at within =
    let is : c ≡ get_or cs place c = same_Some c (get_or cs place c) (sym at ∙ slice_get-get_or cs place c within) in
    let next : suc place ≡ place + 1 = omega arith in
    record {
      within = within;
      is = is;
      front = take place cs;
      back = drop (place + 1) cs;
      before = sym (take-append-drop place cs) ∙ ap (λ ys. take place cs ++ ys) (drop-cons cs place c within
          ∙ ap (λ n. get_or cs place c ∷ drop n cs) next)
          ∙ ap (λ e. take place cs ++ e ∷ drop (place + 1) cs) (sym is);
      after = λ d. sym (take-append-drop place (slice_set cs place d))
          ∙ ap (λ ds. ds ++ drop place (slice_set cs place d)) (take-set cs place d)
          ∙ ap (λ ds. take place cs ++ ds) (drop-set cs place d within);
    }

pub cut : (cs : List RunConnection) (place : ℕ) (c : RunConnection) → slice_get cs place ≡ Some c → IsCut cs place c
cut cs place c at = ⊎_elim
    (λ (within : place < length cs). cut-within cs place c at within)
    (λ (past : length cs ≤ place). let none : slice_get cs place ≡ None = slice_get_past cs place past in absurd cc)
    (cases_lt place (length cs))

pub opened-before : (cs : List RunConnection) (place : ℕ) (c : RunConnection) (it : IsCut cs place c)
    → map open_connection_of cs ≡ map open_connection_of it.front ++ open_connection_of c ∷ map open_connection_of it.back
opened-before cs place c it = ap (map open_connection_of) it.before ∙ map-append open_connection_of it.front (c ∷ it.back)

pub opened-after : (cs : List RunConnection) (place : ℕ) (c d : RunConnection) (it : IsCut cs place c)
    → map open_connection_of (slice_set cs place d) ≡ map open_connection_of it.front ++ open_connection_of d ∷ map open_connection_of it.back
opened-after cs place c d it = ap (map open_connection_of) (it.after d) ∙ map-append open_connection_of it.front (d ∷ it.back)

same-number : (a b : ℕ) → (a == b) ≡ true → a ≡ b
same-number a b test = grind (arith, nat_tests)

other-number : (a b : ℕ) → (a == b) ≡ false → a ≢ b
other-number a b test = grind (arith, nat_tests)

-- the one that was found has the number
pub found-number : (conn place : ℕ) (cs : List RunConnection) (c : RunConnection)
    → position (λ d. d.calls.conn == conn) cs ≡ Some place → slice_get cs place ≡ Some c → c.calls.conn ≡ conn
found-number conn place cs c found at =
    let p = position-Some (λ (d : RunConnection). d.calls.conn == conn) cs place c found in
    ap (λ (d : RunConnection). d.calls.conn) (cut cs place c at).is ∙ same-number (get_or cs place c).calls.conn conn p.1

no-place : (b : Bool) (n : ℕ) → cond b (Some n) None ≡ None → b ≡ false
no-place true n is = absurd cc
no-place false n is = refl

find-none : (conn : ℕ) (cs : List RunConnection) → position (λ c. c.calls.conn == conn) cs ≡ None → find (λ c. c.calls.conn == conn) cs ≡ None
find-none conn cs is =
    let p : RunConnection → Bool = λ c. c.calls.conn == conn in
    let past : nat_lt (position_or_len p cs) (length cs) ≡ false = no-place (nat_lt (position_or_len p cs) (length cs)) (position_or_len p cs) is in
    let end : length cs ≤ position_or_len p cs = grind (arith, nat_tests) in
    find_at p cs ∙ slice_get_past cs (position_or_len p cs) end

none-first : (b : Bool) (c : RunConnection) (o : Option RunConnection) → cond b (Some c) o ≡ None → (b ≡ false) × (o ≡ None)
none-first true c o is = absurd cc
none-first false c o is = (refl, is)

others : (conn : ℕ) (cs : List RunConnection) → find (λ c. c.calls.conn == conn) cs ≡ None → AllByRecursion (λ n. n ≢ conn) (map (λ c. c.calls.conn) cs)
others conn [] is = tt
others conn (c ∷ cs) is =
    let first = none-first (c.calls.conn == conn) c (find (λ (d : RunConnection). d.calls.conn == conn) cs) is in
    (other-number c.calls.conn conn first.0, others conn cs first.1)

-- if none is found, none has the number
pub lacks-number : (conn : ℕ) (cs : List RunConnection) → position (λ c. c.calls.conn == conn) cs ≡ None → AllByRecursion (λ n. n ≢ conn) (map (λ c. c.calls.conn) cs)
lacks-number conn cs is = others conn cs (find-none conn cs is)
