-- The code's own: what the checker's parts know of a history during a check.
use Rattle.std.specs.Prelude.{◌≡◌, ◌≢◌, ℕ, ◌+◌, ◌<◌, ◌≤◌, ◌^◌, ◌⊎◌, List, [], ◌∷◌, ◌++◌, All, Contains, Option, None, Some, drop, length, map, slice_get}
use Rattle.std.specs.BTreeMap.{BTreeMap, get, keys}
use Rattle.std.specs.List.{AllByRecursion, flat_map}
use Rattle.std.specs.Ordering.{nat_cmp}
use Rattle.mrpc_table.specs.declared.table.Table.{Table}
use Rattle.call_history.specs.Trace.{Trace, pending_calls}
use Rattle.call_history.specs.Legal.{History, HasNoObligation, trace_of}
use Rattle.audit_rules.specs.BrokenRules.{HasObligationOf, rule_rank}
use Rattle.audit_rules.specs.CheckerState.{IsCheckerAfter, KnowsListed, checker_context}
use Rattle.audit_rules.specs.declared.checker.Checker.{Checker}
use Rattle.audit_rules.specs.declared.rule.Rule.{Rule}
use Rattle.audit_check.specs.Checking.{AreLegalPrefixes, CallName, StandsLine, AreNextPending, call_name_of, lines_on, context_on}
use Rattle.audit_check.specs.declared.connections.Checkers.{Checkers}
use Rattle.audit_check.specs.declared.connections.TheConstants.{NEAR}
use Rattle.audit_check.specs.declared.listing.PendingListing.{PendingListing}
use Rattle.audit_check.specs.declared.listing.PendingLine.{PendingLine}
use Rattle.audit_check.specs.declared.listing.ConnectionChecker.{ConnectionChecker}

-- ---- the first line of a text

-- a line has one line feed, at its end
abbrev pub IsTerminatedLine : List ℕ → Type 0
IsTerminatedLine line = (front : List ℕ) × (line ≡ front ++ 10 ∷ []) × All (λ c. c ≢ 10) front

-- the first line, up to its line feed; without a line feed, all of the text
pub record IsFirstLine (text line rest : List ℕ) : Type 0 where
  pub joined : text ≡ line ++ rest
  pub ends : IsTerminatedLine line ⊎ (All (λ c. c ≢ 10) line × (rest ≡ []))

-- ---- the checkers of connections

-- a checker knows the trace of its connection; without a checker, the trace is empty
abbrev pub KnowsOn : Table → ℕ → ℕ → Trace → Option Checker → Type 0
KnowsOn T limit conn past None = past ≡ []
KnowsOn T limit conn past (Some c) = IsCheckerAfter T past c × (checker_context T c ≡ context_on T limit conn)

abbrev pub KnowsEach : Table → ℕ → History → BTreeMap ℕ Checker → Type 0
KnowsEach T limit h m = (conn : ℕ) → KnowsOn T limit conn (trace_of conn h) (get nat_cmp m conn)

-- the checker in a connection's slot, or else in the map
abbrev pub checker_in : Option Checker → Option Checker → Option Checker
checker_in None far = far
checker_in (Some c) far = Some c

abbrev pub checker_of : Checkers → ℕ → Option Checker
checker_of c conn = checker_in (slice_get c.near.items conn) (get nat_cmp c.far conn)

pub record KnowsAll (T : Table) (h : History) (c : Checkers) : Type 0 where
  pub knows : (conn : ℕ) → KnowsOn T c.limit conn (trace_of conn h) (checker_of c conn)
  pub few : length c.near.items ≤ NEAR

-- they know some history of fewer than 2^32 events, by some margin
abbrev pub IsOfSomeHistory : Table → Checkers → Type 0
IsOfSomeHistory T c = (h : History) × KnowsAll T h c × (length h + 2 < 2 ^ 32)

-- ---- obligations

-- of two rules, if any, this is one, and none of them has a lower rank
abbrev pub IsEarlier : Option Rule → Option Rule → Option Rule → Type 0
IsEarlier None other result = result ≡ other
IsEarlier (Some rule) None result = result ≡ Some rule
IsEarlier (Some rule) (Some second) result =
    ((result ≡ Some rule) × (rule_rank rule ≤ rule_rank second))
    ⊎ ((result ≡ Some second) × (rule_rank second ≤ rule_rank rule))

-- of the rules with an obligation on these connections, if any, this is the first
pub record IsFirstObligationOn (h : History) (conns : List ℕ) (rule : Rule) : Type 0 where
  pub conn : ℕ
  pub awaited : HasObligationOf (trace_of conn h) rule
  pub earlier : All (λ conn. (other : Rule) → rule_rank other < rule_rank rule → HasObligationOf (trace_of conn h) other
      → ⊥) conns

abbrev pub IsFirstObligationIn : History → List ℕ → Option Rule → Type 0
IsFirstObligationIn h conns None = All (λ conn. HasNoObligation (trace_of conn h)) conns
IsFirstObligationIn h conns (Some rule) = IsFirstObligationOn h conns rule

-- ---- the pending calls

abbrev pub stands_line_of : PendingLine → StandsLine
stands_line_of told = record {
  conn = told.conn;
  seq = told.seq;
  position = told.position;
  name = told.name;
  holding = told.holding;
}

-- the pending calls of a connection, and those of some connections
abbrev pub calls_on : History → ℕ → List CallName
calls_on h conn = map (λ call. (conn, call.seq)) (pending_calls (trace_of conn h))

abbrev pub calls_on_all : History → List ℕ → List CallName
calls_on_all h conns = flat_map (calls_on h) conns

-- numbers ascend
abbrev pub AreAscending : List ℕ → Type 0
AreAscending [] = Unit {0}
AreAscending (n ∷ ns) = AllByRecursion (λ m. n < m) ns × AreAscending ns

-- the connections with calls that may be unlisted, and these calls
abbrev pub unlisted_connections : Option ConnectionChecker → BTreeMap ℕ Checker → List ℕ
unlisted_connections None rest = []
unlisted_connections (Some turn) rest = turn.conn ∷ keys rest

abbrev pub unlisted_calls : History → List StandsLine → Option ConnectionChecker → BTreeMap ℕ Checker → List CallName
unlisted_calls h told None rest = []
unlisted_calls h told (Some turn) rest =
    drop (length (lines_on turn.conn told)) (calls_on h turn.conn) ++ calls_on_all h (keys rest)

-- the first connection was removed from a map, if it had one
abbrev pub IsPopped : BTreeMap ℕ Checker → Option ConnectionChecker → BTreeMap ℕ Checker → Type 0
IsPopped before None after = before.entries ≡ []
IsPopped before (Some turn) after = before.entries ≡ (turn.conn, turn.checker) ∷ after.entries

-- all pending calls of a connection are listed
abbrev pub IsAllListed : History → List StandsLine → Option ConnectionChecker → Type 0
IsAllListed h told None = ⊥
IsAllListed h told (Some turn) = length (lines_on turn.conn told) ≡ length (pending_calls (trace_of turn.conn h))

-- a checker knows its connection, and lines have listed these calls of it
pub record KnowsLines (T : Table) (limit : ℕ) (h : History) (told : List StandsLine) (conn : ℕ) (c : Checker)
    : Type 0 where
  pub knows : KnowsListed T (trace_of conn h) (map (λ s. s.position) (lines_on conn told)) c
  pub judges : checker_context T c ≡ context_on T limit conn
  pub fits : length (lines_on conn told) ≤ length (pending_calls (trace_of conn h))

-- of the later connections no call is listed yet
abbrev pub KnowsUnlisted : Table → ℕ → History → List StandsLine → ℕ × Checker → Type 0
KnowsUnlisted T limit h told e = KnowsLines T limit h told e.0 e.1 × (lines_on e.0 told ≡ [])

abbrev pub KnowsCurrent : Table → ℕ → History → List StandsLine → Option ConnectionChecker → Type 0
KnowsCurrent T limit h told None = Unit {0}
KnowsCurrent T limit h told (Some turn) = KnowsLines T limit h told turn.conn turn.checker

abbrev pub KnowsOthers : Table → ℕ → History → List StandsLine → Option ConnectionChecker → BTreeMap ℕ Checker → Type 0
KnowsOthers T limit h told None rest = Unit {0}
KnowsOthers T limit h told (Some turn) rest =
    KnowsLines T limit h told turn.conn turn.checker × AllByRecursion (KnowsUnlisted T limit h told) rest.entries

-- a row has listed these lines
pub record IsListingOf (T : Table) (limit : ℕ) (h : History) (told : List StandsLine)
    (current : Option ConnectionChecker)
    (rest : BTreeMap ℕ Checker) : Type 0 where
  pub done : List ℕ
  pub rise : AreAscending (done ++ unlisted_connections current rest)
  pub others : (conn : ℕ) → (Contains (done ++ unlisted_connections current rest) conn → ⊥) → trace_of conn h ≡ []
  pub calls : calls_on_all h (done ++ unlisted_connections current rest)
      ≡ map call_name_of told ++ unlisted_calls h told current rest
  pub knows : KnowsOthers T limit h told current rest
  pub tell : (conn : ℕ) → AreNextPending (context_on T limit conn) (trace_of conn h) [] (lines_on conn told)
  pub prefixes : AreLegalPrefixes T limit h

abbrev pub IsListing : Table → ℕ → History → List StandsLine → PendingListing → Type 0
IsListing T limit h told row = IsListingOf T limit h told row.current row.rest
