-- The code's own: the kept state of connections, and what a line means in it.
use Rattle.std.specs.Prelude.{◌≡◌, ◌<◌, ◌≤◌, All, ℕ, ◌+◌, ◌-◌, ◌*◌, nat_lt, nat_le, false, ◌&&◌, if◌then◌else◌, List, [], length, Option, Some, None, Result, Ok, Err, slice_get, unwrap_or, set, insert}
use Rattle.mrpc_table.specs.declared.words.Decimal.{Decimal}
use Rattle.mrpc_table.specs.declared.words.Decimal.TheVariants.{Small, Large}
use Rattle.policy_declarations.specs.Declarations.{Declared, policy_index}
use Rattle.policy_declarations.specs.declared.declaration.NamedPolicy.{NamedPolicy}
use Rattle.script_grammar.specs.WordKinds.{Meaning, number_at, unbounded_at, name_at}
use Rattle.script_grammar.specs.declared.form.LineForm.{LineForm}
use Rattle.script_grammar.specs.declared.form.LineForm.TheVariants as form
use Rattle.script_grammar.specs.declared.fault.ScriptReason.{ScriptReason}
use Rattle.script_grammar.specs.declared.fault.ScriptReason.TheVariants.{Known, Unknown, Place, Work}
use Rattle.replay_script.specs.declared.body.Body.{Body}
use Rattle.replay_script.specs.declared.connections.ConnectionState.{ConnectionState}
use Rattle.replay_script.specs.declared.body.LineError.{LineError}
use Rattle.replay_script.specs.declared.body.LineError.TheVariants as flaw
use Rattle.replay_script.specs.EntryKinds.{entry_kind_of, without, attach_position, check_detach, check_upgrade, engine_in}
use Rattle.replay_script.specs.declared.chain.EntryKind.{EntryKind}
use Rattle.replay_script.specs.declared.chain.EntryKind.TheVariants as kind
use Rattle.replay_script.specs.declared.chain.EntryOutline.{EntryOutline}
use Rattle.replay_script.specs.Lines.{conn_of}
use Rattle.replay_script.specs.declared.limits.TheConstants.{MAX_WORK}
use Rattle.replay_script.specs.declared.script.ScriptLine.{ScriptLine}
use Rattle.replay_script.specs.declared.script.ScriptLine.TheVariants as line

infixl 10 ◌>>=◌
abbrev pub ◌>>=◌ : {A B : Type 0} → Result A ScriptReason → (A → Result B ScriptReason) → Result B ScriptReason
(Ok x) >>= f = f x
(Err e) >>= f = Err e

-- ---- connections

abbrev pub closed_connection : ConnectionState
closed_connection = record { words = None; links = [] }

abbrev pub IsClosedConnection : ConnectionState → Type 0
IsClosedConnection c = c ≡ closed_connection

-- the connection with a number from 1 to 16
abbrev pub connection_at : List ConnectionState → ℕ → ConnectionState
connection_at connections conn = unwrap_or (slice_get connections (conn - 1)) closed_connection

abbrev pub links_at : List ConnectionState → ℕ → List EntryOutline
links_at connections conn = (connection_at connections conn).links

abbrev pub with_open : List ConnectionState → (conn words : ℕ) → List ConnectionState
with_open connections conn words =
    set connections (conn - 1) (record { words = Some words; links = links_at connections conn })

abbrev pub with_chain : List ConnectionState → ℕ → List EntryOutline → List ConnectionState
with_chain connections conn links =
    set connections (conn - 1) (record { words = (connection_at connections conn).words; links = links })

abbrev pub words_kept : Body → ℕ → Option ℕ
words_kept b conn = (connection_at b.connections conn).words

abbrev pub links_kept : Body → ℕ → List EntryOutline
links_kept b conn = links_at b.connections conn

-- ---- lines

abbrev pub heap_kept : Option ℕ → Result ℕ ScriptReason
heap_kept (Some words) = Ok words
heap_kept None = Err Unknown

abbrev pub place_kept : ℕ → Decimal → Result ℕ ScriptReason
place_kept words (Small place) = if nat_le 1 place && nat_lt place words then Ok place else Err Place
place_kept words Large = Err Place

abbrev pub load_kept : ℕ → Result ℕ ScriptReason
load_kept load = if nat_lt 0 load then Ok load else Err Place

abbrev pub work_kept : ℕ → Result (Unit {0}) ScriptReason
work_kept words = if nat_le words MAX_WORK then Ok tt else Err Work

abbrev pub if_closed : Option ℕ → ScriptLine → Result ScriptLine ScriptReason
if_closed (Some words) l = Err Known
if_closed None l = Ok l

abbrev pub place_or_unknown : Option ℕ → Result ℕ ScriptReason
place_or_unknown (Some place) = Ok place
place_or_unknown None = Err Unknown

abbrev pub policy_kept : Declared → List ℕ → Result ℕ ScriptReason
policy_kept d name = place_or_unknown (policy_index d name)

abbrev pub entry_kind_in : Option NamedPolicy → EntryKind
entry_kind_in None = kind.Count
entry_kind_in (Some p) = entry_kind_of p.policy

abbrev pub entry_kind_at : Declared → ℕ → EntryKind
entry_kind_at d place = entry_kind_in (slice_get d.policies place)

abbrev pub line_of_conn : Body → List Meaning → Result ScriptLine ScriptReason
line_of_conn b m = if_closed (words_kept b (number_at m 1)) (line.Conn (number_at m 1) (number_at m 2))

unfoldable pub line_of_store : Body → List Meaning → Result ScriptLine ScriptReason
line_of_store b m = do
  words ← heap_kept (words_kept b (number_at m 1))
  place ← place_kept words (unbounded_at m 2)
  Ok (line.Store (number_at m 1) place (number_at m 3))

unfoldable pub line_of_race : Body → List Meaning → Result ScriptLine ScriptReason
line_of_race b m = do
  words ← heap_kept (words_kept b (number_at m 1))
  load ← load_kept (number_at m 2)
  place ← place_kept words (unbounded_at m 3)
  Ok (line.Race (number_at m 1) load place (number_at m 4))

unfoldable pub line_of_submit : (loads : ℕ) → Body → List Meaning → (number : ℕ) → Result ScriptLine ScriptReason
line_of_submit loads b m number = do
  words ← heap_kept (words_kept b (number_at m 1))
  room ← work_kept ((b.submissions + 1) * loads)
  Ok (line.Submit (number_at m 1) (number_at m 2) number (number_at m 3))

unfoldable pub attaching : Declared → Body → List Meaning → Result (ℕ × ℕ) ScriptReason
attaching d b m = do
  words ← heap_kept (words_kept b (number_at m 1))
  policy ← policy_kept d (name_at m 4)
  at ← attach_position (links_kept b (number_at m 1)) (unbounded_at m 2) (name_at m 3)
  Ok (at, policy)

abbrev pub line_of_attach : Declared → Body → List Meaning → Result ScriptLine ScriptReason
line_of_attach d b m = attaching d b m >>= (λ p. Ok (line.Attach (number_at m 1) p.0 (name_at m 3) p.1))

unfoldable pub detaching : Body → List Meaning → Result (Unit {0}) ScriptReason
detaching b m = do
  words ← heap_kept (words_kept b (number_at m 1))
  check_detach (links_kept b (number_at m 1)) (name_at m 2)

abbrev pub line_of_detach : Body → List Meaning → Result ScriptLine ScriptReason
line_of_detach b m = detaching b m >>= (λ there. Ok (line.Detach (number_at m 1) (name_at m 2)))

unfoldable pub upgrading : Declared → Body → List Meaning → Result ℕ ScriptReason
upgrading d b m = do
  words ← heap_kept (words_kept b (number_at m 1))
  policy ← policy_kept d (name_at m 3)
  there ← check_upgrade (links_kept b (number_at m 1)) (name_at m 2) (entry_kind_at d policy)
  Ok policy

abbrev pub line_of_upgrade : Declared → Body → List Meaning → Result ScriptLine ScriptReason
line_of_upgrade d b m = upgrading d b m >>= (λ policy. Ok (line.Upgrade (number_at m 1) (name_at m 2) policy))

unfoldable pub line_of_turn : Body → List Meaning → Result ScriptLine ScriptReason
line_of_turn b m = do
  words ← heap_kept (words_kept b (number_at m 1))
  at ← engine_in (links_kept b (number_at m 1)) (unbounded_at m 2)
  Ok (line.Turn (number_at m 1) at)

-- a line that uses an open connection, and has no other reason
unfoldable pub line_of_open : Body → List Meaning → ScriptLine → Result ScriptLine ScriptReason
line_of_open b m l = do
  words ← heap_kept (words_kept b (number_at m 1))
  Ok l

abbrev pub line_of_moment : Body → List Meaning → Result ScriptLine ScriptReason
line_of_moment b m = line_of_open b m (line.Moment (number_at m 1) (number_at m 2))

abbrev pub line_of_send : Body → List Meaning → Result ScriptLine ScriptReason
line_of_send b m = line_of_open b m (line.Send (number_at m 1))

abbrev pub line_of_drain : Body → List Meaning → Result ScriptLine ScriptReason
line_of_drain b m = line_of_open b m (line.Drain (number_at m 1))

-- what words of a form mean
abbrev pub line_of_form : (loads : ℕ) → Declared → Body → LineForm → List Meaning → Result ScriptLine ScriptReason
line_of_form loads d b form.Conn m = line_of_conn b m
line_of_form loads d b form.Store m = line_of_store b m
line_of_form loads d b form.Race m = line_of_race b m
line_of_form loads d b form.Submit m = line_of_submit loads b m 0
line_of_form loads d b form.Reply m = line_of_submit loads b m (number_at m 4)
line_of_form loads d b form.Attach m = line_of_attach d b m
line_of_form loads d b form.Detach m = line_of_detach b m
line_of_form loads d b form.Upgrade m = line_of_upgrade d b m
line_of_form loads d b form.Moment m = line_of_moment b m
line_of_form loads d b form.Turn m = line_of_turn b m
line_of_form loads d b form.Send m = line_of_send b m
line_of_form loads d b form.Drain m = line_of_drain b m
line_of_form loads d b _ m = Err Unknown

-- a line was made, or has a reason; running out of memory claims nothing
abbrev pub IsMade : Result ScriptLine ScriptReason → Result ScriptLine LineError → Type 0
IsMade said (Ok l) = said ≡ Ok l
IsMade said (Err (flaw.Reason reason)) = said ≡ Err reason
IsMade said (Err flaw.Memory) = Unit {0}

-- ---- one more line

pub record IsEmptyBody (b : Body) : Type 0 where
  pub whole : length b.connections ≡ 16
  pub lines : b.lines ≡ []
  pub connections : All IsClosedConnection b.connections
  pub submissions : b.submissions ≡ 0
  pub closed : b.closed ≡ false

-- a line can be added: its connection and its position exist
pub record CanAdd (b : Body) (l : ScriptLine) : Type 0 where
  pub conn_from : 1 ≤ conn_of l
  pub conn_to : conn_of l ≤ 16
  pub few : b.submissions ≤ MAX_WORK
  pub place : (conn at policy : ℕ) (name : List ℕ) → l ≡ line.Attach conn at name policy
      → (at ≤ length (links_kept b conn)) × (length (links_kept b conn) < 8)

abbrev pub connections_after : Declared → ScriptLine → List ConnectionState → List ConnectionState
connections_after d (line.Conn conn words) connections = with_open connections conn words
connections_after d (line.Attach conn at name policy) connections =
    with_chain connections conn (insert (links_at connections conn) at (record {
      name = name;
      kind = entry_kind_at d policy;
    }))
connections_after d (line.Detach conn name) connections =
    with_chain connections conn (without name (links_at connections conn))
connections_after d _ connections = connections

abbrev pub submissions_after : ScriptLine → ℕ → ℕ
submissions_after (line.Submit conn method number addr) n = n + 1
submissions_after _ n = n
