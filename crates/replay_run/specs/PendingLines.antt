-- The lines of pending calls at the end (this project's own).
use Rattle.std.specs.Prelude.{ℕ, ◌==◌, List, [], find, option_map, unwrap_or}
use Rattle.std.specs.List.{flat_map, range_with_len}
use Rattle.connection_audit.specs.Pending.{pending_lines}
use Rattle.replay_script.specs.declared.limits.TheConstants.{MAX_CONNECTIONS}
use Rattle.replay_run.specs.Follows.{OpenConnection}

-- the lines of a connection, by ascending number of the call
abbrev pub stands_lines_on : OpenConnection → List ℕ
stands_lines_on o = pending_lines o.conn o.course

-- the lines of the connection with a number, if it was opened
abbrev pub stands_lines_at : List OpenConnection → (conn : ℕ) → List ℕ
stands_lines_at opened conn = unwrap_or (option_map stands_lines_on (find (λ o. o.conn == conn) opened)) []

-- the lines of all connections, by ascending number of the connection
abbrev pub all_stands_lines : List OpenConnection → List ℕ
all_stands_lines opened = flat_map (stands_lines_at opened) (range_with_len 1 MAX_CONNECTIONS)
