-- The code's own: the invariant of a connection with its heap and its tickets.
use Rattle.std.specs.Prelude.{◌≡◌, ℕ, ◌<◌, ◌^◌, ◌+◌, All, length}
use Rattle.mrpc_table.specs.Valid.{IsValid}
use Rattle.mrpc_table.specs.declared.table.Table.{Table}
use Rattle.call_history.specs.Trace.{taken}
use Rattle.conn_core.specs.Connections.{Connection, conn_trace}

-- the table is one of a service, the heap has 16 words, and there is a tenant
pub record IsScene (T : Table) (size known : ℕ) : Type 0 where
  pub valid : IsValid T
  pub words : size ≡ 16
  pub tenant : 0 < known

-- a connection with room in its numbers for another call, another attachment and another version of each entry
pub record HasCounterRoom (c : Connection) : Type 0 where
  pub calls : length (taken (conn_trace c)) + 1 < 2 ^ 32
  pub attachments : c.chain.attached + 1 < 2 ^ 32
  pub versions : All (λ e. e.entry.version + 1 < 2 ^ 32) c.chain.engines
