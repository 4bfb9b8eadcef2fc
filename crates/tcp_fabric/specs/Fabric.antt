-- A fabric of connections.
use Rattle.std.specs.Prelude.{ℕ, List}
use Rattle.tcp_fabric.specs.Link.{LinkEnd}

pub record TcpFabricState : Type 0 where
  -- the links that it keeps, each with its connection, and how many ends that it opened are in use
  pub back : List (ℕ × LinkEnd)
  pub away : ℕ
  -- how many openings failed; saturates at 2^64 - 1
  pub failures : ℕ
