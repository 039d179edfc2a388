-- The hosts and ports that a listener in memory keeps.
use Rattle.std.specs.Prelude.{ℕ, List, Option, Some, None}
use Rattle.os_io.specs.Links.{Reached, ListenedAt, ConnectedTo}
use Rattle.memory_ends.specs.declared.mem_listener.Address.{Address}

-- a host and a port, listened at with this patience, or connected to where there is none
abbrev pub reached_of : (patience : Option ℕ) → (host : List ℕ) → (port : ℕ) → Reached
reached_of (Some patience) host port = ListenedAt host port patience
reached_of None host port = ConnectedTo host port

-- what was kept
abbrev pub reached_at : Address → Reached
reached_at a = reached_of a.patience a.host a.port
