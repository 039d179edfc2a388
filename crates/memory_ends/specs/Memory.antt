-- The forms in memory.
use Rattle.std.specs.Prelude.{◌≡◌, ℕ, List, drop, take}
use Rattle.memory_ends.specs.declared.parts.Script.{Script}
use Rattle.memory_ends.specs.declared.parts.Input.{Input}
use Rattle.memory_ends.specs.declared.parts.Output.{Output}

-- the bytes that are still to be given
abbrev pub input_left : Input → List ℕ
input_left i = drop i.at i.bytes.items

-- the bytes that were handed on
abbrev pub output_handed : Output → List ℕ
output_handed o = take o.handed o.bytes.items

-- no call was made, and those with these numbers fail
abbrev pub IsFresh : Script → List ℕ → Type 0
IsFresh s fails = (s.calls ≡ 0) × (s.fails.items ≡ fails)
