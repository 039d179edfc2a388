use Rattle.std.proofs.Common.{◌≡◌, ◌++◌, flat_map, take, length}
use Rattle.tree_writing.specs.Escapes.{escaped_by}
use Rattle.tree_writing.proofs.escaping.put_all_escaped.Given as goal

abbrev pub invariant-loop-byte : goal.invariant-loop-byte
invariant-loop-byte l = record {
  done : l.out ≡ l.fn.out ++ flat_map (escaped_by l.in_value) (take l.byte-index l.bytes);
  start : l.before ≡ length l.fn.out;
}
