use Rattle.std.proofs.Common.{◌≡◌, map, drop, codes}
use Rattle.std.specs.List.{list_any}
use Rattle.httparse.specs.Spans.{header_bytes}
use Rattle.http_link.specs.Checks.{lists_close, field_values}
use Rattle.http_link.proofs.checks.any_lists_close.Given as goal

abbrev pub invariant-loop-header : goal.invariant-loop-header
invariant-loop-header l =
    list_any lists_close (field_values (codes "connection") (map (header_bytes l.head) (drop l.header-index l.headers)))
    ≡ list_any lists_close (field_values (codes "connection") (map (header_bytes l.head) l.headers))
