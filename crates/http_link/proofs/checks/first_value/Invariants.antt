use Rattle.std.proofs.Common.{◌≡◌, map, drop}
use Rattle.httparse.specs.Spans.{header_bytes}
use Rattle.http_link.specs.Checks.{field_values}
use Rattle.http_link.proofs.checks.first_value.Given as goal

abbrev pub invariant-loop-header : goal.invariant-loop-header
invariant-loop-header l =
    field_values l.name (map (header_bytes l.head) (drop l.header-index l.headers))
    ≡ field_values l.name (map (header_bytes l.head) l.headers)
