use Rattle.std.proofs.Common.{◌≡◌, ◌+◌, map, drop}
use Rattle.std.specs.Prelude.{count_by}
use Rattle.httparse.specs.Spans.{header_bytes}
use Rattle.http_link.specs.Checks.{is_named}
use Rattle.http_link.proofs.checks.count_named.Given as goal

abbrev pub invariant-loop-header : goal.invariant-loop-header
invariant-loop-header l =
    l.count + count_by (is_named l.name) (map (header_bytes l.head) (drop l.header-index l.headers))
    ≡ count_by (is_named l.name) (map (header_bytes l.head) l.headers)
