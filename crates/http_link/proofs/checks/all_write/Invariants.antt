use Rattle.std.proofs.Common.{◌≡◌, map, drop}
use Rattle.std.specs.List.{list_all}
use Rattle.std.specs.Str.Parse.{digits_value}
use Rattle.httparse.specs.Spans.{header_bytes}
use Rattle.http_link.specs.Checks.{field_values, writes_number}
use Rattle.http_link.proofs.checks.all_write.Given as goal

abbrev pub invariant-loop-header : goal.invariant-loop-header
invariant-loop-header l =
    let test = writes_number (digits_value 10 l.value) in
    list_all test (field_values l.name (map (header_bytes l.head) (drop l.header-index l.headers)))
    ≡ list_all test (field_values l.name (map (header_bytes l.head) l.headers))
