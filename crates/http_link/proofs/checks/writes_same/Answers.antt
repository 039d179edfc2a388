use Rattle.std.proofs.Common.{◌≡◌, rules}
use Rattle.std.specs.Str.{bytes_eq}
use Rattle.http_link.specs.Checks.{without_zeros}
use Rattle.http_link.proofs.Numbers.{same_by_digits}
use Rattle.http_link.proofs.checks.writes_same.Goals as goal

pub returns-then-is_number : goal.returns-then-is_number
returns-then-is_number c =
    let tested : c.eq.result ≡ bytes_eq (without_zeros c.args.bytes.now) (without_zeros c.args.value.now) =
    rw (← c.without_zeros.ensures, ← c.without_zeros-then-is_number.ensures) c.eq.ensures in
    same_by_digits c.args.bytes.now c.args.value.now (cc) (search rules) c.eq.result tested
