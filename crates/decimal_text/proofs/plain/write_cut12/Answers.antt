use Rattle.std.proofs.Common.{◌≡◌, ◌≤◌, take, length, arith, refl}
use Rattle.std.proofs.lemmas.List.{length-take-le}
use Rattle.std.proofs.lemmas.Result.{on_ok_weaker}
use Rattle.decimal_text.proofs.Cuts.{AllDigits-take, cut_parts, cut_same, cut_below_zero}
use Rattle.decimal_text.proofs.plain.write_cut12.Goals as goal

pub returns-clause-ok : goal.returns-clause-ok
returns-clause-ok c =
    let f = c.args.value in
    let made = c.expand-used in
    let digits = made.new.digits in
    let shown = take made.result.0 digits in
    let twelve : length digits ≡ 12 = made.auto.digits in
    let inside : made.result.0 ≤ 12 = omega (arith, twelve, made.ensures.used) in
    let long : length shown ≡ made.result.0 = length-take-le made.result.0 digits made.ensures.used in
    let value = rw (c.size-size.ensures, twelve) at made.ensures.value in
    let zeros = rw twelve at made.ensures.zeros in
    let cut = cut_parts f.numer f.denom _ _ made.result.0 shown made.ensures.below value long inside made.ensures.above zeros in
    let signed_so = rw c.size-size.ensures at c.has_sign.ensures.below in
    let plain_so = rw c.size-size.ensures at c.has_sign.ensures.above in
    on_ok_weaker c.write_plain.result
    (λ e. record {
      written = _;
      after = e;
      plain = record {
        is_negative = c.has_sign.result;
        whole = _;
        digits = shown;
        text = rw c.size-size.ensures refl;
        are_digits = AllDigits-take 10 made.result.0 digits made.ensures.digits;
        no_trailing_zero = rw long made.ensures.no_trailing_zero;
        below = cut_below_zero f.numer f.denom made.result.0 shown c.has_sign.result cut signed_so;
        same = cut_same f.numer f.denom made.result.0 shown c.has_sign.result cut signed_so plain_so;
      };
    }) c.write_plain.ensures.ok
