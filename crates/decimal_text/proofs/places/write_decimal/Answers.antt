use Rattle.std.proofs.Common.{◌≡◌, ◌+◌, ◌*◌, ◌/◌, ◌^◌, ◌≤◌, take, length, subst, ap, sym, ◌∙◌, arith}
use Rattle.std.specs.Int.{IsGcd}
use Rattle.std.specs.Str.Parse.{digits_value}
use Rattle.std.proofs.lemmas.List.{length-take-le}
use Rattle.rational.specs.Ratio.{Ratio}
use Rattle.rational.specs.Width.{most}
use Rattle.rational.specs.Whole.{signed}
use Rattle.fraction.specs.Frac.{ratio}
use Rattle.decimal_text.proofs.Cuts.{AllDigits-take}
use Rattle.decimal_text.proofs.WholeDecimals.{no_text, exact_size, whole_low, plain_of, reads_back}
use Rattle.decimal_text.proofs.places.write_decimal.Goals as goal

pub has_decimal-requires-clause-reduced : goal.has_decimal-requires-clause-reduced
has_decimal-requires-clause-reduced c = subst (λ n. IsGcd n c.args.value.denom 1) (sym c.size-size.ensures) c.args.value.reduced

pub returns-then-not-has_decimal-clause-err : goal.returns-then-not-has_decimal-clause-err
returns-then-not-has_decimal-clause-err c =
    let x = c.args.value in
    let refused = c.has_decimal.ensures.no c.if-not-has_decimal.true in
    no_text (ratio x) (λ m j a b e. refused m j a b (ap (λ n. n * 10 ^ j) c.size-size.ensures ∙ e))

pub returns-in-Ok-clause-ok : goal.returns-in-Ok-clause-ok
returns-in-Ok-clause-ok c =
    let x = c.args.value in
    let size = c.size-size.result in
    let made = c.expand-used in
    let used = made.result.0 in
    let digits = made.new.digits in
    let shown = take used digits in
    let places = c.has_decimal.ensures.yes c.if-not-has_decimal.false in
    let room : length digits ≡ 38 = made.auto.digits in
    let inside : used ≤ 38 = omega (arith, room, made.ensures.used) in
    let long : length shown ≡ used = length-take-le used digits made.ensures.used in
    let value = rw room at made.ensures.value in
    let zeros = rw room at made.ensures.zeros in
    let exact = exact_size size x.denom (digits_value 10 digits) (digits_value 10 shown) made.result.1 used places made.ensures.below value inside zeros in
    let whole = subst (λ n. (size / x.denom * 10 ^ n + digits_value 10 shown) * x.denom ≡ size * 10 ^ n) (sym long) exact in
    let sign = c.is_below.result in
    let num = c.is_below.ensures.sign ∙ ap (λ n. signed sign n) (sym c.size-size.ensures) in
    let pair : Ratio → Ratio = λ y. y in
    let e = ap (λ z. pair (record { num = z; den = x.denom })) num in
    let all = AllDigits-take 10 used digits made.ensures.digits in
    let small : size ≤ most = subst (λ n. n ≤ most) (sym c.size-size.ensures) x.numer_within in
    let plain = plain_of (ratio x) sign size x.denom shown e all (rw long made.ensures.no_trailing_zero) c.is_below.ensures.below whole in
    record {
      written = _;
      after = c.in-Ok.ensures.ok;
      plain = plain;
      read = reads_back (ratio x) sign size x.denom (size / x.denom) shown places x.above e (whole_low size x.denom small x.above) all plain.same;
    }
