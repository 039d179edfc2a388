use Rattle.decimal_text.proofs.PlainTexts.{plain_once}
use Rattle.decimal_text.proofs.RoundTrips.{plain_decimal}
use Rattle.decimal_text.proofs.laws.decimals_have_one_text.Goals as goal

pub returns-clause-one : goal.returns-clause-one
returns-clause-one c = plain_once

pub returns-clause-read : goal.returns-clause-read
returns-clause-read c = plain_decimal
