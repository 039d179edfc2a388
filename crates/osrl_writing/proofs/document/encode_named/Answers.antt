use Rattle.std.proofs.Common.{arith}
use Rattle.std.proofs.lemmas.Result.{IfOk-weaker}
use Rattle.osrl_writing.proofs.NamedTexts.{told_named, told_bare}
use Rattle.osrl_writing.proofs.document.encode_named.Goals as goal

pub returns-then-len-le-MOST_BYTES : goal.returns-then-len-le-MOST_BYTES
returns-then-len-le-MOST_BYTES c = told_named c.args.names.now c.args.report.now _ c.in_ok-text.ensures (omega (arith, c.if-len-le-MOST_BYTES.true, c.len.ensures))

pub returns : goal.returns
returns c = IfOk-weaker c.encode.result _ _ (λ text bare. told_bare c.args.names.now c.args.report.now _ text c.in_ok-text.ensures (omega (arith, c.if-len-le-MOST_BYTES.false, c.len.ensures)) bare) c.encode.ensures
