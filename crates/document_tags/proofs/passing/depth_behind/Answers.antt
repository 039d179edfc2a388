use Rattle.std.proofs.Common.{arith}
use Rattle.document_tags.proofs.Passages.{step_open, step_chars, step_close}
use Rattle.document_tags.proofs.passing.depth_behind.Goals as goal

pub overflow_add-result : goal.overflow_add-result
overflow_add-result c = omega (arith, c.requires.near, c.requires.fits)

pub returns-in-Open-clause-pending : goal.returns-in-Open-clause-pending
returns-in-Open-clause-pending c = λ rest p. step_open c.args.tree.now rest c.args.at c.args.depth _ _ c.requires.inside c.requires.open c.in-Open.ensures p

pub returns-in-Chars-clause-pending : goal.returns-in-Chars-clause-pending
returns-in-Chars-clause-pending c = λ rest p. step_chars c.args.tree.now rest c.args.at c.args.depth _ c.requires.inside c.requires.open c.in-Chars.ensures p

pub returns-in-Close-clause-pending : goal.returns-in-Close-clause-pending
returns-in-Close-clause-pending c = λ rest p. step_close c.args.tree.now rest c.args.at c.args.depth _ c.requires.inside c.requires.open c.in-Close.ensures p
