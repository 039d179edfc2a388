use Rattle.document_tags.proofs.Passages.{from_event, step_open, step_close}
use Rattle.document_tags.proofs.ChildElements.{deeper, at_own_start, chars_pass, at_own_end}
use Rattle.document_tags.proofs.content.pass.Goals as goal

pub returns-then-depth-gt0-clause-passes : goal.returns-then-depth-gt0-clause-passes
returns-then-depth-gt0-clause-passes c = λ e g. deeper e _ _ _ _ _ (λ rest p. step_open c.args.tree.now rest c.args.at c.args.depth _ _ c.requires.inside c.if-depth-gt0.true c.in-Open.ensures p) g

pub returns-in_ok-push-in-Open-clause-passes : goal.returns-in_ok-push-in-Open-clause-passes
returns-in_ok-push-in-Open-clause-passes c = λ e g. at_own_start e c.args.depth _ _ _ _ _ _ c.if-depth-gt0.false (from_event c.args.tree.now c.args.at _ c.requires.inside c.in-Open.ensures) c.in_ok-push-in-Open.ensures.items g

pub returns-in-Chars-clause-passes : goal.returns-in-Chars-clause-passes
returns-in-Chars-clause-passes c = λ e g. chars_pass e c.args.tree.now c.args.at c.args.depth _ _ c.requires.inside c.in-Chars.ensures g

pub returns-then-depth-gt0-2-clause-passes : goal.returns-then-depth-gt0-2-clause-passes
returns-then-depth-gt0-2-clause-passes c = λ e g. deeper e _ _ _ _ _ (λ rest p. step_close c.args.tree.now rest c.args.at c.args.depth _ c.requires.inside c.if-depth-gt0-2.true c.in-Close.ensures p) g

pub returns-else-depth-gt0-2-clause-passes : goal.returns-else-depth-gt0-2-clause-passes
returns-else-depth-gt0-2-clause-passes c = λ e g. at_own_end e c.args.depth _ _ _ _ c.if-depth-gt0-2.false (from_event c.args.tree.now c.args.at _ c.requires.inside c.in-Close.ensures) g
