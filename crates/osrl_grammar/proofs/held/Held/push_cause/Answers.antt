use Rattle.osrl_grammar.proofs.Names.{List, ap, Held, IsCause}
use Rattle.certificate.specs.declared.causes.Cause as why
use Rattle.osrl_writing.specs.declared.parts.Part.TheVariants.{Cause}
use Rattle.osrl_grammar.proofs.ItemTests.{item_made, item_unmade}
use Rattle.osrl_grammar.proofs.held.Held.push_cause.Goals as goal

pub returns-in_ok-push-in-Ok-clause-read : goal.returns-in_ok-push-in-Ok-clause-read
returns-in_ok-push-in-Ok-clause-read c =
    let made = λ (l : List why.Cause). let z : Held = record c.args.self.now { causes = l } in z in
    item_made Cause c.args.text.now c.args.self.now _ c.in-Ok.cause (IsCause c.args.text.now) (λ none. none) (λ h. (c.in-Ok.cause, h, ap made c.in_ok-push-in-Ok.ensures.ok)) c.in-Ok.ensures

pub returns-in-Err-clause-read : goal.returns-in-Err-clause-read
returns-in-Err-clause-read c = item_unmade Cause c.args.text.now c.args.self.now c.in-Err.misread (IsCause c.args.text.now) (λ none. none) c.in-Err.ensures
