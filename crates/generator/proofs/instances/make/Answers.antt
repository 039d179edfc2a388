use Rattle.std.proofs.Common.{◌∙◌, sym, subst}
use Rattle.std.proofs.lemmas.Bool.{false≢true}
use Rattle.instance.specs.Parts.{IsValid}
use Rattle.generator.proofs.Validity.{valid, made_parts}
use Rattle.generator.proofs.instances.make.Goals as goal

pub unreachable-requires : goal.unreachable-requires
unreachable-requires c =
    let parts = made_parts c.args.n _ _ _ _ c.whole.result _ c.in_ok-variables.ensures c.in_ok-rows.ensures c.in_ok-entries.ensures c.in_ok-goals.ensures c.whole.ensures (c.of.ensures ∙ c.in_ok-costs.ensures) in
    false≢true (c.in-None.ensures.valid.1 (subst IsValid (sym parts) (valid c.args.n c.requires.least c.requires.most)))

pub returns : goal.returns
returns c =
    c.in-Some.ensures.parts ∙ made_parts c.args.n _ _ _ _ c.whole.result _ c.in_ok-variables.ensures c.in_ok-rows.ensures c.in_ok-entries.ensures c.in_ok-goals.ensures c.whole.ensures (c.of.ensures ∙ c.in_ok-costs.ensures)
