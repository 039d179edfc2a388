use Rattle.std.proofs.Common.{FitsSigned, w64, rules, ◌∙◌}
use Rattle.std.proofs.lemmas.Int.{to_z-of_z}
use Rattle.dictionary.specs.Dict.{entry_of}
use Rattle.simplex_rules.specs.Turns.{Can}
use Rattle.simplex.specs.Cuts.{range_of}
use Rattle.simplex.proofs.Helps.{HasSign, nonbasic_helps}
use Rattle.simplex.proofs.helping.help_at.Goals as goal

pub returns : goal.returns
returns g c =
    let u = entry_of c.args.dict.now c.args.row c.args.col in
    let sign : HasSign c.entry_sign.result u = record { above = c.entry_sign.ensures.above; below = c.entry_sign.ensures.below } in
    let fits : FitsSigned w64 c.entry_sign.result = search rules in
    let told = simp to_z-of_z at c.help.ensures in
    nonbasic_helps c.args.wanted c.entry_sign.result u sign c.help.result (λ v. Can v (range_of c.args.ends.now) c.args.status) (c.requires.status ∙ c.requires.nonbasic.is) told
