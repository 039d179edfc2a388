use Rattle.std.proofs.Common.{FitsSigned, w64, rules, refl, sym, ◌∙◌}
use Rattle.std.specs.Prelude.{unsigned_abs}
use Rattle.std.proofs.lemmas.Int.{to_z-of_z}
use Rattle.dictionary.proofs.RowForms.{sized_above}
use Rattle.dictionary.proofs.PutRows.{over_is}
use Rattle.dictionary.proofs.row.Row.put_number.Goals as goal

pub write-requires-clause-small : goal.write-requires-clause-small
write-requires-clause-small g c =
    let s = c.in-Some.ensures.some in
    let fits : FitsSigned w64 c.in-Some.number = search rules in
    simp to_z-of_z s.fits

pub returns-clause-own : goal.returns-clause-own
returns-clause-own g c =
    let row = c.args.self.now in
    let fits : FitsSigned w64 c.in-Some.number = search rules in
    let denom : FitsSigned w64 row.denom = search rules in
    let own = simp to_z-of_z at c.write.ensures.own in
    let some = simp to_z-of_z at c.in-Some.ensures.some in
    own ∙ sym (over_is c.args.value.now (unsigned_abs row.denom) c.in-Some.number (sized_above row.denom row.above) some)

pub unreachable-requires : goal.unreachable-requires
unreachable-requires g c =
    let denom : FitsSigned w64 c.args.self.now.denom = search rules in
    let none = simp to_z-of_z at c.in-None.ensures.none in
    none refl c.requires.over
