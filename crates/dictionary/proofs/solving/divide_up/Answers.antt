use Rattle.std.proofs.Common.{pos, neg_ℤ, FitsSigned, w64, rules, arith, refl, sym, ◌∙◌, ap}
use Rattle.std.specs.Prelude.{unsigned_abs}
use Rattle.std.proofs.lemmas.Int.{to_z-of_z}
use Rattle.common_rows.proofs.Sizes.{size_above}
use Rattle.dictionary.specs.Rows.{numer_at}
use Rattle.dictionary.proofs.RowForms.{sized}
use Rattle.dictionary.proofs.Denominators.{denom_row}
use Rattle.dictionary.proofs.SolvedNumbers.{turned_up}
use Rattle.dictionary.proofs.solving.divide_up.Goals as goal

pub negate-requires-clause-row : goal.negate-requires-clause-row
negate-requires-clause-row g c = let r = c.requires.row in (r.0, r.1, r.2)

pub write-requires-clause-row : goal.write-requires-clause-row
write-requires-clause-row g c = let r = c.requires.row in (r.0, r.1, c.negate.ensures.row r.0 r.1 r.2, r.3)

pub write-requires-clause-small : goal.write-requires-clause-small
write-requires-clause-small g c =
    let d : FitsSigned w64 c.args.row.now.denom = search rules in
    let l = size_above c.args.row.now.denom d c.args.row.now.above in
    simp to_z-of_z (omega (arith, l))

pub returns-clause-small : goal.returns-clause-small
returns-clause-small g c =
    let row = c.args.row.now in
    let d : FitsSigned w64 row.denom = search rules in
    let l = size_above row.denom d row.above in
    omega arith

pub returns-clause-divided : goal.returns-clause-divided
returns-clause-divided g c =
    let row = c.args.row.now in
    let d : FitsSigned w64 row.denom = search rules in
    let p : FitsSigned w64 c.args.pivot = c.ranges.pivot in
    let own = simp to_z-of_z at c.write.ensures.number in
    record {
      form = c.write.ensures.common;
      rows = λ k n is l. denom_row c.write.new.self _ c.write.ensures.common c.write.ensures.common refl refl refl refl k n (c.write.ensures.row k n (c.negate.ensures.row k n is) l);
      denom = simp to_z-of_z refl;
      own = own ∙ sized row.denom row.above ∙ sym (turned_up c.args.pivot (pos (unsigned_abs row.denom)) c.requires.pivot);
      others = λ j e. c.write.ensures.rest j e ∙ c.negate.ensures.negated j ∙ ap neg_ℤ (sym (turned_up c.args.pivot (numer_at row j) c.requires.pivot));
    }

pub returns-clause-cost : goal.returns-clause-cost
returns-clause-cost g c k n is = let a = c.negate.ensures.cost k n is in let b = c.write.ensures.cost in omega arith
