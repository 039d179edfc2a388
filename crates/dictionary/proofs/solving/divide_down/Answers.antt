use Rattle.std.proofs.Common.{◌<◌, ◌^◌, pos, neg_ℤ, FitsSigned, w64, rules, arith, refl, sym, ◌∙◌, ap, subst}
use Rattle.std.specs.Prelude.{unsigned_abs}
use Rattle.std.proofs.lemmas.Int.{to_z-of_z}
use Rattle.rational.proofs.Integers.{neg-neg}
use Rattle.common_rows.proofs.Sizes.{size_above}
use Rattle.dictionary.specs.Rows.{numer_at}
use Rattle.dictionary.proofs.RowForms.{sized}
use Rattle.dictionary.proofs.Denominators.{denom_row}
use Rattle.dictionary.proofs.SolvedNumbers.{abs_neg, neg_word, turned_down}
use Rattle.dictionary.proofs.solving.divide_down.Goals as goal

pub write-requires-clause-small : goal.write-requires-clause-small
write-requires-clause-small g c =
    let row = c.args.row.now in
    let d : FitsSigned w64 row.denom = search rules in
    let l : unsigned_abs row.denom < 2 ^ 63 = let h = size_above row.denom d row.above in omega arith in
    simp to_z-of_z (subst (λ z. unsigned_abs z < 2 ^ 63) (sym (neg_word row.denom l)) (let e = abs_neg row.denom in omega arith))

pub returns-clause-small : goal.returns-clause-small
returns-clause-small g c =
    let row = c.args.row.now in
    let d : FitsSigned w64 row.denom = search rules in
    let l = size_above row.denom d row.above in
    omega arith

pub returns-clause-divided : goal.returns-clause-divided
returns-clause-divided g c =
    let row = c.args.row.now in
    let d : FitsSigned w64 row.denom = search rules in
    let p : FitsSigned w64 c.args.pivot = c.ranges.pivot in
    let l : unsigned_abs row.denom < 2 ^ 63 = let h = size_above row.denom d row.above in omega arith in
    let told = simp to_z-of_z at c.write.ensures.number in
    let own = told ∙ neg_word row.denom l in
    record {
      form = c.write.ensures.common;
      rows = λ k n is l. denom_row c.write.new.self _ c.write.ensures.common c.write.ensures.common refl refl refl refl k n (c.write.ensures.row k n is l);
      denom = simp to_z-of_z (ap unsigned_abs (neg_word c.args.pivot c.requires.small) ∙ abs_neg c.args.pivot);
      own = own ∙ ap neg_ℤ (sized row.denom row.above) ∙ sym (turned_down c.args.pivot (pos (unsigned_abs row.denom)) c.requires.pivot);
      others = λ j e. c.write.ensures.rest j e ∙ sym (ap neg_ℤ (turned_down c.args.pivot (numer_at row j) c.requires.pivot) ∙ neg-neg (numer_at row j));
    }
