use Rattle.std.proofs.Common.{◌≡◌, ◌<◌, slice_index_or, length, arith, ap, sym, ◌∙◌}
use Rattle.std.proofs.lemmas.Bool.{eqb-true, leb-true, le-leb}
use Rattle.std.proofs.lemmas.Bool.Decides.{nat_tests}
use Rattle.std.proofs.lemmas.List.{length-map}
use Rattle.instance.specs.Program.{variable}
use Rattle.evidence.specs.Cases.{Multiplier, multiplier_at}
use Rattle.certificate.specs.Meanings.{multiplier, multipliers}
use Rattle.case_tree.specs.Cuts.{cut}
use Rattle.cert_checker.proofs.Lists.{mult_is}
use Rattle.cert_checker.proofs.Widths.{width_is}
use Rattle.cert_checker.proofs.RowLeaves.{first_row}
use Rattle.cert_checker.proofs.Lefts.{rows_all, rows_none}
use Rattle.cert_checker.proofs.row_leaves.are_rows.Goals as goal

pub returns-then-is_empty : goal.returns-then-is_empty
returns-then-is_empty c =
    let e : length c.args.mults.now ≡ 0 = eqb-true (length c.args.mults.now) 0 (sym c.is_empty.ensures ∙ c.if-is_empty.true) in
    (λ _. rows_none (cut c.args.program.now c.args.cuts.now) c.args.mults.now e, λ _. c.if-is_empty.true)

pub returns-else-is_empty : goal.returns-else-is_empty
returns-else-is_empty c =
    let J = cut c.args.program.now c.args.cuts.now in
    let ms = multipliers c.args.mults.now in
    let w = width_is c.args.program.now c.args.cuts.now in
    let v = ap length c.vars.ensures.value in
    let n = length-map c.vars.result.now variable in
    let l = length-map c.args.mults.now multiplier in
    let a = c.requires.count in
    let some : 0 < length c.args.mults.now = (let e = c.is_empty.ensures in let f = c.if-is_empty.false in grind (arith, nat_tests)) in
    let d = c.index-mults-0.result in
    let column : (multiplier_at ms 0).column ≡ (slice_index_or c.args.mults.now 0 d).col = ap (λ (m : Multiplier). m.column) (mult_is c.args.mults.now 0 d some) in (
      λ t. rows_all J ms c.requires.legal (λ h. let b = leb-true (length c.vars.result.now) (slice_index_or c.args.mults.now 0 d).col t in omega arith),
      λ rows. let b = first_row J ms rows (omega arith) in le-leb (length c.vars.result.now) (slice_index_or c.args.mults.now 0 d).col (omega arith),
    )
