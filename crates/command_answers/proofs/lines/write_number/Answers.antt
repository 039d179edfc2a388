use Rattle.std.proofs.Common.{ap, ◌∙◌, List, ℕ, [], ◌∷◌, ◌++◌}
use Rattle.std.specs.Prelude.{decimal}
use Rattle.os_io.proofs.Pieces.{writes_then, writes_part, writes_same}
use Rattle.command_answers.specs.Outputs.{number_line}
use Rattle.command_answers.proofs.lines.write_number.Goals as goal

pub returns-in_err-write_all : goal.returns-in_err-write_all
returns-in_err-write_all g c =
    writes_part _ c.from_residual.result c.from_residual.ensures.1 c.in_err-write_all.field-0.0 c.args.front.now (decimal c.args.number ++ (10 ∷ [])) c.in_err-write_all.ensures

pub returns-in_err-write_all-2 : goal.returns-in_err-write_all-2
returns-in_err-write_all-2 g c =
    let r = c.from_residual-in_err-write_all-2 in
    let front = c.args.front.now in
    let d = c.as_bytes.result.now in
    let same = c.as_bytes.ensures.value ∙ c.format.ensures.text in
    writes_same r.result (front ++ (d ++ (10 ∷ []))) (number_line front c.args.number) (ap (λ (t : List ℕ). front ++ (t ++ (10 ∷ []))) same)
    (writes_then c.in_ok-write_all.field-0 r.result front (d ++ (10 ∷ [])) c.in_ok-write_all.ensures
    (writes_part _ r.result r.ensures.1 c.in_err-write_all-2.field-0.0 d (10 ∷ []) c.in_err-write_all-2.ensures))

pub returns : goal.returns
returns g c =
    let front = c.args.front.now in
    let d = c.as_bytes.result.now in
    let same = c.as_bytes.ensures.value ∙ c.format.ensures.text in
    writes_same c.write_all-3.result (front ++ (d ++ (10 ∷ []))) (number_line front c.args.number) (ap (λ (t : List ℕ). front ++ (t ++ (10 ∷ []))) same)
    (writes_then c.in_ok-write_all.field-0 c.write_all-3.result front (d ++ (10 ∷ [])) c.in_ok-write_all.ensures
    (writes_then c.in_ok-write_all-2.field-0 c.write_all-3.result d (10 ∷ []) c.in_ok-write_all-2.ensures c.write_all-3.ensures))
