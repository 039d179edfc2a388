use Rattle.std.proofs.Common.{◌∙◌, ◌++◌, length}
use Rattle.std.specs.Prelude.{decimal}
use Rattle.os_io.proofs.Pieces.{writes_then, writes_part, writes_same}
use Rattle.http_link.proofs.Bodies.{behind_parts}
use Rattle.http_link.proofs.responses.write_behind.Goals as goal

pub returns-in_err-write_all : goal.returns-in_err-write_all
returns-in_err-write_all g c =
    writes_part _ c.from_residual.result c.from_residual.ensures.1 c.in_err-write_all.field-0.0 c.args.front.now (decimal (length c.args.body.now) ++ (c.args.gap.now ++ c.args.body.now)) c.in_err-write_all.ensures

pub returns-in_err-write_all-2 : goal.returns-in_err-write_all-2
returns-in_err-write_all-2 g c =
    let d = c.as_bytes.result.now in
    let r = c.from_residual-in_err-write_all-2 in
    writes_same r.result (c.args.front.now ++ (d ++ (c.args.gap.now ++ c.args.body.now))) _ (behind_parts c.args.front.now c.args.gap.now c.args.body.now d (c.as_bytes.ensures.value ∙ c.format.ensures.text))
    (writes_then c.in_ok-write_all.field-0 r.result c.args.front.now (d ++ (c.args.gap.now ++ c.args.body.now)) c.in_ok-write_all.ensures
    (writes_part _ r.result r.ensures.1 c.in_err-write_all-2.field-0.0 d (c.args.gap.now ++ c.args.body.now) c.in_err-write_all-2.ensures))

pub returns-in_err-write_all-3 : goal.returns-in_err-write_all-3
returns-in_err-write_all-3 g c =
    let d = c.as_bytes.result.now in
    let r = c.from_residual-in_err-write_all-3 in
    writes_same r.result (c.args.front.now ++ (d ++ (c.args.gap.now ++ c.args.body.now))) _ (behind_parts c.args.front.now c.args.gap.now c.args.body.now d (c.as_bytes.ensures.value ∙ c.format.ensures.text))
    (writes_then c.in_ok-write_all.field-0 r.result c.args.front.now (d ++ (c.args.gap.now ++ c.args.body.now)) c.in_ok-write_all.ensures
    (writes_then c.in_ok-write_all-2.field-0 r.result d (c.args.gap.now ++ c.args.body.now) c.in_ok-write_all-2.ensures
    (writes_part _ r.result r.ensures.1 c.in_err-write_all-3.field-0.0 c.args.gap.now c.args.body.now c.in_err-write_all-3.ensures)))

pub returns : goal.returns
returns g c =
    let d = c.as_bytes.result.now in
    writes_same c.write_all-4.result (c.args.front.now ++ (d ++ (c.args.gap.now ++ c.args.body.now))) _ (behind_parts c.args.front.now c.args.gap.now c.args.body.now d (c.as_bytes.ensures.value ∙ c.format.ensures.text))
    (writes_then c.in_ok-write_all.field-0 c.write_all-4.result c.args.front.now (d ++ (c.args.gap.now ++ c.args.body.now)) c.in_ok-write_all.ensures
    (writes_then c.in_ok-write_all-2.field-0 c.write_all-4.result d (c.args.gap.now ++ c.args.body.now) c.in_ok-write_all-2.ensures
    (writes_then c.in_ok-write_all-3.field-0 c.write_all-4.result c.args.gap.now c.args.body.now c.in_ok-write_all-3.ensures c.write_all-4.ensures)))
