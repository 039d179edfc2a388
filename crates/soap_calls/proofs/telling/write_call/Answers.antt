use Rattle.std.proofs.Common.{refl}
use Rattle.std.proofs.lemmas.Result.{IfOk-weaker}
use Rattle.document_tags.proofs.Tellings.{told_one, told_element}
use Rattle.six_calls.specs.Names.{kind_text}
use Rattle.soap_calls.specs.Writing.{frame, ours_around, part_nodes}
use Rattle.soap_calls.proofs.Frames.{named_so}
use Rattle.soap_calls.proofs.telling.write_call.Goals as goal

pub told_text-requires : goal.told_text-requires
told_text-requires c =
    let call = c.args.call.now in
    told_one _ _ _ (frame (ours_around (kind_text call.kind) (part_nodes call))) c.new-b.ensures (named_so _ _ c.name.result.now (kind_text call.kind) (part_nodes call) c.name.ensures c.in_ok-tell_call.ensures) refl

pub returns : goal.returns
returns c =
    let call = c.args.call.now in
    let e = frame (ours_around (kind_text call.kind) (part_nodes call)) in
    IfOk-weaker c.told_text.result _ _ (λ text writes. writes e (told_element _ _ _ e c.new-b.ensures (named_so _ _ c.name.result.now (kind_text call.kind) (part_nodes call) c.name.ensures c.in_ok-tell_call.ensures) refl)) c.told_text.ensures
