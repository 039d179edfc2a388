use Rattle.std.proofs.Common.{◌∙◌, ◌++◌, refl}
use Rattle.std.specs.Prelude.{codes}
use Rattle.std.proofs.lemmas.Result.{IfOk-weaker}
use Rattle.document_tags.proofs.Tellings.{told_one, told_element}
use Rattle.soap_calls.specs.Writing.{frame, fault_nodes}
use Rattle.soap_calls.proofs.Frames.{fails_so}
use Rattle.soap_calls.proofs.replying.write_fault.Goals as goal

pub told_text-requires : goal.told_text-requires
told_text-requires c =
    let code = codes "soap:" ++ c.args.code.now in
    told_one _ _ _ (frame (fault_nodes code c.args.text.now)) c.new-b.ensures (fails_so _ _ c.as_slice.result.now code c.args.text.now (c.as_slice.ensures ∙ c.in_ok-code.ensures) c.in_ok-tell_fault.ensures) refl

pub returns : goal.returns
returns c =
    let code = codes "soap:" ++ c.args.code.now in
    let e = frame (fault_nodes code c.args.text.now) in
    IfOk-weaker c.told_text.result _ _ (λ text writes. writes e (told_element _ _ _ e c.new-b.ensures (fails_so _ _ c.as_slice.result.now code c.args.text.now (c.as_slice.ensures ∙ c.in_ok-code.ensures) c.in_ok-tell_fault.ensures) refl)) c.told_text.ensures
