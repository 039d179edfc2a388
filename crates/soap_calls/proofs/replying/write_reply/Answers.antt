use Rattle.std.proofs.Common.{◌∙◌, ◌++◌, refl}
use Rattle.std.specs.Prelude.{codes}
use Rattle.std.proofs.lemmas.Result.{IfOk-weaker}
use Rattle.document_tags.proofs.Tellings.{told_one, told_element}
use Rattle.soap_calls.specs.Writing.{frame, response_nodes}
use Rattle.soap_calls.proofs.Frames.{responds_so}
use Rattle.soap_calls.proofs.replying.write_reply.Goals as goal

pub told_text-requires : goal.told_text-requires
told_text-requires c =
    let name = c.args.name.now in
    told_one _ _ _ (frame (response_nodes (name ++ codes "Response") (name ++ codes "Return") c.args.text.now)) c.new-b.ensures
    (responds_so _ _ c.as_slice.result.now c.as_slice-2.result.now (name ++ codes "Response") (name ++ codes "Return") c.args.text.now (c.as_slice.ensures ∙ c.in_ok-response.ensures) (c.as_slice-2.ensures ∙ c.in_ok-value.ensures) c.in_ok-tell_response.ensures) refl

pub returns : goal.returns
returns c =
    let name = c.args.name.now in
    let e = frame (response_nodes (name ++ codes "Response") (name ++ codes "Return") c.args.text.now) in
    IfOk-weaker c.told_text.result _ _ (λ text writes. writes e (told_element _ _ _ e c.new-b.ensures
    (responds_so _ _ c.as_slice.result.now c.as_slice-2.result.now (name ++ codes "Response") (name ++ codes "Return") c.args.text.now (c.as_slice.ensures ∙ c.in_ok-response.ensures) (c.as_slice-2.ensures ∙ c.in_ok-value.ensures) c.in_ok-tell_response.ensures) refl)) c.told_text.ensures
