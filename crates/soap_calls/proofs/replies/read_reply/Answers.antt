use Rattle.std.proofs.Common.{inr, refl, subst}
use Rattle.tree_grammar.specs.Elements.{Element}
use Rattle.document_tags.proofs.OneAnswer.{only_none}
use Rattle.soap_calls.specs.Replies.{IsAnswerIn}
use Rattle.soap_calls.proofs.OneAnswer.{one_reply_root}
use Rattle.soap_calls.proofs.replies.read_reply.Goals as goal

pub returns-in-Ok-clause-err : goal.returns-in-Ok-clause-err
returns-in-Ok-clause-err c =
    let read = c.in-Ok.ensures.ok in
    inr (
      refl,
      λ a says. only_none (IsAnswerIn c.args.name.now read.0) c.in_ok-answer-in-Ok.field-0 c.in-None.is (c.in_ok-answer-in-Ok.ensures read.0 read.2) a
          (subst (λ (root : Element). IsAnswerIn c.args.name.now root a) (one_reply_root c.args.bytes.now says.root read.0 says.document read.1) says.is),
    )
