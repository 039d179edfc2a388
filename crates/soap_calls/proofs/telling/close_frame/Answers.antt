use Rattle.document_tags.proofs.Tellings.{ends_told}
use Rattle.soap_calls.proofs.telling.close_frame.Goals as goal

pub returns : goal.returns
returns c = ends_told c.close-2.result _ _ _ _ _ c.in_ok-close.ensures c.close-2.ensures
