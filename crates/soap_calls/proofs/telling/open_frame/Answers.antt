use Rattle.document_tags.proofs.Tellings.{ends_told}
use Rattle.soap_calls.proofs.telling.open_frame.Goals as goal

pub returns : goal.returns
returns c = ends_told c.open.result _ _ _ _ _ c.in_ok-open_with.ensures c.open.ensures
