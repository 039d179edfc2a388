use Rattle.http_link.proofs.Pieces.{pieces_taken}
use Rattle.http_link.proofs.laws.pieces_are_their_bytes.Goals as goal

pub returns : goal.returns
returns g c = λ old new bytes p. pieces_taken g.B.Body.took g.met.B.Body.stays g.met.B.Body.joined old p
