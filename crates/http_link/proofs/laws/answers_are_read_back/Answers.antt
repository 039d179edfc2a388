use Rattle.std.proofs.Common.{refl, arith}
use Rattle.std.specs.Prelude.{codes}
use Rattle.http_link.proofs.ReadBacks.{answer_back}
use Rattle.http_link.proofs.laws.answers_are_read_back.Goals as goal

pub returns-clause-answer : goal.returns-clause-answer
returns-clause-answer c body less = answer_back (codes "200") (codes "OK") body refl refl refl (omega arith) refl less

pub returns-clause-fault : goal.returns-clause-fault
returns-clause-fault c body less = answer_back (codes "500") (codes "Internal Server Error") body refl refl refl (omega arith) refl less
