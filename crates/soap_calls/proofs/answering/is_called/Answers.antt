use Rattle.std.proofs.Common.{◌∙◌, List, ℕ, ap, bytes_eq}
use Rattle.soap_calls.proofs.answering.is_called.Goals as goal

pub returns : goal.returns
returns c = λ e stands. c.eq.ensures ∙ ap (λ (n : List ℕ). bytes_eq n c.as_slice.result.now) (c.name.ensures e stands) ∙ ap (bytes_eq e.name) (c.as_slice.ensures ∙ c.in_ok-wanted.ensures)
