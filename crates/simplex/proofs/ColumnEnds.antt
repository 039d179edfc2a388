-- Ends in memory.
use Rattle.std.proofs.Common.{◌≡◌, ℕ, ◌<◌, List, length, get_or, sym, ◌∙◌, ap}
use Rattle.std.proofs.lemmas.List.{get_or-map}
use Rattle.evidence.specs.Instance.{free}
use Rattle.simplex.specs.declared.ends.Ends.{Ends}
use Rattle.simplex.specs.Cuts.{range_of, ranges_in}

pub read_range : (es : List Ends) (c : ℕ) (e : Ends) → e ≡ get_or es c e → c < length es → ranges_in es c ≡ range_of e
read_range es c e r h = get_or-map range_of es c e free h ∙ ap range_of (sym r)
