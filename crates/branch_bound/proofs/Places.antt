-- Variables as the code reads them.
use Rattle.std.proofs.Common.{◌≡◌, ℕ, ◌<◌, List, length, map, get_or, slice_index_or, sym, ◌∙◌, ap}
use Rattle.std.proofs.lemmas.List.{get_or-map}
use Rattle.evidence.specs.Instance.{Variable, no_variable}

pub whole_at : {X : Type 0} (variable : X → Variable) (xs : List X) (j : ℕ) (x : X) → j < length xs → x ≡ slice_index_or xs j x → (get_or (map variable xs) j no_variable).whole ≡ (variable x).whole
whole_at variable xs j x h is = ap (λ (v : Variable). v.whole) (get_or-map variable xs j x no_variable h ∙ sym (ap variable is))
