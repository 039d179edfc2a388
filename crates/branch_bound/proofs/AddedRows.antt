-- One more row beside an instance's.
use Rattle.std.proofs.Common.{◌≡◌, ◌+◌, [], ◌∷◌, ◌++◌, Result, Ok, Err, IfOk, length, arith, sym, subst}
use Rattle.std.proofs.lemmas.List.{length_push, get_or_append_left, get_or_push}
use Rattle.std.specs.Prelude.{OnOk}
use Rattle.evidence.proofs.Columns.{by_lt}
use Rattle.instance.specs.Parts.{Parts}
use Rattle.simplex.specs.declared.cuts.Added.{Added}
use Rattle.simplex.specs.Cuts.{Cutting, Suits, IsAdded, no_row}

pub on_ok : (E A B : Type 0) (r : Result (Unit {0}) E) → (A → B) → OnOk r A → IfOk r (λ x. B)
on_ok E A B (Ok x) f h = f h
on_ok E A B (Err e) f h = tt

pub suits_more : (p : Parts) (k : Cutting) (r : Added) → Suits p k → IsAdded (length p.vars) (length p.rows + length k.rows) r → Suits p (record k { rows = k.rows ++ r ∷ [] })
suits_more p k r suits own = record {
  ends = suits.ends;
  rows = λ i h.
      by_lt i (length k.rows)
      (λ l. subst (IsAdded (length p.vars) (length p.rows + i)) (sym (get_or_append_left k.rows (r ∷ []) no_row i l)) (suits.rows i l))
      (λ l.
      let n = length_push k.rows r in
      let last : length k.rows ≡ i = omega (arith, h, l, n) in
      subst (IsAdded (length p.vars) (length p.rows + i)) (sym (get_or_push k.rows r no_row i last))
      (subst (λ j. IsAdded (length p.vars) (length p.rows + j) r) last own));
  goal = suits.goal;
}
