use Rattle.std.proofs.Common.{◌≡◌, ℕ, ◌+◌, ◌<◌, length, map, drop, slice_set, arith, refl, ◌∙◌, ap, subst}
use Rattle.std.proofs.lemmas.List.{length-map, length-drop, get_or-map, get_or-drop, get_or-set_same, get_or-set_other, take-set-le, ext_get_or}
use Rattle.evidence.specs.Instance.{free, row_at}
use Rattle.evidence.proofs.Columns.{by_lt}
use Rattle.case_tree.specs.Cuts.{cut_at, no_cut}
use Rattle.cert_checker.specs.Columns.{ends}
use Rattle.cert_checker.proofs.walk.uncut_rows.Goals as goal

pub loop-i-init : goal.loop-i-init
loop-i-init c = record { variables = refl; rows = λ i h. absurd (omega arith) }

pub loop-i-preserved : goal.loop-i-preserved
loop-i-preserved c =
    let cs = c.loop-i.cuts in
    let n = c.args.n in
    let k = c.loop-i.i in
    let a = c.loop-i.auto.cuts in
    let inside : n + k < length cs = omega arith in
    let x = c.row_column.result in
    let at : (i : ℕ) → (i ≡ k → ⊥) → cut_at (slice_set cs (n + k) x) (n + i) ≡ cut_at cs (n + i) = λ i ne. get_or-set_other cs (n + k) (n + i) x no_cut (λ e. ne (omega arith)) in
    let here : ends (cut_at (slice_set cs (n + k) x) (n + k)) ≡ row_at c.args.program.now k = ap ends (get_or-set_same cs (n + k) x no_cut inside) ∙ c.row_column.ensures ∙ c.ends.ensures in
    record {
      variables = take-set-le n cs (n + k) x (omega arith) ∙ c.loop-i.invariant.variables;
      rows = λ i h. by_lt i k (λ l. ap ends (at i (λ e. omega arith)) ∙ c.loop-i.invariant.rows i l)
          (λ l. let e : k ≡ i = omega arith in subst (λ m. ends (cut_at (slice_set cs (n + k) x) (n + m)) ≡ row_at c.args.program.now m) e here);
    }

pub returns-clause-variables : goal.returns-clause-variables
returns-clause-variables c = c.loop-i.invariant.variables

pub returns-clause-rows : goal.returns-clause-rows
returns-clause-rows c =
    let cs = c.loop-i.cuts in
    let n = c.args.n in
    let p = c.args.program.now in
    let a = c.loop-i.auto.cuts in
    let m = length-map (drop n cs) ends in
    let d = length-drop n cs in
    ext_get_or free (map ends (drop n cs)) p.rows (omega arith)
    (λ i h. get_or-map ends (drop n cs) i no_cut free (omega arith) ∙ ap ends (get_or-drop n cs i no_cut) ∙ c.loop-i.invariant.rows i (omega arith))
