use Rattle.std.proofs.Common.{◌≡◌, ◌+◌, ◌^◌, ◌<◌, length, arith, sym, ◌∙◌, ap, subst}
use Rattle.std.proofs.lemmas.List.{length_push}
use Rattle.simplex.specs.Cuts.{Cutting, Suits}
use Rattle.branch_bound.proofs.AddedRows.{on_ok, suits_more}
use Rattle.branch_bound.proofs.relaxation.add_row.Goals as goal

pub returns-clause-size : goal.returns-clause-size
returns-clause-size g c =
    let p = c.args.instance.now in
    let k = c.args.relaxation.now.ends in
    let s = c.requires.size in
    let made = c.in_ok-relaxation.ensures in
    on_ok _ _ _ c.add.result
    (λ e.
    let more : length c.rows.result.now + 1 ≡ length c.add.new.self.rows = omega (arith, ap length c.rows.ensures, length_push k.rows c.args.row, ap (λ (q : Cutting). length q.rows) e) in
    record {
      width = made.width;
      height = made.height ∙ ap (λ n. length p.rows + n) more;
      few = subst (λ n. length p.vars + (length p.rows + n) < 2 ^ 32) more made.few;
      suits = subst (Suits p) (sym e) (suits_more p k c.args.row s.suits c.requires.row);
      slots = s.slots;
    })
    c.add.ensures.ok
