use Rattle.std.proofs.Common.{◌≡◌, ◌∙◌, ℕ, ap, sym, refl, false, length, slice_index_or, arith}
use Rattle.std.proofs.lemmas.List.{get_or_default}
use Rattle.instance.specs.declared.parts.Row.{Row}
use Rattle.instance.specs.Program.{row}
use Rattle.case_tree.specs.declared.cuts.Cut.{Cut}
use Rattle.case_tree.specs.declared.path.Branch.{Branch}
use Rattle.case_tree.specs.Cuts.{cut_at, cut_variable, first_range, no_cut, with_ends}
use Rattle.case_tree.proofs.Paths.{branches_with, entered, cut_by, ends_range}
use Rattle.case_tree.proofs.Places.{other_divisions, own_division, entered_places}
use Rattle.case_tree.proofs.path.enter.Goals as goal

pub returns-clause-above : goal.returns-clause-above
returns-clause-above c = branches_with (length c.args.cuts.now) c.args.branches.now c.args.depth (record { col = c.args.col; by = c.args.by; before = c.ends_of-before.result; is_second = false }) c.requires.room c.requires.above c.requires.inside c.requires.next

pub returns-clause-cases : goal.returns-clause-cases
returns-clause-cases c = λ I.
    let vs = c.args.cuts.now in
    let j : ℕ = c.args.col in
    let v : Cut = cut_at vs j in
    let w = c.set_ends.new.cut in
    let at : (d : Cut) → slice_index_or vs j d ≡ v = λ d. sym (get_or_default vs j no_cut d c.requires.inside) in
    let ends = c.ends_of-before.ensures ∙ ap (λ (x : Cut). let r : Row = record { lb = x.lb; ub = x.ub } in r) (at c.index-cuts-j.result) in
    let is : w ≡ with_ends v c.first-ends.result = c.set_ends.ensures ∙ ap (λ (x : Cut). with_ends x c.first-ends.result) (at c.index-cuts-j-2.result) in
    entered I vs c.args.branches.now c.args.depth j c.args.by w _ c.requires.room c.requires.inside (ap (λ (x : Cut). x.var) is)
    (ap (λ (r : Row). let b : Branch = record { col = j; by = c.args.by; before = r; is_second = false } in b) ends)
    (cut_by I vs j w c.requires.inside (first_range c.args.by)
    (ends_range v w c.first-ends.result (first_range c.args.by (cut_variable v)) is
    (c.first-ends.ensures (cut_variable v) ∙ ap (λ (r : Row). first_range c.args.by (record (cut_variable v) { range = row r })) ends)))

pub returns-clause-divisions : goal.returns-clause-divisions
returns-clause-divisions c = λ e l. other_divisions c.args.branches.now c.args.depth _ c.requires.room e (λ q. omega arith)

pub returns-clause-division : goal.returns-clause-division
returns-clause-division c = own_division c.args.branches.now c.args.depth _ c.requires.room

pub returns-clause-places : goal.returns-clause-places
returns-clause-places c = entered_places c.args.branches.now c.args.depth _ c.requires.room refl
