use Rattle.std.proofs.Common.{◌≡◌, ◌+◌, ◌<◌, length, slice_set, slice_index_or, true, arith, ap, subst, sym, ◌∙◌, refl}
use Rattle.std.proofs.lemmas.List.{length-set, get_or-set_same, get_or_default, get_or_read_under}
use Rattle.case_tree.specs.declared.cuts.Cut.{Cut}
use Rattle.case_tree.specs.declared.path.Branch.{Branch}
use Rattle.case_tree.specs.Cuts.{no_branch, no_cut, branch_at, cut_at, cut_variable, with_ends, second_range, HasNext}
use Rattle.case_tree.proofs.Paths.{branches_with, branches_less, turned, cut_by, ends_range}
use Rattle.case_tree.proofs.Places.{same_divisions, turned_places}
use Rattle.case_tree.proofs.path.turn.Goals as goal

pub returns-clause-above : goal.returns-clause-above
returns-clause-above c =
    let bs = c.args.branches.now in
    let d = c.args.place in
    let b : Branch = slice_index_or bs d c.index-branches-place-2.result in
    let same : branch_at bs d ≡ b = get_or_default bs d no_branch c.index-branches-place-2.result c.requires.room in
    let here : d < d + 1 = omega arith in
    branches_with (length c.args.cuts.now) bs d (record b { is_second = true }) c.requires.room (branches_less (length c.args.cuts.now) bs d (d + 1) (omega arith) c.requires.above)
    (subst (λ (x : Branch). x.col < length c.args.cuts.now) same (c.requires.above.columns d here))
    (subst (λ (x : Branch). HasNext x.by) same (c.requires.above.next d here))

pub returns-clause-cases : goal.returns-clause-cases
returns-clause-cases c = λ I.
    let vs = c.args.cuts.now in
    let bs = c.args.branches.now in
    let d = c.args.place in
    let b : Branch = c.index-branches-place.result in
    let eb : branch_at bs d ≡ b = sym (get_or_read_under bs d (length bs) b no_branch c.index-branches-place.is c.requires.room refl) in
    let ec : slice_index_or bs d c.index-branches-place-2.result ≡ b = sym (get_or_read_under bs d (length bs) b c.index-branches-place-2.result c.index-branches-place.is c.requires.room refl) in
    let inside : b.col < length vs = subst (λ (x : Branch). x.col < length vs) eb (c.requires.above.columns d (omega arith)) in
    let v : Cut = with_ends (cut_at vs b.col) b.before in
    let w = c.set_ends.new.cut in
    let at : (d : Cut) → slice_index_or vs b.col d ≡ cut_at vs b.col = λ d. sym (get_or_default vs b.col no_cut d inside) in
    let is : w ≡ with_ends v c.second-ends.result = c.set_ends.ensures ∙ ap (λ (x : Cut). with_ends x c.second-ends.result) (at c.index-cuts-j-2.result) in
    let set : cut_at (slice_set vs b.col v) b.col ≡ v = get_or-set_same vs b.col v no_cut inside in
    let long = length-set vs b.col v in
    turned I vs bs d b (record (slice_index_or bs d c.index-branches-place-2.result) { is_second = true }) w c.requires.room inside eb (ap (λ (x : Branch). x.is_second) (sym eb) ∙ c.requires.first)
    (ap (λ (x : Branch). let y : Branch = record x { is_second = true } in y) ec)
    (ap (λ (x : Cut). x.var) is)
    (cut_by I (slice_set vs b.col v) b.col w (omega arith) (second_range b.by)
    (subst (λ (x : Cut). cut_variable w ≡ record (cut_variable x) { range = second_range b.by (cut_variable x) }) (sym set)
    (ends_range v w c.second-ends.result (second_range b.by (cut_variable v)) is
    (c.second-ends.ensures ∙ ap (λ (x : Cut). second_range b.by (cut_variable (with_ends x b.before))) (at c.index-cuts-j.result)))))

pub returns-clause-divisions : goal.returns-clause-divisions
returns-clause-divisions c =
    let bs = c.args.branches.now in
    let d = c.args.place in
    let b : Branch = slice_index_or bs d c.index-branches-place-2.result in
    let same : branch_at bs d ≡ b = get_or_default bs d no_branch c.index-branches-place-2.result c.requires.room in
    same_divisions bs d (record b { is_second = true }) c.requires.room (record { col = ap (λ (x : Branch). x.col) same; by = ap (λ (x : Branch). x.by) same })

pub returns-clause-places : goal.returns-clause-places
returns-clause-places c = turned_places c.args.branches.now c.args.place _ c.requires.room c.requires.first refl
