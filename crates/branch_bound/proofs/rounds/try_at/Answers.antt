use Rattle.std.proofs.Common.{◌+◌, length, List, Option, IfOk, sym, ◌∙◌, ap, subst, arith}
use Rattle.std.proofs.lemmas.List.{with_items_is}
use Rattle.fraction.specs.declared.frac.Frac.{Frac}
use Rattle.instance.specs.Program.{program}
use Rattle.case_tree.specs.declared.cuts.Cut.{Cut}
use Rattle.cert_checker.specs.declared.at_hand.Added.{Added}
use Rattle.cert_checker.specs.Programs.{with_rows}
use Rattle.simplex.specs.Memory.{point_of, statuses_in}
use Rattle.search_rules.specs.Cuts.{TriesBasis}
use Rattle.branch_bound.specs.Trials.{tried, HoldsCut}
use Rattle.branch_bound.proofs.rounds.try_at.Goals as goal

pub try_cut-requires-clause-width : goal.try_cut-requires-clause-width
try_cut-requires-clause-width g c = let s = c.requires.size in s.width ∙ sym c.requires.width ∙ sym (ap (λ (cs : List Cut). length cs) c.as_slice-2.ensures.value)

pub try_cut-requires-clause-height : goal.try_cut-requires-clause-height
try_cut-requires-clause-height g c =
    let s = c.requires.size in
    s.height ∙ ap (λ n. length c.args.instance.now.rows + n) (sym (ap (λ (rs : List Added). length rs) c.as_slice.ensures.value ∙ c.requires.beside))

pub try_cut-requires-clause-few : goal.try_cut-requires-clause-few
try_cut-requires-clause-few g c = let s = c.requires.size in let w = s.width in let h = s.height in let f = s.few in omega arith

pub try_cut-requires-clause-uncut : goal.try_cut-requires-clause-uncut
try_cut-requires-clause-uncut g c = rw c.as_slice-2.ensures.value c.requires.uncut

pub try_cut-requires-clause-room : goal.try_cut-requires-clause-room
try_cut-requires-clause-room g c =
    let s = c.requires.size in
    ap (λ (ss : List (Option Frac)). length ss) c.as_mut_slice.ensures.value ∙ s.slots ∙ sym c.requires.width ∙ sym (ap (λ (cs : List Cut). length cs) c.as_slice-2.ensures.value)

pub try_cut-requires-clause-ran : goal.try_cut-requires-clause-ran
try_cut-requires-clause-ran g c = rw c.as_slice.ensures.value c.requires.ran

pub returns-clause-tries : goal.returns-clause-tries
returns-clause-tries g c =
    let p = c.args.instance.now in
    let r = c.args.relaxation.now in
    subst (λ (ss : List (Option Frac)). IfOk c.try_cut.result (λ trial. TriesBasis (with_rows (program p) r.rows.items) (point_of r.work) (statuses_in r.work) (tried trial ss)))
    (sym (with_items_is r.slots c.try_cut.new.slots (c.try_cut.auto.slots ∙ c.as_mut_slice.ensures.len)))
    (rw c.as_slice.ensures.value at c.try_cut.ensures.tries)

pub returns-clause-holds : goal.returns-clause-holds
returns-clause-holds g c =
    let p = c.args.instance.now in
    let r = c.args.relaxation.now in
    subst (λ (ss : List (Option Frac)). IfOk c.try_cut.result (λ trial. HoldsCut (length p.vars) trial ss))
    (sym (with_items_is r.slots c.try_cut.new.slots (c.try_cut.auto.slots ∙ c.as_mut_slice.ensures.len)))
    (rw (c.as_slice-2.ensures.value, c.requires.width) at c.try_cut.ensures.holds)

pub returns-clause-slots : goal.returns-clause-slots
returns-clause-slots g c =
    let r = c.args.relaxation.now in
    ap (λ (ss : List (Option Frac)). length ss) (with_items_is r.slots c.try_cut.new.slots (c.try_cut.auto.slots ∙ c.as_mut_slice.ensures.len)) ∙ c.try_cut.auto.slots ∙ ap (λ (ss : List (Option Frac)). length ss) c.as_mut_slice.ensures.value
