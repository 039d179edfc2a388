use Rattle.std.proofs.Common.{◌<◌, List, [], ◌∷◌, ◌++◌, length, map, arith, sym, ◌∙◌, ap, ap₂}
use Rattle.std.proofs.lemmas.List.{take_more_set, take_all, map-append, map_more}
use Rattle.evidence.specs.Instance.{Variable}
use Rattle.instance.specs.Program.{variable}
use Rattle.case_tree.specs.Cuts.{cut_variable}
use Rattle.branch_bound.proofs.asking.uncut_each.Goals as goal

pub loop-j-preserved : goal.loop-j-preserved
loop-j-preserved c =
    let l = c.loop-j in
    let below : l.j < length l.cuts = let a = l.auto.cuts in let b = c.requires in let t = c.loop-j-test.true in omega arith in
    ap (map cut_variable) (take_more_set l.cuts l.j c.uncut.result below)
    ∙ map-append cut_variable _ (c.uncut.result ∷ [])
    ∙ ap₂ (λ (vs : List Variable) (v : Variable). vs ++ v ∷ []) l.invariant (c.uncut.ensures ∙ ap variable c.index-vars-j.is)
    ∙ sym (map_more variable c.args.vars.now l.j c.index-vars-j.result c.loop-j-test.true)

pub returns : goal.returns
returns c =
    let l = c.loop-j in
    let t = c.loop-j-test.false in
    sym (ap (map cut_variable) (take_all l.j l.cuts (let a = l.auto.cuts in let b = c.requires in omega arith))) ∙ l.invariant ∙ ap (map variable) (take_all l.j c.args.vars.now (omega arith))
