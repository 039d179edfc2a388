use Rattle.std.proofs.Common.{◌≡◌, ◌+◌, ◌++◌, ◌∷◌, [], length, map, take, arith, sym, ◌∙◌, ap, ap₂}
use Rattle.std.proofs.lemmas.List.{length-map, map-set, take_more_set, take_all, get_or-map}
use Rattle.evidence.specs.Instance.{Variable, no_variable}
use Rattle.instance.specs.Program.{variable}
use Rattle.case_tree.specs.Cuts.{cut_variable}
use Rattle.cert_checker.proofs.AddedLeads.{take_at}
use Rattle.cert_checker.proofs.walk.uncut_all.Goals as goal

pub loop-j-preserved : goal.loop-j-preserved
loop-j-preserved c =
    let cs = c.loop-j.cuts in
    let j = c.loop-j.j in
    let long = length-map cs cut_variable in
    let size = length-map c.args.vars.now variable in
    let a = c.loop-j.auto.cuts in
    let v = get_or-map variable c.args.vars.now j c.index-vars-j.result no_variable c.loop-j-test.true ∙ sym (ap variable c.index-vars-j.is) in
    ap (take (j + 1)) (map-set cut_variable cs j c.uncut.result)
    ∙ take_more_set (map cut_variable cs) j (cut_variable c.uncut.result) (omega arith)
    ∙ ap₂ (λ l (w : Variable). l ++ w ∷ []) c.loop-j.invariant (c.uncut.ensures ∙ sym v)
    ∙ sym (take_at (map variable c.args.vars.now) j no_variable (omega arith))

pub returns : goal.returns
returns c =
    let long = length-map c.loop-j.cuts cut_variable in
    let size = length-map c.args.vars.now variable in
    let a = c.loop-j.auto.cuts in
    let t = c.loop-j-test.false in
    let end = c.loop-j.auto.j-end in
    let e : length c.args.vars.now ≡ c.loop-j.j = omega arith in
    ap (λ n. take n (map cut_variable c.loop-j.cuts)) e ∙ c.loop-j.invariant ∙ take_all c.loop-j.j (map variable c.args.vars.now) (omega arith)
