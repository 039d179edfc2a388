use Rattle.std.proofs.Common.{List, length, map, sym, ◌∙◌, ap}
use Rattle.std.proofs.lemmas.List.{with_items_is}
use Rattle.instance.specs.declared.parts.Var.{Var}
use Rattle.instance.specs.Program.{variable}
use Rattle.case_tree.specs.Cuts.{cut_variable}
use Rattle.branch_bound.proofs.asking.begin_again.Goals as goal

pub uncut_each-requires : goal.uncut_each-requires
uncut_each-requires c = ap length c.as_mut_slice.ensures.value ∙ c.requires ∙ sym (ap (λ (vs : List Var). length vs) c.vars.ensures.value)

pub returns-clause-uncut : goal.returns-clause-uncut
returns-clause-uncut c =
    ap (map cut_variable) (with_items_is c.args.walk.now.cuts c.uncut_each.new.cuts (c.uncut_each.auto.cuts ∙ c.as_mut_slice.ensures.len)) ∙ c.uncut_each.ensures ∙ ap (map variable) c.vars.ensures.value
