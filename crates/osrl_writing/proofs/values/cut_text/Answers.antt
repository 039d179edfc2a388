use Rattle.osrl_writing.proofs.Names.{◌∙◌, List, ℕ, ◌++◌, ap, ratio}
use Rattle.osrl_writing.proofs.Cuts.{plain_is_cut}
use Rattle.osrl_writing.proofs.values.cut_text.Goals as goal

pub returns : goal.returns
returns c =
    let a = c.in_ok-write_cut12.ensures.ok in
    a.after ∙ ap (λ (s : List ℕ). s ++ a.written) c.new-text.ensures ∙ plain_is_cut (ratio c.args.value) a.written a.plain
