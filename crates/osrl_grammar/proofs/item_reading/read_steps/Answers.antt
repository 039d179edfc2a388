use Rattle.osrl_grammar.proofs.Names.{◌∙◌, ap, sym, subst, List, ℕ, Exact, ratio, more, grid_fields, mults_fields, ReadsTexts}
use Rattle.osrl_grammar.specs.Values.{SaysSteps}
use Rattle.osrl_grammar.specs.Stepping.{gridded}
use Rattle.osrl_grammar.proofs.Fields.{one_read}
use Rattle.osrl_grammar.proofs.Grids.{grid_read}
use Rattle.osrl_grammar.proofs.item_reading.read_steps.Goals as goal

pub returns : goal.returns
returns c =
    let s = c.first_piece.result.0.now in
    let ps = more c.first_piece.result.1 in
    rw c.gridded.ensures
    (subst (λ (l : List (List ℕ)). ReadsTexts (grid_fields l) (gridded c.in_ok-mults.mults c.read_exact.result) (SaysSteps l)) (sym (ap more c.in-Some.is ∙ c.first_piece.ensures))
    (grid_read s ps (mults_fields ps) c.in_ok-mults.mults c.read_exact.result (one_read Exact s c.read_exact.result ratio c.read_exact.ensures.ok c.read_exact.ensures.err) c.in_ok-mults.ensures))
