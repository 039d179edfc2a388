use Rattle.std.proofs.Common.{◌≡◌, length, sym, ◌∙◌, ap}
use Rattle.dictionary.specs.Numbers.{words_over}
use Rattle.dictionary.proofs.scratch.Scratch.with_size.Goals as goal

pub invariant_of-result : goal.invariant_of-result
invariant_of-result c =
    let sums = c.in_ok-sums.sums in
    let values = c.in_ok-values.values in
    let others = c.in_ok-others.others in
    let count : length values.items ≡ c.args.columns = sym values.ok.0 ∙ c.in_ok-values.ensures.len in
    record {
      same = sym others.ok.0 ∙ c.in_ok-others.ensures.len ∙ sym count;
      as_many = sym sums.ok.0 ∙ c.in_ok-sums.ensures.len ∙ sym count;
      marks = c.in_ok-found.ensures.words ∙ ap words_over (sym count);
    }

pub returns : goal.returns
returns c = let values = c.in_ok-values.values in sym values.ok.0 ∙ c.in_ok-values.ensures.len
