-- The widths and the numbers of a program whose variables are cut.
use Rattle.std.proofs.Common.{◌≡◌, ℕ, ◌+◌, ◌<◌, IfSome, List, length, map, slice_index_or, arith, ap, subst}
use Rattle.std.proofs.lemmas.List.{length-map}
use Rattle.std.proofs.lemmas.List.Elements.{All-map}
use Rattle.evidence.specs.Instance.{Instance, IsInstance, HasNumbers, width, height}
use Rattle.evidence.specs.Sums.{none}
use Rattle.evidence.specs.Cases.{Multiplier, AreLegal}
use Rattle.instance.proofs.Numbers.{range-numbers, further-numbers}
use Rattle.certificate.specs.declared.lists.Mult.{Mult}
use Rattle.certificate.specs.Meanings.{multiplier, multipliers}
use Rattle.case_tree.specs.declared.cuts.Cut.{Cut}
use Rattle.case_tree.specs.Cuts.{cut, cut_variable}
use Rattle.cert_checker.proofs.Lists.{mult_read}

pub width_is : (I : Instance) (cs : List Cut) → width (cut I cs) ≡ length cs
width_is I cs = length-map cs cut_variable

pub columns_in : (I : Instance) (cs : List Cut) (k : ℕ) → k < width (cut I cs) + height (cut I cs) → k < length cs + height I
columns_in I cs k h = let a = width_is I cs in omega arith

-- a legal multiplier has a column
pub legal_column : (I : Instance) (cs : List Cut) (ms : List Mult) (k : ℕ) (m : Mult) → AreLegal (cut I cs) (multipliers ms) → k < length ms → m ≡ slice_index_or ms k m → m.col < length cs + height I
legal_column I cs ms k m legal h e =
    let n = length-map ms multiplier in
    let c = legal.columns k (record { column = 0; by = none }) (omega arith) in
    columns_in I cs m.col (subst (λ (q : Multiplier). q.column < width (cut I cs) + height (cut I cs)) (mult_read ms k m h e) c)

-- a program whose variables are cut has numbers
pub cut-instance : (I : Instance) → IsInstance I → (cs : List Cut) → IsInstance (cut I cs)
cut-instance I good cs = record {
  variables = All-map (λ v. HasNumbers v.range) cut_variable cs (λ k d h. range-numbers (slice_index_or cs k d).lb (slice_index_or cs k d).ub);
  further = All-map (λ v. IfSome v.unless_zero HasNumbers) cut_variable cs (λ k d h. further-numbers (slice_index_or cs k d).var.zero (slice_index_or cs k d).var.lb (slice_index_or cs k d).var.ub);
  rows = good.rows;
  entries = good.entries;
  constant = good.constant;
  costs = good.costs;
}

-- before any branch it is the program itself
pub cut_is : (I : Instance) (cs : List Cut) → map cut_variable cs ≡ I.variables → cut I cs ≡ I
cut_is I cs e = ap (λ l. let J : Instance = record I { variables = l } in J) e
