-- The generated instances have texts, and short ones.
use Rattle.std.proofs.Common.{◌≡◌, ℕ, suc, ◌+◌, ◌*◌, ◌%◌, ◌≤◌, List, [], length, refl, arith, lit≤, lit<}
use Rattle.std.proofs.lemmas.List.{length-replicate}
use Rattle.std.proofs.lemmas.List.Elements.{All-cons, All-nil, All-replicate}
use Rattle.osil_grammar.specs.declared.fault.EncodeFault.{EncodeFault}
use Rattle.osil_grammar.specs.declared.fault.EncodeFault.TheVariants.{NotDecimal, Long, Memory}
use Rattle.osil_grammar.specs.Telling.{EncodeFails}
use Rattle.osil_grammar.specs.Writing.{HasDecimal, EndHasText, GoalHasDecimals, HasDecimals, IsWrittenText}
use Rattle.generator.specs.Instances.{group_variable, cost_fits, cost, group_entry, row_limit, group_count, greatest, generated}
use Rattle.generator.proofs.Digits.{IsShort, IsWrittenOnce, natural_decimal, natural_short}
use Rattle.generator.proofs.Sizes.{VarIsShort, RowIsShort, GoalIsBrief, IsBrief, text_size}
use Rattle.generator.proofs.Validity.{each_all, each_length}

pub decimals : (n : ℕ) → HasDecimals (generated n)
decimals n = record {
  vars = each_all (λ v. EndHasText v.lb × EndHasText v.ub) group_variable n (λ j low. (natural_decimal 0 (lit≤ tt), natural_decimal 3 (lit≤ tt)));
  rows = All-replicate (λ r. EndHasText r.lb × EndHasText r.ub) (group_count n) row_limit (tt, natural_decimal 7 (lit≤ tt));
  entries = each_all (λ e. HasDecimal e.value) group_entry n (λ j low. natural_decimal 2 (lit≤ tt));
  goals = All-cons GoalHasDecimals (greatest n) [] (natural_decimal 0 (lit≤ tt), each_all HasDecimal cost n (λ j low. natural_decimal (suc (j % 4)) (cost_fits j))) (All-nil GoalHasDecimals);
}

goal_brief : IsWrittenOnce → (n : ℕ) → n ≤ 1000 → GoalIsBrief (greatest n)
goal_brief once n few = record {
  few = omega (arith, few, each_length cost n);
  constant = natural_short once 0 (lit≤ tt) (lit< tt);
  costs = each_all IsShort cost n (λ j low. natural_short once (suc (j % 4)) (cost_fits j) (omega arith));
}

brief : IsWrittenOnce → (n : ℕ) → 1 ≤ n → n ≤ 1000 → IsBrief (generated n)
brief once n some few =
    let rows = length-replicate (group_count n) row_limit in
    record {
      few_vars = omega (arith, few, each_length group_variable n);
      few_rows = omega (arith, few, rows);
      few_entries = omega (arith, few, each_length group_entry n);
      few_goals = omega arith;
      columns = each_all (λ e. e.col ≤ 1000) group_entry n (λ j low. omega (arith, low, few));
      vars = each_all VarIsShort group_variable n (λ j low. (natural_short once 0 (lit≤ tt) (lit< tt), natural_short once 3 (lit≤ tt) (lit< tt)));
      rows = All-replicate RowIsShort (group_count n) row_limit (tt, natural_short once 7 (lit≤ tt) (lit< tt));
      values = each_all (λ e. IsShort e.value) group_entry n (λ j low. natural_short once 2 (lit≤ tt) (lit< tt));
      goals = All-cons GoalIsBrief (greatest n) [] (goal_brief once n few) (All-nil GoalIsBrief);
    }

pub short : IsWrittenOnce → (n : ℕ) (text : List ℕ) → 1 ≤ n → n ≤ 1000 → IsWrittenText (generated n) text → length text ≤ 300 * n + 1000
short once n text some few is =
    omega (arith, some, text_size (generated n) text (brief once n some few) is, each_length group_variable n, each_length cost n, each_length group_entry n, length-replicate (group_count n) row_limit)

pub only_memory : IsWrittenOnce → (n : ℕ) (f : EncodeFault) → 1 ≤ n → n ≤ 1000 → EncodeFails (generated n) f → f ≡ Memory
only_memory once n NotDecimal some few fails = absurd (fails (decimals n))
only_memory once n Long some few fails = let h = fails.1 in absurd (omega (arith, few, h.2, short once n h.0 some few h.1))
only_memory once n Memory some few fails = refl
