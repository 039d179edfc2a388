-- The names that most proofs use.
pub use Rattle.std.proofs.Common.{Bool, List, MatchBool, SFits, [], ap, ap₂, arith, cond, drop, false, get_or, inl, inr, length, lit<, lit≤, map, nat_eq, nat_lt, neg_ℤ, negsuc, not, of_z, pos, refl, replicate, rules, set, slice_index, subst, suc, sym, take, to_z, true, w64, zero, ℕ, ℤ, ⊎_elim, ◌*ℤ◌, ◌*◌, ◌++◌, ◌+ℤ◌, ◌+◌, ◌-◌, ◌/◌, ◌<ℤ◌, ◌<◌, ◌==◌, ◌^◌, ◌↔◌, ◌∙◌, ◌∷◌, ◌≡◌, ◌≢◌, ◌≤ℤ◌, ◌≤◌, ◌⊎◌}
pub use Rattle.std.proofs.Math.Nat.{div-one, mul-le-mul_right}
pub use Rattle.std.proofs.lemmas.Bool.{and_from, and_left, and_parts, and_right, cases_Bool, cases_eq, cases_lt, cases_order, eq-eqb, eqb-true, false≢true, le-ltb, lt-ltb, ltb-false, ltb-true, ne_eqb, not-false, not-true, true≢false}
pub use Rattle.std.proofs.lemmas.Int.{ints, to_z-of_z, to_z_pos}
pub use Rattle.std.proofs.lemmas.List.{append-nil, append_assoc, drop-drop, drop-map, drop_all, drop_more, get_or-drop, get_or-map, get_or-take, get_or_read, length-append, length-drop, length-map, length-replicate, length-set, length-take, length-take-le, map-append, map_push, set_at, take-append-drop, take-map, take_all, take_more}
pub use Rattle.std.proofs.lemmas.List.Elements.{All-append, All-cons, All-contains, All-filter, All-head, All-map, All-more, All-nil, All-replicate, All-tail, All-weaker, filter_passes}
pub use Rattle.std.proofs.lemmas.Result.{err_from_is_err_and, on_ok_weaker}
pub use Rattle.std.specs.Fmt.{decimal}
pub use Rattle.std.specs.List.{All, AllWithin, filter}
pub use Rattle.std.specs.List.Sorted.{IsPartitionPoint, IsSortedByKey, IsStableByKey, ties}
pub use Rattle.std.specs.Prelude.{Contains, Err, IfErr, IfOk, IfSome, IsSome, IsSomeAnd, MatchOption, MatchResult, None, Ok, OnOk, Option, Result, Some, bytes_eq, codes, if◌then◌else◌, is_ok, unsigned_abs, ◌&&◌, ◌-ℤ◌, ◌||◌}
pub use Rattle.decimal_text.proofs.OneNumber.{bound_fits, count_fits, count_once, decimal_fits, only_inf, only_neg_inf, whole_fits, whole_once}
pub use Rattle.decimal_text.specs.Bound.{SaysEnd}
pub use Rattle.decimal_text.specs.Count.{IsCount, most_count}
pub use Rattle.decimal_text.specs.Decimal.{FittingText, IsDecimal, Mantissa, exponent_text, mantissa_digits, mantissa_text, plain, pointed}
pub use Rattle.decimal_text.specs.Plain.{PlainText, point_text}
pub use Rattle.decimal_text.specs.Sign.{minus, optional, sign_text}
pub use Rattle.decimal_text.specs.Whole.{IsWholeText}
pub use Rattle.doc_tree.specs.Marks.{Char, Finish, Mark, Start, spread}
pub use Rattle.document_tags.specs.Elements.{value_of}
pub use Rattle.document_tags.specs.Telling.{opening}
pub use Rattle.document_tags.specs.Texts.{IsDocument, document_limit}
pub use Rattle.document_tags.specs.Writing.{counted_element, with_attribute}
pub use Rattle.tree_writing.specs.WritableElements.{IsWritable, NodesWritable, local_element, local_nodes}
pub use Rattle.evidence.proofs.Fits.{sums_same, whole-reduced}
pub use Rattle.evidence.proofs.Numbers.{none-sum, sum-none, sum-number}
pub use Rattle.fraction.proofs.Order.{same_fraction}
pub use Rattle.fraction.specs.Frac.{ratio, ratios}
pub use Rattle.fraction.specs.declared.ends.End.{End}
pub use Rattle.fraction.specs.declared.ends.End.TheVariants.{At, Inf, NegInf}
pub use Rattle.fraction.specs.declared.ends.Entry.{Entry}
pub use Rattle.fraction.specs.declared.frac.Frac.{Frac}
pub use Rattle.instance.specs.Parts.{AreEnds, IsAscending, IsBefore, IsInside, IsValid, Parts}
pub use Rattle.instance.specs.Program.{entries, entry}
pub use Rattle.instance.specs.declared.parts.Goal.{Goal}
pub use Rattle.instance.specs.declared.parts.Row.{Row}
pub use Rattle.instance.specs.declared.parts.Sense.{Sense}
pub use Rattle.instance.specs.declared.parts.Sense.TheVariants.{Max, Min}
pub use Rattle.instance.specs.declared.parts.Var.{Var}
pub use Rattle.osil_grammar.specs.Failing.{AreTooMany, Fails, HasGreat, HasGreatEntry, HasNoSense, IsDivided, IsGreatEnd, IsIndexBelow, IsOutOfRange, items, limit, lines, list_length, lists_so_far, most}
pub use Rattle.osil_grammar.specs.Grammars.{Grammar, HasSuch, IsBad, IsDeclared, IsOfGrammar, IsTimes, IsTooGreat, IsUnread, IsWideOf, ReadsSo, Says, SaysCount, bound, count, field, lb, mult, nought, times, ub, whole}
pub use Rattle.osil_grammar.specs.Hearing.{AreHeldApart, HoldsApart, MakesSoFar, Refuse, WasFed, goals_held, held, is_in_matrix, tree_fault}
pub use Rattle.osil_grammar.specs.Leaving.{AddsCost, AddsRun, AddsWholes, Begins, Ends, HasMatrix, IsMatrixOf, Leaves, PassesOn, SaysRun, goal_so_far, into, is_variables, keeps_text, out_of, with_goals}
pub use Rattle.osil_grammar.specs.Marked.{IsAccepted, IsRefused, StandsFor, goals_said, instance_of, marks, osil}
pub use Rattle.osil_grammar.specs.Matrix.{HasWidePlace, IsDivision, lines_from, place_sum, placed, placed_all, stored}
pub use Rattle.osil_grammar.specs.Meaning.{AreEntriesOf, IsBinary, IsContinuous, IsEndAt, IsLess, IsSense, lowered, raised}
pub use Rattle.osil_grammar.specs.Orders.{AllFollow, Follow, IsInOrder, IsNotBehind, IsRising}
pub use Rattle.osil_grammar.specs.Reading.{AreAlike, DecodeFails, IsFaultText, IsInstanceText, IsRefusedText, IsTreeText, told_refusal}
pub use Rattle.osil_grammar.specs.Refusals.{Refusal, number}
pub use Rattle.osil_grammar.specs.Runs.{AreSame, ratio_at, ratio_run, whole_run}
pub use Rattle.osil_grammar.specs.Saying.{IsEndText, IsLetterOf, IsOfDomain, SaysConstant, SaysDomain, SaysHigh, SaysIndex, SaysLow, SaysRow, SaysRowLow, SaysSense, SaysStep, SaysTimes, SaysWholeStep, letter_names, letters, senses}
pub use Rattle.osil_grammar.specs.Sound.{AreCostsAt, AreGoals, AreGoalsLate, AreItems, AreWithin, HasGoals, HasGoalsIn, IsGoalOpen, IsInPart, IsSound, IsSoundAt, IsSoundIn, IsSoundSoFar, part_in}
pub use Rattle.osil_grammar.specs.ParseState.{State, start}
pub use Rattle.osil_grammar.specs.Stepping.{BeginsAt, EndAnswers, EndsAt, IsNear, IsStepRun, IsTooFar, StepsAt, Stop, told_of, unread_refusal}
pub use Rattle.osil_grammar.specs.Storing.{AreJoined, AreStored, AreSumsAt, line_entries, lists_of, matrix_lists, wholes}
pub use Rattle.osil_grammar.specs.Table.{Kind, Test, ToldRefusal, around, attributes, bad, bad_text, begins, content, count_name, end_ordinal, ends, fields, great_cost, great_end, great_run, great_text, has, high_infinite, kind, leads, list_rank, low_infinite, mark_name, no_index, no_sense, no_type, no_variable, numbers, other_count, otherwise, out_of_range, part_row, refusal, tests, text, too_great, too_many}
pub use Rattle.osil_grammar.specs.Telling.{EndAttributes, EndsHaveTexts, LacksDecimal, Wrote, WroteRoot}
pub use Rattle.osil_grammar.specs.VarTags.{IsVar, SaysVar, WritesVar, type_text, var_attributes, var_fields}
pub use Rattle.osil_grammar.specs.Writing.{CountsCosts, EndHasText, GoalHasDecimals, HasDecimal, HasDecimals, IsWrittenText, WriteCosts, WriteGoals, WriteLists, WriteRows, WriteValues, WriteVars, WritesGoal, WritesInstance, counts_nodes, entries_below, holding_text, row_starts, sense_text}
pub use Rattle.osil_grammar.specs.declared.domains.Domain.{Domain}
pub use Rattle.osil_grammar.specs.declared.domains.Domain.TheVariants.{Binary, Continuous, Integer, SemiContinuous, SemiInteger}
pub use Rattle.osil_grammar.specs.declared.elements.Led.{Led}
pub use Rattle.osil_grammar.specs.declared.elements.Listing.{Listing}
pub use Rattle.osil_grammar.specs.declared.elements.Listing.TheVariants.{ColumnIndices, RowIndices, Starts, Values}
pub use Rattle.osil_grammar.specs.declared.elements.Place.{Place}
pub use Rattle.osil_grammar.specs.declared.fault.OsilFault.{OsilFault}
pub use Rattle.rational.proofs.Scaling.{IsSame-sum, IsSame-trans}
pub use Rattle.rational.specs.Ratio.{IsNumber, IsSame, Ratio, negative, sum}
pub use Rattle.rational.specs.Width.{AreFourWithin, SumFits, left_term, right_term}
pub use Rattle.tag_tests.proofs.Fields.{both_read, fields_bad, fields_pass, fields_wide}
pub use Rattle.tag_tests.proofs.Tests.{first_behind, first_front, first_with, order_tested, pass_both}
pub use Rattle.tag_tests.specs.Characters.{heard}
pub use Rattle.tag_tests.specs.Places.{Child, among}
pub use Rattle.tag_tests.specs.Forms.{AreRefused, AreTaken, LeavesOne, TakesMark}
pub use Rattle.tag_tests.specs.Tests.{AllPass, FirstFails, InOrder}
pub use Rattle.tag_tests.specs.declared.numbers.Unread.{Unread}
pub use Rattle.tree_grammar.specs.Characters.{Each, IsXmlText}
pub use Rattle.tree_grammar.specs.Elements.{Attribute, Chars, Close, Element, Event, IsTextWithin, Nodes, Open, chars, element, events, nodes_depth, nodes_events, none}
