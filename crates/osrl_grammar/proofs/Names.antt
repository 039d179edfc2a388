-- The names that most proofs use.
pub use Rattle.std.proofs.Common.{Bool, Bor, Err, IfErr, IfOk, List, None, Ok, OnOk, Option, Result, Some, [], ap, append-nil, append_assoc, ap₂, arith, bytes_eq, codes, cond, decimal, drop, false, get_or, inl, inr, length, lit≤, map, nat_lt, ne_eqb, neg_ℤ, negsuc, option_map, pos, refl, reverse, subst, suc, sym, take, true, zero, ℕ, ℤ, ◌%◌, ◌&&◌, ◌*◌, ◌++◌, ◌+◌, ◌-◌, ◌/◌, ◌<◌, ◌==◌, ◌^◌, ◌||◌, ◌∙◌, ◌∷◌, ◌≡◌, ◌≢◌, ◌≤◌, ◌⊎◌}
pub use Rattle.std.proofs.Math.Facts.{to_z-of_z}
pub use Rattle.std.proofs.lemmas.Bool.{false≢true, true≢false}
pub use Rattle.std.proofs.lemmas.List.{reverse-append, take_all}
pub use Rattle.std.proofs.lemmas.List.Elements.{All-append, All-cons, All-head, All-nil, All-tail}
pub use Rattle.std.proofs.lemmas.Result.{IfOk-weaker, on_ok_weaker}
pub use Rattle.std.specs.Char.{digit_value}
pub use Rattle.std.specs.Fmt.{signed_decimal}
pub use Rattle.std.specs.List.{All, AllZip}
pub use Rattle.std.specs.Option.{is_some}
pub use Rattle.std.specs.Prelude.{MatchOption, flat_map, unsigned_abs}
pub use Rattle.std.specs.Str.Parse.{AllDigits, digits_value, digits_value_after}
pub use Rattle.certificate.specs.Nodes.{nodes_of}
pub use Rattle.certificate.specs.declared.causes.Step.{Step}
pub use Rattle.certificate.specs.declared.claims.ProvedBound.{ProvedBound}
pub use Rattle.certificate.specs.declared.claims.Claim.{Claim}
pub use Rattle.certificate.specs.declared.claims.Claim.TheVariants.{BestSoFar, Infeasible, Optimal, Unbounded, Unsure}
pub use Rattle.certificate.specs.declared.lists.Mult.{Mult}
pub use Rattle.certificate.specs.declared.nodes.Round.{Round}
pub use Rattle.certificate.specs.declared.nodes.Cert.{Cert}
pub use Rattle.certificate.specs.declared.nodes.Node.{Node}
pub use Rattle.certificate.specs.declared.nodes.Node.TheVariants.{Bound, BoundRows, Clash, Farkas, FarkasRows, Grid, GridRows, Split, Zero}
pub use Rattle.decimal_text.proofs.OneRatio.{ratio_once}
pub use Rattle.decimal_text.specs.Exact.{RatioText, ratio_text}
pub use Rattle.decimal_text.specs.Plain.{point_text}
pub use Rattle.decimal_text.specs.Sign.{optional}
pub use Rattle.decimal_text.specs.Space.{trimmed}
pub use Rattle.doc_tree.specs.Marks.{Char, Finish, Start, spread}
pub use Rattle.document_tags.proofs.PrintableTexts.{decimal_each, decimal_printable, printable_text, signed_each}
pub use Rattle.document_tags.proofs.XmlNodes.{none_flat}
pub use Rattle.document_tags.specs.Elements.{elements_in, unless_empty}
pub use Rattle.document_tags.specs.Texts.{IsDocument, document_limit}
pub use Rattle.document_tags.specs.Writing.{group, leaf, text_nodes, typed}
pub use Rattle.tree_grammar.proofs.XmlTexts.{Printable, list_printable}
pub use Rattle.fraction.specs.Frac.{ratio}
pub use Rattle.fraction.specs.declared.frac.Frac.{Frac}
pub use Rattle.osrl_grammar.specs.Back.{BoundComesBack, CauseComesBack, ClaimComesBack, ComesBack, HasTrees, HaveColumns, IsBareOrNone, LevelComesBack, MayHaveTrees, NodeComesBack, RoundComesBack, TreesComeBack}
pub use Rattle.osrl_writing.specs.Cuts.{cut_size, cut_text, decimals, has_sign, without_zeros}
pub use Rattle.osrl_grammar.specs.Failing.{Fails, MayHoldItems}
pub use Rattle.osrl_grammar.specs.Grounds.{TextsAreOfCharacters}
pub use Rattle.osrl_grammar.specs.Items.{ReadsTexts, all_cause_words, all_node_words, all_steps, cause_behind, cause_word, field, grid_fields, item_fields, mult_fields, mults_fields, no_field, node_behind, node_word, one_field, pair_fields, place_fields, all_round_words, round_behind, round_word, step_text, two_fields, with_fields}
pub use Rattle.osrl_grammar.specs.Adding.{AddsItem, AfterItem, IsItemRead, noted, with_read, with_tree_item}
pub use Rattle.osrl_grammar.specs.Leaving.{Ends, Leaves, begun, first, keeps, with_part}
pub use Rattle.osrl_grammar.specs.Marked.{IsReport, marks, osrl}
pub use Rattle.osrl_grammar.specs.Numbers.{Exact, Field, FitsKind, Index, IsBad, IsFree, IsNot, IsNumberText, IsTooGreat, Turn, Whole, WritesNumber}
pub use Rattle.osrl_grammar.specs.Order.{number}
pub use Rattle.osrl_grammar.specs.Pieces.{Pair, more, parted, pieces}
pub use Rattle.osrl_grammar.specs.Reading.{DecodeFails, IsReportText}
pub use Rattle.osrl_grammar.specs.Saying.{bad_item, cert, certs, claim_as, has, items, next_level, nonempty, report_of, report_with, status_of}
pub use Rattle.osrl_grammar.specs.ParseState.{State, emptied, nothing_held, start}
pub use Rattle.osrl_grammar.specs.Stepping.{EndsAt}
pub use Rattle.osrl_grammar.specs.Table.{around, item_refusal, kind, leads, refusal_of, tests, told}
pub use Rattle.osrl_grammar.specs.Values.{BeginsWithWord, IsCause, IsFraction, IsMult, IsMultOf, IsOne, IsOneFraction, IsOutOfOrder, IsPlace, IsRound, IsTreeItem, SaysCause, SaysNode, SaysRound, SaysTree, cause_head, node_head, round_head, tree_head}
pub use Rattle.osrl_grammar.specs.Words.{worded}
pub use Rattle.osrl_writing.specs.Words.{claiming_text, part_name, status_text}
pub use Rattle.osrl_writing.specs.Labels.{AreXmlLabels, AreXmlNames, Labels, name_at, no_names}
pub use Rattle.osrl_writing.specs.declared.told_names.NameLists.{NameLists}
pub use Rattle.osrl_writing.specs.Writing.{bound_parts, cause_part, cause_text, certificate_part, claim_nodes, dual_values, fraction_texts, general_nodes, general_type, indexed, item_nodes, leaf_of, mult_text, node_text, optimization, point_parts, point_values, goal_values, level_text, level_texts, name_attribute, named_element, named_text, ray_part, report_element, report_text, told_text, round_text, rounds_part, row_values, solution, status_nodes, tree_parts, tree_values, trees_parts, values_part, values_part_unless_none, variable_values}
pub use Rattle.tag_tests.specs.declared.places.Led.{Led}
pub use Rattle.tag_tests.specs.declared.places.Led.TheVariants.{OtherRoot, Over, To}
pub use Rattle.osrl_grammar.specs.declared.fault.OsrlFault.{OsrlFault}
pub use Rattle.osrl_grammar.specs.declared.fault.OsrlFault.TheVariants.{Memory}
pub use Rattle.osrl_grammar.specs.declared.held.Held.{Held}
pub use Rattle.osrl_grammar.specs.declared.parts.BadItem.{BadItem}
pub use Rattle.osrl_writing.specs.declared.parts.Claiming.{Claiming}
pub use Rattle.osrl_grammar.specs.declared.parts.Misread.{Misread}
pub use Rattle.osrl_grammar.specs.declared.parts.Misread.TheVariants.{NoNumber, NoShape, TooGreat}
pub use Rattle.osrl_writing.specs.declared.parts.Part.{Part}
pub use Rattle.osrl_writing.specs.declared.parts.Part.TheVariants.{Point, Ray, Value}
pub use Rattle.osrl_grammar.specs.declared.parts.TreeItem.{TreeItem}
pub use Rattle.osrl_writing.specs.declared.report.JobStatus.{JobStatus}
pub use Rattle.osrl_writing.specs.declared.report.Report.{Report}
pub use Rattle.rational.specs.Ratio.{Ratio, whole}
pub use Rattle.rational.specs.Whole.{signed}
pub use Rattle.rational.specs.Width.{IsReduced, IsWithin, most}
pub use Rattle.tag_tests.proofs.Fields.{both_read}
pub use Rattle.tag_tests.proofs.Forms.{taken_once}
pub use Rattle.tag_tests.specs.Fields.{FieldsRead}
pub use Rattle.tag_tests.specs.Forms.{AreTaken, TakesMark}
pub use Rattle.tag_tests.specs.Places.{Kind, begins, end_kind, ends, ends_over, led_from}
pub use Rattle.tag_tests.specs.Tests.{AllPass, FirstFails}
pub use Rattle.tag_tests.specs.declared.marks.Stop.{Stop}
pub use Rattle.tag_tests.specs.declared.marks.Stop.TheVariants.{Refused}
pub use Rattle.tag_tests.specs.declared.numbers.Unread.{Unread}
pub use Rattle.tag_tests.specs.declared.numbers.Unread.TheVariants.{Wide}
pub use Rattle.tree_grammar.specs.Characters.{Each, IsXmlText}
pub use Rattle.tree_grammar.specs.Elements.{Attribute, Close, Element, Event, Nodes, chars, element, nodes_events, none}
pub use mir.Syntax.{w128}
