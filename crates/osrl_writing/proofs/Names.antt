-- The names that most proofs use.
pub use Rattle.std.proofs.Common.{Bool, List, OnOk, [], ap, append-nil, append_assoc, ap₂, arith, codes, cond, decimal, drop, false, get_or, le-ltb, length, lt-ltb, map, ne_eqb, neg_ℤ, negsuc, pos, refl, reverse, subst, suc, sym, take, true, zero, ℕ, ℤ, ◌%◌, ◌*◌, ◌++◌, ◌+◌, ◌-◌, ◌/◌, ◌<◌, ◌==◌, ◌^◌, ◌∙◌, ◌∷◌, ◌≡◌, ◌≢◌, ◌≤◌}
pub use Rattle.std.proofs.lemmas.Bool.{false≢true}
pub use Rattle.std.proofs.lemmas.List.{reverse-append, reverse-reverse, take_all}
pub use Rattle.std.proofs.lemmas.Result.{IfOk-weaker}
pub use Rattle.std.specs.Char.{digit_value}
pub use Rattle.std.specs.Prelude.{flat_map, unsigned_abs}
pub use Rattle.std.specs.Str.Parse.{AllDigits, digits_value, digits_value_after}
pub use Rattle.certificate.specs.declared.lists.Mult.{Mult}
pub use Rattle.certificate.specs.declared.nodes.Cert.{Cert}
pub use Rattle.certificate.specs.declared.nodes.Node.{Node}
pub use Rattle.certificate.specs.declared.nodes.Node.TheVariants.{Bound, BoundRows, Clash, Farkas, FarkasRows, Grid, GridRows, Split, Zero}
pub use Rattle.decimal_text.specs.Plain.{point_text}
pub use Rattle.decimal_text.specs.Sign.{optional}
pub use Rattle.document_tags.proofs.Tellings.{ends_told, ok_told_as, told_then}
pub use Rattle.document_tags.specs.Writing.{group, leaf, typed}
pub use Rattle.element_tree.specs.Building.{said}
pub use Rattle.fraction.specs.Frac.{ratio}
pub use Rattle.fraction.specs.declared.frac.Frac.{Frac}
pub use Rattle.osrl_writing.specs.Cuts.{cut_size, cut_text, decimals, has_sign, without_zeros}
pub use Rattle.osrl_writing.specs.Labels.{Labels, name_at, no_names}
pub use Rattle.osrl_writing.specs.Words.{claiming_text, part_name}
pub use Rattle.osrl_writing.specs.declared.told_names.NameLists.{NameLists}
pub use Rattle.osrl_writing.specs.Writing.{certificate_part, dual_values, fraction_texts, indexed, item_nodes, mult_text, node_text, point_parts, point_values, goal_values, level_text, level_texts, name_attribute, named_element, named_text, report_element, report_text, told_text, round_text, rounds_part, row_values, tree_values, trees_parts, values_part, values_part_unless_none, variable_values}
pub use Rattle.rational.specs.Ratio.{Ratio}
pub use Rattle.rational.specs.Whole.{signed}
pub use Rattle.tree_grammar.specs.Elements.{Close, Event, Nodes, chars, element, nodes_events, none}
