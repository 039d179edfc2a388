-- The names that most proofs use.
pub use Rattle.std.proofs.Common.{Bool, Equal, Err, Greater, IfOk, IsErrOf, IsTrue, Less, List, MatchBool, MatchOption, None, Ok, OnOk, Option, Result, Some, [], ap, append-nil, append_assoc, arith, codes, cond, drop, drop-cons, false, get_or, inl, inr, le-ltb, leb, length, length-append, lt-ltb, map, max, nat_cmp, nat_eq, refl, reverse, subst, suc, sym, take, take-append-drop, true, zero, ℕ, ◌%◌, ◌&&◌, ◌*◌, ◌++◌, ◌+◌, ◌-◌, ◌/◌, ◌<◌, ◌==◌, ◌||◌, ◌↔◌, ◌∙◌, ◌∷◌, ◌≡◌, ◌≢◌, ◌≤◌, ◌⊎◌}
pub use Rattle.std.proofs.Math.ListN.{drop_of_length-le, get_or-map}
pub use Rattle.std.proofs.Math.Path.{fun_ext}
pub use Rattle.std.proofs.Math.Seq.{take-add, take-append_seam}
pub use Rattle.std.proofs.lemmas.Bool.{and_parts, cases_lt, cond-false, cond-true, leb-true}
pub use Rattle.std.proofs.lemmas.Bool.Decides.{eqb_tells, leb_tells}
pub use Rattle.std.proofs.lemmas.List.{append_cancel_left, get_or-drop, length-drop, length-map, length-reverse, length-take-le, map-append, reverse-append, take-append-le, take-take, take_all, take_more, take_rest}
pub use Rattle.std.proofs.lemmas.Map.Text.{is_eq-slice_cmp}
pub use Rattle.std.proofs.lemmas.Option.{get_or_from_slice_get}
pub use Rattle.std.proofs.lemmas.Slice.Eq.{bytes_eq-Decides, slice_eq-Decides}
pub use Rattle.std.proofs.lemmas.Str.{encode_ascii, encodes-append}
pub use Rattle.std.specs.BTreeMap.{is_at}
pub use Rattle.std.specs.BTreeSet.{BTreeSet, Updates, contains, insert_key}
pub use Rattle.std.specs.Char.{IsScalar, digit_value, to_ascii_lowercase}
pub use Rattle.std.specs.Cmp.{unsigned_Decides}
pub use Rattle.std.specs.Cmp.Lexicographic.{pointwise, slice_cmp}
pub use Rattle.std.specs.List.{list_any}
pub use Rattle.std.specs.Ordering.{is_eq, match_ordering}
pub use Rattle.std.specs.Prelude.{encode_utf8, encode_utf8_all}
pub use Rattle.std.specs.Str.Parse.{AllDigits, IsNumeral, digits_value, digits_value_after}
pub use Rattle.std.specs.declared.cmp.Ordering.{Ordering}
pub use Rattle.doc_tree.specs.Building.{HandsOn, IsApart, IsBuildingReady, NoCharsFirst, NoCharsLast, TellsMarks}
pub use Rattle.doc_tree.specs.Completions.{ArePrintable, Around, Behind, BehindKey, BehindReference, BehindValue, Completes, Emptied, EndOver, EqualsAt, FollowsByte, GoesBehind, Good, GoodGoal, GoodReference, GoodRound, GoodTag, HoldsKey, InBody, InElement, InKey, InNumeral, InTag, Insides, IsDeep, IsDepthAllowed, IsDoctype, IsFixed, IsInMark, IsOther, IsPlainByte, IsPrintable, IsRadix, Outer, PiNamed, QuestionAt, QuoteAt, ReachesGoal, ReachesState, RestsAt, RunsOn, SaidByReference, MachineState, Stuck, TagChoice, view}
pub use Rattle.doc_tree.specs.Feeding.{CanGoOn, Feeding, HandedOn, Heard, IsTaken, MeetsBoth, RefusesByte, RefusesBytes, TakesBytes, WasFed, WasHeard, any_encoding, behind}
pub use Rattle.doc_tree.specs.Gathered.{Gathers, whole}
pub use Rattle.doc_tree.specs.LineEnds.{Blocks, Continues, Finishes, IsNoDocument, PassesByte, bounds, unread}
pub use Rattle.doc_tree.specs.Marks.{Char, Finish, Mark, Start, body_marks, content_marks, gather, join, spread}
pub use Rattle.doc_tree.specs.Places.{feeding}
pub use Rattle.doc_tree.specs.Reading.{NoneBegins, NoneWithin, ReadingFails, ReadsDocument, ReadsOnly, Refused, Visits}
pub use Rattle.doc_tree.specs.Refusals.{Decides, IsClean, IsDeepAt, IsDoctypeAt, IsEncodingAt, IsMalformedAt, IsRefusal, IsRefusedIn, IsShallowlyViable, IsText, IsViable, rank}
pub use Rattle.doc_tree.specs.Relieved.{Relieved}
pub use Rattle.doc_tree.specs.Rests.{After, Aim, AttributeValue, Before, Between, BodyRest, Choice, CommentRest, DigitRest, EncodingNext, EndRest, EndsBehind, EndsDeclaration, EqualsRest, FieldOver, FieldRest, FieldValue, FirstOver, Foreign, ForeignRest, Gap, GapRest, Inside, IsBodyFit, IsDeclarationRead, IsDigitsRest, IsEncodingRead, IsFieldValue, IsFit, IsNameRest, IsNextField, IsNumeralRest, IsReadEncoding, IsSpecial, IsValueBegun, KeyOver, Marked, Never, Next1, Next2, NextFields, NoNextField, NumeralRest, Or, PiOver, PiRest, PiSpace, PiText, QuoteRest, Quoted, RefRest, RootOrType, RootRest, Saying, SectionRest, TagFirst, TagRest, TreeTerms, Then, ValueRest, Valued, VersionNext, VersionRest, Whole, Word, WordNext, any, depth_left, field_name, first_letter, keep, pending_brackets, readable, special}
pub use Rattle.doc_tree.specs.TagNames.{AreNumbered, AreSameNames, IsSorted, number_from}
pub use Rattle.doc_tree.specs.Utf8.{ByteBetween, CharacterFollows, CharacterRest, CharacterStuck, OneMore, Spells, TwoMore}
pub use Rattle.doc_tree.specs.Walks.{IsAlone, IsPlainText, IsPlainValue, IsQuoted, Walks, returned_behind}
pub use Rattle.doc_tree.specs.Whole.{IsEnd}
pub use Rattle.doc_tree.specs.declared.characters.Awaited.{Awaited}
pub use Rattle.doc_tree.specs.declared.declaration.Field.{Field}
pub use Rattle.doc_tree.specs.declared.fault.TreeFault.{TreeFault}
pub use Rattle.doc_tree.specs.declared.machine.Goal.{Goal}
pub use Rattle.doc_tree.specs.declared.machine.Place.{Place}
pub use Rattle.doc_tree.specs.declared.machine.Place.TheVariants.{TagAfter}
pub use Rattle.doc_tree.specs.declared.machine.Round.{Round}
pub use Rattle.doc_tree.specs.declared.names.Part.{Part}
pub use Rattle.element_tree.proofs.Events.{element_same}
pub use Rattle.element_tree.proofs.OpenElements.{match_map}
pub use Rattle.tree_grammar.proofs.XmlTexts.{Printable, clean_ascii, clean_fixed, clean_nothing, each_append, text_append}
pub use Rattle.element_tree.specs.Building.{Building, said, with_run}
pub use Rattle.element_tree.specs.Items.{event_at}
pub use Rattle.element_tree.specs.Nesting.{IsOneElement}
pub use Rattle.tree_grammar.specs.Characters.{Each, Entity, IsDigit, IsLetter, IsName, IsNameChar, IsNameStart, IsQName, IsQNameRest, IsSpace, IsXmlChar, IsXmlText, Reference, Some1, amp, apos, begins_with_line_feed, behind_colon, decimal, entity_text, gt, has_prefix, hexadecimal, local_part, lt, named, normal_lines, quot, reference_chars, reference_text}
pub use Rattle.tree_grammar.specs.Content.{BeginsWith, Body, Comment, Content, Instruction, IsBodyClear, IsClear, IsInstructionText, IsSectionText, Misc, bare, body_nodes, body_text, brackets, char, closed, comment, comment_dash, comment_over, comment_plain, comment_text, content_nodes, content_text, empty, end_text, instruction, instruction_text, misc_comment, misc_instruction, misc_over, misc_space, misc_text, nested, nothing, opened, put_char, put_chars, reference, section, with_text}
pub use Rattle.tree_grammar.specs.Declaration.{Declaration, Encoding, IsDeclarationReadable, IsEncodingChar, IsEncodingName, IsUtf8Name, IsYesOrNo, Standalone, Version, declaration_text, declared, encoded, encoding_text, no_declaration, no_encoding, no_standalone, standalone_text, standing, version_text}
pub use Rattle.tree_grammar.specs.Document.{Doc, Document, document_element, document_text, mark_text}
pub use Rattle.tree_grammar.specs.Elements.{Attribute, Chars, Close, Element, Event, IsShallow, Nodes, Open, chars, element, events, nodes_depth, nodes_events, none}
pub use Rattle.tree_grammar.specs.Tags.{AreUniqueNames, Attributes, Equals, IsAmong, IsQuote, Tag, Value, attribute, attribute_list, attributes_text, equals_text, is_kept, no_attribute, tag_text, value_chars, value_over, value_plain, value_reference, value_text, value_white}
