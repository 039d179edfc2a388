-- The options that a document says may be written: their job's name is one, of characters of XML without white space round them and of at most 256 bytes, and their limits are such as they may be.
use Rattle.std.proofs.Common.{◌≡◌, ℕ, zero, suc, ◌<◌, ◌≤◌, inl, inr, Option, None, Some, List, [], ◌∷◌, ◌++◌, length, leb, refl, sym, subst}
use Rattle.std.specs.Prelude.{IsSomeAnd, map, codes}
use Rattle.std.proofs.lemmas.Bool.{cases_lt, leb-true}
use Rattle.tree_grammar.specs.Characters.{IsXmlText}
use Rattle.tree_grammar.specs.Document.{Doc}
use Rattle.tree_grammar.specs.Elements.{Attribute, Nodes, none, element, chars, Element, Event, Open, Chars, Close, nodes_events, events}
use Rattle.doc_tree.specs.Marks.{Char, spread}
use Rattle.tree_grammar.proofs.XmlTexts.{clean_nothing}
use Rattle.document_tags.specs.Characters.{NodesOfCharacters, IsOfCharacters}
use Rattle.document_tags.specs.Elements.{unless_empty, value_of}
use Rattle.decimal_text.specs.Space.{trimmed}
use Rattle.decimal_text.proofs.Trims.{space_low, trimmed_keeps, trimmed_again}
use Rattle.tag_tests.specs.Tests.{AllPass}
use Rattle.tag_tests.specs.Forms.{AreTaken}
use Rattle.tag_tests.proofs.Forms.{taken_parts}
use Rattle.tag_tests.proofs.Characters.{chars_leave}
use Rattle.tag_tests.proofs.KeptTexts.{kept_xml}
use Rattle.osol_grammar.specs.declared.gaps.Gap.{Gap}
use Rattle.osol_grammar.specs.declared.limit.Limit.{Limit}
use Rattle.osol_grammar.specs.declared.options.Options.{Options}
use Rattle.osol_grammar.specs.declared.place.Place.{Place}
use Rattle.osol_grammar.specs.declared.place.Place.TheVariants.{JobId, MaxTime, Var, SolverOption}
use Rattle.tag_tests.specs.declared.places.Led.{Led}
use Rattle.tag_tests.specs.declared.places.Led.TheVariants.{To, OtherRoot}
use Rattle.osol_grammar.specs.declared.parse_state.ParseState.{ParseState as State}
use Rattle.osol_grammar.specs.Limits.{limit_row}
use Rattle.osol_grammar.specs.Options.{amount, no_options, SaysOption}
use Rattle.osol_grammar.specs.Gaps.{IsGapText, SaysGap}
use Rattle.osol_grammar.specs.FirstValues.{more_first}
use Rattle.fraction.specs.declared.frac.Frac.{Frac}
use Rattle.osol_grammar.specs.Table.{start, content, tests, Fails, Begins, is_text, Leaves}
use Rattle.tag_tests.specs.Places.{led_from, end_kind}
use Rattle.tag_tests.specs.Contents.{leads_by, keeps_in}
use Rattle.osol_grammar.specs.Marked.{osol}
use Rattle.osol_grammar.specs.Meaning.{IsOptionsText}
use Rattle.osol_grammar.specs.Back.{IsNameOrNone, IsTimeOrNone, AreFirstOrNone, IsGapOrNone, ComesBack}
use Rattle.osol_grammar.proofs.LimitTable.{amount_with, rest_with, amount_beside, each_passes}
use Rattle.osol_grammar.proofs.SaidValues.{first_back}

-- ---- limits

none_back : ComesBack no_options
none_back = record {
  job = tt;
  seconds = tt;
  first = tt;
  gap = tt;
  above = λ l. leb-true (limit_row l).least (amount no_options l) (each_passes (λ k. leb (limit_row k).least (amount no_options k)) refl l);
  below = λ l. leb-true (amount no_options l) (limit_row l).most (each_passes (λ k. leb (amount no_options k) (limit_row k).most) refl l);
}

-- so are they with other first values and another gap
beside_back : (o : Options) (first : Option (List (Option Frac))) (gap : Option Gap) → AreFirstOrNone first → IsGapOrNone gap → ComesBack o → ComesBack (record o { first = first; gap = gap })
beside_back o first gap are is back = record {
  job = back.job;
  seconds = back.seconds;
  first = are;
  gap = is;
  above = λ l. subst (λ (k : ℕ). (limit_row l).least ≤ k) (sym (amount_beside o first gap l)) (back.above l);
  below = λ l. subst (λ (k : ℕ). k ≤ (limit_row l).most) (sym (amount_beside o first gap l)) (back.below l);
}

gap_above : (as' : List Attribute) (g : Gap) → SaysGap as' g → IsGapOrNone (Some g)
gap_above as' g says = by (value_of (codes "value") as') says
  where
    by : (text : Option (List ℕ)) → IsSomeAnd text (λ t. IsGapText t g) → IsGapOrNone (Some g)
    by None says = absurd says
    by (Some t) says = says.above

option_back : (as' : List Attribute) (o p : Options) → SaysOption as' o p → ComesBack o → ComesBack p
option_back as' o p (inr (inr h)) back = subst ComesBack (sym h.2) back
option_back as' o p (inr (inl (g, is, says, e))) back = subst ComesBack (sym e) (beside_back o o.first (Some g) back.first (gap_above as' g says) back)
option_back as' o p (inl (l, n, is, says, e)) back = subst ComesBack (sym e) (record {
  job = subst IsNameOrNone (sym (rest_with o l n).0) back.job;
  seconds = subst IsTimeOrNone (sym (rest_with o l n).1) back.seconds;
  first = subst AreFirstOrNone (sym (rest_with o l n).2) back.first;
  gap = subst IsGapOrNone (sym (rest_with o l n).3) back.gap;
  above = λ k. elim (amount_with o l n k) [
    | inl own ↦ subst (λ (x : ℕ). (limit_row k).least ≤ x) (sym own.1) (subst (λ (i : Limit). (limit_row i).least ≤ n) (sym own.0) says.1)
    | inr other ↦ subst (λ (x : ℕ). (limit_row k).least ≤ x) (sym other) (back.above k)
  ];
  below = λ k. elim (amount_with o l n k) [
    | inl own ↦ subst (λ (x : ℕ). x ≤ (limit_row k).most) (sym own.1) (subst (λ (i : Limit). n ≤ (limit_row i).most) (sym own.0) says.2)
    | inr other ↦ subst (λ (x : ℕ). x ≤ (limit_row k).most) (sym other) (back.below k)
  ];
})

-- ---- the texts of documents

abbrev AreXml : List Event → Type 0
AreXml [] = Unit {0}
AreXml (Open name attributes ∷ more) = AreXml more
AreXml (Chars text ∷ more) = IsXmlText text × AreXml more
AreXml (Close name ∷ more) = AreXml more

nodes_xml : (nodes : Nodes) (k : List Event) → NodesOfCharacters nodes → AreXml k → AreXml (nodes_events nodes k)
nodes_xml none k all rest = rest
nodes_xml (element name attributes children more) k all rest = nodes_xml children (Close name ∷ nodes_events more k) all.2 (nodes_xml more k all.3 rest)
nodes_xml (chars text more) k all rest = (all.0, nodes_xml more k all.1 rest)

-- ---- marks

-- the characters so far are those of XML, and the options so far may be written
record IsGood (s : State) : Type 0 where
  pub text : IsXmlText s.text
  pub back : ComesBack s.options

begin_good : (s z : State) (as' : List Attribute) (l : Led Place) → Begins s as' l z → IsGood s → IsGood z
begin_good s z as' (To SolverOption) (o, says, e) g = subst IsGood (sym e) (record { text = g.text; back = option_back as' s.options o says g.back })
begin_good s z as' (To Var) (n, x, is, says, e) g = subst IsGood (sym e) (record { text = g.text; back = let o = s.options in beside_back o (more_first o.first n x) o.gap (first_back o.first n x is.1 g.back.first) g.back.gap g.back })
begin_good s z as' (To JobId) e g = subst IsGood (sym e) (record { text = clean_nothing.text; back = g.back })
begin_good s z as' (To MaxTime) (n, is, e) g = subst IsGood (sym e) (record { text = clean_nothing.text; back = g.back })
begin_good s z as' OtherRoot e g = absurd e
begin_good s z as' l e g = subst IsGood (sym e) (record { text = g.text; back = g.back })

chars_good : (s z : State) (cs : List ℕ) → IsXmlText cs → AreTaken osol s (map Char cs) z → IsGood s → IsGood z
chars_good s z cs xml taken g = subst IsGood (sym (chars_leave osol (λ (t : List ℕ). record s { text = t }) (keeps_in is_text s.depth s.place) (λ t c m takes. takes.1) s.text cs z taken)) (record { text = kept_xml (keeps_in is_text s.depth s.place) s.text cs g.text xml; back = g.back })

none_or_name : (text : List ℕ) → length text ≤ 256 → trimmed text ≡ text → IsXmlText text → IsNameOrNone (unless_empty text)
none_or_name [] short bare xml = tt
none_or_name (c ∷ cs) short bare xml = record { some = λ e. cc; short = short; bare = bare; characters = xml }

module _ (of_characters : (bytes : List ℕ) (root : Element) → Doc bytes root → IsOfCharacters root)
    (parts : (before : List ℕ) (c : ℕ) (behind : List ℕ) → c < 128 → IsXmlText (before ++ (c ∷ behind)) → IsXmlText before × IsXmlText behind) where
  trimmed_xml : (s : List ℕ) → IsXmlText s → IsXmlText (trimmed s)
  trimmed_xml = trimmed_keeps IsXmlText (λ b s e xml. (parts [] b s (space_low b e) xml).1) (λ b s e xml. (parts s b [] (space_low b e) xml).0)

  end_good : (s z : State) (d : ℕ) (p : Place) → AllPass (Fails s (end_kind d p)) (tests (end_kind d p)) → Leaves s (end_kind d p) z → IsGood s → IsGood z
  end_good s z zero JobId pass e g =
      let short : length (trimmed s.text) ≤ 256 = elim (cases_lt 256 (length (trimmed s.text))) [ inl long ↦ absurd (pass.0 long) | inr few ↦ few ] in
      subst IsGood (sym e) (record {
        text = g.text;
        back = record { job = none_or_name (trimmed s.text) short (trimmed_again s.text) (trimmed_xml s.text g.text); seconds = g.back.seconds; first = g.back.first; gap = g.back.gap; above = g.back.above; below = g.back.below };
      })
  end_good s z zero MaxTime pass (x, says, e) g = subst IsGood (sym e) (record { text = g.text; back = record { job = g.back.job; seconds = says.is; first = g.back.first; gap = g.back.gap; above = g.back.above; below = g.back.below } })
  end_good s z zero p pass e g = subst IsGood (sym e) (record { text = g.text; back = g.back })
  end_good s z (suc d) p pass e g = subst IsGood (sym e) (record { text = g.text; back = g.back })

  all_good : (es : List Event) (s z : State) → AreXml es → AreTaken osol s (spread es) z → IsGood s → IsGood z
  all_good [] s z xml e g = subst IsGood (sym e) g
  all_good (Open name as' ∷ more) s z xml (m, takes, rest) g = all_good more m z xml rest (begin_good s m as' (led_from s.depth (leads_by content s.place name)) takes.1 g)
  all_good (Chars text ∷ more) s z xml taken g =
      let parted = taken_parts osol s z (map Char text) (spread more) taken in
      all_good more parted.0 z xml.1 parted.2 (chars_good s parted.0 text xml.0 parted.1 g)
  all_good (Close name ∷ more) s z xml (m, takes, rest) g = all_good more m z xml rest (end_good s m s.depth s.place takes.0 takes.1 g)

  pub text_back : (bytes : List ℕ) (o : Options) → IsOptionsText bytes o → ComesBack o
  text_back bytes o (inl (blank, is)) = subst ComesBack (sym is) none_back
  text_back bytes o (inr (other, document)) =
      let root = document.root in
      let xml = nodes_xml root.children (Close root.name ∷ []) (of_characters bytes root document.document.document).children tt in
      let said = document.is in
      subst ComesBack (sym said.2) (all_good (events root) start said.0 xml said.1 (record { text = clean_nothing.text; back = none_back })).back
