-- What the refusal of an instance tells of its document: the name of an element or of an attribute.
use Rattle.std.proofs.Common.{◌≡◌, ◌∙◌, ℕ, inl, inr, Bool, true, false, cond, bytes_eq, List, [], ◌∷◌, ◌++◌, refl, ap, sym, subst}
use Rattle.std.specs.Prelude.{codes}
use Rattle.std.specs.List.{list_all}
use Rattle.doc_tree.specs.Marks.{Mark, Start, Char, Finish}
use Rattle.document_tags.specs.Faults.{told_name}
use Rattle.tag_tests.specs.Tests.{FirstFails}
use Rattle.tag_tests.specs.Forms.{TakesMark, AreTaken, Refuses}
use Rattle.tag_tests.specs.Places.{Child, among}
use Rattle.tree_grammar.proofs.XmlTexts.{and_split}
use Rattle.osil_grammar.specs.declared.elements.Part.TheVariants.{Coefficients}
use Rattle.osil_grammar.specs.declared.elements.Listing.{Listing}
use Rattle.osil_grammar.specs.declared.elements.Listing.TheVariants.{Starts, RowIndices, ColumnIndices, Values}
use Rattle.osil_grammar.specs.declared.elements.Place.{Place}
use Rattle.osil_grammar.specs.declared.elements.Place.TheVariants as places
use Rattle.osil_grammar.specs.declared.elements.Led.{Led}
use Rattle.osil_grammar.specs.declared.elements.Led.TheVariants as leading
use Rattle.osil_grammar.specs.Refusals as refusals
use Rattle.osil_grammar.specs.Refusals.{Refusal}
use Rattle.osil_grammar.specs.ParseState.{State, start}
use Rattle.osil_grammar.specs.Table.{content, otherwise, leads, around, begins, ends, Test, beyond, in_further, second_data, late, late_list, no_index, has, no_sense, too_many, tests, mark_name, refusal, ToldRefusal, told}
use Rattle.osil_grammar.specs.Failing.{Fails}
use Rattle.osil_grammar.specs.Leaving.{into, with_list, Begins, Ends, Leaves}
use Rattle.osil_grammar.specs.Marked.{osil}
use Rattle.osil_grammar.specs.Reading.{IsRefusedText}
use Rattle.solve_run.proofs.InkedTexts.{IsPiece, name_piece, is_word, word_piece}
use Rattle.solve_run.proofs.DocumentNames.{IsNamed, AllNamed, marks_named}

-- ---- the name of a further part

-- in such a part its name may be told
abbrev IsNamedAt : Place → List ℕ → Type 0
IsNamedAt places.Further name = IsPiece 64 name
IsNamedAt p name = Unit {0}

abbrev KnowsName : State → Type 0
KnowsName s = IsNamedAt s.place s.further

-- elsewhere none is told
elsewhere : (z : State) (p : Place) → z.place ≡ p → ((name : List ℕ) → IsNamedAt p name) → KnowsName z
elsewhere z p is free = subst (λ (q : Place). IsNamedAt q z.further) (sym is) (free z.further)

list_place : (s : State) (l : Listing) → (with_list s l).place ≡ s.place
list_place s Starts = refl
list_place s RowIndices = refl
list_place s ColumnIndices = refl
list_place s Values = refl

at_place : (s z : State) → z ≡ s → z.place ≡ s.place
at_place s z is = ap (λ (x : State). x.place) is

begun : (s : State) (m : Mark) (p : Place) (z : State) → IsPiece 64 (told_name (mark_name m)) → Begins s m p z → KnowsName z
begun s m places.Passed z named b = elsewhere z places.Passed (at_place _ z b) (λ name. tt)
begun s m places.Data z named b = elsewhere z places.Data (at_place _ z b) (λ name. tt)
begun s m places.Further z named b = subst KnowsName (sym b) named
begun s m (places.Part part) z named b = elsewhere z (places.Part part) (at_place _ z b.2) (λ name. tt)
begun s m places.Var z named b = elsewhere z places.Var (at_place _ z b.4) (λ name. tt)
begun s m places.Obj z named b = elsewhere z places.Obj (at_place _ z b.8) (λ name. tt)
begun s m places.Coef z named b = elsewhere z places.Coef (at_place _ z b.2) (λ name. tt)
begun s m places.Con z named b = elsewhere z places.Con (at_place _ z b.4) (λ name. tt)
begun s m (places.Listed l) z named b = elsewhere z (places.Listed l) (at_place _ z b ∙ list_place (into s (places.Listed l)) l) (λ name. tt)
begun s m (places.El Values) z named b = elsewhere z (places.El Values) (at_place _ z b.4) (λ name. tt)
begun s m (places.El Starts) z named b = elsewhere z (places.El Starts) (at_place _ z b.4) (λ name. tt)
begun s m (places.El RowIndices) z named b = elsewhere z (places.El RowIndices) (at_place _ z b.4) (λ name. tt)
begun s m (places.El ColumnIndices) z named b = elsewhere z (places.El ColumnIndices) (at_place _ z b.4) (λ name. tt)
begun s m p z named b = elsewhere z p (at_place _ z b) (λ name. tt)

ended : (s : State) (p : Place) (z : State) → s.place ≡ p → Ends s p z → KnowsName z
ended s places.Passed z here (inl on) = elsewhere z places.Passed (at_place _ z on.1 ∙ here) (λ name. tt)
ended s places.Passed z here (inr over) = elsewhere z places.Osil (at_place _ z over.1) (λ name. tt)
ended s (places.Part Coefficients) z here e = elsewhere z places.Data (at_place _ z e.2) (λ name. tt)
ended s places.Coef z here e = elsewhere z places.Obj (at_place _ z e.4) (λ name. tt)
ended s (places.El Starts) z here e = elsewhere z (places.Listed Starts) (at_place _ z e.2) (λ name. tt)
ended s (places.El Values) z here e = elsewhere z (places.Listed Values) (at_place _ z e.4) (λ name. tt)
ended s (places.El RowIndices) z here e = elsewhere z (places.Listed RowIndices) (at_place _ z e.2) (λ name. tt)
ended s (places.El ColumnIndices) z here e = elsewhere z (places.Listed ColumnIndices) (at_place _ z e.2) (λ name. tt)
ended s p z here e = elsewhere z (around p) (at_place _ z e) (λ name. tt)

module _ (name : List ℕ) (given : IsNamed (Start name [])) where
  started : (s : State) (m : Mark) (z : State) → mark_name m ≡ name → (l : Led) → Leaves s m (begins l) z → KnowsName z
  started s m z same (leading.To p) b = begun s m p z (subst (λ (n : List ℕ). IsPiece 64 (told_name n)) (sym same) (name_piece name given)) b
  started s m z same l b = absurd b

-- each mark that is taken keeps it so
knows_on : (s : State) (m : Mark) (z : State) → IsNamed m → KnowsName s → TakesMark osil s m z → KnowsName z
knows_on s (Start name attributes) z given known (pass, becomes) = started name given s (Start name attributes) z refl (leads s.place name) becomes
knows_on s (Char c) z given known (pass, becomes) = subst KnowsName (sym becomes) known
knows_on s (Finish name) z given known (pass, becomes) = ended s s.place z refl becomes

knows : (s : State) (ms : List Mark) (z : State) → AllNamed ms → KnowsName s → AreTaken osil s ms z → KnowsName z
knows s [] z are known same = subst KnowsName (sym same) known
knows s (m ∷ ms) z are known (mid, takes, rest) = knows mid ms z are.1 (knows_on s m mid are.0 known takes) rest

-- ---- what a test tells

-- the name that is told, if one is, may be
abbrev pub HasName : Refusal → Type 0
HasName (refusals.Beyond name) = IsPiece 64 name
HasName (refusals.Attribute name) = IsPiece 64 name
HasName r = Unit {0}

-- whether a test of a mark, which is a start tag or isn't, tells no name but the tag's or a fixed one
abbrev tells : Bool → Test → Bool
tells begin beyond = begin
tells begin in_further = false
tells begin second_data = begin
tells begin (late n) = begin
tells begin (late_list n) = begin
tells begin (has name) = is_word name
tells begin t = true

begin_tells : (p : Place) → list_all (tells true) (tests (begins (leading.To p))) ≡ true
begin_tells (places.Part part) = refl
begin_tells p = refl

end_tells : (p : Place) → list_all (tells false) (tests (ends p)) ≡ true
end_tells (places.Part Coefficients) = refl
end_tells (places.Part part) = refl
end_tells (places.El Values) = refl
end_tells (places.El l) = refl
end_tells p = refl

-- the first that fails is one of them
first_of_them : {R : Type 0} (fails : Test → Type 0) (says : Test → R) (ok : Test → Bool) (cs : List Test) (r : R) → FirstFails fails says cs r → list_all ok cs ≡ true → (c : Test) × (r ≡ says c) × (ok c ≡ true)
first_of_them {R} fails says ok [] r none all = absurd none
first_of_them {R} fails says ok (c ∷ cs) r (inl (f, is)) all = (c, is, (and_split (ok c) (list_all ok cs) all).0)
first_of_them {R} fails says ok (c ∷ cs) r (inr (passes, rest)) all = first_of_them fails says ok cs r rest (and_split (ok c) (list_all ok cs) all).1

module _ (s : State) (m : Mark) (begin : Bool) (named : begin ≡ true → IsPiece 64 (told_name (mark_name m))) where
  test_names : (c : Test) → tells begin c ≡ true → HasName (refusal s m c)
  test_names beyond is = named is
  test_names in_further is = absurd (let clash : false ≡ true = is in cc)
  test_names second_data is = named is
  test_names (late n) is = named is
  test_names (late_list n) is = named is
  test_names no_index is = word_piece (codes "idx") refl
  test_names (has name) is = word_piece name is
  test_names no_sense is = word_piece (codes "maxOrMin") refl
  test_names (too_many places.Obj) is = tt
  test_names (too_many p) is = tt
  test_names c is = tt

  names_of : (cs : List Test) (r : ToldRefusal) → list_all (tells begin) cs ≡ true → FirstFails (Fails s m) (told s m) cs r → HasName r.refusal
  names_of cs r all fails =
      let first = first_of_them (Fails s m) (told s m) (tells begin) cs r fails all in
      subst (λ (q : ToldRefusal). HasName q.refusal) (sym first.1) (test_names first.0 first.2)

-- only in a further part an element is refused by the part's name
among_them : (name : List ℕ) (cs : List (Child Place)) (other : Led) → among (λ (q : Place). leading.To q) name cs other ≡ leading.InFurther → other ≡ leading.InFurther
among_them name [] other is = is
among_them name (c ∷ cs) other is = by (bytes_eq name c.name) (among_them name cs other) is
  where
    by : (b : Bool) → (among (λ (q : Place). leading.To q) name cs other ≡ leading.InFurther → other ≡ leading.InFurther)
        → cond b (leading.To c.place) (among (λ (q : Place). leading.To q) name cs other) ≡ leading.InFurther → other ≡ leading.InFurther
    by true later clash = cc
    by false later rest = later rest

part_name_known : (p : Place) (further name : List ℕ) → leads p name ≡ leading.InFurther → IsNamedAt p further → IsPiece 64 further
part_name_known places.Further further name is known = known
part_name_known p further name is known = let clash : otherwise p ≡ leading.InFurther = among_them name (content p) (otherwise p) is in cc

mark_names : (s : State) (m : Mark) (r : ToldRefusal) → IsNamed m → KnowsName s → Refuses osil s m r → HasName r.refusal
mark_names s (Start name attributes) r given known refuses = by (leads s.place name) refl refuses
  where
    m : Mark
    m = Start name attributes

    by : (l : Led) → leads s.place name ≡ l → FirstFails (Fails s m) (told s m) (tests (begins l)) r → HasName r.refusal
    by (leading.To p) is fails = names_of s m true (λ e. name_piece name given) (tests (begins (leading.To p))) r (begin_tells p) fails
    by leading.OtherRoot is fails = names_of s m true (λ e. name_piece name given) (tests (begins leading.OtherRoot)) r refl fails
    by leading.Beyond is fails = names_of s m true (λ e. name_piece name given) (tests (begins leading.Beyond)) r refl fails
    by leading.InFurther is (inl (fails, same)) = subst (λ (q : ToldRefusal). HasName q.refusal) (sym same) (part_name_known s.place s.further name is known)
    by leading.InFurther is (inr (passes, none)) = absurd none
mark_names s (Char c) r given known refuses = absurd refuses
mark_names s (Finish name) r given known refuses = names_of s (Finish name) false (λ e. cc) (tests (ends s.place)) r (end_tells s.place) refuses

-- ---- documents

named_before : (before : List Mark) (mark : Mark) (after : List Mark) → AllNamed (before ++ mark ∷ after) → AllNamed before × IsNamed mark
named_before [] mark after are = (tt, are.0)
named_before (m ∷ before) mark after are = let rest = named_before before mark after are.1 in ((are.0, rest.0), rest.1)

-- a refused instance's name may be told
pub refused_name : (bytes : List ℕ) (r : Refusal) (n : ℕ) → IsRefusedText bytes r n → HasName r
refused_name bytes r n is =
    let a = is.refused in
    let named = named_before a.before a.mark a.after (subst AllNamed a.split (marks_named bytes is.root is.document.document)) in
    mark_names a.state a.mark (record { refusal = r; at = n }) named.1 (knows start a.before a.state named.0 tt a.taken) a.refuses
