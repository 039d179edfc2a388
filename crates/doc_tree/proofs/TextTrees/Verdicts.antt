-- What all the bytes say, or why they are no document.
use Rattle.doc_tree.proofs.Words.{Char, CharacterRest, Chars, Completes, Continues, Document, Event, Feeding, Finish, Heard, IsApart, IsTaken, IsText, IsXmlText, List, Mark, MatchOption, None, NoneWithin, ReadingFails, ReadsDocument, Refused, Some, Spells, Start, TreeTerms, TreeFault, Visits, WasHeard, Whole, [], any_encoding, ap, append-nil, append_assoc, arith, bounds, closed, codes, drop, false, gather, get_or, inl, inr, join, length, misc_over, no_attribute, no_declaration, normal_lines, refl, spread, subst, sym, take, ℕ, ◌++◌, ◌+◌, ◌<◌, ◌↔◌, ◌∙◌, ◌∷◌, ◌≡◌, clean_fixed}
use Rattle.doc_tree.specs.declared.characters.Awaited.TheVariants as awaits
use Rattle.doc_tree.specs.declared.fault.TreeFault.TheVariants as faults
use Rattle.doc_tree.proofs.TextTrees.LineFeeds.{allowed, continues_end, over_whole}
use Rattle.doc_tree.proofs.Viability.Refusals.{as_deep, as_deep_allowed, text_whole, refused_on, clean_start, clean_short}
use Rattle.doc_tree.proofs.TextTrees.Results.{split_at, none_refuses, text_refuses, read_so}
use Rattle.doc_tree.proofs.Utf8.{spells_start, spells_whole, spells_cut}
use Rattle.doc_tree.proofs.TextTrees.Wholes.{whole_of, document_marks}

-- whether they were all taken
pub fed_taken : (had : List Mark → Type 0) (f : Feeding) (bytes : List ℕ) → f.refusal ≡ None → WasHeard had f bytes → Heard had f bytes
fed_taken had f bytes e h = subst (λ z. MatchOption z (Heard had f bytes) (Refused f.limit bytes)) e h

pub taken_fed : (had : List Mark → Type 0) (f : Feeding) (bytes : List ℕ) → f.refusal ≡ None → Heard had f bytes → WasHeard had f bytes
taken_fed had f bytes e h = subst (λ z. MatchOption z (Heard had f bytes) (Refused f.limit bytes)) (sym e) h

pub fed_refused : (A : Type 0) (f : Feeding) (bytes : List ℕ) (fault : TreeFault) → f.refusal ≡ Some fault → MatchOption f.refusal A (Refused f.limit bytes) → Refused f.limit bytes fault
fed_refused A f bytes fault e h = subst (λ z. MatchOption z A (Refused f.limit bytes)) e h

pub refused_fed : (had : List Mark → Type 0) (f : Feeding) (bytes : List ℕ) (fault : TreeFault) → f.refusal ≡ Some fault → Refused f.limit bytes fault → WasHeard had f bytes
refused_fed had f bytes fault e h = subst (λ z. MatchOption z (Heard had f bytes) (Refused f.limit bytes)) (sym e) h

-- a refusal that came before the end stays
pub refused_ends : (limit : ℕ) (bytes : List ℕ) (fault : TreeFault) → Refused limit bytes fault → ReadingFails limit bytes fault
refused_ends limit bytes fault (inl e) = inl e
refused_ends limit bytes fault (inr r) = inr (inl r.0, subst (λ z. NoneWithin limit z) (append-nil bytes) (r.1 []))

module _ (f : Feeding) (bytes : List ℕ) (t : IsTaken f bytes) where
  -- a character is cut
  pub cut_character : (f.awaited ≡ awaits.First → ⊥) → ReadingFails f.limit bytes (faults.Malformed f.count)
  cut_character n =
      let none : IsXmlText bytes → ⊥ = spells_cut f.awaited bytes n t.spells in
      inr (inr (record { clean = t.clean; none = λ i. none i.characters; says = ap faults.Malformed t.counted }), text_refuses f.limit bytes none)

  -- the document is cut
  pub cut_document : ((u : TreeTerms) (says : List Mark) → Completes f.state u [] says → ⊥) → ReadingFails f.limit bytes (faults.Malformed f.count)
  cut_document n =
      let none : IsText bytes → ⊥ = λ i. n (as_deep i.document) _ ((continues_end f.state f.returned bytes t.continues (as_deep i.document) (as_deep_allowed i.document) _).0 (text_whole bytes i)) in
      inr (inr (record { clean = t.clean; none = none; says = ap faults.Malformed t.counted }), none_refuses f.limit bytes (λ says h. n bounds says ((continues_end f.state f.returned bytes t.continues bounds allowed says).0 h)))

  -- it is over, and this was told
  module _ (whole : f.awaited ≡ awaits.First) (told : List Event) (says : f.state.marks ≡ spread told) (over : (u : TreeTerms) (marks : List Mark) → Completes f.state u [] marks ↔ (marks ≡ f.state.marks)) (apart : IsApart told) where
    all_read : ReadsDocument f.limit bytes told
    all_read = read_so f.limit bytes told (spells_whole f.awaited bytes whole t.spells) (clean_short f.limit bytes t.clean) (subst (λ z. Whole bounds (normal_lines bytes) z) says (over_whole f.state f.returned bytes t.continues over)) apart

-- bytes that come behind a refusal, and those behind the byte that is refused
pub fed_on : (had more_had : List Mark → Type 0) (f : Feeding) (bytes more : List ℕ) (fault : TreeFault) → f.refusal ≡ Some fault → WasHeard had f bytes → WasHeard more_had f (bytes ++ more)
fed_on had more_had f bytes more fault e h = refused_fed more_had f (bytes ++ more) fault e (refused_on f.limit bytes more fault (fed_refused _ f bytes fault e h))

pub fed_up_to : (limit : ℕ) (bytes piece : List ℕ) (at : ℕ) (fault : TreeFault) → at < length piece → Refused limit ((bytes ++ take at piece) ++ (get_or piece at 0 ∷ [])) fault → Refused limit (bytes ++ piece) fault
fed_up_to limit bytes piece at fault l r =
    let b : ℕ = get_or piece at 0 in
    let more : List ℕ = drop (at + 1) piece in
    let e : ((bytes ++ take at piece) ++ (b ∷ [])) ++ more ≡ bytes ++ piece =
    append_assoc (bytes ++ take at piece) (b ∷ []) more ∙ (append_assoc bytes (take at piece) (b ∷ more) ∙ ap (λ z. bytes ++ z) (sym (split_at piece at 0 l))) in
    subst (λ z. Refused limit z fault) e (refused_on limit ((bytes ++ take at piece) ++ (b ∷ [])) more fault r)

-- nothing was fed: a small document completes it
root : Document
root = record {
  mark = false;
  declaration = no_declaration;
  before = misc_over;
  tag = record { name = 97 ∷ []; named = (inl (inr (omega arith, omega arith)), tt); attributes = no_attribute; fresh = tt; space = []; spaced = tt };
  body = closed;
  clear = tt;
  after = misc_over;
}

root_whole : Whole any_encoding (normal_lines (codes "<a/>")) (document_marks root)
unfolding root
root_whole = whole_of any_encoding root (omega arith) (omega arith) tt

root_text : IsXmlText (codes "<a/>")
root_text = (clean_fixed (codes "<a/>") refl).text

pub start_taken : (f : Feeding) → Continues f.state f.returned [] → f.awaited ≡ awaits.First → f.count ≡ 0 → IsTaken f []
start_taken f c e n = record {
  continues = c;
  spells = subst (λ z. Spells z []) (sym e) spells_start;
  meets = record { rest = codes "<a/>"; character = subst (λ z. CharacterRest z (codes "<a/>")) (sym e) root_text; says = document_marks root; document = (c.same any_encoding (omega arith) (codes "<a/>") (document_marks root)).0 root_whole };
  counted = n;
  clean = clean_start f.limit;
}

-- What was told is what an element says that the bytes hold.
join_apart : (c : ℕ) (es : List Event) → IsApart es → IsApart (join c es)
join_apart c [] a = ((λ e. cc), tt, tt)
join_apart c (Chars text ∷ more) a = ((λ e. cc), a.1, a.2)
join_apart c _ a = ((λ e. cc), tt, a)

pub gather_apart : (marks : List Mark) → IsApart (gather marks)
gather_apart [] = tt
gather_apart (Start name attributes ∷ more) = gather_apart more
gather_apart (Char c ∷ more) = join_apart c (gather more) (gather_apart more)
gather_apart (Finish name ∷ more) = gather_apart more

spread_join : (c : ℕ) (es : List Event) → spread (join c es) ≡ Char c ∷ spread es
spread_join c (Chars text ∷ more) = refl
spread_join c _ = refl

gather_spreads : (marks : List Mark) → spread (gather marks) ≡ marks
gather_spreads [] = refl
gather_spreads (Start name attributes ∷ more) = ap (λ z. Start name attributes ∷ z) (gather_spreads more)
gather_spreads (Char c ∷ more) = spread_join c (gather more) ∙ ap (λ z. Char c ∷ z) (gather_spreads more)
gather_spreads (Finish name ∷ more) = ap (λ z. Finish name ∷ z) (gather_spreads more)

pub visited : (had : List Mark → Type 0) (f : Feeding) (bytes : List ℕ) → IsTaken f bytes → f.awaited ≡ awaits.First → ((u : TreeTerms) (marks : List Mark) → Completes f.state u [] marks ↔ (marks ≡ f.state.marks)) → had f.state.marks → Visits had f.limit bytes
visited had f bytes t whole over has =
    let says : f.state.marks ≡ spread (gather f.state.marks) = sym (gather_spreads f.state.marks) in
    let r : ReadsDocument f.limit bytes (gather f.state.marks) = all_read f bytes t whole (gather f.state.marks) says over (gather_apart f.state.marks) in
    record { element = r.element; told = subst had (says ∙ ap spread r.same) has; document = r.document; within = r.within; shallow = r.shallow }
