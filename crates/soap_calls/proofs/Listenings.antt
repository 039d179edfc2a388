-- One who hears of an envelope in pieces, and what it answers in the end.
use Rattle.std.proofs.Common.{◌≡◌, ◌∙◌, ℕ, List, ◌++◌, map, Result, Ok, Err, ap, sym, subst}
use Rattle.std.specs.Prelude.{OnOk}
use Rattle.tree_grammar.specs.Elements.{IsTextWithin}
use Rattle.doc_tree.specs.Feeding as feedings
use Rattle.doc_tree.specs.Marks.{Char}
use Rattle.doc_tree.specs.Reading.{Visits, ReadingFails}
use Rattle.doc_tree.specs.declared.fault.TreeFault.{TreeFault}
use Rattle.document_tags.specs.Documents.{OfDocument}
use Rattle.document_tags.specs.Texts.{document_limit}
use Rattle.soap_calls.specs.declared.parse_state.ParseState.{ParseState}
use Rattle.soap_calls.specs.Listening.{Listening}
use Rattle.soap_calls.specs.Leaving.{Leaves, WasHeard, FindsIn}
use Rattle.soap_calls.specs.Marked.{start, said}
use Rattle.soap_calls.proofs.Walks.{chars_left}

-- characters at once are characters one by one
pub chars_leave : {X E : Type 0} (r : Result X E) (s z : ParseState) (text : List ℕ) → OnOk r (z ≡ said s text) → OnOk r (Leaves s z (map Char text))
chars_leave (Ok x) s z text is = is ∙ sym (chars_left text s)
chars_leave (Err e) s z text is = tt

-- what is fed next
pub fed_more : (old given new : Listening) (more : List ℕ) → old ≡ given → new.reading.limit ≡ old.reading.limit
    → ((bytes : List ℕ) → feedings.WasHeard (λ ms. Leaves start old.parse_state ms) old.reading bytes → feedings.WasHeard (λ ms. Leaves start new.parse_state ms) new.reading (bytes ++ more))
    → (bytes : List ℕ) → WasHeard given bytes → WasHeard new (bytes ++ more)
fed_more old given new more is limit fed = subst (λ (l : Listening). (bytes : List ℕ) → WasHeard l bytes → WasHeard new (bytes ++ more)) is (λ bytes h. record { limit = limit ∙ h.limit; heard = fed bytes h.heard })

-- all was heard
pub finds : (old given : Listening) (z : ParseState) → old ≡ given
    → ((bytes : List ℕ) → feedings.WasHeard (λ ms. Leaves start old.parse_state ms) old.reading bytes → Visits (λ ms. Leaves start z ms) old.reading.limit bytes)
    → (bytes : List ℕ) → WasHeard given bytes → OfDocument FindsIn bytes z.found
finds old given z is visits = subst (λ (l : Listening). (bytes : List ℕ) → WasHeard l bytes → OfDocument FindsIn bytes z.found) is (λ bytes h.
    let v : Visits (λ ms. Leaves start z ms) old.reading.limit bytes = visits bytes h.heard in
    record {
      root = v.element;
      document = record { document = v.document; short = subst (λ (n : ℕ). IsTextWithin n bytes) h.limit v.within; shallow = v.shallow };
      is = ap (λ (s : ParseState). s.found) v.told;
    })

-- the bytes are no document
pub fails : (old given : Listening) (fault : TreeFault) → old ≡ given
    → ((bytes : List ℕ) → feedings.WasHeard (λ ms. Leaves start old.parse_state ms) old.reading bytes → ReadingFails old.reading.limit bytes fault)
    → (bytes : List ℕ) → WasHeard given bytes → ReadingFails document_limit bytes fault
fails old given fault is refuses = subst (λ (l : Listening). (bytes : List ℕ) → WasHeard l bytes → ReadingFails document_limit bytes fault) is (λ bytes h. subst (λ (n : ℕ). ReadingFails n bytes fault) h.limit (refuses bytes h.heard))
