-- What a state came to behind a document, or why there is none.
use Rattle.std.proofs.Common.{◌≡◌, ◌⊎◌, inl, inr, ℕ, List, subst}
use Rattle.tree_grammar.specs.Elements.{IsTextWithin}
use Rattle.doc_tree.specs.Marks.{Mark}
use Rattle.doc_tree.specs.Reading.{Visits, ReadingFails}
use Rattle.doc_tree.specs.declared.fault.TreeFault.{TreeFault}
use Rattle.doc_tree.specs.declared.fault.TreeFault.TheVariants.{Memory}
use Rattle.document_tags.specs.Texts.{document_limit}
use Rattle.document_tags.specs.Documents.{OfDocument, TreeFails}
use Rattle.mark_folds.specs.Folds.{FoldsTo, IsFolded}

pub document_folded : {S : Type 0} (after : S → Mark → S) (first s : S) (limit : ℕ) (bytes : List ℕ) → limit ≡ document_limit → Visits (λ ms. FoldsTo after first s ms) limit bytes → OfDocument (IsFolded after first) bytes s
document_folded after first s limit bytes same visits = record {
  root = visits.element;
  document = record { document = visits.document; short = subst (λ (n : ℕ). IsTextWithin n bytes) same visits.within; shallow = visits.shallow };
  is = visits.told;
}

pub none_folded : (limit : ℕ) (bytes : List ℕ) (f : TreeFault) → limit ≡ document_limit → ReadingFails limit bytes f → (f ≡ Memory) ⊎ TreeFails bytes f
none_folded limit bytes f same fails = by (subst (λ (n : ℕ). ReadingFails n bytes f) same fails)
  where
    by : ReadingFails document_limit bytes f → (f ≡ Memory) ⊎ TreeFails bytes f
    by (inl e) = inl e
    by (inr h) = inr (record { refusal = h.0; none = λ root doc. h.1 root doc.document doc.short doc.shallow })
