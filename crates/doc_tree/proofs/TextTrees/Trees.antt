-- A reader that tells a tree.
use Rattle.doc_tree.proofs.Words.{Building, Doc, Document, Element, Err, Event, Feeding, Gathers, Heard, IfOk, IsApart, IsOneElement, IsTaken, List, MatchOption, None, Ok, Option, ReadingFails, ReadsDocument, ReadsOnly, Refused, Result, Some, TreeFault, Visits, WasFed, WasHeard, [], ap, behind, events, gather, refl, said, spread, subst, sym, whole, ℕ, ◌∙◌, ◌≡◌}
use Rattle.doc_tree.proofs.OneTree.{one_tree}
use Rattle.doc_tree.proofs.TextTrees.MarkEvents.{spread_gathers}
use Rattle.doc_tree.proofs.TextTrees.Wholes.{document_marks, document_gathers}
use Rattle.doc_tree.proofs.TextTrees.Verdicts.{gather_apart, fed_refused, refused_ends}
use Rattle.doc_tree.proofs.TextTrees.Hearing.{answers_err, on_option}

abbrev pub none : Building
none = record { events = []; attributes = []; text = [] }

-- what was told from nothing on is what the tree has
pub of_heard : (f : Feeding) (b : Building) (bytes : List ℕ) → WasHeard (Gathers none b) f bytes → WasFed (whole f b) bytes
of_heard f b bytes h = on_option {A = Heard (Gathers none b) f bytes} {B = IsTaken (whole f b) bytes} f.refusal (Refused f.limit bytes) (λ k. subst (λ z. IsTaken (behind z f) bytes) (sym k.has) k.taken) h

pub to_heard : (f : Feeding) (b : Building) (bytes : List ℕ) → WasFed (whole f b) bytes → WasHeard (Gathers none b) f bytes
to_heard f b bytes h = on_option {A = IsTaken (whole f b) bytes} {B = Heard (Gathers none b) f bytes} f.refusal (Refused f.limit bytes) (λ t. record { told = spread (said b); has = refl; taken = t }) h

-- an element's events stand apart where bytes hold it
gathered : (bytes : List ℕ) (e : Element) → Doc bytes e → gather (spread (events e)) ≡ events e
gathered bytes e s =
    let d : Document = s.document in
    let same : gather (document_marks d) ≡ events e = document_gathers d ∙ ap events (sym s.says) in
    spread_gathers (events e) (subst IsApart same (gather_apart (document_marks d)))

module _ (limit : ℕ) (bytes : List ℕ) (told : List Event) (apart : IsApart told) (v : Visits (λ marks. spread told ≡ marks) limit bytes) where
  reads : ReadsDocument limit bytes told
  reads = record {
    element = v.element;
    same = sym (spread_gathers told apart) ∙ (ap gather v.told ∙ gathered bytes v.element v.document);
    document = v.document;
    within = v.within;
    shallow = v.shallow;
  }

  module _ (o : Option (List Event)) (m : MatchOption o (IsOneElement told → ⊥) (λ z. z ≡ told)) where
    same_tree : (tree : List Event) → o ≡ Some tree → told ≡ tree
    same_tree tree e = sym (subst (λ x. MatchOption x (IsOneElement told → ⊥) (λ z. z ≡ told)) e m)

    pub tree_read : (tree : List Event) → o ≡ Some tree → ReadsDocument limit bytes tree
    tree_read tree e = subst (ReadsDocument limit bytes) (same_tree tree e) reads

    pub tree_only : (tree : List Event) → o ≡ Some tree → ReadsOnly bytes tree
    tree_only tree e = subst (ReadsOnly bytes) (same_tree tree e) (λ other s. reads.same ∙ ap events (one_tree bytes reads.element other reads.document s))

    pub no_tree : o ≡ None → ⊥
    no_tree e = subst (λ x. MatchOption x (IsOneElement told → ⊥) (λ z. z ≡ told)) e m (record { element = reads.element; same = reads.same })

-- What was fed ends so where the last piece was refused.
pub feed_ends : {A : Type 0} (f : Feeding) (limit : ℕ) (bytes : List ℕ) (r : Result A TreeFault) (ok : A) (fault : TreeFault) → f.limit ≡ limit → WasFed f bytes → MatchOption f.refusal (r ≡ Ok ok) (λ x. r ≡ Err x) → r ≡ Err fault → ReadingFails limit bytes fault
feed_ends f limit bytes r ok fault l h m e = subst (λ z. ReadingFails z bytes fault) l (refused_ends f.limit bytes fault (fed_refused _ f bytes fault (answers_err f.refusal r ok fault m e) h))

-- what is said of all bytes that a reader was fed is said of these
pub at_ok : {A : Type 0} (r : Result A TreeFault) (f : Feeding) (bytes : List ℕ) (P : List ℕ → A → Type 0) → IfOk r (λ a. (x : List ℕ) → WasFed f x → P x a) → WasFed f bytes → IfOk r (P bytes)
at_ok (Ok a) f bytes P h w = h bytes w
at_ok (Err e) f bytes P h w = h

-- at the end the tree is that of the bytes
module _ (f : Feeding) (b v : Building) (visits : (first : Building) (bytes : List ℕ) → WasHeard (Gathers first b) f bytes → Visits (Gathers first v) f.limit bytes) (apart : IsApart (said v)) (o : Option (List Event)) (m : MatchOption o (IsOneElement (said v) → ⊥) (λ z. z ≡ said v)) where
  pub finish_reads : (tree : List Event) → o ≡ Some tree → (bytes : List ℕ) → WasFed (whole f b) bytes → ReadsDocument f.limit bytes tree
  finish_reads tree e bytes h = tree_read f.limit bytes (said v) apart (visits none bytes (to_heard f b bytes h)) o m tree e

  pub finish_only : (tree : List Event) → o ≡ Some tree → (bytes : List ℕ) → WasFed (whole f b) bytes → ReadsOnly bytes tree
  finish_only tree e bytes h = tree_only f.limit bytes (said v) apart (visits none bytes (to_heard f b bytes h)) o m tree e

  pub finish_none : (fault : TreeFault) → o ≡ None → (bytes : List ℕ) → WasFed (whole f b) bytes → ReadingFails f.limit bytes fault
  finish_none fault e bytes h = absurd (no_tree f.limit bytes (said v) apart (visits none bytes (to_heard f b bytes h)) o m e)
