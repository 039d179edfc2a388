-- What is kept of marks, and what a decoder answers of the bytes that it was fed.
use Rattle.osil_grammar.proofs.Words.{◌≡◌, ℕ, ◌⊎◌, inl, inr, List, [], ◌∷◌, refl, sym, subst, Result, Ok, Err, MatchResult, Mark, AreTaken, TakesMark, Parts, Stop, OsilFault, State, start, osil, IsInstanceText, DecodeFails, StepsAt, told_of, instance_of, MakesSoFar, Refuse, tree_fault}
use Rattle.doc_tree.specs.declared.fault.TreeFault.{TreeFault}
use Rattle.doc_tree.specs.declared.fault.TreeFault.TheVariants as tree
use Rattle.document_tags.specs.Documents.{OfDocument, TreeFails}
use Rattle.tag_tests.specs.declared.marks.Stop.TheVariants as stops
use Rattle.tag_tests.specs.Readers as readers
use Rattle.tag_tests.specs.Readers.{Reads}
use Rattle.tag_tests.proofs.Forms.{refused_here}
use Rattle.osil_grammar.specs.declared.stop.Refused as kept
use Rattle.osil_grammar.specs.declared.fault.OsilFault.TheVariants.{Refused}
use Rattle.osil_grammar.proofs.HeldNumbers.{fit_start, fit_kept}

module _ {X : Type 0} (s : State) (m : Mark) (z w : State) where
  abbrev Told : Result X Stop → Type 0
  Told r = readers.Steps (AreTaken osil) Refuse s (m ∷ []) w r

  -- a step that was kept leaves a state that is fit
  pub kept_fit : (step : Result X Stop) → MakesSoFar s → StepsAt s m z step → MatchResult step (λ _. w ≡ z) (λ _. w ≡ start) → MakesSoFar w
  kept_fit (Ok x) fit steps is = subst MakesSoFar (sym is) (fit_kept s (m ∷ []) z (z, steps, refl) fit)
  kept_fit (Err stop) fit steps is = subst MakesSoFar (sym is) fit_start

  -- and is told
  step_told : (step : Result X Stop) → StepsAt s m z step → MatchResult step (λ _. w ≡ z) (λ _. w ≡ start) → Told step
  step_told (Ok x) steps is = (w, subst (λ (y : State). TakesMark osil s m y) (sym is) steps, refl)
  step_told (Err (stops.Refused r)) steps is = refused_here osil s m [] (told_of r.refusal r.at) steps
  step_told (Err stops.Memory) steps is = tt

  pub kept_told : (step result : Result X Stop) → result ≡ step → StepsAt s m z step → MatchResult step (λ _. w ≡ z) (λ _. w ≡ start) → Told result
  kept_told step result is steps held = subst Told (sym is) (step_told step steps held)

-- a document that stands for an instance, and one that is refused
pub is_instance : (bytes : List ℕ) (z : State) (p : Parts) → p ≡ instance_of z → OfDocument (Reads {R = kept.Refused} (AreTaken osil) Refuse start) bytes (Ok z) → IsInstanceText bytes p
is_instance bytes z p is h = record { root = h.root; document = h.document; means = (z, h.is, is) }

pub is_refused : (bytes : List ℕ) (r : kept.Refused) → OfDocument (Reads (AreTaken osil) Refuse start) bytes (Err r) → DecodeFails bytes (Refused r.refusal r.at)
is_refused bytes r h = record { root = h.root; document = h.document; refused = h.is }

-- bytes that are none
tree_fails : (bytes : List ℕ) (f : TreeFault) → (f ≡ tree.Memory) ⊎ TreeFails bytes f → DecodeFails bytes (tree_fault f)
tree_fails bytes tree.Memory h = tt
tree_fails bytes f (inl same) = absurd (cc)
tree_fails bytes f (inr h) = (h.refusal, h.none)

pub is_no_document : (bytes : List ℕ) (f : TreeFault) (told : OsilFault) → told ≡ tree_fault f → (f ≡ tree.Memory) ⊎ TreeFails bytes f → DecodeFails bytes told
is_no_document bytes f told is h = subst (DecodeFails bytes) (sym is) (tree_fails bytes f h)
