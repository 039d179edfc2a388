-- A step and multipliers are read together.
use Rattle.osrl_grammar.proofs.Names.{inl, inr, ℕ, Option, None, Some, Result, Ok, Err, List, [], ◌∷◌, ap, AllZip, Mult, Frac, FieldsRead, Unread, Wide, Misread, NoShape, NoNumber, TooGreat, Exact, Field, IsBad, IsTooGreat, field, with_fields, ReadsTexts, IsFraction, IsMult}
use Rattle.tag_tests.specs.Fields.{OneFirst}
use Rattle.tag_tests.specs.declared.numbers.Unread.TheVariants.{NotNumber}
use Rattle.osrl_grammar.specs.Stepping.{gridded}
use Rattle.osrl_grammar.specs.Values.{SaysSteps}

-- of the first alone, so of the first of more
of_more : (P : Field → Type 0) (f : Field) (fs : List Field) → OneFirst P (f ∷ []) → OneFirst P (f ∷ fs)
of_more P f fs (inl h) = inl h
of_more P f fs (inr h) = absurd h.1

module _ (s : List ℕ) (ps : List (List ℕ)) where
  abbrev first : Field
  first = field Exact s

  abbrev Step : Result Frac Unread → Type 0
  Step step = FieldsRead IsBad IsTooGreat (first ∷ []) step (IsFraction s)

  abbrev Read : Option (List Field) → Result (Frac × List Mult) Misread → Type 0
  Read o r = ReadsTexts (with_fields (Some (first ∷ [])) o) r (SaysSteps (s ∷ ps))

  pub grid_read : (o : Option (List Field)) (mults : Result (List Mult) Misread) (step : Result Frac Unread) → Step step → ReadsTexts o mults (AllZip IsMult ps) → Read o (gridded mults step)
  grid_read None mults step h k = ap (λ (m : Result (List Mult) Misread). gridded m step) k
  grid_read (Some fs) (Ok ms) (Ok g) h k = ((h.0.0, k.0), (h.1.0, k.1), (h.2, k.2))
  grid_read (Some fs) (Ok ms) (Err NotNumber) h k = of_more IsBad first fs h
  grid_read (Some fs) (Ok ms) (Err Wide) h k = ((h.0.0, k.0), of_more IsTooGreat first fs h.1)
  grid_read (Some fs) (Err NoShape) step h k = absurd k
  grid_read (Some fs) (Err NoNumber) (Ok g) h k = inr (h.0.0, k)
  grid_read (Some fs) (Err NoNumber) (Err NotNumber) h k = of_more IsBad first fs h
  grid_read (Some fs) (Err NoNumber) (Err Wide) h k = inr (h.0.0, k)
  grid_read (Some fs) (Err TooGreat) (Ok g) h k = ((h.0.0, k.0), inr (h.1.0, k.1))
  grid_read (Some fs) (Err TooGreat) (Err NotNumber) h k = of_more IsBad first fs h
  grid_read (Some fs) (Err TooGreat) (Err Wide) h k = ((h.0.0, k.0), of_more IsTooGreat first fs h.1)
