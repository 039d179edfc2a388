-- What the code makes of a start tag is the state that it leaves.
use Rattle.osrl_grammar.proofs.Names.{◌≡◌, ◌∙◌, ◌+◌, ◌||◌, ℕ, Bool, true, List, [], refl, ap, sym, Option, Result, OnOk, on_ok_weaker, Attribute, Held, Part, State, has, first, with_part, begun}
use Rattle.osrl_grammar.specs.declared.elements.Place.{Place}
use Rattle.osrl_grammar.specs.declared.elements.Place.TheVariants as places
use Rattle.osrl_grammar.specs.Saying.{type_of}
use Rattle.osrl_grammar.specs.Leaving.{into}

-- most places change nothing else
goes_into : (s : State) (as' : List Attribute) (p : Place) → (p ≡ places.GeneralStatus → ⊥) → (p ≡ places.SolutionStatus → ⊥) → (p ≡ places.Solution → ⊥) → ((q : Part) → p ≡ places.Result q → ⊥) → ((q : Part) → p ≡ places.Item q → ⊥) → into s p ≡ begun s as' p
goes_into s as' places.GeneralStatus general status solution result item = absurd (general refl)
goes_into s as' places.SolutionStatus general status solution result item = absurd (status refl)
goes_into s as' places.Solution general status solution result item = absurd (solution refl)
goes_into s as' (places.Result q) general status solution result item = absurd (result q refl)
goes_into s as' (places.Item q) general status solution result item = absurd (item q refl)
goes_into s as' p general status solution result item = refl

module _ (s now : State) (same : s ≡ now) (as' : List Attribute) (place : Place) (t : List ℕ) (none : t ≡ []) where
  abbrev Begins : State → Type 0
  Begins z = z ≡ begun now as' place

  begins_as : (z : State) (p : Place) → place ≡ p → z ≡ begun s as' p → Begins z
  begins_as z p at h = h ∙ ap (λ (q : Place). begun s as' q) (sym at) ∙ ap (λ (n : State). begun n as' place) same

  pub general_begun : {X E : Type 0} (r : Result X E) (g : Option (List ℕ)) (type : List ℕ) → place ≡ places.GeneralStatus → type ≡ type_of as' → OnOk r (g ≡ first s.general type) → OnOk r (Begins (record s { place = place; text = t; general = g }))
  general_begun r g type at is kept = on_ok_weaker r (λ new. begins_as _ places.GeneralStatus at (rw (new, is, none, at) refl)) kept

  pub claiming_begun : {X E : Type 0} (r : Result X E) (g : Option (List ℕ)) (type : List ℕ) → place ≡ places.SolutionStatus → type ≡ type_of as' → OnOk r (g ≡ first s.claiming type) → OnOk r (Begins (record s { place = place; text = t; claiming = g }))
  claiming_begun r g type at is kept = on_ok_weaker r (λ new. begins_as _ places.SolutionStatus at (rw (new, is, none, at) refl)) kept

  pub solution_begun : (twice : Bool) → place ≡ places.Solution → twice ≡ s.has_solution || s.twice → Begins (record s { place = place; text = t; twice = twice; has_solution = true })
  solution_begun twice at is = begins_as _ places.Solution at (rw (is, none, at) refl)

  pub result_begun : (p : Part) (had twice : Bool) (h : Held) → place ≡ places.Result p → had ≡ has s.held p → twice ≡ had || s.twice → h ≡ with_part p s.held → Begins (record s { place = place; text = t; twice = twice; held = h })
  result_begun p had twice h at had_it is part = begins_as _ (places.Result p) at (rw (part, is, had_it, none, at) refl)

  pub item_begun : (p : Part) → place ≡ places.Item p → Begins (record s { place = place; text = t; count = s.count + 1 })
  item_begun p at = begins_as _ (places.Item p) at (rw (none, at) refl)

  pub other_begun : (place ≡ places.GeneralStatus → ⊥) → (place ≡ places.SolutionStatus → ⊥) → (place ≡ places.Solution → ⊥) → ((p : Part) → place ≡ places.Result p → ⊥) → ((p : Part) → place ≡ places.Item p → ⊥) → Begins (record s { place = place; text = t })
  other_begun general status solution result item = begins_as _ place refl (rw none (goes_into s as' place general status solution result item))
