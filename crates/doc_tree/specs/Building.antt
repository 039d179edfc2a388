use Rattle.std.specs.Prelude.{◌≡◌, ◌≢◌, List, [], ◌∷◌, ◌++◌}
use Rattle.tree_grammar.specs.Elements.{Attribute, Event, Open, Chars, Close}
use Rattle.element_tree.specs.Building.{Building, said}
use Rattle.doc_tree.specs.Marks.{Mark, spread}

-- How the builder goes on: with these marks said, and these attributes of the tag to come.
pub record TellsMarks (old : Building) (marks : List Mark) (attributes : List Attribute) (new : Building) : Type 0 where
  pub says : spread (said new) ≡ spread (said old) ++ marks
  pub waits : new.attributes ≡ attributes

-- No characters come first.
abbrev pub NoCharsFirst : List Event → Type 0
NoCharsFirst [] = Unit {0}
NoCharsFirst (Open name attributes ∷ more) = Unit {0}
NoCharsFirst (Chars text ∷ more) = ⊥
NoCharsFirst (Close name ∷ more) = Unit {0}

-- No characters come last.
abbrev pub NoCharsLast : List Event → Type 0
NoCharsLast [] = Unit {0}
NoCharsLast (e ∷ []) = NoCharsFirst (e ∷ [])
NoCharsLast (e ∷ f ∷ more) = NoCharsLast (f ∷ more)

-- No characters are none, and none stand beside others.
abbrev pub IsApart : List Event → Type 0
IsApart [] = Unit {0}
IsApart (Open name attributes ∷ more) = IsApart more
IsApart (Chars text ∷ more) = (text ≢ []) × NoCharsFirst more × IsApart more
IsApart (Close name ∷ more) = IsApart more

-- What was told is apart, characters may come next, and no attribute waits.
pub record IsBuildingReady (b : Building) : Type 0 where
  pub apart : IsApart (said b)
  pub run_begins : NoCharsLast b.events
  pub none_waits : b.attributes ≡ []

-- Some first marks of those that wait are told, and the others wait.
pub record HandsOn (old new : Building) (had : List Mark → Type 0) : Type 0 where
  pub told : List Mark
  pub has : had told
  pub rest : spread (said old) ≡ told ++ spread (said new)
  pub waits : new.attributes ≡ old.attributes
