-- Marks that a builder was told, and a reader whose marks were told to one.
use Rattle.std.specs.Prelude.{◌≡◌, List, [], ◌++◌}
use Rattle.std.proofs.Common.{sym, ap, ◌∙◌, append_assoc, append-nil}
use Rattle.element_tree.specs.Building.{Building, said}
use Rattle.doc_tree.specs.Marks.{Mark, spread}
use Rattle.doc_tree.specs.Feeding.{Feeding, behind}

-- The builder was told these marks.
abbrev pub Gathers : Building → Building → List Mark → Type 0
Gathers old new marks = spread (said new) ≡ spread (said old) ++ marks

-- A reader that tells a builder, with all that was told.
abbrev pub whole : Feeding → Building → Feeding
whole f b = behind (spread (said b)) f

-- told nothing, it stays
pub gathers_none : (b : Building) → Gathers b b []
gathers_none b = sym (append-nil (spread (said b)))

-- told marks and then others, it was told both
pub gathers_both : (u v w : Building) (first second : List Mark) → Gathers u v first → Gathers v w second → Gathers u w (first ++ second)
gathers_both u v w first second g h = h ∙ (ap (λ z. z ++ second) g ∙ append_assoc (spread (said u)) first second)
