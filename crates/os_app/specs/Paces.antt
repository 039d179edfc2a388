-- Looks of which some are passed on.
use Rattle.std.specs.Prelude.{◌≡◌, ℕ, ◌+◌, Bool, List, [], ◌++◌, refl}
use Rattle.std.proofs.Common.{◌∙◌, sym, ap, ap₂}
use Rattle.os_io.specs.Looks.{stops_of}
use Rattle.os_io.specs.Laws.{stops_more}

-- looks with these answers, of a watch around another one: some of them were looks at the watch inside, and no other said to stop
pub record CamePaced (Came : List Bool → Type 0) (answers : List Bool) : Type 0 where
  pub inside : List Bool
  pub came : Came inside
  pub same : stops_of answers ≡ stops_of inside

-- no look
pub paced_without : (Came : List Bool → Type 0) → Came [] → CamePaced Came []
paced_without Came came = record { inside = []; came = came; same = refl }

-- looks after looks
pub paced_then : (first second both : List Bool → Type 0) → ((a b : List Bool) → first a → second b → both (a ++ b))
    → (a b : List Bool) → CamePaced first a → CamePaced second b → CamePaced both (a ++ b)
paced_then first second both joins a b p q = record {
  inside = p.inside ++ q.inside;
  came = joins p.inside q.inside p.came q.came;
  same = stops_more a b ∙ ap₂ (λ (x y : ℕ). x + y) p.same q.same ∙ sym (stops_more p.inside q.inside);
}

-- the stops are counted
pub paced_counts : (Came : List Bool → Type 0) (old new : ℕ) → ((inside : List Bool) → Came inside → new ≡ old + stops_of inside)
    → (answers : List Bool) → CamePaced Came answers → new ≡ old + stops_of answers
paced_counts Came old new counts answers p = counts p.inside p.came ∙ ap (λ n. old + n) (sym p.same)
