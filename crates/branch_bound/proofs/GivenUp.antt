-- What stays of a walk that is given up.
use Rattle.std.proofs.Common.{◌≡◌, inl, inr, Option, None, refl, sym, ◌∙◌, ap, subst}
use Rattle.certificate.specs.declared.causes.Cause.{Cause}
use Rattle.branch_bound.specs.declared.ended.Ended.{Ended}
use Rattle.branch_bound.specs.declared.ended.Ended.TheVariants.{Unbounded, Early}
use Rattle.branch_bound.specs.declared.level.Level.{Level}
use Rattle.branch_bound.specs.declared.relaxation.Relaxation.{Relaxation}
use Rattle.branch_bound.specs.declared.walk.RayAt.{RayAt}
use Rattle.branch_bound.specs.declared.walk.Walk.{Walk}
use Rattle.branch_bound.specs.Cases.{IsForMemory, StaysIn, StaysAt}

pub for_memory : (w x : Walk) (e : Ended) → IsForMemory w e → StaysIn w x e
for_memory w x e is = subst (StaysIn w x) (sym is) (refl, inl refl)

pub given_up : (w x : Walk) (e : Ended) (k : Cause) → e ≡ Early w.best k → x ≡ record w { best = None } → StaysIn w x e
given_up w x e k is rest = subst (StaysIn w x) (sym is) (refl, inr (ap (λ (y : Walk). let z : Walk = record y { best = w.best; ray = w.ray } in z) rest))

-- whatever ray it had then
pub another_ray : (w x : Walk) (r : Option RayAt) (e : Ended) → StaysIn (record w { ray = r }) x e → StaysIn w x e
another_ray w x r (Unbounded f z) h = tt
another_ray w x r (Early b k) (best, inl is) = (best, inl is)
another_ray w x r (Early b k) (best, inr rest) = (best, inr (ap (λ (y : Walk). let z : Walk = record y { ray = w.ray } in z) rest))

module _ {M : _} {G : _} (r s : Relaxation M G) (v u : Level) (w x : Walk) where
  pub for_memory_at : (e : Ended) → IsForMemory w e → StaysAt r v w s u x e
  for_memory_at e is = subst (StaysAt r v w s u x) (sym is) (refl, inl refl)

  pub stays_at : (e : Ended) → u ≡ v → s.ends ≡ r.ends → s.rows.items ≡ r.rows.items → StaysIn w x e → StaysAt r v w s u x e
  stays_at (Unbounded f z) a b c h = tt
  stays_at (Early q k) a b c (best, inl is) = (best, inl is)
  stays_at (Early q k) a b c (best, inr rest) = (best, inr (rest, a, b, c))

-- where what runs are given was the same before
pub stays_from : {M : _} {G : _} (q r s : Relaxation M G) (v u : Level) (w x : Walk) (e : Ended) → r.ends ≡ q.ends → r.rows.items ≡ q.rows.items → StaysAt r v w s u x e → StaysAt q v w s u x e
stays_from q r s v u w x (Unbounded f z) ends rows h = tt
stays_from q r s v u w x (Early b k) ends rows (best, inl is) = (best, inl is)
stays_from q r s v u w x (Early b k) ends rows (best, inr (rest, a, e, l)) = (best, inr (rest, a, e ∙ ends, l ∙ rows))
