-- Who is told of marks one after another is told of both.
use Rattle.std.specs.Prelude.{List, [], ◌++◌}
use Rattle.std.proofs.Common.{◌∙◌, refl, sym, subst}
use Rattle.doc_tree.specs.Marks.{Mark}
use Rattle.tag_tests.specs.declared.decoder.Course.{Course}
use Rattle.tag_tests.specs.declared.decoder.Course.TheVariants.{Going, Stopped, Lost}
use Rattle.tag_tests.specs.Readers.{HearsBy}

module _ {S R : Type 0} (Took : S → List Mark → S → Type 0) (Refuse : S → List Mark → R → Type 0) where
  pub hears_none : ((s : S) → Took s [] s) → (c : Course S R) → HearsBy Took Refuse c c []
  hears_none none (Going s) = none s
  hears_none none (Stopped r) = refl
  hears_none none Lost = tt

  pub hears_both : ((s m z : S) (ms ns : List Mark) → Took s ms m → Took m ns z → Took s (ms ++ ns) z)
      → ((s m : S) (ms ns : List Mark) (r : R) → Took s ms m → Refuse m ns r → Refuse s (ms ++ ns) r)
      → ((s : S) (ms ns : List Mark) (r : R) → Refuse s ms r → Refuse s (ms ++ ns) r)
      → (a b c : Course S R) (ms ns : List Mark) → HearsBy Took Refuse a b ms → HearsBy Took Refuse b c ns → HearsBy Took Refuse a c (ms ++ ns)
  hears_both both behind more (Going s) (Going m) (Going z) ms ns p q = both s m z ms ns p q
  hears_both both behind more (Going s) (Going m) (Stopped r) ms ns p q = behind s m ms ns r p q
  hears_both both behind more (Going s) (Stopped r) (Stopped q) ms ns p is = subst (λ (x : R). Refuse s (ms ++ ns) x) (sym is) (more s ms ns r p)
  hears_both both behind more (Stopped r) (Stopped q) (Stopped t) ms ns p is = is ∙ p
  hears_both both behind more Lost Lost Lost ms ns p q = tt
  hears_both both behind more (Going s) (Going m) Lost ms ns p q = absurd q
  hears_both both behind more (Going s) (Stopped r) (Going z) ms ns p q = absurd q
  hears_both both behind more (Going s) (Stopped r) Lost ms ns p q = absurd q
  hears_both both behind more (Going s) Lost c ms ns p q = absurd p
  hears_both both behind more (Stopped r) (Going m) c ms ns p q = absurd p
  hears_both both behind more (Stopped r) (Stopped q) (Going z) ms ns p is = absurd is
  hears_both both behind more (Stopped r) (Stopped q) Lost ms ns p is = absurd is
  hears_both both behind more (Stopped r) Lost c ms ns p q = absurd p
  hears_both both behind more Lost (Going m) c ms ns p q = absurd p
  hears_both both behind more Lost (Stopped r) c ms ns p q = absurd p
  hears_both both behind more Lost Lost (Going z) ms ns p q = absurd q
  hears_both both behind more Lost Lost (Stopped r) ms ns p q = absurd q
