use Rattle.osil_grammar.proofs.Words.{◌≡◌, ◌+◌, ◌<◌, ℕ, inr, [], ◌∷◌, sym, subst, End, At, Inf, nought, too_many}
use Rattle.osil_grammar.specs.declared.elements.Place.TheVariants as places
use Rattle.osil_grammar.proofs.StartTagTests.{domain_known, ends_refused, ends_many, ends_all}
use Rattle.osil_grammar.proofs.start_tags.var_of.Goals as goal

pub returns-then-not-are_ends : goal.returns-then-not-are_ends
returns-then-not-are_ends c s name at =
    inr (
      domain_known c.args.attributes.now c.in-Some.domain c.in-Some.ensures,
      ends_refused s name c.args.attributes.now (λ (y : End). y ≡ At nought) (λ (y : End). y ≡ Inf) (λ e. absurd (cc)) (λ e. absurd (cc)) c.args.lb c.args.ub c.requires.low c.requires.high
          (λ ends. absurd (let yes = c.are_ends.ensures.1 ends in let no = c.if-not-are_ends.true in cc)) (too_many places.Var ∷ []),
    )

pub returns-then-are_too_many : goal.returns-then-are_too_many
returns-then-are_too_many c s name at =
    inr (
      domain_known c.args.attributes.now c.in-Some.domain c.in-Some.ensures,
      ends_many s name c.args.attributes.now (λ (y : End). y ≡ At nought) (λ (y : End). y ≡ Inf) places.Var c.args.lb c.args.ub c.args.times c.requires.low c.requires.high (c.are_ends.ensures.0 c.if-not-are_ends.false) c.requires.times
          (subst (λ (n : ℕ). 1000 < n + c.args.times) (sym at) (c.are_too_many.ensures.0 c.if-are_too_many.true)),
    )

pub returns : goal.returns
returns c s name at = (
  (
    domain_known c.args.attributes.now c.in-Some.domain c.in-Some.ensures,
    ends_all s name c.args.attributes.now (λ (y : End). y ≡ At nought) (λ (y : End). y ≡ Inf) places.Var c.args.lb c.args.ub c.args.times c.requires.low c.requires.high (c.are_ends.ensures.0 c.if-not-are_ends.false) c.requires.times
        (λ many. absurd (let yes = c.are_too_many.ensures.1 (subst (λ (n : ℕ). 1000 < n + c.args.times) at many) in let no = c.if-are_too_many.false in cc)),
  ),
  (record { lb = c.args.lb; ub = c.args.ub; domain = c.in-Some.domain; low = c.requires.low; high = c.requires.high; type = c.in-Some.ensures; is = c.variable.ensures }, c.requires.times),
)
