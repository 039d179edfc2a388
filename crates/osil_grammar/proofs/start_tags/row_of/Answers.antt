use Rattle.osil_grammar.proofs.Words.{◌≡◌, ◌+◌, ◌<◌, ℕ, inl, inr, [], ◌∷◌, refl, sym, subst, codes, End, NegInf, Inf, too_many}
use Rattle.osil_grammar.specs.declared.elements.Place.TheVariants as places
use Rattle.osil_grammar.proofs.StartTagTests.{no_great_end, great_end_of, ends_refused, ends_many, ends_all}
use Rattle.osil_grammar.proofs.start_tags.row_of.Goals as goal

pub returns-in_default : goal.returns-in_default
returns-in_default c s name at = inl (great_end_of c.args.attributes.now (codes "lb") (λ (y : End). y ≡ NegInf) c.args.ends.0 c.args.constant c.in_default.field-0 (λ f e. absurd (cc)) c.requires.low c.requires.constant c.in_default.ensures, refl)

pub returns-in_default-less : goal.returns-in_default-less
returns-in_default-less c s name at =
    inr (
      no_great_end c.args.attributes.now (codes "lb") (λ (y : End). y ≡ NegInf) c.args.ends.0 c.args.constant c.requires.low c.requires.constant c.in-Ok.ensures.1,
      inl (great_end_of c.args.attributes.now (codes "ub") (λ (y : End). y ≡ Inf) c.args.ends.1 c.args.constant c.in_default-less.field-0 (λ f e. absurd (cc)) c.requires.high c.requires.constant c.in_default-less.ensures, refl),
    )

pub returns-then-not-are_ends : goal.returns-then-not-are_ends
returns-then-not-are_ends c s name at =
    inr (
      no_great_end c.args.attributes.now (codes "lb") (λ (y : End). y ≡ NegInf) c.args.ends.0 c.args.constant c.requires.low c.requires.constant c.in-Ok.ensures.1,
      inr (
        no_great_end c.args.attributes.now (codes "ub") (λ (y : End). y ≡ Inf) c.args.ends.1 c.args.constant c.requires.high c.requires.constant c.in-Ok-less.ensures.1,
        ends_refused s name c.args.attributes.now (λ (y : End). y ≡ NegInf) (λ (y : End). y ≡ Inf) (λ e. absurd (cc)) (λ e. absurd (cc)) c.args.ends.0 c.args.ends.1 c.requires.low c.requires.high
            (λ ends. absurd (let yes = c.are_ends.ensures.1 ends in let no = c.if-not-are_ends.true in cc)) (too_many places.Con ∷ []),
      ),
    )

pub returns-then-are_too_many : goal.returns-then-are_too_many
returns-then-are_too_many c s name at =
    inr (
      no_great_end c.args.attributes.now (codes "lb") (λ (y : End). y ≡ NegInf) c.args.ends.0 c.args.constant c.requires.low c.requires.constant c.in-Ok.ensures.1,
      inr (
        no_great_end c.args.attributes.now (codes "ub") (λ (y : End). y ≡ Inf) c.args.ends.1 c.args.constant c.requires.high c.requires.constant c.in-Ok-less.ensures.1,
        ends_many s name c.args.attributes.now (λ (y : End). y ≡ NegInf) (λ (y : End). y ≡ Inf) places.Con c.args.ends.0 c.args.ends.1 c.args.times c.requires.low c.requires.high (c.are_ends.ensures.0 c.if-not-are_ends.false) c.requires.times
            (subst (λ (n : ℕ). 1000 < n + c.args.times) (sym at) (c.are_too_many.ensures.0 c.if-are_too_many.true)),
      ),
    )

pub returns : goal.returns
returns c s name at = (
  (
    no_great_end c.args.attributes.now (codes "lb") (λ (y : End). y ≡ NegInf) c.args.ends.0 c.args.constant c.requires.low c.requires.constant c.in-Ok.ensures.1,
    (
      no_great_end c.args.attributes.now (codes "ub") (λ (y : End). y ≡ Inf) c.args.ends.1 c.args.constant c.requires.high c.requires.constant c.in-Ok-less.ensures.1,
      ends_all s name c.args.attributes.now (λ (y : End). y ≡ NegInf) (λ (y : End). y ≡ Inf) places.Con c.args.ends.0 c.args.ends.1 c.args.times c.requires.low c.requires.high (c.are_ends.ensures.0 c.if-not-are_ends.false) c.requires.times
          (λ many. absurd (let yes = c.are_too_many.ensures.1 (subst (λ (n : ℕ). 1000 < n + c.args.times) at many) in let no = c.if-are_too_many.false in cc)),
    ),
  ),
  (record { lb = c.args.ends.0; ub = c.args.ends.1; constant = c.args.constant; low = c.requires.low; high = c.requires.high; has_constant = c.requires.constant; less_low = c.in-Ok.ensures.0; less_high = c.in-Ok-less.ensures.0 }, c.requires.times),
)
