use Rattle.std.proofs.Common.{ℕ, inl, List, refl, subst}
use Rattle.fraction.specs.declared.frac.Frac.{Frac}
use Rattle.osol_grammar.specs.Times.{SaysTime}
use Rattle.osol_grammar.proofs.parse_state.ParseState.end_time.Goals as goal

pub returns-in_default : goal.returns-in_default
returns-in_default c = inl (subst (λ (t : List ℕ). (x : Frac) → SaysTime c.args.self.now.unit t x → ⊥) c.as_slice.ensures c.in_default.ensures, refl)

pub returns : goal.returns
returns c =
    let says = subst (λ (t : List ℕ). SaysTime c.args.self.now.unit t c.in-Some.seconds) c.as_slice.ensures c.in-Some.ensures in
    (((λ bad. bad c.in-Some.seconds says), tt), (c.in-Some.seconds, says, refl))
