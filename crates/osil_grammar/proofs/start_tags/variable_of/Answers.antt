use Rattle.osil_grammar.proofs.Words.{◌<◌, ◌≤◌, ℕ, inl, refl, sym, subst, Option, length, codes, value_of, SaysCount}
use Rattle.osil_grammar.proofs.StartTagTests.{index_is, index_below, index_beyond, index_there}
use Rattle.osil_grammar.proofs.start_tags.variable_of.Goals as goal

pub returns-in_default-clause-reads : goal.returns-in_default-clause-reads
returns-in_default-clause-reads c s name at = absurd (index_there (value_of (codes "idx") c.args.attributes.now) at.1 (subst (λ (x : Option ℕ). SaysCount c.args.attributes.now (codes "idx") x) c.in_default.is c.requires))

pub returns-then-width-j-clause-reads : goal.returns-then-width-j-clause-reads
returns-then-width-j-clause-reads c s name at =
    let says = subst (λ (x : Option ℕ). SaysCount c.args.attributes.now (codes "idx") x) c.in-Some.is c.requires in
    let o = value_of (codes "idx") c.args.attributes.now in
    inl (index_beyond o c.in-Some.j (length s.vars) (index_is o c.in-Some.j says) (subst (λ (n : ℕ). n ≤ c.in-Some.j) (sym at.0) c.if-width-j.true), refl)

pub returns-clause-reads : goal.returns-clause-reads
returns-clause-reads c s name at =
    let says = subst (λ (x : Option ℕ). SaysCount c.args.attributes.now (codes "idx") x) c.in-Some.is c.requires in
    let o = value_of (codes "idx") c.args.attributes.now in
    let index = index_is o c.in-Some.j says in
    ((index_below o c.in-Some.j (length s.vars) index (subst (λ (n : ℕ). c.in-Some.j < n) (sym at.0) c.if-width-j.false), tt), index)
