use Rattle.std.proofs.Common.{◌≡◌, ◌⊎◌, inl, inr, ℕ, ◌+◌, ◌<◌, Bool, None, Option, [], length, drop, arith, refl, sym, ◌∙◌, ap, subst}
use Rattle.std.proofs.lemmas.List.{length-map, drop_all}
use Rattle.certificate.specs.Meanings as Means
use Rattle.instance.specs.Parts.{Parts}
use Rattle.instance.specs.Program.{goal as meaning, goals, problem}
use Rattle.simplex_rules.specs.Looks.{stop_after, looks_after}
use Rattle.simplex_rules.proofs.Looks.{agrees}
use Rattle.search_rules.specs.Asked.{ComesAsked}
use Rattle.search_rules.specs.Search.{SearchMoment}
use Rattle.branch_bound.specs.declared.found.Found.{Found}
use Rattle.branch_bound.specs.Bounds.{asked}
use Rattle.branch_bound.specs.Claims.{TellsStop}
use Rattle.branch_bound.specs.Walks.{best, waiting}
use Rattle.branch_bound.specs.Levels.{moment}
use Rattle.branch_bound.specs.Cases.{terms, clock_at}
use Rattle.branch_bound.proofs.FirstLevel.{begun_state, begun_comes}
use Rattle.branch_bound.proofs.ClaimsAtEnd.{told_closed}
use Rattle.branch_bound.proofs.searching.explore.Goals as goal

-- no goal is asked after the last level's
last_level : (p : Parts) (b : Option Found) (k : ℕ) → (b ≡ None) ⊎ (length p.goals < k + 2) → (best b ≡ None) ⊎ (drop (k + 1) (goals p.goals) ≡ [])
last_level p b k (inl e) = inl (ap best e)
last_level p b k (inr l) = inr (drop_all (k + 1) (goals p.goals) (let long = length-map p.goals meaning in omega arith))

pub search_levels-requires-clause-state : goal.search_levels-requires-clause-state
search_levels-requires-clause-state g c = begun_state c.args.instance.now c.args.limits c.args.state c.requires.begun c.args.first c.requires.values

pub returns-in-Ok : goal.returns-in-Ok
returns-in-Ok g c =
    let a = c.args in
    let p = a.instance.now in
    let u = c.search_levels.new.self in
    let v = u.level in
    let w = u.walk in
    let s = u.relaxation in
    let m = c.in-Ok.ensures.moments in
    let (o, tells, goes, answer) = told_closed c.all_closed.result (Means.certificates v.certs) (record { rounds = Means.rounds v.rounds; nodes = Means.nodes w.nodes }) (best w.best) c.all_closed.ensures in (
      m.looks,
      m.killed,
      o,
      None,
      record { says = tells.says; cause = tells.cause },
      inl (sym m.is ∙ sym goes),
      m.came,
      λ stop h.
          let last = m.carries (best a.first) 0 stop (begun_comes p a.limits a.state c.requires.begun a.first (terms a.limits stop) (asked a.limits) c.requires.first) h in
          let L = last.stands.program in
          let D = last.stands.cut in
          let none : waiting D w w.next ≡ [] = ap (waiting D w) c.in-Ok.ensures.closed in
          answer (problem p) (terms a.limits stop) (asked a.limits) (best a.first) (moment p L D v w (clock_at s (looks_after 0 m.looks m.killed))) last.carried last.numbers refl refl refl none (last_level p w.best v.goal c.in-Ok.ensures.last)
          (subst (λ (n : SearchMoment). ComesAsked (problem p) (terms a.limits stop) (asked a.limits) (best a.first) n last.carried last.numbers) last.stands.is last.comes),
    )

-- of a stop that the looks tell
pub end_early-requires : goal.end_early-requires
end_early-requires g c =
    let a = c.args in
    let m = c.in-Err.ensures.moments in
    let stop = stop_after m.looks m.killed in
    let u = c.search_levels.new.self in
    record {
      ended = (
        terms a.limits stop,
        best a.first,
        clock_at u.relaxation (looks_after 0 m.looks m.killed),
        m.carries (best a.first) 0 stop (begun_comes a.instance.now a.limits a.state c.requires.begun a.first (terms a.limits stop) (asked a.limits) c.requires.first) (agrees m.looks m.killed),
      );
    }

pub returns-in-Err : goal.returns-in-Err
returns-in-Err g c =
    let a = c.args in
    let u = c.search_levels.new.self in
    let m = c.in-Err.ensures.moments in
    let (o, b, tells, stopped, answer) = c.end_early.ensures in (
      m.looks,
      m.killed,
      o,
      b,
      tells,
      subst (λ (k : Bool). TellsStop a.limits.bound k o) m.is stopped,
      m.came,
      λ stop h.
          answer (terms a.limits stop) (best a.first) (clock_at u.relaxation (looks_after 0 m.looks m.killed))
          (m.carries (best a.first) 0 stop (begun_comes a.instance.now a.limits a.state c.requires.begun a.first (terms a.limits stop) (asked a.limits) c.requires.first) h),
    )
