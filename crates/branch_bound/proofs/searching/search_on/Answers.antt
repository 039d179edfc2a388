use Rattle.std.proofs.Common.{inl, false, None, sym}
use Rattle.certificate.specs.declared.causes.Cause.TheVariants.{Memory}
use Rattle.search_rules.specs.Search.{early}
use Rattle.search_rules.specs.Asked.{asked_first, gave_up}
use Rattle.no_cycles.proofs.OneCaseSearches.{early_is}
use Rattle.branch_bound.specs.Claims.{is_kill}
use Rattle.branch_bound.specs.Walks.{best}
use Rattle.branch_bound.proofs.searching.search_on.Goals as goal

pub returns-in-Err : goal.returns-in-Err
returns-in-Err g c =
    let a = c.args in
    let b = best a.first in (
      0,
      false,
      early b Memory,
      None,
      c.claim_early.ensures,
      inl (sym (early_is is_kill b Memory)),
      g.met.W.Watch.stays a.watch.now,
      λ stop h. gave_up asked_first,
    )

pub returns-in-Ok : goal.returns-in-Ok
returns-in-Ok g c = c.explore.ensures
