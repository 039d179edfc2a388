-- Changes of a search's state, one behind the other.
use Rattle.std.proofs.Common.{◌≡◌, ℕ, ◌+◌, ◌<◌, Bool, false, Result, Ok, List, [], ◌++◌, arith, refl, sym, subst}
use Rattle.instance.specs.Parts.{Parts}
use Rattle.os_io.specs.Looks.{stops_of}
use Rattle.simplex_rules.specs.Looks.{went_on, answers}
use Rattle.simplex.proofs.Looks.{answers_more}
use Rattle.branch_bound.specs.declared.ended.Ended.{Ended}
use Rattle.branch_bound.specs.declared.limits.Limits.{Limits}
use Rattle.branch_bound.specs.declared.state.SearchState.{SearchState}
use Rattle.branch_bound.specs.Cases.{CarriesOn}
use Rattle.branch_bound.specs.States.{Changes}
use Rattle.branch_bound.proofs.Looks.{no_stops}
use Rattle.branch_bound.proofs.CaseSteps.{carried, carried_none}

module _ {L : _} {G : _} {p : Parts} {l : Limits} where
  -- without a look
  pub unchanged : {Came : List Bool → Type 0} (s : SearchState L G) → Came [] → Changes p l Came s s (Ok tt)
  unchanged s stays = record { looks = 0; killed = false; is = refl; came = stays; carries = carried_none p l s.relaxation s.level s.walk tt }

  module _ {First : List Bool → Type 0} {s t : SearchState L G} (first : Changes p l First s t (Ok tt)) where
    went : first.killed ≡ false
    went = sym first.is

    passed : First (went_on first.looks)
    passed = subst (λ k. First (answers first.looks k)) went first.came

    -- its looks stopped nothing
    pub still_below : {before after most : ℕ} → ((xs : List Bool) → First xs → after ≡ before + stops_of xs) → before < most → after < most
    still_below counts low = let e = counts (went_on first.looks) passed in let z = no_stops first.looks in omega arith

    pub joined : {Second Both : List Bool → Type 0} {u : SearchState L G} {result : Result (Unit {0}) Ended} → Changes p l Second t u result → ((xs ys : List Bool) → First xs → Second ys → Both (xs ++ ys)) → Changes p l Both s u result
    joined {Second} {Both} {u} {result} second join = record {
      looks = first.looks + second.looks;
      killed = second.killed;
      is = second.is;
      came = subst Both (answers_more first.looks second.looks second.killed) (join (went_on first.looks) (answers second.looks second.killed) passed second.came);
      carries = carried p l s.relaxation s.level s.walk t.relaxation t.level t.walk u.relaxation u.level u.walk first.looks second.looks second.killed tt result
          (subst (λ k. CarriesOn p l s.relaxation s.level s.walk t.relaxation t.level t.walk first.looks k (Ok tt)) went first.carries) second.carries;
    }
