use Rattle.std.proofs.Common.{◌≡◌, ℕ, ◌<◌, false, length, arith, sym, ◌∙◌, subst}
use Rattle.evidence.proofs.Columns.{by_eq, by_lt}
use Rattle.simplex_rules.specs.declared.columns.Way.{Way}
use Rattle.simplex_rules.specs.Statuses.{status_at}
use Rattle.simplex_rules.specs.Turns.{Can, MovesIn, rate}
use Rattle.dictionary.specs.Dict.{entry_of}
use Rattle.dictionary.specs.Rows.{has_number}
use Rattle.dictionary.proofs.RowForms.{sized_zero}
use Rattle.simplex.specs.Cuts.{ranges_in}
use Rattle.simplex.proofs.ColumnEnds.{read_range}
use Rattle.simplex.proofs.PlainPrograms.{moves_nonzero}
use Rattle.simplex.proofs.helping.first_help.Goals as goal
use Rattle.simplex.proofs.helping.first_help.Goals.{In-Some}

pub loop-c-init : goal.loop-c-init
loop-c-init g c = λ k h. absurd (omega arith)

-- the column at hand has ends
inside : (g : _) (c : In-Some g) → c.in-Some.c < length c.args.ends.now
inside g c = let i = c.in-Some.ensures.nonbasic.inside in let s = c.requires.statuses in let n = s.count in let e = c.requires.ends in omega arith

-- a column without an entry moves nothing
stays : (g : _) (c : In-Some g) (k : ℕ) → has_number (entry_of c.args.dict.now c.args.row) k ≡ false → (v : Way) → MovesIn c.args.wanted (rate v (entry_of c.args.dict.now c.args.row k)) → ⊥
stays g c k e v m = moves_nonzero c.args.wanted v (entry_of c.args.dict.now c.args.row k) m (sized_zero (entry_of c.args.dict.now c.args.row k).num (sym e))

-- up to the column at hand none helps
none_before : (g : _) (c : In-Some g) (k : ℕ) → k < c.in-Some.c → (v : Way) → Can v (ranges_in c.args.ends.now k) (status_at c.args.statuses.now k) → MovesIn c.args.wanted (rate v (entry_of c.args.dict.now c.args.row k)) → ⊥
none_before g c k l v can moves = by_lt k c.loop-c.from (λ h. c.loop-c.invariant k h v can moves) (λ h. stays g c k (c.in-Some.ensures.first.first k h l) v moves)

pub bounds-statuses-c : goal.bounds-statuses-c
bounds-statuses-c g c = let l = inside g (goal.at.bounds-statuses-c g c).In-Some in let e = c.requires.ends in omega arith

pub bounds-ends-c : goal.bounds-ends-c
bounds-ends-c g c = inside g (goal.at.bounds-ends-c g c).In-Some

pub help_at-requires-clause-nonbasic : goal.help_at-requires-clause-nonbasic
help_at-requires-clause-nonbasic g c = c.in-Some.ensures.nonbasic

pub overflow_add-from : goal.overflow_add-from
overflow_add-from g c = let l = inside g (goal.at.overflow_add-from g c).In-Some in let e = c.requires.ends in let n = c.requires.goal in let w = c.ranges.goal in record { fits = omega arith }

pub returns-in-Some-help_at : goal.returns-in-Some-help_at
returns-in-Some-help_at g c I w e =
    let at' = (goal.at.returns-in-Some-help_at g c).In-Some in
    let h = inside g at' in
    let r = read_range c.args.ends.now c.in-Some.c c.index-ends-c.result c.index-ends-c.is h in
    let f = c.in-Some-help_at.ensures in
    record {
      inside = let a = e.count in omega arith;
      helps = record {
        nonbasic = f.0;
        can = subst (λ x. Can c.in-Some-help_at.way x (status_at c.args.statuses.now c.in-Some.c)) (sym (e.is c.in-Some.c ∙ r)) f.1;
        moves = f.2;
      };
      before = λ k l v p. none_before g at' k l v (subst (λ x. Can v x (status_at c.args.statuses.now k)) (e.is k) p.can) p.moves;
    }

pub loop-c-preserved : goal.loop-c-preserved
loop-c-preserved g c =
    let at' = (goal.at.loop-c-preserved g c).In-Some in
    let r = read_range c.args.ends.now c.in-Some.c c.index-ends-c.result c.index-ends-c.is (inside g at') in
    λ k l v can moves. by_eq k c.in-Some.c
    (λ e. c.in_default-help_at.ensures v (subst (λ x. Can v x (status_at c.args.statuses.now c.in-Some.c)) r (subst (λ j. Can v (ranges_in c.args.ends.now j) (status_at c.args.statuses.now j)) e can)) (subst (λ j. MovesIn c.args.wanted (rate v (entry_of c.args.dict.now c.args.row j))) e moves))
    (λ d. none_before g at' k (omega arith) v can moves)

pub returns : goal.returns
returns g c I w e k h v p =
    let can = subst (λ x. Can v x (status_at c.args.statuses.now k)) (e.is k) p.can in
    by_lt k c.loop-c.from (λ l. c.loop-c.invariant k l v can p.moves)
    (λ l. moves_nonzero c.args.wanted v (entry_of c.args.dict.now c.args.row k) p.moves (sized_zero (entry_of c.args.dict.now c.args.row k).num (sym (c.in_default.ensures.first k l))))
