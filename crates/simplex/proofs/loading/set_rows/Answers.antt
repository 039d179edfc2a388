use Rattle.std.proofs.Common.{◌≡◌, ◌+◌, ◌-◌, ◌<◌, List, length, refl, sym, ◌∙◌, ap, subst, arith}
use Rattle.std.specs.List.{All}
use Rattle.fraction.specs.declared.ends.Entry.{Entry}
use Rattle.dictionary.specs.Dict.{width_of, height_of}
use Rattle.dictionary.specs.ProgramRows.{with_entries}
use Rattle.instance.specs.Parts.{IsAscending, IsInside}
use Rattle.simplex.specs.declared.cuts.Added.{Added}
use Rattle.simplex.specs.Cuts.{IsAdded, AreRowsBeside}
use Rattle.simplex.proofs.AddedRows.{added_is, row_added, added_inside, none_beside, one_beside}
use Rattle.simplex.proofs.loading.set_rows.Goals as goal
use Rattle.simplex.proofs.loading.set_rows.Goals.{After-as_slice-entries}

pub loop-row-init : goal.loop-row-init
loop-row-init g c = record {
  from = omega arith;
  to = let r = c.requires.rows in omega arith;
  size = record { width = refl; height = refl };
  rows = λ A first. (A, first, subst (λ n. AreRowsBeside A c.args.first c.args.added.now n A) (omega arith) (none_beside A c.args.first c.args.added.now));
}

-- the row at hand
row_is : (g : _) (c : After-as_slice-entries g) → IsAdded (width_of c.loop-row.dict) c.loop-row.row c.index-added-k.result
row_is g c =
    let i = c.loop-row.invariant in
    subst (λ n. IsAdded n c.loop-row.row c.index-added-k.result) (sym i.size.width)
    (row_added (width_of c.args.dict.now) c.args.first c.args.height c.loop-row.row c.args.added.now c.index-added-k.result c.requires.added c.requires.rows i.from c.loop-row-test.true c.index-added-k.is)

entries_are : (g : _) (c : After-as_slice-entries g) → c.as_slice-entries.result.now ≡ c.index-added-k.result.entries
entries_are g c = c.as_slice-entries.ensures ∙ ap (λ (r : Added). r.entries) (sym c.index-added-k.is)

pub set_row-requires-clause-first : goal.set_row-requires-clause-first
set_row-requires-clause-first g c =
    let (A, first) = c.requires.first in
    let (B, is, beside) = c.loop-row.invariant.rows A first in
    (B, is)

pub set_row-requires-clause-row : goal.set_row-requires-clause-row
set_row-requires-clause-row g c = let i = c.loop-row.invariant in let h = i.size.height in let e = c.requires.height in let t = c.loop-row-test.true in omega arith

pub set_row-requires-clause-ascending : goal.set_row-requires-clause-ascending
set_row-requires-clause-ascending g c =
    let at' = (goal.at.set_row-requires-clause-ascending g c).After-as_slice-entries in
    let r = row_is g at' in
    subst IsAscending (sym (entries_are g at')) r.ascending

pub set_row-requires-clause-inside : goal.set_row-requires-clause-inside
set_row-requires-clause-inside g c =
    let i = c.loop-row.invariant in
    let at' = (goal.at.set_row-requires-clause-inside g c).After-as_slice-entries in
    let low : c.loop-row.row < height_of c.loop-row.dict = let h = i.size.height in let e = c.requires.height in let t = c.loop-row-test.true in omega arith in
    subst (λ (es : List Entry). All (IsInside (height_of c.loop-row.dict) (width_of c.loop-row.dict)) es) (sym (entries_are g at'))
    (added_inside (width_of c.loop-row.dict) (height_of c.loop-row.dict) c.loop-row.row c.index-added-k.result low (row_is g at'))

pub set_row-requires-clause-own : goal.set_row-requires-clause-own
set_row-requires-clause-own g c =
    let at' = (goal.at.set_row-requires-clause-own g c).After-as_slice-entries in
    let r = row_is g at' in
    subst (λ (es : List Entry). All (λ (e : Entry). e.row ≡ c.loop-row.row) es) (sym (entries_are g at')) r.rows

pub loop-row-preserved : goal.loop-row-preserved
loop-row-preserved g c =
    let i = c.loop-row.invariant in
    let first = c.args.first in
    let row = c.loop-row.row in
    let rs = c.args.added.now in
    let e : first + (row - first) ≡ row = let f = i.from in omega arith in
    let n : (row - first) + 1 ≡ (row + 1) - first = let f = i.from in omega arith in
    let here = added_is rs (row - first) c.index-added-k.result c.index-added-k.is (let f = i.from in let t = c.loop-row-test.true in let r = c.requires.rows in omega arith) in
    record {
      from = let f = i.from in omega arith;
      to = let t = c.loop-row-test.true in omega arith;
      size = record { width = c.set_row.ensures.size.width ∙ i.size.width; height = c.set_row.ensures.size.height ∙ i.size.height };
      rows = λ A begun.
          let (B, is, beside) = i.rows A begun in
          let more = one_beside A B first (row - first) rs c.index-added-k.result here beside in (
            with_entries B row c.as_slice-entries.result.now,
            c.set_row.ensures.first B is,
            subst (λ m. AreRowsBeside A first rs m (with_entries B row c.as_slice-entries.result.now)) n
                (subst (λ q. AreRowsBeside A first rs ((row - first) + 1) (with_entries B q c.as_slice-entries.result.now)) e
                (subst (λ (es : List Entry). AreRowsBeside A first rs ((row - first) + 1) (with_entries B (first + (row - first)) es)) (sym (entries_are g (goal.at.loop-row-preserved g c).After-as_slice-entries)) more)),
          );
    }

pub returns-clause-rows : goal.returns-clause-rows
returns-clause-rows g c = λ A begun.
    let i = c.loop-row.invariant in
    let (B, is, beside) = i.rows A begun in
    let n : c.loop-row.row - c.args.first ≡ length c.args.added.now = let t = i.to in let f = c.loop-row-test.false in let r = c.requires.rows in omega arith in
    (B, is, subst (λ m. AreRowsBeside A c.args.first c.args.added.now m B) n beside)
