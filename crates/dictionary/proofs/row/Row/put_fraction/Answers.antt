use Rattle.std.proofs.Common.{arith, refl}
use Rattle.dictionary.proofs.RowForms.{few_fractions}
use Rattle.dictionary.proofs.PutRows.{put_own, put_other, put_row}
use Rattle.dictionary.proofs.row.Row.put_fraction.Goals as goal

pub mark-requires : goal.mark-requires
mark-requires g c = let r = c.requires.row in let is = r.2 in let s = is.columns in let l = r.3 in omega arith

pub write-requires : goal.write-requires
write-requires g c =
    let r = c.requires.row in
    let is = r.2 in
    let few = few_fractions c.args.self.now r.0 r.1 is c.requires.fractions in
    let l = r.4 in
    let room = is.room in
    omega arith

pub returns-clause-row : goal.returns-clause-row
returns-clause-row g c k n is l =
    put_row c.args.self.now _ (record { col = c.args.col; value = c.args.value.now }) c.requires.fractions c.requires.fractions c.write.ensures.entries k n is c.requires.after c.requires.nonzero l (let r = c.ranges.col in omega arith) refl refl c.mark.ensures.size c.mark.ensures.own c.mark.ensures.others c.write.ensures.room

pub returns-clause-own : goal.returns-clause-own
returns-clause-own g c =
    let r = c.requires.row in
    put_own c.args.self.now _ (record { col = c.args.col; value = c.args.value.now }) c.requires.fractions c.requires.fractions c.write.ensures.entries r.0 r.1 r.2 c.requires.after

pub returns-clause-others : goal.returns-clause-others
returns-clause-others g c =
    let r = c.requires.row in
    put_other c.args.self.now _ (record { col = c.args.col; value = c.args.value.now }) c.requires.fractions c.requires.fractions c.write.ensures.entries r.0 r.1 r.2 c.requires.after
