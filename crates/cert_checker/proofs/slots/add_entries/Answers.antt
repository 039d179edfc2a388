use Rattle.std.proofs.Common.{◌≡◌, ◌+◌, ◌<◌, None, length, slice_set, slice_index_or, arith, sym, subst, refl}
use Rattle.fraction.specs.Frac.{ratio}
use Rattle.fraction.specs.declared.ends.Entry.{Entry}
use Rattle.cert_checker.specs.Slots.{slot_at, IsStep}
use Rattle.std.proofs.lemmas.List.{get_or_read_under}
use Rattle.cert_checker.proofs.Additions.{IsAdded, one_more, all_added}
use Rattle.cert_checker.proofs.slots.add_entries.Goals as goal

pub loop-k-preserved : goal.loop-k-preserved
loop-k-preserved c =
    let d : Entry = record { row = 0; col = 0; value = c.args.by } in
    let row = c.args.row.now in
    let k = c.loop-k.k in
    let slots = c.loop-k.slots in
    let long = c.loop-k.auto.slots in
    let e : slice_index_or row k d ≡ c.index-row-k.result = sym (get_or_read_under row k (length row) c.index-row-k.result d c.index-row-k.is c.loop-k-test.true refl) in
    let inside : (slice_index_or row k d).col < length slots = (let q = c.requires.inside k d c.loop-k-test.true in omega arith) in
    let inside' : c.index-row-k.result.col < length slots = subst (λ (f : Entry). f.col < length slots) e inside in
    let s : slot_at slots c.index-row-k.result.col ≡ c.index-slots-j.result = sym (get_or_read_under slots c.index-row-k.result.col (length slots) c.index-slots-j.result None c.index-slots-j.is inside' refl) in
    let step : IsStep (slot_at slots c.index-row-k.result.col) (ratio c.args.by) (ratio c.index-row-k.result.value) c.plus.result = subst (λ w. IsStep w (ratio c.args.by) (ratio c.index-row-k.result.value) c.plus.result) (sym s) c.plus.ensures in
    let step' : IsStep (slot_at slots (slice_index_or row k d).col) (ratio c.args.by) (ratio (slice_index_or row k d).value) c.plus.result = subst (λ (f : Entry). IsStep (slot_at slots f.col) (ratio c.args.by) (ratio f.value) c.plus.result) (sym e) step in
    subst (λ (f : Entry). IsAdded row d (ratio c.args.by) c.args.slots.now (slice_set slots f.col c.plus.result) (k + 1)) e
    (one_more row c.args.i d (ratio c.args.by) c.args.slots.now c.requires.ascending c.requires.row slots k c.plus.result c.loop-k-test.true inside c.loop-k.invariant step')

pub returns : goal.returns
returns c = λ j h.
    let d : Entry = record { row = 0; col = 0; value = c.args.by } in
    let end : c.loop-k.k ≡ length c.args.row.now = (let a = c.loop-k.auto.k-end in let b = c.loop-k-test.false in omega arith) in
    all_added c.args.row.now c.args.i d (ratio c.args.by) c.args.slots.now c.requires.ascending c.requires.row c.loop-k.slots
    (subst (λ n. IsAdded c.args.row.now d (ratio c.args.by) c.args.slots.now c.loop-k.slots n) end c.loop-k.invariant) j
