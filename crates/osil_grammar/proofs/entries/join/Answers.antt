use Rattle.osil_grammar.proofs.Words.{◌≡◌, ◌+◌, ◌-◌, length, arith, sym, ◌∙◌, ap, subst, true≢false, get_or_read, sum, IsSame, SumFits, ratio, Entry, AreJoined}
use Rattle.osil_grammar.proofs.EntrySums.{joined_first, joined_behind, joined_at, wide_there}
use Rattle.osil_grammar.proofs.entries.join.Goals.{then-count-eq0-via-then-count-eq0, then-count-eq0-via-else-count-eq0+then-not-is_same_place}
use Rattle.osil_grammar.proofs.entries.join.Goals as goal

pub returns-then-count-eq0 : goal.returns-then-count-eq0
returns-then-count-eq0 c before rest at order =
    let old = c.args.out.now.items in
    let size : c.len-count.result ≡ length old = omega (arith, c.len-count.ensures, c.args.out.now.ok.0) in
    subst (λ l. AreJoined before l c.args.next rest) (sym c.in_ok-push.ensures.items)
    (elim c.then-count-eq0.branch [
      | then-count-eq0-via-then-count-eq0 w ↦ joined_first before old rest c.args.next at order (sym size ∙ w.if-count-eq0.true)
      | then-count-eq0-via-else-count-eq0+then-not-is_same_place w ↦
          let some = w.if-count-eq0.false in
          joined_behind before old rest c.args.next w.index.result.now (c.len-count.result - 1) at order (omega arith) w.index.ensures (λ same. true≢false (sym (w.is_same_place.ensures.1 same) ∙ w.if-not-is_same_place.true))
    ])

pub returns-in-Ok : goal.returns-in-Ok
returns-in-Ok c before rest at order =
    let old = c.args.out.now.items in
    let size : c.len-count.result ≡ length old = omega (arith, c.len-count.ensures, c.args.out.now.ok.0) in
    let some = c.if-count-eq0.false in
    let last : Entry = c.index_mut.result.now in
    let at_last : c.len-count.result - 1 + 1 ≡ length old = omega arith in
    let index : c.index.result.now ≡ last = get_or_read old (c.len-count.result - 1) c.index.result.now (omega arith) c.index.ensures last ∙ sym c.index_mut.ensures.value in
    let second : c.index-2.result.now ≡ last = get_or_read old (c.len-count.result - 1) c.index-2.result.now (omega arith) c.index-2.ensures last ∙ sym c.index_mut.ensures.value in
    let same = c.is_same_place.ensures.0 c.if-not-is_same_place.false in
    joined_at before old rest c.args.next last c.in-Ok.sum (c.len-count.result - 1) at order at_last c.index_mut.ensures.value
    (sym (ap (λ (e : Entry). e.row) index) ∙ same.0) (sym (ap (λ (e : Entry). e.col) index) ∙ same.1)
    (subst (λ (e : Entry). IsSame (ratio c.in-Ok.sum) (sum (ratio e.value) (ratio c.args.next.value))) second c.in-Ok.ensures.ok)
    (subst (λ (e : Entry). SumFits (ratio e.value) (ratio c.args.next.value)) second c.in-Ok.ensures.fits)

pub returns-in-Err : goal.returns-in-Err
returns-in-Err c before rest at order =
    let old = c.args.out.now.items in
    let size : c.len-count.result ≡ length old = omega (arith, c.len-count.ensures, c.args.out.now.ok.0) in
    let some = c.if-count-eq0.false in
    let last : Entry = c.index-2.result.now in
    let index : c.index.result.now ≡ last = get_or_read old (c.len-count.result - 1) c.index.result.now (omega arith) c.index.ensures last ∙ sym c.index-2.ensures in
    let same = c.is_same_place.ensures.0 c.if-not-is_same_place.false in
    wide_there before old c.args.next last (c.len-count.result - 1) at (omega arith) c.index-2.ensures
    (sym (ap (λ (e : Entry). e.row) index) ∙ same.0) (sym (ap (λ (e : Entry). e.col) index) ∙ same.1) c.in-Err.ensures.wide
