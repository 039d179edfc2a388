use Rattle.std.proofs.Common.{◌≡◌, ℤ, ◌+◌, ◌*◌, List, arith, refl, ◌∙◌, ap, subst}
use Rattle.std.specs.Vec.{with_items}
use Rattle.std.proofs.lemmas.List.{with_items_is}
use Rattle.marks.specs.Words.{is_set}
use Rattle.dictionary.specs.Row.{room_of}
use Rattle.dictionary.specs.Words.{number_at, AreChanged}
use Rattle.dictionary.proofs.WordRows.{word_row, changed_number, word_steps}
use Rattle.dictionary.proofs.changing.change_columns.Goals as goal
use Rattle.dictionary.proofs.changing.change_columns.Goals.{After-change_word-changed}

-- the slices are the rows' numbers
changed : (g : _) (c : After-change_word-changed g) → AreChanged (64 * c.args.w) c.word-own.result c.changing.result (is_set c.changing.result) c.args.parts.scale c.args.parts.factor c.args.row.now.numers.items c.args.by.now.numers.items c.change_word-changed.new.numers c.args.row.now.size c.change_word-changed.result.entries c.change_word-changed.result.size
changed g c =
    let P : List ℤ → List ℤ → Type 0 = λ old by. AreChanged (64 * c.args.w) c.word-own.result c.changing.result (is_set c.changing.result) c.args.parts.scale c.args.parts.factor old by c.change_word-changed.new.numers c.args.row.now.size c.change_word-changed.result.entries c.change_word-changed.result.size in
    subst (λ old. P old c.args.by.now.numers.items) c.as_mut_slice.ensures.value (subst (P c.as_mut_slice.result.now) c.as_slice.ensures.value c.change_word-changed.ensures.changed)

items : (g : _) (c : After-change_word-changed g) → (with_items c.args.row.now.numers c.change_word-changed.new.numers).items ≡ c.change_word-changed.new.numers
items g c = with_items_is c.args.row.now.numers c.change_word-changed.new.numers (c.change_word-changed.auto.numers ∙ c.as_mut_slice.ensures.len)

pub returns-clause-row : goal.returns-clause-row
returns-clause-row g c =
    let r = c.requires.row in
    let room : room_of c.args.row.now.fractions ≡ room_of c.args.row.now.fractions = refl in
    word_row c.args.row.now c.args.by.now c.change_word-changed.new.numers c.args.w c.word-own.result c.word-other.result c.changing.result c.change_word-changed.result.entries c.change_word-changed.result.size c.args.parts.scale c.args.parts.factor c.only_adds.result c.word-own.ensures c.word-other.ensures c.changing.ensures (changed g (goal.at.returns-clause-row g c).After-change_word-changed) _ (items g (goal.at.returns-clause-row g c).After-change_word-changed) refl c.requires.common c.requires.common refl c.set_word.ensures.size c.set_word.ensures.own c.set_word.ensures.others room r.0 r.1 r.2 r.3

pub returns-clause-changed : goal.returns-clause-changed
returns-clause-changed g c i l = let r = c.requires.row in ap (λ xs. number_at xs (64 * c.args.w + i)) (items g (goal.at.returns-clause-changed g c).After-change_word-changed) ∙ changed_number c.args.row.now c.args.by.now c.change_word-changed.new.numers c.args.w c.word-own.result c.word-other.result c.changing.result c.change_word-changed.result.entries c.change_word-changed.result.size c.args.parts.scale c.args.parts.factor c.only_adds.result c.word-own.ensures c.word-other.ensures c.changing.ensures (changed g (goal.at.returns-clause-changed g c).After-change_word-changed) r.0 r.1 r.2 r.3 c.only_adds.ensures.yes i l

pub returns-clause-cost : goal.returns-clause-cost
returns-clause-cost g c = let l = word_steps c.args.row.now c.args.by.now c.change_word-changed.new.numers c.args.w c.word-own.result c.word-other.result c.changing.result c.change_word-changed.result.entries c.change_word-changed.result.size c.args.parts.scale c.args.parts.factor c.only_adds.result c.word-own.ensures c.word-other.ensures c.changing.ensures (changed g (goal.at.returns-clause-cost g c).After-change_word-changed) in let e = c.change_word-changed.ensures.cost in omega arith
