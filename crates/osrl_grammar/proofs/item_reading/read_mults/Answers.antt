use Rattle.osrl_grammar.proofs.Names.{◌∙◌, ap, sym, subst, Option, FieldsRead, IsBad, IsTooGreat, more, Pair, pair_fields, mults_fields, IsMultOf}
use Rattle.osrl_grammar.proofs.Fields.{shapeless_read}
use Rattle.osrl_grammar.proofs.Mults.{none_so_far, one_so_far, no_mults}
use Rattle.osrl_grammar.proofs.item_reading.read_mults.Goals as goal

pub loop-rest-init : goal.loop-rest-init
loop-rest-init c = none_so_far (more c.args.pairs) c.new-mults.result c.new-mults.ensures

pub returns-in_default-parted : goal.returns-in_default-parted
returns-in_default-parted c = shapeless_read (mults_fields (more c.args.pairs)) _ (no_mults (more c.args.pairs) (more c.loop-rest.rest) (more c.first_piece.result.1) c.first_piece.result.0.now c.loop-rest.mults c.loop-rest.so_far (ap more c.in-Some.is ∙ c.first_piece.ensures) c.in_default-parted.ensures c.loop-rest.invariant)

pub loop-rest-preserved : goal.loop-rest-preserved
loop-rest-preserved c =
    let piece = c.first_piece.result.0.now in
    let p : Pair = record { column = c.in-Some-parted.column.now; factor = c.in-Some-parted.factor.now } in
    one_so_far (more c.args.pairs) (more c.loop-rest.rest) (more c.first_piece.result.1) piece p c.loop-rest.mults c.push_read.new.mults c.loop-rest.so_far c.in_ok-so_far.so_far (ap more c.in-Some.is ∙ c.first_piece.ensures) c.in-Some-parted.ensures
    (λ done fs h. c.in_ok-so_far.ensures done piece fs (pair_fields p) h (subst (λ (o : Option Pair). FieldsRead IsBad IsTooGreat (pair_fields p) c.read_mult.result (IsMultOf o)) (sym c.in-Some-parted.ensures) c.read_mult.ensures)) c.loop-rest.invariant
