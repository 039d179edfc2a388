use Rattle.doc_tree.proofs.Words.{Attribute, Building, Open, [], ap, arith, get_or_from_slice_get, length, said, sym, take, take_all, take_more, ◌++◌, ◌+◌, ◌<◌, ◌∙◌, ◌∷◌, ◌≡◌}
use Rattle.doc_tree.proofs.MachineSteps.{OnOk-map}
use Rattle.doc_tree.proofs.gathering.begin.Goals as goal

pub loop-k-preserved : goal.loop-k-preserved
loop-k-preserved c =
    let all = c.args.attributes.now in
    let pair : Attribute = record { name = c.pair.result.0.now; value = c.pair.result.1.now } in
    let l : c.loop-k.k < length all = let t = c.loop-k-test.true in let e = c.len-k-end.ensures in omega arith in
    let more : take (c.loop-k.k + 1) all ≡ take c.loop-k.k all ++ (pair ∷ []) = take_more all c.loop-k.k pair l ∙ ap (λ z. take c.loop-k.k all ++ (z ∷ [])) (get_or_from_slice_get all c.loop-k.k pair pair c.pair.ensures) in
    record {
      said = ap {A = Building} said c.in_ok-attribute.ensures.ok ∙ c.loop-k.invariant.said;
      waits = ap (λ z. z.attributes) c.in_ok-attribute.ensures.ok ∙ (ap (λ z. z ++ (pair ∷ [])) c.loop-k.invariant.waits ∙ sym more);
    }

pub returns : goal.returns
returns c =
    let b = c.loop-k.builder in
    let all : b.attributes ≡ c.args.attributes.now = c.loop-k.invariant.waits ∙ take_all c.loop-k.k c.args.attributes.now (let t = c.loop-k-test.false in let e = c.len-k-end.ensures in omega arith) in
    OnOk-map c.begin.result (λ e. e ∙ (ap {A = _} {B = Building} (λ z. record { events = z ++ (Open c.args.name.now b.attributes ∷ []); attributes = []; text = [] }) c.loop-k.invariant.said ∙ ap {A = _} {B = Building} (λ z. record { events = said c.args.builder.now ++ (Open c.args.name.now z ∷ []); attributes = []; text = [] }) all)) c.begin.ensures.ok
