-- What holds of a claim's certificates, one by one.
use Rattle.std.proofs.Common.{◌≡◌, ◌+◌, List, [], ◌∷◌, ◌++◌, length, arith, refl, subst, ap}
use Rattle.std.specs.List.{All, flat_map}
use Rattle.std.proofs.lemmas.List.{length-append, get_or_append_left, get_or-append-add}
use Rattle.std.proofs.lemmas.List.Concat.{flat_map-cons}
use Rattle.std.proofs.lemmas.List.Elements.{All-nil, All-cons, All-map, All-head, All-tail}
use Rattle.certificate.specs.declared.nodes.Node.{Node}
use Rattle.certificate.specs.declared.nodes.Round.{Round}
use Rattle.certificate.specs.declared.nodes.Cert.{Cert}
use Rattle.certificate.specs.Meanings as Means
use Rattle.certificate.specs.Nodes.{IsInRange}
use Rattle.evidence.specs.Rounds.{Certificate}

all_left : {X : Type 0} (P : X → Type 0) (xs ys : List X) → All P (xs ++ ys) → All P xs
all_left P xs ys f = λ k d h. let n = length-append xs ys in subst P (get_or_append_left xs ys d k h) (f k d (omega arith))

all_right : {X : Type 0} (P : X → Type 0) (xs ys : List X) → All P (xs ++ ys) → All P ys
all_right P xs ys f = λ k d h. let n = length-append xs ys in subst P (get_or-append-add xs ys k d) (f (length xs + k) d (omega arith))

abbrev nodes_in : Cert → List Node
nodes_in c = c.nodes

-- the nodes of all trees are those of each
pub each_range : (cs : List Cert) → All IsInRange (flat_map nodes_in cs) → All (λ (c : Cert). All IsInRange c.nodes) cs
each_range [] f = All-nil (λ (c : Cert). All IsInRange c.nodes)
each_range (c ∷ cs) f =
    let g = subst (All IsInRange) (flat_map-cons nodes_in c cs) f in
    All-cons (λ (c : Cert). All IsInRange c.nodes) c cs (all_left IsInRange c.nodes (flat_map nodes_in cs) g) (each_range cs (all_right IsInRange c.nodes (flat_map nodes_in cs) g))

-- no rounds are no rounds
none_meant : (rs : List Round) → Means.rounds rs ≡ [] → rs ≡ []
none_meant [] e = refl
none_meant (r ∷ rs) e = cc

pub alone_to : (cs : List Cert) → All (λ (c : Cert). c.rounds ≡ []) cs → All (λ (c : Certificate). c.rounds ≡ []) (Means.certificates cs)
alone_to cs f = All-map (λ (c : Certificate). c.rounds ≡ []) Means.certificate cs (λ k d h. ap Means.rounds (f k d h))

pub alone_from : (cs : List Cert) → All (λ (c : Certificate). c.rounds ≡ []) (Means.certificates cs) → All (λ (c : Cert). c.rounds ≡ []) cs
alone_from [] f = All-nil (λ (c : Cert). c.rounds ≡ [])
alone_from (c ∷ cs) f =
    All-cons (λ (c : Cert). c.rounds ≡ []) c cs (none_meant c.rounds (All-head (λ (c : Certificate). c.rounds ≡ []) (Means.certificate c) (Means.certificates cs) f))
    (alone_from cs (All-tail (λ (c : Certificate). c.rounds ≡ []) (Means.certificate c) (Means.certificates cs) f))
