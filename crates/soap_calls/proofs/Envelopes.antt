-- The one element in the one body of an envelope.
use Rattle.std.proofs.Common.{◌≡◌, ◌∙◌, Bool, true, false, cond, bytes_eq, Option, None, Some, Result, subst, sym, refl}
use Rattle.std.specs.Prelude.{IfOk, codes}
use Rattle.tree_grammar.specs.Elements.{Element}
use Rattle.document_tags.specs.declared.spot.Spot.{Spot}
use Rattle.document_tags.specs.Spots.{StandsAt, IsSpot}
use Rattle.document_tags.specs.OneChild.{only_child, only_element}
use Rattle.soap_calls.specs.Envelope.{held_in, held}

-- the root has another name
pub no_envelope : (e : Element) (b : Bool) → b ≡ bytes_eq e.name (codes "Envelope") → b ≡ false → IsSpot None (held e)
no_envelope e b is other = subst (λ (t : Bool). IsSpot None (cond t (held_in (only_child e (codes "Body"))) None)) (sym other ∙ is) tt

-- it has this one
pub in_envelope : {E : Type 0} (e : Element) (b : Bool) (r : Result (Option Spot) E) → b ≡ bytes_eq e.name (codes "Envelope") → b ≡ true → IfOk r (λ s. IsSpot s (held_in (only_child e (codes "Body")))) → IfOk r (λ s. IsSpot s (held e))
in_envelope e b r is on h = subst (λ (t : Bool). IfOk r (λ s. IsSpot s (cond t (held_in (only_child e (codes "Body"))) None))) (sym on ∙ is) h

none_in : (o : Option Element) → IsSpot None o → IsSpot None (held_in o)
none_in None is = tt
none_in (Some body) is = absurd is

pub no_body : (e : Element) (b : Bool) → b ≡ bytes_eq e.name (codes "Envelope") → b ≡ true → IsSpot None (only_child e (codes "Body")) → IsSpot None (held e)
no_body e b is on none = subst (λ (t : Bool). IsSpot None (cond t (held_in (only_child e (codes "Body"))) None)) (sym on ∙ is) (none_in (only_child e (codes "Body")) none)

-- the body is this one
pub in_body : {E : Type 0} (o : Option Element) (s : Spot) (r : Result (Option Spot) E) → IsSpot (Some s) o → ((body : Element) → StandsAt s body → IfOk r (λ x. IsSpot x (only_element body))) → IfOk r (λ x. IsSpot x (held_in o))
in_body None s r is h = absurd is
in_body (Some body) s r is h = h body is

-- an element at this place is held
pub holds : (s : Spot) (o : Option Element) → IsSpot (Some s) o → (e : Element) × (o ≡ Some e) × StandsAt s e
holds s None is = absurd is
holds s (Some e) is = (e, refl, is)

pub holds_none : (o : Option Element) → IsSpot None o → o ≡ None
holds_none None is = refl
holds_none (Some e) is = absurd is
