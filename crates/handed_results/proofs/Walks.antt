-- What characters leave, and elements that are passed over.
use Rattle.std.proofs.Common.{◌≡◌, ◌∙◌, ℕ, zero, suc, ◌+◌, ◌-◌, Result, OnOk, List, [], ◌∷◌, ◌++◌, map, append_assoc, append-nil, refl, ap, sym, subst, arith, add-one}
use Rattle.tree_grammar.specs.Elements.{Nodes, Event, Close, nodes_events}
use Rattle.doc_tree.specs.Marks.{Char, spread}
use Rattle.handed_results.specs.declared.handed.Handed.{Handed}
use Rattle.handed_results.specs.declared.handed.Handed.TheVariants.{Nothing, Once, Twice}
use Rattle.handed_results.specs.declared.parse_state.Place.{Place}
use Rattle.handed_results.specs.declared.parse_state.Place.TheVariants.{Outside, InRoot, InGeneral, InOthers, InResult}
use Rattle.handed_results.specs.declared.parse_state.ParseState.{ParseState}
use Rattle.mark_folds.proofs.PassedOver.{nodes_passed}
use Rattle.handed_results.specs.Marked.{with_text, heard_over, left_by, left}

abbrev pub at : Place → ℕ → Handed → ParseState
at place over h = record { place = place; over = over; handed = h }

-- ---- characters

-- character by character, or at once
text_left : (cs : List ℕ) (h : Handed) → left (at InResult 0 h) (map Char cs) ≡ at InResult 0 (with_text h cs)
text_left [] Nothing = refl
text_left [] (Once text) = ap (λ (t : List ℕ). at InResult 0 (Once t)) (sym (append-nil text))
text_left [] Twice = refl
text_left (c ∷ cs) Nothing = text_left cs Nothing
text_left (c ∷ cs) (Once text) = text_left cs (Once (text ++ c ∷ [])) ∙ ap (λ (t : List ℕ). at InResult 0 (Once t)) (append_assoc text (c ∷ []) cs)
text_left (c ∷ cs) Twice = text_left cs Twice

still_left : (cs : List ℕ) (s : ParseState) → ((c : ℕ) → heard_over s.over s (c ∷ []) ≡ s) → left s (map Char cs) ≡ s
still_left [] s still = refl
still_left (c ∷ cs) s still = ap (λ (z : ParseState). left z (map Char cs)) (still c) ∙ still_left cs s still

chars_left : (cs : List ℕ) (s : ParseState) → left s (map Char cs) ≡ heard_over s.over s cs
chars_left cs s = by s.place s.over s.handed
  where
    by : (p : Place) (d : ℕ) (h : Handed) → left (at p d h) (map Char cs) ≡ heard_over d (at p d h) cs
    by InResult zero h = text_left cs h
    by Outside zero h = still_left cs (at Outside 0 h) (λ c. refl)
    by InRoot zero h = still_left cs (at InRoot 0 h) (λ c. refl)
    by InGeneral zero h = still_left cs (at InGeneral 0 h) (λ c. refl)
    by InOthers zero h = still_left cs (at InOthers 0 h) (λ c. refl)
    by p (suc d) h = still_left cs (at p (suc d) h) (λ c. refl)

pub heard_left : {X E : Type 0} (r : Result X E) (cs : List ℕ) (s z : ParseState) → OnOk r (z ≡ heard_over s.over s cs) → OnOk r (z ≡ left s (map Char cs))
heard_left {X} {E} r cs s z h = subst (λ (w : ParseState). OnOk r (z ≡ w)) (sym (chars_left cs s)) h

-- ---- in an element that is passed over

over_left : (ns : Nodes) (p : Place) (d : ℕ) (h : Handed) (k : List Event) → left (at p (suc d) h) (spread (nodes_events ns k)) ≡ left (at p (suc d) h) (spread k)
over_left ns p d h k =
    nodes_passed left_by (λ n. at p (suc n) h) (λ n c. refl) (λ n name as'. ap (λ (m : ℕ). at p m h) (add-one (suc n)))
    (λ n name. let one_less : suc (suc n) - 1 ≡ suc n = omega arith in ap (λ (m : ℕ). at p m h) one_less) ns d k

-- one whole element that is passed over
pub passed_left : (inside : Nodes) (name : List ℕ) (p : Place) (h : Handed) (k : List Event) → left (at p 1 h) (spread (nodes_events inside (Close name ∷ k))) ≡ left (at p 0 h) (spread k)
passed_left inside name p h k = over_left inside p 0 h (Close name ∷ k)
