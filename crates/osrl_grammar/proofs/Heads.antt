-- Items that begin with a word.
use Rattle.osrl_grammar.proofs.Names.{◌≡◌, ◌∙◌, ℕ, Option, Some, Result, List, [], ◌∷◌, refl, ap, sym, subst, Misread, option_map, Step, Index, Turn, Field, worded, field, step_text, all_steps, place_fields, ReadsTexts, IsPlace, BeginsWithWord}
use Rattle.certificate.specs.declared.causes.Place.{Place}
use Rattle.osrl_grammar.specs.Items.{behind_word, worded_fields}
use Rattle.osrl_grammar.specs.Values.{IsIndex, IsTurn, IsSaidBehind}
use Rattle.osrl_grammar.proofs.WordValues.{worded_is}
use Rattle.osrl_grammar.proofs.Fields.{Pass, reads_more}

module _ {W X : Type 0} (word : W → List ℕ) (all : List W) (behind : W → List (List ℕ) → Option (List Field)) (head : X → W) (Says : X → List (List ℕ) → Type 0) where
  worded_first : (pieces : List (List ℕ)) (p : List ℕ) (ps : List (List ℕ)) (o : Option W) → pieces ≡ p ∷ ps → worded word all p ≡ o → worded_fields word all behind pieces ≡ behind_word behind o ps
  worded_first pieces p ps o is found = ap (worded_fields word all behind) is ∙ ap (λ (q : Option W). behind_word behind q ps) found

  pub begun_read : (pieces : List (List ℕ)) (p : List ℕ) (ps : List (List ℕ)) (w : W) (r : Result X Misread) → pieces ≡ p ∷ ps → worded word all p ≡ Some w → ReadsTexts (behind w ps) r (IsSaidBehind head Says w ps) → ReadsTexts (worded_fields word all behind pieces) r (BeginsWithWord word head Says pieces)
  begun_read pieces p ps w r is found h =
      let own : p ≡ word w = worded_is word all p w found in
      subst (λ (o : Option (List Field)). ReadsTexts o r (BeginsWithWord word head Says pieces)) (sym (worded_first pieces p ps (Some w) is found))
      (reads_more (behind w ps) r (IsSaidBehind head Says w ps) (BeginsWithWord word head Says pieces) (λ x b. subst (λ (l : List (List ℕ)). BeginsWithWord word head Says l x) (sym is) (own ∙ ap word (sym b.0), b.1)) h)

  -- where what is said is made of numbers that pass
  pub begun_pass : ((w : W) → worded word all (word w) ≡ Some w) → ((x : X) (ps : List (List ℕ)) → Says x ps → Pass (behind (head x) ps)) → (pieces : List (List ℕ)) (x : X) → BeginsWithWord word head Says pieces x → Pass (worded_fields word all behind pieces)
  begun_pass each pass [] x h = absurd h
  begun_pass each pass (p ∷ ps) x h = subst Pass (sym (worded_first (p ∷ ps) p ps (Some (head x)) refl (ap (worded word all) h.0 ∙ each (head x)))) (pass x ps h.1)

  -- and what is said so is one
  pub begun_once : ((w : W) → worded word all (word w) ≡ Some w) → ((x y : X) (ps : List (List ℕ)) → head x ≡ head y → Says x ps → Says y ps → x ≡ y) → (pieces : List (List ℕ)) (x y : X) → BeginsWithWord word head Says pieces x → BeginsWithWord word head Says pieces y → x ≡ y
  begun_once each once [] x y h k = absurd h
  begun_once each once (p ∷ ps) x y h k =
      let same : Some (head x) ≡ Some (head y) = sym (each (head x)) ∙ ap (worded word all) (sym h.0 ∙ k.0) ∙ each (head y) in
      once x y ps (cc) h.1 k.1

-- a place, and the word of its step
pub place_is : (ps : List (List ℕ)) (n t w : List ℕ) (s : Step) → ps ≡ n ∷ t ∷ w ∷ [] → Some s ≡ worded step_text all_steps w → place_fields ps ≡ Some (field Index n ∷ field Turn t ∷ [])
place_is ps n t w s is found = ap place_fields is ∙ ap (λ (o : Option Step). option_map (λ (r : Step). field Index n ∷ field Turn t ∷ []) o) (sym found)

pub place_says : (ps : List (List ℕ)) (n t w : List ℕ) (p : Place) → ps ≡ n ∷ t ∷ w ∷ [] → Some p.step ≡ worded step_text all_steps w → IsIndex n p.node × IsTurn t p.turn → IsPlace ps p
place_says ps n t w p is found h = subst (λ (l : List (List ℕ)). IsPlace l p) (sym is) (h.0, h.1, worded_is step_text all_steps w p.step (sym found))
