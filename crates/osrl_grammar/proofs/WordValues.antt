-- Values found by their words among all.
use Rattle.osrl_grammar.proofs.Names.{◌≡◌, ◌∙◌, ap, ℕ, Bool, true, false, cond, bytes_eq, Option, None, Some, List, [], ◌∷◌, refl, sym, subst, MatchOption, All, All-head, All-tail, Step, JobStatus, worded, status_text, step_text, all_steps, node_word, all_node_words, round_word, all_round_words, cause_word, all_cause_words}
use Rattle.std.proofs.lemmas.Slice.Eq.{bytes_eq-Decides}
use Rattle.certificate.specs.declared.causes.Step.TheVariants as steps
use Rattle.osrl_writing.specs.declared.report.JobStatus.TheVariants as statuses
use Rattle.osrl_grammar.specs.Words.{all_statuses}
use Rattle.osrl_grammar.specs.declared.parts.NodeWord.{NodeWord}
use Rattle.osrl_grammar.specs.declared.parts.NodeWord.TheVariants as nodes
use Rattle.osrl_grammar.specs.declared.parts.RoundWord.{RoundWord}
use Rattle.osrl_grammar.specs.declared.parts.RoundWord.TheVariants as rounds
use Rattle.osrl_grammar.specs.declared.parts.CauseWord.{CauseWord}
use Rattle.osrl_grammar.specs.declared.parts.CauseWord.TheVariants as causes

-- what a comparison says
pub other_word : (w given literal : List ℕ) (r : Bool) → r ≡ bytes_eq w given → given ≡ literal → r ≡ false → w ≡ literal → ⊥
other_word w given literal r tests is e same =
    let h : r ≡ true = tests ∙ (bytes_eq-Decides w given).1 (same ∙ sym is) in
    let k : true ≡ false = sym h ∙ e in
    cc

-- where no value has the word, none is found
none_worded : {X : Type 0} (text : X → List ℕ) (xs : List X) (w : List ℕ) → All (λ x. w ≡ text x → ⊥) xs → worded text xs w ≡ None
none_worded text [] w h = refl
none_worded {X} text (x ∷ xs) w h = by_word (bytes_eq w (text x)) refl (none_worded text xs w (All-tail (λ (y : X). w ≡ text y → ⊥) x xs h))
  where
    by_word : (b : Bool) → bytes_eq w (text x) ≡ b → worded text xs w ≡ None → cond b (Some x) (worded text xs w) ≡ None
    by_word true e none = absurd (All-head (λ (y : X). w ≡ text y → ⊥) x xs h ((bytes_eq-Decides w (text x)).0 e))
    by_word false e none = none

-- the value that was found is the one of that word, where each value is found by its own
pub is_worded : {X : Type 0} (text : X → List ℕ) (xs : List X) (w : List ℕ) (o : Option X) → ((x : X) → worded text xs (text x) ≡ Some x) → MatchOption o (All (λ x. w ≡ text x → ⊥) xs) (λ x. w ≡ text x) → o ≡ worded text xs w
is_worded text xs w None each h = sym (none_worded text xs w h)
is_worded text xs w (Some x) each h = subst (λ (v : List ℕ). Some x ≡ worded text xs v) (sym h) (sym (each x))

pub each_status : (s : JobStatus) → worded status_text all_statuses (status_text s) ≡ Some s
each_status statuses.Unknown = refl
each_status w = refl

pub each_step : (s : Step) → worded step_text all_steps (step_text s) ≡ Some s
each_step steps.Values = refl
each_step w = refl

pub each_node_word : (w : NodeWord) → worded node_word all_node_words (node_word w) ≡ Some w
each_node_word nodes.Split = refl
each_node_word w = refl

pub each_round_word : (w : RoundWord) → worded round_word all_round_words (round_word w) ≡ Some w
each_round_word rounds.Whole = refl
each_round_word rounds.OfRows = refl

pub each_cause_word : (w : CauseWord) → worded cause_word all_cause_words (cause_word w) ≡ Some w
each_cause_word causes.Killed = refl
each_cause_word w = refl

-- what is found has the word
found_in : {X : Type 0} (text : X → List ℕ) (x : X) (w : List ℕ) (b : Bool) (rest : Option X) (y : X) → bytes_eq w (text x) ≡ b → (rest ≡ Some y → w ≡ text y) → cond b (Some x) rest ≡ Some y → w ≡ text y
found_in text x w true rest y e later h = let same : x ≡ y = cc in (bytes_eq-Decides w (text x)).0 e ∙ ap text same
found_in text x w false rest y e later h = later h

pub worded_is : {X : Type 0} (text : X → List ℕ) (xs : List X) (w : List ℕ) (y : X) → worded text xs w ≡ Some y → w ≡ text y
worded_is text [] w y h = absurd (cc)
worded_is text (x ∷ xs) w y h = found_in text x w (bytes_eq w (text x)) (worded text xs w) y refl (worded_is text xs w y) h

pub one_step : (a b : Step) → step_text a ≡ step_text b → a ≡ b
one_step a b e = let same : Some a ≡ Some b = sym (each_step a) ∙ ap (worded step_text all_steps) e ∙ each_step b in cc
