-- What is left after a turn.
use Rattle.std.proofs.Common.{◌≡◌, ℕ, ◌+◌, ◌<◌, Bool, true, false, Some, List, [], ◌∷◌, length, inl, inr, refl, sym, ◌∙◌, ap, subst, arith, length-set}
use Rattle.std.specs.Prelude.{slice_set}
use Rattle.std.proofs.lemmas.List.{get_or-set_same, get_or-set_other}
use Rattle.evidence.proofs.Columns.{by_eq}
use Rattle.bases.specs.Pivot.{exchanged}
use Rattle.bases.proofs.Pivots.{exchanged_own, exchanged_left, exchanged_other}
use Rattle.simplex_rules.specs.declared.columns.Status.{Status}
use Rattle.simplex_rules.specs.declared.columns.Status.TheVariants.{Basic}
use Rattle.simplex_rules.specs.Statuses.{is_basic, status_at}
use Rattle.simplex_rules.specs.Turns.{pivoted}
use Rattle.simplex_rules.specs.Ends.{Terms, Clock, Stopped}
use Rattle.simplex_rules.specs.Runs.{To, Out, PassesTurn, is_checked}
use Rattle.simplex_rules.specs.Looks.{answers, IsAfter, AgreesWith, looks_after}
use Rattle.dictionary.specs.declared.dict.Dict.{Dict}
use Rattle.simplex.specs.declared.choosing.Swap.{Swap}
use Rattle.dictionary.specs.Dict.{columns_of, basic_of, entry_of, HaveOneSize}
use Rattle.simplex.specs.Tables.{AreStatuses}
use Rattle.simplex.specs.Choices.{IsSwap}
use Rattle.simplex.specs.Finishes.{after_turn}

-- a look after a turn
pub looked_at : (answer : Bool) (Came : List Bool → Type 0) → Came (answer ∷ []) → (turns : ℕ) → is_checked turns → (n : ℕ) × Came (answers n answer) × ((t : Terms) (looks : ℕ) (ss : List Status) → AgreesWith t.stop looks n answer → PassesTurn t (record { turns = turns; looks = looks }) ss (after_turn answer ss (record { turns = turns; looks = looks_after looks n answer })))
looked_at true Came came turns h = (
  0,
  came,
  (λ t looks ss e.
      let k : looks + 0 + 1 ≡ looks + 1 = omega arith in
      inr (inl (h, e ∙ ap Some k, ap (λ l. Out Stopped (record { turns = turns; looks = l })) k))),
)
looked_at false Came came turns h = (
  1,
  came,
  (λ t looks ss a. inr (inr (h, (λ e. let l : looks + 1 < looks + 1 = subst (λ s. IsAfter (looks + 1) s) e a in omega arith), refl))),
)

-- the same statuses by another name
pub passes_to : (t : Terms) (c d : Clock) (ss zs : List Status) → zs ≡ ss → PassesTurn t c ss (To (record { statuses = ss; clock = d })) → PassesTurn t c ss (To (record { statuses = zs; clock = d }))
passes_to t c d ss zs e p = subst (λ (z : List Status). PassesTurn t c ss (To (record { statuses = z; clock = d }))) (sym e) p

module _ {L : _} {G : _} (d e : Dict L G) (ss : List Status) (s : AreStatuses d ss) where
  -- the statuses after a swap are those of the dictionary after its pivot
  pub swapped_statuses : (w : Swap) → IsSwap ss (entry_of d) w → HaveOneSize d e → ((c : ℕ) → basic_of e c ≡ exchanged (basic_of d) w.basic w.nonbasic c) → AreStatuses e (pivoted ss w.basic w.nonbasic w.status)
  swapped_statuses w is size basis = record {
    count = length-set (slice_set ss w.basic w.status) w.nonbasic Basic ∙ length-set ss w.basic w.status ∙ (let n = s.count in let x = size.width in let y = size.height in omega arith);
    basic = λ c h.
        let i : c < columns_of d = let x = size.width in let y = size.height in omega arith in
        by_eq c w.nonbasic
        (λ f.
        let len : w.nonbasic < length (slice_set ss w.basic w.status) = let n = is.nonbasic_inside in omega (arith, length-set ss w.basic w.status) in
        ap (λ k. is_basic (status_at (pivoted ss w.basic w.nonbasic w.status) k)) f ∙ ap is_basic (get_or-set_same (slice_set ss w.basic w.status) w.nonbasic Basic Basic len)
        ∙ sym (basis c ∙ exchanged_own (basic_of d) w.basic w.nonbasic c f))
        (λ n. by_eq c w.basic
        (λ f.
        ap is_basic (get_or-set_other (slice_set ss w.basic w.status) w.nonbasic c Basic Basic n ∙ ap (status_at (slice_set ss w.basic w.status)) f ∙ get_or-set_same ss w.basic w.status Basic is.basic_inside) ∙ is.status
        ∙ sym (basis c ∙ exchanged_left (basic_of d) w.basic w.nonbasic c n f))
        (λ b.
        ap is_basic (get_or-set_other (slice_set ss w.basic w.status) w.nonbasic c Basic Basic n ∙ get_or-set_other ss w.basic c w.status Basic b) ∙ s.basic c i
        ∙ sym (basis c ∙ exchanged_other (basic_of d) w.basic w.nonbasic c n b)));
  }
