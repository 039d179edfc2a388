-- Laws of looks that have reasons.
use Rattle.std.specs.Prelude.{◌≡◌, ℕ, ◌+◌, Bool, Option, None, Some, List, [], ◌∷◌, ◌++◌, map, refl}
use Rattle.std.proofs.Common.{◌∙◌, sym, ap, ap₂, add_assoc, add-zero, subst}
use Rattle.std.proofs.Math.Nat.{add_right_comm}
use Rattle.std.proofs.lemmas.List.{map-append}
use Rattle.os_io.specs.Looks.{stops_of}
use Rattle.os_io.specs.Laws.{stops_more}
use Rattle.fraction.specs.declared.frac.Frac.{Frac}
use Rattle.stop_reasons.specs.declared.until.Reason.{Reason}
use Rattle.stop_reasons.specs.declared.until.Reason.TheVariants.{Killed, Time}
use Rattle.stop_reasons.specs.Reasons.{says_stop, says_killed, says_time, CameUntil}

-- no look
pub until_without : (Came : List Bool → Type 0) (limit : Option Frac) (times : ℕ) → Came [] → CameUntil Came limit times times []
until_without Came limit times came = record { told = []; are = refl; came = came; counted = sym (add-zero times); limited = λ _. refl }

-- looks after looks
pub until_then : (first second both : List Bool → Type 0) → ((a b : List Bool) → first a → second b → both (a ++ b))
    → (l m : Option Frac) → m ≡ l → (i j k : ℕ) (a b : List Bool) → CameUntil first l i j a → CameUntil second m j k b → CameUntil both l i k (a ++ b)
until_then first second both joins l m same i j k a b p q = record {
  told = p.told ++ q.told;
  are = ap₂ (λ (x y : List Bool). x ++ y) p.are q.are ∙ sym (map-append says_stop p.told q.told);
  came = subst both (sym (map-append says_killed p.told q.told)) (joins (map says_killed p.told) (map says_killed q.told) p.came q.came);
  counted = q.counted ∙ ap (λ n. n + stops_of (map says_time q.told)) p.counted ∙ add_assoc i (stops_of (map says_time p.told)) (stops_of (map says_time q.told)) ∙ ap (λ n. i + n) (sym (times_more p.told q.told));
  limited = λ none. times_more p.told q.told ∙ ap₂ (λ (x y : ℕ). x + y) (p.limited none) (q.limited (same ∙ none));
}
  where
    times_more : (x y : List (Option Reason)) → stops_of (map says_time (x ++ y)) ≡ stops_of (map says_time x) + stops_of (map says_time y)
    times_more x y = ap stops_of (map-append says_time x y) ∙ stops_more (map says_time x) (map says_time y)

-- each stop has its reason
pub stops_by : (told : List (Option Reason)) → stops_of (map says_stop told) ≡ stops_of (map says_killed told) + stops_of (map says_time told)
stops_by [] = refl
stops_by (None ∷ told) = stops_by told
stops_by (Some Killed ∷ told) = ap (λ n. n + 1) (stops_by told) ∙ add_right_comm (stops_of (map says_killed told)) (stops_of (map says_time told)) 1
stops_by (Some Time ∷ told) = ap (λ n. n + 1) (stops_by told) ∙ add_assoc (stops_of (map says_killed told)) (stops_of (map says_time told)) 1

-- the stops of both are counted
pub until_counts : (Came : List Bool → Type 0) (old new : ℕ) → ((inside : List Bool) → Came inside → new ≡ old + stops_of inside)
    → (limit : Option Frac) (before after : ℕ) (answers : List Bool) → CameUntil Came limit before after answers → new + after ≡ (old + before) + stops_of answers
until_counts Came old new counts limit before after answers p =
    ap₂ (λ (x y : ℕ). x + y) (counts (map says_killed p.told) p.came) p.counted
    ∙ four old (stops_of (map says_killed p.told)) before (stops_of (map says_time p.told))
    ∙ ap (λ n. (old + before) + n) (sym (stops_by p.told) ∙ sym (ap stops_of p.are))
  where
    four : (a b c d : ℕ) → (a + b) + (c + d) ≡ (a + c) + (b + d)
    four a b c d = sym (add_assoc (a + b) c d) ∙ ap (λ n. n + d) (add_right_comm a b c) ∙ add_assoc (a + c) b d
