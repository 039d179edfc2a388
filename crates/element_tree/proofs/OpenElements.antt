-- How a builder follows the open elements, told one event after another.
use Rattle.std.proofs.Common.{◌≡◌, ◌≢◌, ℕ, ◌+◌, ◌-◌, ◌<◌, Bool, true, false, List, [], ◌∷◌, ◌++◌, length, get_or, map, take, refl, ap, arith, ◌∙◌, sym, subst}
use Rattle.std.proofs.lemmas.List.{length-append, length-map, length-reverse}
use Rattle.std.proofs.lemmas.List.Elements.{All-append, All-take}
use Rattle.std.proofs.Math.Seq.{take-append_seam, get_or-append_seam}
use Rattle.std.specs.Prelude.{All, MatchBool}
use Rattle.std.specs.Bool.{Decides}
use Rattle.element_tree.specs.Building.{with_run}
use Rattle.tree_grammar.specs.Elements.{Attribute, Event, Open, Chars, Close, events}
use Rattle.element_tree.specs.Items.{event_at}
use Rattle.element_tree.specs.Nesting.{IsOneElement, LeadsEvents, BeginsElement, begun_name, names_at, IsTracked, IsInnermost}
use Rattle.element_tree.proofs.Spans.{All-one}
use Rattle.element_tree.proofs.Nestings.{names_kept, placed_on, names_one_more, within_on, never_mended, nothing_follows, no_other_begins, other_name, begins_element, element_begins_so, begins_one, begins_split}

-- as many names as indices
pub no_names : (told : List Event) (indices : List ℕ) → names_at told indices ≡ [] → indices ≡ []
no_names told [] e = refl
no_names told (i ∷ is) e =
    let f : ℕ → List ℕ = λ j. begun_name (event_at told j) in
    let n : 0 ≡ length (names_at told (i ∷ is)) = sym (ap length e) in
    let m : length (names_at told (i ∷ is)) ≡ length (map f (i ∷ is)) = length-reverse (map f (i ∷ is)) in
    let l : length (map f (i ∷ is)) ≡ length (i ∷ is) = length-map (i ∷ is) f in
    absurd (omega arith)

pub begins_open : (told : List Event) (name : List ℕ) (attributes : List Attribute) (names : List (List ℕ)) → (names ≡ [] → told ≡ []) → BeginsElement told names → BeginsElement (told ++ Open name attributes ∷ []) (name ∷ names)
begins_open [] name attributes names f h = ap (λ z. name ∷ z) (sym h)
begins_open (y ∷ ys) name attributes [] f h = absurd (let e : (y ∷ ys) ≡ [] = f refl in cc)
begins_open (y ∷ ys) name attributes (m ∷ ms) f h = within_on (y ∷ ys) (Open name attributes) m ms (name ∷ m ∷ ms) h refl

pub begins_chars : (told : List Event) (text : List ℕ) (names : List (List ℕ)) → names ≢ [] → BeginsElement told names → BeginsElement (told ++ Chars text ∷ []) names
begins_chars told text [] f h = absurd (f refl)
begins_chars told text (m ∷ ms) f h = within_on told (Chars text) m ms (m ∷ ms) h refl

pub begins_close : (told : List Event) (name n : List ℕ) (names : List (List ℕ)) → name ≡ n → BeginsElement told (n ∷ names) → BeginsElement (told ++ Close name ∷ []) names
begins_close told name n names e h = within_on told (Close name) n names names h (e, refl)

-- an element begins
pub tracked_open : (told : List Event) (indices : List ℕ) (sound : Bool) (name : List ℕ) (attributes : List Attribute) → (indices ≡ [] → told ≡ []) → IsTracked told indices sound → IsTracked (told ++ Open name attributes ∷ []) (indices ++ length told ∷ []) sound
tracked_open told indices true name attributes f t =
    let whole : List Event = told ++ Open name attributes ∷ [] in
    let first : begun_name (event_at whole (length told)) ≡ name = ap begun_name (get_or-append_seam told (Open name attributes) [] (Close [])) in
    let names : names_at whole (indices ++ length told ∷ []) ≡ name ∷ names_at told indices = names_one_more whole indices (length told) ∙ (ap (λ z. z ∷ names_at whole indices) first ∙ ap (λ z. name ∷ z) (names_kept told (Open name attributes ∷ []) indices t.placed)) in
    record {
      placed = All-append (λ i. i < length whole) indices (length told ∷ []) (placed_on told (Open name attributes ∷ []) indices t.placed) (All-one (λ i. i < length whole) (length told) (simp length-append (omega arith)));
      right = subst (BeginsElement whole) (sym names) (begins_open told name attributes (names_at told indices) (λ e. f (no_names told indices e)) t.right);
    }
tracked_open told indices false name attributes f t =
    let whole : List Event = told ++ Open name attributes ∷ [] in
    record {
      placed = All-append (λ i. i < length whole) indices (length told ∷ []) (placed_on told (Open name attributes ∷ []) indices t.placed) (All-one (λ i. i < length whole) (length told) (simp length-append (omega arith)));
      right = never_mended told (Open name attributes ∷ []) t.right;
    }

-- nothing may follow the root
pub never_second : (told : List Event) (x : Event) (indices : List ℕ) (sound : Bool) → indices ≡ [] → (told ≡ [] → ⊥) → IsTracked told indices sound → (after : List (List ℕ)) → BeginsElement (told ++ x ∷ []) after → ⊥
never_second [] x indices sound e f t after b = f refl
never_second (y ∷ ys) x indices true e f t after b = nothing_follows y ys x (subst (λ z. BeginsElement (y ∷ ys) (names_at (y ∷ ys) z)) e t.right) after b
never_second (y ∷ ys) x indices false e f t after b = never_mended (y ∷ ys) (x ∷ []) t.right after b

pub tracked_second : (told : List Event) (indices : List ℕ) (sound : Bool) (name : List ℕ) (attributes : List Attribute) → indices ≡ [] → (told ≡ [] → ⊥) → IsTracked told indices sound → IsTracked (told ++ Open name attributes ∷ []) (indices ++ length told ∷ []) false
tracked_second told indices sound name attributes e f t =
    let whole : List Event = told ++ Open name attributes ∷ [] in
    record {
      placed = All-append (λ i. i < length whole) indices (length told ∷ []) (placed_on told (Open name attributes ∷ []) indices t.placed) (All-one (λ i. i < length whole) (length told) (simp length-append (omega arith)));
      right = never_second told (Open name attributes) indices sound e f t;
    }

-- characters within an element
pub tracked_chars : (told : List Event) (indices : List ℕ) (sound : Bool) (text : List ℕ) → (indices ≡ [] → ⊥) → IsTracked told indices sound → IsTracked (told ++ Chars text ∷ []) indices sound
tracked_chars told indices true text f t = record {
  placed = placed_on told (Chars text ∷ []) indices t.placed;
  right = subst (BeginsElement (told ++ Chars text ∷ [])) (sym (names_kept told (Chars text ∷ []) indices t.placed)) (begins_chars told text (names_at told indices) (λ e. f (no_names told indices e)) t.right);
}
tracked_chars told indices false text f t = record {
  placed = placed_on told (Chars text ∷ []) indices t.placed;
  right = never_mended told (Chars text ∷ []) t.right;
}

-- what can't come with no element open
pub never_outside : (told : List Event) (x : Event) (indices : List ℕ) (sound : Bool) → ((name : List ℕ) (attributes : List Attribute) → x ≡ Open name attributes → ⊥) → indices ≡ [] → IsTracked told indices sound → (after : List (List ℕ)) → BeginsElement (told ++ x ∷ []) after → ⊥
never_outside told x indices true other e t after b = no_other_begins told x (subst (λ z. BeginsElement told (names_at told z)) e t.right) other after b
never_outside told x indices false other e t after b = never_mended told (x ∷ []) t.right after b

pub tracked_outside : (told : List Event) (indices : List ℕ) (sound : Bool) (text : List ℕ) → indices ≡ [] → IsTracked told indices sound → IsTracked (told ++ Chars text ∷ []) indices false
tracked_outside told indices sound text e t = record {
  placed = placed_on told (Chars text ∷ []) indices t.placed;
  right = never_outside told (Chars text) indices sound (λ n as' h. cc) e t;
}

-- what is open but for the innermost
pub outer_placed : (told : List Event) (indices : List ℕ) (name : List ℕ) (i : IsInnermost told indices name) → All (λ k. k < length told) indices → All (λ k. k < length told) i.outer
outer_placed told indices name i placed =
    let P : ℕ → Type 0 = λ k. k < length told in
    subst (All P) (ap (take (length i.outer)) i.split ∙ take-append_seam i.outer (i.index ∷ [])) (All-take P (length i.outer) indices placed)

pub close_right : (told : List Event) (indices outer : List ℕ) (name : List ℕ) (sound : Bool) → names_at told indices ≡ name ∷ names_at told outer → names_at (told ++ Close name ∷ []) outer ≡ names_at told outer → MatchBool sound (BeginsElement told (names_at told indices)) ((after : List (List ℕ)) → BeginsElement told after → ⊥) → MatchBool sound (BeginsElement (told ++ Close name ∷ []) (names_at (told ++ Close name ∷ []) outer)) ((after : List (List ℕ)) → BeginsElement (told ++ Close name ∷ []) after → ⊥)
close_right told indices outer name true e kept r = subst (BeginsElement (told ++ Close name ∷ [])) (sym kept) (begins_close told name name (names_at told outer) refl (subst (BeginsElement told) e r))
close_right told indices outer name false e kept r = never_mended told (Close name ∷ []) r

-- the innermost element ends
pub tracked_close : (told : List Event) (indices indices' : List ℕ) (sound : Bool) (name : List ℕ) → IsInnermost told indices name → indices' ≡ take (length indices - 1) indices → IsTracked told indices sound → IsTracked (told ++ Close name ∷ []) indices' sound
tracked_close told indices indices' sound name i e t =
    let whole : List Event = told ++ Close name ∷ [] in
    let outer = outer_placed told indices name i t.placed in
    let names : names_at told indices ≡ name ∷ names_at told i.outer = ap (names_at told) i.split ∙ (names_one_more told i.outer i.index ∙ ap (λ z. z ∷ names_at told i.outer) i.named) in
    let count : length indices - 1 ≡ length i.outer = (let l : length indices ≡ length i.outer + 1 = ap length i.split ∙ length-append i.outer (i.index ∷ []) in omega arith) in
    let left : indices' ≡ i.outer = e ∙ (ap (λ n. take n indices) count ∙ (ap (take (length i.outer)) i.split ∙ take-append_seam i.outer (i.index ∷ []))) in
    subst (λ z. IsTracked whole z sound) (sym left) (record {
      placed = placed_on told (Close name ∷ []) i.outer outer;
      right = close_right told indices i.outer name sound names (names_kept told (Close name ∷ []) i.outer outer) t.right;
    })

-- a list with its last element apart
pub record Snoc (xs : List ℕ) : Type 0 where
  pub outer : List ℕ
  pub index : ℕ
  pub split : xs ≡ outer ++ index ∷ []

pub last_apart : (x : ℕ) (xs : List ℕ) → Snoc (x ∷ xs)
last_apart x [] = record { outer = []; index = x; split = refl }
last_apart x (y ∷ ys) = let r = last_apart y ys in record { outer = x ∷ r.outer; index = r.index; split = ap (λ z. x ∷ z) r.split }

pub never_wrong : (told : List Event) (indices : List ℕ) (sound : Bool) (name : List ℕ) → (IsInnermost told indices name → ⊥) → IsTracked told indices sound → (after : List (List ℕ)) → BeginsElement (told ++ Close name ∷ []) after → ⊥
never_wrong told indices false name f t after b = never_mended told (Close name ∷ []) t.right after b
never_wrong told [] true name f t after b = never_outside told (Close name) [] true (λ n as' h. cc) refl t after b
never_wrong told (i ∷ is) true name f t after b =
    let s = last_apart i is in
    let names : names_at told (i ∷ is) ≡ begun_name (event_at told s.index) ∷ names_at told s.outer = ap (names_at told) s.split ∙ names_one_more told s.outer s.index in
    other_name told name (begun_name (event_at told s.index)) (names_at told s.outer) (subst (BeginsElement told) names t.right) (λ e. f (record { outer = s.outer; index = s.index; split = s.split; named = sym e })) after b

-- no open element has this name
pub tracked_wrong : (told : List Event) (indices : List ℕ) (sound : Bool) (name : List ℕ) → (IsInnermost told indices name → ⊥) → IsTracked told indices sound → IsTracked (told ++ Close name ∷ []) indices false
tracked_wrong told indices sound name f t = record {
  placed = placed_on told (Close name ∷ []) indices t.placed;
  right = never_wrong told indices sound name f t;
}

-- A builder with nothing open has been told one element, or nothing.
pub tracked_whole : (told : List Event) (indices : List ℕ) → indices ≡ [] → (told ≡ [] → ⊥) → IsTracked told indices true → IsOneElement told
tracked_whole [] indices e f t = absurd (f refl)
tracked_whole (x ∷ xs) indices e f t = begins_element x xs (subst (λ z. BeginsElement (x ∷ xs) (names_at (x ∷ xs) z)) e t.right)

-- A builder told one element has nothing open.
pub whole_closed : (told : List Event) (indices : List ℕ) → IsOneElement told → IsTracked told indices true → indices ≡ []
whole_closed told indices o t = no_names told indices (begins_one told (names_at told indices) [] t.right (element_begins_so told o))

pub whole_sound : (told : List Event) (indices : List ℕ) → IsOneElement told → IsTracked told indices false → ⊥
whole_sound told indices o t = t.right [] (element_begins_so told o)

-- the tests' answers
pub of_true : (P Q : Type 0) (r : Bool) → r ≡ true → MatchBool r P Q → P
of_true P Q r e m = let R : Bool → Type 0 = λ z. MatchBool z P Q in subst R e m

pub of_false : (P Q : Type 0) (r : Bool) → r ≡ false → MatchBool r P Q → Q
of_false P Q r e m = let R : Bool → Type 0 = λ z. MatchBool z P Q in subst R e m

pub no_length : (told : List Event) → length told ≡ 0 → told ≡ []
no_length [] e = refl
no_length (x ∷ xs) e = absurd (omega arith)

-- the run of characters ends
pub run_inside : (told told' : List Event) (text : List ℕ) (indices : List ℕ) (sound : Bool) → told' ≡ with_run told text → (text ≡ [] → ⊥) → (indices ≡ [] → ⊥) → IsTracked told indices sound → IsTracked told' indices sound
run_inside told told' [] indices sound e some f t = absurd (some refl)
run_inside told told' (c ∷ cs) indices sound e some f t = subst (λ z. IsTracked z indices sound) (sym e) (tracked_chars told indices sound (c ∷ cs) f t)

pub run_outside : (told told' : List Event) (text : List ℕ) (indices : List ℕ) (sound : Bool) → told' ≡ with_run told text → (text ≡ [] → ⊥) → indices ≡ [] → IsTracked told indices sound → IsTracked told' indices false
run_outside told told' [] indices sound e some f t = absurd (some refl)
run_outside told told' (c ∷ cs) indices sound e some f t = subst (λ z. IsTracked z indices false) (sym e) (tracked_outside told indices sound (c ∷ cs) f t)

-- an element begins, as the root or within another
pub begun_well : (told told' : List Event) (indices indices' : List ℕ) (at : ℕ) (sound : Bool) (name : List ℕ) (attributes : List Attribute) → told' ≡ told ++ Open name attributes ∷ [] → indices' ≡ indices ++ at ∷ [] → at ≡ length told → (indices ≡ [] → at ≡ 0) → IsTracked told indices sound → IsTracked told' indices' sound
begun_well told told' indices indices' at sound name attributes e i a f t =
    let place : indices' ≡ indices ++ length told ∷ [] = i ∙ ap (λ z. indices ++ z ∷ []) a in
    let P : List Event → List ℕ → Type 0 = λ x y. IsTracked x y sound in
    subst (P told') (sym place) (subst (λ z. P z (indices ++ length told ∷ [])) (sym e) (tracked_open told indices sound name attributes (λ h. no_length told (sym a ∙ f h)) t))

pub begun_second : (told told' : List Event) (indices indices' : List ℕ) (at : ℕ) (sound : Bool) (name : List ℕ) (attributes : List Attribute) → told' ≡ told ++ Open name attributes ∷ [] → indices' ≡ indices ++ at ∷ [] → at ≡ length told → (indices ≡ []) × (at ≡ 0 → ⊥) → IsTracked told indices sound → IsTracked told' indices' false
begun_second told told' indices indices' at sound name attributes e i a f t =
    let place : indices' ≡ indices ++ length told ∷ [] = i ∙ ap (λ z. indices ++ z ∷ []) a in
    let P : List Event → List ℕ → Type 0 = λ x y. IsTracked x y false in
    subst (P told') (sym place) (subst (λ z. P z (indices ++ length told ∷ [])) (sym e) (tracked_second told indices sound name attributes f.0 (λ h. f.1 (a ∙ ap length h)) t))

pub ended_well : (told told' : List Event) (indices indices' : List ℕ) (sound : Bool) (name : List ℕ) → told' ≡ told ++ Close name ∷ [] → IsInnermost told indices name → indices' ≡ take (length indices - 1) indices → IsTracked told indices sound → IsTracked told' indices' sound
ended_well told told' indices indices' sound name e i p t = subst (λ z. IsTracked z indices' sound) (sym e) (tracked_close told indices indices' sound name i p t)

pub ended_wrong : (told told' : List Event) (indices : List ℕ) (sound : Bool) (name : List ℕ) → told' ≡ told ++ Close name ∷ [] → (IsInnermost told indices name → ⊥) → IsTracked told indices sound → IsTracked told' indices false
ended_wrong told told' indices sound name e f t = subst (λ z. IsTracked z indices false) (sym e) (tracked_wrong told indices sound name f t)

-- An element's events don't end with characters.
pub no_run_last : (told : List Event) (text : List ℕ) → BeginsElement (told ++ Chars text ∷ []) [] → ⊥
no_run_last [] text b = b
no_run_last (x ∷ xs) text b =
    let s = begins_split x xs (Chars text ∷ []) [] b in
    none_between s.between s.after
  where
    none_between : (between : List (List ℕ)) → LeadsEvents (Chars text ∷ []) between [] → ⊥
    none_between [] l = l
    none_between (m ∷ ms) l = let e : (m ∷ ms) ≡ [] = l in cc

pub never_unsound : (told : List Event) (text : List ℕ) (indices : List ℕ) → IsTracked told indices false → IsOneElement (with_run told text) → ⊥
never_unsound told [] indices t o = whole_sound told indices o t
never_unsound told (c ∷ cs) indices t o = never_mended told (Chars (c ∷ cs) ∷ []) t.right [] (element_begins_so (told ++ Chars (c ∷ cs) ∷ []) o)

pub never_open : (told : List Event) (text : List ℕ) (indices : List ℕ) → (indices ≡ [] → ⊥) → IsTracked told indices true → IsOneElement (with_run told text) → ⊥
never_open told [] indices f t o = f (whole_closed told indices o t)
never_open told (c ∷ cs) indices f t o = no_run_last told (c ∷ cs) (element_begins_so (told ++ Chars (c ∷ cs) ∷ []) o)

pub never_running : (told : List Event) (text : List ℕ) → (text ≡ [] → ⊥) → IsOneElement (with_run told text) → ⊥
never_running told [] f o = f refl
never_running told (c ∷ cs) f o = no_run_last told (c ∷ cs) (element_begins_so (told ++ Chars (c ∷ cs) ∷ []) o)

-- both answers of a test, put another way
pub match_map : (P Q P' Q' : Type 0) (r : Bool) → (P → P') → (Q → Q') → MatchBool r P Q → MatchBool r P' Q'
match_map P Q P' Q' true f g m = f m
match_map P Q P' Q' false f g m = g m

-- The last index is of the innermost element.
pub innermost_is : (told : List Event) (indices : List ℕ) (name : List ℕ) (i : ℕ) (same : Bool) → (indices ≡ [] → ⊥) → i ≡ get_or indices (length indices - 1) 0 → Decides same (begun_name (event_at told i) ≡ name) → MatchBool same (IsInnermost told indices name) (IsInnermost told indices name → ⊥)
innermost_is told [] name i same f g d = absurd (f refl)
innermost_is told (x ∷ xs) name i same f g d =
    let s = last_apart x xs in
    let at : (outer : List ℕ) (index : ℕ) → (x ∷ xs) ≡ outer ++ index ∷ [] → i ≡ index = λ outer index e.
    (let count : length (x ∷ xs) - 1 ≡ length outer = (let l : length (x ∷ xs) ≡ length outer + 1 = ap length e ∙ length-append outer (index ∷ []) in omega arith) in
    g ∙ (ap (λ n. get_or (x ∷ xs) n 0) count ∙ (ap (λ z. get_or z (length outer) 0) e ∙ get_or-append_seam outer index [] 0))) in
    elim same as (λ b. Decides b (begun_name (event_at told i) ≡ name) → MatchBool b (IsInnermost told (x ∷ xs) name) (IsInnermost told (x ∷ xs) name → ⊥)) [
      | true ↦ λ d. record { outer = s.outer; index = s.index; split = s.split; named = ap (λ n. begun_name (event_at told n)) (sym (at s.outer s.index s.split)) ∙ d.0 refl }
      | false ↦ λ d n. (let e : false ≡ true = d.1 (ap (λ n. begun_name (event_at told n)) (at n.outer n.index n.split) ∙ n.named) in cc)
    ] d
