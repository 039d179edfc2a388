-- The set of basic columns.
use Rattle.std.proofs.Common.{◌≡◌, ℕ, ◌+◌, ◌<◌, ◌≤◌, true, false, cond, nat_lt, arith, sym, ◌∙◌, ap}
use Rattle.evidence.proofs.Columns.{by_eq, by_lt}
use Rattle.marks.specs.declared.marks.Marks.{Marks}
use Rattle.marks.specs.Marks.{is_marked}
use Rattle.dictionary.specs.declared.dict.Dict.{Dict}
use Rattle.dictionary.specs.Basis.{AreMarked, ChangePlaces, basic_by}
use Rattle.dictionary.specs.Dict.{width_of, height_of, basic_of, IsLoaded, IsBasic, IsNonbasic}
use Rattle.dictionary.proofs.Exchanges.{basic_below, basic_from, place_basic, place_nonbasic}
use Rattle.dictionary.proofs.DictParts.{place}

-- each column stands at the place of its number, and those from n on are marked
pub rows_marked : (k n : ℕ) (at : ℕ → ℕ) (m : Marks) → ((c : ℕ) → c < k → at c ≡ c) → ((c : ℕ) → c < n → is_marked m c ≡ false) → ((c : ℕ) → n ≤ c → c < k → is_marked m c ≡ true) → ((c : ℕ) → k ≤ c → is_marked m c ≡ false) → AreMarked k n at m
rows_marked k n at m same below rows past = record {
  own = λ c h.
      let e = same c h in
      by_lt c n (λ l. below c l ∙ sym (basic_below n at c (omega arith))) (λ l. rows c l h ∙ sym (basic_from n at c (omega arith)));
  past = past;
}

pub never : {P : Type 0} → false ≡ true → P
never e = absurd (cc)

pub loaded_marked : {L : _} {G : _} (d : Dict L G) → IsLoaded d → AreMarked (d.width + d.height) d.width (place d) d.basic
unfolding IsLoaded
loaded_marked d h = d.marks_are h.0

pub marked_inside : {L : _} {G : _} (d : Dict L G) → IsLoaded d → (c : ℕ) → is_marked d.basic c ≡ true → c < width_of d + height_of d
unfolding width_of height_of
marked_inside d h c t =
    let m = loaded_marked d h in
    by_lt c (d.width + d.height) (λ l. l) (λ l. never (sym (m.past c l) ∙ t))

pub marked_basic : {L : _} {G : _} (d : Dict L G) → IsLoaded d → (c : ℕ) → c < width_of d + height_of d → is_marked d.basic c ≡ basic_of d c
unfolding width_of height_of basic_of
marked_basic d h c l = let m = loaded_marked d h in m.own c l

-- a basic column was taken out, and one that wasn't basic taken in
module _ {L : _} {G : _} (d : Dict L G) (b e : ℕ) (basic : IsBasic d b) (nonbasic : IsNonbasic d e) (loaded : IsLoaded d) where
  pub b_within : b < d.width + d.height
  unfolding width_of height_of
  b_within = basic.inside

  pub e_within : e < d.width + d.height
  unfolding width_of height_of
  e_within = nonbasic.inside

  b_from : d.width ≤ place d b
  unfolding basic_of
  b_from = place_basic d.width (place d) b basic.is

  e_below : place d e < d.width
  unfolding basic_of
  e_below = place_nonbasic d.width (place d) e nonbasic.is

  pub marked_after : (new : ℕ → ℕ) (less more : Marks) → ChangePlaces b e (place d) new → is_marked less b ≡ false → ((c : ℕ) → (c ≡ b → ⊥) → is_marked less c ≡ is_marked d.basic c) → is_marked more e ≡ true → ((c : ℕ) → (c ≡ e → ⊥) → is_marked more c ≡ is_marked less c) → AreMarked (d.width + d.height) d.width new more
  marked_after new less more placed left kept came stayed = record {
    own = λ c h. by_eq c e
        (λ i. ap (is_marked more) i ∙ came ∙ sym (ap (basic_by d.width new) i ∙ basic_from d.width new e (let f = placed.second in let g = b_from in omega arith)))
        (λ i. stayed c i ∙ by_eq c b
        (λ j. ap (is_marked less) j ∙ left ∙ sym (ap (basic_by d.width new) j ∙ basic_below d.width new b (let f = placed.first in let g = e_below in omega arith)))
        (λ j. kept c j ∙ was.own c h ∙ ap (λ k. cond (nat_lt k d.width) false true) (sym (placed.other c j i))));
    past = λ c h. stayed c (λ i. let l = e_within in absurd (omega arith)) ∙ kept c (λ i. let l = b_within in absurd (omega arith)) ∙ was.past c h;
  }
    where
      was : AreMarked (d.width + d.height) d.width (place d) d.basic
      was = loaded_marked d loaded
