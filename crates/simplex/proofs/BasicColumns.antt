-- The set of basic columns, as the statuses tell it.
use Rattle.std.proofs.Common.{◌≡◌, ℕ, ◌+◌, ◌<◌, ◌≤◌, true, false, nat_eq, Option, None, Some, MatchOption, List, length, refl, sym, ◌∙◌, ap, arith}
use Rattle.std.proofs.lemmas.Bool.{ne_eqb}
use Rattle.evidence.proofs.Columns.{by_eq}
use Rattle.rational.specs.Ratio.{Ratio}
use Rattle.evidence.specs.Instance.{Range}
use Rattle.marks.specs.declared.marks.Marks.{Marks}
use Rattle.marks.specs.Words.{IsFirst, HasNone}
use Rattle.marks.specs.Marks.{is_marked}
use Rattle.simplex_rules.specs.declared.columns.Status.{Status}
use Rattle.simplex_rules.specs.Statuses.{basic_in}
use Rattle.simplex_rules.specs.Turns.{limit_one}
use Rattle.simplex_rules.specs.Widths.{OneFits}
use Rattle.dictionary.specs.declared.dict.Dict.{Dict}
use Rattle.dictionary.specs.Dict.{width_of, height_of, basic_of}
use Rattle.simplex.specs.Tables.{AreStatuses}
use Rattle.simplex.specs.Limits.{IsStill, IsNextLimited}

abbrev pub IsBasicSet : {L : _} {G : _} → Dict L G → Marks → Type 0
IsBasicSet d m = (c : ℕ) → c < width_of d + height_of d → is_marked m c ≡ basic_of d c

module _ {L : _} {G : _} (d : Dict L G) (ss : List Status) (s : AreStatuses d ss) where
  pub told_basic : (c : ℕ) → c < length ss → basic_in ss c ≡ basic_of d c
  told_basic c h = s.basic c (let n = s.count in omega arith)

  module _ (m : Marks) (is : IsBasicSet d m) (c : ℕ) (h : c < length ss) where
    pub marked_status : is_marked m c ≡ basic_in ss c
    marked_status = is c (let n = s.count in omega arith) ∙ sym (told_basic c h)

    -- a basic column isn't left out
    pub not_left : basic_in ss c ≡ true → is_marked m c ≡ false → ⊥
    not_left b n = let e : true ≡ false = sym b ∙ sym marked_status ∙ n in cc

  -- a column that is still
  module _ (m k : ℕ) (h : k < length ss) (t : IsStill d m k) (r : Range) (x by : Ratio) where
    pub still_none : limit_one (basic_in ss k) (nat_eq k m) r x by ≡ None
    still_none = let b : basic_in ss k ≡ false = told_basic k h ∙ t.basic in rw (b, t.apart) refl

    pub still_fits : OneFits (basic_in ss k) (nat_eq k m) r x by
    still_fits = let b : basic_in ss k ≡ false = told_basic k h ∙ t.basic in rw (b, t.apart) tt

-- one column more is taken in
pub mark_less : (old new : Marks) (c : ℕ) → (is_marked new c ≡ false → is_marked old c ≡ false) → ((j : ℕ) → (j ≡ c → ⊥) → is_marked new j ≡ is_marked old j) → (j : ℕ) → is_marked new j ≡ false → is_marked old j ≡ false
mark_less old new c own others j t = by_eq j c (λ e. ap (is_marked old) e ∙ own (ap (is_marked new) (sym e) ∙ t)) (λ n. sym (others j n) ∙ t)

-- the next basic column, and the moving one
module _ {L : _} {G : _} (d : Dict L G) (m : Marks) (is : IsBasicSet d m) (col from : ℕ) where
  still : (k : ℕ) → k < width_of d + height_of d → is_marked m k ≡ false → (k ≡ col → ⊥) → IsStill d col k
  still k h n apart = record { basic = sym (is k h) ∙ n; apart = ne_eqb k col apart }

  pub limited_after : (o : Option ℕ) → ((c : ℕ) → is_marked m c ≡ true → c < width_of d + height_of d) → col < from → MatchOption o (HasNone (is_marked m) from) (IsFirst (is_marked m) from) → MatchOption o ((k : ℕ) → from ≤ k → k < width_of d + height_of d → IsStill d col k) (IsNextLimited d col from)
  limited_after None inside past none = λ k a h. still k h (none k a) (λ e. omega arith)
  limited_after (Some c) inside past first = record {
    later = first.later;
    inside = inside c first.is;
    before = λ k a b. still k (let h = inside c first.is in omega arith) (first.first k a b) (λ e. omega arith);
  }

  -- the moving column comes first, before basic ones
  pub limited_own : col < width_of d + height_of d → from ≤ col → ((k : ℕ) → from ≤ k → k < col → is_marked m k ≡ false) → IsNextLimited d col from col
  limited_own inside later none = record { later = later; inside = inside; before = λ k a b. still k (omega arith) (none k a b) (λ e. omega arith) }

  pub limited_first : (c : ℕ) → c < width_of d + height_of d → c < col → IsFirst (is_marked m) from c → IsNextLimited d col from c
  limited_first c inside less first = record { later = first.later; inside = inside; before = λ k a b. still k (omega arith) (first.first k a b) (λ e. omega arith) }
