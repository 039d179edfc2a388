-- The bytes that a head takes of those that come: a whole head, or as many as a head may have. Bytes begin with one at most.
use Rattle.std.proofs.Common.{◌≡◌, ℕ, ◌≤◌, ◌⊎◌, inl, inr, List, [], ◌∷◌, ◌++◌, length, refl, sym, ap, ◌∙◌, arith, append_assoc, append-nil, length-append}
use Rattle.std.proofs.lemmas.List.Elements.{All-nil, All-cons, All-head}
use Rattle.std.proofs.lemmas.Bool.{cases_lt}
use Rattle.http_link.specs.Lines.{IsLine, IsEmptyLine, IsFullLine, HeadLines, AreHeadLines, HasNoHead, IsOpenHead, print_lines, print_head}
use Rattle.http_link.specs.Checks.{most_head}
use Rattle.http_link.specs.Requests.{IsHeadBegun}
use Rattle.http_link.proofs.Lines.{cons_same, nothing, empty_are_lines, open_has_no_head, print_push}

abbrev pub IsHeadExtent : List ℕ → Type 0
IsHeadExtent bytes =
    ((length bytes ≡ most_head) × HasNoHead bytes)
    ⊎ ((h : HeadLines) × AreHeadLines h × (bytes ≡ print_head h) × (length bytes ≤ most_head))

-- ---- lists

pub last_of : (z : List ℕ) → (z ≡ []) ⊎ ((y : List ℕ) × (b : ℕ) × (z ≡ y ++ b ∷ []))
last_of [] = inl refl
last_of (c ∷ z) =
    elim (last_of z) [
      | inl e ↦ inr ([], c, ap (λ t. c ∷ t) e)
      | inr found ↦ inr (c ∷ found.0, found.1, ap (λ t. c ∷ t) found.2)
    ]

pub push_same : (x y : List ℕ) (a b : ℕ) → x ++ a ∷ [] ≡ y ++ b ∷ [] → x ≡ y
push_same [] [] a b e = refl
push_same [] (d ∷ y) a b e = absurd (omega (arith, ap length e, length-append y (b ∷ [])))
push_same (c ∷ x) [] a b e = absurd (omega (arith, ap length e, length-append x (a ∷ [])))
push_same (c ∷ x) (d ∷ y) a b e =
    let parts = cons_same _ _ _ _ e in
    let first : c ≡ d = parts.0 in
    let others : x ≡ y = push_same x y a b parts.1 in
    cc

-- the longer of two fronts goes on from the shorter one
pub longer : (a b x y : List ℕ) → a ++ x ≡ b ++ y → length a ≤ length b → (z : List ℕ) × (b ≡ a ++ z)
longer [] b x y e p = (b, refl)
longer (c ∷ a) [] x y e p = absurd (omega (arith, p))
longer (c ∷ a) (d ∷ b) x y e p =
    let parts = cons_same _ _ _ _ e in
    let more = longer a b x y parts.1 (omega (arith, p)) in
    let first : c ≡ d = parts.0 in
    let others : b ≡ a ++ more.0 = more.1 in
    (more.0, cc)

-- ---- heads

-- a whole head had begun before its last byte
whole_begun : (k : HeadLines) → AreHeadLines k
    → (start : ℕ) × (lines : ℕ) × IsOpenHead (print_lines (k.before ++ (k.request ∷ k.fields)) ++ k.last) start lines
whole_begun k b = (
  _,
  _,
  record {
    before = k.before;
    full = k.request ∷ k.fields;
    line = k.last;
    are_empty = b.before;
    are_full = All-cons IsFullLine k.request k.fields b.request b.fields;
    no_feed = All-head IsLine k.last [] (empty_are_lines (k.last ∷ []) (All-cons IsEmptyLine k.last [] b.last (All-nil IsEmptyLine)));
    bytes_are = refl;
    start_is = refl;
    lines_are = refl;
  },
)

-- no head goes on from another
pub whole_once : (h k : HeadLines) (z : List ℕ) → AreHeadLines h → AreHeadLines k → print_head k ≡ print_head h ++ z → z ≡ []
whole_once h k z a b e =
    elim (last_of z) [
      | inl none ↦ none
      | inr found ↦
          let lines = k.before ++ (k.request ∷ k.fields) in
          let begun = whole_begun k b in
          let bytes = push_same (print_lines lines ++ k.last) (print_head h ++ found.0) 10 found.1
          (sym (print_push lines k.last) ∙ e ∙ ap (λ t. print_head h ++ t) found.2
          ∙ sym (append_assoc (print_head h) found.0 (found.1 ∷ []))) in
          absurd (open_has_no_head (print_lines lines ++ k.last) begun.0 begun.1 begun.2 h found.0 a bytes)
    ]

-- lists of equal length at the front of the same bytes are one
pub front_same : (a b x y : List ℕ) → length a ≡ length b → a ++ x ≡ b ++ y → a ≡ b
front_same [] [] x y p e = refl
front_same [] (d ∷ b) x y p e = absurd (omega (arith, p))
front_same (c ∷ a) [] x y p e = absurd (omega (arith, p))
front_same (c ∷ a) (d ∷ b) x y p e =
    let parts = cons_same _ _ _ _ e in
    let first : c ≡ d = parts.0 in
    let others : a ≡ b = front_same a b x y (omega (arith, p)) parts.1 in
    cc

pub regroup : (a head body x : List ℕ) → a ≡ head ++ body → a ++ x ≡ head ++ (body ++ x)
regroup a head body x is = ap (λ t. t ++ x) is ∙ append_assoc head body x

pub append_cancel : (a x y : List ℕ) → a ++ x ≡ a ++ y → x ≡ y
append_cancel [] x y e = e
append_cancel (c ∷ a) x y e = append_cancel a x y (cons_same _ _ _ _ e).1

-- ---- one head

extent_fits : (a : List ℕ) → IsHeadExtent a → length a ≤ most_head
extent_fits a (inl (full, none)) = omega (arith, full)
extent_fits a (inr (h, are, is, fits)) = fits

no_longer : (a b z : List ℕ) → IsHeadExtent a → IsHeadExtent b → b ≡ a ++ z → z ≡ []
no_longer a b z (inl (full, none)) q e =
    nothing z (omega (arith, full, extent_fits b q, ap length e, length-append a z))
no_longer a b z (inr (h, are, is, fits)) (inl (full, none)) e = absurd (none h z are (e ∙ ap (λ t. t ++ z) is))
no_longer a b z (inr (h, are, is, fits)) (inr (k, are', is', fits')) e =
    whole_once h k z are are' (sym is' ∙ e ∙ ap (λ t. t ++ z) is)

-- the same bytes begin with one
pub extents_same : (a b x y : List ℕ) → IsHeadExtent a → IsHeadExtent b → a ++ x ≡ b ++ y → a ≡ b
extents_same a b x y q r e =
    elim (cases_lt (length a) (length b)) [
      | inl less ↦
          let more = longer a b x y e (omega (arith, less)) in
          sym (more.1 ∙ ap (λ t. a ++ t) (no_longer a b more.0 q r more.1) ∙ append-nil a)
      | inr less ↦
          let more = longer b a y x (sym e) less in
          more.1 ∙ ap (λ t. b ++ t) (no_longer b a more.0 r q more.1) ∙ append-nil b
    ]

-- bytes that have only begun with a head begin with none
pub begun_extent : (whole a x : List ℕ) → IsHeadBegun whole → IsHeadExtent a → whole ≡ a ++ x → ⊥
begun_extent whole a x begun (inl (full, none)) e = omega (arith, begun.fits, full, ap length e, length-append a x)
begun_extent whole a x begun (inr (h, are, is, fits)) e = begun.no_head h x are (e ∙ ap (λ t. t ++ x) is)
