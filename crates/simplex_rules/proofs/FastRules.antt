-- The rules `fast` are legal, and none of their choices has two answers.
use Rattle.std.proofs.Common.{◌≡◌, ℕ, zero, suc, ◌+◌, ◌<◌, ◌⊎◌, inl, inr, ℤ, pos, negsuc, ◌*ℤ◌, ◌<ℤ◌, Bool, true, false, Option, None, Some, IsSome, List, refl, sym, ◌∙◌, ap, subst, arith}
use Rattle.std.proofs.Math.Path.{fun_ext}
use Rattle.std.proofs.lemmas.List.{ext_get_or}
use Rattle.std.proofs.lemmas.Int.{ints, by_lt_z}
use Rattle.rational.specs.Ratio.{Ratio, IsBelow, IsSame}
use Rattle.evidence.specs.Instance.{Range, Instance, width, height, column_at}
use Rattle.evidence.proofs.Columns.{by_lt, by_bool}
use Rattle.bases.specs.Dictionary.{Entries}
use Rattle.bases.specs.Program.{goal_column, columns, rows_with_goal}
use Rattle.bases.proofs.Lists as Lists
use Rattle.simplex_rules.specs.declared.columns.Status.{Status}
use Rattle.simplex_rules.specs.declared.columns.Status.TheVariants.{Basic, Lower, Upper, Zero}
use Rattle.simplex_rules.specs.declared.columns.Way.{Way}
use Rattle.simplex_rules.specs.declared.columns.Way.TheVariants.{Fall}
use Rattle.simplex_rules.specs.Statuses.{is_basic, has_width, less, first_status, HasPlace, IsPlaced}
use Rattle.simplex_rules.specs.Turns.{IsOut, Helps}
use Rattle.simplex_rules.specs.Rules.{View, Given, AreLegalRules, AreSingleRules}
use Rattle.simplex_rules.specs.Fast.{Note, IsUnbeaten, Greater, Lesser, last_status, settled, toward, begun_status, held_status, held_basic, first_note, BeginsFast, out_by, leaving_score, helper_ratio, sparse_score, cost_score, is_idle, is_stalled, IsAnyOut, AreRowSizes, LeavesIf, EntersIf, ImprovesIf, fast}
use Rattle.evidence.specs.Sums.{none}
use Rattle.scores.specs.Leading.{score}
use Rattle.scores.specs.Sizes.{IsTotalSize}
use Rattle.simplex_rules.proofs.Facts.{some_is}
use Rattle.simplex_rules.proofs.LeastIndices.{one_out, one_help, one_least}

-- of two columns the one beats the other
abbrev pub AreOrdered : (ℕ → ℕ → Type 0) → Type 0
AreOrdered Beats = (k c : ℕ) → Beats k c ⊎ (k ≡ c) ⊎ Beats c k

pub by_order : {P : Type 0} (x y : Ratio) → (IsBelow x y → P) → (IsSame x y → P) → (IsBelow y x → P) → P
by_order x y f g h = by_int (x.num *ℤ pos y.den) (y.num *ℤ pos x.den) f g h
  where
    by_int : {P : Type 0} (a b : ℤ) → (a <ℤ b → P) → (a ≡ b → P) → (b <ℤ a → P) → P
    by_int a b f g h = by_lt_z a b f (λ p. by_lt_z b a h (λ q. g (omega (arith, ints))))

pub greater_ordered : (f : ℕ → Ratio) → AreOrdered (Greater f)
greater_ordered f k c =
    by_order (f c) (f k) (λ h. inl (inl h))
    (λ e. by_lt k c (λ l. inl (inr (sym e, l))) (λ n. by_lt c k (λ l. inr (inr (inr (e, l)))) (λ o. inr (inl (omega arith)))))
    (λ h. inr (inr (inl h)))

lesser_ordered : (f g : ℕ → Ratio) → AreOrdered (Lesser f g)
lesser_ordered f g k c =
    by_order (f k) (f c) (λ h. inl (inl h))
    (λ e. on e (greater_ordered g k c))
    (λ h. inr (inr (inl h)))
  where
    on : IsSame (f k) (f c) → Greater g k c ⊎ (k ≡ c) ⊎ Greater g c k → Lesser f g k c ⊎ (k ≡ c) ⊎ Lesser f g c k
    on e (inl p) = inl (inr (e, p))
    on e (inr (inl p)) = inr (inl p)
    on e (inr (inr p)) = inr (inr (inr (sym e, p)))

pub unbeaten_once : (n : ℕ) (Wanted : ℕ → Type 0) (Beats : ℕ → ℕ → Type 0) (c d : ℕ) → AreOrdered Beats → IsUnbeaten n Wanted Beats c → IsUnbeaten n Wanted Beats d → c ≡ d
unbeaten_once n Wanted Beats c d ordered p q = by (ordered c d)
  where
    by : Beats c d ⊎ (c ≡ d) ⊎ Beats d c → c ≡ d
    by (inl b) = absurd (q.best c p.inside p.wanted b)
    by (inr (inl e)) = e
    by (inr (inr b)) = absurd (p.best d q.inside q.wanted b)

-- where columns begin
first_place : (lo hi : Option Ratio) (r : Range) → r.lb ≡ lo → r.ub ≡ hi → has_width r ≡ true → HasPlace r (first_status lo hi)
first_place (Some l) hi r e f w = some_is e
first_place None (Some h) r e f w = (some_is f, w)
first_place None None r e f w = (e, f)

last_place : (lo hi : Option Ratio) (r : Range) → r.lb ≡ lo → r.ub ≡ hi → has_width r ≡ true → HasPlace r (last_status lo hi)
last_place lo (Some h) r e f w = (some_is f, w)
last_place (Some l) None r e f w = some_is e
last_place None None r e f w = (e, f)

settled_place : (s : Status) (r : Range) → has_width r ≡ true → HasPlace r (settled s r.lb r.ub)
settled_place Basic r w = tt
settled_place Lower r w = first_place r.lb r.ub r refl refl w
settled_place Upper r w = last_place r.lb r.ub r refl refl w
settled_place Zero r w = first_place r.lb r.ub r refl refl w

toward_place : (z : ℤ) (s : Status) (r : Range) → has_width r ≡ true → HasPlace r s → HasPlace r (toward z s r.lb r.ub)
toward_place (pos zero) s r w p = p
toward_place (pos (suc n)) s r w p = by_bool (is_basic s) (λ b. rw b p) (λ b. rw b (first_place r.lb r.ub r refl refl w))
toward_place (negsuc n) s r w p = by_bool (is_basic s) (λ b. rw b p) (λ b. rw b (last_place r.lb r.ub r refl refl w))

low_some : (lo hi : Option Ratio) → less lo hi ≡ false → IsSome lo
low_some None hi e = absurd (cc)
low_some (Some l) hi e = refl

begun_place : (r : Range) (cost : Ratio) (s : Status) → HasPlace r (begun_status r cost s)
begun_place r cost s =
    by_bool (is_basic s)
    (λ b. rw b tt)
    (λ b. by_bool (has_width r)
    (λ w. rw (b, w) (toward_place cost.num (settled s r.lb r.ub) r w (settled_place s r w)))
    (λ w. rw (b, w) (low_some r.lb r.ub w)))

begins_placed : (g : Given) (best : Option Ratio) (I : Instance) (zeroed : Bool) (ss : List Status) (k : Note) → BeginsFast g best I zeroed ss k → IsPlaced I ss
begins_placed g best I zeroed ss k b = record {
  count = b.count;
  places = λ c h. subst (λ s. HasPlace (column_at I c) s) (sym (b.places c h)) (begun_place (column_at I c) (b.entries (goal_column I) c) (held_status g I c));
}

begins_once : (g : Given) (best : Option Ratio) (I : Instance) (zeroed : Bool) (ss ts : List Status) (k l : Note) → BeginsFast g best I zeroed ss k → BeginsFast g best I zeroed ts l → (ss ≡ ts) × (k ≡ l)
begins_once g best I zeroed ss ts k l p q =
    let e : p.entries ≡ q.entries = fun_ext (λ b. fun_ext (λ c. Lists.one_dictionary (width I) (height I + 1) (rows_with_goal zeroed I) (held_basic g I) p.entries q.entries p.dictionary q.dictionary b c)) in
    let s : ss ≡ ts = ext_get_or Basic ss ts (p.count ∙ sym q.count) (λ c h.
    let n = p.count in
    let k : c < goal_column I = omega arith in
    p.places c k ∙ ap (λ (u : Entries). begun_status (column_at I c) (u (goal_column I) c) (held_status g I c)) e ∙ sym (q.places c k)) in
    (s, p.note ∙ ap (λ z. first_note best I z p.entries) s ∙ ap (λ z. first_note best I ts z) e ∙ sym q.note)

one_size : (n : ℕ) (f : ℕ → Ratio) (s t : Ratio) → IsTotalSize n f s → IsTotalSize n f t → s ≡ t
one_size n f s t (inl (h, p)) (inl (i, q)) = p ∙ sym q
one_size n f s t (inl (h, p)) (inr (i, q)) = absurd (i h)
one_size n f s t (inr (h, p)) (inl (i, q)) = absurd (h i)
one_size n f s t (inr (h, p)) (inr (i, q)) = p ∙ sym q

module _ (v : View Note) where
  leaves_legal : (x : Bool) (b : ℕ) (wanted : Way) → LeavesIf v x b wanted → (b < goal_column v.program) × IsOut v.program v.statuses v.entries v.values b wanted
  leaves_legal true b wanted p = (p.inside, p.out)
  leaves_legal false b wanted (o, (f, k, p)) = (p.inside, o)

  abbrev scored : ℕ → Ratio → Ratio
  scored c s = score (out_by (column_at v.program c) (v.values c)) s

  -- of columns x and y whose rows have these sizes the first beats the second
  abbrev BeatsBy : ℕ → ℕ → Ratio → Ratio → Type 0
  BeatsBy x y s t = IsBelow (scored y t) (scored x s) ⊎ (IsSame (scored x s) (scored y t) × (x < y))

  -- none beats it by any sizes of the rows, since they are the same
  resized : (f g : ℕ → Ratio) → AreRowSizes v f → AreRowSizes v g → (b : ℕ) → IsUnbeaten (goal_column v.program) (IsAnyOut v) (Greater (leaving_score v f)) b → IsUnbeaten (goal_column v.program) (IsAnyOut v) (Greater (leaving_score v g)) b
  resized f g k l b p = record {
    inside = p.inside;
    wanted = p.wanted;
    best = λ x i o beats. p.best x i o (subst (λ s. BeatsBy x b s (f b)) (same x o) (subst (λ s. BeatsBy x b (g x) s) (same b p.wanted) beats));
  }
    where
      same : (x : ℕ) → IsAnyOut v x → g x ≡ f x
      same x o = one_size (columns v.program) (v.entries x) (g x) (f x) (l x o) (k x o)

  leaves_once : (x : Bool) (b c : ℕ) (y z : Way) → LeavesIf v x b y → LeavesIf v x c z → b ≡ c
  leaves_once true b c y z p q = one_out v.program v.statuses v.entries v.values b c y z p q
  leaves_once false b c y z (o, (f, k, p)) (r, (g, l, q)) = unbeaten_once _ _ _ b c (greater_ordered (leaving_score v g)) (resized f g k l b p) q

  enters_inside : (x : Bool) (b : ℕ) (wanted : Way) (n : ℕ) → EntersIf v x b wanted n → n < goal_column v.program
  enters_inside true b wanted n p = p.inside
  enters_inside false b wanted n p = p.inside

  enters_once : (x : Bool) (b : ℕ) (wanted : Way) (n o : ℕ) → EntersIf v x b wanted n → EntersIf v x b wanted o → n ≡ o
  enters_once true b wanted n o p q = unbeaten_once _ _ _ n o (lesser_ordered (helper_ratio v b) (λ c. none)) p q
  enters_once false b wanted n o p q = unbeaten_once _ _ _ n o (lesser_ordered (helper_ratio v b) (sparse_score v b)) p q

  improves_legal : (x : Bool) (n : ℕ) (way : Way) → ImprovesIf v x n way → (n < goal_column v.program) × Helps v.program v.statuses v.entries v.values (goal_column v.program) Fall n way
  improves_legal true n way p = (p.inside, p.helps)
  improves_legal false n way (h, p) = (p.inside, h)

  improves_once : (x : Bool) (n o : ℕ) (y z : Way) → ImprovesIf v x n y → ImprovesIf v x o z → n ≡ o
  improves_once true n o y z p q = one_help v.program v.statuses v.entries v.values (goal_column v.program) Fall n o y z p q
  improves_once false n o y z (h, p) (i, q) = unbeaten_once _ _ _ n o (greater_ordered (cost_score v)) p q

pub legal : AreLegalRules fast
legal = record {
  begins = λ g best I zeroed ss k good room b. begins_placed g best I zeroed ss k b;
  leaves = λ v b wanted sees p. leaves_legal v (is_idle v) b wanted p;
  enters = λ v b wanted n way sees p. (enters_inside v (is_idle v) b wanted n p.1, p.0);
  improves = λ v n way sees p. improves_legal v (is_stalled v) n way p;
  stops = λ v n way b sees p. (p.inside, (p.limit, p.is));
}

pub single : AreSingleRules fast
single = record {
  begins = λ g best I zeroed ss ts k l good room p q. begins_once g best I zeroed ss ts k l p q;
  leaves = λ v b c x y sees p q. leaves_once v (is_idle v) b c x y p q;
  enters = λ v b wanted n o x y sees p q. enters_once v (is_idle v) b wanted n o p.1 q.1;
  improves = λ v n o x y sees p q. improves_once v (is_stalled v) n o x y p q;
  stops = λ v n way b c sees p q. one_least _ _ b c p q;
  notes = λ v turn k l sees p q. p ∙ sym q;
}
