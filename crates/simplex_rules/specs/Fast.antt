-- The rules `fast`: the dual method from the last dictionary (Lemke, The dual method of solving the linear programming problem, 1954), by scores cut to 31 leading binary digits, and Bland's rule behind long ties.
use Rattle.std.specs.Prelude.{◌≡◌, ℕ, zero, suc, ◌+◌, ◌<◌, ◌⊎◌, ℤ, pos, negsuc, Bool, true, false, cond, not, nat_eq, nat_lt, Option, None, Some, List, length}
use Rattle.rational.specs.Ratio.{Ratio, whole, sum, product, negative, quotient, IsBelow, IsAtMost, IsSame}
use Rattle.rational.specs.Width.{ReducedFits, SumFits}
use Rattle.evidence.specs.Sums.{none, is_below}
use Rattle.evidence.specs.Instance.{Range, Instance, width, height, column_at}
use Rattle.scores.specs.Leading.{score}
use Rattle.scores.specs.Sizes.{size, cut_sum, IsTotalSize}
use Rattle.bases.specs.Dictionary.{Entries, Values, value_by, IsDictionary}
use Rattle.bases.specs.Forms.{list_of}
use Rattle.bases.specs.Pivot.{solved_at, replaced_at}
use Rattle.bases.specs.Program.{goal_column, columns, rows_with_goal}
use Rattle.simplex_rules.specs.declared.columns.Status.{Status}
use Rattle.simplex_rules.specs.declared.columns.Status.TheVariants.{Basic, Lower, Upper, Zero}
use Rattle.simplex_rules.specs.declared.columns.Way.{Way}
use Rattle.simplex_rules.specs.declared.columns.Way.TheVariants.{Rise, Fall}
use Rattle.simplex_rules.specs.Statuses.{is_basic, status_at, basic_in, rest_at, has_width, first_status}
use Rattle.simplex_rules.specs.Turns.{IsOut, Helps, IsLeastOut, IsFirstHelp, IsFirstLimit}
use Rattle.simplex_rules.specs.Rules.{View, Turn, Swap, Flip, Given, Rules}

-- of the columns below n that are wanted, the one that none beats
pub record IsUnbeaten (n : ℕ) (Wanted : ℕ → Type 0) (Beats : ℕ → ℕ → Type 0) (c : ℕ) : Type 0 where
  pub inside : c < n
  pub wanted : Wanted c
  pub best : (k : ℕ) → k < n → Wanted k → Beats k c → ⊥

-- a greater score beats; of equal ones the lesser column
abbrev pub Greater : (ℕ → Ratio) → ℕ → ℕ → Type 0
Greater f k c = IsBelow (f c) (f k) ⊎ (IsSame (f k) (f c) × (k < c))

-- a lesser number beats; of equal ones the greater score
abbrev pub Lesser : (ℕ → Ratio) → (ℕ → Ratio) → ℕ → ℕ → Type 0
Lesser f g k c = IsBelow (f k) (f c) ⊎ (IsSame (f k) (f c) × Greater g k c)

-- kept beside a basis: how many turns in a row had the helper cost 0, and how many the limit 0; the helper goal's costs at the first basis; whether it is the goal itself; and the value that a bound is measured by
pub record Note : Type 0 where
  pub idle : ℕ
  pub stalled : ℕ
  pub helper : Values
  pub own : Bool
  pub best : Option Ratio

abbrev pub is_none : ℤ → Bool
is_none (pos zero) = true
is_none (pos (suc n)) = false
is_none (negsuc n) = false

-- how far a value is out of its ends, or 0
abbrev pub under_by : Option Ratio → Ratio → Ratio
under_by None x = none
under_by (Some l) x = cond (is_below x l) (sum l (negative x)) none

abbrev pub over_by : Option Ratio → Ratio → Ratio
over_by None x = none
over_by (Some h) x = cond (is_below h x) (sum x (negative h)) none

abbrev pub out_by : Range → Ratio → Ratio
out_by r x = sum (under_by r.lb x) (over_by r.ub x)

-- the end that a column misses that is to rise, or to fall
abbrev pub missed_end : Range → Way → Option Ratio
missed_end r Rise = r.lb
missed_end r Fall = r.ub

-- how many of the first n aren't 0
abbrev pub counted : (ℕ → Ratio) → ℕ → ℕ
counted f zero = 0
counted f (suc n) = cond (is_none (f n).num) (counted f n) (suc (counted f n))

module _ (v : View Note) where
  abbrev I : Instance
  I = v.program

  abbrev u : Entries
  u = v.entries

  abbrev goal : ℕ
  goal = goal_column v.program

  -- 1 and the sizes of a column without the goal's; its numbers seldom have one denominator
  abbrev pub column_size : ℕ → Ratio
  column_size c = cut_sum (λ b. u b c) goal

  -- the helper goal's cost of column c at this basis
  abbrev pub helper_at : ℕ → Ratio
  helper_at c = value_by (columns I) v.note.helper (λ d. list_of (basic_in v.statuses) u d c)

  -- by the sizes of the rows
  abbrev pub leaving_score : (ℕ → Ratio) → ℕ → Ratio
  leaving_score sizes b = score (out_by (column_at I b) (v.values b)) (sizes b)

  abbrev pub helper_ratio : ℕ → ℕ → Ratio
  helper_ratio b c = quotient (size (helper_at c)) (size (u b c))

  abbrev pub sparse_score : ℕ → ℕ → Ratio
  sparse_score b c = score (size (u b c)) (whole (pos (counted (λ a. u a c) (columns I))))

  abbrev pub cost_score : ℕ → Ratio
  cost_score c = score (size (u goal c)) (column_size c)

  abbrev pub is_idle : Bool
  is_idle = nat_lt 1000 v.note.idle

  abbrev pub is_stalled : Bool
  is_stalled = nat_lt 50 v.note.stalled

  abbrev pub IsAnyOut : ℕ → Type 0
  IsAnyOut k = (way : Way) × IsOut I v.statuses u v.values k way

  abbrev pub AreRowSizes : (ℕ → Ratio) → Type 0
  AreRowSizes sizes = (b : ℕ) → IsAnyOut b → IsTotalSize (columns I) (u b) (sizes b)

  abbrev pub HelpsAny : ℕ → Way → ℕ → Type 0
  HelpsAny g wanted k = (way : Way) × Helps I v.statuses u v.values g wanted k way

  -- where no turn helped for long, the least column
  abbrev pub LeavesIf : Bool → ℕ → Way → Type 0
  LeavesIf true b wanted = IsLeastOut I v.statuses u v.values b wanted
  LeavesIf false b wanted =
      IsOut I v.statuses u v.values b wanted × ((sizes : ℕ → Ratio) × AreRowSizes sizes × IsUnbeaten goal IsAnyOut (Greater (leaving_score sizes)) b)

  abbrev pub EntersIf : Bool → ℕ → Way → ℕ → Type 0
  EntersIf true b wanted n = IsUnbeaten goal (HelpsAny b wanted) (Lesser (helper_ratio b) (λ c. none)) n
  EntersIf false b wanted n = IsUnbeaten goal (HelpsAny b wanted) (Lesser (helper_ratio b) (sparse_score b)) n

  abbrev pub ImprovesIf : Bool → ℕ → Way → Type 0
  ImprovesIf true n way = IsFirstHelp I v.statuses u v.values goal Fall n way
  ImprovesIf false n way = Helps I v.statuses u v.values goal Fall n way × IsUnbeaten goal (HelpsAny goal Fall) (Greater cost_score) n

  -- the distance of each column that is out from the end that it misses; where the least one leaves, none is formed
  abbrev pub LeaveFitsIf : Bool → Type 0
  LeaveFitsIf true = Unit {0}
  LeaveFitsIf false = (b : ℕ) (way : Way) (e : Ratio) → b < goal → IsOut I v.statuses u v.values b way → missed_end (column_at I b) way ≡ Some e → SumFits e (negative (v.values b))

  abbrev pub RatiosFit : ℕ → Way → Type 0
  RatiosFit b wanted = (c : ℕ) → c < goal → HelpsAny b wanted c → ReducedFits (helper_ratio b c)

  -- the helper goal's cost of column c once b and n have changed places
  abbrev pub helper_after : ℕ → ℕ → ℕ → Ratio
  helper_after b n c = sum (helper_at c) (product (helper_at n) (solved_at u b n c))

  -- each entry that comes of the turn, and in the first phase each cost of the helper goal; products on the way may have any width
  pub record KeptFits (b n : ℕ) : Type 0 where
    pub row : (c : ℕ) → (c ≡ n → ⊥) → ReducedFits (solved_at u b n c)
    pub others : (a c : ℕ) → (a ≡ b → ⊥) → (c ≡ n → ⊥) → ReducedFits (replaced_at u b n a c)
    pub helper : IsAnyOut b → (c : ℕ) → (c ≡ n → ⊥) → ReducedFits (helper_after b n c)

  -- the note after a turn: of the first phase, where the leaving column was out; else of the second
  abbrev pub note_after : Turn → Note
  note_after (Swap b n s) =
      cond (is_none (out_by (column_at I b) (v.values b)).num)
      (record (v.note) { stalled = cond (is_none (sum (rest_at (column_at I b) s) (negative (v.values b))).num) (suc v.note.stalled) 0 })
      (record (v.note) { idle = cond (is_none (helper_at n).num) (suc v.note.idle) 0 })
  note_after (Flip n way) = record (v.note) { stalled = 0 }

  abbrev pub PassesBest : Ratio → Type 0
  PassesBest c = (v.note.own ≡ true) × ((z : Ratio) × (v.note.best ≡ Some z) × IsAtMost z c)

abbrev pub fresh_status : Instance → ℕ → Status
fresh_status I c = cond (nat_lt c (width I)) (first_status (column_at I c).lb (column_at I c).ub) Basic

-- where the run before ended, if it was of as many columns; else the first basis
abbrev pub held_status : Given → Instance → ℕ → Status
held_status None I c = fresh_status I c
held_status (Some ts) I c = cond (nat_eq (length ts) (goal_column I)) (status_at ts c) (fresh_status I c)

abbrev pub held_basic : Given → Instance → ℕ → Bool
held_basic g I c = cond (nat_lt c (goal_column I)) (is_basic (held_status g I c)) true

-- at the upper end where there is one, else at the lower one, else at 0
abbrev pub last_status : Option Ratio → Option Ratio → Status
last_status lo (Some h) = Upper
last_status (Some l) None = Lower
last_status None None = Zero

-- an end that is infinite now is left for the other one
abbrev pub settled : Status → Option Ratio → Option Ratio → Status
settled Basic lo hi = Basic
settled Lower lo hi = first_status lo hi
settled Upper lo hi = last_status lo hi
settled Zero lo hi = first_status lo hi

-- and each column goes where its cost is less
abbrev pub toward : ℤ → Status → Option Ratio → Option Ratio → Status
toward (pos zero) s lo hi = s
toward (pos (suc n)) s lo hi = cond (is_basic s) s (first_status lo hi)
toward (negsuc n) s lo hi = cond (is_basic s) s (last_status lo hi)

-- a column whose ends are equal is at the lower one
abbrev pub begun_status : Range → Ratio → Status → Status
begun_status r cost s = cond (is_basic s) Basic (cond (has_width r) (toward cost.num (settled s r.lb r.ub) r.lb r.ub) Lower)

-- a column that isn't basic lets the goal fall from its place
abbrev pub improves_at : Status → Range → ℤ → Bool
improves_at Basic r z = false
improves_at Lower r (pos n) = false
improves_at Lower r (negsuc n) = has_width r
improves_at Upper r (pos zero) = false
improves_at Upper r (pos (suc n)) = true
improves_at Upper r (negsuc n) = false
improves_at Zero r (pos zero) = false
improves_at Zero r (pos (suc n)) = true
improves_at Zero r (negsuc n) = true

abbrev pub any_below : (ℕ → Bool) → ℕ → Bool
any_below f zero = false
any_below f (suc n) = cond (f n) true (any_below f n)

abbrev pub first_note : Option Ratio → Instance → List Status → Entries → Note
first_note best I ss u =
    let improves : ℕ → Bool = λ c. improves_at (status_at ss c) (column_at I c) (u (goal_column I) c).num in
    record { idle = 0; stalled = 0; helper = λ c. cond (improves c) none (u (goal_column I) c); own = not (any_below improves (goal_column I)); best = best }

pub record BeginsFast (g : Given) (best : Option Ratio) (I : Instance) (zeroed : Bool) (ss : List Status) (k : Note) : Type 0 where
  pub entries : Entries
  pub dictionary : IsDictionary (width I) (height I + 1) (rows_with_goal zeroed I) (held_basic g I) entries
  pub count : length ss ≡ goal_column I
  pub places : (c : ℕ) → c < goal_column I → status_at ss c ≡ begun_status (column_at I c) (entries (goal_column I) c) (held_status g I c)
  pub note : k ≡ first_note best I ss entries

abbrev pub fast : Rules
fast = record {
  Note = Note;
  Begins = λ g best I zeroed ss k. BeginsFast g best I zeroed ss k;
  Passes = λ v c. PassesBest v c;
  Leaves = λ v b wanted. LeavesIf v (is_idle v) b wanted;
  Enters = λ v b wanted n way. Helps v.program v.statuses v.entries v.values b wanted n way × EntersIf v (is_idle v) b wanted n;
  Improves = λ v n way. ImprovesIf v (is_stalled v) n way;
  Stops = λ v n way b. IsFirstLimit v.program v.statuses v.entries v.values n way b;
  Notes = λ v turn k. k ≡ note_after v turn;
  LeaveFits = λ v. LeaveFitsIf v (is_idle v);
  EnterFits = λ v b wanted. RatiosFit v b wanted;
  SwapFits = λ v b n. KeptFits v b n;
}
