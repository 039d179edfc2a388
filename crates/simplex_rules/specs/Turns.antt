-- What a turn of the simplex method reads off a dictionary, by Bland's rule of least indices (Bland, New finite pivoting rules for the simplex method, 1977): which column is out of its ends, which one moves, and how far.
use Rattle.std.specs.Prelude.{◌≡◌, ℕ, zero, suc, ◌<◌, ℤ, pos, negsuc, ◌<ℤ◌, Bool, true, false, cond, nat_eq, Option, None, Some, List, slice_set}
use Rattle.rational.specs.Ratio.{Ratio, sum, negative, quotient, IsBelow, IsAtMost}
use Rattle.evidence.specs.Instance.{Range, Instance, column_at}
use Rattle.bases.specs.Dictionary.{Entries, Values}
use Rattle.bases.specs.Program.{goal_column}
use Rattle.simplex_rules.specs.declared.columns.Status.{Status}
use Rattle.simplex_rules.specs.declared.columns.Status.TheVariants.{Basic, Lower, Upper, Zero}
use Rattle.simplex_rules.specs.declared.columns.Way.{Way}
use Rattle.simplex_rules.specs.declared.columns.Way.TheVariants.{Rise, Fall}
use Rattle.simplex_rules.specs.Statuses.{status_at, basic_in, has_width, upper_status}

-- a number above 0 moves up, one below 0 down
abbrev pub MovesIn : Way → Ratio → Type 0
MovesIn Rise x = pos 0 <ℤ x.num
MovesIn Fall x = x.num <ℤ pos 0

-- how fast a column moves while another one rises or falls, of its entry at that one
abbrev pub rate : Way → Ratio → Ratio
rate Rise x = x
rate Fall x = negative x

-- a column that isn't basic can move this way from where it stands: up from the lower end where the ends differ, down from the upper one, both ways from 0
abbrev pub Can : Way → Range → Status → Type 0
Can Rise r Basic = ⊥
Can Rise r Lower = has_width r ≡ true
Can Rise r Upper = ⊥
Can Rise r Zero = Unit {0}
Can Fall r Basic = ⊥
Can Fall r Lower = ⊥
Can Fall r Upper = Unit {0}
Can Fall r Zero = Unit {0}

-- a value below the lower end is to rise, one above the upper end is to fall
abbrev pub Misses : Way → Range → Ratio → Type 0
Misses Rise r x = (l : Ratio) × (r.lb ≡ Some l) × IsBelow x l
Misses Fall r x = (h : Ratio) × (r.ub ≡ Some h) × IsBelow h x

-- the status at the end that was missed, and at the end that is reached from within
abbrev pub missed_status : Way → Range → Status
missed_status Rise r = Lower
missed_status Fall r = upper_status r

abbrev pub reached_status : Way → Range → Status
reached_status Rise r = upper_status r
reached_status Fall r = Lower

-- how far the moving column may go until a column of this value comes, at this rate, to an end, if it has that one
abbrev pub until_end : Option Ratio → Ratio → Ratio → Option Ratio
until_end None x by = None
until_end (Some e) x by = Some (quotient (sum e (negative x)) by)

-- the end is the upper one where the column rises, the lower one where it falls, and none where it stays
abbrev pub until_by : ℤ → Range → Ratio → Ratio → Option Ratio
until_by (pos zero) r x by = None
until_by (pos (suc n)) r x by = until_end r.ub x by
until_by (negsuc n) r x by = until_end r.lb x by

-- how far the moving column may go until it comes from one of its own ends to the other
abbrev pub across : Option Ratio → Option Ratio → Option Ratio
across None h = None
across (Some l) None = None
across (Some l) (Some h) = Some (sum h (negative l))

-- the limit that one column sets: a basic one, the moving one itself, or another, which sets none
abbrev pub limit_one : Bool → Bool → Range → Ratio → Ratio → Option Ratio
limit_one basic own r x by = cond basic (until_by by.num r x by) (cond own (across r.lb r.ub) None)

-- the moving column goes to its other end
abbrev pub flipped : Instance → List Status → ℕ → Way → List Status
flipped I ss n way = slice_set ss n (reached_status way (column_at I n))

-- column b leaves the basis to stand at s, and n enters it; all others stay where they are
abbrev pub pivoted : List Status → ℕ → ℕ → Status → List Status
pivoted ss b n s = slice_set (slice_set ss b s) n Basic

-- the way in which a column of this rate moves
abbrev pub way_of : ℤ → Way
way_of (pos k) = Rise
way_of (negsuc k) = Fall

-- where the basic column b stands that came to an end while column n moved
abbrev pub left_status : Instance → Entries → ℕ → ℕ → Way → Status
left_status I u b n way = reached_status (way_of (rate way (u b n)).num) (column_at I b)

-- c is the first place below n with the least number
pub record IsFirstLeast (f : ℕ → Option Ratio) (n c : ℕ) : Type 0 where
  pub inside : c < n
  pub limit : Ratio
  pub is : f c ≡ Some limit
  pub before : (k : ℕ) → k < c → (q : Ratio) → f k ≡ Some q → IsBelow limit q
  pub after : (k : ℕ) → c < k → k < n → (q : Ratio) → f k ≡ Some q → IsAtMost limit q

-- I is the program, ss the basis with the places of the other columns, u its dictionary, and w has the columns' values
module _ (I : Instance) (ss : List Status) (u : Entries) (w : Values) where
  -- column c is basic and out of its ends, and is to move this way
  pub record IsOut (c : ℕ) (way : Way) : Type 0 where
    pub basic : basic_in ss c ≡ true
    pub misses : Misses way (column_at I c) (w c)

  -- the least such column
  pub record IsLeastOut (c : ℕ) (way : Way) : Type 0 where
    pub inside : c < goal_column I
    pub out : IsOut c way
    pub before : (k : ℕ) → k < c → (v : Way) → IsOut k v → ⊥

  abbrev pub NoneOut : Type 0
  NoneOut = (k : ℕ) → k < goal_column I → (v : Way) → IsOut k v → ⊥

  -- column c isn't basic and can move by its way, and column g, the goal's too, then moves as wanted
  pub record Helps (g : ℕ) (wanted : Way) (c : ℕ) (way : Way) : Type 0 where
    pub nonbasic : basic_in ss c ≡ false
    pub can : Can way (column_at I c) (status_at ss c)
    pub moves : MovesIn wanted (rate way (u g c))

  -- the least such column
  pub record IsFirstHelp (g : ℕ) (wanted : Way) (c : ℕ) (way : Way) : Type 0 where
    pub inside : c < goal_column I
    pub helps : Helps g wanted c way
    pub before : (k : ℕ) → k < c → (v : Way) → Helps g wanted k v → ⊥

  abbrev pub NoneHelps : ℕ → Way → Type 0
  NoneHelps g wanted = (k : ℕ) → k < goal_column I → (v : Way) → Helps g wanted k v → ⊥

  -- the limit that column c sets where column n moves
  abbrev pub limit_at : ℕ → Way → ℕ → Option Ratio
  limit_at n way c = limit_one (basic_in ss c) (nat_eq c n) (column_at I c) (w c) (rate way (u c n))

  -- column c sets the least limit, and is the least such column
  abbrev pub IsFirstLimit : ℕ → Way → ℕ → Type 0
  IsFirstLimit n way c = IsFirstLeast (limit_at n way) (goal_column I) c

  abbrev pub NoLimit : ℕ → Way → Type 0
  NoLimit n way = (k : ℕ) → k < goal_column I → limit_at n way k ≡ None
