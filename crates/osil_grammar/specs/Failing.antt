-- When the tests of OSiL documents fail.
use Rattle.std.specs.Prelude.{◌≡◌, ◌≢◌, ℕ, suc, ◌+◌, ◌<◌, ◌≤◌, ℤ, pos, ◌+ℤ◌, ◌*ℤ◌, ◌<ℤ◌, ◌≤ℤ◌, false, None, IsSomeAnd, cond, List, length, get_or, codes}
use Rattle.tree_grammar.specs.Elements.{Attribute}
use Rattle.tree_grammar.specs.Tags.{IsAmong}
use Rattle.doc_tree.specs.Marks.{Mark}
use Rattle.document_tags.specs.Elements.{value_of}
use Rattle.rational.specs.Ratio.{negative}
use Rattle.rational.specs.Width.{SumFits}
use Rattle.evidence.specs.Sums as evidence
use Rattle.fraction.specs.Frac.{ratio, ratios}
use Rattle.fraction.specs.declared.frac.Frac.{Frac}
use Rattle.fraction.specs.declared.ends.End.TheVariants.{NegInf, At, Inf}
use Rattle.decimal_text.specs.Count.{IsCount}
use Rattle.decimal_text.specs.Whole.{IsWholeText}
use Rattle.decimal_text.specs.Decimal.{IsDecimal}
use Rattle.decimal_text.specs.Bound.{SaysEnd}
use Rattle.instance.specs.Limits.{most_vars, most_entries, most_goals}
use Rattle.osil_grammar.specs.declared.elements.Part.{Part}
use Rattle.osil_grammar.specs.declared.elements.Part.TheVariants.{Variables, Objectives, Constraints, Coefficients}
use Rattle.osil_grammar.specs.declared.elements.Listing.{Listing}
use Rattle.osil_grammar.specs.declared.elements.Listing.TheVariants.{Starts, Values}
use Rattle.osil_grammar.specs.declared.elements.Place.{Place}
use Rattle.osil_grammar.specs.declared.elements.Place.TheVariants.{Var, Obj, Con, El}
use Rattle.osil_grammar.specs.Runs.{ratio_at}
use Rattle.osil_grammar.specs.Matrix.{Lists, stored, HasWidePlace}
use Rattle.osil_grammar.specs.Storing.{matrix_lists, Divide}
use Rattle.osil_grammar.specs.Grammars.{IsOfGrammar, IsWideOf, HasSuch, IsBad, IsTooGreat}
use Rattle.osil_grammar.specs.Saying.{senses, SaysTimes, SaysConstant, letter_names}
use Rattle.osil_grammar.specs.ParseState.{State}
use Rattle.osil_grammar.specs.Table.{Test, other_root, no_data, no_variables, some_lists, beyond, in_further, second_data, late, late_list, no_index, has, no_sense, bad, bad_text, too_great, great_text, great_end, great_run, great_cost, great_entry, other_count, other_coefs, other_indices, no_variable, out_of_range, undivided, no_type, low_infinite, high_infinite, too_many, attributes}

-- THE LIMITS: as many rows as columns, which are the lines that a matrix is stored by
abbrev pub most_lines : ℕ
most_lines = most_vars

-- the most items of each kind
abbrev pub most : Place → ℕ
most Obj = most_goals
most (El Starts) = most_lines + 1
most (El l) = most_entries
most p = most_lines

-- how many there are so far
abbrev pub list_length : State → Listing → ℕ
list_length s Starts = length s.starts
list_length s Values = length s.values
list_length s l = length s.indices

abbrev pub items : State → Place → ℕ
items s Var = length s.vars
items s Obj = length s.goals
items s Con = length s.rows
items s (El l) = list_length s l
items s p = 0

-- the items of a part
abbrev pub part_items : State → Part → ℕ
part_items s Variables = length s.vars
part_items s Objectives = length s.goals
part_items s Constraints = length s.rows
part_items s Coefficients = length s.values

-- the numbers of a list of whole ones are below this: starts are at most 100,000, indices those of rows so far, where columns are stored, or else of variables
abbrev pub limit : State → Listing → ℕ
limit s Starts = 100001
limit s l = cond s.by_columns (length s.rows) (length s.vars)

-- the lines of the matrix are the variables, where columns are stored, or else the rows
abbrev pub lines : State → ℕ
lines s = cond s.by_columns (length s.vars) (length s.rows)

-- the three lists as they are stored
abbrev pub lists_so_far : State → Lists
lists_so_far s = matrix_lists s.by_columns s.starts s.indices s.values

abbrev pub IsDivided : State → Type 0
IsDivided s = Divide s.starts s.values (lines s)

-- a row's end less its constant doesn't fit
pub record IsGreatEnd (as' : List Attribute) (name : List ℕ) : Type 0 where
  pub constant : Frac
  pub end : Frac
  pub has_constant : SaysConstant as' constant
  pub has_end : HasSuch as' name (λ text. SaysEnd text (At end))
  pub wide : SumFits (ratio end) (negative (ratio constant)) → ⊥

-- a number of a run of decimals doesn't fit
abbrev pub HasGreat : Frac → Frac → ℕ → Type 0
HasGreat first step m = (k : ℕ) × (suc k < m) × (SumFits (ratio_at (ratio first) (ratio step) k) (ratio step) → ⊥)

pub record IsGreatRun (text : List ℕ) (step : Frac) (m : ℕ) : Type 0 where
  pub first : Frac
  pub begins : IsDecimal text (ratio first)
  pub great : HasGreat first step m

-- a cost's sum with those before it of its variable, in its `obj`, doesn't fit
pub record IsGreatCost (text : List ℕ) (costs : List Frac) (j : ℕ) : Type 0 where
  pub cost : Frac
  pub reads : IsDecimal text (ratio cost)
  pub wide : SumFits (get_or (ratios costs) j evidence.none) (ratio cost) → ⊥

-- an entry's sum doesn't fit; none is formed where there aren't as many indices as values, or the starts don't divide them
pub record HasGreatEntry (s : State) : Type 0 where
  pub some : 0 < s.lists
  pub as_many : length s.indices ≡ length s.values
  pub divided : IsDivided s
  pub wide : HasWidePlace (stored (lists_so_far s))

-- at least 0 and below a limit
abbrev pub IsIndexBelow : ℤ → ℕ → Type 0
IsIndexBelow z n = (pos 0 ≤ℤ z) × (z <ℤ pos n)

-- a number of a run of whole numbers isn't
pub record IsOutOfRange (text : List ℕ) (step : ℤ) (m n : ℕ) : Type 0 where
  pub first : ℤ
  pub begins : IsWholeText text first
  pub k : ℕ
  pub inside : k < m
  pub out : IsIndexBelow (first +ℤ pos k *ℤ step) n → ⊥

-- `maxOrMin` says neither
abbrev pub HasNoSense : List Attribute → Type 0
HasNoSense as' = HasSuch as' (codes "maxOrMin") (λ text. IsAmong text senses → ⊥)

-- the element takes the items of its kind past the most that there may be
abbrev pub AreTooMany : State → List Attribute → Place → Type 0
AreTooMany s as' p = (m : ℕ) × SaysTimes as' m × (most p < items s p + m)

-- WHEN EACH TEST FAILS
abbrev pub Fails : State → Mark → Test → Type 0
Fails s m other_root = Unit {0}
Fails s m no_data = s.data_at ≡ 0
Fails s m no_variables = s.has_variables ≡ false
Fails s m some_lists = (0 < s.lists) × (s.lists < 3)
Fails s m beyond = Unit {0}
Fails s m in_further = Unit {0}
Fails s m second_data = 0 < s.data_at
Fails s m (late n) = n ≤ s.part
Fails s m (late_list n) = n ≤ s.list
Fails s m no_index = value_of (codes "idx") (attributes m) ≡ None
Fails s m (has name) = HasSuch (attributes m) name (λ text. Unit {0})
Fails s m no_sense = HasNoSense (attributes m)
Fails s m (bad f) = IsBad (attributes m) f
Fails s m (bad_text g) = IsOfGrammar g s.text → ⊥
Fails s m (too_great f) = IsTooGreat (attributes m) f
Fails s m (great_text g) = IsWideOf g s.text
Fails s m (great_end name) = IsGreatEnd (attributes m) name
Fails s m great_run = IsGreatRun s.text s.step s.times
Fails s m great_cost = IsGreatCost s.text s.costs s.variable
Fails s m great_entry = HasGreatEntry s
Fails s m (other_count part) = IsSomeAnd s.declared (λ n. n ≢ part_items s part)
Fails s m other_coefs = IsSomeAnd s.declared_coefs (λ n. n ≢ s.coefs)
Fails s m other_indices = (0 < s.lists) × (length s.indices ≢ length s.values)
Fails s m no_variable = HasSuch (attributes m) (codes "idx") (λ text. (j : ℕ) × IsCount text j × (length s.vars ≤ j))
Fails s m (out_of_range l) = IsOutOfRange s.text s.whole_step s.times (limit s l)
Fails s m undivided = (0 < s.lists) × (IsDivided s → ⊥)
Fails s m no_type = HasSuch (attributes m) (codes "type") (λ text. IsAmong text letter_names → ⊥)
Fails s m low_infinite = HasSuch (attributes m) (codes "lb") (λ text. SaysEnd text Inf)
Fails s m high_infinite = HasSuch (attributes m) (codes "ub") (λ text. SaysEnd text NegInf)
Fails s m (too_many p) = AreTooMany s (attributes m) p
