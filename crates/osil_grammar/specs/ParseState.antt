-- What the marks of an OSiL document leave so far: where they end, what is still to be compared, and what they say.
use Rattle.std.specs.Prelude.{ℕ, Bool, false, Option, None, ℤ, pos, List, []}
use Rattle.fraction.specs.declared.frac.Frac.{Frac}
use Rattle.fraction.specs.declared.ends.Entry.{Entry}
use Rattle.instance.specs.declared.parts.Var.{Var}
use Rattle.instance.specs.declared.parts.Row.{Row}
use Rattle.instance.specs.declared.parts.Goal.{Goal}
use Rattle.instance.specs.declared.parts.Sense.{Sense}
use Rattle.instance.specs.declared.parts.Sense.TheVariants.{Min}
use Rattle.osil_grammar.specs.declared.elements.Place.{Place}
use Rattle.osil_grammar.specs.declared.elements.Place.TheVariants.{Outside}
use Rattle.osil_grammar.specs.Grammars.{nought}

pub record State : Type 0 where
  -- the element that they end in, how many start tags they have, and how many elements are open in one that is passed over
  pub place : Place
  pub count : ℕ
  pub depth : ℕ
  -- the ordinals of `instanceData` (0 before it), of its latest part, and of the latest `obj`
  pub data_at : ℕ
  pub part_at : ℕ
  pub obj_at : ℕ
  -- the latest part that is read, by its place in their order (0 before the first), whether `variables` has begun, and the name of the latest further part
  pub part : ℕ
  pub has_variables : Bool
  pub further : List ℕ
  -- the latest list of the matrix, by its place in their order (0 before the first), and how many have begun
  pub list : ℕ
  pub lists : ℕ
  -- the count that the latest part, and the latest `obj`, declares
  pub declared : Option ℕ
  pub declared_coefs : Option ℕ
  -- how many `coef` the latest `obj` has, and what it says: its sense, its constant, and its costs so far (none behind it)
  pub coefs : ℕ
  pub sense : Sense
  pub constant : Frac
  pub costs : List Frac
  -- for how many goals the latest `obj`, or for how many numbers the latest `el`, stands
  pub times : ℕ
  -- of the latest `coef` its variable; of the latest `el` its step, as a whole number and as a decimal
  pub variable : ℕ
  pub whole_step : ℤ
  pub step : Frac
  -- the characters in the latest `coef` or `el`
  pub text : List ℕ
  -- what is said
  pub vars : List Var
  pub rows : List Row
  pub goals : List Goal
  pub by_columns : Bool
  pub starts : List ℕ
  pub indices : List ℕ
  pub values : List Frac
  pub entries : List Entry

-- before all marks
abbrev pub start : State
start = record {
  place = Outside;
  count = 0;
  depth = 0;
  data_at = 0;
  part_at = 0;
  obj_at = 0;
  part = 0;
  has_variables = false;
  further = [];
  list = 0;
  lists = 0;
  declared = None;
  declared_coefs = None;
  coefs = 0;
  sense = Min;
  constant = nought;
  costs = [];
  times = 0;
  variable = 0;
  whole_step = pos 0;
  step = nought;
  text = [];
  vars = [];
  rows = [];
  goals = [];
  by_columns = false;
  starts = [];
  indices = [];
  values = [];
  entries = [];
}
