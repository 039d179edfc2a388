-- What the marks of a result document leave so far: where they end, and what they say.
use Rattle.std.specs.Prelude.{ℕ, Bool, false, Option, None, List, []}
use Rattle.osrl_writing.specs.declared.report.Report.{Report}
use Rattle.osrl_writing.specs.declared.report.JobStatus.TheVariants.{Unknown}
use Rattle.osrl_grammar.specs.declared.held.Held.{Held}
use Rattle.osrl_grammar.specs.declared.parts.BadItem.{BadItem}
use Rattle.osrl_grammar.specs.declared.elements.Place.{Place}
use Rattle.osrl_grammar.specs.declared.elements.Place.TheVariants.{Outside}

pub record State : Type 0 where
  -- the innermost element that they end in and that is read, and how many elements are open in it that are passed over
  pub place : Place
  pub depth : ℕ
  -- how many items of certificates' parts have begun, and what was heard of the latest element whose text is read
  pub count : ℕ
  pub text : List ℕ
  -- the first of each: the type of the general status, the texts of the job and of the message without white space round them, the text of the job's status, and the type of a solution's status; a type that isn't there is empty
  pub general : Option (List ℕ)
  pub job : Option (List ℕ)
  pub message : Option (List ℕ)
  pub status : Option (List ℕ)
  pub claiming : Option (List ℕ)
  -- whether a solution has begun, and whether a second one, or a part of a certificate again
  pub has_solution : Bool
  pub twice : Bool
  -- the number of the first item that begins with the word of a level, where the solution may speak of one level; and the first item that isn't read, behind which no item says anything
  pub level : Option ℕ
  pub bad : Option BadItem
  -- what its parts hold
  pub held : Held
  -- behind the root what it reports
  pub report : Report

-- no part of a certificate has begun
abbrev pub nothing_held : Held
nothing_held = record {
  has_point = false;
  has_value = false;
  has_ray = false;
  has_cause = false;
  has_bound = false;
  has_rounds = false;
  has_tree = false;
  point = [];
  values = [];
  ray = [];
  causes = [];
  bounds = [];
  rounds = [];
  levels = [];
  tree = [];
}

-- the same, but that a bound was told
abbrev pub emptied : Held → Held
emptied h = record nothing_held { has_bound = h.has_bound }

-- what stands in place of a report before the root has ended; the marks of a root always end it
abbrev pub nothing_said : Report
nothing_said = record { error = false; job = None; message = None; status = Unknown; claim = None }

-- before all marks
abbrev pub start : State
start = record {
  place = Outside;
  depth = 0;
  count = 0;
  text = [];
  general = None;
  job = None;
  message = None;
  status = None;
  claiming = None;
  has_solution = false;
  twice = false;
  level = None;
  bad = None;
  held = nothing_held;
  report = nothing_said;
}
