-- Links in memory, and those given back.
use Rattle.std.specs.Prelude.{List, [], ◌∷◌, ◌++◌, Option, Some, None}
use Rattle.std.specs.declared.boxed.Box.{Box}
use Rattle.os_io.specs.Streams.{Tells}
use Rattle.memory_ends.specs.Memory.{input_left, output_handed}
use Rattle.memory_ends.specs.declared.mem_link.Ways.{Ways}
use Rattle.memory_ends.specs.declared.mem_link.Kept.{Kept, Kept', out-Kept, Held-Kept-under, None', Some'}
use Rattle.memory_ends.specs.declared.mem_link.MemLink.{MemLink}

-- what both ways of a link tell
abbrev pub tells_of_ways : Ways → Tells
tells_of_ways w = record {
  left = Some (input_left w.input);
  written = Some w.output.bytes.items;
  handed_on = Some (output_handed w.output);
  read_faults = w.read_faults;
  write_faults = w.write_faults;
}

-- what a link tells
abbrev pub tells_of_link : MemLink → Tells
tells_of_link l = tells_of_ways (out-Kept l.place.value).ways

-- the links kept up to this one, in the order in which they were given back
abbrev mutual
  pub tells_up_to : Kept → List Tells
  tells_up_to (Kept' ways under) = tells_under under ++ tells_of_ways ways ∷ []

  pub tells_under : Held-Kept-under → List Tells
  tells_under None' = []
  tells_under (Some' p kept) = tells_up_to kept

-- all links kept, where the last one is given
abbrev pub tells_kept : {A : Type 0} → Option (Box Kept A) → List Tells
tells_kept None = []
tells_kept (Some place) = tells_up_to place.value
