use Rattle.os_app.proofs.WithinTurns.{run_within}
use Rattle.os_app.proofs.laws.safe_solves_stay_within_turns.Goals as goal

pub returns : goal.returns
returns g c = λ status run stores stores_after osil_name options_name halt_name osil p seconds runs solve nothing holds text single plain ranges feasible few.
    run_within (record {
      numbers = c.programs_have_numbers.ensures;
      within = c.safe_limits_are_enough_from_points.ensures;
      once = c.documents_mean_one_instance.ensures.text;
      back = c.comes_back.ensures;
      written = c.read_options_come_back.ensures;
      nothing = c.written_options_hand_in_nothing.ensures;
      read_options = c.options_are_not_refused.ensures.text;
      read_instance = c.documents_are_refused_in_one_way.ensures.no_fault;
    }) status run osil_name options_name osil p halt_name seconds solve nothing holds text single plain ranges feasible few g.K.Store.Disk _ runs.ends
