use Rattle.sessions.proofs.SoundJournals.{journals_sound}
use Rattle.sessions.proofs.laws.journals_stay_sound.Goals as goal

pub returns : goal.returns
returns c = journals_sound c.puts_stay_sound.ensures.sound
