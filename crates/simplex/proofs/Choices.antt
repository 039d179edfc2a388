-- What a choice says of what comes next, and so of what that is part of.
use Rattle.std.proofs.Common.{List}
use Rattle.evidence.specs.Instance.{Instance, width}
use Rattle.bases.specs.Dictionary.{Entries, Values, IsDictionary}
use Rattle.bases.specs.Program.{rows_with_goal}
use Rattle.bases.proofs.Lists.{same_basis}
use Rattle.std.proofs.Common.{◌+◌, Bool, sym, subst}
use Rattle.simplex_rules.specs.declared.columns.Status.{Status}
use Rattle.simplex_rules.specs.Statuses.{basic_in, HasDictionary}
use Rattle.simplex_rules.specs.Ends.{Terms, Clock}
use Rattle.simplex_rules.specs.Runs.{Next}
use Rattle.dictionary.specs.declared.dict.Dict.{Dict}
use Rattle.simplex.specs.declared.choosing.Choice.{Choice}
use Rattle.simplex.specs.declared.choosing.Choice.TheVariants as Has
use Rattle.dictionary.specs.Dict.{width_of, height_of, basic_of, entry_of, Holds}
use Rattle.simplex.specs.Tables.{AreStatuses, HasSizeOf}
use Rattle.simplex.specs.Choices.{ChoiceLeadsTo}

pub leads_map : (I : Instance) (ss : List Status) (u : Entries) (w : Values) (t : Terms) (c : Clock) (R S : Next → Type 0) → ((next : Next) → R next → S next) → (r : Choice) → ChoiceLeadsTo I ss u w t c R r → ChoiceLeadsTo I ss u w t c S r
leads_map I ss u w t c R S f (Has.Swap s) h = λ next p. f next (h next p)
leads_map I ss u w t c R S f (Has.Flip s) h = λ next p. f next (h next p)
leads_map I ss u w t c R S f (Has.Done d) h = f _ h

-- a dictionary that holds the program's rows is the one of the basis of its statuses
pub held_dictionary : {L : _} {G : _} (d : Dict L G) (I : Instance) (zeroed : Bool) (ss : List Status) → AreStatuses d ss → HasSizeOf I d → Holds (rows_with_goal zeroed I) d → HasDictionary I zeroed ss (entry_of d)
held_dictionary d I zeroed ss s size h =
    subst (λ m. IsDictionary (width I) (m + 1) (rows_with_goal zeroed I) (basic_in ss) (entry_of d)) size.height
    (subst (λ n. IsDictionary n (height_of d + 1) (rows_with_goal zeroed I) (basic_in ss) (entry_of d)) size.width
    (same_basis (width_of d) (height_of d + 1) (rows_with_goal zeroed I) (basic_of d) (basic_in ss) (entry_of d) (λ c l. sym (s.basic c l)) h.is))
