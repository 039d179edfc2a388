-- The marks of a written document say the process that it was written of.
use Rattle.std.proofs.Common.{◌≡◌, ℕ, Bool, true, false, None, Some, List, [], ◌∷◌, ◌++◌, refl, sym, subst, arith, append_assoc, append-nil}
use Rattle.std.specs.Prelude.{codes, decimal, map}
use Rattle.tree_grammar.specs.Elements.{Nodes, none, Event, Close, nodes_events}
use Rattle.doc_tree.specs.Marks.{Mark, Start, Char, Finish, spread}
use Rattle.document_tags.specs.Writing.{text_nodes, leaf, group, bare_root}
use Rattle.decimal_text.proofs.RoundTrips.{count_read}
use Rattle.tag_tests.specs.Forms.{TakesMark, AreTaken}
use Rattle.tag_tests.proofs.Forms.{taken_both}
use Rattle.tag_tests.proofs.Characters.{chars_kept}
use Rattle.ospl_grammar.specs.declared.process.StatedJob.{StatedJob}
use Rattle.ospl_grammar.specs.declared.process.Process.{Process}
use Rattle.ospl_grammar.specs.declared.process.Process.TheVariants.{Ask, Statistics}
use Rattle.ospl_grammar.specs.declared.parts.Parts.{Parts}
use Rattle.ospl_grammar.specs.declared.place.Place.{Place}
use Rattle.ospl_grammar.specs.declared.place.Place.TheVariants as places
use Rattle.ospl_grammar.specs.declared.parse_state.ParseState.{ParseState}
use Rattle.ospl_grammar.specs.Words.{busy_text, state_text}
use Rattle.ospl_grammar.specs.Parts.{no_parts}
use Rattle.ospl_grammar.specs.Table.{is_text}
use Rattle.ospl_grammar.specs.Marked.{ospl}
use Rattle.ospl_grammar.specs.Meaning.{asked_or_told, IsProcess, IsProcessText}
use Rattle.ospl_grammar.specs.Writing.{number_leaf, jobs_nodes, process_nodes, process_text}
use Rattle.ospl_grammar.specs.Back.{IsReadableProcess, ComesBack}
use Rattle.ospl_grammar.proofs.BackText.{text_document}

abbrev with : Place → Parts → List ℕ → ParseState
with p q t = record { place = p; depth = 0; text = t; parts = q; asked = None; told = None }

abbrev at : Place → Parts → ParseState
at p q = with p q []

-- from this state on these marks say this in the end
abbrev Say : ParseState → List Mark → Process → Type 0
Say s ms p = (z : ParseState) × AreTaken ospl s ms z × (Some p ≡ asked_or_told z.asked z.told)

chars_say : (text : List ℕ) (es : List Event) (s m : ParseState) (p : Process) → AreTaken ospl s (map Char text) m → Say m (spread es) p → Say s (spread (nodes_events (text_nodes text) es)) p
chars_say [] es s m p taken says = subst (λ (x : ParseState). Say x (spread es) p) taken says
chars_say (c ∷ cs) es s m p taken says = (says.0, taken_both ospl s m says.0 (map Char (c ∷ cs)) (spread es) taken says.1, says.2)

-- an element whose text is read
leaf_says : (name text : List ℕ) (more : Nodes) (es : List Event) (around inside : Place) (q r : Parts) (p : Process) → is_text inside ≡ true → TakesMark ospl (at around q) (Start name []) (at inside q)
    → TakesMark ospl (with inside q text) (Finish name) (at around r) → Say (at around r) (spread (nodes_events more es)) p → Say (at around q) (spread (nodes_events (leaf name text more) es)) p
leaf_says name text more es around inside q r p on begins ends says =
    let kept = chars_kept ospl (with inside q) (is_text inside) (λ t c. (tt, refl)) [] text text on refl in
    let rest = chars_say text (Close name ∷ nodes_events more es) (at inside q) (with inside q text) p kept (says.0, (at around r, ends, says.1), says.2) in
    (rest.0, (at inside q, begins, rest.1), rest.2)

module _ (busy : Bool) (current total : ℕ) where
  abbrev full : List StatedJob → Parts
  full jobs = record { fails = false; busy = Some busy; current = Some current; total = Some total; listed = true; jobs = jobs; id = None; state = None }

  jobs_say : (jobs done : List StatedJob) (es : List Event) (p : Process) → Say (at places.Jobs (full (done ++ jobs))) (spread es) p → Say (at places.Jobs (full done)) (spread (nodes_events (jobs_nodes jobs) es)) p
  jobs_say [] done es p says = subst (λ (l : List StatedJob). Say (at places.Jobs (full l)) (spread es) p) (append-nil done) says
  jobs_say (j ∷ jobs) done es p says =
      let rest = jobs_say jobs (done ++ j ∷ []) es p (subst (λ (l : List StatedJob). Say (at places.Jobs (full l)) (spread es) p) (sym (append_assoc done (j ∷ []) jobs)) says) in
      let named : Parts = record (full done) { id = Some j.id } in
      let stated : Parts = record (full done) { id = Some j.id; state = Some j.state } in
      let inner = leaf_says (codes "state") (state_text j.state) none (Close (codes "job") ∷ nodes_events (jobs_nodes jobs) es) places.Job places.State named stated p refl (tt, refl) (tt, (Some j.state, refl, refl)) (rest.0, (at places.Jobs (full (done ++ j ∷ [])), (tt, refl), rest.1), rest.2) in
      (inner.0, (at places.Job named, (tt, refl), inner.1), inner.2)

  statistics_say : (jobs : List StatedJob) → IsReadableProcess (Statistics busy current total jobs) → IsProcess (bare_root (codes "ospl") (process_nodes (Statistics busy current total jobs))) (Statistics busy current total jobs)
  statistics_say jobs is =
      let p : Process = Statistics busy current total jobs in
      let low = is.0 in
      let one : Parts = record no_parts { busy = Some busy } in
      let two : Parts = record no_parts { busy = Some busy; current = Some current } in
      let three : Parts = record no_parts { busy = Some busy; current = Some current; total = Some total } in
      let done : ParseState = record (at places.Data no_parts) { told = Some p } in
      let outer : ParseState = record done { place = places.Ospl } in
      let behind : ParseState = record done { place = places.Outside } in
      let after : List Event = Close (codes "statistics") ∷ Close (codes "processData") ∷ Close (codes "ospl") ∷ [] in
      let listed = jobs_say jobs [] (Close (codes "jobs") ∷ after) p (behind, (at places.Statistics (full jobs), (tt, refl), (done, (tt, refl), (outer, (tt, refl), (behind, (tt, refl), refl)))), refl) in
      let list : Nodes = group (codes "jobs") (jobs_nodes jobs) none in
      let third = leaf_says (codes "totalJobsSoFar") (decimal total) list after places.Statistics places.Total two three p refl (tt, refl) (tt, (Some total, count_read total is.1, refl)) (listed.0, (at places.Jobs (full []), (tt, refl), listed.1), listed.2) in
      let second = leaf_says (codes "currentJobCount") (decimal current) (number_leaf (codes "totalJobsSoFar") total list) after places.Statistics places.CurrentCount one two p refl (tt, refl) (tt, (Some current, (count_read current (omega (arith, low)), low), refl)) third in
      let first = leaf_says (codes "currentState") (busy_text busy) (number_leaf (codes "currentJobCount") current (number_leaf (codes "totalJobsSoFar") total list)) after places.Statistics places.CurrentState no_parts one p refl (tt, refl) (tt, (Some busy, refl, refl)) second in
      (first.0, (at places.Ospl no_parts, (tt, refl), (at places.Data no_parts, (tt, refl), (at places.Statistics no_parts, (tt, refl), first.1))), first.2)

process_said : (p : Process) → IsReadableProcess p → IsProcess (bare_root (codes "ospl") (process_nodes p)) p
process_said (Ask text) is =
    let asked : Place → ParseState = λ q. record (at q no_parts) { asked = Some text } in
    (asked places.Outside, (at places.Ospl no_parts, (tt, refl), (at places.Header no_parts, (tt, refl), (asked places.Request, (tt, refl), (asked places.Header, (tt, refl), (asked places.Ospl, (tt, refl), (asked places.Outside, (tt, refl), refl)))))), refl)
process_said (Statistics busy current total jobs) is = statistics_say busy current total jobs is

pub text_says : (p : Process) → ComesBack p → IsProcessText (process_text p) p
text_says p back = record {
  root = bare_root (codes "ospl") (process_nodes p);
  document = text_document p back;
  is = process_said p back.readable;
}
