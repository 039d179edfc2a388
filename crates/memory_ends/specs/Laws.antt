-- What shows the laws of a watch in memory.
use Rattle.std.specs.Prelude.{ℕ, ◌+◌, List, [], ◌∷◌, ◌++◌, Bool, refl}
use Rattle.std.proofs.Common.{sym, ◌∙◌, ap, subst}
use Rattle.std.proofs.Math.Nat.{add_assoc, add-zero}
use Rattle.os_io.specs.Looks.{stops_of, next_call}
use Rattle.os_io.specs.Laws.{stops_more}
use Rattle.memory_ends.specs.Looks.{AreAnswers, CameInMemory}
use Rattle.memory_ends.specs.declared.mem_watch.MemWatch.{MemWatch}

-- answers after answers
pub answers_on : (numbers : List ℕ) (first second : List Bool) (a b c : ℕ) → AreAnswers numbers a first b → AreAnswers numbers b second c → AreAnswers numbers a (first ++ second) c
answers_on numbers [] second a b c p q = subst (λ k. AreAnswers numbers k second c) p q
answers_on numbers (x ∷ first) second a b c (is, p) q = (is, answers_on numbers first second (next_call a) b c p q)

-- a watch in memory without a look
pub came_without : (w : MemWatch) → CameInMemory w w []
came_without w = record { same = refl; listed = refl; counted = sym (add-zero w.stops) }

-- a watch in memory, looks after looks
pub came_on : (a b c : MemWatch) (first second : List Bool) → CameInMemory a b first → CameInMemory b c second → CameInMemory a c (first ++ second)
came_on a b c first second p q = record {
  same = q.same ∙ p.same;
  listed = answers_on a.script.fails.items first second a.script.calls b.script.calls c.script.calls p.listed (subst (λ numbers. AreAnswers numbers b.script.calls second c.script.calls) (ap (λ v. v.items) p.same) q.listed);
  counted = q.counted ∙ ap (λ n. n + stops_of second) p.counted ∙ add_assoc a.stops (stops_of first) (stops_of second) ∙ ap (λ n. a.stops + n) (sym (stops_more first second));
}
