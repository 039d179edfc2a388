use Rattle.std.proofs.Common.{◌≡◌, refl, ◌∙◌, ap, rules}
use Rattle.memory_disks.specs.declared.mem_stores.Kept.{out-Kept, the_lemmas}
use Rattle.memory_disks.proofs.mem_stores.MemStoreDisk.write_at.Goals as goal

pub returns-clause-crash : goal.returns-clause-crash
returns-clause-crash c = λ told file is.
    let now : file ≡ c.write_at.new.self.bytes.items = search (rules, the_lemmas, is) in
    let left = c.write_at.ensures.crash refl file now in
    (left.0, left.1 ∙ ap (λ k. (out-Kept k).disk.bytes.items) c.deref_mut.ensures.value, left.2)
