use Rattle.std.proofs.Common.{◌≡◌, sym, ap, ◌∙◌}
use Rattle.job_table.specs.Jobs.{Register, beginning}
use Rattle.desk.proofs.plain.Desk+J.new.Goals as goal

pub open-requires : goal.open-requires
open-requires g c =
    let begun : beginning c.new.result.first ≡ c.new.result = ap (λ (r : Register). beginning r.first) c.new.ensures ∙ sym c.new.ensures in
    λ i. record { table = begun i }
