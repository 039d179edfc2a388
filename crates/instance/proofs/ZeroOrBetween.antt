-- What a variable keeps, by whether it may be 0.
use Rattle.std.proofs.Common.{◌≡◌, ◌↔◌, Bool, true, false, pos, ◌*ℤ◌, ap, sym, ◌∙◌, IsTrue}
use Rattle.std.proofs.Math.IntN.{*ℤ_comm, zero-*ℤ}
use Rattle.rational.specs.Ratio.{Ratio, IsSame, IsNumber}
use Rattle.evidence.specs.Sums.{none, IsWhole}
use Rattle.evidence.specs.Instance as Of
use Rattle.evidence.specs.Columns.{Keeps}
use Rattle.evidence.proofs.Numbers.{one_times}
use Rattle.evidence.proofs.SemiVariables.{semi_kept}
use Rattle.instance.specs.Program.{range_by, further_by}
use Rattle.instance.specs.Feasibility.{IsZeroOrWithin}

abbrev of : Bool → Of.Range → Bool → Of.Variable
of zero r whole = record { range = range_by zero r; whole = whole; unless_zero = further_by zero r }

pub kept : (zero : Bool) (r : Of.Range) (whole : Bool) (x : Ratio) → Of.HasNumbers r → IsNumber x → Keeps (of zero r whole) x ↔ (IsZeroOrWithin zero r x × (IsTrue whole → IsWhole x))
kept true r whole x h p = semi_kept r whole x h p
kept false r whole x h p = (λ k. (k.between, k.whole), λ k. record { between = k.0; whole = k.1; further = tt })
