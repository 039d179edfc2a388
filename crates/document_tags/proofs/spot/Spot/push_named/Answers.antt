use Rattle.std.proofs.Common.{◌∙◌, List, ℕ, ap, sym, bytes_eq}
use Rattle.document_tags.proofs.Spots.{kept, passed_over}
use Rattle.document_tags.proofs.spot.Spot.push_named.Goals as goal

pub returns-in_ok-push : goal.returns-in_ok-push
returns-in_ok-push c = λ e es stands spots.
    kept (bytes_eq e.name c.args.name.now) c.args.out.now.items _ es c.args.self.now e (ap (λ (n : List ℕ). bytes_eq n c.args.name.now) (sym (c.name.ensures e stands)) ∙ sym c.eq.ensures ∙ c.if-eq.true) c.in_ok-push.ensures.items spots stands

pub returns-else-eq : goal.returns-else-eq
returns-else-eq c = λ e es stands spots.
    passed_over (bytes_eq e.name c.args.name.now) c.args.out.now.items es e (ap (λ (n : List ℕ). bytes_eq n c.args.name.now) (sym (c.name.ensures e stands)) ∙ sym c.eq.ensures ∙ c.if-eq.false) spots
