use Rattle.osil_grammar.proofs.Words.{◌≡◌, ◌∙◌, ◌++◌, List, ℕ, ap, subst, sym, ratio, PlainText}
use Rattle.osil_grammar.proofs.document.decimal.Goals as goal

pub returns-in-Ok : goal.returns-in-Ok
returns-in-Ok c =
    let wrote = c.in-Ok.ensures.ok in
    let from_nothing : c.new-text.result ++ wrote.written ≡ wrote.written = ap (λ (l : List ℕ). l ++ wrote.written) c.new-text.ensures in
    let back : wrote.written ≡ c.write_decimal.new.out = sym from_nothing ∙ sym wrote.after in
    ((wrote.written, wrote.read), subst (λ (t : List ℕ). PlainText t (ratio c.args.value)) back wrote.plain)
