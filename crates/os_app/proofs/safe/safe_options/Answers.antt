use Rattle.std.proofs.Common.{ap₂, length, sym, ◌∙◌}
use Rattle.no_cycles.specs.Limit.{safe_limit}
use Rattle.os_app.specs.Safe as safe
use Rattle.os_app.proofs.safe.safe_options.Goals as goal

pub returns-in-Err-Tree : goal.returns-in-Err-Tree
returns-in-Err-Tree c = safe.no_options _ (λ e. cc) c.in-Err-Tree.ensures.err

pub returns-in-Err-Refused : goal.returns-in-Err-Refused
returns-in-Err-Refused c = safe.no_options _ (λ e. cc) c.in-Err-Refused.ensures.err

pub returns-in-Err-Tree-decode : goal.returns-in-Err-Tree-decode
returns-in-Err-Tree-decode c = safe.no_instance _ (λ e. cc) c.in-Err-Tree-decode.ensures.err

pub returns-in-Err-Refused-decode : goal.returns-in-Err-Refused-decode
returns-in-Err-Refused-decode c = safe.no_instance _ (λ e. cc) c.in-Err-Refused-decode.ensures.err

pub returns-in_default : goal.returns-in_default
returns-in_default c = safe.no_limit c.in-Ok-decode.instance c.in-Ok-decode.ensures.ok (sym (ap₂ (λ vs rs. safe_limit (length vs) (length rs)) c.vars.ensures.value c.rows.ensures.value) ∙ sym c.in_default.ensures)

pub returns : goal.returns
returns c = record {
  options = c.in-Ok.options;
  said = c.in-Ok.ensures.ok;
  parts = c.in-Ok-decode.instance;
  instance = c.in-Ok-decode.ensures.ok;
  limit = c.in-Some.turns;
  enough = sym (ap₂ (λ vs rs. safe_limit (length vs) (length rs)) c.vars.ensures.value c.rows.ensures.value) ∙ sym c.in-Some.ensures;
  is = c.in_ok-encode.ensures;
}
