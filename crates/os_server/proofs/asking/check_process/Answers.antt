use Rattle.std.proofs.Common.{◌∙◌, List, ℕ, Result, sym, subst}
use Rattle.std.specs.Prelude.{IfErr}
use Rattle.ospl_grammar.specs.Refusals.{DecodeFails}
use Rattle.os_server.specs.declared.fault.OrderFault as none
use Rattle.os_server.specs.Orders.{OrdersNothing}
use Rattle.os_server.proofs.Bodies.{not_empty}
use Rattle.os_server.proofs.asking.check_process.Goals as goal
use Rattle.os_server.proofs.asking.check_process.Goals.{in-Ok, in-Err}

pub returns-clause-err : goal.returns-clause-err
returns-clause-err c =
    elim c.match-decode.branch [
      | in-Ok w ↦ subst (λ (r : Result (Unit {0}) none.OrderFault). IfErr r (OrdersNothing c.args.call.now)) (sym w.result-is) tt
      | in-Err w ↦
          subst (λ (r : Result (Unit {0}) none.OrderFault). IfErr r (OrdersNothing c.args.call.now)) (sym w.result-is)
          (w.refused_process.ensures c.args.call.now c.args.options.now c.requires
          (λ empty. not_empty c.as_slice-process.result.now c.is_empty.result c.is_empty.ensures c.if-is_empty.false (c.as_slice-process.ensures ∙ empty))
          (subst (λ (t : List ℕ). DecodeFails t w.in-Err.fault) c.as_slice-process.ensures w.in-Err.ensures.err))
    ]
