use Rattle.std.proofs.lemmas.Result.{IfOk-weaker}
use Rattle.os_app.proofs.Summaries.{summary_is}
use Rattle.os_app.proofs.generating.generate.Goals as goal

pub returns : goal.returns
returns g c =
    IfOk-weaker c.summary_about.result _ _
    (λ a about. summary_is c.args.n c.in_ok-instance.instance c.in-Ok.osil c.as_slice.result.now c.as_slice-2.result.now c.as_slice-3.result.now c.in_ok-document.document a.status a.text
    c.in_ok-instance.ensures c.as_slice.ensures c.as_slice-2.ensures c.as_slice-3.ensures c.in-Ok.ensures.ok c.in_ok-document.ensures about)
    c.summary_about.ensures
