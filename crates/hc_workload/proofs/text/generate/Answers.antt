use Rattle.std.proofs.Common.{◌∙◌, ap, ◌++◌}
use Rattle.hc_workload.specs.Workload.{workload, workload_template}
use Rattle.hc_workload.specs.Template.{filled}
use Rattle.hc_workload.proofs.text.generate.Goals as goal

pub returns : goal.returns
unfolding workload
returns c =
    c.in_ok-push_workload.ensures.text ∙ ap (λ t. t ++ filled c.args.seed workload_template) c.in_ok-with_capacity.ensures.items
