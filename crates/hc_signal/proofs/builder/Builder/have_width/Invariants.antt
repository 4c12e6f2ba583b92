use Rattle.std.proofs.Common.{◌≡◌, ◌==◌, drop}
use Rattle.std.specs.List.{list_all}
use Rattle.hc_signal.specs.Builds.{widths_at}
use Rattle.hc_signal.proofs.builder.Builder.have_width.Given as goal

-- those that are left decide
abbrev pub invariant-loop-id : goal.invariant-loop-id
invariant-loop-id l = list_all (λ w. w == l.width) (widths_at l.self (drop l.id-index l.ids)) ≡ list_all (λ w. w == l.width) (widths_at l.self l.ids)
