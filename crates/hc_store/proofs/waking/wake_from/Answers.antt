use Rattle.std.proofs.Common.{◌<◌, Bool, false, List, refl, sym, subst, ap, ◌∙◌}
use Rattle.std.specs.Prelude.{slice_index_or}
use Rattle.hc_rows.specs.Rows.{flat}
use Rattle.hc_store.proofs.Wakes.{IsWaking, left_of, waking_starts, waking_steps, waking_smaller, waking_ends_on, waking_ends_closed}
use Rattle.hc_store.proofs.waking.wake_from.Goals as goal

pub up-init : goal.up-init
up-init c = record { shape = refl; waking = waking_starts c.args.up.now (flat c.args.stale.now) c.args.part c.requires.many c.requires.there }

pub up-preserved : goal.up-preserved
up-preserved c = record {
  shape = c.put_item.ensures.shape ∙ c.up.invariant.shape;
  waking = subst (λ (marks : List Bool). IsWaking c.args.up.now (flat c.args.stale.now) marks c.args.part (slice_index_or c.args.up.now c.up.at 0)) (sym c.put_item.ensures.items)
      (waking_steps c.args.up.now (flat c.args.stale.now) (flat c.up.stale) c.args.part c.up.at c.requires.up c.up.invariant.waking);
}

pub up-smaller : goal.up-smaller
up-smaller c =
    subst (λ (marks : List Bool). left_of marks (slice_index_or c.args.up.now c.up.at 0) < left_of (flat c.up.stale) c.up.at) (sym c.put_item.ensures.items)
    (waking_smaller c.args.up.now (flat c.args.stale.now) (flat c.up.stale) c.args.part c.up.at c.requires.up c.up.invariant.waking
    (ap (λ (marks : List Bool). slice_index_or marks c.up.at false) (sym c.items.ensures) ∙ c.up-test.true))

pub returns-clause-on : goal.returns-clause-on
returns-clause-on c = waking_ends_on c.args.up.now (flat c.args.stale.now) (flat c.up.stale) c.args.part c.up.at c.requires.up c.up.invariant.waking
    (ap (λ (marks : List Bool). slice_index_or marks c.up.at false) (sym c.items.ensures) ∙ c.up-test.false)

pub returns-clause-closed : goal.returns-clause-closed
returns-clause-closed c = waking_ends_closed c.args.up.now (flat c.args.stale.now) (flat c.up.stale) c.args.part c.up.at c.requires.up c.up.invariant.waking
    (ap (λ (marks : List Bool). slice_index_or marks c.up.at false) (sym c.items.ensures) ∙ c.up-test.false)
