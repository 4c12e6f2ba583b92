use Rattle.std.proofs.Common.{◌≡◌, ◌++◌, subst, OnOk}
use Rattle.hc_paths.proofs.Picked.{none_adds, picks}
use Rattle.hc_paths.proofs.fanin.add_through.Goals as goal

pub returns-in-None : goal.returns-in-None
returns-in-None c = none_adds _ _ _ _ c.in-None.ensures.lookup.3

pub returns-in-Some-mask_at : goal.returns-in-Some-mask_at
returns-in-Some-mask_at c =
    let h = c.in-Some.ensures.lookup in
    subst (λ z. OnOk c.add_picked.result (c.add_picked.new.ids.items ≡ c.args.ids.now.items ++ z)) (picks _ _ _ _ c.in-Some-mask_at.mask c.as_slice.result.now h.3.0 h.1 c.in-Some-mask_at.ensures c.as_slice.ensures) c.add_picked.ensures
