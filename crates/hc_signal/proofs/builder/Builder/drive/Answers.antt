use Rattle.std.proofs.Common.{refl}
use Rattle.hc_signal.specs.Builds.{driven_from}
use Rattle.hc_signal.proofs.Changed.{kept_row}
use Rattle.hc_signal.proofs.Drives.{driven_row, changed_rows}
use Rattle.hc_signal.proofs.builder.Builder.drive.Goals as goal

pub invariant_of-self : goal.invariant_of-self
invariant_of-self c =
    let r : _ = driven_row _ c.args.self.now c.args.wire c.args.from c.index_mut.result.now _ _ _ c.self.view_is c.self.invariant.lawful c.requires.wire c.requires.from c.index_mut.ensures.value c.width.ensures.value c.width-2.ensures.value c.in_ok-check_drive.ensures in
    kept_row _ c.args.wire.0 (driven_from c.args.from) c.index_mut.result.now c.connect.new.row _ _ _ _ c.self.invariant r.2 c.connect.ensures refl

pub returns-clause-made : goal.returns-clause-made
returns-clause-made c =
    let r : _ = driven_row _ c.args.self.now c.args.wire c.args.from c.index_mut.result.now _ _ _ c.self.view_is c.self.invariant.lawful c.requires.wire c.requires.from c.index_mut.ensures.value c.width.ensures.value c.width-2.ensures.value c.in_ok-check_drive.ensures in
    changed_rows _ c.args.self.now c.args.wire.0 (driven_from c.args.from) c.index_mut.result.now c.connect.new.row _ c.self.view_is r.0 c.connect.ensures refl
