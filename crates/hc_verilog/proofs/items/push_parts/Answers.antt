use Rattle.std.proofs.Common.{refl}
use Rattle.std.proofs.lemmas.Option.{slice_get-get_or}
use Rattle.hc_naming.specs.NameTable.{name_by}
use Rattle.hc_naming.specs.ModuleNames.{name_of_id}
use Rattle.hc_verilog.proofs.Texts.{one_more, part_cut}
use Rattle.hc_verilog.proofs.items.push_parts.Goals as goal

pub loop-number-preserved : goal.loop-number-preserved
loop-number-preserved c =
    one_more _ _ _ _ _ _ c.in_ok-push_part.ensures
    (part_cut (name_of_id (name_by c.args.names.now)) c.args.parts.now c.loop-number.number _ _
    (slice_get-get_or c.args.parts.now c.loop-number.number (record { 0 = 0 }) c.loop-number-test.true) refl)
    c.loop-number.invariant
