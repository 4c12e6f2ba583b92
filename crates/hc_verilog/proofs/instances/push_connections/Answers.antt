use Rattle.std.proofs.Common.{map, ap, inl, inr}
use Rattle.std.specs.Slice.Iter.{iter_rest}
use Rattle.hc_bits.specs.Digits.{lines_text}
use Rattle.hc_naming.specs.NameTable.{name_by}
use Rattle.hc_verilog.specs.Templates.{connection_line}
use Rattle.hc_verilog.proofs.Texts.{finished, zip_none_left, zip_none_right}
use Rattle.hc_verilog.proofs.instances.push_connections.Goals as goal

pub returns : goal.returns
returns c =
    finished _ _ _
    (ap (λ l. lines_text (map (connection_line (name_by c.args.names.now)) l))
    (elim c.in-None.ensures.steps [
      | inl none ↦ zip_none_left (iter_rest c.loop-port.port-iterator.a) (iter_rest c.loop-port.port-iterator.b) none.1.0
      | inr none ↦ zip_none_right (iter_rest c.loop-port.port-iterator.a) (iter_rest c.loop-port.port-iterator.b) none.1.0
    ]))
    c.loop-port.invariant
