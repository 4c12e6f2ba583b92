use Rattle.std.proofs.Common.{◌≡◌, ◌+◌, ◌<◌, ◌≤◌, length, map, get_or, sym, ap, arith}
use Rattle.std.specs.Prelude.{nat_lt}
use Rattle.std.specs.List.{zip}
use Rattle.std.proofs.lemmas.Option.{slice_get-get_or}
use Rattle.std.proofs.lemmas.Slice.Zip.{length-zip}
use Rattle.hc_bits.specs.Digits.{lines_text}
use Rattle.hc_naming.specs.NameTable.{name_by}
use Rattle.hc_naming.proofs.Lists.{drop_all, get_zipped}
use Rattle.hc_naming.proofs.Taking.{at_place}
use Rattle.hc_verilog.specs.Templates.{output_line, with_commas}
use Rattle.hc_verilog.proofs.Texts.{one_more, finished, line_cut}
use Rattle.hc_verilog.proofs.header.push_outputs.Goals as goal

pub loop-k-preserved : goal.loop-k-preserved
loop-k-preserved c =
    let ids = c.args.ids.now in
    let ports = c.args.ports.now in
    let k = c.loop-k.k in
    let lt : k < length ids = omega arith in
    let paired : length (zip ids ports) ≡ length ports = omega (arith, length-zip ids ports) in
    one_more _ _ _ _ _ _ c.in_ok-push_output.ensures
    (line_cut (output_line (name_by c.args.names.now)) (zip ids ports) k (get_or ids k (record { 0 = 0 }), c.index-ports-k.result) _
    (get_zipped ids ports k _ _ (slice_get-get_or ids k (record { 0 = 0 }) lt) (at_place _ _ _ c.loop-k-test.true c.index-ports-k.is))
    (ap (nat_lt (k + 1)) (sym paired)))
    c.loop-k.invariant

pub returns : goal.returns
returns c =
    let pairs = zip c.args.ids.now c.args.ports.now in
    let over : length pairs ≤ c.loop-k.k = omega (arith, length-zip c.args.ids.now c.args.ports.now) in
    finished _ _ _ (ap (λ l. lines_text (with_commas (map (output_line (name_by c.args.names.now)) l))) (drop_all pairs c.loop-k.k over)) c.loop-k.invariant
