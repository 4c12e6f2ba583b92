use Rattle.std.proofs.Common.{◌+◌, ◌≤◌, length, map, sym, ap, arith}
use Rattle.std.specs.Prelude.{nat_lt}
use Rattle.std.specs.List.{enumerate_from}
use Rattle.std.proofs.lemmas.List.FromFn.{length-enumerate_from}
use Rattle.hc_bits.specs.Digits.{lines_text}
use Rattle.hc_naming.specs.NameTable.{name_by}
use Rattle.hc_naming.proofs.Lists.{drop_all}
use Rattle.hc_naming.proofs.Taking.{at_place}
use Rattle.hc_verilog.specs.Results.{result_name}
use Rattle.hc_verilog.specs.Templates.{result_line, with_commas}
use Rattle.hc_verilog.proofs.Texts.{one_more, finished, line_cut, get_numbered}
use Rattle.hc_verilog.proofs.instances.push_results.Goals as goal

pub loop-number-preserved : goal.loop-number-preserved
loop-number-preserved c =
    let ports = c.args.ports.now in
    let k = c.loop-number.number in
    one_more _ _ _ _ _ _ c.in_ok-push_result.ensures
    (line_cut (result_line (result_name (name_by c.args.names.now) c.args.results.now.entries c.args.instance)) (enumerate_from 0 ports) k (k, c.index-ports-number.result) _
    (get_numbered ports k _ (at_place _ _ _ c.loop-number-test.true c.index-ports-number.is))
    (ap (nat_lt (k + 1)) (sym (length-enumerate_from 0 ports))))
    c.loop-number.invariant

pub returns : goal.returns
returns c =
    let ports = enumerate_from 0 c.args.ports.now in
    let over : length ports ≤ c.loop-number.number = omega (arith, length-enumerate_from 0 c.args.ports.now) in
    finished _ _ _ (ap (λ l. lines_text (with_commas (map (result_line (result_name (name_by c.args.names.now) c.args.results.now.entries c.args.instance)) l)))
    (drop_all ports c.loop-number.number over)) c.loop-number.invariant
