use Rattle.std.proofs.Common.{◌≡◌, ◌≤◌, length, ap, sym, ◌∙◌, arith}
use Rattle.std.specs.Prelude.{is_some, not}
use Rattle.std.specs.Map.{keys_of}
use Rattle.std.proofs.lemmas.List.{length-map}
use Rattle.hc_names.proofs.Numbered.{given_below_fit}
use Rattle.hc_names.proofs.Table.{given_one_more}
use Rattle.hc_names.proofs.used.first_free.Goals as goal

pub loop-number-preserved : goal.loop-number-preserved
loop-number-preserved c =
    given_one_more c.args.names.now.entries c.args.name.now c.in_ok-numbered.numbered c.loop-number.number
    (ap is_some (sym c.number_of.ensures) ∙ c.is_none.ensures ∙ ap not c.if-is_none.false) c.in_ok-numbered.ensures c.loop-number.invariant

pub unreachable-requires : goal.unreachable-requires
unreachable-requires c =
    let begins : c.args.from ≤ length (keys_of c.args.names.now.entries) = given_below_fit c.args.name.now c.args.from (keys_of c.args.names.now.entries) (omega arith) c.requires in
    let many : length (keys_of c.args.names.now.entries) ≡ length c.args.names.now.entries = length-map _ _ in
    let ends : c.loop-number.number ≤ length (keys_of c.args.names.now.entries) = given_below_fit c.args.name.now c.loop-number.number (keys_of c.args.names.now.entries)
    (omega arith) c.loop-number.invariant in
    omega arith
