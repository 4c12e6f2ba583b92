use Rattle.std.proofs.Common.{◌≡◌, [], ◌+◌, map, drop, subst, sym}
use Rattle.hc_lang.specs.Reads.{first_repeated}
use Rattle.hc_lang.proofs.Distinct.{text_at}
use Rattle.hc_lang.proofs.Repeats.{found_again, found_first, found_other}
use Rattle.hc_lang.proofs.names.first_repeated.Goals as goal
use Rattle.hc_lang.proofs.names.first_repeated.Goals.{in-Circuit+in_ok-insert+else-not-branch, in_default}

pub returns-then-not-branch : goal.returns-then-not-branch
returns-then-not-branch c = found_again c.row.seen.keys _ c.row.number-index c.row-item.result _ _ c.bytes.result c.in_ok-insert.field-0 _ c.row-test.true c.row-item.is
    c.in-Circuit.is c.bytes.ensures c.row.invariant c.in_ok-insert.ensures.added c.if-not-branch.true

pub row-preserved : goal.row-preserved
row-preserved c = elim c.match-line.branch [
  | in-Circuit+in_ok-insert+else-not-branch w ↦ subst (λ s. first_repeated (map text_at s.keys) (drop (c.row.number-index + 1) c.args.rows.now) ≡ first_repeated [] c.args.rows.now)
      (sym w.seen-is) (found_first c.row.seen.keys w.insert.new.self.keys c.args.rows.now c.row.number-index c.row-item.result _ _ w.bytes.result w.in_ok-insert.field-0 _
      c.row-test.true c.row-item.is w.in-Circuit.is w.bytes.ensures c.row.invariant w.in_ok-insert.ensures.added w.if-not-branch.false w.in_ok-insert.ensures.updates.0)
  | in_default w ↦ subst (λ s. first_repeated (map text_at s.keys) (drop (c.row.number-index + 1) c.args.rows.now) ≡ first_repeated [] c.args.rows.now) (sym w.seen-is)
      (found_other c.row.seen.keys c.args.rows.now c.row.number-index c.row-item.result _ c.row-test.true c.row-item.is w.in_default.not-Circuit c.row.invariant)
]
