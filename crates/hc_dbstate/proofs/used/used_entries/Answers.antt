use Rattle.std.proofs.Common.{ℕ, ◌-◌, false, List, replicate, refl, sym, ap, subst, ◌∙◌, arith}
use Rattle.std.specs.Prelude.{Bool}
use Rattle.hc_dbstate.specs.Uses.{IsMarked, with_mark, with_marks}
use Rattle.hc_dbstate.proofs.Marks.{AreUsesAbove, starts, takes, ends}
use Rattle.hc_dbstate.proofs.used.used_entries.Goals as goal

pub loop-place-init : goal.loop-place-init
loop-place-init c =
    subst (AreUsesAbove c.args.db.now.entries c.args.top c.mark.new.marks.items) (sym c.len-place.ensures)
    (starts c.args.db.now.entries c.args.top c.mark.new.marks.items c.requires
    (c.mark.ensures ∙ ap (λ (marks : List Bool). with_mark marks c.args.top) (c.in_ok-marks.ensures ∙ ap (λ (n : ℕ). replicate n false) c.len.ensures)))

pub loop-place-preserved-then-is_marked : goal.loop-place-preserved-then-is_marked
loop-place-preserved-then-is_marked c =
    takes c.args.db.now.entries c.args.top c.loop-place.marks.items c.mark_all.new.marks.items c.loop-place.place (c.loop-place.place - 1) c.get.result.now
    (λ k form id at has. c.legal.ensures.kids k form id at has) (omega (arith, c.loop-place-test.true))
    (subst (λ (marks : List Bool). IsMarked marks (record { 0 = c.loop-place.place - 1 })) c.deref.ensures.value (c.if-is_marked.ensures.0 refl)) c.get.ensures
    (c.mark_all.ensures ∙ ap (with_marks c.loop-place.marks.items) c.kids.ensures) c.loop-place.invariant

pub returns : goal.returns
returns c = ends c.args.db.now.entries c.args.top c.loop-place.marks.items c.loop-place.place (omega (arith, c.loop-place-test.false)) c.loop-place.invariant
