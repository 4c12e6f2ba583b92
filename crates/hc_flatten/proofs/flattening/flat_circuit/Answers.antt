use Rattle.std.proofs.Common.{◌<◌, ◌≤◌, length, sym, ap, subst, ◌∙◌}
use Rattle.hc_signal.specs.declared.signal.Ports.{Ports}
use Rattle.hc_signal.specs.Graph.{Graph}
use Rattle.hc_canon.specs.declared.form.EntryId.{EntryId}
use Rattle.hc_dbstate.specs.Unfolding.{unfolding_of}
use Rattle.hc_dbstate.specs.declared.hier.Hier.TheFolds.{fold_out-Hier}
use Rattle.hc_dbstate.specs.Elaboration.{HierView, hier_level, hier_view}
use Rattle.hc_flatten.specs.Flattened.{IsFlattened}
use Rattle.hc_flatten.proofs.Elaborated.{top_within}
use Rattle.hc_flatten.proofs.Flattens.{flattens}
use Rattle.hc_flatten.proofs.flattening.flat_circuit.Goals as goal

pub lay_top-requires : goal.lay_top-requires
lay_top-requires c =
    subst (λ (e : EntryId). e.0 < length c.args.db.now.entries) (ap (λ (v : HierView). v.own.entry) (fold_out-Hier HierView hier_level c.args.hier.now))
    (top_within c.args.db.now c.legal.ensures c.args.hier.now c.requires (c.walks_are_whole.ensures.own c.args.hier.now) (c.walks_are_whole.ensures.kids c.args.hier.now))

pub get-requires : goal.get-requires
get-requires c =
    subst (λ (e : EntryId). e.0 < length c.args.db.now.entries) (ap (λ (v : HierView). v.own.entry) (fold_out-Hier HierView hier_level c.args.hier.now))
    (top_within c.args.db.now c.legal.ensures c.args.hier.now c.requires (c.walks_are_whole.ensures.own c.args.hier.now) (c.walks_are_whole.ensures.kids c.args.hier.now))

pub of_parts-requires : goal.of_parts-requires
of_parts-requires c =
    (flattens c.args.db.now c.legal.ensures c.args.hier.now c.requires (c.walks_are_whole.ensures.own c.args.hier.now) (c.walks_are_whole.ensures.kids c.args.hier.now) _ c.get.result.now _ _ _ _ _
    (ap (λ (v : HierView). v.own.entry) (fold_out-Hier HierView hier_level c.args.hier.now)) c.get.ensures
    (c.in_ok-ports.ensures ∙ ap (λ (p : Ports). p) (c.ports.ensures ∙ ap (λ (g : Graph). g.ports) c.circuit-circuit.ensures))
    (c.in_ok-outputs.ensures ∙ c.outputs.ensures ∙ ap (λ (g : Graph). g.outputs) c.circuit-circuit.ensures)
    (c.from_vec.ensures ∙ c.in_ok-nodes.ensures.nodes)
    (c.from_vec-2.ensures ∙ c.in_ok-nodes.ensures.memories)
    c.new.ensures
    (subst (λ l. length l ≤ 4294967296) (sym (c.from_vec.ensures)) c.in_ok-nodes.ensures.few.0)
    (subst (λ l. length l ≤ 4294967296) (sym (c.from_vec-2.ensures)) c.in_ok-nodes.ensures.few.1)).lawful

pub returns : goal.returns
returns c =
    subst (IsFlattened (unfolding_of c.args.db.now.entries (hier_view c.args.hier.now).own.entry)) (sym c.of_parts.ensures)
    (flattens c.args.db.now c.legal.ensures c.args.hier.now c.requires (c.walks_are_whole.ensures.own c.args.hier.now) (c.walks_are_whole.ensures.kids c.args.hier.now) _ c.get.result.now _ _ _ _ _
    (ap (λ (v : HierView). v.own.entry) (fold_out-Hier HierView hier_level c.args.hier.now)) c.get.ensures
    (c.in_ok-ports.ensures ∙ ap (λ (p : Ports). p) (c.ports.ensures ∙ ap (λ (g : Graph). g.ports) c.circuit-circuit.ensures))
    (c.in_ok-outputs.ensures ∙ c.outputs.ensures ∙ ap (λ (g : Graph). g.outputs) c.circuit-circuit.ensures)
    (c.from_vec.ensures ∙ c.in_ok-nodes.ensures.nodes)
    (c.from_vec-2.ensures ∙ c.in_ok-nodes.ensures.memories)
    c.new.ensures
    (subst (λ l. length l ≤ 4294967296) (sym (c.from_vec.ensures)) c.in_ok-nodes.ensures.few.0)
    (subst (λ l. length l ≤ 4294967296) (sym (c.from_vec-2.ensures)) c.in_ok-nodes.ensures.few.1))
