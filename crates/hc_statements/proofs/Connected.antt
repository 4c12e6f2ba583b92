-- Connections, one after another.
use Rattle.std.proofs.Common.{◌≡◌, ℕ, zero, suc, ◌<◌, ◌≤◌, ◌==◌, ◌⊎◌, inl, inr, true, map, List, [], ◌∷◌, ◌++◌, append_assoc, length, get_or, set, replicate, refl, sym, ap, subst, ◌∙◌, arith}
use Rattle.std.proofs.lemmas.Option.{slice_get_cases}
use Rattle.std.specs.Prelude.{Option, Some, None, Result, Ok, Err, ℤ, slice_get}
use Rattle.std.proofs.lemmas.List.{length-map}
use Rattle.hc_tokens.specs.declared.tree.Num.{Num}
use Rattle.hc_unfold.specs.Signals.{number}
use Rattle.hc_num.specs.Value.{Bindings, Outcome}
use Rattle.hc_unfold.specs.Places.{before, numbers}
use Rattle.hc_fault.specs.declared.fault.FaultKind.{FaultKind}
use Rattle.hc_signal.specs.declared.signal.NodeId.{NodeId}
use Rattle.hc_signal.specs.declared.signal.Port.{Port}
use Rattle.hc_signal.specs.Graph.{Graph}
use Rattle.hc_signal.specs.Lawful.{MayHaveWidth, HasWidth, HaveWidthsOf}
use Rattle.hc_unfold.specs.Gives.{Grows}
use Rattle.hc_statements.specs.Connections.{FitPorts, FitsAt}
use Rattle.hc_statements.specs.Instances.{put_before, all_connected, fits, width_of_port}
use Rattle.hc_signal.specs.declared.signal.NodeRow.{NodeRow}
use Rattle.hc_signal.specs.Builds.{IsNode, row_width, width_at}

may_still : (g h : Graph) (o : Option NodeId) (w : ℕ) → Grows g h → MayHaveWidth g o w → MayHaveWidth h o w
may_still g h None w grows may = tt
may_still g h (Some id) w grows (row, at, is) = (row, grows.rows id.0 row at, is)

pub fit_still : (g h : Graph) (ps : List Port) (os : List (Option NodeId)) → Grows g h → FitPorts g ps os → FitPorts h ps os
fit_still g h [] [] grows fit = tt
fit_still g h (p ∷ ps) (o ∷ os) grows fit = (may_still g h o p.width grows fit.0, fit_still g h ps os grows fit.1)
fit_still g h [] (o ∷ os) grows fit = fit
fit_still g h (p ∷ ps) [] grows fit = fit

pub fit_count : (g : Graph) (ps : List Port) (os : List (Option NodeId)) → FitPorts g ps os → length os ≡ length ps
fit_count g [] [] fit = refl
fit_count g (p ∷ ps) (o ∷ os) fit = let e = fit_count g ps os fit.1 in omega (arith, e)
fit_count g [] (o ∷ os) fit = absurd fit
fit_count g (p ∷ ps) [] fit = absurd fit

fit_set : (g : Graph) (ps : List Port) (os : List (Option NodeId)) (k : ℕ) (id : NodeId) → FitPorts g ps os → FitsAt g ps k id → k < length ps → FitPorts g ps (set os k (Some id))
fit_set g [] os k id fit at within = absurd (omega (arith, within))
fit_set g (q ∷ ps) [] k id fit at within = absurd fit
fit_set g (q ∷ ps) (o ∷ os) zero id fit at within = (at q refl, fit.1)
fit_set g (q ∷ ps) (o ∷ os) (suc k) id fit at within = (fit.0, fit_set g ps os k id fit.1 at (omega (arith, within)))

pub fit_more : (g h : Graph) (ps : List Port) (os : List (Option NodeId)) (k : ℕ) (id : NodeId) → FitPorts g ps os → Grows g h → FitsAt h ps k id → k < length ps → FitPorts h ps (set os k (Some id))
fit_more g h ps os k id fit grows at within = fit_set h ps os k id (fit_still g h ps os grows fit) at within

pub width_row : (g : Graph) (id : NodeId) (w : ℕ) → id.0 < length g.nodes → width_at g id ≡ w → HasWidth g id w
width_row g id w node e = by (slice_get_cases g.nodes id.0)
  where
    by : (slice_get g.nodes id.0 ≡ slice_get g.nodes id.0) × (((x : NodeRow) × (id.0 < length g.nodes) × (slice_get g.nodes id.0 ≡ Some x) × (get_or g.nodes id.0 x ≡ x)) ⊎
        ((length g.nodes ≤ id.0) × (slice_get g.nodes id.0 ≡ None)))
        → HasWidth g id w
    by (_, inl (x, within, at, get)) = (x, at, ap (λ (o : Option NodeRow). row_width o) (sym at) ∙ e)
    by (_, inr (past, none)) = absurd (omega (arith, past, node))

pub has_width_at : (g : Graph) (ps : List Port) (k : ℕ) (id : NodeId) → IsNode g id → fits g ps k id ≡ true → FitsAt g ps k id
has_width_at g ps k id node e p at = width_row g id p.width node (same (width_at g id) (width_of_port (slice_get ps k)) e ∙ ap (λ (o : Option Port). width_of_port o) at)
  where
    same : (a b : ℕ) → (a == b) ≡ true → a ≡ b
    same a b t = grind arith

pub fit_none : (g : Graph) (ps : List Port) → FitPorts g ps (replicate (length ps) None)
fit_none g [] = tt
fit_none g (p ∷ ps) = (tt, fit_none g ps)

pub connected_fit : (g : Graph) (ps : List Port) (os : List (Option NodeId)) (ids : List NodeId) → FitPorts g ps os → all_connected os ≡ Ok ids → HaveWidthsOf g ids ps
connected_fit g [] [] [] fit e = tt
connected_fit g [] [] (id ∷ ids) fit e = absurd cc
connected_fit g [] (o ∷ os) ids fit e = absurd fit
connected_fit g (p ∷ ps) [] ids fit e = absurd fit
connected_fit g (p ∷ ps) (None ∷ os) ids fit e = absurd cc
connected_fit g (p ∷ ps) (Some id ∷ os) ids fit e = by (all_connected os) refl ids e
    (λ is rest. connected_fit g ps os is fit.1 rest)
  where
    by : (r : Result (List NodeId) FaultKind) → all_connected os ≡ r → (js : List NodeId) → put_before (Some id) r ≡ Ok js
        → ((is : List NodeId) → all_connected os ≡ Ok is → HaveWidthsOf g is ps) → HaveWidthsOf g js (p ∷ ps)
    by (Ok is) rest js f more = let same : id ∷ is ≡ js = cc in subst (λ (l : List NodeId). HaveWidthsOf g l (p ∷ ps)) same (fit.0, more is rest)
    by (Err kind) rest js f more = absurd cc

-- nodes that were found, and those that are still to be found
abbrev pub onto : List NodeId → Result (List NodeId) FaultKind → Result (List NodeId) FaultKind
onto ids (Ok more) = Ok (ids ++ more)
onto ids (Err kind) = Err kind

pub onto_none : (rest : Result (List NodeId) FaultKind) → onto [] rest ≡ rest
onto_none (Ok ids) = refl
onto_none (Err kind) = refl

pub onto_more : (ids : List NodeId) (id : NodeId) (rest : Result (List NodeId) FaultKind) → onto (ids ++ id ∷ []) rest ≡ onto ids (put_before (Some id) rest)
onto_more ids id (Ok more) = ap (λ (l : List NodeId). let r : Result (List NodeId) FaultKind = Ok l in r) (append_assoc ids (id ∷ []) more)
onto_more ids id (Err kind) = refl

-- as many values as numbers
pub numbers_count : (ns : List Outcome) (zs : List ℤ) → numbers ns ≡ Ok zs → length zs ≡ length ns
numbers_count [] [] e = refl
numbers_count [] (z ∷ zs) e = absurd cc
numbers_count (n ∷ ns) zs e = by n (numbers ns) refl zs e (λ ws is. numbers_count ns ws is)
  where
    by : (m : Outcome) (r : Result (List ℤ) FaultKind) → numbers ns ≡ r → (zs : List ℤ) → before m r ≡ Ok zs
        → ((ws : List ℤ) → numbers ns ≡ Ok ws → length ws ≡ length ns) → length zs ≡ suc (length ns)
    by (Err kind) r rest zs e more = absurd cc
    by (Ok z) (Err kind) rest zs e more = absurd cc
    by (Ok z) (Ok ws) rest zs e more = let same : z ∷ ws ≡ zs = cc in let l = more ws rest in ap length (sym same) ∙ ap suc l

pub values_count : (env : Bindings) (ns : List Num) (zs : List ℤ) (n : ℕ) → numbers (map (number env) ns) ≡ Ok zs → length ns ≡ n → length zs ≡ n
values_count env ns zs n e same = numbers_count (map (number env) ns) zs e ∙ length-map ns (number env) ∙ same
