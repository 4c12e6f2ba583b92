-- The turns of a loop, one after another.
use Rattle.std.proofs.Common.{◌≡◌, suc, List, [], ◌∷◌, flat_map, refl, sym, ap, subst, ◌∙◌, arith}
use Rattle.std.proofs.lemmas.Int.{ints}
use Rattle.std.proofs.Common.{true}
use Rattle.std.specs.Int.Signed.{lt_z}
use Rattle.std.specs.Prelude.{Result, Ok, Err, ℤ, pos, negsuc, ◌+ℤ◌, ◌-ℤ◌, ◌<ℤ◌, ◌≤ℤ◌}
use Rattle.hc_fault.specs.declared.fault.Fault.{Fault}
use Rattle.hc_fault.specs.declared.fault.Path.{Path}
use Rattle.hc_fault.specs.declared.fault.Refused.{Refused}
use Rattle.hc_fault.specs.declared.fault.Refused.TheVariants as refused
use Rattle.hc_lang.specs.declared.tree.Design.{Design}
use Rattle.hc_num.specs.Value.{Bindings}
use Rattle.hc_statements.specs.Gives.{Refuses}
use Rattle.hc_statements.specs.Unrolled.{Events, count_up, room, range}
use Rattle.hc_body.specs.Running.{Progress, and_then, run}
use Rattle.hc_body.proofs.Runs.{run_append}

room_more : (z w : ℤ) → z ≡ w +ℤ pos 1 → pos 0 ≤ℤ w → room z ≡ suc (room w)
room_more z (pos n) e least = let is : z ≡ pos (suc n) = omega (arith, ints, e) in ap room is
room_more z (negsuc n) e least = absurd (omega (arith, ints, least))

range_more : (x y : ℤ) → x <ℤ y → range x y ≡ x ∷ range (x +ℤ pos 1) y
range_more x y less = ap (count_up x) (room_more (y -ℤ x) (y -ℤ (x +ℤ pos 1)) (omega (arith, ints)) (omega (arith, ints, less)))

room_none : (z : ℤ) → z ≤ℤ pos 0 → room z ≡ 0
room_none (pos n) none = omega (arith, ints, none)
room_none (negsuc n) none = refl

pub range_none : (x y : ℤ) → ¬ (x <ℤ y) → range x y ≡ []
range_none x y none = ap (count_up x) (room_none (y -ℤ x) (grind (arith, ints)))

cut : (d : Design) (path : Path) (f : ℤ → Events) (x y : ℤ) (p : Progress) → x <ℤ y
    → run d path (flat_map f (range x y)) p ≡ and_then (run d path (f x) p) (run d path (flat_map f (range (x +ℤ pos 1) y)))
cut d path f x y p less = ap (λ (zs : List ℤ). run d path (flat_map f zs) p) (range_more x y less) ∙ run_append d path (f x) (flat_map f (range (x +ℤ pos 1) y)) p

-- one turn more
pub turns_more : (d : Design) (path : Path) (f : ℤ → Events) (x next y : ℤ) (p q : Progress) (all : Result Progress Fault) → x <ℤ y → next ≡ x +ℤ pos 1
    → run d path (f x) p ≡ Ok q → run d path (flat_map f (range x y)) p ≡ all → run d path (flat_map f (range next y)) q ≡ all
turns_more d path f x next y p q all less e is before =
    let rest : Events = flat_map f (range (x +ℤ pos 1) y) in
    ap (λ (z : ℤ). run d path (flat_map f (range z y)) q) e
    ∙ sym (cut d path f x y p less ∙ ap (λ (r : Result Progress Fault). and_then r (run d path rest)) is) ∙ before

-- a turn that has a fault
turns_fault : (d : Design) (path : Path) (f : ℤ → Events) (x y : ℤ) (p : Progress) (fault : Fault) (all : Result Progress Fault) → x <ℤ y → run d path (f x) p ≡ Err fault
    → run d path (flat_map f (range x y)) p ≡ all → all ≡ Err fault
turns_fault d path f x y p fault all less is before =
    let rest : Events = flat_map f (range (x +ℤ pos 1) y) in
    sym before ∙ cut d path f x y p less ∙ ap (λ (r : Result Progress Fault). and_then r (run d path rest)) is

pub turns_refuse : (d : Design) (path : Path) (f : ℤ → Events) (x y : ℤ) (p : Progress) (stop : Refused) (all : Result Progress Fault) → x <ℤ y
    → Refuses stop (run d path (f x) p) → run d path (flat_map f (range x y)) p ≡ all → Refuses stop all
turns_refuse d path f x y p (refused.Fault fault) all less is before = turns_fault d path f x y p fault all less is before
turns_refuse d path f x y p refused.NoMemory all less is before = tt

pub less_of : (a b : ℤ) → lt_z a b ≡ true → a <ℤ b
less_of a b e = grind (arith, ints)

-- one turn of a loop more, at a number that was passed on
pub turns_step : (d : Design) (path : Path) (f : Bindings → ℤ → Events) (env now : Bindings) (x z next y : ℤ) (p q : Progress) (all : Result Progress Fault)
    → lt_z x y ≡ true → next ≡ x +ℤ pos 1 → now ≡ env → run d path (f now z) p ≡ Ok q → z ≡ x → run d path (flat_map (f env) (range x y)) p ≡ all
    → run d path (flat_map (f env) (range next y)) q ≡ all
turns_step d path f env now x z next y p q all less e binds is same before = turns_more d path (f env) x next y p q all (less_of x y less) e
    (ap (λ (b : Bindings). run d path (f b x) p) (sym binds) ∙ ap (λ (v : ℤ). run d path (f now v) p) (sym same) ∙ is) before

pub turns_stop : (d : Design) (path : Path) (f : Bindings → ℤ → Events) (env now : Bindings) (x z y : ℤ) (p : Progress) (stop : Refused) (all : Result Progress Fault)
    → lt_z x y ≡ true → now ≡ env → Refuses stop (run d path (f now z) p) → z ≡ x → run d path (flat_map (f env) (range x y)) p ≡ all → Refuses stop all
turns_stop d path f env now x z y p stop all less binds is same before = turns_refuse d path (f env) x y p stop all (less_of x y less)
    (subst (λ (b : Bindings). Refuses stop (run d path (f b x) p)) binds (subst (λ (v : ℤ). Refuses stop (run d path (f now v) p)) same is)) before
