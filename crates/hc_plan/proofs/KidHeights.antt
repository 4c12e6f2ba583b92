-- The rows of a plan are higher than those of their children.
use Rattle.std.proofs.Common.{◌≡◌, ℕ, zero, suc, ◌<◌, ◌≤◌, List, [], ◌∷◌, length, map, max, refl, sym, ap, subst, ◌∙◌, arith}
use Rattle.std.proofs.lemmas.Option.{slice_get_within}
use Rattle.std.specs.Prelude.{slice_get, Option, Some, None, option_map, unwrap_or, Ok}
use Rattle.hc_fault.specs.declared.fault.Fault.{Fault}
use Rattle.hc_lang.specs.declared.tree.Design.{Design}
use Rattle.hc_signal.specs.Member.{Has, first, later}
use Rattle.hc_walk.proofs.Members.{has_slice}
use Rattle.hc_dbstate.proofs.Triples.{some_at}
use Rattle.hc_statements.specs.declared.kinds.Call.{Call}
use Rattle.hc_statements.specs.declared.kinds.Child.{Child}
use Rattle.hc_statements.specs.Elaborated.{child_path}
use Rattle.hc_body.specs.declared.kinds.Body.{Body}
use Rattle.hc_plan.specs.Elaborates.{Elaborated, FinishedCall, Elaborates, highest, never}
use Rattle.hc_plan.specs.Distinct.{AreFirsts, again, anew, call_finished, none_left}
use Rattle.hc_plan.specs.Plan.{AreRows, HasEnded, IsPlanOf, IsRowOf, call_at}
use Rattle.hc_plan.specs.declared.kinds.PlanRow.{PlanRow}
use Rattle.hc_plan.proofs.Deciding.{finished_of}
use Rattle.hc_plan.proofs.Equal.{AreFixed, AreSingle, one_body, same_call}
use Rattle.hc_plan.proofs.Inverted.{IsFinished, Whole, is_whole}
use Rattle.hc_plan.proofs.Levels.{some_height}
use Rattle.hc_plan.proofs.Right.{ChildAt, child_at, same_many}

-- each first finish is a finish
firsts_in : {X : Type 0} (f : X → Call) {met : List Call} {xs ys : List X} → AreFirsts f met xs ys → (y : X) → Has ys y → Has xs y
firsts_in f none_left y m = elim m [ ]
firsts_in f (again h rest) y m = later (firsts_in f rest y m)
firsts_in {X} f (anew {x = x} {xs = xs} {ys = ys} h rest) y m = by m (firsts_in f rest y)
  where
    by : {y : X} → Has (x ∷ ys) y → (Has ys y → Has xs y) → Has (x ∷ xs) y
    by first more = first
    by (later n) more = later (more n)

place_in : {X : Type 0} (xs : List X) (x : X) → Has xs x → (i : ℕ) × (slice_get xs i ≡ Some x)
place_in [] x h = elim h [ ]
place_in (y ∷ xs) x first = (zero, refl)
place_in (y ∷ xs) x (later h) = (let r : _ = place_in xs x h in (suc r.0, r.1))

-- the child of a row's kid
child_of : (rows : List PlanRow) (ks : List ℕ) (cs : List Child) → map (call_at rows) ks ≡ map (λ (c : Child). Some c.call) cs → (i k : ℕ) → slice_get ks i ≡ Some k
    → (child : Child) × (slice_get cs i ≡ Some child) × (call_at rows k ≡ Some child.call)
child_of rows [] cs e i k at = absurd cc
child_of rows (j ∷ ks) [] e i k at = absurd cc
child_of rows (j ∷ ks) (c ∷ cs) e zero k at = (let same : j ≡ k = ap (λ o. unwrap_or o j) at in (c, refl, ap (call_at rows) (sym same) ∙ heads e))
  where
    heads : call_at rows j ∷ map (call_at rows) ks ≡ Some c.call ∷ map (λ (x : Child). Some x.call) cs → call_at rows j ≡ Some c.call
    heads q = cc
child_of rows (j ∷ ks) (c ∷ cs) e (suc i) k at = child_of rows ks cs (tails e) i k at
  where
    tails : call_at rows j ∷ map (call_at rows) ks ≡ Some c.call ∷ map (λ (x : Child). Some x.call) cs → map (call_at rows) ks ≡ map (λ (x : Child). Some x.call) cs
    tails q = cc

-- none is above the highest
below_highest : (es : List Elaborated) (i : ℕ) (e : Elaborated) → slice_get es i ≡ Some e → e.height ≤ highest (map (λ (k : Elaborated). k.height) es)
below_highest [] i e at = absurd cc
below_highest (k ∷ es) zero e at = (let same : k ≡ e = ap (λ o. unwrap_or o k) at in let h : k.height ≡ e.height = ap (λ (z : Elaborated). z.height) same in omega (arith, h))
below_highest (k ∷ es) (suc i) e at = (let r : _ = below_highest es i e at in omega (arith, r))

module _ (d : Design) (rows : List PlanRow) (stop : Option Fault) (plan : IsPlanOf d rows stop) where
  are : AreRows d rows
  are k row at =
      let x : (x : FinishedCall) × (slice_get plan.firsts k ≡ Some x) = some_at plan.firsts k (subst (λ n. k < n) plan.are.many (slice_get_within rows k row at)) in
      let f : IsFinished never d x.0 = finished_of never plan.finishes x.0 (firsts_in call_finished plan.distinct x.0 (has_slice plan.firsts k x.0 x.1)) in
      (x.0, record { level = f.level; done = f.done; e = f.e; elaborates = f.elaborates; sums = f.sums; height = f.height }, plan.are.each k row x.0 at x.1)

  -- a row has a height
  pub some_row_height : (k : ℕ) (row : PlanRow) → slice_get rows k ≡ Some row → 1 ≤ row.height
  some_row_height k row at = (let y : (x : FinishedCall) × HasEnded d x × IsRowOf d rows k row x = are k row at in subst (λ n. 1 ≤ n) (y.1.height ∙ sym y.2.height) (some_height never y.1.elaborates))

-- the row of a child is lower
pub kid_lower : (d : Design) → AreSingle d → AreFixed d → (rows : List PlanRow) (stop : Option Fault) → IsPlanOf d rows stop → (k j : ℕ) (row kid : PlanRow)
    → slice_get rows k ≡ Some row → Has row.kids j → slice_get rows j ≡ Some kid → kid.height < row.height
kid_lower d single fixed rows stop plan k j row kid at m there =
    let y : (x : FinishedCall) × HasEnded d x × IsRowOf d rows k row x = are d rows stop plan k row at in
    let gave : Elaborates never d y.1.level y.0.path row.call y.1.done (Ok y.1.e) = subst (λ (c : Call). Elaborates never d y.1.level y.0.path c y.1.done (Ok y.1.e)) (sym y.2.call) y.1.elaborates in
    let w : Whole never d y.1.level y.0.path row.call y.1.done y.1.e = is_whole never gave in
    let body : row.body ≡ w.b = one_body d single fixed row.call y.2.circuit w.circuit row.first y.0.path row.body w.b y.2.of w.of y.2.body w.body in
    let kids : map (call_at rows) row.kids ≡ map (λ (c : Child). Some c.call) w.b.children = y.2.kids ∙ ap (λ (b : Body). map (λ (c : Child). Some c.call) b.children) body in
    let i : (i : ℕ) × (slice_get row.kids i ≡ Some j) = place_in row.kids j m in
    let child : (child : Child) × (slice_get w.b.children i.0 ≡ Some child) × (call_at rows j ≡ Some child.call) = child_of rows row.kids w.b.children kids i.0 j i.1 in
    let e : (e : Elaborated) × (slice_get w.kids i.0 ≡ Some e) = some_at w.kids i.0 (subst (λ n. i.0 < n) (sym (same_many never w.children)) (slice_get_within w.b.children i.0 child.0 child.1)) in
    let c : ChildAt never d y.1.level y.0.path w.b.children i.0 e.0 = child_at never w.children i.0 e.0 e.1 in
    let same : c.child ≡ child.0 = ap (λ o. unwrap_or o c.child) (sym c.at ∙ child.1) in
    let z : (x : FinishedCall) × HasEnded d x × IsRowOf d rows j kid x = are d rows stop plan j kid there in
    let calls : Some kid.call ≡ Some child.0.call = sym (ap (option_map (λ (r : PlanRow). r.call)) there) ∙ child.2 in
    let called : c.child.call ≡ z.0.own.call = ap (λ (x : Child). x.call) same ∙ sym (ap (λ o. unwrap_or o kid.call) calls) ∙ z.2.call in
    let one : z.1.e ≡ e.0 =
    same_call never never single fixed z.1.elaborates (suc y.1.level) (child_path y.0.path c.child.ident) c.inner e.0
    (subst (λ (x : Call). Elaborates never d (suc y.1.level) (child_path y.0.path c.child.ident) x c.inner (Ok e.0)) called c.elaborates) in
    let low : kid.height ≡ e.0.height = z.2.height ∙ sym z.1.height ∙ ap (λ (x : Elaborated). x.height) one in
    let high : row.height ≡ suc (highest (map (λ (x : Elaborated). x.height) w.kids)) = y.2.height ∙ sym y.1.height ∙ ap (λ (x : Elaborated). x.height) w.is in
    let most : e.0.height ≤ highest (map (λ (x : Elaborated). x.height) w.kids) = below_highest w.kids i.0 e.0 e.1 in
    omega (arith, low, high, most)
