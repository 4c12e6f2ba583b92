-- The weight of marked forms, one after another.
use Rattle.std.proofs.Common.{◌≡◌, ℕ, zero, suc, ◌+◌, ◌<◌, ◌≤◌, Bool, true, false, List, [], ◌∷◌, length, drop, refl, sym, ap, ◌∙◌, arith}
use Rattle.std.specs.Prelude.{Option, Some, slice_get}
use Rattle.hc_signal.specs.Weight.{graph_weight}
use Rattle.hc_canon.specs.FormView.{FormView}
use Rattle.hc_weights.specs.Weights.{weight_where}

no_marks : (forms : List FormView) → weight_where [] forms ≡ 0
no_marks [] = refl
no_marks (f ∷ forms) = refl

no_forms : (marks : List Bool) → weight_where marks [] ≡ 0
no_forms [] = refl
no_forms (true ∷ marks) = refl
no_forms (false ∷ marks) = refl

on_head : (m : Bool) (marks : List Bool) (form f : FormView) (forms : List FormView) → ◌≡◌ {A = Option Bool} (Some m) (Some true)
    → ◌≡◌ {A = Option FormView} (Some f) (Some form) → weight_where (m ∷ marks) (f ∷ forms) ≡ graph_weight form.circuit + weight_where marks forms
on_head true marks form f forms a b = let e : f ≡ form = cc in ap (λ (x : FormView). graph_weight x.circuit + weight_where marks forms) e
on_head false marks form f forms a b = absurd cc

off_head : (m : Bool) (marks : List Bool) (f : FormView) (forms : List FormView) → (◌≡◌ {A = Option Bool} (Some m) (Some true) → ⊥) → weight_where (m ∷ marks) (f ∷ forms) ≡ weight_where marks forms
off_head true marks f forms n = absurd (n refl)
off_head false marks f forms n = refl

marked_suc : (marks : List Bool) (forms : List FormView) (k : ℕ) (form : FormView) → slice_get marks k ≡ Some true → slice_get forms k ≡ Some form
    → weight_where (drop k marks) (drop k forms) ≡ graph_weight form.circuit + weight_where (drop (suc k) marks) (drop (suc k) forms)
marked_suc [] forms k form a b = absurd cc
marked_suc (m ∷ marks) [] k form a b = absurd cc
marked_suc (m ∷ marks) (f ∷ forms) zero form a b = on_head m marks form f forms a b
marked_suc (m ∷ marks) (f ∷ forms) (suc k) form a b = marked_suc marks forms k form a b

unmarked_suc : (marks : List Bool) (forms : List FormView) (k : ℕ) → k < length forms → (slice_get marks k ≡ Some true → ⊥)
    → weight_where (drop k marks) (drop k forms) ≡ weight_where (drop (suc k) marks) (drop (suc k) forms)
unmarked_suc marks [] k l n = absurd (omega (arith, l))
unmarked_suc [] (f ∷ forms) zero l n = sym (no_marks forms)
unmarked_suc [] (f ∷ forms) (suc k) l n = no_marks (drop k forms) ∙ sym (no_marks (drop (suc k) forms))
unmarked_suc (m ∷ marks) (f ∷ forms) zero l n = off_head m marks f forms n
unmarked_suc (m ∷ marks) (f ∷ forms) (suc k) l n = unmarked_suc marks forms k (omega (arith, l)) n

abbrev rest : List Bool → List FormView → ℕ → ℕ
rest marks forms k = weight_where (drop k marks) (drop k forms)

pub with_marked : (marks : List Bool) (forms : List FormView) (k sum w n : ℕ) (form : FormView) → slice_get marks k ≡ Some true → slice_get forms k ≡ Some form
    → w ≡ graph_weight form.circuit → n ≡ sum + w
    → n + weight_where (drop (k + 1) marks) (drop (k + 1) forms) ≡ sum + weight_where (drop k marks) (drop k forms)
with_marked marks forms k sum w n form a b c d =
    let e : k + 1 ≡ suc k = omega arith in
    let s : rest marks forms (k + 1) ≡ rest marks forms (suc k) = ap (rest marks forms) e in
    let m = marked_suc marks forms k form a b in
    omega (arith, s, m, c, d)

pub with_unmarked : (marks : List Bool) (forms : List FormView) (k sum : ℕ) → k < length forms → (slice_get marks k ≡ Some true → ⊥)
    → sum + weight_where (drop (k + 1) marks) (drop (k + 1) forms) ≡ sum + weight_where (drop k marks) (drop k forms)
with_unmarked marks forms k sum l no_mark =
    let e : k + 1 ≡ suc k = omega arith in
    let s : rest marks forms (k + 1) ≡ rest marks forms (suc k) = ap (rest marks forms) e in
    let m = unmarked_suc marks forms k l no_mark in
    omega (arith, s, m)

drop_all : (marks : List Bool) (forms : List FormView) (k : ℕ) → length forms ≤ k → weight_where (drop k marks) (drop k forms) ≡ 0
drop_all marks [] zero l = no_forms marks
drop_all [] [] (suc k) l = refl
drop_all (m ∷ marks) [] (suc k) l = no_forms (drop k marks)
drop_all marks (f ∷ forms) zero l = absurd (omega (arith, l))
drop_all [] (f ∷ forms) (suc k) l = no_marks (drop k forms)
drop_all (m ∷ marks) (f ∷ forms) (suc k) l = drop_all marks forms k (omega (arith, l))

pub all_added : (marks : List Bool) (forms : List FormView) (k sum : ℕ) → length forms ≤ k → sum + weight_where (drop k marks) (drop k forms) ≡ weight_where marks forms
    → sum ≡ weight_where marks forms
all_added marks forms k sum l e = let d = drop_all marks forms k l in omega (arith, d, e)
