-- What one call on a draft adds.
use Rattle.std.proofs.Common.{◌≡◌, ℕ, suc, ◌+◌, ◌*◌, ◌/◌, ◌%◌, List, [], ◌++◌, append-nil, ap, ◌∙◌, sym, subst, refl, decimal, length, add-one, map, Bor, ◌-◌, arith, slice_index_or}
use Rattle.std.proofs.Math.Nat.{mod-add-mod}
use Rattle.std.proofs.Math.ListN.{get_or-map}
use Rattle.std.specs.Prelude.{codes}
use Rattle.hc_workload.specs.Generator.{next_state, number_below}
use Rattle.hc_workload.specs.Template.{Template, filled, state_after, text_at, each, said, number, below, one_of}
use Rattle.hc_workload.specs.Workload.{earlier, drawn_circuit}
use Rattle.hc_workload.specs.Fills.{Fills}
use Rattle.hc_workload.specs.declared.draft.Draft.{Draft}
use Rattle.hc_workload.proofs.Joining.{join}

pub next_is : (s : ℕ) → (s * 6364136223846793005 % 18446744073709551616 + 1442695040888963407) % 18446744073709551616 ≡ next_state s
unfolding next_state
next_is s = mod-add-mod (s * 6364136223846793005) 18446744073709551616 1442695040888963407

pub number_is : (limit s t : ℕ) → s ≡ t → s / 8589934592 % limit ≡ number_below limit t
unfolding number_below
number_is limit s t e = ap (λ n. n / 8589934592 % limit) e

alone : (x y t : List ℕ) → y ≡ x ++ t → y ≡ x ++ (t ++ [])
alone x y t e = e ∙ ap (λ u. x ++ u) (sym (append-nil t))

pub says : (t : List ℕ) (old new : Draft) → new.text.items ≡ old.text.items ++ t → new.state ≡ old.state → Fills (said t) old new
unfolding filled state_after
says t old new text state = record { text = alone old.text.items new.text.items t text; state = state }

pub draws : (limit d : ℕ) (old new : Draft) → d ≡ number_below limit (next_state old.state) → new.text.items ≡ old.text.items ++ decimal d
    → new.state ≡ next_state old.state → Fills (below limit) old new
unfolding filled state_after
draws limit d old new number text state =
    record { text = alone old.text.items new.text.items (decimal (number_below limit (next_state old.state))) (text ∙ ap (λ n. old.text.items ++ decimal n) number); state = state }

pub chooses : (ts : List (List ℕ)) (d : ℕ) (old new : Draft) → d ≡ number_below (length ts) (next_state old.state) → new.text.items ≡ old.text.items ++ text_at ts d
    → new.state ≡ next_state old.state → Fills (one_of ts) old new
unfolding filled state_after
chooses ts d old new number text state =
    record { text = alone old.text.items new.text.items (text_at ts (number_below (length ts) (next_state old.state))) (text ∙ ap (λ n. old.text.items ++ text_at ts n) number); state = state }

pub chosen_text : (ts : List (Bor (List ℕ))) (k : ℕ) (d : Bor (List ℕ)) → d.now ≡ [] → text_at (map (λ t. t.now) ts) k ≡ (slice_index_or ts k d).now
chosen_text ts k d e = ap (λ n. slice_index_or (map (λ (t : Bor (List ℕ)). t.now) ts) k n) (sym e) ∙ get_or-map (λ (t : Bor (List ℕ)). t.now) ts k d

-- ---- loops

pub none_yet : (f : ℕ → Template) (d : Draft) → Fills (each 0 f) d d
unfolding each filled state_after
none_yet f d = record { text = sym (append-nil d.text.items); state = refl }

each_suc : (k : ℕ) (f : ℕ → Template) → each (suc k) f ≡ each k f ++ f k
unfolding each
each_suc k f = refl

pub one_more : (f : ℕ → Template) (k : ℕ) (a b c : Draft) → Fills (each k f) a b → Fills (f k) b c → Fills (each (k + 1) f) a c
one_more f k a b c before more =
    let P : Template → Type 0 = λ t. Fills t a c in
    subst P (sym (ap (λ n. each n f) (add-one k) ∙ each_suc k f)) (join before more)

-- ---- choices by a number

pub nonzero_suc : (k : ℕ) → (k ≡ 0 → ⊥) → suc (k - 1) ≡ k
nonzero_suc k h = omega (arith, h)

pub first_operand : (k : ℕ) (a b : Draft) → k ≡ 0 → Fills (said (codes "a")) a b → Fills (earlier k) a b
unfolding earlier
first_operand k a b none h = let P : ℕ → Type 0 = λ n. Fills (earlier n) a b in subst P (sym none) h

pub later_operand : (k : ℕ) (a b : Draft) → (k ≡ 0 → ⊥) → Fills (said (codes "x[") ++ number (k - 1) ++ said (codes "]")) a b → Fills (earlier k) a b
unfolding earlier
later_operand k a b some h = let P : ℕ → Type 0 = λ n. Fills (earlier n) a b in subst P (nonzero_suc k some) h

pub drawn_leaf : (level : ℕ) (a b : Draft) → level ≡ 0 → Fills (said (codes "leaf") ++ below 16) a b → Fills (drawn_circuit level) a b
unfolding drawn_circuit
drawn_leaf level a b none h = let P : ℕ → Type 0 = λ n. Fills (drawn_circuit n) a b in subst P (sym none) h

drawn_at : (l m : ℕ) (a b : Draft) → suc l ≡ m → Fills (said (codes "t") ++ number m ++ said (codes "_") ++ below 4) a b → Fills (drawn_circuit (suc l)) a b
unfolding drawn_circuit
drawn_at l m a b e h = let P : ℕ → Type 0 = λ n. Fills (said (codes "t") ++ number n ++ said (codes "_") ++ below 4) a b in subst P (sym e) h

pub drawn_of_level : (level : ℕ) (a b : Draft) → (level ≡ 0 → ⊥) → Fills (said (codes "t") ++ number level ++ said (codes "_") ++ below 4) a b → Fills (drawn_circuit level) a b
drawn_of_level level a b some h =
    let P : ℕ → Type 0 = λ n. Fills (drawn_circuit n) a b in
    subst P (nonzero_suc level some) (drawn_at (level - 1) level a b (nonzero_suc level some) h)
