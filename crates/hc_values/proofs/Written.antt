-- The words of a memory after the clock edge.
use Rattle.std.proofs.Common.{◌≡◌, ℕ, zero, suc, ◌+◌, ◌<◌, ◌⊎◌, inl, inr, List, [], ◌∷◌, map, refl, sym, ◌∙◌, ap, ap₂, arith, Bool, true, false}
use Rattle.std.specs.Prelude.{◌≢◌, ◌==◌, ◌&&◌, if◌then◌else◌, slice_set}
use Rattle.std.specs.List.{enumerate_from}
use Rattle.std.proofs.lemmas.Bool.{eq-eqb}
use Rattle.std.proofs.lemmas.Bool.Decides.{eqb_tells}
use Rattle.std.proofs.Math.Dec.{eqb}
use Rattle.hc_bits.specs.BitVector.{BitVector}
use Rattle.hc_signal.specs.declared.signal.WritePort.{WritePort}
use Rattle.hc_signal.specs.Graph.{Graph}
use Rattle.hc_bench.specs.Simulation.{word_after}
use Rattle.hc_values.specs.Rows.{number_at, numbers}
use Rattle.hc_values.specs.Values.{operand, valuation}
use Rattle.hc_values.specs.Edges.{written, written_all}

differ : (a k : ℕ) → (a ≡ k → ⊥) → eqb a k ≡ false
differ a k d = go (eqb_tells a k)
  where
    go : ((eqb a k ≡ true) × (a ≡ k)) ⊎ ((eqb a k ≡ false) × (a ≢ k)) → eqb a k ≡ false
    go (inl t) = absurd (d t.1)
    go (inr u) = u.0

-- y at place a, and elsewhere what is there
abbrev pub set_to : ℕ → ℕ → ℕ × ℕ → ℕ
set_to a y p = if eqb a p.0 then y else p.1

kept : (k : ℕ) (xs : List ℕ) → xs ≡ map (λ (p : ℕ × ℕ). p.1) (enumerate_from k xs)
kept k [] = refl
kept k (x ∷ xs) = ap (λ (l : List ℕ). x ∷ l) (kept (k + 1) xs)

set_before : (k a y : ℕ) (xs : List ℕ) → a < k → xs ≡ map (set_to a y) (enumerate_from k xs)
set_before k a y [] l = refl
set_before k a y (x ∷ xs) l =
    ap₂ (λ (z : ℕ) (s : List ℕ). z ∷ s) (sym (ap (λ (b : Bool). if b then y else x) (differ a k (λ e. omega (arith, e, l))))) (set_before (k + 1) a y xs (omega (arith, l)))

set_at : (k b a : ℕ) (x : BitVector) (words : List BitVector) → a ≡ k + b → numbers (slice_set words b x) ≡ map (set_to a x.value) (enumerate_from k (numbers words))
set_at k b a x [] e = refl
set_at k zero a x (w ∷ ws) e =
    let here : a ≡ k = omega (arith, e) in
    let past : a < k + 1 = omega (arith, e) in
    ap₂ (λ (z : ℕ) (s : List ℕ). z ∷ s) (sym (ap (λ (c : Bool). if c then x.value else w.value) (eq-eqb a k here))) (set_before (k + 1) a x.value (numbers ws) past)
set_at k (suc b) a x (w ∷ ws) e =
    let next : a ≡ k + 1 + b = omega (arith, e) in
    ap₂ (λ (z : ℕ) (s : List ℕ). z ∷ s) (sym (ap (λ (c : Bool). if c then x.value else w.value) (differ a k (λ q. omega (arith, e, q))))) (set_at (k + 1) b a x ws next)

pub composed : (f : ℕ → ℕ → ℕ) (h : ℕ → ℕ → ℕ) (k : ℕ) (xs : List ℕ)
    → map (λ (p : ℕ × ℕ). f p.0 p.1) (enumerate_from k (map (λ (p : ℕ × ℕ). h p.0 p.1) (enumerate_from k xs))) ≡ map (λ (p : ℕ × ℕ). f p.0 (h p.0 p.1)) (enumerate_from k xs)
composed f h k [] = refl
composed f h k (x ∷ xs) = ap (λ (l : List ℕ). f k (h k x) ∷ l) (composed f h (k + 1) xs)

pub each_same : (f h : ℕ → ℕ → ℕ) → ((place old : ℕ) → f place old ≡ h place old) → (k : ℕ) (xs : List ℕ)
    → map (λ (p : ℕ × ℕ). f p.0 p.1) (enumerate_from k xs) ≡ map (λ (p : ℕ × ℕ). h p.0 p.1) (enumerate_from k xs)
each_same f h same k [] = refl
each_same f h same k (x ∷ xs) = ap₂ (λ (y : ℕ) (l : List ℕ). y ∷ l) (same k x) (each_same f h same (k + 1) xs)

module _ (g : Graph) (values : List BitVector) where
  -- the word at a place after one write port
  abbrev one : WritePort → ℕ → ℕ → ℕ
  one w place old = if ((number_at values w.enable.0 == 1) && (number_at values w.addr.0 == place)) then number_at values w.value.0 else old

  port_written : (w : WritePort) (words : List BitVector) → numbers (written g values w words) ≡ map (λ (p : ℕ × ℕ). one w p.0 p.1) (enumerate_from 0 (numbers words))
  port_written w words = go (number_at values w.enable.0 == 1)
    where
      go : (b : Bool) → numbers (if b then slice_set words (number_at values w.addr.0) (operand g values w.value) else words)
          ≡ map (λ (p : ℕ × ℕ). if (b && (number_at values w.addr.0 == p.0)) then number_at values w.value.0 else p.1) (enumerate_from 0 (numbers words))
      go true = set_at 0 (number_at values w.addr.0) (number_at values w.addr.0) (operand g values w.value) words (omega arith)
      go false = kept 0 (numbers words)

  pub words_written : (ws : List WritePort) (words : List BitVector)
      → map (λ (p : ℕ × ℕ). word_after (valuation values) [] ws p.0 p.1) (enumerate_from 0 (numbers words)) ≡ numbers (written_all g values ws words)
  words_written [] words = sym (kept 0 (numbers words))
  words_written (w ∷ ws) words =
      sym (composed (λ place old. word_after (valuation values) [] ws place old) (one w) 0 (numbers words))
      ∙ ap (λ (l : List ℕ). map (λ (p : ℕ × ℕ). word_after (valuation values) [] ws p.0 p.1) (enumerate_from 0 l)) (sym (port_written w words))
      ∙ words_written ws (written g values w words)
