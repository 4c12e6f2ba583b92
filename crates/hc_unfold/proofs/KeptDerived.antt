-- Each call that unfolds to several nodes keeps the form of a graph.
use Rattle.std.proofs.Common.{◌≡◌, ℕ, ◌-◌, ◌*◌, ◌<◌, ◌≤◌, false, ◌==◌, ◌&&◌, nat_le, [], ◌∷◌, length, replicate, refl, arith}
use Rattle.std.specs.Prelude.{nat_lt, if◌then◌else◌, ℤ, pos, negsuc}
use Rattle.std.proofs.lemmas.Bool.{and_parts, eqb-false, leb-true, leb-false, ltb-false}
use Rattle.std.proofs.lemmas.List.{length-replicate}
use Rattle.std.proofs.lemmas.Nat.{pow_below}
use Rattle.hc_fault.specs.declared.fault.FaultKind.TheVariants.{Width, WidthMismatch}
use Rattle.hc_bits.specs.BitVector.{IsWidth}
use Rattle.hc_signal.specs.declared.signal.NodeId.{NodeId}
use Rattle.hc_signal.specs.declared.signal.Op2.TheVariants.{Xor, Lt, Eq}
use Rattle.hc_signal.specs.Graph.{Graph}
use Rattle.hc_signal.specs.Builds.{IsNode, width_at}
use Rattle.hc_unfold.specs.Formed.{IsFormed}
use Rattle.hc_unfold.specs.Drawing.{Draws, answer, as_width, cat, constant, given, invert, mux, two, width, ◌>>=◌}
use Rattle.hc_unfold.specs.Derived.{copies, left, lts, msb, mux2, ne, not_lt, part, repeat, right, right_signed, shift, sign_bit, sign_extended, sll, sra, sresize, srl, uresize, zero_extended, zeros}
use Rattle.hc_unfold.proofs.Lists.{same_nodes, two_nodes}
use Rattle.hc_unfold.proofs.Keeping.{Keeps, kept_answer, kept_given, kept_if, kept_rule, kept_then, node_still, width_is}
use Rattle.hc_unfold.proofs.KeptPrimitives.{IsOfWidth, kept_cat, kept_constant, kept_invert, kept_mux, kept_select, kept_two, width_of_number, zero_vector}

sign_is_vector : (w : ℕ) → IsWidth w → IsOfWidth (sign_bit w)
sign_is_vector w b = (record { some = b.0; few = b.1; fits = pow_below (w - 1) w (let o : 1 ≤ w = b.0 in omega (arith, o)) }, refl)

module _ (g : Graph) (l : IsFormed g) where
  pub kept_part : (x : NodeId) (hi lo : ℕ) → IsNode g x → Keeps g IsNode (part x hi lo g)
  kept_part x hi lo nx = kept_select g l x (pos hi) (pos lo) nx

  pub kept_zeros : (w : ℕ) → IsWidth w → Keeps g IsNode (zeros w g)
  kept_zeros w b = kept_constant g l (record { width = w; value = 0 }) (zero_vector w b)

  -- two parts side by side
  pub kept_pair : (x y : NodeId) → IsNode g x → IsNode g y → Keeps g IsNode (cat (x ∷ y ∷ []) g)
  kept_pair x y nx ny = kept_cat g l (x ∷ y ∷ []) (two_nodes g x y nx ny) (omega arith)

  pub kept_msb : (x : NodeId) → IsNode g x → Keeps g IsNode (msb x g)
  kept_msb x nx = kept_part x (width_at g x - 1) (width_at g x - 1) nx

  pub kept_copies : (x : NodeId) (n : ℕ) → IsNode g x → Keeps g IsNode (copies x n g)
  kept_copies x n nx =
      kept_rule g IsNode Width (nat_le 1 n && nat_le (n * width_at g x) 128) (cat (replicate n x))
      (λ holds. (let some : 1 ≤ n = leb-true 1 n (and_parts (nat_le 1 n) (nat_le (n * width_at g x) 128) holds).0 in
      let many : length (replicate n x) ≡ n = length-replicate n x in
      kept_cat g l (replicate n x) (same_nodes g x n (replicate n x) refl nx) (omega (arith, some, many))))

-- what comes after the sign of a shift
abbrev joined : NodeId → ℕ → ℕ → NodeId → Draws NodeId
joined x w k top = part x (w - 1) k >>= (λ a. cat (top ∷ a ∷ []))

abbrev past : NodeId → ℕ → ℕ → NodeId → Draws NodeId
past x w k m = if nat_le w k then copies m w else copies m k >>= joined x w k

abbrev turned_by : NodeId → NodeId → NodeId → Draws NodeId
turned_by x y k = do
  a ← two Xor x k
  b ← two Xor y k
  two Lt a b

room_above : (n w : ℕ) → IsWidth n → w ≤ n → (n ≡ w → ⊥) → IsWidth (n - w)
room_above n w b ge apart = (grind arith, (let m : n ≤ 128 = b.1 in omega (arith, m)))

-- a number that is not 0 and below a width is a width
below_width : (k w : ℕ) → IsWidth w → (k == 0) ≡ false → k < w → IsWidth k
below_width k w b some less = (let apart : k ≡ 0 → ⊥ = eqb-false k 0 some in grind arith, (let m : w ≤ 128 = b.1 in omega (arith, m, less)))

module _ (g : Graph) (l : IsFormed g) where
  pub kept_ne : (x y : NodeId) → IsNode g x → IsNode g y → Keeps g IsNode (ne x y g)
  kept_ne x y nx ny = kept_then g IsNode IsNode (two Eq x y g) invert (kept_two g l Eq x y nx ny) (λ h a lh gh na. kept_invert h lh a na)

  pub kept_not_lt : (x y : NodeId) → IsNode g x → IsNode g y → Keeps g IsNode (not_lt x y g)
  kept_not_lt x y nx ny = kept_then g IsNode IsNode (two Lt x y g) invert (kept_two g l Lt x y nx ny) (λ h a lh gh na. kept_invert h lh a na)

  pub kept_lts : (x y : NodeId) → IsNode g x → IsNode g y → Keeps g IsNode (lts x y g)
  kept_lts x y nx ny =
      let w : ℕ = width_at g y in
      kept_rule g IsNode WidthMismatch (width_at g x == w) (constant (sign_bit w) >>= turned_by x y)
      (λ same. kept_then g IsNode IsNode (constant (sign_bit w) g) (turned_by x y) (kept_constant g l (sign_bit w) (sign_is_vector w (width_is g y l ny)))
      (λ h k lh gh nk. kept_then h IsNode IsNode (two Xor x k h) (λ a. two Xor y k >>= (λ b. two Lt a b)) (kept_two h lh Xor x k (node_still g h x gh nx) nk)
      (λ i a li gi na. kept_then i IsNode IsNode (two Xor y k i) (λ b. two Lt a b) (kept_two i li Xor y k (node_still h i y gi (node_still g h y gh ny)) (node_still h i k gi nk))
      (λ j b lj gj nb. kept_two j lj Lt a b (node_still i j a gj na) nb))))

  pub kept_mux2 : (s a b : NodeId) → IsNode g s → IsNode g a → IsNode g b → Keeps g IsNode (mux2 s a b g)
  kept_mux2 s a b ns na nb =
      kept_rule g IsNode WidthMismatch ((width_at g s == 1) && (width_at g a == width_at g b)) (mux s (b ∷ a ∷ []))
      (λ same. kept_mux g l s (b ∷ a ∷ []) ns (two_nodes g b a nb na) (omega arith))

  pub kept_repeat : (x : NodeId) (z : ℤ) → IsNode g x → Keeps g IsNode (repeat x z g)
  kept_repeat x (pos n) nx = kept_copies g l x n nx
  kept_repeat x (negsuc n) nx = tt

module _ (g : Graph) (l : IsFormed g) where
  pub kept_zero_extended : (x : NodeId) (w n : ℕ) → IsNode g x → IsWidth n → Keeps g IsNode (zero_extended x w n g)
  kept_zero_extended x w n nx b =
      kept_if g IsNode (n == w) (answer x) (if nat_lt n w then part x (n - 1) 0 else zeros (n - w) >>= (λ z. cat (z ∷ x ∷ []))) (λ same. kept_answer g IsNode x l nx)
      (λ other. kept_if g IsNode (nat_lt n w) (part x (n - 1) 0) (zeros (n - w) >>= (λ z. cat (z ∷ x ∷ []))) (λ less. kept_part g l x (n - 1) 0 nx)
      (λ more. kept_then g IsNode IsNode (zeros (n - w) g) (λ z. cat (z ∷ x ∷ [])) (kept_zeros g l (n - w) (room_above n w b (ltb-false n w more) (eqb-false n w other)))
      (λ h z lh gh nz. kept_pair h lh z x nz (node_still g h x gh nx))))

module _ (g : Graph) (l : IsFormed g) where
  pub kept_sign_extended : (x : NodeId) (w n : ℕ) → IsNode g x → IsWidth n → Keeps g IsNode (sign_extended x w n g)
  kept_sign_extended x w n nx b =
      kept_if g IsNode (nat_le n w) (zero_extended x w n) (msb x >>= (λ m. copies m (n - w) >>= (λ top. cat (top ∷ x ∷ [])))) (λ few. kept_zero_extended g l x w n nx b)
      (λ more. kept_then g IsNode IsNode (msb x g) (λ m. copies m (n - w) >>= (λ top. cat (top ∷ x ∷ []))) (kept_msb g l x nx)
      (λ h m lh gh nm. kept_then h IsNode IsNode (copies m (n - w) h) (λ top. cat (top ∷ x ∷ [])) (kept_copies h lh m (n - w) nm)
      (λ i top li gi nt. kept_pair i li top x nt (node_still h i x gi (node_still g h x gh nx)))))

module _ (g : Graph) (l : IsFormed g) where
  pub kept_uresize : (x : NodeId) (z : ℤ) → IsNode g x → Keeps g IsNode (uresize x z g)
  kept_uresize x z nx = kept_then g (λ h n. IsWidth n) IsNode (given (as_width z) g) (λ n. width x >>= (λ w. zero_extended x w n))
      (kept_given g (λ h n. IsWidth n) (as_width z) l (λ n e. width_of_number z n e))
      (λ h n lh gh b. kept_zero_extended h lh x (width_at h x) n (node_still g h x gh nx) b)

  pub kept_sresize : (x : NodeId) (z : ℤ) → IsNode g x → Keeps g IsNode (sresize x z g)
  kept_sresize x z nx = kept_then g (λ h n. IsWidth n) IsNode (given (as_width z) g) (λ n. width x >>= (λ w. sign_extended x w n))
      (kept_given g (λ h n. IsWidth n) (as_width z) l (λ n e. width_of_number z n e))
      (λ h n lh gh b. kept_sign_extended h lh x (width_at h x) n (node_still g h x gh nx) b)

  -- ---- shifts

  abbrev Shifts : (NodeId → ℕ → ℕ → Draws NodeId) → Type 0
  Shifts by = (x : NodeId) (w k : ℕ) → IsNode g x → IsWidth w → Keeps g IsNode (by x w k g)

  kept_left : Shifts left
  kept_left x w k nx b =
      kept_if g IsNode (k == 0) (answer x) (if nat_le w k then zeros w else part x (w - 1 - k) 0 >>= (λ a. zeros k >>= (λ z. cat (a ∷ z ∷ [])))) (λ none. kept_answer g IsNode x l nx)
      (λ some. kept_if g IsNode (nat_le w k) (zeros w) (part x (w - 1 - k) 0 >>= (λ a. zeros k >>= (λ z. cat (a ∷ z ∷ [])))) (λ all. kept_zeros g l w b)
      (λ less. kept_then g IsNode IsNode (part x (w - 1 - k) 0 g) (λ a. zeros k >>= (λ z. cat (a ∷ z ∷ []))) (kept_part g l x (w - 1 - k) 0 nx)
      (λ h a lh gh na. kept_then h IsNode IsNode (zeros k h) (λ z. cat (a ∷ z ∷ [])) (kept_zeros h lh k (below_width k w b some (leb-false w k less)))
      (λ i z li gi nz. kept_pair i li a z (node_still h i a gi na) nz))))

  kept_right : Shifts right
  kept_right x w k nx b =
      kept_if g IsNode (k == 0) (answer x) (if nat_le w k then zeros w else zeros k >>= (λ z. part x (w - 1) k >>= (λ a. cat (z ∷ a ∷ [])))) (λ none. kept_answer g IsNode x l nx)
      (λ some. kept_if g IsNode (nat_le w k) (zeros w) (zeros k >>= (λ z. part x (w - 1) k >>= (λ a. cat (z ∷ a ∷ [])))) (λ all. kept_zeros g l w b)
      (λ less. kept_then g IsNode IsNode (zeros k g) (λ z. part x (w - 1) k >>= (λ a. cat (z ∷ a ∷ []))) (kept_zeros g l k (below_width k w b some (leb-false w k less)))
      (λ h z lh gh nz. kept_then h IsNode IsNode (part x (w - 1) k h) (λ a. cat (z ∷ a ∷ [])) (kept_part h lh x (w - 1) k (node_still g h x gh nx))
      (λ i a li gi na. kept_pair i li z a (node_still h i z gi nz) na))))

  kept_right_signed : Shifts right_signed
  kept_right_signed x w k nx b =
      kept_if g IsNode (k == 0) (answer x) (msb x >>= past x w k) (λ none. kept_answer g IsNode x l nx)
      (λ some. kept_then g IsNode IsNode (msb x g) (past x w k) (kept_msb g l x nx)
      (λ h m lh gh nm. kept_if h IsNode (nat_le w k) (copies m w) (copies m k >>= (joined x w k)) (λ all. kept_copies h lh m w nm)
      (λ less. kept_then h IsNode IsNode (copies m k h) (joined x w k) (kept_copies h lh m k nm)
      (λ i top li gi nt. kept_then i IsNode IsNode (part x (w - 1) k i) (λ a. cat (top ∷ a ∷ [])) (kept_part i li x (w - 1) k (node_still h i x gi (node_still g h x gh nx)))
      (λ j a lj gj na. kept_pair j lj top a (node_still i j top gj nt) na)))))

  kept_shift : (by : NodeId → ℕ → ℕ → Draws NodeId) → Shifts by → (x : NodeId) (z : ℤ) → IsNode g x → Keeps g IsNode (shift by x z g)
  kept_shift by kept x (pos k) nx = kept x (width_at g x) k nx (width_is g x l nx)
  kept_shift by kept x (negsuc k) nx = tt

  pub kept_sll : (x : NodeId) (z : ℤ) → IsNode g x → Keeps g IsNode (sll x z g)
  kept_sll = kept_shift left kept_left

  pub kept_srl : (x : NodeId) (z : ℤ) → IsNode g x → Keeps g IsNode (srl x z g)
  kept_srl = kept_shift right kept_right

  pub kept_sra : (x : NodeId) (z : ℤ) → IsNode g x → Keeps g IsNode (sra x z g)
  kept_sra = kept_shift right_signed kept_right_signed
