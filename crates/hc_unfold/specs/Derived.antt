-- The calls that unfold to several nodes, made from the inside out and from left to right.
use Rattle.std.specs.Prelude.{ℕ, ◌-◌, ◌*◌, ◌^◌, ◌&&◌, ◌==◌, nat_lt, nat_le, if◌then◌else◌, [], ◌∷◌, replicate, ℤ, pos, negsuc}
use Rattle.hc_fault.specs.declared.fault.FaultKind.TheVariants.{Width, WidthMismatch, SelectRange}
use Rattle.hc_bits.specs.BitVector.{BitVector}
use Rattle.hc_signal.specs.declared.signal.NodeId.{NodeId}
use Rattle.hc_signal.specs.declared.signal.Op2.TheVariants.{Xor, Lt, Eq}
use Rattle.hc_unfold.specs.Drawing.{Draws, ◌>>=◌, ◌>>◌, answer, fails, given, rule, width, as_width, constant, two, invert, mux, cat, select}

-- the bits from hi down to lo
abbrev pub part : NodeId → ℕ → ℕ → Draws NodeId
part x hi lo = select x (pos hi) (pos lo)

abbrev pub zeros : ℕ → Draws NodeId
zeros w = constant (record { width = w; value = 0 })

abbrev pub ne : NodeId → NodeId → Draws NodeId
ne x y = two Eq x y >>= invert

abbrev pub not_lt : NodeId → NodeId → Draws NodeId
not_lt x y = two Lt x y >>= invert

-- the highest bit of a width, alone
abbrev pub sign_bit : ℕ → BitVector
sign_bit w = record { width = w; value = 2 ^ (w - 1) }

-- less-than of two's complement numbers: unsigned, with both sign bits turned
abbrev pub lts : NodeId → NodeId → Draws NodeId
lts x y = do
  v ← width x
  w ← width y
  rule WidthMismatch (v == w)
  k ← constant (sign_bit w)
  a ← two Xor x k
  b ← two Xor y k
  two Lt a b

-- a where the one bit s is 1, else b
abbrev pub mux2 : NodeId → NodeId → NodeId → Draws NodeId
mux2 s a b = do
  u ← width s
  v ← width a
  w ← width b
  rule WidthMismatch ((u == 1) && (v == w))
  mux s (b ∷ a ∷ [])

abbrev pub msb : NodeId → Draws NodeId
msb x = do
  w ← width x
  part x (w - 1) (w - 1)

-- x side by side, n times
abbrev pub copies : NodeId → ℕ → Draws NodeId
copies x n = do
  w ← width x
  rule Width (nat_le 1 n && nat_le (n * w) 128)
  cat (replicate n x)

abbrev pub repeat : NodeId → ℤ → Draws NodeId
repeat x (pos n) = copies x n
repeat x (negsuc n) = fails Width

-- x of width w in n bits: as it is, cut, or with zeros above
abbrev pub zero_extended : NodeId → ℕ → ℕ → Draws NodeId
zero_extended x w n =
    if n == w then answer x else (if nat_lt n w then part x (n - 1) 0 else (do
      z ← zeros (n - w)
      cat (z ∷ x ∷ [])))

-- the same with copies of the sign above
abbrev pub sign_extended : NodeId → ℕ → ℕ → Draws NodeId
sign_extended x w n =
    if nat_le n w then zero_extended x w n else (do
      m ← msb x
      top ← copies m (n - w)
      cat (top ∷ x ∷ []))

abbrev pub uresize : NodeId → ℤ → Draws NodeId
uresize x z = do
  n ← given (as_width z)
  w ← width x
  zero_extended x w n

abbrev pub sresize : NodeId → ℤ → Draws NodeId
sresize x z = do
  n ← given (as_width z)
  w ← width x
  sign_extended x w n

-- x of width w shifted by k bits
abbrev pub left : NodeId → ℕ → ℕ → Draws NodeId
left x w k =
    if k == 0 then answer x else (if nat_le w k then zeros w else (do
      a ← part x (w - 1 - k) 0
      z ← zeros k
      cat (a ∷ z ∷ [])))

abbrev pub right : NodeId → ℕ → ℕ → Draws NodeId
right x w k =
    if k == 0 then answer x else (if nat_le w k then zeros w else (do
      z ← zeros k
      a ← part x (w - 1) k
      cat (z ∷ a ∷ [])))

-- with copies of the sign in the place of zeros
abbrev pub right_signed : NodeId → ℕ → ℕ → Draws NodeId
right_signed x w k =
    if k == 0 then answer x else (do
      m ← msb x
      if nat_le w k then copies m w else (do
        top ← copies m k
        a ← part x (w - 1) k
        cat (top ∷ a ∷ [])))

-- a shift is by no negative number
abbrev pub shift : (NodeId → ℕ → ℕ → Draws NodeId) → NodeId → ℤ → Draws NodeId
shift by x (pos k) = do
  w ← width x
  by x w k
shift by x (negsuc k) = fails SelectRange

abbrev pub sll : NodeId → ℤ → Draws NodeId
sll = shift left

abbrev pub srl : NodeId → ℤ → Draws NodeId
srl = shift right

abbrev pub sra : NodeId → ℤ → Draws NodeId
sra = shift right_signed
