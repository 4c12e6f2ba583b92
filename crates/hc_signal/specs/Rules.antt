-- The rules of the primitives, over widths and numbers: the first rule that is broken, and the width of the result.
use Rattle.std.specs.Prelude.{◌≡◌, ℕ, ◌+◌, ◌-◌, ◌^◌, Bool, true, false, not, ◌&&◌, ◌==◌, nat_lt, nat_le, List, [], ◌∷◌, length, sum, Option, Some, None, Result, Ok, Err, ℤ, pos, negsuc, nat_abs}
use Rattle.std.specs.List.{list_all}
use Rattle.hc_fault.specs.declared.fault.FaultKind.{FaultKind}
use Rattle.hc_fault.specs.declared.fault.FaultKind.TheVariants as fault
use Rattle.hc_bits.specs.declared.kind.OpKind.{OpKind}
use Rattle.hc_bits.specs.Catalogue as catalogue
use Rattle.hc_signal.specs.declared.signal.Op2.{Op2}
use Rattle.hc_signal.specs.declared.signal.Op2.TheVariants.{Mulu, Muls, Eq, Lt}

-- the fault, unless the test holds
abbrev pub rule : FaultKind → Bool → Option FaultKind
rule kind true = None
rule kind false = Some kind

-- the first of two rules that is broken
abbrev pub first_broken : Option FaultKind → Option FaultKind → Option FaultKind
first_broken None next = next
first_broken (Some kind) next = Some kind

-- the answer of a test by a rule
abbrev pub IsVerdict : {T : Type 0} → Result T FaultKind → Option FaultKind → Type 0
IsVerdict (Ok answer) broken = broken ≡ None
IsVerdict (Err kind) broken = broken ≡ Some kind

-- ---- widths

-- from 1 to 128
abbrev pub is_width : ℕ → Bool
is_width w = nat_le 1 w && nat_le w 128

abbrev pub width_rule : ℤ → Option FaultKind
width_rule (pos w) = rule fault.Width (is_width w)
width_rule (negsuc n) = Some fault.Width

-- each has the width of the first
abbrev pub first_width : List ℕ → ℕ
first_width [] = 0
first_width (w ∷ ws) = w

abbrev pub are_equal : List ℕ → Bool
are_equal ws = list_all (λ w. w == first_width ws) ws

abbrev pub is_bit : Option ℕ → Bool
is_bit None = true
is_bit (Some w) = w == 1

-- ---- nodes

-- products need room for all bits, the others operands of one width
abbrev pub two_rule : Op2 → ℕ → ℕ → Option FaultKind
two_rule Mulu v w = rule fault.Width (nat_le (v + w) 128)
two_rule Muls v w = rule fault.Width (nat_le (v + w) 128)
two_rule op v w = rule fault.WidthMismatch (v == w)

abbrev pub two_width : Op2 → ℕ → ℕ → ℕ
two_width Mulu v w = v + w
two_width Muls v w = v + w
two_width Eq v w = 1
two_width Lt v w = 1
two_width op v w = v

-- a selector of width s, and the widths of the cases
abbrev pub mux_rule : ℕ → List ℕ → Option FaultKind
mux_rule s ws = first_broken (rule fault.WidthMismatch (are_equal ws)) (rule fault.MuxCount (nat_le (length ws) (2 ^ s)))

abbrev pub cat_rule : List ℕ → Option FaultKind
cat_rule ws = rule fault.Width (nat_le (sum ws) 128)

-- the bits from hi down to lo of w bits
abbrev pub select_rule : ℕ → ℤ → ℤ → Option FaultKind
select_rule w (pos hi) (pos lo) = rule fault.SelectRange (nat_le lo hi && nat_lt hi w)
select_rule w (pos hi) (negsuc lo) = Some fault.SelectRange
select_rule w (negsuc hi) lo = Some fault.SelectRange

abbrev pub select_width : ℕ → ℕ → ℕ
select_width hi lo = hi - lo + 1

-- the widths of enable and clear
abbrev pub reg_rule : Option ℕ → Option ℕ → Option FaultKind
reg_rule enable clear = rule fault.WidthMismatch (is_bit enable && is_bit clear)

abbrev pub op_rule : List ℕ → Option FaultKind
op_rule ws = rule fault.WidthMismatch (are_equal ws)

abbrev pub op_width : OpKind → List ℕ → ℕ
op_width kind ws = catalogue.result_width kind (first_width ws)

-- a wire of width w, driven or not, from a node of width v
abbrev pub drive_rule : ℕ → ℕ → Bool → Option FaultKind
drive_rule w v is_driven = first_broken (rule fault.WidthMismatch (w == v)) (rule fault.DrivenTwice (not is_driven))

-- ---- memories

-- from 1 to 65,536 words
abbrev pub size_rule : ℤ → Option FaultKind
size_rule (pos n) = rule fault.MemorySize (nat_le 1 n && nat_le n 65536)
size_rule (negsuc n) = Some fault.MemorySize

abbrev pub memory_rule : ℤ → ℤ → Option FaultKind
memory_rule size width = first_broken (width_rule width) (size_rule size)

-- the widths of enable and value, and that of the memory
abbrev pub write_rule : ℕ → ℕ → ℕ → Option FaultKind
write_rule enable value width = rule fault.WidthMismatch ((enable == 1) && (value == width))

-- ---- labels

-- what has a label takes no other, and the node of a port takes none
abbrev pub label_rule : Bool → Bool → Option FaultKind
label_rule has_label is_port = rule fault.RepeatedName (not has_label && not is_port)
