-- The value of each kind of node.
use Rattle.std.proofs.Common.{◌≡◌, ℕ, ◌+◌, ◌<◌, ◌≤◌, List, [], ◌∷◌, map, length, get_or, refl, sym, subst, ◌∙◌, ap, ap₂, arith}
use Rattle.std.specs.Prelude.{◌-◌, min, slice_get, Some, option_map, sum, sum_by}
use Rattle.std.proofs.lemmas.List.{length-map}
use Rattle.std.proofs.lemmas.Option.{slice_get-get_or, get_or_from_slice_get, slice_get-map}
use Rattle.std.proofs.lemmas.List.Sums.{sum_by-cons, sum-map}
use Rattle.hc_bits.proofs.Choices.{mux_read}
use Rattle.hc_walk.proofs.Members.{has_slice}
use Rattle.hc_bits.specs.BitVector.{BitVector, cat_all, mux}
use Rattle.hc_signal.specs.Member.{Has, first, later}
use Rattle.hc_signal.specs.declared.signal.NodeId.{NodeId}
use Rattle.hc_signal.specs.declared.signal.NodeRow.{NodeRow}
use Rattle.hc_signal.specs.declared.signal.Node.{Node}
use Rattle.hc_signal.specs.Graph.{Graph}
use Rattle.hc_signal.specs.Lawful.{AllHaveWidth, HaveWidths, IsLawfulNode}
use Rattle.hc_flatsim.specs.Machine.{widths}
use Rattle.hc_flatsim.specs.Settling.{operand, Given, own_value, own_vector, AreWithin}
use Rattle.hc_signal.specs.declared.signal.Node.TheVariants.{Input, Wire, Const, Two, Not, Mux, Cat, Select, Reg, Read, InstOut, Op}
use Rattle.hc_flatsim.specs.Edges.{initial_of}
use Rattle.hc_flatsim.proofs.Shapes.{operand_width, id_within}

-- a value of the right width and number is the node's
pub arm : (g : Graph) (given : Given) (values : List BitVector) (n : ℕ) (row : NodeRow) (node : Node) (x : BitVector) → row.node ≡ node → x.width ≡ row.width
    → x.value ≡ own_value g given values n node → x ≡ own_vector g given values n row
arm g given values n row node x is w v = ap₂ (λ (i j : ℕ). record { width = i; value = j }) w (v ∙ sym (ap (own_value g given values n) is))

pub all_within : (g : Graph) (ids : List NodeId) (w : ℕ) → AllHaveWidth g ids w → AreWithin g ids
all_within g ids w h id i = id_within g id w (h id i)

pub parts_within : (g : Graph) (ids : List NodeId) (ws : List ℕ) → HaveWidths g ids ws → AreWithin g ids
parts_within g [] ws h id i = elim i [ ]
parts_within g (x ∷ ids) [] h id i = absurd h
parts_within g (x ∷ ids) (w ∷ ws) h _ first = id_within g x w h.0
parts_within g (x ∷ ids) (w ∷ ws) h id (later i) = parts_within g ids ws h.1 id i

pub parts_widths : (g : Graph) (values : List BitVector) (ids : List NodeId) (ws : List ℕ) → HaveWidths g ids ws → widths (map (operand g values) ids) ≡ ws
parts_widths g values [] [] h = refl
parts_widths g values [] (w ∷ ws) h = absurd h
parts_widths g values (x ∷ ids) [] h = absurd h
parts_widths g values (x ∷ ids) (w ∷ ws) h = ap₂ (λ a b. a ∷ b) (operand_width g values x w h.0) (parts_widths g values ids ws h.1)

-- the width of parts side by side
cat_sum : (xs : List BitVector) → (cat_all xs).width ≡ sum_by (λ (x : BitVector). x.width) xs
cat_sum [] = refl
cat_sum (x ∷ []) = sym (sum_by-cons (λ (y : BitVector). y.width) x [] ∙ plus_none x.width)
  where
    plus_none : (n : ℕ) → n + 0 ≡ n
    plus_none n = omega arith
cat_sum (x ∷ y ∷ xs) = ap (λ n. x.width + n) (cat_sum (y ∷ xs)) ∙ sym (sum_by-cons (λ (z : BitVector). z.width) x (y ∷ xs))

pub cat_width : (xs : List BitVector) → (cat_all xs).width ≡ sum (widths xs)
cat_width xs = cat_sum xs ∙ sym (sum-map (λ (y : BitVector). y.width) xs)

-- the width of the case that is taken
pub mux_width : (s : BitVector) (xs : List BitVector) (w : ℕ) → 1 ≤ length xs → ((x : BitVector) → Has xs x → x.width ≡ w) → (mux s xs).width ≡ w
mux_width s xs w l h =
    let place : ℕ = min s.value (length xs - 1) in
    let within : place < length xs = omega (arith, l) in
    let r : BitVector = get_or xs place s in
    let at : slice_get xs place ≡ Some r = slice_get-get_or xs place s within in
    let is : r ≡ mux s xs = mux_read s.width s.value xs r l (sym (get_or_from_slice_get xs place r r at)) in
    ap (λ (b : BitVector). b.width) (sym is) ∙ h r (has_slice xs place r at)

-- what is picked by its place, from cases that are read one by one
pub mux_picks : (g : Graph) (values : List BitVector) (s : BitVector) (ids : List NodeId) (place : ℕ) (id : NodeId) (r : BitVector) → 1 ≤ length ids
    → place ≡ min s.value (length ids - 1) → slice_get ids place ≡ Some id → r ≡ operand g values id → r ≡ mux s (map (operand g values) ids)
mux_picks g values s ids place id r l e at is =
    let xs : List BitVector = map (operand g values) ids in
    let many : length xs ≡ length ids = length-map ids (operand g values) in
    let some : 1 ≤ length xs = subst (λ n. 1 ≤ n) (sym many) l in
    let here : slice_get xs place ≡ Some r = slice_get-map (operand g values) ids place ∙ ap (option_map (operand g values)) at ∙ ap Some (sym is) in
    let p : place ≡ min s.value (length xs - 1) = e ∙ ap (λ n. min s.value (n - 1)) (sym many) in
    mux_read s.width s.value xs r some (sym (get_or_from_slice_get xs (min s.value (length xs - 1)) r r (subst (λ n. slice_get xs n ≡ Some r) p here)))

pub cases_widths : (g : Graph) (values : List BitVector) (ids : List NodeId) (w : ℕ) → AllHaveWidth g ids w → (x : BitVector) → Has (map (operand g values) ids) x → x.width ≡ w
cases_widths g values [] w h x i = elim i [ ]
cases_widths g values (id ∷ ids) w h _ first = operand_width g values id w (h id first)
cases_widths g values (id ∷ ids) w h x (later i) = cases_widths g values ids w (λ z k. h z (later k)) x i

-- an initial value has the width of its register
pub initial_width : (g : Graph) (w : ℕ) (x : Node) (old : BitVector) → IsLawfulNode g w x → old.width ≡ w → (initial_of x old).width ≡ old.width
initial_width g w (Reg next enable clear init) old l e = l.3.1 ∙ sym e
initial_width g w (Input port) old l e = refl
initial_width g w (Wire driver) old l e = refl
initial_width g w (Const value) old l e = refl
initial_width g w (Two op i j) old l e = refl
initial_width g w (Not i) old l e = refl
initial_width g w (Mux sel cases) old l e = refl
initial_width g w (Cat parts) old l e = refl
initial_width g w (Select i hi lo) old l e = refl
initial_width g w (Read m addr) old l e = refl
initial_width g w (InstOut i port) old l e = refl
initial_width g w (Op kind args) old l e = refl
