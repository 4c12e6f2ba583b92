-- Inputs and outputs of a flat simulator.
use Rattle.std.proofs.Common.{◌≡◌, ℕ, zero, suc, ◌<◌, List, [], ◌∷◌, map, length, get_or, refl, sym, ◌∙◌, ap, ap₂, arith}
use Rattle.std.specs.Prelude.{slice_get, slice_set, slice_index, Some, option_map}
use Rattle.std.proofs.lemmas.List.{length-map}
use Rattle.std.proofs.lemmas.Option.{slice_get-map, slice_get_within, get_or_from_slice_get}
use Rattle.hc_bits.specs.BitVector.{BitVector}
use Rattle.hc_signal.specs.declared.signal.NodeId.{NodeId}
use Rattle.hc_signal.specs.declared.signal.Port.{Port}
use Rattle.hc_signal.specs.Graph.{Graph}
use Rattle.hc_signal.specs.Lawful.{IsLawful, HaveWidths}
use Rattle.hc_bench.specs.Simulation.{reset}
use Rattle.hc_bench.specs.Steps.{IsPortValue}
use Rattle.hc_bench.specs.Trace.{Simulation}
use Rattle.hc_flatsim.specs.declared.known.Known.TheVariants.{Nothing}
use Rattle.hc_flatsim.specs.Machine.{Machine, IsMachine, simulation_of, widths, numbers, port_widths}
use Rattle.hc_flatsim.specs.Settling.{operand}
use Rattle.hc_flatsim.specs.Edges.{initial_registers}
use Rattle.hc_flatsim.proofs.Shapes.{found, same_set}
use Rattle.hc_flatsim.proofs.Computing.{parts_widths}
use Rattle.hc_flatsim.proofs.Registers.{read_at, alike}
use Rattle.hc_flatsim.proofs.Stepped.{reset_state}

have_many : (g : Graph) (ids : List NodeId) (ws : List ℕ) → HaveWidths g ids ws → length ids ≡ length ws
have_many g [] [] h = refl
have_many g [] (w ∷ ws) h = absurd h
have_many g (id ∷ ids) [] h = absurd h
have_many g (id ∷ ids) (w ∷ ws) h = ap suc (have_many g ids ws h.1)

pub outputs_many : (g : Graph) (xs : List BitVector) → IsLawful g → widths xs ≡ port_widths g.ports.outputs → length xs ≡ length g.outputs
outputs_many g xs l e =
    sym (length-map xs (λ (x : BitVector). x.width)) ∙ ap length e ∙ sym (have_many g g.outputs (port_widths g.ports.outputs) l.outputs)

pub noted_widths : (g : Graph) (values to : List BitVector) → IsLawful g → to ≡ map (operand g values) g.outputs → widths to ≡ port_widths g.ports.outputs
noted_widths g values to l e = ap widths e ∙ parts_widths g values g.outputs (port_widths g.ports.outputs) l.outputs

-- an output that is read
pub output_is : (xs : List BitVector) (ports : List Port) (all : List BitVector) (n : ℕ) (x : BitVector) (p : Port) → widths xs ≡ port_widths ports → all ≡ xs
    → x ≡ get_or all n x → slice_get ports n ≡ Some p → x ≡ record { width = p.width; value = slice_index (numbers xs) n }
output_is xs ports all n x p e same is at =
    let here : x ≡ get_or xs n x = is ∙ ap (λ (l : List BitVector). get_or l n x) same in
    let got : slice_get xs n ≡ Some x = read_at (λ (b : BitVector). b.width) (λ (q : Port). q.width) xs ports e n p x at here in
    let value : slice_index (numbers xs) n ≡ x.value = get_or_from_slice_get (numbers xs) n x.value 0
    (slice_get-map (λ (b : BitVector). b.value) xs n ∙ ap (option_map (λ (b : BitVector). b.value)) got) in
    ap₂ (λ (w v : ℕ). record { width = w; value = v }) (alike (λ (b : BitVector). b.width) (λ (q : Port). q.width) xs ports e n p x at here) (sym value)

-- an input that is set
pub set_widths : (xs : List BitVector) (ports : List Port) (n : ℕ) (x : BitVector) → widths xs ≡ port_widths ports → IsPortValue ports n x → widths (slice_set xs n x) ≡ port_widths ports
set_widths xs ports n x e v =
    let y : (y : BitVector) × (slice_get xs n ≡ Some y) × (y.width ≡ v.0.width) = found (λ (b : BitVector). b.width) (λ (q : Port). q.width) xs ports n v.0 e v.1 in
    same_set (λ (b : BitVector). b.width) xs n x y.0 y.1 (v.2.1 ∙ sym y.2) ∙ e

pub input_within : (xs : List BitVector) (ports : List Port) (n : ℕ) (x : BitVector) → widths xs ≡ port_widths ports → IsPortValue ports n x → n < length xs
input_within xs ports n x e v =
    let y : (y : BitVector) × (slice_get xs n ≡ Some y) × (y.width ≡ v.0.width) = found (λ (b : BitVector). b.width) (λ (q : Port). q.width) xs ports n v.0 e v.1 in
    slice_get_within xs n y.0 y.1

numbers_set : (xs : List BitVector) (n : ℕ) (x : BitVector) → numbers (slice_set xs n x) ≡ slice_set (numbers xs) n x.value
numbers_set [] n x = refl
numbers_set (y ∷ xs) zero x = refl
numbers_set (y ∷ xs) (suc n) x = ap (λ (l : List ℕ). y.value ∷ l) (numbers_set xs n x)

pub set_is : (m new : Machine) (n : ℕ) (x : BitVector) → new ≡ record m { inputs = slice_set m.inputs n x; known = Nothing }
    → simulation_of new ≡ record (simulation_of m) { inputs = slice_set (simulation_of m).inputs n x.value }
set_is m new n x e = ap simulation_of e ∙ ap (λ (l : List ℕ). let s : Simulation = record (simulation_of m) { inputs = l } in s) (numbers_set m.inputs n x)

pub set_same : (m : Machine) (n : ℕ) (x : BitVector) → slice_set m.inputs n x ≡ m.inputs → simulation_of m ≡ record (simulation_of m) { inputs = slice_set (simulation_of m).inputs n x.value }
set_same m n x e = ap (λ (l : List ℕ). let s : Simulation = record (simulation_of m) { inputs = l } in s) (ap numbers (sym e) ∙ numbers_set m.inputs n x)

-- what is set to the value that it has
pub set_read : {X : Type 0} (xs : List X) (n : ℕ) (d x : X) → n < length xs → get_or xs n d ≡ x → slice_set xs n x ≡ xs
set_read [] n d x l e = refl
set_read (y ∷ xs) zero d x l e = ap (λ z. z ∷ xs) (sym e)
set_read (y ∷ xs) (suc n) d x l e = ap (λ z. y ∷ z) (set_read xs n d x (omega (arith, l)) e)

pub reset_is : (m new : Machine) → IsMachine m → new ≡ record m { registers = initial_registers m.graph m.clocked m.registers; known = Nothing }
    → simulation_of new ≡ record (simulation_of m) { state = reset (simulation_of m).tree (simulation_of m).state }
reset_is m new is e = ap simulation_of e ∙ sym (ap (λ s. let t : Simulation = record (simulation_of m) { state = s } in t) (reset_state m is))
