-- The parameters and heads of a circuit at its arguments, or their first fault.
use Rattle.std.specs.Prelude.{ℕ, Bool, false, ◌||◌, if◌then◌else◌, List, [], ◌∷◌, ◌++◌, Result, Ok, Err, ℤ}
use Rattle.std.specs.List.{list_any}
use Rattle.std.specs.Str.{bytes_eq}
use Rattle.hc_fault.specs.declared.fault.FaultKind.{FaultKind}
use Rattle.hc_fault.specs.declared.fault.FaultKind.TheVariants.{RepeatedName}
use Rattle.hc_lang.specs.declared.tree.Head.{Head}
use Rattle.hc_lang.specs.declared.tree.CircuitText.{CircuitText}
use Rattle.hc_num.specs.Value.{Bindings, value}
use Rattle.hc_signal.specs.declared.signal.Port.{Port}
use Rattle.hc_signal.specs.declared.signal.Ports.{Ports}
use Rattle.hc_signal.specs.Builds.{port}
use Rattle.hc_unfold.specs.Drawing.{and_then, as_width}
use Rattle.hc_statements.specs.Unrolled.{Text}

-- the width of each head, in order; or the first fault with its line
abbrev pub PortWidths : Type 0
PortWidths = Result (List ℕ) (ℕ × FaultKind)

abbrev pub is_among : Text → List Text → Bool
is_among w ws = list_any (bytes_eq w) ws

-- a name that stands before
abbrev pub repeats : List Text → List Text → Bool
repeats taken [] = false
repeats taken (w ∷ ws) = is_among w taken || repeats (taken ++ w ∷ []) ws

-- the parameters, bound one after another
abbrev pub bound : List Text → List ℤ → Bindings → Bindings
bound [] args env = env
bound (p ∷ ps) [] env = env
bound (p ∷ ps) (a ∷ args) env = bound ps args ((p, a) ∷ env)

abbrev pub parameters : CircuitText → List ℤ → Bindings
parameters c args = bound c.params args []

-- a head after ports of other names: its number, its width, its name
abbrev pub new_name : List Text → Text → ℕ → Result ℕ FaultKind
new_name taken name w = if is_among name taken then Err RepeatedName else Ok w

abbrev pub width_of : Bindings → List Text → Head → Result ℕ FaultKind
width_of env taken h = and_then (and_then (value h.width env) as_width) (new_name taken h.name)

-- with the line of its fault
abbrev pub at_line : ℕ → Result ℕ FaultKind → Result ℕ (ℕ × FaultKind)
at_line line (Ok w) = Ok w
at_line line (Err kind) = Err (line, kind)

abbrev pub before : Result ℕ (ℕ × FaultKind) → PortWidths → PortWidths
before (Err f) more = Err f
before (Ok w) (Err f) = Err f
before (Ok w) (Ok ws) = Ok (w ∷ ws)

abbrev pub widths_after : Bindings → List Text → List Head → PortWidths
widths_after env taken [] = Ok []
widths_after env taken (h ∷ hs) = before (at_line h.line (width_of env taken h)) (widths_after env (taken ++ h.name ∷ []) hs)

abbrev pub port_widths : CircuitText → List ℤ → PortWidths
port_widths c args = if repeats [] c.params then Err (c.line, RepeatedName) else widths_after (parameters c args) [] c.heads

-- ---- ports

abbrev pub inputs_of : List Head → List ℕ → List Port
inputs_of [] ws = []
inputs_of (h ∷ hs) [] = []
inputs_of (h ∷ hs) (w ∷ ws) = if h.is_input then port h.name w ∷ inputs_of hs ws else inputs_of hs ws

abbrev pub outputs_of : List Head → List ℕ → List Port
outputs_of [] ws = []
outputs_of (h ∷ hs) [] = []
outputs_of (h ∷ hs) (w ∷ ws) = if h.is_input then outputs_of hs ws else port h.name w ∷ outputs_of hs ws

-- the ports of heads of these widths
abbrev pub ports_of : List Head → List ℕ → Ports
ports_of hs ws = record { inputs = inputs_of hs ws; outputs = outputs_of hs ws }
