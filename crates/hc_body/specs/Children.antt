-- The calls of a body's instances.
use Rattle.std.specs.Prelude.{◌≡◌, ℕ, List, length, slice_get, Some, Ok}
use Rattle.hc_lang.specs.declared.tree.CircuitText.{CircuitText}
use Rattle.hc_lang.specs.declared.tree.Design.{Design}
use Rattle.hc_signal.specs.declared.signal.Instance.{Instance}
use Rattle.hc_statements.specs.declared.kinds.Child.{Child}
use Rattle.hc_body.specs.declared.kinds.Body.{Body}
use Rattle.hc_statements.specs.PortWidths.{port_widths, ports_of}
use Rattle.hc_body.specs.BodyOf.{IsCall, IsCallOf}

-- A child for each instance: its call is one of the design, and the instance has the ports of the circuit that is called.
pub record AreChildrenOf (d : Design) (b : Body) : Type 0 where
  pub many : length b.children ≡ length b.circuit.instances
  pub calls : (i : ℕ) (child : Child) → slice_get b.children i ≡ Some child → IsCall d child.call
  pub ports : (i : ℕ) (child : Child) (it : Instance) (c : CircuitText) → slice_get b.children i ≡ Some child → slice_get b.circuit.instances i ≡ Some it
      → IsCallOf d child.call c → (widths : List ℕ) × (port_widths c child.call.args ≡ Ok widths) × (it.ports ≡ ports_of c.heads widths)
