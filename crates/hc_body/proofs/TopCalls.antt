-- The call of the `top` line.
use Rattle.std.proofs.Common.{◌≡◌, ℕ, ◌==◌, Bool, true, false, List, [], map, length, refl, subst, arith}
use Rattle.std.specs.Prelude.{Option, Some, None, Result, Ok, Err, ℤ, slice_get, if◌then◌else◌}
use Rattle.hc_fault.specs.declared.fault.FaultKind.{FaultKind}
use Rattle.hc_fault.specs.declared.fault.FaultKind.TheVariants.{ArgCount}
use Rattle.hc_lang.specs.declared.tree.CircuitText.{CircuitText}
use Rattle.hc_lang.specs.declared.tree.TopLine.{TopLine}
use Rattle.hc_lang.specs.declared.tree.Design.{Design}
use Rattle.hc_unfold.specs.Signals.{number}
use Rattle.hc_unfold.specs.Places.{numbers}
use Rattle.hc_statements.specs.declared.kinds.Call.{Call}
use Rattle.hc_statements.specs.Instances.{circuit_place}
use Rattle.hc_statements.specs.Elaborated.{fault_at}
use Rattle.hc_body.specs.BodyOf.{IsCall}
use Rattle.hc_body.specs.TopCall.{top_path, called_with, counted, named, top_call}
use Rattle.hc_statements.proofs.Connected.{values_count}

same_number : (a b : ℕ) → (a == b) ≡ true → a ≡ b
same_number a b t = grind arith

module _ (d : Design) (call : Call) where
  with_args : (line place : ℕ) (c : CircuitText) (r : Result (List ℤ) FaultKind) → slice_get d.circuits place ≡ Some c
      → ((zs : List ℤ) → r ≡ Ok zs → length zs ≡ length c.params) → called_with line place r ≡ Ok call → IsCall d call
  with_args line place c (Err kind) there many e = absurd cc
  with_args line place c (Ok zs) there many e =
      let is : record { circuit = place; args = zs } ≡ call = cc in
      subst (λ (x : Call). IsCall d x) is (c, record { there = there; args = many zs refl })

  with_count : (t : TopLine) (place : ℕ) (c : CircuitText) (b : Bool) → (length t.args == length c.params) ≡ b → slice_get d.circuits place ≡ Some c
      → (if b then called_with t.line place (numbers (map (number []) t.args)) else Err (fault_at top_path ArgCount t.line)) ≡ Ok call → IsCall d call
  with_count t place c false count there e = absurd cc
  with_count t place c true count there e = with_args t.line place c (numbers (map (number []) t.args)) there
      (λ zs is. values_count [] t.args zs (length c.params) is (same_number (length t.args) (length c.params) count)) e

  with_circuit : (t : TopLine) (place : ℕ) (o : Option CircuitText) → slice_get d.circuits place ≡ o → counted t place o ≡ Ok call → IsCall d call
  with_circuit t place None there e = absurd cc
  with_circuit t place (Some c) there e = with_count t place c (length t.args == length c.params) refl there e

  with_place : (o : Option ℕ) → named d.top d.circuits o ≡ Ok call → IsCall d call
  with_place None e = absurd cc
  with_place (Some place) e = with_circuit d.top place (slice_get d.circuits place) refl e

  pub top_is_call : top_call d ≡ Ok call → IsCall d call
  top_is_call e = with_place (circuit_place d.circuits d.top.name) e
