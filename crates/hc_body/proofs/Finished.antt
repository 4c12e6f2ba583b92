-- The end of a body.
use Rattle.std.proofs.Common.{◌≡◌, ℕ, suc, ◌+◌, ◌*◌, ◌≤◌, ◌<◌, ◌^◌, List, [], ◌∷◌, length, refl, sym, ap, subst, ◌∙◌, arith}
use Rattle.std.proofs.lemmas.List.Sums.{sum_by-cons}
use Rattle.std.specs.Prelude.{sum_by, Ok, Err, ℤ}
use Rattle.hc_fault.specs.declared.fault.FaultKind.{FaultKind}
use Rattle.hc_fault.specs.declared.fault.Fault.{Fault}
use Rattle.hc_fault.specs.declared.fault.Path.{Path}
use Rattle.hc_fault.specs.declared.fault.Refused.{Refused}
use Rattle.hc_fault.specs.declared.fault.Refused.TheVariants as refused
use Rattle.hc_lang.specs.declared.tree.CircuitText.{CircuitText}
use Rattle.hc_lang.specs.declared.tree.Design.{Design}
use Rattle.hc_signal.specs.Member.{Has, first, later}
use Rattle.hc_signal.specs.declared.signal.Memory.{Memory}
use Rattle.hc_signal.specs.declared.signal.NodeId.{NodeId}
use Rattle.hc_signal.specs.Graph.{Graph}
use Rattle.hc_signal.specs.Weight.{graph_weight, graph_words}
use Rattle.hc_signal.specs.Lawful.{IsLawful}
use Rattle.hc_signal.specs.Checked.{IsChecked, Breaks, Rule, some_output, few_ports, all_driven}
use Rattle.hc_check.specs.CheckStop.{kind_of}
use Rattle.hc_body.specs.declared.kinds.Body.{Body}
use Rattle.hc_statements.specs.PortWidths.{parameters}
use Rattle.hc_statements.specs.Unrolled.{unrolled}
use Rattle.hc_statements.specs.declared.state.Elaborating.{Elaborating}
use Rattle.hc_statements.specs.Elaborated.{fault_at, call_elaborated}
use Rattle.hc_statements.specs.Gives.{IsAnswer, Refuses, Tells}
use Rattle.hc_body.specs.BodyOf.{BodyOf, broken, no_outputs, many_ports, undriven, whole, body_of, broken_line}

words_bound : (ms : List Memory) → ((m : Memory) → Has ms m → m.size ≤ 65536) → sum_by (λ (m : Memory). m.size) ms ≤ 65536 * length ms
words_bound [] small = omega arith
words_bound (m ∷ ms) small = rw (sum_by-cons (λ (k : Memory). k.size) m ms)
    (more m.size (sum_by (λ (k : Memory). k.size) ms) (length ms) (small m first) (words_bound ms (λ k has. small k (later has))))
  where
    more : (x s n : ℕ) → x ≤ 65536 → s ≤ 65536 * n → x + s ≤ 65536 * suc n
    more x s n one rest = omega (arith, one, rest)

pub few_words : (g : Graph) → IsLawful g → sum_by (λ (m : Memory). m.size) g.memories < 2 ^ 64
few_words g lawful = let bound = words_bound g.memories (λ m has. (lawful.memories m has).size.1) in let few = lawful.few.1 in omega (arith, bound, few)

module _ (d : Design) (c : CircuitText) (args : List ℤ) (path : Path) (e : Elaborating) where
  stops : (rule : Rule) (place : ℕ) → call_elaborated d path c args ≡ Ok e → Breaks e.graph rule place → BodyOf d c args path (Err (fault_at path (kind_of rule) (broken_line c e.declared rule place)))
  stops some_output place is (none, at) = no_outputs e is (none, refl)
  stops few_ports place is (some, many, at) = many_ports e is (some, many, refl)
  stops all_driven place is breaks = undriven e place is breaks

  stop_answer : (rule : Rule) (place : ℕ) (r : Refused) → call_elaborated d path c args ≡ Ok e → Breaks e.graph rule place
      → Tells r (fault_at path (kind_of rule) (broken_line c e.declared rule place)) → IsAnswer (λ (b : Body). b) (BodyOf d c args path) (Err r)
  stop_answer rule place refused.NoMemory is breaks tells = tt
  stop_answer rule place (refused.Fault fault) is breaks tells = subst (λ (f : Fault). BodyOf d c args path (Err f)) (sym tells) (stops rule place is breaks)

  pub breaks_answer : (g : Graph) (declared : List (NodeId × ℕ)) (rule : Rule) (place line : ℕ) (kind : FaultKind) (r : Refused) → call_elaborated d path c args ≡ Ok e
      → g ≡ e.graph → declared ≡ e.declared → kind ≡ kind_of rule → Breaks g rule place → line ≡ broken_line c declared rule place → Tells r (fault_at path kind line)
      → IsAnswer (λ (b : Body). b) (BodyOf d c args path) (Err r)
  breaks_answer g declared rule place line kind r is same lines of breaks at tells =
      let here : line ≡ broken_line c e.declared rule place = at ∙ ap (λ (l : List (NodeId × ℕ)). broken_line c l rule place) lines in
      stop_answer rule place r is (subst (λ (h : Graph). Breaks h rule place) same breaks)
      (subst (λ (k : FaultKind). Tells r (fault_at path k (broken_line c e.declared rule place))) of (subst (λ (l : ℕ). Tells r (fault_at path kind l)) here tells))

  pub whole_answer : (g : Graph) (weight words : ℕ) → call_elaborated d path c args ≡ Ok e → g ≡ e.graph → IsChecked g
      → weight ≡ (unrolled c.body (parameters c args)).count + graph_weight e.graph → words ≡ graph_words e.graph
      → BodyOf d c args path (Ok (record { circuit = g; children = e.children; weight = weight; words = words }))
  whole_answer g weight words is same checked heavy many =
      let b : Body = record { circuit = g; children = e.children; weight = weight; words = words } in
      let made : b ≡ body_of c args e = cc in
      subst (λ (x : Body). BodyOf d c args path (Ok x)) (sym made) (whole e is (subst IsChecked same checked))

pub fault_answer : (d : Design) (c : CircuitText) (args : List ℤ) (path : Path) (stop : Refused) → Refuses stop (call_elaborated d path c args)
    → IsAnswer (λ (b : Body). b) (BodyOf d c args path) (Err stop)
fault_answer d c args path refused.NoMemory is = tt
fault_answer d c args path (refused.Fault fault) is = broken fault is
