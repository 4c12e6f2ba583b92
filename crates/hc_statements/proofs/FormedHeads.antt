-- The heads of a circuit make a formed body.
use Rattle.std.proofs.Common.{◌≡◌, ℕ, Bool, true, false, List, [], ◌∷◌, ◌++◌, refl, subst, arith}
use Rattle.std.specs.Prelude.{if◌then◌else◌, Result, Ok, Err, ℤ}
use Rattle.hc_fault.specs.declared.fault.FaultKind.{FaultKind}
use Rattle.hc_fault.specs.declared.fault.FaultKind.TheVariants.{RepeatedName}
use Rattle.hc_bits.specs.BitVector.{IsWidth}
use Rattle.hc_lang.specs.declared.tree.CircuitText.{CircuitText}
use Rattle.hc_lang.specs.declared.tree.Head.{Head}
use Rattle.hc_num.specs.Value.{Bindings, Outcome, value}
use Rattle.hc_signal.specs.Member.{first, later}
use Rattle.hc_signal.specs.Tree.{empty}
use Rattle.hc_unfold.specs.Formed.{IsFormed}
use Rattle.hc_unfold.specs.Drawing.{and_then, as_width, next}
use Rattle.hc_statements.specs.Formed.{IsFormedBody}
use Rattle.hc_statements.specs.Gives.{AreWidths}
use Rattle.hc_statements.specs.PortWidths.{PortWidths, at_line, before, is_among, new_name, parameters, port_widths, repeats, width_of, widths_after}
use Rattle.hc_statements.specs.Statements.{open_head, open_heads, open_input, open_output, with_input, with_output}
use Rattle.hc_statements.specs.Steps.{Elaborating, nothing}
use Rattle.hc_statements.specs.Unrolled.{Text}
use Rattle.hc_statements.proofs.FormedSteps.{Below}
use Rattle.hc_statements.proofs.HeadSteps.{no_widths}
use Rattle.hc_statements.proofs.Known.{known_input, known_output}

-- ---- widths

module _ (below : Below) where
  width_is : (env : Bindings) (taken : List Text) (h : Head) (w : ℕ) → width_of env taken h ≡ Ok w → IsWidth w
  width_is env taken h w e = by (value h.width env) e
    where
      named : (v : ℕ) → IsWidth v → (b : Bool) → ◌≡◌ {A = Result ℕ FaultKind} (if b then Err RepeatedName else Ok v) (Ok w) → IsWidth w
      named v is true e' = absurd cc
      named v is false e' = let same : v ≡ w = cc in subst IsWidth same is

      sized : (r : Result ℕ FaultKind) → ((v : ℕ) → r ≡ Ok v → IsWidth v) → and_then r (new_name taken h.name) ≡ Ok w → IsWidth w
      sized (Ok v) is e' = named v (is v refl) (is_among h.name taken) e'
      sized (Err kind) is e' = absurd cc

      by : (o : Outcome) → and_then (and_then o as_width) (new_name taken h.name) ≡ Ok w → IsWidth w
      by (Ok z) e' = sized (as_width z) (λ v is. below.widths z v is) e'
      by (Err kind) e' = absurd cc

  one_more : (w : ℕ) (ws : List ℕ) → IsWidth w → AreWidths ws → AreWidths (w ∷ ws)
  one_more w ws is are v first = is
  one_more w ws is are v (later has) = are v has

  after_are : (env : Bindings) (taken : List Text) (hs : List Head) (ws : List ℕ) → widths_after env taken hs ≡ Ok ws → AreWidths ws
  after_are env taken [] ws e = let same : [] ≡ ws = cc in subst AreWidths same no_widths
  after_are env taken (h ∷ hs) ws e = by (width_of env taken h) refl (widths_after env (taken ++ h.name ∷ []) hs) refl e (λ vs is. after_are env (taken ++ h.name ∷ []) hs vs is)
    where
      by : (r : Result ℕ FaultKind) → width_of env taken h ≡ r → (more : PortWidths) → widths_after env (taken ++ h.name ∷ []) hs ≡ more
          → before (at_line h.line r) more ≡ Ok ws → ((vs : List ℕ) → widths_after env (taken ++ h.name ∷ []) hs ≡ Ok vs → AreWidths vs) → AreWidths ws
      by (Ok w) is (Ok vs) rest e' all = let same : w ∷ vs ≡ ws = cc in subst AreWidths same (one_more w vs (width_is env taken h w is) (all vs rest))
      by (Ok w) is (Err f) rest e' all = absurd cc
      by (Err kind) is (Ok vs) rest e' all = absurd cc
      by (Err kind) is (Err f) rest e' all = absurd cc

  pub widths_are : (c : CircuitText) (args : List ℤ) (ws : List ℕ) → port_widths c args ≡ Ok ws → AreWidths ws
  widths_are c args ws e = by (repeats [] c.params) e
    where
      by : (b : Bool) → ◌≡◌ {A = PortWidths} (if b then Err (c.line, RepeatedName) else widths_after (parameters c args) [] c.heads) (Ok ws) → AreWidths ws
      by true e' = absurd cc
      by false e' = after_are (parameters c args) [] c.heads ws e'

  -- ---- heads

  opened_input : (e : Elaborating) (name : Text) (w : ℕ) → IsFormedBody e → IsWidth w → IsFormedBody (open_input e name w)
  opened_input e name w l b = record {
    graph = below.changes.input e.graph name w l.graph b;
    names = known_input e.graph (with_input e.graph name w) e.names (open_input e name w).names name w (next e.graph) l.names refl refl refl;
  }

  opened_output : (e : Elaborating) (line : ℕ) (name : Text) (w : ℕ) → IsFormedBody e → IsWidth w → IsFormedBody (open_output e line name w)
  opened_output e line name w l b = record {
    graph = below.changes.output e.graph name w l.graph b;
    names = known_output e.graph (with_output e.graph name w) e.names (open_output e line name w).names name w (next e.graph) l.names refl refl refl;
  }

  opened_head : (h : Head) (w : ℕ) (b : Bool) (e : Elaborating) → IsFormedBody e → IsWidth w → IsFormedBody (if b then open_input e h.name w else open_output e h.line h.name w)
  opened_head h w true e l is = opened_input e h.name w l is
  opened_head h w false e l is = opened_output e h.line h.name w l is

  opened_heads : (hs : List Head) (ws : List ℕ) (e : Elaborating) → IsFormedBody e → AreWidths ws → IsFormedBody (open_heads hs ws e)
  opened_heads [] ws e l are = l
  opened_heads (h ∷ hs) [] e l are = l
  opened_heads (h ∷ hs) (w ∷ ws) e l are = opened_heads hs ws (open_head h w e) (opened_head h w h.is_input e l (are w first)) (λ v has. are v (later has))

  empty_formed : IsFormed empty
  empty_formed = record {
    ports = record { inputs = λ p has. elim has [ ]; outputs = λ p has. elim has [ ] };
    nodes = λ n row e. absurd cc;
    memories = λ m has. elim has [ ];
    instances = λ i has. elim has [ ];
    outputs = tt;
    wires = λ id has. elim has [ ];
    own_wire = λ i j id a b. absurd cc;
    inputs = λ k b. absurd (omega (arith, b));
    one_input = λ m n k a b. absurd (let none : _ = a.1 in cc);
    no_label = λ n k row e q. absurd cc;
    one_output = λ m n k i a b. absurd (let none : _ = a.1 in cc);
  }

  pub heads_form : (c : CircuitText) (args : List ℤ) (widths : List ℕ) → port_widths c args ≡ Ok widths → IsFormedBody (open_heads c.heads widths nothing)
  heads_form c args widths e = opened_heads c.heads widths nothing (record { graph = empty_formed; names = λ n has. elim has [ ] }) (widths_are c args widths e)
