-- What was sent of a text and of the listing of a run.
use Rattle.std.proofs.Common.{◌≡◌, ℕ, List, ◌++◌, append_assoc, sym, ◌∙◌, ap, subst}
use Rattle.std.proofs.KnownBytes.{Appends-trans}
use Rattle.std.specs.Prelude.{Option, Some, Result, Ok, Err, OnErr, OnOk, IsErrOf}
use Rattle.std.specs.Result.{IsErr, IsOk}
use Rattle.std.specs.Io.KnownBytes.{Appends}
use Rattle.hc_outside.specs.Moves.{AppendsFront}
use Rattle.hc_signal.specs.declared.signal.Port.{Port}
use Rattle.hc_signal.specs.declared.signal.Ports.{Ports}
use Rattle.hc_signal.specs.Graph.{Graph}
use Rattle.hc_signal.specs.Occurrences.{HasCombLoop}
use Rattle.hc_signal.specs.Tree.{Tree, IsWhole, leaf}
use Rattle.hc_canon.specs.Same.{Same}
use Rattle.hc_canon.proofs.Isomorphisms.{same-refl}
use Rattle.hc_bench.specs.declared.kinds.Step.{Step}
use Rattle.hc_bench.specs.Listing.{CycleRow, listing}
use Rattle.hc_bench.specs.Playing.{IsPartListed}
use Rattle.hc_bench.specs.Simulation.{State, IsInitialState, initial_inputs}
use Rattle.hc_bench.specs.Trace.{IsAtStart, IsRun, IsSimulation, Simulation, Trace}
use Rattle.hc_output.specs.declared.kinds.ListingForm.{ListingForm}
use Rattle.hc_output.specs.declared.kinds.Played.{Played}
use Rattle.hc_output.specs.Prepared.{IsListing, IsWithListing, written_listing}

-- ---- results

pub on_ok : {T E : Type 0} (r : Result T E) (P Q : Type 0) → (P → Q) → OnOk r P → OnOk r Q
on_ok (Ok x) P Q f h = f h
on_ok (Err e) P Q f h = tt

pub on_err : {T E : Type 0} (r : Result T E) (P Q : Type 0) → (P → Q) → OnErr r P → OnErr r Q
on_err (Ok x) P Q f h = tt
on_err (Err e) P Q f h = f h

pub on_any : {T E : Type 0} (r : Result T E) (P : Type 0) → P → OnErr r P
on_any (Ok x) P h = tt
on_any (Err e) P h = h

-- what holds where another result is fine
pub ok_through : {T E S F : Type 0} (r : Result T E) (s : Result S F) (P : Type 0) → OnOk r (IsOk s) → OnOk s P → OnOk r P
ok_through (Ok x) (Ok y) P is h = h
ok_through (Ok x) (Err e) P is h = absurd cc
ok_through (Err e) s P is h = tt

-- and where it is not
pub err_through : {T E S F : Type 0} (r : Result T E) (s : Result S F) (k : E) (P : Type 0) → OnErr r (IsErr s) → OnErr s P → IsErrOf r k → P
err_through (Ok x) s k P is h of = absurd cc
err_through (Err e) (Ok y) k P is h of = absurd cc
err_through (Err e) (Err f) k P is h of = h

-- ---- a text, and more after it

-- a front of the first part is one of both
pub front_of_first : (a b : Option (List ℕ)) (text more : List ℕ) → AppendsFront a b text → AppendsFront a b (text ++ more)
front_of_first a b text more (rest, (front, is, some)) = (rest ++ more, (front, ap (λ l. l ++ more) is ∙ append_assoc front rest more, some))

-- the first part and a front of the second
pub front_of_both : (a b c : Option (List ℕ)) (text more : List ℕ) → Appends a b text → AppendsFront b c more → AppendsFront a c (text ++ more)
front_of_both a b c text more whole (rest, (front, is, some)) =
    (rest, (text ++ front, ap (λ l. text ++ l) is ∙ sym (append_assoc text front rest), Appends-trans a b c text front whole some))

-- the second part in other words
pub front_of_pair : {T E : Type 0} (r : Result T E) (a b : Option (List ℕ)) (text more other : List ℕ) → more ≡ other → OnErr r (AppendsFront a b (text ++ more))
    → OnErr r (AppendsFront a b (text ++ other))
front_of_pair r a b text more other e h = subst (λ (l : List ℕ). OnErr r (AppendsFront a b (text ++ l))) e h

-- what is written of a listing, where its form is known
pub written_ok : {T E : Type 0} (r : Result T E) (f known : ListingForm) (a b : Option (List ℕ)) (text rows : List ℕ) → f ≡ known
    → OnOk r (Appends a b (text ++ written_listing known rows)) → OnOk r (Appends a b (text ++ written_listing f rows))
written_ok r f known a b text rows e h = subst (λ (x : ListingForm). OnOk r (Appends a b (text ++ written_listing x rows))) (sym e) h

pub written_front : (f known : ListingForm) (a b : Option (List ℕ)) (text rows : List ℕ) → f ≡ known → AppendsFront a b (text ++ written_listing known rows)
    → AppendsFront a b (text ++ written_listing f rows)
written_front f known a b text rows e h = subst (λ (x : ListingForm). AppendsFront a b (text ++ written_listing x rows)) (sym e) h

-- ---- a run from the start

abbrev SameAlike : Type 0
SameAlike = (s t : Tree) → Same s t → IsWhole s → IsWhole t → ¬ HasCombLoop s → (state other : State) → IsInitialState s state → IsInitialState t other
    → (inputs : List ℕ) (count : ℕ) (steps : List Step) (rows : List CycleRow)
    → Trace s state inputs count steps rows → Trace t other inputs count steps rows

abbrev PartsAreFronts : Type 0
PartsAreFronts = (outputs : List Port) (sim : Simulation) (steps : List Step) (rows : List CycleRow) (old new : Option (List ℕ)) → IsSimulation sim → Trace sim.tree sim.state sim.inputs 0 steps rows
    → IsPartListed outputs sim 0 steps old new → AppendsFront old new (listing outputs rows)

module _ (alike : SameAlike) (fronts : PartsAreFronts) where
  -- a run has the rows that a simulator at the start gives
  trace_of_run : (sim : Simulation) (steps : List Step) (rows : List CycleRow) → IsSimulation sim → IsAtStart sim → IsRun sim.tree steps rows → Trace sim.tree sim.state sim.inputs 0 steps rows
  trace_of_run sim steps rows is begun (state, initial, run) =
      let here : Trace sim.tree sim.state (initial_inputs sim.tree) 0 steps rows = alike sim.tree sim.tree (same-refl sim.tree) is.whole is.whole is.no_loop state sim.state initial
      begun.state (initial_inputs sim.tree) 0 steps rows run in
      subst (λ (i : List ℕ). Trace sim.tree sim.state i 0 steps rows) (sym begun.inputs) here

  pub front_of_run : (sim : Simulation) (g : Graph) (ports : Ports) (steps : List Step) (rows : List CycleRow) (out : List ℕ) (old new : Option (List ℕ))
      → sim.tree ≡ leaf g → ports ≡ g.ports → IsSimulation sim → IsAtStart sim → IsRun (leaf g) steps rows
      → out ≡ listing g.ports.outputs rows → IsPartListed ports.outputs sim 0 steps old new → AppendsFront old new out
  front_of_run sim g ports steps rows out old new tree same is begun run out_is part =
      let here : IsRun sim.tree steps rows = subst (λ (t : Tree). IsRun t steps rows) (sym tree) run in
      let taken : AppendsFront old new (listing ports.outputs rows) = fronts ports.outputs sim steps rows old new is (trace_of_run sim steps rows is begun here) part in
      subst (AppendsFront old new) (sym (out_is ∙ ap (λ (p : Ports). listing p.outputs rows) (sym same))) taken

-- ---- a text, and what is written of the listing after it

listing_after : (text : List ℕ) (o : Option Played) (p : Played) (out : List ℕ) → o ≡ Some p → IsWithListing text o out
    → (rows : List ℕ) × IsListing p rows × (out ≡ text ++ written_listing p.form rows)
listing_after text o p out some is = subst (λ (q : Option Played). IsWithListing text q out) some is

pub sent_listing : {T E : Type 0} (r : Result T E) (sent text : List ℕ) (o : Option Played) (p : Played) (out : List ℕ) (old new : Option (List ℕ)) → sent ≡ text
    → o ≡ Some p → IsWithListing text o out
    → ((rows : List ℕ) → IsListing p rows → OnOk r (Appends old new (sent ++ written_listing p.form rows))) → OnOk r (Appends old new out)
sent_listing r sent text o p out old new same some is all =
    let l = listing_after text o p out some is in
    subst (λ (b : List ℕ). OnOk r (Appends old new b)) (ap (λ (t : List ℕ). t ++ written_listing p.form l.0) same ∙ sym l.2) (all l.0 l.1)

pub sent_listing_front : {T E : Type 0} (r : Result T E) (k : E) (sent text : List ℕ) (o : Option Played) (p : Played) (out : List ℕ) (old new : Option (List ℕ))
    → sent ≡ text → o ≡ Some p → IsWithListing text o out
    → ((rows : List ℕ) → IsListing p rows → IsErrOf r k → AppendsFront old new (sent ++ written_listing p.form rows)) → IsErrOf r k → AppendsFront old new out
sent_listing_front r k sent text o p out old new same some is front of =
    let l = listing_after text o p out some is in
    subst (AppendsFront old new) (ap (λ (t : List ℕ). t ++ written_listing p.form l.0) same ∙ sym l.2) (front l.0 l.1 of)
