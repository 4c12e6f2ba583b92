-- No design is without an answer. Whether a tree has a loop is not decided here, so that each answer is told by contradiction.
use Rattle.std.proofs.Common.{◌≡◌, ℕ, zero, suc, ◌+◌, ◌<◌, ◌≤◌, ◌⊎◌, inl, inr, List, [], ◌∷◌, ◌++◌, refl, arith}
use Rattle.std.specs.Prelude.{slice_get, Option, Some, None, Result, Ok, Err, ℤ}
use Rattle.std.proofs.lemmas.Bool.{cases_lt}
use Rattle.hc_fault.specs.declared.fault.Fault.{Fault}
use Rattle.hc_fault.specs.declared.fault.FaultKind.{FaultKind}
use Rattle.hc_fault.specs.declared.fault.FaultKind.TheVariants.{CombLoop, DesignWords, TooDeep}
use Rattle.hc_fault.specs.declared.fault.Path.{Path}
use Rattle.hc_lang.specs.declared.tree.CircuitText.{CircuitText}
use Rattle.hc_lang.specs.declared.tree.Design.{Design}
use Rattle.hc_signal.specs.Occurrences.{HasCombLoop}
use Rattle.hc_signal.specs.Tree.{Tree}
use Rattle.hc_statements.specs.Elaborated.{child_path, fault_at}
use Rattle.hc_statements.specs.declared.kinds.Call.{Call}
use Rattle.hc_statements.specs.declared.kinds.Child.{Child}
use Rattle.hc_body.specs.BodyOf.{BodyOf, IsCall}
use Rattle.hc_body.specs.TopCall.{top_call, top_path}
use Rattle.hc_body.specs.declared.kinds.Body.{Body}
use Rattle.hc_plan.specs.Elaborates.{DesignElaborates, ElaborateChildren, Elaborated, Elaborates, FinishedCall, Sums, body_fault, body_tree, called, child_fault, comb_loop, elaborated_call, fault_in_child, finished_call, later_fault, limit_passed, many_words, most_levels, most_words, no_call, no_more, one_more, own_sums, past_limit, plus, too_deep, whole}
use Rattle.hc_plan.proofs.Right.{HaveChildren}

-- ---- what is not refuted

abbrev NotNot : Type 0 → Type 0
NotNot A = (A → ⊥) → ⊥

surely : {A : Type 0} → A → NotNot A
surely x none = none x

surely_then : {A B : Type 0} → NotNot A → (A → NotNot B) → NotNot B
surely_then x f none = x (λ a. f a none)

decided : (A : Type 0) → NotNot (A ⊎ (A → ⊥))
decided A none = none (inr (λ a. none (inl a)))

-- ---- calls

abbrev pub HaveAnswers : Design → Type 0
HaveAnswers d = (c : CircuitText) (args : List ℤ) (path : Path) → (r : Result Body Fault) × BodyOf d c args path r

module _ (d : Design) (answers : HaveAnswers d) (have_children : HaveChildren d) where
  abbrev L : Tree → Type 0
  L = HasCombLoop

  abbrev Told : ℕ → Path → Call → Type 0
  Told level path call = (done : List FinishedCall) × (r : Result Elaborated Fault) × Elaborates L d level path call done r

  abbrev AllTold : ℕ → Path → Sums → List Child → Type 0
  AllTold level path sums children = (done : List FinishedCall) × (r : Result (Sums × List Elaborated) Fault) × ElaborateChildren L d level path sums children done r

  abbrev AreCalls : List Child → Type 0
  AreCalls children = (i : ℕ) (child : Child) → slice_get children i ≡ Some child → IsCall d child.call

  -- a child that ended without a fault, and what comes after it
  after_kid : (level : ℕ) (path : Path) (sums : Sums) (child : Child) (more : List Child) → level < most_levels → (kid : Elaborated) (done : List FinishedCall)
      → Elaborates L d (suc level) (child_path path child.ident) child.call done (Ok kid)
      → ((s : Sums) → NotNot (AllTold level path s more)) → NotNot (AllTold level path sums (child ∷ more))
  after_kid level path sums child more above kid done own rest = by (limit_passed (plus sums kid.sums)) refl
    where
      joined : limit_passed (plus sums kid.sums) ≡ None → (inner : List FinishedCall) (r : Result (Sums × List Elaborated) Fault)
          → ElaborateChildren L d level path (plus sums kid.sums) more inner r → AllTold level path sums (child ∷ more)
      joined under inner (Ok all) x = (done ++ inner, Ok (all.0, kid ∷ all.1), one_more kid all.0 all.1 above own under x)
      joined under inner (Err f) x = (done ++ inner, Err f, later_fault kid f above own under x)

      by : (o : Option FaultKind) → limit_passed (plus sums kid.sums) ≡ o → NotNot (AllTold level path sums (child ∷ more))
      by (Some kind) past = surely (done, Err (fault_at path kind child.line), past_limit kid kind above own past)
      by None under = surely_then (rest (plus sums kid.sums)) (λ (t : AllTold level path (plus sums kid.sums) more). surely (joined under t.0 t.1 t.2))

  children_told : (level : ℕ) (path : Path) → (level < most_levels → (at : Path) (call : Call) → IsCall d call → NotNot (Told (suc level) at call))
      → (children : List Child) → AreCalls children → (sums : Sums) → NotNot (AllTold level path sums children)
  children_told level path below [] calls sums = surely ([], Ok (sums, []), no_more)
  children_told level path below (child ∷ more) calls sums = elim (cases_lt level most_levels) [
    | inl above ↦ surely_then (below above (child_path path child.ident) child.call (calls zero child refl))
        (λ (t : Told (suc level) (child_path path child.ident) child.call). told_so above t.0 t.1 t.2 (λ s. children_told level path below more (λ i c is. calls (suc i) c is) s))
    | inr deep ↦ surely ([], Err (fault_at path TooDeep child.line), too_deep deep)
  ]
    where
      told_so : level < most_levels → (done : List FinishedCall) (r : Result Elaborated Fault)
          → Elaborates L d (suc level) (child_path path child.ident) child.call done r → ((s : Sums) → NotNot (AllTold level path s more))
          → NotNot (AllTold level path sums (child ∷ more))
      told_so above done (Ok kid) own rest = after_kid level path sums child more above kid done own rest
      told_so above done (Err f) own rest = surely (done, Err f, fault_in_child f above own)

  call_told : (level : ℕ) (path : Path) (call : Call) → IsCall d call
      → (level < most_levels → (at : Path) (other : Call) → IsCall d other → NotNot (Told (suc level) at other)) → NotNot (Told level path call)
  call_told level path call (c, of) below = by (answers c call.args path)
    where
      with_children : (b : Body) → BodyOf d c call.args path (Ok b) → b.words ≤ most_words → (done : List FinishedCall) (r : Result (Sums × List Elaborated) Fault)
          → ElaborateChildren L d level path (own_sums b) b.children done r → NotNot (Told level path call)
      with_children b body words done (Err f) x = surely (done, Err f, child_fault c b f of body words x)
      with_children b body words done (Ok all) x = surely_then (decided (L (body_tree b all.1))) (λ (t : L (body_tree b all.1) ⊎ (L (body_tree b all.1) → ⊥)). elim t [
        | inl loop ↦ surely (done, Err (fault_at path CombLoop 0), comb_loop c b all.0 all.1 of body words x loop)
        | inr free ↦ surely (done ++ finished_call path call c b all.0 all.1 ∷ [], Ok (elaborated_call call c b all.0 all.1), whole c b all.0 all.1 of body words x free)
      ])

      with_body : (b : Body) → BodyOf d c call.args path (Ok b) → NotNot (Told level path call)
      with_body b body = elim (cases_lt most_words b.words) [
        | inl many ↦ surely ([], Err (fault_at path DesignWords c.line), many_words c b of body many)
        | inr few ↦ surely_then (children_told level path below b.children (have_children c call.args path b body).calls (own_sums b))
            (λ (t : AllTold level path (own_sums b) b.children). with_children b body few t.0 t.1 t.2)
      ]

      by : (r : Result Body Fault) × BodyOf d c call.args path r → NotNot (Told level path call)
      by (Ok b, body) = with_body b body
      by (Err f, body) = surely ([], Err f, body_fault c f of body)

  -- by how many levels may follow
  told : (n level : ℕ) → level + n ≡ most_levels → (path : Path) (call : Call) → IsCall d call → NotNot (Told level path call)
  told zero level e path call is = call_told level path call is (λ above at other it. absurd (omega (arith, above, e)))
  told (suc n) level e path call is = call_told level path call is (λ above at other it. told n (suc level) (omega (arith, e)) at other it)

  pub design_told : ((call : Call) → top_call d ≡ Ok call → IsCall d call) → NotNot ((r : Result Elaborated Fault) × DesignElaborates d r)
  design_told calls = by (top_call d) refl
    where
      by : (x : Result Call Fault) → top_call d ≡ x → NotNot ((r : Result Elaborated Fault) × DesignElaborates d r)
      by (Err f) is = surely (Err f, ([], no_call f is))
      by (Ok call) is = surely_then (told 63 1 refl top_path call (calls call is)) (λ (t : Told 1 top_path call). surely (t.1, (t.0, called call is t.2)))
