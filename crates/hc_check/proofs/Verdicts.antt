-- Each lawful graph meets the rules or breaks one, and what a stop tells.
use Rattle.std.proofs.Common.{◌≡◌, ◌⊎◌, ◌≤◌, ◌<◌, ℕ, suc, List, [], ◌∷◌, map, length, refl, sym, subst, ◌∙◌, ap, inl, inr, arith}
use Rattle.std.specs.Prelude.{◌↔◌, Option, Some, None, Result, Ok, Err, IsErrAnd, IsOkUnless, MatchResult}
use Rattle.hc_signal.specs.declared.signal.Port.{Port}
use Rattle.hc_signal.specs.Graph.{Graph, Vertex, node, mem, inst, Reached}
use Rattle.hc_signal.specs.Lawful.{IsLawful}
use Rattle.hc_signal.specs.Checked.{Rule, some_output, few_ports, all_driven, Breaks, HasPorts, IsChecked, IsUndriven}
use Rattle.hc_check.specs.declared.rules.CheckStop.{CheckStop}
use Rattle.hc_check.specs.declared.rules.CheckStop.TheVariants.{Broken, NoMemory}
use Rattle.hc_fault.specs.declared.fault.FaultKind.TheVariants.{Undriven}
use Rattle.hc_signal.specs.Member.{Has}
use Rattle.hc_walk.specs.declared.vertex.VertexId.{VertexId}
use Rattle.hc_walk.specs.declared.vertex.VertexId.TheVariants.{Node as AtNode, Memory, Instance}
use Rattle.hc_walk.specs.VertexId.{vertices_of}
use Rattle.hc_walk.proofs.Walks.{walk_meets}
use Rattle.hc_walk.proofs.Walking.{walk_exists}
use Rattle.hc_check.specs.Undriven.{least_undriven}
use Rattle.hc_check.proofs.Least.{least_is_undriven, none_undriven}
use Rattle.hc_check.specs.CheckStop.{kind_of, IsStop, Tells}

abbrev pub IsVerdict : Graph → Result (Unit {0}) CheckStop → Type 0
IsVerdict g r = MatchResult r (λ _. IsChecked g) (IsStop g)

-- some outputs, and ports that are few enough
none_or_some : (g : Graph) → g.ports.outputs ≡ [] → 1 ≤ length g.ports.outputs → ⊥
none_or_some g e h = let l : length g.ports.outputs ≡ 0 = ap length e in omega (arith, h, l)

few_or_many : (g : Graph) → (length g.ports.outputs ≤ 128) × (length g.ports.inputs ≤ 128) → (128 < length g.ports.inputs) ⊎ (128 < length g.ports.outputs) → ⊥
few_or_many g f m = elim m [ inl h ↦ omega (arith, f.1, h) | inr h ↦ omega (arith, f.0, h) ]

one_least : (P : ℕ → Type 0) (j k : ℕ) → P j → P k → ((i : ℕ) → i < j → ¬ P i) → ((i : ℕ) → i < k → ¬ P i) → j ≡ k
one_least P j k a b c d = elim (below_or j k) [ inl h ↦ absurd (d j h a) | inr h ↦ elim (below_or k j) [ inl l ↦ absurd (c k l b) | inr l ↦ omega (arith, h, l) ] ]
  where
    below_or : (m n : ℕ) → (m < n) ⊎ (n ≤ m)
    below_or m n = grind arith

-- one broken rule, at one place
pub one_broken : (g : Graph) (r s : Rule) (j k : ℕ) → Breaks g r j → Breaks g s k → (r ≡ s) × (j ≡ k)
one_broken g some_output some_output j k a b = (refl, a.1 ∙ sym b.1)
one_broken g some_output few_ports j k a b = absurd (none_or_some g a.0 b.0)
one_broken g some_output all_driven j k a b = absurd (none_or_some g a.0 b.0.0)
one_broken g few_ports some_output j k a b = absurd (none_or_some g b.0 a.0)
one_broken g few_ports few_ports j k a b = (refl, a.2 ∙ sym b.2)
one_broken g few_ports all_driven j k a b = absurd (few_or_many g (b.0.1, b.0.2) a.1)
one_broken g all_driven some_output j k a b = absurd (none_or_some g b.0 a.0.0)
one_broken g all_driven few_ports j k a b = absurd (few_or_many g (a.0.1, a.0.2) b.1)
one_broken g all_driven all_driven j k a b = (refl, one_least (IsUndriven g) j k a.1 b.1 a.2 b.2)

pub not_both : (g : Graph) (rule : Rule) (place : ℕ) → IsChecked g → Breaks g rule place → ⊥
not_both g some_output place c b = none_or_some g b.0 c.outputs
not_both g few_ports place c b = few_or_many g (c.few_outputs, c.few_inputs) b.1
not_both g all_driven place c b = c.driven place b.1.0 b.1.1

pub verdict_passes : (g : Graph) (r : Result (Unit {0}) CheckStop) → IsVerdict g r → IsChecked g → IsOkUnless r NoMemory
verdict_passes g (Ok u) v c = tt
verdict_passes g (Err (Broken kind which)) v c = absurd (not_both g v.0 which c v.2)
verdict_passes g (Err NoMemory) v c = refl

pub verdict_tells : (g : Graph) (r : Result (Unit {0}) CheckStop) → IsVerdict g r → (rule : Rule) (place : ℕ) → Breaks g rule place → IsErrAnd r (Tells rule place)
verdict_tells g (Ok u) v rule place b = not_both g rule place v b
verdict_tells g (Err (Broken kind which)) v rule place b = let o : _ = one_broken g v.0 rule which place v.2 b in (v.1 ∙ ap kind_of o.0, o.1)
verdict_tells g (Err NoMemory) v rule place b = tt

module _ (g : Graph) (met : List VertexId) (reached : (v : Vertex) → Has (vertices_of met) v ↔ Reached g v) (ports : HasPorts g) where
  pub undriven_stops : (n : ℕ) → least_undriven g met ≡ Some n → (r : Result (Unit {0}) CheckStop) → r ≡ Err (Broken Undriven n) → IsVerdict g r
  undriven_stops n e r q = subst (IsVerdict g) (sym q) (let u : _ = least_is_undriven g met reached n e in (all_driven, refl, (ports, u.0, u.1)))

  pub all_pass : least_undriven g met ≡ None → IsChecked g
  all_pass e = record { outputs = ports.0; few_inputs = ports.2; few_outputs = ports.1; driven = λ n r w. none_undriven g met reached e n (r, w) }

-- the program's number of a vertex
id_of : Vertex → VertexId
id_of (node n) = AtNode (record { 0 = n })
id_of (mem m) = Memory (record { 0 = m })
id_of (inst i) = Instance (record { 0 = i })

vertices_of_ids : (vs : List Vertex) → vertices_of (map id_of vs) ≡ vs
unfolding id_of
vertices_of_ids [] = refl
vertices_of_ids (node n ∷ vs) = ap (λ l. node n ∷ l) (vertices_of_ids vs)
vertices_of_ids (mem m ∷ vs) = ap (λ l. mem m ∷ l) (vertices_of_ids vs)
vertices_of_ids (inst i ∷ vs) = ap (λ l. inst i ∷ l) (vertices_of_ids vs)

abbrev HasVerdict : Graph → Type 0
HasVerdict g = IsChecked g ⊎ ((rule : Rule) × (place : ℕ) × Breaks g rule place)

module _ (g : Graph) (lawful : IsLawful g) where
  met : List VertexId
  met = map id_of (walk_exists g lawful).0

  met_reached : (v : Vertex) → Has (vertices_of met) v ↔ Reached g v
  unfolding met
  met_reached v =
      let w : _ = walk_exists g lawful in
      subst (λ l. Has l v ↔ Reached g v) (sym (vertices_of_ids w.0)) (walk_meets g w.0 v w.1)

  by_walk : HasPorts g → (o : Option ℕ) → least_undriven g met ≡ o → HasVerdict g
  by_walk ports None e = inl (all_pass g met met_reached ports e)
  by_walk ports (Some n) e = let u : _ = least_is_undriven g met met_reached n e in inr (all_driven, n, (ports, u.0, u.1))

  by_ports : (1 ≤ length g.ports.outputs) → (128 < length g.ports.inputs) ⊎ (length g.ports.inputs ≤ 128) → (128 < length g.ports.outputs) ⊎ (length g.ports.outputs ≤ 128) → HasVerdict g
  by_ports some (inl many) outputs = inr (few_ports, 128, (some, inl many, refl))
  by_ports some (inr few) (inl many) = inr (few_ports, 128, (some, inr many, refl))
  by_ports some (inr few) (inr fewer) = by_walk (some, fewer, few) (least_undriven g met) refl

  above_or : (m n : ℕ) → (m < n) ⊎ (n ≤ m)
  above_or m n = grind arith

  by_outputs : (xs : List Port) → g.ports.outputs ≡ xs → HasVerdict g
  by_outputs [] e = inr (some_output, 0, (e, refl))
  by_outputs (x ∷ xs) e =
      let l : length g.ports.outputs ≡ suc (length xs) = ap length e in
      by_ports (omega (arith, l)) (above_or 128 (length g.ports.inputs)) (above_or 128 (length g.ports.outputs))

  -- each lawful graph has a verdict
  pub some_verdict : HasVerdict g
  some_verdict = by_outputs g.ports.outputs refl
