-- Words keep their widths at a clock edge.
use Rattle.std.proofs.Common.{◌≡◌, ℕ, zero, suc, ◌<◌, List, [], ◌∷◌, length, replicate, get_or, refl, sym, subst, ◌∙◌, ap, Bool, true, false}
use Rattle.std.specs.Prelude.{◌==◌, if◌then◌else◌, slice_get, slice_set, Option, Some, None, option_map}
use Rattle.std.proofs.lemmas.Option.{slice_get-map, slice_get-get_or}
use Rattle.hc_bits.specs.BitVector.{BitVector}
use Rattle.hc_signal.specs.Member.{Has, first, later}
use Rattle.hc_signal.specs.declared.signal.WritePort.{WritePort}
use Rattle.hc_signal.specs.declared.signal.Memory.{Memory}
use Rattle.hc_signal.specs.Graph.{Graph}
use Rattle.hc_signal.specs.Lawful.{HasWidth, IsLawfulMemory}
use Rattle.hc_walk.proofs.Members.{has_slice}
use Rattle.hc_flatsim.specs.Machine.{widths, memory_widths, number_at}
use Rattle.hc_flatsim.specs.Settling.{operand}
use Rattle.hc_flatsim.specs.Edges.{written, written_all}
use Rattle.hc_flatsim.proofs.Shapes.{same_set, operand_width, id_within}
use Rattle.hc_flatsim.proofs.Arms.{same_width}

past_set : {X : Type 0} (xs : List X) (n : ℕ) (x : X) → slice_get xs n ≡ None → slice_set xs n x ≡ xs
past_set [] n x e = refl
past_set (y ∷ xs) zero x e = absurd (cc)
past_set (y ∷ xs) (suc n) x e = ap (λ l. y ∷ l) (past_set xs n x e)

word_set : (words : List BitVector) (n w k : ℕ) (x : BitVector) → widths words ≡ replicate n w → x.width ≡ w → widths (slice_set words k x) ≡ replicate n w
word_set words n w k x e wide = go (slice_get words k) refl
  where
    go : (o : Option BitVector) → slice_get words k ≡ o → widths (slice_set words k x) ≡ replicate n w
    go None q = ap widths (past_set words k x q) ∙ e
    go (Some y) q =
        let old : y.width ≡ w = same_width n w k y.width (ap (λ (l : List ℕ). slice_get l k) (sym e) ∙ slice_get-map (λ (b : BitVector). b.width) words k
        ∙ ap (option_map (λ (b : BitVector). b.width)) q) in
        same_set (λ (b : BitVector). b.width) words k x y q (wide ∙ sym old) ∙ e

module _ (g : Graph) (values : List BitVector) (n w : ℕ) where
  one_written : (p : WritePort) → HasWidth g p.value w → (words : List BitVector) → widths words ≡ replicate n w → widths (written g values p words) ≡ replicate n w
  one_written p h words e = go (number_at values p.enable.0 == 1)
    where
      go : (b : Bool) → widths (if b then slice_set words (number_at values p.addr.0) (operand g values p.value) else words) ≡ replicate n w
      go true = word_set words n w (number_at values p.addr.0) (operand g values p.value) e (operand_width g values p.value w h)
      go false = e

  pub all_written : (ws : List WritePort) → ((p : WritePort) → Has ws p → HasWidth g p.value w) → (words : List BitVector) → widths words ≡ replicate n w
      → widths (written_all g values ws words) ≡ replicate n w
  all_written [] h words e = e
  all_written (p ∷ ws) h words e = all_written ws (λ q c. h q (later c)) (written g values p words) (one_written p (h p first) words e)

pub memory_written : (g : Graph) (values : List BitVector) (m : Memory) (words new : List BitVector) → IsLawfulMemory g m → widths words ≡ memory_widths m
    → new ≡ written_all g values m.writes words → widths new ≡ widths words
memory_written g values m words new l e is = ap widths is ∙ all_written g values m.size m.width m.writes (λ p c. (l.writes p c).value) words e ∙ sym e

-- ---- the operands of a write port that a loop reads

module _ (g : Graph) (m : Memory) (all : List WritePort) (k : ℕ) (d : WritePort) (l : IsLawfulMemory g m) (e : all ≡ m.writes) (b : k < length all) where
  has_port : Has m.writes (get_or all k d)
  has_port = subst (λ (ws : List WritePort). Has ws (get_or all k d)) e (has_slice all k (get_or all k d) (slice_get-get_or all k d b))

  pub enable_within : (get_or all k d).enable.0 < length g.nodes
  enable_within = id_within g (get_or all k d).enable 1 (l.writes (get_or all k d) has_port).enable

  pub addr_within : (get_or all k d).addr.0 < length g.nodes
  addr_within = let a = (l.writes (get_or all k d) has_port).addr in id_within g (get_or all k d).addr a.0 a.1

  pub value_port_within : (get_or all k d).value.0 < length g.nodes
  value_port_within = id_within g (get_or all k d).value m.width (l.writes (get_or all k d) has_port).value
