-- What is still to be named, at a place of a list.
use Rattle.std.proofs.Common.{◌≡◌, ℕ, zero, suc, ◌+◌, ◌<◌, ◌≤◌, Bool, true, List, [], ◌∷◌, ◌++◌, map, filter, drop, length, get_or, refl, ap, subst, ◌∙◌, arith}
use Rattle.std.specs.Prelude.{slice_get, Option, Some}
use Rattle.std.specs.List.{enumerate_from}
use Rattle.std.proofs.lemmas.Option.{slice_get_within, slice_get_read}
use Rattle.std.proofs.lemmas.List.{length-map}
use Rattle.hc_signal.specs.declared.signal.Port.{Port}
use Rattle.hc_signal.specs.declared.signal.NodeId.{NodeId}
use Rattle.hc_signal.specs.Member.{Has, first, later}
use Rattle.hc_signal.specs.Graph.{Graph}
use Rattle.hc_signal.specs.Lawful.{IsLawful, HaveWidths}
use Rattle.hc_naming.specs.ModuleNames.{Wants}
use Rattle.hc_naming.specs.NameTable.{IsFilled}
use Rattle.hc_naming.proofs.Named.{Given}
use Rattle.hc_naming.proofs.Lists.{drop_at, drop_all}

-- ---- elements of lists

pub at_place : {X : Type 0} (xs : List X) (k : ℕ) (x : X) → k < length xs → x ≡ get_or xs k x → slice_get xs k ≡ Some x
at_place xs k x lt is = slice_get_read xs (length xs) k x refl lt is

pub has_get : {X : Type 0} (xs : List X) (k : ℕ) (d : X) → k < length xs → Has xs (get_or xs k d)
has_get [] k d lt = absurd (omega (arith, lt))
has_get (x ∷ xs) zero d lt = first
has_get (x ∷ xs) (suc k) d lt = later (has_get xs k d (omega (arith, lt)))

widths_length : (g : Graph) (ids : List NodeId) (ws : List ℕ) → HaveWidths g ids ws → length ids ≡ length ws
widths_length g [] [] h = refl
widths_length g (id ∷ ids) (w ∷ ws) h = ap suc (widths_length g ids ws h.1)
widths_length g [] (w ∷ ws) h = absurd h
widths_length g (id ∷ ids) [] h = absurd h

-- each output port has a node
pub outputs_paired : (g : Graph) → IsLawful g → length g.outputs ≡ length g.ports.outputs
outputs_paired g lawful = widths_length g g.outputs (map (λ (p : Port). p.width) g.ports.outputs) lawful.outputs ∙ length-map g.ports.outputs (λ (p : Port). p.width)

output_within : (g : Graph) (id : NodeId) → IsLawful g → Has g.outputs id → id.0 < length g.nodes
output_within g id lawful h = slice_get_within g.nodes id.0 (lawful.wires id h).0 (lawful.wires id h).2

pub output_at : (g : Graph) (ids : List NodeId) (k : ℕ) (d : NodeId) → IsLawful g → ids ≡ g.outputs → k < length ids → (get_or ids k d).0 < length g.nodes
output_at g ids k d lawful e lt = output_within g (get_or ids k d) lawful (subst (λ os. Has os (get_or ids k d)) e (has_get ids k d lt))

-- ---- the next name that is wanted

module _ {X : Type 0} (W : ℕ × X → Given) (xs : List X) (k : ℕ) (x : X) (at : slice_get xs k ≡ Some x) where
  pub wants_cut : (others : Wants) → map W (enumerate_from k (drop k xs)) ++ others ≡ W (k, x) ∷ (map W (enumerate_from (k + 1) (drop (k + 1) xs)) ++ others)
  wants_cut others = ap (λ l. map W (enumerate_from k l) ++ others) (drop_at xs k x at)

  pub passing_cut : (test : ℕ × X → Bool) (start : ℕ) → test (start + k, x) ≡ true
      → map W (filter test (enumerate_from (start + k) (drop k xs))) ≡ W (start + k, x) ∷ map W (filter test (enumerate_from (start + (k + 1)) (drop (k + 1) xs)))
  passing_cut test start passes =
      ap (λ l. map W (filter test (enumerate_from (start + k) l))) (drop_at xs k x at)
      ∙ rw passes (ap (λ n. W (start + k, x) ∷ map W (filter test (enumerate_from n (drop (k + 1) xs)))) (let s : start + k + 1 ≡ start + (k + 1) = omega arith in s))

pub pairs_cut : {X : Type 0} (W : X → Given) (xs : List X) (k : ℕ) (x : X) (others : Wants) → slice_get xs k ≡ Some x → map W (drop k xs) ++ others ≡ W x ∷ (map W (drop (k + 1) xs) ++ others)
pairs_cut W xs k x others at = ap (λ l. map W l ++ others) (drop_at xs k x at)

pub pairs_over : {X : Type 0} (W : X → Given) (xs : List X) (k : ℕ) (others : Wants) → length xs ≤ k → map W (drop k xs) ++ others ≡ others
pairs_over W xs k others le = ap (λ l. map W l ++ others) (drop_all xs k le)

pub filled_as : {want want' : List ℕ} (used used' : List (List ℕ)) (slots slots' : List (Option (List ℕ))) (at : ℕ) → want ≡ want'
    → IsFilled want used used' slots slots' at → IsFilled want' used used' slots slots' at
filled_as used used' slots slots' at e f = subst (λ w. IsFilled w used used' slots slots' at) e f
