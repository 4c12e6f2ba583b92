-- What is so by the circuit alone is so wherever the circuit stands.
use Rattle.std.proofs.Common.{◌≡◌, ℕ, List, [], ◌∷◌, map, refl, sym, ◌∙◌, ap, ap₂, Bool}
use Rattle.std.specs.Prelude.{◌==◌, ◌&&◌, if◌then◌else◌, slice_get, slice_index, Option, Some, None}
use Rattle.std.proofs.lemmas.Option.{same_Some}
use Rattle.hc_bits.specs.BitVector.{BitVector, not_, select, cat_all, mux}
use Rattle.hc_bits.specs.Catalogue.{operation}
use Rattle.hc_signal.specs.declared.signal.NodeId.{NodeId}
use Rattle.hc_signal.specs.declared.signal.NodeRow.{NodeRow}
use Rattle.hc_signal.specs.declared.signal.WritePort.{WritePort}
use Rattle.hc_signal.specs.declared.signal.Node.{Node}
use Rattle.hc_signal.specs.declared.signal.Node.TheVariants.{Input, Wire, Const, Two, Not, Mux, Cat, Select, Reg, Read, InstOut, Op}
use Rattle.hc_signal.specs.Graph.{Graph}
use Rattle.hc_signal.specs.Lawful.{HasWidth}
use Rattle.hc_signal.specs.Operators.{binary}
use Rattle.hc_signal.specs.Tree.{Tree}
use Rattle.hc_signal.specs.Occurrences.{Occurrence}
use Rattle.hc_bench.specs.Simulation.{State, value, vector_at, width_of, cleared, is_enabled, next_value, word_after}
use Rattle.hc_values.specs.Rows.{Kept, StandsAt, number_at}
use Rattle.hc_values.specs.Values.{HasStateFor, IsOwn, IsValue, operand, own_value, valuation}

module _ (t : Tree) (p : List ℕ) (v : Occurrence → ℕ) (g : Graph) (values : List BitVector) (at : StandsAt t p v g values) where
  vector_is : (id : NodeId) → operand g values id ≡ vector_at t v p id
  vector_is id = ap₂ (λ (h : Graph) (x : ℕ). record { width = width_of (slice_get h.nodes id.0); value = x }) (sym at.circuit) (sym (at.numbers id.0))

  vectors_are : (ids : List NodeId) → map (operand g values) ids ≡ map (vector_at t v p) ids
  vectors_are [] = refl
  vectors_are (id ∷ ids) = ap₂ (λ x xs. x ∷ xs) (vector_is id) (vectors_are ids)

  -- ---- registers

  enabled_is : (enable : Option NodeId) → is_enabled (valuation values) [] enable ≡ is_enabled v p enable
  enabled_is None = refl
  enabled_is (Some id) = ap (λ (x : ℕ). x == 1) (sym (at.numbers id.0))

  cleared_is : (clear : Option (NodeId × BitVector)) (x : ℕ) → cleared (valuation values) [] clear x ≡ cleared v p clear x
  cleared_is None x = refl
  cleared_is (Some c) x = ap (λ (k : ℕ). if k == 1 then c.1.value else x) (sym (at.numbers c.0.0))

  pub next_is : (x : Node) (old : ℕ) → next_value (valuation values) [] x old ≡ next_value v p x old
  next_is (Reg next enable clear init) old =
      cleared_is clear (if is_enabled (valuation values) [] enable then number_at values next.0 else old)
      ∙ ap₂ (λ (b : Bool) (x : ℕ). cleared v p clear (if b then x else old)) (enabled_is enable) (sym (at.numbers next.0))
  next_is (Input port) old = refl
  next_is (Wire driver) old = refl
  next_is (Const c) old = refl
  next_is (Two op a b) old = refl
  next_is (Not a) old = refl
  next_is (Mux sel cases) old = refl
  next_is (Cat parts) old = refl
  next_is (Select a hi lo) old = refl
  next_is (Read m addr) old = refl
  next_is (InstOut i port) old = refl
  next_is (Op kind args) old = refl

  -- ---- words

  pub word_is : (ws : List WritePort) (place old : ℕ) → word_after (valuation values) [] ws place old ≡ word_after v p ws place old
  word_is [] place old = refl
  word_is (w ∷ ws) place old =
      word_is ws place (if ((number_at values w.enable.0 == 1) && (number_at values w.addr.0 == place)) then number_at values w.value.0 else old)
      ∙ ap (word_after v p ws place)
      (ap₂ (λ (e a : ℕ). if ((e == 1) && (a == place)) then number_at values w.value.0 else old) (sym (at.numbers w.enable.0)) (sym (at.numbers w.addr.0))
      ∙ ap (λ (x : ℕ). if ((v (record { path = p; node = w.enable.0 }) == 1) && (v (record { path = p; node = w.addr.0 }) == place)) then x else old) (sym (at.numbers w.value.0)))

-- ---- values

module _ (g : Graph) (kept : Kept) (n : ℕ) (t : Tree) (p : List ℕ) (state : State) (inputs : List ℕ) (v : Occurrence → ℕ) (at : StandsAt t p v g kept.values) where
  value_is : (x : Node) → HasStateFor state p kept n x → own_value g kept n x ≡ value t state inputs v p n x
  value_is (Input port) h = absurd h
  value_is (InstOut i port) h = absurd h
  value_is (Wire None) h = refl
  value_is (Wire (Some a)) h = sym (at.numbers a.0)
  value_is (Const c) h = refl
  value_is (Two op a b) h = ap₂ (λ (x y : BitVector). (binary op x y).value) (vector_is t p v g kept.values at a) (vector_is t p v g kept.values at b)
  value_is (Not a) h = ap (λ (x : BitVector). (not_ x).value) (vector_is t p v g kept.values at a)
  value_is (Mux sel cases) h = ap₂ (λ (x : BitVector) (xs : List BitVector). (mux x xs).value) (vector_is t p v g kept.values at sel) (vectors_are t p v g kept.values at cases)
  value_is (Cat parts) h = ap (λ (xs : List BitVector). (cat_all xs).value) (vectors_are t p v g kept.values at parts)
  value_is (Select a hi lo) h = ap (λ (x : BitVector). (select x hi lo).value) (vector_is t p v g kept.values at a)
  value_is (Reg next enable clear init) h = sym h
  value_is (Read m addr) h = ap₂ (λ (xs : List ℕ) (k : ℕ). slice_index xs k) (sym h) (sym (at.numbers addr.0))
  value_is (Op kind args) h = ap (λ (xs : List BitVector). (operation kind xs).value) (vectors_are t p v g kept.values at args)

pub own_is_value : (g : Graph) (kept : Kept) (n : ℕ) (x : BitVector) → IsOwn g kept n x → IsValue g kept n x.value
own_is_value g kept n x own t p state inputs v row at is h =
    let same : own.0 ≡ row = same_Some _ _ (sym own.1 ∙ is) in
    ap (λ (b : BitVector). b.value) own.2 ∙ ap (λ (r : NodeRow). own_value g kept n r.node) same ∙ value_is g kept n t p state inputs v at row.node h

pub own_width : (g : Graph) (kept : Kept) (n : ℕ) (x : BitVector) → IsOwn g kept n x → HasWidth g (record { 0 = n }) x.width
own_width g kept n x own = (own.0, own.1, sym (ap (λ (b : BitVector). b.width) own.2))
