-- Forms are equal exactly where their circuits are isomorphic and paired instances have the same entry.
use Rattle.std.proofs.Common.{◌≡◌, ℕ, ◌<◌, ◌≤◌, List, length, refl, sym, subst, ◌∙◌, ap, inl, inr, arith}
use Rattle.std.proofs.lemmas.Option.{slice_get_past, slice_get_within}
use Rattle.std.specs.Prelude.{slice_get, Some}
use Rattle.hc_signal.specs.Member.{Has}
use Rattle.hc_signal.specs.Graph.{Graph, inst, Reached}
use Rattle.hc_signal.specs.Renumber.{Renumbering}
use Rattle.hc_canon.specs.declared.form.EntryId.{EntryId}
use Rattle.hc_canon.specs.Same.{IsIsomorphism}
use Rattle.hc_canon.specs.Numbering.{IsCanonical}
use Rattle.hc_canon.specs.FormView.{FormView, IsCanonOf, AreIsomorphic}
use Rattle.hc_canon.proofs.Renumbered.{then, number}
use Rattle.hc_canon.proofs.Isomorphisms.{reached_to, isomorphism_then, isomorphism_back}
use Rattle.hc_canon.proofs.Canonical.{canonical_once, ext_slice, instance_stays, reached_inst, two}
use Rattle.hc_canon.proofs.LaidOut.{has_index}

-- a graph has one canonical form
pub canonical_single : (g c d : Graph) (to back into home : Renumbering) → IsIsomorphism to back g c → IsIsomorphism into home g d → IsCanonical c → IsCanonical d → c ≡ d
canonical_single g c d to back into home e f cc cd =
    sym (canonical_once (then back into) (then home to) c d (isomorphism_then back to into home c g d (isomorphism_back to back g c e) f) cc cd)

-- where a kid of a form comes from
module _ (g : Graph) (ids : List EntryId) (f : FormView) (c : IsCanonOf g ids f) where
  home : IsIsomorphism c.back c.to f.circuit g
  home = isomorphism_back c.to c.back g f.circuit c.isomorphism

  -- the kid at k is that of the instance with the new number k
  pub kid_from : (k : ℕ) → k < length f.circuit.instances → Reached g (inst (c.back.inst k)) × (c.to.inst (c.back.inst k) ≡ k) × (slice_get f.kids k ≡ slice_get ids (c.back.inst k))
  kid_from k b =
      let r : Reached f.circuit (inst k) = reached_inst f.circuit c.form.canonical k b in
      let s : Reached g (inst (c.back.inst k)) = reached_to c.back c.to f.circuit g home r in
      let e : c.to.inst (c.back.inst k) ≡ k = ap number (home.one_to_one (inst k) r) in
      (s, e, ap (slice_get f.kids) (sym e) ∙ c.kids (c.back.inst k) s)

  -- each kid of a form is that of an instance that is reached
  pub kids_among : (id : EntryId) → Has f.kids id → (i : ℕ) × Reached g (inst i) × (slice_get ids i ≡ Some id)
  kids_among id h =
      let at : (k : ℕ) × (slice_get f.kids k ≡ Some id) = has_index h in
      let b : at.0 < length f.circuit.instances = subst (λ n. at.0 < n) c.form.kids (slice_get_within f.kids at.0 id at.1) in
      let x : _ = kid_from at.0 b in
      (c.back.inst at.0, x.0, sym x.2 ∙ at.1)

module _ (g h : Graph) (ids others : List EntryId) (a b : FormView) (ca : IsCanonOf g ids a) (cb : IsCanonOf h others b) (s : AreIsomorphic g ids h others) where
  along : IsIsomorphism (then ca.back s.0) (then s.1 ca.to) a.circuit h
  along = isomorphism_then ca.back ca.to s.0 s.1 a.circuit g h (isomorphism_back ca.to ca.back g a.circuit ca.isomorphism) s.2

  across : IsIsomorphism (then (then ca.back s.0) cb.to) (then cb.back (then s.1 ca.to)) a.circuit b.circuit
  across = isomorphism_then (then ca.back s.0) (then s.1 ca.to) cb.to cb.back a.circuit h b.circuit along cb.isomorphism

  same_circuit : b.circuit ≡ a.circuit
  same_circuit = canonical_once (then (then ca.back s.0) cb.to) (then cb.back (then s.1 ca.to)) a.circuit b.circuit across ca.form.canonical cb.form.canonical

  same_count : length b.circuit.instances ≡ length a.circuit.instances
  same_count = ap (λ (c : Graph). length c.instances) same_circuit

  kid_same : (k : ℕ) → slice_get b.kids k ≡ slice_get a.kids k
  kid_same k =
      elim (two k (length a.circuit.instances)) [
        | inl l ↦ (let x : _ = kid_from g ids a ca k l in
            let r : Reached h (inst (s.0.inst (ca.back.inst k))) = reached_to s.0 s.1 g h s.2 x.0 in
            let e : cb.to.inst (s.0.inst (ca.back.inst k)) ≡ k =
            instance_stays (then (then ca.back s.0) cb.to) (then cb.back (then s.1 ca.to)) a.circuit b.circuit across ca.form.canonical cb.form.canonical k
            (reached_inst a.circuit ca.form.canonical k l) in
            ap (slice_get b.kids) (sym e) ∙ cb.kids (s.0.inst (ca.back.inst k)) r ∙ s.3 (ca.back.inst k) x.0 ∙ sym x.2)
        | inr m ↦ (let p : length a.kids ≤ k = (let f : length a.kids ≡ length a.circuit.instances = ca.form.kids in omega (arith, f, m)) in
            let q : length b.kids ≤ k = (let f : length b.kids ≡ length b.circuit.instances = cb.form.kids in omega (arith, f, m, same_count)) in
            slice_get_past b.kids k q ∙ sym (slice_get_past a.kids k p))
      ]

  pub forms_from_isomorphic : a ≡ b
  forms_from_isomorphic = sym (λ i. record { circuit = same_circuit i; kids = ext_slice b.kids a.kids kid_same i })

module _ (g h : Graph) (ids others : List EntryId) (f : FormView) (c : IsCanonOf g ids f) (d : IsCanonOf h others f) where
  there : IsIsomorphism d.back d.to f.circuit h
  there = isomorphism_back d.to d.back h f.circuit d.isomorphism

  from_one_form : AreIsomorphic g ids h others
  from_one_form = (
    then c.to d.back,
    then d.to c.back,
    isomorphism_then c.to c.back d.back d.to g f.circuit h c.isomorphism there,
    λ i r. (let q : Reached f.circuit (inst (c.to.inst i)) = reached_to c.to c.back g f.circuit c.isomorphism r in
        let n : Reached h (inst (d.back.inst (c.to.inst i))) = reached_to d.back d.to f.circuit h there q in
        let e : d.to.inst (d.back.inst (c.to.inst i)) ≡ c.to.inst i = ap number (there.one_to_one (inst (c.to.inst i)) q) in
        sym (d.kids (d.back.inst (c.to.inst i)) n) ∙ ap (slice_get f.kids) e ∙ c.kids i r),
  )

pub isomorphic_from_forms : (g h : Graph) (ids others : List EntryId) (a b : FormView) → IsCanonOf g ids a → IsCanonOf h others b → a ≡ b → AreIsomorphic g ids h others
isomorphic_from_forms g h ids others a b ca cb e = from_one_form g h ids others a ca (subst (IsCanonOf h others) (sym e) cb)
