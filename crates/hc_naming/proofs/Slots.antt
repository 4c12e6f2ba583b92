-- The table of names while the names are taken.
use Rattle.std.proofs.Common.{◌≡◌, ℕ, zero, suc, ◌<◌, ◌==◌, Bool, true, false, if◌then◌else◌, List, [], ◌∷◌, ◌++◌, map, filter, drop, length, refl, sym, ap, subst, ◌∙◌, inl, inr, arith, append_assoc, append-nil, true≢false, eq-eqb}
use Rattle.std.specs.Prelude.{slice_get, slice_set, Option, Some, None, codes}
use Rattle.std.proofs.lemmas.List.{map-append}
use Rattle.std.specs.List.{enumerate_from}
use Rattle.hc_signal.specs.declared.signal.Port.{Port}
use Rattle.hc_signal.specs.declared.signal.NodeRow.{NodeRow}
use Rattle.hc_signal.specs.Member.{Has}
use Rattle.hc_signal.specs.Graph.{Graph, node, mem, inst}
use Rattle.hc_signal.specs.Lawful.{IsLawful}
use Rattle.hc_canon.specs.Numbering.{IsCanonical}
use Rattle.hc_names.specs.Mangling.{IsMangled}
use Rattle.hc_naming.specs.declared.names.ModuleNames.{ModuleNames}
use Rattle.hc_naming.specs.ModuleNames.{Named, clock, vertex, cell, same_named, Wants, Takes, name_in, want_input, first_number, is_inner, inner_nodes}
use Rattle.hc_naming.specs.NameTable.{slot_name, name_at, name_by, HasRoom, IsFilled, IsNaming, IsEmptyTable, HasNames, AreMarks, is_unmarked, from_inputs, from_outputs}
use Rattle.hc_naming.proofs.Named.{Given, keys, choice, same_named_equal, name_in_last, name_in_other, takes_keys, takes_more}
use Rattle.hc_naming.proofs.Apart.{AllDifferent, different_at}
use Rattle.hc_naming.proofs.Wanted.{wanted_different}

-- ---- slots

pub get_set_same : {X : Type 0} (xs : List X) (k : ℕ) (v : X) → k < length xs → slice_get (slice_set xs k v) k ≡ Some v
get_set_same [] k v h = absurd (omega (arith, h))
get_set_same (x ∷ xs) zero v h = refl
get_set_same (x ∷ xs) (suc k) v h = get_set_same xs k v (omega (arith, h))

pub get_set_other : {X : Type 0} (xs : List X) (k j : ℕ) (v : X) → (k ≡ j → ⊥) → slice_get (slice_set xs k v) j ≡ slice_get xs j
get_set_other [] k j v e = refl
get_set_other (x ∷ xs) zero zero v e = absurd (e refl)
get_set_other (x ∷ xs) zero (suc j) v e = refl
get_set_other (x ∷ xs) (suc k) zero v e = refl
get_set_other (x ∷ xs) (suc k) (suc j) v e = get_set_other xs k j v (λ same. e (ap suc same))

pub length_set : {X : Type 0} (xs : List X) (k : ℕ) (v : X) → length (slice_set xs k v) ≡ length xs
length_set [] k v = refl
length_set (x ∷ xs) zero v = refl
length_set (x ∷ xs) (suc k) v = ap suc (length_set xs k v)

filled_same : (slots : List (Option (List ℕ))) (k : ℕ) (name : List ℕ) → k < length slots → name_at (slice_set slots k (Some name)) k ≡ name
unfolding name_at
filled_same slots k name h = ap slot_name (get_set_same slots k (Some name) h)

filled_other : (slots : List (Option (List ℕ))) (k j : ℕ) (name : List ℕ) → (k == j) ≡ false → name_at (slice_set slots k (Some name)) j ≡ name_at slots j
unfolding name_at
filled_other slots k j name e = ap slot_name (get_set_other slots k j (Some name) (λ same. true≢false (sym (eq-eqb k j same) ∙ e)))

-- ---- one name more

module _ (g : Graph) (lawful : IsLawful g) (canonical : IsCanonical g) (used used' : List (List ℕ)) (names names' : ModuleNames) (rest : Wants) (want : List ℕ) where
  naming_more : (it : Named) (name : List ℕ) → IsNaming g used names ((it, want) ∷ rest) → IsMangled want used name → used' ≡ used ++ name ∷ []
      → name_by names' it ≡ name → ((other : Named) → same_named it other ≡ false → name_by names' other ≡ name_by names other) → HasRoom g names' → IsNaming g used' names' rest
  naming_more it name n mangled added same others room = record {
    done = n.done ++ (it, want) ∷ [];
    given = n.given ++ (it, name) ∷ [];
    parts = append_assoc n.done ((it, want) ∷ []) rest ∙ n.parts;
    takes = takes_more [] n.done n.given it want name n.takes (subst (λ u. IsMangled want u name) n.used_is mangled);
    used_is = added ∙ ap (λ u. u ++ name ∷ []) n.used_is ∙ sym (map-append (λ (p : Given). p.1) n.given ((it, name) ∷ []));
    named = λ other. elim (choice (same_named it other)) [
      | inl e ↦ subst (λ (o : Named). name_by names' o ≡ name_in (n.given ++ (it, name) ∷ []) o) (same_named_equal it other e) (same ∙ sym (name_in_last n.given it name new))
      | inr e ↦ others other e ∙ n.named other ∙ sym (name_in_other n.given it other name e)
    ];
    room = room;
  }
    where
      apart : AllDifferent (keys n.done ++ it ∷ keys rest)
      apart = subst AllDifferent (ap keys (sym n.parts) ∙ map-append (λ (w : Given). w.0) n.done ((it, want) ∷ rest)) (wanted_different g lawful canonical)

      new : ¬ Has (keys n.given) it
      new = subst (λ ks. ¬ Has ks it) (sym (takes_keys [] n.done n.given n.takes)) (different_at (keys n.done) it (keys rest) apart)

  pub node_named : (k : ℕ) → names'.memories ≡ names.memories → names'.instances ≡ names.instances → names'.cells ≡ names.cells → k < length names.nodes.items
      → IsFilled want used used' names.nodes.items names'.nodes.items k → IsNaming g used names ((vertex (node k), want) ∷ rest) → IsNaming g used' names' rest
  unfolding name_by
  node_named k m i c lt f n =
      naming_more (vertex (node k)) f.given n f.mangled f.added (ap (λ s. name_at s k) f.set ∙ filled_same names.nodes.items k f.given lt) others
      (record {
        nodes = ap length f.set ∙ length_set names.nodes.items k (Some f.given) ∙ n.room.nodes;
        memories = ap (λ v. length v.items) m
            ∙ n.room.memories;
        instances = ap (λ v. length v.items) i ∙ n.room.instances;
        cells = ap (λ v. length v.items) c ∙ n.room.cells;
      })
    where
      others : (other : Named) → same_named (vertex (node k)) other ≡ false → name_by names' other ≡ name_by names other
      others clock e = refl
      others (vertex (node j)) e = ap (λ s. name_at s j) f.set ∙ filled_other names.nodes.items k j f.given e
      others (vertex (mem j)) e = ap (λ v. name_at v.items j) m
      others (vertex (inst j)) e = ap (λ v. name_at v.items j) i
      others (cell j) e = ap (λ v. name_at v.items j) c

  pub memory_named : (k : ℕ) → names'.nodes ≡ names.nodes → names'.instances ≡ names.instances → names'.cells ≡ names.cells → k < length names.memories.items
      → IsFilled want used used' names.memories.items names'.memories.items k → IsNaming g used names ((vertex (mem k), want) ∷ rest) → IsNaming g used' names' rest
  unfolding name_by
  memory_named k m i c lt f n =
      naming_more (vertex (mem k)) f.given n f.mangled f.added (ap (λ s. name_at s k) f.set ∙ filled_same names.memories.items k f.given lt) others
      (record {
        memories = ap length f.set ∙ length_set names.memories.items k (Some f.given) ∙ n.room.memories;
        nodes = ap (λ v. length v.items) m
            ∙ n.room.nodes;
        instances = ap (λ v. length v.items) i ∙ n.room.instances;
        cells = ap (λ v. length v.items) c ∙ n.room.cells;
      })
    where
      others : (other : Named) → same_named (vertex (mem k)) other ≡ false → name_by names' other ≡ name_by names other
      others clock e = refl
      others (vertex (node j)) e = ap (λ v. name_at v.items j) m
      others (vertex (mem j)) e = ap (λ s. name_at s j) f.set ∙ filled_other names.memories.items k j f.given e
      others (vertex (inst j)) e = ap (λ v. name_at v.items j) i
      others (cell j) e = ap (λ v. name_at v.items j) c

  pub instance_named : (k : ℕ) → names'.nodes ≡ names.nodes → names'.memories ≡ names.memories → names'.cells ≡ names.cells → k < length names.instances.items
      → IsFilled want used used' names.instances.items names'.instances.items k → IsNaming g used names ((vertex (inst k), want) ∷ rest) → IsNaming g used' names' rest
  unfolding name_by
  instance_named k m i c lt f n =
      naming_more (vertex (inst k)) f.given n f.mangled f.added (ap (λ s. name_at s k) f.set ∙ filled_same names.instances.items k f.given lt) others
      (record {
        instances = ap length f.set ∙ length_set names.instances.items k (Some f.given) ∙ n.room.instances;
        nodes = ap (λ v. length v.items) m
            ∙ n.room.nodes;
        memories = ap (λ v. length v.items) i ∙ n.room.memories;
        cells = ap (λ v. length v.items) c ∙ n.room.cells;
      })
    where
      others : (other : Named) → same_named (vertex (inst k)) other ≡ false → name_by names' other ≡ name_by names other
      others clock e = refl
      others (vertex (node j)) e = ap (λ v. name_at v.items j) m
      others (vertex (mem j)) e = ap (λ v. name_at v.items j) i
      others (vertex (inst j)) e = ap (λ s. name_at s j) f.set ∙ filled_other names.instances.items k j f.given e
      others (cell j) e = ap (λ v. name_at v.items j) c

  pub cell_named : (k : ℕ) → names'.nodes ≡ names.nodes → names'.memories ≡ names.memories → names'.instances ≡ names.instances → k < length names.cells.items
      → IsFilled want used used' names.cells.items names'.cells.items k → IsNaming g used names ((cell k, want) ∷ rest) → IsNaming g used' names' rest
  unfolding name_by
  cell_named k m i c lt f n =
      naming_more (cell k) f.given n f.mangled f.added (ap (λ s. name_at s k) f.set ∙ filled_same names.cells.items k f.given lt) others
      (record {
        cells = ap length f.set ∙ length_set names.cells.items k (Some f.given) ∙ n.room.cells;
        nodes = ap (λ v. length v.items) m
            ∙ n.room.nodes;
        memories = ap (λ v. length v.items) i ∙ n.room.memories;
        instances = ap (λ v. length v.items) c ∙ n.room.instances;
      })
    where
      others : (other : Named) → same_named (cell k) other ≡ false → name_by names' other ≡ name_by names other
      others clock e = refl
      others (vertex (node j)) e = ap (λ v. name_at v.items j) m
      others (vertex (mem j)) e = ap (λ v. name_at v.items j) i
      others (vertex (inst j)) e = ap (λ v. name_at v.items j) c
      others (cell j) e = ap (λ s. name_at s j) f.set ∙ filled_other names.cells.items k j f.given e

-- ---- the first name, and the end

pub naming_start : (g : Graph) (names : ModuleNames) (name : List ℕ) → IsMangled (codes "clock") [] name → IsEmptyTable names → HasRoom g names → IsNaming g (name ∷ []) names (from_inputs g)
unfolding name_by
naming_start g names name mangled empty room = record {
  done = (clock, codes "clock") ∷ [];
  given = (clock, name) ∷ [];
  parts = refl;
  takes = (refl, mangled, tt);
  used_is = refl;
  named = named;
  room = room;
}
  where
    clock_is : IsMangled (codes "clock") [] name → codes "clock" ≡ name
    clock_is (inl free) = sym free.1
    clock_is (inr taken) = elim taken.0 [ ]

    named : (it : Named) → name_by names it ≡ name_in ((clock, name) ∷ []) it
    named clock = clock_is mangled
    named (vertex (node k)) = empty.nodes k
    named (vertex (mem k)) = empty.memories k
    named (vertex (inst k)) = empty.instances k
    named (cell k) = empty.cells k

pub naming_end : (g : Graph) (used : List (List ℕ)) (names : ModuleNames) → IsNaming g used names [] → HasNames g names
naming_end g used names n = (n.given, subst (λ ws. Takes [] ws n.given) (sym (append-nil n.done) ∙ n.parts) n.takes, λ i it. n.named it i)

-- a new slot is empty
pub empty_more : (slots : List (Option (List ℕ))) → ((k : ℕ) → name_at slots k ≡ []) → (k : ℕ) → name_at (slots ++ None ∷ []) k ≡ []
unfolding name_at
empty_more [] empty zero = refl
empty_more [] empty (suc k) = refl
empty_more (s ∷ slots) empty zero = empty zero
empty_more (s ∷ slots) empty (suc k) = empty_more slots (λ j. empty (suc j)) k

pub empty_none : (k : ℕ) → name_at [] k ≡ []
unfolding name_at
empty_none k = refl

pub naming_clock : (g : Graph) (names : ModuleNames) (used : List (List ℕ)) (ports : List Port) → used ≡ codes "clock" ∷ [] → ports ≡ g.ports.inputs → IsEmptyTable names
    → HasRoom g names → IsNaming g used names (map want_input (enumerate_from 0 ports) ++ from_outputs g)
naming_clock g names used ports only all empty room =
    subst (λ u. IsNaming g u names (map want_input (enumerate_from 0 ports) ++ from_outputs g)) (sym only)
    (subst (λ ps. IsNaming g (codes "clock" ∷ []) names (map want_input (enumerate_from 0 ps) ++ from_outputs g)) (sym all)
    (naming_start g names (codes "clock") (inl ((λ h. elim h [ ]), refl)) empty room))

-- the nodes without a mark are the inner ones
pub unmarked_inner : (g : Graph) (marks : List Bool) → AreMarks g marks → is_unmarked marks ≡ is_inner g
unmarked_inner g marks right = λ i p. if right.right p.0 i then false else true

pub inner_by_marks : (g : Graph) (marks : List Bool) (start : ℕ) (rows : List NodeRow) → AreMarks g marks → start ≡ first_number g → rows ≡ drop (first_number g) g.nodes
    → filter (is_unmarked marks) (enumerate_from start rows) ≡ inner_nodes g
inner_by_marks g marks start rows right at all = λ i. filter (unmarked_inner g marks right i) (enumerate_from (at i) (all i))
