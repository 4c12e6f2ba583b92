-- Rows and lists that grow by an item.
use Rattle.std.proofs.Common.{◌≡◌, ℕ, ◌+◌, ◌<◌, Bool, true, false, cond, List, [], ◌∷◌, ◌++◌, map, take, get_or, length, refl, sym, ◌∙◌, ap, arith}
use Rattle.std.specs.Prelude.{slice_get, Some}
use Rattle.std.specs.List.{filter, range_with_len}
use Rattle.std.proofs.lemmas.List.{append-nil, map-append, take_more}
use Rattle.std.proofs.lemmas.List.FromFn.{filter_of_map_range_with_len_more, map-range_with_len_more}
use Rattle.std.proofs.lemmas.Option.{get_or_from_slice_get, slice_get_within}
use Rattle.hc_signal.specs.declared.signal.NodeId.{NodeId}
use Rattle.hc_signal.specs.declared.signal.MemId.{MemId}
use Rattle.hc_signal.specs.Graph.{Graph}
use Rattle.hc_canon.specs.declared.form.EntryId.{EntryId}
use Rattle.hc_canon.specs.FormView.{FormView}
use Rattle.hc_rows.specs.Rows.{with_item}
use Rattle.hc_hierstate.specs.States.{circuit_in, circuit_of, is_register_at, memory_id, node_id}

last_grows : {X : Type 0} (rows : List (List X)) (row : List X) (x : X) → with_item (rows ++ row ∷ []) x ≡ rows ++ (row ++ x ∷ []) ∷ []
last_grows [] row x = refl
last_grows (first ∷ []) row x = refl
last_grows (first ∷ (second ∷ rows)) row x = ap (λ it. first ∷ it) (last_grows (second ∷ rows) row x)

one_more : {R X : Type 0} (f : R → X) (items : List R) (k : ℕ) (r : R) → k < length items → r ≡ get_or items k r → map f (take (k + 1) items) ≡ map f (take k items) ++ f r ∷ []
one_more f items k r h e = ap (map f) (take_more items k r h ∙ ap (λ it. take k items ++ it ∷ []) (sym e)) ∙ map-append f (take k items) (r ∷ [])

-- the last row has one item more
pub row_pushed : {R X : Type 0} (f : R → X) (was rows next : List (List X)) (items : List R) (k : ℕ) (r : R) (x : X) → rows ≡ was ++ map f (take k items) ∷ [] → k < length items → r ≡ get_or items k r
    → x ≡ f r → next ≡ with_item rows x → next ≡ was ++ map f (take (k + 1) items) ∷ []
row_pushed f was rows next items k r x e h at is n =
    n ∙ ap (λ it. with_item it x) e ∙ last_grows was (map f (take k items)) x ∙ ap (λ y. was ++ (map f (take k items) ++ y ∷ []) ∷ []) is
    ∙ ap (λ it. was ++ it ∷ []) (sym (one_more f items k r h at))

-- one instance more has its row
pub instance_pushed : {X : Type 0} (row : Graph → List X) (forms : List FormView) (entries : List EntryId) (p : ℕ) (id : EntryId) (form : FormView) (g : Graph) (rows next : List (List X))
    → rows ≡ map (λ (id : EntryId). row (circuit_of forms id)) (take p entries) → slice_get entries p ≡ Some id → slice_get forms id.0 ≡ Some form → g ≡ form.circuit → next ≡ rows ++ row g ∷ []
    → next ≡ map (λ (id : EntryId). row (circuit_of forms id)) (take (p + 1) entries)
instance_pushed row forms entries p id form g rows next e at found is n =
    let same : g ≡ circuit_of forms id = is ∙ sym (ap circuit_in found) in
    n ∙ ap (λ it. it ++ row g ∷ []) e ∙ ap (λ (h : Graph). map (λ (id : EntryId). row (circuit_of forms id)) (take p entries) ++ row h ∷ []) same
    ∙ sym (one_more (λ (id : EntryId). row (circuit_of forms id)) entries p id (slice_get_within entries p id at) (sym (get_or_from_slice_get entries p id id at)))

module _ (g : Graph) (n : ℕ) (xs ys : List NodeId) (e : xs ≡ filter (is_register_at g) (map node_id (range_with_len 0 n))) where
  more : filter (is_register_at g) (map node_id (range_with_len 0 (n + 1))) ≡ filter (is_register_at g) (map node_id (range_with_len 0 n)) ++ cond (is_register_at g (node_id n)) (node_id n ∷ []) []
  more = filter_of_map_range_with_len_more (is_register_at g) node_id 0 n n (omega arith)

  pub register_kept : (b : Bool) → b ≡ is_register_at g (node_id n) → b ≡ true → ys ≡ xs ++ node_id n ∷ [] → ys ≡ filter (is_register_at g) (map node_id (range_with_len 0 (n + 1)))
  register_kept b f t s =
      s ∙ ap (λ it. it ++ node_id n ∷ []) e ∙ ap (λ (c : Bool). filter (is_register_at g) (map node_id (range_with_len 0 n)) ++ cond c (node_id n ∷ []) []) (sym t ∙ f) ∙ sym more

  pub other_left : (b : Bool) → b ≡ is_register_at g (node_id n) → b ≡ false → ys ≡ xs → ys ≡ filter (is_register_at g) (map node_id (range_with_len 0 (n + 1)))
  other_left b f t s =
      s ∙ e ∙ sym (append-nil (filter (is_register_at g) (map node_id (range_with_len 0 n))))
      ∙ ap (λ (c : Bool). filter (is_register_at g) (map node_id (range_with_len 0 n)) ++ cond c (node_id n ∷ []) []) (sym t ∙ f) ∙ sym more

pub memory_more : (m : ℕ) (xs ys : List MemId) → xs ≡ map memory_id (range_with_len 0 m) → ys ≡ xs ++ memory_id m ∷ [] → ys ≡ map memory_id (range_with_len 0 (m + 1))
memory_more m xs ys e f = f ∙ ap (λ it. it ++ memory_id m ∷ []) e ∙ sym (map-range_with_len_more memory_id 0 m m (omega arith))
