-- The text over the entries of a legal history is the text of their trees.
use Rattle.std.proofs.Common.{◌≡◌, ℕ, suc, ◌+◌, ◌<◌, inl, inr, Bool, true, false, cond, List, [], ◌∷◌, ◌++◌, length, map, append_assoc, length-append, refl, sym, ap, subst, ◌∙◌, arith}
use Rattle.std.proofs.lemmas.Option.{slice_get_within, slice_get-map}
use Rattle.std.specs.Prelude.{Some, option_map}
use Rattle.std.specs.List.{zip}
use Rattle.hc_signal.specs.Member.{Has, first, later}
use Rattle.hc_signal.specs.Graph.{Graph, inst, Reached}
use Rattle.hc_signal.specs.Tree.{Tree}
use Rattle.hc_canon.specs.declared.form.EntryId.{EntryId}
use Rattle.hc_canon.specs.FormView.{FormView}
use Rattle.hc_canon.specs.Same.{Same, IsIsomorphism}
use Rattle.hc_canon.proofs.Isomorphisms.{same-refl}
use Rattle.hc_canon.proofs.Renumbered.{same_numbers}
use Rattle.hc_dbstate.specs.declared.hier.Hier.{Hier}
use Rattle.hc_dbstate.specs.Elaboration.{CallView, IsElaboration, hier_view, walk}
use Rattle.hc_dbstate.specs.History.{History, IsLegal}
use Rattle.hc_dbstate.specs.Unfolding.{unfolding_of}
use Rattle.hc_dbstate.proofs.Denoted.{unfoldings_once}
use Rattle.hc_names.specs.Mangling.{IsMangled}
use Rattle.hc_names.specs.NameRows.{name_of_entry}
use Rattle.hc_names.specs.Naming.{Given, NamedTree, NameRow, IsNameAfter, AreNamesAfter, AreNameRows, named_tree, named_trees, is_among, first_rows}
use Rattle.hc_names.proofs.Members.{has_map, has_left, has_right}
use Rattle.hc_modules.specs.HierarchyText.{IsEntryText, AreTexts, IsHierarchyText}
use Rattle.hc_modules.specs.VerilogText.{IsFirst, IsNameOf, IsCallText, AreModules, IsVerilog}
use Rattle.hc_modules.proofs.Alike.{Named, names_given, given_more, one_more}
use Rattle.hc_modules.proofs.FirstPlaces.{first_after, not_first_after, among_first, among_later, among_cases, name_has_row, first_rows_among, row_call}
use Rattle.hc_modules.proofs.Reaching.{reached_kid, kid_unfolds, graph_unfolds, uses_reaches, reaches_used}
use Rattle.hc_modules.proofs.SamePaths.{isomorphism_same}

-- the entries seen so far are those of the calls so far
record AreSeen (entries : List FormView) (bound : ℕ) (given : Given) (seen : List EntryId) : Type 0 where
  pub entry : (g : Named) → Has given g → (id : EntryId) × (id.0 < bound) × (g.0.tree ≡ unfolding_of entries id) × (is_among id seen ≡ true)
  pub call : (id : EntryId) → is_among id seen ≡ true → (g : Named) × Has given g × (g.0.tree ≡ unfolding_of entries id)

module _ (entries : List FormView) (bound : ℕ) (given : Given) (seen : List EntryId) (call : NamedTree) (id : EntryId) (name : List ℕ) (lt : id.0 < bound)
    (is : call.tree ≡ unfolding_of entries id) (s : AreSeen entries bound given seen) where
  seen_again : is_among id seen ≡ true → AreSeen entries bound (given ++ (call, name) ∷ []) seen
  seen_again among = record {
    entry = λ g h. elim (one_more given (call, name) g h) [
      | inl old ↦ s.entry g old
      | inr new ↦ (id, lt, ap (λ (x : Named). x.0.tree) new ∙ is, among)
    ];
    call = λ j e. (let g = s.call j e in (g.0, has_left ((call, name) ∷ []) g.1, g.2));
  }

  seen_new : AreSeen entries bound (given ++ (call, name) ∷ []) (id ∷ seen)
  seen_new = record {
    entry = λ g h. elim (one_more given (call, name) g h) [
      | inl old ↦ let e = s.entry g old in (e.0, e.1, e.2, among_later e.0 id seen e.3)
      | inr new ↦ (id, lt, ap (λ (x : Named). x.0.tree) new ∙ is, among_first id seen)
    ];
    call = λ j e. elim (among_cases j id seen e) [
      | inl new ↦ ((call, name), has_right given first, is ∙ ap (unfolding_of entries) (sym new))
      | inr old ↦ let g = s.call j old in (g.0, has_left ((call, name) ∷ []) g.1, g.2)
    ];
  }

-- a mangled name is not used before
mangled_free : (name : List ℕ) (used : List (List ℕ)) (result : List ℕ) → IsMangled name used result → ¬ Has used result
mangled_free name used result (inl (free, is)) = subst (λ (n : List ℕ). ¬ Has used n) (sym is) free
mangled_free name used result (inr (taken, (k, is, free, lower))) = free

module _ (h : History) (legal : IsLegal h) (given : Given) (seen : List EntryId) (s : AreSeen h.entries (length h.entries) given seen) (c : CallView)
    (lt : c.own.entry.0 < length h.entries) (n : List ℕ) (is : IsNameAfter given (named_tree h.entries c) n) where
  -- the name of an entry that was seen stands before
  name_stands : is_among c.own.entry seen ≡ true → Has (names_given given) n
  name_stands among = elim is [
    | inl x ↦ subst (λ (l : List ℕ). Has (names_given given) l) (sym x.3) (has_map (λ (g : Named). g.1) x.1)
    | inr x ↦ (let g = s.call c.own.entry among in absurd (x.0 g.0 g.1 (subst (λ (t : Tree). Same t (unfolding_of h.entries c.own.entry)) (sym g.2) (same-refl (unfolding_of h.entries c.own.entry)))))
  ]

  -- the name of an entry that was not seen stands nowhere before
  name_new : is_among c.own.entry seen ≡ false → ¬ Has (names_given given) n
  name_new among = elim is [
    | inl x ↦ (let e = s.entry x.0 x.1 in
        let same : e.0 ≡ c.own.entry = unfoldings_once h legal e.0 c.own.entry e.1 lt (subst (λ (t : Tree). Same t (unfolding_of h.entries c.own.entry)) e.2 x.2) in
        let seen_too : is_among c.own.entry seen ≡ true = subst (λ (i : EntryId). is_among i seen ≡ true) same e.3 in
        absurd cc)
    | inr x ↦ mangled_free c.own.name (names_given given) n x.1
  ]

module _ (h : History) (legal : IsLegal h) (hier : Hier) (names : List (List ℕ)) (rows : List NameRow)
    (are : rows ≡ first_rows [] (zip (map (λ (c : CallView). c.own.entry) (walk hier)) names)) (top : EntryId) (within : top.0 < length h.entries) where
  abbrev top_tree : Tree
  top_tree = unfolding_of h.entries top

  abbrev calls : List NamedTree
  calls = named_trees h.entries hier

  -- the name in an entry's row is the name of its tree
  entry_named : (id : EntryId) (name : List ℕ) → name_of_entry rows id ≡ Some name → IsNameOf top_tree calls names (unfolding_of h.entries id) name
  entry_named id name e =
      let row : Has (first_rows [] (zip (map (λ (c : CallView). c.own.entry) (walk hier)) names)) (id, name) = subst (λ (l : List NameRow). Has l (id, name)) are (name_has_row rows id name e) in
      let r = row_call (walk hier) names id name (first_rows_among [] _ (id, name) row) in (
        r.0,
        named_tree h.entries r.1,
        slice_get-map (named_tree h.entries) (walk hier) r.0 ∙ ap (option_map (named_tree h.entries)) r.2,
        subst (λ (i : EntryId). Same (unfolding_of h.entries r.1.own.entry) (unfolding_of h.entries i)) r.3 (same-refl (unfolding_of h.entries r.1.own.entry)),
        r.4,
      )

  -- the module of an entry is the module of its call
  entry_text : (c : CallView) (name text : List ℕ) → IsEntryText h.entries rows (c.own.entry, name) text → IsCallText top_tree calls names (named_tree h.entries c) name text
  entry_text c name text x = record {
    modules = x.text_is.modules;
    named = λ i r. (let next = reached_kid h legal c.own.entry x.form i x.found (subst (λ (g : Graph). Reached g (inst i)) (graph_unfolds h legal c.own.entry x.form x.found) r) in
        subst (λ (t : Tree). IsNameOf top_tree calls names t (x.text_is.modules i)) (sym (kid_unfolds h legal c.own.entry x.form i next.0 x.found next.1))
        (entry_named next.0 (x.text_is.modules i) (x.text_is.named i next.0 next.1)));
    text_is = (
      x.form.circuit,
      same_numbers,
      same_numbers,
      (legal.forms c.own.entry.0 x.form x.found).canonical,
      subst (λ (g : Graph). IsIsomorphism same_numbers same_numbers g x.form.circuit) (sym (graph_unfolds h legal c.own.entry x.form x.found)) (isomorphism_same x.form.circuit),
      x.text_is.text_is,
    );
  }

  -- the calls from a place on, against the rows of the entries that were not seen
  abbrev Modules : List CallView → List (List ℕ) → Given → List EntryId → Type 0
  Modules cs ns given seen = (texts : List (List ℕ)) → AreTexts h.entries top rows (first_rows seen (zip (map (λ (c : CallView). c.own.entry) cs) ns)) texts
      → AreModules top_tree calls names (length (names_given given)) (map (named_tree h.entries) cs) texts

  next_place : (given : Given) (c : NamedTree) (n : List ℕ) → length (names_given (given ++ (c, n) ∷ [])) ≡ suc (length (names_given given))
  next_place given c n =
      let more : length (names_given given ++ n ∷ []) ≡ length (names_given given) + 1 = length-append (names_given given) (n ∷ []) in
      let all : length (names_given (given ++ (c, n) ∷ [])) ≡ length (names_given given ++ n ∷ []) = ap length (given_more given c n) in
      omega (arith, more, all)

  module _ (c : CallView) (cs : List CallView) (n : List ℕ) (ns : List (List ℕ)) (given : Given) (seen : List EntryId) (all : names ≡ names_given given ++ n ∷ ns) where
    abbrev own : NamedTree
    own = named_tree h.entries c

    rest_of : (texts : List (List ℕ)) → AreModules top_tree calls names (length (names_given (given ++ (own, n) ∷ []))) (map (named_tree h.entries) cs) texts
        → AreModules top_tree calls names (suc (length (names_given given))) (map (named_tree h.entries) cs) texts
    rest_of texts = subst (λ k. AreModules top_tree calls names k (map (named_tree h.entries) cs) texts) (next_place given own n)

    -- a call of an entry that was seen prints nothing
    passed : Has (names_given given) n → Modules cs ns (given ++ (own, n) ∷ []) seen → (texts : List (List ℕ))
        → AreTexts h.entries top rows (first_rows seen (zip (map (λ (d : CallView). d.own.entry) cs) ns)) texts
        → AreModules top_tree calls names (length (names_given given)) (own ∷ map (named_tree h.entries) cs) texts
    passed has rest texts x = inr (
      λ name p. not_first_after (names_given given) ns n name has (subst (λ (l : List (List ℕ)). IsFirst l (length (names_given given)) name) all p.0),
      rest_of texts (rest texts x),
    )

    -- a call of another entry prints its module, where the top uses the entry
    printed : c.own.entry.0 < length h.entries → ¬ Has (names_given given) n → Modules cs ns (given ++ (own, n) ∷ []) (c.own.entry ∷ seen) → (texts : List (List ℕ))
        → AreTexts h.entries top rows ((c.own.entry, n) ∷ first_rows (c.own.entry ∷ seen) (zip (map (λ (d : CallView). d.own.entry) cs) ns)) texts
        → AreModules top_tree calls names (length (names_given given)) (own ∷ map (named_tree h.entries) cs) texts
    printed lt free rest texts (inl (used, (text, more, is, splits, x))) = inl (
      n,
      text,
      more,
      (subst (λ (l : List (List ℕ)). IsFirst l (length (names_given given)) n) (sym all) (first_after (names_given given) ns n free), uses_reaches h legal top c.own.entry used),
      entry_text c n text is,
      splits,
      rest_of more (rest more x),
    )
    printed lt free rest texts (inr (unused, x)) = inr (λ name p. unused (reaches_used h legal top within c.own.entry lt p.1), rest_of texts (rest texts x))

  all_later : (given : Given) (c : NamedTree) (n : List ℕ) (ns : List (List ℕ)) → names ≡ names_given given ++ n ∷ ns → names ≡ names_given (given ++ (c, n) ∷ []) ++ ns
  all_later given c n ns all = all ∙ sym (append_assoc (names_given given) (n ∷ []) ns) ∙ ap (λ (l : List (List ℕ)). l ++ ns) (sym (given_more given c n))

  -- all calls from a place on
  modules_on : (cs : List CallView) (ns : List (List ℕ)) (given : Given) (seen : List EntryId) → ((c : CallView) → Has cs c → c.own.entry.0 < length h.entries)
      → names ≡ names_given given ++ ns → AreSeen h.entries (length h.entries) given seen
      → AreNamesAfter given (map (named_tree h.entries) cs) ns → Modules cs ns given seen
  modules_on [] ns given seen inside all s a texts x = x
  modules_on (c ∷ cs) [] given seen inside all s a texts x = absurd a
  modules_on (c ∷ cs) (n ∷ ns) given seen inside all s a texts x =
      by (λ more t. modules_on cs ns (given ++ (named_tree h.entries c, n) ∷ []) more (λ d k. inside d (later k)) (all_later given (named_tree h.entries c) n ns all) t a.1)
      (is_among c.own.entry seen) refl x
    where
      by : ((more : List EntryId) → AreSeen h.entries (length h.entries) (given ++ (named_tree h.entries c, n) ∷ []) more → Modules cs ns (given ++ (named_tree h.entries c, n) ∷ []) more)
          → (b : Bool) → is_among c.own.entry seen ≡ b
          → AreTexts h.entries top rows (cond b (first_rows seen (zip (map (λ (d : CallView). d.own.entry) cs) ns))
          ((c.own.entry, n) ∷ first_rows (c.own.entry ∷ seen) (zip (map (λ (d : CallView). d.own.entry) cs) ns))) texts
          → AreModules top_tree calls names (length (names_given given)) (named_tree h.entries c ∷ map (named_tree h.entries) cs) texts
      by rest true e x =
          passed c cs n ns given seen all (name_stands h legal given seen s c (inside c first) n a.0 e)
          (rest seen (seen_again h.entries (length h.entries) given seen (named_tree h.entries c) c.own.entry n (inside c first) refl s e)) texts x
      by rest false e x =
          printed c cs n ns given seen all (inside c first) (name_new h legal given seen s c (inside c first) n a.0 e)
          (rest (c.own.entry ∷ seen) (seen_new h.entries (length h.entries) given seen (named_tree h.entries c) c.own.entry n (inside c first) refl s)) texts x

pub text_of_trees : (h : History) (hier : Hier) (rows : List NameRow) (text : List ℕ) → (hier_view hier).own.entry.0 < length h.entries → IsLegal h
    → IsElaboration h.entries hier → AreNameRows h.entries hier rows → IsHierarchyText h.entries (hier_view hier).own.entry rows text
    → IsVerilog (unfolding_of h.entries (hier_view hier).own.entry) (named_trees h.entries hier) text
text_of_trees h hier rows text within legal over are x = record {
  names = are.names;
  right = are.right;
  texts = x.texts;
  modules = modules_on h legal hier are.names rows are.first (hier_view hier).own.entry within (walk hier) are.names [] [] inside refl none are.right x.texts
      (subst (λ (l : List NameRow). AreTexts h.entries (hier_view hier).own.entry rows l x.texts) are.first x.modules);
  text_is = x.text_is;
}
  where
    inside : (c : CallView) → Has (walk hier) c → c.own.entry.0 < length h.entries
    inside c has = let o = over.calls c has in slice_get_within h.entries c.own.entry.0 o.form o.found

    none : AreSeen h.entries (length h.entries) [] []
    none = record { entry = λ g k. elim k [ ]; call = λ id e. absurd cc }
