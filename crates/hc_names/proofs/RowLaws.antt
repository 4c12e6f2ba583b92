-- The rows that are given call by call are the names of the calls.
use Rattle.std.proofs.Common.{◌≡◌, ℕ, ◌<◌, Bool, true, false, cond, ◌||◌, nat_eq, ◌⊎◌, inl, inr, List, [], ◌∷◌, ◌++◌, map, append_assoc, append-nil, refl, sym, ap, subst, ◌∙◌}
use Rattle.std.proofs.lemmas.List.{map-append}
use Rattle.std.proofs.lemmas.Bool.Decides.{Decides-eqb}
use Rattle.std.specs.Prelude.{Option, Some, None, is_some, ◌↔◌}
use Rattle.std.specs.List.{zip}
use Rattle.hc_signal.specs.Member.{Has, first, later}
use Rattle.hc_signal.specs.Tree.{Tree}
use Rattle.hc_canon.specs.declared.form.EntryId.{EntryId}
use Rattle.hc_canon.specs.FormView.{FormView}
use Rattle.hc_canon.specs.Same.{Same}
use Rattle.hc_dbstate.specs.Elaboration.{CallView}
use Rattle.hc_dbstate.specs.Unfolding.{unfolding_of}
use Rattle.hc_names.specs.Mangling.{numbered, IsMangled}
use Rattle.hc_names.specs.NameRows.{name_of_entry}
use Rattle.hc_names.specs.Naming.{Given, NamedTree, NameRow, IsNameAfter, AreNamesAfter, named_tree, is_among, first_rows}
use Rattle.hc_names.specs.Steps.{NamesTo, names_in, requests}
use Rattle.hc_names.proofs.Members.{has_left, has_right, has_cases}

-- ---- a row more

-- the name of an entry in these rows, or else in one more
abbrev pub or_else : Option (List ℕ) → Option (List ℕ) → Option (List ℕ)
or_else None b = b
or_else (Some n) b = Some n

abbrev pub in_row : NameRow → EntryId → Option (List ℕ)
in_row r id = cond (nat_eq id.0 r.0.0) (Some r.1) None

or_else_cond : (b : Bool) (n : List ℕ) (x y : Option (List ℕ)) → cond b (Some n) (or_else x y) ≡ or_else (cond b (Some n) x) y
or_else_cond true n x y = refl
or_else_cond false n x y = refl

pub name_after : (rows : List NameRow) (r : NameRow) (id : EntryId) → name_of_entry (rows ++ r ∷ []) id ≡ or_else (name_of_entry rows id) (in_row r id)
name_after [] r id = refl
name_after (x ∷ rows) r id = ap (cond (nat_eq id.0 x.0.0) (Some x.1)) (name_after rows r id) ∙ or_else_cond (nat_eq id.0 x.0.0) x.1 (name_of_entry rows id) (in_row r id)

-- the name of an entry is in the rows
name_has : (rows : List NameRow) (id : EntryId) (name : List ℕ) → name_of_entry rows id ≡ Some name → Has (names_in rows) name
name_has [] id name e = absurd cc
name_has (x ∷ rows) id name e = by (λ rest. name_has rows id name rest) (nat_eq id.0 x.0.0) refl
  where
    by : (name_of_entry rows id ≡ Some name → Has (names_in rows) name) → (b : Bool) → nat_eq id.0 x.0.0 ≡ b → Has (names_in (x ∷ rows)) name
    by more true is = let value : Some x.1 ≡ Some name = rw is at e in let same : x.1 ≡ name = cc in subst (Has (names_in (x ∷ rows))) same first
    by more false is = let rest : name_of_entry rows id ≡ Some name = rw is at e in later (more rest)

-- ---- names over lists with the same members

mangled_by : (name : List ℕ) (xs ys : List (List ℕ)) (result : List ℕ) → ((n : List ℕ) → Has xs n → Has ys n) → ((n : List ℕ) → Has ys n → Has xs n)
    → IsMangled name xs result → IsMangled name ys result
mangled_by name xs ys result to back (inl (free, is)) = inl ((λ h. free (back name h)), is)
mangled_by name xs ys result to back (inr (taken, (k, is, free, lower))) = inr (to name taken, (k, is, (λ h. free (back result h)), λ j lt. to (numbered name j) (lower j lt)))

-- ---- calls

abbrev pub names_given : Given → List (List ℕ)
names_given given = map (λ (g : NamedTree × List ℕ). g.1) given

-- the calls named so far, the rows so far and the entries seen so far belong together
pub record Fits (entries : List FormView) (bound : ℕ) (given : Given) (rows : List NameRow) (ids : List EntryId) : Type 0 where
  pub entry : (g : NamedTree × List ℕ) → Has given g → (id : EntryId) × (id.0 < bound) × (g.0.tree ≡ unfolding_of entries id) × (name_of_entry rows id ≡ Some g.1)
  pub call : (id : EntryId) (name : List ℕ) → name_of_entry rows id ≡ Some name → (g : NamedTree × List ℕ) × Has given g × (g.0.tree ≡ unfolding_of entries id) × (g.1 ≡ name)
  pub into : (n : List ℕ) → Has (names_given given) n → Has (names_in rows) n
  pub back : (n : List ℕ) → Has (names_in rows) n → Has (names_given given) n
  pub seen : (id : EntryId) → is_among id ids ≡ is_some (name_of_entry rows id)

eq_is : (a b : ℕ) → nat_eq a b ≡ true → a ≡ b
eq_is a b e = (Decides-eqb a b).0 e

pub eq_self : (a : ℕ) → nat_eq a a ≡ true
eq_self a = (Decides-eqb a a).1 refl

id_is : (i j : EntryId) → nat_eq i.0 j.0 ≡ true → i ≡ j
id_is i j e = ap (λ (k : ℕ). let id : EntryId = record { 0 = k } in id) (eq_is i.0 j.0 e)

given_more : (given : Given) (call : NamedTree) (name : List ℕ) → names_given (given ++ (call, name) ∷ []) ≡ names_given given ++ name ∷ []
given_more given call name = map-append (λ (g : NamedTree × List ℕ). g.1) given ((call, name) ∷ [])

rows_more : (rows : List NameRow) (id : EntryId) (name : List ℕ) → names_in (rows ++ (id, name) ∷ []) ≡ names_in rows ++ name ∷ []
rows_more rows id name = map-append (λ (r : NameRow). r.1) rows ((id, name) ∷ [])

only_one : {X : Type 0} {x y : X} → Has (x ∷ []) y → y ≡ x
only_one first = refl
only_one (later h) = elim h [ ]

one_more : {X : Type 0} (xs : List X) (x y : X) → Has (xs ++ x ∷ []) y → Has xs y ⊎ (y ≡ x)
one_more xs x y h = elim (has_cases xs (x ∷ []) h) [
  | inl old ↦ inl old
  | inr new ↦ inr (only_one new)
]

module _ (entries : List FormView) (bound : ℕ) where
  -- a call of an entry that has a row
  fits_again : (given : Given) (rows : List NameRow) (seen : List EntryId) (call : NamedTree) (id : EntryId) (name : List ℕ) → id.0 < bound
      → call.tree ≡ unfolding_of entries id → name_of_entry rows id ≡ Some name → Fits entries bound given rows seen
      → Fits entries bound (given ++ (call, name) ∷ []) rows seen
  fits_again given rows seen call id name lt is has f = record {
    entry = λ g h. elim (one_more given (call, name) g h) [
      | inl old ↦ f.entry g old
      | inr new ↦ (id, lt, ap (λ (x : NamedTree × List ℕ). x.0.tree) new ∙ is, has ∙ ap (λ (x : NamedTree × List ℕ). Some x.1) (sym new))
    ];
    call = λ j n e. let old = f.call j n e in (old.0, has_left ((call, name) ∷ []) old.1, old.2, old.3);
    into = λ n h. elim (one_more (names_given given) name n (subst (λ (l : List (List ℕ)). Has l n) (given_more given call name) h)) [
      | inl old ↦ f.into n old
      | inr new ↦ subst (Has (names_in rows)) (sym new) (name_has rows id name has)
    ];
    back = λ n h. subst (λ (l : List (List ℕ)). Has l n) (sym (given_more given call name)) (has_left (name ∷ []) (f.back n h));
    seen = f.seen;
  }

  some_else : (o : Option (List ℕ)) (id j : EntryId) (name n : List ℕ) → or_else o (in_row (id, name) j) ≡ Some n → (o ≡ Some n) ⊎ ((j ≡ id) × (n ≡ name))
  some_else (Some m) id j name n e = inl e
  some_else None id j name n e = by (nat_eq j.0 id.0) refl
    where
      by : (b : Bool) → nat_eq j.0 id.0 ≡ b → (None ≡ Some n) ⊎ ((j ≡ id) × (n ≡ name))
      by true is = let value : Some name ≡ Some n = rw is at e in let same : name ≡ n = cc in inr (id_is j id is, sym same)
      by false is = let value : None ≡ Some n = rw is at e in absurd cc

  seen_else : (o : Option (List ℕ)) (b : Bool) (name : List ℕ) → (b || is_some o) ≡ is_some (or_else o (cond b (Some name) None))
  seen_else (Some m) true name = refl
  seen_else (Some m) false name = refl
  seen_else None true name = refl
  seen_else None false name = refl

  -- a call of an entry that has none yet
  pub fits_new : (given : Given) (rows : List NameRow) (seen : List EntryId) (call : NamedTree) (id : EntryId) (name : List ℕ) → id.0 < bound
      → call.tree ≡ unfolding_of entries id → name_of_entry rows id ≡ None → Fits entries bound given rows seen
      → Fits entries bound (given ++ (call, name) ∷ []) (rows ++ (id, name) ∷ []) (id ∷ seen)
  fits_new given rows seen call id name lt is none f = record {
    entry = λ g h. elim (one_more given (call, name) g h) [
      | inl old ↦ let e = f.entry g old in (e.0, e.1, e.2, name_after rows (id, name) e.0 ∙ ap (λ (o : Option (List ℕ)). or_else o (in_row (id, name) e.0)) e.3)
      | inr new ↦ (id, lt, ap (λ (x : NamedTree × List ℕ). x.0.tree) new ∙ is, own ∙ ap (λ (x : NamedTree × List ℕ). Some x.1) (sym new))
    ];
    call = λ j n e. elim (some_else (name_of_entry rows j) id j name n (sym (name_after rows (id, name) j) ∙ e)) [
      | inl old ↦ let g = f.call j n old in (g.0, has_left ((call, name) ∷ []) g.1, g.2, g.3)
      | inr new ↦ ((call, name), has_right given first, is ∙ ap (unfolding_of entries) (sym new.0), sym new.1)
    ];
    into = λ n h. elim (one_more (names_given given) name n (subst (λ (l : List (List ℕ)). Has l n) (given_more given call name) h)) [
      | inl old ↦ subst (λ (l : List (List ℕ)). Has l n) (sym (rows_more rows id name)) (has_left (name ∷ []) (f.into n old))
      | inr new ↦ subst (λ (l : List (List ℕ)). Has l n) (sym (rows_more rows id name)) (has_right (names_in rows) (subst (λ (x : List ℕ). Has (name ∷ []) x) (sym new) first))
    ];
    back = λ n h. elim (one_more (names_in rows) name n (subst (λ (l : List (List ℕ)). Has l n) (rows_more rows id name) h)) [
      | inl old ↦ subst (λ (l : List (List ℕ)). Has l n) (sym (given_more given call name)) (has_left (name ∷ []) (f.back n old))
      | inr new ↦ subst (λ (l : List (List ℕ)). Has l n) (sym (given_more given call name)) (has_right (names_given given) (subst (λ (x : List ℕ). Has (name ∷ []) x) (sym new) first))
    ];
    seen = λ j. ap (λ (b : Bool). nat_eq j.0 id.0 || b) (f.seen j) ∙ seen_else (name_of_entry rows j) (nat_eq j.0 id.0) name ∙ ap is_some (sym (name_after rows (id, name) j));
  }
    where
      own : name_of_entry (rows ++ (id, name) ∷ []) id ≡ Some name
      own = name_after rows (id, name) id ∙ ap (λ (o : Option (List ℕ)). or_else o (in_row (id, name) id)) none ∙ ap (λ (b : Bool). cond b (Some name) None) (eq_self id.0)

  module _ (one : (i j : EntryId) → i.0 < bound → j.0 < bound → Same (unfolding_of entries i) (unfolding_of entries j) ↔ (i ≡ j)) where
    -- the name of a call whose entry has a row
    again : (given : Given) (rows : List NameRow) (seen : List EntryId) (c : CallView) (name : List ℕ) → c.own.entry.0 < bound
        → name_of_entry rows c.own.entry ≡ Some name → Fits entries bound given rows seen → IsNameAfter given (named_tree entries c) name
    again given rows seen c name lt has f =
        let g = f.call c.own.entry name has in
        inl (g.0, g.1, subst (λ (t : Tree). Same t (unfolding_of entries c.own.entry)) (sym g.2) ((one c.own.entry c.own.entry lt lt).1 refl), sym g.3)

    -- the name of a call whose entry has none
    new : (given : Given) (rows : List NameRow) (seen : List EntryId) (c : CallView) (name : List ℕ) → c.own.entry.0 < bound → name_of_entry rows c.own.entry ≡ None
        → IsMangled c.own.name (names_in rows) name → Fits entries bound given rows seen → IsNameAfter given (named_tree entries c) name
    new given rows seen c name lt none mangled f = inr (others, mangled_by c.own.name (names_in rows) (names_given given) name f.back f.into mangled)
      where
        others : (g : NamedTree × List ℕ) → Has given g → ¬ Same g.0.tree (unfolding_of entries c.own.entry)
        others g h same =
            let e = f.entry g h in
            let is : e.0 ≡ c.own.entry = (one e.0 c.own.entry e.1 lt).0 (subst (λ (t : Tree). Same t (unfolding_of entries c.own.entry)) e.2 same) in
            let named : name_of_entry rows c.own.entry ≡ Some g.1 = ap (name_of_entry rows) (sym is) ∙ e.3 in
            let both : None ≡ Some g.1 = sym none ∙ named in
            absurd cc

    abbrev pub Named : List CallView → Given → List NameRow → List EntryId → List NameRow → Type 0
    Named cs given rows seen end = (names : List (List ℕ)) × AreNamesAfter given (map (named_tree entries) cs) names
        × (end ≡ rows ++ first_rows seen (zip (map (λ (c : CallView). c.own.entry) cs) names))

    skipped : (rows rest : List NameRow) (seen : List EntryId) (id : EntryId) (name : List ℕ) → is_among id seen ≡ true → rows ++ first_rows seen rest ≡ rows ++ first_rows seen ((id, name) ∷ rest)
    skipped rows rest seen id name is = ap (λ (b : Bool). rows ++ cond b (first_rows seen rest) ((id, name) ∷ first_rows (id ∷ seen) rest)) (sym is)

    added : (rows rest : List NameRow) (seen : List EntryId) (id : EntryId) (name : List ℕ) → is_among id seen ≡ false
        → (rows ++ (id, name) ∷ []) ++ first_rows (id ∷ seen) rest ≡ rows ++ first_rows seen ((id, name) ∷ rest)
    added rows rest seen id name is = append_assoc rows ((id, name) ∷ []) (first_rows (id ∷ seen) rest)
        ∙ ap (λ (b : Bool). rows ++ cond b (first_rows seen rest) ((id, name) ∷ first_rows (id ∷ seen) rest)) (sym is)

    pub named_on : (cs : List CallView) (given : Given) (rows : List NameRow) (seen : List EntryId) (end : List NameRow)
        → ((c : CallView) → Has cs c → c.own.entry.0 < bound) → Fits entries bound given rows seen → NamesTo rows (requests cs) end → Named cs given rows seen end
    named_on [] given rows seen end inside f e = ([], refl, e ∙ sym (append-nil rows))
    named_on (c ∷ cs) given rows seen end inside f (inl (name, has, rest)) =
        let lt = inside c first in
        let r = named_on cs (given ++ (named_tree entries c, name) ∷ []) rows seen end (λ d h. inside d (later h))
        (fits_again given rows seen (named_tree entries c) c.own.entry name lt refl has f) rest in
        (name ∷ r.0, (again given rows seen c name lt has f, r.1), r.2 ∙ skipped rows _ seen c.own.entry name (f.seen c.own.entry ∙ ap is_some has))
    named_on (c ∷ cs) given rows seen end inside f (inr (name, none, mangled, rest)) =
        let lt = inside c first in
        let r = named_on cs (given ++ (named_tree entries c, name) ∷ []) (rows ++ (c.own.entry, name) ∷ []) (c.own.entry ∷ seen) end (λ d h. inside d (later h))
        (fits_new given rows seen (named_tree entries c) c.own.entry name lt refl none f) rest in
        (name ∷ r.0, (new given rows seen c name lt none mangled f, r.1), r.2 ∙ added rows _ seen c.own.entry name (f.seen c.own.entry ∙ ap is_some none))

pub fits_none : (entries : List FormView) (bound : ℕ) → Fits entries bound [] [] []
fits_none entries bound = record {
  entry = λ g h. elim h [ ];
  call = λ id name e. absurd cc;
  into = λ n h. elim h [ ];
  back = λ n h. elim h [ ];
  seen = λ id. refl;
}
