-- Calls that are alike have one text.
use Rattle.std.proofs.Common.{◌≡◌, ℕ, zero, suc, ◌⊎◌, inl, inr, List, [], ◌∷◌, ◌++◌, map, refl, sym, ap, subst, subst₂, ◌∙◌}
use Rattle.std.proofs.lemmas.List.{map-append}
use Rattle.std.specs.Prelude.{slice_get, Some}
use Rattle.hc_signal.specs.Member.{Has, first, later}
use Rattle.hc_signal.specs.Tree.{Tree, kid}
use Rattle.hc_canon.specs.Same.{Same}
use Rattle.hc_canon.proofs.Isomorphisms.{same-sym, same-trans}
use Rattle.hc_names.specs.Mangling.{IsMangled}
use Rattle.hc_names.specs.Naming.{Given, NamedTree, IsNameAfter, AreNamesAfter}
use Rattle.hc_names.proofs.Members.{has_left, has_right, has_cases}
use Rattle.hc_modules.specs.VerilogText.{IsNameOf, IsCallText, AreModules, IsVerilog, AreAlike}
use Rattle.hc_modules.proofs.SamePaths.{ArePaired, same_paired, comes_from, reaches_along, tree_text_along}

abbrev pub Named : Type 0
Named = NamedTree × List ℕ

abbrev pub names_given : Given → List (List ℕ)
names_given given = map (λ (g : Named). g.1) given

pub given_more : (given : Given) (call : NamedTree) (name : List ℕ) → names_given (given ++ (call, name) ∷ []) ≡ names_given given ++ name ∷ []
given_more given call name = map-append (λ (g : Named). g.1) given ((call, name) ∷ [])

only_one : {X : Type 0} {x y : X} → Has (x ∷ []) y → y ≡ x
only_one first = refl
only_one (later h) = elim h [ ]

pub one_more : {X : Type 0} (xs : List X) (x y : X) → Has (xs ++ x ∷ []) y → Has xs y ⊎ (y ≡ x)
one_more xs x y h = elim (has_cases xs (x ∷ []) h) [
  | inl old ↦ inl old
  | inr new ↦ inr (only_one new)
]

-- each of these has one with the same tree and its name among those
abbrev IsMatched : Given → Given → Type 0
IsMatched g h = (e : Named) → Has g e → (f : Named) × Has h f × Same e.0.tree f.0.tree × (f.1 ≡ e.1)

matched_more : (g h : Given) (c d : NamedTree) (name : List ℕ) → Same c.tree d.tree → IsMatched g h → IsMatched (g ++ (c, name) ∷ []) (h ++ (d, name) ∷ [])
matched_more g h c d name s m e has = elim (one_more g (c, name) e has) [
  | inl old ↦ let f = m e old in (f.0, has_left ((d, name) ∷ []) f.1, f.2, f.3)
  | inr new ↦ ((d, name), has_right h first, subst (λ (x : Named). Same x.0.tree d.tree) (sym new) s, ap (λ (x : Named). x.1) (sym new))
]

name_along : (g h : Given) (c d : NamedTree) (name : List ℕ) → c.name ≡ d.name → Same c.tree d.tree → IsMatched g h → IsMatched h g → names_given g ≡ names_given h
    → IsNameAfter g c name → IsNameAfter h d name
name_along g h c d name n s to back used (inl (e, has, same, is)) =
    let f = to e has in
    inl (f.0, f.1, same-trans f.0.0.tree e.0.tree d.tree (same-sym e.0.tree f.0.0.tree f.2) (same-trans e.0.tree c.tree d.tree same s), is ∙ sym f.3)
name_along g h c d name n s to back used (inr (none, mangled)) =
    inr (others, subst₂ (λ (wanted : List ℕ) (taken : List (List ℕ)). IsMangled wanted taken name) n used mangled)
  where
    others : (e : Named) → Has h e → ¬ Same e.0.tree d.tree
    others e has same =
        let f = back e has in
        none f.0 f.1 (same-trans f.0.0.tree e.0.tree c.tree (same-sym e.0.tree f.0.0.tree f.2) (same-trans e.0.tree d.tree c.tree same (same-sym c.tree d.tree s)))

names_along : (cs ds : List NamedTree) (names : List (List ℕ)) (g h : Given) → AreAlike cs ds → IsMatched g h → IsMatched h g → names_given g ≡ names_given h
    → AreNamesAfter g cs names → AreNamesAfter h ds names
names_along [] [] names g h a to back used x = x
names_along [] (d ∷ ds) names g h a to back used x = absurd a
names_along (c ∷ cs) [] names g h a to back used x = absurd a
names_along (c ∷ cs) (d ∷ ds) [] g h a to back used x = absurd x
names_along (c ∷ cs) (d ∷ ds) (n ∷ names) g h a to back used x = (
  name_along g h c d n a.0 a.1 to back used x.0,
  names_along cs ds names (g ++ (c, n) ∷ []) (h ++ (d, n) ∷ []) a.2 (matched_more g h c d n a.1 to) (matched_more h g d c n (same-sym c.tree d.tree a.1) back)
      (given_more g c n ∙ ap (λ (l : List (List ℕ)). l ++ n ∷ []) used ∙ sym (given_more h d n)) x.1,
)

alike_at : (cs ds : List NamedTree) → AreAlike cs ds → (j : ℕ) (c : NamedTree) → slice_get cs j ≡ Some c → (d : NamedTree) × (slice_get ds j ≡ Some d) × Same c.tree d.tree
alike_at [] [] a j c e = absurd cc
alike_at [] (d ∷ ds) a j c e = absurd a
alike_at (c ∷ cs) [] a j b e = absurd a
alike_at (c ∷ cs) (d ∷ ds) a zero b e = let is : c ≡ b = cc in (d, refl, subst (λ (x : NamedTree). Same x.tree d.tree) is a.1)
alike_at (c ∷ cs) (d ∷ ds) a (suc j) b e = alike_at cs ds a.2 j b e

module _ (top other : Tree) (calls others : List NamedTree) (names : List (List ℕ)) (e : Same top other) (alike : AreAlike calls others) where
  name_of_along : (t u : Tree) (name : List ℕ) → Same t u → IsNameOf top calls names t name → IsNameOf other others names u name
  name_of_along t u name s (j, c, at, same, is) =
      let d = alike_at calls others alike j c at in
      (j, d.0, d.1, same-trans d.0.tree c.tree u (same-sym c.tree d.0.tree d.2) (same-trans c.tree t u same s), is)

  call_text_along : (c d : NamedTree) (p : ArePaired c.tree d.tree) (name text : List ℕ) → IsCallText top calls names c name text → IsCallText other others names d name text
  call_text_along c d p name text x = record {
    modules = λ i. x.modules (p.1.inst i);
    named = λ i r. (let from = comes_from c.tree d.tree p i r in name_of_along (kid c.tree (p.1.inst i)) (kid d.tree i) (x.modules (p.1.inst i)) from.1 (x.named (p.1.inst i) from.0));
    text_is = tree_text_along c.tree d.tree p x.modules name text x.text_is;
  }

  modules_along : (k : ℕ) (cs ds : List NamedTree) (texts : List (List ℕ)) → AreAlike cs ds → AreModules top calls names k cs texts → AreModules other others names k ds texts
  modules_along k [] [] texts a x = x
  modules_along k [] (d ∷ ds) texts a x = absurd a
  modules_along k (c ∷ cs) [] texts a x = absurd a
  modules_along k (c ∷ cs) (d ∷ ds) texts a (inl (name, text, more, printed, is, all, rest)) =
      inl (
        name,
        text,
        more,
        (printed.0, reaches_along top other c.tree d.tree e a.1 printed.1),
        call_text_along c d
            (same_paired c.tree d.tree a.1) name text is,
        all,
        modules_along (suc k) cs ds more a.2 rest,
      )
  modules_along k (c ∷ cs) (d ∷ ds) texts a (inr (none, rest)) =
      inr (λ name p. none name (p.0, reaches_along other top d.tree c.tree (same-sym top other e) (same-sym c.tree d.tree a.1) p.1), modules_along (suc k) cs ds texts a.2 rest)

pub alike_text : (top other : Tree) (calls others : List NamedTree) (text : List ℕ) → Same top other → AreAlike calls others → IsVerilog top calls text → IsVerilog other others text
alike_text top other calls others text e a x = record {
  names = x.names;
  right = names_along calls others x.names [] [] a (λ f h. elim h [ ]) (λ f h. elim h [ ]) refl x.right;
  texts = x.texts;
  modules = modules_along top other calls others x.names e a 0 calls others x.texts a x.modules;
  text_is = x.text_is;
}
