-- The names of calls are single, and so is the text of the modules.
use Rattle.std.proofs.Common.{◌≡◌, ℕ, zero, suc, inl, inr, List, [], ◌∷◌, ◌++◌, append_assoc, append-nil, sym, ap, ap₂, subst, ◌∙◌}
use Rattle.std.specs.Prelude.{slice_get, Some}
use Rattle.std.specs.List.{zip, join_with_byte}
use Rattle.hc_signal.specs.Member.{Has, first, later}
use Rattle.hc_signal.specs.Tree.{Tree, kid}
use Rattle.hc_canon.specs.Same.{Same}
use Rattle.hc_canon.proofs.Isomorphisms.{same-sym, same-trans}
use Rattle.hc_names.specs.Naming.{Given, NamedTree, IsNameAfter, AreNamesAfter}
use Rattle.hc_names.proofs.Mangled.{mangled_single}
use Rattle.hc_verilog.proofs.Single.{tree_text_single}
use Rattle.hc_modules.specs.VerilogText.{IsNameOf, IsCallText, AreModules, IsVerilog}
use Rattle.hc_modules.proofs.Alike.{Named, one_more}

-- trees that are the same have one name
abbrev HaveOneName : Given → Type 0
HaveOneName g = (e f : Named) → Has g e → Has g f → Same e.0.tree f.0.tree → e.1 ≡ f.1

-- the name of an earlier call with the same tree
earlier_name : (g : Given) (c : NamedTree) (n : List ℕ) → HaveOneName g → IsNameAfter g c n → (e : Named) → Has g e → Same e.0.tree c.tree → e.1 ≡ n
earlier_name g c n one (inl (f, has, same, is)) e h s = one e f h has (same-trans e.0.tree c.tree f.0.tree s (same-sym f.0.tree c.tree same)) ∙ sym is
earlier_name g c n one (inr (none, mangled)) e h s = absurd (none e h s)

name_single : (g : Given) (c : NamedTree) (n m : List ℕ) → HaveOneName g → IsNameAfter g c n → IsNameAfter g c m → n ≡ m
name_single g c n m one (inl (e, has, same, is)) y = is ∙ earlier_name g c m one y e has same
name_single g c n m one (inr x) (inl (e, has, same, is)) = sym (earlier_name g c n one (inr x) e has same) ∙ sym is
name_single g c n m one (inr x) (inr y) = mangled_single c.name _ n m x.1 y.1

one_name_more : (g : Given) (c : NamedTree) (n : List ℕ) → HaveOneName g → IsNameAfter g c n → HaveOneName (g ++ (c, n) ∷ [])
one_name_more g c n one is e f he hf s = elim (one_more g (c, n) e he) [
  | inl old ↦ elim (one_more g (c, n) f hf) [
    | inl past ↦ one e f old past s
    | inr new ↦ earlier_name g c n one is e old (subst (λ (x : Named). Same e.0.tree x.0.tree) new s) ∙ sym (ap (λ (x : Named). x.1) new)
  ]
  | inr new ↦ elim (one_more g (c, n) f hf) [
    | inl past ↦ ap (λ (x : Named). x.1) new ∙ sym (earlier_name g c n one is f past (same-sym c.tree f.0.tree (subst (λ (x : Named). Same x.0.tree f.0.tree) new s)))
    | inr also ↦ ap (λ (x : Named). x.1) (new ∙ sym also)
  ]
]

names_single : (cs : List NamedTree) (g : Given) (a b : List (List ℕ)) → HaveOneName g → AreNamesAfter g cs a → AreNamesAfter g cs b → a ≡ b
names_single [] g a b one x y = x ∙ sym y
names_single (c ∷ cs) g [] b one x y = absurd x
names_single (c ∷ cs) g (n ∷ a) [] one x y = absurd y
names_single (c ∷ cs) g (n ∷ a) (m ∷ b) one x y =
    let same : n ≡ m = name_single g c n m one x.0 y.0 in
    ap₂ (λ l ls. l ∷ ls) same
    (names_single cs (g ++ (c, n) ∷ []) a b (one_name_more g c n one x.0) x.1 (subst (λ (l : List ℕ). AreNamesAfter (g ++ (c, l) ∷ []) cs b) (sym same) y.1))

one_name_all : (cs : List NamedTree) (g : Given) (a : List (List ℕ)) → HaveOneName g → AreNamesAfter g cs a → HaveOneName (g ++ zip cs a)
one_name_all [] g a one x = subst HaveOneName (sym (append-nil g)) one
one_name_all (c ∷ cs) g [] one x = absurd x
one_name_all (c ∷ cs) g (n ∷ a) one x =
    subst HaveOneName (append_assoc g ((c, n) ∷ []) (zip cs a)) (one_name_all cs (g ++ (c, n) ∷ []) a (one_name_more g c n one x.0) x.1)

zip_has : (cs : List NamedTree) (a : List (List ℕ)) (j : ℕ) (c : NamedTree) (n : List ℕ) → slice_get cs j ≡ Some c → slice_get a j ≡ Some n → Has (zip cs a) (c, n)
zip_has [] a j c n p q = absurd cc
zip_has (d ∷ cs) [] j c n p q = absurd cc
zip_has (d ∷ cs) (m ∷ a) zero c n p q =
    let is : d ≡ c = cc in
    let same : m ≡ n = cc in
    subst (λ (x : Named). Has ((d, m) ∷ zip cs a) x) (ap₂ {C = Named} (λ x y. (x, y)) is same) first
zip_has (d ∷ cs) (m ∷ a) (suc j) c n p q = later (zip_has cs a j c n p q)

module _ (top : Tree) (calls : List NamedTree) (names : List (List ℕ)) (one : HaveOneName (zip calls names)) where
  name_of_single : (t : Tree) (n m : List ℕ) → IsNameOf top calls names t n → IsNameOf top calls names t m → n ≡ m
  name_of_single t n m (j, c, at, same, is) (k, d, there, also, has) =
      one (c, n) (d, m) (zip_has calls names j c n at is) (zip_has calls names k d m there has) (same-trans c.tree t d.tree same (same-sym d.tree t also))

  call_text_single : (c : NamedTree) (n a b : List ℕ) → IsCallText top calls names c n a → IsCallText top calls names c n b → a ≡ b
  call_text_single c n a b x y = tree_text_single c.tree x.modules y.modules n a b (λ i r. name_of_single (kid c.tree i) (x.modules i) (y.modules i) (x.named i r) (y.named i r)) x.text_is y.text_is

  modules_single : (k : ℕ) (cs : List NamedTree) (a b : List (List ℕ)) → AreModules top calls names k cs a → AreModules top calls names k cs b → a ≡ b
  modules_single k [] a b x y = x ∙ sym y
  modules_single k (c ∷ cs) a b (inl (n, text, more, printed, is, all, rest)) (inl (m, also, less, shown, has, each, left)) =
      let p : slice_get names k ≡ Some n = printed.0.0 in
      let q : slice_get names k ≡ Some m = shown.0.0 in
      let same : m ≡ n = cc in
      let one_text : text ≡ also = call_text_single c n text also is (subst (λ (l : List ℕ). IsCallText top calls names c l also) same has) in
      all ∙ ap₂ (λ l ls. l ∷ ls) one_text (modules_single (suc k) cs more less rest left) ∙ sym each
  modules_single k (c ∷ cs) a b (inl (n, text, more, printed, is, all, rest)) (inr (none, left)) = absurd (none n printed)
  modules_single k (c ∷ cs) a b (inr (none, rest)) (inl (m, also, less, shown, has, each, left)) = absurd (none m shown)
  modules_single k (c ∷ cs) a b (inr (none, rest)) (inr (nor, left)) = modules_single (suc k) cs a b rest left

pub text_single : (top : Tree) (calls : List NamedTree) (a b : List ℕ) → IsVerilog top calls a → IsVerilog top calls b → a ≡ b
text_single top calls a b x y =
    let none : HaveOneName [] = λ (e f : Named) (h : Has [] e) (k : Has [] f) (s : Same e.0.tree f.0.tree). elim h [ ] in
    let names : x.names ≡ y.names = names_single calls [] x.names y.names none x.right y.right in
    let one : HaveOneName (zip calls x.names) = one_name_all calls [] x.names none x.right in
    let moved : AreModules top calls x.names 0 calls y.texts = subst (λ (l : List (List ℕ)). AreModules top calls l 0 calls y.texts) (sym names) y.modules in
    x.text_is ∙ ap (join_with_byte 10) (modules_single top calls x.names one 0 calls x.texts y.texts x.modules moved) ∙ sym y.text_is
