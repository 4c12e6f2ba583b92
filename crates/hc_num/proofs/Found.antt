-- The binding of a name in a table is the last one.
use Rattle.std.proofs.Common.{◌≡◌, ℕ, Bool, true, false, cond, ◌⊎◌, inl, inr, List, [], ◌∷◌, ◌++◌, reverse, refl, sym, ap, subst, ◌∙◌}
use Rattle.std.specs.Prelude.{Option, Some, None, ℤ, option_map, find}
use Rattle.std.specs.Option.{option_or}
use Rattle.std.specs.List.{IsDistinct, AllByRecursion}
use Rattle.std.specs.Map.{keys_of, lookup}
use Rattle.std.specs.Str.{bytes_eq}
use Rattle.std.proofs.lemmas.Slice.Eq.{bytes_eq-Decides}
use Rattle.std.proofs.lemmas.List.{reverse-append}
use Rattle.std.proofs.lemmas.List.Folds.{find-append}
use Rattle.std.proofs.lemmas.Map.Keys.{IsDistinct-head, IsDistinct-tail}
use Rattle.indexmap.specs.IndexMap.{insert_entry}
use Rattle.hc_num.specs.Value.{Bindings, look_up}

abbrev Binding : Type 0
Binding = List ℕ × ℤ

-- two names are equal or not, whichever stands first
tested : (a b : List ℕ) → ((bytes_eq a b ≡ true) × (bytes_eq b a ≡ true) × (a ≡ b)) ⊎ ((bytes_eq a b ≡ false) × (bytes_eq b a ≡ false))
tested a b = by (bytes_eq a b) (bytes_eq b a) refl refl
  where
    by : (t u : Bool) → bytes_eq a b ≡ t → bytes_eq b a ≡ u → ((bytes_eq a b ≡ true) × (bytes_eq b a ≡ true) × (a ≡ b)) ⊎ ((bytes_eq a b ≡ false) × (bytes_eq b a ≡ false))
    by true true e f = inl (e, f, (bytes_eq-Decides a b).0 e)
    by true false e f = let same : a ≡ b = (bytes_eq-Decides a b).0 e in let yes : bytes_eq b a ≡ true = (bytes_eq-Decides b a).1 (sym same) in let no : true ≡ false = sym yes ∙ f in absurd cc
    by false true e f = let same : b ≡ a = (bytes_eq-Decides b a).0 f in let yes : bytes_eq a b ≡ true = (bytes_eq-Decides a b).1 (sym same) in let no : true ≡ false = sym yes ∙ e in absurd cc
    by false false e f = inr (e, f)

-- bindings before others
pub look_up_both : (name : List ℕ) (xs ys : Bindings) → look_up name (xs ++ ys) ≡ option_or (look_up name xs) (look_up name ys)
look_up_both name xs ys = ap (option_map (λ (b : Binding). b.1)) (find-append (λ (b : Binding). bytes_eq b.0 name) xs ys) ∙ of_either (find (λ (b : Binding). bytes_eq b.0 name) xs)
    (find (λ (b : Binding). bytes_eq b.0 name) ys)
  where
    of_either : (p q : Option Binding) → option_map (λ (b : Binding). b.1) (option_or p q) ≡ option_or (option_map (λ (b : Binding). b.1) p) (option_map (λ (b : Binding). b.1) q)
    of_either None q = refl
    of_either (Some b) q = refl

-- a key that differs from all others is not found among them
apart : (name : List ℕ) (es : Bindings) → AllByRecursion (λ y. bytes_eq name y ≡ false) (keys_of es) → lookup (bytes_eq name) es ≡ None
apart name [] all = refl
apart name (e ∷ es) all = rw all.0 (apart name es all.1)

-- either, where the first is given
or_none : (o : Option ℤ) → option_or o None ≡ o
or_none None = refl
or_none (Some z) = refl

last_one : (name : List ℕ) (e : Binding) (o : Option ℤ) → bytes_eq e.0 name ≡ true → o ≡ None → Some e.1 ≡ option_or o (look_up name (e ∷ []))
last_one name e o same none = rw (none, same) refl

other_one : (name : List ℕ) (e : Binding) (o : Option ℤ) → bytes_eq e.0 name ≡ false → o ≡ option_or o (look_up name (e ∷ []))
other_one name e o other = rw other (sym (or_none o))

pub found_last : (name : List ℕ) (es : Bindings) → IsDistinct bytes_eq (keys_of es) → lookup (bytes_eq name) es ≡ look_up name (reverse es)
found_last name [] distinct = refl
found_last name (e ∷ es) distinct =
    by (tested name e.0) (found_last name es (IsDistinct-tail bytes_eq e.0 (keys_of es) distinct)) ∙ sym (ap (look_up name) (reverse-append (e ∷ []) es) ∙ look_up_both name (reverse es) (e ∷ []))
  where
    head : AllByRecursion (λ y. bytes_eq e.0 y ≡ false) (keys_of es)
    head = IsDistinct-head bytes_eq e.0 (keys_of es) distinct

    by : ((bytes_eq name e.0 ≡ true) × (bytes_eq e.0 name ≡ true) × (name ≡ e.0)) ⊎ ((bytes_eq name e.0 ≡ false) × (bytes_eq e.0 name ≡ false)) → lookup (bytes_eq name) es ≡ look_up name (reverse es)
        → cond (bytes_eq name e.0) (Some e.1) (lookup (bytes_eq name) es) ≡ option_or (look_up name (reverse es)) (look_up name (e ∷ []))
    by (inl t) rest =
        let none : lookup (bytes_eq name) es ≡ None = apart name es (subst (λ (n : List ℕ). AllByRecursion (λ y. bytes_eq n y ≡ false) (keys_of es)) (sym t.2) head) in
        rw t.0 (last_one name e (look_up name (reverse es)) t.1 (sym rest ∙ none))
    by (inr t) rest = rw t.0 (rest ∙ other_one name e (look_up name (reverse es)) t.1)

-- a new name goes to the end
pub added : (es : Bindings) (name : List ℕ) (value : ℤ) → lookup (bytes_eq name) es ≡ None → insert_entry bytes_eq es name value ≡ es ++ (name, value) ∷ []
added [] name value none = refl
added (e ∷ es) name value none = by (bytes_eq name e.0) refl (added es name value)
  where
    by : (t : Bool) → bytes_eq name e.0 ≡ t → (lookup (bytes_eq name) es ≡ None → insert_entry bytes_eq es name value ≡ es ++ (name, value) ∷ [])
        → insert_entry bytes_eq (e ∷ es) name value ≡ e ∷ (es ++ (name, value) ∷ [])
    by true t rest = let is : Some e.1 ≡ None = rw t at none in absurd (cc)
    by false t rest = rw t (ap (λ l. e ∷ l) (rest (rw t at none)))
