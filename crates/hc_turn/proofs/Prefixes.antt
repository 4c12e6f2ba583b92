-- Prefixes of one list.
use Rattle.std.proofs.Common.{◌≡◌, ◌<◌, ◌≤◌, true, false, List, [], ◌∷◌, ◌++◌, length, refl, sym, ap, ◌∙◌, append-nil, append_assoc, arith}
use Rattle.std.proofs.lemmas.Bool.Decides.{nat_tests}
use Rattle.std.specs.Prelude.{nat_lt, if◌then◌else◌}
use Rattle.std.proofs.lemmas.List.Elements.{All-weaker}
use mathlib.Core.List.{IsPrefix}
use Rattle.hc_turn.specs.Views.{ArePrefixesOf, longer}

module _ {I : Type 0} where
  pub prefix_nil : (log : List I) → IsPrefix [] log
  prefix_nil log = (log, refl)

  pub prefix_same : (xs log : List I) → xs ≡ log → IsPrefix xs log
  prefix_same xs log same = ([], append-nil xs ∙ same)

  pub prefix_trans : (xs ys zs : List I) → IsPrefix xs ys → IsPrefix ys zs → IsPrefix xs zs
  prefix_trans xs ys zs p q = (p.0 ++ q.0, sym (append_assoc xs p.0 q.0) ∙ (ap (λ w. w ++ q.0) p.1 ∙ q.1))

  pub prefixes_trans : (ys zs : List I) (lists : List (List I)) → ArePrefixesOf ys lists → IsPrefix ys zs → ArePrefixesOf zs lists
  prefixes_trans ys zs lists all q = All-weaker (λ xs. IsPrefix xs ys) (λ xs. IsPrefix xs zs) (λ xs p. prefix_trans xs ys zs p q) lists all

  -- of two prefixes of one list the shorter is a prefix of the longer
  pub prefix_shorter : (xs ys log : List I) → IsPrefix xs log → IsPrefix ys log → length xs ≤ length ys → IsPrefix xs ys
  prefix_shorter [] ys log p q le = (ys, refl)
  prefix_shorter (x ∷ xs) [] log p q le = absurd (omega arith)
  prefix_shorter (x ∷ xs) (y ∷ ys) [] p q le = absurd (cc p.1)
  prefix_shorter (x ∷ xs) (y ∷ ys) (z ∷ log) p q le =
      let heads : x ≡ y = cc (p.1, q.1) in
      let rest = prefix_shorter xs ys log (p.0, cc p.1) (q.0, cc q.1) (omega arith) in
      (rest.0, cc (heads, rest.1))

  pub prefix-longer : (xs ys log : List I) → IsPrefix xs log → IsPrefix ys log → IsPrefix (longer xs ys) log
  prefix-longer xs ys log p q = elim (nat_lt (length xs) (length ys)) as (λ t. IsPrefix (if t then ys else xs) log) [ true ↦ q | false ↦ p ]

  length-longer : (xs ys : List I) → (length xs ≤ length (longer xs ys)) × (length ys ≤ length (longer xs ys))
  length-longer xs ys = elim (nat_lt (length xs) (length ys)) as (λ t. nat_lt (length xs) (length ys) ≡ t → (length xs ≤ length (if t then ys else xs)) × (length ys ≤ length (if t then ys else xs))) [
    | true ↦ λ less. let l : length xs < length ys = grind (arith, nat_tests) in (omega arith, omega arith)
    | false ↦ λ less. let l : length ys ≤ length xs = grind (arith, nat_tests) in (omega arith, omega arith)
  ] refl

  -- the longer of two prefixes of one list begins with both
  pub prefixes-longer : (xs ys log : List I) → IsPrefix xs log → IsPrefix ys log → IsPrefix xs (longer xs ys) × IsPrefix ys (longer xs ys)
  prefixes-longer xs ys log p q =
      let both = prefix-longer xs ys log p q in
      let fits = length-longer xs ys in
      (prefix_shorter xs (longer xs ys) log p both fits.0, prefix_shorter ys (longer xs ys) log q both fits.1)
