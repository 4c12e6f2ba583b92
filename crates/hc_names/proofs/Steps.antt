-- Names given call by call.
use Rattle.std.proofs.Common.{List, [], ◌∷◌, ◌++◌, subst, inl, inr}
use Rattle.hc_names.specs.Naming.{NameRow}
use Rattle.hc_names.specs.Steps.{NamesTo}

-- calls after calls
pub names_on : (xs ys : List NameRow) (a b c : List NameRow) → NamesTo a xs b → NamesTo b ys c → NamesTo a (xs ++ ys) c
names_on [] ys a b c one two = subst (λ (r : List NameRow). NamesTo r ys c) one two
names_on (x ∷ xs) ys a b c (inl (name, has, one)) two = inl (name, has, names_on xs ys a b c one two)
names_on (x ∷ xs) ys a b c (inr (name, none, mangled, one)) two = inr (name, none, mangled, names_on xs ys (a ++ (x.0, name) ∷ []) b c one two)
