-- The table of names.
use Rattle.std.proofs.Common.{◌≡◌, Bool, true, false, cond, [], ◌∷◌, ◌++◌, refl, ap}
use Rattle.std.specs.Prelude.{Some, None}
use Rattle.indexmap.specs.IndexMap.{insert_entry}
use Rattle.hc_unfold.specs.Names.{Names, Key, Target, meaning, same_key}

-- a name that is not taken goes to the end
pub insert_new : (names : Names) (key : Key) (t : Target) → meaning names key ≡ None → insert_entry same_key names key t ≡ names ++ (key, t) ∷ []
insert_new [] key t e = refl
insert_new (n ∷ names) key t e = by (same_key key n.0) e (insert_new names key t)
  where
    by : (b : Bool) → cond b (Some n.1) (meaning names key) ≡ None → (meaning names key ≡ None → insert_entry same_key names key t ≡ names ++ (key, t) ∷ [])
        → cond b ((n.0, t) ∷ names) (n ∷ insert_entry same_key names key t) ≡ n ∷ (names ++ (key, t) ∷ [])
    by true e more = absurd cc
    by false e more = ap (λ l. n ∷ l) (more e)
