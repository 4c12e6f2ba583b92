-- Names among those seen before.
use Rattle.std.proofs.Common.{◌≡◌, Bool, true, false, cond, ◌||◌, List, [], ◌∷◌, map, refl, sym, ◌∙◌, ap, Bor}
use Rattle.std.specs.List.{list_any}
use Rattle.std.proofs.lemmas.Cmp.{nat_list_eq_equiv}
use Rattle.hc_tokens.specs.Tokens.{same_bytes}
use Rattle.hc_lines.specs.Grammar.{Text}

-- the name is one of these
abbrev pub is_among : Text → List Text → Bool
is_among w ws = list_any (same_bytes w) ws

-- what a reference points to
abbrev pub text_at : Bor Text → Text
text_at r = r.now

abbrev pub has : List (Bor Text) → Text → Bool
has keys w = list_any (λ k. same_bytes w k.now) keys

same_bytes-symm : (v w : Text) → same_bytes v w ≡ same_bytes w v
same_bytes-symm v w = nat_list_eq_equiv.symm v w

pub has-among : (keys : List (Bor Text)) (w : Text) → has keys w ≡ is_among w (map text_at keys)
has-among [] w = refl
has-among (k ∷ keys) w = ap (λ b. same_bytes w k.now || b) (has-among keys w)

or-cond : (b c : Bool) → cond b true c ≡ (b || c)
or-cond true c = refl
or-cond false c = refl

-- the names after the one at i, against those seen and that one
pub seen_next : (names keys more : List (Bor Text)) (w : Bor Text) → ((q : Bor Text) → has more q.now ≡ cond (same_bytes w.now q.now) true (has keys q.now)) → (v : Text)
    → is_among v (w.now ∷ map text_at keys) ≡ is_among v (map text_at more)
seen_next names keys more w h v =
    ap (λ b. same_bytes v w.now || b) (sym (has-among keys v))
    ∙ ap (λ b. b || has keys v) (same_bytes-symm v w.now)
    ∙ sym (or-cond (same_bytes w.now v) (has keys v))
    ∙ sym (h (record { ref_ptr = w.ref_ptr; now = v }))
    ∙ has-among more v
